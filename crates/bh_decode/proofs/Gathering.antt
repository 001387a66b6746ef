-- What is gathered, item by item.
use Rattle.std.proofs.Common.{◌≡◌, ◌<◌, ℕ, Option, Some, None, List, [], ◌∷◌, ◌++◌, length, map, option_map, refl, sym, ap, ap₂, subst, ◌∙◌, append-nil, arith}
use Rattle.std.specs.Option.{IfSome}
use Rattle.std.proofs.lemmas.List.{map-append, length-append, length-take}
use Rattle.std.proofs.lemmas.List.Elements.{All-push}
use Rattle.bh_spec.specs.Messages.{Field, Interim}
use Rattle.bh_spec.specs.Items.{Item, Head, interim_response, head, content_byte, trailer_section, ending}
use Rattle.bh_model.specs.Values.{control_of, interim_of, IsEnded, AreEnded}
use Rattle.bh_model.specs.declared.informational.Interim as held
use Rattle.bh_push.specs.Hands.{control_shown, status_shown}
use Rattle.bh_push.specs.Standing.{head_behind, EndsWith}
use Rattle.bh_model.specs.Lines.{FieldsView}
use Rattle.bh_decode.specs.declared.gathered.Gathered.{Gathered}
use Rattle.bh_decode.specs.Gathering.{interims_handed, header_handed, content_handed, trailers_handed, IsGathered, Adds}

-- ---- items behind items

pub interims_on : (q r : List Item) → interims_handed (q ++ r) ≡ interims_handed q ++ interims_handed r
interims_on [] r = refl
interims_on (interim_response status fields ∷ q) r = ap (λ (x : List Interim). record { status = status; fields = fields } ∷ x) (interims_on q r)
interims_on (head of fields ∷ q) r = interims_on q r
interims_on (content_byte x ∷ q) r = interims_on q r
interims_on (trailer_section fields ∷ q) r = interims_on q r
interims_on (ending omitted padding ∷ q) r = interims_on q r

pub head_on : (q r : List Item) (before : Option Head) → head_behind (q ++ r) before ≡ head_behind r (head_behind q before)
head_on [] r before = refl
head_on (interim_response status fields ∷ q) r before = head_on q r before
head_on (head of fields ∷ q) r before = head_on q r (Some of)
head_on (content_byte x ∷ q) r before = head_on q r before
head_on (trailer_section fields ∷ q) r before = head_on q r before
head_on (ending omitted padding ∷ q) r before = head_on q r before

pub header_on : (q r : List Item) (before : List Field) → header_handed (q ++ r) before ≡ header_handed r (header_handed q before)
header_on [] r before = refl
header_on (interim_response status fields ∷ q) r before = header_on q r before
header_on (head of fields ∷ q) r before = header_on q r fields
header_on (content_byte x ∷ q) r before = header_on q r before
header_on (trailer_section fields ∷ q) r before = header_on q r before
header_on (ending omitted padding ∷ q) r before = header_on q r before

pub content_on : (q r : List Item) → content_handed (q ++ r) ≡ content_handed q ++ content_handed r
content_on [] r = refl
content_on (interim_response status fields ∷ q) r = content_on q r
content_on (head of fields ∷ q) r = content_on q r
content_on (content_byte x ∷ q) r = ap (λ (y : List ℕ). x ∷ y) (content_on q r)
content_on (trailer_section fields ∷ q) r = content_on q r
content_on (ending omitted padding ∷ q) r = content_on q r

pub trailers_on : (q r : List Item) (before : List Field) → trailers_handed (q ++ r) before ≡ trailers_handed r (trailers_handed q before)
trailers_on [] r before = refl
trailers_on (interim_response status fields ∷ q) r before = trailers_on q r before
trailers_on (head of fields ∷ q) r before = trailers_on q r before
trailers_on (content_byte x ∷ q) r before = trailers_on q r before
trailers_on (trailer_section fields ∷ q) r before = trailers_on q r fields
trailers_on (ending omitted padding ∷ q) r before = trailers_on q r before

-- bytes of content are content alone
pub interims_in_content : (bytes : List ℕ) → interims_handed (map content_byte bytes) ≡ []
interims_in_content [] = refl
interims_in_content (b ∷ bytes) = interims_in_content bytes

pub head_in_content : (bytes : List ℕ) (before : Option Head) → head_behind (map content_byte bytes) before ≡ before
head_in_content [] before = refl
head_in_content (b ∷ bytes) before = head_in_content bytes before

pub header_in_content : (bytes : List ℕ) (before : List Field) → header_handed (map content_byte bytes) before ≡ before
header_in_content [] before = refl
header_in_content (b ∷ bytes) before = header_in_content bytes before

pub content_in_content : (bytes : List ℕ) → content_handed (map content_byte bytes) ≡ bytes
content_in_content [] = refl
content_in_content (b ∷ bytes) = ap (λ (x : List ℕ). b ∷ x) (content_in_content bytes)

pub trailers_in_content : (bytes : List ℕ) (before : List Field) → trailers_handed (map content_byte bytes) before ≡ before
trailers_in_content [] before = refl
trailers_in_content (b ∷ bytes) before = trailers_in_content bytes before

-- ---- what is added

pub adds_nothing : (g : Gathered) → Adds g [] g
adds_nothing g q s = subst (IsGathered g) (sym (append-nil q)) s

-- what stays
pub record Stays (g h : Gathered) : Type 0 where
  pub control : h.control ≡ g.control
  pub status : h.status ≡ g.status
  pub fields : h.fields ≡ g.fields

pub adds_interim : (g h : Gathered) (one : held.Interim) (status : ℕ) (fields : List Field) → h.interims ≡ g.interims ++ one ∷ [] → one.status ≡ status → one.fields.lines ≡ fields → IsEnded one.fields
    → Stays g h → h.content ≡ g.content → h.trailers ≡ g.trailers → Adds g (interim_response status fields ∷ []) h
adds_interim g h one status fields e a b ended k c t q s = record {
  interims = ap (map interim_of) e ∙ map-append interim_of g.interims (one ∷ [])
      ∙ ap₂ (λ (x y : List Interim). x ++ y) s.interims (ap₂ (λ (n : ℕ) (f : List Field). record { status = n; fields = f } ∷ []) a b)
      ∙ sym (interims_on q (interim_response status fields ∷ []));
  control = ap (option_map control_of) k.control ∙ s.control ∙ sym (ap control_shown (head_on q (interim_response status fields ∷ []) None));
  status = k.status ∙ s.status ∙ sym (ap status_shown (head_on q (interim_response status fields ∷ []) None));
  fields = ap (λ f. f.lines) k.fields ∙ s.fields ∙ sym (header_on q (interim_response status fields ∷ []) []);
  content = ap (λ v. v.items) c ∙ s.content ∙ sym (append-nil (content_handed q)) ∙ sym (content_on q (interim_response status fields ∷ []));
  trailers = ap (λ f. f.lines) t ∙ s.trailers ∙ sym (trailers_on q (interim_response status fields ∷ []) []);
  interims_ended = subst AreEnded (sym e) (All-push (λ (i : held.Interim). IsEnded i.fields) g.interims one s.interims_ended ended);
  fields_ended = ap (λ f. f.making) k.fields ∙ s.fields_ended;
  trailers_ended = ap (λ f. f.making) t ∙ s.trailers_ended;
}

pub adds_head : (g h : Gathered) (of : Head) (fields : List Field) → option_map control_of h.control ≡ control_shown (Some of) → h.status ≡ status_shown (Some of) → h.fields.lines ≡ fields
    → IsEnded h.fields → h.interims ≡ g.interims → h.content ≡ g.content → h.trailers ≡ g.trailers → Adds g (head of fields ∷ []) h
adds_head g h of fields a b f ended e c t q s = record {
  interims = ap (map interim_of) e ∙ s.interims ∙ sym (append-nil (interims_handed q)) ∙ sym (interims_on q (head of fields ∷ []));
  control = a ∙ sym (ap control_shown (head_on q (head of fields ∷ []) None));
  status = b ∙ sym (ap status_shown (head_on q (head of fields ∷ []) None));
  fields = f ∙ sym (header_on q (head of fields ∷ []) []);
  content = ap (λ v. v.items) c ∙ s.content ∙ sym (append-nil (content_handed q)) ∙ sym (content_on q (head of fields ∷ []));
  trailers = ap (λ x. x.lines) t ∙ s.trailers ∙ sym (trailers_on q (head of fields ∷ []) []);
  interims_ended = subst AreEnded (sym e) s.interims_ended;
  fields_ended = ended;
  trailers_ended = ap (λ x. x.making) t ∙ s.trailers_ended;
}

pub adds_content : (g h : Gathered) (bytes : List ℕ) → h.content.items ≡ g.content.items ++ bytes → h.interims ≡ g.interims → Stays g h → h.trailers ≡ g.trailers
    → Adds g (map content_byte bytes) h
adds_content g h bytes c e k t q s =
    let r : List Item = map content_byte bytes in
    record {
      interims = ap (map interim_of) e ∙ s.interims ∙ sym (append-nil (interims_handed q)) ∙ ap (λ (x : List Interim). interims_handed q ++ x) (sym (interims_in_content bytes)) ∙ sym (interims_on q r);
      control = ap (option_map control_of) k.control ∙ s.control ∙ sym (ap control_shown (head_on q r None ∙ head_in_content bytes (head_behind q None)));
      status = k.status ∙ s.status ∙ sym (ap status_shown (head_on q r None ∙ head_in_content bytes (head_behind q None)));
      fields = ap (λ f. f.lines) k.fields ∙ s.fields ∙ sym (header_on q r [] ∙ header_in_content bytes (header_handed q []));
      content = c ∙ ap (λ (x : List ℕ). x ++ bytes) s.content ∙ ap (λ (x : List ℕ). content_handed q ++ x) (sym (content_in_content bytes)) ∙ sym (content_on q r);
      trailers = ap (λ f. f.lines) t ∙ s.trailers ∙ sym (trailers_on q r [] ∙ trailers_in_content bytes (trailers_handed q []));
      interims_ended = subst AreEnded (sym e) s.interims_ended;
      fields_ended = ap (λ f. f.making) k.fields ∙ s.fields_ended;
      trailers_ended = ap (λ f. f.making) t ∙ s.trailers_ended;
    }

pub adds_trailers : (g h : Gathered) (fields : List Field) → h.trailers.lines ≡ fields → IsEnded h.trailers → h.interims ≡ g.interims → Stays g h → h.content ≡ g.content
    → Adds g (trailer_section fields ∷ []) h
adds_trailers g h fields a ended e k c q s = record {
  interims = ap (map interim_of) e ∙ s.interims ∙ sym (append-nil (interims_handed q)) ∙ sym (interims_on q (trailer_section fields ∷ []));
  control = ap (option_map control_of) k.control ∙ s.control ∙ sym (ap control_shown (head_on q (trailer_section fields ∷ []) None));
  status = k.status ∙ s.status ∙ sym (ap status_shown (head_on q (trailer_section fields ∷ []) None));
  fields = ap (λ f. f.lines) k.fields ∙ s.fields ∙ sym (header_on q (trailer_section fields ∷ []) []);
  content = ap (λ v. v.items) c ∙ s.content ∙ sym (append-nil (content_handed q)) ∙ sym (content_on q (trailer_section fields ∷ []));
  trailers = a ∙ sym (trailers_on q (trailer_section fields ∷ []) []);
  interims_ended = subst AreEnded (sym e) s.interims_ended;
  fields_ended = ap (λ f. f.making) k.fields ∙ s.fields_ended;
  trailers_ended = ended;
}

-- the lines that are shown
pub shown_lines : (lines : Option (List Field)) (found fields : List Field) → lines ≡ Some fields → IfSome lines (λ x. found ≡ x) → found ≡ fields
shown_lines lines found fields e h = subst (λ (o : Option (List Field)). IfSome o (λ x. found ≡ x)) e h

pub shown_ended : (lines : Option (List Field)) (v : FieldsView) (fields : List Field) → lines ≡ Some fields → IfSome lines (λ x. v.making ≡ None) → IsEnded v
shown_ended lines v fields e h = subst (λ (o : Option (List Field)). IfSome o (λ x. v.making ≡ None)) e h

-- bytes that end with some are some
pub ends_some : (piece bytes : List ℕ) (taken : ℕ) → EndsWith piece taken bytes → 0 < taken
ends_some piece bytes taken h = omega (arith, h.some, ap length h.ends, length-append h.front bytes, length-take taken piece)
