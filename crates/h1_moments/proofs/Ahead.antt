-- What comes next behind a state: an item, with a text that ends the message soon behind it.
use Rattle.std.proofs.Common.{◌≡◌, ◌<◌, ◌+◌, ◌⊎◌, ℕ, List, [], ◌∷◌, ◌++◌, length, map, All, refl, sym, ap, subst, ◌∙◌, inl, inr, append_assoc, append-nil, length-append, arith}
use Rattle.std.specs.List.{concat}
use Rattle.std.proofs.lemmas.List.Elements.{All-head, All-nil, All-cons}
use Rattle.bh_spec.specs.declared.Part.{Part}
use Rattle.bh_spec.specs.declared.Part.TheVariants as parts
use Rattle.bh_spec.specs.declared.Form.{Form}
use Rattle.bh_spec.specs.declared.Form.TheVariants.{Known, Indeterminate}
use Rattle.bh_spec.specs.declared.Kind.{Kind}
use Rattle.bh_spec.specs.declared.Kind.TheVariants.{Request, Response}
use Rattle.bh_spec.specs.declared.Omitted.{Omitted}
use Rattle.bh_spec.specs.declared.Omitted.TheVariants.{Nothing, Trailers, Both}
use Rattle.bh_spec.specs.declared.Width.TheVariants.{Eight}
use Rattle.bh_spec.specs.Bounds.{Bounds, IsWithin}
use Rattle.bh_spec.specs.Integers.{vi}
use Rattle.bh_spec.specs.Messages.{Field, Interim, IsInterim}
use Rattle.bh_spec.specs.Texts.{Text, mark, IsNumber, AreEach}
use Rattle.bh_spec.specs.Sections.{IsSection}
use Rattle.bh_spec.specs.Spelling.{IsInterimText}
use Rattle.bh_spec.specs.Yields.{Yields}
use Rattle.bh_spec.specs.Items.{Item, Head, of_request, of_response, head, content_byte, trailer_section, ending}
use Rattle.bh_spec.proofs.Sections.{number_nonempty}
use Rattle.bh_spec.proofs.Within.{no_lines, no_headers, within_less}
use Rattle.bh_model.specs.declared.field.Place.TheVariants.{Header, Trailer}
use Rattle.bh_fields.specs.Sections.{SectionOf}
use Rattle.bh_fields.specs.Middle.{SectionView, Rest as section_rest}
use Rattle.bh_control.specs.Control.{ControlOf}
use Rattle.bh_control.specs.Grammar.{Rest as control_rest}
use Rattle.bh_push.specs.Standing.{IsWhole, IsPrompt}
use Rattle.bh_push.specs.Decoders.{At, Rest, in_framing, in_control, in_status, before_interim, in_interim, before_header, in_header, behind_head, in_length, in_content, behind_content, in_trailers, in_padding, length_part}
use Rattle.bh_push.specs.Completing.{PaddingRest, TrailersRest, AfterContent, BodyRest, AfterRun, ContentRest, TailRest, HeaderRest, AfterStart, Opening, interim_item, ResponseRest, InterimRest, RequestRest, AfterFraming, MessageRest}

-- ---- texts that hold a byte of a section's lengths

abbrev IsLinePart : Part → Type 0
IsLinePart part = (part ≡ parts.SectionLength) ⊎ (part ≡ parts.NameLength)

abbrev pub HasLine : Text → Type 0
HasLine [] = ⊥
HasLine (c ∷ t) = IsLinePart c.0 ⊎ HasLine t

abbrev pub IsSome : Text → Type 0
IsSome t = 0 < length t

pub line_front : (a b : Text) → HasLine b → HasLine (a ++ b)
line_front [] b h = h
line_front (c ∷ a) b h = inr (line_front a b h)

pub some_front : (a b : Text) → IsSome b → IsSome (a ++ b)
some_front a b h = omega (arith, h, length-append a b)

pub line_some : (t : Text) → HasLine t → IsSome t
line_some [] h = absurd h
line_some (c ∷ t) h = omega arith

mark_line : (part : Part) (bytes : List ℕ) → IsLinePart part → 0 < length (mark part bytes) → HasLine (mark part bytes)
mark_line part [] l some = absurd (omega (arith, some))
mark_line part (b ∷ bytes) l some = inl l

number_line : (part : Part) (n : ℕ) (t : Text) → IsLinePart part → IsNumber part n t → HasLine t
number_line part n t l h =
    subst HasLine (sym h.spelled) (mark_line part (vi n h.width) l (subst (λ (x : Text). 0 < length x) h.spelled (number_nonempty part n t h)))

line_back : (a b : Text) → HasLine a → HasLine (a ++ b)
line_back [] b h = absurd h
line_back (c ∷ a) b (inl h) = inl h
line_back (c ∷ a) b (inr h) = inr (line_back a b h)

pub section_line : (L : Bounds) (form : Form) (fs : List Field) (t : Text) → IsSection L form fs t → HasLine t
section_line L Known fs t h =
    let p = h.2 in
    subst HasLine (sym p.4) (line_back p.0 p.1 (number_line parts.SectionLength (length h.0) p.0 (inl refl) p.2))
section_line L Indeterminate fs t h = subst HasLine (sym h.4) (line_front h.0 h.1 (number_line parts.NameLength 0 h.1 (inr refl) h.3))

-- A number that was begun has no such byte: a text that begins with it and has one goes on behind it.
pub behind_begun : (part : Part) (bytes : List ℕ) (t u w : Text) → (IsLinePart part → ⊥) → mark part bytes ++ t ≡ u ++ w → HasLine u
    → (v : Text) × (u ≡ mark part bytes ++ v) × (t ≡ v ++ w) × IsSome v
behind_begun part [] t u w n e h = (u, refl, e, line_some u h)
behind_begun part (b ∷ bytes) t [] w n e h = absurd h
behind_begun part (b ∷ bytes) t (c ∷ u) w n e h =
    let pair : (part, b) ≡ c = cc in
    let tail : mark part bytes ++ t ≡ u ++ w = cc in
    let r = behind_begun part bytes t u w n tail (later h (ap (λ (x : Part × ℕ). x.0) pair)) in
    (r.0, (λ i. (sym pair) i ∷ r.1 i), r.2, r.3)
  where
    later : IsLinePart c.0 ⊎ HasLine u → part ≡ c.0 → HasLine u
    later (inl l) same = absurd (n (subst IsLinePart (sym same) l))
    later (inr k) same = k

-- ---- what comes next

-- Of the text u, which R has, the next item comes; P holds of the text up to it. Behind it the message may end at once, or, behind an
-- interim response, with a final one in 16 bytes.
pub data Ahead (P : Text → Type 0) (R : List Item → Text → Type 0) (u : Text) : Type 0 where
  the_end : (o : Omitted) (z : ℕ) → R (ending o z ∷ []) u → Ahead P R u
  a_byte : (byte : ℕ) (q : List Item) → R (content_byte byte ∷ q) u → Ahead P R u
  a_trailer : (fields : List Field) (t w : Text) → u ≡ t ++ w → P t → R (trailer_section fields ∷ ending Nothing 0 ∷ []) t → Ahead P R u
  a_head : (of : Head) (fields : List Field) (t w : Text) → u ≡ t ++ w → P t → R (head of fields ∷ ending Both 0 ∷ []) t → Ahead P R u
  an_interim : (interim : Interim) (t w last : Text) → u ≡ t ++ w → P t → length last ≡ 16
      → R (interim_item interim ∷ head (of_response 200) [] ∷ ending Both 0 ∷ []) (t ++ last) → Ahead P R u

-- the same in other words
pub ahead_same : (P Q : Text → Type 0) (R S : List Item → Text → Type 0) (u : Text) → ((t : Text) → P t → Q t) → ((q : List Item) (t : Text) → R q t → S q t) → Ahead P R u → Ahead Q S u
ahead_same P Q R S u weaker to (the_end o z r) = the_end o z (to (ending o z ∷ []) u r)
ahead_same P Q R S u weaker to (a_byte byte q r) = a_byte byte q (to (content_byte byte ∷ q) u r)
ahead_same P Q R S u weaker to (a_trailer fields t w e p r) = a_trailer fields t w e (weaker t p) (to (trailer_section fields ∷ ending Nothing 0 ∷ []) t r)
ahead_same P Q R S u weaker to (a_head of fields t w e p r) = a_head of fields t w e (weaker t p) (to (head of fields ∷ ending Both 0 ∷ []) t r)
ahead_same P Q R S u weaker to (an_interim i t w last e p long r) =
    an_interim i t w last e (weaker t p) long (to (interim_item i ∷ head (of_response 200) [] ∷ ending Both 0 ∷ []) (t ++ last) r)

-- behind a text that yields nothing
pub ahead_behind : (P : Text → Type 0) (R S : List Item → Text → Type 0) (x u : Text) → ((t : Text) → P t → P (x ++ t)) → ((q : List Item) (t : Text) → S q t → R q (x ++ t)) → Ahead P S u
    → Ahead P R (x ++ u)
ahead_behind P R S x u more to (the_end o z r) = the_end o z (to (ending o z ∷ []) u r)
ahead_behind P R S x u more to (a_byte byte q r) = a_byte byte q (to (content_byte byte ∷ q) u r)
ahead_behind P R S x u more to (a_trailer fields t w e p r) =
    a_trailer fields (x ++ t) w (ap (λ (z : Text). x ++ z) e ∙ sym (append_assoc x t w)) (more t p) (to (trailer_section fields ∷ ending Nothing 0 ∷ []) t r)
ahead_behind P R S x u more to (a_head of fields t w e p r) =
    a_head of fields (x ++ t) w (ap (λ (z : Text). x ++ z) e ∙ sym (append_assoc x t w)) (more t p) (to (head of fields ∷ ending Both 0 ∷ []) t r)
ahead_behind P R S x u more to (an_interim i t w last e p long r) =
    let q = interim_item i ∷ head (of_response 200) [] ∷ ending Both 0 ∷ [] in
    an_interim i (x ++ t) w last (ap (λ (z : Text). x ++ z) e ∙ sym (append_assoc x t w)) (more t p) long
    (subst (R q) (sym (append_assoc x t last)) (to q (t ++ last) r))

-- behind the bytes of a number that was begun
pub ahead_begun : (R : List Item → Text → Type 0) (part : Part) (bytes : List ℕ) (u : Text) → (IsLinePart part → ⊥) → Ahead HasLine R (mark part bytes ++ u)
    → Ahead IsSome (λ q t. R q (mark part bytes ++ t)) u
ahead_begun R part bytes u n (the_end o z r) = the_end o z r
ahead_begun R part bytes u n (a_byte byte q r) = a_byte byte q r
ahead_begun R part bytes u n (a_trailer fields t w e p r) =
    let b = behind_begun part bytes u t w n e p in
    a_trailer fields b.0 w b.2 b.3 (subst (R (trailer_section fields ∷ ending Nothing 0 ∷ [])) b.1 r)
ahead_begun R part bytes u n (a_head of fields t w e p r) =
    let b = behind_begun part bytes u t w n e p in
    a_head of fields b.0 w b.2 b.3 (subst (R (head of fields ∷ ending Both 0 ∷ [])) b.1 r)
ahead_begun R part bytes u n (an_interim i t w last e p long r) =
    let b = behind_begun part bytes u t w n e p in
    let q = interim_item i ∷ head (of_response 200) [] ∷ ending Both 0 ∷ [] in
    an_interim i b.0 w last b.2 b.3 long
    (subst (R q) (ap (λ (z : Text). z ++ last) b.1 ∙ append_assoc (mark part bytes) b.0 last) r)

-- ---- from the end to the front

pub padding_ahead : (P : Text → Type 0) (before : ℕ) (q : List Item) (t : Text) → PaddingRest before q t → Ahead P (PaddingRest before) t
padding_ahead P before q t h = the_end Nothing (before + h.0) (h.0, refl, h.2)

pub trailers_ahead : (P : Text → Type 0) (A : List Field → Text → Type 0) (q : List Item) (t : Text) → ((fs : List Field) (u : Text) → A fs u → P u) → TrailersRest A q t → Ahead P (TrailersRest A) t
trailers_ahead P A q t has h = a_trailer h.thing h.text h.rest h.joined (has h.thing h.text h.spelled) (record {
  thing = h.thing;
  text = h.text;
  rest = [];
  more = ending Nothing 0 ∷ [];
  spelled = h.spelled;
  behind = (0, refl, refl);
  items = refl;
  joined = sym (append-nil h.text);
})

pub after_content_ahead : (L : Bounds) (form : Form) (q : List Item) (t : Text) → AfterContent L form q t → Ahead HasLine (AfterContent L form) t
after_content_ahead L form q t (inl h) = the_end Trailers 0 (inl (refl, h.1))
after_content_ahead L form q t (inr h) =
    ahead_same HasLine HasLine (TrailersRest (SectionOf L form Trailer)) (AfterContent L form) t (λ u p. p) (λ r u p. inr p)
    (trailers_ahead HasLine (SectionOf L form Trailer) q t (λ fs u p. section_line L form fs u p.0) h)

-- what yields content, and then more
yields_bytes : {I : Type 0} (A : I → Text → Type 0) (of : I → List ℕ) (S : List Item → Text → Type 0) (q : List Item) (t : Text)
    → ((r : List Item) (u : Text) → S r u → Ahead HasLine S u) → Yields A (λ i. map content_byte (of i)) (λ i. S) q t → Ahead HasLine (Yields A (λ i. map content_byte (of i)) (λ i. S)) t
yields_bytes {I} A of S q t ahead h = by_bytes (of h.thing) refl
  where
    all : List Item → Text → Type 0
    all = Yields A (λ i. map content_byte (of i)) (λ i. S)

    by_bytes : (bytes : List ℕ) → of h.thing ≡ bytes → Ahead HasLine all t
    by_bytes [] e =
        subst (Ahead HasLine all) (sym h.joined)
        (ahead_behind HasLine all S h.text h.rest (line_front h.text)
        (λ r u p. record { thing = h.thing; text = h.text; rest = u; more = r; spelled = h.spelled; behind = p; items = ap (λ (b : List ℕ). map content_byte b ++ r) (sym e); joined = refl })
        (ahead h.more h.rest h.behind))
    by_bytes (b ∷ bytes) e =
        a_byte b (map content_byte bytes ++ h.more) (subst (λ (r : List Item). all r t) (h.items ∙ ap (λ (x : List ℕ). map content_byte x ++ h.more) e) h)

pub body_ahead : (L : Bounds) (form : Form) (q : List Item) (t : Text) → BodyRest L form q t → Ahead HasLine (BodyRest L form) t
body_ahead L Known q t h = yields_bytes _ (λ content. content) (AfterContent L Known) q t (after_content_ahead L Known) h
body_ahead L Indeterminate q t h = yields_bytes _ (λ chunks. concat chunks) (AfterContent L Indeterminate) q t (after_content_ahead L Indeterminate) h

after_run_ahead : (L : Bounds) (form : Form) (q : List Item) (t : Text) → AfterRun L form q t → Ahead HasLine (AfterRun L form) t
after_run_ahead L Known q t h = after_content_ahead L Known q t h
after_run_ahead L Indeterminate q t h = body_ahead L Indeterminate q t h

pub content_ahead : (L : Bounds) (form : Form) (missing : ℕ) (q : List Item) (t : Text) → ContentRest L form missing q t → Ahead HasLine (ContentRest L form missing) t
content_ahead L form missing q t h = yields_bytes _ (λ bytes. bytes) (AfterRun L form) q t (after_run_ahead L form) h

pub tail_ahead : (L : Bounds) (form : Form) (q : List Item) (t : Text) → TailRest L form q t → Ahead HasLine (TailRest L form) t
tail_ahead L form q t (inl h) = the_end Both 0 (inl (refl, h.1))
tail_ahead L form q t (inr h) = ahead_same HasLine HasLine (BodyRest L form) (TailRest L form) t (λ u p. p) (λ r u p. inr p) (body_ahead L form q t h)

pub header_ahead : (P : Text → Type 0) (L : Bounds) (form : Form) (of : Head) (A : List Field → Text → Type 0) (q : List Item) (t : Text) → ((fs : List Field) (u : Text) → A fs u → P u)
    → HeaderRest L form of A q t → Ahead P (HeaderRest L form of A) t
header_ahead P L form of A q t has h = a_head of h.thing h.text h.rest h.joined (has h.thing h.text h.spelled) (record {
  thing = h.thing;
  text = h.text;
  rest = [];
  more = ending Both 0 ∷ [];
  spelled = h.spelled;
  behind = inl (refl, refl);
  items = refl;
  joined = sym (append-nil h.text);
})

pub after_start_ahead : (L : Bounds) (form : Form) (of : Head) (q : List Item) (t : Text) → AfterStart L form of q t → Ahead HasLine (AfterStart L form of) t
after_start_ahead L form of q t h = header_ahead HasLine L form of (SectionOf L form Header) q t (λ fs u p. section_line L form fs u p.0) h

-- ---- a final response in 16 bytes

abbrev pub last_status : Text
last_status = mark parts.Status (vi 200 Eight)

abbrev zero_of : Part → Text
zero_of part = mark part (vi 0 Eight)

abbrev pub last_section : Form → Text
last_section Known = zero_of parts.SectionLength
last_section Indeterminate = zero_of parts.NameLength

pub last_long : (form : Form) → length (last_status ++ last_section form) ≡ 16
last_long Known = refl
last_long Indeterminate = refl

status_is : IsNumber parts.Status 200 last_status
status_is = record { width = Eight; fits = omega arith; spelled = refl }

zero_is : (part : Part) → IsNumber part 0 (zero_of part)
zero_is part = record { width = Eight; fits = omega arith; spelled = refl }

section_is : (L : Bounds) (form : Form) → IsSection L form [] (last_section form)
section_is L Known = ([], no_lines L, (zero_of parts.SectionLength, [], zero_is parts.SectionLength, refl, refl))
section_is L Indeterminate = ([], zero_of parts.NameLength, no_lines L, zero_is parts.NameLength, refl)

abbrev pub last_items : List Item
last_items = head (of_response 200) [] ∷ ending Both 0 ∷ []

last_header : (L : Bounds) (form : Form) → AfterStart L form (of_response 200) last_items (last_section form)
last_header L form = record {
  thing = [];
  text = last_section form;
  rest = [];
  more = ending Both 0 ∷ [];
  spelled = (section_is L form, no_headers);
  behind = inl (refl, refl);
  items = refl;
  joined = sym (append-nil (last_section form));
}

-- ---- responses

interim_line : (L : Bounds) (form : Form) (i : Interim) (t : Text) → IsInterimText L form i t → HasLine t
interim_line L form i t h = subst HasLine (sym h.4) (line_front h.0 h.1 (section_line L form i.fields h.1 h.3))

-- a final status, with no interim response before it
pub last_response : (L : Bounds) (form : Form) (before : ℕ) → IsWithin L.interims before → ResponseRest L form before last_items (last_status ++ last_section form)
last_response L form before few = record {
  thing = ([], 200);
  text = last_status;
  rest = last_section form;
  more = last_items;
  spelled = record {
    each = All-nil IsInterim;
    final = record { low = omega arith; high = omega arith };
    few = within_less L.interims (before + 0) before (omega arith) few;
    spelled = ([], last_status, refl, status_is, refl);
  };
  behind = last_header L form;
  items = refl;
  joined = refl;
}

-- one interim response before it
one_response : (L : Bounds) (form : Form) (before : ℕ) (i : Interim) (t : Text) → IsInterim i → IsWithin L.interims (before + 1) → IsInterimText L form i t
    → ResponseRest L form before (interim_item i ∷ last_items) (t ++ (last_status ++ last_section form))
one_response L form before i t valid few h = record {
  thing = (i ∷ [], 200);
  text = t ++ last_status;
  rest = last_section form;
  more = last_items;
  spelled = record {
    each = All-cons IsInterim i [] valid (All-nil IsInterim);
    final = record { low = omega arith; high = omega arith };
    few = few;
    spelled = (t, last_status, (t, [], h, refl, sym (append-nil t)), status_is, refl);
  };
  behind = last_header L form;
  items = refl;
  joined = sym (append_assoc t last_status (last_section form));
}

pub response_ahead : (L : Bounds) (form : Form) (before : ℕ) (q : List Item) (t : Text) → ResponseRest L form before q t → Ahead HasLine (ResponseRest L form before) t
response_ahead L form before q t h = by_interims h.thing.0 refl h.spelled
  where
    by_interims : (is : List Interim) → h.thing.0 ≡ is → Opening L form before h.thing h.text → Ahead HasLine (ResponseRest L form before) t
    by_interims [] e o =
        subst (Ahead HasLine (ResponseRest L form before)) (sym h.joined)
        (ahead_behind HasLine (ResponseRest L form before) (AfterStart L form (of_response h.thing.1)) h.text h.rest (line_front h.text)
        (λ r u p. record {
          thing = h.thing;
          text = h.text;
          rest = u;
          more = r;
          spelled = o;
          behind = p;
          items = ap (λ (x : List Interim). map interim_item x ++ r) (sym e);
          joined = refl;
        })
        (after_start_ahead L form (of_response h.thing.1) h.more h.rest h.behind))
    by_interims (i ∷ is) e o =
        let s = o.spelled in
        let each = subst (λ (x : List Interim). AreEach (IsInterimText L form) x s.0) e s.2 in
        let valid : IsInterim i = All-head IsInterim i is (subst (All IsInterim) e o.each) in
        let few : IsWithin L.interims (before + 1) = within_less L.interims (before + 1) (before + length h.thing.0) (omega (arith, ap length e)) o.few in
        let joined : t ≡ each.0 ++ (each.1 ++ (s.1 ++ h.rest)) =
        h.joined ∙ ap (λ (z : Text). z ++ h.rest) (s.4 ∙ ap (λ (z : Text). z ++ s.1) each.4) ∙ append_assoc (each.0 ++ each.1) s.1 h.rest ∙ append_assoc each.0 each.1 (s.1 ++ h.rest) in
        an_interim i each.0 (each.1 ++ (s.1 ++ h.rest)) (last_status ++ last_section form) joined (interim_line L form i each.0 each.2) (last_long form) (one_response L form before i each.0 valid few each.2)

pub interim_ahead : (P : Text → Type 0) (L : Bounds) (form : Form) (before status : ℕ) (A : List Field → Text → Type 0) (q : List Item) (t : Text) → ((fs : List Field) (u : Text) → A fs u → P u)
    → InterimRest L form before status A q t → Ahead P (InterimRest L form before status A) t
interim_ahead P L form before status A q t has h =
    let few : IsWithin L.interims (before + 1) =
    within_less L.interims (before + 1) (before + 1 + length h.behind.thing.0) (omega arith) h.behind.spelled.few in
    an_interim (record { status = status; fields = h.thing }) h.text h.rest (last_status ++ last_section form) h.joined (has h.thing h.text h.spelled) (last_long form)
    (record {
      thing = h.thing;
      text = h.text;
      rest = last_status ++ last_section form;
      more = last_items;
      spelled = h.spelled;
      behind = last_response L form (before + 1) few;
      items = refl;
      joined = refl;
    })

-- ---- requests, and the whole

pub request_ahead : (L : Bounds) (form : Form) (A : _) (q : List Item) (t : Text) → RequestRest L form A q t → Ahead HasLine (RequestRest L form A) t
request_ahead L form A q t h =
    subst (Ahead HasLine (RequestRest L form A)) (sym h.joined)
    (ahead_behind HasLine (RequestRest L form A) (AfterStart L form (of_request h.thing)) h.text h.rest (line_front h.text)
    (λ r u p. record { thing = h.thing; text = h.text; rest = u; more = r; spelled = h.spelled; behind = p; items = refl; joined = refl })
    (after_start_ahead L form (of_request h.thing) h.more h.rest h.behind))

framed_ahead : (L : Bounds) (k : Kind × Form) (q : List Item) (t : Text) → AfterFraming L k q t → Ahead HasLine (AfterFraming L k) t
framed_ahead L (Request, form) q t h = request_ahead L form (ControlOf L) q t h
framed_ahead L (Response, form) q t h = response_ahead L form 0 q t h

pub message_ahead : (L : Bounds) (q : List Item) (t : Text) → MessageRest L q t → Ahead HasLine (MessageRest L) t
message_ahead L q t h =
    subst (Ahead HasLine (MessageRest L)) (sym h.joined)
    (ahead_behind HasLine (MessageRest L) (AfterFraming L h.thing) h.text h.rest (line_front h.text)
    (λ r u p. record { thing = h.thing; text = h.text; rest = u; more = r; spelled = h.spelled; behind = p; items = refl; joined = refl })
    (framed_ahead L h.thing h.more h.rest h.behind))

-- ---- from each state

line_part : (part : Part) → (part ≡ parts.SectionLength → ⊥) → (part ≡ parts.NameLength → ⊥) → IsLinePart part → ⊥
line_part part a b (inl e) = a e
line_part part a b (inr e) = b e

length_line : (form : Form) → IsLinePart (length_part form) → ⊥
length_line Known h = line_part parts.ContentLength (λ e. cc) (λ e. cc) h
length_line Indeterminate h = line_part parts.ChunkLength (λ e. cc) (λ e. cc) h

-- a section that isn't whole takes a byte at least
more_of : (L : Bounds) (v : SectionView) → (IsWhole L v → ⊥) → (fs : List Field) (u : Text) → section_rest L v fs u → IsSome u
more_of L v prompt fs [] h = absurd (prompt (fs, h))
more_of L v prompt fs (c ∷ u) h = omega arith

-- What comes next behind a prompt state takes a byte at least.
pub state_ahead : (L : Bounds) (w : At) (q : List Item) (t : Text) → IsPrompt L w → Rest L w q t → Ahead IsSome (Rest L w) t
state_ahead L (in_framing begun) q t prompt h =
    ahead_begun (MessageRest L) parts.Framing begun t (line_part parts.Framing (λ e. cc) (λ e. cc)) (message_ahead L q (mark parts.Framing begun ++ t) h)
state_ahead L (in_control form read) q t prompt h =
    ahead_same HasLine IsSome (Rest L (in_control form read)) (Rest L (in_control form read)) t line_some (λ r u p. p) (request_ahead L form (control_rest L read) q t h)
state_ahead L (in_status form before begun) q t prompt h =
    ahead_begun (ResponseRest L form before) parts.Status begun t (line_part parts.Status (λ e. cc) (λ e. cc)) (response_ahead L form before q (mark parts.Status begun ++ t) h)
state_ahead L (before_interim form before status) q t prompt h =
    interim_ahead IsSome L form before status (SectionOf L form Header) q t (λ fs u p. line_some u (section_line L form fs u p.0)) h
state_ahead L (in_interim form before status v) q t prompt h = interim_ahead IsSome L form before status (section_rest L v) q t (more_of L v prompt) h
state_ahead L (before_header form of) q t prompt h =
    ahead_same HasLine IsSome (AfterStart L form of) (AfterStart L form of) t line_some (λ r u p. p) (after_start_ahead L form of q t h)
state_ahead L (in_header form of v) q t prompt h = header_ahead IsSome L form of (section_rest L v) q t (more_of L v prompt) h
state_ahead L (behind_head form) q t prompt h =
    ahead_same HasLine IsSome (TailRest L form) (TailRest L form) t line_some (λ r u p. p) (tail_ahead L form q t h)
state_ahead L (in_length form begun) q t prompt h =
    ahead_begun (BodyRest L form) (length_part form) begun t (length_line form) (body_ahead L form q (mark (length_part form) begun ++ t) h)
state_ahead L (in_content form missing) q t prompt h =
    ahead_same HasLine IsSome (ContentRest L form missing) (ContentRest L form missing) t line_some (λ r u p. p) (content_ahead L form missing q t h)
state_ahead L (behind_content form) q t prompt h =
    ahead_same HasLine IsSome (AfterContent L form) (AfterContent L form) t line_some (λ r u p. p) (after_content_ahead L form q t h)
state_ahead L (in_trailers form v) q t prompt h = trailers_ahead IsSome (section_rest L v) q t (more_of L v prompt) h
state_ahead L (in_padding before) q t prompt h = padding_ahead IsSome before q t h
