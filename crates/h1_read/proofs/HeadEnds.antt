-- Behind a whole head: of an informational response, or of the message.
use Rattle.std.proofs.Common.{◌≡◌, ◌<◌, ◌≤◌, ◌+◌, arith, ℕ, zero, suc, Bool, false, List, [], ◌∷◌, ◌++◌, length, take, drop, refl, sym, ap, subst, ◌∙◌, append_assoc, inl, inr}
use Rattle.std.proofs.lemmas.List.{append_cancel_right, length-append}
use Rattle.std.proofs.lemmas.List.Elements.{All-nil, All-cons, All-tail}
use Rattle.std.proofs.Math.Seq.{take-append_seam}
use Rattle.bh_spec.specs.declared.H1Why.{H1Why}
use Rattle.bh_spec.specs.declared.H1Why.TheVariants as why
use Rattle.bh_spec.specs.Bounds.{Bounds, IsWithin}
use Rattle.bh_spec.specs.Messages.{Field, Control, Interim, Start, request, response}
use Rattle.bh_spec.specs.Canonical.{FieldsFit, StartFits}
use Rattle.bh_spec.specs.Texts.{Text, bytes_of, ◌then◌, AreEach}
use Rattle.bh_spec.specs.Items.{Item, interim_response, head, Head as Said, of_request, of_response, start_items}
use Rattle.bh_spec.specs.Residuals.{HasRest}
use Rattle.bh_spec.proofs.Within.{within_less}
use Rattle.h1_spec.specs.declared.Scheme1.{Scheme1}
use Rattle.h1_spec.specs.declared.Framing1.{Framing1}
use Rattle.h1_spec.specs.Heads.{StartLine, request_line, status_line, Head}
use Rattle.h1_spec.specs.Cleaning.{hops, clean, says_host}
use Rattle.h1_spec.specs.Framing.{framing}
use Rattle.h1_spec.specs.Http1.{IsHeadWithin, IsInterimHead, interims_of, IsStartOf, start_of}
use Rattle.h1_spec.specs.Marks.{as_framing}
use Rattle.h1_spec.specs.Causes.{◌when◌else◌}
use Rattle.h1_spec.specs.BodyStates.{start as body_start, OfRest}
use Rattle.h1_spec.specs.BodyCauses.{OfBody}
use Rattle.h1_spec.specs.Translation.{OfEnd, IsNextStart, OfFraming, OfStart, OfWholeHead, OfHead}
use Rattle.h1_spec.proofs.HeadTexts.{head_front}
use Rattle.h1_spec.proofs.Reading.{interim_front, interim_apart, start_is_last, start_once}
use Rattle.h1_spec.proofs.Ends.{head_ends}
use Rattle.h1_spec.proofs.Causes.{drop_seam}
use Rattle.h1_spec.proofs.BodyMarks.{framing_bytes}
use Rattle.h1_spec.proofs.BodyStarts.{starts_causes}
use Rattle.h1_read.specs.Places.{Setting, in_head, in_body, BodyRest, IsNextOf, HeadRest}
use Rattle.h1_read.specs.Wrong.{OfHeads}
use Rattle.h1_read.specs.Readings.{Goes}
use Rattle.h1_read.specs.HeadJudges.{JudgeView, IsFinal}
use Rattle.h1_read.specs.Readers.{setting_in}
use Rattle.h1_read.proofs.HeadParts.{heads_bytes, nil_front, first_part, framing_split}
use Rattle.h1_read.proofs.HeadSteps.{dummies, many_dummies, of_next}
use Rattle.h1_read.proofs.Counts.{interim_counts, final_counts}

-- ---- of the heads before the next one only the number counts

next_alike : (a b : List Interim) (start : StartLine) → length a ≡ length b → IsNextStart a start → IsNextStart b start
next_alike a [] start e h = tt
next_alike [] (j ∷ b) start e h = absurd (omega (arith, e))
next_alike (i ∷ a) (j ∷ b) start e h = h

start_alike : (L : Bounds) (scheme : Scheme1) (to_head : Bool) (a b : List Interim) (h : Head) (rest : List ℕ) (start : StartLine) (c : H1Why) → length a ≡ length b
    → OfStart L scheme to_head a h rest start c → OfStart L scheme to_head b h rest start c
start_alike L scheme to_head a b h rest (request_line method target) c e says = says
start_alike L scheme to_head a b h rest (status_line status) c e says =
    subst (λ (k : ℕ). (why.Switching when (status ≡ 101)
    else why.Interims when ((status ≤ 199) × (IsWithin L.interims (k + 1) → ⊥))
    else why.HeadLimit when (FieldsFit L (clean (hops h.fields) false h.fields) → ⊥)
    else λ cause. (200 ≤ status) × OfFraming L to_head h rest cause) c) e says

whole_alike : (L : Bounds) (scheme : Scheme1) (to_head : Bool) (a b : List Interim) (x r : List ℕ) (c : H1Why) → length a ≡ length b
    → OfWholeHead L scheme to_head a x r c → OfWholeHead L scheme to_head b x r c
whole_alike L scheme to_head a b x r c e (inl h) = inl (λ k is next. h.0 k is (next_alike b a k.start (sym e) next), h.1)
whole_alike L scheme to_head a b x r c e (inr h) =
    let p = h.1 in
    inr (
      λ none. h.0 (λ k is next. none k is (next_alike a b k.start e next)),
      (p.0, p.1, next_alike a b p.0.start e p.2, start_alike L scheme to_head a b p.0 r p.0.start c e p.3),
    )

pub heads_alike : (L : Bounds) (scheme : Scheme1) (to_head : Bool) (a b : List Interim) (bytes : List ℕ) (c : H1Why) → length a ≡ length b
    → OfHead L scheme to_head a bytes c → OfHead L scheme to_head b bytes c
heads_alike L scheme to_head a b bytes c e (inl h) = inl h
heads_alike L scheme to_head a b bytes c e (inr (inl h)) = inr (inl h)
heads_alike L scheme to_head a b bytes c e (inr (inr f)) = inr (inr (record {
  many = f.many;
  ends = f.ends;
  within = f.within;
  says = whole_alike L scheme to_head a b (take f.many bytes) (drop f.many bytes) c e f.says;
}))

-- ---- an informational response

is_response : (start : Start) (i : Interim) (is : List Interim) → interims_of start ≡ i ∷ is → (status : ℕ) × (start ≡ response (i ∷ is) status)
is_response (request control) i is e = absurd (cc)
is_response (response js status) i is e = (status, ap (λ (z : List Interim). response z status) e)

pub next_response : (n : ℕ) (is : List Interim) (status : ℕ) → IsNextOf n (response is status)
next_response zero is status = tt
next_response (suc n) is status = (is, status, refl)

-- what two ways to cut bytes at the same place say of the fronts
same_fronts : (x more heads w b : List ℕ) → x ++ more ≡ heads ++ b → more ≡ w ++ b → heads ≡ x ++ w
same_fronts x more heads w b e f = append_cancel_right heads (x ++ w) b (sym e ∙ ap (λ (z : List ℕ). x ++ z) f ∙ sym (append_assoc x w b))

module _ (S : Setting) (n : ℕ) (seen x : List ℕ) (i : Interim) (read : IsInterimHead S.limits i (seen ++ x)) where
  abbrev Rests : List Item → Text → Type 0
  Rests q u = HasRest (λ (p : List Item). interim_response i.status i.fields ∷ p) (HeadRest S (suc n) []) (as_framing x) q u

  -- the rest of a message whose first interim response this is
  shorter : (q : List Item) (u : Text) (h : HeadRest S n seen q u) (j : Interim) (js : List Interim) (y z : List ℕ) → interims_of h.start ≡ j ∷ js → i ≡ j → h.heads ≡ x ++ (y ++ z)
      → AreEach (IsInterimHead S.limits) js y → IsHeadWithin S.limits h.head z → Rests q u
  shorter q u h j js y z f same cut each final =
      let r = is_response h.start j js f in
      let fits : StartFits S.limits (response (j ∷ js) r.0) = subst (StartFits S.limits) r.1 h.start_fits in
      record {
        thing = start_items (response js r.0) (clean (hops h.head.fields) false h.head.fields) ++ h.behind;
        rest = as_framing (y ++ z) ++ h.body;
        spelled = record {
          start = response js r.0;
          head = h.head;
          heads = y ++ z;
          body = h.body;
          behind = h.behind;
          text = (y, z, each, final, refl);
          says = subst (IsStartOf S.scheme h.head) r.1 h.says;
          next = (js, r.0, refl);
          few = subst (IsWithin S.limits.interims) (omega (arith, ap (length {A = Interim}) f)) h.few;
          coded = h.coded;
          counted = h.counted;
          start_fits = (within_less S.limits.interims (length js) (length (j ∷ js)) (omega arith) fits.0, All-tail (λ (k : Interim). FieldsFit S.limits k.fields) j js fits.1);
          fields_fit = subst (λ (a : Start). FieldsFit S.limits (clean (hops h.head.fields) (says_host a) h.head.fields)) r.1 h.fields_fit;
          tail = h.tail;
          items_are = refl;
          text_is = refl;
        };
        same = h.items_are ∙ ap (λ (a : Start). start_items a (clean (hops h.head.fields) (says_host a) h.head.fields) ++ h.behind) r.1
            ∙ ap (λ (k : Interim). interim_response k.status k.fields ∷ (start_items (response js r.0) (clean (hops h.head.fields) false h.head.fields) ++ h.behind)) (sym same);
        joined = h.text_is ∙ ap (λ (l : List ℕ). as_framing l ++ h.body) cut ∙ framing_split x (y ++ z) h.body;
      }

  interim_forth : (q : List Item) (u : Text) (more : List ℕ) → HeadRest S n seen q u → bytes_of u ≡ x ++ more → Rests q u
  interim_forth q u more h e = at (interims_of h.start) refl h.text
    where
      b : List ℕ
      b = bytes_of h.body

      joined : x ++ more ≡ h.heads ++ bytes_of h.body
      joined = sym e ∙ heads_bytes h.heads h.body u h.text_is

      all : (seen ++ x) ++ more ≡ (seen ++ h.heads) ++ bytes_of h.body
      all = append_assoc seen x more ∙ ap (λ (z : List ℕ). seen ++ z) joined ∙ sym (append_assoc seen h.heads (bytes_of h.body))

      at : (is : List Interim) → interims_of h.start ≡ is → (AreEach (IsInterimHead S.limits) is then IsHeadWithin S.limits h.head) (seen ++ h.heads) → Rests q u
      at [] f t =
          absurd (interim_apart S.limits S.limits i h.head (start_is_last S.scheme h.head h.start h.says) (seen ++ x) t.1 more (bytes_of h.body) read t.3
          (all ∙ ap (λ (z : List ℕ). z ++ bytes_of h.body) (sym (nil_front (seen ++ h.heads) t.0 t.1 t.2 t.4))))
      at (j ∷ js) f t =
          let p = t.2 in
          let both = interim_front S.limits S.limits i j (seen ++ x) p.0 more ((p.1 ++ t.1) ++ bytes_of h.body) read p.2
          (all ∙ ap (λ (z : List ℕ). z ++ bytes_of h.body) (first_part (seen ++ h.heads) t.0 t.1 p.0 p.1 t.4 p.4) ∙ append_assoc p.0 (p.1 ++ t.1) (bytes_of h.body)) in
          shorter q u h j js p.1 t.1 f both.0 (same_fronts x more h.heads (p.1 ++ t.1) (bytes_of h.body) joined both.1) p.3 t.3

  interim_back : (q : List Item) (t : Text) → HeadRest S (suc n) [] q t → HeadRest S n seen (interim_response i.status i.fields ∷ q) (as_framing x ++ t)
  interim_back q t h =
      let r = h.next in
      let text = subst (λ (a : Start). (AreEach (IsInterimHead S.limits) (interims_of a) then IsHeadWithin S.limits h.head) h.heads) r.2 h.text in
      let fits : StartFits S.limits (response r.0 r.1) = subst (StartFits S.limits) r.2 h.start_fits in
      let few : IsWithin S.limits.interims (suc n + length r.0) = subst (λ (a : Start). IsWithin S.limits.interims (suc n + length (interims_of a))) r.2 h.few in
      record {
        start = response (i ∷ r.0) r.1;
        head = h.head;
        heads = x ++ h.heads;
        body = h.body;
        behind = h.behind;
        text = (
          (seen ++ x) ++ text.0,
          text.1,
          (seen ++ x, text.0, read, text.2, refl),
          text.3,
          sym (append_assoc seen x h.heads) ∙ ap (λ (z : List ℕ). (seen ++ x) ++ z) text.4 ∙ sym (append_assoc (seen ++ x) text.0 text.1),
        );
        says = subst (IsStartOf S.scheme h.head) r.2 h.says;
        next = next_response n (i ∷ r.0) r.1;
        few = within_less S.limits.interims (n + length (i ∷ r.0)) (suc n + length r.0) (omega arith) few;
        coded = h.coded;
        counted = h.counted;
        start_fits = (within_less S.limits.interims (length (i ∷ r.0)) (suc n + length r.0) (omega arith) few, All-cons (λ (k : Interim). FieldsFit S.limits k.fields) i r.0 read.fits fits.1);
        fields_fit = subst (λ (a : Start). FieldsFit S.limits (clean (hops h.head.fields) (says_host a) h.head.fields)) r.2 h.fields_fit;
        tail = h.tail;
        items_are = ap (λ (p : List Item). interim_response i.status i.fields ∷ p)
            (h.items_are ∙ ap (λ (a : Start). start_items a (clean (hops h.head.fields) (says_host a) h.head.fields) ++ h.behind) r.2);
        text_is = ap (λ (z : Text). as_framing x ++ z) h.text_is ∙ sym (framing_split x h.heads h.body);
      }

  interim_causes : (more : List ℕ) (c : H1Why) → OfHeads S (suc n) more c → OfHeads S n (seen ++ (x ++ more)) c
  interim_causes more c h =
      let t = h.text in
      record {
        earlier = dummies n;
        many = many_dummies n;
        interims = i ∷ h.interims;
        few = within_less S.limits.interims (n + length (i ∷ h.interims)) (suc n + length h.interims) (omega arith) h.few;
        text = (
          (seen ++ x) ++ t.0,
          t.1,
          (seen ++ x, t.0, read, t.2, refl),
          heads_alike S.limits S.scheme S.to_head (h.earlier ++ h.interims) (dummies n ++ (i ∷ h.interims)) t.1 c
              (omega (arith, h.many, many_dummies n, length-append h.earlier h.interims, length-append (dummies n) (i ∷ h.interims))) t.3,
          sym (append_assoc seen x more) ∙ ap (λ (z : List ℕ). (seen ++ x) ++ z) t.4 ∙ sym (append_assoc (seen ++ x) t.0 t.1),
        );
      }

  pub interim_goes : Goes S (in_head n seen) x (interim_response i.status i.fields ∷ []) (in_head (n + 1) [])
  interim_goes = subst (λ (k : ℕ). Goes S (in_head n seen) x (interim_response i.status i.fields ∷ []) (in_head k [])) (omega arith) (record {
    residual = record { text = as_framing x; same = framing_bytes x; forth = interim_forth; back = interim_back };
    wrong = interim_causes;
    counts = interim_counts S.limits S.to_head n seen x (interim_response i.status i.fields ∷ []) i (suc n) read;
  })

-- ---- the head of the message

no_interims : (of : Said) → interims_of (start_of of) ≡ []
no_interims (of_request control) = refl
no_interims (of_response status) = refl

one_item : (of : Said) (fields : List Field) → start_items (start_of of) fields ≡ head of fields ∷ []
one_item (of_request control) fields = refl
one_item (of_response status) fields = refl

next_of : (n : ℕ) (of : Said) → (0 < n → (status : ℕ) × (of ≡ of_response status)) → IsNextOf n (start_of of)
next_of zero of h = tt
next_of (suc n) of h = let r = h (omega arith) in ([], r.0, ap start_of r.1)

start_fits_of : (L : Bounds) (of : Said) → IsWithin L.interims 0 → ((c : Control) → of ≡ of_request c → StartFits L (request c)) → StartFits L (start_of of)
start_fits_of L (of_request control) none h = h control refl
start_fits_of L (of_response status) none h = (none, All-nil _)

-- a head without a fault: what is wrong stands behind it
start_passes : (L : Bounds) (scheme : Scheme1) (to_head : Bool) (before : List Interim) (h : Head) (of : Said) (rest : List ℕ) (c : H1Why) → IsStartOf scheme h (start_of of)
    → StartFits L (start_of of) → FieldsFit L (clean (hops h.fields) (says_host (start_of of)) h.fields) → OfFraming L to_head h rest c → OfStart L scheme to_head before h rest h.start c
start_passes L scheme to_head before h (of_request control) rest c s fits fit says =
    subst (λ (line : StartLine). OfStart L scheme to_head before h rest line c) (sym s.1)
    (inr (s.3, inr (λ none. none control s.2, (control, s.2, inr (λ n. n s.4, inr (λ n. n (fits, fit), says))))))
start_passes L scheme to_head before h (of_response status) rest c s fits fit says =
    subst (λ (line : StartLine). OfStart L scheme to_head before h rest line c) (sym s.0)
    (inr (λ e. omega (arith, e, s.1), inr (λ p. omega (arith, p.0, s.1), inr (λ n. n fit, (s.1, says)))))

next_start : (before : List Interim) (scheme : Scheme1) (h : Head) (of : Said) → IsStartOf scheme h (start_of of) → (0 < length before → (status : ℕ) × (of ≡ of_response status))
    → IsNextStart before h.start
next_start [] scheme h of s later = tt
next_start (i ∷ before) scheme h of s later =
    let r = later (omega arith) in
    (r.0, (subst (λ (o : Said). IsStartOf scheme h (start_of o)) r.1 s).0)

module _ (v w : JudgeView) (n : ℕ) (seen x : List ℕ) (body : Framing1) (read : IsFinal v (seen ++ x) n body w) (few : IsWithin v.limits.interims n) where
  fits : StartFits v.limits (start_of read.says.of)
  fits = start_fits_of v.limits read.says.of (within_less v.limits.interims 0 n (omega arith) few) (λ c e. read.says.control c e)

  lines_fit : FieldsFit v.limits (clean (hops read.head.fields) (says_host (start_of read.says.of)) read.head.fields)
  lines_fit = subst (FieldsFit v.limits) read.says.lines read.says.fits

  abbrev Body : List Item → Text → Type 0
  Body q t = BodyRest v.limits w.named (body_start body) q t

  -- the body is that of the head
  body_there : (q : List Item) (t : Text) → Body q t → BodyRest v.limits (hops read.head.fields) (body_start (framing v.to_head read.head)) q t
  body_there q t h =
      subst (λ (f : Framing1). BodyRest v.limits (hops read.head.fields) (body_start f) q t) read.says.body_is
      (subst (λ (named : List (List ℕ)). BodyRest v.limits named (body_start body) q t) read.says.named h)

  body_here : (q : List Item) (t : Text) → BodyRest v.limits (hops read.head.fields) (body_start (framing v.to_head read.head)) q t → Body q t
  body_here q t h =
      subst (λ (named : List (List ℕ)). BodyRest v.limits named (body_start body) q t) (sym read.says.named)
      (subst (λ (f : Framing1). BodyRest v.limits (hops read.head.fields) (body_start f) q t) (sym read.says.body_is) h)

  final_back : (q : List Item) (t : Text) → Body q t → HeadRest (setting_in v) n seen (head read.says.of w.lines ∷ q) (as_framing x ++ t)
  final_back q t h = record {
    start = start_of read.says.of;
    head = read.head;
    heads = x;
    body = t;
    behind = q;
    text = subst (λ (is : List Interim). (AreEach (IsInterimHead v.limits) is then IsHeadWithin v.limits read.head) (seen ++ x)) (sym (no_interims read.says.of))
        ([], seen ++ x, refl, read.text, refl);
    says = read.says.start;
    next = next_of n read.says.of read.later;
    few = subst (IsWithin v.limits.interims) (omega (arith, ap (length {A = Interim}) (no_interims read.says.of))) few;
    coded = read.says.coded;
    counted = read.says.counted;
    start_fits = fits;
    fields_fit = lines_fit;
    tail = body_there q t h;
    items_are = ap (λ (ls : List Field). head read.says.of ls ∷ q) read.says.lines
        ∙ ap (λ (p : List Item). p ++ q) (sym (one_item read.says.of (clean (hops read.head.fields) (says_host (start_of read.says.of)) read.head.fields)));
    text_is = refl;
  }

  final_forth : (q : List Item) (u : Text) (more : List ℕ) → HeadRest (setting_in v) n seen q u → bytes_of u ≡ x ++ more
      → HasRest (λ (p : List Item). head read.says.of w.lines ∷ p) Body (as_framing x) q u
  final_forth q u more h e = at (interims_of h.start) refl h.text
    where
      joined : x ++ more ≡ h.heads ++ bytes_of h.body
      joined = sym e ∙ heads_bytes h.heads h.body u h.text_is

      all : (seen ++ x) ++ more ≡ (seen ++ h.heads) ++ bytes_of h.body
      all = append_assoc seen x more ∙ ap (λ (z : List ℕ). seen ++ z) joined ∙ sym (append_assoc seen h.heads (bytes_of h.body))

      at : (is : List Interim) → interims_of h.start ≡ is → (AreEach (IsInterimHead v.limits) is then IsHeadWithin v.limits h.head) (seen ++ h.heads)
          → HasRest (λ (p : List Item). head read.says.of w.lines ∷ p) Body (as_framing x) q u
      at [] f t =
          let whole : t.1 ≡ seen ++ h.heads = nil_front (seen ++ h.heads) t.0 t.1 t.2 t.4 in
          let both = head_front read.head h.head (seen ++ x) t.1 more (bytes_of h.body) read.text.1 t.3.1 (all ∙ ap (λ (z : List ℕ). z ++ bytes_of h.body) (sym whole)) in
          let same : start_of read.says.of ≡ h.start = start_once v.scheme read.head h.head (start_of read.says.of) h.start both.0 (no_interims read.says.of ∙ sym f) read.says.start h.says in
          let cut : h.heads ≡ x = append_cancel_right h.heads x (bytes_of h.body) (sym joined ∙ ap (λ (z : List ℕ). x ++ z) both.1) in
          record {
            thing = h.behind;
            rest = h.body;
            spelled = body_here h.behind h.body (subst (λ (k : Head). BodyRest v.limits (hops k.fields) (body_start (framing v.to_head k)) h.behind h.body) (sym both.0) h.tail);
            same = h.items_are ∙ ap (λ (k : Head). start_items h.start (clean (hops k.fields) (says_host h.start) k.fields) ++ h.behind) (sym both.0)
                ∙ ap (λ (a : Start). start_items a (clean (hops read.head.fields) (says_host a) read.head.fields) ++ h.behind) (sym same)
                ∙ ap (λ (p : List Item). p ++ h.behind) (one_item read.says.of (clean (hops read.head.fields) (says_host (start_of read.says.of)) read.head.fields))
                ∙ ap (λ (ls : List Field). head read.says.of ls ∷ h.behind) (sym read.says.lines);
            joined = h.text_is ∙ ap (λ (l : List ℕ). as_framing l ++ h.body) cut;
          }
      at (j ∷ js) f t =
          let p = t.2 in
          absurd (interim_apart v.limits v.limits j read.head (start_is_last v.scheme read.head (start_of read.says.of) read.says.start) p.0 (seen ++ x) (p.1 ++ (t.1 ++ bytes_of h.body)) more p.2 read.text
          (sym (all ∙ ap (λ (z : List ℕ). z ++ bytes_of h.body) (first_part (seen ++ h.heads) t.0 t.1 p.0 p.1 t.4 p.4) ∙ append_assoc p.0 (p.1 ++ t.1) (bytes_of h.body)
          ∙ ap (λ (z : List ℕ). p.0 ++ z) (append_assoc p.1 t.1 (bytes_of h.body)))))

  final_causes : (more : List ℕ) (c : H1Why) → OfRest v.limits (OfEnd v.limits w.named) (body_start body) more c → OfHeads (setting_in v) n (seen ++ (x ++ more)) c
  final_causes more c h =
      let own : OfBody v.limits body (OfEnd v.limits w.named) more c = starts_causes v.limits body (OfEnd v.limits w.named) more c h in
      let says : OfBody v.limits (framing v.to_head read.head) (OfEnd v.limits (hops read.head.fields)) more c =
      subst (λ (f : Framing1). OfBody v.limits f (OfEnd v.limits (hops read.head.fields)) more c) read.says.body_is
      (subst (λ (named : List (List ℕ)). OfBody v.limits body (OfEnd v.limits named) more c) read.says.named own) in
      let framed : OfFraming v.limits v.to_head read.head more c = inr (λ no. no read.says.coded, inr (λ no. no read.says.counted, says)) in
      subst (λ (z : List ℕ). OfHeads (setting_in v) n z c) (append_assoc seen x more)
      (of_next (setting_in v) n ((seen ++ x) ++ more) c few (λ before long. inr (inr (record {
        many = length (seen ++ x);
        ends = head_ends read.head (seen ++ x) more read.text.1;
        within = read.text.0;
        says = found before long framed;
      }))))
    where
      found : (before : List Interim) → length before ≡ n → OfFraming v.limits v.to_head read.head more c
          → OfWholeHead v.limits v.scheme v.to_head before (take (length (seen ++ x)) ((seen ++ x) ++ more)) (drop (length (seen ++ x)) ((seen ++ x) ++ more)) c
      found before long framed =
          let next : IsNextStart before read.head.start = next_start before v.scheme read.head read.says.of read.says.start (λ some. read.later (subst (λ (k : ℕ). 0 < k) long some)) in
          subst (λ (z : List ℕ). OfWholeHead v.limits v.scheme v.to_head before z (drop (length (seen ++ x)) ((seen ++ x) ++ more)) c) (sym (take-append_seam (seen ++ x) more))
          (subst (λ (z : List ℕ). OfWholeHead v.limits v.scheme v.to_head before (seen ++ x) z c) (sym (drop_seam (seen ++ x) more))
          (inr (
            λ no. no read.head read.text.1 next,
            (read.head, read.text.1, next, start_passes v.limits v.scheme v.to_head before read.head read.says.of more c read.says.start fits lines_fit framed),
          )))

  pub final_goes : Goes (setting_in v) (in_head n seen) x (head read.says.of w.lines ∷ []) (in_body w.named (body_start body))
  final_goes = record {
    residual = record { text = as_framing x; same = framing_bytes x; forth = final_forth; back = final_back };
    wrong = final_causes;
    counts = final_counts v.limits v.to_head n seen x (head read.says.of w.lines ∷ []) read.head body w.named read.text.1
        (start_is_last v.scheme read.head (start_of read.says.of) read.says.start) read.says.body_is;
  }
