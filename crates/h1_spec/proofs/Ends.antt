-- Where a head and a trailer section end: at the first empty line.
use Rattle.std.proofs.Common.{◌≡◌, ◌⊎◌, ◌<◌, arith, ℕ, List, [], ◌∷◌, ◌++◌, length, take, drop, refl, sym, ap, ap₂, subst, ◌∙◌, append_assoc, inl, inr}
use Rattle.std.proofs.lemmas.Bool.{cases_order}
use Rattle.std.proofs.lemmas.List.{length-append, length-drop, take-append-drop, take-append-le}
use Rattle.std.proofs.Math.Seq.{take-append_seam}
use Rattle.std.proofs.lemmas.List.Elements.{All-head, All-tail}
use Rattle.bh_spec.specs.Messages.{Field, IsToken}
use Rattle.h1_spec.specs.Grammar.{crlf}
use Rattle.h1_spec.specs.Heads.{Head, IsStartLine, IsFieldLine, IsSection, IsHead, EndsBlank, EndsAt}
use Rattle.h1_spec.specs.BodyCauses.{TrailerEndsAt}
use Rattle.h1_spec.proofs.Fronts.{Lacks}
use Rattle.h1_spec.proofs.HeadTexts.{start_lacks, line_lacks, token_lacks}

abbrev ended : List ℕ → List ℕ
ended after = 13 ∷ 10 ∷ 13 ∷ 10 ∷ after

-- Where an empty line stands behind a line: right behind it, or further on.
record Further (t before after : List ℕ) : Type 0 where
  rest : List ℕ
  same : t ≡ rest ++ ended after

behind_line : (l t before after : List ℕ) → Lacks 13 l → l ++ (13 ∷ 10 ∷ t) ≡ before ++ ended after → (t ≡ 13 ∷ 10 ∷ after) ⊎ Further t before after
behind_line [] t [] after h e = inl cc
behind_line [] t (b ∷ []) after h e = absurd (ten cc)
  where
    ten : ◌≡◌ {A = ℕ} 10 13 → ⊥
    ten d = omega arith
behind_line [] t (b ∷ c ∷ before) after h e = inr (record { rest = before; same = cc })
behind_line (a ∷ l) t [] after h e = absurd (All-head (λ b. b ≡ 13 → ⊥) a l h cc)
behind_line (a ∷ l) t (b ∷ before) after h e = by_case (behind_line l t before after (All-tail (λ b. b ≡ 13 → ⊥) a l h) cc)
  where
    by_case : (t ≡ 13 ∷ 10 ∷ after) ⊎ Further t before after → (t ≡ 13 ∷ 10 ∷ after) ⊎ Further t (b ∷ before) after
    by_case (inl d) = inl d
    by_case (inr d) = inr (record { rest = d.rest; same = d.same })

line_regroup : (l x rest : List ℕ) → x ≡ l ++ crlf → x ++ rest ≡ l ++ (13 ∷ 10 ∷ rest)
line_regroup l x rest e = ap (λ (z : List ℕ). z ++ rest) e ∙ append_assoc l crlf rest

-- a section, line by line
section_first : (f : Field) (fs : List Field) (x : List ℕ) → IsSection (f ∷ fs) x
    → (l rest : List ℕ) × IsFieldLine f l × IsSection fs rest × (x ≡ l ++ (13 ∷ 10 ∷ rest))
section_first f fs x h =
    let a = h.2 in
    let l = a.2 in (
      l.0,
      a.1 ++ h.1,
      l.2,
      (a.1, h.1, a.3, h.3, refl),
      h.4 ∙ ap (λ (z : List ℕ). z ++ h.1) a.4 ∙ append_assoc a.0 a.1 h.1 ∙ line_regroup l.0 a.0 (a.1 ++ h.1) (l.4 ∙ ap (λ (z : List ℕ). l.0 ++ z) l.3),
    )

section_none : (x : List ℕ) → IsSection [] x → x ≡ crlf
section_none x h = h.4 ∙ ap₂ (λ (a b : List ℕ). a ++ b) h.2 h.3

no_token : (name more rest after : List ℕ) → IsToken name → name ++ (more ++ rest) ≡ 13 ∷ after → ⊥
no_token [] more rest after h e = omega (arith, h.nonempty)
no_token (c ∷ name) more rest after h e =
    let same : c ≡ 13 = cc in
    All-head (λ b. b ≡ 13 → ⊥) c name (token_lacks 13 (c ∷ name) refl h) same

-- no field line begins with CR
no_cr : (f : Field) (l rest after : List ℕ) → IsFieldLine f l → l ++ rest ≡ 13 ∷ after → ⊥
no_cr f l rest after h e =
    no_token h.name (58 ∷ (h.before ++ (f.value ++ h.after))) rest after h.token
    (sym (append_assoc h.name (58 ∷ (h.before ++ (f.value ++ h.after))) rest) ∙ ap (λ (z : List ℕ). z ++ rest) (sym h.written) ∙ e)

-- a section that begins with an empty line is that line
begins_empty : (fs : List Field) (x after : List ℕ) → IsSection fs x → x ≡ 13 ∷ 10 ∷ after → (fs ≡ []) × (after ≡ [])
begins_empty [] x after h e =
    let same : crlf ≡ 13 ∷ 10 ∷ after = sym (section_none x h) ∙ e in
    (refl, cc)
begins_empty (f ∷ fs) x after h e =
    let first = section_first f fs x h in
    absurd (no_cr f first.0 (13 ∷ 10 ∷ first.1) (10 ∷ after) first.2 (sym first.4 ∙ e))

-- No empty line stands in a section before its last.
section_shortest : (fs : List Field) (x before after : List ℕ) → IsSection fs x → x ≡ before ++ ended after → after ≡ []
section_shortest [] x before after h e =
    let same : crlf ≡ before ++ ended after = sym (section_none x h) ∙ e in
    absurd (omega (arith, ap (length {A = ℕ}) same, length-append before (ended after)))
section_shortest (f ∷ fs) x before after h e =
    let first = section_first f fs x h in
    by_case first.1 first.3 (section_shortest fs first.1) (behind_line first.0 first.1 before after (line_lacks f first.0 first.2) (sym first.4 ∙ e))
  where
    by_case : (rest : List ℕ) → IsSection fs rest → ((before after : List ℕ) → IsSection fs rest → rest ≡ before ++ ended after → after ≡ [])
        → (rest ≡ 13 ∷ 10 ∷ after) ⊎ Further rest before after → after ≡ []
    by_case rest k more (inl d) = (begins_empty fs rest after k d).1
    by_case rest k more (inr d) = more d.rest after k d.same

-- behind any line end, a section ends in an empty line
section_ends : (fs : List Field) (x before : List ℕ) → IsSection fs x → EndsBlank (before ++ (13 ∷ 10 ∷ x))
section_ends [] x before h = (before, ap (λ (z : List ℕ). before ++ (13 ∷ 10 ∷ z)) (section_none x h))
section_ends (f ∷ fs) x before h =
    let first = section_first f fs x h in
    subst EndsBlank
    (append_assoc before (13 ∷ 10 ∷ first.0) (13 ∷ 10 ∷ first.1) ∙ ap (λ (z : List ℕ). before ++ (13 ∷ 10 ∷ z)) (sym first.4))
    (section_ends fs first.1 (before ++ (13 ∷ 10 ∷ first.0)) first.3)

-- ---- ends in longer bytes

-- What ends blank and has no earlier empty line ends there, whatever follows.
ends_here : (x r : List ℕ) → EndsBlank x → ((before after : List ℕ) → x ≡ before ++ ended after → after ≡ []) → EndsAt (x ++ r) (length x)
ends_here x r ends shortest = record {
  within = omega (arith, length-append x r);
  ends = subst EndsBlank (sym (take-append_seam x r)) ends;
  first = λ fewer less blank.
      let rest : List ℕ = drop fewer x in
      let front : take fewer x ≡ blank.0 ++ (crlf ++ crlf) = sym (take-append-le fewer x r (omega arith)) ∙ blank.1 in
      let none : rest ≡ [] = shortest blank.0 rest
      (sym (take-append-drop fewer x) ∙ ap (λ (z : List ℕ). z ++ rest) front ∙ append_assoc blank.0 (crlf ++ crlf) rest) in
      omega (arith, ap (length {A = ℕ}) none, length-drop fewer x);
}

pub head_parts : (h : Head) (x : List ℕ) → IsHead h x → (l rest : List ℕ) × IsStartLine h.start l × IsSection h.fields rest × (x ≡ l ++ (13 ∷ 10 ∷ rest))
head_parts h x k =
    let l = k.2 in
    (l.0, k.1, l.2, k.3, k.4 ∙ line_regroup l.0 k.0 k.1 (l.4 ∙ ap (λ (z : List ℕ). l.0 ++ z) l.3))

-- A line without CR and a section behind it end at the first empty line.
pub head_ends_at : (l rest r : List ℕ) → Lacks 13 l → (fs : List Field) → IsSection fs rest → EndsAt ((l ++ (13 ∷ 10 ∷ rest)) ++ r) (length (l ++ (13 ∷ 10 ∷ rest)))
head_ends_at l rest r lacks fs section =
    ends_here (l ++ (13 ∷ 10 ∷ rest)) r (section_ends fs rest l section)
    (λ before after e. by_case after before (behind_line l rest before after lacks e))
  where
    by_case : (after before : List ℕ) → (rest ≡ 13 ∷ 10 ∷ after) ⊎ Further rest before after → after ≡ []
    by_case after before (inl d) = (begins_empty fs rest after section d).1
    by_case after before (inr d) = section_shortest fs rest d.rest after section d.same

-- So a head does.
pub head_ends : (h : Head) (x r : List ℕ) → IsHead h x → EndsAt (x ++ r) (length x)
head_ends h x r k =
    let parts = head_parts h x k in
    subst (λ (y : List ℕ). EndsAt (y ++ r) (length y)) (sym parts.4) (head_ends_at parts.0 parts.1 r (start_lacks h.start parts.0 parts.2) h.fields parts.3)

-- So does a trailer section, which may be an empty line alone.
pub trailers_end : (fs : List Field) (x r : List ℕ) → IsSection fs x → TrailerEndsAt (x ++ r) (length x)
trailers_end [] x r h =
    let same : x ≡ crlf = section_none x h in
    inl ((r, ap (λ (z : List ℕ). z ++ r) same), ap (length {A = ℕ}) same)
trailers_end (f ∷ fs) x r h =
    let first = section_first f fs x h in
    inr (
      (λ once. no_cr f first.0 ((13 ∷ 10 ∷ first.1) ++ r) (10 ∷ once.0) first.2
          (sym (append_assoc first.0 (13 ∷ 10 ∷ first.1) r) ∙ ap (λ (z : List ℕ). z ++ r) (sym first.4) ∙ once.1)),
      ends_here x r (subst EndsBlank (sym first.4) (section_ends fs first.1 first.0 first.3)) (λ before after. section_shortest (f ∷ fs) x before after h),
    )

pub ends_once : (bytes : List ℕ) (j k : ℕ) → EndsAt bytes j → EndsAt bytes k → j ≡ k
ends_once bytes j k p q = by_order (cases_order j k)
  where
    by_order : (j ≡ k) ⊎ ((j < k) ⊎ (k < j)) → j ≡ k
    by_order (inl e) = e
    by_order (inr (inl l)) = absurd (q.first j l p.ends)
    by_order (inr (inr l)) = absurd (p.first k l q.ends)

pub trailer_ends_once : (bytes : List ℕ) (j k : ℕ) → TrailerEndsAt bytes j → TrailerEndsAt bytes k → j ≡ k
trailer_ends_once bytes j k (inl p) (inl q) = p.1 ∙ sym q.1
trailer_ends_once bytes j k (inl p) (inr q) = absurd (q.0 p.0)
trailer_ends_once bytes j k (inr p) (inl q) = absurd (p.0 q.0)
trailer_ends_once bytes j k (inr p) (inr q) = ends_once bytes j k p.1 q.1
