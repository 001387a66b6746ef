-- What breaks an input breaks every longer one.
use Rattle.std.proofs.Common.{◌≡◌, ◌⊎◌, ◌<◌, ◌≤◌, ◌+◌, ◌-◌, Bool, false, arith, ℕ, List, [], ◌∷◌, ◌++◌, length, take, drop, Option, Some, None, codes, refl, sym, ap, subst, subst₂, ◌∙◌, append_assoc, inl, inr}
use Rattle.std.proofs.lemmas.Bool.{cases_lt}
use Rattle.std.proofs.lemmas.List.{length-append, length-take-le, take-append-le, take-append-drop, drop-append-le}
use Rattle.bh_spec.specs.declared.H1Why.{H1Why}
use Rattle.bh_spec.specs.declared.H1Why.TheVariants as why
use Rattle.bh_spec.specs.Bounds.{Bounds, IsWithin}
use Rattle.bh_spec.specs.Messages.{Field, Control, Interim, request}
use Rattle.bh_spec.specs.Canonical.{ControlFits, FieldsFit}
use Rattle.h1_spec.specs.declared.Framing1.{Framing1}
use Rattle.h1_spec.specs.declared.Framing1.TheVariants.{Empty, Counted, Chunked, ToEnd}
use Rattle.h1_spec.specs.declared.Scheme1.{Scheme1}
use Rattle.h1_spec.specs.Grammar.{crlf}
use Rattle.h1_spec.specs.Heads.{StartLine, request_line, status_line, Head, IsHead, IsSection, EndsBlank, EndsAt}
use Rattle.h1_spec.specs.Cleaning.{hops, clean, clean_trailers, says_host}
use Rattle.h1_spec.specs.Targets.{IsTargetOf, HasHost}
use Rattle.h1_spec.specs.Framing.{IsCoded, IsCounted, framing}
use Rattle.h1_spec.specs.Causes.{Causes, ◌when◌else◌, OfSection}
use Rattle.h1_spec.specs.BodyCauses.{CanBegin, IsLineOf, IsAnyLine, HasBegun, OfChunkLine, OfLineEnd, OfChunk, EndsAtOnce, TrailerEndsAt, Behind, OfTrailers, OfNextChunk, OfBody}
use Rattle.h1_spec.specs.Translation.{OfExtra, OfEnd, IsNextStart, OfFraming, OfRequest, OfStart, OfHead, IsCause, broken, OfFirst, IsFromAnswer}
use Rattle.h1_spec.specs.Laws.{StaysBroken}
use Rattle.h1_spec.proofs.Causes.{take_beyond}

when_stays : (w : H1Why) (P : Type 0) (R S : Causes) (c : H1Why) → (R c → S c) → (w when P else R) c → (w when P else S) c
when_stays w P R S c f (inl p) = inl p
when_stays w P R S c f (inr p) = inr (p.0, f p.1)

-- ---- the end of a section stays where it is

ends_stay : (x r : List ℕ) (n : ℕ) → EndsAt x n → EndsAt (x ++ r) n
ends_stay x r n h = record {
  within = omega (arith, h.within, length-append x r);
  ends = subst EndsBlank (sym (take-append-le n x r h.within)) h.ends;
  first = λ k less blank. h.first k less (subst EndsBlank (take-append-le k x r (omega (arith, less, h.within))) blank);
}

ends_before : (x r : List ℕ) (n : ℕ) → n ≤ length x → EndsAt (x ++ r) n → EndsAt x n
ends_before x r n l h = record {
  within = l;
  ends = subst EndsBlank (take-append-le n x r l) h.ends;
  first = λ k less blank. h.first k less (subst EndsBlank (sym (take-append-le k x r (omega (arith, less, l)))) blank);
}

once_stays : (x r : List ℕ) → EndsAtOnce x → EndsAtOnce (x ++ r)
once_stays x r h = (h.0 ++ r, ap (λ (z : List ℕ). z ++ r) h.1)

once_before : (x r : List ℕ) → 2 ≤ length x → EndsAtOnce (x ++ r) → EndsAtOnce x
once_before [] r l h = absurd (omega (arith, l))
once_before (a ∷ []) r l h = absurd (omega (arith, l))
once_before (a ∷ b ∷ x) r l h =
    let first : a ≡ 13 = cc in
    let second : b ≡ 10 = cc in
    (x, cc)

once_long : (x : List ℕ) → EndsAtOnce x → 2 ≤ length x
once_long x h = omega (arith, ap (length {A = ℕ}) h.1, length-append crlf h.0)

blank_long : (x : List ℕ) (n : ℕ) → EndsAt x n → 2 ≤ length x
blank_long x n h =
    omega (arith, ap (length {A = ℕ}) h.ends.1, length-append h.ends.0 (crlf ++ crlf), length-append (take n x) (drop n x), ap (length {A = ℕ}) (take-append-drop n x))

pub some_bytes : (x : List ℕ) (n : ℕ) → EndsAt x n → 0 < n
some_bytes x n h =
    omega (arith, length-take-le n x h.within, ap (length {A = ℕ}) h.ends.1, length-append h.ends.0 (crlf ++ crlf), length-append crlf crlf)

trailer_ends_stay : (x r : List ℕ) (n : ℕ) → TrailerEndsAt x n → TrailerEndsAt (x ++ r) n
trailer_ends_stay x r n (inl h) = inl (once_stays x r h.0, h.1)
trailer_ends_stay x r n (inr h) = inr (λ once. h.0 (once_before x r (blank_long x n h.1) once), ends_stay x r n h.1)

trailer_ends_before : (x r : List ℕ) (n : ℕ) → n ≤ length x → TrailerEndsAt (x ++ r) n → TrailerEndsAt x n
trailer_ends_before x r n l (inl h) = inl (once_before x r (omega (arith, l, h.1)) h.0, h.1)
trailer_ends_before x r n l (inr h) = inr (λ once. h.0 (once_stays x r once), ends_before x r n l h.1)

pub trailer_within : (x : List ℕ) (n : ℕ) → TrailerEndsAt x n → n ≤ length x
trailer_within x n (inl h) = omega (arith, once_long x h.0, h.1)
trailer_within x n (inr h) = h.1.within

-- An end that stays where it is: what was found is found, and what is too long stays too long.
record Stays (Ends Later : ℕ → Type 0) (x : List ℕ) : Type 0 where
  within : (n : ℕ) → Ends n → n ≤ length x
  forth : (n : ℕ) → Ends n → Later n
  back : (n : ℕ) → n ≤ length x → Later n → Ends n

head_stays : (x r : List ℕ) → Stays (EndsAt x) (EndsAt (x ++ r)) x
head_stays x r = record { within = λ n h. h.within; forth = ends_stay x r; back = ends_before x r }

trailers_stay : (x r : List ℕ) → Stays (TrailerEndsAt x) (TrailerEndsAt (x ++ r)) x
trailers_stay x r = record { within = trailer_within x; forth = trailer_ends_stay x r; back = trailer_ends_before x r }

section_stays : (Ends Later : ℕ → Type 0) (limit : Option ℕ) (x r : List ℕ) (w : H1Why) (found : List ℕ → List ℕ → Causes) (c : H1Why) → (c ≡ why.Ended → ⊥)
    → Stays Ends Later x → ((y s : List ℕ) → found y s c → found y (s ++ r) c) → OfSection Ends limit x w found c → OfSection Later limit (x ++ r) w found c
section_stays Ends Later limit x r w found c n stays f (inl p) =
    let p' = p.0 in
    inl (
      record {
        most = p'.most;
        limited = p'.limited;
        long = omega (arith, p'.long, length-append x r);
        none = λ k l e. p'.none k l (stays.back k (omega (arith, l, p'.long)) e);
      },
      p.1,
    )
section_stays Ends Later limit x r w found c n stays f (inr (inl p)) = absurd (n p.1)
section_stays Ends Later limit x r w found c n stays f (inr (inr p)) =
    let l : p.many ≤ length x = stays.within p.many p.ends in
    inr (inr (record {
      many = p.many;
      ends = stays.forth p.many p.ends;
      within = p.within;
      says = subst₂ (λ (y s : List ℕ). found y s c) (sym (take-append-le p.many x r l)) (sym (drop-append-le p.many x r l)) (f (take p.many x) (drop p.many x) p.says);
    }))

-- ---- bodies

chunk_line_stays : (x r : List ℕ) (c : H1Why) → (c ≡ why.Ended → ⊥) → OfChunkLine x c → OfChunkLine (x ++ r) c
chunk_line_stays x r c n (inl p) =
    let at : ℕ = p.0 in
    let before : take at (x ++ r) ≡ take at x = take-append-le at x r (omega (arith, p.1.inside)) in
    let there : take (at + 1) (x ++ r) ≡ take (at + 1) x = take-append-le (at + 1) x r (omega (arith, p.1.inside)) in
    inl (
      at,
      record {
        inside = omega (arith, p.1.inside, length-append x r);
        early = p.1.early;
        before = subst HasBegun (sym before) p.1.before;
        after = λ b. p.1.after (subst (CanBegin (IsLineOf 15)) there b);
      },
      subst (λ (z : List ℕ). (why.ChunkLine when (CanBegin IsAnyLine z → ⊥) else λ w. w ≡ why.ChunkLineLimit) c) (sym there) p.2,
    )
chunk_line_stays x r c n (inr (inl p)) =
    inr (inl (omega (arith, p.0, length-append x r), subst HasBegun (sym (take-append-le 1024 x r (omega (arith, p.0)))) p.1, p.2))
chunk_line_stays x r c n (inr (inr p)) = absurd (n p.2)

line_end_stays : (x r : List ℕ) (c : H1Why) → (c ≡ why.Ended → ⊥) → OfLineEnd x c → OfLineEnd (x ++ r) c
line_end_stays x r c n (inl p) = absurd (n p.1)
line_end_stays x r c n (inr p) = inr ((λ m e. p.0.0 (r ++ m) (e ∙ append_assoc x r m), λ m e. longer x p.0.0 p.0.1 m e), p.1)
  where
    longer : (y : List ℕ) → ((m : List ℕ) → crlf ≡ y ++ m → ⊥) → ((m : List ℕ) → y ≡ crlf ++ m → ⊥) → (m : List ℕ) → y ++ r ≡ crlf ++ m → ⊥
    longer [] f g m e = f crlf refl
    longer (a ∷ []) f g m e =
        let first : a ≡ 13 = cc in
        f (10 ∷ []) (ap (λ (z : ℕ). z ∷ 10 ∷ []) (sym first))
    longer (a ∷ b ∷ y) f g m e =
        let first : a ≡ 13 = cc in
        let second : b ≡ 10 = cc in
        g y cc

chunk_stays : (size : ℕ) (x r : List ℕ) (c : H1Why) → (c ≡ why.Ended → ⊥) → OfChunk size x c → OfChunk size (x ++ r) c
chunk_stays size x r c n (inl p) = absurd (n p.1)
chunk_stays size x r c n (inr p) =
    inr (omega (arith, p.0, length-append x r), subst (λ (z : List ℕ). OfLineEnd z c) (sym (drop-append-le size x r p.0)) (line_end_stays (drop size x) r c n p.1))

-- what is said behind a body stays
abbrev SaysLater : Behind → List ℕ → H1Why → Type 0
SaysLater behind r c = (fs : List Field) (rest : List ℕ) → behind fs rest c → behind fs (rest ++ r) c

trailers_stay_wrong : (L : Bounds) (behind : Behind) (x r : List ℕ) (c : H1Why) → (c ≡ why.Ended → ⊥) → SaysLater behind r c → OfTrailers L behind x c → OfTrailers L behind (x ++ r) c
trailers_stay_wrong L behind x r c n later =
    section_stays (TrailerEndsAt x) (TrailerEndsAt (x ++ r)) L.section x r why.TrailerLimit
    (λ section rest. why.TrailerForm when ((trailers : List Field) → IsSection trailers section → ⊥) else λ cause. (trailers : List Field) × IsSection trailers section × behind trailers rest cause)
    c n (trailers_stay x r)
    (λ y s. when_stays why.TrailerForm ((trailers : List Field) → IsSection trailers y → ⊥) (λ cause. (trailers : List Field) × IsSection trailers y × behind trailers s cause)
    (λ cause. (trailers : List Field) × IsSection trailers y × behind trailers (s ++ r) cause) c (λ p. (p.0, p.1, later p.0 s p.2)))

next_chunk_stays : (L : Bounds) (behind : Behind) (x r : List ℕ) (c : H1Why) → (c ≡ why.Ended → ⊥) → SaysLater behind r c → OfNextChunk L behind x c → OfNextChunk L behind (x ++ r) c
next_chunk_stays L behind x r c n later (inl p) = inl (chunk_line_stays x r c n p)
next_chunk_stays L behind x r c n later (inr p) =
    inr (p.0, p.1, p.2 ++ r, ap (λ (z : List ℕ). z ++ r) p.3 ∙ append_assoc p.1 p.2 r, p.4, by_size p.5)
  where
    by_size : ((0 < p.0) × OfChunk p.0 p.2 c) ⊎ ((p.0 ≡ 0) × OfTrailers L behind p.2 c) → ((0 < p.0) × OfChunk p.0 (p.2 ++ r) c) ⊎ ((p.0 ≡ 0) × OfTrailers L behind (p.2 ++ r) c)
    by_size (inl q) = inl (q.0, chunk_stays p.0 p.2 r c n q.1)
    by_size (inr q) = inr (q.0, trailers_stay_wrong L behind p.2 r c n later q.1)

body_stays : (L : Bounds) (behind : Behind) (f : Framing1) (x r : List ℕ) (c : H1Why) → (c ≡ why.Ended → ⊥) → SaysLater behind r c → OfBody L f behind x c → OfBody L f behind (x ++ r) c
body_stays L behind Empty x r c n later p = later [] x p
body_stays L behind (Counted k) x r c n later (inl p) = absurd (n p.1)
body_stays L behind (Counted k) x r c n later (inr p) =
    inr (omega (arith, p.0, length-append x r), subst (λ (z : List ℕ). behind [] z c) (sym (drop-append-le k x r p.0)) (later [] (drop k x) p.1))
body_stays L behind Chunked x r c n later p =
    let t = p.2 in
    (p.0, p.1, (t.0, t.1 ++ r, t.2, next_chunk_stays L behind t.1 r c n later t.3, ap (λ (z : List ℕ). z ++ r) t.4 ∙ append_assoc t.0 t.1 r))
body_stays L behind ToEnd x r c n later p = absurd p

-- ---- heads

extra_stays : (rest r : List ℕ) (c : H1Why) → OfExtra rest c → OfExtra (rest ++ r) c
extra_stays rest r c (inl p) = inl (λ e. p.0 (none rest e), p.1)
  where
    none : (y : List ℕ) → y ++ r ≡ [] → y ≡ []
    none [] e = refl
    none (b ∷ y) e = absurd cc
extra_stays rest r c (inr p) = absurd p.1

end_stays : (L : Bounds) (named : List (List ℕ)) (r : List ℕ) (c : H1Why) → SaysLater (OfEnd L named) r c
end_stays L named r c fs rest =
    when_stays why.TrailerLimit (FieldsFit L (clean_trailers named fs) → ⊥) (OfExtra rest) (OfExtra (rest ++ r)) c (extra_stays rest r c)

framing_stays : (L : Bounds) (to_head : Bool) (h : Head) (x r : List ℕ) (c : H1Why) → (c ≡ why.Ended → ⊥) → OfFraming L to_head h x c → OfFraming L to_head h (x ++ r) c
framing_stays L to_head h x r c n =
    let body : List ℕ → Causes = λ z. OfBody L (framing to_head h) (OfEnd L (hops h.fields)) z in
    let length_first : List ℕ → Causes = λ z. (why.Length when (IsCounted h.fields → ⊥) else body z) in
    when_stays why.Coding (IsCoded h.fields → ⊥) (length_first x) (length_first (x ++ r)) c
    (when_stays why.Length (IsCounted h.fields → ⊥) (body x) (body (x ++ r)) c (body_stays L (OfEnd L (hops h.fields)) (framing to_head h) x r c n (end_stays L (hops h.fields) r c)))

abbrev Fit : Bounds → Control → Head → Type 0
Fit L control h = ControlFits L control × FieldsFit L (clean (hops h.fields) (says_host (request control)) h.fields)

request_stays : (L : Bounds) (to_head : Bool) (control : Control) (h : Head) (x r : List ℕ) (c : H1Why) → (c ≡ why.Ended → ⊥) → OfRequest L to_head control h x c → OfRequest L to_head control h (x ++ r) c
request_stays L to_head control h x r c n =
    let fit_first : List ℕ → Causes = λ z. (why.HeadLimit when (Fit L control h → ⊥) else OfFraming L to_head h z) in
    when_stays why.Host (HasHost control h.fields → ⊥) (fit_first x) (fit_first (x ++ r)) c
    (when_stays why.HeadLimit (Fit L control h → ⊥) (OfFraming L to_head h x) (OfFraming L to_head h (x ++ r)) c (framing_stays L to_head h x r c n))

abbrev Asked : Bounds → Scheme1 → Bool → Head → List ℕ → List ℕ → List ℕ → Causes
Asked L scheme to_head h method target rest cause = (control : Control) × IsTargetOf scheme method target control × OfRequest L to_head control h rest cause

abbrev Last : Bounds → Bool → Head → ℕ → List ℕ → Causes
Last L to_head h status rest cause = (200 ≤ status) × OfFraming L to_head h rest cause

start_stays : (L : Bounds) (scheme : Scheme1) (to_head : Bool) (is : List Interim) (h : Head) (x r : List ℕ) (line : StartLine) (c : H1Why) → (c ≡ why.Ended → ⊥)
    → OfStart L scheme to_head is h x line c → OfStart L scheme to_head is h (x ++ r) line c
start_stays L scheme to_head is h x r (request_line method target) c n =
    let none : Type 0 = (control : Control) → IsTargetOf scheme method target control → ⊥ in
    let target_first : List ℕ → Causes = λ z. (why.Target when none else Asked L scheme to_head h method target z) in
    when_stays why.Connect (method ≡ codes "CONNECT") (target_first x) (target_first (x ++ r)) c
    (when_stays why.Target none (Asked L scheme to_head h method target x) (Asked L scheme to_head h method target (x ++ r)) c
    (λ p. (p.0, p.1, request_stays L to_head p.0 h x r c n p.2)))
start_stays L scheme to_head is h x r (status_line status) c n =
    let many : Type 0 = (status ≤ 199) × (IsWithin L.interims (length is + 1) → ⊥) in
    let unfit : Type 0 = FieldsFit L (clean (hops h.fields) false h.fields) → ⊥ in
    let last : List ℕ → Causes = Last L to_head h status in
    let fit_first : List ℕ → Causes = λ z. (why.HeadLimit when unfit else last z) in
    let few_first : List ℕ → Causes = λ z. (why.Interims when many else fit_first z) in
    when_stays why.Switching (status ≡ 101) (few_first x) (few_first (x ++ r)) c
    (when_stays why.Interims many (fit_first x) (fit_first (x ++ r)) c
    (when_stays why.HeadLimit unfit (last x) (last (x ++ r)) c (λ p. (p.0, framing_stays L to_head h x r c n p.1))))

abbrev Begins : Bounds → Scheme1 → Bool → List Interim → List ℕ → List ℕ → Causes
Begins L scheme to_head is section rest cause =
    (head : Head) × IsHead head section × IsNextStart is head.start × OfStart L scheme to_head is head rest head.start cause

head_stays_wrong : (L : Bounds) (scheme : Scheme1) (to_head : Bool) (is : List Interim) (x r : List ℕ) (c : H1Why) → (c ≡ why.Ended → ⊥)
    → OfHead L scheme to_head is x c → OfHead L scheme to_head is (x ++ r) c
head_stays_wrong L scheme to_head is x r c n =
    section_stays (EndsAt x) (EndsAt (x ++ r)) L.section x r why.HeadLimit
    (λ section rest. why.HeadForm when ((head : Head) → IsHead head section → IsNextStart is head.start → ⊥) else Begins L scheme to_head is section rest)
    c n (head_stays x r)
    (λ y s. when_stays why.HeadForm ((head : Head) → IsHead head y → IsNextStart is head.start → ⊥) (Begins L scheme to_head is y s) (Begins L scheme to_head is y (s ++ r)) c
    (λ p. (p.0, p.1, p.2, start_stays L scheme to_head is p.0 s r p.0.start c n p.3)))

cause_stays : (L : Bounds) (scheme : Scheme1) (to_head : Bool) (x r : List ℕ) (c : H1Why) → (c ≡ why.Ended → ⊥) → IsCause L scheme to_head x c → IsCause L scheme to_head (x ++ r) c
cause_stays L scheme to_head x r c n p =
    let t = p.text in
    record {
      interims = p.interims;
      few = p.few;
      text = (t.0, t.1 ++ r, t.2, head_stays_wrong L scheme to_head p.interims t.1 r c n t.3, ap (λ (z : List ℕ). z ++ r) t.4 ∙ append_assoc t.0 t.1 r);
    }

pub stays_broken : StaysBroken
stays_broken L scheme to_head bytes more cause n (inl p) = by_limit L.input refl p.0
  where
    by_limit : (o : Option ℕ) → L.input ≡ o → IsWithin L.input (length bytes) → IsFromAnswer L scheme to_head (bytes ++ more) (broken cause)
    by_limit None e w = inl (subst (λ (o : Option ℕ). IsWithin o (length (bytes ++ more))) (sym e) tt, cause_stays L scheme to_head bytes more cause n p.1)
    by_limit (Some most) e w = by_length (subst (λ (o : Option ℕ). IsWithin o (length bytes)) e w) (cases_lt most (length (bytes ++ more)))
      where
        by_length : length bytes ≤ most → (most < length (bytes ++ more)) ⊎ (length (bytes ++ more) ≤ most) → IsFromAnswer L scheme to_head (bytes ++ more) (broken cause)
        by_length few (inl l) =
            inr (most, (e, l), inl (n, subst (λ (z : List ℕ). IsCause L scheme to_head z cause) (sym (take_beyond most bytes more few)) (cause_stays L scheme to_head bytes (take (most - length bytes) more) cause n p.1)))
        by_length few (inr l) =
            inl (subst (λ (o : Option ℕ). IsWithin o (length (bytes ++ more))) (sym e) l, cause_stays L scheme to_head bytes more cause n p.1)
stays_broken L scheme to_head bytes more cause n (inr p) =
    let l : p.0 ≤ length bytes = omega (arith, p.1.1) in
    inr (
      p.0,
      (p.1.0, omega (arith, p.1.1, length-append bytes more)),
      subst (λ (z : List ℕ). OfFirst L scheme to_head z cause) (sym (take-append-le p.0 bytes more l)) p.2,
    )
