-- A chunk line: one byte of it, its end, and what is wrong with it.
use Rattle.std.proofs.Common.{◌≡◌, ◌⊎◌, ◌≤◌, ◌+◌, ◌*◌, true, false, cond, nat_lt, arith, ℕ, zero, suc, List, [], ◌∷◌, ◌++◌, take, IsTrue, Option, Some, None, refl, sym, ap, subst, ◌∙◌, inl, inr}
use Rattle.std.specs.Char.{digit_value}
use Rattle.std.proofs.lemmas.Bool.{cases_Bool, cond-true, cond-false, lt-ltb, both_ways}
use Rattle.bh_spec.specs.Bounds.{Bounds}
use Rattle.bh_spec.specs.Messages.{Field}
use Rattle.bh_spec.specs.declared.H1Why.{H1Why}
use Rattle.bh_spec.specs.declared.H1Why.TheVariants as why
use Rattle.h1_spec.specs.Bodies.{is_hex}
use Rattle.h1_spec.specs.Causes.{◌when◌else◌}
use Rattle.h1_spec.specs.BodyCauses.{CanBegin, Behind}
use Rattle.h1_spec.specs.ChunkStates.{InLine, in_digits, in_blanks, in_extension, behind_cr as line_cr, line_ended, next_state, Completes}
use Rattle.h1_spec.proofs.ChunkLines.{IsFew, HasRoom, CompletesBehind, step_on, step_back, some_rest, some_state, same_next, ends_alone}
use Rattle.h1_spec.specs.BodyStates.{At, is_chunked, in_line, in_chunk, in_trailers, Rest, RestOfLine, BehindLine, LineFrom, AnyLineFrom, GoesOn, IsDeadFrom, OfLine, OfBehindLine, OfRest, nothing_behind, AreMarked, Moves}
use Rattle.h1_spec.proofs.BodySteps.{moves_by}
use Rattle.h1_spec.proofs.BodyMarks.{line_marks, line_over_marks, chunk_begins_marks}

-- ---- states

same_some : (s t : InLine) → Some s ≡ Some t → s ≡ t
same_some s t e = cc

none_some : (s : InLine) → None ≡ Some s → ⊥
none_some s e = absurd cc

pub step_state : (most size : ℕ) (s : InLine) (b : ℕ) (t : InLine) (x : List ℕ) → next_state most s b ≡ Some t → Completes most size s (b ∷ x) → Completes most size t x
step_state most size s b t x e h = subst (λ (o : Option InLine). CompletesBehind most size o x) e (step_on most size s b x h)

pub state_back : (most size : ℕ) (s : InLine) (b : ℕ) (t : InLine) (x : List ℕ) → IsFew most s → next_state most s b ≡ Some t → Completes most size t x → Completes most size s (b ∷ x)
state_back most size s b t x few e h = step_back most size s b x few (subst (λ (o : Option InLine). CompletesBehind most size o x) (sym e) h)

-- a line that isn't over
abbrev pub IsOpen : InLine → Type 0
IsOpen s = (size : ℕ) → s ≡ line_ended size → ⊥

-- where a byte may follow, the line isn't over
pub open_before : (most : ℕ) (s : InLine) (b : ℕ) (t : InLine) → next_state most s b ≡ Some t → IsOpen s
open_before most s b t e size f = none_some t (sym (ap (λ (z : InLine). next_state most z b) f) ∙ e)

pub not_empty : (most size : ℕ) (s : InLine) → IsOpen s → Completes most size s [] → ⊥
not_empty most size s o h = let e = ends_alone most size (Some s) h in o e.0 (same_some s (line_ended e.0) e.1)

pub goes_on_here : (s : InLine) → IsFew 15 s → IsOpen s → GoesOn s []
goes_on_here s few o =
    let r = some_rest 15 s (omega arith) few in
    ((r.1, (r.0, r.2)), λ h. not_empty 15 h.0 s o h.1)

-- ---- more digits

more_room : (most size : ℕ) (s : InLine) (x : List ℕ) → Completes most size s x → Completes (most + 16) size s x
more_room most size (in_digits count number) x h = (h.0, h.1, h.2, h.3, omega (arith, h.4), h.5, h.6, h.7)
more_room most size (in_blanks own) x h = h
more_room most size (in_extension own) x h = h
more_room most size (line_cr own) x h = h
more_room most size (line_ended own) x h = h

has_room : (most : ℕ) (s : InLine) → IsFew 15 s → HasRoom (most + 16) s 1
has_room most (in_digits count number) few = omega (arith, few)
has_room most (in_blanks own) few = tt
has_room most (in_extension own) few = tt
has_room most (line_cr own) few = tt
has_room most (line_ended own) few = tt

few_more : (most : ℕ) (s : InLine) → IsFew 15 s → IsFew (most + 16) s
few_more most (in_digits count number) few = omega (arith, few)
few_more most (in_blanks own) few = tt
few_more most (in_extension own) few = tt
few_more most (line_cr own) few = tt
few_more most (line_ended own) few = tt

begin_on : (s : InLine) (b : ℕ) (t : InLine) (x : List ℕ) → next_state 15 s b ≡ Some t → CanBegin (LineFrom 15 s) (b ∷ x) → CanBegin (LineFrom 15 t) x
begin_on s b t x e c = (c.0, (c.1.0, step_state 15 c.1.0 s b t (x ++ c.0) e c.1.1))

begin_back : (s : InLine) (b : ℕ) (t : InLine) (x : List ℕ) → IsFew 15 s → next_state 15 s b ≡ Some t → CanBegin (LineFrom 15 t) x → CanBegin (LineFrom 15 s) (b ∷ x)
begin_back s b t x few e c = (c.0, (c.1.0, state_back 15 c.1.0 s b t (x ++ c.0) few e c.1.1))

any_on : (s : InLine) (b : ℕ) (t : InLine) (x : List ℕ) → IsFew 15 s → next_state 15 s b ≡ Some t → CanBegin (AnyLineFrom s) (b ∷ x) → CanBegin (AnyLineFrom t) x
any_on s b t x few e c =
    let most = c.1.0 in
    let size = c.1.1.0 in
    let done = step_on most size s b (x ++ c.0) c.1.1.1 in
    let other = some_state most size (next_state most s b) (x ++ c.0) done in
    let same : other.0 ≡ t = same_some other.0 t
    (sym (same_next most (most + 16) s b 0 other.0 (has_room most s few) other.1) ∙ same_next 15 (most + 16) s b 0 t (has_room most s few) e) in
    (c.0, (most, (size, subst (λ (o : Option InLine). CompletesBehind most size o (x ++ c.0)) (other.1 ∙ ap (λ (z : InLine). Some z) same) done)))

any_back : (s : InLine) (b : ℕ) (t : InLine) (x : List ℕ) → IsFew 15 s → next_state 15 s b ≡ Some t → CanBegin (AnyLineFrom t) x → CanBegin (AnyLineFrom s) (b ∷ x)
any_back s b t x few e c =
    let most = c.1.0 in
    let size = c.1.1.0 in (
      c.0,
      (
        most + 16,
        (
          size,
          state_back (most + 16) size s b t (x ++ c.0) (few_more most s few) (same_next 15 (most + 16) s b 0 t (has_room most s few) e)
              (more_room most size t (x ++ c.0) c.1.1.1),
        ),
      ),
    )

goes_back : (s : InLine) (b : ℕ) (t : InLine) (x : List ℕ) → IsFew 15 s → next_state 15 s b ≡ Some t → GoesOn t x → GoesOn s (b ∷ x)
goes_back s b t x few e g = (begin_back s b t x few e g.0, λ h. g.1 (h.0, step_state 15 h.0 s b t x e h.1))

pub when_back : (P Q : Type 0) (w v c : H1Why) → (P → Q) → (Q → P) → (w when P else λ z. z ≡ v) c → (w when Q else λ z. z ≡ v) c
when_back P Q w v c f g (inl h) = inl (f h.0, h.1)
when_back P Q w v c f g (inr h) = inr (λ q. h.0 (g q), h.1)

-- ---- a byte of a line

take_next : (k b : ℕ) (more : List ℕ) → take (suc k + 1) (b ∷ more) ≡ b ∷ take (k + 1) more
take_next k b more = let sum : suc k + 1 ≡ suc (k + 1) = omega arith in ap (λ (n : ℕ). take n (b ∷ more)) sum

of_line_back : (s : InLine) (b : ℕ) (t : InLine) (room : ℕ) (more : List ℕ) (c : H1Why) → IsFew 15 s → next_state 15 s b ≡ Some t → OfLine t room more c → OfLine s (suc room) (b ∷ more) c
of_line_back s b t room more c few e (inl h) =
    let d = h.1 in
    inl (
      suc h.0,
      record {
        inside = omega (arith, d.inside);
        early = omega (arith, d.early);
        before = goes_back s b t (take h.0 more) few e d.before;
        after = λ k. d.after (begin_on s b t (take (h.0 + 1) more) e (subst (CanBegin (LineFrom 15 s)) (take_next h.0 b more) k));
      },
      when_back _ _ why.ChunkLine why.ChunkLineLimit c
          (λ n k. n (any_on s b t (take (h.0 + 1) more) few e (subst (CanBegin (AnyLineFrom s)) (take_next h.0 b more) k)))
          (λ n k. n (subst (CanBegin (AnyLineFrom s)) (sym (take_next h.0 b more)) (any_back s b t (take (h.0 + 1) more) few e k))) h.2,
    )
of_line_back s b t room more c few e (inr (inl h)) = inr (inl (omega (arith, h.0), goes_back s b t (take room more) few e h.1, h.2))
of_line_back s b t room more c few e (inr (inr h)) = inr (inr (omega (arith, h.0), goes_back s b t more few e h.1, h.2))

pub line_step : (L : Bounds) (s : InLine) (b : ℕ) (t : InLine) (room : ℕ) → IsFew 15 s → next_state 15 s b ≡ Some t → Moves L (in_line s (suc room)) (b ∷ []) [] (in_line t room)
line_step L s b t room few e = moves_by L (in_line s (suc room)) (b ∷ []) [] (in_line t room) (record {
  forth = λ found trailers more r. (found, refl, forth found trailers more r.0 r.1.0 r.1.1 r.1.2 r.1.3 r.1.4);
  back = λ later trailers more r.
      (r.0, (b ∷ r.1.0, r.1.1, (omega (arith, r.1.2.0), state_back 15 r.0 s b t r.1.0 few e r.1.2.1), r.1.3, ap (λ (z : List ℕ). b ∷ z) r.1.4));
  causes = causes;
  marks = line_marks s b t room e;
  kind = refl;
})
  where
    forth : (found : List ℕ) (trailers : List Field) (more : List ℕ) (size : ℕ) (x y : List ℕ) → RestOfLine size s (suc room) x → BehindLine L size found trailers y → (b ∷ more) ≡ x ++ y
        → Rest L (in_line t room) found trailers more
    forth found trailers more size [] y l h f = absurd (not_empty 15 size s (open_before 15 s b t e) l.1)
    forth found trailers more size (a ∷ x) y l h f =
        let same : a ≡ b = cc in
        let tail : more ≡ x ++ y = cc in
        (size, (x, y, (omega (arith, l.0), step_state 15 size s b t x e (subst (λ (z : ℕ). Completes 15 size s (z ∷ x)) same l.1)), h, tail))

    causes : (behind : Behind) (more : List ℕ) (cause : H1Why) → OfRest L behind (in_line t room) more cause → OfRest L behind (in_line s (suc room)) (b ∷ more) cause
    causes behind more cause (inl h) = inl (of_line_back s b t room more cause few e h)
    causes behind more cause (inr r) = inr (r.0, (b ∷ r.1.0, r.1.1, (omega (arith, r.1.2.0), state_back 15 r.0 s b t r.1.0 few e r.1.2.1), r.1.3, ap (λ (z : List ℕ). b ∷ z) r.1.4))

-- ---- the end of a line

-- behind a line with this size
abbrev pub at_behind_line : ℕ → At
at_behind_line zero = in_trailers []
at_behind_line (suc n) = in_chunk (suc n)

pub line_end : (L : Bounds) (size room : ℕ) → Moves L (in_line (line_ended size) room) [] [] (at_behind_line size)
line_end L size room = moves_by L (in_line (line_ended size) room) [] [] (at_behind_line size) (record {
  forth = λ found trailers more r. (
    found,
    refl,
    forth size found trailers more
        (subst (λ (n : ℕ). BehindLine L n found trailers more) (sym r.1.2.1.0) (subst (BehindLine L r.0 found trailers) (sym (r.1.4 ∙ ap (λ (z : List ℕ). z ++ r.1.1) r.1.2.1.1)) r.1.3)),
  );
  back = λ later trailers more r. (size, ([], more, (omega arith, (refl, refl)), back size later trailers more r, refl));
  causes = λ behind more cause c. inr (size, ([], more, (omega arith, (refl, refl)), causes behind size more cause c, refl));
  marks = marks size;
  kind = kind size;
})
  where
    kind : (n : ℕ) → true ≡ is_chunked (at_behind_line n)
    kind zero = refl
    kind (suc n) = refl

    marks : (n : ℕ) → AreMarked (in_line (line_ended n) room) [] [] (at_behind_line n)
    marks zero = line_over_marks room
    marks (suc n) = chunk_begins_marks n room

    forth : (n : ℕ) (found : List ℕ) (trailers : List Field) (more : List ℕ) → BehindLine L n found trailers more → Rest L (at_behind_line n) found trailers more
    forth zero found trailers more (inl h) = (h.1, h.2)
    forth zero found trailers more (inr h) = absurd (omega (arith, h.0))
    forth (suc n) found trailers more (inl h) = absurd (omega (arith, h.0))
    forth (suc n) found trailers more (inr h) = h.1

    back : (n : ℕ) (found : List ℕ) (trailers : List Field) (more : List ℕ) → Rest L (at_behind_line n) found trailers more → BehindLine L n found trailers more
    back zero found trailers more h = inl (refl, h.0, h.1)
    back (suc n) found trailers more h = inr (omega arith, h)

    causes : (behind : Behind) (n : ℕ) (more : List ℕ) (cause : H1Why) → OfRest L behind (at_behind_line n) more cause → OfBehindLine L behind n more cause
    causes behind zero more cause h = inr (refl, h)
    causes behind (suc n) more cause h = inl (omega arith, h)

-- ---- what is wrong

-- why a byte that no line has there is refused
abbrev pub cause_of : InLine → ℕ → H1Why
cause_of (in_digits count number) byte = cond (is_hex byte) why.ChunkLineLimit why.ChunkLine
cause_of (in_blanks own) byte = why.ChunkLine
cause_of (in_extension own) byte = why.ChunkLine
cause_of (line_cr own) byte = why.ChunkLine
cause_of (line_ended own) byte = why.ChunkLine

dead_at : (s : InLine) (b room : ℕ) (more : List ℕ) → IsFew 15 s → IsOpen s → next_state 15 s b ≡ None → IsDeadFrom s (suc room) (b ∷ more) 0
dead_at s b room more few o e = record {
  inside = omega arith;
  early = omega arith;
  before = goes_on_here s few o;
  after = λ c. subst (λ (z : Option InLine). CompletesBehind 15 c.1.0 z c.0) e (step_on 15 c.1.0 s b c.0 c.1.1);
}

-- a sixteenth digit
abbrev IsExtra : InLine → ℕ → Type 0
IsExtra (in_digits count number) byte = IsTrue (is_hex byte)
IsExtra (in_blanks own) byte = ⊥
IsExtra (in_extension own) byte = ⊥
IsExtra (line_cr own) byte = ⊥
IsExtra (line_ended own) byte = ⊥

-- any other byte is refused whatever the number of digits
dead_any : (most : ℕ) (s : InLine) (b : ℕ) → (IsExtra s b → ⊥) → next_state 15 s b ≡ None → next_state most s b ≡ None
dead_any most (in_digits count number) b n e = by_test (cases_Bool (is_hex b))
  where
    by_test : (is_hex b ≡ true) ⊎ (is_hex b ≡ false) → next_state most (in_digits count number) b ≡ None
    by_test (inl x) = absurd (n x)
    by_test (inr x) = cond-false (is_hex b) _ _ x ∙ sym (cond-false (is_hex b) _ _ x) ∙ e
dead_any most (in_blanks own) b n e = e
dead_any most (in_extension own) b n e = e
dead_any most (line_cr own) b n e = e
dead_any most (line_ended own) b n e = e

no_line : (s : InLine) (b : ℕ) → (IsExtra s b → ⊥) → next_state 15 s b ≡ None → CanBegin (AnyLineFrom s) (b ∷ []) → ⊥
no_line s b n e c = subst (λ (z : Option InLine). CompletesBehind c.1.0 c.1.1.0 z c.0) (dead_any c.1.0 s b n e) (step_on c.1.0 c.1.1.0 s b c.0 c.1.1.1)

extra_line : (count number b : ℕ) → count ≤ 15 → IsTrue (is_hex b) → CanBegin (AnyLineFrom (in_digits count number)) (b ∷ [])
extra_line count number b few x =
    let t = in_digits (count + 1) (number * 16 + digit_value b) in
    let next : next_state 16 (in_digits count number) b ≡ Some t = cond-true (is_hex b) _ _ x ∙ cond-true (nat_lt count 16) _ _ (lt-ltb count 16 (omega arith)) in
    let r = some_rest 16 t (omega arith) (omega arith) in
    (r.1, (16, (r.0, state_back 16 r.0 (in_digits count number) b t r.1 (omega arith) next r.2)))

which : (s : InLine) (b : ℕ) → IsFew 15 s → next_state 15 s b ≡ None
    → (why.ChunkLine when (CanBegin (AnyLineFrom s) (b ∷ []) → ⊥) else λ c. c ≡ why.ChunkLineLimit) (cause_of s b)
which (in_digits count number) b few e = by_test (cases_Bool (is_hex b))
  where
    by_test : (is_hex b ≡ true) ⊎ (is_hex b ≡ false)
        → (why.ChunkLine when (CanBegin (AnyLineFrom (in_digits count number)) (b ∷ []) → ⊥) else λ c. c ≡ why.ChunkLineLimit) (cause_of (in_digits count number) b)
    by_test (inl x) = inr (λ n. n (extra_line count number b few x), cond-true (is_hex b) _ _ x)
    by_test (inr x) = inl (no_line (in_digits count number) b (λ t. both_ways (is_hex b) x t) e, cond-false (is_hex b) _ _ x)
which (in_blanks own) b few e = inl (no_line (in_blanks own) b (λ t. t) e, refl)
which (in_extension own) b few e = inl (no_line (in_extension own) b (λ t. t) e, refl)
which (line_cr own) b few e = inl (no_line (line_cr own) b (λ t. t) e, refl)
which (line_ended own) b few e = inl (no_line (line_ended own) b (λ t. t) e, refl)

-- A byte that no line has there is refused, whatever follows it.
pub line_dead : (L : Bounds) (s : InLine) (b room : ℕ) (more : List ℕ) → IsFew 15 s → IsOpen s → next_state 15 s b ≡ None
    → OfRest L nothing_behind (in_line s (suc room)) (b ∷ more) (cause_of s b)
line_dead L s b room more few o e = inl (inl (0, dead_at s b room more few o e, which s b few e))

-- So is any byte where there is room for none.
pub line_full : (L : Bounds) (s : InLine) (b : ℕ) (more : List ℕ) → IsFew 15 s → IsOpen s → OfRest L nothing_behind (in_line s 0) (b ∷ more) why.ChunkLineLimit
line_full L s b more few o = inl (inr (inl (omega arith, goes_on_here s few o, refl)))

-- And the end.
pub line_unended : (L : Bounds) (s : InLine) (room : ℕ) → IsFew 15 s → IsOpen s → OfRest L nothing_behind (in_line s room) [] why.Ended
line_unended L s room few o = inl (inr (inr (omega arith, goes_on_here s few o, refl)))
