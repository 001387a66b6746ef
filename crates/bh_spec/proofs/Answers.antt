-- One answer for each input.
use Rattle.std.proofs.Common.{◌≡◌, ◌≤◌, ◌<◌, ◌+◌, ℕ, zero, suc, add-one, List, [], ◌∷◌, append-nil, length, take, Option, Some, refl, sym, ap, ap₂, subst, ◌∙◌, arith}
use Rattle.bh_spec.specs.declared.Part.{Part}
use Rattle.bh_spec.specs.declared.Omitted.{Omitted}
use Rattle.bh_spec.specs.declared.Refusal.TheVariants.{Dead, Limit, Ended, TooLong}
use Rattle.bh_spec.specs.Bounds.{Bounds, IsWithin, no_bounds}
use Rattle.bh_spec.specs.Messages.{Message}
use Rattle.bh_spec.specs.Viable.{SpellsBytes, IsViable, NextPart, IsMessageText}
use Rattle.bh_spec.specs.Answers.{Answer, whole, refused, IsRefusedAt, HasEnded, IsTooLong, IsAnswer}
use Rattle.bh_spec.proofs.Pieces.{refused_refused}
use Rattle.bh_spec.proofs.Whole.{one_reading, one_next}
use Rattle.bh_spec.proofs.Viable.{viable_less, viable_take}

pub spelled_viable : (L : Bounds) (m : Message) (o : Omitted) (z : ℕ) (bytes : List ℕ) → SpellsBytes L m o z bytes → IsViable L bytes
spelled_viable L m o z bytes h = record { text = h.text; after = []; spelled = (m, o, z, h.spelled); begins = h.same ∙ sym (append-nil bytes) }

-- a refused byte is the first, so there is one
same_place : (L : Bounds) (bytes : List ℕ) (i j : ℕ) (p q : Part) → IsRefusedAt L bytes i p → IsRefusedAt L bytes j q → (i ≡ j) × (p ≡ q)
same_place L bytes i j p q a b =
    let same : i ≡ j = refused_refused (IsMessageText L) [] bytes i j p q a.first b.first in
    (same, one_next L L (take i bytes) p q a.first.next (subst (λ (k : ℕ). NextPart L (take k bytes) q) (sym same) b.first.next))

-- where all bytes are viable, none is refused
none_refused : (L : Bounds) (bytes : List ℕ) (i : ℕ) (p : Part) → IsViable L bytes → IsRefusedAt L bytes i p → ⊥
none_refused L bytes i p v a = a.first.after (viable_take L (i + 1) bytes v)

-- and where those within the limit of the input are, none of them
none_seen : (L : Bounds) (bytes : List ℕ) (i at : ℕ) (p : Part) → IsTooLong L bytes at → IsRefusedAt L bytes i p → ⊥
none_seen L bytes i at p t a =
    let seen : i + 1 ≤ at = subst (λ (o : Option ℕ). IsWithin o (i + 1)) t.limit a.seen in
    a.first.after (viable_less L (i + 1) at bytes seen t.viable)

not_within : (L : Bounds) (bytes : List ℕ) (at : ℕ) → IsTooLong L bytes at → IsWithin L.input (length bytes) → ⊥
not_within L bytes at t h =
    let short : length bytes ≤ at = subst (λ (o : Option ℕ). IsWithin o (length bytes)) t.limit h in
    omega (arith, t.more)

same_end : (L : Bounds) (bytes : List ℕ) (i j : ℕ) (p q : Part) → HasEnded L bytes i p → HasEnded L bytes j q → (i ≡ j) × (p ≡ q)
same_end L bytes i j p q a b = (a.long ∙ sym b.long, one_next L L bytes p q a.next b.next)

ended_within : (L : Bounds) (bytes : List ℕ) (i : ℕ) (p : Part) → HasEnded L bytes i p → IsWithin L.input (length bytes)
ended_within L bytes i p h = subst (IsWithin L.input) h.long h.seen

pub one_answer : (L : Bounds) (bytes : List ℕ) (a b : Answer) → IsAnswer L bytes a → IsAnswer L bytes b → a ≡ b
one_answer L bytes (whole m o z) (whole n p y) a b =
    let one = one_reading L L m n o p z y bytes a.1 b.1 in
    ap (λ (x : Message). whole x o z) one.0 ∙ ap (λ (x : Omitted). whole n x z) one.1 ∙ ap (λ (x : ℕ). whole n p x) one.2
one_answer L bytes (whole m o z) (refused (Dead i p)) a b = absurd (none_refused L bytes i p (spelled_viable L m o z bytes a.1) b.0)
one_answer L bytes (whole m o z) (refused (Limit i p)) a b = absurd (none_refused L bytes i p (spelled_viable L m o z bytes a.1) b.0)
one_answer L bytes (whole m o z) (refused (Ended i p)) a b = absurd (b.unfinished m o z a.1)
one_answer L bytes (whole m o z) (refused (TooLong i)) a b = absurd (not_within L bytes i b a.0)
one_answer L bytes (refused (Dead i p)) (whole m o z) a b = absurd (none_refused L bytes i p (spelled_viable L m o z bytes b.1) a.0)
one_answer L bytes (refused (Dead i p)) (refused (Dead j q)) a b = let same = same_place L bytes i j p q a.0 b.0 in ap₂ (λ (k : ℕ) (r : Part). refused (Dead k r)) same.0 same.1
one_answer L bytes (refused (Dead i p)) (refused (Limit j q)) a b = absurd (a.1 (subst (λ (k : ℕ). IsViable no_bounds (take (k + 1) bytes)) (sym (same_place L bytes i j p q a.0 b.0).0) b.1))
one_answer L bytes (refused (Dead i p)) (refused (Ended j q)) a b = absurd (none_refused L bytes i p b.viable a.0)
one_answer L bytes (refused (Dead i p)) (refused (TooLong j)) a b = absurd (none_seen L bytes i j p b a.0)
one_answer L bytes (refused (Limit i p)) (whole m o z) a b = absurd (none_refused L bytes i p (spelled_viable L m o z bytes b.1) a.0)
one_answer L bytes (refused (Limit i p)) (refused (Dead j q)) a b = absurd (b.1 (subst (λ (k : ℕ). IsViable no_bounds (take (k + 1) bytes)) (same_place L bytes i j p q a.0 b.0).0 a.1))
one_answer L bytes (refused (Limit i p)) (refused (Limit j q)) a b = let same = same_place L bytes i j p q a.0 b.0 in ap₂ (λ (k : ℕ) (r : Part). refused (Limit k r)) same.0 same.1
one_answer L bytes (refused (Limit i p)) (refused (Ended j q)) a b = absurd (none_refused L bytes i p b.viable a.0)
one_answer L bytes (refused (Limit i p)) (refused (TooLong j)) a b = absurd (none_seen L bytes i j p b a.0)
one_answer L bytes (refused (Ended i p)) (whole m o z) a b = absurd (a.unfinished m o z b.1)
one_answer L bytes (refused (Ended i p)) (refused (Dead j q)) a b = absurd (none_refused L bytes j q a.viable b.0)
one_answer L bytes (refused (Ended i p)) (refused (Limit j q)) a b = absurd (none_refused L bytes j q a.viable b.0)
one_answer L bytes (refused (Ended i p)) (refused (Ended j q)) a b = let same = same_end L bytes i j p q a b in ap₂ (λ (k : ℕ) (r : Part). refused (Ended k r)) same.0 same.1
one_answer L bytes (refused (Ended i p)) (refused (TooLong j)) a b = absurd (not_within L bytes j b (ended_within L bytes i p a))
one_answer L bytes (refused (TooLong i)) (whole m o z) a b = absurd (not_within L bytes i a b.0)
one_answer L bytes (refused (TooLong i)) (refused (Dead j q)) a b = absurd (none_seen L bytes j i q a b.0)
one_answer L bytes (refused (TooLong i)) (refused (Limit j q)) a b = absurd (none_seen L bytes j i q a b.0)
one_answer L bytes (refused (TooLong i)) (refused (Ended j q)) a b = absurd (not_within L bytes i a (ended_within L bytes j q b))
one_answer L bytes (refused (TooLong i)) (refused (TooLong j)) a b =
    let same : i ≡ j = let both : Some i ≡ Some j = sym a.limit ∙ b.limit in cc in
    ap (λ (k : ℕ). refused (TooLong k)) same

-- ---- the bytes behind a refused one

take_once : (k : ℕ) (x : List ℕ) → take k (take (suc k) x) ≡ take k x
take_once zero x = refl
take_once (suc k) [] = refl
take_once (suc k) (a ∷ x) = ap (λ (y : List ℕ). a ∷ y) (take_once k x)

shorter : (k : ℕ) (x y : List ℕ) → take (k + 1) x ≡ take (k + 1) y → take k x ≡ take k y
shorter k x y e =
    let more : take (suc k) x ≡ take (suc k) y = rw (← add-one k) e in
    sym (take_once k x) ∙ ap (take k) more ∙ take_once k y

pub refused_there : (L : Bounds) (bytes others : List ℕ) (at : ℕ) (part : Part) → at < length others → take (at + 1) others ≡ take (at + 1) bytes → IsRefusedAt L bytes at part → IsRefusedAt L others at part
refused_there L bytes others at part long same h =
    let before : take at others ≡ take at bytes = shorter at others bytes same in
    record {
      seen = h.seen;
      first = record {
        inside = long;
        next = subst (λ (x : List ℕ). NextPart L x part) (sym before) h.first.next;
        after = λ v. h.first.after (subst (IsViable L) same v);
      };
    }
