-- What each call of a port in memory that never fails does, as the traits ask it, and what any number of calls did.
use Rattle.std.specs.Prelude.{◌≡◌, ◌<◌, ◌+◌, ◌%◌, ◌^◌, ℕ, zero, suc, min, Bool, true, false, List, [], ◌∷◌, ◌++◌, length, take, drop, Option, Some, None, Result, Ok, Err}
use Rattle.std.specs.List.{sum, list_any}
use Rattle.std.specs.Io.KnownBytes.{IsAtEnd}
use Rattle.std.proofs.Common.{refl, sym, ◌∙◌, ap, arith, take-append-drop, length-take, length-append, drop-drop, inl, inr}
use Rattle.std.proofs.Math.Nat.{mod-add-mod, mod-eq_of_lt}
use Rattle.std.proofs.lemmas.Nat.{mod_below}
use Rattle.std.proofs.lemmas.List.Sums.{fold-append, sum_by-cons}
use Rattle.bh_base.specs.declared.failed.Failed.{Failed}
use Rattle.bh_base.specs.Steps.{Step, Read, Entry, is_empty, meets_end, fails, taken, given, taken_by, given_by, is_bad_write, ReadFacts, WriteFacts, ReadLeaves, WriteLeaves, Chain, none, next, Either, WroteAll}
use Rattle.bh_base.specs.MemoryLaws.{read_stays, taking_ends}
use Rattle.bh_base.specs.StepLaws.{stops_fails, bad_writes_fail}
use Rattle.bh_base.specs.SurePorts.{SureView, grown, added, sure_read_of, after_taking, SureRead, after_giving, SureWrite}

abbrev pub sure_left : SureView → Option (List ℕ)
sure_left v = Some v.left

abbrev pub sure_ended : SureView → Bool
sure_ended v = is_empty v.left

-- it tells neither what was sent nor a log
abbrev pub untold_bytes : SureView → Option (List ℕ)
untold_bytes v = None

abbrev pub untold_log : SureView → Option (List Entry)
untold_log v = None

abbrev pub no_faults : SureView → ℕ
no_faults v = 0

pub sure_at_end : (v : SureView) → sure_ended v ≡ true → IsAtEnd (sure_left v)
sure_at_end v e = empty v.left e
  where
    empty : (xs : List ℕ) → is_empty xs ≡ true → xs ≡ []
    empty [] e = refl
    empty (x ∷ xs) e = cc

read_ends : (xs : List ℕ) (len : ℕ) → meets_end (Read len (take (min len (length xs)) xs)) ≡ true
    → is_empty (drop (min len (length xs)) xs) ≡ true
read_ends xs zero e = absurd (cc)
read_ends xs (suc len) e = taking_ends xs (min (suc len) (length xs)) (λ some. omega (arith, some)) e

read_facts : (v : SureView) (len : ℕ) → ReadFacts sure_left no_faults sure_ended v (sure_read_of v len) (after_taking v len)
read_facts v len = record {
  only = tt;
  fits = simp length-take (omega arith);
  counts = refl;
  comes = sym (take-append-drop (min len (length v.left)) v.left);
  end = read_ends v.left len;
  stays = read_stays v.left (min len (length v.left));
}

pub sure_read_law : (s t : SureView) (x : Step) → SureRead s x t → ReadFacts sure_left no_faults sure_ended s x t
sure_read_law s t x h = rw (h.after, h.call) (read_facts s h.len)

pub sure_read_leaves : (s t : SureView) (x : Step) → SureRead s x t → ReadLeaves untold_bytes no_faults untold_log s x t
sure_read_leaves s t x h = record { same_sent = refl; same_faults = refl; logs = tt }

pub sure_write_law : (s t : SureView) (x : Step) → SureWrite s x t → WriteFacts untold_bytes no_faults s x t
sure_write_law s t x h = rw (h.call) record { only = tt; fits = omega arith; some = λ h. h; counts = refl; goes = tt }

pub sure_write_leaves : (s t : SureView) (x : Step) → SureWrite s x t
    → WriteLeaves sure_left no_faults sure_ended untold_log s x t
sure_write_leaves s t x h = rw (h.after) record { same_left = refl; same_faults = refl; same_end = refl; logs = tt }

-- The sum is that of the bytes, modulo 2 ^ 64.
pub added_is : (n : ℕ) (bytes : List ℕ) → n < 2 ^ 64 → added n bytes ≡ (n + sum bytes) % 2 ^ 64
added_is n [] h = sym (ap (λ (k : ℕ). k % 2 ^ 64) (omega arith) ∙ mod-eq_of_lt h)
added_is n (x ∷ bytes) h =
    added_is ((n + x) % 2 ^ 64) bytes (mod_below (n + x) (2 ^ 64) (omega arith))
    ∙ mod-add-mod (n + x) (2 ^ 64) (sum bytes)
    ∙ ap (λ (k : ℕ). k % 2 ^ 64) (omega (arith, sum_by-cons (λ x. x) x bytes))

pub grown_joins : (n : ℕ) (front back : List ℕ) → grown (grown n (length front)) (length back) ≡ grown n (length (front ++ back))
grown_joins n front back = simp length-append (omega arith)

pub added_joins : (n : ℕ) (front back : List ℕ) → added (added n front) back ≡ added n (front ++ back)
added_joins n front back = sym (fold-append (λ n byte. (n + byte) % 2 ^ 64) n front back)

-- the port after these bytes were taken and these given
abbrev pub sure_after : SureView → List ℕ → List ℕ → SureView
sure_after v taken given = record {
  left = drop (length taken) v.left;
  written = grown v.written (length given);
  sum = added v.sum given;
}

grown_none : (n : ℕ) → n ≡ grown n 0
grown_none n = omega arith

after_none : (v : SureView) → v ≡ sure_after v [] []
after_none v = λ i. record v { written = grown_none v.written i }

after_read : (v w : SureView) (x : Step) → SureRead v x w → w ≡ sure_after v (taken_by x) (given_by x)
after_read v w x h = rw (h.call, h.after) (of v h.len (min h.len (length v.left)) refl)
  where
    of : (v : SureView) (len n : ℕ) → n ≡ min len (length v.left)
        → record v { left = drop n v.left } ≡ sure_after v (take n v.left) []
    of v len n is =
        let long : n ≡ length (take n v.left) = simp length-take (omega (arith, is)) in
        λ i. record { left = drop (long i) v.left; written = grown_none v.written i; sum = v.sum }

after_write : (v w : SureView) (x : Step) → SureWrite v x w → w ≡ sure_after v (taken_by x) (given_by x)
after_write v w x h = rw (h.call) h.after

after_both : (v : SureView) (taken_first taken_then sent_first sent_then : List ℕ)
    → sure_after (sure_after v taken_first sent_first) taken_then sent_then
    ≡ sure_after v (taken_first ++ taken_then) (sent_first ++ sent_then)
after_both v taken_first taken_then sent_first sent_then = λ i. record {
  left = rest i;
  written = grown_joins v.written sent_first sent_then i;
  sum = added_joins v.sum sent_first sent_then i;
}
  where
    rest : drop (length taken_then) (drop (length taken_first) v.left) ≡ drop (length (taken_first ++ taken_then)) v.left
    rest = drop-drop (length taken_then) (length taken_first) v.left ∙ ap (λ (k : ℕ). drop k v.left) (simp length-append (omega arith))

-- Any number of calls took and gave their bytes together.
pub sure_chain : {v w : SureView} {steps : List Step} → Chain (Either SureRead SureWrite) v steps w
    → w ≡ sure_after v (taken steps) (given steps)
sure_chain (none {s = s}) = after_none s
sure_chain (next {s = s} {t = t} {x = x} {steps = steps} one more) =
    sure_chain more ∙ ap (λ (y : SureView). sure_after y (taken steps) (given steps)) (by_kind one)
    ∙ after_both s (taken_by x) (taken steps) (given_by x) (given steps)
  where
    by_kind : Either SureRead SureWrite s x t → t ≡ sure_after s (taken_by x) (given_by x)
    by_kind (inl h) = after_read s t x h
    by_kind (inr h) = after_write s t x h

-- So did writes alone.
pub sure_writes : {v w : SureView} {steps : List Step} → Chain SureWrite v steps w → w ≡ after_giving v (given steps)
sure_writes (none {s = s}) = after_none s
sure_writes (next {s = s} {t = t} {x = x} {steps = steps} one more) =
    sure_writes more ∙ ap (λ (y : SureView). after_giving y (given steps)) (goes one) ∙ after_both s [] [] (given_by x) (given steps)
  where
    goes : SureWrite s x t → t ≡ after_giving s (given_by x)
    goes h = rw (h.call) h.after

-- None of them fails.
quiet_writes : {v w : SureView} {steps : List Step} → Chain SureWrite v steps w → list_any fails steps ≡ false
quiet_writes none = refl
quiet_writes (next {s = s} {t = t} {x = x} {steps = steps} one more) = rw (works one) (quiet_writes more)
  where
    works : SureWrite s x t → fails x ≡ false
    works h = rw (h.call) refl

-- So `write_all` doesn't fail here.
pub sure_wrote : {v w : SureView} {piece : List ℕ} {r : Result (Unit {0}) Failed} → WroteAll SureWrite v piece r w
    → (r ≡ Ok tt) × (w ≡ after_giving v piece)
sure_wrote {v = v} {r = Ok tt} h = (refl, sure_writes h.chain ∙ ap (after_giving v) h.whole.0)
sure_wrote {r = Err e} h =
    let some : list_any fails h.steps ≡ true = stops_fails is_bad_write fails h.steps bad_writes_fail h.part.2 in
    absurd (let none = quiet_writes h.chain in cc)
