-- What each call of the port of `trial` does, as the traits ask it, and what any number of calls did.
use Rattle.std.specs.Prelude.{◌≡◌, ◌<◌, ◌+◌, ◌%◌, ◌^◌, ℕ, zero, suc, true, List, [], ◌∷◌, ◌++◌, length}
use Rattle.std.specs.Io.KnownBytes.{IsAtEnd}
use Rattle.std.proofs.Common.{refl, sym, ◌∙◌, ap, arith, length-append, inl, inr}
use Rattle.std.proofs.Math.Nat.{mod-add-mod, mod-eq_of_lt}
use Rattle.std.proofs.lemmas.Nat.{mod_below}
use Rattle.std.proofs.lemmas.List.Elements.{All-append}
use Rattle.bh_spec.specs.Bytes.{AreBytes}
use Rattle.bh_base.specs.Steps.{Step, Read, is_empty, meets_end, given, given_by, ReadFacts, WriteFacts, ReadLeaves, WriteLeaves, Chain, none, next, Either}
use Rattle.bh_base.specs.SurePorts.{added}
use Rattle.bh_base.specs.SureLaws.{added_joins}
use Rattle.bh_cmd.specs.Trials.{TrialView, TrialRead, TrialWrite, trial_left, trial_ended, untold_bytes, untold_log, no_faults}

empty_is : (xs : List ℕ) → xs ≡ [] → is_empty xs ≡ true
empty_is xs e = ap is_empty e

is_nothing : (xs : List ℕ) → is_empty xs ≡ true → xs ≡ []
is_nothing [] e = refl
is_nothing (x ∷ xs) e = absurd cc

pub trial_at_end : (v : TrialView) → trial_ended v ≡ true → IsAtEnd (trial_left v)
trial_at_end v e = is_nothing v.left e

nothing_before : (xs ys : List ℕ) → is_empty (xs ++ ys) ≡ true → (is_empty ys ≡ true) × (xs ≡ [])
nothing_before [] ys e = (e, refl)
nothing_before (x ∷ xs) ys e = absurd cc

meets : (len : ℕ) (bytes left : List ℕ) → (0 < len → bytes ≡ [] → left ≡ []) → meets_end (Read len bytes) ≡ true → is_empty left ≡ true
meets zero bytes left end e = absurd cc
meets (suc len) bytes left end e = empty_is left (end (omega arith) (is_nothing bytes e))

pub trial_read_law : (s t : TrialView) (x : Step) → TrialRead s x t → ReadFacts trial_left no_faults trial_ended s x t
trial_read_law s t x h = rw (h.call) record {
  only = tt;
  fits = h.fits;
  counts = refl;
  comes = h.comes;
  end = meets h.len h.bytes t.left h.end;
  stays = λ e. nothing_before h.bytes t.left (sym (ap is_empty h.comes) ∙ e);
}

pub trial_read_leaves : (s t : TrialView) (x : Step) → TrialRead s x t → ReadLeaves untold_bytes no_faults untold_log s x t
trial_read_leaves s t x h = record { same_sent = refl; same_faults = refl; logs = tt }

pub trial_write_law : (s t : TrialView) (x : Step) → TrialWrite s x t → WriteFacts untold_bytes no_faults s x t
trial_write_law s t x h = rw (h.call) record { only = tt; fits = omega arith; some = λ h. h; counts = refl; goes = tt }

pub trial_write_leaves : (s t : TrialView) (x : Step) → TrialWrite s x t → WriteLeaves trial_left no_faults trial_ended untold_log s x t
trial_write_leaves s t x h = rw (h.after) record { same_left = refl; same_faults = refl; same_end = refl; logs = tt }

-- Any number of calls counted the bytes that they gave together.
pub record Counted (v : TrialView) (given : List ℕ) (w : TrialView) : Type 0 where
  pub written : w.written ≡ (v.written + length given) % 2 ^ 64
  pub sum : w.sum ≡ added v.sum given
  pub bytes : AreBytes given

more_counted : (n a b : ℕ) → ((n + a) % 2 ^ 64 + b) % 2 ^ 64 ≡ (n + (a + b)) % 2 ^ 64
more_counted n a b = mod-add-mod (n + a) (2 ^ 64) b ∙ ap (λ (k : ℕ). k % 2 ^ 64) (omega arith)

counted_read : {v t w : TrialView} {x : Step} {bytes : List ℕ} → TrialRead v x t → Counted t bytes w → Counted v (given_by x ++ bytes) w
counted_read {bytes = bytes} h rest = rw (h.call) record {
  written = rest.written ∙ ap (λ (k : ℕ). (k + length bytes) % 2 ^ 64) h.same_written;
  sum = rest.sum ∙ ap (λ (k : ℕ). added k bytes) h.same_sum;
  bytes = rest.bytes;
}

written_now : {v t : TrialView} {x : Step} → (h : TrialWrite v x t) → t.written ≡ (v.written + length h.piece) % 2 ^ 64
written_now h = ap (λ (y : TrialView). y.written) h.after

counted_write : {v t w : TrialView} {x : Step} {bytes : List ℕ} → TrialWrite v x t → Counted t bytes w → Counted v (given_by x ++ bytes) w
counted_write {v = v} {t = t} {bytes = bytes} h rest =
    let summed : t.sum ≡ added v.sum h.piece = ap (λ (y : TrialView). y.sum) h.after in
    rw (h.call) record {
      written = rest.written ∙ ap (λ (k : ℕ). (k + length bytes) % 2 ^ 64) (written_now h)
          ∙ more_counted v.written (length h.piece) (length bytes)
          ∙ ap (λ (k : ℕ). (v.written + k) % 2 ^ 64) (sym (length-append h.piece bytes));
      sum = rest.sum ∙ ap (λ (k : ℕ). added k bytes) summed ∙ added_joins v.sum h.piece bytes;
      bytes = All-append (λ n. n < 256) h.piece bytes h.bytes rest.bytes;
    }

small_read : {v t : TrialView} {x : Step} → TrialRead v x t → v.written < 2 ^ 64 → t.written < 2 ^ 64
small_read h small = omega (arith, h.same_written, small)

small_write : {v t : TrialView} {x : Step} → TrialWrite v x t → t.written < 2 ^ 64
small_write {v = v} h = omega (arith, written_now h, mod_below (v.written + length h.piece) (2 ^ 64) (omega arith))

pub trial_counted : {v w : TrialView} {steps : List Step} → Chain (Either TrialRead TrialWrite) v steps w → v.written < 2 ^ 64
    → Counted v (given steps) w
trial_counted (none {s = s}) small = record {
  written = sym (ap (λ (k : ℕ). k % 2 ^ 64) (omega arith) ∙ mod-eq_of_lt small);
  sum = refl;
  bytes = λ k d within. absurd (omega (arith, within));
}
trial_counted (next (inl h) more) small = counted_read h (trial_counted more (small_read h small))
trial_counted (next (inr h) more) small = counted_write h (trial_counted more (small_write h))
