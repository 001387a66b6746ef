-- What is said of the rest of a message, behind what was read, is said of the message.
use Rattle.std.proofs.Common.{◌≡◌, ◌≤◌, ◌+◌, ℕ, List, [], ◌++◌, length, take, refl, sym, ap, subst, ◌∙◌, arith}
use Rattle.std.proofs.Math.Seq.{take-append-add}
use Rattle.std.proofs.lemmas.List.{length-append}
use Rattle.bh_spec.specs.declared.Part.{Part}
use Rattle.bh_spec.specs.declared.Omitted.{Omitted}
use Rattle.bh_spec.specs.declared.Refusal.TheVariants.{Dead, Limit, Ended}
use Rattle.bh_spec.specs.Bounds.{Bounds, IsWithin, no_bounds}
use Rattle.bh_spec.specs.Messages.{Message}
use Rattle.bh_spec.specs.Texts.{Text}
use Rattle.bh_spec.specs.Viable.{SpellsBytes, IsViable, NextPart, IsMessageText}
use Rattle.bh_spec.specs.Answers.{refused, IsRefusedAt, IsAnswer}
use Rattle.bh_spec.specs.Pieces.{IsText, IsNext, IsRefused, IsDead, IsLimit}
use Rattle.bh_spec.proofs.Pieces.{next_becomes}
use Rattle.bh_decode.proofs.Contexts.{Context}

pub of_spelled : (L : Bounds) (m : Message) (o : Omitted) (z : ℕ) (bytes : List ℕ) → SpellsBytes L m o z bytes → IsText (IsMessageText L) bytes
of_spelled L m o z bytes h = record { text = h.text; spelled = (m, o, z, h.spelled); same = h.same }

-- the first bytes, up to one of the piece
pub front : (done piece : List ℕ) (k : ℕ) → take (length done + k) (done ++ piece) ≡ done ++ take k piece
front done piece k = take-append-add done piece k

pub front_more : (done piece : List ℕ) (k : ℕ) → take (length done + k + 1) (done ++ piece) ≡ done ++ take (k + 1) piece
front_more done piece k = let e : length done + k + 1 ≡ length done + (k + 1) = omega arith in ap (λ (n : ℕ). take n (done ++ piece)) e ∙ front done piece (k + 1)

refused_in : (L : Bounds) (R : Text → Type 0) (done piece : List ℕ) (k n : ℕ) (part : Part) → Context (IsMessageText L) R done n → IsRefused R [] piece k part
    → IsWithin L.input (length done + k + 1) → IsRefusedAt L (done ++ piece) (length done + k) part
refused_in L R done piece k n part c h seen = record {
  seen = seen;
  first = record {
    inside = omega (arith, length-append done piece, h.inside);
    next = subst (λ (x : List ℕ). NextPart L x part) (sym (front done piece k)) (c.next (take k piece) part h.next);
    after = λ v. h.after (c.out (take (k + 1) piece) (subst (IsViable L) (front_more done piece k) v));
  };
}

pub dead_in : (L : Bounds) (R S : Text → Type 0) (done piece : List ℕ) (k m n : ℕ) (part : Part) → Context (IsMessageText L) R done m → Context (IsMessageText no_bounds) S done n → IsDead R S [] piece k part
    → IsWithin L.input (length done + k + 1) → IsAnswer L (done ++ piece) (refused (Dead (length done + k) part))
dead_in L R S done piece k m n part c d h seen = (
  refused_in L R done piece k m part c h.refused seen,
  λ v. h.anyway (d.out (take (k + 1) piece) (subst (IsViable no_bounds) (front_more done piece k) v)),
)

pub limit_in : (L : Bounds) (R S : Text → Type 0) (done piece : List ℕ) (k m n : ℕ) (part : Part) → Context (IsMessageText L) R done m → Context (IsMessageText no_bounds) S done n → IsLimit R S [] piece k part
    → IsWithin L.input (length done + k + 1) → IsAnswer L (done ++ piece) (refused (Limit (length done + k) part))
limit_in L R S done piece k m n part c d h seen = (
  refused_in L R done piece k m part c h.refused seen,
  subst (IsViable no_bounds) (sym (front_more done piece k)) (d.into (take (k + 1) piece) h.anyway),
)

pub ended_in : (L : Bounds) (R : Text → Type 0) (done piece : List ℕ) (n : ℕ) (part : Part) → Context (IsMessageText L) R done n → n ≤ length piece → IsNext R piece part → (IsText R piece → ⊥)
    → IsWithin L.input (length (done ++ piece)) → IsAnswer L (done ++ piece) (refused (Ended (length (done ++ piece)) part))
ended_in L R done piece n part c enough next none seen = record {
  long = refl;
  seen = seen;
  viable = c.into piece (next_becomes R piece part next);
  unfinished = λ m o z h. none (c.text piece enough (of_spelled L m o z (done ++ piece) h));
  next = c.next piece part next;
}
