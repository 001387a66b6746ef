-- The framing number, and statuses.
use Rattle.std.proofs.Common.{◌≡◌, ℕ, zero, suc, List, [], ◌∷◌, ◌++◌, length, Option, sym, ap, subst, ◌∙◌, append-nil, arith}
use Rattle.bh_spec.specs.declared.Part.TheVariants as parts
use Rattle.bh_spec.specs.declared.Form.TheVariants.{Known, Indeterminate}
use Rattle.bh_spec.specs.declared.Kind.TheVariants.{Request, Response}
use Rattle.bh_spec.specs.Integers.{vi}
use Rattle.bh_spec.specs.Texts.{Text, mark, bytes_of, IsNumber}
use Rattle.bh_spec.proofs.Marks.{unmark, mark-append}
use Rattle.bh_spec.specs.Pieces.{SomeOf, IsNext, GoesOn}
use Rattle.std.proofs.lemmas.List.{take_all}
use Rattle.bh_control.specs.Statuses.{StatusOf}
use Rattle.bh_decode.specs.declared.stop.Stop.{Stop}
use Rattle.bh_decode.specs.Grammar.{IsFramed}
use Rattle.bh_decode.specs.Numbers.{NumberOf}
use Rattle.bh_decode.specs.Stops.{IsCutThing, StopsThing}
use Rattle.bh_decode.proofs.Stopped.{Same, thing_same}

-- ---- the framing number

framed_of : (t : Text) → SomeOf (NumberOf parts.Framing 3) t → SomeOf IsFramed t
framed_of t (zero, h) = ((Request, Known), h.spelled)
framed_of t (suc zero, h) = ((Response, Known), h.spelled)
framed_of t (suc (suc zero), h) = ((Request, Indeterminate), h.spelled)
framed_of t (suc (suc (suc zero)), h) = ((Response, Indeterminate), h.spelled)
framed_of t (suc (suc (suc (suc n))), h) = absurd (omega (arith, h.valid))

of_framed : (t : Text) → SomeOf IsFramed t → SomeOf (NumberOf parts.Framing 3) t
of_framed t ((Request, Known), h) = (0, record { valid = omega arith; spelled = h })
of_framed t ((Response, Known), h) = (1, record { valid = omega arith; spelled = h })
of_framed t ((Request, Indeterminate), h) = (2, record { valid = omega arith; spelled = h })
of_framed t ((Response, Indeterminate), h) = (3, record { valid = omega arith; spelled = h })

framed_same : Same (SomeOf (NumberOf parts.Framing 3)) (SomeOf IsFramed)
framed_same = record { on = framed_of; back = of_framed }

pub framing_stops : (bytes : List ℕ) (stop : Stop) → StopsThing (SomeOf (NumberOf parts.Framing 3)) (SomeOf (NumberOf parts.Framing 3)) bytes stop
    → StopsThing (SomeOf IsFramed) (SomeOf IsFramed) bytes stop
framing_stops bytes stop h =
    thing_same (SomeOf (NumberOf parts.Framing 3)) (SomeOf IsFramed) (SomeOf (NumberOf parts.Framing 3)) (SomeOf IsFramed) framed_same framed_same bytes stop h

-- ---- a status

-- a status that goes on behind bytes has a next byte
pub status_cut : (left : Option ℕ) (bytes : List ℕ) → GoesOn (SomeOf (StatusOf left)) [] bytes → IsCutThing (SomeOf (StatusOf left)) bytes parts.Status
status_cut left bytes h = record { on = h; next = next h.begins.after h.begins.begins }
  where
    status : ℕ
    status = h.begins.spelled.0

    number : IsNumber parts.Status status h.begins.text
    number = h.begins.spelled.1.spelled

    next : (after : List ℕ) → bytes_of h.begins.text ≡ bytes ++ after → IsNext (SomeOf (StatusOf left)) bytes parts.Status
    next [] e = absurd (h.unfinished (length bytes) (record {
      within = omega arith;
      whole = record { text = h.begins.text; spelled = h.begins.spelled; same = e ∙ append-nil bytes ∙ sym (take_all (length bytes) bytes (omega arith)) };
    }))
    next (byte ∷ after) e =
        let these : vi status number.width ≡ bytes ++ (byte ∷ after) = sym (unmark parts.Status (vi status number.width)) ∙ sym (ap bytes_of number.spelled) ∙ e in
        let text : h.begins.text ≡ mark parts.Status bytes ++ ((parts.Status, byte) ∷ mark parts.Status after) =
        number.spelled ∙ ap (mark parts.Status) these ∙ mark-append parts.Status bytes (byte ∷ after) in
        record {
          before = mark parts.Status bytes;
          byte = byte;
          after = mark parts.Status after;
          spelled = subst (SomeOf (StatusOf left)) text h.begins.spelled;
          begins = unmark parts.Status bytes;
        }
