-- Laws of two translations, one of what the other sent.
use Rattle.std.specs.Prelude.{◌≡◌, ℕ, Bool, List, [], length, Option, Some}
use Rattle.bh_spec.specs.declared.Omitted.{Omitted}
use Rattle.bh_spec.specs.declared.Summary.{Summary}
use Rattle.bh_spec.specs.declared.H1Why.{H1Why}
use Rattle.bh_spec.specs.Bounds.{Bounds, IsWithin}
use Rattle.bh_spec.specs.Canonical.{canon}
use Rattle.bh_spec.specs.Messages.{Message}
use Rattle.bh_base.specs.Steps.{Rose}
use Rattle.bh_stream.specs.Messages.{IsTextOf}
use Rattle.bh_stream.specs.Telling.{Tells, Completes}
use Rattle.bh_stream.specs.declared.streaming.End.{End}
use Rattle.bh_stream.specs.declared.streaming.End.TheVariants as end
use Rattle.h1_spec.specs.declared.Scheme1.{Scheme1}
use Rattle.h1_spec.specs.Cleaning.{clean_message}
use Rattle.h1_spec.specs.Http1Text.{http1, KeepsLimits}
use Rattle.h1_spec.specs.Laws.{IsSchemeOf}
use Rattle.h1_spec.specs.Translation.{formed, IsIntoAnswer, IsFromAnswer}
use Rattle.bh_translate.specs.From.{IsTextFrom, IsRightFrom, from_end_of}
use Rattle.bh_translate.specs.Into.{IsRightInto}

-- `to_http1` over a port that tells its input, and that it sent this text, ended with `Done`.
abbrev pub IsSentThere : Bounds → Bool → Summary → List ℕ → List ℕ → Option (List ℕ) → Type 0
IsSentThere L to_head s input text left =
    Tells (IsTextOf L) (http1 to_head) L.input (IsRightInto L to_head) (end.Done s) input left (Some []) (Some text)

-- The message that the input is, where the scheme with which its text is read is the message's own.
pub record IsSent (L : Bounds) (scheme : Scheme1) (to_head : Bool) (input : List ℕ) (m : Message) : Type 0 where
  pub omitted : Omitted
  pub padding : ℕ
  pub answer : IsIntoAnswer L to_head input (formed m omitted padding)
  pub scheme_is : IsSchemeOf m.start scheme

-- There and back: where `from_http1` of that text ended with `Done` too, it sent the canonical text of the cleaned message.
abbrev pub ThereAndBack : Type 0
ThereAndBack = (K L : Bounds) (scheme : Scheme1) (to_head : Bool) (s t : Summary) (input text output : List ℕ) (left gone : Option (List ℕ))
    (m : Message) → IsSentThere K to_head s input text left
    → Tells (IsTextFrom L scheme to_head) canon L.input (IsRightFrom L scheme to_head) (end.Done t) text gone (Some []) (Some output)
    → IsSent K scheme to_head input m → output ≡ canon (clean_message m)

-- And it ended with `Done` where it counted no fault and the text keeps its limits.
abbrev pub BackIsDone : Type 0
BackIsDone = (K L : Bounds) (scheme : Scheme1) (to_head : Bool) (s : Summary) (r : End Summary H1Why) (input text : List ℕ)
    (left : Option (List ℕ)) (reads_before reads_now writes_before writes_now : ℕ) (m : Message) → IsSentThere K to_head s input text left
    → Completes (IsFromAnswer L scheme to_head) from_end_of r text reads_before reads_now writes_before writes_now
    → (Rose reads_before reads_now → ⊥) → (Rose writes_before writes_now → ⊥)
    → IsSent K scheme to_head input m → KeepsLimits L to_head (clean_message m) → IsWithin L.input (length text)
    → (t : Summary) × (r ≡ end.Done t)
