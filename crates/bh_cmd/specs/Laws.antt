-- Laws of two runs of `bhttp`, of which the second reads what the first sent.
use Rattle.std.specs.Prelude.{◌≡◌, ◌⊎◌, ℕ, Bool, List, ◌++◌, length, Some}
use Rattle.bh_spec.specs.Bounds.{Bounds, IsWithin}
use Rattle.bh_spec.specs.Canonical.{canon}
use Rattle.bh_spec.specs.Messages.{Message}
use Rattle.bh_base.specs.Steps.{Meanings, Rose}
use Rattle.h1_spec.specs.declared.Scheme1.{Scheme1}
use Rattle.h1_spec.specs.Cleaning.{clean_message}
use Rattle.h1_spec.specs.Http1Text.{KeepsLimits}
use Rattle.bh_translate.specs.From.{FromTold, FromCompletes}
use Rattle.bh_translate.specs.Into.{IntoTold}
use Rattle.bh_translate.specs.Laws.{IsSent}
use Rattle.bh_cmd.specs.declared.exits.Exit.{Exit}
use Rattle.bh_cmd.specs.declared.exits.Exit.TheVariants.{NoMemory}
use Rattle.bh_cmd.specs.Exits.{ReadsSo, TranslatesSo, status_of}

-- The port tells what was sent to it, and these bytes were between the two states.
abbrev pub Sends : {S : Type 0} → Meanings S → S → S → List ℕ → Type 0
Sends port s t bytes = (before : List ℕ) × (port.sent s ≡ Some before) × (port.sent t ≡ Some (before ++ bytes))

-- A run of `to-http1` over a port with this input, which sent this text, and a run of `from-http1` over a port with the text as its
-- input. What is said of the two is what `to_http1_told`, `from_http1_told` and `from_http1_complete` of `run` say.
pub record AreThereAndBack {S U : Type 0} (first : Meanings S) (second : Meanings U) (K L : Bounds) (scheme : Scheme1) (to_head : Bool)
    (input text : List ℕ) (s : S) (there : Exit) (t : S) (u : U) (back : Exit) (v : U) : Type 0 where
  pub reads : first.left s ≡ Some input
  pub there_told : TranslatesSo there (t ≡ s) (λ r. IntoTold K to_head first s r t)
  pub sends : Sends first s t text
  pub reads_text : second.left u ≡ Some text
  pub back_told : ReadsSo back (v ≡ u) (λ r. FromTold L scheme to_head second u r v)
  pub back_complete : ReadsSo back (v ≡ u) (λ r. FromCompletes L scheme to_head second u r v)

-- There and back: where both end with status 0, the second sent the canonical text of the cleaned message.
abbrev pub RunsThereAndBack : {S U : Type 0} → Meanings S → Meanings U → Type 0
RunsThereAndBack {S} {U} first second = (K L : Bounds) (scheme : Scheme1) (to_head : Bool) (input text output : List ℕ) (m : Message)
    (s : S) (there : Exit) (t : S) (u : U) (back : Exit) (v : U)
    → AreThereAndBack first second K L scheme to_head input text s there t u back v → status_of there ≡ 0 → status_of back ≡ 0
    → Sends second u v output → IsSent K scheme to_head input m → output ≡ canon (clean_message m)

-- And the second ends with status 0, or memory ran out, where its port counted no fault and the text keeps its limits.
abbrev pub RunBackIsDone : {S U : Type 0} → Meanings S → Meanings U → Type 0
RunBackIsDone {S} {U} first second = (K L : Bounds) (scheme : Scheme1) (to_head : Bool) (input text : List ℕ) (m : Message)
    (s : S) (there : Exit) (t : S) (u : U) (back : Exit) (v : U)
    → AreThereAndBack first second K L scheme to_head input text s there t u back v → status_of there ≡ 0
    → (Rose (second.read_faults u) (second.read_faults v) → ⊥) → (Rose (second.write_faults u) (second.write_faults v) → ⊥)
    → IsSent K scheme to_head input m → KeepsLimits L to_head (clean_message m) → IsWithin L.input (length text)
    → (status_of back ≡ 0) ⊎ (back ≡ NoMemory)
