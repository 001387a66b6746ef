-- How a call of the engine ended.
use Rattle.std.specs.Prelude.{◌≡◌, ℕ, List, length}
use Rattle.bh_spec.specs.declared.Omitted.{Omitted}
use Rattle.bh_spec.specs.declared.Refusal.{Refusal}
use Rattle.bh_spec.specs.declared.Summary.{Summary}
use Rattle.bh_spec.specs.Bounds.{Bounds}
use Rattle.bh_spec.specs.Messages.{Message}
use Rattle.bh_spec.specs.Answers.{Answer, whole, refused, IsAnswer}
use Rattle.bh_spec.specs.Canonical.{canon}
use Rattle.bh_spec.specs.Reports.{summary}
use Rattle.bh_stream.specs.declared.streaming.End.{End}
use Rattle.bh_stream.specs.declared.streaming.End.TheVariants as end
use Rattle.bh_canon.specs.declared.engine.CanonEnd.{CanonEnd}
use Rattle.bh_canon.specs.declared.engine.CanonEnd.TheVariants as ends
use Rattle.bh_canon.specs.declared.engine.CheckEnd.{CheckEnd}
use Rattle.bh_canon.specs.declared.engine.CheckEnd.TheVariants as checks

-- the same end in the words of a call over a stream
abbrev pub ended : CanonEnd → End Summary Refusal
ended (ends.Done s) = end.Done s
ended (ends.Refused r) = end.Refused r
ended ends.ReadFault = end.ReadFault
ended ends.WriteFault = end.WriteFault

abbrev pub checked : CheckEnd → End Summary Refusal
checked (checks.Done s) = end.Done s
checked (checks.Refused r) = end.Refused r
checked checks.ReadFault = end.ReadFault

-- the end that an answer for an input of so many bytes has
abbrev pub end_of : Answer → ℕ → End Summary Refusal
end_of (whole m omitted padding) bytes = end.Done (summary m omitted padding bytes)
end_of (refused r) bytes = end.Refused r

-- The bytes are a message within the limits, this is its summary, and this text is what is written of it.
pub record IsOutput (L : Bounds) (output : Message → List ℕ) (bytes : List ℕ) (s : Summary) (text : List ℕ) : Type 0 where
  pub message : Message
  pub omitted : Omitted
  pub padding : ℕ
  pub answer : IsAnswer L bytes (whole message omitted padding)
  pub summary_is : s ≡ summary message omitted padding (length bytes)
  pub text_is : text ≡ output message

-- The text is the canonical one.
abbrev pub IsCanon : Bounds → List ℕ → Summary → List ℕ → Type 0
IsCanon L bytes s text = IsOutput L canon bytes s text
