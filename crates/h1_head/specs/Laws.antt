-- Laws.
use Rattle.std.specs.Prelude.{ℕ, ◌≡◌, List, [], map, All, Result, MatchResult}
use Rattle.bh_spec.specs.Bytes.{AreBytes, lower}
use Rattle.bh_spec.specs.Messages.{Field}
use Rattle.h1_spec.specs.Heads.{Head, IsSection, IsHead}
use Rattle.h1_head.specs.declared.head.Head1.{Head1}
use Rattle.h1_head.specs.declared.head.HeadWhy.{HeadWhy}
use Rattle.h1_head.specs.declared.head.HeadWhy.TheVariants.{NoMemory}
use Rattle.h1_head.specs.Parsed.{head_of, IsHeadAnswer}
use Rattle.h1_head.specs.declared.reader.HeadStep.{HeadStep}
use Rattle.h1_head.specs.Ends.{ReaderView, IsStep}
use Rattle.h1_spec.specs.Written.{text_of_head, IsWritable}
use Rattle.httparse.specs.Grammar as read

-- the field that a line of `httparse` is
abbrev pub field_of : read.Field → Field
field_of f = record { name = lower f.name; value = read.field_value f }

-- the line ends in CR LF
abbrev pub EndsWell : read.Field → Type 0
EndsWell f = f.end ≡ read.crlf

-- `httparse` reads the bytes as these lines, each ended by CR LF, and nothing behind them
pub record ReadsWell (bytes : List ℕ) (fs : List read.Field) : Type 0 where
  pub reads : read.ReadsSection bytes fs read.crlf []
  pub ends : All EndsWell fs

-- The sections of the definitions are what `httparse` reads where each line ends in CR LF.
pub record ReadsAlike : Type 0 where
  pub there : (fields : List Field) (bytes : List ℕ) → IsSection fields bytes
      → (fs : List read.Field) × ReadsWell bytes fs × (map field_of fs ≡ fields)
  pub back : (fs : List read.Field) (bytes : List ℕ) → AreBytes bytes → ReadsWell bytes fs → IsSection (map field_of fs) bytes

-- A head that can be written is a head again when it is.
abbrev pub WrittenIsHead : Type 0
WrittenIsHead = (head : Head) → IsWritable head → IsHead head (text_of_head head)

-- What is written is parsed back to the same start and fields, unless memory runs out.
abbrev pub ReadBack : Type 0
ReadBack = (head : Head) (answer : Result Head1 HeadWhy) → IsWritable head → IsHeadAnswer (text_of_head head) answer
    → MatchResult answer (λ parsed. head_of parsed ≡ head) (λ why. why ≡ NoMemory)

-- A reader has one right step.
abbrev pub OneStep : Type 0
OneStep = (before after then : ReaderView) (piece : List ℕ) (a b : HeadStep) → IsStep before piece a after → IsStep before piece b then
    → (a ≡ b) × (after.seen ≡ then.seen)
