-- Where a reader stands in a chunk line, and what may still follow there.
use Rattle.std.specs.Prelude.{ℕ, ◌≡◌, ◌≤◌, ◌+◌, ◌*◌, ◌↔◌, cond, nat_eq, nat_lt, List, [], ◌∷◌, ◌++◌, length, All, IsTrue, Option, Some, None, option_and_then}
use Rattle.std.specs.Char.{digit_value}
use Rattle.std.specs.Str.Parse.{digits_value_after}
use Rattle.bh_spec.specs.Bytes.{is_text_value, is_blank}
use Rattle.h1_spec.specs.Grammar.{crlf}
use Rattle.h1_spec.specs.Heads.{AreBlank}
use Rattle.h1_spec.specs.Bodies.{is_hex, IsExtension}
use Rattle.h1_spec.specs.BodyCauses.{CanBegin, IsLineOf, IsAnyLine}

pub data InLine : Type 0 where
  -- behind so many digits, which are this number
  in_digits : ℕ → ℕ → InLine
  -- behind a size: among the blanks, in the extension, behind CR, and behind the whole line
  in_blanks : ℕ → InLine
  in_extension : ℕ → InLine
  behind_cr : ℕ → InLine
  line_ended : ℕ → InLine

abbrev pub behind_size : ℕ → ℕ → Option InLine
behind_size size byte = cond (is_blank byte) (Some (in_blanks size)) (cond (nat_eq byte 59) (Some (in_extension size))
    (cond (nat_eq byte 13) (Some (behind_cr size)) None))

-- the state behind one more byte, or none where no line with a size of so many digits at most goes on
abbrev pub next_state : ℕ → InLine → ℕ → Option InLine
next_state most (in_digits count number) byte = cond (is_hex byte)
    (cond (nat_lt count most) (Some (in_digits (count + 1) (number * 16 + digit_value byte))) None)
    (cond (nat_lt 0 count) (behind_size number byte) None)
next_state most (in_blanks size) byte = behind_size size byte
next_state most (in_extension size) byte = cond (is_text_value byte) (Some (in_extension size)) (cond (nat_eq byte 13)
    (Some (behind_cr size)) None)
next_state most (behind_cr size) byte = cond (nat_eq byte 10) (Some (line_ended size)) None
next_state most (line_ended size) byte = None

abbrev pub state_behind : ℕ → InLine → List ℕ → Option InLine
state_behind most state [] = Some state
state_behind most state (byte ∷ rest) = option_and_then (λ next. state_behind most next rest) (next_state most state byte)

-- what follows a size: blanks, an extension, and the line end
abbrev pub IsSizeTail : List ℕ → Type 0
IsSizeTail bytes = (blanks extension : List ℕ) × AreBlank blanks × IsExtension extension × (bytes ≡ blanks ++ (extension ++ crlf))

-- The bytes complete a line with this size from the state.
abbrev pub Completes : ℕ → ℕ → InLine → List ℕ → Type 0
Completes most size (in_digits count number) bytes = (digits tail : List ℕ) × All (λ byte. IsTrue (is_hex byte)) digits
    × (1 ≤ count + length digits) × (count + length digits ≤ most)
    × (digits_value_after 16 number digits ≡ size) × IsSizeTail tail × (bytes ≡ digits ++ tail)
Completes most size (in_blanks own) bytes = (own ≡ size) × IsSizeTail bytes
Completes most size (in_extension own) bytes = (own ≡ size)
    × ((text : List ℕ) × All (λ byte. IsTrue (is_text_value byte)) text × (bytes ≡ text ++ crlf))
Completes most size (behind_cr own) bytes = (own ≡ size) × (bytes ≡ 10 ∷ [])
Completes most size (line_ended own) bytes = (own ≡ size) × (bytes ≡ [])

-- Some chunk line begins with the bytes exactly where there is a state behind them; they are one exactly where that is its end.
abbrev pub LineBegins : Type 0
LineBegins = (most : ℕ) (bytes : List ℕ) → 1 ≤ most → CanBegin (IsLineOf most) bytes
    ↔ ((state : InLine) × (state_behind most (in_digits 0 0) bytes ≡ Some state))

abbrev pub LineEnds : Type 0
LineEnds = (most : ℕ) (bytes : List ℕ) → 1 ≤ most → IsLineOf most bytes
    ↔ ((size : ℕ) × (state_behind most (in_digits 0 0) bytes ≡ Some (line_ended size)))

-- And so for sizes of any number of digits, where as many are allowed as there are bytes.
abbrev pub AnyLineBegins : Type 0
AnyLineBegins = (bytes : List ℕ) → 1 ≤ length bytes → CanBegin IsAnyLine bytes
    ↔ ((state : InLine) × (state_behind (length bytes) (in_digits 0 0) bytes ≡ Some state))
