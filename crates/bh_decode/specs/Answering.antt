-- What a reader of inputs says, by the definitions' answer.
use Rattle.std.specs.Prelude.{ℕ, ◌≡◌, List, Result, Ok, Err}
use Rattle.bh_spec.specs.Bounds.{Bounds}
use Rattle.bh_spec.specs.Messages.{Message}
use Rattle.bh_spec.specs.declared.Omitted.{Omitted}
use Rattle.bh_spec.specs.declared.Refusal.{Refusal}
use Rattle.bh_spec.specs.declared.Refusal.TheVariants.{Dead, Limit, Ended, TooLong}
use Rattle.bh_spec.specs.Answers.{Answer, whole, refused, IsAnswer}
use Rattle.bh_decode.specs.declared.spelling.Spelling.{Spelling}
use Rattle.bh_decode.specs.declared.spelling.ReadError.{ReadError}
use Rattle.bh_decode.specs.declared.spelling.ReadError.TheVariants.{Refused, NoMemory}

-- what was read is the answer for the input, unless memory ran out
abbrev pub Says : Bounds → List ℕ → Result Spelling ReadError → Type 0
Says L bytes (Ok spelling) = IsAnswer L bytes (whole spelling.message spelling.end.omitted spelling.end.padding)
Says L bytes (Err (Refused refusal)) = IsAnswer L bytes (refused refusal)
Says L bytes (Err NoMemory) = Unit {0}

-- the refusal of an input of more than so many bytes, by that of the bytes up to there
abbrev pub past_limit : ℕ → Refusal → Refusal
past_limit most (Dead at part) = Dead at part
past_limit most (Limit at part) = Limit at part
past_limit most (Ended at part) = TooLong most
past_limit most (TooLong at) = TooLong most

-- the answer is what was read, unless memory ran out
abbrev pub IsOnly : Answer → Result Spelling ReadError → Type 0
IsOnly answer (Ok spelling) = answer ≡ whole spelling.message spelling.end.omitted spelling.end.padding
IsOnly answer (Err (Refused refusal)) = answer ≡ refused refusal
IsOnly answer (Err NoMemory) = Unit {0}

-- the same where only the message is told
abbrev pub SaysMessage : Bounds → List ℕ → Result Message ReadError → Type 0
SaysMessage L bytes (Ok message) = (omitted : Omitted) × (padding : ℕ) × IsAnswer L bytes (whole message omitted padding)
SaysMessage L bytes (Err (Refused refusal)) = IsAnswer L bytes (refused refusal)
SaysMessage L bytes (Err NoMemory) = Unit {0}

abbrev pub IsOnlyMessage : Answer → Result Message ReadError → Type 0
IsOnlyMessage answer (Ok message) = (omitted : Omitted) × (padding : ℕ) × (answer ≡ whole message omitted padding)
IsOnlyMessage answer (Err (Refused refusal)) = answer ≡ refused refusal
IsOnlyMessage answer (Err NoMemory) = Unit {0}
