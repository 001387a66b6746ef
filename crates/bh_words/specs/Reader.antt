-- What a reading of words gives.
use Rattle.std.specs.Prelude.{◌≡◌, List, false, Some, codes, if◌then◌else◌}
use Rattle.std.specs.List.{Contains}
use Rattle.clap.specs.Matches.{first_value, found_of, one_text}
use Rattle.clap.specs.declared.parser.matches.ArgMatches.{ArgMatches}
use Rattle.bh_words.specs.Settings.{Text, Form, Setting, Set, value_of, is_set}
use Rattle.bh_words.specs.Arguments.{is_among}

-- a command of this form has no such words
abbrev pub SetsNothing : Form → List Text → Type 0
SetsNothing f words = (settings : List Setting) → Set f settings words → ⊥

-- the matches give the values that the words set, and say of each switch whether it is set
pub record Give (f : Form) (settings : List Setting) (matches : ArgMatches) : Type 0 where
  pub values : (name : Text) → is_among f.switches name ≡ false → first_value (found_of matches) name ≡ value_of name settings
  pub flags : (name : Text) → Contains f.switches name
      → one_text (found_of matches) name ≡ Some (if is_set name settings then codes "true" else codes "false")

-- the words set what the matches give
abbrev pub Sets : Form → List Text → ArgMatches → Type 0
Sets f words matches = (settings : List Setting) × Set f settings words × Give f settings matches
