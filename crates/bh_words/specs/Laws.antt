-- Laws of words; src/laws.rt states each as a function.
use Rattle.std.specs.Prelude.{◌≡◌, List}
use Rattle.bh_words.specs.declared.commands.Command.{Command}
use Rattle.bh_words.specs.Settings.{Text}
use Rattle.bh_words.specs.Words.{IsCommand}

abbrev pub OneCommand : Type 0
OneCommand = (words : List Text) (a b : Command) → IsCommand words a → IsCommand words b → a ≡ b
