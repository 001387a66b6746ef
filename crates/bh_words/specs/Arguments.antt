-- A form as the command that clap reads it by.
use Rattle.std.specs.Prelude.{◌==◌, ◌&&◌, not, Bool, true, false, List, [], ◌∷◌, ◌++◌, map, Option, Some, None, codes}
use Rattle.std.specs.List.{list_all, list_any}
use Rattle.std.specs.Str.{bytes_eq}
use Rattle.clap.specs.Simple.{on_top}
use Rattle.clap.specs.Words.{App, Rule, new_app, new_rule}
use Rattle.clap.specs.declared.builder.action.ArgAction.TheVariants.{Set, SetTrue}
use Rattle.bh_words.specs.Settings.{Text, Form}

abbrev pub option_argument : Text → Rule
option_argument name = record (new_rule name) { long = Some name; action = Some Set }

abbrev pub switch_argument : Text → Rule
switch_argument name = record (new_rule name) { long = Some name; action = Some SetTrue }

abbrev pub own_argument : Text → Rule
own_argument name = record (new_rule name) { required = true; action = Some Set }

abbrev pub own_arguments : Option Text → List Rule
own_arguments None = []
own_arguments (Some name) = own_argument name ∷ []

-- the command, with no argument yet
abbrev pub bare : App
bare = record (new_app (codes "x")) {
  top = record (new_app (codes "x")).top { no_binary_name = true; disable_help_flag = true; disable_version_flag = true };
}

abbrev pub with_arguments : List Rule → App
with_arguments arguments = record bare { top = record bare.top { rules = arguments } }

-- the command of a form
abbrev pub app : Form → App
app f = with_arguments (map option_argument f.options ++ (map switch_argument f.switches ++ own_arguments f.own))

-- the name has a byte, and no `=`
abbrev pub is_name : Text → Bool
is_name [] = false
is_name (x ∷ rest) = not (list_any (λ b. b == 61) (x ∷ rest))

abbrev pub is_among : List Text → Text → Bool
is_among names name = list_any (bytes_eq name) names

abbrev pub is_apart : Form → Option Text → Bool
is_apart f None = true
is_apart f (Some name) = not (is_among f.options name) && not (is_among f.switches name)

-- the names of the form are names, and options, switches and the own word share none
abbrev pub is_form : Form → Bool
is_form f = list_all is_name f.options && (list_all is_name f.switches &&
    (list_all (λ name. not (is_among f.options name)) f.switches && is_apart f f.own))

-- a command with more arguments
abbrev pub adding : App → List Rule → App
adding a rules = on_top (λ s. record s { rules = s.rules ++ rules }) a
