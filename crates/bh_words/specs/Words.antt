-- Which words mean which command.
use Rattle.std.specs.Prelude.{ℕ, ◌≡◌, ◌≤◌, List, [], ◌∷◌, Option, Some, None, Bool, is_some, codes}
use Rattle.bh_spec.specs.Bounds.{Bounds, default_bounds}
use Rattle.bh_model.specs.Ranges.{AreLimits}
use Rattle.h1_spec.specs.declared.Scheme1.{Scheme1}
use Rattle.h1_spec.specs.declared.Scheme1.TheVariants.{Https}
use Rattle.h1_spec.specs.Targets.{scheme_of}
use Rattle.bh_words.specs.declared.commands.Command.{Command}
use Rattle.bh_words.specs.declared.commands.Command.TheVariants.{Canon, Check, Show, FromHttp1, ToHttp1, Trial}
use Rattle.bh_words.specs.Numbers.{IsNumber, IsGiven}
use Rattle.bh_words.specs.Settings.{Text, Form, Setting, Set, value_of}

-- the forms of the commands
abbrev pub limited : Form
limited = record { options = codes "part" ∷ codes "section" ∷ codes "interims" ∷ codes "input" ∷ []; switches = []; own = None }

abbrev pub from_http1 : Form
from_http1 = record {
  options = codes "part" ∷ codes "section" ∷ codes "interims" ∷ codes "input" ∷ codes "scheme" ∷ [];
  switches = codes "to-head" ∷ [];
  own = None;
}

abbrev pub into_http1 : Form
into_http1 = record {
  options = codes "part" ∷ codes "section" ∷ codes "interims" ∷ codes "input" ∷ [];
  switches = codes "to-head" ∷ [];
  own = None;
}

abbrev pub counted : Form
counted = record { options = []; switches = []; own = Some (codes "N") }

-- The limits are those that the values give, and the default one for each that they don't.
pub record AreGiven (value : Text → Option Text) (limits : Bounds) : Type 0 where
  pub part : IsGiven (value (codes "part")) default_bounds.part limits.part
  pub section : IsGiven (value (codes "section")) default_bounds.section limits.section
  pub interims : IsGiven (value (codes "interims")) default_bounds.interims limits.interims
  pub input : IsGiven (value (codes "input")) default_bounds.input limits.input
  pub valid : AreLimits limits

-- the limits, and whether a response answers HEAD
pub record AreInto (value : Text → Option Text) (limits : Bounds) (to_head : Bool) : Type 0 where
  pub given : AreGiven value limits
  pub switched : to_head ≡ is_some (value (codes "to-head"))

-- the scheme is the one that a value gives, `http` or `https`, and `https` where there is none
abbrev pub IsScheme : Option Text → Scheme1 → Type 0
IsScheme None scheme = scheme ≡ Https
IsScheme (Some text) scheme = text ≡ scheme_of scheme

-- the same, and the scheme of a request whose target names none
pub record AreFrom (value : Text → Option Text) (limits : Bounds) (scheme : Scheme1) (to_head : Bool) : Type 0 where
  pub headed : AreInto value limits to_head
  pub named : IsScheme (value (codes "scheme")) scheme

-- the number is the one that the values give, and not too great
pub record IsTrial (value : Text → Option Text) (n : ℕ) : Type 0 where
  pub text : Text
  pub there : value (codes "N") ≡ Some text
  pub number : IsNumber text n
  pub most : n ≤ 67108864

-- Of each command its name, what it takes behind it, and which values mean it.
abbrev pub name_of : Command → Text
name_of (Canon limits) = codes "canon"
name_of (Check limits) = codes "check"
name_of (Show limits) = codes "show"
name_of (FromHttp1 limits scheme to_head) = codes "from-http1"
name_of (ToHttp1 limits to_head) = codes "to-http1"
name_of (Trial n) = codes "trial"

abbrev pub form_of_command : Command → Form
form_of_command (Canon limits) = limited
form_of_command (Check limits) = limited
form_of_command (Show limits) = limited
form_of_command (FromHttp1 limits scheme to_head) = from_http1
form_of_command (ToHttp1 limits to_head) = into_http1
form_of_command (Trial n) = counted

abbrev pub IsMeant : Command → (Text → Option Text) → Type 0
IsMeant (Canon limits) value = AreGiven value limits
IsMeant (Check limits) value = AreGiven value limits
IsMeant (Show limits) value = AreGiven value limits
IsMeant (FromHttp1 limits scheme to_head) value = AreFrom value limits scheme to_head
IsMeant (ToHttp1 limits to_head) value = AreInto value limits to_head
IsMeant (Trial n) value = IsTrial value n

-- The words mean the command.
pub record IsCommand (words : List Text) (command : Command) : Type 0 where
  pub rest : List Text
  pub named : words ≡ name_of command ∷ rest
  pub settings : List Setting
  pub set : Set (form_of_command command) settings rest
  pub meant : IsMeant command (λ name. value_of name settings)

-- the words behind a name mean the limits; what `from-http1` and `to-http1` say beside them; and the number of `trial`
abbrev pub MeanLimits : List Text → Bounds → Type 0
MeanLimits words limits = (settings : List Setting) × Set limited settings words × AreGiven (λ name. value_of name settings) limits

abbrev pub MeanFrom : List Text → Bounds → Scheme1 → Bool → Type 0
MeanFrom words limits scheme to_head = (settings : List Setting) × Set from_http1 settings words
    × AreFrom (λ name. value_of name settings) limits scheme to_head

abbrev pub MeanInto : List Text → Bounds → Bool → Type 0
MeanInto words limits to_head = (settings : List Setting) × Set into_http1 settings words
    × AreInto (λ name. value_of name settings) limits to_head

abbrev pub MeanTrial : List Text → ℕ → Type 0
MeanTrial words n = (settings : List Setting) × Set counted settings words × IsTrial (λ name. value_of name settings) n
