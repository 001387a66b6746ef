-- What the words behind a command's name set: its options, and the command's own word.
use Rattle.std.specs.Prelude.{ℕ, ◌≡◌, ◌≢◌, ◌⊎◌, List, [], ◌∷◌, ◌++◌, Option, Some, None, codes, option_map, is_some, IsTrue, Bool, MatchOption}
use Rattle.std.specs.List.{Contains, find}
use Rattle.std.specs.Str.{bytes_eq}

abbrev pub Text : Type 0
Text = List ℕ

-- What a command takes behind its name.
pub record Form : Type 0 where
  -- the names of its options, each of which has a value
  pub options : List Text
  -- the names of its switches, which have none
  pub switches : List Text
  -- what its own word is called, where it has one
  pub own : Option Text

-- A name, and the value that the words give it.
pub record Setting : Type 0 where
  pub name : Text
  pub value : Text

-- the word doesn't begin with a hyphen
abbrev pub IsPlain : Text → Type 0
IsPlain [] = Unit {0}
IsPlain (x ∷ xs) = x ≢ 45

-- `--name`, and `--name=value`
abbrev pub long : Text → Text
long name = codes "--" ++ name

abbrev pub attached : Text → Text → Text
attached name value = long name ++ (codes "=" ++ value)

-- The words are this setting: an option in two words, an option in one, a switch, or the command's own word.
abbrev pub IsSetting : Form → Setting → List Text → Type 0
IsSetting f s words =
    (Contains f.options s.name × IsPlain s.value × (words ≡ long s.name ∷ s.value ∷ []))
    ⊎ ((Contains f.options s.name × (words ≡ attached s.name s.value ∷ []))
    ⊎ ((Contains f.switches s.name × (s.value ≡ codes "true") × (words ≡ long s.name ∷ []))
    ⊎ ((f.own ≡ Some s.name) × IsPlain s.value × (words ≡ s.value ∷ []))))

-- the words are these settings, one behind the other
abbrev pub AreSettings : Form → List Setting → List Text → Type 0
AreSettings f [] words = words ≡ []
AreSettings f (s ∷ rest) words = (front back : List Text) × IsSetting f s front × AreSettings f rest back × (words ≡ front ++ back)

-- the value that the name is set to
abbrev pub value_of : Text → List Setting → Option Text
value_of name settings = option_map (λ s. s.value) (find (λ s. bytes_eq s.name name) settings)

-- whether the name is set
abbrev pub is_set : Text → List Setting → Bool
is_set name settings = is_some (value_of name settings)

-- no name is set twice
abbrev pub AreOnce : List Setting → Type 0
AreOnce [] = Unit {0}
AreOnce (s ∷ rest) = (value_of s.name rest ≡ None) × AreOnce rest

-- a command's own word is there
abbrev pub HasOwn : Option Text → List Setting → Type 0
HasOwn None settings = Unit {0}
HasOwn (Some name) settings = IsTrue (is_set name settings)

-- The words behind a command of this form set these values.
pub record Set (f : Form) (settings : List Setting) (words : List Text) : Type 0 where
  pub spelled : AreSettings f settings words
  pub once : AreOnce settings
  pub own : HasOwn f.own settings

-- A command of this form may have the word: it doesn't begin with a hyphen, or it names one of the options or switches.
abbrev pub IsWord : Form → Text → Type 0
IsWord f word =
    IsPlain word
    ⊎ (((name : Text) × Contains f.options name × (word ≡ long name))
    ⊎ (((name value : Text) × Contains f.options name × (word ≡ attached name value))
    ⊎ ((name : Text) × Contains f.switches name × (word ≡ long name))))

-- the answer is one of which this holds, or none where it holds of none
abbrev pub Finds : {X : Type 0} → (X → Type 0) → Option X → Type 0
Finds {X = X} P answer = MatchOption answer ((x : X) → P x → ⊥) P
