-- What a reader says of the bytes before a piece and of the piece, for any kind of text: R within the limits, S without.
use Rattle.std.specs.Prelude.{ℕ, ◌≡◌, ◌<◌, ◌≤◌, ◌+◌, List, ◌∷◌, ◌++◌, length, take}
use Rattle.bh_spec.specs.declared.Part.{Part}
use Rattle.bh_spec.specs.Texts.{Text, bytes_of}

-- a text of one of several things
abbrev pub SomeOf : {I : Type 0} → (I → Text → Type 0) → Text → Type 0
SomeOf {I} A t = (i : I) × A i t

-- the bytes are a text of the kind
pub record IsText (R : Text → Type 0) (bytes : List ℕ) : Type 0 where
  pub text : Text
  pub spelled : R text
  pub same : bytes_of text ≡ bytes

-- some text of the kind begins with the bytes
pub record CanBecome (R : Text → Type 0) (bytes : List ℕ) : Type 0 where
  pub text : Text
  pub after : List ℕ
  pub spelled : R text
  pub begins : bytes_of text ≡ bytes ++ after

-- some text of the kind begins with the bytes and is longer, and its next byte carries the part
pub record IsNext (R : Text → Type 0) (bytes : List ℕ) (part : Part) : Type 0 where
  pub before : Text
  pub byte : ℕ
  pub after : Text
  pub spelled : R (before ++ ((part, byte) ∷ after))
  pub begins : bytes_of before ≡ bytes

-- the first bytes of the piece, up to and with the last of them, end a text
pub record Ends (R : Text → Type 0) (bytes piece : List ℕ) (taken : ℕ) : Type 0 where
  pub within : taken ≤ length piece
  pub whole : IsText R (bytes ++ take taken piece)

-- the whole piece was taken, and a text goes on behind it
pub record GoesOn (R : Text → Type 0) (bytes piece : List ℕ) : Type 0 where
  pub begins : CanBecome R (bytes ++ piece)
  pub unfinished : (taken : ℕ) → Ends R bytes piece taken → ⊥

-- the byte of the piece with this number is the first that no text within the limits has there, and texts that go on before it
-- have a byte of the part there
pub record IsRefused (R : Text → Type 0) (bytes piece : List ℕ) (offset : ℕ) (part : Part) : Type 0 where
  pub inside : offset < length piece
  pub next : IsNext R (bytes ++ take offset piece) part
  pub after : CanBecome R (bytes ++ take (offset + 1) piece) → ⊥

-- nor has one without limits
pub record IsDead (R S : Text → Type 0) (bytes piece : List ℕ) (offset : ℕ) (part : Part) : Type 0 where
  pub refused : IsRefused R bytes piece offset part
  pub anyway : CanBecome S (bytes ++ take (offset + 1) piece) → ⊥

-- while one without limits has
pub record IsLimit (R S : Text → Type 0) (bytes piece : List ℕ) (offset : ℕ) (part : Part) : Type 0 where
  pub refused : IsRefused R bytes piece offset part
  pub anyway : CanBecome S (bytes ++ take (offset + 1) piece)
