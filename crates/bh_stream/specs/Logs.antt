-- What is said of the calls that one streaming call made, in their order.
use Rattle.std.specs.Prelude.{◌≡◌, ◌≤◌, ◌+◌, ◌⊎◌, ℕ, true, false, List, [], ◌∷◌, ◌++◌, length, take, Option}
use Rattle.bh_spec.specs.Bounds.{IsWithin}
use Rattle.bh_spec.specs.Texts.{Text, bytes_of, content_in}
use Rattle.bh_spec.specs.Pieces.{SomeOf, IsText, CanBecome}
use Rattle.bh_base.specs.Steps.{Step, taken, given, met, OnlyReads, OnlyWrites}

-- the list begins so
pub record Begins {A : Type 0} (front whole : List A) : Type 0 where
  pub rest : List A
  pub split : whole ≡ front ++ rest

-- At every point of the calls, P holds of those before it.
abbrev pub AtEvery : (List Step → Type 0) → List Step → Type 0
AtEvery P steps = (front back : List Step) → steps ≡ front ++ back → P front

-- P holds of the calls before each read.
abbrev pub BeforeReads : (List Step → Type 0) → List Step → Type 0
BeforeReads P steps = (front back : List Step) (x : Step) → OnlyReads (x ∷ []) → steps ≡ front ++ x ∷ back → P front

-- So many of the bytes, and no more of those within the limit, are the front of some text.
pub record IsLongest (R : Text → Type 0) (limit : Option ℕ) (bytes : List ℕ) (long : ℕ) : Type 0 where
  pub inside : long ≤ length bytes
  pub within : IsWithin limit long
  pub viable : CanBecome R (take long bytes)
  pub most : (n : ℕ) → n ≤ length bytes → IsWithin limit n → CanBecome R (take n bytes) → n ≤ long

-- The longest front of the bytes with which some text begins has so many bytes of content.
pub record HasBody (R : Text → Type 0) (bytes : List ℕ) (count : ℕ) : Type 0 where
  pub long : ℕ
  pub longest : IsLongest R Option.None bytes long
  pub text : Text
  pub spelled : R text
  pub begins : Begins (take long bytes) (bytes_of text)
  pub counts : content_in (take long text) ≡ count

-- The content taken is at most so many bytes more than the content shown. R is the kind of texts that are read, and `Shown` says how
-- much content is in what was given.
abbrev pub IsClose : (Text → Type 0) → (List ℕ → ℕ → Type 0) → ℕ → List Step → Type 0
IsClose R Shown most steps = (m n : ℕ) → HasBody R (taken steps) m → Shown (given steps) n → m ≤ n + most

-- It is so at every point of the calls, and less before each read.
pub record KeepsUp (R : Text → Type 0) (Shown : List ℕ → ℕ → Type 0) (most before : ℕ) (steps : List Step) : Type 0 where
  pub always : AtEvery (IsClose R Shown most) steps
  pub at_reads : BeforeReads (IsClose R Shown before) steps

-- What was given begins the output of every message that continues the longest viable front of what was taken. Where the end was
-- met and what was taken is a message, it begins the output of that one. Where there is no message at all, nothing was given.
pub record GivesFront {M : Type 0} (spelled : M → Text → Type 0) (output : M → List ℕ) (limit : Option ℕ) (steps : List Step) : Type 0 where
  pub so_far : (met steps ≡ false) ⊎ (IsText (SomeOf spelled) (taken steps) → ⊥) → (long : ℕ)
      → IsLongest (SomeOf spelled) limit (taken steps) long
      → (m : M) → CanBecome (spelled m) (take long (taken steps)) → Begins (given steps) (output m)
  pub behind : met steps ≡ true → (m : M) → IsText (spelled m) (taken steps) → Begins (given steps) (output m)
  pub nothing : ((t : Text) → SomeOf spelled t → ⊥) → given steps ≡ []

-- At most so many bytes had been taken before the last read.
pub record ReadsTo (most : ℕ) (steps : List Step) : Type 0 where
  pub front : List Step
  pub last : Step
  pub back : List Step
  pub split : steps ≡ front ++ last ∷ back
  pub is_read : OnlyReads (last ∷ [])
  pub behind : OnlyWrites back
  pub few : length (taken front) ≤ most
