-- One thing behind another, and what they yield.
use Rattle.std.specs.Prelude.{ℕ, ◌≡◌, List, [], ◌++◌}
use Rattle.bh_spec.specs.Texts.{Text, bytes_of}
use Rattle.bh_spec.specs.Items.{Item}

-- t is a text of some thing of A, which yields its items, and then what may stand behind that thing
pub record Yields {I : Type 0} (A : I → Text → Type 0) (gives : I → List Item) (S : I → List Item → Text → Type 0)
    (q : List Item) (t : Text) : Type 0 where
  pub thing : I
  pub text : Text
  pub rest : Text
  pub more : List Item
  pub spelled : A thing text
  pub behind : S thing more rest
  pub items : q ≡ gives thing ++ more
  pub joined : t ≡ text ++ rest

-- no thing of A ends among the bytes before their end
abbrev pub NoneEndsBefore : {I : Type 0} → (I → Text → Type 0) → List ℕ → Type 0
NoneEndsBefore {I} A bytes = (i : I) (t : Text) (more : List ℕ) → A i t → bytes ≡ bytes_of t ++ more → more ≡ []
