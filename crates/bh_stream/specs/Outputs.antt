-- What is written, and what of it is content.
use Rattle.std.specs.Prelude.{◌+◌, ℕ, if◌then◌else◌, nat_eq, List, [], ◌∷◌, map}
use Rattle.bh_spec.specs.Parts.{number_of}
use Rattle.bh_spec.specs.Texts.{Text}

-- bytes, each with how many bytes of content are whole with it
abbrev pub Output : Type 0
Output = List (ℕ × ℕ)

-- the bytes
abbrev pub written : Output → List ℕ
written t = map (λ byte. byte.1) t

-- how many bytes of content are whole in it
abbrev pub shown_in : Output → ℕ
shown_in [] = 0
shown_in (x ∷ t) = x.0 + shown_in t

-- a text in which each byte of content counts for itself
abbrev pub weighed : Text → Output
weighed [] = []
weighed (x ∷ t) = ((if nat_eq (number_of x.0) 18 then 1 else 0), x.1) ∷ weighed t

-- bytes that are no content, and bytes that are
abbrev pub plain : List ℕ → Output
plain bytes = map (λ byte. (0, byte)) bytes

abbrev pub shown : List ℕ → Output
shown bytes = map (λ byte. (1, byte)) bytes
