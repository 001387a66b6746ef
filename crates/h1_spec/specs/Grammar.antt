-- The few words that the grammar of HTTP/1.1 is made of: kinds of bytes.
use Rattle.std.specs.Prelude.{ℕ, ◌≡◌, List, [], ◌∷◌}
use Rattle.bh_spec.specs.Texts.{◌then◌}

-- the bytes are these
abbrev pub Is : List ℕ → List ℕ → Type 0
Is these bytes = bytes ≡ these

-- CR LF, the only line end (RFC 9112, section 2.2)
abbrev pub crlf : List ℕ
crlf = 13 ∷ 10 ∷ []

-- bytes of the kind, and a line end
abbrev pub Line : (List ℕ → Type 0) → List ℕ → Type 0
Line R = R then Is crlf
