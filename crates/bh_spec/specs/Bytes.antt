-- Classes of bytes, and the lower case of ASCII letters.
use Rattle.std.specs.Prelude.{ℕ, Bool, false, ◌||◌, ◌&&◌, not, nat_eq, nat_lt, nat_le, List, [], ◌∷◌, map, codes, All, ◌<◌}
use Rattle.std.specs.Char.{to_ascii_lowercase}

-- numbers that are bytes
abbrev pub AreBytes : List ℕ → Type 0
AreBytes numbers = All (λ number. number < 256) numbers

abbrev pub is_from_to : ℕ → ℕ → ℕ → Bool
is_from_to low high byte = nat_le low byte && nat_le byte high

abbrev pub is_one_of : List ℕ → ℕ → Bool
is_one_of [] byte = false
is_one_of (x ∷ xs) byte = nat_eq byte x || is_one_of xs byte

-- a to z, A to Z
abbrev pub is_letter : ℕ → Bool
is_letter byte = is_from_to 97 122 byte || is_from_to 65 90 byte

-- 0 to 9
abbrev pub is_digit : ℕ → Bool
is_digit byte = is_from_to 48 57 byte

-- a byte of a token, as in a method or a field name (RFC 9110, section 5.6.2)
abbrev pub is_token : ℕ → Bool
is_token byte = is_letter byte || is_digit byte || is_one_of (codes "!#$%&'*+-.^_`|~") byte

-- a byte of a scheme behind its first letter (RFC 3986, section 3.1)
abbrev pub is_scheme : ℕ → Bool
is_scheme byte = is_letter byte || is_digit byte || is_one_of (codes "+-.") byte

-- a byte of an authority without user information: unreserved, percent, sub-delims, ":", "[" and "]" (RFC 3986, section 3.2)
abbrev pub is_authority : ℕ → Bool
is_authority byte = is_letter byte || is_digit byte || is_one_of (codes "-._~!$&'()*+,;=%:[]") byte

-- a byte of a path with its query: unreserved, percent, sub-delims, ":", "@", "/" and "?" (RFC 3986, sections 3.3 and 3.4)
abbrev pub is_path : ℕ → Bool
is_path byte = is_letter byte || is_digit byte || is_one_of (codes "-._~!$&'()*+,;=%:@/?") byte

-- a byte of a field value: every byte but NUL, LF and CR (RFC 9113, section 8.2.1)
abbrev pub is_value : ℕ → Bool
is_value byte = nat_lt byte 256 && not (is_one_of (0 ∷ 10 ∷ 13 ∷ []) byte)

-- a byte of a field value in HTTP/1.1: HTAB, SP, visible ASCII and 0x80 to 0xFF (RFC 9110, section 5.5)
abbrev pub is_text_value : ℕ → Bool
is_text_value byte = nat_eq byte 9 || is_from_to 32 126 byte || is_from_to 128 255 byte

-- SP or HTAB
abbrev pub is_blank : ℕ → Bool
is_blank byte = is_one_of (32 ∷ 9 ∷ []) byte

-- A to Z become a to z, and every other byte stays
abbrev pub lower : List ℕ → List ℕ
lower bytes = map to_ascii_lowercase bytes
