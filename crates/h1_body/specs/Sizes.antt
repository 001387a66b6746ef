-- Sizes of chunks in digits.
use Rattle.std.specs.Prelude.{ℕ, ◌/◌, ◌%◌, List, [], ◌∷◌}
use Rattle.std.specs.Char.{digit_char}

-- the four hexadecimal digits of a number below 65,536
abbrev pub four_digits : ℕ → List ℕ
four_digits n = digit_char (n / 4096) ∷ digit_char (n / 256 % 16) ∷ digit_char (n / 16 % 16) ∷ digit_char (n % 16) ∷ []
