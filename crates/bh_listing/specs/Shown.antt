-- How much content a listing shows, or a front of one.
use Rattle.std.specs.Prelude.{◌≡◌, ◌≢◌, ◌+◌, ◌-◌, ◌/◌, ℕ, List, [], ◌∷◌, ◌++◌, length, take, flat_map, codes, bytes_eq, if◌then◌else◌}
use Rattle.std.specs.List.{AllByRecursion}

-- how many bytes of content a line spells, without its line feed: two digits for each, behind the word
abbrev pub spelled_by : List ℕ → ℕ
spelled_by line = if bytes_eq (take 8 line) (codes "content ") then (length line - 8) / 2 else 0

abbrev pub spelled_in : List (List ℕ) → ℕ
spelled_in [] = 0
spelled_in (line ∷ lines) = spelled_by line + spelled_in lines

abbrev pub HasNoFeed : List ℕ → Type 0
HasNoFeed = AllByRecursion (λ byte. byte ≢ 10)

-- The whole lines in these bytes spell so many bytes of content; what stands behind the last line feed doesn't count.
pub record Shown (bytes : List ℕ) (count : ℕ) : Type 0 where
  pub lines : List (List ℕ)
  pub rest : List ℕ
  pub split : bytes ≡ flat_map (λ line. line ++ (10 ∷ [])) lines ++ rest
  pub each : AllByRecursion HasNoFeed lines
  pub not_whole : HasNoFeed rest
  pub counts : count ≡ spelled_in lines
