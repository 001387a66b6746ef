-- Cleaning, line by line.
use Rattle.std.specs.Prelude.{ℕ, ◌≡◌, ◌<◌, ◌≤◌, Bool, cond, ◌||◌, ◌&&◌, List, [], ◌∷◌, ◌++◌, length, codes, None, bytes_eq}
use Rattle.bh_spec.specs.Messages.{Field}
use Rattle.bh_model.specs.Lines.{FieldsView, lines_room}
use Rattle.h1_head.specs.Room.{room_in, count_in}
use Rattle.h1_spec.specs.Cleaning.{is_among, connection_names, kept_names, cookie}

-- the names of the lines that a header section doesn't keep, and a trailer section
abbrev pub dropped_names : List (List ℕ) → Bool → List (List ℕ)
dropped_names named drop_host = connection_names ++ (named ++ cond drop_host (codes "host" ∷ []) [])

abbrev pub dropped_trailers : List (List ℕ) → List (List ℕ)
dropped_trailers named = connection_names ++ (named ++ kept_names)

abbrev pub is_cookie : List ℕ → Bool
is_cookie name = bytes_eq name cookie

-- a value behind others: nothing stands between where one of both is empty
abbrev pub with_crumb : List ℕ → List ℕ → List ℕ
with_crumb [] value = value
with_crumb (byte ∷ rest) [] = byte ∷ rest
with_crumb (byte ∷ rest) (first ∷ more) = (byte ∷ rest) ++ (codes "; " ++ (first ∷ more))

-- a line as it stays: a cookie with the values of all
abbrev pub own_value : List ℕ → Field → List ℕ
own_value crumbs field = cond (is_cookie field.name) crumbs field.value

abbrev pub own_line : List ℕ → Field → Field
own_line crumbs field = record { name = field.name; value = own_value crumbs field }

-- what of the lines stays, behind a cookie or before the first
abbrev pub is_dropped : List (List ℕ) → Bool → List ℕ → Bool
is_dropped names joined name = is_among names name || (joined && is_cookie name)

abbrev pub own_lines : List (List ℕ) → List ℕ → Bool → List Field → List Field
own_lines names crumbs joined [] = []
own_lines names crumbs joined (field ∷ rest) = cond (is_dropped names joined field.name) (own_lines names crumbs joined rest)
    (own_line crumbs field ∷ own_lines names crumbs (joined || is_cookie field.name) rest)

-- the bytes that a value adds, behind others or before them
abbrev pub crumb_bytes : Bool → List ℕ → List ℕ
crumb_bytes behind [] = []
crumb_bytes behind (byte ∷ rest) = cond behind (codes "; ") [] ++ (byte ∷ rest)

-- the line has a name
abbrev pub IsNamed : Field → Type 0
IsNamed field = 0 < length field.name

-- Since a start these lines were added but for those that are left, for which there is room; with them the lines are all. The room of
-- all is as it was.
pub record IsAdding (start to : FieldsView) (left all : List Field) : Type 0 where
  pub lines : to.lines ++ left ≡ all
  pub ended : to.making ≡ None
  pub spare : lines_room left ≤ to.spare
  pub free : length left ≤ to.free
  pub room : room_in to ≡ room_in start
  pub count : count_in to ≡ count_in start
