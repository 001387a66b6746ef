-- The limits of a reader. A limit that is None bounds nothing, so "within the limits" and "without limits" are one definition.
use Rattle.std.specs.Prelude.{ℕ, ◌≤◌, ◌^◌, Option, Some, None}

pub record Bounds : Type 0 where
  -- bytes of a method, scheme, authority, path, name or value
  pub part : Option ℕ
  -- bytes of the lines of one section, without its length or terminator
  pub section : Option ℕ
  -- interim responses
  pub interims : Option ℕ
  -- bytes of the input; no text is judged by it, only an answer
  pub input : Option ℕ

abbrev pub IsWithin : Option ℕ → ℕ → Type 0
IsWithin None n = Unit {0}
IsWithin (Some most) n = n ≤ most

abbrev pub no_bounds : Bounds
no_bounds = record { part = None; section = None; interims = None; input = None }

-- the limits of a reader that is told none
abbrev pub default_bounds : Bounds
default_bounds = record { part = Some 8192; section = Some 65536; interims = Some 16; input = Some (2 ^ 40) }
