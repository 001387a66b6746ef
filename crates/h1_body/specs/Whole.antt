-- What the reader of whole bytes answers.
use Rattle.std.specs.Prelude.{ℕ, ◌≡◌, ◌≤◌, ◌⊎◌, true, None, Option, Result, Ok, Err, List, length, take}
use Rattle.bh_spec.specs.Bounds.{Bounds}
use Rattle.h1_spec.specs.declared.Framing1.{Framing1}
use Rattle.h1_spec.specs.declared.Framing1.TheVariants.{ToEnd}
use Rattle.h1_spec.specs.Bodies.{IsBody}
use Rattle.h1_spec.specs.BodyCauses.{OfBody}
use Rattle.h1_spec.specs.BodyStates.{At, to_end, is_whole, nothing_behind}
use Rattle.h1_body.specs.declared.whole.Body1.{Body1}
use Rattle.h1_body.specs.declared.whole.BodyWhy.{BodyWhy}
use Rattle.h1_body.specs.declared.whole.BodyWhy.TheVariants as why

-- The first bytes are a body with this content and these trailers, within limits with this bound of its trailer section; one that
-- lasts to the end has all bytes.
pub record IsBodyRead (section : Option ℕ) (framing : Framing1) (bytes : List ℕ) (body : Body1) : Type 0 where
  pub inside : body.taken ≤ length bytes
  pub is : (L : Bounds) → L.section ≡ section → IsBody L framing body.content body.trailers.lines (take body.taken bytes)
  pub all : framing ≡ ToEnd → body.taken ≡ length bytes
  pub made : body.trailers.making ≡ None

-- `Ok`: a body was read. `Refused`: the bytes have this cause.
abbrev pub IsBodyAnswer : Option ℕ → Framing1 → List ℕ → Result Body1 BodyWhy → Type 0
IsBodyAnswer section framing bytes (Ok body) = IsBodyRead section framing bytes body
IsBodyAnswer section framing bytes (Err (why.Refused cause)) = (L : Bounds) → L.section ≡ section
    → OfBody L framing nothing_behind bytes cause
IsBodyAnswer section framing bytes (Err why.NoMemory) = Unit {0}

-- the body is whole, or lasts to the end, which is here
abbrev pub IsDone : At → ℕ → Type 0
IsDone v left = (is_whole v ≡ true) ⊎ ((v ≡ to_end) × (left ≡ 0))
