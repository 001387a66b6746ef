-- What is wrong with bytes from a place of a reader.
use Rattle.std.specs.Prelude.{ℕ, ◌≡◌, ◌+◌, List, ◌++◌, length}
use Rattle.bh_spec.specs.declared.H1Why.{H1Why}
use Rattle.bh_spec.specs.Bounds.{IsWithin}
use Rattle.bh_spec.specs.Messages.{Interim}
use Rattle.bh_spec.specs.Texts.{◌then◌, AreEach}
use Rattle.h1_spec.specs.Causes.{Causes}
use Rattle.h1_spec.specs.Http1.{IsInterimHead}
use Rattle.h1_spec.specs.Translation.{OfHead, OfEnd, OfExtra}
use Rattle.h1_spec.specs.BodyStates.{OfRest}
use Rattle.h1_read.specs.Places.{Setting, Place, in_head, in_body, behind_trailers}

-- Behind so many informational responses: what is wrong behind the heads of some more. Of those before it only the number counts.
pub record OfHeads (S : Setting) (n : ℕ) (bytes : List ℕ) (cause : H1Why) : Type 0 where
  pub earlier : List Interim
  pub many : length earlier ≡ n
  pub interims : List Interim
  pub few : IsWithin S.limits.interims (n + length interims)
  pub text : (AreEach (IsInterimHead S.limits) interims then λ rest. OfHead S.limits S.scheme S.to_head (earlier ++ interims) rest
      cause) bytes

-- The bytes from there complete no message, for this cause: by the first of them that decides.
abbrev pub WrongFrom : Setting → Place → List ℕ → Causes
WrongFrom S (in_head n seen) bytes cause = OfHeads S n (seen ++ bytes) cause
WrongFrom S (in_body named at) bytes cause = OfRest S.limits (OfEnd S.limits named) at bytes cause
WrongFrom S behind_trailers bytes cause = OfExtra bytes cause
