-- A reader of an HTTP/1.1 message in the middle of it: where it stands, and what completes the message from there. What is handed out
-- are the items of the message that is read, whose sections are cleaned.
use Rattle.std.specs.Prelude.{ℕ, zero, suc, ◌≡◌, ◌≤◌, ◌+◌, Bool, cond, List, [], ◌∷◌, ◌++◌, length}
use Rattle.bh_spec.specs.declared.Omitted.{Omitted}
use Rattle.bh_spec.specs.declared.Omitted.TheVariants.{Nothing, Trailers}
use Rattle.bh_spec.specs.Bounds.{Bounds, IsWithin, no_bounds}
use Rattle.bh_spec.specs.Bytes.{AreBytes}
use Rattle.bh_spec.specs.Messages.{Field, Interim, Start, response}
use Rattle.bh_spec.specs.Canonical.{FieldsFit, StartFits}
use Rattle.bh_spec.specs.Texts.{Text, ◌then◌, AreEach}
use Rattle.bh_spec.specs.Items.{Item, ending, start_items, tail_items}
use Rattle.h1_spec.specs.declared.Scheme1.{Scheme1}
use Rattle.h1_spec.specs.Heads.{Head, status_line}
use Rattle.h1_spec.specs.Cleaning.{hops, clean, clean_trailers, says_host}
use Rattle.h1_spec.specs.Framing.{IsCoded, IsCounted, framing}
use Rattle.h1_spec.specs.Http1.{IsHeadWithin, IsInterimHead, interims_of, IsStartOf}
use Rattle.h1_spec.specs.Marks.{as_framing}
use Rattle.h1_spec.specs.BodyStates.{At, start as body_start, is_chunked, Rest, marked}

-- The limits of a reader; the scheme of a request whose target names none, and whether a response answers HEAD, as the caller says.
pub record Setting : Type 0 where
  pub limits : Bounds
  pub scheme : Scheme1
  pub to_head : Bool

pub data Place : Type 0 where
  -- behind the heads of so many informational responses, and these bytes of the next head
  in_head : ℕ → List ℕ → Place
  -- in the body, behind a header section that names these hops
  in_body : List (List ℕ) → At → Place
  -- behind a trailer section that was handed out
  behind_trailers : Place

-- ---- behind the head

-- Chunks end with a trailer section, which may be empty; no byte stands for one behind any other body, so it is left out.
abbrev pub left_out : At → Omitted
left_out at = cond (is_chunked at) Nothing Trailers

-- From a place in the body: the rest of it, whose bytes have these marks. The trailers are cleaned by the hops, and fit.
pub record BodyRest (L : Bounds) (named : List (List ℕ)) (at : At) (q : List Item) (t : Text) : Type 0 where
  pub content : List ℕ
  pub trailers : List Field
  pub bytes : List ℕ
  pub completes : Rest L at content trailers bytes
  pub are : AreBytes content
  pub fits : FieldsFit L (clean_trailers named trailers)
  pub text_is : t ≡ marked at bytes
  pub items_are : q ≡ tail_items content (clean_trailers named trailers) (left_out at) 0

-- ---- heads

-- behind an informational response stands another, or a final one
abbrev pub IsNextOf : ℕ → Start → Type 0
IsNextOf zero start = Unit {0}
IsNextOf (suc n) start = (interims : List Interim) × (status : ℕ) × (start ≡ response interims status)

-- Behind so many informational responses, and some bytes of the next head: the rest of that head, the heads behind it, and the body. It
-- is what `IsHttp1` says of a message.
pub record HeadRest (S : Setting) (n : ℕ) (seen : List ℕ) (q : List Item) (t : Text) : Type 0 where
  pub start : Start
  pub head : Head
  pub heads : List ℕ
  pub body : Text
  pub behind : List Item
  pub text : (AreEach (IsInterimHead S.limits) (interims_of start) then IsHeadWithin S.limits head) (seen ++ heads)
  pub says : IsStartOf S.scheme head start
  pub next : IsNextOf n start
  pub few : IsWithin S.limits.interims (n + length (interims_of start))
  pub coded : IsCoded head.fields
  pub counted : IsCounted head.fields
  pub start_fits : StartFits S.limits start
  pub fields_fit : FieldsFit S.limits (clean (hops head.fields) (says_host start) head.fields)
  pub tail : BodyRest S.limits (hops head.fields) (body_start (framing S.to_head head)) behind body
  pub items_are : q ≡ start_items start (clean (hops head.fields) (says_host start) head.fields) ++ behind
  pub text_is : t ≡ as_framing heads ++ body

-- The text completes the message from the place, and these items are still to come.
abbrev pub RestFrom : Setting → Place → List Item → Text → Type 0
RestFrom S (in_head n seen) q t = HeadRest S n seen q t
RestFrom S (in_body named at) q t = BodyRest S.limits named at q t
RestFrom S behind_trailers q t = (q ≡ ending Nothing 0 ∷ []) × (t ≡ [])

-- ---- whatever the limits

-- Behind some bytes of a head: the rest of it, the heads behind it, and a body, whatever the limits and the scheme of the caller. The last
-- head is no informational response's, and the bytes behind it are marked as it says.
pub record MarkedHeads (to_head : Bool) (seen : List ℕ) (t : Text) : Type 0 where
  pub interims : List Interim
  pub head : Head
  pub heads : List ℕ
  pub bytes : List ℕ
  pub text : (AreEach (IsInterimHead no_bounds) interims then IsHeadWithin no_bounds head) (seen ++ heads)
  pub last : (status : ℕ) → head.start ≡ status_line status → status ≤ 199 → ⊥
  pub text_is : t ≡ as_framing heads ++ marked (body_start (framing to_head head)) bytes

-- What may come from a place, whatever the limits and the scheme: heads and a body; in a body any bytes, with the marks that they have
-- there; and behind trailers nothing that is content.
abbrev pub MayCome : Bool → Place → Text → Type 0
MayCome to_head (in_head n seen) t = MarkedHeads to_head seen t
MayCome to_head (in_body named at) t = (bytes : List ℕ) × (t ≡ marked at bytes)
MayCome to_head behind_trailers t = (bytes : List ℕ) × (t ≡ as_framing bytes)
