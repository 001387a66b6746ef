-- The phase of a status: a byte more, its last byte, and a byte that is refused.
use Rattle.std.proofs.Common.{◌≤◌, ◌+◌, ◌<◌, ◌⊎◌, ℕ, List, [], ◌∷◌, ◌++◌, length, get_or, refl, sym, subst, append-nil, inl, inr, arith}
use Rattle.std.proofs.lemmas.Bool.{cases_lt}
use Rattle.bh_spec.specs.declared.Form.{Form}
use Rattle.bh_spec.specs.declared.Part.TheVariants as parts
use Rattle.bh_spec.specs.declared.Width.{Width}
use Rattle.bh_spec.specs.Bounds.{Bounds, IsWithin, no_bounds}
use Rattle.bh_spec.specs.Integers.{byte_count, IsAllowed, SomeBegins}
use Rattle.bh_spec.specs.Pieces.{SomeOf, CanBecome, IsNext, IsDead, IsLimit}
use Rattle.bh_spec.specs.Texts.{Text}
use Rattle.bh_spec.proofs.Within.{within_less}
use Rattle.bh_model.specs.declared.field.Place.TheVariants.{Header}
use Rattle.bh_varint.specs.Step.{IsWhole, IsUnfinished}
use Rattle.bh_fields.specs.Sections.{SectionOf}
use Rattle.bh_control.specs.Numbers.{numbers}
use Rattle.bh_spec.specs.Items.{Item, of_response, interim_response}
use Rattle.bh_spec.specs.Residuals.{IsResidual}
use Rattle.bh_spec.proofs.Residuals.{residual_step}
use Rattle.bh_push.specs.Completing.{AfterStart, InterimRest, ResponseRest}
use Rattle.bh_push.specs.Decoders.{Rest, in_status}
use Rattle.bh_push.specs.Standing.{Comes, IsLeastStatus}
use Rattle.bh_push.proofs.Bodies.{step_same}
use Rattle.bh_push.proofs.Framings.{byte_dead}
use Rattle.bh_push.proofs.Numbered.{IsNumbered, Only, Each, number_more, number_whole, number_stops, number_some, number_next}
use Rattle.bh_push.proofs.Requests.{after_start, no_section, response_some}
use Rattle.bh_push.proofs.Statuses.{AfterStatus, status_to, status_from}

-- ---- which statuses

pub status_numbered : (L : Bounds) (form : Form) (before : ℕ) → IsWithin L.interims before → IsNumbered parts.Status (ResponseRest L form before) (AfterStatus L form before)
status_numbered L form before few = record { to = status_to L form before; from = λ q t h. status_from L form before q t h few }

-- with or without room for one more interim response
only_of : (L : Bounds) (form : Form) (before least : ℕ) → IsLeastStatus L before least → Only (AfterStatus L form before) (numbers least 599)
only_of L form before least (inl e) q n w y h (inl i) = inr ((omega (arith, e.0, i.0.low), omega (arith, i.0.high)), tt)
only_of L form before least (inr e) q n w y h (inl i) = absurd (e.1 i.1)
only_of L form before least (inl e) q n w y h (inr f) = inr ((omega (arith, e.0, f.0.low), f.0.high), tt)
only_of L form before least (inr e) q n w y h (inr f) = inr ((omega (arith, e.0, f.0.low), f.0.high), tt)

any_only : (L : Bounds) (form : Form) (before : ℕ) → Only (AfterStatus L form before) (numbers 100 599)
any_only L form before q n w y h (inl i) = inr ((i.0.low, omega (arith, i.0.high)), tt)
any_only L form before q n w y h (inr f) = inr ((omega (arith, f.0.low), f.0.high), tt)

pub interim_some : (L : Bounds) (form : Form) (before n : ℕ) → IsWithin L.interims (before + 1) → (q : List Item) × (t : Text) × InterimRest L form before n (SectionOf L form Header) q t
interim_some L form before n few =
    let s = no_section L form in
    let r = response_some L form (before + 1) few in (
      interim_response n [] ∷ r.0,
      s.0 ++ r.1,
      record { thing = []; text = s.0; rest = r.1; more = r.0; spelled = s.1; behind = r.2; items = refl; joined = refl },
    )

final_each : (L : Bounds) (form : Form) (before n width : ℕ) → 200 ≤ n → n ≤ 599 → (q : List Item) × (y : Text) × AfterStatus L form before q n width y
final_each L form before n width low high = let a = after_start L form (of_response n) in (a.0, a.1, inr (record { low = low; high = high }, a.2))

pub in_numbers : (low high k n : ℕ) → IsAllowed (numbers low high) k n → (low ≤ n) × (n ≤ high)
in_numbers low high k n (inl z) = absurd (let no : _ = z.0 in cc)
in_numbers low high k n (inr i) = i.0

each_of : (L : Bounds) (form : Form) (before least : ℕ) → IsLeastStatus L before least → Each (AfterStatus L form before) (numbers least 599)
each_of L form before least is n w fits a = at is (cases_lt n 200)
  where
    range : (least ≤ n) × (n ≤ 599)
    range = in_numbers least 599 (byte_count w) n a

    at : IsLeastStatus L before least → (n < 200) ⊎ (200 ≤ n) → (q : List Item) × (y : Text) × AfterStatus L form before q n (byte_count w) y
    at (inl e) (inl lt) =
        let i = interim_some L form before n e.1 in
        (i.0, i.1, inl (record { low = omega (arith, e.0, range.0); high = omega (arith, lt) }, e.1, i.2))
    at (inr e) (inl lt) = absurd (omega (arith, e.0, lt, range.0))
    at s (inr ge) = final_each L form before n (byte_count w) ge range.1

free_least : (before : ℕ) → IsLeastStatus no_bounds before 100
free_least before = inl (refl, tt)

-- ---- a byte

pub status_more : (L : Bounds) (form : Form) (before least : ℕ) (begun : List ℕ) (byte : ℕ) → IsWithin L.interims before → IsLeastStatus L before least → IsUnfinished begun
    → SomeBegins (numbers least 599) (begun ++ byte ∷ []) → Comes L (in_status form before begun) (byte ∷ []) [] (in_status form before (begun ++ byte ∷ []))
status_more L form before least begun byte few is un s = record {
  within = step L few;
  anyway = step no_bounds tt;
  goes_on = number_some parts.Status (ResponseRest L form before) (AfterStatus L form before) (status_numbered L form before few) (numbers least 599) (begun ++ byte ∷ []) [] (each_of L form before least is)
      (subst (SomeBegins (numbers least 599)) (sym (append-nil (begun ++ byte ∷ []))) s);
}
  where
    step : (K : Bounds) → IsWithin K.interims before → IsResidual (Rest K (in_status form before begun)) (byte ∷ []) (λ q. q) (Rest K (in_status form before (begun ++ byte ∷ [])))
    step K some = residual_step (Rest K (in_status form before begun)) parts.Status byte (λ q. q) (Rest K (in_status form before (begun ++ byte ∷ [])))
        (number_more parts.Status (ResponseRest K form before) (AfterStatus K form before) (status_numbered K form before some) begun byte un)

-- the last byte of a status of an interim response leads to its section
pub status_interim : (K : Bounds) (form : Form) (before : ℕ) (begun : List ℕ) (byte n least : ℕ) (w : Width) → IsWithin K.interims (before + 1) → IsUnfinished begun
    → IsWhole (numbers least 599) (begun ++ byte ∷ []) n w → 100 ≤ n → n ≤ 199
    → IsResidual (Rest K (in_status form before begun)) (byte ∷ []) (λ q. q) (InterimRest K form before n (SectionOf K form Header))
status_interim K form before begun byte n least w few un whole low high =
    residual_step (Rest K (in_status form before begun)) parts.Status byte (λ q. q) (InterimRest K form before n (SectionOf K form Header))
    (step_same (Rest K (in_status form before begun)) (λ q t. AfterStatus K form before q n (byte_count w) t) (InterimRest K form before n (SectionOf K form Header)) parts.Status byte
    (number_whole parts.Status (ResponseRest K form before) (AfterStatus K form before)
    (status_numbered K form before (within_less K.interims before (before + 1) (omega arith) few)) (numbers least 599) begun byte n w un whole)
    (λ q t h. to q t h) (λ q t h. inl (record { low = low; high = high }, few, h)))
  where
    to : (q : List Item) (t : Text) → AfterStatus K form before q n (byte_count w) t → InterimRest K form before n (SectionOf K form Header) q t
    to q t (inl i) = i.2
    to q t (inr f) = absurd (omega (arith, f.0.low, high))

-- that of a final response leads to the header section
pub status_final : (K : Bounds) (form : Form) (before : ℕ) (begun : List ℕ) (byte n least : ℕ) (w : Width) → IsWithin K.interims before → IsUnfinished begun
    → IsWhole (numbers least 599) (begun ++ byte ∷ []) n w → 200 ≤ n → n ≤ 599
    → IsResidual (Rest K (in_status form before begun)) (byte ∷ []) (λ q. q) (AfterStart K form (of_response n))
status_final K form before begun byte n least w few un whole low high =
    residual_step (Rest K (in_status form before begun)) parts.Status byte (λ q. q) (AfterStart K form (of_response n))
    (step_same (Rest K (in_status form before begun)) (λ q t. AfterStatus K form before q n (byte_count w) t) (AfterStart K form (of_response n)) parts.Status byte
    (number_whole parts.Status (ResponseRest K form before) (AfterStatus K form before) (status_numbered K form before few) (numbers least 599) begun byte n w un whole)
    (λ q t h. to q t h) (λ q t h. inr (record { low = low; high = high }, h)))
  where
    to : (q : List Item) (t : Text) → AfterStatus K form before q n (byte_count w) t → AfterStart K form (of_response n) q t
    to q t (inl i) = absurd (omega (arith, i.0.high, low))
    to q t (inr f) = f.1

pub status_next : (L : Bounds) (form : Form) (before least : ℕ) (begun : List ℕ) → IsWithin L.interims before → IsLeastStatus L before least → IsUnfinished begun
    → SomeBegins (numbers least 599) begun → IsNext (SomeOf (Rest L (in_status form before begun))) [] parts.Status
status_next L form before least begun few is un s =
    number_next parts.Status (ResponseRest L form before) (AfterStatus L form before) (status_numbered L form before few) (numbers least 599) begun (each_of L form before least is) un s

stops : (K : Bounds) (form : Form) (before low : ℕ) (begun : List ℕ) (byte : ℕ) → IsWithin K.interims before → IsUnfinished begun → Only (AfterStatus K form before) (numbers low 599)
    → (SomeBegins (numbers low 599) (begun ++ byte ∷ []) → ⊥) → CanBecome (SomeOf (Rest K (in_status form before begun))) (byte ∷ []) → ⊥
stops K form before low begun byte some un only none c =
    number_stops parts.Status (ResponseRest K form before) (AfterStatus K form before) (status_numbered K form before some) (numbers low 599) begun byte un only none c

pub status_dead : (L : Bounds) (form : Form) (before least : ℕ) (begun piece : List ℕ) → 0 < length piece → IsWithin L.interims before → IsLeastStatus L before least → IsUnfinished begun
    → SomeBegins (numbers least 599) begun → (SomeBegins (numbers 100 599) (begun ++ get_or piece 0 0 ∷ []) → ⊥)
    → IsDead (SomeOf (Rest L (in_status form before begun))) (SomeOf (Rest no_bounds (in_status form before begun))) [] piece 0 parts.Status
status_dead L form before least begun piece some few is un s dead =
    byte_dead (SomeOf (Rest L (in_status form before begun))) (SomeOf (Rest no_bounds (in_status form before begun))) piece parts.Status some (status_next L form before least begun few is un s)
    (stops L form before 100 begun (get_or piece 0 0) few un (any_only L form before) dead)
    (stops no_bounds form before 100 begun (get_or piece 0 0) tt un (any_only no_bounds form before) dead)

-- a byte that only a status of one interim response too many has
pub status_limit : (L : Bounds) (form : Form) (before least : ℕ) (begun piece : List ℕ) → 0 < length piece → IsWithin L.interims before → IsLeastStatus L before least → IsUnfinished begun
    → SomeBegins (numbers least 599) begun → (SomeBegins (numbers least 599) (begun ++ get_or piece 0 0 ∷ []) → ⊥) → SomeBegins (numbers 100 599) (begun ++ get_or piece 0 0 ∷ [])
    → IsLimit (SomeOf (Rest L (in_status form before begun))) (SomeOf (Rest no_bounds (in_status form before begun))) [] piece 0 parts.Status
status_limit L form before least begun [] some few is un s dead alive = absurd (omega (arith, some))
status_limit L form before least begun (byte ∷ piece) some few is un s dead alive = record {
  refused = record {
    inside = omega arith;
    next = status_next L form before least begun few is un s;
    after = stops L form before least begun byte few un (only_of L form before least is) dead;
  };
  anyway = number_some parts.Status (ResponseRest no_bounds form before) (AfterStatus no_bounds form before) (status_numbered no_bounds form before tt) (numbers 100 599) begun (byte ∷ [])
      (each_of no_bounds form before 100 (free_least before)) alive;
}
