-- Which items come from a decoder at the start of a message.
use Rattle.std.proofs.Common.{◌≤◌, ℕ, Bool, true, false, List, [], ◌∷◌, ◌++◌, map, All, refl, sym, subst}
use Rattle.std.proofs.lemmas.List.Elements.{All-head, All-tail}
use Rattle.bh_spec.specs.declared.Omitted.{Omitted}
use Rattle.bh_spec.specs.declared.Omitted.TheVariants as omits
use Rattle.bh_spec.specs.Bounds.{Bounds}
use Rattle.bh_spec.specs.Messages.{Field, Interim, Start, request, response, Message, IsValid, IsInterim, IsStart, AreHeaders, AreTrailers}
use Rattle.bh_spec.specs.Canonical.{FieldsFit, StartFits, Fits}
use Rattle.bh_spec.specs.Texts.{Text}
use Rattle.bh_spec.specs.Items.{Item, start_items, tail_items, items, MessageOf, content_byte}
use Rattle.bh_spec.proofs.Fitting.{fits_where_spelled}
use Rattle.bh_model.specs.Ranges.{AreLimits}
use Rattle.bh_reading.specs.Readings.{Counted, rest, IsAtStart}
use Rattle.bh_reading.specs.Coming.{TailComes, MessageComes}
use Rattle.bh_reading.proofs.AtStart.{from_start}

tail_comes : (L : Bounds) (content : List ℕ) (trailers : List Field) (o : Omitted) (z : ℕ) → AreTrailers trailers → FieldsFit L trailers → TailComes L (tail_items content trailers o z)
tail_comes L [] trailers omits.Nothing z valid fits = (record { valid = valid; fits = fits }, (z, refl))
tail_comes L [] trailers omits.Trailers z valid fits = ((λ e. absurd (cc)), refl)
tail_comes L [] trailers omits.Both z valid fits = ((λ e. absurd (cc)), refl)
tail_comes L (x ∷ content) trailers o z valid fits = tail_comes L content trailers o z valid fits

responses_come : (L : Bounds) (begun : Bool) (interims : List Interim) (status : ℕ) (fields : List Field) (q : List Item) → All IsInterim interims → All (λ i. FieldsFit L i.fields) interims
    → 200 ≤ status → status ≤ 599 → AreHeaders fields → FieldsFit L fields → TailComes L q → MessageComes L begun (start_items (response interims status) fields ++ q)
responses_come L begun [] status fields q valid fit low high headers fits h = (record { start = (low, high); first = λ control e. absurd (cc); valid = headers; fits = fits }, h)
responses_come L begun (i ∷ interims) status fields q valid fit low high headers fits h = (
  record { valid = All-head IsInterim i interims valid; fits = All-head (λ j. FieldsFit L j.fields) i interims fit },
  responses_come L true interims status fields q (All-tail IsInterim i interims valid) (All-tail (λ j. FieldsFit L j.fields) i interims fit) low high headers fits h,
)

start_comes : (L : Bounds) (a : Start) (fields : List Field) (q : List Item) → IsStart a → StartFits L a → AreHeaders fields → FieldsFit L fields → TailComes L q → MessageComes L false (start_items a fields ++ q)
start_comes L (request control) fields q valid fit headers fits h = (record { start = (valid, fit); first = λ c e. refl; valid = headers; fits = fits }, h)
start_comes L (response interims status) fields q valid fit headers fits h = responses_come L false interims status fields q valid.each fit.1 valid.final.low valid.final.high headers fits h

-- the items of a valid message within the limits
pub items_come : (L : Bounds) (m : Message) (o : Omitted) (z : ℕ) → IsValid m → Fits L m → MessageComes L false (items m o z)
items_come L m o z valid fits =
    start_comes L m.start m.fields (tail_items m.content m.trailers o z) valid.start fits.start valid.fields fits.fields (tail_comes L m.content m.trailers o z valid.trailers fits.trailers)

pub message_comes : (L : Bounds) (q : List Item) (t : Text) → MessageOf L q t → MessageComes L false q
message_comes L q t h =
    let m = h.0 in
    subst (MessageComes L false) (sym h.3) (items_come L m h.1 h.2 h.4.valid (fits_where_spelled L m h.1 h.2 t h.4))

pub comes_at_start : (L : Bounds) → AreLimits L → (v : Counted) → IsAtStart L v → (q : List Item) (t : Text) → rest v q t → MessageComes L false q
comes_at_start L limits v start q t h = message_comes L q t (from_start L limits v start q t h)

-- behind some content
pub comes_behind : (L : Bounds) (bytes : List ℕ) (q : List Item) → TailComes L (map content_byte bytes ++ q) → TailComes L q
comes_behind L [] q h = h
comes_behind L (x ∷ bytes) q h = comes_behind L bytes q h
