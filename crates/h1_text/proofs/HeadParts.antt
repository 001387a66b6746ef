-- Heads as they are handed to the writers of heads.
use Rattle.std.proofs.Common.{◌≡◌, ◌≤◌, ◌<◌, ◌+◌, ◌-◌, ℕ, Bool, true, false, List, [], ◌∷◌, ◌++◌, length, All, Option, Result, codes, IsTrue, refl, sym, ap, ap₂, subst, ◌∙◌, arith, append_assoc, append-nil, length-append}
use Rattle.std.proofs.lemmas.List.Elements.{All-append, All-nil, All-cons}
use Rattle.std.proofs.lemmas.List.Sums.{AllPass-from_list_all}
use Rattle.bh_spec.specs.Bytes.{is_token, is_text_value}
use Rattle.bh_spec.specs.Messages.{Field, Control, request, response}
use Rattle.bh_base.specs.Steps.{Step}
use Rattle.bh_base.specs.Batches.{Writes}
use Rattle.h1_spec.specs.Grammar.{crlf}
use Rattle.h1_spec.specs.Heads.{IsRawTarget, IsHeadField}
use Rattle.h1_spec.specs.Http1Text.{field_lines, start_line, target_text, host_lines}
use Rattle.h1_spec.specs.Written.{text_of_head, host_line, coding_line, request_written, response_written, IsWritable}
use Rattle.h1_head.specs.Fronts.{request_front}
use Rattle.h1_text.specs.Gathering.{GatheredView, with_bytes, Gathers}
use Rattle.h1_text.specs.Owed.{head_front, head_end}
use Rattle.h1_text.specs.Writers.{head_of, room_of}
use Rattle.h1_text.proofs.Gathering.{gathered}
use Rattle.h1_text.proofs.Owes.{split_head}

module _ (c : Control) (target : List ℕ) (host : Option (List ℕ)) (fields : List Field) (e : target ≡ target_text c) (h : host_line host ≡ host_lines c) where
  lines_are : host_line host ++ (fields ++ []) ≡ host_lines c ++ fields
  lines_are = ap₂ (λ (a b : List Field). a ++ b) h (append-nil fields)

  pub request_text : text_of_head (request_written c.method target host fields false) ≡ head_front (request c) fields ++ head_end false
  request_text =
      ap₂ (λ (t : List ℕ) (ls : List Field). (c.method ++ (32 ∷ (t ++ (codes " HTTP/1.1" ++ crlf)))) ++ (field_lines ls ++ crlf)) e
      (lines_are ∙ sym (append-nil (host_lines c ++ fields)))
      ∙ split_head (start_line (request c)) (host_lines c ++ fields) []

  pub front_text : request_front c.method target host fields ≡ head_front (request c) fields
  front_text = ap₂ (λ (t : List ℕ) (ls : List Field). (c.method ++ (32 ∷ (t ++ (codes " HTTP/1.1" ++ crlf)))) ++ field_lines (ls ++ fields)) e h

  pub request_writable : IsWritable (head_of (request c) fields) → IsWritable (request_written c.method target host fields false)
  request_writable w = record { start = (w.start.0, subst IsRawTarget (sym e) w.start.1); fields = subst (All IsHeadField) (sym lines_are) w.fields }

-- an equal text
pub writes_as : {S A E : Type 0} {step : S → Step → S → Type 0} {s t : S} {x y : List ℕ} {r : Result A E} → x ≡ y → Writes step s x r t → Writes step s y r t
writes_as {step = step} {s = s} {t = t} {r = r} e w = subst (λ (l : List ℕ). Writes step s l r t) e w

coding_fields : (chunked : Bool) → All IsHeadField (coding_line chunked)
coding_fields false = All-nil IsHeadField
coding_fields true =
    All-cons IsHeadField (record { name = codes "transfer-encoding"; value = codes "chunked" }) []
    (record {
      name = record { nonempty = omega arith; each = AllPass-from_list_all is_token (codes "transfer-encoding") refl };
      lower_case = refl;
      value = record { each = AllPass-from_list_all is_text_value (codes "chunked") refl; first = refl; last = refl };
    })
    (All-nil IsHeadField)

pub response_writable : (status : ℕ) (fields : List Field) (chunked : Bool) → IsWritable (head_of (response [] status) fields) → IsWritable (response_written status fields chunked)
response_writable status fields chunked w = record { start = w.start; fields = All-append IsHeadField fields (coding_line chunked) w.fields (coding_fields chunked) }

-- ---- a head that is held

module _ {A E : Type 0} (before cleared now : GatheredView) (text front : List ℕ) (got : Result A E) (clear : cleared ≡ record { bytes = []; room = before.room + length before.bytes }) (w : Writes Gathers cleared text got now)
    (same : text ≡ front) (room : length front < room_of before) where
  is_held : now ≡ with_bytes cleared front
  is_held = gathered got (subst (λ (l : List ℕ). Writes Gathers cleared l got now) same w) (omega (arith, room, left))
    where
      left : cleared.room ≡ before.room + length before.bytes
      left = λ i. (clear i).room

  pub held_bytes : now.bytes ≡ front
  held_bytes = (λ i. (is_held i).bytes) ∙ ap (λ (l : List ℕ). l ++ front) (λ i. (clear i).bytes)

  pub held_room : room_of now ≡ room_of before
  held_room =
      let left : cleared.room ≡ before.room + length before.bytes = λ i. (clear i).room in
      let now_left : now.room ≡ cleared.room - length front = λ i. (is_held i).room in
      omega (arith, left, now_left, ap length held_bytes, room)
