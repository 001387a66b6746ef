-- What the decoder and the writer know at the start of a translation to HTTP/1.1.
use Rattle.std.proofs.Common.{◌≡◌, ℕ, Bool, List, [], ◌∷◌, ◌++◌, map, refl, sym, ap, ◌∙◌}
use Rattle.bh_spec.specs.declared.Omitted.{Omitted}
use Rattle.bh_spec.specs.declared.Omitted.TheVariants.{Nothing, Trailers, Both}
use Rattle.bh_spec.specs.Bounds.{Bounds}
use Rattle.bh_spec.specs.Messages.{Field, Interim, Start, request, response, Message}
use Rattle.bh_spec.specs.Texts.{Text, bytes_of}
use Rattle.bh_spec.specs.Spelling.{Spells}
use Rattle.bh_spec.specs.Items.{Item, interim_response, head, content_byte, of_request, of_response, start_items, tail_items, items}
use Rattle.bh_spec.proofs.Whole.{one_reading}
use Rattle.bh_model.specs.Ranges.{AreLimits}
use Rattle.bh_stream.specs.Formats.{Knows}
use Rattle.bh_stream.specs.Messages.{Spelled, IsSpelled, KnowsMessages}
use Rattle.bh_reading.specs.Readings as binary
use Rattle.bh_reading.proofs.AtStart.{knows_at_start, from_start}
use Rattle.h1_spec.specs.Http1Text.{text_of, http1}
use Rattle.h1_spec.specs.Cleaning.{hops, clean, clean_trailers, clean_interim, clean_message, says_host}
use Rattle.h1_spec.proofs.Members.{spelled_leaves}
use Rattle.h1_spec.specs.Laws.{LeavesOut}
use Rattle.h1_judge.specs.Courses.{cleaned_items}
use Rattle.h1_judge.specs.Views.{JudgedView, rest, room, IsAtStart}
use Rattle.h1_text.specs.Owed.{at_start, owed}
use Rattle.h1_text.proofs.Owes.{owes_bytes}

-- ---- the items of the cleaned message

tail_cleaned : (named : List (List ℕ)) (content : List ℕ) (trailers : List Field) (o : Omitted) (z : ℕ)
    → cleaned_items named (tail_items content trailers o z) ≡ tail_items content (clean_trailers named trailers) o z
tail_cleaned named [] trailers Nothing z = refl
tail_cleaned named [] trailers Trailers z = refl
tail_cleaned named [] trailers Both z = refl
tail_cleaned named (x ∷ content) trailers o z = ap (λ (q : List Item). content_byte x ∷ q) (tail_cleaned named content trailers o z)

responses_cleaned : (named : List (List ℕ)) (interims : List Interim) (status : ℕ) (fields : List Field) (content : List ℕ) (trailers : List Field) (o : Omitted) (z : ℕ)
    → cleaned_items named (start_items (response interims status) fields ++ tail_items content trailers o z)
    ≡ start_items (response (map clean_interim interims) status) (clean (hops fields) Bool.false fields) ++ tail_items content (clean_trailers (hops fields) trailers) o z
responses_cleaned named [] status fields content trailers o z =
    ap (λ (q : List Item). head (of_response status) (clean (hops fields) Bool.false fields) ∷ q) (tail_cleaned (hops fields) content trailers o z)
responses_cleaned named (i ∷ interims) status fields content trailers o z =
    ap (λ (q : List Item). interim_response i.status (clean (hops i.fields) Bool.false i.fields) ∷ q)
    (responses_cleaned (hops i.fields) interims status fields content trailers o z)

message_cleaned : (named : List (List ℕ)) (start : Start) (fields : List Field) (content : List ℕ) (trailers : List Field) (o : Omitted) (z : ℕ)
    → let m : Message = record { start = start; fields = fields; content = content; trailers = trailers } in cleaned_items named (items m o z) ≡ items (clean_message m) o z
message_cleaned named (request c) fields content trailers o z =
    ap (λ (q : List Item). head (of_request c) (clean (hops fields) (says_host (request c)) fields) ∷ q) (tail_cleaned (hops fields) content trailers o z)
message_cleaned named (response interims status) fields content trailers o z = responses_cleaned named interims status fields content trailers o z

pub items_cleaned : (named : List (List ℕ)) (m : Message) (o : Omitted) (z : ℕ) → cleaned_items named (items m o z) ≡ items (clean_message m) o z
items_cleaned named m o z = message_cleaned named m.start m.fields m.content m.trailers o z

-- what a cleaned message leaves out is empty
pub leaves_clean : (m : Message) (o : Omitted) → LeavesOut m o → LeavesOut (clean_message m) o
leaves_clean m Nothing h = tt
leaves_clean m Trailers h = ap (clean_trailers (hops m.fields)) h
leaves_clean m Both h = (h.0, ap (clean_trailers (hops m.fields)) h.1)

-- ---- at the start

abbrev pub clean_of : Spelled → List Item
clean_of s = items (clean_message s.message) s.omitted s.padding

module _ (L : Bounds) (limits : AreLimits L) (to_head : Bool) (v : JudgedView) (start : IsAtStart L to_head v) where
  -- the decoder of binary messages knows them
  pub raw : (q : List Item) (t : Text) → binary.rest v.reading q t → (m : Message) × (o : Omitted) × (z : ℕ) × (q ≡ items m o z) × Spells L m o z t
  raw q t h = from_start L limits v.reading start.reading q t h

  binary_knows : KnowsMessages L (text_of to_head) binary.rest binary.room v.reading (owed to_head at_start)
  binary_knows = knows_at_start L limits v.reading start.reading (text_of to_head) (owed to_head at_start)
      (λ m o z t h. owes_bytes to_head m o z (spelled_leaves L m o z t h))

  pub knows_clean : Knows (IsSpelled L) clean_of (λ s. http1 to_head s.message) L.input rest room v (owed to_head at_start)
  knows_clean = record {
    reads = λ s t h. (
      items s.message s.omitted s.padding,
      sym (items_cleaned v.course.named s.message s.omitted s.padding),
      binary_knows.reads s t h,
    );
    alone = λ q t h.
        let m = raw h.0 t h.2 in
        (record { message = m.0; omitted = m.1; padding = m.2 }, h.1 ∙ ap (cleaned_items v.course.named) m.3 ∙ items_cleaned v.course.named m.0 m.1 m.2, m.4);
    once = λ m n t u a b e.
        let same = one_reading L L m.message n.message m.omitted n.omitted m.padding n.padding (bytes_of u) (record { text = t; spelled = a; same = e }) (record { text = u; spelled = b; same = refl }) in
        λ i. items (clean_message (same.0 i)) (same.1 i) (same.2 i);
    limit_is = binary_knows.limit_is;
    nothing = λ never. refl;
    owes = λ s t h. owes_bytes to_head (clean_message s.message) s.omitted s.padding (leaves_clean s.message s.omitted (spelled_leaves L s.message s.omitted s.padding t h));
  }
