-- From the start, what completes a message is a message, and its items are those that are handed out.
use Rattle.std.proofs.Common.{◌≡◌, ℕ, List, [], ◌∷◌, ◌++◌, length, map, refl, sym, ap, subst, ◌∙◌, append_assoc}
use Rattle.bh_spec.specs.declared.Form.{Form}
use Rattle.bh_spec.specs.declared.Kind.{Kind}
use Rattle.bh_spec.specs.declared.Kind.TheVariants.{Request, Response}
use Rattle.bh_spec.specs.declared.Omitted.{Omitted}
use Rattle.bh_spec.specs.declared.Part.TheVariants as parts
use Rattle.bh_spec.specs.Bounds.{Bounds, IsWithin}
use Rattle.bh_spec.specs.Messages.{Field, Start, request, response, Message, kind_of, IsStart, AreHeaders, IsValid}
use Rattle.bh_spec.specs.Texts.{Text, IsNumber, ◌then◌}
use Rattle.bh_spec.specs.Sections.{IsSection}
use Rattle.bh_spec.specs.Tails.{IsTail}
use Rattle.bh_spec.specs.Spelling.{IsStartText, framing}
use Rattle.bh_spec.specs.Items.{Item, Head, of_request, of_response, head, start_items, tail_items, MessageOf}
use Rattle.bh_spec.specs.Runs.{IsMessageStart}
use Rattle.bh_push.specs.Completing.{AfterStart, interim_item, AfterFraming, MessageRest}
use Rattle.bh_push.specs.Decoders.{Rest, in_framing}
use Rattle.bh_push.proofs.Tails.{TailOf, none_before, tail_to, tail_from}

-- the header section and the tail
after_to : (L : Bounds) (form : Form) (of : Head) (m : Message) (o : Omitted) (z : ℕ) (t : Text) → IsValid m → (IsSection L form m.fields then IsTail L form m.content m.trailers o z) t
    → AfterStart L form of (head of m.fields ∷ tail_items m.content m.trailers o z) t
after_to L form of m o z t valid h = record {
  thing = m.fields;
  text = h.0;
  rest = h.1;
  more = tail_items m.content m.trailers o z;
  spelled = (h.2, valid.fields);
  behind = tail_to L form m.content m.trailers o z h.1 valid.content valid.trailers h.3;
  items = refl;
  joined = h.4;
}

-- behind the framing number
framed_to : (L : Bounds) (form : Form) (start : Start) (fields : List Field) (content : List ℕ) (trailers : List Field) (o : Omitted) (z : ℕ) (t : Text)
    → IsValid (record { start = start; fields = fields; content = content; trailers = trailers })
    → (IsStartText L form start then IsSection L form fields then IsTail L form content trailers o z) t
    → AfterFraming L (kind_of start, form) (start_items start fields ++ tail_items content trailers o z) t
framed_to L form (request c) fields content trailers o z t valid h = record {
  thing = c;
  text = h.0;
  rest = h.1;
  more = head (of_request c) fields ∷ tail_items content trailers o z;
  spelled = record { valid = valid.start; spelled = h.2 };
  behind = after_to L form (of_request c) (record { start = request c; fields = fields; content = content; trailers = trailers }) o z h.1 valid h.3;
  items = refl;
  joined = h.4;
}
framed_to L form (response interims status) fields content trailers o z t valid h = record {
  thing = (interims, status);
  text = h.0;
  rest = h.1;
  more = head (of_response status) fields ∷ tail_items content trailers o z;
  spelled = record { each = valid.start.each; final = valid.start.final; few = subst (IsWithin L.interims) (sym (none_before (length interims))) h.2.0; spelled = h.2.1 };
  behind = after_to L form (of_response status) (record { start = response interims status; fields = fields; content = content; trailers = trailers }) o z h.1 valid h.3;
  items = append_assoc (map interim_item interims) (head (of_response status) fields ∷ []) (tail_items content trailers o z);
  joined = h.4;
}

message_to : (L : Bounds) (q : List Item) (t : Text) → MessageOf L q t → MessageRest L q t
message_to L q t h =
    let m = h.0 in
    let s = h.4 in
    record {
      thing = (kind_of m.start, s.form);
      text = s.text.0;
      rest = s.text.1;
      more = q;
      spelled = s.text.2;
      behind = subst (λ (p : List Item). AfterFraming L (kind_of m.start, s.form) p s.text.1) (sym h.3)
          (framed_to L s.form m.start m.fields m.content m.trailers h.1 h.2 s.text.1 s.valid s.text.3);
      items = refl;
      joined = s.text.4;
    }

-- ---- and back

message_of : (L : Bounds) (form : Form) (start : Start) (fields : List Field) (q more : List Item) (t x y : Text) (tail : TailOf L form more y)
    → IsStart start → AreHeaders fields → q ≡ start_items start fields ++ more
    → (IsNumber parts.Framing (framing (kind_of start) form) then IsStartText L form start then IsSection L form fields then IsTail L form tail.content tail.trailers tail.omitted tail.padding) t
    → MessageOf L q t
message_of L form start fields q more t x y tail valid headers e h = (
  record { start = start; fields = fields; content = tail.content; trailers = tail.trailers },
  tail.omitted,
  tail.padding,
  e ∙ ap (λ (p : List Item). start_items start fields ++ p) tail.items,
  record { valid = record { start = valid; fields = headers; content = tail.bytes; trailers = tail.valid }; form = form; text = h },
)

message_from : (L : Bounds) (q : List Item) (t : Text) → MessageRest L q t → MessageOf L q t
message_from L q t y = at y.thing y.spelled y.behind y.items
  where
    at : (k : Kind × Form) → IsNumber parts.Framing (framing k.0 k.1) y.text → AfterFraming L k y.more y.rest → q ≡ [] ++ y.more → MessageOf L q t
    at (Request, form) number c e =
        let a = c.behind in
        let tail = tail_from L form a.more a.rest a.behind in
        message_of L form (request c.thing) a.thing q a.more t y.text a.rest tail c.spelled.valid a.spelled.1 (e ∙ c.items ∙ a.items)
        (y.text, y.rest, number, (c.text, c.rest, c.spelled.spelled, (a.text, a.rest, a.spelled.0, tail.spelled, a.joined), c.joined), y.joined)
    at (Response, form) number c e =
        let o = c.spelled in
        let a = c.behind in
        let tail = tail_from L form a.more a.rest a.behind in
        message_of L form (response c.thing.0 c.thing.1) a.thing q a.more t y.text a.rest tail (record { each = o.each; final = o.final }) a.spelled.1
        (e ∙ c.items ∙ ap (λ (p : List Item). map interim_item c.thing.0 ++ p) a.items
        ∙ sym (append_assoc (map interim_item c.thing.0) (head (of_response c.thing.1) a.thing ∷ []) a.more))
        (y.text, y.rest, number, (c.text, c.rest, (subst (IsWithin L.interims) (none_before (length c.thing.0)) o.few, o.spelled), (a.text, a.rest, a.spelled.0, tail.spelled, a.joined), c.joined), y.joined)

-- the start is where no byte of the framing number came
pub start_is : IsMessageStart Rest (in_framing [])
start_is = record { forth = λ L q t h. message_from L q t h; back = λ L q t h. message_to L q t h }
