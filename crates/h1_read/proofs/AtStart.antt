-- At the start a reader knows the texts of HTTP/1.1.
use Rattle.std.proofs.Common.{◌≡◌, ◌≤◌, ◌+◌, ℕ, Bool, List, [], ◌++◌, length, Some, refl, sym, ◌∙◌, ap, subst, subst₂, arith, append_assoc}
use Rattle.bh_spec.specs.declared.Omitted.{Omitted}
use Rattle.bh_spec.specs.declared.Omitted.TheVariants.{Nothing}
use Rattle.bh_spec.specs.Bounds.{Bounds, IsWithin, no_bounds}
use Rattle.bh_spec.specs.Messages.{Field, Message}
use Rattle.bh_spec.specs.Canonical.{FieldsFit}
use Rattle.bh_spec.specs.Texts.{Text, bytes_of, content_in}
use Rattle.bh_spec.specs.Items.{Item, start_items, tail_items, items}
use Rattle.bh_model.specs.Ranges.{AreLimits}
use Rattle.bh_stream.specs.Decoding.{content_items}
use Rattle.bh_stream.specs.Messages.{Spelled, items_in}
use Rattle.bh_reading.specs.ReadingLaws.{room_at}
use Rattle.h1_spec.specs.declared.Scheme1.{Scheme1}
use Rattle.h1_spec.specs.declared.Framing1.{Framing1}
use Rattle.h1_spec.specs.declared.Framing1.TheVariants.{Empty, Counted, Chunked, ToEnd}
use Rattle.h1_spec.specs.Heads.{Head}
use Rattle.h1_spec.specs.Cleaning.{hops, clean, clean_trailers, says_host}
use Rattle.h1_spec.specs.Framing.{framing}
use Rattle.h1_spec.specs.Bodies.{IsBody}
use Rattle.h1_spec.specs.Http1.{interims_of, IsStartOf, IsHttp1}
use Rattle.h1_spec.specs.Marks.{as_framing, IsMarkedBody, IsMarked, IsSomeMarked}
use Rattle.h1_spec.specs.BodyStates.{start as body_start}
use Rattle.h1_spec.proofs.OneMark.{heads_front}
use Rattle.h1_spec.proofs.Reading.{start_is_last, same_parts, one_message}
use Rattle.h1_spec.proofs.OneAnswer.{few_of}
use Rattle.h1_spec.proofs.BodyMarks.{marked_bytes}
use Rattle.h1_spec.proofs.BodyStarts.{starts}
use Rattle.h1_spec.proofs.MarkedBodies.{marks_body, body_marked}
use Rattle.h1_read.specs.Places.{Setting, Place, left_out, HeadRest, RestFrom, MarkedHeads}
use Rattle.h1_read.specs.Readings.{View, rest, room, Counts, Moved, IsReady, IsAtStart}
use Rattle.h1_read.specs.Laws.{IsHttp1Text, KnowsHttp1, ReadyAtStart}
use Rattle.h1_read.proofs.HeadParts.{heads_bytes}

-- ---- what completes a message from its start is a message

abbrev message_of : (S : Setting) (q : List Item) (t : Text) → HeadRest S 0 [] q t → Message
message_of S q t h = record {
  start = h.start;
  fields = clean (hops h.head.fields) (says_host h.start) h.head.fields;
  content = h.tail.content;
  trailers = clean_trailers (hops h.head.fields) h.tail.trailers;
}

abbrev framing_of : (S : Setting) (q : List Item) (t : Text) → HeadRest S 0 [] q t → Framing1
framing_of S q t h = framing S.to_head h.head

rest_bytes : (S : Setting) (q : List Item) (t : Text) (h : HeadRest S 0 [] q t) → bytes_of t ≡ h.heads ++ h.tail.bytes
rest_bytes S q t h =
    heads_bytes h.heads h.body t h.text_is
    ∙ ap (λ (z : List ℕ). h.heads ++ z) (ap bytes_of h.tail.text_is ∙ marked_bytes (body_start (framing_of S q t h)) h.tail.bytes)

rest_body : (S : Setting) (q : List Item) (t : Text) (h : HeadRest S 0 [] q t)
    → IsBody S.limits (framing S.to_head h.head) h.tail.content h.tail.trailers h.tail.bytes
rest_body S q t h =
    (starts S.limits (framing_of S q t h)).forth h.tail.content h.tail.trailers h.tail.bytes h.tail.completes

abbrev rest_whole : (S : Setting) (q : List Item) (t : Text) (h : HeadRest S 0 [] q t)
    → IsHttp1 S.limits S.scheme S.to_head (message_of S q t h) (bytes_of t)
rest_whole S q t h =
    let x = h.text in
    record {
      head = h.head;
      trailers = h.tail.trailers;
      text = (
        x.0,
        x.1 ++ h.tail.bytes,
        x.2,
        (x.1, h.tail.bytes, x.3, rest_body S q t h, refl),
        rest_bytes S q t h ∙ ap (λ (z : List ℕ). z ++ h.tail.bytes) x.4 ∙ append_assoc x.0 x.1 h.tail.bytes,
      );
      start = h.says;
      coded = h.coded;
      counted = h.counted;
      fields = refl;
      cleaned = refl;
      content = h.tail.are;
      fits = record { start = h.start_fits; fields = h.fields_fit; trailers = h.tail.fits };
    }

abbrev spelled_of : (S : Setting) (q : List Item) (t : Text) → HeadRest S 0 [] q t → Spelled
spelled_of S q t h = record { message = message_of S q t h; omitted = left_out (body_start (framing_of S q t h)); padding = 0 }

pub text_of_rest : (S : Setting) (q : List Item) (t : Text) → HeadRest S 0 [] q t
    → (s : Spelled) × (q ≡ items_in s) × IsHttp1Text S.limits S.scheme S.to_head s t
text_of_rest S q t h = (
  spelled_of S q t h,
  h.items_are ∙ ap (λ (z : List Item). start_items h.start (clean (hops h.head.fields) (says_host h.start) h.head.fields) ++ z)
      h.tail.items_are,
  record {
    marked = record {
      scheme = S.scheme;
      whole = rest_whole S q t h;
      heads = h.heads;
      body = h.body;
      heads_are = h.text;
      marked = subst (λ (z : Text). IsMarkedBody (framing S.to_head h.head) h.tail.content z) (sym h.tail.text_is)
          (marks_body S.limits (framing S.to_head h.head) h.tail.content h.tail.trailers h.tail.bytes (rest_body S q t h));
      split = h.text_is;
    };
    scheme_is = refl;
    omitted = refl;
    padding = refl;
  },
)

-- ---- and back

-- the body is what stands behind the heads
text_body : (L : Bounds) (to_head : Bool) (m : Message) (t : Text) (h : IsMarked L to_head m t)
    → IsBody L (framing to_head h.whole.head) m.content h.whole.trailers (bytes_of h.body)
text_body L to_head m t h =
    let w = h.whole.text in
    let b = w.3 in
    let is = interims_of m.start in
    let last = start_is_last h.scheme h.whole.head m.start h.whole.start in
    let same = heads_front L L is is h.whole.head h.whole.head last last (w.0 ++ b.0) h.heads b.1 (bytes_of h.body) (w.0, b.0, w.2, b.2, refl)
    h.heads_are (append_assoc w.0 b.0 b.1 ∙ ap (λ (z : List ℕ). w.0 ++ z) (sym b.4) ∙ sym w.4 ∙ heads_bytes h.heads h.body t h.split) in
    subst (IsBody L (framing to_head h.whole.head) m.content h.whole.trailers) same.1 b.3

text_items : (s : Spelled) (fields trailers : List Field) (omitted : Omitted) → s.message.fields ≡ fields
    → s.message.trailers ≡ trailers → s.omitted ≡ omitted → s.padding ≡ 0
    → items_in s ≡ start_items s.message.start fields ++ tail_items s.message.content trailers omitted 0
text_items s fields trailers omitted e f g h =
    λ j. start_items s.message.start (e j) ++ tail_items s.message.content (f j) (g j) (h j)

same_scheme : (scheme other : Scheme1) (h : Head) (s : Spelled) → other ≡ scheme → IsStartOf other h s.message.start
    → IsStartOf scheme h s.message.start
same_scheme scheme other h s e p = subst (λ (c : Scheme1). IsStartOf c h s.message.start) e p

none_more : (L : Bounds) (n : ℕ) → IsWithin L.interims n → IsWithin L.interims (0 + n)
none_more L n h = let sum : n ≡ 0 + n = omega arith in subst (IsWithin L.interims) sum h

pub rest_of_text : (S : Setting) (s : Spelled) (t : Text) → IsHttp1Text S.limits S.scheme S.to_head s t
    → HeadRest S 0 [] (items_in s) t
rest_of_text S s t h =
    let w = h.marked.whole in
    let f : Framing1 = framing S.to_head w.head in
    let body = text_body S.limits S.to_head s.message t h.marked in
    let own : List Field = clean (hops w.head.fields) (says_host s.message.start) w.head.fields in
    let trailers : List Field = clean_trailers (hops w.head.fields) w.trailers in
    record {
      start = s.message.start;
      head = w.head;
      heads = h.marked.heads;
      body = h.marked.body;
      behind = tail_items s.message.content trailers (left_out (body_start f)) 0;
      text = h.marked.heads_are;
      says = same_scheme S.scheme h.marked.scheme w.head s h.scheme_is w.start;
      next = tt;
      few = none_more S.limits (length (interims_of s.message.start)) (few_of S.limits s.message.start w.fits.start);
      coded = w.coded;
      counted = w.counted;
      start_fits = w.fits.start;
      fields_fit = subst (FieldsFit S.limits) w.fields w.fits.fields;
      tail = record {
        content = s.message.content;
        trailers = w.trailers;
        bytes = bytes_of h.marked.body;
        completes = (starts S.limits f).back s.message.content w.trailers (bytes_of h.marked.body) body;
        are = w.content;
        fits = subst (FieldsFit S.limits) w.cleaned w.fits.trailers;
        text_is = sym (body_marked S.limits f s.message.content w.trailers h.marked.body body h.marked.marked);
        items_are = refl;
      };
      items_are = text_items s own trailers (left_out (body_start f)) w.fields w.cleaned h.omitted h.padding;
      text_is = h.marked.split;
    }

-- ---- whatever the limits

-- A text may come at the start, whatever the limits and the scheme.
some_heads : (to_head : Bool) (t : Text) → IsSomeMarked no_bounds to_head t → MarkedHeads to_head [] t
some_heads to_head t h =
    let m = h.1 in
    let w = m.whole in
    let f : Framing1 = framing to_head w.head in
    record {
      interims = interims_of h.0.start;
      head = w.head;
      heads = m.heads;
      bytes = bytes_of m.body;
      text = m.heads_are;
      last = start_is_last m.scheme w.head h.0.start w.start;
      text_is = m.split ∙ ap (λ (z : Text). as_framing m.heads ++ z)
          (sym (body_marked no_bounds f h.0.content w.trailers m.body (text_body no_bounds to_head h.0 t m) m.marked));
    }

-- ---- texts of the same bytes

items_same : (a b : Spelled) → a.message ≡ b.message → a.omitted ≡ b.omitted → a.padding ≡ b.padding → items_in a ≡ items_in b
items_same a b e f g = λ j. items (e j) (f j) (g j)

text_once : (L : Bounds) (scheme : Scheme1) (to_head : Bool) (a b : Spelled) (t u : Text) → IsHttp1Text L scheme to_head a t
    → IsHttp1Text L scheme to_head b u → bytes_of t ≡ bytes_of u → items_in a ≡ items_in b
text_once L scheme to_head a b t u h k e =
    let p = h.marked.whole in
    let q = k.marked.whole in
    let parts = same_parts L L h.marked.scheme k.marked.scheme to_head a.message b.message (bytes_of t) (bytes_of u) e p q in
    let message : a.message ≡ b.message = one_message L L scheme to_head a.message b.message (bytes_of u)
    (subst₂ (λ (c : Scheme1) (z : List ℕ). IsHttp1 L c to_head a.message z) h.scheme_is e p)
    (subst (λ (c : Scheme1). IsHttp1 L c to_head b.message (bytes_of u)) k.scheme_is q) in
    items_same a b message
    (h.omitted ∙ ap (λ (head : Head). left_out (body_start (framing to_head head))) parts.1.0 ∙ sym k.omitted) (h.padding ∙ sym k.padding)

-- ---- what is left out

-- a trailer section that is left out is empty
pub left_out_is_empty : (L : Bounds) (scheme : Scheme1) (to_head : Bool) (s : Spelled) (t : Text) → IsHttp1Text L scheme to_head s t
    → (s.omitted ≡ Nothing → ⊥) → s.message.trailers ≡ []
left_out_is_empty L scheme to_head s t h n =
    let w = h.marked.whole in
    let none = by_framing (framing to_head w.head) s.message.content w.trailers w.text.3.1 w.text.3.3 (λ e. n (h.omitted ∙ e)) in
    w.cleaned ∙ ap (clean_trailers (hops w.head.fields)) none
  where
    by_framing : (f : Framing1) (content : List ℕ) (trailers : List Field) (bytes : List ℕ) → IsBody L f content trailers bytes
        → (left_out (body_start f) ≡ Nothing → ⊥) → trailers ≡ []
    by_framing Empty content trailers bytes b n = b.1
    by_framing (Counted long) content trailers bytes b n = b.1
    by_framing Chunked content trailers bytes b n = absurd (n refl)
    by_framing ToEnd content trailers bytes b n = b.0

-- ---- a reader at the start

module _ (L : Bounds) (scheme : Scheme1) (to_head : Bool) (v : View) (limits : AreLimits L) (start : IsAtStart L scheme to_head v) where
  abbrev pub S : Setting
  S = record { limits = L; scheme = scheme; to_head = to_head }

  pub from_start : (q : List Item) (t : Text) → rest v q t → HeadRest S 0 [] q t
  from_start q t h = subst₂ (λ (A : Setting) (p : Place). RestFrom A p q t) start.setting start.place h

  pub to_start : (q : List Item) (t : Text) → HeadRest S 0 [] q t → rest v q t
  to_start q t h = subst₂ (λ (A : Setting) (p : Place). RestFrom A p q t) (sym start.setting) (sym start.place) h

  pub input_is : v.setting.limits.input ≡ Some limits.input
  input_is = ap (λ (A : Setting). A.limits.input) start.setting ∙ ap (λ (K : Bounds). K.input) limits.same

  pub is_ready_there : IsReady v
  is_ready_there = record {
    refused = start.refused;
    input = record { limit = limits.input; limit_is = input_is; few = omega (arith, start.taken) };
    lines = omega (arith, start.lines);
    content = omega (arith, start.content);
  }

  room_is : room v ≡ limits.input
  room_is = omega (arith, room_at v.setting.limits.input limits.input v.taken input_is, start.taken)

  limit_there : L.input ≡ Some (room v)
  limit_there = ap (λ (K : Bounds). K.input) limits.same ∙ ap Some (sym room_is)

  -- what a text without limits counts in a front of the bytes, the items count
  pub few_from_start : (w : View) (bytes : List ℕ) (i : List Item) → Moved v bytes i w → (front back : Text) (more : List ℕ)
      → IsSomeMarked no_bounds to_head (front ++ back) → bytes ≡ bytes_of front ++ more → content_in front ≤ content_items i
  few_from_start w bytes i m front back more h e =
      let counts = subst₂ (λ (A : Setting) (p : Place). Counts A.to_head p bytes i w.place) start.setting start.place m.goes.counts in
      counts.few front back more (some_heads to_head (front ++ back) h) e

pub ready_at_start : ReadyAtStart
ready_at_start L scheme to_head v limits start = is_ready_there L scheme to_head v limits start

pub knows_http1 : KnowsHttp1
knows_http1 L scheme to_head v limits start output owed owes none = record {
  reads = λ s t h. to_start L scheme to_head v limits start (items_in s) t (rest_of_text (S L scheme to_head v limits start) s t h);
  alone = λ q t h. text_of_rest (S L scheme to_head v limits start) q t (from_start L scheme to_head v limits start q t h);
  once = text_once L scheme to_head;
  limit_is = limit_there L scheme to_head v limits start;
  owes = owes;
  nothing = λ never. none;
}
