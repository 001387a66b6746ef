-- What one push of the decoder of the binary message leads to, when it is judged.
use Rattle.std.proofs.Common.{◌≡◌, ◌<◌, ◌≤◌, ℕ, Bool, true, false, Option, Some, None, List, not, nat_eq, nat_lt, [], ◌∷◌, ◌++◌, length, take, drop, map, ◌⊎◌, inl, inr, refl, sym, ◌∙◌, ap, subst, arith, append-nil, length-append}
use Rattle.std.proofs.lemmas.List.{map-append, take-append-drop, length-take-le}
use Rattle.bh_spec.specs.declared.NoForm.{NoForm}
use Rattle.bh_spec.specs.declared.NoForm.TheVariants as no
use Rattle.bh_spec.specs.declared.Refusal.{Refusal}
use Rattle.bh_spec.specs.Bounds.{Bounds}
use Rattle.bh_spec.specs.Messages.{Field}
use Rattle.bh_spec.specs.Items.{Item, interim_response, head, content_byte, trailer_section, Head}
use Rattle.bh_push.specs.Decoders.{At, IsBehindContent}
use Rattle.bh_push.specs.Standing.{IsRight}
use Rattle.bh_stream.specs.Decoding.{content_items, IsAlive, IsSilent, Took}
use Rattle.bh_stream.specs.declared.traits.Event.{Event}
use Rattle.bh_stream.specs.declared.traits.Event.TheVariants as events
use Rattle.bh_stream.proofs.Moving.{items-map}
use Rattle.bh_reading.specs.Readings as binary
use Rattle.bh_reading.specs.Readings.{Counted}
use Rattle.bh_reading.specs.ReadingLaws.{alive_behind, reading_laws}
use Rattle.bh_reading.specs.Places.{IsRightOf}
use Rattle.h1_spec.specs.declared.Framing1.{Framing1}
use Rattle.h1_spec.specs.declared.Framing1.TheVariants as framings
use Rattle.h1_spec.specs.Http1Text.{Case, has_bad_value}
use Rattle.h1_spec.specs.Moments.{announced, of_trailers, first_of}
use Rattle.h1_spec.specs.Http1.{start_of}
use Rattle.h1_head.specs.Room.{room_in, count_in}
use Rattle.h1_judge.specs.declared.judged.IntoWhy.TheVariants as why
use Rattle.h1_judge.specs.declared.judging.Judge.{Judge}
use Rattle.h1_judge.specs.Courses.{own_fields, cleaned_item, cleaned_items, Course, behind_item, item_form}
use Rattle.h1_judge.specs.Views.{JudgedView, rest, limits, Prompt, StandsBehind, Moved, IsFitting, IsReady, shows, IsRefused, IsJudged, AreContent}
use Rattle.h1_judge.specs.Judges.{course_of, view_of, HasRoom, KeepsRoom, IsCounting, IsSound, HasRoomFor, Judges, IsShort, IsLastJudged, AreCounted, Leaves, IsShown}
use Rattle.h1_judge.specs.JudgedLaws.{cleaned-content, alive_there, judged_laws}

-- ---- rooms

pub keeps_sound : (L : Bounds) (j k : Judge) → IsSound L j → KeepsRoom j k → IsCounting k.framing k.counted → IsSound L k
keeps_sound L j k sound room counting = record {
  room = record {
    section = sound.room.section;
    section_is = sound.room.section_is;
    names = omega (arith, sound.room.names, room.names);
    lines = omega (arith, sound.room.lines, room.lines);
    count = omega (arith, sound.room.count, room.count);
    ended = room.ended;
  };
  counting = counting;
}

pub leaves_sound : (L : Bounds) (j k : Judge) → IsSound L j → Leaves j k → IsCounting k.framing k.counted → IsSound L k
leaves_sound L j k sound same counting = record {
  room = subst (λ h. HasRoom L h k.cleaned) (sym same.hops) (subst (λ f. HasRoom L j.hops f) (sym same.cleaned) sound.room);
  counting = counting;
}

-- ---- items

cleaned_bytes : (named : List (List ℕ)) (bytes : List ℕ) → map content_byte bytes ≡ cleaned_items named (map content_byte bytes)
cleaned_bytes named [] = refl
cleaned_bytes named (x ∷ bytes) = ap (λ (q : List Item). content_byte x ∷ q) (cleaned_bytes named bytes)

-- bytes of content end with one
by_last : (x : ℕ) (bytes : List ℕ) → (front : List Item) × (last : ℕ) × (map content_byte (x ∷ bytes) ≡ front ++ content_byte last ∷ [])
by_last x [] = ([], x, refl)
by_last x (y ∷ bytes) = let h = by_last y bytes in (content_byte x ∷ h.0, h.1, ap (λ (q : List Item). content_byte x ∷ q) h.2)

stands_of : (d : Counted) (event : Event) (item : Item) → binary.shows d event item → IsRightOf event d.held.decoder.at
    → StandsBehind item d.held.decoder.at
stands_of d (events.Interim status) item s r = subst (λ (i : Item). StandsBehind i d.held.decoder.at) (sym s.1) r
stands_of d events.Head item s r = subst (λ (i : Item). StandsBehind i d.held.decoder.at) (sym s.2) r
stands_of d events.Trailers item s r = subst (λ (i : Item). StandsBehind i d.held.decoder.at) (sym s.1) r

right_of : (d : Counted) (event : Event) (item : Item) → binary.shows d event item → IsRightOf event d.held.decoder.at
    → IsRight (item ∷ []) d.held.decoder.at
right_of d (events.Interim status) item s r = subst (λ (i : Item). IsRight (i ∷ []) d.held.decoder.at) (sym s.1) r
right_of d events.Head item s r = subst (λ (i : Item). IsRight (i ∷ []) d.held.decoder.at) (sym s.2) r
right_of d events.Trailers item s r = subst (λ (i : Item). IsRight (i ∷ []) d.held.decoder.at) (sym s.1) r

off_first : (form : NoForm) (b : Bool) (more : List Case) → first_of ((form, b) ∷ more) ≡ None → b ≡ false
off_first form false more e = refl
off_first form true more e = absurd (cc)

-- in a trailer section for which no rule holds every value can be written
values_free : (f : Framing1) (n : ℕ) (fields : List Field) → first_of (of_trailers f n fields) ≡ None → has_bad_value fields ≡ false
values_free framings.Empty n fields e =
    off_first no.ValueByte (has_bad_value fields) ((no.Bodyless, not (nat_eq (length fields) 0)) ∷ []) e
values_free (framings.Counted field) n fields e =
    off_first no.ValueByte (has_bad_value fields)
    ((no.LengthDiffers field n, nat_lt n field) ∷ (no.TrailersCounted, not (nat_eq (length fields) 0)) ∷ []) e
values_free framings.Chunked n fields e = off_first no.ValueByte (has_bad_value fields) [] e
values_free framings.ToEnd n fields e = off_first no.ValueByte (has_bad_value fields) [] e

-- ---- answers

abbrev pub NeedOn : JudgedView → List ℕ → JudgedView → Type 0
NeedOn v piece w = Moved v piece [] w × (IsAlive rest w ⊎ IsSilent rest v piece)

abbrev pub EventOn : JudgedView → List ℕ → ℕ → Event → JudgedView → Type 0
EventOn v piece n event w = (item : Item) × Took rest Moved v piece n (item ∷ []) w × shows w event item × (content_items (item ∷ []) ≡ 0)

module _ (c d : Counted) (j k : Judge) (ready : IsReady (view_of c j)) where
  abbrev pub v : JudgedView
  v = view_of c j

  abbrev pub w : JudgedView
  w = view_of d k

  -- an item that comes is one of a valid message within the limits
  pub fitting_of : (x : List ℕ) (item : Item) → binary.Moved c x (item ∷ []) d → IsFitting (binary.limits c) item
  fitting_of x item m =
      let alive = alive_behind c d x (item ∷ []) m in
      let h = reading_laws.leads c d x (item ∷ []) m in
      (ready.fitting (item ∷ alive.0) (h.residual.text ++ alive.1) (h.residual.back alive.0 alive.1 alive.2)).0

  refused_here : (piece : List ℕ) (n : ℕ) (form : NoForm) → IsJudged v (take n piece) form → IsRefused v piece (why.Form form)
  refused_here piece n form h = record {
    before = [];
    bytes = take n piece;
    after = drop n piece;
    split = sym (take-append-drop n piece);
    state = v;
    moved = judged_laws.stays v ready;
    refused = h;
  }

  pub binary_refused : (piece : List ℕ) (r : Refusal) → binary.refuses c piece r → IsRefused v piece (why.Binary r)
  binary_refused piece r h = record {
    before = [];
    bytes = piece;
    after = [];
    split = sym (append-nil piece);
    state = v;
    moved = judged_laws.stays v ready;
    refused = h;
  }

  -- ---- content

  pub content_free : (piece : List ℕ) (n : ℕ) (bytes : List ℕ) → 0 < length bytes → Took binary.rest binary.Moved c piece n (map content_byte bytes) d
      → IsBehindContent d.held.decoder.at → Prompt d → AreCounted j.to_head (course_of j) bytes (course_of k) → k.to_head ≡ j.to_head
      → Took rest Moved v piece n (map content_byte bytes) w
  content_free piece n [] some took right prompt counted to_head = absurd (omega (arith, some))
  content_free piece n (x ∷ more) some took right prompt counted to_head =
      let bytes : List ℕ = x ∷ more in
      let ends = by_last x more in
      let moved : Moved v (take n piece) (map content_byte bytes) w = record {
        raw = map content_byte bytes;
        items_are = cleaned_bytes j.hops.names bytes;
        moved = took.moved;
        to_head = to_head;
        course = counted.course;
        free = counted.free;
        prompt = prompt;
        landed = inr (record {
          front = ends.0;
          last = content_byte ends.1;
          items_are = ends.2;
          seen = take n piece;
          quiet = [];
          split = sym (append-nil (take n piece));
          state = d;
          moved = took.moved;
          right = right;
        });
      } in
      record { some = took.some; inside = took.inside; moved = moved; alive = alive_there v w (take n piece) (map content_byte bytes) moved }

  pub content_judged : (piece : List ℕ) (n : ℕ) (bytes : List ℕ) (form : NoForm) → IsShort j.framing j.counted (length piece) → length bytes ≤ n
      → Took binary.rest binary.Moved c piece n (map content_byte bytes) d → IsBehindContent d.held.decoder.at → Prompt d → IsLastJudged j.to_head (course_of j) bytes form → IsRefused v piece (why.Form form)
  content_judged piece n bytes form short few took right prompt h =
      let items : map content_byte bytes ≡ map content_byte h.front ++ content_byte h.last ∷ []
      = ap (map content_byte) h.split ∙ map-append content_byte h.front (h.last ∷ []) in
      refused_here piece n form (record {
        some = omega (arith, took.some, length-take-le n piece took.inside);
        raw = map content_byte h.front;
        last = content_byte h.last;
        state = d;
        moved = subst (λ (q : List Item). binary.Moved c (take n piece) q d) items took.moved;
        free = h.free;
        judged = h.judged;
        full = omega (
          arith,
          h.far (length piece) short,
          few,
          took.inside,
          length-take-le n piece took.inside,
          items-map h.front,
          ap length h.split,
          length-append h.front (h.last ∷ []),
        );
        right = right;
        prompt = prompt;
      })

  -- ---- events

  full_of : (event : Event) (item : Item) → binary.shows d event item → (bytes : List ℕ) (raw : List Item) → AreContent bytes raw item
  full_of (events.Interim status) item s bytes raw = subst (AreContent bytes raw) (sym s.1) tt
  full_of events.Head item s bytes raw = subst (AreContent bytes raw) (sym s.2) tt
  full_of events.Trailers item s bytes raw = subst (AreContent bytes raw) (sym s.1) tt

  pub event_judged : (piece : List ℕ) (n : ℕ) (event : Event) (item : Item) (form : NoForm)
      → Took binary.rest binary.Moved c piece n (item ∷ []) d → binary.shows d event item → IsRightOf event d.held.decoder.at → Prompt d
      → Judges j item (Some form) k → IsRefused v piece (why.Form form)
  event_judged piece n event item form took shown right prompt h =
      refused_here piece n form (record {
        some = omega (arith, took.some, length-take-le n piece took.inside);
        raw = [];
        last = item;
        state = d;
        moved = took.moved;
        free = tt;
        judged = sym h.answer;
        full = full_of event item shown (take n piece) [];
        right = right_of d event item shown right;
        prompt = prompt;
      })

  names_kept : (fields : List Field) → Judges j (trailer_section fields) None k → k.hops.names ≡ j.hops.names
  names_kept fields h = ap (λ (e : Course). e.named) (h.course refl)

  -- the cleaned item is shown
  shown_free : (event : Event) (item : Item) → binary.shows d event item → IsFitting (binary.limits d) item
      → IsRightOf event d.held.decoder.at → Judges j item None k → shows w event (cleaned_item j.hops.names item)
  shown_free (events.Interim status) item s fits right h =
      subst (λ (i : Item). IsFitting (binary.limits d) i → Judges j i None k → shows w (events.Interim status) (cleaned_item j.hops.names i)) (sym s.1)
      (λ fits h. (
        s.0,
        ap (interim_response status) (sym h.cleaned),
        record {
          section = record { lines = s.2; fitting = fits; right = right; cleaned = h.cleaned };
          free = sym h.answer;
        },
      )) fits h
  shown_free events.Head item s fits right h =
      subst (λ (i : Item). IsFitting (binary.limits d) i → Judges j i None k → shows w events.Head (cleaned_item j.hops.names i)) (sym s.2)
      (λ fits h. (
        s.0,
        s.1,
        ap (head s.0) (sym h.cleaned),
        record {
          section = record { lines = s.4; fitting = fits; right = right; cleaned = h.cleaned };
          free = sym h.answer;
          head_is = s.3;
          framing = ap (λ (e : Course). e.framing) (h.course refl) ∙ ap (λ (t : Bool). announced t (start_of s.0) s.1) (sym h.to_head);
        },
      )) fits h
  shown_free events.Trailers item s fits right h =
      subst (λ (i : Item). IsFitting (binary.limits d) i → Judges j i None k → shows w events.Trailers (cleaned_item j.hops.names i)) (sym s.1)
      (λ fits h. (
        s.0,
        ap trailer_section (sym h.cleaned),
        record {
          section = record {
            lines = s.2;
            fitting = fits;
            right = right;
            cleaned = h.cleaned ∙ ap (λ (names : List (List ℕ)). own_fields names (trailer_section s.0)) (sym (names_kept s.0 h));
          };
          free = ap has_bad_value h.cleaned ∙ values_free j.framing j.counted (own_fields j.hops.names (trailer_section s.0)) (sym h.answer);
        },
      )) fits h

  pub event_free : (piece : List ℕ) (n : ℕ) (event : Event) (item : Item) → Took binary.rest binary.Moved c piece n (item ∷ []) d
      → binary.shows d event item → content_items (item ∷ []) ≡ 0 → IsRightOf event d.held.decoder.at → Prompt d → Judges j item None k
      → EventOn v piece n event w
  event_free piece n event item took shown none right prompt h =
      let own = cleaned_item j.hops.names item in
      let moved : Moved v (take n piece) (own ∷ []) w = record {
        raw = item ∷ [];
        items_are = refl;
        moved = took.moved;
        to_head = h.to_head;
        course = h.course refl;
        free = (sym h.answer, tt);
        prompt = prompt;
        landed = inr (record {
          front = [];
          last = item;
          items_are = refl;
          seen = take n piece;
          quiet = [];
          split = sym (append-nil (take n piece));
          state = d;
          moved = took.moved;
          right = stands_of d event item shown right;
        });
      } in
      let fits : IsFitting (binary.limits d) item
      = subst (λ (L : Bounds). IsFitting L item) (sym took.moved.limits) (fitting_of (take n piece) item took.moved) in (
        own,
        record { some = took.some; inside = took.inside; moved = moved; alive = alive_there v w (take n piece) (own ∷ []) moved },
        shown_free event item shown fits right h,
        cleaned-content j.hops.names (item ∷ []) ∙ none,
      )

-- the judgement stays as it is
pub need_on : (c d : Counted) (j : Judge) → IsReady (view_of c j) → (piece : List ℕ) → binary.Moved c piece [] d → Prompt d
    → NeedOn (view_of c j) piece (view_of d j)
need_on c d j ready piece m prompt =
    let moved : Moved (view_of c j) piece [] (view_of d j) = record {
      raw = [];
      items_are = refl;
      moved = m;
      to_head = refl;
      course = refl;
      free = tt;
      prompt = prompt;
      landed = inl refl;
    } in
    (moved, inl (alive_there (view_of c j) (view_of d j) piece [] moved))

-- what a section needs that is judged
pub shown_here : (c d : Counted) (j : Judge) → IsReady (view_of c j) → IsSound (binary.limits c) j → (x : List ℕ) (event : Event) (item : Item)
    → binary.Moved c x (item ∷ []) d → binary.shows d event item → IsShown d j event
shown_here c d j ready sound x event item m shown = (item, shown, (binary.limits c, sound, fitting_of c d j j ready x item m))
