-- What a push of the decoder of a call leads to.
use Rattle.std.proofs.Common.{◌≡◌, ◌<◌, ◌≤◌, ◌+◌, ◌⊎◌, inl, ℕ, Option, Some, None, IfSome, List, [], ◌∷◌, length, take, map, refl, sym, ap, subst, arith, length-take, length-append}
use Rattle.std.proofs.lemmas.List.{take_all}
use Rattle.bh_spec.specs.declared.Kind.{Kind}
use Rattle.bh_spec.specs.declared.Refusal.{Refusal}
use Rattle.bh_spec.specs.Bounds.{IsWithin}
use Rattle.bh_spec.specs.Messages.{Field}
use Rattle.bh_spec.specs.Items.{Item, Head, interim_response, head, content_byte, trailer_section}
use Rattle.bh_push.specs.Pushes.{DecoderView, Refuses, RefusesFirst, Fails, MissesAs}
use Rattle.bh_push.specs.Hands.{Held, Handed, kind_of_head}
use Rattle.bh_push.specs.Standing.{EndsWith}
use Rattle.bh_stream.specs.Decoding.{content_items, IsAlive, IsSilent, Took}
use Rattle.bh_stream.proofs.Moving.{items-map}
use Rattle.bh_stream.specs.declared.traits.Event.{Event}
use Rattle.bh_stream.specs.declared.traits.Event.TheVariants as events
use Rattle.bh_reading.specs.Readings.{Counted, rest, lines_in, kind_behind, count, Moved, IsReady, shows}
use Rattle.bh_reading.specs.ReadingLaws.{alive_behind}

within_at : (o : Option ℕ) (limit n : ℕ) → o ≡ Some limit → IsWithin o n → n ≤ limit
within_at (Some k) limit n e h = let same : k ≡ limit = cc in omega (arith, h, same)
within_at None limit n e h = absurd (cc)

long_take : (piece : List ℕ) (n : ℕ) → n ≤ length piece → length (take n piece) ≡ n
long_take piece n h = simp length-take (omega (arith, h))

pub moved_on : (v : Counted) → IsReady v → (piece : List ℕ) (n : ℕ) (items : List Item) (h : Held) → Handed v.held piece n items h → (kind : Kind) (lines content : ℕ)
    → kind ≡ kind_behind items v.kind → lines ≡ count (v.lines + lines_in items) → content ≡ count (v.content + content_items items)
    → Moved v (take n piece) items (record { held = h; kind = kind; lines = lines; content = content })
moved_on v r piece n items h handed kind lines content a b c =
    let took = handed.took in
    let long = long_take piece n took.takes.inside in
    record {
      input = record { limit = r.input.limit; limit_is = r.input.limit_is; few = omega (arith, long, within_at v.held.decoder.limits.input r.input.limit (v.held.decoder.taken + n) r.input.limit_is took.input) };
      comes = record { within = took.takes.within; anyway = took.takes.anyway; goes_on = took.takes.goes_on };
      limits = took.limits;
      taken = omega (arith, took.taken, long);
      refusal = took.refusal;
      kind = a;
      lines = b;
      content = c;
    }

pub took_on : (v : Counted) → IsReady v → (piece : List ℕ) (n : ℕ) → 0 < n → (items : List Item) (h : Held) → Handed v.held piece n items h → (kind : Kind) (lines content : ℕ)
    → kind ≡ kind_behind items v.kind → lines ≡ count (v.lines + lines_in items) → content ≡ count (v.content + content_items items)
    → Took rest Moved v piece n items (record { held = h; kind = kind; lines = lines; content = content })
took_on v r piece n some items h handed kind lines content a b c =
    let moved = moved_on v r piece n items h handed kind lines content a b c in
    record { some = some; inside = handed.took.takes.inside; moved = moved; alive = alive_behind v (record { held = h; kind = kind; lines = lines; content = content }) (take n piece) items moved }

pub content_lines : (bytes : List ℕ) → lines_in (map content_byte bytes) ≡ 0
content_lines [] = refl
content_lines (x ∷ bytes) = content_lines bytes

pub content_kind : (bytes : List ℕ) (kind : Kind) → kind_behind (map content_byte bytes) kind ≡ kind
content_kind [] kind = refl
content_kind (x ∷ bytes) kind = content_kind bytes kind

pub refused_first : (v : DecoderView) (piece : List ℕ) (r : Refusal) (w : DecoderView) → v.refusal ≡ None → Refuses v.refusal v piece r w → RefusesFirst v piece r
refused_first v piece r w e h = by_refusal v.refusal e h
  where
    by_refusal : (o : Option Refusal) → o ≡ None → Refuses o v piece r w → RefusesFirst v piece r
    by_refusal None e h = h.0
    by_refusal (Some given) e h = absurd (cc)

pub missing_first : (v : DecoderView) (r : Refusal) (w : DecoderView) → v.refusal ≡ None → Fails v.refusal v r w → MissesAs v r
missing_first v r w e h = by_refusal v.refusal e h
  where
    by_refusal : (o : Option Refusal) → o ≡ None → Fails o v r w → MissesAs v r
    by_refusal None e h = h.0
    by_refusal (Some given) e h = absurd (cc)

-- ---- the answers

abbrev pub NeedOn : Counted → List ℕ → Counted → Type 0
NeedOn v piece w = Moved v piece [] w × (IsAlive rest w ⊎ IsSilent rest v piece)

pub need_on : (v : Counted) → IsReady v → (piece : List ℕ) (h : Held) → Handed v.held piece (length piece) [] h → NeedOn v piece (record { held = h; kind = v.kind; lines = v.lines; content = v.content })
need_on v r piece h handed =
    let w : Counted = record { held = h; kind = v.kind; lines = v.lines; content = v.content } in
    let moved : Moved v piece [] w = subst (λ (l : List ℕ). Moved v l [] w) (take_all (length piece) piece (omega arith))
    (moved_on v r piece (length piece) [] h handed v.kind v.lines v.content refl (omega (arith, r.lines)) (omega (arith, r.content))) in
    (moved, inl (alive_behind v w piece [] moved))

-- what is shown of something that is there
pub shown_of : {A : Type 0} (P : A → Type 0) (o : Option A) (a : A) → o ≡ Some a → IfSome o P → P a
shown_of P (Some b) a e h = let same : b ≡ a = cc in subst P same h
shown_of P None a e h = absurd (cc)

-- an event that isn't content
abbrev pub EventOn : Counted → List ℕ → ℕ → Event → Counted → Type 0
EventOn v piece n event w = (item : Item) × Took rest Moved v piece n (item ∷ []) w × shows w event item × (content_items (item ∷ []) ≡ 0)

pub interim_on : (v : Counted) → IsReady v → (piece : List ℕ) (n status : ℕ) (h : Held) → 0 < n → (fields : List Field) → Handed v.held piece n (interim_response status fields ∷ []) h
    → (long : ℕ) → IfSome h.lines (λ lines. long ≡ length lines) → (lines : ℕ) → lines ≡ count (v.lines + long)
    → EventOn v piece n (events.Interim status) (record { held = h; kind = v.kind; lines = lines; content = v.content })
interim_on v r piece n status h some fields handed long shown lines counts =
    let is : long ≡ length fields = shown_of (λ (ls : List Field). long ≡ length ls) h.lines fields handed.lines shown in (
      interim_response status fields,
      took_on v r piece n some (interim_response status fields ∷ []) h handed v.kind lines v.content refl (omega (arith, counts, is)) (omega (arith, r.content)),
      (fields, refl, handed.lines),
      refl,
    )

pub trailers_on : (v : Counted) → IsReady v → (piece : List ℕ) (n : ℕ) (h : Held) → 0 < n → (fields : List Field) → Handed v.held piece n (trailer_section fields ∷ []) h
    → (long : ℕ) → IfSome h.lines (λ lines. long ≡ length lines) → (lines : ℕ) → lines ≡ count (v.lines + long)
    → EventOn v piece n events.Trailers (record { held = h; kind = v.kind; lines = lines; content = v.content })
trailers_on v r piece n h some fields handed long shown lines counts =
    let is : long ≡ length fields = shown_of (λ (ls : List Field). long ≡ length ls) h.lines fields handed.lines shown in (
      trailer_section fields,
      took_on v r piece n some (trailer_section fields ∷ []) h handed v.kind lines v.content refl (omega (arith, counts, is)) (omega (arith, r.content)),
      (fields, refl, handed.lines),
      refl,
    )

pub head_on : (v : Counted) → IsReady v → (piece : List ℕ) (n : ℕ) (h : Held) → 0 < n → (of : Head) (fields : List Field) → Handed v.held piece n (head of fields ∷ []) h
    → (kind : Kind) → IfSome h.head (λ found. kind ≡ kind_of_head found) → (long : ℕ) → IfSome h.lines (λ lines. long ≡ length lines) → (lines : ℕ) → lines ≡ count (v.lines + long)
    → EventOn v piece n events.Head (record { held = h; kind = kind; lines = lines; content = v.content })
head_on v r piece n h some of fields handed kind named long shown lines counts =
    let is : long ≡ length fields = shown_of (λ (ls : List Field). long ≡ length ls) h.lines fields handed.lines shown in
    let kind_is : kind ≡ kind_of_head of = shown_of (λ (found : Head). kind ≡ kind_of_head found) h.head of handed.head named in (
      head of fields,
      took_on v r piece n some (head of fields ∷ []) h handed kind lines v.content kind_is (omega (arith, counts, is)) (omega (arith, r.content)),
      (of, fields, refl, handed.head, handed.lines),
      refl,
    )

pub content_on : (v : Counted) → IsReady v → (piece : List ℕ) (n : ℕ) (bytes : List ℕ) (h : Held) → 0 < length bytes → length bytes ≤ n → Handed v.held piece n (map content_byte bytes) h
    → (content : ℕ) → content ≡ count (v.content + length bytes)
    → Took rest Moved v piece n (map content_byte bytes) (record { held = h; kind = v.kind; lines = v.lines; content = content })
content_on v r piece n bytes h some few handed content counts =
    took_on v r piece n (omega (arith, some, few)) (map content_byte bytes) h handed v.kind v.lines content (sym (content_kind bytes v.kind)) (omega (arith, r.lines, content_lines bytes))
    (omega (arith, counts, items-map bytes))

-- content is a part of the piece
pub few_bytes : (piece : List ℕ) (n : ℕ) (bytes : List ℕ) → n ≤ length piece → (e : EndsWith piece n bytes) → length bytes ≤ n
few_bytes piece n bytes inside e = omega (arith, long_take piece n inside, ap length e.ends, length-append e.front bytes)

abbrev pub ContentOn : Counted → List ℕ → ℕ → List ℕ → Counted → Type 0
ContentOn v piece n bytes w = Took rest Moved v piece n (map content_byte bytes) w × (0 < length bytes) × (length bytes ≤ n)
