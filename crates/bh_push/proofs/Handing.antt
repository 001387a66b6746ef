-- What a walk says of a decoder, within the limit of the input.
use Rattle.std.proofs.Common.{◌≡◌, ◌<◌, ◌≤◌, ◌+◌, ◌-◌, ℕ, Option, Some, None, List, [], ◌∷◌, ◌++◌, length, take, drop, map, min, refl, sym, ap, subst, ◌∙◌, inl, inr, ◌⊎◌, arith}
use Rattle.std.proofs.Math.Seq.{take-add}
use Rattle.bh_spec.specs.declared.Part.{Part}
use Rattle.bh_spec.specs.declared.Refusal.{Refusal}
use Rattle.bh_spec.specs.declared.Refusal.TheVariants.{Dead, Limit, TooLong}
use Rattle.bh_spec.specs.Bounds.{Bounds, no_bounds, IsWithin}
use Rattle.bh_spec.specs.Pieces.{SomeOf, CanBecome, IsRefused}
use Rattle.bh_spec.proofs.Residuals.{same_of}
use Rattle.bh_spec.proofs.Within.{some_within, within_some}
use Rattle.bh_spec.specs.Items.{Item, interim_response, head, content_byte, trailer_section, ending}
use Rattle.bh_spec.specs.Runs.{Takes}
use Rattle.bh_push.specs.declared.course.Course.{Course}
use Rattle.bh_push.specs.declared.course.Stage.{Stage}
use Rattle.bh_push.specs.declared.course.Stage.TheVariants as stages
use Rattle.bh_push.specs.Decoders.{At, Rest, IsBehindContent}
use Rattle.bh_push.specs.Standing.{Comes, LinesAre, IsRight, EndsWith}
use Rattle.bh_push.proofs.Walking.{lines_here}
use Rattle.bh_push.proofs.Prompts.{open_prompt}
use Rattle.std.proofs.lemmas.Bool.{cases_lt}
use Rattle.bh_push.specs.Courses.{shown_head, shown_lines, InSection, LinesKept, Stays, Stood, IsFull, IsDeadAt, IsLimitAt, at_by, place_of, Walked}
use Rattle.bh_push.specs.Hands.{kind_at, Held, IsInSection, Handed, IsLong, Keeps}
use Rattle.bh_push.specs.Pushes.{DecoderView, RefusesBehind, Refuses, refused_at, refused_view}
use Rattle.bh_push.specs.Kinds.{KindBehind}
use Rattle.bh_push.proofs.Inputs.{Fronted, not_some, front_long, front_of_front, dead_longer, limit_longer}

abbrev pub view : Course → ℕ → Option Refusal → DecoderView
view c taken refusal = record { limits = c.limits; at = place_of c; taken = taken; refusal = refusal }

abbrev pub held : Course → ℕ → Option Refusal → Held
held c taken refusal = record { decoder = view c taken refusal; head = shown_head c; lines = shown_lines c }

-- the piece, as far as the limit of the input allows
pub record Within (v : Course) (taken most : ℕ) (refusal : Option Refusal) (piece within : List ℕ) : Type 0 where
  pub input : v.limits.input ≡ Some most
  pub few : taken ≤ most
  pub front : Fronted piece within (most - taken)
  pub none : refusal ≡ None

pub within_at : (v : Course) (taken most : ℕ) (refusal : Option Refusal) (piece within : List ℕ) → v.limits.input ≡ Some most → IsWithin v.limits.input taken
    → within ≡ take (min (most - taken) (length piece)) piece → ((r : Refusal) → refusal ≡ Some r → ⊥) → Within v taken most refusal piece within
within_at v taken most refusal piece within input counted front none =
    record { input = input; few = within_some v.limits.input most taken input counted; front = record { same = front }; none = not_some refusal none }

takes_to : (v : Course) (at : At) (piece within : List ℕ) (room count : ℕ) (yields : List Item) → Fronted piece within room → count ≤ length within
    → Comes v.limits (place_of v) (take count within) yields at → Takes Rest v.limits (place_of v) piece count yields at
takes_to v at piece within room count yields f inside h =
    let same : take count within ≡ take count piece = front_of_front piece within room count f inside in
    let m : Comes v.limits (place_of v) (take count piece) yields at = subst (λ (x : List ℕ). Comes v.limits (place_of v) x yields at) same h in
    record { inside = omega (arith, inside, front_long piece within room f); within = m.within; anyway = m.anyway; goes_on = m.goes_on }

takes_so : (v w : Course) (piece within : List ℕ) (room count : ℕ) (yields : List Item) → Fronted piece within room → Walked v within count yields w
    → Takes Rest v.limits (place_of v) piece count yields (place_of w)
takes_so v w piece within room count yields f h = takes_to v (place_of w) piece within room count yields f h.inside h.comes

inside_at : (w : Course) (s : Stage) → InSection s → IsInSection (at_by s w)
inside_at w stages.Framing h = absurd h
inside_at w (stages.Control form) h = absurd h
inside_at w (stages.Status form before) h = absurd h
inside_at w (stages.BeforeInterim form before status) h = absurd h
inside_at w (stages.Interim form before status) h = tt
inside_at w (stages.BeforeHeader form) h = absurd h
inside_at w (stages.Header form) h = tt
inside_at w stages.Content h = absurd h
inside_at w (stages.Trailers form) h = tt
inside_at w (stages.Padding before) h = absurd h

lines_so : (v w : Course) (yields : List Item) → LinesAre yields (InSection w.stage) (LinesKept v w) (shown_lines w)
    → LinesAre yields (IsInSection (place_of w)) (shown_lines w ≡ shown_lines v) (shown_lines w)
lines_so v w [] (inl h) = inl (inside_at w w.stage h)
lines_so v w [] (inr h) = inr h.1
lines_so v w (interim_response status fields ∷ q) h = h
lines_so v w (head of fields ∷ q) h = h
lines_so v w (content_byte x ∷ q) h = h.1
lines_so v w (trailer_section fields ∷ q) h = h
lines_so v w (ending omitted padding ∷ q) h = h.1

pub handed_walk : (v w : Course) (taken most : ℕ) (refusal : Option Refusal) (piece within : List ℕ) (count : ℕ) (yields : List Item) → Within v taken most refusal piece within
    → Walked v within count yields w → Handed (held v taken refusal) piece count yields (held w (taken + count) refusal)
handed_walk v w taken most refusal piece within count yields g h = record {
  took = record {
    input = some_within v.limits.input most (taken + count) g.input (omega (arith, h.inside, g.few, front_long piece within (most - taken) g.front));
    takes = takes_so v w piece within (most - taken) count yields g.front h;
    limits = h.limits;
    taken = refl;
    refusal = g.none;
  };
  head = h.head;
  lines = lines_so v w yields h.lines;
}

pub handed_whole : (v w : Course) (taken most : ℕ) (refusal : Option Refusal) (piece within : List ℕ) → Within v taken most refusal piece within → length piece ≤ length within
    → Walked v within (length within) [] w → Handed (held v taken refusal) piece (length piece) [] (held w (taken + length within) refusal)
handed_whole v w taken most refusal piece within g all h =
    subst (λ (i : ℕ). Handed (held v taken refusal) piece i [] (held w (taken + length within) refusal)) (omega (arith, all, front_long piece within (most - taken) g.front))
    (handed_walk v w taken most refusal piece within (length within) [] g h)

pub ends_so : (v : Course) (taken most : ℕ) (refusal : Option Refusal) (piece within bytes : List ℕ) (count : ℕ) → Within v taken most refusal piece within → count ≤ length within
    → EndsWith within count bytes → EndsWith piece count bytes
ends_so v taken most refusal piece within bytes count g inside h =
    record { some = h.some; front = h.front; ends = sym (front_of_front piece within (most - taken) count g.front inside) ∙ h.ends }

pub long_so : (v w : Course) (taken most : ℕ) (refusal : Option Refusal) (piece within : List ℕ) (count : ℕ) → Within v taken most refusal piece within → IsFull within count (place_of w)
    → IsLong (held v taken refusal) piece count (held w (taken + count) refusal)
long_so v w taken most refusal piece within count g (inr h) = inr (inl h)
long_so v w taken most refusal piece within count g (inl h) = at (cases_lt (length within) (length piece))
  where
    at : (length within < length piece) ⊎ (length piece ≤ length within) → IsLong (held v taken refusal) piece count (held w (taken + count) refusal)
    at (inl lt) = inr (inr (g.input ∙ ap (λ (n : ℕ). Some n) (let e : most ≡ taken + count = omega (arith, h, lt, g.few, front_long piece within (most - taken) g.front) in e)))
    at (inr ge) = inl (omega (arith, h, ge, front_long piece within (most - taken) g.front))

-- ---- what is refused

refused_so : (v w : Course) (taken n : ℕ) (r : Refusal) → n ≡ refused_at r → w.limits ≡ v.limits → view w n (Some r) ≡ refused_view (view v taken None) (place_of w) r
refused_so v w taken n r e f =
    ap (λ (L : Bounds). record { limits = L; at = place_of w; taken = n; refusal = Some r }) f
    ∙ ap (λ (k : ℕ). record { limits = v.limits; at = place_of w; taken = k; refusal = Some r }) e

stays_shown : (v w : Course) (taken n : ℕ) (given r : Option Refusal) → Stays v w → Keeps (held v taken given) (held w n r)
stays_shown v w taken n given r s = record { head = s.head; lines = lines_so v w [] s.lines }

-- where the byte stood
refused_behind : (v w : Course) (taken most : ℕ) (refusal : Option Refusal) (piece within : List ℕ) (offset : ℕ) (part : Part) → Within v taken most refusal piece within → offset ≤ length within
    → IsRefused (SomeOf (Rest v.limits (place_of v))) [] piece offset part → Stood v within offset w → RefusesBehind (view v taken None) piece offset
refused_behind v w taken most refusal piece within offset part g inside r s =
    let t = takes_to v s.at piece within (most - taken) offset [] g.front inside s.comes in
    let same = same_of (Rest v.limits (place_of v)) (take offset piece) (λ q. [] ++ q) (Rest v.limits s.at) t.within in
    record {
      at = s.at;
      takes = t;
      prompt = s.prompt;
      none = λ c. r.after (subst (CanBecome (SomeOf (Rest v.limits (place_of v)))) (sym (take-add offset 1 piece)) ((same.becomes (take 1 (drop offset piece))).1 c));
    }

pub kind_behind : (v w : Course) (taken most n : ℕ) (refusal : Option Refusal) (piece within : List ℕ) (offset : ℕ) (r : Refusal) → Within v taken most refusal piece within → offset ≤ length within
    → refused_at r ≡ taken + offset → Stood v within offset w → KindBehind (held v taken refusal) piece r (held w n (Some r))
kind_behind v w taken most n refusal piece within offset r g inside e s =
    record { offset = offset; place = e; at = s.at; takes = takes_to v s.at piece within (most - taken) offset [] g.front inside s.comes; same = s.kind }

-- a byte that is too many stood behind those that were walked
pub stood_behind : (v w : Course) (within : List ℕ) → Walked v within (length within) [] w → Stood v within (length within) w
stood_behind v w within h = record { at = place_of w; comes = h.comes; prompt = open_prompt w v.limits h.limits h.stays; kind = ap (kind_at (place_of w)) h.head }

pub kind_again : (v : Held) (piece : List ℕ) (r : Refusal) → v.decoder.refusal ≡ Some r → v.decoder.refusal ≡ None → KindBehind v piece r v
kind_again v piece r e none = absurd (let no : Some r ≡ None = sym e ∙ none in cc)

pub refuses_more : (v w : Course) (taken most : ℕ) (refusal : Option Refusal) (piece within : List ℕ) → Within v taken most refusal piece within → length within < length piece
    → Walked v within (length within) [] w
    → let r = TooLong (taken + length within) in
    Refuses refusal (view v taken refusal) piece r (view w (taken + length within) (Some r)) × Keeps (held v taken refusal) (held w (taken + length within) (Some r))
refuses_more v w taken most None piece within g less h =
    let full : most ≡ taken + length within = omega (arith, front_long piece within (most - taken) g.front, g.few, less) in (
      (
        (
          length within,
          refl,
          g.input ∙ ap (λ (i : ℕ). Some i) full,
          less,
          (place_of w, takes_so v w piece within (most - taken) (length within) [] g.front h, open_prompt w v.limits h.limits h.stays),
        ),
        (place_of w, refused_so v w taken (taken + length within) (TooLong (taken + length within)) refl h.limits),
      ),
      record { head = h.head; lines = lines_so v w [] h.lines },
    )
refuses_more v w taken most (Some r) piece within g less h = absurd (let no = g.none in cc)

pub refuses_at : (v w : Course) (taken most : ℕ) (refusal : Option Refusal) (piece within : List ℕ) (offset : ℕ) (part : Part) → Within v taken most refusal piece within
    → IsDeadAt v within offset part → Stays v w → Stood v within offset w
    → let r = Dead (taken + offset) part in
    Refuses refusal (view v taken refusal) piece r (view w (taken + offset) (Some r)) × Keeps (held v taken refusal) (held w (taken + offset) (Some r))
refuses_at v w taken most None piece within offset part g d s k =
    let all = dead_longer (SomeOf (Rest v.limits (place_of v))) (SomeOf (Rest no_bounds (place_of v))) piece within (most - taken) offset part g.front d in (
      (
        (
          offset,
          refl,
          some_within v.limits.input most (taken + offset + 1) g.input (omega (arith, g.few, d.refused.inside, front_long piece within (most - taken) g.front)),
          all,
          refused_behind v w taken most None piece within offset part g (omega (arith, d.refused.inside)) all.refused k,
        ),
        (place_of w, refused_so v w taken (taken + offset) (Dead (taken + offset) part) refl s.limits),
      ),
      stays_shown v w taken (taken + offset) None (Some (Dead (taken + offset) part)) s,
    )
refuses_at v w taken most (Some r) piece within offset part g d s k = absurd (let no = g.none in cc)

pub refuses_limit : (v w : Course) (taken most : ℕ) (refusal : Option Refusal) (piece within : List ℕ) (offset : ℕ) (part : Part) → Within v taken most refusal piece within
    → IsLimitAt v within offset part → Stays v w → Stood v within offset w
    → let r = Limit (taken + offset) part in
    Refuses refusal (view v taken refusal) piece r (view w (taken + offset) (Some r)) × Keeps (held v taken refusal) (held w (taken + offset) (Some r))
refuses_limit v w taken most None piece within offset part g d s k =
    let all = limit_longer (SomeOf (Rest v.limits (place_of v))) (SomeOf (Rest no_bounds (place_of v))) piece within (most - taken) offset part g.front d in (
      (
        (
          offset,
          refl,
          some_within v.limits.input most (taken + offset + 1) g.input (omega (arith, g.few, d.refused.inside, front_long piece within (most - taken) g.front)),
          all,
          refused_behind v w taken most None piece within offset part g (omega (arith, d.refused.inside)) all.refused k,
        ),
        (place_of w, refused_so v w taken (taken + offset) (Limit (taken + offset) part) refl s.limits),
      ),
      stays_shown v w taken (taken + offset) None (Some (Limit (taken + offset) part)) s,
    )
refuses_limit v w taken most (Some r) piece within offset part g d s k = absurd (let no = g.none in cc)

-- once more
pub refuses_again : (v : Course) (taken : ℕ) (refusal : Option Refusal) (given : Refusal) (piece : List ℕ) → refusal ≡ Some given
    → Refuses refusal (view v taken refusal) piece given (view v taken refusal) × Keeps (held v taken refusal) (held v taken refusal)
refuses_again v taken None given piece e = absurd cc
refuses_again v taken (Some r) given piece e =
    ((let same : given ≡ r = cc in same, refl), record { head = refl; lines = lines_so v v [] (lines_here v) })

-- an offset within the front is within the limit
pub fits : (v : Course) (taken most : ℕ) (refusal : Option Refusal) (piece within : List ℕ) (count : ℕ) → Within v taken most refusal piece within → count ≤ length within → taken + count ≤ most
fits v taken most refusal piece within count g h = omega (arith, g.few, h, front_long piece within (most - taken) g.front)

-- behind content the place is right, whichever bytes it was
pub right_content : (bytes : List ℕ) (w : At) → 0 < length bytes → IsRight (map content_byte bytes) w → IsBehindContent w
right_content [] w some r = absurd (omega (arith, some))
right_content (b ∷ bytes) w some r = r
