-- Steps one behind the other.
use Rattle.std.proofs.Common.{◌≡◌, ◌≤◌, ◌+◌, ℕ, List, [], ◌∷◌, ◌++◌, length, take, drop, map, refl, sym, ap, subst, ◌∙◌, append_assoc, arith, inl, inr, ◌⊎◌}
use Rattle.std.proofs.lemmas.List.{length-drop}
use Rattle.std.proofs.Math.Seq.{take-add}
use Rattle.bh_spec.specs.declared.Part.{Part}
use Rattle.bh_spec.specs.Bounds.{Bounds, no_bounds}
use Rattle.bh_spec.specs.Pieces.{SomeOf, CanBecome, IsNext, IsRefused, IsDead, IsLimit}
use Rattle.bh_spec.specs.Texts.{Text}
use Rattle.bh_spec.specs.Items.{Item, interim_response, head, content_byte, trailer_section, ending}
use Rattle.bh_spec.specs.Residuals.{IsResidual, HasSame}
use Rattle.bh_spec.proofs.Readers.{moves_on}
use Rattle.bh_spec.proofs.Residuals.{residual_here, same_of, dead_same, limit_same}
use Rattle.bh_push.proofs.Tails.{none_before}
use Rattle.bh_push.specs.declared.course.Course.{Course}
use Rattle.bh_push.specs.declared.course.Stage.{Stage}
use Rattle.bh_push.specs.declared.course.Stage.TheVariants as stages
use Rattle.bh_push.specs.declared.course.Stepped.{Stepped}
use Rattle.bh_push.specs.declared.course.Stepped.TheVariants as stepped
use Rattle.bh_push.specs.Decoders.{At, Rest}
use Rattle.bh_push.specs.Hands.{kind_at}
use Rattle.bh_push.specs.Standing.{Comes, head_behind, LinesAre, EndsWith, IsPrompt}
use Rattle.bh_push.specs.Courses.{head_of, shown_lines, InSection, LinesKept, Stays, Stood, Halts, kind_now, IsFull, IsDeadAt, IsLimitAt, Says, place_of, IsOpen, IsAlive, Taken, Walked}

-- ---- what is shown

stage_shown : (v : Course) (s : Stage) → InSection s ⊎ (InSection s → ⊥)
stage_shown v stages.Framing = inr (λ x. x)
stage_shown v (stages.Control form) = inr (λ x. x)
stage_shown v (stages.Status form before) = inr (λ x. x)
stage_shown v (stages.BeforeInterim form before status) = inr (λ x. x)
stage_shown v (stages.Interim form before status) = inl tt
stage_shown v (stages.BeforeHeader form) = inr (λ x. x)
stage_shown v (stages.Header form) = inl tt
stage_shown v stages.Content = inr (λ x. x)
stage_shown v (stages.Trailers form) = inl tt
stage_shown v (stages.Padding before) = inr (λ x. x)

pub lines_here : (v : Course) → InSection v.stage ⊎ LinesKept v v
lines_here v = at (stage_shown v v.stage)
  where
    at : InSection v.stage ⊎ (InSection v.stage → ⊥) → InSection v.stage ⊎ LinesKept v v
    at (inl h) = inl h
    at (inr h) = inr (h, refl)

pub lines_on : (v w u : Course) (yields : List Item) → InSection w.stage ⊎ LinesKept v w → LinesAre yields (InSection u.stage) (LinesKept w u) (shown_lines u)
    → LinesAre yields (InSection u.stage) (LinesKept v u) (shown_lines u)
lines_on v w u [] a (inl h) = inl h
lines_on v w u [] (inl i) (inr k) = absurd (k.0 i)
lines_on v w u [] (inr j) (inr k) = inr (j.0, k.1 ∙ j.1)
lines_on v w u (interim_response status fields ∷ q) a b = b
lines_on v w u (head of fields ∷ q) a b = b
lines_on v w u (content_byte x ∷ q) (inl i) b = absurd (b.0 i)
lines_on v w u (content_byte x ∷ q) (inr j) b = (j.0, b.1 ∙ j.1)
lines_on v w u (trailer_section fields ∷ q) a b = b
lines_on v w u (ending omitted padding ∷ q) (inl i) b = absurd (b.0 i)
lines_on v w u (ending omitted padding ∷ q) (inr j) b = (j.0, b.1 ∙ j.1)

pub walk_here : (v : Course) (piece : List ℕ) → IsOpen v → IsAlive v → Walked v piece 0 [] v
walk_here v piece o alive = record {
  inside = omega arith;
  comes = record { within = residual_here (Rest v.limits (place_of v)); anyway = residual_here (Rest no_bounds (place_of v)); goes_on = alive };
  limits = refl;
  stays = o;
  zeros = omega arith;
  head = refl;
  lines = lines_here v;
  right = tt;
}

-- bytes behind bytes
pub comes_on : (L : Bounds) (v w u : At) (x y : List ℕ) (i j : List Item) → Comes L v x i w → Comes L w y j u → Comes L v (x ++ y) (i ++ j) u
comes_on L v w u x y i j a b = moves_on (Rest L v) (Rest no_bounds v) (Rest L w) (Rest no_bounds w) (Rest L u) (Rest no_bounds u) x y i j a b

pub walk_on : (v w u : Course) (piece rest : List ℕ) (i n : ℕ) (yields : List Item) → rest ≡ drop i piece → Walked v piece i [] w → Taken w rest n yields u → Walked v piece (i + n) yields u
walk_on v w u piece rest i n yields e a taken =
    let t = taken.walked in
    record {
      inside = omega (arith, a.inside, t.inside, ap length e, length-drop i piece);
      comes = subst (λ (x : List ℕ). Comes v.limits (place_of v) x yields (place_of u)) (ap (λ (r : List ℕ). take i piece ++ take n r) e ∙ sym (take-add i n piece))
          (comes_on v.limits (place_of v) (place_of w) (place_of u) (take i piece) (take n rest) [] yields a.comes
          (subst (λ (L : Bounds). Comes L (place_of w) (take n rest) yields (place_of u)) a.limits t.comes));
      limits = t.limits ∙ a.limits;
      stays = t.stays;
      zeros = omega (arith, a.zeros, t.zeros);
      head = t.head ∙ ap (head_behind yields) a.head;
      lines = lines_on v w u yields a.lines t.lines;
      right = t.right;
    }

-- a byte is refused behind them
pub stays_on : (v w u : Course) (piece : List ℕ) (i : ℕ) → Walked v piece i [] w → Stays w u → Stays v u
stays_on v w u piece i a s = record { limits = s.limits ∙ a.limits; course = s.course; head = s.head ∙ a.head; lines = lines_on v w u [] a.lines s.lines }

-- bytes behind those that were walked
comes_behind : (v w : Course) (u : At) (piece rest : List ℕ) (i k : ℕ) → rest ≡ drop i piece → Walked v piece i [] w → Comes w.limits (place_of w) (take k rest) [] u
    → Comes v.limits (place_of v) (take (i + k) piece) [] u
comes_behind v w u piece rest i k e a m =
    subst (λ (x : List ℕ). Comes v.limits (place_of v) x [] u) (ap (λ (r : List ℕ). take i piece ++ take k r) e ∙ sym (take-add i k piece))
    (comes_on v.limits (place_of v) (place_of w) u (take i piece) (take k rest) [] [] a.comes (subst (λ (L : Bounds). Comes L (place_of w) (take k rest) [] u) a.limits m))

-- where the byte stood
pub stood_on : (v w u : Course) (piece rest : List ℕ) (i k : ℕ) → rest ≡ drop i piece → Walked v piece i [] w → Halts w rest k u → Stood v piece (i + k) u
stood_on v w u piece rest i k e a s =
    record { at = s.at; comes = comes_behind v w s.at piece rest i k e a s.comes; prompt = subst (λ (L : Bounds). IsPrompt L s.at) a.limits s.prompt; kind = s.kind ∙ sym s.there ∙ ap (kind_at s.at) a.head }

pub walk_front : (piece rest front bytes : List ℕ) (i n : ℕ) → rest ≡ drop i piece → take n rest ≡ front ++ bytes → (all : List ℕ) × (take (i + n) piece ≡ all ++ bytes)
walk_front piece rest front bytes i n e f = (
  take i piece ++ front,
  take-add i n piece ∙ ap (λ (r : List ℕ). take i piece ++ take n r) (sym e) ∙ ap (λ (x : List ℕ). take i piece ++ x) f ∙ sym (append_assoc (take i piece) front bytes),
)

-- content behind them
pub ends_on : (piece rest bytes : List ℕ) (i n : ℕ) → rest ≡ drop i piece → EndsWith rest n bytes → EndsWith piece (i + n) bytes
ends_on piece rest bytes i n e h =
    let f = walk_front piece rest h.front bytes i n e h.ends in
    record { some = h.some; front = f.0; ends = f.1 }

pub full_on : (piece rest : List ℕ) (i n : ℕ) (at : At) → rest ≡ drop i piece → i ≤ length piece → IsFull rest n at → IsFull piece (i + n) at
full_on piece rest i n at e inside (inl h) = inl (omega (arith, h, ap length e, length-drop i piece, inside))
full_on piece rest i n at e inside (inr h) = inr h

longer : (i k : ℕ) (piece : List ℕ) → take (i + k + 1) piece ≡ take i piece ++ take (k + 1) (drop i piece)
longer i k piece = ap (λ (n : ℕ). take n piece) (let e : i + k + 1 ≡ i + (k + 1) = omega arith in e) ∙ take-add i (k + 1) piece

refused_on : (R : Text → Type 0) (piece : List ℕ) (i k : ℕ) (part : Part) → IsRefused R (take i piece) (drop i piece) k part → IsRefused R [] piece (i + k) part
refused_on R piece i k part r = record {
  inside = omega (arith, r.inside, length-drop i piece);
  next = subst (λ (x : List ℕ). IsNext R x part) (sym (take-add i k piece)) r.next;
  after = λ c. r.after (subst (CanBecome R) (longer i k piece) c);
}

there : (K : Bounds) (v w : At) (x : List ℕ) → IsResidual (Rest K v) x (λ q. q) (Rest K w) → HasSame (SomeOf (Rest K v)) (SomeOf (Rest K w)) x
there K v w x r = same_of (Rest K v) x (λ q. q) (Rest K w) r

pub walk_dead : (v w : Course) (piece rest : List ℕ) (i k : ℕ) (part : Part) → rest ≡ drop i piece → Walked v piece i [] w
    → IsDead (SomeOf (Rest w.limits (place_of w))) (SomeOf (Rest no_bounds (place_of w))) [] rest k part
    → IsDead (SomeOf (Rest v.limits (place_of v))) (SomeOf (Rest no_bounds (place_of v))) [] piece (i + k) part
walk_dead v w piece rest i k part e a d =
    let here : IsDead (SomeOf (Rest v.limits (place_of w))) (SomeOf (Rest no_bounds (place_of w))) [] (drop i piece) k part =
    subst (λ (r : List ℕ). IsDead (SomeOf (Rest v.limits (place_of w))) (SomeOf (Rest no_bounds (place_of w))) [] r k part) e
    (subst (λ (L : Bounds). IsDead (SomeOf (Rest L (place_of w))) (SomeOf (Rest no_bounds (place_of w))) [] rest k part) a.limits d) in
    let h = (dead_same (SomeOf (Rest v.limits (place_of v))) (SomeOf (Rest v.limits (place_of w))) (SomeOf (Rest no_bounds (place_of v))) (SomeOf (Rest no_bounds (place_of w))) (take i piece) (drop i piece) k part
    (there v.limits (place_of v) (place_of w) (take i piece) a.comes.within) (there no_bounds (place_of v) (place_of w) (take i piece) a.comes.anyway)).1 here in
    record {
      refused = refused_on (SomeOf (Rest v.limits (place_of v))) piece i k part h.refused;
      anyway = λ c. h.anyway (subst (CanBecome (SomeOf (Rest no_bounds (place_of v)))) (longer i k piece) c);
    }

pub walk_limit : (v w : Course) (piece rest : List ℕ) (i k : ℕ) (part : Part) → rest ≡ drop i piece → Walked v piece i [] w
    → IsLimit (SomeOf (Rest w.limits (place_of w))) (SomeOf (Rest no_bounds (place_of w))) [] rest k part
    → IsLimit (SomeOf (Rest v.limits (place_of v))) (SomeOf (Rest no_bounds (place_of v))) [] piece (i + k) part
walk_limit v w piece rest i k part e a d =
    let here : IsLimit (SomeOf (Rest v.limits (place_of w))) (SomeOf (Rest no_bounds (place_of w))) [] (drop i piece) k part =
    subst (λ (r : List ℕ). IsLimit (SomeOf (Rest v.limits (place_of w))) (SomeOf (Rest no_bounds (place_of w))) [] r k part) e
    (subst (λ (L : Bounds). IsLimit (SomeOf (Rest L (place_of w))) (SomeOf (Rest no_bounds (place_of w))) [] rest k part) a.limits d) in
    let h = (limit_same (SomeOf (Rest v.limits (place_of v))) (SomeOf (Rest v.limits (place_of w))) (SomeOf (Rest no_bounds (place_of v))) (SomeOf (Rest no_bounds (place_of w))) (take i piece) (drop i piece) k part
    (there v.limits (place_of v) (place_of w) (take i piece) a.comes.within) (there no_bounds (place_of v) (place_of w) (take i piece) a.comes.anyway)).1 here in
    record {
      refused = refused_on (SomeOf (Rest v.limits (place_of v))) piece i k part h.refused;
      anyway = subst (CanBecome (SomeOf (Rest no_bounds (place_of v)))) (sym (longer i k piece)) h.anyway;
    }

pub walk_all : (v w : Course) (piece : List ℕ) (i : ℕ) → length piece ≤ i → Walked v piece i [] w → Walked v piece (length piece) [] w
walk_all v w piece i h a = subst (λ (n : ℕ). Walked v piece n [] w) (omega (arith, h, a.inside)) a

-- ---- a reader begins before the bytes

first_taken : (c b d : Course) (piece : List ℕ) (taken : ℕ) (yields : List Item) → Walked c piece 0 [] b → Taken b piece taken yields d → Taken c piece taken yields d
first_taken c b d piece taken yields a t =
    record { some = t.some; walked = subst (λ (k : ℕ). Walked c piece k yields d) (none_before taken) (walk_on c b d piece piece 0 taken yields refl a t) }

first_halts : (c b d : Course) (piece : List ℕ) (offset : ℕ) → Walked c piece 0 [] b → kind_now b ≡ kind_now c → Halts b piece offset d → Halts c piece offset d
first_halts c b d piece offset a same s = record {
  at = s.at;
  comes = subst (λ (k : ℕ). Comes c.limits (place_of c) (take k piece) [] s.at) (none_before offset) (comes_behind c b s.at piece piece 0 offset refl a s.comes);
  prompt = subst (λ (L : Bounds). IsPrompt L s.at) a.limits s.prompt;
  there = ap (kind_at s.at) (sym a.head) ∙ s.there ∙ same;
  kind = s.kind ∙ same;
}

-- what is said of the rest is said of the whole
pub begun_says : (c b d : Course) (piece : List ℕ) (r : Stepped) → Walked c piece 0 [] b → kind_now b ≡ kind_now c → Says b piece r d → Says c piece r d
begun_says c b d piece (stepped.On taken) a same s = first_taken c b d piece taken [] a s
begun_says c b d piece (stepped.Interim taken status) a same s = first_taken c b d piece taken (interim_response status d.section.lines ∷ []) a s
begun_says c b d piece (stepped.Head taken) a same s = first_taken c b d piece taken (head (head_of d.status d.control.control) d.section.lines ∷ []) a s
begun_says c b d piece (stepped.Content taken bytes) a same s = (first_taken c b d piece taken (map content_byte bytes.now) a s.0, s.1, s.2)
begun_says c b d piece (stepped.Trailers taken) a same s = first_taken c b d piece taken (trailer_section d.section.lines ∷ []) a s
begun_says c b d piece (stepped.Dead offset part) a same s =
    (subst (λ (k : ℕ). IsDeadAt c piece k part) (none_before offset) (walk_dead c b piece piece 0 offset part refl a s.0), stays_on c b d piece 0 a s.1, first_halts c b d piece offset a same s.2)
begun_says c b d piece (stepped.Limit offset part) a same s =
    (subst (λ (k : ℕ). IsLimitAt c piece k part) (none_before offset) (walk_limit c b piece piece 0 offset part refl a s.0), stays_on c b d piece 0 a s.1, first_halts c b d piece offset a same s.2)
