-- A decoder that takes byte after byte says of the whole input what it says of the last piece.
use Rattle.std.proofs.Common.{◌≡◌, ◌<◌, ◌≤◌, ◌+◌, ℕ, List, [], ◌∷◌, ◌++◌, length, take, map, refl, sym, ap, ap₂, subst, subst₂, ◌∙◌, append_assoc, append-nil, arith}
use Rattle.std.proofs.Math.Seq.{take-append-add, take-append_seam}
use Rattle.std.proofs.lemmas.List.{length-append, take-append-le}
use Rattle.bh_spec.specs.declared.Part.{Part}
use Rattle.bh_spec.specs.declared.Omitted.{Omitted}
use Rattle.bh_spec.specs.Bounds.{Bounds, IsWithin, no_bounds}
use Rattle.bh_spec.specs.Messages.{Message}
use Rattle.bh_spec.specs.Texts.{Text, bytes_of}
use Rattle.bh_spec.specs.Pieces.{SomeOf, IsText, CanBecome, IsNext, IsRefused}
use Rattle.bh_spec.specs.Spelling.{Spells}
use Rattle.bh_spec.specs.Viable.{IsViable, NextPart}
use Rattle.bh_spec.specs.Answers.{whole, IsRefusedAt, IsAnswer}
use Rattle.bh_spec.proofs.Pieces.{next_becomes}
use Rattle.bh_spec.specs.Residuals.{IsResidual, HasSame}
use Rattle.bh_spec.specs.Items.{Item, content_byte, ending, start_items, trailer_items, tail_items, items, MessageOf}
use Rattle.bh_spec.specs.Runs.{Call, bytes_taken, items_yielded, state_behind, AreTaken, IsMessageStart, Any, ItemsOfAMessage, ExactPlace}
use Rattle.bh_spec.proofs.Residuals.{residual_on, residual_here, same_of, dead_same, limit_same}

-- ---- the calls, joined

abbrev after_items : List Item → List Item → List Item
after_items first q = first ++ q

items_same : (R : List Item → Text → Type 0) (x : List ℕ) (f g : List Item → List Item) (S : List Item → Text → Type 0)
    → ((q : List Item) → f q ≡ g q) → IsResidual R x f S → IsResidual R x g S
items_same R x f g S e r = record {
  text = r.text;
  same = r.same;
  forth = λ a u more h k.
      let p = r.forth a u more h k in
      record { thing = p.thing; rest = p.rest; spelled = p.spelled; same = p.same ∙ e p.thing; joined = p.joined };
  back = λ b t s. subst (λ (q : List Item). R q (r.text ++ t)) (e b) (r.back b t s);
}

pub calls_within : {V : Type 0} (Rest : Bounds → V → List Item → Text → Type 0) (L : Bounds) (v : V) (calls : List (Call V)) → AreTaken Rest L v calls
    → IsResidual (Rest L v) (bytes_taken calls) (λ q. items_yielded calls ++ q) (Rest L (state_behind v calls))
calls_within Rest L v [] h = residual_here (Rest L v)
calls_within {V} Rest L v (call ∷ calls) h =
    items_same (Rest L v) (take call.taken call.piece ++ bytes_taken calls) (λ q. call.yields ++ (items_yielded calls ++ q)) (λ q. (call.yields ++ items_yielded calls) ++ q)
    (Rest L (state_behind call.behind calls)) (λ q. sym (append_assoc call.yields (items_yielded calls) q))
    (residual_on (Rest L v) (take call.taken call.piece) (λ q. call.yields ++ q) (Rest L call.behind) (bytes_taken calls) (λ q. items_yielded calls ++ q)
    (Rest L (state_behind call.behind calls)) h.0.within (calls_within Rest L call.behind calls h.1))

pub calls_anyway : {V : Type 0} (Rest : Bounds → V → List Item → Text → Type 0) (L : Bounds) (v : V) (calls : List (Call V)) → AreTaken Rest L v calls
    → IsResidual (Rest no_bounds v) (bytes_taken calls) (λ q. items_yielded calls ++ q) (Rest no_bounds (state_behind v calls))
calls_anyway Rest L v [] h = residual_here (Rest no_bounds v)
calls_anyway {V} Rest L v (call ∷ calls) h =
    items_same (Rest no_bounds v) (take call.taken call.piece ++ bytes_taken calls) (λ q. call.yields ++ (items_yielded calls ++ q))
    (λ q. (call.yields ++ items_yielded calls) ++ q)
    (Rest no_bounds (state_behind call.behind calls)) (λ q. sym (append_assoc call.yields (items_yielded calls) q))
    (residual_on (Rest no_bounds v) (take call.taken call.piece) (λ q. call.yields ++ q) (Rest no_bounds call.behind) (bytes_taken calls) (λ q. items_yielded calls ++ q)
    (Rest no_bounds (state_behind call.behind calls)) h.0.anyway (calls_anyway Rest L call.behind calls h.1))

from_start : {V : Type 0} (Rest : Bounds → V → List Item → Text → Type 0) (v : V) → IsMessageStart Rest v → (K : Bounds) (bytes : List ℕ) (f : List Item → List Item) (S : List Item → Text → Type 0)
    → IsResidual (Rest K v) bytes f S → IsResidual (MessageOf K) bytes f S
from_start Rest v s K bytes f S r = record {
  text = r.text;
  same = r.same;
  forth = λ a u more h e. r.forth a u more (s.back K a u h) e;
  back = λ b t h. s.forth K (f b) (r.text ++ t) (r.back b t h);
}

-- from the start, the items are those of a message that the bytes spell
pub items_of_a_message : {V : Type 0} (Rest : Bounds → V → List Item → Text → Type 0) (L : Bounds) (v : V) (calls : List (Call V)) → IsMessageStart Rest v → AreTaken Rest L v calls
    → ItemsOfAMessage Rest L v calls
items_of_a_message Rest L v calls s h =
    from_start Rest v s L (bytes_taken calls) (λ q. items_yielded calls ++ q) (Rest L (state_behind v calls)) (calls_within Rest L v calls h)

pub items_anyway : {V : Type 0} (Rest : Bounds → V → List Item → Text → Type 0) (L : Bounds) (v : V) (calls : List (Call V)) → IsMessageStart Rest v → AreTaken Rest L v calls
    → IsResidual (MessageOf no_bounds) (bytes_taken calls) (λ q. items_yielded calls ++ q) (Rest no_bounds (state_behind v calls))
items_anyway Rest L v calls s h =
    from_start Rest v s no_bounds (bytes_taken calls) (λ q. items_yielded calls ++ q) (Rest no_bounds (state_behind v calls)) (calls_anyway Rest L v calls h)

-- ---- a message's texts, with items and without

to_viable : (L : Bounds) (bytes : List ℕ) → CanBecome (SomeOf (MessageOf L)) bytes → IsViable L bytes
to_viable L bytes h = record { text = h.text; after = h.after; spelled = (h.spelled.1.0, h.spelled.1.1, h.spelled.1.2, h.spelled.1.4); begins = h.begins }

of_viable : (L : Bounds) (bytes : List ℕ) → IsViable L bytes → CanBecome (SomeOf (MessageOf L)) bytes
of_viable L bytes h = record {
  text = h.text;
  after = h.after;
  spelled = (items h.spelled.0 h.spelled.1 h.spelled.2, (h.spelled.0, h.spelled.1, h.spelled.2, refl, h.spelled.3));
  begins = h.begins;
}

to_next : (L : Bounds) (bytes : List ℕ) (part : Part) → IsNext (SomeOf (MessageOf L)) bytes part → NextPart L bytes part
to_next L bytes part h = record {
  before = h.before;
  byte = h.byte;
  after = h.after;
  spelled = (h.spelled.1.0, h.spelled.1.1, h.spelled.1.2, h.spelled.1.4);
  begins = h.begins;
}

-- ---- the last item

abbrev last_of : Item → List Item → Item
last_of item [] = item
last_of item (next ∷ rest) = last_of next rest

last_behind : (front rest : List Item) (last : Item) → ((item : Item) → last_of item rest ≡ last) → (item : Item) → last_of item (front ++ rest) ≡ last
last_behind [] rest last h item = h item
last_behind (next ∷ front) rest last h item = last_behind front rest last h next

last_of_message : (m : Message) (o : Omitted) (z : ℕ) (item : Item) → last_of item (items m o z) ≡ ending o z
last_of_message m o z =
    last_behind (start_items m.start m.fields) (tail_items m.content m.trailers o z) (ending o z)
    (last_behind (map content_byte m.content) (trailer_items o m.trailers ++ ending o z ∷ []) (ending o z)
    (last_behind (trailer_items o m.trailers) (ending o z ∷ []) (ending o z) (λ item. refl)))

same_ending : (front : List Item) (m : Message) (o p : Omitted) (y z : ℕ) → front ++ ending o y ∷ [] ≡ items m p z → (p ≡ o) × (z ≡ y)
same_ending front m o p y z e =
    let some : Item = ending o y in
    let same : ending p z ≡ ending o y = sym (last_of_message m p z some) ∙ ap (last_of some) (sym e) ∙ last_behind front (some ∷ []) some (λ item. refl) some in
    let left : p ≡ o = cc in
    let zeros : z ≡ y = cc in
    (left, zeros)

-- ---- the answer

front_taken : (done piece after : List ℕ) (k : ℕ) → k ≤ length piece → take (length done + k) (done ++ (piece ++ after)) ≡ done ++ take k piece
front_taken done piece after k h = take-append-add done (piece ++ after) k ∙ ap (λ (x : List ℕ). done ++ x) (take-append-le k piece after h)

refused_at : (L : Bounds) (done piece after : List ℕ) (offset : ℕ) (part : Part) → IsWithin L.input (length done + offset + 1)
    → IsRefused (SomeOf (MessageOf L)) done piece offset part → IsRefusedAt L (done ++ (piece ++ after)) (length done + offset) part
refused_at L done piece after offset part within h =
    let at : take (length done + offset) (done ++ (piece ++ after)) ≡ done ++ take offset piece = front_taken done piece after offset (omega (arith, h.inside)) in
    let on : take (length done + offset + 1) (done ++ (piece ++ after)) ≡ done ++ take (offset + 1) piece =
    ap (λ (k : ℕ). take k (done ++ (piece ++ after))) (let e : length done + offset + 1 ≡ length done + (offset + 1) = omega arith in e)
    ∙ front_taken done piece after (offset + 1) (omega (arith, h.inside)) in
    record {
      seen = within;
      first = record {
        inside = omega (arith, h.inside, length-append done (piece ++ after), length-append piece after);
        next = subst (λ (x : List ℕ). NextPart L x part) (sym at) (to_next L (done ++ take offset piece) part h.next);
        after = λ v. h.after (of_viable L (done ++ take (offset + 1) piece) (subst (IsViable L) on v));
      };
    }

on_taken : (done piece after : List ℕ) (offset : ℕ) → offset < length piece → take (length done + offset + 1) (done ++ (piece ++ after)) ≡ done ++ take (offset + 1) piece
on_taken done piece after offset h =
    ap (λ (k : ℕ). take k (done ++ (piece ++ after))) (let e : length done + offset + 1 ≡ length done + (offset + 1) = omega arith in e)
    ∙ front_taken done piece after (offset + 1) (omega (arith, h))

pub exact_place : {V : Type 0} (Rest : Bounds → V → List Item → Text → Type 0) (L : Bounds) (v : V) (calls : List (Call V)) → IsMessageStart Rest v → AreTaken Rest L v calls
    → ExactPlace Rest L v calls
exact_place {V} Rest L v calls s h = record {
  dead = λ piece after offset part within d.
      let e = (dead_same (SomeOf (MessageOf L)) (Any Rest L w) (SomeOf (MessageOf no_bounds)) (Any Rest no_bounds w) done piece offset part in_limits anyway).1 d in (
        refused_at L done piece after offset part within e.refused,
        λ c. e.anyway (of_viable no_bounds (done ++ take (offset + 1) piece) (subst (IsViable no_bounds) (on_taken done piece after offset e.refused.inside) c)),
      );
  limit = λ piece after offset part within d.
      let e = (limit_same (SomeOf (MessageOf L)) (Any Rest L w) (SomeOf (MessageOf no_bounds)) (Any Rest no_bounds w) done piece offset part in_limits anyway).1 d in (
        refused_at L done piece after offset part within e.refused,
        subst (IsViable no_bounds) (sym (on_taken done piece after offset e.refused.inside)) (to_viable no_bounds (done ++ take (offset + 1) piece) e.anyway),
      );
  too_long = λ after limit some c. record {
    limit = limit;
    more = omega (arith, some, length-append done after);
    viable = subst (IsViable L) (append-nil done ∙ sym (take-append_seam done after)) (to_viable L (done ++ []) ((in_limits.becomes []).1 c));
  };
  ended = λ part within none next. record {
    long = refl;
    seen = within;
    viable = subst (IsViable L) (append-nil done) (to_viable L (done ++ []) ((in_limits.becomes []).1 (next_becomes (Any Rest L w) [] part next)));
    unfinished = λ m o z spelled. none ((in_limits.text []).0 (subst (IsText (SomeOf (MessageOf L))) (sym (append-nil done))
        (record { text = spelled.text; spelled = (items m o z, (m, o, z, refl, spelled.spelled)); same = spelled.same })));
    next = subst (λ (x : List ℕ). NextPart L x part) (append-nil done) (to_next L (done ++ []) part ((in_limits.next [] part).1 next));
  };
  finished = λ omitted padding within r. finished omitted padding within r;
}
  where
    done : List ℕ
    done = bytes_taken calls

    w : V
    w = state_behind v calls

    first : IsResidual (MessageOf L) done (λ q. items_yielded calls ++ q) (Rest L w)
    first = items_of_a_message Rest L v calls s h

    in_limits : HasSame (SomeOf (MessageOf L)) (Any Rest L w) done
    in_limits = same_of (MessageOf L) done (λ q. items_yielded calls ++ q) (Rest L w) first

    anyway : HasSame (SomeOf (MessageOf no_bounds)) (Any Rest no_bounds w) done
    anyway = same_of (MessageOf no_bounds) done (λ q. items_yielded calls ++ q) (Rest no_bounds w) (items_anyway Rest L v calls s h)

    finished : (omitted : Omitted) (padding : ℕ) → IsWithin L.input (length done) → Rest L w (ending omitted padding ∷ []) []
        → (m : Message) × (items m omitted padding ≡ items_yielded calls ++ ending omitted padding ∷ []) × IsAnswer L done (whole m omitted padding)
    finished omitted padding within r =
        let b = first.back (ending omitted padding ∷ []) [] r in
        let same = same_ending (items_yielded calls) b.0 omitted b.1 padding b.2 b.3 in (
          b.0,
          sym (b.3 ∙ ap₂ (λ (o : Omitted) (z : ℕ). items b.0 o z) same.0 same.1),
          (
            within,
            record {
              text = first.text ++ [];
              spelled = subst₂ (λ (o : Omitted) (z : ℕ). Spells L b.0 o z (first.text ++ [])) same.0 same.1 b.4;
              same = ap bytes_of (append-nil first.text) ∙ first.same;
            },
          ),
        )
