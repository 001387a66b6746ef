-- What a decoder at the start of a call knows of messages.
use Rattle.std.proofs.Common.{◌≡◌, ℕ, Some, List, [], ◌∷◌, refl, sym, ◌∙◌, ap, subst, arith, inr}
use Rattle.bh_spec.specs.declared.Omitted.{Omitted}
use Rattle.bh_spec.specs.declared.Width.TheVariants.{One}
use Rattle.bh_spec.specs.Bounds.{Bounds, IsWithin}
use Rattle.bh_spec.specs.Messages.{Message}
use Rattle.bh_spec.specs.Texts.{Text}
use Rattle.bh_spec.specs.Viable.{IsViable}
use Rattle.bh_spec.specs.Spelling.{Spells}
use Rattle.bh_spec.specs.Items.{Item, items, MessageOf}
use Rattle.bh_spec.proofs.Framing.{framing_alive}
use Rattle.bh_model.specs.Ranges.{AreLimits}
use Rattle.bh_push.specs.Decoders.{Rest as rest_at}
use Rattle.bh_push.specs.Pushes.{DecoderView}
use Rattle.bh_push.proofs.Starting.{start_is}
use Rattle.bh_stream.specs.Outputs.{written}
use Rattle.bh_stream.specs.Jobs.{Owing}
use Rattle.bh_stream.specs.Messages.{items_in, KnowsMessages}
use Rattle.bh_stream.proofs.Messages.{one_spelling}
use Rattle.bh_reading.specs.Readings.{Counted, rest, room, IsAtStart, IsReady}
use Rattle.bh_reading.specs.ReadingLaws.{room_at}

-- some message is within the limits
some_message : (L : Bounds) → AreLimits L → IsViable L (1 ∷ [])
some_message L limits =
    (framing_alive L 1 [] (subst (λ (K : Bounds). IsWithin K.part 5) (sym limits.same) (omega (arith, limits.range.part_low))) (omega arith)).1
    (1, One, (omega arith, ([], refl)), inr ((omega arith, omega arith), tt))

module _ (L : Bounds) (limits : AreLimits L) (v : Counted) (start : IsAtStart L v) where
  at_start : (q : List Item) (t : Text) → MessageOf L q t → rest v q t
  at_start q t h =
      subst (λ (d : DecoderView). rest_at d.limits d.at q t) (sym start.decoder) (start_is.back L q t h)

  pub from_start : (q : List Item) (t : Text) → rest v q t → MessageOf L q t
  from_start q t h = start_is.forth L q t (subst (λ (d : DecoderView). rest_at d.limits d.at q t) start.decoder h)

  input_is : v.held.decoder.limits.input ≡ Some limits.input
  input_is = ap (λ (d : DecoderView). d.limits.input) start.decoder ∙ ap (λ (K : Bounds). K.input) limits.same

  taken_is : v.held.decoder.taken ≡ 0
  taken_is = ap (λ (d : DecoderView). d.taken) start.decoder

  pub ready_at_start : IsReady v
  ready_at_start =
      let some = some_message L limits in
      let m = some.spelled in
      record {
        refusal = ap (λ (d : DecoderView). d.refusal) start.decoder;
        input = record { limit = limits.input; limit_is = input_is; few = omega (arith, taken_is) };
        items = items m.0 m.1 m.2;
        text = some.text;
        alive = at_start (items m.0 m.1 m.2) some.text (m.0, m.1, m.2, refl, m.3);
        lines = omega (arith, start.lines);
        content = omega (arith, start.content);
      }

  pub knows_at_start : (output : Message → List ℕ) (owed : Owing) → ((m : Message) (o : Omitted) (z : ℕ) (t : Text) → Spells L m o z t → written (owed (items m o z)) ≡ output m)
      → KnowsMessages L output rest room v owed
  knows_at_start output owed owes = record {
    reads = λ s t h. at_start (items_in s) t (s.message, s.omitted, s.padding, refl, h);
    alone = λ q t h. let m = from_start q t h in (record { message = m.0; omitted = m.1; padding = m.2 }, m.3, m.4);
    once = one_spelling L;
    limit_is = ap (λ (K : Bounds). K.input) limits.same ∙ ap Some (sym room_is);
    owes = λ s t h. owes s.message s.omitted s.padding t h;
    nothing = λ never.
        let some = some_message L limits in
        let m = some.spelled in
        absurd (never some.text (record { message = m.0; omitted = m.1; padding = m.2 }, m.3));
  }
    where
      room_is : room v ≡ limits.input
      room_is = omega (arith, room_at v.held.decoder.limits.input limits.input v.held.decoder.taken input_is, taken_is)
