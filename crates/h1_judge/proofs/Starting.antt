-- At the start of a message the decoder is ready, and knows messages whose items are cleaned.
use Rattle.std.proofs.Common.{◌≡◌, Bool, true, false, List, [], ◌∷◌, sym, ◌∙◌, ap, subst}
use Rattle.bh_spec.specs.Bounds.{Bounds}
use Rattle.bh_spec.specs.Texts.{Text}
use Rattle.bh_spec.specs.Items.{Item, interim_response, head, content_byte, trailer_section, ending}
use Rattle.bh_model.specs.Ranges.{AreLimits}
use Rattle.bh_push.specs.Pushes.{DecoderView}
use Rattle.bh_push.specs.Standing.{IsPrompt}
use Rattle.bh_reading.specs.Readings as binary
use Rattle.bh_reading.specs.Coming.{TailComes, MessageComes}
use Rattle.bh_reading.proofs.AtStart.{ready_at_start}
use Rattle.bh_reading.proofs.Coming.{comes_at_start}
use Rattle.h1_judge.specs.Views.{JudgedView, Prompt, AreFitting, IsReady, IsAtStart}

fits_at_end : (L : Bounds) (q : List Item) → TailComes L q → AreFitting L q
fits_at_end L [] h = absurd h
fits_at_end L ((interim_response status fields) ∷ q) h = absurd h
fits_at_end L ((head of fields) ∷ q) h = absurd h
fits_at_end L ((content_byte x) ∷ q) h = (tt, fits_at_end L q h)
fits_at_end L ((trailer_section fields) ∷ q) h = (h.0, subst (AreFitting L) (sym h.1.1) (tt, tt))
fits_at_end L ((ending omitted padding) ∷ q) h = (tt, subst (AreFitting L) (sym h.1) tt)

pub fits_where_comes : (L : Bounds) (begun : Bool) (q : List Item) → MessageComes L begun q → AreFitting L q
fits_where_comes L begun [] h = absurd h
fits_where_comes L begun ((interim_response status fields) ∷ q) h = (h.0, fits_where_comes L true q h.1)
fits_where_comes L begun ((head of fields) ∷ q) h = ((h.0.start, h.0.valid, h.0.fits), fits_at_end L q h.1)
fits_where_comes L begun ((content_byte x) ∷ q) h = absurd h
fits_where_comes L begun ((trailer_section fields) ∷ q) h = absurd h
fits_where_comes L begun ((ending omitted padding) ∷ q) h = absurd h

pub ready_here : (L : Bounds) → AreLimits L → (to_head : Bool) (v : JudgedView) → IsAtStart L to_head v → IsReady v
ready_here L limits to_head v start = record {
  reading = ready_at_start L limits v.reading start.reading;
  prompt = subst (λ (d : DecoderView). IsPrompt d.limits d.at) (sym start.reading.decoder) tt;
  fitting = λ raw t h. subst (λ (K : Bounds). AreFitting K raw) (sym (ap (λ (d : DecoderView). d.limits) start.reading.decoder))
      (fits_where_comes L false raw (comes_at_start L limits v.reading start.reading raw t h));
}
