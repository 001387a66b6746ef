-- What is known of the states of the decoder of a call.
use Rattle.std.proofs.Common.{◌≡◌, ◌+◌, ◌-◌, ℕ, Option, Some, None, List, [], ◌∷◌, ◌++◌, refl, sym, ◌∙◌, ap, subst, arith, length-append}
use Rattle.bh_spec.specs.declared.Kind.{Kind}
use Rattle.bh_spec.specs.Bounds.{Bounds, no_bounds}
use Rattle.bh_spec.specs.Texts.{bytes_of}
use Rattle.bh_spec.specs.Residuals.{IsResidual}
use Rattle.bh_spec.specs.Items.{Item, interim_response, head, content_byte, trailer_section, ending}
use Rattle.bh_spec.specs.Readers.{Moves}
use Rattle.bh_spec.proofs.Residuals.{residual_here}
use Rattle.bh_spec.proofs.Readers.{moves_on}
use Rattle.bh_push.specs.Decoders.{Rest as rest_at}
use Rattle.bh_push.specs.Hands.{kind_of_head}
use Rattle.bh_stream.specs.Decoding.{IsAlive, Leads, DecoderLaws}
use Rattle.bh_stream.proofs.Moving.{items-append}
use Rattle.bh_reading.specs.Readings.{Counted, rest, within_limit, room, lines_in, kind_behind, Moved, IsReady}
use Rattle.bh_reading.specs.ContentLaws.{content_of_rest}

pub lines-append : (i j : List Item) → lines_in (i ++ j) ≡ lines_in i + lines_in j
lines-append [] j = omega arith
lines-append ((interim_response status fields) ∷ i) j = omega (arith, lines-append i j)
lines-append ((head of fields) ∷ i) j = omega (arith, lines-append i j)
lines-append ((content_byte x) ∷ i) j = lines-append i j
lines-append ((trailer_section fields) ∷ i) j = omega (arith, lines-append i j)
lines-append ((ending omitted padding) ∷ i) j = lines-append i j

pub kind-append : (i j : List Item) (kind : Kind) → kind_behind (i ++ j) kind ≡ kind_behind j (kind_behind i kind)
kind-append [] j kind = refl
kind-append ((interim_response status fields) ∷ i) j kind = kind-append i j kind
kind-append ((head of fields) ∷ i) j kind = kind-append i j (kind_of_head of)
kind-append ((content_byte x) ∷ i) j kind = kind-append i j kind
kind-append ((trailer_section fields) ∷ i) j kind = kind-append i j kind
kind-append ((ending omitted padding) ∷ i) j kind = kind-append i j kind

pub room_at : (o : Option ℕ) (limit taken : ℕ) → o ≡ Some limit → within_limit o taken ≡ limit - taken
room_at (Some n) limit taken e = let same : n ≡ limit = cc in ap (λ (k : ℕ). k - taken) same
room_at None limit taken e = absurd (cc)

leads : (v w : Counted) (x : List ℕ) (i : List Item) → Moved v x i w → Leads rest room v x i w
leads v w x i m =
    record {
      residual = subst (λ (L : Bounds). IsResidual (rest v) x (λ (q : List Item). i ++ q)
          (rest_at L w.held.decoder.at)) (sym m.limits) m.comes.within;
      room_left =
          omega (
            arith,
            room_at v.held.decoder.limits.input m.input.limit v.held.decoder.taken m.input.limit_is,
            room_at w.held.decoder.limits.input m.input.limit w.held.decoder.taken (ap (λ (L : Bounds). L.input) m.limits
                ∙ m.input.limit_is),
            m.taken,
            m.input.few,
          );
    }

-- behind what was taken something completes the message
pub alive_behind : (v w : Counted) (x : List ℕ) (i : List Item) → Moved v x i w → IsAlive rest w
alive_behind v w x i m =
    let alive = m.comes.goes_on in (
      alive.spelled.0,
      alive.text,
      subst (λ (L : Bounds). rest_at L w.held.decoder.at alive.spelled.0 alive.text) (sym m.limits) alive.spelled.1,
    )

stays : (v : Counted) → IsReady v → Moved v [] [] v
stays v r = record {
  input = record { limit = r.input.limit; limit_is = r.input.limit_is; few = omega (arith, r.input.few) };
  comes = record {
    within = residual_here (rest v);
    anyway = residual_here (rest_at no_bounds v.held.decoder.at);
    goes_on = record { text = r.text; after = bytes_of r.text; spelled = (r.items, r.alive); begins = refl };
  };
  limits = refl;
  taken = omega arith;
  refusal = r.refusal;
  kind = refl;
  lines = omega (arith, r.lines);
  content = omega (arith, r.content);
}

goes_on : (v w u : Counted) (x y : List ℕ) (i j : List Item) → Moved v x i w → Moved w y j u → Moved v (x ++ y) (i ++ j) u
goes_on v w u x y i j a b =
    let L = v.held.decoder.limits in
    let later = subst
    (λ (K : Bounds). Moves (rest_at K w.held.decoder.at) (rest_at no_bounds w.held.decoder.at) (rest_at K u.held.decoder.at)
    (rest_at no_bounds u.held.decoder.at) y j) a.limits b.comes in
    record {
      input = record {
        limit = b.input.limit;
        limit_is = sym (ap (λ (K : Bounds). K.input) a.limits) ∙ b.input.limit_is;
        few = omega (arith, b.input.few, a.taken, length-append x y);
      };
      comes = moves_on (rest v) (rest_at no_bounds v.held.decoder.at) (rest_at L w.held.decoder.at) (rest_at no_bounds w.held.decoder.at)
          (rest_at L u.held.decoder.at) (rest_at no_bounds u.held.decoder.at) x y i j a.comes later;
      limits = b.limits ∙ a.limits;
      taken = omega (arith, a.taken, b.taken, length-append x y);
      refusal = b.refusal;
      kind = b.kind ∙ ap (kind_behind j) a.kind ∙ sym (kind-append i j v.kind);
      lines = omega (arith, a.lines, b.lines, lines-append i j);
      content = omega (arith, a.content, b.content, items-append i j);
    }

is_ready : (v w : Counted) (x : List ℕ) (i : List Item) → IsReady v → Moved v x i w → IsReady w
is_ready v w x i r m =
    let alive = alive_behind v w x i m in
    record {
      refusal = m.refusal;
      input = record {
        limit = m.input.limit;
        limit_is = ap (λ (L : Bounds). L.input) m.limits
            ∙ m.input.limit_is;
        few = omega (arith, m.taken, m.input.few);
      };
      items = alive.0;
      text = alive.1;
      alive = alive.2;
      lines = omega (arith, m.lines);
      content = omega (arith, m.content);
    }

pub reading_laws : DecoderLaws rest room Moved IsReady
reading_laws = record {
  leads = leads;
  stays = stays;
  goes_on = goes_on;
  is_ready = is_ready;
  content = λ v q t h. content_of_rest v.held.decoder.limits v.held.decoder.at q t h;
}
