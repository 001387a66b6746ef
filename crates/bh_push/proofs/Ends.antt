-- Where a message may end, and padding.
use Rattle.std.proofs.Common.{◌≡◌, ◌+◌, ◌⊎◌, ℕ, zero, suc, List, [], ◌∷◌, ◌++◌, replicate, refl, sym, ap, ◌∙◌, inl, inr, arith}
use Rattle.bh_spec.specs.declared.Form.{Form}
use Rattle.bh_spec.specs.declared.Omitted.TheVariants.{Nothing, Trailers}
use Rattle.bh_spec.specs.declared.Part.{Part}
use Rattle.bh_spec.specs.declared.Part.TheVariants as parts
use Rattle.bh_spec.specs.Bounds.{Bounds}
use Rattle.bh_spec.specs.Texts.{Text, mark, bytes_of}
use Rattle.bh_model.specs.declared.field.Place.TheVariants.{Trailer}
use Rattle.bh_spec.specs.Residuals.{HasRest, IsResidual, IsStep}
use Rattle.bh_spec.specs.Messages.{Field}
use Rattle.bh_spec.specs.Items.{Item, trailer_section, ending}
use Rattle.bh_spec.specs.Yields.{Yields}
use Rattle.bh_fields.specs.Sections.{SectionOf}
use Rattle.bh_fields.specs.Middle.{SectionView, begun_view, Rest as section_rest}
use Rattle.bh_fields.proofs.History.{begun_is_a_section}
use Rattle.bh_push.specs.Completing.{TrailersRest, PaddingRest}
use Rattle.bh_push.specs.Decoders.{Rest, behind_content, in_trailers, in_padding}

-- ---- what is told by another word

pub yields_into : {I : Type 0} (A B : I → Text → Type 0) (gives : I → List Item) (S : I → List Item → Text → Type 0) → ((i : I) (t : Text) → A i t → B i t) → (q : List Item) (t : Text)
    → Yields A gives S q t → Yields B gives S q t
yields_into A B gives S to q t y = record {
  thing = y.thing;
  text = y.text;
  rest = y.rest;
  more = y.more;
  spelled = to y.thing y.text y.spelled;
  behind = y.behind;
  items = y.items;
  joined = y.joined;
}

-- ---- nothing, or something

-- behind a byte it doesn't matter that nothing might have followed
pub residual_or_nothing : (R S : List Item → Text → Type 0) (last : List Item) (byte : ℕ) (x : List ℕ) (f : List Item → List Item) → IsResidual R (byte ∷ x) f S
    → IsResidual (λ q t. ((q ≡ last) × (t ≡ [])) ⊎ R q t) (byte ∷ x) f S
residual_or_nothing R S last byte x f r = record { text = r.text; same = r.same; forth = forth; back = λ q t s. inr (r.back q t s) }
  where
    forth : (q : List Item) (u : Text) (more : List ℕ) → ((q ≡ last) × (u ≡ [])) ⊎ R q u → bytes_of u ≡ (byte ∷ x) ++ more → HasRest f S r.text q u
    forth q u more (inl e) h = absurd (let none : [] ≡ (byte ∷ x) ++ more = sym (ap bytes_of e.1) ∙ h in cc)
    forth q u more (inr y) h = r.forth q u more y h

-- ---- the first byte behind the content begins the trailer section

-- what the reader of sections does behind `begin`, the decoder does behind the content
pub content_behind : (L : Bounds) (form : Form) (v : SectionView) (byte : ℕ) (x : List ℕ) (f : List Item → List Item) (S : List Item → Text → Type 0)
    → IsResidual (Rest L (in_trailers form (begun_view form Trailer v))) (byte ∷ x) f S → IsResidual (Rest L (behind_content form)) (byte ∷ x) f S
content_behind L form v byte x f S r =
    let gives : List Field → List Item = λ fields. trailer_section fields ∷ [] in
    residual_or_nothing (TrailersRest (SectionOf L form Trailer)) S (ending Trailers 0 ∷ []) byte x f
    (record {
      text = r.text;
      same = r.same;
      forth = λ q u more y e. r.forth q u more
          (yields_into (SectionOf L form Trailer) (section_rest L (begun_view form Trailer v)) gives (λ fields. PaddingRest 0)
          (λ fields t h. (begun_is_a_section L form Trailer v fields t).1 h) q u y) e;
      back = λ q t s. yields_into (section_rest L (begun_view form Trailer v)) (SectionOf L form Trailer) gives (λ fields. PaddingRest 0)
          (λ fields u h. (begun_is_a_section L form Trailer v fields u).0 h) (f q) (r.text ++ t) (r.back q t s);
    })

-- ---- padding

-- every byte of padding is a zero of this part
first_zero : (more : ℕ) (other : Part) (byte : ℕ) (t : Text) → (other, byte) ∷ t ≡ mark parts.Padding (replicate more 0)
    → (other ≡ parts.Padding) × (byte ≡ 0) × ((less : ℕ) × (more ≡ suc less) × (t ≡ mark parts.Padding (replicate less 0)))
first_zero zero other byte t e = absurd cc
first_zero (suc less) other byte t e =
    let p : Part × ℕ = (other, byte) in
    let q : Part × ℕ = (parts.Padding, 0) in
    let pair : p ≡ q = cc in
    let tail : t ≡ mark parts.Padding (replicate less 0) = cc in
    (ap (λ (z : Part × ℕ). z.0) pair, ap (λ (z : Part × ℕ). z.1) pair, (less, refl, tail))

pub padding_zero : (L : Bounds) (before : ℕ) → IsStep (Rest L (in_padding before)) parts.Padding 0 (λ q. q) (Rest L (in_padding (before + 1)))
padding_zero L before = record {
  part_is = λ q other t r. (first_zero r.0 other 0 t r.2).0;
  forth = λ q t r.
      let f = first_zero r.0 parts.Padding 0 t r.2 in
      (q, refl, (f.2.0, r.1 ∙ ap (λ (n : ℕ). ending Nothing n ∷ []) (omega (arith, f.2.1)), f.2.2));
  back = λ q t r. (suc r.0, r.1 ∙ ap (λ (n : ℕ). ending Nothing n ∷ []) (omega arith), ap (λ (x : Text). (parts.Padding, 0) ∷ x) r.2);
}

-- no other byte may follow
pub padding_dead : (L : Bounds) (before byte : ℕ) → (byte ≡ 0 → ⊥) → (q : List Item) (other : Part) (t : Text) → Rest L (in_padding before) q ((other, byte) ∷ t) → ⊥
padding_dead L before byte none q other t r = none (first_zero r.0 other byte t r.2).1
