-- Where something completes a message, its ending is still to come.
use Rattle.std.proofs.Common.{◌≡◌, List, [], ◌∷◌, ◌++◌, sym, ◌∙◌, inl, inr}
use Rattle.bh_spec.specs.declared.Form.{Form}
use Rattle.bh_spec.specs.declared.Form.TheVariants.{Known, Indeterminate}
use Rattle.bh_spec.specs.declared.Kind.{Kind}
use Rattle.bh_spec.specs.declared.Kind.TheVariants.{Request, Response}
use Rattle.bh_spec.specs.declared.Part.TheVariants as parts
use Rattle.bh_spec.specs.Bounds.{Bounds}
use Rattle.bh_spec.specs.Texts.{Text, mark}
use Rattle.bh_spec.specs.Yields.{Yields}
use Rattle.bh_spec.specs.Items.{Item}
use Rattle.bh_push.specs.Decoders.{At, Rest, in_framing, in_control, in_status, before_interim, in_interim, before_header, in_header, behind_head, in_length, in_content, behind_content, in_trailers, in_padding}
use Rattle.bh_push.specs.Completing.{AfterContent, TailRest, BodyRest, AfterRun, AfterFraming}

-- no items of the kind are none
abbrev HasItems : (List Item → Text → Type 0) → Type 0
HasItems S = (q : List Item) (t : Text) → S q t → q ≡ [] → ⊥

last_none : (i q : List Item) → i ++ q ≡ [] → q ≡ []
last_none [] q e = e
last_none (x ∷ i) q e = absurd cc

yields_items : {I : Type 0} (A : I → Text → Type 0) (gives : I → List Item) (S : I → List Item → Text → Type 0) → ((i : I) → HasItems (S i)) → HasItems (Yields A gives S)
yields_items A gives S behind q t h e = behind h.thing h.more h.rest h.behind (last_none (gives h.thing) h.more (sym h.items ∙ e))

after_content : (L : Bounds) (form : Form) → HasItems (AfterContent L form)
after_content L form q t (inl h) e = let none : _ ≡ [] = sym h.0 ∙ e in absurd cc
after_content L form q t (inr h) e = yields_items _ _ _ (λ fields q t p e. let none : _ ≡ [] = sym p.1 ∙ e in absurd cc) q t h e

body : (L : Bounds) (form : Form) → HasItems (BodyRest L form)
body L Known q t h e = yields_items _ _ _ (λ content. after_content L Known) q t h e
body L Indeterminate q t h e = yields_items _ _ _ (λ chunks. after_content L Indeterminate) q t h e

after_run : (L : Bounds) (form : Form) → HasItems (AfterRun L form)
after_run L Known q t h e = after_content L Known q t h e
after_run L Indeterminate q t h e = body L Indeterminate q t h e

tail : (L : Bounds) (form : Form) → HasItems (TailRest L form)
tail L form q t (inl h) e = let none : _ ≡ [] = sym h.0 ∙ e in absurd cc
tail L form q t (inr h) e = body L form q t h e

pub some_left : (L : Bounds) (at : At) → HasItems (Rest L at)
some_left L (in_framing begun) q t h e = yields_items _ _ _ after q (mark parts.Framing begun ++ t) h e
  where
    after : (k : Kind × Form) → HasItems (AfterFraming L k)
    after (Request, form) q t h e = yields_items _ _ _ (λ control q t h e. yields_items _ _ _ (λ fields. tail L form) q t h e) q t h e
    after (Response, form) q t h e = yields_items _ _ _ (λ found q t h e. yields_items _ _ _ (λ fields. tail L form) q t h e) q t h e
some_left L (in_control form read) q t h e = yields_items _ _ _ (λ control q t h e. yields_items _ _ _ (λ fields. tail L form) q t h e) q t h e
some_left L (in_status form before begun) q t h e = yields_items _ _ _ (λ found q t h e. yields_items _ _ _ (λ fields. tail L form) q t h e) q (mark parts.Status begun ++ t) h e
some_left L (before_interim form before status) q t h e =
    yields_items _ _ _ (λ fields q t h e. yields_items _ _ _ (λ found q t h e. yields_items _ _ _ (λ fields. tail L form) q t h e) q t h e) q t h e
some_left L (in_interim form before status v) q t h e =
    yields_items _ _ _ (λ fields q t h e. yields_items _ _ _ (λ found q t h e. yields_items _ _ _ (λ fields. tail L form) q t h e) q t h e) q t h e
some_left L (before_header form of) q t h e = yields_items _ _ _ (λ fields. tail L form) q t h e
some_left L (in_header form of v) q t h e = yields_items _ _ _ (λ fields. tail L form) q t h e
some_left L (behind_head form) q t h e = tail L form q t h e
some_left L (in_length form begun) q t h e = body L form q _ h e
some_left L (in_content form missing) q t h e = yields_items _ _ _ (λ bytes. after_run L form) q t h e
some_left L (behind_content form) q t h e = after_content L form q t h e
some_left L (in_trailers form v) q t h e = yields_items _ _ _ (λ fields q t p e. let none : _ ≡ [] = sym p.1 ∙ e in absurd cc) q t h e
some_left L (in_padding before) q t h e = let none : _ ≡ [] = sym h.1 ∙ e in absurd cc
