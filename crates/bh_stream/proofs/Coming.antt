-- What may come to a job, from state to state.
use Rattle.std.proofs.Common.{ℕ, List, [], ◌∷◌, ◌++◌, subst, append_assoc}
use Rattle.bh_spec.specs.Texts.{Text}
use Rattle.bh_spec.specs.Items.{Item, ending}
use Rattle.bh_stream.specs.Decoding.{Rest, Moving, DecoderLaws}
use Rattle.bh_stream.specs.Jobs.{Fits}

module _ {V : Type 0} {rest : Rest V} {room : V → ℕ} {moves : Moving V} {ready : V → Type 0} (laws : DecoderLaws rest room moves ready) where
  -- Where all that completes the message may come, what is handed out may.
  pub fits_all : (v : V) (takes : List Item → Type 0) → ((q : List Item) (t : Text) → rest v q t → takes q) → Fits rest moves v takes
  fits_all v takes h = record {
    so_far = λ bytes i w moved alive.
        let residual = (laws.leads v w bytes i moved).residual in
        (alive.0, h (i ++ alive.0) (residual.text ++ alive.1) (residual.back alive.0 alive.1 alive.2));
    at_end = λ bytes i w moved omitted padding whole.
        let residual = (laws.leads v w bytes i moved).residual in
        h (i ++ ending omitted padding ∷ []) (residual.text ++ []) (residual.back (ending omitted padding ∷ []) [] whole);
  }

  -- behind some items
  pub fits_on : (v w : V) (bytes : List ℕ) (i : List Item) → moves v bytes i w → (takes taking : List Item → Type 0) → ((q : List Item) → takes (i ++ q) → taking q) → Fits rest moves v takes
      → Fits rest moves w taking
  fits_on v w bytes i moved takes taking on h = record {
    so_far = λ more j u led alive.
        let f = h.so_far (bytes ++ more) (i ++ j) u (laws.goes_on v w u bytes more i j moved led) alive in
        (f.0, on (j ++ f.0) (subst takes (append_assoc i j f.0) f.1));
    at_end = λ more j u led omitted padding whole.
        on (j ++ ending omitted padding ∷ [])
        (subst takes (append_assoc i j (ending omitted padding ∷ [])) (h.at_end (bytes ++ more) (i ++ j) u (laws.goes_on v w u bytes more i j moved led) omitted padding whole));
  }
