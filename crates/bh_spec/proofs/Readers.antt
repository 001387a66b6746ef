-- What a reader says of a piece, a decoder says of it in the phase of that reader.
use Rattle.std.proofs.Common.{◌≡◌, ℕ, List, [], ◌∷◌, ◌++◌, refl, sym, ap, subst, ◌∙◌, append_assoc, append-nil}
use Rattle.bh_spec.specs.declared.Part.{Part}
use Rattle.bh_spec.specs.Bounds.{Bounds, no_bounds}
use Rattle.bh_spec.specs.Texts.{Text, bytes_of}
use Rattle.bh_spec.specs.Pieces.{SomeOf, IsText, CanBecome, GoesOn, IsDead, IsLimit}
use Rattle.bh_spec.proofs.Pieces.{IsOnce}
use Rattle.bh_spec.specs.Residuals.{IsResidual}
use Rattle.bh_spec.specs.Items.{Item}
use Rattle.bh_spec.specs.Readings.{Leads}
use Rattle.bh_spec.specs.Yields.{Yields, NoneEndsBefore}
use Rattle.bh_spec.specs.Readers.{Follows, Moves}
use Rattle.bh_spec.proofs.Residuals.{residual_on, behind_items, residual_bytes, same_of, once_behind}
use Rattle.bh_spec.proofs.Yields.{residual_yields, residual_over, IsOver, on_ends, end_ends, text_once, begun_then, dead_then, limit_then}

-- What is known of the things that a reader reads: within the limits by A, without by C.
pub record IsReader {I : Type 0} (A C : I → Text → Type 0) : Type 0 where
  pub once : IsOnce (SomeOf A)
  pub free_once : IsOnce (SomeOf C)
  pub one : (i j : I) (bytes : List ℕ) → IsText (A i) bytes → IsText (A j) bytes → i ≡ j
  pub free_one : (i j : I) (bytes : List ℕ) → IsText (C i) bytes → IsText (C j) bytes → i ≡ j
  pub weaker : (i : I) (t : Text) → A i t → C i t

-- one way behind another
pub moves_on : (R F S G T H : List Item → Text → Type 0) (x y : List ℕ) (i j : List Item) → Moves R F S G x i → Moves S G T H y j → Moves R F T H (x ++ y) (i ++ j)
moves_on R F S G T H x y i j a b = record {
  within = behind_items R S T x y i j a.within b.within;
  anyway = behind_items F G H x y i j a.anyway b.anyway;
  goes_on = b.goes_on;
}

-- ---- the whole piece was taken, and the thing goes on

none_without : {I : Type 0} (A C : I → Text → Type 0) → IsReader A C → (piece : List ℕ) → GoesOn (SomeOf A) [] piece → NoneEndsBefore C piece
none_without A C r piece g i t more a e =
    let b = g.begins in
    front_none more b.after (text_once (SomeOf C) r.free_once (bytes_of t) (more ++ b.after) (bytes_of b.text)
    (b.begins ∙ ap (λ (x : List ℕ). x ++ b.after) e ∙ append_assoc (bytes_of t) more b.after)
    (record { text = t; spelled = (i, a); same = refl })
    (record { text = b.text; spelled = (b.spelled.0, r.weaker b.spelled.0 b.text b.spelled.1); same = refl }))
  where
    front_none : (x y : List ℕ) → x ++ y ≡ [] → x ≡ []
    front_none [] y f = refl
    front_none (c ∷ x) y f = absurd cc

pub reader_goes_on : {I : Type 0} (A C B D : I → Text → Type 0) (gives : I → List Item) (S : Bounds → I → List Item → Text → Type 0) (L : Bounds) (piece : List ℕ)
    → IsReader A C → Leads A C B D piece → GoesOn (SomeOf A) [] piece → Follows B (S L)
    → Moves (Yields A gives (S L)) (Yields C gives (S no_bounds)) (Yields B gives (S L)) (Yields D gives (S no_bounds)) piece []
reader_goes_on A C B D gives S L piece r leads g follows = record {
  within = residual_yields A B gives (S L) piece leads.within (on_ends A piece g);
  anyway = residual_yields C D gives (S no_bounds) piece leads.anyway (none_without A C r piece g);
  goes_on = begun_then B gives (S L) follows [] (((same_of A piece (λ i. i) B leads.within).becomes []).0 (subst (CanBecome (SomeOf A)) (sym (append-nil piece)) g.begins));
}

-- ---- the thing is whole

over_at : {I : Type 0} (A B : I → Text → Type 0) (x : List ℕ) (i : I) → IsOnce (SomeOf A) → ((j k : I) (bytes : List ℕ) → IsText (A j) bytes → IsText (A k) bytes → j ≡ k)
    → IsResidual A x (λ j. j) B → B i [] → IsOver B i
over_at A B x i once one leads b j t c =
    let none : t ≡ [] = nothing t (text_once (SomeOf B) (once_behind A x (λ k. k) B leads once) [] (bytes_of t) (bytes_of t) refl
    (record { text = []; spelled = (i, b); same = refl }) (record { text = t; spelled = (j, c); same = refl })) in (
      one j i x
          (record { text = leads.text ++ []; spelled = leads.back j [] (subst (B j) none c); same = ap bytes_of (append-nil leads.text) ∙ leads.same })
          (record { text = leads.text ++ []; spelled = leads.back i [] b; same = ap bytes_of (append-nil leads.text) ∙ leads.same }),
      none,
    )
  where
    nothing : (u : Text) → bytes_of u ≡ [] → u ≡ []
    nothing [] e = refl
    nothing (a ∷ u) e = absurd cc

whole_at : {I : Type 0} (A B : I → Text → Type 0) (gives : I → List Item) (S : I → List Item → Text → Type 0) (x : List ℕ) (i : I) → IsOnce (SomeOf A)
    → ((j k : I) (bytes : List ℕ) → IsText (A j) bytes → IsText (A k) bytes → j ≡ k) → IsResidual A x (λ j. j) B → B i [] → IsResidual (Yields A gives S) x (λ q. gives i ++ q) (S i)
whole_at A B gives S x i once one leads b =
    let text : IsText (SomeOf A) x = record { text = leads.text ++ []; spelled = (i, leads.back i [] b); same = ap bytes_of (append-nil leads.text) ∙ leads.same } in
    residual_bytes (Yields A gives S) (x ++ []) x (λ q. gives i ++ q) (S i) (append-nil x)
    (residual_on (Yields A gives S) x (λ q. q) (Yields B gives S) [] (λ q. gives i ++ q) (S i)
    (residual_yields A B gives S x leads (end_ends A x once text))
    (residual_over B gives S i (over_at A B x i once one leads b) b))

pub reader_whole : {I : Type 0} (A C B D : I → Text → Type 0) (gives : I → List Item) (S : Bounds → I → List Item → Text → Type 0) (L : Bounds) (x : List ℕ) (i : I)
    → IsReader A C → Leads A C B D x → B i [] → D i [] → Follows B (S L)
    → Moves (Yields A gives (S L)) (Yields C gives (S no_bounds)) (S L i) (S no_bounds i) x (gives i)
reader_whole A C B D gives S L x i r leads b d follows =
    let f = follows i [] b in
    record {
      within = whole_at A B gives (S L) x i r.once r.one leads.within b;
      anyway = whole_at C D gives (S no_bounds) x i r.free_once r.free_one leads.anyway d;
      goes_on = record { text = f.1; after = bytes_of f.1; spelled = (f.0, f.2); begins = refl };
    }

-- ---- a byte is refused

pub reader_dead : {I : Type 0} (A C : I → Text → Type 0) (gives : I → List Item) (S : Bounds → I → List Item → Text → Type 0) (L : Bounds) → IsReader A C → Follows A (S L)
    → (piece : List ℕ) (k : ℕ) (part : Part) → IsDead (SomeOf A) (SomeOf C) [] piece k part
    → IsDead (SomeOf (Yields A gives (S L))) (SomeOf (Yields C gives (S no_bounds))) [] piece k part
reader_dead A C gives S L r follows piece k part h = dead_then A C gives (S L) (S no_bounds) r.once r.free_once follows r.weaker piece k part h

pub reader_limit : {I : Type 0} (A C : I → Text → Type 0) (gives : I → List Item) (S : Bounds → I → List Item → Text → Type 0) (L : Bounds) → IsReader A C → Follows A (S L)
    → Follows C (S no_bounds) → (piece : List ℕ) (k : ℕ) (part : Part) → IsLimit (SomeOf A) (SomeOf C) [] piece k part
    → IsLimit (SomeOf (Yields A gives (S L))) (SomeOf (Yields C gives (S no_bounds))) [] piece k part
reader_limit A C gives S L r follows free piece k part h = limit_then A C gives (S L) (S no_bounds) r.once follows free piece k part h
