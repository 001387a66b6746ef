-- A reader that judges byte for byte answers for a piece what is right, and each answer exactly where it is.
use Rattle.std.proofs.Common.{◌≡◌, ◌<◌, ◌≤◌, ◌+◌, ◌↔◌, ℕ, List, [], ◌∷◌, ◌++◌, length, take, get_or, refl, sym, ap, ap₂, subst, ◌∙◌, append-nil}
use Rattle.std.proofs.lemmas.List.{append_cancel_left}
use Rattle.bh_spec.specs.declared.Part.{Part}
use Rattle.bh_spec.specs.declared.PieceStep.{PieceStep}
use Rattle.bh_spec.specs.declared.PieceStep.TheVariants.{Need, Whole, Dead, Limit}
use Rattle.bh_spec.specs.declared.Judged.TheVariants as judged
use Rattle.bh_spec.specs.Texts.{Text, bytes_of}
use Rattle.bh_spec.specs.Pieces.{SomeOf, IsText, CanBecome, IsNext, Ends, GoesOn, IsRefused, IsDead, IsLimit}
use Rattle.bh_spec.specs.Residuals.{IsResidual, HasSame}
use Rattle.bh_spec.specs.Readings.{Stage, Shows, Leads, Takes, SaysOfAll}
use Rattle.bh_spec.proofs.Marks.{bytes_of-append}
use Rattle.bh_spec.proofs.Pieces.{IsOnce, next_taken, all_taken, next_unfinished, whole_whole, whole_refused, on_refused, refused_refused, refused_part, dead_limit}
use Rattle.bh_spec.proofs.Residuals.{residual_here, residual_on, residual_bytes, same_of, ends_same, goes_on_same, dead_same, limit_same}

-- ---- two right answers are one

same_refusal : (R : Text → Type 0) → IsOnce R → (bytes piece : List ℕ) (o u : ℕ) (p q : Part) → IsRefused R bytes piece o p → IsRefused R bytes piece u q → (o ≡ u) × (p ≡ q)
same_refusal R one bytes piece o u p q a b =
    let same = refused_refused R bytes piece o u p q a b in
    (same, refused_part R one bytes piece o u p q same a b)

once : (R S : Text → Type 0) → IsOnce R → (bytes piece : List ℕ) (s t : PieceStep) → Shows R S bytes piece s → Shows R S bytes piece t → s ≡ t
once R S one bytes piece Need Need a b = refl
once R S one bytes piece Need (Whole k) a b = absurd (a.unfinished k b)
once R S one bytes piece Need (Dead o p) a b = absurd (on_refused R bytes piece o p a b.refused)
once R S one bytes piece Need (Limit o p) a b = absurd (on_refused R bytes piece o p a b.refused)
once R S one bytes piece (Whole k) Need a b = absurd (b.unfinished k a)
once R S one bytes piece (Whole k) (Whole j) a b = ap Whole (whole_whole R one bytes piece k j a b)
once R S one bytes piece (Whole k) (Dead o p) a b = absurd (whole_refused R one bytes piece k o p a b.refused)
once R S one bytes piece (Whole k) (Limit o p) a b = absurd (whole_refused R one bytes piece k o p a b.refused)
once R S one bytes piece (Dead o p) Need a b = absurd (on_refused R bytes piece o p b a.refused)
once R S one bytes piece (Dead o p) (Whole k) a b = absurd (whole_refused R one bytes piece k o p b a.refused)
once R S one bytes piece (Dead o p) (Dead u q) a b = let e = same_refusal R one bytes piece o u p q a.refused b.refused in ap₂ Dead e.0 e.1
once R S one bytes piece (Dead o p) (Limit u q) a b = absurd (dead_limit R S bytes piece o u p q a b)
once R S one bytes piece (Limit o p) Need a b = absurd (on_refused R bytes piece o p b a.refused)
once R S one bytes piece (Limit o p) (Whole k) a b = absurd (whole_refused R one bytes piece k o p b a.refused)
once R S one bytes piece (Limit o p) (Dead u q) a b = absurd (dead_limit R S bytes piece u o q p b a)
once R S one bytes piece (Limit o p) (Limit u q) a b = let e = same_refusal R one bytes piece o u p q a.refused b.refused in ap₂ Limit e.0 e.1

-- a right answer is given exactly where it is right
pub exactly : (R S : Text → Type 0) → IsOnce R → (bytes piece : List ℕ) (s t : PieceStep) → Shows R S bytes piece s → (s ≡ t) ↔ Shows R S bytes piece t
exactly R S one bytes piece s t h = (λ e. subst (Shows R S bytes piece) e h, λ k. once R S one bytes piece s t h k)

-- ---- the reader behind bytes

pub leads_here : {I : Type 0} (A C : I → Text → Type 0) → Leads A C A C []
leads_here A C = record { within = residual_here A; anyway = residual_here C }

pub one_more : {I : Type 0} (A B E : I → Text → Type 0) (piece : List ℕ) (o : ℕ) → o < length piece → IsResidual A (take o piece) (λ i. i) B
    → IsResidual B (get_or piece o 0 ∷ []) (λ i. i) E → IsResidual A (take (o + 1) piece) (λ i. i) E
one_more A B E piece o h a b =
    residual_bytes A (take o piece ++ get_or piece o 0 ∷ []) (take (o + 1) piece) (λ i. i) E (next_taken (take o piece) [] piece o refl h)
    (residual_on A (take o piece) (λ i. i) B (get_or piece o 0 ∷ []) (λ i. i) E a b)

-- with a byte more of the piece
pub leads_on : {I : Type 0} (A C B D E F : I → Text → Type 0) (piece : List ℕ) (o : ℕ) → o < length piece → Leads A C B D (take o piece) → Leads B D E F (get_or piece o 0 ∷ [])
    → Leads A C E F (take (o + 1) piece)
leads_on A C B D E F piece o h a b = record { within = one_more A B E piece o h a.within b.within; anyway = one_more C D F piece o h a.anyway b.anyway }

pub whole_piece : {I : Type 0} (A B : I → Text → Type 0) (piece : List ℕ) (o : ℕ) → o ≤ length piece → length piece ≤ o → IsResidual A (take o piece) (λ i. i) B → IsResidual A piece (λ i. i) B
whole_piece A B piece o g h a = residual_bytes A (take o piece) piece (λ i. i) B (all_taken (take o piece) [] piece o refl g h) a

-- the whole piece
pub leads_all : {I : Type 0} (A C B D : I → Text → Type 0) (piece : List ℕ) (o : ℕ) → o ≤ length piece → length piece ≤ o → Leads A C B D (take o piece) → Leads A C B D piece
leads_all A C B D piece o g h a = record { within = whole_piece A B piece o g h a.within; anyway = whole_piece C D piece o g h a.anyway }

next_here : {I : Type 0} (A B : I → Text → Type 0) (bytes : List ℕ) (part : Part) → IsResidual A bytes (λ i. i) B → IsNext (SomeOf B) [] part → IsNext (SomeOf A) bytes part
next_here A B bytes part a next = subst (λ (x : List ℕ). IsNext (SomeOf A) x part) (append-nil bytes) (((same_of A bytes (λ i. i) B a).next [] part).1 next)

-- what completes nothing more is a text
text_here : {I : Type 0} (A B : I → Text → Type 0) (bytes : List ℕ) (i : I) → IsResidual A bytes (λ i. i) B → B i [] → IsText (SomeOf A) bytes
text_here A B bytes i a b = subst (IsText (SomeOf A)) (append-nil bytes) (((same_of A bytes (λ i. i) B a).text []).1 (record { text = []; spelled = (i, b); same = refl }))

-- a byte more of the piece goes on from the beginning as it does from there
goes_at : {I : Type 0} (A B : I → Text → Type 0) (piece : List ℕ) (o : ℕ) → o < length piece → IsResidual A (take o piece) (λ i. i) B
    → CanBecome (SomeOf A) (take (o + 1) piece) ↔ CanBecome (SomeOf B) (get_or piece o 0 ∷ [])
goes_at A B piece o h a =
    let s = (same_of A (take o piece) (λ i. i) B a).becomes (get_or piece o 0 ∷ []) in
    let e : take o piece ++ get_or piece o 0 ∷ [] ≡ take (o + 1) piece = next_taken (take o piece) [] piece o refl h in
    (λ c. s.0 (subst (CanBecome (SomeOf A)) (sym e) c), λ c. subst (CanBecome (SomeOf A)) e (s.1 c))

refused_here : {I : Type 0} (A B : I → Text → Type 0) (piece : List ℕ) (o : ℕ) (part : Part) → o < length piece → IsResidual A (take o piece) (λ i. i) B → IsNext (SomeOf B) [] part
    → (CanBecome (SomeOf B) (get_or piece o 0 ∷ []) → ⊥) → IsRefused (SomeOf A) [] piece o part
refused_here A B piece o part h a next none = record {
  inside = h;
  next = next_here A B (take o piece) part a next;
  after = λ c. none ((goes_at A B piece o h a).0 c);
}

-- ---- the answers of a call

-- all that a call says of a piece, and of the reader behind it
pub record Answers {I : Type 0} (A C : I → Text → Type 0) (piece : List ℕ) (step : PieceStep) (Behind : Type 0) : Type 0 where
  pub need : (step ≡ Need) ↔ GoesOn (SomeOf A) [] piece
  pub whole : (taken : ℕ) → (step ≡ Whole taken) ↔ Ends (SomeOf A) [] piece taken
  pub dead : (offset : ℕ) (part : Part) → (step ≡ Dead offset part) ↔ IsDead (SomeOf A) (SomeOf C) [] piece offset part
  pub limit : (offset : ℕ) (part : Part) → (step ≡ Limit offset part) ↔ IsLimit (SomeOf A) (SomeOf C) [] piece offset part
  pub shows : Shows (SomeOf A) (SomeOf C) [] piece step
  pub behind : Behind

pub answers : {I : Type 0} (A C : I → Text → Type 0) (piece : List ℕ) (step : PieceStep) (Behind : Type 0) → IsOnce (SomeOf A) → Shows (SomeOf A) (SomeOf C) [] piece step → Behind
    → Answers A C piece step Behind
answers A C piece step Behind one shows behind = record {
  need = exactly (SomeOf A) (SomeOf C) one [] piece step Need shows;
  whole = λ taken. exactly (SomeOf A) (SomeOf C) one [] piece step (Whole taken) shows;
  dead = λ offset part. exactly (SomeOf A) (SomeOf C) one [] piece step (Dead offset part) shows;
  limit = λ offset part. exactly (SomeOf A) (SomeOf C) one [] piece step (Limit offset part) shows;
  shows = shows;
  behind = behind;
}

pub need_shows : {I : Type 0} (A C B : I → Text → Type 0) (piece : List ℕ) (part : Part) → IsOnce (SomeOf A) → IsResidual A piece (λ i. i) B → IsNext (SomeOf B) [] part
    → Shows (SomeOf A) (SomeOf C) [] piece Need
need_shows A C B piece part one a next = next_unfinished (SomeOf A) one [] piece part (next_here A B piece part a next)

pub whole_shows : {I : Type 0} (A C B : I → Text → Type 0) (piece : List ℕ) (taken : ℕ) (i : I) → taken ≤ length piece → IsResidual A (take taken piece) (λ j. j) B → B i []
    → Shows (SomeOf A) (SomeOf C) [] piece (Whole taken)
whole_shows A C B piece taken i h a b = record { within = h; whole = text_here A B (take taken piece) i a b }

pub dead_shows : {I : Type 0} (A C B D E F : I → Text → Type 0) (piece : List ℕ) (o : ℕ) (part : Part) (stage : Stage) (i : I) → o < length piece
    → Leads A C B D (take o piece) → IsNext (SomeOf B) [] part → Takes B D E F (get_or piece o 0) judged.Dead stage i → Shows (SomeOf A) (SomeOf C) [] piece (Dead o part)
dead_shows A C B D E F piece o part stage i h a next t =
    record { refused = refused_here A B piece o part h a.within next t.1; anyway = λ c. t.2 ((goes_at C D piece o h a.anyway).0 c) }

pub limit_shows : {I : Type 0} (A C B D E F : I → Text → Type 0) (piece : List ℕ) (o : ℕ) (part : Part) (stage : Stage) (i : I) → o < length piece
    → Leads A C B D (take o piece) → IsNext (SomeOf B) [] part → Takes B D E F (get_or piece o 0) judged.Limit stage i → Shows (SomeOf A) (SomeOf C) [] piece (Limit o part)
limit_shows A C B D E F piece o part stage i h a next t =
    record { refused = refused_here A B piece o part h a.within next t.1; anyway = (goes_at C D piece o h a.anyway).1 t.2 }

-- ---- a piece, and the bytes before it

nothing : (t : Text) → bytes_of t ≡ [] → t ≡ []
nothing [] e = refl
nothing (b ∷ t) e = absurd cc

-- what is a text with no more
thing_at : {I : Type 0} (R A : I → Text → Type 0) (bytes : List ℕ) → IsResidual R bytes (λ i. i) A → (i : I) → IsText (R i) bytes ↔ A i []
thing_at {I} R A bytes at i = (forth, λ a. record { text = at.text; spelled = subst (R i) (append-nil at.text) (at.back i [] a); same = at.same })
  where
    forth : IsText (R i) bytes → A i []
    forth t =
        let p = at.forth i t.text [] t.spelled (t.same ∙ sym (append-nil bytes)) in
        let none : p.rest ≡ [] = nothing p.rest (append_cancel_left bytes (bytes_of p.rest) []
        (ap (λ (x : List ℕ). x ++ bytes_of p.rest) (sym at.same) ∙ sym (bytes_of-append at.text p.rest) ∙ sym (ap bytes_of p.joined) ∙ t.same ∙ sym (append-nil bytes))) in
        subst (λ (j : I). A j []) (sym p.same) (subst (A p.thing) none p.spelled)

pub says_of_all : {I : Type 0} (R S A C : I → Text → Type 0) (bytes piece : List ℕ) → Leads R S A C bytes → SaysOfAll R S A C bytes piece
says_of_all R S A C bytes piece h =
    let within : HasSame (SomeOf R) (SomeOf A) bytes = same_of R bytes (λ i. i) A h.within in
    let anyway : HasSame (SomeOf S) (SomeOf C) bytes = same_of S bytes (λ i. i) C h.anyway in
    record {
      need = goes_on_same (SomeOf R) (SomeOf A) bytes piece within;
      whole = λ taken. ends_same (SomeOf R) (SomeOf A) bytes piece taken within;
      dead = λ offset part. dead_same (SomeOf R) (SomeOf A) (SomeOf S) (SomeOf C) bytes piece offset part within anyway;
      limit = λ offset part. limit_same (SomeOf R) (SomeOf A) (SomeOf S) (SomeOf C) bytes piece offset part within anyway;
      next = λ part. (
        λ n. (within.next [] part).0 (subst (λ (x : List ℕ). IsNext (SomeOf R) x part) (sym (append-nil bytes)) n),
        λ n. subst (λ (x : List ℕ). IsNext (SomeOf R) x part) (append-nil bytes) ((within.next [] part).1 n),
      );
      thing = thing_at R A bytes h.within;
    }
