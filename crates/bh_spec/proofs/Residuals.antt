-- Residuals compose, and what is said over a residual is said over the kind, with the bytes before.
use Rattle.std.proofs.Common.{◌≡◌, ◌+◌, ◌↔◌, ℕ, List, [], ◌∷◌, ◌++◌, take, refl, sym, ap, ap₂, subst, ◌∙◌, append_assoc}
use Rattle.std.proofs.lemmas.List.{append_cancel_left}
use Rattle.bh_spec.specs.declared.Part.{Part}
use Rattle.bh_spec.specs.Texts.{Text, bytes_of}
use Rattle.bh_spec.specs.Pieces.{SomeOf, IsNext, Ends, GoesOn, IsRefused, IsDead, IsLimit}
use Rattle.bh_spec.proofs.Meeting.{Meets}
use Rattle.bh_spec.proofs.Pieces.{IsOnce}
use Rattle.bh_spec.proofs.Marks.{bytes_of-append}
use Rattle.bh_spec.specs.Residuals.{HasRest, IsResidual, IsStep, HasSame}

-- ---- residuals

pub residual_here : {A : Type 0} (R : A → Text → Type 0) → IsResidual R [] (λ a. a) R
residual_here R = record {
  text = [];
  same = refl;
  forth = λ a u more r e. record { thing = a; rest = u; spelled = r; same = refl; joined = refl };
  back = λ b t s. s;
}

-- no byte, and other words
pub residual_same : {A B : Type 0} (R : A → Text → Type 0) (whole : B → A) (S : B → Text → Type 0)
    → ((a : A) (t : Text) → R a t → (b : B) × (a ≡ whole b) × S b t) → ((b : B) (t : Text) → S b t → R (whole b) t) → IsResidual R [] whole S
residual_same R whole S forth back = record {
  text = [];
  same = refl;
  forth = λ a u more r e. let f = forth a u r in record { thing = f.0; rest = u; spelled = f.2; same = f.1; joined = refl };
  back = back;
}

rest_bytes : (front rest u : Text) (bytes more : List ℕ) → u ≡ front ++ rest → bytes_of front ≡ bytes → bytes_of u ≡ bytes ++ more → bytes_of rest ≡ more
rest_bytes front rest u bytes more e f g =
    append_cancel_left bytes (bytes_of rest) more
    (ap (λ (x : List ℕ). x ++ bytes_of rest) (sym f) ∙ sym (bytes_of-append front rest) ∙ sym (ap bytes_of e) ∙ g)

-- one behind the other
pub residual_on : {A B C : Type 0} (R : A → Text → Type 0) (x : List ℕ) (f : B → A) (S : B → Text → Type 0) (y : List ℕ) (g : C → B) (T : C → Text → Type 0)
    → IsResidual R x f S → IsResidual S y g T → IsResidual R (x ++ y) (λ c. f (g c)) T
residual_on {A} {B} {C} R x f S y g T r s = record {
  text = r.text ++ s.text;
  same = bytes_of-append r.text s.text ∙ ap₂ (λ (a b : List ℕ). a ++ b) r.same s.same;
  forth = λ a u more h e.
      let p = r.forth a u (y ++ more) h (e ∙ append_assoc x y more) in
      let q = s.forth p.thing p.rest more p.spelled (rest_bytes r.text p.rest u x (y ++ more) p.joined r.same (e ∙ append_assoc x y more)) in
      record {
        thing = q.thing;
        rest = q.rest;
        spelled = q.spelled;
        same = p.same ∙ ap f q.same;
        joined = p.joined ∙ ap (λ (z : Text). r.text ++ z) q.joined ∙ sym (append_assoc r.text s.text q.rest);
      };
  back = λ c t h. subst (R (f (g c))) (sym (append_assoc r.text s.text t)) (r.back (g c) (s.text ++ t) (s.back c t h));
}

-- where each puts a list in front, both lists are in front
pub behind_items : {A : Type 0} (R S T : List A → Text → Type 0) (x y : List ℕ) (i j : List A) → IsResidual R x (λ q. i ++ q) S
    → IsResidual S y (λ q. j ++ q) T → IsResidual R (x ++ y) (λ q. (i ++ j) ++ q) T
behind_items {A} R S T x y i j a b =
    let both = residual_on R x (λ (q : List A). i ++ q) S y (λ (q : List A). j ++ q) T a b in
    record {
      text = both.text;
      same = both.same;
      forth = λ p t more h e.
          let f = both.forth p t more h e in
          record { thing = f.thing; rest = f.rest; spelled = f.spelled; same = f.same ∙ sym (append_assoc i j f.thing); joined = f.joined };
      back = λ q t h. subst (λ (p : List A). R p (both.text ++ t)) (sym (append_assoc i j q)) (both.back q t h);
    }

-- the same residual, where the bytes are given by an equation
pub residual_bytes : {A B : Type 0} (R : A → Text → Type 0) (x y : List ℕ) (f : B → A) (S : B → Text → Type 0) → x ≡ y → IsResidual R x f S → IsResidual R y f S
residual_bytes R x y f S e h = subst (λ (z : List ℕ). IsResidual R z f S) e h

-- a byte more
step_of : {A B : Type 0} (R : A → Text → Type 0) (part : Part) (byte : ℕ) (f : B → A) (S : B → Text → Type 0) → IsStep R part byte f S
    → (a : A) (u : Text) (more : List ℕ) → R a u → bytes_of u ≡ (byte ∷ []) ++ more → HasRest f S ((part, byte) ∷ []) a u
step_of R part byte f S h a [] more r e = absurd cc
step_of R part byte f S h a ((other, value) ∷ t) more r e =
    let same : value ≡ byte = cc in
    let first : R a ((other, byte) ∷ t) = subst (λ (v : ℕ). R a ((other, v) ∷ t)) same r in
    let named : other ≡ part = h.part_is a other t first in
    let there = h.forth a t (subst (λ (p : Part). R a ((p, byte) ∷ t)) named first) in
    record { thing = there.0; rest = t; spelled = there.2; same = there.1; joined = ap₂ (λ (p : Part) (v : ℕ). let z : Part × ℕ = (p, v) in z ∷ t) named same }

pub residual_step : {A B : Type 0} (R : A → Text → Type 0) (part : Part) (byte : ℕ) (f : B → A) (S : B → Text → Type 0) → IsStep R part byte f S → IsResidual R (byte ∷ []) f S
residual_step R part byte f S h = record { text = (part, byte) ∷ []; same = refl; forth = step_of R part byte f S h; back = h.back }

-- ---- what is said of the bytes

-- the front is the front of both sides
pub front_of : (front before t after : Text) (x : List ℕ) → before ++ after ≡ front ++ t → bytes_of before ≡ bytes_of front ++ x
    → (rest : Text) × (t ≡ rest ++ after) × (bytes_of rest ≡ x)
front_of [] before t after x e f = (before, sym e, f)
front_of (c ∷ front) [] t after x e f = absurd cc
front_of (c ∷ front) (d ∷ before) t after x e f =
    let tail : before ++ after ≡ front ++ t = cc in
    let bytes : bytes_of before ≡ bytes_of front ++ x = cc in
    front_of front before t after x tail bytes

pub same_of : {A B : Type 0} (R : A → Text → Type 0) (bytes : List ℕ) (f : B → A) (S : B → Text → Type 0) → IsResidual R bytes f S → HasSame (SomeOf R) (SomeOf S) bytes
same_of {A} {B} R bytes f S r = record {
  text = λ more. (
    λ h.
        let p = r.forth h.spelled.0 h.text more h.spelled.1 h.same in
        record { text = p.rest; spelled = (p.thing, p.spelled); same = rest_bytes r.text p.rest h.text bytes more p.joined r.same h.same },
    λ h. record {
      text = r.text ++ h.text;
      spelled = (f h.spelled.0, r.back h.spelled.0 h.text h.spelled.1);
      same = bytes_of-append r.text h.text ∙ ap₂ (λ (a b : List ℕ). a ++ b) r.same h.same;
    },
  );
  becomes = λ more. (
    λ h.
        let long : bytes_of h.text ≡ bytes ++ (more ++ h.after) = h.begins ∙ append_assoc bytes more h.after in
        let p = r.forth h.spelled.0 h.text (more ++ h.after) h.spelled.1 long in
        record { text = p.rest; after = h.after; spelled = (p.thing, p.spelled); begins = rest_bytes r.text p.rest h.text bytes (more ++ h.after) p.joined r.same long },
    λ h. record {
      text = r.text ++ h.text;
      after = h.after;
      spelled = (f h.spelled.0, r.back h.spelled.0 h.text h.spelled.1);
      begins = bytes_of-append r.text h.text ∙ ap₂ (λ (a b : List ℕ). a ++ b) r.same h.begins ∙ sym (append_assoc bytes more h.after);
    },
  );
  next = λ more part. (next_forth more part, next_back more part);
}
  where
    next_forth : (more : List ℕ) (part : Part) → IsNext (SomeOf R) (bytes ++ more) part → IsNext (SomeOf S) more part
    next_forth more part h =
        let behind : Text = (part, h.byte) ∷ h.after in
        let u : Text = h.before ++ behind in
        let all : bytes_of u ≡ bytes ++ (more ++ (h.byte ∷ bytes_of h.after)) =
        bytes_of-append h.before behind ∙ ap (λ (x : List ℕ). x ++ (h.byte ∷ bytes_of h.after)) h.begins ∙ append_assoc bytes more (h.byte ∷ bytes_of h.after) in
        let p = r.forth h.spelled.0 u (more ++ (h.byte ∷ bytes_of h.after)) h.spelled.1 all in
        let q = front_of r.text h.before p.rest behind more p.joined (h.begins ∙ ap (λ (x : List ℕ). x ++ more) (sym r.same)) in
        record { before = q.0; byte = h.byte; after = h.after; spelled = (p.thing, subst (S p.thing) {y = q.0 ++ ((part, h.byte) ∷ h.after)} q.1 p.spelled); begins = q.2 }

    next_back : (more : List ℕ) (part : Part) → IsNext (SomeOf S) more part → IsNext (SomeOf R) (bytes ++ more) part
    next_back more part h = record {
      before = r.text ++ h.before;
      byte = h.byte;
      after = h.after;
      spelled = (
        f h.spelled.0,
        subst (R (f h.spelled.0)) (sym (append_assoc r.text h.before ((part, h.byte) ∷ h.after)))
            (r.back h.spelled.0 (h.before ++ ((part, h.byte) ∷ h.after)) h.spelled.1),
      );
      begins = bytes_of-append r.text h.before ∙ ap₂ (λ (a b : List ℕ). a ++ b) r.same h.begins;
    }

-- ---- a piece, with the bytes before it or without

pub ends_same : (R S : Text → Type 0) (bytes piece : List ℕ) (taken : ℕ) → HasSame R S bytes → Ends R bytes piece taken ↔ Ends S [] piece taken
ends_same R S bytes piece taken h = (
  λ e. record { within = e.within; whole = (h.text (take taken piece)).0 e.whole },
  λ e. record { within = e.within; whole = (h.text (take taken piece)).1 e.whole },
)

pub goes_on_same : (R S : Text → Type 0) (bytes piece : List ℕ) → HasSame R S bytes → GoesOn R bytes piece ↔ GoesOn S [] piece
goes_on_same R S bytes piece h = (
  λ g. record { begins = (h.becomes piece).0 g.begins; unfinished = λ taken e. g.unfinished taken ((ends_same R S bytes piece taken h).1 e) },
  λ g. record { begins = (h.becomes piece).1 g.begins; unfinished = λ taken e. g.unfinished taken ((ends_same R S bytes piece taken h).0 e) },
)

pub refused_same : (R S : Text → Type 0) (bytes piece : List ℕ) (offset : ℕ) (part : Part) → HasSame R S bytes → IsRefused R bytes piece offset part ↔ IsRefused S [] piece offset part
refused_same R S bytes piece offset part h = (
  λ r. record { inside = r.inside; next = (h.next (take offset piece) part).0 r.next; after = λ c. r.after ((h.becomes (take (offset + 1) piece)).1 c) },
  λ r. record { inside = r.inside; next = (h.next (take offset piece) part).1 r.next; after = λ c. r.after ((h.becomes (take (offset + 1) piece)).0 c) },
)

pub dead_same : (R S M N : Text → Type 0) (bytes piece : List ℕ) (offset : ℕ) (part : Part) → HasSame R S bytes → HasSame M N bytes
    → IsDead R M bytes piece offset part ↔ IsDead S N [] piece offset part
dead_same R S M N bytes piece offset part h k = (
  λ d. record { refused = (refused_same R S bytes piece offset part h).0 d.refused; anyway = λ c. d.anyway ((k.becomes (take (offset + 1) piece)).1 c) },
  λ d. record { refused = (refused_same R S bytes piece offset part h).1 d.refused; anyway = λ c. d.anyway ((k.becomes (take (offset + 1) piece)).0 c) },
)

pub limit_same : (R S M N : Text → Type 0) (bytes piece : List ℕ) (offset : ℕ) (part : Part) → HasSame R S bytes → HasSame M N bytes
    → IsLimit R M bytes piece offset part ↔ IsLimit S N [] piece offset part
limit_same R S M N bytes piece offset part h k = (
  λ d. record { refused = (refused_same R S bytes piece offset part h).0 d.refused; anyway = (k.becomes (take (offset + 1) piece)).0 d.anyway },
  λ d. record { refused = (refused_same R S bytes piece offset part h).1 d.refused; anyway = (k.becomes (take (offset + 1) piece)).1 d.anyway },
)

-- ---- a residual keeps what is told apart

meets_behind : (X E : Type 0) (front t u : Text) → Meets X E (front ++ t) (front ++ u) → Meets X E t u
meets_behind X E [] t u h = h
meets_behind X E (c ∷ front) t u h = meets_behind X E front t u (h.1 refl)

-- where no text of R begins another, none of the residual does
pub once_behind : {A B : Type 0} (R : A → Text → Type 0) (bytes : List ℕ) (f : B → A) (S : B → Text → Type 0) → IsResidual R bytes f S → IsOnce (SomeOf R) → IsOnce (SomeOf S)
once_behind R bytes f S r once t u a b =
    meets_behind ⊥ (Unit {0}) r.text t u (once (r.text ++ t) (r.text ++ u) (f a.0, r.back a.0 t a.1) (f b.0, r.back b.0 u b.1))
