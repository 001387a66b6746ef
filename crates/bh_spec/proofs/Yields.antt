-- A reader inside a decoder: what it does to its thing, it does to the message.
use Rattle.std.proofs.Common.{◌≡◌, ◌≤◌, ◌+◌, ℕ, List, [], ◌∷◌, ◌++◌, length, take, refl, sym, ap, ap₂, subst, ◌∙◌, append_assoc, append-nil, inl, inr, arith}
use Rattle.std.proofs.lemmas.List.{length-append, length-take}
use Rattle.std.proofs.Math.Seq.{take-append_seam}
use Rattle.std.proofs.lemmas.Bool.{cases_lt}
use Rattle.bh_spec.specs.declared.Part.{Part}
use Rattle.bh_spec.specs.Texts.{Text, bytes_of}
use Rattle.bh_spec.specs.Pieces.{SomeOf, IsText, CanBecome, IsNext, GoesOn, IsRefused, IsDead, IsLimit}
use Rattle.bh_spec.proofs.Meeting.{meets_front}
use Rattle.bh_spec.proofs.Marks.{bytes_of-append}
use Rattle.bh_spec.proofs.Pieces.{IsOnce, next_once, longer}
use Rattle.bh_spec.specs.Residuals.{HasRest, IsResidual}
use Rattle.bh_spec.specs.Items.{Item}
use Rattle.bh_spec.specs.Yields.{Yields, NoneEndsBefore}
use Rattle.bh_spec.specs.Readers.{Follows}

-- ---- bytes inside the thing

-- of two lists that begin one, the shorter begins the longer
record Shorter (x y : List ℕ) : Type 0 where
  pub back : List ℕ
  pub joined : y ≡ x ++ back

shorter : (x y a b : List ℕ) → x ++ a ≡ y ++ b → length x ≤ length y → Shorter x y
shorter [] y a b e h = record { back = y; joined = refl }
shorter (c ∷ x) [] a b e h = absurd (omega arith)
shorter (c ∷ x) (d ∷ y) a b e h =
    let head : c ≡ d = cc in
    let tail : x ++ a ≡ y ++ b = cc in
    let s = shorter x y a b tail (omega arith) in
    record { back = s.back; joined = ap₂ (λ (p : ℕ) (q : List ℕ). p ∷ q) (sym head) s.joined }

-- the thing has the bytes at its front
thing_long : {I : Type 0} (A : I → Text → Type 0) (x : List ℕ) → NoneEndsBefore A x → (i : I) (t : Text) (b more : List ℕ) → A i t → bytes_of t ++ b ≡ x ++ more
    → (back : List ℕ) × (bytes_of t ≡ x ++ back)
thing_long A x none i t b more a e =
    elim (cases_lt (length (bytes_of t)) (length x)) [
      | inl lt ↦
          let s = shorter (bytes_of t) x b more e (omega arith) in
          let empty : s.back ≡ [] = none i t s.back a s.joined in
          absurd (omega (arith, ap length s.joined, length-append (bytes_of t) s.back, ap length empty))
      | inr ge ↦
          let s = shorter x (bytes_of t) more b (sym e) ge in
          (s.back, s.joined)
    ]

-- what is left of the thing, and what stands behind it, is what is left of both
pub residual_yields : {I : Type 0} (A B : I → Text → Type 0) (gives : I → List Item) (S : I → List Item → Text → Type 0) (x : List ℕ)
    → IsResidual A x (λ i. i) B → NoneEndsBefore A x → IsResidual (Yields A gives S) x (λ q. q) (Yields B gives S)
residual_yields {I} A B gives S x r none = record {
  text = r.text;
  same = r.same;
  forth = forth;
  back = λ q t y. record {
    thing = y.thing;
    text = r.text ++ y.text;
    rest = y.rest;
    more = y.more;
    spelled = r.back y.thing y.text y.spelled;
    behind = y.behind;
    items = y.items;
    joined = ap (λ (z : Text). r.text ++ z) y.joined ∙ sym (append_assoc r.text y.text y.rest);
  };
}
  where
    forth : (q : List Item) (u : Text) (more : List ℕ) → Yields A gives S q u → bytes_of u ≡ x ++ more → HasRest (λ p. p) (Yields B gives S) r.text q u
    forth q u more y e =
        let all : bytes_of y.text ++ bytes_of y.rest ≡ x ++ more = sym (bytes_of-append y.text y.rest) ∙ sym (ap bytes_of y.joined) ∙ e in
        let long = thing_long A x none y.thing y.text (bytes_of y.rest) more y.spelled all in
        let p = r.forth y.thing y.text long.0 y.spelled long.1 in
        record {
          thing = q;
          rest = p.rest ++ y.rest;
          spelled = record {
            thing = p.thing;
            text = p.rest;
            rest = y.rest;
            more = y.more;
            spelled = p.spelled;
            behind = subst (λ (i : I). S i y.more y.rest) p.same y.behind;
            items = y.items ∙ ap (λ (i : I). gives i ++ y.more) p.same;
            joined = refl;
          };
          same = refl;
          joined = y.joined ∙ ap (λ (z : Text). z ++ y.rest) p.joined ∙ append_assoc r.text p.rest y.rest;
        }

-- ---- the thing is whole

-- nothing is left of the thing, and it is this one
abbrev pub IsOver : {I : Type 0} → (I → Text → Type 0) → I → Type 0
IsOver {I} B i = (j : I) (t : Text) → B j t → (j ≡ i) × (t ≡ [])

-- its items are yielded
pub residual_over : {I : Type 0} (B : I → Text → Type 0) (gives : I → List Item) (S : I → List Item → Text → Type 0) (i : I) → IsOver B i → B i []
    → IsResidual (Yields B gives S) [] (λ q. gives i ++ q) (S i)
residual_over {I} B gives S i over b = record {
  text = [];
  same = refl;
  forth = λ q u more y e.
      let o = over y.thing y.text y.spelled in
      record {
        thing = y.more;
        rest = y.rest;
        spelled = subst (λ (j : I). S j y.more y.rest) o.0 y.behind;
        same = y.items ∙ ap (λ (j : I). gives j ++ y.more) o.0;
        joined = y.joined ∙ ap (λ (z : Text). z ++ y.rest) o.1;
      };
  back = λ q t s. record { thing = i; text = []; rest = t; more = q; spelled = b; behind = s; items = refl; joined = refl };
}

-- ---- no thing ends inside the bytes

-- where the thing goes on behind them
pub on_ends : {I : Type 0} (A : I → Text → Type 0) (piece : List ℕ) → GoesOn (SomeOf A) [] piece → NoneEndsBefore A piece
on_ends A piece h i t more a e =
    absurd (h.unfinished (length (bytes_of t)) (record {
      within = omega (arith, ap length e, length-append (bytes_of t) more);
      whole = record { text = t; spelled = (i, a); same = sym (ap (take (length (bytes_of t))) e ∙ take-append_seam (bytes_of t) more) };
    }))

-- a text that begins another is the other
pub text_once : (R : Text → Type 0) → IsOnce R → (front more bytes : List ℕ) → bytes ≡ front ++ more → IsText R front → IsText R bytes → more ≡ []
text_once R once front more bytes e g h =
    (meets_front (Unit {0}) g.text h.text more [] (once g.text h.text g.spelled h.spelled)
    (ap (λ (x : List ℕ). x ++ more) g.same ∙ sym e ∙ sym h.same ∙ sym (append-nil (bytes_of h.text)))).2

-- and where it ends with them
pub end_ends : {I : Type 0} (A : I → Text → Type 0) (x : List ℕ) → IsOnce (SomeOf A) → IsText (SomeOf A) x → NoneEndsBefore A x
end_ends A x once h i t more a e =
    text_once (SomeOf A) once (bytes_of t) more x e (record { text = t; spelled = (i, a); same = refl }) h

-- ---- a byte that is refused

pub begun_then : {I : Type 0} (A : I → Text → Type 0) (gives : I → List Item) (S : I → List Item → Text → Type 0) → Follows A S → (x : List ℕ) → CanBecome (SomeOf A) x
    → CanBecome (SomeOf (Yields A gives S)) x
begun_then A gives S follows x h =
    let i = h.spelled.0 in
    let f = follows i h.text h.spelled.1 in
    record {
      text = h.text ++ f.1;
      after = h.after ++ bytes_of f.1;
      spelled = (gives i ++ f.0, record { thing = i; text = h.text; rest = f.1; more = f.0; spelled = h.spelled.1; behind = f.2; items = refl; joined = refl });
      begins = bytes_of-append h.text f.1 ∙ ap (λ (y : List ℕ). y ++ bytes_of f.1) h.begins ∙ append_assoc x h.after (bytes_of f.1);
    }

pub next_then : {I : Type 0} (A : I → Text → Type 0) (gives : I → List Item) (S : I → List Item → Text → Type 0) → Follows A S → (x : List ℕ) (part : Part) → IsNext (SomeOf A) x part
    → IsNext (SomeOf (Yields A gives S)) x part
next_then A gives S follows x part h =
    let i = h.spelled.0 in
    let t = h.before ++ ((part, h.byte) ∷ h.after) in
    let f = follows i t h.spelled.1 in
    record {
      before = h.before;
      byte = h.byte;
      after = h.after ++ f.1;
      spelled = (
        gives i ++ f.0,
        record {
          thing = i;
          text = t;
          rest = f.1;
          more = f.0;
          spelled = h.spelled.1;
          behind = f.2;
          items = refl;
          joined = sym (append_assoc h.before ((part, h.byte) ∷ h.after) f.1);
        },
      );
      begins = h.begins;
    }

-- what begins with bytes that go on inside a thing, but for the last of them, goes on inside a thing with that one
thing_begun : {I : Type 0} (A : I → Text → Type 0) (gives : I → List Item) (S : I → List Item → Text → Type 0) (x : List ℕ) → NoneEndsBefore A x
    → CanBecome (SomeOf (Yields A gives S)) x → CanBecome (SomeOf A) x
thing_begun A gives S x none h =
    let y = h.spelled.1 in
    let all : bytes_of y.text ++ bytes_of y.rest ≡ x ++ h.after = sym (bytes_of-append y.text y.rest) ∙ sym (ap bytes_of y.joined) ∙ h.begins in
    let long = thing_long A x none y.thing y.text (bytes_of y.rest) h.after y.spelled all in
    record { text = y.text; after = long.0; spelled = (y.thing, y.spelled); begins = long.1 }

-- a text before the next byte would end before a longer one
none_before_next : {I : Type 0} (A : I → Text → Type 0) → IsOnce (SomeOf A) → (piece : List ℕ) (k : ℕ) (part : Part) → IsNext (SomeOf A) (take k piece) part
    → NoneEndsBefore A (take (k + 1) piece)
none_before_next A once piece k part next i t [] a e = refl
none_before_next A once piece k part next i t (b ∷ more) a e =
    let l = longer [] piece k (k + 1) (omega arith) in
    let fits : length (bytes_of t) ≤ length (take k piece) = omega (arith, ap length e, length-append (bytes_of t) (b ∷ more), length-take (k + 1) piece, length-take k piece) in
    let s = shorter (bytes_of t) (take k piece) (b ∷ more) l.more (sym e ∙ l.same) fits in
    absurd (next_once (SomeOf A) once (bytes_of t) s.back (take k piece) part s.joined (record { text = t; spelled = (i, a); same = refl }) next)

refused_then : {I : Type 0} (A : I → Text → Type 0) (gives : I → List Item) (S : I → List Item → Text → Type 0) → IsOnce (SomeOf A) → Follows A S
    → (piece : List ℕ) (k : ℕ) (part : Part) → IsRefused (SomeOf A) [] piece k part → IsRefused (SomeOf (Yields A gives S)) [] piece k part
refused_then A gives S once follows piece k part h = record {
  inside = h.inside;
  next = next_then A gives S follows (take k piece) part h.next;
  after = λ c. h.after (thing_begun A gives S (take (k + 1) piece) (none_before_next A once piece k part h.next) c);
}

-- within the limits by A and S, without by B and T
pub dead_then : {I : Type 0} (A B : I → Text → Type 0) (gives : I → List Item) (S T : I → List Item → Text → Type 0) → IsOnce (SomeOf A) → IsOnce (SomeOf B) → Follows A S
    → ((i : I) (t : Text) → A i t → B i t) → (piece : List ℕ) (k : ℕ) (part : Part)
    → IsDead (SomeOf A) (SomeOf B) [] piece k part → IsDead (SomeOf (Yields A gives S)) (SomeOf (Yields B gives T)) [] piece k part
dead_then A B gives S T once_a once_b follows weaker piece k part h =
    let n = h.refused.next in
    let next : IsNext (SomeOf B) (take k piece) part = record {
      before = n.before;
      byte = n.byte;
      after = n.after;
      spelled = (n.spelled.0, weaker n.spelled.0 (n.before ++ ((part, n.byte) ∷ n.after)) n.spelled.1);
      begins = n.begins;
    } in
    record {
      refused = refused_then A gives S once_a follows piece k part h.refused;
      anyway = λ c. h.anyway (thing_begun B gives T (take (k + 1) piece) (none_before_next B once_b piece k part next) c);
    }

pub limit_then : {I : Type 0} (A B : I → Text → Type 0) (gives : I → List Item) (S T : I → List Item → Text → Type 0) → IsOnce (SomeOf A) → Follows A S → Follows B T
    → (piece : List ℕ) (k : ℕ) (part : Part)
    → IsLimit (SomeOf A) (SomeOf B) [] piece k part → IsLimit (SomeOf (Yields A gives S)) (SomeOf (Yields B gives T)) [] piece k part
limit_then A B gives S T once follows_a follows_b piece k part h = record {
  refused = refused_then A gives S once follows_a piece k part h.refused;
  anyway = begun_then B gives T follows_b (take (k + 1) piece) h.anyway;
}
