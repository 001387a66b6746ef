-- Part of a text behind what was read: what may follow there, and what that says of the whole.
use Rattle.std.proofs.Common.{◌≡◌, ◌<◌, ◌≤◌, ◌+◌, ◌⊎◌, ℕ, List, [], ◌∷◌, ◌++◌, length, take, refl, sym, ap, ap₂, subst, ◌∙◌, append_assoc, arith, inl, inr}
use Rattle.std.proofs.lemmas.List.{length-append, length-take}
use Rattle.std.proofs.Math.Seq.{take-append_seam}
use Rattle.std.proofs.lemmas.Bool.{cases_lt}
use Rattle.bh_spec.specs.declared.Part.{Part}
use Rattle.bh_spec.specs.Texts.{Text, bytes_of, ◌then◌}
use Rattle.bh_spec.proofs.Meeting.{meets_front}
use Rattle.bh_spec.proofs.Agreement.{Agree, agree_map}
use Rattle.bh_spec.proofs.Marks.{bytes_of-append}
use Rattle.bh_spec.specs.Pieces.{SomeOf, IsText, CanBecome, IsNext, GoesOn, IsRefused, IsDead, IsLimit}
pub use Rattle.bh_decode.specs.Contexts.{Context}
use Rattle.bh_spec.proofs.Pieces.{IsOnce, next_once, longer}

pub context_here : (M : Text → Type 0) → Context M M [] 0
context_here M = record { into = λ x h. h; out = λ x h. h; next = λ x part h. h; text = λ x n h. h }

pub context_on : (M R S : Text → Type 0) (done more : List ℕ) (m n : ℕ) → m ≤ length more + n → Context M R done m → Context R S more n → Context M S (done ++ more) n
context_on M R S done more m n enough c d = record {
  into = λ x h. subst (CanBecome M) (sym (append_assoc done more x)) (c.into (more ++ x) (d.into x h));
  out = λ x h. d.out x (c.out (more ++ x) (subst (CanBecome M) (append_assoc done more x) h));
  next = λ x part h. subst (λ (y : List ℕ). IsNext M y part) (sym (append_assoc done more x)) (c.next (more ++ x) part (d.next x part h));
  text = λ x long h. d.text x long (c.text (more ++ x) (omega (arith, length-append more x)) (subst (IsText M) (append_assoc done more x) h));
}

-- ---- one of several things, and what follows it

-- some thing, and what may stand behind it
abbrev pub SomeThen : {I : Type 0} → (I → Text → Type 0) → (I → Text → Type 0) → Text → Type 0
SomeThen {I} A S t = (i : I) × (A i then S i) t

-- each text is of one thing, and none begins another
abbrev pub AreOnce : {I : Type 0} → (I → Text → Type 0) → Type 0
AreOnce {I} A = (i j : I) → Agree ⊥ (i ≡ j) (A i) (A j)

pub once_of : {I : Type 0} (A : I → Text → Type 0) → AreOnce A → IsOnce (SomeOf A)
once_of A once t u a b = agree_map ⊥ (a.0 ≡ b.0) (Unit {0}) (A a.0) (A b.0) (λ e. tt) (once a.0 b.0) t u a.1 b.1

-- the parts of a text whose first part is known
record Behind {I : Type 0} (S : I → Text → Type 0) (i : I) (rest : List ℕ) : Type 0 where
  behind : Text
  spelled : S i behind
  same : bytes_of behind ≡ rest

behind : {I : Type 0} (A S : I → Text → Type 0) → AreOnce A → (i : I) (bytes rest : List ℕ) → IsText (A i) bytes → (t : Text) → SomeThen A S t → bytes_of t ≡ bytes ++ rest → Behind S i rest
behind {I} A S once i bytes rest a t h e =
    let u = h.1.0 in
    let v = h.1.1 in
    let all : bytes_of a.text ++ rest ≡ bytes_of u ++ bytes_of v =
    ap (λ (x : List ℕ). x ++ rest) a.same ∙ sym e ∙ ap bytes_of h.1.4 ∙ bytes_of-append u v in
    let one = meets_front (i ≡ h.0) a.text u rest (bytes_of v) (once i h.0 a.text u a.spelled h.1.2) all in
    record { behind = v; spelled = subst (λ (j : I). S j v) (sym one.0) h.1.3; same = sym one.2 }

-- Behind a thing that was read stands what may follow it.
pub context_behind : {I : Type 0} (A S : I → Text → Type 0) → AreOnce A → (i : I) (bytes : List ℕ) → IsText (A i) bytes → Context (SomeThen A S) (S i) bytes 0
context_behind {I} A S once i bytes a = record {
  into = λ x h. record {
    text = a.text ++ h.text;
    after = h.after;
    spelled = (i, (a.text, h.text, a.spelled, h.spelled, refl));
    begins = bytes_of-append a.text h.text ∙ ap₂ (λ (y z : List ℕ). y ++ z) a.same h.begins ∙ sym (append_assoc bytes x h.after);
  };
  out = λ x h.
      let b = behind A S once i bytes (x ++ h.after) a h.text h.spelled (h.begins ∙ append_assoc bytes x h.after) in
      record { text = b.behind; after = h.after; spelled = b.spelled; begins = b.same };
  next = λ x part h. record {
    before = a.text ++ h.before;
    byte = h.byte;
    after = h.after;
    spelled = (i, (a.text, h.before ++ ((part, h.byte) ∷ h.after), a.spelled, h.spelled, append_assoc a.text h.before ((part, h.byte) ∷ h.after)));
    begins = bytes_of-append a.text h.before ∙ ap₂ (λ (y z : List ℕ). y ++ z) a.same h.begins;
  };
  text = λ x n h.
      let b = behind A S once i bytes x a h.text h.spelled h.same in
      record { text = b.behind; spelled = b.spelled; same = b.same };
}

-- two kinds with the same texts
pub context_same : (M R : Text → Type 0) → ((t : Text) → M t → R t) → ((t : Text) → R t → M t) → Context M R [] 0
context_same M R to from = record {
  into = λ x h. record { text = h.text; after = h.after; spelled = from h.text h.spelled; begins = h.begins };
  out = λ x h. record { text = h.text; after = h.after; spelled = to h.text h.spelled; begins = h.begins };
  next = λ x part h. record { before = h.before; byte = h.byte; after = h.after; spelled = from (h.before ++ ((part, h.byte) ∷ h.after)) h.spelled; begins = h.begins };
  text = λ x n h. record { text = h.text; spelled = to h.text h.spelled; same = h.same };
}

-- nothing at all, or a text of R
abbrev pub OrNothing : (Text → Type 0) → Text → Type 0
OrNothing R t = (t ≡ []) ⊎ R t

nothing_before : (t : Text) (x after : List ℕ) → t ≡ [] → bytes_of t ≡ x ++ after → x ≡ []
nothing_before t [] after e h = refl
nothing_before t (b ∷ x) after e h = absurd (let none : bytes_of [] ≡ (b ∷ x) ++ after = sym (ap bytes_of e) ∙ h in cc)

pub context_or_nothing : (R : Text → Type 0) (t : Text) → R t → Context (OrNothing R) R [] 1
context_or_nothing R t r = record {
  into = λ x h. record { text = h.text; after = h.after; spelled = inr h.spelled; begins = h.begins };
  out = λ x h. out x h.text h.after h.spelled h.begins;
  next = λ x part h. record { before = h.before; byte = h.byte; after = h.after; spelled = inr h.spelled; begins = h.begins };
  text = λ x n h. whole x n h.text h.spelled h.same;
}
  where
    out : (x : List ℕ) (u : Text) (after : List ℕ) → OrNothing R u → bytes_of u ≡ x ++ after → CanBecome R x
    out x u after (inl e) h = subst (CanBecome R) (sym (nothing_before u x after e h)) (record { text = t; after = bytes_of t; spelled = r; begins = refl })
    out x u after (inr s) h = record { text = u; after = after; spelled = s; begins = h }

    whole : (x : List ℕ) → 1 ≤ length x → (u : Text) → OrNothing R u → bytes_of u ≡ x → IsText R x
    whole x n u (inl e) h = absurd (omega (arith, ap length h, ap (λ (y : Text). length (bytes_of y)) e))
    whole x n u (inr s) h = record { text = u; spelled = s; same = h }

-- ---- inside a thing

-- something may stand behind each thing
abbrev pub Follows : {I : Type 0} → (I → Text → Type 0) → (I → Text → Type 0) → Type 0
Follows {I} A S = (i : I) (t : Text) → A i t → (u : Text) × S i u

-- a thing that is begun can be completed, and then what follows it
begun_then : {I : Type 0} (A S : I → Text → Type 0) → Follows A S → (x : List ℕ) → CanBecome (SomeOf A) x → CanBecome (SomeThen A S) x
begun_then A S follows x h =
    let i = h.spelled.0 in
    let more = follows i h.text h.spelled.1 in
    record {
      text = h.text ++ more.0;
      after = h.after ++ bytes_of more.0;
      spelled = (i, (h.text, more.0, h.spelled.1, more.1, refl));
      begins = bytes_of-append h.text more.0 ∙ ap (λ (y : List ℕ). y ++ bytes_of more.0) h.begins ∙ append_assoc x h.after (bytes_of more.0);
    }

pub next_then : {I : Type 0} (A S : I → Text → Type 0) → Follows A S → (x : List ℕ) (part : Part) → IsNext (SomeOf A) x part → IsNext (SomeThen A S) x part
next_then A S follows x part h =
    let i = h.spelled.0 in
    let t = h.before ++ ((part, h.byte) ∷ h.after) in
    let more = follows i t h.spelled.1 in
    record {
      before = h.before;
      byte = h.byte;
      after = h.after ++ more.0;
      spelled = (i, (t, more.0, h.spelled.1, more.1, sym (append_assoc h.before ((part, h.byte) ∷ h.after) more.0)));
      begins = h.begins;
    }

-- what begins with some bytes has begun a thing, or has a whole one among them
record HasWhole {I : Type 0} (A : I → Text → Type 0) (x : List ℕ) : Type 0 where
  front : List ℕ
  back : List ℕ
  whole : IsText (SomeOf A) front
  some : 0 < length back
  joined : front ++ back ≡ x

-- of two lists that begin one, the shorter begins the longer
record Shorter (x y : List ℕ) : Type 0 where
  pub back : List ℕ
  joined : x ++ back ≡ y

shorter : (x y a b : List ℕ) → x ++ a ≡ y ++ b → length x ≤ length y → Shorter x y
shorter [] y a b e h = record { back = y; joined = refl }
shorter (c ∷ x) [] a b e h = absurd (omega arith)
shorter (c ∷ x) (d ∷ y) a b e h =
    let head : c ≡ d = cc in
    let tail : x ++ a ≡ y ++ b = cc in
    let s = shorter x y a b tail (omega arith) in
    record { back = s.back; joined = ap₂ (λ (p : ℕ) (q : List ℕ). p ∷ q) head s.joined }

then_begun : {I : Type 0} (A S : I → Text → Type 0) → (x : List ℕ) → CanBecome (SomeThen A S) x → CanBecome (SomeOf A) x ⊎ HasWhole A x
then_begun A S x h =
    let i = h.spelled.0 in
    let u = h.spelled.1.0 in
    let v = h.spelled.1.1 in
    let all : bytes_of u ++ bytes_of v ≡ x ++ h.after = sym (bytes_of-append u v) ∙ sym (ap bytes_of h.spelled.1.4) ∙ h.begins in
    elim (cases_lt (length (bytes_of u)) (length x)) [
      | inl lt ↦
          let s = shorter (bytes_of u) x (bytes_of v) h.after all (omega arith) in
          inr (record {
            front = bytes_of u;
            back = s.back;
            whole = record { text = u; spelled = (i, h.spelled.1.2); same = refl };
            some = omega (arith, ap length s.joined, length-append (bytes_of u) s.back);
            joined = s.joined;
          })
      | inr ge ↦
          let s = shorter x (bytes_of u) h.after (bytes_of v) (sym all) ge in
          inl (record { text = u; after = s.back; spelled = (i, h.spelled.1.2); begins = sym s.joined })
    ]

-- ---- what a reader of a thing says of a text that goes on behind it

-- a piece without its last byte
one_less : (piece : List ℕ) (k : ℕ) (front back : List ℕ) → front ++ back ≡ take (k + 1) piece → 0 < length back → Shorter front (take k piece)
one_less piece k front back e some =
    let l = longer [] piece k (k + 1) (omega arith) in
    let fits : length front ≤ length (take k piece) = omega (
      arith,
      ap length e,
      length-append front back,
      length-take (k + 1) piece,
      length-take k piece,
    ) in
    shorter front (take k piece) back l.more (e ∙ l.same) fits

-- no thing within goes on over a whole one
not_over : {I : Type 0} (A : I → Text → Type 0) → AreOnce A → (piece : List ℕ) (k : ℕ) (part : Part) → IsNext (SomeOf A) (take k piece) part → HasWhole A (take (k + 1) piece) → ⊥
not_over A once piece k part next w =
    let s = one_less piece k w.front w.back w.joined w.some in
    next_once (SomeOf A) (once_of A once) w.front s.back (take k piece) part (sym s.joined) w.whole next

refused_then : {I : Type 0} (A S : I → Text → Type 0) → AreOnce A → Follows A S → (piece : List ℕ) (k : ℕ) (part : Part)
    → IsRefused (SomeOf A) [] piece k part → IsRefused (SomeThen A S) [] piece k part
refused_then A S once follows piece k part h = record {
  inside = h.inside;
  next = next_then A S follows (take k piece) part h.next;
  after = λ c. elim (then_begun A S (take (k + 1) piece) c) [
    | inl begun ↦ h.after begun
    | inr w ↦ not_over A once piece k part h.next w
  ];
}

-- with limits by A and S, without by B and T
pub dead_then : {I : Type 0} (A S B T : I → Text → Type 0) → AreOnce A → AreOnce B → Follows A S → ((i : I) (t : Text) → A i t → B i t) → (piece : List ℕ) (k : ℕ) (part : Part)
    → IsDead (SomeOf A) (SomeOf B) [] piece k part → IsDead (SomeThen A S) (SomeThen B T) [] piece k part
dead_then A S B T once_a once_b follows weaker piece k part h =
    let next : IsNext (SomeOf B) (take k piece) part = record {
      before = h.refused.next.before;
      byte = h.refused.next.byte;
      after = h.refused.next.after;
      spelled = (h.refused.next.spelled.0, weaker h.refused.next.spelled.0 _ h.refused.next.spelled.1);
      begins = h.refused.next.begins;
    } in
    record {
      refused = refused_then A S once_a follows piece k part h.refused;
      anyway = λ c. elim (then_begun B T (take (k + 1) piece) c) [
        | inl begun ↦ h.anyway begun
        | inr w ↦ not_over B once_b piece k part next w
      ];
    }

pub limit_then : {I : Type 0} (A S B T : I → Text → Type 0) → AreOnce A → Follows A S → Follows B T → (piece : List ℕ) (k : ℕ) (part : Part)
    → IsLimit (SomeOf A) (SomeOf B) [] piece k part → IsLimit (SomeThen A S) (SomeThen B T) [] piece k part
limit_then A S B T once follows_a follows_b piece k part h = record {
  refused = refused_then A S once follows_a piece k part h.refused;
  anyway = begun_then B T follows_b (take (k + 1) piece) h.anyway;
}

-- the bytes are all there is, and no thing ends among them
pub unfinished_then : {I : Type 0} (A S : I → Text → Type 0) (piece : List ℕ) → GoesOn (SomeOf A) [] piece → IsText (SomeThen A S) piece → ⊥
unfinished_then A S piece h t =
    let u = t.spelled.1.0 in
    let v = t.spelled.1.1 in
    let all : bytes_of u ++ bytes_of v ≡ piece = sym (bytes_of-append u v) ∙ sym (ap bytes_of t.spelled.1.4) ∙ t.same in
    h.unfinished (length (bytes_of u)) (record {
      within = omega (arith, ap length all, length-append (bytes_of u) (bytes_of v));
      whole = record { text = u; spelled = (t.spelled.0, t.spelled.1.2); same = sym (take-append_seam (bytes_of u) (bytes_of v)) ∙ ap (take (length (bytes_of u))) all };
    })
