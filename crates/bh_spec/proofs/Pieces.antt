-- Of what a reader may say of a piece one thing at most holds, where no text of the kind begins another.
use Rattle.std.proofs.Common.{◌≡◌, ◌<◌, ◌≤◌, ◌+◌, inl, inr, ℕ, zero, suc, List, [], ◌∷◌, ◌++◌, length, take, get_or, refl, sym, ap, subst, ◌∙◌, append_assoc, append-nil, add-one, arith}
use Rattle.std.proofs.Math.Seq.{take-suc}
use Rattle.std.proofs.lemmas.List.{length-append, take_all}
use Rattle.std.proofs.lemmas.Bool.{cases_lt}
use Rattle.bh_spec.specs.declared.Part.{Part}
use Rattle.bh_spec.specs.Texts.{Text, bytes_of}
use Rattle.bh_spec.proofs.Meeting.{meets_front, meets_next}
use Rattle.bh_spec.proofs.Agreement.{Agree}
use Rattle.bh_spec.proofs.Marks.{bytes_of-append}
use Rattle.bh_spec.specs.Pieces.{IsText, CanBecome, IsNext, Ends, GoesOn, IsRefused, IsDead, IsLimit}

-- no text of the kind begins another
abbrev pub IsOnce : (Text → Type 0) → Type 0
IsOnce R = Agree ⊥ (Unit {0}) R R

pub front_becomes : (R : Text → Type 0) (front more bytes : List ℕ) → bytes ≡ front ++ more → CanBecome R bytes → CanBecome R front
front_becomes R front more bytes e h = record {
  text = h.text;
  after = more ++ h.after;
  spelled = h.spelled;
  begins = h.begins ∙ ap (λ (x : List ℕ). x ++ h.after) e ∙ append_assoc front more h.after;
}

next_bytes : (R : Text → Type 0) (bytes : List ℕ) (part : Part) (h : IsNext R bytes part)
    → bytes_of (h.before ++ ((part, h.byte) ∷ h.after)) ≡ bytes ++ (h.byte ∷ bytes_of h.after)
next_bytes R bytes part h =
    bytes_of-append h.before ((part, h.byte) ∷ h.after) ∙ ap (λ (x : List ℕ). x ++ (h.byte ∷ bytes_of h.after)) h.begins

pub next_becomes : (R : Text → Type 0) (bytes : List ℕ) (part : Part) → IsNext R bytes part → CanBecome R bytes
next_becomes R bytes part h = record {
  text = h.before ++ ((part, h.byte) ∷ h.after);
  after = h.byte ∷ bytes_of h.after;
  spelled = h.spelled;
  begins = next_bytes R bytes part h;
}

pub text_becomes : (R : Text → Type 0) (bytes : List ℕ) → IsText R bytes → CanBecome R bytes
text_becomes R bytes h = record { text = h.text; after = []; spelled = h.spelled; begins = h.same ∙ sym (append-nil bytes) }

-- a text that begins another is the other
text_once : (R : Text → Type 0) → IsOnce R → (front more bytes : List ℕ) → bytes ≡ front ++ more → IsText R front → IsText R bytes → more ≡ []
text_once R once front more bytes e g h =
    (meets_front (Unit {0}) g.text h.text more [] (once g.text h.text g.spelled h.spelled)
    (ap (λ (x : List ℕ). x ++ more) g.same ∙ sym e ∙ sym h.same ∙ sym (append-nil (bytes_of h.text)))).2

-- behind a text none goes on
pub next_once : (R : Text → Type 0) → IsOnce R → (front more bytes : List ℕ) (part : Part) → bytes ≡ front ++ more → IsText R front → IsNext R bytes part → ⊥
next_once R once front more bytes part e g h =
    let longer = more ++ (h.byte ∷ bytes_of h.after) in
    let all : IsText R (bytes ++ (h.byte ∷ bytes_of h.after)) = record { text = _; spelled = h.spelled; same = next_bytes R bytes part h } in
    let none : longer ≡ [] = text_once R once front longer (bytes ++ (h.byte ∷ bytes_of h.after))
    (ap (λ (x : List ℕ). x ++ (h.byte ∷ bytes_of h.after)) e ∙ append_assoc front more (h.byte ∷ bytes_of h.after)) g all in
    omega (arith, ap length none, length-append more (h.byte ∷ bytes_of h.after))

pub one_next : (E : Type 0) (R S : Text → Type 0) → Agree ⊥ E R S → (bytes : List ℕ) (p q : Part) → IsNext R bytes p → IsNext S bytes q → p ≡ q
one_next E R S agree bytes p q g h =
    meets_next ⊥ E g.before h.before (p, g.byte) (q, h.byte) g.after h.after (agree _ _ g.spelled h.spelled) (g.begins ∙ sym h.begins)

-- the first bytes of a piece, and some more
pub record Longer (bytes piece : List ℕ) (i j : ℕ) : Type 0 where
  pub more : List ℕ
  pub same : bytes ++ take j piece ≡ (bytes ++ take i piece) ++ more
  pub long : j ≤ length piece → length more + i ≡ j

take_more : (piece : List ℕ) (i j : ℕ) → i ≤ j → (more : List ℕ) × (take j piece ≡ take i piece ++ more) × (j ≤ length piece → length more + i ≡ j)
take_more piece zero j h = (take j piece, refl, λ g. omega (arith, long piece j g))
  where
    long : (xs : List ℕ) (n : ℕ) → n ≤ length xs → length (take n xs) ≡ n
    long xs zero g = refl
    long [] (suc n) g = absurd (omega arith)
    long (x ∷ xs) (suc n) g = ap suc (long xs n (omega arith))
take_more [] (suc i) j h = (take j [], refl, λ g. absurd (omega arith))
take_more (x ∷ xs) (suc i) zero h = absurd (omega arith)
take_more (x ∷ xs) (suc i) (suc j) h =
    let r = take_more xs i j (omega arith) in
    (r.0, ap (λ (ys : List ℕ). x ∷ ys) r.1, λ g. omega (arith, r.2 (omega arith)))

pub longer : (bytes piece : List ℕ) (i j : ℕ) → i ≤ j → Longer bytes piece i j
longer bytes piece i j h =
    let r = take_more piece i j h in
    record { more = r.0; same = ap (λ (x : List ℕ). bytes ++ x) r.1 ∙ sym (append_assoc bytes (take i piece) r.0); long = r.2 }

-- ---- two answers

whole_before : (R : Text → Type 0) → IsOnce R → (bytes piece : List ℕ) (i j : ℕ) → i ≤ j → Ends R bytes piece i → Ends R bytes piece j → i ≡ j
whole_before R once bytes piece i j le g h =
    let l = longer bytes piece i j le in
    omega (arith, l.long h.within, ap length (text_once R once (bytes ++ take i piece) l.more (bytes ++ take j piece) l.same g.whole h.whole))

pub whole_whole : (R : Text → Type 0) → IsOnce R → (bytes piece : List ℕ) (i j : ℕ) → Ends R bytes piece i → Ends R bytes piece j → i ≡ j
whole_whole R once bytes piece i j g h =
    elim (cases_lt i j) [
      | inl lt ↦ whole_before R once bytes piece i j (omega arith) g h
      | inr ge ↦ sym (whole_before R once bytes piece j i ge h g)
    ]

pub whole_refused : (R : Text → Type 0) → IsOnce R → (bytes piece : List ℕ) (i j : ℕ) (part : Part) → Ends R bytes piece i → IsRefused R bytes piece j part → ⊥
whole_refused R once bytes piece i j part g h =
    elim (cases_lt j i) [
      | inl lt ↦
          let l = longer bytes piece (j + 1) i (omega arith) in
          h.after (front_becomes R (bytes ++ take (j + 1) piece) l.more (bytes ++ take i piece) l.same (text_becomes R (bytes ++ take i piece) g.whole))
      | inr ge ↦
          let l = longer bytes piece i j ge in
          next_once R once (bytes ++ take i piece) l.more (bytes ++ take j piece) part l.same g.whole h.next
    ]

pub on_refused : (R : Text → Type 0) (bytes piece : List ℕ) (j : ℕ) (part : Part) → GoesOn R bytes piece → IsRefused R bytes piece j part → ⊥
on_refused R bytes piece j part g h =
    let l = longer bytes piece (j + 1) (length piece) (omega (arith, h.inside)) in
    h.after (front_becomes R (bytes ++ take (j + 1) piece) l.more (bytes ++ piece)
    (ap (λ (x : List ℕ). bytes ++ x) (sym (take_all (length piece) piece (omega arith))) ∙ l.same) g.begins)

refused_before : (R : Text → Type 0) (bytes piece : List ℕ) (i j : ℕ) (p q : Part) → i < j → IsRefused R bytes piece i p → IsRefused R bytes piece j q → ⊥
refused_before R bytes piece i j p q lt g h =
    let l = longer bytes piece (i + 1) j (omega arith) in
    g.after (front_becomes R (bytes ++ take (i + 1) piece) l.more (bytes ++ take j piece) l.same (next_becomes R (bytes ++ take j piece) q h.next))

pub refused_refused : (R : Text → Type 0) (bytes piece : List ℕ) (i j : ℕ) (p q : Part) → IsRefused R bytes piece i p → IsRefused R bytes piece j q → i ≡ j
refused_refused R bytes piece i j p q g h =
    elim (cases_lt i j) [
      | inl lt ↦ absurd (refused_before R bytes piece i j p q lt g h)
      | inr ge ↦ elim (cases_lt j i) [
        | inl lt ↦ absurd (refused_before R bytes piece j i q p lt h g)
        | inr le ↦ omega arith
      ]
    ]

pub refused_part : (R : Text → Type 0) → IsOnce R → (bytes piece : List ℕ) (i j : ℕ) (p q : Part) → i ≡ j → IsRefused R bytes piece i p → IsRefused R bytes piece j q → p ≡ q
refused_part R once bytes piece i j p q e g h =
    one_next (Unit {0}) R R once (bytes ++ take j piece) p q (subst (λ (k : ℕ). IsNext R (bytes ++ take k piece) p) e g.next) h.next

pub dead_limit : (R S : Text → Type 0) (bytes piece : List ℕ) (i j : ℕ) (p q : Part) → IsDead R S bytes piece i p → IsLimit R S bytes piece j q → ⊥
dead_limit R S bytes piece i j p q g h =
    let e = refused_refused R bytes piece i j p q g.refused h.refused in
    g.anyway (subst (λ (k : ℕ). CanBecome S (bytes ++ take (k + 1) piece)) (sym e) h.anyway)

-- the bytes up to and with the next one of a piece
pub next_taken : (now bytes piece : List ℕ) (i : ℕ) → now ≡ bytes ++ take i piece → i < length piece → now ++ (get_or piece i 0 ∷ []) ≡ bytes ++ take (i + 1) piece
next_taken now bytes piece i e h =
    ap (λ (x : List ℕ). x ++ (get_or piece i 0 ∷ [])) e
    ∙ append_assoc bytes (take i piece) (get_or piece i 0 ∷ [])
    ∙ ap (λ (x : List ℕ). bytes ++ x) (sym (rw add-one (take-suc piece i 0 h)))

pub all_taken : (now bytes piece : List ℕ) (i : ℕ) → now ≡ bytes ++ take i piece → i ≤ length piece → length piece ≤ i → now ≡ bytes ++ piece
all_taken now bytes piece i e g h =
    let same : i ≡ length piece = omega arith in
    e ∙ ap (λ (k : ℕ). bytes ++ take k piece) same ∙ ap (λ (x : List ℕ). bytes ++ x) (take_all (length piece) piece (omega arith))

-- where a text is longer than the bytes and the piece, none ends among them
pub next_unfinished : (R : Text → Type 0) → IsOnce R → (bytes piece : List ℕ) (part : Part) → IsNext R (bytes ++ piece) part → GoesOn R bytes piece
next_unfinished R once bytes piece part h = record {
  begins = next_becomes R (bytes ++ piece) part h;
  unfinished = λ taken ends.
      let l = longer bytes piece taken (length piece) ends.within in
      next_once R once (bytes ++ take taken piece) l.more (bytes ++ piece) part (ap (λ (x : List ℕ). bytes ++ x) (sym (take_all (length piece) piece (omega arith))) ∙ l.same) ends.whole h;
}

pub refused_at : (R : Text → Type 0) (now next bytes piece : List ℕ) (i : ℕ) (part : Part) → now ≡ bytes ++ take i piece → next ≡ bytes ++ take (i + 1) piece
    → i < length piece → IsNext R now part → (CanBecome R next → ⊥) → IsRefused R bytes piece i part
refused_at R now next bytes piece i part e f h n dead = record {
  inside = h;
  next = subst (λ (x : List ℕ). IsNext R x part) e n;
  after = λ b. dead (subst (CanBecome R) (sym f) b);
}
