-- Texts and their bytes.
use Rattle.std.proofs.Common.{◌≡◌, ℕ, List, [], ◌∷◌, ◌++◌, length, refl, ap, ap₂, ◌∙◌, append_assoc, ◌+◌, arith}
use Rattle.std.proofs.lemmas.List.{length-map, map-append}
use Rattle.bh_spec.specs.declared.Part.{Part}
use Rattle.bh_spec.specs.Texts.{Text, mark, bytes_of, content_in}

pub bytes_of-append : (x y : Text) → bytes_of (x ++ y) ≡ bytes_of x ++ bytes_of y
bytes_of-append x y = map-append (λ (b : Part × ℕ). b.1) x y

pub unmark : (part : Part) (x : List ℕ) → bytes_of (mark part x) ≡ x
unmark part [] = refl
unmark part (b ∷ x) = ap (λ (y : List ℕ). b ∷ y) (unmark part x)

pub marked_bytes : (part : Part) (x : List ℕ) (t : Text) → bytes_of (mark part x ++ t) ≡ x ++ bytes_of t
marked_bytes part x t = bytes_of-append (mark part x) t ∙ ap (λ (y : List ℕ). y ++ bytes_of t) (unmark part x)

pub mark-append : (part : Part) (x y : List ℕ) → mark part (x ++ y) ≡ mark part x ++ mark part y
mark-append part x y = map-append (λ (b : ℕ). let z : Part × ℕ = (part, b) in z) x y

-- a byte moves to the front
pub mark-snoc : (part : Part) (x : List ℕ) (byte : ℕ) (t : Text) → mark part (x ++ byte ∷ []) ++ t ≡ mark part x ++ ((part, byte) ∷ t)
mark-snoc part x byte t =
    ap (λ (y : Text). y ++ t) (mark-append part x (byte ∷ [])) ∙ append_assoc (mark part x) (mark part (byte ∷ [])) t

pub length-mark : (part : Part) (x : List ℕ) → length (mark part x) ≡ length x
length-mark part x = length-map x (λ (b : ℕ). let z : Part × ℕ = (part, b) in z)

-- a text, cut before one of its bytes
pub record Cut (t : Text) (x : List ℕ) (y : ℕ) (ys : List ℕ) : Type 0 where
  pub before : Text
  pub part : Part
  pub after : Text
  pub same : t ≡ before ++ ((part, y) ∷ after)
  pub begins : bytes_of before ≡ x
  pub rest : bytes_of after ≡ ys

cut_later : (a : Part × ℕ) (t : Text) (b : ℕ) (x : List ℕ) (y : ℕ) (ys : List ℕ) → a.1 ≡ b → Cut t x y ys → Cut (a ∷ t) (b ∷ x) y ys
cut_later a t b x y ys e c = record {
  before = a ∷ c.before;
  part = c.part;
  after = c.after;
  same = ap (λ (u : Text). a ∷ u) c.same;
  begins = ap₂ (λ (p : ℕ) (q : List ℕ). p ∷ q) e c.begins;
  rest = c.rest;
}

pub cut : (t : Text) (x : List ℕ) (y : ℕ) (ys : List ℕ) → bytes_of t ≡ x ++ (y ∷ ys) → Cut t x y ys
cut [] [] y ys e = absurd cc
cut [] (b ∷ x) y ys e = absurd cc
cut (a ∷ t) [] y ys e =
    let head : a.1 ≡ y = cc in
    let tail : bytes_of t ≡ ys = cc in
    record { before = []; part = a.0; after = t; same = ap (λ (b : ℕ). let p : Part × ℕ = (a.0, b) in p ∷ t) head; begins = refl; rest = tail }
cut (a ∷ t) (b ∷ x) y ys e =
    let head : a.1 ≡ b = cc in
    let tail : bytes_of t ≡ x ++ (y ∷ ys) = cc in
    cut_later a t b x y ys head (cut t x y ys tail)

pub content-append : (t u : Text) → content_in (t ++ u) ≡ content_in t + content_in u
content-append [] u = omega arith
content-append (x ∷ t) u = omega (arith, content-append t u)
