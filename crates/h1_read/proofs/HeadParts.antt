-- Heads and the bytes behind them: where the first ends.
use Rattle.std.proofs.Common.{◌≡◌, ℕ, List, [], ◌∷◌, ◌++◌, length, sym, ap, subst, ◌∙◌, append_assoc, append-nil}
use Rattle.bh_spec.specs.Bounds.{Bounds}
use Rattle.bh_spec.specs.Messages.{Interim}
use Rattle.bh_spec.specs.Texts.{Text, bytes_of, ◌then◌, AreEach}
use Rattle.bh_spec.proofs.Marks.{bytes_of-append}
use Rattle.h1_spec.specs.Heads.{Head, EndsAt}
use Rattle.h1_spec.specs.Http1.{IsHeadWithin, IsInterimHead}
use Rattle.h1_spec.specs.Marks.{as_framing}
use Rattle.h1_spec.proofs.Ends.{head_ends}
use Rattle.h1_spec.proofs.BodyMarks.{framing_bytes, framing-append}

pub heads_bytes : (heads : List ℕ) (body u : Text) → u ≡ as_framing heads ++ body → bytes_of u ≡ heads ++ bytes_of body
heads_bytes heads body u e = ap bytes_of e ∙ bytes_of-append (as_framing heads) body ∙ ap (λ (l : List ℕ). l ++ bytes_of body) (framing_bytes heads)

pub nil_front : (x a b : List ℕ) → a ≡ [] → x ≡ a ++ b → b ≡ x
nil_front x a b n e = sym (e ∙ ap (λ (z : List ℕ). z ++ b) n)

pub first_part : (x a b p q : List ℕ) → x ≡ a ++ b → a ≡ p ++ q → x ≡ p ++ (q ++ b)
first_part x a b p q e f = e ∙ ap (λ (z : List ℕ). z ++ b) f ∙ append_assoc p q b

pub some_end : (L : Bounds) (is : List Interim) (head : Head) (bytes : List ℕ) → (AreEach (IsInterimHead L) is then IsHeadWithin L head) bytes
    → (many : ℕ) × EndsAt bytes many
some_end L [] head bytes h =
    (length h.1, subst (λ (z : List ℕ). EndsAt z (length h.1)) (append-nil h.1 ∙ nil_front bytes h.0 h.1 h.2 h.4) (head_ends head h.1 [] h.3.1))
some_end L (i ∷ is) head bytes h =
    let first = h.2 in
    let interim = first.2 in (
      length first.0,
      subst (λ (z : List ℕ). EndsAt z (length first.0)) (sym (first_part bytes h.0 h.1 first.0 first.1 h.4 first.4))
          (head_ends interim.head first.0 (first.1 ++ h.1) interim.text.1),
    )

pub framing_split : (x y : List ℕ) (body : Text) → as_framing (x ++ y) ++ body ≡ as_framing x ++ (as_framing y ++ body)
framing_split x y body = ap (λ (t : Text). t ++ body) (framing-append x y) ∙ append_assoc (as_framing x) (as_framing y) body
