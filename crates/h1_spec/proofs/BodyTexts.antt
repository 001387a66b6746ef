-- Bodies have one content and one trailer section.
use Rattle.std.proofs.Common.{◌≡◌, ◌⊎◌, ◌<◌, true, false, ◌||◌, nat_eq, arith, ℕ, List, [], ◌∷◌, ◌++◌, length, IsTrue, refl, sym, ap, ap₂, subst, ◌∙◌, append_assoc, inl, inr}
use Rattle.std.specs.List.{concat}
use Rattle.std.specs.Str.Parse.{digits_value}
use Rattle.std.proofs.lemmas.Bool.{false≢true, or_cases, eqb-true}
use Rattle.std.proofs.lemmas.List.Elements.{All-nil, All-head, All-cons, All-append}
use Rattle.bh_spec.specs.Bounds.{Bounds}
use Rattle.bh_spec.specs.Bytes.{is_text_value, is_blank}
use Rattle.bh_spec.specs.Messages.{Field}
use Rattle.h1_spec.specs.declared.Framing1.{Framing1}
use Rattle.h1_spec.specs.declared.Framing1.TheVariants.{Empty, Counted, Chunked, ToEnd}
use Rattle.bh_spec.specs.Texts.{◌then◌}
use Rattle.h1_spec.specs.Grammar.{Is, crlf, Line}
use Rattle.h1_spec.specs.Heads.{AreBlank}
use Rattle.h1_spec.specs.Bodies.{is_hex, IsExtension, IsSize, IsChunkLine, IsChunk, IsTrailerSection, IsChunked, IsBody}
use Rattle.h1_spec.specs.Laws.{OneBody}
use Rattle.h1_spec.proofs.Fronts.{Front, Same, front_map, front_is, front_then, front_same, front_each, Lacks, fails, Stops, run_cut, front_line}
use Rattle.h1_spec.proofs.HeadTexts.{section_front}

extension_no_hex : (x : List ℕ) → IsExtension x → Stops is_hex x
extension_no_hex x (inl n) c rest e h = absurd cc
extension_no_hex x (inr t) c rest e h =
    let same : 59 ≡ c = cc in
    false≢true (subst (λ (z : ℕ). IsTrue (is_hex z)) (sym same) h)

pub blank_hex : (a : ℕ) → IsTrue (is_blank a) → IsTrue (is_hex a) → ⊥
blank_hex a h t = by_cases (or_cases (nat_eq a 32) (nat_eq a 9 || false) h)
  where
    nine : (nat_eq a 9 ≡ true) ⊎ (false ≡ true) → ⊥
    nine (inl e) = false≢true (subst (λ (z : ℕ). IsTrue (is_hex z)) (eqb-true a 9 e) t)
    nine (inr e) = false≢true e

    by_cases : (nat_eq a 32 ≡ true) ⊎ ((nat_eq a 9 || false) ≡ true) → ⊥
    by_cases (inl e) = false≢true (subst (λ (z : ℕ). IsTrue (is_hex z)) (eqb-true a 32 e) t)
    by_cases (inr e) = nine (or_cases (nat_eq a 9) false e)

blank_no_hex : (b x : List ℕ) → AreBlank b → Stops is_hex x → Stops is_hex (b ++ x)
blank_no_hex [] x h k = k
blank_no_hex (a ∷ b) x h k = λ c rest e t.
    let same : c ≡ a = cc in
    blank_hex a (All-head (λ z. IsTrue (is_blank z)) a b h) (subst (λ (z : ℕ). IsTrue (is_hex z)) same t)

-- A line has one size, however many digits it may have.
pub size_same : (j k m n : ℕ) → Same (m ≡ n) (IsSize j m) (IsSize k n)
size_same j k m n x y p q e =
    sym p.value ∙ ap (digits_value 16) (run_cut is_hex p.digits q.digits (p.blanks ++ p.extension) (q.blanks ++ q.extension) p.each q.each
    (blank_no_hex p.blanks p.extension p.blank (extension_no_hex p.extension p.read_over))
    (blank_no_hex q.blanks q.extension q.blank (extension_no_hex q.extension q.read_over)) (sym p.written ∙ e ∙ q.written)).0 ∙ q.value

extension_lacks : (x : List ℕ) → IsExtension x → Lacks 13 x
extension_lacks x (inl n) = subst (Lacks 13) (sym n) (All-nil (λ b. b ≡ 13 → ⊥))
extension_lacks x (inr t) = subst (Lacks 13) (sym t.1) (All-cons (λ b. b ≡ 13 → ⊥) 59 t.0 (λ (e : 59 ≡ 13). omega arith) (fails is_text_value 13 t.0 refl t.2))

pub size_lacks : (j m : ℕ) (x : List ℕ) → IsSize j m x → Lacks 13 x
size_lacks j m x h =
    subst (Lacks 13) (sym h.written)
    (All-append (λ b. b ≡ 13 → ⊥) h.digits (h.blanks ++ h.extension) (fails is_hex 13 h.digits refl h.each)
    (All-append (λ b. b ≡ 13 → ⊥) h.blanks h.extension (fails is_blank 13 h.blanks refl h.blank) (extension_lacks h.extension h.read_over)))

pub size_front : (j k m n : ℕ) → Front (m ≡ n) (Line (IsSize j m)) (Line (IsSize k n))
size_front j k m n = front_line (m ≡ n) (IsSize j m) (IsSize k n) (size_lacks j m) (size_lacks k n) (size_same j k m n)

pub chunk_line_front : (m n : ℕ) → Front (m ≡ n) (IsChunkLine m) (IsChunkLine n)
chunk_line_front m n x y r s p q = size_front 15 15 m n x y r s p.1 q.1

-- so many bytes
run_front : (a b : List ℕ) → length a ≡ length b → Front (a ≡ b) (Is a) (Is b)
run_front a b n x y r s p q e = equal a b r s n (sym (ap (λ (z : List ℕ). z ++ r) p) ∙ e ∙ ap (λ (z : List ℕ). z ++ s) q)
  where
    equal : (a b r s : List ℕ) → length a ≡ length b → a ++ r ≡ b ++ s → (a ≡ b) × (r ≡ s)
    equal [] [] r s n e = (refl, e)
    equal [] (c ∷ b) r s n e = absurd cc
    equal (c ∷ a) [] r s n e = absurd cc
    equal (c ∷ a) (d ∷ b) r s n e =
        let fewer : length a ≡ length b = cc in
        let tail : a ++ r ≡ b ++ s = cc in
        let more = equal a b r s fewer tail in
        let head : c ≡ d = cc in
        (ap₂ (λ (z : ℕ) (v : List ℕ). z ∷ v) head more.0, more.1)

pub chunk_front : (a b : List ℕ) → Front (a ≡ b) (IsChunk a) (IsChunk b)
chunk_front a b =
    front_then (length a ≡ length b) (a ≡ b) (IsChunkLine (length a)) (Is a then Is crlf) (IsChunkLine (length b)) (Is b then Is crlf)
    (chunk_line_front (length a) (length b))
    (λ n. front_then (a ≡ b) (a ≡ b) (Is a) (Is crlf) (Is b) (Is crlf) (run_front a b n)
    (λ e. front_map (Unit {0}) (a ≡ b) (Is crlf) (Is crlf) (λ u. e) (front_is crlf)))

abbrev IsSome : List ℕ → Type 0
IsSome chunk = 0 < length chunk

-- a chunk is no last line
pub chunk_apart : (a : List ℕ) → IsSome a → (x y r : List ℕ) (S : List ℕ → Type 0) → IsChunk a x → (IsChunkLine 0 then S) y → x ++ r ≡ y → ⊥
chunk_apart a n x y r S p q e =
    let both = chunk_line_front (length a) 0 p.0 q.0 (p.1 ++ r) q.1 p.2 q.2
    (sym (append_assoc p.0 p.1 r) ∙ ap (λ (z : List ℕ). z ++ r) (sym p.4) ∙ e ∙ q.4) in
    omega (arith, both.0, n)

trailers_front : (K L : Bounds) (fs gs : List Field) → Front (fs ≡ gs) (IsTrailerSection K fs) (IsTrailerSection L gs)
trailers_front K L fs gs x y r s p q = section_front fs gs x y r s p.1 q.1

last_front : (K L : Bounds) (fs gs : List Field) → Front (fs ≡ gs) (IsChunkLine 0 then IsTrailerSection K fs) (IsChunkLine 0 then IsTrailerSection L gs)
last_front K L fs gs =
    front_then (◌≡◌ {A = ℕ} 0 0) (fs ≡ gs) (IsChunkLine 0) (IsTrailerSection K fs) (IsChunkLine 0) (IsTrailerSection L gs)
    (chunk_line_front 0 0) (λ e. trailers_front K L fs gs)

pub chunked_front : (K L : Bounds) (c d : List ℕ) (fs gs : List Field) → Front ((c ≡ d) × (fs ≡ gs)) (IsChunked K c fs) (IsChunked L d gs)
chunked_front K L c d fs gs x y r s p q e =
    let both = front_each (fs ≡ gs) IsSome IsChunk IsChunk (IsChunkLine 0 then IsTrailerSection K fs) (IsChunkLine 0 then IsTrailerSection L gs)
    (record {
      items = λ a b m n. chunk_front a b;
      ends = last_front K L fs gs;
      left = λ a n v w t u f g h. chunk_apart a n v (w ++ u) t (λ z. (z' : List ℕ) × IsTrailerSection L gs z' × (z ≡ z' ++ u)) f (g.0, g.1 ++ u, g.2, (g.1, g.3, refl), ap (λ (z : List ℕ). z ++ u) g.4 ∙ append_assoc g.0 g.1 u) h;
      right = λ b n v w t u f g h. chunk_apart b n w (v ++ t) u (λ z. (z' : List ℕ) × IsTrailerSection K fs z' × (z ≡ z' ++ t)) g (f.0, f.1 ++ t, f.2, (f.1, f.3, refl), ap (λ (z : List ℕ). z ++ t) f.4 ∙ append_assoc f.0 f.1 t) (sym h);
    })
    p.0 q.0 p.2 q.2 x y r s p.3 q.3 e in
    ((sym p.1 ∙ ap concat both.0.0 ∙ q.1, both.0.1), both.1)

pub body_same : (K L : Bounds) (f : Framing1) (c d : List ℕ) (fs gs : List Field) → Same ((c ≡ d) × (fs ≡ gs)) (IsBody K f c fs) (IsBody L f d gs)
body_same K L Empty c d fs gs x y p q e = (p.0 ∙ sym q.0, p.1 ∙ sym q.1)
body_same K L (Counted n) c d fs gs x y p q e = (sym p.2 ∙ e ∙ q.2, p.1 ∙ sym q.1)
body_same K L Chunked c d fs gs x y p q e = front_same ((c ≡ d) × (fs ≡ gs)) (IsChunked K c fs) (IsChunked L d gs) (chunked_front K L c d fs gs) x y p q e
body_same K L ToEnd c d fs gs x y p q e = (sym p.1 ∙ e ∙ q.1, p.0 ∙ sym q.0)

pub one_body : OneBody
one_body K L f x y fs gs bytes p q = body_same K L f x y fs gs bytes bytes p q refl
