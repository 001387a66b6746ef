-- Where bytes are cut at the first byte of a value.
use Rattle.std.proofs.Math.Seq.{take-append_seam}
use Rattle.std.proofs.Common.{refl, sym, ap, subst, ◌≡◌, ◌≢◌, ◌∙◌, ◌<◌, ◌≤◌, ℕ, take, List, [], ◌∷◌, ◌++◌, length, get_or, append_assoc}
use Rattle.std.specs.Prelude.{All, IsTrue, codes}
use Rattle.std.proofs.lemmas.List.Elements.{All-head, All-tail, All-from_get_or}
use Rattle.bh_spec.specs.Bytes.{AreBytes, is_text_value}
use Rattle.bh_spec.specs.Messages.{IsToken}
use Rattle.h1_spec.specs.Grammar.{crlf}
use Rattle.h1_spec.specs.Heads.{is_target, IsRawTarget, request_line, status_line, three_digits, IsStartLine}
use Rattle.h1_spec.proofs.Fronts.{fails, cut_at}
use Rattle.h1_spec.proofs.HeadTexts.{token_lacks}
use Rattle.h1_head.specs.Cuts.{Lacks}

pub all_bytes : (xs : List ℕ) → ((i : ℕ) → get_or xs i 0 < 256) → AreBytes xs
all_bytes xs h = All-from_get_or (λ n. n < 256) xs 0 (λ i lt. h i)

pub cut_none : (b : ℕ) (xs x y : List ℕ) → Lacks b xs → xs ≡ x ++ (b ∷ y) → ⊥
cut_none b [] [] y h e = absurd (cc)
cut_none b [] (a ∷ x) y h e = absurd (cc)
cut_none b (c ∷ xs) [] y h e = All-head (λ n. n ≢ b) c xs h (cc)
cut_none b (c ∷ xs) (a ∷ x) y h e = cut_none b xs x y (All-tail (λ n. n ≢ b) c xs h) (cc)

-- bytes that begin with a front
pub front_of : (bytes front rest : List ℕ) → bytes ≡ front ++ rest → take (length front) bytes ≡ front
front_of bytes front rest e = ap (take (length front)) e ∙ take-append_seam front rest

-- a request line has its parts between its first two spaces
pub parts_once : (line method rest target version m t : List ℕ) → Lacks 32 method → line ≡ method ++ (32 ∷ rest)
    → Lacks 32 target → rest ≡ target ++ (32 ∷ version) → IsStartLine (request_line m t) line
    → IsToken method × IsRawTarget target × (version ≡ codes "HTTP/1.1")
parts_once line method rest target version m t no_space whole no_space_then whole_then h =
    let first = cut_at 32 m method (t ++ codes " HTTP/1.1") rest (token_lacks 32 m refl h.0) no_space (sym h.2 ∙ whole) in
    let second = cut_at 32 t target (codes "HTTP/1.1") version (fails is_target 32 t refl h.1.each) no_space_then (first.1 ∙ whole_then) in
    (subst IsToken first.0 h.0, subst IsRawTarget second.0 h.1, sym second.1)

-- and has two spaces
pub no_first_space : (line m t : List ℕ) → Lacks 32 line → IsStartLine (request_line m t) line → ⊥
no_first_space line m t h r = cut_none 32 line m (t ++ codes " HTTP/1.1") h r.2

pub no_second_space : (line method rest m t : List ℕ) → Lacks 32 method → line ≡ method ++ (32 ∷ rest) → Lacks 32 rest
    → IsStartLine (request_line m t) line → ⊥
no_second_space line method rest m t no_space whole none h =
    let first = cut_at 32 m method (t ++ codes " HTTP/1.1") rest (token_lacks 32 m refl h.0) no_space (sym h.2 ∙ whole) in
    cut_none 32 rest t (codes "HTTP/1.1") none (sym first.1)

-- the two ways that a first line is not there
pub no_return : (bytes line rest : List ℕ) → Lacks 13 bytes → bytes ≡ (line ++ crlf) ++ rest → ⊥
no_return bytes line rest h e = cut_none 13 bytes line (10 ∷ rest) h (e ∙ append_assoc line crlf rest)

pub no_feed : (bytes front back line rest : List ℕ) → Lacks 13 front → bytes ≡ front ++ (13 ∷ back)
    → ((more : List ℕ) → back ≡ 10 ∷ more → ⊥) → Lacks 13 line → bytes ≡ (line ++ crlf) ++ rest → ⊥
no_feed bytes front back line rest h whole other g e =
    other rest (sym (cut_at 13 line front (10 ∷ rest) back g h (sym (append_assoc line crlf rest) ∙ sym e ∙ whole)).1)

pub line_cut : (bytes front back rest : List ℕ) → bytes ≡ front ++ (13 ∷ back) → back ≡ 10 ∷ rest → bytes ≡ (front ++ crlf) ++ rest
line_cut bytes front back rest whole e = whole ∙ ap (λ (t : List ℕ). front ++ (13 ∷ t)) e ∙ sym (append_assoc front crlf rest)

-- the parts of a status line
pub status_line_of : (line rest reason : List ℕ) (a b c status : ℕ) → line ≡ codes "HTTP/1.1 " ++ rest → rest ≡ a ∷ b ∷ c ∷ 32 ∷ reason
    → three_digits status ≡ a ∷ b ∷ c ∷ [] → (100 ≤ status) × (status ≤ 599) → All (λ byte. IsTrue (is_text_value byte)) reason
    → IsStartLine (status_line status) line
status_line_of line rest reason a b c status whole cut digits range text = (
  range.0,
  range.1,
  (reason, text, whole ∙ ap (λ (t : List ℕ). codes "HTTP/1.1 " ++ t) (cut ∙ ap (λ (t : List ℕ). t ++ (32 ∷ reason)) (sym digits))),
)
