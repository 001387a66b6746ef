-- Where a head ends among bytes that come in pieces.
use Rattle.std.proofs.Math.Seq.{take-append_seam, drop-append_seam}
use Rattle.std.proofs.Common.{arith, refl, sym, ap, subst, ◌≡◌, ◌≢◌, ◌∙◌, ◌<◌, ◌≤◌, ◌+◌, ◌-◌, ℕ, zero, suc, true, eqb, List, [], ◌∷◌, ◌++◌, length, take, drop, append_assoc, append-nil, length-append, inl, inr}
use Rattle.std.specs.List.{ends_with}
use Rattle.std.specs.Cmp.Lexicographic.{same_text, bytes_decides}
use Rattle.std.proofs.lemmas.Bool.{cases_lt}
use Rattle.std.proofs.lemmas.List.{take-append-le, take-append-drop, take_all, length-take, length-take-le}
use Rattle.std.proofs.lemmas.List.Elements.{All-head, All-tail}
use Rattle.h1_spec.specs.Grammar.{crlf}
use Rattle.h1_spec.specs.Heads.{EndsBlank, EndsAt}
use Rattle.h1_head.specs.Cuts.{Lacks}
use Rattle.h1_spec.specs.Heads.{HoldsNoEnd}
use Rattle.h1_head.specs.Ends.{IsOpen, IsWhole, IsPast}

last_same : (x y : List ℕ) (a b : ℕ) → x ++ a ∷ [] ≡ y ++ b ∷ [] → a ≡ b
last_same [] [] a b e = cc
last_same [] (d ∷ []) a b e = absurd (cc)
last_same [] (d ∷ f ∷ y) a b e = absurd (cc)
last_same (c ∷ []) [] a b e = absurd (cc)
last_same (c ∷ g ∷ x) [] a b e = absurd (cc)
last_same (c ∷ x) (d ∷ y) a b e = last_same x y a b cc

abbrev blank : List ℕ
blank = crlf ++ crlf

whole_bytes : (n : ℕ) (xs : List ℕ) → xs ≡ take n xs ++ drop n xs
whole_bytes n xs = sym (take-append-drop n xs)

pub ends_there : (bytes : List ℕ) → ends_with eqb bytes blank ≡ true → EndsBlank bytes
ends_there bytes h =
    let n : ℕ = length bytes - 4 in
    (take n bytes, whole_bytes n bytes ∙ ap (λ (t : List ℕ). take n bytes ++ t) (sym (same_text blank (drop n bytes) (sym h))))

pub ends_back : (bytes : List ℕ) → EndsBlank bytes → ends_with eqb bytes blank ≡ true
ends_back bytes h =
    let long : length bytes ≡ length (h.0 ++ blank) = ap length h.1 in
    let parts = length-append h.0 blank in
    let place : length bytes - 4 ≡ length h.0 = omega arith in
    let tail : drop (length bytes - 4) bytes ≡ blank =
    ap (λ (n : ℕ). drop n bytes) place ∙ ap (drop (length h.0)) h.1 ∙ drop-append_seam h.0 blank in
    (bytes_decides blank (drop (length bytes - 4) bytes)).1 (sym tail)

-- one more byte
pub no_end_more : (seen : List ℕ) (byte : ℕ) → HoldsNoEnd seen → (EndsBlank (seen ++ byte ∷ []) → ⊥) → HoldsNoEnd (seen ++ byte ∷ [])
no_end_more seen byte none last many h =
    elim (cases_lt (length seen) many) [
      | inl past ↦ last (subst EndsBlank (take_all many (seen ++ byte ∷ []) (let e = length-append seen (byte ∷ []) in omega arith)) h)
      | inr before ↦ none many (subst EndsBlank (take-append-le many seen (byte ∷ []) before) h)
    ]

-- a head that ends within some bytes ends there whatever follows
ends_more : (xs ys : List ℕ) (many : ℕ) → EndsAt xs many → EndsAt (xs ++ ys) many
ends_more xs ys many h =
    let long = length-append xs ys in
    record {
      within = let w = h.within in omega arith;
      ends = subst EndsBlank (sym (take-append-le many xs ys h.within)) h.ends;
      first = λ fewer less e. h.first fewer less (subst EndsBlank (take-append-le fewer xs ys (let w = h.within in omega arith)) e);
    }

-- a byte that isn't LF ends nothing
no_feed_end : (seen : List ℕ) (byte : ℕ) → (byte ≡ 10 → ⊥) → EndsBlank (seen ++ byte ∷ []) → ⊥
no_feed_end seen byte other h =
    let split : seen ++ byte ∷ [] ≡ (h.0 ++ (13 ∷ 10 ∷ 13 ∷ [])) ++ 10 ∷ [] = h.1 ∙ sym (append_assoc h.0 (13 ∷ 10 ∷ 13 ∷ []) (10 ∷ [])) in
    other (last_same seen (h.0 ++ (13 ∷ 10 ∷ 13 ∷ [])) byte 10 split)

-- nor do bytes among which there is no LF
pub no_end_run : (seen run : List ℕ) → HoldsNoEnd seen → Lacks 10 run → HoldsNoEnd (seen ++ run)
no_end_run seen [] none lacks = subst HoldsNoEnd (sym (append-nil seen)) none
no_end_run seen (b ∷ run) none lacks =
    subst HoldsNoEnd (append_assoc seen (b ∷ []) run)
    (no_end_run (seen ++ b ∷ []) run
    (no_end_more seen b none (no_feed_end seen b (All-head (λ n. n ≢ 10) b run lacks)))
    (All-tail (λ n. n ≢ 10) b run lacks))

-- Of the piece some bytes were seen, and the rest not yet.
pub record Seen (old piece seen rest : List ℕ) : Type 0 where
  pub done : List ℕ
  pub split : piece ≡ done ++ rest
  pub is : seen ≡ old ++ done

pub none_seen : (old piece : List ℕ) → Seen old piece old piece
none_seen old piece = record { done = []; split = refl; is = sym (append-nil old) }

-- one line more
pub line_seen : (old piece seen rest line more next : List ℕ) → rest ≡ line ++ (10 ∷ more) → next ≡ seen ++ (line ++ 10 ∷ [])
    → Seen old piece seen rest → Seen old piece next more
line_seen old piece seen rest line more next cut e h = record {
  done = h.done ++ (line ++ 10 ∷ []);
  split = h.split ∙ ap (λ (t : List ℕ). h.done ++ t) (cut ∙ sym (append_assoc line (10 ∷ []) more)) ∙ sym (append_assoc h.done (line ++ 10 ∷ []) more);
  is = e ∙ ap (λ (t : List ℕ). t ++ (line ++ 10 ∷ [])) h.is ∙ append_assoc old h.done (line ++ 10 ∷ []);
}

pub rest_seen : (old piece seen rest next : List ℕ) → next ≡ seen ++ rest → Seen old piece seen rest → next ≡ old ++ piece
rest_seen old piece seen rest next e h =
    e ∙ ap (λ (t : List ℕ). t ++ rest) h.is ∙ append_assoc old h.done rest ∙ ap (λ (t : List ℕ). old ++ t) (sym h.split)

pub short_seen : (old piece seen rest : List ℕ) → Seen old piece seen rest → length rest ≤ length piece
short_seen old piece seen rest h = omega (arith, ap (length {A = ℕ}) h.split, length-append h.done rest)

pub front_seen : (old piece seen rest : List ℕ) → Seen old piece seen rest → seen ≡ old ++ take (length piece - length rest) piece
front_seen old piece seen rest h =
    let many : length piece - length rest ≡ length h.done = omega (arith, ap (length {A = ℕ}) h.split, length-append h.done rest) in
    h.is ∙ ap (λ (t : List ℕ). old ++ t) (sym (ap (λ (n : ℕ). take n piece) many ∙ ap (take (length h.done)) h.split ∙ take-append_seam h.done rest))

-- where none ends behind the line, none is held
pub line_open : (seen line next : List ℕ) → next ≡ seen ++ (line ++ 10 ∷ []) → HoldsNoEnd seen → Lacks 10 line → (EndsBlank next → ⊥) → HoldsNoEnd next
line_open seen line next e none lacks other =
    let split : next ≡ (seen ++ line) ++ 10 ∷ [] = e ∙ sym (append_assoc seen line (10 ∷ [])) in
    subst HoldsNoEnd (sym split) (no_end_more (seen ++ line) 10 (no_end_run seen line none lacks) (λ h. other (subst EndsBlank (sym split) h)))

-- and there one is
pub line_ends : (old piece seen rest line more next : List ℕ) → rest ≡ line ++ (10 ∷ more) → next ≡ seen ++ (line ++ 10 ∷ [])
    → Seen old piece seen rest → HoldsNoEnd seen → Lacks 10 line → EndsBlank next
    → EndsAt (old ++ piece) (length old + (length piece - length more))
line_ends old piece seen rest line more next cut e h none lacks ends =
    let split : next ≡ (seen ++ line) ++ 10 ∷ [] = e ∙ sym (append_assoc seen line (10 ∷ [])) in
    let then = line_seen old piece seen rest line more next cut e h in
    let whole : old ++ piece ≡ next ++ more =
    ap (λ (t : List ℕ). old ++ t) then.split ∙ sym (append_assoc old then.done more) ∙ ap (λ (t : List ℕ). t ++ more) (sym then.is) in
    let many : length next ≡ length old + (length piece - length more) =
    omega (arith, ap (length {A = ℕ}) then.split, length-append then.done more, ap (length {A = ℕ}) then.is, length-append old then.done) in
    let longer = length-append (seen ++ line) (10 ∷ []) in
    let here : EndsAt next (length next) = record {
      within = omega arith;
      ends = subst EndsBlank (sym (take_all (length next) next (omega arith))) ends;
      first = λ fewer less k.
          no_end_run seen line none lacks fewer
          (subst EndsBlank (ap (take fewer) split ∙ take-append-le fewer (seen ++ line) (10 ∷ []) (omega (arith, less, ap (length {A = ℕ}) split, longer))) k);
    } in
    subst (λ (t : List ℕ). EndsAt t (length old + (length piece - length more))) (sym whole)
    (subst (λ (n : ℕ). EndsAt (next ++ more) n) many (ends_more next more (length next) here))

length-take-room : (n : ℕ) (xs : List ℕ) → length (take n xs) ≤ n
length-take-room n xs = let e = length-take n xs in omega arith

length-take-all : (n : ℕ) (xs : List ℕ) → length (take n xs) ≤ length xs
length-take-all n xs = let e = length-take n xs in omega arith

pub take-take-le : (m n : ℕ) (xs : List ℕ) → m ≤ n → take m (take n xs) ≡ take m xs
take-take-le zero n xs le = refl
take-take-le (suc m) zero xs le = absurd (omega arith)
take-take-le (suc m) (suc n) [] le = refl
take-take-le (suc m) (suc n) (x ∷ xs) le = ap (λ (t : List ℕ). x ∷ t) (take-take-le m n xs (omega arith))

short_from : (n : ℕ) (xs : List ℕ) → (length (take n xs) ≡ n → ⊥) → length xs < n
short_from n xs h =
    elim (cases_lt (length xs) n) [ inl less ↦ less | inr more ↦ absurd (h (length-take-le n xs more)) ]

-- the bytes that the limit allows are a front of the piece
split_piece : (old piece : List ℕ) (room : ℕ) → old ++ piece ≡ (old ++ take room piece) ++ drop room piece
split_piece old piece room =
    ap (λ (t : List ℕ). old ++ t) (whole_bytes room piece) ∙ sym (append_assoc old (take room piece) (drop room piece))

pub step_whole : (old piece part after : List ℕ) (limit taken : ℕ) → length old ≤ limit → part ≡ take (limit - length old) piece
    → taken ≤ length part → after ≡ old ++ take taken part → EndsAt (old ++ part) (length old + taken)
    → IsWhole (record { seen = old; limit = limit }) piece taken (record { seen = after; limit = limit })
step_whole old piece part after limit taken fits e within seen ends =
    let room : ℕ = limit - length old in
    let long : length part ≡ length (take room piece) = ap length e in
    let few : length (take room piece) ≤ room = length-take-room room piece in
    let front : length (take room piece) ≤ length piece = length-take-all room piece in
    let same : take taken part ≡ take taken piece = ap (take taken) e ∙ take-take-le taken room piece (omega arith) in
    record {
      within = omega arith;
      seen = seen ∙ ap (λ (t : List ℕ). old ++ t) same;
      ends = subst (λ (t : List ℕ). EndsAt t (length old + taken)) (ap (λ (t : List ℕ). (old ++ t) ++ drop room piece) e ∙ sym (split_piece old piece room))
          (ends_more (old ++ part) (drop room piece) (length old + taken) ends);
      fits = omega arith;
    }

pub step_past : (old piece part after : List ℕ) (limit : ℕ) → part ≡ take (limit - length old) piece
    → after ≡ old ++ part → HoldsNoEnd after → length after ≡ limit
    → IsPast (record { seen = old; limit = limit }) piece (record { seen = after; limit = limit })
step_past old piece part after limit e seen none full =
    let room : ℕ = limit - length old in
    let whole : old ++ piece ≡ after ++ drop room piece =
    split_piece old piece room ∙ ap (λ (t : List ℕ). (old ++ t) ++ drop room piece) (sym e) ∙ ap (λ (t : List ℕ). t ++ drop room piece) (sym seen) in
    let front : take limit (old ++ piece) ≡ after =
    ap (take limit) whole ∙ ap (λ (n : ℕ). take n (after ++ drop room piece)) (sym full) ∙ take-append_seam after (drop room piece) in
    let long : length (old ++ piece) ≡ length (after ++ drop room piece) = ap length whole in
    let parts = length-append after (drop room piece) in
    record {
      seen = sym front;
      many = omega arith;
      none = none;
    }

pub step_open : (old piece part after : List ℕ) (limit : ℕ) → length old ≤ limit → part ≡ take (limit - length old) piece
    → after ≡ old ++ part → HoldsNoEnd after → (length after ≡ limit → ⊥)
    → IsOpen (record { seen = old; limit = limit }) piece (record { seen = after; limit = limit })
step_open old piece part after limit fits e seen none free =
    let room : ℕ = limit - length old in
    let long : length after ≡ length (old ++ part) = ap length seen in
    let sum = length-append old part in
    let cut : length part ≡ length (take room piece) = ap length e in
    let short : length piece < room = short_from room piece (λ full. free (omega arith)) in
    let all : part ≡ piece = e ∙ take_all room piece (omega arith) in
    let joined : after ≡ old ++ piece = seen ∙ ap (λ (t : List ℕ). old ++ t) all in
    let total = length-append old piece in
    record {
      seen = joined;
      none = none;
      more = omega arith;
    }
