-- What a maker has to come when it has made one chunk more.
use Rattle.std.proofs.Common.{◌≡◌, ◌∙◌, ◌≤◌, ◌<◌, ◌+◌, ◌-◌, ℕ, min, Bool, true, false, List, [], ◌++◌, length, take, drop, refl, sym, ap, arith, append_assoc}
use Rattle.std.proofs.Math.ListN.{drop_of_length-le}
use Rattle.std.proofs.lemmas.List.{length-take, drop-take, take-take, drop-drop, take-append-drop}
use Rattle.std.proofs.Math.Seq.{take-append_seam}
use Rattle.std.proofs.lemmas.List.FromFn.{length-map-range_with_len}
use Rattle.bh_spec.specs.Integers.{int}
use Rattle.bh_spec.specs.Canonical.{string}
use Rattle.bh_cmd.specs.Trials.{content_byte, content_from, chunk_size, chunks_from, ending}
use Rattle.bh_cmd.specs.Making.{unmade}
use Rattle.bh_cmd.proofs.Chunks.{next_chunk}

-- nothing is ready
pub none_ready : (at end : ℕ) (ready : List ℕ) → at ≡ end → drop at (take end ready) ≡ []
none_ready at end ready same = drop_of_length-le (take end ready) (let l = length-take end ready in omega (arith, l, same))

module _ (i k n s : ℕ) (size : s ≡ min (chunk_size i) n) (some : 0 < n) where
  string_is : int s ++ content_from k s ≡ string (content_from k s)
  string_is = ap (λ (m : ℕ). int m ++ content_from k s) (sym (length-map-range_with_len content_byte k s))

  pub chunk_made : (ended : Bool) → (ended ≡ true → n ≡ 0) → (made : List ℕ) → made ≡ int s ++ content_from k s
      → made ++ unmade ended (i + 1) (k + s) (n - s) ≡ unmade ended i k n
  chunk_made true done made is = let none = done refl in absurd (omega (arith, none, some))
  chunk_made false done made is =
      ap (λ (front : List ℕ). front ++ (chunks_from (i + 1) (k + s) (n - s) ++ ending)) (is ∙ string_is)
      ∙ sym (append_assoc (string (content_from k s)) (chunks_from (i + 1) (k + s) (n - s)) ending)
      ∙ ap (λ (chunks : List ℕ). chunks ++ ending) (sym (next_chunk i k n s size some))

-- Of what is ready so many bytes are handed out.
pub handed_out : (at end n : ℕ) (ready copy more rest : List ℕ) → at + n ≤ end → length copy ≡ n → copy ≡ take (at + n - at) (drop at ready)
    → drop at (take end ready) ++ rest ≡ take n (copy ++ more) ++ (drop (at + n) (take end ready) ++ rest)
handed_out at end n ready copy more rest within long is =
    let front : copy ≡ take n (drop at (take end ready)) =
    is ∙ ap (λ (m : ℕ). take m (drop at ready)) (omega arith) ∙ sym (take-take n (end - at) (drop at ready) (omega arith)) ∙ ap (take n) (sym (drop-take at (end - at) ready))
    ∙ ap (λ (m : ℕ). take n (drop at (take m ready))) (omega arith) in
    let back : drop n (drop at (take end ready)) ≡ drop (at + n) (take end ready) = drop-drop n at (take end ready) in
    ap (λ (l : List ℕ). l ++ rest) (sym (take-append-drop n (drop at (take end ready))))
    ∙ append_assoc (take n (drop at (take end ready))) (drop n (drop at (take end ready))) rest
    ∙ ap (λ (l : List ℕ). l ++ (drop n (drop at (take end ready)) ++ rest)) (sym front ∙ sym (take_copy n copy more long))
    ∙ ap (λ (l : List ℕ). take n (copy ++ more) ++ (l ++ rest)) back
  where
    take_copy : (n : ℕ) (copy more : List ℕ) → length copy ≡ n → take n (copy ++ more) ≡ copy
    take_copy n copy more long = ap (λ (m : ℕ). take m (copy ++ more)) (sym long) ∙ take-append_seam copy more
