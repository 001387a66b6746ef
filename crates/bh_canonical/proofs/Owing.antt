-- Laws of what is still to be written.
use Rattle.std.proofs.Common.{◌≡◌, ℕ, List, [], ◌∷◌, ◌++◌, length, map, flat_map, refl, sym, ◌∙◌, ap, arith, append_assoc, append-nil, length-append}
use Rattle.std.specs.List.{concat}
use Rattle.bh_spec.specs.declared.Form.TheVariants.{Indeterminate}
use Rattle.bh_spec.specs.Integers.{int}
use Rattle.bh_spec.specs.Messages.{Field}
use Rattle.bh_spec.specs.Canonical.{string, section, cut}
use Rattle.bh_spec.specs.Items.{Item, content_byte}
use Rattle.bh_spec.proofs.Written.{cut_whole, cut_first}
use Rattle.bh_stream.specs.Outputs.{Output, written, shown_in, plain, shown}
use Rattle.bh_stream.proofs.Outputs.{written-append, shown-append, written_plain, written_shown, shown_plain, shown_shown}
use Rattle.bh_stream.specs.Tails.{content_of, trailers_of}
use Rattle.bh_stream.proofs.Tails.{content_behind, trailers_behind}
use Rattle.bh_canonical.specs.Owed.{chunk_out, chunks_out, end_out, tail_owed}

-- ---- content

pub tail_behind : (kept bytes : List ℕ) (q : List Item) → tail_owed kept (map content_byte bytes ++ q) ≡ tail_owed (kept ++ bytes) q
tail_behind kept bytes q =
    ap (λ (l : List ℕ). chunks_out (kept ++ l) ++ end_out (trailers_of (map content_byte bytes ++ q))) (content_behind bytes q)
    ∙ ap (λ (l : List Field). chunks_out (kept ++ (bytes ++ content_of q)) ++ end_out l) (trailers_behind bytes q)
    ∙ ap (λ (l : List ℕ). chunks_out l ++ end_out (trailers_of q)) (sym (append_assoc kept bytes (content_of q)))

first_out : (full back : List ℕ) → length full ≡ 8192 → chunks_out (full ++ back) ≡ chunk_out full ++ chunks_out back
first_out full back e = ap (λ (l : List (List ℕ)). flat_map chunk_out l) (cut_first 8192 full back (omega arith) e)

one_out : (full : List ℕ) → length full ≡ 8192 → chunks_out full ≡ chunk_out full
one_out full e = ap chunks_out (sym (append-nil full)) ∙ first_out full [] e ∙ append-nil (chunk_out full)

pub tail_past : (kept bytes full back : List ℕ) (q : List Item) → kept ++ bytes ≡ full ++ back → length full ≡ 8192 → tail_owed kept (map content_byte bytes ++ q) ≡ chunks_out full ++ tail_owed back q
tail_past kept bytes full back q e long =
    let end = end_out (trailers_of q) in
    tail_behind kept bytes q
    ∙ ap (λ (l : List ℕ). tail_owed l q) e
    ∙ ap (λ (l : List ℕ). chunks_out l ++ end) (append_assoc full back (content_of q))
    ∙ ap (λ (l : Output). l ++ end) (first_out full (back ++ content_of q) long)
    ∙ append_assoc (chunk_out full) (chunks_out (back ++ content_of q)) end
    ∙ ap (λ (l : Output). l ++ tail_owed back q) (sym (one_out full long))

-- its bytes, behind its length
pub one_bytes : (full : List ℕ) → length full ≡ 8192 → flat_map string (cut 8192 full) ≡ 96 ∷ (0 ∷ full)
one_bytes full e =
    ap (λ (l : List ℕ). flat_map string (cut 8192 l)) (sym (append-nil full)) ∙ ap (λ (l : List (List ℕ)). flat_map string l) (cut_first 8192 full [] (omega arith) e)
    ∙ append-nil (string full) ∙ ap (λ (n : ℕ). int n ++ full) e

-- ---- what goes out

written_each : (chunks : List (List ℕ)) → written (flat_map chunk_out chunks) ≡ flat_map string chunks
written_each [] = refl
written_each (c ∷ chunks) =
    written-append (chunk_out c) (flat_map chunk_out chunks)
    ∙ ap (λ (l : List ℕ). l ++ written (flat_map chunk_out chunks)) (written-append (plain (int (length c))) (shown c))
    ∙ ap (λ (l : List ℕ). (l ++ written (shown c)) ++ written (flat_map chunk_out chunks)) (written_plain (int (length c)))
    ∙ ap (λ (l : List ℕ). (int (length c) ++ l) ++ written (flat_map chunk_out chunks)) (written_shown c)
    ∙ ap (λ (l : List ℕ). string c ++ l) (written_each chunks)

pub written_chunks : (content : List ℕ) → written (chunks_out content) ≡ flat_map string (cut 8192 content)
written_chunks content = written_each (cut 8192 content)

shown_each : (chunks : List (List ℕ)) → shown_in (flat_map chunk_out chunks) ≡ length (concat chunks)
shown_each [] = refl
shown_each (c ∷ chunks) =
    omega (
      arith,
      shown-append (chunk_out c) (flat_map chunk_out chunks),
      shown-append (plain (int (length c))) (shown c),
      shown_plain (int (length c)),
      shown_shown c,
      length-append c (concat chunks),
      shown_each chunks,
    )

pub shown_chunks : (content : List ℕ) → shown_in (chunks_out content) ≡ length content
shown_chunks content = shown_each (cut 8192 content) ∙ ap length (cut_whole (length content) content (omega arith))

-- ---- the end

-- the rest of the content, and the end
abbrev pub rest_out : List ℕ → List Field → Output
rest_out kept trailers = chunks_out kept ++ end_out trailers

pub rest_due : (kept : List ℕ) (q : List Item) → content_of q ≡ [] → tail_owed kept q ≡ rest_out kept (trailers_of q)
rest_due kept q e = ap (λ (l : List ℕ). chunks_out (kept ++ l) ++ end_out (trailers_of q)) e ∙ ap (λ (l : List ℕ). chunks_out l ++ end_out (trailers_of q)) (append-nil kept)

pub shown_rest : (kept : List ℕ) (trailers : List Field) → shown_in (rest_out kept trailers) ≡ length kept
shown_rest kept trailers = omega (arith, shown-append (chunks_out kept) (end_out trailers), shown_chunks kept, shown_plain (int 0 ++ section Indeterminate trailers))
