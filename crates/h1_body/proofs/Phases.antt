-- What the phases of a reader of content do with bytes.
use Rattle.std.proofs.Common.{Bool, true, false, cond, ◌≡◌, ◌⊎◌, ◌<◌, ◌+◌, ◌-◌, min, arith, ℕ, zero, suc, List, [], ◌∷◌, ◌++◌, length, take, drop, Some, None, refl, sym, ap, subst, ◌∙◌, append-nil, inl, inr}
use Rattle.std.proofs.lemmas.Bool.{cases_lt}
use Rattle.std.proofs.lemmas.List.{take-append-drop, length-take-le}
use Rattle.bh_spec.specs.Bounds.{Bounds}
use Rattle.h1_spec.specs.declared.Framing1.TheVariants.{Chunked}
use Rattle.bh_spec.specs.declared.H1Why.{H1Why}
use Rattle.bh_spec.specs.declared.H1Why.TheVariants as why
use Rattle.h1_spec.specs.Bodies.{is_hex}
use Rattle.h1_spec.specs.ChunkStates.{InLine, next_state, line_ended}
use Rattle.h1_spec.proofs.ChunkLines.{IsFew}
use Rattle.h1_spec.specs.BodyStates.{At, start, in_count, in_line, in_chunk, behind_chunk, behind_cr, OfRest, nothing_behind, Moves}
use Rattle.h1_body.specs.Lines.{state_of, IsSmall}
use Rattle.h1_body.specs.declared.line.Line.{Line}
use Rattle.h1_body.specs.declared.line.Line.TheVariants as lines
use Rattle.h1_body.specs.declared.content.Phase.{Phase}
use Rattle.h1_body.specs.declared.content.Phase.TheVariants as phases
use Rattle.h1_body.specs.Contents.{at_of, NotOver, IsValid, IsReading, IsBetween, IsChunking, phase_behind, chunk_behind, why_not, Becomes, AwaitsMore, NoneMissing, IsBehindContent, IsRun}
use Rattle.h1_spec.proofs.BodySteps.{moves_on}
use Rattle.h1_spec.proofs.LineSteps.{IsOpen, line_step, line_end, cause_of, line_dead, line_full, line_unended}
use Rattle.h1_spec.proofs.ChunkSteps.{chunk_run, chunk_over, count_run, end_run, end_cr, end_lf, chunk_unended, count_unended, cr_missing, lf_missing}

-- ---- chunk lines

pub few_of : (line : Line) → IsSmall line → IsFew 15 (state_of line)
few_of (lines.Digits count number) h = h.0
few_of (lines.Blanks size) h = tt
few_of (lines.Extension size) h = tt
few_of (lines.BehindCr size) h = tt
few_of (lines.Ended size) h = tt

pub open_of : (line : Line) → NotOver line → IsOpen (state_of line)
open_of (lines.Digits count number) h size e = absurd cc
open_of (lines.Blanks own) h size e = absurd cc
open_of (lines.Extension own) h size e = absurd cc
open_of (lines.BehindCr own) h size e = absurd cc
open_of (lines.Ended own) h size e = absurd h

same_why : (line : Line) (b : ℕ) → cause_of (state_of line) b ≡ why_not line b
same_why (lines.Digits count number) b = refl
same_why (lines.Blanks own) b = refl
same_why (lines.Extension own) b = refl
same_why (lines.BehindCr own) b = refl
same_why (lines.Ended own) b = refl

-- from the phase the bytes are refused, whatever follows
abbrev pub Refuses : At → ℕ → H1Why → Type 0
Refuses v b cause = (L : Bounds) (after : List ℕ) → OfRest L nothing_behind v (b ∷ after) cause

pub full_at : (phase : Phase) (line : Line) (room b : ℕ) → phase ≡ phases.Line line room → IsValid phase → room ≡ 0 → Refuses (at_of phase) b why.ChunkLineLimit
full_at phase line room b e valid none =
    let v : IsValid (phases.Line line room) = subst IsValid e valid in
    subst (λ (p : Phase). Refuses (at_of p) b why.ChunkLineLimit) (sym e)
    (subst (λ (r : ℕ). Refuses (in_line (state_of line) r) b why.ChunkLineLimit) (sym none)
    (λ L after. line_full L (state_of line) b after (few_of line v.0) (open_of line v.1)))

dead_room : (line : Line) (room b : ℕ) → IsValid (phases.Line line room) → (room ≡ 0 → ⊥) → None ≡ next_state 15 (state_of line) b → Refuses (in_line (state_of line) room) b (why_not line b)
dead_room line zero b v some e = absurd (some refl)
dead_room line (suc room) b v some e = λ L after.
    subst (OfRest L nothing_behind (in_line (state_of line) (suc room)) (b ∷ after)) (same_why line b) (line_dead L (state_of line) b room after (few_of line v.0) (open_of line v.1) (sym e))

pub dead_at : (phase : Phase) (line : Line) (room b : ℕ) → phase ≡ phases.Line line room → IsValid phase → (room ≡ 0 → ⊥) → None ≡ next_state 15 (state_of line) b → Refuses (at_of phase) b (why_not line b)
dead_at phase line room b e valid some n =
    subst (λ (p : Phase). Refuses (at_of p) b (why_not line b)) (sym e) (dead_room line room b (subst IsValid e valid) some n)

step_to : (L : Bounds) (s : InLine) (b room : ℕ) (next : Line) → IsFew 15 s → Some (state_of next) ≡ next_state 15 s b → Moves L (in_line s (suc room)) (b ∷ []) [] (at_of (phase_behind next room))
step_to L s b room (lines.Digits count number) few e = line_step L s b _ room few (sym e)
step_to L s b room (lines.Blanks size) few e = line_step L s b _ room few (sym e)
step_to L s b room (lines.Extension size) few e = line_step L s b _ room few (sym e)
step_to L s b room (lines.BehindCr size) few e = line_step L s b _ room few (sym e)
step_to L s b room (lines.Ended zero) few e =
    moves_on L (in_line s (suc room)) (in_line (line_ended 0) room) (at_of phases.Trailers) (b ∷ []) [] [] [] (line_step L s b (line_ended 0) room few (sym e)) (line_end L 0 room)
step_to L s b room (lines.Ended (suc n)) few e =
    moves_on L (in_line s (suc room)) (in_line (line_ended (suc n)) room) (in_chunk (suc n)) (b ∷ []) [] [] [] (line_step L s b (line_ended (suc n)) room few (sym e)) (line_end L (suc n) room)

goes_room : (line next : Line) (room b : ℕ) → IsValid (phases.Line line room) → (room ≡ 0 → ⊥) → Some (state_of next) ≡ next_state 15 (state_of line) b
    → Becomes (in_line (state_of line) room) (b ∷ []) [] (at_of (phase_behind next (room - 1)))
goes_room line next zero b v some e = absurd (some refl)
goes_room line next (suc room) b v some e = λ L.
    let less : suc room - 1 ≡ room = omega arith in
    subst (λ (r : ℕ). Moves L (in_line (state_of line) (suc room)) (b ∷ []) [] (at_of (phase_behind next r))) (sym less) (step_to L (state_of line) b room next (few_of line v.0) e)

pub goes_at : (phase : Phase) (line next : Line) (room b : ℕ) → phase ≡ phases.Line line room → IsValid phase → (room ≡ 0 → ⊥) → Some (state_of next) ≡ next_state 15 (state_of line) b
    → Becomes (at_of phase) (b ∷ []) [] (at_of (phase_behind next (room - 1)))
goes_at phase line next room b e valid some n =
    subst (λ (p : Phase). Becomes (at_of p) (b ∷ []) [] (at_of (phase_behind next (room - 1)))) (sym e) (goes_room line next room b (subst IsValid e valid) some n)

pub lf_at : (phase : Phase) (b : ℕ) → phase ≡ phases.ChunkLf → b ≡ 10 → Becomes (at_of phase) (b ∷ []) [] (start Chunked)
lf_at phase b e f =
    subst (λ (p : Phase). Becomes (at_of p) (b ∷ []) [] (start Chunked)) (sym e)
    (subst (λ (x : ℕ). Becomes behind_cr (x ∷ []) [] (start Chunked)) (sym f) end_lf)

pub cr_at : (phase : Phase) (b : ℕ) → phase ≡ phases.ChunkEnd → b ≡ 13 → Becomes (at_of phase) (b ∷ []) [] behind_cr
cr_at phase b e f =
    subst (λ (p : Phase). Becomes (at_of p) (b ∷ []) [] behind_cr) (sym e)
    (subst (λ (x : ℕ). Becomes behind_chunk (x ∷ []) [] behind_cr) (sym f) end_cr)

-- ---- content

pub count_at : (phase : Phase) (missing : ℕ) (rest bytes : List ℕ) → phase ≡ phases.Count missing → IsReading phase → 0 < length rest → bytes ≡ take (min missing (length rest)) rest
    → IsRun (at_of phase) rest bytes (in_count (missing - length bytes))
count_at phase missing rest bytes e reading some cut =
    subst (λ (p : Phase). IsRun (at_of p) rest bytes (in_count m)) (sym e) (record {
      some = omega (arith, long, reads);
      front = (drop (min missing (length rest)) rest, sym (take-append-drop (min missing (length rest)) rest) ∙ ap (λ (z : List ℕ). z ++ drop (min missing (length rest)) rest) (sym cut));
      becomes = λ L. subst (λ (n : ℕ). Moves L (in_count n) bytes bytes (in_count m)) sum (count_run L bytes m);
      all = elim (cases_lt (length bytes) missing) [
        | inl lt ↦ inl (omega (arith, long, lt))
        | inr ge ↦ inr (omega (arith, ge))
      ];
      place = tt;
    })
  where
    m : ℕ
    m = missing - length bytes

    reads : 0 < missing
    reads = subst IsReading e reading

    long : length bytes ≡ min missing (length rest)
    long = ap length cut ∙ length-take-le (min missing (length rest)) rest (omega arith)

    sum : length bytes + m ≡ missing
    sum = omega (arith, long)

chunk_becomes : (bytes : List ℕ) (m : ℕ) → Becomes (in_chunk (length bytes + m)) bytes bytes (at_of (chunk_behind m))
chunk_becomes bytes zero L =
    subst (λ (z : List ℕ). Moves L (in_chunk (length bytes + 0)) z bytes behind_chunk) (append-nil bytes)
    (subst (λ (z : List ℕ). Moves L (in_chunk (length bytes + 0)) (bytes ++ []) z behind_chunk) (append-nil bytes)
    (moves_on L (in_chunk (length bytes + 0)) (in_chunk 0) behind_chunk bytes [] bytes [] (chunk_run L bytes 0) (chunk_over L)))
chunk_becomes bytes (suc m) L = chunk_run L bytes (suc m)

chunk_none : (m : ℕ) → m ≡ 0 → NoneMissing (at_of (chunk_behind m))
chunk_none zero e = tt
chunk_none (suc m) e = absurd (omega (arith, e))

chunk_place : (m : ℕ) → IsBehindContent (at_of (chunk_behind m))
chunk_place zero = tt
chunk_place (suc m) = tt

pub chunk_at : (phase : Phase) (missing : ℕ) (rest bytes : List ℕ) → phase ≡ phases.Chunk missing → IsValid phase → 0 < length rest → bytes ≡ take (min missing (length rest)) rest
    → IsRun (at_of phase) rest bytes (at_of (chunk_behind (missing - length bytes)))
chunk_at phase missing rest bytes e valid some cut =
    subst (λ (p : Phase). IsRun (at_of p) rest bytes (at_of (chunk_behind m))) (sym e) (record {
      some = omega (arith, long, reads);
      front = (drop (min missing (length rest)) rest, sym (take-append-drop (min missing (length rest)) rest) ∙ ap (λ (z : List ℕ). z ++ drop (min missing (length rest)) rest) (sym cut));
      becomes = λ L. subst (λ (n : ℕ). Moves L (in_chunk n) bytes bytes (at_of (chunk_behind m))) sum (chunk_becomes bytes m L);
      all = elim (cases_lt (length bytes) missing) [
        | inl lt ↦ inl (omega (arith, long, lt))
        | inr ge ↦ inr (chunk_none m (omega (arith, ge)))
      ];
      place = chunk_place m;
    })
  where
    m : ℕ
    m = missing - length bytes

    reads : 0 < missing
    reads = subst IsValid e valid

    long : length bytes ≡ min missing (length rest)
    long = ap length cut ∙ length-take-le (min missing (length rest)) rest (omega arith)

    sum : length bytes + m ≡ missing
    sum = omega (arith, long)

pub end_at : (phase : Phase) (rest : List ℕ) → phase ≡ phases.ToEnd → 0 < length rest → IsRun (at_of phase) rest rest (at_of phase)
end_at phase rest e some = subst (λ (p : Phase). IsRun (at_of p) rest rest (at_of p)) (sym e) (record {
  some = some;
  front = ([], sym (append-nil rest));
  becomes = λ L. end_run L rest;
  all = inl refl;
  place = tt;
})

-- ---- the end, where more is missing

pub unended : (phase : Phase) → IsValid phase → IsReading phase → (phase ≡ phases.ToEnd) ⊎ AwaitsMore (at_of phase) []
unended (phases.Count missing) v r = inr (λ L. count_unended L missing r)
unended phases.ToEnd v r = inl refl
unended (phases.Line line room) v r = inr (λ L. line_unended L (state_of line) room (few_of line v.0) (open_of line v.1))
unended (phases.Chunk missing) v r = inr (λ L. chunk_unended L missing v)
unended phases.ChunkEnd v r = inr cr_missing
unended phases.ChunkLf v r = inr lf_missing
unended phases.Trailers v r = absurd r

pub between_unended : (phase : Phase) → IsValid phase → IsBetween phase → AwaitsMore (at_of phase) []
between_unended (phases.Count missing) v b = absurd b
between_unended phases.ToEnd v b = absurd b
between_unended (phases.Line line room) v b = λ L. line_unended L (state_of line) room (few_of line v.0) (open_of line v.1)
between_unended (phases.Chunk missing) v b = absurd b
between_unended phases.ChunkEnd v b = cr_missing
between_unended phases.ChunkLf v b = lf_missing
between_unended phases.Trailers v b = absurd b

pub chunking_reads : (phase : Phase) → IsChunking phase → (phase ≡ phases.Trailers → ⊥) → IsReading phase
chunking_reads (phases.Count missing) c n = absurd c
chunking_reads phases.ToEnd c n = tt
chunking_reads (phases.Line line room) c n = tt
chunking_reads (phases.Chunk missing) c n = tt
chunking_reads phases.ChunkEnd c n = tt
chunking_reads phases.ChunkLf c n = tt
chunking_reads phases.Trailers c n = absurd (n refl)

pub chunking_ends : (phase : Phase) → IsChunking phase → phase ≡ phases.ToEnd → ⊥
chunking_ends phase c e = subst IsChunking e c

pub awaits : (v w : At) (x : List ℕ) → Becomes v x [] w → AwaitsMore w [] → AwaitsMore v x
awaits v w x b a L = subst (λ (z : List ℕ). OfRest L nothing_behind v z why.Ended) (append-nil x) ((b L).causes [] why.Ended (a L))

-- that is no want of bytes
pub why_not_end : (line : Line) (b : ℕ) → why_not line b ≡ why.Ended → ⊥
why_not_end (lines.Digits count number) b e = by_test (is_hex b) e
  where
    by_test : (test : Bool) → cond test why.ChunkLineLimit why.ChunkLine ≡ why.Ended → ⊥
    by_test true e = absurd (cc)
    by_test false e = absurd (cc)
why_not_end (lines.Blanks own) b e = absurd (cc)
why_not_end (lines.Extension own) b e = absurd (cc)
why_not_end (lines.BehindCr own) b e = absurd (cc)
why_not_end (lines.Ended own) b e = absurd (cc)
