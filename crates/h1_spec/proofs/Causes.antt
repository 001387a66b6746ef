-- An input has one cause, and none where it is a message.
use Rattle.std.proofs.Common.{◌≡◌, ◌⊎◌, ◌<◌, ◌≤◌, ◌+◌, ◌-◌, arith, ℕ, zero, suc, List, [], ◌∷◌, ◌++◌, length, take, drop, Option, Some, refl, sym, ap, ap₂, subst, subst₂, ◌∙◌, append_assoc, append-nil, inl, inr}
use Rattle.std.proofs.lemmas.Bool.{cases_order, cases_lt}
use Rattle.std.proofs.lemmas.List.{length-append, take-append-drop, take-append-le}
use Rattle.std.proofs.Math.Seq.{take-append_seam, take-append-add}
use Rattle.bh_spec.specs.Bounds.{Bounds, IsWithin}
use Rattle.bh_spec.specs.Messages.{Field}
use Rattle.h1_spec.specs.declared.Framing1.{Framing1}
use Rattle.h1_spec.specs.declared.Framing1.TheVariants.{Empty, Counted, Chunked, ToEnd}
use Rattle.bh_spec.specs.declared.H1Why.{H1Why}
use Rattle.bh_spec.specs.declared.H1Why.TheVariants as why
use Rattle.bh_spec.specs.Texts.{◌then◌}
use Rattle.h1_spec.specs.Grammar.{crlf}
use Rattle.h1_spec.specs.Heads.{IsSection}
use Rattle.h1_spec.specs.Bodies.{IsChunkLine, IsChunk, IsTrailerSection, IsBody}
use Rattle.h1_spec.specs.Causes.{Causes, ◌when◌else◌, OfSection}
use Rattle.h1_spec.specs.BodyCauses.{CanBegin, IsLineOf, IsAnyLine, HasBegun, IsDeadAt, OfChunkLine, OfLineEnd, OfChunk, TrailerEndsAt, Behind, OfTrailers, OfNextChunk, OfBody}
use Rattle.h1_spec.proofs.Fronts.{front_same, same_each}
use Rattle.h1_spec.proofs.HeadTexts.{section_front}
use Rattle.h1_spec.proofs.BodyTexts.{size_front, chunk_line_front, chunk_front, chunk_apart}
use Rattle.h1_spec.proofs.Ends.{trailers_end, trailer_ends_once}

-- ---- the first condition

pub when_once : (w : H1Why) (P : Type 0) (R S : Causes) (c d : H1Why) → (R c → S d → c ≡ d) → (w when P else R) c → (w when P else S) d → c ≡ d
when_once w P R S c d f (inl p) (inl q) = p.1 ∙ sym q.1
when_once w P R S c d f (inl p) (inr q) = absurd (q.0 p.0)
when_once w P R S c d f (inr p) (inl q) = absurd (p.0 q.0)
when_once w P R S c d f (inr p) (inr q) = f p.1 q.1

-- what holds in place of a condition leaves the others
pub when_not : (w : H1Why) (P : Type 0) (R : Causes) (c : H1Why) → (P → ⊥) → (w when P else R) c → R c
when_not w P R c n (inl p) = absurd (n p.0)
when_not w P R c n (inr p) = p.1

-- ---- sections

within_most : (limit : Option ℕ) (most many : ℕ) → limit ≡ Some most → IsWithin limit many → many ≤ most
within_most limit most many e h = subst (λ (o : Option ℕ). IsWithin o many) e h

same_most : (limit : Option ℕ) (j k : ℕ) → limit ≡ Some j → limit ≡ Some k → j ≡ k
same_most limit j k p q =
    let e : Some j ≡ Some k = sym p ∙ q in
    cc

pub section_once : (Ends : ℕ → Type 0) (limit : Option ℕ) (bytes : List ℕ) (w : H1Why) (found : List ℕ → List ℕ → Causes) (c d : H1Why)
    → ((j k : ℕ) → Ends j → Ends k → j ≡ k) → ((x r : List ℕ) → found x r c → found x r d → c ≡ d)
    → OfSection Ends limit bytes w found c → OfSection Ends limit bytes w found d → c ≡ d
section_once Ends limit bytes w found c d once f (inl p) (inl q) = p.1 ∙ sym q.1
section_once Ends limit bytes w found c d once f (inl p) (inr (inl q)) = absurd (omega (arith, q.0.short p.0.most p.0.limited, p.0.long))
section_once Ends limit bytes w found c d once f (inl p) (inr (inr q)) = absurd (p.0.none q.many (within_most limit p.0.most q.many p.0.limited q.within) q.ends)
section_once Ends limit bytes w found c d once f (inr (inl p)) (inl q) = absurd (omega (arith, p.0.short q.0.most q.0.limited, q.0.long))
section_once Ends limit bytes w found c d once f (inr (inl p)) (inr (inl q)) = p.1 ∙ sym q.1
section_once Ends limit bytes w found c d once f (inr (inl p)) (inr (inr q)) = absurd (p.0.none q.many q.ends)
section_once Ends limit bytes w found c d once f (inr (inr p)) (inl q) = absurd (q.0.none p.many (within_most limit q.0.most p.many q.0.limited p.within) p.ends)
section_once Ends limit bytes w found c d once f (inr (inr p)) (inr (inl q)) = absurd (q.0.none p.many p.ends)
section_once Ends limit bytes w found c d once f (inr (inr p)) (inr (inr q)) =
    f (take p.many bytes) (drop p.many bytes) p.says
    (subst (λ (k : ℕ). found (take k bytes) (drop k bytes) d) (once q.many p.many q.ends p.ends) q.says)

pub drop_seam : (x r : List ℕ) → drop (length x) (x ++ r) ≡ r
drop_seam [] r = refl
drop_seam (b ∷ x) r = drop_seam x r

-- A section that ends within the limit is found.
pub section_found : (Ends : ℕ → Type 0) (limit : Option ℕ) (x r : List ℕ) (w : H1Why) (found : List ℕ → List ℕ → Causes) (c : H1Why)
    → ((j k : ℕ) → Ends j → Ends k → j ≡ k) → Ends (length x) → IsWithin limit (length x)
    → OfSection Ends limit (x ++ r) w found c → found x r c
section_found Ends limit x r w found c once e h (inl p) = absurd (p.0.none (length x) (within_most limit p.0.most (length x) p.0.limited h) e)
section_found Ends limit x r w found c once e h (inr (inl p)) = absurd (p.0.none (length x) e)
section_found Ends limit x r w found c once e h (inr (inr p)) =
    subst₂ (λ (y s : List ℕ). found y s c) (take-append_seam x r) (drop_seam x r)
    (subst (λ (k : ℕ). found (take k (x ++ r)) (drop k (x ++ r)) c) (once p.many (length x) p.ends e) p.says)

-- ---- chunk lines

line_of_chunk : (n : ℕ) (x : List ℕ) → IsChunkLine n x → IsLineOf 15 x
line_of_chunk n x h = (n, h.1)

nothing_more : (x z s : List ℕ) → x ++ (z ++ s) ≡ x → z ≡ []
nothing_more x [] s e = refl
nothing_more x (b ∷ z) s e = absurd (omega (arith, ap (length {A = ℕ}) e, length-append x ((b ∷ z) ++ s)))

-- Behind a whole line nothing of it is still to come.
begun_apart : (x z : List ℕ) → IsLineOf 15 x → HasBegun (x ++ z) → ⊥
begun_apart x z h b =
    let more = b.0 in
    let front = size_front 15 15 h.0 more.1.0 x ((x ++ z) ++ more.0) (z ++ more.0) [] h.1 more.1.1 (sym (append_assoc x z more.0) ∙ sym (append-nil ((x ++ z) ++ more.0))) in
    let none : z ≡ [] = nil_front z more.0 front.1 in
    b.1 (subst (IsLineOf 15) (sym (append-nil x) ∙ ap (λ (y : List ℕ). x ++ y) (sym none)) h)
  where
    nil_front : (a b : List ℕ) → a ++ b ≡ [] → a ≡ []
    nil_front [] b e = refl
    nil_front (c ∷ a) b e = absurd cc

take_take : (j k : ℕ) (x : List ℕ) → j ≤ k → take j (take k x) ≡ take j x
take_take zero k x h = refl
take_take (suc j) zero x h = absurd (omega arith)
take_take (suc j) (suc k) [] h = refl
take_take (suc j) (suc k) (b ∷ x) h = ap (λ (y : List ℕ). b ∷ y) (take_take j k x (omega arith))

pub take_beyond : (n : ℕ) (x r : List ℕ) → length x ≤ n → take n (x ++ r) ≡ x ++ take (n - length x) r
take_beyond n x r h =
    let sum : n ≡ length x + (n - length x) = omega arith in
    ap (λ (k : ℕ). take k (x ++ r)) sum ∙ take-append-add x r (n - length x)

begin_front : (R : List ℕ → Type 0) (x r : List ℕ) → CanBegin R (x ++ r) → CanBegin R x
begin_front R x r h = (r ++ h.0, subst R (append_assoc x r h.0) h.1)

begin_take : (R : List ℕ → Type 0) (j : ℕ) (x : List ℕ) → CanBegin R x → CanBegin R (take j x)
begin_take R j x h = begin_front R (take j x) (drop j x) (subst (CanBegin R) (sym (take-append-drop j x)) h)

begin_shorter : (R : List ℕ → Type 0) (j k : ℕ) (x : List ℕ) → j ≤ k → CanBegin R (take k x) → CanBegin R (take j x)
begin_shorter R j k x h c = subst (CanBegin R) (take_take j k x h) (begin_take R j (take k x) c)

-- A whole line has no cause.
line_passes : (x r : List ℕ) (n : ℕ) (c : H1Why) → IsChunkLine n x → OfChunkLine (x ++ r) c → ⊥
line_passes x r n c h (inl p) = by_length (cases_lt p.0 (length x))
  where
    by_length : (p.0 < length x) ⊎ (length x ≤ p.0) → ⊥
    by_length (inl l) = p.1.after (subst (CanBegin (IsLineOf 15)) (sym (take-append-le (p.0 + 1) x r (omega arith))) (begin_take (IsLineOf 15) (p.0 + 1) x ([], subst (IsLineOf 15) (sym (append-nil x)) (line_of_chunk n x h))))
    by_length (inr l) = begun_apart x (take (p.0 - length x) r) (line_of_chunk n x h) (subst HasBegun (take_beyond p.0 x r l) p.1.before)
line_passes x r n c h (inr (inl p)) = begun_apart x (take (1024 - length x) r) (line_of_chunk n x h) (subst HasBegun (take_beyond 1024 x r h.0) p.1)
line_passes x r n c h (inr (inr p)) = begun_apart x r (line_of_chunk n x h) p.1

-- ---- one cause of each

dead_once : (bytes : List ℕ) (j k : ℕ) → IsDeadAt bytes j → IsDeadAt bytes k → j ≡ k
dead_once bytes j k p q = by_order (cases_order j k)
  where
    by_order : (j ≡ k) ⊎ ((j < k) ⊎ (k < j)) → j ≡ k
    by_order (inl e) = e
    by_order (inr (inl l)) = absurd (p.after (begin_shorter (IsLineOf 15) (j + 1) k bytes (omega arith) q.before.0))
    by_order (inr (inr l)) = absurd (q.after (begin_shorter (IsLineOf 15) (k + 1) j bytes (omega arith) p.before.0))

dead_limit : (bytes : List ℕ) (at : ℕ) → IsDeadAt bytes at → HasBegun (take 1024 bytes) → ⊥
dead_limit bytes at p q = p.after (begin_shorter (IsLineOf 15) (at + 1) 1024 bytes (omega (arith, p.early)) q.0)

dead_whole : (bytes : List ℕ) (at : ℕ) → IsDeadAt bytes at → HasBegun bytes → ⊥
dead_whole bytes at p q = p.after (begin_take (IsLineOf 15) (at + 1) bytes q.0)

chunk_line_once : (bytes : List ℕ) (c d : H1Why) → OfChunkLine bytes c → OfChunkLine bytes d → c ≡ d
chunk_line_once bytes c d (inl p) (inl q) =
    when_once why.ChunkLine (CanBegin IsAnyLine (take (p.0 + 1) bytes) → ⊥) (λ w. w ≡ why.ChunkLineLimit) (λ w. w ≡ why.ChunkLineLimit) c d (λ e f. e ∙ sym f) p.2
    (subst (λ (k : ℕ). (why.ChunkLine when (CanBegin IsAnyLine (take (k + 1) bytes) → ⊥) else λ w. w ≡ why.ChunkLineLimit) d) (dead_once bytes q.0 p.0 q.1 p.1) q.2)
chunk_line_once bytes c d (inl p) (inr (inl q)) = absurd (dead_limit bytes p.0 p.1 q.1)
chunk_line_once bytes c d (inl p) (inr (inr q)) = absurd (dead_whole bytes p.0 p.1 q.1)
chunk_line_once bytes c d (inr (inl p)) (inl q) = absurd (dead_limit bytes q.0 q.1 p.1)
chunk_line_once bytes c d (inr (inl p)) (inr (inl q)) = p.2 ∙ sym q.2
chunk_line_once bytes c d (inr (inl p)) (inr (inr q)) = absurd (omega (arith, p.0, q.0))
chunk_line_once bytes c d (inr (inr p)) (inl q) = absurd (dead_whole bytes q.0 q.1 p.1)
chunk_line_once bytes c d (inr (inr p)) (inr (inl q)) = absurd (omega (arith, p.0, q.0))
chunk_line_once bytes c d (inr (inr p)) (inr (inr q)) = p.2 ∙ sym q.2

line_end_once : (bytes : List ℕ) (c d : H1Why) → OfLineEnd bytes c → OfLineEnd bytes d → c ≡ d
line_end_once bytes c d (inl p) (inl q) = p.1 ∙ sym q.1
line_end_once bytes c d (inl p) (inr q) = absurd (q.0.0 p.0.0 p.0.2)
line_end_once bytes c d (inr p) (inl q) = absurd (p.0.0 q.0.0 q.0.2)
line_end_once bytes c d (inr p) (inr q) = p.1 ∙ sym q.1

line_end_passes : (r : List ℕ) (c : H1Why) → OfLineEnd (crlf ++ r) c → ⊥
line_end_passes r c (inl p) = omega (arith, p.0.1, ap (length {A = ℕ}) p.0.2, length-append (crlf ++ r) p.0.0)
line_end_passes r c (inr p) = p.0.1 r refl

of_chunk_once : (size : ℕ) (bytes : List ℕ) (c d : H1Why) → OfChunk size bytes c → OfChunk size bytes d → c ≡ d
of_chunk_once size bytes c d (inl p) (inl q) = p.1 ∙ sym q.1
of_chunk_once size bytes c d (inl p) (inr q) = absurd (omega (arith, p.0, q.0))
of_chunk_once size bytes c d (inr p) (inl q) = absurd (omega (arith, p.0, q.0))
of_chunk_once size bytes c d (inr p) (inr q) = line_end_once (drop size bytes) c d p.1 q.1

of_chunk_passes : (chunk r : List ℕ) (c : H1Why) → OfChunk (length chunk) (chunk ++ (crlf ++ r)) c → ⊥
of_chunk_passes chunk r c (inl p) = omega (arith, p.0, length-append chunk (crlf ++ r))
of_chunk_passes chunk r c (inr p) = line_end_passes r c (subst (λ (x : List ℕ). OfLineEnd x c) (drop_seam chunk (crlf ++ r)) p.1)

-- ---- trailer sections

abbrev pub Whole : Behind → List ℕ → List ℕ → Causes
Whole behind section rest cause = (trailers : List Field) × IsSection trailers section × behind trailers rest cause

abbrev pub FoundTrailers : Behind → List ℕ → List ℕ → Causes
FoundTrailers behind section rest = why.TrailerForm when ((trailers : List Field) → IsSection trailers section → ⊥) else Whole behind section rest

-- what is said behind a body is one cause
abbrev pub SaysOnce : Behind → H1Why → H1Why → Type 0
SaysOnce behind c d = (fs : List Field) (rest : List ℕ) → behind fs rest c → behind fs rest d → c ≡ d

pub section_one : (fs gs : List Field) (x : List ℕ) → IsSection fs x → IsSection gs x → fs ≡ gs
section_one fs gs x p q = front_same (fs ≡ gs) (IsSection fs) (IsSection gs) (section_front fs gs) x x p q refl

trailers_once : (L : Bounds) (behind : Behind) (bytes : List ℕ) (c d : H1Why) → SaysOnce behind c d → OfTrailers L behind bytes c → OfTrailers L behind bytes d → c ≡ d
trailers_once L behind bytes c d once =
    section_once (TrailerEndsAt bytes) L.section bytes why.TrailerLimit (FoundTrailers behind) c d (trailer_ends_once bytes)
    (λ x r. when_once why.TrailerForm ((trailers : List Field) → IsSection trailers x → ⊥) (Whole behind x r) (Whole behind x r) c d
    (λ p q. once p.0 r p.2 (subst (λ (ts : List Field). behind ts r d) (section_one q.0 p.0 x q.1 p.1) q.2)))

trailers_pass : (L : Bounds) (behind : Behind) (fs : List Field) (x : List ℕ) (c : H1Why) → IsTrailerSection L fs x → (behind fs [] c → ⊥) → OfTrailers L behind x c → ⊥
trailers_pass L behind fs x c h pass cause =
    let found = section_found (TrailerEndsAt (x ++ [])) L.section x [] why.TrailerLimit (FoundTrailers behind) c (trailer_ends_once (x ++ [])) (trailers_end fs x [] h.1) h.0
    (subst (λ (y : List ℕ). OfTrailers L behind y c) (sym (append-nil x)) cause) in
    let whole = when_not why.TrailerForm ((trailers : List Field) → IsSection trailers x → ⊥) (Whole behind x []) c (λ n. n fs h.1) found in
    pass (subst (λ (ts : List Field). behind ts [] c) (section_one whole.0 fs x whole.1 h.1) whole.2)

-- ---- bodies

abbrev OfLine : Bounds → Behind → ℕ → List ℕ → Causes
OfLine L behind size rest cause = ((0 < size) × OfChunk size rest cause) ⊎ ((size ≡ 0) × OfTrailers L behind rest cause)

of_line_once : (L : Bounds) (behind : Behind) (size : ℕ) (rest : List ℕ) (c d : H1Why) → SaysOnce behind c d → OfLine L behind size rest c → OfLine L behind size rest d → c ≡ d
of_line_once L behind size rest c d once (inl p) (inl q) = of_chunk_once size rest c d p.1 q.1
of_line_once L behind size rest c d once (inl p) (inr q) = absurd (omega (arith, p.0, q.0))
of_line_once L behind size rest c d once (inr p) (inl q) = absurd (omega (arith, p.0, q.0))
of_line_once L behind size rest c d once (inr p) (inr q) = trailers_once L behind rest c d once p.1 q.1

pub line_or_cause : (L : Bounds) (behind : Behind) (bytes line rest : List ℕ) (size : ℕ) (c : H1Why) → bytes ≡ line ++ rest → IsChunkLine size line → OfChunkLine bytes c → ⊥
line_or_cause L behind bytes line rest size c e h p = line_passes line rest size c h (subst (λ (x : List ℕ). OfChunkLine x c) e p)

next_chunk_once : (L : Bounds) (behind : Behind) (bytes : List ℕ) (c d : H1Why) → SaysOnce behind c d → OfNextChunk L behind bytes c → OfNextChunk L behind bytes d → c ≡ d
next_chunk_once L behind bytes c d once (inl p) (inl q) = chunk_line_once bytes c d p q
next_chunk_once L behind bytes c d once (inl p) (inr q) = absurd (line_or_cause L behind bytes q.1 q.2 q.0 c q.3 q.4 p)
next_chunk_once L behind bytes c d once (inr p) (inl q) = absurd (line_or_cause L behind bytes p.1 p.2 p.0 d p.3 p.4 q)
next_chunk_once L behind bytes c d once (inr p) (inr q) =
    let both = chunk_line_front p.0 q.0 p.1 q.1 p.2 q.2 p.4 q.4 (sym p.3 ∙ q.3) in
    of_line_once L behind p.0 p.2 c d once p.5 (subst₂ (λ (n : ℕ) (x : List ℕ). OfLine L behind n x d) (sym both.0) (sym both.1) q.5)

-- A whole chunk has no cause, and neither has the end of a body.
pub chunk_passes : (L : Bounds) (behind : Behind) (chunk x r : List ℕ) (c : H1Why) → 0 < length chunk → IsChunk chunk x → OfNextChunk L behind (x ++ r) c → ⊥
chunk_passes L behind chunk x r c n h (inl p) =
    line_or_cause L behind (x ++ r) h.0 (h.1 ++ r) (length chunk) c (ap (λ (z : List ℕ). z ++ r) h.4 ∙ append_assoc h.0 h.1 r) h.2 p
chunk_passes L behind chunk x r c n h (inr p) =
    let both = chunk_line_front (length chunk) p.0 h.0 p.1 (h.1 ++ r) p.2 h.2 p.4 (sym (append_assoc h.0 h.1 r) ∙ ap (λ (z : List ℕ). z ++ r) (sym h.4) ∙ p.3) in
    let end = h.3 in
    let same : h.1 ++ r ≡ chunk ++ (crlf ++ r) =
    ap (λ (z : List ℕ). z ++ r) (end.4 ∙ ap₂ (λ (a b : List ℕ). a ++ b) end.2 end.3) ∙ append_assoc chunk crlf r in
    by_size (subst₂ (λ (k : ℕ) (z : List ℕ). OfLine L behind k z c) (sym both.0) (sym both.1 ∙ same) p.5)
  where
    by_size : OfLine L behind (length chunk) (chunk ++ (crlf ++ r)) c → ⊥
    by_size (inl q) = of_chunk_passes chunk r c q.1
    by_size (inr q) = omega (arith, q.0)

last_passes : (L : Bounds) (behind : Behind) (fs : List Field) (x : List ℕ) (c : H1Why) → (behind fs [] c → ⊥)
    → (IsChunkLine 0 then IsTrailerSection L fs) x → OfNextChunk L behind x c → ⊥
last_passes L behind fs x c pass h (inl p) = line_or_cause L behind x h.0 h.1 0 c h.4 h.2 p
last_passes L behind fs x c pass h (inr p) =
    let both = chunk_line_front 0 p.0 h.0 p.1 h.1 p.2 h.2 p.4 (sym h.4 ∙ p.3) in
    by_size (subst₂ (λ (k : ℕ) (z : List ℕ). OfLine L behind k z c) (sym both.0) (sym both.1) p.5)
  where
    by_size : OfLine L behind 0 h.1 c → ⊥
    by_size (inl q) = omega (arith, q.0)
    by_size (inr q) = trailers_pass L behind fs h.1 c h.3 pass q.1

abbrev IsSome : List ℕ → Type 0
IsSome chunk = 0 < length chunk

chunked_once : (L : Bounds) (behind : Behind) (bytes : List ℕ) (c d : H1Why) → SaysOnce behind c d → OfBody L Chunked behind bytes c → OfBody L Chunked behind bytes d → c ≡ d
chunked_once L behind bytes c d once p q =
    let S : List ℕ → Type 0 = λ rest. OfNextChunk L behind rest c in
    let S' : List ℕ → Type 0 = λ rest. OfNextChunk L behind rest d in
    (same_each (c ≡ d) IsSome IsChunk IsChunk S S'
    (record {
      items = λ a b m n. chunk_front a b;
      ends = λ x y f g e. next_chunk_once L behind x c d once f (subst S' (sym e) g);
      left = λ a n x y r f g e. chunk_passes L behind a x r d n f (subst S' (sym e) g);
      right = λ b n x y r f g e. chunk_passes L behind b y r c n g (subst S e f);
    })
    p.0 q.0 p.1 q.1 bytes bytes p.2 q.2 refl).1

pub body_once : (L : Bounds) (behind : Behind) (f : Framing1) (bytes : List ℕ) (c d : H1Why) → SaysOnce behind c d → OfBody L f behind bytes c → OfBody L f behind bytes d → c ≡ d
body_once L behind Empty bytes c d once p q = once [] bytes p q
body_once L behind (Counted n) bytes c d once (inl p) (inl q) = p.1 ∙ sym q.1
body_once L behind (Counted n) bytes c d once (inl p) (inr q) = absurd (omega (arith, p.0, q.0))
body_once L behind (Counted n) bytes c d once (inr p) (inl q) = absurd (omega (arith, p.0, q.0))
body_once L behind (Counted n) bytes c d once (inr p) (inr q) = once [] (drop n bytes) p.1 q.1
body_once L behind Chunked bytes c d once p q = chunked_once L behind bytes c d once p q
body_once L behind ToEnd bytes c d once p q = absurd p

drop_all : (x : List ℕ) → drop (length x) x ≡ []
drop_all x = ap (drop (length x)) (sym (append-nil x)) ∙ drop_seam x []

-- A whole body has no cause but what is said behind it.
pub body_passes : (L : Bounds) (behind : Behind) (f : Framing1) (content : List ℕ) (fs : List Field) (bytes : List ℕ) (c : H1Why)
    → IsBody L f content fs bytes → (behind fs [] c → ⊥) → OfBody L f behind bytes c → ⊥
body_passes L behind Empty content fs bytes c h pass p = pass (subst₂ (λ (ts : List Field) (x : List ℕ). behind ts x c) (sym h.1) h.2 p)
body_passes L behind (Counted n) content fs bytes c h pass (inl p) = omega (arith, p.0, h.0, ap (length {A = ℕ}) h.2)
body_passes L behind (Counted n) content fs bytes c h pass (inr p) =
    let all : n ≡ length bytes = omega (arith, h.0, ap (length {A = ℕ}) h.2) in
    pass (subst₂ (λ (ts : List Field) (x : List ℕ). behind ts x c) (sym h.1) (ap (λ (k : ℕ). drop k bytes) all ∙ drop_all bytes) p.1)
body_passes L behind ToEnd content fs bytes c h pass p = p
body_passes L behind Chunked content fs bytes c h pass p =
    let S : List ℕ → Type 0 = IsChunkLine 0 then IsTrailerSection L fs in
    let S' : List ℕ → Type 0 = λ rest. OfNextChunk L behind rest c in
    (same_each ⊥ IsSome IsChunk IsChunk S S'
    (record {
      items = λ a b m n. chunk_front a b;
      ends = λ x y f g e. last_passes L behind fs x c pass f (subst S' (sym e) g);
      left = λ a n x y r f g e. chunk_passes L behind a x r c n f (subst S' (sym e) g);
      right = λ b n x y r f g e. chunk_apart b n y x r (IsTrailerSection L fs) g f (sym e);
    })
    h.0 p.0 h.2 p.1 bytes bytes h.3 p.2 refl).1
