-- What is wrong with a body is wrong with it whatever is said behind it.
use Rattle.std.proofs.Common.{List, ℕ, ◌++◌, take, drop, inl, inr}
use Rattle.bh_spec.specs.Bounds.{Bounds}
use Rattle.bh_spec.specs.Messages.{Field}
use Rattle.bh_spec.specs.declared.H1Why.{H1Why}
use Rattle.bh_spec.specs.declared.H1Why.TheVariants as why
use Rattle.h1_spec.specs.Heads.{IsSection}
use Rattle.h1_spec.specs.Causes.{◌when◌else◌}
use Rattle.h1_spec.specs.declared.Framing1.TheVariants.{Chunked}
use Rattle.h1_spec.specs.BodyCauses.{OfTrailers, OfNextChunk, OfBody, Behind}
use Rattle.h1_spec.specs.BodyStates.{At, in_count, to_end, in_line, in_chunk, behind_chunk, behind_cr, in_trailers, over, OfRestOfChunk, OfBehindLine, OfRest, nothing_behind}

trailers_lifted : (L : Bounds) (behind : Behind) (bytes : List ℕ) (c : H1Why) → OfTrailers L nothing_behind bytes c → OfTrailers L behind bytes c
trailers_lifted L behind bytes c (inl h) = inl h
trailers_lifted L behind bytes c (inr (inl h)) = inr (inl h)
trailers_lifted L behind bytes c (inr (inr f)) = at f.says
  where
    at : (why.TrailerForm when ((trailers : List Field) → IsSection trailers (take f.many bytes) → ⊥) else λ cause. (trailers : List Field)
        × IsSection trailers (take f.many bytes) × nothing_behind trailers (drop f.many bytes) cause) c → OfTrailers L behind bytes c
    at (inl form) = inr (inr (record { many = f.many; ends = f.ends; within = f.within; says = inl form }))
    at (inr q) = absurd q.1.2

next_lifted : (L : Bounds) (behind : Behind) (bytes : List ℕ) (c : H1Why) → OfNextChunk L nothing_behind bytes c → OfNextChunk L behind bytes c
next_lifted L behind bytes c (inl h) = inl h
next_lifted L behind bytes c (inr (size, line, rest, e, l, inl q)) = inr (size, line, rest, e, l, inl q)
next_lifted L behind bytes c (inr (size, line, rest, e, l, inr q)) = inr (size, line, rest, e, l, inr (q.0, trailers_lifted L behind rest c q.1))

chunks_lifted : (L : Bounds) (behind : Behind) (bytes : List ℕ) (c : H1Why) → OfBody L Chunked nothing_behind bytes c → OfBody L Chunked behind bytes c
chunks_lifted L behind bytes c h = let p = h.2 in (h.0, h.1, (p.0, p.1, p.2, next_lifted L behind p.1 c p.3, p.4))

chunk_lifted : (L : Bounds) (behind : Behind) (missing : ℕ) (bytes : List ℕ) (c : H1Why) → OfRestOfChunk L nothing_behind missing bytes c → OfRestOfChunk L behind missing bytes c
chunk_lifted L behind missing bytes c (inl h) = inl h
chunk_lifted L behind missing bytes c (inr h) =
    let p = h.2 in
    let q = p.3 in
    inr (h.0, h.1, (p.0, p.1, p.2, (q.0, q.1, q.2, chunks_lifted L behind q.1 c q.3, q.4), p.4))

line_lifted : (L : Bounds) (behind : Behind) (size : ℕ) (bytes : List ℕ) (c : H1Why) → OfBehindLine L nothing_behind size bytes c → OfBehindLine L behind size bytes c
line_lifted L behind size bytes c (inl h) = inl (h.0, chunk_lifted L behind size bytes c h.1)
line_lifted L behind size bytes c (inr h) = inr (h.0, trailers_lifted L behind bytes c h.1)

pub rest_lifted : (L : Bounds) (behind : Behind) (v : At) (bytes : List ℕ) (c : H1Why) → OfRest L nothing_behind v bytes c → OfRest L behind v bytes c
rest_lifted L behind (in_count n) bytes c (inl h) = inl h
rest_lifted L behind (in_count n) bytes c (inr h) = absurd h.1
rest_lifted L behind to_end bytes c h = absurd h
rest_lifted L behind (in_line state room) bytes c (inl h) = inl h
rest_lifted L behind (in_line state room) bytes c (inr h) =
    let p = h.1 in
    inr (h.0, (p.0, p.1, p.2, line_lifted L behind h.0 p.1 c p.3, p.4))
rest_lifted L behind (in_chunk missing) bytes c h = chunk_lifted L behind missing bytes c h
rest_lifted L behind behind_chunk bytes c (inl h) = inl h
rest_lifted L behind behind_chunk bytes c (inr h) = inr (h.0, h.1, h.2, chunks_lifted L behind h.1 c h.3, h.4)
rest_lifted L behind behind_cr bytes c (inl h) = inl h
rest_lifted L behind behind_cr bytes c (inr h) = inr (h.0, h.1, h.2, chunks_lifted L behind h.1 c h.3, h.4)
rest_lifted L behind (in_trailers seen) bytes c h = trailers_lifted L behind (seen ++ bytes) c h
rest_lifted L behind (over found) bytes c h = absurd h
