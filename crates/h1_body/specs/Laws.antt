-- Laws of whole bodies.
use Rattle.std.specs.Prelude.{ℕ, ◌≡◌, ◌≤◌, Option, Some, Result, Ok, Err, List, ◌++◌, length, flat_map, All, MatchResult}
use Rattle.std.specs.List.{concat}
use Rattle.bh_spec.specs.Messages.{Field}
use Rattle.h1_spec.specs.declared.Framing1.{Framing1}
use Rattle.h1_spec.specs.declared.Framing1.TheVariants.{Chunked}
use Rattle.h1_spec.specs.Heads.{IsHeadField}
use Rattle.h1_spec.specs.Http1Text.{chunk_text}
use Rattle.h1_spec.specs.Written.{IsPiece, section_text, last_text}
use Rattle.h1_body.specs.declared.whole.Body1.{Body1}
use Rattle.h1_body.specs.declared.whole.BodyWhy.{BodyWhy}
use Rattle.h1_body.specs.declared.whole.BodyWhy.TheVariants as why
use Rattle.h1_body.specs.Whole.{IsBodyAnswer}

-- what two bodies that were read have in common
pub record AreSame (a b : Body1) : Type 0 where
  pub content : a.content ≡ b.content
  pub trailers : a.trailers.lines ≡ b.trailers.lines
  pub taken : a.taken ≡ b.taken

-- the same, but for want of memory
abbrev pub AgreeOn : Result Body1 BodyWhy → Result Body1 BodyWhy → Type 0
AgreeOn (Ok a) (Ok b) = AreSame a b
AgreeOn (Err (why.Refused c)) (Err (why.Refused d)) = c ≡ d
AgreeOn (Ok a) (Err (why.Refused d)) = ⊥
AgreeOn (Err (why.Refused c)) (Ok b) = ⊥
AgreeOn (Ok a) (Err why.NoMemory) = Unit {0}
AgreeOn (Err (why.Refused c)) (Err why.NoMemory) = Unit {0}
AgreeOn (Err why.NoMemory) b = Unit {0}

-- Two right answers are the same, but for want of memory.
abbrev pub OneAnswer : Type 0
OneAnswer = (section : Option ℕ) (framing : Framing1) (bytes : List ℕ) (a b : Result Body1 BodyWhy)
    → IsBodyAnswer section framing bytes a → IsBodyAnswer section framing bytes b → AgreeOn a b

-- Chunks that are written, and their end, are read back, whatever follows them, where the trailer section is within its bound.
abbrev pub ReadBack : Type 0
ReadBack = (section : ℕ) (chunks : List (List ℕ)) (trailers : List Field) (rest : List ℕ) (answer : Result Body1 BodyWhy)
    → All IsPiece chunks → All IsHeadField trailers → length (section_text trailers) ≤ section
    → IsBodyAnswer (Some section) Chunked ((flat_map chunk_text chunks ++ last_text trailers) ++ rest) answer
    → MatchResult answer (λ body. (body.content ≡ concat chunks) × (body.trailers.lines ≡ trailers)
    × (body.taken ≡ length (flat_map chunk_text chunks ++ last_text trailers)))
    (λ cause. cause ≡ why.NoMemory)
