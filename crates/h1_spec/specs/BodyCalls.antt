-- A body that is read by several calls, and what it is then.
use Rattle.std.specs.Prelude.{ℕ, ◌≡◌, List, [], ◌∷◌, ◌++◌, length, take, flat_map, All}
use Rattle.std.specs.List.{concat}
use Rattle.bh_spec.specs.Bounds.{Bounds, IsWithin}
use Rattle.bh_spec.specs.Messages.{Field}
use Rattle.h1_spec.specs.declared.Framing1.{Framing1}
use Rattle.h1_spec.specs.declared.Framing1.TheVariants.{Chunked, ToEnd}
use Rattle.h1_spec.specs.Heads.{IsHeadField}
use Rattle.h1_spec.specs.Http1Text.{chunk_text}
use Rattle.h1_spec.specs.Written.{IsPiece, section_text, last_text}
use Rattle.bh_spec.specs.declared.H1Why.{H1Why}
use Rattle.h1_spec.specs.Bodies.{IsBody}
use Rattle.h1_spec.specs.BodyCauses.{OfBody}
use Rattle.h1_spec.specs.BodyStates.{At, start, in_count, to_end, over, Rest, OfRest, nothing_behind, Moves, Starts}

-- a call with a piece, the content that it gave, and the state behind it
pub record Call : Type 0 where
  pub piece : List ℕ
  pub taken : ℕ
  pub content : List ℕ
  pub behind : At

abbrev pub bytes_taken : List Call → List ℕ
bytes_taken [] = []
bytes_taken (call ∷ calls) = take call.taken call.piece ++ bytes_taken calls

abbrev pub content_given : List Call → List ℕ
content_given [] = []
content_given (call ∷ calls) = call.content ++ content_given calls

abbrev pub state_behind : At → List Call → At
state_behind v [] = v
state_behind v (call ∷ calls) = state_behind call.behind calls

-- the calls were made one after the other
abbrev pub AreTaken : Bounds → At → List Call → Type 0
AreTaken L v [] = Unit {0}
AreTaken L v (call ∷ calls) = Moves L v (take call.taken call.piece) call.content call.behind × AreTaken L call.behind calls

-- However a body is cut into calls: where it is over, or lasts to the end and that is here, the bytes taken are a body of
-- the framing with the content given and these
-- trailers; what was given begins the content of each body that goes on with the bytes; and what is wrong behind them is wrong with the
-- whole.
pub record IsExact (L : Bounds) (framing : Framing1) (calls : List Call) : Type 0 where
  pub whole : (trailers : List Field) → state_behind (start framing) calls ≡ over trailers
      → IsBody L framing (content_given calls) trailers (bytes_taken calls)
  pub counted : state_behind (start framing) calls ≡ in_count 0 → IsBody L framing (content_given calls) [] (bytes_taken calls)
  pub ended : state_behind (start framing) calls ≡ to_end → IsBody L framing (content_given calls) [] (bytes_taken calls)
  pub begins : (content : List ℕ) (trailers : List Field) (more : List ℕ) → IsBody L framing content trailers (bytes_taken calls ++ more)
      → (later : List ℕ) × (content ≡ content_given calls ++ later) × Rest L (state_behind (start framing) calls) later trailers more
  pub wrong : (more : List ℕ) (cause : H1Why) → OfRest L nothing_behind (state_behind (start framing) calls) more cause
      → OfBody L framing nothing_behind (bytes_taken calls ++ more) cause

abbrev pub ExactForEveryCut : Type 0
ExactForEveryCut = (L : Bounds) (framing : Framing1) (calls : List Call) → AreTaken L (start framing) calls → IsExact L framing calls

abbrev pub StartsWithABody : Type 0
StartsWithABody = (L : Bounds) (framing : Framing1) → Starts L framing

-- From a state what is wrong is one thing: the causes of the body's bytes are one at most.
abbrev pub OneCause : Type 0
OneCause = (L : Bounds) (framing : Framing1) (calls : List Call) (more : List ℕ) (c d : H1Why) → AreTaken L (start framing) calls
    → OfRest L nothing_behind (state_behind (start framing) calls) more c
    → OfRest L nothing_behind (state_behind (start framing) calls) more d → c ≡ d

-- And there is none where the bytes complete a body.
abbrev pub NoneWhereWhole : Type 0
NoneWhereWhole = (L : Bounds) (framing : Framing1) (calls : List Call) (content : List ℕ) (trailers : List Field) (more : List ℕ)
    (c : H1Why) → AreTaken L (start framing) calls
    → Rest L (state_behind (start framing) calls) content trailers more
    → OfRest L nothing_behind (state_behind (start framing) calls) more c → ⊥

-- A body that doesn't last to the end of the bytes is the only one at their front,
abbrev pub OneInFront : Type 0
OneInFront = (L : Bounds) (framing : Framing1) (c d : List ℕ) (fs gs : List Field) (x r y s : List ℕ) → (framing ≡ ToEnd → ⊥)
    → IsBody L framing c fs x → IsBody L framing d gs y → x ++ r ≡ y ++ s → (x ≡ y) × (c ≡ d) × (fs ≡ gs)

-- and with bytes that begin with a body nothing is wrong.
abbrev pub NoneBehindBody : Type 0
NoneBehindBody = (L : Bounds) (framing : Framing1) (c : List ℕ) (fs : List Field) (x r : List ℕ) (cause : H1Why)
    → IsBody L framing c fs x → OfBody L framing nothing_behind (x ++ r) cause → ⊥

-- Chunks that are written, and their end, are a body again.
abbrev pub WrittenIsBody : Type 0
WrittenIsBody = (L : Bounds) (chunks : List (List ℕ)) (trailers : List Field) → All IsPiece chunks → All IsHeadField trailers
    → IsWithin L.section (length (section_text trailers))
    → IsBody L Chunked (concat chunks) trailers (flat_map chunk_text chunks ++ last_text trailers)
