-- The answer for an input, by what was read of it.
use Rattle.std.proofs.Common.{◌≡◌, ◌<◌, ◌≤◌, ◌+◌, ℕ, zero, suc, List, [], ◌∷◌, length, take, Result, Ok, Err, Some, refl, sym, ap, subst, ◌∙◌, arith}
use Rattle.std.proofs.lemmas.List.{length-take}
use Rattle.bh_spec.specs.declared.Refusal.{Refusal}
use Rattle.bh_spec.specs.declared.Refusal.TheVariants.{Dead, Limit, Ended, TooLong}
use Rattle.bh_spec.specs.Bounds.{Bounds}
use Rattle.bh_spec.specs.Answers.{Answer, whole, refused, IsAnswer}
use Rattle.bh_spec.specs.Viable.{IsViable, IsMessageText}
use Rattle.bh_spec.proofs.Pieces.{text_becomes}
use Rattle.bh_decode.specs.declared.spelling.Spelling.{Spelling}
use Rattle.bh_decode.specs.declared.spelling.ReadError.{ReadError}
use Rattle.bh_decode.specs.declared.spelling.ReadError.TheVariants.{Refused, NoMemory}
use Rattle.bh_decode.specs.Answering.{Says, past_limit, IsOnly}
use Rattle.bh_decode.proofs.Answered.{one_answer, first_refused_byte}
use Rattle.bh_decode.proofs.Lifted.{of_spelled}

-- what was read is the one answer
pub only : (L : Bounds) (bytes : List ℕ) (answer : Answer) (r : Result Spelling ReadError) → Says L bytes r → IsAnswer L bytes answer → IsOnly answer r
only L bytes answer (Ok s) h a = one_answer L bytes answer (whole s.message s.end.omitted s.end.padding) a h
only L bytes answer (Err (Refused refusal)) h a = one_answer L bytes answer (refused refusal) a h
only L bytes answer (Err NoMemory) h a = tt

-- the first bytes of the first bytes
take_take : (k most : ℕ) (bytes : List ℕ) → k ≤ most → take k bytes ≡ take k (take most bytes)
take_take zero most bytes h = refl
take_take (suc k) zero bytes h = absurd (omega (arith, h))
take_take (suc k) (suc most) [] h = refl
take_take (suc k) (suc most) (b ∷ bytes) h = ap (λ (x : List ℕ). b ∷ x) (take_take k most bytes (omega (arith, h)))

-- where no byte up to the limit is refused, the input is too long
too_long : (L : Bounds) (bytes : List ℕ) (most : ℕ) → L.input ≡ Some most → most < length bytes → IsViable L (take most bytes) → IsAnswer L bytes (refused (TooLong most))
too_long L bytes most limit more viable = record { limit = limit; more = more; viable = viable }

pub longer_whole : (L : Bounds) (bytes : List ℕ) (most : ℕ) (s : Spelling) → L.input ≡ Some most → most < length bytes → Says L (take most bytes) (Ok s) → IsAnswer L bytes (refused (TooLong most))
longer_whole L bytes most s limit more h =
    too_long L bytes most limit more
    (text_becomes (IsMessageText L) (take most bytes) (of_spelled L s.message s.end.omitted s.end.padding (take most bytes) h.1))

longer_refused : (L : Bounds) (bytes : List ℕ) (most : ℕ) (refusal : Refusal) → L.input ≡ Some most → most < length bytes → IsAnswer L (take most bytes) (refused refusal)
    → IsAnswer L bytes (refused (past_limit most refusal))
longer_refused L bytes most (Dead at part) limit more h =
    (first_refused_byte L (take most bytes) bytes at part (omega (arith, h.0.first.inside, length-take most bytes, more)) (take_take (at + 1) most bytes (omega (arith, h.0.first.inside, length-take most bytes, more)))).0 h
longer_refused L bytes most (Limit at part) limit more h =
    (first_refused_byte L (take most bytes) bytes at part (omega (arith, h.0.first.inside, length-take most bytes, more)) (take_take (at + 1) most bytes (omega (arith, h.0.first.inside, length-take most bytes, more)))).1 h
longer_refused L bytes most (Ended at part) limit more h = too_long L bytes most limit more h.viable
longer_refused L bytes most (TooLong at) limit more h = absurd (omega (arith, h.more, length-take most bytes, more, same L.input limit h.limit))
  where
    same : (o : _) → o ≡ Some most → o ≡ Some at → most ≡ at
    same o e f = let both : Some most ≡ Some at = sym e ∙ f in cc

pub said_err : (L : Bounds) (bytes : List ℕ) (e f : ReadError) → e ≡ f → Says L bytes (Err f) → Says L bytes (Err e)
said_err L bytes e f same h = subst (λ (x : ReadError). Says L bytes (Err x)) (sym same) h

pub longer_error : (L : Bounds) (bytes : List ℕ) (most : ℕ) (e : ReadError) (refusal result : Refusal) → L.input ≡ Some most → most < length bytes → e ≡ Refused refusal → result ≡ past_limit most refusal
    → Says L (take most bytes) (Err e) → Says L bytes (Err (Refused result))
longer_error L bytes most e refusal result limit more is same h =
    subst (λ (r : Refusal). IsAnswer L bytes (refused r)) (sym same)
    (longer_refused L bytes most refusal limit more (subst (λ (x : ReadError). Says L (take most bytes) (Err x)) is h))
