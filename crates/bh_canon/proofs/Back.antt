-- What is written is read back.
use Rattle.std.proofs.Common.{◌≡◌, ℕ, List, Result, Ok, Err}
use Rattle.bh_spec.specs.declared.Omitted.TheVariants.{Nothing}
use Rattle.bh_spec.specs.Bounds.{Bounds}
use Rattle.bh_spec.specs.Messages.{Message}
use Rattle.bh_spec.specs.Answers.{whole, refused, IsAnswer}
use Rattle.bh_decode.specs.declared.spelling.ReadError.{ReadError}
use Rattle.bh_decode.specs.declared.spelling.ReadError.TheVariants.{Refused, NoMemory}
use Rattle.bh_decode.specs.Answering.{SaysMessage}
use Rattle.bh_decode.proofs.Answered.{one_answer}
use Rattle.bh_encode.proofs.Together.{canon_is_read, known_is_read}
use Rattle.bh_canon.specs.Laws.{GivesBack, CanonGivesBack, KnownGivesBack}
use Rattle.bh_reading.proofs.Fits.{message_held}
use Rattle.bh_canon.proofs.Writable.{held_known}

-- a reader that says what the answer is gives back the message of the answer
gives_back : (L : Bounds) (bytes : List ℕ) (m : Message) → IsAnswer L bytes (whole m Nothing 0) → (read : Result Message ReadError) → SaysMessage L bytes read → GivesBack m read
gives_back L bytes m answer (Ok n) says =
    let same : whole n says.0 says.1 ≡ whole m Nothing 0 = one_answer L bytes (whole n says.0 says.1) (whole m Nothing 0) says.2 answer in
    cc
gives_back L bytes m answer (Err (Refused refusal)) says =
    let same : refused refusal ≡ whole m Nothing 0 = one_answer L bytes (refused refusal) (whole m Nothing 0) says answer in
    absurd cc
gives_back L bytes m answer (Err NoMemory) says = tt

pub canon_gives_back : CanonGivesBack
canon_gives_back L limits m valid fits within read says = gives_back L _ m (canon_is_read L m valid (message_held L limits m fits) fits within) read says

pub known_gives_back : KnownGivesBack
known_gives_back L limits m valid fits within read says = gives_back L _ m (known_is_read L m valid (held_known L m limits fits within) fits within) read says
