-- No input is without an answer.
use Rattle.bh_spec.proofs.Existing.{some_answer as some_of_bytes}
use Rattle.bh_decode.specs.Laws.{SomeAnswer}

pub some_answer : SomeAnswer
some_answer = some_of_bytes
