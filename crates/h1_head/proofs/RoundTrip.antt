-- A head that is written is a head again, and is parsed back.
use Rattle.std.proofs.Common.{refl, ◌≡◌, [], Result, Ok, Err}
use Rattle.std.specs.Prelude.{MatchResult}
use Rattle.h1_spec.specs.Grammar.{Line}
use Rattle.h1_spec.specs.Heads.{StartLine, request_line, status_line, Head, IsStartLine, IsHead}
use Rattle.h1_spec.specs.Written.{start_text, section_text, text_of_head, IsWritable, IsWritableStart}
use Rattle.h1_spec.proofs.Written.{section_written, status_written, request_written}
use Rattle.h1_spec.proofs.HeadTexts.{one_head}
use Rattle.h1_head.specs.declared.head.Head1.{Head1}
use Rattle.h1_head.specs.declared.head.HeadWhy.{HeadWhy}
use Rattle.h1_head.specs.declared.head.HeadWhy.TheVariants.{Form, NoMemory}
use Rattle.h1_head.specs.Parsed.{head_of, IsHeadAnswer}

start_written : (start : StartLine) → IsWritableStart start → Line (IsStartLine start) (start_text start)
start_written (request_line method target) h = request_written method target h.0 h.1
start_written (status_line status) h = status_written status h.0 h.1

pub written : (head : Head) → IsWritable head → IsHead head (text_of_head head)
written head h = (start_text head.start, section_text head.fields, start_written head.start h.start, section_written head.fields h.fields, refl)

pub read_back : (head : Head) (answer : Result Head1 HeadWhy) → IsWritable head → IsHeadAnswer (text_of_head head) answer
    → MatchResult answer (λ parsed. head_of parsed ≡ head) (λ why. why ≡ NoMemory)
read_back head (Ok parsed) h a = (one_head (head_of parsed) head (text_of_head head) (text_of_head head) [] [] a.0 (written head h) refl).0
read_back head (Err Form) h a = absurd (a head (written head h))
read_back head (Err NoMemory) h a = refl
