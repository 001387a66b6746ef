use Rattle.std.proofs.Common.{arith, refl, ◌≡◌, ◌<◌, ℕ, Bool, true, List, [], ◌∷◌, length}
use Rattle.std.specs.Prelude.{All, IsTrue, codes}
use Rattle.std.specs.List.{list_all}
use Rattle.std.proofs.lemmas.Bool.{and_parts}
use Rattle.std.proofs.lemmas.List.Elements.{All-cons, All-nil}
use Rattle.bh_spec.specs.Bytes.{is_token, is_text_value}
use Rattle.bh_spec.specs.Messages.{Field, IsToken}
use Rattle.h1_spec.specs.Heads.{IsHeadField, is_target}
use Rattle.http1_head_tests.proofs.head.a_head_of_a_request_is_written.Goals as goal

all_by : (p : ℕ → Bool) (xs : List ℕ) → list_all p xs ≡ true → All (λ b. IsTrue (p b)) xs
all_by p [] h = All-nil (λ b. IsTrue (p b))
all_by p (x ∷ xs) h =
    let a = and_parts (p x) (list_all p xs) h in All-cons (λ b. IsTrue (p b)) x xs a.0 (all_by p xs a.1)

token : (xs : List ℕ) → 0 < length xs → list_all is_token xs ≡ true → IsToken xs
token xs some h = record { nonempty = some; each = all_by is_token xs h }

abbrev host : Field
host = record { name = codes "host"; value = codes "h" }

abbrev own : Field
own = record { name = codes "x-a"; value = codes "1" }

abbrev coding : Field
coding = record { name = codes "transfer-encoding"; value = codes "chunked" }

writable_host : IsHeadField host
writable_host = record {
  name = token (codes "host") (omega arith) refl;
  lower_case = refl;
  value = record { each = all_by is_text_value (codes "h") refl; first = refl; last = refl };
}

writable_own : IsHeadField own
writable_own = record {
  name = token (codes "x-a") (omega arith) refl;
  lower_case = refl;
  value = record { each = all_by is_text_value (codes "1") refl; first = refl; last = refl };
}

writable_coding : IsHeadField coding
writable_coding = record {
  name = token (codes "transfer-encoding") (omega arith) refl;
  lower_case = refl;
  value = record { each = all_by is_text_value (codes "chunked") refl; first = refl; last = refl };
}

writable : All IsHeadField (host ∷ own ∷ coding ∷ [])
writable =
    All-cons IsHeadField host (own ∷ coding ∷ []) writable_host
    (All-cons IsHeadField own (coding ∷ []) writable_own (All-cons IsHeadField coding [] writable_coding (All-nil IsHeadField)))

pub write_request_head-end-requires : goal.write_request_head-end-requires
write_request_head-end-requires g c = rw (c.push_line.ensures.lines, c.in_ok-fields.ensures) record {
  start = (token (codes "PUT") (omega arith) refl, record { nonempty = omega arith; each = all_by is_target (codes "/a") refl });
  fields = writable;
}
