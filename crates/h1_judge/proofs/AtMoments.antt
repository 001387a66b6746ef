-- What is looked at with an item is what is looked at at its moment.
use Rattle.std.proofs.Common.{◌≡◌, ◌+◌, ℕ, Bool, Option, List, [], ◌∷◌, length, map, refl, sym, ◌∙◌, ap, arith}
use Rattle.bh_spec.specs.declared.NoForm.{NoForm}
use Rattle.bh_spec.specs.Messages.{Field, Start}
use Rattle.bh_spec.specs.Items.{interim_response, head, content_byte, trailer_section, Head, of_request, of_response}
use Rattle.h1_spec.specs.declared.Framing1.{Framing1}
use Rattle.h1_spec.specs.declared.Framing1.TheVariants.{Empty, Counted, Chunked, ToEnd}
use Rattle.h1_spec.specs.Cleaning.{hops, clean_trailers}
use Rattle.h1_spec.specs.Http1Text.{Case}
use Rattle.h1_spec.specs.Moments.{interim_ended, head_ended, content_read, trailers_ended, input_ended, announced, of_byte, of_trailers, of_end, first_of, form_at}
use Rattle.h1_spec.specs.Http1.{start_of}
use Rattle.h1_judge.specs.Courses.{counted_more, Course, behind, item_form}

-- behind this head and so many bytes of content
abbrev pub at_content : Bool → Start → List Field → ℕ → Course
at_content to_head start fields n = record {
  framing = announced to_head start fields;
  counted = counted_more (announced to_head start fields) 0 n;
  named = hops fields;
}

same_byte : (f : Framing1) (n : ℕ) → of_byte f (counted_more f 0 n + 1) ≡ of_byte f (n + 1)
same_byte Empty n = refl
same_byte (Counted field) n = ap (of_byte (Counted field)) (omega arith)
same_byte Chunked n = refl
same_byte ToEnd n = refl

same_trailers : (f : Framing1) (n : ℕ) (fields : List Field) → of_trailers f (counted_more f 0 n) fields ≡ of_trailers f n fields
same_trailers Empty n fields = refl
same_trailers (Counted field) n fields = ap (λ (k : ℕ). of_trailers (Counted field) k fields) (omega arith)
same_trailers Chunked n fields = refl
same_trailers ToEnd n fields = refl

same_end : (f : Framing1) (n : ℕ) → of_end f (counted_more f 0 n) ≡ of_end f n
same_end Empty n = refl
same_end (Counted field) n = ap (of_end (Counted field)) (omega arith)
same_end Chunked n = refl
same_end ToEnd n = refl

pub interim_form : (to_head : Bool) (c : Course) (status : ℕ) (fields : List Field)
    → item_form c (interim_response status fields) ≡ form_at to_head (interim_ended (record { status = status; fields = fields }))
interim_form to_head c status fields = refl

pub head_form : (to_head : Bool) (c : Course) (of : Head) (fields : List Field)
    → item_form c (head of fields) ≡ form_at to_head (head_ended (start_of of) fields)
head_form to_head c (of_request control) fields = refl
head_form to_head c (of_response status) fields = refl

pub byte_form : (to_head : Bool) (start : Start) (fields : List Field) (n x : ℕ)
    → item_form (at_content to_head start fields n) (content_byte x) ≡ form_at to_head (content_read start fields (n + 1))
byte_form to_head start fields n x = ap first_of (same_byte (announced to_head start fields) n)

pub trailers_form : (to_head : Bool) (start : Start) (fields : List Field) (n : ℕ) (trailers : List Field)
    → item_form (at_content to_head start fields n) (trailer_section trailers) ≡ form_at to_head (trailers_ended start fields n trailers)
trailers_form to_head start fields n trailers = ap first_of (same_trailers (announced to_head start fields) n (clean_trailers (hops fields) trailers))

pub end_form : (to_head : Bool) (start : Start) (fields : List Field) (n : ℕ)
    → first_of (of_end (announced to_head start fields) (counted_more (announced to_head start fields) 0 n)) ≡ form_at to_head (input_ended start fields n)
end_form to_head start fields n = ap first_of (same_end (announced to_head start fields) n)

more_once : (f : Framing1) (n : ℕ) → counted_more f (counted_more f 0 n) 1 ≡ counted_more f 0 (n + 1)
more_once Empty n = refl
more_once (Counted field) n = omega arith
more_once Chunked n = refl
more_once ToEnd n = refl

-- content leads from so many bytes to more
pub behind_content : (to_head : Bool) (start : Start) (fields : List Field) (n : ℕ) (bytes : List ℕ)
    → behind to_head (at_content to_head start fields n) (map content_byte bytes) ≡ at_content to_head start fields (n + length bytes)
behind_content to_head start fields n [] = ap (at_content to_head start fields) (omega arith)
behind_content to_head start fields n (x ∷ bytes) =
    ap (λ (k : ℕ). behind to_head (record { framing = announced to_head start fields; counted = k; named = hops fields }) (map content_byte bytes))
    (more_once (announced to_head start fields) n)
    ∙ behind_content to_head start fields (n + 1) bytes ∙ ap (at_content to_head start fields) (omega arith)

none_yet : (f : Framing1) → 0 ≡ counted_more f 0 0
none_yet Empty = refl
none_yet (Counted field) = refl
none_yet Chunked = refl
none_yet ToEnd = refl

-- a head leads to no content
pub behind_head : (to_head : Bool) (c : Course) (of : Head) (fields : List Field)
    → behind to_head c (head of fields ∷ []) ≡ at_content to_head (start_of of) fields 0
behind_head to_head c of fields =
    ap (λ (k : ℕ). record { framing = announced to_head (start_of of) fields; counted = k; named = hops fields })
    (none_yet (announced to_head (start_of of) fields))
