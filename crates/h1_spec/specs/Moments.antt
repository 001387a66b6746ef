-- The moments at which a message is judged while it is read, and the rules that are looked at there.
use Rattle.std.specs.Prelude.{ℕ, zero, suc, true, false, cond, not, nat_eq, nat_lt, ◌+◌, Bool, List, [], ◌∷◌, ◌++◌, length, map, find, Option, option_map}
use Rattle.bh_spec.specs.declared.Omitted.{Omitted}
use Rattle.bh_spec.specs.declared.Omitted.TheVariants.{Nothing, Trailers, Both}
use Rattle.bh_spec.specs.Messages.{Field, Interim, Start, request, response, Message}
use Rattle.h1_spec.specs.declared.Framing1.{Framing1}
use Rattle.h1_spec.specs.declared.Framing1.TheVariants.{Empty, Counted, Chunked, ToEnd}
use Rattle.bh_spec.specs.declared.NoForm.{NoForm}
use Rattle.bh_spec.specs.declared.NoForm.TheVariants as no
use Rattle.h1_spec.specs.Cleaning.{hops, clean_trailers}
use Rattle.h1_spec.specs.Framing.{lengths}
use Rattle.h1_spec.specs.Http1.{interims_of}
use Rattle.h1_spec.specs.Http1Text.{Case, of_interim, of_head, has_bad_value, has_no_body, framing_by}

-- What was read, where a message is judged.
pub data Moment : Type 0 where
  -- the section of an interim response has ended
  interim_ended : Interim → Moment
  -- the header section has ended
  head_ended : Start → List Field → Moment
  -- behind this head so many bytes of content were read; the last of them just now
  content_read : Start → List Field → ℕ → Moment
  -- behind so many bytes of content the trailer section has ended
  trailers_ended : Start → List Field → ℕ → List Field → Moment
  -- behind so many bytes of content the input has ended, and the trailer section is left out
  input_ended : Start → List Field → ℕ → Moment

-- The body that a head announces: none, a counted one, or any other.
abbrev pub announced : Bool → Start → List Field → Framing1
announced to_head start fields = cond (has_no_body to_head start) Empty (framing_by (lengths fields) false)

-- of a byte of content, with which there are so many
abbrev pub of_byte : Framing1 → ℕ → List Case
of_byte Empty n = (no.Bodyless, true) ∷ []
of_byte (Counted field) n = (no.LengthDiffers field (field + 1), nat_lt field n) ∷ []
of_byte Chunked n = []
of_byte ToEnd n = []

-- of a cleaned trailer section behind so many bytes of content
abbrev pub of_trailers : Framing1 → ℕ → List Field → List Case
of_trailers Empty n trailers = (no.ValueByte, has_bad_value trailers) ∷ (no.Bodyless, not (nat_eq (length trailers) 0)) ∷ []
of_trailers (Counted field) n trailers = (no.ValueByte, has_bad_value trailers)
    ∷ (no.LengthDiffers field n, nat_lt n field)
    ∷ (no.TrailersCounted, not (nat_eq (length trailers) 0))
    ∷ []
of_trailers Chunked n trailers = (no.ValueByte, has_bad_value trailers) ∷ []
of_trailers ToEnd n trailers = (no.ValueByte, has_bad_value trailers) ∷ []

-- of an input that ends behind so many bytes of content
abbrev pub of_end : Framing1 → ℕ → List Case
of_end Empty n = []
of_end (Counted field) n = (no.LengthDiffers field n, nat_lt n field) ∷ []
of_end Chunked n = []
of_end ToEnd n = []

-- interim responses were judged before
abbrev pub alone : Start → Start
alone (request control) = request control
alone (response interims status) = response [] status

-- The rules of a moment, in their order.
abbrev pub cases_at : Bool → Moment → List Case
cases_at to_head (interim_ended interim) = of_interim interim
cases_at to_head (head_ended start fields) = of_head (alone start) fields
cases_at to_head (content_read start fields n) = of_byte (announced to_head start fields) n
cases_at to_head (trailers_ended start fields n trailers) = of_trailers (announced to_head start fields) n (clean_trailers
    (hops fields) trailers)
cases_at to_head (input_ended start fields n) = of_end (announced to_head start fields) n

-- the first rule of a list that holds
abbrev pub first_of : List Case → Option NoForm
first_of cases = option_map (λ one. one.0) (find (λ one. one.1) cases)

-- why there is no text, by what was read when the moment came
abbrev pub form_at : Bool → Moment → Option NoForm
form_at to_head moment = first_of (cases_at to_head moment)

-- ---- the moments of a whole message

abbrev pub byte_moments : Start → List Field → ℕ → List Moment
byte_moments start fields zero = []
byte_moments start fields (suc n) = byte_moments start fields n ++ content_read start fields (suc n) ∷ []

abbrev pub last_moment : Message → Omitted → Moment
last_moment m Nothing = trailers_ended m.start m.fields (length m.content) m.trailers
last_moment m Trailers = input_ended m.start m.fields (length m.content)
last_moment m Both = input_ended m.start m.fields (length m.content)

-- in their order
abbrev pub moments : Message → Omitted → List Moment
moments m omitted = map interim_ended (interims_of m.start)
    ++ (head_ended m.start m.fields ∷ (byte_moments m.start m.fields (length m.content) ++ last_moment m omitted ∷ []))
