-- What is still to be written of a canonical text, by the items that are still to come.
use Rattle.std.specs.Prelude.{ℕ, Bool, true, List, [], ◌∷◌, ◌++◌, length, flat_map}
use Rattle.bh_spec.specs.declared.Kind.TheVariants.{Response}
use Rattle.bh_spec.specs.declared.Form.TheVariants.{Indeterminate}
use Rattle.bh_spec.specs.Integers.{int}
use Rattle.bh_spec.specs.Messages.{Field}
use Rattle.bh_spec.specs.Canonical.{section, cut}
use Rattle.bh_spec.specs.Items.{Item, interim_response, head, content_byte, trailer_section, ending}
use Rattle.bh_push.specs.Hands.{kind_of_head}
use Rattle.bh_stream.specs.Outputs.{Output, plain, shown}
use Rattle.bh_stream.specs.Tails.{content_of, trailers_of}
use Rattle.bh_encode.specs.Calls.{text_of, interim_call}
use Rattle.bh_canonical.specs.Stages.{head_call}

-- a chunk: its length, and its bytes, which are content
abbrev pub chunk_out : List ℕ → Output
chunk_out chunk = plain (int (length chunk)) ++ shown chunk

-- content in chunks of 8,192 bytes and a shorter last one
abbrev pub chunks_out : List ℕ → Output
chunks_out content = flat_map chunk_out (cut 8192 content)

-- the end of the content, and the trailer section
abbrev pub end_out : List Field → Output
end_out trailers = plain (int 0 ++ section Indeterminate trailers)

-- behind the head, where so much content is held
abbrev pub tail_owed : List ℕ → List Item → Output
tail_owed kept q = chunks_out (kept ++ content_of q) ++ end_out (trailers_of q)

-- before the head, where something went out or nothing did
abbrev pub message_owed : Bool → List Item → Output
message_owed begun [] = []
message_owed begun ((interim_response status fields) ∷ q) =
    plain (text_of (record { kind = Response; begun = begun }) (interim_call (record { status = status; fields = fields })))
    ++ message_owed true q
message_owed begun ((head of fields) ∷ q) =
    plain (text_of (record { kind = kind_of_head of; begun = begun }) (head_call of fields)) ++ tail_owed [] q
message_owed begun ((content_byte x) ∷ q) = []
message_owed begun ((trailer_section fields) ∷ q) = []
message_owed begun ((ending omitted padding) ∷ q) = []
