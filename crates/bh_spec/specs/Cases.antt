-- Worked cases: bytes, and the message that they spell or the refusal that they get.
use Rattle.std.specs.Prelude.{ℕ, ◌≡◌, List, [], ◌∷◌, ◌++◌, codes, Some}
use Rattle.bh_spec.specs.declared.Omitted.TheVariants.{Nothing, Trailers, Both}
use Rattle.bh_spec.specs.declared.Refusal.TheVariants.{Dead, Ended, TooLong}
use Rattle.bh_spec.specs.declared.Width.TheVariants.{One, Two, Four, Eight}
use Rattle.bh_spec.specs.declared.Part.TheVariants as parts
use Rattle.bh_spec.specs.Integers.{vi, int}
use Rattle.bh_spec.specs.Bounds.{default_bounds}
use Rattle.bh_spec.specs.Messages.{Message, Field, request, response}
use Rattle.bh_spec.specs.Canonical.{canon, known}
use Rattle.bh_spec.specs.Answers.{whole, refused, IsAnswer}
use Rattle.bh_spec.specs.Listing.{show}

-- a GET of https with these fields, for the path /
abbrev pub get : List Field → Message
get fields = record {
  start = request (record { method = codes "GET"; scheme = codes "https"; authority = []; path = codes "/" });
  fields = fields;
  content = [];
  trailers = [];
}

-- the method, scheme, authority and path of that message, as they are spelled in least widths
abbrev pub get_bytes : List ℕ
get_bytes = 0x03 ∷ 0x47 ∷ 0x45 ∷ 0x54 ∷ 0x05 ∷ 0x68 ∷ 0x74 ∷ 0x74 ∷ 0x70 ∷ 0x73 ∷ 0x00 ∷ 0x01 ∷ 0x2f ∷ []

-- The content and the trailer section are left out; the canonical text leaves out nothing.
abbrev pub TailLeftOut : Type 0
TailLeftOut = IsAnswer default_bounds (0x00 ∷ (get_bytes ++ (0x00 ∷ []))) (whole (get []) Both 0)
    × (canon (get []) ≡ 0x02 ∷ (get_bytes ++ (0x00 ∷ 0x00 ∷ 0x00 ∷ [])))

-- The content and the trailer section are there, and three zeros of padding.
abbrev pub PaddingCounted : Type 0
PaddingCounted = IsAnswer default_bounds (0x00 ∷ (get_bytes ++ (0x00 ∷ 0x00 ∷ 0x00 ∷ 0x00 ∷ 0x00 ∷ 0x00 ∷ []))) (whole (get []) Nothing 3)

-- one field with an empty value
abbrev pub field_a : Field
field_a = record { name = codes "a"; value = [] }

-- Its name is spelled in upper case, and read and written in lower case.
abbrev pub UpperCaseName : Type 0
UpperCaseName = IsAnswer default_bounds (0x00 ∷ (get_bytes ++ (0x03 ∷ 0x01 ∷ 0x41 ∷ 0x00 ∷ []))) (whole (get (field_a ∷ [])) Both 0)
    × (canon (get (field_a ∷ [])) ≡ 0x02 ∷ (get_bytes ++ (0x01 ∷ 0x61 ∷ 0x00 ∷ 0x00 ∷ 0x00 ∷ 0x00 ∷ [])))
    × (known (get (field_a ∷ [])) ≡ 0x00 ∷ (get_bytes ++ (0x03 ∷ 0x01 ∷ 0x61 ∷ 0x00 ∷ 0x00 ∷ 0x00 ∷ [])))

abbrev pub ok : Message
ok = record { start = response [] 200; fields = []; content = []; trailers = [] }

-- A response with its framing number in four bytes.
abbrev pub FramingInFourBytes : Type 0
FramingInFourBytes = IsAnswer default_bounds (0x80 ∷ 0x00 ∷ 0x00 ∷ 0x01 ∷ 0x40 ∷ 0xc8 ∷ 0x00 ∷ []) (whole ok Both 0)
    × (canon ok ≡ 0x03 ∷ 0x40 ∷ 0xc8 ∷ 0x00 ∷ 0x00 ∷ 0x00 ∷ [])

-- a POST of https with the content abc, for the path /
abbrev pub post : Message
post = record {
  start = request (record { method = codes "POST"; scheme = codes "https"; authority = []; path = codes "/" });
  fields = [];
  content = codes "abc";
  trailers = [];
}

abbrev pub post_bytes : List ℕ
post_bytes = 0x02 ∷ 0x04 ∷ 0x50 ∷ 0x4f ∷ 0x53 ∷ 0x54 ∷ 0x05 ∷ 0x68 ∷ 0x74 ∷ 0x74 ∷ 0x70 ∷ 0x73 ∷ 0x00 ∷ 0x01 ∷ 0x2f ∷ 0x00 ∷ 0x03
    ∷ 0x61 ∷ 0x62 ∷ 0x63 ∷ 0x00 ∷ []

-- Chunked content, and the trailer section is left out.
abbrev pub TrailersLeftOut : Type 0
TrailersLeftOut = IsAnswer default_bounds post_bytes (whole post Trailers 0) × (canon post ≡ post_bytes ++ (0x00 ∷ []))

-- A response behind an interim response: a status of 103 and an empty section.
abbrev pub hinted : Message
hinted = record { start = response (record { status = 103; fields = [] } ∷ []) 200; fields = []; content = []; trailers = [] }

abbrev pub InterimResponse : Type 0
InterimResponse = IsAnswer default_bounds (0x01 ∷ 0x40 ∷ 0x67 ∷ 0x00 ∷ 0x40 ∷ 0xc8 ∷ 0x00 ∷ []) (whole hinted Both 0)
    × (canon hinted ≡ 0x03 ∷ 0x40 ∷ 0x67 ∷ 0x00 ∷ 0x40 ∷ 0xc8 ∷ 0x00 ∷ 0x00 ∷ 0x00 ∷ [])

-- a pseudo-field with an empty value
abbrev pub field_b : Field
field_b = record { name = codes ":b"; value = [] }

-- It may stand in a header section.
abbrev pub PseudoField : Type 0
PseudoField = IsAnswer default_bounds (0x00 ∷ (get_bytes ++ (0x04 ∷ 0x02 ∷ 0x3a ∷ 0x62 ∷ 0x00 ∷ []))) (whole (get (field_b ∷ [])) Both 0)
    × (canon (get (field_b ∷ [])) ≡ 0x02 ∷ (get_bytes ++ (0x02 ∷ 0x3a ∷ 0x62 ∷ 0x00 ∷ 0x00 ∷ 0x00 ∷ 0x00 ∷ [])))

-- One byte more than the limit of the input; what stands before it is a message.
abbrev pub InputTooLong : Type 0
InputTooLong = IsAnswer (record { part = Some 8192; section = Some 65536; interims = Some 16; input = Some 15 })
    (0x00 ∷ (get_bytes ++ (0x00 ∷ 0x00 ∷ []))) (refused (TooLong 15))

-- The first byte shows a framing number of 256 or more.
abbrev pub FramingTooGreat : Type 0
FramingTooGreat = IsAnswer default_bounds (0x41 ∷ []) (refused (Dead 0 parts.Framing))

-- The input ends where the header section begins, which can't be left out.
abbrev pub HeaderSectionMissing : Type 0
HeaderSectionMissing = IsAnswer default_bounds (0x00 ∷ get_bytes) (refused (Ended 14 parts.SectionLength))

-- The vectors of RFC 9000, appendix A.1.
abbrev pub IntegerVectors : Type 0
IntegerVectors = (vi 151288809941952652 Eight ≡ 0xc2 ∷ 0x19 ∷ 0x7c ∷ 0x5e ∷ 0xff ∷ 0x14 ∷ 0xe8 ∷ 0x8c ∷ [])
    × (vi 494878333 Four ≡ 0x9d ∷ 0x7f ∷ 0x3e ∷ 0x7d ∷ [])
    × (vi 15293 Two ≡ 0x7b ∷ 0xbd ∷ [])
    × (vi 37 One ≡ 0x25 ∷ [])
    × (vi 37 Two ≡ 0x40 ∷ 0x25 ∷ [])

-- The ends of each width, in least width.
abbrev pub IntegerBoundaries : Type 0
IntegerBoundaries = (int 63 ≡ 0x3f ∷ [])
    × (int 64 ≡ 0x40 ∷ 0x40 ∷ [])
    × (int 8192 ≡ 0x60 ∷ 0x00 ∷ [])
    × (int 16383 ≡ 0x7f ∷ 0xff ∷ [])
    × (int 16384 ≡ 0x80 ∷ 0x00 ∷ 0x40 ∷ 0x00 ∷ [])
    × (int 1073741823 ≡ 0xbf ∷ 0xff ∷ 0xff ∷ 0xff ∷ [])
    × (int 1073741824 ≡ 0xc0 ∷ 0x00 ∷ 0x00 ∷ 0x00 ∷ 0x40 ∷ 0x00 ∷ 0x00 ∷ 0x00 ∷ [])

-- text that ends with a line feed
abbrev pub ended : List ℕ → List ℕ
ended text = text ++ 10 ∷ []

-- The listing of a request with content.
abbrev pub RequestListed : Type 0
RequestListed = show (record {
  start = request (record { method = codes "POST"; scheme = codes "https"; authority = []; path = codes "/" });
  fields = [];
  content = codes "abc";
  trailers = [];
}) ≡ ended (codes "request") ++ ended (codes "method POST") ++ ended (codes "scheme https") ++ ended (codes "authority \"\"")
    ++ ended (codes "path \"/\"") ++ ended (codes "content 616263") ++ ended (codes "end")

-- The listing of a response behind an interim one, with a value that isn't text and one that is, and a trailer.
abbrev pub ResponseListed : Type 0
ResponseListed = show (record {
  start = response (record { status = 103; fields = record { name = codes "a"; value = 0x80 ∷ 9 ∷ 0x80 ∷ [] } ∷ [] } ∷ []) 200;
  fields = record { name = codes "b"; value = codes "c d" } ∷ [];
  content = [];
  trailers = record { name = codes "t"; value = codes "\"" } ∷ [];
}) ≡ ended (codes "response") ++ ended (codes "interim 103") ++ ended (codes "field a hex:800980") ++ ended (codes "status 200")
    ++ ended (codes "field b \"c d\"") ++ ended (codes "trailer t hex:22") ++ ended (codes "end")
