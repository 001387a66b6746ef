-- The canonical text of a message as a text of the grammar, with the content that is whole with each byte.
use Rattle.std.proofs.Common.{◌≡◌, ◌≤◌, ◌<◌, ℕ, if◌then◌else◌, List, [], ◌∷◌, ◌++◌, length, All, flat_map, refl, ap, ap₂, ◌∙◌, arith}
use Rattle.std.proofs.lemmas.List.Elements.{All-head, All-tail, All-weaker}
use Rattle.bh_spec.specs.declared.Part.TheVariants as parts
use Rattle.bh_spec.specs.declared.Form.TheVariants.{Indeterminate}
use Rattle.bh_spec.specs.declared.Omitted.TheVariants.{Nothing}
use Rattle.bh_spec.specs.Bounds.{Bounds}
use Rattle.bh_spec.specs.Integers.{int, least_width}
use Rattle.bh_spec.specs.Messages.{Start, request, response, Message, IsValid, kind_of}
use Rattle.bh_spec.specs.Texts.{Text, mark, content_in, IsNumber, IsRun, ◌then◌, AreEach}
use Rattle.bh_spec.specs.Sections.{IsSection}
use Rattle.bh_spec.specs.Tails.{IsBody, IsTail}
use Rattle.bh_spec.specs.Spelling.{IsInterimText, IsStartText, framing, Spells}
use Rattle.bh_spec.specs.Canonical.{section, start, cut, Fits, greatest, integers}
use Rattle.bh_spec.proofs.Marks.{content-append}
use Rattle.bh_spec.proofs.Sections.{IsChunkText}
use Rattle.bh_spec.proofs.Widths.{least_fits}
use Rattle.bh_spec.proofs.Written.{Has, IsPiece, cut_pieces, cut_whole, has_int, has_start, has_written_section, small_framing, headers_lower, trailers_lower}
use Rattle.bh_stream.specs.Outputs.{Output, weighed, plain, shown}
use Rattle.bh_stream.proofs.Outputs.{weighed-append, weighed_plain, weighed_shown}
use Rattle.bh_reading.specs.ContentLaws.{section_none, number_none, each_none, request_none, interim_none}
use Rattle.bh_canonical.specs.Owed.{chunk_out, chunks_out}

-- some text of the grammar weighs this
abbrev pub Weighs : (Text → Type 0) → Output → Type 0
Weighs R out = (t : Text) × R t × (weighed t ≡ out)

weighs_then : (R T : Text → Type 0) (x y : Output) → Weighs R x → Weighs T y → Weighs (R then T) (x ++ y)
weighs_then R T x y h k = (h.0 ++ k.0, (h.0, k.0, h.1, k.1, refl), weighed-append h.0 k.0 ∙ ap₂ (λ (v w : Output). v ++ w) h.2 k.2)

-- ---- what has no content

of_has : (R : Text → Type 0) (bytes : List ℕ) → ((t : Text) → R t → content_in t ≡ 0) → Has R bytes → Weighs R (plain bytes)
of_has R bytes plain_is h = (h.0, h.1, weighed_plain h.0 (plain_is h.0 h.1) ∙ ap plain h.2)

start_none : (L : Bounds) (a : Start) (t : Text) → IsStartText L Indeterminate a t → content_in t ≡ 0
start_none L (request c) t h = request_none L c t h
start_none L (response interims status) t h =
    let s = h.1 in
    omega (
      arith,
      ap content_in s.4,
      content-append s.0 s.1,
      each_none (IsInterimText L Indeterminate) (interim_none L Indeterminate) interims s.0 s.2,
      number_none parts.Status refl status s.1 s.3,
    )

-- ---- content

weighed_length : (x : List ℕ) → weighed (mark parts.ChunkLength x) ≡ plain x
weighed_length [] = refl
weighed_length (b ∷ x) = ap (λ (l : Output). plain (b ∷ []) ++ l) (weighed_length x)

chunk_weighs : (c : List ℕ) → length c ≤ greatest → Weighs (IsChunkText c) (chunk_out c)
chunk_weighs c h =
    weighs_then (IsNumber parts.ChunkLength (length c)) (IsRun parts.Content c) (plain (int (length c))) (shown c)
    (mark parts.ChunkLength (int (length c)), record { width = least_width (length c); fits = least_fits (length c) h; spelled = refl }, weighed_length (int (length c)))
    (mark parts.Content c, refl, weighed_shown c)

chunks_weigh : (cs : List (List ℕ)) → All IsPiece cs → Weighs (AreEach IsChunkText cs) (flat_map chunk_out cs)
chunks_weigh [] p = ([], refl, refl)
chunks_weigh (c ∷ cs) p =
    weighs_then (IsChunkText c) (AreEach IsChunkText cs) (chunk_out c) (flat_map chunk_out cs) (chunk_weighs c (omega (arith, (All-head IsPiece c cs p).1))) (chunks_weigh cs (All-tail IsPiece c cs p))

body_weighs : (x : List ℕ) → Weighs (IsBody Indeterminate x) (chunks_out x ++ plain (int 0))
body_weighs x =
    let pieces = cut_pieces (length x) x in
    let both = weighs_then (AreEach IsChunkText (cut 8192 x)) (IsNumber parts.ChunkLength 0) (chunks_out x) (plain (int 0)) (chunks_weigh (cut 8192 x) pieces)
    (of_has (IsNumber parts.ChunkLength 0) (int 0) (number_none parts.ChunkLength refl 0) (has_int parts.ChunkLength 0 (omega arith))) in
    (both.0, (cut 8192 x, cut_whole (length x) x (omega arith), All-weaker IsPiece (λ y. 0 < length y) (λ y p. p.0) (cut 8192 x) pieces, both.1), both.2)

-- ---- a message

abbrev pub weight : Message → Output
weight m = plain (int (framing (kind_of m.start) Indeterminate)) ++ (plain (start Indeterminate m.start) ++ (plain (section Indeterminate m.fields)
    ++ ((chunks_out m.content ++ plain (int 0)) ++ (plain (section Indeterminate m.trailers) ++ []))))

pub message_weighs : (L : Bounds) (m : Message) → IsValid m → Fits integers m → Fits L m → Weighs (Spells L m Nothing 0) (weight m)
message_weighs L m v small fits =
    let framed : Weighs (IsNumber parts.Framing (framing (kind_of m.start) Indeterminate)) (plain (int (framing (kind_of m.start) Indeterminate))) =
    of_has (IsNumber parts.Framing (framing (kind_of m.start) Indeterminate)) (int (framing (kind_of m.start) Indeterminate)) (number_none parts.Framing refl (framing (kind_of m.start) Indeterminate))
    (has_int parts.Framing (framing (kind_of m.start) Indeterminate) (small_framing (kind_of m.start) Indeterminate)) in
    let started = of_has (IsStartText L Indeterminate m.start) (start Indeterminate m.start) (start_none L m.start) (has_start L Indeterminate m.start v.start small.start fits.start) in
    let fields = of_has (IsSection L Indeterminate m.fields) (section Indeterminate m.fields) (section_none L Indeterminate m.fields)
    (has_written_section L Indeterminate m.fields (headers_lower m.fields v.fields, (small.fields, fits.fields))) in
    let trailers = of_has (IsSection L Indeterminate m.trailers) (section Indeterminate m.trailers) (section_none L Indeterminate m.trailers)
    (has_written_section L Indeterminate m.trailers (trailers_lower m.trailers v.trailers, (small.trailers, fits.trailers))) in
    let padding : Weighs (IsRun parts.Padding []) [] = ([], refl, refl) in
    let ended = weighs_then (IsSection L Indeterminate m.trailers) (IsRun parts.Padding []) (plain (section Indeterminate m.trailers)) [] trailers padding in
    let tail : Weighs (IsTail L Indeterminate m.content m.trailers Nothing 0) ((chunks_out m.content ++ plain (int 0)) ++ (plain (section Indeterminate m.trailers) ++ [])) =
    weighs_then (IsBody Indeterminate m.content) (IsSection L Indeterminate m.trailers then IsRun parts.Padding []) (chunks_out m.content ++ plain (int 0)) (plain (section Indeterminate m.trailers) ++ []) (body_weighs m.content) ended in
    let behind = weighs_then (IsSection L Indeterminate m.fields) (IsTail L Indeterminate m.content m.trailers Nothing 0) (plain (section Indeterminate m.fields))
    ((chunks_out m.content ++ plain (int 0)) ++ (plain (section Indeterminate m.trailers) ++ [])) fields tail in
    let all = weighs_then (IsStartText L Indeterminate m.start) (IsSection L Indeterminate m.fields then IsTail L Indeterminate m.content m.trailers Nothing 0) (plain (start Indeterminate m.start))
    (plain (section Indeterminate m.fields) ++ ((chunks_out m.content ++ plain (int 0)) ++ (plain (section Indeterminate m.trailers) ++ []))) started behind in
    let whole = weighs_then (IsNumber parts.Framing (framing (kind_of m.start) Indeterminate)) (IsStartText L Indeterminate m.start then IsSection L Indeterminate m.fields then IsTail L Indeterminate m.content m.trailers Nothing 0)
    (plain (int (framing (kind_of m.start) Indeterminate)))
    (plain (start Indeterminate m.start) ++ (plain (section Indeterminate m.fields) ++ ((chunks_out m.content ++ plain (int 0)) ++ (plain (section Indeterminate m.trailers) ++ [])))) framed all in
    (whole.0, record { valid = v; form = Indeterminate; text = whole.1 }, whole.2)
