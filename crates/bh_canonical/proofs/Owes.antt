-- What is owed for the items of a message is its canonical text.
use Rattle.std.proofs.Common.{◌≡◌, ◌≤◌, ℕ, Bool, true, false, List, [], ◌∷◌, ◌++◌, map, flat_map, refl, sym, ap, ◌∙◌, append_assoc, append-nil}
use Rattle.std.proofs.lemmas.List.{map-append}
use Rattle.bh_spec.specs.declared.Kind.TheVariants.{Request, Response}
use Rattle.bh_spec.specs.declared.Form.TheVariants.{Indeterminate}
use Rattle.bh_spec.specs.declared.Omitted.{Omitted}
use Rattle.bh_spec.specs.declared.Omitted.TheVariants as omits
use Rattle.bh_spec.specs.Bounds.{Bounds}
use Rattle.bh_spec.specs.Integers.{int}
use Rattle.bh_spec.specs.Messages.{Field, Interim, Start, request, response, Message, IsValid, kind_of}
use Rattle.bh_spec.specs.Texts.{Text}
use Rattle.bh_spec.specs.Tails.{IsTail}
use Rattle.bh_spec.specs.Spelling.{framing, Spells}
use Rattle.bh_spec.specs.Viable.{IsMessageText}
use Rattle.bh_spec.specs.Canonical.{string, section, interim, start, cut, canon, Fits}
use Rattle.bh_spec.specs.Items.{Item, trailer_items, ending, start_items, tail_items, items}
use Rattle.bh_spec.proofs.Fitting.{fits_where_spelled}
use Rattle.bh_model.specs.Ranges.{AreLimits}
use Rattle.bh_stream.specs.Outputs.{Output, written, shown_in, weighed, plain}
use Rattle.bh_stream.specs.Logs.{HasBody}
use Rattle.bh_stream.specs.Messages.{ShowsMessages}
use Rattle.bh_stream.proofs.Outputs.{written-append, written_plain}
use Rattle.bh_stream.proofs.Messages.{shows_front}
use Rattle.bh_encode.specs.Calls.{interim_call, request_head, response_head, at_start, text_of, texts, head_calls}
use Rattle.bh_encode.proofs.Together.{response_texts, canon_parts}
use Rattle.bh_reading.proofs.Fits.{message_held}
use Rattle.bh_stream.specs.Tails.{trailers_of}
use Rattle.bh_stream.proofs.Tails.{no_content}
use Rattle.bh_canonical.specs.Owed.{chunks_out, end_out, tail_owed, message_owed}
use Rattle.bh_canonical.proofs.Owing.{tail_behind, rest_due, written_chunks}
use Rattle.bh_canonical.proofs.Weighs.{weight, message_weighs}

plain-append : (x y : List ℕ) → plain (x ++ y) ≡ plain x ++ plain y
plain-append x y = map-append (λ (b : ℕ). let z : ℕ × ℕ = (0, b) in z) x y

-- ---- the head

abbrev heads : Start → List Field → List ℕ
heads a fields = texts (at_start (kind_of a)) (head_calls a fields)

response_owed : (begun : Bool) (interims : List Interim) (status : ℕ) (fields : List Field) (q : List Item)
    → message_owed begun (start_items (response interims status) fields ++ q)
    ≡ plain (texts (record { kind = Response; begun = begun }) (head_calls (response interims status) fields)) ++ tail_owed [] q
response_owed begun [] status fields q =
    ap (λ (l : List ℕ). plain l ++ tail_owed [] q) (sym (append-nil (text_of (record { kind = Response; begun = begun }) (response_head status fields))))
response_owed begun (i ∷ interims) status fields q =
    let first = text_of (record { kind = Response; begun = begun }) (interim_call i) in
    let more = texts (record { kind = Response; begun = true }) (head_calls (response interims status) fields) in
    ap (λ (o : Output). plain first ++ o) (response_owed true interims status fields q)
    ∙ sym (append_assoc (plain first) (plain more) (tail_owed [] q))
    ∙ ap (λ (o : Output). o ++ tail_owed [] q) (sym (plain-append first more))

head_owed : (a : Start) (fields : List Field) (q : List Item) → message_owed false (start_items a fields ++ q) ≡ plain (heads a fields) ++ tail_owed [] q
head_owed (request control) fields q = ap (λ (l : List ℕ). plain l ++ tail_owed [] q) (sym (append-nil (text_of (at_start Request) (request_head control fields))))
head_owed (response interims status) fields q = response_owed false interims status fields q

-- ---- the content and the end

-- a trailer section that is left out is empty
abbrev pub IsLeftOut : Message → Omitted → Type 0
IsLeftOut m o = (o ≡ omits.Nothing → ⊥) → m.trailers ≡ []

left_out : (m : Message) (o : Omitted) (z : ℕ) → IsLeftOut m o → trailers_of (trailer_items o m.trailers ++ ending o z ∷ []) ≡ m.trailers
left_out m omits.Nothing z h = refl
left_out m omits.Trailers z h = sym (h (λ e. absurd cc))
left_out m omits.Both z h = sym (h (λ e. absurd cc))

spelled_left_out : (L : Bounds) (m : Message) (o : Omitted) (z : ℕ) (t : Text) → Spells L m o z t → IsLeftOut m o
spelled_left_out L m o z t h = by_tail o h.text.3.3.1 h.text.3.3.3
  where
    by_tail : (o : Omitted) (u : Text) → IsTail L h.form m.content m.trailers o z u → IsLeftOut m o
    by_tail omits.Nothing u tail = λ some. absurd (some refl)
    by_tail omits.Trailers u tail = λ some. tail.0
    by_tail omits.Both u tail = λ some. tail.1

-- what is owed for a message
message_due : (m : Message) (o : Omitted) (z : ℕ) → IsLeftOut m o → message_owed false (items m o z) ≡ plain (heads m.start m.fields) ++ (chunks_out m.content ++ end_out m.trailers)
message_due m o z h =
    let end = trailer_items o m.trailers ++ ending o z ∷ [] in
    head_owed m.start m.fields (tail_items m.content m.trailers o z)
    ∙ ap (λ (l : Output). plain (heads m.start m.fields) ++ l)
    (tail_behind [] m.content end ∙ rest_due m.content end (no_content o z m.trailers) ∙ ap (λ (l : List Field). chunks_out m.content ++ end_out l) (left_out m o z h))

-- its bytes are the canonical text
pub owes_items : (m : Message) (o : Omitted) (z : ℕ) → IsLeftOut m o → written (message_owed false (items m o z)) ≡ canon m
owes_items m o z h =
    ap written (message_due m o z h)
    ∙ written-append (plain (heads m.start m.fields)) (chunks_out m.content ++ end_out m.trailers)
    ∙ ap (λ (l : List ℕ). l ++ written (chunks_out m.content ++ end_out m.trailers)) (written_plain (heads m.start m.fields))
    ∙ ap (λ (l : List ℕ). heads m.start m.fields ++ l)
    (written-append (chunks_out m.content) (end_out m.trailers)
    ∙ ap (λ (l : List ℕ). l ++ written (end_out m.trailers)) (written_chunks m.content)
    ∙ ap (λ (l : List ℕ). flat_map string (cut 8192 m.content) ++ l) (written_plain (int 0 ++ section Indeterminate m.trailers)))
    ∙ canon_parts m

pub owes_canon : (L : Bounds) (m : Message) (o : Omitted) (z : ℕ) (t : Text) → Spells L m o z t → written (message_owed false (items m o z)) ≡ canon m
owes_canon L m o z t h = owes_items m o z (spelled_left_out L m o z t h)

-- ---- it is a text of the grammar, with its content

-- what the head sends, part by part
heads_are : (a : Start) (fields : List Field) → heads a fields ≡ int (framing (kind_of a) Indeterminate) ++ (start Indeterminate a ++ section Indeterminate fields)
heads_are (request control) fields = append-nil (int (framing Request Indeterminate) ++ (start Indeterminate (request control) ++ section Indeterminate fields))
heads_are (response interims status) fields =
    let number = int (framing Response Indeterminate) in
    let before = flat_map (interim Indeterminate) interims in
    ap (texts (at_start Response)) (sym (append-nil (map interim_call interims ++ response_head status fields ∷ [])))
    ∙ response_texts false Response interims status fields [] [] (λ e. refl)
    ∙ ap (λ (l : List ℕ). number ++ (before ++ (int status ++ l))) (append-nil (section Indeterminate fields))
    ∙ ap (λ (l : List ℕ). number ++ l) (sym (append_assoc before (int status) (section Indeterminate fields)))

weight_is : (m : Message) → weight m ≡ plain (heads m.start m.fields) ++ (chunks_out m.content ++ end_out m.trailers)
weight_is m =
    let number = int (framing (kind_of m.start) Indeterminate) in
    let begin = start Indeterminate m.start in
    let fields = section Indeterminate m.fields in
    let trailers = section Indeterminate m.trailers in
    let chunks = chunks_out m.content in
    let tail : (chunks ++ plain (int 0)) ++ (plain trailers ++ []) ≡ chunks ++ end_out m.trailers =
    ap (λ (o : Output). (chunks ++ plain (int 0)) ++ o) (append-nil (plain trailers)) ∙ append_assoc chunks (plain (int 0)) (plain trailers)
    ∙ ap (λ (o : Output). chunks ++ o) (sym (plain-append (int 0) trailers)) in
    ap (λ (o : Output). plain number ++ (plain begin ++ (plain fields ++ o))) tail
    ∙ ap (λ (o : Output). plain number ++ o) (sym (append_assoc (plain begin) (plain fields) (chunks ++ end_out m.trailers)) ∙ ap (λ (o : Output). o ++ (chunks ++ end_out m.trailers)) (sym (plain-append begin fields)))
    ∙ sym (append_assoc (plain number) (plain (begin ++ fields)) (chunks ++ end_out m.trailers))
    ∙ ap (λ (o : Output). o ++ (chunks ++ end_out m.trailers)) (sym (plain-append number (begin ++ fields)) ∙ ap plain (sym (heads_are m.start m.fields)))

-- a text of a message, of which each front shows the content that it has
text_owed : (L : Bounds) → AreLimits L → (m : Message) → IsValid m → Fits L m → (o : Omitted) (z : ℕ) → IsLeftOut m o → (x : Text) × (message_owed false (items m o z) ≡ weighed x) × IsMessageText L x
text_owed L limits m valid fits o z h =
    let x = message_weighs L m valid (message_held L limits m fits) fits in
    (x.0, message_due m o z h ∙ sym (weight_is m) ∙ sym x.2, (m, omits.Nothing, 0, x.1))

pub shows_items : (L : Bounds) → AreLimits L → (m : Message) → IsValid m → Fits L m → (o : Omitted) (z : ℕ) → IsLeftOut m o → (front more : Output) → message_owed false (items m o z) ≡ front ++ more
    → (n : ℕ) → HasBody (IsMessageText L) (written front) n → shown_in front ≤ n
shows_items L limits m valid fits o z h = let x = text_owed L limits m valid fits o z h in shows_front L (message_owed false (items m o z)) x.0 x.1 x.2

pub shows_content : (L : Bounds) → AreLimits L → ShowsMessages L (HasBody (IsMessageText L)) (message_owed false)
shows_content L limits s t h =
    shows_items L limits s.message h.valid (fits_where_spelled L s.message s.omitted s.padding t h) s.omitted s.padding (spelled_left_out L s.message s.omitted s.padding t h)
