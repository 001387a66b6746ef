-- What is owed for the items of a message is its text with its marks.
use Rattle.std.proofs.Common.{◌≡◌, Bool, false, ℕ, List, [], ◌∷◌, ◌++◌, map, flat_map, refl, sym, ap, ap₂, ◌∙◌, append_assoc, append-nil}
use Rattle.std.proofs.lemmas.Grind.{flat_map-append}
use Rattle.bh_spec.specs.declared.Omitted.{Omitted}
use Rattle.bh_spec.specs.declared.Omitted.TheVariants.{Nothing, Trailers, Both}
use Rattle.bh_spec.specs.Messages.{Field, Interim, Start, request, response, Message}
use Rattle.bh_spec.specs.Items.{Item, interim_response, head, ending, Head, of_request, of_response, start_items, tail_items, trailer_items, items}
use Rattle.h1_spec.specs.declared.Framing1.{Framing1}
use Rattle.h1_spec.specs.declared.Framing1.TheVariants.{Empty, Counted, Chunked, ToEnd}
use Rattle.h1_spec.specs.Grammar.{crlf}
use Rattle.h1_spec.specs.Http1Text.{field_line, field_lines, interim_text, start_line, said_host, head_text, framing_written, coding_lines, text_of}
use Rattle.h1_spec.specs.Written.{coding_line}
use Rattle.h1_spec.specs.Laws.{LeavesOut}
use Rattle.h1_spec.specs.Http1.{start_of}
use Rattle.bh_spec.specs.Texts.{Text}
use Rattle.h1_spec.specs.Marks.{as_framing, marked_body, marked_text}
use Rattle.h1_spec.proofs.BodyMarks.{framing-append}
use Rattle.h1_spec.proofs.MarkedTexts.{marks_the_text}
use Rattle.bh_stream.specs.Outputs.{Output, written, weighed, plain}
use Rattle.bh_stream.proofs.Outputs.{weighed_bytes, weighed-append, weighed_shown}
use Rattle.bh_stream.specs.Tails.{trailers_of}
use Rattle.bh_stream.proofs.Tails.{content_behind, trailers_behind, no_content}
use Rattle.h1_text.specs.Owed.{body_out, is_chunked, head_front, head_end, final_out, message_of, at_start, owed}
use Rattle.h1_text.specs.Laws.{OwesTheText}
use Rattle.h1_text.proofs.Owing.{plain-append, weighs_framing, chunked_weighs}

-- ---- the head

coding_is : (f : Framing1) → coding_lines f ≡ coding_line (is_chunked f)
coding_is Empty = refl
coding_is (Counted n) = refl
coding_is Chunked = refl
coding_is ToEnd = refl

pub lines_on : (a b : List Field) → field_lines (a ++ b) ≡ field_lines a ++ field_lines b
lines_on a b = flat_map-append field_line a b

-- a start line and two runs of fields
pub split_head : (start : List ℕ) (a b : List Field) → start ++ (field_lines (a ++ b) ++ crlf) ≡ (start ++ field_lines a) ++ (field_lines b ++ crlf)
split_head start a b =
    ap (λ (l : List ℕ). start ++ (l ++ crlf)) (lines_on a b) ∙ ap (λ (l : List ℕ). start ++ l) (append_assoc (field_lines a) (field_lines b) crlf)
    ∙ sym (append_assoc start (field_lines a) (field_lines b ++ crlf))

-- a head is its front and its end
pub head_is : (f : Framing1) (m : Message) → head_text f m ≡ head_front m.start m.fields ++ head_end (is_chunked f)
head_is f m =
    let first = said_host m.start ++ m.fields in
    ap (λ (l : List Field). start_line m.start ++ (field_lines l ++ crlf)) (sym (append_assoc (said_host m.start) m.fields (coding_lines f)))
    ∙ split_head (start_line m.start) first (coding_lines f)
    ∙ ap (λ (l : List Field). head_front m.start m.fields ++ (field_lines l ++ crlf)) (coding_is f)

-- ---- the head and the body

-- a head and a body behind it
bodied_is : (f : Framing1) (m : Message) → body_out (is_chunked f) m.content m.trailers ≡ weighed (marked_body f m)
    → plain (head_front m.start m.fields ++ head_end (is_chunked f)) ++ body_out (is_chunked f) m.content m.trailers ≡ weighed (as_framing (head_text f m) ++ marked_body f m)
bodied_is f m weighs =
    ap₂ (λ (a b : Output). a ++ b) (ap plain (sym (head_is f m)) ∙ weighs_framing (head_text f m)) weighs
    ∙ sym (weighed-append (as_framing (head_text f m)) (marked_body f m))

final_is : (f : Framing1) (m : Message) → final_out f (head_front m.start m.fields) m.content m.trailers ≡ weighed (as_framing (head_text f m) ++ marked_body f m)
final_is Empty m = ap plain (sym (head_is Empty m)) ∙ weighs_framing (head_text Empty m) ∙ ap weighed (sym (append-nil (as_framing (head_text Empty m))))
final_is (Counted n) m = bodied_is (Counted n) m (sym (weighed_shown m.content))
final_is Chunked m = bodied_is Chunked m (chunked_weighs m.content m.trailers)
final_is ToEnd m = bodied_is ToEnd m (sym (weighed_shown m.content))

-- ---- the items

abbrev made : Start → List Field → List ℕ → List Field → Message
made start fields content trailers = record { start = start; fields = fields; content = content; trailers = trailers }

end_trailers : (m : Message) (omitted : Omitted) (padding : ℕ) → LeavesOut m omitted → trailers_of (trailer_items omitted m.trailers ++ ending omitted padding ∷ []) ≡ m.trailers
end_trailers m Nothing padding h = refl
end_trailers m Trailers padding h = sym h
end_trailers m Both padding h = sym h.1

-- the message of a head and of what comes behind it is the message, but for its interim responses
tail_made : (of : Head) (m : Message) (omitted : Omitted) (padding : ℕ) → LeavesOut m omitted
    → message_of of m.fields (tail_items m.content m.trailers omitted padding) ≡ made (start_of of) m.fields m.content m.trailers
tail_made of m omitted padding h =
    let end = trailer_items omitted m.trailers ++ ending omitted padding ∷ [] in
    ap₂ (λ (c : List ℕ) (ts : List Field). made (start_of of) m.fields c ts)
    (content_behind m.content end ∙ ap (λ (l : List ℕ). m.content ++ l) (no_content omitted padding m.trailers) ∙ append-nil m.content)
    (trailers_behind m.content end ∙ end_trailers m omitted padding h)

head_owed : (to_head : Bool) (of : Head) (m : Message) (omitted : Omitted) (padding : ℕ) → LeavesOut m omitted
    → owed to_head at_start (head of m.fields ∷ tail_items m.content m.trailers omitted padding) ≡ weighed (marked_text to_head (made (start_of of) m.fields m.content m.trailers))
head_owed to_head of m omitted padding h =
    let n = made (start_of of) m.fields m.content m.trailers in
    ap (λ (k : Message). final_out (framing_written to_head k) (head_front k.start k.fields) k.content k.trailers) (tail_made of m omitted padding h)
    ∙ final_is (framing_written to_head n) n ∙ no_interims of
  where
    no_interims : (of : Head) → let n = made (start_of of) m.fields m.content m.trailers in
        weighed (as_framing (head_text (framing_written to_head n) n) ++ marked_body (framing_written to_head n) n) ≡ weighed (marked_text to_head n)
    no_interims (of_request control) = refl
    no_interims (of_response status) = refl

-- informational responses before a head
weighs_heads : (before heads : List ℕ) (body : Text) → plain before ++ weighed (as_framing heads ++ body) ≡ weighed (as_framing (before ++ heads) ++ body)
weighs_heads before heads body =
    ap (λ (a : Output). a ++ weighed (as_framing heads ++ body)) (weighs_framing before)
    ∙ sym (weighed-append (as_framing before) (as_framing heads ++ body))
    ∙ ap weighed (sym (append_assoc (as_framing before) (as_framing heads) body) ∙ ap (λ (t : Text). t ++ body) (sym (framing-append before heads)))

-- the head and the body don't say which came before
any_interims : (f : Framing1) (interims : List Interim) (status : ℕ) (fields : List Field) (content : List ℕ) (trailers : List Field)
    → as_framing (flat_map interim_text interims ++ head_text f (made (response [] status) fields content trailers)) ++ marked_body f (made (response [] status) fields content trailers)
    ≡ as_framing (flat_map interim_text interims ++ head_text f (made (response interims status) fields content trailers)) ++ marked_body f (made (response interims status) fields content trailers)
any_interims Empty interims status fields content trailers = refl
any_interims (Counted n) interims status fields content trailers = refl
any_interims Chunked interims status fields content trailers = refl
any_interims ToEnd interims status fields content trailers = refl

interims_owed : (to_head : Bool) (interims : List Interim) (q : List Item)
    → owed to_head at_start (map (λ interim. interim_response interim.status interim.fields) interims ++ q) ≡ plain (flat_map interim_text interims) ++ owed to_head at_start q
interims_owed to_head [] q = refl
interims_owed to_head (i ∷ interims) q =
    ap (λ (z : Output). plain (interim_text i) ++ z) (interims_owed to_head interims q)
    ∙ sym (append_assoc (plain (interim_text i)) (plain (flat_map interim_text interims)) (owed to_head at_start q))
    ∙ ap (λ (z : Output). z ++ owed to_head at_start q) (sym (plain-append (interim_text i) (flat_map interim_text interims)))

by_start : (to_head : Bool) (start : Start) (m : Message) (omitted : Omitted) (padding : ℕ) → LeavesOut m omitted
    → owed to_head at_start (start_items start m.fields ++ tail_items m.content m.trailers omitted padding) ≡ weighed (marked_text to_head (made start m.fields m.content m.trailers))
by_start to_head (request control) m omitted padding h = head_owed to_head (of_request control) m omitted padding h
by_start to_head (response interims status) m omitted padding h =
    let tail : List Item = tail_items m.content m.trailers omitted padding in
    let at_head : Item = head (of_response status) m.fields in
    let n : Message = made (response [] status) m.fields m.content m.trailers in
    let f : Framing1 = framing_written to_head n in
    ap (λ (q : List Item). owed to_head at_start q) (append_assoc (map (λ (interim : Interim). interim_response interim.status interim.fields) interims) (at_head ∷ []) tail)
    ∙ interims_owed to_head interims (at_head ∷ tail)
    ∙ ap (λ (z : Output). plain (flat_map interim_text interims) ++ z) (head_owed to_head (of_response status) m omitted padding h)
    ∙ weighs_heads (flat_map interim_text interims) (head_text f n) (marked_body f n)
    ∙ ap weighed (any_interims f interims status m.fields m.content m.trailers)

pub owes_the_text : OwesTheText
owes_the_text to_head m omitted padding h = by_start to_head m.start m omitted padding h

-- by its bytes
pub owes_bytes : (to_head : Bool) (m : Message) (omitted : Omitted) (padding : ℕ) → LeavesOut m omitted
    → written (owed to_head at_start (items m omitted padding)) ≡ text_of to_head m
owes_bytes to_head m omitted padding h =
    ap written (owes_the_text to_head m omitted padding h) ∙ weighed_bytes (marked_text to_head m) ∙ marks_the_text to_head m
