-- What is owed for content, and for a message.
use Rattle.std.proofs.Common.{◌≡◌, ◌<◌, ◌+◌, ◌*◌, ◌/◌, ℕ, Bool, true, false, List, [], ◌∷◌, ◌++◌, length, map, flat_map, refl, sym, ap, ap₂, ◌∙◌, append_assoc, append-nil, arith}
use Rattle.std.proofs.lemmas.List.{length-append, length-drop, take-append-drop}
use Rattle.bh_spec.specs.declared.Kind.{Kind}
use Rattle.bh_spec.specs.declared.Kind.TheVariants.{Request, Response}
use Rattle.bh_spec.specs.declared.Form.{Form}
use Rattle.bh_spec.specs.declared.Omitted.{Omitted}
use Rattle.bh_spec.specs.declared.Omitted.TheVariants.{Nothing, Trailers, Both}
use Rattle.bh_spec.specs.Bounds.{Bounds}
use Rattle.bh_spec.specs.Messages.{Field, Interim, Start, request, response, Message}
use Rattle.bh_spec.specs.Texts.{Text}
use Rattle.bh_spec.specs.Tails.{IsTail}
use Rattle.bh_spec.specs.Spelling.{Spells}
use Rattle.bh_spec.specs.Listing.{Line, a_response, status, field, trailer, the_end, interim_lines, start_lines, content_lines, lines_of, joined, show}
use Rattle.bh_spec.specs.Items.{Item, content_byte, ending, interim_response, head, of_response, start_items, trailer_items, tail_items, items}
use Rattle.bh_stream.specs.Outputs.{written}
use Rattle.bh_text.specs.Showing.{first_line, filled, unfilled}
use Rattle.bh_text.proofs.Cutting.{parts, lines_on, lines_behind, filled_size}
use Rattle.bh_listing.specs.Owed.{Lister, at_start, lines_owed, owed}
use Rattle.bh_listing.proofs.Outputs.{output_bytes}

-- content in two parts
filled_twice : (a b : List ℕ) → (filled a ++ filled (unfilled a ++ b) ≡ filled (a ++ b)) × (unfilled (unfilled a ++ b) ≡ unfilled (a ++ b))
filled_twice a b =
    let m = unfilled a ++ b in
    let all : a ++ b ≡ (filled a ++ filled m) ++ unfilled m =
    ap (λ (l : List ℕ). l ++ b) (sym (take-append-drop (length a / 32 * 32) a)) ∙ append_assoc (filled a) (unfilled a) b
    ∙ ap (λ (l : List ℕ). filled a ++ l) (sym (take-append-drop (length m / 32 * 32) m)) ∙ sym (append_assoc (filled a) (filled m) (unfilled m)) in
    parts (length a / 32 + length m / 32) (a ++ b) (filled a ++ filled m) (unfilled m) all
    (omega (arith, length-append (filled a) (filled m), filled_size a, filled_size m)) (omega (arith, length-drop (length m / 32 * 32) m))

lines_twice : (a b : List ℕ) → content_lines (filled a) ++ content_lines (filled (unfilled a ++ b)) ≡ content_lines (filled (a ++ b))
lines_twice a b = sym (lines_on (length a / 32) (filled a) (filled (unfilled a ++ b)) (filled_size a)) ∙ ap content_lines (filled_twice a b).0

-- nothing more fills no line
none_filled : (bytes : List ℕ) → length bytes < 32 → (filled (bytes ++ []) ≡ []) × (unfilled (bytes ++ []) ≡ bytes)
none_filled bytes few = let p = parts 0 (bytes ++ []) [] bytes (append-nil bytes) refl few in (sym p.0, sym p.1)

pub few_wait : (bytes : List ℕ) → length (unfilled bytes) < 32
few_wait bytes = omega (arith, length-drop (length bytes / 32 * 32) bytes)

-- a writer behind its first call, where these bytes wait
abbrev pub started : Kind → Bool → List ℕ → Lister
started kind ended waiting = record { writer = record { kind = kind; begun = true; waiting = waiting }; ended = ended }

pub content_owed : (kind : Kind) (ended : Bool) (waiting bytes : List ℕ) (q : List Item) → length waiting < 32
    → lines_owed (started kind ended waiting) (map content_byte bytes ++ q)
    ≡ content_lines (filled (waiting ++ bytes)) ++ lines_owed (started kind ended (unfilled (waiting ++ bytes))) q
content_owed kind ended waiting [] q few =
    let none = none_filled waiting few in
    ap₂ (λ (a b : List ℕ). content_lines a ++ lines_owed (started kind ended b) q) (sym none.0) (sym none.1)
content_owed kind ended waiting (x ∷ bytes) q few =
    let a = waiting ++ (x ∷ []) in
    let all : a ++ bytes ≡ waiting ++ (x ∷ bytes) = append_assoc waiting (x ∷ []) bytes in
    ap (λ (l : List Line). content_lines (filled a) ++ l) (content_owed kind ended (unfilled a) bytes q (few_wait a))
    ∙ sym (append_assoc (content_lines (filled a)) (content_lines (filled (unfilled a ++ bytes))) (lines_owed (started kind ended (unfilled (unfilled a ++ bytes))) q))
    ∙ ap₂ (λ (l : List Line) (b : List ℕ). l ++ lines_owed (started kind ended b) q) (lines_twice a bytes) (filled_twice a bytes).1
    ∙ ap (λ (l : List ℕ). content_lines (filled l) ++ lines_owed (started kind ended (unfilled l)) q) all

-- ---- a message

-- the lines behind the head
abbrev tail_lines : List ℕ → List Field → List Line
tail_lines content trailers = content_lines content ++ (map trailer trailers ++ (the_end ∷ []))

-- a trailer section that is left out is empty
abbrev IsLeftOut : Omitted → List Field → Type 0
IsLeftOut Nothing trailers = Unit {0}
IsLeftOut Trailers trailers = trailers ≡ []
IsLeftOut Both trailers = trailers ≡ []

end_owed : (kind : Kind) (waiting : List ℕ) (trailers : List Field) (o : Omitted) (z : ℕ) → IsLeftOut o trailers
    → lines_owed (started kind false waiting) (trailer_items o trailers ++ ending o z ∷ []) ≡ tail_lines waiting trailers
end_owed kind waiting trailers Nothing z h = append-nil (tail_lines waiting trailers)
end_owed kind waiting trailers Trailers z h = append-nil (tail_lines waiting []) ∙ ap (tail_lines waiting) (sym h)
end_owed kind waiting trailers Both z h = append-nil (tail_lines waiting []) ∙ ap (tail_lines waiting) (sym h)

tail_owed : (kind : Kind) (content : List ℕ) (trailers : List Field) (o : Omitted) (z : ℕ) → IsLeftOut o trailers
    → lines_owed (started kind false []) (tail_items content trailers o z) ≡ tail_lines content trailers
tail_owed kind content trailers o z h =
    let end = map trailer trailers ++ (the_end ∷ []) in
    content_owed kind false [] content (trailer_items o trailers ++ ending o z ∷ []) (omega arith)
    ∙ ap (λ (l : List Line). content_lines (filled content) ++ l) (end_owed kind (unfilled content) trailers o z h)
    ∙ sym (append_assoc (content_lines (filled content)) (content_lines (unfilled content)) end)
    ∙ ap (λ (l : List Line). l ++ end)
    (ap (λ (l : List ℕ). content_lines (filled content) ++ content_lines l) (sym (append-nil (unfilled content))) ∙ lines_behind content [] ∙ ap content_lines (append-nil content))

response_owed : (begun : Bool) (interims : List Interim) (n : ℕ) (fields : List Field) (q : List Item)
    → lines_owed (record { writer = record { kind = Response; begun = begun; waiting = [] }; ended = false })
    (map (λ (i : Interim). interim_response i.status i.fields) interims ++ (head (of_response n) fields ∷ q))
    ≡ first_line begun Response ++ (flat_map interim_lines interims ++ (status n ∷ (map field fields ++ lines_owed (started Response false []) q)))
response_owed true [] n fields q = refl
response_owed false [] n fields q = refl
response_owed true (i ∷ interims) n fields q =
    ap (λ (l : List Line). interim_lines i ++ l) (response_owed true interims n fields q)
    ∙ sym (append_assoc (interim_lines i) (flat_map interim_lines interims) (status n ∷ (map field fields ++ lines_owed (started Response false []) q)))
response_owed false (i ∷ interims) n fields q =
    ap (λ (l : List Line). a_response ∷ (interim_lines i ++ l)) (response_owed true interims n fields q)
    ∙ ap (λ (l : List Line). a_response ∷ l) (sym (append_assoc (interim_lines i) (flat_map interim_lines interims) (status n ∷ (map field fields ++ lines_owed (started Response false []) q))))

start_owed : (a : Start) (fields : List Field) (q : List Item) (behind : List Line) → ((kind : Kind) → lines_owed (started kind false []) q ≡ behind)
    → lines_owed at_start (start_items a fields ++ q) ≡ start_lines a ++ (map field fields ++ behind)
start_owed (request c) fields q behind same = ap (λ (l : List Line). start_lines (request c) ++ (map field fields ++ l)) (same Request)
start_owed (response interims n) fields q behind same =
    of_any interims
    ∙ ap (λ (l : List Line). a_response ∷ (flat_map interim_lines interims ++ (status n ∷ (map field fields ++ l)))) (same Response)
    ∙ ap (λ (l : List Line). a_response ∷ l) (sym (append_assoc (flat_map interim_lines interims) (status n ∷ []) (map field fields ++ behind)))
  where
    of_any : (is : List Interim)
        → lines_owed at_start (start_items (response is n) fields ++ q)
        ≡ a_response ∷ (flat_map interim_lines is ++ (status n ∷ (map field fields ++ lines_owed (started Response false []) q)))
    of_any [] = refl
    of_any (i ∷ is) =
        ap (λ (l : List Line). a_response ∷ (interim_lines i ++ l))
        (ap (lines_owed (started Response false [])) (append_assoc (map (λ (j : Interim). interim_response j.status j.fields) is) (head (of_response n) fields ∷ []) q) ∙ response_owed true is n fields q)
        ∙ ap (λ (l : List Line). a_response ∷ l) (sym (append_assoc (interim_lines i) (flat_map interim_lines is) (status n ∷ (map field fields ++ lines_owed (started Response false []) q))))

left_out : (L : Bounds) (form : Form) (content : List ℕ) (trailers : List Field) (o : Omitted) (z : ℕ) (t : Text) → IsTail L form content trailers o z t → IsLeftOut o trailers
left_out L form content trailers Nothing z t h = tt
left_out L form content trailers Trailers z t h = h.0
left_out L form content trailers Both z t h = h.1

pub lines_at_start : (L : Bounds) (m : Message) (o : Omitted) (z : ℕ) (t : Text) → Spells L m o z t → lines_owed at_start (items m o z) ≡ lines_of m
lines_at_start L m o z t h =
    let tail = h.text.3.3.3 in
    start_owed m.start m.fields (tail_items m.content m.trailers o z) (tail_lines m.content m.trailers)
    (λ kind. tail_owed kind m.content m.trailers o z (left_out L h.form m.content m.trailers o z _ tail))

pub owes_show : (L : Bounds) (m : Message) (o : Omitted) (z : ℕ) (t : Text) → Spells L m o z t → written (owed at_start (items m o z)) ≡ show m
owes_show L m o z t h = output_bytes (lines_owed at_start (items m o z)) ∙ ap joined (lines_at_start L m o z t h)
