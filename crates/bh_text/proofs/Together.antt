-- The texts of the calls for a message, one behind the other, are its listing.
use Rattle.std.proofs.Common.{◌≡◌, ℕ, Bool, true, false, List, [], ◌∷◌, ◌++◌, map, flat_map, refl, sym, ap, ◌∙◌, append_assoc, append-nil}
use Rattle.bh_spec.specs.declared.Kind.{Kind}
use Rattle.bh_spec.specs.declared.Kind.TheVariants.{Request, Response}
use Rattle.bh_spec.specs.Messages.{Field, Interim, Start, request, response, kind_of}
use Rattle.bh_spec.specs.Listing.{Line, a_request, a_response, status, field, trailer, the_end, interim_lines, start_lines, content_lines, joined}
use Rattle.bh_text.specs.Showing.{Writer, Call, at_start, first_line, control_lines, lines_sent, after, text_of, texts, interim_call, response_head, content, finish, head_calls, calls_of, filled, unfilled, SendsListing}
use Rattle.bh_text.proofs.Sections.{joined-append}
use Rattle.bh_text.proofs.Cutting.{lines_behind}

-- the lines of several calls
abbrev lines : Writer → List Call → List Line
lines w [] = []
lines w (call ∷ calls) = lines_sent w call ++ lines (after w call) calls

texts_of_lines : (w : Writer) (calls : List Call) → texts w calls ≡ joined (lines w calls)
texts_of_lines w [] = refl
texts_of_lines w (call ∷ calls) = ap (λ (x : List ℕ). text_of w call ++ x) (texts_of_lines (after w call) calls) ∙ sym (joined-append (lines_sent w call) (lines (after w call) calls))

abbrev gathered : List (List ℕ) → List ℕ
gathered = flat_map (λ piece. piece)

abbrev end_lines : List Field → List Line
end_lines trailers = map trailer trailers ++ (the_end ∷ [])

-- content in these pieces, and the end
content_then : (w : Writer) (pieces : List (List ℕ)) (trailers : List Field)
    → lines w (map content pieces ++ finish trailers ∷ []) ≡ content_lines (w.waiting ++ gathered pieces) ++ end_lines trailers
content_then w [] trailers = append-nil (content_lines w.waiting ++ end_lines trailers) ∙ ap (λ (l : List ℕ). content_lines l ++ end_lines trailers) (sym (append-nil w.waiting))
content_then w (piece ∷ pieces) trailers =
    let all = w.waiting ++ piece in
    let behind = unfilled all ++ gathered pieces in
    ap (λ (l : List Line). content_lines (filled all) ++ l) (content_then (after w (content piece)) pieces trailers)
    ∙ sym (append_assoc (content_lines (filled all)) (content_lines behind) (end_lines trailers))
    ∙ ap (λ (l : List Line). l ++ end_lines trailers) (lines_behind all (gathered pieces))
    ∙ ap (λ (l : List ℕ). content_lines l ++ end_lines trailers) (append_assoc w.waiting piece (gathered pieces))

-- a response's interim responses and head, and what follows
response_then : (begun : Bool) (kind : Kind) (interims : List Interim) (n : ℕ) (fields : List Field) (calls : List Call) (behind : List Line)
    → ((w : Writer) → w.waiting ≡ [] → lines w calls ≡ behind)
    → lines (record { kind = kind; begun = begun; waiting = [] }) ((map interim_call interims ++ response_head n fields ∷ []) ++ calls)
    ≡ first_line begun kind ++ (flat_map interim_lines interims ++ (status n ∷ (map field fields ++ behind)))
response_then begun kind [] n fields calls behind same =
    ap (λ (l : List Line). (first_line begun kind ++ (status n ∷ map field fields)) ++ l) (same (record { kind = kind; begun = true; waiting = [] }) refl)
    ∙ append_assoc (first_line begun kind) (status n ∷ map field fields) behind
response_then begun kind (i ∷ interims) n fields calls behind same =
    ap (λ (l : List Line). (first_line begun kind ++ interim_lines i) ++ l) (response_then true kind interims n fields calls behind same)
    ∙ append_assoc (first_line begun kind) (interim_lines i) (flat_map interim_lines interims ++ (status n ∷ (map field fields ++ behind)))
    ∙ ap (λ (l : List Line). first_line begun kind ++ l) (sym (append_assoc (interim_lines i) (flat_map interim_lines interims) (status n ∷ (map field fields ++ behind))))

start_then : (a : Start) (fields : List Field) (calls : List Call) (behind : List Line) → ((w : Writer) → w.waiting ≡ [] → lines w calls ≡ behind)
    → lines (at_start (kind_of a)) (head_calls a fields ++ calls) ≡ start_lines a ++ (map field fields ++ behind)
start_then (request c) fields calls behind same =
    ap (λ (l : List Line). ((a_request ∷ []) ++ (control_lines c ++ map field fields)) ++ l) (same (record { kind = Request; begun = true; waiting = [] }) refl)
start_then (response interims n) fields calls behind same =
    response_then false Response interims n fields calls behind same
    ∙ ap (λ (l : List Line). a_response ∷ l) (sym (append_assoc (flat_map interim_lines interims) (status n ∷ []) (map field fields ++ behind)))

pub sends_listing : SendsListing
sends_listing m pieces e =
    texts_of_lines (at_start (kind_of m.start)) (calls_of m pieces)
    ∙ ap joined (start_then m.start m.fields (map content pieces ++ finish m.trailers ∷ []) (content_lines m.content ++ end_lines m.trailers)
    (λ w none. content_then w pieces m.trailers ∙ ap (λ (l : List ℕ). content_lines (l ++ gathered pieces) ++ end_lines m.trailers) none ∙ ap (λ (l : List ℕ). content_lines l ++ end_lines m.trailers) (sym e)))
