-- Texts that grow in memory, piece by piece.
use Rattle.std.proofs.Common.{◌≡◌, ◌+◌, ℕ, List, [], ◌∷◌, ◌++◌, length, take, map, flat_map, Some, slice_get, sym, ap, ◌∙◌, append_assoc, append-nil}
use Rattle.std.proofs.lemmas.List.{length-append}
use Rattle.bh_spec.specs.declared.Form.TheVariants.{Known}
use Rattle.bh_spec.specs.Messages.{Field, Start, request, response}
use Rattle.bh_spec.specs.Canonical.{string, line, lines, start, interim}
use Rattle.bh_base.proofs.Putting.{take_one, text_more}
use Rattle.bh_model.specs.declared.control_data.Control as stored
use Rattle.bh_model.specs.declared.informational.Interim as held
use Rattle.bh_model.specs.Values.{control_of, interim_of, control_in}

-- one line more, in bytes and in text
pub bytes_more : (fields : List Field) (i : ℕ) (field : Field) → slice_get fields i ≡ Some field
    → length (lines (take (i + 1) fields)) ≡ length (lines (take i fields)) + (length (string field.name) + length (string field.value))
bytes_more fields i field got =
    ap length (sym (text_more line fields i field got)) ∙ length-append (lines (take i fields)) (string field.name ++ string field.value)
    ∙ ap (λ (n : ℕ). length (lines (take i fields)) + n) (length-append (string field.name) (string field.value))

pub line_added : (text before after : List ℕ) (fields : List Field) (i : ℕ) (field : Field) → slice_get fields i ≡ Some field → before ≡ text ++ lines (take i fields)
    → after ≡ (before ++ string field.name) ++ string field.value → after ≡ text ++ lines (take (i + 1) fields)
line_added text before after fields i field got so_far e =
    e ∙ append_assoc before (string field.name) (string field.value)
    ∙ ap (λ (x : List ℕ). x ++ (string field.name ++ string field.value)) so_far
    ∙ append_assoc text (lines (take i fields)) (string field.name ++ string field.value)
    ∙ ap (λ (x : List ℕ). text ++ x) (text_more line fields i field got)

-- ---- what a message begins with

abbrev pub interims_text : List held.Interim → List ℕ
interims_text interims = flat_map (interim Known) (map interim_of interims)

pub request_text : (a : Start) (c : stored.Control) → Some (control_of c) ≡ control_in a → start Known (request (control_of c)) ≡ start Known a
request_text (request d) c e = let same : control_of c ≡ d = cc in ap (λ x. start Known (request x)) same
request_text (response interims status) c e = absurd cc

texts_more : (interims : List held.Interim) (one : held.Interim) → interims_text (interims ++ one ∷ []) ≡ interims_text interims ++ interim Known (interim_of one)
texts_more [] one = append-nil (interim Known (interim_of one))
texts_more (i ∷ interims) one = ap (λ (x : List ℕ). interim Known (interim_of i) ++ x) (texts_more interims one) ∙ sym (append_assoc (interim Known (interim_of i)) (interims_text interims) (interim Known (interim_of one)))

pub interim_added : (text before after : List ℕ) (interims : List held.Interim) (i : ℕ) (one : held.Interim) → slice_get interims i ≡ Some one → before ≡ text ++ interims_text (take i interims)
    → after ≡ before ++ interim Known (interim_of one) → after ≡ text ++ interims_text (take (i + 1) interims)
interim_added text before after interims i one got so_far e =
    let more : interims_text (take (i + 1) interims) ≡ interims_text (take i interims) ++ interim Known (interim_of one) =
    ap interims_text (take_one interims i one got) ∙ texts_more (take i interims) one in
    e ∙ ap (λ (x : List ℕ). x ++ interim Known (interim_of one)) so_far ∙ append_assoc text (interims_text (take i interims)) (interim Known (interim_of one)) ∙ ap (λ (x : List ℕ). text ++ x) (sym more)
