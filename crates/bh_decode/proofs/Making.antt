-- The message that was gathered, and the answer for its input.
use Rattle.std.proofs.Common.{◌≡◌, ◌<◌, ◌≤◌, ◌+◌, ◌-◌, ℕ, Option, Some, None, Result, Ok, Err, List, [], ◌∷◌, ◌++◌, length, take, drop, map, option_map, refl, sym, ap, ap₂, subst, ◌∙◌, append-nil, arith}
use Rattle.std.proofs.lemmas.List.{length-drop}
use Rattle.std.proofs.Math.Seq.{take-add, take-length}
use Rattle.std.proofs.Common.{take-append-drop}
use Rattle.bh_spec.specs.declared.Form.{Form}
use Rattle.bh_spec.specs.declared.Omitted.{Omitted}
use Rattle.bh_spec.specs.declared.Omitted.TheVariants.{Nothing, Trailers, Both}
use Rattle.bh_spec.specs.declared.Refusal.{Refusal}
use Rattle.bh_spec.specs.Answers.{Answer, whole, refused, IsAnswer}
use Rattle.bh_spec.specs.Bounds.{Bounds}
use Rattle.bh_spec.specs.Messages.{Field, Control, Interim, Start, request, response, Message, IsValid}
use Rattle.bh_spec.specs.Items.{Item, Head, of_request, of_response, interim_response, head, content_byte, trailer_section, ending, start_items, tail_items, trailer_items, items}
use Rattle.bh_spec.specs.Tails.{IsTail}
use Rattle.bh_spec.specs.Texts.{Text}
use Rattle.bh_model.specs.Values.{control_of, control_in, status_in, request_of, IsGoodRequest}
use Rattle.bh_model.specs.Lines.{FieldsView}
use Rattle.bh_model.specs.declared.control_data.Control as stored
use Rattle.bh_push.specs.Feeding.{Push, ArePushed, bytes_pushed, items_pushed, held_behind, AnswersAnyPieces}
use Rattle.bh_push.specs.Pushes.{DecoderView, Finishes, Fails}
use Rattle.bh_push.specs.Hands.{Held, start_held, Handed, control_shown, status_shown}
use Rattle.bh_push.specs.Standing.{head_behind}
use Rattle.bh_push.proofs.Feeding.{one_answer_for_any_pieces, pushed_on, behind_on, bytes_on, items_on}
use Rattle.bh_decode.specs.declared.gathered.Gathered.{Gathered}
use Rattle.bh_decode.specs.Gathering.{interims_handed, header_handed, content_handed, trailers_handed, IsGathered, Gathers, IsRefusal, interims_of, AreParts}
use Rattle.bh_decode.specs.Answering.{SaysMessage, IsOnlyMessage}
use Rattle.bh_decode.specs.declared.spelling.ReadError.{ReadError}
use Rattle.bh_decode.specs.declared.spelling.ReadError.TheVariants.{Refused, NoMemory}
use Rattle.bh_decode.proofs.Answered.{one_answer}
use Rattle.bh_decode.proofs.Gathering.{interims_on, head_on, header_on, content_on, trailers_on, interims_in_content, head_in_content, header_in_content, content_in_content, trailers_in_content}

-- ---- the items of a message, gathered

interims_of_each : (interims : List Interim) → interims_handed (map (λ (i : Interim). interim_response i.status i.fields) interims) ≡ interims
interims_of_each [] = refl
interims_of_each (i ∷ interims) = ap (λ (x : List Interim). i ∷ x) (interims_of_each interims)

head_of_each : (interims : List Interim) (before : Option Head) → head_behind (map (λ (i : Interim). interim_response i.status i.fields) interims) before ≡ before
head_of_each [] before = refl
head_of_each (i ∷ interims) before = head_of_each interims before

header_of_each : (interims : List Interim) (before : List Field) → header_handed (map (λ (i : Interim). interim_response i.status i.fields) interims) before ≡ before
header_of_each [] before = refl
header_of_each (i ∷ interims) before = header_of_each interims before

content_of_each : (interims : List Interim) → content_handed (map (λ (i : Interim). interim_response i.status i.fields) interims) ≡ []
content_of_each [] = refl
content_of_each (i ∷ interims) = content_of_each interims

trailers_of_each : (interims : List Interim) (before : List Field) → trailers_handed (map (λ (i : Interim). interim_response i.status i.fields) interims) before ≡ before
trailers_of_each [] before = refl
trailers_of_each (i ∷ interims) before = trailers_of_each interims before

-- ---- behind the head

last : (trailers : List Field) (omitted : Omitted) (padding : ℕ) → List Item
last trailers omitted padding = trailer_items omitted trailers ++ ending omitted padding ∷ []

tail_interims : (content : List ℕ) (trailers : List Field) (omitted : Omitted) (padding : ℕ) → interims_handed (tail_items content trailers omitted padding) ≡ []
tail_interims content trailers Nothing padding = interims_on (map content_byte content) (trailer_section trailers ∷ ending Nothing padding ∷ []) ∙ ap (λ (x : List Interim). x ++ []) (interims_in_content content)
tail_interims content trailers Trailers padding = interims_on (map content_byte content) (ending Trailers padding ∷ []) ∙ ap (λ (x : List Interim). x ++ []) (interims_in_content content)
tail_interims content trailers Both padding = interims_on (map content_byte content) (ending Both padding ∷ []) ∙ ap (λ (x : List Interim). x ++ []) (interims_in_content content)

tail_head : (content : List ℕ) (trailers : List Field) (omitted : Omitted) (padding : ℕ) (before : Option Head) → head_behind (tail_items content trailers omitted padding) before ≡ before
tail_head content trailers Nothing padding before = head_on (map content_byte content) (trailer_section trailers ∷ ending Nothing padding ∷ []) before ∙ head_in_content content before
tail_head content trailers Trailers padding before = head_on (map content_byte content) (ending Trailers padding ∷ []) before ∙ head_in_content content before
tail_head content trailers Both padding before = head_on (map content_byte content) (ending Both padding ∷ []) before ∙ head_in_content content before

tail_header : (content : List ℕ) (trailers : List Field) (omitted : Omitted) (padding : ℕ) (before : List Field) → header_handed (tail_items content trailers omitted padding) before ≡ before
tail_header content trailers Nothing padding before = header_on (map content_byte content) (trailer_section trailers ∷ ending Nothing padding ∷ []) before ∙ header_in_content content before
tail_header content trailers Trailers padding before = header_on (map content_byte content) (ending Trailers padding ∷ []) before ∙ header_in_content content before
tail_header content trailers Both padding before = header_on (map content_byte content) (ending Both padding ∷ []) before ∙ header_in_content content before

tail_content : (content : List ℕ) (trailers : List Field) (omitted : Omitted) (padding : ℕ) → content_handed (tail_items content trailers omitted padding) ≡ content
tail_content content trailers Nothing padding =
    content_on (map content_byte content) (trailer_section trailers ∷ ending Nothing padding ∷ []) ∙ append-nil (content_handed (map content_byte content)) ∙ content_in_content content
tail_content content trailers Trailers padding = content_on (map content_byte content) (ending Trailers padding ∷ []) ∙ append-nil (content_handed (map content_byte content)) ∙ content_in_content content
tail_content content trailers Both padding = content_on (map content_byte content) (ending Both padding ∷ []) ∙ append-nil (content_handed (map content_byte content)) ∙ content_in_content content

-- what is left out is empty
abbrev pub IsLeftOut : Omitted → List Field → Type 0
IsLeftOut Nothing trailers = Unit {0}
IsLeftOut Trailers trailers = trailers ≡ []
IsLeftOut Both trailers = trailers ≡ []

tail_trailers : (content : List ℕ) (trailers : List Field) (omitted : Omitted) (padding : ℕ) → IsLeftOut omitted trailers → trailers_handed (tail_items content trailers omitted padding) [] ≡ trailers
tail_trailers content trailers Nothing padding h = trailers_on (map content_byte content) (trailer_section trailers ∷ ending Nothing padding ∷ []) []
tail_trailers content trailers Trailers padding h = trailers_on (map content_byte content) (ending Trailers padding ∷ []) [] ∙ trailers_in_content content [] ∙ sym h
tail_trailers content trailers Both padding h = trailers_on (map content_byte content) (ending Both padding ∷ []) [] ∙ trailers_in_content content [] ∙ sym h

-- ---- all of them

record Made (m : Message) (q : List Item) : Type 0 where
  pub interims : interims_handed q ≡ interims_of m.start
  pub control : control_shown (head_behind q None) ≡ control_in m.start
  pub status : status_shown (head_behind q None) ≡ status_in m.start
  pub fields : header_handed q [] ≡ m.fields
  pub content : content_handed q ≡ m.content
  pub trailers : trailers_handed q [] ≡ m.trailers

made : (start : Start) (fields : List Field) (content : List ℕ) (trailers : List Field) (omitted : Omitted) (padding : ℕ) → IsLeftOut omitted trailers
    → Made (record { start = start; fields = fields; content = content; trailers = trailers }) (start_items start fields ++ tail_items content trailers omitted padding)
made (request control) fields content trailers omitted padding h = record {
  interims = tail_interims content trailers omitted padding;
  control = ap control_shown (tail_head content trailers omitted padding (Some (of_request control)));
  status = ap status_shown (tail_head content trailers omitted padding (Some (of_request control)));
  fields = tail_header content trailers omitted padding fields;
  content = tail_content content trailers omitted padding;
  trailers = tail_trailers content trailers omitted padding h;
}
made (response interims status) fields content trailers omitted padding h =
    let each : List Item = map (λ (i : Interim). interim_response i.status i.fields) interims in
    let first : List Item = each ++ head (of_response status) fields ∷ [] in
    let rest : List Item = tail_items content trailers omitted padding in
    let shown : head_behind (first ++ rest) None ≡ Some (of_response status) =
    head_on first rest None ∙ ap (head_behind rest) (head_on each (head (of_response status) fields ∷ []) None) ∙ tail_head content trailers omitted padding (Some (of_response status)) in
    record {
      interims = interims_on first rest ∙ ap (λ (x : List Interim). interims_handed first ++ x) (tail_interims content trailers omitted padding) ∙ append-nil (interims_handed first)
          ∙ interims_on each (head (of_response status) fields ∷ []) ∙ append-nil (interims_handed each) ∙ interims_of_each interims;
      control = ap control_shown shown;
      status = ap status_shown shown;
      fields = header_on first rest [] ∙ ap (header_handed rest) (header_on each (head (of_response status) fields ∷ []) []) ∙ tail_header content trailers omitted padding fields;
      content = content_on first rest ∙ ap (λ (x : List ℕ). x ++ content_handed rest) (content_on each (head (of_response status) fields ∷ []) ∙ append-nil (content_handed each) ∙ content_of_each interims)
          ∙ tail_content content trailers omitted padding;
      trailers = trailers_on first rest [] ∙ ap (trailers_handed rest) (trailers_on each (head (of_response status) fields ∷ []) [] ∙ trailers_of_each interims []) ∙ tail_trailers content trailers omitted padding h;
    }

left_out : (L : Bounds) (m : Message) (omitted : Omitted) (padding : ℕ) (form : Form) (t : Text) → IsTail L form m.content m.trailers omitted padding t → IsLeftOut omitted m.trailers
left_out L m Nothing padding form t h = tt
left_out L m Trailers padding form t h = h.0
left_out L m Both padding form t h = h.1

-- what is gathered of a message are its parts
parts_of : (g : Gathered) (m : Message) (q : List Item) (omitted : Omitted) (padding : ℕ) → IsLeftOut omitted m.trailers → items m omitted padding ≡ q ++ ending omitted padding ∷ [] → IsGathered g q → AreParts g m
parts_of g m q omitted padding h e s =
    let all : List Item = items m omitted padding in
    let end : List Item = ending omitted padding ∷ [] in
    let p : Made m all = made m.start m.fields m.content m.trailers omitted padding h in
    record {
      interims = s.interims ∙ sym (append-nil (interims_handed q)) ∙ sym (interims_on q end) ∙ sym (ap interims_handed e) ∙ p.interims;
      control = s.control ∙ sym (ap control_shown (head_on q end None)) ∙ sym (ap (λ (x : List Item). control_shown (head_behind x None)) e) ∙ p.control;
      status = s.status ∙ sym (ap status_shown (head_on q end None)) ∙ sym (ap (λ (x : List Item). status_shown (head_behind x None)) e) ∙ p.status;
      fields = s.fields ∙ sym (header_on q end []) ∙ sym (ap (λ (x : List Item). header_handed x []) e) ∙ p.fields;
      content = s.content ∙ sym (append-nil (content_handed q)) ∙ sym (content_on q end) ∙ sym (ap content_handed e) ∙ p.content;
      trailers = s.trailers ∙ sym (trailers_on q end []) ∙ sym (ap (λ (x : List Item). trailers_handed x []) e) ∙ p.trailers;
      interims_ended = s.interims_ended;
      fields_ended = s.fields_ended;
      trailers_ended = s.trailers_ended;
    }

-- ---- the message is made

request_is : (start : Start) (fields : List Field) (content : List ℕ) (trailers : List Field) (control : stored.Control) (f : FieldsView) (x : List ℕ) (t : FieldsView)
    → Some (control_of control) ≡ control_in start → f.lines ≡ fields → x ≡ content → t.lines ≡ trailers
    → request_of control f x t ≡ record { start = start; fields = fields; content = content; trailers = trailers }
request_is (request c) fields content trailers control f x t e a b d =
    let same : control_of control ≡ c = cc in
    ap (λ (y : Control). record { start = request y; fields = f.lines; content = x; trailers = t.lines }) same
    ∙ ap (λ (y : List Field). record { start = request c; fields = y; content = x; trailers = t.lines }) a
    ∙ ap (λ (y : List ℕ). record { start = request c; fields = fields; content = y; trailers = t.lines }) b
    ∙ ap (λ (y : List Field). record { start = request c; fields = fields; content = content; trailers = y }) d
request_is (response interims status) fields content trailers control f x t e a b d = absurd cc

pub good_request : (g : Gathered) (m : Message) (control : stored.Control) (x : List ℕ) → g.control ≡ Some control → x ≡ g.content.items → IsValid m → AreParts g m
    → IsGoodRequest control g.fields x g.trailers
good_request g m control x e f valid p = (
  subst IsValid (sym (request_is m.start m.fields m.content m.trailers control g.fields x g.trailers (sym (ap (option_map control_of) e) ∙ p.control) p.fields (f ∙ p.content) p.trailers)) valid,
  p.fields_ended,
  p.trailers_ended,
)

-- ---- the loop

-- the first bytes were pushed, and what they yielded was gathered
pub record Sofar (L : Bounds) (bytes : List ℕ) (at : ℕ) (d : Held) (g : Gathered) : Type 0 where
  pub inside : at ≤ length bytes
  pub pushes : List Push
  pub pushed : ArePushed (start_held L None) pushes
  pub behind : held_behind (start_held L None) pushes ≡ d
  pub bytes_are : bytes_pushed pushes ≡ take at bytes
  pub gathered : IsGathered g (items_pushed pushes)

pub sofar_start : (L : Bounds) (bytes : List ℕ) (d : Held) (g : Gathered) → d ≡ start_held L None → IsGathered g [] → Sofar L bytes 0 d g
sofar_start L bytes d g e s = record { inside = omega arith; pushes = []; pushed = tt; behind = sym e; bytes_are = refl; gathered = s }

pub sofar_on : (L : Bounds) (bytes rest : List ℕ) (at taken : ℕ) (d w : Held) (g h : Gathered) → rest ≡ drop at bytes → Sofar L bytes at d g → Gathers d g rest taken w h
    → Sofar L bytes (at + taken) w h
sofar_on L bytes rest at taken d w g h e s k =
    let p : Push = record { piece = rest; taken = taken; yields = k.1; behind = w } in
    record {
      inside = omega (arith, s.inside, k.2.took.takes.inside, ap length e, length-drop at bytes);
      pushes = s.pushes ++ p ∷ [];
      pushed = pushed_on (start_held L None) s.pushes p s.pushed (subst (λ (v : Held). Handed v rest taken k.1 w) (sym s.behind) k.2);
      behind = behind_on (start_held L None) s.pushes p;
      bytes_are = bytes_on s.pushes p ∙ ap (λ (x : List ℕ). x ++ take taken rest) s.bytes_are ∙ ap (λ (x : List ℕ). take at bytes ++ take taken x) e ∙ sym (take-add at taken bytes);
      gathered = subst (IsGathered h) (sym (items_on s.pushes p)) (k.3 (items_pushed s.pushes) s.gathered);
    }

pub sofar_less : (L : Bounds) (bytes rest : List ℕ) (at taken : ℕ) (d w : Held) (g h : Gathered) → Gathers d g rest taken w h → rest ≡ drop at bytes → at ≤ length bytes
    → length bytes - (at + taken) < length bytes - at
sofar_less L bytes rest at taken d w g h k e inside = omega (arith, k.0, inside, k.2.took.takes.inside, ap length e, length-drop at bytes)

-- ---- how it ends

answers : (L : Bounds) (bytes : List ℕ) (at : ℕ) (d : Held) (g : Gathered) (s : Sofar L bytes at d g) → AnswersAnyPieces L s.pushes d
answers L bytes at d g s = subst (AnswersAnyPieces L s.pushes) s.behind (one_answer_for_any_pieces L None s.pushes s.pushed)

pub says_refused : (L : Bounds) (bytes rest : List ℕ) (at : ℕ) (d w : Held) (g : Gathered) (e : ReadError) → rest ≡ drop at bytes → Sofar L bytes at d g → IsRefusal d rest w e
    → SaysMessage L bytes (Err e)
says_refused L bytes rest at d w g (Refused r) f s h =
    let all : bytes_pushed s.pushes ++ (rest ++ []) ≡ bytes = ap₂ (λ (x y : List ℕ). x ++ y) s.bytes_are (append-nil rest ∙ f) ∙ take-append-drop at bytes in
    subst (λ (x : List ℕ). IsAnswer L x (refused r)) all ((answers L bytes at d g s).refuses rest [] r w h)
says_refused L bytes rest at d w g NoMemory f s h = tt

whole_bytes : (L : Bounds) (bytes : List ℕ) (at : ℕ) (d : Held) (g : Gathered) (s : Sofar L bytes at d g) → length bytes ≤ at → bytes_pushed s.pushes ≡ bytes
whole_bytes L bytes at d g s h = s.bytes_are ∙ ap (λ (n : ℕ). take n bytes) (let e : at ≡ length bytes = omega (arith, h, s.inside) in e) ∙ take-length bytes

pub says_failed : (L : Bounds) (bytes : List ℕ) (at : ℕ) (d : Held) (g : Gathered) (r : Refusal) (w : DecoderView) → length bytes ≤ at → Sofar L bytes at d g
    → Fails d.decoder.refusal d.decoder r w → SaysMessage L bytes (Err (Refused r))
says_failed L bytes at d g r w h s f = subst (λ (x : List ℕ). IsAnswer L x (refused r)) (whole_bytes L bytes at d g s h) ((answers L bytes at d g s).fails r w f)

-- the message, whose parts were gathered
pub record Ready (L : Bounds) (bytes : List ℕ) (g : Gathered) : Type 0 where
  pub message : Message
  pub omitted : Omitted
  pub padding : ℕ
  pub valid : IsValid message
  pub parts : AreParts g message
  pub answer : IsAnswer L bytes (whole message omitted padding)

pub ready : (L : Bounds) (bytes : List ℕ) (at : ℕ) (d : Held) (g : Gathered) (omitted : Omitted) (padding : ℕ) (w : DecoderView) → length bytes ≤ at → Sofar L bytes at d g
    → Finishes d.decoder omitted padding w → Ready L bytes g
ready L bytes at d g omitted padding w h s f =
    let a = (answers L bytes at d g s).ends omitted padding w f in
    let spelled = a.2.1.spelled in
    record {
      message = a.0;
      omitted = omitted;
      padding = padding;
      valid = spelled.valid;
      parts = parts_of g a.0 (items_pushed s.pushes) omitted padding (left_out L a.0 omitted padding spelled.form spelled.text.3.3.1 spelled.text.3.3.3) a.1 s.gathered;
      answer = subst (λ (x : List ℕ). IsAnswer L x (whole a.0 omitted padding)) (whole_bytes L bytes at d g s h) a.2;
    }

pub says_made : (L : Bounds) (bytes : List ℕ) (g : Gathered) (message : Message) → (r : Ready L bytes g) → ((m : Message) → IsValid m → AreParts g m → message ≡ m) → SaysMessage L bytes (Ok message)
says_made L bytes g message r h = (r.omitted, r.padding, subst (λ (m : Message). IsAnswer L bytes (whole m r.omitted r.padding)) (sym (h r.message r.valid r.parts)) r.answer)

pub only_message : (L : Bounds) (bytes : List ℕ) (answer : Answer) (result : Result Message ReadError) → SaysMessage L bytes result → IsAnswer L bytes answer → IsOnlyMessage answer result
only_message L bytes answer (Ok message) s a = (s.0, s.1, one_answer L bytes answer (whole message s.0 s.1) a s.2)
only_message L bytes answer (Err (Refused r)) s a = one_answer L bytes answer (refused r) a s
only_message L bytes answer (Err NoMemory) s a = tt
