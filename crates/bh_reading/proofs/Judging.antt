-- What the decoder of a call says is the answer for the input, and its counts are those of the summary.
use Rattle.std.proofs.Common.{◌≡◌, ◌≤◌, ◌+◌, ◌^◌, ℕ, Option, Some, None, List, [], ◌∷◌, ◌++◌, length, take, refl, sym, ◌∙◌, ap, subst, arith, append-nil}
use Rattle.std.proofs.lemmas.List.{take_all}
use Rattle.std.proofs.lemmas.List.Sums.{sum_by-cons}
use Rattle.bh_spec.specs.declared.Kind.{Kind}
use Rattle.bh_spec.specs.declared.Omitted.{Omitted}
use Rattle.bh_spec.specs.declared.Omitted.TheVariants as omits
use Rattle.bh_spec.specs.declared.Summary.{Summary}
use Rattle.bh_spec.specs.declared.Refusal.{Refusal}
use Rattle.bh_spec.specs.declared.Refusal.TheVariants.{Dead, Limit, Ended, TooLong}
use Rattle.bh_spec.specs.Bounds.{Bounds, IsWithin, no_bounds}
use Rattle.bh_spec.specs.Messages.{Field, Interim, Start, request, response, Message, kind_of}
use Rattle.bh_spec.specs.Texts.{Text}
use Rattle.bh_spec.specs.Pieces.{SomeOf, CanBecome}
use Rattle.bh_spec.specs.Residuals.{IsResidual}
use Rattle.bh_spec.specs.Spelling.{Spells}
use Rattle.bh_spec.specs.Tails.{IsTail}
use Rattle.bh_spec.specs.Answers.{whole, refused, IsAnswer}
use Rattle.bh_spec.specs.Reports.{interim_lines, line_count, summary}
use Rattle.bh_spec.specs.Items.{Item, ending, start_items, tail_items, items}
use Rattle.bh_spec.specs.Runs.{Call, Takes, bytes_taken}
use Rattle.bh_push.specs.Decoders.{At, Rest as rest_at, in_framing}
use Rattle.bh_push.specs.Pushes.{DecoderView, start_view, Finishes, IsBehind, AnswersEveryCut}
use Rattle.bh_push.proofs.Cuts.{one_answer_for_every_cut}
use Rattle.bh_stream.specs.Decoding.{content_items}
use Rattle.bh_stream.specs.Calls.{IsOfByte, IsOfEnd, Judges}
use Rattle.bh_stream.proofs.Moving.{items-append}
use Rattle.bh_reading.specs.Readings.{Counted, rest, lines_in, kind_behind, Moved, IsAtStart, refuses, misses, tells}
use Rattle.bh_reading.specs.ReadingLaws.{lines-append, kind-append}

-- ---- what the items of a message count

pub tail_lines : (content : List ℕ) (trailers : List Field) (o : Omitted) (z : ℕ) → ((o ≡ omits.Nothing → ⊥) → length trailers ≡ 0) → lines_in (tail_items content trailers o z) ≡ length trailers
tail_lines [] trailers omits.Nothing z h = omega arith
tail_lines [] trailers omits.Trailers z h = omega (arith, h (λ e. absurd (cc)))
tail_lines [] trailers omits.Both z h = omega (arith, h (λ e. absurd (cc)))
tail_lines (x ∷ content) trailers o z h = tail_lines content trailers o z h

pub start_lines : (a : Start) (fields : List Field) → lines_in (start_items a fields) ≡ interim_lines a + length fields
start_lines (request c) fields = omega arith
start_lines (response [] status) fields = omega arith
start_lines (response (i ∷ is) status) fields =
    let all : lines_in (start_items (response (i ∷ is) status) fields) ≡ length i.fields + lines_in (start_items (response is status) fields) = refl in
    let sum : interim_lines (response (i ∷ is) status) ≡ length i.fields + interim_lines (response is status) = sum_by-cons (λ (j : Interim). length j.fields) i is in
    omega (arith, all, sum, start_lines (response is status) fields)

pub tail_content : (content : List ℕ) (trailers : List Field) (o : Omitted) (z : ℕ) → content_items (tail_items content trailers o z) ≡ length content
tail_content [] trailers omits.Nothing z = refl
tail_content [] trailers omits.Trailers z = refl
tail_content [] trailers omits.Both z = refl
tail_content (x ∷ content) trailers o z = omega (arith, tail_content content trailers o z)

pub start_content : (a : Start) (fields : List Field) → content_items (start_items a fields) ≡ 0
start_content (request c) fields = refl
start_content (response [] status) fields = refl
start_content (response (i ∷ is) status) fields = start_content (response is status) fields

tail_kind : (content : List ℕ) (trailers : List Field) (o : Omitted) (z : ℕ) (kind : Kind) → kind_behind (tail_items content trailers o z) kind ≡ kind
tail_kind [] trailers omits.Nothing z kind = refl
tail_kind [] trailers omits.Trailers z kind = refl
tail_kind [] trailers omits.Both z kind = refl
tail_kind (x ∷ content) trailers o z kind = tail_kind content trailers o z kind

start_kind : (a : Start) (fields : List Field) (kind : Kind) → kind_behind (start_items a fields) kind ≡ kind_of a
start_kind (request c) fields kind = refl
start_kind (response [] status) fields kind = refl
start_kind (response (i ∷ is) status) fields kind = start_kind (response is status) fields kind

-- a trailer section that is left out is empty
left_out : (L : Bounds) (m : Message) (o : Omitted) (z : ℕ) (t : Text) → Spells L m o z t → (o ≡ omits.Nothing → ⊥) → length m.trailers ≡ 0
left_out L m o z t h k = by_tail o h.text.3.3.1 h.text.3.3.3 k
  where
    by_tail : (o : Omitted) (u : Text) → IsTail L h.form m.content m.trailers o z u → (o ≡ omits.Nothing → ⊥) → length m.trailers ≡ 0
    by_tail omits.Nothing u tail k = absurd (k refl)
    by_tail omits.Trailers u tail k = ap length tail.0
    by_tail omits.Both u tail k = ap length tail.1

message_lines : (L : Bounds) (m : Message) (o : Omitted) (z : ℕ) (t : Text) → Spells L m o z t → lines_in (items m o z) ≡ line_count m
message_lines L m o z t h =
    omega (arith, lines-append (start_items m.start m.fields) (tail_items m.content m.trailers o z), start_lines m.start m.fields, tail_lines m.content m.trailers o z (left_out L m o z t h))

pub message_content : (m : Message) (o : Omitted) (z : ℕ) → content_items (items m o z) ≡ length m.content
message_content m o z =
    omega (arith, items-append (start_items m.start m.fields) (tail_items m.content m.trailers o z), start_content m.start m.fields, tail_content m.content m.trailers o z)

pub message_kind : (m : Message) (o : Omitted) (z : ℕ) (kind : Kind) → kind_behind (items m o z) kind ≡ kind_of m.start
message_kind m o z kind =
    kind-append (start_items m.start m.fields) (tail_items m.content m.trailers o z) kind ∙ tail_kind m.content m.trailers o z (kind_behind (start_items m.start m.fields) kind) ∙ start_kind m.start m.fields kind

-- within the limit of the input
pub within_input : (o : Option ℕ) (limit n : ℕ) → o ≡ Some limit → n ≤ limit → IsWithin o n
within_input (Some k) limit n e h = let same : k ≡ limit = cc in omega (arith, h, same)
within_input None limit n e h = absurd (cc)

pub same_summary : (k k' : Kind) (b b' l l' c c' z : ℕ) (o : Omitted) → k ≡ k' → b ≡ b' → l ≡ l' → c ≡ c'
    → ◌≡◌ {A = Summary} (record { kind = k; bytes = b; lines = l; content = c; padding = z; omitted = o })
    (record { kind = k'; bytes = b'; lines = l'; content = c'; padding = z; omitted = o })
same_summary k k' b b' l l' c c' z o e f g h = λ j. record { kind = e j; bytes = f j; lines = g j; content = h j; padding = z; omitted = o }

-- ---- the answers

module _ (L : Bounds) (few : (m : Message) (o : Omitted) (z : ℕ) (bytes : List ℕ) → IsAnswer L bytes (whole m o z) → (line_count m ≤ 2 ^ 40) × (length m.content ≤ 2 ^ 40)) (v : Counted) (start : IsAtStart L v) where
  limits_at : v.held.decoder.limits ≡ L
  limits_at = ap (λ (d : DecoderView). d.limits) start.decoder

  module _ (w : Counted) (before : List ℕ) (i : List Item) (m : Moved v before i w) where
    abbrev call : Call At
    call = record { piece = before; taken = length before; yields = i; behind = w.held.decoder.at }

    all_taken : take (length before) before ≡ before
    all_taken = take_all (length before) before (omega arith)

    bytes_are : bytes_taken (call ∷ []) ≡ before
    bytes_are = append-nil (take (length before) before) ∙ all_taken

    limits_behind : w.held.decoder.limits ≡ L
    limits_behind = m.limits ∙ limits_at

    taken_behind : w.held.decoder.taken ≡ length before
    taken_behind = omega (arith, m.taken, ap (λ (d : DecoderView). d.taken) start.decoder)

    takes : Takes rest_at L (in_framing []) before (length before) i w.held.decoder.at
    takes =
        let at = ap (λ (d : DecoderView). d.at) start.decoder in
        let within = subst (λ (K : Bounds). IsResidual (rest_at K v.held.decoder.at) before (λ (q : List Item). i ++ q) (rest_at K w.held.decoder.at)) limits_at m.comes.within in
        let within' = subst (λ (a : At). IsResidual (rest_at L a) before (λ (q : List Item). i ++ q) (rest_at L w.held.decoder.at)) at within in
        let anyway' = subst (λ (a : At). IsResidual (rest_at no_bounds a) before (λ (q : List Item). i ++ q) (rest_at no_bounds w.held.decoder.at)) at m.comes.anyway in
        record {
          inside = omega arith;
          within = subst (λ (l : List ℕ). IsResidual (rest_at L (in_framing [])) l (λ (q : List Item). i ++ q) (rest_at L w.held.decoder.at)) (sym all_taken) within';
          anyway = subst (λ (l : List ℕ). IsResidual (rest_at no_bounds (in_framing [])) l (λ (q : List Item). i ++ q) (rest_at no_bounds w.held.decoder.at)) (sym all_taken) anyway';
          goes_on = subst (λ (K : Bounds). CanBecome (SomeOf (rest_at K w.held.decoder.at)) []) limits_at m.comes.goes_on;
        }

    behind : IsBehind L (call ∷ []) w.held.decoder
    behind = record { calls_are = (takes, tt); limits = limits_behind; at = refl; taken = omega (arith, taken_behind, ap length bytes_are) }

    answers : AnswersEveryCut L (call ∷ []) w.held.decoder
    answers = one_answer_for_every_cut L (call ∷ []) w.held.decoder behind

    refused_byte : (piece more : List ℕ) (r : Refusal) → refuses w piece r → IsAnswer L (before ++ (piece ++ more)) (refused r) × IsOfByte (length before) r
    refused_byte piece more r h =
        (subst (λ (l : List ℕ). IsAnswer L (l ++ (piece ++ more)) (refused r)) bytes_are (answers.refuses piece more r h), of_byte r h)
      where
        of_byte : (r : Refusal) → refuses w piece r → IsOfByte (length before) r
        of_byte (Dead at part) h = omega (arith, h.1, taken_behind)
        of_byte (Limit at part) h = omega (arith, h.1, taken_behind)
        of_byte (TooLong at) h = omega (arith, h.1, taken_behind)
        of_byte (Ended at part) h = absurd h

    missed_byte : (r : Refusal) → misses w r → IsAnswer L before (refused r) × IsOfEnd r
    missed_byte (Ended at part) h = (subst (λ (l : List ℕ). IsAnswer L l (refused (Ended at part))) bytes_are (answers.misses at part h), tt)
    missed_byte (Dead at part) h = absurd h
    missed_byte (Limit at part) h = absurd h
    missed_byte (TooLong at) h = absurd h

    told : (o : Omitted) (z : ℕ) (s : Summary) → rest w (ending o z ∷ []) [] → tells w o z s
        → (n : Message) × (items n o z ≡ i ++ ending o z ∷ []) × IsAnswer L before (whole n o z) × (s ≡ summary n o z (length before))
    told o z s h is =
        let end : Finishes w.held.decoder o z (start_view w.held.decoder.limits) = record {
          input = subst (λ (K : Bounds). IsWithin K.input w.held.decoder.taken) (sym limits_behind) (within_input L.input m.input.limit (w.held.decoder.taken) (ap (λ (K : Bounds). K.input) (sym limits_at) ∙ m.input.limit_is) (omega (arith, m.taken, m.input.few)));
          none = m.refusal;
          rest = h;
          start = refl;
        } in
        let a = answers.finishes o z (start_view w.held.decoder.limits) end in
        let same : items a.0 o z ≡ i ++ ending o z ∷ [] = a.1 ∙ ap (λ (q : List Item). q ++ ending o z ∷ []) (append-nil i) in
        let answer = subst (λ (l : List ℕ). IsAnswer L l (whole a.0 o z)) bytes_are a.2 in
        let small = few a.0 o z before answer in
        let lines : lines_in i ≡ line_count a.0 = omega (arith, lines-append i (ending o z ∷ []), ap lines_in same, message_lines L a.0 o z answer.1.text answer.1.spelled) in
        let content : content_items i ≡ length a.0.content = omega (arith, items-append i (ending o z ∷ []), ap content_items same, message_content a.0 o z) in
        let lines_are : w.lines ≡ line_count a.0 = omega (arith, m.lines, start.lines, lines, small.0) in
        let content_are : w.content ≡ length a.0.content = omega (arith, m.content, start.content, content, small.1) in
        let kind_is : w.kind ≡ kind_of a.0.start = m.kind ∙ sym (kind-append i (ending o z ∷ []) v.kind) ∙ ap (λ (q : List Item). kind_behind q v.kind) (sym same) ∙ message_kind a.0 o z v.kind in
        (a.0, same, answer, is ∙ same_summary w.kind (kind_of a.0.start) w.held.decoder.taken (length before) w.lines (line_count a.0) w.content (length a.0.content) z o kind_is taken_behind lines_are content_are)

  pub reading_judges : Judges L rest Moved refuses tells misses v
  reading_judges = record {
    refused_byte = λ w before piece more i r m h. refused_byte w before i m piece more r h;
    missed_byte = λ w bytes i r m h. missed_byte w bytes i m r h;
    told = λ w bytes i o z s m h is. told w bytes i m o z s h is;
  }
