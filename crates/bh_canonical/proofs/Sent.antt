-- What a job sends for items, from what it sends.
use Rattle.std.proofs.Common.{◌≡◌, ◌≤◌, ◌<◌, ◌+◌, ℕ, true, List, [], ◌∷◌, ◌++◌, length, take, drop, map, flat_map, Result, Ok, Err, refl, sym, ◌∙◌, ap, subst, arith, append_assoc, take-append-drop, length-append, append-nil}
use Rattle.bh_spec.specs.declared.Kind.TheVariants.{Response}
use Rattle.bh_spec.specs.declared.Omitted.{Omitted}
use Rattle.bh_spec.specs.declared.Form.TheVariants.{Indeterminate}
use Rattle.bh_spec.specs.Integers.{int}
use Rattle.bh_spec.specs.Bounds.{Bounds}
use Rattle.bh_spec.specs.Messages.{Field, IsInterim, AreTrailers}
use Rattle.bh_spec.specs.Canonical.{string, section, cut}
use Rattle.bh_spec.specs.Items.{Item, interim_response, head, content_byte, trailer_section, ending, Head}
use Rattle.bh_base.specs.declared.failed.Failed.{Failed}
use Rattle.bh_base.specs.Steps.{Step, none, WroteAll}
use Rattle.bh_model.specs.Ranges.{AreLimits}
use Rattle.bh_push.specs.Hands.{kind_of_head}
use Rattle.bh_stream.specs.Outputs.{Output, written, shown_in, plain}
use Rattle.bh_stream.specs.Logs.{Begins}
use Rattle.bh_stream.specs.Decoding.{content_items}
use Rattle.bh_stream.specs.Jobs.{Sends, SendsRest}
use Rattle.bh_stream.proofs.Moving.{items-map}
use Rattle.bh_stream.proofs.Outputs.{written-append, written_plain, shown_plain}
use Rattle.bh_encode.specs.Calls.{Encoder, text_of, interim_call}
use Rattle.bh_encode.specs.Sending.{Sends as Sent}
use Rattle.bh_encode.proofs.Sending.{none_sent}
use Rattle.bh_reading.specs.Coming.{HeadComes}
use Rattle.bh_reading.proofs.Coming.{comes_behind}
use Rattle.bh_canonical.specs.Stages.{is_begun, IsBeforeHead, IsInContent, head_call}
use Rattle.bh_canonical.specs.Owed.{chunks_out, end_out, tail_owed}
use Rattle.bh_canonical.specs.Writers.{Writing, before_all, behind_interim, with_chunk, behind_all, owed, held, takes, writing_of, IsStage, IsFramed}
use Rattle.bh_canonical.specs.declared.sending.Stage.{Stage}
use Rattle.bh_canonical.specs.declared.sending.Stage.TheVariants as stages
use Rattle.bh_canonical.proofs.Owing.{tail_behind, tail_past, one_bytes, written_chunks, shown_chunks, rest_out, rest_due, shown_rest}

-- what the job did for items
abbrev pub JobSends : {S : Type 0} → (S → Step → S → Type 0) → Writing → Writing → List Item → S → Result (Unit {0}) Failed → S → Type 0
JobSends step v w items s r t = Sends step true 8191 (owed v) (owed w) (held v) (held w) (takes v) (takes w) items s r t

-- ---- what may be sent

pub is_in_content : (stage : Stage) (kept bytes : List ℕ) → 0 < length bytes → ((q : List Item) × takes (writing_of stage kept) (map content_byte bytes ++ q)) → IsInContent stage
is_in_content stages.Start kept [] some h = absurd (omega arith)
is_in_content stages.Start kept (x ∷ bytes) some h = absurd h.1.2
is_in_content (stages.Interims e) kept [] some h = absurd (omega arith)
is_in_content (stages.Interims e) kept (x ∷ bytes) some h = absurd h.1.2
is_in_content (stages.Content e) kept bytes some h = tt
is_in_content stages.Ended kept [] some h = absurd (omega arith)
is_in_content stages.Ended kept (x ∷ bytes) some h = let e = h.1.2.1 in absurd (cc)

pub cut_at : (kept bytes full back : List ℕ) (n : ℕ) → full ≡ kept ++ take n bytes → back ≡ drop n bytes → kept ++ bytes ≡ full ++ back
cut_at kept bytes full back n e f =
    ap (λ (l : List ℕ). kept ++ l) (sym (take-append-drop n bytes)) ∙ sym (append_assoc kept (take n bytes) (drop n bytes)) ∙ (λ i. (sym e) i ++ (sym f) i)

-- the chunk behind its length
pub framed_more : (items more : List ℕ) → IsFramed items → drop 2 (items ++ more) ≡ drop 2 items ++ more
framed_more items more h = ap (λ (l : List ℕ). drop 2 (l ++ more)) h.1 ∙ ap (λ (l : List ℕ). drop 2 l ++ more) (sym h.1)

pub framed_is : (items : List ℕ) → IsFramed items → items ≡ 96 ∷ (0 ∷ drop 2 items)
framed_is items h = h.1 ∙ ap (λ (l : List ℕ). 96 ∷ (0 ∷ drop 2 l)) (sym h.1)

pub stays_framed : (items more now : List ℕ) → IsFramed items → now ≡ items ++ more → IsFramed now
stays_framed items more now h e = (h.0 ++ more, e ∙ ap (λ (l : List ℕ). l ++ more) h.1)

abbrev pub interim_text : Stage → ℕ → List Field → List ℕ
interim_text stage status fields = text_of (record { kind = Response; begun = is_begun stage }) (interim_call (record { status = status; fields = fields }))

abbrev InterimTakes : Stage → List ℕ → ℕ → List Field → Type 0
InterimTakes stage kept status fields = (q : List Item) × takes (writing_of stage kept) (interim_response status fields ∷ q)

pub interim_may : (stage : Stage) (kept : List ℕ) (status : ℕ) (fields : List Field) → IsStage stage kept → InterimTakes stage kept status fields → IsBeforeHead stage × IsInterim (record { status = status; fields = fields })
interim_may stages.Start kept status fields is h = (tt, h.1.2.0.valid)
interim_may (stages.Interims e) kept status fields is h = (is.1, h.1.2.0.valid)
interim_may (stages.Content e) kept status fields is h = absurd h.1.2
interim_may stages.Ended kept status fields is h = let e = h.1.2.1 in absurd (cc)

abbrev pub head_text : Stage → Head → List Field → List ℕ
head_text stage of fields = text_of (record { kind = kind_of_head of; begun = is_begun stage }) (head_call of fields)

pub head_may : (stage : Stage) (kept : List ℕ) (of : Head) (fields : List Field) → IsStage stage kept → ((q : List Item) × takes (writing_of stage kept) (head of fields ∷ q))
    → IsBeforeHead stage × (L : Bounds) × AreLimits L × HeadComes L (is_begun stage) of fields
head_may stages.Start kept of fields is h = (tt, h.1.0, h.1.1, h.1.2.0)
head_may (stages.Interims e) kept of fields is h = (is.1, h.1.0, h.1.1, h.1.2.0)
head_may (stages.Content e) kept of fields is h = absurd h.1.2
head_may stages.Ended kept of fields is h = let e = h.1.2.1 in absurd (cc)

pub trailers_may : (stage : Stage) (kept : List ℕ) (fields : List Field) → ((q : List Item) × takes (writing_of stage kept) (trailer_section fields ∷ q)) → IsInContent stage × AreTrailers fields
trailers_may stages.Start kept fields h = absurd h.1.2
trailers_may (stages.Interims e) kept fields h = absurd h.1.2
trailers_may (stages.Content e) kept fields h = (tt, h.1.2.0.valid)
trailers_may stages.Ended kept fields h = let e = h.1.2.1 in absurd (cc)

none_kept : (stage : Stage) (kept : List ℕ) → IsBeforeHead stage → IsStage stage kept → kept ≡ []
none_kept stages.Start kept before is = is
none_kept (stages.Interims e) kept before is = is.0
none_kept (stages.Content e) kept before is = absurd before
none_kept stages.Ended kept before is = absurd before

content_at : (next : Stage) (kept : List ℕ) → IsInContent next → writing_of next kept ≡ with_chunk kept
content_at stages.Start kept inside = absurd inside
content_at (stages.Interims e) kept inside = absurd inside
content_at (stages.Content e) kept inside = refl
content_at stages.Ended kept inside = absurd inside

abbrev pub end_text : List ℕ → List Field → List ℕ
end_text kept trailers = flat_map string (cut 8192 kept) ++ (int 0 ++ section Indeterminate trailers)

written_rest : (kept : List ℕ) (trailers : List Field) → written (rest_out kept trailers) ≡ end_text kept trailers
written_rest kept trailers =
    written-append (chunks_out kept) (end_out trailers) ∙ ap (λ (l : List ℕ). l ++ written (end_out trailers)) (written_chunks kept)
    ∙ ap (λ (l : List ℕ). flat_map string (cut 8192 kept) ++ l) (written_plain (int 0 ++ section Indeterminate trailers))

trailers_due : (kept : List ℕ) (fields : List Field) (q : List Item) → tail_owed kept (trailer_section fields ∷ q) ≡ rest_out kept fields ++ []
trailers_due kept fields q = rest_due kept (trailer_section fields ∷ q) refl ∙ sym (append-nil (rest_out kept fields))

module _ {S : Type 0} {step : S → Step → S → Type 0} where
  -- an output that is due went out
  went : {A E : Type 0} {a : A} {s t : S} (v w : Writing) (items : List Item) (text : Output) (bytes : List ℕ) → written text ≡ bytes → ((q : List Item) → owed v (items ++ q) ≡ text ++ owed w q)
      → shown_in text + held w ≡ held v + content_items items → held w ≤ 8191 → ((q : List Item) → takes v (items ++ q) → takes w q)
      → Sent {A = A} {E = E} step s bytes (Ok a) t → JobSends step v w items s (Ok tt) t
  went v w items text bytes same due counts few fits sent = record {
    steps = sent.steps;
    chain = sent.chain;
    text = text;
    alone = λ e. absurd (cc);
    due = λ q. record { rest = owed w q; split = due q };
    whole = (sent.whole.1, sym sent.whole.0 ∙ sym same, due, counts, few, fits);
    part = tt;
  }

  -- a write of it failed
  cut_off : {A E : Type 0} {e : E} {s t : S} (f : Failed) (v w : Writing) (items : List Item) (text : Output) (bytes : List ℕ) → written text ≡ bytes → ((q : List Item) → Begins text (owed v (items ++ q)))
      → Sent {A = A} {E = E} step s bytes (Err e) t → JobSends step v w items s (Err f) t
  cut_off f v w items text bytes same due sent = record {
    steps = sent.steps;
    chain = sent.chain;
    text = text;
    alone = λ e. absurd (cc);
    due = due;
    whole = tt;
    part = (sent.part.2, record { rest = sent.part.0; split = same ∙ sent.part.1 });
  }

  -- ---- content

  -- nothing is due yet
  pub content_kept : (stage : Stage) (kept bytes now : List ℕ) (s : S) → now ≡ kept ++ bytes → length kept + length bytes ≤ 8191 → IsInContent stage
      → JobSends step (writing_of stage kept) (writing_of stage now) (map content_byte bytes) s (Ok tt) s
  content_kept stages.Start kept bytes now s e few inside = absurd inside
  content_kept (stages.Interims d) kept bytes now s e few inside = absurd inside
  content_kept (stages.Content d) kept bytes now s e few inside =
      went {A = Unit {0}} {E = Unit {0}} (with_chunk kept) (with_chunk now) (map content_byte bytes) [] [] refl
      (λ q. tail_behind kept bytes q ∙ ap (λ (l : List ℕ). tail_owed l q) (sym e))
      (omega (arith, ap length e, length-append kept bytes, items-map bytes))
      (omega (arith, ap length e, length-append kept bytes, few))
      (λ q h. (h.0, h.1, comes_behind h.0 bytes q h.2))
      none_sent
  content_kept stages.Ended kept bytes now s e few inside = absurd inside

  -- a whole chunk is
  pub chunk_went : {A E : Type 0} {a : A} {s t : S} (stage next : Stage) (kept bytes full back : List ℕ) → kept ++ bytes ≡ full ++ back → length full ≡ 8192 → length back ≤ 8191 → IsInContent stage → IsInContent next
      → Sent {A = A} {E = E} step s (flat_map string (cut 8192 full)) (Ok a) t → JobSends step (writing_of stage kept) (writing_of next back) (map content_byte bytes) s (Ok tt) t
  chunk_went (stages.Content d) (stages.Content f) kept bytes full back e long few inside behind sent =
      went (with_chunk kept) (with_chunk back) (map content_byte bytes) (chunks_out full) (flat_map string (cut 8192 full)) (written_chunks full)
      (λ q. tail_past kept bytes full back q e long)
      (omega (arith, shown_chunks full, ap length e, length-append kept bytes, length-append full back, items-map bytes))
      few
      (λ q h. (h.0, h.1, comes_behind h.0 bytes q h.2))
      sent
  chunk_went stages.Start next kept bytes full back e long few inside behind sent = absurd inside
  chunk_went (stages.Interims d) next kept bytes full back e long few inside behind sent = absurd inside
  chunk_went stages.Ended next kept bytes full back e long few inside behind sent = absurd inside
  chunk_went (stages.Content d) stages.Start kept bytes full back e long few inside behind sent = absurd behind
  chunk_went (stages.Content d) (stages.Interims f) kept bytes full back e long few inside behind sent = absurd behind
  chunk_went (stages.Content d) stages.Ended kept bytes full back e long few inside behind sent = absurd behind

  pub chunk_cut : {A E : Type 0} {x : E} {s t : S} (f : Failed) (stage : Stage) (w : Writing) (kept bytes full back : List ℕ) → kept ++ bytes ≡ full ++ back → length full ≡ 8192 → IsInContent stage
      → Sent {A = A} {E = E} step s (flat_map string (cut 8192 full)) (Err x) t → JobSends step (writing_of stage kept) w (map content_byte bytes) s (Err f) t
  chunk_cut f (stages.Content d) w kept bytes full back e long inside sent =
      cut_off f (with_chunk kept) w (map content_byte bytes) (chunks_out full) (flat_map string (cut 8192 full)) (written_chunks full)
      (λ q. record { rest = tail_owed back q; split = tail_past kept bytes full back q e long }) sent
  chunk_cut f stages.Start w kept bytes full back e long inside sent = absurd inside
  chunk_cut f (stages.Interims d) w kept bytes full back e long inside sent = absurd inside
  chunk_cut f stages.Ended w kept bytes full back e long inside sent = absurd inside

  -- a chunk that is whole went out, behind its length
  sent_whole : {s t : S} (full piece : List ℕ) (r : Result (Unit {0}) Failed) → length full ≡ 8192 → piece ≡ 96 ∷ (0 ∷ full) → WroteAll step s piece r t → Sent step s (flat_map string (cut 8192 full)) r t
  sent_whole full piece (Ok a) long e w = record { steps = w.steps; chain = w.chain; whole = (one_bytes full long ∙ sym e ∙ sym w.whole.0, w.whole.1); part = tt }
  sent_whole full piece (Err x) long e w = record { steps = w.steps; chain = w.chain; whole = tt; part = (w.part.0, one_bytes full long ∙ sym e ∙ w.part.1, w.part.2) }

  pub chunk_written : {s t : S} (stage : Stage) (kept bytes full back piece : List ℕ) (r : Result (Unit {0}) Failed) → kept ++ bytes ≡ full ++ back → length full ≡ 8192 → length back ≤ 8191 → IsInContent stage
      → piece ≡ 96 ∷ (0 ∷ full) → WroteAll step s piece r t → JobSends step (writing_of stage kept) (writing_of stage back) (map content_byte bytes) s r t
  chunk_written stage kept bytes full back piece (Ok a) e long few inside same w = chunk_went stage stage kept bytes full back e long few inside inside (sent_whole full piece (Ok a) long same w)
  chunk_written stage kept bytes full back piece (Err x) e long few inside same w = chunk_cut x stage (writing_of stage back) kept bytes full back e long inside (sent_whole full piece (Err x) long same w)

  -- ---- interim responses

  interim_on : {A E : Type 0} {a : A} {s t : S} (stage : Stage) (kept : List ℕ) (status : ℕ) (fields : List Field) → IsBeforeHead stage
      → Sent {A = A} {E = E} step s (interim_text stage status fields) (Ok a) t → JobSends step (writing_of stage kept) behind_interim (interim_response status fields ∷ []) s (Ok tt) t
  interim_on stages.Start kept status fields is sent =
      went before_all behind_interim (interim_response status fields ∷ []) (plain (interim_text stages.Start status fields)) (interim_text stages.Start status fields) (written_plain _) (λ q. refl)
      (omega (arith, shown_plain (interim_text stages.Start status fields))) (omega arith) (λ q h. (h.0, h.1, h.2.1)) sent
  interim_on (stages.Interims e) kept status fields is sent =
      went behind_interim behind_interim (interim_response status fields ∷ []) (plain (interim_text (stages.Interims e) status fields)) (interim_text (stages.Interims e) status fields) (written_plain _) (λ q. refl)
      (omega (arith, shown_plain (interim_text (stages.Interims e) status fields))) (omega arith) (λ q h. (h.0, h.1, h.2.1)) sent
  interim_on (stages.Content e) kept status fields is sent = absurd is
  interim_on stages.Ended kept status fields is sent = absurd is

  pub interim_went : {A E : Type 0} {a : A} {s t : S} (stage next : Stage) (kept : List ℕ) (status : ℕ) (fields : List Field) → IsBeforeHead stage → next ≡ stages.Interims (record { kind = Response; begun = true })
      → Sent {A = A} {E = E} step s (interim_text stage status fields) (Ok a) t → JobSends step (writing_of stage kept) (writing_of next kept) (interim_response status fields ∷ []) s (Ok tt) t
  interim_went {s = s} {t = t} stage next kept status fields is e sent =
      subst (λ (n : Stage). JobSends step (writing_of stage kept) (writing_of n kept) (interim_response status fields ∷ []) s (Ok tt) t) (sym e) (interim_on stage kept status fields is sent)

  pub interim_cut : {A E : Type 0} {x : E} {s t : S} (f : Failed) (stage : Stage) (w : Writing) (kept : List ℕ) (status : ℕ) (fields : List Field) → IsBeforeHead stage
      → Sent {A = A} {E = E} step s (interim_text stage status fields) (Err x) t → JobSends step (writing_of stage kept) w (interim_response status fields ∷ []) s (Err f) t
  interim_cut f stages.Start w kept status fields is sent =
      cut_off f before_all w (interim_response status fields ∷ []) (plain (interim_text stages.Start status fields)) (interim_text stages.Start status fields) (written_plain _)
      (λ q. record { rest = owed behind_interim q; split = refl }) sent
  interim_cut f (stages.Interims e) w kept status fields is sent =
      cut_off f behind_interim w (interim_response status fields ∷ []) (plain (interim_text (stages.Interims e) status fields)) (interim_text (stages.Interims e) status fields) (written_plain _)
      (λ q. record { rest = owed behind_interim q; split = refl }) sent
  interim_cut f (stages.Content e) w kept status fields is sent = absurd is
  interim_cut f stages.Ended w kept status fields is sent = absurd is

  -- ---- the head

  head_on : {A E : Type 0} {a : A} {s t : S} (stage : Stage) (kept : List ℕ) (of : Head) (fields : List Field) → IsBeforeHead stage
      → Sent {A = A} {E = E} step s (head_text stage of fields) (Ok a) t → JobSends step (writing_of stage kept) (with_chunk []) (head of fields ∷ []) s (Ok tt) t
  head_on stages.Start kept of fields is sent =
      went before_all (with_chunk []) (head of fields ∷ []) (plain (head_text stages.Start of fields)) (head_text stages.Start of fields) (written_plain _) (λ q. refl)
      (omega (arith, shown_plain (head_text stages.Start of fields))) (omega arith) (λ q h. (h.0, h.1, h.2.1)) sent
  head_on (stages.Interims e) kept of fields is sent =
      went behind_interim (with_chunk []) (head of fields ∷ []) (plain (head_text (stages.Interims e) of fields)) (head_text (stages.Interims e) of fields) (written_plain _) (λ q. refl)
      (omega (arith, shown_plain (head_text (stages.Interims e) of fields))) (omega arith) (λ q h. (h.0, h.1, h.2.1)) sent
  head_on (stages.Content e) kept of fields is sent = absurd is
  head_on stages.Ended kept of fields is sent = absurd is

  pub head_went : {A E : Type 0} {a : A} {s t : S} (stage next : Stage) (kept : List ℕ) (of : Head) (fields : List Field) → IsBeforeHead stage → IsStage stage kept → IsInContent next
      → Sent {A = A} {E = E} step s (head_text stage of fields) (Ok a) t → JobSends step (writing_of stage kept) (writing_of next kept) (head of fields ∷ []) s (Ok tt) t
  head_went {s = s} {t = t} stage next kept of fields before is inside sent =
      subst (λ (w : Writing). JobSends step (writing_of stage kept) w (head of fields ∷ []) s (Ok tt) t)
      (ap with_chunk (sym (none_kept stage kept before is)) ∙ sym (content_at next kept inside)) (head_on stage kept of fields before sent)

  pub head_cut : {A E : Type 0} {x : E} {s t : S} (f : Failed) (stage : Stage) (w : Writing) (kept : List ℕ) (of : Head) (fields : List Field) → IsBeforeHead stage
      → Sent {A = A} {E = E} step s (head_text stage of fields) (Err x) t → JobSends step (writing_of stage kept) w (head of fields ∷ []) s (Err f) t
  head_cut f stages.Start w kept of fields is sent =
      cut_off f before_all w (head of fields ∷ []) (plain (head_text stages.Start of fields)) (head_text stages.Start of fields) (written_plain _) (λ q. record { rest = tail_owed [] q; split = refl }) sent
  head_cut f (stages.Interims e) w kept of fields is sent =
      cut_off f behind_interim w (head of fields ∷ []) (plain (head_text (stages.Interims e) of fields)) (head_text (stages.Interims e) of fields) (written_plain _) (λ q. record { rest = tail_owed [] q; split = refl }) sent
  head_cut f (stages.Content e) w kept of fields is sent = absurd is
  head_cut f stages.Ended w kept of fields is sent = absurd is

  -- ---- the end

  pub trailers_went : {s t : S} (stage : Stage) (kept : List ℕ) (fields : List Field) (r : Result (Unit {0}) Failed) → IsInContent stage
      → Sent step s (end_text kept fields) r t → JobSends step (writing_of stage kept) behind_all (trailer_section fields ∷ []) s r t
  trailers_went stages.Start kept fields r inside sent = absurd inside
  trailers_went (stages.Interims e) kept fields r inside sent = absurd inside
  trailers_went stages.Ended kept fields r inside sent = absurd inside
  trailers_went (stages.Content e) kept fields (Ok a) inside sent =
      went (with_chunk kept) behind_all (trailer_section fields ∷ []) (rest_out kept fields) (end_text kept fields) (written_rest kept fields) (trailers_due kept fields)
      (omega (arith, shown_rest kept fields)) (omega arith) (λ q h. (h.0, h.1, h.2.1)) sent
  trailers_went (stages.Content e) kept fields (Err x) inside sent =
      cut_off x (with_chunk kept) behind_all (trailer_section fields ∷ []) (rest_out kept fields) (end_text kept fields) (written_rest kept fields)
      (λ q. record { rest = []; split = trailers_due kept fields q }) sent

  -- the trailer section is left out
  pub rest_went : {s t : S} (kept : List ℕ) (fields : List Field) (r : Result (Unit {0}) Failed) → fields ≡ [] → (omitted : Omitted) (padding : ℕ)
      → Sent step s (end_text kept fields) r t → SendsRest step true (tail_owed kept (ending omitted padding ∷ [])) s r t
  rest_went kept fields (Ok a) empty omitted padding sent = record {
    steps = sent.steps;
    chain = sent.chain;
    alone = λ e. absurd (cc);
    whole = (sent.whole.1, sym sent.whole.0 ∙ ap (end_text kept) empty ∙ sym (written_rest kept []) ∙ ap written (sym (rest_due kept (ending omitted padding ∷ []) refl)));
    part = tt;
  }
  rest_went kept fields (Err x) empty omitted padding sent = record {
    steps = sent.steps;
    chain = sent.chain;
    alone = λ e. absurd (cc);
    whole = tt;
    part = (sent.part.2, record { rest = sent.part.0; split = ap written (rest_due kept (ending omitted padding ∷ []) refl) ∙ written_rest kept [] ∙ sym (ap (end_text kept) empty) ∙ sent.part.1 });
  }

  pub finish_went : {s t : S} (old : Writing) (stage : Stage) (kept : List ℕ) → writing_of stage kept ≡ old → (e : Encoder) → stage ≡ stages.Content e → (fields : List Field) → fields ≡ []
      → (r : Result (Unit {0}) Failed) → Sent step s (end_text kept fields) r t → (omitted : Omitted) (padding : ℕ) → SendsRest step true (owed old (ending omitted padding ∷ [])) s r t
  finish_went {s = s} {t = t} old stage kept view e is fields empty r sent omitted padding =
      subst (λ (w : Writing). SendsRest step true (owed w (ending omitted padding ∷ [])) s r t) (ap (λ (st : Stage). writing_of st kept) (sym is) ∙ view) (rest_went kept fields r empty omitted padding sent)

  -- nothing is owed for the end but behind the head
  pub finish_none : (old : Writing) (stage : Stage) (kept : List ℕ) → writing_of stage kept ≡ old → (s : S) → ((e : Encoder) → stage ≡ stages.Content e → ⊥)
      → (omitted : Omitted) (padding : ℕ) → SendsRest step true (owed old (ending omitted padding ∷ [])) s (Ok tt) s
  finish_none old stage kept view s other omitted padding =
      subst (λ (w : Writing). SendsRest step true (owed w (ending omitted padding ∷ [])) s (Ok tt) s) view (subst (λ (o : Output). SendsRest step true o s (Ok tt) s) (sym (nothing stage other)) no_rest)
    where
      nothing : (st : Stage) → ((e : Encoder) → st ≡ stages.Content e → ⊥) → owed (writing_of st kept) (ending omitted padding ∷ []) ≡ []
      nothing stages.Start h = refl
      nothing (stages.Interims e) h = refl
      nothing (stages.Content e) h = absurd (h e refl)
      nothing stages.Ended h = refl

      no_rest : SendsRest step true [] s (Ok tt) s
      no_rest = record { steps = []; chain = none; alone = λ e. refl; whole = (refl, refl); part = tt }
