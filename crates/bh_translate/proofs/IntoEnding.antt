-- How a translation to HTTP/1.1 ended, by what the loop did.
use Rattle.std.proofs.Common.{◌≡◌, ◌≤◌, ◌-◌, ◌⊎◌, arith, ℕ, Bool, false, true, List, [], ◌∷◌, ◌++◌, length, Option, Some, None, refl, sym, ap, ap₂, subst, ◌∙◌, append_assoc, length-append, inl, inr}
use Rattle.bh_spec.specs.declared.NoForm.{NoForm}
use Rattle.bh_spec.specs.declared.Omitted.{Omitted}
use Rattle.bh_spec.specs.declared.Omitted.TheVariants.{Nothing, Trailers, Both}
use Rattle.bh_spec.specs.declared.Refusal.{Refusal}
use Rattle.bh_spec.specs.declared.Refusal.TheVariants.{Dead, Limit, Ended, TooLong}
use Rattle.bh_spec.specs.declared.Summary.{Summary}
use Rattle.bh_spec.specs.Bounds.{Bounds, IsWithin}
use Rattle.bh_spec.specs.Messages.{Message}
use Rattle.bh_spec.specs.Reports.{summary}
use Rattle.bh_spec.specs.Items.{Item, interim_response, head, content_byte, trailer_section, ending, items}
use Rattle.bh_spec.proofs.Whole.{one_reading}
use Rattle.bh_base.specs.Steps.{Step, taken, met, IsQuiet}
use Rattle.bh_model.specs.Ranges.{AreLimits}
use Rattle.bh_push.specs.Decoders.{At, Rest as rest_at, in_framing}
use Rattle.bh_push.specs.Standing.{Comes, IsRight, IsPrompt}
use Rattle.bh_push.specs.Pushes.{DecoderView, RefusesFirst, MissesAs}
use Rattle.bh_stream.specs.Logs.{ReadsTo}
use Rattle.bh_stream.specs.Outputs.{written}
use Rattle.bh_stream.specs.Calls.{IsOfByte}
use Rattle.bh_stream.specs.Runs.{IsDone, IsMissing, IsRefusedIn, CallEnds}
use Rattle.bh_stream.specs.declared.streaming.End.{End}
use Rattle.bh_stream.specs.declared.streaming.End.TheVariants as end
use Rattle.bh_reading.specs.Readings as binary
use Rattle.bh_reading.specs.Readings.{Counted}
use Rattle.bh_reading.specs.Coming.{MessageComes}
use Rattle.bh_reading.specs.ReadingLaws.{reading_laws, alive_behind}
use Rattle.bh_reading.proofs.Counts.{few_counts}
use Rattle.bh_reading.proofs.Judging.{reading_judges}
use Rattle.bh_reading.proofs.Coming.{comes_at_start}
use Rattle.bh_stream.proofs.Calls.{reads_sooner}
use Rattle.h1_spec.specs.Moments as moments
use Rattle.h1_spec.specs.Moments.{first_of}
use Rattle.h1_spec.specs.Cleaning.{clean_message}
use Rattle.h1_spec.proofs.Members.{spelled_leaves}
use Rattle.h1_spec.specs.Judging.{IsJudgedAt}
use Rattle.h1_spec.specs.Translation.{dead, IsIntoAnswer}
use Rattle.h1_spec.proofs.Cases.{free_none}
use Rattle.h1_moments.specs.Seen.{nothing_seen}
use Rattle.h1_moments.specs.Laws.{AreFree, form_with, LeadsToLast, IsLast, HasRead, EndsAs}
use Rattle.h1_moments.proofs.Judging.{judged_there, refused_where_free, missed_where_free, finished_where_free}
use Rattle.h1_judge.specs.declared.judged.IntoWhy.{IntoWhy}
use Rattle.h1_judge.specs.declared.judged.IntoWhy.TheVariants.{Binary, Form}
use Rattle.h1_judge.specs.Courses.{cleaned_items, Course, start_course, behind, item_form, AreFree as Free}
use Rattle.h1_judge.specs.Views.{JudgedView, Moved, rest, IsAtStart, IsJudged, AreContent, IsRefused, Tells, misses}
use Rattle.h1_judge.specs.JudgedLaws.{cleaned-append, behind-append, free-append, judged_laws}
use Rattle.h1_text.specs.Owed.{at_start, owed}
use Rattle.h1_text.proofs.Comings.{one_ending}
use Rattle.h1_text.proofs.Owes.{owes_bytes}
use Rattle.bh_translate.specs.Into.{IsRefusedBinary, IntoEnds}
use Rattle.bh_translate.proofs.Left.{some_left}
use Rattle.bh_translate.proofs.Starting.{items_cleaned, leaves_clean}
use Rattle.bh_translate.proofs.Joining.{cases_in, items_free, IsThing, item_with, end_with, end_nothing}

-- ---- one state and the bytes that led to it

module _ (L : Bounds) (limits : AreLimits L) (to_head : Bool) (v : JudgedView) (start : IsAtStart L to_head v) where
  module _ (w : JudgedView) (bytes : List ℕ) (i : List Item) (m : Moved v bytes i w) where
    abbrev at : At
    at = w.reading.held.decoder.at

    -- the decoder of binary messages was led there from the start of a message
    pub comes_here : Comes L (in_framing []) bytes m.raw at
    comes_here = subst (λ (d : DecoderView). Comes d.limits d.at bytes m.raw at) start.reading.decoder m.moved.comes

    pub limits_here : w.reading.held.decoder.limits ≡ L
    limits_here = m.moved.limits ∙ ap (λ (d : DecoderView). d.limits) start.reading.decoder

    taken_here : w.reading.held.decoder.taken ≡ length bytes
    taken_here = omega (arith, m.moved.taken, ap (λ (d : DecoderView). d.taken) start.reading.decoder)

    pub prompt_here : IsPrompt L at
    prompt_here = subst (λ (K : Bounds). IsPrompt K at) limits_here m.prompt

    -- no rule holds at the moments of the items
    pub free_here : AreFree to_head m.raw
    free_here =
        let alive = alive_behind v.reading w.reading bytes m.raw m.moved in
        let h = reading_laws.leads v.reading w.reading bytes m.raw m.moved in
        let comes = comes_at_start L limits v.reading start.reading (m.raw ++ alive.0) (h.residual.text ++ alive.1) (h.residual.back alive.0 alive.1 alive.2) in
        let free : Free to_head start_course m.raw = subst (λ (b : Bool). Free b start_course m.raw) start.to_head_is (subst (λ (c : Course). Free v.to_head c m.raw) start.course m.free) in
        free_none (cases_in to_head nothing_seen m.raw)
        (items_free to_head L start_course false [] m.raw alive.0 (some_left w.reading.held.decoder.limits at alive.0 alive.1 alive.2) comes free)

    pub has_read : HasRead L to_head bytes m.raw w.reading.held.decoder
    has_read = record { comes = comes_here; limits = limits_here; taken = taken_here; free = free_here }

    -- a message whose items these are, and more
    pub message_here : (q : List Item) (t : _) → binary.rest w.reading q t → MessageComes L false (m.raw ++ q)
    message_here q t r =
        let h = reading_laws.leads v.reading w.reading bytes m.raw m.moved in
        comes_at_start L limits v.reading start.reading (m.raw ++ q) (h.residual.text ++ t) (h.residual.back q t r)

    course_here : w.course ≡ behind to_head start_course m.raw
    course_here = m.course ∙ ap₂ (λ (b : Bool) (c : Course). behind b c m.raw) start.to_head_is start.course

    -- the decoder is where a message may end: without its trailer section it is judged by its content, and else not at all
    pub end_form : (o : Omitted) (z : ℕ) → binary.rest w.reading (ending o z ∷ []) [] → (form : Option NoForm)
        → ((o ≡ Nothing → ⊥) → first_of (moments.of_end w.course.framing w.course.counted) ≡ form) → ((o ≡ Nothing) → form ≡ None) → form_with to_head m.raw (ending o z) ≡ form
    end_form o z r form late none = by_omitted o r late none
      where
        by_omitted : (o : Omitted) → binary.rest w.reading (ending o z ∷ []) [] → ((o ≡ Nothing → ⊥) → first_of (moments.of_end w.course.framing w.course.counted) ≡ form) → ((o ≡ Nothing) → form ≡ None)
            → form_with to_head m.raw (ending o z) ≡ form
        by_omitted Nothing r late none = ap first_of (end_nothing to_head L nothing_seen m.raw z) ∙ sym (none refl)
        by_omitted Trailers r late none =
            ap first_of (end_with to_head L start_course false [] m.raw Trailers z (λ e. cc) (message_here (ending Trailers z ∷ []) [] r))
            ∙ ap (λ (c : Course). first_of (moments.of_end c.framing c.counted)) (sym course_here) ∙ late (λ e. cc)
        by_omitted Both r late none =
            ap first_of (end_with to_head L start_course false [] m.raw Both z (λ e. cc) (message_here (ending Both z ∷ []) [] r))
            ∙ ap (λ (c : Course). first_of (moments.of_end c.framing c.counted)) (sym course_here) ∙ late (λ e. cc)

  -- ---- a refused byte

  -- bytes in front of others, and those in front of a refused one
  joined : (before front bytes after more all others : List ℕ) → all ≡ before ++ others → others ≡ front ++ (bytes ++ after)
      → (before ++ front) ++ (bytes ++ (after ++ more)) ≡ all ++ more
  joined before front bytes after more all others e f =
      append_assoc before front (bytes ++ (after ++ more))
      ∙ ap (λ (l : List ℕ). before ++ l) (ap (λ (l : List ℕ). front ++ l) (sym (append_assoc bytes after more)) ∙ sym (append_assoc front (bytes ++ after) more) ∙ ap (λ (l : List ℕ). l ++ more) (sym f))
      ∙ sym (append_assoc before others more) ∙ ap (λ (l : List ℕ). l ++ more) (sym e)

  of_byte : (r : Refusal) (n : ℕ) (steps : List Step) → IsOfByte n r → ReadsTo n steps → ((more : List ℕ) → IsIntoAnswer L to_head (taken steps ++ more) (dead r)) → IsRefusedBinary L to_head r steps
  of_byte (Dead at part) n steps h r a = (reads_sooner n at steps h r, a)
  of_byte (Limit at part) n steps h r a = (reads_sooner n at steps h r, a)
  of_byte (TooLong at) n steps h r a = (reads_sooner n at steps h r, a)
  of_byte (Ended at part) n steps h r a = absurd h

  is_of_byte : (d : DecoderView) (piece : List ℕ) (r : Refusal) (n : ℕ) → n ≤ d.taken → RefusesFirst d piece r → IsOfByte n r
  is_of_byte d piece (Dead at part) n few h = omega (arith, few, h.1)
  is_of_byte d piece (Limit at part) n few h = omega (arith, few, h.1)
  is_of_byte d piece (TooLong at) n few h = omega (arith, few, h.1)
  is_of_byte d piece (Ended at part) n few h = absurd h

  of_end : (d : DecoderView) (r : Refusal) (steps : List Step) → MissesAs d r → met steps ≡ true → IsIntoAnswer L to_head (taken steps) (dead r) → IsRefusedBinary L to_head r steps
  of_end d (Dead at part) steps h e a = absurd h
  of_end d (Limit at part) steps h e a = absurd h
  of_end d (TooLong at) steps h e a = absurd h
  of_end d (Ended at part) steps h e a = (e, a)

  -- some bytes led to a state, and others from there on to where something is refused
  module _ (state : JudgedView) (before : List ℕ) (i : List Item) (moved : Moved v before i state) (others : List ℕ) (why : IntoWhy) (f : IsRefused state others why) where
    abbrev front : List ℕ
    front = before ++ f.before

    abbrev there : Moved v front (i ++ []) f.state
    there = judged_laws.goes_on v state f.state before f.before i [] moved f.moved

    abbrev view : DecoderView
    view = f.state.reading.held.decoder

    taken_there : view.taken ≡ length front
    taken_there = (has_read f.state front (i ++ []) there).taken

    -- a byte is none of a message
    pub dead_answer : (r : Refusal) → RefusesFirst view f.bytes r → (all more : List ℕ) → all ≡ before ++ others → IsIntoAnswer L to_head (all ++ more) (dead r)
    dead_answer r h all more e =
        subst (λ (l : List ℕ). IsIntoAnswer L to_head l (dead r)) (joined before f.before f.bytes f.after more all others e f.split)
        (refused_where_free L to_head front f.bytes (f.after ++ more) there.raw view r (has_read f.state front (i ++ []) there) h)

    pub dead_place : (r : Refusal) → RefusesFirst view f.bytes r → IsOfByte (length before) r
    dead_place r h = is_of_byte view f.bytes r (length before) (omega (arith, taken_there, length-append before f.before)) h

    -- with a byte the message is judged
    module _ (form : NoForm) (j : IsJudged f.state f.bytes form) where
      limits_there : view.limits ≡ L
      limits_there = limits_here f.state front (i ++ []) there

      last_is : (item : Item) → item_form (behind f.state.to_head f.state.course j.raw) item ≡ Some form → IsRight (item ∷ []) j.state.held.decoder.at → AreContent f.bytes j.raw item
          → IsLast f.bytes j.raw item j.state.held.decoder.at × IsThing item
      last_is (interim_response status fields) e right full = (right, tt)
      last_is (head of fields) e right full = (right, tt)
      last_is (content_byte x) e right full = (full, tt)
      last_is (trailer_section fields) e right full = (right, tt)
      last_is (ending omitted padding) e right full = let none : None ≡ Some form = e in absurd cc

      last : IsLast f.bytes j.raw j.last j.state.held.decoder.at × IsThing j.last
      last = last_is j.last j.judged j.right j.full

      leads : LeadsToLast L front f.bytes there.raw j.raw j.last view.at j.state.held.decoder.at
      leads = record {
        before = comes_here f.state front (i ++ []) there;
        comes = subst (λ (K : Bounds). Comes K view.at f.bytes (j.raw ++ j.last ∷ []) j.state.held.decoder.at) limits_there j.moved.comes;
        last = last.0;
      }

      within : IsWithin L.input (length (front ++ f.bytes))
      within =
          let input = j.moved.input in
          subst (λ (o : Option ℕ). IsWithin o (length (front ++ f.bytes))) (sym input.limit_is ∙ ap (λ (K : Bounds). K.input) limits_there)
          (omega (arith, input.few, taken_there, length-append front f.bytes))

      prompt : IsPrompt L j.state.held.decoder.at
      prompt = subst (λ (K : Bounds). IsPrompt K j.state.held.decoder.at) (j.moved.limits ∙ limits_there) j.prompt

      -- the message goes on behind the item that is judged
      message : (q : List Item) × MessageComes L false ((there.raw ++ j.raw) ++ (j.last ∷ q))
      message =
          let alive = alive_behind f.state.reading j.state f.bytes (j.raw ++ j.last ∷ []) j.moved in
          let h = reading_laws.leads f.state.reading j.state f.bytes (j.raw ++ j.last ∷ []) j.moved in
          let back = h.residual.back alive.0 alive.1 alive.2 in
          let comes = message_here f.state front (i ++ []) there ((j.raw ++ j.last ∷ []) ++ alive.0) (h.residual.text ++ alive.1) back in
          (alive.0, subst (MessageComes L false) (ap (λ (q : List Item). there.raw ++ q) (append_assoc j.raw (j.last ∷ []) alive.0) ∙ sym (append_assoc there.raw j.raw (j.last ∷ alive.0))) comes)

      course_there : behind f.state.to_head f.state.course j.raw ≡ behind to_head start_course (there.raw ++ j.raw)
      course_there =
          ap₂ (λ (b : Bool) (c : Course). behind b c j.raw) (there.to_head ∙ start.to_head_is) (course_here f.state front (i ++ []) there)
          ∙ sym (behind-append to_head start_course there.raw j.raw)

      free_before : AreFree to_head (there.raw ++ j.raw)
      free_before =
          let first : Free to_head start_course there.raw = subst (λ (b : Bool). Free b start_course there.raw) start.to_head_is (subst (λ (c : Course). Free v.to_head c there.raw) start.course there.free) in
          let second : Free to_head (behind to_head start_course there.raw) j.raw = subst (λ (b : Bool). Free b (behind to_head start_course there.raw) j.raw) (there.to_head ∙ start.to_head_is)
          (subst (λ (c : Course). Free f.state.to_head c j.raw) (course_here f.state front (i ++ []) there) j.free) in
          free_none (cases_in to_head nothing_seen (there.raw ++ j.raw))
          (items_free to_head L start_course false [] (there.raw ++ j.raw) (j.last ∷ message.0) (λ e. cc) message.1 (free-append to_head start_course there.raw j.raw first second))

      form_is : form_with to_head (there.raw ++ j.raw) j.last ≡ Some form
      form_is =
          ap first_of (item_with to_head L start_course false [] (there.raw ++ j.raw) j.last message.0 last.1 message.1)
          ∙ ap (λ (c : Course). item_form c j.last) (sym course_there) ∙ j.judged

      abbrev place : ℕ
      place = length (front ++ f.bytes) - 1

      pub judged_answer : (all more : List ℕ) → all ≡ before ++ others → IsJudgedAt L to_head (all ++ more) place form
      judged_answer all more e =
          subst (λ (l : List ℕ). IsJudgedAt L to_head l place form)
          (append_assoc front f.bytes (f.after ++ more) ∙ joined before f.before f.bytes f.after more all others e f.split)
          (judged_there L to_head front f.bytes (f.after ++ more) there.raw j.raw j.last view.at j.state.held.decoder.at form leads prompt within free_before form_is)

      pub judged_place : length before ≤ place
      judged_place = omega (arith, length-append front f.bytes, length-append before f.before, j.some)

  refused_in : (why : IntoWhy) (steps : List Step) → IsQuiet steps → IsRefusedIn Moved IsRefused v why steps → IntoEnds L to_head (end.Refused why) steps
  refused_in (Binary r) steps quiet h =
      let s = h.stopped in (
        quiet,
        of_byte r (length s.before) steps (dead_place s.state s.before s.items s.moved s.others (Binary r) s.refused r s.refused.refused) h.read_to
            (λ more. dead_answer s.state s.before s.items s.moved s.others (Binary r) s.refused r s.refused.refused (taken steps) more s.split),
      )
  refused_in (Form form) steps quiet h =
      let s = h.stopped in
      let j = s.refused.refused in (
        quiet,
        inl (
          place s.state s.before s.items s.moved s.others (Form form) s.refused form j,
          reads_sooner (length s.before) _ steps (judged_place s.state s.before s.items s.moved s.others (Form form) s.refused form j) h.read_to,
          λ more. judged_answer s.state s.before s.items s.moved s.others (Form form) s.refused form j (taken steps) more s.split,
        ),
      )

  -- ---- the end

  -- a message that may end there
  ends_there : (w : JudgedView) (bytes : List ℕ) (i : List Item) (m : Moved v bytes i w) (o : Omitted) (z : ℕ) (form : Option NoForm) → binary.rest w.reading (ending o z ∷ []) []
      → ((o ≡ Nothing → ⊥) → first_of (moments.of_end w.course.framing w.course.counted) ≡ form) → ((o ≡ Nothing) → form ≡ None)
      → (message : Message) × (items message o z ≡ m.raw ++ ending o z ∷ []) × EndsAs L to_head bytes message o z form
  ends_there w bytes i m o z form r late none =
      let d = w.reading.held.decoder in
      let found = finished_where_free L to_head bytes m.raw d o z (has_read w bytes i m) (prompt_here w bytes i m) within_input
      (subst (λ (K : Bounds). rest_at K d.at (ending o z ∷ []) []) (limits_here w bytes i m) r) in
      (found.0, found.1, subst (EndsAs L to_head bytes found.0 o z) (end_form w bytes i m o z r form late none) found.2)
    where
      within_input : IsWithin L.input (length bytes)
      within_input =
          let input = m.moved.input in
          subst (λ (o : Option ℕ). IsWithin o (length bytes))
          (sym input.limit_is ∙ ap (λ (K : Bounds). K.input) (sym m.moved.limits ∙ limits_here w bytes i m))
          (omega (arith, input.few))

  missing_in : (why : IntoWhy) (steps : List Step) → IsQuiet steps → IsMissing Moved misses v why steps → IntoEnds L to_head (end.Refused why) steps
  missing_in (Binary r) steps quiet h =
      let d = h.state.reading.held.decoder in (
        quiet,
        of_end d r steps h.missing h.end
            (missed_where_free L to_head (taken steps) h.moved.raw d r (has_read h.state (taken steps) h.items h.moved) (prompt_here h.state (taken steps) h.items h.moved) h.missing),
      )
  missing_in (Form form) steps quiet h =
      let e = h.missing in
      let found = ends_there h.state (taken steps) h.items h.moved e.omitted e.padding (Some form) e.whole (λ some. e.judged) (λ n. absurd (e.without n)) in
      (quiet, inr (h.end, (found.0, e.omitted, e.padding, found.2.0, found.2.1)))

  -- what the loop gave is the text
  done_in : (s : Summary) (steps : List Step) → IsQuiet steps → IsDone rest Moved Tells v (owed to_head at_start) s steps → IntoEnds L to_head (end.Done s) steps
  done_in s steps quiet h =
      let w = h.state in
      let m = h.moved in
      let raw = whole_raw w h.omitted h.padding h.whole in
      let found = ends_there w (taken steps) h.items m h.omitted h.padding None raw h.told.free (λ e. refl) in
      let told = (reading_judges L (few_counts L limits) v.reading start.reading).told w.reading (taken steps) m.raw h.omitted h.padding s m.moved raw h.told.summary in
      let same = one_reading L L told.0 found.0 h.omitted h.omitted h.padding h.padding (taken steps) told.2.1 found.2.0.message.1 in (
        quiet,
        record {
          end = h.end;
          message = found.0;
          omitted = h.omitted;
          padding = h.padding;
          answer = found.2;
          summary_is = told.3 ∙ ap (λ (n : Message). summary n h.omitted h.padding (length (taken steps))) same.0;
          gave = h.gave ∙ ap (λ (q : List Item). written (owed to_head at_start q)) (items_there h found.0 found.1)
              ∙ owes_bytes to_head (clean_message found.0) h.omitted h.padding
              (leaves_clean found.0 h.omitted (spelled_leaves L found.0 h.omitted h.padding found.2.0.message.1.text found.2.0.message.1.spelled));
        },
      )
    where
      whole_raw : (w : JudgedView) (o : Omitted) (z : ℕ) → rest w (ending o z ∷ []) [] → binary.rest w.reading (ending o z ∷ []) []
      whole_raw w o z r = subst (λ (q : List Item). binary.rest w.reading q []) (one_ending w.course.named r.0 o z (sym r.1)) r.2

      items_there : (h : IsDone rest Moved Tells v (owed to_head at_start) s steps) (message : Message) → items message h.omitted h.padding ≡ h.moved.raw ++ ending h.omitted h.padding ∷ []
          → h.items ++ ending h.omitted h.padding ∷ [] ≡ items (clean_message message) h.omitted h.padding
      items_there h message e =
          let m = h.moved in
          ap (λ (q : List Item). q ++ ending h.omitted h.padding ∷ []) m.items_are
          ∙ sym (cleaned-append v.to_head v.course m.raw (ending h.omitted h.padding ∷ [])) ∙ ap (cleaned_items v.course.named) (sym e) ∙ items_cleaned v.course.named message h.omitted h.padding

  pub ended_in : (r : End Summary IntoWhy) (steps : List Step) → CallEnds rest Moved IsRefused Tells misses v (owed to_head at_start) r steps → IntoEnds L to_head r steps
  ended_in (end.Done s) steps h = done_in s steps h.0 h.1
  ended_in (end.Refused why) steps h = by_place h.1
    where
      by_place : IsMissing Moved misses v why steps ⊎ IsRefusedIn Moved IsRefused v why steps → IntoEnds L to_head (end.Refused why) steps
      by_place (inl m) = missing_in why steps h.0 m
      by_place (inr m) = refused_in why steps h.0 m
  ended_in end.ReadFault steps h = h
  ended_in end.WriteFault steps h = h
