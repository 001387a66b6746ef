-- What a call of the writer sends is what is due for an item.
use Rattle.std.proofs.Common.{◌≡◌, ◌≤◌, ◌<◌, ◌+◌, ℕ, Bool, true, false, Option, Some, None, IfSome, OnOk, OnErr, List, [], ◌∷◌, ◌++◌, length, map, Result, Ok, Err, append-nil, refl, sym, ap, subst, ◌∙◌, arith}
use Rattle.std.proofs.lemmas.List.{length-append}
use Rattle.bh_base.specs.declared.failed.Failed.{Failed}
use Rattle.bh_base.specs.Steps.{Step, none, given, IsQuiet, StopsAt, is_bad_write}
use Rattle.bh_base.specs.Batches.{Writes}
use Rattle.bh_spec.specs.declared.Kind.{Kind}
use Rattle.bh_spec.specs.declared.Kind.TheVariants.{Request, Response}
use Rattle.bh_spec.specs.declared.Omitted.{Omitted}
use Rattle.bh_spec.specs.Messages.{Field, Control}
use Rattle.bh_spec.specs.Listing.{Line, status, the_end, field, trailer, interim_lines, content_lines, joined}
use Rattle.bh_spec.specs.Items.{Item, interim_response, head, content_byte, trailer_section, ending, Head, of_request, of_response}
use Rattle.bh_push.specs.Hands.{kind_of_head, control_shown, status_shown}
use Rattle.bh_stream.specs.Outputs.{written, shown_in}
use Rattle.bh_stream.specs.Logs.{Begins}
use Rattle.bh_stream.specs.Decoding.{content_items}
use Rattle.bh_stream.specs.Jobs.{Sends, SendsRest}
use Rattle.bh_text.specs.Showing.{Writer, Call, first_line, control_lines, interim_call, request_head, response_head, finish, content, text_of, lines_sent, after, filled}
use Rattle.bh_listing.specs.Owed.{Lister, of_kind, for_kind, head_call, lines_owed, output, owed, held, takes}
use Rattle.bh_listing.proofs.Outputs.{output-append, output_bytes, output_shows, content_in, content-append, fields_show, trailers_show, content_shows, filled_and_not}
use Rattle.bh_listing.proofs.Owing.{content_owed, few_wait}

never : {A : Type 0} → ◌≡◌ {A = Bool} true false → A
never e = absurd cc

first_shows : (begun : Bool) (kind : Kind) → content_in (first_line begun kind) ≡ 0
first_shows true kind = refl
first_shows false Request = refl
first_shows false Response = refl

-- nothing waits before the first line
kept : (kind : Kind) (w : Writer) → (w.begun ≡ false → w.waiting ≡ []) → length (for_kind kind w).waiting ≡ length w.waiting
kept kind w idle = of_any w.begun idle
  where
    of_any : (begun : Bool) → (begun ≡ false → w.waiting ≡ []) → length (of_kind begun kind w).waiting ≡ length w.waiting
    of_any true h = refl
    of_any false h = ap length (sym (h refl))

module _ {S : Type 0} {step : S → Step → S → Type 0} where
  -- lines that are owed for some items
  wrote : (s t : Lister) (items : List Item) (lines : List Line) {u v : S} (r : Result (Unit {0}) Failed) → Writes step u (joined lines) r v
      → ((q : List Item) → lines_owed s (items ++ q) ≡ lines ++ lines_owed t q) → content_in lines + held t ≡ held s + content_items items → held t ≤ 31 → t.writer.begun ≡ true
      → Sends step true 31 (owed s) (owed t) (held s) (held t) (takes s) (takes t) items u r v
  wrote s t items lines {v = v} r w due counts few begun = record {
    steps = w.steps;
    chain = w.chain;
    text = output lines;
    alone = λ e. never e;
    due = λ q. record { rest = owed t q; split = owes q };
    whole = all r w.whole;
    part = front r w.part;
  }
    where
      owes : (q : List Item) → owed s (items ++ q) ≡ output lines ++ owed t q
      owes q = ap output (due q) ∙ output-append lines (lines_owed t q)

      all : (r : Result (Unit {0}) Failed) → OnOk r ((joined lines ≡ given w.steps) × IsQuiet w.steps)
          → OnOk r (IsQuiet w.steps × (given w.steps ≡ written (output lines)) × ((q : List Item) → owed s (items ++ q) ≡ output lines ++ owed t q)
          × (shown_in (output lines) + held t ≡ held s + content_items items) × (held t ≤ 31) × ((q : List Item) → takes s (items ++ q) → takes t q))
      all (Ok x) h = (h.1, sym (output_bytes lines ∙ h.0), owes, ap (λ (n : ℕ). n + held t) (output_shows lines) ∙ counts, few, λ q k e. never (sym begun ∙ e))
      all (Err x) h = tt

      front : (r : Result (Unit {0}) Failed) → OnErr r ((rest : List ℕ) × (joined lines ≡ given w.steps ++ rest) × StopsAt is_bad_write w.steps)
          → OnErr r (StopsAt is_bad_write w.steps × Begins (given w.steps) (written (output lines)))
      front (Ok x) h = tt
      front (Err x) h = (h.2, record { rest = h.0; split = output_bytes lines ∙ h.1 })

  -- ---- the state behind a call

  to_state : (s : Lister) (ended : Bool) (x y : Writer) (items : List Item) {u v : S} (r : Result (Unit {0}) Failed) → y ≡ x
      → Sends step true 31 (owed s) (owed (record { writer = x; ended = ended })) (held s) (held (record { writer = x; ended = ended })) (takes s) (takes (record { writer = x; ended = ended })) items u r v
      → Sends step true 31 (owed s) (owed (record { writer = y; ended = ended })) (held s) (held (record { writer = y; ended = ended })) (takes s) (takes (record { writer = y; ended = ended })) items u r v
  to_state s ended x y items {u = u} {v = v} r e h = subst
      (λ (w : Writer). Sends step true 31 (owed s) (owed (record { writer = w; ended = ended })) (held s) (held (record { writer = w; ended = ended })) (takes s) (takes (record { writer = w; ended = ended })) items u r v)
      (sym e) h

  to_item : (s t : Lister) (x y : Item) {u v : S} (r : Result (Unit {0}) Failed) → y ≡ x → Sends step true 31 (owed s) (owed t) (held s) (held t) (takes s) (takes t) (x ∷ []) u r v
      → Sends step true 31 (owed s) (owed t) (held s) (held t) (takes s) (takes t) (y ∷ []) u r v
  to_item s t x y {u = u} {v = v} r e h = subst (λ (i : Item). Sends step true 31 (owed s) (owed t) (held s) (held t) (takes s) (takes t) (i ∷ []) u r v) (sym e) h

  pub interim_sent : (w x y : Writer) (ended : Bool) (n : ℕ) (got fields : List Field) (item : Item) {u v : S} (r : Result (Unit {0}) Failed) → length w.waiting ≤ 31 → (w.begun ≡ false → w.waiting ≡ [])
      → x ≡ for_kind Response w → y ≡ after x (interim_call (record { status = n; fields = got })) → got ≡ fields → item ≡ interim_response n fields
      → Writes step u (text_of x (interim_call (record { status = n; fields = got }))) r v
      → Sends step true 31 (owed (record { writer = w; ended = ended })) (owed (record { writer = y; ended = ended })) (held (record { writer = w; ended = ended })) (held (record { writer = y; ended = ended }))
      (takes (record { writer = w; ended = ended })) (takes (record { writer = y; ended = ended })) (item ∷ []) u r v
  interim_sent w x y ended n got fields item {u = u} {v = v} r few idle start next same is wrote_it =
      let s : Lister = record { writer = w; ended = ended } in
      let one = for_kind Response w in
      let call : List Field → Call = λ (l : List Field). interim_call (record { status = n; fields = l }) in
      let k = kept Response w idle in
      to_item s (record { writer = y; ended = ended }) (interim_response n got) item r (is ∙ ap (interim_response n) (sym same))
      (to_state s ended (after one (call got)) y (interim_response n got ∷ []) r (next ∙ ap (λ (z : Writer). after z (call got)) start)
      (wrote s (record { writer = after one (call got); ended = ended }) (interim_response n got ∷ []) (lines_sent one (call got)) r
      (subst (λ (z : Writer). Writes step u (text_of z (call got)) r v) start wrote_it) (λ q. refl)
      (omega (arith, k, content-append (first_line one.begun one.kind) (interim_lines (record { status = n; fields = got })), first_shows one.begun one.kind, fields_show got)) (omega (arith, k, few)) refl))

  pub head_sent : (w y : Writer) (ended : Bool) (of : Head) (fields : List Field) (item : Item) {u v : S} (r : Result (Unit {0}) Failed) → length w.waiting ≤ 31 → (w.begun ≡ false → w.waiting ≡ [])
      → y ≡ after (for_kind (kind_of_head of) w) (head_call of fields) → item ≡ head of fields
      → Writes step u (text_of (for_kind (kind_of_head of) w) (head_call of fields)) r v
      → Sends step true 31 (owed (record { writer = w; ended = ended })) (owed (record { writer = y; ended = ended })) (held (record { writer = w; ended = ended })) (held (record { writer = y; ended = ended }))
      (takes (record { writer = w; ended = ended })) (takes (record { writer = y; ended = ended })) (item ∷ []) u r v
  head_sent w y ended of fields item r few idle next is wrote_it =
      let s : Lister = record { writer = w; ended = ended } in
      let one = for_kind (kind_of_head of) w in
      let k = kept (kind_of_head of) w idle in
      to_item s (record { writer = y; ended = ended }) (head of fields) item r is
      (to_state s ended (after one (head_call of fields)) y (head of fields ∷ []) r next
      (wrote s (record { writer = after one (head_call of fields); ended = ended }) (head of fields ∷ []) (lines_sent one (head_call of fields)) r wrote_it (λ q. refl)
      (omega (arith, k, head_shows of one, waits_on of one)) (omega (arith, k, waits_on of one, few)) refl))
    where
      waits_on : (of : Head) (x : Writer) → length (after x (head_call of fields)).waiting ≡ length x.waiting
      waits_on (of_request control) x = refl
      waits_on (of_response n) x = refl

      head_shows : (of : Head) (x : Writer) → content_in (lines_sent x (head_call of fields)) ≡ 0
      head_shows (of_request control) x = omega (arith, content-append (first_line x.begun x.kind) (control_lines control ++ map field fields), first_shows x.begun x.kind, fields_show fields)
      head_shows (of_response n) x = omega (arith, content-append (first_line x.begun x.kind) (status n ∷ map field fields), first_shows x.begun x.kind, fields_show fields)

  pub trailers_sent : (w y : Writer) (ended : Bool) (got fields : List Field) (item : Item) {u v : S} (r : Result (Unit {0}) Failed)
      → y ≡ after w (finish got) → got ≡ fields → item ≡ trailer_section fields → Writes step u (text_of w (finish got)) r v
      → Sends step true 31 (owed (record { writer = w; ended = ended })) (owed (record { writer = y; ended = true })) (held (record { writer = w; ended = ended })) (held (record { writer = y; ended = true }))
      (takes (record { writer = w; ended = ended })) (takes (record { writer = y; ended = true })) (item ∷ []) u r v
  trailers_sent w y ended got fields item r next same is wrote_it =
      let s : Lister = record { writer = w; ended = ended } in
      to_item s (record { writer = y; ended = true }) (trailer_section got) item r (is ∙ ap trailer_section (sym same))
      (to_state s true (after w (finish got)) y (trailer_section got ∷ []) r next
      (wrote s (record { writer = after w (finish got); ended = true }) (trailer_section got ∷ []) (lines_sent w (finish got)) r wrote_it (λ q. refl)
      (omega (arith, content-append (content_lines w.waiting) (map trailer got ++ (the_end ∷ [])), content_shows w.waiting, content-append (map trailer got) (the_end ∷ []), trailers_show got)) (omega arith) refl))

  pub content_sent : (w y : Writer) (ended : Bool) (bytes : List ℕ) {u v : S} (r : Result (Unit {0}) Failed) → length w.waiting ≤ 31 → 0 < length bytes
      → y ≡ after w (content bytes) → Writes step u (text_of w (content bytes)) r v
      → Sends step true 31 (owed (record { writer = w; ended = ended })) (owed (record { writer = y; ended = ended })) (held (record { writer = w; ended = ended })) (held (record { writer = y; ended = ended }))
      (takes (record { writer = w; ended = ended })) (takes (record { writer = y; ended = ended })) (map content_byte bytes) u r v
  content_sent w y ended bytes r few some next wrote_it =
      let s : Lister = record { writer = w; ended = ended } in
      let all = w.waiting ++ bytes in
      to_state s ended (after w (content bytes)) y (map content_byte bytes) r next
      (wrote s (record { writer = after w (content bytes); ended = ended }) (map content_byte bytes) (content_lines (filled all)) r wrote_it (λ q. owes bytes some q)
      (omega (arith, content_shows (filled all), filled_and_not all, length-append w.waiting bytes, count bytes)) (omega (arith, few_wait all)) refl)
    where
      count : (xs : List ℕ) → content_items (map content_byte xs) ≡ length xs
      count [] = refl
      count (x ∷ xs) = omega (arith, count xs)

      -- the first byte makes the writer begin
      owes : (xs : List ℕ) → 0 < length xs → (q : List Item) → lines_owed (record { writer = w; ended = ended }) (map content_byte xs ++ q)
          ≡ content_lines (filled (w.waiting ++ xs)) ++ lines_owed (record { writer = after w (content xs); ended = ended }) q
      owes [] some q = absurd (omega arith)
      owes (x ∷ xs) some q = content_owed w.kind ended w.waiting (x ∷ xs) q (omega (arith, few))

-- the last call
module _ {S : Type 0} {step : S → Step → S → Type 0} where
  pub end_was_sent : (w : Writer) (ended : Bool) (o : Omitted) (z : ℕ) (u : S) → ended ≡ true
      → SendsRest step true (owed (record { writer = w; ended = ended }) (ending o z ∷ [])) u (Ok tt) u
  end_was_sent w ended o z u e = subst (λ (b : Bool). SendsRest step true (owed (record { writer = w; ended = b }) (ending o z ∷ [])) u (Ok tt) u) (sym e)
      record { steps = []; chain = none; alone = λ e. refl; whole = (refl, refl); part = tt }

  pub end_sent : (w : Writer) (ended : Bool) (got : List Field) (o : Omitted) (z : ℕ) {u v : S} (r : Result (Unit {0}) Failed) → ended ≡ false → got ≡ [] → Writes step u (text_of w (finish got)) r v
      → SendsRest step true (owed (record { writer = w; ended = ended }) (ending o z ∷ [])) u r v
  end_sent w ended got o z {u = u} {v = v} r e idle h =
      let lines = lines_sent w (finish []) in
      let k = subst (λ (l : List Field). Writes step u (text_of w (finish l)) r v) idle h in
      let all : written (owed (record { writer = w; ended = false }) (ending o z ∷ [])) ≡ joined lines =
      ap (λ (l : List Line). written (output l)) (append-nil lines) ∙ output_bytes lines in
      subst (λ (b : Bool). SendsRest step true (owed (record { writer = w; ended = b }) (ending o z ∷ [])) u r v) (sym e)
      record { steps = k.steps; chain = k.chain; alone = λ e. never e; whole = whole r k.steps all k.whole; part = part r k.steps all k.part }
    where
      whole : {x y : List ℕ} (r : Result (Unit {0}) Failed) (steps : List Step) → x ≡ y → OnOk r ((y ≡ given steps) × IsQuiet steps) → OnOk r (IsQuiet steps × (given steps ≡ x))
      whole (Ok a) steps e h = (h.1, sym (e ∙ h.0))
      whole (Err a) steps e h = tt

      part : {x y : List ℕ} (r : Result (Unit {0}) Failed) (steps : List Step) → x ≡ y → OnErr r ((rest : List ℕ) × (y ≡ given steps ++ rest) × StopsAt is_bad_write steps)
          → OnErr r (StopsAt is_bad_write steps × Begins (given steps) x)
      part (Ok a) steps e h = tt
      part (Err a) steps e h = (h.2, record { rest = h.0; split = e ∙ h.1 })

-- ---- what the decoder shows

pub fields_are : (o : Option (List Field)) (got fields : List Field) → IfSome o (λ lines. got ≡ lines) → o ≡ Some fields → got ≡ fields
fields_are (Some lines) got fields h e = let same : lines ≡ fields = cc in h ∙ same
fields_are None got fields h e = absurd (cc)

pub of_a_request : (P : Writer → Call → Type 0) (o : Option Head) (of : Head) (k : Control) (got fields : List Field) (w x : Writer) → Some k ≡ control_shown o → o ≡ Some of → got ≡ fields
    → x ≡ for_kind Request w → P x (request_head k got) → P (for_kind (kind_of_head of) w) (head_call of fields)
of_a_request P o of k got fields w x shown is same start h = by_head of (shown ∙ ap control_shown is)
  where
    by_head : (of : Head) → Some k ≡ control_shown (Some of) → P (for_kind (kind_of_head of) w) (head_call of fields)
    by_head (of_request c) e =
        let one : k ≡ c = cc in
        subst (λ (l : List Field). P (for_kind Request w) (request_head c l)) same (subst (λ (d : Control). P (for_kind Request w) (request_head d got)) one (subst (λ (z : Writer). P z (request_head k got)) start h))
    by_head (of_response n) e = absurd (cc)

pub of_a_response : (P : Writer → Call → Type 0) (o : Option Head) (of : Head) (n : ℕ) (got fields : List Field) (w x : Writer) → Some n ≡ status_shown o → o ≡ Some of → got ≡ fields
    → x ≡ for_kind Response w → P x (response_head n got) → P (for_kind (kind_of_head of) w) (head_call of fields)
of_a_response P o of n got fields w x shown is same start h = by_head of (shown ∙ ap status_shown is)
  where
    by_head : (of : Head) → Some n ≡ status_shown (Some of) → P (for_kind (kind_of_head of) w) (head_call of fields)
    by_head (of_request c) e = absurd (cc)
    by_head (of_response m) e =
        let one : n ≡ m = cc in
        subst (λ (l : List Field). P (for_kind Response w) (response_head m l)) same (subst (λ (d : ℕ). P (for_kind Response w) (response_head d got)) one (subst (λ (z : Writer). P z (response_head n got)) start h))

pub no_head : {A : Type 0} (o : Option Head) (of : Head) → ◌≡◌ {A = Option Control} None (control_shown o) → ◌≡◌ {A = Option ℕ} None (status_shown o) → o ≡ Some of → A
no_head o of c s is = by_head of (c ∙ ap control_shown is) (s ∙ ap status_shown is)
  where
    by_head : {A : Type 0} (of : Head) → ◌≡◌ {A = Option Control} None (control_shown (Some of)) → ◌≡◌ {A = Option ℕ} None (status_shown (Some of)) → A
    by_head (of_request k) c s = absurd (cc)
    by_head (of_response n) c s = absurd (cc)
