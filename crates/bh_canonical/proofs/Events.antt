-- The events of a job, as the decoder shows them.
use Rattle.std.proofs.Common.{◌≡◌, ℕ, List, [], ◌∷◌, Option, Some, IfSome, true, Result, Ok, Err, sym, subst, ap, ◌∙◌}
use Rattle.bh_spec.specs.declared.Kind.TheVariants.{Response}
use Rattle.bh_spec.specs.Messages.{Field, IsInterim, AreTrailers}
use Rattle.bh_spec.specs.Items.{Item, interim_response, head, trailer_section, Head}
use Rattle.bh_base.specs.declared.failed.Failed.{Failed}
use Rattle.bh_base.specs.Steps.{Step}
use Rattle.bh_base.specs.Batches.{Writes}
use Rattle.bh_stream.specs.declared.traits.Event.{Event}
use Rattle.bh_stream.specs.declared.traits.Event.TheVariants as events
use Rattle.bh_encode.specs.Sending.{Sends as Sent}
use Rattle.bh_encode.proofs.Sending.{wrote}
use Rattle.bh_reading.specs.Handing.{ShowsAs}
use Rattle.bh_reading.proofs.ReadingOn.{shown_of}
use Rattle.bh_canonical.specs.Stages.{is_begun, IsBeforeHead, IsInContent, HeadDue}
use Rattle.bh_canonical.specs.Writers.{Writing, takes, writing_of, IsStage}
use Rattle.bh_canonical.specs.declared.sending.Stage.{Stage}
use Rattle.bh_canonical.specs.declared.sending.Stage.TheVariants as stages
use Rattle.bh_canonical.proofs.Sent.{JobSends, interim_text, head_text, end_text, interim_may, head_may, trailers_may, interim_went, interim_cut, head_went, head_cut, trailers_went}

-- what a job may rely on
abbrev pub IsShown : (Item → Type 0) → Writing → Type 0
IsShown Shows old = (item : Item) × Shows item × ((q : List Item) × takes old (item ∷ q))

-- the head and the lines that a decoder shows, and the items that it shows for an event
module _ (showing : Option Head) (section : Option (List Field)) (event : Event) (Shows : Item → Type 0) (law : (item : Item) → Shows item → ShowsAs showing section event item) where
  interim_item : (status : ℕ) → event ≡ events.Interim status → (item : Item) → Shows item → (fields : List Field) × (item ≡ interim_response status fields) × (section ≡ Some fields)
  interim_item status e item h = subst (λ (x : Event). ShowsAs showing section x item) e (law item h)

  head_item : event ≡ events.Head → (item : Item) → Shows item → (of : Head) × (fields : List Field) × (item ≡ head of fields) × (showing ≡ Some of) × (section ≡ Some fields)
  head_item e item h = subst (λ (x : Event). ShowsAs showing section x item) e (law item h)

  trailers_item : event ≡ events.Trailers → (item : Item) → Shows item → (fields : List Field) × (item ≡ trailer_section fields) × (section ≡ Some fields)
  trailers_item e item h = subst (λ (x : Event). ShowsAs showing section x item) e (law item h)

  lines_are : (lines fields : List Field) → IfSome section (λ ls. lines ≡ ls) → section ≡ Some fields → lines ≡ fields
  lines_are lines fields h e = shown_of (λ (ls : List Field). lines ≡ ls) section fields e h

  -- the writer's fields, whose stage was taken out
  module _ (old : Writing) (shown : IsShown Shows old) (was stage : Stage) (kept : List ℕ) (same : stage ≡ was) (seen : writing_of was kept ≡ old) (sound : IsStage was kept) where
    view : writing_of stage kept ≡ old
    view = ap (λ (st : Stage). writing_of st kept) same ∙ seen

    is : IsStage stage kept
    is = subst (λ (st : Stage). IsStage st kept) (sym same) sound

    -- ---- before the call

    pub interim_due : (status : ℕ) → event ≡ events.Interim status → (lines : List Field) → IfSome section (λ ls. lines ≡ ls)
        → IsBeforeHead stage × IsInterim (record { status = status; fields = lines })
    interim_due status e lines h =
        let k = interim_item status e shown.0 shown.1 in
        let takes' = subst (λ (w : Writing). takes w (interim_response status k.0 ∷ shown.2.0)) (sym view) (subst (λ (i : Item). takes old (i ∷ shown.2.0)) k.1 shown.2.1) in
        let may = interim_may stage kept status k.0 is (shown.2.0, takes') in
        (may.0, subst (λ (ls : List Field). IsInterim (record { status = status; fields = ls })) (sym (lines_are lines k.0 h k.2)) may.1)

    pub head_due : event ≡ events.Head → IsBeforeHead stage × HeadDue (is_begun stage) showing section
    head_due e =
        let k = head_item e shown.0 shown.1 in
        let takes' = subst (λ (w : Writing). takes w (head k.0 k.1 ∷ shown.2.0)) (sym view) (subst (λ (i : Item). takes old (i ∷ shown.2.0)) k.2 shown.2.1) in
        let may = head_may stage kept k.0 k.1 is (shown.2.0, takes') in
        (may.0, record { of = k.0; fields = k.1; shown = k.3; lines = k.4; limits = may.1; range = may.2; comes = may.3 })

    pub trailers_due : event ≡ events.Trailers → (lines : List Field) → IfSome section (λ ls. lines ≡ ls) → IsInContent stage × AreTrailers lines
    trailers_due e lines h =
        let k = trailers_item e shown.0 shown.1 in
        let takes' = subst (λ (w : Writing). takes w (trailer_section k.0 ∷ shown.2.0)) (sym view) (subst (λ (i : Item). takes old (i ∷ shown.2.0)) k.1 shown.2.1) in
        let may = trailers_may stage kept k.0 (shown.2.0, takes') in
        (may.0, subst AreTrailers (sym (lines_are lines k.0 h k.2)) may.1)

    -- ---- behind it

    module _ {S : Type 0} {step : S → Step → S → Type 0} {s t : S} where
      -- the job did it for the item that is shown, from what it did for another spelling of it
      as_shown : (w : Writing) (r : Result (Unit {0}) Failed) (item same : Item) → item ≡ same → JobSends step (writing_of stage kept) w (same ∷ []) s r t → JobSends step old w (item ∷ []) s r t
      as_shown w r item same e h =
          subst (λ (i : Item). JobSends step old w (i ∷ []) s r t) (sym e) (subst (λ (o : Writing). JobSends step o w (same ∷ []) s r t) view h)

      pub interim_ok : {A E : Type 0} {a : A} (status : ℕ) → event ≡ events.Interim status → (lines : List Field) → IfSome section (λ ls. lines ≡ ls) → (next : Stage) → next ≡ stages.Interims (record { kind = Response; begun = true })
          → Writes {A = A} {E = E} step s (interim_text stage status lines) (Ok a) t → (item : Item) → Shows item → JobSends step old (writing_of next kept) (item ∷ []) s (Ok tt) t
      interim_ok {A = A} {E = E} {a = a} status e lines h next n w item shows =
          let k = interim_item status e item shows in
          as_shown (writing_of next kept) (Ok tt) item (interim_response status k.0) k.1
          (interim_went stage next kept status k.0 (interim_due status e lines h).0 n
          (subst (λ (ls : List Field). Sent {A = A} {E = E} step s (interim_text stage status ls) (Ok a) t) (lines_are lines k.0 h k.2) (wrote w)))

      pub interim_err : {A E : Type 0} {x : E} (f : Failed) (after : Writing) (status : ℕ) → event ≡ events.Interim status → (lines : List Field) → IfSome section (λ ls. lines ≡ ls)
          → Writes {A = A} {E = E} step s (interim_text stage status lines) (Err x) t → (item : Item) → Shows item → JobSends step old after (item ∷ []) s (Err f) t
      interim_err {A = A} {E = E} {x = x} f after status e lines h w item shows =
          let k = interim_item status e item shows in
          as_shown after (Err f) item (interim_response status k.0) k.1
          (interim_cut f stage after kept status k.0 (interim_due status e lines h).0
          (subst (λ (ls : List Field). Sent {A = A} {E = E} step s (interim_text stage status ls) (Err x) t) (lines_are lines k.0 h k.2) (wrote w)))

      pub head_ok : {A E : Type 0} {a : A} → event ≡ events.Head → (next : Stage) → IsInContent next
          → ((of : Head) (fields : List Field) → showing ≡ Some of → section ≡ Some fields → Writes {A = A} {E = E} step s (head_text stage of fields) (Ok a) t)
          → (item : Item) → Shows item → JobSends step old (writing_of next kept) (item ∷ []) s (Ok tt) t
      head_ok e next inside w item shows =
          let k = head_item e item shows in
          as_shown (writing_of next kept) (Ok tt) item (head k.0 k.1) k.2 (head_went stage next kept k.0 k.1 (head_due e).0 is inside (wrote (w k.0 k.1 k.3 k.4)))

      pub head_err : {A E : Type 0} {x : E} (f : Failed) (after : Writing) → event ≡ events.Head
          → ((of : Head) (fields : List Field) → showing ≡ Some of → section ≡ Some fields → Writes {A = A} {E = E} step s (head_text stage of fields) (Err x) t)
          → (item : Item) → Shows item → JobSends step old after (item ∷ []) s (Err f) t
      head_err f after e w item shows =
          let k = head_item e item shows in
          as_shown after (Err f) item (head k.0 k.1) k.2 (head_cut f stage after kept k.0 k.1 (head_due e).0 (wrote (w k.0 k.1 k.3 k.4)))

      pub trailers_sent : (r : Result (Unit {0}) Failed) → event ≡ events.Trailers → (lines : List Field) → IfSome section (λ ls. lines ≡ ls)
          → (next : Stage) → next ≡ stages.Ended
          → Sent step s (end_text kept lines) r t → (item : Item) → Shows item → JobSends step old (writing_of next kept) (item ∷ []) s r t
      trailers_sent r e lines h next n sent item shows =
          let k = trailers_item e item shows in
          as_shown (writing_of next kept) r item (trailer_section k.0) k.1
          (subst (λ (st : Stage). JobSends step (writing_of stage kept) (writing_of st kept) (trailer_section k.0 ∷ []) s r t) (sym n)
          (trailers_went stage kept k.0 r (trailers_due e lines h).0 (subst (λ (ls : List Field). Sent step s (end_text kept ls) r t) (lines_are lines k.0 h k.2) sent)))
