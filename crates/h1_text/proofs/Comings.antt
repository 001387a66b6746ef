-- What comes to the writer within limits, from a decoder at the start of a message.
use Rattle.std.proofs.Common.{◌≡◌, ◌≤◌, ◌+◌, ◌*◌, ℕ, Bool, true, false, cond, List, [], ◌∷◌, ◌++◌, length, Option, Some, None, refl, sym, ap, ap₂, subst, ◌∙◌, arith}
use Rattle.bh_spec.specs.declared.Omitted.{Omitted}
use Rattle.bh_spec.specs.declared.NoForm.{NoForm}
use Rattle.bh_spec.specs.declared.NoForm.TheVariants as no
use Rattle.bh_spec.specs.Bounds.{Bounds}
use Rattle.bh_spec.specs.Messages.{Field, Control, request}
use Rattle.bh_spec.specs.Canonical.{lines, FieldsFit}
use Rattle.bh_spec.specs.Texts.{Text}
use Rattle.bh_spec.specs.Items.{Item, interim_response, head, content_byte, trailer_section, ending, Head, of_request, of_response}
use Rattle.bh_model.specs.Lines.{lines_room}
use Rattle.bh_model.specs.Ranges.{AreLimits}
use Rattle.bh_stream.specs.Decoding.{IsAlive}
use Rattle.bh_stream.specs.Jobs.{Fits}
use Rattle.bh_reading.specs.Coming as binary
use Rattle.bh_reading.specs.Readings as readings
use Rattle.bh_reading.specs.ReadingLaws.{alive_behind, reading_laws}
use Rattle.bh_reading.proofs.Coming.{comes_at_start}
use Rattle.h1_spec.specs.Http1.{start_of}
use Rattle.h1_spec.specs.declared.Framing1.{Framing1}
use Rattle.h1_spec.specs.declared.Framing1.TheVariants.{Empty}
use Rattle.h1_spec.specs.Cleaning.{without, hops, clean, says_host}
use Rattle.h1_spec.specs.Framing.{lengths}
use Rattle.h1_spec.specs.Http1Text.{has_no_body, framing_by}
use Rattle.h1_spec.specs.Moments.{of_byte, first_of}
use Rattle.h1_rules.specs.Own.{dropped_names}
use Rattle.h1_rules.proofs.Cookies.{without_room, one_room}
use Rattle.h1_judge.specs.Courses.{named_behind, cleaned_items, Course, start_course, behind_item, behind, AreFree}
use Rattle.h1_judge.specs.Views as judged
use Rattle.h1_judge.specs.Views.{JudgedView, Moved}
use Rattle.h1_judge.specs.JudgedLaws.{cleaned-append}
use Rattle.h1_rules.proofs.Within.{within_at}
use Rattle.h1_judge.proofs.Rooms.{room_lines}
use Rattle.h1_text.specs.Writers.{Writing, before_all, IsAtStart, HasRoom, BodyComes, EndComes, MessageComes, takes}
use Rattle.h1_text.proofs.Room.{request_room, response_room}

-- what is cleaned takes no more room
clean_room : (named : List (List ℕ)) (drop_host : Bool) (fields : List Field) → lines_room (clean named drop_host fields) ≤ lines_room fields
clean_room named drop_host fields =
    let kept = without (dropped_names named drop_host) fields in omega (arith, one_room kept, without_room (dropped_names named drop_host) fields)

-- ---- items that were judged, and others behind them

-- the items but for content
abbrev without_content : List Item → List Item
without_content [] = []
without_content ((interim_response status fields) ∷ q) = interim_response status fields ∷ without_content q
without_content ((head of fields) ∷ q) = head of fields ∷ without_content q
without_content ((content_byte x) ∷ q) = without_content q
without_content ((trailer_section fields) ∷ q) = trailer_section fields ∷ without_content q
without_content ((ending omitted padding) ∷ q) = ending omitted padding ∷ without_content q

end_comes : (named : List (List ℕ)) (q : List Item) → binary.EndComes q → EndComes (without_content (cleaned_items named q))
end_comes named q h = (_, h.0, ap (λ (k : List Item). without_content (cleaned_items named k)) h.1)

body_comes : (L : Bounds) (named : List (List ℕ)) (none : Bool) (q : List Item) → binary.TailComes L q → BodyComes none (without_content (cleaned_items named q))
body_comes L named none [] h = absurd h
body_comes L named none ((interim_response status fields) ∷ q) h = absurd h
body_comes L named none ((head of fields) ∷ q) h = absurd h
body_comes L named none ((content_byte x) ∷ q) h = body_comes L named none q h
body_comes L named none ((trailer_section fields) ∷ q) h = end_comes named q h.1
body_comes L named none ((ending omitted padding) ∷ q) h = ap (λ (k : List Item). without_content (cleaned_items named k)) h.1

-- the items that were judged, as they are, and those behind them without content
abbrev both : Bool → Course → List Item → List Item → List Item
both to_head c i q = cleaned_items c.named i ++ without_content (cleaned_items (behind to_head c i).named q)

-- where there is no body, no byte of content is free
none_there : (to_head : Bool) (c : Course) (none : Bool) (x : ℕ) (i : List Item) → (none ≡ true → c.framing ≡ Empty) → AreFree to_head c (content_byte x ∷ i) → none ≡ false
none_there to_head c false x i is free = refl
none_there to_head c true x i is free =
    let e : Some no.Bodyless ≡ None = sym (ap (λ (f : Framing1). judged_by f c.counted) (is refl)) ∙ free.0 in absurd (cc)
  where
    judged_by : Framing1 → ℕ → Option NoForm
    judged_by f n = first_of (of_byte f (n + 1))

end_behind : (to_head : Bool) (c : Course) (i q : List Item) → binary.EndComes (i ++ q) → EndComes (both to_head c i q)
end_behind to_head c [] q h = end_comes c.named q h
end_behind to_head c (item ∷ []) [] h = (_, h.0, ap (cleaned_items c.named) h.1)
end_behind to_head c (item ∷ []) (one ∷ q) h = let e = h.1 in absurd (cc)
end_behind to_head c (item ∷ (one ∷ i)) q h = let e = h.1 in absurd (cc)

tail_behind : (L : Bounds) (to_head : Bool) (c : Course) (none : Bool) (i q : List Item) → (none ≡ true → c.framing ≡ Empty) → binary.TailComes L (i ++ q) → AreFree to_head c i → BodyComes none (both to_head c i q)
tail_behind L to_head c none [] q is h free = body_comes L c.named none q h
tail_behind L to_head c none ((interim_response status fields) ∷ i) q is h free = absurd h
tail_behind L to_head c none ((head of fields) ∷ i) q is h free = absurd h
tail_behind L to_head c none ((content_byte x) ∷ i) q is h free =
    (none_there to_head c none x i is free, tail_behind L to_head (behind_item to_head c (content_byte x)) none i q is h free.1)
tail_behind L to_head c none ((trailer_section fields) ∷ i) q is h free = end_behind to_head (behind_item to_head c (trailer_section fields)) i q h.1
tail_behind L to_head c none ((ending omitted padding) ∷ []) [] is h free = refl
tail_behind L to_head c none ((ending omitted padding) ∷ []) (one ∷ q) is h free = let e = h.1 in absurd (cc)
tail_behind L to_head c none ((ending omitted padding) ∷ (one ∷ i)) q is h free = let e = h.1 in absurd (cc)

module _ (L : Bounds) (part section : ℕ) (part_is : L.part ≡ Some part) (section_is : L.section ≡ Some section) (to_head : Bool) where
  abbrev start : Writing
  start = before_all to_head (3 * part + 3) (5 * part + 2 * section + 54)

  head_room : (of : Head) (raw : List Field) → binary.StartComes L of → FieldsFit L raw → HasRoom start of (clean (hops raw) (says_host (start_of of)) raw)
  head_room (of_response status) raw start_fits fits =
      response_room part to_head section status (clean (hops raw) false raw)
      (omega (arith, clean_room (hops raw) false raw, room_lines raw, within_at L.section section (length (lines raw)) section_is fits.total))
  head_room (of_request c) raw start_fits fits =
      request_room part c (within_at L.part part (length c.method) part_is start_fits.1.method) (within_at L.part part (length c.scheme) part_is start_fits.1.scheme)
      (within_at L.part part (length c.authority) part_is start_fits.1.authority) (within_at L.part part (length c.path) part_is start_fits.1.path) to_head section
      (clean (hops raw) (says_host (request c)) raw)
      (omega (arith, clean_room (hops raw) (says_host (request c)) raw, room_lines raw, within_at L.section section (length (lines raw)) section_is fits.total))

  -- a head that says that there is no body
  says_none : (of : Head) (raw : List Field) (c : Course) → has_no_body to_head (start_of of) ≡ true → (behind_item to_head c (head of raw)).framing ≡ Empty
  says_none (of_response status) raw c e = ap (λ (b : Bool). cond b Empty (framing_by (lengths raw) false)) e
  says_none (of_request control) raw c e = absurd (cc)

  message_comes : (named : List (List ℕ)) (begun : Bool) (q : List Item) → binary.MessageComes L begun q → MessageComes start (without_content (cleaned_items named q))
  message_comes named begun [] h = absurd h
  message_comes named begun ((interim_response status fields) ∷ q) h = message_comes (named_behind named (interim_response status fields)) _ q h.1
  message_comes named begun ((head of fields) ∷ q) h = (head_room of fields h.0.start h.0.fits, body_comes L (named_behind named (head of fields)) _ q h.1)
  message_comes named begun ((content_byte x) ∷ q) h = absurd h
  message_comes named begun ((trailer_section fields) ∷ q) h = absurd h
  message_comes named begun ((ending omitted padding) ∷ q) h = absurd h

  message_behind : (c : Course) (begun : Bool) (i q : List Item) → binary.MessageComes L begun (i ++ q) → AreFree to_head c i → MessageComes start (both to_head c i q)
  message_behind c begun [] q h free = message_comes c.named begun q h
  message_behind c begun ((interim_response status fields) ∷ i) q h free = message_behind (behind_item to_head c (interim_response status fields)) _ i q h.1 free.1
  message_behind c begun ((head of fields) ∷ i) q h free =
      (head_room of fields h.0.start h.0.fits, tail_behind L to_head (behind_item to_head c (head of fields)) (has_no_body to_head (start_of of)) i q (says_none of fields c) h.1 free.1)
  message_behind c begun ((content_byte x) ∷ i) q h free = absurd h
  message_behind c begun ((trailer_section fields) ∷ i) q h free = absurd h
  message_behind c begun ((ending omitted padding) ∷ i) q h free = absurd h

-- an ending alone is the cleaned one
pub one_ending : (named : List (List ℕ)) (q : List Item) (o : Omitted) (z : ℕ) → cleaned_items named q ≡ ending o z ∷ [] → q ≡ ending o z ∷ []
one_ending named [] o z e = absurd (cc)
one_ending named ((interim_response status fields) ∷ q) o z e = absurd (cc)
one_ending named ((head of fields) ∷ q) o z e = absurd (cc)
one_ending named ((content_byte x) ∷ q) o z e = absurd (cc)
one_ending named ((trailer_section fields) ∷ q) o z e = absurd (cc)
one_ending named ((ending p y) ∷ []) o z e = e
one_ending named ((ending p y) ∷ (x ∷ q)) o z e = let tail : cleaned_items named (x ∷ q) ≡ [] = cc in absurd (cc)

-- The items that the decoder hands out may come to a writer within the same limits.
pub comes_cleaned : (L : Bounds) → AreLimits L → (to_head : Bool) (d : JudgedView) → judged.IsAtStart L to_head d → (v : Writing) → IsAtStart L to_head v → Fits judged.rest Moved d (takes v)
comes_cleaned L limits to_head d at v start = record {
  so_far = λ bytes i w m alive.
      let last = alive_behind d.reading w.reading bytes m.raw m.moved in
      let h = reading_laws.leads d.reading w.reading bytes m.raw m.moved in
      (without_content (cleaned_items (behind to_head start_course m.raw).named last.0), come i w bytes m last.0 (h.residual.text ++ last.1) (h.residual.back last.0 last.1 last.2));
  at_end = λ bytes i w m omitted padding whole.
      let h = reading_laws.leads d.reading w.reading bytes m.raw m.moved in
      let alone = one_ending w.course.named whole.0 omitted padding (sym whole.1) in
      come i w bytes m (ending omitted padding ∷ []) (h.residual.text ++ [])
      (h.residual.back (ending omitted padding ∷ []) [] (subst (λ (q : List Item). readings.rest w.reading q []) alone whole.2));
}
  where
    come : (i : List Item) (w : JudgedView) (bytes : List ℕ) (m : Moved d bytes i w) (q : List Item) (t : Text) → readings.rest d.reading (m.raw ++ q) t
        → takes v (i ++ without_content (cleaned_items (behind to_head start_course m.raw).named q))
    come i w bytes m q t r =
        let free : AreFree to_head start_course m.raw = subst (λ (b : Bool). AreFree b start_course m.raw) at.to_head_is (subst (λ (c : Course). AreFree d.to_head c m.raw) at.course m.free) in
        let are : i ≡ cleaned_items start_course.named m.raw = m.items_are ∙ ap (λ (c : Course). cleaned_items c.named m.raw) at.course in
        let comes = message_behind L start.0 start.1 start.2 start.3 to_head start_course false m.raw q (comes_at_start L limits d.reading at.reading (m.raw ++ q) t r) free in
        subst (λ (x : Writing). takes x (i ++ without_content (cleaned_items (behind to_head start_course m.raw).named q))) (sym start.4)
        (subst (λ (k : List Item). MessageComes (before_all to_head (3 * start.0 + 3) (5 * start.0 + 2 * start.1 + 54)) (k ++ without_content (cleaned_items (behind to_head start_course m.raw).named q))) (sym are) comes)
