-- Each front of what may have been written for a message shows the content that it has: it begins the marked text of some message.
use Rattle.std.proofs.Common.{◌≡◌, ◌⊎◌, ◌≤◌, ◌<◌, arith, ℕ, Bool, false, List, [], ◌∷◌, ◌++◌, map, length, None, refl, sym, ap, subst, ◌∙◌, append_assoc, append-nil, inl, inr}
use Rattle.std.proofs.lemmas.List.{map-append}
use Rattle.std.proofs.lemmas.List.Elements.{All-take}
use Rattle.bh_spec.specs.declared.Omitted.{Omitted}
use Rattle.bh_spec.specs.declared.Omitted.TheVariants.{Nothing, Trailers, Both}
use Rattle.bh_spec.specs.Bounds.{Bounds, no_bounds}
use Rattle.bh_spec.specs.Bytes.{AreBytes}
use Rattle.bh_spec.specs.Messages.{Field, Interim, Start, request, response, Message, IsValid}
use Rattle.bh_spec.specs.Texts.{Text}
use Rattle.bh_spec.specs.Items.{Item, interim_response, head, content_byte, trailer_section, ending, of_request, of_response, start_items, trailer_items, tail_items, items}
use Rattle.bh_model.specs.Ranges.{AreLimits}
use Rattle.bh_stream.specs.Logs.{Begins, HasBody}
use Rattle.bh_stream.specs.Outputs.{Output, written, shown_in, weighed, plain}
use Rattle.bh_stream.specs.Formats.{ShowsSoFar}
use Rattle.bh_stream.proofs.Moving.{front_of_two}
use Rattle.bh_stream.proofs.Outputs.{shown-append, shown_plain, begins_more}
use Rattle.bh_stream.proofs.LogLaws.{take_front}
use Rattle.bh_stream.proofs.SameMarks.{shows_text}
use Rattle.bh_reading.specs.Readings as binary
use Rattle.bh_reading.specs.ReadingLaws.{reading_laws, alive_behind}
use Rattle.h1_spec.specs.Cleaning.{hops, clean, clean_message}
use Rattle.h1_spec.specs.Http1Text.{interim_text, of_head, no_form}
use Rattle.h1_spec.specs.Laws.{LeavesOut}
use Rattle.h1_spec.specs.Marks.{IsSomeMarked, marked_text}
use Rattle.h1_spec.specs.Moments.{announced}
use Rattle.h1_spec.proofs.Cases.{none_free, free_front}
use Rattle.h1_spec.proofs.Members.{spelled_leaves}
use Rattle.h1_spec.proofs.MarkedTexts.{there_marked}
use Rattle.h1_spec.proofs.OneMark.{one_marking}
use Rattle.h1_judge.specs.Courses.{cleaned_items, Course, start_course, behind, AreFree as Free}
use Rattle.h1_judge.specs.Views.{JudgedView, Moved, rest, IsAtStart}
use Rattle.h1_judge.specs.JudgedLaws.{cleaned-append}
use Rattle.h1_text.specs.Owed.{at_start, owed}
use Rattle.h1_text.proofs.Comings.{one_ending}
use Rattle.h1_text.proofs.Owes.{owes_the_text}
use Rattle.bh_translate.proofs.Left.{some_left}
use Rattle.bh_translate.proofs.Starting.{items_cleaned, leaves_clean, raw}
use Rattle.bh_translate.proofs.Filling.{filled, filled_form, filled_valid, filled_on, has_form, some_scheme, start_free, room_behind, trailers_behind, zeros, lacking}

-- ---- a message that has a text

abbrev Shown : Bool → List ℕ → ℕ → Type 0
Shown to_head bytes n = HasBody (IsSomeMarked no_bounds to_head) bytes n

-- Of the text of such a message each front shows its content.
shows_marked : (to_head : Bool) (m : Message) → IsValid m → no_form to_head m ≡ None → (front : Output) → Begins front (weighed (marked_text to_head (clean_message m)))
    → (n : ℕ) → Shown to_head (written front) n → shown_in front ≤ n
shows_marked to_head m valid form front begins n body =
    let scheme = some_scheme m.start m.fields (free_front (of_head m.start m.fields) _ (none_free _ form)) in
    shows_text (IsSomeMarked no_bounds to_head) (λ t u front more others p q e f. one_marking no_bounds no_bounds to_head t u p q front more others e f)
    (weighed (marked_text to_head (clean_message m))) (marked_text to_head (clean_message m)) refl
    (clean_message m, there_marked scheme.0 to_head m valid scheme.1 form) front begins.rest begins.split n body

-- Of what is owed for its items too.
shows_items : (to_head : Bool) (m : Message) (o : Omitted) (z : ℕ) → IsValid m → no_form to_head m ≡ None → LeavesOut m o → (front : Output)
    → Begins front (owed to_head at_start (items (clean_message m) o z)) → (n : ℕ) → Shown to_head (written front) n → shown_in front ≤ n
shows_items to_head m o z valid form leaves front begins n body =
    shows_marked to_head m valid form front (subst (Begins front) (owes_the_text to_head (clean_message m) o z (leaves_clean m o leaves)) begins) n body

-- ---- where the items of a message end

-- before its head is whole
record BeforeHead (m : Message) (i : List Item) : Type 0 where
  mid : List Item
  split : start_items m.start m.fields ≡ i ++ mid
  some : mid ≡ [] → ⊥

-- in its content
record InContent (m : Message) (i : List Item) : Type 0 where
  content : List ℕ
  more : List ℕ
  split : m.content ≡ content ++ more
  are : i ≡ start_items m.start m.fields ++ map content_byte content

-- behind its trailer section
record BehindTrailers (m : Message) (o : Omitted) (i : List Item) : Type 0 where
  nothing : o ≡ Nothing
  are : i ≡ start_items m.start m.fields ++ (map content_byte m.content ++ trailer_section m.trailers ∷ [])

map_split : (content : List ℕ) (mid more : List Item) → map content_byte content ≡ mid ++ more → (a b : List ℕ) × (content ≡ a ++ b) × (mid ≡ map content_byte a)
map_split content [] more e = ([], content, refl, refl)
map_split [] (x ∷ mid) more e = absurd (cc)
map_split (y ∷ content) (x ∷ mid) more e =
    let first : content_byte y ≡ x = cc in
    let tail : map content_byte content ≡ mid ++ more = cc in
    let r = map_split content mid more tail in
    (y ∷ r.0, r.1, ap (λ (l : List ℕ). y ∷ l) r.2, λ j. (sym first) j ∷ r.3 j)

nothing_left : (x : Item) (i q : List Item) → [] ≡ i ++ q → q ≡ []
nothing_left x [] q e = sym e
nothing_left x (y ∷ i) q e = absurd (cc)

cut_of : (m : Message) (o : Omitted) (z : ℕ) (i q : List Item) → (q ≡ [] → ⊥) → items m o z ≡ i ++ q → BeforeHead m i ⊎ (InContent m i ⊎ BehindTrailers m o i)
cut_of m o z i q some e = by_head (front_of_two (start_items m.start m.fields) (tail_items m.content m.trailers o z) i q e)
  where
    behind_content : (mid : List Item) → i ≡ start_items m.start m.fields ++ (map content_byte m.content ++ mid) → (o : Omitted) → trailer_items o m.trailers ++ ending o z ∷ [] ≡ mid ++ q
        → InContent m i ⊎ BehindTrailers m o i
    behind_content [] are o e = inl (record { content = m.content; more = []; split = sym (append-nil m.content); are = are ∙ ap (λ (l : List Item). start_items m.start m.fields ++ l) (append-nil (map content_byte m.content)) })
    behind_content (x ∷ []) are Nothing e =
        let first : trailer_section m.trailers ≡ x = cc in
        inr (record { nothing = refl; are = are ∙ ap (λ (y : Item). start_items m.start m.fields ++ (map content_byte m.content ++ y ∷ [])) (sym first) })
    behind_content (x ∷ (y ∷ mid)) are Nothing e = let tail : [] ≡ mid ++ q = cc in absurd (some (nothing_left x mid q tail))
    behind_content (x ∷ mid) are Trailers e = let tail : [] ≡ mid ++ q = cc in absurd (some (nothing_left x mid q tail))
    behind_content (x ∷ mid) are Both e = let tail : [] ≡ mid ++ q = cc in absurd (some (nothing_left x mid q tail))

    by_content : (mid : List Item) → i ≡ start_items m.start m.fields ++ mid
        → ((more : List Item) × (map content_byte m.content ≡ mid ++ more)) ⊎ ((last : List Item) × (mid ≡ map content_byte m.content ++ last) × (trailer_items o m.trailers ++ ending o z ∷ [] ≡ last ++ q))
        → InContent m i ⊎ BehindTrailers m o i
    by_content mid are (inl h) =
        let c = map_split m.content mid h.0 h.1 in
        inl (record { content = c.0; more = c.1; split = c.2; are = are ∙ ap (λ (l : List Item). start_items m.start m.fields ++ l) c.3 })
    by_content mid are (inr h) = behind_content h.0 (are ∙ ap (λ (l : List Item). start_items m.start m.fields ++ l) h.1) o h.2

    by_head : ((more : List Item) × (start_items m.start m.fields ≡ i ++ more)) ⊎ ((mid : List Item) × (i ≡ start_items m.start m.fields ++ mid) × (tail_items m.content m.trailers o z ≡ mid ++ q))
        → BeforeHead m i ⊎ (InContent m i ⊎ BehindTrailers m o i)
    by_head (inl ([], e)) = inr (inl (record { content = []; more = m.content; split = refl; are = sym (append-nil i) ∙ sym e ∙ sym (append-nil (start_items m.start m.fields)) }))
    by_head (inl (x ∷ more, e)) = inl (record { mid = x ∷ more; split = e; some = λ none. cc })
    by_head (inr h) = inr (by_content h.0 h.1 (front_of_two (map content_byte m.content) (trailer_items o m.trailers ++ ending o z ∷ []) h.0 q h.2))

-- ---- before a head nothing is shown

alone : (x : Item) (i mid : List Item) → (mid ≡ [] → ⊥) → x ∷ [] ≡ i ++ mid → i ≡ []
alone x [] mid some e = refl
alone x (y ∷ i) mid some e = let tail : [] ≡ i ++ mid = cc in absurd (some (nothing_left x i mid tail))

interims_quiet : (to_head : Bool) (interims : List Interim) (status : ℕ) (fields : List Field) (named : List (List ℕ)) (i mid : List Item) → (mid ≡ [] → ⊥)
    → map (λ interim. interim_response interim.status interim.fields) interims ++ head (of_response status) fields ∷ [] ≡ i ++ mid
    → shown_in (owed to_head at_start (cleaned_items named i ++ [])) ≡ 0
interims_quiet to_head [] status fields named i mid some e =
    ap (λ (l : List Item). shown_in (owed to_head at_start (cleaned_items named l ++ []))) (alone (head (of_response status) fields) i mid some e)
interims_quiet to_head (r ∷ interims) status fields named [] mid some e = refl
interims_quiet to_head (r ∷ interims) status fields named (x ∷ i) mid some e =
    let one : Item = interim_response r.status r.fields in
    let first : one ≡ x = cc in
    let tail : map (λ (interim : Interim). interim_response interim.status interim.fields) interims ++ head (of_response status) fields ∷ [] ≡ i ++ mid = cc in
    subst (λ (y : Item). shown_in (owed to_head at_start (cleaned_items named (y ∷ i) ++ [])) ≡ 0) first (behind_one (λ names. interims_quiet to_head interims status fields names i mid some tail))
  where
    behind_one : ((names : List (List ℕ)) → shown_in (owed to_head at_start (cleaned_items names i ++ [])) ≡ 0)
        → shown_in (owed to_head at_start (cleaned_items named (interim_response r.status r.fields ∷ i) ++ [])) ≡ 0
    behind_one quiet =
        let text : List ℕ = interim_text (record { status = r.status; fields = clean (hops r.fields) false r.fields }) in
        let sum = shown-append (plain text) (owed to_head at_start (cleaned_items (hops r.fields) i ++ [])) in
        omega (arith, sum, shown_plain text, quiet (hops r.fields))

before_quiet : (to_head : Bool) (a : Start) (fields : List Field) (named : List (List ℕ)) (i mid : List Item) → (mid ≡ [] → ⊥) → start_items a fields ≡ i ++ mid
    → shown_in (owed to_head at_start (cleaned_items named i ++ [])) ≡ 0
before_quiet to_head (request c) fields named i mid some e =
    ap (λ (l : List Item). shown_in (owed to_head at_start (cleaned_items named l ++ []))) (alone (head (of_request c) fields) i mid some e)
before_quiet to_head (response interims status) fields named i mid some e = interims_quiet to_head interims status fields named i mid some e

-- ---- the decoder and the writer at the start

last_item : (xs ys : List Item) (x y : Item) → xs ++ x ∷ [] ≡ ys ++ y ∷ [] → (xs ≡ ys) × (x ≡ y)
last_item [] [] x y e = (refl, cc)
last_item [] (b ∷ ys) x y e = let none : [] ≡ ys ++ y ∷ [] = cc in let less = nothing_left b ys (y ∷ []) none in absurd (cc)
last_item (a ∷ xs) [] x y e = let none : xs ++ x ∷ [] ≡ [] = cc in let less = nothing_left a xs (x ∷ []) (sym none) in absurd (cc)
last_item (a ∷ xs) (b ∷ ys) x y e =
    let first : a ≡ b = cc in
    let tail : xs ++ x ∷ [] ≡ ys ++ y ∷ [] = cc in
    let r = last_item xs ys x y tail in
    (λ j. first j ∷ r.0 j, r.1)

front_bytes : (a b c : List ℕ) → c ≡ a ++ b → AreBytes c → AreBytes a
front_bytes a b c e h = subst AreBytes (take_front a b) (All-take (λ (byte : ℕ). byte < 256) (length a) (a ++ b) (subst AreBytes e h))

module _ (L : Bounds) (limits : AreLimits L) (to_head : Bool) (v : JudgedView) (start : IsAtStart L to_head v) where
  -- the items that were judged
  free_from : (i : List Item) → Free v.to_head v.course i → Free to_head start_course i
  free_from i h = subst (λ (b : Bool). Free b start_course i) start.to_head_is (subst (λ (c : Course). Free v.to_head c i) start.course h)

  -- behind them those of another message
  on : (i j : List Item) (m : Message) (o : Omitted) (z : ℕ) → items m o z ≡ i ++ j → cleaned_items v.course.named i ++ cleaned_items (behind v.to_head v.course i).named j ≡ items (clean_message m) o z
  on i j m o z e = sym (cleaned-append v.to_head v.course i j) ∙ ap (cleaned_items v.course.named) (sym e) ∙ items_cleaned v.course.named m o z

  module _ (bytes : List ℕ) (i : List Item) (w : JudgedView) (m : Moved v bytes i w) (front : Output) (n : ℕ) (body : Shown to_head (written front) n) where
    -- a message that goes on behind content
    shows_filled : (own : Message) (content : List ℕ) → IsValid own → AreBytes content → m.raw ≡ start_items own.start own.fields ++ map content_byte content
        → Begins front (weighed (marked_text to_head (clean_message (filled to_head own content)))) → shown_in front ≤ n
    shows_filled own content valid are raw_is begins =
        let free = start_free to_head own.start own.fields (map content_byte content) (subst (Free to_head start_course) raw_is (free_from m.raw m.free)) in
        let room = room_behind to_head own.start own.fields content free.1 in
        shows_marked to_head (filled to_head own content) (filled_valid to_head own content valid are) (filled_form to_head own content free.0 room) front begins n body

    -- a whole message
    shows_whole : (own : Message) (z : ℕ) → IsValid own → m.raw ≡ start_items own.start own.fields ++ (map content_byte own.content ++ trailer_section own.trailers ∷ [])
        → Begins front (owed to_head at_start (items (clean_message own) Nothing z)) → shown_in front ≤ n
    shows_whole own z valid raw_is begins =
        let free = start_free to_head own.start own.fields (map content_byte own.content ++ trailer_section own.trailers ∷ []) (subst (Free to_head start_course) raw_is (free_from m.raw m.free)) in
        let room = trailers_behind to_head own.start own.fields own.content own.trailers free.1 in
        shows_items to_head own Nothing z valid (has_form to_head own free.0 room.0 room.1) tt front begins n body

    so_far : (q : List Item) (t : Text) → rest v (i ++ q) t → ((q : List Item) → Begins front (owed to_head at_start (i ++ q))) → shown_in front ≤ n
    so_far q t r begins =
        let alive = alive_behind v.reading w.reading bytes m.raw m.moved in
        let h = reading_laws.leads v.reading w.reading bytes m.raw m.moved in
        let found = raw L limits to_head v start (m.raw ++ alive.0) (h.residual.text ++ alive.1) (h.residual.back alive.0 alive.1 alive.2) in
        by_cut found.0 found.1 found.2 found.4.valid (cut_of found.0 found.1 found.2 m.raw alive.0 (some_left _ _ alive.0 alive.1 alive.2) (sym found.3))
      where
        begins_raw : (j : List Item) → Begins front (owed to_head at_start (cleaned_items v.course.named m.raw ++ j))
        begins_raw j = subst (λ (l : List Item). Begins front (owed to_head at_start (l ++ j))) m.items_are (begins j)

        by_cut : (own : Message) (o : Omitted) (z : ℕ) → IsValid own → BeforeHead own m.raw ⊎ (InContent own m.raw ⊎ BehindTrailers own o m.raw) → shown_in front ≤ n
        by_cut own o z valid (inl c) =
            let b = begins_raw [] in
            omega (arith, shown-append front b.rest, ap shown_in b.split, before_quiet to_head own.start own.fields v.course.named m.raw c.mid c.some c.split)
        by_cut own o z valid (inr (inl c)) =
            let f = announced to_head own.start own.fields in
            let k : List ℕ = zeros (lacking f (length c.content)) in
            let tail : List Item = map content_byte k ++ ending Trailers 0 ∷ [] in
            let all : items (filled to_head own c.content) Trailers 0 ≡ m.raw ++ tail =
            ap (λ (l : List Item). start_items own.start own.fields ++ (l ++ ending Trailers 0 ∷ [])) (map-append content_byte c.content k)
            ∙ ap (λ (l : List Item). start_items own.start own.fields ++ l) (append_assoc (map content_byte c.content) (map content_byte k) (ending Trailers 0 ∷ []))
            ∙ sym (append_assoc (start_items own.start own.fields) (map content_byte c.content) tail) ∙ ap (λ (l : List Item). l ++ tail) (sym c.are) in
            shows_filled own c.content valid (front_bytes c.content c.more own.content c.split valid.content) c.are
            (subst (Begins front) (ap (λ (l : List Item). owed to_head at_start l) (on m.raw tail (filled to_head own c.content) Trailers 0 all)
            ∙ owes_the_text to_head (clean_message (filled to_head own c.content)) Trailers 0 refl)
            (begins_raw (cleaned_items (behind v.to_head v.course m.raw).named tail)))
        by_cut own o z valid (inr (inr c)) =
            let tail : List Item = ending Nothing 0 ∷ [] in
            let all : items own Nothing 0 ≡ m.raw ++ tail =
            ap (λ (l : List Item). start_items own.start own.fields ++ l) (sym (append_assoc (map content_byte own.content) (trailer_section own.trailers ∷ []) tail))
            ∙ sym (append_assoc (start_items own.start own.fields) (map content_byte own.content ++ trailer_section own.trailers ∷ []) tail) ∙ ap (λ (l : List Item). l ++ tail) (sym c.are) in
            shows_whole own 0 valid c.are
            (subst (λ (l : List Item). Begins front (owed to_head at_start l)) (on m.raw tail own Nothing 0 all) (begins_raw (cleaned_items (behind v.to_head v.course m.raw).named tail)))

    at_end : (o : Omitted) (z : ℕ) → rest w (ending o z ∷ []) [] → Begins front (owed to_head at_start (i ++ ending o z ∷ [])) → shown_in front ≤ n
    at_end o z whole begins =
        let h = reading_laws.leads v.reading w.reading bytes m.raw m.moved in
        let here = one_ending w.course.named whole.0 o z (sym whole.1) in
        let found = raw L limits to_head v start (m.raw ++ ending o z ∷ []) (h.residual.text ++ [])
        (h.residual.back (ending o z ∷ []) [] (subst (λ (q : List Item). binary.rest w.reading q []) here whole.2)) in
        let own = found.0 in
        let all : i ++ ending o z ∷ [] ≡ items (clean_message own) found.1 found.2 =
        ap (λ (l : List Item). l ++ ending o z ∷ []) m.items_are ∙ on m.raw (ending o z ∷ []) own found.1 found.2 (sym found.3) in
        by_omitted own found.1 found.2 found.4.valid (spelled_leaves L own found.1 found.2 _ found.4) found.3
        (subst (λ (l : List Item). Begins front (owed to_head at_start l)) all begins)
      where
        in_content : (own : Message) (p : Omitted) (y : ℕ) → IsValid own → LeavesOut own p → own.trailers ≡ [] → m.raw ++ ending o z ∷ [] ≡ start_items own.start own.fields ++ (map content_byte own.content ++ ending p y ∷ [])
            → Begins front (owed to_head at_start (items (clean_message own) p y)) → shown_in front ≤ n
        in_content own p y valid leaves none e begins =
            let same = last_item m.raw (start_items own.start own.fields ++ map content_byte own.content) (ending o z) (ending p y)
            (e ∙ sym (append_assoc (start_items own.start own.fields) (map content_byte own.content) (ending p y ∷ []))) in
            shows_filled own own.content valid valid.content same.0
            (begins_more front (weighed (marked_text to_head (clean_message own))) (weighed (marked_text to_head (clean_message (filled to_head own own.content))))
            (subst (Begins front) (owes_the_text to_head (clean_message own) p y (leaves_clean own p leaves)) begins) (filled_on to_head own none))

        by_omitted : (own : Message) (p : Omitted) (y : ℕ) → IsValid own → LeavesOut own p → m.raw ++ ending o z ∷ [] ≡ items own p y
            → Begins front (owed to_head at_start (items (clean_message own) p y)) → shown_in front ≤ n
        by_omitted own Nothing y valid leaves e begins =
            let body : List Item = map content_byte own.content ++ trailer_section own.trailers ∷ [] in
            let same = last_item m.raw (start_items own.start own.fields ++ body) (ending o z) (ending Nothing y)
            (e ∙ ap (λ (l : List Item). start_items own.start own.fields ++ l) (sym (append_assoc (map content_byte own.content) (trailer_section own.trailers ∷ []) (ending Nothing y ∷ [])))
            ∙ sym (append_assoc (start_items own.start own.fields) body (ending Nothing y ∷ []))) in
            shows_whole own y valid same.0 begins
        by_omitted own Trailers y valid leaves e begins = in_content own Trailers y valid leaves leaves e begins
        by_omitted own Both y valid leaves e begins = in_content own Both y valid leaves leaves.1 e begins

  -- What may have been written shows its content.
  pub shows_so_far : ShowsSoFar rest Moved v (HasBody (IsSomeMarked no_bounds to_head)) (owed to_head at_start)
  shows_so_far = record {
    so_far = λ bytes i w m q t r front begins n body. so_far bytes i w m front n body q t r begins;
    at_end = λ bytes i w m o z whole front begins n body. at_end bytes i w m front n body o z whole begins;
  }
