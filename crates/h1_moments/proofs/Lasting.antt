-- An item's moment comes with its last byte, and at no byte before it.
use Rattle.std.proofs.Common.{◌≡◌, ◌<◌, ◌≤◌, ◌+◌, ◌⊎◌, ℕ, zero, suc, List, [], ◌∷◌, ◌++◌, length, map, replicate, All, refl, sym, ap, ap₂, subst, ◌∙◌, inl, inr, append_assoc, append-nil, length-append, arith}
use Rattle.std.specs.List.{Contains}
use Rattle.std.proofs.lemmas.Bool.{cases_lt}
use Rattle.std.proofs.lemmas.List.{same_from_push, append_cancel_left, append_cancel_right}
use Rattle.std.proofs.lemmas.List.Elements.{All-nil, Contains-append_left}
use Rattle.bh_spec.specs.declared.Form.{Form}
use Rattle.bh_spec.specs.declared.Form.TheVariants.{Known, Indeterminate}
use Rattle.bh_spec.specs.declared.Omitted.{Omitted}
use Rattle.bh_spec.specs.declared.Omitted.TheVariants.{Nothing, Trailers, Both}
use Rattle.bh_spec.specs.declared.Part.{Part}
use Rattle.bh_spec.specs.declared.Part.TheVariants as parts
use Rattle.bh_spec.specs.declared.Width.{Width}
use Rattle.bh_spec.specs.declared.Width.TheVariants.{One, Two, Four, Eight}
use Rattle.bh_spec.specs.Bounds.{Bounds, IsWithin}
use Rattle.bh_spec.specs.Integers.{vi, byte_count, limit_of}
use Rattle.bh_spec.specs.Bytes.{AreBytes}
use Rattle.bh_spec.specs.Messages.{Field, Interim, Start, request, response, kind_of, Message, IsInterim, IsStart, AreTrailers}
use Rattle.bh_spec.specs.Texts.{Text, bytes_of, mark, IsNumber, AreEach, content_in}
use Rattle.bh_spec.specs.Tails.{IsBody, IsTail}
use Rattle.bh_spec.specs.Spelling.{IsInterimText, IsStartText, framing, Spells}
use Rattle.bh_spec.specs.Items.{Item, Head, of_response, interim_response, head, content_byte, trailer_section, ending, start_items, trailer_items, tail_items, items}
use Rattle.bh_spec.proofs.Sections.{section_nonempty}
use Rattle.bh_spec.proofs.Widths.{length-vi}
use Rattle.bh_spec.proofs.Within.{no_headers, within_less}
use Rattle.bh_spec.proofs.Marks.{bytes_of-append, content-append, length-mark}
use Rattle.bh_push.specs.Completing.{interim_item, ResponseRest}
use Rattle.bh_push.specs.Decoders.{At, Rest, in_framing}
use Rattle.bh_push.specs.Standing.{Comes, IsRight}
use Rattle.bh_push.proofs.Starting.{start_is}
use Rattle.bh_push.proofs.Walking.{comes_on}
use Rattle.bh_stream.specs.Decoding.{content_items}
use Rattle.bh_stream.proofs.Moving.{shorter, items-append, bytes-length, content-few}
use Rattle.bh_reading.specs.ContentLaws.{content_of_rest}
use Rattle.h1_spec.specs.Http1.{interims_of}
use Rattle.h1_spec.specs.Moments.{Moment, interim_ended, head_ended, content_read, trailers_ended}
use Rattle.h1_spec.specs.Judging.{IsInterims, IsContent, IsClosing, ComesAt}
use Rattle.h1_spec.proofs.Coming.{status, status_is, no_section, no_section_is}
use Rattle.h1_spec.proofs.Members.{body_all}
use Rattle.h1_spec.proofs.Unjudging.{weight, content_or_not}
use Rattle.h1_moments.specs.Seen.{Seen, interims_seen, head_seen, nothing_seen, start_with, see, seen_behind, moments_of, moments_in}
use Rattle.h1_moments.specs.Laws.{LeadsToLast, ItsMomentComes}
use Rattle.h1_moments.proofs.Ahead.{last_status, last_section, last_long, last_items, last_response}
use Rattle.h1_moments.proofs.Seeing.{seen-append, tail_count, message_seen, one_in, none_in}
use Rattle.h1_moments.proofs.Fronts.{Parted, parted, head_ends, trailers_end, few_content}
use Rattle.h1_moments.proofs.Continuing.{Continued, continued, ends_with, ends_front, content_so_far, start_count}
use Rattle.h1_moments.proofs.Placing.{seen_late}
use Rattle.h1_moments.proofs.Unseen.{Snoc, snoc, interim_late, interim_next, interim_seen}

-- ---- one way behind another

-- bytes that lead to an item, right behind it
pub leads : (L : Bounds) (bytes run : List ℕ) (i j : List Item) (item : Item) (v w : At) → LeadsToLast L bytes run i j item v w → Comes L (in_framing []) (bytes ++ run) ((i ++ j) ++ item ∷ []) w
leads L bytes run i j item v w h =
    subst (λ (k : List Item). Comes L (in_framing []) (bytes ++ run) k w) (sym (append_assoc i j (item ∷ [])))
    (comes_on L (in_framing []) v w bytes run i (j ++ item ∷ []) h.before h.comes)

-- ---- the head

-- the state right behind an item may be the end
right_head : (L : Bounds) (w : At) (of : Head) (fields : List Field) → IsRight (head of fields ∷ []) w → Rest L w (ending Both 0 ∷ []) []
right_head L w of fields r = subst (λ (x : At). Rest L x (ending Both 0 ∷ []) []) (sym r.1) (inl (refl, refl))

-- what was seen there is the head of the message
head_there : (i : List Item) (of : Head) (fields : List Field) (m : Message) (o : Omitted) (z : ℕ) (is : List Interim) → (i ++ head of fields ∷ []) ++ ending Both 0 ∷ [] ≡ items m o z
    → seen_behind nothing_seen i ≡ interims_seen is → head_ended (start_with is of) fields ≡ head_ended m.start m.fields
head_there i of fields m o z is e seen =
    let same : head_seen (start_with is of) fields 0 ≡ head_seen m.start m.fields (length m.content) =
    sym (ap (λ (s : Seen). seen_behind s (head of fields ∷ ending Both 0 ∷ [])) seen) ∙ sym (seen-append nothing_seen i (head of fields ∷ ending Both 0 ∷ []))
    ∙ ap (seen_behind nothing_seen) (sym (append_assoc i (head of fields ∷ []) (ending Both 0 ∷ [])) ∙ e) ∙ message_seen m o z in
    cc same

head_comes : (L : Bounds) (bytes : List ℕ) (i : List Item) (of : Head) (fields : List Field) (w : At) (moment : Moment) → Comes L (in_framing []) bytes (i ++ head of fields ∷ []) w → IsRight (head of fields ∷ []) w
    → (s : Seen) → seen_behind nothing_seen i ≡ s → Contains (moments_of s (head of fields)) moment → ComesAt L bytes moment
head_comes L bytes i of fields w moment c r (head_seen start more n) seen k = absurd (none_in moment k)
head_comes L bytes i of fields w moment c r (interims_seen is) seen k =
    let d = continued L bytes (i ++ head of fields ∷ []) w c (ending Both 0 ∷ []) [] (right_head L w of fields r) in
    let m = d.message in
    let both = (ends_with m d.omitted Both d.padding 0 (i ++ head of fields ∷ []) d.items_are).0 in
    let p = parted L m d.omitted d.padding (c.within.text ++ []) d.spells in
    let none = (subst (λ (x : Omitted). IsTail L p.form m.content m.trailers x d.padding p.tail) both p.tail_is).3 in
    let text : p.opens ≡ c.within.text =
    sym (append-nil p.opens) ∙ ap (λ (x : Text). p.opens ++ x) (sym none) ∙ sym p.joined ∙ append-nil c.within.text in
    let here : ComesAt L bytes (head_ended m.start m.fields) = (p.form, record { text = p.opens; spelled = p.is_open; same = ap bytes_of text ∙ c.within.same }) in
    subst (ComesAt L bytes) (sym (head_there i of fields m d.omitted d.padding is d.items_are seen) ∙ one_in (head_ended (start_with is of) fields) moment k) here

-- ---- the trailer section

right_trailers : (L : Bounds) (w : At) (trailers : List Field) → IsRight (trailer_section trailers ∷ []) w → Rest L w (ending Nothing 0 ∷ []) []
right_trailers L w trailers r = subst (λ (x : At). Rest L x (ending Nothing 0 ∷ []) []) (sym r) (0, refl, refl)

closing_of : (L : Bounds) (form : Form) (m : Message) (o : Omitted) (z : ℕ) (t : Text) → o ≡ Nothing → z ≡ 0 → IsTail L form m.content m.trailers o z t → AreBytes m.content → AreTrailers m.trailers
    → IsClosing L form (length m.content) m.trailers t
closing_of L form m o z t whole none h bytes trailers =
    let p = subst (λ (x : Omitted). IsTail L form m.content m.trailers x z t) whole h in
    let q = p.3 in
    let padding : q.1 ≡ [] = q.3 ∙ no_padding z none in
    record {
      content = m.content;
      counts = refl;
      bytes_are = bytes;
      trailers_are = trailers;
      spelled = (p.0, q.0, p.2, q.2, p.4 ∙ ap (λ (x : Text). p.0 ++ x) (q.4 ∙ ap (λ (x : Text). q.0 ++ x) padding ∙ append-nil q.0));
    }
  where
    no_padding : (z : ℕ) → z ≡ 0 → mark parts.Padding (replicate z 0) ≡ []
    no_padding zero e = refl
    no_padding (suc z) e = absurd (omega (arith, e))

trailers_there : (i : List Item) (trailers : List Field) (m : Message) (o : Omitted) (z : ℕ) (start : Start) (fields : List Field) (n : ℕ) → o ≡ Nothing
    → (i ++ trailer_section trailers ∷ []) ++ ending Nothing 0 ∷ [] ≡ items m o z → seen_behind nothing_seen i ≡ head_seen start fields n
    → trailers_ended start fields n trailers ≡ trailers_ended m.start m.fields (length m.content) m.trailers
trailers_there i trailers m o z start fields n whole e seen =
    let same : head_seen start fields n ≡ head_seen m.start m.fields (length m.content) =
    sym (ap (λ (s : Seen). seen_behind s (trailer_section trailers ∷ ending Nothing 0 ∷ [])) seen) ∙ sym (seen-append nothing_seen i (trailer_section trailers ∷ ending Nothing 0 ∷ []))
    ∙ ap (seen_behind nothing_seen) (sym (append_assoc i (trailer_section trailers ∷ []) (ending Nothing 0 ∷ [])) ∙ e) ∙ message_seen m o z in
    let front = ends_front m o Nothing z 0 (i ++ trailer_section trailers ∷ []) e in
    let split : i ++ trailer_section trailers ∷ [] ≡ (start_items m.start m.fields ++ map content_byte m.content) ++ trailer_section m.trailers ∷ [] =
    front ∙ ap (λ (x : Omitted). start_items m.start m.fields ++ (map content_byte m.content ++ trailer_items x m.trailers)) whole
    ∙ sym (append_assoc (start_items m.start m.fields) (map content_byte m.content) (trailer_section m.trailers ∷ [])) in
    let last = (same_from_push i (start_items m.start m.fields ++ map content_byte m.content) (trailer_section trailers) (trailer_section m.trailers) split).1 in
    cc (same, last)

trailers_come : (L : Bounds) (bytes : List ℕ) (i : List Item) (trailers : List Field) (w : At) (moment : Moment) → Comes L (in_framing []) bytes (i ++ trailer_section trailers ∷ []) w
    → IsRight (trailer_section trailers ∷ []) w → (s : Seen) → seen_behind nothing_seen i ≡ s → Contains (moments_of s (trailer_section trailers)) moment → ComesAt L bytes moment
trailers_come L bytes i trailers w moment c r (interims_seen is) seen k = absurd (none_in moment k)
trailers_come L bytes i trailers w moment c r (head_seen start fields n) seen k =
    let d = continued L bytes (i ++ trailer_section trailers ∷ []) w c (ending Nothing 0 ∷ []) [] (right_trailers L w trailers r) in
    let m = d.message in
    let ends = ends_with m d.omitted Nothing d.padding 0 (i ++ trailer_section trailers ∷ []) d.items_are in
    let p = parted L m d.omitted d.padding (c.within.text ++ []) d.spells in
    let closing = closing_of L p.form m d.omitted d.padding p.tail ends.0 ends.1 p.tail_is d.spells.valid.content d.spells.valid.trailers in
    let here : ComesAt L bytes (trailers_ended m.start m.fields (length m.content) m.trailers) =
    (p.form, record { text = p.opens ++ p.tail; spelled = (p.opens, p.tail, p.is_open, closing, refl); same = ap bytes_of (sym p.joined ∙ append-nil c.within.text) ∙ c.within.same }) in
    subst (ComesAt L bytes) (sym (trailers_there i trailers m d.omitted d.padding start fields n ends.0 d.items_are seen) ∙ one_in (trailers_ended start fields n trailers) moment k) here

-- ---- an interim response

-- a final response in three bytes
short_response : (L : Bounds) (form : Form) (before : ℕ) → IsWithin L.interims before → ResponseRest L form before last_items (status ++ no_section form)
short_response L form before few = record {
  thing = ([], 200);
  text = status;
  rest = no_section form;
  more = last_items;
  spelled = record {
    each = All-nil IsInterim;
    final = record { low = omega arith; high = omega arith };
    few = within_less L.interims (before + 0) before (omega arith) few;
    spelled = ([], status, refl, status_is, refl);
  };
  behind = record {
    thing = [];
    text = no_section form;
    rest = [];
    more = ending Both 0 ∷ [];
    spelled = (no_section_is L form, no_headers);
    behind = inl (refl, refl);
    items = refl;
    joined = sym (append-nil (no_section form));
  };
  items = refl;
  joined = refl;
}

short_long : (form : Form) → length (status ++ no_section form) ≡ 3
short_long Known = refl
short_long Indeterminate = refl

-- what may stand behind the section
record Responds (L : Bounds) (w : At) : Type 0 where
  form : Form
  long : Rest L w last_items (last_status ++ last_section form)
  short : Rest L w last_items (status ++ no_section form)

responds : (L : Bounds) (w : At) (n : ℕ) (fields : List Field) (q : List Item) (t : Text) → IsRight (interim_response n fields ∷ []) w → Rest L w q t → Responds L w
responds L w n fields q t r h =
    let there : ResponseRest L r.0 (r.1 + 1) q t = subst (λ (x : At). Rest L x q t) r.2 h in
    let few : IsWithin L.interims (r.1 + 1) = within_less L.interims (r.1 + 1) (r.1 + 1 + length there.thing.0) (omega arith) there.spelled.few in
    record {
      form = r.0;
      long = subst (λ (x : At). Rest L x last_items (last_status ++ last_section r.0)) (sym r.2) (last_response L r.0 (r.1 + 1) few);
      short = subst (λ (x : At). Rest L x last_items (status ++ no_section r.0)) (sym r.2) (short_response L r.0 (r.1 + 1) few);
    }

-- a status takes two bytes at least
status_long : (n : ℕ) (t : Text) → 200 ≤ n → IsNumber parts.Status n t → 2 ≤ length t
status_long n t high h = omega (arith, ap length h.spelled, length-mark parts.Status (vi n h.width), length-vi n h.width, at_least h.width h.fits)
  where
    at_least : (w : Width) → n < limit_of w → 2 ≤ byte_count w
    at_least One f = absurd (omega (arith, f, high))
    at_least Two f = omega arith
    at_least Four f = omega arith
    at_least Eight f = omega arith

-- the interim responses of a message's text
record Interims (L : Bounds) (js : List Interim) (a : Interim) (number begun : Text) : Type 0 where
  text : Text
  is : IsInterims L a text
  before_is : is.before ≡ js
  last : Text
  some : 2 ≤ length last
  joined : number ++ begun ≡ text ++ last

interims_at : (L : Bounds) (form : Form) (start : Start) (js : List Interim) (a : Interim) (number begun : Text) → IsStart start → interims_of start ≡ js ++ a ∷ []
    → IsNumber parts.Framing (framing (kind_of start) form) number → IsStartText L form start begun → Interims L js a number begun
interims_at L form (request c) js a number begun valid e n b = absurd (omega (arith, ap length e, length-append js (a ∷ [])))
interims_at L form (response is n) js a number begun valid e num b =
    let t = b.1 in
    record {
      text = number ++ t.0;
      is = record {
        form = form;
        before = js;
        each = subst (All IsInterim) e valid.each;
        few = subst (λ (x : List Interim). IsWithin L.interims (length x)) e b.0;
        spelled = (number, t.0, num, subst (λ (x : List Interim). AreEach (IsInterimText L form) x t.0) e t.2, refl);
      };
      before_is = refl;
      last = t.1;
      some = status_long n t.1 valid.final.low t.3;
      joined = ap (λ (x : Text). number ++ x) t.4 ∙ sym (append_assoc number t.0 t.1);
    }

-- where the items up to an interim response stand, and a final response behind them
interim_there : (i : List Item) (a : Interim) (m : Message) (o : Omitted) (z : ℕ) (is : List Interim) → (i ++ interim_item a ∷ []) ++ last_items ≡ items m o z → seen_behind nothing_seen i ≡ interims_seen is
    → (m.start ≡ response (is ++ a ∷ []) 200) × (m.fields ≡ [])
interim_there i a m o z is e seen =
    let same : head_seen (response (is ++ a ∷ []) 200) [] 0 ≡ head_seen m.start m.fields (length m.content) =
    sym (ap (λ (s : Seen). seen_behind s (interim_item a ∷ last_items)) seen) ∙ sym (seen-append nothing_seen i (interim_item a ∷ last_items))
    ∙ ap (seen_behind nothing_seen) (sym (append_assoc i (interim_item a ∷ []) last_items) ∙ e) ∙ message_seen m o z in
    (let x : m.start ≡ response (is ++ a ∷ []) 200 = cc same in x, let y : m.fields ≡ [] = cc same in y)

both_there : (i : List Item) (a : Interim) (m : Message) (o : Omitted) (z : ℕ) → (i ++ interim_item a ∷ []) ++ last_items ≡ items m o z → o ≡ Both
both_there i a m o z e =
    (ends_with m o Both z 0 ((i ++ interim_item a ∷ []) ++ head (of_response 200) [] ∷ []) (append_assoc (i ++ interim_item a ∷ []) (head (of_response 200) [] ∷ []) (ending Both 0 ∷ []) ∙ e)).0

interim_comes : (L : Bounds) (bytes : List ℕ) (i : List Item) (a : Interim) (w : At) (moment : Moment) → Comes L (in_framing []) bytes (i ++ interim_item a ∷ []) w → IsRight (interim_item a ∷ []) w
    → (s : Seen) → seen_behind nothing_seen i ≡ s → Contains (moments_of s (interim_item a)) moment → ComesAt L bytes moment
interim_comes L bytes i a w moment c r (head_seen start more n) seen k = absurd (none_in moment k)
interim_comes L bytes i a w moment c r (interims_seen is) seen k =
    let alive = c.goes_on in
    let both = responds L w a.status a.fields alive.spelled.0 alive.text r alive.spelled.1 in
    let d = continued L bytes (i ++ interim_item a ∷ []) w c last_items (status ++ no_section both.form) both.short in
    let m = d.message in
    let t = d.spells.text in
    let u = t.3 in
    let x = u.3 in
    let there = interim_there i a m d.omitted d.padding is d.items_are seen in
    let found = interims_at L d.spells.form m.start is a t.0 u.0 d.spells.valid.start (ap interims_of there.0) t.2 u.2 in
    let whole : c.within.text ++ (status ++ no_section both.form) ≡ found.text ++ (found.last ++ u.1) =
    t.4 ∙ ap (λ (y : Text). t.0 ++ y) u.4 ∙ sym (append_assoc t.0 u.0 u.1) ∙ ap (λ (y : Text). y ++ u.1) found.joined ∙ append_assoc found.text found.last u.1 in
    let few : length found.text ≤ length c.within.text =
    omega (
      arith,
      ap length whole,
      length-append c.within.text (status ++ no_section both.form),
      short_long both.form,
      length-append found.text (found.last ++ u.1),
      length-append found.last u.1,
      found.some,
      ap length x.4,
      length-append x.0 x.1,
      section_nonempty L d.spells.form m.fields x.0 x.2,
    ) in
    let cut = shorter found.text (found.last ++ u.1) c.within.text (status ++ no_section both.form) (sym whole) few in
    by_rest found.text found.is found.before_is cut.0 cut.1 both.form both.long
  where
    by_rest : (g : Text) → (h : IsInterims L a g) → h.before ≡ is → (rest : Text) → c.within.text ≡ g ++ rest → (form : Form) → Rest L w last_items (last_status ++ last_section form) → ComesAt L bytes moment
    by_rest g h f [] e form long =
        subst (ComesAt L bytes) (one_in (interim_ended a) moment k) (record { text = g; spelled = h; same = ap bytes_of (sym (append-nil g) ∙ sym e) ∙ c.within.same })
    by_rest g h f (y ∷ rest) e form long =
        let d = continued L bytes (i ++ interim_item a ∷ []) w c last_items (last_status ++ last_section form) long in
        let there = interim_there i a d.message d.omitted d.padding is d.items_are seen in
        let last = last_status ++ last_section form in
        let spells = subst (λ (x : Text). Spells L d.message d.omitted d.padding x) (ap (λ (x : Text). x ++ last) e ∙ append_assoc g (y ∷ rest) last) d.spells in
        let place : interims_of d.message.start ≡ h.before ++ a ∷ [] = ap interims_of there.0 ∙ ap (λ (x : List Interim). x ++ a ∷ []) (sym f) in
        absurd (interim_late L d.message d.omitted d.padding g (y ∷ rest) last (bytes_of g) [] a g h (both_there i a d.message d.omitted d.padding d.items_are)
        spells there.1 place (last_long form) refl (sym (append-nil (bytes_of g))) (omega arith))

-- ---- content

-- a text that is all content ends with a byte of it
full_end : (t : Text) → content_in t ≡ length t → 0 < length t → (d : Text) × (byte : ℕ) × (t ≡ d ++ (parts.Content, byte) ∷ [])
full_end t all some = by_snoc (snoc t)
  where
    by_part : (d : Text) (part : Part) (byte : ℕ) → t ≡ d ++ (part, byte) ∷ [] → (part ≡ parts.Content) ⊎ (weight part ≡ 0) → (d : Text) × (byte : ℕ) × (t ≡ d ++ (parts.Content, byte) ∷ [])
    by_part d part byte e (inl same) = (d, byte, e ∙ ap (λ (p : Part). d ++ (p, byte) ∷ []) same)
    by_part d part byte e (inr none) =
        absurd (omega (arith, all, ap length e, length-append d ((part, byte) ∷ []), ap content_in e, content-append d ((part, byte) ∷ []), content-few d, none))

    by_snoc : (t ≡ []) ⊎ Snoc t → (d : Text) × (byte : ℕ) × (t ≡ d ++ (parts.Content, byte) ∷ [])
    by_snoc (inl e) = absurd (omega (arith, some, ap length e))
    by_snoc (inr s) = by_part s.init s.last.0 s.last.1 s.split (content_or_not s.last.0)

body_of : (L : Bounds) (form : Form) (m : Message) (o : Omitted) (z : ℕ) (t : Text) → 0 < length m.content → IsTail L form m.content m.trailers o z t → (y e : Text) × IsBody form m.content y × (t ≡ y ++ e)
body_of L form m Nothing z t some h = (h.0, h.1, h.2, h.4)
body_of L form m Trailers z t some h = (t, [], h.2, sym (append-nil t))
body_of L form m Both z t some h = absurd (omega (arith, some, ap length h.0))

-- a front of a message's text that ends with a byte of content
content_here : (L : Bounds) (m : Message) (o : Omitted) (z : ℕ) (x t d : Text) (byte : ℕ) → Spells L m o z (x ++ t) → x ≡ d ++ (parts.Content, byte) ∷ [] → content_in (x ++ t) ≡ length m.content
    → ComesAt L (bytes_of x) (content_read m.start m.fields (content_in x))
content_here L m o z x t d byte h ends count = by_long (cases_lt (length w.opens) (length x))
  where
    w : Parted L m o z (x ++ t)
    w = parted L m o z (x ++ t) h

    here : content_in x ≡ content_in d + 1
    here = ap content_in ends ∙ content-append d ((parts.Content, byte) ∷ [])

    some : 0 < length m.content
    some = omega (arith, count, here, content-append x t)

    body : (y e : Text) × IsBody w.form m.content y × (w.tail ≡ y ++ e)
    body = body_of L w.form m o z w.tail some w.tail_is

    filled : content_in body.0 ≡ length m.content
    filled = body_all w.form m.content body.0 body.2

    sum : content_in w.opens + (content_in body.0 + content_in body.1) ≡ length m.content
    sum = omega (arith, ap content_in w.joined, content-append w.opens w.tail, ap content_in body.3, content-append body.0 body.1, count)

    none : content_in w.opens ≡ 0
    none = omega (arith, sum, filled)

    by_rest : (r : Text) → x ≡ w.opens ++ r → (r ≡ []) ⊎ Snoc r → length w.opens < length x → ComesAt L (bytes_of x) (content_read m.start m.fields (content_in x))
    by_rest r e (inl f) longer_is = absurd (omega (arith, longer_is, ap length e, length-append w.opens r, ap length f))
    by_rest r e (inr s) longer_is =
        let split : (w.opens ++ s.init) ++ s.last ∷ [] ≡ d ++ (parts.Content, byte) ∷ [] =
        append_assoc w.opens s.init (s.last ∷ []) ∙ ap (λ (k : Text). w.opens ++ k) (sym s.split) ∙ sym e ∙ ends in
        let last : s.last ≡ (parts.Content, byte) = (same_from_push (w.opens ++ s.init) d s.last (parts.Content, byte) split).1 in
        let rest_is : r ≡ s.init ++ (parts.Content, byte) ∷ [] = s.split ∙ ap (λ (k : Part × ℕ). s.init ++ k ∷ []) last in
        let tail : w.tail ≡ r ++ t = append_cancel_left w.opens w.tail (r ++ t) (sym w.joined ∙ ap (λ (k : Text). k ++ t) e ∙ append_assoc w.opens r t) in
        by_body r s.init rest_is tail (cases_lt (length body.0) (length r))
      where
        counts : (r : Text) → x ≡ w.opens ++ r → content_in r ≡ content_in x
        counts r e = omega (arith, ap content_in e, content-append w.opens r, none)

        by_body : (r init : Text) → r ≡ init ++ (parts.Content, byte) ∷ [] → w.tail ≡ r ++ t → (length body.0 < length r) ⊎ (length r ≤ length body.0)
            → ComesAt L (bytes_of x) (content_read m.start m.fields (content_in x))
        by_body r init f tail (inl less) =
            let over = shorter body.0 body.1 init ((parts.Content, byte) ∷ t)
            (sym body.3 ∙ tail ∙ ap (λ (k : Text). k ++ t) f ∙ append_assoc init ((parts.Content, byte) ∷ []) t) (omega (arith, less, ap length f, length-append init ((parts.Content, byte) ∷ []))) in
            absurd (omega (
              arith,
              filled,
              sum,
              ap content_in body.3,
              content-append body.0 body.1,
              ap content_in tail,
              content-append r t,
              ap content_in f,
              content-append init ((parts.Content, byte) ∷ []),
              ap content_in over.1,
              content-append body.0 over.0,
            ))
        by_body r init f tail (inr few) =
            let over = shorter r t body.0 body.1 (sym tail ∙ body.3) few in
            let text : x ≡ w.opens ++ r = e_of r tail in
            let content : IsContent w.form (content_in x) r = record {
              front = init;
              byte = byte;
              ends = f;
              counts = counts r text;
              content = m.content;
              bytes_are = h.valid.content;
              after = over.0;
              body = subst (IsBody w.form m.content) over.1 body.2;
            } in
            (w.form, record { text = w.opens ++ r; spelled = (w.opens, r, w.is_open, content, refl); same = ap bytes_of (sym text) })
          where
            e_of : (r : Text) → w.tail ≡ r ++ t → x ≡ w.opens ++ r
            e_of r tail =
                let all : x ++ t ≡ (w.opens ++ r) ++ t = w.joined ∙ ap (λ (k : Text). w.opens ++ k) tail ∙ sym (append_assoc w.opens r t) in
                append_cancel_right x (w.opens ++ r) t all

    by_long : (length w.opens < length x) ⊎ (length x ≤ length w.opens) → ComesAt L (bytes_of x) (content_read m.start m.fields (content_in x))
    by_long (inl less) = let cut = shorter w.opens w.tail x t (sym w.joined) (omega (arith, less)) in by_rest cut.0 cut.1 (snoc cut.0) less
    by_long (inr more) =
        let cut = shorter x t w.opens w.tail w.joined more in
        absurd (omega (arith, ap content_in cut.1, content-append x cut.0, here, none))

-- ---- bytes each of which is content

-- a message that continues them
record RunOn (L : Bounds) (i j q : List Item) (byte : ℕ) (ta tb t : Text) : Type 0 where
  message : Message
  omitted : Omitted
  padding : ℕ
  items_are : (i ++ j) ++ content_byte byte ∷ q ≡ items message omitted padding
  spells : Spells L message omitted padding ((ta ++ tb) ++ t)
  count : content_in ((ta ++ tb) ++ t) ≡ length message.content
  so_far : content_in (ta ++ tb) ≡ content_items (i ++ j) + 1
  front : Text
  value : ℕ
  ends : ta ++ tb ≡ front ++ (parts.Content, value) ∷ []

run_on : (L : Bounds) (bytes run : List ℕ) (i j : List Item) (byte : ℕ) (v w : At) (a : Comes L (in_framing []) bytes i v) (b : Comes L v run (j ++ content_byte byte ∷ []) w)
    → length run ≡ content_items j + 1 → (q : List Item) (t : Text) → Rest L w q t → RunOn L i j q byte a.within.text b.within.text t
run_on L bytes run i j byte v w a b last q t r =
    let c = content_byte byte ∷ [] in
    let ta = a.within.text in
    let tb = b.within.text in
    let there : Rest L v ((j ++ c) ++ q) (tb ++ t) = b.within.back q t r in
    let start : Rest L (in_framing []) (i ++ ((j ++ c) ++ q)) (ta ++ (tb ++ t)) = a.within.back ((j ++ c) ++ q) (tb ++ t) there in
    let m = start_is.forth L (i ++ ((j ++ c) ++ q)) (ta ++ (tb ++ t)) start in
    let same : (i ++ j) ++ content_byte byte ∷ q ≡ i ++ ((j ++ c) ++ q) = append_assoc i j (content_byte byte ∷ q) ∙ ap (λ (x : List Item). i ++ x) (sym (append_assoc j c q)) in
    let whole : content_items (i ++ ((j ++ c) ++ q)) ≡ length m.0.content =
    omega (
      arith,
      ap content_items m.3,
      items-append (start_items m.0.start m.0.fields) (tail_items m.0.content m.0.trailers m.1 m.2),
      start_count m.0.start m.0.fields,
      tail_count m.0.content m.0.trailers m.1 m.2,
    ) in
    let one : content_in tb ≡ content_items j + 1 =
    omega (
      arith,
      content_of_rest L v ((j ++ c) ++ q) (tb ++ t) there,
      content_of_rest L w q t r,
      content-append tb t,
      items-append (j ++ c) q,
      items-append j c,
    ) in
    let full = full_end tb (omega (arith, one, last, ap length b.within.same, bytes-length tb)) (omega (arith, last, ap length b.within.same, bytes-length tb)) in
    record {
      message = m.0;
      omitted = m.1;
      padding = m.2;
      items_are = same ∙ m.3;
      spells = subst (λ (x : Text). Spells L m.0 m.1 m.2 x) (sym (append_assoc ta tb t)) m.4;
      count = ap content_in (append_assoc ta tb t) ∙ content_of_rest L (in_framing []) (i ++ ((j ++ c) ++ q)) (ta ++ (tb ++ t)) start ∙ whole;
      so_far = omega (arith, content-append ta tb, one, content_so_far L bytes i v a, items-append i j);
      front = ta ++ full.0;
      value = full.1;
      ends = ap (λ (x : Text). ta ++ x) full.2 ∙ sym (append_assoc ta full.0 ((parts.Content, full.1) ∷ []));
    }

both_bytes : (a b : Text) (x y : List ℕ) → bytes_of a ≡ x → bytes_of b ≡ y → bytes_of (a ++ b) ≡ x ++ y
both_bytes a b x y e f = bytes_of-append a b ∙ ap₂ (λ (p q : List ℕ). p ++ q) e f

content_comes : (L : Bounds) (bytes run : List ℕ) (i j : List Item) (byte : ℕ) (v w : At) (moment : Moment) → Comes L (in_framing []) bytes i v → Comes L v run (j ++ content_byte byte ∷ []) w
    → length run ≡ content_items j + 1 → Contains (moments_of (seen_behind nothing_seen (i ++ j)) (content_byte byte)) moment → ComesAt L (bytes ++ run) moment
content_comes L bytes run i j byte v w moment a b last k =
    let alive = b.goes_on in
    let r = run_on L bytes run i j byte v w a b last alive.spelled.0 alive.text alive.spelled.1 in
    let m = r.message in
    let x = a.within.text ++ b.within.text in
    let seen = seen_late m r.omitted r.padding (i ++ j) alive.spelled.0 (content_byte byte) (λ h. h) r.items_are in
    let here = content_here L m r.omitted r.padding x alive.text r.front r.value r.spells r.ends r.count in
    let one : content_read m.start m.fields (content_items (i ++ j) + 1) ≡ moment =
    one_in (content_read m.start m.fields (content_items (i ++ j) + 1)) moment (subst (λ (s : Seen). Contains (moments_of s (content_byte byte)) moment) seen k) in
    subst (λ (l : List ℕ). ComesAt L l moment) (both_bytes a.within.text b.within.text bytes run a.within.same b.within.same)
    (subst (ComesAt L (bytes_of x)) (ap (content_read m.start m.fields) r.so_far ∙ one) here)

-- ---- the law

pub its_moment_comes : ItsMomentComes
its_moment_comes L bytes run i j (interim_response n fields) v w moment h k =
    interim_comes L (bytes ++ run) (i ++ j) (record { status = n; fields = fields }) w moment (leads L bytes run i j (interim_response n fields) v w h) h.last (seen_behind nothing_seen (i ++ j)) refl k
its_moment_comes L bytes run i j (head of fields) v w moment h k =
    head_comes L (bytes ++ run) (i ++ j) of fields w moment (leads L bytes run i j (head of fields) v w h) h.last (seen_behind nothing_seen (i ++ j)) refl k
its_moment_comes L bytes run i j (content_byte byte) v w moment h k = content_comes L bytes run i j byte v w moment h.before h.comes h.last k
its_moment_comes L bytes run i j (trailer_section trailers) v w moment h k =
    trailers_come L (bytes ++ run) (i ++ j) trailers w moment (leads L bytes run i j (trailer_section trailers) v w h) h.last (seen_behind nothing_seen (i ++ j)) refl k
its_moment_comes L bytes run i j (ending o z) v w moment h k = absurd h.last

-- ---- and at no byte before

-- a text, cut where its bytes are
record CutAt (t : Text) (front more : List ℕ) : Type 0 where
  first : Text
  rest : Text
  split : t ≡ first ++ rest
  first_is : bytes_of first ≡ front
  rest_is : bytes_of rest ≡ more

cut_at : (t : Text) (front more : List ℕ) → bytes_of t ≡ front ++ more → CutAt t front more
cut_at t [] more e = record { first = []; rest = t; split = refl; first_is = refl; rest_is = e }
cut_at [] (b ∷ front) more e = absurd cc
cut_at (c ∷ t) (b ∷ front) more e =
    let head : c.1 ≡ b = cc in
    let tail : bytes_of t ≡ front ++ more = cc in
    let r = cut_at t front more tail in
    record { first = c ∷ r.first; rest = r.rest; split = ap (λ (x : Text). c ∷ x) r.split; first_is = λ k. head k ∷ r.first_is k; rest_is = r.rest_is }

head_before : (L : Bounds) (bytes front more : List ℕ) (i : List Item) (of : Head) (fields : List Field) (w : At) (moment : Moment) → Comes L (in_framing []) bytes (i ++ head of fields ∷ []) w
    → IsRight (head of fields ∷ []) w → bytes ≡ front ++ more → 0 < length more → (s : Seen) → seen_behind nothing_seen i ≡ s → Contains (moments_of s (head of fields)) moment → ComesAt L front moment → ⊥
head_before L bytes front more i of fields w moment c r e some (head_seen start rest n) seen k h = none_in moment k
head_before L bytes front more i of fields w moment c r e some (interims_seen is) seen k h =
    let d = continued L bytes (i ++ head of fields ∷ []) w c (ending Both 0 ∷ []) [] (right_head L w of fields r) in
    let both = (ends_with d.message d.omitted Both d.padding 0 (i ++ head of fields ∷ []) d.items_are).0 in
    let none = head_ends L d.message d.omitted d.padding (c.within.text ++ []) front more (start_with is of) fields both d.spells (ap bytes_of (append-nil c.within.text) ∙ c.within.same ∙ e)
    (subst (ComesAt L front) (sym (one_in (head_ended (start_with is of) fields) moment k)) h) in
    omega (arith, some, ap length none)

trailers_before : (L : Bounds) (bytes front more : List ℕ) (i : List Item) (trailers : List Field) (w : At) (moment : Moment) → Comes L (in_framing []) bytes (i ++ trailer_section trailers ∷ []) w
    → IsRight (trailer_section trailers ∷ []) w → bytes ≡ front ++ more → 0 < length more → (s : Seen) → seen_behind nothing_seen i ≡ s → Contains (moments_of s (trailer_section trailers)) moment
    → ComesAt L front moment → ⊥
trailers_before L bytes front more i trailers w moment c r e some (interims_seen is) seen k h = none_in moment k
trailers_before L bytes front more i trailers w moment c r e some (head_seen start fields n) seen k h =
    let d = continued L bytes (i ++ trailer_section trailers ∷ []) w c (ending Nothing 0 ∷ []) [] (right_trailers L w trailers r) in
    let ends = ends_with d.message d.omitted Nothing d.padding 0 (i ++ trailer_section trailers ∷ []) d.items_are in
    let none = trailers_end L d.message d.omitted d.padding (c.within.text ++ []) front more start fields n trailers ends.1 d.spells (ap bytes_of (append-nil c.within.text) ∙ c.within.same ∙ e)
    (subst (ComesAt L front) (sym (one_in (trailers_ended start fields n trailers) moment k)) h) in
    omega (arith, some, ap length none)

-- an interim response that ended before was another, which says the same
interim_before : (L : Bounds) (bytes front more : List ℕ) (i : List Item) (a : Interim) (w : At) (moment : Moment) → Comes L (in_framing []) bytes (i ++ interim_item a ∷ []) w
    → IsRight (interim_item a ∷ []) w → bytes ≡ front ++ more → 0 < length more → Contains (moments_of (seen_behind nothing_seen i) (interim_item a)) moment → ComesAt L front moment
    → Contains (moments_in nothing_seen i) moment
interim_before L bytes front more i a w moment c r e some k h =
    let alive = c.goes_on in
    let both = responds L w a.status a.fields alive.spelled.0 alive.text r alive.spelled.1 in
    let last = last_status ++ last_section both.form in
    let d = continued L bytes (i ++ interim_item a ∷ []) w c last_items last both.long in
    let x = cut_at c.within.text front more (c.within.same ∙ e) in
    let again : Continued L i (interim_next a) x.first (x.rest ++ last) = record {
      message = d.message;
      omitted = d.omitted;
      padding = d.padding;
      items_are = sym (append_assoc i (interim_item a ∷ []) last_items) ∙ d.items_are;
      spells = subst (λ (y : Text). Spells L d.message d.omitted d.padding y) (ap (λ (y : Text). y ++ last) x.split ∙ append_assoc x.first x.rest last) d.spells;
    } in
    interim_seen L i x.first x.rest last a again front [] moment (last_long both.form) (x.first_is ∙ sym (append-nil front)) (omega (arith, some, ap length x.rest_is, bytes-length x.rest)) h
    (seen_behind nothing_seen i) refl
    (Contains-append_left (moments_of (seen_behind nothing_seen i) (interim_item a)) (moments_in (see (seen_behind nothing_seen i) (interim_item a)) last_items) moment k)

content_before : (L : Bounds) (bytes run front more : List ℕ) (i j : List Item) (byte : ℕ) (v w : At) (moment : Moment) → Comes L (in_framing []) bytes i v → Comes L v run (j ++ content_byte byte ∷ []) w
    → length run ≡ content_items j + 1 → bytes ++ run ≡ front ++ more → 0 < length more → Contains (moments_of (seen_behind nothing_seen (i ++ j)) (content_byte byte)) moment → ComesAt L front moment → ⊥
content_before L bytes run front more i j byte v w moment a b last e some k h =
    let alive = b.goes_on in
    let r = run_on L bytes run i j byte v w a b last alive.spelled.0 alive.text alive.spelled.1 in
    let m = r.message in
    let all = a.within.text ++ b.within.text in
    let seen = seen_late m r.omitted r.padding (i ++ j) alive.spelled.0 (content_byte byte) (λ h. h) r.items_are in
    let one : content_read m.start m.fields (content_items (i ++ j) + 1) ≡ moment =
    one_in (content_read m.start m.fields (content_items (i ++ j) + 1)) moment (subst (λ (s : Seen). Contains (moments_of s (content_byte byte)) moment) seen k) in
    let x = cut_at all front more (both_bytes a.within.text b.within.text bytes run a.within.same b.within.same ∙ e) in
    let few = few_content L m r.omitted r.padding x.first (x.rest ++ alive.text) front [] m.start m.fields (content_items (i ++ j) + 1)
    (subst (λ (y : Text). Spells L m r.omitted r.padding y) (ap (λ (y : Text). y ++ alive.text) x.split ∙ append_assoc x.first x.rest alive.text) r.spells)
    (x.first_is ∙ sym (append-nil front)) (subst (ComesAt L front) (sym one) h) in
    by_rest r.front all r.value (content_items (i ++ j) + 1) x.first x.rest (snoc x.rest) (sym x.split ∙ r.ends) few r.so_far (ap content_in r.ends ∙ content-append r.front ((parts.Content, r.value) ∷ []))
    (omega (arith, some, ap length x.rest_is, bytes-length x.rest))
  where
    by_rest : (d c : Text) (value n : ℕ) (first rest : Text) → (rest ≡ []) ⊎ Snoc rest → first ++ rest ≡ d ++ (parts.Content, value) ∷ [] → n ≤ content_in first → content_in c ≡ n
        → content_in c ≡ content_in d + 1 → 0 < length rest → ⊥
    by_rest d c value n first rest (inl f) split few count ends some = omega (arith, some, ap length f)
    by_rest d c value n first rest (inr s) split few count ends some =
        let init : first ++ s.init ≡ d =
        (same_from_push (first ++ s.init) d s.last (parts.Content, value) (append_assoc first s.init (s.last ∷ []) ∙ ap (λ (y : Text). first ++ y) (sym s.split) ∙ split)).0 in
        omega (arith, few, count, ends, ap content_in (sym init), content-append first s.init)

-- where the moment of the last item comes before, it is also one of an item before
pub not_before : (L : Bounds) (bytes run front more : List ℕ) (i j : List Item) (item : Item) (v w : At) (moment : Moment) → LeadsToLast L bytes run i j item v w → bytes ++ run ≡ front ++ more → 0 < length more
    → Contains (moments_of (seen_behind nothing_seen (i ++ j)) item) moment → ComesAt L front moment → Contains (moments_in nothing_seen (i ++ j)) moment
not_before L bytes run front more i j (interim_response n fields) v w moment h e some k c =
    interim_before L (bytes ++ run) front more (i ++ j) (record { status = n; fields = fields }) w moment (leads L bytes run i j (interim_response n fields) v w h) h.last e some k c
not_before L bytes run front more i j (head of fields) v w moment h e some k c =
    absurd (head_before L (bytes ++ run) front more (i ++ j) of fields w moment (leads L bytes run i j (head of fields) v w h) h.last e some (seen_behind nothing_seen (i ++ j)) refl k c)
not_before L bytes run front more i j (content_byte byte) v w moment h e some k c =
    absurd (content_before L bytes run front more i j byte v w moment h.before h.comes h.last e some k c)
not_before L bytes run front more i j (trailer_section trailers) v w moment h e some k c =
    absurd (trailers_before L (bytes ++ run) front more (i ++ j) trailers w moment (leads L bytes run i j (trailer_section trailers) v w h) h.last e some (seen_behind nothing_seen (i ++ j)) refl k c)
not_before L bytes run front more i j (ending o z) v w moment h e some k c = absurd h.last
