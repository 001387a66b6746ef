-- What a reader says is the answer for the input.
use Rattle.std.proofs.Common.{◌≡◌, ◌⊎◌, ◌≤◌, ◌<◌, ◌+◌, ◌-◌, ◌^◌, ℕ, Bool, Option, Some, List, [], ◌∷◌, ◌++◌, length, take, map, refl, sym, ◌∙◌, ap, subst, subst₂, arith, append_assoc, append-nil, inl, inr}
use Rattle.std.proofs.lemmas.List.{length-append, length-take-le, take-take, take-append-le}
use Rattle.std.proofs.Math.Seq.{take-append-add}
use Rattle.bh_spec.specs.declared.H1Why.{H1Why}
use Rattle.bh_spec.specs.declared.H1Why.TheVariants as why
use Rattle.bh_spec.specs.declared.Kind.{Kind}
use Rattle.bh_spec.specs.declared.Omitted.{Omitted}
use Rattle.bh_spec.specs.declared.Omitted.TheVariants.{Nothing}
use Rattle.bh_spec.specs.declared.Summary.{Summary}
use Rattle.bh_spec.specs.Bounds.{Bounds, IsWithin}
use Rattle.bh_spec.specs.Messages.{Field, Interim, Message, kind_of}
use Rattle.bh_spec.specs.Texts.{Text, bytes_of, ◌then◌, AreEach}
use Rattle.bh_spec.specs.Items.{Item, interim_response, head, content_byte, trailer_section, ending, start_items, trailer_items, tail_items, items}
use Rattle.bh_spec.specs.Reports.{line_count, summary}
use Rattle.bh_model.specs.Ranges.{AreLimits}
use Rattle.bh_stream.specs.Decoding.{content_items}
use Rattle.bh_stream.specs.Messages.{Spelled, items_in}
use Rattle.bh_stream.proofs.Moving.{items-append, content-few, bytes-length}
use Rattle.bh_reading.specs.Readings.{lines_in, kind_behind, IsInput}
use Rattle.bh_reading.specs.ReadingLaws.{lines-append, kind-append}
use Rattle.bh_reading.proofs.Counts.{few_where_fits}
use Rattle.bh_reading.proofs.Judging.{tail_lines, start_lines, message_content, message_kind, within_input, same_summary}
use Rattle.h1_spec.specs.declared.Scheme1.{Scheme1}
use Rattle.h1_spec.specs.Http1.{IsInterimHead, IsHttp1}
use Rattle.h1_spec.specs.Translation.{OfHead, IsCause, read, broken, IsFromAnswer}
use Rattle.h1_spec.proofs.LaterBytes.{stays_broken}
use Rattle.h1_spec.proofs.Marking.{marks_the_content}
use Rattle.h1_read.specs.Places.{Setting, Place, RestFrom}
use Rattle.h1_read.specs.Wrong.{OfHeads, WrongFrom}
use Rattle.h1_read.specs.Readings.{View, rest, Moved, IsWhole, IsFoundAt, IsTooLongAt, Refuses, misses, tells, IsAtStart}
use Rattle.h1_read.specs.ReadingLaws.{goes_on}
use Rattle.h1_read.specs.Laws.{IsHttp1Text, IsUndecided, IsDecidedAt, JudgesFrom, JudgesAsFrom}
use Rattle.h1_read.proofs.AtStart.{text_of_rest, left_out_is_empty, from_start}

-- ---- at the start what is wrong is a cause

-- behind no informational response
pub cause_of : (S : Setting) (bytes : List ℕ) (cause : H1Why) → OfHeads S 0 bytes cause → IsCause S.limits S.scheme S.to_head bytes cause
cause_of S bytes cause h = by_list h.earlier h.many h.text
  where
    sum : 0 + length h.interims ≡ length h.interims
    sum = omega arith

    by_list : (earlier : List Interim) → length earlier ≡ 0
        → (AreEach (IsInterimHead S.limits) h.interims then λ rest. OfHead S.limits S.scheme S.to_head (earlier ++ h.interims) rest cause) bytes
        → IsCause S.limits S.scheme S.to_head bytes cause
    by_list [] n t = record { interims = h.interims; few = subst (IsWithin S.limits.interims) sum h.few; text = t }
    by_list (i ∷ earlier) n t = absurd (omega (arith, n))

pub of_cause : (S : Setting) (bytes : List ℕ) (cause : H1Why) → IsCause S.limits S.scheme S.to_head bytes cause → OfHeads S 0 bytes cause
of_cause S bytes cause h =
    let sum : length h.interims ≡ 0 + length h.interims = omega arith in
    record {
      earlier = [];
      many = refl;
      interims = h.interims;
      few = subst (IsWithin S.limits.interims) sum h.few;
      text = h.text;
    }

-- ---- the ending of items

-- what the last ending says, or else this
abbrev ending_of : Omitted × ℕ → List Item → Omitted × ℕ
ending_of other [] = other
ending_of other ((interim_response status fields) ∷ q) = ending_of other q
ending_of other ((head of fields) ∷ q) = ending_of other q
ending_of other ((content_byte x) ∷ q) = ending_of other q
ending_of other ((trailer_section fields) ∷ q) = ending_of other q
ending_of other ((ending omitted padding) ∷ q) = ending_of (omitted, padding) q

ending_is : (other : Omitted × ℕ) (i : List Item) (o : Omitted) (z : ℕ) → ending_of other (i ++ ending o z ∷ []) ≡ (o, z)
ending_is other [] o z = refl
ending_is other ((interim_response status fields) ∷ i) o z = ending_is other i o z
ending_is other ((head of fields) ∷ i) o z = ending_is other i o z
ending_is other ((content_byte x) ∷ i) o z = ending_is other i o z
ending_is other ((trailer_section fields) ∷ i) o z = ending_is other i o z
ending_is other ((ending omitted padding) ∷ i) o z = ending_is (omitted, padding) i o z

-- the items of a message end with its ending
items_end : (s : Spelled) → (front : List Item) × (items_in s ≡ front ++ ending s.omitted s.padding ∷ [])
items_end s =
    let a : List Item = start_items s.message.start s.message.fields in
    let c : List Item = map content_byte s.message.content in
    let r : List Item = trailer_items s.omitted s.message.trailers in
    let e : List Item = ending s.omitted s.padding ∷ [] in
    (a ++ (c ++ r), sym (append_assoc a (c ++ r) e ∙ ap (λ (z : List Item). a ++ z) (append_assoc c r e)))

one_ending : (s : Spelled) (i : List Item) (o : Omitted) (z : ℕ) → i ++ ending o z ∷ [] ≡ items_in s → (s.omitted ≡ o) × (s.padding ≡ z)
one_ending s i o z e =
    let f = items_end s in
    let pair : (s.omitted, s.padding) ≡ (o, z) =
    sym (ending_is (o, z) f.0 s.omitted s.padding) ∙ ap (ending_of (o, z)) (sym (e ∙ f.1)) ∙ ending_is (o, z) i o z in
    (ap (λ (p : Omitted × ℕ). p.0) pair, ap (λ (p : Omitted × ℕ). p.1) pair)

-- ---- what a message counts

text_lines : (L : Bounds) (scheme : Scheme1) (to_head : Bool) (s : Spelled) (t : Text) → IsHttp1Text L scheme to_head s t
    → lines_in (items_in s) ≡ line_count s.message
text_lines L scheme to_head s t h =
    omega (
      arith,
      lines-append (start_items s.message.start s.message.fields) (tail_items s.message.content s.message.trailers s.omitted s.padding),
      start_lines s.message.start s.message.fields,
      tail_lines s.message.content s.message.trailers s.omitted s.padding (λ n. ap length (left_out_is_empty L scheme to_head s t h n)),
    )

-- ---- a reader that began at the start

module _ (L : Bounds) (scheme : Scheme1) (to_head : Bool) (v : View) (limits : AreLimits L) (start : IsAtStart L scheme to_head v) where
  abbrev T : Setting
  T = record { limits = L; scheme = scheme; to_head = to_head }

  wrong_is_cause : (bytes : List ℕ) (cause : H1Why) → WrongFrom v.setting v.place bytes cause → IsCause L scheme to_head bytes cause
  wrong_is_cause bytes cause h =
      cause_of T bytes cause (subst₂ (λ (A : Setting) (p : Place). WrongFrom A p bytes cause) start.setting start.place h)

  module _ (w : View) (before : List ℕ) (i : List Item) (m : Moved v before i w) where
    -- what is wrong from there is a cause of the whole
    caused : (bytes : List ℕ) (cause : H1Why) → WrongFrom w.setting w.place bytes cause → IsCause L scheme to_head (before ++ bytes) cause
    caused bytes cause h =
        wrong_is_cause (before ++ bytes) cause
        (m.goes.wrong bytes cause (subst (λ (A : Setting). WrongFrom A w.place bytes cause) m.setting h))

    -- and where the message may end there, the bytes are one
    ended : (o : Omitted) (z : ℕ) → rest w (ending o z ∷ []) []
        → (s : Spelled) × (t : Text) × (i ++ ending o z ∷ [] ≡ items_in s) × IsHttp1Text L scheme to_head s t × (bytes_of t ≡ before)
    ended o z h =
        let r = m.goes.residual in
        let here = r.back (ending o z ∷ []) [] (subst (λ (A : Setting). RestFrom A w.place (ending o z ∷ []) []) m.setting h) in
        let found = text_of_rest T (i ++ ending o z ∷ []) (r.text ++ [])
        (from_start L scheme to_head v limits start (i ++ ending o z ∷ []) (r.text ++ []) here) in
        (found.0, r.text ++ [], found.1, found.2, ap bytes_of (append-nil r.text) ∙ r.same)

    is_message : (s : Spelled) (t : Text) → IsHttp1Text L scheme to_head s t → bytes_of t ≡ before → IsHttp1 L scheme to_head s.message before
    is_message s t h e = subst₂ (λ (c : Scheme1) (z : List ℕ). IsHttp1 L c to_head s.message z) h.scheme_is e h.marked.whole

    undecided : IsWhole w.setting w.place → IsUndecided L scheme to_head before
    undecided h =
        let e = ended h.0 h.1 h.2 in
        inl (e.0.message, is_message e.0 e.1 e.3 e.4)

    taken_is : w.taken ≡ length before
    taken_is = omega (arith, m.taken, start.taken)

    limit_same : w.setting.limits.input ≡ L.input
    limit_same = ap (λ (A : Setting). A.limits.input) (m.setting ∙ start.setting)

    within : (n : ℕ) → IsInput w.setting.limits n → IsWithin L.input n
    within n h = within_input L.input h.limit n (sym limit_same ∙ h.limit_is) h.few

    within_here : IsWithin L.input (length before)
    within_here =
        let few : length before ≤ m.input.limit = omega (arith, m.input.few, start.taken) in
        within_input L.input m.input.limit (length before) (sym (ap (λ (A : Setting). A.limits.input) start.setting) ∙ m.input.limit_is) few

    missed : (cause : H1Why) → misses w cause → (cause ≡ why.Ended) × IsFromAnswer L scheme to_head before (broken cause)
    missed cause h = (
      h.0,
      inl (
        within_here,
        subst (IsCause L scheme to_head before) (sym h.0)
            (subst (λ (z : List ℕ). IsCause L scheme to_head z why.Ended) (append-nil before) (caused [] why.Ended h.1)),
      ),
    )

    told : (o : Omitted) (z : ℕ) (s : Summary) → rest w (ending o z ∷ []) [] → tells w o z s
        → (n : Message) × (items n o z ≡ i ++ ending o z ∷ []) × IsFromAnswer L scheme to_head before (read n) × (s ≡ summary n Nothing 0 (length before))
    told o z s h is =
        let e = ended o z h in
        let a : Spelled = e.0 in
        let same = one_ending a i o z e.2 in
        let whole = is_message a e.1 e.3 e.4 in
        let back : items a.message o z ≡ i ++ ending o z ∷ [] = (λ j. items a.message (sym same.0 j) (sym same.1 j)) ∙ sym e.2 in
        let few = few_where_fits L limits a.message whole.fits in
        let lines : lines_in i ≡ line_count a.message =
        omega (arith, lines-append i (ending o z ∷ []), ap lines_in e.2, text_lines L scheme to_head a e.1 e.3) in
        let content : content_items i ≡ length a.message.content =
        omega (arith, items-append i (ending o z ∷ []), ap content_items e.2, message_content a.message a.omitted a.padding) in
        let short : length a.message.content ≤ 2 ^ 40 =
        omega (
          arith,
          marks_the_content L to_head a.message e.1 e.3.marked,
          content-few e.1,
          bytes-length e.1,
          ap length e.4,
          within_limit within_here,
          limits.range.input_high,
        ) in
        let lines_are : w.lines ≡ line_count a.message = omega (arith, m.lines, start.lines, lines, few) in
        let content_are : w.content ≡ length a.message.content = omega (arith, m.content, start.content, content, short) in
        let kind_is : w.kind ≡ kind_of a.message.start =
        m.kind ∙ sym (kind-append i (ending o z ∷ []) v.kind) ∙ ap (λ (q : List Item). kind_behind q v.kind) e.2
        ∙ message_kind a.message a.omitted a.padding v.kind in (
          a.message,
          back,
          (within_here, whole),
          is ∙ same_summary w.kind (kind_of a.message.start) w.taken (length before) w.lines (line_count a.message) w.content
              (length a.message.content) 0 Nothing kind_is taken_is lines_are content_are,
        )
      where
        within_limit : IsWithin L.input (length before) → length before ≤ limits.input
        within_limit h = subst (λ (K : Bounds). IsWithin K.input (length before)) limits.same h

    -- ---- a byte of a piece

    module _ (piece : List ℕ) (cause : H1Why) (r : Refuses w piece cause) where
      abbrev at : ℕ
      at = length before + r.at

      front_is : take at (before ++ piece) ≡ before ++ take r.at piece
      front_is = take-append-add before piece r.at

      with_is : take (at + 1) (before ++ piece) ≡ before ++ take (r.at + 1) piece
      with_is =
          let sum : at + 1 ≡ length before + (r.at + 1) = omega arith in
          ap (λ (k : ℕ). take k (before ++ piece)) sum ∙ take-append-add before piece (r.at + 1)

      long : length (before ++ take (r.at + 1) piece) ≡ at + 1
      long = omega (arith, length-append before (take (r.at + 1) piece), length-take-le (r.at + 1) piece (omega (arith, r.inside)))

      before_found : IsWithin L.input (w.taken + (r.at + 1)) → IsWithin L.input (length (before ++ take (r.at + 1) piece))
      before_found h = let sum : w.taken + (r.at + 1) ≡ length (before ++ take (r.at + 1) piece) = omega (arith, taken_is, long) in subst (IsWithin L.input) sum h

      found : IsFoundAt w piece r.at cause → (more : List ℕ) → IsFromAnswer L scheme to_head ((before ++ take (r.at + 1) piece) ++ more) (broken cause)
      found f more =
          let here = subst (λ (z : List ℕ). IsCause L scheme to_head (before ++ z) cause) (append-nil (take (r.at + 1) piece))
          (caused (take (r.at + 1) piece ++ []) cause (f.wrong [])) in
          stays_broken L scheme to_head (before ++ take (r.at + 1) piece) more cause f.not_end
          (inl (before_found (within (w.taken + (r.at + 1)) f.input), here))

      cut_is : (more : List ℕ) → take at ((before ++ take (r.at + 1) piece) ++ more) ≡ before ++ take r.at piece
      cut_is more =
          take-append-le at (before ++ take (r.at + 1) piece) more (omega (arith, long)) ∙ take-append-add before (take (r.at + 1) piece) r.at
          ∙ ap (λ (z : List ℕ). before ++ z) (take-take r.at (r.at + 1) piece (omega arith))

      too_long : IsTooLongAt w r.at cause → IsUndecided L scheme to_head (before ++ take r.at piece) → (more : List ℕ)
          → IsFromAnswer L scheme to_head ((before ++ take (r.at + 1) piece) ++ more) (broken cause)
      too_long f u more =
          let most : L.input ≡ Some at = sym limit_same ∙ f.1 ∙ ap (λ (k : ℕ). Some (k + r.at)) taken_is in
          inr (
            at,
            (most, omega (arith, long, length-append (before ++ take (r.at + 1) piece) more)),
            inr (f.0, subst (IsUndecided L scheme to_head) (sym (cut_is more)) u),
          )

-- the bytes before the one that decides
module _ (L : Bounds) (scheme : Scheme1) (to_head : Bool) (v : View) (limits : AreLimits L) (start : IsAtStart L scheme to_head v) where
  module _ (w : View) (before : List ℕ) (i : List Item) (m : Moved v before i w) (piece : List ℕ) (cause : H1Why) (r : Refuses w piece cause) where
    before_it : IsWhole r.state.setting r.state.place ⊎ WrongFrom w.setting w.place (take r.at piece) why.Ended
        → IsUndecided L scheme to_head (before ++ take r.at piece)
    before_it (inl h) =
        undecided L scheme to_head v limits start r.state (before ++ take r.at piece) (i ++ [])
        (goes_on v w r.state before (take r.at piece) i [] m r.moved) h
    before_it (inr h) = inr (caused L scheme to_head v limits start w before i m (take r.at piece) why.Ended h)

    decided : IsFoundAt w piece r.at cause ⊎ IsTooLongAt w r.at cause → (more : List ℕ)
        → IsFromAnswer L scheme to_head ((before ++ take (r.at + 1) piece) ++ more) (broken cause)
    decided (inl f) more = found L scheme to_head v limits start w before i m piece cause r f more
    decided (inr f) more = too_long L scheme to_head v limits start w before i m piece cause r f (before_it r.before) more

    refused_there : (at : ℕ) × (length before ≤ at) × IsDecidedAt L scheme to_head (before ++ piece) at cause
    refused_there = (
      length before + r.at,
      omega arith,
      record {
        inside = omega (arith, r.inside, length-append before piece);
        before = subst (IsUndecided L scheme to_head) (sym (front_is L scheme to_head v limits start w before i m piece cause r)) (before_it r.before);
        answer = λ more.
            subst (λ (z : List ℕ). IsFromAnswer L scheme to_head (z ++ more) (broken cause))
            (sym (with_is L scheme to_head v limits start w before i m piece cause r)) (decided r.decided more);
      },
    )

pub judges_as_from : JudgesAsFrom
judges_as_from L scheme to_head v limits start = record {
  refused = λ w before piece i cause m r. refused_there L scheme to_head v limits start w before i m piece cause r;
  missed = λ w bytes i cause m h. missed L scheme to_head v limits start w bytes i m cause h;
  told = λ w bytes i o z s m h is. told L scheme to_head v limits start w bytes i m o z s h is;
}
