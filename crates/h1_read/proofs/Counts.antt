-- What the items of a step count, whatever the limits: in a head, behind one, and in a body.
use Rattle.std.proofs.Common.{◌≡◌, ◌<◌, ◌≤◌, arith, ℕ, Bool, List, [], ◌∷◌, ◌++◌, length, take, refl, sym, ap, subst, ◌∙◌, append_assoc, append-nil, inl, inr}
use Rattle.std.proofs.lemmas.Bool.{cases_lt}
use Rattle.std.proofs.lemmas.List.{length-append, take-append-le}
use Rattle.bh_spec.specs.Bounds.{Bounds, no_bounds}
use Rattle.bh_spec.specs.Messages.{Field, Interim}
use Rattle.bh_spec.specs.Texts.{Text, bytes_of, content_in, ◌then◌, AreEach}
use Rattle.bh_spec.specs.Items.{Item}
use Rattle.bh_spec.proofs.Marks.{bytes_of-append, content-append}
use Rattle.bh_stream.specs.Decoding.{content_items}
use Rattle.bh_stream.proofs.Moving.{shorter, bytes-length}
use Rattle.h1_spec.specs.declared.Framing1.{Framing1}
use Rattle.h1_spec.specs.Heads.{Head, IsHead, EndsBlank, EndsAt, HoldsNoEnd}
use Rattle.h1_spec.specs.Framing.{framing}
use Rattle.h1_spec.specs.Http1.{IsHeadWithin, IsInterimHead}
use Rattle.h1_spec.specs.Marks.{as_framing}
use Rattle.h1_spec.specs.BodyStates.{At, start as body_start, over, marked, AreMarked}
use Rattle.h1_spec.proofs.HeadTexts.{head_front}
use Rattle.h1_spec.proofs.Reading.{IsLast, interim_front, interim_apart}
use Rattle.h1_spec.proofs.Ends.{head_ends}
use Rattle.h1_spec.proofs.BodyMarks.{framing_bytes, framing_none, marked_bytes, marked_front, over_all}
use Rattle.h1_read.specs.Places.{in_head, in_body, behind_trailers, MarkedHeads, MayCome}
use Rattle.h1_read.specs.Readings.{Counts}
use Rattle.h1_read.proofs.HeadParts.{nil_front, first_part, some_end, framing_split, heads_bytes}

-- ---- where a front ends

no_more : {A : Type 0} (m : List A) → length m ≡ 0 → m ≡ []
no_more [] e = refl
no_more (x ∷ m) e = absurd (omega (arith, e))

-- Texts that are the same and whose fronts are as long: so are the fronts, and what is behind them.
cut_alike : (front back one two : Text) → front ++ back ≡ one ++ two → bytes_of front ≡ bytes_of one → (one ≡ front) × (back ≡ two)
cut_alike front back one two e f =
    let long : length front ≡ length one = sym (bytes-length front) ∙ ap (length {A = ℕ}) f ∙ bytes-length one in
    let s = shorter front back one two e (omega (arith, long)) in
    let none = no_more s.0 (omega (arith, long, ap length s.1, length-append front s.0)) in
    (s.1 ∙ ap (λ (m : Text). front ++ m) none ∙ append-nil front, s.2 ∙ ap (λ (m : Text). m ++ two) none)

-- ---- in a head

-- no head ends before these bytes do
abbrev pub EndsNoSooner : List ℕ → Type 0
EndsNoSooner bytes = (many : ℕ) → many < length bytes → EndsBlank (take many bytes) → ⊥

module _ (to_head : Bool) (seen x : List ℕ) (sooner : EndsNoSooner (seen ++ x)) where
  -- a front of them is one of the heads
  in_heads : (front back : Text) (more : List ℕ) (h : MarkedHeads to_head seen (front ++ back)) → x ≡ bytes_of front ++ more → length (bytes_of front) ≤ length h.heads
  in_heads front back more h e =
      elim (cases_lt (length h.heads) (length (bytes_of front))) [
        | inl less ↦ (
            let body = marked (body_start (framing to_head h.head)) h.bytes in
            let joined : h.heads ++ bytes_of body ≡ bytes_of front ++ bytes_of back = sym (heads_bytes h.heads body (front ++ back) h.text_is) ∙ bytes_of-append front back in
            let cut = shorter h.heads (bytes_of body) (bytes_of front) (bytes_of back) joined (omega (arith, less)) in
            let end = some_end no_bounds h.interims h.head (seen ++ h.heads) h.text in
            let longer : seen ++ x ≡ (seen ++ h.heads) ++ (cut.0 ++ more) =
            ap (λ (z : List ℕ). seen ++ z) (e ∙ ap (λ (z : List ℕ). z ++ more) cut.1 ∙ append_assoc h.heads cut.0 more) ∙ sym (append_assoc seen h.heads (cut.0 ++ more)) in
            absurd (sooner end.0
            (omega (arith, end.1.within, less, ap (length {A = ℕ}) e, length-append (bytes_of front) more, length-append seen x, length-append seen h.heads))
            (subst EndsBlank (sym (ap (take end.0) longer ∙ take-append-le end.0 (seen ++ h.heads) (cut.0 ++ more) end.1.within)) end.1.ends))
            )
        | inr le ↦ le
      ]

  -- so it has no content, and the rest of the heads stands behind it
  in_front : (front back : Text) (more : List ℕ) (h : MarkedHeads to_head seen (front ++ back)) → x ≡ bytes_of front ++ more
      → (cut : List ℕ) × (h.heads ≡ bytes_of front ++ cut) × (content_in front ≡ 0) × (back ≡ as_framing cut ++ marked (body_start (framing to_head h.head)) h.bytes)
  in_front front back more h e =
      let body = marked (body_start (framing to_head h.head)) h.bytes in
      let bytes = bytes_of front in
      let joined : h.heads ++ bytes_of body ≡ bytes ++ bytes_of back = sym (heads_bytes h.heads body (front ++ back) h.text_is) ∙ bytes_of-append front back in
      let cut = shorter bytes (bytes_of back) h.heads (bytes_of body) (sym joined) (in_heads front back more h e) in
      let whole : front ++ back ≡ as_framing bytes ++ (as_framing cut.0 ++ body) = h.text_is ∙ ap (λ (z : List ℕ). as_framing z ++ body) cut.1 ∙ framing_split bytes cut.0 body in
      let both = cut_alike front back (as_framing bytes) (as_framing cut.0 ++ body) whole (sym (framing_bytes bytes)) in
      (cut.0, cut.1, ap content_in (sym both.0) ∙ framing_none bytes, both.1)

  heads_few : (front back : Text) (more : List ℕ) → MarkedHeads to_head seen (front ++ back) → x ≡ bytes_of front ++ more → content_in front ≡ 0
  heads_few front back more h e = (in_front front back more h e).2

  -- all of them
  heads_behind : (front back : Text) (h : MarkedHeads to_head seen (front ++ back)) → bytes_of front ≡ x
      → (cut : List ℕ) × (seen ++ h.heads ≡ (seen ++ x) ++ cut) × (back ≡ as_framing cut ++ marked (body_start (framing to_head h.head)) h.bytes)
  heads_behind front back h e =
      let f = in_front front back [] h (sym e ∙ sym (append-nil (bytes_of front))) in
      (f.0, ap (λ (z : List ℕ). seen ++ z) (f.1 ∙ ap (λ (z : List ℕ). z ++ f.0) e) ∙ sym (append_assoc seen x f.0), f.3)

-- where no head is over
pub head_counts : (to_head : Bool) (n : ℕ) (seen x : List ℕ) → HoldsNoEnd (seen ++ x) → Counts to_head (in_head n seen) x [] (in_head n (seen ++ x))
head_counts to_head n seen x none = record {
  few = λ front back more h e. omega (arith, heads_few to_head seen x sooner front back more h e);
  behind = λ front back h e.
      let f = heads_behind to_head seen x sooner front back h e in
      record {
        interims = h.interims;
        head = h.head;
        heads = f.0;
        bytes = h.bytes;
        text = subst (λ (z : List ℕ). (AreEach (IsInterimHead no_bounds) h.interims then IsHeadWithin no_bounds h.head) z) f.1 h.text;
        last = h.last;
        text_is = f.2;
      };
}
  where
    sooner : EndsNoSooner (seen ++ x)
    sooner many less = none many

-- ---- behind a whole head

head_sooner : (head : Head) (bytes : List ℕ) → IsHead head bytes → EndsNoSooner bytes
head_sooner head bytes h =
    let ends = subst (λ (z : List ℕ). EndsAt z (length bytes)) (append-nil bytes) (head_ends head bytes [] h) in
    ends.first

-- Whatever the limits that it was read within, each head of a text that begins with it is the same.
module _ (L : Bounds) (to_head : Bool) (n : ℕ) (seen x : List ℕ) (items : List Item) where
  pub interim_counts : (i : Interim) (m : ℕ) → IsInterimHead L i (seen ++ x) → Counts to_head (in_head n seen) x items (in_head m [])
  interim_counts i m read = record {
    few = λ front back more h e. omega (arith, heads_few to_head seen x sooner front back more h e);
    behind = behind;
  }
    where
      sooner : EndsNoSooner (seen ++ x)
      sooner = head_sooner read.head (seen ++ x) read.text.1

      behind : (front back : Text) → MarkedHeads to_head seen (front ++ back) → bytes_of front ≡ x → MarkedHeads to_head [] back
      behind front back h e = at h.interims h.text
        where
          f : (cut : List ℕ) × (seen ++ h.heads ≡ (seen ++ x) ++ cut) × (back ≡ as_framing cut ++ marked (body_start (framing to_head h.head)) h.bytes)
          f = heads_behind to_head seen x sooner front back h e

          at : (is : List Interim) → (AreEach (IsInterimHead no_bounds) is then IsHeadWithin no_bounds h.head) (seen ++ h.heads) → MarkedHeads to_head [] back
          at [] t =
              absurd (interim_apart L no_bounds i h.head h.last (seen ++ x) t.1 f.0 [] read t.3
              (sym f.1 ∙ sym (nil_front (seen ++ h.heads) t.0 t.1 t.2 t.4) ∙ sym (append-nil t.1)))
          at (j ∷ js) t =
              let p = t.2 in
              let both = interim_front L no_bounds i j (seen ++ x) p.0 f.0 (p.1 ++ t.1) read p.2 (sym f.1 ∙ first_part (seen ++ h.heads) t.0 t.1 p.0 p.1 t.4 p.4) in
              record {
                interims = js;
                head = h.head;
                heads = f.0;
                bytes = h.bytes;
                text = (p.1, t.1, p.3, t.3, both.1);
                last = h.last;
                text_is = f.2;
              }

  pub final_counts : (head : Head) (body : Framing1) (named : List (List ℕ)) → IsHead head (seen ++ x) → IsLast head → body ≡ framing to_head head
      → Counts to_head (in_head n seen) x items (in_body named (body_start body))
  final_counts head body named read last body_is = record {
    few = λ front back more h e. omega (arith, heads_few to_head seen x sooner front back more h e);
    behind = behind;
  }
    where
      sooner : EndsNoSooner (seen ++ x)
      sooner = head_sooner head (seen ++ x) read

      behind : (front back : Text) → MarkedHeads to_head seen (front ++ back) → bytes_of front ≡ x → (bytes : List ℕ) × (back ≡ marked (body_start body) bytes)
      behind front back h e = at h.interims h.text
        where
          f : (cut : List ℕ) × (seen ++ h.heads ≡ (seen ++ x) ++ cut) × (back ≡ as_framing cut ++ marked (body_start (framing to_head h.head)) h.bytes)
          f = heads_behind to_head seen x sooner front back h e

          at : (is : List Interim) → (AreEach (IsInterimHead no_bounds) is then IsHeadWithin no_bounds h.head) (seen ++ h.heads)
              → (bytes : List ℕ) × (back ≡ marked (body_start body) bytes)
          at [] t =
              let both = head_front head h.head (seen ++ x) t.1 f.0 [] read t.3.1 (sym f.1 ∙ sym (nil_front (seen ++ h.heads) t.0 t.1 t.2 t.4) ∙ sym (append-nil t.1)) in
              let same : framing to_head h.head ≡ body = ap (framing to_head) (sym both.0) ∙ sym body_is in (
                h.bytes,
                f.2 ∙ ap (λ (z : List ℕ). as_framing z ++ marked (body_start (framing to_head h.head)) h.bytes) both.1
                    ∙ ap (λ (k : Framing1). marked (body_start k) h.bytes) same,
              )
          at (j ∷ js) t =
              let p = t.2 in
              absurd (interim_apart no_bounds no_bounds j head last p.0 (seen ++ x) (p.1 ++ t.1) f.0 p.2 (tt, read)
              (sym (sym f.1 ∙ first_part (seen ++ h.heads) t.0 t.1 p.0 p.1 t.4 p.4)))

-- ---- in a body

module _ (to_head : Bool) (named : List (List ℕ)) (at w : At) (x content : List ℕ) (m : AreMarked at x content w) where
  body_few : (front back : Text) (more : List ℕ) → MayCome to_head (in_body named at) (front ++ back) → x ≡ bytes_of front ++ more → content_in front ≤ length content
  body_few front back more h e =
      let bytes = bytes_of front in
      let cut : h.0 ≡ bytes ++ bytes_of back = sym (ap bytes_of h.1 ∙ marked_bytes at h.0) ∙ bytes_of-append front back in
      let one = marked_front at bytes (bytes_of back) in
      let two = marked_front at bytes more in
      let both = cut_alike front back (marked at bytes) one.0 (h.1 ∙ ap (marked at) cut ∙ one.1) (sym (marked_bytes at bytes)) in
      let whole : m.text ++ marked w [] ≡ marked at bytes ++ two.0 = sym (m.on []) ∙ ap (marked at) (append-nil x ∙ e) ∙ two.1 in
      omega (
        arith,
        ap content_in both.0,
        ap content_in whole,
        content-append m.text [],
        content-append (marked at bytes) two.0,
        m.count,
      )

  body_behind : (front back : Text) → MayCome to_head (in_body named at) (front ++ back) → bytes_of front ≡ x → back ≡ marked w (bytes_of back)
  body_behind front back h e =
      let cut : h.0 ≡ x ++ bytes_of back = sym (ap bytes_of h.1 ∙ marked_bytes at h.0) ∙ bytes_of-append front back ∙ ap (λ (z : List ℕ). z ++ bytes_of back) e in
      (cut_alike front back m.text (marked w (bytes_of back)) (h.1 ∙ ap (marked at) cut ∙ m.on (bytes_of back)) (e ∙ sym m.same)).1

  pub body_counts : (items : List Item) → content_items items ≡ length content → Counts to_head (in_body named at) x items (in_body named w)
  body_counts items same = record {
    few = λ front back more h e. omega (arith, body_few front back more h e, same);
    behind = λ front back h e. (bytes_of back, body_behind front back h e);
  }

-- behind a trailer section
pub trailers_counts : (to_head : Bool) (named : List (List ℕ)) (at : At) (x : List ℕ) (lines : List Field) (items : List Item) → AreMarked at x [] (over lines)
    → Counts to_head (in_body named at) x items behind_trailers
trailers_counts to_head named at x lines items m = record {
  few = λ front back more h e. omega (arith, body_few to_head named at (over lines) x [] m front back more h e);
  behind = λ front back h e. (bytes_of back, body_behind to_head named at (over lines) x [] m front back h e ∙ over_all lines (bytes_of back));
}
