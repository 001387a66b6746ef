-- What the functions of bodies send.
use Rattle.std.proofs.Common.{◌≡◌, ◌≤◌, ◌<◌, ◌+◌, ◌-◌, ◌⊎◌, inl, inr, ℕ, zero, suc, Bool, true, false, cond, not, List, [], ◌∷◌, ◌++◌, length, take, drop, flat_map, Result, Ok, Err, refl, sym, ap, ap₂, subst, ◌∙◌, arith, append_assoc, append-nil, length-append, length-drop, length-take, take-append-drop}
use Rattle.std.proofs.lemmas.Bool.{eqb-true}
use Rattle.std.specs.Prelude.{IsErr, eqb}
use Rattle.bh_spec.specs.Messages.{Field}
use Rattle.bh_spec.specs.Canonical.{cut}
use Rattle.bh_spec.proofs.Written.{cut_few}
use Rattle.bh_base.specs.declared.failed.Failed.{Failed}
use Rattle.bh_base.specs.Steps.{Step, WroteAll}
use Rattle.bh_base.specs.Batches.{Writes}
use Rattle.h1_spec.specs.declared.Framing1.{Framing1}
use Rattle.h1_spec.specs.declared.Framing1.TheVariants.{Chunked}
use Rattle.h1_spec.specs.Grammar.{crlf}
use Rattle.h1_spec.specs.Http1Text.{chunk_text, hex_within, field_lines}
use Rattle.h1_spec.specs.Written.{last_text, section_text, coding_line}
use Rattle.bh_stream.specs.Outputs.{Output, written, shown_in, plain}
use Rattle.bh_stream.specs.Jobs.{SendsRest}
use Rattle.bh_stream.proofs.Outputs.{written_plain}
use Rattle.h1_text.specs.Gathering.{GatheredView, with_bytes, Gathers}
use Rattle.h1_text.specs.Owed.{chunk_out, body_out, final_out, framing_left, head_end}
use Rattle.h1_text.specs.Ends.{piece_out, end_out}
use Rattle.h1_text.specs.Holding.{Keeps}
use Rattle.h1_text.specs.Writers.{framed, IsFramed, IsStage, room_of}
use Rattle.h1_text.specs.declared.stage.Stage.{Stage}
use Rattle.h1_text.specs.declared.stage.Stage.TheVariants as stages
use Rattle.h1_text.proofs.Owing.{body_shows, body_bytes, piece_first, piece_shows, piece_bytes}
use Rattle.h1_text.proofs.Gathering.{gathered}
use Rattle.h1_text.proofs.Sending.{none_goes, of_writer, of_piece, goes_as, goes_on, goes_off}

-- ---- tests

pub is_nil : {A : Type 0} (xs : List A) → true ≡ eqb (length xs) 0 → xs ≡ []
is_nil [] e = refl
is_nil (x ∷ xs) e = absurd (omega (arith, eqb-true (length (x ∷ xs)) 0 (sym e)))

pub isnt_nil : {A : Type 0} (xs : List A) → false ≡ eqb (length xs) 0 → 0 < length xs
isnt_nil [] e = absurd (cc)
isnt_nil (x ∷ xs) e = omega arith

pub some_of : {A : Type 0} (xs : List A) (b : Bool) → (xs ≡ [] → b ≡ true) → b ≡ false → 0 < length xs
some_of [] b h e = let f : false ≡ true = sym e ∙ h refl in absurd (cc)
some_of (x ∷ xs) b h e = omega arith

pub cut_at : (kept bytes full back : List ℕ) (n : ℕ) → full ≡ kept ++ take n bytes → back ≡ drop n bytes → kept ++ bytes ≡ full ++ back
cut_at kept bytes full back n e f =
    ap (λ (l : List ℕ). kept ++ l) (sym (take-append-drop n bytes)) ∙ sym (append_assoc kept (take n bytes) (drop n bytes)) ∙ (λ i. (sym e) i ++ (sym f) i)

-- ---- the chunk

pub framed_more : (items more : List ℕ) → IsFramed items → drop 6 (items ++ more) ≡ drop 6 items ++ more
framed_more items more h = ap (λ (l : List ℕ). drop 6 (l ++ more)) h.1 ∙ ap (λ (l : List ℕ). drop 6 l ++ more) (sym h.1)

pub framed_is : (items : List ℕ) → IsFramed items → items ≡ framed (drop 6 items)
framed_is items h = h.1 ∙ ap (λ (l : List ℕ). framed (drop 6 l)) (sym h.1)

pub stays_framed : (items more now : List ℕ) → IsFramed items → now ≡ items ++ more → IsFramed now
stays_framed items more now h e = (h.0 ++ more, e ∙ ap (λ (l : List ℕ). l ++ more) h.1)

-- a whole chunk, with its line and its line end
whole_text : (full : List ℕ) → length full ≡ 8192 → framed full ++ crlf ≡ chunk_text full
whole_text full e = ap (λ (n : ℕ). hex_within 15 n ++ (crlf ++ (full ++ crlf))) (sym e)

last_bytes : (trailers : List Field) → written (body_out true [] trailers) ≡ last_text trailers
last_bytes trailers = written_plain (last_text trailers)

one_chunk : (kept : List ℕ) (trailers : List Field) → 0 < length kept → length kept ≤ 8192 → body_out true kept trailers ≡ chunk_out kept ++ body_out true [] trailers
one_chunk kept trailers some few =
    ap (λ (l : List (List ℕ)). flat_map chunk_out l ++ plain (last_text trailers)) (cut_few 8192 kept some few)
    ∙ ap (λ (o : Output). o ++ plain (last_text trailers)) (append-nil (chunk_out kept))

pub head_room : {A E : Type 0} (chunked : Bool) (before now : GatheredView) (got : Result A E) → length (head_end true) < before.room
    → Writes Gathers before (section_text (coding_line chunked)) got now → room_of now ≡ room_of before
head_room chunked before now got room w =
    let is : now ≡ with_bytes before (head_end chunked) = gathered got w (end_fits chunked before.room room) in
    let left : now.room ≡ before.room - length (head_end chunked) = λ i. (is i).room in
    let bytes : now.bytes ≡ before.bytes ++ head_end chunked = λ i. (is i).bytes in
    omega (arith, left, ap length bytes, length-append before.bytes (head_end chunked), end_fits chunked before.room room)
  where
    end_fits : (chunked : Bool) (room : ℕ) → length (head_end true) < room → length (head_end chunked) < room
    end_fits true room h = h
    end_fits false room h = omega (arith, h)

has_some : (trailers : List Field) → 0 < length trailers → framing_left [] trailers ≡ Chunked
has_some [] some = absurd (omega arith)
has_some (line ∷ trailers) some = refl

module _ {S : Type 0} {step : S → Step → S → Type 0} where
  pub whole_plain : {s t : S} (chunked : Bool) (items piece : List ℕ) (r : Result (Unit {0}) Failed) → chunked ≡ false → piece ≡ drop 6 items → WroteAll step s piece r t
      → SendsRest step true (piece_out chunked (drop 6 items)) s r t
  whole_plain true items piece r off e w = absurd (cc)
  whole_plain false items piece r off e w = of_piece (piece_out false (drop 6 items)) r (piece_bytes false (drop 6 items) ∙ sym e) w

  pub whole_chunk : {s t : S} (chunked : Bool) (items piece : List ℕ) (r : Result (Unit {0}) Failed) → chunked ≡ true → IsFramed items → length items ≡ 8198 → piece ≡ items ++ crlf
      → WroteAll step s piece r t → SendsRest step true (piece_out chunked (drop 6 items)) s r t
  whole_chunk false items piece r on is long e w = absurd (cc)
  whole_chunk true items piece r on is long e w =
      let full : List ℕ = drop 6 items in
      of_piece (piece_out true full) r
      (piece_bytes true full ∙ sym (e ∙ ap (λ (l : List ℕ). l ++ crlf) (framed_is items is) ∙ whole_text full (omega (arith, length-drop 6 items, long)))) w

  -- ---- content that is kept

  pub kept_all : {s : S} (chunked : Bool) (kept bytes keeps : List ℕ) → keeps ≡ kept ++ bytes → length keeps ≤ 8191 → Keeps step chunked kept bytes keeps s (Ok tt) s
  kept_all chunked kept bytes keeps e few = record {
    text = [];
    sends = none_goes;
    few = few;
    counts = omega (arith, ap length e, length-append kept bytes);
    splits = λ content trailers. ap (λ (l : List ℕ). body_out chunked l trailers) (sym (append_assoc kept bytes content) ∙ ap (λ (l : List ℕ). l ++ content) (sym e));
  }

  pub kept_rest : {s t : S} (chunked : Bool) (kept bytes full keeps : List ℕ) (r : Result (Unit {0}) Failed) → kept ++ bytes ≡ full ++ keeps → length full ≡ 8192 → length keeps ≤ 8191
      → SendsRest step true (piece_out chunked full) s r t → Keeps step chunked kept bytes keeps s r t
  kept_rest chunked kept bytes full keeps r e long few h = record {
    text = piece_out chunked full;
    sends = h;
    few = few;
    counts = omega (arith, piece_shows chunked full, long, ap length e, length-append kept bytes, length-append full keeps);
    splits = λ content trailers.
        ap (λ (l : List ℕ). body_out chunked l trailers) (sym (append_assoc kept bytes content) ∙ ap (λ (l : List ℕ). l ++ content) e ∙ append_assoc full keeps content)
        ∙ piece_first chunked full (keeps ++ content) trailers long;
  }

  -- ---- the end

  pub last_sent : {s t : S} (kept : List ℕ) (trailers : List Field) (r : Result (Unit {0}) Failed) → kept ≡ [] → Writes step s (last_text trailers) r t → SendsRest step true (body_out true kept trailers) s r t
  last_sent kept trailers r e w = of_writer (body_out true kept trailers) r (ap (λ (l : List ℕ). written (body_out true l trailers)) e ∙ last_bytes trailers) w

  pub chunk_sent : {s t u : S} (kept : List ℕ) (trailers : List Field) (first r : Result (Unit {0}) Failed) {a : Unit {0}} → 0 < length kept → length kept ≤ 8192 → first ≡ Ok a
      → Writes step s (chunk_text kept) first t → Writes step t (last_text trailers) r u → SendsRest step true (body_out true kept trailers) s r u
  chunk_sent {s = s} {t = t} kept trailers first r some few ok v w =
      goes_as (chunk_out kept ++ body_out true [] trailers) (body_out true kept trailers) r (sym (one_chunk kept trailers some few))
      (goes_on (chunk_out kept) (body_out true [] trailers) r
      (of_writer (chunk_out kept) (Ok tt) (piece_bytes true kept) (subst (λ (x : Result (Unit {0}) Failed). Writes step s (chunk_text kept) x t) ok v))
      (of_writer (body_out true [] trailers) r (last_bytes trailers) w))

  pub chunk_failed : {s t : S} (kept : List ℕ) (trailers : List Field) (first r : Result (Unit {0}) Failed) {f : Failed} → 0 < length kept → length kept ≤ 8192 → first ≡ Err f → IsErr r
      → Writes step s (chunk_text kept) first t → SendsRest step true (body_out true kept trailers) s r t
  chunk_failed kept trailers first r some few e bad v =
      goes_as (chunk_out kept ++ body_out true [] trailers) (body_out true kept trailers) r (sym (one_chunk kept trailers some few))
      (goes_off (chunk_out kept) (body_out true [] trailers) first r e bad (of_writer (chunk_out kept) first (piece_bytes true kept) v))

  -- ---- the head that is held

  pub head_sent : {s t : S} {A E : Type 0} (chunked : Bool) (before now : GatheredView) (piece : List ℕ) (got : Result A E) (r : Result (Unit {0}) Failed) → length (head_end true) < before.room
      → Writes Gathers before (section_text (coding_line chunked)) got now → piece ≡ now.bytes → WroteAll step s piece r t → SendsRest step true (plain (before.bytes ++ head_end chunked)) s r t
  head_sent chunked before now piece got r room w e sent =
      let is : now ≡ with_bytes before (head_end chunked) = gathered got w (end_fits chunked before.room room) in
      of_piece (plain (before.bytes ++ head_end chunked)) r (written_plain (before.bytes ++ head_end chunked) ∙ sym (e ∙ (λ i. (is i).bytes))) sent
    where
      end_fits : (chunked : Bool) (room : ℕ) → length (head_end true) < room → length (head_end chunked) < room
      end_fits true room h = h
      end_fits false room h = omega (arith, h)

  pub bare_sent : {s t : S} (front : List ℕ) (trailers : List Field) (r : Result (Unit {0}) Failed) → trailers ≡ [] → SendsRest step true (plain (front ++ head_end false)) s r t
      → SendsRest step true (final_out (framing_left [] trailers) front [] trailers) s r t
  bare_sent front trailers r e h =
      goes_as (plain (front ++ head_end false)) (final_out (framing_left [] trailers) front [] trailers) r
      (ap (λ (ts : List Field). final_out (framing_left [] ts) front [] ts) (sym e)) h

  pub held_sent : {s t u : S} (front : List ℕ) (trailers : List Field) (first r : Result (Unit {0}) Failed) {a : Unit {0}} → 0 < length trailers → first ≡ Ok a
      → SendsRest step true (plain (front ++ head_end true)) s first t → Writes step t (last_text trailers) r u → SendsRest step true (final_out (framing_left [] trailers) front [] trailers) s r u
  held_sent {s = s} {t = t} front trailers first r some ok h w =
      let head = plain (front ++ head_end true) in
      goes_as (head ++ body_out true [] trailers) (final_out (framing_left [] trailers) front [] trailers) r (ap (λ (f : Framing1). final_out f front [] trailers) (sym (has_some trailers some)))
      (goes_on head (body_out true [] trailers) r (subst (λ (x : Result (Unit {0}) Failed). SendsRest step true head s x t) ok h) (of_writer (body_out true [] trailers) r (last_bytes trailers) w))

  pub held_failed : {s t : S} (front : List ℕ) (trailers : List Field) (first r : Result (Unit {0}) Failed) {f : Failed} → 0 < length trailers → first ≡ Err f → IsErr r
      → SendsRest step true (plain (front ++ head_end true)) s first t → SendsRest step true (final_out (framing_left [] trailers) front [] trailers) s r t
  held_failed front trailers first r some e bad h =
      let head = plain (front ++ head_end true) in
      goes_as (head ++ body_out true [] trailers) (final_out (framing_left [] trailers) front [] trailers) r (ap (λ (f : Framing1). final_out f front [] trailers) (sym (has_some trailers some)))
      (goes_off head (body_out true [] trailers) first r e bad h)

  -- ---- the end of any message

  pub end_held : {s t : S} (front kept : List ℕ) (trailers : List Field) (stage : Stage) (r : Result (Unit {0}) Failed) → stage ≡ stages.Held
      → SendsRest step true (final_out (framing_left [] trailers) front [] trailers) s r t → SendsRest step true (end_out stage front kept trailers) s r t
  end_held front kept trailers stage r e h = goes_as (final_out (framing_left [] trailers) front [] trailers) (end_out stage front kept trailers) r (ap (λ (st : Stage). end_out st front kept trailers) (sym e)) h

  pub end_bodyless : {s t : S} (front kept : List ℕ) (trailers : List Field) (stage : Stage) (piece : List ℕ) (r : Result (Unit {0}) Failed) → stage ≡ stages.Bodyless → piece ≡ front
      → WroteAll step s piece r t → SendsRest step true (end_out stage front kept trailers) s r t
  end_bodyless front kept trailers stage piece r e is w =
      goes_as (plain front) (end_out stage front kept trailers) r (ap (λ (st : Stage). end_out st front kept trailers) (sym e)) (of_piece (plain front) r (written_plain front ∙ sym is) w)

  pub end_body : {s t : S} (front kept : List ℕ) (trailers : List Field) (stage : Stage) (chunked such : Bool) (r : Result (Unit {0}) Failed) → stage ≡ stages.Body chunked → chunked ≡ such
      → SendsRest step true (body_out such kept trailers) s r t → SendsRest step true (end_out stage front kept trailers) s r t
  end_body front kept trailers stage chunked such r e is h =
      goes_as (body_out such kept trailers) (end_out stage front kept trailers) r
      (ap (λ (b : Bool). body_out b kept trailers) (sym is) ∙ ap (λ (st : Stage). end_out st front kept trailers) (sym e)) h

  pub plain_sent : {s t : S} (kept : List ℕ) (trailers : List Field) (r : Result (Unit {0}) Failed) → WroteAll step s kept r t → SendsRest step true (body_out false kept trailers) s r t
  plain_sent kept trailers r w = of_piece (body_out false kept trailers) r (body_bytes false kept trailers) w

  pub end_none : {s : S} (front kept : List ℕ) (trailers : List Field) (stage : Stage) → (stage ≡ stages.Start) ⊎ (stage ≡ stages.Ended) → SendsRest step true (end_out stage front kept trailers) s (Ok tt) s
  end_none front kept trailers stage (inl e) = goes_as [] (end_out stage front kept trailers) (Ok tt) (ap (λ (st : Stage). end_out st front kept trailers) (sym e)) none_goes
  end_none front kept trailers stage (inr e) = goes_as [] (end_out stage front kept trailers) (Ok tt) (ap (λ (st : Stage). end_out st front kept trailers) (sym e)) none_goes
