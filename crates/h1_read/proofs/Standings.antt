-- What the calls of a reader say, from what the calls of its parts say.
use Rattle.std.proofs.Common.{◌≡◌, ◌⊎◌, ◌<◌, ◌≤◌, ◌+◌, arith, ℕ, zero, suc, Bool, true, false, cond, nat_eq, Option, Some, None, Ok, Err, List, [], ◌∷◌, ◌++◌, map, length, take, drop, refl, sym, ap, subst, ◌∙◌, append-nil, inl, inr}
use Rattle.std.proofs.lemmas.Bool.{eqb-true}
use Rattle.std.proofs.lemmas.List.{length-append, length-take-le, take-append-drop}
use Rattle.std.proofs.lemmas.List.Elements.{All-nil}
use Rattle.bh_spec.specs.declared.H1Why.{H1Why}
use Rattle.bh_spec.specs.declared.H1Why.TheVariants as why
use Rattle.bh_spec.specs.declared.Omitted.{Omitted}
use Rattle.bh_spec.specs.declared.Omitted.TheVariants.{Nothing, Trailers}
use Rattle.bh_spec.specs.Bounds.{Bounds, IsWithin}
use Rattle.bh_spec.specs.Bytes.{AreBytes}
use Rattle.bh_spec.specs.Messages.{Field, Interim}
use Rattle.bh_spec.specs.Canonical.{FieldsFit}
use Rattle.bh_spec.specs.Items.{Item, interim_response, head, content_byte, trailer_section, ending, tail_items}
use Rattle.bh_spec.proofs.Within.{within_less, some_within}
use Rattle.bh_model.specs.Ranges.{AreLimits}
use Rattle.bh_push.proofs.Contents.{bytes_behind}
use Rattle.bh_push.proofs.Tails.{bytes_front}
use Rattle.bh_stream.specs.declared.traits.Event.{Event}
use Rattle.bh_stream.specs.declared.traits.Event.TheVariants as events
use Rattle.bh_stream.specs.declared.traits.Pushed.{Pushed}
use Rattle.bh_stream.specs.declared.traits.Pushed.TheVariants as pushed
use Rattle.h1_spec.specs.declared.Framing1.{Framing1}
use Rattle.h1_spec.specs.declared.Framing1.TheVariants.{Empty, Counted, Chunked, ToEnd}
use Rattle.h1_spec.specs.Heads.{HoldsNoEnd}
use Rattle.h1_spec.specs.Http1.{IsInterimHead}
use Rattle.h1_spec.specs.Cleaning.{clean_trailers}
use Rattle.h1_spec.specs.Translation.{OfEnd}
use Rattle.h1_spec.specs.BodyStates.{At, start, in_count, to_end, in_line, in_chunk, behind_chunk, behind_cr, in_trailers, over, is_whole, may_end, trailers_of, Found, OfRest, nothing_behind, Moves}
use Rattle.h1_spec.proofs.BehindBodies.{rest_lifted}
use Rattle.h1_spec.proofs.TrailerEnds.{ends_later}
use Rattle.h1_head.specs.Ends.{ReaderView, IsOpen, IsWhole as IsWholeHead}
use Rattle.h1_body.specs.Contents.{IsContent, IsBehindContent}
use Rattle.h1_body.specs.Readers.{BodyView, SaysBody}
use Rattle.h1_body.specs.declared.reader.BodyStep.TheVariants as steps
use Rattle.h1_read.specs.declared.reader.Phase.{Phase}
use Rattle.h1_read.specs.declared.reader.Phase.TheVariants as phases
use Rattle.h1_read.specs.HeadJudges.{JudgeView, IsSame, IsInterim, IsFinal}
use Rattle.h1_read.specs.Places.{Setting, Place, in_head, in_body, behind_trailers, BodyRest, RestFrom, left_out}
use Rattle.h1_read.specs.Wrong.{WrongFrom}
use Rattle.h1_read.specs.Readings.{Goes, IsWhole}
use Rattle.h1_read.specs.Readers.{setting_in, place_at, IsInHead, IsInBody, IsInPhase, NeedsAt, RefusedAt, TookAt, WholeAt, IsOver, StandsBehind, SaysHead}
use Rattle.h1_read.proofs.HeadSteps.{head_needs, head_ended}
use Rattle.h1_read.proofs.HeadEnds.{interim_goes, final_goes}
use Rattle.h1_read.proofs.Completing.{nothing_fits, interim_long, heads_alive, body_alive, content_alive}
use Rattle.h1_read.proofs.BodyPlaces.{body_goes, body_silent, trailers_goes, counted_over}

-- ---- settings and places

pub same_setting : (v w : JudgeView) → IsSame v w → setting_in w ≡ setting_in v
same_setting v w h = λ i. record { limits = h.limits i; scheme = h.scheme i; to_head = h.to_head i }

pub at_head : (phase : Phase) (n : ℕ) (seen : List ℕ) (named : List (List ℕ)) (at : At) → phase ≡ phases.Head n → place_at phase seen named at ≡ in_head n seen
at_head phase n seen named at e = ap (λ (p : Phase). place_at p seen named at) e

pub at_body : (phase : Phase) (seen : List ℕ) (named : List (List ℕ)) (at : At) → phase ≡ phases.Body → place_at phase seen named at ≡ in_body named at
at_body phase seen named at e = ap (λ (p : Phase). place_at p seen named at) e

pub stands_any : (result : Pushed H1Why) (phase : Phase) (S : Setting) (heads : ReaderView) (body : BodyView) → IsInPhase phase S heads body → StandsBehind result phase S heads body
stands_any pushed.Need phase S heads body h = h
stands_any (pushed.Content taken bytes) phase S heads body h = h
stands_any (pushed.Whole taken event) phase S heads body h = h
stands_any (pushed.Refused cause) phase S heads body h = tt

-- ---- a whole head

few_interims : (L : Bounds) → AreLimits L → (n : ℕ) → IsWithin L.interims n → n ≤ 255
few_interims L h n few = omega (arith, subst (λ (K : Bounds). IsWithin K.interims n) h.same few, h.range.interims_high)

pub section_some : (L : Bounds) → AreLimits L → (limit : ℕ) → L.section ≡ Some limit → 0 < limit
section_some L h limit e = by_same h.section limit h.range.section_low (sym (ap (λ (K : Bounds). K.section) h.same) ∙ e)
  where
    by_same : (a b : ℕ) → 16 ≤ a → Some a ≡ Some b → 0 < b
    by_same a b low e = let same : a ≡ b = cc in omega (arith, low, same)

pub interim_says : (v w : JudgeView) (n : ℕ) (bytes : List ℕ) (status : ℕ) → AreLimits v.limits → IsInterim v bytes n status w
    → SaysHead (setting_in v) n bytes (Ok (events.Interim status)) (in_head (n + 1) []) w
interim_says v w n bytes status limits h =
    let i : Interim = record { status = status; fields = w.lines } in (
      interim_response status w.lines,
      λ seen x e. interim_goes (setting_in v) n seen x i (subst (IsInterimHead v.limits i) (sym e) h.read),
      heads_alive (setting_in v) (n + 1) limits (within_less v.limits.section 17 (length bytes) (interim_long v.limits i bytes h.read) h.read.text.0) h.few,
      refl,
    )

pub final_says : (v w : JudgeView) (n : ℕ) (bytes : List ℕ) (body : Framing1) → AreLimits v.limits → IsWithin v.limits.interims n → IsFinal v bytes n body w
    → SaysHead (setting_in v) n bytes (Ok events.Head) (in_body w.named (start body)) w
final_says v w n bytes body limits few h = (
  head h.says.of w.lines,
  λ seen x e. subst (λ (z : List ℕ). (k : IsFinal v z n body w) → Goes (setting_in v) (in_head n seen) x (head k.says.of w.lines ∷ []) (in_body w.named (start body))) e
      (λ k. final_goes v w n seen x body k few) h,
  body_alive (setting_in v) w.named body limits,
  (h.says.of, refl, h.says.head_is),
)

pub not_over : (framing : Framing1) (lines : List Field) → start framing ≡ over lines → ⊥
not_over Empty lines e = absurd (cc)
not_over (Counted n) lines e = absurd (cc)
not_over Chunked lines e = absurd (cc)
not_over ToEnd lines e = absurd (cc)

-- ---- in a head

pub head_stays : (S : Setting) (n : ℕ) (heads after : ReaderView) (body : BodyView) (piece : List ℕ) → IsInHead S n heads body → IsOpen heads piece after → after.limit ≡ heads.limit
    → IsInHead S n after body
head_stays S n heads after body piece h step same = record {
  none = step.none;
  more = omega (arith, step.more, same, ap (length {A = ℕ}) step.seen);
  few = h.few;
  unbroken = h.unbroken;
  fresh = h.fresh;
}

-- the head that was found is within the limit
pub found_fits : (heads after : ReaderView) (piece : List ℕ) (taken : ℕ) → IsWholeHead heads piece taken after → after.limit ≡ heads.limit → length after.seen ≤ after.limit
found_fits heads after piece taken step same =
    omega (arith, step.fits, same, ap (length {A = ℕ}) step.seen, length-append heads.seen (take taken piece), length-take-le taken piece step.within)

pub whole_took : (S : Setting) (n : ℕ) (heads after : ReaderView) (piece : List ℕ) (taken : ℕ) (event : Event) (r : Place) (v : JudgeView) → HoldsNoEnd heads.seen
    → IsWholeHead heads piece taken after → SaysHead S n after.seen (Ok event) r v → WholeAt S (in_head n heads.seen) piece taken event r v
whole_took S n heads after piece taken event r v none step says = (
  says.0,
  record {
    some = ends_later heads.seen piece taken none step.ends;
    inside = step.within;
    moved = says.1 heads.seen (take taken piece) (sym step.seen);
    alive = says.2;
  },
  says.3,
)

-- ---- in the body

-- a body that is whole, and no trailer section is over, has no bytes to come
pub counted_out : (at : At) → is_whole at ≡ true → ((lines : List Field) → at ≡ over lines → ⊥) → at ≡ in_count 0
counted_out (in_count missing) e n = ap in_count (eqb-true missing 0 e)
counted_out to_end e n = absurd (cc)
counted_out (in_line state room) e n = absurd (cc)
counted_out (in_chunk missing) e n = absurd (cc)
counted_out behind_chunk e n = absurd (cc)
counted_out behind_cr e n = absurd (cc)
counted_out (in_trailers seen) e n = absurd (cc)
counted_out (over found) e n = absurd (n found refl)

-- nothing completes it from there
ended_there : (S : Setting) (named : List (List ℕ)) (w : At) → Moves S.limits to_end [] [] w → IsWhole S (in_body named w)
ended_there S named w m =
    let f = m.rest.forth ([], []) [] (refl, refl) in
    let content : [] ≡ f.0.0 = ap (λ (z : Found). z.0) f.1 in
    let trailers : [] ≡ f.0.1 = ap (λ (z : Found). z.1) f.1 in (
      Trailers,
      0,
      record {
        content = f.0.0;
        trailers = f.0.1;
        bytes = [];
        completes = f.2;
        are = subst AreBytes content (All-nil (λ b. b < 256));
        fits = subst (λ (ts : List Field). FieldsFit S.limits (clean_trailers named ts)) trailers (nothing_fits S.limits);
        text_is = refl;
        items_are = ap (λ (c : List ℕ). tail_items c (clean_trailers named []) Trailers 0) content
            ∙ ap (λ (ts : List Field). tail_items f.0.0 (clean_trailers named ts) Trailers 0) trailers
            ∙ ap (λ (b : Bool). tail_items f.0.0 (clean_trailers named f.0.1) (cond b Nothing Trailers) 0) m.kind;
      },
    )

pub body_needs : (S : Setting) (named : List (List ℕ)) (at w : At) (piece : List ℕ) (section : ℕ) → S.limits.section ≡ Some section → SaysBody section at piece steps.Need w
    → NeedsAt S (in_body named at) piece (in_body named w)
body_needs S named at w piece section e says = record {
  goes = body_goes S named at w piece [] h.0 (All-nil (λ b. b < 256));
  passes = inr (body_silent S named at w piece h.0.marks);
  before = before h.1;
}
  where
    h : Moves S.limits at piece [] w × (((at ≡ to_end) × (piece ≡ [])) ⊎ OfRest S.limits nothing_behind at piece why.Ended)
    h = says S.limits e

    before : ((at ≡ to_end) × (piece ≡ [])) ⊎ OfRest S.limits nothing_behind at piece why.Ended → IsWhole S (in_body named w) ⊎ WrongFrom S (in_body named at) piece why.Ended
    before (inl z) = inl (ended_there S named w (subst (λ (x : List ℕ). Moves S.limits to_end x [] w) z.1 (subst (λ (a : At). Moves S.limits a piece [] w) z.0 h.0)))
    before (inr c) = inr (rest_lifted S.limits (OfEnd S.limits named) at piece why.Ended c)

part_of_piece : (piece front bytes : List ℕ) (taken : ℕ) → AreBytes piece → take taken piece ≡ front ++ bytes → AreBytes bytes
part_of_piece piece front bytes taken are e =
    bytes_behind front bytes (subst AreBytes e (bytes_front (take taken piece) (drop taken piece) (subst AreBytes (sym (take-append-drop taken piece)) are)))

pub content_few : (at w : At) (piece bytes : List ℕ) (taken : ℕ) (h : IsContent at piece taken bytes w) → length bytes ≤ taken
content_few at w piece bytes taken h = omega (arith, ap (length {A = ℕ}) h.ends.1, length-append h.ends.0 bytes, length-take-le taken piece h.inside)

pub content_took : (S : Setting) (named : List (List ℕ)) (at w : At) (piece bytes : List ℕ) (taken : ℕ) → AreLimits S.limits → AreBytes piece → IsContent at piece taken bytes w
    → TookAt S (in_body named at) piece taken (map content_byte bytes) (in_body named w)
content_took S named at w piece bytes taken limits are h = record {
  some = omega (arith, h.some, content_few at w piece bytes taken h);
  inside = h.inside;
  moved = body_goes S named at w (take taken piece) bytes (h.becomes S.limits) (part_of_piece piece h.ends.0 bytes taken are h.ends.1);
  alive = content_alive S named w limits h.place;
}

pub content_going : (w : At) → IsBehindContent w → (lines : List Field) → w ≡ over lines → ⊥
content_going (in_count n) b lines e = absurd (cc)
content_going to_end b lines e = absurd (cc)
content_going (in_line state room) b lines e = absurd b
content_going (in_chunk missing) b lines e = absurd (cc)
content_going behind_chunk b lines e = absurd (cc)
content_going behind_cr b lines e = absurd b
content_going (in_trailers seen) b lines e = absurd b
content_going (over found) b lines e = absurd b

-- the trailer section that was read
pub over_again : (w : At) (lines : List Field) → w ≡ over lines → w ≡ over (trailers_of w)
over_again w lines e = e ∙ ap over (sym (ap trailers_of e))

pub trailers_took : (S : Setting) (named : List (List ℕ)) (at w : At) (piece : List ℕ) (section taken : ℕ) (v : JudgeView) → S.limits.section ≡ Some section
    → SaysBody section at piece (steps.Whole taken) w → v.lines ≡ clean_trailers named (trailers_of w) → FieldsFit S.limits v.lines
    → WholeAt S (in_body named at) piece taken events.Trailers behind_trailers v
trailers_took S named at w piece section taken v e says cleaned fits = (
  trailer_section v.lines,
  record {
    some = says.3.some;
    inside = says.0;
    moved = subst (λ (ls : List Field). Goes S (in_body named at) (take taken piece) (trailer_section ls ∷ []) behind_trailers) (sym cleaned)
        (trailers_goes S named at (take taken piece) (trailers_of w)
        (subst (λ (u : At). Moves S.limits at (take taken piece) [] u) (over_again w says.1.0 says.1.1) (says.2 S.limits e)) (subst (FieldsFit S.limits) cleaned fits));
    alive = (ending Nothing 0 ∷ [], [], (refl, refl));
  },
  refl,
)

-- ---- the end

pub ends_at : (S : Setting) (named : List (List ℕ)) (at : At) → may_end at ≡ true → ((lines : List Field) → at ≡ over lines → ⊥) → IsWhole S (in_body named at)
ends_at S named (in_count missing) e n =
    subst (λ (k : ℕ). IsWhole S (in_body named (in_count k))) (sym (eqb-true missing 0 e)) (counted_over S named).whole
ends_at S named to_end e n = (
  Trailers,
  0,
  record { content = []; trailers = []; bytes = []; completes = (refl, refl); are = All-nil (λ b. b < 256); fits = nothing_fits S.limits; text_is = refl; items_are = refl },
)
ends_at S named (in_line state room) e n = absurd (cc)
ends_at S named (in_chunk missing) e n = absurd (cc)
ends_at S named behind_chunk e n = absurd (cc)
ends_at S named behind_cr e n = absurd (cc)
ends_at S named (in_trailers seen) e n = absurd (cc)
ends_at S named (over found) e n = absurd (n found refl)

pub head_waits : (S : Setting) (n : ℕ) (heads : ReaderView) (body : BodyView) → IsInHead S n heads body → S.limits.section ≡ Some heads.limit → WrongFrom S (in_head n heads.seen) [] why.Ended
head_waits S n heads body h e =
    head_ended S n heads.seen [] heads.limit h.few e (subst HoldsNoEnd (sym (append-nil heads.seen)) h.none) (omega (arith, h.more, ap (length {A = ℕ}) (append-nil heads.seen)))
