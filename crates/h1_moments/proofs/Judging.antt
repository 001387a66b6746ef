-- What the moments of the items say of the answers of the translator.
use Rattle.std.proofs.Common.{◌≡◌, ◌<◌, ◌+◌, ◌-◌, ◌⊎◌, ℕ, Bool, List, [], ◌∷◌, ◌++◌, length, flat_map, take, drop, Some, None, refl, sym, ap, subst, ◌∙◌, inl, inr, append_assoc, append-nil, length-append, take-append-drop, length-drop, arith}
use Rattle.std.proofs.Math.Seq.{take-append_seam, take-length}
use Rattle.std.specs.List.{Contains}
use Rattle.std.proofs.lemmas.List.{take-append-le, length-take-le}
use Rattle.std.proofs.lemmas.List.Elements.{All-contains, Contains-push, Contains-append_cases}
use Rattle.bh_spec.specs.declared.Form.{Form}
use Rattle.bh_spec.specs.declared.NoForm.{NoForm}
use Rattle.bh_spec.specs.declared.Omitted.{Omitted}
use Rattle.bh_spec.specs.declared.Omitted.TheVariants.{Nothing, Trailers, Both}
use Rattle.bh_spec.specs.declared.Refusal.{Refusal}
use Rattle.bh_spec.specs.declared.Refusal.TheVariants.{Dead, Limit, Ended, TooLong}
use Rattle.bh_spec.specs.Bounds.{Bounds, IsWithin}
use Rattle.bh_spec.specs.Messages.{Field, Start, Message}
use Rattle.bh_spec.specs.Texts.{Text, bytes_of}
use Rattle.bh_spec.specs.Answers.{refused, whole, IsAnswer}
use Rattle.bh_spec.specs.Items.{Item, interim_response, head, content_byte, trailer_section, ending, start_items, tail_items, items}
use Rattle.bh_spec.specs.Runs.{Takes, Call, bytes_taken, items_yielded}
use Rattle.bh_spec.proofs.Sections.{number_nonempty}
use Rattle.bh_push.specs.Decoders.{At, Rest, in_framing}
use Rattle.bh_push.specs.Standing.{Comes, IsPrompt}
use Rattle.bh_push.specs.Pushes.{DecoderView, RefusesFirst, IsBehind, AnswersEveryCut}
use Rattle.bh_spec.proofs.Runs.{exact_place}
use Rattle.bh_push.proofs.Starting.{start_is}
use Rattle.bh_push.proofs.Walking.{comes_on}
use Rattle.bh_push.proofs.Cuts.{one_answer_for_every_cut}
use Rattle.bh_stream.specs.Decoding.{content_items}
use Rattle.bh_stream.proofs.Moving.{items-append, bytes-length}
use Rattle.h1_spec.specs.Moments.{Moment, interim_ended, head_ended, content_read, trailers_ended, input_ended, cases_at, first_of, form_at}
use Rattle.h1_spec.specs.Judging.{IsOpening, ComesAt, IsJudged, NoneIsJudged, IsUnjudged, end_says, place_of}
use Rattle.h1_spec.specs.Translation.{dead, IsIntoAnswer}
use Rattle.h1_spec.proofs.Cases.{AreFree as AllFree, free_none, none_free, each_free}
use Rattle.h1_moments.specs.Seen.{Seen, interims_seen, head_seen, nothing_seen, start_with, seen_behind, moments_of, moments_in}
use Rattle.h1_moments.specs.Laws.{AreFree, form_with, NoneIsJudgedYet, JudgedThere, RefusedWhereFree, MissedWhereFree, FinishedWhereFree}
use Rattle.h1_moments.proofs.Seeing.{moments-append, tail_count}
use Rattle.h1_moments.proofs.Continuing.{start_count}
use Rattle.h1_moments.proofs.Placing.{seen_late}
use Rattle.h1_moments.proofs.Unseen.{none_comes_unseen}
use Rattle.h1_moments.proofs.Lasting.{leads, its_moment_comes, not_before}

-- ---- no byte is judged where no rule holds

-- no rule holds at a moment of the list
free_in : (to_head : Bool) (all : List Moment) (moment : Moment) (form : NoForm) → first_of (flat_map (cases_at to_head) all) ≡ None → Contains all moment → form_at to_head moment ≡ Some form → ⊥
free_in to_head all moment form e k f =
    let each = each_free (cases_at to_head) all (none_free (flat_map (cases_at to_head) all) e) in
    let free : AllFree (cases_at to_head moment) = All-contains (λ (x : Moment). AllFree (cases_at to_head x)) all moment each k in
    let none : None ≡ Some form = sym (free_none (cases_at to_head moment) free) ∙ f in
    cc

pub none_is_judged_yet : NoneIsJudgedYet
none_is_judged_yet L to_head bytes more i w c prompt free = λ k form few inside seen judged.
    let front : take (k + 1) (bytes ++ more) ≡ take (k + 1) bytes = take-append-le (k + 1) bytes more (omega (arith, few)) in
    free_in to_head (moments_in nothing_seen i) judged.0 form free
    (none_comes_unseen L bytes (take (k + 1) bytes) (drop (k + 1) bytes) i w judged.0 c prompt (sym (take-append-drop (k + 1) bytes)) (subst (λ (x : List ℕ). ComesAt L x judged.0) front judged.1))
    judged.2

-- ---- the byte that is judged

some_text : (t x y : Text) (bytes : List ℕ) → t ≡ x ++ y → bytes_of t ≡ bytes → 0 < length x → 0 < length bytes
some_text t x y bytes e f some = omega (arith, ap length e, length-append x y, ap length f, bytes-length t, some)

open_some : (L : Bounds) (form : Form) (s : Start) (fs : List Field) (t : Text) → IsOpening L form s fs t → 0 < length t
open_some L form s fs t h = let p = h.spelled in omega (arith, ap length p.4, length-append p.0 p.1, number_nonempty _ _ p.0 p.2)

comes_some : (L : Bounds) (bytes : List ℕ) (moment : Moment) → ComesAt L bytes moment → 0 < length bytes
comes_some L bytes (interim_ended i) h = let p = h.spelled.spelled in some_text h.text p.0 p.1 bytes p.4 h.same (number_nonempty _ _ p.0 p.2)
comes_some L bytes (head_ended s fs) h = some_text h.1.text h.1.text [] bytes (sym (append-nil h.1.text)) h.1.same (open_some L h.0 s fs h.1.text h.1.spelled)
comes_some L bytes (content_read s fs n) h = let p = h.1.spelled in some_text h.1.text p.0 p.1 bytes p.4 h.1.same (open_some L h.0 s fs p.0 p.2)
comes_some L bytes (trailers_ended s fs n ts) h = let p = h.1.spelled in some_text h.1.text p.0 p.1 bytes p.4 h.1.same (open_some L h.0 s fs p.0 p.2)
comes_some L bytes (input_ended s fs n) h = absurd h

-- an item has one moment or none
abbrev One : List Moment → Type 0
One all = (all ≡ []) ⊎ ((moment : Moment) × (all ≡ moment ∷ []))

one_moment : (s : Seen) (item : Item) → One (moments_of s item)
one_moment (interims_seen is) (interim_response n fields) = inr (interim_ended (record { status = n; fields = fields }), refl)
one_moment (interims_seen is) (head of fields) = inr (head_ended (start_with is of) fields, refl)
one_moment (interims_seen is) (content_byte byte) = inl refl
one_moment (interims_seen is) (trailer_section trailers) = inl refl
one_moment (interims_seen is) (ending o z) = inl refl
one_moment (head_seen start fields n) (interim_response k more) = inl refl
one_moment (head_seen start fields n) (head of more) = inl refl
one_moment (head_seen start fields n) (content_byte byte) = inr (content_read start fields (n + 1), refl)
one_moment (head_seen start fields n) (trailer_section trailers) = inr (trailers_ended start fields n trailers, refl)
one_moment (head_seen start fields n) (ending Nothing z) = inl refl
one_moment (head_seen start fields n) (ending Trailers z) = inr (input_ended start fields n, refl)
one_moment (head_seen start fields n) (ending Both z) = inr (input_ended start fields n, refl)

-- where a rule holds at it, there is one
record Held (to_head : Bool) (all : List Moment) (form : NoForm) : Type 0 where
  moment : Moment
  among : Contains all moment
  says : form_at to_head moment ≡ Some form

held : (to_head : Bool) (all : List Moment) (form : NoForm) → One all → first_of (flat_map (cases_at to_head) all) ≡ Some form → Held to_head all form
held to_head all form (inl e) f =
    let none : None ≡ Some form = sym (ap (λ (x : List Moment). first_of (flat_map (cases_at to_head) x)) e) ∙ f in absurd cc
held to_head all form (inr one) f = record {
  moment = one.0;
  among = subst (λ (x : List Moment). Contains x one.0) (sym one.1) (Contains-push [] one.0);
  says = ap first_of (sym (append-nil (cases_at to_head one.0))) ∙ sym (ap (λ (x : List Moment). first_of (flat_map (cases_at to_head) x)) one.1) ∙ f;
}

pub judged_there : JudgedThere
judged_there L to_head bytes run more i j item v w form h prompt within free says =
    let all = bytes ++ run in
    let one = held to_head (moments_of (seen_behind nothing_seen (i ++ j)) item) form (one_moment (seen_behind nothing_seen (i ++ j)) item) says in
    let comes = its_moment_comes L bytes run i j item v w one.moment h one.among in
    let some = comes_some L all one.moment comes in
    let place : length all - 1 + 1 ≡ length all = omega (arith, some) in
    let whole : take (length all - 1 + 1) (all ++ more) ≡ all = ap (λ (k : ℕ). take k (all ++ more)) place ∙ take-append_seam all more in
    record {
      inside = omega (arith, some, length-append all more);
      seen = subst (IsWithin L.input) (sym place) within;
      judged = subst (λ (x : List ℕ). IsJudged L to_head x form) (sym whole) (one.moment, comes, one.says);
      first = λ k other few inside seen judged. first k other few judged;
    }
  where
    s : Seen
    s = seen_behind nothing_seen (i ++ j)

    first : (k : ℕ) (other : NoForm) → k < length (bytes ++ run) - 1 → IsJudged L to_head (take (k + 1) ((bytes ++ run) ++ more)) other → ⊥
    first k other few judged =
        let all = bytes ++ run in
        let front : take (k + 1) (all ++ more) ≡ take (k + 1) all = take-append-le (k + 1) all more (omega (arith, few)) in
        let rest : all ≡ take (k + 1) all ++ drop (k + 1) all = sym (take-append-drop (k + 1) all) in
        let comes = subst (λ (x : List ℕ). ComesAt L x judged.0) front judged.1 in
        let unseen = none_comes_unseen L all (take (k + 1) all) (drop (k + 1) all) ((i ++ j) ++ item ∷ []) w judged.0 (leads L bytes run i j item v w h) prompt rest comes in
        free_in to_head (moments_in nothing_seen (i ++ j)) judged.0 other free
        (by_case (take (k + 1) all) (drop (k + 1) all) judged.0 rest (omega (arith, few, length-drop (k + 1) all)) comes
        (Contains-append_cases (moments_in nothing_seen (i ++ j)) (moments_of s item ++ []) judged.0 (subst (λ (x : List Moment). Contains x judged.0) (moments-append nothing_seen (i ++ j) (item ∷ [])) unseen)))
        judged.2
      where
        by_case : (front rest : List ℕ) (moment : Moment) → bytes ++ run ≡ front ++ rest → 0 < length rest → ComesAt L front moment
            → Contains (moments_in nothing_seen (i ++ j)) moment ⊎ Contains (moments_of s item ++ []) moment → Contains (moments_in nothing_seen (i ++ j)) moment
        by_case front rest moment e some c (inl k) = k
        by_case front rest moment e some c (inr k) =
            not_before L bytes run front rest i j item v w moment h e some (subst (λ (x : List Moment). Contains x moment) (append-nil (moments_of s item)) k) c

-- ---- a decoder behind the bytes

-- as one call
abbrev one_call : List ℕ → List Item → At → Call At
one_call bytes i w = record { piece = bytes; taken = length bytes; yields = i; behind = w }

record Behind (L : Bounds) (bytes : List ℕ) (i : List Item) (v : DecoderView) : Type 0 where
  is : IsBehind L (one_call bytes i v.at ∷ []) v
  bytes_are : bytes_taken (one_call bytes i v.at ∷ []) ≡ bytes
  items_are : items_yielded (one_call bytes i v.at ∷ []) ≡ i

behind : (L : Bounds) (bytes : List ℕ) (i : List Item) (v : DecoderView) → Comes L (in_framing []) bytes i v.at → v.limits ≡ L → v.taken ≡ length bytes → Behind L bytes i v
behind L bytes i v c limits taken =
    let all : take (length bytes) bytes ≡ bytes = take-length bytes in
    let m = subst (λ (x : List ℕ). Comes L (in_framing []) x i v.at) (sym all) c in
    record {
      is = record {
        calls_are = (record { inside = omega arith; within = m.within; anyway = m.anyway; goes_on = m.goes_on }, tt);
        limits = limits;
        at = refl;
        taken = taken ∙ sym (ap length (append-nil (take (length bytes) bytes) ∙ all));
      };
      bytes_are = append-nil (take (length bytes) bytes) ∙ all;
      items_are = append-nil i;
    }

answers : (L : Bounds) (bytes : List ℕ) (i : List Item) (v : DecoderView) → Behind L bytes i v → AnswersEveryCut L (one_call bytes i v.at ∷ []) v
answers L bytes i v b = one_answer_for_every_cut L (one_call bytes i v.at ∷ []) v b.is

-- a state behind more bytes, which yield nothing
none_before : (L : Bounds) (to_head : Bool) (bytes piece after : List ℕ) (i : List Item) (v w : At) (offset at : ℕ) → Comes L (in_framing []) bytes i v → AreFree to_head i → at ≡ length bytes + offset
    → Takes Rest L v piece offset [] w → IsPrompt L w → NoneIsJudged L to_head (bytes ++ (piece ++ after)) at
none_before L to_head bytes piece after i v w offset at c free e t prompt =
    let front = take offset piece in
    let d : Comes L v front [] w = record { within = t.within; anyway = t.anyway; goes_on = t.goes_on } in
    let both : Comes L (in_framing []) (bytes ++ front) i w =
    subst (λ (x : List Item). Comes L (in_framing []) (bytes ++ front) x w) (append-nil i) (comes_on L (in_framing []) v w bytes front i [] c d) in
    let text : (bytes ++ front) ++ (drop offset piece ++ after) ≡ bytes ++ (piece ++ after) =
    append_assoc bytes front (drop offset piece ++ after)
    ∙ ap (λ (x : List ℕ). bytes ++ x) (sym (append_assoc front (drop offset piece) after) ∙ ap (λ (x : List ℕ). x ++ after) (take-append-drop offset piece)) in
    let place : length (bytes ++ front) ≡ at = omega (arith, e, length-append bytes front, length-take-le offset piece t.inside) in
    subst (λ (k : ℕ). NoneIsJudged L to_head (bytes ++ (piece ++ after)) k) place
    (subst (λ (x : List ℕ). NoneIsJudged L to_head x (length (bytes ++ front))) text (none_is_judged_yet L to_head (bytes ++ front) (drop offset piece ++ after) i w both prompt free))

refused_so : (to_head : Bool) (bytes piece after : List ℕ) (i : List Item) (v : DecoderView) (r : Refusal) → Comes v.limits (in_framing []) bytes i v.at → v.taken ≡ length bytes
    → AreFree to_head i → RefusesFirst v piece r → IsIntoAnswer v.limits to_head (bytes ++ (piece ++ after)) (dead r)
refused_so to_head bytes piece after i v r c taken free h =
    let b = behind v.limits bytes i v c refl taken in
    let answer = (answers v.limits bytes i v b).refuses piece after r h in
    (subst (λ (x : List ℕ). IsAnswer v.limits (x ++ (piece ++ after)) (refused r)) b.bytes_are answer, none r h)
  where
    none : (r : Refusal) → RefusesFirst v piece r → NoneIsJudged v.limits to_head (bytes ++ (piece ++ after)) (place_of r)
    none (Dead at part) h = none_before v.limits to_head bytes piece after i v.at h.4.at h.0 at c free (h.1 ∙ ap (λ (n : ℕ). n + h.0) taken) h.4.takes h.4.prompt
    none (Limit at part) h = none_before v.limits to_head bytes piece after i v.at h.4.at h.0 at c free (h.1 ∙ ap (λ (n : ℕ). n + h.0) taken) h.4.takes h.4.prompt
    none (TooLong at) h = none_before v.limits to_head bytes piece after i v.at h.4.0 h.0 at c free (h.1 ∙ ap (λ (n : ℕ). n + h.0) taken) h.4.1 h.4.2
    none (Ended at part) h = absurd h

pub refused_where_free : RefusedWhereFree
refused_where_free L to_head bytes piece after i v r h refuses =
    subst (λ (K : Bounds). IsIntoAnswer K to_head (bytes ++ (piece ++ after)) (dead r)) h.limits
    (refused_so to_head bytes piece after i v r (subst (λ (K : Bounds). Comes K (in_framing []) bytes i v.at) (sym h.limits) h.comes) h.taken h.free refuses)

-- ---- the end

none_at_end : (L : Bounds) (to_head : Bool) (bytes : List ℕ) (i : List Item) (w : At) → Comes L (in_framing []) bytes i w → IsPrompt L w → AreFree to_head i → NoneIsJudged L to_head bytes (length bytes)
none_at_end L to_head bytes i w c prompt free =
    subst (λ (x : List ℕ). NoneIsJudged L to_head x (length bytes)) (append-nil bytes) (none_is_judged_yet L to_head bytes [] i w c prompt free)

pub missed_where_free : MissedWhereFree
missed_where_free L to_head bytes i v (Ended at part) h prompt m =
    let b = behind L bytes i v h.comes h.limits h.taken in (
      subst (λ (x : List ℕ). IsAnswer L x (refused (Ended at part))) b.bytes_are ((answers L bytes i v b).misses at part m),
      subst (NoneIsJudged L to_head bytes) (sym h.taken ∙ sym m.place) (none_at_end L to_head bytes i v.at h.comes prompt h.free),
    )
missed_where_free L to_head bytes i v (Dead at part) h prompt m = absurd m
missed_where_free L to_head bytes i v (Limit at part) h prompt m = absurd m
missed_where_free L to_head bytes i v (TooLong at) h prompt m = absurd m

-- what the end says is what is said of the last item
end_form : (to_head : Bool) (m : Message) (o : Omitted) (z : ℕ) → first_of (flat_map (cases_at to_head) (moments_of (head_seen m.start m.fields (length m.content)) (ending o z))) ≡ end_says to_head m o
end_form to_head m Nothing z = refl
end_form to_head m Trailers z = ap first_of (append-nil (cases_at to_head (input_ended m.start m.fields (length m.content))))
end_form to_head m Both z = ap first_of (append-nil (cases_at to_head (input_ended m.start m.fields (length m.content))))

pub finished_where_free : FinishedWhereFree
finished_where_free L to_head bytes i v o z h prompt within rest =
    let b = behind L bytes i v h.comes h.limits h.taken in
    let place = exact_place Rest L (in_framing []) (one_call bytes i v.at ∷ []) start_is b.is.calls_are in
    let done = place.finished o z (subst (λ (x : List ℕ). IsWithin L.input (length x)) (sym b.bytes_are) within) rest in
    let m = done.0 in
    let same : items m o z ≡ i ++ ending o z ∷ [] = done.1 ∙ ap (λ (x : List Item). x ++ ending o z ∷ []) b.items_are in
    let count : content_items i ≡ length m.content =
    omega (arith, ap content_items same, items-append i (ending o z ∷ []), items-append (start_items m.start m.fields) (tail_items m.content m.trailers o z), start_count m.start m.fields, tail_count m.content m.trailers o z) in
    let seen : seen_behind nothing_seen i ≡ head_seen m.start m.fields (length m.content) =
    seen_late m o z i [] (ending o z) (λ e. e) (sym same) ∙ ap (head_seen m.start m.fields) count in
    let says : form_with to_head i (ending o z) ≡ end_says to_head m o = ap (λ (s : Seen). first_of (flat_map (cases_at to_head) (moments_of s (ending o z)))) seen ∙ end_form to_head m o z in
    let unjudged : IsUnjudged L to_head bytes m o z =
    record { message = subst (λ (x : List ℕ). IsAnswer L x (whole m o z)) b.bytes_are done.2; none = none_at_end L to_head bytes i v.at h.comes prompt h.free } in
    (m, same, (unjudged, sym says))
