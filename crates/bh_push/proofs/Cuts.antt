-- Whatever the cut of the input, the answers are those for the input.
use Rattle.std.proofs.Common.{◌≡◌, ◌<◌, ◌+◌, ℕ, Option, Some, List, [], ◌++◌, length, take, sym, ap, subst, ◌∙◌, append-nil, arith}
use Rattle.std.proofs.Math.Seq.{take-append-add}
use Rattle.std.proofs.lemmas.List.{length-append, take-append-le}
use Rattle.bh_spec.specs.Items.{MessageOf}
use Rattle.bh_spec.specs.declared.Refusal.{Refusal}
use Rattle.bh_spec.specs.declared.Refusal.TheVariants.{Dead, Limit, Ended, TooLong}
use Rattle.bh_spec.specs.Bounds.{Bounds}
use Rattle.bh_spec.specs.Pieces.{CanBecome}
use Rattle.bh_spec.specs.Viable.{IsViable}
use Rattle.bh_spec.specs.Answers.{refused, IsAnswer}
use Rattle.bh_spec.specs.Runs.{Takes, Call, bytes_taken, items_yielded, state_behind, AreTaken, Any, ExactPlace}
use Rattle.bh_spec.proofs.Runs.{exact_place, items_of_a_message}
use Rattle.bh_spec.proofs.Residuals.{same_of}
use Rattle.bh_push.specs.Decoders.{At, Rest, in_framing}
use Rattle.bh_push.specs.Pushes.{DecoderView, RefusesFirst, AnswersEveryCut, OneAnswerForEveryCut}
use Rattle.bh_push.proofs.Starting.{start_is}

-- the bytes up to one that is too many
too_long : (L : Bounds) (calls : List (Call At)) (piece after : List ℕ) (offset at : ℕ) (w : At) → AreTaken Rest L (in_framing []) calls
    → at ≡ length (bytes_taken calls) + offset → L.input ≡ Some at → offset < length piece → Takes Rest L (state_behind (in_framing []) calls) piece offset [] w
    → IsAnswer L (bytes_taken calls ++ (piece ++ after)) (refused (TooLong at))
too_long L calls piece after offset at w h e limit inside t = record {
  limit = limit;
  more = omega (arith, e, inside, length-append (bytes_taken calls) (piece ++ after), length-append piece after);
  viable = subst (IsViable L) (sym front) viable;
}
  where
    done : List ℕ
    done = bytes_taken calls

    v : At
    v = state_behind (in_framing []) calls

    front : take at (done ++ (piece ++ after)) ≡ done ++ take offset piece
    front = ap (λ (k : ℕ). take k (done ++ (piece ++ after))) e ∙ take-append-add done (piece ++ after) offset
        ∙ ap (λ (x : List ℕ). done ++ x) (take-append-le offset piece after (omega (arith, inside)))

    here : CanBecome (Any Rest L v) (take offset piece)
    here = subst (CanBecome (Any Rest L v)) (append-nil (take offset piece))
        (((same_of (Rest L v) (take offset piece) (λ q. [] ++ q) (Rest L w) t.within).becomes []).1 t.goes_on)

    viable : IsViable L (done ++ take offset piece)
    viable =
        let m = ((same_of (MessageOf L) done (λ q. items_yielded calls ++ q) (Rest L v) (items_of_a_message Rest L (in_framing []) calls start_is h)).becomes (take offset piece)).1 here in
        record { text = m.text; after = m.after; spelled = (m.spelled.1.0, m.spelled.1.1, m.spelled.1.2, m.spelled.1.4); begins = m.begins }

cut_at : (L : Bounds) (calls : List (Call At)) (limits : Bounds) (at : At) (taken : ℕ) (refusal : Option Refusal) → AreTaken Rest L (in_framing []) calls → limits ≡ L
    → at ≡ state_behind (in_framing []) calls → taken ≡ length (bytes_taken calls)
    → AnswersEveryCut L calls (record { limits = limits; at = at; taken = taken; refusal = refusal })
cut_at L calls limits at taken refusal h el ea et =
    subst (λ (K : Bounds). AnswersEveryCut L calls (record { limits = K; at = at; taken = taken; refusal = refusal })) (sym el)
    (subst (λ (x : At). AnswersEveryCut L calls (record { limits = L; at = x; taken = taken; refusal = refusal })) (sym ea)
    (subst (λ (n : ℕ). AnswersEveryCut L calls (record { limits = L; at = state_behind (in_framing []) calls; taken = n; refusal = refusal })) (sym et)
    (record {
      refuses = refuses;
      finishes = λ o z w f. place.finished o z f.input f.rest;
      misses = λ x part m. subst (λ (n : ℕ). IsAnswer L (bytes_taken calls) (refused (Ended n part))) (sym m.place) (place.ended part m.input m.unfinished m.next);
    })))
  where
    place : ExactPlace Rest L (in_framing []) calls
    place = exact_place Rest L (in_framing []) calls start_is h

    v : DecoderView
    v = record { limits = L; at = state_behind (in_framing []) calls; taken = length (bytes_taken calls); refusal = refusal }

    refuses : (piece after : List ℕ) (r : Refusal) → RefusesFirst v piece r → IsAnswer L (bytes_taken calls ++ (piece ++ after)) (refused r)
    refuses piece after (Dead x part) k =
        subst (λ (n : ℕ). IsAnswer L (bytes_taken calls ++ (piece ++ after)) (refused (Dead n part))) (sym k.1) (place.dead piece after k.0 part k.2 k.3)
    refuses piece after (Limit x part) k =
        subst (λ (n : ℕ). IsAnswer L (bytes_taken calls ++ (piece ++ after)) (refused (Limit n part))) (sym k.1) (place.limit piece after k.0 part k.2 k.3)
    refuses piece after (TooLong x) k = too_long L calls piece after k.0 x k.4.0 h k.1 k.2 k.3 k.4.1
    refuses piece after (Ended x part) k = absurd k

pub one_answer_for_every_cut : OneAnswerForEveryCut
one_answer_for_every_cut L calls v b = cut_at L calls v.limits v.at v.taken v.refusal b.calls_are b.limits b.at b.taken
