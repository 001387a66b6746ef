-- Pieces that are pushed one after the other are calls.
use Rattle.std.proofs.Common.{◌≡◌, ◌+◌, ℕ, Option, Some, None, List, [], ◌∷◌, ◌++◌, length, take, min, refl, sym, ap, subst, ◌∙◌, append_assoc, append-nil, arith}
use Rattle.std.proofs.lemmas.List.{length-append, length-take}
use Rattle.bh_spec.specs.declared.Refusal.{Refusal}
use Rattle.bh_spec.specs.declared.Refusal.TheVariants.{Dead, Limit, Ended, TooLong}
use Rattle.bh_spec.specs.Answers.{whole, refused, IsAnswer}
use Rattle.bh_spec.specs.Bounds.{Bounds}
use Rattle.bh_spec.specs.Items.{Item, ending}
use Rattle.bh_spec.specs.Runs.{Takes, Call, bytes_taken, items_yielded, state_behind, AreTaken}
use Rattle.bh_push.specs.Decoders.{At, Rest, in_framing}
use Rattle.bh_push.specs.Pushes.{DecoderView, MissesAs, Fails, Refuses, RefusesFirst, AnswersEveryCut}
use Rattle.bh_push.specs.Hands.{Held, start_held, Handed}
use Rattle.bh_push.specs.Feeding.{Push, ArePushed, bytes_pushed, items_pushed, held_behind, OneAnswerForAnyPieces}
use Rattle.bh_push.proofs.Cuts.{one_answer_for_every_cut}

pub calls : List Push → List (Call At)
calls [] = []
calls (p ∷ pushes) = record { piece = p.piece; taken = p.taken; yields = p.yields; behind = p.behind.decoder.at } ∷ calls pushes

are_taken : (L : Bounds) (v : Held) (pushes : List Push) → v.decoder.limits ≡ L → ArePushed v pushes → AreTaken Rest L v.decoder.at (calls pushes)
unfolding calls
are_taken L v [] e h = tt
are_taken L v (p ∷ pushes) e h = (
  subst (λ (K : Bounds). Takes Rest K v.decoder.at p.piece p.taken p.yields p.behind.decoder.at) e h.0.took.takes,
  are_taken L p.behind pushes (h.0.took.limits ∙ e) h.1,
)

bytes_same : (pushes : List Push) → bytes_pushed pushes ≡ bytes_taken (calls pushes)
unfolding calls
bytes_same [] = refl
bytes_same (p ∷ pushes) = ap (λ (x : List ℕ). take p.taken p.piece ++ x) (bytes_same pushes)

items_same : (pushes : List Push) → items_pushed pushes ≡ items_yielded (calls pushes)
unfolding calls
items_same [] = refl
items_same (p ∷ pushes) = ap (λ (x : List Item). p.yields ++ x) (items_same pushes)

-- what is known behind them
pub record Behind (v : Held) (pushes : List Push) : Type 0 where
  pub at : (held_behind v pushes).decoder.at ≡ state_behind v.decoder.at (calls pushes)
  pub limits : (held_behind v pushes).decoder.limits ≡ v.decoder.limits
  pub taken : (held_behind v pushes).decoder.taken ≡ v.decoder.taken + length (bytes_pushed pushes)
  pub none : v.decoder.refusal ≡ None → (held_behind v pushes).decoder.refusal ≡ None

behind : (v : Held) (pushes : List Push) → ArePushed v pushes → Behind v pushes
unfolding calls
behind v [] h = record { at = refl; limits = refl; taken = omega arith; none = λ e. e }
behind v (p ∷ pushes) h =
    let b = behind p.behind pushes h.1 in
    let long : length (take p.taken p.piece) ≡ min p.taken (length p.piece) = length-take p.taken p.piece in
    record {
      at = b.at;
      limits = b.limits ∙ h.0.took.limits;
      taken = omega (arith, b.taken, h.0.took.taken, h.0.took.takes.inside, long, length-append (take p.taken p.piece) (bytes_pushed pushes));
      none = λ e. b.none h.0.took.refusal;
    }

every_cut : (L : Bounds) (v : Held) (pushes : List Push) → v.decoder.limits ≡ L → v.decoder.at ≡ in_framing [] → v.decoder.taken ≡ 0 → ArePushed v pushes
    → AnswersEveryCut L (calls pushes) (held_behind v pushes).decoder
every_cut L v pushes e f z h =
    let b = behind v pushes h in
    one_answer_for_every_cut L (calls pushes) (held_behind v pushes).decoder (record {
      calls_are = subst (λ (x : At). AreTaken Rest L x (calls pushes)) f (are_taken L v pushes e h);
      limits = b.limits ∙ e;
      at = b.at ∙ ap (λ (x : At). state_behind x (calls pushes)) f;
      taken = omega (arith, b.taken, z, ap length (bytes_same pushes));
    })

refuses_none : (refusal : Option Refusal) (v : DecoderView) (piece : List ℕ) (r : Refusal) (w : DecoderView) → refusal ≡ None → Refuses refusal v piece r w → RefusesFirst v piece r
refuses_none None v piece r w e h = h.0
refuses_none (Some given) v piece r w e h = absurd cc

fails_none : (refusal : Option Refusal) (v : DecoderView) (r : Refusal) (w : DecoderView) → refusal ≡ None → Fails refusal v r w → MissesAs v r
fails_none None v r w e h = h.0
fails_none (Some given) v r w e h = absurd cc

missed : (L : Bounds) (cs : List (Call At)) (v : DecoderView) → AnswersEveryCut L cs v → (r : Refusal) → MissesAs v r → IsAnswer L (bytes_taken cs) (refused r)
missed L cs v a (Ended at part) m = a.misses at part m
missed L cs v a (Dead at part) m = absurd m
missed L cs v a (Limit at part) m = absurd m
missed L cs v a (TooLong at) m = absurd m

pub one_answer_for_any_pieces : OneAnswerForAnyPieces
one_answer_for_any_pieces L lines pushes h =
    let v : Held = start_held L lines in
    let w : Held = held_behind v pushes in
    let a = every_cut L v pushes refl refl refl h in
    let none : w.decoder.refusal ≡ None = (behind v pushes h).none refl in
    record {
      refuses = λ piece after r u g. subst (λ (x : List ℕ). IsAnswer L (x ++ (piece ++ after)) (refused r)) (sym (bytes_same pushes))
          (a.refuses piece after r (refuses_none w.decoder.refusal w.decoder piece r u.decoder none g.0));
      ends = λ omitted padding u f. let m = a.finishes omitted padding u f in (
        m.0,
        m.1 ∙ ap (λ (q : List Item). q ++ ending omitted padding ∷ []) (sym (items_same pushes)),
        subst (λ (x : List ℕ). IsAnswer L x (whole m.0 omitted padding)) (sym (bytes_same pushes)) m.2,
      );
      fails = λ r u g. subst (λ (x : List ℕ). IsAnswer L x (refused r)) (sym (bytes_same pushes))
          (missed L (calls pushes) w.decoder a r (fails_none w.decoder.refusal w.decoder r u none g));
    }

-- ---- one piece more

pub pushed_on : (v : Held) (pushes : List Push) (p : Push) → ArePushed v pushes → Handed (held_behind v pushes) p.piece p.taken p.yields p.behind → ArePushed v (pushes ++ p ∷ [])
pushed_on v [] p h g = (g, tt)
pushed_on v (q ∷ pushes) p h g = (h.0, pushed_on q.behind pushes p h.1 g)

pub behind_on : (v : Held) (pushes : List Push) (p : Push) → held_behind v (pushes ++ p ∷ []) ≡ p.behind
behind_on v [] p = refl
behind_on v (q ∷ pushes) p = behind_on q.behind pushes p

pub bytes_on : (pushes : List Push) (p : Push) → bytes_pushed (pushes ++ p ∷ []) ≡ bytes_pushed pushes ++ take p.taken p.piece
bytes_on [] p = append-nil (take p.taken p.piece)
bytes_on (q ∷ pushes) p = ap (λ (x : List ℕ). take q.taken q.piece ++ x) (bytes_on pushes p) ∙ sym (append_assoc (take q.taken q.piece) (bytes_pushed pushes) (take p.taken p.piece))

pub items_on : (pushes : List Push) (p : Push) → items_pushed (pushes ++ p ∷ []) ≡ items_pushed pushes ++ p.yields
items_on [] p = append-nil p.yields
items_on (q ∷ pushes) p = ap (λ (x : List Item). q.yields ++ x) (items_on pushes p) ∙ sym (append_assoc q.yields (items_pushed pushes) p.yields)
