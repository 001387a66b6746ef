-- A body over calls.
use Rattle.std.proofs.Common.{◌≡◌, ℕ, List, [], ◌∷◌, ◌++◌, take, refl, sym, ap, subst, append-nil}
use Rattle.bh_spec.specs.Bounds.{Bounds}
use Rattle.bh_spec.specs.Messages.{Field}
use Rattle.h1_spec.specs.declared.Framing1.{Framing1}
use Rattle.bh_spec.specs.declared.H1Why.{H1Why}
use Rattle.h1_spec.specs.Bodies.{IsBody}
use Rattle.h1_spec.specs.BodyCauses.{OfBody}
use Rattle.h1_spec.proofs.Causes.{body_once, body_passes}
use Rattle.h1_spec.specs.BodyStates.{At, start, Rest, OfRest, Found, nothing_behind, Moves}
use Rattle.h1_spec.specs.BodyCalls.{Call, bytes_taken, content_given, state_behind, AreTaken, ExactForEveryCut, OneCause, NoneWhereWhole}
use Rattle.h1_spec.proofs.BodySteps.{moves_here, moves_on}
use Rattle.h1_spec.proofs.BodyStarts.{starts}

pub moves_all : (L : Bounds) (v : At) (calls : List Call) → AreTaken L v calls → Moves L v (bytes_taken calls) (content_given calls) (state_behind v calls)
moves_all L v [] h = moves_here L v
moves_all L v (call ∷ calls) h =
    moves_on L v call.behind (state_behind call.behind calls) (take call.taken call.piece) (bytes_taken calls) call.content (content_given calls) h.0 (moves_all L call.behind calls h.1)

-- a state that nothing more completes
ends_with : (L : Bounds) (framing : Framing1) (calls : List Call) (trailers : List Field) → AreTaken L (start framing) calls → Rest L (state_behind (start framing) calls) [] trailers []
    → IsBody L framing (content_given calls) trailers (bytes_taken calls)
ends_with L framing calls trailers h r =
    let m = moves_all L (start framing) calls h in
    (starts L framing).forth (content_given calls) trailers (bytes_taken calls)
    (subst (λ (z : List ℕ). Rest L (start framing) z trailers (bytes_taken calls)) (append-nil (content_given calls))
    (subst (Rest L (start framing) (content_given calls ++ []) trailers) (append-nil (bytes_taken calls)) (m.rest.back ([], trailers) [] r)))

pub exact : ExactForEveryCut
exact L framing calls h = record {
  whole = λ trailers e. ends_with L framing calls trailers h (subst (λ (w : At). Rest L w [] trailers []) (sym e) (refl, refl, refl));
  counted = λ e. ends_with L framing calls [] h (subst (λ (w : At). Rest L w [] [] []) (sym e) (refl, refl, refl));
  ended = λ e. ends_with L framing calls [] h (subst (λ (w : At). Rest L w [] [] []) (sym e) (refl, refl));
  begins = λ content trailers more b.
      let f = (moves_all L (start framing) calls h).rest.forth (content, trailers) more ((starts L framing).back content trailers (bytes_taken calls ++ more) b) in
      let same : trailers ≡ f.0.1 = ap (λ (z : Found). z.1) f.1 in
      (f.0.0, ap (λ (z : Found). z.0) f.1, subst (λ (ts : List Field). Rest L (state_behind (start framing) calls) f.0.0 ts more) (sym same) f.2);
  wrong = wrong L framing calls h;
}
  where
    wrong : (L : Bounds) (framing : Framing1) (calls : List Call) → AreTaken L (start framing) calls → (more : List ℕ) (cause : H1Why)
        → OfRest L nothing_behind (state_behind (start framing) calls) more cause → OfBody L framing nothing_behind (bytes_taken calls ++ more) cause
    wrong L framing calls h more cause c =
        (starts L framing).causes (bytes_taken calls ++ more) cause ((moves_all L (start framing) calls h).causes more cause c)

pub one_cause : OneCause
one_cause L framing calls more c d h p q =
    body_once L nothing_behind framing (bytes_taken calls ++ more) c d (λ fs rest x y. absurd x) ((exact L framing calls h).wrong more c p) ((exact L framing calls h).wrong more d q)

pub none_where_whole : NoneWhereWhole
none_where_whole L framing calls content trailers more c h r p =
    let b = (moves_all L (start framing) calls h).rest.back (content, trailers) more r in
    body_passes L nothing_behind framing (content_given calls ++ content) trailers (bytes_taken calls ++ more) c
    ((starts L framing).forth (content_given calls ++ content) trailers (bytes_taken calls ++ more) b) (λ x. x) ((exact L framing calls h).wrong more c p)
