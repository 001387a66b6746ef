-- A body read from bytes that are all there.
use Rattle.std.proofs.Common.{◌≡◌, ◌⊎◌, ◌≤◌, ◌+◌, ◌-◌, arith, true, ℕ, List, [], ◌∷◌, ◌++◌, length, take, drop, Option, Some, None, refl, sym, ap, subst, ◌∙◌, append-nil, inl, inr}
use Rattle.std.proofs.lemmas.Bool.{eqb-true}
use Rattle.std.proofs.lemmas.List.{take-append-drop, length-drop}
use Rattle.std.proofs.Math.Seq.{take-add}
use Rattle.bh_spec.specs.Bounds.{Bounds}
use Rattle.bh_spec.specs.Messages.{Field}
use Rattle.h1_spec.specs.declared.Framing1.{Framing1}
use Rattle.h1_spec.specs.declared.Framing1.TheVariants.{ToEnd}
use Rattle.bh_spec.specs.declared.H1Why.{H1Why}
use Rattle.bh_spec.specs.declared.H1Why.TheVariants as why
use Rattle.h1_spec.specs.Bodies.{IsBody}
use Rattle.h1_spec.specs.BodyCauses.{OfBody}
use Rattle.h1_spec.specs.BodyStates.{At, start, in_count, to_end, in_line, in_chunk, behind_chunk, behind_cr, in_trailers, over, is_whole, trailers_of, Rest, OfRest, nothing_behind, Moves}
use Rattle.h1_body.specs.declared.reader.BodyStep.TheVariants as steps
use Rattle.h1_body.specs.Contents.{IsContent}
use Rattle.h1_body.specs.Readers.{SaysBody}
use Rattle.h1_body.specs.Whole.{IsDone}
use Rattle.h1_spec.proofs.BodySteps.{moves_here, moves_on}
use Rattle.h1_spec.proofs.BodyStarts.{starts}

pub body_of : (L : Bounds) (framing : Framing1) (x content : List ℕ) (v : At) (trailers : List Field) → Moves L (start framing) x content v → Rest L v [] trailers [] → IsBody L framing content trailers x
body_of L framing x content v trailers m r =
    (starts L framing).forth content trailers x
    (subst (λ (z : List ℕ). Rest L (start framing) z trailers x) (append-nil content)
    (subst (Rest L (start framing) (content ++ []) trailers) (append-nil x) (m.rest.back ([], trailers) [] r)))

pub cause_of : (L : Bounds) (framing : Framing1) (x y content : List ℕ) (v : At) (c : H1Why) → Moves L (start framing) x content v → OfRest L nothing_behind v y c → OfBody L framing nothing_behind (x ++ y) c
cause_of L framing x y content v c m r = (starts L framing).causes (x ++ y) c (m.causes y c r)

-- a run of content more
pub run_more : (L : Bounds) (s v w : At) (bytes content run : List ℕ) (at taken : ℕ) → Moves L s (take at bytes) content v → IsContent v (drop at bytes) taken run w
    → Moves L s (take (at + taken) bytes) (content ++ run) w
run_more L s v w bytes content run at taken m h =
    subst (λ (z : List ℕ). Moves L s z (content ++ run) w) (sym (take-add at taken bytes)) (moves_on L s v w (take at bytes) (take taken (drop at bytes)) content run m (h.becomes L))

-- ---- bodies that are over

pub rest_done : (L : Bounds) (v : At) → is_whole v ≡ true → Rest L v [] (trailers_of v) []
rest_done L (in_count n) e = let none = eqb-true n 0 e in (sym none, refl, refl)
rest_done L to_end e = absurd cc
rest_done L (in_line state room) e = absurd cc
rest_done L (in_chunk missing) e = absurd cc
rest_done L behind_chunk e = absurd cc
rest_done L behind_cr e = absurd cc
rest_done L (in_trailers seen) e = absurd cc
rest_done L (over found) e = (refl, refl, refl)

-- and there no byte follows
none_follows : (L : Bounds) (v : At) (content : List ℕ) (trailers : List Field) → is_whole v ≡ true → Rest L v content trailers (0 ∷ []) → ⊥
none_follows L (in_count n) content trailers e r = let none = eqb-true n 0 e in omega (arith, none, r.0, ap (length {A = ℕ}) r.2)
none_follows L to_end content trailers e r = absurd cc
none_follows L (in_line state room) content trailers e r = absurd cc
none_follows L (in_chunk missing) content trailers e r = absurd cc
none_follows L behind_chunk content trailers e r = absurd cc
none_follows L behind_cr content trailers e r = absurd cc
none_follows L (in_trailers seen) content trailers e r = absurd cc
none_follows L (over found) content trailers e r = let none = r.2 in absurd cc

-- so a body that lasts to the end isn't whole before it
pub never_whole : (L : Bounds) (x content : List ℕ) (v : At) → Moves L to_end x content v → is_whole v ≡ true → ⊥
never_whole L x content v m e =
    let f = m.rest.forth (x ++ 0 ∷ [], []) (0 ∷ []) (refl, refl) in
    none_follows L v f.0.0 f.0.1 e f.2

-- ---- answers

-- what the calls so far made, within limits with this bound of the trailer section
abbrev pub Made : Option ℕ → Framing1 → List ℕ → ℕ → List ℕ → At → Type 0
Made section framing bytes at content v = (L : Bounds) → L.section ≡ section → Moves L (start framing) (take at bytes) content v

pub made_here : (section : Option ℕ) (framing : Framing1) (bytes : List ℕ) (v : At) → v ≡ start framing → Made section framing bytes 0 [] v
made_here section framing bytes v e L l = subst (λ (z : At). Moves L (start framing) [] [] z) (sym e) (moves_here L (start framing))

-- the body is over
pub is_over : (section : Option ℕ) (framing : Framing1) (bytes content : List ℕ) (at left : ℕ) (v : At) (lines : List Field)
    → Made section framing bytes at content v → IsDone v left → lines ≡ trailers_of v → (L : Bounds) → L.section ≡ section → IsBody L framing content lines (take at bytes)
is_over section framing bytes content at left v lines m (inl e) n L l =
    body_of L framing (take at bytes) content v lines (m L l) (subst (λ (ts : List Field). Rest L v [] ts []) (sym n) (rest_done L v e))
is_over section framing bytes content at left v lines m (inr e) n L l =
    body_of L framing (take at bytes) content to_end lines (subst (λ (z : At). Moves L (start framing) (take at bytes) content z) e.0 (m L l))
    (n ∙ ap trailers_of e.0, refl)

-- and has all bytes where it lasts to their end
pub all_over : (section : Option ℕ) (framing : Framing1) (bytes content : List ℕ) (at left : ℕ) (v : At)
    → Made section framing bytes at content v → IsDone v left → at ≤ length bytes → (left ≡ 0 → length bytes ≤ at) → framing ≡ ToEnd → at ≡ length bytes
all_over section framing bytes content at left v m (inl e) inside none f =
    let L : Bounds = record { part = None; section = section; interims = None; input = None } in
    absurd (never_whole L (take at bytes) content v (subst (λ (z : Framing1). Moves L (start z) (take at bytes) content v) f (m L refl)) e)
all_over section framing bytes content at left v m (inr e) inside none f = omega (arith, inside, none e.1)

-- behind a trailer section it is whole
pub whole_made : (section : Option ℕ) (most : ℕ) (framing : Framing1) (bytes content : List ℕ) (at taken : ℕ) (v w : At)
    → section ≡ Some most → Made section framing bytes at content v → SaysBody most v (drop at bytes) (steps.Whole taken) w → Made section framing bytes (at + taken) content w
whole_made section most framing bytes content at taken v w s m h L l =
    subst (λ (z : List ℕ). Moves L (start framing) z content w) (sym (take-add at taken bytes))
    (subst (λ (z : List ℕ). Moves L (start framing) (take at bytes ++ take taken (drop at bytes)) z w) (append-nil content)
    (moves_on L (start framing) v w (take at bytes) (take taken (drop at bytes)) content [] (m L l) (h.2 L (l ∙ s))))

pub over_whole : (most : ℕ) (v w : At) (piece : List ℕ) (taken : ℕ) → SaysBody most v piece (steps.Whole taken) w → is_whole w ≡ true
over_whole most v w piece taken h = ap is_whole h.1.1

pub is_wrong : (section : Option ℕ) (most : ℕ) (framing : Framing1) (bytes content : List ℕ) (at : ℕ) (v w : At) (cause : H1Why)
    → section ≡ Some most → Made section framing bytes at content v → SaysBody most v (drop at bytes) (steps.Refused cause) w
    → (L : Bounds) → L.section ≡ section → OfBody L framing nothing_behind bytes cause
is_wrong section most framing bytes content at v w cause s m h L l =
    subst (λ (z : List ℕ). OfBody L framing nothing_behind z cause) (take-append-drop at bytes)
    (cause_of L framing (take at bytes) (drop at bytes) content v cause (m L l)
    (subst (λ (z : List ℕ). OfRest L nothing_behind v z cause) (take-append-drop (h.at + 1) (drop at bytes)) (h.decided L (l ∙ s) (drop (h.at + 1) (drop at bytes)))))

pub is_short : (section : Option ℕ) (most : ℕ) (framing : Framing1) (bytes content : List ℕ) (at : ℕ) (v w : At)
    → section ≡ Some most → Made section framing bytes at content v → SaysBody most v (drop at bytes) steps.Need w
    → (v ≡ to_end → length bytes - at ≡ 0 → ⊥) → (L : Bounds) → L.section ≡ section → OfBody L framing nothing_behind bytes why.Ended
is_short section most framing bytes content at v w s m h n L l = rest (h L (l ∙ s)).1
  where
    rest : ((v ≡ to_end) × (drop at bytes ≡ [])) ⊎ OfRest L nothing_behind v (drop at bytes) why.Ended → OfBody L framing nothing_behind bytes why.Ended
    rest (inl e) = absurd (n e.0 (sym (length-drop at bytes) ∙ ap (length {A = ℕ}) e.1))
    rest (inr a) = subst (λ (z : List ℕ). OfBody L framing nothing_behind z why.Ended) (take-append-drop at bytes)
        (cause_of L framing (take at bytes) (drop at bytes) content v why.Ended (m L l) a)
