-- Steps of a reader compose.
use Rattle.std.proofs.Common.{◌≡◌, ℕ, List, [], ◌++◌, refl, sym, ap, subst, ◌∙◌, append_assoc}
use Rattle.bh_spec.specs.Bounds.{Bounds}
use Rattle.bh_spec.specs.Messages.{Field}
use Rattle.bh_spec.specs.declared.H1Why.{H1Why}
use Rattle.h1_spec.specs.BodyCauses.{Behind}
use Rattle.h1_spec.specs.Translation.{OfEnd}
use Rattle.h1_spec.specs.BodyStates.{At, is_chunked, Rest, OfRest, Found, RestOf, behind_content, nothing_behind, AreMarked, Moves}
use Rattle.h1_spec.proofs.BodyMarks.{marks_here, marks_on}

pub moves_here : (L : Bounds) (v : At) → Moves L v [] [] v
moves_here L v = record {
  rest = record { forth = λ a more r. (a, refl, r); back = λ b more r. r };
  causes = λ more cause c. c;
  ends = λ named more cause c. c;
  marks = marks_here v;
  kind = refl;
}

-- what a step is made of; it moves what is wrong, whatever is said behind the body
pub record Step (L : Bounds) (v : At) (bytes content : List ℕ) (w : At) : Type 1 where
  pub forth : (found : List ℕ) (trailers : List Field) (more : List ℕ) → Rest L v found trailers (bytes ++ more)
      → (later : List ℕ) × (found ≡ content ++ later) × Rest L w later trailers more
  pub back : (later : List ℕ) (trailers : List Field) (more : List ℕ) → Rest L w later trailers more → Rest L v (content ++ later) trailers (bytes ++ more)
  pub causes : (behind : Behind) (more : List ℕ) (cause : H1Why) → OfRest L behind w more cause → OfRest L behind v (bytes ++ more) cause
  pub marks : AreMarked v bytes content w
  pub kind : is_chunked v ≡ is_chunked w

pub moves_by : (L : Bounds) (v : At) (bytes content : List ℕ) (w : At) → Step L v bytes content w → Moves L v bytes content w
moves_by L v bytes content w s = record {
  rest = record {
    forth = λ a more r.
        let f = s.forth a.0 a.1 more r in
        ((f.0, a.1), ap (λ (x : List ℕ). let y : Found = (x, a.1) in y) f.1, f.2);
    back = λ b more r. s.back b.0 b.1 more r;
  };
  causes = s.causes nothing_behind;
  ends = λ named. s.causes (OfEnd L named);
  marks = s.marks;
  kind = s.kind;
}

pub moves_on : (L : Bounds) (v w u : At) (x y c d : List ℕ) → Moves L v x c w → Moves L w y d u → Moves L v (x ++ y) (c ++ d) u
moves_on L v w u x y c d m n = record {
  rest = record {
    forth = λ a more r.
        let f = m.rest.forth a (y ++ more) (subst (RestOf L v a) (append_assoc x y more) r) in
        let g = n.rest.forth f.0 more f.2 in
        (g.0, f.1 ∙ ap (behind_content c) g.1 ∙ ap (λ (z : List ℕ). let t : Found = (z, g.0.1) in t) (sym (append_assoc c d g.0.0)), g.2);
    back = λ b more r.
        subst (λ (z : List ℕ). RestOf L v (z, b.1) ((x ++ y) ++ more)) (sym (append_assoc c d b.0))
        (subst (RestOf L v (behind_content c (behind_content d b))) (sym (append_assoc x y more)) (m.rest.back (behind_content d b) (y ++ more) (n.rest.back b more r)));
  };
  causes = λ more cause h. subst (λ (z : List ℕ). OfRest L nothing_behind v z cause) (sym (append_assoc x y more)) (m.causes (y ++ more) cause (n.causes more cause h));
  ends = λ named more cause h. subst (λ (z : List ℕ). OfRest L (OfEnd L named) v z cause) (sym (append_assoc x y more)) (m.ends named (y ++ more) cause (n.ends named more cause h));
  marks = marks_on v w u x y c d m.marks n.marks;
  kind = m.kind ∙ n.kind;
}
