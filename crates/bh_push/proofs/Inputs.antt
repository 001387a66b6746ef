-- A piece within the limit of the input: what is said of its front is said of it.
use Rattle.std.proofs.Common.{◌≡◌, ◌<◌, ◌≤◌, ◌+◌, ℕ, Option, Some, None, List, [], length, take, drop, min, refl, sym, ap, subst, ◌∙◌, take-append-drop, arith}
use Rattle.std.proofs.lemmas.List.{length-take, take-append-le}
use Rattle.bh_spec.specs.declared.Part.{Part}
use Rattle.bh_spec.specs.declared.Refusal.{Refusal}
use Rattle.bh_spec.specs.Texts.{Text}
use Rattle.bh_spec.specs.Pieces.{CanBecome, IsNext, IsRefused, IsDead, IsLimit}

-- the front of a piece, as far as there is room
pub record Fronted (piece within : List ℕ) (room : ℕ) : Type 0 where
  pub same : within ≡ take (min room (length piece)) piece

pub front_long : (piece within : List ℕ) (room : ℕ) → Fronted piece within room → length within ≡ min room (length piece)
front_long piece within room f = ap length f.same ∙ length-take (min room (length piece)) piece ∙ (let e : min (min room (length piece)) (length piece) ≡ min room (length piece) = omega arith in e)

pub front_of_front : (piece within : List ℕ) (room count : ℕ) → Fronted piece within room → count ≤ length within → take count within ≡ take count piece
front_of_front piece within room count f h =
    let m = min room (length piece) in
    let front : List ℕ = take m piece in
    ap (take count) f.same ∙ sym (take-append-le count front (drop m piece) (omega (arith, h, ap length f.same))) ∙ ap (take count) (take-append-drop m piece)

-- ---- what is refused

refused_longer : (R : Text → Type 0) (piece within : List ℕ) (room offset : ℕ) (part : Part) → Fronted piece within room → IsRefused R [] within offset part → IsRefused R [] piece offset part
refused_longer R piece within room offset part f r =
    let h : offset < length within = r.inside in
    record {
      inside = omega (arith, h, front_long piece within room f);
      next = subst (λ (x : List ℕ). IsNext R x part) (front_of_front piece within room offset f (omega arith)) r.next;
      after = λ c. r.after (subst (CanBecome R) (sym (front_of_front piece within room (offset + 1) f (omega arith))) c);
    }

pub dead_longer : (R S : Text → Type 0) (piece within : List ℕ) (room offset : ℕ) (part : Part) → Fronted piece within room → IsDead R S [] within offset part → IsDead R S [] piece offset part
dead_longer R S piece within room offset part f d =
    let h : offset < length within = d.refused.inside in
    record {
      refused = refused_longer R piece within room offset part f d.refused;
      anyway = λ c. d.anyway (subst (CanBecome S) (sym (front_of_front piece within room (offset + 1) f (omega arith))) c);
    }

pub limit_longer : (R S : Text → Type 0) (piece within : List ℕ) (room offset : ℕ) (part : Part) → Fronted piece within room → IsLimit R S [] within offset part → IsLimit R S [] piece offset part
limit_longer R S piece within room offset part f d =
    let h : offset < length within = d.refused.inside in
    record {
      refused = refused_longer R piece within room offset part f d.refused;
      anyway = subst (CanBecome S) (front_of_front piece within room (offset + 1) f (omega arith)) d.anyway;
    }

pub not_some : (o : Option Refusal) → ((r : Refusal) → o ≡ Some r → ⊥) → o ≡ None
not_some None h = refl
not_some (Some r) h = absurd (h r refl)
