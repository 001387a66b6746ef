-- Behind some bytes of a piece that led to no item.
use Rattle.std.proofs.Common.{◌≡◌, ◌<◌, ◌≤◌, ◌+◌, ℕ, List, [], ◌∷◌, ◌++◌, length, length-append, length-take, take, drop, inl, refl, sym, ◌∙◌, ap, subst, arith, append_assoc}
use Rattle.std.proofs.lemmas.List.{take-append-drop, take-append-le, take_all}
use Rattle.std.proofs.Math.Seq.{take-add, take-append_seam}
use Rattle.bh_spec.specs.Bounds.{Bounds}
use Rattle.bh_spec.specs.Items.{Item}
use Rattle.bh_stream.specs.Decoding.{Took}
use Rattle.h1_judge.specs.declared.judged.IntoWhy.{IntoWhy}
use Rattle.bh_reading.specs.Readings as binary
use Rattle.bh_reading.specs.Readings.{Counted}
use Rattle.h1_judge.specs.declared.judging.Judge.{Judge}
use Rattle.h1_judge.specs.Views.{JudgedView, rest, Moved, IsReady, IsRefused}
use Rattle.h1_judge.specs.Judges.{view_of, IsSound, IsFront}
use Rattle.h1_judge.specs.JudgedLaws.{alive_there, judged_laws}
use Rattle.h1_judge.proofs.Handing.{NeedOn}

module _ (v u : JudgedView) (piece : List ℕ) (a : ℕ) (inside : a ≤ length piece) (before : Moved v (take a piece) [] u) (bytes after : List ℕ)
    (split : drop a piece ≡ bytes ++ after) where
  long : length bytes + length after + a ≡ length piece
  long = omega (arith, ap length split, length-append bytes after, ap length (take-append-drop a piece), length-append (take a piece) (drop a piece), length-take-of)
    where
      length-take-of : length (take a piece) ≡ a
      length-take-of = simp length-take (omega (arith, inside))

  pub few : (n : ℕ) → n ≤ length bytes → a + n ≤ length piece
  few n h = omega (arith, h, long)

  front : (n : ℕ) → n ≤ length bytes → take (a + n) piece ≡ take a piece ++ take n bytes
  front n h = take-add a n piece ∙ ap (λ (l : List ℕ). take a piece ++ take n l) split
      ∙ ap (λ (l : List ℕ). take a piece ++ l) (take-append-le n bytes after h)

  pub needed : (w : JudgedView) → Moved u bytes [] w → Moved v (take (a + length bytes) piece) [] w
  needed w m = subst (λ (l : List ℕ). Moved v l [] w)
      (sym (take-add a (length bytes) piece ∙ ap (λ (l : List ℕ). take a piece ++ take (length bytes) l) split
      ∙ ap (λ (l : List ℕ). take a piece ++ l) (take-append_seam bytes after)))
      (judged_laws.goes_on v u w (take a piece) bytes [] [] before m)

  pub took_on : (w : JudgedView) (n : ℕ) (items : List Item) → Took rest Moved u bytes n items w → Took rest Moved v piece (a + n) items w
  took_on w n items t = record {
    some = omega (arith, t.some);
    inside = few n t.inside;
    moved = subst (λ (l : List ℕ). Moved v l items w) (sym (front n t.inside))
        (judged_laws.goes_on v u w (take a piece) (take n bytes) [] items before t.moved);
    alive = t.alive;
  }

  pub refused_on : (why : IntoWhy) → IsRefused u bytes why → IsRefused v piece why
  refused_on why r = record {
    before = take a piece ++ r.before;
    bytes = r.bytes;
    after = r.after ++ after;
    split = sym (take-append-drop a piece) ∙ ap (λ (l : List ℕ). take a piece ++ l) (split ∙ ap (λ (l : List ℕ). l ++ after) r.split
        ∙ append_assoc r.before (r.bytes ++ r.after) after ∙ ap (λ (l : List ℕ). r.before ++ l) (append_assoc r.bytes r.after after))
        ∙ sym (append_assoc (take a piece) r.before (r.bytes ++ (r.after ++ after)));
    state = r.state;
    moved = judged_laws.goes_on v u r.state (take a piece) r.before [] [] before r.moved;
    refused = r.refused;
  }

-- ---- the loop

-- So many bytes of the piece led to no item.
pub record Turn (c : Counted) (j : Judge) (piece : List ℕ) (a : ℕ) (d : Counted) (k : Judge) : Type 0 where
  pub inside : a ≤ length piece
  pub moved : Moved (view_of c j) (take a piece) [] (view_of d k)
  pub ready : IsReady (view_of d k)
  pub limits : binary.limits d ≡ binary.limits c
  pub sound : IsSound (binary.limits c) k

pub turn_start : (c : Counted) (j : Judge) (piece : List ℕ) → IsReady (view_of c j) → IsSound (binary.limits c) j → Turn c j piece 0 c j
turn_start c j piece ready sound = record {
  inside = omega arith;
  moved = judged_laws.stays (view_of c j) ready;
  ready = ready;
  limits = refl;
  sound = sound;
}

module _ (c : Counted) (j : Judge) (piece : List ℕ) (a : ℕ) (d : Counted) (k : Judge) (t : Turn c j piece a d k) where
  pub sound_there : IsSound (binary.limits d) k
  sound_there = subst (λ (L : Bounds). IsSound L k) (sym t.limits) t.sound

  pub sound_from : (g : Judge) → IsSound (binary.limits d) g → IsSound (binary.limits c) g
  sound_from g h = subst (λ (L : Bounds). IsSound L g) t.limits h

  pub whole_turn : length piece ≤ a → NeedOn (view_of c j) piece (view_of d k)
  whole_turn h =
      let moved : Moved (view_of c j) piece [] (view_of d k)
      = subst (λ (l : List ℕ). Moved (view_of c j) l [] (view_of d k)) (take_all a piece h) t.moved in
      (moved, inl (alive_there (view_of c j) (view_of d k) piece [] moved))

  module _ (bytes : List ℕ) (front : IsFront (drop a piece) bytes) where
    pub turn_need : (e : Counted) (g : Judge) → NeedOn (view_of d k) bytes (view_of e g) → binary.limits e ≡ binary.limits d
        → IsSound (binary.limits d) g → Turn c j piece (a + length bytes) e g
    turn_need e g need same sound = record {
      inside = few (view_of c j) (view_of d k) piece a t.inside t.moved bytes front.after front.split (length bytes) (omega arith);
      moved = needed (view_of c j) (view_of d k) piece a t.inside t.moved bytes front.after front.split (view_of e g) need.0;
      ready = judged_laws.is_ready (view_of d k) (view_of e g) bytes [] t.ready need.0;
      limits = same ∙ t.limits;
      sound = sound_from g sound;
    }

    pub turn_took : (w : JudgedView) (n : ℕ) (items : List Item) → Took rest Moved (view_of d k) bytes n items w
        → Took rest Moved (view_of c j) piece (a + n) items w
    turn_took w n items h = took_on (view_of c j) (view_of d k) piece a t.inside t.moved bytes front.after front.split w n items h

    pub turn_refused : (why : IntoWhy) → IsRefused (view_of d k) bytes why → IsRefused (view_of c j) piece why
    turn_refused why h = refused_on (view_of c j) (view_of d k) piece a t.inside t.moved bytes front.after front.split why h
