-- Where the input ends.
use Rattle.std.proofs.Common.{◌≡◌, ◌<◌, ℕ, zero, suc, List, [], ◌∷◌, ◌++◌, length, map, replicate, refl, sym, ap, ◌∙◌, append-nil, arith}
use Rattle.bh_spec.specs.declared.Form.{Form}
use Rattle.bh_spec.specs.declared.Part.TheVariants as parts
use Rattle.bh_spec.specs.Bounds.{Bounds}
use Rattle.bh_spec.specs.Integers.{vi}
use Rattle.bh_spec.specs.Texts.{Text, mark, bytes_of}
use Rattle.bh_spec.specs.Pieces.{SomeOf, IsText, IsNext}
use Rattle.bh_spec.proofs.Marks.{marked_bytes}
use Rattle.std.proofs.lemmas.List.{length-replicate}
use Rattle.bh_spec.specs.Items.{content_byte}
use Rattle.bh_push.specs.Completing.{ContentRest}
use Rattle.bh_push.specs.Decoders.{Rest, in_length, in_content, length_part}
use Rattle.bh_push.specs.Bodies.{IsBegun}
use Rattle.bh_push.proofs.Contents.{body_to}
use Rattle.bh_push.proofs.Bodies.{after_some, zeros}

nothing : (t : Text) → bytes_of t ≡ [] → t ≡ []
nothing [] e = refl
nothing (b ∷ t) e = absurd cc

-- a length that was begun isn't whole
pub length_unfinished : (L : Bounds) (form : Form) (number : List ℕ) → IsBegun number → IsText (SomeOf (Rest L (in_length form number))) [] → ⊥
length_unfinished L form number b h =
    let none : h.text ≡ [] = nothing h.text h.same in
    let n = body_to L form h.spelled.0 (mark (length_part form) number ++ h.text) h.spelled.1 in
    b.unfinished.none n.number n.width (bytes_of n.behind) n.fits
    (sym (marked_bytes (length_part form) (vi n.number n.width) n.behind) ∙ sym (ap bytes_of n.spelled) ∙ ap (λ (x : Text). bytes_of (mark (length_part form) number ++ x)) none
    ∙ marked_bytes (length_part form) number [] ∙ append-nil number)

pub run_unfinished : (L : Bounds) (form : Form) (missing : ℕ) → 0 < missing → IsText (SomeOf (Rest L (in_content form missing))) [] → ⊥
run_unfinished L form missing some h = at h.spelled.1.thing h.spelled.1.spelled.length_is h.spelled.1.spelled.spelled
  where
    y : ContentRest L form missing h.spelled.0 h.text
    y = h.spelled.1

    at : (bytes : List ℕ) → length bytes ≡ missing → y.text ≡ mark parts.Content bytes → ⊥
    at [] e f = omega (arith, e, some)
    at (b ∷ bytes) e f =
        let none : [] ≡ mark parts.Content (b ∷ bytes) ++ y.rest = sym (nothing h.text h.same) ∙ y.joined ∙ ap (λ (x : Text). x ++ y.rest) f in
        cc

pub run_next : (L : Bounds) (form : Form) (missing : ℕ) → 0 < missing → IsNext (SomeOf (Rest L (in_content form missing))) [] parts.Content
run_next L form zero some = absurd (omega (arith, some))
run_next L form (suc m) some =
    let a = after_some L form in
    let zeros' : List ℕ = 0 ∷ replicate m 0 in
    record {
      before = [];
      byte = 0;
      after = mark parts.Content (replicate m 0) ++ a.text;
      spelled = (
        map content_byte zeros' ++ a.items,
        record {
          thing = zeros';
          text = mark parts.Content zeros';
          rest = a.text;
          more = a.items;
          spelled = record { length_is = ap suc (length-replicate m 0); bytes_are = zeros (suc m); spelled = refl };
          behind = a.rest;
          items = refl;
          joined = refl;
        },
      );
      begins = refl;
    }
