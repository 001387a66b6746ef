-- A phase in which a number is read, for any grammar that begins with one: a byte more, its last byte, and a byte that is refused.
use Rattle.std.proofs.Common.{◌≡◌, ◌<◌, ℕ, List, [], ◌∷◌, ◌++◌, refl, sym, ap, subst, ◌∙◌, append_assoc, append-nil}
use Rattle.bh_spec.specs.declared.Allowed.{Allowed}
use Rattle.bh_spec.specs.declared.Part.{Part}
use Rattle.bh_spec.specs.declared.Width.{Width}
use Rattle.bh_spec.specs.Integers.{vi, limit_of, byte_count, IsAllowed, SomeBegins}
use Rattle.bh_spec.specs.Texts.{Text, mark, bytes_of}
use Rattle.bh_spec.specs.Pieces.{SomeOf, CanBecome, IsNext}
use Rattle.bh_spec.proofs.Marks.{mark-append, mark-snoc, marked_bytes}
use Rattle.bh_varint.specs.Step.{IsWhole, IsUnfinished}
use Rattle.bh_varint.specs.Numbers.{NumberThen}
use Rattle.bh_varint.proofs.Numbers.{number_to, number_from, number_dead}
use Rattle.bh_spec.specs.Residuals.{IsStep}
use Rattle.bh_spec.specs.Items.{Item}
use Rattle.bh_push.proofs.Contents.{begun_part}

-- a text of R is a number of the part, and then what the number says
pub record IsNumbered (part : Part) (R : List Item → Text → Type 0) (Body : List Item → ℕ → ℕ → Text → Type 0) : Type 0 where
  pub to : (q : List Item) (t : Text) → R q t → NumberThen part (Body q) t
  pub from : (q : List Item) (t : Text) → NumberThen part (Body q) t → R q t

-- behind the bytes of the number that were begun
abbrev pub Behind : Part → (List Item → Text → Type 0) → List ℕ → List Item → Text → Type 0
Behind part R begun q t = R q (mark part begun ++ t)

-- what the number says allows no others than those of the set
abbrev pub Only : (List Item → ℕ → ℕ → Text → Type 0) → Allowed → Type 0
Only Body set = (q : List Item) (n : ℕ) (w : Width) (y : Text) → n < limit_of w → Body q n (byte_count w) y → IsAllowed set (byte_count w) n

-- and behind each of the set something may stand
abbrev pub Each : (List Item → ℕ → ℕ → Text → Type 0) → Allowed → Type 0
Each Body set = (n : ℕ) (w : Width) → n < limit_of w → IsAllowed set (byte_count w) n → (q : List Item) × (y : Text) × Body q n (byte_count w) y

pub part_is : (part : Part) (R : List Item → Text → Type 0) (Body : List Item → ℕ → ℕ → Text → Type 0) → IsNumbered part R Body → (begun : List ℕ) → IsUnfinished begun
    → (q : List Item) (other : Part) (byte : ℕ) (t : Text) → Behind part R begun q ((other, byte) ∷ t) → other ≡ part
part_is part R Body is begun un q other byte t r =
    let h = is.to q (mark part begun ++ ((other, byte) ∷ t)) r in
    begun_part part h.number h.width h.behind begun other byte t un h.fits h.spelled

pub number_more : (part : Part) (R : List Item → Text → Type 0) (Body : List Item → ℕ → ℕ → Text → Type 0) → IsNumbered part R Body → (begun : List ℕ) (byte : ℕ) → IsUnfinished begun
    → IsStep (Behind part R begun) part byte (λ q. q) (Behind part R (begun ++ byte ∷ []))
number_more part R Body is begun byte un = record {
  part_is = λ q other t r. part_is part R Body is begun un q other byte t r;
  forth = λ q t r. (q, refl, subst (R q) (sym (mark-snoc part begun byte t)) r);
  back = λ q t r. subst (R q) (mark-snoc part begun byte t) r;
}

pub number_whole : (part : Part) (R : List Item → Text → Type 0) (Body : List Item → ℕ → ℕ → Text → Type 0) → IsNumbered part R Body → (set : Allowed) (begun : List ℕ) (byte n : ℕ) (w : Width)
    → IsUnfinished begun → IsWhole set (begun ++ byte ∷ []) n w → IsStep (Behind part R begun) part byte (λ q. q) (λ q t. Body q n (byte_count w) t)
number_whole part R Body is set begun byte n w un whole = record {
  part_is = λ q other t r. part_is part R Body is begun un q other byte t r;
  forth = λ q t r. (
    q,
    refl,
    number_to part (Body q) set (begun ++ byte ∷ []) n w t whole
        (subst (NumberThen part (Body q)) (sym (mark-snoc part begun byte t)) (is.to q (mark part begun ++ ((part, byte) ∷ t)) r)),
  );
  back = λ q t r. is.from q (mark part begun ++ ((part, byte) ∷ t))
      (subst (NumberThen part (Body q)) (mark-snoc part begun byte t) (number_from part (Body q) set (begun ++ byte ∷ []) n w t whole r));
}

-- no number of the set has the byte
pub number_stops : (part : Part) (R : List Item → Text → Type 0) (Body : List Item → ℕ → ℕ → Text → Type 0) → IsNumbered part R Body → (set : Allowed) (begun : List ℕ) (byte : ℕ)
    → IsUnfinished begun → Only Body set → (SomeBegins set (begun ++ byte ∷ []) → ⊥) → CanBecome (SomeOf (Behind part R begun)) (byte ∷ []) → ⊥
number_stops part R Body is set begun byte un only dead h = at h.text h.spelled.1 h.begins
  where
    at : (t : Text) → Behind part R begun h.spelled.0 t → bytes_of t ≡ (byte ∷ []) ++ h.after → ⊥
    at [] r e = absurd cc
    at ((other, value) ∷ t) r e =
        let q : List Item = h.spelled.0 in
        let same : value ≡ byte = cc in
        let first : Behind part R begun q ((other, byte) ∷ t) = subst (λ (v : ℕ). Behind part R begun q ((other, v) ∷ t)) same r in
        let named : other ≡ part = part_is part R Body is begun un q other byte t first in
        number_dead part (Body q) set begun byte t un (λ n w y h body. only q n w y h body) dead
        (is.to q (mark part begun ++ ((part, byte) ∷ t)) (subst (λ (p : Part). Behind part R begun q ((p, byte) ∷ t)) named first))

-- something goes on with the bytes with which a number of the set begins
pub number_some : (part : Part) (R : List Item → Text → Type 0) (Body : List Item → ℕ → ℕ → Text → Type 0) → IsNumbered part R Body → (set : Allowed) (begun more : List ℕ) → Each Body set
    → SomeBegins set (begun ++ more) → CanBecome (SomeOf (Behind part R begun)) more
number_some part R Body is set begun more each s =
    let y = each s.0 s.1 s.2.0 s.3 in
    let rest = s.2.1.0 in
    let t : Text = mark part (more ++ rest) ++ y.1 in
    record {
      text = t;
      after = rest ++ bytes_of y.1;
      spelled = (
        y.0,
        is.from y.0 (mark part begun ++ t) (record {
          number = s.0;
          width = s.1;
          behind = y.1;
          fits = s.2.0;
          spelled = sym (append_assoc (mark part begun) (mark part (more ++ rest)) y.1) ∙ ap (λ (x : Text). x ++ y.1)
              (sym (mark-append part begun (more ++ rest)) ∙ ap (mark part) (sym (append_assoc begun more rest) ∙ sym s.2.1.1));
          body = y.2;
        }),
      );
      begins = marked_bytes part (more ++ rest) y.1 ∙ append_assoc more rest (bytes_of y.1);
    }

-- a number that was begun goes on with its part
pub number_next : (part : Part) (R : List Item → Text → Type 0) (Body : List Item → ℕ → ℕ → Text → Type 0) → IsNumbered part R Body → (set : Allowed) (begun : List ℕ) → Each Body set
    → IsUnfinished begun → SomeBegins set begun → IsNext (SomeOf (Behind part R begun)) [] part
number_next part R Body is set begun each un s = at s.2.1.0 s.2.1.1
  where
    at : (rest : List ℕ) → vi s.0 s.1 ≡ begun ++ rest → IsNext (SomeOf (Behind part R begun)) [] part
    at [] e = absurd (un.none s.0 s.1 [] s.2.0 (append-nil _ ∙ e ∙ append-nil begun))
    at (byte ∷ rest) e =
        let y = each s.0 s.1 s.2.0 s.3 in
        let after : Text = mark part rest ++ y.1 in
        record {
          before = [];
          byte = byte;
          after = after;
          spelled = (
            y.0,
            is.from y.0 (mark part begun ++ ((part, byte) ∷ after)) (record {
              number = s.0;
              width = s.1;
              behind = y.1;
              fits = s.2.0;
              spelled = sym (append_assoc (mark part begun) (mark part (byte ∷ rest)) y.1) ∙ ap (λ (x : Text). x ++ y.1)
                  (sym (mark-append part begun (byte ∷ rest)) ∙ ap (mark part) (sym e));
              body = y.2;
            }),
          );
          begins = refl;
        }
