-- What bytes may become of a number that keeps a rule, by the numbers that are allowed.
use Rattle.std.proofs.Common.{◌≡◌, ◌<◌, ℕ, List, [], ◌∷◌, ◌++◌, refl, sym, ap, ap₂, subst, ◌∙◌, append_assoc, append-nil}
use Rattle.std.proofs.lemmas.List.{append_cancel_left}
use Rattle.bh_spec.specs.declared.Allowed.{Allowed}
use Rattle.bh_spec.specs.declared.Part.{Part}
use Rattle.bh_spec.specs.declared.Width.{Width}
use Rattle.bh_spec.specs.Integers.{vi, limit_of, byte_count, IsAllowed, SomeBegins}
use Rattle.bh_spec.specs.Texts.{Text, mark, bytes_of}
use Rattle.bh_spec.specs.Pieces.{SomeOf, IsText, CanBecome, IsNext}
use Rattle.bh_spec.proofs.Meeting.{meets_map, meets_one}
use Rattle.bh_spec.proofs.Numbers.{number_meets}
use Rattle.bh_spec.proofs.Marks.{unmark, mark-append, marked_bytes}
use Rattle.bh_spec.proofs.Pieces.{IsOnce}
use Rattle.bh_varint.specs.Numbers.{NumberThat, IsSetOf, NumberThen, Continues}
use Rattle.bh_varint.specs.Step.{IsWhole, IsUnfinished}
use Rattle.bh_varint.proofs.Reading.{whole_finished, number_once, front_dead}

pub becomes_begins : (part : Part) (P : ℕ → Type 0) (set : Allowed) (bytes : List ℕ) → IsSetOf set P → CanBecome (SomeOf (NumberThat part P)) bytes → SomeBegins set bytes
becomes_begins part P set bytes allows h =
    let n = h.spelled.0 in
    let number = h.spelled.1.spelled in
    let w = number.width in
    (n, w, (number.fits, (h.after, sym (unmark part (vi n w)) ∙ sym (ap bytes_of number.spelled) ∙ h.begins)), (allows n (byte_count w)).1 h.spelled.1.valid)

pub begins_becomes : (part : Part) (P : ℕ → Type 0) (set : Allowed) (bytes : List ℕ) → IsSetOf set P → SomeBegins set bytes → CanBecome (SomeOf (NumberThat part P)) bytes
begins_becomes part P set bytes allows s =
    let n = s.0 in
    let w = s.1 in
    record {
      text = mark part (vi n w);
      after = s.2.1.0;
      spelled = (n, record { valid = (allows n (byte_count w)).0 s.3; spelled = record { width = w; fits = s.2.0; spelled = refl } });
      begins = unmark part (vi n w) ∙ s.2.1.1;
    }

-- bytes that are no whole number have a next one
pub begins_next : (part : Part) (P : ℕ → Type 0) (set : Allowed) (bytes : List ℕ) → IsSetOf set P → SomeBegins set bytes → IsUnfinished bytes
    → IsNext (SomeOf (NumberThat part P)) bytes part
begins_next part P set bytes allows s short = at s.2.1.0 s.2.1.1
  where
    at : (more : List ℕ) → vi s.0 s.1 ≡ bytes ++ more → IsNext (SomeOf (NumberThat part P)) bytes part
    at [] e = absurd (whole_finished s.0 s.1 bytes s.2.0 (e ∙ append-nil bytes) short)
    at (byte ∷ more) e = record {
      before = mark part bytes;
      byte = byte;
      after = mark part more;
      spelled = (
        s.0,
        record {
          valid = (allows s.0 (byte_count s.1)).0 s.3;
          spelled = record {
            width = s.1;
            fits = s.2.0;
            spelled = sym (ap (mark part) e ∙ mark-append part bytes (byte ∷ more));
          };
        },
      );
      begins = unmark part bytes;
    }

-- a whole number that is allowed
pub whole_text : (part : Part) (P : ℕ → Type 0) (set : Allowed) (bytes : List ℕ) (n : ℕ) (w : Width) → IsSetOf set P → IsWhole set bytes n w → IsText (NumberThat part P n) bytes
whole_text part P set bytes n w allows h = record {
  text = mark part (vi n w);
  spelled = record { valid = (allows n (byte_count w)).0 h.allowed; spelled = record { width = w; fits = h.fits; spelled = refl } };
  same = unmark part (vi n w) ∙ h.spelled;
}

-- no number begins another, and bytes are one number at most
pub numbers_once : (part : Part) (P : ℕ → Type 0) → IsOnce (SomeOf (NumberThat part P))
numbers_once part P t u r s = meets_map ⊥ (r.0 ≡ s.0) (Unit {0}) t u (λ e. tt) (number_meets part r.0 s.0 t u r.1.spelled s.1.spelled)

pub one_number : (part : Part) (P : ℕ → Type 0) (bytes : List ℕ) (m n : ℕ) → IsText (NumberThat part P m) bytes → IsText (NumberThat part P n) bytes → m ≡ n
one_number part P bytes m n g h =
    meets_one ⊥ (m ≡ n) g.text h.text (number_meets part m n g.text h.text g.spelled.spelled h.spelled.spelled) (g.same ∙ sym h.same)

-- ---- a number that was begun, at the front of a text

-- a number that is whole
pub number_to : (part : Part) (Body : ℕ → ℕ → Text → Type 0) (set : Allowed) (bytes : List ℕ) (n : ℕ) (w : Width) (t : Text) → IsWhole set bytes n w
    → NumberThen part Body (mark part bytes ++ t) → Body n (byte_count w) t
number_to part Body set bytes n w t whole h =
    let same = number_once n h.number w h.width (bytes_of t) (bytes_of h.behind) whole.fits h.fits
    (ap (λ (x : List ℕ). x ++ bytes_of t) whole.spelled ∙ sym (marked_bytes part bytes t) ∙ ap bytes_of h.spelled ∙ marked_bytes part (vi h.number h.width) h.behind) in
    let written : vi h.number h.width ≡ bytes = ap₂ (λ (m : ℕ) (v : Width). vi m v) (sym same.0) (sym same.1) ∙ whole.spelled in
    let texts : h.behind ≡ t = append_cancel_left (mark part bytes) h.behind t (ap (λ (x : List ℕ). mark part x ++ h.behind) (sym written) ∙ sym h.spelled) in
    subst (λ (x : Text). Body n (byte_count w) x) texts
    (subst (λ (v : Width). Body n (byte_count v) h.behind) (sym same.1)
    (subst (λ (m : ℕ). Body m (byte_count h.width) h.behind) (sym same.0) h.body))

pub number_from : (part : Part) (Body : ℕ → ℕ → Text → Type 0) (set : Allowed) (bytes : List ℕ) (n : ℕ) (w : Width) (t : Text) → IsWhole set bytes n w
    → Body n (byte_count w) t → NumberThen part Body (mark part bytes ++ t)
number_from part Body set bytes n w t whole h = record {
  number = n;
  width = w;
  behind = t;
  fits = whole.fits;
  spelled = ap (λ (x : List ℕ). mark part x ++ t) (sym whole.spelled);
  body = h;
}

-- a byte with which no allowed number begins
pub number_dead : (part : Part) (Body : ℕ → ℕ → Text → Type 0) (set : Allowed) (now : List ℕ) (byte : ℕ) (t : Text) → IsUnfinished now
    → ((n : ℕ) (w : Width) (y : Text) → n < limit_of w → Body n (byte_count w) y → IsAllowed set (byte_count w) n)
    → (SomeBegins set (now ++ byte ∷ []) → ⊥) → NumberThen part Body (mark part now ++ ((part, byte) ∷ t)) → ⊥
number_dead part Body set now byte t part' only dead h =
    front_dead set now (bytes_of t) (bytes_of h.behind) byte h.number h.width part' dead h.fits (only h.number h.width h.behind h.fits h.body)
    (sym (marked_bytes part (vi h.number h.width) h.behind) ∙ sym (ap bytes_of h.spelled) ∙ marked_bytes part now ((part, byte) ∷ t))

-- bytes with which an allowed number begins
pub number_alive : {I : Type 0} (part : Part) (Body : I → ℕ → ℕ → Text → Type 0) (set : Allowed) (now : List ℕ) → Continues Body set
    → SomeBegins set now → (i : I) × (t : Text) × NumberThen part (Body i) (mark part now ++ t)
number_alive part Body set now from h =
    let y = from h.0 h.1 h.3 h.2.0 in
    let rest = h.2.1.0 in (
      y.0,
      mark part rest ++ y.1,
      record {
        number = h.0;
        width = h.1;
        behind = y.1;
        fits = h.2.0;
        spelled = sym (append_assoc (mark part now) (mark part rest) y.1) ∙ ap (λ (x : Text). x ++ y.1) (sym (mark-append part now rest) ∙ ap (mark part) (sym h.2.1.1));
        body = y.2;
      },
    )

-- what is begun and no whole number has a next byte
pub number_opens : {I : Type 0} (part : Part) (Body : I → ℕ → ℕ → Text → Type 0) (set : Allowed) (now : List ℕ) → Continues Body set
    → IsUnfinished now → SomeBegins set now → (i : I) × (byte : ℕ) × (t : Text) × NumberThen part (Body i) (mark part now ++ ((part, byte) ∷ t))
number_opens {I} part Body set now from un h =
    at h.2.1.0 h.2.1.1
  where
    at : (rest : List ℕ) → vi h.0 h.1 ≡ now ++ rest → (i : I) × (byte : ℕ) × (t : Text) × NumberThen part (Body i) (mark part now ++ ((part, byte) ∷ t))
    at [] e = absurd (un.none h.0 h.1 [] h.2.0 (append-nil _ ∙ e ∙ append-nil now))
    at (byte ∷ rest) e =
        let y = from h.0 h.1 h.3 h.2.0 in (
          y.0,
          byte,
          mark part rest ++ y.1,
          record {
            number = h.0;
            width = h.1;
            behind = y.1;
            fits = h.2.0;
            spelled = sym (append_assoc (mark part now) (mark part (byte ∷ rest)) y.1) ∙ ap (λ (x : Text). x ++ y.1) (sym (mark-append part now (byte ∷ rest)) ∙ ap (mark part) (sym e));
            body = y.2;
          },
        )

-- no byte yet
pub begins_nil : (set : Allowed) (n : ℕ) (w : Width) → n < limit_of w → IsAllowed set (byte_count w) n → SomeBegins set []
begins_nil set n w h a = (n, w, (h, (vi n w, refl)), a)
