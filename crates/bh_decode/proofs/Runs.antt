-- A length and so many bytes of content.
use Rattle.std.proofs.Common.{◌≡◌, ◌<◌, ◌≤◌, ◌+◌, ◌-◌, ℕ, suc, List, [], ◌++◌, length, take, drop, replicate, refl, sym, ap, subst, ◌∙◌, arith}
use Rattle.std.proofs.lemmas.List.{length-append, length-take, length-map, length-replicate}
use Rattle.std.proofs.lemmas.List.Elements.{All-replicate, All-append, All-take}
use Rattle.bh_spec.specs.Bytes.{AreBytes}
use Rattle.bh_spec.specs.declared.Part.{Part}
use Rattle.bh_spec.specs.declared.Part.TheVariants as parts
use Rattle.bh_spec.specs.Integers.{limit_of}
use Rattle.bh_spec.specs.Canonical.{greatest}
use Rattle.bh_spec.specs.declared.Width.{Width}
use Rattle.bh_spec.specs.declared.Width.TheVariants.{One, Two, Four, Eight}
use Rattle.bh_spec.specs.Texts.{Text, mark, IsNumber, ◌then◌}
use Rattle.bh_spec.specs.declared.Form.TheVariants.{Known}
use Rattle.bh_spec.proofs.Sections.{number_nonempty}
use Rattle.bh_spec.proofs.Agreement.{agree_string}
use Rattle.bh_spec.proofs.Meeting.{Meets, meets_mark}
use Rattle.bh_spec.proofs.Marks.{unmark, mark-append, length-mark}
use Rattle.bh_spec.specs.Pieces.{SomeOf, IsText, IsNext, Ends}
use Rattle.bh_spec.proofs.Pieces.{IsOnce, next_unfinished}
use Rattle.bh_decode.specs.declared.stop.Stop.{Stop}
use Rattle.bh_decode.specs.Grammar.{ContentOf, RunOf, BodyOf}
use Rattle.bh_decode.specs.Numbers.{NumberOf}
use Rattle.bh_decode.specs.Stops.{IsCutThing, StopsThing}
use Rattle.bh_decode.proofs.Contexts.{AreOnce, once_of, SomeThen, Follows, context_behind}
use Rattle.bh_decode.proofs.Fronts.{ends_same, ends_then}
use Rattle.bh_decode.proofs.Numbers.{numbers_once}
use Rattle.bh_decode.proofs.Stopped.{Same, thing_same, thing_then}

-- ---- so many bytes

content_once : (long : ℕ) → AreOnce (ContentOf long)
content_once long c d t u a b =
    let same : length c ≡ length d = a.length_is ∙ sym b.length_is in
    subst (λ (x : Text). Meets ⊥ (c ≡ d) x u) (sym a.spelled) (subst (λ (y : Text). Meets ⊥ (c ≡ d) (mark parts.Content c) y) (sym b.spelled) (meets_mark parts.Content c d same))

pub content_whole : (bytes : List ℕ) (long : ℕ) → AreBytes bytes → long ≤ length bytes → Ends (ContentOf long (take long bytes)) [] bytes long
content_whole bytes long small enough = record {
  within = enough;
  whole = record {
    text = mark parts.Content (take long bytes);
    spelled = record { length_is = omega (arith, length-take long bytes, enough); bytes = All-take (λ (b : ℕ). b < 256) long bytes small; spelled = refl };
    same = unmark parts.Content (take long bytes);
  };
}

-- some content goes on behind the bytes with zeros
content_next : (bytes : List ℕ) (long missing : ℕ) → AreBytes bytes → length bytes + suc missing ≡ long → IsNext (SomeOf (ContentOf long)) bytes parts.Content
content_next bytes long missing small e =
    let zeros : List ℕ = replicate (suc missing) 0 in
    record {
      before = mark parts.Content bytes;
      byte = 0;
      after = mark parts.Content (replicate missing 0);
      spelled = (
        bytes ++ zeros,
        record {
          length_is = length-append bytes zeros ∙ ap (λ (n : ℕ). length bytes + n) (length-replicate (suc missing) 0) ∙ e;
          bytes = All-append (λ (b : ℕ). b < 256) bytes zeros small (All-replicate (λ (b : ℕ). b < 256) (suc missing) 0 (omega arith));
          spelled = sym (mark-append parts.Content bytes zeros);
        },
      );
      begins = unmark parts.Content bytes;
    }

missing_of : (m n : ℕ) → m < n → (k : ℕ) × (m + suc k ≡ n)
missing_of m n h = (n - m - 1, omega (arith, h))

pub content_cut : (bytes : List ℕ) (long : ℕ) → AreBytes bytes → length bytes < long → IsCutThing (SomeOf (ContentOf long)) bytes parts.Content
content_cut bytes long small short =
    let missing = missing_of (length bytes) long short in
    let next = content_next bytes long missing.0 small missing.1 in
    record { on = next_unfinished (SomeOf (ContentOf long)) (once_of (ContentOf long) (content_once long)) [] bytes parts.Content next; next = next }

some_content : (n : ℕ) → ContentOf n (replicate n 0) (mark parts.Content (replicate n 0))
some_content n = record {
  length_is = length-replicate n 0;
  bytes = All-replicate (λ (byte : ℕ). byte < 256) n 0 (omega arith);
  spelled = refl;
}

-- ---- with their length

pub runs_once : (long : Part) → AreOnce (RunOf long)
runs_once long c d t u a b = agree_string long parts.Content c d t u a.spelled b.spelled

abbrev pub Length : Part → ℕ → Text → Type 0
Length long n t = NumberOf long greatest n t

abbrev IsLengthThen : Part → Text → Type 0
IsLengthThen long t = SomeThen (Length long) (λ (n : ℕ). SomeOf (ContentOf n)) t

number_small : (n : ℕ) (w : Width) → n < limit_of w → n ≤ greatest
number_small n One h = omega (arith, h)
number_small n Two h = omega (arith, h)
number_small n Four h = omega (arith, h)
number_small n Eight h = omega (arith, h)

run_of : (long : Part) (t : Text) → IsLengthThen long t → SomeOf (RunOf long) t
run_of long t (n, (x, y, number, (c, content), e)) = (
  c,
  record {
    bytes = content.bytes;
    spelled = (x, y, subst (λ (k : ℕ). IsNumber long k x) (sym content.length_is) number.spelled, content.spelled, e);
  },
)

of_run : (long : Part) (t : Text) → SomeOf (RunOf long) t → IsLengthThen long t
of_run long t (c, run) =
    let s = run.spelled in
    (length c, (s.0, s.1, record { valid = number_small (length c) s.2.width s.2.fits; spelled = s.2 }, (c, record { length_is = refl; bytes = run.bytes; spelled = s.3 }), s.4))

length_same : (long : Part) → Same (IsLengthThen long) (SomeOf (RunOf long))
length_same long = record { on = run_of long; back = of_run long }

after_length : (long : Part) → Follows (Length long) (λ (n : ℕ). SomeOf (ContentOf n))
after_length long n t h = (mark parts.Content (replicate n 0), (replicate n 0, some_content n))

length_once : (long : Part) → IsOnce (IsLengthThen long)
length_once long t u a b = once_of (RunOf long) (runs_once long) t u (run_of long t a) (run_of long u b)

pub length_stops : (long : Part) (bytes : List ℕ) (stop : Stop) → StopsThing (SomeOf (Length long)) (SomeOf (Length long)) bytes stop → StopsThing (SomeOf (RunOf long)) (SomeOf (RunOf long)) bytes stop
length_stops long bytes stop h =
    thing_same (IsLengthThen long) (SomeOf (RunOf long)) (IsLengthThen long) (SomeOf (RunOf long)) (length_same long) (length_same long) bytes stop
    (thing_then (Length long) (λ (n : ℕ). SomeOf (ContentOf n)) (Length long) (λ (n : ℕ). SomeOf (ContentOf n)) (numbers_once long greatest) (numbers_once long greatest)
    (after_length long) (after_length long) (λ n t s. s) (length_once long) bytes stop h)

-- the bytes of the content are cut behind their length
pub content_stops : (long : Part) (front rest : List ℕ) (n : ℕ) → IsText (Length long n) front → IsCutThing (SomeOf (ContentOf n)) rest parts.Content
    → IsCutThing (SomeOf (RunOf long)) (front ++ rest) parts.Content
content_stops long front rest n whole cut =
    let next = (context_behind (Length long) (λ (k : ℕ). SomeOf (ContentOf k)) (numbers_once long greatest) n front whole).next rest parts.Content cut.next in
    let mapped : IsNext (SomeOf (RunOf long)) (front ++ rest) parts.Content = record {
      before = next.before;
      byte = next.byte;
      after = next.after;
      spelled = run_of long _ next.spelled;
      begins = next.begins;
    } in
    record { on = next_unfinished (SomeOf (RunOf long)) (once_of (RunOf long) (runs_once long)) [] (front ++ rest) parts.Content mapped; next = mapped }

pub run_ends : (long : Part) (bytes : List ℕ) (taken n : ℕ) (content : List ℕ) → Ends (Length long n) [] bytes taken → Ends (ContentOf n content) [] (drop taken bytes) n
    → Ends (RunOf long content) [] bytes (taken + length content)
run_ends long bytes taken n content number run =
    let on : (t : Text) → (Length long n then ContentOf n content) t → RunOf long content t = λ t s. record {
      bytes = s.3.bytes;
      spelled = (s.0, s.1, subst (λ (k : ℕ). IsNumber long k s.0) (sym s.3.length_is) s.2.spelled, s.3.spelled, s.4);
    } in
    subst (λ (k : ℕ). Ends (RunOf long content) [] bytes (taken + k)) (sym run.whole.spelled.length_is)
    (ends_same (Length long n then ContentOf n content) (RunOf long content) on bytes (taken + n) (ends_then (Length long n) (ContentOf n content) bytes taken n number run))

-- content with its length has more bytes than without
pub run_long : (long : Part) (c bytes : List ℕ) (n : ℕ) → Ends (RunOf long c) [] bytes n → length c < n
run_long long c bytes n h =
    let s = h.whole.spelled.spelled in
    let marked : length s.1 ≡ length c = ap length s.3 ∙ length-mark parts.Content c in
    omega (
      arith,
      number_nonempty long (length c) s.0 s.2,
      marked,
      ap length s.4,
      length-append s.0 s.1,
      length-map h.whole.text (λ (b : Part × ℕ). b.1),
      ap length h.whole.same,
      length-take n bytes,
      h.within,
    )

-- ---- as content of known length

known_same : Same (SomeOf (RunOf parts.ContentLength)) (SomeOf (BodyOf Known))
known_same = record {
  on = λ t h. (h.0, record { bytes = h.1.bytes; spelled = h.1.spelled });
  back = λ t h. (h.0, record { bytes = h.1.bytes; spelled = h.1.spelled });
}

pub known_stops : (bytes : List ℕ) (stop : Stop) → StopsThing (SomeOf (RunOf parts.ContentLength)) (SomeOf (RunOf parts.ContentLength)) bytes stop
    → StopsThing (SomeOf (BodyOf Known)) (SomeOf (BodyOf Known)) bytes stop
known_stops bytes stop h =
    thing_same (SomeOf (RunOf parts.ContentLength)) (SomeOf (BodyOf Known)) (SomeOf (RunOf parts.ContentLength)) (SomeOf (BodyOf Known)) known_same known_same bytes stop h

pub known_ends : (c d bytes : List ℕ) (n : ℕ) → d ≡ c → Ends (RunOf parts.ContentLength c) [] bytes n → Ends (BodyOf Known d) [] bytes n
known_ends c d bytes n e h =
    subst (λ (x : List ℕ). Ends (BodyOf Known x) [] bytes n) (sym e)
    (ends_same (RunOf parts.ContentLength c) (BodyOf Known c) (λ t s. record { bytes = s.bytes; spelled = s.spelled }) bytes n h)
