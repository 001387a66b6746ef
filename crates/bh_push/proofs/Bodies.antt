-- Content that is read in pieces: a byte, a run, and the whole piece.
use Rattle.std.proofs.Common.{◌≡◌, ◌<◌, ◌≤◌, ◌+◌, ◌-◌, ℕ, zero, suc, List, [], ◌∷◌, ◌++◌, length, take, drop, map, min, replicate, get_or, refl, sym, ap, subst, ◌∙◌, append-nil, inl, inr, arith}
use Rattle.std.proofs.lemmas.List.{length-replicate, length-drop, length-take-le, take-append-drop}
use Rattle.std.proofs.lemmas.List.Elements.{All-nil, All-cons}
use Rattle.std.proofs.lemmas.Bool.{cases_lt}
use Rattle.std.proofs.Math.Seq.{take-add}
use Rattle.bh_spec.specs.declared.Form.{Form}
use Rattle.bh_spec.specs.declared.Form.TheVariants.{Known, Indeterminate}
use Rattle.bh_spec.specs.declared.Omitted.TheVariants.{Trailers, Both}
use Rattle.bh_spec.specs.declared.Part.{Part}
use Rattle.bh_spec.specs.declared.Part.TheVariants as parts
use Rattle.bh_spec.specs.declared.Width.{Width}
use Rattle.bh_spec.specs.declared.Width.TheVariants.{One}
use Rattle.bh_spec.specs.Bounds.{Bounds, no_bounds}
use Rattle.bh_spec.specs.Bytes.{AreBytes}
use Rattle.bh_spec.specs.Integers.{limit_of, byte_count, IsAllowed, SomeBegins}
use Rattle.bh_spec.specs.Texts.{Text, mark, bytes_of}
use Rattle.bh_spec.specs.Pieces.{SomeOf, CanBecome, IsNext, IsDead}
use Rattle.bh_spec.proofs.Pieces.{next_taken, all_taken}
use Rattle.bh_spec.proofs.Widths.{fits_greatest}
use Rattle.bh_varint.specs.Step.{IsWhole, IsUnfinished}
use Rattle.bh_varint.proofs.Reading.{unfinished_nil}
use Rattle.bh_varint.proofs.Numbers.{number_dead, number_opens, begins_nil}
use Rattle.bh_spec.specs.Items.{Item, content_byte, ending}
use Rattle.bh_spec.specs.Residuals.{IsResidual, IsStep, HasSame}
use Rattle.bh_spec.proofs.Residuals.{residual_here, residual_on, residual_bytes, residual_step, same_of}
use Rattle.bh_push.specs.Completing.{AfterContent, AfterRun, BodyRest, ContentRest, TailRest}
use Rattle.bh_push.specs.Decoders.{At, Rest, in_length, in_content, length_part, IsBehindContent}
use Rattle.bh_push.specs.Bodies.{any_length, at_of, phase_behind, phase_of, IsBegun, IsBody, IsCounting, Goes, Stops, Becomes, IsContent}
use Rattle.bh_push.specs.declared.body.Phase.{Phase}
use Rattle.bh_push.specs.declared.body.Phase.TheVariants as phases
use Rattle.bh_push.proofs.Tails.{bytes_front}
use Rattle.bh_push.proofs.Contents.{bytes_behind, AfterLength, LengthRest, IsByte, body_to, body_from, length_part_is, length_more, length_whole, content_run, run_over, over_run, none_follows, follows_none, some_follow, follow_some}

-- ---- a byte of a length

-- where nothing may follow too, a byte does what it does where something follows
head_step : (K : Bounds) (form : Form) (part : Part) (byte : ℕ) (S : List Item → Text → Type 0) → IsStep (BodyRest K form) part byte (λ q. q) S → IsStep (TailRest K form) part byte (λ q. q) S
head_step K form part byte S h = record {
  part_is = λ q other t r. part_is q other t r;
  forth = λ q t r. forth q t r;
  back = λ q t s. inr (h.back q t s);
}
  where
    part_is : (q : List Item) (other : Part) (t : Text) → TailRest K form q ((other, byte) ∷ t) → other ≡ part
    part_is q other t (inl e) = absurd (let none : (other, byte) ∷ t ≡ [] = e.1 in cc)
    part_is q other t (inr b) = h.part_is q other t b

    forth : (q : List Item) (t : Text) → TailRest K form q ((part, byte) ∷ t) → (p : List Item) × (q ≡ p) × S p t
    forth q t (inl e) = absurd (let none : (part, byte) ∷ t ≡ [] = e.1 in cc)
    forth q t (inr b) = h.forth q t b

pub step_same : (R S T : List Item → Text → Type 0) (part : Part) (byte : ℕ) → IsStep R part byte (λ q. q) S → ((q : List Item) (t : Text) → S q t → T q t)
    → ((q : List Item) (t : Text) → T q t → S q t) → IsStep R part byte (λ q. q) T
step_same R S T part byte h to from = record {
  part_is = h.part_is;
  forth = λ q t r. let f = h.forth q t r in (f.0, f.1, to f.0 t f.2);
  back = λ q t s. h.back q t (from q t s);
}

-- a step from the phase, by that of a length
from_phase : (K : Bounds) (phase : Phase) (form : Form) (number : List ℕ) (byte : ℕ) (S : List Item → Text → Type 0) → IsBody phase number → IsCounting phase
    → IsStep (LengthRest K form number) (length_part form) byte (λ q. q) S → IsStep (Rest K (at_of phase form number)) (length_part form) byte (λ q. q) S
from_phase K phases.Head form number byte S b c h =
    head_step K form (length_part form) byte S (subst (λ (x : List ℕ). IsStep (LengthRest K form x) (length_part form) byte (λ q. q) S) b h)
from_phase K phases.Length form number byte S b c h = h
from_phase K (phases.Run missing) form number byte S b c h = absurd c
from_phase K phases.Over form number byte S b c h = absurd c

pub goes_more : (phase : Phase) (form : Form) (number : List ℕ) (byte : ℕ) → IsBody phase number → IsCounting phase → IsUnfinished number
    → Goes (at_of phase form number) byte (in_length form (number ++ byte ∷ []))
goes_more phase form number byte b c un K =
    residual_step (Rest K (at_of phase form number)) (length_part form) byte (λ q. q) (LengthRest K form (number ++ byte ∷ []))
    (from_phase K phase form number byte (LengthRest K form (number ++ byte ∷ [])) b c (length_more K form number byte un))

pub goes_value : (phase : Phase) (form : Form) (number kept : List ℕ) (byte n : ℕ) (w : Width) → IsBody phase number → IsCounting phase → IsUnfinished number
    → IsWhole any_length (number ++ byte ∷ []) n w → Goes (at_of phase form number) byte (at_of (phase_of n) form kept)
goes_value phase form number kept byte zero w b c un whole K =
    residual_step (Rest K (at_of phase form number)) (length_part form) byte (λ q. q) (AfterContent K form)
    (from_phase K phase form number byte (AfterContent K form) b c
    (step_same (LengthRest K form number) (λ q t. AfterLength K form q 0 (byte_count w) t) (AfterContent K form) (length_part form) byte
    (length_whole K form any_length number byte 0 w un whole)
    (λ q t h. none_follows K form (byte_count w) q t h) (λ q t h. follows_none K form (byte_count w) q t h)))
goes_value phase form number kept byte (suc n) w b c un whole K =
    residual_step (Rest K (at_of phase form number)) (length_part form) byte (λ q. q) (ContentRest K form (suc n))
    (from_phase K phase form number byte (ContentRest K form (suc n)) b c
    (step_same (LengthRest K form number) (λ q t. AfterLength K form q (suc n) (byte_count w) t) (ContentRest K form (suc n)) (length_part form) byte
    (length_whole K form any_length number byte (suc n) w un whole)
    (λ q t h. some_follow K form (suc n) (byte_count w) (omega arith) q t h) (λ q t h. follow_some K form (suc n) (byte_count w) (omega arith) q t h)))

-- each number is allowed
only_length : (n : ℕ) (w : Width) → n < limit_of w → IsAllowed any_length (byte_count w) n
only_length n w h = inr ((omega arith, fits_greatest w n h), tt)

-- no length has the byte
none_has : (K : Bounds) (phase : Phase) (form : Form) (number : List ℕ) (byte : ℕ) → IsBody phase number → IsCounting phase → IsUnfinished number
    → (SomeBegins any_length (number ++ byte ∷ []) → ⊥) → (q : List Item) (other : Part) (t : Text) → Rest K (at_of phase form number) q ((other, byte) ∷ t) → ⊥
none_has K phases.Head form number byte b c un dead q other t (inl e) = absurd (let none : (other, byte) ∷ t ≡ [] = e.1 in cc)
none_has K phases.Head form number byte b c un dead q other t (inr r) =
    let rest : LengthRest K form number q ((other, byte) ∷ t) = subst (λ (x : List ℕ). LengthRest K form x q ((other, byte) ∷ t)) (sym b) r in
    let named = length_part_is K form number un q other byte t rest in
    number_dead (length_part form) (AfterLength K form q) any_length number byte t un (λ n w y h body. only_length n w h) dead
    (body_to K form q (mark (length_part form) number ++ ((length_part form, byte) ∷ t)) (subst (λ (p : Part). LengthRest K form number q ((p, byte) ∷ t)) named rest))
none_has K phases.Length form number byte b c un dead q other t r =
    let named = length_part_is K form number un q other byte t r in
    number_dead (length_part form) (AfterLength K form q) any_length number byte t un (λ n w y h body. only_length n w h) dead
    (body_to K form q (mark (length_part form) number ++ ((length_part form, byte) ∷ t)) (subst (λ (p : Part). LengthRest K form number q ((p, byte) ∷ t)) named r))
none_has K (phases.Run missing) form number byte b c un dead q other t r = absurd c
none_has K phases.Over form number byte b c un dead q other t r = absurd c

pub stops : (phase : Phase) (form : Form) (number : List ℕ) (byte : ℕ) → IsBody phase number → IsCounting phase → IsUnfinished number
    → (SomeBegins any_length (number ++ byte ∷ []) → ⊥) → Stops (at_of phase form number) byte
stops phase form number byte b c un dead K h = at h.text h.spelled.1 h.begins
  where
    at : (t : Text) → Rest K (at_of phase form number) h.spelled.0 t → bytes_of t ≡ (byte ∷ []) ++ h.after → ⊥
    at [] r e = absurd cc
    at ((other, value) ∷ t) r e =
        let same : value ≡ byte = cc in
        none_has K phase form number byte b c un dead h.spelled.0 other t (subst (λ (v : ℕ). Rest K (at_of phase form number) h.spelled.0 ((other, v) ∷ t)) same r)

-- ---- something completes each phase

-- something behind a run
pub record Some (R : List Item → Text → Type 0) : Type 0 where
  pub items : List Item
  pub text : Text
  pub rest : R items text

over_some : (L : Bounds) (form : Form) → Some (AfterContent L form)
over_some L form = record { items = ending Trailers 0 ∷ []; text = []; rest = inl (refl, refl) }

pub zeros : (n : ℕ) → AreBytes (replicate n 0)
zeros zero = All-nil IsByte
zeros (suc n) = All-cons IsByte 0 (replicate n 0) (omega arith) (zeros n)

pub after_some : (L : Bounds) (form : Form) → Some (AfterRun L form)
after_some L Known = over_some L Known
after_some L Indeterminate = record {
  items = ending Trailers 0 ∷ [];
  text = (parts.ChunkLength, 0) ∷ [];
  rest = body_from L Indeterminate (ending Trailers 0 ∷ []) ((parts.ChunkLength, 0) ∷ [])
      (record { number = 0; width = One; behind = []; fits = omega arith; spelled = refl; body = inl (refl, inl (refl, refl)) });
}

pub run_some : (L : Bounds) (form : Form) (n : ℕ) → Some (ContentRest L form n)
run_some L form n =
    let a = after_some L form in
    record {
      items = map content_byte (replicate n 0) ++ a.items;
      text = mark parts.Content (replicate n 0) ++ a.text;
      rest = record {
        thing = replicate n 0;
        text = mark parts.Content (replicate n 0);
        rest = a.text;
        more = a.items;
        spelled = record { length_is = length-replicate n 0; bytes_are = zeros n; spelled = refl };
        behind = a.rest;
        items = refl;
        joined = refl;
      };
    }

length_some : (L : Bounds) (form : Form) (n width : ℕ) → Some (λ q t. AfterLength L form q n width t)
length_some L form zero width = let a = over_some L form in record { items = a.items; text = a.text; rest = follows_none L form width a.items a.text a.rest }
length_some L form (suc n) width =
    let a = run_some L form (suc n) in
    record { items = a.items; text = a.text; rest = follow_some L form (suc n) width (omega arith) a.items a.text a.rest }

-- a length that was begun goes on with a byte of its part
pub begun_opens : (L : Bounds) (form : Form) (number : List ℕ) → IsBegun number → (byte : ℕ) × Some (λ q t. LengthRest L form number q ((length_part form, byte) ∷ t))
begun_opens L form number b =
    let o = number_opens (length_part form) (AfterLength L form) any_length number (λ n w a h. let s = length_some L form n (byte_count w) in (s.items, s.text, s.rest)) b.unfinished b.live in (
      o.1,
      record { items = o.0; text = o.2; rest = body_from L form o.0 (mark (length_part form) number ++ ((length_part form, o.1) ∷ o.2)) o.3 },
    )

pub open_at : (L : Bounds) (phase : Phase) (form : Form) (number : List ℕ) → IsBody phase number → CanBecome (SomeOf (Rest L (at_of phase form number))) []
open_at L phases.Head form number b = record { text = []; after = []; spelled = (ending Both 0 ∷ [], inl (refl, refl)); begins = refl }
open_at L phases.Length form number b =
    let o = begun_opens L form number b in
    let t : Text = (length_part form, o.0) ∷ o.1.text in
    record { text = t; after = bytes_of t; spelled = (o.1.items, o.1.rest); begins = refl }
open_at L (phases.Run missing) form number b =
    let s = run_some L form missing in
    record { text = s.text; after = bytes_of s.text; spelled = (s.items, s.rest); begins = refl }
open_at L phases.Over form number b =
    let s = over_some L form in
    record { text = s.text; after = bytes_of s.text; spelled = (s.items, s.rest); begins = refl }

-- ---- a piece

pub becomes_here : (v : At) → ((L : Bounds) → CanBecome (SomeOf (Rest L v)) []) → Becomes v [] [] v
becomes_here v open' L = record { within = residual_here (Rest L v); anyway = residual_here (Rest no_bounds v); goes_on = open' L }

one_more : (K : Bounds) (v w u : At) (piece : List ℕ) (i : ℕ) → i < length piece → IsResidual (Rest K v) (take i piece) (λ q. q) (Rest K w) → Goes w (get_or piece i 0) u
    → IsResidual (Rest K v) (take (i + 1) piece) (λ q. q) (Rest K u)
one_more K v w u piece i h r g =
    residual_bytes (Rest K v) (take i piece ++ get_or piece i 0 ∷ []) (take (i + 1) piece) (λ q. q) (Rest K u) (next_taken (take i piece) [] piece i refl h)
    (residual_on (Rest K v) (take i piece) (λ q. q) (Rest K w) (get_or piece i 0 ∷ []) (λ q. q) (Rest K u) r (g K))

pub becomes_on : (v w u : At) (piece : List ℕ) (i : ℕ) → i < length piece → Becomes v (take i piece) [] w → Goes w (get_or piece i 0) u
    → ((L : Bounds) → CanBecome (SomeOf (Rest L u)) []) → Becomes v (take (i + 1) piece) [] u
becomes_on v w u piece i h b g open' L = record {
  within = one_more L v w u piece i h (b L).within g;
  anyway = one_more no_bounds v w u piece i h (b L).anyway g;
  goes_on = open' L;
}

pub becomes_all : (v w : At) (piece : List ℕ) (i : ℕ) → i ≤ length piece → length piece ≤ i → Becomes v (take i piece) [] w → Becomes v piece [] w
becomes_all v w piece i g h b = subst (λ (x : List ℕ). Becomes v x [] w) (all_taken (take i piece) [] piece i refl g h) b

-- the next byte of a length has its part
pub next_at : (L : Bounds) (phase : Phase) (form : Form) (number : List ℕ) → IsBody phase number → IsCounting phase → IsNext (SomeOf (Rest L (at_of phase form number))) [] (length_part form)
next_at L phases.Head form number b c =
    let o = begun_opens L form [] (record { live = begins_nil any_length 0 One (omega arith) (only_length 0 One (omega arith)); unfinished = unfinished_nil }) in
    record { before = []; byte = o.0; after = o.1.text; spelled = (o.1.items, inr o.1.rest); begins = refl }
next_at L phases.Length form number b c =
    let o = begun_opens L form number b in
    record { before = []; byte = o.0; after = o.1.text; spelled = (o.1.items, o.1.rest); begins = refl }
next_at L (phases.Run missing) form number b c = absurd c
next_at L phases.Over form number b c = absurd c

pub dead_says : (v : At) (phase : Phase) (form : Form) (number : List ℕ) (piece : List ℕ) (i : ℕ) → i < length piece → IsBody phase number → IsCounting phase
    → Becomes v (take i piece) [] (at_of phase form number) → Stops (at_of phase form number) (get_or piece i 0)
    → (L : Bounds) → IsDead (SomeOf (Rest L v)) (SomeOf (Rest no_bounds v)) [] piece i (length_part form)
dead_says v phase form number piece i h body c b none L = dead L
  where
    w : At
    w = at_of phase form number

    same : (K : Bounds) → IsResidual (Rest K v) (take i piece) (λ q. q) (Rest K w) → HasSame (SomeOf (Rest K v)) (SomeOf (Rest K w)) (take i piece)
    same K r = same_of (Rest K v) (take i piece) (λ q. q) (Rest K w) r

    stop : (K : Bounds) → IsResidual (Rest K v) (take i piece) (λ q. q) (Rest K w) → CanBecome (SomeOf (Rest K v)) (take (i + 1) piece) → ⊥
    stop K r x =
        none K (((same K r).becomes (get_or piece i 0 ∷ [])).0 (subst (CanBecome (SomeOf (Rest K v))) (sym (next_taken (take i piece) [] piece i refl h)) x))

    dead : (L : Bounds) → IsDead (SomeOf (Rest L v)) (SomeOf (Rest no_bounds v)) [] piece i (length_part form)
    dead L = record {
      refused = record {
        inside = h;
        next = subst (λ (x : List ℕ). IsNext (SomeOf (Rest L v)) x (length_part form)) (append-nil (take i piece))
            (((same L (b L).within).next [] (length_part form)).1 (next_at L phase form number body c));
        after = stop L (b L).within;
      };
      anyway = stop no_bounds (b L).anyway;
    }

-- ---- a run of content

-- behind a run the next phase says what follows
run_behind : (K : Bounds) (form : Form) (m : ℕ) (number : List ℕ) → number ≡ [] → (q : List Item) (t : Text) → ContentRest K form m q t → Rest K (at_of (phase_behind form m) form number) q t
run_behind K Known zero number e q t h = run_over K Known q t h
run_behind K Indeterminate zero number e q t h = subst (λ (x : List ℕ). LengthRest K Indeterminate x q t) (sym e) (run_over K Indeterminate q t h)
run_behind K Known (suc m) number e q t h = h
run_behind K Indeterminate (suc m) number e q t h = h

behind_run : (K : Bounds) (form : Form) (m : ℕ) (number : List ℕ) → number ≡ [] → (q : List Item) (t : Text) → Rest K (at_of (phase_behind form m) form number) q t → ContentRest K form m q t
behind_run K Known zero number e q t h = over_run K Known q t h
behind_run K Indeterminate zero number e q t h = over_run K Indeterminate q t (subst (λ (x : List ℕ). LengthRest K Indeterminate x q t) e h)
behind_run K Known (suc m) number e q t h = h
behind_run K Indeterminate (suc m) number e q t h = h

run_residual : (K : Bounds) (form : Form) (x : List ℕ) (m : ℕ) (number : List ℕ) → number ≡ [] → AreBytes x
    → IsResidual (Rest K (in_content form (length x + m))) x (λ q. map content_byte x ++ q) (Rest K (at_of (phase_behind form m) form number))
run_residual K form x m number e small =
    let r = content_run K form x m small in
    record {
      text = r.text;
      same = r.same;
      forth = λ q u more h f.
          let p = r.forth q u more h f in
          record { thing = p.thing; rest = p.rest; spelled = run_behind K form m number e p.thing p.rest p.spelled; same = p.same; joined = p.joined };
      back = λ q t h. r.back q t (behind_run K form m number e q t h);
    }

pub body_behind : (form : Form) (m : ℕ) (number : List ℕ) → number ≡ [] → IsBody (phase_behind form m) number
body_behind Known zero number e = tt
body_behind Indeterminate zero number e =
    subst IsBegun (sym e) (record { live = begins_nil any_length 0 One (omega arith) (only_length 0 One (omega arith)); unfinished = unfinished_nil })
body_behind Known (suc m) number e = (omega arith, e)
body_behind Indeterminate (suc m) number e = (omega arith, e)

pub run_right : (form : Form) (m : ℕ) (number : List ℕ) → number ≡ [] → IsBehindContent (at_of (phase_behind form m) form number)
run_right Known zero number e = inr (inl refl)
run_right Indeterminate zero number e = inr (inr (ap (in_length Indeterminate) e))
run_right Known (suc m) number e = inl (Known, suc m, omega arith, refl)
run_right Indeterminate (suc m) number e = inl (Indeterminate, suc m, omega arith, refl)

pub body_of : (n : ℕ) (number : List ℕ) → number ≡ [] → IsBody (phase_of n) number
body_of zero number e = tt
body_of (suc n) number e = (omega arith, e)

-- no content is missing at the end of a run
none_missing : (form : Form) (number : List ℕ) (m : ℕ) → m ≡ 0 → (other : Form) (missing : ℕ) → at_of (phase_behind form m) form number ≡ in_content other missing → ⊥
none_missing Known number zero z other missing e = cc
none_missing Indeterminate number zero z other missing e = cc
none_missing form number (suc m) z other missing e = omega (arith, z)

pub content_says : (v : At) (form : Form) (missing : ℕ) (number : List ℕ) (piece bytes : List ℕ) (i : ℕ) → i < length piece → 0 < missing → number ≡ [] → AreBytes bytes
    → bytes ≡ take (min missing (length (drop i piece))) (drop i piece) → Becomes v (take i piece) [] (in_content form missing)
    → IsContent v piece (i + length bytes) bytes (at_of (phase_behind form (missing - length bytes)) form number)
content_says v form missing number piece bytes i h some e small cut b = record {
  inside = omega (arith, long, left);
  some = omega (arith, long, left);
  ends = (take i piece, joined);
  becomes = λ L. record {
    within = at L (b L).within;
    anyway = at no_bounds (b L).anyway;
    goes_on = open_at L (phase_behind form m) form number (body_behind form m number e);
  };
  all = elim (cases_lt (length bytes) missing) [
    | inl lt ↦ inl (omega (arith, long, left))
    | inr ge ↦ inr (none_missing form number m (omega arith))
  ];
}
  where
    m : ℕ
    m = missing - length bytes

    left : length (drop i piece) ≡ length piece - i
    left = length-drop i piece

    long : length bytes ≡ min missing (length (drop i piece))
    long = ap length cut ∙ length-take-le (min missing (length (drop i piece))) (drop i piece) (omega arith)

    joined : take (i + length bytes) piece ≡ take i piece ++ bytes
    joined = take-add i (length bytes) piece ∙ ap (λ (x : List ℕ). take i piece ++ x) (ap (λ (k : ℕ). take k (drop i piece)) long ∙ sym cut)

    sum : length bytes + m ≡ missing
    sum = omega (arith, long)

    at : (K : Bounds) → IsResidual (Rest K v) (take i piece) (λ q. q) (Rest K (in_content form missing))
        → IsResidual (Rest K v) (take (i + length bytes) piece) (λ q. map content_byte bytes ++ q) (Rest K (at_of (phase_behind form m) form number))
    at K r =
        residual_bytes (Rest K v) (take i piece ++ bytes) (take (i + length bytes) piece) (λ q. map content_byte bytes ++ q) (Rest K (at_of (phase_behind form m) form number)) (sym joined)
        (residual_on (Rest K v) (take i piece) (λ q. q) (Rest K (in_content form missing)) bytes (λ q. map content_byte bytes ++ q) (Rest K (at_of (phase_behind form m) form number)) r
        (subst (λ (n : ℕ). IsResidual (Rest K (in_content form n)) bytes (λ q. map content_byte bytes ++ q) (Rest K (at_of (phase_behind form m) form number))) sum
        (run_residual K form bytes m number e small)))

-- ---- what the code knows

pub run_known : (phase : Phase) (missing : ℕ) (number : List ℕ) → phase ≡ phases.Run missing → IsBody phase number → (0 < missing) × (number ≡ [])
run_known phase missing number e b = subst (λ (x : Phase). IsBody x number) e b

pub counting : (phase : Phase) → (phase ≡ phases.Over → ⊥) → ((missing : ℕ) → phase ≡ phases.Run missing → ⊥) → IsCounting phase
counting phases.Head a b = tt
counting phases.Length a b = tt
counting (phases.Run missing) a b = absurd (b missing refl)
counting phases.Over a b = absurd (a refl)

pub cut_bytes : (piece : List ℕ) (i k : ℕ) → AreBytes piece → AreBytes (take k (drop i piece))
cut_bytes piece i k h =
    let back : AreBytes (drop i piece) = bytes_behind (take i piece) (drop i piece) (subst AreBytes (sym (take-append-drop i piece)) h) in
    bytes_front (take k (drop i piece)) (drop k (drop i piece)) (subst AreBytes (sym (take-append-drop k (drop i piece))) back)
