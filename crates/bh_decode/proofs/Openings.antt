-- Interim responses, one after the other, and the final status.
use Rattle.std.proofs.Common.{◌≡◌, ◌<◌, ◌≤◌, ◌+◌, ℕ, suc, List, [], ◌∷◌, ◌++◌, length, take, drop, map, All, Option, None, refl, sym, ap, ap₂, subst, ◌∙◌, append_assoc, append-nil, arith}
use Rattle.bh_spec.specs.declared.Part.{Part}
use Rattle.bh_spec.specs.declared.Part.TheVariants as parts
use Rattle.bh_spec.specs.declared.Form.{Form}
use Rattle.bh_spec.specs.Bounds.{Bounds, IsWithin, no_bounds}
use Rattle.std.proofs.lemmas.List.{length-append, length-drop, length-map, length-take, map-append}
use Rattle.std.proofs.lemmas.List.Elements.{All-nil, All-push}
use Rattle.bh_spec.specs.Messages.{Field, Interim, IsInterim}
use Rattle.bh_spec.specs.Spelling.{IsInterimText}
use Rattle.bh_spec.specs.Texts.{Text, bytes_of, ◌then◌, AreEach}
use Rattle.bh_spec.proofs.Sections.{number_nonempty}
use Rattle.bh_spec.proofs.Marks.{bytes_of-append}
use Rattle.bh_model.specs.declared.informational.Interim as held
use Rattle.bh_model.specs.Values.{interim_of, IsEnded, AreEnded}
use Rattle.bh_model.specs.declared.field.Place.TheVariants.{Header}
use Rattle.bh_fields.specs.Sections.{SectionOf}
use Rattle.bh_spec.specs.Pieces.{SomeOf, IsText, Ends}
use Rattle.bh_control.specs.Statuses.{StatusOf}
use Rattle.bh_decode.specs.declared.stop.Stop.{Stop}
use Rattle.bh_decode.specs.declared.fault.Fault.{Fault}
use Rattle.bh_decode.specs.declared.fault.Fault.TheVariants as faults
use Rattle.bh_decode.specs.declared.opening.ResponsePart.{ResponsePart}
use Rattle.bh_decode.specs.declared.opening.ResponsePart.TheVariants as found
use Rattle.bh_decode.specs.Responses.{ResponsePartIs, OpeningOf}
use Rattle.bh_decode.specs.Grammar.{IsResponseText, IsAfterStart, status_left, AfterStatus}
use Rattle.bh_decode.specs.Stops.{Stops, StopsThing, stop_behind, fault_behind, AtStop}
use Rattle.bh_decode.proofs.Contexts.{Context, context_here, context_on, SomeThen}
use Rattle.bh_decode.proofs.Fronts.{split_more}
use Rattle.bh_spec.proofs.Within.{zero_within}
use Rattle.bh_decode.proofs.Grammars.{section_once, status_once, one_more, one_before}
use Rattle.bh_decode.proofs.Heads.{}
use Rattle.bh_decode.proofs.Phases.{IsInterimRest, behind_final, behind_interim_status, behind_interim, stops_then}
use Rattle.bh_decode.proofs.Stopped.{Same, stops_same}
use Rattle.bh_decode.proofs.Following.{sections_anyway, status_anyway, after_status, after_interim, one_left}
use Rattle.bh_decode.proofs.Tails.{stops_there}

response_same : (L : Bounds) (form : Form) (k : ℕ) → IsWithin L.interims k → Same (SomeThen (StatusOf (status_left L.interims k)) (AfterStatus L form k)) (IsResponseText L form k)
response_same L form k within = record { on = one_before L form k within; back = one_more L form k }

pub status_stop : (L : Bounds) (form : Form) (k : ℕ) (bytes : List ℕ) (stop : Stop) → IsWithin L.interims k
    → StopsThing (SomeOf (StatusOf (status_left L.interims k))) (SomeOf (StatusOf None)) bytes stop → Stops (IsResponseText L form k) (IsResponseText no_bounds form k) bytes stop
status_stop L form k bytes stop within h =
    stops_same (SomeThen (StatusOf (status_left L.interims k)) (AfterStatus L form k)) (IsResponseText L form k) (SomeThen (StatusOf None) (AfterStatus no_bounds form k)) (IsResponseText no_bounds form k)
    (response_same L form k within) (response_same no_bounds form k tt) bytes stop
    (stops_then (StatusOf (status_left L.interims k)) (AfterStatus L form k) (StatusOf None) (AfterStatus no_bounds form k)
    (status_once (status_left L.interims k)) (status_once None) (after_status L form k) (after_status no_bounds form k) (status_anyway (status_left L.interims k)) bytes stop h)

status_text_anyway : (left : Option ℕ) (status : ℕ) (bytes : List ℕ) → IsText (StatusOf left status) bytes → IsText (StatusOf None status) bytes
status_text_anyway left status bytes h = record { text = h.text; spelled = status_anyway left status h.text h.spelled; same = h.same }

pub interim_stop : (L : Bounds) (form : Form) (k status : ℕ) (bytes : List ℕ) (taken : ℕ) (stop : Stop) → IsWithin L.interims k → status < 200 → Ends (StatusOf (status_left L.interims k) status) [] bytes taken
    → StopsThing (SomeOf (SectionOf L form Header)) (SomeOf (SectionOf no_bounds form Header)) (drop taken bytes) stop → Stops (IsResponseText L form k) (IsResponseText no_bounds form k) bytes (stop_behind taken stop)
interim_stop L form k status bytes taken stop within small read h =
    let next = one_left L.interims k status read.whole.text read.whole.spelled small in
    let here : Stops (IsInterimRest L form k) (IsInterimRest no_bounds form k) (drop taken bytes) stop =
    stops_then (SectionOf L form Header) (λ (fs : List Field). IsResponseText L form (suc k)) (SectionOf no_bounds form Header) (λ (fs : List Field). IsResponseText no_bounds form (suc k))
    (section_once L form Header) (section_once no_bounds form Header) (after_interim L form k next) (after_interim no_bounds form k tt) (sections_anyway L form Header) (drop taken bytes) stop h in
    stops_there (IsResponseText L form k) (IsInterimRest L form k) (IsResponseText no_bounds form k) (IsInterimRest no_bounds form k) bytes taken 0 0 stop read.within
    (behind_interim_status L form k status (take taken bytes) within small read.whole)
    (behind_interim_status no_bounds form k status (take taken bytes) tt small (status_text_anyway (status_left L.interims k) status (take taken bytes) read.whole)) (omega arith) here

-- ---- what a reader knows between two interim responses

pub record Opened (L : Bounds) (form : Form) (interims : List held.Interim) (bytes : List ℕ) (taken : ℕ) : Type 0 where
  pub within : taken ≤ length bytes
  pub few : IsWithin L.interims (length interims)
  pub each : All IsInterim (map interim_of interims)
  pub ended : AreEnded interims
  pub text : Text
  pub spelled : AreEach (IsInterimText L form) (map interim_of interims) text
  pub same : bytes_of text ≡ take taken bytes
  pub here : Context (IsResponseText L form 0) (IsResponseText L form (length interims)) (take taken bytes) 0
  pub anyway : Context (IsResponseText no_bounds form 0) (IsResponseText no_bounds form (length interims)) (take taken bytes) 0

pub none_opened : (L : Bounds) (form : Form) (bytes : List ℕ) → Opened L form [] bytes 0
none_opened L form bytes = record {
  within = omega arith;
  few = zero_within L.interims;
  each = All-nil _;
  ended = All-nil _;
  text = [];
  spelled = refl;
  same = refl;
  here = context_here (IsResponseText L form 0);
  anyway = context_here (IsResponseText no_bounds form 0);
}

each_interim_push : (L : Bounds) (form : Form) (is : List Interim) (i : Interim) (t x : Text) → AreEach (IsInterimText L form) is t → IsInterimText L form i x → AreEach (IsInterimText L form) (is ++ i ∷ []) (t ++ x)
each_interim_push L form [] i t x h s = (x, [], s, refl, ap (λ (w : Text). w ++ x) h ∙ sym (append-nil x))
each_interim_push L form (j ∷ is) i t x h s = (h.0, h.1 ++ x, h.2, each_interim_push L form is i h.1 x h.3 s, ap (λ (w : Text). w ++ x) h.4 ∙ append_assoc h.0 h.1 x)

-- behind an interim response, whose bytes are those of its status and those of its section
behind_one : (L : Bounds) (form : Form) (k status : ℕ) (fields : List Field) (bytes : List ℕ) → IsWithin L.interims k → status < 200
    → IsText (StatusOf (status_left L.interims k) status then SectionOf L form Header fields) bytes → Context (IsResponseText L form k) (IsResponseText L form (suc k)) bytes 0
behind_one L form k status fields bytes within small h =
    let x = h.spelled.0 in
    let y = h.spelled.1 in
    let joined : bytes_of x ++ bytes_of y ≡ bytes = sym (bytes_of-append x y) ∙ sym (ap bytes_of h.spelled.4) ∙ h.same in
    subst (λ (z : List ℕ). Context (IsResponseText L form k) (IsResponseText L form (suc k)) z 0) joined
    (context_on (IsResponseText L form k) (IsInterimRest L form k) (IsResponseText L form (suc k)) (bytes_of x) (bytes_of y) 0 0 (omega arith)
    (behind_interim_status L form k status (bytes_of x) within small (record { text = x; spelled = h.spelled.2; same = refl }))
    (behind_interim L form k fields (bytes_of y) (record { text = y; spelled = h.spelled.3; same = refl })))

one_anyway : (L : Bounds) (form : Form) (k status : ℕ) (fields : List Field) (bytes : List ℕ) → IsText (StatusOf (status_left L.interims k) status then SectionOf L form Header fields) bytes
    → IsText (StatusOf None status then SectionOf no_bounds form Header fields) bytes
one_anyway L form k status fields bytes h = record {
  text = h.text;
  spelled = (
    h.spelled.0,
    h.spelled.1,
    status_anyway (status_left L.interims k) status h.spelled.0 h.spelled.2,
    sections_anyway L form Header fields h.spelled.1 h.spelled.3,
    h.spelled.4,
  );
  same = h.same;
}

pub opened_more : (L : Bounds) (form : Form) (interims : List held.Interim) (i : held.Interim) (bytes : List ℕ) (taken n : ℕ) → Opened L form interims bytes taken
    → ResponsePartIs L form (length interims) (drop taken bytes) (found.Interim i n) → Opened L form (interims ++ i ∷ []) bytes (taken + n)
opened_more L form interims i bytes taken n k h =
    let s = h.2 in
    let status = s.whole.spelled.2 in
    let next : IsWithin L.interims (suc (length interims)) = one_left L.interims (length interims) i.status s.whole.spelled.0 status h.0 in
    let count : suc (length interims) ≡ length (interims ++ i ∷ []) = omega (arith, length-append interims (i ∷ [])) in
    let pushed : map interim_of (interims ++ i ∷ []) ≡ map interim_of interims ++ interim_of i ∷ [] = map-append interim_of interims (i ∷ []) in
    let joined = sym (split_more bytes taken n k.within) in
    record {
      within = omega (arith, k.within, s.within, length-drop taken bytes);
      few = subst (IsWithin L.interims) count next;
      each = subst (All IsInterim) (sym pushed) (All-push IsInterim (map interim_of interims) (interim_of i) k.each (record { number = record { low = status.valid.low; high = omega (arith, h.0) }; fields = s.whole.spelled.3.1 }));
      ended = All-push (λ (j : held.Interim). IsEnded j.fields) interims i k.ended h.1;
      text = k.text ++ s.whole.text;
      spelled = subst (λ (is : List Interim). AreEach (IsInterimText L form) is (k.text ++ s.whole.text)) (sym pushed)
          (each_interim_push L form (map interim_of interims) (interim_of i) k.text s.whole.text k.spelled (s.whole.spelled.0, s.whole.spelled.1, status.spelled, s.whole.spelled.3.0, s.whole.spelled.4));
      same = bytes_of-append k.text s.whole.text ∙ ap₂ (λ (x y : List ℕ). x ++ y) k.same s.whole.same ∙ joined;
      here = subst (λ (x : List ℕ). Context (IsResponseText L form 0) (IsResponseText L form (length (interims ++ i ∷ []))) x 0) joined
          (subst (λ (m : ℕ). Context (IsResponseText L form 0) (IsResponseText L form m) (take taken bytes ++ take n (drop taken bytes)) 0) count
          (context_on (IsResponseText L form 0) (IsResponseText L form (length interims)) (IsResponseText L form (suc (length interims))) (take taken bytes) (take n (drop taken bytes)) 0 0 (omega arith)
          k.here (behind_one L form (length interims) i.status i.fields.lines (take n (drop taken bytes)) k.few h.0 s.whole)));
      anyway = subst (λ (x : List ℕ). Context (IsResponseText no_bounds form 0) (IsResponseText no_bounds form (length (interims ++ i ∷ []))) x 0) joined
          (subst (λ (m : ℕ). Context (IsResponseText no_bounds form 0) (IsResponseText no_bounds form m) (take taken bytes ++ take n (drop taken bytes)) 0) count
          (context_on (IsResponseText no_bounds form 0) (IsResponseText no_bounds form (length interims)) (IsResponseText no_bounds form (suc (length interims))) (take taken bytes) (take n (drop taken bytes)) 0 0 (omega arith)
          k.anyway (behind_one no_bounds form (length interims) i.status i.fields.lines (take n (drop taken bytes)) tt h.0 (one_anyway L form (length interims) i.status i.fields.lines (take n (drop taken bytes)) s.whole))));
    }

pub opening_whole : (L : Bounds) (form : Form) (interims : List held.Interim) (status : ℕ) (bytes : List ℕ) (taken n : ℕ) → Opened L form interims bytes taken
    → ResponsePartIs L form (length interims) (drop taken bytes) (found.Final status n) → Ends (OpeningOf L form (map interim_of interims) status) [] bytes (taken + n)
opening_whole L form interims status bytes taken n k h = record {
  within = omega (arith, k.within, h.1.within, length-drop taken bytes);
  whole = record {
    text = k.text ++ h.1.whole.text;
    spelled = record {
      each = k.each;
      few = subst (IsWithin L.interims) (sym (length-map interims interim_of)) k.few;
      final = record { low = h.0; high = h.1.whole.spelled.valid.high };
      spelled = (k.text, h.1.whole.text, k.spelled, h.1.whole.spelled.spelled, refl);
    };
    same = bytes_of-append k.text h.1.whole.text ∙ ap₂ (λ (x y : List ℕ). x ++ y) k.same h.1.whole.same ∙ sym (split_more bytes taken n k.within);
  };
}

pub opening_behind : (L : Bounds) (form : Form) (interims : List held.Interim) (status : ℕ) (bytes : List ℕ) (taken n : ℕ) → Opened L form interims bytes taken
    → ResponsePartIs L form (length interims) (drop taken bytes) (found.Final status n) → Context (IsResponseText L form 0) (IsAfterStart L form) (take (taken + n) bytes) 0
opening_behind L form interims status bytes taken n k h =
    subst (λ (x : List ℕ). Context (IsResponseText L form 0) (IsAfterStart L form) x 0) (sym (split_more bytes taken n k.within))
    (context_on (IsResponseText L form 0) (IsResponseText L form (length interims)) (IsAfterStart L form) (take taken bytes) (take n (drop taken bytes)) 0 0 (omega arith) k.here
    (behind_final L form (length interims) status (take n (drop taken bytes)) k.few h.0 h.1.whole))

pub opening_anyway : (L : Bounds) (form : Form) (interims : List held.Interim) (status : ℕ) (bytes : List ℕ) (taken n : ℕ) → Opened L form interims bytes taken
    → ResponsePartIs L form (length interims) (drop taken bytes) (found.Final status n) → Context (IsResponseText no_bounds form 0) (IsAfterStart no_bounds form) (take (taken + n) bytes) 0
opening_anyway L form interims status bytes taken n k h =
    subst (λ (x : List ℕ). Context (IsResponseText no_bounds form 0) (IsAfterStart no_bounds form) x 0) (sym (split_more bytes taken n k.within))
    (context_on (IsResponseText no_bounds form 0) (IsResponseText no_bounds form (length interims)) (IsAfterStart no_bounds form) (take taken bytes) (take n (drop taken bytes)) 0 0 (omega arith) k.anyway
    (behind_final no_bounds form (length interims) status (take n (drop taken bytes)) tt h.0 (status_text_anyway (status_left L.interims (length interims)) status (take n (drop taken bytes)) h.1.whole)))

opening_stop : (L : Bounds) (form : Form) (interims : List held.Interim) (bytes : List ℕ) (taken : ℕ) (stop : Stop) → Opened L form interims bytes taken
    → Stops (IsResponseText L form (length interims)) (IsResponseText no_bounds form (length interims)) (drop taken bytes) stop → Stops (IsResponseText L form 0) (IsResponseText no_bounds form 0) bytes (stop_behind taken stop)
opening_stop L form interims bytes taken stop k h =
    stops_there (IsResponseText L form 0) (IsResponseText L form (length interims)) (IsResponseText no_bounds form 0) (IsResponseText no_bounds form (length interims)) bytes taken 0 0 stop k.within k.here k.anyway (omega arith) h

pub opening_fault : (L : Bounds) (form : Form) (interims : List held.Interim) (bytes : List ℕ) (taken : ℕ) (fault : Fault) → Opened L form interims bytes taken
    → AtStop (Stops (IsResponseText L form (length interims)) (IsResponseText no_bounds form (length interims)) (drop taken bytes)) fault → AtStop (Stops (IsResponseText L form 0) (IsResponseText no_bounds form 0) bytes) (fault_behind taken fault)
opening_fault L form interims bytes taken (faults.Stop stop) k h = opening_stop L form interims bytes taken stop k h
opening_fault L form interims bytes taken faults.NoMemory k h = tt

-- ---- the same, by what a caller knows of limits, count and bytes

pub part_here : (K L : Bounds) (form : Form) (j k : ℕ) (x y : List ℕ) (step : ResponsePart) → K ≡ L → j ≡ k → x ≡ y → ResponsePartIs K form j x step → ResponsePartIs L form k y step
part_here K L form j k x y step e f g h =
    subst (λ (B : Bounds). ResponsePartIs B form k y step) e (subst (λ (n : ℕ). ResponsePartIs K form n y step) f (subst (λ (z : List ℕ). ResponsePartIs K form j z step) g h))

pub fault_here : (K L : Bounds) (form : Form) (j k : ℕ) (x y : List ℕ) (fault : Fault) → K ≡ L → j ≡ k → x ≡ y → AtStop (Stops (IsResponseText K form j) (IsResponseText no_bounds form j) x) fault
    → AtStop (Stops (IsResponseText L form k) (IsResponseText no_bounds form k) y) fault
fault_here K L form j k x y fault e f g h =
    subst (λ (B : Bounds). AtStop (Stops (IsResponseText B form k) (IsResponseText no_bounds form k) y) fault) e
    (subst (λ (n : ℕ). AtStop (Stops (IsResponseText K form n) (IsResponseText no_bounds form n) y) fault) f
    (subst (λ (z : List ℕ). AtStop (Stops (IsResponseText K form j) (IsResponseText no_bounds form j) z) fault) g h))

-- an interim response has a byte at least
pub part_long : (L : Bounds) (form : Form) (k : ℕ) (bytes : List ℕ) (i : held.Interim) (n : ℕ) → ResponsePartIs L form k bytes (found.Interim i n) → (0 < n) × (n ≤ length bytes)
part_long L form k bytes i n h =
    let s = h.2 in
    let status = s.whole.spelled.2.spelled in (
      omega (
        arith,
        number_nonempty parts.Status i.status s.whole.spelled.0 status,
        ap length s.whole.spelled.4,
        length-append s.whole.spelled.0 s.whole.spelled.1,
        length-map s.whole.text (λ (b : Part × ℕ). b.1),
        ap length s.whole.same,
        length-take n bytes,
        s.within,
      ),
      s.within,
    )
