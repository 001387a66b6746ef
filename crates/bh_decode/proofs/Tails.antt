-- What a reader says of what stands behind the header section.
use Rattle.std.proofs.Common.{◌≡◌, ◌≤◌, ◌^◌, ℕ, List, [], ◌++◌, length, take, drop, replicate, All, refl, sym, ap, ap₂, subst, ◌∙◌, append-nil, take-append-drop, zero-add, arith}
use Rattle.std.proofs.lemmas.List.{length-drop, length-map}
use Rattle.std.proofs.lemmas.List.Elements.{All-nil}
use Rattle.bh_spec.specs.declared.Part.{Part}
use Rattle.bh_spec.specs.declared.Part.TheVariants as parts
use Rattle.bh_spec.specs.declared.Form.{Form}
use Rattle.bh_spec.specs.declared.Omitted.TheVariants.{Nothing, Trailers}
use Rattle.bh_spec.specs.Bounds.{Bounds, no_bounds}
use Rattle.bh_spec.specs.Messages.{Field, IsRegularField}
use Rattle.bh_spec.specs.Texts.{Text, IsRun, ◌then◌}
use Rattle.bh_spec.proofs.Sections.{body_nonempty}
use Rattle.bh_spec.proofs.Marks.{bytes_of-append}
use Rattle.bh_model.specs.declared.field.Place.TheVariants.{Trailer}
use Rattle.bh_fields.specs.Sections.{SectionOf}
use Rattle.bh_spec.specs.Pieces.{SomeOf, IsText, Ends}
use Rattle.bh_decode.specs.declared.stop.Stop.{Stop}
use Rattle.bh_decode.specs.declared.stop.Stop.TheVariants as stops
use Rattle.bh_decode.specs.declared.fault.Fault.{Fault}
use Rattle.bh_decode.specs.declared.fault.Fault.TheVariants as faults
use Rattle.bh_decode.specs.Grammar.{IsPaddingText, IsEndText, IsAfterContent, IsRestText, BodyOf, EndOf, RestOf}
use Rattle.bh_decode.specs.Stops.{Stops, StopsThing, stop_behind, fault_behind, AtStop, IsStopWithin}
use Rattle.bh_decode.proofs.Contexts.{Context, context_on}
use Rattle.bh_decode.proofs.Fronts.{length_front}
use Rattle.bh_decode.proofs.Phases.{stops_then}
use Rattle.bh_decode.proofs.Stopped.{stops_behind}
use Rattle.bh_decode.proofs.Rests.{IsBodyRest, body_once, rest_here, behind_body, behind_content, behind_trailers}
use Rattle.bh_decode.proofs.Following.{sections_anyway, section_text_anyway, after_body, after_trailers}
use Rattle.bh_decode.proofs.Grammars.{section_once}

-- ---- a stop behind what was read

pub stops_there : (M R N S : Text → Type 0) (bytes : List ℕ) (taken m n : ℕ) (stop : Stop) → taken ≤ length bytes → Context M R (take taken bytes) m → Context N S (take taken bytes) n
    → m ≤ length (drop taken bytes) → Stops R S (drop taken bytes) stop → Stops M N bytes (stop_behind taken stop)
stops_there M R N S bytes taken m n stop within c d enough h =
    let there = stops_behind M R N S (take taken bytes) (drop taken bytes) m n c d enough stop h in
    subst (λ (k : ℕ). Stops M N bytes (stop_behind k stop)) (length_front bytes taken within)
    (subst (λ (x : List ℕ). Stops M N x (stop_behind (length (take taken bytes)) stop)) (take-append-drop taken bytes) there)

stop_near : (R S : Text → Type 0) (bytes : List ℕ) (taken : ℕ) (stop : Stop) → taken ≤ length bytes → length bytes ≤ 2 ^ 40 → Stops R S (drop taken bytes) stop → IsStopWithin taken stop
stop_near R S bytes taken (stops.Dead at part) within short h = omega (arith, h.refused.inside, length-drop taken bytes, within, short)
stop_near R S bytes taken (stops.Limit at part) within short h = omega (arith, h.refused.inside, length-drop taken bytes, within, short)
stop_near R S bytes taken (stops.Ended part) within short h = tt

-- ---- trailer section and padding

pub trailers_stop : (L : Bounds) (form : Form) (bytes : List ℕ) (stop : Stop) → StopsThing (SomeOf (SectionOf L form Trailer)) (SomeOf (SectionOf no_bounds form Trailer)) bytes stop
    → Stops (IsEndText L form) (IsEndText no_bounds form) bytes stop
trailers_stop L form bytes stop h =
    stops_then (SectionOf L form Trailer) (λ (fields : List Field). IsPaddingText) (SectionOf no_bounds form Trailer) (λ (fields : List Field). IsPaddingText)
    (section_once L form Trailer) (section_once no_bounds form Trailer) (after_trailers L form) (after_trailers no_bounds form) (sections_anyway L form Trailer) bytes stop h

pub padding_stop : (L : Bounds) (form : Form) (fields : List Field) (bytes : List ℕ) (taken : ℕ) (stop : Stop) → Ends (SectionOf L form Trailer fields) [] bytes taken
    → Stops IsPaddingText IsPaddingText (drop taken bytes) stop → Stops (IsEndText L form) (IsEndText no_bounds form) bytes (stop_behind taken stop)
padding_stop L form fields bytes taken stop section h =
    stops_there (IsEndText L form) IsPaddingText (IsEndText no_bounds form) IsPaddingText bytes taken 0 0 stop section.within
    (behind_trailers L form fields (take taken bytes) section.whole) (behind_trailers no_bounds form fields (take taken bytes) (section_text_anyway L form Trailer fields (take taken bytes) section.whole)) (omega arith) h

-- two texts, one behind the other
pub both_texts : (R S : Text → Type 0) (bytes : List ℕ) (taken : ℕ) → Ends R [] bytes taken → IsText S (drop taken bytes) → IsText (R then S) bytes
both_texts R S bytes taken h g = record {
  text = h.whole.text ++ g.text;
  spelled = (h.whole.text, g.text, h.whole.spelled, g.spelled, refl);
  same = bytes_of-append h.whole.text g.text ∙ ap₂ (λ (x y : List ℕ). x ++ y) h.whole.same g.same ∙ take-append-drop taken bytes;
}

pub end_whole : (L : Bounds) (form : Form) (lines fields : List Field) (padding : ℕ) (bytes : List ℕ) (taken : ℕ) → fields ≡ lines → Ends (SectionOf L form Trailer lines) [] bytes taken
    → IsText (IsRun parts.Padding (replicate padding 0)) (drop taken bytes) → IsText (EndOf L form fields padding) bytes
end_whole L form lines fields padding bytes taken e section zeros =
    let h = both_texts (SectionOf L form Trailer lines) (IsRun parts.Padding (replicate padding 0)) bytes taken section zeros in
    subst (λ (x : List Field). IsText (EndOf L form x padding) bytes) (sym e)
    (record { text = h.text; spelled = record { valid = h.spelled.2.1; spelled = (h.spelled.0, h.spelled.1, h.spelled.2.0, h.spelled.3, h.spelled.4) }; same = h.same })

-- ---- content first

body_long : (form : Form) (content bytes : List ℕ) → IsText (BodyOf form content) bytes → 1 ≤ length bytes
body_long form content bytes h = omega (arith, body_nonempty form content h.text h.spelled.spelled, length-map h.text (λ (b : Part × ℕ). b.1), ap length h.same)

-- Behind the content, where something stands there.
behind_some_content : (L : Bounds) (form : Form) (content bytes : List ℕ) → IsText (BodyOf form content) bytes → Context (IsRestText L form) (IsEndText L form) bytes 1
behind_some_content L form content bytes h =
    subst (λ (x : List ℕ). Context (IsRestText L form) (IsEndText L form) x 1) (append-nil bytes)
    (context_on (IsRestText L form) (IsAfterContent L form) (IsEndText L form) bytes [] 0 1 (omega arith)
    (context_on (IsRestText L form) (IsBodyRest L form) (IsAfterContent L form) [] bytes 1 0 (omega (arith, body_long form content bytes h)) (rest_here L form) (behind_body L form content bytes h))
    (behind_content L form))

end_stop : (L : Bounds) (form : Form) (content bytes : List ℕ) (taken : ℕ) (stop : Stop) → Ends (BodyOf form content) [] bytes taken → 1 ≤ length (drop taken bytes)
    → Stops (IsEndText L form) (IsEndText no_bounds form) (drop taken bytes) stop → Stops (IsRestText L form) (IsRestText no_bounds form) bytes (stop_behind taken stop)
end_stop L form content bytes taken stop body some h =
    stops_there (IsRestText L form) (IsEndText L form) (IsRestText no_bounds form) (IsEndText no_bounds form) bytes taken 1 1 stop body.within
    (behind_some_content L form content (take taken bytes) body.whole) (behind_some_content no_bounds form content (take taken bytes) body.whole) some h

body_stop : (L : Bounds) (form : Form) (bytes : List ℕ) (stop : Stop) → 1 ≤ length bytes → StopsThing (SomeOf (BodyOf form)) (SomeOf (BodyOf form)) bytes stop
    → Stops (IsRestText L form) (IsRestText no_bounds form) bytes stop
body_stop L form bytes stop some h =
    subst (Stops (IsRestText L form) (IsRestText no_bounds form) bytes) (same stop)
    (stops_behind (IsRestText L form) (IsBodyRest L form) (IsRestText no_bounds form) (IsBodyRest no_bounds form) [] bytes 1 1 (rest_here L form) (rest_here no_bounds form) some stop
    (stops_then (BodyOf form) (λ (c : List ℕ). IsAfterContent L form) (BodyOf form) (λ (c : List ℕ). IsAfterContent no_bounds form)
    (body_once form) (body_once form) (after_body L form) (after_body no_bounds form) (λ c t s. s) bytes stop h))
  where
    same : (s : Stop) → stop_behind 0 s ≡ s
    same (stops.Dead at part) = ap (λ (n : ℕ). stops.Dead n part) (zero-add at)
    same (stops.Limit at part) = ap (λ (n : ℕ). stops.Limit n part) (zero-add at)
    same (stops.Ended part) = refl

pub trailers_omitted : (L : Bounds) (form : Form) (content bytes : List ℕ) (fields : List Field) (taken : ℕ) → Ends (BodyOf form content) [] bytes taken → drop taken bytes ≡ [] → fields ≡ []
    → IsText (RestOf L form content fields Trailers 0) bytes
trailers_omitted L form content bytes fields taken body none empty = record {
  text = body.whole.text;
  spelled = record {
    bytes = body.whole.spelled.bytes;
    valid = subst (λ (x : List Field). All IsRegularField x) (sym empty) (All-nil IsRegularField);
    spelled = (empty, refl, body.whole.spelled.spelled);
  };
  same = body.whole.same ∙ sym (append-nil (take taken bytes)) ∙ ap (λ (x : List ℕ). take taken bytes ++ x) (sym none) ∙ take-append-drop taken bytes;
}

pub tail_whole : (L : Bounds) (form : Form) (content bytes : List ℕ) (fields : List Field) (padding taken : ℕ) → Ends (BodyOf form content) [] bytes taken → IsText (EndOf L form fields padding) (drop taken bytes)
    → IsText (RestOf L form content fields Nothing padding) bytes
tail_whole L form content bytes fields padding taken body end =
    let h = both_texts (BodyOf form content) (EndOf L form fields padding) bytes taken body end in
    record {
      text = h.text;
      spelled = record {
        bytes = h.spelled.2.bytes;
        valid = h.spelled.3.valid;
        spelled = (h.spelled.0, h.spelled.1, h.spelled.2.spelled, h.spelled.3.spelled, h.spelled.4);
      };
      same = h.same;
    }

pub end_fault : (L : Bounds) (form : Form) (content bytes : List ℕ) (taken : ℕ) (fault : Fault) → Ends (BodyOf form content) [] bytes taken → 1 ≤ length (drop taken bytes)
    → AtStop (Stops (IsEndText L form) (IsEndText no_bounds form) (drop taken bytes)) fault → AtStop (Stops (IsRestText L form) (IsRestText no_bounds form) bytes) (fault_behind taken fault)
end_fault L form content bytes taken (faults.Stop stop) body some h = end_stop L form content bytes taken stop body some h
end_fault L form content bytes taken faults.NoMemory body some h = tt

pub body_fault : (L : Bounds) (form : Form) (bytes : List ℕ) (fault : Fault) → 1 ≤ length bytes → AtStop (StopsThing (SomeOf (BodyOf form)) (SomeOf (BodyOf form)) bytes) fault
    → AtStop (Stops (IsRestText L form) (IsRestText no_bounds form) bytes) fault
body_fault L form bytes (faults.Stop stop) some h = body_stop L form bytes stop some h
body_fault L form bytes faults.NoMemory some h = tt

pub fault_near : (R S : Text → Type 0) (bytes : List ℕ) (taken : ℕ) (fault : Fault) → taken ≤ length bytes → length bytes ≤ 2 ^ 40 → AtStop (Stops R S (drop taken bytes)) fault → AtStop (IsStopWithin taken) fault
fault_near R S bytes taken (faults.Stop stop) within short h = stop_near R S bytes taken stop within short h
fault_near R S bytes taken faults.NoMemory within short h = tt
