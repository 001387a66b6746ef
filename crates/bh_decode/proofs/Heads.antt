-- What a reader says of what stands behind the control data.
use Rattle.std.proofs.Common.{◌≡◌, ℕ, List, [], take, drop, sym, subst, arith}
use Rattle.bh_spec.specs.declared.Form.{Form}
use Rattle.bh_spec.specs.declared.Omitted.{Omitted}
use Rattle.bh_spec.specs.Bounds.{Bounds, no_bounds}
use Rattle.bh_spec.specs.Messages.{Field}
use Rattle.bh_model.specs.declared.field.Place.TheVariants.{Header}
use Rattle.bh_fields.specs.Sections.{SectionOf}
use Rattle.bh_spec.specs.Pieces.{SomeOf, IsText, Ends}
use Rattle.bh_decode.specs.declared.stop.Stop.{Stop}
use Rattle.bh_decode.specs.declared.fault.Fault.{Fault}
use Rattle.bh_decode.specs.declared.fault.Fault.TheVariants as faults
use Rattle.bh_decode.specs.Grammar.{IsRestText, IsAfterStart, RestOf, AfterOf}
use Rattle.bh_decode.specs.Stops.{Stops, StopsThing, stop_behind, fault_behind, AtStop}
use Rattle.bh_decode.proofs.Grammars.{section_once}
use Rattle.bh_decode.proofs.Phases.{stops_then, behind_headers}
use Rattle.bh_decode.proofs.Following.{sections_anyway, section_text_anyway, after_headers}
use Rattle.bh_decode.proofs.Tails.{stops_there, both_texts}

pub headers_stop : (L : Bounds) (form : Form) (bytes : List ℕ) (stop : Stop) → StopsThing (SomeOf (SectionOf L form Header)) (SomeOf (SectionOf no_bounds form Header)) bytes stop
    → Stops (IsAfterStart L form) (IsAfterStart no_bounds form) bytes stop
headers_stop L form bytes stop h =
    stops_then (SectionOf L form Header) (λ (fields : List Field). IsRestText L form) (SectionOf no_bounds form Header) (λ (fields : List Field). IsRestText no_bounds form)
    (section_once L form Header) (section_once no_bounds form Header) (after_headers L form) (after_headers no_bounds form) (sections_anyway L form Header) bytes stop h

rest_stop : (L : Bounds) (form : Form) (fields : List Field) (bytes : List ℕ) (taken : ℕ) (stop : Stop) → Ends (SectionOf L form Header fields) [] bytes taken
    → Stops (IsRestText L form) (IsRestText no_bounds form) (drop taken bytes) stop → Stops (IsAfterStart L form) (IsAfterStart no_bounds form) bytes (stop_behind taken stop)
rest_stop L form fields bytes taken stop section h =
    stops_there (IsAfterStart L form) (IsRestText L form) (IsAfterStart no_bounds form) (IsRestText no_bounds form) bytes taken 0 0 stop section.within
    (behind_headers L form fields (take taken bytes) section.whole) (behind_headers no_bounds form fields (take taken bytes) (section_text_anyway L form Header fields (take taken bytes) section.whole)) (omega arith) h

pub rest_fault : (L : Bounds) (form : Form) (fields : List Field) (bytes : List ℕ) (taken : ℕ) (fault : Fault) → Ends (SectionOf L form Header fields) [] bytes taken
    → AtStop (Stops (IsRestText L form) (IsRestText no_bounds form) (drop taken bytes)) fault → AtStop (Stops (IsAfterStart L form) (IsAfterStart no_bounds form) bytes) (fault_behind taken fault)
rest_fault L form fields bytes taken (faults.Stop stop) section h = rest_stop L form fields bytes taken stop section h
rest_fault L form fields bytes taken faults.NoMemory section h = tt

pub parts_whole : (L : Bounds) (form : Form) (lines fields : List Field) (content : List ℕ) (trailers : List Field) (omitted : Omitted) (padding : ℕ) (bytes : List ℕ) (taken : ℕ) → fields ≡ lines
    → Ends (SectionOf L form Header lines) [] bytes taken → IsText (RestOf L form content trailers omitted padding) (drop taken bytes) → IsText (AfterOf L form fields content trailers omitted padding) bytes
parts_whole L form lines fields content trailers omitted padding bytes taken e section rest =
    let h = both_texts (SectionOf L form Header lines) (RestOf L form content trailers omitted padding) bytes taken section rest in
    subst (λ (x : List Field). IsText (AfterOf L form x content trailers omitted padding) bytes) (sym e)
    (record { text = h.text; spelled = record { valid = h.spelled.2.1; spelled = (h.spelled.0, h.spelled.1, h.spelled.2.0, h.spelled.3, h.spelled.4) }; same = h.same })
