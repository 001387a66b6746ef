-- What a reader says of a whole message.
use Rattle.std.proofs.Common.{◌≡◌, ◌≤◌, ℕ, List, [], length, take, drop, refl, sym, subst, arith}
use Rattle.bh_spec.specs.declared.Part.TheVariants as parts
use Rattle.bh_spec.specs.declared.Form.{Form}
use Rattle.bh_spec.specs.declared.Kind.{Kind}
use Rattle.bh_spec.specs.declared.Kind.TheVariants.{Request, Response}
use Rattle.bh_spec.specs.declared.Omitted.{Omitted}
use Rattle.bh_spec.specs.Bounds.{Bounds, IsWithin, no_bounds}
use Rattle.bh_spec.specs.Messages.{Field, Control, Interim, Message, request, response}
use Rattle.bh_spec.specs.Spelling.{framing}
use Rattle.bh_spec.specs.Texts.{IsNumber}
use Rattle.bh_spec.specs.Viable.{SpellsBytes, IsMessageText}
use Rattle.bh_control.specs.Control.{ControlOf}
use Rattle.bh_spec.specs.Pieces.{SomeOf, IsText, Ends}
use Rattle.bh_decode.specs.declared.stop.Stop.{Stop}
use Rattle.bh_decode.specs.declared.fault.Fault.{Fault}
use Rattle.bh_decode.specs.declared.fault.Fault.TheVariants as faults
use Rattle.bh_decode.specs.Contexts.{Context}
use Rattle.bh_decode.specs.Grammar.{IsFramed, IsAfterFraming, IsAfterStart, IsResponseText, AfterOf, FramedOf}
use Rattle.bh_decode.specs.Responses.{OpeningOf}
use Rattle.bh_decode.specs.Stops.{Stops, StopsThing, fault_behind, AtStop}
use Rattle.bh_decode.proofs.Contexts.{SomeThen}
use Rattle.bh_decode.proofs.Grammars.{message_framed, framed_message, framed_once, control_once}
use Rattle.bh_decode.proofs.Phases.{behind_framing, behind_control, stops_then}
use Rattle.bh_decode.proofs.Stopped.{Same, stops_same}
use Rattle.bh_decode.proofs.Following.{control_anyway, after_framing, after_control}
use Rattle.bh_decode.proofs.Tails.{stops_there, both_texts}

-- ---- requests

control_stop : (L : Bounds) (form : Form) (bytes : List ℕ) (stop : Stop) → StopsThing (SomeOf (ControlOf L)) (SomeOf (ControlOf no_bounds)) bytes stop
    → Stops (IsAfterFraming L (Request, form)) (IsAfterFraming no_bounds (Request, form)) bytes stop
control_stop L form bytes stop h =
    stops_then (ControlOf L) (λ (c : Control). IsAfterStart L form) (ControlOf no_bounds) (λ (c : Control). IsAfterStart no_bounds form)
    (control_once L) (control_once no_bounds) (after_control L form) (after_control no_bounds form) (control_anyway L) bytes stop h

pub control_fault : (L : Bounds) (form : Form) (bytes : List ℕ) (fault : Fault) → AtStop (StopsThing (SomeOf (ControlOf L)) (SomeOf (ControlOf no_bounds)) bytes) fault
    → AtStop (Stops (IsAfterFraming L (Request, form)) (IsAfterFraming no_bounds (Request, form)) bytes) fault
control_fault L form bytes (faults.Stop stop) h = control_stop L form bytes stop h
control_fault L form bytes faults.NoMemory h = tt

control_text_anyway : (L : Bounds) (c : Control) (bytes : List ℕ) → IsText (ControlOf L c) bytes → IsText (ControlOf no_bounds c) bytes
control_text_anyway L c bytes h = record { text = h.text; spelled = control_anyway L c h.text h.spelled; same = h.same }

pub request_fault : (L : Bounds) (form : Form) (c : Control) (bytes : List ℕ) (taken : ℕ) (fault : Fault) → Ends (ControlOf L c) [] bytes taken
    → AtStop (Stops (IsAfterStart L form) (IsAfterStart no_bounds form) (drop taken bytes)) fault → AtStop (Stops (IsAfterFraming L (Request, form)) (IsAfterFraming no_bounds (Request, form)) bytes) (fault_behind taken fault)
request_fault L form c bytes taken (faults.Stop stop) control h =
    stops_there (IsAfterFraming L (Request, form)) (IsAfterStart L form) (IsAfterFraming no_bounds (Request, form)) (IsAfterStart no_bounds form) bytes taken 0 0 stop control.within
    (behind_control L form c (take taken bytes) control.whole) (behind_control no_bounds form c (take taken bytes) (control_text_anyway L c (take taken bytes) control.whole)) (omega arith) h
request_fault L form c bytes taken faults.NoMemory control h = tt

pub request_whole : (L : Bounds) (form : Form) (c : Control) (fields : List Field) (content : List ℕ) (trailers : List Field) (m : Message) (omitted : Omitted) (padding : ℕ) (bytes : List ℕ) (taken : ℕ)
    → m ≡ record { start = request c; fields = fields; content = content; trailers = trailers } → Ends (ControlOf L c) [] bytes taken → IsText (AfterOf L form fields content trailers omitted padding) (drop taken bytes)
    → IsText (FramedOf L Request form m omitted padding) bytes
request_whole L form c fields content trailers m omitted padding bytes taken e control after =
    let h = both_texts (ControlOf L c) (AfterOf L form fields content trailers omitted padding) bytes taken control after in
    let s = h.spelled.3.spelled in
    subst (λ (x : Message). IsText (FramedOf L Request form x omitted padding) bytes) (sym e)
    (record {
      text = h.text;
      spelled = record {
        valid = record { start = h.spelled.2.valid; fields = h.spelled.3.valid; content = s.3.bytes; trailers = s.3.valid };
        kind_is = refl;
        spelled = (h.spelled.0, h.spelled.1, h.spelled.2.spelled, (s.0, s.1, s.2, s.3.spelled, s.4), h.spelled.4);
      };
      same = h.same;
    })

-- ---- responses

pub response_fault : (L : Bounds) (form : Form) (bytes : List ℕ) (taken : ℕ) (fault : Fault) → taken ≤ length bytes
    → Context (IsResponseText L form 0) (IsAfterStart L form) (take taken bytes) 0 → Context (IsResponseText no_bounds form 0) (IsAfterStart no_bounds form) (take taken bytes) 0
    → AtStop (Stops (IsAfterStart L form) (IsAfterStart no_bounds form) (drop taken bytes)) fault → AtStop (Stops (IsAfterFraming L (Response, form)) (IsAfterFraming no_bounds (Response, form)) bytes) (fault_behind taken fault)
response_fault L form bytes taken (faults.Stop stop) within here anyway h =
    stops_there (IsAfterFraming L (Response, form)) (IsAfterStart L form) (IsAfterFraming no_bounds (Response, form)) (IsAfterStart no_bounds form) bytes taken 0 0 stop within here anyway (omega arith) h
response_fault L form bytes taken faults.NoMemory within here anyway h = tt

pub response_whole : (L : Bounds) (form : Form) (interims : List Interim) (status : ℕ) (fields : List Field) (content : List ℕ) (trailers : List Field) (m : Message) (omitted : Omitted) (padding : ℕ) (bytes : List ℕ) (taken : ℕ)
    → m ≡ record { start = response interims status; fields = fields; content = content; trailers = trailers } → Ends (OpeningOf L form interims status) [] bytes taken
    → IsText (AfterOf L form fields content trailers omitted padding) (drop taken bytes) → IsText (FramedOf L Response form m omitted padding) bytes
response_whole L form interims status fields content trailers m omitted padding bytes taken e opening after =
    let h = both_texts (OpeningOf L form interims status) (AfterOf L form fields content trailers omitted padding) bytes taken opening after in
    let o = h.spelled.2 in
    let s = h.spelled.3.spelled in
    subst (λ (x : Message). IsText (FramedOf L Response form x omitted padding) bytes) (sym e)
    (record {
      text = h.text;
      spelled = record {
        valid = record { start = record { each = o.each; final = o.final }; fields = h.spelled.3.valid; content = s.3.bytes; trailers = s.3.valid };
        kind_is = refl;
        spelled = (h.spelled.0, h.spelled.1, (o.few, o.spelled), (s.0, s.1, s.2, s.3.spelled, s.4), h.spelled.4);
      };
      same = h.same;
    })

-- ---- with the framing number

framing_same : (L : Bounds) → Same (SomeThen IsFramed (IsAfterFraming L)) (IsMessageText L)
framing_same L = record { on = framed_message L; back = message_framed L }

pub framing_stop : (L : Bounds) (bytes : List ℕ) (stop : Stop) → IsWithin L.part 1 → StopsThing (SomeOf IsFramed) (SomeOf IsFramed) bytes stop → Stops (IsMessageText L) (IsMessageText no_bounds) bytes stop
framing_stop L bytes stop one h =
    stops_same (SomeThen IsFramed (IsAfterFraming L)) (IsMessageText L) (SomeThen IsFramed (IsAfterFraming no_bounds)) (IsMessageText no_bounds) (framing_same L) (framing_same no_bounds) bytes stop
    (stops_then IsFramed (IsAfterFraming L) IsFramed (IsAfterFraming no_bounds) framed_once framed_once (after_framing L one) (after_framing no_bounds tt) (λ i t s. s) bytes stop h)

pub framed_fault : (L : Bounds) (kind : Kind) (form : Form) (bytes : List ℕ) (taken : ℕ) (fault : Fault) → Ends (IsFramed (kind, form)) [] bytes taken
    → AtStop (Stops (IsAfterFraming L (kind, form)) (IsAfterFraming no_bounds (kind, form)) (drop taken bytes)) fault → AtStop (Stops (IsMessageText L) (IsMessageText no_bounds) bytes) (fault_behind taken fault)
framed_fault L kind form bytes taken (faults.Stop stop) framed h =
    stops_there (IsMessageText L) (IsAfterFraming L (kind, form)) (IsMessageText no_bounds) (IsAfterFraming no_bounds (kind, form)) bytes taken 0 0 stop framed.within
    (behind_framing L kind form (take taken bytes) framed.whole) (behind_framing no_bounds kind form (take taken bytes) framed.whole) (omega arith) h
framed_fault L kind form bytes taken faults.NoMemory framed h = tt

pub message_whole : (L : Bounds) (kind : Kind) (form : Form) (m : Message) (omitted : Omitted) (padding : ℕ) (bytes : List ℕ) (taken : ℕ) → Ends (IsFramed (kind, form)) [] bytes taken
    → IsText (FramedOf L kind form m omitted padding) (drop taken bytes) → SpellsBytes L m omitted padding bytes
message_whole L kind form m omitted padding bytes taken framed rest =
    let h = both_texts (IsFramed (kind, form)) (FramedOf L kind form m omitted padding) bytes taken framed rest in
    let f = h.spelled.3 in
    record {
      text = h.text;
      spelled = record {
        valid = f.valid;
        form = form;
        text = (h.spelled.0, h.spelled.1, subst (λ (k : Kind). IsNumber parts.Framing (framing k form) h.spelled.0) (sym f.kind_is) h.spelled.2, f.spelled, h.spelled.4);
      };
      same = h.same;
    }
