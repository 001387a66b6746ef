-- What the answers for a start line and fields say of the bytes of a head.
use Rattle.std.proofs.Common.{◌≡◌, ◌<◌, ◌≤◌, ◌+◌, ◌↔◌, inl, inr, false, ℕ, zero, suc, Bool, Some, Result, Ok, Err, List, [], ◌∷◌, length, refl, sym, ◌∙◌, ap, subst, arith}
use Rattle.bh_spec.specs.Bounds.{Bounds, IsWithin}
use Rattle.bh_spec.specs.Messages.{Field, Control, Interim, request}
use Rattle.bh_spec.specs.Canonical.{ControlFits, FieldsFit}
use Rattle.bh_spec.specs.Items.{Head as Said, of_request, of_response}
use Rattle.bh_spec.specs.declared.H1Why.{H1Why}
use Rattle.bh_spec.specs.declared.H1Why.TheVariants as why
use Rattle.h1_spec.specs.declared.Framing1.{Framing1}
use Rattle.h1_spec.specs.declared.Scheme1.{Scheme1}
use Rattle.h1_spec.specs.Grammar.{Line}
use Rattle.h1_spec.specs.Heads.{StartLine, request_line, status_line, Head, IsStartLine, IsHead}
use Rattle.h1_spec.specs.Http1.{IsHeadWithin, IsStartOf, start_of}
use Rattle.h1_spec.specs.Cleaning.{hops, clean, says_host}
use Rattle.h1_spec.specs.Framing.{IsCounted, framing}
use Rattle.h1_spec.specs.Causes.{Causes, ◌when◌else◌, nothing}
use Rattle.h1_spec.specs.BodyCauses.{OfBody}
use Rattle.h1_spec.specs.Targets.{IsTargetOf}
use Rattle.h1_spec.specs.Translation.{IsNextStart, OfEnd, OfFraming, OfRequest}
use Rattle.h1_spec.proofs.HeadTexts.{one_head}
use Rattle.h1_head.specs.declared.start_line.StartParts.{StartParts}
use Rattle.h1_head.specs.Parsed.{line_lent, FillsHead}
use Rattle.h1_rules.specs.Framed.{IsFramingAnswer}
use Rattle.h1_rules.specs.Targeted.{IsConnect, SaysControl, IsWhy}
use Rattle.h1_rules.specs.declared.targets.TargetWhy.{TargetWhy}
use Rattle.h1_rules.specs.declared.targets.TargetWhy.TheVariants as refused
use Rattle.h1_read.specs.declared.heads.HeadRead.{HeadRead}
use Rattle.h1_read.specs.declared.heads.HeadRead.TheVariants.{Interim as InterimRead, Final}
use Rattle.bh_model.specs.Lines.{FieldsView}
use Rattle.h1_read.specs.declared.heads.HeadJudge.{HeadJudge}
use Rattle.h1_read.specs.HeadJudges.{JudgeView, HasCleaned, SaysFinal, SaysWrong, SaysStart, IsWrong, Judges, cause_of}

-- ---- the bytes

is_next : (interims : List Interim) (start : StartLine) → (0 < length interims → (status : ℕ) × (start ≡ status_line status)) → IsNextStart interims start
is_next [] start h = tt
is_next (interim ∷ rest) start h = h (omega arith)

not_next : (interims : List Interim) (start : StartLine) (method target : List ℕ) → 0 < length interims → start ≡ request_line method target
    → IsNextStart interims start → ⊥
not_next [] start method target some e h = absurd (omega (arith, some))
not_next (interim ∷ rest) start method target some e h = let other = h.1 in absurd (cc)

low : (start : StartLine) (status : ℕ) (line : List ℕ) → start ≡ status_line status → Line (IsStartLine start) line → 100 ≤ status
low start status line e h = (subst (λ (s : StartLine). IsStartLine s h.0) e h.2).0

-- the head of a response says a status
status_said : (scheme : Scheme1) (head : Head) (of : Said) → IsStartOf scheme head (start_of of) → (status : ℕ) × (head.start ≡ status_line status)
    → (status : ℕ) × (of ≡ of_response status)
status_said scheme head (of_request control) start h = let own = start.1 in let other = h.1 in absurd (cc)
status_said scheme head (of_response status) start h = (status, refl)

pub none_before : (n : ℕ) → (0 < n → ⊥) → 0 ≡ n
none_before zero h = refl
none_before (suc n) h = absurd (h (omega arith))

-- the answer for a start line and fields is that for the bytes that they stand in
pub judged : (v w : JudgeView) (head : Head) (bytes : List ℕ) (before : ℕ) (result : Result HeadRead H1Why) → IsHeadWithin v.limits head bytes
    → (0 < before → (status : ℕ) × (head.start ≡ status_line status)) → SaysStart v head before result w → Judges v bytes before result w
judged v w head bytes before (Ok (InterimRead status)) text later says = record {
  read = record {
    head = head;
    text = text;
    status = says.start;
    number = record { low = low head.start status text.1.0 says.start text.1.2; high = says.high };
    stays = says.stays;
    fields = says.lines;
    fits = says.fits;
  };
  few = says.few;
  head_is = says.head_is;
}
judged v w head bytes before (Ok (Final body)) text later says = record {
  head = head;
  text = text;
  says = says;
  later = λ some. status_said v.scheme head says.of says.start (later some);
}
judged v w head bytes before (Err cause) text later says = record {
  cause_is = λ interims rest e.
      let next = is_next interims head.start (λ some. later (subst (λ (n : ℕ). 0 < n) e some)) in
      inr (λ none. none head text.1 next, (head, text.1, next, says.cause_is interims rest e));
  not_end = says.not_end;
  head_is = says.head_is;
}

-- the head that was parsed, by its start
pub parsed_as : (bytes : List ℕ) (parts start : StartParts) (fields : FieldsView) → parts ≡ start → FillsHead bytes (Some parts) fields
    → IsHead (record { start = line_lent start; fields = fields.lines }) bytes
parsed_as bytes parts start fields e h = subst (λ (p : StartParts). IsHead (record { start = line_lent p; fields = fields.lines }) bytes) e h.0

-- the bytes are no head; or they are a request's, behind an informational response
pub no_head : (v w : JudgeView) (bytes : List ℕ) (before : ℕ) → ((head : Head) → IsHead head bytes → ⊥) → w.head ≡ v.head
    → IsWrong v bytes before why.HeadForm w
no_head v w bytes before none same = record {
  cause_is = λ interims rest e. inl (λ head text next. none head text, refl);
  not_end = λ e. absurd (cc);
  head_is = same;
}

pub late_request : (v w : JudgeView) (head : Head) (bytes method target : List ℕ) (before : ℕ) → IsHead head bytes
    → head.start ≡ request_line method target → 0 < before → w.head ≡ v.head → IsWrong v bytes before why.HeadForm w
late_request v w head bytes method target before text start some same = record {
  cause_is = λ interims rest e. inl (
    λ other own next.
        let is : other ≡ head = (one_head other head bytes bytes [] [] own text refl).0 in
        not_next interims other.start method target (subst (λ (n : ℕ). 0 < n) (sym e) some) (ap (λ (h : Head). h.start) is ∙ start) next,
    refl,
  );
  not_end = λ e. absurd (cc);
  head_is = same;
}

-- ---- the body

length_first : (others : Causes) (P : Type 0) (cause : H1Why) → (why.Length when P else nothing) cause → (why.Length when P else others) cause
length_first others P cause (inl h) = inl h
length_first others P cause (inr h) = absurd h.1

of_framing : (L : Bounds) (to_head : Bool) (head : Head) (rest : List ℕ) (cause : H1Why) → IsFramingAnswer to_head head (Err cause)
    → OfFraming L to_head head rest cause
of_framing L to_head head rest cause (inl h) = inl h
of_framing L to_head head rest cause (inr h) =
    inr (h.0, length_first (OfBody L (framing to_head head) (OfEnd L (hops head.fields)) rest) (IsCounted head.fields → ⊥) cause h.1)

unframed_not_end : (to_head : Bool) (head : Head) (cause : H1Why) → IsFramingAnswer to_head head (Err cause) → cause ≡ why.Ended → ⊥
unframed_not_end to_head head cause (inl h) e = let is = h.1 in absurd (cc)
unframed_not_end to_head head cause (inr h) e = of_length h.1
  where
    of_length : (why.Length when (IsCounted head.fields → ⊥) else nothing) cause → ⊥
    of_length (inl g) = let is = g.1 in absurd (cc)
    of_length (inr g) = g.1

-- ---- between cleaning and the answer

module _ (j k : HeadJudge) (drops_host : Bool) (h : HasCleaned j drops_host k) where
  pub lines_fit : FieldsFit k.limits k.cleaned.lines ↔ FieldsFit j.limits (clean (hops j.raw.lines) drops_host j.raw.lines)
  lines_fit = (
    λ f. subst (FieldsFit j.limits) h.lines (subst (λ (L : Bounds). FieldsFit L k.cleaned.lines) h.same.limits f),
    λ f. subst (λ (L : Bounds). FieldsFit L k.cleaned.lines) (sym h.same.limits) (subst (FieldsFit j.limits) (sym h.lines) f),
  )

  pub control_fit : (control : Control) → ControlFits k.limits control ↔ ControlFits j.limits control
  control_fit control = (
    subst (λ (L : Bounds). ControlFits L control) h.same.limits,
    subst (λ (L : Bounds). ControlFits L control) (sym h.same.limits),
  )

  pub framed : (start : StartLine) (result : Result Framing1 H1Why)
      → IsFramingAnswer k.to_head (record { start = start; fields = k.raw.lines }) result
      → IsFramingAnswer j.to_head (record { start = start; fields = j.raw.lines }) result
  framed start result f =
      subst (λ (t : Bool). IsFramingAnswer t (record { start = start; fields = j.raw.lines }) result) h.same.to_head
      (subst (λ (r : FieldsView). IsFramingAnswer k.to_head (record { start = start; fields = r.lines }) result) h.raw f)

-- ---- the head of a request

module _ (v w : JudgeView) (method target : List ℕ) (fields : List Field) where
  abbrev pub head : Head
  head = record { start = request_line method target; fields = fields }

  pub refused_target : (t : TargetWhy) → IsWhy v.scheme method target fields t → w.head ≡ v.head → SaysStart v head 0 (Err (cause_of t)) w
  refused_target refused.Connect h same = record { cause_is = λ interims rest e. inl (h, refl); not_end = λ e. absurd (cc); head_is = same }
  refused_target refused.Target h same = record {
    cause_is = λ interims rest e. inr (h.0, inl (h.1, refl));
    not_end = λ e. absurd (cc);
    head_is = same;
  }
  refused_target refused.Host h same = record {
    cause_is = λ interims rest e. inr (h.0, inr (λ none. none h.1.0 h.1.1, (h.1.0, h.1.1, inl (h.1.2, refl))));
    not_end = λ e. absurd (cc);
    head_is = same;
  }
  refused_target refused.NoMemory h same = absurd h

  wrong : (control : Control) (cause : H1Why) → SaysControl v.scheme method target fields control → w.head ≡ v.head
      → ((rest : List ℕ) → OfRequest v.limits v.to_head control head rest cause) → (cause ≡ why.Ended → ⊥) → SaysWrong v head 0 cause w
  wrong control cause says same h other = record {
    cause_is = λ interims rest e. inr (says.no_connect, inr (λ none. none control says.form, (control, says.form, h rest)));
    not_end = other;
    head_is = same;
  }

  -- what is said doesn't fit
  pub unfit_request : (control : Control) → SaysControl v.scheme method target fields control → w.head ≡ v.head
      → (ControlFits v.limits control × FieldsFit v.limits (clean (hops fields) (says_host (request control)) fields) → ⊥)
      → SaysStart v head 0 (Err why.HeadLimit) w
  unfit_request control says same none = wrong control why.HeadLimit says same (λ rest. inr (λ h. h says.host, inl (none, refl))) (λ e. absurd (cc))

  -- the body isn't said
  pub unframed_request : (control : Control) (cause : H1Why) → SaysControl v.scheme method target fields control → w.head ≡ v.head
      → ControlFits v.limits control → FieldsFit v.limits (clean (hops fields) (says_host (request control)) fields)
      → IsFramingAnswer v.to_head head (Err cause) → SaysStart v head 0 (Err cause) w
  unframed_request control cause says same fits lines h = wrong control cause says same
      (λ rest. inr (λ g. g says.host, inr (λ none. none (fits, lines), of_framing v.limits v.to_head head rest cause h)))
      (unframed_not_end v.to_head head cause h)

  same_control : (control other : Control) → of_request control ≡ of_request other → control ≡ other
  same_control control other e = cc

  pub final_request : (control : Control) (body : Framing1) → SaysControl v.scheme method target fields control
      → ControlFits v.limits control → w.named ≡ hops fields → w.lines ≡ clean (hops fields) (says_host (request control)) fields
      → FieldsFit v.limits (clean (hops fields) (says_host (request control)) fields) → IsFramingAnswer v.to_head head (Ok body)
      → w.head ≡ Some (of_request control) → control.method ≡ method → SaysFinal v head body w
  final_request control body says fits named lines own_fit h shown same = record {
    of = of_request control;
    start = (
      target,
      ap (λ (m : List ℕ). request_line m target) (sym same),
      subst (λ (m : List ℕ). IsTargetOf v.scheme m target control) (sym same) says.form,
      subst (λ (m : List ℕ). IsConnect m → ⊥) (sym same) says.no_connect,
      says.host,
    );
    coded = h.0;
    counted = h.1;
    control = λ c e. subst (ControlFits v.limits) (same_control control c e) fits;
    named = named;
    lines = lines;
    fits = subst (FieldsFit v.limits) (sym lines) own_fit;
    body_is = h.2;
    head_is = shown;
  }

-- ---- the head of a response

module _ (v w : JudgeView) (status : ℕ) (fields : List Field) (before : ℕ) where
  abbrev pub response_head : Head
  response_head = record { start = status_line status; fields = fields }

  abbrev pub IsTooMany : Type 0
  IsTooMany = (status ≤ 199) × (IsWithin v.limits.interims (before + 1) → ⊥)

  too_many : (interims : List Interim) → length interims ≡ before
      → ((status ≤ 199) × (IsWithin v.limits.interims (length interims + 1) → ⊥)) ↔ IsTooMany
  too_many interims e = (
    λ h. (h.0, subst (λ (n : ℕ). IsWithin v.limits.interims (n + 1) → ⊥) e h.1),
    λ h. (h.0, subst (λ (n : ℕ). IsWithin v.limits.interims (n + 1) → ⊥) (sym e) h.1),
  )

  pub unframed_response : (cause : H1Why) → (status ≡ 101 → ⊥) → (IsTooMany → ⊥) → w.head ≡ v.head
      → FieldsFit v.limits (clean (hops fields) false fields) → 200 ≤ status → IsFramingAnswer v.to_head response_head (Err cause)
      → SaysStart v response_head before (Err cause) w
  unframed_response cause stays few same fits final h = record {
    cause_is = λ interims rest e. inr (
      stays,
      inr (λ g. few ((too_many interims e).0 g), inr (λ none. none fits, (final, of_framing v.limits v.to_head response_head rest cause h))),
    );
    not_end = unframed_not_end v.to_head response_head cause h;
    head_is = same;
  }

  pub final_response : (body : Framing1) → 200 ≤ status → w.named ≡ hops fields → w.lines ≡ clean (hops fields) false fields
      → FieldsFit v.limits (clean (hops fields) false fields) → IsFramingAnswer v.to_head response_head (Ok body) → w.head ≡ Some (of_response status)
      → SaysFinal v response_head body w
  final_response body final named lines fits h shown = record {
    of = of_response status;
    start = (refl, final);
    coded = h.0;
    counted = h.1;
    control = λ c e. absurd (cc);
    named = named;
    lines = lines;
    fits = subst (FieldsFit v.limits) (sym lines) fits;
    body_is = h.2;
    head_is = shown;
  }
