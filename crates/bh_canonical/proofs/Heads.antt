-- The head that a decoder shows, as a call of the encoder.
use Rattle.std.proofs.Common.{◌≡◌, ℕ, Bool, false, List, Option, Some, None, IfSome, Err, sym, ◌∙◌, ap, subst, arith, length}
use Rattle.bh_spec.specs.declared.Kind.TheVariants.{Request}
use Rattle.bh_spec.specs.Messages.{Field, Control, IsControl}
use Rattle.bh_spec.specs.Items.{Head, of_request, of_response}
use Rattle.bh_base.specs.Steps.{Step}
use Rattle.bh_base.specs.Batches.{Writes}
use Rattle.bh_push.specs.Hands.{control_shown, status_shown, kind_of_head}
use Rattle.bh_encode.specs.Calls.{text_of, request_head}
use Rattle.bh_reading.specs.Coming.{StartComes}
use Rattle.bh_reading.proofs.ReadingOn.{shown_of}
use Rattle.bh_canonical.specs.Stages.{HeadDue, head_call}

-- the same failed write, of an equal text
pub fault_as : {S : Type 0} {step : S → Step → S → Type 0} {A B E F : Type 0} {e : E} {f : F} {s t : S} {x y : List ℕ} → x ≡ y → Writes {A = A} {E = E} step s x (Err e) t → Writes {A = B} {E = F} step s y (Err f) t
fault_as same w = record { steps = w.steps; chain = w.chain; whole = tt; part = (w.part.0, sym same ∙ w.part.1, w.part.2); few = λ all. omega (arith, ap length same, w.few all) }

same_some : {A : Type 0} (a b : A) → Some a ≡ Some b → a ≡ b
same_some a b e = cc

module _ (begun : Bool) (showing : Option Head) (section : Option (List Field)) (due : HeadDue begun showing section) where
  is_due : (of : Head) → showing ≡ Some of → due.of ≡ of
  is_due of e = same_some due.of of (sym due.shown ∙ e)

  -- ---- a request

  request_is : (c : Control) → Some c ≡ control_shown showing → due.of ≡ of_request c
  request_is c e = by_head due.of (e ∙ ap control_shown due.shown)
    where
      by_head : (of : Head) → Some c ≡ control_shown (Some of) → of ≡ of_request c
      by_head (of_request d) e = ap of_request (sym (same_some c d e))
      by_head (of_response status) e = absurd (cc)

  request_comes : (c : Control) → Some c ≡ control_shown showing → StartComes due.limits (of_request c)
  request_comes c e = subst (StartComes due.limits) (request_is c e) due.comes.start

  pub control_due : (c : Control) → Some c ≡ control_shown showing → IsControl c
  control_due c e = (request_comes c e).0

  pub request_text : (c : Control) (lines : List Field) → Some c ≡ control_shown showing → IfSome section (λ ls. lines ≡ ls) → (of : Head) (fields : List Field) → showing ≡ Some of → section ≡ Some fields
      → text_of (record { kind = Request; begun = false }) (request_head c lines) ≡ text_of (record { kind = kind_of_head of; begun = begun }) (head_call of fields)
  request_text c lines e h of fields is shown =
      let head : of ≡ of_request c = sym (is_due of is) ∙ request_is c e in
      let first : begun ≡ false = due.comes.first c (request_is c e) in
      let same : lines ≡ fields = shown_of (λ (ls : List Field). lines ≡ ls) section fields shown h in
      ap (λ (ls : List Field). text_of (record { kind = Request; begun = false }) (request_head c ls)) same
      ∙ ap (λ (b : Bool). text_of (record { kind = Request; begun = b }) (request_head c fields)) (sym first)
      ∙ ap (λ (o : Head). text_of (record { kind = kind_of_head o; begun = begun }) (head_call o fields)) (sym head)

  -- one of the two is shown
  pub neither : None ≡ control_shown showing → None ≡ status_shown showing → ⊥
  neither e f = by_head due.of (e ∙ ap control_shown due.shown) (f ∙ ap status_shown due.shown)
    where
      by_head : (of : Head) → None ≡ control_shown (Some of) → None ≡ status_shown (Some of) → ⊥
      by_head (of_request c) e f = absurd (cc)
      by_head (of_response status) e f = absurd (cc)
