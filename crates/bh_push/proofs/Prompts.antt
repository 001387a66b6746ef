-- No event stands where a decoder does.
use Rattle.std.proofs.Common.{◌≡◌, ℕ, List, [], sym, subst}
use Rattle.bh_spec.specs.declared.Form.{Form}
use Rattle.bh_spec.specs.Bounds.{Bounds}
use Rattle.bh_fields.specs.Middle.{SectionView, Rest as section_rest}
use Rattle.bh_push.specs.declared.course.Course.{Course}
use Rattle.bh_push.specs.declared.course.Stage.{Stage}
use Rattle.bh_push.specs.declared.course.Stage.TheVariants as stages
use Rattle.bh_push.specs.declared.body.Phase.{Phase}
use Rattle.bh_push.specs.declared.body.Phase.TheVariants as phases
use Rattle.bh_push.specs.Bodies.{at_of}
use Rattle.bh_push.specs.Standing.{IsWhole, IsPrompt}
use Rattle.bh_push.specs.Courses.{at_by, place_of, IsSection, IsOpenBy, IsOpen}

section_prompt : (L : Bounds) (v : SectionView) → v.limits ≡ L → IsSection v → IsWhole L v → ⊥
section_prompt L v e s w = s.more w.0 (subst (λ (K : Bounds). section_rest K v w.0 []) (sym e) w.1)

pub body_prompt : (L : Bounds) (phase : Phase) (form : Form) (number : List ℕ) → IsPrompt L (at_of phase form number)
body_prompt L phases.Head form number = tt
body_prompt L phases.Length form number = tt
body_prompt L (phases.Run missing) form number = tt
body_prompt L phases.Over form number = tt

pub prompt_by : (c : Course) (s : Stage) → c.section.limits ≡ c.limits → IsOpenBy s c → IsPrompt c.limits (at_by s c)
prompt_by c stages.Framing e o = tt
prompt_by c (stages.Control form) e o = tt
prompt_by c (stages.Status form before) e o = tt
prompt_by c (stages.BeforeInterim form before status) e o = tt
prompt_by c (stages.Interim form before status) e o = section_prompt c.limits c.section e o.1
prompt_by c (stages.BeforeHeader form) e o = tt
prompt_by c (stages.Header form) e o = section_prompt c.limits c.section e o
prompt_by c stages.Content e o = body_prompt c.limits c.body.phase c.body.form c.body.number
prompt_by c (stages.Trailers form) e o = section_prompt c.limits c.section e o
prompt_by c (stages.Padding before) e o = tt

pub open_prompt : (c : Course) (L : Bounds) → c.limits ≡ L → IsOpen c → IsPrompt L (place_of c)
open_prompt c L e o = subst (λ (K : Bounds). IsPrompt K (place_of c)) e (prompt_by c c.stage o.course.section o.at)
