use Rattle.std.proofs.Common.{[], sym, subst}
use Rattle.bh_spec.specs.Pieces.{SomeOf, IsNext}
use Rattle.bh_push.specs.Courses.{place_of}
use Rattle.bh_push.specs.Decoders.{Rest}
use Rattle.bh_push.proofs.Nexts.{next_framing, next_control, next_status, next_before_interim, next_before_header, next_interim, next_header, next_trailers, next_padding}
use Rattle.bh_push.proofs.course.Course.next_part.Goals as goal

pub returns-in-Framing : goal.returns-in-Framing
returns-in-Framing c = next_framing c.args.self.now c.in-Framing.is c.requires

pub returns-in-Control : goal.returns-in-Control
returns-in-Control c = next_control c.args.self.now c.in-Control.form c.next_part.result c.in-Control.is c.requires c.next_part.ensures

pub returns-in-Status : goal.returns-in-Status
returns-in-Status c = next_status c.args.self.now c.in-Status.form c.in-Status.before c.in-Status.is c.requires

pub returns-in-BeforeInterim : goal.returns-in-BeforeInterim
returns-in-BeforeInterim c =
    subst (IsNext (SomeOf (Rest c.args.self.now.limits (place_of c.args.self.now))) []) (sym c.section_part.ensures)
    (next_before_interim c.args.self.now c.in-BeforeInterim.form c.in-BeforeInterim.before c.in-BeforeInterim.status c.in-BeforeInterim.is c.requires)

pub returns-in-BeforeHeader : goal.returns-in-BeforeHeader
returns-in-BeforeHeader c =
    subst (IsNext (SomeOf (Rest c.args.self.now.limits (place_of c.args.self.now))) []) (sym c.section_part-in-BeforeHeader.ensures)
    (next_before_header c.args.self.now c.in-BeforeHeader.form c.in-BeforeHeader.is)

pub returns-in-Interim : goal.returns-in-Interim
returns-in-Interim c =
    next_interim c.args.self.now c.in-Interim.form c.in-Interim.before c.in-Interim.status c.next_part-in-Interim.result c.in-Interim.is c.requires c.next_part-in-Interim.ensures

pub returns-in-Header : goal.returns-in-Header
returns-in-Header c = next_header c.args.self.now c.in-Header.form c.next_part-in-Header.result c.in-Header.is c.requires c.next_part-in-Header.ensures

pub returns-in-Trailers : goal.returns-in-Trailers
returns-in-Trailers c = next_trailers c.args.self.now c.in-Trailers.form c.next_part-in-Trailers.result c.in-Trailers.is c.requires c.next_part-in-Trailers.ensures

pub returns-in-Padding : goal.returns-in-Padding
returns-in-Padding c = next_padding c.args.self.now c.in-Padding.before c.in-Padding.is
