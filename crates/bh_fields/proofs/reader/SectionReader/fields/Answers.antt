use Rattle.std.proofs.Common.{subst}
use Rattle.bh_fields.specs.Middle.{SectionView}
use Rattle.bh_fields.specs.Points.{point_of}
use Rattle.bh_fields.specs.Readers.{AreStored}
use Rattle.bh_fields.proofs.Memory.{sized_stored}
use Rattle.bh_fields.proofs.reader.SectionReader.fields.Goals as goal

pub returns-clause-stored : goal.returns-clause-stored
returns-clause-stored c =
    subst (λ (v : SectionView). AreStored v.limits c.self.inside.walk.fields) c.self.view_is
    (sized_stored (point_of c.self.inside.walk) c.self.invariant.sized)
