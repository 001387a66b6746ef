use Rattle.std.proofs.Common.{◌∙◌, drop, ap, sym, subst, vec_len}
use Rattle.h1_body.specs.Readers.{BodyView, AwaitsMoreWithin}
use Rattle.h1_body.proofs.Sounds.{sound_awaits}
use Rattle.h1_body.proofs.reader.BodyReader.may_end.Goals as goal

pub returns-clause-awaits : goal.returns-clause-awaits
returns-clause-awaits c = λ never was.
    let r = c.self.inside.reading in
    subst (λ (v : BodyView). AwaitsMoreWithin v.section v.at) c.self.view_is
    (sound_awaits c.self.inside.refused r.content.phase r.ended r.trailers.section (drop 2 r.trailers.head.seen) r.trailers.head (vec_len r.trailers.spans) r.trailers.fields
    (ap (λ (v : BodyView). v.refused) c.self.view_is ∙ was) (sym c.may_end.ensures ∙ never) c.self.invariant)
