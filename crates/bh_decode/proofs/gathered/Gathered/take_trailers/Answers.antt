use Rattle.std.proofs.Common.{refl, ◌∙◌}
use Rattle.bh_decode.proofs.Gathering.{adds_trailers}
use Rattle.bh_decode.proofs.gathered.Gathered.take_trailers.Goals as goal

pub returns : goal.returns
returns c =
    adds_trailers c.args.self.now _ c.args.fields.now.lines c.in_ok-self.ensures.lines (c.in_ok-self.ensures.making ∙ c.requires) refl (record { control = refl; status = refl; fields = refl }) refl
