use Rattle.std.proofs.Common.{refl, ◌∙◌}
use Rattle.bh_decode.proofs.Gathering.{adds_interim}
use Rattle.bh_decode.proofs.gathered.Gathered.add_interim.Goals as goal

pub returns : goal.returns
returns c =
    adds_interim c.args.self.now _ _ c.args.status c.args.fields.now.lines c.in_ok-push.ensures.ok refl c.in_ok-fields.ensures.lines (c.in_ok-fields.ensures.making ∙ c.requires)
    (record { control = refl; status = refl; fields = refl }) refl refl
