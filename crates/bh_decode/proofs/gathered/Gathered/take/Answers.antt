use Rattle.std.proofs.Common.{map, refl}
use Rattle.bh_spec.specs.Items.{content_byte}
use Rattle.bh_decode.proofs.Gathering.{adds_content, ends_some}
use Rattle.bh_decode.proofs.gathered.Gathered.take.Goals as goal

pub returns-in_ok-extend_from_slice-in-Content-clause-taken : goal.returns-in_ok-extend_from_slice-in-Content-clause-taken
returns-in_ok-extend_from_slice-in-Content-clause-taken c =
    let h = c.in-Content.ensures.hands in
    let bytes = c.in-Content.bytes.now in (
      ends_some c.args.piece.now bytes c.in-Content.taken h.1,
      map content_byte bytes,
      h.0,
      adds_content c.args.self.now _ bytes c.in_ok-extend_from_slice-in-Content.ensures.items refl (record { control = refl; status = refl; fields = refl }) refl,
    )
