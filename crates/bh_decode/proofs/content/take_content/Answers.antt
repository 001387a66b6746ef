use Rattle.std.proofs.Common.{◌<◌, ℕ}
use Rattle.std.proofs.lemmas.List.Elements.{All-from_get_or}
use Rattle.bh_decode.proofs.Runs.{content_whole, content_cut}
use Rattle.bh_decode.proofs.content.take_content.Goals as goal

pub returns-then-bytes-long-clause-cut : goal.returns-then-bytes-long-clause-cut
returns-then-bytes-long-clause-cut c =
    content_cut c.args.bytes.now c.args.long (All-from_get_or (λ (b : ℕ). b < 256) c.args.bytes.now 0 (λ i inside. (c.type_inv.bytes i).fits)) c.if-bytes-long.true

pub returns-clause-whole : goal.returns-clause-whole
returns-clause-whole c =
    content_whole c.args.bytes.now c.args.long (All-from_get_or (λ (b : ℕ). b < 256) c.args.bytes.now 0 (λ i inside. (c.type_inv.bytes i).fits)) c.if-bytes-long.false
