use Rattle.std.proofs.Common.{◌≡◌, ℕ, List, ◌++◌, ap, ◌∙◌, drop, arith}
use Rattle.std.proofs.lemmas.Grind.{common_steps}
use Rattle.h1_spec.specs.Grammar.{crlf}
use Rattle.h1_text.proofs.Chunking.{whole_plain, whole_chunk}
use Rattle.h1_text.proofs.bodies.send_whole.Goals as goal

pub returns-then-chunked-clause-sends : goal.returns-then-chunked-clause-sends
returns-then-chunked-clause-sends g c =
    let items : List ℕ = c.args.chunk.now.items in
    let now_is : c.extend_from_slice.new.self.items ≡ items ++ crlf = search (arith, common_steps) in
    whole_chunk c.args.chunked items c.deref.result.now c.write_all.result c.if-chunked.true c.requires.framed c.requires.whole (c.deref.ensures.value ∙ now_is) c.write_all.ensures

pub returns-clause-sends : goal.returns-clause-sends
returns-clause-sends g c =
    whole_plain c.args.chunked c.args.chunk.now.items c.content_of.result.now c.write_all-2.result c.if-chunked.false (c.content_of.ensures ∙ ap (drop 6) c.deref-2.ensures.value) c.write_all-2.ensures
