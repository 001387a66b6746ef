use Rattle.std.proofs.Common.{arith}
use Rattle.h1_text.proofs.Chunking.{is_nil, isnt_nil, last_sent, chunk_sent, chunk_failed}
use Rattle.h1_text.proofs.bodies.send_last.Goals as goal

pub returns-then-is_empty : goal.returns-then-is_empty
returns-then-is_empty g c = last_sent c.args.kept.now c.args.trailers.now.lines c.write_last.result (is_nil c.args.kept.now c.if-is_empty.ensures) c.write_last.ensures.wrote

pub returns-in_err-write_chunk : goal.returns-in_err-write_chunk
returns-in_err-write_chunk g c =
    chunk_failed c.args.kept.now c.args.trailers.now.lines c.write_chunk.result c.from_residual.result (isnt_nil c.args.kept.now c.if-is_empty.ensures) (omega (arith, c.requires.few)) c.in_err-write_chunk.was
    c.from_residual.ensures.0 c.write_chunk.ensures.wrote

pub returns : goal.returns
returns g c =
    chunk_sent c.args.kept.now c.args.trailers.now.lines c.write_chunk.result c.write_last-2.result (isnt_nil c.args.kept.now c.if-is_empty.ensures) (omega (arith, c.requires.few)) c.in_ok-write_chunk.was
    c.write_chunk.ensures.wrote c.write_last-2.ensures.wrote
