use Rattle.h1_text.proofs.Cleaned.{content_place}
use Rattle.h1_text.proofs.job.Http1WriterJobJudged.content.Goals as goal

pub content-requires-clause-place : goal.content-requires-clause-place
content-requires-clause-place g c = content_place c.args.self.now c.args.bytes.now c.requires.some c.requires.fits
