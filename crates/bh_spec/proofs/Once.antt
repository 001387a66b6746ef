-- A canonical text is one message's.
use Rattle.std.proofs.Common.{List, ◌∙◌}
use Rattle.bh_spec.specs.declared.Omitted.TheVariants.{Nothing}
use Rattle.bh_spec.specs.Bounds.{no_bounds}
use Rattle.bh_spec.specs.Messages.{Field, Start, request, response, Message}
use Rattle.bh_spec.specs.Canonical.{canon, FieldsFit, StartFits, Fits}
use Rattle.bh_spec.specs.Laws.{CanonOnce}
use Rattle.bh_spec.proofs.Whole.{one_reading}
use Rattle.bh_spec.proofs.Written.{canonical}

no_limit : (m : Message) → Fits no_bounds m
no_limit m = record { start = start m.start; fields = fields m.fields; trailers = fields m.trailers }
  where
    fields : (fs : List Field) → FieldsFit no_bounds fs
    fields fs = record { names = λ k d i. tt; values = λ k d i. tt; total = tt }

    start : (a : Start) → StartFits no_bounds a
    start (request c) = record { method = tt; scheme = tt; authority = tt; path = tt }
    start (response is s) = (tt, λ k d i. fields _)

pub canon_once : CanonOnce
canon_once m n v a w b e =
    let x = canonical no_bounds m v a (no_limit m) in
    let y = canonical no_bounds n w b (no_limit n) in
    (one_reading no_bounds no_bounds m n Nothing Nothing 0 0 (canon n) (record { text = x.text; spelled = x.spelled; same = x.same ∙ e }) y).0
