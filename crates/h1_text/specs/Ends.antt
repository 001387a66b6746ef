-- What goes out of a whole chunk, and at the end of a message.
use Rattle.std.specs.Prelude.{ℕ, Bool, true, false, List, []}
use Rattle.bh_spec.specs.Messages.{Field}
use Rattle.bh_stream.specs.Outputs.{Output, plain, shown}
use Rattle.h1_text.specs.Owed.{chunk_out, body_out, final_out, framing_left}
use Rattle.h1_text.specs.declared.stage.Stage.{Stage}
use Rattle.h1_text.specs.declared.stage.Stage.TheVariants as stages

-- a whole chunk, or its content alone
abbrev pub piece_out : Bool → List ℕ → Output
piece_out true full = chunk_out full
piece_out false full = shown full

-- with these trailers
abbrev pub end_out : Stage → List ℕ → List ℕ → List Field → Output
end_out stages.Start front kept trailers = []
end_out stages.Held front kept trailers = final_out (framing_left [] trailers) front [] trailers
end_out stages.Bodyless front kept trailers = plain front
end_out (stages.Body chunked) front kept trailers = body_out chunked kept trailers
end_out stages.Ended front kept trailers = []
