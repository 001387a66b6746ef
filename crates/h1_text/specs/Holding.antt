-- What goes out of content, and what is held of it.
use Rattle.std.specs.Prelude.{◌≡◌, ◌≤◌, ◌+◌, ℕ, Bool, true, List, ◌++◌, length, Result}
use Rattle.bh_spec.specs.Messages.{Field}
use Rattle.bh_base.specs.declared.failed.Failed.{Failed}
use Rattle.bh_base.specs.Steps.{Step}
use Rattle.bh_stream.specs.Outputs.{Output, shown_in}
use Rattle.bh_stream.specs.Jobs.{SendsRest}
use Rattle.h1_text.specs.Owed.{body_out}

-- So much was held, these bytes came, and now so much is held, which isn't a whole chunk: an output went out that begins every body of what
-- was held, these bytes and more.
pub record Keeps {S : Type 0} (step : S → Step → S → Type 0) (chunked : Bool) (kept bytes keeps : List ℕ) (s : S) (r : Result (Unit
    {0}) Failed) (t : S) : Type 0 where
  pub text : Output
  pub sends : SendsRest step true text s r t
  pub few : length keeps ≤ 8191
  pub counts : shown_in text + length keeps ≡ length kept + length bytes
  pub splits : (content : List ℕ) (trailers : List Field)
      → body_out chunked (kept ++ (bytes ++ content)) trailers ≡ text ++ body_out chunked (keeps ++ content) trailers
