-- What stands behind the header section: content, trailer section and padding (RFC 9292, sections 3.7 and 3.8).
use Rattle.std.specs.Prelude.{ℕ, ◌≡◌, ◌<◌, List, [], length, All, replicate}
use Rattle.std.specs.List.{concat}
use Rattle.bh_spec.specs.Bounds.{Bounds}
use Rattle.bh_spec.specs.Messages.{Field}
use Rattle.bh_spec.specs.Texts.{Text, IsNumber, IsRun, ◌then◌, AreEach, IsString}
use Rattle.bh_spec.specs.Sections.{IsSection}
use Rattle.bh_spec.specs.declared.Part.TheVariants as parts
use Rattle.bh_spec.specs.declared.Form.{Form}
use Rattle.bh_spec.specs.declared.Form.TheVariants.{Known, Indeterminate}
use Rattle.bh_spec.specs.declared.Omitted.{Omitted}
use Rattle.bh_spec.specs.declared.Omitted.TheVariants.{Nothing, Trailers, Both}

-- The content: its length and its bytes, or chunks that aren't empty and an integer 0.
abbrev pub IsBody : Form → List ℕ → Text → Type 0
IsBody Known content t = IsString parts.ContentLength parts.Content content t
IsBody Indeterminate content t = (chunks : List (List ℕ)) × (concat chunks ≡ content) × All (λ chunk. 0 < length chunk) chunks
    × (AreEach (IsString parts.ChunkLength parts.Content) chunks then IsNumber parts.ChunkLength 0) t

-- The content, the trailer section and zeros of padding; or an empty trailer section is left out, or empty content too.
-- Nothing follows what is left out, so there the padding is 0.
abbrev pub IsTail : Bounds → Form → List ℕ → List Field → Omitted → ℕ → Text → Type 0
IsTail L form content trailers Nothing padding t =
    (IsBody form content then IsSection L form trailers then IsRun parts.Padding (replicate padding 0)) t
IsTail L form content trailers Trailers padding t = (trailers ≡ []) × (padding ≡ 0) × IsBody form content t
IsTail L form content trailers Both padding t = (content ≡ []) × (trailers ≡ []) × (padding ≡ 0) × (t ≡ [])
