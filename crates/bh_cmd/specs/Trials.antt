-- The input that `trial` makes: a request with so many bytes of content, in chunks of changing sizes.
use Rattle.std.specs.Prelude.{◌≡◌, ◌≤◌, ◌<◌, ◌+◌, ◌*◌, ◌%◌, ◌^◌, ℕ, zero, suc, Bool, List, [], ◌∷◌, ◌++◌, length, take, drop, map, flat_map, codes, Option, Some, None}
use Rattle.std.specs.Fmt.{decimal}
use Rattle.std.specs.List.{range_with_len}
use Rattle.bh_spec.specs.declared.Form.TheVariants.{Indeterminate}
use Rattle.bh_spec.specs.declared.Kind.TheVariants.{Request}
use Rattle.bh_spec.specs.declared.Omitted.TheVariants.{Nothing}
use Rattle.bh_spec.specs.Answers.{whole, IsAnswer}
use Rattle.bh_spec.specs.Bounds.{default_bounds}
use Rattle.bh_spec.specs.Bytes.{AreBytes}
use Rattle.bh_spec.specs.Integers.{int}
use Rattle.bh_spec.specs.Messages.{Field, Control, Message, request}
use Rattle.bh_spec.specs.Spelling.{framing}
use Rattle.bh_spec.specs.Reports.{summary}
use Rattle.bh_spec.specs.declared.Summary.{Summary}
use Rattle.bh_spec.specs.Canonical.{string, section, start}
use Rattle.bh_base.specs.Steps.{Step, Read, Write, Entry, is_empty}
use Rattle.bh_base.specs.SurePorts.{added}

-- the byte of content numbered k, and so many of them from the one numbered k on
abbrev pub content_byte : ℕ → ℕ
content_byte k = (31 * k + 7) % 256

abbrev pub content_from : ℕ → ℕ → List ℕ
content_from k n = map content_byte (range_with_len k n)

-- the chunk numbered i has so many bytes, or all that are left
abbrev pub chunk_size : ℕ → ℕ
chunk_size i = 1 + (37 * i) % 1000

-- the bytes in chunks, of which the first has the number i, in at most so many turns
abbrev pub chunks_within : ℕ → ℕ → List ℕ → List (List ℕ)
chunks_within zero i bytes = []
chunks_within (suc turns) i [] = []
chunks_within (suc turns) i (byte ∷ rest) = take (chunk_size i) (byte ∷ rest)
    ∷ chunks_within turns (i + 1) (drop (chunk_size i) (byte ∷ rest))

-- each chunk with its length before it, from the chunk numbered i and the byte numbered k on, of which so many are left
abbrev pub chunks_from : ℕ → ℕ → ℕ → List ℕ
chunks_from i k n = flat_map string (chunks_within n i (content_from k n))

-- the numbers that end the chunks and the empty trailer section
abbrev pub ending : List ℕ
ending = int 0 ++ int 0

abbrev pub trial_control : Control
trial_control = record { method = codes "POST"; scheme = codes "https"; authority = []; path = codes "/trial" }

abbrev pub trial_fields : ℕ → List Field
trial_fields n = record { name = codes "x-trial"; value = decimal n } ∷ []

abbrev pub opening : ℕ → List ℕ
opening n = int (framing Request Indeterminate) ++ (start Indeterminate (request trial_control) ++ section Indeterminate (trial_fields n))

abbrev pub trial : ℕ → List ℕ
trial n = opening n ++ (chunks_from 0 0 n ++ ending)

-- the message that it spells
abbrev pub trial_message : ℕ → Message
trial_message n = record { start = request trial_control; fields = trial_fields n; content = content_from 0 n; trailers = [] }

-- its summary
abbrev pub trial_summary : ℕ → Summary
trial_summary n = summary (trial_message n) Nothing 0 (length (trial n))

-- It is a message within the default limits, which leaves out nothing and has no padding.
abbrev pub TrialIsMessage : Type 0
TrialIsMessage = (n : ℕ) → n ≤ 67108864 → IsAnswer default_bounds (trial n) (whole (trial_message n) Nothing 0)

-- What contracts see of the port that makes this input.
pub record TrialView : Type 0 where
  -- the bytes still to come
  pub left : List ℕ
  -- how many bytes went out, and their sum, both modulo 2 ^ 64
  pub written : ℕ
  pub sum : ℕ

-- a read takes the next bytes, and none only where nothing is left; it leaves what was counted
pub record TrialRead (v : TrialView) (x : Step) (w : TrialView) : Type 0 where
  pub len : ℕ
  pub bytes : List ℕ
  pub call : x ≡ Read len bytes
  pub fits : length bytes ≤ len
  pub comes : v.left ≡ bytes ++ w.left
  pub end : 0 < len → bytes ≡ [] → w.left ≡ []
  pub same_written : w.written ≡ v.written
  pub same_sum : w.sum ≡ v.sum

-- a write takes the whole piece, which has bytes, and counts it
abbrev pub after_counting : TrialView → List ℕ → TrialView
after_counting v piece = record v { written = (v.written + length piece) % 2 ^ 64; sum = added v.sum piece }

pub record TrialWrite (v : TrialView) (x : Step) (w : TrialView) : Type 0 where
  pub piece : List ℕ
  pub bytes : AreBytes piece
  pub call : x ≡ Write (length piece) piece
  pub after : w ≡ after_counting v piece

abbrev pub trial_left : TrialView → Option (List ℕ)
trial_left v = Some v.left

abbrev pub trial_ended : TrialView → Bool
trial_ended v = is_empty v.left

-- it tells neither what was sent nor a log, and no call of it fails
abbrev pub untold_bytes : TrialView → Option (List ℕ)
untold_bytes v = None

abbrev pub untold_log : TrialView → Option (List Entry)
untold_log v = None

abbrev pub no_faults : TrialView → ℕ
no_faults v = 0

-- a port before its first call
abbrev pub new_trial : ℕ → TrialView
new_trial n = record { left = trial n; written = 0; sum = 0 }
