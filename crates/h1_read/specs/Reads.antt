-- The reader of a message with what it counts: what contracts see of it, and what is true of it between two calls.
use Rattle.std.specs.Prelude.{ℕ, ◌≡◌, Bool, false, Some}
use Rattle.bh_spec.specs.declared.Kind.{Kind}
use Rattle.bh_spec.specs.Bounds.{IsWithin}
use Rattle.h1_read.specs.declared.reader.Reader.{Reader}
use Rattle.h1_read.specs.HeadJudges.{view_of}
use Rattle.h1_read.specs.Readings.{View}
use Rattle.h1_read.specs.Readers.{setting_of, place_of, IsBuiltReader, Stands}

abbrev pub view_at : Reader → ℕ → Kind → ℕ → ℕ → Bool → View
view_at r taken kind lines content refused = record {
  setting = setting_of r;
  place = place_of r;
  taken = taken;
  kind = kind;
  lines = lines;
  content = content;
  refused = refused;
  head = (view_of r.judge).head;
  fields = Some (view_of r.judge).lines;
}

-- The readers are of the same limits, the bytes that were taken are within that of the input, and unless the message was refused, the
-- readers stand somewhere in it.
pub record IsKept (r : Reader) (taken : ℕ) (refused : Bool) : Type 0 where
  pub built : IsBuiltReader r
  pub stands : refused ≡ false → Stands r
  pub input : IsWithin r.judge.limits.input taken
