-- Control data of a request in a reader (RFC 9292, section 3.4): what has been read, and what a phase reads.
use Rattle.std.specs.Prelude.{ℕ, zero, suc, List}
use Rattle.std.specs.Char.{to_ascii_lowercase}
use Rattle.bh_spec.specs.declared.Part.{Part}
use Rattle.bh_spec.specs.declared.Part.TheVariants as parts
use Rattle.bh_spec.specs.Messages.{Control}
use Rattle.bh_control.specs.declared.strings.Place.{Place}
use Rattle.bh_control.specs.declared.strings.Place.TheVariants.{Method, Scheme, Authority, Path}
use Rattle.bh_control.specs.declared.progress.Phase.{Phase}
use Rattle.bh_control.specs.declared.progress.Phase.TheVariants.{Idle, Length, Bytes, Whole, Refused}

-- what has been read: the phase, the bytes of a number that is begun, and the control data so far, the scheme in lower case
pub record Read : Type 0 where
  pub phase : Phase
  pub begun : List ℕ
  pub control : Control

abbrev pub long_of : Place → Part
long_of Method = parts.MethodLength
long_of Scheme = parts.SchemeLength
long_of Authority = parts.AuthorityLength
long_of Path = parts.PathLength

abbrev pub part_of : Place → Part
part_of Method = parts.Method
part_of Scheme = parts.Scheme
part_of Authority = parts.Authority
part_of Path = parts.Path

abbrev pub string_at : Place → Control → List ℕ
string_at Method c = c.method
string_at Scheme c = c.scheme
string_at Authority c = c.authority
string_at Path c = c.path

abbrev pub with_string : Place → List ℕ → Control → Control
with_string Method s c = record { method = s; scheme = c.scheme; authority = c.authority; path = c.path }
with_string Scheme s c = record { method = c.method; scheme = s; authority = c.authority; path = c.path }
with_string Authority s c = record { method = c.method; scheme = c.scheme; authority = s; path = c.path }
with_string Path s c = record { method = c.method; scheme = c.scheme; authority = c.authority; path = s }

-- as a byte is kept
abbrev pub kept_byte : Place → ℕ → ℕ
kept_byte Method byte = byte
kept_byte Scheme byte = to_ascii_lowercase byte
kept_byte Authority byte = byte
kept_byte Path byte = byte

-- the part of the next byte
abbrev pub part_now : Phase → Part
part_now Idle = parts.MethodLength
part_now (Length place) = long_of place
part_now (Bytes place left) = part_of place
part_now Whole = parts.Path
part_now Refused = parts.Path

-- behind the string of the place
abbrev pub phase_behind : Place → Phase
phase_behind Method = Length Scheme
phase_behind Scheme = Length Authority
phase_behind Authority = Length Path
phase_behind Path = Whole

-- so many bytes before the end of the string
abbrev pub phase_at : Place → ℕ → Phase
phase_at place zero = phase_behind place
phase_at place (suc left) = Bytes place (suc left)
