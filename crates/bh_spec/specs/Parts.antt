-- The numbers of the parts.
use Rattle.std.specs.Prelude.{ℕ}
use Rattle.bh_spec.specs.declared.Part.{Part}
use Rattle.bh_spec.specs.declared.Part.TheVariants.{Framing, MethodLength, Method, SchemeLength, Scheme, AuthorityLength, Authority, PathLength, Path, Status, SectionLength, NameLength, Name, ValueLength, Value, ContentLength, ChunkLength, Content, Padding}

abbrev pub number_of : Part → ℕ
number_of Framing = 1
number_of MethodLength = 2
number_of Method = 3
number_of SchemeLength = 4
number_of Scheme = 5
number_of AuthorityLength = 6
number_of Authority = 7
number_of PathLength = 8
number_of Path = 9
number_of Status = 10
number_of SectionLength = 11
number_of NameLength = 12
number_of Name = 13
number_of ValueLength = 14
number_of Value = 15
number_of ContentLength = 16
number_of ChunkLength = 17
number_of Content = 18
number_of Padding = 19
