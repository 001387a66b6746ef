-- The numbers of the causes, and the word of each kind, omission, part and cause.
use Rattle.std.specs.Prelude.{ℕ, List, codes}
use Rattle.bh_spec.specs.declared.Kind.{Kind}
use Rattle.bh_spec.specs.declared.Kind.TheVariants.{Request, Response}
use Rattle.bh_spec.specs.declared.Omitted.{Omitted}
use Rattle.bh_spec.specs.declared.Omitted.TheVariants.{Nothing, Trailers, Both}
use Rattle.bh_spec.specs.declared.Part.{Part}
use Rattle.bh_spec.specs.declared.Part.TheVariants as part
use Rattle.bh_spec.specs.declared.H1Why.{H1Why}
use Rattle.bh_spec.specs.declared.H1Why.TheVariants as why
use Rattle.bh_spec.specs.declared.NoForm.{NoForm}
use Rattle.bh_spec.specs.declared.NoForm.TheVariants as form

abbrev pub why_number : H1Why → ℕ
why_number why.HeadForm = 1
why_number why.HeadLimit = 2
why_number why.Target = 3
why_number why.Host = 4
why_number why.Connect = 5
why_number why.Switching = 6
why_number why.Coding = 7
why_number why.Length = 8
why_number why.ChunkLine = 9
why_number why.ChunkLineLimit = 10
why_number why.ChunkEnd = 11
why_number why.TrailerForm = 12
why_number why.TrailerLimit = 13
why_number why.Ended = 14
why_number why.Extra = 15
why_number why.TooLong = 16
why_number why.Interims = 17

abbrev pub form_number : NoForm → ℕ
form_number form.Pseudo = 1
form_number form.ValueByte = 2
form_number form.Host = 3
form_number form.Connect = 4
form_number form.Scheme = 5
form_number form.Switching = 6
form_number form.Bodyless = 7
form_number form.LengthField = 8
form_number (form.LengthDiffers field content) = 9
form_number form.TrailersCounted = 10

abbrev pub kind_text : Kind → List ℕ
kind_text Request = codes "request"
kind_text Response = codes "response"

abbrev pub omitted_text : Omitted → List ℕ
omitted_text Nothing = codes "none"
omitted_text Trailers = codes "trailers"
omitted_text Both = codes "both"

abbrev pub part_text : Part → List ℕ
part_text part.Framing = codes "framing"
part_text part.MethodLength = codes "method-length"
part_text part.Method = codes "method"
part_text part.SchemeLength = codes "scheme-length"
part_text part.Scheme = codes "scheme"
part_text part.AuthorityLength = codes "authority-length"
part_text part.Authority = codes "authority"
part_text part.PathLength = codes "path-length"
part_text part.Path = codes "path"
part_text part.Status = codes "status"
part_text part.SectionLength = codes "section-length"
part_text part.NameLength = codes "name-length"
part_text part.Name = codes "name"
part_text part.ValueLength = codes "value-length"
part_text part.Value = codes "value"
part_text part.ContentLength = codes "content-length"
part_text part.ChunkLength = codes "chunk-length"
part_text part.Content = codes "content"
part_text part.Padding = codes "padding"

abbrev pub why_text : H1Why → List ℕ
why_text why.HeadForm = codes "head-form"
why_text why.HeadLimit = codes "head-limit"
why_text why.Target = codes "target"
why_text why.Host = codes "host"
why_text why.Connect = codes "connect"
why_text why.Switching = codes "switching"
why_text why.Coding = codes "coding"
why_text why.Length = codes "length"
why_text why.ChunkLine = codes "chunk-line"
why_text why.ChunkLineLimit = codes "chunk-line-limit"
why_text why.ChunkEnd = codes "chunk-end"
why_text why.TrailerForm = codes "trailer-form"
why_text why.TrailerLimit = codes "trailer-limit"
why_text why.Ended = codes "ended"
why_text why.Extra = codes "extra"
why_text why.TooLong = codes "too-long"
why_text why.Interims = codes "interims"

abbrev pub form_text : NoForm → List ℕ
form_text form.Pseudo = codes "pseudo"
form_text form.ValueByte = codes "value-byte"
form_text form.Host = codes "host"
form_text form.Connect = codes "connect"
form_text form.Scheme = codes "scheme"
form_text form.Switching = codes "switching"
form_text form.Bodyless = codes "bodyless"
form_text form.LengthField = codes "length-field"
form_text (form.LengthDiffers field content) = codes "length-differs"
form_text form.TrailersCounted = codes "trailers-counted"
