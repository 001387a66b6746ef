-- Where the decoder of a call stands behind what it handed out.
use Rattle.std.specs.Prelude.{ℕ, ◌≡◌, ◌+◌, []}
use Rattle.bh_spec.specs.declared.Form.{Form}
use Rattle.bh_push.specs.Decoders.{At, in_status, behind_head, in_padding, IsBehindContent}
use Rattle.bh_stream.specs.declared.traits.Event.{Event}
use Rattle.bh_stream.specs.declared.traits.Event.TheVariants as events
use Rattle.bh_stream.specs.declared.traits.Pushed.{Pushed}
use Rattle.bh_stream.specs.declared.traits.Pushed.TheVariants as pushed

-- right behind the thing of an event: it comes with its last byte
abbrev pub IsRightOf : Event → At → Type 0
IsRightOf (events.Interim status) w = (form : Form) × (before : ℕ) × (w ≡ in_status form (before + 1) [])
IsRightOf events.Head w = (form : Form) × (w ≡ behind_head form)
IsRightOf events.Trailers w = w ≡ in_padding 0

-- No byte behind the thing that was handed out was taken.
abbrev pub IsRightBehind : {R : Type 0} → Pushed R → At → Type 0
IsRightBehind pushed.Need w = Unit {0}
IsRightBehind (pushed.Content taken bytes) w = IsBehindContent w
IsRightBehind (pushed.Whole taken event) w = IsRightOf event w
IsRightBehind (pushed.Refused r) w = Unit {0}
