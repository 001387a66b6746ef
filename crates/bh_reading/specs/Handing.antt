-- What a decoder shows of the items that it handed out.
use Rattle.std.specs.Prelude.{◌≡◌, Option, Some, List}
use Rattle.bh_spec.specs.Messages.{Field}
use Rattle.bh_spec.specs.Items.{Item, interim_response, head, trailer_section, Head}
use Rattle.bh_stream.specs.declared.traits.Event.{Event}
use Rattle.bh_stream.specs.declared.traits.Event.TheVariants as events

-- the item of an event, where this head is shown, and these lines of the section that was handed out last
abbrev pub ShowsAs : Option Head → Option (List Field) → Event → Item → Type 0
ShowsAs shown lines (events.Interim status) item = (fields : List Field) × (item ≡ interim_response status fields) × (lines ≡ Some fields)
ShowsAs shown lines events.Head item = (of : Head) × (fields : List Field) × (item ≡ head of fields) × (shown ≡ Some of)
    × (lines ≡ Some fields)
ShowsAs shown lines events.Trailers item = (fields : List Field) × (item ≡ trailer_section fields) × (lines ≡ Some fields)
