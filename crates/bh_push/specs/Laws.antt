-- The laws of a decoder.
use Rattle.std.specs.Prelude.{List, []}
use Rattle.bh_spec.specs.Bounds.{Bounds}
use Rattle.bh_spec.specs.Runs.{Call, AreTaken, IsMessageStart, ItemsOfAMessage, ExactPlace}
use Rattle.bh_push.specs.Decoders.{At, Rest, in_framing}

-- From the start the texts are those of messages, and the items are those of the message.
abbrev pub StartsWithAMessage : Type 0
StartsWithAMessage = IsMessageStart Rest (in_framing [])

-- What was yielded from the start is of each message that continues the bytes taken, and the rest is what the state says.
abbrev pub YieldsAMessage : Type 0
YieldsAMessage = (L : Bounds) (calls : List (Call At)) → AreTaken Rest L (in_framing []) calls
    → ItemsOfAMessage Rest L (in_framing []) calls

-- However the input is cut into calls, what the last one says is the answer for the input.
abbrev pub ExactForEveryCut : Type 0
ExactForEveryCut = (L : Bounds) (calls : List (Call At)) → AreTaken Rest L (in_framing []) calls → ExactPlace Rest L (in_framing []) calls
