-- What the decoder and the writer know at the start of a translation from HTTP/1.1.
use Rattle.std.proofs.Common.{◌≡◌, ℕ, Bool, true, false, List, Option, refl, sym, subst}
use Rattle.std.specs.Io.KnownBytes.{IsAtEnd}
use Rattle.bh_spec.specs.declared.H1Why.{H1Why}
use Rattle.bh_spec.specs.declared.Summary.{Summary}
use Rattle.bh_spec.specs.Bounds.{Bounds}
use Rattle.bh_spec.specs.Texts.{Text, bytes_of}
use Rattle.bh_spec.specs.Viable.{IsMessageText}
use Rattle.bh_spec.specs.Canonical.{canon}
use Rattle.bh_spec.specs.Items.{Item}
use Rattle.bh_base.specs.Steps.{Step, Entry, ReadFacts, WriteFacts, ReadLeaves, WriteLeaves, meanings}
use Rattle.bh_model.specs.Ranges.{AreLimits}
use Rattle.bh_stream.specs.Jobs.{Fits}
use Rattle.bh_stream.specs.Outputs.{written}
use Rattle.bh_stream.specs.Logs.{HasBody}
use Rattle.bh_stream.specs.Formats.{Knows, ShowsContent}
use Rattle.bh_stream.specs.Messages.{Spelled, items_in}
use Rattle.bh_stream.specs.Runs.{Streams}
use Rattle.bh_stream.specs.declared.streaming.End.{End}
use Rattle.bh_stream.proofs.Coming.{fits_all}
use Rattle.bh_reading.specs.Coming.{MessageComes}
use Rattle.bh_reading.proofs.Coming.{items_come}
use Rattle.bh_canonical.specs.Owed.{message_owed}
use Rattle.bh_canonical.specs.Writers.{Writing, before_all, owed, takes}
use Rattle.bh_canonical.proofs.Owes.{IsLeftOut, owes_items, shows_items}
use Rattle.h1_spec.specs.declared.Scheme1.{Scheme1}
use Rattle.h1_spec.proofs.Valid.{read_is_valid}
use Rattle.h1_read.specs.Readings.{View, rest, room, Moved, Refuses, misses, tells, IsAtStart}
use Rattle.h1_read.specs.ReadingLaws.{http1_reading_laws}
use Rattle.h1_read.specs.Laws.{IsHttp1Text}
use Rattle.h1_read.proofs.AtStart.{left_out_is_empty, knows_http1, few_from_start}
use Rattle.h1_read.proofs.Judging.{judges_as_from}
use Rattle.bh_translate.specs.From.{FromFacts}
use Rattle.bh_translate.proofs.FromFacts.{from_facts}

module _ (L : Bounds) (limits : AreLimits L) (scheme : Scheme1) (to_head : Bool) where
  is_left_out : (s : Spelled) (t : Text) → IsHttp1Text L scheme to_head s t → IsLeftOut s.message s.omitted
  is_left_out s t h = left_out_is_empty L scheme to_head s t h

  -- the writer at the start owes the canonical text, of which each front shows the content that it has
  owes : (s : Spelled) (t : Text) → IsHttp1Text L scheme to_head s t → written (message_owed false (items_in s)) ≡ canon s.message
  owes s t h = owes_items s.message s.omitted s.padding (is_left_out s t h)

  shows : ShowsContent (IsHttp1Text L scheme to_head) items_in (HasBody (IsMessageText L)) (message_owed false)
  shows s t h = shows_items L limits s.message (read_is_valid L h.marked.scheme to_head s.message (bytes_of t) h.marked.whole) h.marked.whole.fits s.omitted s.padding (is_left_out s t h)

  module _ (v : View) (start : IsAtStart L scheme to_head v) where
    knows : Knows (IsHttp1Text L scheme to_head) items_in (λ s. canon s.message) L.input rest room v (message_owed false)
    knows = knows_http1 L scheme to_head v limits start canon (message_owed false) owes refl

    comes : (w : Writing) → w ≡ before_all → (q : List Item) (t : Text) → rest v q t → takes w q
    comes w at q t h =
        let own = knows.alone q t h in
        let s = own.0 in
        let whole = own.2.marked.whole in
        subst (λ (x : Writing). takes x q) (sym at)
        (L, limits, subst (MessageComes L false) (sym own.1) (items_come L s.message s.omitted s.padding (read_is_valid L own.2.marked.scheme to_head s.message (bytes_of t) whole) whole.fits))

    -- what is handed out is what the writer takes
    pub from_fits : (w : Writing) → w ≡ before_all → Fits rest Moved v (takes w)
    from_fits w at = fits_all http1_reading_laws v (takes w) (comes w at)

    module _ {S : Type 0} {read write : S → Step → S → Type 0} {left sent : S → Option (List ℕ)} {read_faults write_faults : S → ℕ} {ended : S → Bool} {log : S → Option (List Entry)}
        (read_law : (s t : S) (x : Step) → read s x t → ReadFacts left read_faults ended s x t)
        (ended_law : (s : S) → ended s ≡ true → IsAtEnd (left s))
        (write_law : (s t : S) (x : Step) → write s x t → WriteFacts sent write_faults s x t)
        (read_leaves : (s t : S) (x : Step) → read s x t → ReadLeaves sent write_faults log s x t)
        (write_leaves : (s t : S) (x : Step) → write s x t → WriteLeaves left read_faults ended log s x t) where
      pub from_at : (w : Writing) → w ≡ before_all → (s t : S) (r : End Summary H1Why) → Streams rest room Moved Refuses tells misses true 8191 read write v (owed w) s r t
          → FromFacts L scheme to_head read write (meanings left sent read_faults write_faults) log s r t
      from_at w at s t r h =
          from_facts L limits scheme to_head v (message_owed false) knows (judges_as_from L scheme to_head v limits start) refl (few_from_start L scheme to_head v limits start) shows read_law ended_law write_law read_leaves write_leaves s t r
          (subst (λ (x : Writing). Streams rest room Moved Refuses tells misses true 8191 read write v (owed x) s r t) at h)
