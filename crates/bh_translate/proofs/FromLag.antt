-- How far a translation from HTTP/1.1 lags: content is counted in texts without limits, of which the items of the decoder count all up to
-- where it stands.
use Rattle.std.proofs.Common.{◌≡◌, ◌≤◌, ◌+◌, ◌⊎◌, ℕ, Bool, true, List, [], ◌∷◌, ◌++◌, length, take, drop, refl, sym, ◌∙◌, ap, subst, arith, append_assoc, append-nil, length-append, length-take, take-append-drop, inl, inr}
use Rattle.bh_spec.specs.declared.H1Why.{H1Why}
use Rattle.bh_spec.specs.declared.Summary.{Summary}
use Rattle.bh_spec.specs.Bounds.{Bounds, no_bounds}
use Rattle.bh_spec.specs.Texts.{Text, bytes_of, content_in}
use Rattle.bh_spec.specs.Viable.{IsMessageText}
use Rattle.bh_spec.specs.Canonical.{canon}
use Rattle.bh_spec.specs.Items.{Item, ending}
use Rattle.bh_spec.proofs.Marks.{content-append}
use Rattle.bh_base.specs.Steps.{Step, taken, given}
use Rattle.bh_stream.specs.Outputs.{Output, written, shown_in}
use Rattle.bh_stream.specs.Logs.{Begins, HasBody, IsClose, KeepsUp}
use Rattle.bh_stream.specs.Decoding.{content_items, Passing}
use Rattle.bh_stream.specs.Jobs.{Owing}
use Rattle.bh_stream.specs.Messages.{items_in}
use Rattle.bh_stream.specs.Formats.{Knows, ShowsContent}
use Rattle.bh_stream.specs.Points.{Point, LastPoint, EachPoint}
use Rattle.bh_stream.specs.Runs.{Streams}
use Rattle.bh_stream.specs.declared.streaming.End.{End}
use Rattle.bh_stream.proofs.Moving.{bytes-length, content-few, front_of_two}
use Rattle.bh_stream.proofs.LogLaws.{take_front}
use Rattle.bh_stream.proofs.Passings.{pass_moved}
use Rattle.h1_spec.specs.declared.Scheme1.{Scheme1}
use Rattle.h1_spec.specs.Marks.{IsSomeMarked}
use Rattle.h1_read.specs.Readings.{View, rest, room, Moved, Refuses, misses, tells}
use Rattle.h1_read.specs.ReadingLaws.{text_of_two, http1_reading_laws}
use Rattle.h1_read.specs.Laws.{IsHttp1Text}

-- What a text without limits counts in a front of bytes that were decoded, their items count.
abbrev pub CountsAnyway : Bool → View → Type 0
CountsAnyway to_head v = (w : View) (bytes : List ℕ) (i : List Item) → Moved v bytes i w → (front back : Text) (more : List ℕ)
    → IsSomeMarked no_bounds to_head (front ++ back) → bytes ≡ bytes_of front ++ more → content_in front ≤ content_items i

no_front : (front more : Output) → [] ≡ front ++ more → front ≡ []
no_front [] more e = refl
no_front (x ∷ front) more e = absurd (cc)

module _ (L : Bounds) (scheme : Scheme1) (to_head : Bool) (v : View) (owed : Owing) (nothing : owed [] ≡ [])
    (knows : Knows (IsHttp1Text L scheme to_head) items_in (λ s. canon s.message) L.input rest room v owed)
    (shows : ShowsContent (IsHttp1Text L scheme to_head) items_in (HasBody (IsMessageText L)) owed) (anyway : CountsAnyway to_head v) where
  abbrev Counted : List ℕ → ℕ → Type 0
  Counted bytes m = HasBody (IsSomeMarked no_bounds to_head) bytes m

  abbrev Shown : List ℕ → ℕ → Type 0
  Shown bytes n = HasBody (IsMessageText L) bytes n

  -- ---- what was taken

  -- Of the bytes that weren't decoded yet each may be content.
  counted : (w : View) (bytes done pending : List ℕ) (i : List Item) → bytes ≡ done ++ pending → Moved v done i w → (m : ℕ) → Counted bytes m → m ≤ content_items i + length pending
  counted w bytes done pending i e moved m body = by_case (front_of_two done pending front (drop body.long bytes) (sym e ∙ sym (take-append-drop body.long bytes)))
    where
      front : List ℕ
      front = take body.long bytes

      cut : (x y : Text) × (body.text ≡ x ++ y) × (bytes_of x ≡ front) × (bytes_of y ≡ body.begins.rest)
      cut = text_of_two body.text front body.begins.rest body.begins.split

      long : length cut.0 ≡ body.long
      long = omega (arith, bytes-length cut.0, ap (length {A = ℕ}) cut.3, length-take body.long bytes, body.longest.inside)

      count : m ≡ content_in cut.0
      count = sym body.counts ∙ ap content_in (ap (take body.long) cut.2 ∙ subst (λ (k : ℕ). take k (cut.0 ++ cut.1) ≡ cut.0) long (take_front cut.0 cut.1))

      by_case : ((more : List ℕ) × (done ≡ front ++ more)) ⊎ ((mid : List ℕ) × (front ≡ done ++ mid) × (pending ≡ mid ++ drop body.long bytes)) → m ≤ content_items i + length pending
      by_case (inl c) =
          let few = anyway w done i moved cut.0 cut.1 c.0 (subst (IsSomeMarked no_bounds to_head) cut.2 body.spelled) (c.1 ∙ ap (λ (l : List ℕ). l ++ c.0) (sym cut.3)) in
          omega (arith, count, few)
      by_case (inr c) =
          let two = text_of_two cut.0 done c.0 (cut.3 ∙ c.1) in
          let whole : body.text ≡ two.0 ++ (two.1 ++ cut.1) = cut.2 ∙ ap (λ (t : Text). t ++ cut.1) two.2 ∙ append_assoc two.0 two.1 cut.1 in
          let few = anyway w done i moved two.0 (two.1 ++ cut.1) [] (subst (IsSomeMarked no_bounds to_head) whole body.spelled) (sym two.3 ∙ sym (append-nil (bytes_of two.0))) in
          omega (
            arith,
            count,
            few,
            ap content_in two.2,
            content-append two.0 two.1,
            content-few two.1,
            bytes-length two.1,
            ap (length {A = ℕ}) two.4,
            ap (length {A = ℕ}) c.2,
            length-append c.0 (drop body.long bytes),
          )

  -- ---- what was given

  shown : (q : List Item) (t : Text) → rest v q t → (front : Output) → Begins front (owed q) → (n : ℕ) → Shown (written front) n → shown_in front ≤ n
  shown q t h front due n wrote = let m = knows.alone q t h in shows m.0 t m.2 front due.rest (ap owed (sym m.1) ∙ due.split) n wrote

  -- Before anything completes the message nothing is due.
  shown_there : (done : List ℕ) (i : List Item) (w : View) → Passing rest Moved v done i w → (front : Output) → ((q : List Item) → Begins front (owed (i ++ q)))
      → (n : ℕ) → Shown (written front) n → shown_in front ≤ n
  shown_there done i w (inl a) front due n wrote =
      let residual = (http1_reading_laws.leads v a.state a.done i a.moved).residual in
      let q = a.alive.0 in
      shown (i ++ q) (residual.text ++ a.alive.1) (residual.back q a.alive.1 a.alive.2) front (due q) n wrote
  shown_there done i w (inr a) front due n wrote =
      let d = due [] in
      let none : front ≡ [] = no_front front d.rest (sym nothing ∙ ap owed (sym (append-nil i ∙ a.none)) ∙ d.split) in
      omega (arith, ap shown_in none)

  -- ---- the lag

  close_there : (slack : ℕ) (front : List Step) → Point (Passing rest Moved) true v owed slack (taken front) (given front) → IsClose (IsSomeMarked no_bounds to_head) Shown slack front
  close_there slack front p m n read wrote =
      let gives = shown_there p.done p.items p.state p.moved p.front p.due n (subst (λ (l : List ℕ). Shown l n) (sym p.gave) wrote) in
      omega (arith, gives, counted p.state (taken front) p.done p.pending p.items p.split (pass_moved http1_reading_laws p.moved) m read, p.enough)

  close_last : (slack : ℕ) (front : List Step) → LastPoint rest (Passing rest Moved) true v owed slack (taken front) (given front) → IsClose (IsSomeMarked no_bounds to_head) Shown slack front
  close_last slack front p m n read wrote =
      let moved = pass_moved http1_reading_laws p.moved in
      let residual = (http1_reading_laws.leads v p.state (taken front) p.items moved).residual in
      let last : List Item = ending p.omitted p.padding ∷ [] in
      let gives = shown (p.items ++ last) (residual.text ++ []) (residual.back last [] p.whole) p.front p.due n (subst (λ (l : List ℕ). Shown l n) (sym p.gave) wrote) in
      omega (arith, gives, counted p.state (taken front) (taken front) [] p.items (sym (append-nil (taken front))) moved m read, p.enough)

  close_at : (slack : ℕ) (front : List Step) → EachPoint rest (Passing rest Moved) true v owed slack front → IsClose (IsSomeMarked no_bounds to_head) Shown slack front
  close_at slack front (inl p) = close_there slack front p
  close_at slack front (inr e) = close_last slack front e.1

  pub keeps_up_anyway : {S : Type 0} {read_step write_step : S → Step → S → Type 0} {s t : S} {r : End Summary H1Why}
      → (h : Streams rest room Moved Refuses tells misses true 8191 read_step write_step v owed s r t) → KeepsUp (IsSomeMarked no_bounds to_head) (HasBody (IsMessageText L)) 16383 8191 h.steps
  keeps_up_anyway h = record {
    always = λ front back e. close_at 16383 front (h.points front back e);
    at_reads = λ front back x r e. close_there 8191 front (h.at_reads front back x r e);
  }
