-- What a read says, from what a step within the limit of the input says.
use Rattle.std.proofs.Common.{◌≡◌, ◌⊎◌, ◌<◌, ◌≤◌, ◌+◌, ◌-◌, ◌^◌, arith, ℕ, min, Bool, true, false, Option, Some, None, List, [], ◌∷◌, ◌++◌, map, length, take, drop, refl, sym, ap, subst, ◌∙◌, append_assoc, inl, inr}
use Rattle.std.proofs.lemmas.List.{length-take, take-take, take_all}
use Rattle.bh_spec.specs.declared.H1Why.{H1Why}
use Rattle.bh_spec.specs.declared.H1Why.TheVariants as why
use Rattle.bh_spec.specs.declared.Kind.{Kind}
use Rattle.bh_spec.specs.Messages.{Field}
use Rattle.bh_spec.specs.Items.{Item, interim_response, head, content_byte, trailer_section}
use Rattle.bh_stream.specs.Decoding.{content_items, IsAlive, IsSilent, Took}
use Rattle.bh_stream.specs.declared.traits.Event.{Event}
use Rattle.bh_stream.specs.declared.traits.Event.TheVariants as events
use Rattle.bh_stream.proofs.Moving.{items-map}
use Rattle.bh_reading.specs.Readings.{within_limit, lines_in, kind_behind, count, IsInput}
use Rattle.bh_reading.proofs.ReadingOn.{content_lines, content_kind}
use Rattle.h1_read.specs.HeadJudges.{JudgeView}
use Rattle.h1_read.specs.Places.{Setting, Place, RestFrom}
use Rattle.h1_read.specs.Wrong.{WrongFrom}
use Rattle.h1_read.specs.Readings.{View, rest, Goes, Moved, IsReady, shows, IsWhole, Refuses}
use Rattle.h1_read.specs.Readers.{NeedsAt, RefusedAt, TookAt, ShowsIn, WholeAt}

-- the lines and the items of content of an event's item
event_lines : (v : JudgeView) (event : Event) (item : Item) → ShowsIn v event item → lines_in (item ∷ []) ≡ length v.lines
event_lines v (events.Interim status) item s = ap (λ (i : Item). lines_in (i ∷ [])) s ∙ omega arith
event_lines v events.Head item s = ap (λ (i : Item). lines_in (i ∷ [])) s.1 ∙ omega arith
event_lines v events.Trailers item s = ap (λ (i : Item). lines_in (i ∷ [])) s ∙ omega arith

event_content : (v : JudgeView) (event : Event) (item : Item) → ShowsIn v event item → content_items (item ∷ []) ≡ 0
event_content v (events.Interim status) item s = ap (λ (i : Item). content_items (i ∷ [])) s
event_content v events.Head item s = ap (λ (i : Item). content_items (i ∷ [])) s.1
event_content v events.Trailers item s = ap (λ (i : Item). content_items (i ∷ [])) s

event_shown : (j : JudgeView) (w : View) (event : Event) (item : Item) → w.head ≡ j.head → w.fields ≡ Some j.lines → ShowsIn j event item → shows w event item
event_shown j w (events.Interim status) item h f s = (j.lines, s, f)
event_shown j w events.Head item h f s = (s.0, j.lines, s.1, h ∙ s.2, f)
event_shown j w events.Trailers item h f s = (j.lines, s, f)

module _ (v : View) (ready : IsReady v) (piece front : List ℕ) (cut : front ≡ take (min (within_limit v.setting.limits.input v.taken) (length piece)) piece) where
  long : length front ≡ min (ready.input.limit - v.taken) (length piece)
  long = ap length cut ∙ ap (λ (o : Option ℕ). length (take (min (within_limit o v.taken) (length piece)) piece)) ready.input.limit_is
      ∙ omega (arith, length-take (min (ready.input.limit - v.taken) (length piece)) piece)

  inside : length front ≤ length piece
  inside = omega (arith, long)

  fronts : (k : ℕ) → k ≤ length front → take k front ≡ take k piece
  fronts k h = ap (take k) cut ∙ take-take k (min (within_limit v.setting.limits.input v.taken) (length piece)) piece
      (omega (arith, h, long, ap (λ (o : Option ℕ). within_limit o v.taken) ready.input.limit_is))

  input_at : (k : ℕ) → k ≤ length front → IsInput v.setting.limits (v.taken + k)
  input_at k h = record { limit = ready.input.limit; limit_is = ready.input.limit_is; few = omega (arith, h, long, ready.input.few) }

  -- so many bytes of the front lead to a state
  moved_to : (w : View) (k : ℕ) (items : List Item) → k ≤ length front → Goes v.setting v.place (take k front) items w.place → w.setting ≡ v.setting → w.taken ≡ v.taken + k
      → w.refused ≡ false → w.kind ≡ kind_behind items v.kind → w.lines ≡ count (v.lines + lines_in items) → w.content ≡ count (v.content + content_items items)
      → Moved v (take k piece) items w
  moved_to w k items h goes setting taken refused kind lines content =
      let size : length (take k piece) ≡ k = omega (arith, h, inside, length-take k piece) in
      record {
        input = subst (λ (n : ℕ). IsInput v.setting.limits (v.taken + n)) (sym size) (input_at k h);
        goes = subst (λ (bytes : List ℕ). Goes v.setting v.place bytes items w.place) (fronts k h) goes;
        setting = setting;
        taken = omega (arith, taken, size);
        refused = refused;
        kind = kind;
        lines = lines;
        content = content;
      }

  alive_there : (w : View) → w.setting ≡ v.setting → IsAlive (RestFrom v.setting) w.place → IsAlive rest w
  alive_there w e alive = (alive.0, alive.1, subst (λ (S : Setting). RestFrom S w.place alive.0 alive.1) (sym e) alive.2)

  -- ---- nothing is whole

  module _ (w : View) (needs : NeedsAt v.setting v.place front w.place) (setting : w.setting ≡ v.setting) (taken : w.taken ≡ v.taken + length front)
      (refused : w.refused ≡ false) (kind : w.kind ≡ v.kind) (lines : w.lines ≡ v.lines) (content : w.content ≡ v.content) where
    moved_all : Moved v (take (length front) piece) [] w
    moved_all = moved_to w (length front) [] (omega arith)
        (subst (λ (bytes : List ℕ). Goes v.setting v.place bytes [] w.place) (sym (take_all (length front) front (omega arith))) needs.goes)
        setting taken refused kind (omega (arith, lines, ready.lines)) (omega (arith, content, ready.content))

    pub need_on : length piece ≤ length front → Moved v piece [] w × (IsAlive rest w ⊎ IsSilent rest v piece)
    need_on all = (subst (λ (bytes : List ℕ). Moved v bytes [] w) same moved_all, passes needs.passes)
      where
        same : take (length front) piece ≡ piece
        same = take_all (length front) piece all

        whole : front ≡ piece
        whole = sym (take_all (length front) front (omega arith)) ∙ fronts (length front) (omega arith) ∙ take_all (length front) piece all

        passes : IsAlive (RestFrom v.setting) w.place ⊎ IsSilent (RestFrom v.setting) v.place front → IsAlive rest w ⊎ IsSilent rest v piece
        passes (inl alive) = inl (alive_there w setting alive)
        passes (inr silent) = inr (subst (IsSilent rest v) whole silent)

    pub too_long : length front < length piece → Refuses v piece why.TooLong
    too_long more = record {
      at = length front;
      inside = more;
      state = w;
      moved = moved_all;
      before = before needs.before;
      decided = inr (refl, ready.input.limit_is ∙ ap Some (omega (arith, more, long, ready.input.few)));
    }
      where
        before : IsWhole v.setting w.place ⊎ WrongFrom v.setting v.place front why.Ended
            → IsWhole w.setting w.place ⊎ WrongFrom v.setting v.place (take (length front) piece) why.Ended
        before (inl h) = inl (subst (λ (S : Setting). IsWhole S w.place) (sym setting) h)
        before (inr h) = inr (subst (λ (bytes : List ℕ). WrongFrom v.setting v.place bytes why.Ended)
            (sym (take_all (length front) front (omega arith)) ∙ fronts (length front) (omega arith)) h)

  -- ---- something is whole

  took_on : (w : View) (k : ℕ) (items : List Item) → TookAt v.setting v.place front k items w.place → w.setting ≡ v.setting → w.taken ≡ v.taken + k
      → w.refused ≡ false → w.kind ≡ kind_behind items v.kind → w.lines ≡ count (v.lines + lines_in items) → w.content ≡ count (v.content + content_items items)
      → Took rest Moved v piece k items w
  took_on w k items took setting taken refused kind lines content = record {
    some = took.some;
    inside = omega (arith, took.inside, inside);
    moved = moved_to w k items took.inside took.moved setting taken refused kind lines content;
    alive = alive_there w setting took.alive;
  }

  pub content_on : (w : View) (k : ℕ) (bytes : List ℕ) → TookAt v.setting v.place front k (map content_byte bytes) w.place → w.setting ≡ v.setting → w.taken ≡ v.taken + k
      → w.refused ≡ false → w.kind ≡ v.kind → w.lines ≡ v.lines → w.content ≡ count (v.content + length bytes) → Took rest Moved v piece k (map content_byte bytes) w
  content_on w k bytes took setting taken refused kind lines content =
      took_on w k (map content_byte bytes) took setting taken refused (kind ∙ sym (content_kind bytes v.kind)) (omega (arith, lines, ready.lines, content_lines bytes))
      (omega (arith, content, items-map bytes))

  pub whole_on : (w : View) (k : ℕ) (event : Event) (j : JudgeView) (whole : WholeAt v.setting v.place front k event w.place j) → w.setting ≡ v.setting → w.taken ≡ v.taken + k
      → w.refused ≡ false → w.kind ≡ kind_behind (whole.0 ∷ []) v.kind → w.lines ≡ count (v.lines + length j.lines) → w.content ≡ v.content → w.head ≡ j.head → w.fields ≡ Some j.lines
      → (item : Item) × Took rest Moved v piece k (item ∷ []) w × shows w event item × (content_items (item ∷ []) ≡ 0)
  whole_on w k event j whole setting taken refused kind lines content shown fields =
      let none = event_content j event whole.0 whole.2 in (
        whole.0,
        took_on w k (whole.0 ∷ []) whole.1 setting taken refused kind (omega (arith, lines, event_lines j event whole.0 whole.2)) (omega (arith, content, none, ready.content)),
        event_shown j w event whole.0 shown fields whole.2,
        none,
      )

  -- ---- a byte is refused

  pub refused_on : (cause : H1Why) → RefusedAt v.setting v.place front cause → Refuses v piece cause
  refused_on cause h = record {
    at = h.at;
    inside = omega (arith, h.inside, inside);
    state = record {
      setting = v.setting;
      place = h.state;
      taken = v.taken + h.at;
      kind = v.kind;
      lines = v.lines;
      content = v.content;
      refused = false;
      head = v.head;
      fields = v.fields;
    };
    moved = moved_to _ h.at [] (omega (arith, h.inside)) h.goes refl refl refl refl (omega (arith, ready.lines)) (omega (arith, ready.content));
    before = before h.before;
    decided = inl (record {
      wrong = λ after. subst (λ (bytes : List ℕ). WrongFrom v.setting v.place (bytes ++ after) cause) (fronts (h.at + 1) (omega (arith, h.inside))) (h.wrong after);
      not_end = h.not_end;
      input = input_at (h.at + 1) (omega (arith, h.inside));
    });
  }
    where
      before : IsWhole v.setting h.state ⊎ WrongFrom v.setting v.place (take h.at front) why.Ended → IsWhole v.setting h.state ⊎ WrongFrom v.setting v.place (take h.at piece) why.Ended
      before (inl e) = inl e
      before (inr e) = inr (subst (λ (bytes : List ℕ). WrongFrom v.setting v.place bytes why.Ended) (fronts h.at (omega (arith, h.inside))) e)
