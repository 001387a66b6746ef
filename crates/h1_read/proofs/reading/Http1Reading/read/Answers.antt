use Rattle.std.proofs.Common.{◌≡◌, ◌⊎◌, ◌∙◌, ◌<◌, ◌≤◌, ◌+◌, ℕ, min, false, Some, List, [], ◌∷◌, map, length, take, refl, ap, sym, subst}
use Rattle.bh_spec.specs.declared.H1Why.TheVariants as why
use Rattle.bh_spec.specs.Items.{Item, content_byte}
use Rattle.bh_stream.specs.Decoding.{content_items, IsAlive, IsSilent, Took}
use Rattle.bh_reading.specs.Readings.{count}
use Rattle.h1_read.specs.HeadJudges.{view_of}
use Rattle.h1_read.specs.Readings.{View, rest, Moved, IsReady, shows, Refuses}
use Rattle.h1_read.specs.Reads.{view_at}
use Rattle.h1_read.proofs.Counting.{need_on, too_long, content_on, whole_on, refused_on}
use Rattle.h1_read.proofs.reading.Http1Reading.read.Goals as goal

pub returns-else-is_cut-clause-pushed : goal.returns-else-is_cut-clause-pushed
returns-else-is_cut-clause-pushed c =
    let i = c.self.inside in
    let v : View = view_at i.reader i.taken i.kind i.lines i.content i.refused in
    let front : List ℕ = c.first-front.result.now in
    let piece : List ℕ = c.args.piece.now in
    let w : View = view_at c.step.new.self (i.taken + length front) i.kind i.lines i.content i.refused in
    subst (λ (u : View). Moved u piece [] w × (IsAlive rest w ⊎ IsSilent rest u piece)) c.self.view_is
    (need_on v (subst IsReady (sym c.self.view_is) c.requires.ready) piece front (c.first-front.ensures ∙ ap (λ (n : ℕ). take (min n (length piece)) piece) c.room.ensures)
    w c.in-Need.ensures.steps c.in-Need.ensures.setting refl (ap (λ (u : View). u.refused) c.self.view_is ∙ c.requires.ready.refused) refl refl refl (c.is_cut.ensures.whole c.if-is_cut.false))

pub returns-then-is_cut-clause-pushed : goal.returns-then-is_cut-clause-pushed
returns-then-is_cut-clause-pushed c =
    let i = c.self.inside in
    let v : View = view_at i.reader i.taken i.kind i.lines i.content i.refused in
    let front : List ℕ = c.first-front.result.now in
    let piece : List ℕ = c.args.piece.now in
    let w : View = view_at c.step.new.self (i.taken + length front) i.kind i.lines i.content false in
    subst (λ (u : View). Refuses u piece why.TooLong) c.self.view_is
    (too_long v (subst IsReady (sym c.self.view_is) c.requires.ready) piece front (c.first-front.ensures ∙ ap (λ (n : ℕ). take (min n (length piece)) piece) c.room.ensures)
    w c.in-Need.ensures.steps c.in-Need.ensures.setting refl refl refl refl refl (c.is_cut.ensures.cut c.if-is_cut.true))

pub returns-in-Content-clause-pushed : goal.returns-in-Content-clause-pushed
returns-in-Content-clause-pushed c =
    let i = c.self.inside in
    let v : View = view_at i.reader i.taken i.kind i.lines i.content i.refused in
    let front : List ℕ = c.first-front.result.now in
    let piece : List ℕ = c.args.piece.now in
    let bytes : List ℕ = c.in-Content.bytes.now in
    let w : View = view_at c.step.new.self (i.taken + c.in-Content.taken) i.kind i.lines c.count_more-self-inside.result i.refused in
    let says = c.in-Content.ensures.steps in
    subst (λ (u : View). Took rest Moved u piece c.in-Content.taken (map content_byte bytes) w × (0 < length bytes) × (length bytes ≤ c.in-Content.taken)) c.self.view_is (
      content_on v (subst IsReady (sym c.self.view_is) c.requires.ready) piece front (c.first-front.ensures ∙ ap (λ (n : ℕ). take (min n (length piece)) piece) c.room.ensures)
          w c.in-Content.taken bytes says.0 c.in-Content.ensures.setting refl (ap (λ (u : View). u.refused) c.self.view_is ∙ c.requires.ready.refused) refl refl c.count_more-self-inside.ensures,
      says.1,
      says.2,
    )

pub returns-in-Whole-clause-pushed : goal.returns-in-Whole-clause-pushed
returns-in-Whole-clause-pushed c =
    let i = c.self.inside in
    let v : View = view_at i.reader i.taken i.kind i.lines i.content i.refused in
    let front : List ℕ = c.first-front.result.now in
    let piece : List ℕ = c.args.piece.now in
    let event = c.in-Whole.event in
    let w : View = view_at c.step.new.self (i.taken + c.in-Whole.taken) c.kind_behind-self-inside.result c.count_more-self-inside-in-Whole.result i.content i.refused in
    let says = c.in-Whole.ensures.steps in
    let lines : c.count_more-self-inside-in-Whole.result ≡ count (i.lines + length (view_of c.step.new.self.judge).lines)
    = c.count_more-self-inside-in-Whole.ensures ∙ ap (λ (n : ℕ). count (i.lines + n)) (c.len.ensures ∙ ap length c.fields.ensures.lines) in
    subst (λ (u : View). (item : Item) × Took rest Moved u piece c.in-Whole.taken (item ∷ []) w × shows w event item × (content_items (item ∷ []) ≡ 0)) c.self.view_is
    (whole_on v (subst IsReady (sym c.self.view_is) c.requires.ready) piece front (c.first-front.ensures ∙ ap (λ (n : ℕ). take (min n (length piece)) piece) c.room.ensures)
    w c.in-Whole.taken event (view_of c.step.new.self.judge) says c.in-Whole.ensures.setting refl (ap (λ (u : View). u.refused) c.self.view_is ∙ c.requires.ready.refused)
    (c.kind_behind-self-inside.ensures says.0 says.2) lines refl refl refl)

pub returns-in-Refused-clause-pushed : goal.returns-in-Refused-clause-pushed
returns-in-Refused-clause-pushed c =
    let i = c.self.inside in
    let v : View = view_at i.reader i.taken i.kind i.lines i.content i.refused in
    let front : List ℕ = c.first-front.result.now in
    let piece : List ℕ = c.args.piece.now in
    subst (λ (u : View). Refuses u piece c.in-Refused.cause) c.self.view_is
    (refused_on v (subst IsReady (sym c.self.view_is) c.requires.ready) piece front (c.first-front.ensures ∙ ap (λ (n : ℕ). take (min n (length piece)) piece) c.room.ensures)
    c.in-Refused.cause c.in-Refused.ensures.steps)
