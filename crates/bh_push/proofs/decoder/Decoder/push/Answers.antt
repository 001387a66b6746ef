use Rattle.std.proofs.Common.{◌+◌, ◌∷◌, [], ◌≡◌, ℕ, List, Some, None, length, map, refl, subst, arith}
use Rattle.bh_spec.specs.declared.Refusal.TheVariants.{Dead, Limit, TooLong}
use Rattle.bh_spec.specs.Items.{interim_response, head, content_byte, trailer_section}
use Rattle.bh_push.specs.Courses.{head_of, place_of}
use Rattle.bh_push.specs.Hands.{Held, Handed, IsLong, Keeps}
use Rattle.bh_push.specs.Pushes.{Refuses}
use Rattle.bh_push.specs.Kinds.{KindBehind}
use Rattle.bh_push.proofs.Handing.{right_content, kind_behind, kind_again, stood_behind, within_at, view, held, handed_walk, handed_whole, ends_so, long_so, refuses_more, refuses_at, refuses_limit, refuses_again}
use Rattle.bh_push.proofs.decoder.Decoder.push.Goals as goal

pub returns-in-Some-clause-hands : goal.returns-in-Some-clause-hands
returns-in-Some-clause-hands c =
    let d = c.self.inside in
    subst (λ (v : Held). Refuses v.decoder.refusal v.decoder c.args.piece.now c.in-Some.refusal v.decoder × Keeps v v) c.self.view_is
    (refuses_again d.course d.taken d.refusal c.in-Some.refusal c.args.piece.now c.in-Some.is)

pub returns-then-within-piece-clause-hands : goal.returns-then-within-piece-clause-hands
returns-then-within-piece-clause-hands c =
    let d = c.self.inside in
    let w = c.walk.new.self in
    let piece : List ℕ = c.args.piece.now in
    let within : List ℕ = c.first_of-within.result.now in
    let most = c.input.result in
    let g = within_at d.course d.taken most d.refusal piece within c.input.ensures.value c.self.invariant.counted c.first_of-within.ensures c.in_default.not-Some in
    let n = d.taken + length within in
    subst (λ (v : Held). Refuses v.decoder.refusal v.decoder piece (TooLong n) (view w n (Some (TooLong n))) × Keeps v (held w n (Some (TooLong n)))) c.self.view_is
    (refuses_more d.course w d.taken most d.refusal piece within g (omega (arith, c.if-within-piece.true)) c.in-Need.ensures)

pub returns-else-within-piece-clause-hands : goal.returns-else-within-piece-clause-hands
returns-else-within-piece-clause-hands c =
    let d = c.self.inside in
    let w = c.walk.new.self in
    let piece : List ℕ = c.args.piece.now in
    let within : List ℕ = c.first_of-within.result.now in
    let most = c.input.result in
    let g = within_at d.course d.taken most d.refusal piece within c.input.ensures.value c.self.invariant.counted c.first_of-within.ensures c.in_default.not-Some in
    subst (λ (v : Held). Handed v piece (length piece) [] (held w (d.taken + length within) d.refusal)) c.self.view_is
    (handed_whole d.course w d.taken most d.refusal piece within g (omega (arith, c.if-within-piece.false)) c.in-Need.ensures)

pub returns-in-Interim-clause-hands : goal.returns-in-Interim-clause-hands
returns-in-Interim-clause-hands c =
    let d = c.self.inside in
    let w = c.walk.new.self in
    let piece : List ℕ = c.args.piece.now in
    let within : List ℕ = c.first_of-within.result.now in
    let most = c.input.result in
    let g = within_at d.course d.taken most d.refusal piece within c.input.ensures.value c.self.invariant.counted c.first_of-within.ensures c.in_default.not-Some in
    let yields = interim_response c.in-Interim.status w.section.lines ∷ [] in (
      c.in-Interim.ensures.0,
      w.section.lines,
      subst (λ (v : Held). Handed v piece c.in-Interim.taken yields (held w (d.taken + c.in-Interim.taken) d.refusal)) c.self.view_is
          (handed_walk d.course w d.taken most d.refusal piece within c.in-Interim.taken yields g c.in-Interim.ensures.1),
    )

pub returns-in-Trailers-clause-hands : goal.returns-in-Trailers-clause-hands
returns-in-Trailers-clause-hands c =
    let d = c.self.inside in
    let w = c.walk.new.self in
    let piece : List ℕ = c.args.piece.now in
    let within : List ℕ = c.first_of-within.result.now in
    let most = c.input.result in
    let g = within_at d.course d.taken most d.refusal piece within c.input.ensures.value c.self.invariant.counted c.first_of-within.ensures c.in_default.not-Some in
    let yields = trailer_section w.section.lines ∷ [] in (
      c.in-Trailers.ensures.0,
      w.section.lines,
      subst (λ (v : Held). Handed v piece c.in-Trailers.taken yields (held w (d.taken + c.in-Trailers.taken) d.refusal)) c.self.view_is
          (handed_walk d.course w d.taken most d.refusal piece within c.in-Trailers.taken yields g c.in-Trailers.ensures.1),
    )

pub returns-in-Head-clause-hands : goal.returns-in-Head-clause-hands
returns-in-Head-clause-hands c =
    let d = c.self.inside in
    let w = c.walk.new.self in
    let piece : List ℕ = c.args.piece.now in
    let within : List ℕ = c.first_of-within.result.now in
    let most = c.input.result in
    let g = within_at d.course d.taken most d.refusal piece within c.input.ensures.value c.self.invariant.counted c.first_of-within.ensures c.in_default.not-Some in
    let yields = head (head_of w.status w.control.control) w.section.lines ∷ [] in (
      c.in-Head.ensures.0,
      head_of w.status w.control.control,
      w.section.lines,
      subst (λ (v : Held). Handed v piece c.in-Head.taken yields (held w (d.taken + c.in-Head.taken) d.refusal)) c.self.view_is
          (handed_walk d.course w d.taken most d.refusal piece within c.in-Head.taken yields g c.in-Head.ensures.1),
    )

pub returns-in-Content-clause-hands : goal.returns-in-Content-clause-hands
returns-in-Content-clause-hands c =
    let d = c.self.inside in
    let w = c.walk.new.self in
    let piece : List ℕ = c.args.piece.now in
    let within : List ℕ = c.first_of-within.result.now in
    let most = c.input.result in
    let g = within_at d.course d.taken most d.refusal piece within c.input.ensures.value c.self.invariant.counted c.first_of-within.ensures c.in_default.not-Some in
    let s = c.in-Content.ensures in
    let taken = c.in-Content.taken in
    let bytes : List ℕ = c.in-Content.bytes.now in
    let yields = map content_byte bytes in (
      subst (λ (v : Held). Handed v piece taken yields (held w (d.taken + taken) d.refusal)) c.self.view_is (handed_walk d.course w d.taken most d.refusal piece within taken yields g s.0),
      ends_so d.course d.taken most d.refusal piece within bytes taken g s.0.inside s.1,
      subst (λ (v : Held). IsLong v piece taken (held w (d.taken + taken) d.refusal)) c.self.view_is (long_so d.course w d.taken most d.refusal piece within taken g s.2),
    )

pub returns-in-Dead-clause-hands : goal.returns-in-Dead-clause-hands
returns-in-Dead-clause-hands c =
    let d = c.self.inside in
    let w = c.walk.new.self in
    let piece : List ℕ = c.args.piece.now in
    let within : List ℕ = c.first_of-within.result.now in
    let most = c.input.result in
    let g = within_at d.course d.taken most d.refusal piece within c.input.ensures.value c.self.invariant.counted c.first_of-within.ensures c.in_default.not-Some in
    let n = d.taken + c.in-Dead.offset in
    let r = Dead n c.in-Dead.part in
    subst (λ (v : Held). Refuses v.decoder.refusal v.decoder piece r (view w n (Some r)) × Keeps v (held w n (Some r))) c.self.view_is
    (refuses_at d.course w d.taken most d.refusal piece within c.in-Dead.offset c.in-Dead.part g c.in-Dead.ensures.0 c.in-Dead.ensures.1 c.in-Dead.ensures.2)

pub returns-in-Limit-clause-hands : goal.returns-in-Limit-clause-hands
returns-in-Limit-clause-hands c =
    let d = c.self.inside in
    let w = c.walk.new.self in
    let piece : List ℕ = c.args.piece.now in
    let within : List ℕ = c.first_of-within.result.now in
    let most = c.input.result in
    let g = within_at d.course d.taken most d.refusal piece within c.input.ensures.value c.self.invariant.counted c.first_of-within.ensures c.in_default.not-Some in
    let n = d.taken + c.in-Limit.offset in
    let r = Limit n c.in-Limit.part in
    subst (λ (v : Held). Refuses v.decoder.refusal v.decoder piece r (view w n (Some r)) × Keeps v (held w n (Some r))) c.self.view_is
    (refuses_limit d.course w d.taken most d.refusal piece within c.in-Limit.offset c.in-Limit.part g c.in-Limit.ensures.0 c.in-Limit.ensures.1 c.in-Limit.ensures.2)

-- ---- the kind

pub returns-in-Some-clause-kind : goal.returns-in-Some-clause-kind
returns-in-Some-clause-kind c =
    let d = c.self.inside in
    subst (λ (v : Held). v.decoder.refusal ≡ None → KindBehind v c.args.piece.now c.in-Some.refusal v) c.self.view_is
    (kind_again (held d.course d.taken d.refusal) c.args.piece.now c.in-Some.refusal c.in-Some.is)

pub returns-then-within-piece-clause-kind : goal.returns-then-within-piece-clause-kind
returns-then-within-piece-clause-kind c =
    let d = c.self.inside in
    let w = c.walk.new.self in
    let piece : List ℕ = c.args.piece.now in
    let within : List ℕ = c.first_of-within.result.now in
    let most = c.input.result in
    let g = within_at d.course d.taken most d.refusal piece within c.input.ensures.value c.self.invariant.counted c.first_of-within.ensures c.in_default.not-Some in
    let n = d.taken + length within in
    let r = TooLong n in
    subst (λ (v : Held). v.decoder.refusal ≡ None → KindBehind v piece r (held w n (Some r))) c.self.view_is
    (λ none. kind_behind d.course w d.taken most n d.refusal piece within (length within) r g (omega arith) refl (stood_behind d.course w within c.in-Need.ensures))

pub returns-in-Dead-clause-kind : goal.returns-in-Dead-clause-kind
returns-in-Dead-clause-kind c =
    let d = c.self.inside in
    let w = c.walk.new.self in
    let piece : List ℕ = c.args.piece.now in
    let within : List ℕ = c.first_of-within.result.now in
    let most = c.input.result in
    let g = within_at d.course d.taken most d.refusal piece within c.input.ensures.value c.self.invariant.counted c.first_of-within.ensures c.in_default.not-Some in
    let n = d.taken + c.in-Dead.offset in
    let r = Dead n c.in-Dead.part in
    subst (λ (v : Held). v.decoder.refusal ≡ None → KindBehind v piece r (held w n (Some r))) c.self.view_is
    (λ none. kind_behind d.course w d.taken most n d.refusal piece within (c.in-Dead.offset) r g (omega (arith, c.in-Dead.ensures.0.refused.inside)) refl c.in-Dead.ensures.2)

pub returns-in-Limit-clause-kind : goal.returns-in-Limit-clause-kind
returns-in-Limit-clause-kind c =
    let d = c.self.inside in
    let w = c.walk.new.self in
    let piece : List ℕ = c.args.piece.now in
    let within : List ℕ = c.first_of-within.result.now in
    let most = c.input.result in
    let g = within_at d.course d.taken most d.refusal piece within c.input.ensures.value c.self.invariant.counted c.first_of-within.ensures c.in_default.not-Some in
    let n = d.taken + c.in-Limit.offset in
    let r = Limit n c.in-Limit.part in
    subst (λ (v : Held). v.decoder.refusal ≡ None → KindBehind v piece r (held w n (Some r))) c.self.view_is
    (λ none. kind_behind d.course w d.taken most n d.refusal piece within (c.in-Limit.offset) r g (omega (arith, c.in-Limit.ensures.0.refused.inside)) refl c.in-Limit.ensures.2)

-- ---- the place behind an event

pub returns-in-Interim-clause-right : goal.returns-in-Interim-clause-right
returns-in-Interim-clause-right c = c.in-Interim.ensures.1.right

pub returns-in-Head-clause-right : goal.returns-in-Head-clause-right
returns-in-Head-clause-right c = c.in-Head.ensures.1.right

pub returns-in-Content-clause-right : goal.returns-in-Content-clause-right
returns-in-Content-clause-right c =
    right_content c.in-Content.bytes.now (place_of c.walk.new.self) c.in-Content.ensures.1.some c.in-Content.ensures.0.right

pub returns-in-Trailers-clause-right : goal.returns-in-Trailers-clause-right
returns-in-Trailers-clause-right c = c.in-Trailers.ensures.1.right
