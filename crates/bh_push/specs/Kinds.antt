-- The kind of a message behind a refusal.
use Rattle.std.specs.Prelude.{ℕ, ◌≡◌, ◌+◌, None, List, []}
use Rattle.bh_spec.specs.declared.Refusal.{Refusal}
use Rattle.bh_spec.specs.Runs.{Takes}
use Rattle.bh_push.specs.declared.decoder.Pushed.{Pushed}
use Rattle.bh_push.specs.declared.decoder.Pushed.TheVariants as pushed
use Rattle.bh_push.specs.Decoders.{At, Rest}
use Rattle.bh_push.specs.Pushes.{refused_at}
use Rattle.bh_push.specs.Hands.{Held, kind_at}

-- It is the kind at the place where the refused byte stood, or the first that is too many: what the bytes of the piece before it, which
-- were taken and yield nothing, decided.
pub record KindBehind (v : Held) (piece : List ℕ) (r : Refusal) (w : Held) : Type 0 where
  pub offset : ℕ
  pub place : refused_at r ≡ v.decoder.taken + offset
  pub at : At
  pub takes : Takes Rest v.decoder.limits v.decoder.at piece offset [] at
  pub same : kind_at w.decoder.at w.head ≡ kind_at at v.head

-- behind a first refusal
abbrev pub IsSameKind : Held → List ℕ → Pushed → Held → Type 0
IsSameKind v piece pushed.Need w = Unit {0}
IsSameKind v piece (pushed.Interim taken status) w = Unit {0}
IsSameKind v piece (pushed.Head taken) w = Unit {0}
IsSameKind v piece (pushed.Content taken bytes) w = Unit {0}
IsSameKind v piece (pushed.Trailers taken) w = Unit {0}
IsSameKind v piece (pushed.Refused r) w = v.decoder.refusal ≡ None → KindBehind v piece r w
