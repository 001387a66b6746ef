-- What a reader of sections answers for a piece, byte for byte.
use Rattle.std.proofs.Common.{◌≡◌, ◌<◌, ◌≤◌, ◌+◌, ◌-◌, arith, ℕ, List, [], ◌∷◌, ◌++◌, length, take, drop, get_or, sym, ap, subst, ◌∙◌}
use Rattle.std.proofs.Math.Seq.{take-add}
use Rattle.bh_spec.specs.declared.Part.{Part}
use Rattle.bh_spec.specs.declared.PieceStep.{PieceStep}
use Rattle.bh_spec.specs.declared.PieceStep.TheVariants.{Need, Whole, Dead, Limit}
use Rattle.bh_spec.specs.declared.Judged.{Judged}
use Rattle.bh_spec.specs.declared.Judged.TheVariants as judged
use Rattle.bh_spec.specs.Bounds.{Bounds, no_bounds}
use Rattle.bh_spec.specs.Pieces.{SomeOf, IsNext}
use Rattle.bh_spec.specs.Readings.{reading, Leads as ReaderLeads, Takes as ReaderTakes}
use Rattle.bh_spec.proofs.Pieces.{IsOnce}
use Rattle.bh_spec.proofs.Residuals.{residual_here, residual_on, residual_bytes}
use Rattle.bh_spec.proofs.Readings.{Answers, answers, one_more, whole_piece, need_shows, whole_shows, dead_shows, limit_shows}
use Rattle.bh_fields.specs.Middle.{SectionView, Rest}
use Rattle.bh_fields.specs.Bytewise.{IsLeft}
use Rattle.bh_fields.specs.Views.{Leads, Takes}
use Rattle.bh_fields.specs.Readers.{IsWanted, IsOnTheWay, IsBehind}
use Rattle.bh_fields.proofs.Tracking.{left_once}

pub once_for : (v : SectionView) → IsLeft v.form v.place (λ L. Rest L v) → IsOnce (IsWanted v)
once_for v h = left_once v.form v.place (λ L. Rest L v) h v.limits

-- the reader stands so many bytes into the piece, and the next byte has this part
pub record IsOn (v w : SectionView) (piece : List ℕ) (offset : ℕ) (part : Part) : Type 0 where
  pub limits : w.limits ≡ v.limits
  pub form : w.form ≡ v.form
  pub place : w.place ≡ v.place
  pub stage : w.stage ≡ reading
  pub leads : Leads v (take offset piece) w
  pub next : IsNext (IsWanted w) [] part

pub leads_here : (v : SectionView) → Leads v [] v
leads_here v L = residual_here (Rest L v)

pub leads_on : (v w u : SectionView) (piece : List ℕ) (o : ℕ) → o < length piece → Leads v (take o piece) w → Leads w (get_or piece o 0 ∷ []) u → Leads v (take (o + 1) piece) u
leads_on v w u piece o h a b L = one_more (Rest L v) (Rest L w) (Rest L u) piece o h (a L) (b L)

-- with a byte more of the piece and what lies behind it
pub leads_over : (v w x u : SectionView) (piece : List ℕ) (o taken : ℕ) → o < length piece → Leads v (take o piece) w → Leads w (get_or piece o 0 ∷ []) x
    → o + 1 ≤ taken → IsOnTheWay x (take (taken - (o + 1)) (drop (o + 1) piece)) u → Leads v (take taken piece) u
leads_over v w x u piece o taken h a b more c L =
    residual_bytes (Rest L v) (take (o + 1) piece ++ take (taken - (o + 1)) (drop (o + 1) piece)) (take taken piece) (λ fields. fields) (Rest L u)
    (sym (take-add (o + 1) (taken - (o + 1)) piece) ∙ ap (λ (k : ℕ). take k piece) (let e : o + 1 + (taken - (o + 1)) ≡ taken = omega arith in e))
    (residual_on (Rest L v) (take (o + 1) piece) (λ fields. fields) (Rest L x) (take (taken - (o + 1)) (drop (o + 1) piece)) (λ fields. fields) (Rest L u)
    (leads_on v w x piece o h a b L) (c.leads L))

-- within the reader's limits and without
both : (L : Bounds) (v w : SectionView) (bytes : List ℕ) → Leads v bytes w → ReaderLeads (Rest L v) (Rest no_bounds v) (Rest L w) (Rest no_bounds w) bytes
both L v w bytes h = record { within = h L; anyway = h no_bounds }

takes_here : (j : Judged) (v w : SectionView) (byte : ℕ) → Takes j v byte w → ReaderTakes (Rest v.limits v) (Rest no_bounds v) (Rest v.limits w) (Rest no_bounds w) byte j w.stage w.lines
takes_here judged.More v w byte t = (t.1, both v.limits v w (byte ∷ []) t.2)
takes_here judged.Whole v w byte t = (t.1, both v.limits v w (byte ∷ []) t.2, subst (λ (L : Bounds). Rest L w w.lines []) t.0.limits t.3)
takes_here judged.Limit v w byte t = (t.1, t.2, t.3)
takes_here judged.Dead v w byte t = (t.1, t.2, t.3)

takes_at : (L : Bounds) (j : Judged) (v w : SectionView) (byte : ℕ) → v.limits ≡ L → Takes j v byte w → ReaderTakes (Rest L v) (Rest no_bounds v) (Rest L w) (Rest no_bounds w) byte j w.stage w.lines
takes_at L j v w byte e t = subst (λ (K : Bounds). ReaderTakes (Rest K v) (Rest no_bounds v) (Rest K w) (Rest no_bounds w) byte j w.stage w.lines) e (takes_here j v w byte t)

next_at : (v w : SectionView) (piece : List ℕ) (o : ℕ) (part : Part) → IsOn v w piece o part → IsNext (SomeOf (Rest v.limits w)) [] part
next_at v w piece o part on = subst (λ (L : Bounds). IsNext (SomeOf (Rest L w)) [] part) on.limits on.next

stood_here : (v w : SectionView) (piece : List ℕ) (o : ℕ) (part : Part) → IsOn v w piece o part → IsOnTheWay v (take o piece) w
stood_here v w piece o part on = record { same = record { limits = on.limits; form = on.form; place = on.place }; stage = on.stage; leads = on.leads }

-- all clauses of `push`
abbrev pub Pushed : SectionView → List ℕ → PieceStep → SectionView → Type 0
Pushed v piece step w = Answers (Rest v.limits v) (Rest no_bounds v) piece step (IsBehind v piece step w)

pub need_pushed : (v w : SectionView) (piece : List ℕ) (o : ℕ) (part : Part) → IsOnce (IsWanted v) → o ≤ length piece → length piece ≤ o → IsOn v w piece o part → Pushed v piece Need w
need_pushed v w piece o part one g h on =
    let leads : Leads v piece w = λ L. whole_piece (Rest L v) (Rest L w) piece o g h (on.leads L) in
    answers (Rest v.limits v) (Rest no_bounds v) piece Need (IsBehind v piece Need w) one
    (need_shows (Rest v.limits v) (Rest no_bounds v) (Rest v.limits w) piece part one (leads v.limits) (next_at v w piece o part on))
    (record { limits = on.limits; form = on.form; place = on.place; stage = on.stage; leads = leads; stood = tt })

pub whole_pushed : (v w u : SectionView) (piece : List ℕ) (o : ℕ) (part : Part) → IsOnce (IsWanted v) → o < length piece → IsOn v w piece o part
    → Takes judged.Whole w (get_or piece o 0) u → Pushed v piece (Whole (o + 1)) u
whole_pushed v w u piece o part one h on t =
    let leads = leads_on v w u piece o h on.leads t.2 in
    answers (Rest v.limits v) (Rest no_bounds v) piece (Whole (o + 1)) (IsBehind v piece (Whole (o + 1)) u) one
    (whole_shows (Rest v.limits v) (Rest no_bounds v) (Rest v.limits u) piece (o + 1) u.lines (omega arith) (leads v.limits)
    (subst (λ (L : Bounds). Rest L u u.lines []) (t.0.limits ∙ on.limits) t.3))
    (record { limits = t.0.limits ∙ on.limits; form = t.0.form ∙ on.form; place = t.0.place ∙ on.place; stage = t.1; leads = (leads, t.3); stood = tt })

pub limit_pushed : (v w u : SectionView) (piece : List ℕ) (o : ℕ) (part : Part) → IsOnce (IsWanted v) → o < length piece → IsOn v w piece o part
    → Takes judged.Limit w (get_or piece o 0) u → Pushed v piece (Limit o part) u
limit_pushed v w u piece o part one h on t =
    answers (Rest v.limits v) (Rest no_bounds v) piece (Limit o part) (IsBehind v piece (Limit o part) u) one
    (limit_shows (Rest v.limits v) (Rest no_bounds v) (Rest v.limits w) (Rest no_bounds w) (Rest v.limits u) (Rest no_bounds u) piece o part u.stage u.lines h
    (both v.limits v w (take o piece) on.leads) (next_at v w piece o part on) (takes_at v.limits judged.Limit w u (get_or piece o 0) on.limits t))
    (record { limits = t.0.limits ∙ on.limits; form = t.0.form ∙ on.form; place = t.0.place ∙ on.place; stage = t.1; leads = tt; stood = (w, stood_here v w piece o part on) })

pub dead_pushed : (v w u : SectionView) (piece : List ℕ) (o : ℕ) (part : Part) → IsOnce (IsWanted v) → o < length piece → IsOn v w piece o part
    → Takes judged.Dead w (get_or piece o 0) u → Pushed v piece (Dead o part) u
dead_pushed v w u piece o part one h on t =
    answers (Rest v.limits v) (Rest no_bounds v) piece (Dead o part) (IsBehind v piece (Dead o part) u) one
    (dead_shows (Rest v.limits v) (Rest no_bounds v) (Rest v.limits w) (Rest no_bounds w) (Rest v.limits u) (Rest no_bounds u) piece o part u.stage u.lines h
    (both v.limits v w (take o piece) on.leads) (next_at v w piece o part on) (takes_at v.limits judged.Dead w u (get_or piece o 0) on.limits t))
    (record { limits = t.0.limits ∙ on.limits; form = t.0.form ∙ on.form; place = t.0.place ∙ on.place; stage = t.1; leads = tt; stood = (w, stood_here v w piece o part on) })
