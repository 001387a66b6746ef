-- A stop behind what was read is a stop of the whole; and a stop of a message is the answer for an input.
use Rattle.std.proofs.Common.{◌≤◌, ◌+◌, ℕ, List, [], ◌∷◌, ◌++◌, length, take, zero-add, sym, subst, arith}
use Rattle.std.proofs.lemmas.List.{length-append}
use Rattle.bh_spec.specs.declared.Part.{Part}
use Rattle.bh_spec.specs.declared.Refusal.TheVariants as refusals
use Rattle.bh_spec.specs.Bounds.{Bounds, IsWithin, no_bounds}
use Rattle.bh_spec.specs.Texts.{Text}
use Rattle.bh_spec.specs.Answers.{refused, IsAnswer}
use Rattle.bh_spec.proofs.Within.{within_less}
use Rattle.bh_spec.specs.Pieces.{SomeOf, CanBecome, IsNext, IsRefused}
use Rattle.bh_decode.specs.declared.stop.Stop.{Stop}
use Rattle.bh_decode.specs.declared.stop.Stop.TheVariants.{Dead, Limit, Ended}
use Rattle.bh_spec.specs.Viable.{IsMessageText}
use Rattle.bh_decode.specs.Stops.{StopsThing, Stops, refusal_of, stop_behind}
use Rattle.bh_spec.proofs.Pieces.{IsOnce, next_unfinished}
use Rattle.bh_decode.proofs.Contexts.{Context, context_here, AreOnce, SomeThen, Follows, next_then, dead_then, limit_then}
use Rattle.bh_decode.proofs.Lifted.{front, front_more, dead_in, limit_in, ended_in}

refused_behind : (M R : Text → Type 0) (done piece : List ℕ) (n k : ℕ) (part : Part) → Context M R done n → IsRefused R [] piece k part → IsRefused M [] (done ++ piece) (length done + k) part
refused_behind M R done piece n k part c h = record {
  inside = omega (arith, length-append done piece, h.inside);
  next = subst (λ (x : List ℕ). IsNext M x part) (sym (front done piece k)) (c.next (take k piece) part h.next);
  after = λ b. h.after (c.out (take (k + 1) piece) (subst (CanBecome M) (front_more done piece k) b));
}

pub stops_behind : (M R N S : Text → Type 0) (done piece : List ℕ) (m n : ℕ) → Context M R done m → Context N S done n → m ≤ length piece → (stop : Stop)
    → Stops R S piece stop → Stops M N (done ++ piece) (stop_behind (length done) stop)
stops_behind M R N S done piece m n c d enough (Dead at part) h = record {
  refused = refused_behind M R done piece m at part c h.refused;
  anyway = λ b. h.anyway (d.out (take (at + 1) piece) (subst (CanBecome N) (front_more done piece at) b));
}
stops_behind M R N S done piece m n c d enough (Limit at part) h = record {
  refused = refused_behind M R done piece m at part c h.refused;
  anyway = subst (CanBecome N) (sym (front_more done piece at)) (d.into (take (at + 1) piece) h.anyway);
}
stops_behind M R N S done piece m n c d enough (Ended part) h = record {
  next = c.next piece part h.next;
  unfinished = λ t. h.unfinished (c.text piece enough t);
}

pub stop_answers : (L : Bounds) (bytes : List ℕ) → IsWithin L.input (length bytes) → (stop : Stop)
    → Stops (IsMessageText L) (IsMessageText no_bounds) bytes stop → IsAnswer L bytes (refused (refusal_of (length bytes) stop))
stop_answers L bytes seen (Dead at part) h =
    subst (λ (n : ℕ). IsAnswer L bytes (refused (refusals.Dead n part))) (zero-add at)
    (dead_in L (IsMessageText L) (IsMessageText no_bounds) [] bytes at 0 0 part (context_here (IsMessageText L)) (context_here (IsMessageText no_bounds)) h
    (within_less L.input (0 + at + 1) (length bytes) (omega (arith, h.refused.inside)) seen))
stop_answers L bytes seen (Limit at part) h =
    subst (λ (n : ℕ). IsAnswer L bytes (refused (refusals.Limit n part))) (zero-add at)
    (limit_in L (IsMessageText L) (IsMessageText no_bounds) [] bytes at 0 0 part (context_here (IsMessageText L)) (context_here (IsMessageText no_bounds)) h
    (within_less L.input (0 + at + 1) (length bytes) (omega (arith, h.refused.inside)) seen))
stop_answers L bytes seen (Ended part) h =
    ended_in L (IsMessageText L) [] bytes 0 part (context_here (IsMessageText L)) (omega arith) h.next h.unfinished seen

-- ---- one thing, and what follows it

-- two kinds with the same texts
pub record Same (R S : Text → Type 0) : Type 0 where
  pub on : (t : Text) → R t → S t
  pub back : (t : Text) → S t → R t

becomes_same : (R S : Text → Type 0) → ((t : Text) → R t → S t) → (bytes : List ℕ) → CanBecome R bytes → CanBecome S bytes
becomes_same R S on bytes h = record { text = h.text; after = h.after; spelled = on h.text h.spelled; begins = h.begins }

next_same : (R S : Text → Type 0) → ((t : Text) → R t → S t) → (bytes : List ℕ) (part : Part) → IsNext R bytes part → IsNext S bytes part
next_same R S on bytes part h = record { before = h.before; byte = h.byte; after = h.after; spelled = on (h.before ++ ((part, h.byte) ∷ h.after)) h.spelled; begins = h.begins }

refused_same : (R S : Text → Type 0) → Same R S → (bytes : List ℕ) (at : ℕ) (part : Part) → IsRefused R [] bytes at part → IsRefused S [] bytes at part
refused_same R S same bytes at part h = record {
  inside = h.inside;
  next = next_same R S same.on (take at bytes) part h.next;
  after = λ b. h.after (becomes_same S R same.back (take (at + 1) bytes) b);
}

pub stops_same : (R S P Q : Text → Type 0) → Same R S → Same P Q → (bytes : List ℕ) (stop : Stop) → Stops R P bytes stop → Stops S Q bytes stop
stops_same R S P Q one other bytes (Dead at part) h = record {
  refused = refused_same R S one bytes at part h.refused;
  anyway = λ b. h.anyway (becomes_same Q P other.back (take (at + 1) bytes) b);
}
stops_same R S P Q one other bytes (Limit at part) h = record {
  refused = refused_same R S one bytes at part h.refused;
  anyway = becomes_same P Q other.on (take (at + 1) bytes) h.anyway;
}
stops_same R S P Q one other bytes (Ended part) h = record {
  next = next_same R S one.on bytes part h.next;
  unfinished = λ t. h.unfinished (record { text = t.text; spelled = one.back t.text t.spelled; same = t.same });
}

pub thing_same : (R S P Q : Text → Type 0) → Same R S → Same P Q → (bytes : List ℕ) (stop : Stop) → StopsThing R P bytes stop → StopsThing S Q bytes stop
thing_same R S P Q one other bytes (Dead at part) h = record {
  refused = refused_same R S one bytes at part h.refused;
  anyway = λ b. h.anyway (becomes_same Q P other.back (take (at + 1) bytes) b);
}
thing_same R S P Q one other bytes (Limit at part) h = record {
  refused = refused_same R S one bytes at part h.refused;
  anyway = becomes_same P Q other.on (take (at + 1) bytes) h.anyway;
}
thing_same R S P Q one other bytes (Ended part) h = record {
  on = record {
    begins = becomes_same R S one.on bytes h.on.begins;
    unfinished = λ taken e. h.on.unfinished taken (record { within = e.within; whole = record { text = e.whole.text; spelled = one.back e.whole.text e.whole.spelled; same = e.whole.same } });
  };
  next = next_same R S one.on bytes part h.next;
}

pub thing_then : {I : Type 0} (A S B T : I → Text → Type 0) → AreOnce A → AreOnce B → Follows A S → Follows B T → ((i : I) (t : Text) → A i t → B i t) → IsOnce (SomeThen A S)
    → (bytes : List ℕ) (stop : Stop) → StopsThing (SomeOf A) (SomeOf B) bytes stop → StopsThing (SomeThen A S) (SomeThen B T) bytes stop
thing_then A S B T once_a once_b follows_a follows_b weaker once bytes (Dead at part) h = dead_then A S B T once_a once_b follows_a weaker bytes at part h
thing_then A S B T once_a once_b follows_a follows_b weaker once bytes (Limit at part) h = limit_then A S B T once_a follows_a follows_b bytes at part h
thing_then A S B T once_a once_b follows_a follows_b weaker once bytes (Ended part) h =
    let next = next_then A S follows_a bytes part h.next in
    record { on = next_unfinished (SomeThen A S) once [] bytes part next; next = next }

pub thing_behind : (M R N S : Text → Type 0) → IsOnce M → (done piece : List ℕ) (m n : ℕ) → Context M R done m → Context N S done n → (stop : Stop)
    → StopsThing R S piece stop → StopsThing M N (done ++ piece) (stop_behind (length done) stop)
thing_behind M R N S once done piece m n c d (Dead at part) h = record {
  refused = refused_behind M R done piece m at part c h.refused;
  anyway = λ b. h.anyway (d.out (take (at + 1) piece) (subst (CanBecome N) (front_more done piece at) b));
}
thing_behind M R N S once done piece m n c d (Limit at part) h = record {
  refused = refused_behind M R done piece m at part c h.refused;
  anyway = subst (CanBecome N) (sym (front_more done piece at)) (d.into (take (at + 1) piece) h.anyway);
}
thing_behind M R N S once done piece m n c d (Ended part) h =
    let next = c.next piece part h.next in
    record { on = next_unfinished M once [] (done ++ piece) part next; next = next }
