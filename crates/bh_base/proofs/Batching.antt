-- What a batch holds and what went out make the text.
use Rattle.std.proofs.Common.{◌≡◌, ◌+◌, ℕ, Bool, true, false, IsTrue, List, [], ◌∷◌, ◌++◌, length, Result, Ok, Err, OnOk, refl, sym, ◌∙◌, ap, subst, arith, append_assoc, append-nil}
use Rattle.std.proofs.lemmas.List.{length-append}
use Rattle.bh_base.specs.declared.failed.Failed.{Failed}
use Rattle.bh_base.specs.Steps.{Step, Read, Write, BadRead, BadWrite, none, given, TakesAll, IsQuiet, StopsAt, is_bad_write, WroteAll}
use Rattle.bh_base.specs.StepLaws.{given-append, writes-append, TakesAll-append, quiet_on, stops_on}
use Rattle.bh_base.specs.Batches.{BatchView, batch_room, no_bytes, Sent, Batched, Puts, Writes}
use Rattle.bh_base.proofs.Chains.{joined}

sent_more : (failed : Bool) (text : List ℕ) (steps : List Step) (held bytes : List ℕ) → Sent failed text steps held → Sent failed (text ++ bytes) steps (held ++ bytes)
sent_more false text steps held bytes h = (ap (λ (l : List ℕ). l ++ bytes) h.0 ∙ append_assoc (given steps) held bytes, h.1)
sent_more true text steps held bytes h = (h.0 ++ bytes, ap (λ (l : List ℕ). l ++ bytes) h.1 ∙ append_assoc (given steps) h.0 bytes, h.2)

-- Where a write failed, it doesn't matter what is held.
sent_failed : (failed : Bool) (text : List ℕ) (steps : List Step) (held bytes now : List ℕ) → IsTrue failed → Sent failed text steps held → Sent failed (text ++ bytes) steps now
sent_failed false text steps held bytes now f h = absurd (cc)
sent_failed true text steps held bytes now f h = (h.0 ++ bytes, ap (λ (l : List ℕ). l ++ bytes) h.1 ∙ append_assoc (given steps) h.0 bytes, h.2)

went : (text held : List ℕ) (xs ys : List Step) → text ≡ given xs ++ held → given ys ≡ held → text ≡ given (xs ++ ys)
went text held xs ys e g = e ∙ ap (λ (l : List ℕ). given xs ++ l) (sym g) ∙ sym (given-append xs ys)

went_in_part : (text held rest : List ℕ) (xs ys : List Step) → text ≡ given xs ++ held → held ≡ given ys ++ rest → text ≡ given (xs ++ ys) ++ rest
went_in_part text held rest xs ys e g =
    e ∙ ap (λ (l : List ℕ). given xs ++ l) g ∙ sym (append_assoc (given xs) (given ys) rest) ∙ ap (λ (l : List ℕ). l ++ rest) (sym (given-append xs ys))

module _ {S : Type 0} {step : S → Step → S → Type 0} where
  pub begun : (s : S) → Batched step s [] s no_bytes
  begun s = record { steps = []; chain = none; sent = (refl, refl); few = λ all. omega arith }

  pub held_more : (s t : S) (text bytes : List ℕ) (b c : BatchView) → c.held ≡ b.held ++ bytes → c.failed ≡ b.failed → Batched step s text t b → Batched step s (text ++ bytes) t c
  held_more s t text bytes b c held failed h = record {
    steps = h.steps;
    chain = h.chain;
    sent = rw (held, failed) (sent_more b.failed text h.steps b.held bytes h.sent);
    few = h.few;
  }

  pub failed_more : (s t : S) (text bytes : List ℕ) (b : BatchView) → IsTrue b.failed → Batched step s text t b → Batched step s (text ++ bytes) t b
  failed_more s t text bytes b failed h = record {
    steps = h.steps;
    chain = h.chain;
    sent = sent_failed b.failed text h.steps b.held bytes b.held failed h.sent;
    few = h.few;
  }

  -- a full buffer went out
  pub handed : (s t u : S) (text : List ℕ) (b c : BatchView) (r : Result (Unit {0}) Failed) → b.failed ≡ false → length b.held ≡ batch_room
      → r ≡ Ok tt → c.held ≡ [] → c.failed ≡ b.failed → WroteAll step t b.held r u → Batched step s text t b → Batched step s text u c
  handed s t u text b c r ok full e empty same w h =
      let sent : Sent false text h.steps b.held = subst (λ (f : Bool). Sent f text h.steps b.held) ok h.sent in
      let all : (given w.steps ≡ b.held) × IsQuiet w.steps = subst (λ (r : Result (Unit {0}) Failed). OnOk r ((given w.steps ≡ b.held) × IsQuiet w.steps)) e w.whole in
      record {
        steps = h.steps ++ w.steps;
        chain = joined h.chain w.chain;
        sent = rw (empty, same, ok) (went text b.held h.steps w.steps sent.0 all.0 ∙ sym (append-nil (given (h.steps ++ w.steps))), quiet_on h.steps w.steps sent.1 all.1);
        few = λ each.
            let parts = TakesAll-append h.steps w.steps each in
            omega (
              arith,
              h.few parts.0,
              w.few parts.1,
              full,
              writes-append h.steps w.steps,
              ap (length {A = ℕ}) (given-append h.steps w.steps),
              length-append (given h.steps) (given w.steps),
              ap (length {A = ℕ}) all.0,
            );
      }

  -- A write failed.
  pub handed_in_part : (s t u : S) (text : List ℕ) (b c : BatchView) (e : Failed) → b.failed ≡ false → IsTrue c.failed
      → WroteAll step t b.held (Err e) u → Batched step s text t b → Batched step s text u c
  handed_in_part s t u text b c e ok failed w h =
      let sent : Sent false text h.steps b.held = subst (λ (f : Bool). Sent f text h.steps b.held) ok h.sent in
      record {
        steps = h.steps ++ w.steps;
        chain = joined h.chain w.chain;
        sent = is_failed c.failed failed (w.part.0, went_in_part text b.held w.part.0 h.steps w.steps sent.0 w.part.1, stops_on is_bad_write h.steps w.steps sent.1 w.part.2);
        few = λ each. absurd (no_fault w.steps w.part.2 (TakesAll-append h.steps w.steps each).1);
      }
    where
      is_failed : (f : Bool) → IsTrue f → Sent true text (h.steps ++ w.steps) c.held → Sent f text (h.steps ++ w.steps) c.held
      is_failed true i x = x
      is_failed false i x = absurd (cc)

      last_fails : (x : Step) → is_bad_write x ≡ true → TakesAll (x ∷ []) → ⊥
      last_fails (Read room bytes) e all = absurd (cc)
      last_fails (Write size bytes) e all = absurd (cc)
      last_fails (BadRead room) e all = absurd (cc)
      last_fails (BadWrite size) e all = all

      no_fault : (xs : List Step) → StopsAt is_bad_write xs → TakesAll xs → ⊥
      no_fault xs stops all = last_fails stops.last stops.bad_last (TakesAll-append stops.front (stops.last ∷ []) (subst TakesAll stops.split all)).1

  -- What is held went out, and with it the text.
  pub flushed : (s t u : S) (text : List ℕ) (b : BatchView) (r : Result (Unit {0}) Failed) → b.failed ≡ false
      → WroteAll step t b.held r u → Batched step s text t b → Writes step s text r u
  flushed s t u text b (Ok x) ok w h =
      let sent : Sent false text h.steps b.held = subst (λ (f : Bool). Sent f text h.steps b.held) ok h.sent in
      record {
        steps = h.steps ++ w.steps;
        chain = joined h.chain w.chain;
        whole = (went text b.held h.steps w.steps sent.0 w.whole.0, quiet_on h.steps w.steps sent.1 w.whole.1);
        part = tt;
        few = λ each.
            let parts = TakesAll-append h.steps w.steps each in
            omega (
              arith,
              h.few parts.0,
              w.few parts.1,
              writes-append h.steps w.steps,
              ap (length {A = ℕ}) sent.0,
              length-append (given h.steps) b.held,
            );
      }
  flushed s t u text b (Err e) ok w h =
      let sent : Sent false text h.steps b.held = subst (λ (f : Bool). Sent f text h.steps b.held) ok h.sent in
      record {
        steps = h.steps ++ w.steps;
        chain = joined h.chain w.chain;
        whole = tt;
        part = (w.part.0, went_in_part text b.held w.part.0 h.steps w.steps sent.0 w.part.1, stops_on is_bad_write h.steps w.steps sent.1 w.part.2);
        few = λ each.
            let parts = TakesAll-append h.steps w.steps each in
            omega (
              arith,
              h.few parts.0,
              w.few parts.1,
              writes-append h.steps w.steps,
              ap (length {A = ℕ}) sent.0,
              length-append (given h.steps) b.held,
            );
      }

  -- Nothing more is written once a write failed.
  pub flushed_failed : (s t : S) (text : List ℕ) (b : BatchView) (e : Failed) → IsTrue b.failed → Batched step s text t b
      → Writes {A = Unit {0}} step s text (Err e) t
  flushed_failed s t text b e failed h =
      let sent = is_failed b.failed failed h.sent in
      record {
        steps = h.steps;
        chain = h.chain;
        whole = tt;
        part = sent;
        few = λ each. omega (arith, h.few each, ap (length {A = ℕ}) sent.1, length-append (given h.steps) sent.0);
      }
    where
      is_failed : (f : Bool) → IsTrue f → Sent f text h.steps b.held → Sent true text h.steps b.held
      is_failed true i x = x
      is_failed false i x = absurd (cc)

-- a front of the bytes was put, and no write failed
pub record PutFront {S : Type 0} (step : S → Step → S → Type 0) (s : S) (b : BatchView) (bytes rest : List ℕ) (t : S) (c : BatchView) : Type 0 where
  pub done : List ℕ
  pub split : bytes ≡ done ++ rest
  pub puts : Puts step s b done t c
  pub ok : c.failed ≡ false

module _ {S : Type 0} {step : S → Step → S → Type 0} where
  pub nothing_put : (s : S) (b : BatchView) (bytes : List ℕ) → b.failed ≡ false → PutFront step s b bytes bytes s b
  nothing_put s b bytes ok = record {
    done = [];
    split = refl;
    puts = λ from text h. subst (λ (l : List ℕ). Batched step from l s b) (sym (append-nil text)) h;
    ok = ok;
  }

  -- a full buffer more
  pub buffer_put : (s t u : S) (bytes rest front back : List ℕ) (b c d e : BatchView) (r : Result (Unit {0}) Failed)
      → rest ≡ front ++ back → length c.held + length front ≡ batch_room → d.held ≡ c.held ++ front → d.failed ≡ c.failed
      → r ≡ Ok tt → e.held ≡ [] → e.failed ≡ d.failed → WroteAll step t d.held r u
      → PutFront step s b bytes rest t c → PutFront step s b bytes back u e
  buffer_put s t u bytes rest front back b c d e r cut full held same ok empty still w p =
      let long : length d.held ≡ batch_room = ap (length {A = ℕ}) held ∙ length-append c.held front ∙ full in
      record {
        done = p.done ++ front;
        split = p.split ∙ ap (λ (l : List ℕ). p.done ++ l) cut ∙ sym (append_assoc p.done front back);
        puts = λ from text h.
            subst (λ (l : List ℕ). Batched step from l u e) (append_assoc text p.done front)
            (handed from t u ((text ++ p.done) ++ front) d e r (same ∙ p.ok) long ok empty still w (held_more from t (text ++ p.done) front c d held same (p.puts from text h)));
        ok = still ∙ same ∙ p.ok;
      }

  -- the rest is held
  pub rest_put : (s t : S) (bytes rest : List ℕ) (b c d : BatchView) → d.held ≡ c.held ++ rest → d.failed ≡ c.failed
      → PutFront step s b bytes rest t c → Puts step s b bytes t d
  rest_put s t bytes rest b c d held same p = λ from text h.
      subst (λ (l : List ℕ). Batched step from l t d) (append_assoc text p.done rest ∙ ap (λ (l : List ℕ). text ++ l) (sym p.split))
      (held_more from t (text ++ p.done) rest c d held same (p.puts from text h))

  -- a write failed
  pub put_in_part : (s t u : S) (bytes rest front back : List ℕ) (b c d e : BatchView) (fault : Failed)
      → rest ≡ front ++ back → d.held ≡ c.held ++ front → d.failed ≡ c.failed → IsTrue e.failed → WroteAll step t d.held (Err fault) u
      → PutFront step s b bytes rest t c → Puts step s b bytes u e
  put_in_part s t u bytes rest front back b c d e fault cut held same failed w p = λ from text h.
      let one = held_more from t (text ++ p.done) front c d held same (p.puts from text h) in
      let two = handed_in_part from t u ((text ++ p.done) ++ front) d e fault (same ∙ p.ok) failed w one in
      subst (λ (l : List ℕ). Batched step from l u e)
      (append_assoc (text ++ p.done) front back ∙ ap (λ (l : List ℕ). (text ++ p.done) ++ l) (sym cut) ∙ append_assoc text p.done rest ∙ ap (λ (l : List ℕ). text ++ l) (sym p.split))
      (failed_more from u ((text ++ p.done) ++ front) back e failed two)
