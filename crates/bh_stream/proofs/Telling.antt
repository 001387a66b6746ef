-- What a port tells of a call, by what the call did.
use Rattle.std.proofs.Common.{◌≡◌, ◌<◌, ℕ, zero, suc, Bool, true, false, ◌||◌, List, [], ◌∷◌, ◌++◌, length, take, Option, Some, None, IfSome, refl, sym, ◌∙◌, ap, subst, append-nil, length-append, inl, arith}
use Rattle.std.specs.List.{list_any}
use Rattle.std.specs.Io.KnownBytes.{Consumes, IsAtEnd}
use Rattle.std.proofs.lemmas.List.{take_all}
use Rattle.bh_spec.specs.Bounds.{IsWithin}
use Rattle.bh_spec.specs.Texts.{Text}
use Rattle.bh_spec.specs.Pieces.{CanBecome}
use Rattle.bh_base.specs.Steps.{Step, Read, Write, BadRead, BadWrite, Rose, Counts, taken, given, met, meets_end, is_empty, Asks, is_bad_read, is_bad_write, ReadFacts, WriteFacts, ReadLeaves, WriteLeaves, ChainFacts, Entry, Took, Gave, entries, Logs, Meanings, meanings}
use Rattle.bh_base.specs.StepLaws.{quiet_is, read_stops, write_stops, stayed, rose}
use Rattle.bh_base.proofs.Chains.{chain_facts}
use Rattle.bh_stream.specs.Logs.{Begins, AtEvery, GivesFront, IsClose}
use Rattle.bh_stream.specs.Formats.{GivesAlways}
use Rattle.bh_stream.specs.Calls.{PortCall}
use Rattle.bh_stream.specs.Points.{one_read}
use Rattle.bh_stream.specs.Telling.{BeginsOwn, ReadsAll, Tells, TellsOf, CompletesAs, EndStops, CountsBy, CountsAs, calls_of, AtEveryEntry, IsLogged, PortTells, CalledSo}
use Rattle.bh_stream.specs.declared.streaming.End.{End}
use Rattle.bh_stream.specs.declared.streaming.End.TheVariants as end

-- ---- the input

-- the whole input was taken
pub whole_input : (b : List ℕ) (after : Option (List ℕ)) (bytes : List ℕ) → Consumes (Some b) after bytes → IsAtEnd after → (b ≡ bytes) × (after ≡ Some [])
whole_input b None bytes comes at_end = absurd comes
whole_input b (Some rest) bytes comes at_end = (comes ∙ ap (λ (l : List ℕ). bytes ++ l) at_end ∙ append-nil bytes, ap (λ (l : List ℕ). Some l) at_end)

-- the input begins with the bytes that were taken
pub front_of_input : (b : List ℕ) (after : Option (List ℕ)) (bytes : List ℕ) → Consumes (Some b) after bytes → (rest : List ℕ) × (b ≡ bytes ++ rest)
front_of_input b None bytes comes = absurd comes
front_of_input b (Some rest) bytes comes = (rest, comes)

-- what was given begins the output of the thing that the input is
pub begins_own : {M : Type 0} (spelled : M → Text → Type 0) (output : M → List ℕ) (limit : Option ℕ) (steps : List Step) → GivesAlways spelled output limit steps
    → (input : List ℕ) (left : Option (List ℕ)) → Consumes (Some input) left (taken steps) → (met steps ≡ true → IsAtEnd left)
    → BeginsOwn spelled output limit input (given steps)
begins_own {M} spelled output limit steps gives input left comes at_end m within text = by_end (met steps) refl
  where
    here : GivesFront spelled output limit steps
    here = gives steps [] (sym (append-nil steps))

    front : (rest : List ℕ) × (input ≡ taken steps ++ rest)
    front = front_of_input input left (taken steps) comes

    few : (o : Option ℕ) → IsWithin o (length input) → IsWithin o (length (taken steps))
    few None h = tt
    few (Some most) h = omega (arith, h, ap length front.1, length-append (taken steps) front.0)

    by_end : (b : Bool) → met steps ≡ b → Begins (given steps) (output m)
    by_end true e =
        let all = whole_input input left (taken steps) comes (at_end e) in
        here.behind e m (record { text = text.text; spelled = text.spelled; same = text.same ∙ all.0 })
    by_end false e =
        let long = length (taken steps) in
        let all : take long (taken steps) ≡ taken steps = take_all long (taken steps) (omega arith) in
        let goes_on : CanBecome (spelled m) (take long (taken steps)) = record {
          text = text.text;
          after = front.0;
          spelled = text.spelled;
          begins = text.same ∙ front.1 ∙ ap (λ (l : List ℕ). l ++ front.0) (sym all);
        } in
        here.so_far (inl e) long (record {
          inside = omega arith;
          within = few limit within;
          viable = record { text = text.text; after = front.0; spelled = (m, text.spelled); begins = goes_on.begins };
          most = λ n low w v. low;
        }) m goes_on

-- ---- faults

counts_by : {A R : Type 0} (r : End A R) (xs : List Step) (rb rn wb wn : ℕ) → Counts (list_any is_bad_read xs) rb rn → Counts (list_any is_bad_write xs) wb wn → EndStops r xs
    → (r ≡ end.ReadFault → Rose rb rn) × (r ≡ end.WriteFault → Rose wb wn) × ((r ≡ end.ReadFault → ⊥) → rn ≡ rb) × ((r ≡ end.WriteFault → ⊥) → wn ≡ wb)
counts_by (end.Done a) xs rb rn wb wn r w h =
    let q = quiet_is xs h in
    (λ e. absurd (cc), λ e. absurd (cc), λ no. stayed (list_any is_bad_read xs) rb rn q.0 r, λ no. stayed (list_any is_bad_write xs) wb wn q.1 w)
counts_by (end.Refused why) xs rb rn wb wn r w h =
    let q = quiet_is xs h in
    (λ e. absurd (cc), λ e. absurd (cc), λ no. stayed (list_any is_bad_read xs) rb rn q.0 r, λ no. stayed (list_any is_bad_write xs) wb wn q.1 w)
counts_by end.ReadFault xs rb rn wb wn r w h =
    let q = read_stops xs h in
    (λ e. rose (list_any is_bad_read xs) rb rn q.0 r, λ e. absurd (cc), λ no. absurd (no refl), λ no. stayed (list_any is_bad_write xs) wb wn q.1 w)
counts_by end.WriteFault xs rb rn wb wn r w h =
    let q = write_stops xs h in
    (λ e. absurd (cc), λ e. rose (list_any is_bad_write xs) wb wn q.0 w, λ no. stayed (list_any is_bad_read xs) rb rn q.1 r, λ no. absurd (no refl))

-- ---- logs

-- calls that took and gave the same bytes, and met the end both or neither
pub record AreAlike (xs ys : List Step) : Type 0 where
  pub takes : taken xs ≡ taken ys
  pub gives : given xs ≡ given ys
  pub meets : met xs ≡ met ys

read_alike : (room : ℕ) (bytes : List ℕ) → 0 < room → meets_end (Read room bytes) ≡ is_empty bytes
read_alike zero bytes h = absurd (omega arith)
read_alike (suc room) bytes h = refl

-- each front of a log is that of a front of the calls
pub alike : (steps : List Step) → Asks one_read steps → (front back : List Entry) → entries steps ≡ front ++ back
    → (before after : List Step) × (steps ≡ before ++ after) × AreAlike before (calls_of front)
alike steps asks [] back e = ([], steps, refl, record { takes = refl; gives = refl; meets = refl })
alike [] asks (f ∷ front) back e = absurd (cc)
alike ((BadRead n) ∷ steps) asks (f ∷ front) back e =
    let r = alike steps asks.2 (f ∷ front) back e in
    (BadRead n ∷ r.0, r.1, ap (λ (l : List Step). BadRead n ∷ l) r.2, record { takes = r.3.takes; gives = r.3.gives; meets = r.3.meets })
alike ((BadWrite n) ∷ steps) asks (f ∷ front) back e =
    let r = alike steps asks (f ∷ front) back e in
    (BadWrite n ∷ r.0, r.1, ap (λ (l : List Step). BadWrite n ∷ l) r.2, record { takes = r.3.takes; gives = r.3.gives; meets = r.3.meets })
alike ((Read n bytes) ∷ steps) asks ((Took b) ∷ front) back e =
    let same : bytes ≡ b = cc in
    let tail : entries steps ≡ front ++ back = cc in
    let r = alike steps asks.2 front back tail in (
      Read n bytes ∷ r.0,
      r.1,
      ap (λ (l : List Step). Read n bytes ∷ l) r.2,
      record {
        takes = λ i. same i ++ r.3.takes i;
        gives = r.3.gives;
        meets = ap (λ (b : Bool). b || met r.0) (read_alike n bytes asks.0 ∙ ap is_empty same ∙ sym (read_alike one_read b (omega arith))) ∙ ap (λ (b : Bool). meets_end (Read one_read b') || b) r.3.meets;
      },
    )
  where
    b' : List ℕ
    b' = b
alike ((Read n bytes) ∷ steps) asks ((Gave b) ∷ front) back e = absurd (cc)
alike ((Write n bytes) ∷ steps) asks ((Gave b) ∷ front) back e =
    let same : bytes ≡ b = cc in
    let tail : entries steps ≡ front ++ back = cc in
    let r = alike steps asks front back tail in
    (Write n bytes ∷ r.0, r.1, ap (λ (l : List Step). Write n bytes ∷ l) r.2, record { takes = r.3.takes; gives = λ i. same i ++ r.3.gives i; meets = r.3.meets })
alike ((Write n bytes) ∷ steps) asks ((Took b) ∷ front) back e = absurd (cc)

-- what is said of calls by their bytes is said of those that are alike
pub front_alike : {M : Type 0} {spelled : M → Text → Type 0} {output : M → List ℕ} {limit : Option ℕ} (xs ys : List Step) → AreAlike xs ys → GivesFront spelled output limit xs
    → GivesFront spelled output limit ys
front_alike xs ys a h = record {
  so_far = rw (a.takes, a.gives, a.meets) at h.so_far;
  behind = rw (a.takes, a.gives, a.meets) at h.behind;
  nothing = λ never. sym a.gives ∙ h.nothing never;
}

pub close_alike : (R : Text → Type 0) (Shown : List ℕ → ℕ → Type 0) (most : ℕ) (xs ys : List Step) → AreAlike xs ys → IsClose R Shown most xs → IsClose R Shown most ys
close_alike R Shown most xs ys a h = rw (a.takes, a.gives) at h

-- what holds at every point of the calls, and of calls that are alike, holds at every point of the log
pub at_entries : (P : List Step → Type 0) → ((xs ys : List Step) → AreAlike xs ys → P xs → P ys) → (steps : List Step) → Asks one_read steps → AtEvery P steps
    → AtEveryEntry P (entries steps)
at_entries P same steps asks h front back e = let a = alike steps asks front back e in same a.0 (calls_of front) a.3 (h a.0 a.1 a.2)

pub logged_as : (P : List Entry → Type 0) (steps : List Step) (old now : Option (List Entry)) → Logs old now (entries steps) → P (entries steps) → IsLogged P old now
logged_as P steps None now h p = tt
logged_as P steps (Some old) None h p = absurd h
logged_as P steps (Some old) (Some new) h p = (entries steps, ap Some h, p)

-- ---- the clauses

module _ {M A R : Type 0} (spelled : M → Text → Type 0) (output : M → List ℕ) (limit : Option ℕ) (Right : End A R → List ℕ → List ℕ → Type 0) {Ends : End A R → List Step → Type 0}
    (stops : (r : End A R) (steps : List Step) → Ends r steps → EndStops r steps)
    (right : (r : End A R) (steps : List Step) (rest : List ℕ) → (met steps ≡ true → rest ≡ []) → Ends r steps → Right r (taken steps ++ rest) (given steps))
    (done : (a : A) (steps : List Step) → Ends (end.Done a) steps → met steps ≡ true)
    {S : Type 0} {read write : S → Step → S → Type 0} {left sent : S → Option (List ℕ)} {read_faults write_faults : S → ℕ} {ended : S → Bool} {log : S → Option (List Entry)}
    (read_law : (s t : S) (x : Step) → read s x t → ReadFacts left read_faults ended s x t)
    (ended_law : (s : S) → ended s ≡ true → IsAtEnd (left s))
    (write_law : (s t : S) (x : Step) → write s x t → WriteFacts sent write_faults s x t)
    (read_leaves : (s t : S) (x : Step) → read s x t → ReadLeaves sent write_faults log s x t)
    (write_leaves : (s t : S) (x : Step) → write s x t → WriteLeaves left read_faults ended log s x t) where
  abbrev means : Meanings S
  means = meanings left sent read_faults write_faults

  module _ (s t : S) (r : End A R) (steps : List Step) (call : PortCall limit (GivesAlways spelled output limit) Ends read write steps s r t) where
    pub facts : ChainFacts left sent read_faults write_faults ended log s steps t
    facts = chain_facts read_law read_leaves write_law write_leaves call.chain

    pub counted_as : CountsAs means s r t
    counted_as =
        let c = counts_by r steps (read_faults s) (read_faults t) (write_faults s) (write_faults t) facts.read_counts facts.write_counts (stops r steps call.ends) in
        record { read_fault = c.0; write_fault = c.1; quiet_reads = c.2; quiet_writes = c.3 }

    tells : (input : List ℕ) → Consumes (Some input) (left t) (taken steps) → Tells spelled output limit Right r input (left t) (sent s) (sent t)
    tells input comes =
        let front = front_of_input input (left t) (taken steps) comes in
        record {
          sent = given steps;
          goes = facts.goes;
          right = subst (λ (l : List ℕ). Right r l (given steps)) (sym front.1) (right r steps front.0 (no_rest front) call.ends);
          begins = begins_own spelled output limit steps call.gives input (left t) comes (λ e. ended_law t (facts.end e));
          all = reads_all r call.ends;
        }
      where
        no_rest : (front : (rest : List ℕ) × (input ≡ taken steps ++ rest)) → met steps ≡ true → front.0 ≡ []
        no_rest front e =
            let all = whole_input input (left t) (taken steps) comes (ended_law t (facts.end e)) in
            empty (taken steps) front.0 (sym all.0 ∙ front.1)
          where
            empty : (x y : List ℕ) → x ≡ x ++ y → y ≡ []
            empty [] y e = sym e
            empty (b ∷ x) y e = let tail : x ≡ x ++ y = cc in empty x y tail

        reads_all : (r : End A R) → Ends r steps → ReadsAll r (left t)
        reads_all (end.Done a) h = (whole_input input (left t) (taken steps) comes (ended_law t (facts.end (done a steps h)))).1
        reads_all (end.Refused why) h = tt
        reads_all end.ReadFault h = tt
        reads_all end.WriteFault h = tt

    pub tells_of : TellsOf spelled output limit Right means s r t
    tells_of = by_left (left s) facts.comes
      where
        by_left : (o : Option (List ℕ)) → Consumes o (left t) (taken steps) → IfSome o (λ input. Tells spelled output limit Right r input (left t) (sent s) (sent t))
        by_left None comes = tt
        by_left (Some input) comes = tells input comes

    -- a call that counted no fault ended with the answer
    pub completes_as : {X : Type 0} (IsAnswerFor : List ℕ → X → Type 0) (end_of : X → ℕ → End A R)
        → ((answer : X) (input out : List ℕ) → IsAnswerFor input answer → Right r input out → (r ≡ end.ReadFault → ⊥) → (r ≡ end.WriteFault → ⊥) → r ≡ end_of answer (length input))
        → CompletesAs IsAnswerFor end_of means s r t
    completes_as {X} IsAnswerFor end_of one = by_left (left s) tells_of
      where
        by_left : (o : Option (List ℕ)) → IfSome o (λ input. Tells spelled output limit Right r input (left t) (sent s) (sent t))
            → IfSome o (λ input. (answer : X) → IsAnswerFor input answer → (Rose (read_faults s) (read_faults t) → ⊥) → (Rose (write_faults s) (write_faults t) → ⊥) → r ≡ end_of answer (length input))
        by_left None h = tt
        by_left (Some input) h = λ answer is no_read no_write. one answer input h.sent is h.right (λ e. no_read (counted_as.read_fault e)) (λ e. no_write (counted_as.write_fault e))

    -- All of it, where what holds at every point of the calls holds of calls that are alike.
    pub port_tells : {X : Type 0} (Here : List Step → Type 0) → ((xs ys : List Step) → AreAlike xs ys → Here xs → Here ys) → AtEvery Here steps
        → (IsAnswerFor : List ℕ → X → Type 0) (end_of : X → ℕ → End A R)
        → ((answer : X) (input out : List ℕ) → IsAnswerFor input answer → Right r input out → (r ≡ end.ReadFault → ⊥) → (r ≡ end.WriteFault → ⊥) → r ≡ end_of answer (length input))
        → PortTells spelled output limit Here Right IsAnswerFor end_of means log s r t
    port_tells Here same here IsAnswerFor end_of one = record {
      told = tells_of;
      complete = completes_as IsAnswerFor end_of one;
      logged = logged_as (AtEveryEntry Here) steps (log s) (log t) facts.logs (at_entries Here same steps call.asks here);
      counts = counted_as;
    }

-- ---- the end that the caller sees

module _ {A R E : Type 0} (of_end : End A R → E) (called : E → Option (End A R)) (back : (r : End A R) → called (of_end r) ≡ Some r) where
  -- what holds of the end over the port
  pub called_so : (U : Type 0) (P : End A R → Type 0) (r : End A R) (e : E) → e ≡ of_end r → P r → CalledSo (called e) U P
  called_so U P r e same h = subst (λ (o : Option (End A R)). CalledSo o U P) (sym (ap called same ∙ back r)) h

  of_some : (r q : End A R) → of_end r ≡ of_end q → r ≡ q
  of_some r q e = let both : Some r ≡ Some q = sym (back r) ∙ ap called e ∙ back q in cc

  -- and the counts of faults
  pub called_counts : {S : Type 0} (port : Meanings S) (s t : S) (r : End A R) (e : E) → e ≡ of_end r → CountsAs port s r t → CountsBy (of_end end.ReadFault) (of_end end.WriteFault) port s e t
  called_counts port s t r e same h = record {
    read_fault = λ k. h.read_fault (of_some r end.ReadFault (sym same ∙ k));
    write_fault = λ k. h.write_fault (of_some r end.WriteFault (sym same ∙ k));
    quiet_reads = λ no. h.quiet_reads (λ k. no (same ∙ ap of_end k));
    quiet_writes = λ no. h.quiet_writes (λ k. no (same ∙ ap of_end k));
  }
