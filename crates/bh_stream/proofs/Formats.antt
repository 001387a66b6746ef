-- What is said of a format, from what the loop did.
use Rattle.std.proofs.Common.{◌≡◌, ◌≤◌, ◌+◌, ◌⊎◌, ℕ, true, false, Bool, List, [], ◌∷◌, ◌++◌, take, Option, Some, sym, ◌∙◌, ap, subst, inl, inr}
use Rattle.bh_spec.specs.Texts.{Text, bytes_of}
use Rattle.bh_spec.specs.Pieces.{IsText, CanBecome, SomeOf}
use Rattle.bh_spec.specs.Items.{Item, ending}
use Rattle.bh_base.specs.Steps.{Step, taken, given, met}
use Rattle.bh_spec.specs.declared.Omitted.{Omitted}
use Rattle.bh_stream.specs.Outputs.{Output, written, shown_in}
use Rattle.bh_stream.specs.Logs.{Begins, IsLongest, HasBody, IsClose, GivesFront, KeepsUp}
use Rattle.bh_stream.specs.Decoding.{Rest, Moving, Coming, DecoderLaws}
use Rattle.bh_stream.specs.Jobs.{Owing}
use Rattle.bh_stream.specs.Points.{one_read}
use Rattle.bh_stream.specs.Runs.{Streams}
use Rattle.bh_stream.specs.Formats.{Knows, ShowsContent, ShowsSoFar, GivesAlways}
use Rattle.bh_stream.specs.declared.streaming.End.{End}
use Rattle.bh_stream.proofs.LogLaws.{gives_front, close_at, is_close}

-- two kinds with the same texts
module _ (R Q : Text → Type 0) (to : (t : Text) → R t → Q t) (from : (t : Text) → Q t → R t) where
  become_same : (bytes : List ℕ) → CanBecome R bytes → CanBecome Q bytes
  become_same bytes h = record { text = h.text; after = h.after; spelled = to h.text h.spelled; begins = h.begins }

  become_back : (bytes : List ℕ) → CanBecome Q bytes → CanBecome R bytes
  become_back bytes h = record { text = h.text; after = h.after; spelled = from h.text h.spelled; begins = h.begins }

  pub longest_same : (limit : Option ℕ) (bytes : List ℕ) (long : ℕ) → IsLongest R limit bytes long → IsLongest Q limit bytes long
  longest_same limit bytes long h = record {
    inside = h.inside;
    within = h.within;
    viable = become_same (take long bytes) h.viable;
    most = λ n low within viable. h.most n low within (become_back (take n bytes) viable);
  }

  body_same : (bytes : List ℕ) (n : ℕ) → HasBody R bytes n → HasBody Q bytes n
  body_same bytes n h = record { long = h.long; longest = longest_same Option.None bytes h.long h.longest; text = h.text; spelled = to h.text h.spelled; begins = h.begins; counts = h.counts }

  pub unfinished_same : (steps : List Step) → (met steps ≡ false) ⊎ (IsText Q (taken steps) → ⊥) → (met steps ≡ false) ⊎ (IsText R (taken steps) → ⊥)
  unfinished_same steps (inl e) = inl e
  unfinished_same steps (inr never) = inr (λ x. never (record { text = x.text; spelled = to x.text x.spelled; same = x.same }))

  close_same : (Shown : List ℕ → ℕ → Type 0) (most : ℕ) (front : List Step) → IsClose Q Shown most front → IsClose R Shown most front
  close_same Shown most front h m n read wrote = h m n (body_same (taken front) m read) wrote

  pub keeps_same : (Shown : List ℕ → ℕ → Type 0) (most before : ℕ) (steps : List Step) → KeepsUp Q Shown most before steps → KeepsUp R Shown most before steps
  keeps_same Shown most before steps h = record {
    always = λ front back e. close_same Shown most front (h.always front back e);
    at_reads = λ front back x r e. close_same Shown before front (h.at_reads front back x r e);
  }

-- What was given begins the output of things, and so of what the things are of: each text of that is one of a thing with the same output.
module _ {M N : Type 0} {spelled : M → Text → Type 0} {output : M → List ℕ} {limit : Option ℕ} (texts : N → Text → Type 0) (result : N → List ℕ)
    (to : (n : N) (t : Text) → texts n t → (m : M) × spelled m t × (output m ≡ result n)) (from : (t : Text) → SomeOf spelled t → SomeOf texts t) where
  pub gives_for : (steps : List Step) → GivesAlways spelled output limit steps → GivesAlways texts result limit steps
  gives_for steps gives front back e =
      let h = gives front back e in
      record {
        so_far = λ which long longest n text.
            let m = to n text.text text.spelled in
            subst (Begins (given front)) m.2 (h.so_far (unfinished_same (SomeOf spelled) (SomeOf texts) from some front which) long (longest_same (SomeOf texts) (SomeOf spelled) some from limit (taken front) long longest)
            m.0 (record { text = text.text; after = text.after; spelled = m.1; begins = text.begins }));
        behind = λ ended n text. let m = to n text.text text.spelled in subst (Begins (given front)) m.2 (h.behind ended m.0 (record { text = text.text; spelled = m.1; same = text.same }));
        nothing = λ never. h.nothing (λ t s. never t (from t s));
      }
    where
      some : (t : Text) → SomeOf texts t → SomeOf spelled t
      some t h = let m = to h.0 t h.1 in (m.0, m.1)

module _ {M : Type 0} {spelled : M → Text → Type 0} {items_of : M → List Item} {output : M → List ℕ} {limit : Option ℕ} {V : Type 0} {rest : Rest V} {room : V → ℕ} {v : V} {owed : Owing}
    (knows : Knows spelled items_of output limit rest room v owed) where
  -- the items of a text are those of one thing
  once : (p q : List Item) (t u : Text) → rest v p t → rest v q u → bytes_of t ≡ bytes_of u → p ≡ q
  once p q t u a b e =
      let m = knows.alone p t a in
      let n = knows.alone q u b in
      m.1 ∙ knows.once m.0 n.0 t u m.2 n.2 e ∙ sym n.1

  to : (t : Text) → SomeOf spelled t → Coming rest v t
  to t h = (items_of h.0, knows.reads h.0 t h.1)

  from : (t : Text) → Coming rest v t → SomeOf spelled t
  from t h = let m = knows.alone h.0 t h.1 in (m.0, m.2)

  gives : (front : List Step) → GivesFront (rest v) (λ q. written (owed q)) (Some (room v)) front → GivesFront spelled output limit front
  gives front h = record {
    so_far = λ which long longest m text.
        subst (Begins (given front)) (knows.owes m text.text text.spelled)
        (h.so_far (unfinished_same (Coming rest v) (SomeOf spelled) from to front which) long (longest_same (SomeOf spelled) (Coming rest v) to from (Some (room v)) (taken front) long (subst (λ (o : Option ℕ). IsLongest (SomeOf spelled) o (taken front) long) knows.limit_is longest))
        (items_of m) (record { text = text.text; after = text.after; spelled = knows.reads m text.text text.spelled; begins = text.begins }));
    behind = λ ended m text. subst (Begins (given front)) (knows.owes m text.text text.spelled)
        (h.behind ended (items_of m) (record { text = text.text; spelled = knows.reads m text.text text.spelled; same = text.same }));
    nothing = λ never. h.nothing (λ t s. never t (from t s));
  }

  module _ {A R : Type 0} {moves : Moving V} {ready : V → Type 0} {refuses : V → List ℕ → R → Type 0} {tells : V → Omitted → ℕ → A → Type 0} {misses : V → R → Type 0}
      (laws : DecoderLaws rest room moves ready) {most : ℕ} {S : Type 0} {read write : S → Step → S → Type 0} {s t : S} {r : End A R} where
    -- What was given begins the output.
    pub gives_always : {writes : Bool} (h : Streams rest room moves refuses tells misses writes most read write v owed s r t) → GivesAlways spelled output limit h.steps
    gives_always {writes = writes} h front back e = gives front (gives_front laws writes v owed (most + one_read) once (λ never. knows.nothing (λ t s. never t (to t s))) front (h.points front back e))

    -- The content shown keeps up with the content taken.
    pub keeps_so_far : (Shown : List ℕ → ℕ → Type 0) → ShowsSoFar rest moves v Shown owed → (h : Streams rest room moves refuses tells misses true most read write v owed s r t)
        → KeepsUp (SomeOf spelled) Shown (most + one_read) most h.steps
    keeps_so_far Shown shown h = keeps_same (SomeOf spelled) (Coming rest v) to from Shown (most + one_read) most h.steps (record {
      always = λ front back e. close_at laws v owed Shown shown (most + one_read) front (h.points front back e);
      at_reads = λ front back x r e. is_close laws v owed Shown shown most front (h.at_reads front back x r e);
    })

    pub keeps_up : (Shown : List ℕ → ℕ → Type 0) → ShowsContent spelled items_of Shown owed → (h : Streams rest room moves refuses tells misses true most read write v owed s r t)
        → KeepsUp (SomeOf spelled) Shown (most + one_read) most h.steps
    keeps_up Shown shown h = keeps_so_far Shown (record {
      so_far = λ bytes i w moved q t k front due. let d = due q in outs (i ++ q) t k front d.rest d.split;
      at_end = λ bytes i w moved omitted padding whole front due.
          let residual = (laws.leads v w bytes i moved).residual in
          outs (i ++ ending omitted padding ∷ []) (residual.text ++ []) (residual.back (ending omitted padding ∷ []) [] whole) front due.rest due.split;
    }) h
      where
        outs : (q : List Item) (t : Text) → rest v q t → (front more : Output) → owed q ≡ front ++ more → (n : ℕ) → Shown (written front) n → shown_in front ≤ n
        outs q t h front more e =
            let m = knows.alone q t h in
            shown m.0 t m.2 front more (ap owed (sym m.1) ∙ e)
