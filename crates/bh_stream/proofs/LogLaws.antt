-- What each point of a call says of the calls.
use Rattle.std.proofs.Common.{◌≡◌, ◌≤◌, ◌+◌, ◌⊎◌, ℕ, Bool, true, false, List, [], ◌∷◌, ◌++◌, length, take, drop, Option, Some, refl, sym, ◌∙◌, ap, subst, arith, append_assoc, append-nil, length-append, length-take, take-append-drop, inl, inr}
use Rattle.std.proofs.lemmas.List.{append_cancel_left}
use Rattle.bh_base.specs.Steps.{Step, taken, given, met}
use Rattle.bh_spec.specs.Bounds.{IsWithin}
use Rattle.bh_spec.specs.Texts.{Text, bytes_of, content_in}
use Rattle.bh_spec.specs.Pieces.{CanBecome, IsText}
use Rattle.bh_spec.specs.Items.{Item, ending}
use Rattle.bh_spec.proofs.Marks.{bytes_of-append, content-append}
use Rattle.bh_stream.specs.Outputs.{Output, written}
use Rattle.bh_stream.specs.Logs.{Begins, IsLongest, HasBody, IsClose, GivesFront}
use Rattle.bh_stream.specs.Decoding.{content_items, Rest, Moving, Coming, IsSilent, Passing, DecoderLaws}
use Rattle.bh_stream.specs.Jobs.{Owing}
use Rattle.bh_stream.specs.Formats.{ShowsSoFar}
use Rattle.bh_stream.specs.Points.{Point, LastPoint, EachPoint}
use Rattle.bh_stream.proofs.Outputs.{begins_written}
use Rattle.bh_stream.proofs.Moving.{items-append, content-few, bytes-length, shorter, front_of_two}
use Rattle.bh_stream.proofs.Passings.{pass_moved, Stood, stood}

pub take_front : {A : Type 0} (x r : List A) → take (length x) (x ++ r) ≡ x
take_front [] r = refl
take_front (a ∷ x) r = ap (λ l. a ∷ l) (take_front x r)

no_front : (front more : Output) → [] ≡ front ++ more → front ≡ []
no_front [] more e = refl
no_front (x ∷ front) more e = absurd (cc)

-- a text whose bytes are two lists in a row
cut_text : (t : Text) (a b : List ℕ) → bytes_of t ≡ a ++ b → (x y : Text) × (t ≡ x ++ y) × (bytes_of x ≡ a) × (bytes_of y ≡ b)
cut_text t [] b e = ([], t, refl, refl, e)
cut_text [] (k ∷ a) b e = absurd (cc)
cut_text (h ∷ t) (k ∷ a) b e =
    let head : h.1 ≡ k = cc in
    let tail : bytes_of t ≡ a ++ b = cc in
    let r = cut_text t a b tail in
    (h ∷ r.0, r.1, ap (λ (l : Text). h ∷ l) r.2, (λ i. head i ∷ r.3 i), r.4)

-- a front of a front
front_part : (bytes done pending : List ℕ) (long : ℕ) → bytes ≡ done ++ pending → length done ≤ long → long ≤ length bytes
    → (more : List ℕ) × (take long bytes ≡ done ++ more) × (pending ≡ more ++ drop long bytes) × (length more + length done ≡ long)
front_part bytes done pending long e low high =
    let whole : take long bytes ++ drop long bytes ≡ done ++ pending = take-append-drop long bytes ∙ e in
    let size : length (take long bytes) ≡ long = simp length-take (omega (arith, high)) in
    let s = shorter done pending (take long bytes) (drop long bytes) (sym whole) (omega (arith, size, low)) in
    (s.0, s.1, s.2, omega (arith, size, ap length s.1, length-append done s.0))

-- Of a text that begins with a front of quiet bytes and pending ones, at most these are content.
few_behind : {V : Type 0} (rest : Rest V) (s : V) (quiet pending more back : List ℕ) → IsSilent rest s quiet → quiet ++ pending ≡ more ++ back
    → (q : List Item) (x y : Text) → rest s q (x ++ y) → bytes_of x ≡ more → content_in x ≤ length pending
few_behind rest s quiet pending more back silent e q x y h same = by_case (front_of_two quiet pending more back e)
  where
    by_case : ((m : List ℕ) × (quiet ≡ more ++ m)) ⊎ ((mid : List ℕ) × (more ≡ quiet ++ mid) × (pending ≡ mid ++ back)) → content_in x ≤ length pending
    by_case (inl c) = let none = silent q x y c.0 h (c.1 ∙ ap (λ (l : List ℕ). l ++ c.0) (sym same)) in omega (arith, none)
    by_case (inr c) =
        let cut = cut_text x quiet c.0 (same ∙ c.1) in
        let whole : x ++ y ≡ cut.0 ++ (cut.1 ++ y) = ap (λ (t : Text). t ++ y) cut.2 ∙ append_assoc cut.0 cut.1 y in
        let none = silent q cut.0 (cut.1 ++ y) [] (subst (rest s q) whole h) (sym cut.3 ∙ sym (append-nil (bytes_of cut.0))) in
        omega (arith, none, ap content_in cut.2, content-append cut.0 cut.1, content-few cut.1, bytes-length cut.1, ap length cut.4, ap length c.2, length-append c.0 back)

module _ {V : Type 0} {rest : Rest V} {room : V → ℕ} {moves : Moving V} {ready : V → Type 0} (laws : DecoderLaws rest room moves ready) (writes : Bool) (v : V) where
  -- The bytes up to a state from which something completes the message are the front of some text.
  viable : {bytes : List ℕ} {items : List Item} (s : Stood rest v bytes items) → CanBecome (Coming rest v) s.done
  viable {bytes} {items} s = record {
    text = s.residual.text ++ s.alive.1;
    after = bytes_of s.alive.1;
    spelled = (items ++ s.alive.0, s.residual.back s.alive.0 s.alive.1 s.alive.2);
    begins = bytes_of-append s.residual.text s.alive.1 ∙ ap (λ (l : List ℕ). l ++ bytes_of s.alive.1) s.residual.same;
  }

  split_on : {items : List Item} (bytes read pending : List ℕ) → bytes ≡ read ++ pending → (s : Stood rest v read items) → bytes ≡ s.done ++ (s.quiet ++ pending)
  split_on bytes read pending e s = e ∙ ap (λ (l : List ℕ). l ++ pending) s.split ∙ append_assoc s.done s.quiet pending

  -- they are within the longest front
  decoded : {items : List Item} (bytes read pending : List ℕ) → bytes ≡ read ++ pending → (s : Stood rest v read items) → (limit : Option ℕ) → IsWithin limit (length s.done) → (long : ℕ) → IsLongest (Coming rest v) limit bytes long → length s.done ≤ long
  decoded bytes read pending e s limit within long h =
      let whole : bytes ≡ s.done ++ (s.quiet ++ pending) = split_on bytes read pending e s in
      h.most (length s.done) (omega (arith, ap length whole, length-append s.done (s.quiet ++ pending))) within
      (subst (CanBecome (Coming rest v)) (sym (ap (take (length s.done)) whole ∙ take_front s.done (s.quiet ++ pending))) (viable s))

  within_room : {w : V} {items : List Item} (read : List ℕ) → Passing rest moves v read items w → (s : Stood rest v read items) → length s.done ≤ room v
  within_room {w} {items} read passed s = omega (arith, (laws.leads v w read items (pass_moved laws passed)).room_left, ap length s.split, length-append s.done s.quiet)

  -- ---- what was given begins the output

  module _ (owed : Owing) (slack : ℕ) where
    front_given : (bytes gone : List ℕ) (p : Point (Passing rest moves) writes v owed slack bytes gone) (s : Stood rest v p.done p.items) (q : List Item) (t : Text) (after : List ℕ) → rest v q t → bytes_of t ≡ s.done ++ after → Begins gone (written (owed q))
    front_given bytes gone p s q t after h e =
        let one = s.residual.forth q t after h e in
        subst (λ (l : List ℕ). Begins l (written (owed q))) p.gave
        (subst (λ (i : List Item). Begins (written p.front) (written (owed i))) (sym one.same) (begins_written p.front (owed (p.items ++ one.thing)) (p.due one.thing)))

    given_so_far : (bytes gone : List ℕ) → Point (Passing rest moves) writes v owed slack bytes gone → (long : ℕ) → IsLongest (Coming rest v) (Some (room v)) bytes long → (q : List Item) → CanBecome (rest v q) (take long bytes) → Begins gone (written (owed q))
    given_so_far bytes gone p long h q text =
        let s = stood laws (q, text.text, text.spelled) p.moved in
        let part = front_part bytes s.done (s.quiet ++ p.pending) long (split_on bytes p.done p.pending p.split s) (decoded bytes p.done p.pending p.split s (Some (room v)) (within_room p.done p.moved s) long h) h.inside in
        front_given bytes gone p s q text.text (part.0 ++ text.after) text.spelled (text.begins ∙ ap (λ (l : List ℕ). l ++ text.after) part.1 ∙ append_assoc s.done part.0 text.after)

    given_whole : (bytes gone : List ℕ) → Point (Passing rest moves) writes v owed slack bytes gone → (q : List Item) → IsText (rest v q) bytes → Begins gone (written (owed q))
    given_whole bytes gone p q text =
        let s = stood laws (q, text.text, text.spelled) p.moved in
        front_given bytes gone p s q text.text (s.quiet ++ p.pending) text.spelled (text.same ∙ split_on bytes p.done p.pending p.split s)

    -- the text of the message that the bytes are
    whole_text : (bytes gone : List ℕ) (p : LastPoint rest (Passing rest moves) writes v owed slack bytes gone) → IsText (rest v (p.items ++ ending p.omitted p.padding ∷ [])) bytes
    whole_text bytes gone p =
        let residual = (laws.leads v p.state bytes p.items (pass_moved laws p.moved)).residual in
        record { text = residual.text ++ []; spelled = residual.back (ending p.omitted p.padding ∷ []) [] p.whole; same = ap bytes_of (append-nil residual.text) ∙ residual.same }

    -- where nothing completes a message, nothing is due
    none_given : (bytes gone : List ℕ) → Point (Passing rest moves) writes v owed slack bytes gone → ((t : Text) → Coming rest v t → ⊥) → owed [] ≡ [] → gone ≡ []
    none_given bytes gone p never none = by_case p.moved
      where
        by_case : Passing rest moves v p.done p.items p.state → gone ≡ []
        by_case (inl a) =
            let h = (laws.leads v a.state a.done p.items a.moved).residual in
            absurd (never (h.text ++ a.alive.1) (p.items ++ a.alive.0, h.back a.alive.0 a.alive.1 a.alive.2))
        by_case (inr a) =
            let due = p.due [] in
            let all : [] ≡ p.front ++ due.rest = sym none ∙ ap owed (sym (append-nil p.items ∙ a.none)) ∙ due.split in
            sym p.gave ∙ ap written (no_front p.front due.rest all)

    module _ (once : (p q : List Item) (t u : Text) → rest v p t → rest v q u → bytes_of t ≡ bytes_of u → p ≡ q) (none : ((t : Text) → Coming rest v t → ⊥) → owed [] ≡ []) where
      given_last : (bytes gone : List ℕ) → LastPoint rest (Passing rest moves) writes v owed slack bytes gone → (q : List Item) → IsText (rest v q) bytes → Begins gone (written (owed q))
      given_last bytes gone p q text =
          let mine = whole_text bytes gone p in
          let same = once (p.items ++ ending p.omitted p.padding ∷ []) q mine.text text.text mine.spelled text.spelled (mine.same ∙ sym text.same) in
          subst (λ (l : List ℕ). Begins l (written (owed q))) p.gave
          (subst (λ (i : List Item). Begins (written p.front) (written (owed i))) same (begins_written p.front (owed (p.items ++ ending p.omitted p.padding ∷ [])) p.due))

      pub gives_front : (front : List Step) → EachPoint rest (Passing rest moves) writes v owed slack front → GivesFront (rest v) (λ q. written (owed q)) (Some (room v)) front
      gives_front front (inl p) = record {
        so_far = λ which long h q text. given_so_far (taken front) (given front) p long h q text;
        behind = λ ended q text. given_whole (taken front) (given front) p q text;
        nothing = λ never. none_given (taken front) (given front) p never (none never);
      }
      gives_front front (inr (ended, p)) = record {
        so_far = λ which long h q text. absurd (never which);
        behind = λ e q text. given_last (taken front) (given front) p q text;
        nothing = λ never. let mine = whole_text (taken front) (given front) p in absurd (never mine.text (p.items ++ ending p.omitted p.padding ∷ [], mine.spelled));
      }
        where
          never : (met front ≡ false) ⊎ (IsText (Coming rest v) (taken front) → ⊥) → ⊥
          never (inl e) = let two = ended in absurd (cc)
          never (inr unfinished) =
              let mine = whole_text (taken front) (given front) p in
              unfinished (record { text = mine.text; spelled = (p.items ++ ending p.omitted p.padding ∷ [], mine.spelled); same = mine.same })

-- ---- the lag, for a job that writes content

module _ {V : Type 0} {rest : Rest V} {room : V → ℕ} {moves : Moving V} {ready : V → Type 0} (laws : DecoderLaws rest room moves ready) (v : V)
    (owed : Owing) (Shown : List ℕ → ℕ → Type 0)
    (shown : ShowsSoFar rest moves v Shown owed) where
  -- the content up to such a state
  stood_content : {bytes : List ℕ} {items : List Item} (s : Stood rest v bytes items) → content_in s.residual.text ≡ content_items items
  stood_content {bytes} {items} s =
      omega (
        arith,
        laws.content v (items ++ s.alive.0) (s.residual.text ++ s.alive.1) (s.residual.back s.alive.0 s.alive.1 s.alive.2),
        laws.content s.state s.alive.0 s.alive.1 s.alive.2,
        content-append s.residual.text s.alive.1,
        items-append items s.alive.0,
      )

  -- the content of what was read
  read_content : {items : List Item} (bytes read pending : List ℕ) → bytes ≡ read ++ pending → (s : Stood rest v read items) → (m : ℕ) → HasBody (Coming rest v) bytes m → m ≤ content_items items + length pending
  read_content bytes read pending e s m body =
      let low = decoded laws true v bytes read pending e s Option.None tt body.long body.longest in
      let part = front_part bytes s.done (s.quiet ++ pending) body.long (split_on laws true v bytes read pending e s) low body.longest.inside in
      let begins = body.begins.split ∙ ap (λ (l : List ℕ). l ++ body.begins.rest) part.1 ∙ append_assoc s.done part.0 body.begins.rest in
      let one = s.residual.forth body.spelled.0 body.text (part.0 ++ body.begins.rest) body.spelled.1 begins in
      let text = s.residual.text in
      let behind = append_cancel_left s.done (bytes_of one.rest) (part.0 ++ body.begins.rest) (ap (λ (l : List ℕ). l ++ bytes_of one.rest) (sym s.residual.same) ∙ sym (bytes_of-append text one.rest) ∙ sym (ap bytes_of one.joined) ∙ begins) in
      let two = cut_text one.rest part.0 body.begins.rest behind in
      let few = few_behind rest s.state s.quiet pending part.0 (drop body.long bytes) s.silent part.2 one.thing two.0 two.1 (subst (rest s.state one.thing) two.2 one.spelled) two.3 in
      let whole : body.text ≡ (text ++ two.0) ++ two.1 = one.joined ∙ ap (λ (l : Text). text ++ l) two.2 ∙ sym (append_assoc text two.0 two.1) in
      let long : body.long ≡ length (text ++ two.0) = omega (arith, part.3, ap length s.residual.same, bytes-length text, ap length two.3, bytes-length two.0, length-append text two.0) in
      let cut : take body.long body.text ≡ text ++ two.0 = ap (take body.long) whole ∙ subst (λ (k : ℕ). take k ((text ++ two.0) ++ two.1) ≡ text ++ two.0) (sym long) (take_front (text ++ two.0) two.1) in
      omega (arith, body.counts, ap content_in cut, content-append text two.0, stood_content s, few)

  pub is_close : (slack : ℕ) (front : List Step) → Point (Passing rest moves) true v owed slack (taken front) (given front) → IsClose (Coming rest v) Shown slack front
  is_close slack front p m n read wrote =
      let s = stood laws (read.spelled.0, read.text, read.spelled.1) p.moved in
      let q = s.alive.0 in
      let gives = shown.so_far p.done p.items p.state (pass_moved laws p.moved) q (s.residual.text ++ s.alive.1) (s.residual.back q s.alive.1 s.alive.2) p.front p.due n (subst (λ (l : List ℕ). Shown l n) (sym p.gave) wrote) in
      omega (arith, gives, read_content (taken front) p.done p.pending p.split s m read, p.enough)

  is_close_last : (slack : ℕ) (front : List Step) → LastPoint rest (Passing rest moves) true v owed slack (taken front) (given front) → IsClose (Coming rest v) Shown slack front
  is_close_last slack front p m n read wrote =
      let s = stood laws (read.spelled.0, read.text, read.spelled.1) p.moved in
      let gives = shown.at_end (taken front) p.items p.state (pass_moved laws p.moved) p.omitted p.padding p.whole p.front p.due n (subst (λ (l : List ℕ). Shown l n) (sym p.gave) wrote) in
      omega (arith, gives, read_content (taken front) (taken front) [] (sym (append-nil (taken front))) s m read, p.enough)

  pub close_at : (slack : ℕ) (front : List Step) → EachPoint rest (Passing rest moves) true v owed slack front → IsClose (Coming rest v) Shown slack front
  close_at slack front (inl p) = is_close slack front p
  close_at slack front (inr (ended, p)) = is_close_last slack front p
