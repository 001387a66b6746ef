-- What was given at a point of a call rests on bytes that were judged.
use Rattle.std.proofs.Common.{◌≡◌, ◌⊎◌, arith, ℕ, Bool, true, List, [], ◌∷◌, ◌++◌, length, Option, refl, sym, ap, subst, ◌∙◌, append_assoc, append-nil, inl, inr}
use Rattle.bh_spec.specs.Bounds.{Bounds, IsWithin}
use Rattle.bh_spec.specs.Messages.{Message}
use Rattle.bh_spec.specs.Texts.{Text, bytes_of}
use Rattle.bh_spec.specs.Pieces.{IsText, CanBecome}
use Rattle.bh_spec.specs.Spelling.{Spells}
use Rattle.bh_spec.specs.Items.{Item, ending, items}
use Rattle.bh_spec.proofs.Marks.{bytes_of-append}
use Rattle.bh_base.specs.Steps.{Step, taken, given, met}
use Rattle.bh_model.specs.Ranges.{AreLimits}
use Rattle.bh_stream.specs.Outputs.{Output, written}
use Rattle.bh_stream.specs.Logs.{Begins}
use Rattle.bh_stream.specs.Decoding.{Passing}
use Rattle.bh_stream.specs.Messages.{Spelled, IsTextOf}
use Rattle.bh_stream.specs.Points.{Point, LastPoint, EachPoint}
use Rattle.bh_stream.proofs.Outputs.{begins_written}
use Rattle.bh_stream.proofs.Passings.{pass_moved}
use Rattle.bh_stream.proofs.Telling.{AreAlike}
use Rattle.bh_reading.specs.Readings as binary
use Rattle.bh_reading.specs.Readings.{Counted}
use Rattle.bh_reading.specs.ReadingLaws.{reading_laws, alive_behind}
use Rattle.h1_spec.specs.Http1Text.{http1}
use Rattle.h1_spec.specs.Judging.{NoneIsJudged}
use Rattle.h1_spec.proofs.Members.{spelled_leaves}
use Rattle.h1_moments.proofs.Judging.{none_is_judged_yet}
use Rattle.h1_judge.specs.Courses.{cleaned_items, Course, start_course, behind_item, behind, item_cases, AreFree as Free}
use Rattle.h1_judge.specs.Views.{JudgedView, Landed, Moved, rest, IsAtStart}
use Rattle.h1_judge.specs.JudgedLaws.{cleaned-append, behind-append, judged_laws}
use Rattle.h1_text.specs.Owed.{at_start, owed}
use Rattle.h1_text.proofs.Comings.{one_ending}
use Rattle.bh_translate.specs.Into.{LeaveText, HasText, RestsOn, GivesJudged}
use Rattle.bh_translate.proofs.Near.{AreNear, free_near, near_on, near_back, near_text}
use Rattle.bh_translate.proofs.GoingOn.{Completes, goes_on_behind, prompt_behind}
use Rattle.bh_translate.proofs.Starting.{items_cleaned, clean_of, raw, knows_clean}
use Rattle.bh_translate.proofs.IntoEnding.{comes_here, limits_here, prompt_here, free_here}

no_front : (front more : Output) → [] ≡ front ++ more → front ≡ []
no_front [] more e = refl
no_front (x ∷ front) more e = absurd (cc)

module _ (L : Bounds) (limits : AreLimits L) (to_head : Bool) (v : JudgedView) (start : IsAtStart L to_head v) where
  -- ---- bytes that led to a state

  module _ (w : JudgedView) (bytes : List ℕ) (i : List Item) (m : Moved v bytes i w) where
    unjudged_here : NoneIsJudged L to_head bytes (length bytes)
    unjudged_here =
        subst (λ (l : List ℕ). NoneIsJudged L to_head l (length bytes)) (append-nil bytes)
        (none_is_judged_yet L to_head bytes [] m.raw w.reading.held.decoder.at (comes_here L limits to_head v start w bytes i m)
        (prompt_here L limits to_head v start w bytes i m) (free_here L limits to_head v start w bytes i m))

    within_here : IsWithin L.input (length bytes)
    within_here =
        let input = m.moved.input in
        subst (λ (o : Option ℕ). IsWithin o (length bytes))
        (sym input.limit_is ∙ ap (λ (K : Bounds). K.input) (sym m.moved.limits ∙ limits_here L limits to_head v start w bytes i m))
        (omega (arith, input.few))

    free_raw : Free to_head start_course m.raw
    free_raw =
        subst (λ (b : Bool). Free b start_course m.raw) start.to_head_is (subst (λ (c : Course). Free v.to_head c m.raw) start.course m.free)

    -- a message that goes on so
    record Found (q : List Item) (t : Text) : Type 0 where
      spelled : Spelled
      text : Text
      spells : Spells L spelled.message spelled.omitted spelled.padding text
      begins : bytes_of text ≡ bytes ++ bytes_of t
      items_are : items spelled.message spelled.omitted spelled.padding ≡ m.raw ++ q
      has_text : HasText to_head spelled.message

    found : (q : List Item) (t : Text) → binary.rest w.reading q t → AreNear to_head (behind to_head start_course m.raw) q → Found q t
    found q t r near =
        let h = reading_laws.leads v.reading w.reading bytes m.raw m.moved in
        let one = raw L limits to_head v start (m.raw ++ q) (h.residual.text ++ t) (h.residual.back q t r) in
        record {
          spelled = record { message = one.0; omitted = one.1; padding = one.2 };
          text = h.residual.text ++ t;
          spells = one.4;
          begins = bytes_of-append h.residual.text t ∙ ap (λ (l : List ℕ). l ++ bytes_of t) h.residual.same;
          items_are = sym one.3;
          has_text = near_text to_head one.0 one.1 one.2 (spelled_leaves L one.0 one.1 one.2 (h.residual.text ++ t) one.4)
              (subst (AreNear to_head start_course) one.3
              (near_on to_head start_course m.raw q (free_near to_head start_course m.raw free_raw) near));
        }

    -- what is due for the items begins the text of every message that goes on
    gives_here : (front : Output) → ((q : List Item) → Begins front (owed to_head at_start (i ++ q))) → (n : Message)
        → CanBecome (IsTextOf L n) bytes → Begins (written front) (http1 to_head n)
    gives_here front due n h =
        let s : Spelled = record { message = n; omitted = h.spelled.0; padding = h.spelled.1 } in
        let knows = knows_clean L limits to_head v start in
        let one = (judged_laws.leads v w bytes i m).residual.forth (clean_of s) h.text h.after (knows.reads s h.text h.spelled.2) h.begins in
        subst (Begins (written front)) (knows.owes s h.text h.spelled.2)
        (subst (λ (j : List Item). Begins (written front) (written (owed to_head at_start j))) (sym one.same)
        (begins_written front (owed to_head at_start (i ++ one.thing)) (due one.thing)))

  -- ---- right behind the last item

  abbrev view_there : List Item → Counted → JudgedView
  view_there q c = record { reading = c; to_head = v.to_head; course = behind v.to_head v.course q; cleaned = [] }

  module _ (w : JudgedView) (bytes : List ℕ) (i : List Item) (m : Moved v bytes i w) (d : Landed v.reading bytes m.raw) where
    there : Moved v d.seen i (view_there m.raw d.state)
    there = record {
      raw = m.raw;
      items_are = m.items_are;
      moved = d.moved;
      to_head = refl;
      course = refl;
      free = m.free;
      prompt = prompt_behind d.state.held.decoder.limits d.last d.state.held.decoder.at d.right;
      landed = inr (record {
        front = d.front;
        last = d.last;
        items_are = d.items_are;
        seen = d.seen;
        quiet = [];
        split = sym (append-nil d.seen);
        state = d.state;
        moved = d.moved;
        right = d.right;
      });
    }

    -- the course before the last item
    abbrev course : Course
    course = behind to_head start_course d.front

    last_near : LeaveText (item_cases course d.last)
    last_near =
        let near : AreNear to_head start_course m.raw = free_near to_head start_course m.raw (free_raw w bytes i m) in
        (near_back to_head start_course d.front (d.last ∷ []) (subst (AreNear to_head start_course) d.items_are near)).0

    goes : Completes d.state.held.decoder.limits to_head (behind_item to_head course d.last) d.state.held.decoder.at
    goes = goes_on_behind d.state.held.decoder.limits to_head course d.last d.state.held.decoder.at d.right last_near
        (alive_behind v.reading d.state d.seen m.raw d.moved)

    course_is : behind to_head start_course m.raw ≡ behind_item to_head course d.last
    course_is = ap (behind to_head start_course) d.items_are ∙ behind-append to_head start_course d.front (d.last ∷ [])

    rests_on : (steps : List Step) (more : List ℕ) → taken steps ≡ d.seen ++ more → (front : Output) → written front ≡ given steps
        → ((q : List Item) → Begins front (owed to_head at_start (i ++ q))) → RestsOn L to_head d.seen steps
    unfolding there
    rests_on steps more e front gave due =
        let state : JudgedView = view_there m.raw d.state in
        let f = found state d.seen i there goes.items goes.text goes.rest
        (subst (λ (c : Course). AreNear to_head c goes.items) (sym course_is) goes.near) in
        record {
          begins = record { rest = more; split = e };
          within = within_here state d.seen i there;
          unjudged = unjudged_here state d.seen i there;
          message = f.spelled.message;
          has_text = f.has_text;
          goes_on = record {
            text = f.text;
            after = bytes_of goes.text;
            spelled = (f.spelled.omitted, f.spelled.padding, f.spells);
            begins = f.begins;
          };
          gives = λ n h. subst (λ (l : List ℕ). Begins l (http1 to_head n)) gave (gives_here state d.seen i there front due n h);
        }

  -- ---- one point

  none_given : (items : List Item) (front : Output) (gone : List ℕ) → written front ≡ gone
      → ((q : List Item) → Begins front (owed to_head at_start (items ++ q))) → items ≡ [] → gone ≡ []
  none_given items front gone gave due none =
      let first = due [] in
      let all : [] ≡ front ++ first.rest = ap (owed to_head at_start) (sym (append-nil items ∙ none)) ∙ first.split in
      sym gave ∙ ap written (no_front front first.rest all)

  joined : (seen quiet more pending done bytes all : List ℕ) → all ≡ bytes ++ pending → bytes ≡ done ++ more → done ≡ seen ++ quiet
      → all ≡ seen ++ (quiet ++ (more ++ pending))
  joined seen quiet more pending done bytes all a b c =
      a ∙ ap (λ (l : List ℕ). l ++ pending) (b ∙ ap (λ (l : List ℕ). l ++ more) c) ∙ append_assoc (seen ++ quiet) more pending
      ∙ append_assoc seen quiet (more ++ pending)

  at_point : (slack : ℕ) (steps : List Step) → Point (Passing rest Moved) true v (owed to_head at_start) slack (taken steps) (given steps)
      → GivesJudged L to_head steps
  at_point slack steps p = by_moved p.moved
    where
      by_moved : Passing rest Moved v p.done p.items p.state → GivesJudged L to_head steps
      by_moved (inr a) = inl (none_given p.items p.front (given steps) p.gave p.due a.none)
      by_moved (inl a) = by_landed a.moved.landed
        where
          by_landed : (a.moved.raw ≡ []) ⊎ Landed v.reading a.done a.moved.raw → GivesJudged L to_head steps
          by_landed (inl e) = inl (none_given p.items p.front (given steps) p.gave p.due
              (a.moved.items_are ∙ ap (cleaned_items v.course.named) e))
          by_landed (inr d) = inr (inl (
            d.seen,
            rests_on a.state a.done p.items a.moved d steps (d.quiet ++ (a.quiet ++ p.pending))
                (joined d.seen d.quiet a.quiet p.pending a.done p.done (taken steps) p.split a.split d.split) p.front p.gave p.due,
          ))

  -- behind the end
  at_last : (slack : ℕ) (steps : List Step) → met steps ≡ true
      → LastPoint rest (Passing rest Moved) true v (owed to_head at_start) slack (taken steps) (given steps) → GivesJudged L to_head steps
  at_last slack steps e p = inr (inr (record {
    end = e;
    within = within_here p.state (taken steps) p.items m;
    unjudged = unjudged_here p.state (taken steps) p.items m;
    message = f.spelled.message;
    has_text = f.has_text;
    whole = record {
      text = f.text;
      spelled = (f.spelled.omitted, f.spelled.padding, f.spells);
      same = f.begins ∙ append-nil (taken steps);
    };
    gives = subst (λ (l : List ℕ). Begins l (http1 to_head f.spelled.message)) p.gave
        (subst (Begins (written p.front)) ((knows_clean L limits to_head v start).owes f.spelled f.text f.spells)
        (begins_written p.front (owed to_head at_start (clean_of f.spelled)) (subst (λ (q : List Item). Begins p.front (owed to_head at_start q)) same p.due)));
  }))
    where
      last : List Item
      last = ending p.omitted p.padding ∷ []

      m : Moved v (taken steps) p.items p.state
      m = pass_moved judged_laws p.moved

      whole : binary.rest p.state.reading (ending p.omitted p.padding ∷ []) []
      whole = subst (λ (q : List Item). binary.rest p.state.reading q [])
          (one_ending p.state.course.named p.whole.0 p.omitted p.padding (sym p.whole.1)) p.whole.2

      f : Found p.state (taken steps) p.items m (ending p.omitted p.padding ∷ []) []
      f = found p.state (taken steps) p.items m (ending p.omitted p.padding ∷ []) [] whole (tt, tt)

      same : p.items ++ ending p.omitted p.padding ∷ [] ≡ clean_of f.spelled
      same =
          ap (λ (q : List Item). q ++ ending p.omitted p.padding ∷ []) m.items_are
          ∙ sym (cleaned-append v.to_head v.course m.raw (ending p.omitted p.padding ∷ []))
          ∙ ap (cleaned_items v.course.named) (sym f.items_are)
          ∙ items_cleaned v.course.named f.spelled.message f.spelled.omitted f.spelled.padding

  pub judged_at : (slack : ℕ) (steps : List Step) → EachPoint rest (Passing rest Moved) true v (owed to_head at_start) slack steps
      → GivesJudged L to_head steps
  judged_at slack steps (inl p) = at_point slack steps p
  judged_at slack steps (inr p) = at_last slack steps p.0 p.1

-- ---- calls that are alike

pub judged_alike : (L : Bounds) (to_head : Bool) (xs ys : List Step) → AreAlike xs ys → GivesJudged L to_head xs → GivesJudged L to_head ys
judged_alike L to_head xs ys a (inl e) = inl (sym a.gives ∙ e)
judged_alike L to_head xs ys a (inr (inl h)) =
    let r = h.1 in
    inr (inl (
      h.0,
      record {
        begins = subst (Begins h.0) a.takes r.begins;
        within = r.within;
        unjudged = r.unjudged;
        message = r.message;
        has_text = r.has_text;
        goes_on = r.goes_on;
        gives = λ n c. subst (λ (l : List ℕ). Begins l (http1 to_head n)) a.gives (r.gives n c);
      },
    ))
judged_alike L to_head xs ys a (inr (inr r)) = inr (inr (record {
  end = sym a.meets ∙ r.end;
  within = subst (λ (l : List ℕ). IsWithin L.input (length l)) a.takes r.within;
  unjudged = subst (λ (l : List ℕ). NoneIsJudged L to_head l (length l)) a.takes r.unjudged;
  message = r.message;
  has_text = r.has_text;
  whole = subst (IsText (IsTextOf L r.message)) a.takes r.whole;
  gives = subst (λ (l : List ℕ). Begins l (http1 to_head r.message)) a.gives r.gives;
}))
