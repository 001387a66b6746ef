-- What is known behind a head.
use Rattle.std.proofs.Common.{◌≡◌, ℕ, Option, Some, None, List, [], sym, ◌∙◌, ap, subst}
use Rattle.bh_spec.specs.declared.NoForm.{NoForm}
use Rattle.bh_spec.specs.Messages.{Field, Start}
use Rattle.bh_spec.specs.Items.{Item, head, Head}
use Rattle.bh_model.specs.Lines.{FieldsView}
use Rattle.bh_model.specs.Values.{status_in}
use Rattle.h1_spec.specs.declared.Framing1.{Framing1}
use Rattle.h1_spec.specs.Cleaning.{hops}
use Rattle.h1_spec.specs.Moments.{announced}
use Rattle.h1_spec.specs.Http1.{start_of}
use Rattle.h1_head.specs.Room.{room_in, count_in}
use Rattle.h1_rules.specs.Hopping.{HopsView}
use Rattle.h1_judge.specs.declared.judging.Judge.{Judge}
use Rattle.h1_judge.specs.Courses.{own_fields, Course, item_form}
use Rattle.h1_judge.specs.Judges.{course_of, IsCounting, KeepsRoom, IsCleaned, Judges}

same_course : (f g : Framing1) (n k : ℕ) (a b : List (List ℕ)) → f ≡ g → n ≡ k → a ≡ b
    → ◌≡◌ {A = Course} (record { framing = f; counted = n; named = a }) (record { framing = g; counted = k; named = b })
same_course f g n k a b e h i = λ j. record { framing = e j; counted = h j; named = i j }

-- no rule holds, and what the head says of the body is kept
pub head_free : (v m w : Judge) (of : Head) (fields : List Field) (status : Option ℕ)
    → IsCleaned v (hops fields) (own_fields v.hops.names (head of fields)) m → None ≡ item_form (course_of v) (head of fields)
    → ((start : Start) → status_in start ≡ status → w.framing ≡ announced m.to_head start fields) → status_in (start_of of) ≡ status
    → IsCounting w.framing w.counted → w.counted ≡ 0 → w.to_head ≡ m.to_head → w.hops ≡ m.hops → w.cleaned ≡ m.cleaned
    → Judges v (head of fields) None w
head_free v m w of fields status clean answer framing is counting counted to_head named lines = record {
  to_head = to_head ∙ clean.to_head;
  answer = answer;
  course = λ e. same_course w.framing (announced v.to_head (start_of of) fields) w.counted 0 w.hops.names (hops fields)
      (framing (start_of of) is ∙ ap (λ t. announced t (start_of of) fields) clean.to_head) counted
      (ap (λ (h : HopsView). h.names) named ∙ clean.names);
  cleaned = ap (λ (f : FieldsView). f.lines) lines ∙ clean.cleaned;
  room = record {
    names = ap (λ (h : HopsView). h.room) named ∙ clean.room.names;
    lines = ap room_in lines ∙ clean.room.lines;
    count = ap count_in lines ∙ clean.room.count;
    ended = ap (λ (f : FieldsView). f.making) lines ∙ clean.room.ended;
  };
  counting = counting;
}

-- a rule holds, and nothing is kept
pub head_judged : (v m : Judge) (of : Head) (fields : List Field) (form : NoForm)
    → IsCleaned v (hops fields) (own_fields v.hops.names (head of fields)) m → Some form ≡ item_form (course_of v) (head of fields)
    → IsCounting v.framing v.counted → Judges v (head of fields) (Some form) m
head_judged v m of fields form clean answer counting = record {
  to_head = clean.to_head;
  answer = answer;
  course = λ e. absurd (cc);
  cleaned = clean.cleaned;
  room = clean.room;
  counting = same_counting v.framing m.framing v.counted m.counted clean.framing clean.counted counting;
}
  where
    same_counting : (f g : Framing1) (n k : ℕ) → g ≡ f → k ≡ n → IsCounting f n → IsCounting g k
    same_counting f g n k e h c = subst (λ (x : Framing1). IsCounting x k) (sym e) (subst (λ (x : ℕ). IsCounting f x) (sym h) c)
