-- There and back.
use Rattle.std.proofs.Common.{◌≡◌, ℕ, Bool, List, length, sym, ap, subst, ◌∙◌}
use Rattle.bh_spec.specs.declared.Omitted.{Omitted}
use Rattle.bh_spec.specs.Bounds.{Bounds, IsWithin}
use Rattle.bh_spec.specs.Canonical.{canon}
use Rattle.bh_spec.specs.Messages.{Message}
use Rattle.bh_spec.specs.declared.Summary.{Summary}
use Rattle.std.specs.Prelude.{Option}
use Rattle.h1_spec.specs.declared.Scheme1.{Scheme1}
use Rattle.h1_spec.specs.Cleaning.{clean_message}
use Rattle.h1_spec.specs.Http1Text.{http1}
use Rattle.h1_spec.specs.Translation.{formed, read, IsFromAnswer}
use Rattle.h1_spec.proofs.Answering.{one_into}
use Rattle.h1_spec.proofs.Valid.{into_then_from, into_then_read}
use Rattle.bh_translate.specs.Laws.{IsSentThere, IsSent, ThereAndBack, BackIsDone}

same_message : (m n : Message) (o p : Omitted) (y z : ℕ) → formed m o y ≡ formed n p z → m ≡ n
same_message m n o p y z e = cc

-- what was sent is the text of the message
text_is : (K : Bounds) (scheme : Scheme1) (to_head : Bool) (s : Summary) (input text : List ℕ) (left : Option (List ℕ)) (m : Message)
    → IsSentThere K to_head s input text left → IsSent K scheme to_head input m → text ≡ http1 to_head m
text_is K scheme to_head s input text left m there own =
    let r = there.right in
    let same = same_message r.0 m r.1 own.omitted r.2 own.padding
    (one_into K to_head input (formed r.0 r.1 r.2) (formed m own.omitted own.padding) r.3 own.answer) in
    there.goes ∙ r.5 ∙ ap (http1 to_head) same

pub there_and_back : ThereAndBack
there_and_back K L scheme to_head s t input text output left over m there back own =
    let r = back.right in
    let answer : IsFromAnswer L scheme to_head (http1 to_head m) (read r.0) =
    subst (λ (l : List ℕ). IsFromAnswer L scheme to_head l (read r.0)) (text_is K scheme to_head s input text left m there own) r.1 in
    back.goes ∙ r.3 ∙ ap canon (into_then_from K L scheme to_head input m r.0 own.omitted own.padding own.answer own.scheme_is answer)

pub back_is_done : BackIsDone
back_is_done K L scheme to_head s r input text left rb rn wb wn m there complete reads writes own keeps within =
    let same = text_is K scheme to_head s input text left m there own in
    let answer : IsFromAnswer L scheme to_head text (read (clean_message m)) =
    subst (λ (l : List ℕ). IsFromAnswer L scheme to_head l (read (clean_message m))) (sym same)
    (into_then_read K L scheme to_head input m own.omitted own.padding own.answer own.scheme_is keeps
    (subst (λ (l : List ℕ). IsWithin L.input (length l)) same within)) in
    (_, complete (read (clean_message m)) answer reads writes)
