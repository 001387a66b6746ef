-- A translator has one right answer.
use Rattle.std.proofs.Common.{◌≡◌, ◌⊎◌, ◌≤◌, ◌+◌, Bool, false, arith, ℕ, List, [], ◌∷◌, ◌++◌, length, take, Option, Some, None, codes, refl, sym, ap, subst, subst₂, ◌∙◌, append_assoc, append-nil, inl, inr}
use Rattle.std.proofs.lemmas.List.{length-append}
use Rattle.bh_spec.specs.Bounds.{Bounds, IsWithin}
use Rattle.bh_spec.specs.Messages.{Field, Control, Interim, Start, request, response, Message}
use Rattle.bh_spec.specs.Canonical.{ControlFits, FieldsFit, StartFits}
use Rattle.h1_spec.specs.declared.Scheme1.{Scheme1}
use Rattle.bh_spec.specs.declared.H1Why.{H1Why}
use Rattle.bh_spec.specs.declared.H1Why.TheVariants as why
use Rattle.bh_spec.specs.Texts.{◌then◌, AreEach}
use Rattle.h1_spec.specs.Heads.{StartLine, request_line, status_line, Head, IsHead, EndsAt}
use Rattle.h1_spec.specs.Cleaning.{hops, clean, clean_trailers, says_host}
use Rattle.h1_spec.specs.Targets.{IsTargetOf, HasHost}
use Rattle.h1_spec.specs.Framing.{IsCoded, IsCounted, framing}
use Rattle.h1_spec.specs.Bodies.{IsBody}
use Rattle.h1_spec.specs.Http1.{IsHeadWithin, IsInterimHead, interims_of, IsStartOf, IsHttp1}
use Rattle.h1_spec.specs.Causes.{Causes, ◌when◌else◌, nothing}
use Rattle.h1_spec.specs.BodyCauses.{OfBody}
use Rattle.h1_spec.specs.Translation.{IsNothing, OfExtra, OfEnd, IsNextStart, OfFraming, OfRequest, OfStart, OfHead, IsCause, read, broken, OfFirst, IsLonger}
use Rattle.h1_spec.specs.Laws.{OneFrom}
use Rattle.h1_spec.proofs.Fronts.{front_same}
use Rattle.h1_spec.proofs.HeadTexts.{head_front}
use Rattle.h1_spec.proofs.TargetTexts.{target_once}
use Rattle.h1_spec.proofs.Reading.{interim_front, interim_apart, start_is_last, one_message}
use Rattle.h1_spec.proofs.Ends.{head_ends, ends_once}
use Rattle.h1_spec.proofs.Causes.{when_once, when_not, section_once, section_found, SaysOnce, body_once, body_passes}

-- ---- behind a body

extra_once : (rest : List ℕ) (c d : H1Why) → OfExtra rest c → OfExtra rest d → c ≡ d
extra_once rest c d = when_once why.Extra (IsNothing rest → ⊥) nothing nothing c d (λ p q. absurd p)

no_extra : (c : H1Why) → OfExtra [] c → ⊥
no_extra c (inl p) = p.0 refl
no_extra c (inr p) = p.1

end_once : (L : Bounds) (named : List (List ℕ)) (c d : H1Why) → SaysOnce (OfEnd L named) c d
end_once L named c d fs rest = when_once why.TrailerLimit (FieldsFit L (clean_trailers named fs) → ⊥) (OfExtra rest) (OfExtra rest) c d (extra_once rest c d)

end_passes : (L : Bounds) (named : List (List ℕ)) (fs : List Field) (c : H1Why) → FieldsFit L (clean_trailers named fs) → OfEnd L named fs [] c → ⊥
end_passes L named fs c fit p = no_extra c (when_not why.TrailerLimit (FieldsFit L (clean_trailers named fs) → ⊥) (OfExtra []) c (λ n. n fit) p)

-- ---- one cause behind one head

framing_once : (L : Bounds) (to_head : Bool) (h : Head) (rest : List ℕ) (c d : H1Why) → OfFraming L to_head h rest c → OfFraming L to_head h rest d → c ≡ d
framing_once L to_head h rest c d =
    when_once why.Coding (IsCoded h.fields → ⊥) (why.Length when (IsCounted h.fields → ⊥) else OfBody L (framing to_head h) (OfEnd L (hops h.fields)) rest)
    (why.Length when (IsCounted h.fields → ⊥) else OfBody L (framing to_head h) (OfEnd L (hops h.fields)) rest) c d
    (when_once why.Length (IsCounted h.fields → ⊥) (OfBody L (framing to_head h) (OfEnd L (hops h.fields)) rest) (OfBody L (framing to_head h) (OfEnd L (hops h.fields)) rest) c d
    (body_once L (OfEnd L (hops h.fields)) (framing to_head h) rest c d (end_once L (hops h.fields) c d)))

abbrev Fit : Bounds → Control → Head → Type 0
Fit L control h = ControlFits L control × FieldsFit L (clean (hops h.fields) (says_host (request control)) h.fields)

request_once : (L : Bounds) (to_head : Bool) (control : Control) (h : Head) (rest : List ℕ) (c d : H1Why) → OfRequest L to_head control h rest c → OfRequest L to_head control h rest d → c ≡ d
request_once L to_head control h rest c d =
    when_once why.Host (HasHost control h.fields → ⊥) (why.HeadLimit when (Fit L control h → ⊥) else OfFraming L to_head h rest)
    (why.HeadLimit when (Fit L control h → ⊥) else OfFraming L to_head h rest) c d
    (when_once why.HeadLimit (Fit L control h → ⊥) (OfFraming L to_head h rest) (OfFraming L to_head h rest) c d (framing_once L to_head h rest c d))

abbrev Asked : Bounds → Scheme1 → Bool → Head → List ℕ → List ℕ → List ℕ → Causes
Asked L scheme to_head h rest method target cause = (control : Control) × IsTargetOf scheme method target control × OfRequest L to_head control h rest cause

abbrev NoTarget : Scheme1 → List ℕ → List ℕ → Type 0
NoTarget scheme method target = (control : Control) → IsTargetOf scheme method target control → ⊥

abbrev Last : Bounds → Bool → Head → List ℕ → ℕ → Causes
Last L to_head h rest status cause = (200 ≤ status) × OfFraming L to_head h rest cause

abbrev OwnFit : Bounds → Head → Type 0
OwnFit L h = FieldsFit L (clean (hops h.fields) false h.fields)

abbrev TooMany : Bounds → List Interim → ℕ → Type 0
TooMany L interims status = (status ≤ 199) × (IsWithin L.interims (length interims + 1) → ⊥)

start_once : (L : Bounds) (scheme : Scheme1) (to_head : Bool) (is : List Interim) (h : Head) (rest : List ℕ) (line : StartLine) (c d : H1Why)
    → OfStart L scheme to_head is h rest line c → OfStart L scheme to_head is h rest line d → c ≡ d
start_once L scheme to_head is h rest (request_line method target) c d =
    when_once why.Connect (method ≡ codes "CONNECT") (why.Target when (NoTarget scheme method target) else Asked L scheme to_head h rest method target)
    (why.Target when (NoTarget scheme method target) else Asked L scheme to_head h rest method target) c d
    (when_once why.Target (NoTarget scheme method target) (Asked L scheme to_head h rest method target) (Asked L scheme to_head h rest method target) c d
    (λ p q. request_once L to_head p.0 h rest c d p.2
    (subst (λ (control : Control). OfRequest L to_head control h rest d) (target_once scheme method target q.0 p.0 q.1 p.1) q.2)))
start_once L scheme to_head is h rest (status_line status) c d =
    when_once why.Switching (status ≡ 101) (why.Interims when (TooMany L is status) else why.HeadLimit when (OwnFit L h → ⊥) else Last L to_head h rest status)
    (why.Interims when (TooMany L is status) else why.HeadLimit when (OwnFit L h → ⊥) else Last L to_head h rest status) c d
    (when_once why.Interims (TooMany L is status) (why.HeadLimit when (OwnFit L h → ⊥) else Last L to_head h rest status) (why.HeadLimit when (OwnFit L h → ⊥) else Last L to_head h rest status) c d
    (when_once why.HeadLimit (OwnFit L h → ⊥) (Last L to_head h rest status) (Last L to_head h rest status) c d
    (λ p q. framing_once L to_head h rest c d p.1 q.1)))

abbrev NoHead : List Interim → List ℕ → Type 0
NoHead is section = (head : Head) → IsHead head section → IsNextStart is head.start → ⊥

abbrev Headed : Bounds → Scheme1 → Bool → List Interim → List ℕ → List ℕ → Causes
Headed L scheme to_head is section rest cause = (head : Head) × IsHead head section × IsNextStart is head.start × OfStart L scheme to_head is head rest head.start cause

abbrev FoundHead : Bounds → Scheme1 → Bool → List Interim → List ℕ → List ℕ → Causes
FoundHead L scheme to_head is section rest = why.HeadForm when (NoHead is section) else Headed L scheme to_head is section rest

one_head : (h k : Head) (x : List ℕ) → IsHead h x → IsHead k x → h ≡ k
one_head h k x p q = front_same (h ≡ k) (IsHead h) (IsHead k) (head_front h k) x x p q refl

head_once : (L : Bounds) (scheme : Scheme1) (to_head : Bool) (is : List Interim) (bytes : List ℕ) (c d : H1Why)
    → OfHead L scheme to_head is bytes c → OfHead L scheme to_head is bytes d → c ≡ d
head_once L scheme to_head is bytes c d =
    section_once (EndsAt bytes) L.section bytes why.HeadLimit (FoundHead L scheme to_head is) c d (ends_once bytes)
    (λ x r. when_once why.HeadForm (NoHead is x) (Headed L scheme to_head is x r) (Headed L scheme to_head is x r) c d
    (λ p q. start_once L scheme to_head is p.0 r p.0.start c d p.3
    (subst (λ (k : Head). OfStart L scheme to_head is k r k.start d) (one_head q.0 p.0 x q.1 p.1) q.3)))

-- A head that is found: what is wrong is wrong with it, or behind it.
head_found : (L : Bounds) (scheme : Scheme1) (to_head : Bool) (is : List Interim) (h : Head) (x r : List ℕ) (c : H1Why) → IsHeadWithin L h x → IsNextStart is h.start
    → OfHead L scheme to_head is (x ++ r) c → OfStart L scheme to_head is h r h.start c
head_found L scheme to_head is h x r c p next cause =
    let found = section_found (EndsAt (x ++ r)) L.section x r why.HeadLimit (FoundHead L scheme to_head is) c (ends_once (x ++ r)) (head_ends h x r p.1) p.0 cause in
    let headed = when_not why.HeadForm (NoHead is x) (Headed L scheme to_head is x r) c (λ n. n h p.1 next) found in
    subst (λ (k : Head). OfStart L scheme to_head is k r k.start c) (one_head headed.0 h x headed.1 p.1) headed.3

next_status : (is : List Interim) (line : StartLine) (s : ℕ) → line ≡ status_line s → IsNextStart is line
next_status [] line s e = tt
next_status (i ∷ is) line s e = (s, e)

-- An informational response's head has no cause.
interim_passes : (L : Bounds) (scheme : Scheme1) (to_head : Bool) (is : List Interim) (i : Interim) (x r : List ℕ) (c : H1Why) → IsInterimHead L i x
    → IsWithin L.interims (length is + 1) → OfHead L scheme to_head is (x ++ r) c → ⊥
interim_passes L scheme to_head is i x r c h few cause =
    let start = subst (λ (line : StartLine). OfStart L scheme to_head is h.head r line c) h.status
    (head_found L scheme to_head is h.head x r c h.text (next_status is h.head.start i.status h.status) cause) in
    let a = when_not why.Switching (i.status ≡ 101) (why.Interims when (TooMany L is i.status) else why.HeadLimit when (OwnFit L h.head → ⊥) else Last L to_head h.head r i.status) c h.stays start in
    let b = when_not why.Interims (TooMany L is i.status) (why.HeadLimit when (OwnFit L h.head → ⊥) else Last L to_head h.head r i.status) c (λ n. n.1 few) a in
    let d = when_not why.HeadLimit (OwnFit L h.head → ⊥) (Last L to_head h.head r i.status) c (λ n. n (subst (FieldsFit L) h.fields h.fits)) b in
    omega (arith, d.0, h.number.high)

-- ---- one cause

pub within_fewer : (o : Option ℕ) (m n : ℕ) → m ≤ n → IsWithin o n → IsWithin o m
within_fewer None m n h p = tt
within_fewer (Some most) m n h p = omega arith

room_for_one : (L : Bounds) (before : List Interim) (i : Interim) (is : List Interim) → IsWithin L.interims (length (before ++ (i ∷ is))) → IsWithin L.interims (length before + 1)
room_for_one L before i is h = within_fewer L.interims (length before + 1) (length (before ++ (i ∷ is))) (omega (arith, length-append before (i ∷ is))) h

abbrev Behind : Bounds → Scheme1 → Bool → List Interim → List Interim → H1Why → List ℕ → Type 0
Behind L scheme to_head before is cause = AreEach (IsInterimHead L) is then λ rest. OfHead L scheme to_head (before ++ is) rest cause

nil_part : (x a b : List ℕ) → a ≡ [] → x ≡ a ++ b → b ≡ x
nil_part x a b n e = sym (e ∙ ap (λ (z : List ℕ). z ++ b) n)

-- one interim off the front
move_one : (L : Bounds) (scheme : Scheme1) (to_head : Bool) (before : List Interim) (i : Interim) (is : List Interim) (c : H1Why) (x : List ℕ)
    → (h : Behind L scheme to_head before (i ∷ is) c x) → Behind L scheme to_head (before ++ (i ∷ [])) is c (h.2.1 ++ h.1)
move_one L scheme to_head before i is c x h =
    (h.2.1, h.1, h.2.3, subst (λ (js : List Interim). OfHead L scheme to_head js h.1 c) (sym (append_assoc before (i ∷ []) is)) h.3, refl)

first_part : (x a b p q : List ℕ) → x ≡ a ++ b → a ≡ p ++ q → x ≡ p ++ (q ++ b)
first_part x a b p q e f = e ∙ ap (λ (z : List ℕ). z ++ b) f ∙ append_assoc p q b

cause_behind : (L : Bounds) (scheme : Scheme1) (to_head : Bool) (before is js : List Interim) (c d : H1Why) (x y : List ℕ) → x ≡ y
    → IsWithin L.interims (length (before ++ is)) → IsWithin L.interims (length (before ++ js))
    → Behind L scheme to_head before is c x → Behind L scheme to_head before js d y → c ≡ d
cause_behind L scheme to_head before [] [] c d x y e m n p q =
    head_once L scheme to_head (before ++ []) x c d
    (subst (λ (z : List ℕ). OfHead L scheme to_head (before ++ []) z c) (nil_part x p.0 p.1 p.2 p.4) p.3)
    (subst (λ (z : List ℕ). OfHead L scheme to_head (before ++ []) z d) (nil_part y q.0 q.1 q.2 q.4 ∙ sym e) q.3)
cause_behind L scheme to_head before [] (j ∷ js) c d x y e m n p q =
    absurd (interim_passes L scheme to_head before j q.2.0 (q.2.1 ++ q.1) c q.2.2 (room_for_one L before j js n)
    (subst₂ (λ (is : List Interim) (z : List ℕ). OfHead L scheme to_head is z c) (append-nil before) (nil_part x p.0 p.1 p.2 p.4 ∙ e ∙ first_part y q.0 q.1 q.2.0 q.2.1 q.4 q.2.4) p.3))
cause_behind L scheme to_head before (i ∷ is) [] c d x y e m n p q =
    absurd (interim_passes L scheme to_head before i p.2.0 (p.2.1 ++ p.1) d p.2.2 (room_for_one L before i is m)
    (subst₂ (λ (js : List Interim) (z : List ℕ). OfHead L scheme to_head js z d) (append-nil before) (nil_part y q.0 q.1 q.2 q.4 ∙ sym e ∙ first_part x p.0 p.1 p.2.0 p.2.1 p.4 p.2.4) q.3))
cause_behind L scheme to_head before (i ∷ is) (j ∷ js) c d x y e m n p q =
    let both = interim_front L L i j p.2.0 q.2.0 (p.2.1 ++ p.1) (q.2.1 ++ q.1) p.2.2 q.2.2
    (sym (first_part x p.0 p.1 p.2.0 p.2.1 p.4 p.2.4) ∙ e ∙ first_part y q.0 q.1 q.2.0 q.2.1 q.4 q.2.4) in
    cause_behind L scheme to_head (before ++ (i ∷ [])) is js c d (p.2.1 ++ p.1) (q.2.1 ++ q.1) both.1
    (subst (λ (ks : List Interim). IsWithin L.interims (length ks)) (sym (append_assoc before (i ∷ []) is)) m)
    (subst (λ (ks : List Interim). IsWithin L.interims (length ks)) (sym (append_assoc before (i ∷ []) js ∙ ap (λ (k : Interim). before ++ (k ∷ js)) both.0)) n)
    (move_one L scheme to_head before i is c x p)
    (subst (λ (k : Interim). Behind L scheme to_head (before ++ (k ∷ [])) js d (q.2.1 ++ q.1)) (sym both.0) (move_one L scheme to_head before j js d y q))

pub cause_once : (L : Bounds) (scheme : Scheme1) (to_head : Bool) (bytes : List ℕ) (c d : H1Why) → IsCause L scheme to_head bytes c → IsCause L scheme to_head bytes d → c ≡ d
cause_once L scheme to_head bytes c d p q = cause_behind L scheme to_head [] p.interims q.interims c d bytes bytes refl p.few q.few p.text q.text

-- ---- a message has no cause

framing_passes : (L : Bounds) (to_head : Bool) (h : Head) (content : List ℕ) (own : List Field) (r : List ℕ) (c : H1Why) → IsCoded h.fields → IsCounted h.fields
    → IsBody L (framing to_head h) content own r → FieldsFit L (clean_trailers (hops h.fields) own) → OfFraming L to_head h r c → ⊥
framing_passes L to_head h content own r c coded counted body fit cause =
    let a = when_not why.Coding (IsCoded h.fields → ⊥) (why.Length when (IsCounted h.fields → ⊥) else OfBody L (framing to_head h) (OfEnd L (hops h.fields)) r) c (λ n. n coded) cause in
    let b = when_not why.Length (IsCounted h.fields → ⊥) (OfBody L (framing to_head h) (OfEnd L (hops h.fields)) r) c (λ n. n counted) a in
    body_passes L (OfEnd L (hops h.fields)) (framing to_head h) content own r c body (end_passes L (hops h.fields) own c fit) b

start_passes : (L : Bounds) (scheme : Scheme1) (to_head : Bool) (is : List Interim) (h : Head) (a : Start) (r : List ℕ) (c : H1Why) → IsStartOf scheme h a → StartFits L a
    → FieldsFit L (clean (hops h.fields) (says_host a) h.fields) → (OfFraming L to_head h r c → ⊥) → OfStart L scheme to_head is h r h.start c → ⊥
start_passes L scheme to_head is h (request control) r c s fits fit passes cause =
    let start = subst (λ (line : StartLine). OfStart L scheme to_head is h r line c) s.1 cause in
    let a = when_not why.Connect (control.method ≡ codes "CONNECT") (why.Target when (NoTarget scheme control.method s.0) else Asked L scheme to_head h r control.method s.0) c s.3 start in
    let b = when_not why.Target (NoTarget scheme control.method s.0) (Asked L scheme to_head h r control.method s.0) c (λ n. n control s.2) a in
    let own = subst (λ (k : Control). OfRequest L to_head k h r c) (target_once scheme control.method s.0 b.0 control b.1 s.2) b.2 in
    let d = when_not why.Host (HasHost control h.fields → ⊥) (why.HeadLimit when (Fit L control h → ⊥) else OfFraming L to_head h r) c (λ n. n s.4) own in
    passes (when_not why.HeadLimit (Fit L control h → ⊥) (OfFraming L to_head h r) c (λ n. n (fits, fit)) d)
start_passes L scheme to_head is h (response js status) r c s fits fit passes cause =
    let start = subst (λ (line : StartLine). OfStart L scheme to_head is h r line c) s.0 cause in
    let a = when_not why.Switching (status ≡ 101) (why.Interims when (TooMany L is status) else why.HeadLimit when (OwnFit L h → ⊥) else Last L to_head h r status) c (λ e. omega (arith, s.1)) start in
    let b = when_not why.Interims (TooMany L is status) (why.HeadLimit when (OwnFit L h → ⊥) else Last L to_head h r status) c (λ n. omega (arith, s.1, n.0)) a in
    let d = when_not why.HeadLimit (OwnFit L h → ⊥) (Last L to_head h r status) c (λ n. n fit) b in
    passes d.1

next_of : (scheme : Scheme1) (head : Head) (a : Start) → IsStartOf scheme head a → IsNextStart (interims_of a) head.start
next_of scheme head (request control) s = tt
next_of scheme head (response is status) s = next_status is head.start status s.0

pub few_of : (L : Bounds) (a : Start) → StartFits L a → IsWithin L.interims (length (interims_of a))
few_of L (request control) fits = within_none L.interims
  where
    within_none : (o : Option ℕ) → IsWithin o 0
    within_none None = tt
    within_none (Some most) = omega arith
few_of L (response is status) fits = fits.0

abbrev Tail : (L : Bounds) (scheme : Scheme1) (to_head : Bool) (m : Message) (bytes : List ℕ) → IsHttp1 L scheme to_head m bytes → List ℕ → Type 0
Tail L scheme to_head m bytes h = IsHeadWithin L h.head then IsBody L (framing to_head h.head) m.content h.trailers

tail_passes : (L : Bounds) (scheme : Scheme1) (to_head : Bool) (m : Message) (bytes : List ℕ) (h : IsHttp1 L scheme to_head m bytes) (x : List ℕ) (c : H1Why)
    → Tail L scheme to_head m bytes h x → OfHead L scheme to_head (interims_of m.start) x c → ⊥
tail_passes L scheme to_head m bytes h x c t cause =
    start_passes L scheme to_head (interims_of m.start) h.head m.start t.1 c h.start h.fits.start (subst (FieldsFit L) h.fields h.fits.fields)
    (framing_passes L to_head h.head m.content h.trailers t.1 c h.coded h.counted t.3 (subst (FieldsFit L) h.cleaned h.fits.trailers))
    (head_found L scheme to_head (interims_of m.start) h.head t.0 t.1 c t.2 (next_of scheme h.head m.start h.start)
    (subst (λ (z : List ℕ). OfHead L scheme to_head (interims_of m.start) z c) t.4 cause))

read_behind : (L : Bounds) (scheme : Scheme1) (to_head : Bool) (m : Message) (bytes : List ℕ) (h : IsHttp1 L scheme to_head m bytes)
    → (before is js : List Interim) (c : H1Why) (x y : List ℕ) → x ≡ y → before ++ is ≡ interims_of m.start → IsWithin L.interims (length (before ++ js))
    → (AreEach (IsInterimHead L) is then Tail L scheme to_head m bytes h) x → Behind L scheme to_head before js c y → ⊥
read_behind L scheme to_head m bytes h before [] [] c x y e all n p q =
    tail_passes L scheme to_head m bytes h p.1 c p.3
    (subst₂ (λ (is : List Interim) (z : List ℕ). OfHead L scheme to_head is z c) all (nil_part y q.0 q.1 q.2 q.4 ∙ sym e ∙ sym (nil_part x p.0 p.1 p.2 p.4)) q.3)
read_behind L scheme to_head m bytes h before [] (j ∷ js) c x y e all n p q =
    interim_apart L L j h.head (start_is_last scheme h.head m.start h.start) q.2.0 p.3.0 (q.2.1 ++ q.1) p.3.1 q.2.2 p.3.2
    (sym (first_part y q.0 q.1 q.2.0 q.2.1 q.4 q.2.4) ∙ sym e ∙ sym (nil_part x p.0 p.1 p.2 p.4) ∙ p.3.4)
read_behind L scheme to_head m bytes h before (i ∷ is) [] c x y e all n p q =
    interim_passes L scheme to_head before i p.2.0 (p.2.1 ++ p.1) c p.2.2
    (room_for_one L before i is (subst (λ (ks : List Interim). IsWithin L.interims (length ks)) (sym all) (few_of L m.start h.fits.start)))
    (subst₂ (λ (js : List Interim) (z : List ℕ). OfHead L scheme to_head js z c) (append-nil before) (nil_part y q.0 q.1 q.2 q.4 ∙ sym e ∙ first_part x p.0 p.1 p.2.0 p.2.1 p.4 p.2.4) q.3)
read_behind L scheme to_head m bytes h before (i ∷ is) (j ∷ js) c x y e all n p q =
    let both = interim_front L L i j p.2.0 q.2.0 (p.2.1 ++ p.1) (q.2.1 ++ q.1) p.2.2 q.2.2
    (sym (first_part x p.0 p.1 p.2.0 p.2.1 p.4 p.2.4) ∙ e ∙ first_part y q.0 q.1 q.2.0 q.2.1 q.4 q.2.4) in
    read_behind L scheme to_head m bytes h (before ++ (i ∷ [])) is js c (p.2.1 ++ p.1) (q.2.1 ++ q.1) both.1
    (append_assoc before (i ∷ []) is ∙ all)
    (subst (λ (ks : List Interim). IsWithin L.interims (length ks)) (sym (append_assoc before (i ∷ []) js ∙ ap (λ (k : Interim). before ++ (k ∷ js)) both.0)) n)
    (p.2.1, p.1, p.2.3, p.3, refl)
    (subst (λ (k : Interim). Behind L scheme to_head (before ++ (k ∷ [])) js c (q.2.1 ++ q.1)) (sym both.0) (move_one L scheme to_head before j js c y q))

pub read_no_cause : (L : Bounds) (scheme : Scheme1) (to_head : Bool) (m : Message) (bytes : List ℕ) (c : H1Why) → IsHttp1 L scheme to_head m bytes → IsCause L scheme to_head bytes c → ⊥
read_no_cause L scheme to_head m bytes c h q =
    read_behind L scheme to_head m bytes h [] (interims_of m.start) q.interims c bytes bytes refl refl q.few h.text q.text

-- ---- one answer

longer_apart : (limit : Option ℕ) (most n : ℕ) → IsLonger limit most n → IsWithin limit n → ⊥
longer_apart limit most n h k = omega (arith, h.1, subst (λ (o : Option ℕ). IsWithin o n) h.0 k)

no_other : (L : Bounds) (scheme : Scheme1) (to_head : Bool) (bytes : List ℕ) (c : H1Why) → ((c ≡ why.Ended → ⊥) × IsCause L scheme to_head bytes c)
    → ((m : Message) × IsHttp1 L scheme to_head m bytes) ⊎ IsCause L scheme to_head bytes why.Ended → ⊥
no_other L scheme to_head bytes c p (inl m) = read_no_cause L scheme to_head m.0 bytes c m.1 p.1
no_other L scheme to_head bytes c p (inr e) = p.0 (cause_once L scheme to_head bytes c why.Ended p.1 e)

first_once : (L : Bounds) (scheme : Scheme1) (to_head : Bool) (bytes : List ℕ) (c d : H1Why) → OfFirst L scheme to_head bytes c → OfFirst L scheme to_head bytes d → c ≡ d
first_once L scheme to_head bytes c d (inl p) (inl q) = cause_once L scheme to_head bytes c d p.1 q.1
first_once L scheme to_head bytes c d (inl p) (inr q) = absurd (no_other L scheme to_head bytes c p q.1)
first_once L scheme to_head bytes c d (inr p) (inl q) = absurd (no_other L scheme to_head bytes d q p.1)
first_once L scheme to_head bytes c d (inr p) (inr q) = p.0 ∙ sym q.0

same_limit : (limit : Option ℕ) (j k n : ℕ) → IsLonger limit j n → IsLonger limit k n → j ≡ k
same_limit limit j k n p q =
    let e : Some j ≡ Some k = sym p.0 ∙ q.0 in
    cc

pub one_from : OneFrom
one_from L scheme to_head bytes (read m) (read n) p q = ap read (one_message L L scheme to_head m n bytes p.1 q.1)
one_from L scheme to_head bytes (read m) (broken d) p (inl q) = absurd (read_no_cause L scheme to_head m bytes d p.1 q.1)
one_from L scheme to_head bytes (read m) (broken d) p (inr q) = absurd (longer_apart L.input q.0 (length bytes) q.1 p.0)
one_from L scheme to_head bytes (broken c) (read n) (inl p) q = absurd (read_no_cause L scheme to_head n bytes c q.1 p.1)
one_from L scheme to_head bytes (broken c) (read n) (inr p) q = absurd (longer_apart L.input p.0 (length bytes) p.1 q.0)
one_from L scheme to_head bytes (broken c) (broken d) (inl p) (inl q) = ap broken (cause_once L scheme to_head bytes c d p.1 q.1)
one_from L scheme to_head bytes (broken c) (broken d) (inl p) (inr q) = absurd (longer_apart L.input q.0 (length bytes) q.1 p.0)
one_from L scheme to_head bytes (broken c) (broken d) (inr p) (inl q) = absurd (longer_apart L.input p.0 (length bytes) p.1 q.0)
one_from L scheme to_head bytes (broken c) (broken d) (inr p) (inr q) =
    ap broken (first_once L scheme to_head (take p.0 bytes) c d p.2
    (subst (λ (k : ℕ). OfFirst L scheme to_head (take k bytes) d) (same_limit L.input q.0 p.0 (length bytes) q.1 p.1) q.2))
