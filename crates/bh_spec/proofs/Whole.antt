-- Whole messages have one form.
use Rattle.std.proofs.Common.{◌≡◌, ◌<◌, ◌≤◌, arith, ℕ, zero, suc, List, [], ◌∷◌, ◌++◌, length, replicate, All, refl, sym, ap, ap₂, subst, subst₂, ◌∙◌}
use Rattle.std.proofs.lemmas.List.Elements.{All-append, All-same, All-weaker}
use Rattle.bh_spec.specs.declared.Part.TheVariants as parts
use Rattle.bh_spec.specs.declared.Form.{Form}
use Rattle.bh_spec.specs.declared.Form.TheVariants.{Known, Indeterminate}
use Rattle.bh_spec.specs.declared.Kind.{Kind}
use Rattle.bh_spec.specs.declared.Kind.TheVariants.{Request, Response}
use Rattle.bh_spec.specs.declared.Omitted.{Omitted}
use Rattle.bh_spec.specs.declared.Omitted.TheVariants.{Nothing, Trailers, Both}
use Rattle.bh_spec.specs.Bounds.{Bounds}
use Rattle.bh_spec.specs.Bytes.{lower}
use Rattle.bh_spec.specs.Messages.{Field, Control, Interim, Start, request, response, Message, kind_of, IsPseudoField, IsRegularField, AreHeaders, IsInterim, IsStart, IsValid}
use Rattle.bh_spec.specs.Texts.{Text, mark, IsNumber, IsRun, ◌then◌, AreEach, IsString}
use Rattle.bh_spec.specs.Sections.{IsSection}
use Rattle.bh_spec.specs.Tails.{IsBody, IsTail}
use Rattle.bh_spec.specs.Spelling.{IsRequestControl, IsInterimText, IsStartText, framing, Spells}
use Rattle.bh_spec.specs.Laws.{OneReading, OneNext}
use Rattle.bh_spec.proofs.Meeting.{Meets, meets_map, meets_short, meets_long, meets_one, meets_next}
use Rattle.bh_spec.proofs.Numbers.{number_meets}
use Rattle.bh_spec.proofs.Agreement.{Agree, agree_map, agree_then, apart_left, apart_right, alone, agree_string, Ended, agree_each_then}
use Rattle.bh_spec.proofs.Sections.{IsNamed, section_agrees, section_nonempty, body_agrees, body_nonempty, then_nonempty}

-- ---- tails

abbrev SameTail : List ℕ → List ℕ → List Field → List Field → Omitted → Omitted → ℕ → ℕ → Type 0
SameTail c d fs gs o p y z = (c ≡ d) × (fs ≡ gs) × (o ≡ p) × (y ≡ z)

padding_meets : (y z : ℕ) → Meets (Unit {0}) (y ≡ z) (mark parts.Padding (replicate y 0)) (mark parts.Padding (replicate z 0))
padding_meets zero zero = refl
padding_meets zero (suc z) = tt
padding_meets (suc y) zero = tt
padding_meets (suc y) (suc z) = (refl, λ e. meets_map (Unit {0}) (y ≡ z) (suc y ≡ suc z) (mark parts.Padding (replicate y 0)) (mark parts.Padding (replicate z 0)) (λ p. ap suc p) (padding_meets y z))

abbrev IsNil : Text → Type 0
IsNil t = t ≡ []

long_short : (E : Type 0) (R : Text → Type 0) → ((t : Text) → R t → 0 < length t) → Agree (Unit {0}) E R IsNil
long_short E R h t u r s = subst (λ (w : Text). Meets (Unit {0}) E t w) (sym s) (meets_long E t (h t r))

short_long : (E : Type 0) (R : Text → Type 0) → ((t : Text) → R t → 0 < length t) → Agree (Unit {0}) E IsNil R
short_long E R h t u r s = subst (λ (w : Text). Meets (Unit {0}) E w u) (sym r) (meets_short E u (h u s))

nil_nil : (E : Type 0) → E → Agree (Unit {0}) E IsNil IsNil
nil_nil E e t u r s = subst₂ (λ (v w : Text). Meets (Unit {0}) E v w) (sym r) (sym s) e

abbrev SectionAndPadding : Bounds → Form → List Field → ℕ → Text → Type 0
SectionAndPadding L form fs z t = (IsSection L form fs then IsRun parts.Padding (replicate z 0)) t

both_nonempty : (L : Bounds) (form : Form) (fs : List Field) (z : ℕ) (t : Text) → SectionAndPadding L form fs z t → 0 < length t
both_nonempty L form fs z t h = then_nonempty (IsSection L form fs) (IsRun parts.Padding (replicate z 0)) t (section_nonempty L form fs) h

both_agree : (K L : Bounds) (form : Form) (fs gs : List Field) (y z : ℕ) → All IsNamed fs → All IsNamed gs
    → Agree (Unit {0}) ((fs ≡ gs) × (y ≡ z)) (SectionAndPadding K form fs y) (SectionAndPadding L form gs z)
both_agree K L form fs gs y z p q =
    agree_then (Unit {0}) (fs ≡ gs) ((fs ≡ gs) × (y ≡ z)) (IsSection K form fs) (IsRun parts.Padding (replicate y 0)) (IsSection L form gs) (IsRun parts.Padding (replicate z 0))
    (section_agrees K L form fs gs p q)
    (λ e t u r s. subst₂ (λ (v w : Text). Meets (Unit {0}) ((fs ≡ gs) × (y ≡ z)) v w) (sym r) (sym s)
    (meets_map (Unit {0}) (y ≡ z) ((fs ≡ gs) × (y ≡ z)) (mark parts.Padding (replicate y 0)) (mark parts.Padding (replicate z 0)) (λ f. (e, f)) (padding_meets y z)))

tail_agrees : (K L : Bounds) (form : Form) (c d : List ℕ) (fs gs : List Field) (o p : Omitted) (y z : ℕ) → All IsNamed fs → All IsNamed gs
    → Agree (Unit {0}) (SameTail c d fs gs o p y z) (IsTail K form c fs o y) (IsTail L form d gs p z)
tail_agrees K L form c d fs gs Nothing Nothing y z v w t u r s =
    agree_then (Unit {0}) (c ≡ d) (SameTail c d fs gs Nothing Nothing y z) (IsBody form c) (SectionAndPadding K form fs y) (IsBody form d) (SectionAndPadding L form gs z)
    (body_agrees form c d)
    (λ e. agree_map (Unit {0}) ((fs ≡ gs) × (y ≡ z)) (SameTail c d fs gs Nothing Nothing y z) (SectionAndPadding K form fs y) (SectionAndPadding L form gs z)
    (λ f. (e, f.0, refl, f.1)) (both_agree K L form fs gs y z v w))
    t u r s
tail_agrees K L form c d fs gs Nothing Trailers y z v w t u r s =
    let E : Type 0 = SameTail c d fs gs Nothing Trailers y z in
    agree_then (Unit {0}) (c ≡ d) E (IsBody form c) (SectionAndPadding K form fs y) (IsBody form d) IsNil (body_agrees form c d)
    (λ e. long_short E (SectionAndPadding K form fs y) (both_nonempty K form fs y)) t u r (alone (IsBody form d) u s.2)
tail_agrees K L form c d fs gs Nothing Both y z v w t u r s =
    let E : Type 0 = SameTail c d fs gs Nothing Both y z in
    long_short E (IsBody form c then SectionAndPadding K form fs y) (λ x. then_nonempty (IsBody form c) (SectionAndPadding K form fs y) x (body_nonempty form c)) t u r s.3
tail_agrees K L form c d fs gs Trailers Nothing y z v w t u r s =
    let E : Type 0 = SameTail c d fs gs Trailers Nothing y z in
    agree_then (Unit {0}) (c ≡ d) E (IsBody form c) IsNil (IsBody form d) (SectionAndPadding L form gs z) (body_agrees form c d)
    (λ e. short_long E (SectionAndPadding L form gs z) (both_nonempty L form gs z)) t u (alone (IsBody form c) t r.2) s
tail_agrees K L form c d fs gs Trailers Trailers y z v w t u r s =
    let E : Type 0 = SameTail c d fs gs Trailers Trailers y z in
    agree_then (Unit {0}) (c ≡ d) E (IsBody form c) IsNil (IsBody form d) IsNil (body_agrees form c d)
    (λ e. nil_nil E (e, r.0 ∙ sym s.0, refl, r.1 ∙ sym s.1)) t u (alone (IsBody form c) t r.2) (alone (IsBody form d) u s.2)
tail_agrees K L form c d fs gs Trailers Both y z v w t u r s =
    long_short (SameTail c d fs gs Trailers Both y z) (IsBody form c) (body_nonempty form c) t u r.2 s.3
tail_agrees K L form c d fs gs Both Nothing y z v w t u r s =
    let E : Type 0 = SameTail c d fs gs Both Nothing y z in
    short_long E (IsBody form d then SectionAndPadding L form gs z) (λ x. then_nonempty (IsBody form d) (SectionAndPadding L form gs z) x (body_nonempty form d)) t u r.3 s
tail_agrees K L form c d fs gs Both Trailers y z v w t u r s =
    short_long (SameTail c d fs gs Both Trailers y z) (IsBody form d) (body_nonempty form d) t u r.3 s.2
tail_agrees K L form c d fs gs Both Both y z v w t u r s =
    nil_nil (SameTail c d fs gs Both Both y z) (r.0 ∙ sym s.0, r.1 ∙ sym s.1, refl, r.2 ∙ sym s.2) t u r.3 s.3

-- ---- starts

regular_named : (f : Field) → IsRegularField f → IsNamed f
regular_named f h = h.name.nonempty

pseudo_named : (f : Field) → IsPseudoField f → IsNamed f
pseudo_named f h = omega (arith, ap length h.name.colon.1)

pub trailers_named : (fs : List Field) → All IsRegularField fs → All IsNamed fs
trailers_named fs h = All-weaker IsRegularField IsNamed regular_named fs h

pub headers_named : (fs : List Field) → AreHeaders fs → All IsNamed fs
headers_named fs h =
    All-same IsNamed fs (h.0 ++ h.1) h.2
    (All-append IsNamed h.0 h.1 (All-weaker IsPseudoField IsNamed pseudo_named h.0 h.3) (trailers_named h.1 h.4))

abbrev control : List ℕ → List ℕ → List ℕ → List ℕ → Control
control a b c d = record { method = a; scheme = b; authority = c; path = d }

pub control_is : (c d : Control) → c.method ≡ d.method → c.scheme ≡ d.scheme → c.authority ≡ d.authority → c.path ≡ d.path → c ≡ d
control_is c d p q r s =
    ap (λ (x : List ℕ). control x c.scheme c.authority c.path) p ∙ ap (λ (x : List ℕ). control d.method x c.authority c.path) q
    ∙ ap (λ (x : List ℕ). control d.method d.scheme x c.path) r ∙ ap (λ (x : List ℕ). control d.method d.scheme d.authority x) s

pub request_agrees : (K L : Bounds) (c d : Control) → Agree ⊥ (c ≡ d) (IsRequestControl K c) (IsRequestControl L d)
request_agrees K L c d t u r s =
    agree_then ⊥ (c.method ≡ d.method) (c ≡ d) (method c) (scheme r.scheme then authority c then path c) (method d) (scheme s.scheme then authority d then path d)
    (agree_string parts.MethodLength parts.Method c.method d.method)
    (λ m. agree_then ⊥ (r.scheme ≡ s.scheme) (c ≡ d) (scheme r.scheme) (authority c then path c) (scheme s.scheme) (authority d then path d)
    (agree_string parts.SchemeLength parts.Scheme r.scheme s.scheme)
    (λ k. agree_then ⊥ (c.authority ≡ d.authority) (c ≡ d) (authority c) (path c) (authority d) (path d)
    (agree_string parts.AuthorityLength parts.Authority c.authority d.authority)
    (λ a. agree_map ⊥ (c.path ≡ d.path) (c ≡ d) (path c) (path d)
    (λ e. control_is c d m (sym r.same_scheme ∙ ap lower k ∙ s.same_scheme) a e)
    (agree_string parts.PathLength parts.Path c.path d.path))))
    t u r.text s.text
  where
    method : Control → Text → Type 0
    method x v = IsString parts.MethodLength parts.Method x.method v

    scheme : List ℕ → Text → Type 0
    scheme x v = IsString parts.SchemeLength parts.Scheme x v

    authority : Control → Text → Type 0
    authority x v = IsString parts.AuthorityLength parts.Authority x.authority v

    path : Control → Text → Type 0
    path x v = IsString parts.PathLength parts.Path x.path v

interim_is : (a b : Interim) → a.status ≡ b.status → a.fields ≡ b.fields → a ≡ b
interim_is a b p q = ap₂ (λ (x : ℕ) (y : List Field). let z : Interim = record { status = x; fields = y } in z) p q

interim_agrees : (K L : Bounds) (form : Form) (a b : Interim) → IsInterim a → IsInterim b → Agree ⊥ (a ≡ b) (IsInterimText K form a) (IsInterimText L form b)
interim_agrees K L form a b p q =
    agree_then ⊥ (a.status ≡ b.status) (a ≡ b) (IsNumber parts.Status a.status) (IsSection K form a.fields) (IsNumber parts.Status b.status) (IsSection L form b.fields)
    (number_meets parts.Status a.status b.status)
    (λ e. agree_map ⊥ (a.fields ≡ b.fields) (a ≡ b) (IsSection K form a.fields) (IsSection L form b.fields) (interim_is a b e)
    (section_agrees K L form a.fields b.fields (headers_named a.fields p.fields) (headers_named b.fields q.fields)))

interims_end : (K L : Bounds) (form : Form) (m n : ℕ) → 200 ≤ m → 200 ≤ n
    → Ended ⊥ (m ≡ n) IsInterim (IsInterimText K form) (IsInterimText L form) (IsNumber parts.Status m) (IsNumber parts.Status n)
interims_end K L form m n g h = record {
  items = interim_agrees K L form;
  ends = number_meets parts.Status m n;
  left = λ a p. apart_left ⊥ ⊥ (IsNumber parts.Status a.status) (IsSection K form a.fields) (IsNumber parts.Status n)
      (agree_map ⊥ (a.status ≡ n) ⊥ (IsNumber parts.Status a.status) (IsNumber parts.Status n) (λ e. omega arith) (number_meets parts.Status a.status n));
  right = λ a p. apart_right ⊥ ⊥ (IsNumber parts.Status m) (IsNumber parts.Status a.status) (IsSection L form a.fields)
      (agree_map ⊥ (m ≡ a.status) ⊥ (IsNumber parts.Status m) (IsNumber parts.Status a.status) (λ e. omega arith) (number_meets parts.Status m a.status));
}

pub start_agrees : (K L : Bounds) (form : Form) (a b : Start) → kind_of a ≡ kind_of b → IsStart a → IsStart b → Agree ⊥ (a ≡ b) (IsStartText K form a) (IsStartText L form b)
start_agrees K L form (request c) (request d) k p q t u r s =
    agree_map ⊥ (c ≡ d) (request c ≡ request d) (IsRequestControl K c) (IsRequestControl L d) (λ e. ap request e) (request_agrees K L c d) t u r s
start_agrees K L form (request c) (response js n) k p q t u r s = absurd cc
start_agrees K L form (response is m) (request d) k p q t u r s = absurd cc
start_agrees K L form (response is m) (response js n) k p q t u r s =
    agree_map ⊥ ((is ≡ js) × (m ≡ n)) (response is m ≡ response js n)
    (AreEach (IsInterimText K form) is then IsNumber parts.Status m) (AreEach (IsInterimText L form) js then IsNumber parts.Status n)
    (λ e. ap₂ response e.0 e.1)
    (agree_each_then ⊥ (m ≡ n) IsInterim (IsInterimText K form) (IsInterimText L form) (IsNumber parts.Status m) (IsNumber parts.Status n)
    (interims_end K L form m n p.final.low q.final.low) is js p.each q.each)
    t u r.1 s.1

-- ---- messages

pub framing_is : (k j : Kind) (f g : Form) → framing k f ≡ framing j g → (k ≡ j) × (f ≡ g)
framing_is Request Request Known Known e = (refl, refl)
framing_is Request Request Known Indeterminate e = absurd cc
framing_is Request Request Indeterminate Known e = absurd cc
framing_is Request Request Indeterminate Indeterminate e = (refl, refl)
framing_is Request Response Known Known e = absurd cc
framing_is Request Response Known Indeterminate e = absurd cc
framing_is Request Response Indeterminate Known e = absurd cc
framing_is Request Response Indeterminate Indeterminate e = absurd cc
framing_is Response Request Known Known e = absurd cc
framing_is Response Request Known Indeterminate e = absurd cc
framing_is Response Request Indeterminate Known e = absurd cc
framing_is Response Request Indeterminate Indeterminate e = absurd cc
framing_is Response Response Known Known e = (refl, refl)
framing_is Response Response Known Indeterminate e = absurd cc
framing_is Response Response Indeterminate Known e = absurd cc
framing_is Response Response Indeterminate Indeterminate e = (refl, refl)

abbrev message : Start → List Field → List ℕ → List Field → Message
message a b c d = record { start = a; fields = b; content = c; trailers = d }

message_is : (m n : Message) → m.start ≡ n.start → m.fields ≡ n.fields → m.content ≡ n.content → m.trailers ≡ n.trailers → m ≡ n
message_is m n p q r s =
    ap (λ (x : Start). message x m.fields m.content m.trailers) p ∙ ap (λ (x : List Field). message n.start x m.content m.trailers) q
    ∙ ap (λ (x : List ℕ). message n.start n.fields x m.trailers) r ∙ ap (λ (x : List Field). message n.start n.fields n.content x) s

abbrev Same : Message → Message → Omitted → Omitted → ℕ → ℕ → Type 0
Same m n o p y z = (m ≡ n) × (o ≡ p) × (y ≡ z)

abbrev After : Bounds → Form → Message → Omitted → ℕ → Text → Type 0
After L form m o z t = (IsStartText L form m.start then IsSection L form m.fields then IsTail L form m.content m.trailers o z) t

after_agrees : (K L : Bounds) (form : Form) (m n : Message) (o p : Omitted) (y z : ℕ) → IsValid m → IsValid n → kind_of m.start ≡ kind_of n.start
    → Agree (Unit {0}) (Same m n o p y z) (After K form m o y) (After L form n p z)
after_agrees K L form m n o p y z v w k =
    agree_then (Unit {0}) (m.start ≡ n.start) (Same m n o p y z)
    (IsStartText K form m.start) (IsSection K form m.fields then IsTail K form m.content m.trailers o y)
    (IsStartText L form n.start) (IsSection L form n.fields then IsTail L form n.content n.trailers p z)
    (start_agrees K L form m.start n.start k v.start w.start)
    (λ e. agree_then (Unit {0}) (m.fields ≡ n.fields) (Same m n o p y z)
    (IsSection K form m.fields) (IsTail K form m.content m.trailers o y) (IsSection L form n.fields) (IsTail L form n.content n.trailers p z)
    (section_agrees K L form m.fields n.fields (headers_named m.fields v.fields) (headers_named n.fields w.fields))
    (λ f. agree_map (Unit {0}) (SameTail m.content n.content m.trailers n.trailers o p y z) (Same m n o p y z)
    (IsTail K form m.content m.trailers o y) (IsTail L form n.content n.trailers p z)
    (λ g. (message_is m n e f g.0 g.1, g.2, g.3))
    (tail_agrees K L form m.content n.content m.trailers n.trailers o p y z (trailers_named m.trailers v.trailers) (trailers_named n.trailers w.trailers))))

message_meets : (K L : Bounds) (m n : Message) (o p : Omitted) (y z : ℕ) (t u : Text) → Spells K m o y t → Spells L n p z u
    → Meets (Unit {0}) (Same m n o p y z) t u
message_meets K L m n o p y z t u a b =
    agree_then (Unit {0}) (framing (kind_of m.start) a.form ≡ framing (kind_of n.start) b.form) (Same m n o p y z)
    (IsNumber parts.Framing (framing (kind_of m.start) a.form)) (After K a.form m o y)
    (IsNumber parts.Framing (framing (kind_of n.start) b.form)) (After L b.form n p z)
    (number_meets parts.Framing (framing (kind_of m.start) a.form) (framing (kind_of n.start) b.form))
    (λ e. let both = framing_is (kind_of m.start) (kind_of n.start) a.form b.form e in
    subst (λ (g : Form). Agree (Unit {0}) (Same m n o p y z) (After K a.form m o y) (After L g n p z)) both.1
    (after_agrees K L a.form m n o p y z a.valid b.valid both.0))
    t u a.text b.text

-- ---- the laws

pub one_reading : OneReading
one_reading K L m n o p y z bytes a b =
    meets_one (Unit {0}) (Same m n o p y z) a.text b.text (message_meets K L m n o p y z a.text b.text a.spelled b.spelled) (a.same ∙ sym b.same)

pub one_next : OneNext
one_next K L bytes p q a b =
    let x = a.spelled in
    let y = b.spelled in
    meets_next (Unit {0}) (Same x.0 y.0 x.1 y.1 x.2 y.2) a.before b.before (p, a.byte) (q, b.byte) a.after b.after
    (message_meets K L x.0 y.0 x.1 y.1 x.2 y.2
    (a.before ++ ((p, a.byte) ∷ a.after)) (b.before ++ ((q, b.byte) ∷ b.after)) x.3 y.3)
    (a.begins ∙ sym b.begins)
