-- What stands at a front of the text of a message.
use Rattle.std.proofs.Common.{◌≡◌, ◌≤◌, ℕ, List, [], ◌∷◌, ◌++◌, length, All, refl, sym, ap, ap₂, subst, ◌∙◌, append_assoc, append-nil, length-append, arith}
use Rattle.std.proofs.lemmas.List.Elements.{All-head, All-tail}
use Rattle.bh_spec.specs.declared.Part.{Part}
use Rattle.bh_spec.specs.declared.Part.TheVariants as parts
use Rattle.bh_spec.specs.declared.Form.{Form}
use Rattle.bh_spec.specs.declared.Kind.TheVariants.{Response}
use Rattle.bh_spec.specs.declared.Omitted.{Omitted}
use Rattle.bh_spec.specs.declared.Omitted.TheVariants.{Nothing, Trailers, Both}
use Rattle.bh_spec.specs.Bounds.{Bounds}
use Rattle.bh_spec.specs.Messages.{Field, Interim, Start, request, response, kind_of, Message, IsInterim, IsStart}
use Rattle.bh_spec.specs.Texts.{Text, bytes_of, IsNumber, AreEach, content_in}
use Rattle.bh_spec.specs.Tails.{IsTail}
use Rattle.bh_spec.specs.Spelling.{IsInterimText, IsStartText, framing, Spells}
use Rattle.bh_spec.proofs.Meeting.{Meets, meets_front}
use Rattle.bh_spec.proofs.Numbers.{number_meets}
use Rattle.bh_spec.proofs.Sections.{body_agrees}
use Rattle.bh_spec.proofs.Whole.{framing_is}
use Rattle.bh_spec.proofs.Marks.{bytes_of-append, content-append}
use Rattle.bh_stream.proofs.Moving.{shorter, bytes-length}
use Rattle.h1_spec.specs.Http1.{interims_of}
use Rattle.h1_spec.specs.Moments.{head_ended, content_read, trailers_ended}
use Rattle.h1_spec.specs.Judging.{IsOpening, IsInterims, IsContent, IsClosing, ComesAt}
use Rattle.h1_spec.proofs.Coming.{Tailed, tailed, head_tailed, IsNone, opening_front, content_some, closing_some}
use Rattle.h1_spec.proofs.Members.{interim_agrees, body_all}
use Rattle.h1_moments.proofs.Wholes.{closing_ends}

-- ---- fronts of texts

-- of texts that agree, the front of one is the front of the other
front_text : (E : Type 0) (r a b : Text) (x y : List ℕ) → Meets ⊥ E (r ++ a) b → bytes_of r ++ x ≡ bytes_of b ++ y → (c : Text) × (b ≡ r ++ c)
front_text E [] a b x y h e = (b, refl)
front_text E (k ∷ r) a [] x y h e = absurd h
front_text E (k ∷ r) a (d ∷ b) x y h e =
    let head : k.1 ≡ d.1 = cc in
    let tail : bytes_of r ++ x ≡ bytes_of b ++ y = cc in
    let pair : k ≡ d = ap₂ (λ (p : Part) (n : ℕ). let z : Part × ℕ = (p, n) in z) h.0 head in
    let rest = front_text E r a b x y (h.1 head) tail in
    (rest.0, λ i. (sym pair) i ∷ rest.1 i)

-- ---- a message's text, cut behind its header section

pub record Parted (L : Bounds) (m : Message) (o : Omitted) (z : ℕ) (t : Text) : Type 0 where
  pub form : Form
  pub opens : Text
  pub tail : Text
  pub is_open : IsOpening L form m.start m.fields opens
  pub tail_is : IsTail L form m.content m.trailers o z tail
  pub joined : t ≡ opens ++ tail

pub parted : (L : Bounds) (m : Message) (o : Omitted) (z : ℕ) (t : Text) → Spells L m o z t → Parted L m o z t
parted L m o z t h =
    let p = h.text in
    let q = p.3 in
    let r = q.3 in
    record {
      form = h.form;
      opens = p.0 ++ (q.0 ++ r.0);
      tail = r.1;
      is_open = record { start_is = h.valid.start; fields_are = h.valid.fields; spelled = (p.0, q.0 ++ r.0, p.2, (q.0, r.0, q.2, r.2, refl), refl) };
      tail_is = r.3;
      joined = p.4 ∙ ap (λ (x : Text). p.0 ++ x) (q.4 ∙ ap (λ (x : Text). q.0 ++ x) r.4 ∙ sym (append_assoc q.0 r.0 r.1)) ∙ sym (append_assoc p.0 (q.0 ++ r.0) r.1);
    }

-- what stands behind the head at a front of the bytes
record Placed (L : Bounds) (m : Message) (o : Omitted) (z : ℕ) (t : Text) (w : Parted L m o z t) (s : Start) (fs : List Field) (R : Form → Text → Type 0) (front more : List ℕ) : Type 0 where
  rest : Text
  rest_is : R w.form rest
  same : bytes_of rest ++ more ≡ bytes_of w.tail
  long : length (w.opens ++ rest) ≡ length front

placed : (L : Bounds) (m : Message) (o : Omitted) (z : ℕ) (t : Text) (w : Parted L m o z t) (s : Start) (fs : List Field) (R : Form → Text → Type 0) (front more : List ℕ) → bytes_of t ≡ front ++ more
    → Tailed L s fs R front → Placed L m o z t w s fs R front more
placed L m o z t w s fs R front more e d =
    let one = opening_front L L d.form w.form s m.start fs m.fields d.front w.opens (bytes_of d.rest ++ more) (bytes_of w.tail) d.opens w.is_open
    (sym (append_assoc (bytes_of d.front) (bytes_of d.rest) more) ∙ ap (λ (x : List ℕ). x ++ more) (sym d.joined) ∙ sym e ∙ ap bytes_of w.joined ∙ bytes_of-append w.opens w.tail) in
    record {
      rest = d.rest;
      rest_is = subst (λ (f : Form). R f d.rest) one.0.0 d.behind;
      same = one.2;
      long = omega (arith, length-append w.opens d.rest, ap length one.1, ap length d.joined, length-append (bytes_of d.front) (bytes_of d.rest), bytes-length d.front, bytes-length d.rest);
    }

-- ---- how much content a front has

few_by : (text t opens r c : Text) (front more : List ℕ) → text ++ t ≡ opens ++ (r ++ c) → length (opens ++ r) ≤ length front → bytes_of text ≡ front ++ more → content_in r ≤ content_in text
few_by text t opens r c front more e long h =
    let cut = shorter (opens ++ r) c text t (append_assoc opens r c ∙ sym e) (omega (arith, long, ap length h, length-append front more, bytes-length text)) in
    omega (arith, ap content_in cut.1, content-append (opens ++ r) cut.0, content-append opens r)

tail_content : (L : Bounds) (form : Form) (m : Message) (o : Omitted) (z k : ℕ) (r tail : Text) (more : List ℕ) → IsContent form k r → IsTail L form m.content m.trailers o z tail
    → bytes_of r ++ more ≡ bytes_of tail → (c : Text) × (tail ≡ r ++ c)
tail_content L form m Nothing z k r tail more c t e =
    let f = front_text (c.content ≡ m.content) r c.after t.0 more (bytes_of t.1) (body_agrees form c.content m.content (r ++ c.after) t.0 c.body t.2) (e ∙ ap bytes_of t.4 ∙ bytes_of-append t.0 t.1) in
    (f.0 ++ t.1, t.4 ∙ ap (λ (x : Text). x ++ t.1) f.1 ∙ append_assoc r f.0 t.1)
tail_content L form m Trailers z k r tail more c t e =
    front_text (c.content ≡ m.content) r c.after tail more [] (body_agrees form c.content m.content (r ++ c.after) tail c.body t.2) (e ∙ sym (append-nil (bytes_of tail)))
tail_content L form m Both z k r tail more c t e = absurd (content_some form k r c (none_front (bytes_of r) more (e ∙ ap bytes_of t.3)))
  where
    none_front : (a b : List ℕ) → a ++ b ≡ [] → a ≡ []
    none_front [] b e = refl
    none_front (x ∷ a) b e = absurd cc

pub few_content : (L : Bounds) (m : Message) (o : Omitted) (z : ℕ) (text t : Text) (front more : List ℕ) (s : Start) (fs : List Field) (k : ℕ) → Spells L m o z (text ++ t) → bytes_of text ≡ front ++ more
    → ComesAt L front (content_read s fs k) → k ≤ content_in text
few_content L m o z text t front more s fs k h e c =
    let w = parted L m o z (text ++ t) h in
    let p = placed L m o z (text ++ t) w s fs (λ f. IsContent f k) front (more ++ bytes_of t)
    (bytes_of-append text t ∙ ap (λ (x : List ℕ). x ++ bytes_of t) e ∙ append_assoc front more (bytes_of t)) (tailed L s fs (λ f. IsContent f k) front c.0 c.1) in
    let cut = tail_content L w.form m o z k p.rest w.tail (more ++ bytes_of t) p.rest_is w.tail_is p.same in
    omega (
      arith,
      few_by text t w.opens p.rest cut.0 front more (w.joined ∙ ap (λ (x : Text). w.opens ++ x) cut.1) (omega (arith, p.long)) e,
      p.rest_is.counts,
    )

tail_body : (L : Bounds) (form : Form) (m : Message) (o : Omitted) (z n : ℕ) (ts : List Field) (r tail : Text) (more : List ℕ) → (c : IsClosing L form n ts r) → IsTail L form m.content m.trailers o z tail
    → bytes_of r ++ more ≡ bytes_of tail → (d : Text) × (tail ≡ c.spelled.0 ++ d)
tail_body L form m Nothing z n ts r tail more c t e =
    let p = c.spelled in
    let all : bytes_of p.0 ++ (bytes_of p.1 ++ more) ≡ bytes_of t.0 ++ bytes_of t.1 =
    sym (append_assoc (bytes_of p.0) (bytes_of p.1) more) ∙ ap (λ (x : List ℕ). x ++ more) (sym (bytes_of-append p.0 p.1) ∙ ap bytes_of (sym p.4)) ∙ e ∙ ap bytes_of t.4 ∙ bytes_of-append t.0 t.1 in
    let one = meets_front (c.content ≡ m.content) p.0 t.0 (bytes_of p.1 ++ more) (bytes_of t.1) (body_agrees form c.content m.content p.0 t.0 p.2 t.2) all in
    (t.1, t.4 ∙ ap (λ (x : Text). x ++ t.1) (sym one.1))
tail_body L form m Trailers z n ts r tail more c t e =
    let p = c.spelled in
    let all : bytes_of p.0 ++ (bytes_of p.1 ++ more) ≡ bytes_of tail ++ [] =
    sym (append_assoc (bytes_of p.0) (bytes_of p.1) more) ∙ ap (λ (x : List ℕ). x ++ more) (sym (bytes_of-append p.0 p.1) ∙ ap bytes_of (sym p.4)) ∙ e ∙ sym (append-nil (bytes_of tail)) in
    let one = meets_front (c.content ≡ m.content) p.0 tail (bytes_of p.1 ++ more) [] (body_agrees form c.content m.content p.0 tail p.2 t.2) all in
    ([], sym one.1 ∙ sym (append-nil p.0))
tail_body L form m Both z n ts r tail more c t e = absurd (closing_some L form n ts r c (none_front (bytes_of r) more (e ∙ ap bytes_of t.3)))
  where
    none_front : (a b : List ℕ) → a ++ b ≡ [] → a ≡ []
    none_front [] b e = refl
    none_front (x ∷ a) b e = absurd cc

pub few_closing : (L : Bounds) (m : Message) (o : Omitted) (z : ℕ) (text t : Text) (front more : List ℕ) (s : Start) (fs : List Field) (k : ℕ) (ts : List Field) → Spells L m o z (text ++ t)
    → bytes_of text ≡ front ++ more → ComesAt L front (trailers_ended s fs k ts) → k ≤ content_in text
few_closing L m o z text t front more s fs k ts h e c =
    let w = parted L m o z (text ++ t) h in
    let p = placed L m o z (text ++ t) w s fs (λ f. IsClosing L f k ts) front (more ++ bytes_of t)
    (bytes_of-append text t ∙ ap (λ (x : List ℕ). x ++ bytes_of t) e ∙ append_assoc front more (bytes_of t)) (tailed L s fs (λ f. IsClosing L f k ts) front c.0 c.1) in
    let x = p.rest_is.spelled in
    let cut = tail_body L w.form m o z k ts p.rest w.tail (more ++ bytes_of t) p.rest_is w.tail_is p.same in
    omega (
      arith,
      few_by text t w.opens x.0 cut.0 front more (w.joined ∙ ap (λ (y : Text). w.opens ++ y) cut.1)
          (omega (arith, p.long, length-append w.opens p.rest, length-append w.opens x.0, ap length x.4, length-append x.0 x.1)) e,
      body_all w.form p.rest_is.content x.0 x.2,
      p.rest_is.counts,
    )

-- ---- a head or a trailer section that ends the bytes

pub head_ends : (L : Bounds) (m : Message) (o : Omitted) (z : ℕ) (t : Text) (front more : List ℕ) (s : Start) (fs : List Field) → o ≡ Both → Spells L m o z t → bytes_of t ≡ front ++ more
    → ComesAt L front (head_ended s fs) → more ≡ []
head_ends L m o z t front more s fs both h e c =
    let w = parted L m o z t h in
    let p = placed L m o z t w s fs IsNone front more e (head_tailed L s fs front c) in
    let none = (subst (λ (x : Omitted). IsTail L w.form m.content m.trailers x z w.tail) both w.tail_is).3 in
    sym (ap (λ (x : Text). bytes_of x ++ more) p.rest_is) ∙ p.same ∙ ap bytes_of none

pub trailers_end : (L : Bounds) (m : Message) (o : Omitted) (z : ℕ) (t : Text) (front more : List ℕ) (s : Start) (fs : List Field) (k : ℕ) (ts : List Field) → z ≡ 0 → Spells L m o z t
    → bytes_of t ≡ front ++ more → ComesAt L front (trailers_ended s fs k ts) → more ≡ []
trailers_end L m o z t front more s fs k ts none h e c =
    let w = parted L m o z t h in
    let p = placed L m o z t w s fs (λ f. IsClosing L f k ts) front more e (tailed L s fs (λ f. IsClosing L f k ts) front c.0 c.1) in
    (closing_ends L w.form m o z k ts p.rest w.tail more h.valid.trailers p.rest_is w.tail_is p.same).padding none

-- ---- interim responses

each_same : (L : Bounds) (form : Form) (js : List Interim) (a b : Text) (x y : List ℕ) → All IsInterim js → AreEach (IsInterimText L form) js a → AreEach (IsInterimText L form) js b
    → bytes_of a ++ x ≡ bytes_of b ++ y → a ≡ b
each_same L form [] a b x y all h k e = h ∙ sym k
each_same L form (j ∷ js) a b x y all h k e =
    let valid : IsInterim j = All-head IsInterim j js all in
    let cut : (u v : Text) (t : Text) (r : List ℕ) → t ≡ u ++ v → bytes_of t ++ r ≡ bytes_of u ++ (bytes_of v ++ r) =
    λ u v t r f. ap (λ (z : Text). bytes_of z ++ r) f ∙ ap (λ (z : List ℕ). z ++ r) (bytes_of-append u v) ∙ append_assoc (bytes_of u) (bytes_of v) r in
    let one = meets_front ((j.status ≡ j.status) × (j.fields ≡ j.fields)) h.0 k.0 (bytes_of h.1 ++ x) (bytes_of k.1 ++ y) (interim_agrees L form j j valid valid h.0 k.0 h.2 k.2)
    (sym (cut h.0 h.1 a x h.4) ∙ e ∙ cut k.0 k.1 b y k.4) in
    h.4 ∙ ap₂ (λ (u v : Text). u ++ v) one.1 (each_same L form js h.1 k.1 x y (All-tail IsInterim j js all) h.3 k.3 one.2) ∙ sym k.4

-- The section of an interim response, the last before the status, ends at a front: the status stands behind it.
pub record StatusBehind (number begun g : Text) : Type 0 where
  pub status : ℕ
  pub high : 200 ≤ status
  pub text : Text
  pub status_is : IsNumber parts.Status status text
  pub joined : number ++ begun ≡ g ++ text

pub interim_ends : (L : Bounds) (form : Form) (start : Start) (number begun : Text) (i : Interim) (g : Text) (h : IsInterims L i g) (more rest : List ℕ) → IsStart start
    → IsNumber parts.Framing (framing (kind_of start) form) number → IsStartText L form start begun → interims_of start ≡ h.before ++ i ∷ []
    → bytes_of g ++ more ≡ bytes_of number ++ (bytes_of begun ++ rest) → StatusBehind number begun g
interim_ends L form (request c) number begun i g h more rest valid n b e f = absurd (omega (arith, ap length e, length-append h.before (i ∷ [])))
interim_ends L form (response js status) number begun i g h more rest valid n b e f =
    let s = h.spelled in
    let t = b.1 in
    let one = meets_front (framing Response h.form ≡ framing Response form) s.0 number (bytes_of s.1 ++ more) (bytes_of begun ++ rest)
    (number_meets parts.Framing (framing Response h.form) (framing Response form) s.0 number s.2 n)
    (sym (append_assoc (bytes_of s.0) (bytes_of s.1) more) ∙ ap (λ (x : List ℕ). x ++ more) (sym (bytes_of-append s.0 s.1) ∙ ap bytes_of (sym s.4)) ∙ f) in
    let same_form : h.form ≡ form = (framing_is Response Response h.form form one.0).1 in
    let here : AreEach (IsInterimText L form) js s.1 =
    subst (λ (x : Form). AreEach (IsInterimText L x) js s.1) same_form (subst (λ (x : List Interim). AreEach (IsInterimText L h.form) x s.1) (sym e) s.3) in
    let two = each_same L form js s.1 t.0 more (bytes_of t.1 ++ rest) valid.each here t.2
    (one.2 ∙ ap (λ (x : Text). bytes_of x ++ rest) t.4 ∙ ap (λ (x : List ℕ). x ++ rest) (bytes_of-append t.0 t.1) ∙ append_assoc (bytes_of t.0) (bytes_of t.1) rest) in
    record {
      status = status;
      high = valid.final.low;
      text = t.1;
      status_is = t.3;
      joined = ap (λ (x : Text). number ++ x) t.4 ∙ sym (append_assoc number t.0 t.1) ∙ ap (λ (x : Text). x ++ t.1) (ap₂ (λ (x y : Text). x ++ y) (sym one.1) (sym two) ∙ sym s.4);
    }
