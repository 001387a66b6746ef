-- Steps of content, and from it to the trailer section.
use Rattle.std.proofs.Common.{◌≡◌, ◌≤◌, ◌+◌, ◌<◌, ℕ, zero, suc, Option, Some, List, [], ◌∷◌, ◌++◌, length, take, map, refl, sym, ap, subst, ◌∙◌, inl, inr, arith}
use Rattle.std.proofs.Math.Seq.{take-length}
use Rattle.bh_spec.specs.declared.Form.{Form}
use Rattle.bh_spec.specs.declared.Part.{Part}
use Rattle.bh_spec.specs.Bounds.{Bounds, no_bounds}
use Rattle.bh_spec.specs.Pieces.{SomeOf, CanBecome, IsRefused, IsDead, IsLimit}
use Rattle.bh_spec.specs.Texts.{Text, bytes_of}
use Rattle.bh_model.specs.declared.field.Place.TheVariants.{Trailer}
use Rattle.bh_fields.specs.Middle.{SectionView, begun_view, Rest as section_rest}
use Rattle.bh_fields.specs.Sections.{SectionOf}
use Rattle.bh_fields.proofs.History.{begun_is_a_section}
use Rattle.bh_spec.specs.Items.{Item, Head, interim_response, head, content_byte, trailer_section}
use Rattle.bh_push.specs.declared.body.Phase.{Phase}
use Rattle.bh_push.specs.declared.body.Phase.TheVariants as phases
use Rattle.bh_push.specs.declared.course.Course.{Course}
use Rattle.bh_push.specs.declared.course.Stage.{Stage}
use Rattle.bh_push.specs.declared.course.Stage.TheVariants as stages
use Rattle.bh_push.specs.declared.course.Stepped.{Stepped}
use Rattle.bh_push.specs.declared.course.Stepped.TheVariants as stepped
use Rattle.bh_push.specs.Bodies.{at_of, IsBody, Becomes, IsContent}
use Rattle.bh_push.specs.Completing.{PaddingRest}
use Rattle.bh_push.specs.Decoders.{At, Rest, length_part, behind_content, in_trailers, IsBehindContent}
use Rattle.bh_push.specs.Hands.{kind_of_shown, kind_at}
use Rattle.bh_push.specs.Standing.{Comes, head_behind, LinesAre, IsRight, EndsWith, IsPrompt}
use Rattle.bh_control.specs.Control.{ControlState}
use Rattle.bh_push.specs.Courses.{head_shown, shown_head, shown_lines, InSection, Stays, Halts, kind_now, IsFull, head_of, at_by, place_of, zeros_of, IsSection, IsCourse, IsOpenBy, IsOpen, Taken, Says}
use Rattle.bh_push.proofs.Begun.{section_begun}
use Rattle.bh_push.proofs.Courses.{Shown, body_kind, halts_at, comes_here, stays_in, head_kept, same_lines_shown, taken_of, dead_of, keeps}
use Rattle.bh_push.proofs.Prompts.{body_prompt}
use Rattle.bh_push.proofs.Walking.{lines_on}
use Rattle.bh_push.proofs.Ends.{yields_into, content_behind}

abbrev at_body : Course → At
at_body c = at_of c.body.phase c.body.form c.body.number

-- what stays where content is read
pub record KeepsReaders (c d : Course) : Type 0 where
  pub limits : d.limits ≡ c.limits
  pub control : d.control ≡ c.control
  pub status : d.status ≡ c.status
  pub section : d.section ≡ c.section

-- content bytes are no head
content_head : (bytes : List ℕ) (shown : Option Head) → head_behind (map content_byte bytes) shown ≡ shown
content_head [] shown = refl
content_head (b ∷ bytes) shown = content_head bytes shown

kept_outside : (c d : Course) → KeepsReaders c d → (⊥ → ⊥) × (shown_lines d ≡ shown_lines c)
kept_outside c d k = (λ x. x, same_lines_shown c d k.section)

content_lines_in : (c d : Course) (bytes : List ℕ) → 0 < length bytes → KeepsReaders c d
    → LinesAre (map content_byte bytes) (InSection stages.Content) ((InSection stages.Content → ⊥) × (shown_lines d ≡ shown_lines c)) (shown_lines d)
content_lines_in c d [] some k = absurd (omega (arith, some))
content_lines_in c d (b ∷ bytes) some k = kept_outside c d k

nothing_shown : (c d : Course) → KeepsReaders c d → Shown c d [] stages.Content stages.Content
nothing_shown c d k = record { head = head_kept c d k.control k.status; lines = inr (kept_outside c d k); right = tt }

content_taken : (c d : Course) (piece : List ℕ) (taken : ℕ) (yields : List Item) → c.stage ≡ stages.Content → d.stage ≡ stages.Content → IsOpen c → 0 < taken → taken ≤ length piece
    → Becomes (at_body c) (take taken piece) yields (at_body d) → IsBody d.body.phase d.body.number → KeepsReaders c d
    → Shown c d yields stages.Content stages.Content → Taken c piece taken yields d
content_taken c d piece taken yields e f o some inside b body k shown =
    taken_of c d piece taken yields stages.Content stages.Content e f some inside (b c.limits) k.limits
    (keeps c d o.course k.limits (ap (λ (x : ControlState). x.limits) k.control) (ap (λ (x : SectionView). x.limits) k.section)) body (omega arith) shown

pub content_need : (c d : Course) (piece : List ℕ) → c.stage ≡ stages.Content → d.stage ≡ stages.Content → IsOpen c → 0 < length piece → Becomes (at_body c) piece [] (at_body d)
    → IsBody d.body.phase d.body.number → KeepsReaders c d → Says c piece (stepped.On (length piece)) d
content_need c d piece e f o some b body k =
    content_taken c d piece (length piece) [] e f o some (omega arith) (subst (λ (x : List ℕ). Becomes (at_body c) x [] (at_body d)) (sym (take-length piece)) b) body k (nothing_shown c d k)

pub content_over : (c d : Course) (piece : List ℕ) (taken : ℕ) → c.stage ≡ stages.Content → d.stage ≡ stages.Content → IsOpen c → 0 < taken → taken ≤ length piece
    → Becomes (at_body c) (take taken piece) [] (at_body d) → IsBody d.body.phase d.body.number → KeepsReaders c d → Says c piece (stepped.On taken) d
content_over c d piece taken e f o some inside b body k = content_taken c d piece taken [] e f o some inside b body k (nothing_shown c d k)

-- so many bytes of which the last are content are one at least
some_of : (piece front bytes : List ℕ) (taken : ℕ) → 0 < length bytes → take taken piece ≡ front ++ bytes → 0 < taken
some_of piece front bytes (suc taken) some e = omega arith
some_of piece [] [] zero some e = absurd (omega (arith, some))
some_of piece [] (b ∷ bytes) zero some e = absurd cc
some_of piece (x ∷ front) bytes zero some e = absurd cc

content_right : (bytes : List ℕ) (w : At) → 0 < length bytes → IsBehindContent w → IsRight (map content_byte bytes) w
content_right [] w some r = absurd (omega (arith, some))
content_right (b ∷ bytes) w some r = r

pub content_some : (c d : Course) (piece bytes : List ℕ) (taken : ℕ) → c.stage ≡ stages.Content → d.stage ≡ stages.Content → IsOpen c → IsContent (at_body c) piece taken bytes (at_body d)
    → IsBody d.body.phase d.body.number → KeepsReaders c d → IsBehindContent (at_body d)
    → Taken c piece taken (map content_byte bytes) d × EndsWith piece taken bytes × IsFull piece taken (place_of d)
content_some c d piece bytes taken e f o h body k r = (
  content_taken c d piece taken (map content_byte bytes) e f o (some_of piece h.ends.0 bytes taken h.some h.ends.1) h.inside h.becomes body k
      (record { head = head_kept c d k.control k.status ∙ sym (content_head bytes (Some (head_of c.status c.control.control))); lines = content_lines_in c d bytes h.some k; right = content_right bytes (at_body d) h.some r }),
  record { some = h.some; front = h.ends.0; ends = h.ends.1 },
  subst (λ (s : Stage). IsFull piece taken (at_by s d)) (sym f) h.all,
)

pub content_refused : (c d : Course) (piece : List ℕ) (offset : ℕ) (form : Form) (part : Part) → c.stage ≡ stages.Content → d.stage ≡ stages.Content → IsOpen c → KeepsReaders c d → form ≡ c.body.form → part ≡ length_part form
    → ((L : Bounds) → IsDead (SomeOf (Rest L (at_body c))) (SomeOf (Rest no_bounds (at_body c))) [] piece offset (length_part c.body.form))
    → (phase : Phase) (number : List ℕ) → Becomes (at_body c) (take offset piece) [] (at_of phase c.body.form number) → Says c piece (stepped.Dead offset part) d
content_refused c d piece offset form part e stays o k f g h phase number b =
    subst (λ (p : Part). Says c piece (stepped.Dead offset p) d) (sym (g ∙ ap length_part f)) (dead_of c d piece offset (length_part c.body.form) stages.Content e (h c.limits)
    (stays_in c d stages.Content e stays o k.limits (ap (λ (x : ControlState). x.limits) k.control) (ap (λ (x : SectionView). x.limits) k.section)
    (head_kept c d k.control k.status) (inr (kept_outside c d k)))
    (halts_at c d piece offset stages.Content (at_of phase c.body.form number) e stays k.status (b c.limits)
    (body_prompt c.limits phase c.body.form number) (λ shown. body_kind phase c.body.form number shown ∙ sym (body_kind c.body.phase c.body.form c.body.number shown))))

-- ---- the first bytes of the trailer section

-- what is said of the decoder with the trailer section begun is said of it behind the content
cons_taken : (piece : List ℕ) (taken : ℕ) → 0 < taken → taken ≤ length piece → (byte : ℕ) × (x : List ℕ) × (take taken piece ≡ byte ∷ x)
cons_taken [] taken some inside = absurd (omega (arith, some, inside))
cons_taken (b ∷ piece) zero some inside = absurd (omega (arith, some))
cons_taken (b ∷ piece) (suc taken) some inside = (b, take taken piece, refl)

behind_moves : (L : Bounds) (form : Form) (v : SectionView) (bytes : List ℕ) (yields : List Item) (w : At) → (byte : ℕ) (x : List ℕ) → bytes ≡ byte ∷ x
    → Comes L (in_trailers form (begun_view form Trailer v)) bytes yields w → Comes L (behind_content form) bytes yields w
behind_moves L form v bytes yields w byte x e m =
    subst (λ (y : List ℕ). Comes L (behind_content form) y yields w) (sym e) (at (subst (λ (y : List ℕ). Comes L (in_trailers form (begun_view form Trailer v)) y yields w) e m))
  where
    at : Comes L (in_trailers form (begun_view form Trailer v)) (byte ∷ x) yields w → Comes L (behind_content form) (byte ∷ x) yields w
    at n = record {
      within = content_behind L form v byte x (λ q. yields ++ q) (Rest L w) n.within;
      anyway = content_behind no_bounds form v byte x (λ q. yields ++ q) (Rest no_bounds w) n.anyway;
      goes_on = n.goes_on;
    }

-- ---- what is refused there

to_begun : (K : Bounds) (form : Form) (v : SectionView) (q : List Item) (part : Part) (byte : ℕ) (t : Text) → Rest K (behind_content form) q ((part, byte) ∷ t)
    → Rest K (in_trailers form (begun_view form Trailer v)) q ((part, byte) ∷ t)
to_begun K form v q part byte t (inl e) = absurd (let none : (part, byte) ∷ t ≡ [] = e.1 in cc)
to_begun K form v q part byte t (inr y) =
    yields_into (SectionOf K form Trailer) (section_rest K (begun_view form Trailer v)) (λ fields. trailer_section fields ∷ []) (λ fields. PaddingRest 0)
    (λ fields u h. (begun_is_a_section K form Trailer v fields u).1 h) q ((part, byte) ∷ t) y

from_begun : (K : Bounds) (form : Form) (v : SectionView) (q : List Item) (t : Text) → Rest K (in_trailers form (begun_view form Trailer v)) q t → Rest K (behind_content form) q t
from_begun K form v q t y = inr
    (yields_into (section_rest K (begun_view form Trailer v)) (SectionOf K form Trailer) (λ fields. trailer_section fields ∷ []) (λ fields. PaddingRest 0)
    (λ fields u h. (begun_is_a_section K form Trailer v fields u).0 h) q t y)

becomes_there : (K : Bounds) (form : Form) (v : SectionView) (bytes : List ℕ) (byte : ℕ) (x : List ℕ) → bytes ≡ byte ∷ x → CanBecome (SomeOf (Rest K (behind_content form))) bytes
    → CanBecome (SomeOf (Rest K (in_trailers form (begun_view form Trailer v)))) bytes
becomes_there K form v bytes byte x e h = at h.text h.spelled.1 h.begins
  where
    at : (t : Text) → Rest K (behind_content form) h.spelled.0 t → bytes_of t ≡ bytes ++ h.after → CanBecome (SomeOf (Rest K (in_trailers form (begun_view form Trailer v)))) bytes
    at [] r f = absurd (let no : [] ≡ (byte ∷ x) ++ h.after = f ∙ ap (λ (y : List ℕ). y ++ h.after) e in cc)
    at ((part, value) ∷ t) r f = record { text = (part, value) ∷ t; after = h.after; spelled = (h.spelled.0, to_begun K form v h.spelled.0 part value t r); begins = f }

becomes_here : (K : Bounds) (form : Form) (v : SectionView) (bytes : List ℕ) → CanBecome (SomeOf (Rest K (in_trailers form (begun_view form Trailer v)))) bytes
    → CanBecome (SomeOf (Rest K (behind_content form))) bytes
becomes_here K form v bytes h = record { text = h.text; after = h.after; spelled = (h.spelled.0, from_begun K form v h.spelled.0 h.text h.spelled.1); begins = h.begins }

refused_here : (K : Bounds) (form : Form) (v : SectionView) (piece : List ℕ) (offset : ℕ) (part : Part) → IsRefused (SomeOf (Rest K (in_trailers form (begun_view form Trailer v)))) [] piece offset part
    → IsRefused (SomeOf (Rest K (behind_content form))) [] piece offset part
refused_here K form v piece offset part r =
    let cut = cons_taken piece (offset + 1) (omega arith) (omega (arith, r.inside)) in
    let n = r.next in
    record {
      inside = r.inside;
      next = record {
        before = n.before;
        byte = n.byte;
        after = n.after;
        spelled = (n.spelled.0, from_begun K form v n.spelled.0 (n.before ++ ((part, n.byte) ∷ n.after)) n.spelled.1);
        begins = n.begins;
      };
      after = λ c. r.after (becomes_there K form v (take (offset + 1) piece) cut.0 cut.1 cut.2 c);
    }

behind_dead : (K : Bounds) (form : Form) (v : SectionView) (piece : List ℕ) (offset : ℕ) (part : Part)
    → IsDead (SomeOf (Rest K (in_trailers form (begun_view form Trailer v)))) (SomeOf (Rest no_bounds (in_trailers form (begun_view form Trailer v)))) [] piece offset part
    → IsDead (SomeOf (Rest K (behind_content form))) (SomeOf (Rest no_bounds (behind_content form))) [] piece offset part
behind_dead K form v piece offset part d =
    let cut = cons_taken piece (offset + 1) (omega arith) (omega (arith, d.refused.inside)) in
    record {
      refused = refused_here K form v piece offset part d.refused;
      anyway = λ c. d.anyway (becomes_there no_bounds form v (take (offset + 1) piece) cut.0 cut.1 cut.2 c);
    }

behind_limit : (K : Bounds) (form : Form) (v : SectionView) (piece : List ℕ) (offset : ℕ) (part : Part)
    → IsLimit (SomeOf (Rest K (in_trailers form (begun_view form Trailer v)))) (SomeOf (Rest no_bounds (in_trailers form (begun_view form Trailer v)))) [] piece offset part
    → IsLimit (SomeOf (Rest K (behind_content form))) (SomeOf (Rest no_bounds (behind_content form))) [] piece offset part
behind_limit K form v piece offset part d = record {
  refused = refused_here K form v piece offset part d.refused;
  anyway = becomes_here no_bounds form v (take (offset + 1) piece) d.anyway;
}

-- the decoder behind the content, and with the trailer section begun
pub record Begins (c b : Course) (form : Form) (v : SectionView) : Type 0 where
  pub content : c.stage ≡ stages.Content
  pub over : c.body.phase ≡ phases.Over
  pub form_is : c.body.form ≡ form
  pub stage : b.stage ≡ stages.Trailers form
  pub section : b.section ≡ begun_view form Trailer v
  pub limits : b.limits ≡ c.limits
  pub head : shown_head b ≡ shown_head c

place_begun : (c b : Course) (form : Form) (v : SectionView) → Begins c b form v → place_of b ≡ in_trailers form (begun_view form Trailer v)
place_begun c b form v h = ap (λ (s : Stage). at_by s b) h.stage ∙ ap (in_trailers form) h.section

place_over : (c b : Course) (form : Form) (v : SectionView) → Begins c b form v → behind_content form ≡ place_of c
place_over c b form v h = ap behind_content (sym h.form_is) ∙ ap (λ (x : Phase). at_of x c.body.form c.body.number) (sym h.over) ∙ ap (λ (s : Stage). at_by s c) (sym h.content)

inside_trailers : (c b : Course) (form : Form) (v : SectionView) → Begins c b form v → InSection b.stage
inside_trailers c b form v h = subst InSection (sym h.stage) tt

stays_so : (c b d : Course) (form : Form) (v : SectionView) → Begins c b form v → Stays b d → Stays c d
stays_so c b d form v h s = record {
  limits = s.limits ∙ h.limits;
  course = s.course;
  head = s.head ∙ h.head;
  lines = lines_on c b d [] (inl (inside_trailers c b form v h)) s.lines;
}

taken_so : (c b d : Course) (form : Form) (v : SectionView) (piece : List ℕ) (taken : ℕ) (yields : List Item) → Begins c b form v → Taken b piece taken yields d → Taken c piece taken yields d
taken_so c b d form v piece taken yields h t =
    let a = t.walked in
    let cut = cons_taken piece taken t.some a.inside in
    let m : Comes b.limits (in_trailers form (begun_view form Trailer v)) (take taken piece) yields (place_of d) =
    subst (λ (x : At). Comes b.limits x (take taken piece) yields (place_of d)) (place_begun c b form v h) a.comes in
    let n : Comes c.limits (behind_content form) (take taken piece) yields (place_of d) =
    behind_moves c.limits form v (take taken piece) yields (place_of d) cut.0 cut.1 cut.2
    (subst (λ (L : Bounds). Comes L (in_trailers form (begun_view form Trailer v)) (take taken piece) yields (place_of d)) h.limits m) in
    record {
      some = t.some;
      walked = record {
        inside = a.inside;
        comes = subst (λ (x : At). Comes c.limits x (take taken piece) yields (place_of d)) (place_over c b form v h) n;
        limits = a.limits ∙ h.limits;
        stays = a.stays;
        zeros = subst (λ (s : Stage). zeros_of d.stage ≤ zeros_of s + taken) (sym h.content) (subst (λ (s : Stage). zeros_of d.stage ≤ zeros_of s + taken) h.stage a.zeros);
        head = a.head ∙ ap (head_behind yields) h.head;
        lines = lines_on c b d yields (inl (inside_trailers c b form v h)) a.lines;
        right = a.right;
      };
    }

-- the kind stays
kind_begun : (c b : Course) (form : Form) (v : SectionView) → Begins c b form v → kind_now b ≡ kind_now c
kind_begun c b form v h =
    ap (λ (x : At). kind_at x (shown_head b)) (place_begun c b form v h) ∙ ap kind_of_shown h.head ∙ ap (λ (x : At). kind_at x (shown_head c)) (place_over c b form v h)

-- A byte that is refused at once stood behind the content; another in the section.
halts_so : (c b d : Course) (form : Form) (v : SectionView) (piece : List ℕ) (offset : ℕ) (part : Part) → Begins c b form v → IsRefused (SomeOf (Rest c.limits (place_of c))) [] piece offset part
    → Halts b piece offset d → Halts c piece offset d
halts_so c b d form v piece zero part h r s = record { at = place_of c; comes = comes_here c.limits (place_of c) part r.next; prompt = subst (IsPrompt c.limits) (place_over c b form v h) tt; there = refl; kind = s.kind ∙ kind_begun c b form v h }
halts_so c b d form v piece (suc n) part h r s =
    let cut = cons_taken piece (suc n) (omega arith) (omega (arith, r.inside)) in
    let m : Comes b.limits (in_trailers form (begun_view form Trailer v)) (take (suc n) piece) [] s.at =
    subst (λ (x : At). Comes b.limits x (take (suc n) piece) [] s.at) (place_begun c b form v h) s.comes in
    let i : Comes c.limits (behind_content form) (take (suc n) piece) [] s.at =
    behind_moves c.limits form v (take (suc n) piece) [] s.at cut.0 cut.1 cut.2
    (subst (λ (L : Bounds). Comes L (in_trailers form (begun_view form Trailer v)) (take (suc n) piece) [] s.at) h.limits m) in
    record {
      at = s.at;
      comes = subst (λ (x : At). Comes c.limits x (take (suc n) piece) [] s.at) (place_over c b form v h) i;
      prompt = subst (λ (L : Bounds). IsPrompt L s.at) h.limits s.prompt;
      there = ap (kind_at s.at) (sym h.head) ∙ s.there ∙ kind_begun c b form v h;
      kind = s.kind ∙ kind_begun c b form v h;
    }

pub behind_says : (c b d : Course) (form : Form) (v : SectionView) (piece : List ℕ) (r : Stepped) → Begins c b form v → Says b piece r d → Says c piece r d
behind_says c b d form v piece (stepped.On taken) h s = taken_so c b d form v piece taken [] h s
behind_says c b d form v piece (stepped.Interim taken status) h s = taken_so c b d form v piece taken (interim_response status d.section.lines ∷ []) h s
behind_says c b d form v piece (stepped.Head taken) h s = taken_so c b d form v piece taken (head (head_of d.status d.control.control) d.section.lines ∷ []) h s
behind_says c b d form v piece (stepped.Content taken bytes) h s = (taken_so c b d form v piece taken (map content_byte bytes.now) h s.0, s.1, s.2)
behind_says c b d form v piece (stepped.Trailers taken) h s = taken_so c b d form v piece taken (trailer_section d.section.lines ∷ []) h s
behind_says c b d form v piece (stepped.Dead offset part) h s =
    let dead = subst (λ (x : At). IsDead (SomeOf (Rest c.limits x)) (SomeOf (Rest no_bounds x)) [] piece offset part) (place_over c b form v h)
    (behind_dead c.limits form v piece offset part
    (subst (λ (x : At). IsDead (SomeOf (Rest c.limits x)) (SomeOf (Rest no_bounds x)) [] piece offset part) (place_begun c b form v h)
    (subst (λ (L : Bounds). IsDead (SomeOf (Rest L (place_of b))) (SomeOf (Rest no_bounds (place_of b))) [] piece offset part) h.limits s.0))) in
    (dead, stays_so c b d form v h s.1, halts_so c b d form v piece offset part h dead.refused s.2)
behind_says c b d form v piece (stepped.Limit offset part) h s =
    let limit = subst (λ (x : At). IsLimit (SomeOf (Rest c.limits x)) (SomeOf (Rest no_bounds x)) [] piece offset part) (place_over c b form v h)
    (behind_limit c.limits form v piece offset part
    (subst (λ (x : At). IsLimit (SomeOf (Rest c.limits x)) (SomeOf (Rest no_bounds x)) [] piece offset part) (place_begun c b form v h)
    (subst (λ (L : Bounds). IsLimit (SomeOf (Rest L (place_of b))) (SomeOf (Rest no_bounds (place_of b))) [] piece offset part) h.limits s.0))) in
    (limit, stays_so c b d form v h s.1, halts_so c b d form v piece offset part h limit.refused s.2)

-- the head is shown behind the content
pub over_head : (c : Course) → c.stage ≡ stages.Content → Some (head_of c.status c.control.control) ≡ shown_head c
over_head c e = sym (ap (λ (s : Stage). head_shown s (head_of c.status c.control.control)) e)

pub trailers_open : (c d : Course) (form : Form) (v : SectionView) → d.stage ≡ stages.Trailers form → d.section ≡ begun_view form Trailer v → IsCourse c → d.limits ≡ c.limits
    → d.control.limits ≡ c.control.limits → v.limits ≡ c.section.limits → IsOpen d
trailers_open c d form v e f o limits control section = record {
  course = keeps c d o limits control (ap (λ (x : SectionView). x.limits) f ∙ section);
  at = subst (λ (s : Stage). IsOpenBy s d) (sym e) (subst IsSection (sym f) (section_begun form Trailer v));
}
