-- Sections, bodies and tails have one form.
use Rattle.std.proofs.Common.{◌≡◌, ◌<◌, arith, ℕ, List, length, All, sym, ap, ap₂, subst, subst₂, ◌∙◌}
use Rattle.std.specs.List.{concat}
use Rattle.std.proofs.lemmas.List.{length-append, length-map}
use Rattle.bh_spec.specs.declared.Part.{Part}
use Rattle.bh_spec.specs.declared.Part.TheVariants as parts
use Rattle.bh_spec.specs.declared.Form.{Form}
use Rattle.bh_spec.specs.declared.Form.TheVariants.{Known, Indeterminate}
use Rattle.bh_spec.specs.declared.Width.{Width}
use Rattle.bh_spec.specs.declared.Width.TheVariants.{One, Two, Four, Eight}
use Rattle.bh_spec.specs.Integers.{vi}
use Rattle.bh_spec.specs.Bounds.{Bounds}
use Rattle.bh_spec.specs.Bytes.{lower}
use Rattle.bh_spec.specs.Messages.{Field}
use Rattle.bh_spec.specs.Texts.{Text, mark, IsNumber, IsRun, ◌then◌, AreEach, IsString}
use Rattle.bh_spec.specs.Sections.{IsLine, IsSection}
use Rattle.bh_spec.specs.Tails.{IsBody}
use Rattle.bh_spec.proofs.Meeting.{Meets}
use Rattle.bh_spec.proofs.Numbers.{number_meets}
use Rattle.bh_spec.proofs.Agreement.{Agree, agree_map, agree_then, apart_left, apart_right, agree_string, Ended, agree_each_then, Filled, each_meets}

abbrev pub IsNamed : Field → Type 0
IsNamed field = 0 < length field.name

field_is : (f g : Field) → f.name ≡ g.name → f.value ≡ g.value → f ≡ g
field_is f g p q = ap₂ (λ (x y : List ℕ). let z : Field = record { name = x; value = y } in z) p q

pub line_agrees : (f g : Field) → Agree ⊥ (f ≡ g) (IsLine f) (IsLine g)
line_agrees f g t u r s =
    agree_then ⊥ (r.0 ≡ s.0) (f ≡ g)
    (IsString parts.NameLength parts.Name r.0) (IsString parts.ValueLength parts.Value f.value)
    (IsString parts.NameLength parts.Name s.0) (IsString parts.ValueLength parts.Value g.value)
    (agree_string parts.NameLength parts.Name r.0 s.0)
    (λ e. agree_map ⊥ (f.value ≡ g.value) (f ≡ g) (IsString parts.ValueLength parts.Value f.value) (IsString parts.ValueLength parts.Value g.value)
    (field_is f g (sym r.1 ∙ ap lower e ∙ s.1))
    (agree_string parts.ValueLength parts.Value f.value g.value))
    t u r.2 s.2

vi_nonempty : (w : Width) (part : Part) (n : ℕ) → 0 < length (mark part (vi n w))
vi_nonempty One part n = omega arith
vi_nonempty Two part n = omega arith
vi_nonempty Four part n = omega arith
vi_nonempty Eight part n = omega arith

pub number_nonempty : (part : Part) (n : ℕ) (t : Text) → IsNumber part n t → 0 < length t
number_nonempty part n t h = subst (λ (x : Text). 0 < length x) (sym h.spelled) (vi_nonempty h.width part n)

pub then_nonempty : (R S : Text → Type 0) (t : Text) → ((x : Text) → R x → 0 < length x) → (R then S) t → 0 < length t
then_nonempty R S t h r = omega (arith, ap length r.4, length-append r.0 r.1, h r.0 r.2)

pub line_nonempty : (f : Field) (t : Text) → IsLine f t → 0 < length t
line_nonempty f t h =
    then_nonempty (IsString parts.NameLength parts.Name h.0) (IsString parts.ValueLength parts.Value f.value) t
    (λ x. then_nonempty (IsNumber parts.NameLength (length h.0)) (IsRun parts.Name h.0) x (number_nonempty parts.NameLength (length h.0)))
    h.2

named : (f : Field) (name : List ℕ) → IsNamed f → lower name ≡ f.name → length name ≡ 0 → ⊥
named f name p e n = omega (arith, p, ap length e, n, simp length-map at (ap length e))

-- no line begins as the end of the lines does
line_ends : (f : Field) → IsNamed f → Agree ⊥ ⊥ (IsLine f) (IsNumber parts.NameLength 0)
line_ends f p t u r s =
    apart_left ⊥ ⊥ (IsString parts.NameLength parts.Name r.0) (IsString parts.ValueLength parts.Value f.value) (IsNumber parts.NameLength 0)
    (apart_left ⊥ ⊥ (IsNumber parts.NameLength (length r.0)) (IsRun parts.Name r.0) (IsNumber parts.NameLength 0)
    (agree_map ⊥ (length r.0 ≡ 0) ⊥ (IsNumber parts.NameLength (length r.0)) (IsNumber parts.NameLength 0)
    (named f r.0 p r.1) (number_meets parts.NameLength (length r.0) 0)))
    t u r.2 s

ends_line : (f : Field) → IsNamed f → Agree ⊥ ⊥ (IsNumber parts.NameLength 0) (IsLine f)
ends_line f p t u r s =
    apart_right ⊥ ⊥ (IsNumber parts.NameLength 0) (IsString parts.NameLength parts.Name s.0) (IsString parts.ValueLength parts.Value f.value)
    (apart_right ⊥ ⊥ (IsNumber parts.NameLength 0) (IsNumber parts.NameLength (length s.0)) (IsRun parts.Name s.0)
    (agree_map ⊥ (0 ≡ length s.0) ⊥ (IsNumber parts.NameLength 0) (IsNumber parts.NameLength (length s.0))
    (λ e. named f s.0 p s.1 (sym e)) (number_meets parts.NameLength 0 (length s.0))))
    t u r s.2

abbrev Zeros : Type 0
Zeros = ◌≡◌ {A = ℕ} 0 0

lines_end : Ended ⊥ Zeros IsNamed IsLine IsLine (IsNumber parts.NameLength 0) (IsNumber parts.NameLength 0)
lines_end = record {
  items = λ f g p q. line_agrees f g;
  ends = number_meets parts.NameLength 0 0;
  left = line_ends;
  right = ends_line;
}

lines_fill : Filled IsNamed IsLine
lines_fill = record { items = λ f g p q. line_agrees f g; nonempty = λ f t p. line_nonempty f t }

pub section_agrees : (K L : Bounds) (form : Form) (fs gs : List Field) → All IsNamed fs → All IsNamed gs → Agree ⊥ (fs ≡ gs) (IsSection K form fs) (IsSection L form gs)
section_agrees K L Known fs gs p q t u r s =
    agree_then ⊥ (length r.0 ≡ length s.0) (fs ≡ gs)
    (IsNumber parts.SectionLength (length r.0)) (λ rest. rest ≡ r.0) (IsNumber parts.SectionLength (length s.0)) (λ rest. rest ≡ s.0)
    (number_meets parts.SectionLength (length r.0) (length s.0))
    (λ e x y x-is y-is. subst₂ (λ (v w : Text). Meets ⊥ (fs ≡ gs) v w) (sym x-is) (sym y-is)
    (each_meets IsNamed IsLine lines_fill fs gs p q r.0 s.0 e r.1.lines s.1.lines))
    t u r.2 s.2
section_agrees K L Indeterminate fs gs p q t u r s =
    agree_map ⊥ ((fs ≡ gs) × Zeros) (fs ≡ gs) (AreEach IsLine fs then IsNumber parts.NameLength 0) (AreEach IsLine gs then IsNumber parts.NameLength 0) (λ e. e.0)
    (agree_each_then ⊥ Zeros IsNamed IsLine IsLine (IsNumber parts.NameLength 0) (IsNumber parts.NameLength 0) lines_end fs gs p q)
    t u (r.0, r.1, r.2.lines, r.3, r.4) (s.0, s.1, s.2.lines, s.3, s.4)

pub section_nonempty : (L : Bounds) (form : Form) (fs : List Field) (t : Text) → IsSection L form fs t → 0 < length t
section_nonempty L Known fs t h =
    then_nonempty (IsNumber parts.SectionLength (length h.0)) (λ rest. rest ≡ h.0) t (number_nonempty parts.SectionLength (length h.0)) h.2
section_nonempty L Indeterminate fs t h = omega (arith, ap length h.4, length-append h.0 h.1, number_nonempty parts.NameLength 0 h.1 h.3)

abbrev IsChunk : List ℕ → Type 0
IsChunk chunk = 0 < length chunk

abbrev pub IsChunkText : List ℕ → Text → Type 0
IsChunkText chunk t = IsString parts.ChunkLength parts.Content chunk t

chunk_ends : (x : List ℕ) → IsChunk x → Agree ⊥ ⊥ (IsChunkText x) (IsNumber parts.ChunkLength 0)
chunk_ends x p =
    apart_left ⊥ ⊥ (IsNumber parts.ChunkLength (length x)) (IsRun parts.Content x) (IsNumber parts.ChunkLength 0)
    (agree_map ⊥ (length x ≡ 0) ⊥ (IsNumber parts.ChunkLength (length x)) (IsNumber parts.ChunkLength 0)
    (λ e. omega arith) (number_meets parts.ChunkLength (length x) 0))

ends_chunk : (x : List ℕ) → IsChunk x → Agree ⊥ ⊥ (IsNumber parts.ChunkLength 0) (IsChunkText x)
ends_chunk x p =
    apart_right ⊥ ⊥ (IsNumber parts.ChunkLength 0) (IsNumber parts.ChunkLength (length x)) (IsRun parts.Content x)
    (agree_map ⊥ (0 ≡ length x) ⊥ (IsNumber parts.ChunkLength 0) (IsNumber parts.ChunkLength (length x))
    (λ e. omega arith) (number_meets parts.ChunkLength 0 (length x)))

chunks_end : Ended ⊥ Zeros IsChunk IsChunkText IsChunkText (IsNumber parts.ChunkLength 0) (IsNumber parts.ChunkLength 0)
chunks_end = record {
  items = λ x y p q. agree_string parts.ChunkLength parts.Content x y;
  ends = number_meets parts.ChunkLength 0 0;
  left = chunk_ends;
  right = ends_chunk;
}

pub body_agrees : (form : Form) (x y : List ℕ) → Agree ⊥ (x ≡ y) (IsBody form x) (IsBody form y)
body_agrees Known x y t u r s = agree_string parts.ContentLength parts.Content x y t u r s
body_agrees Indeterminate x y t u r s =
    agree_map ⊥ ((r.0 ≡ s.0) × Zeros) (x ≡ y) (AreEach IsChunkText r.0 then IsNumber parts.ChunkLength 0) (AreEach IsChunkText s.0 then IsNumber parts.ChunkLength 0)
    (λ e. sym r.1 ∙ ap concat e.0 ∙ s.1)
    (agree_each_then ⊥ Zeros IsChunk IsChunkText IsChunkText (IsNumber parts.ChunkLength 0) (IsNumber parts.ChunkLength 0) chunks_end r.0 s.0 r.2 s.2)
    t u r.3 s.3

pub body_nonempty : (form : Form) (x : List ℕ) (t : Text) → IsBody form x t → 0 < length t
body_nonempty Known x t h =
    then_nonempty (IsNumber parts.ContentLength (length x)) (IsRun parts.Content x) t (number_nonempty parts.ContentLength (length x)) h
body_nonempty Indeterminate x t h =
    omega (arith, ap length h.3.4, length-append h.3.0 h.3.1, number_nonempty parts.ChunkLength 0 h.3.1 h.3.3)
