-- The phases in which a section is read: what the reader of sections answers, the decoder answers.
use Rattle.std.proofs.Common.{◌≡◌, ◌+◌, ℕ, List, [], ◌∷◌, ◌++◌, refl, sym, ap, ap₂, subst, ◌∙◌, append-nil, inl}
use Rattle.bh_spec.specs.declared.Part.{Part}
use Rattle.bh_spec.specs.declared.Form.{Form}
use Rattle.bh_spec.specs.Bounds.{Bounds, no_bounds}
use Rattle.bh_spec.specs.Messages.{Field}
use Rattle.bh_spec.specs.Texts.{Text, bytes_of}
use Rattle.bh_spec.specs.Pieces.{SomeOf, IsText, GoesOn, IsDead, IsLimit}
use Rattle.bh_spec.specs.declared.Omitted.TheVariants.{Nothing, Both}
use Rattle.bh_spec.proofs.Limits.{section_anyway}
use Rattle.bh_spec.proofs.Marks.{bytes_of-append}
use Rattle.bh_model.specs.declared.field.Place.{Place}
use Rattle.bh_spec.specs.Items.{Head, head, trailer_section, ending}
use Rattle.bh_spec.specs.Readers.{Follows, Moves}
use Rattle.bh_spec.proofs.Residuals.{residual_on, front_of}
use Rattle.bh_spec.specs.Readings.{Leads as ReaderLeads}
use Rattle.bh_spec.proofs.Readers.{IsReader, reader_goes_on, reader_whole, reader_dead, reader_limit}
use Rattle.bh_fields.specs.Sections.{SectionOf}
use Rattle.bh_fields.specs.Middle.{SectionView, Rest as section_rest}
use Rattle.bh_fields.specs.Bytewise.{IsLeft}
use Rattle.bh_fields.specs.Views.{Leads}
use Rattle.bh_fields.specs.Readers.{IsWanted, IsUnlimited}
use Rattle.bh_fields.proofs.Tracking.{left_once, one_section}
use Rattle.bh_push.specs.Completing.{TailRest, PaddingRest}
use Rattle.bh_push.specs.Decoders.{Rest, in_header, behind_head, in_trailers, in_padding}

-- ---- the reader of sections

-- some bytes lead to the state: what a decoder keeps of its reader, beside its view
abbrev pub IsBegun : SectionView → Type 0
IsBegun v = IsLeft v.form v.place (λ K. section_rest K v)

-- the bytes before the state and those that complete it are a section's
whole_section : (v : SectionView) (h : IsBegun v) (K : Bounds) (fields : List Field) (bytes : List ℕ) → IsText (section_rest K v fields) bytes
    → IsText (SectionOf K v.form v.place fields) (h.0 ++ bytes)
whole_section v h K fields bytes t = record {
  text = (h.1 K).text ++ t.text;
  spelled = (h.1 K).back fields t.text t.spelled;
  same = bytes_of-append (h.1 K).text t.text ∙ ap₂ (λ (x y : List ℕ). x ++ y) (h.1 K).same t.same;
}

pub weaker : (v : SectionView) → IsBegun v → (L : Bounds) (fields : List Field) (t : Text) → section_rest L v fields t → section_rest no_bounds v fields t
weaker v h L fields t r =
    let a = h.1 L in
    let b = h.1 no_bounds in
    let s = a.back fields t r in
    let free : SectionOf no_bounds v.form v.place fields (a.text ++ t) = (section_anyway L v.form fields (a.text ++ t) s.0, s.1) in
    let p = b.forth fields (a.text ++ t) (bytes_of t) free (bytes_of-append a.text t ∙ ap (λ (x : List ℕ). x ++ bytes_of t) a.same) in
    let same : bytes_of a.text ≡ bytes_of b.text ++ [] = a.same ∙ sym b.same ∙ sym (append-nil (bytes_of b.text)) in
    let f = front_of b.text a.text p.rest t [] p.joined same in
    subst (λ (i : List Field). section_rest no_bounds v i t) (sym p.same) (subst (section_rest no_bounds v p.thing) (f.1 ∙ ap (λ (x : Text). x ++ t) (none f.0 f.2)) p.spelled)
  where
    none : (u : Text) → bytes_of u ≡ [] → u ≡ []
    none [] e = refl
    none (c ∷ u) e = absurd cc

-- bytes complete one section at most
one_of : (v : SectionView) → IsBegun v → (K : Bounds) (i j : List Field) (bytes : List ℕ) → IsText (section_rest K v i) bytes → IsText (section_rest K v j) bytes → i ≡ j
one_of v h K i j bytes a b = one_section K K v.form v.place i j (h.0 ++ bytes) (whole_section v h K i bytes a) (whole_section v h K j bytes b)

pub section_reader : (v : SectionView) → IsBegun v → IsReader (section_rest v.limits v) (section_rest no_bounds v)
section_reader v h = record {
  once = left_once v.form v.place (λ L. section_rest L v) h v.limits;
  free_once = left_once v.form v.place (λ L. section_rest L v) h no_bounds;
  one = λ i j bytes a b. one_of v h v.limits i j bytes a b;
  free_one = λ i j bytes a b. one_of v h no_bounds i j bytes a b;
  weaker = λ i t r. weaker v h v.limits i t r;
}

pub both : (v w : SectionView) (bytes : List ℕ) → Leads v bytes w → ReaderLeads (section_rest v.limits v) (section_rest no_bounds v) (section_rest v.limits w) (section_rest no_bounds w) bytes
both v w bytes h = record { within = h v.limits; anyway = h no_bounds }

-- a section that is left is left behind more bytes
pub begun_on : (v w : SectionView) (bytes : List ℕ) → IsBegun v → Leads v bytes w → w.form ≡ v.form → w.place ≡ v.place → IsBegun w
begun_on v w bytes h leads f p =
    subst (λ (x : Form). IsLeft x w.place (λ K. section_rest K w)) (sym f)
    (subst (λ (x : Place). IsLeft v.form x (λ K. section_rest K w)) (sym p)
    (h.0 ++ bytes, λ K. residual_on (SectionOf K v.form v.place) h.0 (λ i. i) (section_rest K v) bytes (λ i. i) (section_rest K w) (h.1 K) (leads K)))

-- ---- what may stand behind the sections

pub behind_header : (form : Form) (of : Head) (L : Bounds) (A : List Field → Text → Type 0) → Follows A (λ fields. TailRest L form)
behind_header form of L A i t a = (ending Both 0 ∷ [], [], inl (refl, refl))

pub behind_trailers : (A : List Field → Text → Type 0) → Follows A (λ fields. PaddingRest 0)
behind_trailers A i t a = (ending Nothing (0 + 0) ∷ [], [], (0, refl, refl))

-- ---- the header section

pub header_goes_on : (form : Form) (of : Head) (v w : SectionView) (piece : List ℕ) → IsBegun v → Leads v piece w → w.limits ≡ v.limits → GoesOn (IsWanted v) [] piece
    → Moves (Rest v.limits (in_header form of v)) (Rest no_bounds (in_header form of v)) (Rest v.limits (in_header form of w)) (Rest no_bounds (in_header form of w)) piece []
header_goes_on form of v w piece h leads e g =
    reader_goes_on (section_rest v.limits v) (section_rest no_bounds v) (section_rest v.limits w) (section_rest no_bounds w) (λ fields. head of fields ∷ []) (λ K fields. TailRest K form) v.limits piece
    (section_reader v h) (both v w piece leads) g (behind_header form of v.limits (section_rest v.limits w))

pub header_whole : (form : Form) (of : Head) (v w : SectionView) (bytes : List ℕ) (fields : List Field) → IsBegun v → Leads v bytes w
    → section_rest v.limits w fields [] → section_rest no_bounds w fields []
    → Moves (Rest v.limits (in_header form of v)) (Rest no_bounds (in_header form of v)) (Rest v.limits (behind_head form)) (Rest no_bounds (behind_head form)) bytes (head of fields ∷ [])
header_whole form of v w bytes fields h leads r free =
    reader_whole (section_rest v.limits v) (section_rest no_bounds v) (section_rest v.limits w) (section_rest no_bounds w) (λ i. head of i ∷ []) (λ K i. TailRest K form) v.limits bytes fields
    (section_reader v h) (both v w bytes leads) r free (behind_header form of v.limits (section_rest v.limits w))

pub header_dead : (form : Form) (of : Head) (v : SectionView) (piece : List ℕ) (offset : ℕ) (part : Part) → IsBegun v → IsDead (IsWanted v) (IsUnlimited v) [] piece offset part
    → IsDead (SomeOf (Rest v.limits (in_header form of v))) (SomeOf (Rest no_bounds (in_header form of v))) [] piece offset part
header_dead form of v piece offset part h d =
    reader_dead (section_rest v.limits v) (section_rest no_bounds v) (λ i. head of i ∷ []) (λ K i. TailRest K form) v.limits (section_reader v h) (behind_header form of v.limits (section_rest v.limits v)) piece offset part d

pub header_limit : (form : Form) (of : Head) (v : SectionView) (piece : List ℕ) (offset : ℕ) (part : Part) → IsBegun v → IsLimit (IsWanted v) (IsUnlimited v) [] piece offset part
    → IsLimit (SomeOf (Rest v.limits (in_header form of v))) (SomeOf (Rest no_bounds (in_header form of v))) [] piece offset part
header_limit form of v piece offset part h d =
    reader_limit (section_rest v.limits v) (section_rest no_bounds v) (λ i. head of i ∷ []) (λ K i. TailRest K form) v.limits (section_reader v h) (behind_header form of v.limits (section_rest v.limits v))
    (behind_header form of no_bounds (section_rest no_bounds v)) piece offset part d

-- ---- the trailer section

pub trailers_go_on : (form : Form) (v w : SectionView) (piece : List ℕ) → IsBegun v → Leads v piece w → GoesOn (IsWanted v) [] piece
    → Moves (Rest v.limits (in_trailers form v)) (Rest no_bounds (in_trailers form v)) (Rest v.limits (in_trailers form w)) (Rest no_bounds (in_trailers form w)) piece []
trailers_go_on form v w piece h leads g =
    reader_goes_on (section_rest v.limits v) (section_rest no_bounds v) (section_rest v.limits w) (section_rest no_bounds w) (λ fields. trailer_section fields ∷ []) (λ K fields. PaddingRest 0) v.limits piece
    (section_reader v h) (both v w piece leads) g (behind_trailers (section_rest v.limits w))

pub trailers_whole : (form : Form) (v w : SectionView) (bytes : List ℕ) (fields : List Field) → IsBegun v → Leads v bytes w
    → section_rest v.limits w fields [] → section_rest no_bounds w fields []
    → Moves (Rest v.limits (in_trailers form v)) (Rest no_bounds (in_trailers form v)) (Rest v.limits (in_padding 0)) (Rest no_bounds (in_padding 0)) bytes (trailer_section fields ∷ [])
trailers_whole form v w bytes fields h leads r free =
    reader_whole (section_rest v.limits v) (section_rest no_bounds v) (section_rest v.limits w) (section_rest no_bounds w) (λ i. trailer_section i ∷ []) (λ K i. PaddingRest 0) v.limits bytes fields
    (section_reader v h) (both v w bytes leads) r free (behind_trailers (section_rest v.limits w))

pub trailers_dead : (form : Form) (v : SectionView) (piece : List ℕ) (offset : ℕ) (part : Part) → IsBegun v → IsDead (IsWanted v) (IsUnlimited v) [] piece offset part
    → IsDead (SomeOf (Rest v.limits (in_trailers form v))) (SomeOf (Rest no_bounds (in_trailers form v))) [] piece offset part
trailers_dead form v piece offset part h d =
    reader_dead (section_rest v.limits v) (section_rest no_bounds v) (λ i. trailer_section i ∷ []) (λ K i. PaddingRest 0) v.limits (section_reader v h) (behind_trailers (section_rest v.limits v)) piece offset part d

pub trailers_limit : (form : Form) (v : SectionView) (piece : List ℕ) (offset : ℕ) (part : Part) → IsBegun v → IsLimit (IsWanted v) (IsUnlimited v) [] piece offset part
    → IsLimit (SomeOf (Rest v.limits (in_trailers form v))) (SomeOf (Rest no_bounds (in_trailers form v))) [] piece offset part
trailers_limit form v piece offset part h d =
    reader_limit (section_rest v.limits v) (section_rest no_bounds v) (λ i. trailer_section i ∷ []) (λ K i. PaddingRest 0) v.limits (section_reader v h) (behind_trailers (section_rest v.limits v))
    (behind_trailers (section_rest no_bounds v)) piece offset part d
