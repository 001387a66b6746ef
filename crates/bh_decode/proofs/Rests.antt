-- What stands behind the header section: content, trailer section and padding.
use Rattle.std.proofs.Common.{ℕ, List, [], ◌∷◌, ◌++◌, refl, sym, ap, subst, ◌∙◌, append-nil, arith, inl, inr}
use Rattle.std.proofs.lemmas.List.Elements.{All-nil}
use Rattle.bh_spec.specs.declared.Part.TheVariants as parts
use Rattle.bh_spec.specs.declared.Form.{Form}
use Rattle.bh_spec.specs.declared.Form.TheVariants.{Known, Indeterminate}
use Rattle.bh_spec.specs.declared.Omitted.{Omitted}
use Rattle.bh_spec.specs.declared.Omitted.TheVariants.{Nothing, Trailers, Both}
use Rattle.bh_spec.specs.declared.Width.TheVariants.{One}
use Rattle.bh_spec.specs.Bounds.{Bounds}
use Rattle.bh_spec.specs.Messages.{Field, IsRegularField}
use Rattle.bh_spec.specs.Texts.{Text, mark}
use Rattle.bh_spec.specs.Tails.{IsBody, IsTail}
use Rattle.bh_spec.proofs.Sections.{body_agrees}
use Rattle.bh_spec.specs.Pieces.{IsText}
use Rattle.bh_decode.specs.Grammar.{IsRestText, IsPaddingText, IsEndText, IsAfterContent, BodyOf}
use Rattle.bh_decode.proofs.Contexts.{Context, context_on, context_behind, context_same, context_or_nothing, OrNothing, AreOnce, SomeThen}
use Rattle.bh_decode.proofs.Grammars.{some_headers, section_once}
use Rattle.bh_model.specs.declared.field.Place.TheVariants.{Trailer}
use Rattle.bh_fields.specs.Sections.{SectionOf}

-- content, and what stands behind it
abbrev pub IsBodyRest : Bounds → Form → Text → Type 0
IsBodyRest L form t = SomeThen (BodyOf form) (λ (content : List ℕ). IsAfterContent L form) t

rest_apart : (L : Bounds) (form : Form) (t : Text) → IsRestText L form t → OrNothing (IsBodyRest L form) t
rest_apart L form t h = by_omission h.omitted h.spelled
  where
    body : (x : Text) → IsBody form h.content x → BodyOf form h.content x
    body x s = record { bytes = h.bytes; spelled = s }

    by_omission : (o : Omitted) → IsTail L form h.content h.trailers o h.padding t → OrNothing (IsBodyRest L form) t
    by_omission Nothing s = inr (h.content, (s.0, s.1, body s.0 s.2, inr (h.trailers, (s.3.0, s.3.1, (s.3.2, h.valid), (h.padding, s.3.3), s.3.4)), s.4))
    by_omission Trailers s = inr (h.content, (t, [], body t s.2, inl refl, sym (append-nil t)))
    by_omission Both s = inl s.3

rest_together : (L : Bounds) (form : Form) (t : Text) → OrNothing (IsBodyRest L form) t → IsRestText L form t
rest_together L form t (inl e) = record {
  content = [];
  trailers = [];
  omitted = Both;
  padding = 0;
  bytes = All-nil _;
  valid = All-nil IsRegularField;
  spelled = (refl, refl, refl, e);
}
rest_together L form t (inr (content, (x, y, body, inl none, e))) = record {
  content = content;
  trailers = [];
  omitted = Trailers;
  padding = 0;
  bytes = body.bytes;
  valid = All-nil IsRegularField;
  spelled = (refl, refl, subst (IsBody form content) (sym (e ∙ ap (λ (w : Text). x ++ w) none ∙ append-nil x)) body.spelled);
}
rest_together L form t (inr (content, (x, y, body, inr (fields, (p, q, trailers, padding, g)), e))) = record {
  content = content;
  trailers = fields;
  omitted = Nothing;
  padding = padding.0;
  bytes = body.bytes;
  valid = trailers.1;
  spelled = (x, y, body.spelled, (p, q, trailers.0, padding.1, g), e);
}

pub body_once : (form : Form) → AreOnce (BodyOf form)
body_once form c d t u a b = body_agrees form c d t u a.spelled b.spelled

pub some_body : (form : Form) → (t : Text) × BodyOf form [] t
some_body Known = (
  mark parts.ContentLength (0 ∷ []),
  record { bytes = All-nil _; spelled = (mark parts.ContentLength (0 ∷ []), [], record { width = One; fits = omega arith; spelled = refl }, refl, refl) },
)
some_body Indeterminate = (
  mark parts.ChunkLength (0 ∷ []),
  record { bytes = All-nil _; spelled = ([], refl, All-nil _, ([], mark parts.ChunkLength (0 ∷ []), refl, record { width = One; fits = omega arith; spelled = refl }, refl)) },
)

pub rest_here : (L : Bounds) (form : Form) → Context (IsRestText L form) (IsBodyRest L form) [] 1
rest_here L form =
    let b = some_body form in
    context_on (IsRestText L form) (OrNothing (IsBodyRest L form)) (IsBodyRest L form) [] [] 0 1 (omega arith)
    (context_same (IsRestText L form) (OrNothing (IsBodyRest L form)) (rest_apart L form) (rest_together L form))
    (context_or_nothing (IsBodyRest L form) (b.0 ++ []) ([], (b.0, [], b.1, inl refl, refl)))

pub behind_body : (L : Bounds) (form : Form) (content bytes : List ℕ) → IsText (BodyOf form content) bytes → Context (IsBodyRest L form) (IsAfterContent L form) bytes 0
behind_body L form content bytes h = context_behind (BodyOf form) (λ (c : List ℕ). IsAfterContent L form) (body_once form) content bytes h

some_trailers : (L : Bounds) (form : Form) → (t : Text) × SectionOf L form Trailer [] t
some_trailers L form = let h = some_headers L form in (h.0, (h.1.0, All-nil IsRegularField))

pub some_padding : IsPaddingText []
some_padding = (0, refl)

pub behind_content : (L : Bounds) (form : Form) → Context (IsAfterContent L form) (IsEndText L form) [] 1
behind_content L form =
    let h = some_trailers L form in
    context_or_nothing (IsEndText L form) (h.0 ++ []) ([], (h.0, [], h.1, some_padding, refl))

pub behind_trailers : (L : Bounds) (form : Form) (fields : List Field) (bytes : List ℕ) → IsText (SectionOf L form Trailer fields) bytes → Context (IsEndText L form) IsPaddingText bytes 0
behind_trailers L form fields bytes h = context_behind (SectionOf L form Trailer) (λ (fs : List Field). IsPaddingText) (section_once L form Trailer) fields bytes h
