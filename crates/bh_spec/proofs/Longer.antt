-- Every text can go on.
use Rattle.std.proofs.Common.{◌≡◌, ◌+◌, arith, ℕ, List, [], ◌∷◌, ◌++◌, replicate, refl, sym, ap, subst, ◌∙◌, append_assoc, append-nil}
use Rattle.std.proofs.lemmas.List.{replicate_more}
use Rattle.std.proofs.lemmas.List.Elements.{All-nil}
use Rattle.bh_spec.specs.declared.Part.{Part}
use Rattle.bh_spec.specs.declared.Part.TheVariants as parts
use Rattle.bh_spec.specs.declared.Form.{Form}
use Rattle.bh_spec.specs.declared.Form.TheVariants.{Known, Indeterminate}
use Rattle.bh_spec.specs.declared.Omitted.{Omitted}
use Rattle.bh_spec.specs.declared.Omitted.TheVariants.{Nothing, Trailers, Both}
use Rattle.bh_spec.specs.declared.Width.TheVariants.{One}
use Rattle.bh_spec.specs.Bounds.{Bounds}
use Rattle.bh_spec.specs.Messages.{Field, Message, kind_of}
use Rattle.bh_spec.specs.Texts.{Text, mark, bytes_of, IsNumber, IsRun, ◌then◌}
use Rattle.bh_spec.specs.Sections.{IsSection}
use Rattle.bh_spec.specs.Tails.{IsBody, IsTail}
use Rattle.bh_spec.specs.Spelling.{IsStartText, framing, Spells}
use Rattle.bh_spec.specs.Viable.{NextPart}
use Rattle.bh_spec.specs.Laws.{SomeNext}
use Rattle.bh_spec.proofs.Marks.{mark-append, cut}
use Rattle.bh_spec.proofs.Within.{no_lines}

then_longer : (R S S' : Text → Type 0) (t : Text) (h : (R then S) t) (e : Text) → S' (h.1 ++ e) → (R then S') (t ++ e)
then_longer R S S' t h e s = (h.0, h.1 ++ e, h.2, s, ap (λ (x : Text). x ++ e) h.4 ∙ append_assoc h.0 h.1 e)

zero_number : (part : Part) → IsNumber part 0 ((part, 0) ∷ [])
zero_number part = record { width = One; fits = omega arith; spelled = refl }

abbrev first_of_section : Form → Part
first_of_section Known = parts.SectionLength
first_of_section Indeterminate = parts.NameLength

no_section : (L : Bounds) (form : Form) → IsSection L form [] ((first_of_section form, 0) ∷ [])
no_section L Known = ([], no_lines L, (_, [], zero_number parts.SectionLength, refl, refl))
no_section L Indeterminate = ([], _, no_lines L, zero_number parts.NameLength, refl)

abbrev first_of_body : Form → Part
first_of_body Known = parts.ContentLength
first_of_body Indeterminate = parts.ChunkLength

no_body : (form : Form) → IsBody form [] ((first_of_body form, 0) ∷ [])
no_body Known = (_, [], zero_number parts.ContentLength, refl, refl)
no_body Indeterminate = ([], refl, All-nil _, ([], _, refl, zero_number parts.ChunkLength, refl))

more_padding : (z : ℕ) → mark parts.Padding (replicate z 0) ++ ((parts.Padding, 0) ∷ []) ≡ mark parts.Padding (replicate (z + 1) 0)
more_padding z = sym (mark-append parts.Padding (replicate z 0) (0 ∷ [])) ∙ ap (mark parts.Padding) (replicate_more z 0)

record LongerTail (L : Bounds) (form : Form) (c : List ℕ) (fs : List Field) (t : Text) : Type 0 where
  omitted : Omitted
  padding : ℕ
  part : Part
  tail : IsTail L form c fs omitted padding (t ++ ((part, 0) ∷ []))

tail_longer : (L : Bounds) (form : Form) (c : List ℕ) (fs : List Field) (o : Omitted) (z : ℕ) (t : Text) → IsTail L form c fs o z t → LongerTail L form c fs t
tail_longer L form c fs Nothing z t h = record {
  omitted = Nothing;
  padding = z + 1;
  part = parts.Padding;
  tail = then_longer (IsBody form c) (IsSection L form fs then IsRun parts.Padding (replicate z 0)) (IsSection L form fs then IsRun parts.Padding (replicate (z + 1) 0)) t h _
      (then_longer (IsSection L form fs) (IsRun parts.Padding (replicate z 0)) (IsRun parts.Padding (replicate (z + 1) 0)) h.1 h.3 _
      (ap (λ (x : Text). x ++ ((parts.Padding, 0) ∷ [])) h.3.3 ∙ more_padding z));
}
tail_longer L form c fs Trailers z t h = record {
  omitted = Nothing;
  padding = 0;
  part = first_of_section form;
  tail = (t, _, h.2, (_, [], subst (λ (x : List Field). IsSection L form x ((first_of_section form, 0) ∷ [])) (sym h.0) (no_section L form), refl, refl), refl);
}
tail_longer L form c fs Both z t h = record {
  omitted = Trailers;
  padding = 0;
  part = first_of_body form;
  tail = (
    h.1,
    refl,
    subst (λ (x : Text). IsBody form c (x ++ ((first_of_body form, 0) ∷ []))) (sym h.3)
        (subst (λ (x : List ℕ). IsBody form x ((first_of_body form, 0) ∷ [])) (sym h.0) (no_body form)),
  );
}

record Longer (L : Bounds) (m : Message) (t : Text) : Type 0 where
  omitted : Omitted
  padding : ℕ
  part : Part
  spelled : Spells L m omitted padding (t ++ ((part, 0) ∷ []))

longer : (L : Bounds) (m : Message) (o : Omitted) (z : ℕ) (t : Text) → Spells L m o z t → Longer L m t
longer L m o z t h =
    let form = h.form in
    let a = h.text in
    let b = a.3 in
    let c = b.3 in
    let l = tail_longer L form m.content m.trailers o z c.1 c.3 in
    let e : Text = (l.part, 0) ∷ [] in
    record {
      omitted = l.omitted;
      padding = l.padding;
      part = l.part;
      spelled = record {
        valid = h.valid;
        form = form;
        text = then_longer (IsNumber parts.Framing (framing (kind_of m.start) form))
            (IsStartText L form m.start then IsSection L form m.fields then IsTail L form m.content m.trailers o z)
            (IsStartText L form m.start then IsSection L form m.fields then IsTail L form m.content m.trailers l.omitted l.padding) t a e
            (then_longer (IsStartText L form m.start) (IsSection L form m.fields then IsTail L form m.content m.trailers o z)
            (IsSection L form m.fields then IsTail L form m.content m.trailers l.omitted l.padding) a.1 b e
            (then_longer (IsSection L form m.fields) (IsTail L form m.content m.trailers o z) (IsTail L form m.content m.trailers l.omitted l.padding) b.1 c e l.tail));
      };
    }

some_next_of : (L : Bounds) (bytes : List ℕ) (m : Message) (o : Omitted) (z : ℕ) (t : Text) (after : List ℕ) → Spells L m o z t → bytes_of t ≡ bytes ++ after
    → (part : Part) × NextPart L bytes part
some_next_of L bytes m o z t [] h e =
    let l = longer L m o z t h in
    (l.part, record { before = t; byte = 0; after = []; spelled = (m, l.omitted, l.padding, l.spelled); begins = e ∙ append-nil bytes })
some_next_of L bytes m o z t (y ∷ ys) h e =
    let c = cut t bytes y ys e in
    (c.part, record { before = c.before; byte = y; after = c.after; spelled = (m, o, z, subst (Spells L m o z) c.same h); begins = c.begins })

pub some_next : SomeNext
some_next L bytes h = some_next_of L bytes h.spelled.0 h.spelled.1 h.spelled.2 h.text h.after h.spelled.3 h.begins
