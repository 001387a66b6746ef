-- A message from left to right.
use Rattle.std.proofs.Common.{◌≡◌, ◌<◌, ◌+◌, ◌-◌, ℕ, suc, List, [], ◌∷◌, ◌++◌, length, All, Option, Some, None, refl, sym, ap, ap₂, subst, ◌∙◌, append_assoc, arith, zero-add, inl, inr}
use Rattle.std.proofs.lemmas.List.Elements.{All-nil, All-cons, All-head, All-tail}
use Rattle.bh_spec.specs.declared.Part.TheVariants as parts
use Rattle.bh_spec.specs.declared.Form.{Form}
use Rattle.bh_spec.specs.declared.Form.TheVariants.{Known, Indeterminate}
use Rattle.bh_spec.specs.declared.Kind.{Kind}
use Rattle.bh_spec.specs.declared.Kind.TheVariants.{Request, Response}
use Rattle.bh_spec.specs.declared.Omitted.{Omitted}
use Rattle.bh_spec.specs.declared.Omitted.TheVariants.{Both}
use Rattle.bh_spec.specs.declared.Width.TheVariants.{One, Two}
use Rattle.bh_spec.specs.Bounds.{Bounds, IsWithin}
use Rattle.bh_spec.specs.Messages.{Interim, Start, request, response, Message, kind_of, IsInterim, IsStart, IsRegularField}
use Rattle.bh_spec.specs.Texts.{Text, mark, IsNumber, ◌then◌, AreEach}
use Rattle.bh_spec.specs.Spelling.{IsInterimText, IsStartText, framing, Spells}
use Rattle.bh_spec.proofs.Agreement.{agree_map}
use Rattle.bh_spec.proofs.Numbers.{number_meets}
use Rattle.bh_spec.proofs.Whole.{framing_is, request_agrees}
use Rattle.bh_spec.proofs.Within.{no_lines, no_headers}
use Rattle.bh_control.specs.Control.{ControlOf}
use Rattle.bh_control.specs.Statuses.{StatusOf}
use Rattle.bh_spec.specs.Viable.{IsMessageText}
use Rattle.bh_decode.specs.Grammar.{IsRestText, IsAfterStart, IsResponseText, IsAfterFraming, IsFramed, status_left, AfterStatus}
use Rattle.bh_decode.proofs.Contexts.{AreOnce, SomeThen}
use Rattle.bh_model.specs.declared.field.Place.TheVariants.{Header}
use Rattle.bh_model.specs.declared.field.Place.{Place}
use Rattle.bh_fields.specs.Sections.{SectionOf}
use Rattle.bh_fields.proofs.Tracking.{sections_meet}

-- ---- the framing number, and what stands behind it

framed_of : (L : Bounds) (m : Message) (o : Omitted) (z : ℕ) (t : Text) (h : Spells L m o z t) (a : Start) → m.start ≡ a → SomeThen IsFramed (IsAfterFraming L) t
framed_of L m o z t h (request c) e =
    let text = h.text in
    let s = text.3 in
    let start : IsStartText L h.form (request c) s.0 = subst (λ (a : Start). IsStartText L h.form a s.0) e s.2 in
    let valid = subst (λ (a : Start). IsStart a) e h.valid.start in (
      (Request, h.form),
      (
        text.0,
        text.1,
        subst (λ (a : Start). IsNumber parts.Framing (framing (kind_of a) h.form) text.0) e text.2,
        (
          c,
          (
            s.0,
            s.1,
            record { valid = valid; spelled = start },
            (
              m.fields,
              (
                s.3.0,
                s.3.1,
                (s.3.2, h.valid.fields),
                record { content = m.content; trailers = m.trailers; omitted = o; padding = z; bytes = h.valid.content; valid = h.valid.trailers; spelled = s.3.3 },
                s.3.4,
              ),
            ),
            s.4,
          ),
        ),
        text.4,
      ),
    )
framed_of L m o z t h (response interims status) e =
    let text = h.text in
    let s = text.3 in
    let start : IsStartText L h.form (response interims status) s.0 = subst (λ (a : Start). IsStartText L h.form a s.0) e s.2 in
    let valid = subst (λ (a : Start). IsStart a) e h.valid.start in
    let after : IsAfterStart L h.form s.1 = (
      m.fields,
      (
        s.3.0,
        s.3.1,
        (s.3.2, h.valid.fields),
        record { content = m.content; trailers = m.trailers; omitted = o; padding = z; bytes = h.valid.content; valid = h.valid.trailers; spelled = s.3.3 },
        s.3.4,
      ),
    ) in (
      (Response, h.form),
      (
        text.0,
        text.1,
        subst (λ (a : Start). IsNumber parts.Framing (framing (kind_of a) h.form) text.0) e text.2,
        record {
          interims = interims;
          status = status;
          each = valid.each;
          final = valid.final;
          few = subst (IsWithin L.interims) (sym (zero-add (length interims))) start.0;
          spelled = (
            start.1.0,
            start.1.1 ++ s.1,
            start.1.2,
            (start.1.1, s.1, start.1.3, after, refl),
            s.4 ∙ ap (λ (x : Text). x ++ s.1) start.1.4 ∙ append_assoc start.1.0 start.1.1 s.1,
          );
        },
        text.4,
      ),
    )

pub message_framed : (L : Bounds) (t : Text) → IsMessageText L t → SomeThen IsFramed (IsAfterFraming L) t
message_framed L t h = framed_of L h.0 h.1 h.2 t h.3 h.0.start refl

pub framed_message : (L : Bounds) (t : Text) → SomeThen IsFramed (IsAfterFraming L) t → IsMessageText L t
framed_message L t ((Request, form), h) =
    let c = h.3.0 in
    let s = h.3.1 in
    let fields = s.3.0 in
    let f = s.3.1 in
    let rest = f.3 in (
      record { start = request c; fields = fields; content = rest.content; trailers = rest.trailers },
      rest.omitted,
      rest.padding,
      record {
        valid = record { start = s.2.valid; fields = f.2.1; content = rest.bytes; trailers = rest.valid };
        form = form;
        text = (h.0, h.1, h.2, (s.0, s.1, s.2.spelled, (f.0, f.1, f.2.0, rest.spelled, f.4), s.4), h.4);
      },
    )
framed_message L t ((Response, form), h) =
    let r = h.3 in
    let s = r.spelled in
    let after = s.3.3 in
    let f = after.1 in
    let rest = f.3 in (
      record { start = response r.interims r.status; fields = after.0; content = rest.content; trailers = rest.trailers },
      rest.omitted,
      rest.padding,
      record {
        valid = record { start = record { each = r.each; final = r.final }; fields = f.2.1; content = rest.bytes; trailers = rest.valid };
        form = form;
        text = (
          h.0,
          h.1,
          h.2,
          (
            s.0 ++ s.3.0,
            s.3.1,
            (subst (IsWithin L.interims) (zero-add (length r.interims)) r.few, (s.0, s.3.0, s.2, s.3.2, refl)),
            (f.0, f.1, f.2.0, rest.spelled, f.4),
            s.4 ∙ ap (λ (x : Text). s.0 ++ x) s.3.4 ∙ sym (append_assoc s.0 s.3.0 s.3.1),
          ),
          h.4,
        );
      },
    )

-- ---- each is one text

pub framed_once : AreOnce IsFramed
framed_once (k, f) (j, g) t u a b =
    agree_map ⊥ (framing k f ≡ framing j g) ((k, f) ≡ (j, g)) (IsFramed (k, f)) (IsFramed (j, g))
    (λ e. let same = framing_is k j f g e in ap₂ (λ (x : Kind) (y : Form). let z : Kind × Form = (x, y) in z) same.0 same.1)
    (number_meets parts.Framing (framing k f) (framing j g)) t u a b

pub control_once : (L : Bounds) → AreOnce (ControlOf L)
control_once L c d t u a b = request_agrees L L c d t u a.spelled b.spelled

pub section_once : (L : Bounds) (form : Form) (place : Place) → AreOnce (SectionOf L form place)
section_once L form place = sections_meet L L form place

pub status_once : (left : Option ℕ) → AreOnce (StatusOf left)
status_once left s r t u a b = number_meets parts.Status s r t u a.spelled b.spelled

-- ---- interim responses, one at a time

pub one_more : (L : Bounds) (form : Form) (k : ℕ) (t : Text) → IsResponseText L form k t → SomeThen (StatusOf (status_left L.interims k)) (AfterStatus L form k) t
one_more L form k t h = by_list h.interims h.each h.few h.spelled
  where
    few_left : (limit : Option ℕ) (long : ℕ) → 0 < long → IsWithin limit (k + long) → status_left limit k ≡ Some 0 → ⊥
    few_left None long some within e = cc
    few_left (Some n) long some within e = let none : n - k ≡ 0 = cc in omega arith

    by_list : (interims : List Interim) → All IsInterim interims → IsWithin L.interims (k + length interims)
        → (AreEach (IsInterimText L form) interims then (IsNumber parts.Status h.status then IsAfterStart L form)) t → SomeThen (StatusOf (status_left L.interims k)) (AfterStatus L form k) t
    by_list [] each few s = (
      h.status,
      (
        s.3.0,
        s.3.1,
        record { valid = record { low = omega (arith, h.final.low); high = h.final.high; interim = λ e. h.final.low }; spelled = s.3.2 },
        inr (h.final.low, s.3.3),
        s.4 ∙ ap (λ (x : Text). x ++ s.1) s.2 ∙ s.3.4,
      ),
    )
    by_list (i ∷ more) each few s =
        let a = s.2 in
        let b = a.2 in
        let v = All-head IsInterim i more each in
        let long : k + length (i ∷ more) ≡ suc k + length more = omega arith in
        let rest : IsResponseText L form (suc k) (a.1 ++ s.1) = record {
          interims = more;
          status = h.status;
          each = All-tail IsInterim i more each;
          final = h.final;
          few = subst (IsWithin L.interims) long few;
          spelled = (a.1, s.1, a.3, s.3, refl);
        } in
        let joined : t ≡ b.0 ++ (b.1 ++ (a.1 ++ s.1)) =
        s.4 ∙ ap (λ (x : Text). x ++ s.1) (a.4 ∙ ap (λ (x : Text). x ++ a.1) b.4) ∙ ap (λ (x : Text). x ++ s.1) (append_assoc b.0 b.1 a.1)
        ∙ append_assoc b.0 (b.1 ++ a.1) s.1 ∙ ap (λ (x : Text). b.0 ++ x) (append_assoc b.1 a.1 s.1) in (
          i.status,
          (
            b.0,
            b.1 ++ (a.1 ++ s.1),
            record {
              valid = record {
                low = v.number.low;
                high = omega (arith, v.number.high);
                interim = λ e. absurd (few_left L.interims (length (i ∷ more)) (omega arith) few e);
              };
              spelled = b.2;
            },
            inl (omega (arith, v.number.high), (i.fields, (b.1, a.1 ++ s.1, (b.3, v.fields), rest, refl))),
            joined,
          ),
        )

pub one_before : (L : Bounds) (form : Form) (k : ℕ) → IsWithin L.interims k → (t : Text) → SomeThen (StatusOf (status_left L.interims k)) (AfterStatus L form k) t → IsResponseText L form k t
one_before L form k within t (status, (x, y, st, inr final, e)) =
    let none : k ≡ k + 0 = omega arith in
    record {
      interims = [];
      status = status;
      each = All-nil IsInterim;
      final = record { low = final.0; high = st.valid.high };
      few = subst (IsWithin L.interims) none within;
      spelled = ([], x ++ y, refl, (x, y, st.spelled, final.1, refl), e);
    }
one_before L form k within t (status, (x, y, st, inl (small, (fields, (u, v, headers, rest, f))), e)) =
    let i : Interim = record { status = status; fields = fields } in
    let valid : IsInterim i = record { number = record { low = st.valid.low; high = omega arith }; fields = headers.1 } in
    let s = rest.spelled in
    let long : suc k + length rest.interims ≡ k + length (i ∷ rest.interims) = omega arith in
    record {
      interims = i ∷ rest.interims;
      status = rest.status;
      each = All-cons IsInterim i rest.interims valid rest.each;
      final = rest.final;
      few = subst (IsWithin L.interims) long rest.few;
      spelled = (
        (x ++ u) ++ s.0,
        s.1,
        (x ++ u, s.0, (x, u, st.spelled, headers.0, refl), s.2, refl),
        s.3,
        e ∙ ap (λ (w : Text). x ++ w) (f ∙ ap (λ (w : Text). u ++ w) s.4) ∙ sym (append_assoc x u (s.0 ++ s.1)) ∙ sym (append_assoc (x ++ u) s.0 s.1),
      );
    }

-- ---- something may follow

pub some_headers : (L : Bounds) (form : Form) → (t : Text) × SectionOf L form Header [] t
some_headers L Known = (
  mark parts.SectionLength (0 ∷ []),
  (([], no_lines L, (mark parts.SectionLength (0 ∷ []), [], record { width = One; fits = omega arith; spelled = refl }, refl, refl)), no_headers),
)
some_headers L Indeterminate = (
  mark parts.NameLength (0 ∷ []),
  (([], mark parts.NameLength (0 ∷ []), no_lines L, record { width = One; fits = omega arith; spelled = refl }, refl), no_headers),
)

pub some_rest : (L : Bounds) (form : Form) → IsRestText L form []
some_rest L form = record {
  content = [];
  trailers = [];
  omitted = Both;
  padding = 0;
  bytes = All-nil _;
  valid = All-nil IsRegularField;
  spelled = (refl, refl, refl, refl);
}

pub some_after_start : (L : Bounds) (form : Form) → (t : Text) × IsAfterStart L form t
some_after_start L form = let h = some_headers L form in (h.0 ++ [], ([], (h.0, [], h.1, some_rest L form, refl)))

pub some_response : (L : Bounds) (form : Form) (k : ℕ) → IsWithin L.interims k → (t : Text) × IsResponseText L form k t
some_response L form k within =
    let after = some_after_start L form in
    let status = mark parts.Status (0x40 ∷ 0xc8 ∷ []) in (
      status ++ after.0,
      one_before L form k within (status ++ after.0)
          (200, (status, after.0, record { valid = record { low = omega arith; high = omega arith; interim = λ e. omega arith }; spelled = record { width = Two; fits = omega arith; spelled = refl } }, inr (omega arith, after.1), refl)),
    )
