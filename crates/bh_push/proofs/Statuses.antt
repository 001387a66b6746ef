-- The framing number and the statuses: a number, and then what it says.
use Rattle.std.proofs.Common.{◌≡◌, ◌+◌, ◌⊎◌, ℕ, List, [], ◌∷◌, ◌++◌, length, map, refl, sym, ap, subst, ◌∙◌, append_assoc, inl, inr, arith}
use Rattle.std.proofs.lemmas.List.Elements.{All-nil, All-head, All-tail, All-cons}
use Rattle.bh_spec.specs.declared.Form.{Form}
use Rattle.bh_spec.specs.declared.Kind.{Kind}
use Rattle.bh_spec.specs.declared.Part.TheVariants as parts
use Rattle.bh_spec.specs.Integers.{vi, byte_count}
use Rattle.bh_spec.specs.Bounds.{Bounds, IsWithin}
use Rattle.bh_spec.specs.Messages.{Interim, IsInterim, IsInterimStatus, IsFinalStatus}
use Rattle.bh_spec.specs.Spelling.{framing}
use Rattle.bh_spec.specs.Texts.{Text, mark, IsNumber}
use Rattle.bh_spec.proofs.Within.{within_less}
use Rattle.bh_model.specs.declared.field.Place.TheVariants.{Header}
use Rattle.bh_varint.specs.Numbers.{NumberThen}
use Rattle.bh_fields.specs.Sections.{SectionOf}
use Rattle.bh_spec.specs.Items.{Item, of_response}
use Rattle.bh_push.specs.Completing.{Opening, interim_item, AfterStart, InterimRest, ResponseRest, AfterFraming, MessageRest}

-- ---- the framing number

abbrev pub AfterNumber : Bounds → List Item → ℕ → ℕ → Text → Type 0
AfterNumber L q n width t = (k : Kind × Form) × (framing k.0 k.1 ≡ n) × AfterFraming L k q t

pub framing_to : (L : Bounds) (q : List Item) (t : Text) → MessageRest L q t → NumberThen parts.Framing (AfterNumber L q) t
framing_to L q t y = record {
  number = framing y.thing.0 y.thing.1;
  width = y.spelled.width;
  behind = y.rest;
  fits = y.spelled.fits;
  spelled = y.joined ∙ ap (λ (x : Text). x ++ y.rest) y.spelled.spelled;
  body = (y.thing, refl, subst (λ (p : List Item). AfterFraming L y.thing p y.rest) (sym y.items) y.behind);
}

pub framing_from : (L : Bounds) (q : List Item) (t : Text) → NumberThen parts.Framing (AfterNumber L q) t → MessageRest L q t
framing_from L q t h = record {
  thing = h.body.0;
  text = mark parts.Framing (vi h.number h.width);
  rest = h.behind;
  more = q;
  spelled = subst (λ (n : ℕ). IsNumber parts.Framing n (mark parts.Framing (vi h.number h.width))) (sym h.body.1) (record { width = h.width; fits = h.fits; spelled = refl });
  behind = h.body.2;
  items = refl;
  joined = h.spelled;
}

-- ---- a status

-- behind a status, with so many interim responses before it
abbrev pub AfterStatus : Bounds → Form → ℕ → List Item → ℕ → ℕ → Text → Type 0
AfterStatus L form before q n width t = (IsInterimStatus n × IsWithin L.interims (before + 1) × InterimRest L form before n (SectionOf L form Header) q t)
    ⊎ (IsFinalStatus n × AfterStart L form (of_response n) q t)

-- the interim responses of an opening in a row, then the status
opening_to : (L : Bounds) (form : Form) (before : ℕ) (interims : List Interim) (status : ℕ) (q more : List Item) (t text rest : Text) → Opening L form before (interims, status) text
    → AfterStart L form (of_response status) more rest → q ≡ map interim_item interims ++ more → t ≡ text ++ rest → NumberThen parts.Status (AfterStatus L form before q) t
opening_to L form before [] status q more t text rest o behind items joined =
    let s = o.spelled in
    record {
      number = status;
      width = s.3.width;
      behind = rest;
      fits = s.3.fits;
      spelled = joined ∙ ap (λ (x : Text). x ++ rest) (s.4 ∙ ap (λ (x : Text). x ++ s.1) s.2 ∙ s.3.spelled);
      body = inr (o.final, subst (λ (p : List Item). AfterStart L form (of_response status) p rest) (sym items) behind);
    }
opening_to L form before (interim ∷ interims) status q more t text rest o behind items joined =
    let s = o.spelled in
    let each = s.2 in
    let first = each.2 in
    let is : IsInterim interim = All-head IsInterim interim interims o.each in
    let number : Text = mark parts.Status (vi interim.status first.2.width) in
    let later : Text = (each.1 ++ s.1) ++ rest in
    record {
      number = interim.status;
      width = first.2.width;
      behind = first.1 ++ later;
      fits = first.2.fits;
      spelled = joined ∙ ap (λ (x : Text). x ++ rest) (s.4 ∙ ap (λ (x : Text). x ++ s.1) (each.4 ∙ ap (λ (x : Text). x ++ each.1) (first.4 ∙ ap (λ (x : Text). x ++ first.1) first.2.spelled))
          ∙ append_assoc (number ++ first.1) each.1 s.1) ∙ append_assoc (number ++ first.1) (each.1 ++ s.1) rest ∙ append_assoc number first.1 later;
      body = inl (
        is.number,
        within_less L.interims (before + 1) (before + length (interim ∷ interims)) (omega arith) o.few,
        record {
          thing = interim.fields;
          text = first.1;
          rest = later;
          more = map interim_item interims ++ more;
          spelled = (first.3, is.fields);
          behind = record {
            thing = (interims, status);
            text = each.1 ++ s.1;
            rest = rest;
            more = more;
            spelled = record {
              each = All-tail IsInterim interim interims o.each;
              final = o.final;
              few = subst (IsWithin L.interims) (let e : before + length (interim ∷ interims) ≡ before + 1 + length interims = omega arith in e) o.few;
              spelled = (each.1, s.1, each.3, s.3, refl);
            };
            behind = behind;
            items = refl;
            joined = refl;
          };
          items = items;
          joined = refl;
        },
      );
    }

pub status_to : (L : Bounds) (form : Form) (before : ℕ) (q : List Item) (t : Text) → ResponseRest L form before q t → NumberThen parts.Status (AfterStatus L form before q) t
status_to L form before q t y = opening_to L form before y.thing.0 y.thing.1 q y.more t y.text y.rest y.spelled y.behind y.items y.joined

pub status_from : (L : Bounds) (form : Form) (before : ℕ) (q : List Item) (t : Text) → NumberThen parts.Status (AfterStatus L form before q) t → IsWithin L.interims before
    → ResponseRest L form before q t
status_from L form before q t h few = at h.body
  where
    number : Text
    number = mark parts.Status (vi h.number h.width)

    is_number : IsNumber parts.Status h.number number
    is_number = record { width = h.width; fits = h.fits; spelled = refl }

    at : AfterStatus L form before q h.number (byte_count h.width) h.behind → ResponseRest L form before q t
    at (inr f) = record {
      thing = ([], h.number);
      text = number;
      rest = h.behind;
      more = q;
      spelled = record {
        each = All-nil IsInterim;
        final = f.0;
        few = subst (IsWithin L.interims) (let e : before ≡ before + 0 = omega arith in e) few;
        spelled = ([], number, refl, is_number, refl);
      };
      behind = f.1;
      items = refl;
      joined = h.spelled;
    }
    at (inl i) =
        let y = i.2 in
        let z = y.behind in
        let o = z.spelled in
        let s = o.spelled in
        let interim : Interim = record { status = h.number; fields = y.thing } in
        let first : Text = number ++ y.text in
        record {
          thing = (interim ∷ z.thing.0, z.thing.1);
          text = first ++ z.text;
          rest = z.rest;
          more = z.more;
          spelled = record {
            each = All-cons IsInterim interim z.thing.0 (record { number = i.0; fields = y.spelled.1 }) o.each;
            final = o.final;
            few = subst (IsWithin L.interims) (let e : before + 1 + length z.thing.0 ≡ before + length (interim ∷ z.thing.0) = omega arith in e) o.few;
            spelled = (
              first ++ s.0,
              s.1,
              (first, s.0, (number, y.text, is_number, y.spelled.0, refl), s.2, refl),
              s.3,
              ap (λ (x : Text). first ++ x) s.4 ∙ sym (append_assoc first s.0 s.1),
            );
          };
          behind = z.behind;
          items = y.items ∙ ap (λ (x : List Item). interim_item interim ∷ x) z.items;
          joined = h.spelled ∙ ap (λ (x : Text). number ++ x) (y.joined ∙ ap (λ (x : Text). y.text ++ x) z.joined) ∙ sym (append_assoc number y.text (z.text ++ z.rest))
              ∙ sym (append_assoc first z.text z.rest);
        }
