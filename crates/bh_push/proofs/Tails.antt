-- Behind the head: what completes a message there is content, trailer section and padding, as far as they aren't left out.
use Rattle.std.proofs.Common.{◌≡◌, ◌+◌, ℕ, List, [], ◌∷◌, ◌++◌, map, All, refl, sym, ap, ap₂, subst, ◌∙◌, append-nil, inl, inr, arith}
use Rattle.std.proofs.lemmas.List.Elements.{All-nil, All-head, All-tail, All-cons}
use Rattle.std.specs.List.{concat}
use Rattle.bh_spec.specs.declared.Form.{Form}
use Rattle.bh_spec.specs.declared.Form.TheVariants.{Known, Indeterminate}
use Rattle.bh_spec.specs.declared.Omitted.{Omitted}
use Rattle.bh_spec.specs.declared.Omitted.TheVariants.{Nothing, Trailers, Both}
use Rattle.bh_spec.specs.Bounds.{Bounds}
use Rattle.bh_spec.specs.Bytes.{AreBytes}
use Rattle.bh_spec.specs.Messages.{Field, AreTrailers, IsRegularField}
use Rattle.bh_spec.specs.Texts.{Text}
use Rattle.bh_spec.specs.Tails.{IsBody, IsTail}
use Rattle.bh_spec.specs.Items.{Item, content_byte, trailer_section, ending, tail_items}
use Rattle.bh_push.specs.Completing.{AfterContent, BodyRest, TailRest}
use Rattle.bh_push.proofs.Contents.{IsByte, bytes_behind, bytes_joined}

-- ---- chunks of bytes

pub bytes_front : (x y : List ℕ) → AreBytes (x ++ y) → AreBytes x
bytes_front [] y h = All-nil IsByte
bytes_front (b ∷ x) y h = All-cons IsByte b x (All-head IsByte b (x ++ y) h) (bytes_front x y (All-tail IsByte b (x ++ y) h))

each_bytes : (chunks : List (List ℕ)) → AreBytes (concat chunks) → All AreBytes chunks
each_bytes [] h = All-nil AreBytes
each_bytes (chunk ∷ chunks) h =
    All-cons AreBytes chunk chunks (bytes_front chunk (concat chunks) h) (each_bytes chunks (bytes_behind chunk (concat chunks) h))

all_bytes : (chunks : List (List ℕ)) → All AreBytes chunks → AreBytes (concat chunks)
all_bytes [] h = All-nil IsByte
all_bytes (chunk ∷ chunks) h =
    bytes_joined chunk (concat chunks) (All-head AreBytes chunk chunks h) (all_bytes chunks (All-tail AreBytes chunk chunks h))

-- ---- the content

body_yields : (L : Bounds) (form : Form) (content : List ℕ) (x y : Text) (q : List Item) → AreBytes content → IsBody form content x → AfterContent L form q y
    → BodyRest L form (map content_byte content ++ q) (x ++ y)
body_yields L Known content x y q small body behind = record {
  thing = content;
  text = x;
  rest = y;
  more = q;
  spelled = record { bytes_are = small; spelled = body };
  behind = behind;
  items = refl;
  joined = refl;
}
body_yields L Indeterminate content x y q small body behind = record {
  thing = body.0;
  text = x;
  rest = y;
  more = q;
  spelled = record { nonempty = body.2; bytes_are = each_bytes body.0 (subst AreBytes (sym body.1) small); spelled = body.3 };
  behind = behind;
  items = ap (λ (z : List ℕ). map content_byte z ++ q) (sym body.1);
  joined = refl;
}

record BodyIs (L : Bounds) (form : Form) (q : List Item) (t : Text) : Type 0 where
  content : List ℕ
  text : Text
  rest : Text
  more : List Item
  small : AreBytes content
  body : IsBody form content text
  behind : AfterContent L form more rest
  items : q ≡ map content_byte content ++ more
  joined : t ≡ text ++ rest

body_is : (L : Bounds) (form : Form) (q : List Item) (t : Text) → BodyRest L form q t → BodyIs L form q t
body_is L Known q t y = record {
  content = y.thing;
  text = y.text;
  rest = y.rest;
  more = y.more;
  small = y.spelled.bytes_are;
  body = y.spelled.spelled;
  behind = y.behind;
  items = y.items;
  joined = y.joined;
}
body_is L Indeterminate q t y = record {
  content = concat y.thing;
  text = y.text;
  rest = y.rest;
  more = y.more;
  small = all_bytes y.thing y.spelled.bytes_are;
  body = (y.thing, refl, y.spelled.nonempty, y.spelled.spelled);
  behind = y.behind;
  items = y.items;
  joined = y.joined;
}

-- ---- the tail

pub none_before : (n : ℕ) → 0 + n ≡ n
none_before n = omega arith

-- t is a tail of these items
pub record TailOf (L : Bounds) (form : Form) (q : List Item) (t : Text) : Type 0 where
  pub content : List ℕ
  pub trailers : List Field
  pub omitted : Omitted
  pub padding : ℕ
  pub bytes : AreBytes content
  pub valid : AreTrailers trailers
  pub items : q ≡ tail_items content trailers omitted padding
  pub spelled : IsTail L form content trailers omitted padding t

pub tail_to : (L : Bounds) (form : Form) (content : List ℕ) (trailers : List Field) (omitted : Omitted) (padding : ℕ) (t : Text) → AreBytes content → AreTrailers trailers
    → IsTail L form content trailers omitted padding t → TailRest L form (tail_items content trailers omitted padding) t
tail_to L form content trailers Nothing padding t small valid h =
    subst (TailRest L form (tail_items content trailers Nothing padding)) (sym h.4)
    (inr (body_yields L form content h.0 h.1 (trailer_section trailers ∷ ending Nothing padding ∷ []) small h.2
    (inr (record {
      thing = trailers;
      text = h.3.0;
      rest = h.3.1;
      more = ending Nothing padding ∷ [];
      spelled = (h.3.2, valid);
      behind = (padding, ap (λ (z : ℕ). ending Nothing z ∷ []) (sym (none_before padding)), h.3.3);
      items = refl;
      joined = h.3.4;
    }))))
tail_to L form content trailers Trailers padding t small valid h =
    subst (λ (z : ℕ). TailRest L form (map content_byte content ++ ending Trailers z ∷ []) t) (sym h.1)
    (subst (TailRest L form (map content_byte content ++ ending Trailers 0 ∷ [])) (append-nil t)
    (inr (body_yields L form content t [] (ending Trailers 0 ∷ []) small h.2 (inl (refl, refl)))))
tail_to L form content trailers Both padding t small valid h =
    inl (ap₂ (λ (c : List ℕ) (z : ℕ). map content_byte c ++ ending Both z ∷ []) h.0 h.2, h.3)

pub tail_from : (L : Bounds) (form : Form) (q : List Item) (t : Text) → TailRest L form q t → TailOf L form q t
tail_from L form q t (inl h) = record {
  content = [];
  trailers = [];
  omitted = Both;
  padding = 0;
  bytes = All-nil IsByte;
  valid = All-nil IsRegularField;
  items = h.0;
  spelled = (refl, refl, refl, h.1);
}
tail_from L form q t (inr h) = at (body_is L form q t h)
  where
    at : BodyIs L form q t → TailOf L form q t
    at b = on b.behind
      where
        on : AfterContent L form b.more b.rest → TailOf L form q t
        on (inl e) = record {
          content = b.content;
          trailers = [];
          omitted = Trailers;
          padding = 0;
          bytes = b.small;
          valid = All-nil IsRegularField;
          items = b.items ∙ ap (λ (z : List Item). map content_byte b.content ++ z) e.0;
          spelled = (refl, refl, subst (IsBody form b.content) (sym (b.joined ∙ ap (λ (z : Text). b.text ++ z) e.1 ∙ append-nil b.text)) b.body);
        }
        on (inr y) = record {
          content = b.content;
          trailers = y.thing;
          omitted = Nothing;
          padding = y.behind.0;
          bytes = b.small;
          valid = y.spelled.1;
          items = b.items ∙ ap (λ (z : List Item). map content_byte b.content ++ z) (y.items ∙ ap (λ (z : List Item). trailer_section y.thing ∷ z) (y.behind.1 ∙ ap (λ (n : ℕ). ending Nothing n ∷ []) (none_before y.behind.0)));
          spelled = (b.text, b.rest, b.body, (y.text, y.rest, y.spelled.0, y.behind.2, y.joined), b.joined);
        }
