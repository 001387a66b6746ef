-- What is known of the states of a reader.
use Rattle.std.proofs.Common.{◌≡◌, ◌⊎◌, ◌≤◌, ℕ, Bool, List, [], ◌∷◌, ◌++◌, refl, sym, ◌∙◌, ap, subst, arith, append_assoc, append-nil, length-append, inl, inr}
use Rattle.bh_spec.specs.Bounds.{Bounds}
use Rattle.bh_spec.specs.Messages.{Field}
use Rattle.bh_spec.specs.Texts.{Text, bytes_of, content_in}
use Rattle.bh_spec.specs.Residuals.{IsResidual}
use Rattle.bh_spec.specs.Items.{Item, start_items}
use Rattle.bh_spec.proofs.Marks.{content-append}
use Rattle.bh_spec.proofs.Residuals.{residual_here, behind_items}
use Rattle.bh_stream.specs.Decoding.{content_items, Leads, DecoderLaws}
use Rattle.bh_stream.proofs.Moving.{items-append, front_of_two}
use Rattle.bh_reading.specs.ReadingLaws.{lines-append, kind-append, room_at}
use Rattle.bh_reading.specs.Readings.{kind_behind}
use Rattle.bh_reading.proofs.Judging.{start_content, tail_content}
use Rattle.h1_spec.specs.Cleaning.{hops, clean, clean_trailers, says_host}
use Rattle.h1_spec.specs.Framing.{framing}
use Rattle.h1_spec.specs.Marks.{as_framing}
use Rattle.h1_spec.specs.BodyStates.{At, start as body_start}
use Rattle.h1_spec.proofs.BodyMarks.{framing_none}
use Rattle.h1_spec.proofs.MarkedBodies.{rest_content}
use Rattle.h1_read.specs.Places.{Setting, Place, in_head, in_body, behind_trailers, left_out, BodyRest, HeadRest, RestFrom, MayCome}
use Rattle.h1_read.specs.Wrong.{WrongFrom}
use Rattle.h1_read.specs.Readings.{View, rest, room, Counts, Goes, Moved, IsReady}

-- ---- counts

-- a text whose bytes are two lists in a row
pub text_of_two : (t : Text) (a b : List ℕ) → bytes_of t ≡ a ++ b → (x y : Text) × (t ≡ x ++ y) × (bytes_of x ≡ a) × (bytes_of y ≡ b)
text_of_two t [] b e = ([], t, refl, refl, e)
text_of_two [] (k ∷ a) b e = absurd (cc)
text_of_two (h ∷ t) (k ∷ a) b e =
    let head : h.1 ≡ k = cc in
    let tail : bytes_of t ≡ a ++ b = cc in
    let r = text_of_two t a b tail in
    (h ∷ r.0, r.1, ap (λ (l : Text). h ∷ l) r.2, (λ i. head i ∷ r.3 i), r.4)

counts_here : (to_head : Bool) (p : Place) → Counts to_head p [] [] p
counts_here to_head p = record { few = few; behind = behind }
  where
    few : (front back : Text) (more : List ℕ) → MayCome to_head p (front ++ back) → [] ≡ bytes_of front ++ more
        → content_in front ≤ content_items []
    few [] back more h e = omega arith
    few (x ∷ front) back more h e = absurd (cc)

    behind : (front back : Text) → MayCome to_head p (front ++ back) → bytes_of front ≡ [] → MayCome to_head p back
    behind [] back h e = h
    behind (x ∷ front) back h e = absurd (cc)

-- one behind the other
counts_behind : (to_head : Bool) (p r s : Place) (x y : List ℕ) (i j : List Item) → Counts to_head p x i r → Counts to_head r y j s
    → Counts to_head p (x ++ y) (i ++ j) s
counts_behind to_head p r s x y i j a b = record { few = few; behind = behind }
  where
    later : (front back one two : Text) → front ≡ one ++ two → MayCome to_head p (front ++ back) → MayCome to_head p (one ++ (two ++ back))
    later front back one two e h =
        subst (MayCome to_head p) (ap (λ (t : Text). t ++ back) e ∙ append_assoc one two back) h

    few : (front back : Text) (more : List ℕ) → MayCome to_head p (front ++ back) → x ++ y ≡ bytes_of front ++ more
        → content_in front ≤ content_items (i ++ j)
    few front back more h e = by_case (front_of_two x y (bytes_of front) more e)
      where
        by_case : ((m : List ℕ) × (x ≡ bytes_of front ++ m)) ⊎ ((mid : List ℕ) × (bytes_of front ≡ x ++ mid) × (y ≡ mid ++ more))
            → content_in front ≤ content_items (i ++ j)
        by_case (inl c) = omega (arith, a.few front back c.0 h c.1, items-append i j)
        by_case (inr c) =
            let cut = text_of_two front x c.0 c.1 in
            let here = later front back cut.0 cut.1 cut.2 h in
            let there = a.behind cut.0 (cut.1 ++ back) here cut.3 in
            omega (
              arith,
              ap content_in cut.2,
              content-append cut.0 cut.1,
              a.few cut.0 (cut.1 ++ back) [] here (sym cut.3 ∙ sym (append-nil (bytes_of cut.0))),
              b.few cut.1 back more there (c.2 ∙ ap (λ (l : List ℕ). l ++ more) (sym cut.4)),
              items-append i j,
            )

    behind : (front back : Text) → MayCome to_head p (front ++ back) → bytes_of front ≡ x ++ y → MayCome to_head s back
    behind front back h e =
        let cut = text_of_two front x y e in
        b.behind cut.1 back (a.behind cut.0 (cut.1 ++ back) (later front back cut.0 cut.1 cut.2 h) cut.3) cut.4

-- ---- steps

pub goes_here : (S : Setting) (p : Place) → Goes S p [] [] p
goes_here S p = record { residual = residual_here (RestFrom S p); wrong = λ more cause h. h; counts = counts_here S.to_head p }

-- one behind the other
pub goes_behind : (S : Setting) (p r s : Place) (x y : List ℕ) (i j : List Item) → Goes S p x i r → Goes S r y j s
    → Goes S p (x ++ y) (i ++ j) s
goes_behind S p r s x y i j a b = record {
  residual = behind_items (RestFrom S p) (RestFrom S r) (RestFrom S s) x y i j a.residual b.residual;
  wrong = λ more cause h.
      subst (λ (z : List ℕ). WrongFrom S p z cause) (sym (append_assoc x y more)) (a.wrong (y ++ more) cause (b.wrong more cause h));
  counts = counts_behind S.to_head p r s x y i j a.counts b.counts;
}

-- ---- content

body_content : (L : Bounds) (named : List (List ℕ)) (at : At) (q : List Item) (t : Text) → BodyRest L named at q t
    → content_in t ≡ content_items q
body_content L named at q t h =
    ap content_in h.text_is ∙ rest_content L at h.content h.trailers h.bytes h.completes
    ∙ sym (ap content_items h.items_are ∙ tail_content h.content (clean_trailers named h.trailers) (left_out at) 0)

head_content : (S : Setting) (n : ℕ) (seen : List ℕ) (q : List Item) (t : Text) → HeadRest S n seen q t
    → content_in t ≡ content_items q
head_content S n seen q t h =
    let own : List Field = clean (hops h.head.fields) (says_host h.start) h.head.fields in
    omega (
      arith,
      ap content_in h.text_is,
      content-append (as_framing h.heads) h.body,
      framing_none h.heads,
      body_content S.limits (hops h.head.fields) (body_start (framing S.to_head h.head)) h.behind h.body h.tail,
      ap content_items h.items_are,
      items-append (start_items h.start own) h.behind,
      start_content h.start own,
    )

content_from : (S : Setting) (p : Place) (q : List Item) (t : Text) → RestFrom S p q t → content_in t ≡ content_items q
content_from S (in_head n seen) q t h = head_content S n seen q t h
content_from S (in_body named at) q t h = body_content S.limits named at q t h
content_from S behind_trailers q t h = ap content_in h.1 ∙ sym (ap content_items h.0)

-- ---- states

leads : (v w : View) (x : List ℕ) (i : List Item) → Moved v x i w → Leads rest room v x i w
leads v w x i m = record {
  residual = subst (λ (S : Setting). IsResidual (rest v) x (λ (q : List Item). i ++ q) (RestFrom S w.place)) (sym m.setting)
      m.goes.residual;
  room_left =
      omega (
        arith,
        room_at v.setting.limits.input m.input.limit v.taken m.input.limit_is,
        room_at w.setting.limits.input m.input.limit w.taken (ap (λ (S : Setting). S.limits.input) m.setting ∙ m.input.limit_is),
        m.taken,
        m.input.few,
      );
}

stays : (v : View) → IsReady v → Moved v [] [] v
stays v r = record {
  input = record { limit = r.input.limit; limit_is = r.input.limit_is; few = omega (arith, r.input.few) };
  goes = goes_here v.setting v.place;
  setting = refl;
  taken = omega arith;
  refused = r.refused;
  kind = refl;
  lines = omega (arith, r.lines);
  content = omega (arith, r.content);
}

pub goes_on : (v w u : View) (x y : List ℕ) (i j : List Item) → Moved v x i w → Moved w y j u → Moved v (x ++ y) (i ++ j) u
goes_on v w u x y i j a b = record {
  input = record {
    limit = b.input.limit;
    limit_is = sym (ap (λ (S : Setting). S.limits.input) a.setting) ∙ b.input.limit_is;
    few = omega (arith, b.input.few, a.taken, length-append x y);
  };
  goes = goes_behind v.setting v.place w.place u.place x y i j a.goes
      (subst (λ (S : Setting). Goes S w.place y j u.place) a.setting b.goes);
  setting = b.setting ∙ a.setting;
  taken = omega (arith, a.taken, b.taken, length-append x y);
  refused = b.refused;
  kind = b.kind ∙ ap (kind_behind j) a.kind ∙ sym (kind-append i j v.kind);
  lines = omega (arith, a.lines, b.lines, lines-append i j);
  content = omega (arith, a.content, b.content, items-append i j);
}

is_ready : (v w : View) (x : List ℕ) (i : List Item) → IsReady v → Moved v x i w → IsReady w
is_ready v w x i r m = record {
  refused = m.refused;
  input = record {
    limit = m.input.limit;
    limit_is = ap (λ (S : Setting). S.limits.input) m.setting ∙ m.input.limit_is;
    few = omega (arith, m.taken, m.input.few);
  };
  lines = omega (arith, m.lines);
  content = omega (arith, m.content);
}

pub http1_reading_laws : DecoderLaws rest room Moved IsReady
http1_reading_laws = record {
  leads = leads;
  stays = stays;
  goes_on = goes_on;
  is_ready = is_ready;
  content = λ v q t h. content_from v.setting v.place q t h;
}
