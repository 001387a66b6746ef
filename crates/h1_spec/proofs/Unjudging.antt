-- A message none of whose bytes is judged, nor its end, has a text.
use Rattle.std.proofs.Common.{◌≡◌, ◌≤◌, ◌+◌, ◌⊎◌, arith, ℕ, zero, suc, Bool, true, false, nat_eq, if◌then◌else◌, List, [], ◌∷◌, ◌++◌, length, None, refl, sym, ap, subst, ◌∙◌, inl, inr, append_assoc, append-nil, length-append}
use Rattle.std.proofs.lemmas.Bool.{le-ltb}
use Rattle.bh_spec.specs.declared.Form.{Form}
use Rattle.bh_spec.specs.declared.Omitted.{Omitted}
use Rattle.bh_spec.specs.declared.Omitted.TheVariants.{Nothing, Trailers, Both}
use Rattle.bh_spec.specs.declared.Part.{Part}
use Rattle.bh_spec.specs.declared.Part.TheVariants as parts
use Rattle.bh_spec.specs.Bounds.{Bounds}
use Rattle.bh_spec.specs.Bytes.{AreBytes}
use Rattle.bh_spec.specs.Messages.{Field, Start, Message, AreTrailers}
use Rattle.bh_spec.specs.Parts.{number_of}
use Rattle.bh_spec.specs.Texts.{Text, bytes_of, content_in}
use Rattle.bh_spec.specs.Tails.{IsBody, IsTail}
use Rattle.bh_spec.proofs.Marks.{bytes_of-append}
use Rattle.bh_spec.proofs.Sections.{body_nonempty}
use Rattle.h1_spec.specs.declared.Framing1.{Framing1}
use Rattle.h1_spec.specs.declared.Framing1.TheVariants.{Empty, Counted, Chunked, ToEnd}
use Rattle.h1_spec.specs.Cleaning.{hops, clean_trailers, clean_message}
use Rattle.h1_spec.specs.Http1Text.{Case, of_head, of_body, framing_written, cases_of}
use Rattle.h1_spec.proofs.Cases.{AreFree, free_none, none_free, free_append}
use Rattle.h1_spec.specs.Moments.{content_read, trailers_ended, announced, of_byte, of_trailers}
use Rattle.h1_spec.specs.Judging.{IsOpening, IsContent, IsClosing, end_says}
use Rattle.h1_spec.specs.Laws.{FreeWhereFormed}
use Rattle.h1_spec.proofs.Agreeing.{written_announced, last_says, body_parts, byte_rule}
use Rattle.h1_spec.proofs.Members.{own, opening, body_all}
use Rattle.h1_spec.proofs.Unjudged.{Unjudged, unjudged, moment_free, opening_free}

-- ---- the n-th byte of content

abbrev pub weight : Part → ℕ
weight part = if nat_eq (number_of part) 18 then 1 else 0

pub content_or_not : (part : Part) → (part ≡ parts.Content) ⊎ (weight part ≡ 0)
content_or_not parts.Framing = inr refl
content_or_not parts.MethodLength = inr refl
content_or_not parts.Method = inr refl
content_or_not parts.SchemeLength = inr refl
content_or_not parts.Scheme = inr refl
content_or_not parts.AuthorityLength = inr refl
content_or_not parts.Authority = inr refl
content_or_not parts.PathLength = inr refl
content_or_not parts.Path = inr refl
content_or_not parts.Status = inr refl
content_or_not parts.SectionLength = inr refl
content_or_not parts.NameLength = inr refl
content_or_not parts.Name = inr refl
content_or_not parts.ValueLength = inr refl
content_or_not parts.Value = inr refl
content_or_not parts.ContentLength = inr refl
content_or_not parts.ChunkLength = inr refl
content_or_not parts.Content = inl refl
content_or_not parts.Padding = inr refl

-- a text, cut behind its n-th byte of content
record Nth (t : Text) (n : ℕ) : Type 0 where
  front : Text
  byte : ℕ
  rest : Text
  split : t ≡ front ++ ((parts.Content, byte) ∷ rest)
  counts : content_in (front ++ (parts.Content, byte) ∷ []) ≡ n

later : (p : Part) (x : ℕ) (t : Text) (n k : ℕ) → weight p + k ≡ n → Nth t k → Nth ((p, x) ∷ t) n
later p x t n k e h = record {
  front = (p, x) ∷ h.front;
  byte = h.byte;
  rest = h.rest;
  split = ap (λ (z : Text). (p, x) ∷ z) h.split;
  counts = omega (arith, e, h.counts);
}

nth : (t : Text) (n : ℕ) → 1 ≤ n → n ≤ content_in t → Nth t n
nth [] n one few = absurd (omega (arith, one, few))
nth ((p, x) ∷ t) zero one few = absurd (omega (arith, one))
nth ((p, x) ∷ t) (suc k) one few = by_part (content_or_not p) k few (λ j h g. nth t j h g)
  where
    by_part : (p ≡ parts.Content) ⊎ (weight p ≡ 0) → (k : ℕ) → suc k ≤ content_in ((p, x) ∷ t) → ((j : ℕ) → 1 ≤ j → j ≤ content_in t → Nth t j) → Nth ((p, x) ∷ t) (suc k)
    by_part (inl e) zero few go = record {
      front = [];
      byte = x;
      rest = t;
      split = ap (λ (q : Part). let z : Part × ℕ = (q, x) in z ∷ t) e;
      counts = refl;
    }
    by_part (inl e) (suc j) few go =
        let one_is : weight p ≡ 1 = ap weight e in
        later p x t (suc (suc j)) (suc j) (omega (arith, one_is)) (go (suc j) (omega arith) (omega (arith, few, one_is)))
    by_part (inr e) k few go = later p x t (suc k) (suc k) (omega (arith, e)) (go (suc k) (omega arith) (omega (arith, few, e)))

-- ---- what isn't judged

long : (t : Text) → length (bytes_of t) ≡ length t
long [] = refl
long (y ∷ t) = ap suc (long t)

-- the last byte of content
pub last_free : (L : Bounds) (to_head : Bool) (bytes : List ℕ) (form : Form) (s : Start) (fs : List Field) (t b : Text) (rest content : List ℕ) → Unjudged L to_head bytes → IsOpening L form s fs t
    → AreBytes content → IsBody form content b → bytes ≡ bytes_of (t ++ b) ++ rest → 1 ≤ length content → AreFree (of_byte (announced to_head s fs) (length content))
last_free L to_head bytes form s fs t b rest content none o are h e some =
    let k : Nth b (length content) = nth b (length content) some (omega (arith, body_all form content b h)) in
    let front : Text = k.front ++ (parts.Content, k.byte) ∷ [] in
    let split : b ≡ front ++ k.rest = k.split ∙ sym (append_assoc k.front ((parts.Content, k.byte) ∷ []) k.rest) in
    let is : IsContent form (length content) front = record {
      front = k.front;
      byte = k.byte;
      ends = refl;
      counts = k.counts;
      content = content;
      bytes_are = are;
      after = k.rest;
      body = subst (IsBody form content) split h;
    } in
    let text : Text = t ++ front in
    let all : bytes ≡ bytes_of text ++ (bytes_of k.rest ++ rest) =
    e ∙ ap (λ (z : Text). bytes_of z ++ rest) (ap (λ (z : Text). t ++ z) split ∙ sym (append_assoc t front k.rest))
    ∙ ap (λ (z : List ℕ). z ++ rest) (bytes_of-append text k.rest) ∙ append_assoc (bytes_of text) (bytes_of k.rest) rest in
    moment_free L to_head bytes (bytes_of text) (bytes_of k.rest ++ rest) (content_read s fs (length content)) none all
    (omega (arith, long text, length-append t front, length-append k.front ((parts.Content, k.byte) ∷ [])))
    (form, record { text = text; spelled = (t, front, o, is, refl); same = refl })

pub rule_of : (f : Framing1) (n : ℕ) → (1 ≤ n → AreFree (of_byte f n)) → AreFree (byte_rule f n)
rule_of Empty zero h = (refl, tt)
rule_of Empty (suc n) h = absurd (let no : true ≡ false = (h (omega arith)).0 in cc)
rule_of (Counted field) zero h = (le-ltb field 0 (omega arith), tt)
rule_of (Counted field) (suc n) h = h (omega arith)
rule_of Chunked n h = tt
rule_of ToEnd n h = tt

no_some : (content : List ℕ) → content ≡ [] → 1 ≤ length content → ⊥
no_some content e h = omega (arith, ap length e, h)

-- the rules of content
pub tail_rules : (L : Bounds) (to_head : Bool) (m : Message) (o : Omitted) (z : ℕ) (bytes : List ℕ) (form : Form) (t tail : Text) → Unjudged L to_head bytes → IsOpening L form m.start m.fields t
    → AreBytes m.content → IsTail L form m.content m.trailers o z tail → bytes ≡ bytes_of t ++ bytes_of tail → AreFree (byte_rule (announced to_head m.start m.fields) (length m.content))
tail_rules L to_head m Nothing z bytes form t tail none opens are h e =
    let body : bytes ≡ bytes_of (t ++ h.0) ++ bytes_of h.1 =
    e ∙ ap (λ (x : List ℕ). bytes_of t ++ x) (ap bytes_of h.4 ∙ bytes_of-append h.0 h.1) ∙ sym (append_assoc (bytes_of t) (bytes_of h.0) (bytes_of h.1))
    ∙ ap (λ (x : List ℕ). x ++ bytes_of h.1) (sym (bytes_of-append t h.0)) in
    rule_of (announced to_head m.start m.fields) (length m.content) (λ some. last_free L to_head bytes form m.start m.fields t h.0 (bytes_of h.1) m.content none opens are h.2 body some)
tail_rules L to_head m Trailers z bytes form t tail none opens are h e =
    let body : bytes ≡ bytes_of (t ++ tail) ++ [] = e ∙ sym (bytes_of-append t tail) ∙ sym (append-nil (bytes_of (t ++ tail))) in
    rule_of (announced to_head m.start m.fields) (length m.content) (λ some. last_free L to_head bytes form m.start m.fields t tail [] m.content none opens are h.2 body some)
tail_rules L to_head m Both z bytes form t tail none opens are h e = rule_of (announced to_head m.start m.fields) (length m.content) (λ some. absurd (no_some m.content h.0 some))

-- the rules of content, and of what stands behind it
tail_free : (L : Bounds) (to_head : Bool) (m : Message) (o : Omitted) (z : ℕ) (bytes : List ℕ) (form : Form) (t tail : Text) → Unjudged L to_head bytes → IsOpening L form m.start m.fields t
    → AreBytes m.content → AreTrailers m.trailers → IsTail L form m.content m.trailers o z tail → bytes ≡ bytes_of t ++ bytes_of tail → end_says to_head m o ≡ None
    → AreFree (byte_rule (announced to_head m.start m.fields) (length m.content)) × AreFree (of_trailers (announced to_head m.start m.fields) (length m.content) (clean_trailers (hops m.fields) m.trailers))
tail_free L to_head m Nothing z bytes form t tail none opens are named h e end =
    let f : Framing1 = announced to_head m.start m.fields in
    let q = h.3 in
    let closing : Text = h.0 ++ q.0 in
    let body : bytes ≡ bytes_of (t ++ h.0) ++ bytes_of h.1 =
    e ∙ ap (λ (x : List ℕ). bytes_of t ++ x) (ap bytes_of h.4 ∙ bytes_of-append h.0 h.1) ∙ sym (append_assoc (bytes_of t) (bytes_of h.0) (bytes_of h.1))
    ∙ ap (λ (x : List ℕ). x ++ bytes_of h.1) (sym (bytes_of-append t h.0)) in
    let all : bytes ≡ bytes_of (t ++ closing) ++ bytes_of q.1 =
    e ∙ ap (λ (x : List ℕ). bytes_of t ++ x) (ap bytes_of (h.4 ∙ ap (λ (x : Text). h.0 ++ x) q.4 ∙ sym (append_assoc h.0 q.0 q.1)) ∙ bytes_of-append closing q.1)
    ∙ sym (append_assoc (bytes_of t) (bytes_of closing) (bytes_of q.1)) ∙ ap (λ (x : List ℕ). x ++ bytes_of q.1) (sym (bytes_of-append t closing)) in
    let is : IsClosing L form (length m.content) m.trailers closing =
    record { content = m.content; counts = refl; bytes_are = are; trailers_are = named; spelled = (h.0, q.0, h.2, q.2, refl) } in (
      rule_of f (length m.content) (λ some. last_free L to_head bytes form m.start m.fields t h.0 (bytes_of h.1) m.content none opens are h.2 body some),
      moment_free L to_head bytes (bytes_of (t ++ closing)) (bytes_of q.1) (trailers_ended m.start m.fields (length m.content) m.trailers) none all
          (omega (arith, long (t ++ closing), length-append t closing, length-append h.0 q.0, body_nonempty form m.content h.0 h.2))
          (form, record { text = t ++ closing; spelled = (t, closing, opens, is, refl); same = refl }),
    )
tail_free L to_head m Trailers z bytes form t tail none opens are named h e end =
    let f : Framing1 = announced to_head m.start m.fields in
    let body : bytes ≡ bytes_of (t ++ tail) ++ [] = e ∙ sym (bytes_of-append t tail) ∙ sym (append-nil (bytes_of (t ++ tail))) in (
      rule_of f (length m.content) (λ some. last_free L to_head bytes form m.start m.fields t tail [] m.content none opens are h.2 body some),
      none_free (of_trailers f (length m.content) (clean_trailers (hops m.fields) m.trailers)) (sym (last_says to_head m Trailers h.0) ∙ end),
    )
tail_free L to_head m Both z bytes form t tail none opens are named h e end =
    let f : Framing1 = announced to_head m.start m.fields in (
      rule_of f (length m.content) (λ some. absurd (no_some m.content h.0 some)),
      none_free (of_trailers f (length m.content) (clean_trailers (hops m.fields) m.trailers)) (sym (last_says to_head m Both (h.0, h.1)) ∙ end),
    )

pub free_where_formed : FreeWhereFormed
free_where_formed L to_head bytes m o z h =
    let a = h.0.message in
    let s = a.1 in
    let none = unjudged L to_head bytes a.0 h.0.none in
    let w = own L m o z bytes s in
    let t : Text = w.number ++ (w.begun ++ w.section) in
    let opens = opening L m o z bytes s w in
    let f : Framing1 = announced to_head m.start m.fields in
    let ts : List Field = clean_trailers (hops m.fields) m.trailers in
    let written : List Case = of_body (framing_written to_head (clean_message m)) m.content ts in
    let heads : AreFree (of_head m.start m.fields) = opening_free L to_head bytes none w.form m.start m.fields t (bytes_of w.tail) opens w.joined in
    let tail = tail_free L to_head m o z bytes w.form t w.tail none opens s.spelled.valid.content s.spelled.valid.trailers w.tail_is w.joined h.1 in
    let parts_free : AreFree (of_body f m.content ts) =
    subst AreFree (sym (body_parts f m.content ts)) (free_append (byte_rule f (length m.content)) (of_trailers f (length m.content) ts) tail.0 tail.1) in
    let body : AreFree written = none_free written (written_announced to_head m ∙ free_none (of_body f m.content ts) parts_free) in
    free_none (cases_of to_head m) (free_append (of_head m.start m.fields) written heads body)
