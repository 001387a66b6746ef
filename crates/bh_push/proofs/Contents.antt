-- Content: from one phase to the next.
use Rattle.std.proofs.Common.{◌≡◌, ◌<◌, ◌+◌, ◌⊎◌, ℕ, List, [], ◌∷◌, ◌++◌, length, map, refl, sym, ap, ap₂, subst, ◌∙◌, append_assoc, append-nil, inl, inr, arith}
use Rattle.std.proofs.lemmas.List.{length-append, map-append, append_cancel_left}
use Rattle.std.proofs.lemmas.List.Elements.{All-nil, All-head, All-tail, All-cons}
use Rattle.std.specs.List.{concat}
use Rattle.bh_spec.specs.declared.Allowed.{Allowed}
use Rattle.bh_spec.specs.declared.Part.{Part}
use Rattle.bh_spec.specs.declared.Part.TheVariants as parts
use Rattle.bh_spec.specs.declared.Form.{Form}
use Rattle.bh_spec.specs.declared.Form.TheVariants.{Known, Indeterminate}
use Rattle.bh_spec.specs.declared.Width.{Width}
use Rattle.bh_spec.specs.Integers.{vi, limit_of, byte_count}
use Rattle.bh_spec.specs.Bounds.{Bounds}
use Rattle.bh_spec.specs.Bytes.{AreBytes}
use Rattle.bh_spec.specs.Texts.{Text, mark, bytes_of, IsNumber}
use Rattle.bh_spec.proofs.Marks.{mark-append, mark-snoc, marked_bytes, unmark}
use Rattle.bh_varint.specs.Step.{IsWhole, IsUnfinished}
use Rattle.bh_varint.proofs.Reading.{front_unfinished}
use Rattle.bh_varint.specs.Numbers.{NumberThen}
use Rattle.bh_varint.proofs.Numbers.{number_to, number_from}
use Rattle.bh_spec.specs.Residuals.{HasRest, IsResidual, IsStep}
use Rattle.bh_spec.specs.Items.{Item, content_byte}
use Rattle.bh_push.specs.Completing.{ContentOf, Chunks, AfterContent, BodyRest, AfterRun, ContentRest}
use Rattle.bh_push.specs.Decoders.{length_part}

-- ---- a length is a number, and then what it says

-- behind the length of the content, or of a chunk
abbrev pub AfterLength : Bounds → Form → List Item → ℕ → ℕ → Text → Type 0
AfterLength L Known q n width t = ContentRest L Known n q t
AfterLength L Indeterminate q n width t = ((n ≡ 0) × AfterContent L Indeterminate q t) ⊎ ((0 < n) × ContentRest L Indeterminate n q t)

known_to : (L : Bounds) (q : List Item) (t : Text) → BodyRest L Known q t → NumberThen parts.ContentLength (AfterLength L Known q) t
known_to L q t y =
    let s = y.spelled.spelled in
    let run = mark parts.Content y.thing in
    record {
      number = length y.thing;
      width = s.2.width;
      behind = run ++ y.rest;
      fits = s.2.fits;
      spelled = y.joined ∙ ap (λ (z : Text). z ++ y.rest) (s.4 ∙ ap₂ (λ (u v : Text). u ++ v) s.2.spelled s.3) ∙ append_assoc (mark parts.ContentLength (vi (length y.thing) s.2.width)) run y.rest;
      body = record {
        thing = y.thing;
        text = run;
        rest = y.rest;
        more = y.more;
        spelled = record { length_is = refl; bytes_are = y.spelled.bytes_are; spelled = refl };
        behind = y.behind;
        items = y.items;
        joined = refl;
      };
    }

known_from : (L : Bounds) (q : List Item) (t : Text) → NumberThen parts.ContentLength (AfterLength L Known q) t → BodyRest L Known q t
known_from L q t h =
    let y = h.body in
    let number = mark parts.ContentLength (vi h.number h.width) in
    record {
      thing = y.thing;
      text = number ++ y.text;
      rest = y.rest;
      more = y.more;
      spelled = record {
        bytes_are = y.spelled.bytes_are;
        spelled = (
          number,
          y.text,
          subst (λ (k : ℕ). IsNumber parts.ContentLength k number) (sym y.spelled.length_is) (record { width = h.width; fits = h.fits; spelled = refl }),
          y.spelled.spelled,
          refl,
        );
      };
      behind = y.behind;
      items = y.items;
      joined = h.spelled ∙ ap (λ (z : Text). number ++ z) y.joined ∙ sym (append_assoc number y.text y.rest);
    }

chunks_to : (L : Bounds) (q : List Item) (t : Text) → BodyRest L Indeterminate q t → NumberThen parts.ChunkLength (AfterLength L Indeterminate q) t
chunks_to L q t y = at y.thing y.spelled y.behind y.items
  where
    at : (chunks : List (List ℕ)) → Chunks chunks y.text → AfterContent L Indeterminate y.more y.rest → q ≡ map content_byte (concat chunks) ++ y.more
        → NumberThen parts.ChunkLength (AfterLength L Indeterminate q) t
    at [] c behind items =
        let s = c.spelled in
        record {
          number = 0;
          width = s.3.width;
          behind = y.rest;
          fits = s.3.fits;
          spelled = y.joined ∙ ap (λ (z : Text). z ++ y.rest) (s.4 ∙ ap (λ (u : Text). u ++ s.1) s.2 ∙ s.3.spelled);
          body = inl (refl, subst (λ (p : List Item). AfterContent L Indeterminate p y.rest) (sym items) behind);
        }
    at (chunk ∷ chunks) c behind items =
        let s = c.spelled in
        let each = s.2 in
        let first = each.2 in
        let number = mark parts.ChunkLength (vi (length chunk) first.2.width) in
        let run = mark parts.Content chunk in
        let rest : Text = (each.1 ++ s.1) ++ y.rest in
        record {
          number = length chunk;
          width = first.2.width;
          behind = run ++ rest;
          fits = first.2.fits;
          spelled = y.joined ∙ ap (λ (z : Text). z ++ y.rest) (s.4 ∙ ap (λ (z : Text). z ++ s.1) (each.4 ∙ ap (λ (z : Text). z ++ each.1) (first.4 ∙ ap₂ (λ (u v : Text). u ++ v) first.2.spelled first.3))
              ∙ append_assoc (number ++ run) each.1 s.1) ∙ append_assoc (number ++ run) (each.1 ++ s.1) y.rest ∙ append_assoc number run rest;
          body = inr (
            All-head (λ (x : List ℕ). 0 < length x) chunk chunks c.nonempty,
            record {
              thing = chunk;
              text = run;
              rest = rest;
              more = map content_byte (concat chunks) ++ y.more;
              spelled = record { length_is = refl; bytes_are = All-head AreBytes chunk chunks c.bytes_are; spelled = refl };
              behind = record {
                thing = chunks;
                text = each.1 ++ s.1;
                rest = y.rest;
                more = y.more;
                spelled = record {
                  nonempty = All-tail (λ (x : List ℕ). 0 < length x) chunk chunks c.nonempty;
                  bytes_are = All-tail AreBytes chunk chunks c.bytes_are;
                  spelled = (each.1, s.1, each.3, s.3, refl);
                };
                behind = behind;
                items = refl;
                joined = refl;
              };
              items = items ∙ ap (λ (z : List Item). z ++ y.more) (map-append content_byte chunk (concat chunks)) ∙ append_assoc (map content_byte chunk) (map content_byte (concat chunks)) y.more;
              joined = refl;
            },
          );
        }

chunks_from : (L : Bounds) (q : List Item) (t : Text) → NumberThen parts.ChunkLength (AfterLength L Indeterminate q) t → BodyRest L Indeterminate q t
chunks_from L q t h = at h.body
  where
    number : Text
    number = mark parts.ChunkLength (vi h.number h.width)

    at : AfterLength L Indeterminate q h.number (byte_count h.width) h.behind → BodyRest L Indeterminate q t
    at (inl e) = record {
      thing = [];
      text = number;
      rest = h.behind;
      more = q;
      spelled = record {
        nonempty = All-nil _;
        bytes_are = All-nil _;
        spelled = ([], number, refl, subst (λ (k : ℕ). IsNumber parts.ChunkLength k number) e.0 (record { width = h.width; fits = h.fits; spelled = refl }), refl);
      };
      behind = e.1;
      items = refl;
      joined = h.spelled;
    }
    at (inr g) =
        let y = g.1 in
        let z = y.behind in
        let s = z.spelled.spelled in
        let first : Text = number ++ y.text in
        record {
          thing = y.thing ∷ z.thing;
          text = first ++ z.text;
          rest = z.rest;
          more = z.more;
          spelled = record {
            nonempty = All-cons (λ (x : List ℕ). 0 < length x) y.thing z.thing (omega (arith, g.0, y.spelled.length_is)) z.spelled.nonempty;
            bytes_are = All-cons AreBytes y.thing z.thing y.spelled.bytes_are z.spelled.bytes_are;
            spelled = (
              first ++ s.0,
              s.1,
              (
                first,
                s.0,
                (
                  number,
                  y.text,
                  subst (λ (k : ℕ). IsNumber parts.ChunkLength k number) (sym y.spelled.length_is) (record { width = h.width; fits = h.fits; spelled = refl }),
                  y.spelled.spelled,
                  refl,
                ),
                s.2,
                refl,
              ),
              s.3,
              ap (λ (x : Text). first ++ x) s.4 ∙ sym (append_assoc first s.0 s.1),
            );
          };
          behind = z.behind;
          items = y.items ∙ ap (λ (x : List Item). map content_byte y.thing ++ x) z.items ∙ sym (append_assoc (map content_byte y.thing) (map content_byte (concat z.thing)) z.more)
              ∙ ap (λ (x : List Item). x ++ z.more) (sym (map-append content_byte y.thing (concat z.thing)));
          joined = h.spelled ∙ ap (λ (x : Text). number ++ x) (y.joined ∙ ap (λ (x : Text). y.text ++ x) z.joined) ∙ sym (append_assoc number y.text (z.text ++ z.rest))
              ∙ sym (append_assoc first z.text z.rest);
        }

pub body_to : (L : Bounds) (form : Form) (q : List Item) (t : Text) → BodyRest L form q t → NumberThen (length_part form) (AfterLength L form q) t
body_to L Known q t h = known_to L q t h
body_to L Indeterminate q t h = chunks_to L q t h

pub body_from : (L : Bounds) (form : Form) (q : List Item) (t : Text) → NumberThen (length_part form) (AfterLength L form q) t → BodyRest L form q t
body_from L Known q t h = known_from L q t h
body_from L Indeterminate q t h = chunks_from L q t h

-- ---- the bytes of a length

same_part : (a b : Part) (x y : ℕ) (t u : Text) → (a, x) ∷ t ≡ (b, y) ∷ u → a ≡ b
same_part a b x y t u e =
    let p : Part × ℕ = (a, x) in
    let q : Part × ℕ = (b, y) in
    let pair : p ≡ q = cc in
    ap (λ (z : Part × ℕ). z.0) pair

-- a number that goes on has its part next
pub begun_part : (part : Part) (n : ℕ) (w : Width) (behind : Text) (begun : List ℕ) (other : Part) (byte : ℕ) (t : Text) → IsUnfinished begun → n < limit_of w
    → mark part begun ++ ((other, byte) ∷ t) ≡ mark part (vi n w) ++ behind → other ≡ part
begun_part part n w behind begun other byte t un fits e =
    let front = front_unfinished begun (byte ∷ bytes_of t) (bytes_of behind) n w un fits
    (sym (marked_bytes part (vi n w) behind) ∙ sym (ap bytes_of e) ∙ marked_bytes part begun ((other, byte) ∷ t)) in
    at front.0 front.1 front.2
  where
    at : (rest : List ℕ) → vi n w ≡ begun ++ rest → byte ∷ bytes_of t ≡ rest ++ bytes_of behind → other ≡ part
    at [] f g = absurd (un.none n w [] fits (append-nil _ ∙ f ∙ append-nil begun))
    at (x ∷ rest) f g =
        let all : mark part begun ++ ((other, byte) ∷ t) ≡ mark part begun ++ ((part, x) ∷ (mark part rest ++ behind)) =
        e ∙ ap (λ (z : List ℕ). mark part z ++ behind) f ∙ ap (λ (z : Text). z ++ behind) (mark-append part begun (x ∷ rest)) ∙ append_assoc (mark part begun) (mark part (x ∷ rest)) behind in
        let same : (other, byte) ∷ t ≡ (part, x) ∷ (mark part rest ++ behind) = append_cancel_left (mark part begun) ((other, byte) ∷ t) ((part, x) ∷ (mark part rest ++ behind)) all in
        same_part other part byte x t (mark part rest ++ behind) same

-- Rest (in_length form begun), written out
abbrev pub LengthRest : Bounds → Form → List ℕ → List Item → Text → Type 0
LengthRest L form begun q t = BodyRest L form q (mark (length_part form) begun ++ t)

pub length_part_is : (L : Bounds) (form : Form) (begun : List ℕ) → IsUnfinished begun → (q : List Item) (other : Part) (byte : ℕ) (t : Text)
    → LengthRest L form begun q ((other, byte) ∷ t) → other ≡ length_part form
length_part_is L form begun un q other byte t r =
    let h = body_to L form q (mark (length_part form) begun ++ ((other, byte) ∷ t)) r in
    begun_part (length_part form) h.number h.width h.behind begun other byte t un h.fits h.spelled

-- a byte of a length
pub length_more : (L : Bounds) (form : Form) (begun : List ℕ) (byte : ℕ) → IsUnfinished begun
    → IsStep (LengthRest L form begun) (length_part form) byte (λ q. q) (LengthRest L form (begun ++ byte ∷ []))
length_more L form begun byte un = record {
  part_is = λ q other t r. length_part_is L form begun un q other byte t r;
  forth = λ q t r. (q, refl, subst (BodyRest L form q) (sym (mark-snoc (length_part form) begun byte t)) r);
  back = λ q t r. subst (BodyRest L form q) (mark-snoc (length_part form) begun byte t) r;
}

-- the last byte of a length
pub length_whole : (L : Bounds) (form : Form) (set : Allowed) (begun : List ℕ) (byte n : ℕ) (w : Width) → IsUnfinished begun → IsWhole set (begun ++ byte ∷ []) n w
    → IsStep (LengthRest L form begun) (length_part form) byte (λ q. q) (λ q t. AfterLength L form q n (byte_count w) t)
length_whole L form set begun byte n w un whole = record {
  part_is = λ q other t r. length_part_is L form begun un q other byte t r;
  forth = λ q t r. (
    q,
    refl,
    number_to (length_part form) (AfterLength L form q) set (begun ++ byte ∷ []) n w t whole
        (subst (NumberThen (length_part form) (AfterLength L form q)) (sym (mark-snoc (length_part form) begun byte t))
        (body_to L form q (mark (length_part form) begun ++ ((length_part form, byte) ∷ t)) r)),
  );
  back = λ q t r. body_from L form q (mark (length_part form) begun ++ ((length_part form, byte) ∷ t))
      (subst (NumberThen (length_part form) (AfterLength L form q)) (mark-snoc (length_part form) begun byte t)
      (number_from (length_part form) (AfterLength L form q) set (begun ++ byte ∷ []) n w t whole r));
}

-- ---- the bytes of content

cut_run : (x : List ℕ) (m : ℕ) (content more y : List ℕ) → length content ≡ length x + m → content ++ y ≡ x ++ more → (later : List ℕ) × (content ≡ x ++ later) × (length later ≡ m)
cut_run [] m content more y long e = (content, refl, omega (arith, long))
cut_run (b ∷ x) m [] more y long e = absurd (omega (arith, long))
cut_run (b ∷ x) m (c ∷ content) more y long e =
    let head : c ≡ b = cc in
    let tail : content ++ y ≡ x ++ more = cc in
    let r = cut_run x m content more y (omega (arith, long)) tail in
    (r.0, ap₂ (λ (p : ℕ) (q : List ℕ). p ∷ q) head r.1, r.2)

abbrev pub IsByte : ℕ → Type 0
IsByte byte = byte < 256

pub bytes_behind : (x y : List ℕ) → AreBytes (x ++ y) → AreBytes y
bytes_behind [] y h = h
bytes_behind (b ∷ x) y h = bytes_behind x y (All-tail IsByte b (x ++ y) h)

pub bytes_joined : (x y : List ℕ) → AreBytes x → AreBytes y → AreBytes (x ++ y)
bytes_joined [] y h k = k
bytes_joined (b ∷ x) y h k = All-cons IsByte b (x ++ y) (All-head IsByte b x h) (bytes_joined x y (All-tail IsByte b x h) k)

-- bytes of content are yielded, one for one
pub content_run : (L : Bounds) (form : Form) (x : List ℕ) (m : ℕ) → AreBytes x
    → IsResidual (ContentRest L form (length x + m)) x (λ q. map content_byte x ++ q) (ContentRest L form m)
content_run L form x m small = record {
  text = mark parts.Content x;
  same = unmark parts.Content x;
  forth = forth;
  back = λ q t y. record {
    thing = x ++ y.thing;
    text = mark parts.Content x ++ y.text;
    rest = y.rest;
    more = y.more;
    spelled = record {
      length_is = length-append x y.thing ∙ ap (λ (k : ℕ). length x + k) y.spelled.length_is;
      bytes_are = bytes_joined x y.thing small y.spelled.bytes_are;
      spelled = ap (λ (z : Text). mark parts.Content x ++ z) y.spelled.spelled ∙ sym (mark-append parts.Content x y.thing);
    };
    behind = y.behind;
    items = ap (λ (z : List Item). map content_byte x ++ z) y.items ∙ sym (append_assoc (map content_byte x) (map content_byte y.thing) y.more)
        ∙ ap (λ (z : List Item). z ++ y.more) (sym (map-append content_byte x y.thing));
    joined = ap (λ (z : Text). mark parts.Content x ++ z) y.joined ∙ sym (append_assoc (mark parts.Content x) y.text y.rest);
  };
}
  where
    forth : (q : List Item) (u : Text) (more : List ℕ) → ContentRest L form (length x + m) q u → bytes_of u ≡ x ++ more
        → HasRest (λ p. map content_byte x ++ p) (ContentRest L form m) (mark parts.Content x) q u
    forth q u more y e =
        let all : y.thing ++ bytes_of y.rest ≡ x ++ more =
        sym (marked_bytes parts.Content y.thing y.rest) ∙ sym (ap (λ (z : Text). bytes_of (z ++ y.rest)) y.spelled.spelled) ∙ sym (ap bytes_of y.joined) ∙ e in
        let c = cut_run x m y.thing more (bytes_of y.rest) y.spelled.length_is all in
        let run : y.text ≡ mark parts.Content x ++ mark parts.Content c.0 = y.spelled.spelled ∙ ap (mark parts.Content) c.1 ∙ mark-append parts.Content x c.0 in
        record {
          thing = map content_byte c.0 ++ y.more;
          rest = mark parts.Content c.0 ++ y.rest;
          spelled = record {
            thing = c.0;
            text = mark parts.Content c.0;
            rest = y.rest;
            more = y.more;
            spelled = record { length_is = c.2; bytes_are = bytes_behind x c.0 (subst AreBytes c.1 y.spelled.bytes_are); spelled = refl };
            behind = y.behind;
            items = refl;
            joined = refl;
          };
          same = y.items ∙ ap (λ (z : List ℕ). map content_byte z ++ y.more) c.1 ∙ ap (λ (z : List Item). z ++ y.more) (map-append content_byte x c.0)
              ∙ append_assoc (map content_byte x) (map content_byte c.0) y.more;
          joined = y.joined ∙ ap (λ (z : Text). z ++ y.rest) run ∙ append_assoc (mark parts.Content x) (mark parts.Content c.0) y.rest;
        }

-- with no byte missing, what stands behind the run follows
pub run_over : (L : Bounds) (form : Form) (q : List Item) (t : Text) → ContentRest L form 0 q t → AfterRun L form q t
run_over L form q t y = at y.thing y.spelled y.items
  where
    at : (bytes : List ℕ) → ContentOf 0 bytes y.text → q ≡ map content_byte bytes ++ y.more → AfterRun L form q t
    at (b ∷ bytes) c e = absurd (omega (arith, c.length_is))
    at [] c e =
        subst (λ (p : List Item). AfterRun L form p t) (sym e)
        (subst (AfterRun L form y.more) (sym (y.joined ∙ ap (λ (z : Text). z ++ y.rest) c.spelled)) y.behind)

pub over_run : (L : Bounds) (form : Form) (q : List Item) (t : Text) → AfterRun L form q t → ContentRest L form 0 q t
over_run L form q t r = record {
  thing = [];
  text = [];
  rest = t;
  more = q;
  spelled = record { length_is = refl; bytes_are = All-nil _; spelled = refl };
  behind = r;
  items = refl;
  joined = refl;
}

-- a length of 0: content of known length is over, and so are chunks
pub none_follows : (L : Bounds) (form : Form) (width : ℕ) (q : List Item) (t : Text) → AfterLength L form q 0 width t → AfterContent L form q t
none_follows L Known width q t h = run_over L Known q t h
none_follows L Indeterminate width q t (inl e) = e.1
none_follows L Indeterminate width q t (inr g) = absurd (omega (arith, g.0))

pub follows_none : (L : Bounds) (form : Form) (width : ℕ) (q : List Item) (t : Text) → AfterContent L form q t → AfterLength L form q 0 width t
follows_none L Known width q t h = over_run L Known q t h
follows_none L Indeterminate width q t h = inl (refl, h)

-- another length: so many bytes are missing
pub some_follow : (L : Bounds) (form : Form) (n width : ℕ) → 0 < n → (q : List Item) (t : Text) → AfterLength L form q n width t → ContentRest L form n q t
some_follow L Known n width some q t h = h
some_follow L Indeterminate n width some q t (inl e) = absurd (omega (arith, e.0))
some_follow L Indeterminate n width some q t (inr g) = g.1

pub follow_some : (L : Bounds) (form : Form) (n width : ℕ) → 0 < n → (q : List Item) (t : Text) → ContentRest L form n q t → AfterLength L form q n width t
follow_some L Known n width some q t h = h
follow_some L Indeterminate n width some q t h = inr (some, h)
