-- Messages that continue the bytes that lead to a state.
use Rattle.std.proofs.Common.{◌≡◌, ℕ, List, [], ◌∷◌, ◌++◌, map, refl, sym, ap, ◌∙◌, append_assoc, arith}
use Rattle.std.proofs.lemmas.List.{same_from_push}
use Rattle.bh_spec.specs.declared.Omitted.{Omitted}
use Rattle.bh_spec.specs.Bounds.{Bounds}
use Rattle.bh_spec.specs.Messages.{Field, Interim, Start, request, response, Message}
use Rattle.bh_spec.specs.Texts.{Text, content_in}
use Rattle.bh_spec.specs.Spelling.{Spells}
use Rattle.bh_spec.specs.Items.{Item, of_response, head, content_byte, ending, start_items, trailer_items, items}
use Rattle.bh_spec.proofs.Marks.{content-append}
use Rattle.bh_push.specs.Completing.{interim_item}
use Rattle.bh_push.specs.Decoders.{At, Rest, in_framing}
use Rattle.bh_push.specs.Standing.{Comes}
use Rattle.bh_push.proofs.Starting.{start_is}
use Rattle.bh_stream.specs.Decoding.{content_items}
use Rattle.bh_stream.proofs.Moving.{items-append}
use Rattle.bh_reading.specs.ContentLaws.{content_of_rest}

pub record Continued (L : Bounds) (i q : List Item) (text t : Text) : Type 0 where
  pub message : Message
  pub omitted : Omitted
  pub padding : ℕ
  pub items_are : i ++ q ≡ items message omitted padding
  pub spells : Spells L message omitted padding (text ++ t)

pub continued : (L : Bounds) (bytes : List ℕ) (i : List Item) (w : At) (c : Comes L (in_framing []) bytes i w) (q : List Item) (t : Text) → Rest L w q t → Continued L i q c.within.text t
continued L bytes i w c q t r =
    let h = start_is.forth L (i ++ q) (c.within.text ++ t) (c.within.back q t r) in
    record { message = h.0; omitted = h.1; padding = h.2; items_are = h.3; spells = h.4 }

-- its last item, and those before it
pub ends_so : (m : Message) (o o' : Omitted) (z z' : ℕ) (xs : List Item) → xs ++ ending o' z' ∷ [] ≡ items m o z
    → (xs ≡ start_items m.start m.fields ++ (map content_byte m.content ++ trailer_items o m.trailers)) × (ending o' z' ≡ ending o z)
ends_so m o o' z z' xs e =
    let front = start_items m.start m.fields ++ (map content_byte m.content ++ trailer_items o m.trailers) in
    let all : items m o z ≡ front ++ ending o z ∷ [] =
    ap (λ (x : List Item). start_items m.start m.fields ++ x) (sym (append_assoc (map content_byte m.content) (trailer_items o m.trailers) (ending o z ∷ [])))
    ∙ sym (append_assoc (start_items m.start m.fields) (map content_byte m.content ++ trailer_items o m.trailers) (ending o z ∷ [])) in
    same_from_push xs front (ending o' z') (ending o z) (e ∙ all)

pub ends_with : (m : Message) (o o' : Omitted) (z z' : ℕ) (xs : List Item) → xs ++ ending o' z' ∷ [] ≡ items m o z → (o ≡ o') × (z ≡ z')
ends_with m o o' z z' xs e =
    let last = (ends_so m o o' z z' xs e).1 in
    (let a : o ≡ o' = cc in a, let b : z ≡ z' = cc in b)

pub ends_front : (m : Message) (o o' : Omitted) (z z' : ℕ) (xs : List Item) → xs ++ ending o' z' ∷ [] ≡ items m o z
    → xs ≡ start_items m.start m.fields ++ (map content_byte m.content ++ trailer_items o m.trailers)
ends_front m o o' z z' xs e = (ends_so m o o' z z' xs e).0

-- how much content the bytes have
pub content_so_far : (L : Bounds) (bytes : List ℕ) (i : List Item) (w : At) (c : Comes L (in_framing []) bytes i w) → content_in c.within.text ≡ content_items i
content_so_far L bytes i w c =
    let a = c.goes_on in
    let q = a.spelled.0 in
    omega (
      arith,
      content_of_rest L (in_framing []) (i ++ q) (c.within.text ++ a.text) (c.within.back q a.text a.spelled.1),
      content_of_rest L w q a.text a.spelled.1,
      content-append c.within.text a.text,
      items-append i q,
    )

-- the start of a message has no content
pub start_count : (start : Start) (fields : List Field) → content_items (start_items start fields) ≡ 0
start_count (request c) fields = refl
start_count (response is status) fields = omega (arith, items-append (map interim_item is) (head (of_response status) fields ∷ []), none is)
  where
    none : (is : List Interim) → content_items (map interim_item is) ≡ 0
    none [] = refl
    none (i ∷ is) = none is
