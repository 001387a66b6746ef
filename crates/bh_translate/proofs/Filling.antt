-- A message whose content goes on until it has a text: the bytes that a counted body lacks are zeros, and there are no trailers.
use Rattle.std.proofs.Common.{◌≡◌, ◌≤◌, ◌<◌, ◌+◌, ◌-◌, arith, ℕ, zero, suc, Bool, false, cond, not, nat_eq, List, [], ◌∷◌, ◌++◌, map, flat_map, length, Some, None, refl, sym, ap, subst, ◌∙◌, append_assoc, append-nil, length-append, inl, inr}
use Rattle.std.proofs.lemmas.Bool.{ltb-false, le-ltb}
use Rattle.std.proofs.lemmas.List.{map-append}
use Rattle.std.proofs.lemmas.List.Elements.{All-nil, All-cons, All-append}
use Rattle.bh_spec.specs.Bytes.{AreBytes}
use Rattle.bh_spec.specs.Messages.{Field, Interim, Start, request, response, Message, IsRegularField, IsWeb, IsValid}
use Rattle.bh_spec.specs.Texts.{Text}
use Rattle.bh_spec.specs.Items.{Item, interim_response, head, content_byte, trailer_section, of_response, start_items}
use Rattle.bh_stream.specs.Logs.{Begins}
use Rattle.bh_stream.specs.Outputs.{weighed}
use Rattle.bh_stream.proofs.Outputs.{weighed-append}
use Rattle.h1_spec.specs.declared.Framing1.{Framing1}
use Rattle.h1_spec.specs.declared.Framing1.TheVariants.{Empty, Counted, Chunked, ToEnd}
use Rattle.h1_spec.specs.declared.Scheme1.{Scheme1}
use Rattle.h1_spec.specs.declared.Scheme1.TheVariants.{Http, Https}
use Rattle.h1_spec.specs.Cleaning.{hops, clean_trailers, clean_message}
use Rattle.h1_spec.specs.Framing.{lengths, is_bodyless}
use Rattle.h1_spec.specs.Http1Text.{Case, of_interim, of_head, of_body, no_form, framing_by, framing_written, interims_text, head_text}
use Rattle.h1_spec.specs.Laws.{IsSchemeOf}
use Rattle.h1_spec.specs.Marks.{as_content, as_framing, marked_body, marked_text}
use Rattle.h1_spec.specs.Moments.{announced, of_byte, of_trailers}
use Rattle.h1_spec.proofs.Agreeing.{written_announced, body_parts, byte_rule}
use Rattle.h1_spec.proofs.Cases.{AreFree, free_none, none_free, free_append}
use Rattle.h1_spec.proofs.Forth.{is_web_of}
use Rattle.h1_spec.proofs.Kept.{lengths_kept}
use Rattle.h1_judge.specs.Courses.{Course, start_course, AreFree as Free}

-- ---- content that has room

-- so many bytes may be content
abbrev pub HasRoom : Framing1 → ℕ → Type 0
HasRoom Empty n = n ≡ 0
HasRoom (Counted field) n = n ≤ field
HasRoom Chunked n = Unit {0}
HasRoom ToEnd n = Unit {0}

-- so many are lacking behind them
abbrev pub lacking : Framing1 → ℕ → ℕ
lacking Empty n = 0
lacking (Counted field) n = field - n
lacking Chunked n = 0
lacking ToEnd n = 0

bytes_free : (f : Framing1) (n : ℕ) → HasRoom f n → AreFree (byte_rule f n)
bytes_free Empty n h = (ap (λ (k : ℕ). not (nat_eq k 0)) h, tt)
bytes_free (Counted field) n h = (le-ltb field n h, tt)
bytes_free Chunked n h = tt
bytes_free ToEnd n h = tt

body_free : (f : Framing1) (content : List ℕ) (trailers : List Field) → HasRoom f (length content) → AreFree (of_trailers f (length content) trailers)
    → AreFree (of_body f content trailers)
body_free f content trailers h k = subst AreFree (sym (body_parts f content trailers)) (free_append (byte_rule f (length content)) (of_trailers f (length content) trailers) (bytes_free f (length content) h) k)

-- no rule holds of a message by its head, its content and its trailers
pub has_form : (to_head : Bool) (m : Message) → AreFree (of_head m.start m.fields) → HasRoom (announced to_head m.start m.fields) (length m.content)
    → AreFree (of_trailers (announced to_head m.start m.fields) (length m.content) (clean_trailers (hops m.fields) m.trailers)) → no_form to_head m ≡ None
has_form to_head m before room behind =
    let f : Framing1 = announced to_head m.start m.fields in
    let ts : List Field = clean_trailers (hops m.fields) m.trailers in
    let written : List Case = of_body (framing_written to_head (clean_message m)) m.content ts in
    free_none (of_head m.start m.fields ++ written)
    (free_append (of_head m.start m.fields) written before
    (none_free written (written_announced to_head m ∙ free_none (of_body f m.content ts) (body_free f m.content ts room behind))))

-- ---- the message whose content goes on

abbrev pub zeros : ℕ → List ℕ
zeros zero = []
zeros (suc n) = 0 ∷ zeros n

zeros_long : (n : ℕ) → length (zeros n) ≡ n
zeros_long zero = refl
zeros_long (suc n) = ap suc (zeros_long n)

zeros_bytes : (n : ℕ) → AreBytes (zeros n)
zeros_bytes zero = All-nil (λ (byte : ℕ). byte < 256)
zeros_bytes (suc n) = All-cons (λ (byte : ℕ). byte < 256) 0 (zeros n) (omega arith) (zeros_bytes n)

-- with this content, and what is lacking
abbrev pub filled : Bool → Message → List ℕ → Message
filled to_head m content = record {
  start = m.start;
  fields = m.fields;
  content = content ++ zeros (lacking (announced to_head m.start m.fields) (length content));
  trailers = [];
}

filled_long : (f : Framing1) (content : List ℕ) → length (content ++ zeros (lacking f (length content))) ≡ length content + lacking f (length content)
filled_long f content = length-append content (zeros (lacking f (length content))) ∙ ap (λ (n : ℕ). length content + n) (zeros_long (lacking f (length content)))

has_room : (f : Framing1) (n : ℕ) → HasRoom f n → HasRoom f (n + lacking f n)
has_room Empty n h = omega (arith, h)
has_room (Counted field) n h = omega (arith, h)
has_room Chunked n h = tt
has_room ToEnd n h = tt

end_free : (f : Framing1) (n : ℕ) → AreFree (of_trailers f (n + lacking f n) [])
end_free Empty n = (refl, (refl, tt))
end_free (Counted field) n = (refl, (le-ltb (n + (field - n)) field (omega arith), (refl, tt)))
end_free Chunked n = (refl, tt)
end_free ToEnd n = (refl, tt)

pub filled_form : (to_head : Bool) (m : Message) (content : List ℕ) → AreFree (of_head m.start m.fields) → HasRoom (announced to_head m.start m.fields) (length content)
    → no_form to_head (filled to_head m content) ≡ None
filled_form to_head m content before room =
    let f : Framing1 = announced to_head m.start m.fields in
    let long = sym (filled_long f content) in
    has_form to_head (filled to_head m content) before
    (subst (HasRoom f) long (has_room f (length content) room))
    (subst (λ (n : ℕ). AreFree (of_trailers f n [])) long (end_free f (length content)))

pub filled_valid : (to_head : Bool) (m : Message) (content : List ℕ) → IsValid m → AreBytes content → IsValid (filled to_head m content)
filled_valid to_head m content valid bytes =
    let n : ℕ = lacking (announced to_head m.start m.fields) (length content) in
    record {
      start = valid.start;
      fields = valid.fields;
      content = All-append (λ (byte : ℕ). byte < 256) content (zeros n) bytes (zeros_bytes n);
      trailers = All-nil IsRegularField;
    }

-- a scheme of the caller for which it is read
pub some_scheme : (a : Start) (fields : List Field) → AreFree (of_head a fields) → (scheme : Scheme1) × IsSchemeOf a scheme
some_scheme (request c) fields h = by_case (is_web_of c.scheme h.1.0)
  where
    by_case : IsWeb c.scheme → (scheme : Scheme1) × IsSchemeOf (request c) scheme
    by_case (inl e) = (Http, λ none. e)
    by_case (inr e) = (Https, λ none. e)
some_scheme (response interims status) fields h = (Http, tt)

-- ---- its text goes on

by_values : (vs ws : List (List ℕ)) (bare : Bool) (n : ℕ) → ws ≡ vs → framing_by vs false ≡ Counted n → framing_by ws bare ≡ Counted n
by_values [] ws bare n e h = absurd cc
by_values (v ∷ vs) ws bare n e h = ap (λ (values : List (List ℕ)). framing_by values bare) e ∙ h

counted_by : (to_head : Bool) (a : Start) (fields content : _) (trailers : List Field) (n : ℕ) → let m : Message = record { start = a; fields = fields; content = content; trailers = trailers } in
    announced to_head a fields ≡ Counted n → framing_written to_head (clean_message m) ≡ Counted n
counted_by to_head (request c) fields content trailers n h =
    by_values (lengths fields) _ _ n (lengths_kept fields fields _) h
counted_by to_head (response interims status) fields content trailers n h =
    ap (λ (values : List (List ℕ)). cond (is_bodyless to_head status) Empty (framing_by values false)) (lengths_kept fields fields false) ∙ h

counted_text : (to_head : Bool) (m : Message) (n : ℕ) → announced to_head m.start m.fields ≡ Counted n
    → marked_text to_head (clean_message m) ≡ as_framing (interims_text (clean_message m).start ++ head_text (Counted n) (clean_message m)) ++ as_content m.content
counted_text to_head m n h =
    let c : Message = clean_message m in
    ap (λ (f : Framing1). as_framing (interims_text c.start ++ head_text f c) ++ marked_body f c) (counted_by to_head m.start m.fields m.content m.trailers n h)

message_is : (a : Start) (fields : List Field) (content others : List ℕ) (trailers none : List Field) → content ≡ others → trailers ≡ none
    → let m : Message = record { start = a; fields = fields; content = content; trailers = trailers } in
    let n : Message = record { start = a; fields = fields; content = others; trailers = none } in m ≡ n
message_is a fields content others trailers none e f = λ i. record { start = a; fields = fields; content = e i; trailers = f i }

-- A message without trailers: its text begins the one whose content goes on.
pub filled_on : (to_head : Bool) (m : Message) → m.trailers ≡ []
    → Begins (weighed (marked_text to_head (clean_message m))) (weighed (marked_text to_head (clean_message (filled to_head m m.content))))
filled_on to_head m none = by_framing (announced to_head m.start m.fields) refl
  where
    more : ℕ → List ℕ
    more n = zeros n

    same : lacking (announced to_head m.start m.fields) (length m.content) ≡ 0
        → Begins (weighed (marked_text to_head (clean_message m))) (weighed (marked_text to_head (clean_message (filled to_head m m.content))))
    same e =
        let content : m.content ++ zeros (lacking (announced to_head m.start m.fields) (length m.content)) ≡ m.content = ap (λ (n : ℕ). m.content ++ zeros n) e ∙ append-nil m.content in
        let all = message_is m.start m.fields (m.content ++ zeros (lacking (announced to_head m.start m.fields) (length m.content))) m.content [] m.trailers content (sym none) in
        record { rest = []; split = ap (λ (n : Message). weighed (marked_text to_head (clean_message n))) all ∙ sym (append-nil (weighed (marked_text to_head (clean_message m)))) }

    by_framing : (f : Framing1) → announced to_head m.start m.fields ≡ f → Begins (weighed (marked_text to_head (clean_message m))) (weighed (marked_text to_head (clean_message (filled to_head m m.content))))
    by_framing Empty e = same (ap (λ (f : Framing1). lacking f (length m.content)) e)
    by_framing Chunked e = same (ap (λ (f : Framing1). lacking f (length m.content)) e)
    by_framing ToEnd e = same (ap (λ (f : Framing1). lacking f (length m.content)) e)
    by_framing (Counted n) e =
        let c : Message = clean_message m in
        let heads : Text = as_framing (interims_text c.start ++ head_text (Counted n) c) in
        let k : ℕ = lacking (announced to_head m.start m.fields) (length m.content) in
        let longer : marked_text to_head (clean_message (filled to_head m m.content)) ≡ marked_text to_head c ++ as_content (zeros k) =
        counted_text to_head (filled to_head m m.content) n e
        ∙ ap (λ (t : Text). heads ++ t) (map-append _ m.content (zeros k)) ∙ sym (append_assoc heads (as_content m.content) (as_content (zeros k)))
        ∙ ap (λ (t : Text). t ++ as_content (zeros k)) (sym (counted_text to_head m n e)) in
        record { rest = weighed (as_content (zeros k)); split = ap weighed longer ∙ weighed-append (marked_text to_head c) (as_content (zeros k)) }

-- ---- by what was judged

-- Of content no rule held, so it has room; and of what follows it none does.
content_room : (f : Framing1) (n : ℕ) (named : List (List ℕ)) (to_head : Bool) (content : List ℕ) → HasRoom f n
    → Free to_head (record { framing = f; counted = n; named = named }) (map content_byte content) → HasRoom f (n + length content)
content_room f n named to_head [] room free = subst (HasRoom f) (omega arith) room
content_room Empty n named to_head (x ∷ content) room free = let some : Some _ ≡ None = free.0 in absurd cc
content_room (Counted field) n named to_head (x ∷ content) room free =
    let small : n + 1 ≤ field = ltb-false field (n + 1) (none_free (of_byte (Counted field) (n + 1)) free.0).0 in
    let more : (n + 1) + length content ≤ field = content_room (Counted field) (n + 1) named to_head content small free.1 in
    omega (arith, more)
content_room Chunked n named to_head (x ∷ content) room free = tt
content_room ToEnd n named to_head (x ∷ content) room free = tt

trailers_room : (f : Framing1) (n : ℕ) (named : List (List ℕ)) (to_head : Bool) (content : List ℕ) (trailers : List Field) → HasRoom f n
    → Free to_head (record { framing = f; counted = n; named = named }) (map content_byte content ++ trailer_section trailers ∷ [])
    → HasRoom f (n + length content) × AreFree (of_trailers f (n + length content) (clean_trailers named trailers))
trailers_room f n named to_head [] trailers room free =
    let same : n ≡ n + 0 = omega arith in
    (subst (HasRoom f) same room, subst (λ (k : ℕ). AreFree (of_trailers f k (clean_trailers named trailers))) same (none_free (of_trailers f n (clean_trailers named trailers)) free.0))
trailers_room Empty n named to_head (x ∷ content) trailers room free = let some : Some _ ≡ None = free.0 in absurd cc
trailers_room (Counted field) n named to_head (x ∷ content) trailers room free =
    let small : n + 1 ≤ field = ltb-false field (n + 1) (none_free (of_byte (Counted field) (n + 1)) free.0).0 in
    let more = trailers_room (Counted field) (n + 1) named to_head content trailers small free.1 in
    let same : (n + 1) + length content ≡ n + suc (length content) = omega arith in
    (subst (HasRoom (Counted field)) same more.0, subst (λ (k : ℕ). AreFree (of_trailers (Counted field) k (clean_trailers named trailers))) same more.1)
trailers_room Chunked n named to_head (x ∷ content) trailers room free = trailers_room Chunked n named to_head content trailers room free.1
trailers_room ToEnd n named to_head (x ∷ content) trailers room free = trailers_room ToEnd n named to_head content trailers room free.1

-- what is known behind a head
abbrev pub headed : Bool → Start → List Field → Course
headed to_head a fields = record { framing = announced to_head a fields; counted = 0; named = hops fields }

interims_free : (to_head : Bool) (interims : List Interim) (status : ℕ) (fields : List Field) (tail : List Item) (c : Course)
    → Free to_head c ((map (λ interim. interim_response interim.status interim.fields) interims ++ head (of_response status) fields ∷ []) ++ tail)
    → AreFree (flat_map of_interim interims) × AreFree (of_head (response [] status) fields) × Free to_head (headed to_head (response [] status) fields) tail
interims_free to_head [] status fields tail c h = (tt, none_free (of_head (response [] status) fields) h.0, h.1)
interims_free to_head (i ∷ interims) status fields tail c h =
    let more = interims_free to_head interims status fields tail _ h.1 in
    (free_append (of_interim i) (flat_map of_interim interims) (none_free (of_interim i) h.0) more.0, more.1, more.2)

pub start_free : (to_head : Bool) (a : Start) (fields : List Field) (tail : List Item) → Free to_head start_course (start_items a fields ++ tail)
    → AreFree (of_head a fields) × Free to_head (headed to_head a fields) tail
start_free to_head (request c) fields tail h = (none_free (of_head (request c) fields) h.0, h.1)
start_free to_head (response interims status) fields tail h =
    let all = interims_free to_head interims status fields tail start_course h in
    (free_append (flat_map of_interim interims) _ all.0 all.1, all.2)

none_at_start : (f : Framing1) → HasRoom f 0
none_at_start Empty = refl
none_at_start (Counted field) = omega arith
none_at_start Chunked = tt
none_at_start ToEnd = tt

-- behind a head
pub room_behind : (to_head : Bool) (a : Start) (fields : List Field) (content : List ℕ) → Free to_head (headed to_head a fields) (map content_byte content)
    → HasRoom (announced to_head a fields) (length content)
room_behind to_head a fields content free =
    let same : 0 + length content ≡ length content = omega arith in
    let f : Framing1 = announced to_head a fields in
    subst (HasRoom f) same (content_room f 0 (hops fields) to_head content (none_at_start f) free)

pub trailers_behind : (to_head : Bool) (a : Start) (fields : List Field) (content : List ℕ) (trailers : List Field)
    → Free to_head (headed to_head a fields) (map content_byte content ++ trailer_section trailers ∷ [])
    → HasRoom (announced to_head a fields) (length content) × AreFree (of_trailers (announced to_head a fields) (length content) (clean_trailers (hops fields) trailers))
trailers_behind to_head a fields content trailers free =
    let same : 0 + length content ≡ length content = omega arith in
    let f : Framing1 = announced to_head a fields in
    let room = trailers_room f 0 (hops fields) to_head content trailers (none_at_start f) free in
    (subst (HasRoom f) same room.0, subst (λ (n : ℕ). AreFree (of_trailers f n (clean_trailers (hops fields) trailers))) same room.1)
