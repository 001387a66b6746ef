-- Whole bodies have one answer, and what is written is read back.
use Rattle.std.proofs.Common.{◌≡◌, ◌⊎◌, ℕ, List, ◌++◌, length, take, drop, Option, Some, None, Ok, Err, refl, sym, ap, subst, ◌∙◌, inl, inr}
use Rattle.std.specs.Prelude.{flat_map}
use Rattle.std.specs.List.{concat}
use Rattle.std.proofs.lemmas.List.{length-take-le, take-append-drop}
use Rattle.bh_spec.specs.Bounds.{Bounds}
use Rattle.bh_spec.specs.declared.H1Why.{H1Why}
use Rattle.h1_spec.specs.declared.Framing1.{Framing1}
use Rattle.h1_spec.specs.declared.Framing1.TheVariants.{Empty, Counted, Chunked, ToEnd}
use Rattle.h1_spec.specs.Http1Text.{chunk_text}
use Rattle.h1_spec.specs.Written.{last_text}
use Rattle.h1_spec.specs.Bodies.{IsBody}
use Rattle.h1_spec.specs.BodyCauses.{OfBody}
use Rattle.h1_spec.specs.BodyStates.{nothing_behind}
use Rattle.h1_spec.proofs.Causes.{body_once}
use Rattle.h1_spec.proofs.BodyFronts.{one_in_front, none_behind_body, written_is_body}
use Rattle.h1_body.specs.declared.whole.Body1.{Body1}
use Rattle.h1_body.specs.declared.whole.BodyWhy.TheVariants as why
use Rattle.h1_body.specs.Whole.{IsBodyRead}
use Rattle.h1_body.specs.Laws.{AreSame, OneAnswer, ReadBack}

-- limits with this bound of a section
abbrev bound : Option ℕ → Bounds
bound section = record { part = None; section = section; interims = None; input = None }

to_end_or_not : (framing : Framing1) → (framing ≡ ToEnd) ⊎ (framing ≡ ToEnd → ⊥)
to_end_or_not Empty = inr (λ e. absurd cc)
to_end_or_not (Counted n) = inr (λ e. absurd cc)
to_end_or_not Chunked = inr (λ e. absurd cc)
to_end_or_not ToEnd = inl refl

-- behind a body that was read nothing is wrong
none_wrong : (section : Option ℕ) (framing : Framing1) (bytes : List ℕ) (a : Body1) → IsBodyRead section framing bytes a
    → ((cause : H1Why) → ((L : Bounds) → L.section ≡ section → OfBody L framing nothing_behind bytes cause) → ⊥)
none_wrong section framing bytes a h cause wrong =
    let L : Bounds = bound section in
    none_behind_body L framing a.content a.trailers.lines (take a.taken bytes) (drop a.taken bytes) cause (h.is L refl)
    (subst (λ (z : List ℕ). OfBody L framing nothing_behind z cause) (sym (take-append-drop a.taken bytes)) (wrong L refl))

both_to_end : (section : Option ℕ) (bytes : List ℕ) (a b : Body1) → IsBodyRead section ToEnd bytes a → IsBodyRead section ToEnd bytes b → AreSame a b
both_to_end section bytes a b h k =
    let L : Bounds = bound section in
    let p = h.is L refl in
    let q = k.is L refl in
    let taken : a.taken ≡ b.taken = h.all refl ∙ sym (k.all refl) in
    record {
      content = sym p.1 ∙ ap (λ (n : ℕ). take n bytes) taken ∙ q.1;
      trailers = p.0 ∙ sym q.0;
      taken = taken;
    }

both_read : (section : Option ℕ) (framing : Framing1) (bytes : List ℕ) (a b : Body1) → IsBodyRead section framing bytes a → IsBodyRead section framing bytes b → AreSame a b
both_read section framing bytes a b h k =
    elim (to_end_or_not framing) [
      | inl e ↦ both_to_end section bytes a b (subst (λ (f : Framing1). IsBodyRead section f bytes a) e h) (subst (λ (f : Framing1). IsBodyRead section f bytes b) e k)
      | inr n ↦
          let L : Bounds = bound section in
          let one = one_in_front L framing a.content b.content a.trailers.lines b.trailers.lines (take a.taken bytes) (drop a.taken bytes) (take b.taken bytes) (drop b.taken bytes) n
          (h.is L refl) (k.is L refl) (take-append-drop a.taken bytes ∙ sym (take-append-drop b.taken bytes)) in
          record {
            content = one.1;
            trailers = one.2;
            taken = sym (length-take-le a.taken bytes h.inside) ∙ ap (length {A = ℕ}) one.0 ∙ length-take-le b.taken bytes k.inside;
          }
    ]

pub one_answer : OneAnswer
one_answer section framing bytes (Ok a) (Ok b) h k = both_read section framing bytes a b h k
one_answer section framing bytes (Ok a) (Err (why.Refused d)) h k = none_wrong section framing bytes a h d k
one_answer section framing bytes (Ok a) (Err why.NoMemory) h k = tt
one_answer section framing bytes (Err (why.Refused c)) (Ok b) h k = none_wrong section framing bytes b k c h
one_answer section framing bytes (Err (why.Refused c)) (Err (why.Refused d)) h k =
    let L : Bounds = bound section in
    body_once L nothing_behind framing bytes c d (λ fs rest x y. absurd x) (h L refl) (k L refl)
one_answer section framing bytes (Err (why.Refused c)) (Err why.NoMemory) h k = tt
one_answer section framing bytes (Err why.NoMemory) (Ok b) h k = tt
one_answer section framing bytes (Err why.NoMemory) (Err (why.Refused d)) h k = tt
one_answer section framing bytes (Err why.NoMemory) (Err why.NoMemory) h k = tt

pub read_back : ReadBack
read_back section chunks trailers rest (Ok body) pieces fields within h =
    let L : Bounds = bound (Some section) in
    let text : List ℕ = flat_map chunk_text chunks ++ last_text trailers in
    let is : IsBody L Chunked (concat chunks) trailers text = written_is_body L chunks trailers pieces fields within in
    let one = one_in_front L Chunked body.content (concat chunks) body.trailers.lines trailers (take body.taken (text ++ rest)) (drop body.taken (text ++ rest)) text rest (λ e. absurd cc)
    (h.is L refl) is (take-append-drop body.taken (text ++ rest)) in
    (one.1, one.2, sym (length-take-le body.taken (text ++ rest) h.inside) ∙ ap (length {A = ℕ}) one.0)
read_back section chunks trailers rest (Err (why.Refused cause)) pieces fields within h =
    let L : Bounds = bound (Some section) in
    absurd (none_behind_body L Chunked (concat chunks) trailers (flat_map chunk_text chunks ++ last_text trailers) rest cause (written_is_body L chunks trailers pieces fields within) (h L refl))
read_back section chunks trailers rest (Err why.NoMemory) pieces fields within h = refl
