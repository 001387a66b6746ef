-- What completes a message from a place, in few bytes.
use Rattle.std.proofs.Common.{◌≡◌, ◌<◌, ◌≤◌, ◌+◌, arith, ℕ, zero, suc, List, [], ◌∷◌, ◌++◌, length, codes, refl, sym, ap, subst, ◌∙◌, append-nil, inl, inr}
use Rattle.std.specs.List.{concat}
use Rattle.std.proofs.lemmas.List.{length-append}
use Rattle.std.proofs.lemmas.List.Elements.{All-nil, All-cons}
use Rattle.bh_spec.specs.Bounds.{Bounds, IsWithin}
use Rattle.bh_spec.specs.Bytes.{AreBytes}
use Rattle.bh_spec.specs.Messages.{Interim, response}
use Rattle.bh_spec.specs.Canonical.{FieldsFit}
use Rattle.bh_spec.specs.Items.{tail_items, start_items}
use Rattle.bh_spec.proofs.Within.{zero_within, within_less}
use Rattle.bh_model.specs.Ranges.{AreLimits}
use Rattle.bh_stream.specs.Decoding.{IsAlive}
use Rattle.h1_spec.specs.declared.Framing1.{Framing1}
use Rattle.h1_spec.specs.declared.Framing1.TheVariants.{Empty, Counted, Chunked, ToEnd}
use Rattle.h1_spec.specs.Grammar.{crlf}
use Rattle.h1_spec.specs.Heads.{status_line, Head, IsStartLine, IsSection, IsHead}
use Rattle.h1_spec.specs.Http1.{IsInterimHead}
use Rattle.h1_spec.specs.Framing.{framing}
use Rattle.h1_spec.specs.Bodies.{IsChunked}
use Rattle.h1_spec.specs.Written.{last_text}
use Rattle.h1_spec.specs.BodyStates.{At, start as body_start, in_count, to_end, in_line, in_chunk, behind_chunk, behind_cr, in_trailers, over, Rest, marked}
use Rattle.h1_spec.specs.Marks.{as_framing}
use Rattle.h1_spec.proofs.BodyFronts.{written_is_body}
use Rattle.h1_spec.proofs.BodyStarts.{chunked_to}
use Rattle.h1_spec.proofs.Ends.{head_parts}
use Rattle.h1_spec.proofs.Readings.{status_is, status_line_is}
use Rattle.h1_body.specs.Contents.{IsBehindContent}
use Rattle.h1_read.specs.Places.{Setting, in_head, in_body, BodyRest, RestFrom, left_out}
use Rattle.h1_read.proofs.HeadEnds.{next_response}

-- ---- the rest of a body

abbrev zeros : ℕ → List ℕ
zeros zero = []
zeros (suc n) = 0 ∷ zeros n

zeros_long : (n : ℕ) → length (zeros n) ≡ n
zeros_long zero = refl
zeros_long (suc n) = ap suc (zeros_long n)

zeros_are : (n : ℕ) → AreBytes (zeros n)
zeros_are zero = All-nil (λ b. b < 256)
zeros_are (suc n) = All-cons (λ b. b < 256) 0 (zeros n) (omega arith) (zeros_are n)

pub nothing_fits : (L : Bounds) → FieldsFit L []
nothing_fits L = record { names = All-nil _; values = All-nil _; total = zero_within L.section }

-- limits have room for the empty line of a trailer section
room_for_end : (L : Bounds) → AreLimits L → IsWithin L.section 2
room_for_end L h = subst (λ (K : Bounds). IsWithin K.section 2) (sym h.same) (omega (arith, h.range.section_low))

last_is : (L : Bounds) → AreLimits L → IsChunked L [] [] (last_text [])
last_is L h = written_is_body L [] [] (All-nil _) (All-nil _) (room_for_end L h)

completes : (S : Setting) (named : List (List ℕ)) (at : At) (content bytes : List ℕ) → Rest S.limits at content [] bytes → AreBytes content → IsAlive (RestFrom S) (in_body named at)
completes S named at content bytes rest are = (
  tail_items content [] (left_out at) 0,
  marked at bytes,
  record { content = content; trailers = []; bytes = bytes; completes = rest; are = are; fits = nothing_fits S.limits; text_is = refl; items_are = refl },
)

chunk_completes : (S : Setting) (named : List (List ℕ)) (missing : ℕ) → AreLimits S.limits → IsAlive (RestFrom S) (in_body named (in_chunk missing))
chunk_completes S named missing h =
    completes S named (in_chunk missing) (zeros missing ++ []) (zeros missing ++ (crlf ++ last_text []))
    (zeros missing, [], zeros_long missing, refl, (zeros missing, crlf ++ last_text [], refl, (crlf, last_text [], refl, last_is S.limits h, refl), refl))
    (subst AreBytes (sym (append-nil (zeros missing))) (zeros_are missing))

count_completes : (S : Setting) (named : List (List ℕ)) (n : ℕ) → IsAlive (RestFrom S) (in_body named (in_count n))
count_completes S named n = completes S named (in_count n) (zeros n) (zeros n) (zeros_long n, refl, refl) (zeros_are n)

end_completes : (S : Setting) (named : List (List ℕ)) → IsAlive (RestFrom S) (in_body named to_end)
end_completes S named = completes S named to_end [] [] (refl, refl) (All-nil _)

-- Something completes a message behind content.
pub content_alive : (S : Setting) (named : List (List ℕ)) (at : At) → AreLimits S.limits → IsBehindContent at → IsAlive (RestFrom S) (in_body named at)
content_alive S named (in_count n) h b = count_completes S named n
content_alive S named to_end h b = end_completes S named
content_alive S named (in_line state room) h b = absurd b
content_alive S named (in_chunk missing) h b = chunk_completes S named missing h
content_alive S named behind_chunk h b =
    completes S named behind_chunk [] (crlf ++ last_text []) (crlf, last_text [], refl, last_is S.limits h, refl) (All-nil _)
content_alive S named behind_cr h b = absurd b
content_alive S named (in_trailers seen) h b = absurd b
content_alive S named (over found) h b = absurd b

-- and behind a head
pub body_alive : (S : Setting) (named : List (List ℕ)) (f : Framing1) → AreLimits S.limits → IsAlive (RestFrom S) (in_body named (body_start f))
body_alive S named Empty h = count_completes S named 0
body_alive S named (Counted n) h = count_completes S named n
body_alive S named ToEnd h = end_completes S named
body_alive S named Chunked h =
    completes S named (body_start Chunked) [] (last_text []) (chunked_to S.limits [] [] (last_text []) (last_is S.limits h)) (All-nil _)

-- ---- a head

abbrev least_head : Head
least_head = record { start = status_line 200; fields = [] }

abbrev least_text : List ℕ
least_text = (codes "HTTP/1.1 200 " ++ crlf) ++ ([] ++ crlf)

least_is : IsHead least_head least_text
least_is = status_is 200 (codes "HTTP/1.1 200 ") [] [] (status_line_is 200 [] (codes "HTTP/1.1 200 ") (omega arith) (omega arith) (All-nil _) refl) tt

-- No head of a response is shorter than that.
pub interim_long : (L : Bounds) (i : Interim) (x : List ℕ) → IsInterimHead L i x → 17 ≤ length x
interim_long L i x h =
    let p = head_parts h.head x h.text.1 in
    let line : IsStartLine (status_line i.status) p.0 = subst (λ (s : _). IsStartLine s p.0) h.status p.2 in
    let reason = line.2 in
    let end = p.3 in
    omega (
      arith,
      ap (length {A = ℕ}) p.4,
      length-append p.0 (13 ∷ 10 ∷ p.1),
      ap (length {A = ℕ}) reason.2,
      ap (length {A = ℕ}) end.4,
      length-append end.0 end.1,
      ap (length {A = ℕ}) end.3,
    )

-- Something completes a message behind an informational response.
pub heads_alive : (S : Setting) (n : ℕ) → AreLimits S.limits → IsWithin S.limits.section 17 → IsWithin S.limits.interims n → IsAlive (RestFrom S) (in_head n [])
heads_alive S n h room few =
    let body = body_alive S [] (framing S.to_head least_head) h in (
      start_items (response [] 200) [] ++ body.0,
      as_framing least_text ++ body.1,
      record {
        start = response [] 200;
        head = least_head;
        heads = least_text;
        body = body.1;
        behind = body.0;
        text = ([], least_text, refl, (room, least_is), refl);
        says = (refl, omega arith);
        next = next_response n [] 200;
        few = subst (IsWithin S.limits.interims) (omega arith) few;
        coded = inl refl;
        counted = inl refl;
        start_fits = (zero_within S.limits.interims, All-nil _);
        fields_fit = nothing_fits S.limits;
        tail = body.2;
        items_are = refl;
        text_is = refl;
      },
    )
