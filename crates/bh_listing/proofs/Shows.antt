-- All bytes show one number of bytes of content, and a listing all of its content.
use Rattle.std.proofs.Common.{◌≡◌, ◌≢◌, ◌+◌, inl, inr, ℕ, List, [], ◌∷◌, ◌++◌, map, flat_map, refl, sym, ap, subst, ◌∙◌, append_assoc, append-nil, arith}
use Rattle.std.proofs.lemmas.Bool.{cases_eq}
use Rattle.std.specs.List.{AllByRecursion}
use Rattle.bh_spec.specs.Messages.{Start, request, response, Interim}
use Rattle.bh_spec.specs.Listing.{Line, status, field, trailer, the_end, interim_lines, start_lines, content_lines, lines_of, text_of}
use Rattle.bh_spec.proofs.Listings.{message_fine, texts_avoid, by_texts}
use Rattle.bh_listing.specs.Shown.{spelled_by, spelled_in, HasNoFeed, Shown}
use Rattle.bh_listing.specs.Laws.{SomeShown, ShownOnce, AllShown}
use Rattle.bh_listing.proofs.Outputs.{content_in, content-append, fields_show, trailers_show, content_shows}
use Rattle.bh_listing.proofs.Fronts.{spelled_is, no_feed_in, take_line}

abbrev IsSomeShown : List ℕ → Type 0
IsSomeShown bytes = (count : ℕ) × Shown bytes count

-- one byte more in front
fed : (bytes : List ℕ) (n : ℕ) → Shown bytes n → Shown (10 ∷ bytes) n
fed bytes n s = record { lines = [] ∷ s.lines; rest = s.rest; split = ap (λ (l : List ℕ). 10 ∷ l) s.split; each = (tt, s.each); not_whole = s.not_whole; counts = omega (arith, s.counts) }

in_line : (b : ℕ) (bytes : List ℕ) (n : ℕ) → b ≢ 10 → Shown bytes n → IsSomeShown (b ∷ bytes)
in_line b bytes n other s = by_lines s.lines s.split s.each
  where
    by_lines : (lines : List (List ℕ)) → bytes ≡ flat_map (λ l. l ++ (10 ∷ [])) lines ++ s.rest → AllByRecursion HasNoFeed lines → IsSomeShown (b ∷ bytes)
    by_lines [] e each = (0, record { lines = []; rest = b ∷ s.rest; split = ap (λ (l : List ℕ). b ∷ l) e; each = tt; not_whole = (other, s.not_whole); counts = refl })
    by_lines (l ∷ lines) e each =
        (spelled_in ((b ∷ l) ∷ lines), record { lines = (b ∷ l) ∷ lines; rest = s.rest; split = ap (λ (x : List ℕ). b ∷ x) e; each = ((other, each.0), each.1); not_whole = s.not_whole; counts = refl })

pub some_shown : SomeShown
some_shown [] = (0, record { lines = []; rest = []; split = refl; each = tt; not_whole = tt; counts = refl })
some_shown (b ∷ bytes) =
    let s = some_shown bytes in
    elim (cases_eq b 10) [
      | inl same ↦ subst (λ (x : ℕ). IsSomeShown (x ∷ bytes)) (sym same) (s.0, fed bytes s.0 s.1)
      | inr other ↦ in_line b bytes s.0 other s.1
    ]

once_lines : (lines : List (List ℕ)) (rest bytes : List ℕ) (n : ℕ) → bytes ≡ flat_map (λ l. l ++ (10 ∷ [])) lines ++ rest → AllByRecursion HasNoFeed lines → HasNoFeed rest → Shown bytes n
    → spelled_in lines ≡ n
once_lines [] rest bytes n e each clean s = by_lines s.lines s.split s.counts
  where
    by_lines : (others : List (List ℕ)) → bytes ≡ flat_map (λ l. l ++ (10 ∷ [])) others ++ s.rest → n ≡ spelled_in others → 0 ≡ n
    by_lines [] f counts = sym counts
    by_lines (l ∷ others) f counts =
        let rest_of = flat_map (λ x. x ++ (10 ∷ [])) others in
        absurd (no_feed_in l (rest_of ++ s.rest) (subst HasNoFeed (sym e ∙ f ∙ append_assoc (l ++ (10 ∷ [])) rest_of s.rest ∙ append_assoc l (10 ∷ []) (rest_of ++ s.rest)) clean))
once_lines (l ∷ lines) rest bytes n e each clean s =
    let rest_of = flat_map (λ x. x ++ (10 ∷ [])) lines in
    let next = take_line l (rest_of ++ rest) n each.0 (subst (λ (x : List ℕ). Shown x n) (e ∙ append_assoc (l ++ (10 ∷ [])) rest_of rest ∙ append_assoc l (10 ∷ []) (rest_of ++ rest)) s) in
    let same = once_lines lines rest (rest_of ++ rest) next.0 refl each.1 clean next.1 in
    ap (λ (k : ℕ). spelled_by l + k) same ∙ sym next.2

pub shown_once : ShownOnce
shown_once bytes m n s r = s.counts ∙ once_lines s.lines s.rest bytes n s.split s.each s.not_whole r

-- ---- a listing

lines_spell : (lines : List Line) → spelled_in (map text_of lines) ≡ content_in lines
lines_spell [] = refl
lines_spell (line ∷ lines) = omega (arith, spelled_is line, lines_spell lines)

interims_show : (interims : List Interim) → content_in (flat_map interim_lines interims) ≡ 0
interims_show [] = refl
interims_show (i ∷ interims) = omega (arith, content-append (interim_lines i) (flat_map interim_lines interims), fields_show i.fields, interims_show interims)

start_shows : (a : Start) → content_in (start_lines a) ≡ 0
start_shows (request c) = refl
start_shows (response interims n) = omega (arith, content-append (flat_map interim_lines interims) (status n ∷ []), interims_show interims)

pub all_shown : AllShown
all_shown m valid =
    let end = map trailer m.trailers ++ (the_end ∷ []) in
    let tail = content_lines m.content ++ end in
    let body = map field m.fields ++ tail in
    record {
      lines = map text_of (lines_of m);
      rest = [];
      split = by_texts (lines_of m) ∙ sym (append-nil (flat_map (λ x. x ++ (10 ∷ [])) (map text_of (lines_of m))));
      each = texts_avoid (lines_of m) (message_fine m valid);
      not_whole = tt;
      counts = omega (
        arith,
        lines_spell (lines_of m),
        content-append (start_lines m.start) body,
        start_shows m.start,
        content-append (map field m.fields) tail,
        fields_show m.fields,
        content-append (content_lines m.content) end,
        content_shows m.content,
        content-append (map trailer m.trailers) (the_end ∷ []),
        trailers_show m.trailers,
      );
    }
