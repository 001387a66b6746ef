-- The content in a front of a listing is in its whole lines.
use Rattle.std.proofs.Common.{◌≡◌, ◌≤◌, ◌+◌, ◌⊎◌, inl, inr, ℕ, List, [], ◌∷◌, ◌++◌, flat_map, map, refl, sym, ap, subst, ◌∙◌, append_assoc, arith}
use Rattle.std.specs.List.{AllByRecursion}
use Rattle.bh_spec.specs.Bounds.{Bounds}
use Rattle.bh_spec.specs.Listing.{Line, a_request, a_response, method, scheme, authority, path, interim, status, field, content, trailer, the_end, text_of, lines_of}
use Rattle.bh_spec.proofs.ListingTexts.{until}
use Rattle.bh_spec.proofs.Listings.{message_fine, texts_avoid}
use Rattle.bh_stream.specs.Outputs.{Output, plain, written, shown_in}
use Rattle.bh_stream.specs.Messages.{items_in, ShowsMessages}
use Rattle.bh_stream.proofs.Outputs.{written-append, written_plain, shown-append, shown_plain}
use Rattle.bh_text.proofs.Digits.{two_each}
use Rattle.bh_listing.specs.Owed.{at_start, content_of, lines_owed, output, owed}
use Rattle.bh_listing.specs.Shown.{spelled_by, spelled_in, HasNoFeed, Shown}
use Rattle.bh_listing.proofs.Owing.{lines_at_start}

pub spelled_is : (line : Line) → spelled_by (text_of line) ≡ content_of line
spelled_is a_request = refl
spelled_is a_response = refl
spelled_is (method m) = refl
spelled_is (scheme s) = refl
spelled_is (authority a) = refl
spelled_is (path p) = refl
spelled_is (interim n) = refl
spelled_is (status n) = refl
spelled_is (field f) = refl
spelled_is (content bytes) = omega (arith, two_each bytes)
spelled_is (trailer f) = refl
spelled_is the_end = refl

-- a front of a list in which y stands is a front of what stands before y, or has y
either_at : {A : Type 0} (xs : List A) (y : A) (ys front back : List A) → xs ++ (y ∷ ys) ≡ front ++ back
    → ((more : List A) × (xs ≡ front ++ more)) ⊎ ((mid : List A) × (front ≡ xs ++ (y ∷ mid)) × (ys ≡ mid ++ back))
either_at xs y ys [] back e = inl (xs, refl)
either_at [] y ys (f ∷ front) back e =
    let head : y ≡ f = cc in
    let tail : ys ≡ front ++ back = cc in
    inr (front, (λ i. (sym head) i ∷ front), tail)
either_at (x ∷ xs) y ys (f ∷ front) back e =
    let head : x ≡ f = cc in
    let tail : xs ++ (y ∷ ys) ≡ front ++ back = cc in
    on head (either_at xs y ys front back tail)
  where
    on : x ≡ f → ((more : List _) × (xs ≡ front ++ more)) ⊎ ((mid : List _) × (front ≡ xs ++ (y ∷ mid)) × (ys ≡ mid ++ back))
        → ((more : List _) × (x ∷ xs ≡ f ∷ front ++ more)) ⊎ ((mid : List _) × (f ∷ front ≡ x ∷ xs ++ (y ∷ mid)) × (ys ≡ mid ++ back))
    on h (inl s) = inl (s.0, λ i. h i ∷ s.1 i)
    on h (inr s) = inr (s.0, (λ i. (sym h) i ∷ s.1 i), s.2)

pub no_feed_in : (x rest : List ℕ) → HasNoFeed (x ++ (10 ∷ rest)) → ⊥
no_feed_in [] rest h = h.0 refl
no_feed_in (b ∷ x) rest h = no_feed_in x rest h.1

-- what is shown behind a whole line
abbrev pub Behind : List ℕ → List ℕ → ℕ → Type 0
Behind line rest n = (k : ℕ) × Shown rest k × (n ≡ spelled_by line + k)

pub take_line : (line rest : List ℕ) (n : ℕ) → HasNoFeed line → Shown (line ++ (10 ∷ rest)) n → Behind line rest n
take_line line rest n clean s = by_lines s.lines s.split s.each s.counts
  where
    by_lines : (lines : List (List ℕ)) → line ++ (10 ∷ rest) ≡ flat_map (λ l. l ++ (10 ∷ [])) lines ++ s.rest → AllByRecursion HasNoFeed lines → n ≡ spelled_in lines → Behind line rest n
    by_lines [] e each counts = absurd (no_feed_in line rest (subst HasNoFeed (sym e) s.not_whole))
    by_lines (l ∷ lines) e each counts =
        let others = flat_map (λ x. x ++ (10 ∷ [])) lines in
        let one = until 10 line l rest (others ++ s.rest) clean each.0
        (e ∙ append_assoc (l ++ (10 ∷ [])) others s.rest ∙ append_assoc l (10 ∷ []) (others ++ s.rest)) in (
          spelled_in lines,
          record { lines = lines; rest = s.rest; split = one.1; each = each.1; not_whole = s.not_whole; counts = refl },
          counts ∙ ap (λ (x : List ℕ). spelled_by x + spelled_in lines) (sym one.0),
        )

in_front : (lines : List Line) → AllByRecursion (λ x. HasNoFeed x) (map text_of lines) → (front more : Output) → output lines ≡ front ++ more → (n : ℕ) → Shown (written front) n → shown_in front ≤ n
in_front [] clean [] more e n s = omega arith
in_front [] clean (f ∷ front) more e n s = absurd (cc)
in_front (line ∷ lines) clean front more e n s = by_case (either_at (plain (text_of line)) (content_of line, 10) (output lines) front more
    (sym (append_assoc (plain (text_of line)) ((content_of line, 10) ∷ []) (output lines)) ∙ e)) (in_front lines clean.1)
  where
    by_case : ((rest : Output) × (plain (text_of line) ≡ front ++ rest)) ⊎ ((mid : Output) × (front ≡ plain (text_of line) ++ ((content_of line, 10) ∷ mid)) × (output lines ≡ mid ++ more)) → ((front more : Output) → output lines ≡ front ++ more → (n : ℕ) → Shown (written front) n → shown_in front ≤ n) → shown_in front ≤ n
    by_case (inl h) before = omega (arith, sym (ap shown_in h.1), shown_plain (text_of line), shown-append front h.0)
    by_case (inr h) before =
        let bytes : written front ≡ text_of line ++ (10 ∷ written h.0) =
        ap written h.1 ∙ written-append (plain (text_of line)) ((content_of line, 10) ∷ h.0) ∙ ap (λ (l : List ℕ). l ++ (10 ∷ written h.0)) (written_plain (text_of line)) in
        let next = take_line (text_of line) (written h.0) n clean.0 (subst (λ (l : List ℕ). Shown l n) bytes s) in
        let inside = before h.0 more h.2 next.0 next.1 in
        omega (arith, inside, next.2, spelled_is line, ap shown_in h.1, shown-append (plain (text_of line)) ((content_of line, 10) ∷ h.0), shown_plain (text_of line))

pub shows_content : (L : Bounds) → ShowsMessages L Shown (owed at_start)
shows_content L s t h front more e n shown =
    let m = s.message in
    let lines : lines_owed at_start (items_in s) ≡ lines_of m = lines_at_start L m s.omitted s.padding t h in
    in_front (lines_of m) (texts_avoid (lines_of m) (message_fine m h.valid)) front more (sym (ap output lines) ∙ e) n shown
