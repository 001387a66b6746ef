-- The trailer section: behind the line end of the last chunk line it ends as a head does, with the first empty line.
use Rattle.std.proofs.Common.{◌≡◌, ◌⊎◌, ◌<◌, ◌≤◌, ◌+◌, arith, ℕ, zero, suc, List, [], ◌∷◌, ◌++◌, length, take, drop, Option, Some, refl, sym, ap, subst, ◌∙◌, append_assoc, append-nil, inl, inr}
use Rattle.std.proofs.lemmas.Bool.{cases_order, cases_lt}
use Rattle.std.proofs.lemmas.List.{length-append, length-take, take_all, take-take, take-append-le, take-append-drop}
use Rattle.std.proofs.Math.Seq.{take-append_seam}
use Rattle.bh_spec.specs.Bounds.{Bounds, IsWithin}
use Rattle.bh_spec.specs.Messages.{Field}
use Rattle.bh_spec.specs.declared.H1Why.{H1Why}
use Rattle.bh_spec.specs.declared.H1Why.TheVariants as why
use Rattle.h1_spec.specs.Grammar.{crlf}
use Rattle.h1_spec.specs.Heads.{IsSection, EndsBlank, EndsAt}
use Rattle.h1_spec.specs.Bodies.{IsTrailerSection}
use Rattle.h1_spec.specs.BodyCauses.{EndsAtOnce, TrailerEndsAt, OfTrailers, Behind}
use Rattle.h1_spec.proofs.Ends.{trailers_end}
use Rattle.h1_spec.proofs.Causes.{drop_seam}
use Rattle.h1_spec.proofs.HeadTexts.{section_front}
use Rattle.h1_spec.specs.Heads.{HoldsNoEnd}
use Rattle.h1_spec.specs.BodyStates.{in_trailers, over, OfRest, nothing_behind, Moves}
use Rattle.h1_spec.proofs.BodyMarks.{trailers_marks, section_marks}
use Rattle.h1_spec.proofs.BodySteps.{moves_by}

-- ---- the same end

take_two : (many : ℕ) (bytes : List ℕ) → take (many + 2) (crlf ++ bytes) ≡ crlf ++ take many bytes
take_two many bytes = let sum : many + 2 ≡ suc (suc many) = omega arith in ap (λ (n : ℕ). take n (crlf ++ bytes)) sum

pub ends_forth : (bytes : List ℕ) (many : ℕ) → TrailerEndsAt bytes many → EndsBlank (take (many + 2) (crlf ++ bytes))
ends_forth bytes many (inl h) =
    ([], take_two many bytes ∙ ap (λ (n : ℕ). crlf ++ take n bytes) h.1 ∙ ap (λ (z : List ℕ). crlf ++ take 2 z) h.0.1)
ends_forth bytes many (inr h) =
    let e = h.1.ends in
    (crlf ++ e.0, take_two many bytes ∙ ap (λ (z : List ℕ). crlf ++ z) e.1)

-- what begins with CR LF
at_once : (bytes : List ℕ) → EndsAtOnce bytes ⊎ (EndsAtOnce bytes → ⊥)
at_once [] = inr (λ h. absurd cc)
at_once (a ∷ []) = inr (λ h. absurd cc)
at_once (a ∷ b ∷ rest) = by_first (cases_order a 13)
  where
    by_second : a ≡ 13 → (b ≡ 10) ⊎ ((b < 10) ⊎ (10 < b)) → EndsAtOnce (a ∷ b ∷ rest) ⊎ (EndsAtOnce (a ∷ b ∷ rest) → ⊥)
    by_second e (inl f) = inl (rest, cc)
    by_second e (inr (inl f)) = inr (λ h. let same : b ≡ 10 = cc in omega (arith, same, f))
    by_second e (inr (inr f)) = inr (λ h. let same : b ≡ 10 = cc in omega (arith, same, f))

    by_first : (a ≡ 13) ⊎ ((a < 13) ⊎ (13 < a)) → EndsAtOnce (a ∷ b ∷ rest) ⊎ (EndsAtOnce (a ∷ b ∷ rest) → ⊥)
    by_first (inl e) = by_second e (cases_order b 10)
    by_first (inr (inl e)) = inr (λ h. let same : a ≡ 13 = cc in omega (arith, same, e))
    by_first (inr (inr e)) = inr (λ h. let same : a ≡ 13 = cc in omega (arith, same, e))

pub ends_back : (bytes : List ℕ) (many : ℕ) → EndsAt (crlf ++ bytes) (many + 2) → TrailerEndsAt bytes many
ends_back bytes many h = at (at_once bytes)
  where
    front : EndsBlank (crlf ++ take many bytes)
    front = subst EndsBlank (take_two many bytes) h.ends

    few : 2 ≤ many
    few = omega (arith, ap (length {A = ℕ}) front.1, length-append front.0 (crlf ++ crlf), length-take many bytes)

    behind : (EndsAtOnce bytes → ⊥) → (before : List ℕ) → crlf ++ take many bytes ≡ before ++ (crlf ++ crlf) → EndsBlank (take many bytes)
    behind n [] e =
        let same : take many bytes ≡ crlf = cc in
        absurd (n (drop many bytes, sym (take-append-drop many bytes) ∙ ap (λ (z : List ℕ). z ++ drop many bytes) same))
    behind n (a ∷ []) e =
        let ten : ◌≡◌ {A = ℕ} 10 13 = cc in
        absurd (omega (arith, ten))
    behind n (a ∷ b ∷ before) e = (before, cc)

    at : EndsAtOnce bytes ⊎ (EndsAtOnce bytes → ⊥) → TrailerEndsAt bytes many
    at (inl once) = inl (
      once,
      elim (cases_lt 2 many) [
        | inl more ↦ absurd (h.first 4 (omega (arith, more)) ([], ap (λ (z : List ℕ). take 4 (crlf ++ z)) once.1))
        | inr le ↦ omega (arith, le, few)
      ],
    )
    at (inr n) = inr (
      n,
      record {
        within = omega (arith, h.within);
        ends = behind n front.0 front.1;
        first = λ fewer less e. h.first (fewer + 2) (omega (arith, less)) (subst EndsBlank (sym (take_two fewer bytes)) (crlf ++ e.0, ap (λ (z : List ℕ). crlf ++ z) e.1));
      },
    )

-- an end stays where it is, whatever follows
pub ends_longer : (y r s : List ℕ) → EndsAt (y ++ r) (length y) → EndsAt (y ++ s) (length y)
ends_longer y r s h = record {
  within = omega (arith, length-append y s);
  ends = subst EndsBlank (take-append_seam y r ∙ sym (take-append_seam y s)) h.ends;
  first = λ fewer less e. h.first fewer less (subst EndsBlank (take-append-le fewer y s (omega (arith, less)) ∙ sym (take-append-le fewer y r (omega (arith, less)))) e);
}

-- an end that wasn't there before stands in what follows
pub ends_later : (seen piece : List ℕ) (n : ℕ) → HoldsNoEnd seen → EndsAt (seen ++ piece) (length seen + n) → 0 < n
ends_later seen piece zero none ends =
    absurd (none (length seen) (subst EndsBlank (ap (λ (n : ℕ). take n (seen ++ piece)) (omega arith) ∙ take-append-le (length seen) seen piece (omega arith)) ends.ends))
ends_later seen piece (suc n) none ends = omega arith

-- what holds no end holds none in its front
pub none_front : (n : ℕ) (z : List ℕ) → HoldsNoEnd z → HoldsNoEnd (take n z)
none_front n z h many e =
    elim (cases_lt n many) [
      | inl more ↦ h n (subst EndsBlank (take_all many (take n z) (omega (arith, more, length-take n z))) e)
      | inr le ↦ h many (subst EndsBlank (take-take many n z le) e)
    ]

-- before the first end there is none
pub none_before : (z : List ℕ) (n k : ℕ) → EndsAt z n → k < n → HoldsNoEnd (take k z)
none_before z n k h less many e =
    elim (cases_lt k many) [
      | inl more ↦ h.first k less (subst EndsBlank (take_all many (take k z) (omega (arith, more, length-take k z))) e)
      | inr le ↦ h.first many (omega (arith, le, less)) (subst EndsBlank (take-take many k z le) e)
    ]

-- ---- steps

pub trailers_on : (L : Bounds) (seen x : List ℕ) → Moves L (in_trailers seen) x [] (in_trailers (seen ++ x))
trailers_on L seen x = moves_by L (in_trailers seen) x [] (in_trailers (seen ++ x)) (record {
  forth = λ found trailers more r. (found, refl, (r.0, (subst (λ (z : List ℕ). IsWithin L.section (length z)) (sym (append_assoc seen x more)) r.1.0, subst (IsSection trailers) (sym (append_assoc seen x more)) r.1.1)));
  back = λ later trailers more r. (r.0, (subst (λ (z : List ℕ). IsWithin L.section (length z)) (append_assoc seen x more) r.1.0, subst (IsSection trailers) (append_assoc seen x more) r.1.1));
  causes = λ behind more cause h. subst (λ (z : List ℕ). OfTrailers L behind z cause) (append_assoc seen x more) h;
  marks = trailers_marks seen x (seen ++ x);
  kind = refl;
})

same_most : (L : Bounds) (a b : ℕ) → L.section ≡ Some a → L.section ≡ Some b → a ≡ b
same_most L a b e f = some_is a b (sym e ∙ f)
  where
    some_is : (a b : ℕ) → Some a ≡ Some b → a ≡ b
    some_is a b e = cc

-- no end is found yet, and more bytes may come
pub trailers_unended : (L : Bounds) (most : ℕ) (seen : List ℕ) → L.section ≡ Some most → HoldsNoEnd (crlf ++ seen) → length (crlf ++ seen) < most + 2 → OfRest L nothing_behind (in_trailers seen) [] why.Ended
trailers_unended L most seen e none room =
    subst (λ (z : List ℕ). OfTrailers L nothing_behind z why.Ended) (sym (append-nil seen)) (inr (inl (
      record {
        short = λ m f. let same = same_most L most m e f in omega (arith, room, same);
        none = λ many h. none (many + 2) (ends_forth seen many h);
      },
      refl,
    )))

-- the first bytes up to the limit hold no end
pub trailers_past : (L : Bounds) (most : ℕ) (bytes after : List ℕ) → L.section ≡ Some most → most + 2 ≤ length (crlf ++ bytes) → HoldsNoEnd (take (most + 2) (crlf ++ bytes))
    → OfTrailers L nothing_behind (bytes ++ after) why.TrailerLimit
trailers_past L most bytes after e long none = inl (
  record {
    most = most;
    limited = e;
    long = omega (arith, long, length-append bytes after);
    none = λ many few h.
        let cut : take (many + 2) (crlf ++ (bytes ++ after)) ≡ take (many + 2) (take (most + 2) (crlf ++ bytes)) =
        take-append-le (many + 2) (crlf ++ bytes) after (omega (arith, few, long)) ∙ sym (take-take (many + 2) (most + 2) (crlf ++ bytes) (omega (arith, few))) in
        none (many + 2) (subst EndsBlank cut (ends_forth (bytes ++ after) many h));
  },
  refl,
)

-- it ends, and is none of field lines
pub trailers_wrong : (L : Bounds) (most : ℕ) (x rest after : List ℕ) → L.section ≡ Some most → EndsAt (crlf ++ (x ++ rest)) (length x + 2) → length x ≤ most
    → ((fields : List Field) → IsSection fields x → ⊥) → OfTrailers L nothing_behind (x ++ after) why.TrailerForm
trailers_wrong L most x rest after e ends fits wrong = inr (inr (record {
  many = length x;
  ends = ends_back (x ++ after) (length x) (subst (EndsAt (crlf ++ (x ++ after))) long (ends_longer (crlf ++ x) rest after (subst (EndsAt (crlf ++ (x ++ rest))) (sym long) ends)));
  within = subst (λ (o : Option ℕ). IsWithin o (length x)) (sym e) fits;
  says = inl (λ fields h. wrong fields (subst (IsSection fields) (take-append_seam x after) h), refl);
}))
  where
    long : length (crlf ++ x) ≡ length x + 2
    long = omega arith

-- behind a whole one
trailers_whole : (L : Bounds) (behind : Behind) (fields : List Field) (x rest : List ℕ) (cause : H1Why) → IsTrailerSection L fields x → behind fields rest cause
    → OfTrailers L behind (x ++ rest) cause
trailers_whole L behind fields x rest cause h says =
    let section : IsSection fields (take (length x) (x ++ rest)) = subst (IsSection fields) (sym (take-append_seam x rest)) h.1 in
    inr (inr (record {
      many = length x;
      ends = trailers_end fields x rest h.1;
      within = h.0;
      says = inr (λ n. n fields section, (fields, section, subst (λ (z : List ℕ). behind fields z cause) (sym (drop_seam x rest)) says));
    }))

-- it ends, and is field lines
pub trailers_over : (L : Bounds) (most : ℕ) (seen x : List ℕ) (fields : List Field) → L.section ≡ Some most → length (seen ++ x) ≤ most → IsSection fields (seen ++ x)
    → Moves L (in_trailers seen) x [] (over fields)
trailers_over L most seen x fields e fits section = moves_by L (in_trailers seen) x [] (over fields) (record {
  forth = λ found trailers more r.
      let both = section_front fields trailers (seen ++ x) (seen ++ (x ++ more)) more [] section r.1.1 (append_assoc seen x more ∙ sym (append-nil (seen ++ (x ++ more)))) in
      (found, refl, (r.0, sym both.0, both.1));
  back = λ later trailers more r.
      let whole : seen ++ x ≡ seen ++ (x ++ more) = ap (λ (z : List ℕ). seen ++ z) (sym (append-nil x) ∙ ap (λ (z : List ℕ). x ++ z) (sym r.2)) in (
        r.0,
        (
          subst (λ (z : List ℕ). IsWithin L.section (length z)) whole (subst (λ (o : Option ℕ). IsWithin o (length (seen ++ x))) (sym e) fits),
          subst (IsSection trailers) whole (subst (λ (fs : List Field). IsSection fs (seen ++ x)) (sym r.1) section),
        ),
      );
  causes = λ behind more cause h.
      subst (λ (z : List ℕ). OfTrailers L behind z cause) (append_assoc seen x more)
      (trailers_whole L behind fields (seen ++ x) more cause (subst (λ (o : Option ℕ). IsWithin o (length (seen ++ x))) (sym e) fits, section) h);
  marks = section_marks seen x fields;
  kind = refl;
})
