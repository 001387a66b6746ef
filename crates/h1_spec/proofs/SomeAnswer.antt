-- No input is without an answer: that there is none of either kind leads to a contradiction.
use Rattle.std.proofs.Common.{◌≡◌, ◌⊎◌, ◌<◌, ◌≤◌, ◌+◌, Bool, false, arith, ℕ, zero, suc, List, [], ◌∷◌, ◌++◌, length, take, drop, All, IsTrue, Option, Some, None, codes, refl, sym, ap, subst, ◌∙◌, append_assoc, append-nil, inl, inr}
use Rattle.std.specs.List.{concat}
use Rattle.std.proofs.lemmas.Bool.{cases_lt}
use Rattle.std.proofs.lemmas.List.{length-append, length-drop, length-take-le, take-append-drop, take_all}
use Rattle.std.proofs.lemmas.List.Elements.{All-nil, All-head, All-tail, All-cons, All-append}
use Rattle.bh_spec.specs.declared.H1Why.{H1Why}
use Rattle.bh_spec.specs.declared.H1Why.TheVariants as why
use Rattle.bh_spec.specs.Bounds.{Bounds, IsWithin}
use Rattle.bh_spec.specs.Bytes.{AreBytes, is_blank}
use Rattle.bh_spec.specs.Messages.{Field, Control, Interim, Start, request, response, Message}
use Rattle.bh_spec.specs.Texts.{AreEach}
use Rattle.bh_spec.specs.Canonical.{ControlFits, FieldsFit, StartFits}
use Rattle.bh_spec.proofs.Existing.{none_fit}
use Rattle.bh_spec.proofs.Within.{zero_within}
use Rattle.h1_spec.specs.declared.Framing1.{Framing1}
use Rattle.h1_spec.specs.declared.Framing1.TheVariants.{Empty, Counted, Chunked, ToEnd}
use Rattle.h1_spec.specs.declared.Scheme1.{Scheme1}
use Rattle.h1_spec.specs.Grammar.{crlf}
use Rattle.h1_spec.specs.Heads.{StartLine, request_line, status_line, Head, IsStartLine, IsHead, IsSection, EndsAt}
use Rattle.h1_spec.specs.Cleaning.{hops, clean, clean_trailers, says_host}
use Rattle.h1_spec.specs.Targets.{IsTargetOf, HasHost}
use Rattle.h1_spec.specs.Framing.{IsCoded, IsCounted, framing}
use Rattle.h1_spec.specs.Bodies.{is_hex, IsSize, IsChunkLine, IsChunk, IsTrailerSection, IsBody}
use Rattle.h1_spec.specs.Causes.{Causes, ◌when◌else◌, OfSection}
use Rattle.h1_spec.specs.BodyCauses.{CanBegin, IsLineOf, IsAnyLine, HasBegun, IsDeadAt, OfChunkLine, OfLineEnd, OfChunk, TrailerEndsAt, OfTrailers, OfNextChunk, OfBody}
use Rattle.h1_spec.specs.Http1.{IsInterimHead, interims_of, IsStartOf, IsHttp1}
use Rattle.h1_spec.specs.Translation.{OfExtra, OfEnd, IsNextStart, OfFraming, OfRequest, OfStart, IsCause, read, broken, OfFirst}
use Rattle.h1_spec.specs.Laws.{SomeFrom}
use Rattle.h1_spec.proofs.Ends.{ends_once, trailer_ends_once}
use Rattle.h1_spec.proofs.LaterBytes.{trailer_within, some_bytes}

-- what holds or doesn't may be looked at on the way to a contradiction
pub either : (P : Type 0) → ((P ⊎ (P → ⊥)) → ⊥) → ⊥
either P f = f (inr (λ p. f (inl p)))

-- there is no cause
abbrev Without : Causes → Type 0
Without R = (c : H1Why) → R c → ⊥

not_first : (w : H1Why) (P : Type 0) (R : Causes) → Without (w when P else R) → P → ⊥
not_first w P R f p = f w (inl (p, refl))

others : (w : H1Why) (P : Type 0) (R : Causes) → Without (w when P else R) → Without R
others w P R f c r = f c (inr (not_first w P R f, r))

-- ---- sections

section_has : (Ends : ℕ → Type 0) (limit : Option ℕ) (x : List ℕ) (w : H1Why) (found : List ℕ → List ℕ → Causes)
    → ((j k : ℕ) → Ends j → Ends k → j ≡ k) → ((n : ℕ) → Ends n → n ≤ length x) → Without (OfSection Ends limit x w found)
    → ((n : ℕ) → Ends n → IsWithin limit n → Without (found (take n x) (drop n x)) → ⊥) → ⊥
section_has Ends limit x w found once inside clear stands = some_end (λ n e. by_end n e limit refl)
  where
    unended : ((n : ℕ) → Ends n → ⊥) → ((most : ℕ) → limit ≡ Some most → length x < most) → ⊥
    unended none short = clear why.Ended (inr (inl (record { short = short; none = none }, refl)))

    overlong : (most : ℕ) → limit ≡ Some most → most ≤ length x → ((k : ℕ) → k ≤ most → Ends k → ⊥) → ⊥
    overlong most e long none = clear w (inl (record { most = most; limited = e; long = long; none = none }, refl))

    some_end : ((n : ℕ) → Ends n → ⊥) → ⊥
    some_end none = by_limit limit refl
      where
        by_length : (most : ℕ) → limit ≡ Some most → (length x < most) ⊎ (most ≤ length x) → ⊥
        by_length most e (inl l) = unended none (λ other d. let same : Some most ≡ Some other = sym e ∙ d in let k : most ≡ other = cc in omega (arith, l, k))
        by_length most e (inr l) = overlong most e l (λ k few. none k)

        by_limit : (o : Option ℕ) → limit ≡ o → ⊥
        by_limit None e = unended none (λ other d. absurd (let same : None ≡ Some other = sym e ∙ d in cc))
        by_limit (Some most) e = by_length most e (cases_lt (length x) most)

    by_end : (n : ℕ) → Ends n → (o : Option ℕ) → limit ≡ o → ⊥
    by_end n e None l = stands n e (subst (λ (o : Option ℕ). IsWithin o n) (sym l) tt) (λ c f. clear c (inr (inr (record { many = n; ends = e; within = subst (λ (o : Option ℕ). IsWithin o n) (sym l) tt; says = f }))))
    by_end n e (Some most) l = by_order (cases_lt most n)
      where
        by_order : (most < n) ⊎ (n ≤ most) → ⊥
        by_order (inl h) = overlong most l (omega (arith, h, inside n e)) (λ k few f. let same : k ≡ n = once k n f e in omega (arith, same, few, h))
        by_order (inr h) =
            let within : IsWithin limit n = subst (λ (o : Option ℕ). IsWithin o n) (sym l) h in
            stands n e within (λ c f. clear c (inr (inr (record { many = n; ends = e; within = within; says = f }))))

nothing_left : (n : ℕ) (y : List ℕ) → n ≤ length y → drop n y ≡ [] → (take n y ≡ y) × (length y ≡ n)
nothing_left n y l e =
    (sym (append-nil (take n y)) ∙ ap (λ (z : List ℕ). take n y ++ z) (sym e) ∙ take-append-drop n y, omega (arith, l, ap (length {A = ℕ}) e, length-drop n y))

-- ---- behind a body

end_has : (L : Bounds) (named : List (List ℕ)) (fs : List Field) (rest : List ℕ) → Without (OfEnd L named fs rest)
    → (FieldsFit L (clean_trailers named fs) → rest ≡ [] → ⊥) → ⊥
end_has L named fs rest clear stands =
    not_first why.TrailerLimit (FieldsFit L (clean_trailers named fs) → ⊥) (OfExtra rest) clear
    (λ fit. by_rest rest (others why.TrailerLimit (FieldsFit L (clean_trailers named fs) → ⊥) (OfExtra rest) clear) (stands fit))
  where
    by_rest : (r : List ℕ) → Without (OfExtra r) → (r ≡ [] → ⊥) → ⊥
    by_rest [] f g = g refl
    by_rest (b ∷ r) f g = f why.Extra (inl (λ e. absurd cc, refl))

trailers_has : (L : Bounds) (named : List (List ℕ)) (y : List ℕ) → Without (OfTrailers L (OfEnd L named) y)
    → ((fs : List Field) → IsTrailerSection L fs y → FieldsFit L (clean_trailers named fs) → ⊥) → ⊥
trailers_has L named y clear stands =
    section_has (TrailerEndsAt y) L.section y why.TrailerLimit
    (λ section rest. why.TrailerForm when ((trailers : List Field) → IsSection trailers section → ⊥) else λ cause. (trailers : List Field) × IsSection trailers section × OfEnd L named trailers rest cause)
    (trailer_ends_once y) (trailer_within y) clear found
  where
    found : (n : ℕ) → TrailerEndsAt y n → IsWithin L.section n
        → Without (why.TrailerForm when ((trailers : List Field) → IsSection trailers (take n y) → ⊥) else λ cause. (trailers : List Field) × IsSection trailers (take n y) × OfEnd L named trailers (drop n y) cause) → ⊥
    found n e w f =
        let P : Type 0 = (trailers : List Field) → IsSection trailers (take n y) → ⊥ in
        let R : Causes = λ cause. (trailers : List Field) × IsSection trailers (take n y) × OfEnd L named trailers (drop n y) cause in
        not_first why.TrailerForm P R f (λ fs s.
        end_has L named fs (drop n y) (λ c q. others why.TrailerForm P R f c (fs, s, q)) (λ fit none.
        let all = nothing_left n y (trailer_within y n e) none in
        stands fs (subst (IsWithin L.section) (sym all.1) w, subst (IsSection fs) all.0 s) fit))

-- ---- chunks

begun : HasBegun []
begun = ((codes "0" ++ crlf, (0, (codes "0", crlf, size, refl, refl))), λ line. omega (arith, line.1.2.some, ap (length {A = ℕ}) line.1.4, length-append line.1.0 line.1.1, ap (length {A = ℕ}) line.1.3))
  where
    size : IsSize 15 0 (codes "0")
    size = record {
      digits = codes "0";
      blanks = [];
      extension = [];
      some = omega arith;
      few = omega arith;
      each = All-cons (λ b. IsTrue (is_hex b)) 48 [] refl (All-nil (λ b. IsTrue (is_hex b)));
      value = refl;
      blank = All-nil (λ b. IsTrue (is_blank b));
      read_over = inl refl;
      written = refl;
    }

line_has : (y : List ℕ) → Without (OfChunkLine y) → ((size : ℕ) (line rest : List ℕ) → y ≡ line ++ rest → IsChunkLine size line → ⊥)
    → (n k : ℕ) → k + n ≡ 1024 → k ≤ length y → HasBegun (take k y) → ⊥
line_has y clear stands zero k s l b = by_length (cases_lt 1024 (length y))
  where
    by_length : (1024 < length y) ⊎ (length y ≤ 1024) → ⊥
    by_length (inl h) =
        let all : k ≡ 1024 = omega (arith, s) in
        clear why.ChunkLineLimit (inr (inl (h, subst (λ (j : ℕ). HasBegun (take j y)) all b, refl)))
    by_length (inr h) = clear why.Ended (inr (inr (h, subst HasBegun (take_all k y (omega (arith, s, h))) b, refl)))
line_has y clear stands (suc n) k s l b =
    by_length (λ h can more. line_has y clear stands n (k + 1) (omega (arith, s)) (omega (arith, h)) (can, more)) (cases_lt k (length y))
  where
    Again : Type 0
    Again = k < length y → CanBegin (IsLineOf 15) (take (k + 1) y) → (IsLineOf 15 (take (k + 1) y) → ⊥) → ⊥

    dead : k < length y → (CanBegin (IsLineOf 15) (take (k + 1) y) → ⊥) → ⊥
    dead h stops =
        let at : IsDeadAt y k = record { inside = h; early = omega (arith, s); before = b; after = stops } in
        others why.ChunkLine (CanBegin IsAnyLine (take (k + 1) y) → ⊥) (λ c. c ≡ why.ChunkLineLimit) (λ c q. clear c (inl (k, at, q))) why.ChunkLineLimit refl

    by_line : Again → k < length y → CanBegin (IsLineOf 15) (take (k + 1) y) → IsLineOf 15 (take (k + 1) y) ⊎ (IsLineOf 15 (take (k + 1) y) → ⊥) → ⊥
    by_line again h can (inl line) =
        stands line.0 (take (k + 1) y) (drop (k + 1) y) (sym (take-append-drop (k + 1) y)) (omega (arith, s, length-take-le (k + 1) y (omega (arith, h))), line.1)
    by_line again h can (inr more) = again h can more

    by_byte : Again → k < length y → CanBegin (IsLineOf 15) (take (k + 1) y) ⊎ (CanBegin (IsLineOf 15) (take (k + 1) y) → ⊥) → ⊥
    by_byte again h (inl can) = either (IsLineOf 15 (take (k + 1) y)) (by_line again h can)
    by_byte again h (inr stops) = dead h stops

    by_length : Again → (k < length y) ⊎ (length y ≤ k) → ⊥
    by_length again (inl h) = either (CanBegin (IsLineOf 15) (take (k + 1) y)) (by_byte again h)
    by_length again (inr h) = clear why.Ended (inr (inr (omega (arith, s, h), subst HasBegun (take_all k y h) b, refl)))

line_end_has : (y : List ℕ) → Without (OfLineEnd y) → ((more : List ℕ) → y ≡ crlf ++ more → ⊥) → ⊥
line_end_has y clear stands = clear why.ChunkEnd (inr ((by_more, stands), refl))
  where
    by_more : (more : List ℕ) → crlf ≡ y ++ more → ⊥
    by_more [] e = stands [] (sym (append-nil y) ∙ sym e)
    by_more (b ∷ more) e = clear why.Ended (inl ((b ∷ more, omega arith, e), refl))

each_snoc : {A : Type 0} (R : A → List ℕ → Type 0) (xs : List A) (a : A) (x y : List ℕ) → AreEach R xs x → R a y → AreEach R (xs ++ a ∷ []) (x ++ y)
each_snoc R [] a x y h k = (y, [], k, refl, ap (λ (z : List ℕ). z ++ y) h ∙ sym (append-nil y))
each_snoc R (b ∷ xs) a x y h k =
    (h.0, h.1 ++ y, h.2, each_snoc R xs a h.1 y h.3 k, ap (λ (z : List ℕ). z ++ y) h.4 ∙ append_assoc h.0 h.1 y)

abbrev IsSome : List ℕ → Type 0
IsSome chunk = 0 < length chunk

chunks_have : (L : Bounds) (named : List (List ℕ)) (all : List ℕ) → Without (OfBody L Chunked (OfEnd L named) all)
    → ((content : List ℕ) (fs : List Field) → IsBody L Chunked content fs all → FieldsFit L (clean_trailers named fs) → ⊥)
    → (n : ℕ) (xs : List (List ℕ)) (x y : List ℕ) → length y < n → All IsSome xs → AreEach IsChunk xs x → all ≡ x ++ y → ⊥
chunks_have L named all clear stands zero xs x y l some each same = omega (arith, l)
chunks_have L named all clear stands (suc n) xs x y l some each same =
    line_has y (λ c q. no_next c (inl q)) (by_size (chunks_have L named all clear stands n)) 1024 0 refl (omega arith) begun
  where
    Again : Type 0
    Again = (ys : List (List ℕ)) (z more : List ℕ) → length more < n → All IsSome ys → AreEach IsChunk ys z → all ≡ z ++ more → ⊥

    no_next : Without (OfNextChunk L (OfEnd L named) y)
    no_next c q = clear c (xs, some, (x, y, each, q, same))

    by_size : Again → (size : ℕ) (line rest : List ℕ) → y ≡ line ++ rest → IsChunkLine size line → ⊥
    by_size again zero line rest e h =
        trailers_has L named rest (λ c q. no_next c (inr (zero, line, rest, e, h, inr (refl, q))))
        (λ fs t. stands (concat xs) fs (xs, refl, some, (x, y, each, (line, rest, h, t, e), same)))
    by_size again (suc k) line rest e h = by_length (cases_lt (length rest) (suc k))
      where
        no_chunk : Without (OfChunk (suc k) rest)
        no_chunk c q = no_next c (inr (suc k, line, rest, e, h, inl (omega arith, q)))

        by_end : suc k ≤ length rest → (more : List ℕ) → drop (suc k) rest ≡ crlf ++ more → ⊥
        by_end long more d =
            let chunk : List ℕ = take (suc k) rest in
            let size : length chunk ≡ suc k = length-take-le (suc k) rest long in
            let whole : rest ≡ chunk ++ (crlf ++ more) = sym (take-append-drop (suc k) rest) ∙ ap (λ (z : List ℕ). chunk ++ z) d in
            let text : List ℕ = line ++ (chunk ++ crlf) in
            let is : IsChunk chunk text = (line, chunk ++ crlf, subst (λ (j : ℕ). IsChunkLine j line) (sym size) h, (chunk, crlf, refl, refl, refl), refl) in
            let behind : y ≡ text ++ more =
            e ∙ ap (λ (z : List ℕ). line ++ z) (whole ∙ sym (append_assoc chunk crlf more)) ∙ sym (append_assoc line (chunk ++ crlf) more) in
            again (xs ++ chunk ∷ []) (x ++ text) more
            (omega (arith, l, ap (length {A = ℕ}) e, ap (length {A = ℕ}) whole, length-append line rest, length-append chunk (crlf ++ more), length-append crlf more))
            (All-append IsSome xs (chunk ∷ []) some (All-cons IsSome chunk [] (omega (arith, size)) (All-nil IsSome))) (each_snoc IsChunk xs chunk x text each is)
            (same ∙ ap (λ (z : List ℕ). x ++ z) behind ∙ sym (append_assoc x text more))

        by_length : (length rest < suc k) ⊎ (suc k ≤ length rest) → ⊥
        by_length (inl h) = no_chunk why.Ended (inl (h, refl))
        by_length (inr h) = line_end_has (drop (suc k) rest) (λ c q. no_chunk c (inr (h, q))) (by_end h)

body_has : (L : Bounds) (named : List (List ℕ)) (f : Framing1) (y : List ℕ) → Without (OfBody L f (OfEnd L named) y)
    → ((content : List ℕ) (fs : List Field) → IsBody L f content fs y → FieldsFit L (clean_trailers named fs) → ⊥) → ⊥
body_has L named Empty y clear stands = end_has L named [] y clear (λ fit e. stands [] [] (refl, refl, e) fit)
body_has L named (Counted n) y clear stands = by_length (cases_lt (length y) n)
  where
    by_length : (length y < n) ⊎ (n ≤ length y) → ⊥
    by_length (inl h) = clear why.Ended (inl (h, refl))
    by_length (inr h) =
        end_has L named [] (drop n y) (λ c q. clear c (inr (h, q)))
        (λ fit e. stands y [] ((nothing_left n y h e).1, refl, refl) fit)
body_has L named Chunked y clear stands = chunks_have L named y clear stands (suc (length y)) [] [] y (omega arith) (All-nil IsSome) refl refl
body_has L named ToEnd y clear stands = stands y [] (refl, refl) (none_fit L)

-- ---- the bytes of a content are bytes

all_back : (x y : List ℕ) → AreBytes (x ++ y) → AreBytes y
all_back [] y h = h
all_back (b ∷ x) y h = all_back x y (All-tail (λ n. n < 256) b (x ++ y) h)

all_front : (x y : List ℕ) → AreBytes (x ++ y) → AreBytes x
all_front [] y h = All-nil (λ n. n < 256)
all_front (b ∷ x) y h = All-cons (λ n. n < 256) b x (All-head (λ n. n < 256) b (x ++ y) h) (all_front x y (All-tail (λ n. n < 256) b (x ++ y) h))

chunks_bytes : (xs : List (List ℕ)) (x : List ℕ) → AreEach IsChunk xs x → AreBytes x → AreBytes (concat xs)
chunks_bytes [] x h k = All-nil (λ n. n < 256)
chunks_bytes (chunk ∷ xs) x h k =
    let one = h.2 in
    let end = one.3 in
    let all : AreBytes (h.0 ++ h.1) = subst AreBytes h.4 k in
    let text : AreBytes (one.0 ++ one.1) = subst AreBytes one.4 (all_front h.0 h.1 all) in
    let behind : AreBytes (end.0 ++ end.1) = subst AreBytes end.4 (all_back one.0 one.1 text) in
    All-append (λ n. n < 256) chunk (concat xs) (subst AreBytes end.2 (all_front end.0 end.1 behind)) (chunks_bytes xs h.1 h.3 (all_back h.0 h.1 all))

body_bytes : (L : Bounds) (f : Framing1) (content : List ℕ) (fs : List Field) (y : List ℕ) → IsBody L f content fs y → AreBytes y → AreBytes content
body_bytes L Empty content fs y h k = subst AreBytes (sym h.0) (All-nil (λ n. n < 256))
body_bytes L (Counted n) content fs y h k = subst AreBytes h.2 k
body_bytes L Chunked content fs y h k =
    let t = h.3 in
    subst AreBytes h.1 (chunks_bytes h.0 t.0 t.2 (all_front t.0 t.1 (subst AreBytes t.4 k)))
body_bytes L ToEnd content fs y h k = subst AreBytes h.1 k

-- ---- heads

framing_has : (L : Bounds) (to_head : Bool) (h : Head) (y : List ℕ) → Without (OfFraming L to_head h y)
    → (IsCoded h.fields → IsCounted h.fields → (content : List ℕ) (fs : List Field) → IsBody L (framing to_head h) content fs y → FieldsFit L (clean_trailers (hops h.fields) fs) → ⊥) → ⊥
framing_has L to_head h y clear stands =
    let body : Causes = OfBody L (framing to_head h) (OfEnd L (hops h.fields)) y in
    let length_first : Causes = (why.Length when (IsCounted h.fields → ⊥) else body) in
    let behind : Without length_first = others why.Coding (IsCoded h.fields → ⊥) length_first clear in
    not_first why.Coding (IsCoded h.fields → ⊥) length_first clear (λ coded.
    not_first why.Length (IsCounted h.fields → ⊥) body behind (λ counted.
    body_has L (hops h.fields) (framing to_head h) y (others why.Length (IsCounted h.fields → ⊥) body behind) (stands coded counted)))

abbrev Fit : Bounds → Control → Head → Type 0
Fit L control h = ControlFits L control × FieldsFit L (clean (hops h.fields) (says_host (request control)) h.fields)

request_has : (L : Bounds) (to_head : Bool) (control : Control) (h : Head) (y : List ℕ) → Without (OfRequest L to_head control h y)
    → (HasHost control h.fields → Fit L control h → Without (OfFraming L to_head h y) → ⊥) → ⊥
request_has L to_head control h y clear stands =
    let fit_first : Causes = (why.HeadLimit when (Fit L control h → ⊥) else OfFraming L to_head h y) in
    let behind : Without fit_first = others why.Host (HasHost control h.fields → ⊥) fit_first clear in
    not_first why.Host (HasHost control h.fields → ⊥) fit_first clear (λ host.
    not_first why.HeadLimit (Fit L control h → ⊥) (OfFraming L to_head h y) behind (λ fit.
    stands host fit (others why.HeadLimit (Fit L control h → ⊥) (OfFraming L to_head h y) behind)))

own_method : (scheme : Scheme1) (method target : List ℕ) (control : Control) → IsTargetOf scheme method target control → method ≡ control.method
own_method scheme method target control (inl p) = sym (ap (λ (c : Control). c.method) p.gives)
own_method scheme method target control (inr (inl p)) = sym (ap (λ (c : Control). c.method) p.gives)
own_method scheme method target control (inr (inr p)) = sym (ap (λ (c : Control). c.method) p.gives)

-- the head of a request, or of a final response, with the rest of the input
abbrev NoMessageOf : Bounds → Scheme1 → Bool → List Interim → Head → List ℕ → Type 0
NoMessageOf L scheme to_head is h y = (start : Start) (content : List ℕ) (fs : List Field) → interims_of start ≡ is → IsStartOf scheme h start → StartFits L start
    → FieldsFit L (clean (hops h.fields) (says_host start) h.fields) → IsCoded h.fields → IsCounted h.fields
    → IsBody L (framing to_head h) content fs y → FieldsFit L (clean_trailers (hops h.fields) fs) → ⊥

module _ (L : Bounds) (scheme : Scheme1) (to_head : Bool) (is : List Interim) (few : IsWithin L.interims (length is)) (each : All (λ i. FieldsFit L i.fields) is) (h : Head) (y : List ℕ)
    (next : IsNextStart is h.start) (ends : NoMessageOf L scheme to_head is h y) where
  asks : (method target : List ℕ) → h.start ≡ request_line method target → Without (OfStart L scheme to_head is h y (request_line method target)) → ⊥
  asks method target e clear =
      let none : Type 0 = (control : Control) → IsTargetOf scheme method target control → ⊥ in
      let asked : Causes = λ cause. (control : Control) × IsTargetOf scheme method target control × OfRequest L to_head control h y cause in
      let target_first : Causes = (why.Target when none else asked) in
      let behind : Without target_first = others why.Connect (method ≡ codes "CONNECT") target_first clear in
      not_first why.Target none asked behind (λ control says. with_target control says (others why.Target none asked behind) (not_first why.Connect (method ≡ codes "CONNECT") target_first clear))
    where
      -- no response stands before a request
      first : (js : List Interim) → IsNextStart js h.start → [] ≡ js
      first [] n = refl
      first (j ∷ js) n = absurd (let same : request_line method target ≡ status_line n.0 = sym e ∙ n.1 in cc)

      with_target : (control : Control) → IsTargetOf scheme method target control
          → Without (λ cause. (control : Control) × IsTargetOf scheme method target control × OfRequest L to_head control h y cause) → (method ≡ codes "CONNECT" → ⊥) → ⊥
      with_target control says clear connect =
          let own : method ≡ control.method = own_method scheme method target control says in
          request_has L to_head control h y (λ c q. clear c (control, says, q)) (λ host fit behind.
          framing_has L to_head h y behind (λ coded counted content fs.
          ends (request control) content fs (first is next)
          (target, e ∙ ap (λ (m : List ℕ). request_line m target) own, subst (λ (m : List ℕ). IsTargetOf scheme m target control) own says, (λ d. connect (own ∙ d)), host)
          fit.0 fit.1 coded counted))

  -- a final response, or one more informational one
  answers : (status : ℕ) → h.start ≡ status_line status → Without (OfStart L scheme to_head is h y (status_line status))
      → ((status ≡ 101 → ⊥) → status ≤ 199 → IsWithin L.interims (length is + 1) → FieldsFit L (clean (hops h.fields) false h.fields) → ⊥) → ⊥
  answers status e clear more =
      not_first why.HeadLimit unfit last within (λ fit. either (IsWithin L.interims (length is + 1)) (by_room fit))
    where
      unfit : Type 0
      unfit = FieldsFit L (clean (hops h.fields) false h.fields) → ⊥

      many : Type 0
      many = (status ≤ 199) × (IsWithin L.interims (length is + 1) → ⊥)

      last : Causes
      last cause = (200 ≤ status) × OfFraming L to_head h y cause

      switching : status ≡ 101 → ⊥
      switching = not_first why.Switching (status ≡ 101) (why.Interims when many else why.HeadLimit when unfit else last) clear

      room : Without (why.Interims when many else why.HeadLimit when unfit else last)
      room = others why.Switching (status ≡ 101) (why.Interims when many else why.HeadLimit when unfit else last) clear

      within : Without (why.HeadLimit when unfit else last)
      within = others why.Interims many (why.HeadLimit when unfit else last) room

      by_status : FieldsFit L (clean (hops h.fields) false h.fields) → (199 < status) ⊎ (status ≤ 199) → ((status ≤ 199) → IsWithin L.interims (length is + 1)) → ⊥
      by_status fit (inl s) f =
          framing_has L to_head h y (λ c q. others why.HeadLimit unfit last within c (omega (arith, s), q))
          (λ coded counted content fs. ends (response is status) content fs refl (e, omega (arith, s)) (few, each) fit coded counted)
      by_status fit (inr s) f = more switching s (f s) fit

      by_room : FieldsFit L (clean (hops h.fields) false h.fields) → IsWithin L.interims (length is + 1) ⊎ (IsWithin L.interims (length is + 1) → ⊥) → ⊥
      by_room fit (inl w) = by_status fit (cases_lt 199 status) (λ s. w)
      by_room fit (inr n) = by_status fit (cases_lt 199 status) (λ s. absurd (not_first why.Interims many (why.HeadLimit when unfit else last) room (s, n)))

  start_has : (line : StartLine) → h.start ≡ line → Without (OfStart L scheme to_head is h y line)
      → ((status : ℕ) → h.start ≡ status_line status → (status ≡ 101 → ⊥) → status ≤ 199 → IsWithin L.interims (length is + 1) → FieldsFit L (clean (hops h.fields) false h.fields) → ⊥) → ⊥
  start_has (request_line method target) e clear more = asks method target e clear
  start_has (status_line status) e clear more = answers status e clear (more status e)

-- ---- inputs

interims_fit : (L : Bounds) (is : List Interim) (x : List ℕ) → AreEach (IsInterimHead L) is x → All (λ i. FieldsFit L i.fields) is
interims_fit L [] x h = All-nil (λ i. FieldsFit L i.fields)
interims_fit L (i ∷ is) x h = All-cons (λ i. FieldsFit L i.fields) i is h.2.fits (interims_fit L is h.1 h.3)

low_status : (s : StartLine) (status : ℕ) (line : List ℕ) → s ≡ status_line status → IsStartLine s line → 100 ≤ status
low_status s status line e h = (subst (λ (z : StartLine). IsStartLine z line) e h).0

heads_have : (L : Bounds) (scheme : Scheme1) (to_head : Bool) (all : List ℕ) → AreBytes all → Without (IsCause L scheme to_head all) → ((m : Message) → IsHttp1 L scheme to_head m all → ⊥)
    → (n : ℕ) (is : List Interim) (x y : List ℕ) → length y < n → IsWithin L.interims (length is) → AreEach (IsInterimHead L) is x → all ≡ x ++ y → ⊥
heads_have L scheme to_head all bytes clear none zero is x y l few each same = omega (arith, l)
heads_have L scheme to_head all bytes clear none (suc n) is x y l few each same =
    section_has (EndsAt y) L.section y why.HeadLimit
    (λ section rest. why.HeadForm when ((head : Head) → IsHead head section → IsNextStart is head.start → ⊥)
    else λ cause. (head : Head) × IsHead head section × IsNextStart is head.start × OfStart L scheme to_head is head rest head.start cause)
    (ends_once y) (λ k e. e.within) (λ c q. clear c (record { interims = is; few = few; text = (x, y, each, q, same) })) (found (heads_have L scheme to_head all bytes clear none n))
  where
    Again : Type 0
    Again = (js : List Interim) (z more : List ℕ) → length more < n → IsWithin L.interims (length js) → AreEach (IsInterimHead L) js z → all ≡ z ++ more → ⊥

    with_head : Again → (k : ℕ) → EndsAt y k → IsWithin L.section k → (h : Head) → IsHead h (take k y) → IsNextStart is h.start → Without (OfStart L scheme to_head is h (drop k y) h.start) → ⊥
    with_head again k e w h head next no_start =
        start_has L scheme to_head is few (interims_fit L is x each) h (drop k y) next ends h.start refl no_start more
      where
        within : IsWithin L.section (length (take k y))
        within = subst (IsWithin L.section) (sym (length-take-le k y e.within)) w

        ends : NoMessageOf L scheme to_head is h (drop k y)
        ends start content fs own says fits lines coded counted body trailers =
            let text : AreEach (IsInterimHead L) (interims_of start) x = subst (λ (js : List Interim). AreEach (IsInterimHead L) js x) (sym own) each in
            let behind : AreBytes (drop k y) = all_back (take k y) (drop k y) (subst AreBytes (sym (take-append-drop k y)) (all_back x y (subst AreBytes same bytes))) in
            none (record { start = start; fields = clean (hops h.fields) (says_host start) h.fields; content = content; trailers = clean_trailers (hops h.fields) fs })
            (record {
              head = h;
              trailers = fs;
              text = (x, y, text, (take k y, drop k y, (within, head), body, sym (take-append-drop k y)), same);
              start = says;
              coded = coded;
              counted = counted;
              fields = refl;
              cleaned = refl;
              content = body_bytes L (framing to_head h) content fs (drop k y) body behind;
              fits = record { start = fits; fields = lines; trailers = trailers };
            })

        more : (status : ℕ) → h.start ≡ status_line status → (status ≡ 101 → ⊥) → status ≤ 199 → IsWithin L.interims (length is + 1) → FieldsFit L (clean (hops h.fields) false h.fields) → ⊥
        more status s stays high room fit =
            let i : Interim = record { status = status; fields = clean (hops h.fields) false h.fields } in
            let one : IsInterimHead L i (take k y) = record {
              head = h;
              text = (within, head);
              status = s;
              number = record { low = low_status h.start status head.2.0 s head.2.2; high = high };
              stays = stays;
              fields = refl;
              fits = fit;
            } in
            again (is ++ i ∷ []) (x ++ take k y) (drop k y)
            (omega (arith, l, length-drop k y, some_bytes y k e, e.within)) (subst (IsWithin L.interims) (sym (length-append is (i ∷ []))) room)
            (each_snoc (IsInterimHead L) is i x (take k y) each one)
            (same ∙ ap (λ (z : List ℕ). x ++ z) (sym (take-append-drop k y)) ∙ sym (append_assoc x (take k y) (drop k y)))

    found : Again → (k : ℕ) → EndsAt y k → IsWithin L.section k
        → Without (why.HeadForm when ((head : Head) → IsHead head (take k y) → IsNextStart is head.start → ⊥)
        else λ cause. (head : Head) × IsHead head (take k y) × IsNextStart is head.start × OfStart L scheme to_head is head (drop k y) head.start cause) → ⊥
    found again k e w f =
        let P : Type 0 = (head : Head) → IsHead head (take k y) → IsNextStart is head.start → ⊥ in
        let R : Causes = λ cause. (head : Head) × IsHead head (take k y) × IsNextStart is head.start × OfStart L scheme to_head is head (drop k y) head.start cause in
        not_first why.HeadForm P R f (λ h head next. with_head again k e w h head next (λ c q. others why.HeadForm P R f c (h, head, next, q)))

input_has : (L : Bounds) (scheme : Scheme1) (to_head : Bool) (bytes : List ℕ) → AreBytes bytes → Without (IsCause L scheme to_head bytes) → ((m : Message) → IsHttp1 L scheme to_head m bytes → ⊥) → ⊥
input_has L scheme to_head bytes are clear none = heads_have L scheme to_head bytes are clear none (suc (length bytes)) [] [] bytes (omega arith) (zero_within L.interims) refl refl

pub some_from : SomeFrom
some_from L scheme to_head bytes are clear = by_limit L.input refl
  where
    whole : IsWithin L.input (length bytes) → ⊥
    whole w = input_has L scheme to_head bytes are (λ c q. clear (broken c) (inl (w, q))) (λ m q. clear (read m) (w, q))

    by_limit : (o : Option ℕ) → L.input ≡ o → ⊥
    by_limit None e = whole (subst (λ (o : Option ℕ). IsWithin o (length bytes)) (sym e) tt)
    by_limit (Some most) e = by_length (cases_lt most (length bytes))
      where
        longer : most < length bytes → (c : H1Why) → OfFirst L scheme to_head (take most bytes) c → ⊥
        longer h c q = clear (broken c) (inr (most, (e, h), q))

        first : AreBytes (take most bytes)
        first = all_front (take most bytes) (drop most bytes) (subst AreBytes (sym (take-append-drop most bytes)) are)

        by_cause : (h : most < length bytes) (c : H1Why) → IsCause L scheme to_head (take most bytes) c → ((c ≡ why.Ended) ⊎ (c ≡ why.Ended → ⊥)) → ⊥
        by_cause h c q (inl e) = longer h why.TooLong (inr (refl, inr (subst (IsCause L scheme to_head (take most bytes)) e q)))
        by_cause h c q (inr n) = longer h c (inl (n, q))

        by_length : (most < length bytes) ⊎ (length bytes ≤ most) → ⊥
        by_length (inl h) =
            input_has L scheme to_head (take most bytes) first (λ c q. either (c ≡ why.Ended) (by_cause h c q))
            (λ m q. longer h why.TooLong (inr (refl, inl (m, q))))
        by_length (inr h) = whole (subst (λ (o : Option ℕ). IsWithin o (length bytes)) (sym e) h)
