-- The lines of a message say all of it.
use Rattle.std.proofs.Common.{◌≡◌, ◌∙◌, ◌≤◌, ℕ, zero, suc, Bool, true, false, refl, sym, ap, ap₂, List, [], ◌∷◌, ◌++◌, map, flat_map, length, take, drop, arith, append_assoc}
use Rattle.std.proofs.lemmas.List.{take-append-drop, length-drop}
use Rattle.bh_spec.specs.Messages.{Field, Control, Interim, Start, request, response, Message}
use Rattle.bh_spec.specs.Canonical.{cut, cut_within}
use Rattle.bh_spec.specs.Listing.{Line, interim, status, field, content, trailer, the_end, interim_lines, start_lines, lines_of}

abbrev is_field : Line → Bool
is_field (field f) = true
is_field l = false

abbrev is_content : Line → Bool
is_content (content bytes) = true
is_content l = false

abbrev is_trailer : Line → Bool
is_trailer (trailer f) = true
is_trailer l = false

abbrev starts : (Line → Bool) → List Line → Bool
starts is [] = false
starts is (l ∷ ls) = is l

-- lines of one kind, and what follows them
module _ {X : Type 0} (kind : X → Line) (is : Line → Bool) (passes : (x : X) → is (kind x) ≡ true) (same : (x y : X) → kind x ≡ kind y → x ≡ y) where
  runs : (xs ys : List X) (r s : List Line) → starts is r ≡ false → starts is s ≡ false → map kind xs ++ r ≡ map kind ys ++ s → (xs ≡ ys) × (r ≡ s)
  runs [] [] r s fr fs e = (refl, e)
  runs [] (y ∷ ys) r s fr fs e = let bad : true ≡ false = sym (ap (starts is) e ∙ passes y) ∙ fr in absurd cc
  runs (x ∷ xs) [] r s fr fs e = let bad : true ≡ false = sym (sym (ap (starts is) e) ∙ passes x) ∙ fs in absurd cc
  runs (x ∷ xs) (y ∷ ys) r s fr fs e =
      let head : kind x ≡ kind y = cc in
      let tail : map kind xs ++ r ≡ map kind ys ++ s = cc in
      let rest = runs xs ys r s fr fs tail in
      (ap₂ (λ z zs. z ∷ zs) (same x y head) rest.0, rest.1)

field_same : (x y : Field) → field x ≡ field y → x ≡ y
field_same x y e = cc

content_same : (x y : List ℕ) → content x ≡ content y → x ≡ y
content_same x y e = cc

trailer_same : (x y : Field) → trailer x ≡ trailer y → x ≡ y
trailer_same x y e = cc

-- what stands behind the start
abbrev tail : List (List ℕ) → List Field → List Line
tail pieces trailers = map content pieces ++ (map trailer trailers ++ (the_end ∷ []))

no_content : (trailers : List Field) → starts is_content (map trailer trailers ++ (the_end ∷ [])) ≡ false
no_content [] = refl
no_content (t ∷ ts) = refl

no_field : (pieces : List (List ℕ)) (trailers : List Field) → starts is_field (tail pieces trailers) ≡ false
no_field [] [] = refl
no_field [] (t ∷ ts) = refl
no_field (p ∷ ps) trailers = refl

same_rest : (fs gs : List Field) (ps qs : List (List ℕ)) (ts us : List Field) → map field fs ++ tail ps ts ≡ map field gs ++ tail qs us → (fs ≡ gs) × (ps ≡ qs) × (ts ≡ us)
same_rest fs gs ps qs ts us e =
    let one = runs field is_field (λ x. refl) field_same fs gs (tail ps ts) (tail qs us) (no_field ps ts) (no_field qs us) e in
    let two = runs content is_content (λ x. refl) content_same ps qs (map trailer ts ++ (the_end ∷ [])) (map trailer us ++ (the_end ∷ [])) (no_content ts) (no_content us) one.1 in
    let three = runs trailer is_trailer (λ x. refl) trailer_same ts us (the_end ∷ []) (the_end ∷ []) refl refl two.1 in
    (one.0, two.0, three.0)

-- pieces, one behind the other
abbrev rejoined : List (List ℕ) → List ℕ
rejoined = flat_map (λ piece. piece)

rejoined_cut : (turns : ℕ) (bytes : List ℕ) → length bytes ≤ turns → rejoined (cut_within turns 32 bytes) ≡ bytes
rejoined_cut zero [] few = refl
rejoined_cut zero (b ∷ rest) few = absurd (omega arith)
rejoined_cut (suc turns) [] few = refl
rejoined_cut (suc turns) (b ∷ rest) few =
    ap (λ x. take 32 (b ∷ rest) ++ x) (rejoined_cut turns (drop 32 (b ∷ rest)) (omega (arith, length-drop 32 (b ∷ rest)))) ∙ take-append-drop 32 (b ∷ rest)

same_content : (a b : List ℕ) → cut 32 a ≡ cut 32 b → a ≡ b
same_content a b e = sym (rejoined_cut (length a) a (omega arith)) ∙ (ap rejoined e ∙ rejoined_cut (length b) b (omega arith))

-- interim responses
abbrev interims_then : List Interim → ℕ → List Line → List Line
interims_then [] n rest = status n ∷ rest
interims_then (i ∷ is) n rest = interim i.status ∷ (map field i.fields ++ interims_then is n rest)

regroup : (is : List Interim) (n : ℕ) (rest : List Line) → (flat_map interim_lines is ++ (status n ∷ [])) ++ rest ≡ interims_then is n rest
regroup [] n rest = refl
regroup (i ∷ is) n rest = ap (λ ls. interim i.status ∷ ls)
    (ap (λ ls. ls ++ rest) (append_assoc (map field i.fields) (flat_map interim_lines is) (status n ∷ []))
    ∙ append_assoc (map field i.fields) (flat_map interim_lines is ++ (status n ∷ [])) rest ∙ ap (λ ls. map field i.fields ++ ls) (regroup is n rest))

no_field_first : (is : List Interim) (n : ℕ) (rest : List Line) → starts is_field (interims_then is n rest) ≡ false
no_field_first [] n rest = refl
no_field_first (i ∷ is) n rest = refl

same_interims : (is js : List Interim) (m n : ℕ) (r s : List Line) → interims_then is m r ≡ interims_then js n s → (is ≡ js) × (m ≡ n) × (r ≡ s)
same_interims [] [] m n r s e = (refl, (cc), (cc))
same_interims [] (j ∷ js) m n r s e = absurd cc
same_interims (i ∷ is) [] m n r s e = absurd cc
same_interims (i ∷ is) (j ∷ js) m n r s e =
    let code : i.status ≡ j.status = cc in
    let behind : map field i.fields ++ interims_then is m r ≡ map field j.fields ++ interims_then js n s = cc in
    let one = runs field is_field (λ x. refl) field_same i.fields j.fields (interims_then is m r) (interims_then js n s) (no_field_first is m r) (no_field_first js n s) behind in
    let rest = same_interims is js m n r s one.1 in
    (ap₂ (λ x xs. x ∷ xs) (ap₂ (λ (x : ℕ) (y : List Field). record { status = x; fields = y }) code one.0) rest.0, rest.1, rest.2)

same_control : (c d : Control) → c.method ≡ d.method → c.scheme ≡ d.scheme → c.authority ≡ d.authority → c.path ≡ d.path → c ≡ d
same_control c d m s a p =
    ap (λ x. record c { method = x }) m ∙ (ap (λ x. record c { method = d.method; scheme = x }) s
    ∙ (ap (λ x. record c { method = d.method; scheme = d.scheme; authority = x }) a ∙ ap (λ x. record c { method = d.method; scheme = d.scheme; authority = d.authority; path = x }) p))

same_start : (s t : Start) (r u : List Line) → start_lines s ++ r ≡ start_lines t ++ u → (s ≡ t) × (r ≡ u)
same_start (request c) (request d) r u e = (ap request (same_control c d (cc) (cc) (cc) (cc)), cc)
same_start (request c) (response js n) r u e = absurd cc
same_start (response is m) (request d) r u e = absurd cc
same_start (response is m) (response js n) r u e =
    let behind : (flat_map interim_lines is ++ (status m ∷ [])) ++ r ≡ (flat_map interim_lines js ++ (status n ∷ [])) ++ u = cc in
    let one = same_interims is js m n r u (sym (regroup is m r) ∙ (behind ∙ regroup js n u)) in
    (ap₂ response one.0 one.1, one.2)

same_message : (m n : Message) → m.start ≡ n.start → m.fields ≡ n.fields → m.content ≡ n.content → m.trailers ≡ n.trailers → m ≡ n
same_message m n s f c t =
    ap (λ x. record m { start = x }) s ∙ (ap (λ x. record m { start = n.start; fields = x }) f
    ∙ (ap (λ x. record m { start = n.start; fields = n.fields; content = x }) c ∙ ap (λ x. record m { start = n.start; fields = n.fields; content = n.content; trailers = x }) t))

pub one_message : (m n : Message) → lines_of m ≡ lines_of n → m ≡ n
one_message m n e =
    let start = same_start m.start n.start (map field m.fields ++ tail (cut 32 m.content) m.trailers) (map field n.fields ++ tail (cut 32 n.content) n.trailers) e in
    let rest = same_rest m.fields n.fields (cut 32 m.content) (cut 32 n.content) m.trailers n.trailers start.1 in
    same_message m n start.0 rest.0 (same_content m.content n.content rest.1) rest.2
