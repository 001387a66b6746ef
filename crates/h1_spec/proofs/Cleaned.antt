-- What is clean stays as it is.
use Rattle.std.proofs.Common.{◌≡◌, Bool, true, false, cond, not, ℕ, List, [], ◌∷◌, ◌++◌, map, filter, flat_map, All, codes, bytes_eq, refl, sym, ap, ap₂, ◌∙◌, append-nil, subst}
use Rattle.std.proofs.lemmas.Bool.{cond-false, cond_both, or_parts, or_from, not-true, not_from_false}
use Rattle.std.proofs.lemmas.List.Elements.{All-cons, All-head, All-tail, All-weaker, All-filter, filter_passes}
use Rattle.std.proofs.lemmas.List.Folds.{list_any-append}
use Rattle.bh_spec.specs.Messages.{Field, Interim, Start, request, response, Message}
use Rattle.h1_spec.specs.Cleaning.{is_among, values_of, without, names_in, kept_names, hops, connection_names, cookie, crumbs, one_cookie, clean, clean_trailers, clean_interim, clean_start, says_host, clean_message}
use Rattle.h1_spec.specs.Laws.{CleanTwice, CleanMessageTwice, CleanTrailersTwice}
use Rattle.h1_spec.proofs.Lists.{filter_same, filter_none, same_name}

-- none of the lines has one of the names
abbrev pub Lacks : List (List ℕ) → List Field → Type 0
Lacks names fields = All (λ field. is_among names field.name ≡ false) fields

pub without_lacks : (names : List (List ℕ)) (fields : List Field) → Lacks names (without names fields)
without_lacks names fields =
    All-weaker (λ (field : Field). not (is_among names field.name) ≡ true) (λ (field : Field). is_among names field.name ≡ false)
    (λ field h. not-true (is_among names field.name) h) (without names fields) (filter_passes (λ (field : Field). not (is_among names field.name)) fields)

pub lacks_without : (names : List (List ℕ)) (fields : List Field) → Lacks names fields → without names fields ≡ fields
lacks_without names fields h =
    filter_same (λ (field : Field). not (is_among names field.name)) fields
    (All-weaker (λ (field : Field). is_among names field.name ≡ false) (λ (field : Field). not (is_among names field.name) ≡ true)
    (λ field k. not_from_false (is_among names field.name) k) fields h)

-- what lacks names lacks a part of them
pub lacks_fewer : (names fewer : List (List ℕ)) → ((name : List ℕ) → is_among names name ≡ false → is_among fewer name ≡ false) → (fields : List Field)
    → Lacks names fields → Lacks fewer fields
lacks_fewer names fewer h fields k =
    All-weaker (λ (field : Field). is_among names field.name ≡ false) (λ (field : Field). is_among fewer field.name ≡ false) (λ field. h field.name) fields k

pub front_among : (a b : List (List ℕ)) (name : List ℕ) → is_among (a ++ b) name ≡ false → is_among a name ≡ false
front_among a b name h = (or_parts (is_among a name) (is_among b name) (sym (list_any-append (bytes_eq name) a b) ∙ h)).0

pub back_among : (a b : List (List ℕ)) (name : List ℕ) → is_among (a ++ b) name ≡ false → is_among b name ≡ false
back_among a b name h = (or_parts (is_among a name) (is_among b name) (sym (list_any-append (bytes_eq name) a b) ∙ h)).1

pub both_among : (a b : List (List ℕ)) (name : List ℕ) → is_among a name ≡ false → is_among b name ≡ false → is_among (a ++ b) name ≡ false
both_among a b name h k = list_any-append (bytes_eq name) a b ∙ or_from (is_among a name) (is_among b name) h k

-- ---- one cookie

-- What holds of the names holds of the names with one cookie line.
pub one_cookie_keeps : (P : List ℕ → Type 0) (fields : List Field) → All (λ field. P field.name) fields → All (λ field. P field.name) (one_cookie fields)
one_cookie_keeps P [] h = h
one_cookie_keeps P (field ∷ rest) h =
    cond_both (bytes_eq field.name cookie) _ _ (All (λ (f : Field). P f.name)) joined (other (one_cookie_keeps P rest tail))
  where
    head : P field.name
    head = All-head (λ (f : Field). P f.name) field rest h

    tail : All (λ (f : Field). P f.name) rest
    tail = All-tail (λ (f : Field). P f.name) field rest h

    joined : bytes_eq field.name cookie ≡ true
        → All (λ (f : Field). P f.name) (record { name = cookie; value = crumbs (values_of cookie (field ∷ rest)) } ∷ without (cookie ∷ []) rest)
    joined e = All-cons (λ (f : Field). P f.name) _ _ (subst P (same_name field.name cookie e) head)
        (All-filter (λ (f : Field). not (is_among (cookie ∷ []) f.name)) (λ (f : Field). P f.name) rest tail)

    other : All (λ (f : Field). P f.name) (one_cookie rest) → bytes_eq field.name cookie ≡ false → All (λ (f : Field). P f.name) (field ∷ one_cookie rest)
    other k e = All-cons (λ (f : Field). P f.name) field (one_cookie rest) head k

-- no line has the name
abbrev pub LacksName : List ℕ → List Field → Type 0
LacksName name fields = All (λ field. bytes_eq field.name name ≡ false) fields

pub no_values : (name : List ℕ) (fields : List Field) → LacksName name fields → values_of name fields ≡ []
no_values name fields h = ap (map (λ (field : Field). field.value)) (filter_none (λ (field : Field). bytes_eq field.name name) fields h)

pub lacks_name : (names : List (List ℕ)) (name : List ℕ) → ((own : List ℕ) → is_among names own ≡ false → bytes_eq own name ≡ false) → (fields : List Field)
    → Lacks names fields → LacksName name fields
lacks_name names name h fields k =
    All-weaker (λ (field : Field). is_among names field.name ≡ false) (λ (field : Field). bytes_eq field.name name ≡ false) (λ field. h field.name) fields k

crumbs_twice : (values : List (List ℕ)) → crumbs (crumbs values ∷ []) ≡ crumbs values
crumbs_twice values = again (crumbs values)
  where
    again : (value : List ℕ) → crumbs (value ∷ []) ≡ value
    again [] = refl
    again (byte ∷ rest) = append-nil (byte ∷ rest)

pub one_cookie_twice : (fields : List Field) → one_cookie (one_cookie fields) ≡ one_cookie fields
one_cookie_twice [] = refl
one_cookie_twice (field ∷ rest) =
    cond_both (bytes_eq field.name cookie) _ _ (λ (fs : List Field). one_cookie fs ≡ fs) joined (other (one_cookie_twice rest))
  where
    none : values_of cookie (without (cookie ∷ []) rest) ≡ []
    none = no_values cookie (without (cookie ∷ []) rest)
        (lacks_name (cookie ∷ []) cookie (λ own h. (or_parts (bytes_eq own cookie) false h).0) (without (cookie ∷ []) rest) (without_lacks (cookie ∷ []) rest))

    joined : bytes_eq field.name cookie ≡ true
        → one_cookie (record { name = cookie; value = crumbs (values_of cookie (field ∷ rest)) } ∷ without (cookie ∷ []) rest)
        ≡ (record { name = cookie; value = crumbs (values_of cookie (field ∷ rest)) } ∷ without (cookie ∷ []) rest)
    joined e =
        let value : List ℕ = crumbs (values_of cookie (field ∷ rest)) in
        let same : crumbs (value ∷ values_of cookie (without (cookie ∷ []) rest)) ≡ value = ap (λ (vs : List (List ℕ)). crumbs (value ∷ vs)) none ∙ crumbs_twice (values_of cookie (field ∷ rest)) in
        ap₂ (λ (v : List ℕ) (fs : List Field). let f : Field = record { name = cookie; value = v } in f ∷ fs) same
        (lacks_without (cookie ∷ []) (without (cookie ∷ []) rest) (without_lacks (cookie ∷ []) rest))

    other : one_cookie (one_cookie rest) ≡ one_cookie rest → bytes_eq field.name cookie ≡ false → one_cookie (field ∷ one_cookie rest) ≡ field ∷ one_cookie rest
    other k e = cond-false (bytes_eq field.name cookie) _ _ e ∙ ap (λ (fs : List Field). field ∷ fs) k

-- ---- sections

abbrev drops : Bool → List (List ℕ)
drops drop_host = cond drop_host (codes "host" ∷ []) []

pub clean_lacks : (named : List (List ℕ)) (drop_host : Bool) (fields : List Field) → Lacks (connection_names ++ (named ++ drops drop_host)) (clean named drop_host fields)
clean_lacks named drop_host fields =
    one_cookie_keeps (λ name. is_among (connection_names ++ (named ++ drops drop_host)) name ≡ false)
    (without (connection_names ++ (named ++ drops drop_host)) fields) (without_lacks (connection_names ++ (named ++ drops drop_host)) fields)

pub no_connection : (name : List ℕ) → is_among connection_names name ≡ false → bytes_eq name (codes "connection") ≡ false
no_connection name h = (or_parts (bytes_eq name (codes "connection")) _ h).0

-- a section without `connection` names no hops
pub no_hops : (fields : List Field) → Lacks connection_names fields → hops fields ≡ []
no_hops fields h =
    ap (λ (values : List (List ℕ)). filter (λ name. not (is_among kept_names name)) (flat_map names_in values))
    (no_values (codes "connection") fields (lacks_name connection_names (codes "connection") no_connection fields h))

-- What is clean of its hops is clean of none.
pub clean_again : (named : List (List ℕ)) (drop_host : Bool) (fields : List Field) → clean [] drop_host (clean named drop_host fields) ≡ clean named drop_host fields
clean_again named drop_host fields =
    ap one_cookie (lacks_without (connection_names ++ drops drop_host) (clean named drop_host fields)
    (lacks_fewer (connection_names ++ (named ++ drops drop_host)) (connection_names ++ drops drop_host)
    (λ name h. both_among connection_names (drops drop_host) name (front_among connection_names (named ++ drops drop_host) name h)
    (back_among named (drops drop_host) name (back_among connection_names (named ++ drops drop_host) name h)))
    (clean named drop_host fields) (clean_lacks named drop_host fields)))
    ∙ one_cookie_twice (without (connection_names ++ (named ++ drops drop_host)) fields)

pub clean_no_hops : (named : List (List ℕ)) (drop_host : Bool) (fields : List Field) → hops (clean named drop_host fields) ≡ []
clean_no_hops named drop_host fields = no_hops (clean named drop_host fields)
    (lacks_fewer (connection_names ++ (named ++ drops drop_host)) connection_names (front_among connection_names (named ++ drops drop_host))
    (clean named drop_host fields) (clean_lacks named drop_host fields))

pub clean_twice : (named : List (List ℕ)) (drop_host : Bool) (fields : List Field)
    → clean (hops (clean named drop_host fields)) drop_host (clean named drop_host fields) ≡ clean named drop_host fields
clean_twice named drop_host fields =
    ap (λ (names : List (List ℕ)). clean names drop_host (clean named drop_host fields)) (clean_no_hops named drop_host fields) ∙ clean_again named drop_host fields

pub trailers_lack : (named : List (List ℕ)) (fields : List Field) → Lacks (connection_names ++ (named ++ kept_names)) (clean_trailers named fields)
trailers_lack named fields = without_lacks (connection_names ++ (named ++ kept_names)) fields

pub trailers_again : (named : List (List ℕ)) (fields : List Field) → clean_trailers [] (clean_trailers named fields) ≡ clean_trailers named fields
trailers_again named fields =
    lacks_without (connection_names ++ kept_names) (clean_trailers named fields)
    (lacks_fewer (connection_names ++ (named ++ kept_names)) (connection_names ++ kept_names)
    (λ name h. both_among connection_names kept_names name (front_among connection_names (named ++ kept_names) name h)
    (back_among named kept_names name (back_among connection_names (named ++ kept_names) name h)))
    (clean_trailers named fields) (trailers_lack named fields))

-- ---- messages

pub interim_twice : (i : Interim) → clean_interim (clean_interim i) ≡ clean_interim i
interim_twice i = ap (λ (fs : List Field). let j : Interim = record { status = i.status; fields = fs } in j) (clean_twice (hops i.fields) false i.fields)

pub interims_twice : (is : List Interim) → map clean_interim (map clean_interim is) ≡ map clean_interim is
interims_twice [] = refl
interims_twice (i ∷ is) = ap₂ (λ (j : Interim) (js : List Interim). j ∷ js) (interim_twice i) (interims_twice is)

pub start_twice : (a : Start) → clean_start (clean_start a) ≡ clean_start a
start_twice (request control) = refl
start_twice (response is status) = ap (λ (js : List Interim). response js status) (interims_twice is)

pub says_clean : (a : Start) → says_host (clean_start a) ≡ says_host a
says_clean (request control) = refl
says_clean (response is status) = refl

pub clean_section_twice : CleanTwice
clean_section_twice drop_host fields = clean_twice (hops fields) drop_host fields

same_message : (a b : Start) (fs gs : List Field) (c : List ℕ) (ts us : List Field) → a ≡ b → fs ≡ gs → ts ≡ us
    → let m : Message = record { start = a; fields = fs; content = c; trailers = ts } in let n : Message = record { start = b; fields = gs; content = c; trailers = us } in m ≡ n
same_message a b fs gs c ts us p q r = λ i. record { start = p i; fields = q i; content = c; trailers = r i }

pub clean_message_twice : CleanMessageTwice
clean_message_twice m =
    same_message (clean_start (clean_start m.start)) (clean_start m.start)
    (clean (hops (clean_message m).fields) (says_host (clean_start m.start)) (clean_message m).fields) (clean_message m).fields
    m.content
    (clean_trailers (hops (clean_message m).fields) (clean_message m).trailers) (clean_message m).trailers
    (start_twice m.start)
    (ap (λ (b : Bool). clean (hops (clean_message m).fields) b (clean_message m).fields) (says_clean m.start) ∙ clean_twice (hops m.fields) (says_host m.start) m.fields)
    (ap (λ (names : List (List ℕ)). clean_trailers names (clean_message m).trailers) (clean_no_hops (hops m.fields) (says_host m.start) m.fields) ∙ trailers_again (hops m.fields) m.trailers)

pub trailers_twice : CleanTrailersTwice
trailers_twice named trailers = lacks_without (connection_names ++ (named ++ kept_names)) (clean_trailers named trailers) (trailers_lack named trailers)
