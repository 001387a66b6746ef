-- Cleaning: which field lines are a message's own, and not a connection's (RFC 9110, section 7.6.1), and one line for all
-- cookies (RFC 9113, section 8.2.3).
use Rattle.std.specs.Prelude.{ℕ, Bool, true, false, cond, not, ◌&&◌, nat_eq, List, [], ◌∷◌, ◌++◌, map, filter, flat_map, reverse, codes, bytes_eq}
use Rattle.std.specs.List.{list_any, list_all, slice_split, join_by}
use Rattle.bh_spec.specs.Bytes.{is_token, is_blank, lower}
use Rattle.bh_spec.specs.Messages.{Field, Interim, Start, request, response, Message}

abbrev pub is_empty : List ℕ → Bool
is_empty [] = true
is_empty (byte ∷ rest) = false

-- the name is one of these
abbrev pub is_among : List (List ℕ) → List ℕ → Bool
is_among names name = list_any (bytes_eq name) names

-- the values of the lines of this name, in order
abbrev pub values_of : List ℕ → List Field → List (List ℕ)
values_of name fields = map (λ field. field.value) (filter (λ field. bytes_eq field.name name) fields)

-- the lines whose names aren't among these, in order
abbrev pub without : List (List ℕ) → List Field → List Field
without names fields = filter (λ field. not (is_among names field.name)) fields

-- the bytes without the blanks that they begin with
abbrev pub behind_blanks : List ℕ → List ℕ
behind_blanks [] = []
behind_blanks (byte ∷ rest) = cond (is_blank byte) (behind_blanks rest) (byte ∷ rest)

-- without the blanks at either end
abbrev pub trim : List ℕ → List ℕ
trim bytes = reverse (behind_blanks (reverse (behind_blanks bytes)))

abbrev pub is_word : List ℕ → Bool
is_word piece = not (is_empty piece) && list_all is_token piece

-- the names in a value of `connection`: what stands between commas, without blanks, where it is a token (RFC 9110, section 7.6.1)
abbrev pub names_in : List ℕ → List (List ℕ)
names_in value = map lower (filter is_word (map trim (slice_split (λ byte. nat_eq byte 44) value)))

abbrev pub kept_names : List (List ℕ)
kept_names = codes "host" ∷ codes "content-length" ∷ []

-- the names that a header section says are of this connection; `host` and `content-length` stay the message's own
abbrev pub hops : List Field → List (List ℕ)
hops fields = filter (λ name. not (is_among kept_names name)) (flat_map names_in (values_of (codes "connection") fields))

-- the names that are always a connection's
abbrev pub connection_names : List (List ℕ)
connection_names = codes "connection" ∷ codes "proxy-connection" ∷ codes "keep-alive" ∷ codes "te" ∷ codes "transfer-encoding"
    ∷ codes "upgrade" ∷ []

abbrev pub cookie : List ℕ
cookie = codes "cookie"

-- the values of cookie lines that aren't empty, joined with a semicolon and a space
abbrev pub crumbs : List (List ℕ) → List ℕ
crumbs values = join_by (λ value. value) (codes "; ") (filter (λ value. not (is_empty value)) values)

-- all cookie lines as one, at the place of the first
abbrev pub one_cookie : List Field → List Field
one_cookie [] = []
one_cookie (field ∷ rest) = cond (bytes_eq field.name cookie)
    (record { name = cookie; value = crumbs (values_of cookie (field ∷ rest)) } ∷ without (cookie ∷ []) rest)
    (field ∷ one_cookie rest)

-- a header section without the lines of a connection, which names these hops; `host` goes too where the control data says it
abbrev pub clean : List (List ℕ) → Bool → List Field → List Field
clean named drop_host fields = one_cookie (without (connection_names ++ (named ++ cond drop_host (codes "host" ∷ []) [])) fields)

-- a trailer section behind a header section that names these hops
abbrev pub clean_trailers : List (List ℕ) → List Field → List Field
clean_trailers named fields = without (connection_names ++ (named ++ kept_names)) fields

-- the header section of an interim response, by its own hops
abbrev pub clean_interim : Interim → Interim
clean_interim interim = record { status = interim.status; fields = clean (hops interim.fields) false interim.fields }

abbrev pub clean_start : Start → Start
clean_start (request control) = request control
clean_start (response interims status) = response (map clean_interim interims) status

-- a request with an authority says its host there
abbrev pub says_host : Start → Bool
says_host (request control) = not (is_empty control.authority)
says_host (response interims status) = false

abbrev pub clean_message : Message → Message
clean_message m = record {
  start = clean_start m.start;
  fields = clean (hops m.fields) (says_host m.start) m.fields;
  content = m.content;
  trailers = clean_trailers (hops m.fields) m.trailers;
}
