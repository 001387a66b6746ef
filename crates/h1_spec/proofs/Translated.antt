-- The worked cases of whole messages hold.
use Rattle.std.proofs.Common.{◌≡◌, ◌<◌, ◌≤◌, arith, ℕ, false, List, [], ◌∷◌, ◌++◌, map, length, drop, All, IsTrue, codes, refl, sym, ap, subst, ◌∙◌, append_assoc, inl, inr}
use Rattle.std.specs.Str.Parse.{digits_value}
use Rattle.std.proofs.lemmas.Bool.{both_ways}
use Rattle.std.proofs.lemmas.List.{length-append}
use Rattle.std.proofs.lemmas.List.Elements.{All-nil, All-cons, All-head, All-tail}
use Rattle.std.proofs.lemmas.List.Sums.{AllPass-from_list_all}
use Rattle.bh_spec.specs.declared.H1Why.TheVariants as why
use Rattle.bh_spec.specs.Bounds.{default_bounds}
use Rattle.bh_spec.specs.Bytes.{is_text_value, is_blank, is_authority, is_path}
use Rattle.bh_spec.specs.Messages.{Control, response}
use Rattle.bh_spec.specs.Canonical.{FieldsFit}
use Rattle.h1_spec.specs.declared.Framing1.TheVariants.{Chunked}
use Rattle.h1_spec.specs.declared.Scheme1.TheVariants.{Https}
use Rattle.h1_spec.specs.Grammar.{crlf}
use Rattle.h1_spec.specs.Heads.{StartLine, request_line, status_line, Head, IsStartLine, IsHead, EndsAt, three_digits}
use Rattle.h1_spec.specs.Targets.{IsTargetOf, HasHost}
use Rattle.h1_spec.specs.Framing.{IsCoded}
use Rattle.h1_spec.specs.Bodies.{is_hex, IsExtension, IsChunkLine, IsChunk, IsBody}
use Rattle.h1_spec.specs.BodyCauses.{OfNextChunk, OfBody}
use Rattle.h1_spec.specs.Http1.{IsInterimHead}
use Rattle.h1_spec.specs.Translation.{OfEnd, OfFraming, OfRequest}
use Rattle.h1_spec.specs.Cases.{text, a_field, host_h, reads, refuses, early_text, early, no_interims, HelloTranslated, ChunksTranslated, OptionsRead, FieldsRead, RequestsRefused, ChunkUnended, InterimsTranslated, NotModified, SectionsMissing}
use Rattle.h1_spec.proofs.Fronts.{cut_at, fails}
use Rattle.h1_spec.proofs.HeadTexts.{start_lacks}
use Rattle.h1_spec.proofs.TargetTexts.{web_first}
use Rattle.h1_spec.proofs.Causes.{drop_seam}
use Rattle.h1_spec.proofs.Ends.{head_parts, head_ends_at}
use Rattle.h1_spec.proofs.Readings.{Shown, shown, field_of, AreGood, section_is, request_head, request_is, status_head, status_is, read_of, cause_of, differ, fit, none_fit, one_host, asked, short_control, nine, status_line_is, refused_by}

-- the path of an origin form
origin : (method rest : List ℕ) → All (λ b. IsTrue (is_path b)) (47 ∷ rest) → IsTargetOf Https method (47 ∷ rest) (record { method = method; scheme = codes "https"; authority = []; path = 47 ∷ rest })
origin method rest each = inr (inl (record { slash = (rest, refl); each = each; gives = refl }))

-- ---- the first example of RFC 9292

abbrev hello_control : Control
hello_control = record { method = codes "GET"; scheme = codes "https"; authority = []; path = codes "/hello.txt" }

abbrev hello_lines : List Shown
hello_lines = shown (codes "User-Agent") (codes "curl/7.16.3 libcurl/7.16.3 OpenSSL/0.9.7l zlib/1.2.3")
    ∷ shown (codes "Host") (codes "www.example.com") ∷ shown (codes "Accept-Language") (codes "en, mi") ∷ []

hello_good : AreGood hello_lines
hello_good = ((omega arith, refl, refl, refl, refl, refl), ((omega arith, refl, refl, refl, refl, refl), ((omega arith, refl, refl, refl, refl, refl), tt)))

pub hello_translated : HelloTranslated
hello_translated = (
  asked hello_control (codes "/hello.txt") hello_lines [] [] []
      (request_is (codes "GET") (codes "/hello.txt") hello_lines (omega arith) refl (omega arith) refl hello_good)
      (omega arith) (omega arith) (origin (codes "GET") (codes "hello.txt") (AllPass-from_list_all is_path (codes "/hello.txt") refl)) refl
      (one_host hello_control (map field_of hello_lines) (codes "www.example.com") refl refl) (inl refl) (inl refl) (refl, refl, refl) (All-nil _)
      (short_control hello_control (omega arith) (omega arith) (omega arith) (omega arith))
      (fit (map field_of hello_lines) ((omega arith, omega arith), ((omega arith, omega arith), ((omega arith, omega arith), tt))) (omega arith)) none_fit,
  refl,
  refl,
)

-- ---- chunks, cookies, hops

abbrev post_control : Control
post_control = record { method = codes "POST"; scheme = codes "https"; authority = []; path = codes "/a" }

abbrev chunked_lines : List Shown
chunked_lines = shown (codes "Host") (codes "h") ∷ shown (codes "Connection") (codes "close, X-A") ∷ shown (codes "X-A") (codes "1")
    ∷ shown (codes "Cookie") (codes "a=1") ∷ shown (codes "Cookie") (codes "b=2") ∷ shown (codes "Transfer-Encoding") (codes "chunked") ∷ []

chunked_good : AreGood chunked_lines
chunked_good = (
  (omega arith, refl, refl, refl, refl, refl),
  (
    (omega arith, refl, refl, refl, refl, refl),
    ((omega arith, refl, refl, refl, refl, refl), ((omega arith, refl, refl, refl, refl, refl), ((omega arith, refl, refl, refl, refl, refl), ((omega arith, refl, refl, refl, refl, refl), tt)))),
  ),
)

a_path : IsTargetOf Https (codes "POST") (codes "/a") post_control
a_path = origin (codes "POST") (codes "a") (AllPass-from_list_all is_path (codes "/a") refl)

size_line : (size : ℕ) (digits extension : List ℕ) → 1 ≤ length digits → length digits ≤ 15 → All (λ b. IsTrue (is_hex b)) digits → digits_value 16 digits ≡ size → IsExtension extension
    → length ((digits ++ extension) ++ crlf) ≤ 1024 → IsChunkLine size ((digits ++ extension) ++ crlf)
size_line size digits extension some few each value read long = (
  long,
  (
    digits ++ extension,
    crlf,
    record { digits = digits; blanks = []; extension = extension; some = some; few = few; each = each; value = value; blank = All-nil (λ b. IsTrue (is_blank b)); read_over = read; written = refl },
    refl,
    refl,
  ),
)

abc_chunk : IsChunk (codes "abc") (text (codes "3;e=1" ∷ codes "abc" ∷ []))
abc_chunk = (
  text (codes "3;e=1" ∷ []),
  text (codes "abc" ∷ []),
  size_line 3 (codes "3") (codes ";e=1") (omega arith) (omega arith) (AllPass-from_list_all is_hex (codes "3") refl) refl
      (inr (codes "e=1", refl, AllPass-from_list_all is_text_value (codes "e=1") refl)) (omega arith),
  (codes "abc", crlf, refl, refl, refl),
  refl,
)

abc_body : IsBody default_bounds Chunked (codes "abc") (a_field (codes "x-t") (codes "9") ∷ []) (text (codes "3;e=1" ∷ codes "abc" ∷ codes "0" ∷ codes "X-T: 9" ∷ [] ∷ []))
abc_body = (
  codes "abc" ∷ [],
  refl,
  All-cons (λ chunk. 0 < length chunk) (codes "abc") [] (omega arith) (All-nil (λ chunk. 0 < length chunk)),
  (
    text (codes "3;e=1" ∷ codes "abc" ∷ []),
    text (codes "0" ∷ codes "X-T: 9" ∷ [] ∷ []),
    (text (codes "3;e=1" ∷ codes "abc" ∷ []), [], abc_chunk, refl, refl),
    (
      text (codes "0" ∷ []),
      text (codes "X-T: 9" ∷ [] ∷ []),
      size_line 0 (codes "0") [] (omega arith) (omega arith) (AllPass-from_list_all is_hex (codes "0") refl) refl (inl refl) (omega arith),
      (omega arith, section_is (shown (codes "X-T") (codes "9") ∷ []) ((omega arith, refl, refl, refl, refl, refl), tt)),
      refl,
    ),
    refl,
  ),
)

pub chunks_translated : ChunksTranslated
chunks_translated = (
  asked post_control (codes "/a") chunked_lines (codes "abc") (a_field (codes "x-t") (codes "9") ∷ []) (text (codes "3;e=1" ∷ codes "abc" ∷ codes "0" ∷ codes "X-T: 9" ∷ [] ∷ []))
      (request_is (codes "POST") (codes "/a") chunked_lines (omega arith) refl (omega arith) refl chunked_good)
      (omega arith) (omega arith) a_path refl
      (one_host post_control (map field_of chunked_lines) (codes "h") refl refl) (inr (codes "chunked", refl, refl, refl)) (inl refl) abc_body
      (All-cons (λ n. n < 256) 97 (codes "bc") (omega arith) (All-cons (λ n. n < 256) 98 (codes "c") (omega arith) (All-cons (λ n. n < 256) 99 [] (omega arith) (All-nil (λ n. n < 256)))))
      (short_control post_control (omega arith) (omega arith) (omega arith) (omega arith))
      (fit (host_h ∷ a_field (codes "cookie") (codes "a=1; b=2") ∷ []) ((omega arith, omega arith), ((omega arith, omega arith), tt)) (omega arith))
      (fit (a_field (codes "x-t") (codes "9") ∷ []) ((omega arith, omega arith), tt) (omega arith)),
  refl,
  refl,
)

-- ---- other requests

abbrev host_shown : Shown
host_shown = shown (codes "Host") (codes "h")

host_good : AreGood (host_shown ∷ [])
host_good = ((omega arith, refl, refl, refl, refl, refl), tt)

abbrev options_there : Control
options_there = record { method = codes "OPTIONS"; scheme = codes "http"; authority = codes "a.example"; path = codes "*" }

abbrev options_here : Control
options_here = record { method = codes "OPTIONS"; scheme = codes "https"; authority = []; path = codes "*" }

there_is : IsTargetOf Https (codes "OPTIONS") (codes "http://a.example") options_there
there_is = inr (inr (record {
  name = codes "http";
  authority = codes "a.example";
  rest = [];
  web = inl refl;
  some = omega arith;
  each = AllPass-from_list_all is_authority (codes "a.example") refl;
  behind = inl refl;
  path = All-nil (λ b. IsTrue (is_path b));
  written = refl;
  gives = refl;
}))

pub options_read : OptionsRead
options_read = (
  asked options_there (codes "http://a.example") (host_shown ∷ []) [] [] []
      (request_is (codes "OPTIONS") (codes "http://a.example") (host_shown ∷ []) (omega arith) refl (omega arith) refl host_good)
      (omega arith) (omega arith) there_is refl (one_host options_there (host_h ∷ []) (codes "h") refl refl) (inl refl) (inl refl) (refl, refl, refl) (All-nil _)
      (short_control options_there (omega arith) (omega arith) (omega arith) (omega arith)) none_fit none_fit,
  asked options_here (codes "*") (host_shown ∷ []) [] [] []
      (request_is (codes "OPTIONS") (codes "*") (host_shown ∷ []) (omega arith) refl (omega arith) refl host_good)
      (omega arith) (omega arith) (inl (record { options = refl; star = refl; gives = refl })) refl
      (one_host options_here (host_h ∷ []) (codes "h") refl refl) (inl refl) (inl refl) (refl, refl, refl) (All-nil _)
      (short_control options_here (omega arith) (omega arith) (omega arith) (omega arith)) (fit (host_h ∷ []) ((omega arith, omega arith), tt) (omega arith)) none_fit,
)

abbrev get_control : Control
get_control = record { method = codes "GET"; scheme = codes "https"; authority = []; path = codes "/" }

root : IsTargetOf Https (codes "GET") (codes "/") get_control
root = origin (codes "GET") [] (AllPass-from_list_all is_path (codes "/") refl)

abbrev named_lines : List Shown
named_lines = host_shown ∷ shown (codes "Connection") (codes "host") ∷ []

abbrev empty_cookie : Shown
empty_cookie = record { name = codes "Cookie"; blanks = []; value = [] }

abbrev cookie_lines : List Shown
cookie_lines = host_shown ∷ empty_cookie ∷ empty_cookie ∷ []

pub fields_read : FieldsRead
fields_read = (
  asked get_control (codes "/") named_lines [] [] []
      (request_is (codes "GET") (codes "/") named_lines (omega arith) refl (omega arith) refl ((omega arith, refl, refl, refl, refl, refl), ((omega arith, refl, refl, refl, refl, refl), tt)))
      (omega arith) (omega arith) root refl (one_host get_control (map field_of named_lines) (codes "h") refl refl) (inl refl) (inl refl) (refl, refl, refl) (All-nil _)
      (short_control get_control (omega arith) (omega arith) (omega arith) (omega arith)) (fit (host_h ∷ []) ((omega arith, omega arith), tt) (omega arith)) none_fit,
  asked get_control (codes "/") cookie_lines [] [] []
      (request_is (codes "GET") (codes "/") cookie_lines (omega arith) refl (omega arith) refl
      ((omega arith, refl, refl, refl, refl, refl), ((omega arith, refl, refl, refl, refl, refl), ((omega arith, refl, refl, refl, refl, refl), tt))))
      (omega arith) (omega arith) root refl (one_host get_control (map field_of cookie_lines) (codes "h") refl refl) (inl refl) (inl refl) (refl, refl, refl) (All-nil _)
      (short_control get_control (omega arith) (omega arith) (omega arith) (omega arith)) (fit (host_h ∷ a_field (codes "cookie") [] ∷ []) ((omega arith, omega arith), ((omega arith, omega arith), tt)) (omega arith)) none_fit,
)

-- ---- responses

abbrev not_modified_lines : List Shown
not_modified_lines = shown (codes "Content-Length") (codes "9") ∷ []

pub not_modified : NotModified
not_modified =
    read_of (response [] 304) (status_head 304 not_modified_lines) [] [] (text (codes "HTTP/1.1 304 x" ∷ codes "Content-Length: 9" ∷ [] ∷ [])) [] (omega arith) (omega arith) refl
    (status_is 304 (codes "HTTP/1.1 304 x") (codes "x") not_modified_lines
    (status_line_is 304 (codes "x") (codes "HTTP/1.1 304 x") (omega arith) (omega arith) (AllPass-from_list_all is_text_value (codes "x") refl) refl)
    ((omega arith, refl, refl, refl, refl, refl), tt))
    (refl, omega arith) (inl refl) (inr (codes "9", refl, nine)) (refl, refl, refl) (All-nil _) (omega arith, All-nil _)
    (fit (a_field (codes "content-length") (codes "9") ∷ []) ((omega arith, omega arith), tt) (omega arith)) none_fit

abbrev early_head : List ℕ
early_head = text (codes "HTTP/1.1 103 Early" ∷ [] ∷ [])

abbrev ok_head : List ℕ
ok_head = text (codes "HTTP/1.1 200 OK" ∷ [] ∷ [])

early_is : IsHead (status_head 103 []) early_head
early_is = status_is 103 (codes "HTTP/1.1 103 Early") (codes "Early") []
    (status_line_is 103 (codes "Early") (codes "HTTP/1.1 103 Early") (omega arith) (omega arith) (AllPass-from_list_all is_text_value (codes "Early") refl) refl) tt

ok_is : IsHead (status_head 200 []) ok_head
ok_is = status_is 200 (codes "HTTP/1.1 200 OK") (codes "OK") []
    (status_line_is 200 (codes "OK") (codes "HTTP/1.1 200 OK") (omega arith) (omega arith) (AllPass-from_list_all is_text_value (codes "OK") refl) refl) tt

early_interim : IsInterimHead default_bounds (record { status = 103; fields = [] }) early_head
early_interim = record {
  head = status_head 103 [];
  text = (omega arith, early_is);
  status = refl;
  number = record { low = omega arith; high = omega arith };
  stays = λ e. omega (arith, e);
  fields = refl;
  fits = none_fit;
}

early_read : reads early_text early
early_read = (
  omega arith,
  record {
    head = status_head 200 [];
    trailers = [];
    text = (
      early_head,
      ok_head ++ codes "hi",
      (early_head, [], early_interim, refl, refl),
      (ok_head, codes "hi", (omega arith, ok_is), (refl, refl), refl),
      refl,
    );
    start = (refl, omega arith);
    coded = inl refl;
    counted = inl refl;
    fields = refl;
    cleaned = refl;
    content = All-cons (λ n. n < 256) 104 (codes "i") (omega arith) (All-cons (λ n. n < 256) 105 [] (omega arith) (All-nil (λ n. n < 256)));
    fits = record {
      start = (omega arith, All-cons (λ i. FieldsFit default_bounds i.fields) (record { status = 103; fields = [] }) [] none_fit (All-nil (λ i. FieldsFit default_bounds i.fields)));
      fields = none_fit;
      trailers = none_fit;
    };
  },
)

pub interims_translated : InterimsTranslated
interims_translated = (
  early_read,
  refl,
  refl,
  inl (
    omega arith,
    cause_of no_interims (status_head 103 []) early_head (ok_head ++ codes "hi") why.Interims (omega arith) (omega arith) early_is
        (inr ((λ e. omega (arith, e)), inl ((omega arith, λ few. omega (arith, few)), refl))),
  ),
  inl (
    omega arith,
    cause_of default_bounds (status_head 101 []) (text (codes "HTTP/1.1 101 x" ∷ [] ∷ [])) [] why.Switching (omega arith) (omega arith)
        (status_is 101 (codes "HTTP/1.1 101 x") (codes "x") []
        (status_line_is 101 (codes "x") (codes "HTTP/1.1 101 x") (omega arith) (omega arith) (AllPass-from_list_all is_text_value (codes "x") refl) refl) tt)
        (inl (refl, refl)),
  ),
)

-- ---- refused requests

connect_refused : refuses (text (codes "CONNECT a.example:443 HTTP/1.1" ∷ codes "Host: h" ∷ [] ∷ [])) why.Connect
connect_refused =
    refused_by (codes "CONNECT") (codes "a.example:443") (host_shown ∷ []) [] why.Connect
    (request_is (codes "CONNECT") (codes "a.example:443") (host_shown ∷ []) (omega arith) refl (omega arith) refl host_good) (omega arith) (omega arith) (inl (refl, refl))

no_fragment : (c : Control) → IsTargetOf Https (codes "GET") (codes "/a#b") c → ⊥
no_fragment c (inl p) = differ (codes "GET") (codes "OPTIONS") refl p.options
no_fragment c (inr (inl p)) = both_ways (is_path 35) refl (All-head (λ b. IsTrue (is_path b)) 35 (codes "b") (All-tail (λ b. IsTrue (is_path b)) 97 (codes "#b") (All-tail (λ b. IsTrue (is_path b)) 47 (codes "a#b") p.each)))
no_fragment c (inr (inr p)) = web_first p.name _ (codes "a#b") 47 p.web (λ e. absurd (omega arith)) (sym p.written)

fragment_refused : refuses (text (codes "GET /a#b HTTP/1.1" ∷ codes "Host: h" ∷ [] ∷ [])) why.Target
fragment_refused =
    refused_by (codes "GET") (codes "/a#b") (host_shown ∷ []) [] why.Target
    (request_is (codes "GET") (codes "/a#b") (host_shown ∷ []) (omega arith) refl (omega arith) refl host_good) (omega arith) (omega arith)
    (inr (differ (codes "GET") (codes "CONNECT") refl, inl (no_fragment, refl)))

no_host : (c : Control) → HasHost c (host_h ∷ host_h ∷ []) → ⊥
no_host c h = absurd (let e : codes "h" ∷ codes "h" ∷ [] ≡ h.value ∷ [] = h.one in cc)

host_refused : refuses (text (codes "GET / HTTP/1.1" ∷ codes "Host: h" ∷ codes "Host: h" ∷ [] ∷ [])) why.Host
host_refused =
    refused_by (codes "GET") (codes "/") (host_shown ∷ host_shown ∷ []) [] why.Host
    (request_is (codes "GET") (codes "/") (host_shown ∷ host_shown ∷ []) (omega arith) refl (omega arith) refl ((omega arith, refl, refl, refl, refl, refl), ((omega arith, refl, refl, refl, refl, refl), tt)))
    (omega arith) (omega arith)
    (inr (differ (codes "GET") (codes "CONNECT") refl, inr ((λ n. n get_control root), (get_control, root, inl (no_host get_control, refl)))))

extra_refused : refuses (text (codes "GET / HTTP/1.1" ∷ codes "Host: h" ∷ [] ∷ []) ++ codes "x") why.Extra
extra_refused =
    refused_by (codes "GET") (codes "/") (host_shown ∷ []) (codes "x") why.Extra
    (request_is (codes "GET") (codes "/") (host_shown ∷ []) (omega arith) refl (omega arith) refl host_good) (omega arith) (omega arith)
    (inr (
      differ (codes "GET") (codes "CONNECT") refl,
      inr (
        (λ n. n get_control root),
        (
          get_control,
          root,
          inr (
            (λ n. n (one_host get_control (host_h ∷ []) (codes "h") refl refl)),
            inr (
              (λ n. n (short_control get_control (omega arith) (omega arith) (omega arith) (omega arith), fit (host_h ∷ []) ((omega arith, omega arith), tt) (omega arith))),
              inr ((λ n. n (inl refl)), inr ((λ n. n (inl refl)), inr ((λ n. n none_fit), inl ((λ e. absurd cc), refl)))),
            ),
          ),
        ),
      ),
    ))

abbrev both_lines : List Shown
both_lines = host_shown ∷ shown (codes "Transfer-Encoding") (codes "chunked") ∷ shown (codes "Content-Length") (codes "3") ∷ []

not_coded : IsCoded (map field_of both_lines) → ⊥
not_coded (inl e) = absurd (let d : codes "chunked" ∷ [] ≡ [] = e in cc)
not_coded (inr p) = absurd (let d : codes "3" ∷ [] ≡ [] = p.3 in cc)

coding_refused : refuses (text (codes "POST /a HTTP/1.1" ∷ codes "Host: h" ∷ codes "Transfer-Encoding: chunked" ∷ codes "Content-Length: 3" ∷ [] ∷ [])) why.Coding
coding_refused =
    refused_by (codes "POST") (codes "/a") both_lines [] why.Coding
    (request_is (codes "POST") (codes "/a") both_lines (omega arith) refl (omega arith) refl
    ((omega arith, refl, refl, refl, refl, refl), ((omega arith, refl, refl, refl, refl, refl), ((omega arith, refl, refl, refl, refl, refl), tt)))) (omega arith) (omega arith)
    (inr (
      differ (codes "POST") (codes "CONNECT") refl,
      inr (
        (λ n. n post_control a_path),
        (
          post_control,
          a_path,
          inr (
            (λ n. n (one_host post_control (map field_of both_lines) (codes "h") refl refl)),
            inr (
              (λ n. n (
                short_control post_control (omega arith) (omega arith) (omega arith) (omega arith),
                fit (host_h ∷ a_field (codes "content-length") (codes "3") ∷ []) ((omega arith, omega arith), ((omega arith, omega arith), tt)) (omega arith),
              )),
              inl (not_coded, refl),
            ),
          ),
        ),
      ),
    ))

-- the version is the last of a request line, and the first of a status line
old_line : (s : StartLine) → IsStartLine s (codes "GET / HTTP/1.0") → ⊥
old_line (request_line method target) h =
    let front : List ℕ = method ++ (32 ∷ target) in
    let same : codes "GET / HTTP/1.0" ≡ front ++ codes " HTTP/1.1" = h.2 ∙ sym (append_assoc method (32 ∷ target) (codes " HTTP/1.1")) in
    let five : length front ≡ 5 = omega (arith, ap (length {A = ℕ}) same, length-append front (codes " HTTP/1.1")) in
    differ (codes " HTTP/1.0") (codes " HTTP/1.1") refl (ap (drop 5) same ∙ ap (λ (n : ℕ). drop n (front ++ codes " HTTP/1.1")) (sym five) ∙ drop_seam front (codes " HTTP/1.1"))
old_line (status_line status) h = absurd (let e : 71 ∷ codes "ET / HTTP/1.0" ≡ 72 ∷ (codes "TTP/1.1 " ++ (three_digits status ++ (32 ∷ h.2.0))) = h.2.2 in let d : ◌≡◌ {A = ℕ} 71 72 = cc in omega (arith, d))

abbrev old_text : List ℕ
old_text = text (codes "GET / HTTP/1.0" ∷ codes "Host: h" ∷ [] ∷ [])

no_head : (h : Head) → IsHead h old_text → ⊥
no_head h k =
    let parts = head_parts h old_text k in
    let cut = cut_at 13 (codes "GET / HTTP/1.0") parts.0 (10 ∷ text (codes "Host: h" ∷ [] ∷ [])) (10 ∷ parts.1)
    (fails is_text_value 13 (codes "GET / HTTP/1.0") refl (AllPass-from_list_all is_text_value (codes "GET / HTTP/1.0") refl)) (start_lacks h.start parts.0 parts.2) parts.4 in
    old_line h.start (subst (IsStartLine h.start) (sym cut.0) parts.2)

old_ends : EndsAt old_text (length old_text)
old_ends = head_ends_at (codes "GET / HTTP/1.0") (text (codes "Host: h" ∷ [] ∷ [])) []
    (fails is_text_value 13 (codes "GET / HTTP/1.0") refl (AllPass-from_list_all is_text_value (codes "GET / HTTP/1.0") refl)) (map field_of (host_shown ∷ [])) (section_is (host_shown ∷ []) host_good)

old_refused : refuses old_text why.HeadForm
old_refused = inl (
  omega arith,
  record {
    interims = [];
    few = omega arith;
    text = ([], old_text, refl, inr (inr (record { many = length old_text; ends = old_ends; within = omega arith; says = inl ((λ h k n. no_head h k), refl) })), refl);
  },
)

pub requests_refused : RequestsRefused
requests_refused = (connect_refused, fragment_refused, old_refused, host_refused, extra_refused, coding_refused)

-- ---- an end within a chunk

abbrev ended_lines : List Shown
ended_lines = host_shown ∷ shown (codes "Transfer-Encoding") (codes "chunked") ∷ []

abbrev half_end : List ℕ
half_end = codes "abc" ++ (13 ∷ [])

half_chunk : OfNextChunk default_bounds (OfEnd default_bounds []) (text (codes "3" ∷ []) ++ half_end) why.Ended
half_chunk = inr (
  3,
  text (codes "3" ∷ []),
  half_end,
  refl,
  size_line 3 (codes "3") [] (omega arith) (omega arith) (AllPass-from_list_all is_hex (codes "3") refl) refl (inl refl) (omega arith),
  inl (omega arith, inr (omega arith, inl ((10 ∷ [], omega arith, refl), refl))),
)

half_body : OfBody default_bounds Chunked (OfEnd default_bounds []) (text (codes "3" ∷ []) ++ half_end) why.Ended
half_body = ([], All-nil (λ chunk. 0 < length chunk), ([], text (codes "3" ∷ []) ++ half_end, refl, half_chunk, refl))

half_framing : OfFraming default_bounds false (request_head (codes "POST") (codes "/a") ended_lines) (text (codes "3" ∷ []) ++ half_end) why.Ended
half_framing = inr ((λ n. n (inr (codes "chunked", refl, refl, refl))), inr ((λ n. n (inl refl)), half_body))

half_request : OfRequest default_bounds false post_control (request_head (codes "POST") (codes "/a") ended_lines) (text (codes "3" ∷ []) ++ half_end) why.Ended
half_request = inr (
  (λ n. n (one_host post_control (map field_of ended_lines) (codes "h") refl refl)),
  inr (
    (λ n. n (short_control post_control (omega arith) (omega arith) (omega arith) (omega arith), fit (host_h ∷ []) ((omega arith, omega arith), tt) (omega arith))),
    half_framing,
  ),
)

pub chunk_unended : ChunkUnended
chunk_unended =
    refused_by (codes "POST") (codes "/a") ended_lines (text (codes "3" ∷ []) ++ half_end) why.Ended
    (request_is (codes "POST") (codes "/a") ended_lines (omega arith) refl (omega arith) refl ((omega arith, refl, refl, refl, refl, refl), ((omega arith, refl, refl, refl, refl, refl), tt)))
    (omega arith) (omega arith)
    (inr (differ (codes "POST") (codes "CONNECT") refl, inr ((λ n. n post_control a_path), (post_control, a_path, half_request))))

pub sections_missing : SectionsMissing
sections_missing = (refl, refl, refl, refl, refl)
