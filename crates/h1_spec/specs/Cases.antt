-- Worked cases: HTTP/1.1 texts and messages, where the rules have sharp corners.
use Rattle.std.specs.Prelude.{ℕ, ◌≡◌, ◌^◌, true, false, List, [], ◌∷◌, ◌++◌, flat_map, codes, Some, None}
use Rattle.bh_spec.specs.declared.H1Why.{H1Why}
use Rattle.bh_spec.specs.Bounds.{Bounds, default_bounds}
use Rattle.bh_spec.specs.Messages.{Field, Message, request, response}
use Rattle.h1_spec.specs.declared.Scheme1.TheVariants.{Https}
use Rattle.bh_spec.specs.declared.NoForm.TheVariants as no
use Rattle.bh_spec.specs.declared.H1Why.TheVariants as why
use Rattle.h1_spec.specs.Grammar.{crlf}
use Rattle.h1_spec.specs.Cleaning.{hops, clean}
use Rattle.h1_spec.specs.Http1Text.{http1, no_form}
use Rattle.h1_spec.specs.Translation.{read, broken, IsFromAnswer}

-- lines, each with its end
abbrev pub text : List (List ℕ) → List ℕ
text rows = flat_map (λ row. row ++ crlf) rows

abbrev pub a_field : List ℕ → List ℕ → Field
a_field name value = record { name = name; value = value }

abbrev pub host_h : Field
host_h = a_field (codes "host") (codes "h")

-- a request with this method, scheme, authority and path, these fields, and no body
abbrev pub asks : List ℕ → List ℕ → List ℕ → List ℕ → List Field → Message
asks method scheme authority path fields = record {
  start = request (record { method = method; scheme = scheme; authority = authority; path = path });
  fields = fields;
  content = [];
  trailers = [];
}

abbrev pub answers : ℕ → List Field → List ℕ → Message
answers status fields content = record { start = response [] status; fields = fields; content = content; trailers = [] }

-- `host` and `content-length` are no hops; what is empty, or no token, names nothing.
abbrev pub HopsNamed : Type 0
HopsNamed = hops (a_field (codes "connection") (codes "close, X-A ,host")
    ∷ a_field (codes "connection") (codes "content-length,, a b,\tTe") ∷ [])
    ≡ codes "close" ∷ codes "x-a" ∷ codes "te" ∷ []

-- Two cookies become one, at the place of the first; empty ones leave an empty one, and one that is named as a hop goes.
abbrev pub CookiesJoined : Type 0
CookiesJoined = (clean [] false (a_field (codes "cookie") (codes "a=1") ∷ host_h ∷ a_field (codes "cookie") []
    ∷ a_field (codes "cookie") (codes "b=2") ∷ [])
    ≡ a_field (codes "cookie") (codes "a=1; b=2") ∷ host_h ∷ [])
    × (clean [] false (host_h ∷ a_field (codes "cookie") [] ∷ a_field (codes "cookie") [] ∷ []) ≡ host_h ∷ a_field (codes "cookie") [] ∷ [])
    × (clean (codes "cookie" ∷ []) false (host_h ∷ a_field (codes "cookie") (codes "a=1") ∷ []) ≡ host_h ∷ [])

-- A trailer that the header section names as a hop is dropped, and `host` with it.
abbrev pub with_trailers : List Field → Message
with_trailers trailers = record {
  start = request (record { method = codes "POST"; scheme = codes "https"; authority = []; path = codes "/a" });
  fields = host_h ∷ a_field (codes "connection") (codes "x-t") ∷ [];
  content = codes "abc";
  trailers = trailers;
}

abbrev pub TrailersCleaned : Type 0
TrailersCleaned = http1 false (with_trailers (a_field (codes "x-t") (codes "9") ∷ host_h ∷ a_field (codes "x-u") (codes "8") ∷ []))
    ≡ text (codes "POST /a HTTP/1.1" ∷ codes "host: h" ∷ codes "transfer-encoding: chunked" ∷ [] ∷ codes "3" ∷ codes "abc" ∷ codes "0"
    ∷ codes "x-u: 8" ∷ [] ∷ [])

-- OPTIONS for a whole server: the star is left out behind an authority, whose host line comes first and alone.
abbrev pub StarWritten : Type 0
StarWritten = (http1 false (asks (codes "OPTIONS") (codes "http") (codes "a.example") (codes "*")
    (a_field (codes "host") (codes "A.example") ∷ []))
    ≡ text (codes "OPTIONS http://a.example HTTP/1.1" ∷ codes "host: a.example" ∷ [] ∷ []))
    × (http1 false (asks (codes "OPTIONS") (codes "http") [] (codes "*") (host_h ∷ []))
    ≡ text (codes "OPTIONS * HTTP/1.1" ∷ codes "host: h" ∷ [] ∷ []))

-- What has no text, and what has one: a content length says the body, but for a response that has none.
abbrev pub FormsMissing : Type 0
FormsMissing = (no_form false (asks (codes "GET") (codes "https") [] (codes "/") []) ≡ Some no.Host)
    × (no_form false (asks (codes "GET") (codes "ftp") [] (codes "/") []) ≡ Some no.Scheme)
    × (no_form false (asks (codes "GET") (codes "https") (codes "a") (codes "/") (host_h ∷ [])) ≡ Some no.Host)
    × (no_form false (asks (codes "GET") (codes "https") (codes "a") (codes "/") []) ≡ None)
    × (no_form false (answers 204 [] (codes "a")) ≡ Some no.Bodyless)
    × (no_form false (answers 200 (a_field (codes "content-length") (codes "5") ∷ []) (codes "abc")) ≡ Some (no.LengthDiffers 5 3))
    × (no_form false (answers 200 (a_field (codes "content-length") (codes "1") ∷ []) (codes "abc")) ≡ Some (no.LengthDiffers 1 2))
    × (no_form false (answers 200 (a_field (codes "content-length") (codes "9") ∷ []) []) ≡ Some (no.LengthDiffers 9 0))
    × (no_form true (answers 200 (a_field (codes "content-length") (codes "9") ∷ []) []) ≡ None)
    × (no_form false (answers 304 (a_field (codes "content-length") (codes "9") ∷ []) []) ≡ None)

-- A scheme in upper case, and a query behind the authority; the host line goes.
abbrev pub WholeTarget : Type 0
WholeTarget = IsFromAnswer default_bounds Https false (text (codes "GET HTTP://a.example?x=1 HTTP/1.1" ∷ codes "Host: h" ∷ [] ∷ []))
    (read (asks (codes "GET") (codes "http") (codes "a.example") (codes "/?x=1") []))

-- The star is for OPTIONS.
abbrev pub StarRefused : Type 0
StarRefused = IsFromAnswer default_bounds Https false (text (codes "GET * HTTP/1.1" ∷ codes "Host: h" ∷ [] ∷ [])) (broken why.Target)

-- The answer to HEAD has a content length and no content; else the content is missing.
abbrev pub head_text : List ℕ
head_text = text (codes "HTTP/1.1 200 x" ∷ codes "Content-Length: 9" ∷ [] ∷ [])

abbrev pub HeadAnswered : Type 0
HeadAnswered = IsFromAnswer default_bounds Https true head_text (read (answers 200 (a_field (codes "content-length") (codes "9") ∷ []) []))
    × IsFromAnswer default_bounds Https false head_text (broken why.Ended)

-- ---- whole messages

-- the message that an HTTP/1.1 text is, with `https` for a target that names no scheme, or why it is none
abbrev pub reads : List ℕ → Message → Type 0
reads bytes m = IsFromAnswer default_bounds Https false bytes (read m)

abbrev pub refuses : List ℕ → H1Why → Type 0
refuses bytes cause = IsFromAnswer default_bounds Https false bytes (broken cause)

-- The request of RFC 9292, section 5.1: names come back in lower case.
abbrev pub hello : Message
hello = asks (codes "GET") (codes "https") [] (codes "/hello.txt")
    (a_field (codes "user-agent") (codes "curl/7.16.3 libcurl/7.16.3 OpenSSL/0.9.7l zlib/1.2.3")
    ∷ a_field (codes "host") (codes "www.example.com")
    ∷ a_field (codes "accept-language") (codes "en, mi")
    ∷ [])

abbrev pub HelloTranslated : Type 0
HelloTranslated = reads (text (codes "GET /hello.txt HTTP/1.1"
    ∷ codes "User-Agent: curl/7.16.3 libcurl/7.16.3 OpenSSL/0.9.7l zlib/1.2.3" ∷ codes "Host: www.example.com"
    ∷ codes "Accept-Language: en, mi" ∷ [] ∷ [])) hello
    × (no_form false hello ≡ None)
    × (http1 false hello ≡ text (codes "GET /hello.txt HTTP/1.1"
    ∷ codes "user-agent: curl/7.16.3 libcurl/7.16.3 OpenSSL/0.9.7l zlib/1.2.3" ∷ codes "host: www.example.com"
    ∷ codes "accept-language: en, mi" ∷ [] ∷ []))

-- Chunks, cookies and a named hop: the content and what is left of the fields.
abbrev pub abc : Message
abc = record {
  start = request (record { method = codes "POST"; scheme = codes "https"; authority = []; path = codes "/a" });
  fields = host_h ∷ a_field (codes "cookie") (codes "a=1; b=2") ∷ [];
  content = codes "abc";
  trailers = a_field (codes "x-t") (codes "9") ∷ [];
}

abbrev pub ChunksTranslated : Type 0
ChunksTranslated = reads (text (codes "POST /a HTTP/1.1" ∷ codes "Host: h" ∷ codes "Connection: close, X-A" ∷ codes "X-A: 1"
    ∷ codes "Cookie: a=1" ∷ codes "Cookie: b=2"
    ∷ codes "Transfer-Encoding: chunked" ∷ [] ∷ codes "3;e=1" ∷ codes "abc" ∷ codes "0" ∷ codes "X-T: 9" ∷ [] ∷ [])) abc
    × (no_form false abc ≡ None)
    × (http1 false abc ≡ text (codes "POST /a HTTP/1.1" ∷ codes "host: h" ∷ codes "cookie: a=1; b=2"
    ∷ codes "transfer-encoding: chunked" ∷ [] ∷ codes "3" ∷ codes "abc" ∷ codes "0" ∷ codes "x-t: 9" ∷ [] ∷ []))

-- OPTIONS with an authority and no path, and with the star alone.
abbrev pub OptionsRead : Type 0
OptionsRead = reads (text (codes "OPTIONS http://a.example HTTP/1.1" ∷ codes "Host: h" ∷ [] ∷ [])) (asks (codes "OPTIONS")
    (codes "http") (codes "a.example") (codes "*") [])
    × reads (text (codes "OPTIONS * HTTP/1.1" ∷ codes "Host: h" ∷ [] ∷ [])) (asks (codes "OPTIONS") (codes "https") [] (codes "*")
    (host_h ∷ []))

-- `connection: host` names nothing; two empty cookies are one.
abbrev pub FieldsRead : Type 0
FieldsRead = reads (text (codes "GET / HTTP/1.1" ∷ codes "Host: h" ∷ codes "Connection: host" ∷ [] ∷ [])) (asks (codes "GET")
    (codes "https") [] (codes "/") (host_h ∷ []))
    × reads (text (codes "GET / HTTP/1.1" ∷ codes "Host: h" ∷ codes "Cookie:" ∷ codes "Cookie:" ∷ [] ∷ [])) (asks (codes "GET")
    (codes "https") [] (codes "/") (host_h ∷ a_field (codes "cookie") [] ∷ []))

-- Requests that are refused: by the method, a fragment in the target, the version, a second host line, a byte behind the
-- message, and a length beside a transfer coding.
abbrev pub RequestsRefused : Type 0
RequestsRefused = refuses (text (codes "CONNECT a.example:443 HTTP/1.1" ∷ codes "Host: h" ∷ [] ∷ [])) why.Connect
    × refuses (text (codes "GET /a#b HTTP/1.1" ∷ codes "Host: h" ∷ [] ∷ [])) why.Target
    × refuses (text (codes "GET / HTTP/1.0" ∷ codes "Host: h" ∷ [] ∷ [])) why.HeadForm
    × refuses (text (codes "GET / HTTP/1.1" ∷ codes "Host: h" ∷ codes "Host: h" ∷ [] ∷ [])) why.Host
    × refuses (text (codes "GET / HTTP/1.1" ∷ codes "Host: h" ∷ [] ∷ []) ++ codes "x") why.Extra
    × refuses (text (codes "POST /a HTTP/1.1" ∷ codes "Host: h" ∷ codes "Transfer-Encoding: chunked" ∷ codes "Content-Length: 3" ∷ []
    ∷ [])) why.Coding

-- The input ends in the line end behind a chunk.
abbrev pub ChunkUnended : Type 0
ChunkUnended = refuses (text (codes "POST /a HTTP/1.1" ∷ codes "Host: h" ∷ codes "Transfer-Encoding: chunked" ∷ [] ∷ codes "3" ∷ [])
    ++ (codes "abc" ++ (13 ∷ []))) why.Ended

-- An informational response stands before the final one, whose body lasts to the end; it is written in chunks.
abbrev pub early_text : List ℕ
early_text = text (codes "HTTP/1.1 103 Early" ∷ [] ∷ codes "HTTP/1.1 200 OK" ∷ [] ∷ []) ++ codes "hi"

abbrev pub early : Message
early = record { start = response (record { status = 103; fields = [] } ∷ []) 200; fields = []; content = codes "hi"; trailers = [] }

abbrev pub no_interims : Bounds
no_interims = record { part = Some 8192; section = Some 65536; interims = Some 0; input = Some (2 ^ 40) }

abbrev pub InterimsTranslated : Type 0
InterimsTranslated = reads early_text early
    × (no_form false early ≡ None)
    × (http1 false early ≡ text (codes "HTTP/1.1 103 " ∷ [] ∷ codes "HTTP/1.1 200 " ∷ codes "transfer-encoding: chunked" ∷ []
    ∷ codes "2" ∷ codes "hi" ∷ codes "0" ∷ [] ∷ []))
    × IsFromAnswer no_interims Https false early_text (broken why.Interims)
    × refuses (text (codes "HTTP/1.1 101 x" ∷ [] ∷ [])) why.Switching

-- 304 has no body, and keeps its content length.
abbrev pub NotModified : Type 0
NotModified = reads (text (codes "HTTP/1.1 304 x" ∷ codes "Content-Length: 9" ∷ [] ∷ [])) (answers 304
    (a_field (codes "content-length") (codes "9") ∷ []) [])

-- A pseudo-field has no place in HTTP/1.1, nor has a trailer line behind a counted body.
abbrev pub counted_with_trailer : Message
counted_with_trailer = record {
  start = response [] 200;
  fields = a_field (codes "content-length") (codes "0") ∷ [];
  content = [];
  trailers = a_field (codes "x-t") (codes "9") ∷ [];
}

abbrev pub SectionsMissing : Type 0
SectionsMissing = (no_form false (asks (codes "GET") (codes "https") [] (codes "/") (a_field (codes ":b") [] ∷ [])) ≡ Some no.Pseudo)
    × (no_form false (answers 200 (a_field (codes "a") (1 ∷ []) ∷ []) []) ≡ Some no.ValueByte)
    × (no_form false (asks (codes "CONNECT") (codes "https") [] (codes "/") (host_h ∷ [])) ≡ Some no.Connect)
    × (no_form false counted_with_trailer ≡ Some no.TrailersCounted)
    × (no_form false (answers 200 (a_field (codes "content-length") (codes "+1") ∷ []) []) ≡ Some no.LengthField)
