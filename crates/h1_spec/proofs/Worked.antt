-- The worked cases hold: names, cookies, trailers, targets, forms, and the answer to HEAD.
use Rattle.std.proofs.Common.{arith, ℕ, List, [], ◌∷◌, codes, refl, sym, inl, inr}
use Rattle.std.proofs.lemmas.List.Elements.{All-nil}
use Rattle.std.proofs.lemmas.List.Sums.{AllPass-from_list_all}
use Rattle.bh_spec.specs.declared.H1Why.TheVariants as why
use Rattle.bh_spec.specs.Bounds.{default_bounds}
use Rattle.bh_spec.specs.Bytes.{is_text_value, is_authority, is_path}
use Rattle.bh_spec.specs.Messages.{Control}
use Rattle.bh_spec.specs.Canonical.{FieldsFit}
use Rattle.h1_spec.specs.declared.Scheme1.TheVariants.{Https}
use Rattle.h1_spec.specs.Heads.{IsHead}
use Rattle.h1_spec.specs.Targets.{IsTargetOf}
use Rattle.h1_spec.specs.Framing.{IsCounted}
use Rattle.h1_spec.specs.Cases.{a_field, host_h, HopsNamed, CookiesJoined, TrailersCleaned, StarWritten, FormsMissing, WholeTarget, StarRefused, head_text, HeadAnswered}
use Rattle.h1_spec.proofs.TargetTexts.{web_first}
use Rattle.h1_spec.proofs.Readings.{Shown, shown, AreGood, request_is, status_head, status_is, status_line_is, cause_of, differ, fit, none_fit, one_host, asked, short_control, nine, refused_by}

pub hops_named : HopsNamed
hops_named = refl

pub cookies_joined : CookiesJoined
cookies_joined = (refl, refl, refl)

pub trailers_cleaned : TrailersCleaned
trailers_cleaned = refl

pub star_written : StarWritten
star_written = (refl, refl)

pub forms_missing : FormsMissing
forms_missing = (refl, refl, refl, refl, refl, refl, refl, refl, refl, refl)

-- ---- texts that are read

abbrev host_shown : Shown
host_shown = shown (codes "Host") (codes "h")

host_good : AreGood (host_shown ∷ [])
host_good = ((omega arith, refl, refl, refl, refl, refl), tt)

abbrev query : List ℕ
query = codes "HTTP://a.example?x=1"

abbrev queried : Control
queried = record { method = codes "GET"; scheme = codes "http"; authority = codes "a.example"; path = codes "/?x=1" }

query_is : IsTargetOf Https (codes "GET") query queried
query_is = inr (inr (record {
  name = codes "HTTP";
  authority = codes "a.example";
  rest = codes "?x=1";
  web = inl refl;
  some = omega arith;
  each = AllPass-from_list_all is_authority (codes "a.example") refl;
  behind = inr (63, codes "x=1", refl, inr refl);
  path = AllPass-from_list_all is_path (codes "?x=1") refl;
  written = refl;
  gives = refl;
}))

pub whole_target : WholeTarget
whole_target =
    asked queried query (host_shown ∷ []) [] [] [] (request_is (codes "GET") query (host_shown ∷ []) (omega arith) refl (omega arith) refl host_good)
    (omega arith) (omega arith) query_is refl (one_host queried (host_h ∷ []) (codes "h") refl refl) (inl refl) (inl refl) (refl, refl, refl) (All-nil _)
    (short_control queried (omega arith) (omega arith) (omega arith) (omega arith)) none_fit none_fit

no_target : (c : Control) → IsTargetOf Https (codes "GET") (codes "*") c → ⊥
no_target c (inl p) = differ (codes "GET") (codes "OPTIONS") refl p.options
no_target c (inr (inl p)) = differ (codes "*") (47 ∷ p.slash.0) refl p.slash.1
no_target c (inr (inr p)) = web_first p.name _ [] 42 p.web (λ e. absurd (omega arith)) (sym p.written)

pub star_refused : StarRefused
star_refused =
    refused_by (codes "GET") (codes "*") (host_shown ∷ []) [] why.Target (request_is (codes "GET") (codes "*") (host_shown ∷ []) (omega arith) refl (omega arith) refl host_good)
    (omega arith) (omega arith) (inr (differ (codes "GET") (codes "CONNECT") refl, inl (no_target, refl)))

-- ---- the answer to HEAD

abbrev length_lines : List Shown
length_lines = shown (codes "Content-Length") (codes "9") ∷ []

ok_written : IsHead (status_head 200 length_lines) head_text
ok_written =
    status_is 200 (codes "HTTP/1.1 200 x") (codes "x") length_lines
    (status_line_is 200 (codes "x") (codes "HTTP/1.1 200 x") (omega arith) (omega arith) (AllPass-from_list_all is_text_value (codes "x") refl) refl)
    ((omega arith, refl, refl, refl, refl, refl), tt)

length_fits : FieldsFit default_bounds (a_field (codes "content-length") (codes "9") ∷ [])
length_fits = fit (a_field (codes "content-length") (codes "9") ∷ []) ((omega arith, omega arith), tt) (omega arith)

one_length : IsCounted (a_field (codes "content-length") (codes "9") ∷ [])
one_length = inr (codes "9", refl, nine)

pub head_answered : HeadAnswered
head_answered = (
  (
    omega arith,
    record {
      head = status_head 200 length_lines;
      trailers = [];
      text = ([], head_text, refl, (head_text, [], (omega arith, ok_written), (refl, refl, refl), refl), refl);
      start = (refl, omega arith);
      coded = inl refl;
      counted = one_length;
      fields = refl;
      cleaned = refl;
      content = All-nil _;
      fits = record { start = (omega arith, All-nil _); fields = length_fits; trailers = none_fit };
    },
  ),
  inl (
    omega arith,
    cause_of default_bounds (status_head 200 length_lines) head_text [] why.Ended (omega arith) (omega arith) ok_written
        (inr ((λ e. absurd (omega arith)), inr ((λ n. absurd (omega (arith, n.0))), inr ((λ n. n length_fits), (omega arith, inr ((λ n. n (inl refl)), inr ((λ n. n one_length), inl (omega arith, refl)))))))),
  ),
)
