-- What is read is valid, and is read again from its own text.
use Rattle.std.proofs.Common.{◌≡◌, ◌⊎◌, true, false, arith, ℕ, List, [], ◌∷◌, length, All, IsTrue, codes, bytes_eq, nat_eq, refl, sym, ap, subst, ◌∙◌, inl, inr}
use Rattle.std.proofs.lemmas.Bool.{cases_Bool, cond-true, cond-false, eqb-false}
use Rattle.std.proofs.lemmas.List.Elements.{All-nil, All-cons, All-weaker}
use Rattle.std.proofs.lemmas.List.Sums.{AllPass-from_list_all}
use Rattle.bh_spec.specs.Bounds.{Bounds, no_bounds}
use Rattle.bh_spec.specs.Bytes.{is_authority, is_path, is_scheme}
use Rattle.bh_spec.specs.Messages.{Field, Control, Interim, Start, request, response, Message, IsPseudoField, IsRegularField, AreHeaders, IsScheme, IsWeb, IsInterim, IsStart}
use Rattle.h1_spec.specs.declared.Scheme1.{Scheme1}
use Rattle.bh_spec.specs.Texts.{AreEach}
use Rattle.h1_spec.specs.Heads.{StartLine, Head, IsStartLine}
use Rattle.h1_spec.specs.Cleaning.{clean_message}
use Rattle.h1_spec.specs.Targets.{scheme_of, path_behind, IsPathOrQuery, IsTargetOf}
use Rattle.h1_spec.specs.Http1.{IsInterimHead, interims_of, IsStartOf, IsHttp1}
use Rattle.h1_spec.specs.Http1Text.{http1, KeepsLimits}
use Rattle.h1_spec.specs.Laws.{ReadIsValid, IsSchemeOf, ThereRead, ReadAgain, IntoThenFrom, IntoThenRead, FromThenInto, FromIntoFrom}
use Rattle.bh_spec.proofs.Written.{canonical}
use Rattle.h1_spec.proofs.Lists.{same_name}
use Rattle.h1_spec.specs.Heads.{IsHeadField}
use Rattle.h1_spec.proofs.HeadFields.{regular}
use Rattle.h1_spec.proofs.Reading.{one_message}
use Rattle.h1_spec.proofs.Back.{message_clean, read_has_text, interim_fields, read_fields, read_trailers, target_web}
use Rattle.h1_spec.proofs.Forth.{there, there_within}
use Rattle.h1_spec.proofs.Members.{formed_where_free}
use Rattle.h1_spec.proofs.Unjudging.{free_where_formed}
use Rattle.bh_spec.specs.Canonical.{canon}
use Rattle.bh_spec.specs.declared.Omitted.TheVariants.{Nothing}

all_headers : (fs : List Field) → All IsHeadField fs → AreHeaders fs
all_headers fs h = ([], fs, refl, All-nil IsPseudoField, All-weaker IsHeadField IsRegularField regular fs h)

interims_valid : (L : Bounds) (is : List Interim) (x : List ℕ) → AreEach (IsInterimHead L) is x → All IsInterim is
interims_valid L [] x h = All-nil IsInterim
interims_valid L (i ∷ is) x h =
    All-cons IsInterim i is (record { number = h.2.number; fields = all_headers i.fields (interim_fields L i h.0 h.2) }) (interims_valid L is h.1 h.3)

scheme_valid : (s : List ℕ) → IsWeb s → IsScheme s
scheme_valid s (inl e) = subst IsScheme (sym e) (record { letter = (104, codes "ttp", refl, refl); each = AllPass-from_list_all is_scheme (codes "http") refl; lower_case = refl })
scheme_valid s (inr e) = subst IsScheme (sym e) (record { letter = (104, codes "ttps", refl, refl); each = AllPass-from_list_all is_scheme (codes "https") refl; lower_case = refl })

abbrev IsSlashed : List ℕ → List ℕ → Type 0
IsSlashed method path = ((rest : List ℕ) × (path ≡ 47 ∷ rest)) ⊎ ((method ≡ codes "OPTIONS") × (path ≡ codes "*"))

abbrev IsGoodPath : List ℕ → List ℕ → Type 0
IsGoodPath method path = All (λ b. IsTrue (is_path b)) path × IsSlashed method path

behind_good : (method rest : List ℕ) → IsPathOrQuery rest → All (λ b. IsTrue (is_path b)) rest → IsGoodPath method (path_behind method rest)
behind_good method [] h each = by_method (cases_Bool (bytes_eq method (codes "OPTIONS")))
  where
    by_method : (bytes_eq method (codes "OPTIONS") ≡ true) ⊎ (bytes_eq method (codes "OPTIONS") ≡ false) → IsGoodPath method (path_behind method [])
    by_method (inl e) =
        subst (IsGoodPath method) (sym (cond-true (bytes_eq method (codes "OPTIONS")) (codes "*") (codes "/") e))
        (AllPass-from_list_all is_path (codes "*") refl, inr (same_name method (codes "OPTIONS") e, refl))
    by_method (inr e) =
        subst (IsGoodPath method) (sym (cond-false (bytes_eq method (codes "OPTIONS")) (codes "*") (codes "/") e))
        (AllPass-from_list_all is_path (codes "/") refl, inl ([], refl))
behind_good method (b ∷ rest) h each = by_byte (cases_Bool (nat_eq b 63)) h
  where
    by_byte : (nat_eq b 63 ≡ true) ⊎ (nat_eq b 63 ≡ false) → IsPathOrQuery (b ∷ rest) → IsGoodPath method (path_behind method (b ∷ rest))
    by_byte (inl e) k =
        subst (IsGoodPath method) (sym (cond-true (nat_eq b 63) (47 ∷ b ∷ rest) (b ∷ rest) e))
        (All-cons (λ c. IsTrue (is_path c)) 47 (b ∷ rest) refl each, inl (b ∷ rest, refl))
    by_byte (inr e) (inl n) = absurd cc
    by_byte (inr e) (inr s) =
        subst (IsGoodPath method) (sym (cond-false (nat_eq b 63) (47 ∷ b ∷ rest) (b ∷ rest) e)) (each, inl (slash s.3))
      where
        slash : (s.0 ≡ 47) ⊎ (s.0 ≡ 63) → (after : List ℕ) × ((b ∷ rest) ≡ 47 ∷ after)
        slash (inl d) = (s.1, s.2 ∙ ap (λ (c : ℕ). c ∷ s.1) d)
        slash (inr d) =
            let same : b ≡ s.0 = cc in
            absurd (eqb-false b 63 e (same ∙ d))

target_good : (scheme : Scheme1) (method target : List ℕ) (c : Control) → IsTargetOf scheme method target c → All (λ b. IsTrue (is_authority b)) c.authority × IsGoodPath method c.path
target_good scheme method target c (inl p) =
    subst (λ (d : Control). All (λ b. IsTrue (is_authority b)) d.authority × IsGoodPath method d.path) (sym p.gives)
    (All-nil (λ b. IsTrue (is_authority b)), (subst (All (λ b. IsTrue (is_path b))) (sym p.star) (AllPass-from_list_all is_path (codes "*") refl), inr (p.options, p.star)))
target_good scheme method target c (inr (inl p)) =
    subst (λ (d : Control). All (λ b. IsTrue (is_authority b)) d.authority × IsGoodPath method d.path) (sym p.gives)
    (All-nil (λ b. IsTrue (is_authority b)), (p.each, inl p.slash))
target_good scheme method target c (inr (inr p)) =
    subst (λ (d : Control). All (λ b. IsTrue (is_authority b)) d.authority × IsGoodPath method d.path) (sym p.gives)
    (p.each, behind_good method p.rest p.behind p.path)

start_valid : (L : Bounds) (scheme : Scheme1) (head : Head) (a : Start) (line x : List ℕ) → AreEach (IsInterimHead L) (interims_of a) x → IsStartLine head.start line → IsStartOf scheme head a
    → IsStart a
start_valid L scheme head (request c) line x each l s =
    let own = subst (λ (z : StartLine). IsStartLine z line) s.1 l in
    let good = target_good scheme c.method s.0 c s.2 in
    record {
      method = own.0;
      scheme = scheme_valid c.scheme (target_web scheme c.method s.0 c s.2);
      authority = good.0;
      path = record { each = good.1.0; web = λ w. good.1.1 };
    }
start_valid L scheme head (response is status) line x each l s =
    let own = subst (λ (z : StartLine). IsStartLine z line) s.0 l in
    record { each = interims_valid L is x each; final = record { low = s.1; high = own.1 } }

pub read_is_valid : ReadIsValid
read_is_valid L scheme to_head m bytes h = record {
  start = start_valid L scheme h.head m.start h.text.3.2.1.2.0 h.text.0 h.text.2 h.text.3.2.1.2.2 h.start;
  fields = all_headers m.fields (read_fields L scheme to_head m bytes h);
  content = h.content;
  trailers = All-weaker IsHeadField IsRegularField regular m.trailers (read_trailers L scheme to_head m bytes h);
}

-- ---- and read again

target_scheme : (scheme : Scheme1) (method target : List ℕ) (c : Control) → IsTargetOf scheme method target c → c.authority ≡ [] → c.scheme ≡ scheme_of scheme
target_scheme scheme method target c (inl p) e = ap (λ (d : Control). d.scheme) p.gives
target_scheme scheme method target c (inr (inl p)) e = ap (λ (d : Control). d.scheme) p.gives
target_scheme scheme method target c (inr (inr p)) e =
    absurd (omega (arith, p.some, ap (length {A = ℕ}) (sym (ap (λ (d : Control). d.authority) p.gives) ∙ e)))

own_scheme : (scheme : Scheme1) (head : Head) (a : Start) → IsStartOf scheme head a → IsSchemeOf a scheme
own_scheme scheme head (request c) s = target_scheme scheme c.method s.0 c s.2
own_scheme scheme head (response is status) s = tt

pub there_read : ThereRead
there_read L scheme to_head m n valid own form h =
    one_message L no_bounds scheme to_head n (clean_message m) (http1 to_head m) h (there scheme to_head m valid own form)

pub read_again : ReadAgain
read_again L scheme to_head m bytes h =
    subst (λ (n : Message). IsHttp1 no_bounds scheme to_head n (http1 to_head m)) (message_clean L scheme to_head m bytes h)
    (there scheme to_head m (read_is_valid L scheme to_head m bytes h) (own_scheme scheme h.head m.start h.start) (read_has_text L scheme to_head m bytes h))

-- ---- in the words of the translators

pub into_then_from : IntoThenFrom
into_then_from K L scheme to_head bytes m n omitted padding p own q = there_read L scheme to_head m n p.0.message.1.spelled.valid own (free_where_formed K to_head bytes m omitted padding p) q.1

pub from_then_into : FromThenInto
from_then_into L scheme to_head bytes m p writable within =
    formed_where_free L to_head (canon m) m Nothing 0 (within, canonical L m (read_is_valid L scheme to_head m bytes p.1) writable p.1.fits)
    (read_has_text L scheme to_head m bytes p.1)

pub into_then_read : IntoThenRead
into_then_read K L scheme to_head bytes m omitted padding p own keeps within =
    (within, there_within L scheme to_head m p.0.message.1.spelled.valid own (free_where_formed K to_head bytes m omitted padding p) keeps)

pub from_into_from : FromIntoFrom
from_into_from L scheme to_head bytes m p keeps within =
    let same : clean_message m ≡ m = message_clean L scheme to_head m bytes p.1 in (
      within,
      subst (λ (n : Message). IsHttp1 L scheme to_head n (http1 to_head m)) same
          (there_within L scheme to_head m (read_is_valid L scheme to_head m bytes p.1) (own_scheme scheme p.1.head m.start p.1.start) (read_has_text L scheme to_head m bytes p.1)
          (subst (KeepsLimits L to_head) (sym same) keeps)),
    )
