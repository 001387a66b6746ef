-- A target is cut into scheme, authority and rest in one way.
use Rattle.std.proofs.Common.{Option, Some, None, IfNone, ◌≡◌, ◌⊎◌, ◌||◌, ℕ, Bool, not, nat_eq, List, ◌∷◌, ◌++◌, drop, IsTrue, codes, refl, sym, ap, subst, ◌∙◌, inl, inr, arith}
use Rattle.std.specs.Char.{to_ascii_lowercase}
use Rattle.std.specs.List.{All}
use Rattle.std.proofs.lemmas.Bool.{false≢true, ne_eqb}
use Rattle.std.proofs.lemmas.List.{get_or-map, length-map}
use Rattle.std.proofs.lemmas.List.Elements.{All-weaker}
use Rattle.std.proofs.lemmas.List.Sums.{AllPass-from_list_all}
use Rattle.bh_spec.specs.Bytes.{is_authority, lower}
use Rattle.bh_spec.specs.Messages.{Control, IsWeb}
use Rattle.h1_spec.specs.declared.Scheme1.{Scheme1}
use Rattle.h1_spec.specs.Targets.{IsAbsoluteForm, IsPathOrQuery}
use Rattle.h1_spec.proofs.Fronts.{Lacks, fails, cut_at, Stops, run_cut}
use Rattle.h1_rules.specs.Targeted.{IsSchemed, IsBare, NamesNoScheme, HasNoForm, Ends}

-- ---- no colon stands in the name of a web scheme

abbrev is_no_colon : ℕ → Bool
is_no_colon byte = not (nat_eq byte 58)

web_lacks : (scheme : List ℕ) → IsWeb scheme → Lacks 58 scheme
web_lacks scheme (inl e) = subst (Lacks 58) (sym e) (fails is_no_colon 58 (codes "http") refl (AllPass-from_list_all is_no_colon (codes "http") refl))
web_lacks scheme (inr e) = subst (Lacks 58) (sym e) (fails is_no_colon 58 (codes "https") refl (AllPass-from_list_all is_no_colon (codes "https") refl))

name_lacks : (name : List ℕ) → IsWeb (lower name) → Lacks 58 name
name_lacks name web k d i e =
    web_lacks (lower name) web k d (omega (arith, i, length-map name to_ascii_lowercase)) (get_or-map to_ascii_lowercase name k d d i ∙ ap to_ascii_lowercase e)

-- ---- an authority ends before a slash or a question mark

abbrev goes_on : ℕ → Bool
goes_on byte = not (nat_eq byte 47 || nat_eq byte 63)

goes : (byte : ℕ) → (Ends byte → ⊥) → IsTrue (goes_on byte)
goes byte n = rw (ne_eqb byte 47 (λ e. n (inl e)), ne_eqb byte 63 (λ e. n (inr e))) refl

authority_goes_on : (byte : ℕ) → IsTrue (is_authority byte) → IsTrue (goes_on byte)
authority_goes_on byte h = goes byte (no_end h)
  where
    no_end : IsTrue (is_authority byte) → Ends byte → ⊥
    no_end h (inl e) = false≢true (subst (λ (z : ℕ). IsTrue (is_authority z)) e h)
    no_end h (inr e) = false≢true (subst (λ (z : ℕ). IsTrue (is_authority z)) e h)

stops : (rest : List ℕ) → IsPathOrQuery rest → Stops goes_on rest
stops rest (inl n) byte more e h = absurd cc
stops rest (inr s) byte more e h =
    let same : byte ≡ s.0 = cc in
    by_case s.3 (subst (λ (z : ℕ). IsTrue (goes_on z)) same h)
  where
    by_case : (s.0 ≡ 47) ⊎ (s.0 ≡ 63) → IsTrue (goes_on s.0) → ⊥
    by_case (inl e) h = false≢true (subst (λ (z : ℕ). IsTrue (goes_on z)) e h)
    by_case (inr e) h = false≢true (subst (λ (z : ℕ). IsTrue (goes_on z)) e h)

-- ---- one cut

pub parts_once : (method target : List ℕ) (control : Control) (form : IsAbsoluteForm method target control) (scheme behind authority rest : List ℕ)
    → IsWeb scheme → IsSchemed scheme behind target → behind ≡ authority ++ rest → All (λ byte. Ends byte → ⊥) authority → IsPathOrQuery rest
    → (authority ≡ form.authority) × (rest ≡ form.rest)
parts_once method target control form scheme behind authority rest web schemed whole before after =
    let cut = cut_at 58 schemed.name form.name (47 ∷ 47 ∷ behind) (47 ∷ 47 ∷ (form.authority ++ form.rest))
    (name_lacks schemed.name (subst IsWeb (sym schemed.same) web)) (name_lacks form.name form.web) (sym schemed.written ∙ form.written) in
    run_cut goes_on authority form.authority rest form.rest
    (All-weaker (λ (byte : ℕ). Ends byte → ⊥) (λ (byte : ℕ). IsTrue (goes_on byte)) goes authority before)
    (All-weaker (λ (byte : ℕ). IsTrue (is_authority byte)) (λ (byte : ℕ). IsTrue (goes_on byte)) authority_goes_on form.authority form.each)
    (stops rest after) (stops form.rest form.behind)
    (sym whole ∙ ap (λ (z : List ℕ). drop 2 z) cut.1)

pub no_schemed : (method target : List ℕ) → ((scheme rest : List ℕ) → IsWeb scheme → IsSchemed scheme rest target → ⊥) → NamesNoScheme method target
no_schemed method target none control form =
    none (lower form.name) (form.authority ++ form.rest) form.web (record { name = form.name; same = refl; written = form.written })

pub no_form : (scheme : Scheme1) (method target : List ℕ) → (IsBare method target → ⊥) → NamesNoScheme method target → HasNoForm scheme method target
no_form scheme method target bare none control (inl star) = bare (inl (star.options, star.star))
no_form scheme method target bare none control (inr (inl origin)) = bare (inr (origin.slash, origin.each))
no_form scheme method target bare none control (inr (inr form)) = none control form

pub none_weaker : {X P Q : Type 0} (o : Option X) → (P → Q) → IfNone o P → IfNone o Q
none_weaker None f h = f h
none_weaker (Some x) f h = h
