-- From what words set to what they mean.
use Rattle.std.proofs.Common.{◌≡◌, ◌∙◌, ℕ, refl, sym, ap, ap₂, subst, List, [], ◌∷◌, Option, Some, None, is_some, codes, MatchOption, Bool, true, false, if◌then◌else◌, arith}
use Rattle.std.specs.List.{Contains}
use Rattle.std.specs.Str.{bytes_eq}
use Rattle.bh_spec.specs.Bounds.{Bounds, default_bounds}
use Rattle.bh_words.specs.Numbers.{IsGiven}
use Rattle.bh_words.specs.Settings.{Text, Form, Setting, Set, value_of}
use Rattle.bh_words.specs.Arguments.{is_form, is_among}
use Rattle.bh_words.specs.Words.{AreGiven, IsScheme, AreInto, AreFrom, IsTrial, MeanLimits, MeanFrom, MeanInto, MeanTrial, limited, from_http1, into_http1, counted, name_of, IsCommand}
use Rattle.h1_spec.specs.declared.Scheme1.{Scheme1}
use Rattle.h1_spec.specs.declared.Scheme1.TheVariants.{Http, Https}
use Rattle.bh_words.specs.declared.commands.Command.{Command}
use Rattle.bh_words.specs.declared.commands.Command.TheVariants.{Canon, Check, Show, FromHttp1, ToHttp1, Trial}
use Rattle.clap.specs.Matches.{first_value, found_of, one_text}
use Rattle.clap.specs.declared.parser.matches.ArgMatches.{ArgMatches}
use Rattle.bh_words.specs.Reader.{SetsNothing, Sets}
use Rattle.std.specs.Str.Parse.{digits_value}
use Rattle.bh_words.proofs.Limiting.{one_given}
use Rattle.bh_words.proofs.Exact.{one_set}

-- the same values give the same
given_same : (v w : Text → Option Text) → ((name : Text) → v name ≡ w name) → (limits : Bounds) → AreGiven v limits → AreGiven w limits
given_same v w same limits h = record {
  part = subst (λ o. IsGiven o default_bounds.part limits.part) (same (codes "part")) h.part;
  section = subst (λ o. IsGiven o default_bounds.section limits.section) (same (codes "section")) h.section;
  interims = subst (λ o. IsGiven o default_bounds.interims limits.interims) (same (codes "interims")) h.interims;
  input = subst (λ o. IsGiven o default_bounds.input limits.input) (same (codes "input")) h.input;
  valid = h.valid;
}

trial_same : (v w : Text → Option Text) → ((name : Text) → v name ≡ w name) → (n : ℕ) → IsTrial v n → IsTrial w n
trial_same v w same n h = record { text = h.text; there = sym (same (codes "N")) ∙ h.there; number = h.number; most = h.most }

-- What the values mean, the words mean, and nothing else.
module _ {X : Type 0} (f : Form) (form : is_form f ≡ true) (P : (Text → Option Text) → X → Type 0)
    (same : (v w : Text → Option Text) → ((name : Text) → v name ≡ w name) → (x : X) → P v x → P w x)
    (words : List Text) (value : Text → Option Text) (settings : List Setting) (set : Set f settings words) (gives : (name : Text) → value name ≡ value_of name settings) where
  pub meant : (r : Option X) → MatchOption r ((x : X) → P value x → ⊥) (P value)
      → MatchOption r ((x : X) → ((all : List Setting) × Set f all words × P (λ name. value_of name all) x) → ⊥) (λ x. (all : List Setting) × Set f all words × P (λ name. value_of name all) x)
  meant None none = λ x h. none x (same (λ name. value_of name settings) value (λ name. sym (gives name)) x
      (subst (λ (all : List Setting). P (λ name. value_of name all) x) (one_set f form words h.0 settings h.1 set) h.2))
  meant (Some x) is = (settings, set, same value (λ name. value_of name settings) gives x is)

pub limits_meant : (words : List Text) (value : Text → Option Text) (settings : List Setting) → Set limited settings words → ((name : Text) → value name ≡ value_of name settings)
    → (r : Option Bounds) → MatchOption r ((limits : Bounds) → AreGiven value limits → ⊥) (AreGiven value) → MatchOption r ((limits : Bounds) → MeanLimits words limits → ⊥) (MeanLimits words)
limits_meant words value settings set gives = meant limited refl AreGiven given_same words value settings set gives

pub trial_meant : (words : List Text) (value : Text → Option Text) (settings : List Setting) → Set counted settings words → ((name : Text) → value name ≡ value_of name settings)
    → (r : Option ℕ) → MatchOption r ((n : ℕ) → IsTrial value n → ⊥) (IsTrial value) → MatchOption r ((n : ℕ) → MeanTrial words n → ⊥) (MeanTrial words)
trial_meant words value settings set gives = meant counted refl IsTrial trial_same words value settings set gives

pub limits_read : (words : List Text) (o : Option ArgMatches) (m : ArgMatches) → MatchOption o (SetsNothing limited words) (Sets limited words) → o ≡ Some m
    → (r : Option Bounds) → MatchOption r ((limits : Bounds) → AreGiven (first_value (found_of m)) limits → ⊥) (AreGiven (first_value (found_of m)))
    → MatchOption r ((limits : Bounds) → MeanLimits words limits → ⊥) (MeanLimits words)
limits_read words o m told is =
    let sets : Sets limited words m = subst (λ x. MatchOption x (SetsNothing limited words) (Sets limited words)) is told in
    limits_meant words (first_value (found_of m)) sets.0 sets.1 (λ name. sets.2.values name refl)

-- a switch that is told is set, and one that isn't told isn't
flag_is : (value : Option Text) (text : Option Text) (flag : Bool) → text ≡ Some (if is_some value then codes "true" else codes "false")
    → (text ≡ Some (codes "true") → flag ≡ true) → (text ≡ Some (codes "false") → flag ≡ false) → flag ≡ is_some value
flag_is (Some x) text flag e f g = f e
flag_is None text flag e f g = g e

-- a command whose only switch says that a response answers HEAD
module _ (f : Form) (form : is_form f ≡ true) (switch : f.switches ≡ codes "to-head" ∷ []) (words : List Text) (o : Option ArgMatches) (m : ArgMatches)
    (told : MatchOption o (SetsNothing f words) (Sets f words)) (is : o ≡ Some m) where
  abbrev sets : Sets f words m
  sets = subst (λ x. MatchOption x (SetsNothing f words) (Sets f words)) is told

  abbrev value : Text → Option Text
  value name = value_of name sets.0

  -- the matches give the values of the settings
  gives : (name : Text) → is_among (codes "to-head" ∷ []) name ≡ false → first_value (found_of m) name ≡ value name
  gives name away = sets.2.values name (ap (λ names. is_among names name) switch ∙ away)

  to_settings : (limits : Bounds) → AreGiven (first_value (found_of m)) limits → AreGiven value limits
  to_settings limits h = record {
    part = subst (λ x. IsGiven x default_bounds.part limits.part) (gives (codes "part") refl) h.part;
    section = subst (λ x. IsGiven x default_bounds.section limits.section) (gives (codes "section") refl) h.section;
    interims = subst (λ x. IsGiven x default_bounds.interims limits.interims) (gives (codes "interims") refl) h.interims;
    input = subst (λ x. IsGiven x default_bounds.input limits.input) (gives (codes "input") refl) h.input;
    valid = h.valid;
  }

  from_settings : (limits : Bounds) → AreGiven value limits → AreGiven (first_value (found_of m)) limits
  from_settings limits h = record {
    part = subst (λ x. IsGiven x default_bounds.part limits.part) (sym (gives (codes "part") refl)) h.part;
    section = subst (λ x. IsGiven x default_bounds.section limits.section) (sym (gives (codes "section") refl)) h.section;
    interims = subst (λ x. IsGiven x default_bounds.interims limits.interims) (sym (gives (codes "interims") refl)) h.interims;
    input = subst (λ x. IsGiven x default_bounds.input limits.input) (sym (gives (codes "input") refl)) h.input;
    valid = h.valid;
  }

  headed : (limits : Bounds) (flag : Bool) → AreGiven (first_value (found_of m)) limits
      → (one_text (found_of m) (codes "to-head") ≡ Some (codes "true") → flag ≡ true) → (one_text (found_of m) (codes "to-head") ≡ Some (codes "false") → flag ≡ false)
      → AreInto value limits flag
  headed limits flag h on off = record {
    given = to_settings limits h;
    switched = flag_is (value (codes "to-head")) (one_text (found_of m) (codes "to-head")) flag (sets.2.flags (codes "to-head") (subst (λ names. Contains names (codes "to-head")) (sym switch) (0, omega arith, refl))) on off;
  }

  -- what other settings of the same words say, these do
  of_these : (P : (Text → Option Text) → Type 0) (settings : List Setting) → Set f settings words → P (λ name. value_of name settings) → P value
  of_these P settings set h = subst (λ (all : List Setting). P (λ name. value_of name all)) (one_set f form words settings sets.0 set sets.1) h

module _ (words : List Text) (o : Option ArgMatches) (m : ArgMatches) (told : MatchOption o (SetsNothing into_http1 words) (Sets into_http1 words)) (is : o ≡ Some m) where
  pub into_some : (limits : Bounds) (flag : Bool) → AreGiven (first_value (found_of m)) limits
      → (one_text (found_of m) (codes "to-head") ≡ Some (codes "true") → flag ≡ true) → (one_text (found_of m) (codes "to-head") ≡ Some (codes "false") → flag ≡ false)
      → MeanInto words limits flag
  into_some limits flag h on off =
      let s = sets into_http1 refl refl words o m told is in (s.0, s.1, headed into_http1 refl refl words o m told is limits flag h on off)

  pub into_none : ((limits : Bounds) → AreGiven (first_value (found_of m)) limits → ⊥) → (limits : Bounds) (to_head : Bool) → MeanInto words limits to_head → ⊥
  into_none none limits to_head h =
      none limits (from_settings into_http1 refl refl words o m told is limits (of_these into_http1 refl refl words o m told is (λ v. AreGiven v limits) h.0 h.1 h.2.given))

module _ (words : List Text) (o : Option ArgMatches) (m : ArgMatches) (told : MatchOption o (SetsNothing from_http1 words) (Sets from_http1 words)) (is : o ≡ Some m) where
  pub from_some : (limits : Bounds) (scheme : Scheme1) (flag : Bool) → AreGiven (first_value (found_of m)) limits → IsScheme (first_value (found_of m) (codes "scheme")) scheme
      → (one_text (found_of m) (codes "to-head") ≡ Some (codes "true") → flag ≡ true) → (one_text (found_of m) (codes "to-head") ≡ Some (codes "false") → flag ≡ false)
      → MeanFrom words limits scheme flag
  from_some limits scheme flag h named on off =
      let s = sets from_http1 refl refl words o m told is in (
        s.0,
        s.1,
        record {
          headed = headed from_http1 refl refl words o m told is limits flag h on off;
          named = subst (λ x. IsScheme x scheme) (gives from_http1 refl refl words o m told is (codes "scheme") refl) named;
        },
      )

  pub from_unlimited : ((limits : Bounds) → AreGiven (first_value (found_of m)) limits → ⊥) → (limits : Bounds) (scheme : Scheme1) (to_head : Bool) → MeanFrom words limits scheme to_head → ⊥
  from_unlimited none limits scheme to_head h =
      none limits (from_settings from_http1 refl refl words o m told is limits (of_these from_http1 refl refl words o m told is (λ v. AreGiven v limits) h.0 h.1 h.2.headed.given))

  pub from_unnamed : ((scheme : Scheme1) → IsScheme (first_value (found_of m) (codes "scheme")) scheme → ⊥) → (limits : Bounds) (scheme : Scheme1) (to_head : Bool) → MeanFrom words limits scheme to_head → ⊥
  from_unnamed none limits scheme to_head h =
      none scheme (subst (λ x. IsScheme x scheme) (sym (gives from_http1 refl refl words o m told is (codes "scheme") refl)) (of_these from_http1 refl refl words o m told is (λ v. IsScheme (v (codes "scheme")) scheme) h.0 h.1 h.2.named))

pub trial_read : (words : List Text) (o : Option ArgMatches) (m : ArgMatches) → MatchOption o (SetsNothing counted words) (Sets counted words) → o ≡ Some m
    → (r : Option ℕ) → MatchOption r ((n : ℕ) → IsTrial (first_value (found_of m)) n → ⊥) (IsTrial (first_value (found_of m)))
    → MatchOption r ((n : ℕ) → MeanTrial words n → ⊥) (MeanTrial words)
trial_read words o m told is =
    let sets : Sets counted words m = subst (λ x. MatchOption x (SetsNothing counted words) (Sets counted words)) is told in
    trial_meant words (first_value (found_of m)) sets.0 sets.1 (λ name. sets.2.values name refl)

-- ---- commands by their names
behind : (a b : Text) (ws vs : List Text) → a ∷ ws ≡ b ∷ vs → ws ≡ vs
behind a b ws vs e = cc

front : (a b : Text) (ws vs : List Text) → a ∷ ws ≡ b ∷ vs → a ≡ b
front a b ws vs e = cc

-- an answer that is none holds of nothing
none_found : {X : Type 0} (P : X → Type 0) (o : Option X) → MatchOption o ((x : X) → P x → ⊥) P → o ≡ None → (x : X) → P x → ⊥
none_found P None h e = h
none_found P (Some x) h e = absurd cc

-- words with the name of one command are those of no other
pub no_canon : (words : List Text) (o : Option Bounds) → MatchOption o ((limits : Bounds) → MeanLimits words limits → ⊥) (MeanLimits words) → o ≡ None → (command : Command) → IsCommand (codes "canon" ∷ words) command → ⊥
no_canon words o answer none (Canon limits) is = none_found (MeanLimits words) o answer none limits (is.settings, subst (λ ws. Set limited is.settings ws) (sym (behind (codes "canon") (codes "canon") words is.rest is.named)) is.set, is.meant)
no_canon words o answer none other is = let e : true ≡ false = ap (bytes_eq (codes "canon")) (front (codes "canon") (name_of other) words is.rest is.named) in absurd cc

pub no_check : (words : List Text) (o : Option Bounds) → MatchOption o ((limits : Bounds) → MeanLimits words limits → ⊥) (MeanLimits words) → o ≡ None → (command : Command) → IsCommand (codes "check" ∷ words) command → ⊥
no_check words o answer none (Check limits) is = none_found (MeanLimits words) o answer none limits (is.settings, subst (λ ws. Set limited is.settings ws) (sym (behind (codes "check") (codes "check") words is.rest is.named)) is.set, is.meant)
no_check words o answer none other is = let e : true ≡ false = ap (bytes_eq (codes "check")) (front (codes "check") (name_of other) words is.rest is.named) in absurd cc

pub no_show : (words : List Text) (o : Option Bounds) → MatchOption o ((limits : Bounds) → MeanLimits words limits → ⊥) (MeanLimits words) → o ≡ None → (command : Command) → IsCommand (codes "show" ∷ words) command → ⊥
no_show words o answer none (Show limits) is = none_found (MeanLimits words) o answer none limits (is.settings, subst (λ ws. Set limited is.settings ws) (sym (behind (codes "show") (codes "show") words is.rest is.named)) is.set, is.meant)
no_show words o answer none other is = let e : true ≡ false = ap (bytes_eq (codes "show")) (front (codes "show") (name_of other) words is.rest is.named) in absurd cc

pub no_from : (words : List Text) (o : Option (Bounds × Scheme1 × Bool)) → MatchOption o ((all : Bounds × Scheme1 × Bool) → MeanFrom words all.0 all.1 all.2 → ⊥) (λ all. MeanFrom words all.0 all.1 all.2) → o ≡ None
    → (command : Command) → IsCommand (codes "from-http1" ∷ words) command → ⊥
no_from words o answer none (FromHttp1 limits scheme to_head) is =
    none_found (λ (all : Bounds × Scheme1 × Bool). MeanFrom words all.0 all.1 all.2) o answer none (limits, scheme, to_head)
    (is.settings, subst (λ ws. Set from_http1 is.settings ws) (sym (behind (codes "from-http1") (codes "from-http1") words is.rest is.named)) is.set, is.meant)
no_from words o answer none other is = let e : true ≡ false = ap (bytes_eq (codes "from-http1")) (front (codes "from-http1") (name_of other) words is.rest is.named) in absurd cc

pub no_into : (words : List Text) (o : Option (Bounds × Bool)) → MatchOption o ((both : Bounds × Bool) → MeanInto words both.0 both.1 → ⊥) (λ both. MeanInto words both.0 both.1) → o ≡ None → (command : Command) → IsCommand (codes "to-http1" ∷ words) command → ⊥
no_into words o answer none (ToHttp1 limits to_head) is = none_found (λ (both : Bounds × Bool). MeanInto words both.0 both.1) o answer none (limits, to_head) (is.settings, subst (λ ws. Set into_http1 is.settings ws) (sym (behind (codes "to-http1") (codes "to-http1") words is.rest is.named)) is.set, is.meant)
no_into words o answer none other is = let e : true ≡ false = ap (bytes_eq (codes "to-http1")) (front (codes "to-http1") (name_of other) words is.rest is.named) in absurd cc

pub no_trial : (words : List Text) (o : Option ℕ) → MatchOption o ((n : ℕ) → MeanTrial words n → ⊥) (MeanTrial words) → o ≡ None → (command : Command) → IsCommand (codes "trial" ∷ words) command → ⊥
no_trial words o answer none (Trial n) is = none_found (MeanTrial words) o answer none n (is.settings, subst (λ ws. Set counted is.settings ws) (sym (behind (codes "trial") (codes "trial") words is.rest is.named)) is.set, is.meant)
no_trial words o answer none other is = let e : true ≡ false = ap (bytes_eq (codes "trial")) (front (codes "trial") (name_of other) words is.rest is.named) in absurd cc

pub unnamed : (name : Text) (words : List Text) → (name ≡ codes "canon" → ⊥) → (name ≡ codes "check" → ⊥) → (name ≡ codes "show" → ⊥)
    → (name ≡ codes "from-http1" → ⊥) → (name ≡ codes "to-http1" → ⊥) → (name ≡ codes "trial" → ⊥) → (command : Command) → IsCommand (name ∷ words) command → ⊥
unnamed name words canon check show from into trial (Canon limits) is = canon (front name (codes "canon") words is.rest is.named)
unnamed name words canon check show from into trial (Check limits) is = check (front name (codes "check") words is.rest is.named)
unnamed name words canon check show from into trial (Show limits) is = show (front name (codes "show") words is.rest is.named)
unnamed name words canon check show from into trial (FromHttp1 limits scheme to_head) is = from (front name (codes "from-http1") words is.rest is.named)
unnamed name words canon check show from into trial (ToHttp1 limits to_head) is = into (front name (codes "to-http1") words is.rest is.named)
unnamed name words canon check show from into trial (Trial n) is = trial (front name (codes "trial") words is.rest is.named)

-- ---- words mean one command
same_bounds : (a b : Bounds) → a.part ≡ b.part → a.section ≡ b.section → a.interims ≡ b.interims → a.input ≡ b.input → a ≡ b
same_bounds a b p s i n =
    ap (λ x. record a { part = x }) p ∙ (ap (λ x. record a { part = b.part; section = x }) s
    ∙ (ap (λ x. record a { part = b.part; section = b.section; interims = x }) i ∙ ap (λ x. record a { part = b.part; section = b.section; interims = b.interims; input = x }) n))

one_limits : (value : Text → Option Text) (a b : Bounds) → AreGiven value a → AreGiven value b → a ≡ b
one_limits value a b h k = same_bounds a b
    (one_given (value (codes "part")) default_bounds.part a.part b.part h.part k.part)
    (one_given (value (codes "section")) default_bounds.section a.section b.section h.section k.section)
    (one_given (value (codes "interims")) default_bounds.interims a.interims b.interims h.interims k.interims)
    (one_given (value (codes "input")) default_bounds.input a.input b.input h.input k.input)

limits_once : (words : List Text) (a b : Bounds) → MeanLimits words a → MeanLimits words b → a ≡ b
limits_once words a b h k =
    one_limits (λ name. value_of name k.0) a b (subst (λ (all : List Setting). AreGiven (λ name. value_of name all) a) (one_set limited refl words h.0 k.0 h.1 k.1) h.2) k.2

some_text : (a b : Text) → Some a ≡ Some b → a ≡ b
some_text a b e = cc

one_trial : (value : Text → Option Text) (a b : ℕ) → IsTrial value a → IsTrial value b → a ≡ b
one_trial value a b h k =
    h.number.value ∙ (ap (digits_value 10) (some_text h.text k.text (sym h.there ∙ k.there)) ∙ sym k.number.value)

trial_once : (words : List Text) (a b : ℕ) → MeanTrial words a → MeanTrial words b → a ≡ b
trial_once words a b h k =
    one_trial (λ name. value_of name k.0) a b (subst (λ (all : List Setting). IsTrial (λ name. value_of name all) a) (one_set counted refl words h.0 k.0 h.1 k.1) h.2) k.2

-- two commands of the same words
rests : (words : List Text) (a b : Command) (p : IsCommand words a) (q : IsCommand words b) → q.rest ≡ p.rest
rests words a b p q = behind (name_of b) (name_of a) q.rest p.rest (sym q.named ∙ p.named)

names : (words : List Text) (a b : Command) → IsCommand words a → IsCommand words b → name_of a ≡ name_of b
names words a b p q = front (name_of a) (name_of b) p.rest q.rest (sym p.named ∙ q.named)

into_once : (words : List Text) (a b : Bounds) (x y : Bool) → MeanInto words a x → MeanInto words b y → (a ≡ b) × (x ≡ y)
into_once words a b x y h k =
    let one = subst (λ (all : List Setting). AreInto (λ name. value_of name all) a x) (one_set into_http1 refl words h.0 k.0 h.1 k.1) h.2 in
    (one_limits (λ name. value_of name k.0) a b one.given k.2.given, one.switched ∙ sym k.2.switched)

one_scheme : (given : Option Text) (a b : Scheme1) → IsScheme given a → IsScheme given b → a ≡ b
one_scheme None a b h k = h ∙ sym k
one_scheme (Some text) Http Http h k = refl
one_scheme (Some text) Https Https h k = refl
one_scheme (Some text) Http Https h k = let e : true ≡ false = ap (bytes_eq (codes "http")) (sym h ∙ k) in absurd cc
one_scheme (Some text) Https Http h k = let e : true ≡ false = ap (bytes_eq (codes "https")) (sym h ∙ k) in absurd cc

from_once : (words : List Text) (a b : Bounds) (s t : Scheme1) (x y : Bool) → MeanFrom words a s x → MeanFrom words b t y → FromHttp1 a s x ≡ FromHttp1 b t y
from_once words a b s t x y h k =
    let one = subst (λ (all : List Setting). AreFrom (λ name. value_of name all) a s x) (one_set from_http1 refl words h.0 k.0 h.1 k.1) h.2 in
    ap (λ c. FromHttp1 a c x) (one_scheme (value_of (codes "scheme") k.0) s t one.named k.2.named)
    ∙ ap₂ (λ l i. FromHttp1 l t i) (one_limits (λ name. value_of name k.0) a b one.headed.given k.2.headed.given) (one.headed.switched ∙ sym k.2.headed.switched)

pub one_command : (words : List Text) (a b : Command) → IsCommand words a → IsCommand words b → a ≡ b
one_command words (Canon x) (Canon y) p q = ap Canon (limits_once p.rest x y (p.settings, p.set, p.meant) (q.settings, subst (Set limited q.settings) (rests words (Canon x) (Canon y) p q) q.set, q.meant))
one_command words (Canon x) other p q = let e : true ≡ false = ap (bytes_eq (codes "canon")) (names words (Canon x) other p q) in absurd cc
one_command words (Check x) (Check y) p q = ap Check (limits_once p.rest x y (p.settings, p.set, p.meant) (q.settings, subst (Set limited q.settings) (rests words (Check x) (Check y) p q) q.set, q.meant))
one_command words (Check x) other p q = let e : true ≡ false = ap (bytes_eq (codes "check")) (names words (Check x) other p q) in absurd cc
one_command words (Show x) (Show y) p q = ap Show (limits_once p.rest x y (p.settings, p.set, p.meant) (q.settings, subst (Set limited q.settings) (rests words (Show x) (Show y) p q) q.set, q.meant))
one_command words (Show x) other p q = let e : true ≡ false = ap (bytes_eq (codes "show")) (names words (Show x) other p q) in absurd cc
one_command words (FromHttp1 x s i) (FromHttp1 y t j) p q =
    from_once p.rest x y s t i j (p.settings, p.set, p.meant) (q.settings, subst (Set from_http1 q.settings) (rests words (FromHttp1 x s i) (FromHttp1 y t j) p q) q.set, q.meant)
one_command words (FromHttp1 x s i) other p q = let e : true ≡ false = ap (bytes_eq (codes "from-http1")) (names words (FromHttp1 x s i) other p q) in absurd cc
one_command words (ToHttp1 x i) (ToHttp1 y j) p q =
    let one = into_once p.rest x y i j (p.settings, p.set, p.meant) (q.settings, subst (Set into_http1 q.settings) (rests words (ToHttp1 x i) (ToHttp1 y j) p q) q.set, q.meant) in
    ap₂ ToHttp1 one.0 one.1
one_command words (ToHttp1 x i) other p q = let e : true ≡ false = ap (bytes_eq (codes "to-http1")) (names words (ToHttp1 x i) other p q) in absurd cc
one_command words (Trial x) (Trial y) p q = ap Trial (trial_once p.rest x y (p.settings, p.set, p.meant) (q.settings, subst (Set counted q.settings) (rests words (Trial x) (Trial y) p q) q.set, q.meant))
one_command words (Trial x) other p q = let e : true ≡ false = ap (bytes_eq (codes "trial")) (names words (Trial x) other p q) in absurd cc
