-- No input is without an answer.
use Rattle.std.proofs.Common.{◌≡◌, ◌<◌, ◌≤◌, ◌+◌, ℕ, zero, suc, List, [], length, take, Option, Some, None, refl, sym, subst, arith, inl, inr}
use Rattle.std.proofs.lemmas.Bool.{cases_lt}
use Rattle.std.proofs.lemmas.List.{take_all}
use Rattle.std.proofs.lemmas.List.Elements.{All-nil}
use Rattle.bh_spec.specs.declared.Omitted.TheVariants.{Nothing}
use Rattle.bh_spec.specs.declared.Refusal.TheVariants.{Dead, Limit, Ended, TooLong}
use Rattle.bh_spec.specs.Bounds.{Bounds, IsWithin}
use Rattle.bh_spec.specs.Messages.{response, Message, IsValid, IsInterim, IsRegularField}
use Rattle.bh_spec.specs.Canonical.{canon, FieldsFit, Fits, integers}
use Rattle.bh_spec.specs.Viable.{IsViable}
use Rattle.bh_spec.specs.Answers.{Answer, whole, refused, IsRefusedAt, IsAnswer}
use Rattle.bh_spec.proofs.Within.{zero_within, no_headers}
use Rattle.bh_spec.proofs.Longer.{some_next}
use Rattle.bh_spec.proofs.Written.{canonical}
use Rattle.bh_spec.proofs.Viable.{viable_take}
use Rattle.bh_spec.proofs.Answers.{spelled_viable}

one_less : (most : Option ℕ) (k : ℕ) → IsWithin most (suc k) → IsWithin most k
one_less None k h = tt
one_less (Some most) k h = omega (arith, h)

-- a message that fits any limits
abbrev plain : Message
plain = record { start = response [] 200; fields = []; content = []; trailers = [] }

-- a section without fields fits any limits
pub none_fit : (L : Bounds) → FieldsFit L []
none_fit L = record { names = All-nil (λ f. IsWithin L.part (length f.name)); values = All-nil (λ f. IsWithin L.part (length f.value)); total = zero_within L.section }

plain_fits : (L : Bounds) → Fits L plain
plain_fits L = record { start = (zero_within L.interims, All-nil (λ i. FieldsFit L i.fields)); fields = none_fit L; trailers = none_fit L }

plain_valid : IsValid plain
plain_valid = record {
  start = record { each = All-nil IsInterim; final = record { low = omega arith; high = omega arith } };
  fields = no_headers;
  content = All-nil (λ n. n < 256);
  trailers = All-nil IsRegularField;
}

-- some message has a text, so nothing begins one
nothing_viable : (L : Bounds) (bytes : List ℕ) → IsViable L (take 0 bytes)
nothing_viable L bytes =
    viable_take L 0 (canon plain)
    (spelled_viable L plain Nothing 0 (canon plain) (canonical L plain plain_valid (plain_fits integers) (plain_fits L)))

-- with the next byte too, where no byte is refused
step : (L : Bounds) (bytes : List ℕ) (k : ℕ) → ((a : Answer) → IsAnswer L bytes a → ⊥) → k < length bytes → IsWithin L.input (k + 1) → IsViable L (take k bytes) → (IsViable L (take (k + 1) bytes) → ⊥) → ⊥
step L bytes k none inside seen viable dead =
    let next = some_next L (take k bytes) viable in
    let at : IsRefusedAt L bytes k next.0 = record { seen = seen; first = record { inside = inside; next = next.1; after = dead } } in
    none (refused (Dead k next.0)) (at, λ free. none (refused (Limit k next.0)) (at, free))

reach : (L : Bounds) (bytes : List ℕ) → ((a : Answer) → IsAnswer L bytes a → ⊥) → (k : ℕ) → k ≤ length bytes → IsWithin L.input k → (IsViable L (take k bytes) → ⊥) → ⊥
reach L bytes none zero fits seen dead = dead (nothing_viable L bytes)
reach L bytes none (suc k) fits seen dead =
    let e : suc k ≡ k + 1 = omega arith in
    reach L bytes none k (omega (arith, fits)) (one_less L.input k seen)
    (λ viable. step L bytes k none (omega (arith, fits)) (subst (IsWithin L.input) e seen) viable (λ v. dead (subst (λ (n : ℕ). IsViable L (take n bytes)) (sym e) v)))

-- all bytes are viable: they are a message, or end too soon
ends : (L : Bounds) (bytes : List ℕ) → ((a : Answer) → IsAnswer L bytes a → ⊥) → IsWithin L.input (length bytes) → ⊥
ends L bytes none seen = reach L bytes none (length bytes) (omega arith) seen (λ v.
    let viable = subst (IsViable L) (take_all (length bytes) bytes (omega arith)) v in
    let next = some_next L bytes viable in
    none (refused (Ended (length bytes) next.0)) (record {
      long = refl;
      seen = seen;
      viable = viable;
      unfinished = λ m o z h. none (whole m o z) (seen, h);
      next = next.1;
    }))

pub some_answer : (L : Bounds) (bytes : List ℕ) → ((a : Answer) → IsAnswer L bytes a → ⊥) → ⊥
some_answer L bytes none = by_limit L.input refl
  where
    by_limit : (o : Option ℕ) → L.input ≡ o → ⊥
    by_limit None e = ends L bytes none (subst (λ (o : Option ℕ). IsWithin o (length bytes)) (sym e) tt)
    by_limit (Some most) e = elim (cases_lt most (length bytes)) [
      | inl more ↦
          let seen : IsWithin L.input most = subst (λ (o : Option ℕ). IsWithin o most) (sym e) (let same : most ≤ most = omega arith in same) in
          reach L bytes none most (omega (arith, more)) seen (λ viable. none (refused (TooLong most)) (record { limit = e; more = more; viable = viable }))
      | inr short ↦ ends L bytes none (subst (λ (o : Option ℕ). IsWithin o (length bytes)) (sym e) short)
    ]
