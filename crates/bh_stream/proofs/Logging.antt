-- The log of calls.
use Rattle.std.proofs.Common.{◌≡◌, List, [], ◌∷◌, ◌++◌, refl, ap}
use Rattle.bh_base.specs.Steps.{Step, Read, Write, BadRead, BadWrite, Took, Gave, entries}
use Rattle.bh_stream.specs.Entries.{LogOfCalls}

pub log_of_calls : LogOfCalls
log_of_calls steps [] back e = ([], steps, refl, refl, refl)
log_of_calls [] (f ∷ front) back e = absurd (cc)
log_of_calls ((BadRead n) ∷ steps) (f ∷ front) back e =
    let r = log_of_calls steps (f ∷ front) back e in
    (BadRead n ∷ r.0, r.1, ap (λ (l : List Step). BadRead n ∷ l) r.2, r.3, r.4)
log_of_calls ((BadWrite n) ∷ steps) (f ∷ front) back e =
    let r = log_of_calls steps (f ∷ front) back e in
    (BadWrite n ∷ r.0, r.1, ap (λ (l : List Step). BadWrite n ∷ l) r.2, r.3, r.4)
log_of_calls ((Read n bytes) ∷ steps) ((Took b) ∷ front) back e =
    let same : bytes ≡ b = cc in
    let tail : entries steps ≡ front ++ back = cc in
    let r = log_of_calls steps front back tail in
    (Read n bytes ∷ r.0, r.1, ap (λ (l : List Step). Read n bytes ∷ l) r.2, (λ i. same i ++ r.3 i), r.4)
log_of_calls ((Read n bytes) ∷ steps) ((Gave b) ∷ front) back e = absurd (cc)
log_of_calls ((Write n bytes) ∷ steps) ((Gave b) ∷ front) back e =
    let same : bytes ≡ b = cc in
    let tail : entries steps ≡ front ++ back = cc in
    let r = log_of_calls steps front back tail in
    (Write n bytes ∷ r.0, r.1, ap (λ (l : List Step). Write n bytes ∷ l) r.2, r.3, (λ i. same i ++ r.4 i))
log_of_calls ((Write n bytes) ∷ steps) ((Took b) ∷ front) back e = absurd (cc)
