-- A head is its start line and its section.
use Rattle.std.proofs.Common.{refl, sym, ap, subst, ◌≡◌, ◌∙◌, ℕ, List, ◌∷◌, ◌++◌, append_assoc, length, ◌≤◌, arith}
use Rattle.std.proofs.lemmas.List.{length-append}
use Rattle.bh_spec.specs.Messages.{Field}
use Rattle.h1_spec.specs.Grammar.{crlf}
use Rattle.h1_spec.specs.Heads.{StartLine, Head, IsStartLine, IsSection, IsHead}
use Rattle.h1_head.specs.Cuts.{Lacks}
use Rattle.h1_spec.proofs.Fronts.{cut_at}
use Rattle.h1_spec.proofs.HeadTexts.{start_lacks}

-- the parts of a head, and its line in them
pub record Parts (head : Head) (bytes : List ℕ) : Type 0 where
  pub line : List ℕ
  pub section : List ℕ
  pub whole : bytes ≡ (line ++ crlf) ++ section
  pub start : IsStartLine head.start line
  pub fields : IsSection head.fields section

pub parts : (head : Head) (bytes : List ℕ) → IsHead head bytes → Parts head bytes
parts head bytes h = record {
  line = h.2.0;
  section = h.1;
  whole = h.4 ∙ ap (λ (t : List ℕ). t ++ h.1) (h.2.4 ∙ ap (λ (t : List ℕ). h.2.0 ++ t) h.2.3);
  start = h.2.2;
  fields = h.3;
}

-- without a line there is no head
pub no_line : (bytes : List ℕ) → ((line rest : List ℕ) → Lacks 13 line → bytes ≡ (line ++ crlf) ++ rest → ⊥)
    → (head : Head) → IsHead head bytes → ⊥
no_line bytes none head h =
    let p = parts head bytes h in none p.line p.section (start_lacks head.start p.line p.start) p.whole

-- the line and the section of a head are those that were cut
pub record Same (head : Head) (line section : List ℕ) : Type 0 where
  pub start : IsStartLine head.start line
  pub fields : IsSection head.fields section

pub same_parts : (bytes line section : List ℕ) → Lacks 13 line → bytes ≡ (line ++ crlf) ++ section
    → (head : Head) → IsHead head bytes → Same head line section
same_parts bytes line section lacks whole head h =
    let p = parts head bytes h in
    let same : p.line ++ (13 ∷ (10 ∷ p.section)) ≡ line ++ (13 ∷ (10 ∷ section)) =
    sym (append_assoc p.line crlf p.section) ∙ sym p.whole ∙ whole ∙ append_assoc line crlf section in
    let cut = cut_at 13 p.line line (10 ∷ p.section) (10 ∷ section) (start_lacks head.start p.line p.start) lacks same in
    let rest : p.section ≡ section = cc cut.1 in
    record { start = subst (IsStartLine head.start) cut.0 p.start; fields = subst (IsSection head.fields) rest p.fields }

pub no_start : (bytes line section : List ℕ) → Lacks 13 line → bytes ≡ (line ++ crlf) ++ section
    → ((start : StartLine) → IsStartLine start line → ⊥) → (head : Head) → IsHead head bytes → ⊥
no_start bytes line section lacks whole none head h =
    none head.start (same_parts bytes line section lacks whole head h).start

-- without a section there is no head
pub no_section : (bytes line section : List ℕ) → Lacks 13 line → bytes ≡ (line ++ crlf) ++ section
    → ((fields : List Field) → IsSection fields section → ⊥) → (head : Head) → IsHead head bytes → ⊥
no_section bytes line section lacks whole none head h = none head.fields (same_parts bytes line section lacks whole head h).fields

-- the section is no longer than the head
pub shorter : (bytes line section : List ℕ) → bytes ≡ (line ++ crlf) ++ section → length section ≤ length bytes
shorter bytes line section whole =
    let long = ap (λ (b : List ℕ). length b) whole in
    omega (arith, long, length-append (line ++ crlf) section)

pub head_is : (bytes line section : List ℕ) (start lent : StartLine) (fields : List Field) → bytes ≡ (line ++ crlf) ++ section
    → IsStartLine lent line → start ≡ lent → IsSection fields section → IsHead (record { start = start; fields = fields }) bytes
head_is bytes line section start lent fields whole h e s = (
  line ++ crlf,
  section,
  (line, crlf, subst (λ (t : StartLine). IsStartLine t line) (sym e) h, refl, refl),
  s,
  whole,
)
