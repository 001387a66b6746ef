-- Where two texts of a kind begin with the same bytes, these carry the same parts: so it is where each kind of text has one next part. Then
-- each front of a text shows the content that it has.
use Rattle.std.proofs.Common.{◌≡◌, ◌≤◌, ℕ, List, [], ◌∷◌, ◌++◌, length, take, refl, sym, ◌∙◌, ap, subst, arith, append_assoc}
use Rattle.std.proofs.lemmas.List.{take_all}
use Rattle.bh_spec.specs.declared.Part.{Part}
use Rattle.bh_spec.specs.Texts.{Text, bytes_of, content_in}
use Rattle.bh_spec.specs.Pieces.{CanBecome, IsNext}
use Rattle.bh_spec.proofs.Marks.{bytes_of-append}
use Rattle.bh_stream.specs.Logs.{HasBody}
use Rattle.bh_stream.specs.Outputs.{Output, written, shown_in, weighed}
use Rattle.bh_stream.proofs.Outputs.{weighed_bytes, weighed_content, weighed_front}
use Rattle.bh_stream.proofs.Moving.{bytes-length}
use Rattle.bh_stream.proofs.LogLaws.{take_front}

abbrev pub SameMarks : (Text → Type 0) → Type 0
SameMarks R = (t u : Text) (front more others : List ℕ) → R t → R u → bytes_of t ≡ front ++ more → bytes_of u ≡ front ++ others
    → take (length front) t ≡ take (length front) u

module _ (W : Text → Type 0) (one_next : (bytes : List ℕ) (p q : Part) → IsNext W bytes p → IsNext W bytes q → p ≡ q) where
  same_behind : (x : Text) (b c d : List ℕ) (t u : Text) → W (x ++ t) → W (x ++ u) → bytes_of t ≡ b ++ c → bytes_of u ≡ b ++ d → take (length b) t ≡ take (length b) u
  same_behind x [] c d t u wt wu e f = refl
  same_behind x (y ∷ b) c d [] u wt wu e f = absurd (cc)
  same_behind x (y ∷ b) c d (h ∷ t) [] wt wu e f = absurd (cc)
  same_behind x (y ∷ b) c d (h ∷ t) (k ∷ u) wt wu e f =
      let ht : h.1 ≡ y = cc in
      let kt : k.1 ≡ y = cc in
      let et : bytes_of t ≡ b ++ c = cc in
      let fu : bytes_of u ≡ b ++ d = cc in
      let part : h.0 ≡ k.0 = one_next (bytes_of x) h.0 k.0
      (record { before = x; byte = h.1; after = t; spelled = wt; begins = refl })
      (record { before = x; byte = k.1; after = u; spelled = wu; begins = refl }) in
      let same : h ≡ k = λ i. (part i, (ht ∙ sym kt) i) in
      let wt' : W ((x ++ h ∷ []) ++ t) = subst W (sym (append_assoc x (h ∷ []) t)) wt in
      let wu' : W ((x ++ h ∷ []) ++ u) = subst W (ap (λ (z : Part × ℕ). x ++ z ∷ u) (sym same) ∙ sym (append_assoc x (h ∷ []) u)) wu in
      let more = same_behind (x ++ h ∷ []) b c d t u wt' wu' et fu in
      λ i. same i ∷ more i

  pub same_marks : SameMarks W
  same_marks t u b c d wt wu e f = same_behind [] b c d t u wt wu e f

-- ---- the content of what was written

module _ (R : Text → Type 0) (same : SameMarks R) where
  written_content : (front more : Text) → R (front ++ more) → (n : ℕ) → HasBody R (bytes_of front) n → n ≡ content_in front
  written_content front more spelled n body =
      let gone = bytes_of front in
      let begins : bytes_of (front ++ more) ≡ gone ++ bytes_of more = bytes_of-append front more in
      let all : take (length gone) gone ≡ gone = take_all (length gone) gone (omega arith) in
      let whole : CanBecome R (take (length gone) gone) = record { text = front ++ more; after = bytes_of more; spelled = spelled; begins = begins ∙ ap (λ (l : List ℕ). l ++ bytes_of more) (sym all) } in
      let long : body.long ≡ length gone = omega (arith, body.longest.most (length gone) (omega arith) tt whole, body.longest.inside) in
      let text : bytes_of body.text ≡ gone ++ body.begins.rest = body.begins.split ∙ ap (λ (l : List ℕ). l ++ body.begins.rest) (ap (λ (k : ℕ). take k gone) long ∙ all) in
      let marks = same body.text (front ++ more) gone body.begins.rest (bytes_of more) body.spelled spelled text begins in
      sym body.counts ∙ ap (λ (k : ℕ). content_in (take k body.text)) long ∙ ap content_in marks ∙ ap (λ (k : ℕ). content_in (take k (front ++ more))) (bytes-length front) ∙ ap content_in (take_front front more)

  pub shows_text : (out : Output) (x : Text) → out ≡ weighed x → R x → (front more : Output) → out ≡ front ++ more → (n : ℕ) → HasBody R (written front) n → shown_in front ≤ n
  shows_text out x weighs spelled front more split n body =
      let f = weighed_front x front more (sym weighs ∙ split) in
      let bytes : written front ≡ bytes_of f.0 = sym (ap written f.3) ∙ weighed_bytes f.0 in
      let count = written_content f.0 f.1 (subst R f.2 spelled) n (subst (λ (l : List ℕ). HasBody R l n) bytes body) in
      omega (arith, count, ap shown_in f.3, weighed_content f.0)
