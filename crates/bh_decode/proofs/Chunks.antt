-- Chunks, one after the other.
use Rattle.std.proofs.Common.{◌≡◌, ◌<◌, ◌≤◌, ◌+◌, ◌⊎◌, ℕ, List, [], ◌∷◌, ◌++◌, length, take, drop, All, refl, sym, ap, ap₂, subst, ◌∙◌, append_assoc, append-nil, take-append-drop, arith, inl, inr, true, false, eqb, eqb-true}
use Rattle.std.specs.List.{concat}
use Rattle.std.proofs.lemmas.List.{length-append, length-drop}
use Rattle.std.proofs.lemmas.List.Elements.{All-nil, All-cons, All-append, All-head, All-tail, All-push}
use Rattle.bh_spec.specs.Bytes.{AreBytes}
use Rattle.bh_spec.specs.declared.Part.TheVariants as parts
use Rattle.bh_spec.specs.declared.Form.TheVariants.{Indeterminate}
use Rattle.bh_spec.specs.Texts.{Text, bytes_of, IsNumber, ◌then◌, AreEach, IsString}
use Rattle.bh_spec.proofs.Marks.{bytes_of-append}
use Rattle.bh_spec.specs.Pieces.{SomeOf, IsText, Ends}
use Rattle.bh_spec.proofs.Pieces.{IsOnce}
use Rattle.bh_decode.specs.declared.stop.Stop.{Stop}
use Rattle.bh_decode.specs.Grammar.{RunOf, BodyOf}
use Rattle.bh_decode.specs.Stops.{StopsThing, stop_behind}
use Rattle.bh_decode.proofs.Contexts.{Context, context_on, context_behind, context_same, once_of, SomeThen, Follows}
use Rattle.bh_decode.proofs.Fronts.{length_front, split_more}
use Rattle.bh_decode.proofs.Runs.{runs_once, run_long}
use Rattle.bh_decode.proofs.Rests.{body_once, some_body}
use Rattle.bh_decode.proofs.Stopped.{Same, thing_same, thing_then, thing_behind}

abbrev IsChunks : Text → Type 0
IsChunks t = SomeOf (BodyOf Indeterminate) t

abbrev pub ChunkOf : List ℕ → Text → Type 0
ChunkOf chunk t = RunOf parts.ChunkLength chunk t

-- behind a chunk stand more; an empty one is the end
abbrev AfterChunk : List ℕ → Text → Type 0
AfterChunk chunk t = ((0 < length chunk) × IsChunks t) ⊎ ((chunk ≡ []) × (t ≡ []))

abbrev Some : List ℕ → Type 0
Some xs = 0 < length xs

bytes_front : (c more : List ℕ) → AreBytes (c ++ more) → AreBytes c
bytes_front [] more all = All-nil _
bytes_front (b ∷ c) more all = All-cons (λ (x : ℕ). x < 256) b c (All-head (λ (x : ℕ). x < 256) b (c ++ more) all) (bytes_front c more (All-tail (λ (x : ℕ). x < 256) b (c ++ more) all))

bytes_back : (c more : List ℕ) → AreBytes (c ++ more) → AreBytes more
bytes_back [] more all = all
bytes_back (b ∷ c) more all = bytes_back c more (All-tail (λ (x : ℕ). x < 256) b (c ++ more) all)

abbrev IsEachChunk : List (List ℕ) → Text → Type 0
IsEachChunk chunks t = AreEach (IsString parts.ChunkLength parts.Content) chunks t

no_chunk : (x : Text) → IsNumber parts.ChunkLength 0 x → ChunkOf [] x
no_chunk x number = record { bytes = All-nil _; spelled = (x, [], number, refl, sym (append-nil x)) }

more : (t : Text) → IsChunks t → SomeThen ChunkOf AfterChunk t
more t (content, h) = by_list content h.spelled.0 h.spelled.1 h.spelled.2 h.bytes h.spelled.3
  where
    by_list : (content : List ℕ) (chunks : List (List ℕ)) → concat chunks ≡ content → All (λ chunk. 0 < length chunk) chunks → AreBytes content
        → (IsEachChunk chunks then IsNumber parts.ChunkLength 0) t → SomeThen ChunkOf AfterChunk t
    by_list content [] e some small s = ([], (t, [], no_chunk t (subst (IsNumber parts.ChunkLength 0) (sym (s.4 ∙ ap (λ (x : Text). x ++ s.1) s.2)) s.3), inr (refl, refl), sym (append-nil t)))
    by_list content (c ∷ others) e some small s =
        let a = s.2 in
        let these : AreBytes (c ++ concat others) = subst AreBytes (sym e) small in
        let rest : IsChunks (a.1 ++ s.1) = (
          concat others,
          record {
            bytes = bytes_back c (concat others) these;
            spelled = (others, refl, All-tail Some c others some, (a.1, s.1, a.3, s.3, refl));
          },
        ) in (
          c,
          (
            a.0,
            a.1 ++ s.1,
            record { bytes = bytes_front c (concat others) these; spelled = a.2 },
            inl (All-head Some c others some, rest),
            s.4 ∙ ap (λ (x : Text). x ++ s.1) a.4 ∙ append_assoc a.0 a.1 s.1,
          ),
        )

before : (t : Text) → SomeThen ChunkOf AfterChunk t → IsChunks t
before t (c, (x, y, chunk, inr (none, end), e)) =
    let all : t ≡ x = e ∙ ap (λ (w : Text). x ++ w) end ∙ append-nil x in
    let s : IsString parts.ChunkLength parts.Content [] x = subst (λ (b : List ℕ). IsString parts.ChunkLength parts.Content b x) none chunk.spelled in (
      [],
      record {
        bytes = All-nil _;
        spelled = ([], refl, All-nil _, ([], t, refl, subst (IsNumber parts.ChunkLength 0) (sym (all ∙ s.4 ∙ ap (λ (w : Text). s.0 ++ w) s.3 ∙ append-nil s.0)) s.2, refl));
      },
    )
before t (c, (x, y, chunk, inl (some, (content, body)), e)) =
    let s = body.spelled in (
      c ++ content,
      record {
        bytes = All-append (λ (b : ℕ). b < 256) c content chunk.bytes body.bytes;
        spelled = (
          c ∷ s.0,
          ap (λ (w : List ℕ). c ++ w) s.1,
          All-cons Some c s.0 some s.2,
          (x ++ s.3.0, s.3.1, (x, s.3.0, chunk.spelled, s.3.2, refl), s.3.3, e ∙ ap (λ (w : Text). x ++ w) s.3.4 ∙ sym (append_assoc x s.3.0 s.3.1)),
        );
      },
    )

chunks_same : Same (SomeThen ChunkOf AfterChunk) IsChunks
chunks_same = record { on = before; back = more }

chunks_once : IsOnce (SomeThen ChunkOf AfterChunk)
chunks_once t u a b = once_of (BodyOf Indeterminate) (body_once Indeterminate) t u (before t a) (before u b)

behind_chunk : (c bytes : List ℕ) → 0 < length c → IsText (ChunkOf c) bytes → Context IsChunks IsChunks bytes 0
behind_chunk c bytes some h =
    subst (λ (x : List ℕ). Context IsChunks IsChunks x 0) (append-nil bytes)
    (context_on IsChunks (AfterChunk c) IsChunks bytes [] 0 0 (omega arith)
    (context_on IsChunks (SomeThen ChunkOf AfterChunk) (AfterChunk c) [] bytes 0 0 (omega arith)
    (context_same IsChunks (SomeThen ChunkOf AfterChunk) more before)
    (context_behind ChunkOf AfterChunk (runs_once parts.ChunkLength) c bytes h))
    (context_same (AfterChunk c) IsChunks to (λ t s. inl (some, s))))
  where
    to : (t : Text) → AfterChunk c t → IsChunks t
    to t (inl s) = s.1
    to t (inr s) = absurd (omega (arith, some, ap length s.0))

after_chunk : Follows ChunkOf AfterChunk
after_chunk [] t h = ([], inr (refl, refl))
after_chunk (b ∷ c) t h = let body = some_body Indeterminate in (body.0, inl (omega arith, ([], body.1)))

-- ---- what a reader knows between two chunks

pub record Chunked (content bytes : List ℕ) (taken : ℕ) : Type 0 where
  pub within : taken ≤ length bytes
  pub few : length content ≤ taken
  pub chunks : List (List ℕ)
  pub joined : concat chunks ≡ content
  pub some : All (λ chunk. 0 < length chunk) chunks
  pub small : AreBytes content
  pub text : Text
  pub each : AreEach (IsString parts.ChunkLength parts.Content) chunks text
  pub same : bytes_of text ≡ take taken bytes
  pub context : Context (SomeOf (BodyOf Indeterminate)) (SomeOf (BodyOf Indeterminate)) (take taken bytes) 0

concat_push : (chunks : List (List ℕ)) (c : List ℕ) → concat (chunks ++ c ∷ []) ≡ concat chunks ++ c
concat_push [] c = append-nil c
concat_push (x ∷ chunks) c = ap (λ (w : List ℕ). x ++ w) (concat_push chunks c) ∙ sym (append_assoc x (concat chunks) c)

each_push : (chunks : List (List ℕ)) (c : List ℕ) (t x : Text) → IsEachChunk chunks t → IsString parts.ChunkLength parts.Content c x → IsEachChunk (chunks ++ c ∷ []) (t ++ x)
each_push [] c t x h s = (x, [], s, refl, ap (λ (w : Text). w ++ x) h ∙ sym (append-nil x))
each_push (d ∷ chunks) c t x h s = (h.0, h.1 ++ x, h.2, each_push chunks c h.1 x h.3 s, ap (λ (w : Text). w ++ x) h.4 ∙ append_assoc h.0 h.1 x)

pub chunked_more : (content bytes c : List ℕ) (taken n : ℕ) → Chunked content bytes taken → Ends (ChunkOf c) [] (drop taken bytes) n → 0 < length c → Chunked (content ++ c) bytes (taken + n)
chunked_more content bytes c taken n k h some = record {
  within = omega (arith, k.within, h.within, length-drop taken bytes);
  few = omega (arith, k.few, run_long parts.ChunkLength c (drop taken bytes) n h, length-append content c);
  chunks = k.chunks ++ c ∷ [];
  joined = concat_push k.chunks c ∙ ap (λ (w : List ℕ). w ++ c) k.joined;
  some = All-push (λ (x : List ℕ). 0 < length x) k.chunks c k.some some;
  small = All-append (λ (b : ℕ). b < 256) content c k.small h.whole.spelled.bytes;
  text = k.text ++ h.whole.text;
  each = each_push k.chunks c k.text h.whole.text k.each h.whole.spelled.spelled;
  same = bytes_of-append k.text h.whole.text ∙ ap₂ (λ (x y : List ℕ). x ++ y) k.same h.whole.same ∙ sym (split_more bytes taken n k.within);
  context = subst (λ (x : List ℕ). Context IsChunks IsChunks x 0) (sym (split_more bytes taken n k.within))
      (context_on IsChunks IsChunks IsChunks (take taken bytes) (take n (drop taken bytes)) 0 0 (omega arith) k.context (behind_chunk c (take n (drop taken bytes)) some h.whole));
}

pub chunks_ended : (content bytes c : List ℕ) (taken n : ℕ) → Chunked content bytes taken → Ends (ChunkOf c) [] (drop taken bytes) n → c ≡ [] → Ends (BodyOf Indeterminate content) [] bytes (taken + n)
chunks_ended content bytes c taken n k h none =
    let s : IsString parts.ChunkLength parts.Content [] h.whole.text = subst (λ (b : List ℕ). IsString parts.ChunkLength parts.Content b h.whole.text) none h.whole.spelled.spelled in
    let number : IsNumber parts.ChunkLength 0 h.whole.text = subst (IsNumber parts.ChunkLength 0) (sym (s.4 ∙ ap (λ (w : Text). s.0 ++ w) s.3 ∙ append-nil s.0)) s.2 in
    record {
      within = omega (arith, k.within, h.within, length-drop taken bytes);
      whole = record {
        text = k.text ++ h.whole.text;
        spelled = record { bytes = k.small; spelled = (k.chunks, k.joined, k.some, (k.text, h.whole.text, k.each, number, refl)) };
        same = bytes_of-append k.text h.whole.text ∙ ap₂ (λ (x y : List ℕ). x ++ y) k.same h.whole.same ∙ sym (split_more bytes taken n k.within);
      };
    }

pub chunks_stop : (content bytes : List ℕ) (taken : ℕ) (stop : Stop) → Chunked content bytes taken → StopsThing (SomeOf ChunkOf) (SomeOf ChunkOf) (drop taken bytes) stop
    → StopsThing (SomeOf (BodyOf Indeterminate)) (SomeOf (BodyOf Indeterminate)) bytes (stop_behind taken stop)
chunks_stop content bytes taken stop k h =
    let here : StopsThing IsChunks IsChunks (drop taken bytes) stop =
    thing_same (SomeThen ChunkOf AfterChunk) IsChunks (SomeThen ChunkOf AfterChunk) IsChunks chunks_same chunks_same (drop taken bytes) stop
    (thing_then ChunkOf AfterChunk ChunkOf AfterChunk (runs_once parts.ChunkLength) (runs_once parts.ChunkLength) after_chunk after_chunk (λ i t s. s) chunks_once (drop taken bytes) stop h) in
    let there = thing_behind IsChunks IsChunks IsChunks IsChunks (once_of (BodyOf Indeterminate) (body_once Indeterminate)) (take taken bytes) (drop taken bytes) 0 0 k.context k.context stop here in
    subst (λ (n : ℕ). StopsThing IsChunks IsChunks bytes (stop_behind n stop)) (length_front bytes taken k.within)
    (subst (λ (x : List ℕ). StopsThing IsChunks IsChunks x (stop_behind (length (take taken bytes)) stop)) (take-append-drop taken bytes) there)

pub is_none : (c : List ℕ) → true ≡ eqb (length c) 0 → c ≡ []
is_none [] e = refl
is_none (b ∷ c) e = absurd (omega (arith, eqb-true (length (b ∷ c)) 0 (sym e)))

pub is_some : (c : List ℕ) → false ≡ eqb (length c) 0 → 0 < length c
is_some [] e = absurd cc
is_some (b ∷ c) e = omega arith
