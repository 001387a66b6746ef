-- Right behind an item a message goes on with which no more rules hold, but of the length of its body.
use Rattle.std.proofs.Common.{◌+◌, ◌<◌, arith, ℕ, zero, suc, Bool, List, [], ◌∷◌, ◌++◌, length, map, replicate, refl, sym, subst, append-nil, inl, inr}
use Rattle.std.proofs.lemmas.List.{length-replicate}
use Rattle.std.proofs.lemmas.List.Elements.{All-nil}
use Rattle.bh_spec.specs.declared.Form.{Form}
use Rattle.bh_spec.specs.declared.Form.TheVariants.{Known, Indeterminate}
use Rattle.bh_spec.specs.declared.Omitted.TheVariants.{Nothing, Trailers, Both}
use Rattle.bh_spec.specs.declared.Part.TheVariants as parts
use Rattle.bh_spec.specs.declared.Width.TheVariants.{One}
use Rattle.bh_spec.specs.Bounds.{Bounds}
use Rattle.bh_spec.specs.Bytes.{AreBytes}
use Rattle.bh_spec.specs.Integers.{vi}
use Rattle.bh_spec.specs.Messages.{IsInterim}
use Rattle.bh_spec.specs.Texts.{Text, mark}
use Rattle.bh_spec.specs.Items.{Item, interim_response, head, content_byte, trailer_section, ending, of_response}
use Rattle.bh_spec.proofs.Within.{within_less, no_headers}
use Rattle.bh_push.specs.Completing.{AfterContent, BodyRest, AfterRun}
use Rattle.bh_push.specs.Decoders.{At, Rest, in_status, IsBehindContent}
use Rattle.bh_push.specs.Standing.{IsPrompt}
use Rattle.bh_push.proofs.Bodies.{zeros}
use Rattle.h1_spec.specs.declared.Framing1.{Framing1}
use Rattle.h1_spec.specs.declared.Framing1.TheVariants.{Empty, Counted, Chunked, ToEnd}
use Rattle.h1_spec.specs.Moments.{of_byte}
use Rattle.h1_spec.proofs.Coming.{status, status_is, zero_is, no_section, no_section_is}
use Rattle.h1_judge.specs.Courses.{Course, behind_item, item_cases}
use Rattle.h1_judge.specs.Views.{StandsBehind}
use Rattle.bh_translate.specs.Into.{LeaveText}
use Rattle.bh_translate.proofs.Near.{AreNear}

-- what completes a message from a place
pub record Completes (L : Bounds) (to_head : Bool) (c : Course) (at : At) : Type 0 where
  pub items : List Item
  pub text : Text
  pub rest : Rest L at items text
  pub near : AreNear to_head c items

-- something does
abbrev pub IsLeft : Bounds → At → Type 0
IsLeft L at = (q : List Item) × (t : Text) × Rest L at q t

-- ---- behind an interim response

-- a final response without lines, content and trailers
behind_interim : (L : Bounds) (to_head : Bool) (c : Course) (form : Form) (before : ℕ) → IsLeft L (in_status form (before + 1) [])
    → Completes L to_head c (in_status form (before + 1) [])
behind_interim L to_head c form before left =
    let opening = left.2.spelled in
    let found = left.2.thing in
    record {
      items = head (of_response 200) [] ∷ ending Both 0 ∷ [];
      text = status ++ no_section form;
      rest = record {
        thing = ([], 200);
        text = status;
        rest = no_section form;
        more = head (of_response 200) [] ∷ ending Both 0 ∷ [];
        spelled = record {
          each = All-nil IsInterim;
          final = record { low = omega arith; high = omega arith };
          few = within_less L.interims (before + 1 + 0) (before + 1 + length found.0) (omega arith) opening.few;
          spelled = ([], status, refl, status_is, refl);
        };
        behind = record {
          thing = [];
          text = no_section form;
          rest = [];
          more = ending Both 0 ∷ [];
          spelled = (no_section_is L form, no_headers);
          behind = inl (refl, refl);
          items = refl;
          joined = sym (append-nil (no_section form));
        };
        items = refl;
        joined = refl;
      };
      near = ((inl refl, (inl refl, (inl refl, tt))), (tt, tt));
    }

-- ---- behind content

-- nothing behind it
no_more : (L : Bounds) (form : Form) → AfterContent L form (ending Trailers 0 ∷ []) []
no_more L form = inl (refl, refl)

abbrev last_chunk : Text
last_chunk = mark parts.ChunkLength (vi 0 One)

-- no chunk more
no_chunk : (L : Bounds) → BodyRest L Indeterminate (ending Trailers 0 ∷ []) last_chunk
no_chunk L = record {
  thing = [];
  text = last_chunk;
  rest = [];
  more = ending Trailers 0 ∷ [];
  spelled = record {
    nonempty = All-nil (λ (chunk : List ℕ). 0 < length chunk);
    bytes_are = All-nil AreBytes;
    spelled = ([], last_chunk, refl, zero_is parts.ChunkLength, refl);
  };
  behind = no_more L Indeterminate;
  items = refl;
  joined = sym (append-nil last_chunk);
}

abbrev run_text : Form → Text
run_text Known = []
run_text Indeterminate = last_chunk

run_over : (L : Bounds) (form : Form) → AfterRun L form (ending Trailers 0 ∷ []) (run_text form)
run_over L Known = no_more L Known
run_over L Indeterminate = no_chunk L

-- behind a byte of content there may be others
byte_near : (f : Framing1) (m n : ℕ) → LeaveText (of_byte f m) → LeaveText (of_byte f n)
byte_near Empty m n h = h
byte_near (Counted field) m n h = (inr tt, tt)
byte_near Chunked m n h = tt
byte_near ToEnd m n h = tt

zeros_near : (to_head : Bool) (c : Course) (m n : ℕ) → LeaveText (of_byte c.framing m)
    → AreNear to_head c (map content_byte (replicate n 0) ++ ending Trailers 0 ∷ [])
zeros_near to_head c m zero h = (tt, tt)
zeros_near to_head c m (suc n) h =
    (byte_near c.framing m (c.counted + 1) h, zeros_near to_head (behind_item to_head c (content_byte 0)) m n h)

behind_byte : (L : Bounds) (to_head : Bool) (c : Course) (m : ℕ) (at : At) → LeaveText (of_byte c.framing m) → IsBehindContent at
    → Completes L to_head c at
behind_byte L to_head c m at h (inl e) =
    let form = e.0 in
    let missing = e.1 in
    let run : List ℕ = replicate missing 0 in
    subst (Completes L to_head c) (sym e.3) (record {
      items = map content_byte run ++ ending Trailers 0 ∷ [];
      text = mark parts.Content run ++ run_text form;
      rest = record {
        thing = run;
        text = mark parts.Content run;
        rest = run_text form;
        more = ending Trailers 0 ∷ [];
        spelled = record { length_is = length-replicate {A = ℕ} missing 0; bytes_are = zeros missing; spelled = refl };
        behind = run_over L form;
        items = refl;
        joined = refl;
      };
      near = zeros_near to_head c m missing h;
    })
behind_byte L to_head c m at h (inr (inl e)) = subst (Completes L to_head c) (sym e) (record {
  items = ending Trailers 0 ∷ [];
  text = [];
  rest = no_more L Known;
  near = (tt, tt);
})
behind_byte L to_head c m at h (inr (inr e)) = subst (Completes L to_head c) (sym e) (record {
  items = ending Trailers 0 ∷ [];
  text = last_chunk;
  rest = no_chunk L;
  near = (tt, tt);
})

-- ---- behind any item

-- of which no rule holds, but of length
pub goes_on_behind : (L : Bounds) (to_head : Bool) (c : Course) (last : Item) (at : At) → StandsBehind last at → LeaveText (item_cases c last) → IsLeft L at
    → Completes L to_head (behind_item to_head c last) at
goes_on_behind L to_head c (interim_response code fields) at stands h left =
    subst (Completes L to_head (behind_item to_head c (interim_response code fields))) (sym stands.2)
    (behind_interim L to_head (behind_item to_head c (interim_response code fields)) stands.0 stands.1 (subst (IsLeft L) stands.2 left))
goes_on_behind L to_head c (head of fields) at stands h left =
    subst (Completes L to_head (behind_item to_head c (head of fields))) (sym stands.1)
    (record { items = ending Both 0 ∷ []; text = []; rest = inl (refl, refl); near = (tt, tt) })
goes_on_behind L to_head c (content_byte x) at stands h left =
    behind_byte L to_head (behind_item to_head c (content_byte x)) (c.counted + 1) at h stands
goes_on_behind L to_head c (trailer_section fields) at stands h left =
    subst (Completes L to_head (behind_item to_head c (trailer_section fields))) (sym stands)
    (record { items = ending Nothing 0 ∷ []; text = []; rest = (0, refl, refl); near = (tt, tt) })
goes_on_behind L to_head c (ending omitted padding) at stands h left = absurd stands

-- no event stands there
pub prompt_behind : (L : Bounds) (last : Item) (at : At) → StandsBehind last at → IsPrompt L at
prompt_behind L (interim_response code fields) at stands = subst (IsPrompt L) (sym stands.2) tt
prompt_behind L (head of fields) at stands = subst (IsPrompt L) (sym stands.1) tt
prompt_behind L (content_byte x) at (inl e) = subst (IsPrompt L) (sym e.3) tt
prompt_behind L (content_byte x) at (inr (inl e)) = subst (IsPrompt L) (sym e) tt
prompt_behind L (content_byte x) at (inr (inr e)) = subst (IsPrompt L) (sym e) tt
prompt_behind L (trailer_section fields) at stands = subst (IsPrompt L) (sym stands) tt
prompt_behind L (ending omitted padding) at stands = absurd stands
