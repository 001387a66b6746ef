-- There and back, by two runs.
use Rattle.std.proofs.Common.{◌≡◌, ◌⊎◌, ℕ, List, [], ◌++◌, Option, Some, None, IfSome, MatchOption, refl, subst, inl, inr}
use Rattle.std.proofs.lemmas.List.{append_cancel_left}
use Rattle.std.specs.Io.KnownBytes.{Appends}
use Rattle.bh_spec.specs.declared.Summary.{Summary}
use Rattle.bh_spec.specs.Canonical.{canon}
use Rattle.bh_spec.specs.Texts.{Text}
use Rattle.bh_base.specs.Steps.{Meanings}
use Rattle.bh_model.specs.declared.causes.Cause.{Cause}
use Rattle.bh_stream.specs.Messages.{IsTextOf}
use Rattle.bh_stream.specs.Telling.{Tells, TellsOf, Completes}
use Rattle.bh_stream.specs.declared.streaming.End.{End}
use Rattle.bh_stream.specs.declared.streaming.End.TheVariants as end
use Rattle.h1_spec.specs.Http1Text.{http1}
use Rattle.h1_spec.specs.Translation.{IsFromAnswer}
use Rattle.bh_translate.specs.From.{IsTextFrom, IsRightFrom, from_end_of}
use Rattle.bh_translate.specs.Into.{IsRightInto}
use Rattle.bh_translate.proofs.There.{there_and_back, back_is_done}
use Rattle.bh_cmd.specs.declared.exits.Exit.{Exit}
use Rattle.bh_cmd.specs.declared.exits.Exit.TheVariants.{Done, Refused, Usage, ReadFault, WriteFault, NoMemory, DoorFault, ShelfFault}
use Rattle.bh_cmd.specs.Exits.{EndsBy, status_of}
use Rattle.bh_cmd.specs.Laws.{Sends, RunsThereAndBack, RunBackIsDone}

-- a run with status 0 ended as a call that is done
done_so : {R : Type 0} (of : Cause → Option R) (exit : Exit) (uncalled : Type 0) (P : End Summary R → Type 0) → status_of exit ≡ 0
    → EndsBy of exit uncalled P → (s : Summary) × P (end.Done s)
done_so of (Done (Some s)) uncalled P e h = (s, h)
done_so of (Done None) uncalled P e h = absurd h
done_so of (Refused cause) uncalled P e h = absurd cc
done_so of Usage uncalled P e h = absurd cc
done_so of ReadFault uncalled P e h = absurd cc
done_so of WriteFault uncalled P e h = absurd cc
done_so of NoMemory uncalled P e h = absurd cc
done_so of DoorFault uncalled P e h = absurd cc
done_so of ShelfFault uncalled P e h = absurd cc

-- where the call can only be done, the run ends with status 0, or memory ran out
refused_not : {R : Type 0} (called : Option R) (P : End Summary R → Type 0)
    → ((r : End Summary R) → P r → (s : Summary) × (r ≡ end.Done s)) → MatchOption called ⊥ (λ r. P (end.Refused r)) → ⊥
refused_not None P only h = h
refused_not (Some r) P only h = let found = only (end.Refused r) h in absurd (let e = found.1 in cc)

done_or_out : {R : Type 0} (of : Cause → Option R) (exit : Exit) (uncalled : Type 0) (P : End Summary R → Type 0)
    → ((r : End Summary R) → P r → (s : Summary) × (r ≡ end.Done s)) → EndsBy of exit uncalled P
    → (status_of exit ≡ 0) ⊎ (exit ≡ NoMemory)
done_or_out of (Done (Some s)) uncalled P only h = inl refl
done_or_out of (Done None) uncalled P only h = absurd h
done_or_out of (Refused cause) uncalled P only h = absurd (refused_not (of cause) P only h)
done_or_out of Usage uncalled P only h = absurd h
done_or_out of ReadFault uncalled P only h = let e = (only end.ReadFault h).1 in absurd cc
done_or_out of WriteFault uncalled P only h = let e = (only end.WriteFault h).1 in absurd cc
done_or_out of NoMemory uncalled P only h = inr refl
done_or_out of DoorFault uncalled P only h = absurd h
done_or_out of ShelfFault uncalled P only h = absurd h

-- what a port with this input tells of a call that sent these bytes, as if none had been sent before
told_of : {M A R S : Type 0} (spelled : M → Text → Type 0) (output : M → List ℕ) (limit : Option ℕ) (Right : End A R → List ℕ → List ℕ → Type 0)
    (port : Meanings S) (s : S) (r : End A R) (t : S) (input bytes : List ℕ) → port.left s ≡ Some input → Sends port s t bytes
    → TellsOf spelled output limit Right port s r t → Tells spelled output limit Right r input (port.left t) (Some []) (Some bytes)
told_of spelled output limit Right port s r t input bytes left sends h =
    let told : Tells spelled output limit Right r input (port.left t) (port.sent s) (port.sent t) =
    subst (λ (o : Option (List ℕ)). IfSome o (λ all. Tells spelled output limit Right r all (port.left t) (port.sent s) (port.sent t))) left h in
    let now : Appends (port.sent s) (Some (sends.0 ++ bytes)) told.sent =
    subst (λ (o : Option (List ℕ)). Appends (port.sent s) o told.sent) sends.2 told.goes in
    let goes : Appends (Some sends.0) (Some (sends.0 ++ bytes)) told.sent =
    subst (λ (o : Option (List ℕ)). Appends o (Some (sends.0 ++ bytes)) told.sent) sends.1 now in
    record {
      sent = told.sent;
      goes = append_cancel_left sends.0 bytes told.sent goes;
      right = told.right;
      begins = told.begins;
      all = told.all;
    }

module _ (S U : Type 0) (first : Meanings S) (second : Meanings U) where
  pub runs_there_and_back : RunsThereAndBack first second
  runs_there_and_back K L scheme to_head input text output m s there t u back v two done_there done_back sends own =
      let one = done_so _ there _ _ done_there two.there_told in
      let other = done_so _ back _ _ done_back two.back_told in
      there_and_back K L scheme to_head one.0 other.0 input text output _ _ m
      (told_of (IsTextOf K) (http1 to_head) K.input (IsRightInto K to_head) first s (end.Done one.0) t input text two.reads two.sends one.1)
      (told_of (IsTextFrom L scheme to_head) canon L.input (IsRightFrom L scheme to_head) second u (end.Done other.0) v text output two.reads_text sends other.1) own

  pub run_back_is_done : RunBackIsDone first second
  run_back_is_done K L scheme to_head input text m s there t u back v two done_there reads writes own keeps within =
      let one = done_so _ there _ _ done_there two.there_told in
      let sent = told_of (IsTextOf K) (http1 to_head) K.input (IsRightInto K to_head) first s (end.Done one.0) t input text two.reads two.sends one.1 in
      done_or_out _ back _ _
      (λ r complete. back_is_done K L scheme to_head one.0 r input text _ _ _ _ _ m sent
      (subst (λ (o : Option (List ℕ)). IfSome o (λ all. Completes (IsFromAnswer L scheme to_head) from_end_of r all
      (second.read_faults u) (second.read_faults v) (second.write_faults u) (second.write_faults v))) two.reads_text complete)
      reads writes own keeps within)
      two.back_complete
