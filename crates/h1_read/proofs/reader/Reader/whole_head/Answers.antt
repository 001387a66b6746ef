use Rattle.std.proofs.Common.{◌≡◌, ◌∙◌, ◌+◌, ℕ, Result, Ok, Err, List, ap, sym, subst}
use Rattle.bh_stream.specs.declared.traits.Event.TheVariants as events
use Rattle.h1_spec.specs.BodyStates.{At}
use Rattle.h1_head.specs.Ends.{ReaderView}
use Rattle.bh_spec.specs.declared.H1Why.{H1Why}
use Rattle.h1_read.specs.declared.heads.HeadRead.{HeadRead}
use Rattle.h1_read.specs.declared.heads.HeadRead.TheVariants.{Interim, Final}
use Rattle.h1_read.specs.HeadJudges.{view_of, Judges, IsInterim, IsFinal, IsWrong}
use Rattle.h1_read.specs.Places.{in_head, in_body}
use Rattle.h1_read.specs.Readers.{setting_of, SaysHead}
use Rattle.h1_read.proofs.Standings.{interim_says, final_says}
use Rattle.h1_read.proofs.reader.Reader.whole_head.Goals as goal

pub returns-in-Ok-Interim-clause-says : goal.returns-in-Ok-Interim-clause-says
returns-in-Ok-Interim-clause-says c =
    let s = c.args.self.now in
    let v = view_of s.judge in
    let w = view_of c.judge.new.self in
    let status = c.in-Ok-Interim.status in
    let n = c.args.interims in
    let read : IsInterim v c.bytes.result.now n status w
    = subst (λ (r : Result HeadRead H1Why). Judges v c.bytes.result.now n r w) (c.in-Ok-Interim.is ∙ ap Ok c.in-Ok-Interim.field-0-is) c.judge.ensures.answer in
    subst (λ (h : ReaderView). SaysHead (setting_of s) n s.heads.seen (Ok (events.Interim status)) (in_head (n + 1) h.seen) w) (sym c.begin.ensures.begun)
    (interim_says v w n s.heads.seen status c.requires.built.limits (subst (λ (bytes : List ℕ). IsInterim v bytes n status w) c.bytes.ensures read))

pub returns-in-Ok-Final-clause-says : goal.returns-in-Ok-Final-clause-says
returns-in-Ok-Final-clause-says c =
    let s = c.args.self.now in
    let v = view_of s.judge in
    let w = view_of c.judge.new.self in
    let framing = c.in-Ok-Final.framing in
    let n = c.args.interims in
    let read : IsFinal v c.bytes.result.now n framing w
    = subst (λ (r : Result HeadRead H1Why). Judges v c.bytes.result.now n r w) (c.in-Ok-Final.is ∙ ap Ok c.in-Ok-Final.field-0-is) c.judge.ensures.answer in
    subst (λ (at : At). SaysHead (setting_of s) n s.heads.seen (Ok events.Head) (in_body w.named at) w) (sym c.begin-in-Ok-Final.ensures.start)
    (final_says v w n s.heads.seen framing c.requires.built.limits c.requires.few (subst (λ (bytes : List ℕ). IsFinal v bytes n framing w) c.bytes.ensures read))

pub returns-in-Err-clause-says : goal.returns-in-Err-clause-says
returns-in-Err-clause-says c =
    let s = c.args.self.now in
    let v = view_of s.judge in
    let w = view_of c.judge.new.self in
    let n = c.args.interims in
    let wrong : IsWrong v c.bytes.result.now n c.in-Err.cause w
    = subst (λ (r : Result HeadRead H1Why). Judges v c.bytes.result.now n r w) c.in-Err.is c.judge.ensures.answer in
    let h = subst (λ (bytes : List ℕ). IsWrong v bytes n c.in-Err.cause w) c.bytes.ensures wrong in
    (h.cause_is, h.not_end)
