-- The line that says how a command ended.
use Rattle.std.specs.Prelude.{ℕ, List, [], ◌∷◌, ◌++◌, codes}
use Rattle.std.specs.Fmt.{decimal}
use Rattle.bh_spec.specs.Printed.{kind_text, omitted_text, part_text, why_text, form_text}
use Rattle.bh_spec.specs.declared.NoForm.{NoForm}
use Rattle.bh_spec.specs.declared.NoForm.TheVariants.{LengthDiffers}
use Rattle.bh_spec.specs.declared.Part.{Part}
use Rattle.bh_spec.specs.declared.Refusal.{Refusal}
use Rattle.bh_spec.specs.declared.Refusal.TheVariants.{Dead, Limit, Ended, TooLong}
use Rattle.bh_spec.specs.declared.Summary.{Summary}
use Rattle.bh_model.specs.declared.causes.Cause.{Cause}
use Rattle.bh_model.specs.declared.causes.Cause.TheVariants.{Binary, Http1, Form}
use Rattle.bh_text.specs.declared.trials.Trial.{Trial}
use Rattle.bh_text.specs.declared.reports.Report.{Report}
use Rattle.bh_text.specs.declared.reports.Report.TheVariants.{Done, Links, Plain, Refused, Body, Usage, ReadFault, WriteFault, NoMemory, DoorFault, ShelfFault}

-- a byte's number and its part
abbrev pub place_text : ℕ → Part → List ℕ
place_text at part = codes " at=" ++ decimal at ++ codes " part=" ++ part_text part

abbrev pub refusal_text : Refusal → List ℕ
refusal_text (Dead at part) = codes "dead" ++ place_text at part
refusal_text (Limit at part) = codes "limit" ++ place_text at part
refusal_text (Ended at part) = codes "ended" ++ place_text at part
refusal_text (TooLong at) = codes "too-long at=" ++ decimal at

-- the two numbers of a length that differs
abbrev pub lengths_text : NoForm → List ℕ
lengths_text (LengthDiffers field content) = codes " field=" ++ decimal field ++ codes " content=" ++ decimal content
lengths_text other = []

abbrev pub cause_text : Cause → List ℕ
cause_text (Binary refusal) = refusal_text refusal
cause_text (Http1 why) = codes "http1 " ++ why_text why
cause_text (Form why) = codes "no-form " ++ form_text why ++ lengths_text why

abbrev pub summary_text : Summary → List ℕ
summary_text s =
    codes " kind=" ++ kind_text s.kind ++ codes " bytes=" ++ decimal s.bytes ++ codes " lines=" ++ decimal s.lines ++ codes " content="
    ++ decimal s.content
    ++ codes " padding=" ++ decimal s.padding ++ codes " omitted=" ++ omitted_text s.omitted

abbrev pub report : Report → List ℕ
report (Done summary) = codes "done" ++ summary_text summary
report (Links n) = codes "done links=" ++ decimal n
report Plain = codes "done"
report (Refused cause) = codes "refused " ++ cause_text cause
report (Body why) = codes "refused body " ++ why_text why
report Usage = codes "usage: bhttp COMMAND [OPTIONS]"
report ReadFault = codes "fault read"
report WriteFault = codes "fault write"
report NoMemory = codes "no memory"
report DoorFault = codes "fault door"
report ShelfFault = codes "fault shelf"

-- the report and its line feed
abbrev pub report_line : Report → List ℕ
report_line what = report what ++ (10 ∷ [])

-- the line of `trial`
abbrev pub trial_line : Trial → List ℕ
trial_line t =
    codes "trial content=" ++ decimal t.content ++ codes " in=" ++ decimal t.bytes_in ++ codes " out=" ++ decimal t.bytes_out
    ++ codes " sum=" ++ decimal t.sum
    ++ (10 ∷ [])
