use Rattle.std.proofs.Common.{arith, ◌∙◌, ap, map, List, length}
use Rattle.httparse.specs.declared.spans.HeaderSpan.{HeaderSpan}
use Rattle.bh_model.specs.Lines.{lines_room}
use Rattle.h1_head.specs.Spanned.{field_at}
use Rattle.h1_head.proofs.Cuts.{all_bytes}
use Rattle.h1_head.proofs.Spans.{named_room}
use Rattle.h1_head.proofs.Reading.{unread, read_named, read_room, read_section}
use Rattle.h1_head.proofs.field_lines.fill_lines.Goals as goal

pub add_fields-requires-clause-named : goal.add_fields-requires-clause-named
add_fields-requires-clause-named c = rw c.front.ensures (read_named c.args.section.now _ _ c.in-Some.ensures.read)

pub add_fields-requires-clause-spare : goal.add_fields-requires-clause-spare
add_fields-requires-clause-spare c =
    let r = read_room c.args.section.now _ _ (c.requires.even.returns ∙ c.requires.even.feeds) c.in-Some.ensures.read in
    let e = ap (λ (s : List HeaderSpan). lines_room (map (field_at c.args.section.now) s)) c.front.ensures in
    omega (arith, r, e)

pub add_fields-requires-clause-free : goal.add_fields-requires-clause-free
add_fields-requires-clause-free c =
    let r = read_room c.args.section.now _ _ (c.requires.even.returns ∙ c.requires.even.feeds) c.in-Some.ensures.read in
    let n = named_room c.args.section.now _ (read_named c.args.section.now _ _ c.in-Some.ensures.read) in
    let e = ap (length {A = HeaderSpan}) c.front.ensures in
    omega (arith, r, n, e)

pub returns-in-Some-clause-fills : goal.returns-in-Some-clause-fills
returns-in-Some-clause-fills c = (
  read_section c.args.section.now _ _ _ (all_bytes c.args.section.now (λ i. (c.type_inv.section i).fits)) (c.requires.even.returns ∙ c.requires.even.feeds) c.in-Some.ensures.read
      (rw c.front.ensures at c.add_fields.ensures.lines),
  c.add_fields.ensures.ended,
)

pub returns-in-None-clause-fills : goal.returns-in-None-clause-fills
returns-in-None-clause-fills c = unread c.args.section.now _ c.requires.even.feeds c.in-None.ensures.none
