use Rattle.std.proofs.Common.{◌≡◌, ◌≤◌, ℕ, List, ◌∷◌, ◌++◌, length, take, drop, map, Ok, refl, ap, subst, sym, ◌∙◌, arith, length-drop, length-take, length-append}
use Rattle.std.proofs.lemmas.Grind.{common_steps}
use Rattle.bh_spec.specs.Items.{Item, content_byte}
use Rattle.bh_canonical.specs.Writers.{Writing, takes, writing_of}
use Rattle.bh_canonical.proofs.Sent.{JobSends, is_in_content, content_kept, chunk_written, cut_at, framed_more, framed_is}
use Rattle.bh_canonical.proofs.writer.CanonWriterJob.content.Goals as goal

pub returns-then-bytes-room : goal.returns-then-bytes-room
returns-then-bytes-room g c =
    let items : List ℕ = c.self.inside.chunk.items in
    let kept : List ℕ = drop 2 items in
    let bytes = c.args.bytes.now in
    let now : List ℕ = c.extend_from_slice.new.self.items in
    let now_is : now ≡ items ++ bytes = search (arith, common_steps) in
    let kept_is : drop 2 now ≡ kept ++ bytes = ap (drop 2) now_is ∙ framed_more items bytes c.self.invariant.framed in
    let fits = subst (λ (v : Writing). (q : List Item) × takes v (map content_byte bytes ++ q)) (sym c.self.view_is) c.requires.fits in
    subst (λ (v : Writing). JobSends g.S.Sink.write_step v (writing_of c.self.inside.stage (drop 2 now)) (map content_byte bytes) c.args.sink.now (Ok tt) c.args.sink.now) c.self.view_is
    (content_kept c.self.inside.stage kept bytes (drop 2 now) c.args.sink.now kept_is
    (omega (arith, c.if-bytes-room.true, c.room_behind-room.ensures, c.len.ensures, ap length (framed_is items c.self.invariant.framed)))
    (is_in_content c.self.inside.stage kept bytes c.requires.some fits))

pub returns : goal.returns
returns g c =
    let room : ℕ = c.room_behind-room.result in
    let items : List ℕ = c.self.inside.chunk.items in
    let kept : List ℕ = drop 2 items in
    let bytes = c.args.bytes.now in
    let whole : List ℕ = c.extend_from_slice-2.new.self.items in
    let back : List ℕ = c.restart.new.chunk.items in
    let framed = framed_is items c.self.invariant.framed in
    let whole_is : whole ≡ items ++ take room bytes = search (arith, common_steps) in
    let full : List ℕ = kept ++ take room bytes in
    let piece : whole ≡ 96 ∷ (0 ∷ full) = whole_is ∙ ap (λ (l : List ℕ). l ++ take room bytes) framed in
    let back_is : drop 2 back ≡ drop room bytes = ap (drop 2) c.restart.ensures.items ∙ c.split_at.ensures.back in
    let long : length full ≡ 8192 = omega (arith, length-append kept (take room bytes), length-take room bytes, c.if-bytes-room.false, c.room_behind-room.ensures, c.len.ensures, c.self.invariant.few, ap length framed) in
    let few : length (drop 2 back) ≤ 8191 = omega (arith, ap length back_is, length-drop room bytes, c.requires.size, c.room_behind-room.ensures, c.len.ensures, c.self.invariant.few) in
    let fits = subst (λ (v : Writing). (q : List Item) × takes v (map content_byte bytes ++ q)) (sym c.self.view_is) c.requires.fits in
    let inside = is_in_content c.self.inside.stage kept bytes c.requires.some fits in
    subst (λ (v : Writing). JobSends g.S.Sink.write_step v (writing_of c.self.inside.stage (drop 2 back)) (map content_byte bytes) c.args.sink.now c.write_all-written.result c.write_all-written.new.sink) c.self.view_is
    (chunk_written c.self.inside.stage kept bytes full (drop 2 back) whole c.write_all-written.result (cut_at kept bytes full (drop 2 back) room refl back_is) long few inside piece (rw c.deref.ensures.value at c.write_all-written.ensures))
