use Rattle.std.proofs.Common.{◌≡◌, ◌≤◌, ◌-◌, ℕ, List, ◌++◌, length, take, drop, refl, ap, ◌∙◌, arith, length-drop, length-take, length-append}
use Rattle.std.proofs.lemmas.Grind.{common_steps}
use Rattle.h1_text.specs.Ends.{piece_out}
use Rattle.h1_text.proofs.Sending.{goes_as}
use Rattle.h1_text.proofs.Chunking.{framed_more, framed_is, kept_all, kept_rest, cut_at}
use Rattle.h1_text.proofs.bodies.keep.Goals as goal

pub returns-then-bytes-room-clause-keeps : goal.returns-then-bytes-room-clause-keeps
returns-then-bytes-room-clause-keeps g c =
    let items : List ℕ = c.args.chunk.now.items in
    let kept : List ℕ = drop 6 items in
    let bytes : List ℕ = c.args.bytes.now in
    let now : List ℕ = c.extend_from_slice.new.self.items in
    let now_is : now ≡ items ++ bytes = search (arith, common_steps) in
    let kept_is : drop 6 now ≡ kept ++ bytes = ap (drop 6) now_is ∙ framed_more items bytes c.requires.framed in
    kept_all c.args.chunked kept bytes (drop 6 now) kept_is
    (omega (arith, ap length kept_is, length-append kept bytes, c.if-bytes-room.true, c.len-room.ensures, ap length (framed_is items c.requires.framed)))

pub returns-clause-keeps : goal.returns-clause-keeps
returns-clause-keeps g c =
    let room : ℕ = 8198 - c.len-room.result in
    let items : List ℕ = c.args.chunk.now.items in
    let kept : List ℕ = drop 6 items in
    let bytes : List ℕ = c.args.bytes.now in
    let whole : List ℕ = c.extend_from_slice-2.new.self.items in
    let back : List ℕ = c.restart.new.chunk.items in
    let framed = framed_is items c.requires.framed in
    let whole_is : whole ≡ items ++ take room bytes = search (arith, common_steps) in
    let full : List ℕ = kept ++ take room bytes in
    let full_is : drop 6 whole ≡ full = ap (drop 6) whole_is ∙ framed_more items (take room bytes) c.requires.framed in
    let back_is : drop 6 back ≡ drop room bytes = ap (drop 6) c.restart.ensures.items ∙ c.split_at.ensures.back in
    let long : length full ≡ 8192 = omega (arith, length-append kept (take room bytes), length-take room bytes, c.if-bytes-room.false, c.len-room.ensures, c.requires.few, ap length framed) in
    let few : length (drop 6 back) ≤ 8191 = omega (arith, ap length back_is, length-drop room bytes, c.requires.size, c.len-room.ensures, c.requires.few) in
    kept_rest c.args.chunked kept bytes full (drop 6 back) c.send_whole-written.result (cut_at kept bytes full (drop 6 back) room refl back_is) long few
    (goes_as (piece_out c.args.chunked (drop 6 whole)) (piece_out c.args.chunked full) c.send_whole-written.result (ap (piece_out c.args.chunked) full_is) c.send_whole-written.ensures.sends)
