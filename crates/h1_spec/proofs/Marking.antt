-- The marked bytes of a text are the content of its message.
use Rattle.std.proofs.Common.{◌≡◌, arith, ℕ, List, [], ◌∷◌, ◌++◌, length, sym, ap, ◌∙◌, length-append}
use Rattle.std.specs.List.{concat}
use Rattle.bh_spec.specs.Bounds.{Bounds}
use Rattle.bh_spec.specs.Messages.{Field}
use Rattle.bh_spec.specs.Texts.{Text, content_in, AreEach}
use Rattle.h1_spec.specs.declared.Framing1.{Framing1}
use Rattle.h1_spec.specs.declared.Framing1.TheVariants.{Empty, Counted, Chunked, ToEnd}
use Rattle.h1_spec.specs.Grammar.{crlf}
use Rattle.h1_spec.specs.Framing.{framing}
use Rattle.h1_spec.specs.Bodies.{IsBody}
use Rattle.bh_spec.proofs.Marks.{content-append}
use Rattle.h1_spec.specs.Marks.{as_content, as_framing, IsMarkedChunk, IsMarkedBody}
use Rattle.h1_spec.specs.Laws.{MarksTheContent}
use Rattle.h1_spec.proofs.BodyMarks.{framing_none, content_all}

pub chunk_count : (chunk line : List ℕ) (t : Text) → t ≡ as_framing line ++ (as_content chunk ++ as_framing crlf) → content_in t ≡ length chunk
chunk_count chunk line t e =
    ap content_in e
    ∙ omega (arith, content-append (as_framing line) (as_content chunk ++ as_framing crlf), framing_none line, content-append (as_content chunk) (as_framing crlf), content_all chunk, framing_none crlf)

chunks_count : (chunks : List (List ℕ)) (t : Text) → AreEach IsMarkedChunk chunks t → content_in t ≡ length (concat chunks)
chunks_count [] t h = ap content_in h
chunks_count (chunk ∷ rest) t h =
    ap content_in h.4
    ∙ omega (arith, content-append h.0 h.1, chunk_count chunk h.2.0 h.0 h.2.2, chunks_count rest h.1 h.3, length-append chunk (concat rest))

pub body_count : (L : Bounds) (f : Framing1) (content : List ℕ) (trailers : List Field) (bytes : List ℕ) (t : Text) → IsBody L f content trailers bytes → IsMarkedBody f content t → content_in t ≡ length content
body_count L Empty content trailers bytes t b h = ap content_in h ∙ ap length (sym b.0)
body_count L (Counted n) content trailers bytes t b h = ap content_in h ∙ content_all content
body_count L ToEnd content trailers bytes t b h = ap content_in h ∙ content_all content
body_count L Chunked content trailers bytes t b h =
    ap content_in h.split ∙ omega (arith, content-append h.text (as_framing h.behind), framing_none h.behind, chunks_count h.chunks h.text h.marked, ap length h.joined)

pub marks_the_content : MarksTheContent
marks_the_content L to_head m t h =
    let behind = h.whole.text.3 in
    ap content_in h.split
    ∙ omega (
      arith,
      content-append (as_framing h.heads) h.body,
      framing_none h.heads,
      body_count L (framing to_head h.whole.head) m.content h.whole.trailers behind.1 h.body behind.3 h.marked,
    )
