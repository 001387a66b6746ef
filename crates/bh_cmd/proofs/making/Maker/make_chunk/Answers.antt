use Rattle.std.proofs.Common.{◌∙◌, ◌++◌, take, ap, sym, arith, List, ℕ}
use Rattle.bh_cmd.specs.Trials.{content_from}
use Rattle.bh_cmd.specs.Making.{unmade}
use Rattle.bh_cmd.proofs.Refilling.{none_ready, chunk_made}
use Rattle.bh_cmd.proofs.making.Maker.make_chunk.Goals as goal

pub returns-clause-sound : goal.returns-clause-sound
returns-clause-sound c =
    let s = c.requires.sound in
    let size = c.size_of-size.ensures in
    let more = c.requires.more in
    record {
      room = c.put_content-self.ensures.same_room;
      inside = omega arith;
      fits = let start = c.put_integer-start.ensures.end in let end = c.put_content-self.ensures.end in omega (arith, start, end, size);
      chunks = let few = s.chunks in omega (arith, few, size, more);
      most = let few = s.most in omega (arith, few, size);
      done = λ e. let none = s.done e in absurd (omega (arith, none, more));
    }

pub returns-clause-comes : goal.returns-clause-comes
returns-clause-comes c =
    let s = c.requires.sound in
    let m = c.args.self.now in
    let size = c.size_of-size.result in
    chunk_made m.chunk m.made m.missing size c.size_of-size.ensures c.requires.more m.ended s.done
    (take c.put_content-self.result c.put_content-self.new.ready)
    (c.put_content-self.ensures.text ∙ ap (λ (front : List ℕ). front ++ content_from m.made size) c.put_integer-start.ensures.text)
    ∙ ap (λ (front : List ℕ). front ++ unmade m.ended m.chunk m.made m.missing) (sym (none_ready m.at m.end m.ready c.requires.empty))
