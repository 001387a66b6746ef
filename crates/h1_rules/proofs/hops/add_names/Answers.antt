use Rattle.std.proofs.Common.{ℕ, List, ◌++◌, ◌∷◌, length, ap, ◌∙◌, sym, arith}
use Rattle.std.proofs.lemmas.List.{length-append}
use Rattle.h1_rules.specs.Hopping.{hops_in, hops_of_piece, names_held}
use Rattle.h1_rules.proofs.HopLemmas.{first_of_pieces, last_of_pieces, moved}
use Rattle.h1_rules.proofs.hops.add_names.Goals as goal

pub loop-piece-preserved : goal.loop-piece-preserved
loop-piece-preserved c =
    let piece = c.in-Some.piece.now in
    let more = c.in-Some.more.now in
    let first = first_of_pieces c.loop-piece.rest.now piece more c.in-Some.ensures.first c.in-Some.ensures.whole in
    let whole = ap (λ (bytes : List ℕ). length bytes) c.in-Some.ensures.whole in
    record {
      named = ap (λ (names : List (List ℕ)). names ++ hops_in more) c.add_name.ensures.names
          ∙ moved (names_held c.loop-piece.names.items) (hops_in c.loop-piece.rest.now) (hops_of_piece piece) (hops_in more)
          (names_held c.args.names.now.items ++ hops_in c.args.value.now) c.loop-piece.invariant.named first;
      room = omega (arith, whole, length-append piece (44 ∷ more), c.loop-piece.invariant.room, c.add_name.ensures.len);
      capacity = omega (arith, c.loop-piece.invariant.capacity, c.add_name.ensures.capacity);
    }

pub returns-clause-names : goal.returns-clause-names
returns-clause-names c =
    c.add_name-2.ensures.names
    ∙ ap (λ (names : List (List ℕ)). names_held c.loop-piece.names.items ++ names) (sym (last_of_pieces c.loop-piece.rest.now c.in_default.ensures.none))
    ∙ c.loop-piece.invariant.named
