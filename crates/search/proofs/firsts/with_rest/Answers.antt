use Rattle.std.proofs.Common.{◌+◌, ◌∙◌, arith}
use Rattle.search.proofs.Filling.{with_same, with_small, found_next}
use Rattle.search.proofs.firsts.with_rest.Goals as goal

pub loop-i-preserved : goal.loop-i-preserved
loop-i-preserved g c = let i = c.loop-i.i in let before = c.loop-i.invariant in let there = c.with-places.ensures.there in let others = c.with-places.ensures.others in let place = c.pick-next.result.place in let z = c.requires.1 0 (omega arith) in (
  with_small c.loop-i.places c.with-places.result i place there others c.args.board.now.n (c.pick-next.ensures.within (omega arith)) before.0,
  (λ s l. before.1 s l ∙ with_same c.loop-i.places c.with-places.result i place there others (c.args.depth + 1) (omega arith) s l),
  λ excluded v found. found_next g.M.Measure.meaning g.met.M.Measure.lawful.laws _ excluded c.pick-next.result c.with-places.result there others c.args.depth c.empty.result.bits v (omega arith) c.empty.ensures.none c.pick-next.ensures.picks (before.2 excluded v found),
)
