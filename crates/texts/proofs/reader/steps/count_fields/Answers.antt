use Rattle.std.proofs.Common.{◌≤◌, length, arith}
use Rattle.texts.proofs.Cuts.{count_end}
use Rattle.texts.proofs.reader.steps.count_fields.Goals as goal

pub returns : goal.returns
returns c = let done : length c.args.line.now ≤ c.loop-b.b-index = omega (arith, c.loop-b-test.false) in count_end c.args.line.now c.loop-b.b-index c.loop-b.n done c.loop-b.invariant
