use Rattle.std.proofs.Common.{◌≤◌, length}
use Rattle.reading_cases.proofs.fill.Given as goal

abbrev pub invariant-loop-b : goal.invariant-loop-b
invariant-loop-b l = length l.bytes.rest.now ≤ length l.initial.bytes.rest.now
