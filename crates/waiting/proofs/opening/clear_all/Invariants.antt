use Rattle.std.proofs.Common.{ℕ, ◌<◌}
use Rattle.tables.specs.Tables.{entry_in}
use Rattle.waiting.specs.Queues.{NoSpace}
use Rattle.waiting.proofs.opening.clear_all.Given as goal

abbrev pub invariant-loop-cell : goal.invariant-loop-cell
invariant-loop-cell g l = (i : ℕ) → i < l.cell-index → NoSpace l.m (entry_in l.cells i)
