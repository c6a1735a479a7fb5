use Rattle.texts.proofs.Cuts.{Counted}
use Rattle.texts.proofs.reader.steps.count_fields.Given as goal

abbrev pub invariant-loop-b : goal.invariant-loop-b
invariant-loop-b l = Counted l.line l.b-index l.n
