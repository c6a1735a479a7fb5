use Rattle.streets.specs.Meaning.{StreetMeaning}
use Rattle.rides.specs.PairTables.{RidesChanged, FullBelow}
use Rattle.rides.proofs.closure.PairTable+M+M+Value.close.Given as goal

abbrev pub invariant-loop-k : goal.invariant-loop-k
invariant-loop-k g l =
    let m = g.M.Measure.meaning in
    ((s : StreetMeaning) → FullBelow m s 0 l.initial.self → FullBelow m s l.k l.self)
    × RidesChanged l.initial.self l.self
