use Rattle.streets.specs.Meaning.{StreetMeaning}
use Rattle.rides.specs.PairTables.{RidesChanged, FullBelow, RoundAt}
use Rattle.rides.proofs.closure.PairTable+M+M+Value.relax_round.Given as goal

abbrev pub invariant-loop-i : goal.invariant-loop-i
invariant-loop-i g l =
    let m = g.M.Measure.meaning in
    ((s : StreetMeaning) → FullBelow m s l.k l.initial.self → RoundAt m s l.k l.i 0 l.self)
    × RidesChanged l.initial.self l.self
