use Rattle.streets.specs.Meaning.{StreetMeaning}
use Rattle.rides.specs.PairTables.{RidesChanged, RoundAt}
use Rattle.rides.proofs.closure.PairTable+M+M+Value.relax_row.Given as goal

abbrev pub invariant-loop-j : goal.invariant-loop-j
invariant-loop-j g l =
    let m = g.M.Measure.meaning in
    ((s : StreetMeaning) → RoundAt m s l.k l.i 0 l.initial.self → RoundAt m s l.k l.i l.j l.self)
    × RidesChanged l.initial.self l.self
