use Rattle.std.proofs.Common.{◌≡◌, cond, eqb, Some}
use Rattle.measures.specs.Scales.{optional, total}
use Rattle.cells.specs.Cells.{places_of}
use Rattle.bounds.specs.Prefixes.{term_in}
use Rattle.bounds.proofs.prefixes.Prefix+M+M+Value.rest.Given as goal

abbrev pub invariant-loop-s : goal.invariant-loop-s
invariant-loop-s g l = let m = g.M.Measure.meaning in
    l.sum ≡ total (optional m) l.s (λ s. cond (eqb s l.self.i) (Some m.nought) (term_in m l.self.board.now l.self.i (places_of l.self.places.now) s))
