use Rattle.std.proofs.Common.{rules, ◌≡◌, ℕ, ◌+◌, ◌<◌, Some, Option, sym, ◌∙◌, subst, arith}
use Rattle.plans.specs.Between.{Reaches}
use Rattle.tables.specs.Tables.{ride_in}
use Rattle.rides.specs.Rounds.{Mid}
use Rattle.rides.proofs.Rounding.{mid_step}
use Rattle.rides.proofs.closure.PairTable+M+M+Value.relax_row.Goals as goal

-- mid_step takes a walk for every value
pub loop-j-preserved : goal.loop-j-preserved
loop-j-preserved g c =
    let m = g.M.Measure.meaning in
    let n = c.loop-j.self.n in
    let k = c.args.k in
    let i = c.args.i in
    let first = c.in-Some.first in
    let same = c.loop-j.invariant.1.0.0 in
    let kn : k < n = omega arith in
    let hi : i < n = omega arith in
    let hj : c.loop-j.j < n = omega arith in
    let new = c.relax.new.self in
    let way : ride_in c.args.self.now.cells.now c.args.self.now.n i k ≡ Some first = sym c.ride.ensures ∙ c.in-Some.is in (
      (λ s mid. subst (λ (x : ℕ). Mid m s x k i (c.loop-j.j + 1) (ride_in new.cells.now x)) (sym c.relax.ensures.kept.0.0)
          (mid_step m g.met.M.Measure.lawful.laws s n k kn i c.loop-j.j hi hj (Some first)
          (ride_in c.loop-j.self.cells.now n) (ride_in new.cells.now n)
          (λ x e. mid.some_walk i k c.requires.0 c.requires.1 x (way ∙ e))
          (λ v t. subst (λ (o : Option g.row.M-Value.Denot). Reaches m o v) way (mid.none_below i k c.requires.0 c.requires.1 v t))
          (c.loop-j.invariant.0 s mid) c.relax.ensures.rides.there c.relax.ensures.rides.others)),
      search rules,
    )
