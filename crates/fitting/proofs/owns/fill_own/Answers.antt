use Rattle.std.proofs.Common.{ℕ, ◌+◌, ◌*◌, ◌<◌, length, arith}
use Rattle.std.proofs.lemmas.Nat.{mul-add-lt}
use Rattle.jobs.specs.Jobs.{stops_of}
use Rattle.jobs.proofs.Ties.{job_tree}
use Rattle.fitting.proofs.Holding.{street_held}
use Rattle.fitting.proofs.owns.fill_own.Goals as goal

pub returns-clause-holds : goal.returns-clause-holds
returns-clause-holds g c = let m = g.M.Measure.meaning in let o = c.args.board.now in let new = c.fill_rows.new.board in let owned = c.fill_rows.ensures.owned in
    let inside : (s q : ℕ) → s < length (stops_of c.args.board.now.job.now) → q < c.args.board.now.n → s * c.args.board.now.n + q < length (stops_of c.args.board.now.job.now) * c.args.board.now.n = λ s q l h. let x = mul-add-lt s o.n q (length (stops_of o.job.now)) l h in omega arith in
    street_held m g.met.M.Measure.lawful.laws o.n (stops_of o.job.now) (job_tree o.job.now) o.cells.now new.cells.now owned.only (λ s q l h. owned.owns s q h (omega arith) (let x = inside s q l h in omega arith))
