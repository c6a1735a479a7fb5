use Rattle.std.proofs.Common.{◌≡◌, ℕ, ◌+◌, sym, subst, arith, rules}
use Rattle.std.specs.Iterator.Adapters.{enumerate_count}
use Rattle.jobs.specs.Jobs.{stops_of}
use Rattle.tables.specs.Tables.{EntryWritten}
use Rattle.minima.proofs.Filling.{same_both}
use Rattle.waiting.proofs.Splitting.{SplitTo, PartFor, board_more}
use Rattle.waiting.proofs.parts.split_rest.Goals as goal

pub loop-u-preserved : goal.loop-u-preserved
loop-u-preserved g c = let step = c.in-Some.ensures.steps in let m = g.M.Measure.meaning in let o = c.args.board.now in let old = c.args.old.now in let b = c.board.result in
    let stop : c.in-Some.t ≡ old.depth + 1 + enumerate_count c.loop-u.u-iterator = omega arith in
    let part : PartFor m b.cells.now b.n (stops_of b.job.now) old.places (old.depth + 1 + enumerate_count c.loop-u.u-iterator) c.part_at-part.result =
    subst (λ (t : ℕ). PartFor m b.cells.now b.n (stops_of b.job.now) old.places t c.part_at-part.result) stop record {
      part = record { depth = c.part_at-part.ensures.kept.0; same = c.part_at-part.ensures.kept.1; excluded = λ r. grind (arith, c.part_at-part.ensures.excluded r, c.empty.ensures.none r) };
      safe = c.part_at-part.ensures.safe;
      first = c.part_at-part.ensures.first;
    } in
    let put : EntryWritten (c.args.at + enumerate_count c.loop-u.u-iterator) c.part_at-part.result c.loop-u.board.cells.now c.set_entry.new.self.cells.now =
    subst (λ (u : ℕ). EntryWritten (c.args.at + u) c.part_at-part.result c.loop-u.board.cells.now c.set_entry.new.self.cells.now) step.1 c.set_entry.ensures.written in (
      (tt, tt, search rules),
      tt,
      omega arith,
      omega arith,
      omega arith,
      same_both _ _ _ c.loop-u.invariant.5 c.set_entry.ensures.same,
      subst (λ (x : ℕ). SplitTo m o.cells.now o.n (stops_of o.job.now) old.places old.depth c.args.at x c.set_entry.new.self.cells.now) (sym step.2)
          (board_more m o c.loop-u.board c.set_entry.new.self b old.places old.depth c.args.at (enumerate_count c.loop-u.u-iterator) c.part_at-part.result c.requires.1 c.board.ensures c.loop-u.invariant.5 c.loop-u.invariant.6 part put),
    )

pub returns-clause-firsts : goal.returns-clause-firsts
returns-clause-firsts g c = let end = c.in-None.ensures.steps in λ u l. c.loop-u.invariant.6.firsts u (omega (arith, end))
