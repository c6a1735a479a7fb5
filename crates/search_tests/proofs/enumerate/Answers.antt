use Rattle.std.proofs.Common.{◌≡◌, ℕ, ◌+◌, ◌*◌, ◌<◌, ◌≤◌, length, sym, subst, ap, ◌∙◌, arith}
use Rattle.jobs.specs.declared.job.Job.{Job}
use Rattle.jobs.specs.Jobs.{stops_of}
use Rattle.tables.specs.Tables.{entry_in}
use Rattle.waiting.specs.Queues.{Placed}
use Rattle.leaders.specs.Leaders.{Rows}
use Rattle.search_tests.proofs.enumerate.Goals as goal

-- a fact of three numbers, in place of equal ones
moved : (P : ℕ → ℕ → ℕ → Type 0) (b b' m m' k k' : ℕ) → b ≡ b' → m ≡ m' → k ≡ k' → P b m k → P b' m' k'
moved P b b' m m' k k' p q r h = subst (λ x. P x m' k') p (subst (λ x. P b x k') q (subst (λ x. P b m x) r h))

-- the search shows that the entry it answers can be given
pub advance-requires : goal.advance-requires
advance-requires g c = let w = c.waiting_plans-waiting.result in let o = c.waiting_plans-waiting.ensures in let e = c.entries-entries.ensures in
    let stops = ap (λ (j : Job). length (stops_of j)) o.1 in
    let found = c.in-Some.ensures.ready 3 c.loop-given.given
    (moved (λ b m k. Rows c.loop-given.cells b 3 m k c.loop-given.given) 18 c.entries-entries.result.base (length (stops_of c.args.job.now)) c.entries-entries.result.m 28 c.entries-entries.result.k
    (sym (e.0 ∙ o.2)) (sym (e.1 ∙ stops)) (sym (e.2 ∙ o.3)) c.loop-given.invariant) in
    let there = moved (λ b m n. Placed n m (entry_in c.loop-given.cells (b + c.in-Some.w)))
    c.entries-entries.result.base w.base c.entries-entries.result.m (length (stops_of w.job.now)) 3 w.n e.0 e.1 (sym o.0) found.1 in
    let head = found.0 in record {
      head = found.0;
      split = record {
        room = moved (λ b m k. b + k * m ≤ length c.loop-given.cells) 18 w.base 3 (length (stops_of w.job.now)) 28 w.k (sym o.2) (sym (stops ∙ c.requires.0)) (sym o.3) (omega arith);
        row = omega (arith, o.3);
        used = omega (arith, o.3, head);
        placed = there;
      };
    }
