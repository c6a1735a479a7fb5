use Rattle.std.proofs.Common.{◌≡◌, ℕ, ◌+◌, ◌*◌, ◌<◌, ◌≤◌, length, sym, ap, ◌∙◌, subst, ⊎_elim, arith}
use Rattle.std.proofs.lemmas.Bool.{cases_lt}
use Rattle.jobs.specs.Jobs.{stops_of}
use Rattle.sets.specs.Sets.{has_bit}
use Rattle.sets.specs.declared.PlaceSet.{PlaceSet}
use Rattle.tables.specs.Tables.{entry_in}
use Rattle.jobs.proofs.Ties.{some_stop}
use Rattle.waiting.specs.Queues.{NoSpace, Safe}
use Rattle.waiting.proofs.Keeping.{tables_kept}
use Rattle.waiting.proofs.Starting.{some_room, queue_start, heads_start, partition_start}
use Rattle.waiting.proofs.queue.Waiting.let_all_wait.Goals as goal

pub set_entry-requires : goal.set_entry-requires
set_entry-requires g c = let k = c.clear.auto.cells in let r = some_room c.args.self.now.k (length (stops_of c.args.self.now.job.now)) c.requires.0 (some_stop c.args.self.now.job.now) in let b = c.requires.1 in omega arith

pub returns : goal.returns
returns g c = let m = g.M.Measure.meaning in
    let e : c.args.self.now.base + c.args.self.now.k * c.len-m.result ≡ c.args.self.now.base + c.args.self.now.k * length (stops_of c.args.self.now.job.now) = ap (λ x. c.args.self.now.base + c.args.self.now.k * x) c.len-m.ensures.told in
    let empty : (i : ℕ) → c.args.self.now.base ≤ i → i < c.args.self.now.base + c.args.self.now.k * length (stops_of c.args.self.now.job.now) → NoSpace (length (stops_of c.args.self.now.job.now)) (entry_in c.clear.new.cells i) =
    λ i h l. let x = c.clear.ensures.empty i h (omega arith) in (x.0, x.1 ∙ c.len-m.ensures.told) in
    let safe : Safe c.args.self.now.n (length (stops_of c.args.self.now.job.now)) c.first_plan-first.result =
    λ some. (
      subst (λ (d : ℕ). d < length (stops_of c.args.self.now.job.now)) (sym c.first_plan-first.ensures.kept.0) (some_stop c.args.self.now.job.now),
      c.first_plan-first.ensures.small.0 (⊎_elim (λ h. h) (λ h. absurd (some (c.first_plan-first.ensures.small.1 (omega arith)))) (cases_lt 0 c.args.self.now.n)),
    ) in record {
      kept = λ i l. c.set_entry.ensures.others i (λ x. omega arith) ∙ c.clear.ensures.kept i l;
      tables = tables_kept c.args.cells.now c.set_entry.new.cells c.args.self.now.n c.args.self.now.base (stops_of c.args.self.now.job.now) c.args.self.now.behind (λ i l. c.set_entry.ensures.others i (λ x. omega arith) ∙ c.clear.ensures.kept i l) m;
      queue = queue_start c.clear.new.cells c.set_entry.new.cells c.args.self.now.n (length (stops_of c.args.self.now.job.now)) c.args.self.now.base c.args.self.now.k c.first_plan-first.result c.set_entry.ensures.there c.set_entry.ensures.others empty c.requires.0 (some_stop c.args.self.now.job.now) c.first_plan-first.ensures.kept.0 safe;
      heads = heads_start c.clear.new.cells c.set_entry.new.cells c.args.self.now.n (length (stops_of c.args.self.now.job.now)) c.args.self.now.base c.args.self.now.k c.first_plan-first.result c.set_entry.ensures.there c.set_entry.ensures.others empty c.requires.0 (some_stop c.args.self.now.job.now) c.first_plan-first.ensures.kept.0;
      stands = λ τ H tables. let after = tables_kept c.args.cells.now c.clear.new.cells c.args.self.now.n c.args.self.now.base (stops_of c.args.self.now.job.now) c.args.self.now.behind c.clear.ensures.kept m τ H tables in
          partition_start c.clear.new.cells c.set_entry.new.cells c.args.self.now.n (length (stops_of c.args.self.now.job.now)) c.args.self.now.base c.args.self.now.k c.first_plan-first.result c.set_entry.ensures.there c.set_entry.ensures.others empty c.requires.0 (some_stop c.args.self.now.job.now) c.first_plan-first.ensures.kept.0
          m g.met.M.Measure.lawful.laws c.args.self.now.job.now τ H tables.holds.size after
          (λ r. ap (λ (x : PlaceSet). has_bit x.bits r) c.first_plan-first.ensures.kept.1 ∙ c.empty.ensures.none r)
          (c.first_plan-first.ensures.first τ H after);
    }
