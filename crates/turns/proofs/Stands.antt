-- How the plans of a job over a street stand in the cells at the start, and after one more is given.
use Rattle.std.proofs.Common.{◌≡◌, ℕ, suc, ◌+◌, ◌*◌, ◌<◌, ◌≤◌, List, [], ◌∷◌, length, IfSome, Some, None, Option, sym, refl, ap, ◌∙◌, subst, add-one, arith, MatchOption}
use Rattle.measures.specs.Laws.{Laws}
use Rattle.measures.specs.Meaning.{MeasureMeaning}
use Rattle.streets.specs.Meaning.{StreetMeaning, Sound as StreetSound}
use Rattle.jobs.specs.declared.job.Job.{Job}
use Rattle.jobs.specs.declared.stops.Stop.{Stop}
use Rattle.jobs.specs.Jobs.{stops_of}
use Rattle.measures.specs.Scales.{Scale, Sound, optional}
use Rattle.trees.specs.Tasks.{Task, Rooted}
use Rattle.trees.specs.Minima.{Minimal}
use Rattle.trees.specs.Subspaces.{Subspace}
use Rattle.trees.specs.Rounds.{Partition, Chosen, FirstLeft}
use Rattle.trees.proofs.Lift.{lifted}
use Rattle.trees.proofs.Firsts.{itself}
use Rattle.cells.specs.declared.cell.Cell.{Cell}
use Rattle.cells.specs.Cells.{places_of}
use Rattle.tables.specs.Tables.{hang_in, entry_in, Stays, Kept}
use Rattle.rides.specs.Cells.{Filled}
use Rattle.rides.proofs.Still.{still_filled}
use Rattle.tours.specs.Jobs.{job_meaning}
use Rattle.tours.specs.Tasks.{task_of}
use Rattle.tours.specs.Turns.{FirstPlanLeft, NoPlanLeft}
use Rattle.tours.proofs.Turns.{tour_laws_lem}
use Rattle.minima.specs.Tables.{Holds, Tables}
use Rattle.minima.specs.Boards.{SameBoard}
use Rattle.minima.specs.declared.board.BoardMut.{BoardMut}
use Rattle.jobs.proofs.Ties.{job_tree, some_stop}
use Rattle.waiting.specs.Queues.{waiting_in, Placed, TablesKept, FindsFirst}
use Rattle.leaders.specs.Leaders.{AllLed, Rows, Givable, Advanced, HeadPlan}
use Rattle.leaders.proofs.Foremost.{head_in}
use Rattle.turns.specs.Standing.{behind_tables, needed, Tabled, Standing, Waits, Looked, Gave}

-- the first plan left is the one that is chosen among the subspaces
pub chosen_if_first : {W : Type 0} (σ : Scale W) (sound : Sound σ) (τ : Task W) (H : ℕ → ℕ → W) → Rooted τ → Minimal σ τ H → (given : List (ℕ → ℕ)) (len : ℕ) (E : ℕ → Subspace W) (w : ℕ) → Partition σ τ H given len E → w < len →
    FirstLeft σ τ given (E w).places (E w).worth → Chosen σ τ len E w
chosen_if_first σ sound τ H rooted minimal given len E w waits l first = record {
  within = l;
  some = first.some;
  least = λ v k some. let own = itself σ sound τ H rooted minimal (E v) (waits.first v k) some in first.foremost (E v).places own.placed (waits.fresh v (E v).places k own);
}

module _ {M V : Type 0} (meaning : MeasureMeaning V) (street : StreetMeaning) (old new : List (Cell M V)) where
  -- what the minima and the own values that are filled in say of the street
  pub tabled_over : (first owned last : BoardMut M V) → SameBoard first owned → Stays owned.cells.now last.cells.now → StreetSound street → street.places ≡ first.n →
      Holds owned.cells.now first.n (stops_of first.job.now) (task_of meaning street (job_meaning (stops_of first.job.now))) × Filled meaning street owned.cells.now →
      ((τ : Task (Option V)) → Holds owned.cells.now owned.n (stops_of owned.job.now) τ → Tables meaning last.cells.now owned.n (stops_of owned.job.now) τ (hang_in last.cells.now owned.n)) →
      Tabled meaning street (stops_of first.job.now) first.n last.cells.now
  tabled_over first owned last same stays sound count held tables =
      let en : owned.n ≡ first.n = same.n in
      let ej : owned.job ≡ first.job = same.job in
      let over : (τ : Task (Option V)) → Holds owned.cells.now first.n (stops_of first.job.now) τ → Tables meaning last.cells.now first.n (stops_of first.job.now) τ (hang_in last.cells.now first.n) = rw (en, ej) at tables in record {
        sound = sound;
        count = count;
        filled = still_filled meaning street owned.cells.now last.cells.now (λ i _. stays.legs i) (λ i _. stays.rides i) (λ i _. stays.kinds i) held.1;
        minima = hang_in last.cells.now first.n;
        tables = over (task_of meaning street (job_meaning (stops_of first.job.now))) held.0;
      }

  -- the same where the board's cells, places and job go under other names
  pub tabled_at : (n : ℕ) (j : Job) (first last : BoardMut M V) → first.n ≡ n → first.job.now ≡ j → first.cells.now ≡ old → new ≡ last.cells.now →
      (StreetSound street → street.places ≡ first.n → Filled meaning street first.cells.now → Tabled meaning street (stops_of first.job.now) first.n last.cells.now) →
      StreetSound street → street.places ≡ n → Filled meaning street old → Tabled meaning street (stops_of j) n new
  tabled_at n j first last en ej ec el tabled = rw el (rw (en, ej, ec) at tabled)

  filled_kept : (k : ℕ) → street.places * street.places ≤ k → Kept k old new → Filled meaning street old → Filled meaning street new
  filled_kept k le kept = still_filled meaning street old new (λ i l. ap (λ (c : Cell M V). c.leg) (kept i (omega arith))) (λ i l. ap (λ (c : Cell M V). c.ride) (kept i (omega arith))) (λ i l. ap (λ (c : Cell M V). c.kind) (kept i (omega arith)))

  module _ (stops : List Stop) (n k base : ℕ) (is : base ≡ behind_tables n (length stops)) (kept : Kept base old new) (tabled : Tabled meaning street stops n old)
      (tables : Tables meaning new n stops (task_of meaning street (job_meaning stops)) tabled.minima) where
    -- writing behind the tables keeps them
    pub tabled_kept : Tabled meaning street stops n new
    tabled_kept = record {
      sound = tabled.sound;
      count = tabled.count;
      filled = filled_kept base (subst (λ (x : ℕ). x * x ≤ base) (sym tabled.count) (omega arith)) kept tabled.filled;
      minima = tabled.minima;
      tables = tables;
    }

    pub standing : (given : List (ℕ → ℕ)) (rows : ℕ) → rows ≡ length given → Rows new base n (length stops) k rows → AllLed meaning new base (length stops) k rows →
        Partition (optional meaning) (task_of meaning street (job_meaning stops)) tabled.minima given (k * length stops) (waiting_in new base) → Standing meaning street stops n k given new
    unfolding tabled_kept
    standing given rows e queue led parted = record {
      tabled = tabled_kept;
      used = subst (λ (x : ℕ). Rows new x n (length stops) k (length given)) is (subst (λ (r : ℕ). Rows new base n (length stops) k r) e queue);
      led = subst (λ (x : ℕ). AllLed meaning new x (length stops) k (length given)) is (subst (λ (r : ℕ). AllLed meaning new base (length stops) k r) e led);
      parted = subst (λ (x : ℕ). Partition (optional meaning) (task_of meaning street (job_meaning stops)) tabled.minima given (k * length stops) (waiting_in new x)) is parted;
    }

-- what the search finds is the first plan left, or that no plan is left
pub found : {M V : Type 0} (meaning : MeasureMeaning V) (laws : Laws meaning.nought meaning.joined meaning.before) (street : StreetMeaning) (j : Job) (n k : ℕ) (given : List (ℕ → ℕ)) (cells : List (Cell M V)) (base : ℕ) →
    Standing meaning street (stops_of j) n k given cells → (len : ℕ) (r : Option ℕ) → FindsFirst meaning (task_of meaning street (job_meaning (stops_of j))) given cells base len r →
    MatchOption r (NoPlanLeft meaning street (job_meaning (stops_of j)) given)
    (λ w. (v : V) × ((entry_in cells (base + w)).score ≡ Some v) × FirstPlanLeft meaning street (job_meaning (stops_of j)) given (places_of (entry_in cells (base + w)).places) v)
found meaning laws street j n k given cells base s len None h = (tour_laws_lem meaning laws).none_right street (job_meaning (stops_of j)) given s.tabled.sound ((tour_laws_lem meaning laws).tree (stops_of j) (job_tree j)) h
found meaning laws street j n k given cells base s len (Some w) h =
    (tour_laws_lem meaning laws).first_right street (job_meaning (stops_of j)) given (places_of (entry_in cells (base + w)).places) (entry_in cells (base + w)).score s.tabled.sound ((tour_laws_lem meaning laws).tree (stops_of j) (job_tree j)) h.1

-- the first plan left waits in the entry that is chosen
pub chosen_plan : {M V : Type 0} (meaning : MeasureMeaning V) (laws : Laws meaning.nought meaning.joined meaning.before) (street : StreetMeaning) (j : Job) (n k w : ℕ) (given : List (ℕ → ℕ)) (cells : List (Cell M V)) (v : V)
    (s : Standing meaning street (stops_of j) n k given cells) → w < k * length (stops_of j) → (entry_in cells (behind_tables n (length (stops_of j)) + w)).score ≡ Some v →
    FirstPlanLeft meaning street (job_meaning (stops_of j)) given (places_of (entry_in cells (behind_tables n (length (stops_of j)) + w)).places) v →
    Chosen (optional meaning) (task_of meaning street (job_meaning (stops_of j))) (k * length (stops_of j)) (waiting_in cells (behind_tables n (length (stops_of j)))) w
chosen_plan {M} {V} meaning laws street j n k w given cells v s l e first = chosen_if_first (optional meaning) (lifted meaning laws) (task_of meaning street (job_meaning (stops_of j))) s.tabled.minima s.tabled.tables.holds.rooted s.tabled.tables.minimal given
    (k * length (stops_of j)) (waiting_in cells (behind_tables n (length (stops_of j)))) w s.parted l
    (subst (λ (o : Option V). FirstLeft (optional meaning) (task_of meaning street (job_meaning (stops_of j))) given (places_of (entry_in cells (behind_tables n (length (stops_of j)) + w)).places) o) (sym e)
    ((tour_laws_lem meaning laws).first_only street (job_meaning (stops_of j)) given (places_of (entry_in cells (behind_tables n (length (stops_of j)) + w)).places) v s.tabled.sound ((tour_laws_lem meaning laws).tree (stops_of j) (job_tree j)) first))

-- what the search finds can be split
pub splittable : {M V : Type 0} (cells : List (Cell M V)) (n k rows base : ℕ) (stops : List Stop) → needed n (length stops) k ≤ length cells → base ≡ behind_tables n (length stops) → rows < k → (r : Option ℕ) →
    IfSome r (λ w. (w ≤ rows) × Placed n (length stops) (entry_in cells (base + w))) →
    IfSome r (λ w. Givable cells n stops (behind_tables n (length stops)) k rows w)
splittable cells n k rows base stops room is row None h = tt
splittable cells n k rows base stops room is row (Some w) h = let head = h.0 in record {
  head = h.0;
  split = record {
    room = room;
    row = row;
    used = omega arith;
    placed = subst (λ (b : ℕ). Placed n (length stops) (entry_in cells (b + w))) is h.1;
  };
}

-- a fact of four values, in place of equal ones
moved : (J : Type 0) (P : ℕ → J → ℕ → ℕ → Type 0) (n n' : ℕ) (j j' : J) (b b' k k' : ℕ) → n ≡ n' → j ≡ j' → b ≡ b' → k ≡ k' → P n j b k → P n' j' b' k'
moved J P n n' j j' b b' k k' p q r s h = subst (λ x. P x j' b' k') p (subst (λ x. P n x b' k') q (subst (λ x. P n j x k') r (subst (λ x. P n j b x) s h)))

-- all plans wait in the entries from cell `base` on, over the tables that were there
pub record AllWait {M V : Type 0} (meaning : MeasureMeaning V) (n : ℕ) (j : Job) (base k : ℕ) (old new : List (Cell M V)) : Type 0 where
  pub kept : Kept base old new
  pub used : Rows new base n (length (stops_of j)) k 0
  pub tables : TablesKept meaning n (stops_of j) old new
  pub stands : (τ : Task (Option V)) (H : ℕ → ℕ → Option V) → Tables meaning old n (stops_of j) τ H → Partition (optional meaning) τ H [] (k * length (stops_of j)) (waiting_in new base)

-- where the waiting subspaces stand behind the tables, all plans of the job over the street wait
pub waits : {M V : Type 0} (meaning : MeasureMeaning V) (n n' : ℕ) (j j' : Job) (b k k' : ℕ) (old new : List (Cell M V)) → n' ≡ n → j' ≡ j → b ≡ behind_tables n (length (stops_of j)) → k' ≡ k → AllWait meaning n' j' b k' old new →
    Waits meaning (stops_of j) n k old new
waits meaning n n' j j' b k k' old new p q r s all = let h = moved Job (λ x i c y. AllWait meaning x i c y old new) n' n j' j b (behind_tables n (length (stops_of j))) k' k p q r s all in record {
  used = h.used;
  stands = λ street tabled. let τ = task_of meaning street (job_meaning (stops_of j)) in
      standing meaning street old new (stops_of j) n k (behind_tables n (length (stops_of j))) refl h.kept tabled (h.tables τ tabled.minima tabled.tables) [] 0 refl h.used (λ r l. absurd (omega arith))
      (h.stands τ tabled.minima tabled.tables);
}

-- r is the head that the search over the entries from cell `base` on finds
pub record HeadFound {M V : Type 0} (meaning : MeasureMeaning V) (cells : List (Cell M V)) (base m k : ℕ) (r : Option ℕ) : Type 0 where
  pub some : IfSome r (λ w. (w < k) × ((entry_in cells (base + w)).score ≡ None → ⊥))
  pub ready : (n rows : ℕ) → Rows cells base n m k rows → IfSome r (λ w. (w ≤ rows) × Placed n m (entry_in cells (base + w)))
  pub plan : HeadPlan meaning cells base m k r

-- where the entries stand behind the tables, it has the first plan of the street that is not given
pub looked : {M V : Type 0} (meaning : MeasureMeaning V) (laws : Laws meaning.nought meaning.joined meaning.before) (j : Job) (n k : ℕ) (cells : List (Cell M V)) → needed n (length (stops_of j)) k ≤ length cells → (b m k' : ℕ) →
    b ≡ behind_tables n (length (stops_of j)) → m ≡ length (stops_of j) → k' ≡ k → (r : Option ℕ) → HeadFound meaning cells b m k' r → Looked meaning (stops_of j) n k cells r
looked meaning laws j n k cells room b m k' p q s r found-head =
    let h = moved ℕ (λ _ x c y. HeadFound meaning cells c x y r) 0 0 m (length (stops_of j)) b (behind_tables n (length (stops_of j))) k' k refl q p s found-head in record {
      some = h.some;
      ready = λ rows row used. splittable cells n k rows (behind_tables n (length (stops_of j))) (stops_of j) room refl row r (h.ready n rows used);
      plan = λ street given s. let τ = task_of meaning street (job_meaning (stops_of j)) in
          found meaning laws street j n k given cells (behind_tables n (length (stops_of j))) s (k * length (stops_of j)) r
          (h.plan.told τ s.tabled.minima n (length given) (stops_of j) given refl s.tabled.tables s.used s.led s.parted);
    }

-- once it is given, the other plans of the street wait on
pub gave : {M V : Type 0} (meaning : MeasureMeaning V) (laws : Laws meaning.nought meaning.joined meaning.before) (n n' : ℕ) (j j' : Job) (b k k' rows w : ℕ) (old new : List (Cell M V)) →
    n' ≡ n → j' ≡ j → b ≡ behind_tables n (length (stops_of j)) → k' ≡ k → Givable old n (stops_of j) (behind_tables n (length (stops_of j))) k rows w →
    Advanced meaning (stops_of j') n' b k' rows w old new → Gave meaning (stops_of j) n k rows w old new
gave meaning laws n n' j j' b k k' rows w old new p q r s givable advanced =
    let h = moved Job (λ x i c y. Advanced meaning (stops_of i) x c y rows w old new) n' n j' j b (behind_tables n (length (stops_of j))) k' k p q r s advanced in
    let wl : w < k * length (stops_of j) = head_in k (length (stops_of j)) w (some_stop j) (let l = givable.split.row in let e = givable.head in omega arith) in record {
      used = h.used;
      stands = λ street given v e s scored first. let τ = task_of meaning street (job_meaning (stops_of j)) in
          let used = subst (λ (x : ℕ). Rows old (behind_tables n (length (stops_of j))) n (length (stops_of j)) k x) (sym e) s.used in
          let led = subst (λ (x : ℕ). AllLed meaning old (behind_tables n (length (stops_of j))) (length (stops_of j)) k x) (sym e) s.led in
          standing meaning street old new (stops_of j) n k (behind_tables n (length (stops_of j))) refl h.kept s.tabled (h.tables τ s.tabled.minima s.tabled.tables)
          (places_of (entry_in old (behind_tables n (length (stops_of j)) + w)).places ∷ given) (rows + 1) (add-one rows ∙ ap suc e) (h.used used) (h.led led)
          (h.stands τ s.tabled.minima given s.tabled.tables used s.parted (chosen_plan meaning laws street j n k w given old v s wl scored first));
    }
