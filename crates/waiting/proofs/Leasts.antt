-- The least of the waiting entries has the first plan left.
use Rattle.std.proofs.Common.{◌≡◌, ℕ, ◌+◌, ◌-◌, ◌*◌, ◌<◌, ◌≤◌, Bool, true, false, List, length, IfSome, get_or, take, drop, Some, None, Option, sym, refl, ap, ◌∙◌, ap₂, ⊎_elim, arith, MatchOption}
use Rattle.std.proofs.lemmas.Bool.{cases_lt, cases_Bool, false≢true, cond-false}
use Rattle.std.proofs.lemmas.List.{length-drop, length-take-le, get_or-take, get_or-drop}
use Rattle.least.specs.Order.{FirstLeast}
use Rattle.measures.specs.Laws.{Laws}
use Rattle.measures.specs.Meaning.{MeasureMeaning}
use Rattle.jobs.specs.declared.stops.Stop.{Stop}
use Rattle.measures.specs.Scales.{optional, at_most}
use Rattle.trees.specs.Tasks.{Task}
use Rattle.trees.specs.Rounds.{Partition, Chosen, FirstLeft, NoneLeft}
use Rattle.trees.proofs.Lift.{lifted}
use Rattle.trees.proofs.Choosing.{chosen_by}
use Rattle.trees.proofs.Rounds.{chosen_foremost, all_none}
use Rattle.cells.specs.declared.cell.Cell.{Cell}
use Rattle.cells.specs.declared.cell.Entry.{Entry}
use Rattle.cells.specs.Cells.{places_of, entry_before}
use Rattle.tables.specs.Tables.{blank, entry_in}
use Rattle.minima.specs.Tables.{Tables}
use Rattle.waiting.specs.Queues.{waiting_in, row_start, Placed, Queue, FirstWaiting, FindsFirst, NextPlan}

module _ {M V : Type 0} (cells : List (Cell M V)) (before : V → V → Bool) (from to : ℕ) (le : from ≤ to) (fits : to ≤ length cells) where
  long : length (take (to - from) (drop from cells)) ≡ to - from
  long = length-take-le (to - from) (drop from cells) (let e = length-drop from cells in omega arith)

  at : (v : ℕ) → from + v < to → (get_or (take (to - from) (drop from cells)) v blank).entry ≡ entry_in cells (from + v)
  unfolding entry_in
  at v l = ap (λ (c : Cell M V). c.entry) (get_or-take (to - from) (drop from cells) v blank (omega arith) ∙ get_or-drop from cells v blank)

  pub least_cells : (r : Option ℕ) → FirstLeast (λ a b. entry_before before a.entry b.entry) (take (to - from) (drop from cells)) r →
      MatchOption r (to ≤ from) (λ i. (from + i < to) × ((v : ℕ) → from + v < to → entry_before before (entry_in cells (from + i)) (entry_in cells (from + v)) ≡ true))
  least_cells None h = let e = long in let z = h in omega arith
  least_cells (Some i) h = let e = long in let w = h.within in let l : from + i < to = omega arith in
      (l, λ v k. ap₂ (entry_before before) (sym (at i l)) (sym (at v k)) ∙ h.least v blank (omega arith))

-- no value is at or before another value
none_worst : {V : Type 0} (before : V → V → Bool) (o : Option V) → at_most before None o ≡ true → o ≡ None
none_worst before None h = refl
none_worst before (Some y) h = absurd (false≢true h)

-- what is at or after an entry without a plan has none either
pub none_behind : {V : Type 0} (before : V → V → Bool) (a b : Entry V) → entry_before before a b ≡ true → a.score ≡ None → b.score ≡ None
none_behind {V} before a b h none = ⊎_elim
    (λ t. none_worst before b.score (ap (λ (o : Option V). at_most before o b.score) (sym none) ∙ t))
    (λ f. absurd (false≢true (sym (cond-false _ _ false f) ∙ h)))
    (cases_Bool (at_most before a.score b.score))

-- without cells no plan waits
pub none_waits : {M V : Type 0} (meaning : MeasureMeaning V) (cells : List (Cell M V)) (from count : ℕ) → from + count ≤ from → FirstWaiting meaning cells from count None
none_waits meaning cells from count le = record { none = λ _ v l. absurd (omega arith); some = tt }

module _ {M V : Type 0} (meaning : MeasureMeaning V) (laws : Laws meaning.nought meaning.joined meaning.before) (cells : List (Cell M V)) (n : ℕ) (stops : List Stop) (base len : ℕ) (τ : Task (Option V)) (H : ℕ → ℕ → Option V)
    (given : List (ℕ → ℕ)) (tables : Tables meaning cells n stops τ H) (waits : Partition (optional meaning) τ H given len (waiting_in cells base)) where
  pub no_plan : ((v : ℕ) → v < len → (entry_in cells (base + v)).score ≡ None) → NoneLeft (optional meaning) τ given
  no_plan none = all_none (optional meaning) (lifted meaning laws) τ H tables.holds.rooted tables.minimal given len (waiting_in cells base) waits none

  module _ (few : length stops ≤ 12) (w : ℕ) (wl : w < len) (least : (v : ℕ) → v < len → entry_before meaning.before (entry_in cells (base + w)) (entry_in cells (base + v)) ≡ true)
      (some : (entry_in cells (base + w)).score ≡ None → ⊥) where
    pub chosen : Chosen (optional meaning) τ len (waiting_in cells base) w
    chosen = chosen_by (optional meaning) (lifted meaning laws) τ H tables.holds.rooted tables.minimal 12 len w (waiting_in cells base) (let e = tables.holds.size in omega arith) wl waits.first least some

    pub first_left : FirstLeft (optional meaning) τ given (places_of (entry_in cells (base + w)).places) (entry_in cells (base + w)).score
    first_left = chosen_foremost (optional meaning) (lifted meaning laws) τ H tables.holds.rooted tables.minimal given len (waiting_in cells base) waits w chosen

-- an entry with a plan stands in a row in use, and can be split
pub in_use : {M V : Type 0} (cells : List (Cell M V)) (base n m k rows w : ℕ) → Queue cells base n m k rows → w < k * m → ((entry_in cells (base + w)).score ≡ None → ⊥) →
    (w < row_start m k rows) × Placed n m (entry_in cells (base + w))
in_use cells base n m k rows w queue l some = let s = queue.safe w l some in
    (⊎_elim (λ h. h) (λ h. absurd (let d = queue.free w h l in let e = s.0 in omega arith)) (cases_lt w (row_start m k rows)), s)

-- the entry in which the first plan waits has a plan, is in use and can be split
module _ {M V : Type 0} (meaning : MeasureMeaning V) (cells : List (Cell M V)) (base m k : ℕ) where
  pub some_next : (r : Option ℕ) → FirstWaiting meaning cells base (k * m) r → IfSome r (λ w. (w < k * m) × ((entry_in cells (base + w)).score ≡ None → ⊥))
  some_next None f = tt
  some_next (Some w) f = (f.some.0, f.some.1)

  pub ready_next : (n rows : ℕ) (r : Option ℕ) → FirstWaiting meaning cells base (k * m) r → Queue cells base n m k rows →
      IfSome r (λ w. (w < row_start m k rows) × Placed n m (entry_in cells (base + w)))
  ready_next n rows None f queue = tt
  ready_next n rows (Some w) f queue = in_use cells base n m k rows w queue f.some.0 f.some.1

  -- and it has the first plan left, or no plan is left
  pub plan_next : (laws : Laws meaning.nought meaning.joined meaning.before) (τ : Task (Option V)) (H : ℕ → ℕ → Option V) (n : ℕ) (stops : List Stop) (given : List (ℕ → ℕ)) → length stops ≡ m → m ≤ 12 →
      Tables meaning cells n stops τ H → Partition (optional meaning) τ H given (k * m) (waiting_in cells base) → (r : Option ℕ) → FirstWaiting meaning cells base (k * m) r →
      FindsFirst meaning τ given cells base (k * m) r
  plan_next laws τ H n stops given size few tables waits None f = no_plan meaning laws cells n stops base (k * m) τ H given tables waits (f.none refl)
  plan_next laws τ H n stops given size few tables waits (Some w) f = let l = f.some.0 in (
    chosen meaning laws cells n stops base (k * m) τ H given tables waits (omega arith) w l f.some.2 f.some.1,
    first_left meaning laws cells n stops base (k * m) τ H given tables waits (omega arith) w l f.some.2 f.some.1,
  )

  pub next_plan : (r : Option ℕ) → m ≤ 12 → Laws meaning.nought meaning.joined meaning.before → FirstWaiting meaning cells base (k * m) r → NextPlan meaning cells base m k r
  next_plan r few laws f = record { told = λ τ H n stops given size tables waits. plan_next laws τ H n stops given size few tables waits r f }
