-- The step of the partition, from what the calls of the split say.
use Rattle.std.proofs.Common.{◌≡◌, ℕ, ◌+◌, ◌-◌, ◌*◌, ◌<◌, ◌≤◌, ◌||◌, eqb, ◌⊎◌, List, get_or, Option, sym, refl, ap, ◌∙◌, subst, ⊎_elim, arith}
use Rattle.std.proofs.lemmas.Nat.{mul-le}
use Rattle.std.proofs.lemmas.Bool.{cases_lt, cases_eq, eqb-false, ne_eqb, or_parts, or_from}
use Rattle.measures.specs.Laws.{Laws}
use Rattle.measures.specs.Meaning.{MeasureMeaning}
use Rattle.jobs.specs.declared.job.Job.{Job}
use Rattle.jobs.specs.Jobs.{stops_of}
use Rattle.sets.specs.Sets.{has_bit}
use Rattle.measures.specs.Scales.{optional}
use Rattle.trees.specs.Tasks.{Task}
use Rattle.trees.specs.Subspaces.{First, Split}
use Rattle.trees.proofs.Lift.{lifted}
use Rattle.trees.proofs.Rounds.{step}
use Rattle.cells.specs.declared.cell.Cell.{Cell}
use Rattle.cells.specs.declared.cell.Entry.{Entry}
use Rattle.cells.specs.Cells.{places_of, space_of}
use Rattle.tables.specs.Tables.{blank, entry_in, Kept}
use Rattle.minima.specs.Tables.{Tables}
use Rattle.waiting.specs.Queues.{waiting_in, row_start, Part, Safe, Queue, FreeHeads, WaitsOn}
use Rattle.waiting.proofs.Keeping.{same_entry}
use Rattle.sets.specs.Placements.{Same}

-- the entries of a row end before the next row, and before the end
pub row_ends : (m k row : ℕ) → 1 ≤ m → row < k → row_start m k row + (m - 1) ≤ k * m
row_ends m k row s l = subst (λ (x : ℕ). row_start x k row + (x - 1) ≤ k * x) (let e : m - 1 + 1 ≡ m = omega arith in e) (ends (m - 1) k row l)
  where
    ends : (d k row : ℕ) → row < k → row_start (d + 1) k row + (d + 1 - 1) ≤ k * (d + 1)
    ends d k row l = subst (λ (x : ℕ). k + row * x + x ≤ k * (d + 1)) (let e : d ≡ d + 1 - 1 = omega arith in e) (let a = mul-le (row + 1) d k d (omega arith) (omega arith) in omega arith)

-- where the entries of a row begin, by what stands for the numbers
pub same_start : (b base m' m k' k row at : ℕ) → at ≡ b + row_start m' k' row → b ≡ base → m' ≡ m → k' ≡ k → at ≡ base + row_start m k row
same_start b base m' m k' k row at e p q r = cc

-- how many entries there are at the most
pub room_most : (k m : ℕ) → k ≤ 256 → m ≤ 12 → k * m ≤ 3072
room_most k m small few = mul-le k m 256 12 small few

-- an entry of a row in use stands in the cells
pub within : (base w m k rows len : ℕ) → 1 ≤ m → m ≤ 12 → k ≤ 256 → rows < k → base + k * m ≤ len → w < row_start m k rows → base ≤ 4864 → (base + w < len) × (base + w ≤ 7936)
within base w m k rows len some few small row room l low = let e = row_ends m k rows some row in let b = mul-le k m 256 12 small few in (omega arith, omega arith)

pub next_row : (m k row : ℕ) → row_start m k (row + 1) ≡ row_start m k row + (m - 1)
next_row m k row = omega arith

-- what the calls say: the cells before, with the own part written, and after
pub record Facts {M V : Type 0} (old mid new : List (Cell M V)) (n m base at w : ℕ) (e here : Entry V) : Type 0 where
  pub there : entry_in mid (base + w) ≡ here
  pub others : (i : ℕ) → (i ≡ base + w → ⊥) → get_or mid i blank ≡ get_or old i blank
  pub before : Kept at mid new
  pub behind : (i : ℕ) → at + (m - (e.depth + 1)) ≤ i → get_or new i blank ≡ get_or mid i blank
  pub deep : e.depth < m
  pub depth : here.depth ≡ e.depth
  pub excluded : (r : ℕ) → has_bit here.excluded.bits r ≡ (has_bit e.excluded.bits r || eqb r (places_of e.places e.depth))
  pub same : Same e.depth (places_of e.places) (places_of here.places)
  pub safe : Safe n m here
  pub parts : (u : ℕ) → u < m - (e.depth + 1) → Part e.places (e.depth + 1 + u) (entry_in new (at + u)) × Safe n m (entry_in new (at + u))

module _ {M V : Type 0} (old mid new : List (Cell M V)) (n m base k rows w : ℕ) (here : Entry V) (f : Facts old mid new n m base (base + row_start m k rows) w (entry_in old (base + w)) here) (row : rows < k) (wl : w < row_start m k rows) where
  pub at_w : entry_in new (base + w) ≡ here
  at_w = same_entry mid new (base + w) (f.before (base + w) (omega arith)) ∙ f.there

  pub at_old : (v : ℕ) → v < row_start m k rows → (v ≡ w → ⊥) → entry_in new (base + v) ≡ entry_in old (base + v)
  at_old v l d = same_entry mid new (base + v) (f.before (base + v) (omega arith)) ∙ same_entry old mid (base + v) (f.others (base + v) (λ x. d (omega arith)))

  pub at_behind : (v : ℕ) → row_start m k rows + (m - ((entry_in old (base + w)).depth + 1)) ≤ v → entry_in new (base + v) ≡ entry_in old (base + v)
  at_behind v l = same_entry mid new (base + v) (f.behind (base + v) (omega arith)) ∙ same_entry old mid (base + v) (f.others (base + v) (λ x. omega arith))

  pub at_others : (v : ℕ) → (v ≡ w → ⊥) → (v < row_start m k rows) ⊎ (row_start m k (rows + 1) ≤ v) → entry_in new (base + v) ≡ entry_in old (base + v)
  at_others v d where-is = ⊎_elim (λ l. at_old v l d) (λ g. at_behind v (let e = next_row m k rows in let x = f.deep in omega arith)) where-is

  -- a place among the waiting ones: an old one, the own part, one of the parts behind, or an empty one
  place : (v : ℕ) → (P : Entry V → Type 0) → ((v < row_start m k rows) → (v ≡ w → ⊥) → P (entry_in old (base + v))) → P here →
      ((u : ℕ) → u < m - ((entry_in old (base + w)).depth + 1) → P (entry_in new (base + row_start m k rows + u))) → (row_start m k rows ≤ v → P (entry_in old (base + v))) → P (entry_in new (base + v))
  place v P olds own parts empties = ⊎_elim
      (λ lt. ⊎_elim
      (λ e. subst (λ (i : ℕ). P (entry_in new (base + i))) (sym e) (subst P (sym at_w) own))
      (λ d. subst P (sym (at_old v lt d)) (olds lt d))
      (cases_eq v w))
      (λ ge. ⊎_elim
      (λ lt. let e : base + row_start m k rows + (v - row_start m k rows) ≡ base + v = omega arith in subst (λ (i : ℕ). P (entry_in new i)) e (parts (v - row_start m k rows) (omega arith)))
      (λ g. subst P (sym (at_behind v g)) (empties ge))
      (cases_lt v (row_start m k rows + (m - ((entry_in old (base + w)).depth + 1)))))
      (cases_lt v (row_start m k rows))

  pub queue_more : Queue old base n m k rows → Queue new base n m k (rows + 1)
  queue_more queue = record {
    free = λ v h l. let e = next_row m k rows in let d = f.deep in
        ap (λ (x : Entry V). x.depth) (at_behind v (omega arith)) ∙ queue.free v (omega arith) l;
    safe = λ v l. place v (Safe n m) (λ _ _. queue.safe v l) f.safe (λ u h. (f.parts u h).1) (λ _. queue.safe v l);
  }

  pub heads_more : FreeHeads old base m k rows → FreeHeads new base m k (rows + 1)
  heads_more heads v z h l = ap (λ (x : Entry V). x.depth) (at_old v (omega arith) (λ e. let d = heads v z (omega arith) l in let s = ap (λ i. (entry_in old (base + i)).depth) e in let g = f.deep in omega arith))
      ∙ heads v z (omega arith) l

  module _ (meaning : MeasureMeaning V) (laws : Laws meaning.nought meaning.joined meaning.before) (j : Job) (τ : Task (Option V)) (H : ℕ → ℕ → Option V)
      (size : τ.m ≡ m) (some : 1 ≤ m) (tables : Tables meaning old n (stops_of j) τ H) (queue : Queue old base n m k rows)
      (first-here : First (optional meaning) τ H (space_of here)) (first-parts : (u : ℕ) → u < m - ((entry_in old (base + w)).depth + 1) → First (optional meaning) τ H (space_of (entry_in new (base + row_start m k rows + u)))) where
    part_split : (u : ℕ) → u < m - ((entry_in old (base + w)).depth + 1) → Split (waiting_in old base w) ((entry_in old (base + w)).depth + 1 + u) (waiting_in new base (row_start m k rows + u))
    part_split u l = let p = (f.parts u l).0 in let a : base + row_start m k rows + u ≡ base + (row_start m k rows + u) = omega arith in
        subst (λ (i : ℕ). Split (waiting_in old base w) ((entry_in old (base + w)).depth + 1 + u) (space_of (entry_in new i))) a (record {
          depth = p.depth;
          same = p.same;
          to = λ r o. (eqb-false r _ (sym (p.excluded r) ∙ o), λ x. absurd (omega arith));
          from = λ r d _. p.excluded r ∙ ne_eqb r _ d;
        })

    here_split : Split (waiting_in old base w) (entry_in old (base + w)).depth (waiting_in new base w)
    here_split = subst (λ (x : Entry V). Split (waiting_in old base w) (entry_in old (base + w)).depth (space_of x)) (sym at_w) (record {
      depth = f.depth;
      same = f.same;
      to = λ r o. let p = or_parts _ _ (sym (f.excluded r) ∙ o) in (eqb-false r _ p.1, λ _. p.0);
      from = λ r d h. f.excluded r ∙ or_from _ _ (h refl) (ne_eqb r _ d);
    })

    pub advanced : (given : List (ℕ → ℕ)) → WaitsOn meaning τ H given base (k * m) w old new
    advanced given waits chosen = step (optional meaning) (lifted meaning laws) τ H tables.holds.rooted tables.minimal given (k * m) (waiting_in old base) w (row_start m k rows) (waiting_in new base) waits chosen
        (record {
          room = λ u l. let e = row_ends m k rows some row in omega arith;
          free = λ u Q l q. let e = row_ends m k rows some row in let d = queue.free (row_start m k rows + u) (omega arith) (omega arith) in let x = q.deep in omega arith;
          kept = λ v l d out. ⊎_elim
              (λ lt. ap (λ (x : Entry V). space_of x) (at_old v lt d))
              (λ ge. ap (λ (x : Entry V). space_of x) (at_behind v (far v ge out)))
              (cases_lt v (row_start m k rows));
          here = here_split;
          behind = λ u l. part_split u (omega arith);
        })
        (λ v l. place v (λ (x : Entry V). First (optional meaning) τ H (space_of x)) (λ _ _. waits.first v l) first-here first-parts (λ _. waits.first v l))
      where
        far : (v : ℕ) → row_start m k rows ≤ v → ((u : ℕ) → (entry_in old (base + w)).depth + 1 + u < τ.m → v ≡ row_start m k rows + u → ⊥) → row_start m k rows + (m - ((entry_in old (base + w)).depth + 1)) ≤ v
        far v ge out = ⊎_elim (λ lt. absurd (out (v - row_start m k rows) (omega arith) (omega arith))) (λ g. g) (cases_lt v (row_start m k rows + (m - ((entry_in old (base + w)).depth + 1))))
