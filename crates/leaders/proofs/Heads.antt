-- Two entries change places, and the earliest of a row becomes its head.
use Rattle.std.proofs.Common.{◌≡◌, ℕ, ◌+◌, ◌-◌, ◌<◌, ◌≤◌, true, false, ◌⊎◌, List, Some, None, Option, MatchOption, sym, refl, ap, ◌∙◌, subst, ap₂, inl, inr, ⊎_elim, arith}
use Rattle.std.proofs.lemmas.Bool.{both_ways, cases_eq}
use Rattle.measures.specs.Laws.{Laws}
use Rattle.measures.specs.Meaning.{MeasureMeaning}
use Rattle.measures.specs.Scales.{optional}
use Rattle.trees.proofs.Lift.{lifted}
use Rattle.trees.proofs.Choosing.{sooner_total, sooner_trans}
use Rattle.cells.specs.declared.cell.Cell.{Cell}
use Rattle.cells.specs.declared.cell.Entry.{Entry}
use Rattle.cells.specs.Cells.{space_of, entry_before}
use Rattle.tables.specs.Tables.{entry_in}
use Rattle.waiting.specs.Queues.{row_start}
use Rattle.waiting.proofs.Keeping.{same_entry}
use Rattle.leaders.specs.Leaders.{Earliest, Exchanged, Led, Promoted}

module _ {V : Type 0} (meaning : MeasureMeaning V) (laws : Laws meaning.nought meaning.joined meaning.before) where
  -- of two entries one is at or before the other
  pub other_way : (a b : Entry V) → entry_before meaning.before a b ≡ false → entry_before meaning.before b a ≡ true
  other_way a b h = ⊎_elim (λ t. absurd (both_ways _ h t)) (λ t. t) (sooner_total (optional meaning) (lifted meaning laws) 12 (space_of a) (space_of b))

  -- and at-or-before carries over a chain
  pub chain : (a b c : Entry V) → entry_before meaning.before a b ≡ true → entry_before meaning.before b c ≡ true → entry_before meaning.before a c ≡ true
  chain a b c = sooner_trans (optional meaning) (lifted meaning laws) 12 (space_of a) (space_of b) (space_of c)

module _ {M V : Type 0} where
  pub no_exchange : (cells : List (Cell M V)) (a : ℕ) → Exchanged cells cells a a
  no_exchange cells a = record { first = refl; second = refl; others = λ i d d'. refl }

  module _ (meaning : MeasureMeaning V) (laws : Laws meaning.nought meaning.joined meaning.before) (old new : List (Cell M V)) (base m k row : ℕ) where
    -- u is the least of the entries behind the head, and the earlier of it and the head is the head now
    module _ (u : ℕ) (rl : row < k) (ul : u < m - 1) (leads : entry_before meaning.before (entry_in new (base + row)) (entry_in new (base + (row_start m k row + u))) ≡ true)
        (moved : (new ≡ old) ⊎ Exchanged old new (base + row) (base + (row_start m k row + u))) where
      led_same : Earliest meaning old base m k row u → new ≡ old → Led meaning new base m k row
      led_same least e = record {
        first = λ v l. subst (λ (cells : List (Cell M V)). entry_before meaning.before (entry_in cells (base + row)) (entry_in cells (base + (row_start m k row + v))) ≡ true) (sym e)
            (chain meaning laws (entry_in old (base + row)) (entry_in old (base + (row_start m k row + u))) (entry_in old (base + (row_start m k row + v)))
            (subst (λ (cells : List (Cell M V)). entry_before meaning.before (entry_in cells (base + row)) (entry_in cells (base + (row_start m k row + u))) ≡ true) e leads) (least.least v l));
      }

      led_moved : Earliest meaning old base m k row u → Exchanged old new (base + row) (base + (row_start m k row + u)) → Led meaning new base m k row
      led_moved least x = record {
        first = λ v l. ⊎_elim
            (λ e. subst (λ (i : ℕ). entry_before meaning.before (entry_in new (base + row)) (entry_in new (base + (row_start m k row + i))) ≡ true) (sym e) leads)
            (λ d. ap₂ (entry_before meaning.before) x.first (same_entry old new (base + (row_start m k row + v)) (x.others (base + (row_start m k row + v)) (λ e. omega arith) (λ e. d (omega arith)))) ∙ least.least v l)
            (cases_eq v u);
      }

      pub led_now : Earliest meaning old base m k row u → Led meaning new base m k row
      led_now least = ⊎_elim (led_same least) (led_moved least) moved

      pub promoted_now : Promoted old new base m k row
      promoted_now = ⊎_elim
          (λ e. record { from = row; inside = inl refl; exchanged = subst (λ (cells : List (Cell M V)). Exchanged old cells (base + row) (base + row)) (sym e) (no_exchange old (base + row)) })
          (λ x. record { from = row_start m k row + u; inside = inr (omega arith, omega arith); exchanged = x })
          moved

  -- where nothing has changed, the head leads that was promoted
  pub no_promotion : (cells : List (Cell M V)) (base m k row : ℕ) → Promoted cells cells base m k row
  no_promotion cells base m k row = record { from = row; inside = inl refl; exchanged = no_exchange cells (base + row) }

  -- the least of the cells of a row behind its head, which begin in cell `start`
  pub earliest_is : (meaning : MeasureMeaning V) (cells : List (Cell M V)) (base m k row start : ℕ) → start ≡ base + row_start m k row → (r : Option ℕ) →
      MatchOption r (start + (m - 1) ≤ start) (λ u. (start + u < start + (m - 1)) × ((v : ℕ) → start + v < start + (m - 1) → entry_before meaning.before (entry_in cells (start + u)) (entry_in cells (start + v)) ≡ true)) →
      MatchOption r (m ≤ 1) (λ u. Earliest meaning cells base m k row u)
  earliest_is meaning cells base m k row start is None h = omega arith
  earliest_is meaning cells base m k row start is (Some u) h = let l = h.0 in record {
    inside = omega arith;
    least = λ v k. ap₂ (entry_before meaning.before) (at u) (at v) ∙ h.1 v (omega arith);
  } where
    at : (v : ℕ) → entry_in cells (base + (row_start m k row + v)) ≡ entry_in cells (start + v)
    at v = let e : base + (row_start m k row + v) ≡ start + v = omega arith in ap (λ i. entry_in cells i) e
