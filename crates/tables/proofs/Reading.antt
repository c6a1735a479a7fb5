-- What a write leaves in the cells.
use Rattle.std.proofs.Common.{◌≡◌, ℕ, List, map, get_or, set, sym, ap, ◌∙◌}
use Rattle.std.proofs.Math.ListN.{get_or-map}
use Rattle.std.proofs.Math.Seq.{map-set_same}
use Rattle.std.proofs.lemmas.List.{get_or_default, get_or-set_same, get_or-set_other}
use Rattle.cells.specs.declared.cell.Cell.{Cell}
use Rattle.tables.specs.Tables.{blank, OwnsOnly, Stays}

-- a part that is the same in each of two lists of cells
pub same_mapped : {M V X : Type 0} (part : Cell M V → X) (old new : List (Cell M V)) → map part new ≡ map part old → (i : ℕ) → part (get_or new i blank) ≡ part (get_or old i blank)
same_mapped part old new e i = sym (get_or-map part new i blank) ∙ ap (λ xs. get_or xs i (part blank)) e ∙ get_or-map part old i blank

-- a part of a cell that the write leaves
pub same_part : {M V X : Type 0} (part : Cell M V → X) (cells : List (Cell M V)) (at : ℕ) (c : Cell M V) → part c ≡ part (get_or cells at blank) →
    (i : ℕ) → part (get_or (set cells at c) i blank) ≡ part (get_or cells i blank)
same_part part cells at c e = same_mapped part cells (set cells at c) (map-set_same part cells at c blank e)

-- the cell that is written, another one, and a cell that is there, whatever stands for one outside
pub ruleset cell_written = (get_or-set_same, get_or-set_other, get_or_default)

module _ {M V : Type 0} (cells : List (Cell M V)) (at : ℕ) (c : Cell M V) where
  -- a cell is written in which all but the own value is as it was
  pub owns_only : c.leg ≡ (get_or cells at blank).leg → c.ride ≡ (get_or cells at blank).ride → c.kind ≡ (get_or cells at blank).kind → c.best ≡ (get_or cells at blank).best → c.hang ≡ (get_or cells at blank).hang → c.entry ≡ (get_or cells at blank).entry → OwnsOnly cells (set cells at c)
  owns_only leg ride kind best hang entry = record {
    legs = same_part (λ (x : Cell M V). x.leg) cells at c leg;
    rides = same_part (λ (x : Cell M V). x.ride) cells at c ride;
    kinds = same_part (λ (x : Cell M V). x.kind) cells at c kind;
    bests = same_part (λ (x : Cell M V). x.best) cells at c best;
    hangs = same_part (λ (x : Cell M V). x.hang) cells at c hang;
    entries = same_part (λ (x : Cell M V). x.entry) cells at c entry;
  }

  -- a cell is written in which all but the minima is as it was
  pub stays_set : c.leg ≡ (get_or cells at blank).leg → c.ride ≡ (get_or cells at blank).ride → c.kind ≡ (get_or cells at blank).kind → c.own ≡ (get_or cells at blank).own → c.entry ≡ (get_or cells at blank).entry → Stays cells (set cells at c)
  stays_set leg ride kind own entry = record {
    legs = same_part (λ (x : Cell M V). x.leg) cells at c leg;
    rides = same_part (λ (x : Cell M V). x.ride) cells at c ride;
    kinds = same_part (λ (x : Cell M V). x.kind) cells at c kind;
    owns = same_part (λ (x : Cell M V). x.own) cells at c own;
    entries = same_part (λ (x : Cell M V). x.entry) cells at c entry;
  }

  -- a cell is written in which the least value of the subtree is as it was
  pub best_same : c.best ≡ (get_or cells at blank).best → (i : ℕ) → (get_or (set cells at c) i blank).best ≡ (get_or cells i blank).best
  best_same best i = same_part (λ (x : Cell M V). x.best) cells at c best i

  -- a cell is written in which the least value of the link and the subtree is as it was
  pub hang_same : c.hang ≡ (get_or cells at blank).hang → (i : ℕ) → (get_or (set cells at c) i blank).hang ≡ (get_or cells i blank).hang
  hang_same hang i = same_part (λ (x : Cell M V). x.hang) cells at c hang i
