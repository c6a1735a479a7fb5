-- What every accepted book keeps.
use Rattle.std.specs.Prelude.{◌≡◌, ℕ, ◌<◌, ◌≤◌, List, [], ◌∷◌, length}
use Rattle.streets.specs.declared.legs.LegRecord.{LegRecord}
use Rattle.books.specs.Books.{Told}

-- P holds of each entry of a list
abbrev pub Each : {A : Type 0} → (A → Type 0) → List A → Type 0
Each P [] = Unit {0}
Each P (x ∷ xs) = P x × Each P xs

-- a kind of a place
abbrev pub Kind : ℕ → Type 0
Kind k = (1 ≤ k) × (k ≤ 255)

-- a leg between two different places below n, with numbers in their ranges
pub record Joins (n : ℕ) (l : LegRecord) : Type 0 where
  pub from_told : l.from < n
  pub to_told : l.to < n
  pub different : l.from ≡ l.to → ⊥
  pub climbs : l.leg.climb ≤ 65535
  pub takes : l.leg.seconds ≤ 65535

-- at most 64 places of kinds 1 to 255 and at most 4,096 legs, each between two different places of the book
pub record Sensible (b : Told) : Type 0 where
  pub few_places : length b.kinds ≤ 64
  pub few_legs : length b.legs ≤ 4096
  pub kinds : Each Kind b.kinds
  pub legs : Each (Joins (length b.kinds)) b.legs
