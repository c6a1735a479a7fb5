-- Places for stops. P gives each stop its place; of two such, which has the earlier places.
use Rattle.std.specs.Prelude.{◌≡◌, ℕ, ◌<◌}

-- P and Q give the stops below k the same places
abbrev pub Same : ℕ → (ℕ → ℕ) → (ℕ → ℕ) → Type 0
Same k P Q = (i : ℕ) → i < k → P i ≡ Q i

-- of the stops below k there is a first where P and Q differ, and P has the smaller place there
abbrev pub Earlier : ℕ → (ℕ → ℕ) → (ℕ → ℕ) → Type 0
Earlier k P Q = (i : ℕ) × (i < k) × Same i P Q × (P i < Q i)
