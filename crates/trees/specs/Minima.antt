-- The least values of subtrees, and the bound of a prefix that is made of them.
use Rattle.std.specs.Prelude.{◌≡◌, ℕ, ◌<◌, ◌≤◌, Bool, true, cond, ◌&&◌, ◌⊎◌, ◌==◌, nat_lt}
use Rattle.measures.specs.Scales.{Scale, total}
use Rattle.trees.specs.Tasks.{Task, cost}

-- w is the least of f 0 .. f (n - 1), none where all of them are none
pub record IsLeast {W : Type 0} (σ : Scale W) (n : ℕ) (f : ℕ → W) (w : W) : Type 0 where
  pub below : (q : ℕ) → q < n → σ.leq w (f q) ≡ true
  pub met : (w ≡ σ.none) ⊎ ((q : ℕ) × (q < n) × (f q ≡ w))

-- stop c hangs on stop s
abbrev pub child : {W : Type 0} → Task W → ℕ → ℕ → Bool
child τ s c = nat_lt 0 c && τ.par c == s

-- the join of the values that a table H holds for the stops that hang on stop s at place q
unfoldable pub hanging : {W : Type 0} → Scale W → Task W → (ℕ → ℕ → W) → ℕ → ℕ → W
hanging σ τ H s q = total σ τ.m (λ c. cond (child τ s c) (H c q) σ.nought)

-- H s p is the least value of stop s and all below it where its parent stands at p, by the same of the stops that hang
-- on it: from stop k on
abbrev pub MinimalFrom : {W : Type 0} → Scale W → Task W → ℕ → (ℕ → ℕ → W) → Type 0
MinimalFrom σ τ k H = (s p : ℕ) → k ≤ s → s < τ.m → p < τ.n → IsLeast σ τ.n (λ q. σ.joined (cost σ τ s p q) (hanging σ τ H s q)) (H s p)

-- the same for every stop but the root
abbrev pub Minimal : {W : Type 0} → Scale W → Task W → (ℕ → ℕ → W) → Type 0
Minimal σ τ H = MinimalFrom σ τ 1 H

-- what stop s adds where the stops below i have the places P: its cost; or, where only its parent has a place, the
-- least value of it and all below it
abbrev pub term : {W : Type 0} → Scale W → Task W → (ℕ → ℕ → W) → ℕ → (ℕ → ℕ) → ℕ → W
term σ τ H i P s = cond (nat_lt s i) (cost σ τ s (P (τ.par s)) (P s)) (cond (nat_lt (τ.par s) i) (H s (P (τ.par s))) σ.nought)

-- the bound of the prefix of P with i stops
unfoldable pub bound : {W : Type 0} → Scale W → Task W → (ℕ → ℕ → W) → ℕ → (ℕ → ℕ) → W
bound σ τ H i P = total σ τ.m (term σ τ H i P)

-- the same without what stop i adds
unfoldable pub besides : {W : Type 0} → Scale W → Task W → (ℕ → ℕ → W) → ℕ → (ℕ → ℕ) → W
besides σ τ H i P = total σ τ.m (λ s. cond (s == i) σ.nought (term σ τ H i P s))
