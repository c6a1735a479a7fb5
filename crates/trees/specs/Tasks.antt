-- Trees of stops over tables of values: plans, their scores and their order.
use Rattle.std.specs.Prelude.{◌≡◌, ℕ, ◌<◌, true, false, cond, ◌⊎◌, ◌==◌}
use Rattle.measures.specs.Scales.{Scale, total}
use Rattle.sets.specs.Placements.{Same, Earlier}

-- n places and m stops; each stop's parent; a stop's own value at a place (none where the place does not fit); and the
-- value of a stop's link from its parent's place to its own (none where there is no such link)
pub record Task (W : Type 0) : Type 0 where
  pub n : ℕ
  pub m : ℕ
  pub par : ℕ → ℕ
  pub own : ℕ → ℕ → W
  pub link : ℕ → ℕ → ℕ → W

-- stop 0 is the root, written as its own parent; every other stop's parent has a smaller number
abbrev pub Rooted : {W : Type 0} → Task W → Type 0
Rooted τ = (τ.par 0 ≡ 0) × ((s : ℕ) → 0 < s → s < τ.m → τ.par s < s)

-- what stop s adds to a score at place q where its parent stands at place p; the root has no link
unfoldable pub cost : {W : Type 0} → Scale W → Task W → ℕ → ℕ → ℕ → W
cost σ τ s p q = cond (s == 0) (τ.own s q) (σ.joined (τ.own s q) (τ.link s p q))

-- the score of the places P: the join of all own values and all links, none where one of them is none
unfoldable pub score : {W : Type 0} → Scale W → Task W → (ℕ → ℕ) → W
score σ τ P = total σ τ.m (λ s. cost σ τ s (P (τ.par s)) (P s))

-- every stop has a place below n; P is a plan where its score is not none
abbrev pub Placed : {W : Type 0} → Task W → (ℕ → ℕ) → Type 0
Placed τ P = (s : ℕ) → s < τ.m → P s < τ.n

-- P comes before Q: it has the lower score, or at equal scores the earlier places
abbrev pub Before : {W : Type 0} → Scale W → Task W → (ℕ → ℕ) → (ℕ → ℕ) → Type 0
Before σ τ P Q = (σ.leq (score σ τ Q) (score σ τ P) ≡ false) ⊎ ((score σ τ P ≡ score σ τ Q) × Earlier τ.m P Q)

-- P with the place q for stop i
abbrev pub put : (ℕ → ℕ) → ℕ → ℕ → ℕ → ℕ
put P i q s = cond (s == i) q (P s)

-- of all places Q for the stops that fit, w is the least value, none where none of them has a value
pub record LeastOf {W : Type 0} (σ : Scale W) (τ : Task W) (Fits : (ℕ → ℕ) → Type 0) (value : (ℕ → ℕ) → W) (w : W) : Type 0 where
  pub lower : (Q : ℕ → ℕ) → Placed τ Q → Fits Q → σ.leq w (value Q) ≡ true
  pub reached : (w ≡ σ.none) ⊎ ((Q : ℕ → ℕ) × Placed τ Q × Fits Q × (value Q ≡ w))

-- w is the least score of all plans with P's places for the stops below i, none where there is no such plan
abbrev pub LeastFrom : {W : Type 0} → Scale W → Task W → ℕ → (ℕ → ℕ) → W → Type 0
LeastFrom σ τ i P w = LeastOf σ τ (Same i P) (score σ τ) w
