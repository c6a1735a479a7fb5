-- The stops of a subtree, what they are worth together, and the least that they can be worth.
use Rattle.std.specs.Prelude.{◌≡◌, ℕ, zero, suc, ◌<◌, Bool, cond, not, ◌&&◌, ◌||◌, ◌==◌}
use Rattle.measures.specs.Scales.{Scale, total}
use Rattle.trees.specs.Tasks.{Task, cost, LeastOf}

-- stop c is stop s, or leads to it by d steps or fewer, each from a stop to its parent
unfoldable pub leads : {W : Type 0} → Task W → ℕ → ℕ → ℕ → Bool
leads τ zero s c = c == s
leads τ (suc d) s c = c == s || leads τ d s (τ.par c)

-- stop c belongs to the subtree of stop s: it is s or leads to it; more steps than stops are never needed
abbrev pub in_subtree : {W : Type 0} → Task W → ℕ → ℕ → Bool
in_subtree τ s c = leads τ τ.m s c

-- stop c lies below stop s
abbrev pub beneath : {W : Type 0} → Task W → ℕ → ℕ → Bool
beneath τ s c = not (c == s) && in_subtree τ s c

-- the join of the costs of those stops that are in D, at the places Q
unfoldable pub part : {W : Type 0} → Scale W → Task W → (ℕ → Bool) → (ℕ → ℕ) → W
part σ τ D Q = total σ τ.m (λ c. cond (D c) (cost σ τ c (Q (τ.par c)) (Q c)) σ.nought)

-- the value of the subtree of stop s: its own value, and the costs of all stops below it
abbrev pub subtree_value : {W : Type 0} → Scale W → Task W → ℕ → (ℕ → ℕ) → W
subtree_value σ τ s Q = σ.joined (τ.own s (Q s)) (part σ τ (beneath τ s) Q)

-- the value of the link of stop s and its subtree
abbrev pub hung_value : {W : Type 0} → Scale W → Task W → ℕ → (ℕ → ℕ) → W
hung_value σ τ s Q = part σ τ (in_subtree τ s) Q

-- of all places for the stops: best q is the least value of the subtree of stop s where s stands at q, and hang p is
-- the least value of its link and its subtree where its parent stands at p; each is none where no places have a value
pub record SubtreeLeast {W : Type 0} (σ : Scale W) (τ : Task W) (s : ℕ) (best hang : ℕ → W) : Type 0 where
  pub at : (q : ℕ) → q < τ.n → LeastOf σ τ (λ Q. Q s ≡ q) (subtree_value σ τ s) (best q)
  pub under : (p : ℕ) → 0 < s → p < τ.n → LeastOf σ τ (λ Q. Q (τ.par s) ≡ p) (hung_value σ τ s) (hang p)
