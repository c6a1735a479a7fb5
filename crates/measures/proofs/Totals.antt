-- A total, one number more at a time.
use Rattle.std.proofs.Common.{◌≡◌, ℕ, ◌+◌, ◌<◌, refl, sym, ap, ◌∙◌, ap₂, add-one, arith}
use Rattle.measures.specs.Scales.{Scale, total, IsTotal}

module _ {W : Type 0} (σ : Scale W) where
  pub total_none : (f : ℕ → W) → total σ 0 f ≡ σ.nought
  unfolding total
  total_none f = refl

  pub total_more : (k : ℕ) (f : ℕ → W) → total σ (k + 1) f ≡ σ.joined (total σ k f) (f k)
  unfolding total
  total_more k f = ap (λ j. total σ j f) (add-one k)

-- the same of a total of what is given at each number
module _ {W : Type 0} (σ : Scale W) (gives : ℕ → W → Type 0) where
  pub given_none : (t : W) → t ≡ σ.nought → IsTotal σ 0 gives t
  unfolding IsTotal
  given_none t e f each = e ∙ sym (total_none σ f)

  pub given_more : (k : ℕ) (t v u : W) → IsTotal σ k gives t → gives k v → u ≡ σ.joined t v → IsTotal σ (k + 1) gives u
  unfolding IsTotal
  given_more k t v u is given e f each = e ∙ ap₂ σ.joined (is f (λ s w l. each s w (omega arith))) (each k v (omega arith) given) ∙ sym (total_more σ k f)

-- a total of what is given at each number below k is the total of that
pub total_of : {W : Type 0} (σ : Scale W) (k m : ℕ) (gives : ℕ → W → Type 0) (f : ℕ → W) (t : W) → k ≡ m → IsTotal σ k gives t → ((s : ℕ) (v : W) → s < k → gives s v → v ≡ f s) → t ≡ total σ m f
unfolding IsTotal
total_of σ k m gives f t e is each = is f each ∙ ap (λ j. total σ j f) e
