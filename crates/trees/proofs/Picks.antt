-- One place more in the search for the first least.
use Rattle.std.proofs.Common.{◌≡◌, ℕ, ◌+◌, Bool, true, false, refl, arith, below_more}
use Rattle.std.proofs.lemmas.Bool.{both_ways}
use Rattle.measures.specs.Scales.{Scale, Sound}
use Rattle.measures.proofs.Orders.{same_before, lower_before, lower_on}
use Rattle.trees.specs.Subspaces.{Picked}

module _ {W : Type 0} (σ : Scale W) (sound : Sound σ) (i : ℕ) (out : ℕ → Bool) (f : ℕ → W) (q : ℕ) (v : W) (p : Picked σ i out f q v) where
  pub picked_skip : out i ≡ true → Picked σ (i + 1) out f q v
  picked_skip h = record {
    below = below_more (λ r. out r ≡ false → σ.leq v (f r) ≡ true) i p.below (λ k. absurd (both_ways _ k h));
    first = p.first;
    there = λ some. let t = p.there some in let l = t.0 in (omega arith, t.1, t.2);
  }

  pub picked_keep : σ.leq v (f i) ≡ true → Picked σ (i + 1) out f q v
  picked_keep h = record {
    below = below_more (λ r. out r ≡ false → σ.leq v (f r) ≡ true) i p.below (λ k. h);
    first = p.first;
    there = λ some. let t = p.there some in let l = t.0 in (omega arith, t.1, t.2);
  }

  pub picked_move : out i ≡ false → σ.leq v (f i) ≡ false → Picked σ (i + 1) out f i (f i)
  picked_move o h = record {
    below = below_more (λ r. out r ≡ false → σ.leq (f i) (f r) ≡ true) i (λ r l k. sound.laws.trans _ v _ (lower_before sound.laws (f i) v h) (p.below r l k)) (λ k. same_before sound.laws (f i));
    first = λ some r l k. lower_on sound.laws (f i) v (f r) h (p.below r l k);
    there = λ some. (omega arith, o, refl);
  }
