-- What the laws of a measure say further of its order.
use Rattle.std.proofs.Common.{◌≡◌, Bool, true, false, ap, ◌∙◌, ⊎_elim}
use Rattle.std.proofs.lemmas.Bool.{both_ways, cases_Bool}
use Rattle.measures.specs.Laws.{Laws}

module _ {V : Type 0} {nought : V} {joined : V → V → V} {before : V → V → Bool} (laws : Laws nought joined before) where
  -- a value is at or before itself
  pub same_before : (a : V) → before a a ≡ true
  same_before a = ⊎_elim (λ h. h) (λ h. h) (laws.total a a)

  -- the lower of two values is at or before the other
  pub lower_before : (a b : V) → before b a ≡ false → before a b ≡ true
  lower_before a b h = ⊎_elim (λ k. k) (λ k. absurd (both_ways _ h k)) (laws.total a b)

  -- a value that is lower than b is lower than what b is at or before
  pub lower_on : (a b c : V) → before b a ≡ false → before b c ≡ true → before c a ≡ false
  lower_on a b c h k = ⊎_elim (λ t. absurd (both_ways _ h (laws.trans b c a k t))) (λ t. t) (cases_Bool (before c a))

  -- lower carries over a chain
  pub lower_chain : (a b c : V) → before b a ≡ false → before c b ≡ false → before c a ≡ false
  lower_chain a b c h k = lower_on a b c h (lower_before b c k)

  -- joined to the same in front, two values keep their order
  pub mono_right : (a b c : V) → before b c ≡ true → before (joined a b) (joined a c) ≡ true
  mono_right a b c h = ap (λ v. before v (joined a c)) (laws.comm a b) ∙ ap (before (joined b a)) (laws.comm a c) ∙ laws.mono b c a h
