-- A set of the numbers that pass a test, as the numbers are gone through in order.
use Rattle.std.proofs.Common.{◌≡◌, ℕ, ◌+◌, ◌-◌, ◌<◌, ◌≤◌, Bool, true, false, ◌&&◌, ◌||◌, eqb, ltb, ap, ◌∙◌, ⊎_elim, arith}
use Rattle.std.proofs.lemmas.Bool.{and_left, cases_eq, le-ltb}
use Rattle.std.proofs.lemmas.Bool.Decides.{nat_tests}
use Rattle.sets.specs.Sets.{count_to}
use Rattle.sets.proofs.Laws.{count_past}

-- at the next number and elsewhere, where the tests are what they are
here : (k p : ℕ) (t o n : Bool) → k < 64 → p ≡ k → t ≡ true → o ≡ (ltb p k && t) → n ≡ (o || (eqb p k && ltb k 64)) → n ≡ (ltb p (k + 1) && t)
here k p t o n h e tt' oo nn = grind (arith, nat_tests)

apart : (k p : ℕ) (t o n : Bool) → (p ≡ k → ⊥) → o ≡ (ltb p k && t) → n ≡ (o || (eqb p k && ltb k 64)) → n ≡ (ltb p (k + 1) && t)
apart k p t o n e oo nn = grind (arith, nat_tests)

passed : (k p : ℕ) (t o : Bool) → (p ≡ k → t ≡ false) → o ≡ (ltb p k && t) → o ≡ (ltb p (k + 1) && t)
passed k p t o e oo = grind (arith, nat_tests)

module _ (test : ℕ → Bool) where
  -- the next number passes and is taken up
  pub with_next : (old new : ℕ → Bool) (k : ℕ) → k < 64 → test k ≡ true → ((p : ℕ) → old p ≡ (ltb p k && test p)) → ((p : ℕ) → new p ≡ (old p || (eqb p k && ltb k 64))) → (p : ℕ) → new p ≡ (ltb p (k + 1) && test p)
  with_next old new k h t o n p =
      ⊎_elim (λ e. here k p (test p) (old p) (new p) h e (ap test e ∙ t) (o p) (n p)) (λ d. apart k p (test p) (old p) (new p) d (o p) (n p)) (cases_eq p k)

  -- the next number does not pass
  pub without_next : (old : ℕ → Bool) (k : ℕ) → test k ≡ false → ((p : ℕ) → old p ≡ (ltb p k && test p)) → (p : ℕ) → old p ≡ (ltb p (k + 1) && test p)
  without_next old k t o p = passed k p (test p) (old p) (λ e. ap test e ∙ t) (o p)

  -- the numbers below n are counted, whatever stands behind them
  pub count_below : (n m : ℕ) → n ≤ m → count_to (λ p. ltb p n && test p) m ≡ count_to (λ p. ltb p n && test p) n
  count_below n m h = ap (count_to (λ p. ltb p n && test p)) (omega arith) ∙ count_past (λ p. ltb p n && test p) n (m - n) (λ k b. and_left (ltb k n) (test k) (le-ltb k n b))
