-- The laws of a measure whose values are ordered as numbers are.
use Rattle.std.specs.Prelude.{◌≡◌, ℕ, ◌≤◌, max, nat_le, refl}
use Rattle.std.proofs.Common.{sym, ap, ◌∙◌, ⊎_elim, inl, inr, arith}
use Rattle.std.proofs.lemmas.Bool.{cases_lt, leb-true, le-leb}
use Rattle.measures.specs.declared.values.LongestValue.{LongestValue}
use Rattle.measures.specs.Laws.{Laws}
use Rattle.measures.specs.Time.{time_of, time_zero, time_join, time_before}
use Rattle.measures.specs.Longest.{longest_of, longest_zero, longest_join, longest_before}
use Rattle.measures.specs.Same.{same_time, same_longest}

-- what is to show, on the numbers alone
module _ {V : Type 0} (number : V → ℕ) (same : (a b : V) → number a ≡ number b → a ≡ b) (nought : V) (joined : V → V → V)
    (none : number nought ≡ 0)
    (assoc : (a b c : V) → number (joined (joined a b) c) ≡ number (joined a (joined b c)))
    (comm : (a b : V) → number (joined a b) ≡ number (joined b a))
    (zero : (a : V) → number (joined nought a) ≡ number a)
    (mono : (a b c : V) → number a ≤ number b → number (joined a c) ≤ number (joined b c)) where
  pub by_number : Laws nought joined (λ a b. nat_le (number a) (number b))
  by_number = record {
    total = λ a b. ⊎_elim (λ h. inl (le-leb _ _ (omega arith))) (λ h. inr (le-leb _ _ h)) (cases_lt (number a) (number b));
    antisym = λ a b h k. let l = leb-true _ _ h in let m = leb-true _ _ k in same a b (omega arith);
    trans = λ a b c h k. let l = leb-true _ _ h in let m = leb-true _ _ k in le-leb _ _ (omega arith);
    assoc = λ a b c. same _ _ (assoc a b c);
    comm = λ a b. same _ _ (comm a b);
    zero_joined = λ a. same _ _ (zero a);
    zero_least = λ a. le-leb _ _ (omega arith);
    mono = λ a b c h. le-leb _ _ (mono a b c (leb-true _ _ h));
  }

pub time_laws : Laws time_zero time_join time_before
unfolding time_of
time_laws = by_number (λ a. a.seconds) same_time time_zero time_join
    refl (λ a b c. omega arith) (λ a b. omega arith) (λ a. omega arith) (λ a b c h. omega arith)

-- the greater of two values needs no holding
greater : (a b : LongestValue) → (longest_join a b).seconds ≡ max a.seconds b.seconds
unfolding longest_of
greater a b = omega arith

longest_assoc : (a b c : LongestValue) → (longest_join (longest_join a b) c).seconds ≡ (longest_join a (longest_join b c)).seconds
longest_assoc a b c =
    greater (longest_join a b) c ∙ ap (λ n. max n c.seconds) (greater a b) ∙ omega arith
    ∙ sym (greater a (longest_join b c) ∙ ap (λ n. max a.seconds n) (greater b c))

pub longest_laws : Laws longest_zero longest_join longest_before
unfolding longest_of
longest_laws = by_number (λ a. a.seconds) same_longest longest_zero longest_join
    refl longest_assoc (λ a b. omega arith) (λ a. omega arith) (λ a b c h. omega arith)
