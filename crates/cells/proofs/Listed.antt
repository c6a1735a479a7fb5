-- The derived order of places, which is the library's of two lists, is the order of plans by their places.
use Rattle.std.proofs.Common.{◌≡◌, ℕ, zero, suc, ◌+◌, List, [], ◌∷◌, length, get_or, Some, refl, sym, ◌∙◌, ap, arith}
use Rattle.std.proofs.lemmas.Bool.Decides.{nat_tests}
use Rattle.std.specs.Ordering.{nat_cmp, is_le, is_some_and}
use Rattle.std.specs.Cmp.Lexicographic.{slice_cmp, slice_partial_cmp, lists_agrees}
use Rattle.trees.specs.Subspaces.{not_later}
use Rattle.cells.specs.Cells.{places_of}
use Rattle.cells.specs.declared.places.Places.{Places}

-- from stop i on, P and Q have the places of the lists
listed_from : (xs ys : List ℕ) (d i : ℕ) (P Q : ℕ → ℕ) → length xs ≡ d → length ys ≡ d → ((k : ℕ) → P (i + k) ≡ get_or xs k 0) → ((k : ℕ) → Q (i + k) ≡ get_or ys k 0) →
    is_some_and is_le (slice_partial_cmp (λ x y. Some (nat_cmp x y)) xs ys) ≡ not_later d i P Q
unfolding not_later
listed_from [] [] zero i P Q h k p q = refl
listed_from [] [] (suc d) i P Q h k p q = absurd (omega arith)
listed_from [] (y ∷ ys) zero i P Q h k p q = absurd (omega arith)
listed_from [] (y ∷ ys) (suc d) i P Q h k p q = absurd (omega arith)
listed_from (x ∷ xs) [] zero i P Q h k p q = absurd (omega arith)
listed_from (x ∷ xs) [] (suc d) i P Q h k p q = absurd (omega arith)
listed_from (x ∷ xs) (y ∷ ys) zero i P Q h k p q = absurd (omega arith)
listed_from (x ∷ xs) (y ∷ ys) (suc d) i P Q h k p q =
    let a : P i ≡ x = (let e : i ≡ i + 0 = omega arith in ap P e) ∙ p 0 in
    let b : Q i ≡ y = (let e : i ≡ i + 0 = omega arith in ap Q e) ∙ q 0 in
    let next = listed_from xs ys d (i + 1) P Q (omega arith) (omega arith)
    (λ j. (let e : i + 1 + j ≡ i + suc j = omega arith in ap P e) ∙ p (suc j))
    (λ j. (let e : i + 1 + j ≡ i + suc j = omega arith in ap Q e) ∙ q (suc j)) in
    rw a (rw b (grind (arith, nat_tests)))

pub listed : (a b : Places) → is_some_and is_le (slice_partial_cmp (λ x y. Some (nat_cmp x y)) a.by_stop b.by_stop) ≡ not_later 12 0 (places_of a) (places_of b)
listed a b = listed_from a.by_stop b.by_stop 12 0 (places_of a) (places_of b) a.twelve b.twelve (λ j. let e : 0 + j ≡ j = omega arith in ap (places_of a) e) (λ j. let e : 0 + j ≡ j = omega arith in ap (places_of b) e)

-- the same of the order that has no pair without an answer
pub listed_cmp : (a b : Places) → is_le (slice_cmp nat_cmp a.by_stop b.by_stop) ≡ not_later 12 0 (places_of a) (places_of b)
listed_cmp a b = sym (ap (is_some_and is_le) (lists_agrees {C = λ x y. Some (nat_cmp x y)} (λ x y. refl) a.by_stop b.by_stop)) ∙ listed a b
