-- How a text's cuts step along it.
use Rattle.std.proofs.Common.{◌≡◌, ℕ, suc, ◌+◌, ◌-◌, ◌<◌, ◌≤◌, Bool, true, false, not, cond, eqb, ltb, List, [], ◌∷◌, map, length, take, drop, get_or, Some, None, Option, MatchOption, sym, refl, ap, ◌∙◌, add-one, arith, length-drop}
use Rattle.std.specs.List.{position, position_or_len, onto_first, count_by}
use Rattle.std.proofs.lemmas.List.{drop-drop, take_all}
use Rattle.std.proofs.lemmas.List.Splits.{slice_split_first, length-slice_split}
use Rattle.std.proofs.lemmas.List.Sums.{count_by_more_yes, count_by_more_no}
use Rattle.std.proofs.lemmas.Slice.{between_is}
use Rattle.std.proofs.lemmas.Bool.{ltb-true, ltb-false, eq-eqb, ne_eqb}
use Rattle.texts.specs.Cut.{lines, onto, fields, row_of, rows}

found : (t : Bool) (k n : ℕ) → Some n ≡ cond t (Some k) None → (t ≡ true) × (n ≡ k)
found true k n e = (refl, cc)
found false k n e = cc

missed : (t : Bool) (k : ℕ) → None ≡ cond t (Some k) None → t ≡ false
missed true k e = cc
missed false k e = refl

-- where `position` found byte b, or that it did not
pub found_at : (b n : ℕ) (xs : List ℕ) → Some n ≡ position (λ x. eqb x b) xs → (n < length xs) × (n ≡ position_or_len (λ x. eqb x b) xs)
found_at b n xs e =
    let at = found (ltb (position_or_len (λ x. eqb x b) xs) (length xs)) (position_or_len (λ x. eqb x b) xs) n e in
    (omega (arith, ltb-true _ _ at.0, at.1), at.1)

pub not_found : (b : ℕ) (xs : List ℕ) → None ≡ position (λ x. eqb x b) xs → length xs ≤ position_or_len (λ x. eqb x b) xs
not_found b xs e = ltb-false _ _ (missed (ltb (position_or_len (λ x. eqb x b) xs) (length xs)) (position_or_len (λ x. eqb x b) xs) e)

abbrev ends : List ℕ → ℕ
ends xs = position_or_len (λ x. eqb x 10) xs

closed_step : (t : Bool) (x : ℕ) (xs : List ℕ) → (ends xs < length xs → lines xs ≡ (take (ends xs) xs, true) ∷ lines (drop (ends xs + 1) xs)) → cond (not t) (1 + ends xs) 0 < suc (length xs) → cond t (([], true) ∷ lines xs) (onto x (lines xs)) ≡ (take (cond (not t) (1 + ends xs) 0) (x ∷ xs), true) ∷ lines (drop (cond (not t) (1 + ends xs) 0 + 1) (x ∷ xs))
closed_step true x xs ih h = refl
closed_step false x xs ih h = let e : 1 + ends xs ≡ suc (ends xs) = omega arith in rw (ih (omega arith), e) (simp add-one)

lines_closed : (xs : List ℕ) → ends xs < length xs → lines xs ≡ (take (ends xs) xs, true) ∷ lines (drop (ends xs + 1) xs)
lines_closed [] h = absurd (omega arith)
lines_closed (x ∷ xs) h = closed_step (eqb x 10) x xs (lines_closed xs) h

-- what the last part of a text gives that has no end
open_step : (t : Bool) (x : ℕ) (xs : List ℕ) → (0 < length xs → length xs ≤ ends xs → lines xs ≡ (xs, false) ∷ []) → suc (length xs) ≤ cond (not t) (1 + ends xs) 0 → cond t (([], true) ∷ lines xs) (onto x (lines xs)) ≡ (x ∷ xs, false) ∷ []
open_step true x xs ih h = absurd (omega arith)
open_step false x [] ih h = refl
open_step false x (y ∷ xs) ih h = ap (onto x) (ih (omega arith) (omega arith))

lines_open : (xs : List ℕ) → 0 < length xs → length xs ≤ ends xs → lines xs ≡ (xs, false) ∷ []
lines_open [] h k = absurd (omega arith)
lines_open (x ∷ xs) h k = open_step (eqb x 10) x xs (lines_open xs) k

-- the fields of the line from p to e, and those from the place k of that line on
pub line_fields : (t : List ℕ) (p e : ℕ) → fields (take (e - p) (drop p t)) ≡ fields (drop p (take e t))
line_fields t p e = ap fields (between_is t p e)

pub line_on : (t : List ℕ) (p e k q : ℕ) → q ≡ p + k → fields (drop k (take (e - p) (drop p t))) ≡ fields (drop q (take e t))
line_on t p e k q is = rw is (ap (λ xs. fields (drop k xs)) (between_is t p e) ∙ ap fields (drop-drop k p (take e t)))

whole_rest : (t : List ℕ) (p : ℕ) → take (length t - p) (drop p t) ≡ drop p t
whole_rest t p = take_all (length t - p) (drop p t) (omega (arith, length-drop p t))

-- the line from p on, whose end stands at n in the rest
pub line_closed : (t : List ℕ) (p n : ℕ) → p ≤ length t → Some n ≡ position (λ x. eqb x 10) (take (length t - p) (drop p t)) → (p ≤ p + n) × (p + n < length t) × (rows (drop p t) ≡ (fields (drop p (take (p + n) t)), true) ∷ rows (drop (p + n + 1) t))
line_closed t p n low is =
    let at = found_at 10 n (drop p t) (rw whole_rest at is) in
    let k : p + n - p ≡ n = omega arith in
    let m : p + n + 1 ≡ p + (n + 1) = omega arith in
    let lt : p + n < length t = omega (arith, at.0, length-drop p t) in
    let here : lines (drop p t) ≡ (take n (drop p t), true) ∷ lines (drop (n + 1) (drop p t)) = rw at.1 (lines_closed (drop p t) (omega (arith, at.0, at.1))) in
    (omega arith, lt, ap (map row_of) here ∙ rw (sym (line_fields t p (p + n)), k, m, sym (drop-drop (n + 1) p t)) refl)

-- the last line, which has no end
pub line_open : (t : List ℕ) (p : ℕ) → None ≡ position (λ x. eqb x 10) (take (length t - p) (drop p t)) → p < length t → rows (drop p t) ≡ (fields (drop p t), false) ∷ []
line_open t p is lt = ap (map row_of) (lines_open (drop p t) (omega (arith, length-drop p t)) (not_found 10 (drop p t) (rw whole_rest at is)))

-- a line without byte 9 is one field
last_step : (t : Bool) (x : ℕ) (xs : List ℕ) → (length xs ≤ position_or_len (λ y. eqb y 9) xs → fields xs ≡ xs ∷ []) → suc (length xs) ≤ cond (not t) (1 + position_or_len (λ y. eqb y 9) xs) 0 → cond t ([] ∷ fields xs) (onto_first x (fields xs)) ≡ (x ∷ xs) ∷ []
last_step true x xs ih h = absurd (omega arith)
last_step false x xs ih h = ap (onto_first x) (ih (omega arith))

one_part : (xs : List ℕ) → length xs ≤ position_or_len (λ y. eqb y 9) xs → fields xs ≡ xs ∷ []
one_part [] h = refl
one_part (x ∷ xs) h = last_step (eqb x 9) x xs (one_part xs) h

-- the first field of a line ends at its first byte 9, or with the line
pub first_part : (xs : List ℕ) (o : Option ℕ) → o ≡ position (λ x. eqb x 9) xs → MatchOption o (fields xs ≡ xs ∷ []) (λ n. (n < length xs) × (fields xs ≡ take n xs ∷ fields (drop (n + 1) xs)))
first_part xs (Some k) e = let at = found_at 9 k xs e in (at.0, rw at.1 (slice_split_first (λ x. eqb x 9) xs 0 (omega (arith, at.0, at.1))))
first_part xs None e = one_part xs (not_found 9 xs e)

-- there is one field more than bytes that end one, of which i bytes have n - 1
abbrev pub Counted : List ℕ → ℕ → ℕ → Type 0
Counted xs i n = (n ≤ i + 1) × (n ≡ count_by (λ x. eqb x 9) (take i xs) + 1)

pub count_tab : (xs : List ℕ) (i n : ℕ) → i < length xs → get_or xs i 0 ≡ 9 → Counted xs i n → Counted xs (i + 1) (n + 1)
count_tab xs i n h e c = let more = count_by_more_yes (λ x. eqb x 9) xs i 0 h (eq-eqb _ _ e) in let few = c.0 in (omega arith, ap (λ k. k + 1) (c.1 ∙ sym more))

pub count_other : (xs : List ℕ) (i n : ℕ) → i < length xs → (get_or xs i 0 ≡ 9 → ⊥) → Counted xs i n → Counted xs (i + 1) n
count_other xs i n h ne c = let more = count_by_more_no (λ x. eqb x 9) xs i 0 h (ne_eqb _ _ ne) in let few = c.0 in (omega arith, c.1 ∙ ap (λ k. k + 1) (sym more))

pub count_end : (xs : List ℕ) (i n : ℕ) → length xs ≤ i → Counted xs i n → n ≡ length (fields xs)
count_end xs i n h c = c.1 ∙ ap (λ ys. count_by (λ x. eqb x 9) ys + 1) (take_all i xs h) ∙ sym (length-slice_split (λ x. eqb x 9) xs)
