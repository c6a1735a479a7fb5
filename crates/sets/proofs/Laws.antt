-- Laws of the bits of a number, of counts and of least numbers.
use Rattle.std.proofs.Common.{◌≡◌, ℕ, zero, suc, ◌+◌, ◌*◌, ◌/◌, ◌%◌, ◌^◌, ◌<◌, ◌≤◌, Bool, false, cond, ◌||◌, eqb, sym, refl, ap, ap₂, ◌∙◌, ⊎_elim, add-zero, add-suc, zero-add, one-add, arith}
use lib.Bits.{bit_or}
use lib.Count.{ones, ones_in, ones-le, ones_cat, count_trailing_zeros, trailing_of_zero}
use Rattle.std.specs.Int.{w64, bit_at}
use Rattle.std.proofs.lemmas.Nat.{shr_split, shr_below, mod_below, pow_pos}
use Rattle.std.proofs.lemmas.Nat.Bits.{bit_at-zero, bit_at_above, bit_at_cat_low, bit_at_set_same, bit_at_set_other, bit_at-trailing_zeros}
use Rattle.std.proofs.lemmas.Bool.{cases_eq}
use Rattle.std.proofs.lemmas.Bool.Decides.{nat_tests}
use Rattle.sets.specs.Sets.{has_bit, count_to, Least}

-- One bit

pub has_none : (q : ℕ) → has_bit 0 q ≡ false
unfolding has_bit
has_none q = rw bit_at-zero refl

-- a 64-bit number has no bit from 64 on
pub has_past : (s q : ℕ) → s < 2 ^ 64 → 64 ≤ q → has_bit s q ≡ false
unfolding has_bit
has_past s q h k = ap (λ x. eqb x 1) (bit_at_above s 64 q h k)

pub has_set : (s p q : ℕ) → p < 64 → has_bit (bit_or s ((1 * 2 ^ p) % 2 ^ 64)) q ≡ (has_bit s q || eqb q p)
unfolding has_bit
has_set s p q h = ⊎_elim
    (λ e. let b = bit_at_set_same w64 s p h in grind (arith, nat_tests))
    (λ d. let b = bit_at_set_other w64 s p h q d in grind (arith, nat_tests))
    (cases_eq q p)

-- Counts

-- tests that agree below n count alike
pub count_same : (f g : ℕ → Bool) (n : ℕ) → ((k : ℕ) → k < n → f k ≡ g k) → count_to f n ≡ count_to g n
unfolding count_to
count_same f g zero e = refl
count_same f g (suc n) e = rw (e n (omega arith)) (ap (λ x. cond (g n) 1 0 + x) (count_same f g n (λ k h. e k (omega arith))))

-- numbers that do not pass change no count
pub count_past : (f : ℕ → Bool) (n d : ℕ) → ((k : ℕ) → n ≤ k → f k ≡ false) → count_to f (n + d) ≡ count_to f n
unfolding count_to
count_past f n zero e = ap (count_to f) (add-zero n)
count_past f n (suc d) e = ap (count_to f) (add-suc n d) ∙ ap (λ b. cond b 1 0 + count_to f (n + d)) (e (n + d) (omega arith)) ∙ zero-add (count_to f (n + d)) ∙ count_past f n d e

one_counts : (a : ℕ) → a < 2 → ones a ≡ cond (eqb (a % 2) 1) 1 0
unfolding ones ones_in
one_counts zero h = refl
one_counts (suc zero) h = refl
one_counts (suc (suc a)) h = absurd (omega arith)

-- the highest bit, and those below it
pub ones_count : (k s : ℕ) → s < 2 ^ k → ones s ≡ count_to (has_bit s) k
unfolding count_to has_bit
ones_count zero s h = omega (arith, ones-le 0 s h)
ones_count (suc k) s h =
    let r = s % 2 ^ k in
    let low : (i : ℕ) → i < k → has_bit r i ≡ has_bit s i = λ i l. ap (λ x. eqb x 1) (sym (bit_at_cat_low (s / 2 ^ k) k r i l) ∙ ap (λ n. bit_at n i) (shr_split s k)) in
    let top : s / 2 ^ k < 2 = shr_below s 1 k (rw one-add h) in
    sym (ap ones (shr_split s k)) ∙ ones_cat k (s / 2 ^ k) r (mod_below s (2 ^ k) (pow_pos k))
    ∙ ap₂ ◌+◌ (one_counts (s / 2 ^ k) top) (ones_count k r (mod_below s (2 ^ k) (pow_pos k)) ∙ count_same (has_bit r) (has_bit s) k low)

-- Least numbers

-- the lowest bit that is set; the number 0 has none
pub trailing_least : (s : ℕ) → s < 2 ^ 64 → Least (has_bit s) 64 (count_trailing_zeros 64 s)
unfolding has_bit
trailing_least zero h = rw (trailing_of_zero 64) (record { within = omega arith; passes = λ l. absurd (omega arith); none_below = λ q l. has_none q })
trailing_least (suc n) h =
    let b = bit_at-trailing_zeros w64 (suc n) (omega arith) h in
    record { within = omega (arith, b.0); passes = λ l. ap (λ x. eqb x 1) b.1; none_below = λ q l. ap (λ x. eqb x 1) (b.2 q l) }

-- tests that agree have the same least number
pub least_same : (f g : ℕ → Bool) (n r : ℕ) → ((k : ℕ) → f k ≡ g k) → Least f n r → Least g n r
least_same f g n r e l = record { within = l.within; passes = λ h. sym (e r) ∙ l.passes h; none_below = λ q h. sym (e q) ∙ l.none_below q h }
