-- The laws of climb.
use Rattle.std.specs.Prelude.{◌≡◌, ℕ, ◌+◌, min, Bool, true, false, cond, ◌&&◌, ◌||◌, ◌==◌, nat_le, nat_lt, refl}
use Rattle.std.proofs.Common.{sym, ap, ◌∙◌, ⊎_elim, arith}
use Rattle.std.proofs.lemmas.Bool.Decides.{nat_tests}
use Rattle.std.proofs.lemmas.Bool.{cases_Bool}
use Rattle.measures.specs.declared.values.ClimbValue.{ClimbValue}
use Rattle.measures.specs.Laws.{Laws}
use Rattle.measures.specs.Climb.{climb_of, climb_zero, climb_sum, climb_join, climb_before, is_zero}
use Rattle.measures.specs.Same.{same_climb}

-- the two numbers of a sum, by those of its parts
abbrev held : ℕ → ℕ
held n = min n 4294967295

seconds_sum : ℕ → ℕ → ℕ → ℕ → ℕ
seconds_sum ac bc sa sb = cond (nat_le 4294967295 (ac + bc)) 4294967295 (held (sa + sb))

pick : {B : Type 0} (f : ClimbValue → B) (t : Bool) (x y : ClimbValue) → f (cond t x y) ≡ cond t (f x) (f y)
pick f true x y = refl
pick f false x y = refl

sum_climb : (a b : ClimbValue) → (climb_sum a b).climb ≡ held (a.climb + b.climb)
unfolding climb_of
sum_climb a b = pick (λ v. v.climb) (nat_le 4294967295 (a.climb + b.climb)) (climb_of 4294967295 4294967295) (climb_of (a.climb + b.climb) (a.seconds + b.seconds)) ∙ grind (arith, nat_tests)

sum_seconds : (a b : ClimbValue) → (climb_sum a b).seconds ≡ seconds_sum a.climb b.climb a.seconds b.seconds
unfolding climb_of seconds_sum
sum_seconds a b = pick (λ v. v.seconds) (nat_le 4294967295 (a.climb + b.climb)) (climb_of 4294967295 4294967295) (climb_of (a.climb + b.climb) (a.seconds + b.seconds))

-- the three cases of a join
zero_left : (a b : ClimbValue) → is_zero a ≡ true → climb_join a b ≡ b
zero_left a b e = ap (λ t. cond t b (cond (is_zero b) a (climb_sum a b))) e

zero_is : (a b : ClimbValue) → is_zero a ≡ true → is_zero b ≡ true → a ≡ b
zero_is a b e f = same_climb a b (grind (arith, nat_tests)) (grind (arith, nat_tests))

zero_right : (a b : ClimbValue) → is_zero b ≡ true → climb_join a b ≡ a
zero_right a b e = ⊎_elim
    (λ t. zero_left a b t ∙ zero_is b a e t)
    (λ t. ap (λ u. cond u b (cond (is_zero b) a (climb_sum a b))) t ∙ ap (λ u. cond u a (climb_sum a b)) e)
    (cases_Bool (is_zero a))

neither : (a b : ClimbValue) → is_zero a ≡ false → is_zero b ≡ false → climb_join a b ≡ climb_sum a b
neither a b e f = ap (λ u. cond u b (cond (is_zero b) a (climb_sum a b))) e ∙ ap (λ u. cond u a (climb_sum a b)) f

sum_not_zero : (a b : ClimbValue) → is_zero a ≡ false → is_zero b ≡ false → is_zero (climb_sum a b) ≡ false
unfolding seconds_sum
sum_not_zero a b e f =
    ap (λ n. (n == 0) && (climb_sum a b).seconds == 0) (sum_climb a b) ∙ ap (λ n. (held (a.climb + b.climb) == 0) && n == 0) (sum_seconds a b) ∙ grind (arith, nat_tests)

seconds_assoc : (ac bc cc sa sb sc : ℕ) → seconds_sum (held (ac + bc)) cc (seconds_sum ac bc sa sb) sc ≡ seconds_sum ac (held (bc + cc)) sa (seconds_sum bc cc sb sc)
unfolding seconds_sum
seconds_assoc ac bc cc sa sb sc = grind (arith, nat_tests)

sum_assoc : (a b c : ClimbValue) → climb_sum (climb_sum a b) c ≡ climb_sum a (climb_sum b c)
sum_assoc a b c = same_climb _ _
    (sum_climb (climb_sum a b) c ∙ ap (λ n. held (n + c.climb)) (sum_climb a b) ∙ omega arith ∙ sym (sum_climb a (climb_sum b c) ∙ ap (λ n. held (a.climb + n)) (sum_climb b c)))
    (sum_seconds (climb_sum a b) c ∙ ap (λ n. seconds_sum n c.climb (climb_sum a b).seconds c.seconds) (sum_climb a b)
    ∙ ap (λ n. seconds_sum (held (a.climb + b.climb)) c.climb n c.seconds) (sum_seconds a b)
    ∙ seconds_assoc a.climb b.climb c.climb a.seconds b.seconds c.seconds
    ∙ sym (sum_seconds a (climb_sum b c) ∙ ap (λ n. seconds_sum a.climb n a.seconds (climb_sum b c).seconds) (sum_climb b c)
    ∙ ap (λ n. seconds_sum a.climb (held (b.climb + c.climb)) a.seconds n) (sum_seconds b c)))

assoc : (a b c : ClimbValue) → climb_join (climb_join a b) c ≡ climb_join a (climb_join b c)
assoc a b c = ⊎_elim
    (λ az. ap (λ x. climb_join x c) (zero_left a b az) ∙ sym (zero_left a (climb_join b c) az))
    (λ an. ⊎_elim
    (λ bz. ap (λ x. climb_join x c) (zero_right a b bz) ∙ sym (ap (climb_join a) (zero_left b c bz)))
    (λ bn. ⊎_elim
    (λ cz. zero_right (climb_join a b) c cz ∙ sym (ap (climb_join a) (zero_right b c cz)))
    (λ cn. ap (λ x. climb_join x c) (neither a b an bn) ∙ neither (climb_sum a b) c (sum_not_zero a b an bn) cn ∙ sum_assoc a b c
    ∙ sym (ap (climb_join a) (neither b c bn cn) ∙ neither a (climb_sum b c) an (sum_not_zero b c bn cn)))
    (cases_Bool (is_zero c)))
    (cases_Bool (is_zero b)))
    (cases_Bool (is_zero a))

sum_comm : (a b : ClimbValue) → climb_sum a b ≡ climb_sum b a
unfolding seconds_sum
sum_comm a b = same_climb _ _ (sum_climb a b ∙ omega arith ∙ sym (sum_climb b a)) (sum_seconds a b ∙ grind (arith, nat_tests) ∙ sym (sum_seconds b a))

comm : (a b : ClimbValue) → climb_join a b ≡ climb_join b a
comm a b = ⊎_elim
    (λ az. zero_left a b az ∙ sym (zero_right b a az))
    (λ an. ⊎_elim
    (λ bz. zero_right a b bz ∙ sym (zero_left b a bz))
    (λ bn. neither a b an bn ∙ sum_comm a b ∙ sym (neither b a bn an))
    (cases_Bool (is_zero b)))
    (cases_Bool (is_zero a))

-- the order, on the numbers
before : ℕ → ℕ → ℕ → ℕ → Bool
before ac sa bc sb = nat_lt ac bc || (ac == bc && nat_le sa sb)

above : (b c : ClimbValue) → climb_before c (climb_sum b c) ≡ true
unfolding seconds_sum
above b c = ap (λ n. nat_lt c.climb n || (c.climb == n && nat_le c.seconds (climb_sum b c).seconds)) (sum_climb b c)
    ∙ ap (λ n. nat_lt c.climb (held (b.climb + c.climb)) || (c.climb == held (b.climb + c.climb) && nat_le c.seconds n)) (sum_seconds b c)
    ∙ grind (arith, nat_tests)

sum_mono : (a b c : ClimbValue) → climb_before a b ≡ true → climb_before (climb_sum a c) (climb_sum b c) ≡ true
unfolding seconds_sum before
sum_mono a b c h =
    let p : climb_before (climb_sum a c) (climb_sum b c) ≡ before (held (a.climb + c.climb)) (seconds_sum a.climb c.climb a.seconds c.seconds) (held (b.climb + c.climb)) (seconds_sum b.climb c.climb b.seconds c.seconds) =
    ap (λ n. before n (climb_sum a c).seconds (climb_sum b c).climb (climb_sum b c).seconds) (sum_climb a c)
    ∙ ap (λ n. before (held (a.climb + c.climb)) n (climb_sum b c).climb (climb_sum b c).seconds) (sum_seconds a c)
    ∙ ap (λ n. before (held (a.climb + c.climb)) (seconds_sum a.climb c.climb a.seconds c.seconds) n (climb_sum b c).seconds) (sum_climb b c)
    ∙ ap (λ n. before (held (a.climb + c.climb)) (seconds_sum a.climb c.climb a.seconds c.seconds) (held (b.climb + c.climb)) n) (sum_seconds b c) in
    p ∙ grind (arith, nat_tests)

same_before : (a : ClimbValue) → climb_before a a ≡ true
same_before a = grind (arith, nat_tests)

not_zero_up : (a b : ClimbValue) → climb_before a b ≡ true → is_zero a ≡ false → is_zero b ≡ false
not_zero_up a b h e = grind (arith, nat_tests)

mono : (a b c : ClimbValue) → climb_before a b ≡ true → climb_before (climb_join a c) (climb_join b c) ≡ true
mono a b c h = ⊎_elim
    (λ cz. ap (λ x. climb_before x (climb_join b c)) (zero_right a c cz) ∙ ap (climb_before a) (zero_right b c cz) ∙ h)
    (λ cn. ⊎_elim
    (λ az. ap (λ x. climb_before x (climb_join b c)) (zero_left a c az) ∙ ⊎_elim
    (λ bz. ap (climb_before c) (zero_left b c bz) ∙ same_before c)
    (λ bn. ap (climb_before c) (neither b c bn cn) ∙ above b c)
    (cases_Bool (is_zero b)))
    (λ an. let bn = not_zero_up a b h an in
    ap (λ x. climb_before x (climb_join b c)) (neither a c an cn) ∙ ap (climb_before (climb_sum a c)) (neither b c bn cn) ∙ sum_mono a b c h)
    (cases_Bool (is_zero a)))
    (cases_Bool (is_zero c))

pub climb_laws : Laws climb_zero climb_join climb_before
unfolding climb_of
climb_laws = record {
  total = λ a b. grind (arith, nat_tests);
  antisym = λ a b h k. same_climb a b (grind (arith, nat_tests)) (grind (arith, nat_tests));
  trans = λ a b c h k. grind (arith, nat_tests);
  assoc = assoc;
  comm = comm;
  zero_joined = λ a. zero_left climb_zero a refl;
  zero_least = λ a. grind (arith, nat_tests);
  mono = mono;
}
