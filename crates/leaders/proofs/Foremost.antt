-- Where every row in use is led by its head, the least of the heads has the first plan left.
use Rattle.std.proofs.Common.{◌≡◌, ℕ, ◌+◌, ◌-◌, ◌*◌, ◌/◌, ◌%◌, ◌<◌, ◌≤◌, true, false, ◌⊎◌, List, IfSome, Some, None, Option, sym, refl, ap, ◌∙◌, subst, inl, inr, ⊎_elim, arith}
use Rattle.std.proofs.Math.Nat.{le-mul_of_pos_right}
use Rattle.std.proofs.lemmas.Nat.{mul-le, div_below, mod_below, div-add-mod'}
use Rattle.std.proofs.lemmas.Bool.{cases_lt, cases_Bool, cond-true, cond-false}
use Rattle.measures.specs.Laws.{Laws}
use Rattle.measures.specs.Meaning.{MeasureMeaning}
use Rattle.measures.specs.Scales.{optional}
use Rattle.trees.proofs.Lift.{lifted}
use Rattle.trees.proofs.Choosing.{sooner_total}
use Rattle.cells.specs.declared.cell.Cell.{Cell}
use Rattle.cells.specs.declared.cell.Entry.{Entry}
use Rattle.cells.specs.Cells.{space_of, entry_before}
use Rattle.tables.specs.Tables.{entry_in}
use Rattle.waiting.specs.Queues.{row_start, Placed, FirstWaiting}
use Rattle.waiting.proofs.Leasts.{none_behind, no_plan, chosen, first_left}
use Rattle.leaders.specs.Leaders.{AllLed, Rows, HeadPlan}
use Rattle.leaders.proofs.Heads.{chain}

-- an entry behind the heads stands in one of the rows
pub row_of : (m k v : ℕ) → 1 ≤ m → k ≤ v → v < k * m → (row : ℕ) × (u : ℕ) × (row < k) × (u < m - 1) × (v ≡ row_start m k row + u)
row_of m k v s g l = let e : m - 1 + 1 ≡ m = omega arith in let r = at (m - 1) k v g (subst (λ (x : ℕ). v < k * x) (sym e) l) in (r.0, r.1, r.2, r.3, r.4)
  where
    some : (d k v : ℕ) → k ≤ v → v < k * (d + 1) → 0 < d
    some d k v g l = ⊎_elim (λ h. h) (λ h. absurd (let z : d ≡ 0 = omega arith in let l' = subst (λ (x : ℕ). v < k * (x + 1)) z l in omega arith)) (cases_lt 0 d)

    at : (d k v : ℕ) → k ≤ v → v < k * (d + 1) → (row : ℕ) × (u : ℕ) × (row < k) × (u < d) × (v ≡ k + row * d + u)
    at d k v g l = let z = some d k v g l in let e = div-add-mod' (v - k) d in
        ((v - k) / d, (v - k) % d, div_below (v - k) d k z (omega arith), mod_below (v - k) d z, omega arith)

pub scored_or_not : {V : Type 0} (o : Option V) → (o ≡ None) ⊎ (o ≡ None → ⊥)
scored_or_not (Some x) = inr (λ e. let z : ◌≡◌ {A = ℕ} 0 1 = cc in omega arith)
scored_or_not None = inl refl

module _ {V : Type 0} (meaning : MeasureMeaning V) (laws : Laws meaning.nought meaning.joined meaning.before) where
  -- an entry with a plan comes before one without
  pub before_none : (a b : Entry V) → (a.score ≡ None → ⊥) → b.score ≡ None → entry_before meaning.before a b ≡ true
  before_none a b some none = let s = lifted meaning laws in
      let le : (optional meaning).leq a.score b.score ≡ true = ap ((optional meaning).leq a.score) none ∙ s.worst a.score in
      ⊎_elim
      (λ t. absurd (some (s.laws.antisym _ _ le t ∙ none)))
      (λ f. cond-true _ _ false le ∙ cond-false _ _ true f)
      (cases_Bool ((optional meaning).leq b.score a.score))

  pub itself : (a : Entry V) → entry_before meaning.before a a ≡ true
  itself a = ⊎_elim (λ t. t) (λ t. t) (sooner_total (optional meaning) (lifted meaning laws) 12 (space_of a) (space_of a))

module _ {M V : Type 0} (meaning : MeasureMeaning V) (laws : Laws meaning.nought meaning.joined meaning.before) (cells : List (Cell M V)) (n m base k rows : ℕ) (some : 1 ≤ m)
    (rows_in : Rows cells base n m k rows) (led : AllLed meaning cells base m k rows) where
  -- an entry in a row that is not in use has no plan
  unused : (v row u : ℕ) → v < k * m → rows ≤ row → v ≡ row_start m k row + u → ((entry_in cells (base + v)).score ≡ None → ⊥) → ⊥
  unused v row u l h e has = let x = mul-le rows (m - 1) row (m - 1) h (omega arith) in let d = rows_in.queue.free v (omega arith) l in let s = (rows_in.queue.safe v l has).0 in omega arith

  -- an entry with a plan that is no head comes after the head of its row
  behind_head : (v : ℕ) → k ≤ v → v < k * m → ((entry_in cells (base + v)).score ≡ None → ⊥) → (row : ℕ) × (row < k) × (entry_before meaning.before (entry_in cells (base + row)) (entry_in cells (base + v)) ≡ true)
  behind_head v g l has = let r = row_of m k v some g l in (
    r.0,
    r.2,
    ⊎_elim
        (λ used. subst (λ (x : ℕ). entry_before meaning.before (entry_in cells (base + r.0)) (entry_in cells (base + x)) ≡ true) (sym r.4) ((led r.0 used).first r.1 r.3))
        (λ out. absurd (unused v r.0 r.1 l out r.4 has))
        (cases_lt r.0 rows),
  )

  -- where no head has a plan, no entry has one
  pub none_at_all : ((v : ℕ) → v < k → (entry_in cells (base + v)).score ≡ None) → (v : ℕ) → v < k * m → (entry_in cells (base + v)).score ≡ None
  none_at_all none v l = ⊎_elim (none v) (λ g. ⊎_elim
      (λ e. e)
      (λ has. let r = behind_head v g l has in none_behind meaning.before (entry_in cells (base + r.0)) (entry_in cells (base + v)) r.2 (none r.0 r.1))
      (scored_or_not (entry_in cells (base + v)).score)) (cases_lt v k)

  -- the least head with a plan is at or before every entry
  pub least_of_all : (w : ℕ) → ((v : ℕ) → v < k → entry_before meaning.before (entry_in cells (base + w)) (entry_in cells (base + v)) ≡ true) → ((entry_in cells (base + w)).score ≡ None → ⊥) →
      (v : ℕ) → v < k * m → entry_before meaning.before (entry_in cells (base + w)) (entry_in cells (base + v)) ≡ true
  least_of_all w least scored v l = ⊎_elim (least v) (λ g. ⊎_elim
      (before_none meaning laws (entry_in cells (base + w)) (entry_in cells (base + v)) scored)
      (λ has. let r = behind_head v g l has in chain meaning laws (entry_in cells (base + w)) (entry_in cells (base + r.0)) (entry_in cells (base + v)) (least r.0 r.1) r.2)
      (scored_or_not (entry_in cells (base + v)).score)) (cases_lt v k)

-- the heads are among the entries
pub ruleset heads_le = (le-mul_of_pos_right)

pub head_in : (k m w : ℕ) → 1 ≤ m → w < k → w < k * m
head_in k m w s l = let a = le-mul_of_pos_right k s in omega arith

-- a head with a plan is in use, and can be split
pub in_use : {M V : Type 0} (cells : List (Cell M V)) (base n m k rows w : ℕ) → 1 ≤ m → Rows cells base n m k rows → w < k → ((entry_in cells (base + w)).score ≡ None → ⊥) →
    (w ≤ rows) × Placed n m (entry_in cells (base + w))
in_use cells base n m k rows w some rows_in l has = let s = rows_in.queue.safe w (head_in k m w some l) has in
    (⊎_elim (λ h. absurd (let d = rows_in.heads w (omega arith) (omega arith) l in let e = s.0 in omega arith)) (λ h. h) (cases_lt rows w), s)

-- the head in which the first plan waits has a plan, is in use and can be split; and it has the first plan left, or no plan
-- is left
module _ {M V : Type 0} (meaning : MeasureMeaning V) (cells : List (Cell M V)) (base m k : ℕ) where
  pub some_head : (r : Option ℕ) → FirstWaiting meaning cells base k r → IfSome r (λ w. (w < k) × ((entry_in cells (base + w)).score ≡ None → ⊥))
  some_head None f = tt
  some_head (Some w) f = (f.some.0, f.some.1)

  pub ready_head : (n rows : ℕ) (r : Option ℕ) → 1 ≤ m → FirstWaiting meaning cells base k r → Rows cells base n m k rows →
      IfSome r (λ w. (w ≤ rows) × Placed n m (entry_in cells (base + w)))
  ready_head n rows None some f rows_in = tt
  ready_head n rows (Some w) some f rows_in = in_use cells base n m k rows w some rows_in f.some.0 f.some.1

  pub head_plan : (r : Option ℕ) → 1 ≤ m → m ≤ 12 → Laws meaning.nought meaning.joined meaning.before → FirstWaiting meaning cells base k r → HeadPlan meaning cells base m k r
  head_plan None some few laws f = record {
    told = λ τ H n rows stops given size tables rows_in led waits.
        no_plan meaning laws cells n stops base (k * m) τ H given tables waits (none_at_all meaning laws cells n m base k rows some rows_in led (f.none refl));
  }
  head_plan (Some w) some few laws f = record {
    told = λ τ H n rows stops given size tables rows_in led waits.
        let l = head_in k m w some f.some.0 in let least = least_of_all meaning laws cells n m base k rows some rows_in led w f.some.2 f.some.1 in (
          chosen meaning laws cells n stops base (k * m) τ H given tables waits (omega arith) w l least f.some.1,
          first_left meaning laws cells n stops base (k * m) τ H given tables waits (omega arith) w l least f.some.1,
        );
  }
