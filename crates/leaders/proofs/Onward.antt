-- Exchanging two entries of a row keeps the queue, the partition and every other row's leader.
use Rattle.std.proofs.Common.{◌≡◌, ℕ, ◌+◌, ◌-◌, ◌*◌, ◌/◌, ◌<◌, ◌≤◌, ◌⊎◌, List, length, Option, sym, ap, ◌∙◌, subst, ap₂, inl, ⊎_elim, arith}
use Rattle.std.proofs.lemmas.Nat.{mul-le, div-mul-add}
use Rattle.std.proofs.lemmas.Bool.{cases_lt, cases_eq}
use Rattle.measures.specs.Laws.{Laws}
use Rattle.measures.specs.Meaning.{MeasureMeaning}
use Rattle.measures.specs.Scales.{optional}
use Rattle.jobs.specs.declared.job.Job.{Job}
use Rattle.jobs.specs.Jobs.{stops_of}
use Rattle.jobs.proofs.Ties.{some_stop}
use Rattle.trees.specs.Tasks.{Task, Rooted}
use Rattle.trees.specs.Minima.{Minimal}
use Rattle.trees.specs.Rounds.{Partition}
use Rattle.trees.proofs.Lift.{lifted}
use Rattle.trees.proofs.Rounds.{swapped}
use Rattle.cells.specs.declared.cell.Cell.{Cell}
use Rattle.cells.specs.declared.cell.Entry.{Entry}
use Rattle.cells.specs.Cells.{space_of, entry_before}
use Rattle.tables.specs.Tables.{entry_in, Kept}
use Rattle.waiting.specs.Queues.{waiting_in, row_start, Safe, SplitOff}
use Rattle.waiting.proofs.Keeping.{same_entry, tables_kept}
use Rattle.waiting.proofs.Stepping.{row_ends}
use Rattle.leaders.specs.Leaders.{Promoted, Led, AllLed, Rows, Givable, Advanced}
use Rattle.leaders.proofs.Foremost.{head_in}

-- two rows have no entry in common
rows_apart : (d a b u v : ℕ) → (a ≡ b → ⊥) → u < d → v < d → a * d + u ≡ b * d + v → ⊥
rows_apart d a b u v other ul vl e = other (sym (div-mul-add a d u ul) ∙ ap (λ x. x / d) e ∙ div-mul-add b d v vl)

-- a row ends where the next one begins, at the latest where a later one does
row_before : (m k a b : ℕ) → a < b → row_start m k a + (m - 1) ≤ row_start m k b
row_before m k a b l = let x = mul-le (a + 1) (m - 1) b (m - 1) (omega arith) (omega arith) in omega arith

-- a row whose entries are the same is led as it was
pub led_same : {M V : Type 0} (meaning : MeasureMeaning V) (old new : List (Cell M V)) (base m k row : ℕ) → entry_in new (base + row) ≡ entry_in old (base + row) →
    ((u : ℕ) → u < m - 1 → entry_in new (base + (row_start m k row + u)) ≡ entry_in old (base + (row_start m k row + u))) → Led meaning old base m k row → Led meaning new base m k row
led_same meaning old new base m k row head tail led = record { first = λ u l. ap₂ (entry_before meaning.before) head (tail u l) ∙ led.first u l }

module _ {M V : Type 0} (old new : List (Cell M V)) (base m k row : ℕ) (some : 1 ≤ m) (rl : row < k) (p : Promoted old new base m k row) where
  pub from_in : p.from < k * m
  from_in = ⊎_elim (λ e. let h = head_in k m row some rl in omega arith) (λ h. let l = h.1 in let e = row_ends m k row some rl in omega arith) p.inside

  pub kept_promoted : Kept base old new
  kept_promoted i l = p.exchanged.others i (λ e. omega arith) (λ e. omega arith)

  -- an entry that is neither the head nor the one that changed places with it
  same_at : (v : ℕ) → (v ≡ row → ⊥) → (v ≡ p.from → ⊥) → entry_in new (base + v) ≡ entry_in old (base + v)
  same_at v d d' = same_entry old new (base + v) (p.exchanged.others (base + v) (λ e. d (omega arith)) (λ e. d' (omega arith)))

  -- what holds of all entries before holds of all after
  each : (P : Entry V → Type 0) → ((v : ℕ) → v < k * m → P (entry_in old (base + v))) → (v : ℕ) → v < k * m → P (entry_in new (base + v))
  each P all v l = ⊎_elim
      (λ e. subst (λ (x : ℕ). P (entry_in new (base + x))) (sym e) (subst P (sym p.exchanged.first) (all p.from from_in)))
      (λ d. ⊎_elim
      (λ e. subst (λ (x : ℕ). P (entry_in new (base + x))) (sym e) (subst P (sym p.exchanged.second) (all row (head_in k m row some rl))))
      (λ d'. subst P (sym (same_at v d d')) (all v l))
      (cases_eq v p.from))
      (cases_eq v row)

  pub rows_promoted : (n rows : ℕ) → row < rows → Rows old base n m k rows → Rows new base n m k rows
  rows_promoted n rows h in_use = record {
    queue = record {
      free = λ v g l. ap (λ (x : Entry V). x.depth) (same_at v (λ e. omega arith) (out v g)) ∙ in_use.queue.free v g l;
      safe = each (Safe n m) in_use.queue.safe;
    };
    heads = λ v z g l. ap (λ (x : Entry V). x.depth) (same_at v (λ e. omega arith) (no_head v g l)) ∙ in_use.heads v z g l;
  } where
    no_head : (v : ℕ) → rows ≤ v → v < k → v ≡ p.from → ⊥
    no_head v g l e = ⊎_elim (λ i. omega arith) (λ i. let x = i.0 in omega arith) p.inside

    out : (v : ℕ) → row_start m k rows ≤ v → v ≡ p.from → ⊥
    out v g e = ⊎_elim (λ i. omega arith) (λ i. let l = i.1 in let x = row_before m k row rows h in omega arith) p.inside

  pub led_else : (meaning : MeasureMeaning V) (r : ℕ) → r < k → (r ≡ row → ⊥) → Led meaning old base m k r → Led meaning new base m k r
  led_else meaning r l d = led_same meaning old new base m k r (same_at r d head) (λ u h. same_at (row_start m k r + u) (λ e. omega arith) (tail u h))
    where
      head : r ≡ p.from → ⊥
      head e = ⊎_elim (λ i. d (e ∙ i)) (λ i. let x = i.0 in omega arith) p.inside

      tail : (u : ℕ) → u < m - 1 → row_start m k r + u ≡ p.from → ⊥
      tail u h e = ⊎_elim (λ i. omega arith) (λ i. let lo = i.0 in let hi = i.1 in rows_apart (m - 1) r row u (p.from - row_start m k row) d h (omega arith) (omega arith)) p.inside

  pub partition_promoted : (meaning : MeasureMeaning V) (laws : Laws meaning.nought meaning.joined meaning.before) (τ : Task (Option V)) (H : ℕ → ℕ → Option V) → Rooted τ → Minimal (optional meaning) τ H → (given : List (ℕ → ℕ)) →
      Partition (optional meaning) τ H given (k * m) (waiting_in old base) → Partition (optional meaning) τ H given (k * m) (waiting_in new base)
  partition_promoted meaning laws τ H rooted minimal given = swapped (optional meaning) (lifted meaning laws) τ H rooted minimal given (k * m) (waiting_in old base) (waiting_in new base) row p.from (head_in k m row some rl) from_in
      (ap (λ (e : Entry V). space_of e) p.exchanged.first) (ap (λ (e : Entry V). space_of e) p.exchanged.second) (λ v d d'. ap (λ (e : Entry V). space_of e) (same_at v d d'))

-- after a split both rows that it touched get their leaders, and the others keep theirs
module _ {M V : Type 0} (meaning : MeasureMeaning V) (old mid one new : List (Cell M V)) (base m k rows w : ℕ) (some : 1 ≤ m) (rl : rows < k) (wl : w < k)
    (others : (v : ℕ) → (v ≡ w → ⊥) → (v < row_start m k rows) ⊎ (row_start m k (rows + 1) ≤ v) → entry_in mid (base + v) ≡ entry_in old (base + v))
    (first : Promoted mid one base m k w) (second : Promoted one new base m k rows) (first-led : Led meaning one base m k w) (second-led : Led meaning new base m k rows) where
  pub all_led : AllLed meaning old base m k rows → AllLed meaning new base m k (rows + 1)
  all_led led r l = ⊎_elim
      (λ e. subst (λ (x : ℕ). Led meaning new base m k x) (sym e) second-led)
      (λ d. led_else one new base m k rows some rl second meaning r (omega arith) d (⊎_elim
      (λ e. subst (λ (x : ℕ). Led meaning one base m k x) (sym e) first-led)
      (λ d'. led_else mid one base m k w some wl first meaning r (omega arith) d'
      (let rr = used r l d in let x = row_before m k r rows rr in led_same meaning old mid base m k r (others r d' (inl (omega arith))) (λ u h. others (row_start m k r + u) (λ e. omega arith) (inl (omega arith))) (led r rr)))
      (cases_eq r w)))
      (cases_eq r rows)
    where
      used : (r : ℕ) → r < rows + 1 → (r ≡ rows → ⊥) → r < rows
      used r l d = ⊎_elim (λ h. h) (λ h. absurd (d (omega arith))) (cases_lt r rows)

-- the numbers by which a row stands, in place of equal ones
moved : (P : ℕ → ℕ → ℕ → Type 0) (b b' m m' k k' : ℕ) → b ≡ b' → m ≡ m' → k ≡ k' → P b m k → P b' m' k'
moved P b b' m m' k k' p q r h = subst (λ x. P x m' k') p (subst (λ x. P b x k') q (subst (λ x. P b m x) r h))

-- after a split and the two promotions one plan more is given
module _ {M V : Type 0} (meaning : MeasureMeaning V) (laws : Laws meaning.nought meaning.joined meaning.before) (j : Job) (n base k rows w b m' k' b₂ m₂ k₂ : ℕ) (old mid one new : List (Cell M V))
    (behind : n * n + length (stops_of j) * n ≤ base) (givable : Givable old n (stops_of j) base k rows w) (split : SplitOff meaning (stops_of j) n base k rows w old mid)
    (same-base : b ≡ base) (same-m : m' ≡ length (stops_of j)) (same-k : k' ≡ k) (again-base : b₂ ≡ base) (again-m : m₂ ≡ length (stops_of j)) (again-k : k₂ ≡ k)
    (led-one : Led meaning one b m' k' w) (to-one : Promoted mid one b m' k' w) (led-new : Led meaning new b₂ m₂ k₂ rows) (to-new : Promoted one new b₂ m₂ k₂ rows) where
  some : 1 ≤ length (stops_of j)
  some = some_stop j

  rl : rows < k
  rl = givable.split.row

  wl : w < k
  wl = let h = givable.head in let l = givable.split.row in omega arith

  first : Promoted mid one base (length (stops_of j)) k w
  first = moved (λ x y z. Promoted mid one x y z w) b base m' (length (stops_of j)) k' k same-base same-m same-k to-one

  second : Promoted one new base (length (stops_of j)) k rows
  second = moved (λ x y z. Promoted one new x y z rows) b₂ base m₂ (length (stops_of j)) k₂ k again-base again-m again-k to-new

  kept : Kept base old new
  kept i l = kept_promoted one new base (length (stops_of j)) k rows some rl second i l ∙ kept_promoted mid one base (length (stops_of j)) k w some wl first i l ∙ split.kept i l

  pub advanced : Advanced meaning (stops_of j) n base k rows w old new
  advanced = record {
    kept = kept;
    tables = tables_kept old new n base (stops_of j) behind kept meaning;
    used = λ in_use. rows_promoted one new base (length (stops_of j)) k rows some rl second n (rows + 1) (omega arith)
        (rows_promoted mid one base (length (stops_of j)) k w some wl first n (rows + 1) (let h = givable.head in omega arith) record { queue = split.queue in_use.queue; heads = split.heads in_use.heads });
    led = all_led meaning old mid one new base (length (stops_of j)) k rows w some rl wl split.others first second
        (moved (λ x y z. Led meaning one x y z w) b base m' (length (stops_of j)) k' k same-base same-m same-k led-one)
        (moved (λ x y z. Led meaning new x y z rows) b₂ base m₂ (length (stops_of j)) k₂ k again-base again-m again-k led-new);
    stands = λ τ H given tables in_use waits chosen. partition_promoted one new base (length (stops_of j)) k rows some rl second meaning laws τ H tables.holds.rooted tables.minimal _
        (partition_promoted mid one base (length (stops_of j)) k w some wl first meaning laws τ H tables.holds.rooted tables.minimal _ (split.stands τ H given tables in_use.queue waits chosen));
  }

  pub advanced_to : (end : List (Cell M V)) → end ≡ new → Advanced meaning (stops_of j) n base k rows w old end
  advanced_to end e = subst (λ (cells : List (Cell M V)). Advanced meaning (stops_of j) n base k rows w old cells) (sym e) advanced
