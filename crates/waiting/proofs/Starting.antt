-- At the start all plans wait in one entry, and the others are empty.
use Rattle.std.proofs.Common.{◌≡◌, ℕ, ◌+◌, ◌*◌, ◌<◌, ◌≤◌, false, List, [], length, get_or, set, take, drop, ◌++◌, ◌-◌, below_more, get_or-set_other, get_or-set_same, Option, sym, ap, ◌∙◌, subst, ⊎_elim, arith}
use Rattle.std.proofs.lemmas.List.{get_or_append_left, get_or-append_right, get_or-take, length-append, length-take-le, length-drop}
use borrow.Rule.Slice.PartMut.{mid_of, put_mid}
use Rattle.std.proofs.lemmas.Nat.{mul-le}
use Rattle.std.proofs.lemmas.Bool.{cases_lt, cases_eq}
use Rattle.measures.specs.Laws.{Laws}
use Rattle.measures.specs.Meaning.{MeasureMeaning}
use Rattle.jobs.specs.declared.job.Job.{Job}
use Rattle.jobs.specs.Jobs.{stops_of}
use Rattle.sets.specs.Sets.{has_bit}
use Rattle.measures.specs.Scales.{optional}
use Rattle.trees.specs.Tasks.{Task}
use Rattle.trees.specs.Subspaces.{First}
use Rattle.trees.specs.Rounds.{Partition}
use Rattle.trees.proofs.Lift.{lifted}
use Rattle.trees.proofs.Rounds.{start}
use Rattle.cells.specs.declared.cell.Cell.{Cell}
use Rattle.cells.specs.declared.cell.Entry.{Entry}
use Rattle.cells.specs.Cells.{space_of}
use Rattle.tables.specs.Tables.{blank, entry_in, Kept}
use Rattle.minima.specs.Tables.{Tables}
use Rattle.waiting.specs.Queues.{waiting_in, NoSpace, Safe, Queue, FreeHeads}
use Rattle.waiting.proofs.Keeping.{same_entry}

-- one cell more is without a subspace
pub cleared_more : {M V : Type 0} (m : ℕ) (cells : List (Cell M V)) (k : ℕ) (c : Cell M V) → k < length cells → NoSpace m c.entry → ((i : ℕ) → i < k → NoSpace m (entry_in cells i)) →
    (i : ℕ) → i < k + 1 → NoSpace m (entry_in (set cells k c) i)
unfolding entry_in
cleared_more {M} {V} m cells k c h none before = below_more _ _
    (λ i l. let ne : i ≡ k → ⊥ = omega arith in subst (λ (x : Cell M V). NoSpace m x.entry) (sym (get_or-set_other cells k i c blank ne)) (before i l))
    (subst (λ (x : Cell M V). NoSpace m x.entry) (sym (get_or-set_same cells k c blank h)) none)

-- n cells from cell `base` on are without a subspace, and those before them are as they were
pub record Cleared {M V : Type 0} (m base n : ℕ) (old mid : List (Cell M V)) : Type 0 where
  pub kept : Kept base old mid
  pub empty : (i : ℕ) → base ≤ i → i < base + n → NoSpace m (entry_in mid i)
  pub room : length mid ≡ length old

-- so it is where they are written as a part of the cells
pub part_cleared : {M V : Type 0} (m base n : ℕ) (old part : List (Cell M V)) → base + n ≤ length old → length part ≡ length (mid_of base n old) → ((i : ℕ) → i < length part → NoSpace m (entry_in part i)) →
    Cleared m base n old (put_mid base n old part)
unfolding entry_in
part_cleared {M} {V} m base n old part fits same none = record {
  kept = λ i l. get_or_append_left (take base old) _ blank i (omega (arith, front)) ∙ get_or-take base old i blank l;
  empty = λ i h l. subst (λ (c : Cell M V). NoSpace m c.entry)
      (sym (get_or-append_right (take base old) _ base i blank front h ∙ get_or_append_left part _ blank (i - base) (omega (arith, long))))
      (none (i - base) (omega (arith, long)));
  room = length-append (take base old) (part ++ drop n (drop base old)) ∙ ap (λ x. length (take base old) + x) (length-append part (drop n (drop base old))) ∙ omega (arith, front, back, end, long);
} where
  front : length (take base old) ≡ base
  front = length-take-le base old (omega arith)

  back : length (drop base old) ≡ length old - base
  back = length-drop base old

  end : length (drop n (drop base old)) ≡ length (drop base old) - n
  end = length-drop n (drop base old)

  long : length part ≡ n
  long = same ∙ length-take-le n (drop base old) (omega (arith, back))

pub some_room : (k m : ℕ) → 1 ≤ k → 1 ≤ m → 1 ≤ k * m
some_room k m h l = let a = mul-le 1 1 k m h l in omega arith

module _ {M V : Type 0} (mid new : List (Cell M V)) (n m base k : ℕ) (first : Entry V) (there : entry_in new base ≡ first) (others : (i : ℕ) → (i ≡ base → ⊥) → get_or new i blank ≡ get_or mid i blank)
    (empty : (i : ℕ) → base ≤ i → i < base + k * m → NoSpace m (entry_in mid i)) (one : 1 ≤ k) (some : 1 ≤ m) (depth : first.depth ≡ 0) where
  at_head : entry_in new (base + 0) ≡ first
  at_head = let e : base + 0 ≡ base = omega arith in ap (λ i. entry_in new i) e ∙ there

  at_rest : (w : ℕ) → 0 < w → w < k * m → NoSpace m (entry_in new (base + w))
  at_rest w z l = subst (λ (x : Entry V). NoSpace m x) (sym (same_entry mid new (base + w) (others (base + w) (λ e. omega arith)))) (empty (base + w) (omega arith) (omega arith))

  each : (P : Entry V → Type 0) → P first → ((e : Entry V) → NoSpace m e → P e) → (w : ℕ) → w < k * m → P (entry_in new (base + w))
  each P own rest w l = ⊎_elim
      (λ z. subst (λ (i : ℕ). P (entry_in new (base + i))) (sym z) (subst P (sym at_head) own))
      (λ d. rest (entry_in new (base + w)) (at_rest w (⊎_elim (λ g. g) (λ g. absurd (d (omega arith))) (cases_lt 0 w)) l))
      (cases_eq w 0)

  pub queue_start : Safe n m first → Queue new base n m k 0
  queue_start safe = record {
    free = λ w h l. (at_rest w (omega arith) l).1;
    safe = each (Safe n m) safe (λ e no some. absurd (some no.0));
  }

  pub heads_start : FreeHeads new base m k 0
  heads_start v z h l = (at_rest v z (let e = mul-le k 1 k m (omega arith) some in omega arith)).1

  pub partition_start : (meaning : MeasureMeaning V) (laws : Laws meaning.nought meaning.joined meaning.before) (stops : Job) (τ : Task (Option V)) (H : ℕ → ℕ → Option V) → τ.m ≡ m → Tables meaning mid n (stops_of stops) τ H →
      ((r : ℕ) → has_bit first.excluded.bits r ≡ false) → First (optional meaning) τ H (space_of first) → Partition (optional meaning) τ H [] (k * m) (waiting_in new base)
  partition_start meaning laws stops τ H size tables out firsts = start (optional meaning) (lifted meaning laws) τ H tables.holds.rooted tables.minimal (k * m) (waiting_in new base) (some_room k m one some) (omega arith)
      (ap (λ (e : Entry V). e.depth) at_head ∙ depth)
      (λ r. ap (λ (e : Entry V). has_bit e.excluded.bits r) at_head ∙ out r)
      (λ w Q z l q. let d = (at_rest w z l).1 in let x = q.deep in omega arith)
      (each (λ (e : Entry V). First (optional meaning) τ H (space_of e)) firsts (λ e no. record {
        deep = λ some. absurd (some no.0);
        below = λ r h _ _. absurd (let d = no.1 in omega arith);
        there = λ some. absurd (some no.0);
      }))
