use Rattle.std.proofs.Common.{◌≡◌, ℕ, ◌-◌, ◌<◌, true, false, get_or, length, Some, None, Option, sym, ◌∙◌, Bor, rules}
use Rattle.std.specs.Option.{option_map, MatchOption}
use Rattle.std.proofs.iter.runs.Made.{chains}
use Rattle.streets.specs.declared.legs.Leg.{Leg}
use Rattle.streets.specs.declared.legs.LegRecord.{LegRecord}
use Rattle.streets.specs.Lists.{tells}
use Rattle.streets.proofs.LastLeg.{last_none, last_some}
use Rattle.streets.proofs.list.last_leg.Goals as goal

split : (o : Option (Bor LegRecord)) (r l : Option Leg) → r ≡ option_map (λ x. x.now.leg) o → (N : Type 0) (Q : Bor LegRecord → Type 0) → MatchOption o N Q → (N → l ≡ None) → ((x : Bor LegRecord) → Q x → l ≡ Some x.now.leg) → r ≡ l
split None r l m N Q h f g = m ∙ sym (f h)
split (Some x) r l m N Q h f g = m ∙ sym (g x h)

-- last_none and last_some named at the function were tried: what `rfind` says counts from the end
pub returns : goal.returns
returns c =
    let rs = c.args.records.now in
    let h = c.rfind.ensures.runs in
    let u = h.0 in
    let m = c.iter.ensures.runs_back u u.seen in
    split c.rfind.result c.map.result _ (search rules) _ _ h.2
    (λ n. let miss : (k : ℕ) (d : LegRecord) → k < length rs → tells (get_or rs k d) c.args.from c.args.to ≡ false = λ k d l. search (rules, chains) in last_none rs c.args.from c.args.to miss)
    (λ x q. let i : ℕ = length rs - 1 - q.0 in
    let inside : i < length rs = search (rules, chains) in
    let is : x.now ≡ get_or rs i x.now = search (rules, chains) in
    let hit : tells x.now c.args.from c.args.to ≡ true = search (rules, chains) in
    let miss : (k : ℕ) (d : LegRecord) → i < k → k < length rs → tells (get_or rs k d) c.args.from c.args.to ≡ false = λ k d j l. search (rules, chains) in
    last_some rs i x.now c.args.from c.args.to inside is hit miss)
