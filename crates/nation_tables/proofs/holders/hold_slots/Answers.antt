-- The start, then the steps, then the pass over them. There is room for as many changes as there are, and what is written at the front of a slice is
-- found there.
use mathlib.Core.Path.{◌≡◌, ap, ◌∙◌}
use mathlib.Core.List.{List, ◌++◌}
use Prim.Native.Nat.{ℕ, suc, ◌+◌, ◌≤◌}
use native.Mathlib.Omega.{arith}
use lib.ListN.{length, drop, length-map}
use lib.Seq.{length-take-le, take_at}
use Rattle.format.specs.Campaign.{campaign_of}
use Rattle.nation_tables.proofs.slots.HoldersLaws.{held}
use Rattle.nation_tables.proofs.holders.hold_slots.Goals.{After-len-p, After-sort_steps-n}
use Rattle.nation_tables.proofs.holders.hold_slots.Goals as goal

-- A slot more than provinces, and a row for each country.
slot-count : (c : After-len-p) → c.len-p.result + 1 ≡ suc (length (campaign_of c.args.tabled.opened.bytes.now).provinces)
slot-count c = omega (arith, c.len-p.ensures, ap length c.args.tabled.opened.told.provinces)

row-count : (c : After-len-p) → length c.args.tabled.tags.now ≡ length (campaign_of c.args.tabled.opened.bytes.now).countries
row-count c = ap length c.args.tabled.tabled.tags ∙ length-map _ _

pub start_slots-requires : goal.start_slots-requires
start_slots-requires c =
    let here = (goal.at.start_slots-requires c).After-len-p in
    record {
      slots = length-take-le _ _ (omega (arith, slot-count here, c.requires.slots)) ∙ slot-count here;
      started = length-take-le _ _ (omega (arith, row-count here, c.requires.started)) ∙ row-count here;
    }

pub sort_steps-n-requires : goal.sort_steps-n-requires
sort_steps-n-requires c = record { keys = c.requires.keys; cells = c.requires.cells }

-- So many changes there are: room for them is in the keys, the cells and the turns.
keys-long : (c : After-sort_steps-n) → c.sort_steps-n.result ≤ length c.sort_steps-n.new.keys
keys-long c = omega (arith, c.sort_steps-n.ensures.counted, c.sort_steps-n.auto.keys, c.requires.keys)

cells-long : (c : After-sort_steps-n) → c.sort_steps-n.result ≤ length c.sort_steps-n.new.cells
cells-long c = omega (arith, c.sort_steps-n.ensures.counted, c.sort_steps-n.auto.cells, c.requires.cells)

turns-long : (c : After-sort_steps-n) → c.sort_steps-n.result ≤ length c.args.turns.now
turns-long c = omega (arith, c.sort_steps-n.ensures.counted, c.requires.turns)

pub returns : goal.returns
returns c =
    let r = c.args.tabled.opened in
    let here = (goal.at.returns c).After-len-p in
    let p = slot-count here in
    let s : length c.start_slots.new.slots ≡ c.len-p.result + 1 = c.start_slots.auto.slots ∙ length-take-le _ _ (omega (arith, p, c.requires.slots)) in
    let t : length c.start_slots.new.started ≡ length c.args.tabled.tags.now = c.start_slots.auto.started ∙ length-take-le _ _ (omega (arith, row-count here, c.requires.started)) in
    let first = take_at c.start_slots.new.slots (drop (c.len-p.result + 1) c.args.slots.now) (c.len-p.result + 1) s in
    let behind : List ℕ = drop (c.len-p.result + 1) (c.start_slots.new.slots ++ drop (c.len-p.result + 1) c.args.slots.now) in
    held r.bytes.now r.accepted _ _ _ _ _ c.start_slots.ensures c.sort_steps-n.ensures _ _ _ (rw first at c.pass.ensures) _ _
    (take_at c.pass.new.slots behind _ (c.pass.auto.slots ∙ ap length first ∙ s ∙ p))
    (take_at c.start_slots.new.started (drop (length c.args.tabled.tags.now) c.args.started.now) _ (t ∙ row-count here))
