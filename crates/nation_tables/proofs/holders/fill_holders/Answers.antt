use mathlib.Core.Path.{◌≡◌, refl, ap, ◌∙◌}
use mathlib.Core.List.{◌∷◌, map}
use native.Mathlib.Omega.{arith}
use lib.ListN.{length, length-map}
use Rattle.format.specs.Campaign.{campaign_of}
use Rattle.lists.proofs.FillLaws.{filling-new, filling-put, filling-whole}
use Rattle.owner_changes.specs.ChangeSteps.{entered, changes_left}
use Rattle.owner_changes.proofs.EnteringLaws.{record-entered}
use Rattle.nation_tables.specs.Layout.{row_number}
use Rattle.nation_tables.specs.Holders.{Settler, holder_cell}
use Rattle.nation_tables.proofs.tables.LookupLaws.{numbered}
use Rattle.nation_tables.proofs.slots.ChangeCellLaws.{entered-small, small-next, cell-made}
use Rattle.nation_tables.proofs.slots.HoldersLaws.{settler}
use Rattle.nation_tables.proofs.holders.fill_holders.Goals.{Start, In-Some}
use Rattle.nation_tables.proofs.holders.fill_holders.Goals as goal

-- The change that was told is the first of those left.
more : (c : In-Some) → changes_left c.loop-n.n-iterator.iter ≡ c.in-Some.x ∷ changes_left c.next.new.self.iter
more c = c.in-Some.ensures.steps.0

-- The countries' tags, and the keys that changes settle by.
rules-of : (c : Start) → Settler (campaign_of c.args.tabled.opened.bytes.now).countries c.args.tabled.tags.now c.args.tabled.settling.keys.now
rules-of c = settler c.args.tabled.opened _ _ _ c.args.tabled.tabled

pub loop-n-init : goal.loop-n-init
loop-n-init c =
    let r = c.args.tabled.opened in
    let all : changes_left c.new-changes.result ≡ entered r.bytes.now = c.new-changes.ensures ∙ record-entered r in
    rw (c.into_iter-n-iterator.ensures.into_iter_gives, c.enumerate-n-items.ensures.source, c.enumerate-n-items.ensures.count, all) (
      filling-new _ _ (omega (arith, length-map (entered r.bytes.now) (holder_cell (campaign_of r.bytes.now).countries), c.requires)),
      entered-small _ r.accepted,
      omega (arith, c.requires),
    )

pub settling_row-row-requires : goal.settling_row-row-requires
settling_row-row-requires c =
    (small-next (more (goal.at.settling_row-row-requires c).In-Some) c.loop-n.invariant.1).0.to

pub bounds-cells-n : goal.bounds-cells-n
bounds-cells-n c =
    omega (arith, ap length (more (goal.at.bounds-cells-n c).In-Some), c.in-Some.ensures.steps.1, c.loop-n.invariant.2, c.loop-n.auto.cells)

pub loop-n-preserved : goal.loop-n-preserved
loop-n-preserved c =
    let told = more (goal.at.loop-n-preserved c).In-Some in
    let ks = (campaign_of c.args.tabled.opened.bytes.now).countries in
    let small = small-next told c.loop-n.invariant.1 in
    let steps = c.in-Some.ensures.steps in
    rw (steps.2, steps.1) (
      filling-put _ _ _ _ _ c.loop-n.invariant.0 _ _ (ap (map (holder_cell ks)) told) _
          (c.cell_of.ensures
          ∙ cell-made _ _ _ (rules-of (goal.at.loop-n-preserved c).Start) c.in-Some.x small.0 c.unwrap_or.result
          (c.unwrap_or.ensures ∙ numbered c.settling_row-row.result ∙ ap row_number c.settling_row-row.ensures) _ refl),
      small.1,
      omega (arith, ap length told, c.loop-n.invariant.2),
    )

pub returns : goal.returns
returns c =
    let ks = (campaign_of c.args.tabled.opened.bytes.now).countries in
    filling-whole _ _ _ _ _ c.loop-n.invariant.0 (ap (map (holder_cell ks)) c.in-None.ensures.steps.0.0)
    (omega (arith, length-map (entered c.args.tabled.opened.bytes.now) (holder_cell ks), c.requires))
