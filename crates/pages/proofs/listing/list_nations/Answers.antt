-- Nations answer if the record is within the page's limits; then their words stand at the front of the slices, and the cells are filled.
use Rattle.std.proofs.Common.{◌≡◌, ℕ, ◌*◌, ◌≤◌, List, length, arith}
use lib.ListN.{take, replicate, length-take, length-replicate}
use Rattle.rules.specs.Outcomes.{NationCells}
use Rattle.rules.specs.NationRows.{nation_width, entry_width}
use Rattle.rules.specs.Changes.{change_width}
use Rattle.nation_tables.specs.Layout.{most_countries, most_slots}
use Rattle.nations.specs.LentCells.{nation_cells}
use Rattle.pages.specs.declared.listing.TheConstants.{MOST_PAGE_ENTRIES, MOST_PAGE_CHANGES}
use Rattle.pages.proofs.RoomLaws.{LentFor, over, nations-inside, entries-inside, limits-kept, nation-front, entry-front, counts-short}
use Rattle.pages.proofs.TextLaws.{rows_few, cells-listed}
use Rattle.pages.proofs.listing.list_nations.Goals as goal

-- The cells that nations were lent.
abbrev lent : List ℕ → NationCells
lent nations = nation_cells nations (replicate (entry_width * MOST_PAGE_ENTRIES) 0) (replicate most_slots 0) (replicate most_countries 0) (replicate (change_width * MOST_PAGE_CHANGES) 0)

new : (nations : List ℕ) → length nations ≡ nation_width * most_countries → LentFor (lent nations)
new nations e =
    record {
      nations = e;
      entries = length-replicate {A = ℕ} (entry_width * MOST_PAGE_ENTRIES) 0;
      holders = length-replicate {A = ℕ} most_slots 0;
      held = length-replicate {A = ℕ} most_countries 0;
      changes = length-replicate {A = ℕ} (change_width * MOST_PAGE_CHANGES) 0;
    }

fits-within : {a b : ℕ} → a ≤ most_countries → b ≡ most_countries → a ≤ b
fits-within h e = omega (arith, h, e)

pub overflow_mul-n : goal.overflow_mul-n
overflow_mul-n c = omega (arith, (counts-short _ (new _ c.requires.0) _ c.args.opened.accepted c.in-Ok.ensures).0)

pub overflow_mul-m : goal.overflow_mul-m
overflow_mul-m c = omega (arith, (counts-short _ (new _ c.requires.0) _ c.args.opened.accepted c.in-Ok.ensures).1)

-- A part of as many cells has as many.
part-long : {n : ℕ} (cells : List ℕ) → n ≤ length cells → n ≡ length (take n cells)
part-long {n} cells h = omega (arith, h, length-take n cells)

pub slice_bounds-fill_living-end : goal.slice_bounds-fill_living-end
slice_bounds-fill_living-end c = nations-inside _ (new _ c.requires.0) _ c.args.opened.accepted c.in-Ok.ensures

pub slice_bounds-fill_living-end-2 : goal.slice_bounds-fill_living-end-2
slice_bounds-fill_living-end-2 c = part-long _ (nations-inside _ (new _ c.requires.0) _ c.args.opened.accepted c.in-Ok.ensures)

pub slice_bounds-entries-end : goal.slice_bounds-entries-end
slice_bounds-entries-end c = entries-inside _ (new _ c.requires.0) _ c.args.opened.accepted c.in-Ok.ensures

pub slice_bounds-fill_living-end-3 : goal.slice_bounds-fill_living-end-3
slice_bounds-fill_living-end-3 c = part-long _ (entries-inside _ (new _ c.requires.0) _ c.args.opened.accepted c.in-Ok.ensures)

pub fill_living-requires : goal.fill_living-requires
fill_living-requires c =
    let z = c.args.opened.accepted in
    fits-within (rows_few _ z (nation-front _ (new _ c.requires.0) _ z c.in-Ok.ensures)) c.requires.1

pub returns-in_default : goal.returns-in_default
returns-in_default c = over _ (new _ c.requires.0) _ c.args.opened.accepted c.in_default.ensures

pub returns : goal.returns
returns c =
    let z = c.args.opened.accepted in
    let n = new _ c.requires.0 in
    let rows = c.in-Ok.ensures in (
      nations-inside _ n _ z rows,
      cells-listed _ z (nation-front _ n _ z rows) (entry-front _ n _ z rows) (limits-kept _ n _ z rows) _ _ c.fill_living.ensures,
    )
