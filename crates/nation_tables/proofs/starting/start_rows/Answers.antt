-- The row of `---` in each slot, then each province's owner in its own.
use Rattle.std.proofs.Common.{◌≡◌, ap, ◌∙◌, length}
use Rattle.nation_tables.specs.Layout.{row_number}
use Rattle.nation_tables.proofs.slots.StartingLaws.{started}
use Rattle.nation_tables.proofs.starting.start_rows.Goals as goal

pub put_owners-requires : goal.put_owners-requires
put_owners-requires c = let long : length c.fill.new.self ≡ length c.args.rows.now = c.fill.ensures.len in rw long c.requires.ids

pub returns : goal.returns
returns c = started _ _ _ c.requires _ _ _ (c.row_number.ensures ∙ ap row_number c.mapped_row.ensures) (c.fill.ensures.after (λ y e. e)) c.put_owners.ensures
