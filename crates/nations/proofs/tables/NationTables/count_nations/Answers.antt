-- There are fewer nations and entries than a word can count.
use mathlib.Core.Path.{ap}
use native.Mathlib.Omega.{arith}
use lib.ListN.{length, length-append}
use Rattle.rules.proofs.RowLaws.{all_entries}
use Rattle.nations.specs.Reading.{cells_in}
use Rattle.nations.specs.CountryEntries.{entries_left}
use Rattle.nations.specs.ListedNations.{listed_left}
use Rattle.nations.proofs.ListedNationLaws.{nations-few}
use Rattle.nations.proofs.tables.NationTables.count_nations.Goals as goal

pub overflow_add-nations : goal.overflow_add-nations
overflow_add-nations c =
    let few = nations-few (cells_in c.args.self.now) c.args.self.now.readable in
    omega (arith, few.0, c.loop-nation.invariant.nations, ap length c.in-Some.ensures.steps)

pub overflow_add-entries : goal.overflow_add-entries
overflow_add-entries c =
    let few = nations-few (cells_in c.args.self.now) c.args.self.now.readable in
    omega (
      arith,
      few.1,
      c.loop-nation.invariant.entries,
      c.len-entries.ensures,
      ap (λ ns. length (all_entries ns)) c.in-Some.ensures.steps,
      length-append (entries_left c.in-Some.nation.entries) (all_entries (listed_left c.next.new.self)),
    )
