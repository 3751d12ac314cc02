-- So many changes have room if they are not more than the whole rows of the slice.
use mathlib.Core.Path.{ap}
use mathlib.Core.Bool.{◌&&◌}
use lib.Dec.{leb}
use Rattle.nations.proofs.answer.FrontLaws.{changes-by}
use Rattle.nations.proofs.slots_and_changes.rest_fits.Goals as goal

pub returns : goal.returns
returns c = ap (λ b. (leb c.args.sizes.slots c.args.room.holders && leb c.args.sizes.countries c.args.room.held) && b) (changes-by c.args.sizes.changes c.args.room.changes)
