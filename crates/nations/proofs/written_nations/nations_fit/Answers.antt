-- So many rows have room if they are not more than the whole rows of the slice.
use mathlib.Core.Path.{ap₂}
use mathlib.Core.Bool.{◌&&◌}
use Rattle.nations.proofs.NationRoomLaws.{nations-by, entries-by}
use Rattle.nations.proofs.written_nations.nations_fit.Goals as goal

pub returns : goal.returns
returns c = ap₂ (λ a b. a && b) (nations-by c.args.listed.nations c.args.nations) (entries-by c.args.listed.entries c.args.entries)
