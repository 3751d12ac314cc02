-- The tables are gathered in arrays that have room for them. Then the outcome by its case: a slice that is too short, or the nations, with all that the rest
-- asks.
use native.Mathlib.Omega.{arith}
use Rattle.nations.proofs.answer.AnswerLaws.{fronts-inside, fronts-readable, rest-refused, none-placed, rows-placed}
use Rattle.nations.proofs.gathered_nations.tell_nations.Goals as goal

pub returns-then-not-rest_fits : goal.returns-then-not-rest_fits
returns-then-not-rest_fits g c =
    rest-refused _ _ _ _ _ _ _ _ _ _ _ c.gather_tables-sizes.ensures c.args.fitting.fits _ _ _ _ c.rest_fits.ensures _ _ c.if-not-rest_fits.true-raw

pub place_fronts-requires : goal.place_fronts-requires
place_fronts-requires g c = (
  omega (arith, g.KEYS.fits),
  (
    fronts-inside _ _ _ _ _ _ _ _ _ _ _ c.gather_tables-sizes.ensures c.args.fitting.fits,
    fronts-readable _ _ _ _ _ _ _ _ _ _ _ c.gather_tables-sizes.ensures c.args.fitting.fits,
  ),
)

pub returns : goal.returns
returns g c =
    rows-placed _ _ _ _ _ _ _ _ _ _ _ c.gather_tables-sizes.ensures c.args.fitting.fits _ _ _ _ c.rest_fits.ensures _ _ _ _
    c.place_fronts.ensures c.if-not-rest_fits.false-raw c.in_ok-listed.was

pub returns-in_err-listed : goal.returns-in_err-listed
returns-in_err-listed g c =
    rw c.from_residual.ensures
    (none-placed _ _ _ _ _ _ _ _ _ _ _ c.gather_tables-sizes.ensures c.args.fitting.fits _ _ _ _
    c.rest_fits.ensures _ _ _ _ c.place_fronts.ensures c.in_err-listed.was)
