-- A text of another length is no tag; of three bytes, their word is tested.
use mathlib.Core.Path.{◌≡◌, ap, ◌∙◌}
use mathlib.Core.Bool.{true, false}
use native.Mathlib.Omega.{arith}
use borrow.Author.Tests.{eq-eqb, ne_eqb}
use lib.Dec.{eqb}
use lib.ListN.{length}
use Rattle.format.specs.Tags.{created, tested}
use Rattle.format.proofs.tag.CountryTag.create.Goals as goal

pub returns-in_default : goal.returns-in_default
unfolding created
returns-in_default c =
    let other : eqb (length c.args.s.now) 3 ≡ false = ne_eqb _ _ (λ e. omega (arith, e, c.in_default.len_below)) in
    simp other

pub returns-in_default-2 : goal.returns-in_default-2
unfolding created
returns-in_default-2 c =
    let other : eqb (length c.args.s.now) 3 ≡ false = ne_eqb _ _ (λ e. omega (arith, e, c.in_default.len_at_least)) in
    simp other

pub returns : goal.returns
unfolding created tested
returns c =
    let size : length c.args.s.now ≡ 3 = omega (arith, c.in-len3.len_at_least, c.in-len3.len_below) in
    let three : eqb (length c.args.s.now) 3 ≡ true = eq-eqb _ _ size in
    simp three (c.tested.ensures ∙ ap tested c.from_bytes_unchecked.ensures)
