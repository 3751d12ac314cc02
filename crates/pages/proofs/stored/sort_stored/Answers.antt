-- There are as many keys as rows, and they are sorted in their place.
use native.Mathlib.Omega.{arith}
use Rattle.std.proofs.Common.{sym, ◌∙◌}
use Rattle.std.proofs.lemmas.List.{length-map}
use Rattle.pages.proofs.StoredLaws.{tags-left, count-left, count-tags, keys-sorted, sorted-again}
use Rattle.pages.proofs.stored.sort_stored.Goals as goal

pub fill_stored-requires : goal.fill_stored-requires
fill_stored-requires c = omega (arith, c.requires, count-tags c.args.nations.now _ c.new-nations.ensures)

pub slice_bounds-keys-end : goal.slice_bounds-keys-end
slice_bounds-keys-end c = omega (arith, c.len.ensures, c.requires, count-left c.args.nations.now _ c.new-nations.ensures)

pub invariant_of-result : goal.invariant_of-result
invariant_of-result c = record { sorted = sorted-again _ _ c.sort_keys.ensures.keys }

pub returns : goal.returns
returns c =
    keys-sorted c.args.nations.now _ _ _ _ _ (tags-left c.args.nations.now _ c.new-nations.ensures)
    (c.len.ensures ∙ sym (length-map _ _)) c.fill_stored.ensures c.sort_keys.ensures.keys
