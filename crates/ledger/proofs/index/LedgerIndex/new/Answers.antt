use mathlib.Core.Path.{refl, sym, ap, ◌∙◌}
use lib.Dec.{leb}
use Rattle.sorting.specs.Sort.{sort_by}
use Rattle.sorting.proofs.SortedKeyLaws.{sort-again}
use Rattle.ledger.proofs.IndexLaws.{naming-start, naming-next, names-sorted, names-indexed}
use Rattle.ledger.proofs.NationLaws.{names_few, points_few}
use Rattle.ledger.proofs.index.LedgerIndex.new.Goals as goal

pub loop-number-init : goal.loop-number-init
loop-number-init g c =
    let made = c.enumerate-number-items.ensures in
    rw (c.into_iter-number-iterator.ensures.into_iter_gives, made.source, made.count)
    (naming-start _ _ _ _ _ refl (names_few c.args.opened) (points_few c.args.opened) c.requires c.told-keys c.told-places)

pub loop-number-preserved : goal.loop-number-preserved
loop-number-preserved g c =
    let steps = c.in-Some.ensures.steps in
    naming-next c.loop-number.invariant c.in-Some.row steps.0 _ _ steps.1 steps.2 _ c.tag_key.ensures _ c.len.ensures _ refl refl

pub invariant_of-result : goal.invariant_of-result
invariant_of-result g c =
    let s = names-sorted c.loop-number.invariant c.in-None.ensures.steps.0.0 c.len-names.ensures _ _ _ c.sort_keys.ensures in
    record { sorted = ap (sort_by leb) s ∙ (sort-again _ ∙ sym s) }

pub invariant_of-result-2 : goal.invariant_of-result-2
invariant_of-result-2 g c =
    let n = c.loop-number.invariant in
    let none = c.in-None.ensures.steps.0.0 in
    let all = c.len-names.ensures in
    record { indexed = names-indexed n none all _ (names-sorted n none all _ _ _ c.sort_keys.ensures) }
