use mathlib.Core.Path.{◌≡◌, refl, sym, ap, ◌∙◌}
use mathlib.Core.List.{◌∷◌}
use Prim.Native.Nat.{◌+◌, ◌<◌, ◌≤◌}
use native.Mathlib.Omega.{arith}
use borrow.Author.Rules.{rules}
use lib.ListN.{length, get_or}
use Rattle.lists.proofs.FillLaws.{filling-start, filling-room, filling-put, filling-next, filling-from}
use Rattle.format.specs.declared.rows.Switch.{Switch}
use Rattle.record.specs.Cursors.{switches_left, previous_left}
use Rattle.nation_tables.proofs.tables.TargetLaws.{target-chained, targets_next, told-some, told-none, chain-end, tag-first, tag-passed, length-chain}
use Rattle.nation_tables.proofs.switches.own_targets.Goals.{In-loop-country}
use Rattle.nation_tables.proofs.switches.own_targets.Goals as goal

-- the next switch
told : (c : In-loop-country) → (x : Switch) × (switches_left c.loop-country.country.switches ≡ x ∷ switches_left c.next.new.self)
told c = told-some _ _ c.next.result c.next.ensures.steps (sym c.is_some.ensures ∙ c.loop-country-test.true)

-- one switch fewer is left
fewer : (c : In-loop-country) → length (switches_left c.loop-country.country.switches) ≡ length (switches_left c.next.new.self) + 1
fewer c = omega (arith, ap length (told c).1)

-- the next target finds room
room : (c : In-loop-country) → c.loop-country.k < length c.loop-country.targets
room c = filling-room _ _ _ _ _ c.loop-country.invariant.0 _ _ (targets_next _ (told c).1)

pub loop-country-init : goal.loop-country-init
loop-country-init c = (filling-start _ _ _ (simp length-chain c.requires), refl, refl)

pub loop-country-smaller : goal.loop-country-smaller
loop-country-smaller c = omega (arith, fewer (goal.at.loop-country-smaller c).In-loop-country)

pub bounds-targets-k : goal.bounds-targets-k
bounds-targets-k c = room (goal.at.bounds-targets-k c).In-loop-country

pub loop-country-preserved : goal.loop-country-preserved
loop-country-preserved c =
    let here = (goal.at.loop-country-preserved c).In-loop-country in
    let end = get_or (previous_left c.args.country.previous) (length (switches_left c.args.country.switches)) c.args.country.tag in
    let tags = previous_left c.next-in-loop-country.new.self in
    let rest = switches_left c.next.new.self in
    let passed = tag-first _ tags _ c.next-in-loop-country.ensures.steps in
    let last : get_or tags (length rest) c.args.country.tag ≡ end =
    tag-passed (previous_left c.loop-country.country.previous) tags c.args.country.tag (length (switches_left c.loop-country.country.switches)) (length rest) passed (fewer here)
    ∙ c.loop-country.invariant.1 in
    let kept : get_or tags (length rest) c.loop-country.country.tag ≡ end = ap (get_or tags (length rest)) c.loop-country.invariant.2 ∙ last in
    (filling-put _ _ _ _ _ c.loop-country.invariant.0 _ _ (targets_next end (told here).1) _ (target-chained tags c.loop-country.country.tag end rest (c.from-in-loop-country.ensures ∙ c.from.ensures) c.first_tag.ensures kept), last, c.loop-country.invariant.2)

pub returns : goal.returns
returns c =
    let end = get_or (previous_left c.args.country.previous) (length (switches_left c.args.country.switches)) c.args.country.tag in
    let none = chain-end end (told-none _ _ c.next.result c.next.ensures.steps (sym c.is_some.ensures ∙ c.loop-country-test.false)) in
    let done = rw none at c.loop-country.invariant.0 in
    let inside : c.args.at ≤ length c.args.targets.now = search rules in
    record { behind = filling-next _ _ _ _ _ inside done; filled = filling-from _ _ _ _ _ inside done }
