use mathlib.Core.List.{[], ◌∷◌, map}
use native.Mathlib.Omega.{arith}
use Rattle.std.proofs.Common.{rules}
use Rattle.std.proofs.lemmas.Iterator.{YieldsList}
use Rattle.std.proofs.lemmas.Iterator.Consumers.{YieldsList-at, YieldsList-end}
use Rattle.lists.proofs.ListLaws.{map-append}
use Rattle.players.specs.declared.drafts.Draft.{Draft}
use Rattle.players.proofs.DraftLaws.{Placed, draft-placed}
use Rattle.players.proofs.ArrangeStepLaws.{wrote-none, next_named, next-wrote, wrote-all}
use Rattle.players.proofs.history_rows.write_drafts.Given.{Over}
use Rattle.players.proofs.history_rows.write_drafts.Goals.{In-Some}
use Rattle.players.proofs.history_rows.write_drafts.Goals as goal

-- The draft is the next of all.
next : (g : Over) (c : In-Some g) → Placed c.requires.ready.0 (map (λ (d : Draft). d) c.loop-draft.yielded) c.in-Some.draft
next g c =
    let road : YieldsList g.I.Iterator.next_gives (λ (d : Draft). d) c.args.drafts c.requires.ready.0 = record { runs = c.requires.ready.1 } in
    draft-placed (YieldsList-at c.into_iter-draft-iterator.ensures.into_iter_gives road) c.loop-draft.yielded _ c.loop-draft.yielded_by _ _ c.in-Some.draft c.in-Some.is c.next.ensures.steps

pub loop-draft-init : goal.loop-draft-init
loop-draft-init g c = (search rules, search rules, wrote-none _ _)

pub overflow_add-first : goal.overflow_add-first
overflow_add-first g c =
    let few = next_named _ _ _ _ _ _ _ c.loop-draft.invariant.2 _ c.requires.ready.2 (next g (goal.at.overflow_add-first g c).In-Some) in
    omega (arith, few)

pub loop-draft-preserved : goal.loop-draft-preserved
loop-draft-preserved g c =
    let wrote = next-wrote _ _ _ _ _ _ _ c.loop-draft.invariant.2 _ c.requires.ready.2 (next g (goal.at.loop-draft-preserved g c).In-Some) _ _ c.put.new.out c.finish.ensures c.to_row.ensures c.put.ensures.cells in
    (search rules, search rules, rw (map-append (λ (d : Draft). d) c.loop-draft.yielded (c.in-Some.draft ∷ [])) wrote)

pub returns : goal.returns
returns g c all y =
    let road : YieldsList g.I.Iterator.next_gives (λ (d : Draft). d) c.args.drafts all = record { runs = y } in
    let done = YieldsList-end (YieldsList-at c.into_iter-draft-iterator.ensures.into_iter_gives road) c.loop-draft.yielded _ c.loop-draft.yielded_by _ _ c.in-None.is c.next.ensures.steps in
    wrote-all _ _ _ _ _ _ _ c.loop-draft.invariant.2 done.0
