-- Those with players fill the front, the leftovers that stay stand behind them.
use mathlib.Core.Path.{◌≡◌, ap, subst, ◌∙◌}
use mathlib.Core.Bool.{true}
use mathlib.Core.List.{◌++◌}
use Prim.Native.Nat.{◌+◌, ◌-◌, ◌*◌, ◌≤◌}
use native.Mathlib.Omega.{arith}
use lib.ListN.{length, take, drop, length-take, length-drop}
use Rattle.std.proofs.Common.{rules, tests}
use Rattle.std.specs.Prelude as code
use Rattle.std.specs.Slice.Iter.{iter_rest}
use Rattle.std.proofs.lemmas.Iterator.{YieldsList-from_take}
use Rattle.std.proofs.lemmas.Iterator.Consumers.{YieldsList-at}
use Rattle.std.specs.Prelude.{is_some, IfSome, Some}
use Rattle.lists.specs.Lists.{keep}
use Rattle.lists.proofs.ElementLaws.{keep-short}
use Rattle.rules.specs.Lent.{written}
use Rattle.rules.specs.HistoryRows.{history_width}
use Rattle.format.specs.declared.tag.CountryTag.{CountryTag}
use Rattle.players.specs.Drafts.{is_played, is_leftover}
use Rattle.players.specs.ArrangedDrafts.{last_initial, kept_words}
use Rattle.players.proofs.DraftLaws.{copies-kept}
use Rattle.players.proofs.ArrangeLaws.{Fronted, sum-part, sum-idle, sum-taken, kept-written, drafted-plain, drafted-popped}
use Rattle.players.proofs.history_rows.write_histories.Goals.{After-write_drafts-at, After-write_drafts}
use Rattle.players.proofs.history_rows.write_histories.Goals as goal

-- The first pass has written.
front : (c : After-write_drafts-at) → Fronted c.args.drafts.now c.args.out.now c.write_drafts-at.result c.write_drafts-at.new.out
front c =
    c.write_drafts-at.ensures _ (copies-kept _ is_played c.args.drafts.now (ap iter_rest c.copied.ensures.source ∙ c.iter.ensures.rest) c.filter-played.ensures.source c.filter-played.ensures.closure (λ x b q k. search (rules, tests))).runs

pub write_drafts-at-requires-clause-ready : goal.write_drafts-at-requires-clause-ready
write_drafts-at-requires-clause-ready c =
    let ds = c.args.drafts.now in (
      keep is_played ds,
      (copies-kept _ is_played c.args.drafts.now (ap iter_rest c.copied.ensures.source ∙ c.iter.ensures.rest) c.filter-played.ensures.source c.filter-played.ensures.closure (λ x b q k. search (rules, tests))).runs,
      record {
        many = omega (arith, keep-short is_played ds, c.requires.many);
        room = omega (arith, c.requires.room);
        few = omega (arith, sum-part is_played ds, c.requires.named, c.requires.few);
      },
    )

-- There is room behind it.
behind : (c : After-write_drafts-at) → (c.write_drafts-at.result ≤ history_width * 2000) × (c.write_drafts-at.result + history_width * c.args.kept ≤ length c.write_drafts-at.new.out)
behind c =
    let at = (front c).0 in
    (omega (arith, at, keep-short is_played c.args.drafts.now, c.requires.many), omega (arith, at, c.requires.room, c.write_drafts-at.auto.out))

pub offset_bounds-out-at : goal.offset_bounds-out-at
offset_bounds-out-at c =
    omega (arith, (behind (goal.at.offset_bounds-out-at c).After-write_drafts-at).0)

pub slice_bounds-write_drafts-count : goal.slice_bounds-write_drafts-count
slice_bounds-write_drafts-count c =
    omega (arith, (behind (goal.at.slice_bounds-write_drafts-count c).After-write_drafts-at).1)

pub slice_bounds-write_drafts-start : goal.slice_bounds-write_drafts-start
slice_bounds-write_drafts-start c =
    omega (arith, (behind (goal.at.slice_bounds-write_drafts-start c).After-write_drafts-at).1)

pub write_drafts-requires-clause-ready : goal.write_drafts-requires-clause-ready
write_drafts-requires-clause-ready c =
    let ls = keep is_leftover c.args.drafts.now in
    let f = c.filter-leftovers.ensures in
    let t = c.take.ensures in
    let room = behind (goal.at.write_drafts-requires-clause-ready c).After-write_drafts-at in (
      take c.args.kept ls,
      (YieldsList-from_take c.args.kept (YieldsList-at t.source (copies-kept _ is_leftover c.args.drafts.now (ap iter_rest c.copied-2.ensures.source ∙ c.iter-2.ensures.rest) f.source f.closure (λ x b q k. search (rules, tests)))) t.count).runs,
      record {
        many = omega (arith, length-take c.args.kept ls, keep-short is_leftover c.args.drafts.now, c.requires.many);
        room = simp (length-take, length-drop) (omega (arith, room.1));
        few = omega (arith, sum-taken c.args.kept ls, sum-idle c.args.drafts.now, c.requires.few);
      },
    )

-- Both passes have written.
wholly : (c : After-write_drafts) → Fronted c.args.drafts.now c.args.out.now c.write_drafts-at.result c.write_drafts-at.new.out
    → take c.write_drafts-at.result c.write_drafts-at.new.out
    ++ (c.write_drafts.new.out ++ drop (length c.write_drafts-at.new.out - c.write_drafts-at.result) (drop c.write_drafts-at.result c.write_drafts-at.new.out))
    ≡ written (kept_words c.args.drafts.now c.args.kept) c.args.out.now
wholly c done = let f = c.filter-leftovers.ensures in
    let t = c.take.ensures in
    kept-written c.args.drafts.now (is_some c.args.vanished) c.args.kept c.requires.left c.args.names _ c.args.out.now _ _ c.requires.named c.requires.room done
    (c.write_drafts.ensures _ (YieldsList-from_take c.args.kept (YieldsList-at t.source (copies-kept _ is_leftover c.args.drafts.now (ap iter_rest c.copied-2.ensures.source ∙ c.iter-2.ensures.rest) f.source f.closure (λ x b q k. search (rules, tests)))) t.count).runs).1

-- And the first history has taken an initial.
pub returns-in-Some : goal.returns-in-Some
returns-in-Some c =
    let at = goal.at.returns-in-Some c in
    let ds = c.args.drafts.now in
    let told : is_some c.args.vanished ≡ true = ap is_some c.in-Some.is in
    let last : c.in-Some.initial ≡ last_initial (keep is_leftover ds) =
    subst (λ (v : code.Option CountryTag). IfSome v (λ t. t ≡ last_initial (keep is_leftover ds))) c.in-Some.is c.requires.last in
    drafted-popped ds (is_some c.args.vanished) _ c.requires.left told (c.requires.sole told) _ _ _ (c.from.ensures ∙ ap (λ (t : CountryTag). t.0) last)
    (wholly at.After-write_drafts (front at.After-write_drafts-at))

pub returns-in_default : goal.returns-in_default
returns-in_default c =
    let at = goal.at.returns-in_default c in
    drafted-plain c.args.drafts.now (is_some c.args.vanished) _ c.requires.left (ap is_some c.in_default.is) _ _
    (wholly at.After-write_drafts (front at.After-write_drafts-at))
