-- The switch comes first or the told life, else nothing is left; behind a life the next is told.
use mathlib.Core.Path.{◌≡◌, ap, ◌∙◌}
use mathlib.Core.Bool.{true, false}
use mathlib.Core.List.{List, [], ◌∷◌}
use borrow.Author.Rules.{rules}
use lib.Dec.{leb}
use Rattle.std.specs.Prelude.{Some, None}
use Rattle.lists.proofs.ProgressLaws.{progress}
use Rattle.format.specs.declared.values.Entry.{Entry}
use Rattle.nations.specs.CountryEntries.{merged_entries, entries_left}
use Rattle.nations.proofs.MergeEntryLaws.{switch_first, first-none, first-some, switch-next, life-next, none-next, lives-before}
use Rattle.nations.proofs.country_entries.EntriesIterator.next.Goals.{After-is_none_or, After-branch-life, in-Some+else-is_none_or, in_default}
use Rattle.nations.proofs.country_entries.EntriesIterator.next.Goals as goal

-- The test of the first switch.
tested : (c : After-is_none_or) → switch_first c.args.self.now.run.now c.args.self.now.life ≡ c.is_none_or.result
tested c =
    let none : c.args.self.now.life ≡ None → c.is_none_or.result ≡ true = search rules in
    let some : (x : Entry) → c.args.self.now.life ≡ Some x → c.is_none_or.result ≡ leb c.switch_date-date.result.0 x.date.0 = search rules in
    first-some _ _ _ _ _ c.in-Some.ensures.cases.0 none (λ x e. some x e ∙ ap (λ n. leb n x.date.0) c.switch_date-date.ensures)

pub returns-then-is_none_or-clause-steps : goal.returns-then-is_none_or-clause-steps
returns-then-is_none_or-clause-steps c =
    switch-next _ _ _ _ _ _ _ _ c.in-Some.ensures.cases.0 (tested (goal.at.returns-then-is_none_or-clause-steps c).After-is_none_or ∙ c.if-is_none_or.true) c.switch_date-date.ensures c.switch_target.ensures

pub returns-then-is_none_or-clause-goes : goal.returns-then-is_none_or-clause-goes
returns-then-is_none_or-clause-goes c = progress (λ x. x) entries_left {r = Some _} (returns-then-is_none_or-clause-steps c)

-- Behind the test no switch comes first.
past : (c : After-branch-life) → switch_first c.args.self.now.run.now c.args.self.now.life ≡ false
past c = elim c.match-split_first.branch [
  | in-Some+else-is_none_or w ↦
      let none : c.args.self.now.life ≡ None → w.is_none_or.result ≡ true = search rules in
      let some : (x : Entry) → c.args.self.now.life ≡ Some x → w.is_none_or.result ≡ leb w.switch_date-date.result.0 x.date.0 = search rules in
      first-some _ _ _ _ _ w.in-Some.ensures.cases.0 none (λ x e. some x e ∙ ap (λ n. leb n x.date.0) w.switch_date-date.ensures) ∙ w.if-is_none_or.false
  | in_default w ↦ first-none _ _ w.in_default.ensures.cases
]

pub returns-in_err-life-clause-steps : goal.returns-in_err-life-clause-steps
returns-in_err-life-clause-steps c =
    let none : entries_left c.args.self.now ≡ [] = none-next _ _ _ _ c.in_err-life.was (past (goal.at.returns-in_err-life-clause-steps c).After-branch-life) in
    rw c.from_residual.ensures (none, none)

pub returns-clause-steps : goal.returns-clause-steps
returns-clause-steps c =
    life-next _ _ _ _ _ c.in_ok-life.was (past (goal.at.returns-clause-steps c).After-branch-life)
    ∙ ap (λ (lives : List Entry). c.in_ok-life.life ∷ merged_entries c.args.self.now.targets.now c.args.self.now.run.now lives)
    (lives-before c.args.self.now.lives c.next-self.new.self _ c.next-self.ensures.steps)

pub returns-clause-goes : goal.returns-clause-goes
returns-clause-goes c = progress (λ x. x) entries_left {r = Some _} (returns-clause-steps c)
