-- The gain by itself tells Appeared exactly where the test holds.
use mathlib.Core.Path.{◌≡◌, ap, ◌∙◌}
use native.Mathlib.Omega.{arith}
use lib.ListN.{get_or}
use Rattle.nation_tables.specs.Turning.{key_date}
use borrow.Author.Rules.{rules}
use Rattle.format.specs.Dates.{earlier}
use Rattle.nations.specs.CountryLives.{walk_in}
use Rattle.nations.proofs.WalkLaws.{gain-told, gain-silent, linked-gain}
use Rattle.nations.proofs.country_lives.Lives.gain_slot.Goals.{After-lt}
use Rattle.nations.proofs.country_lives.Lives.gain_slot.Goals as goal

-- The order of dates is that of the definitions.
before : (c : After-lt) → c.lt.result ≡ earlier c.args.self.now.start c.change_date-date.result
before c = search rules

pub returns-then-appears : goal.returns-then-appears
returns-then-appears c =
    let l = c.args.self.now in
    let t =
    gain-told _ _ _ _ l.chained (walk_in l) c.requires.0 c.requires.1 _ (linked-gain _ _ _ c.from-k.ensures)
    _ (c.change_date-date.ensures ∙ ap (λ k. key_date (get_or l.keys.now k 0)) c.from-k.ensures) (rw (before (goal.at.returns-then-appears c).After-lt) at c.if-appears.true) in
    record { told = t.0; less = t.1 }

pub returns : goal.returns
returns c =
    let l = c.args.self.now in
    let t =
    gain-silent _ _ _ _ l.chained (walk_in l) c.requires.0 c.requires.1 _ (linked-gain _ _ _ c.from-k.ensures)
    _ (c.change_date-date.ensures ∙ ap (λ k. key_date (get_or l.keys.now k 0)) c.from-k.ensures) (rw (before (goal.at.returns c).After-lt) at c.if-appears.false) in
    record { told = t.0; less = t.1 }

pub invariant_of-self : goal.invariant_of-self
invariant_of-self c =
    let l = c.args.self.now in
    let linked = linked-gain l.turns.now _ _ c.from-k.ensures in
    record { chained = l.chained; light = omega (arith, l.light, l.chained.news_rise l.next.gain c.requires.0, linked) }
