-- The loss by itself tells Annexed exactly where no slot is left.
use mathlib.Core.Path.{ap, ◌∙◌}
use native.Mathlib.Omega.{arith}
use lib.ListN.{get_or}
use Rattle.nation_tables.specs.Turning.{key_date}
use Rattle.nations.specs.CountryLives.{walk_in}
use Rattle.nations.proofs.WalkLaws.{loss-told, loss-silent, linked-loss}
use Rattle.nations.proofs.country_lives.Lives.lose_slot.Goals as goal

pub returns-then-self-gt0 : goal.returns-then-self-gt0
returns-then-self-gt0 c =
    let l = c.args.self.now in
    let t = loss-silent _ _ _ _ l.chained (walk_in l) c.requires.0 c.requires.1 _ _ (linked-loss _ _ _ c.from-k.ensures) c.saturating_sub-self.ensures c.if-self-gt0.true in
    record { told = t.0; less = t.1 }

pub returns : goal.returns
returns c =
    let l = c.args.self.now in
    let t =
    loss-told _ _ _ _ l.chained (walk_in l) c.requires.0 c.requires.1 _ _ (linked-loss _ _ _ c.from-k.ensures) c.saturating_sub-self.ensures
    _ (c.change_date.ensures ∙ ap (λ k. key_date (get_or l.keys.now k 0)) c.from-k.ensures) (omega (arith, c.if-self-gt0.false)) in
    record { told = t.0; less = t.1 }
