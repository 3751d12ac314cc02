-- Switches and lives are counted by themselves.
use Rattle.std.proofs.Common.{◌≡◌, [], ◌∷◌, length, refl, inl, arith}
use Rattle.std.proofs.lemmas.Iterator.Consumers.{YieldsList-from_first, count_from_yields_List}
use Rattle.nations.specs.CountryLives.{lives_left}
use Rattle.nations.proofs.WalkLaws.{lives-short}
use Rattle.nations.proofs.MergeEntryLaws.{length-entries-left}
use Rattle.nations.proofs.country_entries.Entries.len.Goals.{After-count}
use Rattle.nations.proofs.country_entries.Entries.len.Goals as goal

pub count-requires-clause-fits : goal.count-requires-clause-fits
count-requires-clause-fits c = inl (omega (arith, lives-short c.args.self.lives))

counted : (c : After-count) → c.count.result ≡ length (lives_left c.args.self.lives)
counted c = count_from_yields_List _ _ c.count.ensures.ran (YieldsList-from_first (λ x. x) lives_left _ refl)

pub overflow_add-result-in-Some : goal.overflow_add-result-in-Some
overflow_add-result-in-Some c = omega (arith, c.ranges.self, counted c, lives-short c.args.self.lives)

pub returns-in-Some : goal.returns-in-Some
returns-in-Some c =
    let e = c.args.self in
    rw c.in-Some.is (omega (arith, counted c, length-entries-left e.targets.now e.run.now (c.in-Some.field-0 ∷ lives_left e.lives)))

pub returns-in-None : goal.returns-in-None
returns-in-None c = let e = c.args.self in rw c.in-None.is (omega (arith, length-entries-left e.targets.now e.run.now []))
