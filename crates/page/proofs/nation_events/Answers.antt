-- The answer by its case: the counts are written into a slice of their own, and a slice of theirs that is too short is
-- answered before anything is worked out.
use mathlib.Core.Path.{sym, ap, ◌∙◌}
use mathlib.Core.List.{[], ◌∷◌}
use Prim.Native.Nat.{ℕ}
use borrow.Author.Tests.{leb-true, leb-false}
use mir.Syntax.{w64}
use mir.Facts.{to_z-of_z}
use Rattle.format.specs.RecordNumber.{first_of}
use Rattle.page.proofs.HostLaws.{returns_of, slices-short, slices-put}
use Rattle.page.proofs.nation_events.Goals as goal
use Rattle.page.specs.Host.{number_of_counts}

pub returns-then-not-has_counts : goal.returns-then-not-has_counts
returns-then-not-has_counts c =
    let lacking = leb-false number_of_counts _ (sym c.has_counts.ensures ∙ c.if-not-has_counts.true) in
    let number = c.room_refusal.ensures ∙ ap (λ (n : ℕ). first_of (n ∷ 10 ∷ [])) c.check.ensures in
    returns_of (slices-short _ _ _ lacking number) (to_z-of_z {w = w64} (record { sfits = c.minus.type_inv }) ∙ c.minus.ensures)

pub returns-in-Ok : goal.returns-in-Ok
returns-in-Ok c =
    let room = leb-true number_of_counts _ (sym c.has_counts.ensures ∙ c.if-not-has_counts.false) in
    rw (to_z-of_z {w = w64} (record { sfits = c.put_counts.type_inv })) (slices-put _ _ room _ _ c.in-Ok.ensures _ _ c.put_counts.ensures)
