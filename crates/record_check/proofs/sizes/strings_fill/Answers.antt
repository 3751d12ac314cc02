-- Each string takes its length's byte and its bytes.
use mathlib.Core.Path.{◌≡◌, sym, ap, ◌∙◌}
use Prim.Native.Nat.{◌+◌, ◌-◌, ◌<◌}
use native.Mathlib.Omega.{arith}
use lib.ListN.{length, drop}
use Rattle.record_check.proofs.StringLaws.{filled, filled-more, filled-short, filled-none, filled-end}
use Rattle.record_check.proofs.sizes.strings_fill.Goals as goal

pub returns-in_default : goal.returns-in_default
returns-in_default c =
    sym (filled-none c.loop.rest.now (c.args.n - c.loop.counter) c.in_default.ensures.cases (omega arith)) ∙ c.loop.invariant

pub returns-in_default-split_at_checked : goal.returns-in_default-split_at_checked
returns-in_default-split_at_checked c =
    let left = c.args.n - c.loop.counter in
    let late : length c.in-Some.behind.now < c.in-Some.len.now = omega (arith, c.in_default-split_at_checked.ensures.cases, c.from.ensures) in
    sym (ap (λ l. filled l left) c.in-Some.ensures.cases.0 ∙ filled-short c.in-Some.len.now c.in-Some.behind.now left (omega arith) late)
    ∙ c.loop.invariant

pub loop-preserved : goal.loop-preserved
loop-preserved c =
    let left = c.args.n - c.loop.counter in
    let next = c.args.n - (c.loop.counter + 1) in
    let behind = c.in-Some.behind.now in
    let cut = c.in-Some-split_at_checked.ensures.cases in
    ap (λ l. filled l next) (cut.2 ∙ ap (λ k. drop k behind) c.from.ensures)
    ∙ sym (filled-more c.in-Some.len.now behind left next (omega arith) (omega (arith, cut.0, c.from.ensures)))
    ∙ sym (ap (λ l. filled l left) c.in-Some.ensures.cases.0)
    ∙ c.loop.invariant

pub returns : goal.returns
returns c =
    let none : c.args.n - c.loop.counter ≡ 0 = omega arith in
    c.is_empty.ensures ∙ sym (ap (filled c.loop.rest.now) none ∙ filled-end c.loop.rest.now) ∙ c.loop.invariant
