-- The numbers in their order, then the rows.
use mathlib.Core.Path.{◌≡◌, ap}
use mathlib.Core.Bool.{true}
use mathlib.Core.List.{List}
use Prim.Native.Nat.{ℕ}
use denote.Ref.{Bor}
use Rattle.std.proofs.lemmas.Result.{err_from_is_err_and}
use Rattle.format.proofs.RefusalNumberLaws.{refuses}
use Rattle.rules.specs.NationRows.{well_shaped}
use Rattle.rows.proofs.NumberedLaws.{opened_shaped}
use Rattle.resolver.proofs.ResolveEachLaws.{each-torn, each-bad, each-good, each-short, each-room, each_rows}
use Rattle.resolver.proofs.each.resolve_each.Goals.{After-questions_good}
use Rattle.resolver.proofs.each.resolve_each.Goals as goal

-- The chronicle that was opened is well shaped.
shaped : (c : After-questions_good) → well_shaped c.args.nations.now c.args.entries.now ≡ true
shaped c = opened_shaped c.args.nations.now c.args.entries.now c.in_ok-chronicle.ensures.number

-- It is what was lent.
nations : (c : After-questions_good) → c.in_ok-chronicle.chronicle.nations.now ≡ c.args.nations.now
nations c = ap (λ (b : Bor (List ℕ)). b.now) c.in_ok-chronicle.ensures.chronicle.0

entries : (c : After-questions_good) → c.in_ok-chronicle.chronicle.entries.now ≡ c.args.entries.now
entries c = ap (λ (b : Bor (List ℕ)). b.now) c.in_ok-chronicle.ensures.chronicle.1

pub returns-in_err-chronicle : goal.returns-in_err-chronicle
returns-in_err-chronicle c =
    let p = err_from_is_err_and c.from_residual.result c.from_residual.ensures.1 in
    rw (p.1, p.2) (each-torn c.args.nations.now c.args.entries.now c.args.questions.now c.args.out.now _ (refuses _) c.in_err-chronicle.ensures.number)

pub returns-then-not-questions_good : goal.returns-then-not-questions_good
returns-then-not-questions_good c =
    each-bad c.args.nations.now c.args.entries.now c.args.questions.now c.args.out.now (shaped (goal.at.returns-then-not-questions_good c).After-questions_good) _ c.questions_good.ensures c.if-not-questions_good.true-raw

pub returns-then-out-n : goal.returns-then-out-n
returns-then-out-n c =
    each-short c.args.nations.now c.args.entries.now c.args.questions.now c.args.out.now (shaped (goal.at.returns-then-out-n c).After-questions_good) _ c.questions_good.ensures c.if-not-questions_good.false-raw
    _ c.question_count-n.ensures c.if-out-n.true

pub answer_all-requires : goal.answer_all-requires
answer_all-requires c =
    let at = (goal.at.answer_all-requires c).After-questions_good in
    rw (nations at, entries at)
    record {
      shaped = shaped at;
      good = each-good c.args.nations.now c.args.entries.now c.args.questions.now c.args.out.now (shaped at) _ c.questions_good.ensures c.if-not-questions_good.false-raw _ c.question_count-n.ensures;
      room = each-room c.args.nations.now c.args.entries.now c.args.questions.now c.args.out.now (shaped at) _ c.questions_good.ensures c.if-not-questions_good.false-raw _ c.question_count-n.ensures c.if-out-n.false;
    }

pub returns : goal.returns
returns c =
    let at = (goal.at.returns c).After-questions_good in
    each_rows c.args.nations.now c.args.entries.now c.args.questions.now c.args.out.now (shaped at) _ c.questions_good.ensures c.if-not-questions_good.false-raw
    _ c.question_count-n.ensures c.if-out-n.false _ (rw (nations at, entries at) at c.answer_all.ensures)
