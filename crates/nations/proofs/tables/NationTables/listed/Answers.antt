-- What the key's row and its walk tell is its nation.
use mathlib.Core.Path.{◌≡◌, sym, ap, ◌∙◌}
use borrow.Author.Tests.{not-true, not-false}
use Prim.Native.Nat.{ℕ}
use lib.ListN.{get_or}
use Rattle.nation_tables.specs.Lookup.{row_in}
use Rattle.nation_tables.specs.Holders.{no_tag}
use Rattle.nations.proofs.ListedNationLaws.{unlisted, found}
use Rattle.nations.proofs.tables.NationTables.listed.Goals as goal

pub returns-then-not-is_listed : goal.returns-then-not-is_listed
returns-then-not-is_listed c =
    let row : c.from-row.result ≡ row_in c.args.key = c.from-row.ensures ∙ c.row_in.ensures in
    unlisted _ _ _ (rw row at c.new-lives.ensures.walk) (sym c.is_listed.ensures ∙ not-true _ c.if-not-is_listed.true-raw)

pub returns : goal.returns
returns c =
    let row : c.from-row.result ≡ row_in c.args.key = c.from-row.ensures ∙ c.row_in.ensures in
    found _ _ _ (rw row at c.new-lives.ensures.walk) (sym c.is_listed.ensures ∙ not-false _ c.if-not-is_listed.false-raw) _ (rw row at c.run-run.ensures)
    _ _ (rw row at c.new-lives.ensures.lives) c.new.ensures _ _ _ c.initial_in-initial.ensures c.latest.ensures (ap (λ (i : ℕ). get_or c.args.self.now.tags.now i no_tag) row)
