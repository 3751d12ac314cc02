-- A block that is read stands behind the numbers so far; where the list breaks off in it, its bytes do.
use Rattle.std.proofs.Common.{rules, subst}
use Rattle.std.specs.Io.KnownBytes.{Consumes}
use Rattle.std.proofs.KnownBytes.{Consumes-trans}
use Rattle.stored_input.proofs.NumberLaws.{on_err}
use Rattle.stored_input.proofs.BlockLaws.{block-more, fewer-bytes}
use Rattle.stored_input.proofs.numbers.U32StoredToEnd.fill_to_end.Goals as goal

pub returns-in_err-fill_block-clause-broken : goal.returns-in_err-fill_block-clause-broken
returns-in_err-fill_block-clause-broken g c =
    let part = c.in_err-fill_block.ensures.broken in
    on_err c.from_residual.result (
      _,
      fewer-bytes c.loop-at.buf _ c.fill_block.new.numbers _ c.loop-at.at (search rules) (search rules) part.1,
      Consumes-trans _ _ _ _ _ c.loop-at.invariant.1 part.2,
    )

pub loop-at-preserved : goal.loop-at-preserved
loop-at-preserved g c =
    let read = Consumes-trans _ _ _ _ _ c.loop-at.invariant.1 c.in_ok-fill_block.ensures.read in (
      search rules,
      subst (Consumes (g.R.Read.remaining c.args.list.now) (g.R.Read.remaining c.fill_block.new.list)) (block-more _ _ _ _ _ (search rules) (search rules)) read,
    )
