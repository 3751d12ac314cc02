-- The numbers are those of the bytes that were read; where the list breaks off, fewer bytes came.
use Rattle.std.proofs.Common.{◌≡◌, ◌*◌, rules, arith, length, sym, subst}
use Rattle.std.specs.Io.KnownBytes.{Consumes}
use Rattle.stored_input.proofs.NumberLaws.{length-number_bytes, on_err}
use Rattle.stored_input.proofs.BlockLaws.{numbers-told}
use Rattle.stored_input.proofs.numbers.fill_by.Goals as goal

pub returns-in_err-fill_to_end-clause-broken : goal.returns-in_err-fill_to_end-clause-broken
returns-in_err-fill_to_end-clause-broken g c =
    let part = c.in_err-fill_to_end.ensures.broken in
    let whole = length-number_bytes c.args.numbers.now in
    let as_many : length c.fill_to_end.new.buf ≡ 4 * length c.args.numbers.now = search rules in
    on_err c.from_residual.result (part.0, omega arith, part.2)

pub returns-clause-read : goal.returns-clause-read
returns-clause-read g c =
    let as_many : length c.fill_to_end.new.buf ≡ 4 * length c.put_numbers.new.numbers = search rules in
    subst (Consumes (g.R.Read.remaining c.args.list.now) (g.R.Read.remaining c.fill_to_end.new.list))
    (sym (numbers-told c.put_numbers.new.numbers c.fill_to_end.new.buf (search rules) as_many)) c.in_ok-fill_to_end.ensures.read
