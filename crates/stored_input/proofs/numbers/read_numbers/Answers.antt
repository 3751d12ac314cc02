-- The numbers are as many as were asked for.
use Rattle.std.proofs.Common.{◌≡◌, rules, arith, length}
use Rattle.stored_input.proofs.NumberLaws.{length-number_bytes, on_err}
use Rattle.stored_input.proofs.numbers.read_numbers.Goals as goal

pub returns-in_err-fill_to_end-clause-broken : goal.returns-in_err-fill_to_end-clause-broken
returns-in_err-fill_to_end-clause-broken g c =
    let part = c.in_err-fill_to_end.ensures.broken in
    let whole = length-number_bytes c.fill_to_end.new.buf in
    let as_many : length c.fill_to_end.new.buf ≡ g.row.N = search rules in
    on_err c.from_residual.result (part.0, omega arith, part.2)
