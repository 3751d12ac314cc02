-- No line of a count of at most four digits is longer than 25 bytes.
use Rattle.std.proofs.Common.{ℕ, ◌≤◌, ◌<◌, length, length-append, Bool, true, false, arith}
use Rattle.std.proofs.lemmas.Fmt.{length-decimal-le}
use Rattle.format.specs.declared.values.NationRow.{NationRow}
use Rattle.rules.specs.Page.{decimal}
use Rattle.pages.specs.Lines.{status_field, row_line}
use Rattle.pages.proofs.DecimalLaws.{decimal_same}
use Rattle.pages.specs.declared.lines.TheConstants.{FEW_ENTRIES, SHORT_LINE}

four-digits : (n : ℕ) → n < FEW_ENTRIES → length (decimal n) ≤ 4
four-digits n h = rw (decimal_same n (omega (arith, h))) at (length-decimal-le 4 n (omega arith) (omega (arith, h)) (omega (arith, h)))

status-short : (living : Bool) → length (status_field living) ≤ 9
status-short true = omega arith
status-short false = omega arith

pub row-short : (r : NationRow) (living : Bool) → r.count < FEW_ENTRIES → length (row_line r living) ≤ SHORT_LINE
row-short r living h = omega (arith, length-append (decimal r.count) (status_field living), four-digits r.count h, status-short living)
