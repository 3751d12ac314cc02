-- What is counted stands in the slice.
use Rattle.pages.proofs.PrintLaws.{print-inside}
use Rattle.page_main.proofs.print.Goals as goal

pub slice_bounds-write_out-end : goal.slice_bounds-write_out-end
slice_bounds-write_out-end g c = print-inside _ _ _ _ _ c.in-Ok.ensures.outcome
