-- The numbers so far are those of as many chunks.
use Rattle.std.proofs.Common.{◌≡◌, map, take}
use Rattle.std.specs.Int.{to_le_bytes, w32}
use Rattle.stored_input.proofs.numbers.put_numbers.Given as goal

abbrev pub invariant-loop-i : goal.invariant-loop-i
invariant-loop-i l = map (to_le_bytes w32) (take l.i l.numbers) ≡ take l.i l.chunks
