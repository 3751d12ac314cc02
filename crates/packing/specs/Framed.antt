-- Bytes that are whole as a record, in any edition: all that is needed so that their campaign, packed, gives the same bytes again.
use Rattle.std.specs.Prelude.{◌≡◌, true, List, ℕ, ◌<◌, ◌≤◌, length, drop}
use Rattle.lists.specs.Lists.{All}
use Rattle.format.specs.Head.{head_of, strings_at}
use Rattle.format.specs.Rows.{strings_end}
use Rattle.format.specs.Campaign.{country_rows}
use Rattle.format.specs.RecordNumber.{opens, totals_agree}

-- Where the strings end, and the bytes that an edition appends behind them. (Rules 1.5, 1.11)
abbrev pub tail_at : List ℕ → ℕ
tail_at xs = strings_end xs (strings_at (head_of xs)) (head_of xs).strings

abbrev pub tail_of : List ℕ → List ℕ
tail_of xs = drop (tail_at xs) xs

-- A head; sections that stand whole; rows that count exactly what there is to own; flags without a bit that has no meaning. (Rules 2.3, 2.5, 2.8)
pub record Framed (xs : List ℕ) : Type 0 where
  pub opened : opens xs ≡ true
  pub totals : totals_agree xs ≡ true
  pub inside : tail_at xs ≤ length xs
  pub head_flags : (head_of xs).flags < 4
  pub country_flags : All (λ r. r.flags < 8) (country_rows xs)
