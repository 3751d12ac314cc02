-- An accepted record has no more rows than its bytes allow.
use mathlib.Core.Path.{◌≡◌}
use mathlib.Core.List.{List}
use Prim.Native.Nat.{ℕ, suc, ◌≤◌}
use native.Mathlib.Omega.{arith}
use lib.ListN.{length}
use Rattle.sorting.proofs.SortLaws.{length-sort}
use Rattle.format.specs.Campaign.{campaign_of}
use Rattle.format.specs.RecordNumber.{refusal}
use Rattle.record.proofs.WidthLaws.{provinces-within}
use Rattle.rules.specs.Changes.{by_date_and_id, changes_of}
use Rattle.owner_changes.specs.ChangeSteps.{entered, most_changes}
use Rattle.owner_changes.proofs.ChangeLaws.{entered-few, entered-bytes}
use Rattle.nation_tables.specs.Layout.{most_countries, most_settling, most_slots, rows_within}
use Rattle.nation_tables.specs.Countries.{switch_keys_from, settling_keys_from}
use Rattle.nation_tables.proofs.tables.OwnKeyLaws.{settling-count}
use Rattle.nation_tables.proofs.tables.KeyedLaws.{countries-few, provinces-few, settling-few, settling-bytes}

module _ (xs : List ℕ) (h : refusal xs ≡ 0) (room : ℕ) where
  pub countries-fit : rows_within most_countries (length xs) ≤ room → length (campaign_of xs).countries ≤ room
  countries-fit l = omega (arith, countries-few xs h, settling-bytes xs h, settling-count 0 (campaign_of xs).countries)

  pub slots-fit : rows_within most_slots (length xs) ≤ room → suc (length (campaign_of xs).provinces) ≤ room
  slots-fit l = omega (arith, provinces-few xs h, provinces-within xs h)

  pub settling-fit : rows_within most_settling (length xs) ≤ room → length (settling_keys_from 0 (campaign_of xs).countries) ≤ room
  settling-fit l = omega (arith, settling-few xs h, settling-bytes xs h)

  pub switches-fit : rows_within most_changes (length xs) ≤ room → length (switch_keys_from 0 (campaign_of xs).countries) ≤ room
  switches-fit l = omega (arith, settling-few xs h, settling-bytes xs h, settling-count 0 (campaign_of xs).countries)

  pub entered-fit : rows_within most_changes (length xs) ≤ room → length (entered xs) ≤ room
  entered-fit l = omega (arith, entered-few xs h, entered-bytes xs h)

  pub changes-fit : rows_within most_changes (length xs) ≤ room → length (changes_of (campaign_of xs)) ≤ room
  unfolding changes_of
  changes-fit l = omega (arith, length-sort by_date_and_id (entered xs), entered-fit l)
