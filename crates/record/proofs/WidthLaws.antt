-- An accepted record has no more rows than its bytes have room for, so that crates above need not know how its sections lie.
use mathlib.Core.Path.{◌≡◌}
use mathlib.Core.List.{List}
use Prim.Native.Nat.{ℕ, suc, ◌+◌, ◌*◌, ◌≤◌}
use native.Mathlib.Omega.{arith}
use lib.ListN.{length}
use Rattle.lists.specs.Lists.{join_of, sum_of}
use Rattle.format.specs.Head.{head_of, provinces_at, province_bytes}
use Rattle.format.specs.Rows.{province_at}
use Rattle.format.specs.Campaign.{province_rows, owner_events, campaign_of}
use Rattle.format.specs.RecordNumber.{refusal}
use Rattle.format.proofs.AcceptLaws.{accepted, accepted-laid}
use Rattle.format.proofs.BoundLaws.{events-bytes, switches-bytes}
use Rattle.format.proofs.CampaignLaws.{provinces-length}
use Rattle.format.proofs.RowLaws.{rows-counted}
use Rattle.record.specs.Width.{row_bytes}

module _ (xs : List ℕ) (h : refusal xs ≡ 0) where
  pub provinces-within : row_bytes * suc (length (campaign_of xs).provinces) ≤ length xs
  unfolding campaign_of
  provinces-within =
      let grouped = provinces-length (province_rows xs) (owner_events xs) in
      let counted = rows-counted (province_at xs) province_bytes xs (provinces_at (head_of xs)) (head_of xs).provinces in
      omega (arith, (accepted-laid xs (accepted xs h)).inside)

  pub events-within : row_bytes * sum_of (λ p. length p.events) (campaign_of xs).provinces ≤ length xs
  events-within = events-bytes xs h

  pub switches-within : row_bytes * (length (campaign_of xs).countries + length (join_of (λ k. k.switches) (campaign_of xs).countries)) ≤ length xs
  switches-within = switches-bytes xs h
