-- What the rows left share: as many as they count, so that all of it is theirs, each having its part in front of those behind it.
use mathlib.Core.Path.{◌≡◌, refl, sym, ap, ◌∙◌}
use mathlib.Core.Bool.{◌&&◌}
use mathlib.Core.List.{List, [], ◌∷◌, ◌++◌}
use Prim.Native.Nat.{ℕ}
use native.Mathlib.Omega.{arith}
use borrow.Author.Tests.{eqb-true}
use lib.Dec.{eqb}
use lib.ListN.{length, take, drop, length-take, length-drop}
use Rattle.std.proofs.lemmas.List.{take-append-drop}
use Rattle.lists.specs.Lists.{join_of, sum_of}
use Rattle.lists.proofs.BoolLaws.{and_left, and_right}
use Rattle.format.specs.declared.rows.OwnerEvent.{OwnerEvent}
use Rattle.format.specs.declared.rows.Point.{Point}
use Rattle.format.specs.declared.packed.PackedProvince.{PackedProvince}
use Rattle.format.specs.declared.packed.PackedLedger.{PackedLedger}
use Rattle.format.specs.Head.{head_of, within_limits, events_at, points_at, owner_event_bytes, point_bytes}
use Rattle.format.specs.Rows.{owner_event_at, point_at}
use Rattle.format.specs.Campaign.{country_rows, province_rows, war_rows, ledger_rows, owner_events, points, group_provinces, group_ledgers}
use Rattle.format.specs.RecordNumber.{refusal, totals_agree, length_agrees, sizes_agree}
use Rattle.format.proofs.AcceptLaws.{accepted, accepted-laid}
use Rattle.format.proofs.RowLaws.{rows_all}

-- ## A row that is given takes its part away

pub events_rest : (rows : List PackedProvince) (row : PackedProvince) (rest : List PackedProvince) (all left : List OwnerEvent)
    → sum_of (λ r. r.events) rows ≡ length all → rows ≡ row ∷ rest → left ≡ drop row.events all → sum_of (λ r. r.events) rest ≡ length left
events_rest rows row rest all left h e q =
    omega (arith, h, ap (sum_of (λ (r : PackedProvince). r.events)) e, ap length q, length-drop row.events all)

pub points_rest : (rows : List PackedLedger) (row : PackedLedger) (rest : List PackedLedger) (all left : List Point)
    → sum_of (λ r. r.points) rows ≡ length all → rows ≡ row ∷ rest → left ≡ drop row.points all → sum_of (λ r. r.points) rest ≡ length left
points_rest rows row rest all left h e q =
    omega (arith, h, ap (sum_of (λ (r : PackedLedger). r.points)) e, ap length q, length-drop row.points all)

-- ## All of it is theirs

pub events_shared : (rs : List PackedProvince) (es : List OwnerEvent) → sum_of (λ r. r.events) rs ≡ length es
    → length es ≡ sum_of (λ p. length p.events) (group_provinces rs es)
unfolding group_provinces
events_shared [] es h = sym h
events_shared (r ∷ rs) es h =
    omega (arith, h, length-take r.events es, length-drop r.events es, events_shared rs (drop r.events es) (omega (arith, h, length-drop r.events es)))

pub points_shared : (rs : List PackedLedger) (ps : List Point) → sum_of (λ r. r.points) rs ≡ length ps
    → ps ≡ join_of (λ l. l.points) (group_ledgers rs ps)
unfolding group_ledgers
points_shared [] [] h = refl
points_shared [] (p ∷ ps) h = absurd (omega (arith, h))
points_shared (r ∷ rs) ps h =
    sym (take-append-drop r.points ps)
    ∙ ap (λ (l : List Point). take r.points ps ++ l) (points_shared rs (drop r.points ps) (omega (arith, h, length-drop r.points ps)))

-- ## The rows of an accepted record

module _ (xs : List ℕ) (h : refusal xs ≡ 0) where
  -- as many as the head says
  totals : (sum_of (λ r. r.events) (province_rows xs) ≡ (head_of xs).events) × (sum_of (λ r. r.points) (ledger_rows xs) ≡ (head_of xs).points)
  unfolding sizes_agree totals_agree
  totals =
      let all = and_right (within_limits (head_of xs)) (totals_agree xs) (and_left (within_limits (head_of xs) && totals_agree xs) (length_agrees xs) (accepted xs h).sizes) in
      let countries =
      eqb (sum_of (λ r. r.previous) (country_rows xs)) (head_of xs).previous && eqb (sum_of (λ r. r.switches) (country_rows xs)) (head_of xs).switches in
      let events = eqb (sum_of (λ r. r.events) (province_rows xs)) (head_of xs).events in
      let wars = eqb (sum_of (λ n. n) (war_rows xs)) (head_of xs).war_events in
      let ledgers = eqb (sum_of (λ r. r.points) (ledger_rows xs)) (head_of xs).points in (
        eqb-true _ (head_of xs).events (and_right countries events (and_left (countries && events) wars (and_left (countries && events && wars) ledgers all))),
        eqb-true _ (head_of xs).points (and_right (countries && events && wars) ledgers all),
      )

  pub events_counted : sum_of (λ r. r.events) (province_rows xs) ≡ length (owner_events xs)
  events_counted =
      totals.0
      ∙ sym (rows_all (owner_event_at xs) owner_event_bytes xs (events_at (head_of xs)) (head_of xs).events (omega (arith, (accepted-laid xs (accepted xs h)).inside)))

  pub points_counted : sum_of (λ r. r.points) (ledger_rows xs) ≡ length (points xs)
  points_counted =
      totals.1
      ∙ sym (rows_all (point_at xs) point_bytes xs (points_at (head_of xs)) (head_of xs).points (omega (arith, (accepted-laid xs (accepted xs h)).inside)))
