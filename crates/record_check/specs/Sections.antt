-- The rows of each section as they stand in the bytes, against the sections of a head by the rules.
use Rattle.std.specs.Prelude.{◌≡◌, List, ℕ, ◌*◌, ◌≤◌, length, drop, map}
use Rattle.std.specs.Simd.{first_chunks}
use Rattle.format.specs.declared.head.Head.{Head}
use Rattle.format.specs.Bytes.{le16, tag_at}
use Rattle.format.specs.Head.{countries_at, previous_at, switches_at, provinces_at, events_at, wars_at, war_events_at, ledgers_at, points_at, strings_at, country_bytes, previous_bytes, switch_bytes, province_bytes, owner_event_bytes, war_bytes, war_event_bytes, ledger_bytes, point_bytes}
use Rattle.format.specs.Rows.{rows_at, country_at, switch_at, province_at, owner_event_at, war_event_at, ledger_at, point_at}
use Rattle.record_check.specs.declared.sections.Sections.{Sections}

-- Each row that stands in the bytes tells what the rules read at its offset, and the strings follow the points.
pub record SectionsOf (xs : List ℕ) (h : Head) (z : Sections) : Type 0 where
  pub countries : map (λ row. country_at row 0) z.countries.now ≡ rows_at (country_at xs) country_bytes xs (countries_at h) h.countries
  pub previous : map (λ row. tag_at row 0) z.previous.now ≡ rows_at (tag_at xs) previous_bytes xs (previous_at h) h.previous
  pub switches : map (λ row. switch_at row 0) z.switches.now ≡ rows_at (switch_at xs) switch_bytes xs (switches_at h) h.switches
  pub provinces : map (λ row. province_at row 0) z.provinces.now ≡ rows_at (province_at xs) province_bytes xs (provinces_at h) h.provinces
  pub events : map (λ row. owner_event_at row 0) z.events.now ≡ rows_at (owner_event_at xs) owner_event_bytes xs (events_at h) h.events
  pub wars : map (λ row. le16 row 0) z.wars.now ≡ rows_at (le16 xs) war_bytes xs (wars_at h) h.wars
  pub war_events : map (λ row. war_event_at row 0) z.war_events.now ≡ rows_at (war_event_at xs) war_event_bytes xs (war_events_at h) h.war_events
  pub ledgers : map (λ row. ledger_at row 0) z.ledgers.now ≡ rows_at (ledger_at xs) ledger_bytes xs (ledgers_at h) h.ledgers
  pub points : map (λ row. point_at row 0) z.points.now ≡ rows_at (point_at xs) point_bytes xs (points_at h) h.points
  pub strings : z.strings.now ≡ drop (strings_at h) xs
  pub inside : strings_at h ≤ length xs

-- The first n rows of a width are cut from some bytes, and the others are behind them.
abbrev pub RowsCut : ℕ → ℕ → List ℕ → List (List ℕ) → List ℕ → Type 0
RowsCut width n xs rows rest = (width * n ≤ length xs) × (rows ≡ first_chunks width n xs) × (rest ≡ drop (width * n) xs)
