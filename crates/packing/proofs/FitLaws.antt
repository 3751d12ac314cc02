-- What bytes tell fits a record: its numbers and texts were read from their places.
use mathlib.Core.List.{List, [], ◌∷◌}
use Prim.Native.Nat.{ℕ, zero, suc, ◌+◌, ◌<◌}
use native.Mathlib.Omega.{arith}
use borrow.Author.Tests.{ltb-true, ltb-false}
use lib.Dec.{leb, ltb}
use lib.ListN.{length, get_or, take, drop, length-take}
use Rattle.lists.specs.Lists.{All}
use Rattle.lists.proofs.BoolLaws.{cases}
use Rattle.lists.proofs.ListLaws.{all_take, all_get_d}
use Rattle.format.specs.declared.tag.CountryTag.{CountryTag}
use Rattle.format.specs.declared.rows.Switch.{Switch}
use Rattle.format.specs.declared.rows.WarEvent.{WarEvent}
use Rattle.format.specs.declared.rows.Point.{Point}
use Rattle.format.specs.declared.packed.PackedCountry.{PackedCountry}
use Rattle.format.specs.declared.packed.PackedLedger.{PackedLedger}
use Rattle.format.specs.Bytes.{le16, le32, signed32}
use Rattle.format.specs.Head.{head_of, countries_at, wars_at, ledgers_at, points_at, strings_at, country_bytes, war_bytes, ledger_bytes, point_bytes}
use Rattle.format.specs.Rows.{rows_at, country_at, ledger_at, point_at, strings_from}
use Rattle.format.specs.Campaign.{country_rows, previous_tags, switch_rows, war_rows, war_events, ledger_rows, points, group_countries, group_wars, group_ledgers, campaign_of}
use Rattle.packing.specs.Bounds.{Byte, Signed, StringFits, Fits}
use Rattle.packing.proofs.WriteLaws.{Bytes}

-- What holds of each row that could be read holds of all that are.
rows-each : {A : Type 0} (P : A → Type 0) (row : ℕ → A) → ((i : ℕ) → P (row i)) → (w : ℕ) (xs : List ℕ) (at n : ℕ) → All P (rows_at row w xs at n)
unfolding rows_at
rows-each P row f w xs at zero = tt
rows-each P row f w xs at (suc n) =
    cases (leb (at + w) (length xs)) (λ h. simp h (f at, rows-each P row f w xs (at + w) n)) (λ h. simp h tt)

signed-fits : (w : ℕ) → w < 4294967296 → Signed (signed32 w)
unfolding signed32
signed-fits w h =
    cases (ltb w 2147483648)
    (λ t. simp t (ltb-true w 2147483648 t))
    (λ t. simp t (omega (arith, h, ltb-false w 2147483648 t)))

module _ (xs : List ℕ) (q : Bytes xs) where
  byte : (i : ℕ) → get_or xs i 0 < 256
  byte i = all_get_d Byte xs i 0 q (omega arith)

  word16 : (i : ℕ) → le16 xs i < 65536
  unfolding le16
  word16 i = omega (arith, byte i, byte (i + 1))

  word32 : (i : ℕ) → le32 xs i < 4294967296
  unfolding le32
  word32 i = omega (arith, byte i, byte (i + 1), byte (i + 2), byte (i + 3))

  country-cities : (i : ℕ) → Signed (country_at xs i).cities
  unfolding country_at
  country-cities i = signed-fits (le32 xs (i + 4)) (word32 (i + 4))

  ledger-points : (i : ℕ) → (ledger_at xs i).points < 65536
  unfolding ledger_at
  ledger-points i = word16 (i + 3)

  point-value : (i : ℕ) → (point_at xs i).value < 4294967296
  unfolding point_at
  point-value i = word32 (i + 2)

  strings-fit : (at n : ℕ) → All StringFits (strings_from xs at n)
  unfolding strings_from
  strings-fit at zero = tt
  strings-fit at (suc n) =
      let k : ℕ = get_or xs at 0 in
      let behind : List ℕ = drop (at + 1) xs in
      let text : StringFits (take k behind) =
      record {
        short = omega (arith, length-take k behind, byte at);
        bytes = (all_take Byte k behind (all_take Byte (at + 1) xs q).1).0;
      } in
      cases (leb (at + 1 + k) (length xs)) (λ h. simp h (text, strings-fit (at + 1 + k) n)) (λ h. simp h tt)

-- ## What rows are dealt

cities-dealt : (rs : List PackedCountry) (ps : List CountryTag) (ss : List Switch) → All (λ r. Signed r.cities) rs
    → All (λ k. Signed k.cities) (group_countries rs ps ss)
unfolding group_countries
cities-dealt [] ps ss h = tt
cities-dealt (r ∷ rs) ps ss h = (h.0, cities-dealt rs (drop r.previous ps) (drop r.switches ss) h.1)

wars-dealt : (ns : List ℕ) (es : List WarEvent) → All (λ n. n < 65536) ns → All (λ es. length es < 65536) (group_wars ns es)
unfolding group_wars
wars-dealt [] es h = tt
wars-dealt (n ∷ ns) es h = (omega (arith, length-take n es, h.0), wars-dealt ns (drop n es) h.1)

ledgers-dealt : (rs : List PackedLedger) (ps : List Point) → All (λ r. r.points < 65536) rs → All (λ l. length l.points < 65536) (group_ledgers rs ps)
unfolding group_ledgers
ledgers-dealt [] ps h = tt
ledgers-dealt (r ∷ rs) ps h = (omega (arith, length-take r.points ps, h.0), ledgers-dealt rs (drop r.points ps) h.1)

values-dealt : (rs : List PackedLedger) (ps : List Point) → All (λ p. p.value < 4294967296) ps
    → All (λ l. All (λ p. p.value < 4294967296) l.points) (group_ledgers rs ps)
unfolding group_ledgers
values-dealt [] ps h = tt
values-dealt (r ∷ rs) ps h =
    let t = all_take (λ p. p.value < 4294967296) r.points ps h in (t.0, values-dealt rs (drop r.points ps) t.1)

-- ## The campaign

pub told-fits : (xs : List ℕ) → Bytes xs → Fits (campaign_of xs)
unfolding campaign_of
told-fits xs q =
    let h = head_of xs in
    record {
      cities = cities-dealt (country_rows xs) (previous_tags xs) (switch_rows xs) (rows-each (λ r. Signed r.cities) (country_at xs) (country-cities xs q) country_bytes xs (countries_at h) h.countries);
      wars = wars-dealt (war_rows xs) (war_events xs) (rows-each (λ n. n < 65536) (le16 xs) (word16 xs q) war_bytes xs (wars_at h) h.wars);
      ledgers = ledgers-dealt (ledger_rows xs) (points xs) (rows-each (λ r. r.points < 65536) (ledger_at xs) (ledger-points xs q) ledger_bytes xs (ledgers_at h) h.ledgers);
      values = values-dealt (ledger_rows xs) (points xs) (rows-each (λ p. p.value < 4294967296) (point_at xs) (point-value xs q) point_bytes xs (points_at h) h.points);
      strings = strings-fit xs q (strings_at h) h.strings;
    }
