-- A row that was packed is read again.
use mathlib.Core.Path.{◌≡◌, refl}
use Prim.Native.Nat.{ℕ, ◌+◌, ◌-◌, ◌*◌, ◌/◌, ◌%◌, ◌≤◌}
use lib.IntN.{ℤ, pos, negsuc}
use native.Mathlib.Omega.{arith}
use borrow.Author.Tests.{lt-ltb, le-ltb}
use Rattle.format.specs.declared.tag.CountryTag.{CountryTag}
use Rattle.format.specs.declared.rows.Switch.{Switch}
use Rattle.format.specs.declared.rows.OwnerEvent.{OwnerEvent}
use Rattle.format.specs.declared.rows.WarEvent.{WarEvent}
use Rattle.format.specs.declared.rows.Point.{Point}
use Rattle.format.specs.Bytes.{le16, le32, signed32, tag_at, date_at, id_at}
use Rattle.format.specs.declared.packed.PackedCountry.{PackedCountry}
use Rattle.format.specs.declared.packed.PackedProvince.{PackedProvince}
use Rattle.format.specs.declared.packed.PackedLedger.{PackedLedger}
use Rattle.format.specs.Rows.{country_at, switch_at, province_at, owner_event_at, war_event_at, ledger_at, point_at}
use Rattle.packing.specs.Bounds.{Signed}
use Rattle.packing.specs.Packing.{word_of, country_packed, tag_packed, switch_packed, province_packed, owner_event_packed, war_packed, war_event_packed, ledger_packed, point_packed}

-- ## Numbers

pub two-back : (n : ℕ) → n % 256 + n / 256 * 256 ≡ n
two-back n = omega arith

pub four-back : (n : ℕ) → n % 256 + n / 256 % 256 * 256 + n / 65536 % 256 * 65536 + n / 16777216 * 16777216 ≡ n
four-back n = omega arith

pub three-back : (n : ℕ) → n / 65536 * 65536 + n / 256 % 256 * 256 + n % 256 ≡ n
three-back n = omega arith

pub signed-back : (z : ℤ) → Signed z → signed32 (word_of z) ≡ z
unfolding signed32
signed-back (pos n) h = simp (lt-ltb n 2147483648 h)
signed-back (negsuc n) h =
    let low : 2147483648 ≤ 4294967295 - n = omega arith in
    let back : 4294967295 - (4294967295 - n) ≡ n = omega arith in
    simp (le-ltb (4294967295 - n) 2147483648 low, back)

-- ## Rows

pub country-back : (r : PackedCountry) → Signed r.cities → country_at (country_packed r) 0 ≡ r
unfolding country_at country_packed tag_at le16 le32
country-back r h = rw (three-back r.tag.0, four-back (word_of r.cities), two-back r.previous, two-back r.switches, signed-back r.cities h) refl

pub tag-back : (t : CountryTag) → tag_at (tag_packed t) 0 ≡ t
unfolding tag_at tag_packed
tag-back t = rw (three-back t.0) refl

pub switch-back : (s : Switch) → switch_at (switch_packed s) 0 ≡ s
unfolding switch_at switch_packed tag_at date_at le32
switch-back s = rw (three-back s.from.0, four-back s.date.0) refl

pub province-back : (r : PackedProvince) → province_at (province_packed r) 0 ≡ r
unfolding province_at province_packed tag_at id_at le16
province-back r = rw (three-back r.owner.0, two-back r.id.0, two-back r.events) refl

pub owner-event-back : (e : OwnerEvent) → owner_event_at (owner_event_packed e) 0 ≡ e
unfolding owner_event_at owner_event_packed tag_at date_at le32
owner-event-back e = rw (three-back e.tag.0, four-back e.date.0) refl

pub war-back : (n : ℕ) → le16 (war_packed n) 0 ≡ n
unfolding le16 war_packed
war-back n = two-back n

pub war-event-back : (e : WarEvent) → war_event_at (war_event_packed e) 0 ≡ e
unfolding war_event_at war_event_packed tag_at date_at le32
war-event-back e = rw (three-back e.tag.0, four-back e.date.0) refl

pub ledger-back : (r : PackedLedger) → ledger_at (ledger_packed r) 0 ≡ r
unfolding ledger_at ledger_packed tag_at le16
ledger-back r = rw (three-back r.tag.0, two-back r.points) refl

pub point-back : (p : Point) → point_at (point_packed p) 0 ≡ p
unfolding point_at point_packed le16 le32
point-back p = rw (two-back p.year, four-back p.value) refl
