-- The walk over owner changes in entry order, event by event, and how many they can be.
use mathlib.Core.Path.{◌≡◌}
use mathlib.Core.Bool.{true, false}
use mathlib.Core.List.{List, [], ◌∷◌}
use Prim.Native.Nat.{ℕ, ◌*◌, ◌≤◌}
use native.Mathlib.Omega.{arith}
use lib.ListN.{length, length-append}
use Rattle.lists.specs.Lists.{join_of, sum_of}
use Rattle.lists.proofs.BoolLaws.{cases}
use Rattle.lists.proofs.ListLaws.{all_map, all_join}
use Rattle.lists.specs.Lists.{All}
use Rattle.sorting.proofs.SortLaws.{length-sort}
use Rattle.format.specs.declared.tag.CountryTag.{CountryTag}
use Rattle.format.specs.declared.rows.ProvinceId.{ProvinceId}
use Rattle.format.specs.declared.rows.OwnerEvent.{OwnerEvent}
use Rattle.record.specs.declared.provinces.Provinces.{Provinces}
use Rattle.format.specs.Tags.{same_tag}
use Rattle.format.specs.Campaign.{Province, campaign_of}
use Rattle.record.specs.Cursors.{provinces_left}
use Rattle.format.specs.RecordNumber.{refusal}
use Rattle.format.proofs.BoundLaws.{small-provinces, few-events}
use Rattle.record.specs.Width.{row_bytes}
use Rattle.record.proofs.WidthLaws.{events-within}
use Rattle.rules.specs.Changes.{changes_from, province_changes, by_date_and_id, changes_of}
use Rattle.owner_changes.specs.ChangeSteps.{changes_ahead, entered, most_changes}
pub use Rattle.owner_changes.specs.ChangeSteps.{Narrow}
use Rattle.rules.proofs.CampaignLaws.{all-changes}

-- ## One step of the walk

-- A slot whose events left are `es`.
module _ (id : ProvinceId) (owner : CountryTag) {es rest : List OwnerEvent} {e : OwnerEvent} (more : es ≡ e ∷ rest) where
  -- The next one gives it to the tag that it has.
  pub walk_same : same_tag owner e.tag ≡ true → changes_from id owner es ≡ changes_from id e.tag rest
  unfolding changes_from
  walk_same t = rw more (simp t)

  -- The next one gives it to another: it then has the event's tag.
  pub walk-change : same_tag owner e.tag ≡ false → changes_from id owner es ≡ record { date = e.date; id = id; from = owner; to = e.tag } ∷ changes_from id e.tag rest
  unfolding changes_from
  walk-change t = rw more (simp t)

-- A slot has no event left.
pub walk-end : (id : ProvinceId) (owner : CountryTag) (es : List OwnerEvent) → es ≡ [] → changes_from id owner es ≡ []
unfolding changes_from
walk-end id owner es e = rw e

-- ## How many changes

slot-few : (id : ProvinceId) (tag : CountryTag) (es : List OwnerEvent) → length (changes_from id tag es) ≤ length es
unfolding changes_from
slot-few id tag [] = omega arith
slot-few id tag (e ∷ es) =
    cases (same_tag tag e.tag)
    (λ t. simp t (omega (arith, slot-few id e.tag es)))
    (λ t. simp t (omega (arith, slot-few id e.tag es)))

all-few : (ps : List Province) → length (join_of province_changes ps) ≤ sum_of (λ p. length p.events) ps
all-few [] = omega arith
all-few (p ∷ ps) =
    omega (arith, length-append (province_changes p) (join_of province_changes ps), slot-few p.id p.owner p.events, all-few ps)

-- No more changes are ahead than the provinces left have owner events.
pub ahead_within : (c : Provinces) → length (changes_ahead c) ≤ sum_of (λ p. length p.events) (provinces_left c)
ahead_within c = all-few (provinces_left c)

pub entered-few : (xs : List ℕ) → refusal xs ≡ 0 → length (entered xs) ≤ most_changes
entered-few xs h = omega (arith, all-few (campaign_of xs).provinces, few-events xs h)

-- A change is of an owner event.
pub entered-bytes : (xs : List ℕ) → refusal xs ≡ 0 → row_bytes * length (entered xs) ≤ length xs
entered-bytes xs h = omega (arith, all-few (campaign_of xs).provinces, events-within xs h)

pub changes-few : (xs : List ℕ) → refusal xs ≡ 0 → length (changes_of (campaign_of xs)) ≤ most_changes
unfolding changes_of
changes-few xs h = omega (arith, length-sort by_date_and_id (entered xs), entered-few xs h)

-- ## How large their numbers are

pub entered-narrow : (xs : List ℕ) → refusal xs ≡ 0 → All Narrow (entered xs)
entered-narrow xs h =
    all_join Narrow province_changes
    (λ p s. all-changes Narrow p.id p.owner p.events
    (all_map (λ e b from. record { id = omega (arith, s.id); to = omega (arith, b.tag) }) p.events s.events))
    (campaign_of xs).provinces (small-provinces xs h)
