-- The walk over the joinings, event by event, and how many an accepted record has.
use mathlib.Core.Path.{◌≡◌, refl, ap}
use mathlib.Core.List.{List, [], ◌∷◌}
use Prim.Native.Nat.{ℕ, suc, ◌+◌, ◌≤◌, ◌<◌}
use native.Mathlib.Omega.{arith}
use borrow.Author.Tests.{le-leb, lt-leb}
use lib.Dec.{leb}
use lib.ListN.{length, length-append, length-map}
use Rattle.lists.specs.Lists.{All, keep, join_of, sum_of}
use Rattle.lists.proofs.ListLaws.{all_keep, all_append, all_of_map}
use Rattle.lists.proofs.ElementLaws.{keep-short}
use Rattle.format.specs.declared.rows.WarEvent.{WarEvent}
use Rattle.format.specs.Campaign.{campaign_of}
use Rattle.format.specs.RecordNumber.{refusal}
use Rattle.format.specs.Sound.{GoodWarEvent}
use Rattle.format.proofs.BoundLaws.{date-small}
use Rattle.format.proofs.SoundLaws.{sound}
use Rattle.std.specs.Prelude as code
use Rattle.std.specs.Prelude.{Some, None}
use Rattle.record.specs.declared.opened.Record.{Record}
use Rattle.record.specs.Opened.{campaign_in}
use Rattle.std.specs.Iterator.{YieldsFirstBy}
use Rattle.record.specs.declared.cursors.Wars.{Wars}
use Rattle.record.specs.Cursors.{WarEvents, war_events_left, wars_left}
use Rattle.bookings.specs.AtHand.{wars_told}
use Rattle.format.specs.declared.values.Joining.{Joining}
use Rattle.rules.specs.Bookings.{war_joinings, joinings_from, joinings_of}
use Rattle.bookings.specs.Passes.{GoodJoining}

-- ## One step

-- A step for each event that the wars have, and one more for each war.
abbrev pub war_steps : List (List WarEvent) → ℕ
war_steps ws = sum_of (λ es. length es + 1) ws

module _ (war : ℕ) (es : List WarEvent) (ws : List (List WarEvent)) where
  -- The war at hand has no event left.
  pub step-on : joinings_from war ([] ∷ ws) ≡ joinings_from (war + 1) ws
  unfolding joinings_from
  step-on = let e : war + 1 ≡ suc war = omega arith in rw e refl

  -- It has one that adds nobody, or one that adds a tag.
  pub step-past : (e : WarEvent) → 1 < e.kind → joinings_from war ((e ∷ es) ∷ ws) ≡ joinings_from war (es ∷ ws)
  unfolding joinings_from
  step-past e h = simp (lt-leb e.kind 1 h)

  pub step-joining : (e : WarEvent) → e.kind ≤ 1 → joinings_from war ((e ∷ es) ∷ ws) ≡ record { war = war; date = e.date; tag = e.tag } ∷ joinings_from war (es ∷ ws)
  unfolding joinings_from
  step-joining e h = simp (le-leb e.kind 1 h)

-- No war is at hand.
pub walk_none : (war : ℕ) (at : code.Option WarEvents) (wars : Wars) → ((events : WarEvents) → at ≡ Some events → ⊥) → joinings_from war (wars_told at wars) ≡ []
unfolding joinings_from
walk_none war None wars h = refl
walk_none war (Some events) wars h = absurd (h events refl)

pub nowhere : (war : ℕ) → joinings_from war [] ≡ []
unfolding joinings_from
nowhere war = refl

-- The next war comes to hand.
pub wars-next : (old : Wars) (r : code.Option WarEvents) (new : Wars) → YieldsFirstBy war_events_left wars_left old r new → wars_left old ≡ wars_told r new
wars-next old (Some events) new h = h
wars-next old None new h = h.0

-- ## The joinings of an accepted record

joinings-few : (war : ℕ) (ws : List (List WarEvent)) → length (joinings_from war ws) ≤ length (join_of (λ es. es) ws)
unfolding joinings_from
joinings-few war [] = omega arith
joinings-few war (es ∷ rest) =
    let kept : List WarEvent = keep (λ e. leb e.kind 1) es in
    omega (
      arith,
      length-append (war_joinings war es) (joinings_from (suc war) rest),
      length-map {B = Joining} kept (λ e. record { war = war; date = e.date; tag = e.tag }),
      keep-short (λ e. leb e.kind 1) es,
      length-append es (join_of (λ l. l) rest),
      joinings-few (suc war) rest,
    )

joinings-good : (war : ℕ) (ws : List (List WarEvent)) → All (λ es. All GoodWarEvent es) ws → All GoodJoining (joinings_from war ws)
unfolding joinings_from
joinings-good war [] q = tt
joinings-good war (es ∷ rest) q =
    all_append GoodJoining (war_joinings war es) (joinings_from (suc war) rest)
    (all_of_map GoodJoining (λ e. record { war = war; date = e.date; tag = e.tag })
    (λ e g. record { tag = g.tag; date = date-small e.date g.date }) (keep (λ e. leb e.kind 1) es)
    (all_keep GoodWarEvent (λ e. leb e.kind 1) es q.0))
    (joinings-good (suc war) rest q.1)

-- The joinings of the wars that the record tells.
module _ (xs : List ℕ) (accepted : refusal xs ≡ 0) (ws : List (List WarEvent)) (told : ws ≡ (campaign_of xs).wars) where
  pub wars-few : length ws ≤ 4294967295
  wars-few = let s = sound xs accepted in omega (arith, ap length told, s.few_wars)

  pub all-good : All GoodJoining (joinings_from 0 ws)
  all-good = rw told (joinings-good 0 (campaign_of xs).wars (sound xs accepted).wars)

pub few-joinings : (xs : List ℕ) → refusal xs ≡ 0 → length (joinings_of (campaign_of xs)) ≤ 100000
few-joinings xs h = let s = sound xs h in omega (arith, joinings-few 0 (campaign_of xs).wars, s.few_war_events)

-- The record's facts, of the wars of one that was opened.
module _ (r : Record) where
  pub wars-fit : length (wars_left r.wars) ≤ 4294967295
  wars-fit = wars-few r.bytes.now r.accepted (wars_left r.wars) r.told.wars

  pub joinings-told : joinings_from 0 (wars_left r.wars) ≡ joinings_of (campaign_in r)
  joinings-told = ap (joinings_from 0) r.told.wars

  pub told-few : (left : List Joining) → left ≡ joinings_of (campaign_in r) → length left ≤ 100000
  told-few left e = omega (arith, ap length e, few-joinings r.bytes.now r.accepted)

  pub told-good : (left : List Joining) → left ≡ joinings_of (campaign_in r) → All GoodJoining left
  told-good left e = rw (e, ← joinings-told) (all-good r.bytes.now r.accepted (wars_left r.wars) r.told.wars)
