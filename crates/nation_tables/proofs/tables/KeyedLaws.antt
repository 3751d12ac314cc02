-- A sound campaign, as an accepted record's is, meets what the tables of countries and the start holders ask.
use mathlib.Core.Path.{◌≡◌, refl, sym, ap₂, ◌∙◌}
use mathlib.Core.Bool.{true}
use mathlib.Core.List.{List, [], ◌∷◌, map}
use Prim.Native.Nat.{ℕ, suc, ◌+◌, ◌*◌, ◌≤◌, ◌<◌}
use native.Mathlib.Omega.{arith}
use borrow.Author.Tests.{lt-ltb}
use lib.Dec.{ltb}
use lib.ListN.{length, length-append, length-map}
use Rattle.lists.specs.Lists.{all_of, join_of}
use Rattle.lists.proofs.ListLaws.{all_map, all-all_of}
use Rattle.format.specs.declared.rows.Switch.{Switch}
use Rattle.format.specs.Campaign.{Country, campaign_of}
use Rattle.format.specs.RecordNumber.{refusal}
use Rattle.format.specs.Sound.{GoodSwitch, GoodCountry, GoodProvince}
use Rattle.format.proofs.SoundLaws.{sound}
pub use Rattle.format.proofs.BoundLaws.{tag_small, date-small}
use Rattle.format.proofs.BoundLaws.{date-most}
use Rattle.record.specs.Width.{row_bytes}
use Rattle.record.proofs.WidthLaws.{switches-within}
use Rattle.nation_tables.proofs.tables.OwnKeyLaws.{settling-count}
use Rattle.nation_tables.specs.Layout.{most_countries, most_switches, most_slots, most_settling, key_dates, key_tags}
use Rattle.nation_tables.specs.Countries.{switch_key, switch_keys_from, settling_keys_from, small_switch, Keyed, OwnLast}
use Rattle.nation_tables.specs.Starting.{Slotted}

switch-small : (x : Switch) → GoodSwitch x → small_switch x ≡ true
switch-small x q = simp (lt-ltb x.from.0 key_tags (tag_small x.from q.from), lt-ltb x.date.0 key_dates (date-small x.date q.date))

country-small : (k : Country) → GoodCountry k → all_of small_switch k.switches ≡ true
country-small k q = all-all_of GoodSwitch small_switch switch-small k.switches q.switches

-- A key for each switch of the countries.
keys_length : (row : ℕ) (ks : List Country) → length (switch_keys_from row ks) ≡ length (join_of (λ k. k.switches) ks)
unfolding switch_keys_from
keys_length row [] = refl
keys_length row (k ∷ ks) =
    let rest = switch_keys_from (suc row) ks in
    length-append (map (switch_key row) k.switches) rest
    ∙ ap₂ (λ (m n : ℕ). m + n) (length-map k.switches (switch_key row)) (keys_length (suc row) ks)
    ∙ sym (length-append k.switches (join_of (λ j. j.switches) ks))

module _ (xs : List ℕ) (h : refusal xs ≡ 0) where
  pub countries-few : length (campaign_of xs).countries ≤ most_countries
  countries-few = (sound xs h).few_countries

  pub provinces-few : length (campaign_of xs).provinces < most_slots
  provinces-few = omega (arith, (sound xs h).few_provinces)

  pub switches-few : length (switch_keys_from 0 (campaign_of xs).countries) ≤ most_switches
  switches-few = rw keys_length (sound xs h).few_switches

  pub accepted-keyed : Keyed (campaign_of xs).countries
  accepted-keyed =
      let l = countries-few in
      record {
        few = omega arith;
        switches = all-all_of GoodCountry (λ k. all_of small_switch k.switches) country-small (campaign_of xs).countries (sound xs h).countries;
      }

  pub accepted-own : OwnLast (campaign_of xs).countries
  accepted-own =
      let s = sound xs h in
      record {
        tags = all_map (λ k q. tag_small k.tag q.tag) (campaign_of xs).countries s.countries;
        dates = all_map (λ k q. all_map (λ x g. omega (arith, date-most x.date g.date)) k.switches q.switches) (campaign_of xs).countries s.countries;
      }

  pub settling-few : length (settling_keys_from 0 (campaign_of xs).countries) ≤ most_settling
  settling-few =
      let a = countries-few in let b = switches-few in omega (arith, settling-count 0 (campaign_of xs).countries)

  -- A key for each switch and each country.
  pub settling-bytes : row_bytes * length (settling_keys_from 0 (campaign_of xs).countries) ≤ length xs
  settling-bytes =
      let count = settling-count 0 (campaign_of xs).countries in
      omega (arith, keys_length 0 (campaign_of xs).countries, switches-within xs h)

  pub accepted-slotted : (slots : ℕ) → length (campaign_of xs).provinces < slots → Slotted slots (campaign_of xs).provinces
  accepted-slotted slots l =
      let p = sound xs h in
      record {
        ids =
            all-all_of (GoodProvince (length (campaign_of xs).provinces)) (λ q. ltb q.id.0 slots) (λ q g. lt-ltb q.id.0 slots (omega (arith, g.id)))
            (campaign_of xs).provinces p.provinces;
        once = p.ids_once;
      }
