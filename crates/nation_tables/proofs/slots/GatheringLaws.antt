-- The tables of an accepted record are filled within their cells, one after the other, and together they are the cells of its campaign.
use mathlib.Core.Path.{◌≡◌, sym, ap, subst, ◌∙◌}
use mathlib.Core.List.{List, map}
use Prim.Native.Nat.{ℕ, suc, ◌+◌, ◌-◌, ◌≤◌}
use native.Mathlib.Omega.{arith}
use lib.Dec.{leb}
use lib.ListN.{length, take, length-map, length-take}
use Rattle.sorting.proofs.SortLaws.{length-sort}
use Rattle.format.specs.declared.tag.CountryTag.{CountryTag}
use Rattle.format.specs.Campaign.{Campaign, Country, campaign_of}
use Rattle.format.proofs.SoundLaws.{sound}
use Rattle.record.specs.Cursors.{countries_left, provinces_left}
use Rattle.rules.specs.Nations.{holders_of}
use Rattle.owner_changes.specs.ChangeSteps.{most_changes}
use Rattle.owner_changes.proofs.ChangeLaws.{changes-few}
use Rattle.record.specs.declared.opened.Record.{Record}
use Rattle.nation_tables.specs.declared.gathering.Sizes.{Sizes}
use Rattle.nation_tables.specs.declared.layout.LossGain.{LossGain}
use Rattle.nation_tables.specs.Layout.{most_countries, most_switches, most_settling, most_slots, rows_within, no_change}
use Rattle.nation_tables.specs.Countries.{switch_keys_from, settling_keys_from, with_own, Keyed, OwnLast}
use Rattle.nation_tables.specs.Turning.{losses, gains}
use Rattle.nation_tables.specs.Holders.{CountryTables, HoldingRoom, slot_cells, Held}
use Rattle.nation_tables.specs.Switches.{runs_from, run_keys, target_words}
use Rattle.nation_tables.specs.Gathering.{TableRoom, TablesRoom, TablesFilled, SwitchesRoom, Arranged, CampaignCells, cells_from, Gathered}
use Rattle.nation_tables.proofs.tables.KeyedLaws.{countries-few, provinces-few, switches-few, accepted-keyed, accepted-own}
use Rattle.nation_tables.proofs.tables.OwnLaws.{keyed-own}
use Rattle.nation_tables.proofs.tables.OwnKeyLaws.{settling-count}
use Rattle.nation_tables.proofs.tables.SwitchLaws.{runs-few}
use Rattle.nation_tables.proofs.slots.RoomLaws.{countries-fit, slots-fit, settling-fit, switches-fit, entered-fit, changes-fit}

-- ## An opened record

module _ (from : Record) where
  abbrev xs : List ℕ
  xs = from.bytes.now

  abbrev c : Campaign
  c = campaign_of xs

  -- Its countries, as the iterator has them.
  abbrev told : List Country
  told = countries_left from.countries

  -- There are not many.
  pub told-few : length told ≤ most_countries
  told-few = subst (λ ks. length ks ≤ most_countries) (sym from.told.countries) (countries-few xs from.accepted)

  -- Nor more than the bytes allow.
  told-fit : (m : ℕ) → rows_within most_countries (length xs) ≤ m → length told ≤ m
  told-fit m l = subst (λ ks. length ks ≤ m) (sym from.told.countries) (countries-fit xs from.accepted m l)

  -- Nor many switches.
  pub told-switches-few : length (switch_keys_from 0 told) ≤ most_switches
  told-switches-few = subst (λ ks. length (switch_keys_from 0 ks) ≤ most_switches) (sym from.told.countries) (switches-few xs from.accepted)

  told-keyed : Keyed told
  told-keyed = subst Keyed (sym from.told.countries) (accepted-keyed xs from.accepted)

  -- Nor more keys that changes settle by than the bytes allow.
  told-settling-few : (m : ℕ) → rows_within most_settling (length xs) ≤ m → length (settling_keys_from 0 told) ≤ m
  told-settling-few m l =
      subst (λ ks. length (settling_keys_from 0 ks) ≤ m) (sym from.told.countries) (settling-fit xs from.accepted m l)

  -- And so it is with switches, where changes have room.
  told-switches-fit : (m : ℕ) → rows_within most_changes (length xs) ≤ m → length (switch_keys_from 0 told) ≤ m
  told-switches-fit m l =
      subst (λ ks. length (switch_keys_from 0 ks) ≤ m) (sym from.told.countries) (switches-fit xs from.accepted m l)

  told-own : OwnLast told
  told-own = subst OwnLast (sym from.told.countries) (accepted-own xs from.accepted)

  -- They and their switches have room in keys.
  pub own-keyed : Keyed (map with_own told)
  own-keyed = keyed-own told told-keyed told-own

  -- The countries, the switches and the slots are within their cells.
  pub countries-within : (n m k : ℕ) → n ≡ length told → m ≡ k → rows_within most_countries (length xs) ≤ k → n ≤ m
  countries-within n m k e q z = let a = told-fit k z in omega arith

  pub settling-within : (n m k : ℕ) → n ≡ length (settling_keys_from 0 told) → m ≡ k → rows_within most_settling (length xs) ≤ k → n ≤ m
  settling-within n m k e q z = let a = told-settling-few k z in omega arith

  pub slots-within : (n m : ℕ) → n ≡ length (provinces_left from.provinces) → rows_within most_slots (length xs) ≤ m → n + 1 ≤ m
  slots-within n m e z = let a = slots-fit xs from.accepted m z in let b = ap length from.told.provinces in omega arith

  -- What the tables of countries ask.
  pub tables-asked : (tags : List CountryTag) (scratch initials switches : List ℕ) → rows_within most_countries (length xs) ≤ length tags
      → rows_within most_countries (length xs) ≤ length scratch → rows_within most_countries (length xs) ≤ length initials
      → rows_within most_settling (length xs) ≤ length switches → TablesRoom told tags scratch initials switches
  tables-asked tags scratch initials switches w c i s =
      record { tags = told-fit _ w; scratch = told-fit _ c; initials = told-fit _ i; switches = told-settling-few _ s }

  -- What the settling asks, in cells for any record of as many bytes.
  pub holding-room : {k s m n : ℕ} → TableRoom (length xs) k s m n → (keys cells slots started : List ℕ) (turns : List LossGain)
      → length keys ≡ n → length cells ≡ n → length slots ≡ s → length started ≡ k → length turns ≡ n → HoldingRoom xs keys cells slots started turns
  holding-room {k} {s} {m} {n} room keys cells slots started turns a b d e h =
      record {
        keys = entered-fit xs from.accepted (length keys) (omega (arith, room.changes, a));
        cells = entered-fit xs from.accepted (length cells) (omega (arith, room.changes, b));
        turns = entered-fit xs from.accepted (length turns) (omega (arith, room.changes, h));
        slots = slots-fit xs from.accepted (length slots) (omega (arith, room.slots, d));
        started = countries-fit xs from.accepted (length started) (omega (arith, room.countries, e));
      }

  -- The tables of countries and switches are filled.
  module _ (r : Sizes) (p : ℕ) (tags₁ : List CountryTag) (initials₁ switches₁ : List ℕ) (f : TablesFilled told r tags₁ initials₁ switches₁)
      (provinces : p ≡ length (provinces_left from.provinces)) where
    filled : TablesFilled c.countries r tags₁ initials₁ switches₁
    filled = subst (λ ks. TablesFilled ks r tags₁ initials₁ switches₁) from.told.countries f

    -- There is a slot more than provinces.
    slot-count : p + 1 ≡ suc (length c.provinces)
    slot-count = let b = ap length from.told.provinces in omega arith

    -- As many switches as keys but for the countries' own.
    pub own-within : r.countries ≤ r.settling
    own-within = omega (arith, settling-count 0 told, f.keyed, f.countries)

    switched : r.settling - r.countries ≡ length (switch_keys_from 0 told)
    switched = omega (arith, settling-count 0 told, f.keyed, f.countries)

    -- The countries are as many as their tags.
    pub tagged : length (take r.countries tags₁) ≡ r.countries
    tagged = ap length filled.tags ∙ length-map c.countries _ ∙ sym filled.countries

    -- The tables of its countries.
    pub country-tables : CountryTables c.countries (take r.countries tags₁) (take r.countries initials₁) (take r.settling switches₁)
    country-tables = record { tags = filled.tags; initials = filled.initials; keys = filled.switches }

    -- All changes are settled.
    module _ (n : ℕ) (keys₁ slots₁ started₁ : List ℕ) (turns₁ : List LossGain)
        (h : Held xs n keys₁ slots₁ started₁ turns₁) where
      -- There are not many.
      pub changes-within : (m k : ℕ) → m ≡ k → rows_within most_changes (length xs) ≤ k → n ≤ m
      changes-within m k e l = let a = changes-fit xs from.accepted k l in let b = h.counted in omega arith

      few-changes : n ≤ most_changes
      few-changes = let a = changes-few xs from.accepted in let b = h.counted in omega arith

      -- What `arrange` asks.
      pub arrange-asked : (runs cells : List ℕ) → rows_within most_settling (length xs) ≤ length runs → rows_within most_changes (length xs) ≤ length cells
          → SwitchesRoom told runs cells × (n ≤ no_change)
      arrange-asked runs cells a b =
          let t = told-switches-fit (length cells) b in
          let l = told-settling-few (length runs) a in
          let s = settling-count 0 told in
          let k = few-changes in (
            record { runs = omega arith; targets = omega arith },
            omega arith,
          )

      -- All is arranged, in slices as long as before.
      module _ (links firsts₁ : List LossGain) (runs₁ targets : List ℕ) (a : Arranged told n turns₁ links firsts₁ runs₁ targets)
          (firsts_room : rows_within most_countries (length xs) ≤ length firsts₁) where
        runs-there : take (r.settling - r.countries) runs₁ ≡ run_keys c.countries
        runs-there = ap (λ (m : ℕ). take m runs₁) switched ∙ a.runs ∙ ap run_keys from.told.countries

        targets-there : take (r.settling - r.countries) targets ≡ target_words c.countries
        targets-there = ap (λ (m : ℕ). take m targets) switched ∙ a.targets ∙ ap target_words from.told.countries

        few-runs : length (run_keys c.countries) ≤ most_switches
        few-runs = let e = length-sort leb (runs_from 0 0 c.countries) in let h = runs-few xs from.accepted in omega arith

        slots-there : take (p + 1) slots₁ ≡ slot_cells c (holders_of c)
        slots-there = ap (λ (m : ℕ). take m slots₁) slot-count ∙ h.slots

        -- A row of each country.
        rows-there : (l : List ℕ) → length l ≡ length firsts₁ → length c.countries ≤ length l
        rows-there l e = let k = countries-fit xs from.accepted _ firsts_room in omega arith

        -- The cells are those of the campaign.
        chronicled : CampaignCells c
            (cells_from (take r.countries tags₁) (take r.countries initials₁) (take (r.settling - r.countries) runs₁) (take (r.settling - r.countries) targets) firsts₁
            (take r.countries started₁) (take n keys₁) (take n links) from.start)
        chronicled =
            record {
              keyed = accepted-keyed xs from.accepted;
              once = (sound xs from.accepted).tags_once;
              sound = sound xs from.accepted;
              tags = filled.tags;
              initials = filled.initials;
              runs = runs-there;
              few_runs = rw runs-there few-runs;
              targets = targets-there;
              start = from.told.start;
              started = ap (λ (m : ℕ). take m started₁) filled.countries ∙ h.started;
              old_rows = losses (take n turns₁);
              new_rows = gains (take n turns₁);
              rowed = h.rowed;
              few = let l = length-take n keys₁ in let k = few-changes in omega arith;
              losses = a.linked.loss;
              gains = a.linked.gain;
              loss_rows = rows-there (losses firsts₁) (length-map firsts₁ (λ x. x.loss));
              gain_rows = rows-there (gains firsts₁) (length-map firsts₁ (λ x. x.gain));
              slots = omega (arith, provinces-few xs from.accepted);
            }

        -- So all is gathered.
        pub gathered : Gathered xs
            (record {
              start = from.start;
              countries = r.countries;
              switches = r.settling - r.countries;
              slots = p + 1;
              changes = n;
            })
            tags₁ initials₁ runs₁ keys₁ targets slots₁ started₁ links firsts₁
        gathered =
            record {
              accepted = from.accepted;
              start = from.told.start;
              countries = filled.countries;
              changes = h.counted;
              slotted = slot-count;
              switches = switched ∙ ap (λ (ks : List Country). length (switch_keys_from 0 ks)) from.told.countries;
              cells = chronicled;
              sorted = h.sorted;
              slots = slots-there;
            }
