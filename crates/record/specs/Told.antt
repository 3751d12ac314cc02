-- What the fields of an opened record tell of its campaign: flags, dates, and of each section an iterator that has left exactly the campaign's rows.
use Rattle.std.specs.Prelude.{◌≡◌, Bool}
use Rattle.format.specs.declared.date.Eu4Date.{Eu4Date}
use Rattle.format.specs.Campaign.{Campaign}
use Rattle.record.specs.declared.cursors.Countries.{Countries}
use Rattle.record.specs.declared.cursors.Wars.{Wars}
use Rattle.record.specs.declared.ledger.Ledgers.{Ledgers}
use Rattle.record.specs.declared.provinces.Provinces.{Provinces}
use Rattle.record.specs.declared.texts.Strings.{Strings}
use Rattle.record.specs.Cursors.{countries_left, provinces_left, wars_left, ledgers_left, strings_left}

pub record Told (c : Campaign) (ironman₀ multiplayer₀ : Bool) (start₀ current₀ : Eu4Date) (countries₀ : Countries) (provinces₀ : Provinces) (wars₀ : Wars) (ledgers₀ : Ledgers) (strings₀ : Strings) : Type 0 where
  pub ironman : ironman₀ ≡ c.ironman
  pub multiplayer : multiplayer₀ ≡ c.multiplayer
  pub start : start₀ ≡ c.start
  pub current : current₀ ≡ c.current
  pub countries : countries_left countries₀ ≡ c.countries
  pub provinces : provinces_left provinces₀ ≡ c.provinces
  pub wars : wars_left wars₀ ≡ c.wars
  pub ledgers : ledgers_left ledgers₀ ≡ c.ledgers
  pub strings : strings_left strings₀ ≡ c.strings
