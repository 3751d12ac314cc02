-- What `list_nations` promises, by case.
use Rattle.std.specs.Prelude as code
use Rattle.std.specs.Prelude.{◌≡◌, Bool, List, ℕ, ◌≤◌, length, take, MatchOption}
use Rattle.format.specs.Campaign.{campaign_of}
use Rattle.rules.specs.PageOutcomes.{limits_number}
use Rattle.pages.specs.Steps.{NationsListed}

-- The nations stand at the front of the words, with their cells; or the record is past the limits.
abbrev pub PageNationsTold : List ℕ → code.Option ℕ → List ℕ → List Bool → Type 0
PageNationsTold xs r ws cells =
    MatchOption r (limits_number (campaign_of xs) ≡ 10) (λ n. (n ≤ length ws) × NationsListed xs (take n ws) cells)
