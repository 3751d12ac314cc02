-- Sections with so few rows that their counts add up and their ids have a mark each: none whose rows own others has more than the provinces may be.
-- No public promise cites it.
use Rattle.std.specs.Prelude.{◌≤◌, length}
use Rattle.format.specs.declared.limits.TheConstants.{MOST_PROVINCES}
use Rattle.record_check.specs.declared.sections.Sections.{Sections}

pub record FewRows (z : Sections) : Type 0 where
  pub countries : length z.countries.now ≤ MOST_PROVINCES
  pub provinces : length z.provinces.now ≤ MOST_PROVINCES
  pub wars : length z.wars.now ≤ MOST_PROVINCES
  pub ledgers : length z.ledgers.now ≤ MOST_PROVINCES
