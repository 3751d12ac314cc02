-- What the steps of a page start from, and come to.
use Rattle.std.specs.Prelude as code
use Rattle.std.specs.Prelude.{Ok, Err, Some, None, ◌≡◌, Bool, List, map, ℕ, ◌≤◌, length, take}
use Rattle.format.specs.declared.refused.Refusal.{Refusal}
use Rattle.format.specs.Campaign.{campaign_of}
use Rattle.format.specs.RefusalNumber.{refusal_number, number_of}
use Rattle.rules.specs.Lent.{refused, gives, Outcome}
use Rattle.rules.specs.Nations.{nations_of}
use Rattle.rules.specs.NationRows.{nation_rows_in, nation_words}
use Rattle.rules.specs.Page.{is_living}
use Rattle.rules.specs.PageOutcomes.{limits_number, page_number, call_page}

-- The record's nations, within the page's limits, as words; and a status cell for each.
pub record NationsListed (xs ws : List ℕ) (cells : List Bool) : Type 0 where
  pub limits : limits_number (campaign_of xs) ≡ 0
  pub nations : ws ≡ nation_words (nations_of (campaign_of xs))
  pub long : length (nation_rows_in ws) ≤ length cells
  pub living : take (length (nation_rows_in ws)) cells ≡ map is_living (nations_of (campaign_of xs))

-- A page that was asked for: refused, without room, or written.
abbrev pub paged_outcome : code.Result (code.Option ℕ) Refusal → List ℕ → Outcome ℕ (List ℕ)
paged_outcome (Err e) after = record { answer = refused (refusal_number e); memory = after }
paged_outcome (Ok None) after = record { answer = refused 10; memory = after }
paged_outcome (Ok (Some n)) after = record { answer = gives n; memory = after }

-- It is the outcome of the call, and refused by what refuses the page, room aside.
pub record Paged (xs selection before : List ℕ) (r : code.Result (code.Option ℕ) Refusal) (after : List ℕ) : Type 0 where
  pub number : number_of r ≡ page_number xs selection
  pub outcome : paged_outcome r after ≡ call_page xs selection before
