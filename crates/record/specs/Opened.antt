-- An opened record: refused by its number exactly when its check refuses it, else the record of these bytes.
use Rattle.std.specs.Prelude as code
use Rattle.std.specs.Prelude.{◌≡◌, List, ℕ, IfOk}
use Rattle.format.specs.declared.refused.Refusal.{Refusal}
use Rattle.format.specs.Campaign.{Campaign, campaign_of}
use Rattle.format.specs.RefusalNumber.{number_of}
use Rattle.format.specs.RecordNumber.{refusal}
use Rattle.record.specs.declared.opened.Record.{Record}

-- The campaign that a record tells.
abbrev pub campaign_in : Record → Campaign
campaign_in r = campaign_of r.bytes.now

-- What opening promises: the record's number, 0 where it is accepted, and an accepted record of these bytes. What more is known of it is told by its type.
pub record RightlyOpened (xs : List ℕ) (r : code.Result Record Refusal) : Type 0 where
  pub number : number_of r ≡ refusal xs
  pub bytes : IfOk r (λ k. k.bytes.now ≡ xs)
