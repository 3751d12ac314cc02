-- How many rows are left that own others: as many as their section has left, whatever they own.
use Rattle.format.proofs.CampaignLaws.{countries-length, provinces-length, ledgers-length}

pub ruleset counts = (countries-length, provinces-length, ledgers-length)
