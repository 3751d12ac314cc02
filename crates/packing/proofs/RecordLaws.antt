-- What each function of src/laws.rt is proved by.
use Rattle.packing.proofs.CampaignBackLaws.{pack-back}
use Rattle.packing.proofs.AcceptBackLaws.{pack-accepted}
use Rattle.packing.proofs.CampaignForthLaws.{packed-again, accepted-packed, told-once}
use Rattle.packing.proofs.ByteLaws.{pack-bytes}
use Rattle.packing.proofs.FitLaws.{told-fits}

pub ruleset campaign_laws = (pack-back, pack-accepted)

pub ruleset again_laws = (accepted-packed, told-once, packed-again)

pub ruleset byte_laws = (pack-bytes, told-fits)
