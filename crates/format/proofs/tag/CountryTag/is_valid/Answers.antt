-- The three bytes of the word, each tested.
use Rattle.format.specs.Tags.{is_tag}
use Rattle.format.proofs.tag.CountryTag.is_valid.Goals as goal

pub returns : goal.returns
unfolding is_tag
returns c = cc
