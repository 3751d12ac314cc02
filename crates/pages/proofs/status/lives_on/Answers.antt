-- By the kind.
use mathlib.Core.Path.{sym, ap}
use Rattle.pages.specs.Status.{lives_on}
use Rattle.pages.proofs.status.lives_on.Goals as goal

pub returns-in-TagSwitch : goal.returns-in-TagSwitch
returns-in-TagSwitch c = sym (ap (λ k. lives_on c.args.living k) c.in-TagSwitch.is)

pub returns-in-Appeared : goal.returns-in-Appeared
returns-in-Appeared c = sym (ap (λ k. lives_on c.args.living k) c.in-Appeared.is)

pub returns-in-Annexed : goal.returns-in-Annexed
returns-in-Annexed c = sym (ap (λ k. lives_on c.args.living k) c.in-Annexed.is)
