-- Of the changes ahead: whether there are more than so many, and that their keys and tags have room in a cell, whatever the bytes are.
use Rattle.std.specs.Prelude as code
use Rattle.std.specs.Prelude.{Some, None}
use Rattle.std.specs.Option.{is_some}
use Rattle.std.specs.Iterator.{YieldsFirst, SkipsThenYields}
use Rattle.std.proofs.lemmas.Iterator.Consumers.{YieldsList-from_first, YieldsList-turn, YieldsList-end}
use mathlib.Core.Path.{◌≡◌, refl, sym, ◌∙◌}
use mathlib.Core.Bool.{Bool, not}
use Prim.Native.Nat.{ℕ}
use lib.Dec.{leb}
use lib.ListN.{length}
use borrow.Author.Tests.{le-leb, lt-leb, not-true, not-false}
use native.Mathlib.Omega.{arith}
use Rattle.lists.specs.Lists.{All}
use Rattle.lists.proofs.ListLaws.{all_map, all_join}
use Rattle.format.specs.Campaign.{Province}
use Rattle.record.specs.declared.provinces.Provinces.{Provinces}
use Rattle.record.specs.Cursors.{provinces_left}
use Rattle.record.proofs.NarrowLaws.{NarrowProvince, provinces-narrow}
use Rattle.rules.specs.Changes.{province_changes}
use Rattle.rules.proofs.CampaignLaws.{all-changes}
use Rattle.format.specs.declared.values.OwnerChange.{OwnerChange}
use Rattle.owner_changes.specs.declared.changes.Changes.{Changes}
use Rattle.owner_changes.specs.ChangeSteps.{changes_left, changes_ahead, Narrow}

-- There are at most so many where no change has that number, counted from 0.
pub none-behind : (s u : Changes) (n : ℕ) (r : code.Option OwnerChange) (none : Bool) → SkipsThenYields (YieldsFirst changes_left) s n r u
    → is_some r ≡ not none → none ≡ leb (length (changes_left s)) n
none-behind s u n (Some x) none ran e =
    let road = YieldsList-from_first (λ x. x) changes_left {s = s} (changes_left s) refl in
    let turn = YieldsList-turn road ran.0 ran.1.0 ran.1.1 (Some x) u x refl ran.1.2 in
    not-true none (sym e) ∙ sym (lt-leb (length (changes_left s)) n (omega (arith, turn.0, ran.2)))
none-behind s u n None none ran e =
    let road = YieldsList-from_first (λ x. x) changes_left {s = s} (changes_left s) refl in
    let end = YieldsList-end road ran.0 ran.1.0 ran.1.1 None u refl ran.1.2 in
    not-false none (sym e) ∙ sym (le-leb (length (changes_left s)) n (omega (arith, end.1, ran.2)))

province-narrow : (p : Province) → NarrowProvince p → All Narrow (province_changes p)
province-narrow p s =
    all-changes Narrow p.id p.owner p.events (all_map (λ e b from. record { id = s.id; to = omega (arith, b.tag) }) p.events s.events)

pub ahead-narrow : (c : Provinces) → All Narrow (changes_ahead c)
ahead-narrow c = all_join Narrow province_changes province-narrow (provinces_left c) (provinces-narrow c)
