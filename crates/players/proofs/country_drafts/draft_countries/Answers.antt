-- Countries are few, so their tables have room. The scratch of the sort is used again, for cells that hold nothing yet.
use mathlib.Core.Path.{◌≡◌, sym, ◌∙◌}
use mathlib.Core.List.{◌++◌}
use Prim.Native.Nat.{◌≤◌}
use native.Mathlib.Omega.{arith}
use lib.Dec.{leb}
use lib.ListN.{length, take, drop, length-take, length-map}
use Rattle.lists.proofs.ElementLaws.{keep-short}
use Rattle.sorting.specs.Sort.{sort_by}
use Rattle.format.specs.Campaign.{Country}
use Rattle.record.specs.Cursors.{countries_left}
use Rattle.search.specs.Places.{tag_keys_from}
use Rattle.search.proofs.PlaceLaws.{length-tag-keys}
use Rattle.players.specs.TagTables.{country_tags_left}
use Rattle.players.proofs.DraftingLaws.{keys-indexed, keys-again, scratch-blank, drafts-told}
use Rattle.players.proofs.country_drafts.draft_countries.Goals.{After-sort_keys}
use Rattle.players.proofs.country_drafts.draft_countries.Goals as goal

-- The keys are as many as the countries, sorted, and few.
counted : (g : _) (c : After-sort_keys g) → c.len-n.result ≡ length (tag_keys_from 0 (country_tags_left c.args.countries))
counted g c = c.len-n.ensures ∙ sym (length-map (countries_left c.args.countries) (λ k. k.tag)) ∙ sym (length-tag-keys 0 (country_tags_left c.args.countries))

indexed : (g : _) (c : After-sort_keys g) → take c.len-n.result (c.sort_keys.new.keys ++ drop c.len-n.result c.fill_countries.new.keys) ≡ sort_by leb (tag_keys_from 0 (country_tags_left c.args.countries))
indexed g c =
    keys-indexed _ _ _ _ _ _ c.fill_countries.ensures (counted g c) c.sort_keys.ensures.keys

pub invariant_of-tags : goal.invariant_of-tags
invariant_of-tags g c =
    record { sorted = keys-again _ _ _ _ _ _ c.fill_countries.ensures (counted g (goal.at.invariant_of-tags g c).After-sort_keys) c.sort_keys.ensures.keys }

many : (g : _) (c : After-sort_keys g) → length (country_tags_left c.args.countries) ≤ g.row.COUNTRIES
many g c = omega (arith, length-map (countries_left c.args.countries) (λ k. k.tag), c.requires.few)

pub fill_drafts-requires : goal.fill_drafts-requires
fill_drafts-requires g c =
    let b = c.requires in
    let at = goal.at.fill_drafts-requires g c in
    record {
      short = b.short;
      room = omega (arith, keep-short (λ (k : Country). k.was_player) (countries_left c.args.countries), b.few, b.room);
    }

pub returns : goal.returns
returns g c =
    let at = goal.at.returns g c in
    let few = many g at.After-sort_keys in
    let keys = take c.len-n.result c.fill_countries.new.keys in
    drafts-told g.row.COUNTRIES c.args.countries c.args.nations.now c.sort_keys.new.scratch _ _ _ _ _ _ (omega (arith, few, c.requires.possible)) (indexed g at.After-sort_keys) c.fill_drafts.ensures (omega (arith, few, c.sort_keys.auto.scratch))
    (λ q. rw c.sort_keys.ensures.scratch (scratch-blank (length keys) g.row.COUNTRIES (omega (arith, length-take c.len-n.result c.fill_countries.new.keys, c.fill_countries.auto.keys)) q))
    c.mark_nations.ensures
    c.requires.few (c.fill_drafts.auto.out ∙ c.requires.room)
