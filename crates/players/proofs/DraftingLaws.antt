-- All drafts, from the cells of the tables to the nations.
use mathlib.Core.Path.{◌≡◌, refl, sym, ap, ap₂, ◌∙◌}
use mathlib.Core.List.{List, [], ◌++◌, map}
use mathlib.Core.Option.{Option}
use Prim.Native.Nat.{ℕ, zero, suc, ◌≤◌}
use native.Mathlib.Omega.{arith}
use borrow.Author.Tests.{le-leb}
use lib.Dec.{leb}
use mathlib.Core.Bool.{true}
use lib.ListN.{length, take, drop, get_or, replicate, length-replicate, length-map}
use lib.Seq.{take_at}
use Rattle.lists.specs.Lists.{All}
use Rattle.lists.proofs.ListLaws.{all_map, all_keep, all_append, all_take, all_get_d}
use Rattle.lists.proofs.ElementLaws.{map_same, keep-short}
use Rattle.sorting.specs.Sort.{sort_by, cleared}
use Rattle.sorting.proofs.SortLaws.{length-sort}
use Rattle.sorting.proofs.SortedKeyLaws.{sort-again}
use Rattle.format.specs.Campaign.{Country}
use Rattle.record.specs.declared.cursors.Countries.{Countries}
use Rattle.record.specs.Cursors.{countries_left}
use Rattle.rules.specs.Lent.{written}
use Rattle.players.specs.declared.drafts.Draft.{Draft}
use Rattle.format.specs.declared.tag.CountryTag.{CountryTag}
use Rattle.search.specs.Places.{keys_per_tag, tag_keys_from, place_from, place_in}
use Rattle.search.proofs.PlaceLaws.{place-among}
use Rattle.rows.specs.RowAt.{tags_stored}
use Rattle.players.specs.Marks.{stored_word, marked_from, cell_at_place}
use Rattle.players.specs.TagTables.{country_tags_left}
use Rattle.players.specs.CountryDrafts.{played_left, draft_with, draft_for, FillsDrafts, HoldsDrafts}
use Rattle.players.proofs.MarkLaws.{stored-word, all-placed}

-- ## The tables

-- Keys in front of a slice, sorted in their place, and again.
pub keys-indexed : (cells : List ℕ) (n : ℕ) (before keys sorted rest : List ℕ) → keys ≡ written cells before → n ≡ length cells → sorted ≡ sort_by leb (take n keys)
    → take n (sorted ++ rest) ≡ sort_by leb cells
keys-indexed cells n before keys sorted rest filled many s =
    let whole : sorted ≡ sort_by leb cells = s ∙ ap (sort_by leb) (ap (take n) filled ∙ take_at cells _ n (sym many)) in
    take_at sorted rest n (ap length whole ∙ length-sort leb cells ∙ sym many) ∙ whole

pub keys-again : (cells : List ℕ) (n : ℕ) (before keys sorted rest : List ℕ) → keys ≡ written cells before → n ≡ length cells → sorted ≡ sort_by leb (take n keys)
    → sort_by leb (take n (sorted ++ rest)) ≡ take n (sorted ++ rest)
keys-again cells n before keys sorted rest filled many s = rw (keys-indexed cells n before keys sorted rest filled many s) (sort-again cells)

all-zeros : (n : ℕ) → All {A = ℕ} (λ x. x ≡ 0) (replicate n 0)
all-zeros zero = tt
all-zeros (suc n) = (refl, all-zeros n)

-- The scratch of the sort holds nothing.
pub scratch-blank : (n m : ℕ) → n ≤ m → (q : ℕ) → get_or (cleared n (replicate m 0)) q 0 ≡ 0
scratch-blank n m h q =
    let zeros : List ℕ = replicate m 0 in
    let fits : leb n (length zeros) ≡ true = le-leb n (length zeros) (omega (arith, length-replicate {A = ℕ} m 0)) in
    rw fits
    (all_get_d {A = ℕ} (λ x. x ≡ 0) (replicate n 0 ++ drop n zeros) q 0
    (all_append {A = ℕ} (λ x. x ≡ 0) (replicate n 0) (drop n zeros) (all-zeros n) (all_take {A = ℕ} (λ x. x ≡ 0) n zeros (all-zeros m)).1) refl)

-- ## From the cells to the nations

module _ (most : ℕ) (c : Countries) (ws zeros tags cells keys : List ℕ) (count : ℕ) (out₀ out₁ : List Draft)
    (small : length (country_tags_left c) ≤ keys_per_tag) (indexed : tags ≡ sort_by leb (tag_keys_from 0 (country_tags_left c))) where
  -- The sorted keys tell the place of a tag among the countries.
  placed : (t : CountryTag) → place_in tags t ≡ place_from 0 t (country_tags_left c)
  placed t = place-among t (country_tags_left c) small tags indexed

  told-drafts : length (country_tags_left c) ≤ length zeros → ((q : ℕ) → get_or zeros q 0 ≡ 0) → cells ≡ marked_from (place_in tags) zeros 0 (tags_stored ws)
      → map (draft_for ws tags cells keys) (played_left c) ≡ map (λ k. draft_with ws keys k (stored_word ws k.tag)) (played_left c)
  told-drafts room blank marked =
      map_same _ _ (played_left c)
      (all_keep (λ k. draft_for ws tags cells keys k ≡ draft_with ws keys k (stored_word ws k.tag)) (λ k. k.was_player) (countries_left c)
      (all_map
      (λ (k : Country) found.
      ap (draft_with ws keys k)
      (ap₂ cell_at_place (marked ∙ ap (λ (f : CountryTag → Option ℕ). marked_from f zeros 0 (tags_stored ws)) (λ j t. placed t j)) (placed k.tag) ∙ stored-word (country_tags_left c) k.tag found.0 found.1 ws zeros room blank))
      (countries_left c) (all-placed [] (countries_left c))))

  pub drafts-told : FillsDrafts c ws tags cells keys count out₀ out₁ → length (country_tags_left c) ≤ length zeros → ((q : ℕ) → get_or zeros q 0 ≡ 0)
      → cells ≡ marked_from (place_in tags) zeros 0 (tags_stored ws) → length (countries_left c) ≤ most
      → length out₁ ≡ most → HoldsDrafts most c ws keys count out₁
  drafts-told f room blank marked few long =
      let ds : List Draft = map (draft_for ws tags cells keys) (played_left c) in
      let many : length ds ≡ count = length-map (played_left c) (draft_for ws tags cells keys) ∙ sym f.counted in
      record {
        counted = f.counted;
        few = omega (arith, f.counted, keep-short (λ (k : Country). k.was_player) (countries_left c), few);
        long = long;
        drafts = ap (take count) f.drafts ∙ take_at ds _ count many ∙ told-drafts room blank marked;
      }
