-- The text of the nations that were listed is the page.
use mathlib.Core.Path.{◌≡◌, refl, sym, ap, ap₂, ◌∙◌}
use mathlib.Core.Bool.{Bool, true, ◌&&◌}
use mathlib.Core.List.{List, ◌++◌, map}
use mathlib.Core.Option.{Option, none, some}
use Prim.Native.Nat.{ℕ, ◌≤◌}
use native.Mathlib.Omega.{arith}
use lib.ListN.{length, drop}
use Rattle.format.specs.declared.tag.CountryTag.{CountryTag}
use Rattle.format.specs.Campaign.{Campaign, campaign_of}
use Rattle.format.specs.RecordNumber.{refusal}
use Rattle.format.proofs.SoundLaws.{sound}
use Rattle.rules.specs.Chronicle.{Nation}
use Rattle.rules.specs.Nations.{nations_of}
use Rattle.rules.specs.NationRows.{nation_rows_in, nations_in, nation_words, entry_words, well_shaped}
use Rattle.rules.specs.Page.{selection_of, tags_read, is_living, page_text}
use Rattle.rules.specs.PageOutcomes.{limits_number, page_of}
use Rattle.rules.proofs.RowLaws.{read-written, nation-rows, length-rows_from}
use Rattle.rules.proofs.ShapeLaws.{nations-good, well-shaped}
use Rattle.nations.proofs.answer.NationSizeLaws.{nations-few}
use Rattle.pages.specs.Texts.{lines_text}
use Rattle.pages.proofs.PageLaws.{text-page}
use Rattle.pages.specs.LivingCells.{living_cells}
use Rattle.pages.specs.Steps.{NationsListed}
use Rattle.pages.proofs.LivingCellLaws.{living-inside, living-all}

module _ (xs : List ℕ) (z : refusal xs ≡ 0) {ws : List ℕ} (nations : ws ≡ nation_words (nations_of (campaign_of xs))) where
  abbrev c : Campaign
  c = campaign_of xs

  pub rows_few : length (nation_rows_in ws) ≤ 2000
  rows_few =
      let count = ap (λ w. length (nation_rows_in w)) nations ∙ ap length (nation-rows (nations_of c)) ∙ length-rows_from 0 (nations_of c) in
      omega (arith, count, nations-few xs z)

  module _ {es : List ℕ} (entries : es ≡ entry_words (nations_of (campaign_of xs))) where
    shaped : well_shaped ws es ≡ true
    shaped = ap₂ well_shaped nations entries ∙ well-shaped (nations_of c) (nations-good c (sound xs z))

    told : nations_in ws es ≡ nations_of c
    told = ap₂ nations_in nations entries ∙ read-written (nations_of c)

    -- With the cells filled from the entries, all is listed.
    pub cells-listed : limits_number (campaign_of xs) ≡ 0 → (cells₀ cells : List Bool)
        → cells ≡ living_cells ws es ++ drop (length (living_cells ws es)) cells₀ → NationsListed xs ws cells
    cells-listed w cells₀ cells e =
        record {
          limits = w;
          nations = nations;
          long = living-inside ws es cells₀ cells e;
          living = living-all ws es cells₀ cells e shaped ∙ ap (map is_living) told;
        }

module _ (xs selection : List ℕ) (z : refusal xs ≡ 0) {ws : List ℕ} {cells : List Bool} (l : NationsListed xs ws cells) where
  abbrev ns : List Nation
  ns = nations_of (campaign_of xs)

  same-nations : nations_in ws (entry_words ns) ≡ ns
  same-nations = told xs z l.nations {es = entry_words ns} refl

  -- The text of the tags that the selection is.
  pub text-listed : {tags : List CountryTag} → selection_of selection ≡ some tags → lines_text ws cells tags ≡ page_of xs selection
  unfolding page_of
  text-listed {tags} e =
      text-page ws (entry_words ns) (shaped xs z l.nations {es = entry_words ns} refl) cells (l.living ∙ sym (ap (map is_living) same-nations)) selection tags e
      ∙ ap (λ ns. page_text ns tags) same-nations
      ∙ ap (page_text ns) (sym (ap tags_read e))
