-- The steps by which the tables are gathered, one after the other.
use mathlib.Core.Path.{◌≡◌, refl, sym, ap, ◌∙◌}
use mathlib.Core.List.{List, [], ◌∷◌, map}
use Prim.Native.Nat.{ℕ, zero, suc, ◌≤◌, ◌<◌}
use native.Mathlib.Omega.{arith}
use lib.Dec.{leb}
use lib.ListN.{length, get_or, take, drop, length-map}
use lib.Seq.{take_at}
use Rattle.sorting.proofs.SortLaws.{length-sort}
use Rattle.format.specs.declared.tag.CountryTag.{CountryTag}
use Rattle.format.specs.Campaign.{Country}
use Rattle.rules.specs.Lent.{written}
use Rattle.nation_tables.specs.declared.layout.LossGain.{LossGain}
use Rattle.nation_tables.specs.Layout.{no_change}
use Rattle.nation_tables.specs.Countries.{country_tags, row_keys, switch_keys_from, settling_keys_from, settling_keys, Tabled, Filled}
use Rattle.nation_tables.specs.Turning.{losses, gains, Fresh}
use Rattle.nation_tables.specs.Switches.{runs_from, run_keys, target_words}
use Rattle.nation_tables.specs.Gathering.{TablesFilled, SwitchesRoom}
use Rattle.nation_tables.proofs.tables.CountryLaws.{initial-table, settling-table}
use Rattle.nation_tables.proofs.tables.SwitchLaws.{length_runs, length-targets}

-- The tables, each at the front of its cells.
pub tables-filled : (ks : List Country) (c m : ℕ) (tags₀ tags₁ : List CountryTag) (inits₀ inits₁ initials₀ initials₁ switches₀ switches₁ : List ℕ)
    → c ≡ length ks → Tabled ks tags₀ tags₁ inits₀ inits₁ → initials₁ ≡ written (row_keys (take c inits₁)) initials₀ → Filled (settling_keys ks) m switches₀ switches₁
    → TablesFilled ks (record { countries = c; settling = m }) tags₁ initials₁ switches₁
tables-filled ks c m tags₀ tags₁ inits₀ inits₁ initials₀ initials₁ switches₀ switches₁ l q i f =
    record {
      countries = l;
      keyed = f.counted ∙ length-sort leb (settling_keys_from 0 ks);
      tags =
          ap (take c) q.tags
          ∙ take_at (country_tags ks) (drop (length (country_tags ks)) tags₀) c (length-map ks (λ k. k.tag) ∙ sym l);
      initials = initial-table ks c tags₀ tags₁ inits₀ inits₁ l q initials₀ initials₁ i;
      switches = settling-table ks m switches₀ switches₁ f;
    }

-- ## Keys and targets of switches

module _ (ks : List Country) where
  -- There are as many of them as keys that settle changes.
  pub runs-count : length (runs_from 0 0 ks) ≡ length (switch_keys_from 0 ks)
  runs-count = length_runs 0 0 ks

  pub targets-count : length (target_words ks) ≡ length (switch_keys_from 0 ks)
  targets-count = length-targets 0 0 ks ∙ runs-count

  pub runs-front : (n : ℕ) (before keys : List ℕ) → Filled (run_keys ks) n before keys → take (length (switch_keys_from 0 ks)) keys ≡ run_keys ks
  runs-front n before keys f =
      ap (take (length (switch_keys_from 0 ks))) f.filled
      ∙ take_at (run_keys ks) (drop (length (run_keys ks)) before) (length (switch_keys_from 0 ks)) (length-sort leb (runs_from 0 0 ks) ∙ runs-count)

  pub targets-front : (before cells : List ℕ) → cells ≡ written (target_words ks) before → take (length (switch_keys_from 0 ks)) cells ≡ target_words ks
  targets-front before cells e =
      ap (take (length (switch_keys_from 0 ks))) e ∙ take_at (target_words ks) (drop (length (target_words ks)) before) (length (switch_keys_from 0 ks)) targets-count

  -- What the functions that make them ask.
  module _ (runs targets : List ℕ) (room : SwitchesRoom ks runs targets) where
    pub runs-inside : length (runs_from 0 0 ks) ≤ length runs
    runs-inside = omega (arith, runs-count, room.runs)

    pub targets-inside : (n : ℕ) → n ≡ length targets → length (target_words ks) ≤ n
    targets-inside n e = omega (arith, targets-count, room.targets)

-- ## Rows with no change yet

abbrev pub nothing : LossGain
nothing = record { loss = no_change; gain = no_change }

fresh_set : (f : LossGain → ℕ) (x : LossGain) (cells : List LossGain) → f x ≡ no_change → Fresh (map f (map (λ _. x) cells))
fresh_set f x cells e = record { none = go cells }
  where
    go : (l : List LossGain) (r : ℕ) → r < length (map f (map (λ _. x) l)) → get_or (map f (map (λ _. x) l)) r 0 ≡ no_change
    go [] r h = absurd (omega arith)
    go (y ∷ l) zero h = e
    go (y ∷ l) (suc r) h = go l r (omega arith)

-- So it is with the firsts of all rows.
pub fresh-firsts : (before after : List LossGain) → after ≡ map (λ _. nothing) before → Fresh (losses after) × Fresh (gains after)
fresh-firsts before after e = rw e (fresh_set (λ x. x.loss) nothing before refl, fresh_set (λ x. x.gain) nothing before refl)
