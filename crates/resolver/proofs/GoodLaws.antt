-- The claims of a well-shaped chronicle are good ones, each of a nation that is there.
use mathlib.Core.Path.{◌≡◌}
use mathlib.Core.Bool.{true, ◌&&◌}
use mathlib.Core.List.{List, [], ◌∷◌, map}
use Prim.Native.Nat.{ℕ, zero, suc, ◌<◌}
use native.Mathlib.Omega.{arith}
use lib.ListN.{length}
use Rattle.lists.specs.Lists.{All, numbers_from}
use Rattle.lists.proofs.BoolLaws.{and_left, and_right}
use Rattle.lists.proofs.ListLaws.{all_map, all_append, all_join}
use Rattle.format.specs.declared.date.Eu4Date.{Eu4Date}
use Rattle.format.specs.Tags.{is_tag}
use Rattle.format.specs.Dates.{good_date}
use Rattle.format.proofs.BoundLaws.{date-small}
use Rattle.rules.specs.NationRows.{nation_rows_in, entry_rows_in, kind_of, kind_shaped, well_shaped}
use Rattle.rows.specs.RowAt.{nation_row_at, entry_row_at, entry_at}
use Rattle.rows.proofs.NumberedLaws.{numbers-range, nation-inside, nation-tags, entry-good}
use Rattle.resolver.specs.declared.claims.Claim.{Claim}
use Rattle.resolver.specs.Claims.{kind_claims, switch_claims, claims_in}
use Rattle.resolver.proofs.ClaimLaws.{claims_at, claims-numbered}
use Rattle.resolver.specs.Layout.{claim_dates}
use Rattle.resolver.proofs.KeyLaws.{GoodClaim}

-- A good claim of a nation that is there.
pub record SoundClaim (n : ℕ) (c : Claim) : Type 0 where
  pub good : GoodClaim c
  pub there : c.nation < n

kind-sound : (n i : ℕ) (date : Eu4Date) (kind target : ℕ) → i < n → date.0 < claim_dates → kind_shaped kind target ≡ true → All (SoundClaim n) (kind_claims i date (kind_of kind target))
unfolding kind_shaped
kind-sound n i date zero target h d k = (record { good = record { tag = k; date = d }; there = h }, tt)
kind-sound n i date (suc zero) target h d k = tt
kind-sound n i date (suc (suc m)) target h d k = tt

module _ (ws es : List ℕ) (shaped : well_shaped ws es ≡ true) where
  entry-sound : (i j : ℕ) → i < length (nation_rows_in ws) → j < length (entry_rows_in es) → All (SoundClaim (length (nation_rows_in ws))) (kind_claims i (entry_at es j).date (entry_at es j).kind)
  entry-sound i j h l =
      let r = entry_row_at es j in
      let g = entry-good ws es shaped j l in
      kind-sound (length (nation_rows_in ws)) i r.date r.kind r.target h
      (date-small r.date (and_left (good_date r.date) (kind_shaped r.kind r.target) g)) (and_right (good_date r.date) (kind_shaped r.kind r.target) g)

  switches-sound : (i : ℕ) → i < length (nation_rows_in ws) → (js : List ℕ) → All (λ j. j < length (entry_rows_in es)) js
      → All (SoundClaim (length (nation_rows_in ws))) (switch_claims i (map (entry_at es) js))
  switches-sound i h [] q = tt
  switches-sound i h (j ∷ js) q =
      all_append (SoundClaim (length (nation_rows_in ws))) (kind_claims i (entry_at es j).date (entry_at es j).kind) (switch_claims i (map (entry_at es) js))
      (entry-sound i j h q.0) (switches-sound i h js q.1)

  nation-sound : (i : ℕ) → i < length (nation_rows_in ws) → All (SoundClaim (length (nation_rows_in ws))) (claims_at ws es i)
  nation-sound i h =
      let r = nation_row_at ws i in
      let t = nation-tags ws es shaped i h in
      let p = nation-inside ws es shaped i h in (
        record { good = record { tag = and_left (is_tag r.initial) (is_tag r.latest) (and_left (is_tag r.initial && is_tag r.latest) (is_tag r.stored) t); date = omega arith }; there = h },
        switches-sound i h (numbers_from r.first r.count) (all_map (λ j g. omega (arith, g.1, p)) (numbers_from r.first r.count) (numbers-range r.first r.count)),
      )

  pub claims-sound : All (SoundClaim (length (nation_rows_in ws))) (claims_in ws es)
  claims-sound =
      let n = length (nation_rows_in ws) in
      rw claims-numbered
      (all_join (SoundClaim n) (claims_at ws es) nation-sound (numbers_from 0 n) (all_map (λ i g. omega (arith, g.1)) (numbers_from 0 n) (numbers-range 0 n)))
