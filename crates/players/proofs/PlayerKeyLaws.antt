-- The players of a tag among sorted keys stand together.
use mathlib.Core.Path.{◌≡◌, ap, ◌∙◌}
use mathlib.Core.List.{List}
use Prim.Native.Nat.{ℕ, ◌+◌, ◌-◌, ◌*◌, ◌/◌, ◌%◌, ◌≤◌}
use native.Mathlib.Omega.{arith}
use borrow.Author.Tests.{lt-ltb, ltb-true}
use lib.Dec.{ltb}
use lib.ListN.{length}
use Rattle.lists.specs.Lists.{count_of}
use Rattle.lists.proofs.ListLaws.{count-more}
use Rattle.format.specs.declared.tag.CountryTag.{CountryTag}
use Rattle.search.specs.Halving.{count_below}
use Rattle.search.specs.Places.{tag_key, keys_per_tag}
use Rattle.players.specs.CountryDrafts.{keys_before, RunOf}

module _ (keys : List ℕ) (tag : CountryTag) (low first end : ℕ) (l : low ≡ tag_key tag (0 % keys_per_tag))
    (a : first ≡ count_below (low / 2 * 2) keys) (b : end ≡ count_below ((low + keys_per_tag) / 2 * 2) keys) (within : end ≤ length keys) where
  first-told : first ≡ keys_before keys tag
  first-told = let e : low / 2 * 2 ≡ tag.0 * keys_per_tag = omega arith in rw e at a

  end-told : end ≡ count_of (λ k. ltb k (tag.0 * keys_per_tag + keys_per_tag)) keys
  end-told = let e : (low + keys_per_tag) / 2 * 2 ≡ tag.0 * keys_per_tag + keys_per_tag = omega arith in rw e at b

  run-rising : first ≤ end
  run-rising =
      let more = count-more (λ k. ltb k (tag.0 * keys_per_tag)) (λ k. ltb k (tag.0 * keys_per_tag + keys_per_tag)) (λ k h. lt-ltb k _ (omega (arith, ltb-true k _ h))) keys in
      omega (arith, more, first-told, end-told)

  pub run_told : RunOf keys tag (record { start = first; end = end })
  run_told =
      record {
        first = first-told;
        count = ap (λ (n : ℕ). n - first) end-told ∙ ap (λ (n : ℕ). count_of (λ k. ltb k (tag.0 * keys_per_tag + keys_per_tag)) keys - n) first-told;
        rising = run-rising;
        inside = within;
      }
