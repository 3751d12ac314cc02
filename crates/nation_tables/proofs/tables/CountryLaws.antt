-- The tables of the countries, country by country.
use mathlib.Core.Path.{◌≡◌, refl, sym, ap, ◌∙◌}
use mathlib.Core.List.{List, [], ◌∷◌, ◌++◌}
use Prim.Native.Nat.{ℕ, suc, ◌+◌, ◌≤◌, ◌<◌}
use native.Mathlib.Numerals.{add-one}
use native.Mathlib.Nat.{sub-zero}
use native.Mathlib.Omega.{arith}
use lib.Dec.{leb}
use lib.ListN.{length, get_or, take, drop, drop_of_length-le, length-append, length-map}
use lib.Seq.{drop-cons, take_at}
use Rattle.sorting.specs.Sort.{sort_by}
use Rattle.sorting.proofs.SortedKeyLaws.{sorted_front}
use Rattle.sorting.proofs.SortLaws.{length-sort}
use Rattle.format.specs.declared.tag.CountryTag.{CountryTag}
use Rattle.format.specs.Campaign.{Country}
use Rattle.nation_tables.specs.Countries.{initial_words, word_keys, row_keys, settling_keys_from, settling_keys, Tabled, Filled}
use Rattle.nation_tables.specs.Keys.{row_key}
use Rattle.rules.specs.Lent.{written}
use Rattle.rules.specs.Nations.{initial_of}
use Rattle.nation_tables.proofs.tables.LookupLaws.{sorted-front}

-- ## Keys of words

pub length-word-keys : (row : ℕ) (ws : List ℕ) → length (word_keys row ws) ≡ length ws
unfolding word_keys
length-word-keys row [] = refl
length-word-keys row (w ∷ ws) = ap suc (length-word-keys (suc row) ws)

module _ (words : List ℕ) (i : ℕ) where
  pub keys-next : i < length words → word_keys i (drop i words) ≡ row_key (get_or words i 0) i ∷ word_keys (i + 1) (drop (i + 1) words)
  unfolding word_keys
  keys-next h = rw (add-one i, drop-cons words i 0 h)

  pub keys-end : length words ≤ i → word_keys i (drop i words) ≡ []
  unfolding word_keys
  keys-end h = rw (drop_of_length-le words {i = i} h)

-- ## Keys sorted in their place

-- Keys in the front of a slice find room there.
pub filled-inside : (cells before after : List ℕ) (n : ℕ) → Filled cells n before after → n ≤ length after
filled-inside cells before after n f = omega (arith, f.counted, ap length f.filled ∙ length-append cells (drop (length cells) before))

-- After the sort they stand there in order.
pub front-sorted : (cells before now sorted : List ℕ) (n : ℕ) → now ≡ written cells before → n ≡ length cells → sorted ≡ sort_by leb (take n now)
    → sorted ++ drop n now ≡ written (sort_by leb cells) before
front-sorted cells before now sorted n e l s = rw (sub-zero n) at (sorted_front cells before now sorted n e l (rw (sub-zero n) s))

pub sorted-filled : (cells before now sorted : List ℕ) (n : ℕ) → Filled cells n before now → sorted ≡ sort_by leb (take n now)
    → Filled (sort_by leb cells) n before (sorted ++ drop n now)
sorted-filled cells before now sorted n f s =
    record { counted = f.counted ∙ sym (length-sort leb cells); filled = front-sorted cells before now sorted n f.filled f.counted s }

-- ## The tables that the functions leave, one after the other

-- Words in front of a slice, and the keys made of them.
word-table : (ws words₀ words keys₀ keys : List ℕ) (n : ℕ) → n ≡ length ws → words ≡ written ws words₀ → keys ≡ written (row_keys (take n words)) keys₀
    → take n keys ≡ row_keys ws
word-table ws words₀ words keys₀ keys n l e k =
    let front : take n words ≡ ws = ap (take n) e ∙ take_at ws (drop (length ws) words₀) n (sym l) in
    sorted-front (word_keys 0 ws) keys₀ keys n (rw front at k) (l ∙ sym (length-word-keys 0 ws))

module _ (ks : List Country) (n : ℕ) (tags₀ tags₁ : List CountryTag) (initials₀ initials₁ : List ℕ) (l : n ≡ length ks) (q : Tabled ks tags₀ tags₁ initials₀ initials₁) (keys₀ keys : List ℕ) where
  pub initial-table : keys ≡ written (row_keys (take n initials₁)) keys₀ → take n keys ≡ row_keys (initial_words ks)
  initial-table e =
      word-table (initial_words ks) initials₀ initials₁ keys₀ keys n (l ∙ sym (length-map ks (λ k. (initial_of k).0))) q.initials e

pub settling-table : (ks : List Country) (n : ℕ) (before keys : List ℕ) → Filled (settling_keys ks) n before keys → take n keys ≡ settling_keys ks
settling-table ks n before keys f = sorted-front (settling_keys_from 0 ks) before keys n f.filled (f.counted ∙ length-sort leb (settling_keys_from 0 ks))
