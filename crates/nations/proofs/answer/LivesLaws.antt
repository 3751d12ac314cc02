-- The walk of a country row, from the first changes of its two chains on, tells the lives of its country. By one induction on the turns:
-- at each change the walk stands on both chains, so it loses or gains there exactly when the row does.
use mathlib.Core.Path.{◌≡◌, refl, sym, ap, ap₂, ◌∙◌}
use mathlib.Core.Bool.{Bool, false}
use mathlib.Core.List.{List, [], ◌∷◌, map}
use Prim.Native.Nat.{ℕ, suc, ◌≤◌, ◌<◌}
use native.Mathlib.Omega.{arith}
use lib.Dec.{eqb}
use lib.ListN.{length, get_or, length-map}
use Rattle.lists.specs.Lists.{count_of, twice}
use Rattle.format.specs.declared.date.Eu4Date.{Eu4Date}
use Rattle.format.specs.Campaign.{Campaign}
use Rattle.nation_tables.specs.Layout.{no_change}
use Rattle.rules.specs.Nations.{matches, start_holders, turn_entries, turn_count, lives_of, held_of}
use Rattle.nation_tables.specs.Countries.{words_of_tags}
use Rattle.nation_tables.specs.Turning.{first_at, row_tag, RowTurn, row_turns_of, Rowed, before, row_lived, links_from, Linked, key_date}
use Rattle.nations.specs.Walks.{Walk, past_change, lived_from, lived_left, Chained, first_lives}
use Rattle.nation_tables.proofs.slots.ChainLaws.{length-links, links-rise, OnChain, chain-here, chain_next}
use Rattle.format.specs.Sound.{Sound}
use Rattle.nation_tables.proofs.slots.TurningLaws.{row-lived}

-- ## Along the turns

module _ (start : Eu4Date) (olds news : List ℕ) (m m' r : ℕ) (inside : r < m) (inside' : r < m') where
  along : (k : ℕ) (xs : List RowTurn) (keys : List ℕ) (c : Walk) → map key_date keys ≡ map (λ x. x.date) xs
      → OnChain olds m r k (map (λ x. x.old) xs) c.lose → OnChain news m' r k (map (λ x. x.new) xs) c.gain
      → lived_from start olds news k keys c ≡ row_lived start r xs c.held
  unfolding lived_from row_lived
  along k [] [] c e p q = refl
  along k [] (key ∷ keys) c e p q = let z : ◌≡◌ {A = ℕ} 0 1 = cc in absurd (omega arith)
  along k (x ∷ xs) [] c e p q = let z : ◌≡◌ {A = ℕ} 0 1 = cc in absurd (omega arith)
  along k (x ∷ xs) (key ∷ keys) c e p q =
      let date : key_date key ≡ x.date = cc in
      let dates : map key_date keys ≡ map (λ y. y.date) xs = cc in
      let loses : eqb c.lose k ≡ eqb x.old r = chain-here olds m r k x.old (map (λ y. y.old) xs) c.lose p in
      let gains : eqb c.gain k ≡ eqb x.new r = chain-here news m' r k x.new (map (λ y. y.new) xs) c.gain q in
      ap (before (turn_entries start (key_date key) (eqb c.lose k) (eqb c.gain k) c.held))
      (along (suc k) xs keys (past_change olds news k c) dates
      (chain_next olds m r k x.old (map (λ y. y.old) xs) c.lose p inside)
      (chain_next news m' r k x.new (map (λ y. y.new) xs) c.gain q inside'))
      ∙ (ap₂ (λ (a b : Bool). before (turn_entries start (key_date key) a b c.held) (row_lived start r xs (turn_count a b c.held))) loses gains
      ∙ ap (λ (d : Eu4Date). before (turn_entries start d (eqb x.old r) (eqb x.new r) c.held) (row_lived start r xs (turn_count (eqb x.old r) (eqb x.new r) c.held))) date)

-- ## From the first changes

module _ (keys old_rows new_rows olds news losses gains : List ℕ) (xs : List RowTurn) (rowed : Rowed keys old_rows new_rows xs)
    (few : length keys ≤ no_change) (o : Linked old_rows olds losses) (n : Linked new_rows news gains) where
  pub count-turns : length xs ≡ length keys
  count-turns = sym (length-map xs (λ x. x.date)) ∙ (sym (ap length rowed.dates) ∙ length-map keys key_date)

  count-olds : length old_rows ≡ length keys
  count-olds = ap length rowed.old_rows ∙ (length-map xs (λ x. x.old) ∙ count-turns)

  count-news : length new_rows ≡ length keys
  count-news = ap length rowed.new_rows ∙ (length-map xs (λ x. x.new) ∙ count-turns)

  -- The links are fit for a walk.
  pub chained : Chained keys olds news
  chained =
      record {
        few = few;
        all_olds = ap length o.cells ∙ (length-links (length losses) 0 old_rows ∙ count-olds);
        all_news = ap length n.cells ∙ (length-links (length gains) 0 new_rows ∙ count-news);
        olds_rise = λ k l. rw o.cells (omega (arith, links-rise (length losses) 0 old_rows k (omega (arith, count-olds)) (omega (arith, count-olds))));
        news_rise = λ k l. rw n.cells (omega (arith, links-rise (length gains) 0 new_rows k (omega (arith, count-news)) (omega (arith, count-news))));
      }

  module _ (start : Eu4Date) (r held : ℕ) (inside : r < length losses) (inside' : r < length gains) where
    pub lives-told : lived_left start keys olds news (first_lives losses gains r held) ≡ row_lived start r xs held
    lives-told =
        along start olds news (length losses) (length gains) r inside inside' 0 xs keys (first_lives losses gains r held) rowed.dates
        (record {
          cells = o.cells ∙ ap (links_from (length losses) 0) rowed.old_rows;
          next = o.firsts r inside ∙ ap (first_at r 0) rowed.old_rows;
          few = omega (arith, length-map xs (λ x. x.old), count-turns);
        })
        (record {
          cells = n.cells ∙ ap (links_from (length gains) 0) rowed.new_rows;
          next = n.firsts r inside' ∙ ap (first_at r 0) rowed.new_rows;
          few = omega (arith, length-map xs (λ x. x.new), count-turns);
        })

-- Of a campaign: from its start slots on the walk of a row tells the lives of its country, and in the end the slots of its cell.
pub walk-lives : (c : Campaign) (keys old_rows new_rows olds news losses gains : List ℕ) (r : ℕ)
    → Rowed keys old_rows new_rows (row_turns_of c) → length keys ≤ no_change → Linked old_rows olds losses → Linked new_rows news gains
    → twice (words_of_tags c.countries) ≡ false → length (words_of_tags c.countries) ≤ no_change → Sound c
    → r < length (words_of_tags c.countries) → r < length losses → r < length gains
    → lived_left c.start keys olds news (first_lives losses gains r (count_of (matches (row_tag c r)) (start_holders c)))
    ≡ record { entries = lives_of c (row_tag c r); held = get_or (held_of c) r 0 }
walk-lives c keys old_rows new_rows olds news losses gains r rowed few o n single rows range inside i i' =
    lives-told keys old_rows new_rows olds news losses gains (row_turns_of c) rowed few o n c.start r (count_of (matches (row_tag c r)) (start_holders c)) i i'
    ∙ row-lived c r single inside rows range
