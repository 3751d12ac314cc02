-- The rows of the listed nations and of their entries, written nation by nation.
use mathlib.Core.Path.{◌≡◌, refl, ap, subst}
use mathlib.Core.List.{List, [], ◌∷◌, ◌++◌}
use Prim.Native.Nat.{ℕ, ◌+◌, ◌-◌, ◌*◌, ◌≤◌, ◌<◌}
use native.Mathlib.Omega.{arith}
use lib.ListN.{length, take, drop, length-append, length-drop}
use lib.Seq.{length-take-le}
use Rattle.lists.specs.Lists.{join_of}
use Rattle.lists.proofs.ListLaws.{join-append}
use Rattle.lists.proofs.WriteLaws.{Writing, behind, writing-none, writing_more, writing-done}
use Rattle.format.specs.declared.values.Entry.{Entry}
use Rattle.rules.specs.Chronicle.{Nation}
use Rattle.rules.specs.NationRows.{nation_width, nation_row_words, nation_rows_from, entry_row, entry_row_words, nation_words, entry_words, entry_width}
use Rattle.nation_tables.specs.Layout.{word_span}
use Rattle.nations.specs.CountryEntries.{entries_words}
use Rattle.nations.specs.WrittenNations.{nation_row, NationRoom, NationPut, NationsRoom, NationsWritten}
use Rattle.rules.proofs.RowLaws.{all_entries}
use Rattle.nations.proofs.MergeEntryLaws.{length-entries-words}

-- The words of the rows of nations, the first of whose entries has a number.
abbrev pub rows_words : ℕ → List Nation → List ℕ
rows_words first ns = join_of nation_row_words (nation_rows_from first ns)

-- Those of a nation stand before those of the nations behind it.
row-next : (first : ℕ) (n : Nation) (ns : List Nation) → rows_words first (n ∷ ns) ≡ nation_row_words (nation_row first n) ++ rows_words (first + length n.entries) ns
unfolding nation_rows_from
row-next first n ns = refl

-- So it is with the words of their entries.
entries_next : (n : Nation) (ns : List Nation) → entry_words (n ∷ ns) ≡ entries_words n.entries ++ entry_words ns
unfolding entry_words
entries_next n ns = join-append (λ (e : Entry). entry_row_words (entry_row e)) n.entries (all_entries ns)

-- Of the nations some are left: the others are written, n of them with so many entries, and behind them there is room for those that are left.
pub record Placing (all left : List Nation) (n first : ℕ) (rows₀ rows entries₀ entries : List ℕ) : Type 0 where
  pub nations : Writing (nation_words all) (rows_words first left) rows₀ (nation_width * n) rows
  pub told : Writing (entry_words all) (entry_words left) entries₀ (entry_width * first) entries
  pub counted : first + length (all_entries left) ≡ length (all_entries all)

-- At first nothing is written.
pub placing-none : (all left : List Nation) (n : ℕ) (rows entries : List ℕ) → left ≡ all → n ≡ 0 → NationsRoom all rows entries → Placing all left n 0 rows rows entries entries
unfolding nation_words
placing-none all left n rows entries e z room =
    rw (e, z)
    (record {
      nations = writing-none (rows_words 0 all) rows room.rows;
      told = writing-none (entry_words all) entries room.entries;
      counted = omega arith;
    })

-- It is the same whichever name the nations left and their number have.
pub placing-same : (all left left' : List Nation) (n n' first : ℕ) (rows₀ rows entries₀ entries : List ℕ) → left ≡ left' → n' ≡ n
    → Placing all left n first rows₀ rows entries₀ entries → Placing all left' n' first rows₀ rows entries₀ entries
placing-same all left left' n n' first rows₀ rows entries₀ entries e z p = rw z (subst (λ (l : List Nation). Placing all l n first rows₀ rows entries₀ entries) e p)

-- One nation more.
module _ (all : List Nation) (x : Nation) (rest : List Nation) (n first : ℕ) (rows₀ rows entries₀ entries : List ℕ)
    (p : Placing all (x ∷ rest) n first rows₀ rows entries₀ entries) where
  -- The next nation finds room.
  pub row-fits : nation_width * n + nation_width ≤ length rows
  row-fits =
      omega (
        arith,
        p.nations.fits,
        p.nations.long,
        ap length (row-next first x rest),
        length-append (nation_row_words (nation_row first x)) (rows_words (first + length x.entries) rest),
      )

  -- So do its entries.
  pub entries-fit : entry_width * first + entry_width * length x.entries ≤ length entries
  entries-fit =
      omega (
        arith,
        p.told.fits,
        p.told.long,
        ap length (entries_next x rest),
        length-append (entries_words x.entries) (entry_words rest),
        length-entries-words x.entries,
      )

  -- The number of its first entry, and of each, is a word, if all are so few.
  pub place-few : length (all_entries all) < word_span → first + length x.entries < word_span
  place-few few =
      omega (arith, few, p.counted, length-append x.entries (all_entries rest))

  -- The tails that are lent have room.
  abbrev rows-tail : List ℕ
  rows-tail = take (length rows - nation_width * n) (drop (nation_width * n) rows)

  abbrev entries-tail : List ℕ
  entries-tail = take (length entries - entry_width * first) (drop (entry_width * first) entries)

  pub place-room : NationRoom x rows-tail entries-tail
  place-room =
      let row-long = length-take-le (length rows - nation_width * n) (drop (nation_width * n) rows) (omega (arith, length-drop (nation_width * n) rows)) in
      let entry-long =
      length-take-le (length entries - entry_width * first) (drop (entry_width * first) entries) (omega (arith, length-drop (entry_width * first) entries)) in
      record { row = omega (arith, row-long, row-fits); entries = omega (arith, entry-long, entries-fit) }

  -- It is written behind the others.
  pub place-more : (count : ℕ) (rows' entries' : List ℕ) → NationPut x first count rows-tail rows' entries-tail entries' → (n' first' : ℕ) → n' ≡ n + 1 → first' ≡ first + count
      → Placing all rest n' first' rows₀ (take (nation_width * n) rows ++ (rows' ++ drop (length rows - nation_width * n) (drop (nation_width * n) rows)))
      entries₀ (take (entry_width * first) entries ++ (entries' ++ drop (length entries - entry_width * first) (drop (entry_width * first) entries)))
  place-more count rows' entries' put n' first' a b =
      let row : List ℕ = nation_row_words (nation_row first x) in
      let told : List ℕ = entries_words x.entries in
      let nations-more : nation_width * (n + 1) ≡ nation_width * n + length row = omega arith in
      let entries-more : entry_width * (first + length x.entries) ≡ entry_width * first + length told = omega (arith, length-entries-words x.entries) in
      rw (a, b, put.told.counted)
      (record {
        nations =
            rw nations-more
            (writing_more _ _ (rows_words (first + length x.entries) rest) _ row rows _ (nation_width * n) (row-next first x rest) p.nations
            (behind rows row rows' (nation_width * n) row-fits put.row));
        told =
            rw entries-more
            (writing_more _ _ (entry_words rest) _ told entries _ (entry_width * first) (entries_next x rest) p.told
            (behind entries told entries' (entry_width * first) (omega (arith, entries-fit, length-entries-words x.entries)) put.told.cells));
        counted =
            omega (arith, p.counted, length-append x.entries (all_entries rest));
      })

-- All are written.
pub placing-done : (all left : List Nation) (n first : ℕ) (rows₀ rows entries₀ entries : List ℕ) → left ≡ [] → Placing all left n first rows₀ rows entries₀ entries
    → NationsWritten all rows₀ rows entries₀ entries
unfolding nation_rows_from entry_words
placing-done all left n first rows₀ rows entries₀ entries none p =
    record {
      rows = writing-done _ rows₀ rows (nation_width * n) (rw none at p.nations);
      entries = writing-done _ entries₀ entries (entry_width * first) (rw none at p.told);
    }
