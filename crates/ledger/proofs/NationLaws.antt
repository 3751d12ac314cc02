-- The ledgers of all nations, nation by nation.
use mathlib.Core.Path.{◌≡◌, refl, sym, ap, subst, ◌∙◌}
use mathlib.Core.Bool.{true}
use mathlib.Core.List.{List, [], ◌∷◌, ◌++◌, map}
use mathlib.Core.Option
use mathlib.Core.Option.{none, some}
use Prim.Native.Nat.{ℕ, ◌+◌, ◌-◌, ◌*◌, ◌≤◌, ◌<◌}
use native.Mathlib.Omega.{arith}
use lib.ListN.{length, take, drop, set, get_elem?, length-append, length-map, length-take, length-drop}
use Rattle.lists.specs.Lists.{join_of, numbers_from}
use Rattle.lists.proofs.ListLaws.{join-map, map_at, map-then}
use Rattle.lists.proofs.ElementLaws.{at-get_or, at-end, at-inside}
use Rattle.lists.proofs.FillLaws.{Filling, filling-new, filling-put, filling-written}
use Rattle.format.specs.Campaign.{Ledger, campaign_of}
use Rattle.format.proofs.SoundLaws.{sound}
use Rattle.format.specs.declared.values.NationRow.{NationRow}
use Rattle.format.specs.declared.values.LedgerPoint.{LedgerPoint}
use Rattle.rules.specs.NationRows.{nation_row_of, nation_rows_in, entry_rows_in, nation_at, nations_in, well_shaped}
use Rattle.rules.specs.Ledger.{spans_of, nation_ledger, ledger_width}
use Rattle.record.specs.declared.opened.Record.{Record}
use Rattle.record.specs.Cursors.{ledgers_left}
use Rattle.rows.specs.RowAt.{nation_row_at, nation_numbered}
use Rattle.rows.proofs.RowAtLaws.{nations-next}
use Rattle.rows.proofs.NumberedLaws.{dropped-numbers, nation-entries, nations-numbered}
use Rattle.ledger.specs.PointSteps.{FillsSpan}
use Rattle.ledger.proofs.FillsLaws.{FillingRows, fills-start, fills-more}
use Rattle.ledger.specs.RowLedgers.{row_ledger, row_ledgers, row_counts, WritesLedgers}
use Rattle.ledger.proofs.LedgerLaws.{fills-whole, rows-filled}

-- ## The nation of a number

pub nations-size : (ws es : List ℕ) → length (nations_in ws es) ≡ length (nation_rows_in ws)
unfolding nations_in
nations-size ws es = length-map (nation_rows_in ws) (nation_at (entry_rows_in es))

module _ (ws es : List ℕ) (i : ℕ) where
  -- A number of a well-shaped chronicle is that nation's.
  pub nation-listed : well_shaped ws es ≡ true → i < length (nation_rows_in ws) → get_elem? (nations_in ws es) i ≡ some (nation_numbered ws es i)
  unfolding nations_in nation_row_at
  nation-listed shaped h =
      let there = at-inside (nation_rows_in ws) i h in
      let same : there.0 ≡ nation_row_at ws i = sym (at-get_or (nation_rows_in ws) i there.0 (nation_row_of []) there.1) in
      map_at (nation_at (entry_rows_in es)) (nation_rows_in ws) i
      ∙ (ap (Option.map (nation_at (entry_rows_in es))) there.1
      ∙ ap some (ap (nation_at (entry_rows_in es)) same ∙ nation-entries ws es shaped i h))

  pub nation-unlisted : length (nation_rows_in ws) ≤ i → get_elem? (nations_in ws es) i ≡ none
  nation-unlisted h = at-end (nations_in ws es) i (omega (arith, nations-size ws es))

-- ## The campaign's ledgers

module _ (r : Record) where
  -- Its ledger names are few, and so are their points.
  pub names_few : length (ledgers_left r.ledgers) ≤ 2000
  names_few = subst (λ (ls : List Ledger). length ls ≤ 2000) (sym r.told.ledgers) (sound r.bytes.now r.accepted).few_ledgers

  pub points_few : length (join_of (λ l. l.points) (ledgers_left r.ledgers)) ≤ 1000000
  points_few = subst (λ (ls : List Ledger). length (join_of (λ l. l.points) ls) ≤ 1000000) (sym r.told.ledgers) (sound r.bytes.now r.accepted).few_points

module _ (r : Record) (ws es : List ℕ) where
  pub numbered-ledger : (i : ℕ) → row_ledger r es (nation_row_at ws i) ≡ nation_ledger (campaign_of r.bytes.now) (nation_numbered ws es i)
  unfolding nation_ledger spans_of
  numbered-ledger i = rw (r.told.ledgers, r.told.start, r.told.current)

  -- All nations of a well-shaped chronicle.
  module _ (shaped : well_shaped ws es ≡ true) where
    abbrev numbers : List ℕ
    numbers = numbers_from 0 (length (nation_rows_in ws))

    rows-numbered : nation_rows_in ws ≡ map (nation_row_at ws) numbers
    rows-numbered = dropped-numbers (nation_rows_in ws) (nation_row_at ws) (nations-next ws) (length (nation_rows_in ws)) 0 (omega arith)

    pub all-ledgers : row_ledgers r ws es ≡ join_of (nation_ledger (campaign_of r.bytes.now)) (nations_in ws es)
    all-ledgers =
        ap (join_of (row_ledger r es)) rows-numbered
        ∙ (join-map (row_ledger r es) (nation_row_at ws) numbers
        ∙ (ap (λ (g : ℕ → List LedgerPoint). join_of g numbers) (λ j i. numbered-ledger i j)
        ∙ sym (ap (join_of (nation_ledger (campaign_of r.bytes.now))) (nations-numbered ws es shaped) ∙ join-map (nation_ledger (campaign_of r.bytes.now)) (nation_numbered ws es) numbers)))

    pub all-counts : row_counts r ws es ≡ map (λ n. length (nation_ledger (campaign_of r.bytes.now) n)) (nations_in ws es)
    all-counts =
        ap (map (λ n. length (row_ledger r es n))) rows-numbered
        ∙ (map-then (nation_row_at ws) (λ n. length (row_ledger r es n)) numbers
        ∙ (ap (λ (g : ℕ → List LedgerPoint). map (λ i. length (g i)) numbers) (λ j i. numbered-ledger i j)
        ∙ sym (ap (map (λ n. length (nation_ledger (campaign_of r.bytes.now) n))) (nations-numbered ws es shaped) ∙ map-then (nation_numbered ws es) (λ n. length (nation_ledger (campaign_of r.bytes.now) n)) numbers)))

-- ## Rows and counts

-- So many nations are passed, with k points, and the others are left.
pub record LedgersWritten (r : Record) (ws es before counts_before : List ℕ) (left : List NationRow) (k i : ℕ) (now counts : List ℕ) : Type 0 where
  pub room : ledger_width * length (row_ledgers r ws es) ≤ length before
  pub passed : k + length (join_of (row_ledger r es) left) ≡ length (row_ledgers r ws es)
  pub rows : FillingRows (row_ledgers r ws es) (join_of (row_ledger r es) left) before k now
  pub counted : Filling (row_counts r ws es) (map (λ n. length (row_ledger r es n)) left) counts_before i counts

module _ (r : Record) (ws es before counts_before : List ℕ) where
  pub ledgers-start : (left : List NationRow) → left ≡ nation_rows_in ws → ledger_width * length (row_ledgers r ws es) ≤ length before → length (nation_rows_in ws) ≤ length counts_before
      → LedgersWritten r ws es before counts_before left 0 0 before counts_before
  ledgers-start left e h g =
      rw e
      (record {
        room = h;
        passed = omega arith;
        rows = fills-start _ _ before refl;
        counted = filling-new (row_counts r ws es) counts_before (omega (arith, length-map (nation_rows_in ws) (λ n. length (row_ledger r es n))));
      })

  module _ {left : List NationRow} {k i : ℕ} {now counts : List ℕ} (w : LedgersWritten r ws es before counts_before left k i now counts) where
    module _ {row : NationRow} {rest : List NationRow} (e : left ≡ row ∷ rest) where
      pub ledgers-more : (m : ℕ) (ys : List ℕ) → FillsSpan (row_ledger r es row) m (take (length now - ledger_width * k) (drop (ledger_width * k) now)) ys
          → LedgersWritten r ws es before counts_before rest (k + m) (i + 1) (take (ledger_width * k) now ++ (ys ++ drop (length now - ledger_width * k) (drop (ledger_width * k) now))) (set counts i m)
      ledgers-more m ys g =
          let more = ap (join_of (row_ledger r es)) e in
          let others : List LedgerPoint = join_of (row_ledger r es) rest in
          let both : length (join_of (row_ledger r es) left) ≡ length (row_ledger r es row) + length others = ap length more ∙ length-append (row_ledger r es row) others in
          let tail : length (take (length now - ledger_width * k) (drop (ledger_width * k) now)) ≡ length now - ledger_width * k = simp (length-take, length-drop) (omega arith) in
          let size : m ≡ length (row_ledger r es row) = (fills-whole (row_ledger r es row) m _ ys g (omega (arith, tail, both, w.room, w.passed, w.rows.filling.long))).0 in
          record {
            room = w.room;
            passed = omega (arith, both, size, w.passed);
            rows = fills-more _ _ before k now w.rows (row_ledger r es row) others m ys more g;
            counted = filling-put _ _ counts_before i counts w.counted (length (row_ledger r es row)) _ (ap (map (λ n. length (row_ledger r es n))) e) m size;
          }

    pub ledgers-done : left ≡ [] → WritesLedgers r ws es before counts_before now counts
    ledgers-done e =
        record {
          cells = (fills-whole _ k before now (rows-filled w.rows (ap (join_of (row_ledger r es)) e)) w.room).1;
          counted = filling-written _ _ counts_before i counts w.counted (ap (map (λ n. length (row_ledger r es n))) e);
        }

    -- There are as many counts as nations at least: where no cell is left, no nation is.
    pub ledgers-full : length counts_before ≤ i → left ≡ []
    ledgers-full h = go left (omega (arith, w.counted.fits, length-map left (λ n. length (row_ledger r es n))))
      where
        go : (rows : List NationRow) → length rows ≤ 0 → rows ≡ []
        go [] g = refl
        go (row ∷ rows) g = absurd (omega arith)
