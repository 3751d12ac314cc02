-- What the steps of an answer ask where the tables of an accepted record are gathered, and the outcome by its case: a slice that is too short, or the rows,
-- which are those of the answer.
use Rattle.std.specs.Prelude as code
use Rattle.std.specs.Prelude.{Some, None}
use mathlib.Core.Path.{◌≡◌, refl, sym, ap, ap₂, subst, ◌∙◌}
use mathlib.Core.Bool.{Bool, true, false, not, ◌&&◌}
use mathlib.Core.List.{List, map}
use Prim.Native.Nat.{ℕ, suc, ◌*◌}
use native.Mathlib.Omega.{arith}
use borrow.Author.Tests.{leb-true, not-true, not-false}
use lib.Dec.{leb}
use lib.ListN.{length, take, length-map, length-take}
use Rattle.lists.specs.Lists.{count_of}
use Rattle.lists.proofs.BoolLaws.{and_left, and_right, and-false}
use Rattle.format.specs.Campaign.{Campaign, campaign_of}
use Rattle.format.specs.declared.tag.CountryTag.{CountryTag}
use Rattle.format.specs.RecordNumber.{refusal}
use Rattle.rules.specs.Chronicle.{Nation}
use Rattle.rules.specs.Lent.{written, refused, gives}
use Rattle.rules.specs.Changes.{changes_of, change_rows, change_width}
use Rattle.rules.specs.Nations.{nations_of, matches, slots_of, moves_of, last_holder, holders_of, held_of}
use Rattle.rules.proofs.CampaignLaws.{length-slots}
use Rattle.rules.specs.NationRows.{nation_words, entry_words, holder_word, nation_width, entry_width}
use Rattle.format.specs.declared.values.NationCounts.{NationCounts}
use Rattle.rules.specs.Outcomes.{answers_of, NationCells, cells_of, all_fit, all_written, counts_of, call_nation_events}
use Rattle.nation_tables.specs.declared.gathering.TableSizes.{TableSizes}
use Rattle.nation_tables.specs.declared.layout.LossGain.{LossGain}
use Rattle.nation_tables.specs.Holders.{slot_cells}
use Rattle.nation_tables.specs.Gathering.{Cells, CampaignCells, fronts_of, TableRoom, Gathered}
use Rattle.nation_tables.proofs.tables.KeyedLaws.{provinces-few}
use Rattle.nation_tables.proofs.tables.OwnKeyLaws.{settling-count}
use Rattle.nation_tables.proofs.tables.SwitchLaws.{run-entries, targets-small}
use Rattle.nation_tables.proofs.slots.HoldersLaws.{holder-words, held-counted}
use Rattle.nation_tables.proofs.slots.RoomLaws.{countries-fit, slots-fit, settling-fit, switches-fit, changes-fit}
use Rattle.nations.specs.declared.written_nations.Listed.{Listed}
use Rattle.nations.specs.LentCells.{nation_cells}
use Rattle.nations.specs.Tables.{Readable}
use Rattle.nations.specs.ListedNations.{nations_at}
use Rattle.nations.specs.NationSteps.{rest_for, counts_from, RestReady, RestRoom, RestWritten, FrontsInside, NationsPlaced, NoRoomTold}
use Rattle.nations.specs.WrittenNations.{listed_of, nations_for, PlacedRows, NonePlaced, placed_told}
use Rattle.nations.proofs.answer.NationsLaws.{cells-nations, cells-readable, runs-told}
use Rattle.nations.proofs.answer.NationOutcomeLaws.{room_fits, nations-short, nations-rows}

-- ## Cells of a campaign

-- They tell its nations.
cells_told : (c : Campaign) (w : Cells) → CampaignCells c w → nations_at w w.initials ≡ nations_of c
cells_told c w q =
    cells-nations c w q
    (runs-told c w q
    (λ row k there. run-entries c.countries row k there q.keyed (rw q.runs at q.few_runs) (targets-small c q.sound)))

-- ## Room

-- Five tests are two and three.
regroup : (a b d e f : Bool) → (a && b && d && e && f) ≡ ((a && b) && (d && e && f))
regroup true true d e f = refl
regroup true false d e f = refl
regroup false b d e f = refl

-- Counts of equal numbers are the same.
abbrev five_counts : ℕ → ℕ → ℕ → ℕ → ℕ → NationCounts
five_counts a b c d e = record { nations = a; entries = b; slots = c; countries = d; changes = e }

counts_same : (a b c d e a' b' c' d' e' : ℕ) → a ≡ a' → b ≡ b' → c ≡ c' → d ≡ d' → e ≡ e' → five_counts a b c d e ≡ five_counts a' b' c' d' e'
counts_same a b c d e a' b' c' d' e' p q r s t = cc

-- The five slices, each with its part of the answer.
module _ (c : Campaign) (nations₀ entries₀ holders₀ held₀ changes₀ : List ℕ) where
  all-written : (nations₁ entries₁ holders₁ held₁ changes₁ : List ℕ) → nations₁ ≡ written (nation_words (nations_of c)) nations₀
      → entries₁ ≡ written (entry_words (nations_of c)) entries₀ → holders₁ ≡ written (map holder_word (holders_of c)) holders₀
      → held₁ ≡ written (held_of c) held₀ → changes₁ ≡ written (change_rows (changes_of c)) changes₀
      → nation_cells nations₁ entries₁ holders₁ held₁ changes₁
      ≡ all_written (cells_of (answers_of c)) (nation_cells nations₀ entries₀ holders₀ held₀ changes₀)
  unfolding cells_of answers_of
  all-written nations₁ entries₁ holders₁ held₁ changes₁ n e o h d =
      ap₂ (λ (x y : List ℕ). nation_cells x y holders₁ held₁ changes₁) n e
      ∙ ap₂ (λ (x y : List ℕ). nation_cells (written (nation_words (nations_of c)) nations₀) (written (entry_words (nations_of c)) entries₀) x y changes₁)
      o h
      ∙ ap (nation_cells (written (nation_words (nations_of c)) nations₀) (written (entry_words (nations_of c)) entries₀)
      (written (map holder_word (holders_of c)) holders₀) (written (held_of c) held₀)) d

-- ## An accepted record, and tables of its sizes

module _ (xs : List ℕ) (accepted : refusal xs ≡ 0) (z : TableSizes) (countries : z.countries ≡ length (campaign_of xs).countries)
    (changes : z.changes ≡ length (changes_of (campaign_of xs))) (slotted : z.slots ≡ suc (length (campaign_of xs).provinces)) where
  abbrev c : Campaign
  c = campaign_of xs

  -- The counts.
  module _ (r : Listed) (listed : r ≡ listed_of (nations_of c)) where
    counts-told : counts_from z r ≡ counts_of (answers_of c)
    unfolding counts_of answers_of holders_of held_of
    counts-told =
        counts_same _ _ _ _ _ _ _ _ _ _ (ap (λ (x : Listed). x.nations) listed) (ap (λ (x : Listed). x.entries) listed)
        (slotted ∙ sym (length-map (slots_of c) (λ slot. last_holder c slot (moves_of c)) ∙ length-slots c))
        (countries ∙ sym (length-map c.countries (λ k. count_of (matches k.tag) (holders_of c))))
        changes

  -- Whether all fits.
  module _ (before : NationCells) where
    abbrev nations_fit : Bool
    nations_fit = nations_for (listed_of (nations_of c)) (length before.nations) (length before.entries)

    abbrev rest_fit : Bool
    rest_fit = rest_for z (length before.holders) (length before.held) (length before.changes)

    fit_parts : all_fit (cells_of (answers_of c)) before ≡ (nations_fit && rest_fit)
    fit_parts =
        sym (room_fits (answers_of c) (counts_from z (listed_of (nations_of c))) before (counts-told (listed_of (nations_of c)) refl))
        ∙ regroup (leb (nation_width * (listed_of (nations_of c)).nations) (length before.nations)) (leb (entry_width * (listed_of (nations_of c)).entries) (length before.entries))
        (leb z.slots (length before.holders)) (leb z.countries (length before.held)) (leb (change_width * z.changes) (length before.changes))

    -- The rest does not.
    rest-short : rest_fit ≡ false → record { answer = refused 10; memory = before } ≡ call_nation_events xs before
    rest-short f = nations-short xs before accepted (fit_parts ∙ ap (λ (x : Bool). nations_fit && x) f ∙ and-false nations_fit)

    -- The nations do not.
    nations-not : nations_fit ≡ false → record { answer = refused 10; memory = before } ≡ call_nation_events xs before
    nations-not f = nations-short xs before accepted (fit_parts ∙ ap (λ (x : Bool). x && rest_fit) f)

    -- All does, and what is written is the answer.
    all-fit : rest_fit ≡ true → (slots : List ℕ) → take z.slots slots ≡ slot_cells c (holders_of c)
        → (r : Listed) (rows₁ entries₁ holders₁ held₁ changes₁ : List ℕ)
        → PlacedRows (nations_of c) r before.nations rows₁ before.entries entries₁
        → RestWritten xs z slots before.holders holders₁ before.held held₁ before.changes changes₁
        → (counts : NationCounts) → counts ≡ counts_from z r → record { answer = gives counts; memory = nation_cells rows₁ entries₁ holders₁ held₁ changes₁ }
        ≡ call_nation_events xs before
    all-fit f slots e r rows₁ entries₁ holders₁ held₁ changes₁ p w counts k =
        nations-rows xs before _ _ accepted
        (fit_parts ∙ ap₂ ◌&&◌ p.room f)
        (k ∙ counts-told r p.listed)
        (all-written c before.nations before.entries before.holders before.held before.changes rows₁ entries₁ holders₁ held₁ changes₁
        p.put.rows p.put.entries
        (w.slots.holders ∙ ap (λ (l : List ℕ). written l before.holders) (holder-words xs accepted (take z.slots slots) e))
        (w.slots.held
        ∙ ap (λ (l : List ℕ). written l before.held)
        (held-counted xs accepted (take z.slots slots) _ z.countries e countries refl))
        w.changes)

-- ## All gathered

module _ (xs : List ℕ) (z : TableSizes) (tags : List CountryTag) (initials runs keys targets slots started : List ℕ) (turns firsts : List LossGain)
    (q : Gathered xs z tags initials runs keys targets slots started turns firsts)
    {k p m n : ℕ} (room : TableRoom (length xs) k p m n) where
  abbrev accepted : refusal xs ≡ 0
  accepted = q.accepted

  abbrev front : Cells
  front = fronts_of z tags initials runs targets firsts started keys turns

  abbrev nations : List Nation
  nations = nations_at front (take z.countries initials)

  -- The fronts tell the campaign's nations.
  told : nations ≡ nations_of (campaign_of xs)
  told = cells_told (campaign_of xs) front q.cells

  pub fronts-inside : FrontsInside z k m n
  fronts-inside =
      let b = q.countries in
      let d = q.changes in
      let e = q.switches in
      let s = settling-count 0 (campaign_of xs).countries in
      record {
        countries = omega (arith, countries-fit xs accepted k room.countries);
        runs = omega (arith, settling-fit xs accepted m room.keys);
        targets = omega (arith, switches-fit xs accepted n room.changes);
        changes = omega (arith, changes-fit xs accepted n room.changes);
      }

  -- So they can be read.
  pub fronts-readable : Readable front
  fronts-readable = cells-readable (campaign_of xs) front q.cells

  -- What is left for the rest.
  rest-ready : RestReady xs z slots keys p n
  rest-ready =
      record {
        slots = omega (arith, q.slotted, slots-fit xs accepted p room.slots);
        changes = fronts-inside.changes;
        sorted = q.sorted;
      }

  module _ (b : Bool) (holders held changes : ℕ) (e : b ≡ rest_for z holders held changes) (rows₀ entries₀ : List ℕ) where
    -- The rest has no room.
    pub rest-refused : not b ≡ true → NoRoomTold xs holders held changes rows₀ rows₀ entries₀ entries₀
    rest-refused f =
        record {
          refuses = λ holders₀ held₀ changes₀ h d l.
              rest-short xs accepted z q.countries q.changes q.slotted (nation_cells rows₀ entries₀ holders₀ held₀ changes₀)
              (rw (h, d, l) (sym e ∙ not-true b f));
        }

    module _ (rows₁ entries₁ : List ℕ) where
      -- The nations have none.
      placed-refused : NonePlaced nations rows₀ rows₁ entries₀ entries₁ → NoRoomTold xs holders held changes rows₀ rows₁ entries₀ entries₁
      placed-refused p =
          record {
            refuses = λ holders₀ held₀ changes₀ h d l.
                ap₂ (λ (x y : List ℕ). record { answer = refused 10; memory = nation_cells x y holders₀ held₀ changes₀ }) p.rows p.entries
                ∙ nations-not xs accepted z q.countries q.changes q.slotted (nation_cells rows₀ entries₀ holders₀ held₀ changes₀)
                (subst (λ (ns : List Nation). nations_for (listed_of ns) (length rows₀) (length entries₀) ≡ false) told p.short);
          }

      -- All has room.
      placed-told : not b ≡ false → (r : Listed) → PlacedRows nations r rows₀ rows₁ entries₀ entries₁
          → NationsPlaced xs holders held changes z r slots keys p n rows₀ rows₁ entries₀ entries₁
      placed-told t r w =
          record {
            countries = q.countries;
            counted = q.changes;
            slotted = q.slotted;
            slots = q.slots;
            accepted = accepted;
            ready = rest-ready;
            rest = sym e ∙ not-false b t;
            placed = subst (λ (ns : List Nation). PlacedRows ns r rows₀ rows₁ entries₀ entries₁) told w;
          }

      -- Whatever the placing tells.
      module _ {r : code.Option Listed} (placed : placed_told nations r rows₀ rows₁ entries₀ entries₁) where
        pub none-placed : r ≡ None → NoRoomTold xs holders held changes rows₀ rows₁ entries₀ entries₁
        none-placed w = placed-refused (subst (λ (x : code.Option Listed). placed_told nations x rows₀ rows₁ entries₀ entries₁) w placed)

        pub rows-placed : not b ≡ false → {l : Listed} → r ≡ Some l
            → NationsPlaced xs holders held changes z l slots keys p n rows₀ rows₁ entries₀ entries₁
        rows-placed f {l} w = placed-told f l (subst (λ (x : code.Option Listed). placed_told nations x rows₀ rows₁ entries₀ entries₁) w placed)

-- ## The nations are written

module _ (xs : List ℕ) (rows₀ entries₀ holders₀ held₀ changes₀ : List ℕ) (z : TableSizes) (r : Listed)
    (slots keys : List ℕ) (p n : ℕ) (rows₁ entries₁ : List ℕ)
    (q : NationsPlaced xs (length holders₀) (length held₀) (length changes₀) z r slots keys p n rows₀ rows₁ entries₀ entries₁) where
  -- What the writing of the rest asks.
  pub rest-asked : RestReady xs z slots keys p n × RestRoom z slots holders₀ held₀ changes₀
  rest-asked =
      let h : Bool = leb z.slots (length holders₀) in
      let d : Bool = leb z.countries (length held₀) in
      let f : Bool = leb (change_width * z.changes) (length changes₀) in
      let two = and_left (h && d) f q.rest in
      let l = length-take z.slots slots in (
        q.ready,
        record {
          slots = record {
            holders = omega (arith, l, leb-true z.slots (length holders₀) (and_left h d two));
            held = leb-true z.countries (length held₀) (and_right h d two);
            few = omega (arith, l, q.slotted, provinces-few xs q.accepted);
          };
          changes = leb-true (change_width * z.changes) (length changes₀) (and_right (h && d) f q.rest);
        },
      )

  -- What is written is the answer.
  pub all-placed : (holders₁ held₁ changes₁ : List ℕ) → RestWritten xs z slots holders₀ holders₁ held₀ held₁ changes₀ changes₁
      → (counts : NationCounts) → counts ≡ counts_from z r → record { answer = gives counts; memory = nation_cells rows₁ entries₁ holders₁ held₁ changes₁ }
      ≡ call_nation_events xs (nation_cells rows₀ entries₀ holders₀ held₀ changes₀)
  all-placed holders₁ held₁ changes₁ w counts k =
      all-fit xs q.accepted z q.countries q.counted q.slotted (nation_cells rows₀ entries₀ holders₀ held₀ changes₀)
      q.rest slots q.slots r rows₁ entries₁ holders₁ held₁ changes₁ q.placed w counts k
