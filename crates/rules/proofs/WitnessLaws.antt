-- The guarantee used on the worked record with wars in it: every premise is met there, by computation, and what it gives are true facts in numbers
-- and tags. They are had from its statement alone, so that one with emptier premises or a weaker sentence would not give them.
use mathlib.Core.Path.{◌≡◌, refl}
use mathlib.Core.List.{List, [], ◌∷◌}
use mathlib.Core.Option.{some}
use Prim.Native.Nat.{ℕ, ◌+◌}
use lib.ListN.{get_elem?}
use Rattle.lists.specs.Lists.{one}
use Rattle.format.specs.declared.tag.CountryTag.{CountryTag}
use Rattle.format.specs.declared.date.Eu4Date.{Eu4Date}
use Rattle.format.specs.Campaign.{campaign_of}
use Rattle.format.specs.declared.values.Booking.{Booking}
use Rattle.format.specs.declared.values.NationCounts.{NationCounts}
use Rattle.format.specs.declared.values.EntryKind.TheVariants.{TagSwitch, Appeared, Annexed}
use Rattle.rules.specs.Chronicle.{is_appeared, is_annexed, Nation}
use Rattle.rules.specs.Lent.{gives, Outcome}
use Rattle.rules.specs.Holding.{holds_on}
use Rattle.rules.specs.NationRows.{nations_in}
use Rattle.rules.specs.Outcomes.{NationCells, call_nation_events, call_resolve_on, call_war_participants}
use Rattle.rules.specs.Guarantee.{counted, nations_given, entries_given, changes_given, bookings_given, Chronicled, FinishedChronicle}
use Rattle.rules.specs.CallNumbers.{asked_tag, asked_date}
use Rattle.rules.specs.Finished.{LentSlices, FinishedAnswer, call_finish_chronicle, chronicle_left, nations_left, bookings_left, FinishedCells}
use Rattle.rules.specs.cases.Worked.{ENG, GBR, FRA, dated, starts_on, worked_wars}
use Rattle.rules.specs.Table.{sevens}
use Rattle.rules.specs.cases.CaseForms.{change, nation, turned, came, went, rows}
use Rattle.rules.proofs.Computes.{computes}
use Rattle.rules.proofs.GuaranteeLaws.{finished_chronicle}
use Rattle.rules.proofs.FinishedLaws.{finished}

-- ## The two nations, and the words that tell them

abbrev pub gbr : Nation
gbr =
    record {
      initial = ENG;
      latest = GBR;
      stored = GBR;
      entries =
          record { date = dated 14460101; kind = Annexed }
          ∷ record { date = dated 14470101; kind = Appeared }
          ∷ record { date = dated 14480601; kind = TagSwitch GBR }
          ∷ [];
    }

abbrev pub fra : Nation
fra = record { initial = FRA; latest = FRA; stored = FRA; entries = [] }

abbrev pub nations : List ℕ
nations = rows (nation "ENG" "GBR" "GBR" 0 3 ∷ nation "FRA" "FRA" "FRA" 3 0 ∷ [])

abbrev pub entries : List ℕ
entries = rows (went 14460101 ∷ came 14470101 ∷ turned 14480601 "GBR" ∷ [])

-- Room enough, and a cell or two to spare.
abbrev pub lent : NationCells
lent = record { nations = sevens 11; entries = sevens 10; holders = sevens 3; held = sevens 2; changes = sevens 9 }

-- ## What it gives

-- The living equation of a nation and a day: S, appeared, L and annexed are these numbers, and of them it holds.
abbrev pub Balance : List ℕ → Nation → Eu4Date → ℕ → ℕ → ℕ → ℕ → Type 0
Balance xs n day s appears l annexes =
    (one (holds_on (campaign_of xs) (campaign_of xs).start n.stored) ≡ s)
    × (counted is_appeared (campaign_of xs).start day n.entries ≡ appears)
    × (one (holds_on (campaign_of xs) day n.stored) ≡ l)
    × (counted is_annexed (campaign_of xs).start day n.entries ≡ annexes)
    × (s + appears ≡ l + annexes)

-- Set to a day and asked for a tag on it, the resolver finds that tag, and whose it is.
abbrev pub Resolves : ℕ → CountryTag → CountryTag → Type 0
Resolves day tag stored = call_resolve_on nations entries day tag.0 day ≡ gives (some (record { current = tag; stored = stored }))

-- The row of the bookings with a number.
abbrev pub Books : ℕ → Booking → Type 0
Books k b = get_elem? (bookings_given (call_war_participants worked_wars nations entries (sevens 16))) k ≡ some b

-- What nations does with the record.
abbrev pub done : Outcome NationCounts NationCells
done = call_nation_events worked_wars lent

pub record Witnessed : Type 0 where
  pub answer : done.answer ≡ gives (record { nations = 2; entries = 3; slots = 3; countries = 2; changes = 2 })
  pub changes : changes_given done ≡ rows (change 14460101 1 "ENG" "FRA" ∷ change 14470101 2 "FRA" "ENG" ∷ [])
  pub listed : nations_in (nations_given done) (entries_given done) ≡ gbr ∷ fra ∷ []
  -- The start day, on which GBR is ENG.
  pub start_day : Balance worked_wars gbr (dated 14441111) 1 0 1 0 × Resolves 14441111 ENG GBR × Books 1 (record { war = 0; tag = ENG; stored = GBR })
  -- The day on which it is annexed, when it holds nothing and is found all the same, and that on which it has risen again. War 1 has a
  -- removal first, which makes no row.
  pub gone : Balance worked_wars gbr (dated 14460101) 1 0 0 1 × Resolves 14460101 ENG GBR × Books 2 (record { war = 1; tag = ENG; stored = GBR })
  pub back : Balance worked_wars gbr (dated 14470101) 1 1 1 1
  -- The day from which on it is GBR, then FRA on that day.
  pub switch_day : Balance worked_wars gbr (dated 14480601) 1 1 1 1 × Resolves 14480601 GBR GBR × Books 4 (record { war = 2; tag = GBR; stored = GBR })
  pub other : Balance worked_wars fra (dated 14480601) 1 0 1 0 × Resolves 14480601 FRA FRA × Books 3 (record { war = 2; tag = FRA; stored = FRA })
  -- A day long after the current date.
  pub last_day : Balance worked_wars gbr (dated 99991231) 1 1 1 1 × Resolves 99991231 GBR GBR
  -- With the day on which GBR is annexed for a start: that entry is not counted, and GBR does not hold on the start day.
  pub annexed_at_start : Balance (starts_on 14460101) gbr (dated 14470101) 0 1 1 0

-- ## From the statement alone

module _ (finished : (xs : List ℕ) → FinishedChronicle xs) where
  chronicled : Chronicled worked_wars done
  unfolding computes
  chronicled = (finished worked_wars).holds refl lent refl

  moved : Chronicled (starts_on 14460101) (call_nation_events (starts_on 14460101) lent)
  unfolding computes
  moved = (finished (starts_on 14460101)).holds refl lent refl

  witnessed : Witnessed
  unfolding computes
  witnessed =
      let first = chronicled.on_day 0 gbr (dated 14441111) refl refl refl in
      let without = chronicled.on_day 0 gbr (dated 14460101) refl refl refl in
      let later = chronicled.on_day 0 gbr (dated 14480601) refl refl refl in
      let last = chronicled.on_day 0 gbr (dated 99991231) refl refl refl in
      let beside = chronicled.on_day 1 fra (dated 14480601) refl refl refl in
      record {
        answer = chronicled.answer;
        changes = chronicled.changes;
        listed = chronicled.nations;
        start_day = (
          (refl, refl, refl, refl, first.living),
          first.resolver refl,
          first.bookings refl (sevens 16) refl 1 (record { war = 0; date = dated 14441111; tag = ENG }) refl refl refl,
        );
        gone = (
          (refl, refl, refl, refl, without.living),
          without.resolver refl,
          without.bookings refl (sevens 16) refl 2 (record { war = 1; date = dated 14460101; tag = ENG }) refl refl refl,
        );
        back = (refl, refl, refl, refl, (chronicled.on_day 0 gbr (dated 14470101) refl refl refl).living);
        switch_day = (
          (refl, refl, refl, refl, later.living),
          later.resolver refl,
          later.bookings refl (sevens 16) refl 4 (record { war = 2; date = dated 14480601; tag = GBR }) refl refl refl,
        );
        other = (
          (refl, refl, refl, refl, beside.living),
          beside.resolver refl,
          beside.bookings refl (sevens 16) refl 3 (record { war = 2; date = dated 14480601; tag = FRA }) refl refl refl,
        );
        last_day = ((refl, refl, refl, refl, last.living), last.resolver refl);
        annexed_at_start = (refl, refl, refl, refl, (moved.on_day 0 gbr (dated 14470101) refl refl refl).living);
      }

pub witness : Witnessed
witness = witnessed finished_chronicle

-- ## The one call

-- On the same record it is asked for ENG on the day on which GBR, which wears it, is annexed.
abbrev pub slices : LentSlices
slices = record { chronicle = lent; bookings = sevens 16 }

abbrev pub finished_worked : Outcome FinishedAnswer LentSlices
finished_worked = call_finish_chronicle worked_wars ENG.0 14460101 slices

abbrev pub answered_worked : FinishedAnswer
answered_worked =
    record {
      counts = record { nations = 2; entries = 3; slots = 3; countries = 2; changes = 2 };
      found = some (record { current = ENG; stored = GBR });
      bookings = 5;
    }

-- The row of the bookings with a number, read from the cells left.
abbrev pub LeavesBooked : ℕ → Booking → Type 0
LeavesBooked k b = get_elem? (bookings_left answered_worked finished_worked.memory) k ≡ some b

pub record FinishedWitnessed : Type 0 where
  pub changes :
      changes_given (chronicle_left answered_worked finished_worked.memory)
      ≡ rows (change 14460101 1 "ENG" "FRA" ∷ change 14470101 2 "FRA" "ENG" ∷ [])
  pub listed : nations_left answered_worked finished_worked.memory ≡ gbr ∷ fra ∷ []
  pub gone : Balance worked_wars gbr (dated 14460101) 1 0 0 1
  pub found : answered_worked.found ≡ some (record { current = ENG; stored = GBR })
  -- That day, and a later one on which it goes by another tag.
  pub booked : LeavesBooked 2 (record { war = 1; tag = ENG; stored = GBR })
  pub booked_later : LeavesBooked 4 (record { war = 2; tag = GBR; stored = GBR })

-- From the statement alone.
module _
    (finished :
    (xs : List ℕ) (tag day : ℕ) (before : LentSlices) (f : FinishedAnswer)
    → (call_finish_chronicle xs tag day before).answer ≡ gives f
    → FinishedCells xs (asked_tag tag) (asked_date day) f (call_finish_chronicle xs tag day before).memory) where
  cells : FinishedCells worked_wars ENG (dated 14460101) answered_worked finished_worked.memory
  unfolding computes
  cells = finished worked_wars ENG.0 14460101 slices answered_worked refl

  finished-witnessed : FinishedWitnessed
  unfolding computes
  finished-witnessed =
      record {
        changes = cells.changes;
        listed = cells.nations;
        gone = (refl, refl, refl, refl, cells.living 0 gbr (dated 14460101) refl refl refl);
        found = cells.found 0 gbr refl refl refl refl;
        booked = cells.booked 0 gbr (dated 14460101) refl refl refl refl 2 (record { war = 1; date = dated 14460101; tag = ENG }) refl refl refl;
        booked_later = cells.booked 0 gbr (dated 14480601) refl refl refl refl 4 (record { war = 2; date = dated 14480601; tag = GBR }) refl refl refl;
      }

pub finished-witness : FinishedWitnessed
finished-witness = finished-witnessed finished
