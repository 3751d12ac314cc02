-- The edges of the chronicle and the worked page (Rules 12.11), computed by the definitions and as they are laid down. That the two are
-- the same is one theorem, proofs/TableLaws.
use Rattle.std.specs.Prelude.{Bool, true, false, List, [], ◌∷◌, ◌++◌, ℕ, length, take, replicate}
use Rattle.std.proofs.Math.Option.{Option, none, some}
use Rattle.lists.specs.Lists.{keep, any_of, join_of}
use Rattle.lists.specs.Text.{ascii}
use Rattle.format.specs.declared.tag.CountryTag.{CountryTag}
use Rattle.format.specs.declared.date.Eu4Date.{Eu4Date}
use Rattle.format.specs.Tags.{same_tag}
use Rattle.format.specs.Campaign.{campaign_of}
use Rattle.format.specs.RecordNumber.{refusal}
use Rattle.format.specs.declared.values.Entry.{Entry}
use Rattle.format.specs.declared.values.TagData.{TagData}
use Rattle.format.specs.declared.values.EntryKind.TheVariants.{TagSwitch, Appeared, Annexed}
use Rattle.rules.specs.Chronicle.{Nation}
use Rattle.rules.specs.Lent.{Answer, gives, Outcome}
use Rattle.rules.specs.Nations.{nations_of}
use Rattle.rules.specs.NationRows.{nation_words, entry_words, nations_in}
use Rattle.rules.specs.Holding.{wears}
use Rattle.rules.specs.Outcomes.{call_resolve, call_resolve_on, call_initial_on, call_nation_ledger}
use Rattle.rules.specs.Guarantee.{is_named}
use Rattle.rules.specs.cases.Worked.{ENG, GBR, dated, worked, starts_on, worked_ledger, same_day}
use Rattle.rules.specs.PageOutcomes.{call_page, call_program}

-- ## What is asked

-- The nation and entry words that nations writes for a record.
abbrev pub written_nations : List ℕ → List ℕ
written_nations xs = nation_words (nations_of (campaign_of xs))

abbrev pub written_entries : List ℕ → List ℕ
written_entries xs = entry_words (nations_of (campaign_of xs))

-- The entries of the nation stored under a tag, read from those rows.
abbrev pub entries_stored : CountryTag → List ℕ → List Entry
entries_stored t xs = join_of (λ n. n.entries) (keep (λ n. same_tag n.stored t) (nations_in (written_nations xs) (written_entries xs)))

-- Of a list of nations, what the first wears on a day, and whether that names any of the others: if it does not, the nation wears its tag
-- alone, as the guarantee asks.
abbrev pub first_wears : List Nation → Eu4Date → Option CountryTag
first_wears [] day = none
first_wears (n ∷ others) day = some (wears n day)

abbrev pub names_others : List Nation → Eu4Date → Bool
names_others [] day = true
names_others (n ∷ others) day = any_of (is_named (wears n day)) others

-- Selection GBR, FRA. (Rules 9.10)
abbrev pub selection : List ℕ
selection = ascii "GBR\nFRA\n"

-- So many lent cells, each with a 7 in it.
abbrev pub sevens : ℕ → List ℕ
sevens n = replicate n 7

-- The cases, a field each. (Rules 12.11)
pub record Starred : Type 0 where
  pub bytes : ℕ
  pub whole : ℕ
  pub cut : ℕ
  pub last_of_february : ℕ
  pub leap_day : ℕ
  pub entries : List Entry
  pub before_switch : Answer (Option TagData)
  pub on_switch : Answer (Option TagData)
  pub set_resolve : Answer (Option TagData)
  pub set_initial : Answer (Option TagData)
  pub worn : Option CountryTag
  pub worn_by_others : Bool
  pub ledger : Outcome ℕ (List ℕ)
  pub same_day_whole : ℕ
  pub same_day_entries : List Entry
  pub page : Outcome ℕ (List ℕ)
  pub printed : List ℕ
  pub empty_page : List ℕ

-- By the definitions. GBR is nation 0 of the worked record; ledger and page are lent two cells more than they need. (Rules 12.11)
unfoldable pub computed : Starred
computed =
    record {
      bytes = length worked;
      whole = refusal worked;
      cut = refusal (take 102 worked);
      last_of_february = refusal (starts_on 14440228);
      leap_day = refusal (starts_on 14440229);
      entries = entries_stored GBR worked;
      before_switch = call_resolve (written_nations worked) (written_entries worked) GBR.0 14480531;
      on_switch = call_resolve (written_nations worked) (written_entries worked) GBR.0 14480601;
      set_resolve = call_resolve_on (written_nations worked) (written_entries worked) 14480531 ENG.0 14480531;
      set_initial = call_initial_on (written_nations worked) (written_entries worked) 14480531 ENG.0;
      worn = first_wears (nations_in (written_nations worked) (written_entries worked)) (dated 14480601);
      worn_by_others = names_others (nations_in (written_nations worked) (written_entries worked)) (dated 14480601);
      ledger = call_nation_ledger worked_ledger (written_nations worked_ledger) (written_entries worked_ledger) 0 (sevens 20);
      same_day_whole = refusal same_day;
      same_day_entries = entries_stored GBR same_day;
      page = call_page worked selection (sevens 55);
      printed = call_program (some worked) selection;
      empty_page = call_program (some worked) [];
    }

-- ## As they are laid down

-- Of GBR in the worked record.
abbrev pub expected_entries : List Entry
expected_entries =
    record { date = dated 14460101; kind = Annexed }
    ∷ record { date = dated 14470101; kind = Appeared }
    ∷ record { date = dated 14480601; kind = TagSwitch GBR }
    ∷ []

-- Of GBR when its only slot goes from ENG to GBR.
abbrev pub expected_same_day : List Entry
expected_same_day =
    record { date = dated 14470101; kind = Annexed }
    ∷ record { date = dated 14470101; kind = Appeared }
    ∷ record { date = dated 14480601; kind = TagSwitch GBR }
    ∷ []

-- ENG's years up to the switch, then GBR's up to the current date.
abbrev pub expected_ledger : List ℕ
expected_ledger =
    ENG.0 ∷ 1445 ∷ 10
    ∷ ENG.0 ∷ 1446 ∷ 0
    ∷ ENG.0 ∷ 1447 ∷ 12
    ∷ ENG.0 ∷ 1448 ∷ 0
    ∷ GBR.0 ∷ 1449 ∷ 20
    ∷ GBR.0 ∷ 1450 ∷ 0
    ∷ []

-- The page of selection GBR, FRA. (Rules 9.10)
abbrev pub expected_page : List ℕ
expected_page =
    ascii "selected 2\n"
    ++ ascii "GBR ENG GBR 3 living\n"
    ++ ascii "FRA FRA FRA 0 living\n"

-- The values of the edges, with the last two cells lent to ledger and page as they were. (Rules 12.11)
unfoldable pub expected : Starred
expected =
    record {
      bytes = 103;
      whole = 0;
      cut = 3;
      last_of_february = 0;
      leap_day = 5;
      entries = expected_entries;
      before_switch = gives none;
      on_switch = gives (some (record { current = GBR; stored = GBR }));
      set_resolve = gives (some (record { current = ENG; stored = GBR }));
      set_initial = gives none;
      worn = some GBR;
      worn_by_others = false;
      ledger = record { answer = gives 6; memory = expected_ledger ++ sevens 2 };
      same_day_whole = 0;
      same_day_entries = expected_same_day;
      page = record { answer = gives 53; memory = expected_page ++ sevens 2 };
      printed = expected_page;
      empty_page = ascii "selected 0\n";
    }
