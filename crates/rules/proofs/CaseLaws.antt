-- The computed cases hold of the definitions. An edit of a rule that changes one of them is refused here.
use mathlib.Core.Path.{◌≡◌, refl}
use mathlib.Core.List.{List, []}
use Prim.Native.Nat.{ℕ}
use lib.ListN.{length}
use Rattle.lists.specs.Lists.{join_of}
use Rattle.format.specs.Campaign.{Campaign, campaign_of}
use Rattle.format.specs.RecordNumber.{refusal, first_of}
use Rattle.rules.specs.Chronicle.{Nation}
use Rattle.rules.specs.Lent.{refused}
use Rattle.rules.specs.Changes.{changes_of}
use Rattle.rules.specs.Nations.{nations_of}
use Rattle.rules.specs.NationRows.{nations_in}
use Rattle.rules.specs.CallNumbers.{chronicle_number, numbered_number}
use Rattle.rules.specs.PlayerOutcomes.{HistoryCells, call_player_histories}
use Rattle.rules.specs.Page.{selection_of}
use Rattle.rules.specs.PageOutcomes.{bytes_number, selection_number, limits_number, page_number}
use Rattle.rules.specs.cases.CaseForms.{Hold}
use Rattle.rules.specs.cases.RecordCases.{change_cases, events_on_cases, nation_cases, holder_cases, worn_cases, day_cases, counted_cases}
use Rattle.rules.specs.cases.LentCases.{resolve_cases, day_resolve_cases, asked_cases, shape_cases, misshapen_cases, booking_cases, ledger_cases}
use Rattle.rules.specs.cases.FinishedCases.{finished_cases, unfinished_cases}
use Rattle.rules.specs.cases.QuestionCases.{question_cases}
use Rattle.rules.specs.cases.LedgerCases.{room_cases, span_cases, ledgers_cases}
use Rattle.rules.specs.cases.PlayerCases.{player_cases, release_cases, history_cases, order_cases, starting_cases, starting_shape_cases}
use Rattle.rules.specs.cases.PageCases.{page_cases, decimal_cases, same_stored_cases, page_room_cases}
use Rattle.rules.proofs.Computes.{computes}

pub changes : Hold change_cases × Hold events_on_cases
unfolding computes change_cases events_on_cases
changes = ((refl, (refl, (refl, (refl, tt)))), (refl, (refl, (refl, (refl, (refl, (refl, (refl, tt))))))))

pub nations : Hold nation_cases
unfolding computes nation_cases
nations = (refl, (refl, (refl, (refl, (refl, (refl, (refl, (refl, tt))))))))

pub days : Hold holder_cases × Hold worn_cases × Hold day_cases × Hold counted_cases
unfolding computes holder_cases worn_cases day_cases counted_cases
days = ((refl, (refl, (refl, (refl, (refl, tt))))), (refl, (refl, (refl, (refl, (refl, tt))))), (refl, (refl, (refl, (refl, (refl, (refl, (refl, tt))))))), (refl, (refl, (refl, tt))))

pub resolver : Hold resolve_cases × Hold day_resolve_cases × Hold asked_cases
unfolding computes resolve_cases day_resolve_cases asked_cases
resolver = ((refl, (refl, (refl, (refl, (refl, (refl, (refl, (refl, (refl, (refl, tt)))))))))), (refl, (refl, (refl, (refl, (refl, (refl, (refl, (refl, (refl, (refl, tt)))))))))), (refl, (refl, (refl, (refl, (refl, (refl, (refl, (refl, tt)))))))))

pub shapes : Hold shape_cases × Hold misshapen_cases
unfolding computes shape_cases misshapen_cases
shapes = ((refl, (refl, tt)), (refl, (refl, (refl, tt))))

pub bookings : Hold booking_cases
unfolding computes booking_cases
bookings = (refl, (refl, (refl, (refl, (refl, tt)))))

pub ledger : Hold ledger_cases
unfolding computes ledger_cases
ledger = (refl, (refl, (refl, (refl, (refl, (refl, (refl, (refl, (refl, tt)))))))))

pub finished : Hold finished_cases × Hold unfinished_cases
unfolding computes finished_cases unfinished_cases
finished = ((refl, (refl, (refl, tt))), (refl, (refl, (refl, (refl, (refl, (refl, (refl, (refl, (refl, (refl, tt)))))))))))

pub questions : Hold question_cases
unfolding computes question_cases
questions = (refl, (refl, (refl, (refl, (refl, (refl, (refl, (refl, (refl, tt)))))))))

pub room_needed : Hold room_cases
unfolding computes room_cases
room_needed = (refl, (refl, (refl, (refl, (refl, (refl, (refl, (refl, tt))))))))

pub ledgers : Hold span_cases × Hold ledgers_cases
unfolding computes span_cases ledgers_cases
ledgers = ((refl, (refl, tt)), (refl, (refl, (refl, (refl, (refl, (refl, (refl, tt))))))))

pub players : Hold player_cases × Hold release_cases × Hold history_cases
unfolding computes player_cases release_cases history_cases
players = ((refl, (refl, (refl, (refl, tt)))), (refl, (refl, (refl, (refl, (refl, (refl, (refl, (refl, (refl, (refl, tt)))))))))), (refl, (refl, (refl, (refl, (refl, tt))))))

pub order : Hold order_cases
unfolding computes order_cases
order = (refl, (refl, (refl, tt)))

pub starting : Hold starting_cases × Hold starting_shape_cases
unfolding computes starting_cases starting_shape_cases
starting = ((refl, (refl, (refl, (refl, (refl, (refl, tt)))))), (refl, (refl, (refl, (refl, (refl, (refl, tt)))))))

pub page : Hold page_cases × Hold decimal_cases × Hold same_stored_cases × Hold page_room_cases
unfolding computes page_cases decimal_cases same_stored_cases page_room_cases
page = ((refl, (refl, (refl, (refl, (refl, (refl, (refl, (refl, (refl, (refl, (refl, (refl, (refl, tt))))))))))))), (refl, (refl, (refl, (refl, (refl, (refl, tt)))))), (refl, tt), (refl, (refl, (refl, tt))))

-- All of them.
pub cases :
    (Hold change_cases × Hold events_on_cases)
    × Hold nation_cases
    × (Hold holder_cases × Hold worn_cases × Hold day_cases × Hold counted_cases)
    × (Hold resolve_cases × Hold day_resolve_cases × Hold asked_cases)
    × (Hold shape_cases × Hold misshapen_cases)
    × Hold booking_cases
    × Hold ledger_cases
    × (Hold finished_cases × Hold unfinished_cases)
    × Hold question_cases
    × Hold room_cases
    × (Hold span_cases × Hold ledgers_cases)
    × (Hold player_cases × Hold release_cases × Hold history_cases)
    × Hold order_cases
    × (Hold starting_cases × Hold starting_shape_cases)
    × (Hold page_cases × Hold decimal_cases × Hold same_stored_cases × Hold page_room_cases)
cases = (changes, nations, days, resolver, shapes, bookings, ledger, finished, questions, room_needed, ledgers, players, order, starting, page)

-- Campaigns at the page's limits are too large to compute with: these hold of any campaign of that size.
module _ (c : Campaign) where
  abbrev entries : ℕ
  entries = length (join_of (λ n. n.entries) (nations_of c))

  pub at-limits : length (changes_of c) ≡ 4000 → entries ≡ 5000 → limits_number c ≡ 0
  unfolding limits_number
  at-limits h k = simp (h, k)

  pub changes-over : length (changes_of c) ≡ 4001 → limits_number c ≡ 10
  unfolding limits_number
  changes-over h = simp h

  pub entries_over : length (changes_of c) ≡ 4000 → entries ≡ 5001 → limits_number c ≡ 10
  unfolding limits_number
  entries_over h k = simp (h, k)

-- Likewise bytes beyond the limit, of a record and of a selection: they are found before all else, and at the limit they are not.
module _ (xs selection : List ℕ) where
  pub record-over : length xs ≡ 65537 → page_number xs selection ≡ 10
  unfolding page_number first_of bytes_number
  record-over h = simp h

  pub selection-over : length xs ≡ 65536 → length selection ≡ 65537 → page_number xs selection ≡ 10
  unfolding page_number first_of bytes_number
  selection-over h k = simp (h, k)

  pub bytes-within : length xs ≡ 65536 → length selection ≡ 65536 → bytes_number xs selection ≡ 0
  unfolding bytes_number
  bytes-within h k = simp (h, k)

-- Likewise of a record of that size: a selection that is no tags is found before the record's limits.
pub tags-before-limits : (xs selection : List ℕ) → bytes_number xs selection ≡ 0 → refusal xs ≡ 0 → selection_number (selection_of selection) ≡ 12
    → limits_number (campaign_of xs) ≡ 10 → page_number xs selection ≡ 12
unfolding page_number first_of
tags-before-limits xs selection b r s l = simp (b, r, s, l)

-- The limits are found last, whatever is selected, and if nothing is.
pub limits-last : (xs selection : List ℕ) → bytes_number xs selection ≡ 0 → refusal xs ≡ 0 → selection_number (selection_of selection) ≡ 0
    → limits_number (campaign_of xs) ≡ 10 → page_number xs selection ≡ 10
unfolding page_number first_of
limits-last xs selection b r s l = simp (b, r, s, l)

pub limits-of-nothing : (xs : List ℕ) → bytes_number xs [] ≡ 0 → refusal xs ≡ 0 → limits_number (campaign_of xs) ≡ 10 → page_number xs [] ≡ 10
unfolding selection_of
limits-of-nothing xs b r l = limits-last xs [] b r refl l

-- Likewise more nations than a word can number: at the limit they are numbered.
module _ (ns : List Nation) where
  pub numbered : length ns ≡ 4294967295 → numbered_number ns ≡ 0
  numbered h = simp h

  pub numbered-over : length ns ≡ 4294967296 → numbered_number ns ≡ 11
  numbered-over h = simp h

-- They are refused before the room is looked at, and behind the record.
module _ (xs ws es : List ℕ) (before : HistoryCells) where
  pub over-before-room : refusal xs ≡ 0 → chronicle_number ws es ≡ 0 → numbered_number (nations_in ws es) ≡ 11
      → call_player_histories xs ws es before ≡ record { answer = refused 11; memory = before }
  unfolding call_player_histories first_of
  over-before-room r c n = simp (r, c, n)

  pub record-before-over : refusal xs ≡ 5 → numbered_number (nations_in ws es) ≡ 11
      → call_player_histories xs ws es before ≡ record { answer = refused 5; memory = before }
  unfolding call_player_histories first_of
  record-before-over r n = simp (r, n)
