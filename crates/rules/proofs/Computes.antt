-- Every definition of record and rules by name: a law that says `unfolding computes` may compute with all of them.
use Rattle.sorting.specs.Sort.{insert_by, sort_by}
use Rattle.format.proofs.Computes.{computes as record-computes}
use Rattle.rules.specs.Changes.{changes_from, changes_of, events_on, change_rows}
use Rattle.rules.specs.Nations.{initial_from, switch_chain, maps_to, slots_of, start_tag, start_holder, start_holders, all_switches, settles, moves_of, turns_from, turns_of, turn_entries, turn_count, lives_from, lives_of, entries_of, held_ever, listed_countries, nations_of, last_holder, holders_of, held_of}
use Rattle.rules.specs.NationRows.{nation_rows_from, nation_words, entry_words, nation_rows_in, entry_rows_in, nations_in, kind_shaped, without_gap, well_shaped}
use Rattle.rules.specs.Holding.{holder_on, holds_on, wears}
use Rattle.rules.specs.Resolver.{resolved_nation, resolve, initial, resolve_on, initial_on}
use Rattle.rules.specs.Bookings.{joinings_from, booking_of, bookings_of, booking_rows, bookings_in}
use Rattle.rules.specs.Ledger.{spans_from, spans_of, zeros, filled, row_points, span_points, nation_ledger, point_rows}
use Rattle.rules.specs.Players.{pairs_from, player_of, players_of, player_rows}
use Rattle.rules.specs.Histories.{history_of, names_of, played_histories, is_released, arranged, histories_of, names_in}
use Rattle.rules.specs.HistoryRows.{history_rows_from, history_words, history_rows_in, histories_shaped}
use Rattle.rules.specs.StartingCountry.{starting_of, starting_country}
use Rattle.rules.specs.Outcomes.{call_province_owners, call_events_on, answers_of, cells_of, counts_of, call_nation_events, call_resolve, call_initial, call_resolve_on, call_initial_on, call_war_participants, call_nation_ledger, call_nation_ledger_rows, ledger_cells_of, call_nation_ledgers}
use Rattle.rules.specs.Questions.{questions_in, answer_rows, call_resolve_each}
use Rattle.rules.specs.PlayerOutcomes.{call_players, history_cells_of, history_counts_of, call_player_histories, call_starting_country}
use Rattle.rules.specs.Readings.{lives_by_slots, said_from}
use Rattle.rules.specs.Finished.{finished_cells_of, finished_answer_of, call_finish_chronicle}
use Rattle.rules.specs.Page.{selection_of, digits, line, is_living, tag_line, page_text}
use Rattle.rules.specs.PageOutcomes.{bytes_number, limits_number, page_number, page_of, call_page, call_program}

unfoldable pub computes : Type 1
unfolding
    record-computes insert_by sort_by changes_from changes_of events_on change_rows
    initial_from switch_chain maps_to slots_of start_tag start_holder start_holders all_switches settles moves_of turns_from turns_of turn_entries
    turn_count lives_from lives_of entries_of held_ever listed_countries nations_of last_holder holders_of held_of
    nation_rows_from nation_words entry_words nation_rows_in entry_rows_in nations_in kind_shaped without_gap well_shaped
    holder_on holds_on wears resolved_nation resolve initial resolve_on initial_on joinings_from booking_of bookings_of booking_rows bookings_in
    spans_from spans_of zeros filled row_points span_points nation_ledger point_rows pairs_from player_of players_of player_rows
    history_of names_of played_histories is_released arranged histories_of names_in history_rows_from history_words history_rows_in histories_shaped
    starting_of starting_country
    call_province_owners call_events_on answers_of cells_of counts_of call_nation_events call_resolve call_initial call_resolve_on call_initial_on
    call_war_participants call_nation_ledger call_nation_ledger_rows ledger_cells_of call_nation_ledgers questions_in answer_rows call_resolve_each call_players history_cells_of history_counts_of call_player_histories call_starting_country
    lives_by_slots said_from finished_cells_of finished_answer_of call_finish_chronicle
    selection_of digits line is_living tag_line page_text bytes_number limits_number page_number page_of call_page call_program
computes = Type 0
