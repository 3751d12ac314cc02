-- Every definition of the record by name: a law that says `unfolding computes` may compute with all of them.
use Rattle.format.specs.Tags.{tag_byte, is_tag, tested, created}
use Rattle.format.specs.Dates.{good_date, date_of_word}
use Rattle.format.specs.Days.{is_day}
use Rattle.format.specs.Bytes.{le16, le32, signed32, bit, tag_at, date_at, id_at}
use Rattle.format.specs.Head.{head_of, within_limits}
use Rattle.format.specs.Rows.{rows_at, country_at, switch_at, province_at, owner_event_at, war_event_at, ledger_at, point_at, strings_from, strings_end}
use Rattle.format.specs.Campaign.{group_countries, group_provinces, group_wars, group_ledgers, campaign_of}
use Rattle.format.specs.RecordNumber.{first_of, first_in, opens, totals_agree, length_agrees, sizes_agree, country_number, switch_number, owner_event_number, war_event_number, head_number, fields_number, tag_twice, id_twice_or_above, refusal}

unfoldable pub computes : Type 1
unfolding
    tag_byte is_tag tested created good_date date_of_word is_day le16 le32 signed32 bit tag_at date_at id_at head_of within_limits
    rows_at country_at switch_at province_at owner_event_at war_event_at ledger_at point_at strings_from strings_end
    group_countries group_provinces group_wars group_ledgers campaign_of
    first_of first_in opens totals_agree length_agrees sizes_agree country_number switch_number owner_event_number war_event_number head_number
    fields_number tag_twice id_twice_or_above refusal
computes = Type 0
