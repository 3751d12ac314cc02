-- Rules 1: the head, its limits, and where each section begins.
use Rattle.std.specs.Prelude.{Bool, ◌&&◌, List, ℕ, ◌+◌, ◌*◌, leb}
use Rattle.format.specs.declared.head.Head.{Head}
use Rattle.format.specs.Bytes.{byte_at, le16, le32, date_at}

-- The head's fields, each at its offset. (Rules 1.4)
unfoldable pub head_of : List ℕ → Head
head_of xs =
    record {
      version = le16 xs 3;
      flags = byte_at xs 5;
      start = date_at xs 6;
      current = date_at xs 10;
      countries = le16 xs 14;
      provinces = le16 xs 16;
      previous = le32 xs 18;
      switches = le32 xs 22;
      events = le32 xs 26;
      strings = le16 xs 30;
      wars = le16 xs 32;
      war_events = le32 xs 34;
      ledgers = le16 xs 38;
      points = le32 xs 40;
    }

-- At most 2,000 countries, and as many ledger names; 8,000 provinces; 20,000 previous tags, and as many switches; 60,000 owner events;
-- 1,000 strings; 5,000 wars with 100,000 events; 1,000,000 points. (Rules 1.4)
unfoldable pub within_limits : Head → Bool
within_limits h =
    leb h.countries 2000
    && leb h.provinces 8000
    && leb h.previous 20000
    && leb h.switches 20000
    && leb h.events 60000
    && leb h.strings 1000
    && leb h.wars 5000
    && leb h.war_events 100000
    && leb h.ledgers 2000
    && leb h.points 1000000

-- ## Widths

-- How many bytes the head takes, and a row of each section. (Rules 1.4)
abbrev pub head_bytes : ℕ
head_bytes = 44

abbrev pub country_bytes : ℕ
country_bytes = 12

abbrev pub previous_bytes : ℕ
previous_bytes = 3

abbrev pub switch_bytes : ℕ
switch_bytes = 7

abbrev pub province_bytes : ℕ
province_bytes = 7

abbrev pub owner_event_bytes : ℕ
owner_event_bytes = 7

abbrev pub war_bytes : ℕ
war_bytes = 2

abbrev pub war_event_bytes : ℕ
war_event_bytes = 8

abbrev pub ledger_bytes : ℕ
ledger_bytes = 5

abbrev pub point_bytes : ℕ
point_bytes = 6

-- ## Sections

-- They follow the head in this order, so each begins where the one before it ends. (Rules 1.5)
abbrev pub countries_at : Head → ℕ
countries_at h = head_bytes

abbrev pub previous_at : Head → ℕ
previous_at h = countries_at h + country_bytes * h.countries

abbrev pub switches_at : Head → ℕ
switches_at h = previous_at h + previous_bytes * h.previous

abbrev pub provinces_at : Head → ℕ
provinces_at h = switches_at h + switch_bytes * h.switches

abbrev pub events_at : Head → ℕ
events_at h = provinces_at h + province_bytes * h.provinces

abbrev pub wars_at : Head → ℕ
wars_at h = events_at h + owner_event_bytes * h.events

abbrev pub war_events_at : Head → ℕ
war_events_at h = wars_at h + war_bytes * h.wars

abbrev pub ledgers_at : Head → ℕ
ledgers_at h = war_events_at h + war_event_bytes * h.war_events

abbrev pub points_at : Head → ℕ
points_at h = ledgers_at h + ledger_bytes * h.ledgers

abbrev pub strings_at : Head → ℕ
strings_at h = points_at h + point_bytes * h.points
