-- Computed cases of the writing: the bytes of a row of each section, of the worked record, of a record with some of everything, and of one with a
-- tail. An edit of a definition that changes one of them is refused here. No rule stands here.
use mathlib.Core.Path.{◌≡◌, refl}
use mathlib.Core.Bool.{true, false}
use mathlib.Core.List.{[], ◌∷◌}
use Prim.Native.Nat.{ℕ}
use Prim.Native.String.{String}
use lib.IntN.{pos, negsuc}
use lib.ListN.{get_or}
use Rattle.lists.specs.Text.{ascii}
use Rattle.format.specs.declared.tag.CountryTag.{CountryTag}
use Rattle.format.specs.declared.date.Eu4Date.{Eu4Date}
use Rattle.format.specs.declared.rows.Switch.{Switch}
use Rattle.format.specs.declared.rows.OwnerEvent.{OwnerEvent}
use Rattle.format.specs.Tags.{tag_of}
use Rattle.format.specs.Campaign.{Country, Campaign}
use Rattle.packing.specs.Packing.{country_packed, tag_packed, switch_packed, province_packed, owner_event_packed, war_packed, war_event_packed, ledger_packed, point_packed, string_packed, head_packed, country_row, province_row, ledger_row, head_for, pack_with, pack}

abbrev tag : String → CountryTag
tag s = tag_of (get_or (ascii s) 0 0) (get_or (ascii s) 1 0) (get_or (ascii s) 2 0)

abbrev date : ℕ → Eu4Date
date d = record { 0 = d }

-- ## A row of each section

abbrev switched : ℕ → String → Switch
switched d from = record { date = date d; from = tag from }

abbrev owned_by : ℕ → String → OwnerEvent
owned_by d new = record { date = date d; tag = tag new }

-- GBR, once a player's, with -2 cities: three previous tags and one switch.
abbrev Britain : Country
Britain =
    record {
      tag = tag "GBR";
      human = false;
      was_player = true;
      has_switched_nation = false;
      cities = negsuc 1;
      previous = tag "ENG" ∷ tag "SCO" ∷ tag "---" ∷ [];
      switches = switched 14480601 "ENG" ∷ [];
    }

pub country_case : country_packed (country_row Britain) ≡ 71 ∷ 66 ∷ 82 ∷ 2 ∷ 254 ∷ 255 ∷ 255 ∷ 255 ∷ 3 ∷ 0 ∷ 1 ∷ 0 ∷ []
unfolding country_packed
country_case = refl

-- A human who switched nations, with 66051 cities, and nothing before.
abbrev Played : Country
Played =
    record { tag = tag "FRA"; human = true; was_player = false; has_switched_nation = true; cities = pos 66051; previous = []; switches = [] }

pub human_case : country_packed (country_row Played) ≡ 70 ∷ 82 ∷ 65 ∷ 5 ∷ 3 ∷ 2 ∷ 1 ∷ 0 ∷ 0 ∷ 0 ∷ 0 ∷ 0 ∷ []
unfolding country_packed
human_case = refl

pub previous_case : tag_packed (tag "SCO") ≡ 83 ∷ 67 ∷ 79 ∷ []
unfolding tag_packed
previous_case = refl

pub switch_case : switch_packed (switched 14480601 "ENG") ≡ 217 ∷ 244 ∷ 220 ∷ 0 ∷ 69 ∷ 78 ∷ 71 ∷ []
unfolding switch_packed
switch_case = refl

-- Province 4660 with an event.
pub province_case :
    province_packed (province_row (record { id = record { 0 = 4660 }; owner = tag "ENG"; events = owned_by 14460101 "FRA" ∷ [] }))
    ≡ 52 ∷ 18 ∷ 69 ∷ 78 ∷ 71 ∷ 1 ∷ 0 ∷ []
unfolding province_packed
province_case = refl

pub owner_event_case : owner_event_packed (owned_by 14460101 "FRA") ≡ 197 ∷ 164 ∷ 220 ∷ 0 ∷ 70 ∷ 82 ∷ 65 ∷ []
unfolding owner_event_packed
owner_event_case = refl

-- A war of 515 events.
pub war_case : war_packed 515 ≡ 3 ∷ 2 ∷ []
unfolding war_packed
war_case = refl

pub war_event_case :
    war_event_packed (record { date = date 14490615; kind = 4; tag = tag "GBR" }) ≡ 247 ∷ 27 ∷ 221 ∷ 0 ∷ 4 ∷ 71 ∷ 66 ∷ 82 ∷ []
unfolding war_event_packed
war_event_case = refl

-- The year, then the value's word: that of -1.
pub point_case : point_packed (record { year = 1445; value = 4294967295 }) ≡ 165 ∷ 5 ∷ 255 ∷ 255 ∷ 255 ∷ 255 ∷ []
unfolding point_packed
point_case = refl

pub ledger_case :
    ledger_packed (ledger_row (record { tag = tag "FRA"; points = record { year = 1445; value = 10 } ∷ record { year = 1446; value = 7 } ∷ [] }))
    ≡ 70 ∷ 82 ∷ 65 ∷ 2 ∷ 0 ∷ []
unfolding ledger_packed
ledger_case = refl

pub string_case : string_packed (ascii "Jo") ≡ 2 ∷ 74 ∷ 111 ∷ []
unfolding string_packed
string_case = refl

-- ## The worked record

abbrev worked : Campaign
worked =
    record {
      ironman = false;
      multiplayer = false;
      start = date 14441111;
      current = date 14500101;
      countries =
          record {
            tag = tag "GBR";
            human = false;
            was_player = false;
            has_switched_nation = false;
            cities = pos 0;
            previous = [];
            switches = switched 14480601 "ENG" ∷ [];
          }
          ∷ record { tag = tag "FRA"; human = false; was_player = false; has_switched_nation = false; cities = pos 0; previous = []; switches = [] }
          ∷ [];
      provinces =
          record { id = record { 0 = 1 }; owner = tag "ENG"; events = owned_by 14460101 "FRA" ∷ [] }
          ∷ record { id = record { 0 = 2 }; owner = tag "FRA"; events = owned_by 14470101 "ENG" ∷ [] }
          ∷ [];
      wars = [];
      ledgers = [];
      strings = [];
    }

pub worked_bytes :
    pack worked
    ≡ 65 ∷ 84 ∷ 76 ∷ 1 ∷ 0 ∷ 0 ∷ 151 ∷ 90 ∷ 220 ∷ 0 ∷ 5 ∷ 65 ∷ 221 ∷ 0 ∷ 2 ∷ 0 ∷ 2 ∷ 0 ∷ 0 ∷ 0 ∷ 0 ∷ 0 ∷ 1 ∷ 0 ∷ 0 ∷ 0 ∷ 2 ∷
    0 ∷ 0 ∷ 0 ∷ 0 ∷ 0 ∷ 0 ∷ 0 ∷ 0 ∷ 0 ∷ 0 ∷ 0 ∷ 0 ∷ 0 ∷ 0 ∷ 0 ∷ 0 ∷ 0 ∷
    71 ∷ 66 ∷ 82 ∷ 0 ∷ 0 ∷ 0 ∷ 0 ∷ 0 ∷ 0 ∷ 0 ∷ 1 ∷ 0 ∷ 70 ∷ 82 ∷ 65 ∷ 0 ∷ 0 ∷ 0 ∷ 0 ∷ 0 ∷ 0 ∷ 0 ∷ 0 ∷ 0 ∷
    217 ∷ 244 ∷ 220 ∷ 0 ∷ 69 ∷ 78 ∷ 71 ∷
    1 ∷ 0 ∷ 69 ∷ 78 ∷ 71 ∷ 1 ∷ 0 ∷ 2 ∷ 0 ∷ 70 ∷ 82 ∷ 65 ∷ 1 ∷ 0 ∷
    197 ∷ 164 ∷ 220 ∷ 0 ∷ 70 ∷ 82 ∷ 65 ∷ 213 ∷ 203 ∷ 220 ∷ 0 ∷ 69 ∷ 78 ∷ 71 ∷ []
unfolding country_packed switch_packed province_packed owner_event_packed head_packed head_for pack_with
worked_bytes = refl

-- ## A record with some of everything

-- GBR with ENG and `---` before it, two provinces, an empty war and one with a battle, FRA's ledger, and a name.
abbrev everything : Campaign
everything =
    record {
      ironman = true;
      multiplayer = false;
      start = date 14441111;
      current = date 14500101;
      countries =
          record {
            tag = tag "GBR";
            human = true;
            was_player = false;
            has_switched_nation = true;
            cities = negsuc 0;
            previous = tag "ENG" ∷ tag "---" ∷ [];
            switches = switched 14480601 "ENG" ∷ [];
          }
          ∷ [];
      provinces =
          record { id = record { 0 = 1 }; owner = tag "ENG"; events = owned_by 14460101 "FRA" ∷ [] }
          ∷ record { id = record { 0 = 2 }; owner = tag "FRA"; events = owned_by 14470101 "ENG" ∷ owned_by 14490228 "GBR" ∷ [] }
          ∷ [];
      wars = [] ∷ (record { date = date 14490615; kind = 4; tag = tag "GBR" } ∷ []) ∷ [];
      ledgers = record { tag = tag "FRA"; points = record { year = 1445; value = 10 } ∷ record { year = 9999; value = 7 } ∷ [] } ∷ [];
      strings = ascii "Jo" ∷ [];
    }

-- The same bytes tell this campaign in the crate format's case `campaign`.
pub everything_bytes :
    pack everything
    ≡ 65 ∷ 84 ∷ 76 ∷ 1 ∷ 0 ∷ 1 ∷ 151 ∷ 90 ∷ 220 ∷ 0 ∷ 5 ∷ 65 ∷ 221 ∷ 0 ∷ 1 ∷ 0 ∷ 2 ∷ 0 ∷ 2 ∷ 0 ∷ 0 ∷ 0 ∷ 1 ∷ 0 ∷ 0 ∷ 0 ∷ 3 ∷
    0 ∷ 0 ∷ 0 ∷ 1 ∷ 0 ∷ 2 ∷ 0 ∷ 1 ∷ 0 ∷ 0 ∷ 0 ∷ 1 ∷ 0 ∷ 2 ∷ 0 ∷ 0 ∷ 0 ∷
    71 ∷ 66 ∷ 82 ∷ 5 ∷ 255 ∷ 255 ∷ 255 ∷ 255 ∷ 2 ∷ 0 ∷ 1 ∷ 0 ∷
    69 ∷ 78 ∷ 71 ∷ 45 ∷ 45 ∷ 45 ∷
    217 ∷ 244 ∷ 220 ∷ 0 ∷ 69 ∷ 78 ∷ 71 ∷
    1 ∷ 0 ∷ 69 ∷ 78 ∷ 71 ∷ 1 ∷ 0 ∷ 2 ∷ 0 ∷ 70 ∷ 82 ∷ 65 ∷ 2 ∷ 0 ∷
    197 ∷ 164 ∷ 220 ∷ 0 ∷ 70 ∷ 82 ∷ 65 ∷ 213 ∷ 203 ∷ 220 ∷ 0 ∷ 69 ∷ 78 ∷ 71 ∷ 116 ∷ 26 ∷ 221 ∷ 0 ∷ 71 ∷ 66 ∷ 82 ∷
    0 ∷ 0 ∷ 1 ∷ 0 ∷
    247 ∷ 27 ∷ 221 ∷ 0 ∷ 4 ∷ 71 ∷ 66 ∷ 82 ∷
    70 ∷ 82 ∷ 65 ∷ 2 ∷ 0 ∷
    165 ∷ 5 ∷ 10 ∷ 0 ∷ 0 ∷ 0 ∷ 15 ∷ 39 ∷ 7 ∷ 0 ∷ 0 ∷ 0 ∷
    2 ∷ 74 ∷ 111 ∷ []
unfolding
    country_packed tag_packed switch_packed province_packed owner_event_packed war_packed war_event_packed ledger_packed point_packed string_packed
    head_packed head_for pack_with
everything_bytes = refl

-- ## A tail

-- A campaign without rows, for several players, in an edition 258 that appends two bytes behind its one string, which is empty.
abbrev bare : Campaign
bare =
    record {
      ironman = false;
      multiplayer = true;
      start = date 14441111;
      current = date 14500101;
      countries = [];
      provinces = [];
      wars = [];
      ledgers = [];
      strings = [] ∷ [];
    }

pub tail_bytes :
    pack_with 258 bare (7 ∷ 9 ∷ [])
    ≡ 65 ∷ 84 ∷ 76 ∷ 2 ∷ 1 ∷ 2 ∷ 151 ∷ 90 ∷ 220 ∷ 0 ∷ 5 ∷ 65 ∷ 221 ∷ 0 ∷ 0 ∷ 0 ∷ 0 ∷ 0 ∷ 0 ∷ 0 ∷ 0 ∷ 0 ∷ 0 ∷ 0 ∷ 0 ∷ 0 ∷ 0 ∷
    0 ∷ 0 ∷ 0 ∷ 1 ∷ 0 ∷ 0 ∷ 0 ∷ 0 ∷ 0 ∷ 0 ∷ 0 ∷ 0 ∷ 0 ∷ 0 ∷ 0 ∷ 0 ∷ 0 ∷
    0 ∷ 7 ∷ 9 ∷ []
unfolding string_packed head_packed head_for pack_with
tail_bytes = refl
