-- Computed cases of the format: the bytes of one record with some of everything, the campaign that they tell, and the number of each way
-- of spoiling them. An edit of a definition that changes one of them is refused here. No rule stands here.
use mathlib.Core.Path.{◌≡◌, refl}
use mathlib.Core.Bool.{true, false}
use mathlib.Core.List.{List, [], ◌∷◌, ◌++◌, map}
use Prim.Native.Nat.{ℕ}
use lib.IntN.{negsuc}
use lib.ListN.{take, drop, set}
use Rattle.format.specs.declared.tag.CountryTag.{CountryTag}
use Rattle.format.specs.declared.date.Eu4Date.{Eu4Date}
use Rattle.format.specs.declared.head.Head.{Head}
use Rattle.format.specs.Head.{within_limits}
use Rattle.format.specs.Campaign.{Campaign, campaign_of}
use Rattle.format.specs.RecordNumber.{refusal}
use Rattle.format.proofs.Computes.{computes}

-- A head of 44 bytes; then each section from the offset named.
abbrev bytes : List ℕ
bytes =
    65 ∷ 84 ∷ 76 ∷ 1 ∷ 0 ∷ 1 ∷ 151 ∷ 90 ∷ 220 ∷ 0 ∷ 5 ∷ 65 ∷ 221 ∷ 0 ∷ 1 ∷ 0 ∷ 2 ∷ 0 ∷ 2 ∷ 0 ∷ 0 ∷ 0 ∷ 1 ∷ 0 ∷ 0 ∷ 0 ∷ 3 ∷
    0 ∷ 0 ∷ 0 ∷ 1 ∷ 0 ∷ 2 ∷ 0 ∷ 1 ∷ 0 ∷ 0 ∷ 0 ∷ 1 ∷ 0 ∷ 2 ∷ 0 ∷ 0 ∷ 0 ∷
    71 ∷ 66 ∷ 82 ∷ 5 ∷ 255 ∷ 255 ∷ 255 ∷ 255 ∷ 2 ∷ 0 ∷ 1 ∷ 0 ∷
    69 ∷ 78 ∷ 71 ∷ 45 ∷ 45 ∷ 45 ∷
    217 ∷ 244 ∷ 220 ∷ 0 ∷ 69 ∷ 78 ∷ 71 ∷
    1 ∷ 0 ∷ 69 ∷ 78 ∷ 71 ∷ 1 ∷ 0 ∷ 2 ∷ 0 ∷ 70 ∷ 82 ∷ 65 ∷ 2 ∷ 0 ∷
    197 ∷ 164 ∷ 220 ∷ 0 ∷ 70 ∷ 82 ∷ 65 ∷ 213 ∷ 203 ∷ 220 ∷ 0 ∷ 69 ∷ 78 ∷ 71 ∷ 116 ∷ 26 ∷ 221 ∷ 0 ∷ 71 ∷ 66 ∷ 82 ∷
    0 ∷ 0 ∷ 1 ∷ 0 ∷
    247 ∷ 27 ∷ 221 ∷ 0 ∷ 4 ∷ 71 ∷ 66 ∷ 82 ∷
    70 ∷ 82 ∷ 65 ∷ 2 ∷ 0 ∷
    165 ∷ 5 ∷ 10 ∷ 0 ∷ 0 ∷ 0 ∷ 15 ∷ 39 ∷ 7 ∷ 0 ∷ 0 ∷ 0 ∷
    2 ∷ 74 ∷ 111 ∷ []

abbrev tag : ℕ → CountryTag
tag w = record { 0 = w }

abbrev date : ℕ → Eu4Date
date d = record { 0 = d }

-- GBR with ENG and `---` before it, two provinces, an empty war and one with a battle, FRA's ledger, and a name.
abbrev told : Campaign
told =
    record {
      ironman = true;
      multiplayer = false;
      start = date 14441111;
      current = date 14500101;
      countries =
          record {
            tag = tag 4670034;
            human = true;
            was_player = false;
            has_switched_nation = true;
            cities = negsuc 0;
            previous = tag 4542023 ∷ tag 2960685 ∷ [];
            switches = record { date = date 14480601; from = tag 4542023 } ∷ [];
          }
          ∷ [];
      provinces =
          record { id = record { 0 = 1 }; owner = tag 4542023; events = record { date = date 14460101; tag = tag 4608577 } ∷ [] }
          ∷ record {
            id = record { 0 = 2 };
            owner = tag 4608577;
            events = record { date = date 14470101; tag = tag 4542023 } ∷ record { date = date 14490228; tag = tag 4670034 } ∷ [];
          }
          ∷ [];
      wars = [] ∷ (record { date = date 14490615; kind = 4; tag = tag 4670034 } ∷ []) ∷ [];
      ledgers =
          record { tag = tag 4608577; points = record { year = 1445; value = 10 } ∷ record { year = 9999; value = 7 } ∷ [] } ∷ [];
      strings = (74 ∷ 111 ∷ []) ∷ [];
    }

pub campaign : campaign_of bytes ≡ told
unfolding computes
campaign = refl

-- The same with one byte over; and with a second country of this tag.
abbrev longer : List ℕ
longer = bytes ++ (0 ∷ [])

abbrev second : ℕ → ℕ → ℕ → List ℕ
second a b c = take 56 (set bytes 14 2) ++ (a ∷ b ∷ c ∷ 0 ∷ 0 ∷ 0 ∷ 0 ∷ 0 ∷ 0 ∷ 0 ∷ 0 ∷ 0 ∷ []) ++ drop 56 bytes

-- Its end set to a day of November 1444: the record begins on the 11th.
abbrev ends_on : ℕ → List ℕ
ends_on low = set (set (set (set bytes 10 low) 11 90) 12 220) 13 0

-- Each spoiled record's number; where two things are wrong, the number of the first.
abbrev spoiled : List (List ℕ)
spoiled =
    bytes
    ∷ take 43 bytes
    ∷ set bytes 0 66
    ∷ set bytes 4 1
    ∷ set bytes 15 8
    ∷ set bytes 52 1
    ∷ set bytes 54 2
    ∷ set bytes 74 0
    ∷ set bytes 104 1
    ∷ set bytes 119 1
    ∷ set bytes 133 1
    ∷ take 135 bytes
    ∷ set bytes 5 4
    ∷ set bytes 6 171
    ∷ set bytes 10 33
    ∷ set bytes 10 36
    ∷ set bytes 44 95
    ∷ set bytes 47 8
    ∷ set (set bytes 44 95) 47 8
    ∷ set bytes 61 46
    ∷ set bytes 62 248
    ∷ set (set bytes 66 64) 71 64
    ∷ set bytes 71 91
    ∷ set bytes 97 117
    ∷ set bytes 112 5
    ∷ set (set bytes 112 5) 108 232
    ∷ set (set bytes 112 5) 116 33
    ∷ set bytes 116 33
    ∷ set bytes 127 16
    ∷ set bytes 76 1
    ∷ set bytes 76 3
    ∷ ends_on 150
    ∷ set (ends_on 150) 76 1
    ∷ []

pub numbers :
    map refusal spoiled
    ≡ 0 ∷ 1 ∷ 1 ∷ 2 ∷ 3 ∷ 3 ∷ 3 ∷ 3 ∷ 3 ∷ 3 ∷ 3 ∷ 3 ∷ 6 ∷ 5 ∷ 0 ∷ 5 ∷ 4 ∷ 6 ∷ 4 ∷ 4 ∷ 5 ∷ 4 ∷ 4 ∷ 5 ∷ 6 ∷ 5 ∷ 6 ∷ 4 ∷ 9 ∷ 7 ∷ 7 ∷ 8 ∷ 7 ∷ []
unfolding computes
numbers = refl

-- What stands near to those, and is right or has another number: opening, version, length, all defined bits, a tag twice, an id 0, an end on
-- the first day.
abbrev near : List (List ℕ)
near =
    take 44 bytes
    ∷ set bytes 1 66
    ∷ set bytes 2 66
    ∷ set bytes 3 2
    ∷ longer
    ∷ set bytes 5 3
    ∷ set bytes 47 7
    ∷ second 71 66 82
    ∷ second 70 82 65
    ∷ set bytes 76 0
    ∷ ends_on 151
    ∷ []

pub near_numbers : map refusal near ≡ 3 ∷ 1 ∷ 1 ∷ 2 ∷ 3 ∷ 0 ∷ 0 ∷ 7 ∷ 0 ∷ 0 ∷ 0 ∷ []
unfolding computes
near_numbers = refl

-- Two faults each, the first of one part of the record and the second of the part that is tested after it.
abbrev twice_spoiled : List (List ℕ)
twice_spoiled =
    set (set bytes 0 66) 3 2
    ∷ set (set bytes 3 2) 52 1
    ∷ set (set bytes 52 1) 44 95
    ∷ set (set bytes 5 4) 6 171
    ∷ set (set bytes 6 171) 44 95
    ∷ set (set bytes 47 8) 56 95
    ∷ set (set bytes 56 95) 62 248
    ∷ set (set bytes 62 248) 66 95
    ∷ set (set bytes 62 248) 71 95
    ∷ set (set bytes 71 95) 97 117
    ∷ set (set bytes 97 117) 101 95
    ∷ set (set bytes 97 117) 112 5
    ∷ set (set bytes 112 5) 113 95
    ∷ set (set bytes 112 5) 116 95
    ∷ set (set bytes 116 95) 127 16
    ∷ set (set bytes 127 16) 76 1
    ∷ []

pub first_numbers :
    map refusal twice_spoiled ≡ 1 ∷ 2 ∷ 3 ∷ 6 ∷ 5 ∷ 6 ∷ 4 ∷ 5 ∷ 5 ∷ 4 ∷ 5 ∷ 5 ∷ 6 ∷ 6 ∷ 4 ∷ 9 ∷ []
unfolding computes
first_numbers = refl

-- A head with these counts: countries, provinces, previous tags, switches, events, strings, wars, war events, ledger names, points.
abbrev counting : ℕ → ℕ → ℕ → ℕ → ℕ → ℕ → ℕ → ℕ → ℕ → ℕ → Head
counting cs ps prs ss es strs ws wes ls pts =
    record {
      version = 1;
      flags = 0;
      start = date 14441111;
      current = date 14500101;
      countries = cs;
      provinces = ps;
      previous = prs;
      switches = ss;
      events = es;
      strings = strs;
      wars = ws;
      war_events = wes;
      ledgers = ls;
      points = pts;
    }

-- All counts at their limits; then each by itself one more.
abbrev counted : List Head
counted =
    counting 2000 8000 20000 20000 60000 1000 5000 100000 2000 1000000
    ∷ counting 2001 8000 20000 20000 60000 1000 5000 100000 2000 1000000
    ∷ counting 2000 8001 20000 20000 60000 1000 5000 100000 2000 1000000
    ∷ counting 2000 8000 20001 20000 60000 1000 5000 100000 2000 1000000
    ∷ counting 2000 8000 20000 20001 60000 1000 5000 100000 2000 1000000
    ∷ counting 2000 8000 20000 20000 60001 1000 5000 100000 2000 1000000
    ∷ counting 2000 8000 20000 20000 60000 1001 5000 100000 2000 1000000
    ∷ counting 2000 8000 20000 20000 60000 1000 5001 100000 2000 1000000
    ∷ counting 2000 8000 20000 20000 60000 1000 5000 100001 2000 1000000
    ∷ counting 2000 8000 20000 20000 60000 1000 5000 100000 2001 1000000
    ∷ counting 2000 8000 20000 20000 60000 1000 5000 100000 2000 1000001
    ∷ []

pub limits :
    map within_limits counted
    ≡ true ∷ false ∷ false ∷ false ∷ false ∷ false ∷ false ∷ false ∷ false ∷ false ∷ false ∷ []
unfolding computes
limits = refl
