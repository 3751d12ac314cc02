-- Records drafted from numbers and tags, and packed into bytes: for the worked record and the computed cases. No rule stands here, and
-- no promise rests on it; which bytes a reader takes for which row stands in the crate format.
use Rattle.std.specs.Prelude.{List, [], ◌∷◌, ◌++◌, ℕ, ◌/◌, ◌%◌, length, get_or}
use Prim.Native.String.{String}
use Rattle.lists.specs.Lists.{join_of, sum_of}
use Rattle.lists.specs.Text.{ascii}
use Rattle.format.specs.declared.tag.CountryTag.{CountryTag}
use Rattle.format.specs.Tags.{tag_of}

-- ## Tags

-- A tag by its text, and its word.
abbrev pub tagged : String → CountryTag
tagged s = tag_of (get_or (ascii s) 0 0) (get_or (ascii s) 1 0) (get_or (ascii s) 2 0)

abbrev pub word : String → ℕ
word s = (tagged s).0

-- ## Drafts

-- A switch with the tag it is from, or an owner event with the tag of the new owner.
pub record DraftEvent : Type 0 where
  pub date : ℕ
  pub tag : String

-- A country. The word of its cities is in two's complement.
pub record DraftCountry : Type 0 where
  pub tag : String
  pub flags : ℕ
  pub cities : ℕ
  pub previous : List String
  pub switches : List DraftEvent

-- A province.
pub record DraftProvince : Type 0 where
  pub id : ℕ
  pub owner : String
  pub events : List DraftEvent

-- A war event; a war is the list of its events.
pub record DraftWarEvent : Type 0 where
  pub date : ℕ
  pub kind : ℕ
  pub tag : String

-- A point of a ledger row. The word of its value is in two's complement.
pub record DraftPoint : Type 0 where
  pub year : ℕ
  pub value : ℕ

-- A ledger row.
pub record DraftLedger : Type 0 where
  pub tag : String
  pub points : List DraftPoint

-- A record.
pub record DraftRecord : Type 0 where
  pub flags : ℕ
  pub start : ℕ
  pub current : ℕ
  pub countries : List DraftCountry
  pub provinces : List DraftProvince
  pub wars : List (List DraftWarEvent)
  pub ledgers : List DraftLedger
  pub strings : List String

-- ## Short forms

-- On a date, a tag.
abbrev pub on : ℕ → String → DraftEvent
on date tag = record { date = date; tag = tag }

-- A country without flags and cities: its previous tags and its switches.
abbrev pub country : String → List String → List DraftEvent → DraftCountry
country tag previous switches = record { tag = tag; flags = 0; cities = 0; previous = previous; switches = switches }

-- A country with flags and cities, and nothing before.
abbrev pub played : String → ℕ → ℕ → DraftCountry
played tag flags cities = record { tag = tag; flags = flags; cities = cities; previous = []; switches = [] }

-- A province with its owner and its events.
abbrev pub province : ℕ → String → List DraftEvent → DraftProvince
province id owner events = record { id = id; owner = owner; events = events }

-- On a date, a war event of a kind, with a tag.
abbrev pub war : ℕ → ℕ → String → DraftWarEvent
war date kind tag = record { date = date; kind = kind; tag = tag }

-- In a year, a value.
abbrev pub point : ℕ → ℕ → DraftPoint
point year value = record { year = year; value = value }

-- A ledger row of a tag.
abbrev pub ledger : String → List DraftPoint → DraftLedger
ledger tag points = record { tag = tag; points = points }

-- ## Bytes

-- A number in two bytes, and in four, the low byte first.
abbrev pub two : ℕ → List ℕ
two n = n % 256 ∷ n / 256 ∷ []

abbrev pub four : ℕ → List ℕ
four n = n % 256 ∷ n / 256 % 256 ∷ n / 65536 % 256 ∷ n / 16777216 ∷ []

-- A row of each section.
abbrev pub packed_event : DraftEvent → List ℕ
packed_event e = four e.date ++ ascii e.tag

abbrev pub packed_country : DraftCountry → List ℕ
packed_country k =
    ascii k.tag ++ (k.flags ∷ four k.cities ++ two (length k.previous) ++ two (length k.switches))

abbrev pub packed_province : DraftProvince → List ℕ
packed_province p = two p.id ++ ascii p.owner ++ two (length p.events)

abbrev pub packed_war_event : DraftWarEvent → List ℕ
packed_war_event e = four e.date ++ (e.kind ∷ ascii e.tag)

abbrev pub packed_ledger : DraftLedger → List ℕ
packed_ledger l = ascii l.tag ++ two (length l.points)

abbrev pub packed_point : DraftPoint → List ℕ
packed_point p = two p.year ++ four p.value

abbrev pub packed_string : String → List ℕ
packed_string s = length (ascii s) ∷ ascii s

-- The head: `ATL`, version 1, flags, the two dates, and how many rows each section has.
abbrev pub packed_head : DraftRecord → List ℕ
packed_head d =
    ascii "ATL" ++ two 1 ++ (d.flags ∷ four d.start ++ four d.current)
    ++ two (length d.countries)
    ++ two (length d.provinces)
    ++ four (sum_of (λ k. length k.previous) d.countries)
    ++ four (sum_of (λ k. length k.switches) d.countries)
    ++ four (sum_of (λ p. length p.events) d.provinces)
    ++ two (length d.strings)
    ++ two (length d.wars)
    ++ four (sum_of length d.wars)
    ++ two (length d.ledgers)
    ++ four (sum_of (λ l. length l.points) d.ledgers)

-- The record's bytes: the head, then the sections.
abbrev pub packed : DraftRecord → List ℕ
packed d =
    packed_head d
    ++ join_of packed_country d.countries
    ++ join_of (λ k. join_of ascii k.previous) d.countries
    ++ join_of (λ k. join_of packed_event k.switches) d.countries
    ++ join_of packed_province d.provinces
    ++ join_of (λ p. join_of packed_event p.events) d.provinces
    ++ join_of (λ w. two (length w)) d.wars
    ++ join_of (λ w. join_of packed_war_event w) d.wars
    ++ join_of packed_ledger d.ledgers
    ++ join_of (λ l. join_of packed_point l.points) d.ledgers
    ++ join_of packed_string d.strings
