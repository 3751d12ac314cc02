-- Cells of a campaign tell its listed nations, one key of an initial after the other: the key of a country that is listed gives that
-- country's nation, any other gives none. And such cells can be read.
use mathlib.Core.Path.{◌≡◌, refl, sym, ap, ap₂, ◌∙◌}
use mathlib.Core.Bool.{Bool, cond, ◌&&◌, ◌||◌}
use mathlib.Core.List.{List, [], ◌∷◌, ◌++◌, map}
use mathlib.Core.Option.{some}
use Prim.Native.Nat.{ℕ, ◌*◌, ◌/◌, ◌+◌, ◌≤◌, ◌<◌}
use native.Mathlib.Omega.{arith}
use lib.Dec.{leb, ltb}
use lib.ListN.{length, get_or, get_elem?, length-map}
use Rattle.lists.specs.Lists.{All, count_of, join_of, last_or}
use Rattle.lists.proofs.BoolLaws.{cases}
use Rattle.lists.proofs.ElementLaws.{at-within, all-inside, cell-at}
use Rattle.lists.proofs.ListLaws.{all_append, all_map, all-images, all-at, join-none, count-le, join-same}
use Rattle.sorting.specs.Sort.{sort_by}
use Rattle.sorting.specs.Steps.{into, merge_by}
use Rattle.sorting.proofs.SortedKeyLaws.{sort-again}
use Rattle.sorting.proofs.SortLaws.{length-sort}
use Rattle.format.specs.declared.tag.CountryTag.{CountryTag}
use Rattle.format.specs.declared.date.Eu4Date.{Eu4Date}
use Rattle.format.specs.Tags.{same_tag}
use Rattle.format.specs.Campaign.{Campaign, Country}
use Rattle.format.specs.Sound.{GoodCountry}
use Rattle.format.specs.declared.values.Entry.{Entry}
use Rattle.rules.specs.Chronicle.{Nation}
use Rattle.rules.specs.Nations.{initial_of, switch_entries, matches, is_mapped, start_holders, Turn, turns_of, turn_entries, turn_count, lives_from, lives_of, entries_of, kind_target, targets, nation_of, held_ever, nations_of}
use Rattle.nation_tables.specs.Layout.{key_rows, key_tags, row_key_span, short_span, no_change}
use Rattle.nation_tables.specs.Lookup.{row_in, last_within}
use Rattle.nation_tables.specs.Countries.{words_of_tags, initial_words, word_keys, row_keys}
use Rattle.nation_tables.specs.Switches.{runs_from, run_keys, target_words, switch_in}
use Rattle.nations.specs.CountryEntries.{latest_tag}
use Rattle.nation_tables.specs.Turning.{by_date, first_at, row_tag, row_turns_of, Lived}
use Rattle.nations.specs.Walks.{lived_left, first_lives}
use Rattle.nation_tables.specs.Holders.{no_tag}
use Rattle.nation_tables.specs.Gathering.{Cells, CampaignCells}
use Rattle.nations.specs.Tables.{KeyInside, Readable}
use Rattle.nations.specs.ListedNations.{run_of, lived_of, row_entries, is_row, nation_of_key, key_nations, nations_at}
use Rattle.rules.proofs.CampaignLaws.{length-start}
use Rattle.nation_tables.proofs.tables.CountryLaws.{length-word-keys}
use Rattle.nations.proofs.answer.EntryLaws.{turn-all, entries-merge}
use Rattle.nation_tables.proofs.tables.KeyedLaws.{tag_small}
use Rattle.nations.proofs.answer.LivesLaws.{count-turns, chained, walk-lives}
use Rattle.rules.proofs.ShapeLaws.{initial-tag}
use Rattle.nation_tables.proofs.slots.TurningLaws.{held-ever}
use Rattle.nations.proofs.answer.ListedLaws.{country_in, InitialKey, initial-keys, mapped-key, listed, nations-by-key}

-- ## Targets of merged entries

-- An entry that is no switch.
abbrev Quiet : Entry → Type 0
Quiet e = kind_target e.kind ≡ []

-- The first of the switches' list stays the first with a target.
into-targets : (x : Entry) (f : List Entry → List Entry) (ts : List CountryTag) → ((ys : List Entry) → All Quiet ys → targets (f ys) ≡ ts)
    → (ys : List Entry) → All Quiet ys → targets (into by_date x f ys) ≡ kind_target x.kind ++ ts
unfolding into
into-targets x f ts h [] q = ap (λ (l : List CountryTag). kind_target x.kind ++ l) (h [] tt)
into-targets x f ts h (y ∷ ys) q =
    cases (by_date x y)
    (λ t. simp t (ap (λ (l : List CountryTag). kind_target x.kind ++ l) (h (y ∷ ys) q)))
    (λ t. simp (t, q.0) (into-targets x f ts h ys q.1))

-- Entries that are no switches change no target.
merge-targets : (xs ys : List Entry) → All Quiet ys → targets (merge_by by_date xs ys) ≡ targets xs
unfolding merge_by
merge-targets [] ys q = join-none (λ e. kind_target e.kind) ys q
merge-targets (x ∷ xs) ys q = into-targets x (merge_by by_date xs) (targets xs) (merge-targets xs) ys q

-- No turn gives a switch.
quiet-from : (start : Eu4Date) (t : CountryTag) (xs : List Turn) (n : ℕ) → All Quiet (lives_from start t xs n)
unfolding lives_from
quiet-from start t [] n = tt
quiet-from start t (x ∷ xs) n =
    let loses : Bool = matches t x.old in
    let gains : Bool = same_tag x.new t in
    all_append Quiet (turn_entries start x.date loses gains n) (lives_from start t xs (turn_count loses gains n))
    (turn-all Quiet start x.date loses gains n refl refl) (quiet-from start t xs (turn_count loses gains n))

-- Annexed and Appeared are no switches.
lives-quiet : (c : Campaign) (t : CountryTag) → All Quiet (lives_of c t)
unfolding lives_of
lives-quiet c t = quiet-from c.start t (turns_of c) (count_of (matches t) (start_holders c))

-- The targets of a country's entries are those of its switches by date.
entry-targets : (c : Campaign) (k : Country) → targets (entries_of c k) ≡ targets (sort_by by_date (switch_entries k))
entry-targets c k = ap targets (entries-merge c k) ∙ merge-targets (sort_by by_date (switch_entries k)) (lives_of c k.tag) (lives-quiet c k.tag)

-- ## The nation of a key

-- The keys of each row's switches tell them by date.
abbrev pub RunEntries : Campaign → Cells → Type 0
RunEntries c w =
    (row : ℕ) (k : Country) → get_elem? c.countries row ≡ some k
    → map (switch_in w.targets) (run_of w.runs row) ≡ sort_by by_date (switch_entries k)

-- So it is where it is so of the keys and targets that the countries give.
pub runs-told : (c : Campaign) (w : Cells) → CampaignCells c w
    → ((row : ℕ) (k : Country) → get_elem? c.countries row ≡ some k
    → map (switch_in (target_words c.countries)) (run_of (run_keys c.countries) row) ≡ sort_by by_date (switch_entries k))
    → RunEntries c w
runs-told c w q h row k there = ap₂ (λ (ts rs : List ℕ). map (switch_in ts) (run_of rs row)) q.targets q.runs ∙ h row k there

-- A nation of three tags and its entries.
abbrev tag_nation : CountryTag → CountryTag → CountryTag → List Entry → Nation
tag_nation initial latest stored entries = record { initial = initial; latest = latest; stored = stored; entries = entries }

module _ (c : Campaign) (w : Cells) (q : CampaignCells c w) (run : RunEntries c w) (key : ℕ) (here : InitialKey c.countries key) where
  abbrev row : ℕ
  row = row_in key

  abbrev k : Country
  k = country_in c.countries key

  inside : row < length c.countries
  inside = at-within c.countries row k here.there

  rows : length (words_of_tags c.countries) ≡ length c.countries
  rows = length-map c.countries (λ x. x.tag.0)

  -- The row's cells tell the country's tag, its start slots and its first gain.
  tag-here : get_or (words_of_tags c.countries) row 0 ≡ k.tag.0
  tag-here = cell-at (λ x. x.tag.0) c.countries row k 0 here.there

  started-here : get_or w.started row 0 ≡ count_of (matches (row_tag c row)) (start_holders c)
  started-here =
      ap (λ (l : List ℕ). get_or l row 0) q.started
      ∙ cell-at (λ x. count_of (matches x.tag) (start_holders c)) c.countries row k 0 here.there
      ∙ ap (λ (t : ℕ). count_of (matches (record { 0 = t })) (start_holders c)) (sym tag-here)

  gain-here : get_or w.gains row 0 ≡ first_at row 0 (map (λ x. x.new) (row_turns_of c))
  gain-here =
      q.gains.firsts row (omega (arith, inside, q.gain_rows)) ∙ ap (first_at row 0) q.rowed.new_rows

  -- There are few turns.
  turns : length (row_turns_of c) ≤ no_change
  turns =
      let e =
      count-turns w.keys q.old_rows q.new_rows w.olds w.news w.losses w.gains (row_turns_of c) q.rowed (omega (arith, q.few))
      q.losses q.gains in
      omega (arith, q.few, e)

  -- By these the row held a slot ever if the country did.
  held-here : (ltb 0 (get_or w.started row 0) || ltb (get_or w.gains row 0) no_change) ≡ held_ever c k
  held-here =
      ap₂ (λ (a b : ℕ). ltb 0 a || ltb b no_change) started-here gain-here
      ∙ sym (held-ever c k row (sym tag-here) q.once (omega (arith, inside, rows)) (omega (arith, rows, q.keyed.few)) turns)

  -- Its walk tells the country's lives, and merged with the switches its entries.
  lives-here : (lived_of w row).entries ≡ lives_of c k.tag
  lives-here =
      ap₂ (λ (s : Eu4Date) (n : ℕ). (lived_left s w.keys w.olds w.news (first_lives w.losses w.gains row n)).entries) q.start started-here
      ∙ ap (λ (l : Lived). l.entries)
      (walk-lives c w.keys q.old_rows q.new_rows w.olds w.news w.losses w.gains row q.rowed (omega (arith, q.few))
      q.losses q.gains q.once (omega (arith, rows, q.keyed.few)) q.sound
      (omega (arith, inside, rows)) (omega (arith, inside, q.loss_rows)) (omega (arith, inside, q.gain_rows)))
      ∙ ap (λ (t : ℕ). lives_of c (record { 0 = t })) tag-here

  entries-here : row_entries w row ≡ entries_of c k
  entries-here =
      ap₂ (λ (a b : List Entry). merge_by by_date a b) (run row k here.there) lives-here ∙ sym (entries-merge c k)

  -- The last of the row's switches has the country's latest tag.
  initial-here : record { 0 = key / key_rows } ≡ initial_of k
  initial-here = ap (λ (i : ℕ). record { 0 = i }) here.initial

  latest-here : latest_tag w.targets (run_of w.runs row) (record { 0 = key / key_rows }) ≡ (nation_of c k).latest
  latest-here =
      ap₂ (λ (i : CountryTag) (es : List Entry). last_or i (targets es)) initial-here (run row k here.there)
      ∙ ap (λ (ts : List CountryTag). last_or (initial_of k) ts) (sym (entry-targets c k))

  stored_here : get_or w.tags row no_tag ≡ k.tag
  stored_here = ap (λ (l : List CountryTag). get_or l row no_tag) q.tags ∙ cell-at (λ x. x.tag) c.countries row k no_tag here.there

  -- So the key gives the country's nation, and gives it if the country is listed.
  nation-here : nation_of_key w key ≡ nation_of c k
  nation-here =
      ap₂ (λ (i l : CountryTag). tag_nation i l (get_or w.tags row no_tag) (row_entries w row)) initial-here latest-here
      ∙ ap₂ (λ (s : CountryTag) (es : List Entry). tag_nation (initial_of k) (nation_of c k).latest s es) stored_here entries-here

  mapped-here : is_row (last_within (key / key_rows * key_rows) (key / key_rows * key_rows + key_rows) w.initials) row ≡ is_mapped c.countries k
  mapped-here =
      ap (λ (l : List ℕ). is_row (last_within (key / key_rows * key_rows) (key / key_rows * key_rows + key_rows) l) row) q.initials
      ∙ mapped-key c.countries q.keyed.few q.once key here

  key_here : key_nations w key ≡ cond (listed c k) (nation_of c k ∷ []) []
  unfolding key_nations
  key_here =
      ap₂ (λ (b : Bool) (n : Nation). cond b (n ∷ []) []) (ap₂ (λ (a b : Bool). a && b) mapped-here held-here) nation-here

-- Key by key they give the nations of the campaign, in order.
pub cells-nations : (c : Campaign) (w : Cells) → CampaignCells c w → RunEntries c w → nations_at w w.initials ≡ nations_of c
cells-nations c w q run =
    let keys : List ℕ = row_keys (initial_words c.countries) in
    let few : length c.countries ≤ key_rows = q.keyed.few in
    ap (join_of (key_nations w)) q.initials
    ∙ join-same (key_nations w) (λ key. cond (listed c (country_in c.countries key)) (nation_of c (country_in c.countries key) ∷ []) []) keys
    (all_map (λ key here. key_here c w q run key here) keys (initial-keys c.countries few))
    ∙ sym (nations-by-key c few)

-- ## Cells of a campaign can be read

-- A key with an initial of 24 bits above its row.
small-key : (n i : ℕ) → n / key_rows ≡ i → i < key_tags → n < row_key_span
small-key n i e h = omega arith

module _ (c : Campaign) (w : Cells) (q : CampaignCells c w) where
  -- The keys are those of initials, and their rows are countries'.
  keys-all : All (InitialKey c.countries) w.initials
  keys-all = rw q.initials (initial-keys c.countries q.keyed.few)

  row-inside : (key : ℕ) → InitialKey c.countries key → row_in key < length c.countries
  row-inside key here = at-within c.countries (row_in key) (country_in c.countries key) here.there

  -- The initial of a key is a tag.
  key-small : (key : ℕ) → InitialKey c.countries key → key < row_key_span
  key-small key here =
      let x : Country = country_in c.countries key in
      let g : GoodCountry x = all-at GoodCountry c.countries (row_in key) x here.there q.sound.countries in
      small-key key (initial_of x).0 here.initial
      (tag_small (initial_of x) (initial-tag x.switches x.previous x.tag g.switches g.previous g.tag))

-- What the reading asks of cells is so of those of a campaign.
pub cells-readable : (c : Campaign) (w : Cells) → CampaignCells c w → Readable w
cells-readable c w q =
    let ks : List Country = c.countries in
    let few : length w.keys ≤ no_change = omega (arith, q.few) in
    let count : Country → ℕ = λ k. count_of (matches k.tag) (start_holders c) in
    let all-tags : length w.tags ≡ length ks = ap length q.tags ∙ length-map ks (λ k. k.tag) in
    let all-started : length w.started ≡ length ks = ap length q.started ∙ length-map ks count in
    let all-initials : length w.initials ≡ length ks =
    ap length q.initials
    ∙ length-sort leb (word_keys 0 (initial_words ks))
    ∙ length-word-keys 0 (initial_words ks)
    ∙ length-map ks (λ k. (initial_of k).0) in
    let inside : (key : ℕ) → InitialKey ks key → KeyInside w key =
    λ key here.
    let row = row-inside c w q key here in
    record {
      tagged = omega (arith, row, all-tags);
      started = omega (arith, row, all-started);
      loses = omega (arith, row, q.loss_rows);
      gains = omega (arith, row, q.gain_rows);
      narrow = key-small c w q key here;
    } in
    let few-slots : All (λ n. n ≤ short_span) w.started =
    rw q.started
    (all-images (λ n. n ≤ short_span) count (λ k. omega (arith, count-le (matches k.tag) (start_holders c), length-start c, q.slots)) ks) in
    record {
      chained =
          chained w.keys q.old_rows q.new_rows w.olds w.news w.losses w.gains (row_turns_of c) q.rowed few q.losses q.gains;
      runs = ap (sort_by leb) q.runs ∙ sort-again (runs_from 0 0 ks) ∙ sym q.runs;
      initials = ap (sort_by leb) q.initials ∙ sort-again (word_keys 0 (initial_words ks)) ∙ sym q.initials;
      few = omega (arith, all-initials, q.keyed.few);
      few_runs = omega (arith, q.few_runs);
      inside = λ i d h. all-inside (KeyInside w) w.initials i d (all_map inside w.initials (keys-all c w q)) h;
      started = λ i d h. all-inside (λ n. n ≤ short_span) w.started i d few-slots h;
    }
