-- The outcome of `player_histories`, by case.
use mathlib.Core.Path.{◌≡◌, refl, sym, ap, ap₂, ◌∙◌}
use mathlib.Core.Bool.{Bool, true, false, cond, ◌&&◌}
use mathlib.Core.List.{List, [], ◌∷◌, map}
use Prim.Native.Nat.{ℕ, ◌+◌, ◌*◌, ◌≤◌}
use native.Mathlib.Omega.{arith}
use borrow.Author.Tests.{le-leb}
use lib.Dec.{leb, ltb}
use lib.ListN.{length, take, drop, length-take, length-drop, length-map}
use Rattle.lists.specs.Lists.{All, keep}
use Rattle.lists.proofs.BoolLaws.{cases}
use Rattle.lists.proofs.EachLaws.{all-each}
use Rattle.lists.proofs.ElementLaws.{map_same, keep-short}
use Rattle.lists.proofs.ListLaws.{map-then, all-images, count-le}
use Rattle.sorting.specs.Sort.{sort_by}
use Rattle.sorting.proofs.SortLaws.{length-sort}
use Rattle.format.specs.declared.tag.CountryTag.{CountryTag}
use Rattle.format.specs.Campaign.{Campaign, Country, campaign_of}
use Rattle.format.specs.RecordNumber.{refusal, first_of}
use Rattle.format.specs.RefusalNumber.{refusal_number}
use Rattle.format.specs.declared.refused.Refusal.{Refusal}
use Rattle.format.proofs.FirstLaws.{first-stop, first-pass, first_one}
use Rattle.format.proofs.SoundLaws.{sound}
use Rattle.record.specs.declared.opened.Record.{Record}
use Rattle.record.specs.Cursors.{countries_left}
use Rattle.format.proofs.RefusalNumberLaws.{refuses}
use Rattle.rules.specs.Lent.{refused, room_number, outcome}
use Rattle.rules.specs.NationRows.{nation_rows_in, nations_in, well_shaped}
use Rattle.format.specs.declared.values.Player.{Player}
use Rattle.format.specs.declared.values.HistoryCounts.{HistoryCounts}
use Rattle.rules.specs.Players.{players_of}
use Rattle.rules.specs.Histories.{History, history_of, names_of, played_histories, histories_of}
use Rattle.players.specs.declared.drafts.Draft.{Draft}
use Rattle.rules.specs.CallNumbers.{chronicle_number, numbered_number}
use Rattle.rules.specs.PlayerOutcomes.{HistoryCells, history_cells_of, history_counts_of, both_fit, both_written, call_player_histories}
use Rattle.rules.proofs.LentLaws.{outcome-refused}
use Rattle.players.proofs.PlayerLaws.{PlayersTold}
use Rattle.players.proofs.LackLaws.{nations-many}
use Rattle.players.specs.Marks.{stored_word}
use Rattle.players.specs.TagTables.{player_key}
use Rattle.players.specs.CountryDrafts.{played_left, keys_before, run_length, draft_with, history_draft}
use Rattle.players.specs.ArrangedDrafts.{is_popped, name_in, names_at, ArrangeReady, drafted_cells, drafted_counts, drafted_outcome}
use Rattle.players.proofs.NameLaws.{players-rising, names-told}
use Rattle.players.proofs.HistoryDraftLaws.{history-parts, draft-history}
use Rattle.players.proofs.ArrangeStepLaws.{length-all-names}
use Rattle.players.proofs.ArrangedLaws.{words_same, names_same, count_same}
use Rattle.search.specs.Places.{keys_per_tag}

-- ## The drafts of a campaign

-- The run of a tag lies inside the keys.
run_inside : (keys : List ℕ) (tag : CountryTag) → keys_before keys tag + run_length keys tag ≤ length keys
run_inside keys tag = omega (arith, count-le (λ n. ltb n (tag.0 * keys_per_tag)) keys, count-le (λ n. ltb n (tag.0 * keys_per_tag + keys_per_tag)) keys)

module _ (c : Campaign) (ws es : List ℕ) (shaped : well_shaped ws es ≡ true) (numbered : length (nation_rows_in ws) ≤ 4294967295) (few : length c.strings ≤ 1000) where
  abbrev keys : List ℕ
  keys = sort_by leb (map player_key (players_of c))

  abbrev history : Country → History
  history k = history_of (names_of (players_of c) k.tag) k 0 (nations_in ws es)

  names-here : (k : Country) → map name_in (take (run_length keys k.tag) (drop (keys_before keys k.tag) keys)) ≡ names_of (players_of c) k.tag
  names-here k = names-told (players_of c) k.tag (players-rising c few)

  length-here : (k : Country) → length (names_of (players_of c) k.tag) ≡ run_length keys k.tag
  length-here k =
      sym (ap length (names-here k))
      ∙ length-map (take (run_length keys k.tag) (drop (keys_before keys k.tag) keys)) name_in
      ∙ length-take (run_length keys k.tag) (drop (keys_before keys k.tag) keys)
      ∙ omega (arith, length-drop (keys_before keys k.tag) keys, run_inside keys k.tag)

  draft-names : (k : Country) → names_at keys (history_draft keys (history k)) ≡ (history k).names
  draft-names k =
      let parts = history-parts (names_of (players_of c) k.tag) k 0 (nations_in ws es) in
      let many : length (history k).names ≡ run_length keys k.tag = ap length parts.1 ∙ length-here k in
      let start : keys_before keys (history k).country.tag ≡ keys_before keys k.tag = ap (λ (j : Country). keys_before keys j.tag) parts.0 in
      rw (many, start) (names-here k ∙ sym parts.1)

  pub drafts-histories : (ks : List Country)
      → map (λ k. draft_with ws keys k (stored_word ws k.tag)) ks ≡ map (history_draft keys) (map history ks)
  drafts-histories ks =
      map_same _ (λ k. history_draft keys (history k)) ks (all-each (λ k. draft-history ws es keys shaped numbered (names_of (players_of c) k.tag) k (length-here k)) ks)
      ∙ sym (map-then history (history_draft keys) ks)

  pub all_named : (ks : List Country) → All (λ h. names_at keys (history_draft keys h) ≡ h.names) (map history ks)
  all_named ks = all-images (λ h. names_at keys (history_draft keys h) ≡ h.names) history draft-names ks

-- ## From what the functions give to the outcome

pub few-keys : (left : List Player) (keys : List ℕ) → length left ≤ 1000 → keys ≡ sort_by leb (map player_key left) → length keys ≤ 1000
few-keys left keys few sorted = omega (arith, ap length sorted ∙ length-sort leb (map player_key left), length-map left player_key, few)

-- A chronicle was opened.
pub opened : (b : Bool) → ◌≡◌ {A = ℕ} 0 (cond b 0 11) → b ≡ true
opened true h = refl
opened false h = absurd (omega (arith, h))

module _ (r : Record) where
  abbrev camp : Campaign
  camp = campaign_of r.bytes.now

  pub few-countries : length (countries_left r.countries) ≤ 2000
  few-countries = omega (arith, ap length r.told.countries, (sound r.bytes.now r.accepted).few_countries)

  module _ (ws : List ℕ) (left : List Player) (walk : PlayersTold r.bytes.now left) (keys : List ℕ) (ds : List Draft) (sorted : keys ≡ sort_by leb (map player_key left))
      (rows : ds ≡ map (λ k. draft_with ws keys k (stored_word ws k.tag)) (played_left r.countries)) where
    short : length keys ≤ 1000
    short = few-keys left keys walk.few sorted

    pub ready-told : ArrangeReady ds keys
    ready-told =
        record {
          few = omega (arith, ap length rows ∙ length-map (played_left r.countries) _, keep-short (λ (k : Country). k.was_player) (countries_left r.countries), few-countries);
          short = short;
          inside = rw rows (all-images (λ d. d.first + d.count ≤ length keys) (λ k. draft_with ws keys k (stored_word ws k.tag)) (λ k. run_inside keys k.tag) (played_left r.countries));
        }

    module _ (es : List ℕ) (shaped : well_shaped ws es ≡ true) (numbered : length (nation_rows_in ws) ≤ 4294967295) (before : HistoryCells) where
      abbrev hs : List History
      hs = played_histories camp (nations_in ws es)

      whole-keys : keys ≡ sort_by leb (map player_key (players_of camp))
      whole-keys = sorted ∙ ap (λ (ps : List Player). sort_by leb (map player_key ps)) walk.all

      drafts : ds ≡ map (history_draft keys) hs
      unfolding played_histories
      drafts =
          rows
          ∙ ap (λ (ks : List Country). map (λ k. draft_with ws keys k (stored_word ws k.tag)) (keep (λ k. k.was_player) ks)) r.told.countries
          ∙ rw whole-keys (drafts-histories camp ws es shaped numbered (sound r.bytes.now r.accepted).few_strings (keep (λ k. k.was_player) camp.countries))

      named : All (λ h. names_at keys (history_draft keys h) ≡ h.names) hs
      unfolding played_histories
      named = rw whole-keys (all_named camp ws es shaped numbered (sound r.bytes.now r.accepted).few_strings (keep (λ k. k.was_player) camp.countries))

      cells_same : drafted_cells (is_popped camp.ironman (map (history_draft keys) hs)) (map (history_draft keys) hs) keys ≡ history_cells_of (histories_of camp (nations_in ws es))
      unfolding history_cells_of histories_of
      cells_same =
          ap₂ (λ (x y : List ℕ). record { rows = x; names = y }) (words_same keys camp.ironman hs named) (names_same keys camp.ironman hs named)

      counts_same : drafted_counts (is_popped camp.ironman (map (history_draft keys) hs)) (map (history_draft keys) hs) ≡ history_counts_of (histories_of camp (nations_in ws es))
      unfolding history_counts_of histories_of
      counts_same =
          ap₂ (λ (x y : ℕ). record { histories = x; names = y })
          (count_same keys camp.ironman hs named)
          (sym (length-all-names keys (map (history_draft keys) hs) (rw drafts at ready-told.inside)) ∙ ap length (names_same keys camp.ironman hs named))

      number : first_of (refusal r.bytes.now ∷ chronicle_number ws es ∷ numbered_number (nations_in ws es) ∷ room_number (both_fit (history_cells_of (histories_of camp (nations_in ws es))) before) ∷ [])
          ≡ room_number (both_fit (history_cells_of (histories_of camp (nations_in ws es))) before)
      number =
          first-pass (refusal r.bytes.now) _ r.accepted
          ∙ first-pass (chronicle_number ws es) _ (rw shaped)
          ∙ first-pass (numbered_number (nations_in ws es)) _ (rw (le-leb (length (nations_in ws es)) 4294967295 (omega (arith, nations-many ws es shaped))))
          ∙ first_one _

      pub outcome-told : drafted_outcome r.ironman ds keys before ≡ call_player_histories r.bytes.now ws es before
      unfolding call_player_histories
      outcome-told =
          ap₂ (λ (b : Bool) (ds : List Draft). drafted_outcome b ds keys before) r.told.ironman drafts
          ∙ ap₂ (λ (cells : HistoryCells) (n : HistoryCounts). outcome (room_number (both_fit cells before)) n (both_written cells before) before) cells_same counts_same
          ∙ ap (λ (m : ℕ). outcome m (history_counts_of (histories_of camp (nations_in ws es))) (both_written (history_cells_of (histories_of camp (nations_in ws es))) before) before) (sym number)

-- ## Refused

module _ (xs ws es : List ℕ) (before : HistoryCells) where
  abbrev all : List History
  all = histories_of (campaign_of xs) (nations_in ws es)

  pub call-refused : (e : Refusal) → refusal_number e ≡ refusal xs → record { answer = refused (refusal_number e); memory = before } ≡ call_player_histories xs ws es before
  unfolding call_player_histories
  call-refused e t =
      let above = refuses e in
      let first = first-stop (refusal xs) (chronicle_number ws es ∷ numbered_number (nations_in ws es) ∷ room_number (both_fit (history_cells_of all) before) ∷ []) (λ z. omega arith) ∙ sym t in
      sym (rw first (outcome-refused (refusal_number e) (history_counts_of all) (both_written (history_cells_of all) before) before above))

  -- The chronicle is not well shaped, or has more nations than a word can number.
  pub call-torn : refusal xs ≡ 0 → (well_shaped ws es && leb (length (nation_rows_in ws)) 4294967295) ≡ false
      → record { answer = refused 11; memory = before } ≡ call_player_histories xs ws es before
  unfolding call_player_histories
  call-torn z h =
      let rest : List ℕ = room_number (both_fit (history_cells_of all) before) ∷ [] in
      let first : first_of (refusal xs ∷ chronicle_number ws es ∷ numbered_number (nations_in ws es) ∷ rest) ≡ 11 =
      first-pass (refusal xs) _ z
      ∙ cases (well_shaped ws es)
      (λ s. let n : numbered_number (nations_in ws es) ≡ 11 = rw (nations-many ws es s, rw s at h) refl in
      let c : chronicle_number ws es ≡ 0 = rw s refl in
      first-pass (chronicle_number ws es) (numbered_number (nations_in ws es) ∷ rest) c ∙ first-stop (numbered_number (nations_in ws es)) rest (λ e. omega (arith, n, e)) ∙ n)
      (λ s. let c : chronicle_number ws es ≡ 11 = rw s refl in
      first-stop (chronicle_number ws es) (numbered_number (nations_in ws es) ∷ rest) (λ e. omega (arith, c, e)) ∙ c) in
      sym (rw first (outcome-refused 11 (history_counts_of all) (both_written (history_cells_of all) before) before (omega arith)))

  -- What `?` hands on of such a chronicle.
  pub call-untaken : refusal xs ≡ 0 → (e : Refusal) → refusal_number e ≡ cond (well_shaped ws es && leb (length (nation_rows_in ws)) 4294967295) 0 11
      → record { answer = refused (refusal_number e); memory = before } ≡ call_player_histories xs ws es before
  call-untaken z e h =
      cases (well_shaped ws es && leb (length (nation_rows_in ws)) 4294967295)
      (λ t. let y : refusal_number e ≡ 0 = h ∙ rw t refl in absurd (omega (arith, y, refuses e)))
      (λ t. let y : refusal_number e ≡ 11 = h ∙ rw t refl in rw y (call-torn z t))
