-- How many players there are, the words of their rows, and the outcome of `players`, by case.
use mathlib.Core.Path.{◌≡◌, refl, sym, ap, ◌∙◌}
use mathlib.Core.Bool.{Bool, true, false}
use mathlib.Core.List.{List, [], ◌∷◌, ◌++◌}
use mathlib.Core.Option.{Option, none, some}
use Prim.Native.Nat.{ℕ, ◌+◌, ◌-◌, ◌*◌, ◌<◌, ◌≤◌}
use native.Mathlib.Omega.{arith}
use borrow.Author.Tests.{le-leb, lt-leb}
use lib.ListN.{length, take, drop, length-take, length-drop}
use borrow.Rule.Slice.PartMut.{put_mid}
use Rattle.std.specs.Prelude.{Ok, Err}
use Rattle.lists.specs.Lists.{join_of}
use Rattle.lists.proofs.BoolLaws.{cases}
use Rattle.lists.proofs.EachLaws.{all-each}
use Rattle.lists.proofs.ListLaws.{join-short, length-join}
use Rattle.lists.proofs.WriteLaws.{Writing, behind, writing_more}
use Rattle.format.specs.declared.tag.CountryTag.{CountryTag}
use Rattle.format.specs.Tags.{created}
use Rattle.format.specs.Campaign.{campaign_of}
use Rattle.format.specs.RecordNumber.{refusal, first_of}
use Rattle.format.specs.RefusalNumber.{refusal_number}
use Rattle.format.specs.declared.refused.Refusal.{Refusal}
use Rattle.format.specs.declared.refused.Refusal.TheVariants.{NoRoom}
use Rattle.format.proofs.FirstLaws.{first-stop, first-pass, first_one}
use Rattle.format.proofs.SoundLaws.{sound}
use Rattle.record.specs.declared.opened.Record.{Record}
use Rattle.format.proofs.RefusalNumberLaws.{refuses}
use Rattle.record.specs.Cursors.{strings_left}
use Rattle.rules.specs.Lent.{outcome_of, written, fits, room_number}
use Rattle.format.specs.declared.values.Player.{Player}
use Rattle.rules.specs.Players.{Pair, pairs_from, is_anonymous, tagged_player, player_of, players_of, player_words, player_rows, player_width}
use Rattle.rules.specs.PlayerOutcomes.{call_players}
use Rattle.rules.proofs.LentLaws.{outcome-refused, outcome-gives}
use Rattle.rows.specs.RowAt.{row_put}

-- ## How many players

player-few : (multiplayer : Bool) (p : Pair) → length (player_of multiplayer p) ≤ 1
unfolding player_of
player-few multiplayer p =
    cases (is_anonymous multiplayer p) (λ h. simp h (omega arith)) (λ h. simp h (go (created p.text)))
  where
    go : (t : Option CountryTag) → length (tagged_player p.number t) ≤ 1
    go none = omega arith
    go (some t) = omega arith

pairs-short : (n : ℕ) (ss : List (List ℕ)) → length (pairs_from n ss) ≤ length ss
unfolding pairs_from
pairs-short n [] = omega arith
pairs-short n (name ∷ []) = omega arith
pairs-short n (name ∷ text ∷ rest) = omega (arith, pairs-short (n + 2) rest)

-- No more than there are strings.
pub players-short : (multiplayer : Bool) (n : ℕ) (ss : List (List ℕ)) → length (join_of (player_of multiplayer) (pairs_from n ss)) ≤ length ss
players-short multiplayer n ss =
    let ps : List Pair = pairs_from n ss in
    omega (
      arith,
      join-short (player_of multiplayer) 1 ps (all-each {P = λ p. length (player_of multiplayer p) ≤ 1} (player-few multiplayer) ps),
      pairs-short n ss,
    )

pub players-few : (xs : List ℕ) → refusal xs ≡ 0 → length (players_of (campaign_of xs)) ≤ 1000
unfolding players_of
players-few xs z =
    let c = campaign_of xs in
    omega (arith, players-short c.multiplayer 0 c.strings, (sound xs z).few_strings)

-- ## Their rows

pub length-player_rows : (ps : List Player) → length (player_rows ps) ≡ player_width * length ps
unfolding player_rows
length-player_rows ps = length-join player_width player_words (λ p. refl) ps

pub rows_next : (p : Player) (ps : List Player) → player_rows (p ∷ ps) ≡ player_words p ++ player_rows ps
unfolding player_rows
rows_next p ps = refl

pub rows_none : player_rows [] ≡ []
unfolding player_rows
rows_none = refl

-- A row was put into the tail, which has room for it.
put-tail : (row words out now : List ℕ) (at : ℕ) → at + player_width ≤ length out → words ≡ row → now ≡ row_put player_width words (take (length out - at) (drop at out))
    → now ≡ row ++ drop player_width (take (length out - at) (drop at out))
put-tail row words out now at room e put =
    let long : player_width ≤ length (take (length out - at) (drop at out)) = simp (length-take, length-drop) (omega arith) in
    put ∙ rw (le-leb player_width (length (take (length out - at) (drop at out))) long, e) refl

-- The row of the next player follows those of the players before.
pub row-written : (all : List ℕ) (left rest : List Player) (p : Player) (before now words cells : List ℕ) (i at next : ℕ)
    → Writing all (player_rows left) before (player_width * i) now → left ≡ p ∷ rest → at ≡ i → next ≡ i + 1 → words ≡ player_words p
    → cells ≡ row_put player_width words (take (length now - player_width * at) (drop (player_width * at) now))
    → Writing all (player_rows rest) before (player_width * next) (put_mid (player_width * at) (length now - player_width * at) now cells)
row-written all left rest p before now words cells i at next w e a b same put =
    let room : player_width * i + player_width ≤ length now = omega (arith, w.fits, w.long, length-player_rows left, ap length e) in
    let wrote = behind now (player_words p) cells (player_width * i) room (put-tail (player_words p) words now cells (player_width * i) room same (rw a at put)) in
    let step : player_width * next ≡ player_width * i + player_width = omega (arith, b) in
    rw (a, step) (writing_more all (player_rows left) (player_rows rest) before (player_words p) now _ (player_width * i) (ap player_rows e ∙ rows_next p rest) w wrote)

-- ## `players`

-- The players of an accepted record are left.
pub record PlayersTold (xs : List ℕ) (left : List Player) : Type 0 where
  pub accepted : refusal xs ≡ 0
  pub all : left ≡ players_of (campaign_of xs)
  pub few : length left ≤ 1000

pub players-told : (r : Record) (left : List Player) → left ≡ join_of (player_of r.multiplayer) (pairs_from 0 (strings_left r.strings)) → PlayersTold r.bytes.now left
unfolding players_of
players-told r left e =
    let all : left ≡ players_of (campaign_of r.bytes.now) = e ∙ rw (r.told.multiplayer, r.told.strings) in
    record { accepted = r.accepted; all = all; few = omega (arith, ap length all, players-few r.bytes.now r.accepted) }

module _ (xs before : List ℕ) where
  players : List Player
  players = players_of (campaign_of xs)

  rows : List ℕ
  unfolding players
  rows = player_rows players

  number : ℕ
  unfolding rows players
  number = first_of (refusal xs ∷ room_number (fits rows before) ∷ [])

  pub players_refused : (e : Refusal) → refusal_number e ≡ refusal xs → outcome_of (λ (m : ℕ). m) (Err e) before ≡ call_players xs before
  unfolding call_players number rows players
  players_refused e t =
      let above = refuses e in
      let first : number ≡ refusal_number e = first-stop (refusal xs) _ (λ z. omega arith) ∙ sym t in
      sym (rw first (outcome-refused (refusal_number e) (length players) (written rows before) before above))

  module _ (left : List Player) (n : ℕ) (told : PlayersTold xs left) (counted : n ≡ length left) where
    size : n ≡ length (players_of (campaign_of xs))
    size = counted ∙ ap length told.all

    pub players_short : length before < player_width * n → outcome_of (λ (m : ℕ). m) (Err NoRoom) before ≡ call_players xs before
    unfolding call_players number rows players
    players_short h =
        let short : fits rows before ≡ false = lt-leb (length rows) (length before) (omega (arith, length-player_rows players, size)) in
        let first : number ≡ 10 = first-pass (refusal xs) _ told.accepted ∙ first_one _ ∙ ap room_number short in
        sym (rw first (outcome-refused 10 (length players) (written rows before) before (omega arith)))

    pub players_rows : (after : List ℕ) → player_width * n ≤ length before → after ≡ written (player_rows left) before → outcome_of (λ (m : ℕ). m) (Ok n) after ≡ call_players xs before
    unfolding call_players number rows players
    players_rows after h e =
        let room : fits rows before ≡ true = le-leb (length rows) (length before) (omega (arith, length-player_rows players, size)) in
        let first : number ≡ 0 = first-pass (refusal xs) _ told.accepted ∙ first_one _ ∙ ap room_number room in
        sym (rw (size, e, told.all) (outcome-gives number (length players) (written rows before) before first))
