-- Rules 8: the players of a campaign (`players`).
use Rattle.std.specs.Prelude.{Bool, cond, ◌&&◌, not, List, [], ◌∷◌, ℕ, ◌+◌}
use Rattle.std.proofs.Math.Option.{Option, none, some}
use Rattle.lists.specs.Lists.{join_of, same_numbers}
use Rattle.lists.specs.Text.{ascii}
use Rattle.format.specs.declared.tag.CountryTag.{CountryTag}
use Rattle.format.specs.Tags.{created}
use Rattle.format.specs.Campaign.{Campaign}
use Rattle.format.specs.declared.values.Player.{Player}

-- A name and a tag text, with the name's string number from 0. (Rules 8.1)
pub record Pair : Type 0 where
  pub number : ℕ
  pub name : List ℕ
  pub text : List ℕ

-- A name and the text behind it are a pair; a name with nothing behind it is left out. The first of these strings has the given number. (Rules 8.1)
unfoldable pub pairs_from : ℕ → List (List ℕ) → List Pair
pairs_from n [] = []
pairs_from n (name ∷ []) = []
pairs_from n (name ∷ text ∷ rest) = record { number = n; name = name; text = text } ∷ pairs_from (n + 2) rest

-- Nobody in particular: the name `Player`, in a campaign of one player. (Rules 8.2)
abbrev pub is_anonymous : Bool → Pair → Bool
is_anonymous multiplayer p = same_numbers p.name (ascii "Player") && not multiplayer

-- No player comes of a text that is no tag. (Rules 8.2)
abbrev pub tagged_player : ℕ → Option CountryTag → List Player
tagged_player number none = []
tagged_player number (some t) = record { name = number; tag = t } ∷ []

-- The player of a pair; no player when it is skipped. (Rules 8.2)
unfoldable pub player_of : Bool → Pair → List Player
player_of multiplayer p = cond (is_anonymous multiplayer p) [] (tagged_player p.number (created p.text))

-- The players of a campaign, in string order. (Rules 8.2)
unfoldable pub players_of : Campaign → List Player
players_of c = join_of (player_of c.multiplayer) (pairs_from 0 c.strings)

-- ## Rows

-- The width of a player row. (Rules 8.3)
abbrev pub player_width : ℕ
player_width = 2

-- Its words: name, tag. (Rules 8.3)
abbrev pub player_words : Player → List ℕ
player_words p = p.name ∷ p.tag.0 ∷ []

-- The words of players, row behind row. (Rules 8.3)
unfoldable pub player_rows : List Player → List ℕ
player_rows ps = join_of player_words ps
