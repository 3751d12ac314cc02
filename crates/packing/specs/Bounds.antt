-- What a campaign's numbers and texts have to be so that their places in a record can hold them. What else a record asks of a campaign is `Sound`
-- in the crate format.
use Rattle.std.specs.Prelude.{List, ℕ, ◌<◌, length, ℤ, pos, negsuc}
use Rattle.lists.specs.Lists.{All}
use Rattle.format.specs.Campaign.{Campaign}

-- A number that a byte can hold. (Rules 1.1)
abbrev pub Byte : ℕ → Type 0
Byte b = b < 256

-- A number with a sign that four bytes can hold: from -2147483648 to 2147483647. (Rules 1.1)
abbrev pub Signed : ℤ → Type 0
Signed (pos n) = n < 2147483648
Signed (negsuc n) = n < 2147483648

-- Each country's cities are such a number. (Rules 1.1)
abbrev pub CitiesFit : Campaign → Type 0
CitiesFit c = All (λ k. Signed k.cities) c.countries

-- A text whose length a byte can hold, of bytes. (Rules 1.5)
pub record StringFits (s : List ℕ) : Type 0 where
  pub short : length s < 256
  pub bytes : All Byte s

-- What no limit of a record says: the cities; a war's events and a name's points, of which two bytes count less than the limits of all together;
-- the words of values; and the strings. (Rules 1.5)
pub record Fits (c : Campaign) : Type 0 where
  pub cities : CitiesFit c
  pub wars : All (λ es. length es < 65536) c.wars
  pub ledgers : All (λ l. length l.points < 65536) c.ledgers
  pub values : All (λ l. All (λ p. p.value < 4294967296) l.points) c.ledgers
  pub strings : All StringFits c.strings
