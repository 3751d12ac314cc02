-- What the rows hold from pass to pass: inner steps. Between blocks a row has a 0, and the date and the nation number plus 1 of its best claim so far: no booking
-- is made of it before the last pass.
use Rattle.std.specs.Prelude.{◌≡◌, true, List, [], ◌∷◌, ◌++◌, ℕ, ◌+◌, ◌*◌, ◌/◌, ◌<◌, ◌≤◌, length, take, drop, get_or}
use Rattle.std.proofs.Math.Option.{Option, none, some, map}
use Rattle.lists.specs.Lists.{All}
use Rattle.format.specs.declared.tag.CountryTag.{CountryTag}
use Rattle.format.specs.Tags.{is_tag}
use Rattle.rules.specs.NationRows.{well_shaped}
use Rattle.format.specs.declared.values.Booking.{Booking}
use Rattle.format.specs.declared.values.Joining.{Joining}
use Rattle.rules.specs.Bookings.{booking_width, booking_words}
use Rattle.rows.specs.declared.chronicle.Chronicle.{Chronicle}
use Rattle.rows.specs.RowAt.{nation_row_at}
use Rattle.resolver.specs.declared.claims.Claim.{Claim}
use Rattle.resolver.specs.Claims.{claims_in, best_of}
use Rattle.resolver.specs.Layout.{claim_dates}
use Rattle.resolver.specs.Keys.{last_asked}
use Rattle.resolver.specs.Passes.{claim_words, updated, row_owner}

-- ## Rows of three words

-- The row that begins at word k.
abbrev pub row_here : ℕ → List ℕ → List ℕ
row_here k out = take booking_width (drop k out)

-- The words with a row written there.
abbrev pub row_put_at : ℕ → List ℕ → List ℕ → List ℕ
row_put_at k row out = take k out ++ (row ++ drop (k + booking_width) out)

-- A row for each joining, from the row that stood there; behind them the words stay.
unfoldable pub rows_by : (Joining → List ℕ → List ℕ) → List Joining → List ℕ → List ℕ
rows_by row [] out = out
rows_by row (j ∷ js) out = row j (take booking_width out) ++ rows_by row js (drop booking_width out)

-- As many rows as there are, of the first joinings.
abbrev pub rows_in_room : (Joining → List ℕ → List ℕ) → List Joining → List ℕ → List ℕ
rows_in_room row js out = rows_by row (take (length out / booking_width) js) out

-- ## The rows of each pass

-- With the best of the claims passed.
abbrev pub best_booking_row : List Claim → Joining → List ℕ
best_booking_row cs j = 0 ∷ claim_words (best_of j.tag j.date cs)

-- After a block of sorted keys, from the row before it.
abbrev pub held_row : List ℕ → List ℕ → Joining → List ℕ → List ℕ
held_row keys owners j row = 0 ∷ updated owners (last_asked j.tag j.date keys) (get_or row 1 0) (get_or row 2 0)

-- The stored tag of a nation by its number; the tag itself for none.
abbrev pub stored_tag : List ℕ → CountryTag → Option ℕ → CountryTag
stored_tag ws tag none = tag
stored_tag ws tag (some i) = (nation_row_at ws i).stored

-- The booking of a joining, with this stored tag.
abbrev pub booked : Joining → CountryTag → Booking
booked j stored = record { war = j.war; tag = j.tag; stored = stored }

-- Its words.
abbrev pub row_with : Joining → CountryTag → List ℕ
row_with j stored = booking_words (booked j stored)

-- In the end, from the row before.
abbrev pub final_row : List ℕ → Joining → List ℕ → List ℕ
final_row ws j row = row_with j (stored_tag ws j.tag (row_owner (get_or row 2 0)))

-- By the best of all claims.
abbrev pub claimed_row : List ℕ → List ℕ → Joining → List ℕ
claimed_row ws es j = row_with j (stored_tag ws j.tag (map (λ c. c.nation) (best_of j.tag j.date (claims_in ws es))))

-- All rows, by a chronicle.
abbrev pub claimed_rows : Chronicle → List Joining → List ℕ → List ℕ
claimed_rows chronicle js out = rows_by (λ j _. claimed_row chronicle.nations.now chronicle.entries.now j) js out

-- ## What the passes start from

-- A joining that a key can be asked for.
pub record GoodJoining (j : Joining) : Type 0 where
  pub tag : is_tag j.tag ≡ true
  pub date : j.date.0 < claim_dates

-- Good joinings, a well-shaped chronicle, and room for their rows.
pub record BookingReady (js : List Joining) (ws es out : List ℕ) : Type 0 where
  pub good : All GoodJoining js
  pub shaped : well_shaped ws es ≡ true
  pub room : booking_width * length js ≤ length out
