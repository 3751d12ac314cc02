-- What rows hold once all claims of a chronicle have been held against them, block by block.
use Rattle.std.specs.Prelude as code
use Rattle.std.specs.Prelude.{Some, None, List, [], ◌∷◌, map, ℕ, zero, suc, leb, length, take, drop}
use Rattle.sorting.specs.Sort.{sort_by}
use Rattle.resolver.specs.declared.claims.Claim.{Claim}
use Rattle.resolver.specs.declared.claims.Claims.{Claims}
use Rattle.resolver.specs.declared.holding.ClaimBlock.{ClaimBlock}
use Rattle.resolver.specs.declared.blocks.TheConstants.{BLOCK}
use Rattle.resolver.specs.Claims.{claims_left}
use Rattle.resolver.specs.Keys.{keys_from, Fills, SortsBlock, block_room}

-- The sorted keys of a block, and the numbers of its nations.
abbrev pub block_keys : ClaimBlock → List ℕ
block_keys block = block.sorted.keys.now

abbrev pub block_owners : ClaimBlock → List ℕ
block_owners block = block.owners.now

-- How many claims a block has; without a block none.
abbrev pub taken_told : code.Option ℕ → ℕ
taken_told (Some n) = n
taken_told None = 0

-- A block is filled with claims, and is sorted.
abbrev pub BlockFilled : Claims → Claims → ℕ → List ℕ → List ℕ → List ℕ → List ℕ → Type 0
BlockFilled old new count keys₀ keys₁ owners₀ owners₁ = Fills (claims_left old) (claims_left new) (block_room keys₀ owners₀) count keys₀ keys₁ owners₀ owners₁

abbrev pub BlockSorted : Claims → Claims → code.Option ℕ → List ℕ → List ℕ → List ℕ → List ℕ → Type 0
BlockSorted old new taken keys₀ keys₁ owners₀ owners₁ =
    SortsBlock (claims_left old) (claims_left new) (block_room keys₀ owners₀) (taken_told taken) keys₀ keys₁ owners₀ owners₁

-- ## Blocks

-- A list cut into pieces of so many elements, of which the last may have fewer; n pieces at most.
unfoldable pub pieces_of : {A : Type 0} → ℕ → ℕ → List A → List (List A)
pieces_of size zero xs = []
pieces_of size (suc n) [] = []
pieces_of size (suc n) (x ∷ xs) = take size (x ∷ xs) ∷ pieces_of size n (drop size (x ∷ xs))

-- Claims in blocks.
abbrev pub blocks_of : List Claim → List (List Claim)
blocks_of claims = pieces_of BLOCK (length claims) claims

-- What a pass makes of rows with a block of claims: by their keys in order, and the numbers of their nations.
abbrev pub held_block : (List ℕ → List ℕ → List ℕ → List ℕ) → List Claim → List ℕ → List ℕ
held_block held block out = held (sort_by leb (keys_from 0 block)) (map (λ c. c.nation) block) out

-- What it makes of them with one block after the other.
unfoldable pub held_through : (List ℕ → List ℕ → List ℕ → List ℕ) → List (List Claim) → List ℕ → List ℕ
held_through held [] out = out
held_through held (block ∷ blocks) out = held_through held blocks (held_block held block out)
