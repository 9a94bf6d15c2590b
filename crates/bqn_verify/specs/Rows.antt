-- What is asked of bodies, as one row each, and how many variables the body so many bodies up has: this project's own.
use Rattle.std.specs.Prelude.{◌≡◌, ℕ, zero, suc, ◌+◌, List, [], ◌∷◌, ◌++◌, length, map, slice_get, Option, Some, None}
use Rattle.bqn_code.specs.declared.code.Body.{Body}
use Rattle.bqn_code.specs.declared.code.Block.{Block}
use Rattle.bqn_verify.specs.declared.slots.Row.{Row}
use Rattle.bqn_verify.specs.declared.slots.Start.{Start}

-- the body around, or none for the program's
abbrev pub parent_if : (block_number parent : ℕ) → Option ℕ
parent_if zero parent = None
parent_if (suc n) parent = Some parent

abbrev pub row_in : (block_number parent : ℕ) → Body → Row
row_in n parent body = record { slots = body.slots; around = parent_if n parent }

-- the bodies of these blocks, of which the first has this number
abbrev pub rows_of : (block_number : ℕ) → List Block → List Row
rows_of n [] = []
rows_of n (block ∷ blocks) = map (row_in n block.parent) block.bodies ++ rows_of (suc n) blocks

abbrev pub slots_in : Option Row → Option ℕ
slots_in None = None
slots_in (Some r) = Some r.slots

abbrev pub go_up : Option ℕ → (ℕ → Option ℕ) → Option ℕ
go_up None go = None
go_up (Some n) go = go n

abbrev pub around_in : Option Row → (ℕ → Option ℕ) → Option ℕ
around_in None go = None
around_in (Some r) go = go_up r.around go

abbrev pub up_in : List Row → (up number : ℕ) → Option ℕ
up_in rows zero k = slots_in (slice_get rows k)
up_in rows (suc up) k = around_in (slice_get rows k) (λ parent. up_in rows up parent)

-- how many bodies so many first blocks have
abbrev pub bodies_before : (many : ℕ) → List Block → ℕ
bodies_before zero blocks = 0
bodies_before (suc n) [] = 0
bodies_before (suc n) (block ∷ blocks) = length block.bodies + bodies_before n blocks

-- a block with the number of its first body
abbrev pub IsStart : List Block → Start → Type 0
IsStart blocks start = start.first ≡ bodies_before start.block blocks
