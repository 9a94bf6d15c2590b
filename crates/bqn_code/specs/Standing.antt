-- Each body of a code with where it stands: this project's own.
use Rattle.std.specs.Prelude.{ℕ, zero, suc, ◌+◌, Bool, List, [], ◌∷◌, ◌++◌, length, slice_get, Option, Some, None}
use Rattle.std.specs.List.{list_all}
use Rattle.bqn_code.specs.declared.instr.Instr.{Instr}
use Rattle.bqn_code.specs.declared.code.Body.{Body}
use Rattle.bqn_code.specs.declared.code.Block.{Block}
use Rattle.bqn_code.specs.Plain.{Code}

-- the number of a body, that of its block, the block and the body
pub record Standing : Type 0 where
  pub number : ℕ
  pub block_number : ℕ
  pub block : Block
  pub body : Body

abbrev pub of_block : (block_number number : ℕ) → Block → List Body → List Standing
of_block b k block [] = []
of_block b k block (body ∷ bodies) = record { number = k; block_number = b; block = block; body = body } ∷ of_block b (suc k) block bodies

abbrev pub of_blocks : (block_number number : ℕ) → List Block → List Standing
of_blocks b k [] = []
of_blocks b k (block ∷ blocks) = of_block b k block block.bodies ++ of_blocks (suc b) (k + length block.bodies) blocks

-- the bodies through all blocks in order
abbrev pub standing : Code → List Standing
standing code = of_blocks 0 0 code.blocks

abbrev pub every_body : (Standing → Bool) → Code → Bool
every_body test code = list_all test (standing code)

abbrev pub every_instr : (Standing → Instr → Bool) → Code → Bool
every_instr test code = every_body (λ b. list_all (test b) b.body.code) code

abbrev pub slots_in : Option Standing → Option ℕ
slots_in None = None
slots_in (Some b) = Some b.body.slots

abbrev pub around : Option Standing → (ℕ → Option ℕ) → Option ℕ
around None go = None
around (Some b) go = elim b.block_number [ zero ↦ None | suc n ↦ go b.block.parent ]

-- how many variables the body so many bodies up has; the program's body has none around it
abbrev pub slots_up : List Standing → (up number : ℕ) → Option ℕ
slots_up bodies zero k = slots_in (slice_get bodies k)
slots_up bodies (suc up) k = around (slice_get bodies k) (λ parent. slots_up bodies up parent)
