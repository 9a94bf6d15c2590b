-- The blocks and bodies of several codes by number. Those of a further code come behind those of the codes before it; only the
-- programs and the top bodies of all codes have the number 0, since their variables are shared. All of it is this project's own.
use Rattle.std.specs.Prelude.{ℕ, zero, suc, ◌+◌, ◌-◌, Bool, true, false, List, [], ◌∷◌, ◌++◌, length, map, slice_get, Option, Some, None}
use Rattle.bqn_syntax.specs.declared.tree.Class.{Class}
use Rattle.bqn_syntax.specs.scope.Scope.{same_name as same_spelling}
use Rattle.bqn_code.specs.declared.code.Body.{Body}
use Rattle.bqn_code.specs.declared.code.Block.{Block}
use Rattle.bqn_code.specs.Plain.{Code}

-- a code, and how many blocks and bodies the codes before it have besides their programs and top bodies
pub record Placed : Type 0 where
  pub code : Code
  pub blocks : ℕ
  pub bodies : ℕ

-- behind so many others; the first is shared
abbrev pub number_behind : (before k : ℕ) → ℕ
number_behind before zero = 0
number_behind before (suc k) = before + suc k

-- the number of a block of this code among all blocks, and that of a body among all bodies
abbrev pub block_number : Placed → ℕ → ℕ
block_number here k = number_behind here.blocks k

abbrev pub body_number : Placed → ℕ → ℕ
body_number here k = number_behind here.bodies k

-- a block, with the number that its first body has in its own code
pub record BlockAt : Type 0 where
  pub here : Placed
  pub first : ℕ
  pub block : Block

-- a body, with the number of the body around it among all bodies
pub record BodyAt : Type 0 where
  pub here : Placed
  pub parent : ℕ
  pub body : Body

abbrev pub placed_blocks : Placed → (first : ℕ) → List Block → List BlockAt
placed_blocks here first [] = []
placed_blocks here first (b ∷ bs) = record { here = here; first = first; block = b } ∷ placed_blocks here (first + length b.bodies) bs

abbrev pub placed_body : Placed → Block → Body → BodyAt
placed_body here b body = record { here = here; parent = body_number here b.parent; body = body }

abbrev pub placed_bodies : Placed → List Block → List BodyAt
placed_bodies here [] = []
placed_bodies here (b ∷ bs) = map (placed_body here b) b.bodies ++ placed_bodies here bs

-- all blocks and all bodies by number; block 0 and body 0 are those of the last code
pub record Table : Type 0 where
  pub blocks : List BlockAt
  pub bodies : List BodyAt

-- those of a further code behind others; its first one takes the place of the first
abbrev pub joined : {A : Type 0} → List A → List A → List A
joined [] new = new
joined (top ∷ old) [] = top ∷ old
joined (top ∷ old) (x ∷ new) = x ∷ (old ++ new)

abbrev pub behind : Table → Code → Placed
behind t code = record { code = code; blocks = length t.blocks - 1; bodies = length t.bodies - 1 }

abbrev pub with_code : Table → Code → Table
with_code t code = record {
  blocks = joined t.blocks (placed_blocks (behind t code) 0 code.blocks);
  bodies = joined t.bodies (placed_bodies (behind t code) code.blocks);
}

abbrev pub with_codes : Table → List Code → Table
with_codes t [] = t
with_codes t (code ∷ codes) = with_codes (with_code t code) codes

abbrev pub table_of : List Code → Table
table_of codes = with_codes (record { blocks = []; bodies = [] }) codes

-- ---- what is asked of a table

abbrev pub parent_in : Option BodyAt → ℕ
parent_in None = 0
parent_in (Some b) = b.parent

-- the number of the body around a body
abbrev pub parent_of : Table → ℕ → ℕ
parent_of t body = parent_in (slice_get t.bodies body)

abbrev pub class_in : Option BlockAt → Option Class
class_in None = None
class_in (Some b) = Some b.block.class

abbrev pub class_of : Table → ℕ → Option Class
class_of t block = class_in (slice_get t.blocks block)

-- two names, each where its number has one
abbrev pub same_name : Option (List ℕ) → Option (List ℕ) → Bool
same_name (Some a) (Some b) = same_spelling a b
same_name _ _ = false

-- the slot of the export with this name
abbrev pub slot_named : List (List ℕ) → Option (List ℕ) → List (ℕ × ℕ) → Option ℕ
slot_named names name [] = None
slot_named names name (e ∷ es) = elim (same_name (slice_get names e.0) name) [ true ↦ Some e.1 | false ↦ slot_named names name es ]

abbrev pub slot_in : Option BodyAt → Option (List ℕ) → Option ℕ
slot_in None name = None
slot_in (Some b) name = slot_named b.here.code.names name b.body.exports

-- the slot of the variable that a body exports under this name
abbrev pub field_slot : Table → (body : ℕ) → Option (List ℕ) → Option ℕ
field_slot t body name = slot_in (slice_get t.bodies body) name
