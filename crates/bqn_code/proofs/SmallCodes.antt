-- Small codes: what samples are made of.
use Rattle.std.proofs.Common.{false, ℕ, pos, List, [], ◌∷◌, ◌++◌}
use lib.Chars.{codes}
use Rattle.bqn_syntax.specs.declared.tree.Class.{Class}
use Rattle.bqn_syntax.specs.declared.tree.Class.TheVariants as class
use Rattle.bqn_code.specs.declared.constant.Const.{Const}
use Rattle.bqn_code.specs.declared.constant.Const.TheVariants as const
use Rattle.bqn_code.specs.declared.instr.Instr.{Instr}
use Rattle.bqn_code.specs.declared.code.Body.{Body}
use Rattle.bqn_code.specs.declared.code.Block.{Block}
use Rattle.bqn_code.specs.Plain as p
use Rattle.bqn_code.specs.Plain.{Code}

abbrev pub nums : List ℕ → List Const
nums [] = []
nums (k ∷ ks) = const.Number (pos k) ∷ nums ks

-- a body for all calls, without exports
abbrev pub body : (slots : ℕ) → List Instr → Body
body slots is = record { kind = 0; slots = slots; exports = []; code = is; places = [] }

abbrev pub body_for : (kind slots : ℕ) → List Instr → Body
body_for kind slots is = record { kind = kind; slots = slots; exports = []; code = is; places = [] }

abbrev pub exporting : List (ℕ × ℕ) → (slots : ℕ) → List Instr → Body
exporting exports slots is = record { kind = 0; slots = slots; exports = exports; code = is; places = [] }

abbrev pub block : Class → (parent : ℕ) → List Body → Block
block c parent bodies = record { class = c; parent = parent; bodies = bodies }

abbrev pub program : (slots : ℕ) → List Instr → Block
program slots is = block class.Immediate 0 (body slots is ∷ [])

-- the names a and b, the constants 0 to 5, a character and a text
abbrev pub code : List p.Pattern → List Block → Code
code ps blocks = record { placed = false; names = codes "a" ∷ codes "b" ∷ []; constants = nums (0 ∷ 1 ∷ 2 ∷ 3 ∷ 4 ∷ 5 ∷ []) ++ const.Char 120 ∷ const.Text (codes "ab") ∷ const.Text [] ∷ []; patterns = ps; blocks = blocks }
