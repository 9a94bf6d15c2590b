-- From source texts to code: what samples are made of.
use Rattle.std.proofs.Common.{ℕ, false, pos, List, [], ◌∷◌, map, Result, Ok, Err}
use Rattle.bqn_base.specs.declared.refusal.Refusal.{Refusal}
use Rattle.bqn_syntax.specs.declared.tree.Class.{Class}
use Rattle.bqn_syntax.specs.declared.tree.Class.TheVariants as class
use Rattle.bqn_syntax.specs.grammar.Trees.{Stmts}
use Rattle.bqn_syntax.specs.text.Tokens.{tokens_of_text}
use Rattle.bqn_syntax.specs.grammar.Parsing.{parsed}
use Rattle.bqn_syntax.specs.scope.Bodies.{Resolution, resolution}
use Rattle.bqn_code.specs.declared.constant.Const.{Const}
use Rattle.bqn_code.specs.declared.constant.Const.TheVariants as const
use Rattle.bqn_code.specs.declared.instr.Instr.{Instr}
use Rattle.bqn_code.specs.declared.code.Body.{Body}
use Rattle.bqn_code.specs.declared.code.Block.{Block}
use Rattle.bqn_code.specs.Plain.{Pattern, Code}
use Rattle.bqn_compile.specs.Gathering.{Most}
use Rattle.bqn_compile.specs.Translation.{translated, translated_within}

abbrev pub with_tree : {A : Type 0} → (Stmts → Result A Refusal) → List ℕ → Result A Refusal
with_tree go text = elim (tokens_of_text text) [ Err r ↦ Err r | Ok tokens ↦ elim (parsed tokens) [ Err r ↦ Err r | Ok tree ↦ go tree ] ]

abbrev resolved_code : (Resolution → Stmts → Result Code Refusal) → List (List ℕ) → Stmts → Result Code Refusal
resolved_code translate names tree = elim (resolution names tree) [ Err r ↦ Err r | Ok r ↦ translate r tree ]

-- the code of a tree behind the names of a session
abbrev pub tree_code : List (List ℕ) → Stmts → Result Code Refusal
tree_code = resolved_code translated

-- a code without its places
abbrev bare_body : Body → Body
bare_body b = record b { places = [] }

abbrev bare_block : Block → Block
bare_block b = record b { bodies = map bare_body b.bodies }

abbrev pub bare_result : Result Code Refusal → Result Code Refusal
bare_result (Err r) = Err r
bare_result (Ok code) = Ok (record code { placed = false; blocks = map bare_block code.blocks })

-- the code of a text, without its places
abbrev pub code_of : List ℕ → Result Code Refusal
code_of text = bare_result (with_tree (tree_code []) text)

-- where there may be so many, behind the names of a session
abbrev pub code_within : Most → List (List ℕ) → List ℕ → Result Code Refusal
code_within m names text = bare_result (with_tree (resolved_code (translated_within m) names) text)

-- ---- what is looked at

-- the code of the program alone, or of each body
abbrev pub body_codes : Result Code Refusal → List (List Instr)
body_codes (Err r) = []
body_codes (Ok code) = elim code.blocks [ [] ↦ [] | block ∷ blocks ↦ map (λ b. b.code) block.bodies ]

abbrev pub programs : List (List ℕ) → List (List (List Instr))
programs [] = []
programs (text ∷ texts) = body_codes (code_of text) ∷ programs texts

-- the blocks inside the program
abbrev blocks_in : Result Code Refusal → List Block
blocks_in (Err r) = []
blocks_in (Ok code) = elim code.blocks [ [] ↦ [] | block ∷ blocks ↦ blocks ]

abbrev pub inner_blocks : List ℕ → List Block
inner_blocks text = blocks_in (code_of text)

-- a body for these calls, without exports
abbrev pub body : (kind slots : ℕ) → List Instr → Body
body kind slots is = record { kind = kind; slots = slots; exports = []; code = is; places = [] }

abbrev pub exporting : List (ℕ × ℕ) → (slots : ℕ) → List Instr → Body
exporting exports slots is = record { kind = 0; slots = slots; exports = exports; code = is; places = [] }

abbrev pub block : Class → (parent : ℕ) → List Body → Block
block c parent bodies = record { class = c; parent = parent; bodies = bodies }

abbrev pub program : Body → Block
program b = block class.Immediate 0 (b ∷ [])

abbrev pub nums : List ℕ → List Const
nums [] = []
nums (k ∷ ks) = const.Number (pos k) ∷ nums ks

abbrev pub code : List (List ℕ) → List Const → List Pattern → List Block → Result Code Refusal
code names constants patterns blocks = Ok (record { placed = false; names = names; constants = constants; patterns = patterns; blocks = blocks })
