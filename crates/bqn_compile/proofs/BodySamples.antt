-- Each rule of the translation of blocks: their order, their parents, the kinds of their bodies, and headers.
use Rattle.std.proofs.Common.{◌≡◌, pos, List, [], ◌∷◌, refl}
use lib.Chars.{codes}
use Rattle.bqn_syntax.specs.declared.tree.Class.TheVariants as class
use Rattle.bqn_code.specs.declared.constant.Const.TheVariants as const
use Rattle.bqn_code.specs.declared.instr.Instr.{Instr}
use Rattle.bqn_code.specs.declared.instr.Instr.TheVariants as i
use Rattle.bqn_code.specs.Plain.{Skip, Define, ListPattern, Literal, patterns}
use Rattle.bqn_compile.proofs.Sources.{bare_result, with_tree, tree_code, code_of, inner_blocks, body, exporting, block, program, nums, code}

abbrev return : List Instr
return = i.Return ∷ []

-- ---- blocks

-- in the order of their braces, whatever is evaluated first; bodies are numbered block by block
order : code_of (codes "{1}-{𝕩⋄{{2}};𝕨-{3}}{4}") ≡
    code [] (nums (1 ∷ 2 ∷ 3 ∷ 4 ∷ [])) []
    (program (body 0 0 (i.Run 6 ∷ i.Block 2 ∷ i.Call1 ∷ i.Given 1 ∷ i.Run 1 ∷ i.Call2 ∷ return))
    ∷ block class.Immediate 0 (body 0 0 (i.Const 0 ∷ return) ∷ [])
    ∷ block class.Function 0 (body 1 0 (i.Right ∷ i.Pop ∷ i.Run 3 ∷ return) ∷ body 2 0 (i.Run 5 ∷ i.Given 1 ∷ i.Left ∷ i.Call2 ∷ return) ∷ [])
    ∷ block class.Immediate 2 (body 0 0 (i.Run 4 ∷ return) ∷ [])
    ∷ block class.Immediate 4 (body 0 0 (i.Const 1 ∷ return) ∷ [])
    ∷ block class.Immediate 3 (body 0 0 (i.Const 2 ∷ return) ∷ [])
    ∷ block class.Immediate 0 (body 0 0 (i.Const 3 ∷ return) ∷ [])
    ∷ [])
order = refl

classes : inner_blocks (codes "{1}⋄F←{𝕩}⋄_m←{𝕗}⋄_n←{𝔽𝕩}⋄_o_←{𝕘}⋄_p_←{𝕨𝔽𝔾𝕩}") ≡
    block class.Immediate 0 (body 0 0 (i.Const 0 ∷ return) ∷ []) ∷ block class.Function 0 (body 0 0 (i.Right ∷ return) ∷ []) ∷ block class.Mod1 0 (body 0 0 (i.LeftOperand ∷ return) ∷ [])
    ∷ block class.Mod1Deferred 0 (body 0 0 (i.Right ∷ i.LeftOperand ∷ i.Call1 ∷ return) ∷ []) ∷ block class.Mod2 0 (body 0 0 (i.RightOperand ∷ return) ∷ [])
    ∷ block class.Mod2Deferred 0 (body 0 0 (i.Right ∷ i.RightOperand ∷ i.Call1 ∷ i.LeftOperand ∷ i.Left ∷ i.Call2 ∷ return) ∷ []) ∷ []
classes = refl

specials : inner_blocks (codes "F←+{𝕨‿𝕩‿𝕤‿𝕗‿𝕘‿𝕣}-") ≡ block class.Mod2Deferred 0 (body 0 0 (i.Left ∷ i.Right ∷ i.Own ∷ i.LeftOperand ∷ i.RightOperand ∷ i.Modifier ∷ i.List 6 ∷ return) ∷ []) ∷ []
specials = refl

-- names outside, and the exports of each body
scopes : code_of (codes "a←1⋄F←{b⇐𝕩⋄{a+b↩𝕩}}⋄(F 2).b") ≡
    code (codes "b" ∷ []) (nums (1 ∷ 2 ∷ [])) []
    (program (body 0 2 (i.Const 0 ∷ i.Define 0 ∷ i.Pop ∷ i.Block 1 ∷ i.Define 1 ∷ i.Pop ∷ i.Const 1 ∷ i.Load 0 1 ∷ i.Call1 ∷ i.Field 0 ∷ return))
    ∷ block class.Function 0 (exporting ((0, 0) ∷ []) 1 (i.Right ∷ i.Define 0 ∷ i.Pop ∷ i.Block 2 ∷ i.Pop ∷ i.Space ∷ []) ∷ [])
    ∷ block class.Function 1 (body 0 0 (i.Right ∷ i.Change 1 0 ∷ i.Given 0 ∷ i.Load 2 0 ∷ i.Call2 ∷ return) ∷ []) ∷ [])
scopes = refl

-- ---- bodies

-- plain bodies for calls without and with a left argument
plain_bodies : inner_blocks (codes "F←{𝕩;𝕨}") ≡ block class.Function 0 (body 1 0 (i.Right ∷ return) ∷ body 2 0 (i.Left ∷ return) ∷ []) ∷ []
plain_bodies = refl

-- by their headers, and for all calls where a predicate decides
kinds : inner_blocks (codes "F←{𝕊𝕩: 1; 𝕨𝕊𝕩: 2; 𝕊: 3; 𝕩? 4; 𝕩; 𝕨}") ≡
    block class.Function 0 (body 1 0 (i.Const 0 ∷ return) ∷ body 2 0 (i.Const 1 ∷ return) ∷ body 0 0 (i.Const 2 ∷ return) ∷ body 0 0 (i.Right ∷ i.Check ∷ i.Const 3 ∷ return) ∷ body 1 0 (i.Right ∷ return) ∷ body 2 0 (i.Left ∷ return) ∷ []) ∷ []
kinds = refl

-- `𝕨`, `𝕩`, `𝕗`, `𝕘`, `𝕊` and `_𝕣` ask for nothing
special_headers : inner_blocks (codes "F←{𝕨𝕊𝕩: 0}⋄_m←{𝕨𝔽_𝕣𝕩: 0}⋄_n_←{𝔽_𝕣_𝔾: 0}") ≡
    block class.Function 0 (body 2 0 (i.Const 0 ∷ return) ∷ []) ∷ block class.Mod1Deferred 0 (body 2 0 (i.Const 0 ∷ return) ∷ []) ∷ block class.Mod2 0 (body 0 0 (i.Const 0 ∷ return) ∷ []) ∷ []
special_headers = refl

-- a left and a right pattern, in the order of the text
function_header : code_of (codes "F←{⟨a,·,0⟩ G b‿\"c\": a}") ≡
    code (codes "a" ∷ codes "b" ∷ []) (const.Number (pos 0) ∷ const.Text (codes "c") ∷ []) (ListPattern (patterns (Define 0 0 ∷ Skip ∷ Literal 0 ∷ [])) ∷ ListPattern (patterns (Define 2 1 ∷ Literal 1 ∷ [])) ∷ [])
    (program (body 0 1 (i.Block 1 ∷ i.Define 0 ∷ return))
    ∷ block class.Function 0 (body 2 3 (i.Left ∷ i.Match 0 ∷ i.Own ∷ i.Define 1 ∷ i.Pop ∷ i.Right ∷ i.Match 1 ∷ i.Load 0 0 ∷ return) ∷ []) ∷ [])
function_header = refl

-- also a name, `·` or a literal by itself is a pattern
lone_arguments : code_of (codes "F←{x 𝕊 ·: 0}⋄G←{'a' 𝕊 y: 0}") ≡
    code (codes "x" ∷ codes "y" ∷ []) (const.Number (pos 0) ∷ const.Char 97 ∷ []) (Define 0 0 ∷ Skip ∷ Literal 1 ∷ Define 0 1 ∷ [])
    (program (body 0 2 (i.Block 1 ∷ i.Define 0 ∷ i.Pop ∷ i.Block 2 ∷ i.Define 1 ∷ return))
    ∷ block class.Function 0 (body 2 1 (i.Left ∷ i.Match 0 ∷ i.Right ∷ i.Match 1 ∷ i.Const 0 ∷ return) ∷ [])
    ∷ block class.Function 0 (body 2 1 (i.Left ∷ i.Match 2 ∷ i.Right ∷ i.Match 3 ∷ i.Const 0 ∷ return) ∷ []) ∷ [])
lone_arguments = refl

modifier_headers : inner_blocks (codes "_a←{F _m: F}⋄_b←{x F _m y: 0}⋄_c_←{F _m_ g: g}⋄_d_←{· f _m_ G 'x': 0}") ≡
    block class.Mod1 0 (body 0 2 (i.LeftOperand ∷ i.Define 0 ∷ i.Pop ∷ i.Modifier ∷ i.Define 1 ∷ i.Pop ∷ i.Load 0 0 ∷ return) ∷ [])
    ∷ block class.Mod1Deferred 0 (body 2 4 (i.Left ∷ i.Match 0 ∷ i.LeftOperand ∷ i.Define 1 ∷ i.Pop ∷ i.Modifier ∷ i.Define 2 ∷ i.Pop ∷ i.Right ∷ i.Match 1 ∷ i.Const 0 ∷ return) ∷ [])
    ∷ block class.Mod2 0 (body 0 3 (i.LeftOperand ∷ i.Define 0 ∷ i.Pop ∷ i.Modifier ∷ i.Define 1 ∷ i.Pop ∷ i.RightOperand ∷ i.Define 2 ∷ i.Pop ∷ i.Load 0 2 ∷ return) ∷ [])
    ∷ block class.Mod2Deferred 0 (body 2 3 (i.Left ∷ i.Match 2 ∷ i.LeftOperand ∷ i.Define 0 ∷ i.Pop ∷ i.Modifier ∷ i.Define 1 ∷ i.Pop ∷ i.RightOperand ∷ i.Define 2 ∷ i.Pop ∷ i.Right ∷ i.Match 3 ∷ i.Const 0 ∷ return) ∷ [])
    ∷ []
modifier_headers = refl

-- ---- a line of a session

-- a name that is known keeps its slot
line : bare_result (with_tree (tree_code (codes "a" ∷ codes "q" ∷ [])) (codes "b←a⋄a⇐3⋄{q}")) ≡
    code (codes "a" ∷ []) (nums (3 ∷ [])) []
    (program (exporting ((0, 0) ∷ []) 3 (i.Load 0 0 ∷ i.Define 2 ∷ i.Pop ∷ i.Const 0 ∷ i.Define 0 ∷ i.Pop ∷ i.Run 1 ∷ i.Pop ∷ i.Space ∷ []))
    ∷ block class.Immediate 0 (body 0 0 (i.Load 1 1 ∷ return) ∷ []) ∷ [])
line = refl
