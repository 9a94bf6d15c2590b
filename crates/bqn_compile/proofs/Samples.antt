-- Each rule of the translation of statements and expressions, and of the pools.
use Rattle.std.proofs.Common.{◌≡◌, ℕ, pos, negsuc, List, [], ◌∷◌, Ok, Err, refl}
use lib.Chars.{codes}
use Rattle.bqn_base.specs.declared.refusal.Refusal.{Refusal}
use Rattle.bqn_base.specs.declared.refusal.Refusal.TheVariants.{TooMany, Undeclared}
use Rattle.bqn_code.specs.declared.constant.Const.TheVariants as const
use Rattle.bqn_code.specs.declared.instr.Instr.{Instr}
use Rattle.bqn_code.specs.declared.instr.Instr.TheVariants as i
use Rattle.bqn_code.specs.Plain.{Skip, Define, Change, ListPattern, patterns}
use Rattle.bqn_compile.specs.Gathering.{Most}
use Rattle.bqn_compile.proofs.Sources.{code_of, code_within, programs, body, exporting, program, nums, code}

-- a program whose body has this code
abbrev just : List Instr → List (List Instr)
just is = is ∷ []

-- ---- pools

show_sum : code_of (codes "•Show 2+3") ≡ code [] (nums (2 ∷ 3 ∷ [])) [] (program (body 0 0 (i.Const 1 ∷ i.Given 0 ∷ i.Const 0 ∷ i.Call2 ∷ i.Given 65 ∷ i.Call1 ∷ i.Return ∷ [])) ∷ [])
show_sum = refl

-- in text order, equal ones once
constants : code_of (codes "\"ab\"‿1‿\"ab\"‿'a'‿¯1‿1-\"\"‿@‿5‿\"ba\"") ≡
    code [] (const.Text (codes "ab") ∷ const.Number (pos 1) ∷ const.Char 97 ∷ const.Number (negsuc 0) ∷ const.Text [] ∷ const.Char 0 ∷ const.Number (pos 5) ∷ const.Text (codes "ba") ∷ []) []
    (program (body 0 0 (i.Const 4 ∷ i.Const 5 ∷ i.Const 6 ∷ i.Const 7 ∷ i.List 4 ∷ i.Given 1 ∷ i.Const 0 ∷ i.Const 1 ∷ i.Const 0 ∷ i.Const 2 ∷ i.Const 3 ∷ i.Const 1 ∷ i.List 6 ∷ i.Call2 ∷ i.Return ∷ [])) ∷ [])
constants = refl

-- the names of fields, of exports and of patterns, and those alone
names : code_of (codes "x←1⋄b⇐2⋄c←5⋄⟨c,b_⟩↩3‿4⋄c⇐⋄n←6⋄n.b.q⋄x↩7") ≡
    code (codes "b" ∷ codes "c" ∷ codes "q" ∷ []) (nums (1 ∷ 2 ∷ 5 ∷ 3 ∷ 4 ∷ 6 ∷ 7 ∷ [])) (ListPattern (patterns (Change 0 2 1 ∷ Change 0 1 0 ∷ [])) ∷ [])
    (program (exporting ((0, 1) ∷ (1, 2) ∷ []) 4 (i.Const 0 ∷ i.Define 0 ∷ i.Pop ∷ i.Const 1 ∷ i.Define 1 ∷ i.Pop ∷ i.Const 2 ∷ i.Define 2 ∷ i.Pop ∷ i.Const 3 ∷ i.Const 4 ∷ i.List 2 ∷ i.Bind 0 ∷ i.Pop ∷ i.Const 5 ∷ i.Define 3 ∷ i.Pop ∷ i.Load 0 3 ∷ i.Field 0 ∷ i.Field 2 ∷ i.Pop ∷ i.Const 6 ∷ i.Change 0 0 ∷ i.Pop ∷ i.Space ∷ [])) ∷ [])
names = refl

-- in text order, each by itself: the right one is stored first
patterns_twice : code_of (codes "a‿b←⟨c,⟨·,d⟩⟩⇐⟨1,2‿3⟩⋄⟨a,b⟩↩⟨d,c⟩↩4‿5") ≡
    code (codes "a" ∷ codes "b" ∷ codes "c" ∷ codes "d" ∷ []) (nums (1 ∷ 2 ∷ 3 ∷ 4 ∷ 5 ∷ []))
    (ListPattern (patterns (Define 0 0 ∷ Define 1 1 ∷ [])) ∷ ListPattern (patterns (Define 2 2 ∷ ListPattern (patterns (Skip ∷ Define 3 3 ∷ [])) ∷ [])) ∷ ListPattern (patterns (Change 0 0 0 ∷ Change 0 1 1 ∷ [])) ∷ ListPattern (patterns (Change 0 3 3 ∷ Change 0 2 2 ∷ [])) ∷ [])
    (program (exporting ((2, 2) ∷ (3, 3) ∷ []) 4 (i.Const 0 ∷ i.Const 1 ∷ i.Const 2 ∷ i.List 2 ∷ i.List 2 ∷ i.Bind 1 ∷ i.Bind 0 ∷ i.Pop ∷ i.Const 3 ∷ i.Const 4 ∷ i.List 2 ∷ i.Bind 3 ∷ i.Bind 2 ∷ i.Pop ∷ i.Space ∷ [])) ∷ [])
patterns_twice = refl

-- ---- statements

statements : programs (codes "" ∷ codes "1" ∷ codes "1⋄2" ∷ codes "·-1⋄2" ∷ codes "a⇐1" ∷ codes "a⇐⋄a←1" ∷ codes "a←1⋄a⇐" ∷ codes "⟨⟩⇐" ∷ codes "·⇐⋄1" ∷ []) ≡
    just (i.Nothing ∷ i.Return ∷ []) ∷ just (i.Const 0 ∷ i.Return ∷ []) ∷ just (i.Const 0 ∷ i.Pop ∷ i.Const 1 ∷ i.Return ∷ [])
    ∷ just (i.Const 0 ∷ i.Given 1 ∷ i.Nothing ∷ i.Call2 ∷ i.Pop ∷ i.Const 1 ∷ i.Return ∷ [])
    ∷ just (i.Const 0 ∷ i.Define 0 ∷ i.Pop ∷ i.Space ∷ []) ∷ just (i.Const 0 ∷ i.Define 0 ∷ i.Pop ∷ i.Space ∷ []) ∷ just (i.Const 0 ∷ i.Define 0 ∷ i.Pop ∷ i.Space ∷ [])
    ∷ just (i.Space ∷ []) ∷ just (i.Const 0 ∷ i.Pop ∷ i.Space ∷ []) ∷ []
statements = refl

-- ---- expressions

parts : programs (codes "⟨⟩" ∷ codes "⟨1,+,·-1⟩" ∷ codes "1‿+" ∷ codes "[1,2]" ∷ codes "(1)" ∷ codes "·" ∷ codes "+·" ∷ codes "⟨•Out,•Show,•Repr,•Fmt,•Type,•args⟩" ∷ codes "⟨˜,∘⟩" ∷ codes "{1}.a.b" ∷ []) ≡
    just (i.List 0 ∷ i.Return ∷ []) ∷ just (i.Const 0 ∷ i.Given 0 ∷ i.Const 0 ∷ i.Given 1 ∷ i.Nothing ∷ i.Call2 ∷ i.List 3 ∷ i.Return ∷ []) ∷ just (i.Const 0 ∷ i.Given 0 ∷ i.List 2 ∷ i.Return ∷ [])
    ∷ just (i.Const 0 ∷ i.Const 1 ∷ i.List 2 ∷ i.Given 13 ∷ i.Call1 ∷ i.Return ∷ []) ∷ just (i.Const 0 ∷ i.Return ∷ []) ∷ [] ∷ just (i.Nothing ∷ i.Given 0 ∷ i.Call1 ∷ i.Return ∷ [])
    ∷ just (i.Given 64 ∷ i.Given 65 ∷ i.Given 66 ∷ i.Given 67 ∷ i.Given 68 ∷ i.Given 69 ∷ i.List 6 ∷ i.Return ∷ []) ∷ just (i.Given 45 ∷ i.Given 53 ∷ i.List 2 ∷ i.Return ∷ []) ∷ just (i.Run 1 ∷ i.Field 0 ∷ i.Field 1 ∷ i.Return ∷ []) ∷ []
parts = refl

-- the right argument, the function, the left argument
calls : programs (codes "-3" ∷ codes "1-3" ∷ codes "1-2×-3" ∷ codes "(1-2)-3-4" ∷ []) ≡
    just (i.Const 0 ∷ i.Given 1 ∷ i.Call1 ∷ i.Return ∷ []) ∷ just (i.Const 1 ∷ i.Given 1 ∷ i.Const 0 ∷ i.Call2 ∷ i.Return ∷ [])
    ∷ just (i.Const 2 ∷ i.Given 1 ∷ i.Call1 ∷ i.Given 2 ∷ i.Const 1 ∷ i.Call2 ∷ i.Given 1 ∷ i.Const 0 ∷ i.Call2 ∷ i.Return ∷ [])
    ∷ just (i.Const 3 ∷ i.Given 1 ∷ i.Const 2 ∷ i.Call2 ∷ i.Given 1 ∷ i.Const 1 ∷ i.Given 1 ∷ i.Const 0 ∷ i.Call2 ∷ i.Call2 ∷ i.Return ∷ []) ∷ []
calls = refl

-- the right operand, the modifier, the left operand; the last modifier is the outermost
modifiers : programs (codes "-˜3" ∷ codes "-∘×3" ∷ codes "1⊸-˜⟜2 3" ∷ codes "-˜" ∷ []) ≡
    just (i.Const 0 ∷ i.Given 45 ∷ i.Given 1 ∷ i.Derive1 ∷ i.Call1 ∷ i.Return ∷ []) ∷ just (i.Const 0 ∷ i.Given 2 ∷ i.Given 53 ∷ i.Given 1 ∷ i.Derive2 ∷ i.Call1 ∷ i.Return ∷ [])
    ∷ just (i.Const 2 ∷ i.Const 1 ∷ i.Given 56 ∷ i.Given 45 ∷ i.Given 1 ∷ i.Given 55 ∷ i.Const 0 ∷ i.Derive2 ∷ i.Derive1 ∷ i.Derive2 ∷ i.Call1 ∷ i.Return ∷ [])
    ∷ just (i.Given 45 ∷ i.Given 1 ∷ i.Derive1 ∷ i.Return ∷ []) ∷ []
modifiers = refl

trains : programs (codes "-" ∷ codes "-×" ∷ codes "+-×" ∷ codes "÷+-×" ∷ codes "1+-⋆×" ∷ codes "·+-⋆×" ∷ []) ≡
    just (i.Given 1 ∷ i.Return ∷ []) ∷ just (i.Given 2 ∷ i.Given 1 ∷ i.Train2 ∷ i.Return ∷ []) ∷ just (i.Given 2 ∷ i.Given 1 ∷ i.Given 0 ∷ i.Train3 ∷ i.Return ∷ [])
    ∷ just (i.Given 2 ∷ i.Given 1 ∷ i.Given 0 ∷ i.Train3 ∷ i.Given 3 ∷ i.Train2 ∷ i.Return ∷ [])
    ∷ just (i.Given 2 ∷ i.Given 4 ∷ i.Given 1 ∷ i.Train3 ∷ i.Given 0 ∷ i.Const 0 ∷ i.Train3 ∷ i.Return ∷ [])
    ∷ just (i.Given 2 ∷ i.Given 4 ∷ i.Given 1 ∷ i.Train3 ∷ i.Given 0 ∷ i.Nothing ∷ i.Train3 ∷ i.Return ∷ []) ∷ []
trains = refl

-- ---- names

stores : programs (codes "a←1⋄a" ∷ codes "a←1⋄a↩2" ∷ codes "1-a←2" ∷ codes "a←1⋄a+↩2" ∷ codes "a←1⋄a-↩" ∷ codes "a←1⋄1+a-↩" ∷ codes "F←G⇐-" ∷ codes "_m←˜" ∷ codes "a←b←1⋄F←-⋄b F∘F↩a" ∷ codes "a←1⋄F←-⋄a F∘F↩" ∷ []) ≡
    just (i.Const 0 ∷ i.Define 0 ∷ i.Pop ∷ i.Load 0 0 ∷ i.Return ∷ []) ∷ just (i.Const 0 ∷ i.Define 0 ∷ i.Pop ∷ i.Const 1 ∷ i.Change 0 0 ∷ i.Return ∷ [])
    ∷ just (i.Const 1 ∷ i.Define 0 ∷ i.Given 1 ∷ i.Const 0 ∷ i.Call2 ∷ i.Return ∷ [])
    ∷ just (i.Const 0 ∷ i.Define 0 ∷ i.Pop ∷ i.Const 1 ∷ i.Given 0 ∷ i.Load 0 0 ∷ i.Call2 ∷ i.Change 0 0 ∷ i.Return ∷ [])
    ∷ just (i.Const 0 ∷ i.Define 0 ∷ i.Pop ∷ i.Load 0 0 ∷ i.Given 1 ∷ i.Call1 ∷ i.Change 0 0 ∷ i.Return ∷ [])
    ∷ just (i.Const 0 ∷ i.Define 0 ∷ i.Pop ∷ i.Load 0 0 ∷ i.Given 1 ∷ i.Call1 ∷ i.Change 0 0 ∷ i.Given 0 ∷ i.Const 0 ∷ i.Call2 ∷ i.Return ∷ [])
    ∷ just (i.Given 1 ∷ i.Define 1 ∷ i.Define 0 ∷ i.Pop ∷ i.Space ∷ []) ∷ just (i.Given 45 ∷ i.Define 0 ∷ i.Return ∷ [])
    ∷ just (i.Const 0 ∷ i.Define 1 ∷ i.Define 0 ∷ i.Pop ∷ i.Given 1 ∷ i.Define 2 ∷ i.Pop ∷ i.Load 0 0 ∷ i.Load 0 2 ∷ i.Given 53 ∷ i.Load 0 2 ∷ i.Derive2 ∷ i.Load 0 1 ∷ i.Call2 ∷ i.Change 0 1 ∷ i.Return ∷ [])
    ∷ just (i.Const 0 ∷ i.Define 0 ∷ i.Pop ∷ i.Given 1 ∷ i.Define 1 ∷ i.Pop ∷ i.Load 0 0 ∷ i.Load 0 1 ∷ i.Given 53 ∷ i.Load 0 1 ∷ i.Derive2 ∷ i.Call1 ∷ i.Change 0 0 ∷ i.Return ∷ []) ∷ []
stores = refl

-- ---- one too many

abbrev most : (constants names blocks : ℕ) → Most
most c n b = record { constants = c; names = n; blocks = b }

abbrev refusals_behind : List (List ℕ) → Most → List (List ℕ) → List (List Refusal)
refusals_behind known m [] = []
refusals_behind known m (text ∷ texts) = elim (code_within m known text) [ Ok code ↦ [] | Err r ↦ r ∷ [] ] ∷ refusals_behind known m texts

abbrev refusals : Most → List (List ℕ) → List (List Refusal)
refusals = refusals_behind []

abbrev at : ℕ → ℕ → Refusal
at line column = TooMany (record { line = line; column = column })

-- the first in the text, whatever is evaluated first
too_many : refusals (most 2 2 2) (codes "1‿2‿1" ∷ codes "1‿2‿'1'‿3" ∷ codes "{0}⋄{0}" ∷ codes "{0}⋄{{0}}" ∷ codes "a←b←0" ∷ codes "⟨a,b,c⟩←0" ∷ codes "a←b←0⋄{c←d←1}" ∷ codes "a←b←0⋄{c←d←1⋄e⇐0}" ∷ codes "{a 𝕊 b‿c: 0}" ∷ codes "3-{c}⋄2-{1}⋄c←b←a←{0}" ∷ codes "{𝕊 0: \"a\"; 𝕊 \"b\": 0}" ∷ []) ≡
    [] ∷ (at 1 5 ∷ []) ∷ [] ∷ (at 1 6 ∷ []) ∷ [] ∷ (at 1 6 ∷ []) ∷ [] ∷ (at 1 14 ∷ []) ∷ (at 1 8 ∷ []) ∷ (at 1 10 ∷ []) ∷ (at 1 14 ∷ []) ∷ []
too_many = refl

few : refusals (most 0 0 0) (codes "+·" ∷ codes "-1" ∷ codes "F←+" ∷ codes "-{𝕩}" ∷ []) ≡ [] ∷ (at 1 2 ∷ []) ∷ (at 1 1 ∷ []) ∷ (at 1 2 ∷ []) ∷ []
few = refl

-- a name, a block or a constant, whichever is first; equal constants are one, and each body counts its own names
first : refusals (most 1 1 1) (codes "a←1⋄b←2" ∷ codes "{a←2}⋄{3}" ∷ codes "1-2⋄{3}" ∷ codes "{{a←b←1}}" ∷ codes "{a 𝕊 b: \"c\"}" ∷ codes "10‿1e1‿1_0" ∷ codes "a←{b←1⋄b↩1⋄b}⋄a" ∷ codes "n←{b⇐1}⋄n.b" ∷ []) ≡
    (at 1 5 ∷ []) ∷ (at 1 7 ∷ []) ∷ (at 1 3 ∷ []) ∷ (at 1 2 ∷ []) ∷ (at 1 6 ∷ []) ∷ [] ∷ [] ∷ [] ∷ []
first = refl

-- the names of a session count in the top body alone
session : refusals_behind (codes "a" ∷ codes "b" ∷ []) (most 2 2 2) (codes "b←1" ∷ codes "a←1⋄c←2" ∷ codes "c⇐1" ∷ codes "{c←1}" ∷ []) ≡ [] ∷ (at 1 5 ∷ []) ∷ (at 1 1 ∷ []) ∷ [] ∷ []
session = refl

-- the refusals of the scope come before
last : refusals (most 0 0 0) (codes "a←{1}⋄b" ∷ []) ≡ (Undeclared (record { line = 1; column = 7 }) ∷ []) ∷ []
last = refl
