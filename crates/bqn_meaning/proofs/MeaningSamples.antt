-- What programs mean, computed from their texts.
use Rattle.std.proofs.Common.{◌≡◌, false, ℕ, zero, suc, pos, negsuc, List, [], ◌∷◌, map, Option, Some, None, Result, Ok, Err, refl}
use lib.Chars.{codes}
use lib.Utf8.{encode}
use Rattle.std.specs.Fmt.{digits}
use Rattle.bqn_base.specs.declared.fault.Fault.{Fault}
use Rattle.bqn_base.specs.declared.fault.Fault.TheVariants.{Domain, DivideByZero, Undefined, NoBody, Pattern, NoField, NotCallable, NothingUsed, TooDeep}
use Rattle.bqn_base.specs.declared.refusal.Refusal.{Refusal}
use Rattle.bqn_base.specs.declared.refusal.Refusal.TheVariants.{Undeclared}
use Rattle.bqn_rows.specs.Plain.{Value, Number, Character, Array, Given, Function, Namespace, none, values, count, unfilled, filled}
use Rattle.bqn_rows.specs.Running.{Gives, Ends, calls as calls_run}
use Rattle.bqn_rows.specs.Calls.{Turn, answer}
use Rattle.bqn_syntax.specs.text.Tokens.{tokens_of_text}
use Rattle.bqn_syntax.specs.grammar.Trees.{Stmts}
use Rattle.bqn_syntax.specs.grammar.Parsing.{parsed}
use Rattle.bqn_syntax.specs.scope.Scope.{scope, Use, resolved, names_of}
use Rattle.bqn_syntax.specs.scope.Bodies.{bodies_of}
use Rattle.bqn_meaning.specs.Environments.{State, Ran, look, define, change}
use Rattle.bqn_syntax.specs.blocks.Blocks.{Numbered, Earlier, no_lines, further, table_of, all_bodies}
use Rattle.bqn_meaning.specs.Actions.{◌>>=◌}
use Rattle.bqn_meaning.specs.Meaning.{replies}
use Rattle.bqn_meaning.specs.Sessions.{line}
use Rattle.bqn_meaning.specs.Programs.{Outcome, Answers, Faults, IsSpent, at_start, evaluated_of, evaluated_within}

-- the tree of a text behind the names of a session
abbrev resolved_tree : Stmts → Result (List Use) Refusal → Result Stmts Refusal
resolved_tree tree (Ok uses) = Ok tree
resolved_tree tree (Err r) = Err r

abbrev tree_of_text : List (List ℕ) → List ℕ → Result Stmts Refusal
tree_of_text names text = elim (tokens_of_text text) [ Err r ↦ Err r | Ok tokens ↦ elim (parsed tokens) [ Err r ↦ Err r | Ok tree ↦ resolved_tree tree (resolved names tree) ] ]

-- a value, Nothing, a fault, or want of steps; or a text that is no program
pub data Seen : Type 0 where
  gives : Value → Seen
  nothing : Seen
  fails : Fault → Seen
  spent : Seen
  refused : Refusal → Seen

abbrev seen : Outcome → Seen
seen (Answers None) = nothing
seen (Answers (Some v)) = gives v
seen (Faults f) = fails f.fault
seen IsSpent = spent

abbrev seen_call : Ran Value → Seen
seen_call (Gives (Ok v) s) = gives v
seen_call (Gives (Err f) s) = fails f.fault
seen_call (Ends s) = spent

abbrev limited : (room steps : ℕ) → List ℕ → Seen
limited room steps text = elim (tree_of_text [] text) [ Err r ↦ refused r | Ok tree ↦ seen (evaluated_within room tree [] steps).outcome ]

abbrev all : List (List ℕ) → List Seen
all [] = []
all (text ∷ texts) = limited 50 100 text ∷ all texts

-- what a program writes, with these words as arguments
abbrev written : List ℕ → List ℕ
written text = elim (tree_of_text [] text) [ Err r ↦ [] | Ok tree ↦ (evaluated_within 50 tree [] 100).written ]

-- the same with budgets of 0 to 3 steps
abbrev budgets : List ℕ → List Seen
budgets text = limited 50 0 text ∷ limited 50 1 text ∷ limited 50 2 text ∷ limited 50 3 text ∷ []

abbrev n : ℕ → Value
n k = Number (pos k)

-- -k
abbrev m : ℕ → Value
m zero = Number (pos 0)
m (suc k) = Number (negsuc k)

abbrev list : List Value → Value
list [] = Array (0 ∷ []) none unfilled
list (x ∷ xs) = Array (count (values (x ∷ xs)) ∷ []) (values (x ∷ xs)) unfilled

-- ---- calls of block functions

calls : all (codes "F←{𝕩+1}⋄F 2" ∷ codes "F←{𝕨-𝕩}⋄5 F 2" ∷ codes "F←{𝕨-𝕩}⋄F 2" ∷ codes "{𝕩;𝕨}1" ∷ codes "2{𝕩;𝕨}1" ∷ codes "{𝕨F𝕩: 1}5" ∷ codes "2{𝕊x: x}1" ∷ codes "⟨F⟩←⟨5⟩⋄F 1" ∷ codes "⟨F⟩←⟨∘⟩⋄F 1" ∷ codes "F←{⟨𝕨,𝕩⟩}⋄2 F 1" ∷ codes "F←{⟨𝕨,𝕩⟩}⋄F 1" ∷ []) ≡
    gives (n 3) ∷ gives (n 3) ∷ gives (m 2) ∷ gives (n 1) ∷ gives (n 2) ∷ fails NoBody ∷ fails NoBody ∷ gives (n 5) ∷ fails NotCallable ∷ gives (list (n 2 ∷ n 1 ∷ [])) ∷ fails NothingUsed ∷ []
unfolding look define change
calls = refl

headers : all (codes "Fact←{𝕊 0: 1; 𝕊 n: n×𝕊 n-1}⋄Fact 5" ∷ codes "{𝕊 0: 1}5" ∷ codes "1‿2{⟨x,y⟩𝕊z: x+y+z}3" ∷ codes "1‿2‿3{⟨x,y⟩𝕊z: x; w 𝕊 z: z}9" ∷ codes "\"ab\"{\"ab\"𝕊·: 1; 𝕨𝕊𝕩: 2}0" ∷ codes "\"ac\"{\"ab\"𝕊·: 1; 𝕨𝕊𝕩: 2}0" ∷ codes "{𝕊⟨p⟩: p; 𝕊x: 0}{p⇐4}" ∷ codes "{𝕊⟨p⟩: p; 𝕊x: 0}{q⇐4}" ∷ codes "{𝕊⟨p,·⟩: p; 𝕊x: 0}{p⇐4}" ∷ codes "{F𝕩: 𝕩=0? 0; F𝕩: 1+F 𝕩-1}3" ∷ codes "-{F _m x: F x}3" ∷ codes "-{F _m x: x=0? 7; F _m x: F _m 0}3" ∷ codes "-{F _m_ g x: x=0? 7; F _m_ g x: F _m_ g 0}5 3" ∷ codes "2{f _m_ g: f-g}5" ∷ codes "{𝕊⟨1,⟨a⟩⟩: a; 𝕊x: 0}⟨1,⟨7⟩⟩" ∷ codes "{𝕊⟨1,⟨a⟩⟩: a; 𝕊x: 0}⟨1,7⟩" ∷ []) ≡
    gives (n 120) ∷ fails NoBody ∷ gives (n 6) ∷ gives (n 9) ∷ gives (n 1) ∷ gives (n 2) ∷ gives (n 4) ∷ gives (n 0) ∷ gives (n 0) ∷ gives (n 3) ∷ gives (m 3) ∷ gives (n 7) ∷ gives (n 7) ∷ gives (m 3) ∷ gives (n 7) ∷ gives (n 0) ∷ []
unfolding look define change
headers = refl

predicates : all (codes "Sg←{𝕩<0? ¯1; 𝕩=0? 0; 1}⋄⟨Sg ¯5,Sg 0,Sg 3⟩" ∷ codes "{0?1;2}" ∷ codes "{0?1}" ∷ codes "{2?1}" ∷ codes "{'a'?1}" ∷ codes "{+·?1}" ∷ codes "a←1⋄{a↩2⋄0?1;a}" ∷ codes "{1?0?1;1?2;3}" ∷ []) ≡
    gives (list (m 1 ∷ n 0 ∷ n 1 ∷ [])) ∷ gives (n 2) ∷ fails NoBody ∷ fails Domain ∷ fails Domain ∷ fails NothingUsed ∷ gives (n 2) ∷ gives (n 2) ∷ []
unfolding look define change
predicates = refl

-- ---- order and variables

order : all (codes "" ∷ codes "10-2-3" ∷ codes "a←1⋄a-a↩5" ∷ codes "a←1⋄⟨a,a↩2,a⟩" ∷ codes "a←1⋄a-{a↩7⋄𝔽}1" ∷ codes "a +↩ a←1" ∷ codes "a←3⋄a -↩" ∷ codes "a←3⋄1+a -↩" ∷ codes "F←G←-⋄F G 3" ∷ codes "a←1⋄{a←2}⋄a" ∷ codes "a←1⋄{a↩2}⋄a" ∷ codes "a←1⋄F←{𝕩⋄a}⋄a↩2⋄F 0" ∷ codes "a←1⋄{a +↩ 5}⋄a" ∷ codes "a←2⋄{𝕊 0: a; 𝕊 x: 𝕊 x-1}3" ∷ codes "a←2⋄-{𝕩=0? 𝔽a; 𝔽 _𝕣 0}3" ∷ []) ≡
    nothing ∷ gives (n 11) ∷ gives (n 0) ∷ gives (list (n 1 ∷ n 2 ∷ n 2 ∷ [])) ∷ gives (n 6) ∷ gives (n 2) ∷ gives (m 3) ∷ gives (m 2) ∷ gives (n 3) ∷ gives (n 1) ∷ gives (n 2) ∷ gives (n 2) ∷ gives (n 6) ∷ gives (n 2) ∷ gives (m 2) ∷ []
unfolding look define change
order = refl

undefined : all (codes "{𝕊𝕩: a}0⋄a←1" ∷ codes "{a↩2}⋄a←1" ∷ codes "{⟨a⟩↩⟨2⟩}⋄a←1" ∷ codes "{a -↩}⋄a←1" ∷ codes "{a -↩ 1}⋄a←1" ∷ codes "{a↩+·}⋄a←1" ∷ codes "{a -↩ +·}⋄a←1" ∷ []) ≡
    fails Undefined ∷ fails Undefined ∷ fails Undefined ∷ fails Undefined ∷ fails Undefined ∷ fails NothingUsed ∷ fails Undefined ∷ []
unfolding look define change
undefined = refl

-- ---- Nothing

no_value : all (codes "+·" ∷ codes "(+·)" ∷ codes "+·⋄1" ∷ codes "(+·)-3" ∷ codes "·-3" ∷ codes "2-+·" ∷ codes "⟨F⟩←⟨∘⟩⋄F ·" ∷ codes "a←+·" ∷ codes "F←{𝕎}⋄F 1" ∷ codes "⟨+·⟩" ∷ codes "1‿(+·)" ∷ codes "[+·]" ∷ codes "{+·}" ∷ codes "{+·⋄1}" ∷ codes "{𝕎𝕩}1" ∷ codes "{𝕎·⋄1}1" ∷ codes "{𝕨.a}1" ∷ codes "-{𝔽𝕩}·" ∷ codes "{𝕎˜𝕩}1" ∷ codes "⟨_m⟩←⟨5⟩⋄(+·)_m 1" ∷ codes "⟨_m⟩←⟨5⟩⋄+_m 1" ∷ []) ≡
    nothing ∷ nothing ∷ gives (n 1) ∷ gives (m 3) ∷ gives (m 3) ∷ nothing ∷ nothing ∷ fails NothingUsed ∷ fails NothingUsed ∷ fails NothingUsed ∷ fails NothingUsed ∷ fails NothingUsed ∷ fails NothingUsed ∷ gives (n 1) ∷ fails NothingUsed ∷ fails NothingUsed ∷ fails NothingUsed ∷ nothing ∷ fails NothingUsed ∷ fails NothingUsed ∷ fails NotCallable ∷ []
unfolding look define change
no_value = refl

-- ---- blocks that run where they stand, modifiers and trains

blocks : all (codes "{1+2}" ∷ codes "{1⋄2}" ∷ codes "⟨{1},{2},{3}⟩" ∷ codes "({𝕩+1}2)-{𝕩×10}3" ∷ codes "F←{{𝕩+1}𝕩}⋄G←{𝕩×2}⋄⟨F 1,G 5⟩" ∷ codes "F←{𝕊 0: {10}; 𝕊 n: {n+{1}}}⋄⟨F 0,F 5,{7}⟩" ∷ codes "⟨F⟩←⟨{a←𝕩⋄{a+𝕩}}1⟩⋄F 4" ∷ codes "{𝕩⋄{𝕩}}1" ∷ codes "{𝕩{𝕨+𝕩}2}3" ∷ codes "Make←{n←𝕩⋄{n↩n+𝕩}}⋄⟨F⟩←⟨Make 1⟩⋄⟨G⟩←⟨Make 10⟩⋄⟨F 1,G 1,F 1⟩" ∷ []) ≡
    gives (n 3) ∷ gives (n 2) ∷ gives (list (n 1 ∷ n 2 ∷ n 3 ∷ [])) ∷ gives (m 27) ∷ gives (list (n 2 ∷ n 10 ∷ [])) ∷ gives (list (n 10 ∷ n 6 ∷ n 7 ∷ [])) ∷ gives (n 5) ∷ gives (Function 2 1 none) ∷ gives (n 5) ∷ gives (list (n 2 ∷ n 11 ∷ n 3 ∷ [])) ∷ []
unfolding look define change
blocks = refl

-- a block in each place that a part of a program has
each_place : all (codes "{10}{𝕨-𝕩}{2}" ∷ codes "{10}-{𝔽}{𝕨𝔽𝕩}{2}" ∷ codes "{10}{𝕨-𝕩}{𝕨𝔾𝔽𝕩}{𝕨×𝕩}{2}" ∷ codes "{10}({𝕨+𝕩}{𝕨-𝕩}{𝕨×𝕩}){2}" ∷ codes "a←{1}⋄a{𝕨-𝕩}{𝔽}↩{5}" ∷ codes "a←{1}⋄a{𝕩-7}{𝔽}↩" ∷ codes "{1}{𝕨-𝕩}{2}{𝕨+𝕩}{3}" ∷ codes "{{0}?{1};{1}?{5};{6}}" ∷ codes "⟨{1},{2}‿{3}‿{4},({5})⟩" ∷ codes "{p⇐{4}}.p-{q⇐{9}}.q" ∷ codes "{1}⋄{2}⋄{3}" ∷ codes "{{7}+𝕩}{𝔽{𝔽𝕩}{2}}1" ∷ codes "a‿b←⟨{1},{2}⟩⋄F←{𝕩+a}⋄_m←{𝔽𝕩}⋄F _m{b}" ∷ []) ≡
    gives (n 8) ∷ gives (n 8) ∷ gives (m 20) ∷ gives (m 8) ∷ gives (m 4) ∷ gives (m 6) ∷ gives (m 4) ∷ gives (n 5) ∷ gives (list (n 1 ∷ list (n 2 ∷ n 3 ∷ n 4 ∷ []) ∷ n 5 ∷ [])) ∷ gives (m 5) ∷ gives (n 3) ∷ gives (n 9) ∷ gives (n 3) ∷ []
unfolding look define change
each_place = refl

modifiers : all (codes "-{𝔽}3" ∷ codes "-{𝔽𝕩}3" ∷ codes "2{𝕗+1}" ∷ codes "-{𝔽𝔾𝕩}×¯5" ∷ codes "4-{𝕨𝔽𝔾𝕩}×¯5" ∷ codes "2{𝕗-𝕘}5" ∷ codes "{𝕩+1}{𝔽𝔽𝕩}5" ∷ codes "-{𝔽}{𝔽𝔽𝕩}5" ∷ codes "⟨_m⟩←⟨∘⟩⋄-_m 1" ∷ codes "_m←{𝔽𝕩}⋄-_m 1" ∷ codes "_m_←{𝔽𝔾𝕩}⋄-_m_- 1" ∷ codes "-{𝕩=0? 𝔽 0; 𝕩=9? 1; 𝔽 _𝕣 9}3" ∷ []) ≡
    gives (m 3) ∷ gives (m 3) ∷ gives (n 3) ∷ gives (n 1) ∷ gives (n 5) ∷ gives (m 3) ∷ gives (n 7) ∷ gives (n 5) ∷ fails NotCallable ∷ gives (m 1) ∷ gives (n 1) ∷ gives (n 1) ∷ []
unfolding look define change
modifiers = refl

trains : all (codes "5(+-×)2" ∷ codes "(-×)3" ∷ codes "(3-⊢)5" ∷ codes "(·-⊢)5" ∷ codes "{(𝕨-⊢)𝕩}5" ∷ codes "2{(𝕨-⊢)𝕩}5" ∷ codes "5(+-×-⊢)2" ∷ codes "5(-+×⊢)2" ∷ codes "{(-𝕎⊢)𝕩}5" ∷ codes "{(𝕎⊢)𝕩}5" ∷ codes "{(𝕎-⊢)𝕩}5" ∷ codes "{(+-⊢𝕎-)𝕩}5" ∷ codes "{(-𝕎-⊢)𝕩}5" ∷ codes "{(+-𝕎)𝕩}5" ∷ []) ≡
    gives (m 3) ∷ gives (m 1) ∷ gives (m 2) ∷ gives (m 5) ∷ gives (m 5) ∷ gives (m 3) ∷ gives (m 1) ∷ gives (m 14) ∷ fails NothingUsed ∷ fails NothingUsed ∷ gives (m 5) ∷ fails NothingUsed ∷ gives (n 5) ∷ fails NothingUsed ∷ []
unfolding look define change
trains = refl

-- ---- namespaces, patterns, lists and texts

namespaces : all (codes "ns←{x⇐3⋄Inc⇐{𝕩+x}}⋄ns.Inc 4" ∷ codes "{p⇐4}.q" ∷ codes "5 .q" ∷ codes "F←{𝕊 0: {p⇐10}; 𝕊 n: {q⇐n}}⋄⟨(F 0).p,(F 5).q⟩" ∷ codes "{a⇐{b⇐2}}.a.b" ∷ codes "ns←{a⇐⋄a←1⋄b←2}⋄ns.a" ∷ codes "ns←{a⇐⋄a←1⋄b←2}⋄ns.b" ∷ codes "ns←{a⇐1⋄F⇐{a↩𝕩}}⋄ns.F 7⋄ns.a" ∷ codes "{a⇐1⋄+·}.a" ∷ codes "{⟨⟩⇐}" ∷ codes "{·⇐}" ∷ codes "a⇐1" ∷ codes "{⟨⟩⇐⟨⟩}" ∷ codes "{0?1;q⇐2}" ∷ []) ≡
    gives (n 7) ∷ fails NoField ∷ fails NoField ∷ gives (list (n 10 ∷ n 5 ∷ [])) ∷ gives (n 2) ∷ gives (n 1) ∷ fails NoField ∷ gives (n 7) ∷ gives (n 1) ∷ gives (Namespace 1) ∷ gives (Namespace 1) ∷ gives (Namespace 0) ∷ gives (Namespace 1) ∷ gives (Namespace 2) ∷ []
unfolding look define change
namespaces = refl

patterns : all (codes "⟨a,·,b‿c⟩←⟨1,2,\"xy\"⟩⋄c‿a" ∷ codes "⟨p⟩←{p⇐4}⋄p" ∷ codes "⟨a,b⟩←1‿2‿3" ∷ codes "⟨a⟩←1" ∷ codes "⟨q⟩←{p⇐4}" ∷ codes "⟨q,⟨z⟩⟩←{p⇐4}" ∷ codes "⟨p,·⟩←{p⇐4}" ∷ codes "⟨⟩←{p⇐4}" ∷ codes "a‿b←⟨1,2⟩⋄a-b" ∷ codes "a‿b⇐⟨1,2⟩⋄a-b" ∷ []) ≡
    gives (list (Character 121 ∷ n 1 ∷ [])) ∷ gives (n 4) ∷ fails Pattern ∷ fails Pattern ∷ fails NoField ∷ fails Pattern ∷ fails Pattern ∷ gives (Namespace 1) ∷ gives (m 1) ∷ gives (Namespace 0) ∷ []
unfolding look define change
patterns = refl

literals : all (codes "1‿2" ∷ codes "⟨⟩" ∷ codes "\"ab\"" ∷ codes "\"\"" ∷ codes "'a'" ∷ codes "¯7" ∷ codes "⟨+,-⟩" ∷ codes "•args" ∷ codes "⟨•Out,•Type⟩" ∷ []) ≡
    gives (list (n 1 ∷ n 2 ∷ [])) ∷ gives (list []) ∷ gives (list (Character 97 ∷ Character 98 ∷ [])) ∷ gives (Array (0 ∷ []) none (filled (Character 32))) ∷ gives (Character 97) ∷ gives (m 7) ∷ gives (list (Given 0 ∷ Given 1 ∷ [])) ∷ gives (list []) ∷ gives (list (Given 64 ∷ Given 68 ∷ [])) ∷ []
unfolding look define change
literals = refl

-- ---- steps, open calls, and what is written

budget : budgets (codes "1") ∷ budgets (codes "") ∷ budgets (codes "{1}") ∷ budgets (codes "{0?1;2}") ∷ budgets (codes "3{𝕩;𝕨}4") ∷ budgets (codes "{𝕨F𝕩: 1}5") ∷ budgets (codes "{𝕊 0: 1; 𝕊 x: 1÷0}7") ∷ budgets (codes "2{𝕗}") ∷ budgets (codes "-{𝔽𝕩}3") ∷ [] ≡
    (spent ∷ gives (n 1) ∷ gives (n 1) ∷ gives (n 1) ∷ []) ∷ (spent ∷ nothing ∷ nothing ∷ nothing ∷ []) ∷ (spent ∷ spent ∷ gives (n 1) ∷ gives (n 1) ∷ []) ∷ (spent ∷ spent ∷ spent ∷ gives (n 2) ∷ []) ∷ (spent ∷ spent ∷ gives (n 3) ∷ gives (n 3) ∷ []) ∷ (spent ∷ fails NoBody ∷ fails NoBody ∷ fails NoBody ∷ []) ∷ (spent ∷ spent ∷ spent ∷ fails DivideByZero ∷ []) ∷ (spent ∷ spent ∷ gives (n 2) ∷ gives (n 2) ∷ []) ∷ (spent ∷ spent ∷ gives (m 3) ∷ gives (m 3) ∷ []) ∷ []
unfolding look define change
budget = refl

-- the state where one more step is needed than is left
abbrev spent_at : Ran (Option Value) → Option State
spent_at (Gives r s) = None
spent_at (Ends s) = Some s

abbrev spent_state : (steps : ℕ) → List ℕ → Option State
spent_state steps text = elim (tree_of_text [] text) [ Err r ↦ None | Ok tree ↦ spent_at (line 50 no_lines (list []) tree (at_start steps)) ]

keeps_its_state : spent_state 2 (codes "a←1⋄{a↩•Show 2⋄b←3⋄{4}}") ≡
    Some (record { environments = record { body = 0; parent = 0; variables = (codes "a", n 2) ∷ (codes "a", n 1) ∷ [] } ∷ record { body = 1; parent = 0; variables = (codes "b", n 3) ∷ [] } ∷ []; written = codes "2\n"; left = 0 })
unfolding look define change digits encode
keeps_its_state = refl

abbrev turned : (steps : ℕ) → Ran Value
turned steps = calls_run (replies (record { blocks = []; args = n 0 })) 0 (Turn (λ u. answer (n 1))) (at_start steps)

-- a turn is a step
turns : seen_call (turned 0) ∷ seen_call (turned 1) ∷ [] ≡ spent ∷ gives (n 1) ∷ []
turns = refl

-- one more open call than there is room for is found before its step
open_calls : limited 0 1 (codes "{1}") ∷ limited 1 1 (codes "{1}") ∷ limited 1 2 (codes "{1}") ∷ limited 1 9 (codes "{{1}}") ∷ limited 2 9 (codes "{{1}}") ∷ limited 0 1 (codes "2{𝕗}") ∷ limited 0 1 (codes "{𝕩}1") ∷ limited 0 1 (codes "-{𝔽𝕩}1") ∷ limited 0 1 (codes "(+-×)2") ∷ limited 1 1 (codes "(+-×)2") ∷ limited 0 1 (codes "-×2") ∷ limited 0 1 (codes "{𝕩}·") ∷ limited 3 4 (codes "{𝕊𝕩}0") ∷ limited 3 3 (codes "{𝕊𝕩}0") ∷ limited 1000 100 (codes "{𝕊𝕩}0") ∷ limited 20 100 (codes "F←{𝕊 0: 0; 𝕊 x: 1+F x-1}⋄F 19") ∷ limited 20 100 (codes "F←{𝕊 0: 0; 𝕊 x: 1+F x-1}⋄F 20") ∷ [] ≡
    fails TooDeep ∷ spent ∷ gives (n 1) ∷ fails TooDeep ∷ gives (n 1) ∷ fails TooDeep ∷ fails TooDeep ∷ fails TooDeep ∷ fails TooDeep ∷ gives (n 1) ∷ gives (m 1) ∷ nothing ∷ fails TooDeep ∷ spent ∷ spent ∷ gives (n 19) ∷ fails TooDeep ∷ []
unfolding look define change
open_calls = refl

the_limit : limited 1000 2000 (codes "{𝕊𝕩}0") ≡ fails TooDeep
unfolding look define change
the_limit = refl

shows : written (codes "•Show 2+3") ∷ written (codes "(•Show 1)+•Show ¯2") ∷ written (codes "⟨•Show 1,•Show 2⟩⋄1÷0⋄•Show 3") ∷ written (codes "{•Show 1⋄0?2;3}") ∷ written (codes "•Show +·") ∷ [] ≡
    codes "5\n" ∷ (194 ∷ 175 ∷ codes "2\n1\n") ∷ codes "1\n2\n" ∷ codes "1\n" ∷ [] ∷ []
unfolding look define change digits encode
shows = refl

arguments : elim (tree_of_text [] (codes "•args")) [ Err r ↦ refused r | Ok tree ↦ seen (evaluated_within 0 tree (codes "a" ∷ [] ∷ []) 1).outcome ] ≡ gives (list (list (Character 97 ∷ []) ∷ Array (0 ∷ []) none (filled (Character 32)) ∷ []))
arguments = refl

in_order : written (codes "(•Show 1){𝕗-𝕘}(•Show 2)") ∷ written (codes "(•Show 1){•Show 3⋄_m_⇐{𝕗-𝕘}}._m_(•Show 2)") ∷ written (codes "F←{•Show 1⋄F⇐+}.F{•Show 2⋄F⇐+}.F{•Show 3⋄F⇐+}.F") ∷ written (codes "{•Show 1⋄a⇐1}.a{•Show 2⋄F⇐-}.F{•Show 3⋄a⇐1}.a") ∷ written (codes "(•Show 1)‿(•Show 2)") ∷ written (codes "a←0⋄a{•Show 2⋄F⇐-}.F↩•Show 1") ∷ written (codes "(•Show 1){•Show 2⋄⟨F⟩⇐⟨∘⟩}.F+·") ∷ [] ≡
    codes "2\n1\n" ∷ codes "2\n3\n1\n" ∷ codes "3\n2\n1\n" ∷ codes "3\n2\n1\n" ∷ codes "1\n2\n" ∷ codes "1\n2\n" ∷ codes "2\n1\n" ∷ []
unfolding look define change digits encode
in_order = refl

-- `a F↩` reads `a` before its function, `a F↩ x` behind it
reads : all (codes "a←1⋄a{a↩5⋄F⇐⊢}.F↩" ∷ codes "a←1⋄a{a↩5⋄F⇐-}.F↩1" ∷ []) ≡ gives (n 1) ∷ gives (n 4) ∷ []
unfolding look define change
reads = refl

-- ---- lines of a session

abbrev seen_line : Ran (Option Value) → (State → List Seen) → List Seen
seen_line (Gives r s) next = seen (evaluated_of (Gives r s)).outcome ∷ next s
seen_line (Ends s) next = spent ∷ []

abbrev session : Earlier → State → List (List ℕ) → List Seen
session earlier s [] = []
session earlier s (text ∷ texts) = elim (tree_of_text earlier.names text) [ Err r ↦ refused r ∷ session earlier s texts | Ok tree ↦ seen_line (line 50 earlier (list []) tree s) (λ s. session (further earlier tree) s texts) ]

abbrev lines : (steps : ℕ) → List (List ℕ) → List Seen
lines steps texts = session no_lines (at_start steps) texts

one_budget : lines 9 (codes "a←1÷0" ∷ codes "a" ∷ codes "a←2" ∷ codes "{a←7}" ∷ codes "a" ∷ codes "a +↩ 1" ∷ codes "a" ∷ codes "c" ∷ codes "a" ∷ codes "a" ∷ []) ≡
    fails DivideByZero ∷ fails Undefined ∷ gives (n 2) ∷ gives (n 7) ∷ gives (n 2) ∷ gives (n 3) ∷ gives (n 3) ∷ refused (Undeclared (record { line = 1; column = 1 })) ∷ gives (n 3) ∷ spent ∷ []
unfolding look define change
one_budget = refl

further_blocks : lines 50 (codes "F←{𝕩+1}⋄a←{5}" ∷ codes "G←{𝕩×2}⋄G F 3" ∷ codes "F←{{𝕩-a}𝕩}⋄F 7" ∷ codes "a←1⋄F 7" ∷ codes "G F 7" ∷ codes "{b}⋄b←1" ∷ []) ≡
    gives (n 5) ∷ gives (n 8) ∷ gives (n 2) ∷ gives (n 6) ∷ gives (n 12) ∷ fails Undefined ∷ []
unfolding look define change
further_blocks = refl

stored_so_far : lines 50 (codes "a←0⋄b←0⋄c←0" ∷ codes "⟨a,⟨b⟩⟩↩⟨1,2⟩" ∷ codes "a" ∷ codes "⟨a,b⟩↩5‿6‿7" ∷ codes "a" ∷ codes "⟨a,a⟩↩{a⇐3⋄b⇐4}" ∷ codes "a" ∷ codes "⟨a,c⟩↩{a⇐9}" ∷ codes "a" ∷ []) ≡
    gives (n 0) ∷ fails Pattern ∷ gives (n 1) ∷ fails Pattern ∷ gives (n 1) ∷ gives (Namespace 1) ∷ gives (n 3) ∷ fails NoField ∷ gives (n 3) ∷ []
unfolding look define change
stored_so_far = refl

further_bodies : lines 50 (codes "n←{p⇐1}" ∷ codes "m←{q⇐2;𝕩}0" ∷ codes "m←{0?1;q⇐2}⋄⟨m.q,n.p⟩" ∷ codes "x⇐1" ∷ []) ≡
    gives (Namespace 1) ∷ gives (Namespace 2) ∷ gives (list (n 2 ∷ n 1 ∷ [])) ∷ gives (Namespace 0) ∷ []
unfolding look define change
further_bodies = refl

-- ---- an environment is of use to the body for which it was made

abbrev a_of : ℕ → List Numbered
a_of number = record { number = number; scope = scope (codes "a" ∷ []) [] [] false } ∷ []

abbrev read_after_store : (stored read : ℕ) → Ran Value
read_after_store stored read = (define (a_of stored) 0 (codes "a") (n 5) >>= (λ u. look (a_of read) 0 (codes "a"))) (at_start 1)

own_body : seen_call (read_after_store 0 0) ∷ seen_call (read_after_store 0 1) ∷ seen_call (read_after_store 1 0) ∷ [] ≡ gives (n 5) ∷ fails Undefined ∷ fails Undefined ∷ []
unfolding look define
own_body = refl

-- ---- the numbers of blocks and bodies

abbrev table : List ℕ → List (List (List ℕ) × List (List ℕ))
table text = elim (tree_of_text [] text) [ Err r ↦ [] | Ok tree ↦ map (λ b. (names_of b.own.scope, b.exported)) (all_bodies (table_of no_lines tree)) ]

abbrev numbered : List ℕ → List (List (List ℕ) × List (List ℕ))
numbered text = elim (tree_of_text [] text) [ Err r ↦ [] | Ok tree ↦ map (λ b. (b.slots, map (λ e. e.0) b.exports)) (bodies_of [] tree) ]

-- in each place a part may have
many : List ℕ
many = codes "F←{x 𝕊 y: {z←1⋄{w←2}}; 𝕊 v: {u⇐3}}⋄{b⇐⋄b←{k←1}⋄c⇐b⋄b⇐}⋄({d←1} {e←𝔽}{f←𝔾} {g←1})-{h←1}‿{i←1}⋄[{j←1}].k⋄q {l←𝕩}↩{m←1}⋄{n←𝕩}{o←𝕩}{p←𝔽}⋄q←1"

same_numbers : table many ≡ numbered many
unfolding many
same_numbers = refl
