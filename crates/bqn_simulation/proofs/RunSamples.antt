-- The code of a program gives what the program means.
use Rattle.std.proofs.Common.{◌≡◌, ℕ, List, [], ◌∷◌, Option, Ok, Err, refl}
use lib.Chars.{codes}
use lib.Utf8.{encode}
use Rattle.std.specs.Fmt.{digits}
use Rattle.bqn_base.specs.declared.refusal.Refusal.{Refusal}
use Rattle.bqn_rows.specs.Plain.{Value}
use Rattle.bqn_rows.specs.Running.{Gives, Ends}
use Rattle.bqn_meaning.specs.Environments as source
use Rattle.bqn_meaning.specs.Environments.{look, define, change}
use Rattle.bqn_syntax.specs.blocks.Blocks.{Earlier, no_lines, further}
use Rattle.bqn_meaning.specs.Programs as source_meaning
use Rattle.bqn_meaning.specs.Sessions.{line}
use Rattle.bqn_meaning.specs.Programs.{Evaluated, Answers, Faults, IsSpent, at_start, evaluated_of, evaluated_within}
use Rattle.bqn_execution.specs.States.{Ran}
use Rattle.bqn_execution.specs.Programs as run
use Rattle.bqn_execution.specs.Programs.{Done, Faulted, Spent, Stuck, Kept, fresh, no_words, exec_within, outcome, written, kept_behind}
use Rattle.bqn_compile.proofs.Sources.{with_tree, tree_code}

-- a value, Nothing, a fault, or want of steps, and what was written; or code that is stuck; or a text that is no program
pub data Seen : Type 0 where
  ends : source_meaning.Outcome → List ℕ → Seen
  stuck : Seen
  refused : Refusal → Seen

-- ---- one program

abbrev seen_source : Evaluated → Seen
seen_source e = ends e.outcome e.written

abbrev source_seen : (room steps : ℕ) → List ℕ → Seen
source_seen room steps text = elim (with_tree (λ tree. Ok tree) text) [ Err r ↦ refused r | Ok tree ↦ seen_source (evaluated_within room tree [] steps) ]

abbrev seen_run : run.Outcome → List ℕ → Seen
seen_run (Done v) bytes = ends (Answers v) bytes
seen_run (Faulted f) bytes = ends (Faults f) bytes
seen_run Spent bytes = ends IsSpent bytes
seen_run Stuck bytes = stuck

abbrev seen_code : Ran (Option Value) → Seen
seen_code ran = seen_run (outcome ran) (written ran)

abbrev code_seen : (room steps : ℕ) → List ℕ → Seen
code_seen room steps text = elim (with_tree (tree_code []) text) [ Err r ↦ refused r | Ok code ↦ seen_code (exec_within room no_words (fresh steps) code) ]

abbrev each : (List ℕ → Seen) → List (List ℕ) → List Seen
each see [] = []
each see (text ∷ texts) = see text ∷ each see texts

abbrev sources : List (List ℕ) → List Seen
sources texts = each (source_seen 20 40) texts

abbrev runs : List (List ℕ) → List Seen
runs texts = each (code_seen 20 40) texts

calls : List (List ℕ)
calls = codes "F←{𝕩+1}⋄F 2" ∷ codes "F←{𝕨-𝕩}⋄5 F 2" ∷ codes "{𝕩;𝕨}1" ∷ codes "2{𝕩;𝕨}1" ∷ codes "{𝕨F𝕩: 1}5" ∷ codes "⟨F⟩←⟨5⟩⋄F 1" ∷ codes "⟨F⟩←⟨∘⟩⋄F 1" ∷ codes "F←{⟨𝕨,𝕩⟩}⋄2 F 1" ∷ codes "F←{⟨𝕨,𝕩⟩}⋄F 1" ∷ []

calls_agree : runs calls ≡ sources calls
unfolding calls look define change
calls_agree = refl

headers : List (List ℕ)
headers = codes "Fact←{𝕊 0: 1; 𝕊 n: n×𝕊 n-1}⋄Fact 5" ∷ codes "{𝕊 0: 1}5" ∷ codes "1‿2{⟨x,y⟩𝕊z: x+y+z}3" ∷ codes "1‿2‿3{⟨x,y⟩𝕊z: x; w 𝕊 z: z}9" ∷ codes "\"ab\"{\"ab\"𝕊·: 1; 𝕨𝕊𝕩: 2}0" ∷ codes "{𝕊⟨p⟩: p; 𝕊x: 0}{p⇐4}" ∷ codes "{𝕊⟨p⟩: p; 𝕊x: 0}{q⇐4}" ∷ codes "{F𝕩: 𝕩=0? 0; F𝕩: 1+F 𝕩-1}3" ∷ codes "-{F _m x: F x}3" ∷ codes "2{f _m_ g: f-g}5" ∷ codes "{𝕊⟨1,⟨a⟩⟩: a; 𝕊x: 0}⟨1,⟨7⟩⟩" ∷ []

headers_agree : runs headers ≡ sources headers
unfolding headers look define change
headers_agree = refl

predicates : List (List ℕ)
predicates = codes "Sg←{𝕩<0? ¯1; 𝕩=0? 0; 1}⋄⟨Sg ¯5,Sg 0,Sg 3⟩" ∷ codes "{0?1;2}" ∷ codes "{0?1}" ∷ codes "{2?1}" ∷ codes "{+·?1}" ∷ codes "a←1⋄{a↩2⋄0?1;a}" ∷ codes "{1?0?1;1?2;3}" ∷ []

predicates_agree : runs predicates ≡ sources predicates
unfolding predicates look define change
predicates_agree = refl

order : List (List ℕ)
order = codes "" ∷ codes "10-2-3" ∷ codes "a←1⋄a-a↩5" ∷ codes "a←1⋄⟨a,a↩2,a⟩" ∷ codes "a←1⋄a-{a↩7⋄𝔽}1" ∷ codes "a +↩ a←1" ∷ codes "a←3⋄a -↩" ∷ codes "a←3⋄1+a -↩" ∷ codes "F←G←-⋄F G 3" ∷ codes "a←1⋄{a←2}⋄a" ∷ codes "a←1⋄{a↩2}⋄a" ∷ codes "a←1⋄F←{𝕩⋄a}⋄a↩2⋄F 0" ∷ codes "{𝕊𝕩: a}0⋄a←1" ∷ codes "{a↩2}⋄a←1" ∷ codes "{⟨a⟩↩⟨2⟩}⋄a←1" ∷ codes "{a -↩}⋄a←1" ∷ codes "{a -↩ 1}⋄a←1" ∷ codes "{a↩+·}⋄a←1" ∷ codes "{a -↩ +·}⋄a←1" ∷ []

order_agrees : runs order ≡ sources order
unfolding order look define change
order_agrees = refl

no_value : List (List ℕ)
no_value = codes "+·" ∷ codes "(+·)" ∷ codes "+·⋄1" ∷ codes "(+·)-3" ∷ codes "·-3" ∷ codes "2-+·" ∷ codes "⟨F⟩←⟨∘⟩⋄F ·" ∷ codes "a←+·" ∷ codes "⟨+·⟩" ∷ codes "1‿(+·)" ∷ codes "[+·]" ∷ codes "{+·}" ∷ codes "{+·⋄1}" ∷ codes "{𝕎𝕩}1" ∷ codes "{𝕎·}1" ∷ codes "{𝕨.a}1" ∷ codes "-{𝔽𝕩}·" ∷ codes "{𝕎˜𝕩}1" ∷ codes "⟨_m⟩←⟨5⟩⋄(+·)_m 1" ∷ codes "⟨_m⟩←⟨5⟩⋄+_m 1" ∷ codes "{a⇐1⋄+·}.a" ∷ codes "{⟨⟩⇐}" ∷ []

no_value_agrees : runs no_value ≡ sources no_value
unfolding no_value look define change
no_value_agrees = refl

modifiers : List (List ℕ)
modifiers = codes "-{𝔽}3" ∷ codes "2{𝕗+1}" ∷ codes "4-{𝕨𝔽𝔾𝕩}×¯5" ∷ codes "2{𝕗-𝕘}5" ∷ codes "-{𝔽}{𝔽𝔽𝕩}5" ∷ codes "_m_←{𝔽𝔾𝕩}⋄-_m_- 1" ∷ codes "-{𝕩=0? 𝔽 0; 𝕩=9? 1; 𝔽 _𝕣 9}3" ∷ codes "5(+-×)2" ∷ codes "(-×)3" ∷ codes "(·-⊢)5" ∷ codes "{(𝕨-⊢)𝕩}5" ∷ codes "5(+-×-⊢)2" ∷ codes "5(-+×⊢)2" ∷ codes "{(-𝕎⊢)𝕩}5" ∷ codes "{(𝕎⊢)𝕩}5" ∷ codes "{(+-⊢𝕎-)𝕩}5" ∷ codes "{(-𝕎-⊢)𝕩}5" ∷ []

modifiers_agree : runs modifiers ≡ sources modifiers
unfolding modifiers look define change
modifiers_agree = refl

names : List (List ℕ)
names = codes "ns←{x⇐3⋄Inc⇐{𝕩+x}}⋄ns.Inc 4" ∷ codes "{p⇐4}.q" ∷ codes "5 .q" ∷ codes "F←{𝕊 0: {p⇐10}; 𝕊 n: {q⇐n}}⋄⟨(F 0).p,(F 5).q⟩" ∷ codes "{a⇐{b⇐2}}.a.b" ∷ codes "ns←{a⇐1⋄F⇐{a↩𝕩}}⋄ns.F 7⋄ns.a" ∷ codes "⟨a,·,b‿c⟩←⟨1,2,\"xy\"⟩⋄c‿a" ∷ codes "⟨p⟩←{p⇐4}⋄p" ∷ codes "⟨a,b⟩←1‿2‿3" ∷ codes "⟨q,⟨z⟩⟩←{p⇐4}" ∷ codes "⟨q⟩←{p⇐4}" ∷ codes "{𝕩⋄{𝕩}}1" ∷ codes "F←{𝕊 0: {10}; 𝕊 n: {n+{1}}}⋄⟨F 0,F 5,{7}⟩" ∷ codes "({𝕩+1}2)-{𝕩×10}3" ∷ []

names_agree : runs names ≡ sources names
unfolding names look define change
names_agree = refl

writes : List (List ℕ)
writes = codes "•Show 2+3" ∷ codes "(•Show 1)+•Show ¯2" ∷ codes "⟨•Show 1,•Show 2⟩⋄1÷0⋄•Show 3" ∷ codes "{•Show 1⋄0?2;3}" ∷ codes "•Show +·" ∷ codes "⟨•Out,•Type,•args⟩" ∷ []

writes_agree : runs writes ≡ sources writes
unfolding writes look define change digits encode
writes_agree = refl

-- ---- budgets and open calls

limited : List (List ℕ)
limited = codes "1" ∷ codes "" ∷ codes "{1}" ∷ codes "{0?1;2}" ∷ codes "3{𝕩;𝕨}4" ∷ codes "{𝕨F𝕩: 1}5" ∷ codes "{𝕊 0: 1; 𝕊 x: 1÷0}7" ∷ codes "2{𝕗}" ∷ codes "-{𝔽𝕩}3" ∷ codes "{{1}}" ∷ codes "(+-×)2" ∷ codes "{𝕩}·" ∷ codes "{𝕊𝕩}0" ∷ codes "F←{𝕊 0: 0; 𝕊 x: 1+F x-1}⋄F 2" ∷ []

abbrev under_limits : ((room steps : ℕ) → List ℕ → Seen) → List (List Seen)
under_limits see = each (see 9 0) limited ∷ each (see 9 1) limited ∷ each (see 9 2) limited ∷ each (see 9 3) limited ∷ each (see 0 9) limited ∷ each (see 1 9) limited ∷ each (see 2 9) limited ∷ []

limits_agree : under_limits code_seen ≡ under_limits source_seen
unfolding limited look define change
limits_agree = refl

-- ---- lines of a session

abbrev source_line : source.Ran (Option Value) → (source.State → List Seen) → List Seen
source_line (Gives r s) next = ends (evaluated_of (Gives r s)).outcome s.written ∷ next (record s { written = [] })
source_line (Ends spent) next = ends IsSpent spent.written ∷ []

abbrev source_lines : Earlier → source.State → List (List ℕ) → List Seen
source_lines earlier s [] = []
source_lines earlier s (text ∷ texts) = elim (with_tree (λ tree. elim (tree_code earlier.names tree) [ Err r ↦ Err r | Ok code ↦ Ok tree ]) text) [ Err r ↦ refused r ∷ source_lines earlier s texts | Ok tree ↦ source_line (line 20 earlier no_words tree s) (λ s. source_lines (further earlier tree) s texts) ]

abbrev code_lines : Earlier → Kept → List (List ℕ) → List Seen
code_lines earlier kept [] = []
code_lines earlier kept (text ∷ texts) = elim (with_tree (λ tree. Ok tree) text) [ Err r ↦ refused r ∷ code_lines earlier kept texts | Ok tree ↦ elim (tree_code earlier.names tree) [ Err r ↦ refused r ∷ code_lines earlier kept texts | Ok code ↦ elim (seen_code (exec_within 20 no_words kept code)) [ ends IsSpent bytes ↦ ends IsSpent bytes ∷ [] | seen ↦ seen ∷ code_lines (further earlier tree) (kept_behind kept code (exec_within 20 no_words kept code)) texts ] ] ]

session : List (List ℕ)
session = codes "F←{𝕩+1}⋄a←{5}" ∷ codes "a←1÷0" ∷ codes "G←{𝕩×2}⋄G F 3" ∷ codes "c" ∷ codes "F←{{𝕩-a}𝕩}⋄F 7" ∷ codes "a←1⋄F 7" ∷ codes "{b}⋄b←1" ∷ codes "⟨a,b⟩←{b⇐3⋄a⇐4}" ∷ codes "x⇐a‿b" ∷ codes "x" ∷ codes "a" ∷ codes "{a}" ∷ codes "{a}" ∷ codes "{a}" ∷ []

lines_agree : code_lines no_lines (fresh 18) session ≡ source_lines no_lines (at_start 18) session
unfolding session look define change
lines_agree = refl
