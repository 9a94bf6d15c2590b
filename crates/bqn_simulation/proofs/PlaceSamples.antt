-- Faults of programs and of their codes at their places, computed from texts.
use Rattle.std.proofs.Common.{◌≡◌, ℕ, List, [], ◌∷◌, Option, Some, None, Result, Ok, Err, slice_get, refl}
use lib.Chars.{codes}
use Rattle.bqn_base.specs.declared.fault.Fault.{Fault}
use Rattle.bqn_base.specs.declared.fault.Fault.TheVariants.{DivideByZero, Domain, NoBody, NoField, NotCallable, NothingUsed, Overflow, Pattern as NoMatch, TooDeep, Undefined}
use Rattle.bqn_base.specs.declared.place.Place.{Place}
use Rattle.bqn_base.specs.declared.refusal.Refusal.{Refusal}
use Rattle.bqn_base.specs.Places.{first_of}
use Rattle.bqn_rows.specs.Raised.{Raised}
use Rattle.bqn_meaning.specs.Environments.{look, define, change}
use Rattle.bqn_meaning.specs.Programs as m
use Rattle.bqn_meaning.specs.Programs.{evaluated_within}
use Rattle.bqn_code.specs.declared.instr.Instr.{Instr}
use Rattle.bqn_code.specs.declared.instr.Instr.TheVariants as i
use Rattle.bqn_code.specs.Plain.{Code}
use Rattle.bqn_execution.specs.Execution.{placed_code}
use Rattle.bqn_execution.specs.Programs.{Outcome, Faulted, fresh, no_words, exec_within, outcome}
use Rattle.bqn_compile.proofs.Sources.{with_tree, tree_code}

abbrev at : Fault → (line column : ℕ) → Option Raised
at f l c = Some (record { fault = f; place = Some (record { line = l; column = c }) })

abbrev of_source : m.Outcome → Option Raised
of_source (m.Faults r) = Some r
of_source x = None

abbrev of_code : Outcome → Option Raised
of_code (Faulted r) = Some r
of_code x = None

abbrev source_fault : List ℕ → Option Raised
source_fault text = elim (with_tree (λ tree. Ok tree) text) [ Err r ↦ None | Ok tree ↦ of_source (evaluated_within 3 tree [] 40).outcome ]

abbrev code_fault : List ℕ → Option Raised
code_fault text = elim (with_tree (tree_code []) text) [ Err r ↦ None | Ok code ↦ of_code (outcome (exec_within 3 no_words (fresh 40) code)) ]

abbrev each : (List ℕ → Option Raised) → List (List ℕ) → List (Option Raised)
each see [] = []
each see (text ∷ texts) = see text ∷ each see texts

-- ---- each row of the table of places

rows : List (List ℕ)
rows = codes "1+9223372036854775807" ∷ codes "F←{𝕩+a}⋄F 0⋄a←1" ∷ codes "+{𝔽a}1⋄a←2" ∷ codes "1+{0?1}" ∷ codes "⟨1,+·⟩" ∷ codes "[1,+·]" ∷ codes "1‿(+·)" ∷ codes "a←+·" ∷ codes "⟨a⟩←1" ∷ codes "a←1⋄a↩+·" ∷ codes "{𝕩÷0}1" ∷ codes "F←{x𝕊y: x}⋄F 5" ∷ codes "{𝕊⟨p,1⟩: p}3" ∷ codes "_m←{𝔽𝕩}⋄÷_m 0" ∷ codes "⟨_m⟩←⟨5⟩⋄(+·)_m 1" ∷ codes "⟨_m⟩←⟨5⟩⋄+_m 1" ∷ codes "{a⇐1}.b" ∷ codes "(+·).b" ∷ codes "{2?1}" ∷ codes "{𝕊: a←1⋄+·}5" ∷ codes "F←{𝕊𝕩}⋄F 0" ∷ []

wanted : List (Option Raised)
wanted = at Overflow 1 2 ∷ at Undefined 1 6 ∷ at Undefined 1 4 ∷ at NoBody 1 3 ∷ at NothingUsed 1 2 ∷ at NothingUsed 1 2 ∷ at NothingUsed 1 1 ∷ at NothingUsed 1 1 ∷ at NoMatch 1 2 ∷ at NothingUsed 1 5 ∷ at DivideByZero 1 3 ∷ at NoBody 1 12 ∷ at NoBody 1 1 ∷ at DivideByZero 1 5 ∷ at NothingUsed 1 14 ∷ at NotCallable 1 11 ∷ at NoField 1 7 ∷ at NothingUsed 1 6 ∷ at Domain 1 2 ∷ at NothingUsed 1 9 ∷ at TooDeep 1 4 ∷ []

rows_of_sources : each source_fault rows ≡ wanted
unfolding rows wanted look define change first_of
rows_of_sources = refl

rows_of_codes : each code_fault rows ≡ wanted
unfolding rows wanted look define change first_of
rows_of_codes = refl

-- ---- the other instructions that can fault: a change without a value, both kinds of derived functions, both kinds of trains

others : List (List ℕ)
others = codes "{a↩2}⋄a←1" ∷ codes "{⟨a⟩↩⟨2⟩}⋄a←1" ∷ codes "{a -↩}⋄a←1" ∷ codes "⟨_m_⟩←⟨5⟩⋄+_m_- 1" ∷ codes "{(𝕎⊢)𝕩}5" ∷ codes "{(-𝕎⊢)𝕩}5" ∷ codes "⟨q⟩←{p⇐4}" ∷ codes "'a'-'b'-1÷0" ∷ []

wanted_others : List (Option Raised)
wanted_others = at Undefined 1 2 ∷ at Undefined 1 3 ∷ at Undefined 1 2 ∷ at NotCallable 1 12 ∷ at NothingUsed 1 3 ∷ at NothingUsed 1 3 ∷ at NoField 1 2 ∷ at DivideByZero 1 10 ∷ []

others_of_sources : each source_fault others ≡ wanted_others
unfolding others wanted_others look define change first_of
others_of_sources = refl

others_of_codes : each code_fault others ≡ wanted_others
unfolding others wanted_others look define change first_of
others_of_codes = refl

-- ---- a statement without a leaf: its fault has no place, or that of the call around it

leafless : List (List ℕ)
leafless = codes "⟨⟨⟩⟩←⟨⟩" ∷ codes "F←{𝕩⋄⟨⟨⟩⟩←⟨⟩}⋄F 0" ∷ codes "F←{𝕩⋄⟨⟨⟩⟩←⟨⟩}⋄G←{F 𝕩}⋄G 0" ∷ []

wanted_leafless : List (Option Raised)
wanted_leafless = Some (record { fault = NoMatch; place = None }) ∷ at NoMatch 1 15 ∷ at NoMatch 1 18 ∷ []

leafless_sources : each source_fault leafless ≡ wanted_leafless
unfolding leafless wanted_leafless look define change first_of
leafless_sources = refl

leafless_codes : each code_fault leafless ≡ wanted_leafless
unfolding leafless wanted_leafless look define change first_of
leafless_codes = refl

-- ---- a pattern without a leaf; a fault that passes through two blocks; a list without a leaf beside it; a second line

further : List (List ℕ)
further = codes "⟨⟩←1" ∷ codes "F←{÷𝕩}⋄G←{F 𝕩}⋄G 0" ∷ codes "1-(⟨⟩)+2÷0" ∷ codes "'a'\n+'b'" ∷ []

wanted_further : List (Option Raised)
wanted_further = at NoMatch 1 4 ∷ at DivideByZero 1 4 ∷ at DivideByZero 1 9 ∷ at Domain 2 1 ∷ []

further_sources : each source_fault further ≡ wanted_further
unfolding further wanted_further look define change first_of
further_sources = refl

further_codes : each code_fault further ≡ wanted_further
unfolding further wanted_further look define change first_of
further_codes = refl

-- ---- places of instructions

-- the first body of the block with this number
abbrev body_of : (block : ℕ) → Result Code Refusal → List (Instr × Place)
body_of n (Err r) = []
body_of n (Ok code) = elim (slice_get code.blocks n) [ None ↦ [] | Some block ↦ elim block.bodies [ [] ↦ [] | body ∷ bodies ↦ placed_code body ] ]

abbrev first_body : Result Code Refusal → List (Instr × Place)
first_body code = body_of 0 code

abbrev p : (line column : ℕ) → Place
p l c = record { line = l; column = c }

-- the empty program
nothing : first_body (with_tree (tree_code []) []) ≡ (i.Nothing, p 1 1) ∷ (i.Return, p 1 1) ∷ []
nothing = refl

-- a list without a leaf, in a statement that has one
in_statement : first_body (with_tree (tree_code []) (codes "a←-⟨⟩")) ≡ (i.List 0, p 1 1) ∷ (i.Given 1, p 1 3) ∷ (i.Call1, p 1 3) ∷ (i.Define 0, p 1 1) ∷ (i.Return, p 1 1) ∷ []
in_statement = refl

-- and in one that has none
alone : first_body (with_tree (tree_code []) (codes "⟨⟩")) ≡ (i.List 0, p 0 0) ∷ (i.Return, p 0 0) ∷ []
alone = refl

-- a list without a leaf in a header, to the right of its lead and to the left
on_the_right : body_of 1 (with_tree (tree_code []) (codes "{𝕊⟨⟩: 1}5")) ≡ (i.Right, p 1 2) ∷ (i.Match 0, p 1 2) ∷ (i.Const 0, p 1 7) ∷ (i.Return, p 1 7) ∷ []
on_the_right = refl

on_the_left : body_of 1 (with_tree (tree_code []) (codes "2{⟨⟩𝕊x: 1}5")) ≡ (i.Left, p 1 5) ∷ (i.Match 0, p 1 5) ∷ (i.Right, p 1 6) ∷ (i.Match 1, p 1 6) ∷ (i.Const 1, p 1 9) ∷ (i.Return, p 1 9) ∷ []
on_the_left = refl
