-- What the walk keeps of the open bracket that it reads in and of those around it.
use Rattle.std.proofs.Common.{◌≡◌, ◌≤◌, ℕ, zero, suc, Bool, true, false, List, [], ◌∷◌, ◌++◌, Option, Some, None, refl, sym, ap, ◌∙◌, subst, append_assoc}
use Rattle.bqn_base.specs.declared.place.Place.{Place}
use Rattle.bqn_syntax.specs.declared.token.Token.{Token}
use Rattle.bqn_syntax.specs.declared.token.Kind.TheVariants as kind
use Rattle.bqn_syntax.specs.declared.sort.Sort.{Sort}
use Rattle.bqn_syntax.specs.declared.sort.Sort.TheVariants.{Opens, Closes, Separates}
use Rattle.bqn_syntax.specs.declared.sort.Inside.{Inside}
use Rattle.bqn_syntax.specs.declared.sort.Inside.TheVariants as inside
use Rattle.bqn_syntax.specs.grammar.Punctuation as punctuation
use Rattle.bqn_syntax.specs.grammar.Sorts.{sort_of}
use Rattle.bqn_syntax.specs.grammar.Looks.{Ahead, Looks, first_of, rest_of}
use Rattle.bqn_syntax.specs.grammar.Items.{Item, Wrong, piece_pattern}
use Rattle.bqn_syntax.specs.grammar.Expressions.{piece_expression, piece_statement, piece_predicate}
use Rattle.bqn_syntax.specs.grammar.Classes.{is_predicate}
use Rattle.bqn_syntax.specs.grammar.Parsing.{OpenBracket, OpenBrackets}
use Rattle.bqn_syntax.specs.grammar.Spells.{Sign, Mark, Apart, Gap, Fits, no_more, mark_at, pattern_signs, header_signs, expr_signs, stmt_signs, stmts_signs, body_signs, listed_signs, exprs_signs}
use Rattle.bqn_syntax.specs.grammar.Well.{WellExpr, WellExprs, WellPattern, WellPatterns, WellStmt, WellStmts, WellBodies, WellHeader, HeaderFits, expr_depth, exprs_depth, pattern_depth, patterns_depth, stmt_depth, stmts_depth, bodies_depth, header_depth}
use Rattle.bqn_syntax.specs.grammar.Trees.{Pattern, patterns, Header, Expr, exprs, Stmt, stmts, bodies}
use Rattle.bqn_grammar.proofs.TreeItems.{pattern_items, expr_items, GoodItems, ItemDepths}
use Rattle.bqn_grammar.proofs.sound.Signs.{items_signs, stmt_items}

-- so many brackets may still open at once before these tokens
abbrev pub WithinAt : Sort → (ℕ → Type 0) → ℕ → Type 0
WithinAt (Opens b) then_within zero = ⊥
WithinAt (Opens b) then_within (suc n) = then_within n
WithinAt (Closes b) then_within n = then_within (suc n)
WithinAt _ then_within n = then_within n

abbrev pub Within : List Token → ℕ → Type 0
Within [] n = Unit {0}
Within (t ∷ ts) n = WithinAt (sort_of t.kind) (Within ts) n

-- a header before further tokens
pub record HeaderOnly (n : ℕ) (tokens rest : List Token) (h : Header) : Type 0 where
  pub well : WellHeader h
  pub spelled : (k : List Sign) → Fits k rest → Fits (header_signs h k) (tokens ++ rest)
  pub depth : header_depth (Some h) ≤ n

-- what is known of one piece
pub record Pieces : Type 0 where
  pub expression_only : (items : List Item) (e : Expr) → GoodItems false items → piece_expression items ≡ Some e → (expr_items e ≡ items) × WellExpr e
  pub statement_only : (items : List Item) (s : Stmt) → GoodItems false items → piece_statement items ≡ Some s → (stmt_items s ≡ items) × WellStmt false s × (is_predicate s ≡ false)
  pub predicate_only : (items : List Item) (s : Stmt) → GoodItems false items → piece_predicate items ≡ Some s → (stmt_items s ≡ items) × WellStmt true s × (is_predicate s ≡ true)
  pub pattern_only : (literals : Bool) (items : List Item) (q : Pattern) → GoodItems literals items → piece_pattern literals items ≡ Some q → (pattern_items q ≡ items) × WellPattern literals q
  pub expr_depths : (n : ℕ) (e : Expr) → ItemDepths n (expr_items e) → expr_depth e ≤ n
  pub stmt_depths : (n : ℕ) (s : Stmt) → ItemDepths n (stmt_items s) → stmt_depth s ≤ n
  pub pattern_depths : (n : ℕ) (q : Pattern) → ItemDepths n (pattern_items q) → pattern_depth q ≤ n

-- one token list is the end of another
pub record Suffix (whole rest : List Token) : Type 0 where
  pub part : List Token
  pub split : whole ≡ part ++ rest

pub suffix_all : (whole : List Token) → Suffix whole whole
suffix_all whole = record { part = []; split = refl }

pub suffix_one : (t : Token) (rest : List Token) → Suffix (t ∷ rest) rest
suffix_one t rest = record { part = t ∷ []; split = refl }

pub suffix_more : (whole middle rest : List Token) → Suffix whole middle → Suffix middle rest → Suffix whole rest
suffix_more whole middle rest a b = record { part = a.part ++ b.part; split = a.split ∙ ap (λ (ts : List Token). a.part ++ ts) b.split ∙ sym (append_assoc a.part b.part rest) }

-- No item is wrong.

abbrev pub CleanItem : Item → Type 0
CleanItem Wrong = ⊥
CleanItem _ = Unit {0}

abbrev pub Clean : List Item → Type 0
Clean [] = Unit {0}
Clean (i ∷ is) = CleanItem i × Clean is

-- The signs of what an open bracket has read, before those of its next piece or of its end.

-- pieces, each before a separator
abbrev pub nexts : {A : Type 0} → (A → List Sign → List Sign) → (List Sign → List Sign) → List A → List Sign → List Sign
nexts f sep [] k = k
nexts f sep (x ∷ xs) k = f x (sep (nexts f sep xs k))

abbrev pub by_apart : List Sign → List Sign
by_apart k = Apart ∷ Gap ∷ k

abbrev pub by_semicolon : List Sign → List Sign
by_semicolon k = Mark punctuation.semicolon ∷ k

abbrev pub by_nothing : List Sign → List Sign
by_nothing k = k

-- what stands before a statement
abbrev pub lead : Bool → List Sign → List Sign
lead true k = Gap ∷ k
lead false k = Apart ∷ Gap ∷ k

abbrev pub stmts_next : Bool → List Stmt → List Sign → List Sign
stmts_next begins [] k = lead begins k
stmts_next begins (s ∷ ss) k = lead begins (stmt_signs s (stmts_next (is_predicate s) ss k))

abbrev pub header_next : Option Header → List Sign → List Sign
header_next None k = k
header_next (Some h) k = Gap ∷ header_signs h (Mark punctuation.colon ∷ k)

abbrev pub next_signs : Inside → OpenBracket → List Sign → List Sign
next_signs inside.Program l k = stmts_next true l.statements k
next_signs inside.Block l k = nexts body_signs by_semicolon l.done (header_next l.header (stmts_next true l.statements k))
next_signs inside.Parens l k = nexts expr_signs by_nothing l.expressions k
next_signs inside.List l k = Gap ∷ nexts expr_signs by_apart l.expressions k
next_signs inside.Merge l k = Gap ∷ nexts expr_signs by_apart l.expressions k
next_signs inside.Pattern l k = Gap ∷ nexts pattern_signs by_apart l.targets k
next_signs inside.HeaderPattern l k = Gap ∷ nexts pattern_signs by_apart l.targets k

abbrev pub end_signs : Inside → OpenBracket → List Sign → List Sign
end_signs inside.Program l k = stmts_signs true (stmts l.statements) (Gap ∷ k)
end_signs inside.Block l k = nexts body_signs by_semicolon l.done (header_next l.header (stmts_signs true (stmts l.statements) (Gap ∷ k)))
end_signs inside.Parens l k = nexts expr_signs by_nothing l.expressions k
end_signs inside.List l k = Gap ∷ exprs_signs (exprs l.expressions) (Gap ∷ k)
end_signs inside.Merge l k = Gap ∷ exprs_signs (exprs l.expressions) (Gap ∷ k)
end_signs inside.Pattern l k = Gap ∷ listed_signs (patterns l.targets) (Gap ∷ k)
end_signs inside.HeaderPattern l k = Gap ∷ listed_signs (patterns l.targets) (Gap ∷ k)

abbrev pub gap_in : Inside → List Sign → List Sign
gap_in inside.Parens k = k
gap_in _ k = Gap ∷ k

-- separators part the pieces
abbrev pub Separable : Inside → Type 0
Separable inside.Parens = ⊥
Separable _ = Unit {0}

abbrev pub in_block : Inside → Bool
in_block inside.Block = true
in_block _ = false

abbrev pub in_header : Inside → Bool
in_header inside.HeaderPattern = true
in_header _ = false

-- whether lists among a bracket's items may have literals: before a `:` they may
abbrev pub literals_in : Inside → Bool → Bool
literals_in inside.HeaderPattern colon = true
literals_in inside.Block colon = colon
literals_in _ colon = false

-- what has been read is well
pub record Kept (n : ℕ) (i : Inside) (l : OpenBracket) : Type 0 where
  pub expressions : WellExprs (exprs l.expressions)
  pub targets : WellPatterns (in_header i) (patterns l.targets)
  pub header : HeaderFits l.header
  pub statements : WellStmts (in_block i) (stmts l.statements)
  pub done : WellBodies (bodies l.done)
  pub expressions_depth : exprs_depth (exprs l.expressions) ≤ n
  pub targets_depth : patterns_depth (patterns l.targets) ≤ n
  pub header_depth : header_depth l.header ≤ n
  pub statements_depth : stmts_depth (stmts l.statements) ≤ n
  pub done_depth : bodies_depth (bodies l.done) ≤ n

-- and spelled from the start of the open bracket to here
pub record Read (n : ℕ) (i : Inside) (l : OpenBracket) (start here : List Token) : Type 0 where
  pub kept : Kept n i l
  pub next : (k : List Sign) → Fits (gap_in i k) here → Fits (next_signs i l k) start
  pub last : (k : List Sign) → Fits (gap_in i k) here → Fits (end_signs i l k) start
  pub room : Within here n
  pub behind : Suffix start here

-- the piece that is being read, from its first token to the rest
pub record Piece (n : ℕ) (colon : Bool) (i : Inside) (l : OpenBracket) (start first rest : List Token) : Type 0 where
  pub read : Read n i l start first
  pub good : GoodItems (literals_in i colon) l.items
  pub deep : ItemDepths n l.items
  pub spelled : Clean l.items → (k : List Sign) → Fits k rest → Fits (items_signs l.items k) first
  pub behind : Suffix first rest

-- where the piece begins
abbrev pub Begins : List Item → Option (List Token) → (first rest : List Token) → Type 0
Begins [] begun first rest = (begun ≡ None) × (first ≡ rest)
Begins (item ∷ items) begun first rest = begun ≡ Some first

pub record At (n : ℕ) (colon : Bool) (i : Inside) (l : OpenBracket) (start rest : List Token) : Type 0 where
  pub first : List Token
  pub piece : Piece n colon i l start first rest
  pub begins : Begins l.items l.first first rest

-- a bracket around, whose piece has begun
pub record Outer (n : ℕ) (colon : Bool) (i : Inside) (l : OpenBracket) (start rest : List Token) : Type 0 where
  pub first : List Token
  pub piece : Piece n colon i l start first rest
  pub begins : l.first ≡ Some first

-- the token that opens a bracket
abbrev pub OpenedBy : Inside → Place → Token → Type 0
OpenedBy inside.Program place t = ⊥
OpenedBy inside.Block place t = t ≡ mark_at punctuation.open_curly place
OpenedBy inside.Parens place t = t.kind ≡ kind.Punct punctuation.open_round
OpenedBy inside.Merge place t = t.kind ≡ kind.Punct punctuation.open_square
OpenedBy _ place t = t.kind ≡ kind.Punct punctuation.open_angle

-- a list of a header stands where literals may
abbrev pub ListMay : Inside → Bool → Type 0
ListMay inside.HeaderPattern literals = literals ≡ true
ListMay _ literals = Unit {0}

pub record Opening (n : ℕ) (colon : Bool) (i : Inside) (place : Place) (around : OpenBracket) (start before : List Token) : Type 0 where
  pub bracket : Token
  pub opened_by : OpenedBy i place bracket
  pub list_may : ListMay i (literals_in around.inside colon)
  pub outer : Outer (suc n) colon around.inside around before (bracket ∷ start)

abbrev pub Around : (all : List Token) → ℕ → List Ahead → Inside → Place → List OpenBracket → List Token → Type 0
Around all n ahead i place [] start = (i ≡ inside.Program) × (n ≡ 128) × (start ≡ all)
Around all n ahead i place (around ∷ outer) start = (before : List Token) × Opening n (first_of ahead).colon i place around start before × Around all (suc n) (rest_of ahead) around.inside around.opened outer before

-- all that is open before the rest
pub record State (all : List Token) (n : ℕ) (l : Looks) (so : OpenBrackets) (rest : List Token) : Type 0 where
  pub start : List Token
  pub at : At n l.here.colon so.inner.inside so.inner start rest
  pub around : Around all n l.outer so.inner.inside so.inner.opened so.outer start

-- an open bracket whose piece has ended before the rest
pub record Ended (n : ℕ) (i : Inside) (l : OpenBracket) (start rest : List Token) : Type 0 where
  pub kept : Kept n i l
  pub last : (k : List Sign) → Fits (gap_in i k) rest → Fits (end_signs i l k) start
  pub onward : Separable i → (t : Token) (more : List Token) → rest ≡ t ∷ more → sort_of t.kind ≡ Separates → (k : List Sign) → Fits (gap_in i k) more → Fits (next_signs i l k) start
  pub behind : Suffix start rest
  pub bare : l.items ≡ []
  pub idle : l.first ≡ None

pub fits_eq : {a b : List Sign} {ts : List Token} → a ≡ b → Fits a ts → Fits b ts
fits_eq {ts = ts} e x = subst (λ (l : List Sign). Fits l ts) e x

pub into_gap : (i : Inside) (k : List Sign) (ts : List Token) → Fits k ts → Fits (gap_in i k) ts
into_gap inside.Parens k ts x = x
into_gap _ k ts x = no_more x
