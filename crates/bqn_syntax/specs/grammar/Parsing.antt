-- The tree of a token list, or its one refusal: one walk from the left, in which each piece is judged at the token that ends
-- it, so that what stands inside brackets is decided before what they stand in. BQN's page on grammar.
use Rattle.std.specs.Prelude.{◌-◌, nat_lt, Bool, true, false, if◌then◌else◌, List, [], ◌∷◌, ◌++◌, take, length, Option, Some, None, Result, Ok, Err}
use Rattle.bqn_base.specs.declared.place.Place.{Place}
use Rattle.bqn_base.specs.declared.refusal.Refusal.{Refusal}
use Rattle.bqn_base.specs.declared.refusal.Refusal.TheVariants as refusal
use Rattle.bqn_syntax.specs.declared.token.Token.{Token}
use Rattle.bqn_syntax.specs.declared.tree.Class.{Class}
use Rattle.bqn_syntax.specs.declared.sort.Bracket.{Bracket}
use Rattle.bqn_syntax.specs.declared.sort.Bracket.TheVariants.{Round, Angle, Square, Curly}
use Rattle.bqn_syntax.specs.declared.sort.Sort.{Sort}
use Rattle.bqn_syntax.specs.declared.sort.Sort.TheVariants.{Opens, Closes, Separates, Draws, Joins, Selects, Ends, Heads, Asks, Skips, Stands}
use Rattle.bqn_syntax.specs.declared.sort.Inside.{Inside}
use Rattle.bqn_syntax.specs.declared.sort.Inside.TheVariants as inside
use Rattle.bqn_syntax.specs.grammar.Sorts.{sort_of}
use Rattle.bqn_syntax.specs.grammar.Brackets.{partners_of}
use Rattle.bqn_syntax.specs.grammar.Looks.{Ahead, behind_group}
use Rattle.bqn_syntax.specs.grammar.Items.{Element, OfPart, OfList, Item, Standing, Drawn, Joining, Selecting, Wrong, piece_pattern}
use Rattle.bqn_syntax.specs.grammar.Expressions.{piece_expression, piece_statement, piece_predicate}
use Rattle.bqn_syntax.specs.grammar.Headers.{header_in}
use Rattle.bqn_syntax.specs.grammar.Classes.{marks_in, class_of}
use Rattle.bqn_syntax.specs.grammar.Trees.{Pattern, ListPattern, patterns, Header, Expr, Leaf, Elements, Merge, Paren, Block, Nothing, Stmt, block, BodyTree, body, exprs, Stmts, stmts, Bodies, bodies}

-- What is open, a bracket or the program: what its pieces stand in, where it opened, the tokens from the first one of the piece
-- that is being read, the items of that piece, and what has been read: expressions, patterns, or the bodies of a block and of its
-- last body the header and the statements.
pub record OpenBracket : Type 0 where
  pub inside : Inside
  pub opened : Place
  pub first : Option (List Token)
  pub items : List Item
  pub expressions : List Expr
  pub targets : List Pattern
  pub header : Option Header
  pub statements : List Stmt
  pub done : List BodyTree

-- the innermost bracket, and those around it
pub record OpenBrackets : Type 0 where
  pub inner : OpenBracket
  pub outer : List OpenBracket

abbrev pub open_brackets : OpenBracket → List OpenBracket → OpenBrackets
open_brackets inner outer = record { inner = inner; outer = outer }

abbrev pub fresh : Inside → Place → OpenBracket
fresh i place = record { inside = i; opened = place; first = None; items = []; expressions = []; targets = []; header = None; statements = []; done = [] }

-- The piece that is being read.

abbrev pub or_first : Option (List Token) → List Token → Option (List Token)
or_first None tokens = Some tokens
or_first (Some first) tokens = Some first

-- a piece has begun by here
abbrev pub begun : List Token → OpenBracket → OpenBracket
begun tokens l = record {
  inside = l.inside;
  opened = l.opened;
  first = or_first l.first tokens;
  items = l.items;
  expressions = l.expressions;
  targets = l.targets;
  header = l.header;
  statements = l.statements;
  done = l.done;
}

abbrev pub with_items : List Item → OpenBracket → OpenBracket
with_items items l = record {
  inside = l.inside;
  opened = l.opened;
  first = l.first;
  items = items;
  expressions = l.expressions;
  targets = l.targets;
  header = l.header;
  statements = l.statements;
  done = l.done;
}

abbrev pub and_item : Item → OpenBracket → OpenBracket
and_item item l = with_items (l.items ++ item ∷ []) l

-- the place of a piece's first token
abbrev pub place_of_first : Option (List Token) → Place → Place
place_of_first (Some (t ∷ tokens)) place = t.place
place_of_first _ place = place

-- What a piece is where it ends; the open bracket then waits for the next one.

abbrev pub and_expression : Expr → OpenBracket → OpenBracket
and_expression e l = record {
  inside = l.inside;
  opened = l.opened;
  first = None;
  items = [];
  expressions = l.expressions ++ e ∷ [];
  targets = l.targets;
  header = l.header;
  statements = l.statements;
  done = l.done;
}

abbrev pub and_target : Pattern → OpenBracket → OpenBracket
and_target q l = record {
  inside = l.inside;
  opened = l.opened;
  first = None;
  items = [];
  expressions = l.expressions;
  targets = l.targets ++ q ∷ [];
  header = l.header;
  statements = l.statements;
  done = l.done;
}

abbrev pub and_statement : Stmt → OpenBracket → OpenBracket
and_statement s l = record {
  inside = l.inside;
  opened = l.opened;
  first = None;
  items = [];
  expressions = l.expressions;
  targets = l.targets;
  header = l.header;
  statements = l.statements ++ s ∷ [];
  done = l.done;
}

abbrev pub and_header : Header → OpenBracket → OpenBracket
and_header h l = record {
  inside = l.inside;
  opened = l.opened;
  first = None;
  items = [];
  expressions = l.expressions;
  targets = l.targets;
  header = Some h;
  statements = l.statements;
  done = l.done;
}

-- the body that is being read ends
abbrev pub and_body : OpenBracket → OpenBracket
and_body l = record {
  inside = l.inside;
  opened = l.opened;
  first = None;
  items = [];
  expressions = l.expressions;
  targets = l.targets;
  header = None;
  statements = [];
  done = l.done ++ body l.header (stmts l.statements) ∷ [];
}

-- a piece that has no form is refused at its first token
abbrev pub well : {A : Type 0} → Place → (A → OpenBracket → OpenBracket) → Option A → OpenBracket → Result OpenBracket Refusal
well place and None l = Err (refusal.Grammar (place_of_first l.first place))
well place and (Some x) l = Ok (and x l)

abbrev pub judged : Inside → Place → OpenBracket → Result OpenBracket Refusal
judged inside.Program place l = well place and_statement (piece_statement l.items) l
judged inside.Block place l = well place and_statement (piece_statement l.items) l
judged inside.Parens place l = well place and_expression (piece_expression l.items) l
judged inside.List place l = well place and_expression (piece_expression l.items) l
judged inside.Merge place l = well place and_expression (piece_expression l.items) l
judged inside.Pattern place l = well place and_target (piece_pattern false l.items) l
judged inside.HeaderPattern place l = well place and_target (piece_pattern true l.items) l

-- an empty piece is none, but parentheses hold one
abbrev pub no_piece : Inside → Place → OpenBracket → Result OpenBracket Refusal
no_piece inside.Parens place l = Err (refusal.Grammar place)
no_piece _ place l = Ok l

abbrev pub ended_by : List Item → Place → OpenBracket → Result OpenBracket Refusal
ended_by [] place l = no_piece l.inside place l
ended_by (item ∷ items) place l = judged l.inside place l

-- the piece that is being read ends at the token at this place
abbrev pub ended : Place → OpenBracket → Result OpenBracket Refusal
ended place l = ended_by l.items place l

-- Brackets.

-- the first nonempty piece of a body
abbrev pub is_first_piece : Option Header → List Stmt → Bool
is_first_piece None [] = true
is_first_piece _ _ = false

-- what the pieces of a list stand in, by what stands after it and by what it stands in
abbrev pub list_inside : Ahead → Inside → Bool → Inside
list_inside a inside.Pattern at_head = inside.Pattern
list_inside a inside.HeaderPattern at_head = if a.arrow then inside.Pattern else inside.HeaderPattern
list_inside a inside.Block true = if a.arrow then inside.Pattern else if a.colon then inside.HeaderPattern else inside.List
list_inside a _ at_head = if a.arrow then inside.Pattern else inside.List

abbrev pub inside_of : Bracket → Ahead → OpenBracket → Inside
inside_of Round a l = inside.Parens
inside_of Square a l = inside.Merge
inside_of Curly a l = inside.Block
inside_of Angle a l = list_inside a l.inside (is_first_piece l.header l.statements)

-- the token that closes a bracket
abbrev pub closes : Bracket → Inside → Bool
closes Round inside.Parens = true
closes Square inside.Merge = true
closes Curly inside.Block = true
closes Angle inside.List = true
closes Angle inside.Pattern = true
closes Angle inside.HeaderPattern = true
closes _ _ = false

abbrev pub block_part : Place → Bodies → Option Class → Result Element Refusal
block_part place bs None = Err (refusal.BadBlock place)
block_part place bs (Some c) = Ok (OfPart (Block (block place c bs)))

abbrev pub parens_part : Place → List Expr → Result Element Refusal
parens_part place (e ∷ []) = Ok (OfPart (Paren e))
parens_part place _ = Err (refusal.Grammar place)

-- `[]` holds a piece
abbrev pub merge_part : Place → List Expr → Result Element Refusal
merge_part place [] = Err (refusal.Grammar place)
merge_part place (e ∷ es) = Ok (OfPart (Merge (exprs (e ∷ es))))

-- what an open bracket is as one element, where it closes at this place
abbrev pub whole : Inside → Place → OpenBracket → Result Element Refusal
whole inside.Parens place l = parens_part place l.expressions
whole inside.List place l = Ok (OfPart (Elements (exprs l.expressions)))
whole inside.Merge place l = merge_part place l.expressions
whole inside.Pattern place l = Ok (OfList (ListPattern (patterns l.targets)))
whole inside.HeaderPattern place l = Ok (OfList (ListPattern (patterns l.targets)))
whole inside.Block place l = block_part l.opened (bodies (and_body l).done) (class_of (marks_in (bodies (and_body l).done)))
whole inside.Program place l = Err (refusal.Bracket place)

abbrev pub whole_of : Place → Result OpenBracket Refusal → Result Element Refusal
whole_of place (Ok l) = whole l.inside place l
whole_of place (Err r) = Err r

-- an element stands in the bracket around
abbrev pub handed : Place → Result Element Refusal → List OpenBracket → Result OpenBrackets Refusal
handed place (Ok x) (around ∷ outer) = Ok (open_brackets (and_item (Standing x) around) outer)
handed place (Ok x) [] = Err (refusal.Bracket place)
handed place (Err r) outer = Err r

-- One more token.

abbrev pub go_on : List OpenBracket → Result OpenBracket Refusal → Result OpenBrackets Refusal
go_on outer (Ok l) = Ok (open_brackets l outer)
go_on outer (Err r) = Err r

abbrev pub taken : Item → List Token → OpenBrackets → Result OpenBrackets Refusal
taken item tokens so = Ok (open_brackets (and_item item (begun tokens so.inner)) so.outer)

-- at most 128 brackets are open
abbrev pub opened : Inside → List Token → Place → OpenBrackets → Result OpenBrackets Refusal
opened i tokens place so =
    if nat_lt (length so.outer) 128 then Ok (open_brackets (fresh i place) (begun tokens so.inner ∷ so.outer))
    else Err (refusal.TooNested place)

abbrev pub closed : Bool → Place → OpenBrackets → Result OpenBrackets Refusal
closed true place so = handed place (whole_of place (ended place so.inner)) so.outer
closed false place so = Err (refusal.Bracket place)

abbrev pub separated : Inside → List Token → Place → OpenBrackets → Result OpenBrackets Refusal
separated inside.Parens tokens place so = taken Wrong tokens so
separated _ tokens place so = go_on so.outer (ended place so.inner)

abbrev pub body_ended : Result OpenBracket Refusal → Result OpenBracket Refusal
body_ended (Ok l) = Ok (and_body l)
body_ended (Err r) = Err r

abbrev pub semicolon : Inside → List Token → Place → OpenBrackets → Result OpenBrackets Refusal
semicolon inside.Block tokens place so = go_on so.outer (body_ended (ended place so.inner))
semicolon _ tokens place so = taken Wrong tokens so

abbrev pub asked : List Item → Place → OpenBracket → Result OpenBracket Refusal
asked [] place l = Err (refusal.Grammar place)
asked (item ∷ items) place l = well place and_statement (piece_predicate l.items) l

abbrev pub question : Inside → List Token → Place → OpenBrackets → Result OpenBrackets Refusal
question inside.Block tokens place so = go_on so.outer (asked so.inner.items place so.inner)
question _ tokens place so = taken Wrong tokens so

-- the tokens from the first one up to these
abbrev pub before : List Token → List Token → List Token
before first tokens = take (length first - length tokens) first

abbrev pub tokens_before : Option (List Token) → List Token → List Token
tokens_before None tokens = []
tokens_before (Some first) tokens = before first tokens

abbrev pub known_header : Place → Option Header → OpenBracket → Result OpenBracket Refusal
known_header place None l = Err (refusal.BadBlock (place_of_first l.first place))
known_header place (Some h) l = Ok (and_header h l)

-- the first nonempty piece of a body is its header; a `:` makes any other wrong
abbrev pub headed : Bool → List Token → Place → OpenBracket → Result OpenBracket Refusal
headed true tokens place l = known_header place (header_in (tokens_before l.first tokens)) l
headed false tokens place l = Err (refusal.Grammar (place_of_first l.first place))

abbrev pub headed_by : List Item → List Token → Place → OpenBracket → Result OpenBracket Refusal
headed_by [] tokens place l = Err (refusal.Grammar place)
headed_by (item ∷ items) tokens place l = headed (is_first_piece l.header l.statements) tokens place l

abbrev pub colon : Inside → List Token → Place → OpenBrackets → Result OpenBrackets Refusal
colon inside.Block tokens place so = go_on so.outer (headed_by so.inner.items tokens place so.inner)
colon _ tokens place so = taken Wrong tokens so

-- a token of this sort at the front of these tokens, by what stands after its bracket
abbrev pub step : Sort → Ahead → Token → List Token → OpenBrackets → Result OpenBrackets Refusal
step (Opens b) a t tokens so = opened (inside_of b a so.inner) tokens t.place so
step (Closes b) a t tokens so = closed (closes b so.inner.inside) t.place so
step Separates a t tokens so = separated so.inner.inside tokens t.place so
step Ends a t tokens so = semicolon so.inner.inside tokens t.place so
step Asks a t tokens so = question so.inner.inside tokens t.place so
step Heads a t tokens so = colon so.inner.inside tokens t.place so
step (Draws arrow) a t tokens so = taken (Drawn arrow) tokens so
step Joins a t tokens so = taken Joining tokens so
step Selects a t tokens so = taken Selecting tokens so
step Skips a t tokens so = taken (Standing (OfPart (Nothing t.place))) tokens so
step Stands a t tokens so = taken (Standing (OfPart (Leaf t))) tokens so

abbrev pub nowhere : Place
nowhere = record { line = 0; column = 0 }

abbrev pub program_of : List OpenBracket → Result OpenBracket Refusal → Result Stmts Refusal
program_of [] (Ok l) = Ok (stmts l.statements)
program_of (around ∷ outer) (Ok l) = Err (refusal.Bracket l.opened)
program_of outer (Err r) = Err r

abbrev pub walk : OpenBrackets → List Token → Result Stmts Refusal
walk so [] = program_of so.outer (ended nowhere so.inner)
walk so (t ∷ tokens) = elim (step (sort_of t.kind) (behind_group tokens) t (t ∷ tokens) so) [ Ok next ↦ walk next tokens | Err r ↦ Err r ]

-- the statements of a token list, or its refusal; brackets that do not match come first
abbrev pub parsed : List Token → Result Stmts Refusal
parsed tokens = elim (partners_of tokens) [ Ok partners ↦ walk (open_brackets (fresh inside.Program nowhere) []) tokens | Err r ↦ Err r ]
