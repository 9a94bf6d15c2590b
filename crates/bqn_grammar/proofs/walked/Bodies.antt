-- The walk over statements and bodies, one after another.
use Rattle.std.proofs.Common.{◌≡◌, Bool, true, false, List, [], ◌∷◌, ◌++◌, Option, Some, None, Result, Ok, refl, sym, ap, ◌∙◌, append_assoc}
use Rattle.bqn_base.specs.declared.place.Place.{Place}
use Rattle.bqn_base.specs.declared.refusal.Refusal.{Refusal}
use Rattle.bqn_syntax.specs.declared.token.Token.{Token}
use Rattle.bqn_syntax.specs.declared.tree.Class.{Class}
use Rattle.bqn_syntax.specs.declared.sort.Bracket.TheVariants.{Curly}
use Rattle.bqn_syntax.specs.declared.sort.Sort.TheVariants.{Closes, Ends}
use Rattle.bqn_syntax.specs.declared.sort.Inside.{Inside}
use Rattle.bqn_syntax.specs.declared.sort.Inside.TheVariants as inside
use Rattle.bqn_syntax.specs.grammar.Punctuation as punctuation
use Rattle.bqn_syntax.specs.grammar.Sorts.{sort_of}
use Rattle.bqn_syntax.specs.grammar.Items.{Element, OfPart, Item}
use Rattle.bqn_syntax.specs.grammar.Classes.{is_predicate, marks_in, class_of}
use Rattle.bqn_syntax.specs.grammar.Parsing.{OpenBracket, open_brackets, and_statement, and_header, and_body, ended, whole, block_part, walk, go_on, body_ended, semicolon, nowhere, program_of}
use Rattle.bqn_syntax.specs.grammar.Spells.{Sign, Mark, Gap, Fits, done, one_more, no_more, stmt_signs, stmts_signs, body_signs, bodies_more}
use Rattle.bqn_syntax.specs.grammar.Trees.{Pattern, Header, Expr, Block, Stmt, block, BodyTree, body, Stmts, no_stmts, and_stmts, stmts, Bodies, no_bodies, and_bodies, bodies}
use Rattle.bqn_grammar.proofs.walked.Arrows.{Arrows, Colons, other_arrows, apart_arrows, gap_arrows}
use Rattle.bqn_grammar.proofs.walked.Steps.{walk_step, having, clean, Many, clean_ends, gap_walks, separator_ends, Completes, Makes}
use Rattle.bqn_grammar.proofs.walked.Patterns.{closing_colons, ends_colons, apart_colons, gap_colons, body_start}
use Rattle.bqn_grammar.proofs.walked.Lists.{Expressive, append_none}

-- a program, or a body of a block
abbrev pub Running : Bool → Inside → Type 0
Running true inside.Block = Unit {0}
Running false inside.Program = Unit {0}
Running _ _ = ⊥

pub many_running : (b : Bool) (i : Inside) → Running b i → Many i
many_running b inside.Parens r = parens b r
  where
    parens : (b : Bool) → Running b inside.Parens → ⊥
    parens true r = r
    parens false r = r
many_running b inside.Program r = tt
many_running b inside.List r = tt
many_running b inside.Pattern r = tt
many_running b inside.HeaderPattern r = tt
many_running b inside.Merge r = tt
many_running b inside.Block r = tt

pub expressive_running : (b : Bool) (i : Inside) → Running b i → Expressive i
expressive_running true inside.Pattern r = r
expressive_running false inside.Pattern r = r
expressive_running true inside.HeaderPattern r = r
expressive_running false inside.HeaderPattern r = r
expressive_running b inside.Program r = tt
expressive_running b inside.List r = tt
expressive_running b inside.Parens r = tt
expressive_running b inside.Merge r = tt
expressive_running b inside.Block r = tt

pub running_is : Bool → Inside
running_is true = inside.Block
running_is false = inside.Program

abbrev pub run_inside : Bool → Inside
run_inside true = inside.Block
run_inside false = inside.Program

pub runs_inside : (b : Bool) (i : Inside) → Running b i → i ≡ run_inside b
runs_inside true inside.Block r = refl
runs_inside false inside.Program r = refl
runs_inside true inside.Program r = elim r [ ]
runs_inside true inside.Parens r = elim r [ ]
runs_inside true inside.List r = elim r [ ]
runs_inside true inside.Pattern r = elim r [ ]
runs_inside true inside.HeaderPattern r = elim r [ ]
runs_inside true inside.Merge r = elim r [ ]
runs_inside false inside.Parens r = elim r [ ]
runs_inside false inside.List r = elim r [ ]
runs_inside false inside.Pattern r = elim r [ ]
runs_inside false inside.HeaderPattern r = elim r [ ]
runs_inside false inside.Merge r = elim r [ ]
runs_inside false inside.Block r = elim r [ ]

pub same_running : (b : Bool) (i j : Inside) → Running b i → Running b j → i ≡ j
same_running b i j r s = runs_inside b i r ∙ sym (runs_inside b j s)

pub block_running : (b : Bool) (i : Inside) → Running b i → b ≡ true → i ≡ inside.Block
block_running b i r e = runs_inside b i r ∙ ap run_inside e

-- the open bracket with all these statements
abbrev pub stating : OpenBracket → Stmts → OpenBracket
stating l no_stmts = clean l
stating l (and_stmts s ss) = stating (and_statement s l) ss

abbrev pub list_of_stmts : Stmts → List Stmt
list_of_stmts no_stmts = []
list_of_stmts (and_stmts s ss) = s ∷ list_of_stmts ss

pub stmts_back : (ss : Stmts) → stmts (list_of_stmts ss) ≡ ss
stmts_back no_stmts = refl
stmts_back (and_stmts s ss) = ap (λ (x : Stmts). and_stmts s x) (stmts_back ss)

pub stating_statements : (l : OpenBracket) (ss : Stmts) → (stating l ss).statements ≡ l.statements ++ list_of_stmts ss
stating_statements l no_stmts = append_none l.statements
stating_statements l (and_stmts s ss) = stating_statements (and_statement s l) ss ∙ append_assoc l.statements (s ∷ []) (list_of_stmts ss)

pub stating_done : (l : OpenBracket) (ss : Stmts) → (stating l ss).done ≡ l.done
stating_done l no_stmts = refl
stating_done l (and_stmts s ss) = stating_done (and_statement s l) ss

pub stating_header : (l : OpenBracket) (ss : Stmts) → (stating l ss).header ≡ l.header
stating_header l no_stmts = refl
stating_header l (and_stmts s ss) = stating_header (and_statement s l) ss

pub stating_inside : (l : OpenBracket) (ss : Stmts) → (stating l ss).inside ≡ l.inside
stating_inside l no_stmts = refl
stating_inside l (and_stmts s ss) = stating_inside (and_statement s l) ss

pub stating_opened : (l : OpenBracket) (ss : Stmts) → (stating l ss).opened ≡ l.opened
stating_opened l no_stmts = refl
stating_opened l (and_stmts s ss) = stating_opened (and_statement s l) ss

pub stating_rest : (l : OpenBracket) (ss : Stmts) → (stating l ss).expressions ≡ l.expressions
stating_rest l no_stmts = refl
stating_rest l (and_stmts s ss) = stating_rest (and_statement s l) ss

pub stating_targets : (l : OpenBracket) (ss : Stmts) → (stating l ss).targets ≡ l.targets
stating_targets l no_stmts = refl
stating_targets l (and_stmts s ss) = stating_targets (and_statement s l) ss

-- from this bracket the walk comes to one that ends as the next, on tokens that fit the rest
pub record StatedFrom (l next : OpenBracket) (outer : List OpenBracket) (k : List Sign) (ts : List Token) : Type 0 where
  pub rest : List Token
  pub inner : OpenBracket
  pub fits : Fits k rest
  pub walks : walk (open_brackets l outer) ts ≡ walk (open_brackets inner outer) rest
  pub ends : (at : Place) → ended at inner ≡ Ok next
  pub inside : inner.inside ≡ l.inside

abbrev pub Stated : OpenBracket → OpenBracket → List OpenBracket → List Sign → List Token → Type 0
Stated l next outer k ts = StatedFrom (clean l) next outer k ts

pub last_statement : (l next : OpenBracket) (is : List Item) (first : Option (List Token)) (outer : List OpenBracket) (k : List Sign) (ts : List Token) → Many l.inside → Many next.inside → next.inside ≡ l.inside → Completes l is (clean next) → Fits (Gap ∷ k) ts → StatedFrom (having (clean l) is first) (clean next) outer k ts
last_statement l next is first outer k ts m n i c (no_more f) = record { rest = ts; inner = having (clean l) is first; fits = f; walks = refl; ends = λ at. c at first; inside = refl }
last_statement l next is first outer k all m n i c (one_more {t = t} {ts = ts} e f) =
    let g = gap_walks next outer k ts n f in
    record { rest = g.0; inner = clean next; fits = g.1; walks = separator_ends l (clean next) is first outer t ts m c e ∙ g.2; ends = λ at. clean_ends next at n; inside = i }

-- the open bracket with a body
abbrev pub filled : OpenBracket → BodyTree → OpenBracket
filled l (body None ss) = stating l ss
filled l (body (Some h) ss) = stating (and_header h l) ss

abbrev pub with_body : Place → List BodyTree → BodyTree → List BodyTree
with_body place so_far b = so_far ++ b ∷ []

pub bracket_is : (l : OpenBracket) (place : Place) (so_far : List BodyTree) → l.inside ≡ inside.Block → l.opened ≡ place → l.expressions ≡ [] → l.targets ≡ [] → (and_body l).done ≡ so_far → and_body l ≡ body_start place so_far
bracket_is l place so_far i o e t d = go l.inside l.opened l.expressions l.targets (and_body l).done i o e t d
  where
    go : (i : Inside) (o : Place) (e : List Expr) (t : List Pattern) (d : List BodyTree) → i ≡ inside.Block → o ≡ place → e ≡ [] → t ≡ [] → d ≡ so_far → record { inside = i; opened = o; first = None; items = []; expressions = e; targets = t; header = None; statements = []; done = d } ≡ body_start place so_far
    go i o e t d a b c f g = cc

pub body_done : (l : OpenBracket) (h : Option Header) (ss : Stmts) (so_far : List BodyTree) → l.header ≡ h → l.statements ≡ [] → l.done ≡ so_far → (and_body (stating l ss)).done ≡ so_far ++ body h ss ∷ []
body_done l h ss so_far e s d =
    ap (λ (x : List BodyTree). x ++ body (stating l ss).header (stmts (stating l ss).statements) ∷ []) (stating_done l ss ∙ d)
    ∙ ap (λ (x : Option Header). so_far ++ body x (stmts (stating l ss).statements) ∷ []) (stating_header l ss ∙ e)
    ∙ ap (λ (x : List Stmt). so_far ++ body h (stmts x) ∷ []) (stating_statements l ss ∙ ap (λ (x : List Stmt). x ++ list_of_stmts ss) s)
    ∙ ap (λ (x : Stmts). so_far ++ body h x ∷ []) (stmts_back ss)

pub filled_done : (place : Place) (so_far : List BodyTree) (b : BodyTree) → (and_body (filled (body_start place so_far) b)).done ≡ so_far ++ b ∷ []
filled_done place so_far (body None ss) = body_done (body_start place so_far) None ss so_far refl refl refl
filled_done place so_far (body (Some h) ss) = body_done (and_header h (body_start place so_far)) (Some h) ss so_far refl refl refl

pub filled_inside : (place : Place) (so_far : List BodyTree) (b : BodyTree) → (filled (body_start place so_far) b).inside ≡ inside.Block
filled_inside place so_far (body None ss) = stating_inside (body_start place so_far) ss
filled_inside place so_far (body (Some h) ss) = stating_inside (and_header h (body_start place so_far)) ss

pub filled_opened : (place : Place) (so_far : List BodyTree) (b : BodyTree) → (filled (body_start place so_far) b).opened ≡ place
filled_opened place so_far (body None ss) = stating_opened (body_start place so_far) ss
filled_opened place so_far (body (Some h) ss) = stating_opened (and_header h (body_start place so_far)) ss

pub body_is_start : (place : Place) (so_far : List BodyTree) (b : BodyTree) → and_body (filled (body_start place so_far) b) ≡ body_start place (so_far ++ b ∷ [])
body_is_start place so_far b = bracket_is (filled (body_start place so_far) b) place (so_far ++ b ∷ []) (filled_inside place so_far b) (filled_opened place so_far b) (expressions_of b) (targets_of b) (filled_done place so_far b)
  where
    expressions_of : (b : BodyTree) → (filled (body_start place so_far) b).expressions ≡ []
    expressions_of (body None ss) = stating_rest (body_start place so_far) ss
    expressions_of (body (Some h) ss) = stating_rest (and_header h (body_start place so_far)) ss

    targets_of : (b : BodyTree) → (filled (body_start place so_far) b).targets ≡ []
    targets_of (body None ss) = stating_targets (body_start place so_far) ss
    targets_of (body (Some h) ss) = stating_targets (and_header h (body_start place so_far)) ss

abbrev pub list_of_bodies : Bodies → List BodyTree
list_of_bodies no_bodies = []
list_of_bodies (and_bodies b bs) = b ∷ list_of_bodies bs

pub bodies_back : (bs : Bodies) → bodies (list_of_bodies bs) ≡ bs
bodies_back no_bodies = refl
bodies_back (and_bodies b bs) = ap (λ (x : Bodies). and_bodies b x) (bodies_back bs)

-- what a block is once these bodies have followed
abbrev pub MakesBlock : Place → List BodyTree → BodyTree → Bodies → Element → Type 0
MakesBlock place so_far b no_bodies x = Makes (filled (body_start place so_far) b) x
MakesBlock place so_far b (and_bodies v bs) x = MakesBlock place (so_far ++ b ∷ []) v bs x

pub makes_block_from : (place : Place) (c : Class) (so_far : List BodyTree) (b : BodyTree) (bs all : Bodies) → bodies (so_far ++ b ∷ list_of_bodies bs) ≡ all → class_of (marks_in all) ≡ Some c → MakesBlock place so_far b bs (OfPart (Block (block place c all)))
makes_block_from place c so_far b no_bodies all e w = λ at.
    ap (λ (i : Inside). whole i at (filled (body_start place so_far) b)) (filled_inside place so_far b)
    ∙ ap (λ (o : Place). block_part o (bodies (and_body (filled (body_start place so_far) b)).done) (class_of (marks_in (bodies (and_body (filled (body_start place so_far) b)).done)))) (filled_opened place so_far b)
    ∙ ap (λ (x : Bodies). block_part place x (class_of (marks_in x))) (ap bodies (filled_done place so_far b) ∙ e)
    ∙ ap (λ (o : Option Class). block_part place all o) w
makes_block_from place c so_far b (and_bodies v bs) all e w =
    makes_block_from place c (so_far ++ b ∷ []) v bs all (ap bodies (append_assoc so_far (b ∷ []) (v ∷ list_of_bodies bs)) ∙ e) w

pub makes_block : (place : Place) (c : Class) (b : BodyTree) (bs : Bodies) → class_of (marks_in (and_bodies b bs)) ≡ Some c → MakesBlock place [] b bs (OfPart (Block (block place c (and_bodies b bs))))
makes_block place c b bs w = makes_block_from place c [] b bs (and_bodies b bs) (bodies_back (and_bodies b bs)) w

pub semicolon_walks : (last next : OpenBracket) (outer : List OpenBracket) (t : Token) (ts rest : List Token) → ts ≡ t ∷ rest → sort_of t.kind ≡ Ends → last.inside ≡ inside.Block → ended t.place last ≡ Ok next → walk (open_brackets last outer) ts ≡ walk (open_brackets (and_body next) outer) rest
semicolon_walks last next outer t ts rest is s i e =
    walk_step (open_brackets last outer) (open_brackets (and_body next) outer) Ends t ts rest is s
    (ap (λ (j : Inside). semicolon j (t ∷ rest) t.place (open_brackets last outer)) i
    ∙ ap (λ (r : Result OpenBracket Refusal). go_on outer (body_ended r)) e)

pub after_body_arrows : (bs : Bodies) (k : List Sign) → Arrows false (bodies_more bs (Mark punctuation.close_curly ∷ k))
after_body_arrows no_bodies k = other_arrows (Closes Curly) punctuation.close_curly k refl tt
after_body_arrows (and_bodies b bs) k = other_arrows Ends punctuation.semicolon (body_signs b (bodies_more bs (Mark punctuation.close_curly ∷ k))) refl tt

pub after_body_colons : (bs : Bodies) (k : List Sign) → Colons false (bodies_more bs (Mark punctuation.close_curly ∷ k))
after_body_colons no_bodies k = closing_colons Curly punctuation.close_curly k refl
after_body_colons (and_bodies b bs) k = ends_colons (body_signs b (bodies_more bs (Mark punctuation.close_curly ∷ k)))

pub after_stmt_arrows : (ss : Stmts) (k : List Sign) → Arrows false k → Arrows false (stmts_signs false ss (Gap ∷ k))
after_stmt_arrows no_stmts k a = gap_arrows k a
after_stmt_arrows (and_stmts s ss) k a = apart_arrows (Gap ∷ stmt_signs s (stmts_signs (is_predicate s) ss (Gap ∷ k)))

pub after_stmt_colons : (ss : Stmts) (k : List Sign) → Colons false k → Colons false (stmts_signs false ss (Gap ∷ k))
after_stmt_colons no_stmts k y = gap_colons k y
after_stmt_colons (and_stmts s ss) k y = apart_colons (Gap ∷ stmt_signs s (stmts_signs (is_predicate s) ss (Gap ∷ k)))

pub nil_arrows : Arrows false []
nil_arrows ts done = refl

pub nil_colons : Colons false []
nil_colons ts done = refl

pub at_end : (rest : List Token) → Fits [] rest → (l : OpenBracket) → walk (open_brackets l []) rest ≡ program_of [] (ended nowhere l)
at_end all done l = refl
