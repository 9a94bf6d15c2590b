-- A walk over tokens, token by token.
use Rattle.std.proofs.Common.{◌≡◌, ◌<◌, ◌≤◌, ◌+◌, ℕ, suc, List, [], ◌∷◌, Result, Ok, Err, length, drop, get_or, drop-cons, add-one, refl, subst, sym, ap, ◌∙◌, arith, Box}
use Rattle.std.specs.Global.{Global}
use Rattle.std.proofs.Math.ListN.{drop_of_length-le}
use Rattle.bqn_base.specs.declared.refusal.Refusal.{Refusal}
use Rattle.bqn_base.specs.declared.refusal.Refusal.TheVariants as refusal
use Rattle.bqn_syntax.specs.declared.token.Token.{Token}
use Rattle.bqn_syntax.specs.declared.sort.Sort.{Sort}
use Rattle.bqn_syntax.specs.declared.sort.Sort.TheVariants.{Opens, Closes, Separates, Draws, Joins, Selects, Ends, Heads, Asks, Skips, Stands}
use Rattle.bqn_syntax.specs.grammar.Sorts.{sort_of}
use Rattle.bqn_syntax.specs.grammar.Brackets.{partners_of}
use Rattle.bqn_syntax.specs.grammar.Looks as plain
use Rattle.bqn_syntax.specs.grammar.Parsing as parsing
use Rattle.std.specs.Prelude.{IfOk}
use Rattle.bqn_syntax.specs.declared.tree.Tree.{Tree}
use Rattle.bqn_syntax.specs.grammar.Grammar.{WellTreesAreFound, OnlyWellTreesAreFound, WellSpelled}
use Rattle.bqn_syntax.specs.grammar.Trees.{Stmts, stmts, tree_of}
use Rattle.bqn_parse.specs.declared.looks.Ahead.{Ahead}
use Rattle.bqn_parse.specs.declared.open_bracket.OpenBracket.{OpenBracket}
use Rattle.bqn_parse.specs.Looking.{ahead_by, ahead_shown, left_behind, openings, stacked, with_opening}
use Rattle.bqn_parse.specs.declared.error.ParseError.{ParseError}
use Rattle.bqn_parse.specs.declared.error.ParseError.TheVariants.{Refused, Memory}
use Rattle.bqn_parse.specs.Views.{Finds, Gives}
use Rattle.bqn_parse.specs.Walking.{around_shown, start, Moves}
use Rattle.bqn_parse.proofs.Stepping.{length-outer}

-- The end of the program.

pub program-refused : (outer : List parsing.OpenBracket) (answer : Result parsing.OpenBracket Refusal) (r : Refusal) → answer ≡ Err r → parsing.program_of outer answer ≡ Err r
program-refused [] answer r e = ap (parsing.program_of []) e
program-refused (around ∷ outer) answer r e = ap (parsing.program_of (around ∷ outer)) e

open-refused : (outer : List parsing.OpenBracket) (l : parsing.OpenBracket) → 0 < length outer → parsing.program_of outer (Ok l) ≡ Err (refusal.Bracket l.opened)
open-refused [] l some = absurd (omega arith)
open-refused (around ∷ outer) l some = refl

pub program-open : (tokens : List Token) (outer : List (Box OpenBracket Global)) (answer : Result parsing.OpenBracket Refusal) (l : parsing.OpenBracket) → answer ≡ Ok l → 0 < length outer → parsing.program_of (around_shown tokens outer) answer ≡ Err (refusal.Bracket l.opened)
program-open tokens outer answer l e some =
    ap (parsing.program_of (around_shown tokens outer)) e
    ∙ open-refused (around_shown tokens outer) l (let n = length-outer tokens outer in omega arith)

pub program-whole : (tokens : List Token) (outer : List (Box OpenBracket Global)) (answer : Result parsing.OpenBracket Refusal) (l : parsing.OpenBracket) → answer ≡ Ok l → outer ≡ [] → parsing.program_of (around_shown tokens outer) answer ≡ Ok (stmts l.statements)
program-whole tokens outer answer l e none = ap (parsing.program_of (around_shown tokens outer)) e ∙ ap (λ (ls : List (Box OpenBracket Global)). parsing.program_of (around_shown tokens ls) (Ok l)) none

pub ruleset finish_laws = (program-refused, program-open, program-whole)

-- What stands after the bracket that a token opens.

step-by : (s : Sort) (a : plain.Ahead) (all : List plain.Ahead) (token : Token) (tokens : List Token) (so : parsing.OpenBrackets) → parsing.step s a token tokens so ≡ parsing.step s (ahead_by s (with_opening s a all)) token tokens so
step-by (Opens b) a all token tokens so = refl
step-by (Closes b) a all token tokens so = refl
step-by Separates a all token tokens so = refl
step-by (Draws arrow) a all token tokens so = refl
step-by Joins a all token tokens so = refl
step-by Selects a all token tokens so = refl
step-by Ends a all token tokens so = refl
step-by Heads a all token tokens so = refl
step-by Asks a all token tokens so = refl
step-by Skips a all token tokens so = refl
step-by Stands a all token tokens so = refl

left-by : (s : Sort) (a : plain.Ahead) (all : List plain.Ahead) → left_behind s (with_opening s a all) ≡ all
left-by (Opens b) a all = refl
left-by (Closes b) a all = refl
left-by Separates a all = refl
left-by (Draws arrow) a all = refl
left-by Joins a all = refl
left-by Selects a all = refl
left-by Ends a all = refl
left-by Heads a all = refl
left-by Asks a all = refl
left-by Skips a all = refl
left-by Stands a all = refl

-- The walk.

abbrev going_on : Result parsing.OpenBrackets Refusal → List Token → Result Stmts Refusal
going_on (Ok next) tokens = parsing.walk next tokens
going_on (Err r) tokens = Err r

walk-cons : (so : parsing.OpenBrackets) (token : Token) (tokens : List Token) → parsing.walk so (token ∷ tokens) ≡ going_on (parsing.step (sort_of token.kind) (plain.behind_group tokens) token (token ∷ tokens) so) tokens
walk-cons so token tokens = at (parsing.step (sort_of token.kind) (plain.behind_group tokens) token (token ∷ tokens) so)
  where
    at : (answer : Result parsing.OpenBrackets Refusal) → (elim answer as (λ _. Result Stmts Refusal) [ Ok next ↦ parsing.walk next tokens | Err r ↦ Err r ]) ≡ going_on answer tokens
    at (Ok next) = refl
    at (Err r) = refl

-- the walk so far does what the rest of the tokens wants
pub record Going (index : ℕ) (left : List Ahead) (so : parsing.OpenBrackets) (tokens : List Token) : Type 0 where
  pub same : parsing.walk so (drop index tokens) ≡ parsing.walk start tokens
  pub known : stacked left ≡ openings (drop index tokens)

pub going-start : (left : List Ahead) (so : parsing.OpenBrackets) (tokens : List Token) → so ≡ start → stacked left ≡ openings tokens → Going 0 left so tokens
going-start left so tokens e known = record { same = ap (λ (l : parsing.OpenBrackets). parsing.walk l tokens) e; known = known }

token-next : (index : ℕ) (tokens : List Token) (token : Token) → index < length tokens → token ≡ get_or tokens index token → drop index tokens ≡ token ∷ drop (index + 1) tokens
token-next index tokens token inside is =
    drop-cons tokens index token inside
    ∙ ap (λ (t : Token). t ∷ drop (suc index) tokens) (sym is)
    ∙ ap (λ (n : ℕ). token ∷ drop n tokens) (sym (add-one index))

going-answer : (index : ℕ) (left : List Ahead) (so : parsing.OpenBrackets) (tokens : List Token) (token : Token) (a : Ahead) → Going index left so tokens → index < length tokens → token ≡ get_or tokens index token
    → ahead_shown a ≡ ahead_by (sort_of token.kind) (stacked left)
    → parsing.walk start tokens ≡ going_on (parsing.step (sort_of token.kind) (ahead_shown a) token (drop index tokens) so) (drop (index + 1) tokens)
going-answer index left so tokens token a going inside is at =
    let rest = drop (index + 1) tokens in
    let s = sort_of token.kind in
    let e = token-next index tokens token inside is in
    let b : ahead_shown a ≡ ahead_by s (openings (token ∷ rest)) = at ∙ ap (ahead_by s) (going.known ∙ ap openings e) in
    sym going.same
    ∙ ap (parsing.walk so) e
    ∙ walk-cons so token rest
    ∙ ap (λ (answer : Result parsing.OpenBrackets Refusal). going_on answer rest) (step-by s (plain.behind_group rest) (openings rest) token (token ∷ rest) so ∙ ap (λ (b : plain.Ahead). parsing.step s b token (token ∷ rest) so) (sym b))
    ∙ ap (λ (ts : List Token). going_on (parsing.step s (ahead_shown a) token ts so) rest) (sym e)

pub going-step : (index : ℕ) (left more : List Ahead) (so next : parsing.OpenBrackets) (tokens : List Token) (token : Token) (a : Ahead) → Going index left so tokens → index < length tokens → token ≡ get_or tokens index token
    → ahead_shown a ≡ ahead_by (sort_of token.kind) (stacked left) → stacked more ≡ left_behind (sort_of token.kind) (stacked left)
    → parsing.step (sort_of token.kind) (ahead_shown a) token (drop index tokens) so ≡ Ok next → Going (index + 1) more next tokens
going-step index left more so next tokens token a going inside is at rest e =
    let s = sort_of token.kind in
    let behind = drop (index + 1) tokens in
    record {
      same = sym (going-answer index left so tokens token a going inside is at ∙ ap (λ (answer : Result parsing.OpenBrackets Refusal). going_on answer behind) e);
      known = rest ∙ ap (left_behind s) (going.known ∙ ap openings (token-next index tokens token inside is)) ∙ left-by s (plain.behind_group behind) (openings behind);
    }

pub going-failed : (index : ℕ) (left : List Ahead) (so new : parsing.OpenBrackets) (tokens : List Token) (token : Token) (a : Ahead) (error : ParseError) → Going index left so tokens → index < length tokens → token ≡ get_or tokens index token
    → ahead_shown a ≡ ahead_by (sort_of token.kind) (stacked left)
    → Moves {X = Unit {0}} (parsing.step (sort_of token.kind) (ahead_shown a) token (drop index tokens) so) new (Err error) → Gives (parsing.walk start tokens) (Err error)
going-failed index left so new tokens token a (Refused r) going inside is at moves = going-answer index left so tokens token a going inside is at ∙ ap (λ (answer : Result parsing.OpenBrackets Refusal). going_on answer (drop (index + 1) tokens)) moves
going-failed index left so new tokens token a Memory going inside is at moves = tt

pub going-end : (index : ℕ) (left : List Ahead) (so : parsing.OpenBrackets) (tokens : List Token) → Going index left so tokens → length tokens ≤ index → parsing.walk start tokens ≡ parsing.program_of so.outer (parsing.ended parsing.nowhere so.inner)
going-end index left so tokens going outside = sym going.same ∙ ap (parsing.walk so) (drop_of_length-le tokens outside)

pub ruleset walk_laws = (going-start)

-- The brackets come first.

abbrev parsed_by : Result (List ℕ) Refusal → List Token → Result Stmts Refusal
parsed_by (Ok partners) tokens = parsing.walk start tokens
parsed_by (Err r) tokens = Err r

parsed-by : (tokens : List Token) → parsing.parsed tokens ≡ parsed_by (partners_of tokens) tokens
parsed-by tokens = at (partners_of tokens)
  where
    at : (answer : Result (List ℕ) Refusal) → (elim answer as (λ _. Result Stmts Refusal) [ Ok partners ↦ parsing.walk start tokens | Err r ↦ Err r ]) ≡ parsed_by answer tokens
    at (Ok partners) = refl
    at (Err r) = refl

pub parsed-walk : (tokens : List Token) (partners : List ℕ) → partners_of tokens ≡ Ok partners → parsing.parsed tokens ≡ parsing.walk start tokens
parsed-walk tokens partners e = parsed-by tokens ∙ ap (λ (answer : Result (List ℕ) Refusal). parsed_by answer tokens) e

pub parsed-refused : (tokens : List Token) (r : Refusal) → partners_of tokens ≡ Err r → parsing.parsed tokens ≡ Err r
parsed-refused tokens r e = parsed-by tokens ∙ ap (λ (answer : Result (List ℕ) Refusal). parsed_by answer tokens) e

pub ruleset parse_laws = (parsed-walk, parsed-refused)

-- What the laws of the grammar say of the tree that is given.

pub finds : (tokens : List Token) (result : Result Tree ParseError) → WellTreesAreFound → Gives (parsing.parsed tokens) result → Finds tokens result
finds tokens result found gives = λ ss well spells. subst (λ (a : Result Stmts Refusal). Gives a result) (found ss tokens well spells) gives

pub only-well : (tokens : List Token) (result : Result Tree ParseError) → OnlyWellTreesAreFound → Gives (parsing.parsed tokens) result → IfOk result (λ tree. WellSpelled (tree_of tree) tokens)
only-well tokens (Ok tree) only gives = only (tree_of tree) tokens gives
only-well tokens (Err e) only gives = tt

pub ruleset law_laws = (finds, only-well)
