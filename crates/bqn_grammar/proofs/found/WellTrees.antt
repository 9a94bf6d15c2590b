-- Each well tree is found from every token list that spells it, so no list has two.
use Rattle.std.proofs.Common.{◌≡◌, List, [], Result, Ok, Err, refl, ◌∙◌}
use Rattle.bqn_base.specs.declared.refusal.Refusal.{Refusal}
use Rattle.bqn_syntax.specs.declared.token.Token.{Token}
use Rattle.bqn_syntax.specs.declared.sort.Inside.TheVariants as inside
use Rattle.bqn_syntax.specs.grammar.Brackets.{partners_of}
use Rattle.bqn_syntax.specs.grammar.Parsing.{open_brackets, fresh, nowhere, walk, parsed}
use Rattle.bqn_syntax.specs.grammar.Grammar.{WellTreesAreFound, TreesAreUnique}
use Rattle.bqn_syntax.specs.grammar.Trees.{Stmts}
use Rattle.bqn_grammar.proofs.walked.Tree.{program_walks}
use Rattle.bqn_grammar.proofs.walked.Brackets.{walk_nests}

-- where brackets match, the walk decides
pub parsed_is : (tokens : List Token) (partners : List _) → partners_of tokens ≡ Ok partners → parsed tokens ≡ walk (open_brackets (fresh inside.Program nowhere) []) tokens
parsed_is tokens partners e = go (partners_of tokens) e
  where
    go : (r : Result (List _) Refusal) → r ≡ Ok partners → (elim r as (λ _. Result Stmts Refusal) [ Ok found ↦ walk (open_brackets (fresh inside.Program nowhere) []) tokens | Err refusal ↦ Err refusal ]) ≡ walk (open_brackets (fresh inside.Program nowhere) []) tokens
    go (Ok found) e = refl
    go (Err refusal) e = absurd (cc)

pub well_trees_are_found : WellTreesAreFound
well_trees_are_found ss tokens well spells =
    let w = program_walks ss tokens well.statements well.depth spells in
    let n = walk_nests tokens (open_brackets (fresh inside.Program nowhere) []) (record { around = []; partners = [] }) 0 ss tt w in
    parsed_is tokens n.0 n.1 ∙ w

same_tree : (r : Result Stmts Refusal) (ss others : Stmts) → r ≡ Ok ss → r ≡ Ok others → ss ≡ others
same_tree r ss others e d = cc

pub trees_are_unique : TreesAreUnique
trees_are_unique ss others tokens w v = same_tree (parsed tokens) ss others (well_trees_are_found ss tokens w.well w.spells) (well_trees_are_found others tokens v.well v.spells)

pub ruleset found_laws = (well_trees_are_found, trees_are_unique)
