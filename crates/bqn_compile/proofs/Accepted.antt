-- What a source has whose tokens, tree and names are accepted.
use Rattle.std.proofs.Common.{◌≡◌, ◌≤◌, ◌^◌, true, List, [], ◌∷◌, Ok, arith}
use Rattle.std.specs.List.{All}
use Rattle.bqn_syntax.specs.declared.token.Token.{Token}
use Rattle.bqn_syntax.specs.grammar.Trees.{Stmts}
use Rattle.bqn_syntax.specs.grammar.Spells.{Gap, Spells, stmts_signs}
use Rattle.bqn_syntax.specs.text.Fitting.{TokenBegins}
use Rattle.bqn_syntax.proofs.FittingTokens.{tokens_fit}
use Rattle.bqn_grammar.proofs.only.WellTrees.{only_well_trees_are_found}
use Rattle.bqn_compile.specs.Items.{Item, Alone, Fields, Taken, Opened, Shown, EveryItem, stmts_items}
use Rattle.bqn_compile.specs.Sources.{ItemBegins}
use Rattle.bqn_compile.specs.Laws.{AcceptedTreesAreFromSources}
use Rattle.bqn_compile.proofs.verified.pools.SpelledItems.{ItemTokens, exacts_hold, stmts_give}

item_begins : (x : Item) → ItemTokens TokenBegins x → ItemBegins x
item_begins (Alone how t) h = λ e. h
item_begins (Fields ts) h = h
item_begins (Taken literals how q) h = h
item_begins (Opened place n) h = h
item_begins (Shown q) h = h

every_begins : (xs : List Item) → EveryItem (ItemTokens TokenBegins) xs → EveryItem ItemBegins xs
every_begins [] h = tt
every_begins (x ∷ xs) h = (item_begins x h.0, every_begins xs h.1)

-- where each name begins with a letter, those do that the code takes
pub tree_begins : (ss : Stmts) (tokens : List Token) → Spells ss tokens → All TokenBegins tokens → EveryItem ItemBegins (stmts_items ss)
tree_begins ss tokens spells begin = every_begins (stmts_items ss) ((stmts_give TokenBegins true ss (Gap ∷ [])).tokens (exacts_hold TokenBegins (stmts_signs true ss (Gap ∷ [])) tokens spells begin)).0

pub accepted_trees : AcceptedTreesAreFromSources
accepted_trees outer bytes tokens ss r reads finds resolves =
    let fit = tokens_fit bytes tokens reads in
    let found = only_well_trees_are_found ss tokens finds in
    let few = fit.few in
    record {
      well = found.well;
      spells = found.spells;
      few = omega arith;
      tokens_fit = fit.fit;
      letters = tree_begins ss tokens found.spells fit.letters;
      resolves = resolves;
    }
