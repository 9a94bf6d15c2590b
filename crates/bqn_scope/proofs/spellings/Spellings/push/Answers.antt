use Rattle.std.proofs.Common.{◌≡◌, ◌∷◌, ◌++◌, [], ◌∙◌, ap, List, ℕ, false}
use Rattle.bqn_syntax.specs.scope.Scope.{has}
use Rattle.bqn_scope.specs.Names.{spelled}
use Rattle.bqn_scope.proofs.Spelling.{spelled-inserted}
use Rattle.bqn_scope.proofs.spellings.Spellings.push.Goals as goal

pub returns-clause-ok : goal.returns-clause-ok
returns-clause-ok c =
    let keys = c.self.inside.spellings.keys in
    let none : has (spelled keys) c.args.name.now ≡ false = ap (λ (names : List (List ℕ)). has names c.args.name.now) c.self.view_is ∙ c.requires.absent in
    ap spelled c.in-Ok-insert_full.ensures.keys
    ∙ spelled-inserted c.args.name.now keys c.in-Ok.spelling c.in-Ok.ensures.items none
    ∙ ap (λ (names : List (List ℕ)). names ++ c.args.name.now ∷ []) c.self.view_is
