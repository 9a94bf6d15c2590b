use Rattle.std.proofs.Common.{◌≡◌, [], ◌∷◌, ◌++◌, ◌∙◌, ap, arith}
use Rattle.bqn_syntax.specs.scope.Scope.{Scope}
use Rattle.bqn_scope.specs.Bindings.{bindings_shown, bound_by}
use Rattle.bqn_scope.specs.Scopes.{known_in}
use Rattle.bqn_scope.specs.Tokens.{names_of_tokens, tokens_shown}
use Rattle.bqn_scope.proofs.Bodies.{top-bound}
use Rattle.bqn_scope.proofs.around.Around.of_program.Goals as goal

pub returns-clause-bound : goal.returns-clause-bound
returns-clause-bound c =
    let known : known_in c.args.outer.now c.in_ok-scope.scope.in_block ≡ c.args.outer.now = ap (λ (s : Scope). s.known) c.in_ok-scope.ensures in
    top-bound c.args.outer.now c.push.new.self.items c.in_ok-scope.scope c.len.result (bindings_shown c.new-bindings.result) (bindings_shown c.bind.new.self) (bindings_shown c.bind_session.new.self) (omega (arith, c.len.ensures)) (c.in_ok-push.ensures.items ∙ ap (λ xs. xs ++ c.in_ok-scope.scope ∷ []) c.new-scopes.ensures.items) known c.new-bindings.ensures (c.in_ok-bind.ensures.bound ∙ ap (λ ts. bound_by 0 c.len.result (names_of_tokens (tokens_shown ts)) (bindings_shown c.new-bindings.result)) c.as_slice-tokens.ensures.value) c.in_ok-bind_session.ensures
