use Rattle.std.proofs.Common.{◌≡◌, [], ◌∙◌, ap, sym, arith}
use Rattle.bqn_syntax.specs.scope.Scope.{Scope, block_scope}
use Rattle.bqn_scope.specs.Bindings.{bindings_shown, bound_by, hidden_by, hidden_shown}
use Rattle.bqn_scope.specs.Equations.{own-out}
use Rattle.bqn_scope.specs.Scopes.{known_in}
use Rattle.bqn_scope.specs.Shown.{events_shown, mentions_shown}
use Rattle.bqn_scope.specs.Tokens.{names_of_tokens, tokens_shown}
use Rattle.bqn_scope.proofs.Bodies.{entered-bound, entered-bodies, entered-hidden}
use Rattle.bqn_scope.proofs.around.Around.enter.Goals as goal

pub returns-clause-bound : goal.returns-clause-bound
returns-clause-bound c =
    let known : known_in c.args.self.now.outer.now c.in_ok-scope.scope.in_block ≡ [] = ap (λ (s : Scope). s.known) c.in_ok-scope.ensures in
    entered-bound c.args.self.now.outer.now c.args.self.now.scopes.items c.push.new.self.items c.in_ok-scope.scope c.len.result (bindings_shown c.args.self.now.bindings) (bindings_shown c.bind.new.self) (omega (arith, c.len.ensures, c.args.self.now.scopes.ok.0)) c.in_ok-push.ensures.items known c.requires (c.in_ok-hidden.ensures.bound ∙ ap (λ ts. bound_by c.len.result 0 (names_of_tokens (tokens_shown ts)) (bindings_shown c.args.self.now.bindings)) c.as_slice-tokens.ensures.value)

pub returns-clause-bodies : goal.returns-clause-bodies
returns-clause-bodies c = entered-bodies c.args.self.now.outer.now c.args.self.now.scopes.items c.push.new.self.items c.in_ok-scope.scope _ c.in_ok-push.ensures.items (c.in_ok-scope.ensures ∙ (λ i. block_scope (mentions_shown (c.list-mentions.ensures i)) (events_shown (c.list-order.ensures i))) ∙ sym (ap (λ o. block_scope o.mentions o.order) (own-out c.args.own.now)))

pub returns-clause-hidden : goal.returns-clause-hidden
returns-clause-hidden c =
    let known : known_in c.args.self.now.outer.now c.in_ok-scope.scope.in_block ≡ [] = ap (λ (s : Scope). s.known) c.in_ok-scope.ensures in
    entered-hidden c.args.self.now.outer.now c.args.self.now.scopes.items c.push.new.self.items c.in_ok-scope.scope c.len.result (bindings_shown c.args.self.now.bindings) (hidden_shown c.in_ok-hidden.hidden.items) (omega (arith, c.len.ensures, c.args.self.now.scopes.ok.0)) c.in_ok-push.ensures.items known c.requires (c.in_ok-hidden.ensures.hidden ∙ ap (λ ts. hidden_by c.len.result 0 (names_of_tokens (tokens_shown ts)) (bindings_shown c.args.self.now.bindings)) c.as_slice-tokens.ensures.value)
