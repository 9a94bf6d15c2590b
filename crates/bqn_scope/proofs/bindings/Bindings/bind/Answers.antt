use Rattle.std.proofs.Common.{◌≡◌, ◌<◌, ◌≤◌, ◌+◌, ◌-◌, ◌∙◌, ap, sym, get_or, length, arith}
use Rattle.std.proofs.lemmas.List.{length-map}
use Rattle.bqn_syntax.specs.scope.Scope.{name_of}
use Rattle.bqn_scope.specs.Bindings.{bindings_shown, hidden_shown}
use Rattle.bqn_scope.specs.Tokens.{tokens_shown, names_of_tokens}
use Rattle.bqn_scope.proofs.Binding.{bind-more, hide-more, hidden-more, token-name-at}
use Rattle.bqn_scope.proofs.bindings.Bindings.bind.Goals as goal

pub tokens-preserved : goal.tokens-preserved
tokens-preserved c =
    let names = names_of_tokens (tokens_shown c.args.tokens.now) in
    let some : 0 < c.tokens.index = omega arith in
    let inside : c.tokens.index ≤ length names = omega (arith, c.tokens.invariant.inside, length-map c.args.tokens.now (λ t. t.now), length-map (tokens_shown c.args.tokens.now) name_of) in
    let slot : c.in-Some.slot ≡ c.args.first + (c.tokens.index - 1) = omega (arith, c.in-Some.ensures) in
    let name : c.name_of-name.result.now ≡ get_or names (c.tokens.index - 1) c.name_of-name.result.now = c.name_of-name.ensures.value ∙ token-name-at c.args.tokens.now (c.tokens.index - 1) c.index-tokens-index.result c.index-tokens-index.is ∙ ap (get_or names (c.tokens.index - 1)) (sym c.name_of-name.ensures.value) in
    record {
      inside = omega (arith, c.tokens.invariant.inside);
      bound = bind-more c.args.level c.args.first c.tokens.index c.in-Some.slot names c.name_of-name.result.now (bindings_shown c.args.self.now) (bindings_shown c.tokens.self) (bindings_shown c.set.new.self) c.tokens.invariant.bound some inside slot name c.in_ok-outside.ensures.after;
      hidden = hide-more c.args.level c.args.first c.tokens.index names c.name_of-name.result.now c.in_ok-outside.outside (bindings_shown c.args.self.now) (bindings_shown c.tokens.self) (hidden_shown c.tokens.hidden.items) (hidden_shown c.push.new.self.items) c.tokens.invariant.bound c.tokens.invariant.hidden some inside name c.in_ok-outside.ensures.before (ap hidden_shown c.in_ok-push.ensures.items ∙ hidden-more c.tokens.hidden.items (record { name = c.name_of-name.result; outside = c.in_ok-outside.outside }));
    }
