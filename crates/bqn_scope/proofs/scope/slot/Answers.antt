use Rattle.std.proofs.Common.{◌∙◌, ap, sym}
use Rattle.bqn_scope.specs.Names.{place_of}
use Rattle.bqn_scope.specs.Tokens.{names_of_tokens, tokens_shown}
use Rattle.bqn_scope.proofs.Slots.{slot-none}
use Rattle.bqn_scope.proofs.scope.slot.Goals as goal

pub returns-in-None : goal.returns-in-None
returns-in-None c = slot-none c.args.outer.now (names_of_tokens (tokens_shown c.args.defined.now.places.tokens.items)) c.args.in_block c.args.name.now c.if-in_block.false (sym c.in_default.is ∙ c.position-2.ensures.value) (sym c.in-None.is ∙ c.position-3.ensures.value ∙ ap (λ names. place_of names c.args.name.now) c.args.defined.now.named)
