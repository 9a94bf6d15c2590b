use Rattle.std.proofs.Common.{◌∙◌, ap, sym}
use Rattle.bqn_syntax.specs.scope.Scope.{named}
use Rattle.bqn_scope.specs.Around.{bodies_around}
use Rattle.bqn_scope.specs.Scopes.{uses_shown}
use Rattle.bqn_scope.specs.Shown.{how_shown}
use Rattle.bqn_scope.proofs.Uses.{named-reads, named-changes, named-defines, named-exports, named-shows, writes-along}
use Rattle.bqn_scope.proofs.used.named.Goals as goal

pub returns-in-Reads : goal.returns-in-Reads
returns-in-Reads c = writes-along _ _ c.read.new.uses.items c.read.result (named-reads c.args.around.now.outer.now c.args.around.now.scopes.items _ c.in-Some.scope.now c.args.token.now (uses_shown c.args.uses.now.items) (sym c.deref.ensures.value ∙ c.in-Some.ensures.cases.0) ∙ ap (λ how. named (bodies_around c.args.around.now) (how_shown how) c.args.token.now (uses_shown c.args.uses.now.items)) (sym c.in-Reads.is)) c.read.ensures

pub returns-in-Changes : goal.returns-in-Changes
returns-in-Changes c = writes-along _ _ c.read-in-Changes.new.uses.items c.read-in-Changes.result (named-reads c.args.around.now.outer.now c.args.around.now.scopes.items _ c.in-Some.scope.now c.args.token.now (uses_shown c.args.uses.now.items) (sym c.deref.ensures.value ∙ c.in-Some.ensures.cases.0) ∙ named-changes c.args.around.now.outer.now c.args.around.now.scopes.items _ c.in-Some.scope.now c.args.token.now (uses_shown c.args.uses.now.items) (sym c.deref.ensures.value ∙ c.in-Some.ensures.cases.0) ∙ ap (λ how. named (bodies_around c.args.around.now) (how_shown how) c.args.token.now (uses_shown c.args.uses.now.items)) (sym c.in-Changes.is)) c.read-in-Changes.ensures

pub returns-in-Defines : goal.returns-in-Defines
returns-in-Defines c = writes-along _ _ c.define.new.uses.items c.define.result (named-defines c.args.around.now.outer.now c.args.around.now.scopes.items _ c.in-Some.scope.now c.args.token.now (uses_shown c.args.uses.now.items) (sym c.deref.ensures.value ∙ c.in-Some.ensures.cases.0) ∙ ap (λ how. named (bodies_around c.args.around.now) (how_shown how) c.args.token.now (uses_shown c.args.uses.now.items)) (sym c.in-Defines.is)) c.define.ensures

pub returns-in-Exports : goal.returns-in-Exports
returns-in-Exports c = writes-along _ _ c.define-in-Exports.new.uses.items c.define-in-Exports.result (named-defines c.args.around.now.outer.now c.args.around.now.scopes.items _ c.in-Some.scope.now c.args.token.now (uses_shown c.args.uses.now.items) (sym c.deref.ensures.value ∙ c.in-Some.ensures.cases.0) ∙ named-exports c.args.around.now.outer.now c.args.around.now.scopes.items _ c.in-Some.scope.now c.args.token.now (uses_shown c.args.uses.now.items) (sym c.deref.ensures.value ∙ c.in-Some.ensures.cases.0) ∙ ap (λ how. named (bodies_around c.args.around.now) (how_shown how) c.args.token.now (uses_shown c.args.uses.now.items)) (sym c.in-Exports.is)) c.define-in-Exports.ensures

pub returns-in-Shows : goal.returns-in-Shows
returns-in-Shows c = writes-along _ _ c.args.uses.now.items c.show.result (ap (λ how. named (bodies_around c.args.around.now) (how_shown how) c.args.token.now (uses_shown c.args.uses.now.items)) (sym c.in-Shows.is)) (named-shows c.args.around.now.outer.now c.args.around.now.scopes.items _ c.in-Some.scope.now c.args.token.now c.args.uses.now.items c.show.result (sym c.deref.ensures.value ∙ c.in-Some.ensures.cases.0) c.show.ensures)
