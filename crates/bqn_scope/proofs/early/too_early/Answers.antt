use Rattle.std.proofs.Common.{arith}
use Rattle.bqn_scope.specs.Shown.{events_shown}
use Rattle.bqn_scope.specs.Tokens.{tokens_shown}
use Rattle.bqn_scope.specs.Waiting.{kept}
use Rattle.bqn_scope.proofs.Waiting.{waiting-start, early-more}
use Rattle.bqn_scope.proofs.early.too_early.Goals as goal

pub order-init : goal.order-init
order-init c =
    let start = waiting-start c.in_ok-waiting.waiting.items c.len.result c.args.defined.now.places.tokens.items c.new-early.result.items (events_shown c.args.order.now) (c.in_ok-waiting.ensures.items_if_clones_equal (λ y e. e)) (omega (arith, c.args.defined.now.places.tokens.ok.0)) c.new-early.ensures.items in
    record { room = start.0; whole = start.1 }

pub order-preserved : goal.order-preserved
order-preserved c = record {
  room = c.in_ok-meet.ensures.room;
  whole = early-more (tokens_shown c.order.early.items) (kept c.order.waiting.items (tokens_shown c.args.defined.now.places.tokens.items)) _ _ _ c.order.event-index c.event-item.result c.args.order.now (omega arith) c.event-item.is c.in_ok-meet.ensures.early c.in_ok-meet.ensures.waiting c.order.invariant.whole;
}
