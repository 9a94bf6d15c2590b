use Rattle.std.proofs.Common.{◌∷◌, reverse, ap, ◌∙◌}
use Rattle.bqn_syntax.specs.declared.token.Token.{Token}
use Rattle.bqn_parse.specs.Views.{backward, unit_shown}
use Rattle.bqn_parse.proofs.Trains.{found-snoc, target-before}
use Rattle.bqn_parse.proofs.reading.targets.before_arrow.Goals as goal

pub returns-in_ok-append-in-Some-name_of-clause-means : goal.returns-in_ok-append-in-Some-name_of-clause-means
returns-in_ok-append-in-Some-name_of-clause-means c =
    let so = reverse c.args.found.now.items in
    let copied = c.in_ok-copy-in-Some-name_of.field-0 in
    target-before c.args.tag so (reverse c.append.new.all.items) c.in-Some-name_of.token.now c.args.arrow (unit_shown c.in-Some.unit) (backward c.take.new.left.items) (backward c.args.left.now.items)
    c.in-Some.ensures.next
    c.in-Some-name_of.ensures
    (ap reverse c.in_ok-append-in-Some-name_of.ensures ∙ found-snoc c.args.found.now.items (copied, c.args.arrow) ∙ ap (λ (t : Token). (t, c.args.arrow) ∷ so) c.in_ok-copy-in-Some-name_of.ensures)
