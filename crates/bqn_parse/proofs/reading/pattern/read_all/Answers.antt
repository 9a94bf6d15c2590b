use Rattle.std.proofs.Common.{◌≡◌, ◌++◌, ◌∷◌, [], Bool, None, Option, List, reverse, rules, sym, ap, ◌∙◌}
use Rattle.bqn_syntax.specs.grammar.Items.{Item}
use Rattle.bqn_parse.specs.Strands.{Strung, one_more, spelt, strung_of}
use Rattle.bqn_parse.specs.Views.{item_of, items_of, when}
use Rattle.bqn_parse.proofs.Fused.{items-last}
use Rattle.bqn_parse.proofs.Groups.{put-stuck}
use Rattle.bqn_parse.proofs.reading.pattern.read_all.Goals as goal

pub returns-in-Ok-false : goal.returns-in-Ok-false
returns-in-Ok-false c =
    let literals = c.args.literals in
    let so = strung_of c.items.row in
    let left = c.items.items.items in
    let rest = c.pop.new.self.items in
    let item = c.in-Some.item in
    let e : left ≡ rest ++ item ∷ [] = search rules in
    let stuck : ◌≡◌ {A = Option Strung} None (one_more so (item_of item)) = ap (λ (b : Bool). when b (strung_of c.put.new.row)) (sym c.in-Ok-false.field-0-test) ∙ c.in-Ok-false.ensures in
    sym (put-stuck literals so (item_of item) (items_of (reverse rest)) stuck)
    ∙ ap (λ (xs : List Item). spelt literals so xs) (sym (items-last left rest item e))
    ∙ c.items.invariant
