use Rattle.std.proofs.Common.{ℕ, List, sym, ap, ◌∙◌}
use Rattle.std.specs.Prelude.{nat_eq}
use Rattle.std.specs.List.{list_any}
use Rattle.bqn_syntax.specs.text.Text.{without_returns}
use Rattle.bqn_token.proofs.Returns.{without_returns-none}
use Rattle.bqn_token.proofs.text.characters.Goals as goal

pub returns : goal.returns
returns c =
    let none = ap (λ (w : List ℕ). list_any (λ (x : ℕ). nat_eq x 13) w) (sym c.deref.ensures.value) ∙ sym c.contains.ensures.value ∙ c.if-contains.false in
    sym (without_returns-none c.in_ok-all.all.items none) ∙ ap (λ (w : List ℕ). without_returns w) c.in_ok-all.ensures
