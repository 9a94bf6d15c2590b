-- What contracts see of an array: this project's own.
use Rattle.std.specs.Prelude.{ℕ, List, Option, refl}
use base.Stored.{Coded, coded_ℕ, coded_list, coded×}
use Rattle.std.specs.Coded.{code_by, coded_option}
use Rattle.bqn_rows.specs.Plain.{Value}
use Rattle.bqn_rows.specs.Stored.{coded_value}

-- the lengths of its axes, its elements in index order, and the fill that it carries
pub record Seen : Type 0 where
  pub shape : List ℕ
  pub elements : List Value
  pub fill : Option Value

abbrev pub coded_seen : Coded Seen
coded_seen = code_by (List ℕ × (List Value × Option Value)) (coded× (coded_list coded_ℕ) (coded× (coded_list coded_value) (coded_option coded_value)))
    (λ a. (a.shape, (a.elements, a.fill))) (λ p. record { shape = p.0; elements = p.1.0; fill = p.1.1 }) (λ _. refl)
