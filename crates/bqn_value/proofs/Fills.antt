-- What an array carries may be carried.
use Rattle.std.proofs.Common.{◌≡◌, true, Option, subst, sym, ◌∙◌}
use Rattle.bqn_rows.specs.Plain.{Value, values, fill}
use Rattle.bqn_rows.specs.Limits.{proper}
use Rattle.bqn_rows.specs.Laws.{IsFill}
use Rattle.bqn_rows.proofs.Proper.{proper_by_parts}
use Rattle.bqn_rows.proofs.Rows.{carried-fill}
use Rattle.bqn_value.specs.Seen.{Seen}
use Rattle.bqn_value.specs.Meaning.{array}

pub carries-fill : (a : Seen) (g : Option Value) → proper (array a) ≡ true → g ≡ a.fill → IsFill g
carries-fill a g h e = subst IsFill (carried-fill a.fill ∙ sym e) (proper_by_parts.fill a.shape (values a.elements) (fill a.fill) h)

pub ruleset carrying = (carries-fill)
