-- Places of sources, and none: this project's own.
use Rattle.std.specs.Prelude.{ℕ, zero, suc, Option, Some, None}
use Rattle.bqn_base.specs.declared.place.Place.{Place}

-- no place: its line is 0
abbrev pub nowhere : Place
nowhere = record { line = 0; column = 0 }

abbrev pub on_line : ℕ → Place → Option Place
on_line zero p = None
on_line (suc n) p = Some p

-- a place, where it is one
abbrev pub if_place : Place → Option Place
if_place p = on_line p.line p

-- a place that is there stays; where there is none it is this one
unfoldable pub first_of : Option Place → Place → Option Place
first_of q p = elim q [ None ↦ if_place p | Some r ↦ Some r ]
