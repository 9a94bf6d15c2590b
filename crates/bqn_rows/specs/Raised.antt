-- Faults at their places: this project's own.
use Rattle.std.specs.Prelude.{Option, None, Result, Ok, Err}
use Rattle.bqn_base.specs.declared.fault.Fault.{Fault}
use Rattle.bqn_base.specs.declared.place.Place.{Place}
use Rattle.bqn_base.specs.Places.{first_of}
use Rattle.bqn_rows.specs.Plain.{Value}

-- a fault that is raised, and its place, if it has one yet
pub record Raised : Type 0 where
  pub fault : Fault
  pub place : Option Place

-- what answers a question: a value, or a raised fault
abbrev pub Answer : Type 0
Answer = Result Value Raised

-- rows and conditions give faults; they are raised without a place
abbrev pub unplaced : Fault → Raised
unplaced f = record { fault = f; place = None }

abbrev pub raised : {A : Type 0} → Result A Fault → Result A Raised
raised (Ok a) = Ok a
raised (Err f) = Err (unplaced f)

-- a fault that has a place keeps it; one that has none gets this one
abbrev pub stamped : Place → Raised → Raised
stamped p r = record { fault = r.fault; place = first_of r.place p }

abbrev pub placed : {A : Type 0} → Place → Result A Raised → Result A Raised
placed p (Ok a) = Ok a
placed p (Err r) = Err (stamped p r)
