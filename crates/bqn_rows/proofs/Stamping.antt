-- A place is given once.
use Rattle.std.proofs.Common.{◌≡◌, ℕ, zero, suc, Option, Some, None, refl}
use Rattle.bqn_base.specs.declared.fault.Fault.{Fault}
use Rattle.bqn_base.specs.declared.place.Place.{Place}
use Rattle.bqn_base.specs.Places.{nowhere, first_of, on_line}
use Rattle.bqn_rows.specs.Raised.{Raised, unplaced, stamped}
use Rattle.bqn_rows.specs.Laws.{PlacesStay}

kept : (p q : Place) (f : Fault) → stamped p (record { fault = f; place = Some q }) ≡ record { fault = f; place = Some q }
unfolding first_of
kept p q f = refl

given : (line column : ℕ) (f : Fault) → stamped (record { line = suc line; column = column }) (unplaced f)
    ≡ record { fault = f; place = Some (record { line = suc line; column = column }) }
unfolding first_of
given line column f = refl

pub none-first : (q : Option Place) → first_of q nowhere ≡ q
unfolding first_of
none-first None = refl
none-first (Some q) = refl

first-once : (p : Place) (q : Option Place) → first_of (first_of q p) p ≡ first_of q p
unfolding first_of
first-once p None = by p.line
  where
    by : (n : ℕ) → elim (on_line n p) as (λ z. Option Place) [ None ↦ on_line n p | Some r ↦ Some r ] ≡ on_line n p
    by zero = refl
    by (suc n) = refl
first-once p (Some q) = refl

no-place : (r : Raised) → stamped nowhere r ≡ r
no-place r = λ i. record { fault = r.fault; place = none-first r.place i }

once : (p q : Place) (r : Raised) → stamped p (stamped p r) ≡ stamped p r
once p q r = λ i. record { fault = r.fault; place = first-once p r.place i }

pub places_stay : PlacesStay
places_stay = record { kept = kept; given = given; no_place = no-place; once = once }

pub ruleset place_laws = (places_stay)
