-- How deep lists of patterns are.
use Rattle.std.proofs.Common.{◌≡◌, ◌≤◌, ◌<◌, ◌-◌, ℕ, zero, suc, max, Bool, true, false, ◌&&◌, nat_le, refl, sym, ◌∙◌, arith}
use Rattle.std.proofs.lemmas.Bool.{le-leb, lt-leb, leb-true, leb-false}
use Rattle.bqn_code.specs.Plain.{Pattern, Patterns, and_patterns, ListPattern}
use Rattle.bqn_code.specs.Conditions.{nesting, all_nesting}

pub max_fits : (a b room : ℕ) → nat_le (max a b) room ≡ (nat_le a room && nat_le b room)
max_fits a b room = by (nat_le a room) (nat_le b room) refl refl
  where
    by : (p q : Bool) → nat_le a room ≡ p → nat_le b room ≡ q → nat_le (max a b) room ≡ (p && q)
    by true true e f = let x : a ≤ room = leb-true a room e in let y : b ≤ room = leb-true b room f in le-leb (max a b) room (omega arith)
    by true false e f = let y : room < b = leb-false b room f in lt-leb (max a b) room (omega arith)
    by false q e f = let x : room < a = leb-false a room e in lt-leb (max a b) room (omega arith)

pub and_fits : (p : Pattern) (ps : Patterns) (room : ℕ) → nat_le (all_nesting (and_patterns p ps)) room ≡ (nat_le (nesting p) room && nat_le (all_nesting ps) room)
and_fits p ps room = max_fits (nesting p) (all_nesting ps) room

pub one_less : (ps : Patterns) (room : ℕ) → 0 < room → nat_le (all_nesting ps) (room - 1) ≡ nat_le (nesting (ListPattern ps)) room
one_less ps zero h = absurd (omega arith)
one_less ps (suc room) h = by (nat_le (all_nesting ps) room) refl ∙ refl
  where
    by : (b : Bool) → nat_le (all_nesting ps) room ≡ b → nat_le (all_nesting ps) (suc room - 1) ≡ nat_le (suc (all_nesting ps)) (suc room)
    by true e = let x : all_nesting ps ≤ room = leb-true (all_nesting ps) room e in le-leb (all_nesting ps) (suc room - 1) (omega arith) ∙ sym (le-leb (suc (all_nesting ps)) (suc room) (omega arith))
    by false e = let x : room < all_nesting ps = leb-false (all_nesting ps) room e in lt-leb (all_nesting ps) (suc room - 1) (omega arith) ∙ sym (lt-leb (suc (all_nesting ps)) (suc room) (omega arith))

pub ruleset nests = (max_fits, one_less)
