-- Counts go together in any grouping, and nothing adds nothing.
use Rattle.std.proofs.Common.{◌≡◌, ◌+◌, ℕ, arith}
use Rattle.bqn_compile.specs.declared.count.Count.{Count}
use Rattle.bqn_compile.specs.Counting.{nothing, past}

plus-assoc : (a b c : ℕ) → (a + b) + c ≡ a + (b + c)
plus-assoc a b c = omega arith

plus-zero : (a : ℕ) → a + 0 ≡ a
plus-zero a = omega arith

zero-plus : (a : ℕ) → 0 + a ≡ a
zero-plus a = omega arith

pub past-assoc : (a b c : Count) → past (past a b) c ≡ past a (past b c)
past-assoc a b c = λ i. record { uses = plus-assoc a.uses b.uses c.uses i; blocks = plus-assoc a.blocks b.blocks c.blocks i; bodies = plus-assoc a.bodies b.bodies c.bodies i; patterns = plus-assoc a.patterns b.patterns c.patterns i }

pub past-nothing : (a : Count) → past a nothing ≡ a
past-nothing a = λ i. record { uses = plus-zero a.uses i; blocks = plus-zero a.blocks i; bodies = plus-zero a.bodies i; patterns = plus-zero a.patterns i }

pub nothing-past : (a : Count) → past nothing a ≡ a
nothing-past a = λ i. record { uses = zero-plus a.uses i; blocks = zero-plus a.blocks i; bodies = zero-plus a.bodies i; patterns = zero-plus a.patterns i }

plus-swap : (a b : ℕ) → a + b ≡ b + a
plus-swap a b = omega arith

pub past-swap : (a b : Count) → past a b ≡ past b a
past-swap a b = λ i. record { uses = plus-swap a.uses b.uses i; blocks = plus-swap a.blocks b.blocks i; bodies = plus-swap a.bodies b.bodies i; patterns = plus-swap a.patterns b.patterns i }

pub ruleset count_laws = (past-assoc, past-nothing, nothing-past)
