-- A punctuation mark is never what stands as a part of an expression.
use Rattle.std.proofs.Common.{if◌then◌else◌, ◌==◌, ◌≡◌, ℕ, Bool, true, false, refl, sym, ap, ◌∙◌}
use Rattle.std.proofs.lemmas.Bool.{false≢true}
use Rattle.bqn_syntax.specs.declared.tree.Arrow.TheVariants as arrow
use Rattle.bqn_syntax.specs.declared.sort.Sort.{Sort}
use Rattle.bqn_syntax.specs.declared.sort.Bracket.TheVariants.{Round, Angle, Square, Curly}
use Rattle.bqn_syntax.specs.declared.sort.Sort.TheVariants.{Opens, Closes, Separates, Draws, Joins, Selects, Ends, Heads, Asks, Skips, Stands}
use Rattle.bqn_syntax.specs.grammar.Trees.{Export}
use Rattle.bqn_syntax.specs.grammar.Sorts.{punct_sort}

abbrev is_stand : Sort → Bool
is_stand Stands = true
is_stand _ = false

if_other : (b : Bool) (s u : Sort) → is_stand s ≡ false → is_stand u ≡ false → is_stand (if b then s else u) ≡ false
if_other true s u h k = h
if_other false s u h k = k

by_tests : (b0 b1 b2 b3 b4 b5 b6 b7 b8 b9 b10 b11 b12 b13 b14 b15 b16 : Bool) → is_stand (if b0 then Opens Round else (if b1 then Opens Angle else (if b2 then Opens Square else (if b3 then Opens Curly else (if b4 then Closes Round else (if b5 then Closes Angle else (if b6 then Closes Square else (if b7 then Closes Curly else (if b8 then Draws arrow.Define else (if b9 then Draws arrow.Export else (if b10 then Draws arrow.Change else (if b11 then Joins else (if b12 then Selects else (if b13 then Ends else (if b14 then Heads else (if b15 then Asks else (if b16 then Skips else (Separates)))))))))))))))))) ≡ false
by_tests true b1 b2 b3 b4 b5 b6 b7 b8 b9 b10 b11 b12 b13 b14 b15 b16 = refl
by_tests false true b2 b3 b4 b5 b6 b7 b8 b9 b10 b11 b12 b13 b14 b15 b16 = refl
by_tests false false true b3 b4 b5 b6 b7 b8 b9 b10 b11 b12 b13 b14 b15 b16 = refl
by_tests false false false true b4 b5 b6 b7 b8 b9 b10 b11 b12 b13 b14 b15 b16 = refl
by_tests false false false false true b5 b6 b7 b8 b9 b10 b11 b12 b13 b14 b15 b16 = refl
by_tests false false false false false true b6 b7 b8 b9 b10 b11 b12 b13 b14 b15 b16 = refl
by_tests false false false false false false true b7 b8 b9 b10 b11 b12 b13 b14 b15 b16 = refl
by_tests false false false false false false false true b8 b9 b10 b11 b12 b13 b14 b15 b16 = refl
by_tests false false false false false false false false true b9 b10 b11 b12 b13 b14 b15 b16 = refl
by_tests false false false false false false false false false true b10 b11 b12 b13 b14 b15 b16 = refl
by_tests false false false false false false false false false false true b11 b12 b13 b14 b15 b16 = refl
by_tests false false false false false false false false false false false true b12 b13 b14 b15 b16 = refl
by_tests false false false false false false false false false false false false true b13 b14 b15 b16 = refl
by_tests false false false false false false false false false false false false false true b14 b15 b16 = refl
by_tests false false false false false false false false false false false false false false true b15 b16 = refl
by_tests false false false false false false false false false false false false false false false true b16 = refl
by_tests false false false false false false false false false false false false false false false false true = refl
by_tests false false false false false false false false false false false false false false false false false = refl

not_stand : (c : ℕ) → is_stand (punct_sort c) ≡ false
not_stand c = by_tests (c == 40) (c == 10216) (c == 91) (c == 123) (c == 41) (c == 10217) (c == 93) (c == 125) (c == 8592) (c == 8656) (c == 8617) (c == 8255) (c == 46) (c == 59) (c == 58) (c == 63) (c == 183)

-- a punctuation mark is no operand
pub no_punct : (c : ℕ) → punct_sort c ≡ Stands → ⊥
no_punct c e = false≢true (sym (not_stand c) ∙ ap is_stand e)
