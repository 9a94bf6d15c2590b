-- The names that words spell.
use Rattle.std.proofs.Common.{◌≡◌, ◌≤◌, ◌+◌, ℕ, suc, List, [], ◌∷◌, Bool, true, false, length, refl, ap, ◌∙◌, arith}
use Rattle.std.specs.Prelude.{cond, not, ◌==◌, ◌&&◌, if◌then◌else◌, map, filter}
use Rattle.std.specs.List.{list_all}
use Rattle.std.proofs.lemmas.Bool.Decides.{nat_tests}
use Rattle.bqn_base.specs.Names.{is_name_character as is_plain}
use Rattle.bqn_base.specs.Characters.{is_upper, is_lower, is_letter}
use Rattle.bqn_syntax.specs.text.Fitting as fit
use Rattle.bqn_syntax.specs.text.Words.{begins_with_letter, is_name_character, lower_case, name_of}

pub both-left : (a b : Bool) → (a && b) ≡ true → a ≡ true
both-left true b e = refl
both-left false b e = e

pub both-right : (a b : Bool) → (a && b) ≡ true → b ≡ true
both-right true b e = e
both-right false b e = cc

-- a character and the others of a word, as its name has them
abbrev named : Bool → ℕ → List ℕ → List ℕ
named under c cs = map lower_case (cond (not under) (c ∷ filter (λ d. not (d == 95)) cs) (filter (λ d. not (d == 95)) cs))

lower_case-plain : (c : ℕ) → is_name_character c ≡ true → (c == 95) ≡ false → is_plain (lower_case c) ≡ true
lower_case-plain c is other = at (is_upper c) refl
  where
    at : (upper : Bool) → is_upper c ≡ upper → is_plain (if upper then c + 32 else c) ≡ true
    at true e = grind (arith, nat_tests)
    at false e = grind (arith, nat_tests)

pub plain-name_of : (word : List ℕ) → list_all is_name_character word ≡ true → list_all is_plain (name_of word) ≡ true
plain-name_of [] is = refl
plain-name_of (c ∷ cs) is = at (c == 95) refl (plain-name_of cs (both-right (is_name_character c) (list_all is_name_character cs) is))
  where
    at : (under : Bool) → (c == 95) ≡ under → list_all is_plain (name_of cs) ≡ true → list_all is_plain (named under c cs) ≡ true
    at true e rest = rest
    at false e rest = ap (λ (b : Bool). b && list_all is_plain (name_of cs)) (lower_case-plain c (both-left (is_name_character c) (list_all is_name_character cs) is) e) ∙ rest

lower_case-lower : (c : ℕ) → is_letter c ≡ true → is_lower (lower_case c) ≡ true
lower_case-lower c is = at (is_upper c) refl
  where
    at : (upper : Bool) → is_upper c ≡ upper → is_lower (if upper then c + 32 else c) ≡ true
    at true e = grind (arith, nat_tests)
    at false e = grind (arith, nat_tests)

pub name_of-begins : (word : List ℕ) → begins_with_letter word ≡ true → fit.begins_with_letter (name_of word) ≡ true
name_of-begins [] is = is
name_of-begins (c ∷ cs) is = at (c == 95) is (name_of-begins cs)
  where
    at : (under : Bool) → (elim under as (λ _. Bool) [ true ↦ begins_with_letter cs | false ↦ is_letter c ]) ≡ true → (begins_with_letter cs ≡ true → fit.begins_with_letter (name_of cs) ≡ true) → fit.begins_with_letter (named under c cs) ≡ true
    at true is rest = rest is
    at false is rest = lower_case-lower c is

pub length-name_of : (word : List ℕ) → length (name_of word) ≤ length word
length-name_of [] = omega arith
length-name_of (c ∷ cs) = at (c == 95) (length-name_of cs)
  where
    at : (under : Bool) → length (name_of cs) ≤ length cs → length (named under c cs) ≤ suc (length cs)
    at true le = omega arith
    at false le = omega arith
