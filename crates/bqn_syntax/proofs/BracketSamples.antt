-- Partners of brackets and refusals of brackets, computed.
use Rattle.std.proofs.Common.{◌≡◌, ℕ, zero, suc, List, [], ◌∷◌, ◌++◌, Ok, Err, Result, refl}
use Rattle.std.specs.Prelude.{replicate}
use lib.Chars.{codes}
use Rattle.bqn_base.specs.declared.place.Place.{Place}
use Rattle.bqn_base.specs.declared.refusal.Refusal.{Refusal}
use Rattle.bqn_base.specs.declared.refusal.Refusal.TheVariants.{Bracket, TooNested}
use Rattle.bqn_syntax.specs.text.Tokens.{tokens_of_text}
use Rattle.bqn_syntax.specs.grammar.Brackets.{partners_of}

abbrev at : ℕ → ℕ → Place
at line column = record { line = line; column = column }

-- the partners of the tokens of a text
abbrev partners : List ℕ → Result (List ℕ) Refusal
partners text = elim (tokens_of_text text) [ Ok tokens ↦ partners_of tokens | Err r ↦ Err r ]

nothing : partners [] ≡ Ok []
nothing = refl

none_open : partners (codes "1)") ≡ Err (Bracket (at 1 2))
none_open = refl

never_closed : partners (codes "(1") ≡ Err (Bracket (at 1 1))
never_closed = refl

-- the innermost one that is open at the end
innermost_open : partners (codes "(\n[1") ≡ Err (Bracket (at 2 1))
innermost_open = refl

crossed : partners (codes "([)]") ≡ Err (Bracket (at 1 3))
crossed = refl

other_kind : partners (codes "⟨1]") ≡ Err (Bracket (at 1 3))
other_kind = refl

parentheses : partners (codes "(a)") ≡ Ok (2 ∷ 1 ∷ 0 ∷ [])
parentheses = refl

side_by_side : partners (codes "⟨1⟩{2}") ≡ Ok (2 ∷ 1 ∷ 0 ∷ 5 ∷ 4 ∷ 3 ∷ [])
side_by_side = refl

within : partners (codes "[(),a]") ≡ Ok (5 ∷ 2 ∷ 1 ∷ 3 ∷ 4 ∷ 0 ∷ [])
within = refl

-- a bracket in a literal is none
quoted : partners (codes "')'") ≡ Ok (0 ∷ [])
quoted = refl

too_nested : partners (replicate 129 40) ≡ Err (TooNested (at 1 129))
too_nested = refl

-- from so many less 1 down to 0
abbrev downward : ℕ → List ℕ
downward zero = []
downward (suc n) = n ∷ downward n

deepest : partners (replicate 128 40 ++ replicate 128 41) ≡ Ok (downward 256)
deepest = refl
