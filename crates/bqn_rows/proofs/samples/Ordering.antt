-- Worked rows of order, computed: each is what `•Show` writes of the expression in front of it, or its fault.
use Rattle.std.proofs.Common.{◌≡◌, [], ◌∷◌, Ok, Err, refl}
use lib.Chars.{codes}
use Rattle.std.specs.Fmt.{digits}
use Rattle.bqn_base.specs.declared.fault.Fault.TheVariants.{Domain, Rank, NoOrder}
use Rattle.bqn_rows.specs.Primitives as p
use Rattle.bqn_rows.proofs.samples.Terms.{number, negative, listed, numbers, text, of, with, with2, written}

-- `∧3‿1`
sort_up_1 : written (of p.and_sign (Ok (numbers (3 ∷ 1 ∷ [])))) ≡ codes "⟨1,3⟩"
unfolding digits
sort_up_1 = refl

-- `∧2‿2⥊3‿1‿1‿2`
sort_up_2 : written (of p.and_sign (with p.reshape (numbers (2 ∷ 2 ∷ [])) (Ok (numbers (3 ∷ 1 ∷ 1 ∷ 2 ∷ []))))) ≡ codes "(2‿2⥊⟨1,2,3,1⟩)"
unfolding digits
sort_up_2 = refl

-- `∧ 3`
sort_up_3 : of p.and_sign (Ok (number 3)) ≡ Err Rank
sort_up_3 = refl

-- `∧" "`
sort_up_4 : written (of p.and_sign (Ok (text (codes " ")))) ≡ codes "\" \""
sort_up_4 = refl

-- `∧⟨1‿2,1⟩`
sort_up_5 : of p.and_sign (Ok (listed ((numbers (1 ∷ 2 ∷ [])) ∷ (number 1) ∷ []))) ≡ Err NoOrder
sort_up_5 = refl

-- `∨1‿3‿2`
sort_down_1 : written (of p.or_sign (Ok (numbers (1 ∷ 3 ∷ 2 ∷ [])))) ≡ codes "⟨3,2,1⟩"
unfolding digits
sort_down_1 = refl

-- `∨ 0`
sort_down_2 : of p.or_sign (Ok (number 0)) ≡ Err Rank
sort_down_2 = refl

-- `∨""""`
sort_down_3 : written (of p.or_sign (Ok (text (codes "\"")))) ≡ codes "\"\"\"\""
sort_down_3 = refl

-- `∨ (2‿0‿2⥊1)`
sort_down_4 : of p.or_sign (with p.reshape (numbers (2 ∷ 0 ∷ 2 ∷ [])) (Ok (number 1))) ≡ Err NoOrder
sort_down_4 = refl

-- `⍋3‿1‿3‿2`
grade_up_1 : written (of p.grade_up (Ok (numbers (3 ∷ 1 ∷ 3 ∷ 2 ∷ [])))) ≡ codes "⟨1,3,0,2⟩"
unfolding digits
grade_up_1 = refl

-- `⍋⟨1,⟨1⟩⟩`
grade_up_2 : of p.grade_up (Ok (listed ((number 1) ∷ (numbers (1 ∷ [])) ∷ []))) ≡ Err NoOrder
grade_up_2 = refl

-- `⍋⟨"ab","a"⟩`
grade_up_3 : written (of p.grade_up (Ok (listed ((text (codes "ab")) ∷ (text (codes "a")) ∷ [])))) ≡ codes "⟨1,0⟩"
unfolding digits
grade_up_3 = refl

-- `⍋ ¯1`
grade_up_4 : of p.grade_up (Ok (negative 1)) ≡ Err Rank
grade_up_4 = refl

-- `⍋ ""`
grade_up_5 : written (of p.grade_up (Ok (text (codes "")))) ≡ codes "(↕0)"
grade_up_5 = refl

-- `1‿3‿5⍋0‿3‿9`
bins_up_1 : written (with p.grade_up (numbers (1 ∷ 3 ∷ 5 ∷ [])) (Ok (numbers (0 ∷ 3 ∷ 9 ∷ [])))) ≡ codes "⟨0,2,3⟩"
unfolding digits
bins_up_1 = refl

-- `2‿1⍋0`
bins_up_2 : with p.grade_up (numbers (2 ∷ 1 ∷ [])) (Ok (number 0)) ≡ Err Domain
bins_up_2 = refl

-- `1‿1‿2⍋1`
bins_up_3 : written (with p.grade_up (numbers (1 ∷ 1 ∷ 2 ∷ [])) (Ok (number 1))) ≡ codes "(<2)"
unfolding digits
bins_up_3 = refl

-- `1 ⍋ "aba"`
bins_up_4 : with p.grade_up (number 1) (Ok (text (codes "aba"))) ≡ Err Rank
bins_up_4 = refl

-- `1‿2⍋⟨⟨1⟩⟩`
bins_up_5 : with p.grade_up (numbers (1 ∷ 2 ∷ [])) (Ok (listed ((numbers (1 ∷ [])) ∷ []))) ≡ Err NoOrder
bins_up_5 = refl

-- `⍒3‿1‿3‿2`
grade_down_1 : written (of p.grade_down (Ok (numbers (3 ∷ 1 ∷ 3 ∷ 2 ∷ [])))) ≡ codes "⟨0,2,3,1⟩"
unfolding digits
grade_down_1 = refl

-- `⍒ 1`
grade_down_2 : of p.grade_down (Ok (number 1)) ≡ Err Rank
grade_down_2 = refl

-- `⍒ (↕0)`
grade_down_3 : written (of p.grade_down (of p.windows (Ok (number 0)))) ≡ codes "(↕0)"
grade_down_3 = refl

-- `⍒ ⟨1,1‿0‿2⟩`
grade_down_4 : of p.grade_down (Ok (listed ((number 1) ∷ (numbers (1 ∷ 0 ∷ 2 ∷ [])) ∷ []))) ≡ Err NoOrder
grade_down_4 = refl

-- `5‿3‿1⍒0‿3‿9`
bins_down_1 : written (with p.grade_down (numbers (5 ∷ 3 ∷ 1 ∷ [])) (Ok (numbers (0 ∷ 3 ∷ 9 ∷ [])))) ≡ codes "⟨3,2,0⟩"
unfolding digits
bins_down_1 = refl

-- `¯2 ⍒ ¯2`
bins_down_2 : with p.grade_down (negative 2) (Ok (negative 2)) ≡ Err Rank
bins_down_2 = refl

-- `(2‿2⥊↕4) ⍒ ""`
bins_down_3 : with2 p.grade_down (with p.reshape (numbers (2 ∷ 2 ∷ [])) (of p.windows (Ok (number 4)))) (Ok (text (codes ""))) ≡ Err Domain
bins_down_3 = refl

-- `2‿1⍒⟨⟨1⟩⟩`
bins_down_4 : with p.grade_down (numbers (2 ∷ 1 ∷ [])) (Ok (listed ((numbers (1 ∷ [])) ∷ []))) ≡ Err NoOrder
bins_down_4 = refl
