-- Worked rows of arithmetic and comparison on arrays, computed: each is what `•Show` writes of the expression in front of it, or its fault.
use Rattle.std.proofs.Common.{◌≡◌, [], ◌∷◌, Ok, Err, refl}
use lib.Chars.{codes}
use Rattle.std.specs.Fmt.{digits}
use Rattle.bqn_base.specs.declared.fault.Fault.TheVariants.{Domain, Length, NotWhole, DivideByZero, CharRange, Overflow, NoCompare}
use Rattle.bqn_rows.specs.Plain.{Given}
use Rattle.bqn_rows.specs.Primitives as p
use Rattle.bqn_rows.proofs.samples.Terms.{number, negative, character, listed, numbers, no_list, text, of, with, with2, written}

-- `+ 4`
plus_alone_1 : written (of p.plus (Ok (number 4))) ≡ codes "4"
unfolding digits
plus_alone_1 = refl

-- `+ 'é'`
plus_alone_2 : of p.plus (Ok (character (codes "é"))) ≡ Err Domain
plus_alone_2 = refl

-- `+ (↕0‿2)`
plus_alone_3 : written (of p.plus (of p.windows (Ok (numbers (0 ∷ 2 ∷ []))))) ≡ codes "(0‿2⥊(0↑⟨⟨0,0⟩⟩))"
unfolding digits
plus_alone_3 = refl

-- `+ (2‿2‿2⥊↕8)`
plus_alone_4 : written (of p.plus (with p.reshape (numbers (2 ∷ 2 ∷ 2 ∷ [])) (of p.windows (Ok (number 8))))) ≡ codes "(2‿2‿2⥊⟨0,1,2,3,4,5,6,7⟩)"
unfolding digits
plus_alone_4 = refl

-- `1+↕0`
plus_1 : written (with p.plus (number 1) (of p.windows (Ok (number 0)))) ≡ codes "(↕0)"
plus_1 = refl

-- `1‿2+1‿2‿3`
plus_2 : with p.plus (numbers (1 ∷ 2 ∷ [])) (Ok (numbers (1 ∷ 2 ∷ 3 ∷ []))) ≡ Err Length
plus_2 = refl

-- `(2‿2⥊↕4)+10‿20`
plus_3 :
    written (with2 p.plus (with p.reshape (numbers (2 ∷ 2 ∷ [])) (of p.windows (Ok (number 4)))) (Ok (numbers (10 ∷ 20 ∷ []))))
    ≡ codes "(2‿2⥊⟨10,11,22,23⟩)"
unfolding digits
plus_3 = refl

-- `0+""`
plus_4 : written (with p.plus (number 0) (Ok (text (codes "")))) ≡ codes "\"\""
plus_4 = refl

-- `2 + 'z'`
plus_5 : written (with p.plus (number 2) (Ok (character (codes "z")))) ≡ codes "'|'"
plus_5 = refl

-- `'a'+¯98‿1`
plus_6 : with p.plus (character (codes "a")) (Ok (listed ((negative 98) ∷ (number 1) ∷ []))) ≡ Err CharRange
plus_6 = refl

-- `"a"+"b"`
plus_7 : with p.plus (text (codes "a")) (Ok (text (codes "b"))) ≡ Err Domain
plus_7 = refl

-- `9223372036854775807+⟨1⟩`
plus_8 : with p.plus (number 9223372036854775807) (Ok (numbers (1 ∷ []))) ≡ Err Overflow
plus_8 = refl

-- `- ¯2`
minus_alone_1 : written (of p.minus (Ok (negative 2))) ≡ codes "2"
unfolding digits
minus_alone_1 = refl

-- `- ""`
minus_alone_2 : written (of p.minus (Ok (text (codes "")))) ≡ codes "⟨⟩"
minus_alone_2 = refl

-- `- "a"`
minus_alone_3 : of p.minus (Ok (text (codes "a"))) ≡ Err Domain
minus_alone_3 = refl

-- `1-1‿⟨2,'a'⟩`
minus_1 : with p.minus (number 1) (Ok (listed ((number 1) ∷ (listed ((number 2) ∷ (character (codes "a")) ∷ [])) ∷ []))) ≡ Err Domain
minus_1 = refl

-- `0‿1 - ¯181`
minus_2 : written (with p.minus (numbers (0 ∷ 1 ∷ [])) (Ok (negative 181))) ≡ codes "⟨181,182⟩"
unfolding digits
minus_2 = refl

-- `''' - (↕0)`
minus_3 : written (with p.minus (character (codes "'")) (of p.windows (Ok (number 0)))) ≡ codes "\"\""
minus_3 = refl

-- `"  " - (1‿2⥊5)`
minus_4 : with p.minus (text (codes "  ")) (with p.reshape (numbers (1 ∷ 2 ∷ [])) (Ok (number 5))) ≡ Err Length
minus_4 = refl

-- `¯9223372036854775808-⟨1⟩`
minus_5 : with p.minus (negative 9223372036854775808) (Ok (numbers (1 ∷ []))) ≡ Err Overflow
minus_5 = refl

-- `× 2`
times_alone_1 : written (of p.times (Ok (number 2))) ≡ codes "1"
unfolding digits
times_alone_1 = refl

-- `× ⟨⟩`
times_alone_2 : written (of p.times (Ok no_list)) ≡ codes "⟨⟩"
times_alone_2 = refl

-- `× "b"`
times_alone_3 : of p.times (Ok (text (codes "b"))) ≡ Err Domain
times_alone_3 = refl

-- `0 × ¯3`
times_1 : written (with p.times (number 0) (Ok (negative 3))) ≡ codes "0"
unfolding digits
times_1 = refl

-- `0‿1‿1‿2 × '𝕩'`
times_2 : with p.times (numbers (0 ∷ 1 ∷ 1 ∷ 2 ∷ [])) (Ok (character (codes "𝕩"))) ≡ Err Domain
times_2 = refl

-- `465 × (2‿0⥊0)`
times_3 : written (with p.times (number 465) (with p.reshape (numbers (2 ∷ 0 ∷ [])) (Ok (number 0)))) ≡ codes "(2‿0⥊(↕0))"
unfolding digits
times_3 = refl

-- `⟨⟨⟩⟩ × ⟨0,'a'⟩`
times_4 : with p.times (listed (no_list ∷ [])) (Ok (listed ((number 0) ∷ (character (codes "a")) ∷ []))) ≡ Err Length
times_4 = refl

-- `9223372036854775807×⟨2⟩`
times_5 : with p.times (number 9223372036854775807) (Ok (numbers (2 ∷ []))) ≡ Err Overflow
times_5 = refl

-- `÷ 2‿2`
divide_alone_1 : of p.divide (Ok (numbers (2 ∷ 2 ∷ []))) ≡ Err NotWhole
divide_alone_1 = refl

-- `÷ ⟨0⟩`
divide_alone_2 : of p.divide (Ok (numbers (0 ∷ []))) ≡ Err DivideByZero
divide_alone_2 = refl

-- `÷ "aba"`
divide_alone_3 : of p.divide (Ok (text (codes "aba"))) ≡ Err Domain
divide_alone_3 = refl

-- `1÷⟨⟩`
divide_1 : written (with p.divide (number 1) (Ok no_list)) ≡ codes "⟨⟩"
divide_1 = refl

-- `1÷↕0`
divide_2 : written (with p.divide (number 1) (of p.windows (Ok (number 0)))) ≡ codes "⟨⟩"
divide_2 = refl

-- `2÷1‿0`
divide_3 : with p.divide (number 2) (Ok (numbers (1 ∷ 0 ∷ []))) ≡ Err DivideByZero
divide_3 = refl

-- `0÷1`
divide_4 : written (with p.divide (number 0) (Ok (number 1))) ≡ codes "0"
unfolding digits
divide_4 = refl

-- `⟨'é'⟩ ÷ ⟨1⟩`
divide_5 : with p.divide (listed ((character (codes "é")) ∷ [])) (Ok (numbers (1 ∷ []))) ≡ Err Domain
divide_5 = refl

-- `"ab" ÷ (0‿2⥊"")`
divide_6 : with p.divide (text (codes "ab")) (with p.reshape (numbers (0 ∷ 2 ∷ [])) (Ok (text (codes "")))) ≡ Err Length
divide_6 = refl

-- `7÷⟨2⟩`
divide_7 : with p.divide (number 7) (Ok (numbers (2 ∷ []))) ≡ Err NotWhole
divide_7 = refl

-- `⋆ 4`
power_alone_1 : of p.power (Ok (number 4)) ≡ Err NotWhole
power_alone_1 = refl

-- `⋆ 'a'`
power_alone_2 : of p.power (Ok (character (codes "a"))) ≡ Err Domain
power_alone_2 = refl

-- `0⋆1`
power_1 : written (with p.power (number 0) (Ok (number 1))) ≡ codes "0"
unfolding digits
power_1 = refl

-- `⟨0⟩ ⋆ '''`
power_2 : with p.power (numbers (0 ∷ [])) (Ok (character (codes "'"))) ≡ Err Domain
power_2 = refl

-- `"ab" ⋆ ⟨"aba"⟩`
power_3 : with p.power (text (codes "ab")) (Ok (listed ((text (codes "aba")) ∷ []))) ≡ Err Length
power_3 = refl

-- `√ 2`
root_alone_1 : of p.root (Ok (number 2)) ≡ Err NotWhole
root_alone_1 = refl

-- `√ 0`
root_alone_2 : written (of p.root (Ok (number 0))) ≡ codes "0"
unfolding digits
root_alone_2 = refl

-- `√ "ab"`
root_alone_3 : of p.root (Ok (text (codes "ab"))) ≡ Err Domain
root_alone_3 = refl

-- `√ (2‿0⥊0)`
root_alone_4 : written (of p.root (with p.reshape (numbers (2 ∷ 0 ∷ [])) (Ok (number 0)))) ≡ codes "(2‿0⥊(↕0))"
unfolding digits
root_alone_4 = refl

-- `√ (1‿1‿1⥊0)`
root_alone_5 : written (of p.root (with p.reshape (numbers (1 ∷ 1 ∷ 1 ∷ [])) (Ok (number 0)))) ≡ codes "(1‿1‿1⥊⟨0⟩)"
unfolding digits
root_alone_5 = refl

-- `¯1‿0‿1 √ 'a'`
root_1 : with p.root (listed ((negative 1) ∷ (number 0) ∷ (number 1) ∷ [])) (Ok (character (codes "a"))) ≡ Err Domain
root_1 = refl

-- `"a" √ ⟨0,'a'⟩`
root_2 : with p.root (text (codes "a")) (Ok (listed ((number 0) ∷ (character (codes "a")) ∷ []))) ≡ Err Length
root_2 = refl

-- `(0↑⟨⟨⟩⟩) √ ' '`
root_3 : written (with2 p.root (with p.take (number 0) (Ok (listed (no_list ∷ [])))) (Ok (character (codes " ")))) ≡ codes "(0↑⟨⟨⟩⟩)"
unfolding digits
root_3 = refl

-- `107 √ ⟨187,1,3,¯2,145⟩`
root_4 : with p.root (number 107) (Ok (listed ((number 187) ∷ (number 1) ∷ (number 3) ∷ (negative 2) ∷ (number 145) ∷ []))) ≡ Err NotWhole
root_4 = refl

-- `⌊ 5`
floor_alone_1 : written (of p.floor (Ok (number 5))) ≡ codes "5"
unfolding digits
floor_alone_1 = refl

-- `⌊ ⟨⟩`
floor_alone_2 : written (of p.floor (Ok no_list)) ≡ codes "⟨⟩"
floor_alone_2 = refl

-- `⌊ "aba"`
floor_alone_3 : of p.floor (Ok (text (codes "aba"))) ≡ Err Domain
floor_alone_3 = refl

-- `⌊ (2‿0‿2⥊1)`
floor_alone_4 : written (of p.floor (with p.reshape (numbers (2 ∷ 0 ∷ 2 ∷ [])) (Ok (number 1)))) ≡ codes "(2‿0‿2⥊(↕0))"
unfolding digits
floor_alone_4 = refl

-- `3 ⌊ 4`
floor_1 : written (with p.floor (number 3) (Ok (number 4))) ≡ codes "3"
unfolding digits
floor_1 = refl

-- `¯1‿0‿1 ⌊ "a"`
floor_2 : with p.floor (listed ((negative 1) ∷ (number 0) ∷ (number 1) ∷ [])) (Ok (text (codes "a"))) ≡ Err Length
floor_2 = refl

-- `¯1‿0‿1 ⌊ 'a'`
floor_3 : with p.floor (listed ((negative 1) ∷ (number 0) ∷ (number 1) ∷ [])) (Ok (character (codes "a"))) ≡ Err Domain
floor_3 = refl

-- `0 ⌊ (0‿0⥊⟨⟩)`
floor_4 : written (with p.floor (number 0) (with p.reshape (numbers (0 ∷ 0 ∷ [])) (Ok no_list))) ≡ codes "(0‿0⥊⟨⟩)"
unfolding digits
floor_4 = refl

-- `(1‿1‿1⥊0) ⌊ 1`
floor_5 : written (with2 p.floor (with p.reshape (numbers (1 ∷ 1 ∷ 1 ∷ [])) (Ok (number 0))) (Ok (number 1))) ≡ codes "(1‿1‿1⥊⟨0⟩)"
unfolding digits
floor_5 = refl

-- `⌈ 1`
ceiling_alone_1 : written (of p.ceiling (Ok (number 1))) ≡ codes "1"
unfolding digits
ceiling_alone_1 = refl

-- `⌈ "ab"`
ceiling_alone_2 : of p.ceiling (Ok (text (codes "ab"))) ≡ Err Domain
ceiling_alone_2 = refl

-- `¯3 ⌈ 8`
ceiling_1 : written (with p.ceiling (negative 3) (Ok (number 8))) ≡ codes "8"
unfolding digits
ceiling_1 = refl

-- `2 ⌈ " """`
ceiling_2 : with p.ceiling (number 2) (Ok (text (codes " \""))) ≡ Err Domain
ceiling_2 = refl

-- `(0‿2⥊"") ⌈ 2`
ceiling_3 : written (with2 p.ceiling (with p.reshape (numbers (0 ∷ 2 ∷ [])) (Ok (text (codes "")))) (Ok (number 2))) ≡ codes "(0‿2⥊⟨⟩)"
unfolding digits
ceiling_3 = refl

-- `(2‿0⥊0) ⌈ "a"`
ceiling_4 : with2 p.ceiling (with p.reshape (numbers (2 ∷ 0 ∷ [])) (Ok (number 0))) (Ok (text (codes "a"))) ≡ Err Length
ceiling_4 = refl

-- `| 4`
bar_alone_1 : written (of p.bar (Ok (number 4))) ≡ codes "4"
unfolding digits
bar_alone_1 = refl

-- `| ⟨⟩`
bar_alone_2 : written (of p.bar (Ok no_list)) ≡ codes "⟨⟩"
bar_alone_2 = refl

-- `| "a"`
bar_alone_3 : of p.bar (Ok (text (codes "a"))) ≡ Err Domain
bar_alone_3 = refl

-- `¯3|7`
bar_1 : written (with p.bar (negative 3) (Ok (number 7))) ≡ codes "¯2"
unfolding digits
bar_1 = refl

-- `"é " | "ab"`
bar_2 : with p.bar (text (codes "é ")) (Ok (text (codes "ab"))) ≡ Err Domain
bar_2 = refl

-- `(1‿2⥊5) | (0↑⟨⟨⟩⟩)`
bar_3 : with2 p.bar (with p.reshape (numbers (1 ∷ 2 ∷ [])) (Ok (number 5))) (with p.take (number 0) (Ok (listed (no_list ∷ [])))) ≡ Err Length
bar_3 = refl

-- `¬ 3`
not_sign_alone_1 : written (of p.not_sign (Ok (number 3))) ≡ codes "¯2"
unfolding digits
not_sign_alone_1 = refl

-- `¬ "aaéé"`
not_sign_alone_2 : of p.not_sign (Ok (text (codes "aaéé"))) ≡ Err Domain
not_sign_alone_2 = refl

-- `"b" ¬ "a"`
not_sign_1 : written (with p.not_sign (text (codes "b")) (Ok (text (codes "a")))) ≡ codes "⟨2⟩"
unfolding digits
not_sign_1 = refl

-- `⟨0⟩ ¬ "a bé"`
not_sign_2 : with p.not_sign (numbers (0 ∷ [])) (Ok (text (codes "a bé"))) ≡ Err Length
not_sign_2 = refl

-- `(0↑⟨1‿2⟩) ¬ 5`
not_sign_3 : written (with2 p.not_sign (with p.take (number 0) (Ok (listed ((numbers (1 ∷ 2 ∷ [])) ∷ [])))) (Ok (number 5))) ≡ codes "(0↑⟨⟨0,0⟩⟩)"
unfolding digits
not_sign_3 = refl

-- `¯2‿5‿3 ¬ "aba"`
not_sign_4 : with p.not_sign (listed ((negative 2) ∷ (number 5) ∷ (number 3) ∷ [])) (Ok (text (codes "aba"))) ≡ Err Domain
not_sign_4 = refl

-- `5 ∧ 5⋆5`
and_sign_1 : written (with p.and_sign (number 5) (with p.power (number 5) (Ok (number 5)))) ≡ codes "15625"
unfolding digits
and_sign_1 = refl

-- `6‿1‿2∧¯52`
and_sign_2 : written (with p.and_sign (numbers (6 ∷ 1 ∷ 2 ∷ [])) (Ok (negative 52))) ≡ codes "⟨¯312,¯52,¯104⟩"
unfolding digits
and_sign_2 = refl

-- `1 ∧ ⟨0,'a'⟩`
and_sign_3 : with p.and_sign (number 1) (Ok (listed ((number 0) ∷ (character (codes "a")) ∷ []))) ≡ Err Domain
and_sign_3 = refl

-- `''' ∧ (2‿0⥊0)`
and_sign_4 : written (with p.and_sign (character (codes "'")) (with p.reshape (numbers (2 ∷ 0 ∷ [])) (Ok (number 0)))) ≡ codes "(2‿0⥊⟨⟩)"
unfolding digits
and_sign_4 = refl

-- `0‿1‿1‿2 ∧ "a"`
and_sign_5 : with p.and_sign (numbers (0 ∷ 1 ∷ 1 ∷ 2 ∷ [])) (Ok (text (codes "a"))) ≡ Err Length
and_sign_5 = refl

-- `¯71∨⟨¯1⟩`
or_sign_1 : written (with p.or_sign (negative 71) (Ok (listed ((negative 1) ∷ [])))) ≡ codes "⟨¯143⟩"
unfolding digits
or_sign_1 = refl

-- `⟨0⟩ ∨ "a"`
or_sign_2 : with p.or_sign (numbers (0 ∷ [])) (Ok (text (codes "a"))) ≡ Err Domain
or_sign_2 = refl

-- `0 ∨ (0‿2⥊"")`
or_sign_3 : written (with p.or_sign (number 0) (with p.reshape (numbers (0 ∷ 2 ∷ [])) (Ok (text (codes ""))))) ≡ codes "(0‿2⥊⟨⟩)"
unfolding digits
or_sign_3 = refl

-- `⟨0⟩ ∨ (2‿3⥊↕6)`
or_sign_4 : with p.or_sign (numbers (0 ∷ [])) (with p.reshape (numbers (2 ∷ 3 ∷ [])) (of p.windows (Ok (number 6)))) ≡ Err Length
or_sign_4 = refl

-- `3 < 2`
less_1 : written (with p.less (number 3) (Ok (number 2))) ≡ codes "0"
unfolding digits
less_1 = refl

-- `¯1 < ⟨⟩`
less_2 : written (with p.less (negative 1) (Ok no_list)) ≡ codes "⟨⟩"
less_2 = refl

-- `"b" < ⟨⟩`
less_3 : with p.less (text (codes "b")) (Ok no_list) ≡ Err Length
less_3 = refl

-- `⟨+⟩<1`
less_4 : with p.less (listed ((Given 0) ∷ [])) (Ok (number 1)) ≡ Err Domain
less_4 = refl

-- `1 > 'z'`
greater_1 : written (with p.greater (number 1) (Ok (character (codes "z")))) ≡ codes "0"
unfolding digits
greater_1 = refl

-- `"ab" > (0↑⟨⟨⟩⟩)`
greater_2 : with p.greater (text (codes "ab")) (with p.take (number 0) (Ok (listed (no_list ∷ [])))) ≡ Err Length
greater_2 = refl

-- `7 ≠ 1`
unequal_1 : written (with p.unequal (number 7) (Ok (number 1))) ≡ codes "1"
unfolding digits
unequal_1 = refl

-- `(1‿2⥊5) ≠ 2‿2`
unequal_2 : with2 p.unequal (with p.reshape (numbers (1 ∷ 2 ∷ [])) (Ok (number 5))) (Ok (numbers (2 ∷ 2 ∷ []))) ≡ Err Length
unequal_2 = refl

-- `⟨+⟩≠⟨-⟩`
unequal_3 : with p.unequal (listed ((Given 0) ∷ [])) (Ok (listed ((Given 1) ∷ []))) ≡ Err NoCompare
unequal_3 = refl

-- `⟨16381⟩=1`
equal_1 : written (with p.equal (numbers (16381 ∷ [])) (Ok (number 1))) ≡ codes "⟨0⟩"
unfolding digits
equal_1 = refl

-- `⟨0⟩ = 0‿1‿1‿2`
equal_2 : with p.equal (numbers (0 ∷ [])) (Ok (numbers (0 ∷ 1 ∷ 1 ∷ 2 ∷ []))) ≡ Err Length
equal_2 = refl

-- `⟨+⟩=⟨-⟩`
equal_3 : with p.equal (listed ((Given 0) ∷ [])) (Ok (listed ((Given 1) ∷ []))) ≡ Err NoCompare
equal_3 = refl

-- `≤ "ab"`
at_most_alone_1 : of p.at_most (Ok (text (codes "ab"))) ≡ Err Domain
at_most_alone_1 = refl

-- `2 ≤ ¯4`
at_most_1 : written (with p.at_most (number 2) (Ok (negative 4))) ≡ codes "0"
unfolding digits
at_most_1 = refl

-- `"" ≤ 3`
at_most_2 : written (with p.at_most (text (codes "")) (Ok (number 3))) ≡ codes "(↕0)"
at_most_2 = refl

-- `(2‿0‿2⥊1) ≤ ⟨"a"⟩`
at_most_3 : with2 p.at_most (with p.reshape (numbers (2 ∷ 0 ∷ 2 ∷ [])) (Ok (number 1))) (Ok (listed ((text (codes "a")) ∷ []))) ≡ Err Length
at_most_3 = refl

-- `≥ 'b'`
at_least_alone_1 : of p.at_least (Ok (character (codes "b"))) ≡ Err Domain
at_least_alone_1 = refl

-- `0 ≥ "c"`
at_least_1 : written (with p.at_least (number 0) (Ok (text (codes "c")))) ≡ codes "⟨0⟩"
unfolding digits
at_least_1 = refl

-- `¯1‿2605‿120≥4`
at_least_2 : written (with p.at_least (listed ((negative 1) ∷ (number 2605) ∷ (number 120) ∷ [])) (Ok (number 4))) ≡ codes "⟨0,1,1⟩"
unfolding digits
at_least_2 = refl

-- `(0⥊⟨+⟩) ≥ ⟨10,4⟩`
at_least_3 : with2 p.at_least (with p.reshape (number 0) (Ok (listed ((Given 0) ∷ [])))) (Ok (numbers (10 ∷ 4 ∷ []))) ≡ Err Length
at_least_3 = refl
