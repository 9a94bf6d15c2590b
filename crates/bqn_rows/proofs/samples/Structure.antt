-- Worked rows of structure, computed: each is what `•Show` writes of the expression in front of it, or its fault.
use Rattle.std.proofs.Common.{◌≡◌, [], ◌∷◌, Ok, Err, refl}
use lib.Chars.{codes}
use Rattle.std.specs.Fmt.{digits}
use Rattle.bqn_base.specs.declared.fault.Fault.TheVariants.{Domain, Rank, Length, LeftOut, TooLarge, Assert, NoCompare}
use Rattle.bqn_rows.specs.Plain.{Given}
use Rattle.bqn_rows.specs.Primitives as p
use Rattle.bqn_rows.proofs.samples.Terms.{number, negative, character, listed, numbers, no_list, text, of, with, with2, written}

-- `<2`
enclose_1 : written (of p.less (Ok (number 2))) ≡ codes "(<2)"
unfolding digits
enclose_1 = refl

-- `>⟨1‿2,3‿4⟩`
merge_1 : written (of p.greater (Ok (listed ((numbers (1 ∷ 2 ∷ [])) ∷ (numbers (3 ∷ 4 ∷ [])) ∷ [])))) ≡ codes "(2‿2⥊⟨1,2,3,4⟩)"
unfolding digits
merge_1 = refl

-- `>⟨"",""⟩`
merge_2 : written (of p.greater (Ok (listed ((text (codes "")) ∷ (text (codes "")) ∷ [])))) ≡ codes "(2‿0⥊(0↑⟨\"\"⟩))"
unfolding digits
merge_2 = refl

-- `>⟨1,⟨2⟩⟩`
merge_3 : of p.greater (Ok (listed ((number 1) ∷ (numbers (2 ∷ [])) ∷ []))) ≡ Err Length
merge_3 = refl

-- `>5`
merge_4 : written (of p.greater (Ok (number 5))) ≡ codes "5"
unfolding digits
merge_4 = refl

-- `>↕2‿2`
merge_5 : written (of p.greater (of p.windows (Ok (numbers (2 ∷ 2 ∷ []))))) ≡ codes "(2‿2‿2⥊⟨0,0,0,1,1,0,1,1⟩)"
unfolding digits
merge_5 = refl

-- `> "ab"`
merge_6 : written (of p.greater (Ok (text (codes "ab")))) ≡ codes "\"ab\""
merge_6 = refl

-- `≠5`
length_1 : written (of p.unequal (Ok (number 5))) ≡ codes "1"
unfolding digits
length_1 = refl

-- `=2‿2⥊1`
rank_1 : written (of p.equal (with p.reshape (numbers (2 ∷ 2 ∷ [])) (Ok (number 1)))) ≡ codes "2"
unfolding digits
rank_1 = refl

-- `= 3`
rank_2 : written (of p.equal (Ok (number 3))) ≡ codes "0"
unfolding digits
rank_2 = refl

-- `=[5‿11‿5,⟨6⟩]`
rank_3 : of p.equal (of p.greater (Ok (listed ((numbers (5 ∷ 11 ∷ 5 ∷ [])) ∷ (numbers (6 ∷ [])) ∷ [])))) ≡ Err Length
rank_3 = refl

-- `≡⟨1,⟨2⟩⟩`
depth_1 : written (of p.match (Ok (listed ((number 1) ∷ (numbers (2 ∷ [])) ∷ [])))) ≡ codes "2"
unfolding digits
depth_1 = refl

-- `≡ 2`
depth_2 : written (of p.match (Ok (number 2))) ≡ codes "0"
unfolding digits
depth_2 = refl

-- `1≡65`
match_1 : written (with p.match (number 1) (Ok (number 65))) ≡ codes "0"
unfolding digits
match_1 = refl

-- `⟨+⟩≡⟨-⟩`
match_2 : with p.match (listed ((Given 0) ∷ [])) (Ok (listed ((Given 1) ∷ []))) ≡ Err NoCompare
match_2 = refl

-- `≢2‿3⥊0`
shape_1 : written (of p.not_match (with p.reshape (numbers (2 ∷ 3 ∷ [])) (Ok (number 0)))) ≡ codes "⟨2,3⟩"
unfolding digits
shape_1 = refl

-- `≢4`
shape_2 : written (of p.not_match (Ok (number 4))) ≡ codes "(↕0)"
shape_2 = refl

-- `2 ≢ ⟨0⟩`
not_match_1 : written (with p.not_match (number 2) (Ok (numbers (0 ∷ [])))) ≡ codes "1"
unfolding digits
not_match_1 = refl

-- `⟨+⟩≢⟨-⟩`
not_match_2 : with p.not_match (listed ((Given 0) ∷ [])) (Ok (listed ((Given 1) ∷ []))) ≡ Err NoCompare
not_match_2 = refl

-- `⥊<5`
deshape_1 : written (of p.reshape (of p.less (Ok (number 5)))) ≡ codes "⟨5⟩"
unfolding digits
deshape_1 = refl

-- `⥊ 3`
deshape_2 : written (of p.reshape (Ok (number 3))) ≡ codes "⟨3⟩"
unfolding digits
deshape_2 = refl

-- `⥊ ⟨⟩`
deshape_3 : written (of p.reshape (Ok no_list)) ≡ codes "⟨⟩"
deshape_3 = refl

-- `⥊ '''`
deshape_4 : written (of p.reshape (Ok (character (codes "'")))) ≡ codes "\"'\""
deshape_4 = refl

-- `2‿3⥊⟨⟩`
reshape_1 : with p.reshape (numbers (2 ∷ 3 ∷ [])) (Ok no_list) ≡ Err Length
reshape_1 = refl

-- `0⥊"ab"`
reshape_2 : written (with p.reshape (number 0) (Ok (text (codes "ab")))) ≡ codes "\"\""
reshape_2 = refl

-- `2‿0⥊"ab"`
reshape_3 : written (with p.reshape (numbers (2 ∷ 0 ∷ [])) (Ok (text (codes "ab")))) ≡ codes "(2‿0⥊\"\")"
unfolding digits
reshape_3 = refl

-- `1‿5000000⥊1`
reshape_4 : with p.reshape (numbers (1 ∷ 5000000 ∷ [])) (Ok (number 1)) ≡ Err TooLarge
reshape_4 = refl

-- `(↕⟨⟩) ⥊ 2‿2`
reshape_5 : with2 p.reshape (of p.windows (Ok no_list)) (Ok (numbers (2 ∷ 2 ∷ []))) ≡ Err Domain
reshape_5 = refl

-- `(0‿2⥊"") ⥊ 0`
reshape_6 : with2 p.reshape (with p.reshape (numbers (0 ∷ 2 ∷ [])) (Ok (text (codes "")))) (Ok (number 0)) ≡ Err Rank
reshape_6 = refl

-- `1‿0‿2 ⥊ "ab"`
reshape_7 : written (with p.reshape (numbers (1 ∷ 0 ∷ 2 ∷ [])) (Ok (text (codes "ab")))) ≡ codes "(1‿0‿2⥊\"\")"
unfolding digits
reshape_7 = refl

-- `∾"ab"‿"c"`
join_1 : written (of p.join (Ok (listed ((text (codes "ab")) ∷ (text (codes "c")) ∷ [])))) ≡ codes "\"abc\""
join_1 = refl

-- `∾⟨"",""⟩`
join_2 : written (of p.join (Ok (listed ((text (codes "")) ∷ (text (codes "")) ∷ [])))) ≡ codes "\"\""
join_2 = refl

-- `∾⟨""⟩`
join_3 : written (of p.join (Ok (listed ((text (codes "")) ∷ [])))) ≡ codes "\"\""
join_3 = refl

-- `∾⟨1,2‿3,4⟩`
join_4 : written (of p.join (Ok (listed ((number 1) ∷ (numbers (2 ∷ 3 ∷ [])) ∷ (number 4) ∷ [])))) ≡ codes "⟨1,2,3,4⟩"
unfolding digits
join_4 = refl

-- `∾5`
join_5 : of p.join (Ok (number 5)) ≡ Err LeftOut
join_5 = refl

-- `1∾2‿3`
join_to_1 : written (with p.join (number 1) (Ok (numbers (2 ∷ 3 ∷ [])))) ≡ codes "⟨1,2,3⟩"
unfolding digits
join_to_1 = refl

-- `""∾⟨⟩`
join_to_2 : written (with p.join (text (codes "")) (Ok no_list)) ≡ codes "⟨⟩"
join_to_2 = refl

-- `(2‿2⥊1)∾3‿4`
join_to_3 : written (with2 p.join (with p.reshape (numbers (2 ∷ 2 ∷ [])) (Ok (number 1))) (Ok (numbers (3 ∷ 4 ∷ [])))) ≡ codes "(3‿2⥊⟨1,1,1,1,3,4⟩)"
unfolding digits
join_to_3 = refl

-- `(2‿2⥊1)∾5`
join_to_4 : with2 p.join (with p.reshape (numbers (2 ∷ 2 ∷ [])) (Ok (number 1))) (Ok (number 5)) ≡ Err Rank
join_to_4 = refl

-- `"é"∾"c"`
join_to_5 : written (with p.join (text (codes "é")) (Ok (text (codes "c")))) ≡ codes "\"éc\""
join_to_5 = refl

-- `("""")∾¯2⥊"  "`
join_to_6 : with p.join (text (codes "\"")) (with p.reshape (negative 2) (Ok (text (codes "  ")))) ≡ Err Domain
join_to_6 = refl

-- `(2‿3⥊↕6) ∾ 0‿1`
join_to_7 : with2 p.join (with p.reshape (numbers (2 ∷ 3 ∷ [])) (of p.windows (Ok (number 6)))) (Ok (numbers (0 ∷ 1 ∷ []))) ≡ Err Length
join_to_7 = refl

-- `≍5`
solo_1 : written (of p.couple (Ok (number 5))) ≡ codes "⟨5⟩"
unfolding digits
solo_1 = refl

-- `≍ ""`
solo_2 : written (of p.couple (Ok (text (codes "")))) ≡ codes "(1‿0⥊\"\")"
unfolding digits
solo_2 = refl

-- `≍ '''`
solo_3 : written (of p.couple (Ok (character (codes "'")))) ≡ codes "\"'\""
solo_3 = refl

-- `≍2‿2⥊""""`
solo_4 : written (of p.couple (with p.reshape (numbers (2 ∷ 2 ∷ [])) (Ok (text (codes "\""))))) ≡ codes "(1‿2‿2⥊\"\"\"\"\"\"\"\"\"\")"
unfolding digits
solo_4 = refl

-- `≍"a" < 0‿1‿1‿2`
solo_5 : of p.couple (with p.less (text (codes "a")) (Ok (numbers (0 ∷ 1 ∷ 1 ∷ 2 ∷ [])))) ≡ Err Length
solo_5 = refl

-- `1‿2≍3‿4`
couple_1 : written (with p.couple (numbers (1 ∷ 2 ∷ [])) (Ok (numbers (3 ∷ 4 ∷ [])))) ≡ codes "(2‿2⥊⟨1,2,3,4⟩)"
unfolding digits
couple_1 = refl

-- `(2‿2⥊1)≍3`
couple_2 : with2 p.couple (with p.reshape (numbers (2 ∷ 2 ∷ [])) (Ok (number 1))) (Ok (number 3)) ≡ Err Length
couple_2 = refl

-- `⋈5`
enlist_1 : written (of p.pair (Ok (number 5))) ≡ codes "⟨5⟩"
unfolding digits
enlist_1 = refl

-- `1⋈2`
pair_1 : written (with p.pair (number 1) (Ok (number 2))) ≡ codes "⟨1,2⟩"
unfolding digits
pair_1 = refl

-- `!1`
assert_1 : written (of p.assert (Ok (number 1))) ≡ codes "1"
unfolding digits
assert_1 = refl

-- `!0`
assert_2 : of p.assert (Ok (number 0)) ≡ Err (Assert [])
assert_2 = refl

-- `1!2`
assert_with_1 : with p.assert (number 1) (Ok (number 2)) ≡ Err (Assert (codes "1"))
unfolding digits
assert_with_1 = refl
