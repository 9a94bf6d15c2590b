-- Worked rows of search, and of groups, computed: each is what `•Show` writes of the expression in front of it, or its fault.
use Rattle.std.proofs.Common.{◌≡◌, [], ◌∷◌, Ok, Err, refl}
use lib.Chars.{codes}
use Rattle.std.specs.Fmt.{digits}
use Rattle.bqn_base.specs.declared.fault.Fault.TheVariants.{Domain, Rank, Length, LeftOut, NoCompare}
use Rattle.bqn_rows.specs.Plain.{Given}
use Rattle.bqn_rows.specs.Primitives as p
use Rattle.bqn_rows.proofs.samples.Terms.{number, negative, character, listed, numbers, no_list, text, of, with, with2, written}

-- `⊐"aba"`
classify_1 : written (of p.index_of (Ok (text (codes "aba")))) ≡ codes "⟨0,1,0⟩"
unfolding digits
classify_1 = refl

-- `⊐"abac"`
classify_2 : written (of p.index_of (Ok (text (codes "abac")))) ≡ codes "⟨0,1,0,2⟩"
unfolding digits
classify_2 = refl

-- `⊐ (<'a')`
classify_3 : of p.index_of (of p.less (Ok (character (codes "a")))) ≡ Err Rank
classify_3 = refl

-- `⊐⟨+,-⟩`
classify_4 : of p.index_of (Ok (listed ((Given 0) ∷ (Given 1) ∷ []))) ≡ Err NoCompare
classify_4 = refl

-- `"abc"⊐'c'`
index_of_1 : written (with p.index_of (text (codes "abc")) (Ok (character (codes "c")))) ≡ codes "(<2)"
unfolding digits
index_of_1 = refl

-- `(2‿2⥊1‿2‿3‿4)⊐3‿4`
index_of_2 : written (with2 p.index_of (with p.reshape (numbers (2 ∷ 2 ∷ [])) (Ok (numbers (1 ∷ 2 ∷ 3 ∷ 4 ∷ [])))) (Ok (numbers (3 ∷ 4 ∷ [])))) ≡ codes "(<1)"
unfolding digits
index_of_2 = refl

-- `5⊐1`
index_of_3 : with p.index_of (number 5) (Ok (number 1)) ≡ Err Rank
index_of_3 = refl

-- `"aba" ⊐ ⟨⟩`
index_of_4 : written (with p.index_of (text (codes "aba")) (Ok no_list)) ≡ codes "(↕0)"
index_of_4 = refl

-- `"a" ⊐ (2‿0‿2⥊1)`
index_of_5 : written (with p.index_of (text (codes "a")) (with p.reshape (numbers (2 ∷ 0 ∷ 2 ∷ [])) (Ok (number 1)))) ≡ codes "(2‿0‿2⥊(↕0))"
unfolding digits
index_of_5 = refl

-- `⟨+⟩⊐⟨-⟩`
index_of_6 : with p.index_of (listed ((Given 0) ∷ [])) (Ok (listed ((Given 1) ∷ []))) ≡ Err NoCompare
index_of_6 = refl

-- `⊒"abab"`
occurrence_1 : written (of p.progressive (Ok (text (codes "abab")))) ≡ codes "⟨0,0,1,1⟩"
unfolding digits
occurrence_1 = refl

-- `⊒0/10‿2`
occurrence_2 : written (of p.progressive (with p.slash (number 0) (Ok (numbers (10 ∷ 2 ∷ []))))) ≡ codes "(↕0)"
occurrence_2 = refl

-- `⊒⟨+,-⟩`
occurrence_3 : of p.progressive (Ok (listed ((Given 0) ∷ (Given 1) ∷ []))) ≡ Err NoCompare
occurrence_3 = refl

-- `⊒1`
occurrence_4 : of p.progressive (Ok (number 1)) ≡ Err Rank
occurrence_4 = refl

-- `"aba"⊒"aaab"`
progressive_1 : written (with p.progressive (text (codes "aba")) (Ok (text (codes "aaab")))) ≡ codes "⟨0,2,3,1⟩"
unfolding digits
progressive_1 = refl

-- `"aba" ⊒ 2`
progressive_2 : written (with p.progressive (text (codes "aba")) (Ok (number 2))) ≡ codes "(<3)"
unfolding digits
progressive_2 = refl

-- `(0‿2⥊"") ⊒ 5`
progressive_3 : with2 p.progressive (with p.reshape (numbers (0 ∷ 2 ∷ [])) (Ok (text (codes "")))) (Ok (number 5)) ≡ Err Rank
progressive_3 = refl

-- `⟨56⟩ ⊒ (2‿0‿2⥊1)`
progressive_4 : written (with p.progressive (numbers (56 ∷ [])) (with p.reshape (numbers (2 ∷ 0 ∷ 2 ∷ [])) (Ok (number 1)))) ≡ codes "(2‿0‿2⥊(↕0))"
unfolding digits
progressive_4 = refl

-- `⟨+⟩⊒⟨-⟩`
progressive_5 : with p.progressive (listed ((Given 0) ∷ [])) (Ok (listed ((Given 1) ∷ []))) ≡ Err NoCompare
progressive_5 = refl

-- `∊"abac"`
mark_firsts_1 : written (of p.member (Ok (text (codes "abac")))) ≡ codes "⟨1,1,0,1⟩"
unfolding digits
mark_firsts_1 = refl

-- `∊ ""`
mark_firsts_2 : written (of p.member (Ok (text (codes "")))) ≡ codes "(↕0)"
mark_firsts_2 = refl

-- `∊⟨+,-⟩`
mark_firsts_3 : of p.member (Ok (listed ((Given 0) ∷ (Given 1) ∷ []))) ≡ Err NoCompare
mark_firsts_3 = refl

-- `∊1`
mark_firsts_4 : of p.member (Ok (number 1)) ≡ Err Rank
mark_firsts_4 = refl

-- `"ax"∊"abc"`
member_1 : written (with p.member (text (codes "ax")) (Ok (text (codes "abc")))) ≡ codes "⟨1,0⟩"
unfolding digits
member_1 = refl

-- `3 ∊ (↕⟨⟩)`
member_2 : with p.member (number 3) (of p.windows (Ok no_list)) ≡ Err Rank
member_2 = refl

-- `(2‿0⥊0) ∊ "a"`
member_3 : written (with2 p.member (with p.reshape (numbers (2 ∷ 0 ∷ [])) (Ok (number 0))) (Ok (text (codes "a")))) ≡ codes "(2‿0⥊(↕0))"
unfolding digits
member_3 = refl

-- `⟨+⟩∊⟨-⟩`
member_4 : with p.member (listed ((Given 0) ∷ [])) (Ok (listed ((Given 1) ∷ []))) ≡ Err NoCompare
member_4 = refl

-- `⍷"abac"`
deduplicate_1 : written (of p.find (Ok (text (codes "abac")))) ≡ codes "\"abc\""
deduplicate_1 = refl

-- `⍷3‿0`
deduplicate_2 : written (of p.find (Ok (numbers (3 ∷ 0 ∷ [])))) ≡ codes "⟨3,0⟩"
unfolding digits
deduplicate_2 = refl

-- `⍷⟨+,-⟩`
deduplicate_3 : of p.find (Ok (listed ((Given 0) ∷ (Given 1) ∷ []))) ≡ Err NoCompare
deduplicate_3 = refl

-- `⍷1`
deduplicate_4 : of p.find (Ok (number 1)) ≡ Err Rank
deduplicate_4 = refl

-- `"ab"⍷"abab"`
find_1 : written (with p.find (text (codes "ab")) (Ok (text (codes "abab")))) ≡ codes "⟨1,0,1⟩"
unfolding digits
find_1 = refl

-- `"ab"⍷5`
find_2 : with p.find (text (codes "ab")) (Ok (number 5)) ≡ Err LeftOut
find_2 = refl

-- `"abc"⍷"ab"`
find_3 : written (with p.find (text (codes "abc")) (Ok (text (codes "ab")))) ≡ codes "(↕0)"
find_3 = refl

-- `'é' ⍷ 3`
find_4 : written (with p.find (character (codes "é")) (Ok (number 3))) ≡ codes "(<0)"
unfolding digits
find_4 = refl

-- `⟨+⟩⍷⟨-⟩`
find_5 : with p.find (listed ((Given 0) ∷ [])) (Ok (listed ((Given 1) ∷ []))) ≡ Err NoCompare
find_5 = refl

-- `⊔1‿0‿1`
group_indices_1 : written (of p.group (Ok (numbers (1 ∷ 0 ∷ 1 ∷ [])))) ≡ codes "⟨⟨1⟩,⟨0,2⟩⟩"
unfolding digits
group_indices_1 = refl

-- `⊔⟨⟩`
group_indices_2 : written (of p.group (Ok no_list)) ≡ codes "(0↑⟨(↕0)⟩)"
unfolding digits
group_indices_2 = refl

-- `⊔2`
group_indices_3 : of p.group (Ok (number 2)) ≡ Err Rank
group_indices_3 = refl

-- `⊔⟨2⟩`
group_indices_4 : written (of p.group (Ok (numbers (2 ∷ [])))) ≡ codes "⟨(↕0),(↕0),⟨0⟩⟩"
unfolding digits
group_indices_4 = refl

-- `⊔ "aba"`
group_indices_5 : of p.group (Ok (text (codes "aba"))) ≡ Err Domain
group_indices_5 = refl

-- `¯1‿0‿1‿0⊔"abcd"`
group_1 : written (with p.group (listed ((negative 1) ∷ (number 0) ∷ (number 1) ∷ (number 0) ∷ [])) (Ok (text (codes "abcd")))) ≡ codes "⟨\"bd\",\"c\"⟩"
group_1 = refl

-- `¯1‿¯1⊔"ab"`
group_2 : written (with p.group (listed ((negative 1) ∷ (negative 1) ∷ [])) (Ok (text (codes "ab")))) ≡ codes "(0↑⟨\"\"⟩)"
unfolding digits
group_2 = refl

-- `0‿1⊔"abc"`
group_3 : with p.group (numbers (0 ∷ 1 ∷ [])) (Ok (text (codes "abc"))) ≡ Err Length
group_3 = refl

-- `⟨' '," "⟩ ⊔ 0`
group_4 : with p.group (listed ((character (codes " ")) ∷ (text (codes " ")) ∷ [])) (Ok (number 0)) ≡ Err Rank
group_4 = refl

-- `⟨0,⟨1⟩⟩⊔"ab"`
group_5 : with p.group (listed ((number 0) ∷ (numbers (1 ∷ [])) ∷ [])) (Ok (text (codes "ab"))) ≡ Err LeftOut
group_5 = refl

-- `0‿¯2⊔"ab"`
group_6 : with p.group (listed ((number 0) ∷ (negative 2) ∷ [])) (Ok (text (codes "ab"))) ≡ Err Domain
group_6 = refl
