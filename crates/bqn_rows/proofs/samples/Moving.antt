-- Worked rows of taking, shifting and turning, computed: each is what `•Show` writes of the expression in front of it, or its fault.
use Rattle.std.proofs.Common.{◌≡◌, [], ◌∷◌, Ok, Err, refl}
use lib.Chars.{codes}
use Rattle.std.specs.Fmt.{digits}
use Rattle.bqn_base.specs.declared.fault.Fault.TheVariants.{Domain, Rank, Length, NoFill, TooLarge}
use Rattle.bqn_rows.specs.Plain.{Given}
use Rattle.bqn_rows.specs.Primitives as p
use Rattle.bqn_rows.proofs.samples.Terms.{number, negative, character, listed, numbers, no_list, text, of, with, with2, written}

-- `↑"ab"`
prefixes_1 : written (of p.take (Ok (text (codes "ab")))) ≡ codes "⟨\"\",\"a\",\"ab\"⟩"
prefixes_1 = refl

-- `↑4`
prefixes_2 : of p.take (Ok (number 4)) ≡ Err Rank
prefixes_2 = refl

-- `5↑1‿2`
take_1 : written (with p.take (number 5) (Ok (numbers (1 ∷ 2 ∷ [])))) ≡ codes "⟨1,2,0,0,0⟩"
unfolding digits
take_1 = refl

-- `¯3↑"ab"`
take_2 : written (with p.take (negative 3) (Ok (text (codes "ab")))) ≡ codes "\" ab\""
take_2 = refl

-- `3↑⟨⟩`
take_3 : with p.take (number 3) (Ok no_list) ≡ Err NoFill
take_3 = refl

-- `1‿3↑1‿2`
take_4 : written (with p.take (numbers (1 ∷ 3 ∷ [])) (Ok (numbers (1 ∷ 2 ∷ [])))) ≡ codes "(1‿3⥊⟨1,2,0⟩)"
unfolding digits
take_4 = refl

-- `⟨⟩↑5`
take_5 : written (with p.take no_list (Ok (number 5))) ≡ codes "(<5)"
unfolding digits
take_5 = refl

-- `99999999999↑1`
take_6 : with p.take (number 99999999999) (Ok (number 1)) ≡ Err TooLarge
take_6 = refl

-- `"ab" ↑ ⟨0⟩`
take_7 : with p.take (text (codes "ab")) (Ok (numbers (0 ∷ []))) ≡ Err Domain
take_7 = refl

-- `¯1↑"éé"""""`
take_8 : written (with p.take (negative 1) (Ok (text (codes "éé\"\"")))) ≡ codes "\"\"\"\""
take_8 = refl

-- `(0‿3⥊"a") ↑ 0`
take_9 : with2 p.take (with p.reshape (numbers (0 ∷ 3 ∷ [])) (Ok (text (codes "a")))) (Ok (number 0)) ≡ Err Rank
take_9 = refl

-- `↓"ab"`
suffixes_1 : written (of p.drop (Ok (text (codes "ab")))) ≡ codes "⟨\"ab\",\"b\",\"\"⟩"
suffixes_1 = refl

-- `↓ 4`
suffixes_2 : of p.drop (Ok (number 4)) ≡ Err Rank
suffixes_2 = refl

-- `1↓"abc"`
drop_1 : written (with p.drop (number 1) (Ok (text (codes "abc")))) ≡ codes "\"bc\""
drop_1 = refl

-- `¯1↓"abc"`
drop_2 : written (with p.drop (negative 1) (Ok (text (codes "abc")))) ≡ codes "\"ab\""
drop_2 = refl

-- `5↓1‿2`
drop_3 : written (with p.drop (number 5) (Ok (numbers (1 ∷ 2 ∷ [])))) ≡ codes "(↕0)"
drop_3 = refl

-- `0‿1 ↓ 3`
drop_4 : written (with p.drop (numbers (0 ∷ 1 ∷ [])) (Ok (number 3))) ≡ codes "(1‿0⥊(↕0))"
unfolding digits
drop_4 = refl

-- `"baa" ↓ 3`
drop_5 : with p.drop (text (codes "baa")) (Ok (number 3)) ≡ Err Domain
drop_5 = refl

-- `1‿0‿2 ↓ 0‿1`
drop_6 : written (with p.drop (numbers (1 ∷ 0 ∷ 2 ∷ [])) (Ok (numbers (0 ∷ 1 ∷ [])))) ≡ codes "(0‿1‿0⥊(↕0))"
unfolding digits
drop_6 = refl

-- `(2‿0‿2⥊1) ↓ ""`
drop_7 : with2 p.drop (with p.reshape (numbers (2 ∷ 0 ∷ 2 ∷ [])) (Ok (number 1))) (Ok (text (codes ""))) ≡ Err Rank
drop_7 = refl

-- `↕2‿2`
range_1 : written (of p.windows (Ok (numbers (2 ∷ 2 ∷ [])))) ≡ codes "(2‿2⥊⟨⟨0,0⟩,⟨0,1⟩,⟨1,0⟩,⟨1,1⟩⟩)"
unfolding digits
range_1 = refl

-- `↕⟨⟩`
range_2 : written (of p.windows (Ok no_list)) ≡ codes "(<(↕0))"
range_2 = refl

-- `↕0‿2`
range_3 : written (of p.windows (Ok (numbers (0 ∷ 2 ∷ [])))) ≡ codes "(0‿2⥊(0↑⟨⟨0,0⟩⟩))"
unfolding digits
range_3 = refl

-- `↕5`
range_4 : written (of p.windows (Ok (number 5))) ≡ codes "⟨0,1,2,3,4⟩"
unfolding digits
range_4 = refl

-- `↕ ¯2`
range_5 : of p.windows (Ok (negative 2)) ≡ Err Domain
range_5 = refl

-- `↕1‿2‿1`
range_6 : written (of p.windows (Ok (numbers (1 ∷ 2 ∷ 1 ∷ [])))) ≡ codes "(1‿2‿1⥊⟨⟨0,0,0⟩,⟨0,1,0⟩⟩)"
unfolding digits
range_6 = refl

-- `↕ (2‿1⥊⟨1,'a'⟩)`
range_7 : of p.windows (with p.reshape (numbers (2 ∷ 1 ∷ [])) (Ok (listed ((number 1) ∷ (character (codes "a")) ∷ [])))) ≡ Err Rank
range_7 = refl

-- `↕17⥊1`
range_8 : of p.windows (with p.reshape (number 17) (Ok (number 1))) ≡ Err TooLarge
range_8 = refl

-- `2↕↕4`
windows_1 : written (with p.windows (number 2) (of p.windows (Ok (number 4)))) ≡ codes "(3‿2⥊⟨0,1,1,2,2,3⟩)"
unfolding digits
windows_1 = refl

-- `5↕1‿2`
windows_2 : with p.windows (number 5) (Ok (numbers (1 ∷ 2 ∷ []))) ≡ Err Length
windows_2 = refl

-- `1‿1↕1‿2`
windows_3 : with p.windows (numbers (1 ∷ 1 ∷ [])) (Ok (numbers (1 ∷ 2 ∷ []))) ≡ Err Rank
windows_3 = refl

-- `"ab"↕5`
windows_4 : with p.windows (text (codes "ab")) (Ok (number 5)) ≡ Err Rank
windows_4 = refl

-- `"a"↕1‿2`
windows_5 : with p.windows (text (codes "a")) (Ok (numbers (1 ∷ 2 ∷ []))) ≡ Err Domain
windows_5 = refl

-- `0↕¯4‿¯4‿4`
windows_6 : written (with p.windows (number 0) (Ok (listed ((negative 4) ∷ (negative 4) ∷ (number 4) ∷ [])))) ≡ codes "(4‿0⥊(↕0))"
unfolding digits
windows_6 = refl

-- `3↕(2‿3⥊↕6)`
windows_7 : written (with p.windows (number 3) (with p.reshape (numbers (2 ∷ 3 ∷ [])) (of p.windows (Ok (number 6))))) ≡ codes "(0‿3‿3⥊(↕0))"
unfolding digits
windows_7 = refl

-- `«1‿2`
nudge_back_1 : written (of p.back (Ok (numbers (1 ∷ 2 ∷ [])))) ≡ codes "⟨2,0⟩"
unfolding digits
nudge_back_1 = refl

-- `«2‿2⥊↕4`
nudge_back_2 : written (of p.back (with p.reshape (numbers (2 ∷ 2 ∷ [])) (of p.windows (Ok (number 4))))) ≡ codes "(2‿2⥊⟨2,3,0,0⟩)"
unfolding digits
nudge_back_2 = refl

-- `« 0`
nudge_back_3 : of p.back (Ok (number 0)) ≡ Err Rank
nudge_back_3 = refl

-- `«"c"`
nudge_back_4 : written (of p.back (Ok (text (codes "c")))) ≡ codes "\" \""
nudge_back_4 = refl

-- `«/0‿0`
nudge_back_5 : written (of p.back (of p.slash (Ok (numbers (0 ∷ 0 ∷ []))))) ≡ codes "(↕0)"
nudge_back_5 = refl

-- `« ⟨+‿1,2⟩`
nudge_back_6 : of p.back (Ok (listed ((listed ((Given 0) ∷ (number 1) ∷ [])) ∷ (number 2) ∷ []))) ≡ Err NoFill
nudge_back_6 = refl

-- `9«1‿2‿3`
shift_after_1 : written (with p.back (number 9) (Ok (numbers (1 ∷ 2 ∷ 3 ∷ [])))) ≡ codes "⟨2,3,9⟩"
unfolding digits
shift_after_1 = refl

-- `20‿0‿1 « ""`
shift_after_2 : written (with p.back (numbers (20 ∷ 0 ∷ 1 ∷ [])) (Ok (text (codes "")))) ≡ codes "\"\""
shift_after_2 = refl

-- `(2‿0⥊0) « ⟨⟩`
shift_after_3 : with2 p.back (with p.reshape (numbers (2 ∷ 0 ∷ [])) (Ok (number 0))) (Ok no_list) ≡ Err Rank
shift_after_3 = refl

-- `1‿2‿3«2‿2⥊↕4`
shift_after_4 : with p.back (numbers (1 ∷ 2 ∷ 3 ∷ [])) (with p.reshape (numbers (2 ∷ 2 ∷ [])) (of p.windows (Ok (number 4)))) ≡ Err Length
shift_after_4 = refl

-- `»1‿2‿3`
nudge_1 : written (of p.forth (Ok (numbers (1 ∷ 2 ∷ 3 ∷ [])))) ≡ codes "⟨0,1,2⟩"
unfolding digits
nudge_1 = refl

-- `»⟨⟩`
nudge_2 : written (of p.forth (Ok no_list)) ≡ codes "⟨⟩"
nudge_2 = refl

-- `»⟨1,"a"⟩`
nudge_3 : of p.forth (Ok (listed ((number 1) ∷ (text (codes "a")) ∷ []))) ≡ Err NoFill
nudge_3 = refl

-- `» 4`
nudge_4 : of p.forth (Ok (number 4)) ≡ Err Rank
nudge_4 = refl

-- `»"a"`
nudge_5 : written (of p.forth (Ok (text (codes "a")))) ≡ codes "\" \""
nudge_5 = refl

-- `9»1‿2‿3`
shift_before_1 : written (with p.forth (number 9) (Ok (numbers (1 ∷ 2 ∷ 3 ∷ [])))) ≡ codes "⟨9,1,2⟩"
unfolding digits
shift_before_1 = refl

-- `(1‿2⥊8‿9)»2‿2⥊↕4`
shift_before_2 :
    written (with2 p.forth (with p.reshape (numbers (1 ∷ 2 ∷ [])) (Ok (numbers (8 ∷ 9 ∷ []))))
    (with p.reshape (numbers (2 ∷ 2 ∷ [])) (of p.windows (Ok (number 4)))))
    ≡ codes "(2‿2⥊⟨8,9,0,1⟩)"
unfolding digits
shift_before_2 = refl

-- `9 » (2‿0⥊0)`
shift_before_3 : with p.forth (number 9) (with p.reshape (numbers (2 ∷ 0 ∷ [])) (Ok (number 0))) ≡ Err Rank
shift_before_3 = refl

-- `1‿2‿3»2‿2⥊↕4`
shift_before_4 : with p.forth (numbers (1 ∷ 2 ∷ 3 ∷ [])) (with p.reshape (numbers (2 ∷ 2 ∷ [])) (of p.windows (Ok (number 4)))) ≡ Err Length
shift_before_4 = refl

-- `⌽"ab"`
reverse_1 : written (of p.rotate (Ok (text (codes "ab")))) ≡ codes "\"ba\""
reverse_1 = refl

-- `⌽""`
reverse_2 : written (of p.rotate (Ok (text (codes "")))) ≡ codes "\"\""
reverse_2 = refl

-- `⌽ 8`
reverse_3 : of p.rotate (Ok (number 8)) ≡ Err Rank
reverse_3 = refl

-- `⌽ (2‿2‿2⥊↕8)`
reverse_4 : written (of p.rotate (with p.reshape (numbers (2 ∷ 2 ∷ 2 ∷ [])) (of p.windows (Ok (number 8))))) ≡ codes "(2‿2‿2⥊⟨4,5,6,7,0,1,2,3⟩)"
unfolding digits
reverse_4 = refl

-- `⌽[12‿34427‿223,⟨1⟩]`
reverse_5 : of p.rotate (of p.greater (Ok (listed ((numbers (12 ∷ 34427 ∷ 223 ∷ [])) ∷ (numbers (1 ∷ [])) ∷ [])))) ≡ Err Length
reverse_5 = refl

-- `1⌽"abc"`
rotate_1 : written (with p.rotate (number 1) (Ok (text (codes "abc")))) ≡ codes "\"bca\""
rotate_1 = refl

-- `2⌽5`
rotate_2 : with p.rotate (number 2) (Ok (number 5)) ≡ Err Rank
rotate_2 = refl

-- `⟨⟩⌽5`
rotate_3 : written (with p.rotate no_list (Ok (number 5))) ≡ codes "5"
unfolding digits
rotate_3 = refl

-- `1‿¯1⌽2‿3⥊↕6`
rotate_4 :
    written (with p.rotate (listed ((number 1) ∷ (negative 1) ∷ [])) (with p.reshape (numbers (2 ∷ 3 ∷ [])) (of p.windows (Ok (number 6)))))
    ≡ codes "(2‿3⥊⟨5,3,4,2,0,1⟩)"
unfolding digits
rotate_4 = refl

-- `4⌽""""""`
rotate_5 : written (with p.rotate (number 4) (Ok (text (codes "\"\"")))) ≡ codes "\"\"\"\"\"\""
rotate_5 = refl

-- `'z' ⌽ ⟨0⟩`
rotate_6 : with p.rotate (character (codes "z")) (Ok (numbers (0 ∷ []))) ≡ Err Domain
rotate_6 = refl

-- `⍉2‿3⥊↕6`
transpose_1 : written (of p.transpose (with p.reshape (numbers (2 ∷ 3 ∷ [])) (of p.windows (Ok (number 6))))) ≡ codes "(3‿2⥊⟨0,3,1,4,2,5⟩)"
unfolding digits
transpose_1 = refl

-- `⍉ 3`
transpose_2 : written (of p.transpose (Ok (number 3))) ≡ codes "3"
unfolding digits
transpose_2 = refl

-- `⍉>⟨⟩`
transpose_3 : written (of p.transpose (of p.greater (Ok no_list))) ≡ codes "⟨⟩"
transpose_3 = refl

-- `⍉ """"`
transpose_4 : written (of p.transpose (Ok (text (codes "\"")))) ≡ codes "\"\"\"\""
transpose_4 = refl

-- `0‿0⍉2‿2⥊↕4`
reorder_1 : written (with p.transpose (numbers (0 ∷ 0 ∷ [])) (with p.reshape (numbers (2 ∷ 2 ∷ [])) (of p.windows (Ok (number 4))))) ≡ codes "⟨0,3⟩"
unfolding digits
reorder_1 = refl

-- `1‿0⍉2‿3⥊↕6`
reorder_2 :
    written (with p.transpose (numbers (1 ∷ 0 ∷ [])) (with p.reshape (numbers (2 ∷ 3 ∷ [])) (of p.windows (Ok (number 6)))))
    ≡ codes "(3‿2⥊⟨0,3,1,4,2,5⟩)"
unfolding digits
reorder_2 = refl

-- `2⍉2‿3⥊↕6`
reorder_3 : with p.transpose (number 2) (with p.reshape (numbers (2 ∷ 3 ∷ [])) (of p.windows (Ok (number 6)))) ≡ Err Rank
reorder_3 = refl

-- `(<"ab") ⍉ "aba"`
reorder_4 : with2 p.transpose (of p.less (Ok (text (codes "ab")))) (Ok (text (codes "aba"))) ≡ Err Domain
reorder_4 = refl
