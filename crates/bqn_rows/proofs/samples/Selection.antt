-- Worked rows of selection, computed: each is what `•Show` writes of the expression in front of it, or its fault.
use Rattle.std.proofs.Common.{◌≡◌, [], ◌∷◌, Ok, Err, refl}
use lib.Chars.{codes}
use Rattle.std.specs.Fmt.{digits}
use Rattle.bqn_base.specs.declared.fault.Fault.TheVariants.{Domain, Rank, Length, Index, LeftOut}
use Rattle.bqn_rows.specs.Primitives as p
use Rattle.bqn_rows.proofs.samples.Terms.{number, negative, character, listed, numbers, no_list, text, of, with, with2, written}

-- `/1‿0‿2`
indices_1 : written (of p.slash (Ok (numbers (1 ∷ 0 ∷ 2 ∷ [])))) ≡ codes "⟨0,2,2⟩"
unfolding digits
indices_1 = refl

-- `/↕0`
indices_2 : written (of p.slash (of p.windows (Ok (number 0)))) ≡ codes "(↕0)"
indices_2 = refl

-- `/ 4`
indices_3 : of p.slash (Ok (number 4)) ≡ Err Rank
indices_3 = refl

-- `/⟨¯1⟩`
indices_4 : of p.slash (Ok (listed ((negative 1) ∷ []))) ≡ Err Domain
indices_4 = refl

-- `0‿2‿0‿1/"abcd"`
replicate_1 : written (with p.slash (numbers (0 ∷ 2 ∷ 0 ∷ 1 ∷ [])) (Ok (text (codes "abcd")))) ≡ codes "\"bbd\""
replicate_1 = refl

-- `1‿⟨2⟩/"ab"`
replicate_2 : with p.slash (listed ((number 1) ∷ (numbers (2 ∷ [])) ∷ [])) (Ok (text (codes "ab"))) ≡ Err LeftOut
replicate_2 = refl

-- `"a"/"b"`
replicate_3 : with p.slash (text (codes "a")) (Ok (text (codes "b"))) ≡ Err Domain
replicate_3 = refl

-- `3/"ab"`
replicate_4 : written (with p.slash (number 3) (Ok (text (codes "ab")))) ≡ codes "\"aaabbb\""
replicate_4 = refl

-- `1‿2/"abc"`
replicate_5 : with p.slash (numbers (1 ∷ 2 ∷ [])) (Ok (text (codes "abc"))) ≡ Err Length
replicate_5 = refl

-- `0/""`
replicate_6 : written (with p.slash (number 0) (Ok (text (codes "")))) ≡ codes "\"\""
replicate_6 = refl

-- `(1‿1⥊1)/1‿2`
replicate_7 : with2 p.slash (with p.reshape (numbers (1 ∷ 1 ∷ [])) (Ok (number 1))) (Ok (numbers (1 ∷ 2 ∷ []))) ≡ Err Rank
replicate_7 = refl

-- `⊏1‿2`
first_cell_1 : written (of p.select (Ok (numbers (1 ∷ 2 ∷ [])))) ≡ codes "(<1)"
unfolding digits
first_cell_1 = refl

-- `⊏ 2`
first_cell_2 : of p.select (Ok (number 2)) ≡ Err Rank
first_cell_2 = refl

-- `⊏⟨⟩`
first_cell_3 : of p.select (Ok no_list) ≡ Err Length
first_cell_3 = refl

-- `3‿¯1⊏"abcd"`
select_1 : written (with p.select (listed ((number 3) ∷ (negative 1) ∷ [])) (Ok (text (codes "abcd")))) ≡ codes "\"dd\""
select_1 = refl

-- `1⊏"abc"`
select_2 : written (with p.select (number 1) (Ok (text (codes "abc")))) ≡ codes "(<'b')"
select_2 = refl

-- `3⊏"abc"`
select_3 : with p.select (number 3) (Ok (text (codes "abc"))) ≡ Err Index
select_3 = refl

-- `⟨⟨1⟩⟩⊏"abc"`
select_4 : with p.select (listed ((numbers (1 ∷ [])) ∷ [])) (Ok (text (codes "abc"))) ≡ Err LeftOut
select_4 = refl

-- `⟨⟩⊏"ca"`
select_5 : written (with p.select no_list (Ok (text (codes "ca")))) ≡ codes "\"\""
select_5 = refl

-- `(2‿2⥊↕4) ⊏ 0`
select_6 : with2 p.select (with p.reshape (numbers (2 ∷ 2 ∷ [])) (of p.windows (Ok (number 4)))) (Ok (number 0)) ≡ Err Rank
select_6 = refl

-- `'a' ⊏ (1‿1‿1⥊0)`
select_7 : with p.select (character (codes "a")) (with p.reshape (numbers (1 ∷ 1 ∷ 1 ∷ [])) (Ok (number 0))) ≡ Err Domain
select_7 = refl

-- `⊑"ab"`
first_1 : written (of p.pick (Ok (text (codes "ab")))) ≡ codes "'a'"
first_1 = refl

-- `⊑⟨⟩`
first_2 : of p.pick (Ok no_list) ≡ Err Length
first_2 = refl

-- `⊑ 'a'`
first_3 : written (of p.pick (Ok (character (codes "a")))) ≡ codes "'a'"
first_3 = refl

-- `⊑ (↕⟨⟩)`
first_4 : written (of p.pick (of p.windows (Ok no_list))) ≡ codes "(↕0)"
first_4 = refl

-- `1⊑"ab"`
pick_1 : written (with p.pick (number 1) (Ok (text (codes "ab")))) ≡ codes "'b'"
pick_1 = refl

-- `1‿¯1⊑2‿3⥊↕6`
pick_2 : written (with p.pick (listed ((number 1) ∷ (negative 1) ∷ [])) (with p.reshape (numbers (2 ∷ 3 ∷ [])) (of p.windows (Ok (number 6))))) ≡ codes "5"
unfolding digits
pick_2 = refl

-- `'𝕩' ⊑ ⟨⟩`
pick_3 : with p.pick (character (codes "𝕩")) (Ok no_list) ≡ Err Domain
pick_3 = refl

-- `(2‿0⥊0) ⊑ ""`
pick_4 : with2 p.pick (with p.reshape (numbers (2 ∷ 0 ∷ [])) (Ok (number 0))) (Ok (text (codes ""))) ≡ Err Rank
pick_4 = refl

-- `⟨0,⟨1⟩⟩⊑2‿2⥊↕4`
pick_5 : with p.pick (listed ((number 0) ∷ (numbers (1 ∷ [])) ∷ [])) (with p.reshape (numbers (2 ∷ 2 ∷ [])) (of p.windows (Ok (number 4)))) ≡ Err LeftOut
pick_5 = refl

-- `5⊑1‿2`
pick_6 : with p.pick (number 5) (Ok (numbers (1 ∷ 2 ∷ []))) ≡ Err Index
pick_6 = refl
