-- What the rows of the tables are told in: axes, elements, cells and parts, conditions in their order, number lists, and moves of
-- elements. BQN's page on arrays. An atom stands for the rank 0 array that holds it.
use Rattle.std.specs.Prelude.{ℕ, zero, suc, ◌+◌, ◌-◌, ◌*◌, nat_le, nat_lt, Bool, true, false, not, ℤ, pos, negsuc, List, [], ◌∷◌, ◌++◌, length, map, get_or, take, drop, Option, Some, None, Result, Ok, Err}
use Rattle.std.specs.List.{range_with_len, flat_map, list_all}
use Rattle.bqn_base.specs.declared.fault.Fault.{Fault}
use Rattle.bqn_base.specs.declared.fault.Fault.TheVariants.{Rank, Domain, TooLarge, NoFill, Index}
use Rattle.bqn_rows.specs.Plain.{Value, Number, Character, Array, none, unfilled, values, list}
use Rattle.bqn_rows.specs.Relations.{fill_of}
use Rattle.bqn_rows.specs.Limits.{places, is_shape, array}

-- ---- an array in parts

abbrev pub axes : Value → List ℕ
axes (Array shape xs f) = shape
axes x = []

abbrev pub elements : Value → List Value
elements (Array shape xs f) = list xs
elements x = x ∷ []

-- how many axes
abbrev pub rank : Value → ℕ
rank x = length (axes x)

-- the first axis, or 1 where there is none
abbrev pub first_axis : List ℕ → ℕ
first_axis [] = 1
first_axis (n ∷ shape) = n

-- how many cells; the tables call it n
abbrev pub cell_count : Value → ℕ
cell_count x = first_axis (axes x)

-- the shape of a cell
abbrev pub cell_shape : Value → List ℕ
cell_shape x = drop 1 (axes x)

-- the last m axes, which are the shape of a part of rank m, and those in front of them, along which these parts stand
abbrev pub part_shape : (m : ℕ) → Value → List ℕ
part_shape m x = drop (rank x - m) (axes x)

abbrev pub frame : (m : ℕ) → Value → List ℕ
frame m x = take (rank x - m) (axes x)

-- how many parts of rank m
abbrev pub part_count : (m : ℕ) → Value → ℕ
part_count m x = places (frame m x)

-- the parts that the last m axes make, in index order, those of rank 0 as their elements: Match and the order tell them apart in
-- the same way
abbrev pub parts : (m : ℕ) → Value → List Value
parts zero x = elements x
parts (suc m) x = let shape = part_shape (suc m) x in let k = places shape in
    map (λ i. Array shape (values (take k (drop (i * k) (elements x)))) unfilled) (range_with_len 0 (part_count (suc m) x))

-- the cells, as such parts
abbrev pub cells : Value → List Value
cells x = parts (rank x - 1) x

abbrev pub is_array : Value → Bool
is_array (Array shape xs f) = true
is_array x = false

abbrev pub has_elements : Value → Bool
has_elements (Array shape none f) = false
has_elements x = true

-- rank at least 1
abbrev pub has_cells : Value → Bool
has_cells x = nat_le 1 (rank x)

-- rank at most 1
abbrev pub is_flat : Value → Bool
is_flat x = nat_le (rank x) 1

-- ---- conditions, in their order

-- the next where this holds, else the fault
abbrev pub needs : {A : Type 0} → Bool → Fault → Result A Fault → Result A Fault
needs true fault next = next
needs false fault next = Err fault

abbrev pub and_then : {A B : Type 0} → Result A Fault → (A → Result B Fault) → Result B Fault
and_then (Ok a) next = next a
and_then (Err fault) next = Err fault

infixr 10 ◌▹◌
-- what stands on the right, under the condition on the left
abbrev pub ◌▹◌ : {A B : Type 0} → (A → B) → A → B
condition ▹ next = condition next

-- all of them, or the first fault
abbrev pub all_ok : {A : Type 0} → List (Result A Fault) → Result (List A) Fault
all_ok [] = Ok []
all_ok (r ∷ rs) = and_then r (λ x. and_then (all_ok rs) (λ xs. Ok (x ∷ xs)))

-- the first elements of two lists, then the second ones, and so on
abbrev pub pairwise : {A B C : Type 0} → (A → B → C) → List A → List B → List C
pairwise f (x ∷ xs) (y ∷ ys) = f x y ∷ pairwise f xs ys
pairwise f xs ys = []

abbrev pub sums : List ℕ → List ℕ → List ℕ
sums = pairwise (λ i j. i + j)

-- ---- answers

abbrev pub natural : ℕ → Value
natural n = Number (pos n)

-- a list, with the fill that it has if it is empty
abbrev pub list_of : List Value → Option Value → Result Value Fault
list_of xs fill = array (length xs ∷ []) (values xs) fill

-- numbers in a shape; no numbers have the fill 0
abbrev pub numbers_in : List ℕ → List ℕ → Result Value Fault
numbers_in shape ns = array shape (values (map natural ns)) (Some (natural 0))

-- a list of numbers
abbrev pub list_of_numbers : List ℕ → Result Value Fault
list_of_numbers ns = numbers_in (length ns ∷ []) ns

-- a list of characters; no characters have the space as fill
abbrev pub text_value : List ℕ → Result Value Fault
text_value cs = array (length cs ∷ []) (values (map Character cs)) (Some (Character 32))

-- an array of answers, or the first fault among them; no answer is looked at where the shape is too large
abbrev pub gathered : List ℕ → List (Result Value Fault) → Option Value → Result Value Fault
gathered shape results fill = needs (is_shape shape) TooLarge ▹ and_then (all_ok results) (λ ys. array shape (values ys) fill)

-- ---- number lists

abbrev pub as_int : Value → Result ℤ Fault
as_int (Number n) = Ok n
as_int x = Err Domain

abbrev pub as_natural : Value → Result ℕ Fault
as_natural (Number (pos n)) = Ok n
as_natural x = Err Domain

-- elements that are all numbers, and that are all naturals; else Domain
abbrev pub numbers : Value → Result (List ℤ) Fault
numbers w = all_ok (map as_int (elements w))

abbrev pub naturals : Value → Result (List ℕ) Fault
naturals w = all_ok (map as_natural (elements w))

-- a number list: rank at most 1, else Rank; numbers, else Domain
abbrev pub number_list : Value → Result (List ℤ) Fault
number_list w = needs (is_flat w) Rank ▹ numbers w

abbrev pub natural_list : Value → Result (List ℕ) Fault
natural_list w = needs (is_flat w) Rank ▹ naturals w

-- no element is an array
abbrev pub holds_atoms : Value → Bool
holds_atoms w = list_all (λ y. not (is_array y)) (elements w)

-- the place on an axis of n that a number names, from the end if it is negative; else Index
abbrev pub place_on : ℤ → (n : ℕ) → Result ℕ Fault
place_on (pos i) n = needs (nat_lt i n) Index ▹ Ok i
place_on (negsuc i) n = needs (nat_lt i n) Index ▹ Ok (n - suc i)

-- ---- indices

-- all indices of a shape, in index order
abbrev pub indices : List ℕ → List (List ℕ)
indices [] = [] ∷ []
indices (n ∷ shape) = flat_map (λ i. map (λ index. i ∷ index) (indices shape)) (range_with_len 0 n)

-- the number of the element with this index
abbrev pub place_at : (shape index : List ℕ) → ℕ
place_at (n ∷ shape) (i ∷ index) = i * places shape + place_at shape index
place_at shape index = 0

-- ---- moves

-- A move makes an array from one of a known shape: the answer's shape, and for each of its elements the place from which it comes,
-- or none where it is a fill.
pub record Move : Type 0 where
  pub shape : List ℕ
  pub places : List (Option ℕ)

abbrev pub is_inside : Option ℕ → Bool
is_inside None = false
is_inside (Some i) = true

-- what stands at a place; the fill where it is outside
abbrev pub standing : List Value → Value → Option ℕ → Value
standing xs fill None = fill
standing xs fill (Some i) = get_or xs i fill

abbrev pub moved_with : Option Value → List Value → Move → Result Value Fault
moved_with (Some fill) xs m = array m.shape (values (map (standing xs fill) m.places)) (Some fill)
moved_with None xs m = needs (list_all is_inside m.places) NoFill ▹ array m.shape (values (map (standing xs (natural 0)) m.places)) None

-- the elements of x, moved: NoFill where a place is outside and x has no fill; an empty answer has the fill of x
abbrev pub moved : Value → Move → Result Value Fault
moved x m = moved_with (fill_of x) (elements x) m

-- so many places from the first on, in their order
abbrev pub whole : ℕ → List (Option ℕ)
whole n = map Some (range_with_len 0 n)

-- all elements, in the order in which they stand, under another shape
abbrev pub in_place : List ℕ → Move
in_place shape = record { shape = shape; places = whole (places shape) }

-- of each place of the answer the index from which it comes
abbrev pub move_by : (from to : List ℕ) → (List ℕ → List ℕ) → Move
move_by from to index = record { shape = to; places = map (λ i. Some (place_at from (index i))) (indices to) }

-- ---- moves of whole cells, along one axis or more

-- the cells of an axis in the order in which they stand in the answer; none for a cell of fills
abbrev pub Along : Type 0
Along = List (Option ℕ)

-- where cell i begins, one axis further inside: cells have m elements, and the first begins at a place
abbrev pub inside : (m : ℕ) → Option ℕ → Option ℕ → Option ℕ
inside m (Some at) (Some i) = Some (at + i * m)
inside m _ _ = None

-- the places of the cells that are named along each axis; axes past the last list are whole
abbrev pub along_axes : List Along → (shape : List ℕ) → Option ℕ → List (Option ℕ)
along_axes js [] at = at ∷ []
along_axes [] (n ∷ shape) at = flat_map (λ i. along_axes [] shape (inside (places shape) at i)) (whole n)
along_axes (js ∷ rest) (n ∷ shape) at = flat_map (λ i. along_axes rest shape (inside (places shape) at i)) js

-- the move that names cells along the first axes
abbrev pub move_along : List Along → (shape : List ℕ) → Move
move_along js shape = record { shape = map length js ++ drop (length js) shape; places = along_axes js shape (Some 0) }

-- the move that names cells by their numbers
abbrev pub move_cells : List ℕ → (shape : List ℕ) → Move
move_cells js shape = move_along (map Some js ∷ []) shape
