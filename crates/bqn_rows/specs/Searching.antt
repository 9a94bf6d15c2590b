-- The rows of search, and groups: BQN's pages on self-comparing and search functions, on find and on group. Rows compare by Match,
-- the cells that are looked up in index order, and for each of them the candidates in index order; the first fault is the row's. LeftOut,
-- NoCompare, and what is marked as own, are this project's own.
use Rattle.std.specs.Prelude.{ℕ, zero, suc, ◌+◌, ◌-◌, max, nat_le, nat_lt, nat_eq, Bool, true, false, not, cond, pos, negsuc, List, [], ◌∷◌, ◌++◌, length, map, get_or, fold, Option, Some, None, Result, Ok, Err}
use Rattle.std.specs.List.{range_with_len, filter}
use Rattle.bqn_base.specs.declared.fault.Fault.{Fault}
use Rattle.bqn_base.specs.declared.fault.Fault.TheVariants.{Rank, Length, Domain, LeftOut}
use Rattle.bqn_rows.specs.Plain.{Value, Number, Array, none, values}
use Rattle.bqn_rows.specs.Relations.{fill_of, matching, all_matching}
use Rattle.bqn_rows.specs.Limits.{carrying}
use Rattle.bqn_rows.specs.Atoms.{as_truth}
use Rattle.bqn_rows.specs.Structure.{fits_often}
use Rattle.bqn_rows.specs.Arrays.{axes, elements, rank, cell_count, cell_shape, frame, parts, cells, has_cells, holds_atoms, needs, and_then, ◌▹◌, all_ok, pairwise, sums, natural, numbers_in, list_of_numbers, gathered, indices, place_at, moved, move_cells}

abbrev pub one_if : Bool → ℕ
one_if true = 1
one_if false = 0

-- ---- among the cells of one array

-- how many of these the cell matches
abbrev pub matches_among : Value → List Value → Result ℕ Fault
matches_among x [] = Ok 0
matches_among x (y ∷ ys) = and_then (matching y x) (λ b. and_then (matches_among x ys) (λ k. Ok (one_if b + k)))

-- for each cell how many of those before it it matches; some have been seen
abbrev pub matches_before : (seen cells : List Value) → Result (List ℕ) Fault
matches_before seen [] = Ok []
matches_before seen (x ∷ xs) = and_then (matches_among x seen) (λ k. and_then (matches_before (seen ++ x ∷ []) xs) (λ ks. Ok (k ∷ ks)))

abbrev pub repeats : Value → Result (List ℕ) Fault
repeats x = needs (has_cells x) Rank ▹ matches_before [] (cells x)

-- the numbers of the cells that match no cell before them
abbrev pub first_ones : (repeats : List ℕ) → (i : ℕ) → List ℕ
first_ones [] i = []
first_ones (zero ∷ ks) i = i ∷ first_ones ks (suc i)
first_ones (k ∷ ks) i = first_ones ks (suc i)

-- of these cell numbers the first whose cell matches x; past all cells where there is none
abbrev pub first_match : (cells : List Value) → (among : List ℕ) → Value → Result ℕ Fault
first_match cells [] x = Ok (length cells)
first_match cells (i ∷ among) x = and_then (matching (get_or cells i (natural 0)) x) (λ b. cond b (Ok i) (first_match cells among x))

abbrev pub first_of_all : (cells : List Value) → Value → Result ℕ Fault
first_of_all cells x = first_match cells (range_with_len 0 (length cells)) x

-- one more, if it is new
abbrev pub with_new : (known : List Value) → ℕ → Value → List Value
with_new known k x = cond (nat_eq k (length known)) (known ++ x ∷ []) known

-- for each cell its number among the distinct cells, of which some are known
abbrev pub classes : (known cells : List Value) → Result (List ℕ) Fault
classes known [] = Ok []
classes known (x ∷ xs) = and_then (first_of_all known x) (λ k. and_then (classes (with_new known k x) xs) (λ ks. Ok (k ∷ ks)))

-- `⊐x`: for each cell its number among the distinct cells, as they first come
abbrev pub classify_row : Value → Result Value Fault
classify_row x = needs (has_cells x) Rank ▹ and_then (classes [] (cells x)) list_of_numbers

-- `⊒x`: for each cell how many earlier ones match it
abbrev pub occurrence_row : Value → Result Value Fault
occurrence_row x = and_then (repeats x) list_of_numbers

-- `∊x`: for each cell 1 if no earlier one matches it
abbrev pub mark_firsts_row : Value → Result Value Fault
mark_firsts_row x = and_then (repeats x) (λ ks. list_of_numbers (map (λ k. one_if (nat_eq k 0)) ks))

-- `⍷x`: the cells that no earlier one matches
abbrev pub deduplicate_row : Value → Result Value Fault
deduplicate_row x = and_then (repeats x) (λ ks. moved x (move_cells (first_ones ks 0) (axes x)))

-- ---- the parts of one array among the cells of another

-- an answer for each part of `within` that has the rank of a cell of `cells`, in the shape of its leading axes; else Rank
abbrev pub looked_up : (of within : Value) → ((cells parts : List Value) → Result (List ℕ) Fault) → Result Value Fault
looked_up of within row = let m = rank of - 1 in
    needs (has_cells of) Rank ▹
    needs (nat_le m (rank within)) Rank ▹
    and_then (row (cells of) (parts m within)) (λ ks. numbers_in (frame m within) ks)

abbrev pub first_matches : (cells parts : List Value) → Result (List ℕ) Fault
first_matches cells parts = all_ok (map (first_of_all cells) parts)

-- `w⊐x`: for each part of x the first cell of w that matches it, else w's length
abbrev pub index_of_row : Value → Value → Result Value Fault
index_of_row w x = looked_up w x first_matches

-- each part takes the first cell that matches it of those that are left
abbrev pub served : (cells : List Value) → (left : List ℕ) → (parts : List Value) → Result (List ℕ) Fault
served cells left [] = Ok []
served cells left (x ∷ xs) = and_then (first_match cells left x) (λ k.
    and_then (served cells (filter (λ i. not (nat_eq i k)) left) xs) (λ ks. Ok (k ∷ ks)))

-- `w⊒x`: the same, but each cell of w serves one part only
abbrev pub progressive_row : Value → Value → Result Value Fault
progressive_row w x = looked_up w x (λ cells parts. served cells (range_with_len 0 (length cells)) parts)

-- `w∊x`: for each part of w 1 if a cell of x matches it
abbrev pub member_row : Value → Value → Result Value Fault
member_row w x = looked_up x w (λ cells parts. and_then (first_matches cells parts) (λ ks. Ok (map (λ k. one_if (nat_lt k (length cells))) ks)))

-- ---- find

-- the elements of x in a shape, from an index on
abbrev pub window : Value → (shape index : List ℕ) → List Value
window x shape index = map (λ i. get_or (elements x) (place_at (axes x) (sums index i)) (natural 0)) (indices shape)

-- `w⍷x`: equal ranks; for each place where w fits into x 1 if it matches what is there; an axis of the answer is not below 0 (own)
abbrev pub find_row : Value → Value → Result Value Fault
find_row w x =
    needs (nat_eq (rank w) (rank x)) LeftOut ▹
    let shape = pairwise fits_often (axes w) (axes x) in
    gathered shape (map (λ at. as_truth (all_matching (values (elements w)) (values (window x (axes w) at)))) (indices shape)) (Some (natural 0))

-- ---- groups

-- the group that an element asks for; ¯1 asks for none
abbrev pub as_group : Value → Result (Option ℕ) Fault
as_group (Number (pos k)) = Ok (Some k)
as_group (Number (negsuc zero)) = Ok None
as_group x = Err Domain

abbrev pub as_groups : Value → Result (List (Option ℕ)) Fault
as_groups w = all_ok (map as_group (elements w))

-- 1 more than the greatest
abbrev pub past : Option ℕ → ℕ
past None = 0
past (Some k) = suc k

abbrev pub group_count : List (Option ℕ) → ℕ
group_count groups = fold max 0 (map past groups)

-- the places at which group k is asked for
abbrev pub places_of : (k : ℕ) → List (Option ℕ) → (i : ℕ) → List ℕ
places_of k [] i = []
places_of k (None ∷ groups) i = places_of k groups (suc i)
places_of k (Some j ∷ groups) i = cond (nat_eq j k) (i ∷ places_of k groups (suc i)) (places_of k groups (suc i))

-- what each group is, from 0 to the greatest; where there is none, the fill
abbrev pub grouped : List (Option ℕ) → (List ℕ → Result Value Fault) → (fill : Value) → Result Value Fault
grouped groups row fill = gathered (group_count groups ∷ []) (map (λ k. row (places_of k groups 0)) (range_with_len 0 (group_count groups))) (Some fill)

-- an empty array with a fill
abbrev pub no_cells : (cell : List ℕ) → Option Value → Value
no_cells cell fill = Array (0 ∷ cell) none (carrying fill)

-- `⊔x`: x is a list of numbers of at least ¯1; for each group the list of the indices at which it stands
abbrev pub group_indices_row : Value → Result Value Fault
group_indices_row x =
    needs (nat_eq (rank x) 1) Rank ▹
    and_then (as_groups x) (λ groups. grouped groups list_of_numbers (no_cells [] (Some (natural 0))))

-- `w⊔x`: x has cells, and w is a list of numbers of at least ¯1, as long as x (own); for each group the cells of x at which it stands in w
abbrev pub group_row : Value → Value → Result Value Fault
group_row w x =
    needs (has_cells x) Rank ▹
    needs (nat_eq (rank w) 1) Rank ▹
    needs (holds_atoms w) LeftOut ▹
    and_then (as_groups w) (λ groups.
    needs (nat_eq (length groups) (cell_count x)) Length ▹
    grouped groups (λ is. moved x (move_cells is (axes x))) (no_cells (cell_shape x) (fill_of x)))
