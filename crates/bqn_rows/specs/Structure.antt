-- The rows of structure: BQN's pages on array depth, on match, and on the structural primitives. Each comment tells its row; conditions
-- come in their order. LeftOut, the Length of an empty argument, and what is marked as own are this project's own.
use Rattle.std.specs.Prelude.{ℕ, zero, suc, ◌+◌, ◌-◌, ◌%◌, max, nat_le, nat_lt, nat_eq, Bool, true, false, not, cond, ◌&&◌, ◌||◌, ℤ, pos, negsuc, nat_abs, List, [], ◌∷◌, ◌++◌, length, map, get_or, take, drop, replicate, Option, Some, None, Result, Ok, Err}
use Rattle.std.specs.List.{range_with_len, flat_map, filter, list_all, list_any}
use Rattle.bqn_base.specs.declared.fault.Fault.{Fault}
use Rattle.bqn_base.specs.declared.fault.Fault.TheVariants.{Rank, Length, LeftOut, TooLarge, Assert}
use Rattle.bqn_rows.specs.Plain.{Value, Number, Array, none, more, filled, values, list}
use Rattle.bqn_rows.specs.Relations.{depth, fill_of, matching, same_shape, shared}
use Rattle.bqn_rows.specs.Limits.{places, is_shape, array}
use Rattle.bqn_rows.specs.Atoms.{as_truth, denied}
use Rattle.bqn_rows.specs.Shown.{formatted}
use Rattle.bqn_rows.specs.Arrays.{axes, elements, rank, cell_count, cell_shape, part_shape, part_count, is_array, has_elements, has_cells, is_flat, needs, and_then, ◌▹◌, pairwise, sums, natural, list_of, numbers_in, list_of_numbers, gathered, number_list, natural_list, naturals, indices, Move, moved, in_place, move_by, Along, whole, along_axes, move_along, move_cells}

-- `=x`, `≠x`: how many axes; the first axis, or 1 without axes
abbrev pub rank_row : Value → Result Value Fault
rank_row x = Ok (natural (rank x))

abbrev pub length_row : Value → Result Value Fault
length_row x = Ok (natural (cell_count x))

-- `≢x`: the axes as a list
abbrev pub shape_row : Value → Result Value Fault
shape_row x = numbers_in (rank x ∷ []) (axes x)

-- `≡x`: the depth
abbrev pub depth_row : Value → Result Value Fault
depth_row x = Ok (natural (depth x))

-- `w≡x`, `w≢x`: 1 if they match and 0 if not, and the contrary
abbrev pub match_row : Value → Value → Result Value Fault
match_row w x = as_truth (matching w x)

abbrev pub not_match_row : Value → Value → Result Value Fault
not_match_row w x = as_truth (denied (matching w x))

-- ---- reshaping

-- `⥊x`: the elements as a list
abbrev pub deshape_row : Value → Result Value Fault
deshape_row x = moved x (in_place (places (axes x) ∷ []))

-- element i comes from place i modulo so many
abbrev pub cycled : (to : List ℕ) → (many : ℕ) → Move
cycled to many = record { shape = to; places = map (λ i. Some (i % many)) (range_with_len 0 (places to)) }

-- `w⥊x`: w is a list of naturals, the shape, which must not be too large; of nothing no elements can be made (own); element i is element
-- i of x, counted round and round
abbrev pub reshape_row : Value → Value → Result Value Fault
reshape_row w x = and_then (natural_list w) (λ shape.
    needs (is_shape shape) TooLarge ▹
    needs (has_elements x || nat_eq (places shape) 0) Length ▹
    moved x (cycled shape (places (axes x))))

-- ---- joining

-- the fill of a list
abbrev pub fill_of_list : Option Value → Option Value
fill_of_list (Some (Array (n ∷ []) xs f)) = fill_of (Array (n ∷ []) xs f)
fill_of_list f = None

-- where nothing is joined: the fill that all parts have; without parts, the fill of a list that is the fill
abbrev pub fill_of_joined : (fill : Option Value) → List Value → Option Value
fill_of_joined fill [] = fill_of_list fill
fill_of_joined fill (x ∷ []) = fill_of x
fill_of_joined fill (x ∷ xs) = shared (fill_of x) (fill_of_joined fill xs)

-- `∾x`: x is a list, and each of its elements is a list or has no axes; the elements of these, one after the other
abbrev pub join_row : Value → Result Value Fault
join_row x =
    needs (nat_eq (rank x) 1) LeftOut ▹
    needs (list_all is_flat (elements x)) LeftOut ▹
    list_of (flat_map elements (elements x)) (fill_of_joined (fill_of x) (elements x))

-- the elements of w and then those of x, in this shape; no elements have the fill of both
abbrev pub both_in : List ℕ → Value → Value → Result Value Fault
both_in shape w x = array shape (values (elements w ++ elements x)) (shared (fill_of w) (fill_of x))

-- `w∾x`: where m is one less than the greater rank, each argument has that many axes or one more, and is one cell or a row of cells; the
-- cells have one shape; those of w, then those of x
abbrev pub join_to_row : Value → Value → Result Value Fault
join_to_row w x = let m = max (rank w) (rank x) - 1 in
    needs (nat_le m (rank w) && nat_le m (rank x)) Rank ▹
    needs (same_shape (part_shape m w) (part_shape m x)) Length ▹
    both_in ((part_count m w + part_count m x) ∷ part_shape m x) w x

-- `≍x`: a first axis of 1 before the others
abbrev pub solo_row : Value → Result Value Fault
solo_row x = moved x (in_place (1 ∷ axes x))

-- `w≍x`: two of one shape, behind an axis of 2
abbrev pub couple_row : Value → Value → Result Value Fault
couple_row w x = needs (same_shape (axes w) (axes x)) Length ▹ both_in (2 ∷ axes x) w x

-- `⋈x`, `w⋈x`: the list of the argument, and of both
abbrev pub enlist_row : Value → Result Value Fault
enlist_row x = list_of (x ∷ []) None

abbrev pub pair_row : Value → Value → Result Value Fault
pair_row w x = list_of (w ∷ x ∷ []) None

-- `<x`: the array without axes that holds x
abbrev pub enclose_row : Value → Result Value Fault
enclose_row x = array [] (values (x ∷ [])) None

-- `>x`: the axes of x, then those that all its elements have; without elements, those of an array that is the fill, and its fill; else x,
-- also where x is an atom (own)
abbrev pub merge_row : Value → Result Value Fault
merge_row (Array shape (more x xs) f) =
    needs (list_all (λ y. same_shape (axes y) (axes x)) (list xs)) Length ▹
    array (shape ++ axes x) (values (flat_map elements (x ∷ list xs))) (fill_of (Array shape (more x xs) f))
merge_row (Array shape none (filled (Array t ys g))) = array (shape ++ t) none (fill_of (Array t ys g))
merge_row x = Ok x

-- ---- taking and dropping

-- of n cells the first w, or for a negative w the last; none where there is no such cell
abbrev pub if_in : Bool → ℕ → Option ℕ
if_in true i = Some i
if_in false i = None

abbrev pub taken : (w : ℤ) → (n : ℕ) → Along
taken (pos w) n = map (λ i. if_in (nat_lt i n) i) (range_with_len 0 w)
taken (negsuc w) n = map (λ i. if_in (nat_lt w (n + i)) ((n + i) - suc w)) (range_with_len 0 (suc w))

-- of n cells those past the first w, or for a negative w those before the last
abbrev pub dropped : (w : ℤ) → (n : ℕ) → Along
dropped (pos w) n = map Some (range_with_len w (n - w))
dropped (negsuc w) n = whole (n - suc w)

-- the shape with axes of 1 in front, so that it has at least so many
abbrev pub deepened : ℕ → List ℕ → List ℕ
deepened many shape = replicate (many - length shape) 1 ++ shape

-- of each of the first axes as many cells as its number says
abbrev pub take_move : List ℤ → List ℕ → Move
take_move ws shape = let from = deepened (length ws) shape in
    record { shape = map nat_abs ws ++ drop (length ws) from; places = along_axes (pairwise taken ws from) from (Some 0) }

-- `w↑x`: w is a number list; x gets as many axes as it has numbers; the shape must not be too large; of each axis as many cells as its
-- number says, from the front or from the end, and where x has no such cell its fill, or NoFill
abbrev pub take_by : List ℤ → Value → Result Value Fault
take_by ws x = let m = take_move ws (axes x) in needs (is_shape m.shape) TooLarge ▹ moved x m

abbrev pub take_row : Value → Value → Result Value Fault
take_row w x = and_then (number_list w) (λ ws. take_by ws x)

-- `w↓x`: w is a number list; x gets as many axes as it has numbers; of each axis all but the cells that its number says
abbrev pub drop_by : List ℤ → Value → Result Value Fault
drop_by ws x = let from = deepened (length ws) (axes x) in moved x (move_along (pairwise dropped ws from) from)

abbrev pub drop_row : Value → Value → Result Value Fault
drop_row w x = and_then (number_list w) (λ ws. drop_by ws x)

-- of each number from 0 to n what the row gives, n being how many cells there are
abbrev pub for_each_length : (List ℤ → Value → Result Value Fault) → Value → Result Value Fault
for_each_length row x = let many = suc (cell_count x) in
    needs (has_cells x) Rank ▹ gathered (many ∷ []) (map (λ i. row (pos i ∷ []) x) (range_with_len 0 many)) None

-- `↑x`, `↓x`: the list of all beginnings, from the empty one on, and of all ends, from x on
abbrev pub prefixes_row : Value → Result Value Fault
prefixes_row x = for_each_length take_by x

abbrev pub suffixes_row : Value → Result Value Fault
suffixes_row x = for_each_length drop_by x

-- ---- ranges and windows

-- the array of all indices of a shape; no indices have as many zeros as fill
abbrev pub range_of : List ℕ → Result Value Fault
range_of shape = and_then (list_of_numbers (replicate (length shape) 0)) (λ zeros. gathered shape (map list_of_numbers (indices shape)) (Some zeros))

-- `↕x`: x is a list of naturals; a number gives those below it, a list of one axis the array of all indices in this shape
abbrev pub range_for : (rank : ℕ) → List ℕ → Result Value Fault
range_for zero (n ∷ []) = numbers_in (n ∷ []) (range_with_len 0 n)
range_for rank ns = range_of ns

abbrev pub range_row : Value → Result Value Fault
range_row x = and_then (natural_list x) (λ ns. range_for (rank x) ns)

-- at index a, b, c stands what is at a + b, c
abbrev pub window_index : (many : ℕ) → List ℕ → List ℕ
window_index many i = sums (take many i) (take many (drop many i)) ++ drop (many + many) i

-- how often a window of w cells fits on an axis of n; not at all, if it is too long
abbrev pub fits_often : (w n : ℕ) → ℕ
fits_often w n = (1 + n) - w

-- `w↕x`: w is a list of naturals, not longer than x has axes; each is at most 1 more than its axis; first the axes that tell where a window
-- begins, then the windows' own, then the others
abbrev pub windows_row : Value → Value → Result Value Fault
windows_row w x =
    needs (is_flat w) Rank ▹
    needs (nat_le (length (elements w)) (rank x)) Rank ▹
    and_then (naturals w) (λ ws.
    needs (list_all (λ ok. ok) (pairwise (λ k n. nat_le k (1 + n)) ws (axes x))) Length ▹
    moved x (move_by (axes x) (pairwise fits_often ws (axes x) ++ ws ++ drop (length ws) (axes x)) (window_index (length ws))))

-- ---- shifting

-- a cell of fills, then all cells but the last; all cells but the first, then one of fills
abbrev pub after_fill : (n : ℕ) → Along
after_fill n = None ∷ whole (n - 1)

abbrev pub before_fill : (n : ℕ) → Along
before_fill n = map Some (range_with_len 1 (n - 1)) ++ None ∷ []

abbrev pub nudged : (ℕ → Along) → Value → Result Value Fault
nudged along x = needs (has_cells x) Rank ▹ cond (has_elements x) (moved x (move_along (along (cell_count x) ∷ []) (axes x))) (Ok x)

-- `»x`, `«x`: an empty x as it is; else the cells, one place on or back, and where none comes a cell of fills, or NoFill
abbrev pub nudge_row : Value → Result Value Fault
nudge_row x = nudged after_fill x

abbrev pub nudge_back_row : Value → Result Value Fault
nudge_back_row x = nudged before_fill x

-- x has cells, and w is cells of their shape or one such cell; then these elements, in the shape of x
abbrev pub shifted_in : Value → Value → List Value → Result Value Fault
shifted_in w x xs =
    needs (has_cells x) Rank ▹
    needs (nat_eq (rank w) (rank x) || nat_eq (suc (rank w)) (rank x)) Rank ▹
    needs (same_shape (part_shape (rank x - 1) w) (cell_shape x)) Length ▹
    array (axes x) (values xs) (fill_of x)

-- `w»x`, `w«x`: as many cells as x has, the first of w and then x, or the last of x and then w
abbrev pub shift_before_row : Value → Value → Result Value Fault
shift_before_row w x = shifted_in w x (take (length (elements x)) (elements w ++ elements x))

abbrev pub shift_after_row : Value → Value → Result Value Fault
shift_after_row w x = shifted_in w x (drop (length (elements w)) (elements x ++ elements w))

-- ---- turning

-- the numbers below n, from the greatest on
abbrev pub downward : ℕ → List ℕ
downward zero = []
downward (suc n) = n ∷ downward n

-- `⌽x`: the cells from the last to the first
abbrev pub reverse_row : Value → Result Value Fault
reverse_row x = needs (has_cells x) Rank ▹ moved x (move_cells (downward (cell_count x)) (axes x))

-- a number modulo n
abbrev pub wrapped : ℤ → (n : ℕ) → ℕ
wrapped (pos w) n = w % n
wrapped (negsuc w) n = (n - 1) - w % n

-- of n cells each the one w places further on, round the end
abbrev pub turned : (w : ℤ) → (n : ℕ) → Along
turned w n = map (λ i. Some ((i + wrapped w n) % n)) (range_with_len 0 n)

-- `w⌽x`: w is a number list, not longer than x has axes; each of the first axes is turned by its number; an atom is as it is (own)
abbrev pub rotate_row : Value → Value → Result Value Fault
rotate_row w x = and_then (number_list w) (λ ws.
    needs (nat_le (length ws) (rank x)) Rank ▹
    cond (is_array x) (moved x (move_along (pairwise turned ws (axes x)) (axes x))) (Ok x))

-- ---- axes in another order

abbrev pub is_among : ℕ → List ℕ → Bool
is_among a named = list_any (λ b. nat_eq a b) named

-- the lengths of the axes that become axis a; the least of them
abbrev pub lengths_at : (a : ℕ) → (to shape : List ℕ) → List ℕ
lengths_at a (b ∷ to) (n ∷ shape) = cond (nat_eq a b) (n ∷ lengths_at a to shape) (lengths_at a to shape)
lengths_at a to shape = []

abbrev pub least : List ℕ → ℕ
least [] = 0
least (n ∷ []) = n
least (n ∷ ns) = cond (nat_le n (least ns)) n (least ns)

-- each axis of x becomes the axis that stands at its place in `to`; there are r of these, each as long as the shortest that becomes it
abbrev pub reordered : (r : ℕ) → (to : List ℕ) → Value → Result Value Fault
reordered r to x = moved x (move_by (axes x) (map (λ a. least (lengths_at a to (axes x))) (range_with_len 0 r)) (λ i. map (λ a. get_or i a 0) to))

-- `⍉x`: the first axis becomes the last; with fewer than two axes x (own)
abbrev pub transpose_row : Value → Result Value Fault
transpose_row x = let last = rank x - 1 in cond (is_flat x) (Ok x) (reordered (rank x) (last ∷ range_with_len 0 last) x)

-- how many numbers there are, equal ones once
abbrev pub distinct : List ℕ → ℕ
distinct [] = 0
distinct (a ∷ rest) = cond (is_among a rest) (distinct rest) (suc (distinct rest))

-- `w⍉x`: w is a list of naturals, not longer than x has axes; these are what its first axes become, and the others become the free ones in
-- their order; all are below the rank of the answer
abbrev pub reorder_row : Value → Value → Result Value Fault
reorder_row w x =
    needs (is_flat w) Rank ▹
    needs (nat_le (length (elements w)) (rank x)) Rank ▹
    and_then (naturals w) (λ ws. let r = (rank x - length ws) + distinct ws in
    needs (list_all (λ a. nat_lt a r) ws) Rank ▹
    reordered r (ws ++ filter (λ a. not (is_among a ws)) (range_with_len 0 r)) x)

-- ---- asserting

abbrev pub asserted : (message : List ℕ) → Value → Result Value Fault
asserted message (Number (pos (suc zero))) = Ok (natural 1)
asserted message x = Err (Assert message)

-- `!x`, `w!x`: the number 1, else Assert without a message, or with w as `•Fmt` writes it
abbrev pub assert_row : Value → Result Value Fault
assert_row x = asserted [] x

abbrev pub assert_with_row : Value → Value → Result Value Fault
assert_with_row w x = asserted (formatted w) x
