-- The rows of order: BQN's pages on ordered functions. NoOrder is this project's own. Each comment tells its row; conditions come in their order.
use Rattle.std.specs.Prelude.{ℕ, ◌-◌, nat_le, Bool, true, false, not, cond, ◌&&◌, List, [], ◌∷◌, ◌++◌, map, get_or, count_by, Result, Ok}
use Rattle.std.specs.List.{range_with_len}
use Rattle.bqn_base.specs.declared.fault.Fault.{Fault}
use Rattle.bqn_base.specs.declared.fault.Fault.TheVariants.{Rank, Domain, NoOrder}
use Rattle.bqn_rows.specs.Plain.{Value, values}
use Rattle.bqn_rows.specs.Relations.{Levels, no_level, all_levels, before}
use Rattle.bqn_rows.specs.Arrays.{axes, rank, cell_count, frame, parts, cells, has_cells, needs, and_then, ◌▹◌, natural, numbers_in, list_of_numbers, moved, move_cells}

-- which of two values stands first: the lesser, or the greater
abbrev pub Ahead : Type 0
Ahead = Value → Value → Bool

abbrev pub rising : Ahead
rising w x = before w x

abbrev pub falling : Ahead
falling w x = before x w

abbrev pub is_any : Levels → Bool
is_any no_level = false
is_any _ = true

-- the values have a common level
abbrev pub are_ordered : List Value → Bool
are_ordered xs = is_any (all_levels (values xs))

-- ---- sorting

-- an item put in front of the first that does not stand ahead of it
abbrev pub inserted : {X : Type 0} → (X → X → Bool) → X → List X → List X
inserted ahead x [] = x ∷ []
inserted ahead x (y ∷ ys) = cond (ahead y x) (y ∷ inserted ahead x ys) (x ∷ y ∷ ys)

-- the items in order; of equals the first remains the first
abbrev pub in_order : {X : Type 0} → (X → X → Bool) → List X → List X
in_order ahead [] = []
in_order ahead (x ∷ xs) = inserted ahead x (in_order ahead xs)

abbrev pub ahead_at : Ahead → List Value → (i j : ℕ) → Bool
ahead_at ahead xs i j = ahead (get_or xs i (natural 0)) (get_or xs j (natural 0))

-- the numbers of the cells, in order
abbrev pub graded : Ahead → Value → Result (List ℕ) Fault
graded ahead x =
    needs (has_cells x) Rank ▹
    needs (are_ordered (cells x)) NoOrder ▹
    Ok (in_order (ahead_at ahead (cells x)) (range_with_len 0 (cell_count x)))

abbrev pub grade : Ahead → Value → Result Value Fault
grade ahead x = and_then (graded ahead x) list_of_numbers

-- `⍋x`, `⍒x`: x has cells of one level; their numbers in rising, in falling order, equal cells as they come
abbrev pub grade_up_row : Value → Result Value Fault
grade_up_row x = grade rising x

abbrev pub grade_down_row : Value → Result Value Fault
grade_down_row x = grade falling x

abbrev pub sorted : Ahead → Value → Result Value Fault
sorted ahead x = and_then (graded ahead x) (λ is. moved x (move_cells is (axes x)))

-- `∧x`, `∨x`: the cells in this order
abbrev pub sort_up_row : Value → Result Value Fault
sort_up_row x = sorted rising x

abbrev pub sort_down_row : Value → Result Value Fault
sort_down_row x = sorted falling x

-- ---- bins

-- none stands ahead of the one before it
abbrev pub are_in_order : Ahead → List Value → Bool
are_in_order ahead (x ∷ y ∷ ys) = not (ahead y x) && are_in_order ahead (y ∷ ys)
are_in_order ahead xs = true

-- w has cells, and x is parts of their rank m; cells and parts have a common level, and the cells are in order, else Domain; of each part
-- how many cells it does not stand ahead of
abbrev pub bins : Ahead → Value → Value → Result Value Fault
bins ahead w x = let m = rank w - 1 in
    needs (has_cells w) Rank ▹
    needs (nat_le m (rank x)) Rank ▹
    needs (are_ordered (cells w ++ parts m x)) NoOrder ▹
    needs (are_in_order ahead (cells w)) Domain ▹
    numbers_in (frame m x) (map (λ p. count_by (λ c. not (ahead p c)) (cells w)) (parts m x))

-- `w⍋x`, `w⍒x`: for each part of x how many cells of a rising w are not after it, of a falling w not before it
abbrev pub bins_up_row : Value → Value → Result Value Fault
bins_up_row w x = bins rising w x

abbrev pub bins_down_row : Value → Value → Result Value Fault
bins_down_row w x = bins falling w x
