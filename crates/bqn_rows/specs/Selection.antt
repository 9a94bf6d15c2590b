-- The rows of selection: BQN's pages on replicate and indices, on select and on pick. LeftOut, and what is marked as own, are this
-- project's own. Each comment tells its row; conditions come in their order.
use Rattle.std.specs.Prelude.{ℕ, zero, suc, nat_eq, not, List, [], ◌∷◌, ◌++◌, length, map, get_or, replicate, sum, Result, Ok, Err}
use Rattle.bqn_base.specs.declared.fault.Fault.{Fault}
use Rattle.bqn_base.specs.declared.fault.Fault.TheVariants.{Rank, Length, LeftOut}
use Rattle.bqn_rows.specs.Plain.{Value}
use Rattle.bqn_rows.specs.Arrays.{axes, elements, rank, cell_count, cell_shape, has_cells, is_flat, holds_atoms, needs, and_then, ◌▹◌, all_ok, pairwise, natural, numbers_in, numbers, naturals, place_on, place_at, moved, in_place, move_cells}

-- the numbers from i on, each as often as its count says
abbrev pub repeated : (counts : List ℕ) → (i : ℕ) → List ℕ
repeated [] i = []
repeated (k ∷ counts) i = replicate k i ++ repeated counts (suc i)

-- `/x`: x is a list of naturals; each of its indices, as often as stands there
abbrev pub indices_row : Value → Result Value Fault
indices_row x = needs (nat_eq (rank x) 1) Rank ▹ and_then (naturals x) (λ counts. numbers_in (sum counts ∷ []) (repeated counts 0))

-- a count for each of n cells: a number counts for all, and a list has n of them
abbrev pub counts_for : (n : ℕ) → (rank : ℕ) → List ℕ → Result (List ℕ) Fault
counts_for n zero (k ∷ []) = Ok (replicate n k)
counts_for n rank counts = needs (nat_eq (length counts) n) Length ▹ Ok counts

-- `w/x`: x has cells; w is a list of naturals; each cell as often as its count says
abbrev pub replicate_row : Value → Value → Result Value Fault
replicate_row w x =
    needs (has_cells x) Rank ▹
    needs (is_flat w) Rank ▹
    needs (holds_atoms w) LeftOut ▹
    and_then (naturals w) (λ ks.
    and_then (counts_for (cell_count x) (rank w) ks) (λ counts.
    moved x (move_cells (repeated counts 0) (axes x))))

-- `⊏x`: x has a cell; the first one
abbrev pub first_cell_row : Value → Result Value Fault
first_cell_row x =
    needs (has_cells x) Rank ▹
    needs (not (nat_eq (cell_count x) 0)) Length ▹
    moved x (in_place (cell_shape x))

-- `w⊏x`: x has cells; w is numbers in any shape, each names a cell, from the end if it is negative; in the shape of w these cells
abbrev pub select_row : Value → Value → Result Value Fault
select_row w x =
    needs (has_cells x) Rank ▹
    needs (holds_atoms w) LeftOut ▹
    and_then (numbers w) (λ ws.
    and_then (all_ok (map (λ i. place_on i (cell_count x)) ws)) (λ is.
    moved x (record (move_cells is (axes x)) { shape = axes w ++ cell_shape x })))

-- `⊑x`: the first element, if there is one (own); an atom is its own
abbrev pub first_of : List Value → Result Value Fault
first_of [] = Err Length
first_of (x ∷ xs) = Ok x

abbrev pub first_row : Value → Result Value Fault
first_row x = first_of (elements x)

-- `w⊑x`: w is a number list, one number for each axis of x, in which it names a place; the element there
abbrev pub pick_row : Value → Value → Result Value Fault
pick_row w x =
    needs (is_flat w) Rank ▹
    needs (holds_atoms w) LeftOut ▹
    and_then (numbers w) (λ ws.
    needs (nat_eq (length ws) (rank x)) Rank ▹
    and_then (all_ok (pairwise place_on ws (axes x))) (λ is.
    Ok (get_or (elements x) (place_at (axes x) is) (natural 0))))
