-- Rows of values are lists, and fills are options.
use Rattle.std.proofs.Common.{◌≡◌, suc, List, [], ◌∷◌, length, Option, Some, None, refl, ap}
use Rattle.bqn_rows.specs.Plain.{Value, Values, none, more, Fill, unfilled, filled, values, list, fill, count}
use Rattle.bqn_rows.specs.Relations.{carried}
use Rattle.bqn_rows.specs.Laws.{RowsAreLists}

pub list-values : (xs : List Value) → list (values xs) ≡ xs
list-values [] = refl
list-values (x ∷ xs) = ap (λ ys. x ∷ ys) (list-values xs)

pub values-list : (xs : Values) → values (list xs) ≡ xs
values-list none = refl
values-list (more x xs) = ap (λ ys. more x ys) (values-list xs)

pub count-values : (xs : List Value) → count (values xs) ≡ length xs
count-values [] = refl
count-values (x ∷ xs) = ap suc (count-values xs)

pub carried-fill : (f : Option Value) → carried (fill f) ≡ f
carried-fill None = refl
carried-fill (Some v) = refl

pub fill-carried : (f : Fill) → fill (carried f) ≡ f
fill-carried unfilled = refl
fill-carried (filled v) = refl

pub rows_are_lists : RowsAreLists
rows_are_lists = record {
  list_of_row = list-values;
  row_of_list = values-list;
  counted = count-values;
  carried_fill = carried-fill;
  fill_carried = fill-carried;
}

pub ruleset row_laws = (rows_are_lists)
