-- Queues, as lists.
use Rattle.std.specs.Prelude.{List, [], ◌∷◌, Option, Some, None}

-- the element, where there is one alone
abbrev pub only : {A : Type 0} → List A → Option A
only (x ∷ []) = Some x
only _ = None
