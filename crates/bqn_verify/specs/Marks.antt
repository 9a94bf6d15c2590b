-- Marks of spellings, by which exports with one spelling are found: this project's own.
use Rattle.std.specs.Prelude.{◌≡◌, ℕ, ◌+◌, ◌*◌, ◌%◌, ◌<◌, nat_eq, Bool, true, false, List, [], ◌∷◌, length, drop, get_or, slice_get, Option, Some, None}
use Rattle.std.specs.List.{list_any}
use Rattle.bqn_code.specs.Numbering.{same_name}

abbrev pub mark_from : (mark : ℕ) → List ℕ → ℕ
mark_from m [] = m
mark_from m (c ∷ cs) = mark_from ((m * 33 + c) % 32768) cs

-- names with other marks have other spellings
abbrev pub mark_in : Option (List ℕ) → ℕ
mark_in None = 0
mark_in (Some name) = mark_from 0 name

abbrev pub kept : Bool → ℕ × ℕ → List (ℕ × ℕ) → List (ℕ × ℕ)
kept true e es = e ∷ es
kept false e es = es

-- the exports whose names have this mark
abbrev pub alike : List (List ℕ) → (mark : ℕ) → List (ℕ × ℕ) → List (ℕ × ℕ)
alike names m [] = []
alike names m (e ∷ es) = kept (nat_eq (mark_in (slice_get names e.0)) m) e (alike names m es)

-- whether one of the exports has the spelling of the name with this number
abbrev pub is_again : List (List ℕ) → (name : ℕ) → List (ℕ × ℕ) → Bool
is_again names name es = list_any (λ other. same_name (slice_get names name) (slice_get names other.0)) es

-- for each mark, where the first of the exports from here on stands that has it
abbrev pub Heads : List (List ℕ) → List (ℕ × ℕ) → (from : ℕ) → List ℕ → Type 0
Heads names es from heads = (m : ℕ) → m < length heads → alike names m (drop from es) ≡ alike names m (drop (get_or heads m 0) es)

-- for each export, where the next with its mark stands, or a number that is not behind it where this is not known
abbrev pub Nexts : List (List ℕ) → List (ℕ × ℕ) → List ℕ → Type 0
Nexts names es next = (j : ℕ) → (d : ℕ × ℕ) → j < length es → j < get_or next j 0
    → alike names (mark_in (slice_get names (get_or es j d).0)) (drop (j + 1) es) ≡ alike names (mark_in (slice_get names (get_or es j d).0)) (drop (get_or next j 0) es)
