-- The cut of a text into pieces, each as long as possible: BQN's page on tokens.
use Rattle.std.specs.Prelude.{◌≡◌, ◌≤◌, ◌-◌, ℕ, zero, suc, Bool, true, false, List, [], ◌∷◌, length, take, drop, Option, Some, None}
use Rattle.bqn_syntax.specs.declared.progress.Progress.{Progress}
use Rattle.bqn_syntax.specs.declared.progress.Progress.TheVariants.{Start}
use Rattle.bqn_syntax.specs.text.Table.{next, is_final, is_piece}

-- a piece of so many characters stands in front, and no longer one
pub record IsFirst (text : List ℕ) (count : ℕ) : Type 0 where
  pub inside : count ≤ length text
  pub some : 1 ≤ count
  pub piece : is_piece (take count text) ≡ true
  pub longest : (other : ℕ) → other ≤ length text → is_piece (take other text) ≡ true → other ≤ count

-- the pieces, joined, are the text, and no longer piece starts where one of them does
pub data Cuts : List ℕ → List (List ℕ) → Type 0 where
  no_more : Cuts [] []
  piece : {text : List ℕ} {pieces : List (List ℕ)} (count : ℕ) → IsFirst text count → Cuts (drop count text) pieces → Cuts text (take count text ∷ pieces)

-- one more than a longest piece, where the first character may end one
abbrev pub one_more : Bool → Option ℕ → Option ℕ
one_more final (Some count) = Some (suc count)
one_more true None = Some 1
one_more false None = None

-- how long the longest piece in front is that begins in this state
abbrev pub longest : Progress → List ℕ → Option ℕ
longest state [] = None
longest state (c ∷ cs) = elim (next state c) [ None ↦ None | Some after ↦ one_more (is_final after) (longest after cs) ]

abbrev pub with_piece : List ℕ → Option (List (List ℕ)) → Option (List (List ℕ))
with_piece front None = None
with_piece front (Some pieces) = Some (front ∷ pieces)

-- the pieces behind so many characters, or none where there is no cut
abbrev pub pieces_behind : ℕ → List ℕ → Option (List (List ℕ))
pieces_behind count [] = Some []
pieces_behind (suc count) (c ∷ cs) = pieces_behind count cs
pieces_behind zero (c ∷ cs) = elim (longest Start (c ∷ cs)) [
  | None ↦ None
  | Some count ↦ with_piece (take count (c ∷ cs)) (pieces_behind (count - 1) cs)
]

-- the pieces of a text, or none where there is no cut
abbrev pub pieces_of : List ℕ → Option (List (List ℕ))
pieces_of text = pieces_behind 0 text
