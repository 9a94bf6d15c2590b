-- What is told of a device, and how a call moves it. Told lists are of bytes; None where nothing is told.
use Rattle.std.specs.Prelude.{◌≡◌, ◌<◌, ◌≤◌, ◌-◌, ◌^◌, ℕ, Bool, ◌||◌, ◌&&◌, nat_eq, nat_lt, List, [], ◌++◌, length, Option, Some, None, Result, Ok, Err}
use Rattle.bqn_io.specs.declared.files.Fetched.{Fetched}
use Rattle.bqn_io.specs.declared.files.Fetched.TheVariants.{Whole, Longer}
use Rattle.bqn_io.specs.declared.files.FetchError.{FetchError}
use Rattle.bqn_io.specs.declared.files.FetchError.TheVariants as error

-- the told bytes, after a piece was added behind them
abbrev pub added : Option (List ℕ) → List ℕ → Option (List ℕ)
added None piece = None
added (Some bytes) piece = Some (bytes ++ piece)

-- the told bytes, before a piece was taken from their front
abbrev pub before : List ℕ → Option (List ℕ) → Option (List ℕ)
before piece None = None
before piece (Some rest) = Some (piece ++ rest)

-- nothing is left, as far as it is told
abbrev pub NothingLeft : Option (List ℕ) → Type 0
NothingLeft None = Unit {0}
NothingLeft (Some rest) = rest ≡ []

-- a count of faults rose; at the last value of its counter it counts as risen
abbrev pub Rose : ℕ → ℕ → Type 0
Rose old new = old < 2 ^ 64 - 1 → old < new

-- a front of the piece was added, and nothing else
pub record AddsFront (old new : Option (List ℕ)) (piece : List ℕ) : Type 0 where
  pub front : List ℕ
  pub rest : List ℕ
  pub whole : piece ≡ front ++ rest
  pub new_is : new ≡ added old front

-- whether the end of the input was given, after a take of a count into so many bytes
abbrev pub ended_after : Bool → (count size : ℕ) → Bool
ended_after old count size = old || (nat_eq count 0 && nat_lt 0 size)

-- what is told of a name: nothing, that no such file is kept, or the bytes that are kept
pub data Told : Type 0 where
  Untold : Told
  Missing : Told
  Kept : List ℕ → Told

-- the told bytes come whole where they are no more than the limit, and else it is said that there are more
abbrev pub Fetches : Told → ℕ → Result Fetched FetchError → Type 0
Fetches told limit (Err error) = Unit {0}
Fetches Untold limit (Ok (Whole bytes)) = length bytes ≤ limit
Fetches Untold limit (Ok Longer) = Unit {0}
Fetches Missing limit (Ok fetched) = ⊥
Fetches (Kept kept) limit (Ok (Whole bytes)) = (bytes ≡ kept) × (length bytes ≤ limit)
Fetches (Kept kept) limit (Ok Longer) = limit < length kept

-- such a file is kept
abbrev pub IsKept : Told → Type 0
IsKept (Kept bytes) = Unit {0}
IsKept _ = ⊥

-- the fetch is no failure of the device; want of memory is none
abbrev pub IsNoFailure : Result Fetched FetchError → Type 0
IsNoFailure (Err error.Failed) = ⊥
IsNoFailure _ = Unit {0}

-- a fact for a fetch that failed
abbrev pub OnFailed : Result Fetched FetchError → Type 0 → Type 0
OnFailed (Err error.Failed) fact = fact
OnFailed _ fact = Unit {0}

-- a fact for a fetch that did not fail
abbrev pub OnNoFailure : Result Fetched FetchError → Type 0 → Type 0
OnNoFailure (Err error.Failed) fact = Unit {0}
OnNoFailure _ fact = fact

-- of no name the count fell
abbrev pub NoneFell : (old new : List ℕ → ℕ) → Type 0
NoneFell old new = (name : List ℕ) → old name ≤ new name
