-- What a take moves is a front of what was left.
use Rattle.std.proofs.Common.{◌≡◌, ℕ, ◌+◌, List, ◌++◌, length, take, drop, sym}
use Rattle.std.proofs.lemmas.List.{take-append-drop, take_at, drop-drop}

pub take-append-drop_more : (left copied rest : List ℕ) (count given : ℕ) (bytes : List ℕ) → left ≡ drop given bytes → copied ≡ take count left → length copied ≡ count
    → left ≡ take count (copied ++ rest) ++ drop (given + count) bytes
take-append-drop_more left copied rest count given bytes l e n =
    rw (take_at copied rest count n, e, ← drop-drop count given bytes, ← l) (sym (take-append-drop count left))

pub ruleset moved = (take-append-drop_more)
