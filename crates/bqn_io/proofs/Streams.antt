-- Writes in pieces, at a writer that tells its bytes.
use Rattle.std.proofs.Common.{◌≡◌, ℕ, Option, Some, None, List, ◌++◌}

-- the new bytes, with the rest behind them, are the old bytes and the piece
abbrev pub Writes : Option (List ℕ) → List ℕ → Option (List ℕ) → List ℕ → Type 0
Writes None piece new rest = Unit {0}
Writes (Some old) piece None rest = ⊥
Writes (Some old) piece (Some new) rest = new ++ rest ≡ old ++ piece
