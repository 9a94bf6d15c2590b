-- The text of a source: BQN's page on tokens, with the limit and the carriage returns of this project.
use Rattle.std.specs.Prelude.{ℕ, ◌^◌, nat_lt, ◌==◌, Bool, true, false, ◌&&◌, List, [], ◌∷◌, length, Result, Ok, Err}
use Rattle.std.specs.Str.{is_utf8, chars}
use Rattle.std.specs.Str.Lossy.{utf8_valid_len}
use Rattle.bqn_base.specs.Characters.{newline, carriage_return}
use Rattle.bqn_base.specs.declared.refusal.Refusal.{Refusal}
use Rattle.bqn_base.specs.declared.refusal.Refusal.TheVariants.{TooLong, NotUtf8}

-- a carriage return directly before a line feed
abbrev pub is_dropped : ℕ → List ℕ → Bool
is_dropped c [] = false
is_dropped c (d ∷ ds) = (c == carriage_return) && (d == newline)

abbrev pub without_returns : List ℕ → List ℕ
without_returns [] = []
without_returns (c ∷ cs) = elim (is_dropped c cs) [ true ↦ without_returns cs | false ↦ c ∷ without_returns cs ]

-- the code points of a source of at most 2^20 bytes, or its refusal at the longest valid prefix
abbrev pub text_of : List ℕ → Result (List ℕ) Refusal
text_of bytes = elim (nat_lt (2 ^ 20) (length bytes)) [
  | true ↦ Err TooLong
  | false ↦ elim (is_utf8 bytes) [ true ↦ Ok (without_returns (chars bytes)) | false ↦ Err (NotUtf8 (utf8_valid_len bytes)) ]
]
