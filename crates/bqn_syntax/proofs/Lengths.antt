-- What is read of a text is no longer than it.
use Rattle.std.proofs.Common.{◌≡◌, ◌≤◌, ◌^◌, ℕ, suc, List, [], ◌∷◌, Bool, true, false, Result, Ok, Err, length, refl, subst, ap, arith}
use Rattle.std.specs.Prelude.{nat_lt, ◌==◌}
use Rattle.std.specs.Str.{chars, is_utf8, IsUtf8}
use Rattle.std.specs.Str.Lossy.{utf8_valid_len}
use Rattle.std.proofs.lemmas.Bool.Decides.{nat_tests}
use Rattle.std.proofs.lemmas.Str.{IsUtf8-from_is_utf8, encodes-chars, length-le-encodes}
use Rattle.bqn_base.specs.Literal.{unquoted}
use Rattle.bqn_base.specs.declared.refusal.Refusal.{Refusal}
use Rattle.bqn_base.specs.declared.refusal.Refusal.TheVariants.{TooLong, NotUtf8}
use Rattle.bqn_syntax.specs.text.Text.{text_of, without_returns, is_dropped}
use Rattle.bqn_syntax.specs.text.Tokens.{all_but_last}

pub length-without_returns : (cs : List ℕ) → length (without_returns cs) ≤ length cs
length-without_returns [] = omega arith
length-without_returns (c ∷ cs) = at (is_dropped c cs) (length-without_returns cs)
  where
    at : (dropped : Bool) → length (without_returns cs) ≤ length cs → length (elim dropped as (λ _. List ℕ) [ true ↦ without_returns cs | false ↦ c ∷ without_returns cs ]) ≤ suc (length cs)
    at true le = omega arith
    at false le = omega arith

pub length-text : (bytes : List ℕ) → length bytes ≤ 2 ^ 20 → IsUtf8 bytes → length (without_returns (chars bytes)) ≤ 2 ^ 20
length-text bytes le u =
    let same = ap (λ (b : List ℕ). length b) (encodes-chars bytes u) in
    let kept = length-without_returns (chars bytes) in
    let most = length-le-encodes (chars bytes) in
    omega arith

abbrev text_if : Bool → Bool → List ℕ → Result (List ℕ) Refusal
text_if long valid bytes = elim long [
  | true ↦ Err TooLong
  | false ↦ elim valid [ true ↦ Ok (without_returns (chars bytes)) | false ↦ Err (NotUtf8 (utf8_valid_len bytes)) ]
]

pub text_of-short : (bytes text : List ℕ) → text_of bytes ≡ Ok text → length text ≤ 2 ^ 20
text_of-short bytes text e = at (nat_lt (2 ^ 20) (length bytes)) (is_utf8 bytes) refl refl e
  where
    at : (long valid : Bool) → nat_lt (2 ^ 20) (length bytes) ≡ long → is_utf8 bytes ≡ valid → text_if long valid bytes ≡ Ok text → length text ≤ 2 ^ 20
    at true valid is utf8 e = absurd (cc)
    at false false is utf8 e = absurd (cc)
    at false true is utf8 e =
        let le : length bytes ≤ 2 ^ 20 = grind (arith, nat_tests) in
        let same : without_returns (chars bytes) ≡ text = cc in
        subst (λ (t : List ℕ). length t ≤ 2 ^ 20) same (length-text bytes le (IsUtf8-from_is_utf8 bytes utf8))

pub length-all_but_last : (cs : List ℕ) → length (all_but_last cs) ≤ length cs
length-all_but_last [] = omega arith
length-all_but_last (c ∷ []) = omega arith
length-all_but_last (c ∷ d ∷ cs) = omega (arith, length-all_but_last (d ∷ cs))

pub length-unquoted : (cs : List ℕ) → length (unquoted cs) ≤ length cs
length-unquoted [] = omega arith
length-unquoted (c ∷ []) = omega arith
length-unquoted (c ∷ d ∷ cs) = at (c == 34) (length-unquoted cs) (length-unquoted (d ∷ cs))
  where
    at : (quote : Bool) → length (unquoted cs) ≤ length cs → length (unquoted (d ∷ cs)) ≤ suc (length cs) → length (elim quote as (λ _. List ℕ) [ true ↦ 34 ∷ unquoted cs | false ↦ c ∷ unquoted (d ∷ cs) ]) ≤ suc (suc (length cs))
    at true one more = omega arith
    at false one more = omega arith
