-- The text of a source, or its refusal.
use Rattle.std.proofs.Common.{◌≡◌, ◌≤◌, ◌<◌, ◌^◌, ℕ, List, Bool, true, false, Result, Ok, Err, length, refl, ap, ◌∙◌, arith}
use Rattle.std.specs.Prelude.{nat_lt}
use Rattle.std.specs.Str.{chars, is_utf8, IsUtf8}
use Rattle.std.specs.Str.Lossy.{utf8_valid_len}
use Rattle.std.proofs.lemmas.Bool.Decides.{nat_tests}
use Rattle.std.proofs.lemmas.Str.{is_utf8-from_IsUtf8, IsUtf8-from_is_utf8, utf8_valid_len_le}
use Rattle.bqn_base.specs.declared.refusal.Refusal.{Refusal}
use Rattle.bqn_base.specs.declared.refusal.Refusal.TheVariants.{TooLong, NotUtf8}
use Rattle.bqn_syntax.specs.text.Text.{text_of, without_returns}
use Rattle.bqn_syntax.proofs.Lengths.{length-text}

abbrev text_if : Bool → Bool → List ℕ → Result (List ℕ) Refusal
text_if long valid bytes = elim long [
  | true ↦ Err TooLong
  | false ↦ elim valid [ true ↦ Ok (without_returns (chars bytes)) | false ↦ Err (NotUtf8 (utf8_valid_len bytes)) ]
]

pub text_of-long : (bytes : List ℕ) → 2 ^ 20 < length bytes → text_of bytes ≡ Err TooLong
text_of-long bytes lt =
    let long : nat_lt (2 ^ 20) (length bytes) ≡ true = grind (arith, nat_tests) in
    ap (λ (b : Bool). text_if b (is_utf8 bytes) bytes) long

text_of-short : (bytes : List ℕ) (valid : Bool) → length bytes ≤ 2 ^ 20 → is_utf8 bytes ≡ valid → text_of bytes ≡ text_if false valid bytes
text_of-short bytes valid le e =
    let short : nat_lt (2 ^ 20) (length bytes) ≡ false = grind (arith, nat_tests) in
    ap (λ (b : Bool). text_if b (is_utf8 bytes) bytes) short ∙ ap (λ (b : Bool). text_if false b bytes) e

pub text_of-utf8 : (bytes : List ℕ) → length bytes ≤ 2 ^ 20 → IsUtf8 bytes → text_of bytes ≡ Ok (without_returns (chars bytes))
text_of-utf8 bytes le u = text_of-short bytes true le (is_utf8-from_IsUtf8 bytes u)

not_valid : (valid : Bool) (bytes : List ℕ) → ¬ (IsUtf8 bytes) → is_utf8 bytes ≡ valid → is_utf8 bytes ≡ false
not_valid true bytes n e = absurd (n (IsUtf8-from_is_utf8 bytes e))
not_valid false bytes n e = e

pub text_of-bytes : (bytes : List ℕ) → length bytes ≤ 2 ^ 20 → ¬ (IsUtf8 bytes) → text_of bytes ≡ Err (NotUtf8 (utf8_valid_len bytes))
text_of-bytes bytes le n = text_of-short bytes false le (not_valid (is_utf8 bytes) bytes n refl)

pub ruleset text_laws = (text_of-long, text_of-utf8, text_of-bytes, length-text, utf8_valid_len_le)
