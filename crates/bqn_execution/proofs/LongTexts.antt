-- A text past the limits of values: a constant that is a fault where it is pushed, and that no value matches.
use Rattle.std.proofs.Common.{◌≡◌, ℕ, ◌+◌, ◌^◌, ◌≤◌, ◌&&◌, Bool, true, false, List, [], ◌∷◌, map, length, Some, Ok, Err, refl, ap, ◌∙◌, arith}
use Rattle.std.proofs.lemmas.Bool.{lt-leb}
use Rattle.bqn_base.specs.declared.fault.Fault.TheVariants.{TooLarge}
use Rattle.bqn_rows.specs.Plain.{Value, Character, Array, Values, values, unfilled}
use Rattle.bqn_rows.specs.Relations.{weights}
use Rattle.bqn_rows.specs.Limits.{is_small, is_low, is_shape, if_within, made}
use Rattle.bqn_meaning.specs.Matching.{Mismatch, literal_fit}
use Rattle.bqn_code.specs.declared.constant.Const.TheVariants as const
use Rattle.bqn_execution.specs.Patterns.{constant_value, constant_fit}

weights_of : (cs : List ℕ) → weights (values (map Character cs)) ≡ length cs
weights_of [] = refl
weights_of (c ∷ cs) = ap (λ n. 1 + n) (weights_of cs) ∙ omega arith

and_false : (a : Bool) → (a && false) ≡ false
and_false true = refl
and_false false = refl

too_large : (v : Value) → is_small v ≡ false → made v ≡ Err TooLarge
too_large v h = ap (λ b. if_within b (is_low v) v) h

heavy : (shape : List ℕ) (xs : Values) → 2 ^ 22 ≤ weights xs → is_small (Array shape xs unfilled) ≡ false
heavy shape xs h = ap (λ b. is_shape shape && b) (lt-leb (1 + weights xs) (2 ^ 22) (omega arith)) ∙ and_false (is_shape shape)

pub long_text : (c : ℕ) (cs : List ℕ) → 2 ^ 22 ≤ length (c ∷ cs) → constant_value (const.Text (c ∷ cs)) ≡ Err TooLarge
long_text c cs h = too_large (Array (length (c ∷ cs) ∷ []) (values (map Character (c ∷ cs))) unfilled) (heavy (length (c ∷ cs) ∷ []) (values (map Character (c ∷ cs))) (let e : weights (values (map Character (c ∷ cs))) ≡ length (c ∷ cs) = weights_of (c ∷ cs) in omega arith))

pub long_text_matches_nothing : (c : ℕ) (cs : List ℕ) (v : Value) → 2 ^ 22 ≤ length (c ∷ cs) → constant_fit (Some (const.Text (c ∷ cs))) v ≡ Ok Mismatch
long_text_matches_nothing c cs v h = ap (λ r. literal_fit r v) (long_text c cs h)
