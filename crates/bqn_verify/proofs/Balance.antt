-- The heights of a code, and the rows of bodies.
use Rattle.std.proofs.Common.{◌≡◌, ◌≤◌, ◌<◌, ◌+◌, ◌-◌, ℕ, suc, Bool, true, false, ◌&&◌, nat_eq, nat_le, List, [], length, drop, get_or, sym, ◌∙◌, ap, arith, drop-cons}
use Rattle.std.proofs.lemmas.Bool.{le-leb, lt-leb}
use Rattle.std.proofs.lemmas.List.{drop_all}
use Rattle.bqn_code.specs.declared.instr.Instr.{Instr}
use Rattle.bqn_code.specs.Heights.{takes, gives, is_last, is_balanced, is_empty}

-- one instruction from the front
abbrev pub judged : ℕ → Instr → List Instr → Bool
judged height i is = elim (is_last i) [ true ↦ nat_eq height (takes i) && is_empty is | false ↦ nat_le (takes i) height && is_balanced (height - takes i + gives i) is ]

at-front : (code : List Instr) (at height : ℕ) (i d : Instr) → at < length code → i ≡ get_or code at d → is_balanced height (drop at code) ≡ judged height i (drop (at + 1) code)
at-front code at height i d lt p =
    ap (is_balanced height) (drop-cons code at d lt) ∙ (ap (λ (z : Instr). judged height z (drop (suc at) code)) (sym p) ∙ (let e : suc at ≡ at + 1 = omega arith in ap (λ (k : ℕ). judged height i (drop k code)) e))

pub goes_on : (code : List Instr) (at height : ℕ) (i d : Instr) (whole : Bool) → whole ≡ is_balanced height (drop at code) → at < length code → i ≡ get_or code at d → is_last i ≡ false → takes i ≤ height
    → whole ≡ is_balanced (height - takes i + gives i) (drop (at + 1) code)
goes_on code at height i d whole w lt p l h = w ∙ (at-front code at height i d lt p ∙ (ap (λ b. elim b [ true ↦ nat_eq height (takes i) && is_empty (drop (at + 1) code) | false ↦ nat_le (takes i) height && is_balanced (height - takes i + gives i) (drop (at + 1) code) ]) l
    ∙ ap (λ b. b && is_balanced (height - takes i + gives i) (drop (at + 1) code)) (le-leb (takes i) height h)))

pub too_low : (code : List Instr) (at height : ℕ) (i d : Instr) (whole : Bool) → whole ≡ is_balanced height (drop at code) → at < length code → i ≡ get_or code at d → is_last i ≡ false → height < takes i → false ≡ whole
too_low code at height i d whole w lt p l h = sym (w ∙ (at-front code at height i d lt p ∙ (ap (λ b. elim b [ true ↦ nat_eq height (takes i) && is_empty (drop (at + 1) code) | false ↦ nat_le (takes i) height && is_balanced (height - takes i + gives i) (drop (at + 1) code) ]) l
    ∙ ap (λ b. b && is_balanced (height - takes i + gives i) (drop (at + 1) code)) (lt-leb (takes i) height h))))

pub at_end : (code : List Instr) (at height : ℕ) (whole : Bool) → whole ≡ is_balanced height (drop at code) → length code ≤ at → false ≡ whole
at_end code at height whole w le = let e : drop at code ≡ [] = drop_all at code le in sym (w ∙ ap (is_balanced height) e)

pub ruleset balances = (goes_on, too_low, at_end)
