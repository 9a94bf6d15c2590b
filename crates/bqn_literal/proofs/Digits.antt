-- What the digits that were read stand for.
use Rattle.std.proofs.Common.{◌≡◌, ◌≤◌, ◌<◌, ◌+◌, ◌-◌, ◌*◌, ◌%◌, ◌^◌, ℕ, Bool, true, false, cond, Option, Some, None, List, [], ◌∷◌, ◌++◌, refl, sym, ap, subst, ◌∙◌, arith}
use Rattle.std.specs.Prelude.{nat_lt, ◌==◌, ◌&&◌, if◌then◌else◌}
use Rattle.std.specs.List.{list_all}
use Rattle.std.specs.Option.{option_and_then, option_map}
use Rattle.std.proofs.lemmas.Bool.{and_parts}
use Rattle.std.proofs.lemmas.Bool.Decides.{nat_tests}
use Rattle.std.proofs.lemmas.Nat.{pow-add, mod-mul-add}
use Rattle.std.proofs.Math.Nat.{mul_assoc}
use Rattle.bqn_base.specs.Characters.{is_digit}
use Rattle.bqn_base.specs.Literal.{value_from}
use Rattle.bqn_literal.specs.Shown.{figures}
use Rattle.bqn_literal.specs.Values.{ended, nothing, with_digit, with_digits}
use Rattle.bqn_literal.specs.declared.significand.Significand.{Significand}
use Rattle.bqn_literal.proofs.Small.{le-times_ten}
use Rattle.bqn_literal.proofs.Reading.{digit-greatest}

abbrev pub worth : Significand → ℕ
worth s = s.magnitude * 10 ^ s.zeros

-- the digits up to the last that is not zero pass 64 bits
pub record IsWide (value : ℕ) : Type 0 where
  pub magnitude : ℕ
  pub zeros : ℕ
  pub large : 2 ^ 64 ≤ magnitude
  pub ends : 0 < magnitude % 10
  pub is : value ≡ magnitude * 10 ^ zeros

abbrev pub Ends : Significand → Type 0
Ends s = 0 < s.magnitude → 0 < s.magnitude % 10

-- a significand for a value
pub record IsHeld (value : ℕ) (s : Significand) : Type 0 where
  pub ends : Ends s
  pub is : worth s ≡ value

abbrev pub IsRead : (value : ℕ) → Option Significand → Type 0
IsRead value None = IsWide value
IsRead value (Some s) = IsHeld value s

one_zero_more : (n z : ℕ) → n * 10 ^ (z + 1) ≡ n * 10 ^ z * 10
one_zero_more n z = ap (λ (x : ℕ). n * x) (pow-add 10 z 1) ∙ sym (mul_assoc n (10 ^ z) 10)

last_digit : (n z d : ℕ) → d < 10 → (n * 10 ^ (z + 1) + d) % 10 ≡ d
last_digit n z d h = ap (λ (x : ℕ). (x + d) % 10) (one_zero_more n z) ∙ mod-mul-add (n * 10 ^ z) 10 d h

times_one : (n : ℕ) → n * 10 ^ 0 ≡ n
times_one n = omega arith

none_before : (z d : ℕ) → d ≡ 0 * 10 ^ z * 10 + d
none_before z d = omega arith

abbrev digit_case : (n z d : ℕ) → (none last : Bool) → Option ℕ → Option Significand
digit_case n z d none last more = if none then Some (ended d) else if last then Some (record { magnitude = n; zeros = z + 1 }) else option_map ended more

abbrev fitting : Bool → ℕ → Option ℕ
fitting fits n = if fits then Some n else None

read_digit : (n z d : ℕ) (none last fits : Bool) → (n == 0) ≡ none → (d == 0) ≡ last → nat_lt (n * 10 ^ (z + 1) + d) (2 ^ 64) ≡ fits → (0 < n → 0 < n % 10) → d < 10 → IsRead (n * 10 ^ z * 10 + d) (digit_case n z d none last (fitting fits (n * 10 ^ (z + 1) + d)))
read_digit n z d true last fits a b e h below =
    let k : n ≡ 0 = grind (arith, nat_tests) in
    record { ends = λ p. omega arith; is = times_one d ∙ none_before z d ∙ ap (λ (x : ℕ). x * 10 ^ z * 10 + d) (sym k) }
read_digit n z d false true fits a b e h below =
    let k : d ≡ 0 = grind (arith, nat_tests) in
    let o = one_zero_more n z in
    record { ends = h; is = omega arith }
read_digit n z d false false true a b e h below =
    let k : ¬ (d ≡ 0) = grind (arith, nat_tests) in
    let o = one_zero_more n z in
    let l = last_digit n z d below in
    record { ends = λ p. omega arith; is = times_one (n * 10 ^ (z + 1) + d) ∙ omega arith }
read_digit n z d false false false a b e h below =
    let k : ¬ (d ≡ 0) = grind (arith, nat_tests) in
    let o = one_zero_more n z in
    let l = last_digit n z d below in
    record { magnitude = n * 10 ^ (z + 1) + d; zeros = 0; large = grind (arith, nat_tests); ends = omega arith; is = omega (arith, times_one (n * 10 ^ (z + 1) + d)) }

with_digit-read : (s : Significand) (d : ℕ) → Ends s → d < 10 → IsRead (worth s * 10 + d) (with_digit s d)
with_digit-read s d h below = read_digit s.magnitude s.zeros d (s.magnitude == 0) (d == 0) (nat_lt (s.magnitude * 10 ^ (s.zeros + 1) + d) (2 ^ 64)) refl refl refl h below

wide_digit : (v d : ℕ) → d < 10 → (last : Bool) → (d == 0) ≡ last → IsWide v → IsWide (v * 10 + d)
wide_digit v d below true e w =
    let k : d ≡ 0 = grind (arith, nat_tests) in
    let o = one_zero_more w.magnitude w.zeros in
    record { magnitude = w.magnitude; zeros = w.zeros + 1; large = w.large; ends = w.ends; is = omega (arith, w.is) }
wide_digit v d below false e w =
    let k : ¬ (d ≡ 0) = grind (arith, nat_tests) in
    let n = w.magnitude * 10 ^ (w.zeros + 1) + d in
    let o = one_zero_more w.magnitude w.zeros in
    let l = last_digit w.magnitude w.zeros d below in
    let g = le-times_ten w.magnitude (w.zeros + 1) in
    record { magnitude = n; zeros = 0; large = omega (arith, w.large); ends = omega arith; is = omega (arith, w.is, times_one n) }

digit-below : (c : ℕ) → is_digit c ≡ true → c - 48 < 10
digit-below c h = let g = digit-greatest c h in omega arith

value_from-wide : (v : ℕ) (ds : List ℕ) → list_all is_digit ds ≡ true → IsWide v → IsWide (value_from v ds)
value_from-wide v [] a w = w
value_from-wide v (c ∷ cs) a w =
    let p = and_parts (is_digit c) (list_all is_digit cs) a in
    value_from-wide (v * 10 + (c - 48)) cs p.1 (wide_digit v (c - 48) (digit-below c p.0) ((c - 48) == 0) refl w)

-- digits that follow a value of which the digits were read
read_on : (value after : ℕ) (ds : List ℕ) (o : Option Significand) → IsRead value o → (IsWide value → IsWide after) → ((s : Significand) → IsHeld value s → IsRead after (with_digits ds s)) → IsRead after (option_and_then (with_digits ds) o)
read_on value after ds None r wide held = wide r
read_on value after ds (Some s) r wide held = held s r

with_digits-read : (ds : List ℕ) (s : Significand) → list_all is_digit ds ≡ true → Ends s → IsRead (value_from (worth s) ds) (with_digits ds s)
with_digits-read [] s a h = record { ends = h; is = refl }
with_digits-read (c ∷ cs) s a h =
    let p = and_parts (is_digit c) (list_all is_digit cs) a in
    let v = worth s * 10 + (c - 48) in
    read_on v (value_from v cs) cs (with_digit s (c - 48)) (with_digit-read s (c - 48) h (digit-below c p.0))
    (value_from-wide v cs p.1)
    (λ (t : Significand) (k : IsHeld v t). subst (λ (x : ℕ). IsRead (value_from x cs) (with_digits cs t)) k.is (with_digits-read cs t p.1 k.ends))

value_from-append : (v : ℕ) (ds es : List ℕ) → value_from v (ds ++ es) ≡ value_from (value_from v ds) es
value_from-append v [] es = refl
value_from-append v (d ∷ ds) es = value_from-append (v * 10 + (d - 48)) ds es

-- two parts, read one after the other
pub parts-read : (ds es : List ℕ) → list_all is_digit ds ≡ true → list_all is_digit es ≡ true → IsRead (value_from 0 (ds ++ es)) (option_and_then (with_digits es) (with_digits ds nothing))
parts-read ds es a b =
    let v = value_from 0 ds in
    subst (λ (x : ℕ). IsRead x (option_and_then (with_digits es) (with_digits ds nothing))) (sym (value_from-append 0 ds es))
    (read_on v (value_from v es) es (with_digits ds nothing) (with_digits-read ds nothing a (λ h. absurd (omega arith)))
    (value_from-wide v es b)
    (λ (t : Significand) (k : IsHeld v t). subst (λ (x : ℕ). IsRead (value_from x es) (with_digits es t)) k.is (with_digits-read es t b k.ends)))

figure_all : (digit : Bool) (c : ℕ) (cs : List ℕ) → is_digit c ≡ digit → list_all is_digit (figures cs) ≡ true → list_all is_digit (cond digit (c ∷ figures cs) (figures cs)) ≡ true
figure_all true c cs h a = ap (λ (b : Bool). b && list_all is_digit (figures cs)) h ∙ a
figure_all false c cs h a = a

pub figures-are_digits : (cs : List ℕ) → list_all is_digit (figures cs) ≡ true
figures-are_digits [] = refl
figures-are_digits (c ∷ cs) = figure_all (is_digit c) c cs refl (figures-are_digits cs)
