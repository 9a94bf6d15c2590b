-- What the class of a block says of its bodies.
use Rattle.std.proofs.Common.{◌≡◌, ◌≤◌, ℕ, suc, ◌&&◌, ◌||◌, Bool, true, false, if◌then◌else◌, nat_le, List, ◌∷◌, length, Option, Some, None, arith, refl, sym, ap, subst, ◌∙◌}
use Rattle.std.specs.List.{list_all, list_any}
use Rattle.std.proofs.lemmas.Bool.{true≢false, leb-true}
use Rattle.bqn_base.proofs.Lists.{some_same}
use Rattle.bqn_syntax.specs.declared.tree.Class.{Class}
use Rattle.bqn_syntax.specs.declared.tree.Class.TheVariants as class
use Rattle.bqn_syntax.specs.grammar.Trees.{Bodies, no_bodies, and_bodies}
use Rattle.bqn_syntax.specs.blocks.Blocks.{plain_in}
use Rattle.bqn_syntax.specs.grammar.Classes.{Marks, marks_of, marks_in, has_two, has_one, has_one_self, has_function, is_deferred, is_plain, plain_last, most_plain, has_statement, class_if, class_of}
use Rattle.bqn_syntax.specs.grammar.Classes.{waits}
use Rattle.bqn_code.specs.Conditions.{is_modifier, is_modifier2}
use Rattle.bqn_compile.proofs.verified.Tests.{right_true}

-- a special name or a header of a function, which is called
abbrev pub is_called : Marks → Bool
is_called m = m.seen.args || has_function m

-- what these bodies say of the class of their block
pub record ClassFacts (ms : List Marks) (c : Class) : Type 0 where
  pub two : list_any has_two ms ≡ true → is_modifier2 c ≡ true
  pub one : list_any has_one ms ≡ true → is_modifier c ≡ true
  pub function : list_any has_function ms ≡ true → is_modifier c ≡ false
  pub deferred : list_any is_deferred ms ≡ true → is_modifier c ≡ true → waits c ≡ true
  pub called : list_any is_called ms ≡ true → is_modifier c ≡ false → waits c ≡ true
  pub plain : waits c ≡ false → plain_last 1 ms ≡ true

-- ---- a class that is one

record IsClass (k c : Class) (ms : List Marks) : Type 0 where
  is : k ≡ c
  last : plain_last (most_plain k) ms ≡ true

no_class : {A : Type 0} {c : Class} → None ≡ Some c → A
no_class p = absurd (subst (λ (o : Option Class). elim o as (λ z. Type 0) [ None ↦ Unit {0} | Some x ↦ ⊥ ]) p tt)

is_class : (k c : Class) (ms : List Marks) → class_if k ms ≡ Some c → IsClass k c ms
is_class k c ms q = by (list_all has_statement ms) (plain_last (most_plain k) ms) refl q
  where
    by : (a b : Bool) → plain_last (most_plain k) ms ≡ b → (if a && b then Some k else None) ≡ Some c → IsClass k c ms
    by true true p q = record { is = some_same q; last = p }
    by true false p q = no_class q
    by false b p q = no_class q

-- ---- the facts

no_fact : {A : Type 0} {b : Bool} → b ≡ false → b ≡ true → A
no_fact p q = absurd (true≢false (sym q ∙ p))

two_facts : (d : Bool) (ms : List Marks) (c : Class) → list_any is_deferred ms ≡ d → list_any has_function ms ≡ false →
    class_if (if d then class.Mod2Deferred else class.Mod2) ms ≡ Some c → ClassFacts ms c
two_facts true ms c deferred free q =
    let is : IsClass class.Mod2Deferred c ms = is_class class.Mod2Deferred c ms q in
    subst (λ (k : Class). ClassFacts ms k) is.is (record { two = λ h. refl; one = λ h. refl; function = λ h. no_fact free h; deferred = λ h k. refl; called = λ h k. refl; plain = λ h. no_fact h refl })
two_facts false ms c deferred free q =
    let is : IsClass class.Mod2 c ms = is_class class.Mod2 c ms q in
    subst (λ (k : Class). ClassFacts ms k) is.is (record { two = λ h. refl; one = λ h. refl; function = λ h. no_fact free h; deferred = λ h k. no_fact deferred h; called = λ h k. no_fact k refl; plain = λ h. is.last })

one_facts : (d : Bool) (ms : List Marks) (c : Class) → list_any has_two ms ≡ false → list_any is_deferred ms ≡ d → list_any has_function ms ≡ false →
    class_if (if d then class.Mod1Deferred else class.Mod1) ms ≡ Some c → ClassFacts ms c
one_facts true ms c two deferred free q =
    let is : IsClass class.Mod1Deferred c ms = is_class class.Mod1Deferred c ms q in
    subst (λ (k : Class). ClassFacts ms k) is.is (record { two = λ h. no_fact two h; one = λ h. refl; function = λ h. no_fact free h; deferred = λ h k. refl; called = λ h k. refl; plain = λ h. no_fact h refl })
one_facts false ms c two deferred free q =
    let is : IsClass class.Mod1 c ms = is_class class.Mod1 c ms q in
    subst (λ (k : Class). ClassFacts ms k) is.is (record { two = λ h. no_fact two h; one = λ h. refl; function = λ h. no_fact free h; deferred = λ h k. no_fact deferred h; called = λ h k. no_fact k refl; plain = λ h. is.last })

other_facts : (g : Bool) (ms : List Marks) (c : Class) → list_any has_two ms ≡ false → list_any has_one ms ≡ false → list_any is_called ms ≡ g →
    (if g then class_if class.Function ms else class_if class.Immediate ms) ≡ Some c → ClassFacts ms c
other_facts true ms c two one called q =
    let is : IsClass class.Function c ms = is_class class.Function c ms q in
    subst (λ (k : Class). ClassFacts ms k) is.is (record { two = λ h. no_fact two h; one = λ h. no_fact one h; function = λ h. refl; deferred = λ h k. refl; called = λ h k. refl; plain = λ h. no_fact h refl })
other_facts false ms c two one called q =
    let is : IsClass class.Immediate c ms = is_class class.Immediate c ms q in
    subst (λ (k : Class). ClassFacts ms k) is.is (record { two = λ h. no_fact two h; one = λ h. no_fact one h; function = λ h. refl; deferred = λ h k. no_fact refl k; called = λ h k. no_fact called h; plain = λ h. is.last })

pub class_facts : (ms : List Marks) (c : Class) → class_of ms ≡ Some c → ClassFacts ms c
class_facts ms c q = by (list_any has_two ms) (list_any has_one_self ms) (list_any has_function ms) (list_any has_one ms) refl refl refl q
  where
    by : (a s f e : Bool) → list_any has_two ms ≡ a → list_any has_function ms ≡ f → list_any has_one ms ≡ e →
        (if a then (if s || f then None else class_if (if list_any is_deferred ms then class.Mod2Deferred else class.Mod2) ms)
        else if e then (if f then None else class_if (if list_any is_deferred ms then class.Mod1Deferred else class.Mod1) ms)
        else if list_any is_called ms then class_if class.Function ms
        else class_if class.Immediate ms) ≡ Some c → ClassFacts ms c
    by true true f e two function one q = no_class q
    by true false true e two function one q = no_class q
    by true false false e two function one q = two_facts (list_any is_deferred ms) ms c refl function q
    by false s true true two function one q = no_class q
    by false s false true two function one q = one_facts (list_any is_deferred ms) ms c two refl function q
    by false s f false two function one q = other_facts (list_any is_called ms) ms c two one refl q

-- ---- plain bodies

plain_most : (bs : Bodies) → plain_in bs ≤ length (marks_in bs)
plain_most no_bodies = omega arith
plain_most (and_bodies b bs) = by (is_plain (marks_of b)) (plain_most bs)
  where
    by : (p : Bool) → plain_in bs ≤ length (marks_in bs) → (if p then suc (plain_in bs) else plain_in bs) ≤ suc (length (marks_in bs))
    by true h = omega (arith, h)
    by false h = omega (arith, h)

pub few_plain : (most : ℕ) (bs : Bodies) → plain_last most (marks_in bs) ≡ true → plain_in bs ≤ most
few_plain most no_bodies h = omega arith
few_plain most (and_bodies b bs) h = by (is_plain (marks_of b)) (few_plain most bs) h
  where
    by : (p : Bool) → (plain_last most (marks_in bs) ≡ true → plain_in bs ≤ most) →
        (elim p [ true ↦ list_all is_plain (marks_in bs) && nat_le (length (marks_of b ∷ marks_in bs)) most | false ↦ plain_last most (marks_in bs) ]) ≡ true → (if p then suc (plain_in bs) else plain_in bs) ≤ most
    by true again h = omega (arith, plain_most bs, leb-true (length (marks_of b ∷ marks_in bs)) most (right_true (list_all is_plain (marks_in bs)) _ h))
    by false again h = again h
