-- One thing more in a walk.
use Rattle.std.proofs.Common.{◌≡◌, ℕ, ◌≤◌, ◌++◌, List, [], ◌∷◌, length, map, drop, reverse, refl, sym, ap, ◌∙◌, append_assoc}
use Rattle.std.proofs.lemmas.List.{reverse-append, append-nil, take_all, drop_all}
use Rattle.bqn_syntax.specs.declared.token.Token.{Token}
use Rattle.bqn_syntax.specs.declared.tree.Derived.{Derived as CodeDerived}
use Rattle.bqn_syntax.specs.grammar.Trees.{Use, uses, deriveds, derived_of}
use Rattle.bqn_syntax.specs.scope.Scope.{name_of}
use Rattle.bqn_code.specs.declared.instr.Instr.{Instr}
use Rattle.bqn_code.specs.declared.instr.Instr.TheVariants as instr
use Rattle.bqn_compile.specs.Expressions.{fields_code, derives, derive_instr, and_one, parts_read}
use Rattle.bqn_compile.specs.Pools.{name_number}
use Rattle.bqn_compile.specs.declared.walk.Walk.{Walk}
use Rattle.bqn_compile.specs.Walking.{Walked, walked, onward, turned, push, pushes, append, reads}

pub reverse-push : (is : List Instr) (i : Instr) → reverse (is ++ i ∷ []) ≡ i ∷ reverse is
reverse-push is i = reverse-append is (i ∷ [])

pub walked-at : (w : Walk) → (walked w).at ≡ w.at
unfolding walked
walked-at w = refl

pub onward-at : (w : Walk) → (onward w).at ≡ w.at
unfolding onward
onward-at w = refl

pub push-pushes : (i : Instr) (is : List Instr) (w : Walked) → push i (pushes is w) ≡ pushes (i ∷ is) w
unfolding push pushes
push-pushes i is w = refl

pub pushes-none : (w : Walked) → pushes [] w ≡ w
unfolding pushes
pushes-none w = refl

pub append-append : (is js : List Instr) (w : Walked) → append js (append is w) ≡ append (is ++ js) w
unfolding append
append-append is js w = λ i. record { at = w.at; code = append_assoc w.code is js i; blocks = w.blocks }

pub append-none : (w : Walked) → append [] w ≡ w
unfolding append
append-none w = λ i. record { at = w.at; code = append-nil w.code i; blocks = w.blocks }

pub push-is : (x : Instr) (w : Walked) → push x w ≡ pushes (x ∷ []) w
unfolding push pushes
push-is x w = refl

-- nothing is turned round behind the end
pub turned-none : (n : ℕ) (w : Walked) → length w.code ≤ n → turned n w ≡ w
unfolding turned
turned-none n w h = λ i. record { at = w.at; code = (ap (λ (is : List Instr). is ++ reverse (drop n w.code)) (take_all n w.code h) ∙ ap (λ (is : List Instr). w.code ++ reverse is) (drop_all n w.code h) ∙ append-nil w.code) i; blocks = w.blocks }

pub parts-read : (ds : List CodeDerived) → parts_read (deriveds (map derived_of ds)) ≡ reads (length ds)
parts-read [] = refl
parts-read (d ∷ ds) = ap and_one (parts-read ds)

-- one more from the end
module _ (w v u : Walked) (i : Instr) where
  pub fields-step : (names : List (List ℕ)) (t : Token) (ts next : List Token) → next ≡ t ∷ ts → i ≡ instr.Field (name_number names (name_of t)) → v ≡ pushes (fields_code names ts) w → u ≡ push i v → u ≡ pushes (fields_code names next) w
  fields-step names t ts next n e p q =
      q ∙ ap (push i) p ∙ push-pushes i (fields_code names ts) w ∙ ap (λ (x : Instr). pushes (x ∷ fields_code names ts) w) e ∙ ap (λ (xs : List Token). pushes (fields_code names xs) w) (sym n)

  pub derive-step : (x : Use) (us next : List Use) → next ≡ x ∷ us → i ≡ derive_instr x → v ≡ pushes (derives (uses us)) w → u ≡ push i v → u ≡ pushes (derives (uses next)) w
  derive-step x us next n e p q =
      q ∙ ap (push i) p ∙ push-pushes i (derives (uses us)) w ∙ ap (λ (y : Instr). pushes (y ∷ derives (uses us)) w) e ∙ ap (λ (xs : List Use). pushes (derives (uses xs)) w) (sym n)

pub ruleset push_laws = (reverse-push, walked-at, onward-at, push-is, pushes-none, append-append, append-none)

pub ruleset walk_laws = (walked-at, onward-at, parts-read)
