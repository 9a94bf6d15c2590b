-- Names and their numbers.
use Rattle.std.proofs.Common.{◌≡◌, ◌+◌, ℕ, Bool, false, not, cond, if◌then◌else◌, List, [], ◌∷◌, ◌++◌, Option, Some, None, length, position, Vec, refl, sym, ap, ◌∙◌}
use Rattle.std.specs.Prelude.{nat_eq, nat_lt}
use Rattle.std.specs.List.{position_or_len, list_any}
use Rattle.std.specs.Cmp.Lexicographic.{pointwise, nat_list_eq_equiv}
use Rattle.std.proofs.lemmas.List.{length-map}
use Rattle.bqn_forms.specs.Form.{number_of}
use Rattle.bqn_forms.specs.declared.code.Instr.{Instr}
use Rattle.bqn_forms.specs.declared.code.Instr.TheVariants.{Define}
use Rattle.bqn_forms.specs.Reading.{spelled}
use Rattle.bqn_forms.specs.Emission.{progress, fresh_emitted, name_emitted}

module _ {A : Type 0} where
  abbrev pub same : List ℕ → Vec ℕ A → Bool
  same name key = pointwise nat_eq name key.items

  first-spelled : (name : List ℕ) (keys : List (Vec ℕ A)) → position_or_len (λ other. pointwise nat_eq other name) (spelled keys) ≡ position_or_len (same name) keys
  first-spelled name [] = refl
  first-spelled name (key ∷ keys) = λ i. cond (not (nat_list_eq_equiv.symm key.items name i)) (1 + first-spelled name keys i) 0

  length-spelled : (keys : List (Vec ℕ A)) → length (spelled keys) ≡ length keys
  length-spelled keys = length-map keys (λ (key : Vec ℕ A). key.items)

  pub position-spelled : (name : List ℕ) (keys : List (Vec ℕ A)) → number_of (spelled keys) name ≡ position (same name) keys
  position-spelled name keys = λ i. cond (nat_lt (first-spelled name keys i) (length-spelled keys i)) (Some (first-spelled name keys i)) None

  pub name-known : (name : List ℕ) (keys : List (Vec ℕ A)) (code : List Instr) (number : ℕ) → position (same name) keys ≡ Some number → name_emitted (spelled keys) code name ≡ None
  name-known name keys code number e = ap (λ (place : Option ℕ). fresh_emitted (spelled keys) code name place) (position-spelled name keys ∙ e)

  spelled-pushed : (keys : List (Vec ℕ A)) (key : Vec ℕ A) → spelled (keys ++ key ∷ []) ≡ spelled keys ++ key.items ∷ []
  spelled-pushed [] key = refl
  spelled-pushed (k ∷ keys) key = ap (λ (names : List (List ℕ)). k.items ∷ names) (spelled-pushed keys key)

  abbrev inserted : List (Vec ℕ A) → Vec ℕ A → Bool → List (Vec ℕ A)
  inserted keys key there = if there then keys else keys ++ key ∷ []

  spelled-inserted : (name : List ℕ) (keys : List (Vec ℕ A)) (key : Vec ℕ A) → key.items ≡ name → list_any (same name) keys ≡ false → spelled (inserted keys key (list_any (same key.items) keys)) ≡ spelled keys ++ name ∷ []
  spelled-inserted name keys key e none =
      ap (λ (spelling : List ℕ). spelled (inserted keys key (list_any (same spelling) keys))) e
      ∙ ap (λ (there : Bool). spelled (inserted keys key there)) none
      ∙ spelled-pushed keys key
      ∙ ap (λ (spelling : List ℕ). spelled keys ++ spelling ∷ []) e

  pub name-new : (name : List ℕ) (keys after : List (Vec ℕ A)) (code : List Instr) (key : Vec ℕ A) → position (same name) keys ≡ None → list_any (same name) keys ≡ false → key.items ≡ name → after ≡ inserted keys key (list_any (same key.items) keys) → name_emitted (spelled keys) code name ≡ Some (progress (spelled after) (code ++ Define ∷ []))
  name-new name keys after code key place none e a =
      ap (λ (p : Option ℕ). fresh_emitted (spelled keys) code name p) (position-spelled name keys ∙ place)
      ∙ ap (λ (names : List (List ℕ)). Some (progress names (code ++ Define ∷ []))) (sym (ap (λ (ks : List (Vec ℕ A)). spelled ks) a ∙ spelled-inserted name keys key e none))

pub ruleset name_laws = (position-spelled)
