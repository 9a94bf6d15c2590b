-- The place of a constant, among keys and among the constants that they stand for.
use Rattle.std.proofs.Common.{◌≡◌, ◌+◌, ◌++◌, ℕ, Bool, false, not, cond, if◌then◌else◌, List, [], ◌∷◌, ◌<◌, Option, Some, None, Ok, length, position, refl, sym, ap, ◌∙◌, arith}
use Rattle.std.specs.Prelude.{nat_lt}
use Rattle.std.specs.List.{position_or_len, list_any}
use Rattle.std.proofs.lemmas.List.{length-map, map-append}
use Rattle.std.proofs.lemmas.Bool.{lt-ltb}
use Rattle.indexmap.specs.IndexSet.{insert_key}
use Rattle.bqn_scope.proofs.Spelling.{none-passes}
use Rattle.bqn_compile.specs.declared.key.Key.{Key}
use Rattle.bqn_compile.specs.declared.key.Key.TheVariants as key
use Rattle.bqn_compile.specs.contracts.key.KeyPartialEq.TheImpl.{eq-value}
use Rattle.bqn_base.specs.declared.place.Place.{Place}
use Rattle.bqn_code.specs.declared.constant.Const.{Const}
use Rattle.bqn_compile.specs.Pools.{same_constant, place_among}
use Rattle.bqn_compile.specs.Gathering.{Gathered, the_most, add_constant, constant, and_on, if_room}
use Rattle.bqn_compile.specs.Shown.{key_shown, constants_shown}

-- two keys are alike where the constants are that they stand for
alike : (a b : Key) → eq-value.it a b ≡ same_constant (key_shown a) (key_shown b)
alike (key.Number y) (key.Number z) = refl
alike (key.Number y) (key.Char d) = refl
alike (key.Number y) (key.Text ds) = refl
alike (key.Char c) (key.Number z) = refl
alike (key.Char c) (key.Char d) = refl
alike (key.Char c) (key.Text ds) = refl
alike (key.Text cs) (key.Number z) = refl
alike (key.Text cs) (key.Char d) = refl
alike (key.Text cs) (key.Text ds) = refl

first-shown : (key : Key) (keys : List Key) → position_or_len (same_constant (key_shown key)) (constants_shown keys) ≡ position_or_len (eq-value.it key) keys
first-shown key [] = refl
first-shown key (k ∷ keys) = λ i. cond (not (sym (alike key k) i)) (1 + first-shown key keys i) 0

length-shown : (keys : List Key) → length (constants_shown keys) ≡ length keys
length-shown keys = length-map keys key_shown

pub shorter-shown : (n : ℕ) (keys : List Key) → length keys < n → length (constants_shown keys) < n
shorter-shown n keys h = let e : length (constants_shown keys) ≡ length keys = length-shown keys in omega arith

pub place-shown : (key : Key) (keys : List Key) → place_among (constants_shown keys) (key_shown key) ≡ position (eq-value.it key) keys
place-shown key keys = λ i. cond (nat_lt (first-shown key keys i) (length-shown keys i)) (Some (first-shown key keys i)) None

-- a key whose constant is not there goes to the end
pub key-inserted : (key : Key) (keys : List Key) → place_among (constants_shown keys) (key_shown key) ≡ None → constants_shown (insert_key eq-value.it keys key) ≡ constants_shown keys ++ key_shown key ∷ []
key-inserted key keys e =
    let absent : list_any (eq-value.it key) keys ≡ false = none-passes (eq-value.it key) keys (sym (place-shown key keys) ∙ e) in
    ap (λ (there : Bool). constants_shown (if there then keys else keys ++ key ∷ [])) absent ∙ map-append key_shown keys (key ∷ [])

-- a constant that is not there goes to the end, where there is room
pub constant-new : (c : Const) (place : Place) (g : Gathered) → place_among g.constants c ≡ None → length g.constants < 65535 → constant the_most (Some c) place g ≡ Ok (record g { constants = g.constants ++ c ∷ [] })
constant-new c place g e room =
    ap (λ (there : Option ℕ). add_constant the_most c place there g) e
    ∙ ap (λ (free : Bool). and_on (if_room free place g) (λ (h : Gathered). Ok (record h { constants = h.constants ++ c ∷ [] }))) (lt-ltb (length g.constants) 65535 room)
