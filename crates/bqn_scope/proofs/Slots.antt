-- The slot of a name in a body.
use Rattle.std.proofs.Common.{◌≡◌, ℕ, zero, suc, Bool, true, false, not, cond, if◌then◌else◌, List, [], ◌∷◌, ◌++◌, length, get_or, position, Some, None, Bor, ◌<◌, ◌≤◌, ◌+◌, refl, sym, ap, ◌∙◌, arith}
use Rattle.std.specs.Prelude.{nat_lt}
use Rattle.std.specs.List.{position_or_len}
use Rattle.std.specs.Option.{option_map}
use Rattle.std.proofs.lemmas.List.{length-map, length-append}
use Rattle.std.proofs.lemmas.Bool.{lt-ltb}
use Rattle.std.proofs.lemmas.Bool.Decides.{nat_tests}
use Rattle.bqn_syntax.specs.declared.token.Token.{Token}
use Rattle.bqn_syntax.specs.scope.Scope.{name_of, same_name, same_place, is_again}
use Rattle.bqn_scope.specs.Names.{place_of}
use Rattle.bqn_scope.specs.Scopes.{known_in}
use Rattle.bqn_scope.specs.Tokens.{tokens_shown, names_of_tokens}
use Rattle.bqn_scope.proofs.Waiting.{is_some-at, is_none-at, one-plus}

module _ {X : Type 0} (p : X → Bool) where
  -- the first one of two lists
  in-first : (xs ys : List X) → position_or_len p xs < length xs → position_or_len p (xs ++ ys) ≡ position_or_len p xs
  in-first [] ys h = absurd (omega arith)
  in-first (x ∷ xs) ys h = step (p x) (λ below. in-first xs ys below) h
    where
      step : (b : Bool) → (position_or_len p xs < length xs → position_or_len p (xs ++ ys) ≡ position_or_len p xs) → cond (not b) (1 + position_or_len p xs) 0 < length (x ∷ xs) → cond (not b) (1 + position_or_len p (xs ++ ys)) 0 ≡ cond (not b) (1 + position_or_len p xs) 0
      step true rest h = refl
      step false rest h = ap (λ (n : ℕ). 1 + n) (rest (omega arith))

  in-second : (xs ys : List X) → length xs ≤ position_or_len p xs → position_or_len p (xs ++ ys) ≡ length xs + position_or_len p ys
  in-second [] ys h = omega arith
  in-second (x ∷ xs) ys h = step (p x) (λ below. in-second xs ys below) h
    where
      step : (b : Bool) → (length xs ≤ position_or_len p xs → position_or_len p (xs ++ ys) ≡ length xs + position_or_len p ys) → length (x ∷ xs) ≤ cond (not b) (1 + position_or_len p xs) 0 → cond (not b) (1 + position_or_len p (xs ++ ys)) 0 ≡ length (x ∷ xs) + position_or_len p ys
      step true rest h = absurd (omega arith)
      step false rest h = let e : position_or_len p (xs ++ ys) ≡ length xs + position_or_len p ys = rest (omega arith) in omega arith

  below-some : (n m i : ℕ) → cond (nat_lt n m) (Some n) None ≡ Some i → n < m
  below-some n m i e = grind (arith, nat_tests)

  pub found-first : (xs ys : List X) (i : ℕ) → Some i ≡ position p xs → Some i ≡ position p (xs ++ ys)
  found-first xs ys i e =
      let below : position_or_len p xs < length xs = below-some (position_or_len p xs) (length xs) i (sym e) in
      let longer : position_or_len p xs < length (xs ++ ys) = omega (arith, length-append xs ys) in
      ap (λ (k : ℕ). Some k) (sym (is_some-at (position_or_len p xs) (length xs) i (sym e)))
      ∙ ap (λ (b : Bool). cond b (Some (position_or_len p xs)) None) (sym (lt-ltb (position_or_len p xs) (length (xs ++ ys)) longer))
      ∙ ap (λ (k : ℕ). cond (nat_lt k (length (xs ++ ys))) (Some k) None) (sym (in-first xs ys below))

  shifted : (a n m : ℕ) → nat_lt (a + n) (a + m) ≡ nat_lt n m
  shifted a n m = grind (arith, nat_tests)

  pub found-second : (xs ys : List X) → None ≡ position p xs → position p (xs ++ ys) ≡ option_map (λ (i : ℕ). length xs + i) (position p ys)
  found-second xs ys e =
      ap (λ (k : ℕ). cond (nat_lt k (length (xs ++ ys))) (Some k) None) (in-second xs ys (is_none-at (position_or_len p xs) (length xs) (sym e)))
      ∙ ap (λ (k : ℕ). cond (nat_lt (length xs + position_or_len p ys) k) (Some (length xs + position_or_len p ys)) None) (length-append xs ys)
      ∙ ap (λ (b : Bool). cond b (Some (length xs + position_or_len p ys)) None) (shifted (length xs) (position_or_len p ys) (length ys))
      ∙ mapped (nat_lt (position_or_len p ys) (length ys))
    where
      mapped : (b : Bool) → cond b (Some (length xs + position_or_len p ys)) None ≡ option_map (λ (i : ℕ). length xs + i) (cond b (Some (position_or_len p ys)) None)
      mapped true = refl
      mapped false = refl

pub slot-block : (outer names : List (List ℕ)) (b : Bool) (n : List ℕ) → b ≡ true → place_of names n ≡ place_of (known_in outer b ++ names) n
slot-block outer names b n e = ap (λ (k : Bool). place_of (known_in outer k ++ names) n) (sym e)

pub slot-known : (outer names : List (List ℕ)) (b : Bool) (n : List ℕ) (i : ℕ) → b ≡ false → Some i ≡ place_of outer n → Some i ≡ place_of (known_in outer b ++ names) n
slot-known outer names b n i e f = found-first (λ o. same_name o n) outer names i f ∙ ap (λ (k : Bool). place_of (known_in outer k ++ names) n) (sym e)

pub slot-own : (outer names : List (List ℕ)) (b : Bool) (n : List ℕ) (i : ℕ) → b ≡ false → None ≡ place_of outer n → Some i ≡ place_of names n → Some (length outer + i) ≡ place_of (known_in outer b ++ names) n
slot-own outer names b n i e f g =
    ap (option_map (λ (k : ℕ). length outer + k)) g
    ∙ sym (found-second (λ o. same_name o n) outer names f)
    ∙ ap (λ (k : Bool). place_of (known_in outer k ++ names) n) (sym e)

pub slot-none : (outer names : List (List ℕ)) (b : Bool) (n : List ℕ) → b ≡ false → None ≡ place_of outer n → None ≡ place_of names n → None ≡ place_of (known_in outer b ++ names) n
slot-none outer names b n e f g =
    ap (option_map (λ (k : ℕ). length outer + k)) g
    ∙ sym (found-second (λ o. same_name o n) outer names f)
    ∙ ap (λ (k : Bool). place_of (known_in outer k ++ names) n) (sym e)

pub ruleset slot_laws = (slot-block, slot-known, slot-own, slot-none)

again-at : (ds : List Token) (t d : Token) → position_or_len (λ o. same_name o (name_of t)) (names_of_tokens ds) < length ds → d ≡ get_or ds (position_or_len (λ o. same_name o (name_of t)) (names_of_tokens ds)) d → not (same_place t d) ≡ is_again ds t
again-at [] t d h e = absurd (omega arith)
again-at (u ∷ us) t d h e = step (same_name (name_of u) (name_of t)) h e (λ below is. again-at us t d below is)
  where
    step : (b : Bool) → cond (not b) (1 + position_or_len (λ o. same_name o (name_of t)) (names_of_tokens us)) 0 < length (u ∷ us) → d ≡ get_or (u ∷ us) (cond (not b) (1 + position_or_len (λ o. same_name o (name_of t)) (names_of_tokens us)) 0) d → (position_or_len (λ o. same_name o (name_of t)) (names_of_tokens us) < length us → d ≡ get_or us (position_or_len (λ o. same_name o (name_of t)) (names_of_tokens us)) d → not (same_place t d) ≡ is_again us t) → not (same_place t d) ≡ (if b then not (same_place t u) else is_again us t)
    step true h e rest = ap (λ (x : Token). not (same_place t x)) e
    step false h e rest = rest (omega arith) (e ∙ ap (λ (n : ℕ). get_or (u ∷ us) n d) (one-plus (position_or_len (λ o. same_name o (name_of t)) (names_of_tokens us))))

again-none : (ds : List Token) (t : Token) → length ds ≤ position_or_len (λ o. same_name o (name_of t)) (names_of_tokens ds) → false ≡ is_again ds t
again-none [] t h = refl
again-none (u ∷ us) t h = step (same_name (name_of u) (name_of t)) h (λ past. again-none us t past)
  where
    step : (b : Bool) → length (u ∷ us) ≤ cond (not b) (1 + position_or_len (λ o. same_name o (name_of t)) (names_of_tokens us)) 0 → (length us ≤ position_or_len (λ o. same_name o (name_of t)) (names_of_tokens us) → false ≡ is_again us t) → false ≡ (if b then not (same_place t u) else is_again us t)
    step true h rest = absurd (omega arith)
    step false h rest = rest (omega arith)

pub token-at : (tokens : List (Bor Token)) (i : ℕ) (t : Bor Token) → t ≡ get_or tokens i t → t.now ≡ get_or (tokens_shown tokens) i t.now
token-at [] i t e = refl
token-at (u ∷ us) zero t e = ap (λ (x : Bor Token). x.now) e
token-at (u ∷ us) (suc i) t e = token-at us i t e

pub again-found : (tokens : List (Bor Token)) (t : Token) (d : Bor Token) (i : ℕ) → Some i ≡ place_of (names_of_tokens (tokens_shown tokens)) (name_of t) → d ≡ get_or tokens i d → not (same_place t d.now) ≡ is_again (tokens_shown tokens) t
again-found tokens t d i e is =
    let at : position_or_len (λ o. same_name o (name_of t)) (names_of_tokens (tokens_shown tokens)) ≡ i = is_some-at _ (length (names_of_tokens (tokens_shown tokens))) i (sym e) in
    let below : position_or_len (λ o. same_name o (name_of t)) (names_of_tokens (tokens_shown tokens)) < length (names_of_tokens (tokens_shown tokens)) = below-some (λ (o : List ℕ). same_name o (name_of t)) _ (length (names_of_tokens (tokens_shown tokens))) i (sym e) in
    again-at (tokens_shown tokens) t d.now (omega (arith, length-map (tokens_shown tokens) name_of)) (token-at tokens i d is ∙ ap (λ (k : ℕ). get_or (tokens_shown tokens) k d.now) (sym at))

pub again-absent : (ds : List Token) (t : Token) → None ≡ place_of (names_of_tokens ds) (name_of t) → false ≡ is_again ds t
again-absent ds t e = again-none ds t (omega (arith, length-map ds name_of, is_none-at (position_or_len (λ o. same_name o (name_of t)) (names_of_tokens ds)) (length (names_of_tokens ds)) (sym e)))

pub ruleset again_laws = (again-found, again-absent)
