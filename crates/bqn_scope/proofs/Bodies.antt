-- What a name refers to from the last of the bodies around, by its binding.
use Rattle.std.proofs.Common.{◌≡◌, ℕ, suc, Bool, true, false, cond, not, if◌then◌else◌, List, [], ◌∷◌, ◌++◌, map, reverse, length, drop, Option, Some, None, ◌<◌, ◌+◌, ◌-◌, refl, sym, ap, ◌∙◌, arith}
use Rattle.std.specs.Prelude.{nat_eq, nat_lt}
use Rattle.std.specs.List.{position_or_len}
use Rattle.std.specs.Option.{option_map, option_to_list, MatchOption}
use Rattle.std.proofs.lemmas.Bool.{lt-ltb}
use Rattle.std.proofs.lemmas.Bool.Decides.{nat_tests}
use Rattle.std.proofs.lemmas.List.{reverse-append, length-map, length-reverse}
use Rattle.bqn_syntax.specs.scope.Scope.{Scope, Seen, has, same_name, names_of, sees, or_outward, outward}
use Rattle.bqn_scope.specs.Names.{place_of}
use Rattle.bqn_scope.specs.declared.around.Around.{Around}
use Rattle.bqn_scope.specs.declared.scope.Scope.{Scope as CodeScope}
use Rattle.bqn_scope.specs.Around.{IsBound, bodies_around, has_last}
use Rattle.bqn_scope.specs.Bindings.{Binding, bindings_shown, none_bound, bound_to, bound_by, hidden_by, unbound, innermost, seen_from}
use Rattle.bqn_scope.specs.Scopes.{known_in, scope_shown, scopes_around}
use Rattle.bqn_scope.specs.Tokens.{names_of_tokens, tokens_shown}
use Rattle.bqn_scope.proofs.Binding.{same-names}
use Rattle.bqn_scope.proofs.Spelling.{any-before, none-passes}

-- the place of a name, name by name
place-cons : (name : List ℕ) (x : List ℕ) (xs : List (List ℕ)) → place_of (x ∷ xs) name ≡ (if same_name x name then Some 0 else option_map (λ (i : ℕ). 1 + i) (place_of xs name))
place-cons name x xs = chosen (same_name x name)
  where
    chosen : (b : Bool) → cond (nat_lt (cond (not b) (1 + position_or_len (λ o. same_name o name) xs) 0) (length (x ∷ xs))) (Some (cond (not b) (1 + position_or_len (λ o. same_name o name) xs) 0)) None ≡ (if b then Some 0 else option_map (λ (i : ℕ). 1 + i) (place_of xs name))
    chosen true = ap (λ (b : Bool). cond b (Some 0) None) (lt-ltb 0 (suc (length xs)) (omega arith))
    chosen false = ap (λ (b : Bool). cond b (Some (1 + position_or_len (λ o. same_name o name) xs)) None) (shifted (position_or_len (λ o. same_name o name) xs) (length xs)) ∙ mapped (nat_lt (position_or_len (λ o. same_name o name) xs) (length xs))
      where
        shifted : (n m : ℕ) → nat_lt (1 + n) (suc m) ≡ nat_lt n m
        shifted n m = grind (arith, nat_tests)

        mapped : (b : Bool) → cond b (Some (1 + position_or_len (λ o. same_name o name) xs)) None ≡ option_map (λ (i : ℕ). 1 + i) (cond b (Some (position_or_len (λ o. same_name o name) xs)) None)
        mapped true = refl
        mapped false = refl

-- the binding by a name's place, if it has one
abbrev by_place : ℕ → ℕ → Option ℕ → Binding → Binding
by_place level slot None outside = outside
by_place level slot (Some i) outside = Some (level, slot + i)

bound-place : (level slot : ℕ) (names : List (List ℕ)) (outside : List ℕ → Binding) (name : List ℕ) → bound_by level slot names outside name ≡ by_place level slot (place_of names name) (outside name)
bound-place level slot [] outside name = refl
bound-place level slot (x ∷ xs) outside name = ap (λ (b : Binding). if same_name x name then Some (level, slot) else b) (bound-place level (slot + 1) xs outside name) ∙ chosen (same_name x name) (place_of xs name) ∙ ap (λ (p : Option ℕ). by_place level slot p (outside name)) (sym (place-cons name x xs))
  where
    chosen : (b : Bool) (p : Option ℕ) → (if b then Some (level, slot) else by_place level (slot + 1) p (outside name)) ≡ by_place level slot (if b then Some 0 else option_map (λ (i : ℕ). 1 + i) p) (outside name)
    chosen true p = ap (λ (k : ℕ). Some (level, k)) (omega arith)
    chosen false None = refl
    chosen false (Some i) = ap (λ (k : ℕ). Some (level, k)) (omega arith)

abbrev level_of : Binding → ℕ
level_of None = 0
level_of (Some b) = b.0

-- a binding is of a body around
pub below : (around : List Scope) (name : List ℕ) (level slot : ℕ) → innermost around name ≡ Some (level, slot) → level < length around
below [] name level slot e = cc
below (s ∷ around) name level slot e = chosen (place_of (names_of s) name) (sym (bound-place (length around) 0 (names_of s) (innermost around) name) ∙ e) (below around name level slot)
  where
    chosen : (p : Option ℕ) → by_place (length around) 0 p (innermost around name) ≡ Some (level, slot) → (innermost around name ≡ Some (level, slot) → level < length around) → level < length (s ∷ around)
    chosen (Some i) f rest = let g : length around ≡ level = ap level_of f in omega arith
    chosen None f rest = let h : level < length around = rest f in omega arith

further : (depth : ℕ) (b : Binding) → ((level slot : ℕ) → b ≡ Some (level, slot) → level < depth) → outward (seen_from depth b) ≡ seen_from (suc depth) b
further depth None h = refl
further depth (Some b) h = let below : b.0 < depth = h b.0 b.1 refl in ap (λ (up : ℕ). Some (record { up = up; slot = b.1 })) (distance depth b.0 below)
  where
    distance : (d l : ℕ) → l < d → (d - 1 - l) + 1 ≡ suc d - 1 - l
    distance d l h = omega arith

pub sees-bound : (around : List Scope) (name : List ℕ) → sees around name ≡ seen_from (length around) (innermost around name)
sees-bound [] name = refl
sees-bound (s ∷ around) name = ap (or_outward (place_of (names_of s) name)) (sees-bound around name) ∙ chosen (place_of (names_of s) name) ∙ ap (seen_from (length (s ∷ around))) (sym (bound-place (length around) 0 (names_of s) (innermost around) name))
  where
    chosen : (p : Option ℕ) → or_outward p (seen_from (length around) (innermost around name)) ≡ seen_from (length (s ∷ around)) (by_place (length around) 0 p (innermost around name))
    chosen (Some i) = ap (λ (up : ℕ). Some (record { up = up; slot = i })) (here (length around)) ∙ ap (λ (slot : ℕ). Some (record { up = length (s ∷ around) - 1 - length around; slot = slot })) (same i)
      where
        here : (d : ℕ) → 0 ≡ suc d - 1 - d
        here d = omega arith

        same : (i : ℕ) → i ≡ 0 + i
        same i = omega arith
    chosen None = further (length around) (innermost around name) (below around name)

-- the names of two lists, one after the other
pub bound-append : (level slot : ℕ) (xs ys : List (List ℕ)) (outside : List ℕ → Binding) → bound_by level slot xs (bound_by level (slot + length xs) ys outside) ≡ bound_by level slot (xs ++ ys) outside
bound-append level slot [] ys outside = ap (λ (k : ℕ). bound_by level k ys outside) (omega arith)
bound-append level slot (x ∷ xs) ys outside = ap (bound_to x (Some (level, slot))) (ap (λ (k : ℕ). bound_by level (slot + 1) xs (bound_by level k ys outside)) (omega arith) ∙ bound-append level (slot + 1) xs ys outside)

-- a name that has its binding back
pub back : (name : List ℕ) (inside : Binding) (outside : List ℕ → Binding) → bound_to name (outside name) (bound_to name inside outside) ≡ outside
back name inside outside = λ i other. at other (same_name name other) refl i
  where
    at : (other : List ℕ) (b : Bool) → same_name name other ≡ b → bound_to name (outside name) (bound_to name inside outside) other ≡ outside other
    at other true e = ap (λ (b : Bool). if b then outside name else (if b then inside else outside other)) e ∙ ap outside (same-names name other e)
    at other false e = ap (λ (b : Bool). if b then outside name else (if b then inside else outside other)) e

pub all-back : (level slot : ℕ) (names : List (List ℕ)) (outside : List ℕ → Binding) → unbound (hidden_by level slot names outside) (bound_by level slot names outside) ≡ outside
all-back level slot [] outside = refl
all-back level slot (name ∷ names) outside = ap (unbound (hidden_by level (slot + 1) names outside)) (back name (Some (level, slot)) (bound_by level (slot + 1) names outside)) ∙ all-back level (slot + 1) names outside

pub around-last : (outer : List (List ℕ)) (all around : List CodeScope) (s : CodeScope) → all ≡ around ++ s ∷ [] → scopes_around outer all ≡ scope_shown outer s ∷ scopes_around outer around
around-last outer all around s e = ap (scopes_around outer) e ∙ ap (map (scope_shown outer)) (reverse-append around (s ∷ []))

depth : (outer : List (List ℕ)) (all : List CodeScope) → length (scopes_around outer all) ≡ length all
depth outer all = length-map (reverse all) (scope_shown outer) ∙ length-reverse all

abbrev own_names : CodeScope → List (List ℕ)
own_names s = names_of_tokens (tokens_shown s.defined.places.tokens.items)

-- the bindings inside one more body
entered : (outer : List (List ℕ)) (all : List CodeScope) (s : CodeScope) → known_in outer s.in_block ≡ [] → bound_by (length all) 0 (own_names s) (innermost (scopes_around outer all)) ≡ innermost (scopes_around outer (all ++ s ∷ []))
entered outer all s known =
    ap (λ (k : ℕ). bound_by k 0 (own_names s) (innermost (scopes_around outer all))) (sym (depth outer all))
    ∙ ap (λ (names : List (List ℕ)). bound_by (length (scopes_around outer all)) 0 (names ++ own_names s) (innermost (scopes_around outer all))) (sym known)
    ∙ ap innermost (sym (around-last outer (all ++ s ∷ []) all s refl))

pub entered-bodies : (outer : List (List ℕ)) (all next : List CodeScope) (s : CodeScope) (inside : Scope) → next ≡ all ++ s ∷ [] → scope_shown outer s ≡ inside → scopes_around outer next ≡ inside ∷ scopes_around outer all
entered-bodies outer all next s inside e f = around-last outer next all s e ∙ ap (λ (x : Scope). x ∷ scopes_around outer all) f

pub entered-bound : (outer : List (List ℕ)) (all next : List CodeScope) (s : CodeScope) (level : ℕ) (old now : List ℕ → Binding) → level ≡ length all → next ≡ all ++ s ∷ [] → known_in outer s.in_block ≡ [] → old ≡ innermost (scopes_around outer all) → now ≡ bound_by level 0 (own_names s) old → now ≡ innermost (scopes_around outer next)
entered-bound outer all next s level old now l e known h b =
    b
    ∙ ap (λ (k : ℕ). bound_by k 0 (own_names s) old) l
    ∙ ap (bound_by (length all) 0 (own_names s)) h
    ∙ entered outer all s known
    ∙ ap (λ (xs : List CodeScope). innermost (scopes_around outer xs)) (sym e)

pub entered-hidden : (outer : List (List ℕ)) (all next : List CodeScope) (s : CodeScope) (level : ℕ) (old : List ℕ → Binding) (hidden : List (List ℕ × Binding)) → level ≡ length all → next ≡ all ++ s ∷ [] → known_in outer s.in_block ≡ [] → old ≡ innermost (scopes_around outer all) → hidden ≡ hidden_by level 0 (own_names s) old → unbound hidden (innermost (scopes_around outer next)) ≡ innermost (scopes_around outer all)
entered-hidden outer all next s level old hidden l e known h g =
    ap (unbound hidden) (sym (entered-bound outer all next s level old (bound_by level 0 (own_names s) old) l e known h refl))
    ∙ ap (λ (hs : List (List ℕ × Binding)). unbound hs (bound_by level 0 (own_names s) old)) g
    ∙ all-back level 0 (own_names s) old
    ∙ h

pub top-bound : (outer : List (List ℕ)) (all : List CodeScope) (s : CodeScope) (count : ℕ) (none own now : List ℕ → Binding) → count ≡ length outer → all ≡ s ∷ [] → known_in outer s.in_block ≡ outer → none ≡ none_bound → own ≡ bound_by 0 count (own_names s) none → now ≡ bound_by 0 0 outer own → now ≡ innermost (scopes_around outer all)
top-bound outer all s count none own now c e known n o h =
    h
    ∙ ap (bound_by 0 0 outer) (o ∙ ap (λ (k : ℕ). bound_by 0 k (own_names s) none) (c ∙ nothing (length outer)) ∙ ap (bound_by 0 (0 + length outer) (own_names s)) n)
    ∙ bound-append 0 0 outer (own_names s) none_bound
    ∙ ap (λ (names : List (List ℕ)). bound_by 0 0 (names ++ own_names s) none_bound) (sym known)
    ∙ ap (λ (xs : List CodeScope). innermost (scopes_around outer xs)) (sym e)
  where
    nothing : (n : ℕ) → n ≡ 0 + n
    nothing n = omega arith

pub left : (outer : List (List ℕ)) (all front : List CodeScope) (last : Option CodeScope) (n m : ℕ) → n ≡ length all → m ≡ length front → all ≡ front ++ option_to_list last → MatchOption last ((n ≡ 0) × (m ≡ 0)) (λ _. m + 1 ≡ n) → scopes_around outer front ≡ drop 1 (scopes_around outer all)
left outer all front (Some s) n m l r e h = sym (ap (drop 1) (around-last outer all front s e))
left outer [] [] None n m l r e h = refl
left outer (s ∷ ss) front None n m l r e h = absurd (omega (arith, h.0))
left outer [] (s ∷ ss) None n m l r e h = absurd (omega (arith, h.1))

pub level-below : (a : Around) (name : List ℕ) (level slot : ℕ) → IsBound a → Some (level, slot) ≡ bindings_shown a.bindings name → level < length a.scopes.items
level-below a name level slot b e = let h : level < length (bodies_around a) = below (bodies_around a) name level slot (sym (e ∙ ap (λ (f : List ℕ → Binding). f name) b)) in omega (arith, depth a.outer.now a.scopes.items)

pub seen-bound : (a : Around) (name : List ℕ) (binding : Binding) (n : ℕ) → IsBound a → binding ≡ bindings_shown a.bindings name → n ≡ length a.scopes.items → seen_from n binding ≡ sees (bodies_around a) name
seen-bound a name binding n b e l = ap (seen_from n) (e ∙ ap (λ (f : List ℕ → Binding). f name) b) ∙ ap (λ (k : ℕ). seen_from k (innermost (bodies_around a) name)) (l ∙ sym (depth a.outer.now a.scopes.items)) ∙ sym (sees-bound (bodies_around a) name)

some-lt : (b : Bool) (i n : ℕ) → Some i ≡ cond b (Some n) None → b ≡ true
some-lt true i n e = refl
some-lt false i n e = cc

pub has-some : (names : List (List ℕ)) (name : List ℕ) (i : ℕ) → Some i ≡ place_of names name → has names name ≡ true
has-some names name i e = any-before _ names ∙ some-lt _ i _ e

pub has-none : (names : List (List ℕ)) (name : List ℕ) → None ≡ place_of names name → has names name ≡ false
has-none names name e = none-passes _ names (sym e)

abbrev up_of : Option Seen → ℕ
up_of None = 0
up_of (Some x) = x.up

-- the last body has a name that is seen in it
pub has-seen : (around : List Scope) (name : List ℕ) (up slot : ℕ) → Some (record { up = up; slot = slot }) ≡ sees around name → nat_eq up 0 ≡ has_last around name
has-seen [] name up slot e = cc
has-seen (s ∷ around) name up slot e = chosen (place_of (names_of s) name) refl (sees around name) e
  where
    chosen : (p : Option ℕ) → p ≡ place_of (names_of s) name → (found : Option Seen) → Some (record { up = up; slot = slot }) ≡ or_outward p found → nat_eq up 0 ≡ has (names_of s) name
    chosen (Some i) at found e = ap (λ (x : Option Seen). nat_eq (up_of x) 0) e ∙ sym (has-some (names_of s) name i at)
    chosen None at None e = cc
    chosen None at (Some x) e = ap (λ (x : Option Seen). nat_eq (up_of x) 0) e ∙ later x.up ∙ sym (has-none (names_of s) name at)
      where
        later : (n : ℕ) → nat_eq (n + 1) 0 ≡ false
        later n = grind (arith, nat_tests)

pub has-unseen : (around : List Scope) (name : List ℕ) → None ≡ sees around name → false ≡ has_last around name
has-unseen [] name e = refl
has-unseen (s ∷ around) name e = chosen (place_of (names_of s) name) refl e
  where
    chosen : (p : Option ℕ) → p ≡ place_of (names_of s) name → None ≡ or_outward p (sees around name) → false ≡ has (names_of s) name
    chosen (Some i) at e = cc
    chosen None at e = sym (has-none (names_of s) name at)

pub ruleset around_laws = (around-last, has-seen, has-unseen)
