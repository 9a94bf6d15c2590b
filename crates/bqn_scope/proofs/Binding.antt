-- What is bound once a name is bound, or has its binding back.
use Rattle.std.proofs.Common.{◌≡◌, ℕ, zero, suc, Bool, true, false, cond, if◌then◌else◌, List, [], ◌∷◌, ◌++◌, map, length, get_or, take, drop, drop-cons, Some, None, Bor, ◌<◌, ◌≤◌, ◌+◌, ◌-◌, refl, sym, ap, ◌∙◌, arith}
use Rattle.std.specs.Prelude.{nat_eq}
use Rattle.std.specs.Map.{lookup}
use Rattle.std.specs.Option.{option_flatten}
use Rattle.std.specs.Cmp.Lexicographic.{pointwise, bytes_decides, nat_list_eq_equiv}
use Rattle.std.proofs.lemmas.List.{reverse-append, take_more, drop_all}
use Rattle.indexmap.specs.IndexMap.{insert_entry}
use Rattle.bqn_syntax.specs.declared.token.Token.{Token}
use Rattle.bqn_syntax.specs.scope.Scope.{same_name, name_of}
use Rattle.bqn_scope.specs.declared.bindings.Hidden.{Hidden}
use Rattle.bqn_scope.specs.Bindings.{Binding, bound_in, bound_to, bound_by, hidden_by, hidden_shown, unbound}
use Rattle.bqn_scope.specs.Tokens.{tokens_shown, names_of_tokens}

abbrev Entries : Type 0
Entries = List (Bor (List ℕ) × Binding)

same-key : Bor (List ℕ) → Bor (List ℕ) → Bool
same-key a b = pointwise nat_eq a.now b.now

found : (es : Entries) (name : List ℕ) → option_flatten (lookup (λ k. pointwise nat_eq name k.now) es) ≡ bound_in es name
found [] name = refl
found (e ∷ es) name = chosen (pointwise nat_eq name e.0.now) (found es name)
  where
    chosen : (b : Bool) → option_flatten (lookup (λ k. pointwise nat_eq name k.now) es) ≡ bound_in es name → option_flatten (cond b (Some e.1) (lookup (λ k. pointwise nat_eq name k.now) es)) ≡ (if b then e.1 else bound_in es name)
    chosen true h = refl
    chosen false h = h

pub found-some : (es : Entries) (name : List ℕ) (b : Binding) → Some b ≡ lookup (λ k. pointwise nat_eq name k.now) es → b ≡ bound_in es name
found-some es name b e = ap option_flatten e ∙ found es name

pub found-none : (es : Entries) (name : List ℕ) → None ≡ lookup (λ k. pointwise nat_eq name k.now) es → None ≡ bound_in es name
found-none es name e = ap option_flatten e ∙ found es name

pub same-names : (a b : List ℕ) → same_name a b ≡ true → a ≡ b
same-names a b e = (bytes_decides a b).0 e

inserted : (es : Entries) (k : Bor (List ℕ)) (b : Binding) (name : List ℕ) → bound_in (insert_entry (λ x y. pointwise nat_eq x.now y.now) es k b) name ≡ bound_to k.now b (bound_in es) name
inserted [] k b name = ap (λ (c : Bool). if c then b else None) (nat_list_eq_equiv.symm name k.now)
inserted (e ∷ es) k b name = chosen (pointwise nat_eq k.now e.0.now) refl (inserted es k b name)
  where
    chosen : (c : Bool) → pointwise nat_eq k.now e.0.now ≡ c → bound_in (insert_entry (λ x y. pointwise nat_eq x.now y.now) es k b) name ≡ bound_to k.now b (bound_in es) name → bound_in (if c then (e.0, b) ∷ es else e ∷ insert_entry (λ x y. pointwise nat_eq x.now y.now) es k b) name ≡ bound_to k.now b (bound_in (e ∷ es)) name
    chosen true same rest = ap (λ (c : Bool). if c then b else bound_in es name) (nat_list_eq_equiv.symm name e.0.now ∙ ap (λ (x : List ℕ). pointwise nat_eq x name) (sym (same-names k.now e.0.now same))) ∙ both (pointwise nat_eq k.now name) refl
      where
        both : (d : Bool) → pointwise nat_eq k.now name ≡ d → (if d then b else bound_in es name) ≡ (if d then b else (if same_name name e.0.now then e.1 else bound_in es name))
        both true at = refl
        both false at = sym (ap (λ (c : Bool). if c then e.1 else bound_in es name) (nat_list_eq_equiv.symm name e.0.now ∙ ap (λ (x : List ℕ). pointwise nat_eq x name) (sym (same-names k.now e.0.now same)) ∙ at))
    chosen false other rest = ap (λ (x : Binding). if same_name name e.0.now then e.1 else x) rest ∙ apart (pointwise nat_eq k.now name) refl (same_name name e.0.now) refl
      where
        apart : (d : Bool) → pointwise nat_eq k.now name ≡ d → (c : Bool) → same_name name e.0.now ≡ c → (if c then e.1 else (if d then b else bound_in es name)) ≡ (if d then b else (if c then e.1 else bound_in es name))
        apart true at true there = cc (sym other ∙ ap (λ (x : List ℕ). pointwise nat_eq x e.0.now) (same-names k.now name at) ∙ there)
        apart true at false there = refl
        apart false at c there = refl

pub inserted-bound : (old new : Entries) (k : Bor (List ℕ)) (b : Binding) → new ≡ insert_entry (λ x y. pointwise nat_eq x.now y.now) old k b → bound_in new ≡ bound_to k.now b (bound_in old)
inserted-bound old new k b e = ap bound_in e ∙ (λ i name. inserted old k b name i)

-- the name before those that are bound
drop-at : (names : List (List ℕ)) (index : ℕ) (name : List ℕ) → 0 < index → index ≤ length names → name ≡ get_or names (index - 1) name → drop (index - 1) names ≡ name ∷ drop index names
drop-at names index name some inside is =
    let next : suc (index - 1) ≡ index = omega arith in
    let below : index - 1 < length names = omega arith in
    drop-cons names (index - 1) name below ∙ ap (λ (x : List ℕ). x ∷ drop (suc (index - 1)) names) (sym is) ∙ ap (λ (k : ℕ). name ∷ drop k names) next

pub bind-more : (level first index slot : ℕ) (names : List (List ℕ)) (name : List ℕ) (outside now next : List ℕ → Binding) → now ≡ bound_by level (first + index) (drop index names) outside → 0 < index → index ≤ length names → slot ≡ first + (index - 1) → name ≡ get_or names (index - 1) name → next ≡ bound_to name (Some (level, slot)) now → next ≡ bound_by level (first + (index - 1)) (drop (index - 1) names) outside
bind-more level first index slot names name outside now next h some inside at is e =
    let after : first + index ≡ (first + (index - 1)) + 1 = omega arith in
    e
    ∙ ap (λ (k : ℕ). bound_to name (Some (level, k)) now) at
    ∙ ap (bound_to name (Some (level, first + (index - 1)))) (h ∙ ap (λ (k : ℕ). bound_by level k (drop index names) outside) after)
    ∙ ap (λ (xs : List (List ℕ)). bound_by level (first + (index - 1)) xs outside) (sym (drop-at names index name some inside is))

pub hide-more : (level first index : ℕ) (names : List (List ℕ)) (name : List ℕ) (before : Binding) (outside now : List ℕ → Binding) (hidden next : List (List ℕ × Binding)) → now ≡ bound_by level (first + index) (drop index names) outside → hidden ≡ hidden_by level (first + index) (drop index names) outside → 0 < index → index ≤ length names → name ≡ get_or names (index - 1) name → before ≡ now name → next ≡ (name, before) ∷ hidden → next ≡ hidden_by level (first + (index - 1)) (drop (index - 1) names) outside
hide-more level first index names name before outside now hidden next h g some inside is b e =
    let after : first + index ≡ (first + (index - 1)) + 1 = omega arith in
    e
    ∙ ap (λ (x : Binding). (name, x) ∷ hidden) (b ∙ ap (λ (f : List ℕ → Binding). f name) h ∙ ap (λ (k : ℕ). bound_by level k (drop index names) outside name) after)
    ∙ ap (λ (hs : List (List ℕ × Binding)). (name, bound_by level ((first + (index - 1)) + 1) (drop index names) outside name) ∷ hs) (g ∙ ap (λ (k : ℕ). hidden_by level k (drop index names) outside) after)
    ∙ ap (λ (xs : List (List ℕ)). hidden_by level (first + (index - 1)) xs outside) (sym (drop-at names index name some inside is))

pub bind-start : (level first index : ℕ) (names : List (List ℕ)) (outside : List ℕ → Binding) → index ≡ length names → outside ≡ bound_by level (first + index) (drop index names) outside
bind-start level first index names outside e = ap (λ (xs : List (List ℕ)). bound_by level (first + index) xs outside) (sym (drop_all index names (omega arith)))

pub hide-start : (level first index : ℕ) (names : List (List ℕ)) (outside : List ℕ → Binding) → index ≡ length names → [] ≡ hidden_by level (first + index) (drop index names) outside
hide-start level first index names outside e = ap (λ (xs : List (List ℕ)). hidden_by level (first + index) xs outside) (sym (drop_all index names (omega arith)))

pub bind-end : (level first index : ℕ) (names : List (List ℕ)) (outside now : List ℕ → Binding) → index ≡ 0 → now ≡ bound_by level (first + index) (drop index names) outside → now ≡ bound_by level first names outside
bind-end level first index names outside now e h = h ∙ ap (λ (k : ℕ). bound_by level (first + k) (drop k names) outside) e ∙ ap (λ (k : ℕ). bound_by level k names outside) (nothing first)
  where
    nothing : (n : ℕ) → n + 0 ≡ n
    nothing n = omega arith

pub hide-end : (level first index : ℕ) (names : List (List ℕ)) (outside : List ℕ → Binding) (hidden : List (List ℕ × Binding)) → index ≡ 0 → hidden ≡ hidden_by level (first + index) (drop index names) outside → hidden ≡ hidden_by level first names outside
hide-end level first index names outside hidden e h = h ∙ ap (λ (k : ℕ). hidden_by level (first + k) (drop k names) outside) e ∙ ap (λ (k : ℕ). hidden_by level k names outside) (nothing first)
  where
    nothing : (n : ℕ) → n + 0 ≡ n
    nothing n = omega arith

pub hidden-more : (all : List Hidden) (h : Hidden) → hidden_shown (all ++ h ∷ []) ≡ (h.name.now, h.outside) ∷ hidden_shown all
hidden-more all h = ap (map (λ (x : Hidden). (x.name.now, x.outside))) (reverse-append all (h ∷ []))

-- one hidden name less
pub restore-more : (all : List Hidden) (index : ℕ) (d : Hidden) (whole now next : List ℕ → Binding) → 0 < index → index ≤ length all → next ≡ bound_to (get_or all (index - 1) d).name.now (get_or all (index - 1) d).outside now → unbound (hidden_shown (take index all)) now ≡ whole → unbound (hidden_shown (take (index - 1) all)) next ≡ whole
restore-more all index d whole now next some inside e w =
    let before : (index - 1) + 1 ≡ index = omega arith in
    let below : index - 1 < length all = omega arith in
    ap (unbound (hidden_shown (take (index - 1) all))) e
    ∙ ap (λ (hs : List (List ℕ × Binding)). unbound hs now) (sym (hidden-more (take (index - 1) all) (get_or all (index - 1) d)))
    ∙ ap (λ (xs : List Hidden). unbound (hidden_shown xs) now) (sym (take_more all (index - 1) d below))
    ∙ ap (λ (k : ℕ). unbound (hidden_shown (take k all)) now) before
    ∙ w

pub restore-end : (all : List Hidden) (index : ℕ) (whole now : List ℕ → Binding) → index ≡ 0 → unbound (hidden_shown (take index all)) now ≡ whole → now ≡ whole
restore-end all index whole now e w = sym (ap (λ (k : ℕ). unbound (hidden_shown (take k all)) now) e) ∙ w

pub token-name-at : (tokens : List (Bor Token)) (i : ℕ) (t : Bor Token) → t ≡ get_or tokens i t → name_of t.now ≡ get_or (names_of_tokens (tokens_shown tokens)) i (name_of t.now)
token-name-at [] i t e = refl
token-name-at (u ∷ us) zero t e = ap (λ (x : Bor Token). name_of x.now) e
token-name-at (u ∷ us) (suc i) t e = token-name-at us i t e

pub ruleset binding_laws = (found-some, found-none, inserted-bound, hidden-more)
