-- The uses of a body, one mention after another.
use Rattle.std.proofs.Common.{◌≡◌, ℕ, Bool, false, List, [], ◌∷◌, ◌++◌, length, Result, Ok, Err, refl, sym, ap, ◌∙◌, arith}
use Rattle.std.specs.List.{list_any}
use Rattle.std.proofs.lemmas.List.{map-append}
use Rattle.bqn_base.specs.declared.refusal.Refusal.{Refusal}
use Rattle.bqn_base.specs.declared.refusal.Refusal.TheVariants as refusal
use Rattle.bqn_syntax.specs.declared.token.Token.{Token}
use Rattle.bqn_syntax.specs.scope.Order.{How, Reads, Defines, Exports, Changes, Shows}
use Rattle.bqn_syntax.specs.scope.Scope.{Scope, Use, name_of, same_place, is_again, sees, read, define, unless, named, stands_in_block}
use Rattle.bqn_scope.specs.declared.error.ScopeError.{ScopeError}
use Rattle.bqn_scope.specs.declared.error.ScopeError.TheVariants.{Refused, Memory}
use Rattle.bqn_scope.specs.declared.scope.Scope.{Scope as CodeScope}
use Rattle.bqn_scope.specs.declared.used.Use.{Use as CodeUse}
use Rattle.bqn_scope.specs.Scopes.{Writes, Passes, scope_shown, scopes_around, use_shown, uses_shown}
use Rattle.bqn_scope.specs.Around.{has_last}
use Rattle.bqn_scope.proofs.Bodies.{around-last}

pub uses-more : (uses : List CodeUse) (u : CodeUse) → uses_shown (uses ++ u ∷ []) ≡ uses_shown uses ++ use_shown u ∷ []
uses-more uses u = map-append use_shown uses (u ∷ [])

pub in-block-last : (outer : List (List ℕ)) (all around : List CodeScope) (s : CodeScope) → all ≡ around ++ s ∷ [] → stands_in_block (scopes_around outer all) ≡ s.in_block
in-block-last outer all around s e = ap stands_in_block (around-last outer all around s e)

pub in-block-none : (outer : List (List ℕ)) (all : List CodeScope) → length all ≡ 0 → stands_in_block (scopes_around outer all) ≡ false
in-block-none outer [] e = refl
in-block-none outer (s ∷ ss) e = absurd (omega arith)

pub named-none : (outer : List (List ℕ)) (all : List CodeScope) (how : How) (t : Token) (us : List Use) → length all ≡ 0 → named (scopes_around outer all) how t us ≡ Err (refusal.Undeclared t.place)
named-none outer [] how t us e = refl
named-none outer (s ∷ ss) how t us e = absurd (omega arith)

pub named-reads : (outer : List (List ℕ)) (all around : List CodeScope) (s : CodeScope) (t : Token) (us : List Use) → all ≡ around ++ s ∷ [] → read (list_any (same_place t) (scope_shown outer s).early) t (sees (scopes_around outer all) (name_of t)) us ≡ named (scopes_around outer all) Reads t us
named-reads outer all around s t us e =
    ap (λ (xs : List Scope). read (list_any (same_place t) (scope_shown outer s).early) t (sees xs (name_of t)) us) (around-last outer all around s e)
    ∙ sym (ap (λ (xs : List Scope). named xs Reads t us) (around-last outer all around s e))

pub named-changes : (outer : List (List ℕ)) (all around : List CodeScope) (s : CodeScope) (t : Token) (us : List Use) → all ≡ around ++ s ∷ [] → named (scopes_around outer all) Reads t us ≡ named (scopes_around outer all) Changes t us
named-changes outer all around s t us e =
    ap (λ (xs : List Scope). named xs Reads t us) (around-last outer all around s e)
    ∙ sym (ap (λ (xs : List Scope). named xs Changes t us) (around-last outer all around s e))

pub named-defines : (outer : List (List ℕ)) (all around : List CodeScope) (s : CodeScope) (t : Token) (us : List Use) → all ≡ around ++ s ∷ [] → define (is_again (scope_shown outer s).defined t) t (sees (scopes_around outer all) (name_of t)) us ≡ named (scopes_around outer all) Defines t us
named-defines outer all around s t us e =
    ap (λ (xs : List Scope). define (is_again (scope_shown outer s).defined t) t (sees xs (name_of t)) us) (around-last outer all around s e)
    ∙ sym (ap (λ (xs : List Scope). named xs Defines t us) (around-last outer all around s e))

pub named-exports : (outer : List (List ℕ)) (all around : List CodeScope) (s : CodeScope) (t : Token) (us : List Use) → all ≡ around ++ s ∷ [] → named (scopes_around outer all) Defines t us ≡ named (scopes_around outer all) Exports t us
named-exports outer all around s t us e =
    ap (λ (xs : List Scope). named xs Defines t us) (around-last outer all around s e)
    ∙ sym (ap (λ (xs : List Scope). named xs Exports t us) (around-last outer all around s e))

pub writes-along : {T : Type 0} (a b : Result (List Use) Refusal) (new : List CodeUse) (r : Result T ScopeError) → a ≡ b → Writes a new r → Writes b new r
writes-along a b new (Ok v) e h = sym e ∙ h
writes-along a b new (Err (Refused q)) e h = sym e ∙ h
writes-along a b new (Err Memory) e h = tt

-- a check that writes nothing
pub writes-unless : {T : Type 0} (met : Bool) (q : Refusal) (us : List CodeUse) (r : Result T ScopeError) → Passes met q r → Writes (unless met q (uses_shown us)) us r
writes-unless met q us (Ok v) h = ap (λ (b : Bool). unless b q (uses_shown us)) h
writes-unless met q us (Err (Refused other)) h = ap (λ (b : Bool). unless b q (uses_shown us)) h.0 ∙ ap (λ (x : Refusal). Err x) (sym h.1)
writes-unless met q us (Err Memory) h = tt

pub named-shows : {T : Type 0} (outer : List (List ℕ)) (all around : List CodeScope) (s : CodeScope) (t : Token) (us : List CodeUse) (r : Result T ScopeError) → all ≡ around ++ s ∷ [] → Passes (has_last (scopes_around outer all) (name_of t)) (refusal.Undeclared t.place) r → Writes (named (scopes_around outer all) Shows t (uses_shown us)) us r
named-shows outer all around s t us r e h =
    writes-along _ _ us r
    (ap (λ (xs : List Scope). unless (has_last xs (name_of t)) (refusal.Undeclared t.place) (uses_shown us)) (around-last outer all around s e)
    ∙ sym (ap (λ (xs : List Scope). named xs Shows t (uses_shown us)) (around-last outer all around s e)))
    (writes-unless _ _ us r h)

pub ruleset use_laws = (uses-more, in-block-last, in-block-none, named-none)

pub ruleset walk_laws = (writes-unless)
