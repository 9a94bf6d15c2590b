-- What the bodies of a resolved tree export is what is exported in the tree.
use Rattle.std.proofs.Common.{◌≡◌, ◌+◌, if◌then◌else◌, ℕ, zero, suc, Bool, true, false, List, [], ◌∷◌, ◌++◌, length, map, slice_get, Option, Some, None, Result, Ok, Err, refl, sym, ap, ◌∙◌}
use Rattle.std.specs.List.{list_all}
use Rattle.bqn_base.specs.declared.refusal.Refusal.{Refusal}
use Rattle.bqn_syntax.specs.grammar.Trees.{Stmts}
use Rattle.bqn_syntax.specs.scope.Order.{order_of}
use Rattle.bqn_syntax.specs.scope.Mentions.{Mention, Named, Special, System, Inner, Mentions, no_mentions, and_mentions, Scopes, no_scopes, and_scopes, stmts_mentions}
use Rattle.bqn_syntax.specs.scope.Scope.{Use, block_scope, top_scope, names_of, name_of, has, place_of, resolved}
use Rattle.bqn_syntax.specs.scope.Bodies.{BodyNames, Resolution, exports_it, at_slot, exports_of, body_names, of_block, inside, inside_mention, inside_block, bodies_of, with_bodies, resolution}
use Rattle.bqn_compile.proofs.verified.Tests.{both_true, left_true, right_true, all_append}
use Rattle.bqn_compile.proofs.verified.pools.MentionedItems.{EveryMention, MentionHolds, InScopes}

-- ---- the bodies of a resolution

pub resolved_bodies : (outer : List (List ℕ)) (ss : Stmts) (r : Resolution) → resolution outer ss ≡ Ok r → r.bodies ≡ bodies_of outer ss
resolved_bodies outer ss r e = by (resolved outer ss) e
  where
    by : (o : Result (List Use) Refusal) → with_bodies (bodies_of outer ss) o ≡ Ok r → r.bodies ≡ bodies_of outer ss
    by (Ok uses) e = ap (λ (o : Result Resolution Refusal). elim o [ Ok r ↦ r.bodies | Err x ↦ [] ]) (sym e)
    by (Err x) e = absurd (cc)

-- ---- exports

module _ (test : List ℕ → Bool) where
  -- what is exported passes
  abbrev pub Exported : Mention → Type 0
  Exported (Named how t) = exports_it how ≡ true → test (name_of t) ≡ true
  Exported m = Unit {0}

  abbrev pub names_pass : List (List ℕ × ℕ) → Bool
  names_pass found = list_all (λ e. test e.0) found

  abbrev pub bodies_pass : List BodyNames → Bool
  bodies_pass bodies = list_all (λ b. names_pass b.exports) bodies

  slot_passes : (name : List ℕ) (o : Option ℕ) (found : List (List ℕ × ℕ)) → test name ≡ true → names_pass found ≡ true → names_pass (at_slot name o found) ≡ true
  slot_passes name None found p h = h
  slot_passes name (Some slot) found p h = all_append (λ e. test e.0) found ((name, slot) ∷ []) h (both_true (test name) true p refl)

  either : (b : Bool) (xs ys : List (List ℕ × ℕ)) → (b ≡ false → names_pass ys ≡ true) → names_pass xs ≡ true → names_pass (if b then xs else ys) ≡ true
  either true xs ys f h = h
  either false xs ys f h = f refl

  exporting : (b : Bool) (xs ys : List (List ℕ × ℕ)) → (b ≡ true → names_pass xs ≡ true) → names_pass ys ≡ true → names_pass (if b then xs else ys) ≡ true
  exporting true xs ys f h = f refl
  exporting false xs ys f h = h

  exports_pass : (names : List (List ℕ)) (ms : Mentions) (found : List (List ℕ × ℕ)) → EveryMention Exported ms → names_pass found ≡ true → names_pass (exports_of names ms found) ≡ true
  exports_pass names no_mentions found h p = p
  exports_pass names (and_mentions (Named how t) ms) found h p =
      exporting (exports_it how)
      (if has (map (λ e. e.0) found) (name_of t) then exports_of names ms found else exports_of names ms (at_slot (name_of t) (place_of names (name_of t)) found))
      (exports_of names ms found)
      (λ e. either (has (map (λ e. e.0) found) (name_of t)) (exports_of names ms found) (exports_of names ms (at_slot (name_of t) (place_of names (name_of t)) found))
      (λ n. exports_pass names ms (at_slot (name_of t) (place_of names (name_of t)) found) h.1 (slot_passes (name_of t) (place_of names (name_of t)) found (h.0 e) p))
      (exports_pass names ms found h.1 p))
      (exports_pass names ms found h.1 p)
  exports_pass names (and_mentions (Special t) ms) found h p = exports_pass names ms found h.1 p
  exports_pass names (and_mentions (System t) ms) found h p = exports_pass names ms found h.1 p
  exports_pass names (and_mentions (Inner bodies) ms) found h p = exports_pass names ms found h.1 p

  of_block_passes : (parent : ℕ) (bodies : Scopes) → InScopes Exported bodies → bodies_pass (of_block parent bodies) ≡ true
  of_block_passes parent no_scopes h = refl
  of_block_passes parent (and_scopes ms order bodies) h = both_true _ _ (exports_pass (names_of (block_scope ms order)) ms [] h.0 refl) (of_block_passes parent bodies h.1)

  mutual
    inside_passes : (number : ℕ) (ms : Mentions) (found : List BodyNames) → EveryMention Exported ms → bodies_pass found ≡ true → bodies_pass (inside number ms found) ≡ true
    inside_passes number no_mentions found h p = p
    inside_passes number (and_mentions m ms) found h p = inside_passes number ms (inside_mention number m found) h.1 (mention_passes number m found h.0 p)

    mention_passes : (number : ℕ) (m : Mention) (found : List BodyNames) → MentionHolds Exported m → bodies_pass found ≡ true → bodies_pass (inside_mention number m found) ≡ true
    mention_passes number (Named how t) found h p = p
    mention_passes number (Special t) found h p = p
    mention_passes number (System t) found h p = p
    mention_passes number (Inner bodies) found h p =
        inside_block_passes (length found) bodies (found ++ of_block number bodies) h (all_append (λ b. names_pass b.exports) found (of_block number bodies) p (of_block_passes number bodies h))

    inside_block_passes : (number : ℕ) (bodies : Scopes) (found : List BodyNames) → InScopes Exported bodies → bodies_pass found ≡ true → bodies_pass (inside_block number bodies found) ≡ true
    inside_block_passes number no_scopes found h p = p
    inside_block_passes number (and_scopes ms order bodies) found h p = inside_block_passes (number + 1) bodies (inside number ms found) h.1 (inside_passes number ms found h.0 p)

  pub all_bodies_pass : (outer : List (List ℕ)) (ss : Stmts) → EveryMention Exported (stmts_mentions ss no_mentions) → bodies_pass (bodies_of outer ss) ≡ true
  all_bodies_pass outer ss h =
      let ms = stmts_mentions ss no_mentions in
      inside_passes 0 ms (body_names (length outer) (top_scope outer ms (order_of None ss)) ms ∷ []) h
      (both_true _ true (exports_pass (names_of (top_scope outer ms (order_of None ss))) ms [] h refl) refl)

  pub body_passes : (bodies : List BodyNames) (k : ℕ) (b : BodyNames) → bodies_pass bodies ≡ true → slice_get bodies k ≡ Some b → names_pass b.exports ≡ true
  body_passes [] k b h e = absurd (cc)
  body_passes (x ∷ xs) zero b h e = ap (λ (o : Option BodyNames). elim o [ None ↦ true | Some b ↦ names_pass b.exports ]) (sym e) ∙ left_true _ (bodies_pass xs) h
  body_passes (x ∷ xs) (suc k) b h e = body_passes xs k b (right_true (names_pass x.exports) (bodies_pass xs) h) e
