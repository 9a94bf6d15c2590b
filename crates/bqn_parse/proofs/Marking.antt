-- What occurs in statements, one after another.
use Rattle.std.proofs.Common.{◌≡◌, ◌+◌, ◌<◌, ◌≤◌, ℕ, length, drop, get_or, drop-cons, add-one, suc, Bool, true, false, List, ◌∷◌, map, refl, sym, ap, ◌∙◌, arith}
use Rattle.std.specs.Prelude.{◌||◌}
use Rattle.std.proofs.Math.ListN.{drop_of_length-le}
use Rattle.bqn_syntax.specs.declared.tree.Stmt.{Stmt as CodeStmt}
use Rattle.bqn_syntax.specs.grammar.Trees.{stmt_of, stmts, Stmt, Eval, Predicate, Export, Stmts, no_stmts, and_stmts}
use Rattle.bqn_syntax.specs.grammar.Classes as classes
use Rattle.bqn_parse.specs.Marking.{at_most_one}

or-assoc : (a b c : Bool) → ((a || b) || c) ≡ (a || (b || c))
or-assoc true b c = refl
or-assoc false b c = refl

or-false : (a : Bool) → (a || false) ≡ a
or-false true = refl
or-false false = refl

pub and-assoc : (s r t : classes.Seen) → classes.and (classes.and s r) t ≡ classes.and s (classes.and r t)
and-assoc s r t =
    ap (λ (b : Bool). classes.seen b ((s.one || r.one) || t.one) ((s.one_self || r.one_self) || t.one_self) ((s.two || r.two) || t.two)) (or-assoc s.args r.args t.args)
    ∙ ap (λ (b : Bool). classes.seen (s.args || (r.args || t.args)) b ((s.one_self || r.one_self) || t.one_self) ((s.two || r.two) || t.two)) (or-assoc s.one r.one t.one)
    ∙ ap (λ (b : Bool). classes.seen (s.args || (r.args || t.args)) (s.one || (r.one || t.one)) b ((s.two || r.two) || t.two)) (or-assoc s.one_self r.one_self t.one_self)
    ∙ ap (λ (b : Bool). classes.seen (s.args || (r.args || t.args)) (s.one || (r.one || t.one)) (s.one_self || (r.one_self || t.one_self)) b) (or-assoc s.two r.two t.two)

pub and-nothing : (s : classes.Seen) → classes.and s classes.nothing ≡ s
and-nothing s =
    ap (λ (b : Bool). classes.seen b (s.one || false) (s.one_self || false) (s.two || false)) (or-false s.args)
    ∙ ap (λ (b : Bool). classes.seen s.args b (s.one_self || false) (s.two || false)) (or-false s.one)
    ∙ ap (λ (b : Bool). classes.seen s.args s.one b (s.two || false)) (or-false s.one_self)
    ∙ ap (λ (b : Bool). classes.seen s.args s.one s.one_self b) (or-false s.two)

-- one more, after what has been seen
pub and-more : (so now next rest all : classes.Seen) → classes.and so (classes.and now rest) ≡ all → next ≡ classes.and so now → classes.and next rest ≡ all
and-more so now next rest all e n = ap (λ (s : classes.Seen). classes.and s rest) n ∙ and-assoc so now rest ∙ e

pub and-last : (so rest all : classes.Seen) → classes.and so rest ≡ all → rest ≡ classes.nothing → so ≡ all
and-last so rest all e n = sym (and-nothing so) ∙ ap (classes.and so) (sym n) ∙ e

pub ruleset seen_laws = (and-assoc, and-nothing)

pub since-some : (n m : ℕ) (ss : Stmts) → at_most_one (classes.since_predicate (n + 1) ss) ≡ at_most_one (classes.since_predicate (m + 1) ss)
since-some n m no_stmts = one n ∙ sym (one m)
  where
    one : (n : ℕ) → at_most_one (n + 1) ≡ 1
    one n = grind arith
since-some n m (and_stmts (Predicate e) ss) = refl
since-some n m (and_stmts (Eval e) ss) = since-some (n + 1) (m + 1) ss
since-some n m (and_stmts (Export q) ss) = since-some (n + 1) (m + 1) ss

abbrev next_count : Bool → ℕ
next_count true = 0
next_count false = 1

pub since-more : (so next : ℕ) (s : Stmt) (ss : Stmts) → next ≡ next_count (classes.is_predicate s) → at_most_one (classes.since_predicate so (and_stmts s ss)) ≡ at_most_one (classes.since_predicate next ss)
since-more so next (Predicate e) ss n = ap (λ (k : ℕ). at_most_one (classes.since_predicate k ss)) (sym n)
since-more so next (Eval e) ss n = since-some so 0 ss ∙ ap (λ (k : ℕ). at_most_one (classes.since_predicate k ss)) (sym n)
since-more so next (Export q) ss n = since-some so 0 ss ∙ ap (λ (k : ℕ). at_most_one (classes.since_predicate k ss)) (sym n)

-- where these have been counted
pub record Counted (so index : ℕ) (ss : List CodeStmt) : Type 0 where
  pub small : so ≤ 1
  pub same : at_most_one (classes.since_predicate so (stmts (map stmt_of (drop index ss)))) ≡ at_most_one (classes.since_predicate 0 (stmts (map stmt_of ss)))

pub counted-start : (ss : List CodeStmt) → Counted 0 0 ss
counted-start ss = record { small = omega arith; same = refl }

counted-one : (so next index : ℕ) (s : CodeStmt) (ss : List CodeStmt) → Counted so index ss → index < length ss → s ≡ get_or ss index s → next ≡ next_count (classes.is_predicate (stmt_of s)) → next ≤ 1 → Counted next (index + 1) ss
counted-one so next index s ss counted inside is n small = record {
  small = small;
  same =
      ap (λ (k : ℕ). at_most_one (classes.since_predicate next (stmts (map stmt_of (drop k ss))))) (add-one index)
      ∙ sym (since-more so next (stmt_of s) (stmts (map stmt_of (drop (suc index) ss))) n)
      ∙ ap (λ (x : CodeStmt). at_most_one (classes.since_predicate so (stmts (map stmt_of (x ∷ drop (suc index) ss))))) is
      ∙ ap (λ (xs : List CodeStmt). at_most_one (classes.since_predicate so (stmts (map stmt_of xs)))) (sym (drop-cons ss index s inside))
      ∙ counted.same;
}

pub counted-predicate : (so index : ℕ) (s : CodeStmt) (ss : List CodeStmt) → Counted so index ss → index < length ss → s ≡ get_or ss index s → classes.is_predicate (stmt_of s) ≡ true → Counted 0 (index + 1) ss
counted-predicate so index s ss counted inside is n = counted-one so 0 index s ss counted inside is (sym (ap next_count n)) (omega arith)

pub counted-other : (so index : ℕ) (s : CodeStmt) (ss : List CodeStmt) → Counted so index ss → index < length ss → s ≡ get_or ss index s → classes.is_predicate (stmt_of s) ≡ false → Counted 1 (index + 1) ss
counted-other so index s ss counted inside is n = counted-one so 1 index s ss counted inside is (sym (ap next_count n)) (omega arith)

pub counted-end : (so index : ℕ) (ss : List CodeStmt) → Counted so index ss → length ss ≤ index → so ≡ at_most_one (classes.since_predicate 0 (stmts (map stmt_of ss)))
counted-end so index ss counted outside = sym (own so counted.small) ∙ ap (λ (xs : List CodeStmt). at_most_one (classes.since_predicate so (stmts (map stmt_of xs)))) (sym (drop_of_length-le ss outside)) ∙ counted.same
  where
    own : (n : ℕ) → n ≤ 1 → at_most_one n ≡ n
    own n small = grind arith

pub ruleset since_laws = (counted-start, counted-end)
