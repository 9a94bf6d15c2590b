-- The slots of translated code are there.
use Rattle.std.proofs.Common.{◌≡◌, ◌<◌, ◌≤◌, ℕ, zero, suc, ◌+◌, ◌&&◌, ◌||◌, Bool, true, false, List, [], ◌∷◌, ◌++◌, length, map, slice_get, Option, Some, None, Result, Ok, Err, arith, refl, sym, subst, ap, ◌∙◌, nat_eq, nat_lt, eq-eqb, length-append, IsTrue}
use Rattle.std.specs.List.{list_all}
use Rattle.std.proofs.lemmas.Bool.{eqb-true}
use Rattle.std.proofs.lemmas.Option.{none-some}
use Rattle.bqn_base.specs.declared.refusal.Refusal.{Refusal}
use Rattle.bqn_syntax.specs.declared.tree.Class.{Class}
use Rattle.bqn_syntax.specs.grammar.Trees.{Stmts, BodyTree, body}
use Rattle.bqn_syntax.specs.scope.Order.{order_of}
use Rattle.bqn_syntax.specs.scope.Mentions.{Mentions, no_mentions, stmts_mentions}
use Rattle.bqn_syntax.specs.scope.Scope.{Scope, Use, top_scope, names_of, name_of, definitions, resolved}
use Rattle.bqn_syntax.specs.scope.Bodies.{BodyNames, body_names, bodies_of, Resolution, resolution, with_bodies}
use Rattle.bqn_syntax.specs.grammar.Well.{WellStmts}
use Rattle.bqn_code.specs.declared.code.Body.{Body}
use Rattle.bqn_code.specs.declared.code.Block.{Block}
use Rattle.bqn_syntax.specs.declared.token.Token.{Token}
use Rattle.bqn_code.specs.Plain.{Code}
use Rattle.bqn_code.specs.Standing.{Standing, of_block, of_blocks, standing, every_body}
use Rattle.bqn_code.specs.Conditions as is
use Rattle.bqn_compile.specs.declared.count.Count.{Count}
use Rattle.bqn_compile.specs.Counting.{past, in_stmts}
use Rattle.bqn_compile.specs.Gathering.{Gathered, the_most, gathered}
use Rattle.bqn_compile.specs.Gathering as gather
use Rattle.bqn_compile.specs.Bodies.{names_in, body_code, calls_of, exports_code}
use Rattle.bqn_compile.specs.Blocks.{stmts_blocks}
use Rattle.bqn_compile.specs.Translation.{at_start, setting, translation}
use Rattle.bqn_compile.specs.Sources.{FromSource}
use Rattle.bqn_compile.proofs.verified.Tests.{or_right, both_true, left_true, right_true}
use Rattle.bqn_compile.proofs.verified.blocks.BlockCounts.{bodies_in, Counts, stmts_counts}
use Rattle.bqn_compile.proofs.verified.bodies.EveryBody.{EveryInProgram, every-body}
use Rattle.bqn_compile.proofs.verified.slots.Fronts.{front_same, front_at, some_same, at_some, at_below, has_front, has_back, by_either}
use Rattle.bqn_compile.proofs.verified.slots.Seeing.{ok_same, err_ok, inside_front, defined_all}
use Rattle.bqn_compile.proofs.verified.slots.Walking.{grown_same, Made, AllPlaced, Here, State, Walked}
use Rattle.bqn_compile.proofs.verified.slots.BlockWalks.{Good, Holds, own_mentions}
use Rattle.bqn_compile.proofs.verified.slots.TreeWalks.{StmtsFacts, stmts_walk}
use Rattle.bqn_compile.proofs.verified.exports.Exported.{Exported, all_exported, numbers_differ, slots_below}

-- each variable that is meant is there, and what is exported is a variable under a name of its own
pub record SlotsVerified (code : Code) : Type 0 where
  pub slots : IsTrue (is.slots_are_there code)
  pub exports : IsTrue (is.exports_are_there code)
  pub distinct_exports : IsTrue (is.exports_are_distinct code)

-- ---- bodies by number

all_at : {A : Type 0} (test : A → Bool) (xs : List A) (k : ℕ) (x : A) → list_all test xs ≡ true → slice_get xs k ≡ Some x → test x ≡ true
all_at test [] k x h q = absurd (none-some x q)
all_at test (y ∷ ys) zero x h q = subst (λ z. test z ≡ true) (some_same q) (left_true (test y) _ h)
all_at test (y ∷ ys) (suc k) x h q = all_at test ys k x (right_true (test y) _ h) q

many_of_block : (b k : ℕ) (block : Block) (bodies : List Body) → length (of_block b k block bodies) ≡ length bodies
many_of_block b k block [] = refl
many_of_block b k block (x ∷ xs) = ap suc (many_of_block b (suc k) block xs)

many_of_blocks : (b k : ℕ) (xs : List Block) → length (of_blocks b k xs) ≡ bodies_in xs
many_of_blocks b k [] = refl
many_of_blocks b k (x ∷ xs) = omega (arith, length-append (of_block b k x x.bodies) (of_blocks (suc b) (k + length x.bodies) xs), many_of_block b k x x.bodies, many_of_blocks (suc b) (k + length x.bodies) xs)

-- a body with this number, of this block or a later one
record Numbered (b k : ℕ) (s : Standing) : Type 0 where
  pub number : s.number ≡ k
  pub block : b ≤ s.block_number

numbered_in : (b k : ℕ) (block : Block) (bodies : List Body) (rest : List Standing) → ((j : ℕ) (s : Standing) → slice_get rest j ≡ Some s → Numbered b (k + length bodies + j) s) → (j : ℕ) (s : Standing) → slice_get (of_block b k block bodies ++ rest) j ≡ Some s → Numbered b (k + j) s
numbered_in b k block [] rest h j s e = subst (λ n. Numbered b n s) (same k j) (h j s e)
  where
    same : (k j : ℕ) → k + 0 + j ≡ k + j
    same k j = omega arith
numbered_in b k block (x ∷ xs) rest h zero s e = subst (λ (z : Standing). Numbered b (k + 0) z) (some_same e) (record { number = same k; block = omega arith })
  where
    same : (k : ℕ) → k ≡ k + 0
    same k = omega arith
numbered_in b k block (x ∷ xs) rest h (suc j) s e = subst (λ n. Numbered b n s) (same k j) (numbered_in b (suc k) block xs rest (λ i t q. subst (λ n. Numbered b n t) (moved k (length xs) i) (h i t q)) j s e)
  where
    same : (k j : ℕ) → suc k + j ≡ k + suc j
    same k j = omega arith

    moved : (k n i : ℕ) → k + suc n + i ≡ suc k + n + i
    moved k n i = omega arith

numbered_all : (b k : ℕ) (xs : List Block) (j : ℕ) (s : Standing) → slice_get (of_blocks b k xs) j ≡ Some s → Numbered b (k + j) s
numbered_all b k [] j s e = absurd (none-some s e)
numbered_all b k (x ∷ xs) j s e = numbered_in b k x x.bodies (of_blocks (suc b) (k + length x.bodies) xs) (λ i t q. let n : Numbered (suc b) (k + length x.bodies + i) t = numbered_all (suc b) (k + length x.bodies) xs i t q in record { number = n.number; block = omega (arith, n.block) }) j s e

-- ---- what a resolution is

record Resolved (outer : List (List ℕ)) (ss : Stmts) (r : Resolution) : Type 0 where
  pub bodies : bodies_of outer ss ≡ r.bodies
  pub uses : resolved outer ss ≡ Ok r.uses

resolved_is : (outer : List (List ℕ)) (ss : Stmts) (r : Resolution) → resolution outer ss ≡ Ok r → Resolved outer ss r
resolved_is outer ss r e = by (resolved outer ss) refl e
  where
    by : (x : Result (List Use) Refusal) → resolved outer ss ≡ x → with_bodies (bodies_of outer ss) x ≡ Ok r → Resolved outer ss r
    by (Ok uses) q h = record { bodies = ap (λ (z : Resolution). z.bodies) (ok_same h); uses = q ∙ ap (λ (z : Resolution). Ok z.uses) (ok_same h) }
    by (Err x) q h = absurd (err_ok h)

module _ (outer : List (List ℕ)) (ss : Stmts) (r : Resolution) (is_resolved : Resolved outer ss r) (pools : Gathered) (is_gathered : gathered the_most r.uses ss ≡ Ok pools) (well : WellStmts false ss) where
  abbrev o : Made
  o = record { resolved = r; pools = pools; tree = ss }

  abbrev mentions : Mentions
  mentions = stmts_mentions ss no_mentions

  abbrev own : Scope
  own = top_scope outer mentions (order_of None ss)

  abbrev names : BodyNames
  names = body_names (length outer) own mentions

  abbrev here : Here o
  here = record {
    own = own;
    outer = [];
    number = 0;
    after = r.uses;
    last = r.bodies;
    uses_stay = front_same r.uses;
    bodies_stay = front_same r.bodies;
    stands = record { names = names; there = subst (λ l. slice_get l 0 ≡ Some names) is_resolved.bodies (front_at 0 names (inside_front 0 mentions (names ∷ [])) refl); same = refl };
  }

  start : State o here mentions at_start gather.at_start
  start = record {
    before = [];
    resolves = is_resolved.uses;
    uses = refl;
    found = names ∷ [];
    numbers = is_resolved.bodies;
    bodies = refl;
    some = omega arith;
    patterns = refl;
    gathered = refl;
    defined = defined_all (names_of own) outer mentions (λ name e. has_front outer (map name_of (definitions outer mentions)) name e) (λ name e. has_back outer (map name_of (definitions outer mentions)) name e);
  }

  walked : Walked o here mentions no_mentions (past at_start (in_stmts ss)) gather.at_start pools (StmtsFacts o here ss at_start)
  walked = (stmts_walk o here false ss well).run no_mentions at_start gather.at_start pools start is_gathered

  many : length r.bodies ≡ 1 + (in_stmts ss).bodies
  many = sym (ap (λ (l : List BodyNames). length l) walked.state.numbers) ∙ walked.state.bodies

  all : EveryInProgram (Holds o) ss
  all = (record { names = names; there = here.stands.there; parent = λ i. absurd (none i); exported = refl; pooled = walked.pooled (grown_same pools) tt; passes = (walked.facts (grown_same pools)).0 _ }, (walked.facts (grown_same pools)).1)
    where
      none : 0 < 0 → ⊥
      none i = omega arith

  abbrev code : Code
  code = translation r pools ss

  -- ---- each body is placed

  -- a body has as many variables as its names say, and its block stands where they say
  abbrev expected : ℕ → BodyNames
  expected k = names_in (slice_get r.bodies k)

  abbrev stands_as_named : Standing → Bool
  stands_as_named s = nat_eq s.body.slots (length (expected s.number).slots) && (nat_eq s.number 0 || nat_eq s.block.parent (expected s.number).parent)

  abbrev body_at : Class → (b n k plain before : ℕ) → List Body → Count → BodyTree → Standing
  body_at kind b n k plain before bodies c x = record { number = k; block_number = b; block = record { class = kind; parent = n; bodies = bodies }; body = body_code (setting r.uses pools) (expected k) (calls_of plain before x) c x }

  in_block : (n k : ℕ) (c : Count) (x : BodyTree) → Good o n k c x → (nat_eq k 0 || nat_eq n (expected k).parent) ≡ true
  in_block n zero c x good = refl
  in_block n (suc k) c x good = or_right (nat_eq (suc k) 0) _ (eq-eqb n (expected (suc k)).parent (sym (ap (λ (z : Option BodyNames). (names_in z).parent) good.there ∙ good.parent (omega arith))))

  good_stands : (kind : Class) (b n k plain before : ℕ) (bodies : List Body) (c : Count) (x : BodyTree) → Good o n k c x →
      stands_as_named (body_at kind b n k plain before bodies c x) ≡ true
  good_stands kind b n k plain before bodies c (body h ss) good = both_true _ _ (eq-eqb (length (expected k).slots) (length (expected k).slots) refl) (in_block n k c (body h ss) good)

  stand : every_body stands_as_named code ≡ true
  stand = every-body (Holds o) stands_as_named r pools ss good_stands all

  many_standing : length (standing code) ≡ length r.bodies
  many_standing =
      let counts : Counts (in_stmts ss) (stmts_blocks (setting r.uses pools) r.bodies 0 ss at_start) = stmts_counts (setting r.uses pools) r.bodies 0 ss at_start in
      omega (arith, many_of_blocks 1 1 (stmts_blocks (setting r.uses pools) r.bodies 0 ss at_start), counts.bodies, many)

  behind_program : (k : ℕ) (s : Standing) → slice_get (standing code) k ≡ Some s → 0 < k → 0 < s.block_number
  behind_program zero s e h = absurd (omega arith)
  behind_program (suc k) s e h = let n : Numbered 1 (1 + k) s = numbered_all 1 1 (stmts_blocks (setting r.uses pools) r.bodies 0 ss at_start) k s e in omega (arith, n.block)

  either_parent : (k a b : ℕ) → 0 < k → (nat_eq k 0 || nat_eq a b) ≡ true → a ≡ b
  either_parent zero a b h e = absurd (omega arith)
  either_parent (suc k) a b h e = by_either (a ≡ b) (nat_eq (suc k) 0) (nat_eq a b) (λ z. absurd (nothing z)) (λ z. eqb-true a b z) e
    where
      nothing : nat_eq (suc k) 0 ≡ true → ⊥
      nothing z = let q : suc k ≡ 0 = eqb-true (suc k) 0 z in omega arith

  all_placed : AllPlaced o
  all_placed k names e =
      let at : (s : Standing) × (slice_get (standing code) k ≡ Some s) = at_some (standing code) k (subst (λ (n : ℕ). k < n) (sym many_standing) (at_below r.bodies k names e)) in
      let number : at.0.number ≡ k = (numbered_all 0 0 code.blocks k at.0 at.1).number ∙ from_nothing k in
      let same : expected at.0.number ≡ names = ap (λ (n : ℕ). expected n) number ∙ ap (λ (z : Option BodyNames). names_in z) e in
      let passes : stands_as_named at.0 ≡ true = all_at stands_as_named (standing code) k at.0 stand at.1 in
      record {
        body = at.0;
        there = at.1;
        slots = eqb-true at.0.body.slots (length (expected at.0.number).slots) (left_true _ _ passes) ∙ ap (λ (z : BodyNames). length z.slots) same;
        block = behind_program k at.0 at.1;
        parent = λ h. either_parent at.0.number at.0.block.parent (expected at.0.number).parent (subst (λ (n : ℕ). 0 < n) (sym number) h) (right_true (nat_eq at.0.body.slots (length (expected at.0.number).slots)) _ passes) ∙ ap (λ (z : BodyNames). z.parent) same;
      }
    where
      from_nothing : (k : ℕ) → 0 + k ≡ k
      from_nothing k = omega arith

  -- ---- the clauses

  good_slots : (kind : Class) (b n k plain before : ℕ) (bodies : List Body) (c : Count) (x : BodyTree) → Good o n k c x →
      list_all (is.instr_has_slot code (body_at kind b n k plain before bodies c x)) (body_at kind b n k plain before bodies c x).body.code ≡ true
  good_slots kind b n k plain before bodies c (body h ss) good = good.passes.all all_placed (body_at kind b n k plain before bodies c (body h ss)) refl

  slots_there : is.slots_are_there code ≡ true
  slots_there = every-body (Holds o) (λ s. list_all (is.instr_has_slot code s) s.body.code) r pools ss good_slots all

  exported : (n k : ℕ) (c : Count) (x : BodyTree) (good : Good o n k c x) → Exported o good.names.slots good.names.exports
  exported n k c x good = subst (λ es. Exported o good.names.slots es) (sym good.exported) (all_exported o good.names.slots (own_mentions x) good.pooled)

  good_exports : (kind : Class) (b n k plain before : ℕ) (bodies : List Body) (c : Count) (x : BodyTree) → Good o n k c x →
      list_all (λ (e : ℕ × ℕ). nat_lt e.1 (body_at kind b n k plain before bodies c x).body.slots) (body_at kind b n k plain before bodies c x).body.exports ≡ true
  good_exports kind b n k plain before bodies c (body h ss) good =
      subst (λ (z : Option BodyNames). list_all (λ (e : ℕ × ℕ). nat_lt e.1 (length (names_in z).slots)) (exports_code pools.names (names_in z).exports) ≡ true) (sym good.there)
      (slots_below pools.names (length good.names.slots) good.names.exports (exported n k c (body h ss) good).below)

  exports_there : is.exports_are_there code ≡ true
  exports_there = every-body (Holds o) (λ s. list_all (λ (e : ℕ × ℕ). nat_lt e.1 s.body.slots) s.body.exports) r pools ss good_exports all

  good_distinct : (kind : Class) (b n k plain before : ℕ) (bodies : List Body) (c : Count) (x : BodyTree) → Good o n k c x →
      is.are_distinct pools.names (body_at kind b n k plain before bodies c x).body.exports ≡ true
  good_distinct kind b n k plain before bodies c (body h ss) good =
      let x : Exported o good.names.slots good.names.exports = exported n k c (body h ss) good in
      subst (λ (z : Option BodyNames). is.are_distinct pools.names (exports_code pools.names (names_in z).exports) ≡ true) (sym good.there) (numbers_differ pools.names good.names.exports x.pooled x.differ)

  exports_distinct : is.exports_are_distinct code ≡ true
  exports_distinct = every-body (Holds o) (λ s. is.are_distinct pools.names s.body.exports) r pools ss good_distinct all

  slots_fit : SlotsVerified code
  slots_fit = record { slots = slots_there; exports = exports_there; distinct_exports = exports_distinct }

pub slots_verified : (outer : List (List ℕ)) (ss : Stmts) (tokens : List Token) (r : Resolution) (pools : Gathered) → FromSource outer ss tokens r → gathered the_most r.uses ss ≡ Ok pools → SlotsVerified (translation r pools ss)
slots_verified outer ss tokens r pools source e = slots_fit outer ss r (resolved_is outer ss r source.resolves) pools e source.well.statements
