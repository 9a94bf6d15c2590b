-- The blocks of translated code are verified.
use Rattle.std.proofs.Common.{◌≡◌, ◌≤◌, ◌<◌, ℕ, zero, suc, ◌+◌, ◌*◌, ◌^◌, Bool, true, false, nat_eq, nat_lt, not, List, [], ◌∷◌, length, slice_get, Option, Some, None, Ok, refl, sym, ap, subst, arith, IsTrue}
use Rattle.std.specs.List.{list_all}
use Rattle.std.proofs.lemmas.Bool.{lt-ltb, eq-eqb, false≢true}
use Rattle.std.proofs.lemmas.List.{length-map}
use Rattle.bqn_syntax.specs.declared.token.Token.{Token}
use Rattle.bqn_syntax.specs.declared.tree.Class.{Class}
use Rattle.bqn_syntax.specs.declared.tree.Class.TheVariants as class
use Rattle.bqn_syntax.specs.grammar.Trees.{Header, Stmts, BodyTree, body, Bodies, no_bodies, and_bodies}
use Rattle.bqn_syntax.specs.grammar.Well.{Well, WellStmts, WellBodies}
use Rattle.bqn_syntax.specs.grammar.Classes.{Calls, Both}
use Rattle.bqn_syntax.specs.blocks.Counting.{how_many}
use Rattle.bqn_syntax.specs.blocks.Blocks.{and_plain, plain_in}
use Rattle.bqn_syntax.specs.scope.Bodies.{BodyNames, Resolution}
use Rattle.bqn_code.specs.declared.instr.Instr.{Instr}
use Rattle.bqn_code.specs.declared.instr.Instr.TheVariants as i
use Rattle.bqn_code.specs.declared.code.Body.{Body}
use Rattle.bqn_code.specs.declared.code.Block.{Block}
use Rattle.bqn_code.specs.Plain.{Code}
use Rattle.bqn_code.specs.Standing.{Standing}
use Rattle.bqn_code.specs.Conditions as is
use Rattle.bqn_compile.specs.declared.count.Count.{Count}
use Rattle.bqn_compile.specs.Counting.{past, one_block, in_body}
use Rattle.bqn_compile.specs.Gathering.{Gathered, the_most, gathered}
use Rattle.bqn_compile.specs.Expressions.{Setting, block_instr}
use Rattle.bqn_compile.specs.Bodies.{names_in, exports_code, body_code, calls_of}
use Rattle.bqn_compile.specs.Blocks.{bodies_code, stmts_blocks}
use Rattle.bqn_compile.specs.Translation.{at_start, setting, program, translation}
use Rattle.bqn_compile.specs.Sources.{FromSource}
use Rattle.bqn_compile.proofs.verified.Tests.{both_true, left_true, right_true}
use Rattle.bqn_compile.proofs.verified.blocks.BlockCounts.{many_bodies}
use Rattle.bqn_compile.proofs.verified.blocks.Sizes.{stmts_size, bodies_size, body_size, spelled_size}
use Rattle.bqn_compile.proofs.verified.blocks.BlocksAndNames.{translation_few}
use Rattle.bqn_compile.proofs.verified.blocks.CodeLengths.{body_short}
use Rattle.bqn_compile.proofs.verified.exports.FewExports.{few_exports}
use Rattle.bqn_compile.proofs.verified.blocks.EveryBlock.{every_block, stmts_pass}
use Rattle.bqn_compile.proofs.verified.bodies.EveryBody.{every-body}
use Rattle.bqn_compile.proofs.verified.blocks.BlockPlaces.{all_stand, HasBlocks, program_stands}
use Rattle.bqn_compile.proofs.verified.blocks.BlockInstructions.{names_block, body_pass}

-- ---- parents

abbrev comes_first : ℕ → Block → Bool
comes_first k b = nat_lt b.parent k

parents_first : (k : ℕ) (xs : List Block) → every_block comes_first k xs ≡ true → is.have_parents k xs ≡ true
parents_first k [] h = refl
parents_first k (x ∷ xs) h = both_true (nat_lt x.parent k) _ (left_true (nat_lt x.parent k) _ h) (parents_first (k + length x.bodies) xs (right_true (nat_lt x.parent k) _ h))

parents_verified : (r : Resolution) (pools : Gathered) (ss : Stmts) → Well ss → is.parents_come_first (translation r pools ss) ≡ true
parents_verified r pools ss w =
    parents_first 1 (stmts_blocks (setting r.uses pools) r.bodies 0 ss at_start)
    (stmts_pass comes_first (setting r.uses pools) r.bodies (stmts_size ss) (λ (n : ℕ) (c : Class) (bs : Bodies) (at : Count) l well few. lt-ltb n at.bodies l) false 0 ss at_start (omega arith) w.statements (omega arith))

-- ---- the instructions of blocks

is_inside_at : (code : Code) (b n : ℕ) (block : Block) → 1 ≤ b → slice_get code.blocks b ≡ Some block → block.parent ≡ n → is.is_inside n b code ≡ true
is_inside_at code zero n block l q p = absurd (omega arith)
is_inside_at code (suc b) n block l q p = subst (λ (o : Option Block). elim o [ None ↦ false | Some block ↦ nat_eq block.parent n ] ≡ true) (sym q) (eq-eqb block.parent n p)

inside_others : (code : Code) (s : Standing) (x : Instr) → names_block x ≡ false → is.names_block_inside code s x ≡ true
inside_others code s (i.Block b) e = absurd (false≢true (sym e))
inside_others code s (i.Run b) e = absurd (false≢true (sym e))
inside_others code s _ e = refl

inside_block : (code : Code) (s : Standing) (c : Class) (b : ℕ) → is.is_inside s.number b code ≡ true → is.names_block_inside code s (block_instr c b) ≡ true
inside_block code s class.Immediate b h = h
inside_block code s class.Function b h = h
inside_block code s class.Mod1 b h = h
inside_block code s class.Mod1Deferred b h = h
inside_block code s class.Mod2 b h = h
inside_block code s class.Mod2Deferred b h = h

run_others : (code : Code) (x : Instr) → names_block x ≡ false → is.runs_immediate code x ≡ true
run_others code (i.Block b) e = absurd (false≢true (sym e))
run_others code (i.Run b) e = absurd (false≢true (sym e))
run_others code _ e = refl

run_block : (code : Code) (c : Class) (b : ℕ) (block : Block) → slice_get code.blocks b ≡ Some block → block.class ≡ c → is.runs_immediate code (block_instr c b) ≡ true
run_block code class.Immediate b block q e = subst (λ (o : Option Block). is.is_block_immediate true o ≡ true) (sym q) (ap is.is_immediate e)
run_block code class.Function b block q e = subst (λ (o : Option Block). is.is_block_immediate false o ≡ true) (sym q) (ap (λ (d : Class). not (is.is_immediate d)) e)
run_block code class.Mod1 b block q e = subst (λ (o : Option Block). is.is_block_immediate false o ≡ true) (sym q) (ap (λ (d : Class). not (is.is_immediate d)) e)
run_block code class.Mod1Deferred b block q e = subst (λ (o : Option Block). is.is_block_immediate false o ≡ true) (sym q) (ap (λ (d : Class). not (is.is_immediate d)) e)
run_block code class.Mod2 b block q e = subst (λ (o : Option Block). is.is_block_immediate false o ≡ true) (sym q) (ap (λ (d : Class). not (is.is_immediate d)) e)
run_block code class.Mod2Deferred b block q e = subst (λ (o : Option Block). is.is_block_immediate false o ≡ true) (sym q) (ap (λ (d : Class). not (is.is_immediate d)) e)

module _ (r : Resolution) (pools : Gathered) (ss : Stmts) where
  abbrev code : Code
  code = translation r pools ss

  abbrev g : Setting
  g = setting r.uses pools

  abbrev Has : Class → (block inside number plain before : ℕ) → Count → BodyTree → Type 0
  Has = HasBlocks code.blocks g r.bodies

  inside_verified : is.blocks_stand_in_parents code ≡ true
  inside_verified = every-body Has (λ (s : Standing). list_all (is.names_block_inside code s) s.body.code) r pools ss
      (λ (kind : Class) (b n k plain before : ℕ) (bodies : List Body) (c : Count) (x : BodyTree) h.
      let s : Standing = record { number = k; block_number = b; block = record { class = kind; parent = n; bodies = bodies }; body = body_code g (names_in (slice_get r.bodies k)) (calls_of plain before x) c x } in
      body_pass (is.names_block_inside code s) (inside_others code s) g r.bodies code.blocks k
      (λ (d : Class) (m : ℕ) (inner : List Body) l q. inside_block code s d m (is_inside_at code m k (record { class = d; parent = k; bodies = inner }) l q refl))
      (names_in (slice_get r.bodies k)) (calls_of plain before x) c x h)
      (program_stands code.blocks g r.bodies ss (all_stand code.blocks (program g r.bodies ss) (stmts_blocks g r.bodies 0 ss at_start) refl))

  immediate_verified : is.immediate_blocks_are_run code ≡ true
  immediate_verified = every-body Has (λ (s : Standing). list_all (is.runs_immediate code) s.body.code) r pools ss
      (λ (kind : Class) (b n k plain before : ℕ) (bodies : List Body) (c : Count) (x : BodyTree) h.
      body_pass (is.runs_immediate code) (run_others code) g r.bodies code.blocks k
      (λ (d : Class) (m : ℕ) (inner : List Body) l q. run_block code d m (record { class = d; parent = k; bodies = inner }) q refl)
      (names_in (slice_get r.bodies k)) (calls_of plain before x) c x h)
      (program_stands code.blocks g r.bodies ss (all_stand code.blocks (program g r.bodies ss) (stmts_blocks g r.bodies 0 ss at_start) refl))

-- ---- how many there are

abbrev small : ℕ → Block → Bool
small k b = is.block_is_small b

all_small : (k : ℕ) (xs : List Block) → every_block small k xs ≡ true → list_all is.block_is_small xs ≡ true
all_small k [] h = refl
all_small k (x ∷ xs) h = both_true (is.block_is_small x) _ (left_true (is.block_is_small x) _ h) (all_small (k + length x.bodies) xs (right_true (is.block_is_small x) _ h))

few_number : (n : ℕ) → n ≤ 8 * 2 ^ 28 + 2 → is.is_few n ≡ true
few_number n l = lt-ltb n (2 ^ 32) (omega arith)

many_size : (bs : Bodies) → how_many bs ≤ bodies_size bs
many_size no_bodies = omega arith
many_size (and_bodies b bs) = let h : how_many bs ≤ bodies_size bs = many_size bs in omega arith

-- bodies of at most so many tokens, which export at most so many names
module _ (g : Setting) (names : List BodyNames) (most : ℕ) (bound : most ≤ 2 ^ 28) (exports : (k : ℕ) → length (names_in (slice_get names k)).exports ≤ most) where
  body_small : (k : ℕ) (calls : Calls) (c : Count) (in_block : Bool) (h : Option Header) (ss : Stmts) → WellStmts in_block ss → body_size (body h ss) ≤ most → is.body_is_small (body_code g (names_in (slice_get names k)) calls c (body h ss)) ≡ true
  body_small k calls c in_block h ss w l =
      let own : BodyNames = names_in (slice_get names k) in
      let p : length own.exports ≤ most = exports k in
      let q : length (exports_code g.names own.exports) ≡ length own.exports = length-map own.exports _ in
      let s : length (body_code g own calls c (body h ss)).code ≤ 8 * body_size (body h ss) + 2 = body_short g own calls c in_block h ss w in
      both_true (is.is_few (length (exports_code g.names own.exports))) _
      (few_number (length (exports_code g.names own.exports)) (omega arith))
      (few_number (length (body_code g own calls c (body h ss)).code) (omega arith))

  bodies_small : (plain before k : ℕ) (c : Count) (bs : Bodies) → WellBodies bs → bodies_size bs ≤ most → list_all is.body_is_small (bodies_code g names plain before k c bs) ≡ true
  bodies_small plain before k c no_bodies w l = refl
  bodies_small plain before k c (and_bodies (body h ss) bs) w l =
      both_true _ _ (body_small k (calls_of plain before (body h ss)) c true h ss w.0.1 (omega arith))
      (bodies_small plain (and_plain (body h ss) before) (suc k) (past c (in_body (body h ss))) bs w.1 (omega arith))

  block_small : (n : ℕ) (kind : Class) (bs : Bodies) (c : Count) → n < c.bodies → WellBodies bs → bodies_size bs ≤ most →
      is.block_is_small (record { class = kind; parent = n; bodies = bodies_code g names (plain_in bs) 0 c.bodies (past c (one_block (how_many bs))) bs }) ≡ true
  block_small n kind bs c i w l =
      let at : Count = past c (one_block (how_many bs)) in
      let many : length (bodies_code g names (plain_in bs) 0 c.bodies at bs) ≡ how_many bs = many_bodies g names (plain_in bs) 0 c.bodies at bs in
      let few : how_many bs ≤ bodies_size bs = many_size bs in
      both_true (is.is_few (length (bodies_code g names (plain_in bs) 0 c.bodies at bs))) _
      (few_number (length (bodies_code g names (plain_in bs) 0 c.bodies at bs)) (omega arith))
      (bodies_small (plain_in bs) 0 c.bodies at bs w l)

  program_small : (ss : Stmts) → Well ss → stmts_size ss ≤ most → is.block_is_small (program g names ss) ≡ true
  program_small ss w l = both_true _ true (body_small 0 Both at_start false None ss w.statements (omega arith)) refl

few_verified : (outer : List (List ℕ)) (ss : Stmts) (tokens : List Token) (r : Resolution) (pools : Gathered) → FromSource outer ss tokens r → gathered the_most r.uses ss ≡ Ok pools → is.blocks_are_few (translation r pools ss) ≡ true
few_verified outer ss tokens r pools source e =
    let g : Setting = setting r.uses pools in
    let spelled : stmts_size ss ≤ length tokens = spelled_size ss tokens source.spells in
    let both : length (translation r pools ss).blocks + length (translation r pools ss).names ≤ suc (length tokens) = translation_few r ss tokens pools source.spells e in
    let exports : ((k : ℕ) → length (names_in (slice_get r.bodies k)).exports ≤ length tokens) = λ (k : ℕ). let p : length (names_in (slice_get r.bodies k)).exports ≤ stmts_size ss = few_exports outer ss r k source.resolves in omega arith in
    let bound : length tokens ≤ 2 ^ 28 = source.few in
    both_true (is.is_few (length (translation r pools ss).blocks)) _
    (few_number (length (translation r pools ss).blocks) (omega arith))
    (both_true (is.block_is_small (program g r.bodies ss)) _
    (program_small g r.bodies (length tokens) bound exports ss source.well spelled)
    (all_small 1 (stmts_blocks g r.bodies 0 ss at_start)
    (stmts_pass small g r.bodies (length tokens) (block_small g r.bodies (length tokens) bound exports) false 0 ss at_start (omega arith) source.well.statements spelled)))

-- the parents of blocks, the instructions that name them, and how many there are
pub record BlocksVerified (code : Code) : Type 0 where
  pub parents : IsTrue (is.parents_come_first code)
  pub blocks_inside : IsTrue (is.blocks_stand_in_parents code)
  pub immediate : IsTrue (is.immediate_blocks_are_run code)
  pub few_blocks : IsTrue (is.blocks_are_few code)

pub blocks_verified : (outer : List (List ℕ)) (ss : Stmts) (tokens : List Token) (r : Resolution) (pools : Gathered) → FromSource outer ss tokens r → gathered the_most r.uses ss ≡ Ok pools → BlocksVerified (translation r pools ss)
blocks_verified outer ss tokens r pools source e = record {
  parents = parents_verified r pools ss source.well;
  blocks_inside = inside_verified r pools ss;
  immediate = immediate_verified r pools ss;
  few_blocks = few_verified outer ss tokens r pools source e;
}
