-- The one test holds exactly of verified code.
use Rattle.std.proofs.Common.{◌≡◌, ◌+◌, ℕ, suc, Bool, true, false, ◌&&◌, nat_eq, nat_lt, List, [], ◌∷◌, length, slice_get, Option, Some, None, refl, sym, ◌∙◌, ap}
use Rattle.std.specs.List.{list_all}
use Rattle.std.proofs.lemmas.List.Folds.{list_all-append}
use Rattle.bqn_syntax.specs.grammar.Classes.{waits}
use Rattle.bqn_code.specs.declared.instr.Instr.{Instr}
use Rattle.bqn_code.specs.declared.instr.Instr.TheVariants as instr
use Rattle.bqn_code.specs.declared.code.Body.{Body}
use Rattle.bqn_code.specs.declared.code.Block.{Block}
use Rattle.bqn_code.specs.Plain.{Pattern, Patterns, Define, Change, ListPattern, Literal, no_patterns, and_patterns, Code}
use Rattle.bqn_code.specs.Heights.{is_balanced}
use Rattle.bqn_code.specs.Standing.{Standing, of_block, of_blocks, standing, every_body, every_instr}
use Rattle.bqn_code.specs.Conditions as is
use Rattle.bqn_code.specs.Verified.{Verified}
use Rattle.bqn_verify.specs.Judged.{leaf_has_slot_up, leaf_is_there, stores, is_judged, body_is_judged, bodies_are_judged, all_are_judged, is_small, parents_in, program_in, blocks_are_judged, is_verified}
use Rattle.bqn_verify.proofs.Booleans.{both, left, right, Within, of_each, of_all}

-- ---- patterns

mutual
  leaves-both : (f g h : Pattern → Bool) → ((q : Pattern) → f q ≡ true → g q ≡ true → h q ≡ true) → (p : Pattern) → is.leaves f p ≡ true → is.leaves g p ≡ true → is.leaves h p ≡ true
  leaves-both f g h imp (ListPattern ps) x y = all-both f g h imp ps x y
  leaves-both f g h imp p x y = imp p x y

  all-both : (f g h : Pattern → Bool) → ((q : Pattern) → f q ≡ true → g q ≡ true → h q ≡ true) → (ps : Patterns) → is.all_leaves f ps ≡ true → is.all_leaves g ps ≡ true → is.all_leaves h ps ≡ true
  all-both f g h imp no_patterns x y = refl
  all-both f g h imp (and_patterns p ps) x y = both (is.leaves h p) (is.all_leaves h ps)
      (leaves-both f g h imp p (left (is.leaves f p) (is.all_leaves f ps) x) (left (is.leaves g p) (is.all_leaves g ps) y))
      (all-both f g h imp ps (right (is.leaves f p) (is.all_leaves f ps) x) (right (is.leaves g p) (is.all_leaves g ps) y))

leaves-weaken : (f g : Pattern → Bool) → ((q : Pattern) → f q ≡ true → g q ≡ true) → (p : Pattern) → is.leaves f p ≡ true → is.leaves g p ≡ true
leaves-weaken f g imp p x = leaves-both f f g (λ q a b. imp q a) p x x

passes-weaken : (f g : Pattern → Bool) → ((p : Pattern) → f p ≡ true → g p ≡ true) → (o : Option Pattern) → is.pattern_passes f o ≡ true → is.pattern_passes g o ≡ true
passes-weaken f g imp None h = refl
passes-weaken f g imp (Some p) h = imp p h

leaf-constant : (code : Code) (p : Pattern) → leaf_is_there code p ≡ true → is.leaf_constant_is_there code p ≡ true
leaf-constant code (Literal k) h = h
leaf-constant code p h = refl

leaf-name : (code : Code) (p : Pattern) → leaf_is_there code p ≡ true → is.leaf_name_is_there code p ≡ true
leaf-name code (Define slot name) h = h
leaf-name code (Change up slot name) h = h
leaf-name code p h = refl

leaf-there : (code : Code) (p : Pattern) → is.leaf_constant_is_there code p ≡ true → is.leaf_name_is_there code p ≡ true → leaf_is_there code p ≡ true
leaf-there code (Define slot name) c n = n
leaf-there code (Change up slot name) c n = n
leaf-there code (Literal k) c n = c
leaf-there code p c n = refl

slot-of : (code : Code) (b : Standing) (p : Pattern) → leaf_has_slot_up code b.number p ≡ true → is.leaf_has_slot code b p ≡ true
slot-of code b (Define slot name) h = h
slot-of code b (Change up slot name) h = h
slot-of code b p h = refl

slot-up : (code : Code) (b : Standing) (p : Pattern) → is.leaf_has_slot code b p ≡ true → leaf_has_slot_up code b.number p ≡ true
slot-up code b (Define slot name) h = h
slot-up code b (Change up slot name) h = h
slot-up code b p h = refl

slots-of : (code : Code) (b : Standing) (k : ℕ) → is.pattern_passes (is.leaves (leaf_has_slot_up code b.number)) (slice_get code.patterns k) ≡ true → is.pattern_passes (is.leaves (is.leaf_has_slot code b)) (slice_get code.patterns k) ≡ true
slots-of code b k h = passes-weaken (is.leaves (leaf_has_slot_up code b.number)) (is.leaves (is.leaf_has_slot code b)) (leaves-weaken (leaf_has_slot_up code b.number) (is.leaf_has_slot code b) (slot-of code b)) (slice_get code.patterns k) h

slots-up : (code : Code) (b : Standing) (k : ℕ) → is.pattern_passes (is.leaves (is.leaf_has_slot code b)) (slice_get code.patterns k) ≡ true → is.pattern_passes (is.leaves (leaf_has_slot_up code b.number)) (slice_get code.patterns k) ≡ true
slots-up code b k h = passes-weaken (is.leaves (is.leaf_has_slot code b)) (is.leaves (leaf_has_slot_up code b.number)) (leaves-weaken (is.leaf_has_slot code b) (leaf_has_slot_up code b.number) (slot-up code b)) (slice_get code.patterns k) h

-- ---- instructions

abbrev Judged : Code → Standing → Instr → Type 0
Judged code b i = is_judged code b.number b.block.class i ≡ true

abbrev pattern-there : Code → Standing → ℕ → Bool
pattern-there code b k = is.pattern_passes (is.leaves (leaf_has_slot_up code b.number)) (slice_get code.patterns k)

abbrev literal-free : Code → ℕ → Bool
literal-free code k = is.pattern_passes (is.leaves is.is_no_literal) (slice_get code.patterns k)

to-inside : (code : Code) (b : Standing) (i : Instr) → Judged code b i → is.names_block_inside code b i ≡ true
to-inside code b (instr.Block k) h = left (is.is_inside b.number k code) (is.is_block_immediate false (slice_get code.blocks k)) h
to-inside code b (instr.Run k) h = left (is.is_inside b.number k code) (is.is_block_immediate true (slice_get code.blocks k)) h
to-inside code b i h = refl

to-run : (code : Code) (b : Standing) (i : Instr) → Judged code b i → is.runs_immediate code i ≡ true
to-run code b (instr.Block k) h = right (is.is_inside b.number k code) (is.is_block_immediate false (slice_get code.blocks k)) h
to-run code b (instr.Run k) h = right (is.is_inside b.number k code) (is.is_block_immediate true (slice_get code.blocks k)) h
to-run code b i h = refl

to-constant : (code : Code) (b : Standing) (i : Instr) → Judged code b i → is.instr_constant_is_there code i ≡ true
to-constant code b (instr.Const k) h = h
to-constant code b i h = refl

to-name : (code : Code) (b : Standing) (i : Instr) → Judged code b i → is.instr_name_is_there code i ≡ true
to-name code b (instr.Field k) h = h
to-name code b i h = refl

to-pattern : (code : Code) (b : Standing) (i : Instr) → Judged code b i → is.instr_pattern_is_there code i ≡ true
to-pattern code b (instr.Bind k) h = left (is.has_pattern code k) (pattern-there code b k) (left (stores code b.number k) (literal-free code k) h)
to-pattern code b (instr.Match k) h = left (is.has_pattern code k) (pattern-there code b k) h
to-pattern code b i h = refl

to-given : (code : Code) (b : Standing) (i : Instr) → Judged code b i → is.is_given_code i ≡ true
to-given code b (instr.Given k) h = h
to-given code b i h = refl

to-slot : (code : Code) (b : Standing) (i : Instr) → Judged code b i → is.instr_has_slot code b i ≡ true
to-slot code b (instr.Load up slot) h = h
to-slot code b (instr.Define slot) h = h
to-slot code b (instr.Change up slot) h = h
to-slot code b (instr.Bind k) h = slots-of code b k (right (is.has_pattern code k) (pattern-there code b k) (left (stores code b.number k) (literal-free code k) h))
to-slot code b (instr.Match k) h = slots-of code b k (right (is.has_pattern code k) (pattern-there code b k) h)
to-slot code b i h = refl

to-literal : (code : Code) (b : Standing) (i : Instr) → Judged code b i → is.binds_no_literal code i ≡ true
to-literal code b (instr.Bind k) h = right (stores code b.number k) (literal-free code k) h
to-literal code b i h = refl

to-class : (code : Code) (b : Standing) (i : Instr) → Judged code b i → is.is_run_on b.block.class i ≡ true
to-class code b instr.Left h = h
to-class code b instr.Right h = h
to-class code b instr.Own h = h
to-class code b instr.LeftOperand h = h
to-class code b instr.Modifier h = h
to-class code b instr.RightOperand h = h
to-class code b i h = refl

-- what all conditions ask of one instruction
record Fits (code : Code) (b : Standing) (i : Instr) : Type 0 where
  inside : is.names_block_inside code b i ≡ true
  run : is.runs_immediate code i ≡ true
  constant : is.instr_constant_is_there code i ≡ true
  name : is.instr_name_is_there code i ≡ true
  pattern : is.instr_pattern_is_there code i ≡ true
  given : is.is_given_code i ≡ true
  slot : is.instr_has_slot code b i ≡ true
  literal : is.binds_no_literal code i ≡ true
  class : is.is_run_on b.block.class i ≡ true

from-fits : (code : Code) (b : Standing) (i : Instr) → Fits code b i → Judged code b i
from-fits code b (instr.Const k) f = f.constant
from-fits code b (instr.Given k) f = f.given
from-fits code b (instr.Block k) f = both (is.is_inside b.number k code) (is.is_block_immediate false (slice_get code.blocks k)) f.inside f.run
from-fits code b (instr.Run k) f = both (is.is_inside b.number k code) (is.is_block_immediate true (slice_get code.blocks k)) f.inside f.run
from-fits code b (instr.Load up slot) f = f.slot
from-fits code b (instr.Define slot) f = f.slot
from-fits code b (instr.Change up slot) f = f.slot
from-fits code b (instr.Field k) f = f.name
from-fits code b (instr.Bind k) f = both (stores code b.number k) (literal-free code k) (both (is.has_pattern code k) (pattern-there code b k) f.pattern (slots-up code b k f.slot)) f.literal
from-fits code b (instr.Match k) f = both (is.has_pattern code k) (pattern-there code b k) f.pattern (slots-up code b k f.slot)
from-fits code b instr.Left f = f.class
from-fits code b instr.Right f = f.class
from-fits code b instr.Own f = f.class
from-fits code b instr.LeftOperand f = f.class
from-fits code b instr.Modifier f = f.class
from-fits code b instr.RightOperand f = f.class
from-fits code b i f = refl

-- ---- bodies

abbrev passing : Code → Standing → Bool
passing code b = body_is_judged code b.number b.block.class b.body

in-block : (code : Code) (n k : ℕ) (block : Block) (bodies : List Body) → list_all (passing code) (of_block n k block bodies) ≡ bodies_are_judged code k block.class bodies
in-block code n k block [] = refl
in-block code n k block (body ∷ bodies) = ap (λ (x : Bool). body_is_judged code k block.class body && x) (in-block code n (suc k) block bodies)

in-blocks : (code : Code) (n k : ℕ) (blocks : List Block) → list_all (passing code) (of_blocks n k blocks) ≡ all_are_judged code k blocks
in-blocks code n k [] = refl
in-blocks code n k (block ∷ blocks) =
    list_all-append (passing code) (of_block n k block block.bodies) (of_blocks (suc n) (k + length block.bodies) blocks)
    ∙ (ap (λ (x : Bool). x && list_all (passing code) (of_blocks (suc n) (k + length block.bodies) blocks)) (in-block code n k block block.bodies)
    ∙ ap (λ (x : Bool). bodies_are_judged code k block.class block.bodies && x) (in-blocks code (suc n) (k + length block.bodies) blocks))

-- what one body has to pass
record Passes (code : Code) (b : Standing) : Type 0 where
  kind : is.is_kind_for (waits b.block.class) b.body.kind ≡ true
  exports : list_all (λ e. is.has_name code e.0 && nat_lt e.1 b.body.slots) b.body.exports ≡ true
  distinct : is.are_distinct code.names b.body.exports ≡ true
  instructions : list_all (is_judged code b.number b.block.class) b.body.code ≡ true
  balanced : is_balanced 0 b.body.code ≡ true

parts-of : (code : Code) (b : Standing) → passing code b ≡ true → Passes code b
parts-of code b h =
    let kind : Bool = is.is_kind_for (waits b.block.class) b.body.kind in
    let there : Bool = list_all (λ e. is.has_name code e.0 && nat_lt e.1 b.body.slots) b.body.exports in
    let distinct : Bool = is.are_distinct code.names b.body.exports in
    let instructions : Bool = list_all (is_judged code b.number b.block.class) b.body.code in
    let balanced : Bool = is_balanced 0 b.body.code in
    let exports : (there && distinct) ≡ true = left (there && distinct) (instructions && balanced) (right kind ((there && distinct) && (instructions && balanced)) h) in
    let rest : (instructions && balanced) ≡ true = right (there && distinct) (instructions && balanced) (right kind ((there && distinct) && (instructions && balanced)) h) in
    record {
      kind = left kind ((there && distinct) && (instructions && balanced)) h;
      exports = left there distinct exports;
      distinct = right there distinct exports;
      instructions = left instructions balanced rest;
      balanced = right instructions balanced rest;
    }

from-parts : (code : Code) (b : Standing) → Passes code b → passing code b ≡ true
from-parts code b p =
    let kind : Bool = is.is_kind_for (waits b.block.class) b.body.kind in
    let there : Bool = list_all (λ e. is.has_name code e.0 && nat_lt e.1 b.body.slots) b.body.exports in
    let distinct : Bool = is.are_distinct code.names b.body.exports in
    let instructions : Bool = list_all (is_judged code b.number b.block.class) b.body.code in
    let balanced : Bool = is_balanced 0 b.body.code in
    both kind ((there && distinct) && (instructions && balanced)) p.kind
    (both (there && distinct) (instructions && balanced) (both there distinct p.exports p.distinct) (both instructions balanced p.instructions p.balanced))

abbrev AllPass : Code → Type 0
AllPass code = (b : Standing) → Within (standing code) b → Passes code b

all-pass : (code : Code) → all_are_judged code 0 code.blocks ≡ true → AllPass code
all-pass code h b w = parts-of code b (of_each (passing code) (standing code) (in-blocks code 0 0 code.blocks ∙ h) b w)

every : (code : Code) (test : Standing → Bool) → AllPass code → ((b : Standing) → Passes code b → test b ≡ true) → every_body test code ≡ true
every code test all imp = of_all test (standing code) (λ b w. imp b (all b w))

each-instr : (code : Code) (test : Standing → Instr → Bool) → AllPass code → ((b : Standing) (i : Instr) → Judged code b i → test b i ≡ true) → every_instr test code ≡ true
each-instr code test all imp = every code (λ b. list_all (test b) b.body.code) all
    (λ b p. of_all (test b) b.body.code (λ i w. imp b i (of_each (is_judged code b.number b.block.class) b.body.code p.instructions i w)))

all-are : (code : Code) → AllPass code → all_are_judged code 0 code.blocks ≡ true
all-are code all = sym (in-blocks code 0 0 code.blocks) ∙ of_all (passing code) (standing code) (λ b w. from-parts code b (all b w))

of-instr : (code : Code) (test : Standing → Instr → Bool) → every_instr test code ≡ true → (b : Standing) → Within (standing code) b → (i : Instr) → Within b.body.code i → test b i ≡ true
of-instr code test h b w i v = of_each (test b) b.body.code (of_each (λ c. list_all (test c) c.body.code) (standing code) h b w) i v

-- ---- the whole

parents-are : (code : Code) → parents_in code.blocks ≡ is.parents_come_first code
parents-are code = by code.blocks
  where
    by : (blocks : List Block) → parents_in blocks ≡ elim blocks [ [] ↦ true | block ∷ rest ↦ is.have_parents (length block.bodies) rest ]
    by [] = refl
    by (b ∷ bs) = refl

program-is : (code : Code) → program_in code.blocks ≡ is.has_program code
program-is code = by code.blocks
  where
    by : (blocks : List Block) → program_in blocks ≡ elim blocks [ [] ↦ false | block ∷ rest ↦ is.is_immediate block.class && (nat_eq block.parent 0 && is.is_only_body block.bodies) ]
    by [] = refl
    by (b ∷ bs) = refl

-- the tests that the one test is made of
record Tests (code : Code) : Type 0 where
  flat : is.patterns_are_flat code ≡ true
  constants : is.constants_are_few code ≡ true
  names : is.names_are_few code ≡ true
  patterns : is.patterns_are_few code ≡ true
  blocks : is.blocks_are_few code ≡ true
  program : program_in code.blocks ≡ true
  parents : parents_in code.blocks ≡ true
  bodies : is.blocks_have_bodies code ≡ true
  letters : is.names_begin_with_letters code ≡ true
  leaves : list_all (is.leaves (leaf_is_there code)) code.patterns ≡ true
  judged : all_are_judged code 0 code.blocks ≡ true

to-tests : (a b c d e f g h i j k : Bool) → (a && ((b && (c && (d && e))) && ((f && (g && h)) && (i && (j && k))))) ≡ true → (a ≡ true) × (b ≡ true) × (c ≡ true) × (d ≡ true) × (e ≡ true) × (f ≡ true) × (g ≡ true) × (h ≡ true) × (i ≡ true) × (j ≡ true) × (k ≡ true)
to-tests a b c d e f g h i j k t =
    let counts : Bool = b && (c && (d && e)) in
    let blocks : Bool = f && (g && h) in
    let rest : Bool = i && (j && k) in
    let t1 : (counts && (blocks && rest)) ≡ true = right a (counts && (blocks && rest)) t in
    let t2 : counts ≡ true = left counts (blocks && rest) t1 in
    let t3 : blocks ≡ true = left blocks rest (right counts (blocks && rest) t1) in
    let t4 : rest ≡ true = right blocks rest (right counts (blocks && rest) t1) in (
      left a (counts && (blocks && rest)) t,
      left b (c && (d && e)) t2,
      left c (d && e) (right b (c && (d && e)) t2),
      left d e (right c (d && e) (right b (c && (d && e)) t2)),
      right d e (right c (d && e) (right b (c && (d && e)) t2)),
      left f (g && h) t3,
      left g h (right f (g && h) t3),
      right g h (right f (g && h) t3),
      left i (j && k) t4,
      left j k (right i (j && k) t4),
      right j k (right i (j && k) t4),
    )

tests-of : (code : Code) → is_verified code ≡ true → Tests code
tests-of code t =
    let p = to-tests (is.patterns_are_flat code) (is.constants_are_few code) (is.names_are_few code) (is.patterns_are_few code) (is.blocks_are_few code) (program_in code.blocks) (parents_in code.blocks) (is.blocks_have_bodies code) (is.names_begin_with_letters code) (list_all (is.leaves (leaf_is_there code)) code.patterns) (all_are_judged code 0 code.blocks) t in
    record { flat = p.0; constants = p.1; names = p.2; patterns = p.3; blocks = p.4; program = p.5; parents = p.6; bodies = p.7; letters = p.8; leaves = p.9; judged = p.10 }

from-tests : (code : Code) → Tests code → is_verified code ≡ true
from-tests code t =
    both (is.patterns_are_flat code) (is_small code && (blocks_are_judged code && (is.names_begin_with_letters code && (list_all (is.leaves (leaf_is_there code)) code.patterns && all_are_judged code 0 code.blocks)))) t.flat
    (both (is_small code) (blocks_are_judged code && (is.names_begin_with_letters code && (list_all (is.leaves (leaf_is_there code)) code.patterns && all_are_judged code 0 code.blocks)))
    (both (is.constants_are_few code) (is.names_are_few code && (is.patterns_are_few code && is.blocks_are_few code)) t.constants (both (is.names_are_few code) (is.patterns_are_few code && is.blocks_are_few code) t.names (both (is.patterns_are_few code) (is.blocks_are_few code) t.patterns t.blocks)))
    (both (blocks_are_judged code) (is.names_begin_with_letters code && (list_all (is.leaves (leaf_is_there code)) code.patterns && all_are_judged code 0 code.blocks))
    (both (program_in code.blocks) (parents_in code.blocks && is.blocks_have_bodies code) t.program (both (parents_in code.blocks) (is.blocks_have_bodies code) t.parents t.bodies))
    (both (is.names_begin_with_letters code) (list_all (is.leaves (leaf_is_there code)) code.patterns && all_are_judged code 0 code.blocks) t.letters
    (both (list_all (is.leaves (leaf_is_there code)) code.patterns) (all_are_judged code 0 code.blocks) t.leaves t.judged))))

leaves-are : (code : Code) (test : Pattern → Bool) → ((q : Pattern) → leaf_is_there code q ≡ true → test q ≡ true) → list_all (is.leaves (leaf_is_there code)) code.patterns ≡ true → list_all (is.leaves test) code.patterns ≡ true
leaves-are code test imp h = of_all (is.leaves test) code.patterns (λ p w. leaves-weaken (leaf_is_there code) test imp p (of_each (is.leaves (leaf_is_there code)) code.patterns h p w))

exported : (code : Code) (b : Standing) (f : (ℕ × ℕ) → Bool) → ((e : ℕ × ℕ) → (is.has_name code e.0 && nat_lt e.1 b.body.slots) ≡ true → f e ≡ true) → Passes code b → list_all f b.body.exports ≡ true
exported code b f imp p = of_all f b.body.exports (λ e w. imp e (of_each (λ e. is.has_name code e.0 && nat_lt e.1 b.body.slots) b.body.exports p.exports e w))

verified : (code : Code) → Tests code → AllPass code → Verified code
verified code t all = record {
  program = sym (program-is code) ∙ t.program;
  parents = sym (parents-are code) ∙ t.parents;
  blocks_inside = each-instr code (is.names_block_inside code) all (to-inside code);
  immediate = each-instr code (λ body i. is.runs_immediate code i) all (to-run code);
  bodies = t.bodies;
  kinds = every code (λ b. is.is_kind_for (waits b.block.class) b.body.kind) all (λ b p. p.kind);
  constants = both (every_instr (λ body i. is.instr_constant_is_there code i) code) (list_all (is.leaves (is.leaf_constant_is_there code)) code.patterns)
      (each-instr code (λ body i. is.instr_constant_is_there code i) all (to-constant code)) (leaves-are code (is.leaf_constant_is_there code) (leaf-constant code) t.leaves);
  names = both (every_instr (λ body i. is.instr_name_is_there code i) code) (list_all (is.leaves (is.leaf_name_is_there code)) code.patterns && every_body (λ b. list_all (λ e. is.has_name code e.0) b.body.exports) code)
      (each-instr code (λ body i. is.instr_name_is_there code i) all (to-name code))
      (both (list_all (is.leaves (is.leaf_name_is_there code)) code.patterns) (every_body (λ b. list_all (λ e. is.has_name code e.0) b.body.exports) code) (leaves-are code (is.leaf_name_is_there code) (leaf-name code) t.leaves)
      (every code (λ b. list_all (λ e. is.has_name code e.0) b.body.exports) all (λ b p. exported code b (λ e. is.has_name code e.0) (λ e h. left (is.has_name code e.0) (nat_lt e.1 b.body.slots) h) p)));
  patterns = each-instr code (λ body i. is.instr_pattern_is_there code i) all (to-pattern code);
  given_values = each-instr code (λ body i. is.is_given_code i) all (to-given code);
  letters = t.letters;
  slots = each-instr code (is.instr_has_slot code) all (to-slot code);
  literals = each-instr code (λ body i. is.binds_no_literal code i) all (to-literal code);
  flat_patterns = t.flat;
  classes = each-instr code (λ body i. is.is_run_on body.block.class i) all (to-class code);
  exports = every code (λ b. list_all (λ e. nat_lt e.1 b.body.slots) b.body.exports) all (λ b p. exported code b (λ e. nat_lt e.1 b.body.slots) (λ e h. right (is.has_name code e.0) (nat_lt e.1 b.body.slots) h) p);
  distinct_exports = every code (λ b. is.are_distinct code.names b.body.exports) all (λ b p. p.distinct);
  few_constants = t.constants;
  few_names = t.names;
  few_patterns = t.patterns;
  few_blocks = t.blocks;
  stacks = every code (λ b. is_balanced 0 b.body.code) all (λ b p. p.balanced);
}

pub passes : (code : Code) → is_verified code ≡ true → Verified code
passes code h = let t = tests-of code h in verified code t (all-pass code t.judged)

fits : (code : Code) → Verified code → (b : Standing) → Within (standing code) b → (i : Instr) → Within b.body.code i → Fits code b i
fits code v b w i u = record {
  inside = of-instr code (is.names_block_inside code) v.blocks_inside b w i u;
  run = of-instr code (λ body i. is.runs_immediate code i) v.immediate b w i u;
  constant = of-instr code (λ body i. is.instr_constant_is_there code i) (left (every_instr (λ body i. is.instr_constant_is_there code i) code) (list_all (is.leaves (is.leaf_constant_is_there code)) code.patterns) v.constants) b w i u;
  name = of-instr code (λ body i. is.instr_name_is_there code i) (left (every_instr (λ body i. is.instr_name_is_there code i) code) (list_all (is.leaves (is.leaf_name_is_there code)) code.patterns && every_body (λ b. list_all (λ e. is.has_name code e.0) b.body.exports) code) v.names) b w i u;
  pattern = of-instr code (λ body i. is.instr_pattern_is_there code i) v.patterns b w i u;
  given = of-instr code (λ body i. is.is_given_code i) v.given_values b w i u;
  slot = of-instr code (is.instr_has_slot code) v.slots b w i u;
  literal = of-instr code (λ body i. is.binds_no_literal code i) v.literals b w i u;
  class = of-instr code (λ body i. is.is_run_on body.block.class i) v.classes b w i u;
}

-- the leaves and the exports that have their names
named : (code : Code) → Verified code → (list_all (is.leaves (is.leaf_name_is_there code)) code.patterns ≡ true) × (every_body (λ b. list_all (λ e. is.has_name code e.0) b.body.exports) code ≡ true)
named code v =
    let h : (list_all (is.leaves (is.leaf_name_is_there code)) code.patterns && every_body (λ b. list_all (λ e. is.has_name code e.0) b.body.exports) code) ≡ true = right (every_instr (λ body i. is.instr_name_is_there code i) code) (list_all (is.leaves (is.leaf_name_is_there code)) code.patterns && every_body (λ b. list_all (λ e. is.has_name code e.0) b.body.exports) code) v.names in
    (left (list_all (is.leaves (is.leaf_name_is_there code)) code.patterns) (every_body (λ b. list_all (λ e. is.has_name code e.0) b.body.exports) code) h, right (list_all (is.leaves (is.leaf_name_is_there code)) code.patterns) (every_body (λ b. list_all (λ e. is.has_name code e.0) b.body.exports) code) h)

passed : (code : Code) → Verified code → AllPass code
passed code v b w = record {
  kind = of_each (λ b. is.is_kind_for (waits b.block.class) b.body.kind) (standing code) v.kinds b w;
  exports = of_all (λ e. is.has_name code e.0 && nat_lt e.1 b.body.slots) b.body.exports (λ e u. both (is.has_name code e.0) (nat_lt e.1 b.body.slots)
      (of_each (λ e. is.has_name code e.0) b.body.exports (of_each (λ b. list_all (λ e. is.has_name code e.0) b.body.exports) (standing code) (named code v).1 b w) e u)
      (of_each (λ e. nat_lt e.1 b.body.slots) b.body.exports (of_each (λ b. list_all (λ e. nat_lt e.1 b.body.slots) b.body.exports) (standing code) v.exports b w) e u));
  distinct = of_each (λ b. is.are_distinct code.names b.body.exports) (standing code) v.distinct_exports b w;
  instructions = of_all (is_judged code b.number b.block.class) b.body.code (λ i u. from-fits code b i (fits code v b w i u));
  balanced = of_each (λ b. is_balanced 0 b.body.code) (standing code) v.stacks b w;
}

leaves-there : (code : Code) → Verified code → list_all (is.leaves (leaf_is_there code)) code.patterns ≡ true
leaves-there code v = of_all (is.leaves (leaf_is_there code)) code.patterns (λ p w. leaves-both (is.leaf_constant_is_there code) (is.leaf_name_is_there code) (leaf_is_there code) (leaf-there code) p
    (of_each (is.leaves (is.leaf_constant_is_there code)) code.patterns (right (every_instr (λ body i. is.instr_constant_is_there code i) code) (list_all (is.leaves (is.leaf_constant_is_there code)) code.patterns) v.constants) p w)
    (of_each (is.leaves (is.leaf_name_is_there code)) code.patterns (named code v).0 p w))

all-tests : (code : Code) → Verified code → Tests code
all-tests code v = record {
  flat = v.flat_patterns;
  constants = v.few_constants;
  names = v.few_names;
  patterns = v.few_patterns;
  blocks = v.few_blocks;
  program = program-is code ∙ v.program;
  parents = parents-are code ∙ v.parents;
  bodies = v.bodies;
  letters = v.letters;
  leaves = leaves-there code v;
  judged = all-are code (passed code v);
}

pub refused : (code : Code) → is_verified code ≡ false → Verified code → ⊥
refused code h v = let e : is_verified code ≡ true = from-tests code (all-tests code v) in cc
