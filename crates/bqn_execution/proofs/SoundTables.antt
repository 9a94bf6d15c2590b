-- The table of verified codes is sound.
use Rattle.std.proofs.Common.{◌≡◌, ℕ, zero, suc, ◌+◌, ◌-◌, ◌<◌, not, ◌&&◌, List, [], ◌∷◌, ◌++◌, map, length, Bool, true, false, Option, Some, None, IsTrue, nat_eq, is_some, slice_get, refl, subst, sym, ap, ◌∙◌, arith, All}
use Rattle.std.specs.List.{list_all}
use Rattle.std.proofs.lemmas.Bool.{ltb-true}
use Rattle.bqn_syntax.specs.declared.tree.Class.{Class}
use Rattle.bqn_syntax.specs.declared.tree.Class.TheVariants as class
use Rattle.bqn_code.specs.declared.instr.Instr.{Instr}
use Rattle.bqn_code.specs.declared.instr.Instr.TheVariants as instr
use Rattle.bqn_code.specs.declared.code.Body.{Body}
use Rattle.bqn_code.specs.declared.code.Block.{Block}
use Rattle.bqn_code.specs.Plain.{Code}
use Rattle.bqn_code.specs.Numbering.{Placed, BlockAt, BodyAt, placed_blocks, placed_body, placed_bodies, Table, joined, behind, with_code, with_codes, table_of, class_of, class_in}
use Rattle.bqn_code.specs.Heights.{is_balanced}
use Rattle.bqn_code.specs.Standing.{Standing, of_block, of_blocks, standing, every_instr}
use Rattle.bqn_code.specs.Conditions as is
use Rattle.bqn_code.specs.Verified.{Verified}
use Rattle.bqn_execution.specs.Programs.{state_of}
use Rattle.bqn_execution.specs.Sureness.{VerifiedCodeIsNeverStuck}
use Rattle.bqn_execution.proofs.Sound.{is_value_class, is_run_class, has_object, is_sound, SoundTable}
use Rattle.bqn_execution.proofs.Sure.{no, none_some, some_same, and_left, and_right, all_at, programs_sure}

-- ---- lists

pub and_both : (a b : Bool) → IsTrue a → IsTrue b → IsTrue (a && b)
and_both true b h k = k
and_both false b h k = h

all_from : {A : Type 0} (test : A → Bool) (xs : List A) → ((k : ℕ) (x : A) → slice_get xs k ≡ Some x → IsTrue (test x)) → IsTrue (list_all test xs)
all_from test [] h = refl
all_from test (x ∷ xs) h = and_both (test x) (list_all test xs) (h 0 x refl) (all_from test xs (λ k y q. h (suc k) y q))

all_append : {A : Type 0} (test : A → Bool) (xs ys : List A) → IsTrue (list_all test xs) → IsTrue (list_all test ys) → IsTrue (list_all test (xs ++ ys))
all_append test [] ys h k = k
all_append test (x ∷ xs) ys h k = and_both (test x) _ (and_left (test x) _ h) (all_append test xs ys (and_right (test x) _ h) k)

all_front : {A : Type 0} (test : A → Bool) (xs ys : List A) → IsTrue (list_all test (xs ++ ys)) → IsTrue (list_all test xs)
all_front test [] ys h = refl
all_front test (x ∷ xs) ys h = and_both (test x) _ (and_left (test x) _ h) (all_front test xs ys (and_right (test x) _ h))

all_back : {A : Type 0} (test : A → Bool) (xs ys : List A) → IsTrue (list_all test (xs ++ ys)) → IsTrue (list_all test ys)
all_back test [] ys h = h
all_back test (x ∷ xs) ys h = all_back test xs ys (and_right (test x) _ h)

all_joined : {A : Type 0} (test : A → Bool) (old new : List A) → IsTrue (list_all test old) → IsTrue (list_all test new) → IsTrue (list_all test (joined old new))
all_joined test [] new h k = k
all_joined test (x ∷ old) [] h k = h
all_joined test (x ∷ old) (y ∷ new) h k = and_both (test y) _ (and_left (test y) _ k) (all_append test old new (and_right (test x) _ h) (and_right (test y) _ k))

pub within : {A : Type 0} (xs : List A) (k : ℕ) → k < length xs → IsTrue (is_some (slice_get xs k))
within [] k h = absurd (omega arith)
within (x ∷ xs) zero h = refl
within (x ∷ xs) (suc k) h = within xs k (omega arith)

pub at_same : {A : Type 0} (xs : List A) (x : A) (j k : ℕ) → j ≡ k → slice_get xs j ≡ Some x → slice_get xs k ≡ Some x
at_same xs x j k q h = subst (λ n. slice_get xs n ≡ Some x) q h

pub append_front : {A : Type 0} (xs ys : List A) (k : ℕ) (x : A) → slice_get xs k ≡ Some x → slice_get (xs ++ ys) k ≡ Some x
append_front [] ys k x h = absurd (none_some h)
append_front (y ∷ xs) ys zero x h = h
append_front (y ∷ xs) ys (suc k) x h = append_front xs ys k x h

pub append_back : {A : Type 0} (xs ys : List A) (k : ℕ) (x : A) → slice_get ys k ≡ Some x → slice_get (xs ++ ys) (length xs + k) ≡ Some x
append_back [] ys k x h = at_same ys x k (0 + k) (omega arith) h
append_back (y ∷ xs) ys k x h = at_same (y ∷ (xs ++ ys)) x (suc (length xs + k)) (suc (length xs) + k) (omega arith) (append_back xs ys k x h)

-- what stood behind the first stays where it is
pub joined_front : {A : Type 0} (old new : List A) (m b : ℕ) (x : A) → slice_get old (m + suc b) ≡ Some x → slice_get (joined old new) (m + suc b) ≡ Some x
joined_front [] new m b x h = absurd (none_some h)
joined_front (o ∷ os) [] m b x h = h
joined_front (o ∷ os) (y ∷ ys) m b x h = at_same (y ∷ (os ++ ys)) x (suc (m + b)) (m + suc b) (omega arith) (append_front os ys (m + b) x (at_same (o ∷ os) x (m + suc b) (suc (m + b)) (omega arith) h))

pub joined_back : {A : Type 0} (old new : List A) (b : ℕ) (x : A) → slice_get new (suc b) ≡ Some x → slice_get (joined old new) ((length old - 1) + suc b) ≡ Some x
joined_back [] new b x h = at_same new x (suc b) ((0 - 1) + suc b) (omega arith) h
joined_back (o ∷ os) [] b x h = absurd (none_some h)
joined_back (o ∷ os) (y ∷ ys) b x h = at_same (y ∷ (os ++ ys)) x (suc (length os + b)) ((suc (length os) - 1) + suc b) (omega arith) (append_back os ys b x h)

-- ---- what was sound stays so

module _ (t : Table) (code : Code) where
  abbrev next : Table
  next = with_code t code

  abbrev here : Placed
  here = behind t code

  class_stays : (m b : ℕ) (test : Option Class → Bool) → IsTrue (test (class_of t (m + suc b))) → (IsTrue (test None) → ⊥) → IsTrue (test (class_of next (m + suc b)))
  class_stays m b test h none = by (slice_get t.blocks (m + suc b)) refl h
    where
      by : (o : Option BlockAt) → slice_get t.blocks (m + suc b) ≡ o → IsTrue (test (class_in o)) → IsTrue (test (class_of next (m + suc b)))
      by None q k = absurd (none k)
      by (Some x) q k = subst (λ o. IsTrue (test (class_in o))) (sym (joined_front t.blocks (placed_blocks here 0 code.blocks) m b x q)) k

  object_stays : (p : Placed) (i : Instr) → IsTrue (has_object t p i) → IsTrue (has_object next p i)
  object_stays p (instr.Block zero) h = h
  object_stays p (instr.Block (suc b)) h = class_stays p.blocks b is_value_class h no
  object_stays p (instr.Run zero) h = h
  object_stays p (instr.Run (suc b)) h = class_stays p.blocks b is_run_class h no
  object_stays p (instr.Const k) h = h
  object_stays p (instr.Given k) h = h
  object_stays p (instr.Bind k) h = h
  object_stays p (instr.Match k) h = h
  object_stays p _ h = refl

  sound_stays : (p : Placed) (body : Body) → IsTrue (is_sound t p body) → IsTrue (is_sound next p body)
  sound_stays p body h = and_both (list_all (has_object next p) body.code) _
      (all_from (has_object next p) body.code (λ k i q. object_stays p i (all_at (has_object t p) body.code k i (and_left (list_all (has_object t p) body.code) _ h) q)))
      (and_right (list_all (has_object t p) body.code) _ h)

  -- ---- the new code

  placed_class : (first : ℕ) (blocks : List Block) (b : ℕ) (block : Block) → slice_get blocks b ≡ Some block → (x : BlockAt) × (slice_get (placed_blocks here first blocks) b ≡ Some x) × (x.block.class ≡ block.class)
  placed_class first [] b block h = absurd (none_some h)
  placed_class first (y ∷ ys) zero block h = (record { here = here; first = first; block = y }, refl, ap (λ z. z.class) (some_same h))
  placed_class first (y ∷ ys) (suc b) block h = placed_class (first + length y.bodies) ys b block h

  class_behind : (b : ℕ) (block : Block) → slice_get code.blocks (suc b) ≡ Some block → class_of next (here.blocks + suc b) ≡ Some block.class
  class_behind b block h = let f : ((x : BlockAt) × (slice_get (placed_blocks here 0 code.blocks) (suc b) ≡ Some x) × (x.block.class ≡ block.class)) = placed_class 0 code.blocks (suc b) block h in
      ap class_in (joined_back t.blocks (placed_blocks here 0 code.blocks) b f.0 f.1) ∙ ap Some f.2

  value_class : (c : Class) → IsTrue (not (is.is_immediate c)) → IsTrue (is_value_class (Some c))
  value_class class.Immediate h = h
  value_class class.Function h = refl
  value_class class.Mod1 h = refl
  value_class class.Mod1Deferred h = refl
  value_class class.Mod2 h = refl
  value_class class.Mod2Deferred h = refl

  run_class : (c : Class) → IsTrue (is.is_immediate c) → IsTrue (is_run_class (Some c))
  run_class class.Immediate h = refl
  run_class class.Function h = h
  run_class class.Mod1 h = h
  run_class class.Mod1Deferred h = h
  run_class class.Mod2 h = h
  run_class class.Mod2Deferred h = h

  block_object : (b : ℕ) (o : Option Block) → slice_get code.blocks (suc b) ≡ o → IsTrue (is.is_block_immediate false o) → IsTrue (is_value_class (class_of next (here.blocks + suc b)))
  block_object b None q h = absurd (no h)
  block_object b (Some block) q h = subst (λ c. IsTrue (is_value_class c)) (sym (class_behind b block q)) (value_class block.class h)

  run_object : (b : ℕ) (o : Option Block) → slice_get code.blocks (suc b) ≡ o → IsTrue (is.is_block_immediate true o) → IsTrue (is_run_class (class_of next (here.blocks + suc b)))
  run_object b None q h = absurd (no h)
  run_object b (Some block) q h = subst (λ c. IsTrue (is_run_class c)) (sym (class_behind b block q)) (run_class block.class h)

  object : (body : Standing) (i : Instr) → IsTrue (is.instr_constant_is_there code i) → IsTrue (is.instr_pattern_is_there code i) → IsTrue (is.is_given_code i) → IsTrue (is.names_block_inside code body i) → IsTrue (is.runs_immediate code i) → IsTrue (has_object next here i)
  object body (instr.Const k) a b c d e = within code.constants k (ltb-true k (length code.constants) a)
  object body (instr.Given k) a b c d e = c
  object body (instr.Block zero) a b c d e = d
  object body (instr.Block (suc k)) a b c d e = block_object k (slice_get code.blocks (suc k)) refl e
  object body (instr.Run zero) a b c d e = d
  object body (instr.Run (suc k)) a b c d e = run_object k (slice_get code.blocks (suc k)) refl e
  object body (instr.Bind k) a b c d e = within code.patterns k (ltb-true k (length code.patterns) b)
  object body (instr.Match k) a b c d e = within code.patterns k (ltb-true k (length code.patterns) b)
  object body _ a b c d e = refl

  pub instr_at : (test : Standing → Instr → Bool) → IsTrue (every_instr test code) → (k : ℕ) (body : Standing) → slice_get (standing code) k ≡ Some body → (j : ℕ) (i : Instr) → slice_get body.body.code j ≡ Some i → IsTrue (test body i)
  instr_at test h k body q j i r = all_at (test body) body.body.code j i (all_at (λ b. list_all (test b) b.body.code) (standing code) k body h q) r

  standing_sound : Verified code → IsTrue (list_all (λ b. is_sound next here b.body) (standing code))
  standing_sound v = all_from (λ b. is_sound next here b.body) (standing code) (λ k body q. and_both (list_all (has_object next here) body.body.code) _
      (all_from (has_object next here) body.body.code (λ j i r. object body i
      (instr_at (λ b x. is.instr_constant_is_there code x) (and_left (every_instr (λ b x. is.instr_constant_is_there code x) code) _ v.constants) k body q j i r)
      (instr_at (λ b x. is.instr_pattern_is_there code x) v.patterns k body q j i r)
      (instr_at (λ b x. is.is_given_code x) v.given_values k body q j i r)
      (instr_at (is.names_block_inside code) v.blocks_inside k body q j i r)
      (instr_at (λ b x. is.runs_immediate code x) v.immediate k body q j i r)))
      (all_at (λ b. is_balanced 0 b.body.code) (standing code) k body v.stacks q))

  of_block_sound : (n k : ℕ) (block : Block) (bodies : List Body) → IsTrue (list_all (λ b. is_sound next here b.body) (of_block n k block bodies)) → IsTrue (list_all (is_sound next here) bodies)
  of_block_sound n k block [] h = refl
  of_block_sound n k block (body ∷ bodies) h = and_both (is_sound next here body) _ (and_left (is_sound next here body) _ h) (of_block_sound n (suc k) block bodies (and_right (is_sound next here body) _ h))

  blocks_sound : (n k first : ℕ) (blocks : List Block) → IsTrue (list_all (λ b. is_sound next here b.body) (of_blocks n k blocks)) → IsTrue (list_all (λ x. list_all (is_sound next x.here) x.block.bodies) (placed_blocks here first blocks))
  blocks_sound n k first [] h = refl
  blocks_sound n k first (b ∷ bs) h = and_both (list_all (is_sound next here) b.bodies) _
      (of_block_sound n k b b.bodies (all_front (λ x. is_sound next here x.body) (of_block n k b b.bodies) (of_blocks (suc n) (k + length b.bodies) bs) h))
      (blocks_sound (suc n) (k + length b.bodies) (first + length b.bodies) bs (all_back (λ x. is_sound next here x.body) (of_block n k b b.bodies) (of_blocks (suc n) (k + length b.bodies) bs) h))

  map_sound : (block : Block) (bodies : List Body) → IsTrue (list_all (is_sound next here) bodies) → IsTrue (list_all (λ x. is_sound next x.here x.body) (map (placed_body here block) bodies))
  map_sound block [] h = refl
  map_sound block (body ∷ bodies) h = and_both (is_sound next here body) _ (and_left (is_sound next here body) _ h) (map_sound block bodies (and_right (is_sound next here body) _ h))

  bodies_sound : (n k : ℕ) (blocks : List Block) → IsTrue (list_all (λ b. is_sound next here b.body) (of_blocks n k blocks)) → IsTrue (list_all (λ x. is_sound next x.here x.body) (placed_bodies here blocks))
  bodies_sound n k [] h = refl
  bodies_sound n k (b ∷ bs) h = all_append (λ x. is_sound next x.here x.body) (map (placed_body here b) b.bodies) (placed_bodies here bs)
      (map_sound b b.bodies (of_block_sound n k b b.bodies (all_front (λ x. is_sound next here x.body) (of_block n k b b.bodies) (of_blocks (suc n) (k + length b.bodies) bs) h)))
      (bodies_sound (suc n) (k + length b.bodies) bs (all_back (λ x. is_sound next here x.body) (of_block n k b b.bodies) (of_blocks (suc n) (k + length b.bodies) bs) h))

  top_in : (block : Block) (rest : List BodyAt) (bodies : List Body) → IsTrue (is.is_only_body bodies) → IsTrue (is_some (slice_get (map (placed_body here block) bodies ++ rest) 0))
  top_in block rest [] h = absurd (no h)
  top_in block rest (body ∷ []) h = refl
  top_in block rest (body ∷ (other ∷ bodies)) h = absurd (no h)

  top_placed : (blocks : List Block) → IsTrue (elim blocks [ [] ↦ false | block ∷ others ↦ is.is_immediate block.class && (nat_eq block.parent 0 && is.is_only_body block.bodies) ]) → IsTrue (is_some (slice_get (placed_bodies here blocks) 0))
  top_placed [] h = absurd (no h)
  top_placed (b ∷ bs) h = top_in b (placed_bodies here bs) b.bodies (and_right (nat_eq b.parent 0) _ (and_right (is.is_immediate b.class) _ h))

top_joined : (old new : List BodyAt) → IsTrue (is_some (slice_get new 0)) → IsTrue (is_some (slice_get (joined old new) 0))
top_joined [] new h = h
top_joined (x ∷ old) [] h = refl
top_joined (x ∷ old) (y ∷ new) h = refl

-- ---- all codes

-- a table of codes so far, perhaps of none
record SoFar (t : Table) : Type 0 where
  blocks : IsTrue (list_all (λ b. list_all (is_sound t b.here) b.block.bodies) t.blocks)
  bodies : IsTrue (list_all (λ b. is_sound t b.here b.body) t.bodies)

step_sound : (t : Table) (code : Code) → SoFar t → Verified code → SoundTable (with_code t code)
step_sound t code s v = record {
  blocks = all_joined (λ b. list_all (is_sound (next t code) b.here) b.block.bodies) t.blocks (placed_blocks (here t code) 0 code.blocks)
      (all_from (λ b. list_all (is_sound (next t code) b.here) b.block.bodies) t.blocks (λ k x q. all_from (is_sound (next t code) x.here) x.block.bodies
      (λ j body r. sound_stays t code x.here body (all_at (is_sound t x.here) x.block.bodies j body (all_at (λ b. list_all (is_sound t b.here) b.block.bodies) t.blocks k x s.blocks q) r))))
      (blocks_sound t code 0 0 0 code.blocks (standing_sound t code v));
  bodies = all_joined (λ b. is_sound (next t code) b.here b.body) t.bodies (placed_bodies (here t code) code.blocks)
      (all_from (λ b. is_sound (next t code) b.here b.body) t.bodies (λ k x q. sound_stays t code x.here x.body (all_at (λ b. is_sound t b.here b.body) t.bodies k x s.bodies q)))
      (bodies_sound t code 0 0 code.blocks (standing_sound t code v));
  top = top_joined t.bodies (placed_bodies (here t code) code.blocks) (top_placed t code code.blocks v.program);
}

codes_sound : (t : Table) → SoFar t → (codes : List Code) → All Verified codes → (code : Code) → Verified code → SoundTable (with_codes t (codes ++ code ∷ []))
codes_sound t s [] all code v = step_sound t code s v
codes_sound t s (c ∷ cs) all code v = let n : SoundTable (with_code t c) = step_sound t c s (all 0 c (omega arith)) in
    codes_sound (with_code t c) (record { blocks = n.blocks; bodies = n.bodies }) cs (λ k d q. all (suc k) d (omega arith)) code v

pub verified_sure : VerifiedCodeIsNeverStuck
verified_sure room args kept code all v = programs_sure (table_of (kept.codes ++ code ∷ [])) args room (codes_sound (record { blocks = []; bodies = [] }) (record { blocks = refl; bodies = refl }) kept.codes all code v) (state_of kept)

pub ruleset sure_laws = (verified_sure)
