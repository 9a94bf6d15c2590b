-- In the table of verified codes each instruction names what is there.
use Rattle.std.proofs.Common.{◌≡◌, ◌∙◌, ℕ, zero, suc, ◌+◌, ◌<◌, ◌≤◌, not, ◌&&◌, List, [], ◌∷◌, ◌++◌, map, length, Bool, true, false, Option, Some, None, IsTrue, nat_eq, slice_get, refl, subst, sym, ap, arith, ◌⊎◌, inl, inr, ◌≢◌}
use Rattle.std.proofs.lemmas.Bool.{ltb-true, lt-ltb, eqb-true}
use Rattle.std.proofs.lemmas.List.{map-append}
use Rattle.bqn_syntax.specs.declared.tree.Class.{Class}
use Rattle.bqn_code.specs.declared.instr.Instr.{Instr}
use Rattle.bqn_code.specs.declared.instr.Instr.TheVariants as instr
use Rattle.bqn_code.specs.declared.code.Body.{Body}
use Rattle.bqn_code.specs.declared.code.Block.{Block}
use Rattle.bqn_code.specs.Plain.{Code, Pattern, Skip, Define, Change, ListPattern, Literal, Patterns, no_patterns, and_patterns}
use Rattle.bqn_code.specs.Numbering.{Placed, BlockAt, BodyAt, body_number, placed_blocks, placed_body, placed_bodies, Table, joined, parent_in}
use Rattle.bqn_code.specs.Standing as at
use Rattle.bqn_code.specs.Standing.{of_block, of_blocks, standing, every_instr, slots_up, around}
use Rattle.bqn_code.specs.Conditions as is
use Rattle.bqn_code.specs.Conditions.{is_below, leaves, all_leaves, pattern_passes}
use Rattle.bqn_code.specs.Verified.{Verified}
use Rattle.bqn_execution.specs.Soundness.{Each}
use Rattle.bqn_execution.specs.Formed.{program_slots, top_slots, width_up, leaf_names_slot, BlockInside, Names, FormedBody, FormedBodies}
use Rattle.bqn_execution.proofs.Sure.{no, none_some, some_same, and_left, and_right}
use Rattle.bqn_execution.proofs.SoundTables.{and_both, append_front, append_back, instr_at}

-- ---- lists

pub each_from : {A : Type 0} (P : A → Type 0) (xs : List A) → ((k : ℕ) (x : A) → slice_get xs k ≡ Some x → P x) → Each P xs
each_from P [] h = tt
each_from P (x ∷ xs) h = (h 0 x refl, each_from P xs (λ k y q. h (suc k) y q))

append_at : {A : Type 0} (xs ys : List A) (k : ℕ) (x : A) → slice_get (xs ++ ys) k ≡ Some x → (slice_get xs k ≡ Some x) ⊎ ((j : ℕ) × (slice_get ys j ≡ Some x))
append_at [] ys k x h = inr (k, h)
append_at (y ∷ xs) ys zero x h = inl h
append_at (y ∷ xs) ys (suc k) x h = append_at xs ys k x h

pub joined_at : {A : Type 0} (old new : List A) (b : ℕ) (x : A) → slice_get (joined old new) (suc b) ≡ Some x → (slice_get old (suc b) ≡ Some x) ⊎ ((k : ℕ) × (slice_get new (suc k) ≡ Some x))
joined_at [] new b x h = inr (b, h)
joined_at (o ∷ os) [] b x h = inl h
joined_at (o ∷ os) (y ∷ ys) b x h = append_at os ys b x h

map_at : {A B : Type 0} (g : A → B) (xs : List A) (k : ℕ) (x : A) → slice_get xs k ≡ Some x → slice_get (map g xs) k ≡ Some (g x)
map_at g [] k x h = absurd (none_some h)
map_at g (y ∷ ys) zero x h = ap (λ z. Some (g z)) (some_same h)
map_at g (y ∷ ys) (suc k) x h = map_at g ys k x h

-- ---- the bodies of a code by their numbers

-- a body of the code with this place in its standing
record StandsAt (p : Placed) (f n : ℕ) (bs : List Block) (k : ℕ) (x : BlockAt) (j : ℕ) (body : Body) : Type 0 where
  index : ℕ
  stands : at.Standing
  is_there : slice_get (of_blocks n f bs) index ≡ Some stands
  index_is : f + index ≡ x.first + j
  number : stands.number ≡ x.first + j
  block_number : stands.block_number ≡ n + k
  block : stands.block ≡ x.block
  body_is : stands.body ≡ body

abbrev stands_at : (number block_number : ℕ) → Block → Body → at.Standing
stands_at k n block body = record { number = k; block_number = n; block = block; body = body }

of_block_at : (n f : ℕ) (block : Block) (bodies : List Body) (j : ℕ) (body : Body) → slice_get bodies j ≡ Some body →
    slice_get (of_block n f block bodies) j ≡ Some (stands_at (f + j) n block body)
of_block_at n f block [] j body h = absurd (none_some h)
of_block_at n f block (b ∷ bs) zero body h = ap (λ z. Some (stands_at z n block b)) (omega arith) ∙ ap (λ z. Some (stands_at (f + 0) n block z)) (some_same h)
of_block_at n f block (b ∷ bs) (suc j) body h = of_block_at n (suc f) block bs j body h ∙ ap (λ z. Some (stands_at z n block body)) (omega arith)

of_block_length : (n f : ℕ) (block : Block) (bodies : List Body) → length (of_block n f block bodies) ≡ length bodies
of_block_length n f block [] = refl
of_block_length n f block (b ∷ bs) = ap suc (of_block_length n (suc f) block bs)

abbrev first_block : Placed → ℕ → Block → BlockAt
first_block p f b = record { here = p; first = f; block = b }

placed_stands : (p : Placed) (f n : ℕ) (bs : List Block) (k : ℕ) (x : BlockAt) → slice_get (placed_blocks p f bs) k ≡ Some x →
    (j : ℕ) (body : Body) → slice_get x.block.bodies j ≡ Some body → StandsAt p f n bs k x j body
placed_stands p f n [] k x h j body r = absurd (none_some h)
placed_stands p f n (b ∷ bs) zero x h j body r = by (some_same h) r
  where
    here : (j : ℕ) (body : Body) → slice_get b.bodies j ≡ Some body → StandsAt p f n (b ∷ bs) 0 (first_block p f b) j body
    here j body r = record {
      index = j;
      stands = stands_at (f + j) n b body;
      is_there = append_front (of_block n f b b.bodies) (of_blocks (suc n) (f + length b.bodies) bs) j (stands_at (f + j) n b body) (of_block_at n f b b.bodies j body r);
      index_is = refl;
      number = refl;
      block_number = omega arith;
      block = refl;
      body_is = refl;
    }

    by : first_block p f b ≡ x → slice_get x.block.bodies j ≡ Some body → StandsAt p f n (b ∷ bs) 0 x j body
    by q = subst (λ y. slice_get y.block.bodies j ≡ Some body → StandsAt p f n (b ∷ bs) 0 y j body) q (here j body)
placed_stands p f n (b ∷ bs) (suc k) x h j body r = let s : StandsAt p (f + length b.bodies) (suc n) bs k x j body = placed_stands p (f + length b.bodies) (suc n) bs k x h j body r in record {
  index = length (of_block n f b b.bodies) + s.index;
  stands = s.stands;
  is_there = append_back (of_block n f b b.bodies) (of_blocks (suc n) (f + length b.bodies) bs) s.index s.stands s.is_there;
  index_is = by s.index (length (of_block n f b b.bodies)) s.index_is (of_block_length n f b b.bodies);
  number = s.number;
  block_number = by2 s.stands.block_number s.block_number;
  block = s.block;
  body_is = s.body_is;
}
  where
    by : (i l : ℕ) → (f + length b.bodies) + i ≡ x.first + j → l ≡ length b.bodies → f + (l + i) ≡ x.first + j
    by i l q r = omega arith

    by2 : (m : ℕ) → m ≡ suc n + k → m ≡ n + suc k
    by2 m q = omega arith

pub placed_here : (p : Placed) (f : ℕ) (bs : List Block) (k : ℕ) (x : BlockAt) → slice_get (placed_blocks p f bs) k ≡ Some x → x.here ≡ p
placed_here p f [] k x h = absurd (none_some h)
placed_here p f (b ∷ bs) zero x h = sym (ap (λ y. y.here) (some_same h))
placed_here p f (b ∷ bs) (suc k) x h = placed_here p (f + length b.bodies) bs k x h

placed_at : (p : Placed) (f : ℕ) (bs : List Block) (k : ℕ) (block : Block) → slice_get bs k ≡ Some block → (x : BlockAt) × (slice_get (placed_blocks p f bs) k ≡ Some x) × (x.block ≡ block)
placed_at p f [] k block h = absurd (none_some h)
placed_at p f (b ∷ bs) zero block h = (record { here = p; first = f; block = b }, refl, some_same h)
placed_at p f (b ∷ bs) (suc k) block h = placed_at p (f + length b.bodies) bs k block h

abbrev pub standing_body : Placed → at.Standing → BodyAt
standing_body p s = record { here = p; parent = body_number p s.block.parent; body = s.body }

of_block_placed : (p : Placed) (n f : ℕ) (block : Block) (bodies : List Body) → map (placed_body p block) bodies ≡ map (standing_body p) (of_block n f block bodies)
of_block_placed p n f block [] = refl
of_block_placed p n f block (b ∷ bs) = ap (λ ys. placed_body p block b ∷ ys) (of_block_placed p n (suc f) block bs)

pub of_blocks_placed : (p : Placed) (n f : ℕ) (bs : List Block) → placed_bodies p bs ≡ map (standing_body p) (of_blocks n f bs)
of_blocks_placed p n f [] = refl
of_blocks_placed p n f (b ∷ bs) =
    ap (λ ys. ys ++ placed_bodies p bs) (of_block_placed p n f b b.bodies)
    ∙ ap (λ ys. map (standing_body p) (of_block n f b b.bodies) ++ ys) (of_blocks_placed p (suc n) (f + length b.bodies) bs)
    ∙ sym (map-append (standing_body p) (of_block n f b b.bodies) (of_blocks (suc n) (f + length b.bodies) bs))

body_placed : (p : Placed) (k : ℕ) (s : at.Standing) → slice_get (standing p.code) k ≡ Some s → slice_get (placed_bodies p p.code.blocks) k ≡ Some (standing_body p s)
body_placed p k s h = subst (λ ys. slice_get ys k ≡ Some (standing_body p s)) (sym (of_blocks_placed p 0 0 p.code.blocks)) (map_at (standing_body p) (standing p.code) k s h)

-- the top body of a program
pub record TopStanding (code : Code) (s : at.Standing) : Type 0 where
  pub block_number : s.block_number ≡ 0
  pub number : s.number ≡ 0
  pub slots : s.body.slots ≡ top_slots code.blocks
  pub immediate : IsTrue (is.is_immediate s.block.class)

pub top_standing : (code : Code) → IsTrue (is.has_program code) → (s : at.Standing) → slice_get (standing code) 0 ≡ Some s → TopStanding code s
top_standing code h s q = by code.blocks refl h q
  where
    of_bodies : (block : Block) (bs : List Block) (bodies : List Body) → code.blocks ≡ block ∷ bs → block.bodies ≡ bodies → IsTrue (is.is_immediate block.class) → IsTrue (is.is_only_body bodies) →
        slice_get (of_block 0 0 block bodies ++ of_blocks 1 (0 + length block.bodies) bs) 0 ≡ Some s → TopStanding code s
    of_bodies block bs [] e f i o r = absurd (no o)
    of_bodies block bs (body ∷ []) e f i o r = record {
      block_number = sym (ap (λ z. z.block_number) (some_same r));
      number = sym (ap (λ z. z.number) (some_same r));
      slots = sym (ap (λ z. z.body.slots) (some_same r)) ∙ sym (ap top_slots e ∙ ap program_slots f);
      immediate = subst (λ z. IsTrue (is.is_immediate z.block.class)) (some_same r) i;
    }
    of_bodies block bs (body ∷ (other ∷ bodies)) e f i o r = absurd (no o)

    by : (bs : List Block) → code.blocks ≡ bs → IsTrue (elim bs [ [] ↦ false | block ∷ others ↦ is.is_immediate block.class && (nat_eq block.parent 0 && is.is_only_body block.bodies) ]) → slice_get (of_blocks 0 0 bs) 0 ≡ Some s → TopStanding code s
    by [] e h q = absurd (no h)
    by (b ∷ bs) e h q = of_bodies b bs b.bodies e refl (and_left (is.is_immediate b.class) _ h) (and_right (nat_eq b.parent 0) _ (and_right (is.is_immediate b.class) _ h)) q

-- ---- a code in a table

pub record Holds (t : Table) (top : ℕ) (p : Placed) : Type 0 where
  pub blocks : (k : ℕ) (x : BlockAt) → slice_get (placed_blocks p 0 p.code.blocks) (suc k) ≡ Some x → slice_get t.blocks (p.blocks + suc k) ≡ Some x
  pub bodies : (k : ℕ) (x : BodyAt) → slice_get (placed_bodies p p.code.blocks) (suc k) ≡ Some x → slice_get t.bodies (p.bodies + suc k) ≡ Some x
  pub verified : Verified p.code
  pub top_fits : top_slots p.code.blocks ≤ top

module _ (t : Table) (top : ℕ) (p : Placed) (holds : Holds t top p) where
  width_at : (n m : ℕ) (y : BodyAt) → n ≡ suc m → slice_get t.bodies n ≡ Some y → (slot : ℕ) → slot < y.body.slots → IsTrue (is_below slot (width_up t top 0 n))
  width_at n m y q h slot l = subst (λ k. IsTrue (is_below slot (width_up t top 0 k))) (sym q)
      (subst (λ o. IsTrue (is_below slot (elim o [ None ↦ None | Some x ↦ Some x.body.slots ]))) (sym (subst (λ k. slice_get t.bodies k ≡ Some y) q h)) (lt-ltb slot y.body.slots l))

  -- what is below the slots of a body of the code is below its width in the table
  up_same : (up k slot : ℕ) → IsTrue (is_below slot (slots_up (standing p.code) up k)) → IsTrue (is_below slot (width_up t top up (body_number p k)))
  up_same zero k slot h = by k (slice_get (standing p.code) k) refl h
    where
      by : (k : ℕ) (o : Option at.Standing) → slice_get (standing p.code) k ≡ o → IsTrue (is_below slot (at.slots_in o)) → IsTrue (is_below slot (width_up t top 0 (body_number p k)))
      by k None q h = absurd (no h)
      by zero (Some s) q h = lt-ltb slot top (below (ltb-true slot s.body.slots h) (top_standing p.code holds.verified.program s q).slots)
        where
          below : slot < s.body.slots → s.body.slots ≡ top_slots p.code.blocks → slot < top
          below l e = let w : top_slots p.code.blocks ≤ top = holds.top_fits in omega arith
      by (suc k) (Some s) q h = width_at (p.bodies + suc k) (p.bodies + k) (standing_body p s) (omega arith) (holds.bodies k (standing_body p s) (body_placed p (suc k) s q)) slot (ltb-true slot s.body.slots h)
  up_same (suc up) k slot h = by (λ k. up_same up k slot) k (slice_get (standing p.code) k) refl h
    where
      up_one : (n m : ℕ) (y : BodyAt) → n ≡ suc m → slice_get t.bodies n ≡ Some y → IsTrue (is_below slot (width_up t top up y.parent)) → IsTrue (is_below slot (width_up t top (suc up) n))
      up_one n m y q r b = subst (λ k. IsTrue (is_below slot (width_up t top (suc up) k))) (sym q)
          (subst (λ o. IsTrue (is_below slot (width_up t top up (parent_in o)))) (sym (subst (λ k. slice_get t.bodies k ≡ Some y) q r)) b)

      of_number : (s : at.Standing) (b : ℕ) → s.block_number ≡ b → IsTrue (is_below slot (elim b [ zero ↦ None | suc n ↦ slots_up (standing p.code) up s.block.parent ])) →
          (b ≢ 0) × IsTrue (is_below slot (slots_up (standing p.code) up s.block.parent))
      of_number s zero q h = absurd (no h)
      of_number s (suc b) q h = (λ e. absurd (omega arith), h)

      by : ((k : ℕ) → IsTrue (is_below slot (slots_up (standing p.code) up k)) → IsTrue (is_below slot (width_up t top up (body_number p k)))) → (k : ℕ) (o : Option at.Standing) → slice_get (standing p.code) k ≡ o → IsTrue (is_below slot (around o (λ parent. slots_up (standing p.code) up parent))) → IsTrue (is_below slot (width_up t top (suc up) (body_number p k)))
      by same k None q h = absurd (no h)
      by same zero (Some s) q h = absurd ((of_number s s.block_number refl h).0 (top_standing p.code holds.verified.program s q).block_number)
      by same (suc k) (Some s) q h = up_one (p.bodies + suc k) (p.bodies + k) (standing_body p s) (omega arith) (holds.bodies k (standing_body p s) (body_placed p (suc k) s q)) (same s.block.parent (of_number s s.block_number refl h).1)

  module _ (s : at.Standing) where
    abbrev number : ℕ
    number = body_number p s.number

    leaf_same : (q : Pattern) → IsTrue (is.leaf_has_slot p.code s q) → IsTrue (leaf_names_slot t top number q)
    leaf_same Skip h = refl
    leaf_same (Define slot name) h = up_same 0 s.number slot h
    leaf_same (Change up slot name) h = up_same up s.number slot h
    leaf_same (ListPattern ps) h = refl
    leaf_same (Literal k) h = refl

    mutual
      leaves_same : (q : Pattern) → IsTrue (leaves (is.leaf_has_slot p.code s) q) → IsTrue (leaves (leaf_names_slot t top number) q)
      leaves_same Skip h = leaf_same Skip h
      leaves_same (Define slot name) h = leaf_same (Define slot name) h
      leaves_same (Change up slot name) h = leaf_same (Change up slot name) h
      leaves_same (ListPattern ps) h = all_leaves_same ps h
      leaves_same (Literal k) h = leaf_same (Literal k) h

      all_leaves_same : (qs : Patterns) → IsTrue (all_leaves (is.leaf_has_slot p.code s) qs) → IsTrue (all_leaves (leaf_names_slot t top number) qs)
      all_leaves_same no_patterns h = refl
      all_leaves_same (and_patterns q qs) h = and_both (leaves (leaf_names_slot t top number) q) _
          (leaves_same q (and_left (leaves (is.leaf_has_slot p.code s) q) _ h)) (all_leaves_same qs (and_right (leaves (is.leaf_has_slot p.code s) q) _ h))

    passes_same : (o : Option Pattern) → IsTrue (pattern_passes (leaves (is.leaf_has_slot p.code s)) o) → IsTrue (pattern_passes (leaves (leaf_names_slot t top number)) o)
    passes_same None h = refl
    passes_same (Some q) h = leaves_same q h

    block_inside : (fits : Class → Type 0) (wanted : Bool) → ((block : Block) → IsTrue (is.is_block_immediate wanted (Some block)) → fits block.class) → (b : ℕ) →
        IsTrue (is.is_inside s.number b p.code) → IsTrue (is.is_block_immediate wanted (slice_get p.code.blocks b)) → BlockInside t top number p fits b
    block_inside fits wanted is_fit zero h i = absurd (no h)
    block_inside fits wanted is_fit (suc b) h i = by (slice_get p.code.blocks (suc b)) refl h i
      where
        by : (o : Option Block) → slice_get p.code.blocks (suc b) ≡ o → IsTrue (elim o [ None ↦ false | Some block ↦ nat_eq block.parent s.number ]) → IsTrue (is.is_block_immediate wanted o) → BlockInside t top number p fits (suc b)
        by None q h i = absurd (no h)
        by (Some block) q h i = let f : ((x : BlockAt) × (slice_get (placed_blocks p 0 p.code.blocks) (suc b) ≡ Some x) × (x.block ≡ block)) = placed_at p 0 p.code.blocks (suc b) block q in record {
          before = p.blocks + b;
          is_number = omega arith;
          block = f.0;
          is_block = holds.blocks b f.0 f.1;
          class_fits = subst (λ z. fits z.class) (sym f.2) (is_fit block i);
          stands = ap (λ z. body_number z f.0.block.parent) (placed_here p 0 p.code.blocks (suc b) f.0 f.1) ∙ ap (λ z. body_number p z.parent) f.2 ∙ ap (body_number p) (eqb-true _ _ h);
        }

    not_immediate : (block : Block) → IsTrue (is.is_block_immediate false (Some block)) → IsTrue (not (is.is_immediate block.class))
    not_immediate block h = h

    immediate : (block : Block) → IsTrue (is.is_block_immediate true (Some block)) → IsTrue (is.is_immediate block.class)
    immediate block h = h

    names : (i : Instr) → IsTrue (is.instr_has_slot p.code s i) → IsTrue (is.names_block_inside p.code s i) → IsTrue (is.runs_immediate p.code i) → IsTrue (is.is_run_on s.block.class i) → Names t top number p s.block.class i
    names (instr.Load up slot) h i j k = up_same up s.number slot h
    names (instr.Define slot) h i j k = up_same 0 s.number slot h
    names (instr.Change up slot) h i j k = up_same up s.number slot h
    names (instr.Bind n) h i j k = passes_same (slice_get p.code.patterns n) h
    names (instr.Match n) h i j k = passes_same (slice_get p.code.patterns n) h
    names (instr.Block b) h i j k = block_inside _ false not_immediate b i j
    names (instr.Run b) h i j k = block_inside _ true immediate b i j
    names (instr.Const n) h i j k = refl
    names (instr.Given n) h i j k = refl
    names instr.Nothing h i j k = refl
    names instr.Pop h i j k = refl
    names (instr.List n) h i j k = refl
    names instr.Call1 h i j k = refl
    names instr.Call2 h i j k = refl
    names instr.Derive1 h i j k = refl
    names instr.Derive2 h i j k = refl
    names instr.Train2 h i j k = refl
    names instr.Train3 h i j k = refl
    names (instr.Field n) h i j k = refl
    names instr.Check h i j k = refl
    names instr.Left h i j k = k
    names instr.Right h i j k = k
    names instr.Own h i j k = k
    names instr.LeftOperand h i j k = k
    names instr.RightOperand h i j k = k
    names instr.Modifier h i j k = k
    names instr.Return h i j k = refl
    names instr.Space h i j k = refl

  pub code_names : (k : ℕ) (s : at.Standing) → slice_get (standing p.code) k ≡ Some s → Each (Names t top (body_number p s.number) p s.block.class) s.body.code
  code_names k s q = each_from (Names t top (body_number p s.number) p s.block.class) s.body.code (λ j i r. names s i
      (instr_at t p.code (is.instr_has_slot p.code) holds.verified.slots k s q j i r)
      (instr_at t p.code (is.names_block_inside p.code) holds.verified.blocks_inside k s q j i r)
      (instr_at t p.code (λ b x. is.runs_immediate p.code x) holds.verified.immediate k s q j i r)
      (instr_at t p.code (λ b x. is.is_run_on b.block.class x) holds.verified.classes k s q j i r))

  formed_body : (k : ℕ) (x : BlockAt) → slice_get (placed_blocks p 0 p.code.blocks) (suc k) ≡ Some x → (j : ℕ) (body : Body) → slice_get x.block.bodies j ≡ Some body → FormedBody t top x (x.first + j) body
  formed_body k x q j body r = from (placed_stands p 0 0 p.code.blocks (suc k) x q j body r)
    where
      here : x.here ≡ p
      here = placed_here p 0 p.code.blocks (suc k) x q

      numbered : (n m : ℕ) (s : at.Standing) → n ≡ suc m → slice_get (standing p.code) n ≡ Some s → s.number ≡ n → s.block ≡ x.block → s.body ≡ body → FormedBody t top x n body
      numbered n m s e h number block is = record {
        before = p.bodies + m;
        is_number = ap (λ z. body_number z n) here ∙ (ap (body_number p) e ∙ omega arith);
        is_body = ap (λ z. slice_get t.bodies (body_number z n)) here ∙ (ap (λ z. slice_get t.bodies (body_number p z)) e
            ∙ (holds.bodies m (standing_body p s) (body_placed p (suc m) s (subst (λ z. slice_get (standing p.code) z ≡ Some s) e h))
            ∙ (ap (λ (z : Placed). Some (body_in z s.block s.body)) (sym here) ∙ (ap (λ z. Some (body_in x.here z s.body)) block ∙ ap (λ z. Some (body_in x.here x.block z)) is))));
        code = subst (λ (z : Body). Each (Names t top (body_number x.here n) x.here x.block.class) z.code) is
            (subst (λ (z : Block). Each (Names t top (body_number x.here n) x.here z.class) s.body.code) block
            (subst (λ (z : Placed). Each (Names t top (body_number z n) z s.block.class) s.body.code) (sym here)
            (subst (λ z. Each (Names t top (body_number p z) p s.block.class) s.body.code) number (code_names n s h))));
      }
        where
          body_in : Placed → Block → Body → BodyAt
          body_in z b c = record { here = z; parent = body_number z b.parent; body = c }

      from : StandsAt p 0 0 p.code.blocks (suc k) x j body → FormedBody t top x (x.first + j) body
      from s = by s.index s.is_there s.index_is
        where
          by : (n : ℕ) → slice_get (standing p.code) n ≡ Some s.stands → 0 + n ≡ x.first + j → FormedBody t top x (x.first + j) body
          by zero h e = absurd (differ s.stands.block_number s.block_number (top_standing p.code holds.verified.program s.stands h).block_number)
            where
              differ : (b : ℕ) → b ≡ 0 + suc k → b ≡ 0 → ⊥
              differ b q r = absurd (omega arith)
          by (suc n) h e = numbered (x.first + j) n s.stands (omega arith) (subst (λ z. slice_get (standing p.code) z ≡ Some s.stands) (omega arith) h) s.number s.block s.body_is

  pub formed_bodies : (k : ℕ) (x : BlockAt) → slice_get (placed_blocks p 0 p.code.blocks) (suc k) ≡ Some x → FormedBodies t top x x.first x.block.bodies
  formed_bodies k x q = by x.first x.block.bodies (λ j body r. formed_body k x q j body r)
    where
      by : (first : ℕ) (bodies : List Body) → ((j : ℕ) (body : Body) → slice_get bodies j ≡ Some body → FormedBody t top x (first + j) body) → FormedBodies t top x first bodies
      by first [] h = tt
      by first (body ∷ bodies) h = (subst (λ n. FormedBody t top x n body) (omega arith) (h 0 body refl), by (suc first) bodies (λ j b r. subst (λ n. FormedBody t top x n b) (omega arith) (h (suc j) b r)))
