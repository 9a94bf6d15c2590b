-- The table of verified codes: each instruction names what is there.
use Rattle.std.proofs.Common.{◌≡◌, ℕ, suc, ◌≤◌, List, [], ◌∷◌, ◌++◌, map, Some, IsTrue, slice_get, refl, subst, ap, arith, All, ◌⊎◌, inl, inr}
use Rattle.bqn_syntax.specs.declared.tree.Class.{Class}
use Rattle.bqn_syntax.specs.declared.tree.Class.TheVariants as class
use Rattle.bqn_code.specs.Plain.{Code}
use Rattle.bqn_code.specs.Numbering.{Placed, BlockAt, BodyAt, body_number, placed_blocks, placed_bodies, Table, joined, behind, with_code, with_codes, table_of}
use Rattle.bqn_code.specs.Standing as at
use Rattle.bqn_code.specs.Standing.{of_blocks, standing}
use Rattle.bqn_code.specs.Conditions as is
use Rattle.bqn_code.specs.Verified.{Verified}
use Rattle.bqn_execution.specs.Soundness.{Each}
use Rattle.bqn_execution.specs.Formed.{top_slots, widest, Names, FormedTop, FormedTable}
use Rattle.bqn_execution.proofs.Sure.{no, none_some, some_same}
use Rattle.bqn_execution.proofs.SoundTables.{joined_front, joined_back}
use Rattle.bqn_execution.proofs.FormedTables.{Holds, TopStanding, joined_at, standing_body, of_blocks_placed, top_standing, code_names, formed_bodies}

joined_zero : {A : Type 0} (old new : List A) (x : A) → slice_get (joined old new) 0 ≡ Some x → (slice_get new 0 ≡ Some x) ⊎ (slice_get old 0 ≡ Some x)
joined_zero [] new x h = inl h
joined_zero (o ∷ os) [] x h = inr h
joined_zero (o ∷ os) (y ∷ ys) x h = inl h

-- ---- blocks and top bodies with their codes

record From (t : Table) (top : ℕ) (x : BlockAt) : Type 0 where
  here : Placed
  index : ℕ
  is_there : slice_get (placed_blocks here 0 here.code.blocks) (suc index) ≡ Some x
  holds : Holds t top here

record FromTop (t : Table) (top : ℕ) (y : BodyAt) : Type 0 where
  here : Placed
  is_there : slice_get (placed_bodies here here.code.blocks) 0 ≡ Some y
  holds : Holds t top here

record SoFar (t : Table) (top : ℕ) : Type 0 where
  blocks : (k : ℕ) (x : BlockAt) → slice_get t.blocks (suc k) ≡ Some x → From t top x
  program : (y : BodyAt) → slice_get t.bodies 0 ≡ Some y → FromTop t top y

module _ (t : Table) (top : ℕ) (code : Code) where
  abbrev next : Table
  next = with_code t code

  holds_stays : (p : Placed) → Holds t top p → Holds next top p
  holds_stays p h = record {
    blocks = λ k x q. joined_front t.blocks (placed_blocks (behind t code) 0 code.blocks) p.blocks k x (h.blocks k x q);
    bodies = λ k x q. joined_front t.bodies (placed_bodies (behind t code) code.blocks) p.bodies k x (h.bodies k x q);
    verified = h.verified;
    top_fits = h.top_fits;
  }

  holds_new : Verified code → top_slots code.blocks ≤ top → Holds next top (behind t code)
  holds_new v l = record {
    blocks = λ k x q. joined_back t.blocks (placed_blocks (behind t code) 0 code.blocks) k x q;
    bodies = λ k x q. joined_back t.bodies (placed_bodies (behind t code) code.blocks) k x q;
    verified = v;
    top_fits = l;
  }

  further : SoFar t top → Verified code → top_slots code.blocks ≤ top → SoFar next top
  further s v l = record {
    blocks = λ k x q. block k x (joined_at t.blocks (placed_blocks (behind t code) 0 code.blocks) k x q);
    program = λ y q. program y (joined_zero t.bodies (placed_bodies (behind t code) code.blocks) y q);
  }
    where
      block : (k : ℕ) (x : BlockAt) → (slice_get t.blocks (suc k) ≡ Some x) ⊎ ((j : ℕ) × (slice_get (placed_blocks (behind t code) 0 code.blocks) (suc j) ≡ Some x)) → From next top x
      block k x (inl q) = let f : From t top x = s.blocks k x q in record { here = f.here; index = f.index; is_there = f.is_there; holds = holds_stays f.here f.holds }
      block k x (inr q) = record { here = behind t code; index = q.0; is_there = q.1; holds = holds_new v l }

      program : (y : BodyAt) → (slice_get (placed_bodies (behind t code) code.blocks) 0 ≡ Some y) ⊎ (slice_get t.bodies 0 ≡ Some y) → FromTop next top y
      program y (inl q) = record { here = behind t code; is_there = q; holds = holds_new v l }
      program y (inr q) = let f : FromTop t top y = s.program y q in record { here = f.here; is_there = f.is_there; holds = holds_stays f.here f.holds }

-- ---- tables

immediate_is : (c : Class) → IsTrue (is.is_immediate c) → c ≡ class.Immediate
immediate_is class.Immediate h = refl
immediate_is class.Function h = absurd (no h)
immediate_is class.Mod1 h = absurd (no h)
immediate_is class.Mod1Deferred h = absurd (no h)
immediate_is class.Mod2 h = absurd (no h)
immediate_is class.Mod2Deferred h = absurd (no h)

formed_top : (t : Table) (top : ℕ) (p : Placed) → Holds t top p → (y : BodyAt) → slice_get (placed_bodies p p.code.blocks) 0 ≡ Some y → FormedTop t top y
formed_top t top p holds y q = by (standing p.code) refl (subst (λ ys. slice_get ys 0 ≡ Some y) (of_blocks_placed p 0 0 p.code.blocks) q)
  where
    of_body : (s : at.Standing) → slice_get (standing p.code) 0 ≡ Some s → TopStanding p.code s → FormedTop t top (standing_body p s)
    of_body s r f = record {
      slots = fits s.body.slots f.slots;
      code = subst (λ c. Each (Names t top 0 p c) s.body.code) (immediate_is s.block.class f.immediate)
          (subst (λ n. Each (Names t top (body_number p n) p s.block.class) s.body.code) f.number (code_names t top p holds 0 s r));
    }
      where
        fits : (n : ℕ) → n ≡ top_slots p.code.blocks → n ≤ top
        fits n e = let l : top_slots p.code.blocks ≤ top = holds.top_fits in omega arith

    by : (ss : List at.Standing) → standing p.code ≡ ss → slice_get (map (standing_body p) ss) 0 ≡ Some y → FormedTop t top y
    by [] e r = absurd (none_some r)
    by (s ∷ ss) e r = let at_first : slice_get (standing p.code) 0 ≡ Some s = ap (λ zs. slice_get zs 0) e in
        subst (FormedTop t top) (some_same r) (of_body s at_first (top_standing p.code holds.verified.program s at_first))

formed : (t : Table) (top : ℕ) → SoFar t top → FormedTable t top
formed t top s = record {
  blocks = λ k x q. let f : From t top x = s.blocks k x q in formed_bodies t top f.here f.holds f.index x f.is_there;
  program = λ y q. let f : FromTop t top y = s.program y q in formed_top t top f.here f.holds y f.is_there;
}

codes_so_far : (t : Table) (top : ℕ) → SoFar t top → (codes : List Code) → All Verified codes → (code : Code) → Verified code → widest (codes ++ code ∷ []) ≤ top → SoFar (with_codes t (codes ++ code ∷ [])) top
codes_so_far t top s [] all code v l = further t top code s v (omega arith)
codes_so_far t top s (c ∷ cs) all code v l = codes_so_far (with_code t c) top (further t top c s (all 0 c (omega arith)) (omega arith)) cs (λ k d q. all (suc k) d (omega arith)) code v (omega arith)

pub verified_formed : (codes : List Code) (code : Code) → All Verified codes → Verified code → FormedTable (table_of (codes ++ code ∷ [])) (widest (codes ++ code ∷ []))
verified_formed codes code all v = formed (table_of (codes ++ code ∷ [])) (widest (codes ++ code ∷ []))
    (codes_so_far (record { blocks = []; bodies = [] }) (widest (codes ++ code ∷ [])) (record { blocks = λ k x q. absurd (none_some q); program = λ y q. absurd (none_some q) }) codes all code v (omega arith))
