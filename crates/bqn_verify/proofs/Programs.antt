-- The program's block, and the parents of the others.
use Rattle.std.proofs.Common.{◌≡◌, ◌≤◌, ◌<◌, ◌+◌, ℕ, zero, suc, Bool, true, false, not, ◌&&◌, nat_eq, nat_lt, List, [], ◌∷◌, length, drop, get_or, refl, sym, ◌∙◌, ap, arith, drop-cons}
use Rattle.std.specs.List.{list_any}
use Rattle.std.proofs.lemmas.Bool.{lt-leb, le-leb}
use Rattle.bqn_code.specs.declared.code.Body.{Body}
use Rattle.bqn_code.specs.declared.code.Block.{Block}
use Rattle.bqn_code.specs.Conditions.{is_only_body, may_fail, is_immediate, have_parents}
use Rattle.bqn_verify.specs.Judged.{parents_in, program_in}

pub one_body : (bodies : List Body) (body : Body) (result : Bool) → length bodies ≡ 1 → body ≡ get_or bodies 0 body → result ≡ (nat_eq body.kind 0 && not (list_any may_fail body.code)) → result ≡ is_only_body bodies
one_body [] body result l p e = absurd (omega arith)
one_body (b ∷ []) body result l p e = e ∙ ap (λ (x : Body). nat_eq x.kind 0 && not (list_any may_fail x.code)) p
one_body (b ∷ c ∷ bs) body result l p e = absurd (omega arith)

pub not_one : (bodies : List Body) → (length bodies ≡ 1 → ⊥) → false ≡ is_only_body bodies
not_one [] h = refl
not_one (b ∷ []) h = absurd (h refl)
not_one (b ∷ c ∷ bs) h = refl

pub first_block : (blocks : List Block) (block : Block) (result : Bool) → 0 < length blocks → block ≡ get_or blocks 0 block → result ≡ (is_immediate block.class && (nat_eq block.parent 0 && is_only_body block.bodies)) → result ≡ program_in blocks
first_block [] block result l p e = absurd (omega arith)
first_block (b ∷ bs) block result l p e = e ∙ ap (λ (x : Block). is_immediate x.class && (nat_eq x.parent 0 && is_only_body x.bodies)) p

pub no_first : (blocks : List Block) → length blocks ≡ 0 → false ≡ program_in blocks
no_first [] l = refl
no_first (b ∷ bs) l = absurd (omega arith)

pub no_parents : (blocks : List Block) → length blocks ≡ 0 → true ≡ parents_in blocks
no_parents [] l = refl
no_parents (b ∷ bs) l = absurd (omega arith)

pub first_parents : (blocks : List Block) (block : Block) (before : ℕ) → 0 < length blocks → block ≡ get_or blocks 0 block → before ≡ length block.bodies → have_parents before (drop 1 blocks) ≡ parents_in blocks
first_parents [] block before l p e = absurd (omega arith)
first_parents (b ∷ bs) block before l p e = ap (λ (k : ℕ). have_parents k bs) (e ∙ ap (λ (x : Block). length x.bodies) p)

at-front : (blocks : List Block) (i before : ℕ) (block : Block) → i < length blocks → block ≡ get_or blocks i block → have_parents before (drop i blocks) ≡ (nat_lt block.parent before && have_parents (before + length block.bodies) (drop (i + 1) blocks))
at-front blocks i before block l p = ap (have_parents before) (drop-cons blocks i block l) ∙ (ap (λ (x : Block). nat_lt x.parent before && have_parents (before + length x.bodies) (drop (suc i) blocks)) (sym p)
    ∙ (let e : suc i ≡ i + 1 = omega arith in ap (λ (k : ℕ). nat_lt block.parent before && have_parents (before + length block.bodies) (drop k blocks)) e))

pub next_parent : (blocks : List Block) (i before many : ℕ) (block : Block) (whole : Bool) → have_parents before (drop i blocks) ≡ whole → i < length blocks → block ≡ get_or blocks i block → many ≡ length block.bodies → block.parent < before → have_parents (before + many) (drop (i + 1) blocks) ≡ whole
next_parent blocks i before many block whole w l p m h =
    ap (λ (k : ℕ). have_parents (before + k) (drop (i + 1) blocks)) m
    ∙ (sym (at-front blocks i before block l p ∙ ap (λ b. b && have_parents (before + length block.bodies) (drop (i + 1) blocks)) (let t : nat_lt block.parent before ≡ true = le-leb (suc block.parent) before (omega arith) in t)) ∙ w)

pub no_parent : (blocks : List Block) (i before : ℕ) (block : Block) (whole : Bool) → have_parents before (drop i blocks) ≡ whole → i < length blocks → block ≡ get_or blocks i block → before ≤ block.parent → false ≡ whole
no_parent blocks i before block whole w l p h =
    sym (at-front blocks i before block l p ∙ ap (λ b. b && have_parents (before + length block.bodies) (drop (i + 1) blocks)) (let t : nat_lt block.parent before ≡ false = lt-leb (suc block.parent) before (omega arith) in t)) ∙ w

pub parents_end : (blocks : List Block) (i before : ℕ) (whole : Bool) → have_parents before (drop i blocks) ≡ whole → length blocks ≤ i → true ≡ whole
parents_end blocks i before whole w h = sym (ap (have_parents before) (drop-all blocks i h)) ∙ w
  where
    drop-all : (bs : List Block) (at : ℕ) → length bs ≤ at → drop at bs ≡ []
    drop-all [] zero h = refl
    drop-all [] (suc at) h = refl
    drop-all (b ∷ bs) zero h = absurd (omega arith)
    drop-all (b ∷ bs) (suc at) h = drop-all bs at (omega arith)

pub ruleset program_laws = (one_body, not_one, first_block, no_first)

pub ruleset parent_laws = (no_parents, first_parents, next_parent, no_parent, parents_end)
