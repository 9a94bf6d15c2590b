-- How many bodies a block has where there are not too many.
use Rattle.std.proofs.Common.{◌≡◌, ◌<◌, ◌^◌, ℕ, zero, suc, true, ◌&&◌, List, [], ◌∷◌, length, get_or, sym, subst, arith}
use Rattle.std.specs.List.{list_all}
use Rattle.std.proofs.lemmas.Bool.{leb-true}
use Rattle.bqn_code.specs.declared.code.Block.{Block}
use Rattle.bqn_code.specs.Plain.{Code}
use Rattle.bqn_code.specs.Conditions.{block_is_small, body_is_small, constants_are_few, names_are_few, patterns_are_few, blocks_are_few, is_few}
use Rattle.bqn_verify.specs.Judged.{is_small}
use Rattle.bqn_verify.proofs.Booleans.{left, right}

few-is : (n : ℕ) → is_few n ≡ true → n < 2 ^ 32
few-is n h = leb-true (suc n) (2 ^ 32) h

small-at : (blocks : List Block) (i : ℕ) (d : Block) → list_all block_is_small blocks ≡ true → i < length blocks → length (get_or blocks i d).bodies < 2 ^ 32
small-at [] i d s h = absurd (omega arith)
small-at (b ∷ bs) zero d s h = few-is (length b.bodies) (left (is_few (length b.bodies)) (list_all body_is_small b.bodies) (left (block_is_small b) (list_all block_is_small bs) s))
small-at (b ∷ bs) (suc i) d s h = small-at bs i d (right (block_is_small b) (list_all block_is_small bs) s) (omega arith)

pub few_bodies : (blocks : List Block) (i many : ℕ) (block : Block) → list_all block_is_small blocks ≡ true → i < length blocks → block ≡ get_or blocks i block → many ≡ length block.bodies → many < 2 ^ 32
few_bodies blocks i many block s h p m = let P : Block → Type 0 = λ b. length b.bodies < 2 ^ 32 in let e : length block.bodies < 2 ^ 32 = subst P (sym p) (small-at blocks i block s h) in omega arith

blocks-few : (code : Code) → is_small code ≡ true → blocks_are_few code ≡ true
blocks-few code h = right (patterns_are_few code) (blocks_are_few code) (right (names_are_few code) (patterns_are_few code && blocks_are_few code) (right (constants_are_few code) (names_are_few code && (patterns_are_few code && blocks_are_few code)) h))

pub few_blocks : (code : Code) → is_small code ≡ true → length code.blocks < 2 ^ 32
few_blocks code h = few-is (length code.blocks) (left (is_few (length code.blocks)) (list_all block_is_small code.blocks) (blocks-few code h))

pub small_blocks : (code : Code) → is_small code ≡ true → list_all block_is_small code.blocks ≡ true
small_blocks code h = right (is_few (length code.blocks)) (list_all block_is_small code.blocks) (blocks-few code h)

pub ruleset few_laws = (few_bodies, few_blocks, small_blocks)
