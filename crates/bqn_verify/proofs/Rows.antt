-- The rows of bodies say what the bodies say.
use Rattle.std.proofs.Common.{◌≡◌, ◌+◌, ℕ, zero, suc, List, [], ◌∷◌, ◌++◌, length, map, slice_get, Option, Some, None, refl, sym, ◌∙◌, ap}
use Rattle.std.specs.Option.{option_map}
use Rattle.std.proofs.lemmas.Option.{slice_get-map}
use Rattle.bqn_code.specs.declared.code.Body.{Body}
use Rattle.bqn_code.specs.declared.code.Block.{Block}
use Rattle.bqn_code.specs.Plain.{Code}
use Rattle.bqn_code.specs.Conditions.{is_below}
use Rattle.bqn_code.specs.Standing.{Standing, standing, of_block, of_blocks, slots_in, slots_up, around}
use Rattle.bqn_verify.specs.declared.slots.Row.{Row}
use Rattle.bqn_verify.specs.Rows as r

abbrev row_of : Standing → Row
row_of b = record { slots = b.body.slots; around = r.parent_if b.block_number b.block.parent }

map-++ : (f : Standing → Row) (xs ys : List Standing) → map f (xs ++ ys) ≡ map f xs ++ map f ys
map-++ f [] ys = refl
map-++ f (x ∷ xs) ys = ap (λ zs. f x ∷ zs) (map-++ f xs ys)

in-block : (n k : ℕ) (block : Block) (bodies : List Body) → map row_of (of_block n k block bodies) ≡ map (r.row_in n block.parent) bodies
in-block n k block [] = refl
in-block n k block (body ∷ bodies) = ap (λ zs. r.row_in n block.parent body ∷ zs) (in-block n (suc k) block bodies)

in-blocks : (n k : ℕ) (blocks : List Block) → map row_of (of_blocks n k blocks) ≡ r.rows_of n blocks
in-blocks n k [] = refl
in-blocks n k (block ∷ blocks) = map-++ row_of (of_block n k block block.bodies) (of_blocks (suc n) (k + length block.bodies) blocks)
    ∙ (ap (λ zs. zs ++ map row_of (of_blocks (suc n) (k + length block.bodies) blocks)) (in-block n k block block.bodies)
    ∙ ap (λ zs. map (r.row_in n block.parent) block.bodies ++ zs) (in-blocks (suc n) (k + length block.bodies) blocks))

up-of : (bodies : List Standing) (up k : ℕ) → r.up_in (map row_of bodies) up k ≡ slots_up bodies up k
up-of bodies zero k = ap r.slots_in (slice_get-map row_of bodies k) ∙ by (slice_get bodies k)
  where
    by : (o : Option Standing) → r.slots_in (option_map row_of o) ≡ slots_in o
    by None = refl
    by (Some b) = refl
up-of bodies (suc up) k = ap (λ o. r.around_in o (λ parent. r.up_in (map row_of bodies) up parent)) (slice_get-map row_of bodies k) ∙ by (up-of bodies up) (slice_get bodies k)
  where
    inner : ((parent : ℕ) → r.up_in (map row_of bodies) up parent ≡ slots_up bodies up parent) → (n parent : ℕ) → r.go_up (r.parent_if n parent) (λ parent. r.up_in (map row_of bodies) up parent) ≡ elim n [ zero ↦ None | suc n ↦ slots_up bodies up parent ]
    inner hyp zero parent = refl
    inner hyp (suc n) parent = hyp parent

    by : ((parent : ℕ) → r.up_in (map row_of bodies) up parent ≡ slots_up bodies up parent) → (o : Option Standing) → r.around_in (option_map row_of o) (λ parent. r.up_in (map row_of bodies) up parent) ≡ around o (λ parent. slots_up bodies up parent)
    by hyp None = refl
    by hyp (Some b) = inner hyp b.block_number b.block.parent

pub up_rows : (code : Code) (up k : ℕ) → r.up_in (r.rows_of 0 code.blocks) up k ≡ slots_up (standing code) up k
up_rows code up k = ap (λ rows. r.up_in rows up k) (sym (in-blocks 0 0 code.blocks)) ∙ up-of (standing code) up k

pub below_up : (code : Code) (up k slot : ℕ) → is_below slot (r.up_in (r.rows_of 0 code.blocks) up k) ≡ is_below slot (slots_up (standing code) up k)
below_up code up k slot = ap (λ o. is_below slot o) (up_rows code up k)
