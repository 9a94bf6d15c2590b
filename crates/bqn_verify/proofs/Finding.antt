-- The row of a body is found block by block.
use Rattle.std.proofs.Common.{◌≡◌, ◌≤◌, ◌<◌, ◌+◌, ◌-◌, ℕ, zero, suc, List, [], ◌∷◌, ◌++◌, length, map, drop, get_or, slice_get, Option, Some, None, refl, sym, ◌∙◌, ap, subst, arith, drop-cons}
use Rattle.std.specs.Option.{option_map}
use Rattle.std.proofs.lemmas.Option.{slice_get-map, slice_get-get_or}
use Rattle.std.proofs.lemmas.List.{length-map, drop_all}
use Rattle.bqn_code.specs.declared.code.Body.{Body}
use Rattle.bqn_code.specs.declared.code.Block.{Block}
use Rattle.bqn_verify.specs.declared.slots.Row.{Row}
use Rattle.bqn_verify.specs.declared.slots.Start.{Start}
use Rattle.bqn_verify.specs.Rows.{IsStart, bodies_before, row_in, rows_of, parent_if, up_in, around_in, go_up}

behind : {A : Type 0} (xs ys : List A) (k : ℕ) → length xs ≤ k → slice_get (xs ++ ys) k ≡ slice_get ys (k - length xs)
behind [] ys k h = ap (slice_get ys) (omega arith)
behind (x ∷ xs) ys zero h = absurd (omega arith)
behind (x ∷ xs) ys (suc k) h = behind xs ys k (omega arith) ∙ ap (slice_get ys) (omega arith)

in-front : {A : Type 0} (xs ys : List A) (k : ℕ) → k < length xs → slice_get (xs ++ ys) k ≡ slice_get xs k
in-front [] ys k h = absurd (omega arith)
in-front (x ∷ xs) ys zero h = refl
in-front (x ∷ xs) ys (suc k) h = in-front xs ys k (omega arith)

at-front : (n : ℕ) (blocks : List Block) (d : Block) → n < length blocks → rows_of n (drop n blocks) ≡ map (row_in n (get_or blocks n d).parent) (get_or blocks n d).bodies ++ rows_of (n + 1) (drop (n + 1) blocks)
at-front n blocks d h = ap (rows_of n) (drop-cons blocks n d h) ∙ (let e : suc n ≡ n + 1 = omega arith in ap (λ (m : ℕ). map (row_in n (get_or blocks n d).parent) (get_or blocks n d).bodies ++ rows_of m (drop m blocks)) e)

pub past_block : (n left many : ℕ) (blocks : List Block) (block : Block) (whole : Option Row) → slice_get (rows_of n (drop n blocks)) left ≡ whole → n < length blocks → block ≡ get_or blocks n block → many ≡ length block.bodies → many ≤ left
    → slice_get (rows_of (n + 1) (drop (n + 1) blocks)) (left - many) ≡ whole
past_block n left many blocks block whole w h p m le =
    let P : Block → Type 0 = λ b. rows_of n (drop n blocks) ≡ map (row_in n b.parent) b.bodies ++ rows_of (n + 1) (drop (n + 1) blocks) in
    let front : P block = subst P (sym p) (at-front n blocks block h) in
    let len : length (map (row_in n block.parent) block.bodies) ≡ many = length-map block.bodies (row_in n block.parent) ∙ sym m in
    ap (λ (k : ℕ). slice_get (rows_of (n + 1) (drop (n + 1) blocks)) (left - k)) (sym len)
    ∙ (sym (behind (map (row_in n block.parent) block.bodies) (rows_of (n + 1) (drop (n + 1) blocks)) left (omega arith)) ∙ (ap (λ rows. slice_get rows left) (sym front) ∙ w))

pub in_block : (n left many : ℕ) (blocks : List Block) (block : Block) (body : Body) (around : Option ℕ) (whole : Option Row) → slice_get (rows_of n (drop n blocks)) left ≡ whole → n < length blocks → block ≡ get_or blocks n block → many ≡ length block.bodies → left < many
    → body ≡ get_or block.bodies left body → around ≡ parent_if n block.parent → Some (record { slots = body.slots; around = around }) ≡ whole
in_block n left many blocks block body around whole w h p m lt b a =
    let P : Block → Type 0 = λ b. rows_of n (drop n blocks) ≡ map (row_in n b.parent) b.bodies ++ rows_of (n + 1) (drop (n + 1) blocks) in
    let front : P block = subst P (sym p) (at-front n blocks block h) in
    let len : length (map (row_in n block.parent) block.bodies) ≡ many = length-map block.bodies (row_in n block.parent) ∙ sym m in
    let here : slice_get (rows_of n (drop n blocks)) left ≡ Some (row_in n block.parent body) =
    ap (λ rows. slice_get rows left) front
    ∙ (in-front (map (row_in n block.parent) block.bodies) (rows_of (n + 1) (drop (n + 1) blocks)) left (omega arith)
    ∙ (slice_get-map (row_in n block.parent) block.bodies left
    ∙ ap (option_map (row_in n block.parent)) (slice_get-get_or block.bodies left body (omega arith) ∙ ap (λ (x : Body). Some x) (sym b))))
    in ap (λ (o : Option ℕ). Some (record { slots = body.slots; around = o })) a ∙ (sym here ∙ w)

pub no_block : (n left : ℕ) (blocks : List Block) (whole : Option Row) → slice_get (rows_of n (drop n blocks)) left ≡ whole → length blocks ≤ n → None ≡ whole
no_block n left blocks whole w h = sym (ap (λ bs. slice_get (rows_of n bs) left) (drop_all n blocks h)) ∙ w

pub ruleset finds = (past_block, in_block, no_block)

from-block : (n m k : ℕ) (blocks : List Block) → bodies_before n blocks ≤ k → slice_get (rows_of (m + n) (drop n blocks)) (k - bodies_before n blocks) ≡ slice_get (rows_of m blocks) k
from-block zero m k blocks h = let e : m + 0 ≡ m = omega arith in let f : k - 0 ≡ k = omega arith in ap (λ (j : ℕ). slice_get (rows_of j blocks) (k - 0)) e ∙ ap (slice_get (rows_of m blocks)) f
from-block (suc n) m k [] h = refl
from-block (suc n) m k (b ∷ bs) h =
    let len : length (map (row_in m b.parent) b.bodies) ≡ length b.bodies = length-map b.bodies (row_in m b.parent) in
    let e : m + suc n ≡ suc m + n = omega arith in
    let f : k - (length b.bodies + bodies_before n bs) ≡ (k - length b.bodies) - bodies_before n bs = omega arith in
    ap (λ (j : ℕ). slice_get (rows_of j (drop n bs)) (k - (length b.bodies + bodies_before n bs))) e
    ∙ (ap (slice_get (rows_of (suc m + n) (drop n bs))) f
    ∙ (from-block n (suc m) (k - length b.bodies) bs (omega arith)
    ∙ (ap (λ (j : ℕ). slice_get (rows_of (suc m) bs) (k - j)) (sym len)
    ∙ sym (behind (map (row_in m b.parent) b.bodies) (rows_of (suc m) bs) k (omega arith)))))

pub from_start : (blocks : List Block) (start : Start) (number : ℕ) → IsStart blocks start → start.first ≤ number
    → slice_get (rows_of start.block (drop start.block blocks)) (number - start.first) ≡ slice_get (rows_of 0 blocks) number
from_start blocks start number is le =
    let e : start.block ≡ 0 + start.block = omega arith in
    ap (λ (j : ℕ). slice_get (rows_of start.block (drop start.block blocks)) (number - j)) is
    ∙ (ap (λ (n : ℕ). slice_get (rows_of n (drop start.block blocks)) (number - bodies_before start.block blocks)) e
    ∙ from-block start.block 0 number blocks (omega arith))

pub next_up : (rows : List Row) (up k parent : ℕ) (row : Row) (whole : Option ℕ) → up_in rows up k ≡ whole → 0 < up → Some row ≡ slice_get rows k → row.around ≡ Some parent → up_in rows (up - 1) parent ≡ whole
next_up rows zero k parent row whole w h r a = absurd (omega arith)
next_up rows (suc up) k parent row whole w h r a =
    ap (λ (n : ℕ). up_in rows n parent) (omega arith)
    ∙ (sym (ap (λ (o : Option Row). around_in o (λ p. up_in rows up p)) (sym r) ∙ ap (λ (o : Option ℕ). go_up o (λ p. up_in rows up p)) a) ∙ w)

pub none_up : (rows : List Row) (up k : ℕ) (whole : Option ℕ) → up_in rows up k ≡ whole → 0 < up → None ≡ slice_get rows k → None ≡ whole
none_up rows zero k whole w h r = absurd (omega arith)
none_up rows (suc up) k whole w h r = ap (λ (o : Option Row). around_in o (λ p. up_in rows up p)) r ∙ w

pub program_up : (rows : List Row) (up k : ℕ) (row : Row) (whole : Option ℕ) → up_in rows up k ≡ whole → 0 < up → Some row ≡ slice_get rows k → row.around ≡ None → None ≡ whole
program_up rows zero k row whole w h r a = absurd (omega arith)
program_up rows (suc up) k row whole w h r a =
    sym (ap (λ (o : Option Row). around_in o (λ p. up_in rows up p)) (sym r) ∙ ap (λ (o : Option ℕ). go_up o (λ p. up_in rows up p)) a) ∙ w

pub ruleset ways_up = (next_up, none_up, program_up)
