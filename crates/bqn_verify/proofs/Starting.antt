-- The numbers of the first bodies of blocks, and the judgement of one block after another.
use Rattle.std.proofs.Common.{◌≡◌, ◌<◌, ◌+◌, ℕ, zero, suc, Bool, true, ◌&&◌, drop, drop-cons, List, [], ◌∷◌, length, get_or, sym, ◌∙◌, ap, subst, arith}
use Rattle.bqn_code.specs.declared.code.Block.{Block}
use Rattle.bqn_code.specs.declared.code.Body.{Body}
use Rattle.bqn_code.specs.Plain.{Code}
use Rattle.bqn_verify.specs.Judged.{all_are_judged, bodies_are_judged}
use Rattle.bqn_verify.specs.Rows.{bodies_before}

one-more : (blocks : List Block) (i : ℕ) (d : Block) → i < length blocks → bodies_before (suc i) blocks ≡ bodies_before i blocks + length (get_or blocks i d).bodies
one-more [] i d h = absurd (omega arith)
one-more (b ∷ bs) zero d h = omega arith
one-more (b ∷ bs) (suc i) d h = let e : bodies_before (suc i) bs ≡ bodies_before i bs + length (get_or bs i d).bodies = one-more bs i d (omega arith) in omega arith

pub next_start : (blocks : List Block) (i number many : ℕ) (block : Block) → number ≡ bodies_before i blocks → i < length blocks → block ≡ get_or blocks i block → many ≡ length block.bodies → number + many ≡ bodies_before (i + 1) blocks
next_start blocks i number many block n h p m =
    let P : Block → Type 0 = λ b. bodies_before (suc i) blocks ≡ bodies_before i blocks + length b.bodies in
    let e : P block = subst P (sym p) (one-more blocks i block h) in
    let f : suc i ≡ i + 1 = omega arith in
    let g : number + many ≡ bodies_before (suc i) blocks = omega arith in
    g ∙ ap (λ (j : ℕ). bodies_before j blocks) f

one-judged : (code : Code) (blocks : List Block) (i number : ℕ) (d : Block) → i < length blocks → all_are_judged code number (drop i blocks)
    ≡ (bodies_are_judged code number (get_or blocks i d).class (get_or blocks i d).bodies && all_are_judged code (number + length (get_or blocks i d).bodies) (drop (i + 1) blocks))
one-judged code blocks i number d h =
    let e : suc i ≡ i + 1 = omega arith in
    ap (all_are_judged code number) (drop-cons blocks i d h)
    ∙ ap (λ (k : ℕ). bodies_are_judged code number (get_or blocks i d).class (get_or blocks i d).bodies && all_are_judged code (number + length (get_or blocks i d).bodies) (drop k blocks)) e

pub judged_block : (code : Code) (blocks : List Block) (i number : ℕ) (block : Block) (bodies : List Body) (whole : Bool) → all_are_judged code number (drop i blocks) ≡ whole → i < length blocks → block ≡ get_or blocks i block → bodies ≡ block.bodies
    → bodies_are_judged code number block.class bodies ≡ true → all_are_judged code (number + length bodies) (drop (i + 1) blocks) ≡ whole
judged_block code blocks i number block bodies whole w h p b j =
    let P : Block → Type 0 = λ b. all_are_judged code number (drop i blocks) ≡ (bodies_are_judged code number b.class b.bodies && all_are_judged code (number + length b.bodies) (drop (i + 1) blocks)) in
    let front : P block = subst P (sym p) (one-judged code blocks i number block h) in
    let Q : List Body → Type 0 = λ bs. all_are_judged code number (drop i blocks) ≡ (bodies_are_judged code number block.class bs && all_are_judged code (number + length bs) (drop (i + 1) blocks)) in
    let here : Q bodies = subst Q (sym b) front in
    sym (here ∙ ap (λ (x : Bool). x && all_are_judged code (number + length bodies) (drop (i + 1) blocks)) j) ∙ w
