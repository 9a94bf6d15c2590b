-- A block at its place, and its bodies, each with a code of its own.
use Rattle.std.proofs.Common.{◌≡◌, ℕ, zero, suc, ◌<◌, arith, get_or, slice_set, true, false, ◌++◌, List, [], ◌∷◌, length, reverse, slice_get, refl, sym, ap, ◌∙◌, append_assoc, Option, None}
use Rattle.std.proofs.lemmas.List.{append-nil, reverse-append}
use Rattle.bqn_base.specs.declared.place.Place.{Place}
use Rattle.bqn_syntax.specs.declared.tree.Class.{Class}
use Rattle.bqn_syntax.specs.declared.tree.Class.TheVariants as class
use Rattle.bqn_syntax.specs.grammar.Trees.{Header, Stmts, block, BodyTree, body, Bodies, no_bodies, and_bodies}
use Rattle.bqn_syntax.specs.blocks.Blocks.{plain_in}
use Rattle.bqn_syntax.specs.grammar.Classes.{Both, body_calls, has_predicate}
use Rattle.bqn_syntax.specs.blocks.Counting.{how_many}
use Rattle.bqn_syntax.specs.blocks.Exporting.{stmts_export}
use Rattle.bqn_syntax.specs.scope.Bodies.{BodyNames}
use Rattle.bqn_code.specs.declared.instr.Instr.{Instr}
use Rattle.bqn_code.specs.declared.code.Body.{Body}
use Rattle.bqn_code.specs.declared.code.Block.{Block}
use Rattle.bqn_compile.specs.declared.count.Count.{Count}
use Rattle.bqn_compile.specs.declared.walk.Walk.{Walk}
use Rattle.bqn_compile.specs.Counting.{past, nothing, one_block, in_header, in_stmts, in_body, in_bodies}
use Rattle.bqn_compile.specs.Expressions.{Setting, block_instr}
use Rattle.bqn_compile.specs.Bodies.{names_in, body_code, calls_of, header_code, stmts_code, kind_code}
use Rattle.bqn_compile.specs.Blocks.{bodies_code, bodies_blocks, body_blocks, stmts_blocks}
use Rattle.bqn_compile.specs.Translation.{at_start, program}
use Rattle.bqn_compile.specs.Walking.{Walked, walked, onward, skip, append, behind, ahead, header_behind, rest_code, stmts_behind, body_behind, bodies_behind, block_walk, reserved, filled_at, filled, body_made}
use Rattle.bqn_compile.proofs.Counts.{past-assoc, past-nothing}
use Rattle.bqn_compile.proofs.Onward.{rest-false}

pub filled-seam : (xs : List Block) (b : Block) (ys : List Block) (bodies : List Body) → filled_at (length xs) bodies ((xs ++ b ∷ []) ++ ys) ≡ xs ++ record b { bodies = bodies } ∷ ys
filled-seam [] b ys bodies = refl
filled-seam (x ∷ xs) b ys bodies = ap (λ (bs : List Block). x ∷ bs) (filled-seam xs b ys bodies)

module _ (made : List Body) where
  pub filled-some : (bs : List Block) (n : ℕ) (b : Block) → n < length bs → b ≡ get_or bs n b → slice_set bs n (record b { bodies = made }) ≡ filled_at n made bs
  filled-some [] n b h e = absurd (omega arith)
  filled-some (x ∷ xs) zero b h e = ap (λ (y : Block). record y { bodies = made } ∷ xs) e
  filled-some (x ∷ xs) (suc n) b h e = ap (λ (ys : List Block). x ∷ ys) (filled-some xs n b (omega arith) e)

  pub filled-none : (bs : List Block) (n : ℕ) → (n < length bs → false ≡ true) → bs ≡ filled_at n made bs
  filled-none [] n h = refl
  filled-none (x ∷ xs) zero h = let e : false ≡ true = h (omega arith) in cc
  filled-none (x ∷ xs) (suc n) h = ap (λ (ys : List Block). x ∷ ys) (filled-none xs n (λ k. h (omega arith)))

module _ (g : Setting) (names : List BodyNames) where
  pub bodies-are-behind : (number : ℕ) (bs : Bodies) (w : Walked) → bodies_behind g names number bs w ≡ record { at = past w.at (in_bodies bs); code = w.code; blocks = w.blocks ++ bodies_blocks g names number bs w.at }
  unfolding body_behind
  bodies-are-behind number no_bodies w = λ j. record { at = sym (past-nothing w.at) j; code = w.code; blocks = sym (append-nil w.blocks) j }
  bodies-are-behind number (and_bodies b bs) w =
      bodies-are-behind (suc number) bs (body_behind g names number b w)
      ∙ (λ j. record { at = past-assoc w.at (in_body b) (in_bodies bs) j; code = w.code; blocks = append_assoc w.blocks (body_blocks g names number b w.at) (bodies_blocks g names (suc number) bs (past w.at (in_body b))) j })

  pub body-at : (number : ℕ) (b : BodyTree) (w : Walked) → (body_behind g names number b w).at ≡ past w.at (in_body b)
  unfolding body_behind
  body-at number b w = refl

  -- one body more
  pub body-is : (own : BodyNames) (plain before : ℕ) (c : Count) (h : Option Header) (ss : Stmts) → body_made g own (kind_code (body_calls plain before h (has_predicate ss))) c (body h ss) ≡ body_code g own (calls_of plain before (body h ss)) c (body h ss)
  body-is own plain before c h ss = refl

  -- what stands in a body, whose code begins anew
  module _ (old fresh mid new : Walk) (number : ℕ) (h : Option Header) (ss : Stmts) where
    pub body-code-made : fresh.at ≡ old.at → fresh.code.items ≡ [] → onward mid ≡ header_behind g h (onward fresh) → onward new ≡ stmts_behind g names number false (stmts_export ss) ss (onward mid) →
        new.code.items ≡ header_code g.uses old.at h ++ stmts_code g (stmts_export ss) (past old.at (in_header h)) ss
    unfolding onward header_behind stmts_behind skip append behind
    body-code-made a e p q =
        ap (λ (w : Walked). w.code) q
        ∙ ap (λ (w : Walked). w.code ++ rest_code g false (stmts_export ss) w.at ss) p
        ∙ (λ j. (e j ++ header_code g.uses (a j) h) ++ rest_code g false (stmts_export ss) (past (a j) (in_header h)) ss)
        ∙ ap (λ (is : List Instr). header_code g.uses old.at h ++ is) (rest-false g names number (stmts_export ss) (past old.at (in_header h)) ss)

    pub body-walk-made : (last : Walk) → fresh.at ≡ old.at → fresh.blocks.items ≡ old.blocks.items → onward mid ≡ header_behind g h (onward fresh) → onward new ≡ stmts_behind g names number false (stmts_export ss) ss (onward mid) →
        last.at ≡ new.at → last.blocks.items ≡ new.blocks.items → last.code.items ≡ old.code.items → onward last ≡ body_behind g names number (body h ss) (onward old)
    unfolding onward header_behind stmts_behind body_behind skip append behind
    body-walk-made last a b p q la lb lc =
        λ j. record {
          at = (la ∙ ap (λ (w : Walked). w.at) q ∙ ap (λ (w : Walked). past w.at (in_stmts ss)) p ∙ ap (λ (c : Count). past (past c (in_header h)) (in_stmts ss)) a ∙ past-assoc old.at (in_header h) (in_stmts ss)) j;
          code = lc j;
          blocks = (lb ∙ ap (λ (w : Walked). w.blocks) q ∙ ap (λ (w : Walked). w.blocks ++ stmts_blocks g names number ss w.at) p ∙ (λ k. b k ++ stmts_blocks g names number ss (past (a k) (in_header h)))) j;
        }

  -- a block before those inside it
  module _ (inside : ℕ) (place : Place) (c : Class) (bs : Bodies) (old pushed skipped held mid new : Walk) (x : Instr) (n first many : ℕ) (made : List Body) where
    pub block-made : x ≡ block_instr c old.at.blocks → onward pushed ≡ append (x ∷ []) (onward old) → many ≡ how_many bs → onward skipped ≡ skip (one_block many) (onward pushed) →
        n ≡ length skipped.blocks.items → onward held ≡ reserved (record { class = c; parent = inside; bodies = [] }) (onward skipped) → first ≡ old.at.bodies →
        made ≡ bodies_code g names (plain_in bs) 0 first (onward held).at bs → onward mid ≡ bodies_behind g names first bs (onward held) → onward new ≡ filled n made (onward mid) →
        walked new ≡ block_walk g names inside (block place c bs) (walked old)
    unfolding walked onward skip append reserved filled ahead block_walk
    block-made e p m q l r f d s u =
        let at_held : held.at ≡ past old.at (one_block (how_many bs)) = ap (λ (w : Walked). w.at) r ∙ ap (λ (w : Walked). w.at) q ∙ (λ j. past (ap (λ (w : Walked). w.at) p j) (one_block (m j))) in
        let code_held : held.code.items ≡ old.code.items ++ x ∷ [] = ap (λ (w : Walked). w.code) r ∙ ap (λ (w : Walked). w.code) q ∙ ap (λ (w : Walked). w.code) p in
        let blocks_skipped : skipped.blocks.items ≡ old.blocks.items = ap (λ (w : Walked). w.blocks) q ∙ ap (λ (w : Walked). w.blocks) p in
        let blocks_held : held.blocks.items ≡ old.blocks.items ++ record { class = c; parent = inside; bodies = [] } ∷ [] = ap (λ (w : Walked). w.blocks) r ∙ ap (λ (xs : List Block). xs ++ record { class = c; parent = inside; bodies = [] } ∷ []) blocks_skipped in
        let made_is : made ≡ bodies_code g names (plain_in bs) 0 old.at.bodies (past old.at (one_block (how_many bs))) bs = d ∙ (λ j. bodies_code g names (plain_in bs) 0 (f j) (at_held j) bs) in
        let all : onward mid ≡ record { at = past held.at (in_bodies bs); code = held.code.items; blocks = held.blocks.items ++ bodies_blocks g names first bs held.at } = s ∙ bodies-are-behind first bs (onward held) in
        λ j. record {
          at = (ap (λ (w : Walked). w.at) u ∙ ap (λ (w : Walked). w.at) all ∙ ap (λ (k : Count). past k (in_bodies bs)) at_held ∙ past-assoc old.at (one_block (how_many bs)) (in_bodies bs)) j;
          code = (ap (λ (w : Walked). reverse w.code) u ∙ ap (λ (w : Walked). reverse w.code) all ∙ ap reverse code_held ∙ reverse-append old.code.items (x ∷ []) ∙ ap (λ (y : Instr). y ∷ reverse old.code.items) e) j;
          blocks = (ap (λ (w : Walked). w.blocks) u
              ∙ ap (λ (w : Walked). filled_at n made w.blocks) all
              ∙ (λ k. filled_at ((l ∙ ap length blocks_skipped) k) (made_is k) (blocks_held k ++ bodies_blocks g names (f k) bs (at_held k)))
              ∙ filled-seam old.blocks.items (record { class = c; parent = inside; bodies = [] }) (bodies_blocks g names old.at.bodies bs (past old.at (one_block (how_many bs)))) (bodies_code g names (plain_in bs) 0 old.at.bodies (past old.at (one_block (how_many bs))) bs)) j;
        }

  -- the program before the blocks inside it
  pub program-made : (ss : Stmts) (first held mid new : Walk) (place : ℕ) (own : Body) (made : List Body) → first.at ≡ at_start → first.blocks.items ≡ [] → place ≡ length first.blocks.items →
      onward held ≡ reserved (record { class = class.Immediate; parent = 0; bodies = [] }) (onward first) →
      own ≡ body_made g (names_in (slice_get names 0)) 0 (onward held).at (body None ss) → onward mid ≡ body_behind g names 0 (body None ss) (onward held) → made ≡ own ∷ [] → onward new ≡ filled place made (onward mid) →
      new.blocks.items ≡ program g names ss ∷ stmts_blocks g names 0 ss at_start
  unfolding onward reserved filled body_behind
  program-made ss first held mid new place own made a b l r o m d u =
      let at_held : held.at ≡ at_start = ap (λ (w : Walked). w.at) r ∙ a in
      let blocks_held : held.blocks.items ≡ record { class = class.Immediate; parent = 0; bodies = [] } ∷ [] = ap (λ (w : Walked). w.blocks) r ∙ ap (λ (xs : List Block). xs ++ record { class = class.Immediate; parent = 0; bodies = [] } ∷ []) b in
      let made_is : made ≡ body_code g (names_in (slice_get names 0)) Both at_start (body None ss) ∷ [] = d ∙ ap (λ (x : Body). x ∷ []) (o ∙ ap (λ (c : Count). body_made g (names_in (slice_get names 0)) 0 c (body None ss)) at_held) in
      let place_is : place ≡ 0 = l ∙ ap length b in
      ap (λ (w : Walked). w.blocks) u
      ∙ ap (λ (w : Walked). filled_at place made w.blocks) m
      ∙ (λ k. filled_at (place_is k) (made_is k) (blocks_held k ++ stmts_blocks g names 0 ss (past (at_held k) nothing)))
      ∙ ap (λ (c : Count). program g names ss ∷ stmts_blocks g names 0 ss c) (past-nothing at_start)
