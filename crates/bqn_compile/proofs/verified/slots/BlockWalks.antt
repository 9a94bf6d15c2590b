-- The walk over blocks: each body has its names where it is numbered, and stands in the body around it.
use Rattle.std.proofs.Common.{◌≡◌, ◌<◌, ℕ, suc, ◌+◌, true, List, [], ◌∷◌, ◌++◌, length, slice_get, Some, Ok, arith, refl, sym, subst, ap, ◌∙◌, length-append, add-one}
use Rattle.std.proofs.lemmas.Bool.{false≢true}
use Rattle.bqn_base.specs.declared.place.Place.{Place}
use Rattle.bqn_syntax.specs.declared.token.Token.{Token}
use Rattle.bqn_syntax.specs.declared.tree.Class.{Class}
use Rattle.bqn_syntax.specs.grammar.Trees.{BodyTree, body, BlockTree, block, Bodies, no_bodies, and_bodies}
use Rattle.bqn_syntax.specs.blocks.Counting.{how_many}
use Rattle.bqn_syntax.specs.blocks.Blocks.{and_plain, plain_in}
use Rattle.bqn_syntax.specs.blocks.Exporting.{stmts_export}
use Rattle.bqn_syntax.specs.scope.Order.{How, order_of}
use Rattle.bqn_syntax.specs.scope.Mentions.{Inner, Mentions, no_mentions, and_mentions, header_mentions, stmts_mentions, scopes_of, block_mention}
use Rattle.bqn_syntax.specs.scope.Scope.{Scope, Use, names_of, block_scope, has, uses_of, uses_inside}
use Rattle.bqn_syntax.specs.scope.Bodies.{BodyNames, body_names, exports_of, of_block, inside, inside_block}
use Rattle.bqn_code.specs.declared.instr.Instr.{Instr}
use Rattle.bqn_compile.specs.declared.count.Count.{Count}
use Rattle.bqn_compile.specs.Counting.{past, one_block, in_header, in_body, in_bodies, in_block}
use Rattle.bqn_compile.specs.Gathering.{Gathered, the_most, if_room, opens, block_opened, bodies, body_tree, block_tree}
use Rattle.bqn_compile.specs.Bodies.{header_code, stmts_code}
use Rattle.bqn_compile.proofs.verified.bodies.EveryBody.{EveryBodyOf, EveryInBody, EveryInBodies, EveryInBlock}
use Rattle.bqn_compile.proofs.verified.slots.Fronts.{Front, front_same, front_trans, front_at, at_back}
use Rattle.bqn_compile.proofs.verified.slots.Seeing.{ok_same, split_uses, uses_front, uses_inside_front, inside_front, inside_block_front, Defined, defined_all}
use Rattle.bqn_compile.proofs.verified.slots.Walking.{none_more, some_more, split, Grown, grown_same, grown_trans, Kept, kept_grown, room_kept, Made, Passes, Here, State, Stands, Pooled, Walked, Walk}
use Rattle.bqn_compile.proofs.verified.slots.NameWalks.{uses}
use Rattle.bqn_compile.proofs.verified.slots.HeaderWalks.{made}

abbrev pub body_mentions : BodyTree → Mentions → Mentions
body_mentions (body h ss) k = header_mentions h (stmts_mentions ss k)

abbrev pub own_mentions : BodyTree → Mentions
own_mentions x = body_mentions x no_mentions

abbrev pub own_order : BodyTree → List (How × Token)
own_order (body h ss) = order_of h ss

abbrev pub own_scope : BodyTree → Scope
own_scope x = block_scope (own_mentions x) (own_order x)

module _ (o : Made) where
  abbrev pub code_in : Count → BodyTree → List Instr
  code_in c (body h ss) = header_code (uses o) c h ++ stmts_code (made o) (stmts_export ss) (past c (in_header h)) ss

  -- the names of a body with this number, which stands in the body with that number; its code finds its slots
  pub record Good (n k : ℕ) (c : Count) (x : BodyTree) : Type 0 where
    pub names : BodyNames
    pub there : slice_get o.resolved.bodies k ≡ Some names
    pub parent : 0 < k → names.parent ≡ n
    pub exported : names.exports ≡ exports_of names.slots (own_mentions x) []
    pub pooled : Pooled o (own_mentions x)
    pub passes : Passes o k (code_in c x)

  abbrev pub Holds : Class → (block inside number plain before : ℕ) → Count → BodyTree → Type 0
  Holds kind b n k plain before c x = Good n k c x

  abbrev pub BodyFacts : Here o → BodyTree → Count → Type 0
  BodyFacts h x c = Passes o h.number (code_in c x) × EveryInBody Holds h.number x c

  abbrev pub BodyWalk : Here o → BodyTree → Type 0
  BodyWalk h x = Walk o h (body_tree the_most (uses o) x) (λ ms. body_mentions x ms) (in_body x) (BodyFacts h x)

  -- ---- one body

  -- the names that follow one another from this number on
  abbrev pub FromOn : ℕ → List BodyNames → Type 0
  FromOn k xs = (j : ℕ) (x : BodyNames) → slice_get xs j ≡ Some x → slice_get o.resolved.bodies (k + j) ≡ Some x

  pub record InBlock (own : Scope) (outer : List Scope) (n k : ℕ) (bs : Bodies) (after : List Use) (last : List BodyNames) (c : Count) (g : Gathered) : Type 0 where
    pub before : List Use
    pub resolves : uses_inside (own ∷ outer) (scopes_of bs) before ≡ Ok after
    pub uses : length before ≡ c.uses
    pub found : List BodyNames
    pub numbers : inside_block k (scopes_of bs) found ≡ last
    pub bodies : length found ≡ c.bodies
    pub some : 0 < c.bodies
    pub first : 0 < k
    pub names : FromOn k (of_block n (scopes_of bs))
    pub patterns : length g.patterns ≡ c.patterns
    pub gathered : g.uses ≡ c.uses

  pub record OutBlock (kind : Class) (b n plain before k : ℕ) (bs : Bodies) (after : List Use) (last : List BodyNames) (c : Count) (g g' : Gathered) : Type 0 where
    pub uses : length after ≡ c.uses + (in_bodies bs).uses
    pub bodies : length last ≡ c.bodies + (in_bodies bs).bodies
    pub patterns : length g'.patterns ≡ c.patterns + (in_bodies bs).patterns
    pub gathered : g'.uses ≡ c.uses + (in_bodies bs).uses
    pub grows : Grown g g'
    pub facts : Grown g' o.pools → EveryBodyOf Holds kind b n plain before k c bs × EveryInBodies Holds k bs c

  abbrev pub BodiesWalk : Bodies → Type 0
  BodiesWalk bs = (own : Scope) (outer : List Scope) (n : ℕ) → Stands o own outer n → (kind : Class) (b plain before k : ℕ) (after : List Use) (last : List BodyNames) → Front after (uses o) → Front last o.resolved.bodies →
      (c : Count) (g g' : Gathered) → InBlock own outer n k bs after last c g → bodies the_most (uses o) bs g ≡ Ok g' → OutBlock kind b n plain before k bs after last c g g'

  pub no_more_bodies : BodiesWalk no_bodies
  no_more_bodies own outer n st kind b plain before k after last fa fl c g g' s e = record {
    uses = none_more (length after) c.uses (sym (ap (λ (l : List Use). length l) (ok_same s.resolves)) ∙ s.uses);
    bodies = none_more (length last) c.bodies (sym (ap (λ (l : List BodyNames). length l) s.numbers) ∙ s.bodies);
    patterns = none_more (length g'.patterns) c.patterns (sym (ap (λ (z : Gathered). length z.patterns) (ok_same e)) ∙ s.patterns);
    gathered = none_more g'.uses c.uses (sym (ap (λ (z : Gathered). z.uses) (ok_same e)) ∙ s.gathered);
    grows = subst (λ z. Grown g z) (ok_same e) (grown_same g);
    facts = λ p. (tt, tt);
  }

  -- names and mentions of one body
  abbrev names_at : ℕ → BodyTree → BodyNames
  names_at n x = body_names n (own_scope x) (own_mentions x)

  own_defined : (x : BodyTree) → Defined (names_of (own_scope x)) (own_mentions x)
  own_defined x = defined_all (names_of (own_scope x)) [] (own_mentions x) (λ name e. absurd (no_name name e)) (λ name e. e)
    where
      no_name : (name : List ℕ) → has [] name ≡ true → ⊥
      no_name name e = false≢true e

  shift : (k j : ℕ) → k + suc j ≡ (k + 1) + j
  shift k j = omega arith

  here_at : (k : ℕ) → k + 0 ≡ k
  here_at k = omega arith

  behind : (n a b d : ℕ) → n ≡ (a + b) + d → n ≡ a + (b + d)
  behind n a b d h = omega arith

  later : (k : ℕ) → 0 < k → 0 < k + 1
  later k h = omega arith

  -- the uses of the first body, and then those of the others
  bodies_split : (own : Scope) (outer : List Scope) (x : BodyTree) (bs : Bodies) (before after : List Use) → uses_inside (own ∷ outer) (scopes_of (and_bodies x bs)) before ≡ Ok after →
      (mid : List Use) × (uses_of (own_scope x ∷ own ∷ outer) (own_mentions x) before ≡ Ok mid) × (uses_inside (own ∷ outer) (scopes_of bs) mid ≡ Ok after)
  bodies_split own outer (body h ss) bs before after e = split_uses (uses_of (own_scope (body h ss) ∷ own ∷ outer) (own_mentions (body h ss)) before) (uses_inside (own ∷ outer) (scopes_of bs)) after e

  numbers_split : (k : ℕ) (x : BodyTree) (bs : Bodies) (found : List BodyNames) → inside_block k (scopes_of (and_bodies x bs)) found ≡ inside_block (k + 1) (scopes_of bs) (inside k (own_mentions x) found)
  numbers_split k (body h ss) bs found = refl

  names_split : (n : ℕ) (x : BodyTree) (bs : Bodies) → of_block n (scopes_of (and_bodies x bs)) ≡ names_at n x ∷ of_block n (scopes_of bs)
  names_split n (body h ss) bs = refl

  pub more_bodies : (x : BodyTree) (bs : Bodies) → ((h : Here o) → BodyWalk h x) → BodiesWalk bs → BodiesWalk (and_bodies x bs)
  more_bodies x bs one others own outer n st kind b plain before k after last fa fl c g g' s e =
      let u : (mid : List Use) × (uses_of (own_scope x ∷ own ∷ outer) (own_mentions x) s.before ≡ Ok mid) × (uses_inside (own ∷ outer) (scopes_of bs) mid ≡ Ok after) = bodies_split own outer x bs s.before after s.resolves in
      let q : (mid : Gathered) × (body_tree the_most (uses o) x g ≡ Ok mid) × (bodies the_most (uses o) bs mid ≡ Ok g') = split (body_tree the_most (uses o) x g) (bodies the_most (uses o) bs) g' e in
      let found : List BodyNames = inside k (own_mentions x) s.found in
      let numbers : inside_block (k + 1) (scopes_of bs) found ≡ last = sym (numbers_split k x bs s.found) ∙ s.numbers in
      let all : FromOn k (names_at n x ∷ of_block n (scopes_of bs)) = subst (λ l. FromOn k l) (names_split n x bs) s.names in
      let there : slice_get o.resolved.bodies k ≡ Some (names_at n x) = subst (λ j. slice_get o.resolved.bodies j ≡ Some (names_at n x)) (here_at k) (all 0 (names_at n x) refl) in
      let here : Here o = record {
        own = own_scope x;
        outer = own ∷ outer;
        number = k;
        after = u.0;
        last = found;
        uses_stay = front_trans (uses_inside_front (own ∷ outer) (scopes_of bs) u.0 after u.2) fa;
        bodies_stay = front_trans (subst (λ l. Front found l) numbers (inside_block_front (k + 1) (scopes_of bs) found)) fl;
        stands = (record { names = names_at n x; there = there; same = refl }, s.first, st);
      } in
      let state : State o here (own_mentions x) c g = record { before = s.before; resolves = u.1; uses = s.uses; found = s.found; numbers = refl; bodies = s.bodies; some = s.some; patterns = s.patterns; gathered = s.gathered; defined = own_defined x } in
      let y : Walked o here (own_mentions x) no_mentions (past c (in_body x)) g q.0 (BodyFacts here x c) = (one here).run no_mentions c g q.0 state q.1 in
      let z : State o here no_mentions (past c (in_body x)) q.0 = y.state in
      let rest : OutBlock kind b n plain (and_plain x before) (k + 1) bs after last (past c (in_body x)) q.0 g' =
      others own outer n st kind b plain (and_plain x before) (k + 1) after last fa fl (past c (in_body x)) q.0 g' (record {
        before = u.0;
        resolves = u.2;
        uses = sym (ap (λ (l : List Use). length l) (ok_same z.resolves)) ∙ z.uses;
        found = found;
        numbers = numbers;
        bodies = sym (ap (λ (l : List BodyNames). length l) z.numbers) ∙ z.bodies;
        some = z.some;
        first = later k s.first;
        names = λ j v e. subst (λ i. slice_get o.resolved.bodies i ≡ Some v) (shift k j) (all (suc j) v e);
        patterns = z.patterns;
        gathered = z.gathered;
      }) q.2 in
      record {
        uses = behind (length after) c.uses (in_body x).uses (in_bodies bs).uses rest.uses;
        bodies = behind (length last) c.bodies (in_body x).bodies (in_bodies bs).bodies rest.bodies;
        patterns = behind (length g'.patterns) c.patterns (in_body x).patterns (in_bodies bs).patterns rest.patterns;
        gathered = behind g'.uses c.uses (in_body x).uses (in_bodies bs).uses rest.gathered;
        grows = grown_trans y.grows rest.grows;
        facts = λ p.
            let now : BodyFacts here x c = y.facts (grown_trans rest.grows p) in
            let later : EveryBodyOf Holds kind b n plain (and_plain x before) (k + 1) (past c (in_body x)) bs × EveryInBodies Holds (k + 1) bs (past c (in_body x)) = rest.facts p in
            let good : Good n k c x = record { names = names_at n x; there = there; parent = λ i. refl; exported = refl; pooled = y.pooled (grown_trans rest.grows p) tt; passes = now.0 } in (
              (good, subst (λ i. EveryBodyOf Holds kind b n plain (and_plain x before) i (past c (in_body x)) bs) (add-one k) later.0),
              (now.1, subst (λ i. EveryInBodies Holds i bs (past c (in_body x))) (add-one k) later.1),
            );
      }

  -- ---- one block

  abbrev pub BlockFacts : Here o → BlockTree → Count → Type 0
  BlockFacts h b c = EveryInBlock Holds h.number b c

  opens_kept : (place : Place) (g g' : Gathered) → opens the_most place g ≡ Ok g' → Kept g g'
  opens_kept place g g' e =
      let s : (mid : Gathered) × (if_room _ place g ≡ Ok mid) × (block_opened mid ≡ Ok g') = split (if_room _ place g) block_opened g' e in
      subst (λ (z : Gathered). Kept g z) (ok_same s.2) (subst (λ (z : Gathered). Kept g (record z { blocks = suc z.blocks })) (room_kept _ place g s.0 s.1) (record { uses = refl; patterns = refl; names = front_same g.names }))

  many_names : (n : ℕ) (bs : Bodies) → length (of_block n (scopes_of bs)) ≡ how_many bs
  many_names n no_bodies = refl
  many_names n (and_bodies (body h ss) bs) = ap suc (many_names n bs)

  added : (n m a b : ℕ) → n ≡ m + b → m ≡ a → n ≡ a + b
  added n m a b h k = omega arith

  pub block_case : (h : Here o) (place : Place) (kind : Class) (bs : Bodies) → BodiesWalk bs → Walk o h (block_tree the_most (uses o) (block place kind bs)) (λ ms. block_mention (block place kind bs) ms) (in_block (block place kind bs)) (BlockFacts h (block place kind bs))
  block_case h place kind bs inner = record { run = go }
    where
      go : (k : Mentions) (c : Count) (g g' : Gathered) → State o h (and_mentions (Inner (scopes_of bs)) k) c g → block_tree the_most (uses o) (block place kind bs) g ≡ Ok g' → Walked o h (and_mentions (Inner (scopes_of bs)) k) k (past c (in_block (block place kind bs))) g g' (BlockFacts h (block place kind bs) c)
      go k c g g' st e =
          let s : (mid : Gathered) × (opens the_most place g ≡ Ok mid) × (bodies the_most (uses o) bs mid ≡ Ok g') = split (opens the_most place g) (bodies the_most (uses o) bs) g' e in
          let kept : Kept g s.0 = opens_kept place g s.0 s.1 in
          let u : (mid : List Use) × (uses_inside (h.own ∷ h.outer) (scopes_of bs) st.before ≡ Ok mid) × (uses_of (h.own ∷ h.outer) k mid ≡ Ok h.after) = split_uses (uses_inside (h.own ∷ h.outer) (scopes_of bs) st.before) (uses_of (h.own ∷ h.outer) k) h.after st.resolves in
          let new : List BodyNames = of_block h.number (scopes_of bs) in
          let found : List BodyNames = st.found ++ new in
          let last : List BodyNames = inside_block (length st.found) (scopes_of bs) found in
          let stay : Front last o.resolved.bodies = front_trans (subst (λ l. Front last l) st.numbers (inside_front h.number k last)) h.bodies_stay in
          let out : OutBlock kind c.blocks h.number (plain_in bs) 0 c.bodies bs u.0 last (past c (one_block (how_many bs))) s.0 g' =
          inner h.own h.outer h.number h.stands kind c.blocks (plain_in bs) 0 c.bodies u.0 last (front_trans (uses_front (h.own ∷ h.outer) k u.0 h.after u.2) h.uses_stay) stay (past c (one_block (how_many bs))) s.0 g' (record {
            before = st.before;
            resolves = u.1;
            uses = none_more (length st.before) c.uses st.uses;
            found = found;
            numbers = ap (λ n. inside_block n (scopes_of bs) found) (sym st.bodies);
            bodies = added (length found) (length st.found) c.bodies (how_many bs) (length-append st.found new ∙ ap (λ (n : ℕ). length st.found + n) (many_names h.number bs)) st.bodies;
            some = some_more c.bodies (how_many bs) st.some;
            first = st.some;
            names = λ j v q. front_at (c.bodies + j) v (front_trans (inside_block_front (length st.found) (scopes_of bs) found) stay) (subst (λ (n : ℕ). slice_get found (n + j) ≡ Some v) st.bodies (at_back st.found new j v q));
            patterns = none_more (length s.0.patterns) c.patterns (ap (λ l. length l) kept.patterns ∙ st.patterns);
            gathered = none_more s.0.uses c.uses (kept.uses ∙ st.gathered);
          }) s.2 in
          record {
            state = record {
              before = u.0;
              resolves = u.2;
              uses = behind (length u.0) c.uses 0 (in_bodies bs).uses out.uses;
              found = last;
              numbers = st.numbers;
              bodies = behind (length last) c.bodies (how_many bs) (in_bodies bs).bodies out.bodies;
              some = some_more c.bodies (how_many bs + (in_bodies bs).bodies) st.some;
              patterns = behind (length g'.patterns) c.patterns 0 (in_bodies bs).patterns out.patterns;
              gathered = behind g'.uses c.uses 0 (in_bodies bs).uses out.gathered;
              defined = st.defined;
            };
            grows = grown_trans (kept_grown kept) out.grows;
            pooled = λ p z. z;
            facts = λ p. out.facts p;
          }
