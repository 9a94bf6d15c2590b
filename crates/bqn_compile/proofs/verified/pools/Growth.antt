-- The pools only grow, by appending, and so many uses, patterns and blocks are met as are counted.
use Rattle.std.proofs.Common.{◌≡◌, nat_lt, ◌+◌, ℕ, suc, Bool, true, false, List, [], ◌∷◌, ◌++◌, length, Option, Some, None, Result, Ok, Err, arith, refl, sym, ap, ◌∙◌, subst, append_assoc}
use Rattle.std.proofs.lemmas.List.{append-nil, length-append}
use Rattle.bqn_base.specs.declared.place.Place.{Place}
use Rattle.bqn_base.specs.declared.refusal.Refusal.{Refusal}
use Rattle.bqn_syntax.specs.declared.token.Kind.{Kind}
use Rattle.bqn_syntax.specs.declared.token.Kind.TheVariants as kind
use Rattle.bqn_syntax.specs.declared.token.Token.{Token}
use Rattle.bqn_syntax.specs.grammar.Trees.{Pattern, Name, Skip, Literal, ListPattern, StrandPattern, Patterns, no_patterns, and_patterns}
use Rattle.bqn_syntax.specs.grammar.Well.{IsLiteral, WellPattern, WellPatterns, WellJoined}
use Rattle.bqn_syntax.specs.scope.Order.{How}
use Rattle.bqn_syntax.specs.scope.Scope as scope
use Rattle.bqn_syntax.specs.scope.Scope.{has, defines, name_of}
use Rattle.bqn_syntax.specs.scope.Bodies.{exports_it}
use Rattle.bqn_code.specs.declared.constant.Const.{Const}
use Rattle.bqn_code.specs.Plain as code
use Rattle.bqn_compile.specs.declared.count.Count.{Count}
use Rattle.bqn_compile.specs.Counting.{nothing, past, one_use, one_pattern, one_block, in_kind, in_leaves, in_all_leaves, in_pattern}
use Rattle.bqn_compile.specs.Pools.{constant_of, place_among, seen_at}
use Rattle.bqn_compile.specs.Gathering as gather
use Rattle.bqn_compile.specs.Gathering.{Gathered, Gathers, Most, done, and_on, ◌▹◌, if_room}
use Rattle.bqn_compile.proofs.Counts.{past-swap}
use Rattle.bqn_compile.proofs.verified.pools.Items.{Item, Alone, Fields, Taken, Opened, Shown, WellItem, EveryItem, item_count, items_count, item_gathering, items_gathering}

-- ---- lists that grow

pub record Begins {A : Type 0} (old new : List A) : Type 0 where
  pub rest : List A
  pub are : new ≡ old ++ rest

pub begins_same : {A : Type 0} (xs : List A) → Begins xs xs
begins_same xs = record { rest = []; are = sym (append-nil xs) }

pub begins_more : {A : Type 0} (xs more : List A) → Begins xs (xs ++ more)
begins_more xs more = record { rest = more; are = refl }

pub begins_through : {A : Type 0} (xs ys zs : List A) → Begins xs ys → Begins ys zs → Begins xs zs
begins_through xs ys zs a b = record { rest = a.rest ++ b.rest; are = b.are ∙ ap (λ (l : List _). l ++ b.rest) a.are ∙ append_assoc xs a.rest b.rest }

-- ---- what one step does

pub record Grows (c : Count) (g h : Gathered) : Type 0 where
  pub constants : Begins g.constants h.constants
  pub names : Begins g.names h.names
  pub patterns : Begins g.patterns h.patterns
  pub many_patterns : length h.patterns ≡ length g.patterns + c.patterns
  pub uses : h.uses ≡ g.uses + c.uses
  pub blocks : h.blocks ≡ g.blocks + c.blocks

abbrev pub GrowsBy : Count → Gathers → Type 0
GrowsBy c f = (g h : Gathered) → f g ≡ Ok h → Grows c g h

pub ok_same : (g h : Gathered) → Path (Result Gathered Refusal) (Ok g) (Ok h) → g ≡ h
ok_same g h e = ap (λ (r : Result Gathered Refusal). elim r [ Ok x ↦ x | Err r ↦ g ]) e

-- the pools in between
pub record Between (o : Result Gathered Refusal) (f : Gathers) (h : Gathered) : Type 0 where
  pub middle : Gathered
  pub first : o ≡ Ok middle
  pub second : f middle ≡ Ok h

pub between : (o : Result Gathered Refusal) (f : Gathers) (h : Gathered) → and_on o f ≡ Ok h → Between o f h
between (Ok g) f h e = record { middle = g; first = refl; second = e }
between (Err r) f h e = absurd (cc)

pub room_same : (b : Bool) (place : Place) (g h : Gathered) → if_room b place g ≡ Ok h → g ≡ h
room_same true place g h e = ok_same _ _ e
room_same false place g h e = absurd (cc)

grows_nothing : (g : Gathered) → Grows nothing g g
grows_nothing g = record {
  constants = begins_same g.constants;
  names = begins_same g.names;
  patterns = begins_same g.patterns;
  many_patterns = omega arith;
  uses = omega arith;
  blocks = omega arith;
}

grows_through : (c d : Count) (g h k : Gathered) → Grows c g h → Grows d h k → Grows (past c d) g k
grows_through c d g h k a b = record {
  constants = begins_through g.constants h.constants k.constants a.constants b.constants;
  names = begins_through g.names h.names k.names a.names b.names;
  patterns = begins_through g.patterns h.patterns k.patterns a.patterns b.patterns;
  many_patterns = omega (arith, a.many_patterns, b.many_patterns);
  uses = omega (arith, a.uses, b.uses);
  blocks = omega (arith, a.blocks, b.blocks);
}

-- to this, where nothing is met
grows_to : (g h k : Gathered) → h ≡ k → Grows nothing g h → Grows nothing g k
grows_to g h k e a = subst (λ (k : Gathered). Grows nothing g k) e a

done_grows : GrowsBy nothing done
done_grows g h e = grows_to g g h (ok_same _ _ e) (grows_nothing g)

pub both_grow : (c d : Count) (f k : Gathers) → GrowsBy c f → GrowsBy d k → GrowsBy (past c d) (f ▹ k)
both_grow c d f k a b g h e = let o = between (f g) k h e in grows_through c d g o.middle h (a g o.middle o.first) (b o.middle h o.second)

-- ---- constants and names

abbrev with_constant : Const → Gathered → Gathered
with_constant c g = record g { constants = g.constants ++ c ∷ [] }

abbrev with_name : List ℕ → Gathered → Gathered
with_name name g = record g { names = g.names ++ name ∷ [] }

abbrev with_pattern : code.Pattern → Gathered → Gathered
with_pattern p g = record g { patterns = g.patterns ++ p ∷ [] }

abbrev with_use : Gathered → Gathered
with_use g = record g { uses = suc g.uses }

abbrev with_block : Gathered → Gathered
with_block g = record g { blocks = suc g.blocks }

constant_added : (c : Const) (g : Gathered) → Grows nothing g (with_constant c g)
constant_added c g = record {
  constants = begins_more g.constants (c ∷ []);
  names = begins_same g.names;
  patterns = begins_same g.patterns;
  many_patterns = omega arith;
  uses = omega arith;
  blocks = omega arith;
}

name_added : (name : List ℕ) (g : Gathered) → Grows nothing g (with_name name g)
name_added name g = record {
  constants = begins_same g.constants;
  names = begins_more g.names (name ∷ []);
  patterns = begins_same g.patterns;
  many_patterns = omega arith;
  uses = omega arith;
  blocks = omega arith;
}

pattern_added : (p : code.Pattern) (g : Gathered) → Grows one_pattern g (with_pattern p g)
pattern_added p g = record {
  constants = begins_same g.constants;
  names = begins_same g.names;
  patterns = begins_more g.patterns (p ∷ []);
  many_patterns = length-append g.patterns (p ∷ []);
  uses = omega arith;
  blocks = omega arith;
}

use_added : (g : Gathered) → Grows one_use g (with_use g)
use_added g = record {
  constants = begins_same g.constants;
  names = begins_same g.names;
  patterns = begins_same g.patterns;
  many_patterns = omega arith;
  uses = omega arith;
  blocks = omega arith;
}

block_added : (n : ℕ) (g : Gathered) → Grows (one_block n) g (with_block g)
block_added n g = record {
  constants = begins_same g.constants;
  names = begins_same g.names;
  patterns = begins_same g.patterns;
  many_patterns = omega arith;
  uses = omega arith;
  blocks = omega arith;
}

-- ---- constants and names

-- where there is room, this is made of the pools
pub roomed : (b : Bool) (place : Place) (f : Gathered → Gathered) (g h : Gathered) → and_on (if_room b place g) (λ (g : Gathered). Ok (f g)) ≡ Ok h → f g ≡ h
roomed b place f g h e =
    let o = between (if_room b place g) (λ (g : Gathered). Ok (f g)) h e in
    ap (λ (g : Gathered). f g) (room_same b place g o.middle o.first) ∙ ok_same (f o.middle) h o.second

constant_grows : (m : Most) (o : Option Const) (place : Place) → GrowsBy nothing (gather.constant m o place)
constant_grows m None place g h e = done_grows g h e
constant_grows m (Some c) place g h e = added (place_among g.constants c) e
  where
    added : (n : Option ℕ) → gather.add_constant m c place n g ≡ Ok h → Grows nothing g h
    added (Some n) e = done_grows g h e
    added None e = grows_to g (with_constant c g) h (roomed _ place (with_constant c) g h e) (constant_added c g)

pub pooled_grows : (name : List ℕ) → GrowsBy nothing (gather.pooled name)
pooled_grows name g h e = added (has g.names name) e
  where
    added : (b : Bool) → gather.add_name b name g ≡ Ok h → Grows nothing g h
    added true e = done_grows g h e
    added false e = grows_to g (with_name name g) h (ok_same (with_name name g) h e) (name_added name g)

pooled_if_grows : (b : Bool) (name : List ℕ) → GrowsBy nothing (gather.pooled_if b name)
pooled_if_grows true name = pooled_grows name
pooled_if_grows false name = done_grows

refers_grows : (m : Most) (uses : List scope.Use) (defining : Bool) (place : Place) → GrowsBy one_use (gather.refers m uses defining place)
refers_grows m uses defining place g h e = grows_to_one (roomed (gather.room_for m defining (seen_at uses g.uses).slot) place with_use g h e)
  where
    grows_to_one : with_use g ≡ h → Grows one_use g h
    grows_to_one e = subst (λ (h : Gathered). Grows one_use g h) e (use_added g)

leaf_grows : (m : Most) (uses : List scope.Use) (how : How) (k : Kind) (place : Place) → GrowsBy (in_kind k) (gather.leaf m uses how k place)
leaf_grows m uses how (kind.Word name r) place = both_grow one_use nothing (gather.refers m uses (defines how) place) (gather.pooled_if (exports_it how) name) (refers_grows m uses (defines how) place) (pooled_if_grows (exports_it how) name)
leaf_grows m uses how k place = constant_grows m (constant_of k) place

pattern_leaf_grows : (m : Most) (uses : List scope.Use) (how : How) (k : Kind) (place : Place) → GrowsBy (in_kind k) (gather.pattern_leaf m uses how k place)
pattern_leaf_grows m uses how (kind.Word name r) place = both_grow one_use nothing (gather.refers m uses (defines how) place) (gather.pooled name) (refers_grows m uses (defines how) place) (pooled_grows name)
pattern_leaf_grows m uses how k place = constant_grows m (constant_of k) place

pub fields_grow : (ts : List Token) → GrowsBy nothing (gather.fields ts)
fields_grow [] = done_grows
fields_grow (t ∷ ts) = both_grow nothing nothing (gather.pooled (name_of t)) (gather.fields ts) (pooled_grows (name_of t)) (fields_grow ts)

mutual
  pub exported_grows : (q : Pattern) → GrowsBy nothing (gather.exported q)
  exported_grows (Name t) = pooled_grows (name_of t)
  exported_grows (Skip place) = done_grows
  exported_grows (Literal t) = done_grows
  exported_grows (ListPattern qs) = all_exported_grow qs
  exported_grows (StrandPattern qs) = all_exported_grow qs

  pub all_exported_grow : (qs : Patterns) → GrowsBy nothing (gather.all_exported qs)
  all_exported_grow no_patterns = done_grows
  all_exported_grow (and_patterns q qs) = both_grow nothing nothing (gather.exported q) (gather.all_exported qs) (exported_grows q) (all_exported_grow qs)

-- ---- patterns

kind_is_uses : (k : Kind) → in_kind k ≡ record { uses = (in_kind k).uses; blocks = 0; bodies = 0; patterns = 0 }
kind_is_uses (kind.Word name r) = refl
kind_is_uses k = refl

mutual
  -- names alone count in the leaves
  pub leaves_are_uses : (q : Pattern) → in_leaves q ≡ record { uses = (in_leaves q).uses; blocks = 0; bodies = 0; patterns = 0 }
  leaves_are_uses (Name t) = kind_is_uses t.kind
  leaves_are_uses (Skip place) = refl
  leaves_are_uses (Literal t) = refl
  leaves_are_uses (ListPattern qs) = all_leaves_are_uses qs
  leaves_are_uses (StrandPattern qs) = all_leaves_are_uses qs

  all_leaves_are_uses : (qs : Patterns) → in_all_leaves qs ≡ record { uses = (in_all_leaves qs).uses; blocks = 0; bodies = 0; patterns = 0 }
  all_leaves_are_uses no_patterns = refl
  all_leaves_are_uses (and_patterns q qs) = ap (λ (c : Count). past c (in_all_leaves qs)) (leaves_are_uses q) ∙ ap (λ (c : Count). past (record { uses = (in_leaves q).uses; blocks = 0; bodies = 0; patterns = 0 }) c) (all_leaves_are_uses qs)

literal_grows : (m : Most) (uses : List scope.Use) (how : How) (k : Kind) (place : Place) → IsLiteral k → GrowsBy nothing (gather.pattern_leaf m uses how k place)
literal_grows m uses how (kind.Word name r) place w = elim w [ ]
literal_grows m uses how k place w = constant_grows m (constant_of k) place

module _ (m : Most) (uses : List scope.Use) where
  mutual
    pub leaves_grow : (l : Bool) (how : How) (q : Pattern) → WellPattern l q → GrowsBy (in_leaves q) (gather.leaves m uses how q)
    leaves_grow l how (Name t) w = pattern_leaf_grows m uses how t.kind t.place
    leaves_grow l how (Skip place) w = done_grows
    leaves_grow l how (Literal t) w = literal_grows m uses how t.kind t.place w.1
    leaves_grow l how (ListPattern qs) w = all_leaves_grow l how qs w
    leaves_grow l how (StrandPattern qs) w = joined_leaves_grow l how qs w.1

    pub all_leaves_grow : (l : Bool) (how : How) (qs : Patterns) → WellPatterns l qs → GrowsBy (in_all_leaves qs) (gather.all_leaves m uses how qs)
    all_leaves_grow l how no_patterns w = done_grows
    all_leaves_grow l how (and_patterns q qs) w = both_grow (in_leaves q) (in_all_leaves qs) (gather.leaves m uses how q) (gather.all_leaves m uses how qs) (leaves_grow l how q w.0) (all_leaves_grow l how qs w.1)

    pub joined_leaves_grow : (l : Bool) (how : How) (qs : Patterns) → WellJoined l qs → GrowsBy (in_all_leaves qs) (gather.all_leaves m uses how qs)
    joined_leaves_grow l how no_patterns w = done_grows
    joined_leaves_grow l how (and_patterns q qs) w = both_grow (in_leaves q) (in_all_leaves qs) (gather.leaves m uses how q) (gather.all_leaves m uses how qs) (leaves_grow l how q w.1) (joined_leaves_grow l how qs w.2)

  with_pattern_grows : (how : How) (q : Pattern) (k : ℕ) → GrowsBy one_pattern (gather.with_pattern uses how q k)
  with_pattern_grows how q k g h e = subst (λ (h : Gathered). Grows one_pattern g h) (ok_same _ h e) (pattern_added _ g)

  pattern_grows : (l : Bool) (how : How) (q : Pattern) → WellPattern l q → GrowsBy (in_pattern q) (gather.pattern m uses how q)
  pattern_grows l how q w g h e =
      let o = between (gather.leaves m uses how q g) (gather.with_pattern uses how q g.uses) h e in
      subst (λ (c : Count). Grows c g h) (past-swap (in_leaves q) one_pattern)
      (grows_through (in_leaves q) one_pattern g o.middle h (leaves_grow l how q w g o.middle o.first) (with_pattern_grows how q g.uses o.middle h o.second))

  opens_grows : (place : Place) (n : ℕ) → GrowsBy (one_block n) (gather.opens m place)
  opens_grows place n g h e = subst (λ (h : Gathered). Grows (one_block n) g h) (roomed (nat_lt g.blocks (suc m.blocks)) place with_block g h e) (block_added n g)

  pub item_grows : (x : Item) → WellItem x → GrowsBy (item_count x) (item_gathering m uses x)
  item_grows (Alone how t) w = leaf_grows m uses how t.kind t.place
  item_grows (Fields ts) w = fields_grow ts
  item_grows (Taken l how q) w = pattern_grows l how q w.pattern
  item_grows (Opened place n) w = opens_grows place n
  item_grows (Shown q) w = exported_grows q

  pub all_grow : (xs : List Item) → EveryItem WellItem xs → GrowsBy (items_count xs) (items_gathering m uses xs)
  all_grow [] w = done_grows
  all_grow (x ∷ xs) w = both_grow (item_count x) (items_count xs) (item_gathering m uses x) (items_gathering m uses xs) (item_grows x w.0) (all_grow xs w.1)
