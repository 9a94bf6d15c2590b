-- One more line: its code is known behind the codes before it, and it fits, but for its exports.
use Rattle.std.proofs.Common.{◌≡◌, ℕ, zero, suc, ◌+◌, List, [], ◌∷◌, ◌++◌, length, map, slice_get, Option, Some, None, Ok, arith, refl, sym, subst, ap, ◌∙◌, append-nil}
use Rattle.std.proofs.lemmas.Option.{none-some, slice_get_within}
use Rattle.bqn_rows.specs.Plain.{Value}
use Rattle.bqn_syntax.specs.declared.token.Token.{Token}
use Rattle.bqn_syntax.specs.grammar.Trees.{Stmts, body}
use Rattle.bqn_syntax.specs.grammar.Classes.{Both}
use Rattle.bqn_syntax.specs.scope.Mentions.{Mentions, no_mentions, stmts_mentions}
use Rattle.bqn_syntax.specs.scope.Scope.{Scope, name_of, names_of, definitions}
use Rattle.bqn_syntax.specs.blocks.Blocks as source
use Rattle.bqn_syntax.specs.blocks.Blocks.{Earlier, all_bodies, further, behind as behind_lines, line_scope, line_body, scopes_of}
use Rattle.bqn_syntax.specs.scope.Bodies.{BodyNames, Resolution, body_names, inside}
use Rattle.bqn_meaning.specs.Frames.{Setting}
use Rattle.bqn_meaning.specs.Sessions.{names_before, line_setting}
use Rattle.bqn_code.specs.declared.code.Body.{Body}
use Rattle.bqn_code.specs.declared.code.Block.{Block}
use Rattle.bqn_code.specs.Plain.{Code}
use Rattle.bqn_code.specs.Numbering as numbering
use Rattle.bqn_code.specs.Numbering.{Placed, BlockAt, BodyAt, Table, placed_blocks, placed_body, placed_bodies, with_code}
use Rattle.bqn_execution.specs.Programs as p
use Rattle.bqn_compile.specs.Gathering.{Gathered, the_most, gathered}
use Rattle.bqn_compile.specs.Bodies.{names_in, body_code, exports_code}
use Rattle.bqn_compile.specs.Blocks.{stmts_blocks}
use Rattle.bqn_compile.specs.Sources.{FromSource}
use Rattle.bqn_compile.specs.Translation.{at_start, setting, program, translation}
use Rattle.bqn_compile.proofs.Counts.{past-nothing}
use Rattle.bqn_simulation.proofs.standing.PlacedCodes.{placed_is}
use Rattle.bqn_compile.proofs.verified.slots.Fronts.{front_same, front_more, front_at, at_back, some_same}
use Rattle.bqn_compile.proofs.verified.blocks.BlockCounts.{stmts_counts}
use Rattle.bqn_compile.proofs.verified.slots.Seeing.{inside_front}
use Rattle.bqn_compile.proofs.verified.pools.Items.{EachItem, stmts_items}
use Rattle.bqn_simulation.proofs.running.Variables.{Distinct}
use Rattle.bqn_simulation.proofs.standing.Named as named
use Rattle.bqn_simulation.proofs.standing.MentionedBodies.{stmts_many}
use Rattle.bqn_simulation.proofs.standing.Tells.{ItemPooled}
use Rattle.bqn_simulation.proofs.standing.Zips.{BlocksMatch}
use Rattle.bqn_simulation.proofs.standing.OneLine.{Resolved, resolved_is, blocks_match, top_told}
use Rattle.bqn_simulation.proofs.standing.Pools.{items_pooled, mentions_exported}
use Rattle.bqn_simulation.proofs.standing.Exported.{AllExported}
use Rattle.bqn_simulation.proofs.standing.Linking.{Tabled, linked, distinct_behind}
use Rattle.bqn_simulation.proofs.standing.Tables.{tail, here_of, blocks_behind, bodies_behind}
use Rattle.bqn_simulation.proofs.running.Told.{StmtsTold}
use Rattle.bqn_simulation.proofs.running.Shared.{IsPlaced}
use Rattle.bqn_simulation.proofs.running.Fields.{Exporting}
use Rattle.bqn_simulation.proofs.running.Calls.{BodyFits, Fits}
use Rattle.bqn_simulation.proofs.standing.Fitting.{known_fit}
use Rattle.bqn_simulation.proofs.running.Lines.{Grows, NoneHere, LineFits}
use Rattle.bqn_simulation.proofs.standing.Exports.{names_at as names_of_body, FoundAt, all_there, all_not_there}
use Rattle.bqn_simulation.proofs.standing.Indexed.{Pair, AllPairs, pairs_append, pairs_length, bodies_append, AllIndexed, blocks_indexed, Found, found, to_pairs, many_placed}
use Rattle.bqn_simulation.proofs.standing.EarlierLines.{tabled, is_placed, all_known, gained, CodeKnown, Grown, AllOld, old_stay, old_append, old_length, placed_old}

-- what is known behind some lines
pub record Session (e : Earlier) (t : Table) : Type 0 where
  pub old : AllOld e t e.blocks (tail t.blocks)
  pub pairs : AllPairs (all_bodies e.blocks) (tail t.bodies)
  pub distinct : Distinct e.names

module _ (e : Earlier) (t : Table) (s : Session e t) (ss : Stmts) (tokens : List Token) (r : Resolution) (pools : Gathered) (from : FromSource e.names ss tokens r) (gathers : gathered the_most r.uses ss ≡ Ok pools) where
  abbrev pub code : Code
  code = translation r pools ss

  abbrev pub here : Placed
  here = here_of t code

  abbrev pub e' : Earlier
  e' = further e ss

  abbrev pub t' : Table
  t' = with_code t code

  abbrev pub ms : Mentions
  ms = stmts_mentions ss no_mentions

  abbrev pub top : Scope
  top = line_scope e ss

  abbrev pub inner : List Block
  inner = stmts_blocks (setting r.uses pools) r.bodies 0 ss at_start

  abbrev pub new_blocks : List source.Block
  new_blocks = source.stmts_blocks (scopes_of (line_body e ss)) ss (behind_lines e)

  abbrev pub prog : Block
  prog = program (setting r.uses pools) r.bodies ss

  abbrev pub main : Body
  main = body_code (setting r.uses pools) (names_in (slice_get r.bodies 0)) Both at_start (body None ss)

  is : Resolved e.names ss r
  is = resolved_is e.names ss r from.resolves

  items : EachItem (ItemPooled r.uses code) at_start (stmts_items ss)
  items = items_pooled r pools ss e.names tokens from gathers

  exported : AllExported code.names ms
  exported = mentions_exported r pools ss e.names tokens from gathers

  many_blocks : length e.blocks ≡ here.blocks
  many_blocks = sym (old_length e t e.blocks (tail t.blocks) s.old)

  many_bodies : length (all_bodies e.blocks) ≡ here.bodies
  many_bodies = sym (pairs_length (all_bodies e.blocks) (tail t.bodies) s.pairs)

  match : BlocksMatch r.uses code r.bodies top here.blocks here.bodies 1 new_blocks inner
  match =
      subst (λ n. BlocksMatch r.uses code r.bodies top here.blocks n 1 new_blocks inner) many_bodies
      (subst (λ n. BlocksMatch r.uses code r.bodies top n (length (all_bodies e.blocks)) 1 new_blocks inner) many_blocks
      (blocks_match e ss r pools from.well.statements is items exported))

  abbrev pub first : BodyNames
  first = body_names (length e.names) top ms

  -- ---- the tables

  blocks_are : t'.blocks ≡ record { here = here; first = 0; block = prog } ∷ (tail t.blocks ++ placed_blocks here 1 inner)
  blocks_are = blocks_behind t code prog main inner refl refl

  bodies_are : t'.bodies ≡ placed_body here prog main ∷ (tail t.bodies ++ placed_bodies here inner)
  bodies_are = bodies_behind t code prog main inner refl refl

  tail_blocks : tail t'.blocks ≡ tail t.blocks ++ placed_blocks here 1 inner
  tail_blocks = ap tail blocks_are

  tail_bodies : tail t'.bodies ≡ tail t.bodies ++ placed_bodies here inner
  tail_bodies = ap tail bodies_are

  grown : Grown e t e' t'
  grown = record {
    names = front_more e.names (map name_of (definitions e.names ms));
    bodies = record { rest = all_bodies new_blocks; whole = sym (bodies_append e.blocks new_blocks) };
    placed_bodies = record { rest = placed_bodies here inner; whole = sym tail_bodies };
    placed_blocks = record { rest = placed_blocks here 1 inner; whole = sym tail_blocks };
  }

  -- ---- the new code

  indexed : AllIndexed r.uses r.bodies top here 1 (all_bodies new_blocks) (placed_bodies here inner)
  indexed = blocks_indexed r.uses r.bodies top here 1 new_blocks inner match

  one_plus : (n : ℕ) → 1 + n ≡ suc n
  one_plus n = omega arith

  many_names : length r.bodies ≡ 1 + length (placed_bodies here inner)
  many_names =
      ap (λ (l : List BodyNames). length l) is.bodies_are
      ∙ ((named.all_named (inside 0 ms (first ∷ [])) 0 ms (first ∷ []) (front_same (inside 0 ms (first ∷ [])))).length_is
      ∙ ap (λ n. 1 + n) (stmts_many ss no_mentions ∙ (none_more _ ∙ (sym (stmts_counts (setting r.uses pools) r.bodies 0 ss at_start).bodies ∙ sym (many_placed here inner)))))
    where
      none_more : (n : ℕ) → n + 0 ≡ n
      none_more n = omega arith

  look : (k : ℕ) (own : BodyNames) → slice_get r.bodies (suc k) ≡ Some own → Found r.uses r.bodies top here 1 k (all_bodies new_blocks) (placed_bodies here inner)
  look k own h = found r.uses r.bodies top here 1 k (all_bodies new_blocks) (placed_bodies here inner) indexed (omega (arith, slice_get_within r.bodies (suc k) own h, many_names))

  same_names : (k : ℕ) (own : BodyNames) (h : slice_get r.bodies (suc k) ≡ Some own) → body_names (look k own h).is.parent (look k own h).body.own.scope (look k own h).is.mentions ≡ own
  same_names k own h = some_same (sym (look k own h).is.there ∙ (ap (slice_get r.bodies) (one_plus k) ∙ h))

  known : CodeKnown e' t' here r.bodies top
  known = record {
    slots = λ k own h. let f = look k own h in (f.body, ap (λ l. slice_get l (here.bodies + k)) (bodies_append e.blocks new_blocks) ∙ (ap (λ n. slice_get (all_bodies e.blocks ++ all_bodies new_blocks) (n + k)) (sym many_bodies) ∙ at_back (all_bodies e.blocks) (all_bodies new_blocks) k f.body f.body_at), ap (λ (o : BodyNames). o.slots) (same_names k own h));
    parents = λ k own h. let f = look k own h in (f.placed, ap (λ l. slice_get l (here.bodies + k)) tail_bodies ∙ at_back (tail t.bodies) (placed_bodies here inner) k f.placed f.placed_at, f.is.parent_is ∙ ap (λ (o : BodyNames). numbering.number_behind here.bodies o.parent) (same_names k own h));
    placed = λ k b h. let x = at_block inner 1 k b h in (x.0, ap (λ l. slice_get l (here.blocks + k)) tail_blocks ∙ at_back (tail t.blocks) (placed_blocks here 1 inner) k x.0 x.1, x.2);
    top_front = front_same (names_of top);
  }
    where
      at_block : (xs : List Block) (n k : ℕ) (b : Block) → slice_get xs k ≡ Some b → (x : BlockAt) × (slice_get (placed_blocks here n xs) k ≡ Some x) × (x.block.class ≡ b.class)
      at_block [] n k b h = absurd (none-some b h)
      at_block (x ∷ xs) n zero b h = (record { here = here; first = n; block = x }, refl, ap (λ (z : Block). z.class) (some_same h))
      at_block (x ∷ xs) n (suc k) b h = at_block xs (n + length x.bodies) k b h

  -- ---- what is known then

  pub further_known : Session e' t'
  further_known = record {
    old = subst (λ l. AllOld e' t' e'.blocks l) (sym tail_blocks) (old_append e' t' e.blocks new_blocks (tail t.blocks) (placed_blocks here 1 inner) (old_stay e t e' t' grown e.blocks (tail t.blocks) s.old) (placed_old e' t' here r.uses r.bodies top known 1 new_blocks inner match));
    pairs = subst (λ l. AllPairs l (tail t'.bodies)) (sym (bodies_append e.blocks new_blocks)) (subst (λ l. AllPairs (all_bodies e.blocks ++ all_bodies new_blocks) l) (sym tail_bodies) (pairs_append (all_bodies e.blocks) (all_bodies new_blocks) (tail t.bodies) (placed_bodies here inner) s.pairs (to_pairs r.uses r.bodies top here 1 (all_bodies new_blocks) (placed_bodies here inner) indexed)));
    distinct = distinct_behind e.names ms s.distinct;
  }

  -- ---- the line fits

  abbrev all : ℕ → List (List ℕ)
  all = names_before e'

  abbrev main_at : BodyAt
  main_at = placed_body here prog main

  abbrev prog_at : BlockAt
  prog_at = record { here = here; first = 0; block = prog }

  bodies_first : t'.bodies ≡ main_at ∷ tail t'.bodies
  bodies_first = bodies_are ∙ ap (λ l. main_at ∷ l) (sym tail_bodies)

  blocks_first : t'.blocks ≡ prog_at ∷ tail t'.blocks
  blocks_first = blocks_are ∙ ap (λ l. prog_at ∷ l) (sym tail_blocks)

  table_known : Tabled all t' r.bodies top here.bodies
  table_known = tabled e' t' main_at prog_at bodies_first blocks_first refl further_known.distinct here r.bodies top known

  code_placed : IsPlaced t' here
  code_placed = is_placed e' t' main_at prog_at bodies_first blocks_first refl further_known.distinct here r.bodies top known

  top_names : names_in (slice_get r.bodies 0) ≡ first
  top_names = ap names_in (ap (λ (l : List BodyNames). slice_get l 0) is.bodies_are ∙ front_at 0 first (inside_front 0 ms (first ∷ [])) refl)

  module _ (args : Value) where
    abbrev g : Setting
    g = line_setting e args ss

    top_fits : BodyFits all t' g here 0 (line_body e ss) main
    top_fits = record {
      number = refl;
      kind = refl;
      slots = ap (λ (o : BodyNames). length o.slots) top_names;
      linked = linked all t' r.uses code r.bodies top here.blocks here.bodies table_known (scopes_of (line_body e ss)) 0 (refl, refl, refl);
      uses = r.uses;
      count = at_start;
      inside = inside_is (length e.blocks) here.blocks many_blocks;
      code_is = placed_is (setting r.uses pools) (names_in (slice_get r.bodies 0)) Both at_start None ss;
      header = tt;
      statements = subst (λ c. StmtsTold (scopes_of (line_body e ss)) r.uses code c ss) (sym (past-nothing at_start)) (top_told e ss r pools from.well.statements is items exported);
      placed = code_placed;
    }
      where
        inside_is : (n m : ℕ) → n ≡ m → 1 + n ≡ m + (1 + 0)
        inside_is n m q = omega (arith, q)

    blocks_fit : (k : ℕ) → Fits all t' g (slice_get g.blocks k) (slice_get t'.blocks k)
    blocks_fit zero = subst (λ l. Fits all t' g (slice_get g.blocks 0) (slice_get l 0)) (sym blocks_first) (record { class = refl; bodies = (top_fits, tt) })
    blocks_fit (suc k) = subst (λ l. Fits all t' g (slice_get g.blocks (suc k)) (slice_get l (suc k))) (sym blocks_first) (known_fit all t' g e'.blocks (tail t'.blocks) (all_known e' t' main_at prog_at bodies_first blocks_first refl further_known.distinct g e'.blocks (tail t'.blocks) further_known.old) k)

    names_at : Option source.Body → List (List ℕ)
    names_at o = elim o [ None ↦ [] | Some b ↦ names_of b.own.scope ]

    pair_slots : (bs : List source.Body) (ys : List BodyAt) → AllPairs bs ys → (j : ℕ) → p.slots_in (slice_get ys j) ≡ length (elim (slice_get bs j) as (λ z. List (List ℕ)) [ None ↦ [] | Some b ↦ names_of b.own.scope ])
    pair_slots [] [] a j = refl
    pair_slots (b ∷ bs) (y ∷ ys) a zero = a.0.slots
    pair_slots (b ∷ bs) (y ∷ ys) a (suc j) = pair_slots bs ys a.1 j
    pair_slots [] (y ∷ ys) a j = elim a [ ]
    pair_slots (b ∷ bs) [] a j = elim a [ ]

    widths : (k : ℕ) → p.slots_in (slice_get t'.bodies k) ≡ length (all k)
    widths zero = ap (λ l. p.slots_in (slice_get l 0)) bodies_first ∙ ap (λ (o : BodyNames). length o.slots) top_names
    widths (suc k) = ap (λ l. p.slots_in (slice_get l (suc k))) bodies_first ∙ pair_slots (all_bodies e'.blocks) (tail t'.bodies) further_known.pairs k

    grows : (k : ℕ) → Grows (names_before e k) (names_before e' k)
    grows zero = gained e.names ms
    grows (suc k) = by (slice_get (all_bodies e.blocks) k) refl
      where
        nothing_new : (l : List (List ℕ)) → NoneHere l []
        nothing_new l = tt

        no_old : (l : List (List ℕ)) → NoneHere [] l
        no_old [] = tt
        no_old (x ∷ l) = (refl, no_old l)

        by : (o : Option source.Body) → slice_get (all_bodies e.blocks) k ≡ o → Grows (elim o as (λ z. List (List ℕ)) [ None ↦ [] | Some b ↦ names_of b.own.scope ]) (names_before e' (suc k))
        by None q = record { more = names_before e' (suc k); are = refl; new_ones = no_old (names_before e' (suc k)) }
        by (Some b) q = record { more = []; are = ap (λ o. elim o as (λ z. List (List ℕ)) [ None ↦ [] | Some b ↦ names_of b.own.scope ]) (front_at k b grown.bodies q) ∙ sym (append-nil (names_of b.own.scope)); new_ones = tt }

    top_pair : Pair (line_body e ss) main_at
    top_pair = record {
      slots = ap (λ (o : BodyNames). length o.slots) top_names;
      mentions = ms;
      exported = refl;
      exports_are = ap (λ (o : BodyNames). exports_code code.names o.exports) top_names;
      pooled = exported;
    }

    all_pairs : AllPairs (all_bodies g.blocks) (main_at ∷ tail t'.bodies)
    all_pairs = (top_pair, further_known.pairs)

    names_are : (k : ℕ) → names_of_body (slice_get (all_bodies g.blocks) k) ≡ all k
    names_are zero = refl
    names_are (suc k) = by (slice_get (all_bodies e'.blocks) k)
      where
        by : (o : Option source.Body) → names_of_body o ≡ elim o as (λ z. List (List ℕ)) [ None ↦ [] | Some b ↦ names_of b.own.scope ]
        by None = refl
        by (Some b) = refl

    exporting : Exporting all t' g.blocks
    exporting = record {
      there = λ k name h.
          let f : FoundAt (names_of_body (slice_get (all_bodies g.blocks) k)) (slice_get (main_at ∷ tail t'.bodies) k) name = all_there (all_bodies g.blocks) (main_at ∷ tail t'.bodies) all_pairs k name h in
          record { slot = f.slot; found_at = ap (λ l. numbering.slot_in (slice_get l k) (Some name)) bodies_first ∙ f.found_at; spells = subst (λ l. slice_get l f.slot ≡ Some name) (names_are k) f.spells };
      not_there = λ k name h. ap (λ l. numbering.slot_in (slice_get l k) (Some name)) bodies_first ∙ all_not_there (all_bodies g.blocks) (main_at ∷ tail t'.bodies) all_pairs k name h;
    }

    pub line_fits : LineFits e ss args t'
    line_fits = record {
      alike = record { blocks = blocks_fit; exporting = exporting };
      top = main_at;
      top_is = ap (λ l. slice_get l 0) bodies_first;
      fits = top_fits;
      widths = widths;
      grows = grows;
    }
