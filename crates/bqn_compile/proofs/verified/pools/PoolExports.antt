-- The names that bodies export are in the pool.
use Rattle.std.proofs.Common.{◌≡◌, ◌∙◌, ℕ, Bool, true, List, [], ◌∷◌, length, nat_lt, slice_get, Option, Some, None, Ok, refl, sym, ap, subst}
use Rattle.std.specs.List.{list_all}
use Rattle.std.proofs.lemmas.Bool.{lt-ltb}
use Rattle.bqn_syntax.specs.declared.token.Kind.{Kind}
use Rattle.bqn_syntax.specs.declared.token.Kind.TheVariants as kind
use Rattle.bqn_syntax.specs.declared.token.Token.{Token}
use Rattle.bqn_syntax.specs.grammar.Trees.{Pattern, Name, Skip, Literal, ListPattern, StrandPattern, Patterns, no_patterns, and_patterns, Stmts}
use Rattle.bqn_syntax.specs.scope.Order.{How, Shows}
use Rattle.bqn_syntax.specs.scope.Mentions.{no_mentions, stmts_mentions}
use Rattle.bqn_syntax.specs.scope.Scope.{has, name_of, spelling}
use Rattle.bqn_syntax.specs.scope.Bodies.{BodyNames, Resolution, exports_it, resolution}
use Rattle.bqn_code.specs.declared.constant.Const.{Const}
use Rattle.bqn_compile.specs.declared.count.Count.{Count}
use Rattle.bqn_compile.specs.Pools.{name_number}
use Rattle.bqn_compile.specs.Gathering.{Gathered}
use Rattle.bqn_compile.specs.Bodies.{names_in, exports_code}
use Rattle.bqn_compile.specs.Translation.{at_start}
use Rattle.bqn_compile.proofs.verified.Tests.{both_true, left_true, right_true}
use Rattle.bqn_compile.proofs.verified.pools.Items.{Item, Alone, Fields, Taken, Opened, Shown, stmts_items}
use Rattle.bqn_compile.proofs.verified.pools.PooledItems.{KindPooled, PatternPooled, PatternsPooled, ExportedPooled, AllExportedPooled, IsTaken, pattern_stays, name_below}
use Rattle.bqn_compile.proofs.verified.pools.MentionedItems.{EveryMention, KindMentioned, PatternMentioned, PatternsMentioned, ItemMentioned, stmts_mentioned}
use Rattle.bqn_compile.proofs.verified.exports.ResolvedExports.{Exported, names_pass, bodies_pass, all_bodies_pass, body_passes, resolved_bodies}
use Rattle.bqn_compile.proofs.verified.pools.PoolFacts.{Facts, SourcePools, each_every}

module _ (cs : List Const) (ns : List (List ℕ)) where
  abbrev pooled : List ℕ → Bool
  pooled name = has ns name

  kind_exported : (how : How) (k : Kind) (t : Token) (b : Bool) → t.kind ≡ k → (exports_it how ≡ true → b ≡ true) → KindPooled b cs ns k → KindMentioned (Exported pooled) how k t
  kind_exported how (kind.Word name r) t b e i h = λ x. subst (λ (k : Kind). has ns (spelling k) ≡ true) (sym e) (h (i x))
  kind_exported how (kind.Special s r) t b e i h = tt
  kind_exported how (kind.System name r) t b e i h = tt
  kind_exported how k t b e i h = tt

  mutual
    pattern_exported : (how : How) (q : Pattern) → PatternPooled cs ns q → PatternMentioned (Exported pooled) how q
    pattern_exported how (Name t) h = kind_exported how t.kind t true refl (λ x. refl) h
    pattern_exported how (Skip place) h = tt
    pattern_exported how (Literal t) h = tt
    pattern_exported how (ListPattern qs) h = patterns_exported how qs h
    pattern_exported how (StrandPattern qs) h = patterns_exported how qs h

    patterns_exported : (how : How) (qs : Patterns) → PatternsPooled cs ns qs → PatternsMentioned (Exported pooled) how qs
    patterns_exported how no_patterns h = tt
    patterns_exported how (and_patterns q qs) h = (pattern_exported how q h.0, patterns_exported how qs h.1)

  name_shown : (k : Kind) (t : Token) → has ns (name_of t) ≡ true → KindMentioned (Exported pooled) Shows k t
  name_shown (kind.Word name r) t h = λ x. h
  name_shown (kind.Special s r) t h = tt
  name_shown (kind.System name r) t h = tt
  name_shown k t h = tt

  mutual
    shown_exported : (q : Pattern) → ExportedPooled ns q → PatternMentioned (Exported pooled) Shows q
    shown_exported (Name t) h = name_shown t.kind t h
    shown_exported (Skip place) h = tt
    shown_exported (Literal t) h = tt
    shown_exported (ListPattern qs) h = all_shown_exported qs h
    shown_exported (StrandPattern qs) h = all_shown_exported qs h

    all_shown_exported : (qs : Patterns) → AllExportedPooled ns qs → PatternsMentioned (Exported pooled) Shows qs
    all_shown_exported no_patterns h = tt
    all_shown_exported (and_patterns q qs) h = (shown_exported q h.0, all_shown_exported qs h.1)

  -- numbers of names that are there
  pub exports_there : (es : List (List ℕ × ℕ)) → names_pass pooled es ≡ true → list_all (λ e. nat_lt e.0 (length ns)) (exports_code ns es) ≡ true
  exports_there [] h = refl
  exports_there (e ∷ es) h =
      both_true (nat_lt (name_number ns e.0) (length ns)) (list_all (λ e. nat_lt e.0 (length ns)) (exports_code ns es))
      (lt-ltb (name_number ns e.0) (length ns) (name_below ns e.0 (left_true (pooled e.0) (names_pass pooled es) h)))
      (exports_there es (right_true (pooled e.0) (names_pass pooled es) h))

item_exported : (r : Resolution) (pools : Gathered) (c : Count) (x : Item) → Facts r.uses pools c x → ItemMentioned (Exported (λ name. has pools.names name)) x
item_exported r pools c (Alone how t) f = kind_exported pools.constants pools.names how t.kind t (exports_it how) refl (λ x. x) f.pooled
item_exported r pools c (Fields ts) f = tt
item_exported r pools c (Taken l how q) f =
    let p : IsTaken r.uses pools c how q = f.pooled in
    pattern_exported pools.constants pools.names how q (pattern_stays p.constants pools.constants p.names pools.names p.more_constants p.more_names q p.pooled)
item_exported r pools c (Opened place n) f = tt
item_exported r pools c (Shown q) f = shown_exported pools.constants pools.names q f.pooled

-- what each body of a resolved tree exports is in the pool
pub exports_pooled : (outer : List (List ℕ)) (ss : Stmts) (r : Resolution) (pools : Gathered) → resolution outer ss ≡ Ok r → SourcePools r.uses pools ss → (k : ℕ) → names_pass (λ name. has pools.names name) (names_in (slice_get r.bodies k)).exports ≡ true
exports_pooled outer ss r pools e s k = by (slice_get r.bodies k) refl
  where
    mentions : EveryMention (Exported (λ name. has pools.names name)) (stmts_mentions ss no_mentions)
    mentions =
        (stmts_mentioned (Exported (λ name. has pools.names name)) (λ t. tt) ss no_mentions).from
        (each_every (Facts r.uses pools) (ItemMentioned (Exported (λ name. has pools.names name))) at_start (stmts_items ss) (item_exported r pools) s.facts) tt

    bodies : bodies_pass (λ name. has pools.names name) r.bodies ≡ true
    bodies = ap (λ (l : List BodyNames). bodies_pass (λ name. has pools.names name) l) (resolved_bodies outer ss r e) ∙ all_bodies_pass (λ name. has pools.names name) outer ss mentions

    by : (o : Option BodyNames) → slice_get r.bodies k ≡ o → names_pass (λ name. has pools.names name) (names_in o).exports ≡ true
    by None e = refl
    by (Some b) e = body_passes (λ name. has pools.names name) r.bodies k b bodies e
