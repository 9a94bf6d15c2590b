-- The tests of instructions that speak of the pools pass what a tree of a source has.
use Rattle.std.proofs.Common.{◌≡◌, ◌<◌, ◌+◌, ◌∙◌, ℕ, Bool, true, false, List, [], ◌∷◌, length, nat_lt, position, Option, Some, None, arith, refl, ap, subst}
use Rattle.std.specs.List.{list_all}
use Rattle.std.proofs.lemmas.Bool.{lt-ltb}
use Rattle.std.proofs.lemmas.List.Quantifiers.{position-Some}
use Rattle.std.proofs.lemmas.Option.{slice_get_within}
use Rattle.bqn_syntax.specs.declared.token.Kind.{Kind}
use Rattle.bqn_syntax.specs.declared.token.Kind.TheVariants as kind
use Rattle.bqn_syntax.specs.declared.token.Special.{Special}
use Rattle.bqn_syntax.specs.declared.token.Special.TheVariants as special
use Rattle.bqn_syntax.specs.declared.token.Token.{Token}
use Rattle.bqn_syntax.specs.grammar.Trees.{Stmts}
use Rattle.bqn_syntax.specs.grammar.Trees as tree
use Rattle.bqn_syntax.specs.scope.Order.{How, Defines}
use Rattle.bqn_syntax.specs.scope.Scope.{name_of, same_name, system_names}
use Rattle.bqn_syntax.specs.scope.Bodies.{Resolution}
use Rattle.bqn_syntax.specs.text.Fitting.{KindFits}
use Rattle.bqn_code.specs.declared.constant.Const.{Const}
use Rattle.bqn_code.specs.declared.constant.Const.TheVariants as const
use Rattle.bqn_code.specs.declared.instr.Instr.{Instr}
use Rattle.bqn_code.specs.declared.instr.Instr.TheVariants as i
use Rattle.bqn_code.specs.Plain.{Pattern, Code}
use Rattle.bqn_code.specs.Conditions.{leaves, instr_constant_is_there, instr_name_is_there, instr_pattern_is_there, is_given_code, is_no_literal, pattern_passes, binds_no_literal}
use Rattle.bqn_compile.specs.declared.count.Count.{Count}
use Rattle.bqn_compile.specs.Pools.{constant_of, constant_number, seen_at}
use Rattle.bqn_compile.specs.Gathering.{Gathered}
use Rattle.bqn_compile.specs.Expressions.{Setting, special_instr, system_instr, leaf_instr, fields_code}
use Rattle.bqn_compile.specs.Translation.{setting, translation}
use Rattle.bqn_compile.proofs.verified.Tests.{both_true}
use Rattle.bqn_compile.proofs.verified.pools.PooledItems.{KindPooled, FieldsPooled, IsTaken, among_some, constant_below, name_below}
use Rattle.bqn_compile.proofs.verified.pools.PatternCodes.{pattern_no_literal}
use Rattle.bqn_compile.proofs.verified.pools.CodePasses.{Tested, is_free}
use Rattle.bqn_compile.proofs.verified.pools.PoolFacts.{Facts}

-- ---- one leaf

module _ (g : Setting) (test : Instr → Bool) (free : (j : Instr) → is_free j ≡ true → test j ≡ true) where
  special_free : (s : Special) → is_free (special_instr s) ≡ true
  special_free special.Left = refl
  special_free special.Right = refl
  special_free special.Own = refl
  special_free special.LeftOperand = refl
  special_free special.RightOperand = refl
  special_free special.Modifier = refl

  system_passes : (o : Option ℕ) → ((n : ℕ) → o ≡ Some n → test (i.Given (64 + n)) ≡ true) → test (system_instr o) ≡ true
  system_passes None h = free i.Nothing refl
  system_passes (Some n) h = h n refl

  -- a leaf passes where its constant does, and given values do
  leaf_passes : (k : ℕ) (u : Kind) → ((c : Const) → constant_of u ≡ Some c → test (i.Const (constant_number g.constants c)) ≡ true) → ((code : ℕ) → KindFits u → u ≡ kind.Given code → test (i.Given code) ≡ true) → ((n : ℕ) → n < 6 → test (i.Given (64 + n)) ≡ true) → KindFits u → test (leaf_instr g k u) ≡ true
  leaf_passes k (kind.Word name r) a b c f = free (i.Load (seen_at g.uses k).up (seen_at g.uses k).slot) refl
  leaf_passes k (kind.Special s r) a b c f = free (special_instr s) (special_free s)
  leaf_passes k (kind.System name r) a b c f = system_passes (position (λ other. same_name other name) system_names) (λ n e. c n (position-Some (λ other. same_name other name) system_names n [] e).0)
  leaf_passes k (kind.Given code) a b c f = b code f refl
  leaf_passes k (kind.Number z) a b c f = a (const.Number z) refl
  leaf_passes k (kind.Char z) a b c f = a (const.Char z) refl
  leaf_passes k (kind.Text z) a b c f = a (const.Text z) refl
  leaf_passes k (kind.Punct z) a b c f = free i.Nothing refl

-- ---- the tests

given_small : (u : Kind) (code : ℕ) → KindFits u → u ≡ kind.Given code → code < 64
given_small u code f e = subst (λ (u : Kind). KindFits u) e f

module _ (r : Resolution) (pools : Gathered) (ss : Stmts) where
  abbrev code : Code
  code = translation r pools ss

  abbrev g : Setting
  g = setting r.uses pools

  constant_pooled : (u : Kind) (c : Const) (b : Bool) → constant_of u ≡ Some c → KindPooled b pools.constants pools.names u → nat_lt (constant_number pools.constants c) (length pools.constants) ≡ true
  constant_pooled (kind.Word name r) c b e h = absurd (cc)
  constant_pooled u c b e h = lt-ltb _ _ (constant_below pools.constants c (among_some pools.constants c (h c e)))

  taken_there : (c : Count) (how : How) (q : tree.Pattern) → IsTaken r.uses pools c how q → nat_lt c.patterns (length pools.patterns) ≡ true
  taken_there c how q t = lt-ltb _ _ (slice_get_within pools.patterns c.patterns _ t.there)

  -- constants

  free_constant : (j : Instr) → is_free j ≡ true → instr_constant_is_there code j ≡ true
  free_constant (i.Const k) f = absurd (cc)
  free_constant j f = refl

  fields_constant : (ts : List Token) → list_all (instr_constant_is_there code) (fields_code g.names ts) ≡ true
  fields_constant [] = refl
  fields_constant (t ∷ ts) = fields_constant ts

  pub constants_tested : Tested (Facts r.uses pools) g (instr_constant_is_there code)
  constants_tested = record {
    free = free_constant;
    merge = refl;
    leaf = λ c t f. leaf_passes g (instr_constant_is_there code) free_constant c.uses t.kind (λ k e. constant_pooled t.kind k false e f.pooled) (λ given x e. refl) (λ n l. refl) f.tokens;
    fields = λ c ts f. fields_constant ts;
    bind = λ c how q f. refl;
    match = λ c q f. refl;
  }

  -- names

  free_name : (j : Instr) → is_free j ≡ true → instr_name_is_there code j ≡ true
  free_name (i.Field k) f = absurd (cc)
  free_name j f = refl

  fields_name : (ts : List Token) → FieldsPooled pools.names ts → list_all (instr_name_is_there code) (fields_code g.names ts) ≡ true
  fields_name [] h = refl
  fields_name (t ∷ ts) h = both_true _ _ (lt-ltb _ _ (name_below pools.names (name_of t) h.0)) (fields_name ts h.1)

  pub names_tested : Tested (Facts r.uses pools) g (instr_name_is_there code)
  names_tested = record {
    free = free_name;
    merge = refl;
    leaf = λ c t f. leaf_passes g (instr_name_is_there code) free_name c.uses t.kind (λ k e. refl) (λ given x e. refl) (λ n l. refl) f.tokens;
    fields = λ c ts f. fields_name ts f.pooled;
    bind = λ c how q f. refl;
    match = λ c q f. refl;
  }

  -- patterns

  free_pattern : (j : Instr) → is_free j ≡ true → instr_pattern_is_there code j ≡ true
  free_pattern (i.Bind k) f = absurd (cc)
  free_pattern (i.Match k) f = absurd (cc)
  free_pattern j f = refl

  fields_pattern : (ts : List Token) → list_all (instr_pattern_is_there code) (fields_code g.names ts) ≡ true
  fields_pattern [] = refl
  fields_pattern (t ∷ ts) = fields_pattern ts

  pub patterns_tested : Tested (Facts r.uses pools) g (instr_pattern_is_there code)
  patterns_tested = record {
    free = free_pattern;
    merge = refl;
    leaf = λ c t f. leaf_passes g (instr_pattern_is_there code) free_pattern c.uses t.kind (λ k e. refl) (λ given x e. refl) (λ n l. refl) f.tokens;
    fields = λ c ts f. fields_pattern ts;
    bind = λ c how q f. taken_there c how q f.pooled;
    match = λ c q f. taken_there c Defines q f.pooled;
  }

  -- given values

  free_given : (j : Instr) → is_free j ≡ true → is_given_code j ≡ true
  free_given (i.Given k) f = absurd (cc)
  free_given j f = refl

  fields_given : (ts : List Token) → list_all is_given_code (fields_code g.names ts) ≡ true
  fields_given [] = refl
  fields_given (t ∷ ts) = fields_given ts

  given_below : (n : ℕ) → n < 70 → nat_lt n 70 ≡ true
  given_below n h = lt-ltb n 70 h

  pub given_tested : Tested (Facts r.uses pools) g is_given_code
  given_tested = record {
    free = free_given;
    merge = refl;
    leaf = λ c t f. leaf_passes g is_given_code free_given c.uses t.kind (λ k e. refl) (λ given x e. let s = given_small t.kind given x e in given_below given (omega arith)) (λ n l. given_below (64 + n) (omega arith)) f.tokens;
    fields = λ c ts f. fields_given ts;
    bind = λ c how q f. refl;
    match = λ c q f. refl;
  }

  -- literals

  free_literal : (j : Instr) → is_free j ≡ true → binds_no_literal code j ≡ true
  free_literal (i.Bind k) f = absurd (cc)
  free_literal j f = refl

  fields_literal : (ts : List Token) → list_all (binds_no_literal code) (fields_code g.names ts) ≡ true
  fields_literal [] = refl
  fields_literal (t ∷ ts) = fields_literal ts

  pub literals_tested : Tested (Facts r.uses pools) g (binds_no_literal code)
  literals_tested = record {
    free = free_literal;
    merge = refl;
    leaf = λ c t f. leaf_passes g (binds_no_literal code) free_literal c.uses t.kind (λ k e. refl) (λ given x e. refl) (λ n l. refl) f.tokens;
    fields = λ c ts f. fields_literal ts;
    bind = λ c how q f. ap (λ (o : Option Pattern). pattern_passes (leaves is_no_literal) o) f.pooled.there ∙ pattern_no_literal r.uses f.pooled.constants f.pooled.names how c.uses q f.well.pattern;
    match = λ c q f. refl;
  }
