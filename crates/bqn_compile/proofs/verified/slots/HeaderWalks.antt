-- The walk over headers, targets and fields.
use Rattle.std.proofs.Common.{◌≡◌, ℕ, Bool, true, List, [], ◌∷◌, Option, Some, None, Ok, refl, subst, ap, ◌∙◌}
use Rattle.std.proofs.lemmas.Bool.{false≢true}
use Rattle.bqn_base.specs.declared.role.Role.TheVariants as role
use Rattle.bqn_syntax.specs.declared.token.Kind.{Kind}
use Rattle.bqn_syntax.specs.declared.token.Kind.TheVariants as kind
use Rattle.bqn_syntax.specs.declared.token.Special.{Special}
use Rattle.bqn_syntax.specs.declared.token.Special.TheVariants as special
use Rattle.bqn_syntax.specs.declared.token.Token.{Token}
use Rattle.bqn_syntax.specs.declared.tree.Arrow.{Arrow}
use Rattle.bqn_syntax.specs.declared.sort.Tag.{Tag}
use Rattle.bqn_syntax.specs.grammar.Trees.{Pattern, Name, Skip, Literal, ListPattern, StrandPattern, Header, One, Two, Uses, no_uses, and_uses}
use Rattle.bqn_syntax.specs.grammar.Sorts.{is_word}
use Rattle.bqn_syntax.specs.grammar.Headers.{is_left, is_right}
use Rattle.bqn_syntax.specs.grammar.Well as well
use Rattle.bqn_syntax.specs.grammar.Well.{WellPattern, IsArgument, IsOutermost, ArgumentFits, WellHeader, HeaderFits, TargetsFit}
use Rattle.bqn_syntax.specs.scope.Order.{How, Defines, by_arrow}
use Rattle.bqn_syntax.specs.scope.Mentions.{Mention, Mentions, and_mentions, leaf_mention, token_mentions, argument_mentions, header_mentions, target_mentions}
use Rattle.bqn_syntax.specs.scope.Mentions as mention
use Rattle.bqn_syntax.specs.scope.Scope.{name_of}
use Rattle.bqn_code.specs.declared.instr.Instr.{Instr}
use Rattle.bqn_code.specs.declared.instr.Instr.TheVariants as i
use Rattle.bqn_compile.specs.declared.count.Count.{Count}
use Rattle.bqn_compile.specs.declared.read.Read.{Read}
use Rattle.bqn_compile.specs.declared.read.Read.TheVariants as read
use Rattle.bqn_compile.specs.Counting.{nothing, past, one_pattern, in_kind, in_operand, in_targets, in_named_argument, in_argument, in_header}
use Rattle.bqn_compile.specs.Pools.{seen_at, name_number}
use Rattle.bqn_compile.specs.Expressions.{Setting, special_instr, system_instr, leaf_instr, fields_code, targets_code, fork_code, atop_code, derives}
use Rattle.bqn_compile.specs.Bodies.{named_argument_code, argument_code, name_code, operand_code, own_instr, header_code}
use Rattle.bqn_compile.specs.Gathering.{Gathered, the_most, done, pooled, fields, pattern, named_argument, argument, operand, header, targets}
use Rattle.bqn_compile.specs.Translation.{setting}
use Rattle.bqn_compile.proofs.verified.slots.Walking.{split, Kept, kept_same, pooled_there, Made, Passes, append_passes, cons_passes, no_passes, Here, Walk, both, because, unmentioned, skip}
use Rattle.bqn_compile.proofs.verified.slots.Fronts.{front_trans}
use Rattle.bqn_compile.proofs.verified.slots.NameWalks.{uses, judged_walk, TokenFits, word_fits, name_word, token_walk}
use Rattle.bqn_compile.proofs.verified.slots.PatternWalks.{IsNamed, pattern_walk, is_store, is_use, store_passes, load_passes, own_passes}

fields_kept : (ts : List Token) (g g' : Gathered) → fields ts g ≡ Ok g' → Kept g g'
fields_kept [] g g' e = kept_same g g' e
fields_kept (t ∷ ts) g g' e =
    let s : (mid : Gathered) × (pooled (name_of t) g ≡ Ok mid) × (fields ts mid ≡ Ok g') = split (pooled (name_of t) g) (fields ts) g' e in
    let x : Kept g s.0 = (pooled_there (name_of t) g s.0 s.1).kept in
    let y : Kept s.0 g' = fields_kept ts s.0 g' s.2 in
    record { uses = y.uses ∙ x.uses; patterns = y.patterns ∙ x.patterns; names = front_trans x.names y.names }

-- the special name of an argument
abbrev IsSpecial : Kind → Type 0
IsSpecial (kind.Special s r) = Unit {0}
IsSpecial _ = ⊥

left_special : (k : Kind) → is_left k ≡ true → IsSpecial k
left_special (kind.Special s r) e = tt
left_special _ e = absurd (false≢true e)

right_special : (k : Kind) → is_right k ≡ true → IsSpecial k
right_special (kind.Special s r) e = tt
right_special _ e = absurd (false≢true e)

-- an argument that is one token is a name or the special name
abbrev IsAsked : Kind → Type 0
IsAsked (kind.Special s r) = Unit {0}
IsAsked (kind.Word name r) = Unit {0}
IsAsked _ = ⊥

special_asked : (k : Kind) → IsSpecial k → IsAsked k
special_asked (kind.Special s r) e = tt
special_asked _ e = elim e [ ]

word_asked : (k : Kind) → is_word k ≡ true → IsAsked k
word_asked (kind.Word z r) e = tt
word_asked _ e = absurd (false≢true e)

abbrev ArgumentAsked : Pattern → Type 0
ArgumentAsked (Name t) = IsAsked t.kind
ArgumentAsked q = WellPattern true q

argument_asked : (is : Kind → Bool) → ((k : Kind) → is k ≡ true → IsSpecial k) → (q : Pattern) → IsArgument is q → ArgumentAsked q
argument_asked is h _ (well.special {t = t} e) = special_asked t.kind (h t.kind e)
argument_asked is h _ (well.pattern {q = Name t} a w) = word_asked t.kind w
argument_asked is h _ (well.pattern {q = Skip place} a w) = w
argument_asked is h _ (well.pattern {q = Literal t} a w) = w
argument_asked is h _ (well.pattern {q = ListPattern qs} a w) = w
argument_asked is h _ (well.pattern {q = StrandPattern qs} a w) = w

module _ (o : Made) where
  abbrev pub made : Setting
  made = setting (uses o) o.pools

  -- ---- arguments

  abbrev Pushes : Here o → Instr → Type 0
  Pushes h push = Passes o h.number (push ∷ [])

  matched : (h : Here o) (push : Instr) (c : Count) → Pushes h push → IsNamed o h c → Passes o h.number (push ∷ i.Match c.patterns ∷ [])
  matched h push c p x = cons_passes o p x.1

  name_argument : (h : Here o) (push : Instr) → Pushes h push → (k : Kind) (t : Token) → t.kind ≡ k → IsAsked k → Walk o h (named_argument the_most (uses o) k t) (λ ms. leaf_mention Defines k t ms) (in_named_argument k) (λ c. Passes o h.number (named_argument_code k push c.patterns))
  name_argument h push p (kind.Special s r) t e a = because o (λ c f. no_passes o) (judged_walk o h done (mention.Special t) tt (λ g g' q. kept_same g g' q) (λ g g' q. tt))
  name_argument h push p (kind.Word name r) t e a =
      because o (λ c f. matched h push c p f)
      (subst (λ (k : Kind). Walk o h (pattern the_most (uses o) Defines (Name t)) (λ ms. leaf_mention Defines k t ms) (past one_pattern (in_kind k)) (IsNamed o h)) e
      (pattern_walk o h Defines tt true (Name t) (ap is_word e)))
  name_argument h push p _ t e a = elim a [ ]

  some_argument : (h : Here o) (push : Instr) → Pushes h push → (q : Pattern) → ArgumentAsked q → Walk o h (argument the_most (uses o) (Some q)) (λ ms. argument_mentions (Some q) ms) (in_argument (Some q)) (λ c. Passes o h.number (argument_code push c.patterns (Some q)))
  some_argument h push p (Name t) a = name_argument h push p t.kind t refl a
  some_argument h push p (Skip place) a = because o (λ c f. matched h push c p f) (pattern_walk o h Defines tt true (Skip place) a)
  some_argument h push p (Literal t) a = because o (λ c f. matched h push c p f) (pattern_walk o h Defines tt true (Literal t) a)
  some_argument h push p (ListPattern qs) a = because o (λ c f. matched h push c p f) (pattern_walk o h Defines tt true (ListPattern qs) a)
  some_argument h push p (StrandPattern qs) a = because o (λ c f. matched h push c p f) (pattern_walk o h Defines tt true (StrandPattern qs) a)

  argument_walk : (h : Here o) (push : Instr) → Pushes h push → (is : Kind → Bool) → ((k : Kind) → is k ≡ true → IsSpecial k) → (q : Option Pattern) → ArgumentFits is q → Walk o h (argument the_most (uses o) q) (λ ms. argument_mentions q ms) (in_argument q) (λ c. Passes o h.number (argument_code push c.patterns q))
  argument_walk h push p is s None w = because o (λ c f. no_passes o) (skip o {h = h})
  argument_walk h push p is s (Some q) w = some_argument h push p q (argument_asked is s q w)

  -- ---- names of headers

  name_passes : (h : Here o) (push : Instr) → Pushes h push → (k : Kind) (c : Count) → TokenFits o h Defines k c → Passes o h.number (name_code push (seen_at (uses o) c.uses) k)
  name_passes h push p (kind.Word name r) c f = cons_passes o p (cons_passes o (own_passes o h.number (seen_at (uses o) c.uses) f) (record { all = λ a b e. refl }))
  name_passes h push p _ c f = no_passes o

  operand_walk : (h : Here o) (push : Instr) → Pushes h push → (t : Option Token) → Walk o h (operand the_most (uses o) t) (λ ms. token_mentions Defines t ms) (in_operand t) (λ c. Passes o h.number (operand_code push (seen_at (uses o) c.uses) t))
  operand_walk h push p None = because o (λ c f. no_passes o) (skip o {h = h})
  operand_walk h push p (Some t) = because o (λ c f. name_passes h push p t.kind c f) (token_walk o h Defines tt t)

  own_pushes : (h : Here o) (k : Kind) → Pushes h (own_instr k)
  own_pushes h (kind.Word name role.Mod1) = record { all = λ a b e. refl }
  own_pushes h (kind.Word name role.Mod2) = record { all = λ a b e. refl }
  own_pushes h _ = record { all = λ a b e. refl }

  pub header_walk : (h : Here o) (x : Option Header) → HeaderFits x → Walk o h (header the_most (uses o) x) (λ ms. header_mentions x ms) (in_header x) (λ c. Passes o h.number (header_code (uses o) c x))
  header_walk h None w = because o (λ c f. no_passes o) (skip o {h = h})
  header_walk h (Some x) w =
      because o (λ c f. append_passes o (append_passes o (append_passes o (append_passes o f.0 f.1.0) f.1.1.0) f.1.1.1.0) f.1.1.1.1)
      (both o (argument_walk h i.Left (record { all = λ a b e. refl }) is_left left_special x.left w.left)
      (both o (operand_walk h i.LeftOperand (record { all = λ a b e. refl }) x.left_operand)
      (both o (because o (λ c f. name_passes h (own_instr x.own.kind) (own_pushes h x.own.kind) x.own.kind c f) (token_walk o h Defines tt x.own))
      (both o (operand_walk h i.RightOperand (record { all = λ a b e. refl }) x.right_operand) (argument_walk h i.Right (record { all = λ a b e. refl }) is_right right_special x.right w.right)))))

  -- ---- targets and fields

  pub targets_walk : (h : Here o) (t : Tag) (ts : List (Token × Arrow)) → TargetsFit t ts → Walk o h (targets the_most (uses o) ts) (λ ms. target_mentions ts ms) (in_targets ts) (λ c. Passes o h.number (targets_code made c ts))
  targets_walk h r [] w = because o (λ c f. no_passes o) (skip o {h = h})
  targets_walk h r (t ∷ ts) w =
      because o (λ c f. append_passes o f.1 (store_passes o t.1 h.number (seen_at (uses o) c.uses) (word_fits o h (by_arrow t.1) t.0.kind c (name_word o r t.0.kind w.0) f.0)))
      (both o (token_walk o h (by_arrow t.1) (is_use o (by_arrow t.1) (is_store o t.1)) t.0) (targets_walk h r ts w.1))

  pub fields_walk : (h : Here o) (ts : List Token) → Walk o h (fields ts) (λ ms. ms) nothing (λ c. Unit {0})
  fields_walk h ts = unmentioned o {h = h} (fields ts) (fields_kept ts)

  -- ---- single instructions

  pub fields_pass : (n : ℕ) (names : List (List ℕ)) (ts : List Token) → Passes o n (fields_code names ts)
  fields_pass n names [] = no_passes o
  fields_pass n names (t ∷ ts) = cons_passes o {x = i.Field (name_number names (name_of t))} (record { all = λ a b e. refl }) (fields_pass n names ts)

  pub derives_pass : (n : ℕ) (us : Uses) → Passes o n (derives us)
  derives_pass n no_uses = no_passes o
  derives_pass n (and_uses (One m) us) = cons_passes o {x = i.Derive1} (record { all = λ a b e. refl }) (derives_pass n us)
  derives_pass n (and_uses (Two m x) us) = cons_passes o {x = i.Derive2} (record { all = λ a b e. refl }) (derives_pass n us)

  pub fork_passes : (n : ℕ) (x : Read) → Passes o n (fork_code x)
  fork_passes n read.No = no_passes o
  fork_passes n read.One = no_passes o
  fork_passes n read.Two = record { all = λ a b e. refl }

  pub atop_passes : (n : ℕ) (x : Read) → Passes o n (atop_code x)
  atop_passes n read.No = no_passes o
  atop_passes n read.One = no_passes o
  atop_passes n read.Two = record { all = λ a b e. refl }

  special_passes : (n : ℕ) (s : Special) → Passes o n (special_instr s ∷ [])
  special_passes n special.Left = record { all = λ a b e. refl }
  special_passes n _ = record { all = λ a b e. refl }

  system_passes : (n : ℕ) (x : Option ℕ) → Passes o n (system_instr x ∷ [])
  system_passes n None = record { all = λ a b e. refl }
  system_passes n (Some k) = record { all = λ a b e. refl }

  pub leaf_passes : (h : Here o) (how : How) (k : Kind) (c : Count) → TokenFits o h how k c → Passes o h.number (leaf_instr made c.uses k ∷ [])
  leaf_passes h how (kind.Word name r) c f = load_passes o how h.number (seen_at (uses o) c.uses) f
  leaf_passes h how (kind.Special s r) c f = special_passes h.number s
  leaf_passes h how (kind.System z r) c f = system_passes h.number _
  leaf_passes h how _ c f = record { all = λ a b e. refl }
