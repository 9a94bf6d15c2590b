-- Reading and storing variables, fields, patterns and headers advance.
use Rattle.std.proofs.Common.{ℕ, Bool, true, false, List, [], ◌∷◌, Option, Some, None, Ok, refl}
use Rattle.std.specs.List.{list_all}
use Rattle.bqn_base.specs.declared.fault.Fault.TheVariants.{Undefined, Pattern as NoMatch, NoField}
use Rattle.bqn_rows.specs.Plain.{Value, Array, Namespace, Values, more}
use Rattle.bqn_base.specs.declared.place.Place.{Place}
use Rattle.bqn_rows.specs.Raised.{raised}
use Rattle.bqn_rows.specs.Running.{Gives}
use Rattle.bqn_syntax.specs.declared.token.Special.{Special}
use Rattle.bqn_syntax.specs.declared.token.Special.TheVariants as special
use Rattle.bqn_syntax.specs.declared.token.Kind.{Kind}
use Rattle.bqn_syntax.specs.declared.token.Kind.TheVariants as kind
use Rattle.bqn_syntax.specs.declared.token.Token.{Token}
use Rattle.bqn_syntax.specs.declared.tree.Arrow.{Arrow}
use Rattle.bqn_syntax.specs.declared.tree.Arrow.TheVariants as arrow
use Rattle.bqn_syntax.specs.grammar.Trees.{Pattern, Name, Skip, Literal, ListPattern, StrandPattern, Patterns, and_patterns, Header}
use Rattle.bqn_syntax.specs.blocks.Leads.{or_else, pattern_lead, header_lead}
use Rattle.bqn_syntax.specs.scope.Scope.{name_of, has}
use Rattle.bqn_meaning.specs.Actions.{at, ◌>>=◌, pure, fault, known, used, where_so}
use Rattle.bqn_syntax.specs.blocks.Blocks.{Numbered, Block}
use Rattle.bqn_meaning.specs.Environments.{Does, place_at, place, variable, value_at, look, put_at, stored, define, change}
use Rattle.bqn_meaning.specs.Frames.{Setting, Frame, literal, special_value, left_of, right_of}
use Rattle.bqn_meaning.specs.Matching.{fields_of, field_value, field_in, field, store_named, store, stays, assigned, Fit, Fits, Mismatch, Missing, and_fit, literal_fit, as_many, names_in, taken_apart, store_fields, fields_fit, fit, all_fit, must_fit, bind, does_fit, argument_fits, argument, name_special, name_operand, own_special, header_fits}
use Rattle.bqn_meaning.proofs.advancing.Actions.{Advances, gives, binds, fails, finds, uses, places, where_advances, puts, depends}

-- ---- variables

pub looks : (scopes : List Numbered) (n : ℕ) (name : List ℕ) → Advances (look scopes n name)
unfolding look
looks scopes n name = depends (value_at scopes n name) (λ k s. refl) (λ v. found' v) (λ v. finds Undefined v)
  where
    found' : Option Value → Does Value
    found' v = elim v [ None ↦ fault Undefined | Some x ↦ pure x ]

pub defines : (scopes : List Numbered) (n : ℕ) (name : List ℕ) (v : Value) → Advances (define scopes n name v)
unfolding define
defines scopes n name v = puts (Ok tt) (λ es. put_at (place_at scopes 0 n es) name v es)

pub changes : (scopes : List Numbered) (n : ℕ) (name : List ℕ) (v : Value) → Advances (change scopes n name v)
unfolding change
changes scopes n name v = binds (look scopes n name) (λ old s. Gives (Ok tt) (stored (place scopes n name s.environments) name v s)) (looks scopes n name) (λ old. puts (Ok tt) (λ es. put_at (place scopes n name es) name v es))

-- ---- fields

field-value : (has_it : Bool) (v : Option Value) → Advances (field_value has_it v)
field-value true v = finds Undefined v
field-value false v = fails NoField

pub field-in : (blocks : List Block) (n : ℕ) (name : List ℕ) → Advances (field_in blocks n name)
field-in blocks n name = depends {X = Bool × Option Value} (λ s. (has (fields_of blocks n s) name, variable s name n)) (λ k s. refl) (λ p. field_value p.0 p.1) (λ p. field-value p.0 p.1)

pub fields-advance : (blocks : List Block) (v : Value) (name : List ℕ) → Advances (field blocks v name)
fields-advance blocks (Namespace n) name = field-in blocks n name
fields-advance blocks v name = fails NoField

-- ---- stores

store-named : (f : Frame) (a : Arrow) (k : Kind) (v : Value) → Advances (store_named f a k v)
store-named f arrow.Change (kind.Word name r) v = changes f.scopes f.environment name v
store-named f a (kind.Word name r) v = defines f.scopes f.environment name v
store-named f a k v = gives (Ok tt)

pub stores : (f : Frame) (a : Arrow) (t : Token) (v : Value) → Advances (store f a t v)
stores f a t v = store-named f a t.kind v

pub stays-stored : (f : Frame) (a : Arrow) (t : Token) (v : Option Value) → Advances (stays f a t v)
stays-stored f a t v = uses v (λ x. store f a t x >>= (λ u. pure (Some x))) (λ x. binds (store f a t x) (λ u. pure (Some x)) (stores f a t x) (λ u. gives (Ok (Some x))))

pub assigns : (f : Frame) (ts : List (Token × Arrow)) (v : Option Value) → Advances (assigned f ts v)
assigns f [] v = gives (Ok v)
assigns f (t ∷ ts) v = binds (assigned f ts v) (λ x. at t.0.place (stays f t.1 t.0 x)) (assigns f ts v) (λ x. places t.0.place (stays f t.1 t.0 x) (stays-stored f t.1 t.0 x))

-- ---- patterns

pub and-fit : (next : Does Fit) → Advances next → (r : Fit) → Advances (and_fit next r)
and-fit next a Fits = a
and-fit next a r = gives (Ok r)

takes-apart : (elements : Values → Does Fit) (fields : ℕ → Does Fit) (otherwise : Does Fit) → ((xs : Values) → Advances (elements xs)) → ((n : ℕ) → Advances (fields n)) → Advances otherwise → (v : Value) → Advances (taken_apart elements fields otherwise v)
takes-apart elements fields otherwise a b c (Array (n ∷ []) xs fill) = a xs
takes-apart elements fields otherwise a b c (Namespace n) = b n
takes-apart elements fields otherwise a b c v = c

store-fields : (g : Setting) (f : Frame) (a : Arrow) (n : ℕ) (ts : List Token) → Advances (store_fields g f a n ts)
store-fields g f a n [] = gives (Ok Fits)
store-fields g f a n (t ∷ ts) = binds (field_in g.blocks n (name_of t)) (λ v. store f a t v >>= (λ u. store_fields g f a n ts)) (field-in g.blocks n (name_of t)) (λ v. binds (store f a t v) (λ u. store_fields g f a n ts) (stores f a t v) (λ u. store-fields g f a n ts))

fields-fit : (g : Setting) (f : Frame) (a : Arrow) (ts : Option (List Token)) (n : ℕ) → Advances (fields_fit g f a ts n)
fields-fit g f a None n = gives (Ok Mismatch)
fields-fit g f a (Some ts) n = depends (λ s. list_all (λ t. has (fields_of g.blocks n s) (name_of t)) ts) (λ k s. refl) (λ there. where_so Missing (store_fields g f a n ts) there) (where_advances Missing (store_fields g f a n ts) (store-fields g f a n ts))

mutual
  pub fits : (g : Setting) (f : Frame) (a : Arrow) (q : Pattern) (v : Value) → Advances (fit g f a q v)
  fits g f a (Name t) v = binds (store f a t v) (λ u. pure Fits) (stores f a t v) (λ u. gives (Ok Fits))
  fits g f a (Skip place) v = gives (Ok Fits)
  fits g f a (Literal t) v = gives (raised (literal_fit (literal t.kind) v))
  fits g f a (ListPattern qs) v = takes-apart (λ xs. where_so Mismatch (all_fit g f a qs xs) (as_many qs xs)) (fields_fit g f a (names_in qs)) (pure Mismatch) (λ xs. where_advances Mismatch (all_fit g f a qs xs) (all-fit g f a qs xs) (as_many qs xs)) (fields-fit g f a (names_in qs)) (gives (Ok Mismatch)) v
  fits g f a (StrandPattern qs) v = takes-apart (λ xs. where_so Mismatch (all_fit g f a qs xs) (as_many qs xs)) (fields_fit g f a (names_in qs)) (pure Mismatch) (λ xs. where_advances Mismatch (all_fit g f a qs xs) (all-fit g f a qs xs) (as_many qs xs)) (fields-fit g f a (names_in qs)) (gives (Ok Mismatch)) v

  all-fit : (g : Setting) (f : Frame) (a : Arrow) (qs : Patterns) (xs : Values) → Advances (all_fit g f a qs xs)
  all-fit g f a (and_patterns q qs) (more x xs) = binds (fit g f a q x) (and_fit (all_fit g f a qs xs)) (fits g f a q x) (and-fit (all_fit g f a qs xs) (all-fit g f a qs xs))
  all-fit g f a qs xs = gives (Ok Fits)

must-fit : (r : Fit) → Advances (must_fit r)
must-fit Fits = gives (Ok tt)
must-fit Mismatch = fails NoMatch
must-fit Missing = fails NoField

pub bind-advances : (g : Setting) (f : Frame) (a : Arrow) (q : Pattern) (v : Value) → Advances (bind g f a q v)
bind-advances g f a q v = binds (fit g f a q v) must_fit (fits g f a q v) must-fit

-- ---- headers

module _ (g : Setting) (f : Frame) where
  stored-true : (t : Token) (x : Value) → Advances (store f arrow.Define t x >>= (λ u. pure true))
  stored-true t x = binds (store f arrow.Define t x) (λ u. pure true) (stores f arrow.Define t x) (λ u. gives (Ok true))

  named-argument : (p : Place) (t : Token) (v : Option Value) (k : Kind) → Advances (elim k [ kind.Special s r ↦ pure true | _ ↦ at p (used v >>= (λ x. store f arrow.Define t x >>= (λ u. pure true))) ])
  named-argument p t v (kind.Special s r) = gives (Ok true)
  named-argument p t v k = places p (used v >>= (λ x. store f arrow.Define t x >>= (λ u. pure true))) (uses v (λ x. store f arrow.Define t x >>= (λ u. pure true)) (stored-true t))

  fitted : (p : Place) (q : Pattern) (v : Option Value) → Advances (at p (used v >>= (λ x. fit g f arrow.Define q x >>= (λ r. pure (does_fit r)))))
  fitted p q v = places p (used v >>= (λ x. fit g f arrow.Define q x >>= (λ r. pure (does_fit r)))) (uses v (λ x. fit g f arrow.Define q x >>= (λ r. pure (does_fit r))) (λ x. binds (fit g f arrow.Define q x) (λ r. pure (does_fit r)) (fits g f arrow.Define q x) (λ r. gives (Ok (does_fit r)))))

  argument-fits : (p : Place) (q : Pattern) (v : Option Value) → Advances (argument_fits g f p q v)
  argument-fits p (Name t) v = named-argument p t v t.kind
  argument-fits p q v = fitted p q v

  argument-advances : (l : Place) (q : Option Pattern) (v : Option Value) → Advances (argument g f l q v)
  argument-advances l None v = gives (Ok true)
  argument-advances l (Some q) v = argument-fits (or_else l (pattern_lead q)) q v

  name-special : (s : Special) (p : Place) (k : Kind) → Advances (name_special f s p k)
  name-special s p (kind.Word name r) = binds (at p (known (special_value f s))) (λ v. at p (used v >>= define f.scopes f.environment name)) (places p (known (special_value f s)) (gives (raised (special_value f s)))) (λ v. places p (used v >>= define f.scopes f.environment name) (uses v (define f.scopes f.environment name) (defines f.scopes f.environment name)))
  name-special s p k = gives (Ok tt)

  name-operand : (s : Special) (t : Option Token) → Advances (name_operand f s t)
  name-operand s None = gives (Ok tt)
  name-operand s (Some t) = name-special s t.place t.kind

  pub header-fits : (h : Option Header) → Advances (header_fits g f h)
  header-fits None = gives (Ok true)
  header-fits (Some h) = binds (argument g f (header_lead h) h.left (left_of f.arguments)) (where_so false names) (argument-advances (header_lead h) h.left (left_of f.arguments)) (where_advances false names (binds (name_operand f special.LeftOperand h.left_operand) own_name (name-operand special.LeftOperand h.left_operand) (λ u. binds (name_special f (own_special h.own.kind) h.own.place h.own.kind) right_name (name-special (own_special h.own.kind) h.own.place h.own.kind) (λ u. binds (name_operand f special.RightOperand h.right_operand) right (name-operand special.RightOperand h.right_operand) (λ u. argument-advances (header_lead h) h.right (right_of f.arguments))))))
    where
      right : Unit {0} → Does Bool
      right u = argument g f (header_lead h) h.right (right_of f.arguments)

      right_name : Unit {0} → Does Bool
      right_name u = name_operand f special.RightOperand h.right_operand >>= right

      own_name : Unit {0} → Does Bool
      own_name u = name_special f (own_special h.own.kind) h.own.place h.own.kind >>= right_name

      names : Does Bool
      names = name_operand f special.LeftOperand h.left_operand >>= own_name
