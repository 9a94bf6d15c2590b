-- Fields of namespaces, patterns, and the headers of bodies: BQN's pages on namespaces, on expressions and on block headers.
use Rattle.std.specs.Prelude.{ℕ, Bool, true, false, List, [], ◌∷◌, slice_get, Option, Some, None, Result, Ok, Err}
use Rattle.std.specs.List.{list_all}
use Rattle.bqn_base.specs.declared.fault.Fault.{Fault}
use Rattle.bqn_base.specs.declared.fault.Fault.TheVariants.{Undefined, Pattern as NoMatch, NoField}
use Rattle.bqn_base.specs.declared.place.Place.{Place}
use Rattle.bqn_base.specs.declared.role.Role.TheVariants as role
use Rattle.bqn_rows.specs.Plain.{Value, Array, Namespace, Values, none, more}
use Rattle.bqn_rows.specs.Relations.{matching}
use Rattle.bqn_syntax.specs.declared.token.Special.{Special}
use Rattle.bqn_syntax.specs.declared.token.Special.TheVariants as special
use Rattle.bqn_syntax.specs.declared.token.Kind.{Kind}
use Rattle.bqn_syntax.specs.declared.token.Kind.TheVariants as kind
use Rattle.bqn_syntax.specs.declared.token.Token.{Token}
use Rattle.bqn_syntax.specs.declared.tree.Arrow.{Arrow}
use Rattle.bqn_syntax.specs.declared.tree.Arrow.TheVariants as arrow
use Rattle.bqn_syntax.specs.grammar.Trees.{Pattern, Name, Skip, Literal, ListPattern, StrandPattern, Patterns, no_patterns, and_patterns, Header}
use Rattle.bqn_syntax.specs.blocks.Leads.{or_else, pattern_lead, header_lead}
use Rattle.bqn_syntax.specs.scope.Scope.{name_of, has}
use Rattle.bqn_meaning.specs.Actions.{Action, at, ◌>>=◌, pure, fault, known, found, used, where_so}
use Rattle.bqn_syntax.specs.blocks.Blocks.{Block, Body, body_at}
use Rattle.bqn_meaning.specs.Environments.{Environment, State, Does, variable, define, change}
use Rattle.bqn_meaning.specs.Frames.{Setting, Frame, literal, special_value, left_of, right_of}

-- ---- fields

abbrev pub exported_by : Option Body → List (List ℕ)
exported_by None = []
exported_by (Some b) = b.exported

abbrev pub exported_in : List Block → Option Environment → List (List ℕ)
exported_in blocks None = []
exported_in blocks (Some e) = exported_by (body_at blocks e.body)

-- the fields of the namespace of this environment
abbrev pub fields_of : List Block → ℕ → State → List (List ℕ)
fields_of blocks n s = exported_in blocks (slice_get s.environments n)

abbrev pub field_value : Bool → Option Value → Does Value
field_value true v = found Undefined v
field_value false v = fault NoField

-- the present value of a field
abbrev pub field_in : List Block → ℕ → List ℕ → Does Value
field_in blocks n name = λ s. field_value (has (fields_of blocks n s) name) (variable s name n) s

abbrev pub field : List Block → Value → List ℕ → Does Value
field blocks (Namespace n) name = field_in blocks n name
field blocks v name = fault NoField

-- ---- stores

-- a name is defined or changed; special names, as headers have them, store nothing
abbrev pub store_named : Frame → Arrow → Kind → Value → Does (Unit {0})
store_named f arrow.Change (kind.Word name r) v = change f.scopes f.environment name v
store_named f a (kind.Word name r) v = define f.scopes f.environment name v
store_named f a k v = pure tt

abbrev pub store : Frame → Arrow → Token → Value → Does (Unit {0})
store f a t v = store_named f a t.kind v

-- a name gets a value, which stays
abbrev pub stays : Frame → Arrow → Token → Option Value → Does (Option Value)
stays f a t v = used v >>= (λ x. store f a t x >>= (λ u. pure (Some x)))

-- a value that is assigned to these targets, if there are any; the rightmost is stored first
abbrev pub assigned : Frame → List (Token × Arrow) → Option Value → Does (Option Value)
assigned f [] v = pure v
assigned f (t ∷ ts) v = assigned f ts v >>= (λ x. at t.0.place (stays f t.1 t.0 x))

-- ---- patterns

-- a value fits a pattern, or doesn't, or is a namespace without a field that the pattern names
pub data Fit : Type 0 where
  Fits Mismatch Missing : Fit

-- the next pattern, where the one before fits
abbrev pub and_fit : {X S : Type 0} → Action X S Fit → Fit → Action X S Fit
and_fit next Fits = next
and_fit next fit = pure fit

abbrev pub as_fit : Bool → Fit
as_fit true = Fits
as_fit false = Mismatch

abbrev pub fit_of : Result Bool Fault → Result Fit Fault
fit_of (Ok b) = Ok (as_fit b)
fit_of (Err f) = Err f

-- a literal that can't be made is matched by nothing
abbrev pub literal_fit : Result Value Fault → Value → Result Fit Fault
literal_fit (Ok w) v = fit_of (matching w v)
literal_fit (Err f) v = Ok Mismatch

-- as many patterns as elements
abbrev pub as_many : Patterns → Values → Bool
as_many no_patterns none = true
as_many (and_patterns q qs) (more x xs) = as_many qs xs
as_many _ _ = false

abbrev pub and_name : Pattern → Option (List Token) → Option (List Token)
and_name (Name t) (Some ts) = Some (t ∷ ts)
and_name _ _ = None

-- the names, where each part is one
abbrev pub names_in : Patterns → Option (List Token)
names_in no_patterns = Some []
names_in (and_patterns q qs) = and_name q (names_in qs)

-- what is done with the elements of a list, with a namespace, or else
abbrev pub taken_apart : {A : Type 0} → (Values → A) → (ℕ → A) → A → Value → A
taken_apart elements fields otherwise (Array (n ∷ []) xs fill) = elements xs
taken_apart elements fields otherwise (Namespace e) = fields e
taken_apart elements fields otherwise v = otherwise

-- each field is read when it is stored
abbrev pub store_fields : Setting → Frame → Arrow → ℕ → List Token → Does Fit
store_fields g f a n [] = pure Fits
store_fields g f a n (t ∷ ts) = field_in g.blocks n (name_of t) >>= (λ v. store f a t v >>= (λ u. store_fields g f a n ts))

abbrev pub fields_fit : Setting → Frame → Arrow → Option (List Token) → ℕ → Does Fit
fields_fit g f a None n = pure Mismatch
fields_fit g f a (Some ts) n = λ s. where_so Missing (store_fields g f a n ts) (list_all (λ t. has (fields_of g.blocks n s) (name_of t)) ts) s

-- Stores the names of a pattern in order. Whether a list has the right length, or a namespace the fields, is decided before any
-- part of it is stored.
abbrev mutual
  pub fit : Setting → Frame → Arrow → Pattern → Value → Does Fit
  fit g f a (Name t) v = store f a t v >>= (λ u. pure Fits)
  fit g f a (Skip place) v = pure Fits
  fit g f a (Literal t) v = known (literal_fit (literal t.kind) v)
  fit g f a (ListPattern qs) v = taken_apart (λ xs. where_so Mismatch (all_fit g f a qs xs) (as_many qs xs)) (fields_fit g f a (names_in qs)) (pure Mismatch) v
  fit g f a (StrandPattern qs) v =
      taken_apart (λ xs. where_so Mismatch (all_fit g f a qs xs) (as_many qs xs)) (fields_fit g f a (names_in qs)) (pure Mismatch) v

  pub all_fit : Setting → Frame → Arrow → Patterns → Values → Does Fit
  all_fit g f a (and_patterns q qs) (more x xs) = fit g f a q x >>= and_fit (all_fit g f a qs xs)
  all_fit g f a qs xs = pure Fits

-- in an assignment
abbrev pub must_fit : {X S : Type 0} → Fit → Action X S (Unit {0})
must_fit Fits = pure tt
must_fit Mismatch = fault NoMatch
must_fit Missing = fault NoField

abbrev pub bind : Setting → Frame → Arrow → Pattern → Value → Does (Unit {0})
bind g f a q v = fit g f a q v >>= must_fit

-- ---- headers

abbrev pub does_fit : Fit → Bool
does_fit Fits = true
does_fit _ = false

-- an argument of a header; `𝕨` and `𝕩` themselves ask for nothing
abbrev pub argument_fits : Setting → Frame → Place → Pattern → Option Value → Does Bool
argument_fits g f p (Name t) v = elim t.kind [ kind.Special s r ↦ pure true | _ ↦ at p (used v >>= (λ x. store f arrow.Define t x >>= (λ u. pure true))) ]
argument_fits g f p q v = at p (used v >>= (λ x. fit g f arrow.Define q x >>= (λ r. pure (does_fit r))))

-- in a header with this lead
abbrev pub argument : Setting → Frame → (lead : Place) → Option Pattern → Option Value → Does Bool
argument g f l None v = pure true
argument g f l (Some q) v = argument_fits g f (or_else l (pattern_lead q)) q v

-- a name that a header has for a special name
abbrev pub name_special : Frame → Special → Place → Kind → Does (Unit {0})
name_special f s p (kind.Word name r) = at p (known (special_value f s)) >>= (λ v. at p (used v >>= define f.scopes f.environment name))
name_special f s p k = pure tt

abbrev pub name_operand : Frame → Special → Option Token → Does (Unit {0})
name_operand f s None = pure tt
name_operand f s (Some t) = name_special f s t.place t.kind

-- a block's own name is its modifier, where it is spelled so, and else its function
abbrev pub own_special : Kind → Special
own_special (kind.Word name role.Mod1) = special.Modifier
own_special (kind.Word name role.Mod2) = special.Modifier
own_special _ = special.Own

-- whether what the body is run on fits its header, in the order of the text
abbrev pub header_fits : Setting → Frame → Option Header → Does Bool
header_fits g f None = pure true
header_fits g f (Some h) =
    argument g f (header_lead h) h.left (left_of f.arguments) >>= where_so false
    (name_operand f special.LeftOperand h.left_operand >>= (λ u.
    name_special f (own_special h.own.kind) h.own.place h.own.kind >>= (λ u.
    name_operand f special.RightOperand h.right_operand >>= (λ u.
    argument g f (header_lead h) h.right (right_of f.arguments)))))
