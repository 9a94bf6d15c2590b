-- What a body of a well program is to its block.
use Rattle.std.proofs.Common.{◌≡◌, ◌≤◌, ℕ, Bool, true, false, if◌then◌else◌, nat_le, List, Option, Some, None, arith, refl, sym, ap, subst}
use Rattle.std.specs.List.{list_any}
use Rattle.std.proofs.lemmas.Bool.{false≢true, le-leb}
use Rattle.bqn_syntax.specs.declared.tree.Class.{Class}
use Rattle.bqn_syntax.specs.declared.tree.Class.TheVariants as class
use Rattle.bqn_syntax.specs.declared.sort.Tag.{Tag}
use Rattle.bqn_syntax.specs.declared.sort.Tag.TheVariants as tag
use Rattle.bqn_syntax.specs.grammar.Sorts.{same_tag}
use Rattle.bqn_syntax.specs.grammar.Headers.{own_tag}
use Rattle.bqn_syntax.specs.grammar.Trees.{Pattern, Header, BodyTree, body, Stmts}
use Rattle.bqn_syntax.specs.grammar.Classes.{Seen, nothing, Marks, marks_of, Calls, Monadic, Dyadic, Both, argument_calls, body_calls, has_predicate, is_some, has_argument, has_one_self, has_two, has_one, has_function, is_deferred, heads, seen_in_stmts}
use Rattle.bqn_syntax.specs.grammar.Well.{SelfFits, HeaderFits, WellBody, WellStmts}
use Rattle.bqn_syntax.specs.grammar.Classes.{waits}
use Rattle.bqn_code.specs.Conditions.{is_modifier, is_modifier2, is_run_on, is_kind_for}
use Rattle.bqn_compile.specs.Bodies.{kind_code, calls_of}
use Rattle.bqn_compile.proofs.verified.Tests.{or_left, or_right}
use Rattle.bqn_compile.proofs.verified.bodies.Instructions.{SeenPass}
use Rattle.bqn_compile.proofs.verified.bodies.ClassFacts.{is_called, ClassFacts}

-- what the header of a body says of the class of its block
pub record HeaderPass (c : Class) (h : Option Header) : Type 0 where
  pub argument : has_argument h ≡ true → waits c ≡ true
  pub function : heads tag.Function h ≡ true → waits c ≡ true
  pub one : heads tag.Mod1 h ≡ true → is_modifier c ≡ true
  pub two : heads tag.Mod2 h ≡ true → is_modifier2 c ≡ true

-- a body of a block of this class that has so many plain bodies
pub record BodyFits (c : Class) (plain : ℕ) (x : BodyTree) : Type 0 where
  pub well : WellBody x
  pub seen : SeenPass (is_run_on c) (marks_of x).seen
  pub header : HeaderPass c (marks_of x).header
  pub kind : (before : ℕ) → is_kind_for (waits c) (kind_code (calls_of plain before x)) ≡ true

-- ---- classes

pub two_is_one : (c : Class) → is_modifier2 c ≡ true → is_modifier c ≡ true
two_is_one class.Mod2 h = refl
two_is_one class.Mod2Deferred h = refl
two_is_one class.Mod1 h = refl
two_is_one class.Mod1Deferred h = refl
two_is_one class.Function h = h
two_is_one class.Immediate h = h

-- a modifier waits where this makes it deferred, and a function waits where this calls it
waits_where : (c : Class) → (is_modifier c ≡ true → waits c ≡ true) → (is_modifier c ≡ false → waits c ≡ true) → waits c ≡ true
waits_where c modifier function = by (is_modifier c) refl
  where
    by : (b : Bool) → is_modifier c ≡ b → waits c ≡ true
    by true h = modifier h
    by false h = function h

-- ---- one of the bodies that a class is told of

module _ (ms : List Marks) (c : Class) (facts : ClassFacts ms c) (m : Marks) (among : (test : Marks → Bool) → test m ≡ true → list_any test ms ≡ true) where
  args_wait : m.seen.args ≡ true → waits c ≡ true
  args_wait h = waits_where c (λ k. facts.deferred (among is_deferred (or_left m.seen.args (has_argument m.header) h)) k) (λ k. facts.called (among is_called (or_left m.seen.args (has_function m) h)) k)

  function_waits : heads tag.Function m.header ≡ true → waits c ≡ true
  function_waits h = facts.called (among is_called (or_right m.seen.args (has_function m) h)) (facts.function (among has_function h))

  two_modifies : has_two m ≡ true → is_modifier2 c ≡ true
  two_modifies h = facts.two (among has_two h)

  one_modifies : has_one m ≡ true → is_modifier c ≡ true
  one_modifies h = facts.one (among has_one h)

  one_self_modifies : has_one_self m ≡ true → is_modifier c ≡ true
  one_self_modifies h = one_modifies (or_right m.seen.one (has_one_self m) h)

  seen_passes : SeenPass (is_run_on c) m.seen
  seen_passes = record {
    args = λ h. (args_wait h, args_wait h, args_wait h);
    one = λ h. let k : is_modifier c ≡ true = one_modifies (or_left m.seen.one (has_one_self m) h) in (k, k);
    one_self = λ h. one_self_modifies (or_left m.seen.one_self (heads tag.Mod1 m.header) h);
    two = λ h. let k : is_modifier2 c ≡ true = two_modifies (or_left m.seen.two (heads tag.Mod2 m.header) h) in (k, two_is_one c k);
  }

  one_heads : heads tag.Mod1 m.header ≡ true → is_modifier c ≡ true
  one_heads h = one_self_modifies (or_right m.seen.one_self (heads tag.Mod1 m.header) h)

  two_heads : heads tag.Mod2 m.header ≡ true → is_modifier2 c ≡ true
  two_heads h = two_modifies (or_right m.seen.two (heads tag.Mod2 m.header) h)

  -- an argument in a header defers a modifier
  argument_defers : has_argument m.header ≡ true → is_modifier c ≡ true → waits c ≡ true
  argument_defers h k = facts.deferred (among is_deferred (or_right m.seen.args (has_argument m.header) h)) k

-- ---- headers

-- a header with an argument is one of a function, or defers a modifier
argument_waits : (c : Class) (h : Option Header) → HeaderFits h → (heads tag.Function h ≡ true → waits c ≡ true) → (heads tag.Mod1 h ≡ true → is_modifier c ≡ true) → (heads tag.Mod2 h ≡ true → is_modifier2 c ≡ true) →
    (has_argument h ≡ true → is_modifier c ≡ true → waits c ≡ true) → has_argument h ≡ true → waits c ≡ true
argument_waits c None fits function one two defers there = absurd (false≢true there)
argument_waits c (Some h) fits function one two defers there = by (own_tag h.own.kind) fits.self function one two
  where
    by : (t : Tag) → SelfFits t h.left_operand h.right_operand → (same_tag tag.Function t ≡ true → waits c ≡ true) → (same_tag tag.Mod1 t ≡ true → is_modifier c ≡ true) → (same_tag tag.Mod2 t ≡ true → is_modifier2 c ≡ true) → waits c ≡ true
    by tag.Function self function one two = function refl
    by tag.Mod1 self function one two = defers there (one refl)
    by tag.Mod2 self function one two = defers there (two_is_one c (two refl))
    by tag.Subject self function one two = absurd self
    by tag.Nothing self function one two = absurd self

-- ---- kinds

few_kinds : (calls : Calls) → is_kind_for true (kind_code calls) ≡ true
few_kinds Both = refl
few_kinds Monadic = refl
few_kinds Dyadic = refl

argument_kind : (left right : Option Pattern) → (is_some right ≡ true → ⊥) → kind_code (argument_calls left right) ≡ 0
argument_kind left None h = refl
argument_kind left (Some q) h = absurd (h refl)

-- the kind of a body without arguments, where there is at most one plain one
no_kind : (plain before : ℕ) (h : Option Header) (predicate : Bool) → plain ≤ 1 → (has_argument h ≡ true → ⊥) → kind_code (body_calls plain before h predicate) ≡ 0
no_kind plain before (Some h) predicate few free = argument_kind h.left h.right free
no_kind plain before None true few free = refl
no_kind plain before None false few free = ap (λ (b : Bool). kind_code (if b then Both else if nat_le 1 before then Dyadic else Monadic)) (le-leb plain 1 few)

kind_fits : (c : Class) (plain before : ℕ) (h : Option Header) (predicate : Bool) → (waits c ≡ false → plain ≤ 1) → (has_argument h ≡ true → waits c ≡ true) →
    is_kind_for (waits c) (kind_code (body_calls plain before h predicate)) ≡ true
kind_fits c plain before h predicate few argument = by (waits c) few argument
  where
    by : (w : Bool) → (w ≡ false → plain ≤ 1) → (has_argument h ≡ true → w ≡ true) → is_kind_for w (kind_code (body_calls plain before h predicate)) ≡ true
    by true few argument = few_kinds (body_calls plain before h predicate)
    by false few argument = ap (λ (k : ℕ). is_kind_for false k) (no_kind plain before h predicate (few refl) (λ e. false≢true (argument e)))

-- ---- bodies

pub body_fits : (ms : List Marks) (c : Class) (plain : ℕ) → ClassFacts ms c → (waits c ≡ false → plain ≤ 1) → (x : BodyTree) → ((test : Marks → Bool) → test (marks_of x) ≡ true → list_any test ms ≡ true) → WellBody x → BodyFits c plain x
body_fits ms c plain facts few (body h ss) among well =
    let m : Marks = marks_of (body h ss) in
    let argument : (has_argument h ≡ true → waits c ≡ true) = argument_waits c h well.0 (function_waits ms c facts m among) (one_heads ms c facts m among) (two_heads ms c facts m among) (argument_defers ms c facts m among) in
    record {
      well = well;
      seen = seen_passes ms c facts m among;
      header = record { argument = argument; function = function_waits ms c facts m among; one = one_heads ms c facts m among; two = two_heads ms c facts m among };
      kind = λ before. kind_fits c plain before h (has_predicate ss) few argument;
    }

-- the body of a program, where no special name occurs
pub program_fits : (ss : Stmts) → seen_in_stmts ss ≡ nothing → WellStmts true ss → BodyFits class.Immediate 1 (body None ss)
program_fits ss free well = record {
  well = (tt, well);
  seen = subst (λ (s : Seen). SeenPass (is_run_on class.Immediate) s) (sym free) (record { args = λ h. absurd (false≢true h); one = λ h. absurd (false≢true h); one_self = λ h. absurd (false≢true h); two = λ h. absurd (false≢true h) });
  header = record { argument = λ h. absurd (false≢true h); function = λ h. absurd (false≢true h); one = λ h. absurd (false≢true h); two = λ h. absurd (false≢true h) };
  kind = λ before. kind_fits class.Immediate 1 before None (has_predicate ss) (λ h. omega arith) (λ h. h);
}
