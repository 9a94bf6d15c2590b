-- What a header asks for, from left to right.
use Rattle.std.proofs.Common.{◌≡◌, ℕ, ◌++◌, true, false, List, [], ◌∷◌, Some, None, refl, sym, ap, ◌∙◌, append_assoc}
use Rattle.std.proofs.lemmas.List.{append-nil}
use Rattle.bqn_syntax.specs.declared.token.Kind.{Kind}
use Rattle.bqn_syntax.specs.declared.token.Kind.TheVariants as kind
use Rattle.bqn_syntax.specs.declared.token.Token.{Token}
use Rattle.bqn_syntax.specs.grammar.Trees.{Pattern, Name, Skip, Literal, ListPattern, StrandPattern, Header}
use Rattle.bqn_code.specs.declared.instr.Instr.{Instr}
use Rattle.bqn_code.specs.declared.instr.Instr.TheVariants as i
use Rattle.bqn_compile.specs.declared.count.Count.{Count}
use Rattle.bqn_compile.specs.Counting.{past, in_argument, in_operand, in_token, in_header}
use Rattle.bqn_syntax.specs.scope.Scope.{Use}
use Rattle.bqn_compile.specs.Pools.{seen_at}
use Rattle.bqn_compile.specs.Expressions.{Setting}
use Rattle.bqn_compile.specs.Bodies.{argument_code, named_argument_code, name_code, operand_code, own_instr, header_code}
use Rattle.bqn_compile.specs.Walking.{Walked, skip, append, asks, asks_kind, argument_behind, name_behind, operand_behind, header_behind}
use Rattle.bqn_compile.proofs.Counts.{past-assoc, past-nothing}
use Rattle.bqn_compile.proofs.Walks.{onward-at, append-append, append-none}

named-asks : (k : Kind) (push : Instr) (p : ℕ) → asks_kind k ≡ true → named_argument_code k push p ≡ push ∷ i.Match p ∷ []
named-asks (kind.Special s r) push p e = cc
named-asks (kind.Word name r) push p e = refl
named-asks (kind.System name r) push p e = refl
named-asks (kind.Given code) push p e = refl
named-asks (kind.Number z) push p e = refl
named-asks (kind.Char c) push p e = refl
named-asks (kind.Text cs) push p e = refl
named-asks (kind.Punct c) push p e = refl

named-none : (k : Kind) (push : Instr) (p : ℕ) → asks_kind k ≡ false → named_argument_code k push p ≡ []
named-none (kind.Special s r) push p e = refl
named-none (kind.Word name r) push p e = cc
named-none (kind.System name r) push p e = cc
named-none (kind.Given code) push p e = cc
named-none (kind.Number z) push p e = cc
named-none (kind.Char c) push p e = cc
named-none (kind.Text cs) push p e = cc
named-none (kind.Punct c) push p e = cc

pub argument-asks : (push : Instr) (p : ℕ) (q : Pattern) → asks q ≡ true → argument_code push p (Some q) ≡ push ∷ i.Match p ∷ []
argument-asks push p (Name t) e = named-asks t.kind push p e
argument-asks push p (Skip place) e = refl
argument-asks push p (Literal t) e = refl
argument-asks push p (ListPattern qs) e = refl
argument-asks push p (StrandPattern qs) e = refl

pub argument-none : (push : Instr) (p : ℕ) (q : Pattern) → asks q ≡ false → argument_code push p (Some q) ≡ []
argument-none push p (Name t) e = named-none t.kind push p e
argument-none push p (Skip place) e = cc
argument-none push p (Literal t) e = cc
argument-none push p (ListPattern qs) e = cc
argument-none push p (StrandPattern qs) e = cc

together : (a b c d e : Count) (z : Count) → past (past (past (past (past z a) b) c) d) e ≡ past z (past a (past b (past c (past d e))))
together a b c d e z = past-assoc (past (past (past z a) b) c) d e ∙ past-assoc (past (past z a) b) c (past d e) ∙ past-assoc (past z a) b (past c (past d e)) ∙ past-assoc z a (past b (past c (past d e)))

all-code : (z a b c d e : List Instr) → z ++ a ++ b ++ c ++ d ++ e ≡ z ++ (a ++ b ++ c ++ d ++ e)
all-code z a b c d e = simp append_assoc

all-behind : (a b c d e : Count) (p q r s t : List Instr) (w : Walked) → skip e (append t (skip d (append s (skip c (append r (skip b (append q (skip a (append p w))))))))) ≡ skip (past a (past b (past c (past d e)))) (append (p ++ q ++ r ++ s ++ t) w)
unfolding skip append
all-behind a b c d e p q r s t w = λ j. record { at = together a b c d e w.at j; code = all-code w.code p q r s t j; blocks = w.blocks }

header-code : (uses : List Use) (c : Count) (h : Header) →
    argument_code i.Left c.patterns h.left
    ++ operand_code i.LeftOperand (seen_at uses (past c (in_argument h.left)).uses) h.left_operand
    ++ name_code (own_instr h.own.kind) (seen_at uses (past (past c (in_argument h.left)) (in_operand h.left_operand)).uses) h.own.kind
    ++ operand_code i.RightOperand (seen_at uses (past (past (past c (in_argument h.left)) (in_operand h.left_operand)) (in_token h.own)).uses) h.right_operand
    ++ argument_code i.Right (past (past (past (past c (in_argument h.left)) (in_operand h.left_operand)) (in_token h.own)) (in_operand h.right_operand)).patterns h.right
    ≡ header_code uses c (Some h)
header-code uses c h = refl

module _ (g : Setting) where
  pub operand-none : (x : Instr) (w : Walked) → w ≡ operand_behind g x None w
  unfolding operand_behind skip append
  operand-none x w = λ j. record { at = sym (past-nothing w.at) j; code = sym (append-nil w.code) j; blocks = w.blocks }

  pub operand-some : (x : Instr) (t : Token) (w : Walked) → name_behind g x t w ≡ operand_behind g x (Some t) w
  unfolding operand_behind name_behind
  operand-some x t w = refl

  pub header-none : (w : Walked) → w ≡ header_behind g None w
  unfolding header_behind skip append
  header-none w = λ j. record { at = sym (past-nothing w.at) j; code = sym (append-nil w.code) j; blocks = w.blocks }

  pub header-some : (h : Header) (w : Walked) →
      argument_behind i.Right h.right (operand_behind g i.RightOperand h.right_operand (name_behind g (own_instr h.own.kind) h.own (operand_behind g i.LeftOperand h.left_operand (argument_behind i.Left h.left w)))) ≡ header_behind g (Some h) w
  unfolding argument_behind operand_behind name_behind header_behind skip append
  header-some h w =
      all-behind (in_argument h.left) (in_operand h.left_operand) (in_token h.own) (in_operand h.right_operand) (in_argument h.right)
      (argument_code i.Left w.at.patterns h.left) (operand_code i.LeftOperand (seen_at g.uses (past w.at (in_argument h.left)).uses) h.left_operand)
      (name_code (own_instr h.own.kind) (seen_at g.uses (past (past w.at (in_argument h.left)) (in_operand h.left_operand)).uses) h.own.kind)
      (operand_code i.RightOperand (seen_at g.uses (past (past (past w.at (in_argument h.left)) (in_operand h.left_operand)) (in_token h.own)).uses) h.right_operand)
      (argument_code i.Right (past (past (past (past w.at (in_argument h.left)) (in_operand h.left_operand)) (in_token h.own)) (in_operand h.right_operand)).patterns h.right) w
      ∙ ap (λ (is : List Instr). skip (in_header (Some h)) (append is w)) (header-code g.uses w.at h)

pub ruleset header_laws = (onward-at, append-append, append-none, argument-asks, argument-none, operand-none, operand-some, header-none, header-some)
