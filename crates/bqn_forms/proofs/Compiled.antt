-- Compiling joins reading, the translation and its meaning.
use Rattle.std.proofs.Common.{◌≡◌, ◌≤◌, ◌<◌, Bool, true, false, List, [], ◌++◌, length, Option, Some, None, Result, Ok, Err, refl, sym, ap, ◌∙◌, subst, arith}
use Rattle.std.specs.Prelude.{nat_le}
use Rattle.std.proofs.lemmas.Bool.Decides.{nat_tests}
use Rattle.std.specs.Option.{option_map}
use Rattle.std.specs.declared.vec.Vec.{Vec}
use Rattle.std.specs.declared.alloc.Global.{Global}
use Rattle.bqn_syntax.specs.declared.token.Token.{Token}
use Rattle.bqn_syntax.specs.grammar.Trees.{Stmts}
use Rattle.bqn_forms.specs.Form.{statements_in, form_of}
use Rattle.bqn_forms.specs.Tree.{Stmt}
use Rattle.bqn_forms.specs.declared.code.Instr.{Instr}
use Rattle.bqn_forms.specs.declared.error.CompileError.{CompileError}
use Rattle.bqn_forms.specs.declared.error.CompileError.TheVariants.{NotYet, Memory}
use Rattle.bqn_forms.specs.Execution.{executed}
use Rattle.bqn_forms.specs.Translation.{translation}
use Rattle.bqn_forms.specs.Reading.{ReadsAs}
use Rattle.bqn_forms.specs.Compiling.{Compiles}
use Rattle.bqn_forms.specs.Emission.{stmts_emitted}
use Rattle.bqn_forms.proofs.Emitting.{stmts-form}
use Rattle.bqn_forms.proofs.Simulation.{executed-translation}

read-some : (t : Option (List Stmt)) (code : List Instr) → option_map translation t ≡ Some code → (sts : List Stmt) × (t ≡ Some sts) × (translation sts ≡ code)
read-some None code e = absurd (let p : None ≡ Some code = e in cc)
read-some (Some sts) code e = (sts, refl, cc)

read-none : (t : Option (List Stmt)) → option_map translation t ≡ None → t ≡ None
read-none None e = refl
read-none (Some sts) e = absurd (let p : Some (translation sts) ≡ None = e in cc)

-- code that is the translation of a tree means what the tree means
pub compiles-read : (t : Option (List Stmt)) (result : Result (Vec Instr Global) CompileError) → ReadsAs {A = List Instr} {V = Vec Instr Global} (λ code. code.items) (option_map translation t) result → Compiles t result
compiles-read t (Ok code) h =
    let r = read-some t code.items h in
    subst (λ (o : Option (List Stmt)). Compiles o (Ok code)) (sym r.1) (λ steps. ap (λ (c : List Instr). executed c steps) (sym r.2) ∙ executed-translation r.0 steps)
compiles-read t (Err NotYet) h = subst (λ (o : Option (List Stmt)). Compiles o (Err NotYet)) (sym (read-none t h)) tt
compiles-read None (Err Memory) h = tt
compiles-read (Some sts) (Err Memory) h = tt

abbrev form_if : Bool → Stmts → Option (List Instr)
form_if few stmts = option_map translation (elim few [ false ↦ None | true ↦ statements_in [] stmts ])

pub code-many : (tokens : List Token) (stmts : Stmts) → 4096 < length tokens → option_map translation (form_of tokens stmts) ≡ None
code-many tokens stmts lt =
    let many : nat_le (length tokens) 4096 ≡ false = grind (arith, nat_tests) in
    ap (λ (few : Bool). form_if few stmts) many

code-start : (rest : Option (List Stmt)) → option_map (λ sts. [] ++ translation sts) rest ≡ option_map translation rest
code-start None = refl
code-start (Some sts) = refl

pub code-few : (tokens : List Token) (stmts : Stmts) → length tokens ≤ 4096 → option_map translation (form_of tokens stmts) ≡ stmts_emitted [] [] stmts
code-few tokens stmts le =
    let few : nat_le (length tokens) 4096 ≡ true = grind (arith, nat_tests) in
    ap (λ (few : Bool). form_if few stmts) few ∙ sym (stmts-form [] [] stmts ∙ code-start (statements_in [] stmts))

pub ruleset compile_laws = (compiles-read, code-many, code-few)
