-- How runs end as answers.
use Rattle.std.proofs.Common.{◌≡◌, ℕ, List, [], ◌++◌, Option, Some, None, Result, Ok, Err, refl, sym, subst}
use Rattle.std.proofs.lemmas.List.{append-nil}
use Rattle.std.specs.Prelude.{IsSome}
use Rattle.bqn_base.specs.declared.refusal.Refusal.TheVariants.{NotYet}
use Rattle.bqn_base.specs.declared.status.Status.{Status}
use Rattle.bqn_base.specs.declared.status.Status.TheVariants as status
use Rattle.bqn_io.specs.Writing.{Adds, AddsPart, Breaks}
use Rattle.bqn_io.proofs.Writing.{adds-nothing, adds-then, adds-then-part, adds-then-breaks}
use Rattle.bqn_forms.specs.Tree.{Stmt}
use Rattle.bqn_forms.specs.Evaluation.{State, Gives as Value, Faults, Spends}
use Rattle.bqn_forms.specs.declared.code.Instr.{Instr}
use Rattle.bqn_forms.specs.declared.raised.Raised.{Raised}
use Rattle.bqn_forms.specs.declared.end.End.TheVariants as end
use Rattle.bqn_forms.specs.declared.error.CompileError.TheVariants as compile
use Rattle.bqn_forms.specs.Execution.{Run, executed}
use Rattle.bqn_forms.specs.Compiling.{Compiles}
use Rattle.bqn_forms.specs.Running.{EndsAs}
use Rattle.std.specs.declared.vec.Vec.{Vec}
use Rattle.std.specs.declared.alloc.Global.{Global}
use Rattle.bqn_cli.specs.declared.halted.Halted.{Halted}
use Rattle.bqn_cli.specs.declared.halted.Halted.TheVariants as halted
use Rattle.bqn_cli.specs.Answer.{ended, fault_line, faulted, refused, form_answer, default_steps}
use Rattle.bqn_cli.specs.Writing.{Gives, GivesRun}

-- code of a source misses no operand
pub compiles-some : (form : Option (List Stmt)) (code : Vec Instr Global) (steps : ℕ) → Compiles form (Ok code) → IsSome (executed code.items steps)
compiles-some None code steps h = absurd h
compiles-some (Some form) code steps h = subst (λ (run : Run). IsSome run) (sym (h steps)) refl

module _ {K : Type 0} (written : K → Option (List ℕ)) (room faults : K → ℕ) where
  pub run-done : (run : Run) (old new : K) → EndsAs written room faults run old new end.Done → GivesRun written room faults run old new (Ok status.Done)
  run-done None old new h = h
  run-done (Some (Value u s)) old new h = (refl, h)
  run-done (Some (Faults f s)) old new h = absurd h
  run-done (Some (Spends s)) old new h = absurd h

  pub run-spent : (run : Run) (old new : K) → EndsAs written room faults run old new end.Spent → GivesRun written room faults run old new (Ok status.Spent)
  run-spent None old new h = h
  run-spent (Some (Value u s)) old new h = absurd h
  run-spent (Some (Faults f s)) old new h = absurd h
  run-spent (Some (Spends s)) old new h = (refl, h)

  part-longer : (old new : K) (bytes more : List ℕ) → AddsPart written room faults old new bytes → AddsPart written room faults old new (bytes ++ more)
  part-longer old new bytes more h = adds-then-part written room faults old old new [] bytes more (adds-nothing written room faults old) h

  breaks-longer : (old new : K) (bytes more : List ℕ) → Breaks written room faults old new bytes → Breaks written room faults old new (bytes ++ more)
  breaks-longer old new bytes more h = adds-then-breaks written room faults old old new [] bytes more (adds-nothing written room faults old) h

  pub run-memory : (run : Run) (old new : K) → EndsAs written room faults run old new end.Memory → GivesRun written room faults run old new (Err halted.Memory)
  run-memory None old new h = h
  run-memory (Some (Value u s)) old new h = h
  run-memory (Some (Faults f s)) old new h = part-longer old new s.written (fault_line f) h
  run-memory (Some (Spends s)) old new h = h

  pub run-write_fault : (run : Run) (old new : K) → EndsAs written room faults run old new end.WriteFault → GivesRun written room faults run old new (Err halted.WriteFault)
  run-write_fault None old new h = h
  run-write_fault (Some (Value u s)) old new h = h
  run-write_fault (Some (Faults f s)) old new h = breaks-longer old new s.written (fault_line f) h
  run-write_fault (Some (Spends s)) old new h = h

  -- the line of a fault behind what was written
  behind : (f : Raised) (s : State) (old mid new : K) (result : Result Status Halted) → Adds written room faults old mid s.written → Gives written room faults (faulted f) mid new result → Gives written room faults (ended (Faults f s)) old new result
  behind f s old mid new (Ok st) a h = (h.0, adds-then written room faults old mid new s.written (fault_line f) a h.1)
  behind f s old mid new (Err halted.Memory) a h =
      subst (λ (b : List ℕ). AddsPart written room faults old new b) (append-nil (s.written ++ fault_line f)) (adds-then-part written room faults old mid new s.written (fault_line f) [] a h)
  behind f s old mid new (Err halted.WriteFault) a h =
      subst (λ (b : List ℕ). Breaks written room faults old new b) (append-nil (s.written ++ fault_line f)) (adds-then-breaks written room faults old mid new s.written (fault_line f) [] a h)

  pub run-faulted : (run : Run) (f : Raised) (old mid new : K) (result : Result Status Halted) → EndsAs written room faults run old mid (end.Faulted f) → Gives written room faults (faulted f) mid new result → GivesRun written room faults run old new result
  run-faulted None f old mid new result e h = e
  run-faulted (Some (Value u s)) f old mid new result e h = absurd e
  run-faulted (Some (Faults g s)) f old mid new result e h = behind g s old mid new result e.1 (subst (λ (x : Raised). Gives written room faults (faulted x) mid new result) e.0 h)
  run-faulted (Some (Spends s)) f old mid new result e h = absurd e

  pub source-run : (form : Option (List Stmt)) (code : Vec Instr Global) (old new : K) (result : Result Status Halted) → Compiles form (Ok code) → GivesRun written room faults (executed code.items default_steps) old new result → Gives written room faults (form_answer form) old new result
  source-run None code old new result c h = absurd c
  source-run (Some form) code old new result c h = subst (λ (run : Run). GivesRun written room faults run old new result) (c default_steps) h

  pub source-refused : (form : Option (List Stmt)) (old new : K) (result : Result Status Halted) → Compiles form (Err compile.NotYet) → Gives written room faults (refused NotYet) old new result → Gives written room faults (form_answer form) old new result
  source-refused None old new result c h = h
  source-refused (Some form) old new result c h = absurd c

  pub source-memory : (form : Option (List Stmt)) (old : K) → Gives written room faults (form_answer form) old old (Err halted.Memory)
  source-memory form old = record { front = []; rest = (form_answer form).out; whole = refl; adds = adds-nothing written room faults old }

pub ruleset run_laws = (run-done, run-spent, run-memory, run-write_fault, run-faulted)

pub ruleset source_laws = (compiles-some, source-run, source-refused, source-memory)
