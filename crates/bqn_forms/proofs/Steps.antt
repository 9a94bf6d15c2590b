-- One instruction: the stack from its top, and what a call leaves in the sink.
use Rattle.std.proofs.Common.{◌≡◌, ℕ, ℤ, List, [], ◌∷◌, ◌++◌, reverse, Option, Some, Result, Ok, Err, sym, ap, ◌∙◌, subst}
use Rattle.std.proofs.lemmas.List.{append-nil, reverse-append}
use Rattle.bqn_io.proofs.Writing.{adds-nothing}
use Rattle.bqn_io.specs.Writing.{Adds, AddsPart}
use Rattle.bqn_forms.specs.declared.end.End.{End}
use Rattle.bqn_forms.specs.declared.end.End.TheVariants as end
use Rattle.bqn_forms.specs.Running.{Calls, Acts, Loads, pushed, top_act}
use Rattle.bqn_forms.specs.declared.function.Callee.{Callee}
use Rattle.bqn_forms.specs.declared.raised.Raised.{Raised}
use Rattle.bqn_forms.specs.Evaluation.{answer_at, output_of}

pub reverse-push : (xs : List ℤ) (x : ℤ) → reverse (xs ++ x ∷ []) ≡ x ∷ reverse xs
reverse-push xs x = reverse-append xs (x ∷ [])

module _ {K : Type 0} (written : K → Option (List ℕ)) (room faults : K → ℕ) where
  pub adds-all : (old new : K) (bytes : List ℕ) → Adds written room faults old new bytes → AddsPart written room faults old new bytes
  adds-all old new bytes a = record { front = bytes; rest = []; whole = sym (append-nil bytes); adds = a }

  -- a call that ends the run ends the instruction
  pub acts-calls : (answer : Result ℤ Raised) (output : List ℕ) (stack st : List ℤ) (old new : K) (e : End) → Calls written room faults answer output old new (Err e) → Acts written room faults (Some (record { answer = pushed stack answer; output = output })) st old new (Err e)
  acts-calls answer output stack st old new (end.Faulted f) h = (ap (pushed stack) h.0, h.1)
  acts-calls answer output stack st old new end.Memory h = h
  acts-calls answer output stack st old new end.WriteFault h = h
  acts-calls answer output stack st old new end.Done h = h
  acts-calls answer output stack st old new end.Spent h = h

  pub acts-call_top : (f : Callee) (left : Option ℤ) (items rest : List ℤ) (x z : ℤ) (st : List ℤ) (old new : K) (e : End) → items ≡ rest ++ x ∷ [] → z ≡ x → Calls written room faults (answer_at f left z) (output_of f.function left z) old new (Err e) → Acts written room faults (top_act f left (reverse items)) st old new (Err e)
  acts-call_top f left items rest x z st old new e at same h =
      rw (ap reverse at ∙ reverse-push rest x) (acts-calls (answer_at f left x) (output_of f.function left x) (reverse rest) st old new e
      (subst (λ (y : ℤ). Calls written room faults (answer_at f left y) (output_of f.function left y) old new (Err e)) same h))

  -- a name that is loaded writes nothing
  pub acts-loads : (answer : Result (List ℤ) Raised) (st : List ℤ) (k : K) (result : Result (Unit {0}) End) → Loads answer st result → Acts written room faults (Some (record { answer = answer; output = [] })) st k k result
  acts-loads answer st k (Ok u) h = (h, adds-nothing written room faults k)
  acts-loads answer st k (Err (end.Faulted f)) h = (h, adds-nothing written room faults k)
  acts-loads answer st k (Err end.Memory) h = adds-all k k [] (adds-nothing written room faults k)
  acts-loads answer st k (Err end.WriteFault) h = absurd h
  acts-loads answer st k (Err end.Done) h = absurd h
  acts-loads answer st k (Err end.Spent) h = absurd h

pub ruleset step_laws = (reverse-push, adds-nothing, adds-all, acts-loads)
