-- The stages between the bytes of a source and its tree, and what follows them.
use Rattle.std.proofs.Common.{◌≡◌, ℕ, List, [], Option, Result, Ok, Err, refl, sym, ap, subst}
use Rattle.bqn_base.specs.declared.refusal.Refusal.{Refusal}
use Rattle.bqn_base.specs.declared.status.Status.{Status}
use Rattle.bqn_base.specs.declared.status.Status.TheVariants as status
use Rattle.bqn_io.proofs.Writing.{adds-nothing}
use Rattle.bqn_cli.specs.declared.front.SourceError.{SourceError}
use Rattle.bqn_cli.specs.declared.front.SourceError.TheVariants as source
use Rattle.bqn_cli.specs.declared.halted.Halted.{Halted}
use Rattle.bqn_cli.specs.declared.halted.Halted.TheVariants as halted
use Rattle.bqn_cli.specs.Accepting.{AcceptsAs}
use Rattle.bqn_cli.specs.Answer.{Accepted, Answer, refused, then_if_well, unless_refused}
use Rattle.bqn_cli.specs.Writing.{Gives}

-- a stage that is passed, and a stage that refuses
module _ {A B V : Type 0} (view : V → B) (given : Result A Refusal) (go : A → Result B Refusal) where
  pub stage-passed : (a : A) (result : Result V SourceError) → given ≡ Ok a → AcceptsAs view (go a) result → AcceptsAs view (then_if_well given go) result
  stage-passed a result e h = subst (λ (r : Result A Refusal). AcceptsAs view (then_if_well r go) result) (sym e) h

  pub stage-refused : (r : Refusal) → given ≡ Err r → AcceptsAs view (then_if_well given go) (Err (source.Refused r))
  stage-refused r e = ap (λ (g : Result A Refusal). then_if_well g go) e

pub ruleset stage_laws = (stage-passed, stage-refused)

module _ {K : Type 0} (written : K → Option (List ℕ)) (room faults : K → ℕ) where
  pub answer-accepted : (answer_of : Accepted → Answer) (given : Result Accepted Refusal) (a : Accepted) (old new : K) (result : Result Status Halted) → given ≡ Ok a → Gives written room faults (answer_of a) old new result → Gives written room faults (unless_refused answer_of given) old new result
  answer-accepted answer_of given a old new result e h = subst (λ (r : Result Accepted Refusal). Gives written room faults (unless_refused answer_of r) old new result) (sym e) h

  pub answer-refused : (answer_of : Accepted → Answer) (given : Result Accepted Refusal) (r : Refusal) (old new : K) (result : Result Status Halted) → given ≡ Err r → Gives written room faults (refused r) old new result → Gives written room faults (unless_refused answer_of given) old new result
  answer-refused answer_of given r old new result e h = subst (λ (g : Result Accepted Refusal). Gives written room faults (unless_refused answer_of g) old new result) (sym e) h

  pub gives-nothing : (answer : Answer) (old : K) → Gives written room faults answer old old (Err halted.Memory)
  gives-nothing answer old = record { front = []; rest = answer.out; whole = refl; adds = adds-nothing written room faults old }

  pub gives-done : (old : K) → Gives written room faults (record { out = []; status = status.Done }) old old (Ok status.Done)
  gives-done old = (refl, adds-nothing written room faults old)

pub ruleset answer_laws = (answer-accepted, answer-refused, gives-nothing, gives-done)
