-- What is told of a source: that it is accepted, or why it is not.
use Rattle.std.specs.Prelude.{◌≡◌, Result, Ok, Err}
use Rattle.bqn_base.specs.declared.refusal.Refusal.{Refusal}
use Rattle.bqn_syntax.specs.grammar.Trees.{tree_of}
use Rattle.bqn_cli.specs.declared.front.AcceptedSource.{AcceptedSource}
use Rattle.bqn_cli.specs.declared.front.SourceError.{SourceError}
use Rattle.bqn_cli.specs.declared.front.SourceError.TheVariants.{Refused, Memory}
use Rattle.bqn_cli.specs.Answer.{Accepted}

abbrev pub accepted_of : AcceptedSource → Accepted
accepted_of source = record { tokens = source.tokens.items; stmts = tree_of source.tree }

-- what is accepted shows this, or there is this refusal; want of memory says nothing
abbrev pub AcceptsAs : {A V : Type 0} → (V → A) → Result A Refusal → Result V SourceError → Type 0
AcceptsAs view answer (Ok value) = answer ≡ Ok (view value)
AcceptsAs view answer (Err (Refused r)) = answer ≡ Err r
AcceptsAs view answer (Err Memory) = Unit {0}
