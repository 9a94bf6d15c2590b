-- The code of a tree is its translation with the pools that are gathered from it.
use Rattle.std.proofs.Common.{◌≡◌, Result, Ok, Err, refl, ap, subst}
use Rattle.bqn_base.specs.declared.refusal.Refusal.{Refusal}
use Rattle.bqn_syntax.specs.grammar.Trees.{Stmts}
use Rattle.bqn_syntax.specs.scope.Bodies.{Resolution}
use Rattle.bqn_code.specs.Plain.{Code}
use Rattle.bqn_compile.specs.Gathering.{Gathered, the_most, gathered}
use Rattle.bqn_compile.specs.Translation.{translation, with_pools, translated}

-- the pools that are gathered, and the code with them
pub record IsTranslation (r : Resolution) (ss : Stmts) (code : Code) : Type 0 where
  pub pools : Gathered
  pub gathers : gathered the_most r.uses ss ≡ Ok pools
  pub is : translation r pools ss ≡ code

abbrev code_in : Code → Result Code Refusal → Code
code_in other (Ok code) = code
code_in other (Err refusal) = other

pub is_translation : (r : Resolution) (ss : Stmts) (code : Code) → translated r ss ≡ Ok code → IsTranslation r ss code
is_translation r ss code q = by (gathered the_most r.uses ss) refl q
  where
    by : (o : Result Gathered Refusal) → gathered the_most r.uses ss ≡ o → with_pools r ss o ≡ Ok code → IsTranslation r ss code
    by (Ok pools) e q = record { pools = pools; gathers = e; is = ap (λ (o : Result Code Refusal). code_in code o) q }
    by (Err refusal) e q = absurd (subst (λ (o : Result Code Refusal). elim o as (λ z. Type 0) [ Ok z ↦ ⊥ | Err x ↦ Unit {0} ]) q tt)
