-- The code of a source that is accepted is verified, and does what the source means.
use Rattle.std.proofs.Common.{[]}
use Rattle.bqn_compile.proofs.Accepted.{accepted_trees}
use Rattle.bqn_compile.proofs.verified.TranslatedCode.{code_verified}
use Rattle.bqn_simulation.specs.Accepted.{AcceptedSourcesHaveRightCode}
use Rattle.bqn_simulation.proofs.standing.AllLines.{code_does}

pub accepted_code : AcceptedSourcesHaveRightCode
accepted_code bytes tree code a =
    let from = accepted_trees [] bytes a.tokens tree a.names a.reads a.finds a.resolves in
    record {
      verified = code_verified [] tree a.tokens a.names code from a.translates;
      runs = λ words steps. code_does tree a.tokens a.names code from a.translates words steps;
    }
