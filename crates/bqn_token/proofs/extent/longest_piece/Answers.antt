use Rattle.std.proofs.Common.{sym, ◌∙◌}
use Rattle.bqn_token.proofs.Runs.{word-longest}
use Rattle.bqn_token.proofs.extent.longest_piece.Goals as goal

pub returns-in-Some : goal.returns-in-Some
returns-in-Some c = sym (word-longest c.args.text.now c.in-Some.count (sym c.word_length.ensures ∙ c.in-Some.is) c.if-count-gt0.true)
