use Rattle.std.proofs.Common.{◌≡◌, drop}
use Rattle.bqn_syntax.specs.text.Words.{begins_with_letter}
use Rattle.bqn_token.proofs.words.begins_with_a_letter.Given as goal

abbrev pub invariant-word : goal.invariant-word
invariant-word l = begins_with_letter (drop l.c-index l.word) ≡ begins_with_letter l.word
