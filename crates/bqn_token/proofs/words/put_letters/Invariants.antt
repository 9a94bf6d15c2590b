use Rattle.std.proofs.Common.{◌≡◌, take}
use Rattle.bqn_syntax.specs.text.Words.{name_of}
use Rattle.bqn_token.proofs.words.put_letters.Given as goal

abbrev pub invariant-word : goal.invariant-word
invariant-word l = l.letters.items ≡ name_of (take l.c-index l.word)
