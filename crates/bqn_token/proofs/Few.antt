-- What the tokens of a source have, as the code gives them.
use Rattle.std.proofs.Common.{◌≤◌, ◌^◌, ℕ, List, Result, Ok, Err, length, arith}
use Rattle.std.specs.Prelude.{IfOk, Vec}
use Rattle.std.specs.List.{All}
use Rattle.std.specs.declared.alloc.Global.{Global}
use Rattle.bqn_syntax.specs.declared.token.Token.{Token}
use Rattle.bqn_syntax.specs.text.Fitting.{TokenFits, TokenBegins}
use Rattle.bqn_syntax.specs.text.Tokens.{tokens_of_text}
use Rattle.bqn_syntax.proofs.FittingTokens.{text_fits}
use Rattle.bqn_token.specs.declared.error.TokenError.{TokenError}
use Rattle.bqn_token.specs.Tokenizing.{Tokenizes}

pub given-few : (text : List ℕ) (given : Result (Vec Token Global) TokenError) → Tokenizes (tokens_of_text text) given → length text ≤ 2 ^ 20 → IfOk given (λ tokens. length tokens.items ≤ 2 ^ 20)
given-few text (Ok given) h short = (text_fits text given.items short h).few
given-few text (Err error) h short = tt

pub given-fit : (text : List ℕ) (given : Result (Vec Token Global) TokenError) → Tokenizes (tokens_of_text text) given → length text ≤ 2 ^ 20 → IfOk given (λ tokens. All TokenFits tokens.items)
given-fit text (Ok given) h short = (text_fits text given.items short h).fit
given-fit text (Err error) h short = tt

pub given-begin : (text : List ℕ) (given : Result (Vec Token Global) TokenError) → Tokenizes (tokens_of_text text) given → length text ≤ 2 ^ 20 → IfOk given (λ tokens. All TokenBegins tokens.items)
given-begin text (Ok given) h short = (text_fits text given.items short h).letters
given-begin text (Err error) h short = tt
