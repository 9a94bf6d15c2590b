use Rattle.std.proofs.Common.{refl, false, ap, sym, Ok}
use Rattle.bqn_parse.proofs.Looking.{opens-shown, opens-found}
use Rattle.bqn_parse.specs.Looking.{looks_shown}
use Rattle.bqn_syntax.specs.grammar.Looks.{first_of}
use Rattle.bqn_parse.proofs.looks.look.Goals as goal

pub returns-in_ok-push-in-Opens-clause-looks : goal.returns-in_ok-push-in-Opens-clause-looks
returns-in_ok-push-in-Opens-clause-looks c = ap Ok (sym (opens-shown c.args.sort c.in-Opens.field-0 c.args.looks.now (record { here = record { arrow = false; element = c.leave-behind.result.arrow; colon = c.leave-behind.result.colon }; outer = c.leave-behind.new.outer }) c.leave-behind.result c.in-Opens.is c.leave-behind.ensures.first c.leave-behind.ensures.rest refl))

pub returns-in_ok-push-in-Opens-clause-found : goal.returns-in_ok-push-in-Opens-clause-found
returns-in_ok-push-in-Opens-clause-found c = ap Ok (sym (opens-found c.args.sort c.in-Opens.field-0 (first_of (looks_shown c.args.looks.now).outer) c.leave-behind.result c.args.found.now.items c.push.new.self.items c.in-Opens.is c.leave-behind.ensures.first c.in_ok-push-in-Opens.ensures.items))
