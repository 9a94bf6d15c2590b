use Rattle.std.proofs.Common.{◌∙◌, sym}
use Rattle.bqn_compile.proofs.Keys.{place-shown}
use Rattle.bqn_compile.proofs.pools.place_of_constant.Goals as goal

pub returns : goal.returns
returns c = c.get_index_of.ensures.index ∙ sym (place-shown c.args.key.now c.args.constants.now.keys)
