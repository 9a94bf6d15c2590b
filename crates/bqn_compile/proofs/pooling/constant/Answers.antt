use Rattle.std.proofs.Common.{rules, ◌≡◌, ◌<◌, ◌∙◌, ap, sym, length, List, Option, Some, None, Ok}
use Rattle.bqn_code.specs.declared.constant.Const.{Const}
use Rattle.bqn_compile.specs.Gathering.{Gathered, the_most}
use Rattle.bqn_compile.specs.Gathering as gather
use Rattle.bqn_compile.specs.Pools.{constant_of, place_among}
use Rattle.bqn_compile.specs.Shown.{constants_shown, gathered_shown, key_shown}
use Rattle.bqn_compile.proofs.Keys.{constant-new, key-inserted, shorter-shown}
use Rattle.bqn_compile.proofs.pooling.constant.Goals as goal

pub returns : goal.returns
returns c =
    let g : Gathered = gathered_shown c.args.pools.now in
    let keys = c.args.pools.now.constants.keys in
    let is : constant_of c.args.kind.now ≡ Some (key_shown c.in-Some.key) = search rules in
    let absent : place_among (constants_shown keys) (key_shown c.in-Some.key) ≡ None = search rules in
    let room : length keys < 65535 = search rules in
    ap (λ (o : Option Const). gather.constant the_most o c.args.place g) is
    ∙ constant-new (key_shown c.in-Some.key) c.args.place g absent (shorter-shown 65535 keys room)
    ∙ ap (λ (cs : List Const). Ok (record g { constants = cs })) (sym (ap constants_shown c.in_ok-insert_full.ensures.keys ∙ key-inserted c.in-Some.key keys absent))
