-- The places of instructions: as many as there are instructions where a code has places, and else none.
use Rattle.std.specs.Prelude.{Bool, true, false, length, nat_eq, List}
use Rattle.std.specs.List.{list_all}
use Rattle.bqn_code.specs.declared.code.Body.{Body}
use Rattle.bqn_code.specs.declared.code.Block.{Block}

-- whether a body has a place for each instruction, or none
abbrev pub has_places : (placed : Bool) → Body → Bool
has_places true body = nat_eq (length body.places) (length body.code)
has_places false body = nat_eq (length body.places) 0

abbrev pub have_places : (placed : Bool) → List Block → Bool
have_places placed blocks = list_all (λ block. list_all (has_places placed) block.bodies) blocks
