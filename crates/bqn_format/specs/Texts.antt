-- What stands behind the name of a refusal.
use Rattle.std.specs.Prelude.{ℕ, List, [], ◌++◌, codes, decimal}
use Rattle.bqn_base.specs.Printed.{place_text}
use Rattle.bqn_format.specs.declared.lines.Where.{Where}
use Rattle.bqn_format.specs.declared.lines.Where.TheVariants.{Nowhere, Byte, Place}

-- nothing, the bytes before it, or its place
abbrev pub where_text : Where → List ℕ
where_text Nowhere = []
where_text (Byte at) = codes " at byte " ++ decimal at
where_text (Place place) = codes " " ++ place_text place
