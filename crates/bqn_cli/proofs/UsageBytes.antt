-- The bytes of the usage line.
use Rattle.std.proofs.Common.{◌≡◌, refl}
use Rattle.std.proofs.Math.Utf8.{encodes, encode}
use Rattle.bqn_base.specs.Printed.{usage_line}

pub encodes-usage_line : encodes usage_line ≡ usage_line
unfolding encode
encodes-usage_line = refl

pub ruleset usage_laws = (encodes-usage_line)
