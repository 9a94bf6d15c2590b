-- What so many parts of a train are read as: an odd number leaves one part, an even one two.
use Rattle.std.proofs.Common.{◌≡◌, ℕ, zero, suc, ◌+◌, arith, refl, ap, ◌∙◌}
use Rattle.bqn_compile.specs.declared.read.Read.{Read}
use Rattle.bqn_compile.specs.declared.read.Read.TheVariants as read
use Rattle.bqn_compile.specs.Expressions.{and_one}
use Rattle.bqn_compile.specs.Walking.{reads}

thrice : (r : Read) → and_one (and_one (and_one r)) ≡ and_one r
thrice read.No = refl
thrice read.One = refl
thrice read.Two = refl

two-more : (k : ℕ) → suc (suc k + suc k) ≡ suc (suc (suc (k + k)))
two-more k = omega arith

pub reads-odd : (k : ℕ) → reads (suc (k + k)) ≡ read.One
reads-odd zero = refl
reads-odd (suc k) = ap reads (two-more k) ∙ thrice (reads (k + k)) ∙ reads-odd k

pub reads-even : (k : ℕ) → reads (suc (suc (k + k))) ≡ read.Two
reads-even k = ap and_one (reads-odd k)
