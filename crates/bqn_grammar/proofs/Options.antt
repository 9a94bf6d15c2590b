-- What a given option came from.
use Rattle.std.proofs.Common.{◌≡◌, Option, Some, None, refl}
use Rattle.std.specs.Option.{option_map, option_and_then}

pub and_then_some : {A B : Type 0} (f : A → Option B) (m : Option A) (y : B) → option_and_then f m ≡ Some y → (x : A) × (m ≡ Some x) × (f x ≡ Some y)
and_then_some f None y e = absurd (cc)
and_then_some f (Some x) y e = (x, refl, e)

pub map_some : {A B : Type 0} (f : A → B) (m : Option A) (y : B) → option_map f m ≡ Some y → (x : A) × (m ≡ Some x) × (f x ≡ y)
map_some f None y e = absurd (cc)
map_some f (Some x) y e = (x, refl, (cc))
