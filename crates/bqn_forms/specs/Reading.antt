-- What reading a source gives, layer by layer.
use Rattle.std.specs.Prelude.{◌≡◌, ℕ, List, map, Option, Some, None, Result, Ok, Err, Vec}
use Rattle.bqn_forms.specs.declared.error.CompileError.{CompileError}
use Rattle.bqn_forms.specs.declared.error.CompileError.TheVariants.{NotYet, Memory}

-- what is read shows this, or it is not of the form; want of memory says nothing
abbrev pub ReadsAs : {A V : Type 0} → (V → A) → Option A → Result V CompileError → Type 0
ReadsAs view answer (Ok value) = answer ≡ Some (view value)
ReadsAs view answer (Err NotYet) = answer ≡ None
ReadsAs view answer (Err Memory) = Unit {0}

-- the names that these keys spell
abbrev pub spelled : {A : Type 0} → List (Vec ℕ A) → List (List ℕ)
spelled keys = map (λ key. key.items) keys
