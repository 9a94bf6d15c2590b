-- The constants and names of a code by their numbers, and what a name refers to.
use Rattle.std.specs.Prelude.{ℕ, nat_eq, Bool, false, List, position, slice_get, Option, Some, None}
use Rattle.std.specs.Ordering.{int_eq}
use Rattle.std.specs.Cmp.Lexicographic.{pointwise}
use Rattle.bqn_syntax.specs.declared.token.Kind.{Kind}
use Rattle.bqn_syntax.specs.declared.token.Kind.TheVariants as kind
use Rattle.bqn_syntax.specs.scope.Scope.{Seen, Use, place_of}
use Rattle.bqn_code.specs.declared.constant.Const.{Const}
use Rattle.bqn_code.specs.declared.constant.Const.TheVariants as const

-- the constant that a literal spells
abbrev pub constant_of : Kind → Option Const
constant_of (kind.Number z) = Some (const.Number z)
constant_of (kind.Char c) = Some (const.Char c)
constant_of (kind.Text cs) = Some (const.Text cs)
constant_of _ = None

abbrev pub same_constant : Const → Const → Bool
same_constant (const.Number y) (const.Number z) = int_eq y z
same_constant (const.Char c) (const.Char d) = nat_eq c d
same_constant (const.Text cs) (const.Text ds) = pointwise nat_eq cs ds
same_constant _ _ = false

abbrev pub place_among : List Const → Const → Option ℕ
place_among constants c = position (same_constant c) constants

-- what is pooled has a number
abbrev pub or_none : Option ℕ → ℕ
or_none None = 0
or_none (Some n) = n

abbrev pub constant_number : List Const → Const → ℕ
constant_number constants c = or_none (place_among constants c)

abbrev pub name_number : List (List ℕ) → List ℕ → ℕ
name_number names name = or_none (place_of names name)

-- what this use refers to; each name token has one
abbrev pub seen_in : Option Use → Seen
seen_in None = record { up = 0; slot = 0 }
seen_in (Some use') = use'.seen

abbrev pub seen_at : List Use → ℕ → Seen
seen_at uses k = seen_in (slice_get uses k)
