-- What the marks of a body show, and what a header is given as.
use Rattle.std.specs.Prelude.{◌≡◌, Option, Some, None, Result, Ok, Err}
use Rattle.std.specs.Option.{option_map}
use Rattle.bqn_syntax.specs.declared.pattern.Header.{Header as CodeHeader}
use Rattle.bqn_syntax.specs.grammar.Trees.{Header, header_of}
use Rattle.bqn_syntax.specs.grammar.Classes.{Marks}
use Rattle.bqn_headers.specs.declared.class.BodyMarks.{BodyMarks}
use Rattle.bqn_headers.specs.declared.error.HeadError.{HeadError}
use Rattle.bqn_headers.specs.declared.error.HeadError.TheVariants.{Bad, Memory}

abbrev pub marks_shown : BodyMarks → Marks
marks_shown m = record {
  header = option_map header_of m.header;
  predicate = m.predicate;
  statements = m.statements;
  seen = record { args = m.args; one = m.one; one_self = m.one_self; two = m.two };
}

-- this is found, or there is none; out of memory says nothing
abbrev pub Finds : {A X : Type 0} → Option A → (X → A) → Result X HeadError → Type 0
Finds answer shown (Ok x) = answer ≡ Some (shown x)
Finds answer shown (Err Bad) = answer ≡ None
Finds answer shown (Err Memory) = Unit {0}

-- what is shown now is this, or there is none; out of memory says nothing
abbrev pub Moves : {A : Type 0} → Option A → A → Result (Unit {0}) HeadError → Type 0
Moves answer new (Ok done) = answer ≡ Some new
Moves answer new (Err Bad) = answer ≡ None
Moves answer new (Err Memory) = Unit {0}

-- the header that is given is this one, or there is none; out of memory says nothing
abbrev pub Gives : Option Header → Result CodeHeader HeadError → Type 0
Gives answer (Ok h) = answer ≡ Some (header_of h)
Gives answer (Err Bad) = answer ≡ None
Gives answer (Err Memory) = Unit {0}
