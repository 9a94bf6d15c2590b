-- What drafts stand for.
use Rattle.std.specs.Prelude.{map}
use Rattle.bqn_syntax.specs.grammar.Trees.{Part, Derived, Leaf, Elements, Merge, Paren, Block, Field, Strand, Nothing, derived, exprs, no_uses, parts, uses, block_of, expr_of, part_of, use_of}
use Rattle.bqn_parse.specs.declared.draft.Draft.{Draft}
use Rattle.bqn_parse.specs.declared.draft.Draft.TheVariants as draft
use Rattle.bqn_parse.specs.declared.draft.Field.{Field as FieldDraft}
use Rattle.bqn_parse.specs.declared.draft.Function.{Function}
use Rattle.bqn_parse.specs.declared.draft.Function.TheVariants as function
use Rattle.bqn_parse.specs.declared.draft.Modified.{Modified}

abbrev pub field_of : FieldDraft → Part
field_of f = Field (part_of f.base) f.names.items

abbrev pub draft_of : Draft → Part
draft_of (draft.Token t) = Leaf t.now
draft_of (draft.Nothing skip) = Nothing skip.now.place
draft_of (draft.List es) = Elements (exprs (map expr_of es))
draft_of (draft.Merge es) = Merge (exprs (map expr_of es))
draft_of (draft.Paren e) = Paren (expr_of e)
draft_of (draft.Block b) = Block (block_of b)
draft_of (draft.Field f) = field_of f
draft_of (draft.Strand ps) = Strand (parts (map part_of ps))

abbrev pub modified_of : Modified → Derived
modified_of m = derived (draft_of m.first) (uses (map use_of m.uses.items))

abbrev pub function_of : Function → Derived
function_of (function.Plain x) = derived (draft_of x) no_uses
function_of (function.Modified m) = modified_of m
