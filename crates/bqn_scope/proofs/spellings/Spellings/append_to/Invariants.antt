use Rattle.std.proofs.Common.{◌≡◌, ◌++◌, take}
use Rattle.bqn_scope.specs.Names.{AreNames, spelled}
use Rattle.bqn_scope.proofs.spellings.Spellings.append_to.Given as goal

abbrev pub invariant-spellings : goal.invariant-spellings
invariant-spellings l = record {
  told : l.names.items ≡ l.initial.names.items ++ spelled (take l.spelling-index l.spelling-items);
  whole : spelled l.spelling-items ≡ l.self;
  alphabet : AreNames l.spelling-items;
}
