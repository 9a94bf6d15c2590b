-- Verified code: each instruction has its operands and its objects. It is this project's own.
use Rattle.std.specs.Prelude.{IsTrue}
use Rattle.bqn_code.specs.Plain.{Code}
use Rattle.bqn_code.specs.Conditions as is

pub record Verified (code : Code) : Type 0 where
  -- block 0 is the program
  pub program : IsTrue (is.has_program code)
  pub parents : IsTrue (is.parents_come_first code)
  pub blocks_inside : IsTrue (is.blocks_stand_in_parents code)
  pub immediate : IsTrue (is.immediate_blocks_are_run code)
  pub bodies : IsTrue (is.blocks_have_bodies code)
  pub kinds : IsTrue (is.kinds_fit code)
  pub constants : IsTrue (is.constants_are_there code)
  pub names : IsTrue (is.names_are_there code)
  pub patterns : IsTrue (is.patterns_are_there code)
  pub given_values : IsTrue (is.given_values_are_there code)
  pub letters : IsTrue (is.names_begin_with_letters code)
  pub slots : IsTrue (is.slots_are_there code)
  pub literals : IsTrue (is.literals_are_matched code)
  pub flat_patterns : IsTrue (is.patterns_are_flat code)
  pub classes : IsTrue (is.classes_fit code)
  pub exports : IsTrue (is.exports_are_there code)
  pub distinct_exports : IsTrue (is.exports_are_distinct code)
  pub few_constants : IsTrue (is.constants_are_few code)
  pub few_names : IsTrue (is.names_are_few code)
  pub few_patterns : IsTrue (is.patterns_are_few code)
  pub few_blocks : IsTrue (is.blocks_are_few code)
  pub stacks : IsTrue (is.stacks_are_balanced code)
