-- What a command line is answered: the bytes to write, and the status. This project's own.
use Rattle.std.specs.Prelude.{◌≡◌, ℕ, List, [], ◌++◌, Option, Some, None, Result, Ok, Err, encode_utf8_all}
use Rattle.bqn_base.specs.declared.refusal.Refusal.{Refusal}
use Rattle.bqn_base.specs.declared.refusal.Refusal.TheVariants.{NotYet}
use Rattle.bqn_base.specs.declared.status.Status.{Status}
use Rattle.bqn_base.specs.declared.status.Status.TheVariants as status
use Rattle.bqn_base.specs.Printed.{error_line, refusal_line, usage_line}
use Rattle.bqn_io.specs.Devices.{Told, Untold, Missing, Kept}
use Rattle.bqn_syntax.specs.declared.token.Token.{Token}
use Rattle.bqn_forms.specs.Tree.{Stmt}
use Rattle.bqn_syntax.specs.text.Tokens.{tokens_of_source}
use Rattle.bqn_syntax.specs.grammar.Trees.{Stmts}
use Rattle.bqn_syntax.specs.grammar.Parsing.{parsed}
use Rattle.bqn_syntax.specs.scope.Bodies.{Resolution, resolution}
use Rattle.bqn_forms.specs.declared.raised.Raised.{Raised}
use Rattle.bqn_forms.specs.Form.{form_of}
use Rattle.bqn_forms.specs.Evaluation.{Res, Gives, Faults, Spends, evaluated}
use Rattle.bqn_compile.specs.Translation.{translated}
use Rattle.bqn_cli.specs.Command.{Command, Run, Check, NoCommand}

pub record Answer : Type 0 where
  pub out : List ℕ
  pub status : Status

-- the steps that a run has where none are asked for
abbrev pub default_steps : ℕ
default_steps = 1000000

-- the line of a refusal
abbrev pub refused : Refusal → Answer
refused refusal = record { out = encode_utf8_all (refusal_line refusal); status = status.Refused }

-- the bytes of the line of an uncaught fault
abbrev pub fault_line : Raised → List ℕ
fault_line raised = encode_utf8_all (error_line raised.fault (Some raised.place))

abbrev pub faulted : Raised → Answer
faulted raised = record { out = fault_line raised; status = status.Fault }

-- what was written, and behind it the line of an uncaught fault
abbrev pub ended : Res (Unit {0}) → Answer
ended (Gives u s) = record { out = s.written; status = status.Done }
ended (Faults raised s) = record { out = s.written ++ fault_line raised; status = status.Fault }
ended (Spends s) = record { out = s.written; status = status.Spent }

abbrev pub form_answer : Option (List Stmt) → Answer
form_answer None = refused NotYet
form_answer (Some form) = ended (evaluated form default_steps)

-- the tokens of a source that is not refused, and their tree
pub record Accepted : Type 0 where
  pub tokens : List Token
  pub stmts : Stmts

-- what follows, where there is no refusal
abbrev pub then_if_well : {A B : Type 0} → Result A Refusal → (A → Result B Refusal) → Result B Refusal
then_if_well (Err refusal) go = Err refusal
then_if_well (Ok a) go = go a

-- a tree with its names, where it passes no limit of constants, names and blocks
abbrev pub within_limits : Stmts → Resolution → Result Stmts Refusal
within_limits stmts names = then_if_well (translated names stmts) (λ code. Ok stmts)

-- a tree that breaks no rule of scope; no names are known before a source
abbrev pub well_scoped : Stmts → Result Stmts Refusal
well_scoped stmts = then_if_well (resolution [] stmts) (within_limits stmts)

-- the tree of a token list that breaks no rule of brackets and grammar
abbrev pub well_formed : List Token → Result Stmts Refusal
well_formed tokens = then_if_well (parsed tokens) well_scoped

abbrev pub accepted_tokens : List Token → Result Accepted Refusal
accepted_tokens tokens = then_if_well (well_formed tokens) (λ stmts. Ok (record { tokens = tokens; stmts = stmts }))

-- a source that breaks none of these rules and none of text and tokens, or its first refusal
abbrev pub accepted : List ℕ → Result Accepted Refusal
accepted source = then_if_well (tokens_of_source source) accepted_tokens

-- the line of a source's refusal, or the answer to an accepted source
abbrev pub unless_refused : (Accepted → Answer) → Result Accepted Refusal → Answer
unless_refused answer_of (Err refusal) = refused refusal
unless_refused answer_of (Ok source) = answer_of source

-- what `run` answers to a source
abbrev pub run_answer : List ℕ → Answer
run_answer source = unless_refused (λ a. form_answer (form_of a.tokens a.stmts)) (accepted source)

-- what `check` answers to a source: nothing is written where it is accepted
abbrev pub check_answer : List ℕ → Answer
check_answer source = unless_refused (λ a. record { out = []; status = status.Done }) (accepted source)

abbrev pub usage_answer : Answer
usage_answer = record { out = encode_utf8_all usage_line; status = status.Usage }

-- the answer to some source, where nothing is told of the file
pub record AnswersSome (answer_of : List ℕ → Answer) (answer : Answer) : Type 0 where
  pub source : List ℕ
  pub is : answer ≡ answer_of source

-- the answer to the source in a file; a file that is not kept can't be read
abbrev pub FileAnswers : (List ℕ → Answer) → Told → Answer → Type 0
FileAnswers answer_of Untold answer = AnswersSome answer_of answer
FileAnswers answer_of Missing answer = answer ≡ record { out = []; status = status.ReadFault }
FileAnswers answer_of (Kept source) answer = answer ≡ answer_of source

-- the answer to a command, by what is told of the files
abbrev pub Answers : Command → (List ℕ → Told) → Answer → Type 0
Answers (Run file) told answer = FileAnswers run_answer (told file) answer
Answers (Check file) told answer = FileAnswers check_answer (told file) answer
Answers NoCommand told answer = answer ≡ usage_answer
