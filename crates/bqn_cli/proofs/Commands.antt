-- A command with a file, from what the fetch gave to what is promised.
use Rattle.std.proofs.Common.{◌≡◌, ◌≤◌, ◌<◌, ℕ, zero, suc, ℤ, Bool, true, false, List, [], ◌∷◌, length, slice_get, Option, Some, None, Result, Ok, Err, refl, sym, ap, subst, arith}
use Rattle.std.specs.Prelude.{nat_lt}
use Rattle.std.specs.Str.{is_utf8, chars}
use Rattle.std.specs.Str.Lossy.{utf8_valid_len}
use Rattle.std.proofs.lemmas.Bool.Decides.{nat_tests}
use Rattle.bqn_base.specs.declared.place.Place.{Place}
use Rattle.bqn_base.specs.declared.refusal.Refusal.{Refusal}
use Rattle.bqn_base.specs.declared.refusal.Refusal.TheVariants.{TooLong, NotUtf8}
use Rattle.bqn_base.specs.declared.status.Status.{Status}
use Rattle.bqn_base.specs.declared.status.Status.TheVariants as status
use Rattle.bqn_io.specs.declared.files.Fetched.{Fetched}
use Rattle.bqn_io.specs.declared.files.Fetched.TheVariants as fetched
use Rattle.bqn_io.specs.declared.files.FetchError.TheVariants as error
use Rattle.bqn_io.specs.Devices.{Rose, Told, Untold, Missing, Kept, Fetches, IsKept, IsNoFailure as FetchIsNoFailure}
use Rattle.bqn_io.specs.Writing.{Adds, AddsPart, Breaks}
use Rattle.bqn_io.proofs.Writing.{added-nil}
use Rattle.bqn_syntax.specs.declared.token.Token.{Token}
use Rattle.bqn_syntax.specs.text.Text.{text_of, without_returns}
use Rattle.bqn_syntax.specs.text.Tokens.{tokens_of_text}
use Rattle.bqn_forms.specs.declared.function.Callee.{Callee}
use Rattle.bqn_forms.specs.declared.raised.Raised.{Raised}
use Rattle.bqn_forms.specs.Tree.{Part, Number, Name, Paren, Expr, Value as Alone, Apply1, Apply2, Stmt}
use Rattle.bqn_forms.specs.Form.{form_of}
use Rattle.bqn_forms.specs.Evaluation.{State, Res, Gives as Value, Faults, Spends, M, then_do, answered, answer_at, output_of, wrote, call, known_value, stored, eval_part, eval_expr, eval_statements, evaluated}
use Rattle.bqn_cli.specs.declared.halted.Halted.{Halted}
use Rattle.bqn_cli.specs.declared.halted.Halted.TheVariants as halted
use Rattle.bqn_cli.specs.declared.words.Task.{Task}
use Rattle.bqn_cli.specs.declared.words.Task.TheVariants as task
use Rattle.bqn_cli.specs.Answer.{Accepted, Answer, Answers, FileAnswers, accepted, accepted_tokens, then_if_well, unless_refused, run_answer, check_answer, form_answer, ended, refused, default_steps}
use Rattle.bqn_cli.specs.Headline.{Whole, Prefix, Cause, Fits, FileFits, LeavesFiles, Meets}
use Rattle.bqn_cli.specs.Tasks.{task_answer, task_command}
use Rattle.bqn_cli.specs.Writing.{Gives, fetched_answer, status_of}

abbrev text_if : Bool → List ℕ → Result (List ℕ) Refusal
text_if b source = elim b [ true ↦ Err TooLong | false ↦ elim (is_utf8 source) [ true ↦ Ok (without_returns (chars source)) | false ↦ Err (NotUtf8 (utf8_valid_len source)) ] ]

over : (n : ℕ) → 1048576 < n → nat_lt 1048576 n ≡ true
over n h = grind (arith, nat_tests)

text_of-long : (source : List ℕ) → 1048576 < length source → text_of source ≡ Err TooLong
text_of-long source long = ap (λ (b : Bool). text_if b source) (over (length source) long)

abbrev tokens_if : Result (List ℕ) Refusal → Result (List Token) Refusal
tokens_if text = elim text [ Ok t ↦ tokens_of_text t | Err r ↦ Err r ]

-- a source that is too long is refused as such, by both commands
accepted-long : (source : List ℕ) → 1048576 < length source → accepted source ≡ Err TooLong
accepted-long source long = ap (λ (text : Result (List ℕ) Refusal). then_if_well (tokens_if text) accepted_tokens) (text_of-long source long)

task_answer-long : (t : Task) (source : List ℕ) → 1048576 < length source → task_answer t source ≡ refused TooLong
task_answer-long task.Run source long = ap (λ (a : Result Accepted Refusal). unless_refused (λ a. form_answer (form_of a.tokens a.stmts)) a) (accepted-long source long)
task_answer-long task.Check source long = ap (λ (a : Result Accepted Refusal). unless_refused (λ a. record { out = []; status = status.Done }) a) (accepted-long source long)

-- a list of more bytes
record Longer (n : ℕ) : Type 0 where
  bytes : List ℕ
  long : n < length bytes

one_longer : (n : ℕ) → Longer n → Longer (suc n)
one_longer n l = record { bytes = 0 ∷ l.bytes; long = (let h = l.long in omega arith) }

longer : (n : ℕ) → Longer n
longer zero = record { bytes = 0 ∷ []; long = omega arith }
longer (suc n) = one_longer n (longer n)

-- what was fetched has the answer of the file
answers-fetched : (t : Task) (told : Told) (given : Fetched) → Fetches told 1048576 (Ok given) → FileAnswers (task_answer t) told (fetched_answer (task_answer t) given)
answers-fetched t Untold (fetched.Whole bytes) h = record { source = bytes; is = refl }
answers-fetched t Untold fetched.Longer h = let l = longer 1048576 in record { source = l.bytes; is = sym (task_answer-long t l.bytes l.long) }
answers-fetched t Missing given h = absurd h
answers-fetched t (Kept kept) (fetched.Whole bytes) h = ap (task_answer t) h.0
answers-fetched t (Kept kept) fetched.Longer h = sym (task_answer-long t kept h)

-- the answers to a file
record SomeAnswer (t : Task) (told : Told) : Type 0 where
  answer : Answer
  answers : FileAnswers (task_answer t) told answer

some_answer : (t : Task) (told : Told) → SomeAnswer t told
some_answer t Untold = record { answer = task_answer t []; answers = record { source = []; is = refl } }
some_answer t Missing = record { answer = record { out = []; status = status.ReadFault }; answers = refl }
some_answer t (Kept source) = record { answer = task_answer t source; answers = refl }

-- the statuses with which a command answers a source
abbrev IsStatusOf : Task → Status → Type 0
IsStatusOf t status.Done = Unit {0}
IsStatusOf t status.Refused = Unit {0}
IsStatusOf task.Run status.Fault = Unit {0}
IsStatusOf _ _ = ⊥

abbrev HasSteps : {A : Type 0} → Res A → Type 0
HasSteps (Value v s) = Unit {0}
HasSteps (Faults f s) = Unit {0}
HasSteps (Spends s) = ⊥

has_steps-then : {A B : Type 0} (r : Res A) (go : A → M B) → HasSteps r → ((v : A) (s : State) → HasSteps (go v s)) → HasSteps (then_do r go)
has_steps-then (Value v s) go h k = k v s
has_steps-then (Faults f s) go h k = tt
has_steps-then (Spends s) go h k = absurd h

has_steps-answered : (r : Result ℤ Raised) (s : State) → HasSteps (answered r s)
has_steps-answered (Ok y) s = tt
has_steps-answered (Err f) s = tt

has_steps-known : (place : Place) (o : Option ℤ) (s : State) → HasSteps (known_value place o s)
has_steps-known place None s = tt
has_steps-known place (Some v) s = tt

has_steps-call : (f : Callee) (left : Option ℤ) (x : ℤ) (s : State) → HasSteps (call f left x s)
has_steps-call f left x s = has_steps-answered (answer_at f left x) (wrote s (output_of f.function left x))

-- no step is taken behind the first
mutual
  has_steps-part : (part : Part) (s : State) → HasSteps (eval_part part s)
  has_steps-part (Number z) s = tt
  has_steps-part (Name number place) s = has_steps-known place (slice_get s.vars number) s
  has_steps-part (Paren e) s = has_steps-expr e s

  has_steps-expr : (e : Expr) (s : State) → HasSteps (eval_expr e s)
  has_steps-expr (Alone part) s = has_steps-part part s
  has_steps-expr (Apply1 f e) s = has_steps-then (eval_expr e s) (λ x. call f None x) (has_steps-expr e s) (λ x t. has_steps-call f None x t)
  has_steps-expr (Apply2 f left e) s =
      has_steps-then (eval_expr e s) (λ x u. then_do (eval_part left u) (λ w. call f (Some w) x)) (has_steps-expr e s) (λ x t.
      has_steps-then (eval_part left t) (λ w. call f (Some w) x) (has_steps-part left t) (λ w u. has_steps-call f (Some w) x u))

has_steps-stored : (target : Option ℕ) (v : ℤ) (s : State) → HasSteps (stored target v s)
has_steps-stored None v s = tt
has_steps-stored (Some number) v s = tt

has_steps-statements : (sts : List Stmt) (s : State) → HasSteps (eval_statements sts s)
has_steps-statements [] s = tt
has_steps-statements (st ∷ sts) s =
    has_steps-then (eval_expr st.value s) (λ v u. then_do (stored st.target v u) (λ y. eval_statements sts)) (has_steps-expr st.value s) (λ v t.
    has_steps-then (stored st.target v t) (λ y. eval_statements sts) (has_steps-stored st.target v t) (λ y u. has_steps-statements sts u))

ended-status : (r : Res (Unit {0})) → HasSteps r → IsStatusOf task.Run (ended r).status
ended-status (Value u s) h = tt
ended-status (Faults f s) h = tt
ended-status (Spends s) h = absurd h

form_answer-status : (form : Option (List Stmt)) → IsStatusOf task.Run (form_answer form).status
form_answer-status None = tt
form_answer-status (Some form) = ended-status (evaluated form default_steps) (has_steps-statements form (record { written = []; left = 999999; vars = [] }))

source-status : (t : Task) (source : List ℕ) → IsStatusOf t (task_answer t source).status
source-status task.Run source = go (accepted source)
  where
    go : (given : Result Accepted Refusal) → IsStatusOf task.Run (unless_refused (λ a. form_answer (form_of a.tokens a.stmts)) given).status
    go (Ok a) = form_answer-status (form_of a.tokens a.stmts)
    go (Err r) = tt
source-status task.Check source = go (accepted source)
  where
    go : (given : Result Accepted Refusal) → IsStatusOf task.Check (unless_refused (λ a. record { out = []; status = status.Done }) given).status
    go (Ok a) = tt
    go (Err r) = tt

fetched-status : (t : Task) (given : Fetched) → IsStatusOf t (fetched_answer (task_answer t) given).status
fetched-status t (fetched.Whole source) = source-status t source
fetched-status task.Run fetched.Longer = tt
fetched-status task.Check fetched.Longer = tt

-- the answers to a command with a file are those to the file
command-answers : (t : Task) (file : List ℕ) (told : List ℕ → Told) (answer : Answer) → FileAnswers (task_answer t) (told file) answer → Answers (task_command t file) told answer
command-answers task.Run file told answer h = h
command-answers task.Check file told answer h = h

file-fits : (t : Task) (file : List ℕ) (told : List ℕ → Told) (room : ℕ) → Fits (task_command t file) told room → FileFits (task_answer t) (told file) room
file-fits task.Run file told room h = h
file-fits task.Check file told room h = h

cause-memory : (t : Task) (file_rose : List ℕ → Type 0) (output_rose : Type 0) (file : List ℕ) → Cause file_rose output_rose (task_command t file) status.Memory
cause-memory task.Run file_rose output_rose file = tt
cause-memory task.Check file_rose output_rose file = tt

cause-read : (t : Task) (file_rose : List ℕ → Type 0) (output_rose : Type 0) (file : List ℕ) → file_rose file → Cause file_rose output_rose (task_command t file) status.ReadFault
cause-read task.Run file_rose output_rose file h = h
cause-read task.Check file_rose output_rose file h = h

cause-write : (t : Task) (file_rose : List ℕ → Type 0) (output_rose : Type 0) (file : List ℕ) → output_rose → Cause file_rose output_rose (task_command t file) status.WriteFault
cause-write task.Run file_rose output_rose file h = h
cause-write task.Check file_rose output_rose file h = h

leaves : {F : Type 0} (t : Task) (file : List ℕ) (old new : F) → LeavesFiles (task_command t file) old new
leaves task.Run file old new = tt
leaves task.Check file old new = tt

module _ {K : Type 0} (written : K → Option (List ℕ)) (room faults : K → ℕ) where
  pub prefix-breaks : (Answered : Answer → Type 0) (answer : Answer) (old new : K) → Answered answer → Breaks written room faults old new answer.out → Prefix Answered (written old) (written new)
  prefix-breaks Answered answer old new a b = record { answer = answer; answers = a; front = b.front; rest = b.rest; whole = b.whole; new_is = b.written_is }

  prefix-part : (Answered : Answer → Type 0) (answer : Answer) (old new : K) → Answered answer → AddsPart written room faults old new answer.out → Prefix Answered (written old) (written new)
  prefix-part Answered answer old new a p = record { answer = answer; answers = a; front = p.front; rest = p.rest; whole = p.whole; new_is = p.adds.written_is }

  whole-adds : (Answered : Answer → Type 0) (answer : Answer) (old new : K) (st : Status) → Answered answer → answer.status ≡ st → Adds written room faults old new answer.out → Whole Answered (written old) (written new) st
  whole-adds Answered answer old new st f e a = record { out = answer.out; answers = subst (λ (s : Status). Answered (record { out = answer.out; status = s })) e f; new_is = a.written_is }

  no_room-fits : (answer_of : List ℕ → Answer) (t : Told) (answer : Answer) (old new : K) → FileAnswers answer_of t answer → Breaks written room faults old new answer.out → FileFits answer_of t (room old) → ⊥
  no_room-fits answer_of Untold answer old new f b fits = fits
  no_room-fits answer_of Missing answer old new f b fits = fits
  no_room-fits answer_of (Kept source) answer old new f b fits = b.no_room (subst (λ (a : Answer). length a.out ≤ room old) (sym f) fits)

  module _ {F : Type 0} (told : F → List ℕ → Told) (is_steady : F → Bool) (file_faults : F → List ℕ → ℕ) where
    abbrev Done_so : Task → List ℕ → F → F → K → K → Status → Type 0
    Done_so t file old_files new_files old new st = Meets told is_steady file_faults written room faults (task_command t file) old_files new_files old new st

    meets-whole : (t : Task) (file : List ℕ) (old_files new_files : F) (old new : K) (st : Status) → IsStatusOf t st → Whole (Answers (task_command t file) (told old_files)) (written old) (written new) st → Done_so t file old_files new_files old new st
    meets-whole task.Run file old_files new_files old new status.Done i w = record { answer = w; prefix = tt; causes = tt; completeness = λ s f. tt; files = tt }
    meets-whole task.Check file old_files new_files old new status.Done i w = record { answer = w; prefix = tt; causes = tt; completeness = λ s f. tt; files = tt }
    meets-whole task.Run file old_files new_files old new status.Refused i w = record { answer = w; prefix = tt; causes = tt; completeness = λ s f. tt; files = tt }
    meets-whole task.Check file old_files new_files old new status.Refused i w = record { answer = w; prefix = tt; causes = tt; completeness = λ s f. tt; files = tt }
    meets-whole task.Run file old_files new_files old new status.Fault i w = record { answer = w; prefix = tt; causes = tt; completeness = λ s f. tt; files = tt }
    meets-whole task.Check file old_files new_files old new status.Fault i w = absurd i
    meets-whole t file old_files new_files old new status.Usage i w = absurd i
    meets-whole t file old_files new_files old new status.Memory i w = absurd i
    meets-whole t file old_files new_files old new status.ReadFault i w = absurd i
    meets-whole t file old_files new_files old new status.WriteFault i w = absurd i
    meets-whole t file old_files new_files old new status.Spent i w = absurd i
    meets-whole t file old_files new_files old new status.BadImage i w = absurd i
    meets-whole t file old_files new_files old new status.InputTooLong i w = absurd i

    meets-answer : (t : Task) (file : List ℕ) (answer : Answer) (old_files new_files : F) (old new : K) (given : Result Status Halted) → FileAnswers (task_answer t) (told old_files file) answer → IsStatusOf t answer.status
        → Gives written room faults answer old new given → Done_so t file old_files new_files old new (status_of given)
    meets-answer t file answer old_files new_files old new (Ok st) f i g =
        meets-whole t file old_files new_files old new st (subst (λ (s : Status). IsStatusOf t s) g.0 i)
        (whole-adds (Answers (task_command t file) (told old_files)) answer old new st (command-answers t file (told old_files) answer f) g.0 g.1)
    meets-answer t file answer old_files new_files old new (Err halted.Memory) f i g = record {
      answer = tt;
      prefix = prefix-part (Answers (task_command t file) (told old_files)) answer old new (command-answers t file (told old_files) answer f) g;
      causes = cause-memory t (λ f. Rose (file_faults old_files f) (file_faults new_files f)) (Rose (faults old) (faults new)) file;
      completeness = λ s fits. tt;
      files = leaves t file old_files new_files;
    }
    meets-answer t file answer old_files new_files old new (Err halted.WriteFault) f i g = record {
      answer = tt;
      prefix = prefix-breaks (Answers (task_command t file) (told old_files)) answer old new (command-answers t file (told old_files) answer f) g;
      causes = cause-write t (λ f. Rose (file_faults old_files f) (file_faults new_files f)) (Rose (faults old) (faults new)) file g.rose;
      completeness = λ s fits. no_room-fits (task_answer t) (told old_files file) answer old new f g (file-fits t file (told old_files) (room old) fits);
      files = leaves t file old_files new_files;
    }

    -- what was fetched is answered
    pub meets-fetched : (t : Task) (file : List ℕ) (given : Fetched) (old_files new_files : F) (old new : K) (result : Result Status Halted) → Fetches (told old_files file) 1048576 (Ok given)
        → Gives written room faults (fetched_answer (task_answer t) given) old new result → Done_so t file old_files new_files old new (status_of result)
    meets-fetched t file given old_files new_files old new result h g =
        meets-answer t file (fetched_answer (task_answer t) given) old_files new_files old new result (answers-fetched t (told old_files file) given h) (fetched-status t given) g

    nothing-written : (t : Task) (file : List ℕ) (files : F) (old : K) → Prefix (Answers (task_command t file) (told files)) (written old) (written old)
    nothing-written t file files old =
        let a = some_answer t (told files file) in
        record { answer = a.answer; answers = command-answers t file (told files) a.answer a.answers; front = []; rest = a.answer.out; whole = refl; new_is = added-nil (written old) }

    fits-kept : (answer_of : List ℕ → Answer) (t : Told) (n : ℕ) → FileFits answer_of t n → IsKept t
    fits-kept answer_of Untold n h = h
    fits-kept answer_of Missing n h = h
    fits-kept answer_of (Kept source) n h = tt

    -- a failed fetch
    pub meets-failed : (t : Task) (file : List ℕ) (old_files new_files : F) (old : K) → Rose (file_faults old_files file) (file_faults new_files file)
        → (is_steady old_files ≡ true → IsKept (told old_files file) → FetchIsNoFailure (Err error.Failed))
        → Done_so t file old_files new_files old old status.ReadFault
    meets-failed t file old_files new_files old rose steady = record {
      answer = tt;
      prefix = nothing-written t file old_files old;
      causes = cause-read t (λ f. Rose (file_faults old_files f) (file_faults new_files f)) (Rose (faults old) (faults old)) file rose;
      completeness = λ s fits. steady s (fits-kept (task_answer t) (told old_files file) (room old) (file-fits t file (told old_files) (room old) fits));
      files = leaves t file old_files new_files;
    }

    -- a fetch for which memory is wanting
    pub meets-wanting : (t : Task) (file : List ℕ) (old_files new_files : F) (old : K) → Done_so t file old_files new_files old old status.Memory
    meets-wanting t file old_files new_files old = record {
      answer = tt;
      prefix = nothing-written t file old_files old;
      causes = cause-memory t (λ f. Rose (file_faults old_files f) (file_faults new_files f)) (Rose (faults old) (faults old)) file;
      completeness = λ s fits. tt;
      files = leaves t file old_files new_files;
    }

pub ruleset task_laws = (meets-fetched, meets-failed, meets-wanting)
