-- What the top call promises of a command.
use Rattle.std.specs.Prelude.{◌≡◌, ◌≤◌, ℕ, Bool, true, List, ◌++◌, length, Option}
use Rattle.bqn_base.specs.declared.status.Status.{Status}
use Rattle.bqn_base.specs.declared.status.Status.TheVariants as status
use Rattle.bqn_io.specs.Devices.{added, Rose, Told, Kept}
use Rattle.bqn_cli.specs.Command.{Command, Run, Check, NoCommand}
use Rattle.bqn_cli.specs.Answer.{Answer, Answers, run_answer, check_answer, usage_answer}

-- all bytes of an answer with this status were added
pub record Whole (Answered : Answer → Type 0) (old new : Option (List ℕ)) (status : Status) : Type 0 where
  pub out : List ℕ
  pub answers : Answered (record { out = out; status = status })
  pub new_is : new ≡ added old out

-- a prefix of the bytes of an answer was added
pub record Prefix (Answered : Answer → Type 0) (old new : Option (List ℕ)) : Type 0 where
  pub answer : Answer
  pub answers : Answered answer
  pub front : List ℕ
  pub rest : List ℕ
  pub whole : answer.out ≡ front ++ rest
  pub new_is : new ≡ added old front

-- the status is the answer's, unless memory or a device was wanting
abbrev pub IsWhole : (Answer → Type 0) → Option (List ℕ) → Option (List ℕ) → Status → Type 0
IsWhole answered old new status.Memory = Unit {0}
IsWhole answered old new status.ReadFault = Unit {0}
IsWhole answered old new status.WriteFault = Unit {0}
IsWhole answered old new other = Whole answered old new other

-- where memory or a device was wanting, a prefix of the answer was written
abbrev pub IsPrefix : (Answer → Type 0) → Option (List ℕ) → Option (List ℕ) → Status → Type 0
IsPrefix answered old new status.Memory = Prefix answered old new
IsPrefix answered old new status.ReadFault = Prefix answered old new
IsPrefix answered old new status.WriteFault = Prefix answered old new
IsPrefix answered old new other = Unit {0}

-- what each status of a command shows, where the counts of the file of a name and of the output rose so
abbrev pub Cause : (List ℕ → Type 0) → Type 0 → Command → Status → Type 0
Cause file_rose output_rose _ status.WriteFault = output_rose
Cause file_rose output_rose (Run file) status.Done = Unit {0}
Cause file_rose output_rose (Run file) status.Fault = Unit {0}
Cause file_rose output_rose (Run file) status.Refused = Unit {0}
Cause file_rose output_rose (Run file) status.Memory = Unit {0}
Cause file_rose output_rose (Run file) status.ReadFault = file_rose file
Cause file_rose output_rose (Check file) status.Done = Unit {0}
Cause file_rose output_rose (Check file) status.Refused = Unit {0}
Cause file_rose output_rose (Check file) status.Memory = Unit {0}
Cause file_rose output_rose (Check file) status.ReadFault = file_rose file
Cause file_rose output_rose NoCommand status.Usage = Unit {0}
Cause file_rose output_rose _ _ = ⊥

-- the sink has room for all bytes of the answer, and the file is kept
abbrev pub FileFits : (List ℕ → Answer) → Told → ℕ → Type 0
FileFits answer_of (Kept source) room = length (answer_of source).out ≤ room
FileFits answer_of _ room = ⊥

abbrev pub Fits : Command → (List ℕ → Told) → ℕ → Type 0
Fits (Run file) told room = FileFits run_answer (told file) room
Fits (Check file) told room = FileFits check_answer (told file) room
Fits NoCommand told room = length usage_answer.out ≤ room

-- no device failed
abbrev pub IsNoFailure : Status → Type 0
IsNoFailure status.ReadFault = ⊥
IsNoFailure status.WriteFault = ⊥
IsNoFailure _ = Unit {0}

-- only a command with a FILE touches the files
abbrev pub LeavesFiles : {F : Type 0} → Command → F → F → Type 0
LeavesFiles (Run file) old new = Unit {0}
LeavesFiles (Check file) old new = Unit {0}
LeavesFiles NoCommand old new = new ≡ old

-- no command touches the input yet
abbrev pub LeavesInput : {S : Type 0} → Command → S → S → Type 0
LeavesInput _ old new = new ≡ old

-- what a command does to files and a sink, which show what the traits `Files` and `Sink` say
module _ {F K : Type 0} (told : F → List ℕ → Told) (is_steady : F → Bool) (file_faults : F → List ℕ → ℕ) (written : K → Option (List ℕ)) (room faults : K → ℕ) where
  pub record Meets (command : Command) (old_files new_files : F) (old new : K) (status : Status) : Type 0 where
    pub answer : IsWhole (Answers command (told old_files)) (written old) (written new) status
    pub prefix : IsPrefix (Answers command (told old_files)) (written old) (written new) status
    pub causes : Cause (λ file. Rose (file_faults old_files file) (file_faults new_files file)) (Rose (faults old) (faults new)) command status
    pub completeness : is_steady old_files ≡ true → Fits command (told old_files) (room old) → IsNoFailure status
    pub files : LeavesFiles command old_files new_files
