-- The states of the devices that keep their bytes in memory.
use Rattle.std.specs.Prelude.{ℕ, ◌+◌, ◌-◌, ◌^◌, min, Bool, true, false, nat_eq, if◌then◌else◌, List, [], ◌∷◌, Vec, encode_utf8_all}
use Rattle.std.specs.List.{list_any}
use Rattle.std.specs.Cmp.Lexicographic.{pointwise}
use Rattle.std.specs.declared.alloc.Global.{Global}
use Rattle.bqn_io.specs.Devices.{Told, Missing, Kept}

-- the list has no element
abbrev pub is_empty : List ℕ → Bool
is_empty [] = true
is_empty (x ∷ xs) = false

-- one more, up to the last value of a counter
abbrev pub one_more : ℕ → ℕ
one_more n = min (n + 1) (2 ^ 64 - 1)

-- the numbers of the calls that fail, from 1, and how many calls were numbered
pub record Numbered : Type 0 where
  pub failing : List ℕ
  pub made : ℕ

-- whether the next call fails
abbrev pub fails_next : Numbered → Bool
fails_next calls = list_any (λ number. nat_eq number (one_more calls.made)) calls.failing

-- the calls, after the next one was numbered
abbrev pub after_next : Numbered → Numbered
after_next calls = record { failing = calls.failing; made = one_more calls.made }

-- of these the calls fail, and none was made yet
abbrev pub numbered : List ℕ → Numbered
numbered failing = record { failing = failing; made = 0 }

-- a source: the bytes that are left, and the most that it gives in one call
pub record Supply : Type 0 where
  pub left : List ℕ
  pub most : ℕ
  pub calls : Numbered
  pub faults : ℕ
  pub is_ended : Bool

-- a sink: the bytes that are written, and how many more it holds
pub record Store : Type 0 where
  pub written : List ℕ
  pub space : ℕ
  pub calls : Numbered
  pub faults : ℕ

-- the bytes that are taken without a fault: none is promised where a call is said to fail
abbrev pub room_of : Store → ℕ
room_of store = if is_empty store.calls.failing then store.space else 0

-- a kept file: its name in UTF-8, its bytes, and how many fetches of it have failed
pub record KeptFile : Type 0 where
  pub name : List ℕ
  pub bytes : List ℕ
  pub faults : ℕ

-- the file has this name
abbrev pub has_name : List ℕ → KeptFile → Bool
has_name name file = pointwise nat_eq file.name name

-- what is told of a name: of two files with one name, only the first is kept
abbrev pub told_in : List KeptFile → List ℕ → Told
told_in [] name = Missing
told_in (file ∷ files) name = if has_name name file then Kept file.bytes else told_in files name

-- how many fetches of a name have failed; all names that are not kept share a count
abbrev pub faults_in : List KeptFile → ℕ → List ℕ → ℕ
faults_in [] others name = others
faults_in (file ∷ files) others name = if has_name name file then file.faults else faults_in files others name

-- the file of a name and its bytes, of which no fetch has failed yet
abbrev pub kept_file : (List ℕ × Vec ℕ Global) → KeptFile
kept_file (name, bytes) = record { name = encode_utf8_all name; bytes = bytes.items; faults = 0 }

-- the file, after one more fetch of it failed
abbrev pub failed_once : KeptFile → KeptFile
failed_once file = record { name = file.name; bytes = file.bytes; faults = one_more file.faults }

-- a keeper of files: the kept ones, and how many fetches of all other names have failed
pub record Shelf : Type 0 where
  pub files : List KeptFile
  pub calls : Numbered
  pub others : ℕ
