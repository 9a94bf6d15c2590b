-- The words of the devices, computed.
use Rattle.std.proofs.Common.{◌≡◌, ◌<◌, ℕ, true, false, List, [], ◌∷◌, Some, None, Ok, Err, refl}
use Rattle.std.specs.Prelude.{codes}
use Rattle.bqn_io.specs.declared.files.Fetched.TheVariants.{Longer}
use Rattle.bqn_io.specs.declared.files.FetchError.TheVariants.{Failed, Memory}
use Rattle.bqn_io.specs.Devices.{added, before, ended_after, Fetches, IsNoFailure, Kept, Missing}
use Rattle.bqn_io.specs.States.{KeptFile, Numbered, after_next, fails_next, failed_once, faults_in, numbered, one_more, room_of, told_in}

added_behind : added (Some (codes "ab")) (codes "c") ≡ Some (codes "abc")
added_behind = refl

added_untold : added None (codes "c") ≡ None
added_untold = refl

taken_from_the_front : before (codes "a") (Some (codes "bc")) ≡ Some (codes "abc")
taken_from_the_front = refl

zero_is_the_end : ended_after false 0 3 ≡ true
zero_is_the_end = refl

some_bytes_are_no_end : ended_after false 1 3 ≡ false
some_bytes_are_no_end = refl

no_room_is_no_end : ended_after false 0 0 ≡ false
no_room_is_no_end = refl

the_end_stays : ended_after true 0 0 ≡ true
the_end_stays = refl

last_value_stays : one_more 18446744073709551615 ≡ 18446744073709551615
last_value_stays = refl

second_call : Numbered
second_call = after_next (numbered (2 ∷ []))

first_passes : fails_next (numbered (2 ∷ [])) ≡ false
first_passes = refl

second_fails : fails_next second_call ≡ true
unfolding second_call
second_fails = refl

room_with_no_failing_call : room_of (record { written = []; space = 5; calls = numbered []; faults = 0 }) ≡ 5
room_with_no_failing_call = refl

room_with_a_failing_call : room_of (record { written = []; space = 5; calls = numbered (9 ∷ []); faults = 0 }) ≡ 0
room_with_a_failing_call = refl

abbrev file : List ℕ → List ℕ → KeptFile
file name bytes = record { name = name; bytes = bytes; faults = 0 }

abbrev shelf : List KeptFile
shelf = file (codes "a") (codes "one") ∷ failed_once (file (codes "b") []) ∷ file (codes "a") (codes "two") ∷ []

first_of_a_name : told_in shelf (codes "a") ≡ Kept (codes "one")
first_of_a_name = refl

empty_file : told_in shelf (codes "b") ≡ Kept []
empty_file = refl

missing_file : told_in shelf (codes "c") ≡ Missing
missing_file = refl

count_of_a_file : faults_in shelf 7 (codes "b") ≡ 1
count_of_a_file = refl

count_of_all_others : faults_in shelf 7 (codes "c") ≡ 7
count_of_all_others = refl

longer_than_the_limit : Fetches (Kept (codes "one")) 2 (Ok Longer) ≡ (2 < 3)
longer_than_the_limit = refl

missing_is_never_ok : Fetches Missing 2 (Ok Longer) ≡ ⊥
missing_is_never_ok = refl

failed_is_a_failure : IsNoFailure (Err Failed) ≡ ⊥
failed_is_a_failure = refl

memory_is_no_failure : IsNoFailure (Err Memory) ≡ Unit {0}
memory_is_no_failure = refl
