-- What a run of puts has done to a sink. A sink shows `written`, `room` and `faults`, as the trait `Sink` says.
use Rattle.std.specs.Prelude.{◌≡◌, ◌≤◌, ◌-◌, ℕ, List, ◌++◌, length, Option}
use Rattle.bqn_io.specs.Devices.{added, Rose}

module _ {K : Type 0} (written : K → Option (List ℕ)) (room faults : K → ℕ) where
  -- these bytes were added, and nothing failed
  pub record Adds (old new : K) (bytes : List ℕ) : Type 0 where
    pub written_is : written new ≡ added (written old) bytes
    pub room_is : length bytes ≤ room old → room new ≡ room old - length bytes
    pub faults_are : faults new ≡ faults old

  -- a front of these bytes was added, and nothing failed
  pub record AddsPart (old new : K) (bytes : List ℕ) : Type 0 where
    pub front : List ℕ
    pub rest : List ℕ
    pub whole : bytes ≡ front ++ rest
    pub adds : Adds old new front

  -- a put failed, for want of room or else: a front of these bytes was added
  pub record Breaks (old new : K) (bytes : List ℕ) : Type 0 where
    pub front : List ℕ
    pub rest : List ℕ
    pub whole : bytes ≡ front ++ rest
    pub written_is : written new ≡ added (written old) front
    pub rose : Rose (faults old) (faults new)
    pub no_room : length bytes ≤ room old → ⊥
