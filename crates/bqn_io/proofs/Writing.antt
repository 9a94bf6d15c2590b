-- How runs of puts go together.
use Rattle.std.proofs.Common.{◌≡◌, ◌-◌, ◌+◌, ℕ, List, [], ◌++◌, length, Option, Some, None, refl, sym, ap, ◌∙◌, append_assoc, length-append, arith}
use Rattle.std.proofs.lemmas.List.{append-nil}
use Rattle.bqn_io.specs.Devices.{added}
use Rattle.bqn_io.specs.Writing.{Adds, AddsPart, Breaks}

pub added-nil : (told : Option (List ℕ)) → told ≡ added told []
added-nil None = refl
added-nil (Some bytes) = ap (λ (b : List ℕ). Some b) (sym (append-nil bytes))

pub added-added : (told : Option (List ℕ)) (x y : List ℕ) → added (added told x) y ≡ added told (x ++ y)
added-added None x y = refl
added-added (Some bytes) x y = ap (λ (b : List ℕ). Some b) (append_assoc bytes x y)

module _ {K : Type 0} (written : K → Option (List ℕ)) (room faults : K → ℕ) where
  pub adds-nothing : (k : K) → Adds written room faults k k []
  adds-nothing k = record { written_is = added-nil (written k); room_is = λ le. omega arith; faults_are = refl }

  pub adds-then : (old mid new : K) (x y : List ℕ) → Adds written room faults old mid x → Adds written room faults mid new y → Adds written room faults old new (x ++ y)
  adds-then old mid new x y a b = record {
    written_is = b.written_is ∙ (ap (λ (told : Option (List ℕ)). added told y) a.written_is ∙ added-added (written old) x y);
    room_is = λ le.
        let both : length (x ++ y) ≡ length x + length y = length-append x y in
        let first : room mid ≡ room old - length x = a.room_is (omega arith) in
        let second : room new ≡ room mid - length y = b.room_is (omega arith) in
        omega arith;
    faults_are = b.faults_are ∙ a.faults_are;
  }

  pub adds-part : (old new : K) (bytes rest : List ℕ) → Adds written room faults old new bytes → AddsPart written room faults old new (bytes ++ rest)
  adds-part old new bytes rest a = record { front = bytes; rest = rest; whole = refl; adds = a }

  pub adds-then-part : (old mid new : K) (x y more : List ℕ) → Adds written room faults old mid x → AddsPart written room faults mid new y → AddsPart written room faults old new ((x ++ y) ++ more)
  adds-then-part old mid new x y more a p = record {
    front = x ++ p.front;
    rest = p.rest ++ more;
    whole = ap (λ (b : List ℕ). (x ++ b) ++ more) p.whole ∙ (ap (λ (b : List ℕ). b ++ more) (sym (append_assoc x p.front p.rest)) ∙ append_assoc (x ++ p.front) p.rest more);
    adds = adds-then old mid new x p.front a p.adds;
  }

  pub adds-then-breaks : (old mid new : K) (x y more : List ℕ) → Adds written room faults old mid x → Breaks written room faults mid new y → Breaks written room faults old new ((x ++ y) ++ more)
  adds-then-breaks old mid new x y more a b = record {
    front = x ++ b.front;
    rest = b.rest ++ more;
    whole = ap (λ (c : List ℕ). (x ++ c) ++ more) b.whole ∙ (ap (λ (c : List ℕ). c ++ more) (sym (append_assoc x b.front b.rest)) ∙ append_assoc (x ++ b.front) b.rest more);
    written_is = b.written_is ∙ (ap (λ (told : Option (List ℕ)). added told b.front) a.written_is ∙ added-added (written old) x b.front);
    rose = rw (← a.faults_are) b.rose;
    no_room = λ le.
        let all : length ((x ++ y) ++ more) ≡ (length x + length y) + length more = length-append (x ++ y) more ∙ ap (λ (n : ℕ). n + length more) (length-append x y) in
        let first : room mid ≡ room old - length x = a.room_is (omega arith) in
        b.no_room (omega arith);
  }
