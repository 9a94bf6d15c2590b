-- The walk through a call asks and answers as a run of the call on the same replies does.
use Rattle.std.proofs.Common.{◌≡◌, ℕ, zero, suc, List, [], ◌∷◌, Err, refl, ◌∙◌}
use Rattle.bqn_base.specs.declared.fault.Fault.TheVariants.{TooDeep}
use Rattle.bqn_rows.specs.Raised.{Answer, unplaced}
use Rattle.bqn_rows.specs.Calls as c
use Rattle.bqn_rows.specs.Calls.{Arguments, Call, call}
use Rattle.bqn_rows.specs.Running.{Res, Gives, Ends, then_do, calls}
use Rattle.bqn_rows.specs.Questions.{Question, Enter, Turn, Write, Reply, Next, Outcome, Asks, asked, walk, replied, passed, from_replies, seen, QuestionsAreOfTheCall}

-- what comes after a run
abbrev onward : {A : Type 0} → Res Question (List Reply) A → (A → List Reply → Next) → Next
onward (Gives r rest) after = after r rest
onward (Ends q) after = Asks q

onward-then : {A B : Type 0} (r : Res Question (List Reply) A) (f : A → List Reply → Res Question (List Reply) B) (after : B → List Reply → Next)
    (go : A → List Reply → Next) → ((a : A) (rest : List Reply) → go a rest ≡ onward (f a rest) after) → onward r go ≡ onward (then_do r f) after
onward-then (Gives a rest) f after go h = h a rest
onward-then (Ends q) f after go h = refl

asked-replied : (q : Question) (go : Reply → List Reply → Next) (replies : List Reply) → asked q go replies ≡ onward (replied q replies) go
asked-replied q go [] = refl
asked-replied q go (r ∷ rs) = refl

asked-passed : (q : Question) (go : Unit {0} → List Reply → Next) (replies : List Reply) → asked q (λ r. go tt) replies ≡ onward (passed q replies) go
asked-passed q go [] = refl
asked-passed q go (r ∷ rs) = refl

walk-run : (t : Call) (room : ℕ) (after : Answer → List Reply → Next) (replies : List Reply) → walk t room after replies
    ≡ onward (calls from_replies room t replies) after
walk-run (c.End r) zero after replies = refl
walk-run (c.End r) (suc n) after replies = refl
walk-run (c.Enter block environment operands given go) zero after replies = walk-run (go (Err (unplaced TooDeep))) zero after replies
walk-run (c.Enter block environment operands given go) (suc n) after replies =
    asked-replied (Enter block environment operands given n) (λ r. walk (go r) (suc n) after) replies
    ∙ onward-then (replied (Enter block environment operands given n) replies) (λ r. calls from_replies (suc n) (go r)) after
    (λ r. walk (go r) (suc n) after) (λ r. walk-run (go r) (suc n) after)
walk-run (c.Turn go) zero after replies =
    asked-passed Turn (λ u. walk (go u) zero after) replies
    ∙ onward-then (passed Turn replies) (λ u. calls from_replies zero (go u)) after (λ u. walk (go u) zero after) (λ u. walk-run (go u) zero after)
walk-run (c.Turn go) (suc n) after replies =
    asked-passed Turn (λ u. walk (go u) (suc n) after) replies
    ∙ onward-then (passed Turn replies) (λ u. calls from_replies (suc n) (go u)) after (λ u. walk (go u) (suc n) after) (λ u. walk-run (go u) (suc n) after)
walk-run (c.Write text go) zero after replies =
    asked-passed (Write text) (λ u. walk (go u) zero after) replies
    ∙ onward-then (passed (Write text) replies) (λ u. calls from_replies zero (go u)) after (λ u. walk (go u) zero after) (λ u. walk-run (go u) zero after)
walk-run (c.Write text go) (suc n) after replies =
    asked-passed (Write text) (λ u. walk (go u) (suc n) after) replies
    ∙ onward-then (passed (Write text) replies) (λ u. calls from_replies (suc n) (go u)) after (λ u. walk (go u) (suc n) after)
    (λ u. walk-run (go u) (suc n) after)
walk-run (c.Inside t go) zero after replies = walk-run (go (Err (unplaced TooDeep))) zero after replies
walk-run (c.Inside t go) (suc n) after replies =
    walk-run t n (λ r. walk (go r) (suc n) after) replies
    ∙ onward-then (calls from_replies n t replies) (λ r. calls from_replies (suc n) (go r)) after (λ r. walk (go r) (suc n) after)
    (λ r. walk-run (go r) (suc n) after)

seen-onward : (r : Res Question (List Reply) Answer) → onward r (λ a rest. Outcome a) ≡ seen r
seen-onward (Gives a rest) = refl
seen-onward (Ends q) = refl

pub questions_are_of_the_call : QuestionsAreOfTheCall
questions_are_of_the_call f w x room replies = walk-run (call f w x) room (λ r rest. Outcome r) replies
    ∙ seen-onward (calls from_replies room (call f w x) replies)

pub ruleset question_laws = (questions_are_of_the_call)
