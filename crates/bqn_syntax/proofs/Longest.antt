-- `longest` gives the longest piece in front of a text, whatever the table.
use Rattle.std.proofs.Common.{◌≡◌, ◌≤◌, ℕ, zero, suc, List, [], ◌∷◌, Bool, true, false, Option, Some, None, length, take, refl, sym, ap, ◌∙◌, arith, subst}
use Rattle.bqn_syntax.specs.declared.progress.Progress.{Progress}
use Rattle.bqn_syntax.specs.declared.progress.Progress.TheVariants.{Start}
use Rattle.bqn_syntax.specs.text.Table.{next, is_final, is_piece_from}
use Rattle.bqn_syntax.specs.text.Cut.{IsFirst, one_more, longest}

abbrev piece_after : Option Progress → List ℕ → Bool
piece_after None cs = false
piece_after (Some after) cs = is_piece_from after cs

abbrev longest_after : Option Progress → List ℕ → Option ℕ
longest_after None cs = None
longest_after (Some after) cs = one_more (is_final after) (longest after cs)

is_piece_from-cons : (state : Progress) (c : ℕ) (cs : List ℕ) → is_piece_from state (c ∷ cs) ≡ piece_after (next state c) cs
is_piece_from-cons state c cs = at (next state c)
  where
    at : (after : Option Progress) → (elim after as (λ _. Bool) [ None ↦ false | Some s ↦ is_piece_from s cs ]) ≡ piece_after after cs
    at None = refl
    at (Some s) = refl

longest-cons : (state : Progress) (c : ℕ) (cs : List ℕ) → longest state (c ∷ cs) ≡ longest_after (next state c) cs
longest-cons state c cs = at (next state c)
  where
    at : (after : Option Progress) → (elim after as (λ _. Option ℕ) [ None ↦ None | Some s ↦ one_more (is_final s) (longest s cs) ]) ≡ longest_after after cs
    at None = refl
    at (Some s) = refl

-- a piece of so many characters goes on from this state, and no longer one does
record IsLongest (state : Progress) (text : List ℕ) (count : ℕ) : Type 0 where
  inside : count ≤ length text
  some : 1 ≤ count
  piece : is_piece_from state (take count text) ≡ true
  longest : (other : ℕ) → other ≤ length text → is_piece_from state (take other text) ≡ true → other ≤ count

-- no piece of one character or more goes on from this state
abbrev NoPiece : Progress → List ℕ → Type 0
NoPiece state text = (other : ℕ) → 1 ≤ other → other ≤ length text → is_piece_from state (take other text) ≡ true → ⊥

abbrev Answers : Progress → List ℕ → Option ℕ → Type 0
Answers state text None = NoPiece state text
Answers state text (Some count) = IsLongest state text count

-- a step into a state, from what goes on from there
record Step (state after : Progress) (c : ℕ) : Type 0 where
  goes : next state c ≡ Some after

step-piece : {state after : Progress} {c : ℕ} → Step state after c → (cs : List ℕ) → is_piece_from state (c ∷ cs) ≡ is_piece_from after cs
step-piece {state = state} {c = c} step cs = is_piece_from-cons state c cs ∙ ap (λ (s : Option Progress). piece_after s cs) step.goes

below-longer : {state after : Progress} {c : ℕ} {count : ℕ} → Step state after c → (cs : List ℕ) → IsLongest after cs count → (other : ℕ) → other ≤ length (c ∷ cs) → is_piece_from state (take other (c ∷ cs)) ≡ true → other ≤ suc count
below-longer step cs rest zero inside piece = omega arith
below-longer step cs rest (suc other) inside piece =
    let below = rest.longest other (omega arith) (sym (step-piece step (take other cs)) ∙ piece) in omega arith

one_more-longer : {state after : Progress} {c : ℕ} {count : ℕ} → Step state after c → (cs : List ℕ) → IsLongest after cs count → IsLongest state (c ∷ cs) (suc count)
one_more-longer {count = count} step cs rest = record {
  inside = (let fits = rest.inside in omega arith);
  some = omega arith;
  piece = step-piece step (take count cs) ∙ rest.piece;
  longest = below-longer step cs rest;
}

below-one : {state after : Progress} {c : ℕ} → Step state after c → (cs : List ℕ) → NoPiece after cs → (other : ℕ) → other ≤ length (c ∷ cs) → is_piece_from state (take other (c ∷ cs)) ≡ true → other ≤ 1
below-one step cs none zero inside piece = omega arith
below-one step cs none (suc zero) inside piece = omega arith
below-one step cs none (suc (suc other)) inside piece =
    absurd (none (suc other) (omega arith) (omega arith) (sym (step-piece step (take (suc other) cs)) ∙ piece))

one_more-last : {state after : Progress} {c : ℕ} → Step state after c → (cs : List ℕ) → is_final after ≡ true → NoPiece after cs → IsLongest state (c ∷ cs) 1
one_more-last step cs final none = record {
  inside = omega arith;
  some = omega arith;
  piece = step-piece step [] ∙ final;
  longest = below-one step cs none;
}

one_more-none : {state after : Progress} {c : ℕ} → Step state after c → (cs : List ℕ) → is_final after ≡ false → NoPiece after cs → NoPiece state (c ∷ cs)
one_more-none step cs final none zero some inside piece = omega arith
one_more-none step cs final none (suc zero) some inside piece =
    let last = sym (step-piece step []) ∙ piece in cc
one_more-none step cs final none (suc (suc other)) some inside piece =
    none (suc other) (omega arith) (omega arith) (sym (step-piece step (take (suc other) cs)) ∙ piece)

one_more-answers : {state after : Progress} {c : ℕ} → Step state after c → (cs : List ℕ) (final : Bool) (rest : Option ℕ) → is_final after ≡ final → Answers after cs rest → Answers state (c ∷ cs) (one_more final rest)
one_more-answers step cs final (Some count) is rest = one_more-longer step cs rest
one_more-answers step cs true None is none = one_more-last step cs is none
one_more-answers step cs false None is none = one_more-none step cs is none

stuck : (state : Progress) (c : ℕ) (cs : List ℕ) → next state c ≡ None → NoPiece state (c ∷ cs)
stuck state c cs stop zero some inside piece = omega arith
stuck state c cs stop (suc other) some inside piece =
    let never = is_piece_from-cons state c (take other cs) ∙ ap (λ (s : Option Progress). piece_after s (take other cs)) stop in cc

cons-answers : (state : Progress) (c : ℕ) (cs : List ℕ) (after : Option Progress) → next state c ≡ after → ((s : Progress) → Answers s cs (longest s cs)) → Answers state (c ∷ cs) (longest_after after cs)
cons-answers state c cs None stop rest = stuck state c cs stop
cons-answers state c cs (Some s) goes rest = one_more-answers (record { goes = goes }) cs (is_final s) (longest s cs) refl (rest s)

longest-answers : (state : Progress) (text : List ℕ) → Answers state text (longest state text)
longest-answers state [] = λ other some inside piece. omega arith
longest-answers state (c ∷ cs) =
    subst (Answers state (c ∷ cs)) (sym (longest-cons state c cs)) (cons-answers state c cs (next state c) refl (λ s. longest-answers s cs))

pub longest-first : (text : List ℕ) (count : ℕ) → longest Start text ≡ Some count → IsFirst text count
longest-first text count is =
    let found = subst (Answers Start text) is (longest-answers Start text) in
    record { inside = found.inside; some = found.some; piece = found.piece; longest = found.longest }

answers-first : (text : List ℕ) (count : ℕ) (answer : Option ℕ) → Answers Start text answer → IsFirst text count → answer ≡ Some count
answers-first text count None none first = absurd (none count first.some first.inside first.piece)
answers-first text count (Some other) found first =
    let most = found.longest count first.inside first.piece in
    let least = first.longest other found.inside found.piece in
    ap (λ (n : ℕ). Some n) (omega arith)

pub first-longest : (text : List ℕ) (count : ℕ) → IsFirst text count → longest Start text ≡ Some count
first-longest text count first = answers-first text count (longest Start text) (longest-answers Start text) first
