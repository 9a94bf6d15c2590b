-- The text between double quotes, and that quotes in it are doubled.
use Rattle.std.proofs.Common.{◌≡◌, ℕ, List, [], ◌∷◌, ◌++◌, Bool, true, false, length, refl, sym, ap, ◌∙◌, arith}
use Rattle.std.specs.Prelude.{not, ◌==◌, ◌&&◌, if◌then◌else◌, Option, Some, None}
use Rattle.bqn_base.specs.Literal.{is_doubled}
use Rattle.bqn_syntax.specs.declared.progress.Progress.{Progress}
use Rattle.bqn_syntax.specs.declared.progress.Progress.TheVariants.{Inside, Closed}
use Rattle.bqn_syntax.specs.text.Table.{next, is_piece_from}
use Rattle.bqn_syntax.specs.text.Tokens.{all_but_last}

all_but_last-push : (front : List ℕ) (c : ℕ) → all_but_last (front ++ c ∷ []) ≡ front
all_but_last-push [] c = refl
all_but_last-push (x ∷ []) c = refl
all_but_last-push (x ∷ y ∷ ys) c = ap (λ (w : List ℕ). x ∷ w) (all_but_last-push (y ∷ ys) c)

pub all_but_last-split : (text front : List ℕ) (c : ℕ) → text ≡ front ++ c ∷ [] → front ≡ all_but_last text
all_but_last-split text front c is = sym (ap (λ (t : List ℕ). all_but_last t) is ∙ all_but_last-push front c)

pub all_but_last-empty : (text : List ℕ) → length text ≡ 0 → text ≡ all_but_last text
all_but_last-empty [] e = refl
all_but_last-empty (c ∷ cs) e = absurd (omega arith)

pub ruleset last_laws = (all_but_last-split, all_but_last-empty)

abbrev pub piece_after : Option Progress → List ℕ → Bool
piece_after None cs = false
piece_after (Some after) cs = is_piece_from after cs

pub is_piece_from-cons : (state : Progress) (c : ℕ) (cs : List ℕ) → is_piece_from state (c ∷ cs) ≡ piece_after (next state c) cs
is_piece_from-cons state c cs = at (next state c)
  where
    at : (after : Option Progress) → (elim after as (λ _. Bool) [ None ↦ false | Some s ↦ is_piece_from s cs ]) ≡ piece_after after cs
    at None = refl
    at (Some s) = refl

inside-quote : (c : ℕ) (cs : List ℕ) → (c == 34) ≡ true → is_piece_from Inside (c ∷ cs) ≡ is_piece_from Closed cs
inside-quote c cs e = is_piece_from-cons Inside c cs ∙ ap (λ (b : Bool). piece_after (if b then Some Closed else Some Inside) cs) e

inside-other : (c : ℕ) (cs : List ℕ) → (c == 34) ≡ false → is_piece_from Inside (c ∷ cs) ≡ is_piece_from Inside cs
inside-other c cs e = is_piece_from-cons Inside c cs ∙ ap (λ (b : Bool). piece_after (if b then Some Closed else Some Inside) cs) e

closed-quote : (c : ℕ) (cs : List ℕ) → (c == 34) ≡ true → is_piece_from Closed (c ∷ cs) ≡ is_piece_from Inside cs
closed-quote c cs e = is_piece_from-cons Closed c cs ∙ ap (λ (b : Bool). piece_after (if b then Some Inside else None) cs) e

closed-other : (c : ℕ) (cs : List ℕ) → (c == 34) ≡ false → is_piece_from Closed (c ∷ cs) ≡ false
closed-other c cs e = is_piece_from-cons Closed c cs ∙ ap (λ (b : Bool). piece_after (if b then Some Inside else None) cs) e

is_doubled-other : (c : ℕ) (cs : List ℕ) → (c == 34) ≡ false → is_doubled cs ≡ true → is_doubled (c ∷ cs) ≡ true
is_doubled-other c [] e rest = ap (λ (b : Bool). not b) e
is_doubled-other c (d ∷ ds) e rest = ap (λ (b : Bool). elim b as (λ _. Bool) [ true ↦ (d == 34) && is_doubled ds | false ↦ is_doubled (d ∷ ds) ]) e ∙ rest

is_doubled-quotes : (c d : ℕ) (cs : List ℕ) → (c == 34) ≡ true → (d == 34) ≡ true → is_doubled cs ≡ true → is_doubled (c ∷ d ∷ cs) ≡ true
is_doubled-quotes c d cs e f rest =
    ap (λ (b : Bool). elim b as (λ _. Bool) [ true ↦ (d == 34) && is_doubled cs | false ↦ is_doubled (d ∷ cs) ]) e
    ∙ ap (λ (b : Bool). b && is_doubled cs) f
    ∙ rest

-- a text of three characters or more, from the rest of it behind one character and behind two
doubled-step : (c d x : ℕ) (cs : List ℕ) (first second : Bool) → (c == 34) ≡ first → (d == 34) ≡ second → is_piece_from Inside (c ∷ d ∷ x ∷ cs) ≡ true
    → (is_piece_from Inside (d ∷ x ∷ cs) ≡ true → is_doubled (d ∷ all_but_last (x ∷ cs)) ≡ true)
    → (is_piece_from Inside (x ∷ cs) ≡ true → is_doubled (all_but_last (x ∷ cs)) ≡ true)
    → is_doubled (c ∷ d ∷ all_but_last (x ∷ cs)) ≡ true
doubled-step c d x cs true true e f is one two =
    is_doubled-quotes c d (all_but_last (x ∷ cs)) e f (two (sym (inside-quote c (d ∷ x ∷ cs) e ∙ closed-quote d (x ∷ cs) f) ∙ is))
doubled-step c d x cs true false e f is one two = let never = sym (inside-quote c (d ∷ x ∷ cs) e ∙ closed-other d (x ∷ cs) f) ∙ is in cc
doubled-step c d x cs false second e f is one two = is_doubled-other c (d ∷ all_but_last (x ∷ cs)) e (one (sym (inside-other c (d ∷ x ∷ cs) e) ∙ is))

-- a text of two characters does not begin with the quote that ends it
doubled-two : (c d : ℕ) (first second : Bool) → (c == 34) ≡ first → (d == 34) ≡ second → is_piece_from Inside (c ∷ d ∷ []) ≡ true → is_doubled (c ∷ []) ≡ true
doubled-two c d true true e f is = let never = sym (inside-quote c (d ∷ []) e ∙ closed-quote d [] f) ∙ is in cc
doubled-two c d true false e f is = let never = sym (inside-quote c (d ∷ []) e ∙ closed-other d [] f) ∙ is in cc
doubled-two c d false second e f is = is_doubled-other c [] e refl

-- the quotes inside a text that ends are doubled
pub doubled-inside : (cs : List ℕ) → is_piece_from Inside cs ≡ true → is_doubled (all_but_last cs) ≡ true
doubled-inside [] is = cc
doubled-inside (c ∷ []) is = refl
doubled-inside (c ∷ d ∷ []) is = doubled-two c d (c == 34) (d == 34) refl refl is
doubled-inside (c ∷ d ∷ x ∷ cs) is = doubled-step c d x cs (c == 34) (d == 34) refl refl is (doubled-inside (d ∷ x ∷ cs)) (doubled-inside (x ∷ cs))

pub ruleset doubled_laws = (doubled-inside)
