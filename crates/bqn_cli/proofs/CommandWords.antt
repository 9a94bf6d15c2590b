-- The two words of a command.
use Rattle.std.proofs.Common.{◌≡◌, ℕ, Bool, true, false, List, [], ◌∷◌, map, length, get_or, refl, sym, ap, ◌∙◌, arith}
use Rattle.std.specs.Prelude.{codes, not, ◌&&◌, if◌then◌else◌}
use Rattle.bqn_cli.specs.Command.{Command, Run, Check, NoCommand, is_word, command_of}

pub command_of-not_two : (words : List (List ℕ)) → (length words ≡ 2 → ⊥) → command_of words ≡ NoCommand
command_of-not_two [] h = refl
command_of-not_two (a ∷ []) h = refl
command_of-not_two (a ∷ b ∷ []) h = absurd (h refl)
command_of-not_two (a ∷ b ∷ c ∷ words) h = refl

abbrev command_if : (is_check is_run steps : Bool) → List ℕ → Command
command_if is_check is_run steps file = if is_check then Check file else if is_run && not steps then Run file else NoCommand

pub command_of-check : (name file : List ℕ) → is_word name (codes "check") ≡ true → command_of (name ∷ file ∷ []) ≡ Check file
command_of-check name file c = ap (λ (t : Bool). command_if t (is_word name (codes "run")) (is_word file (codes "--steps")) file) c

not_check : (name file : List ℕ) → is_word name (codes "check") ≡ false → command_of (name ∷ file ∷ []) ≡ command_if false (is_word name (codes "run")) (is_word file (codes "--steps")) file
not_check name file c = ap (λ (t : Bool). command_if t (is_word name (codes "run")) (is_word file (codes "--steps")) file) c

pub command_of-run : (name file : List ℕ) → is_word name (codes "check") ≡ false → is_word name (codes "run") ≡ true → is_word file (codes "--steps") ≡ false → command_of (name ∷ file ∷ []) ≡ Run file
command_of-run name file c a b =
    not_check name file c
    ∙ ap (λ (t : Bool). command_if false t (is_word file (codes "--steps")) file) a
    ∙ ap (λ (t : Bool). command_if false true t file) b

pub command_of-not_run : (name file : List ℕ) → is_word name (codes "check") ≡ false → is_word name (codes "run") ≡ false → command_of (name ∷ file ∷ []) ≡ NoCommand
command_of-not_run name file c a = not_check name file c ∙ ap (λ (t : Bool). command_if false t (is_word file (codes "--steps")) file) a

pub command_of-steps : (name file : List ℕ) → is_word name (codes "check") ≡ false → is_word file (codes "--steps") ≡ true → command_of (name ∷ file ∷ []) ≡ NoCommand
command_of-steps name file c b = not_check name file c ∙ ap (λ (t : Bool). command_if false (is_word name (codes "run")) t file) b ∙ go (is_word name (codes "run"))
  where
    go : (r : Bool) → command_if false r true file ≡ NoCommand
    go true = refl
    go false = refl

pub two : {X : Type 0} (f : X → List ℕ) (words : List X) (a b : X) → length words ≡ 2 → a ≡ get_or words 0 a → b ≡ get_or words 1 b → map f words ≡ f a ∷ f b ∷ []
two f [] a b l p q = absurd (omega arith)
two f (x ∷ []) a b l p q = absurd (omega arith)
two f (x ∷ y ∷ []) a b l p q = ap (λ z. f z ∷ f y ∷ []) (sym p) ∙ ap (λ z. f a ∷ f z ∷ []) (sym q)
two f (x ∷ y ∷ z ∷ words) a b l p q = absurd (omega arith)

pub ruleset word_laws = (command_of-not_two, command_of-check, command_of-run, command_of-not_run, command_of-steps)
