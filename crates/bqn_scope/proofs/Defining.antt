-- The definitions of a body, one mention after another.
use Rattle.std.proofs.Common.{◌≡◌, ℕ, suc, Bool, true, false, not, if◌then◌else◌, List, [], ◌∷◌, ◌++◌, length, get_or, drop, drop-cons, add-one, ◌<◌, ◌≤◌, ◌+◌, refl, sym, ap, ◌∙◌}
use Rattle.std.specs.Prelude.{◌&&◌, ◌||◌}
use Rattle.std.proofs.lemmas.List.{append_assoc, append-nil, drop_all}
use Rattle.bqn_syntax.specs.declared.token.Token.{Token}
use Rattle.bqn_syntax.specs.scope.Mentions.{Mention, Named, Special, System, Inner, Mentions, and_mentions}
use Rattle.bqn_syntax.specs.scope.Scope.{name_of, has, same_name, defines, definitions}
use Rattle.bqn_scope.specs.declared.mention.Mention.{Mention as CodeMention}
use Rattle.bqn_scope.specs.Shown.{mention_of, mentions_shown}
use Rattle.bqn_scope.specs.Tokens.{names_of_tokens}
use Rattle.bqn_scope.specs.Defining.{defining, behind}

has-behind : (ts : List Token) (known : List (List ℕ)) (n : List ℕ) → has (behind ts known) n ≡ (has (names_of_tokens ts) n || has known n)
has-behind [] known n = refl
has-behind (t ∷ ts) known n = has-behind ts (name_of t ∷ known) n ∙ swapped (same_name (name_of t) n) (has (names_of_tokens ts) n) (has known n)
  where
    swapped : (a b c : Bool) → (b || (a || c)) ≡ ((a || b) || c)
    swapped true true c = refl
    swapped true false c = refl
    swapped false b c = refl

behind-more : (ts : List Token) (t : Token) (known : List (List ℕ)) → behind (ts ++ t ∷ []) known ≡ name_of t ∷ behind ts known
behind-more [] t known = refl
behind-more (u ∷ us) t known = behind-more us t (name_of u ∷ known)

abbrev rest : List (List ℕ) → List Token → Mentions → List Token
rest known ts ms = ts ++ definitions (behind ts known) ms

choice : (known : List (List ℕ)) (ts : List Token) (t : Token) (ms : Mentions) (b : Bool) → ts ++ (if b then t ∷ definitions (name_of t ∷ behind ts known) ms else definitions (behind ts known) ms) ≡ rest known (if b then ts ++ t ∷ [] else ts) ms
choice known ts t ms true = sym (append_assoc ts (t ∷ []) (definitions (name_of t ∷ behind ts known) ms)) ∙ ap (λ (b : List (List ℕ)). (ts ++ t ∷ []) ++ definitions b ms) (sym (behind-more ts t known))
choice known ts t ms false = refl

define-one : (known : List (List ℕ)) (ts : List Token) (m : Mention) (ms : Mentions) → rest known ts (and_mentions m ms) ≡ rest known (defining known ts m) ms
define-one known ts (Named how t) ms =
    ap (λ (b : Bool). ts ++ (if defines how && not b then t ∷ definitions (name_of t ∷ behind ts known) ms else definitions (behind ts known) ms)) (has-behind ts known (name_of t))
    ∙ choice known ts t ms (defines how && not (has (names_of_tokens ts) (name_of t) || has known (name_of t)))
define-one known ts (Special t) ms = refl
define-one known ts (System t) ms = refl
define-one known ts (Inner bs) ms = refl

pub define-more : (known : List (List ℕ)) (ts next : List Token) (i : ℕ) (m : CodeMention) (all : List CodeMention) → i < length all → m ≡ get_or all i m → next ≡ defining known ts (mention_of m) → ts ++ definitions (behind ts known) (mentions_shown (drop i all)) ≡ definitions known (mentions_shown all) → next ++ definitions (behind next known) (mentions_shown (drop (i + 1) all)) ≡ definitions known (mentions_shown all)
define-more known ts next i m all inside is n h =
    ap (λ (xs : List Token). rest known xs (mentions_shown (drop (i + 1) all))) n
    ∙ sym (define-one known ts (mention_of m) (mentions_shown (drop (i + 1) all)))
    ∙ ap (λ (k : ℕ). rest known ts (and_mentions (mention_of m) (mentions_shown (drop k all)))) (add-one i)
    ∙ ap (λ (x : CodeMention). rest known ts (mentions_shown (x ∷ drop (suc i) all))) is
    ∙ ap (λ (xs : List CodeMention). rest known ts (mentions_shown xs)) (sym (drop-cons all i m inside))
    ∙ h

pub define-end : (known : List (List ℕ)) (ts whole : List Token) (i : ℕ) (all : List CodeMention) → length all ≤ i → ts ++ definitions (behind ts known) (mentions_shown (drop i all)) ≡ whole → ts ≡ whole
define-end known ts whole i all outside h =
    sym (append-nil ts)
    ∙ ap (λ (xs : List CodeMention). rest known ts (mentions_shown xs)) (sym (drop_all i all outside))
    ∙ h

pub names-more : (ts : List Token) (t : Token) → names_of_tokens (ts ++ t ∷ []) ≡ names_of_tokens ts ++ name_of t ∷ []
names-more [] t = refl
names-more (u ∷ us) t = ap (λ (names : List (List ℕ)). name_of u ∷ names) (names-more us t)

pub ruleset defining_laws = (define-more, define-end, names-more)
