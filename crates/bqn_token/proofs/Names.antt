-- How words spell names.
use Rattle.std.proofs.Common.{◌≡◌, ◌≤◌, ◌<◌, ◌+◌, ℕ, suc, List, [], ◌∷◌, ◌++◌, Bool, true, false, Option, Some, None, length, drop, take, get_or, drop-cons, refl, sym, ap, ◌∙◌, arith, rules, add-one}
use Rattle.std.specs.Prelude.{cond, not, ◌==◌, ◌&&◌, ◌||◌, nat_eq, if◌then◌else◌, map, filter}
use Rattle.std.specs.List.{list_all}
use Rattle.std.specs.Cmp.Lexicographic.{pointwise, same_text}
use lib.Chars.{codes}
use Rattle.std.proofs.Math.ListN.{drop_of_length-le}
use Rattle.std.proofs.lemmas.Bool.{eqb-true}
use Rattle.std.proofs.lemmas.List.{map-append, take_all, take_more}
use Rattle.std.proofs.lemmas.List.Elements.{filter-append}
use Rattle.std.proofs.lemmas.Bool.Decides.{nat_tests}
use Rattle.bqn_base.specs.Names.{is_name_character as is_plain}
use Rattle.bqn_base.specs.Characters.{is_upper, is_letter}
use Rattle.bqn_syntax.specs.declared.token.Special.TheVariants.{Modifier}
use Rattle.bqn_syntax.specs.declared.token.Kind.{Kind}
use Rattle.bqn_syntax.specs.declared.token.Kind.TheVariants as kind
use Rattle.bqn_syntax.proofs.WordNames.{both-left, both-right, plain-name_of}
use Rattle.bqn_syntax.specs.text.Words.{begins_with_letter, is_modifier_word, is_name_character, is_name_word, lower_case, name_of, role_of, word_kind}

abbrev letter_if : Bool → ℕ → List ℕ → Bool
letter_if under c cs = elim under [ true ↦ begins_with_letter cs | false ↦ is_letter c ]

pub begins-under : (word : List ℕ) (i c : ℕ) → i < length word → c ≡ get_or word i c → c ≡ 95 → begins_with_letter (drop i word) ≡ begins_with_letter (drop (i + 1) word)
begins-under word i c lt at is =
    ap (λ (w : List ℕ). begins_with_letter w) (drop-cons word i c lt)
    ∙ ap (λ (x : ℕ). begins_with_letter (x ∷ drop (suc i) word)) (sym at ∙ is)
    ∙ ap (λ (k : ℕ). begins_with_letter (drop k word)) (sym (add-one i))

not_under : (c : ℕ) (b : Bool) → (c == 95) ≡ b → (c ≡ 95 → ⊥) → (c == 95) ≡ false
not_under c true e n = absurd (n (eqb-true c 95 e))
not_under c false e n = e

pub begins-other : (word : List ℕ) (i c : ℕ) → i < length word → c ≡ get_or word i c → (c ≡ 95 → ⊥) → begins_with_letter (drop i word) ≡ is_letter c
begins-other word i c lt at n =
    ap (λ (w : List ℕ). begins_with_letter w) (drop-cons word i c lt)
    ∙ ap (λ (x : ℕ). begins_with_letter (x ∷ drop (suc i) word)) (sym at)
    ∙ ap (λ (b : Bool). letter_if b c (drop (suc i) word)) (not_under c (c == 95) refl n)

pub begins-end : (word : List ℕ) (i : ℕ) → length word ≤ i → begins_with_letter (drop i word) ≡ false
begins-end word i le = ap (λ (w : List ℕ). begins_with_letter w) (drop_of_length-le word le)

pub ruleset begin_laws = (begins-under, begins-other, begins-end)

-- a plain character is no underscore and no capital
plain-no_under : (c : ℕ) → is_plain c ≡ true → (c == 95) ≡ false
plain-no_under c is = grind (arith, nat_tests)

plain-no_capital : (c : ℕ) → is_plain c ≡ true → is_upper c ≡ false
plain-no_capital c is = grind (arith, nat_tests)

pub name_of-plain : (word : List ℕ) → list_all is_plain word ≡ true → name_of word ≡ word
name_of-plain [] is = refl
name_of-plain (c ∷ cs) is =
    let plain = both-left (is_plain c) (list_all is_plain cs) is in
    ap (λ (b : Bool). map lower_case (cond (not b) (c ∷ filter (λ d. not (d == 95)) cs) (filter (λ d. not (d == 95)) cs))) (plain-no_under c plain)
    ∙ ap (λ (b : Bool). (if b then c + 32 else c) ∷ name_of cs) (plain-no_capital c plain)
    ∙ ap (λ (ds : List ℕ). c ∷ ds) (name_of-plain cs (both-right (is_plain c) (list_all is_plain cs) is))

pub ruleset name_laws = (name_of-plain, plain-name_of)

-- the letters of a name, one character after another
name_of-more : (word : List ℕ) (i c : ℕ) → i < length word → c ≡ get_or word i c → name_of (take (i + 1) word) ≡ name_of (take i word) ++ name_of (c ∷ [])
name_of-more word i c lt at =
    ap (λ (w : List ℕ). name_of w) (take_more word i c lt)
    ∙ ap (λ (x : ℕ). name_of (take i word ++ x ∷ [])) (sym at)
    ∙ ap (map lower_case) (filter-append (λ d. not (d == 95)) (take i word) (c ∷ []))
    ∙ map-append lower_case (filter (λ d. not (d == 95)) (take i word)) (filter (λ d. not (d == 95)) (c ∷ []))

pub name_of-letter : (word : List ℕ) (i c : ℕ) → i < length word → c ≡ get_or word i c → (c ≡ 95 → ⊥) → name_of (take i word) ++ lower_case c ∷ [] ≡ name_of (take (i + 1) word)
name_of-letter word i c lt at n =
    sym (name_of-more word i c lt at ∙ ap (λ (b : Bool). name_of (take i word) ++ map lower_case (cond (not b) (c ∷ []) [])) (not_under c (c == 95) refl n))

pub name_of-under : (word : List ℕ) (i c : ℕ) → i < length word → c ≡ get_or word i c → c ≡ 95 → name_of (take i word) ≡ name_of (take (i + 1) word)
name_of-under word i c lt at is =
    let none : name_of (take i word) ++ name_of (95 ∷ []) ≡ name_of (take i word) = search rules in
    sym (name_of-more word i c lt at ∙ ap (λ (x : ℕ). name_of (take i word) ++ name_of (x ∷ [])) is ∙ none)

pub name_of-all : (word : List ℕ) (i : ℕ) → length word ≤ i → name_of (take i word) ≡ name_of word
name_of-all word i le = ap (λ (w : List ℕ). name_of w) (take_all i word le)

pub ruleset letter_laws = (name_of-letter, name_of-under, name_of-all)

no_both : (word : List ℕ) → is_name_word word ≡ true → is_modifier_word word ≡ true → ⊥
no_both word name modifier = at (pointwise nat_eq word (codes "𝕣")) (pointwise nat_eq word (codes "_𝕣")) (pointwise nat_eq word (codes "_𝕣_")) refl refl refl modifier
  where
    differs : (other : List ℕ) → is_name_word other ≡ false → pointwise nat_eq word other ≡ true → ⊥
    differs other is_none same =
        let equal : is_name_word word ≡ is_name_word other = ap (λ (w : List ℕ). is_name_word w) (same_text word other (sym same)) in
        let never : true ≡ false = sym name ∙ equal ∙ is_none in
        cc

    at : (a b d : Bool) → pointwise nat_eq word (codes "𝕣") ≡ a → pointwise nat_eq word (codes "_𝕣") ≡ b → pointwise nat_eq word (codes "_𝕣_") ≡ d → (a || b || d) ≡ true → ⊥
    at true b d e f g one = differs (codes "𝕣") refl e
    at false true d e f g one = differs (codes "_𝕣") refl f
    at false false true e f g one = differs (codes "_𝕣_") refl g
    at false false false e f g one = cc

abbrev kind_if : (modifier name : Bool) → List ℕ → Option Kind
kind_if modifier name word = if modifier then Some (kind.Special Modifier (role_of word)) else if name then Some (kind.Word (name_of word) (role_of word)) else None

pub kind-name : (word : List ℕ) → is_name_word word ≡ true → word_kind word ≡ Some (kind.Word (name_of word) (role_of word))
kind-name word name = at (is_modifier_word word) refl
  where
    at : (modifier : Bool) → is_modifier_word word ≡ modifier → kind_if modifier (is_name_word word) word ≡ Some (kind.Word (name_of word) (role_of word))
    at true e = absurd (no_both word name e)
    at false e = ap (λ (b : Bool). kind_if false b word) name

pub kind-modifier : (word : List ℕ) → is_modifier_word word ≡ true → word_kind word ≡ Some (kind.Special Modifier (role_of word))
kind-modifier word modifier = ap (λ (b : Bool). kind_if b (is_name_word word) word) modifier

pub kind-none : (word : List ℕ) → is_name_word word ≡ false → is_modifier_word word ≡ false → word_kind word ≡ None
kind-none word name modifier = ap (λ (b : Bool). kind_if b (is_name_word word) word) modifier ∙ ap (λ (b : Bool). kind_if false b word) name

pub ruleset word_laws = (kind-name, kind-modifier, kind-none)
