-- What words stand for that are spelled as the names that they name.
use Rattle.std.proofs.Common.{◌≡◌, ◌≤◌, ◌<◌, ◌+◌, ◌-◌, ℕ, zero, suc, pos, List, [], ◌∷◌, Bool, true, false, Option, Some, None, Result, Ok, length, refl, sym, ap, ◌∙◌, arith}
use Rattle.std.specs.Prelude.{◌==◌, ◌&&◌, ◌||◌, if◌then◌else◌}
use Rattle.std.specs.List.{list_all}
use Rattle.std.proofs.lemmas.Bool.Decides.{nat_tests}
use Rattle.bqn_base.specs.declared.role.Role.{Role}
use Rattle.bqn_base.specs.declared.role.Role.TheVariants.{Subject, Function}
use Rattle.bqn_base.specs.Characters.{is_digit, is_letter, is_lower, is_upper}
use Rattle.bqn_base.specs.Names.{is_name_character as is_plain}
use Rattle.bqn_syntax.specs.declared.token.Kind.{Kind}
use Rattle.bqn_syntax.specs.declared.token.Kind.TheVariants as kind
use Rattle.bqn_syntax.specs.text.Table.{is_one_of, blanks, is_name_start}
use Rattle.bqn_syntax.specs.text.Tokens.{Trouble, kind_of, name_kind}
use Rattle.bqn_syntax.specs.text.Words.{begins_with_letter, is_name_character, is_name_word, role_of, word_kind}
use Rattle.bqn_token.specs.Runs.{is_plain_name}
use Rattle.bqn_token.proofs.Alones.{other}
use Rattle.bqn_syntax.proofs.WordNames.{both-left, both-right}
use Rattle.bqn_token.proofs.Names.{name_of-plain, kind-name}

pub plain-none : (word : List ℕ) → length word ≡ 0 → is_plain_name word ≡ false
plain-none [] e = refl
plain-none (c ∷ cs) e = absurd (omega arith)

pub plain-other : (word cs : List ℕ) (c : ℕ) → word ≡ c ∷ cs → is_lower c ≡ false → is_plain_name word ≡ false
plain-other word cs c same other = ap (λ (w : List ℕ). is_plain_name w) same ∙ ap (λ (b : Bool). b && list_all is_plain (c ∷ cs)) other

pub plain-lower : (word cs : List ℕ) (c : ℕ) → word ≡ c ∷ cs → is_lower c ≡ true → is_plain_name word ≡ list_all is_plain word
plain-lower word cs c same lower =
    ap (λ (w : List ℕ). is_plain_name w) same ∙ ap (λ (b : Bool). b && list_all is_plain (c ∷ cs)) lower ∙ ap (λ (w : List ℕ). list_all is_plain w) (sym same)

pub ruleset named_laws = (plain-none, plain-other, plain-lower)

name-if : (l u d x : Bool) → (l || d) ≡ true → ((l || u) || d || x) ≡ true
name-if true u d x e = refl
name-if false true true x e = refl
name-if false false true x e = refl
name-if false u false x e = cc

plain-names : (word : List ℕ) → list_all is_plain word ≡ true → list_all is_name_character word ≡ true
plain-names [] e = refl
plain-names (c ∷ cs) e =
    ap (λ (b : Bool). b && list_all is_name_character cs) (name-if (is_lower c) (is_upper c) (is_digit c) (c == 95) (both-left (is_plain c) (list_all is_plain cs) e))
    ∙ plain-names cs (both-right (is_plain c) (list_all is_plain cs) e)

pub plain-all : (word : List ℕ) → is_plain_name word ≡ true → list_all is_plain word ≡ true
plain-all [] e = refl
plain-all (c ∷ cs) e = both-right (is_lower c) (list_all is_plain (c ∷ cs)) e

letter-at : (c : ℕ) (cs : List ℕ) (under : Bool) → under ≡ false → (elim under as (λ _. Bool) [ true ↦ begins_with_letter cs | false ↦ is_letter c ]) ≡ is_letter c
letter-at c cs true e = cc
letter-at c cs false e = refl

role-at : (under : Bool) (lower : Bool) (rest : Bool) (r : Role) → under ≡ false → lower ≡ true → (if under then r else if lower || rest then Subject else Function) ≡ Subject
role-at false true rest r e f = refl
role-at true lower rest r e f = cc
role-at under false rest r e f = cc

kind-start : (blank hash quote text bullet start : Bool) (q t b s w : Result (Option Kind) Trouble) → blank ≡ false → hash ≡ false → quote ≡ false → text ≡ false → bullet ≡ false → start ≡ true
    → (if blank || hash then Ok None else if quote then q else if text then t else if bullet then b else if start then s else w) ≡ s
kind-start blank hash quote text bullet start q t b s w e f g h i j = rw (e, f, g, h, i, j) refl

pub plain-word : (word : List ℕ) → is_plain_name word ≡ true → word_kind word ≡ Some (kind.Word word Subject)
plain-word [] e = cc
plain-word (c ∷ cs) e =
    let lower : is_lower c ≡ true = both-left (is_lower c) (list_all is_plain (c ∷ cs)) e in
    let all : list_all is_plain (c ∷ cs) ≡ true = both-right (is_lower c) (list_all is_plain (c ∷ cs)) e in
    let least : 97 ≤ c = grind (arith, nat_tests) in
    let under : (c == 95) ≡ false = other c 95 (λ is. omega arith) in
    let letter : is_letter c ≡ true = ap (λ (b : Bool). b || is_upper c) lower in
    let begins : begins_with_letter (c ∷ cs) ≡ true = letter-at c cs (c == 95) under ∙ letter in
    let name : is_name_word (c ∷ cs) ≡ true = ap (λ (b : Bool). b && list_all is_name_character (c ∷ cs)) begins ∙ plain-names (c ∷ cs) all in
    kind-name (c ∷ cs) name
    ∙ ap (λ (n : List ℕ). Some (kind.Word n (role_of (c ∷ cs)))) (name_of-plain (c ∷ cs) all)
    ∙ ap (λ (r : Role). Some (kind.Word (c ∷ cs) r)) (role-at (c == 95) (is_lower c) _ _ under lower)

pub plain-kind : (word : List ℕ) → is_plain_name word ≡ true → kind_of word ≡ Ok (Some (kind.Word word Subject))
plain-kind [] e = cc
plain-kind (c ∷ cs) e =
    let lower : is_lower c ≡ true = both-left (is_lower c) (list_all is_plain (c ∷ cs)) e in
    let least : 97 ≤ c = grind (arith, nat_tests) in
    let most : c ≤ 122 = grind (arith, nat_tests) in
    let space : (c == 32) ≡ false = other c 32 (λ is. omega arith) in
    let tab : (c == 9) ≡ false = other c 9 (λ is. omega arith) in
    let blank : is_one_of blanks c ≡ false = blank-if c space tab in
    let start : is_name_start c ≡ true = ap (λ (b : Bool). (b || is_upper c) || (c == 95) || (c == 120163)) lower in
    kind-start (is_one_of blanks c) (c == 35) (c == 39) (c == 34) (c == 8226) (is_name_start c) _ _ _ _ _
    blank (other c 35 (λ is. omega arith)) (other c 39 (λ is. omega arith)) (other c 34 (λ is. omega arith)) (other c 8226 (λ is. omega arith)) start
    ∙ ap (λ (k : Option Kind). name_kind k) (plain-word (c ∷ cs) e)
  where
    blank-if : (c : ℕ) → (c == 32) ≡ false → (c == 9) ≡ false → is_one_of blanks c ≡ false
    blank-if c space tab = at (is_one_of blanks c) refl
      where
        at : (blank : Bool) → is_one_of blanks c ≡ blank → blank ≡ false
        at true e = grind (arith, nat_tests)
        at false e = refl

pub plain-given : (word name : List ℕ) → is_plain_name word ≡ true → name ≡ word → kind_of word ≡ Ok (Some (kind.Word name Subject))
plain-given word name e same = plain-kind word e ∙ ap (λ (n : List ℕ). Ok (Some (kind.Word n Subject))) (sym same)

pub ruleset kind_laws = (plain-all, plain-given)

one-if : (lower digit : Bool) → (lower || digit) ≡ true → digit ≡ false → (lower && ((lower || digit) && true)) ≡ true
one-if true digit e f = refl
one-if false true e f = cc
one-if false false e f = cc

-- what a word of one character stands for
pub short-letter : (c : ℕ) (name : List ℕ) → is_plain c ≡ true → is_digit c ≡ false → name ≡ c ∷ [] → kind_of (c ∷ []) ≡ Ok (Some (kind.Word name Subject))
short-letter c name plain digit same = plain-given (c ∷ []) name (one-if (is_lower c) (is_digit c) plain digit) same

digit-at : (n : ℕ) → n < 10 → kind_of ((48 + n) ∷ []) ≡ Ok (Some (kind.Number (pos n)))
digit-at zero lt = refl
digit-at (suc zero) lt = refl
digit-at (suc (suc zero)) lt = refl
digit-at (suc (suc (suc zero))) lt = refl
digit-at (suc (suc (suc (suc zero)))) lt = refl
digit-at (suc (suc (suc (suc (suc zero))))) lt = refl
digit-at (suc (suc (suc (suc (suc (suc zero)))))) lt = refl
digit-at (suc (suc (suc (suc (suc (suc (suc zero))))))) lt = refl
digit-at (suc (suc (suc (suc (suc (suc (suc (suc zero)))))))) lt = refl
digit-at (suc (suc (suc (suc (suc (suc (suc (suc (suc zero))))))))) lt = refl
digit-at (suc (suc (suc (suc (suc (suc (suc (suc (suc (suc n)))))))))) lt = absurd (omega arith)

pub short-digit : (c : ℕ) → is_digit c ≡ true → kind_of (c ∷ []) ≡ Ok (Some (kind.Number (pos (c - 48))))
short-digit c digit =
    let below : c - 48 < 10 = grind (arith, nat_tests) in
    let code : c ≡ 48 + (c - 48) = grind (arith, nat_tests) in
    ap (λ (x : ℕ). kind_of (x ∷ [])) code ∙ digit-at (c - 48) below

pub ruleset short_laws = (short-letter)
