-- A scan of brackets, token by token.
use Rattle.std.proofs.Common.{◌≡◌, ◌≤◌, ◌<◌, ◌+◌, ℕ, suc, List, [], ◌∷◌, ◌++◌, Bool, true, false, Result, Ok, Err, length, drop, get_or, drop-cons, refl, sym, ap, ◌∙◌, add-one, arith, subst, reverse, set}
use Rattle.std.specs.Prelude.{◌==◌, if◌then◌else◌}
use Rattle.std.proofs.Math.ListN.{drop_of_length-le, length-set}
use Rattle.std.proofs.lemmas.List.{reverse-append, length-reverse, length-append}
use Rattle.bqn_base.specs.declared.place.Place.{Place}
use Rattle.bqn_base.specs.declared.refusal.Refusal.{Refusal}
use Rattle.bqn_syntax.specs.declared.open.Open.{Open}
use Rattle.bqn_syntax.specs.declared.token.Kind.{Kind}
use Rattle.bqn_syntax.specs.declared.token.Kind.TheVariants as kind
use Rattle.bqn_syntax.specs.declared.token.Token.{Token}
use Rattle.bqn_syntax.specs.grammar.Brackets.{Nesting, is_opening, is_closing, closing_of, alone, opened, closed, marked, behind_token, at_end, nested, partners_of}
use Rattle.bqn_roles.specs.declared.brackets.Scan.{Scan}
use Rattle.bqn_roles.specs.Nesting.{AllBefore, Sound, nesting_of}

pub reverse-snoc : (brackets : List Open) (bracket : Open) → reverse (brackets ++ bracket ∷ []) ≡ bracket ∷ reverse brackets
reverse-snoc brackets bracket = reverse-append brackets (bracket ∷ [])

pub length-around : (brackets : List Open) → length (reverse brackets) ≡ length brackets
length-around brackets = length-reverse brackets

all_before-later : (index : ℕ) (brackets : List Open) → AllBefore index brackets → AllBefore (index + 1) brackets
all_before-later index [] before = tt
all_before-later index (bracket ∷ brackets) before = (let first : bracket.index < index = before.0 in omega arith, all_before-later index brackets before.1)

-- after a step that is not refused, so many tokens have partners
abbrev SoundAfter : ℕ → Result Nesting Refusal → Type 0
SoundAfter index (Ok next) = Sound index next
SoundAfter index (Err r) = Unit {0}

after-if : (index : ℕ) (test : Bool) (x y : Result Nesting Refusal) → SoundAfter index x → SoundAfter index y → SoundAfter index (if test then x else y)
after-if index true x y p q = p
after-if index false x y p q = q

sound-pushed : (index partner : ℕ) (around : List Open) (partners : List ℕ) → length partners ≡ index → AllBefore (index + 1) around → Sound (index + 1) (record { around = around; partners = partners ++ partner ∷ [] })
sound-pushed index partner around partners counted before = record { counted = let l = length-append partners (partner ∷ []) in omega (arith, l); before = before }

after-alone : (index : ℕ) (now : Nesting) → Sound index now → Sound (index + 1) (alone index now)
after-alone index now sound = sound-pushed index index now.around now.partners sound.counted (all_before-later index now.around sound.before)

after-opened : (bracket : Open) (now : Nesting) → Sound bracket.index now → SoundAfter (bracket.index + 1) (opened bracket now)
after-opened bracket now sound =
    let first : bracket.index < bracket.index + 1 = omega arith in
    after-if (bracket.index + 1) (length now.around == 128) _ _ tt
    (sound-pushed bracket.index bracket.index (bracket ∷ now.around) now.partners sound.counted (first, all_before-later bracket.index now.around sound.before))

after-closed : (bracket : Open) (around : List Open) (partners : List ℕ) → Sound bracket.index (record { around = around; partners = partners }) → SoundAfter (bracket.index + 1) (closed bracket around partners)
after-closed bracket [] partners sound = tt
after-closed bracket (innermost ∷ around) partners sound =
    after-if (bracket.index + 1) (closing_of innermost.code == bracket.code) _ _
    (sound-pushed bracket.index innermost.index around (set partners innermost.index bracket.index) (length-set partners innermost.index bracket.index ∙ sound.counted) (all_before-later bracket.index around sound.before.1))
    tt

after-marked : (mark : Open) (now : Nesting) → Sound mark.index now → SoundAfter (mark.index + 1) (marked mark now)
after-marked mark now sound =
    after-if (mark.index + 1) (is_opening mark.code) _ _ (after-opened mark now sound)
    (after-if (mark.index + 1) (is_closing mark.code) _ _ (after-closed mark now.around now.partners sound) (after-alone mark.index now sound))

after-token : (index : ℕ) (k : Kind) (place : Place) (now : Nesting) → Sound index now → SoundAfter (index + 1) (behind_token index k place now)
after-token index (kind.Punct c) place now sound = after-marked (record { index = index; code = c; place = place }) now sound
after-token index other place now sound = after-alone index now sound

-- an open bracket has its place among the partners
pub innermost-inside : (index : ℕ) (scan : Scan) (brackets : List Open) (innermost : Open) → Sound index (nesting_of scan) → scan.around.items ≡ brackets ++ innermost ∷ [] → innermost.index < length scan.partner.items
innermost-inside index scan brackets innermost sound e =
    let before : AllBefore index (innermost ∷ reverse brackets) = subst (λ (os : List Open). AllBefore index os) (ap reverse e ∙ reverse-snoc brackets innermost) sound.before in
    let first : innermost.index < index = before.0 in
    omega (arith, sound.counted)

abbrev going_on : Result Nesting Refusal → ℕ → List Token → Result (List ℕ) Refusal
going_on (Ok next) index tokens = nested index next tokens
going_on (Err r) index tokens = Err r

nested-cons : (index : ℕ) (now : Nesting) (token : Token) (tokens : List Token) → nested index now (token ∷ tokens) ≡ going_on (behind_token index token.kind token.place now) (index + 1) tokens
nested-cons index now token tokens = at (behind_token index token.kind token.place now)
  where
    at : (answer : Result Nesting Refusal) → (elim answer as (λ _. Result (List ℕ) Refusal) [ Ok next ↦ nested (index + 1) next tokens | Err r ↦ Err r ]) ≡ going_on answer (index + 1) tokens
    at (Ok next) = refl
    at (Err r) = refl

-- the scan so far does what the rest of the tokens wants
pub record Going (index : ℕ) (now : Nesting) (tokens : List Token) : Type 0 where
  pub same : nested index now (drop index tokens) ≡ partners_of tokens
  pub sound : Sound index now

pub going-start : (tokens : List Token) → Going 0 (record { around = []; partners = [] }) tokens
going-start tokens = record { same = refl; sound = record { counted = refl; before = tt } }

going-answer : (index : ℕ) (now : Nesting) (tokens : List Token) (token : Token) → Going index now tokens → index < length tokens → token ≡ get_or tokens index token
    → partners_of tokens ≡ going_on (behind_token index token.kind token.place now) (index + 1) (drop (index + 1) tokens)
going-answer index now tokens token going inside is =
    sym going.same
    ∙ ap (λ (rest : List Token). nested index now rest) (drop-cons tokens index token inside)
    ∙ ap (λ (first : Token). nested index now (first ∷ drop (suc index) tokens)) (sym is)
    ∙ nested-cons index now token (drop (suc index) tokens)
    ∙ ap (λ (next : ℕ). going_on (behind_token index token.kind token.place now) (index + 1) (drop next tokens)) (sym (add-one index))

pub going-step : (index : ℕ) (now next : Nesting) (tokens : List Token) (token : Token) → Going index now tokens → index < length tokens → token ≡ get_or tokens index token
    → behind_token index token.kind token.place now ≡ Ok next → Going (index + 1) next tokens
going-step index now next tokens token going inside is e = record {
  same = sym (going-answer index now tokens token going inside is ∙ ap (λ (answer : Result Nesting Refusal). going_on answer (index + 1) (drop (index + 1) tokens)) e);
  sound = subst (λ (answer : Result Nesting Refusal). SoundAfter (index + 1) answer) e (after-token index token.kind token.place now going.sound);
}

pub going-refused : (index : ℕ) (now : Nesting) (tokens : List Token) (token : Token) (r : Refusal) → Going index now tokens → index < length tokens → token ≡ get_or tokens index token
    → behind_token index token.kind token.place now ≡ Err r → partners_of tokens ≡ Err r
going-refused index now tokens token r going inside is e = going-answer index now tokens token going inside is ∙ ap (λ (answer : Result Nesting Refusal). going_on answer (index + 1) (drop (index + 1) tokens)) e

pub going-end : (index : ℕ) (now : Nesting) (tokens : List Token) → Going index now tokens → length tokens ≤ index → partners_of tokens ≡ at_end now.around now.partners
going-end index now tokens going outside = sym going.same ∙ ap (λ (rest : List Token). nested index now rest) (drop_of_length-le tokens outside)

pub ruleset scan_laws = (reverse-snoc, length-around, innermost-inside)

pub ruleset nest_laws = (reverse-snoc, going-start, going-step, going-refused, going-end)
