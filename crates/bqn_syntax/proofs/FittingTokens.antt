-- The tokens of a source are few, and each fits.
use Rattle.std.proofs.Common.{◌≡◌, ◌≤◌, ◌<◌, ◌-◌, ◌^◌, ℕ, zero, suc, List, [], ◌∷◌, ◌++◌, Bool, true, false, Option, Some, None, Result, Ok, Err, length, take, length-take, refl, subst, sym, ap, arith}
use Rattle.std.specs.Prelude.{◌==◌, ◌&&◌, ◌||◌, if◌then◌else◌, position, nat_eq}
use Rattle.std.specs.List.{All, list_all}
use Rattle.std.specs.Option.{option_map}
use Rattle.std.proofs.lemmas.List.Elements.{All-nil, All-cons}
use Rattle.std.proofs.lemmas.List.Quantifiers.{position-Some}
use Rattle.bqn_base.specs.declared.place.Place.{Place}
use Rattle.bqn_base.specs.declared.refusal.Refusal.{Refusal}
use Rattle.bqn_base.specs.Literal.{Literal, Number, Bad, Range, literal, unquoted}
use Rattle.bqn_syntax.specs.declared.progress.Progress.TheVariants.{Start}
use Rattle.bqn_syntax.specs.declared.token.Special.{Special}
use Rattle.bqn_syntax.specs.declared.token.Special.TheVariants.{Modifier}
use Rattle.bqn_syntax.specs.declared.token.Kind.{Kind}
use Rattle.bqn_syntax.specs.declared.token.Kind.TheVariants as kind
use Rattle.bqn_syntax.specs.declared.token.Token.{Token}
use Rattle.bqn_syntax.specs.text.Cut.{longest}
use Rattle.bqn_syntax.specs.text.Fitting as fit
use Rattle.bqn_syntax.specs.text.Fitting.{NameFits, KindFits, TokenFits, KindBegins, TokenBegins, TokensFit, TokensOfSourcesFit}
use Rattle.bqn_syntax.specs.text.Table.{primitive_functions, primitive_modifiers, blanks, is_one_of, is_name_start, is_word}
use Rattle.bqn_syntax.specs.text.Text.{text_of}
use Rattle.bqn_syntax.specs.text.Tokens.{Trouble, refused_at, no_piece, all_but_last, number_kind, name_kind, single_kind, quoted, kind_of, behind, with_kind, tokens_behind, tokens_of_text, tokens_of_source, first_place}
use Rattle.bqn_syntax.specs.text.Words.{begins_with_letter, is_modifier_word, is_name_character, is_name_word, name_of, role_of, special_of, word_kind, system_kind}
use Rattle.bqn_syntax.proofs.WordNames.{both-left, both-right, plain-name_of, name_of-begins, length-name_of}
use Rattle.bqn_syntax.proofs.Lengths.{text_of-short, length-all_but_last, length-unquoted}

-- ---- one piece

-- what a kind from a source has
record Stands (k : Kind) : Type 0 where
  fits : KindFits k
  begins : KindBegins k

abbrev GivesKind : Option Kind → Type 0
GivesKind None = Unit {0}
GivesKind (Some k) = Stands k

abbrev Gives : Result (Option Kind) Trouble → Type 0
Gives (Ok o) = GivesKind o
Gives (Err trouble) = Unit {0}

name-fits : (word : List ℕ) → is_name_word word ≡ true → length word ≤ 2 ^ 28 → NameFits (name_of word)
name-fits word is short = record {
  characters = plain-name_of word (both-right (begins_with_letter word) (list_all is_name_character word) is);
  short = omega (arith, length-name_of word);
}

name-begins : (word : List ℕ) → is_name_word word ≡ true → fit.begins_with_letter (name_of word) ≡ true
name-begins word is = name_of-begins word (both-left (begins_with_letter word) (list_all is_name_character word) is)

word_kind-gives : (word : List ℕ) → length word ≤ 2 ^ 28 → GivesKind (word_kind word)
word_kind-gives word short = at (is_modifier_word word) (is_name_word word) refl
  where
    at : (modifier name : Bool) → is_name_word word ≡ name
        → GivesKind (if modifier then Some (kind.Special Modifier (role_of word)) else if name then Some (kind.Word (name_of word) (role_of word)) else None)
    at true name is = record { fits = tt; begins = tt }
    at false true is = record { fits = name-fits word is short; begins = name-begins word is }
    at false false is = tt

system_kind-gives : (word : List ℕ) → length word ≤ 2 ^ 28 → GivesKind (system_kind word)
system_kind-gives word short = at (is_name_word word) refl
  where
    at : (name : Bool) → is_name_word word ≡ name → GivesKind (if name then Some (kind.System (name_of word) (role_of word)) else None)
    at true is = record { fits = name-fits word is short; begins = name-begins word is }
    at false is = tt

name_kind-gives : (o : Option Kind) → GivesKind o → Gives (name_kind o)
name_kind-gives None h = tt
name_kind-gives (Some k) h = h

number_kind-gives : (l : Literal) → Gives (number_kind l)
number_kind-gives (Number z) = record { fits = tt; begins = tt }
number_kind-gives Bad = tt
number_kind-gives Range = tt

quoted-gives : (cs : List ℕ) → Gives (quoted cs)
quoted-gives [] = tt
quoted-gives (c ∷ cs) = record { fits = tt; begins = tt }

single_kind-stands : (c : ℕ) → Stands (single_kind c)
single_kind-stands c = at (c == 64) (special_of c) (position (λ d. d == c) (primitive_functions ++ primitive_modifiers)) refl
  where
    at : (zero : Bool) (special : Option Special) (code : Option ℕ) → position (λ d. d == c) (primitive_functions ++ primitive_modifiers) ≡ code
        → Stands (if zero then kind.Char 0 else elim special as (λ _. Kind) [
          | Some name ↦ kind.Special name (role_of (c ∷ []))
          | None ↦ elim (option_map (λ code. kind.Given code) code) as (λ _. Kind) [ Some k ↦ k | None ↦ kind.Punct c ]
        ])
    at true special code is = record { fits = tt; begins = tt }
    at false (Some name) code is = record { fits = tt; begins = tt }
    at false None (Some code) is = record { fits = (position-Some (λ d. d == c) (primitive_functions ++ primitive_modifiers) code 0 is).0; begins = tt }
    at false None None is = record { fits = tt; begins = tt }

kind_of-gives : (piece : List ℕ) → length piece ≤ 2 ^ 28 → Gives (kind_of piece)
kind_of-gives [] short = tt
kind_of-gives (c ∷ cs) short = at (is_one_of blanks c || (c == 35)) (c == 39) (c == 34) (c == 8226) (is_name_start c) (is_word c)
  where
    at : (blank single double bullet name number : Bool) → Gives (
        if blank then Ok None
        else if single then quoted cs
        else if double then Ok (Some (kind.Text (unquoted (all_but_last cs))))
        else if bullet then name_kind (system_kind cs)
        else if name then name_kind (word_kind (c ∷ cs))
        else if number then number_kind (literal (c ∷ cs))
        else Ok (Some (single_kind c)))
    at true single double bullet name number = tt
    at false true double bullet name number = quoted-gives cs
    at false false true bullet name number = record { fits = omega (arith, length-unquoted (all_but_last cs), length-all_but_last cs); begins = tt }
    at false false false true name number = name_kind-gives (system_kind cs) (system_kind-gives cs (omega arith))
    at false false false false true number = name_kind-gives (word_kind (c ∷ cs)) (word_kind-gives (c ∷ cs) short)
    at false false false false false true = number_kind-gives (literal (c ∷ cs))
    at false false false false false false = single_kind-stands c

-- ---- the tokens of a text

abbrev TokenStands : Token → Type 0
TokenStands t = Stands t.kind

-- at most so many tokens, each of which stands, or a refusal
abbrev AllStand : ℕ → Result (List Token) Refusal → Type 0
AllStand n (Ok tokens) = (length tokens ≤ n) × All TokenStands tokens
AllStand n (Err r) = Unit {0}

more : (n : ℕ) (r : Result (List Token) Refusal) → AllStand n r → AllStand (suc n) r
more n (Ok tokens) h = let le = h.0 in (omega arith, h.1)
more n (Err r) h = tt

with_kind-stands : (n : ℕ) (k : Result (Option Kind) Trouble) (place : Place) (r : Result (List Token) Refusal) → Gives k → AllStand n r → AllStand (suc n) (with_kind k place r)
with_kind-stands n (Err trouble) place r g h = tt
with_kind-stands n (Ok None) place r g h = more n r h
with_kind-stands n (Ok (Some k)) place (Ok tokens) g h = let le = h.0 in (omega arith, All-cons TokenStands _ tokens g h.1)
with_kind-stands n (Ok (Some k)) place (Err r) g h = tt

behind-stands : (count : ℕ) (place : Place) (text : List ℕ) → length text ≤ 2 ^ 28 → AllStand (length text) (tokens_behind count place text)
behind-stands count place [] short = (omega arith, All-nil TokenStands)
behind-stands (suc count) place (c ∷ cs) short = more (length cs) (tokens_behind count place cs) (behind-stands count place cs (omega arith))
behind-stands zero place (c ∷ cs) short = go (longest Start (c ∷ cs)) (λ count at. behind-stands count at cs (omega arith))
  where
    go : (o : Option ℕ) → ((count : ℕ) (at : Place) → AllStand (length cs) (tokens_behind count at cs)) → AllStand (suc (length cs)) (elim o as (λ _. Result (List Token) Refusal) [
      | None ↦ Err (refused_at (no_piece c) place)
      | Some count ↦ with_kind (kind_of (take count (c ∷ cs))) place (tokens_behind (count - 1) (behind (take count (c ∷ cs)) place) cs)
    ])
    go None rest = tt
    go (Some count) rest =
        with_kind-stands (length cs) (kind_of (take count (c ∷ cs))) place (tokens_behind (count - 1) (behind (take count (c ∷ cs)) place) cs)
        (kind_of-gives (take count (c ∷ cs)) (omega (arith, length-take count (c ∷ cs)))) (rest (count - 1) (behind (take count (c ∷ cs)) place))

all_stand : (n : ℕ) (r : Result (List Token) Refusal) (tokens : List Token) → r ≡ Ok tokens → AllStand n r → AllStand n (Ok tokens)
all_stand n r tokens e h = subst (AllStand n) e h

pub text_fits : (text : List ℕ) (tokens : List Token) → length text ≤ 2 ^ 20 → tokens_of_text text ≡ Ok tokens → TokensFit tokens
text_fits text tokens short e =
    let h = all_stand (length text) (tokens_of_text text) tokens e (behind-stands 0 first_place text (omega arith)) in
    let le = h.0 in
    record { few = omega arith; fit = λ k d l. (h.1 k d l).fits; letters = λ k d l. (h.1 k d l).begins }

pub tokens_fit : TokensOfSourcesFit
tokens_fit bytes tokens e = at (text_of bytes) refl e
  where
    at : (r : Result (List ℕ) Refusal) → text_of bytes ≡ r → (elim r as (λ _. Result (List Token) Refusal) [ Ok text ↦ tokens_of_text text | Err r ↦ Err r ]) ≡ Ok tokens → TokensFit tokens
    at (Ok text) is e = text_fits text tokens (text_of-short bytes text is) e
    at (Err r) is e = absurd (cc)

pub ruleset token_laws = (tokens_fit)
