-- Tokens and refusals with their places, computed.
use Rattle.std.proofs.Common.{◌≡◌, ℕ, pos, List, [], ◌∷◌, Ok, Err, refl}
use Rattle.std.specs.Str.{chars, is_utf8}
use Rattle.std.specs.Str.Lossy.{utf8_valid_len}
use lib.Chars.{codes}
use lib.Utf8.{encode}
use Rattle.bqn_base.specs.declared.place.Place.{Place}
use Rattle.bqn_base.specs.declared.role.Role.TheVariants.{Subject, Function, Mod2}
use Rattle.bqn_base.specs.declared.refusal.Refusal.{Refusal}
use Rattle.bqn_base.specs.declared.refusal.Refusal.TheVariants.{NotUtf8, BadChar, OpenQuote, BadNumber, NumberRange, BadName}
use Rattle.bqn_syntax.specs.declared.token.Special.TheVariants.{Right, Modifier}
use Rattle.bqn_syntax.specs.declared.token.Kind.{Kind}
use Rattle.bqn_syntax.specs.declared.token.Kind.TheVariants as kind
use Rattle.bqn_syntax.specs.declared.token.Token.{Token}
use Rattle.bqn_syntax.specs.text.Tokens.{tokens_of_text, tokens_of_source}

abbrev at : ℕ → ℕ → Place
at line column = record { line = line; column = column }

abbrev token : Kind → ℕ → ℕ → Token
token k line column = record { kind = k; place = at line column }

-- names without case and underscores, a comment up to the newline, a macron in a number
two_lines : tokens_of_text (codes "a_B←1e3 # c\n•Show ab-1_0") ≡ Ok (
    token (kind.Word (codes "ab") Subject) 1 1 ∷ token (kind.Punct 8592) 1 4 ∷ token (kind.Number (pos 1000)) 1 5 ∷ token (kind.Punct 10) 1 12
    ∷ token (kind.System (codes "show") Function) 2 1 ∷ token (kind.Word (codes "ab") Subject) 2 7 ∷ token (kind.Given 1) 2 9 ∷ token (kind.Number (pos 10)) 2 10 ∷ [])
two_lines = refl

roles : tokens_of_text (codes "𝕩 F _𝕣_ _m_ a_") ≡ Ok (
    token (kind.Special Right Subject) 1 1 ∷ token (kind.Word (codes "f") Function) 1 3 ∷ token (kind.Special Modifier Mod2) 1 5 ∷ token (kind.Word (codes "m") Mod2) 1 9 ∷ token (kind.Word (codes "a") Subject) 1 13 ∷ [])
roles = refl

literals : tokens_of_text (codes "@'''\"a\"\"b\"`") ≡ Ok (
    token (kind.Char 0) 1 1 ∷ token (kind.Char 39) 1 2 ∷ token (kind.Text (codes "a\"b")) 1 5 ∷ token (kind.Given 52) 1 11 ∷ [])
literals = refl

-- a newline in a literal counts for lines
newline_in_quotes : tokens_of_text (codes "'\n'+") ≡ Ok (token (kind.Char 10) 1 1 ∷ token (kind.Given 0) 2 2 ∷ [])
newline_in_quotes = refl

-- a dot joins two digits alone, in a name too
dots : tokens_of_text (codes "1_.a") ≡ Ok (token (kind.Number (pos 1)) 1 1 ∷ token (kind.Punct 46) 1 3 ∷ token (kind.Word (codes "a") Subject) 1 4 ∷ [])
dots = refl

abbrev refuses : List ℕ → Refusal → Type 0
refuses text r = tokens_of_text text ≡ Err r

dollar : refuses (codes "$") (BadChar (at 1 1))
dollar = refl

lone_return : refuses (codes "1\r2") (BadChar (at 1 2))
lone_return = refl

two_characters : refuses (codes "'ab'") (OpenQuote (at 1 1))
two_characters = refl

open_text : refuses (codes "•Show \"ab") (OpenQuote (at 1 7))
open_text = refl

-- doubled quotes that run off the end: the longest text that ends is a token
doubled_at_end : refuses (codes "\"ab\"\"") (OpenQuote (at 1 5))
doubled_at_end = refl

doubled_inside : refuses (codes "\"a\"\"b") (OpenQuote (at 1 4))
doubled_inside = refl

three_quotes : refuses (codes "\"\"\"") (OpenQuote (at 1 3))
three_quotes = refl

bad_number : refuses (codes "3i4") (BadNumber (at 1 1))
bad_number = refl

half : refuses (codes "1.5") (NumberRange (at 1 1))
half = refl

infinity : refuses (codes "\n ∞") (NumberRange (at 2 2))
infinity = refl

underscore_one : refuses (codes "_1") (BadName (at 1 1))
underscore_one = refl

name_with_dot : refuses (codes "a1.5") (BadName (at 1 1))
name_with_dot = refl

dot_and_underscore : refuses (codes "1._5") (BadName (at 1 3))
dot_and_underscore = refl

bullet_words : refuses (codes "•_1") (BadName (at 1 1))
bullet_words = refl

bullet_special : refuses (codes "•a𝕣") (BadName (at 1 1))
bullet_special = refl

bullet_modifier : refuses (codes "•𝕣") (BadName (at 1 1))
bullet_modifier = refl

bullet_digit : refuses (codes "•1") (BadName (at 1 1))
bullet_digit = refl

-- the leftmost one
leftmost : refuses (codes "1 $ \"") (BadChar (at 1 3))
leftmost = refl

not_utf8 : tokens_of_source (49 ∷ 10 ∷ 255 ∷ []) ≡ Err (NotUtf8 2)
unfolding chars is_utf8 encode utf8_valid_len
not_utf8 = refl
