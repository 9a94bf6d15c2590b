-- Texts and cuts, computed.
use Rattle.std.proofs.Common.{◌≡◌, [], ◌∷◌, Some, None, Ok, refl}
use Rattle.std.specs.Str.{chars, is_utf8}
use lib.Chars.{codes}
use lib.Utf8.{encode}
use Rattle.bqn_syntax.specs.text.Text.{text_of}
use Rattle.bqn_syntax.specs.text.Cut.{pieces_of}

-- the pieces of an ordinary line
cut_of_line : pieces_of (codes "•Show 2+3") ≡ Some (codes "•Show" ∷ codes " " ∷ codes "2" ∷ codes "+" ∷ codes "3" ∷ [])
cut_of_line = refl

-- a dot joins two digits, and no letter
cut_of_dots : pieces_of (codes "1.5.a") ≡ Some (codes "1.5" ∷ codes "." ∷ codes "a" ∷ [])
cut_of_dots = refl

-- a macron belongs to the word that it stands in
cut_of_macrons : pieces_of (codes "2¯3 ¯") ≡ Some (codes "2¯3" ∷ codes " " ∷ codes "¯" ∷ [])
cut_of_macrons = refl

-- a comment ends before the newline, and a quote stands in quotes
cut_of_quotes : pieces_of (codes "'''\"a\"\"b\"#c\n") ≡ Some (codes "'''" ∷ codes "\"a\"\"b\"" ∷ codes "#c" ∷ codes "\n" ∷ [])
cut_of_quotes = refl

-- doubled quotes that run off the end leave a text without an end
no_cut_of_open_text : pieces_of (codes "\"ab\"\"") ≡ None
no_cut_of_open_text = refl

no_cut_of_dollar : pieces_of (codes "1$") ≡ None
no_cut_of_dollar = refl

-- a carriage return goes only directly before a line feed
text_with_returns : text_of (49 ∷ 13 ∷ 13 ∷ 10 ∷ 13 ∷ []) ≡ Ok (49 ∷ 13 ∷ 10 ∷ 13 ∷ [])
unfolding chars is_utf8 encode
text_with_returns = refl
