-- Characters that have a name in definitions, and tests that several of them share.
use Rattle.std.specs.Prelude.{ℕ, nat_le, Bool, ◌&&◌, ◌||◌}

abbrev pub tab : ℕ
tab = 9

abbrev pub newline : ℕ
newline = 10

abbrev pub carriage_return : ℕ
carriage_return = 13

abbrev pub space : ℕ
space = 32

abbrev pub double_quote : ℕ
double_quote = 34

abbrev pub number_sign : ℕ
number_sign = 35

abbrev pub single_quote : ℕ
single_quote = 39

abbrev pub comma : ℕ
comma = 44

abbrev pub dot : ℕ
dot = 46

abbrev pub zero_digit : ℕ
zero_digit = 48

abbrev pub nine_digit : ℕ
nine_digit = 57

abbrev pub colon : ℕ
colon = 58

abbrev pub capital_e : ℕ
capital_e = 69

abbrev pub underscore : ℕ
underscore = 95

abbrev pub small_e : ℕ
small_e = 101

abbrev pub delete : ℕ
delete = 127

-- `¯`, which stands in front of the digits of a negative number
abbrev pub macron : ℕ
macron = 175

-- `π`
abbrev pub pi : ℕ
pi = 960

-- `•`, which stands in front of a system name
abbrev pub bullet : ℕ
bullet = 8226

-- `∞`
abbrev pub infinity : ℕ
infinity = 8734

-- `𝕣`, which stands in words
abbrev pub own_modifier : ℕ
own_modifier = 120163

abbrev pub is_digit : ℕ → Bool
is_digit c = nat_le zero_digit c && nat_le c nine_digit

abbrev pub is_lower : ℕ → Bool
is_lower c = nat_le 97 c && nat_le c 122

abbrev pub is_upper : ℕ → Bool
is_upper c = nat_le 65 c && nat_le c 90

abbrev pub is_letter : ℕ → Bool
is_letter c = is_lower c || is_upper c
