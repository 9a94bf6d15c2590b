-- Printed texts, as lists of characters; what is written is their UTF-8. All of them are this project's own.
use Rattle.std.specs.Prelude.{ℕ, suc, ◌-◌, ◌/◌, ◌%◌, ◌^◌, nat_le, if◌then◌else◌, ℤ, pos, negsuc, List, [], ◌∷◌, ◌++◌, Option, Some, None, codes, decimal}
use Rattle.bqn_base.specs.Characters.{newline, space, number_sign, colon, macron}
use Rattle.bqn_base.specs.declared.fault.Fault.{Fault}
use Rattle.bqn_base.specs.declared.fault.Fault.TheVariants.{Assert, Domain, Rank, Length, Index, Overflow, NotWhole, DivideByZero, CharRange, NoFill, NoIdentity, NoInverse, UnderConflict, Undefined, NoBody, Pattern, NoField, NotCallable, NothingUsed, TooLarge, TooDeep, NoOrder, NoCompare, LeftOut}
use Rattle.bqn_base.specs.declared.place.Place.{Place}
use Rattle.bqn_base.specs.declared.refusal.Refusal.{Refusal}
use Rattle.bqn_base.specs.declared.refusal.Refusal.TheVariants as refusal

-- a text and a newline
abbrev pub line : List ℕ → List ℕ
line text = text ++ newline ∷ []

-- decimal digits, a macron first where the number is negative
abbrev pub number_text : ℤ → List ℕ
number_text (pos n) = decimal n
number_text (negsuc n) = macron ∷ decimal (suc n)

abbrev pub fault_name : Fault → List ℕ
fault_name (Assert message) = codes "Assert"
fault_name Domain = codes "Domain"
fault_name Rank = codes "Rank"
fault_name Length = codes "Length"
fault_name Index = codes "Index"
fault_name Overflow = codes "Overflow"
fault_name NotWhole = codes "NotWhole"
fault_name DivideByZero = codes "DivideByZero"
fault_name CharRange = codes "CharRange"
fault_name NoFill = codes "NoFill"
fault_name NoIdentity = codes "NoIdentity"
fault_name NoInverse = codes "NoInverse"
fault_name UnderConflict = codes "UnderConflict"
fault_name Undefined = codes "Undefined"
fault_name NoBody = codes "NoBody"
fault_name Pattern = codes "Pattern"
fault_name NoField = codes "NoField"
fault_name NotCallable = codes "NotCallable"
fault_name NothingUsed = codes "NothingUsed"
fault_name TooLarge = codes "TooLarge"
fault_name TooDeep = codes "TooDeep"
fault_name NoOrder = codes "NoOrder"
fault_name NoCompare = codes "NoCompare"
fault_name LeftOut = codes "LeftOut"

-- a message behind the name; the empty text is no message
abbrev pub shown_message : List ℕ → List ℕ
shown_message [] = []
shown_message (c ∷ cs) = codes ": " ++ c ∷ cs

abbrev pub fault_message : Fault → List ℕ
fault_message (Assert message) = shown_message message
fault_message _ = []

-- ---- places

-- the most lines that a printed place counts on
abbrev pub counted_lines : ℕ
counted_lines = 2 ^ 25

abbrev pub line_and_column : (line column : ℕ) → List ℕ
line_and_column line column = decimal line ++ colon ∷ decimal column

-- a place past the counted lines: how many times they have passed, and a line from 1 on
abbrev pub far_place_text : (line column : ℕ) → List ℕ
far_place_text line column =
    number_sign ∷ decimal ((line - 1) / counted_lines) ++ space ∷ line_and_column (suc ((line - 1) % counted_lines)) column

abbrev pub place_text : Place → List ℕ
place_text place =
    if nat_le place.line counted_lines then line_and_column place.line place.column else far_place_text place.line place.column

abbrev pub error_place : Option Place → List ℕ
error_place None = []
error_place (Some place) = codes " at " ++ place_text place

-- ---- lines

-- the line of an uncaught fault, with the place of what failed where there is one
abbrev pub error_line : Fault → Option Place → List ℕ
error_line fault place = line (codes "Error: " ++ fault_name fault ++ error_place place ++ fault_message fault)

abbrev pub refusal_text : Refusal → List ℕ
refusal_text (refusal.NotUtf8 at) = codes "NotUtf8 at byte " ++ decimal at
refusal_text refusal.TooLong = codes "TooLong"
refusal_text (refusal.BadChar place) = codes "BadChar " ++ place_text place
refusal_text (refusal.OpenQuote place) = codes "OpenQuote " ++ place_text place
refusal_text (refusal.BadNumber place) = codes "BadNumber " ++ place_text place
refusal_text (refusal.NumberRange place) = codes "NumberRange " ++ place_text place
refusal_text (refusal.BadName place) = codes "BadName " ++ place_text place
refusal_text (refusal.Bracket place) = codes "Bracket " ++ place_text place
refusal_text (refusal.TooNested place) = codes "TooNested " ++ place_text place
refusal_text (refusal.Grammar place) = codes "Grammar " ++ place_text place
refusal_text (refusal.BadBlock place) = codes "BadBlock " ++ place_text place
refusal_text (refusal.Undeclared place) = codes "Undeclared " ++ place_text place
refusal_text (refusal.Redefined place) = codes "Redefined " ++ place_text place
refusal_text (refusal.Early place) = codes "Early " ++ place_text place
refusal_text (refusal.TooMany place) = codes "TooMany " ++ place_text place
refusal_text (refusal.UnknownSystem place) = codes "UnknownSystem " ++ place_text place
refusal_text refusal.NotYet = codes "NotYet"

-- the line of a refused source
abbrev pub refusal_line : Refusal → List ℕ
refusal_line r = line (codes "Refused: " ++ refusal_text r)

-- the line for words that are no command
abbrev pub usage_line : List ℕ
usage_line = line (codes "Usage: run [--steps N] FILE ARG.. | session [--steps N] | check FILE | build FILE | exec [--steps N] FILE ARG.. | demo N")
