-- The characters that are punctuation in a piece or around it.
use Rattle.std.specs.Prelude.{ℕ}
pub use Rattle.bqn_base.specs.Characters.{dot}

-- `(`
abbrev pub open_round : ℕ
open_round = 40

-- `)`
abbrev pub close_round : ℕ
close_round = 41

-- `⟨`
abbrev pub open_angle : ℕ
open_angle = 10216

-- `⟩`
abbrev pub close_angle : ℕ
close_angle = 10217

-- `[`
abbrev pub open_square : ℕ
open_square = 91

-- `]`
abbrev pub close_square : ℕ
close_square = 93

-- `{`
abbrev pub open_curly : ℕ
open_curly = 123

-- `}`
abbrev pub close_curly : ℕ
close_curly = 125

-- `←`
abbrev pub define_arrow : ℕ
define_arrow = 8592

-- `⇐`
abbrev pub export_arrow : ℕ
export_arrow = 8656

-- `↩`
abbrev pub change_arrow : ℕ
change_arrow = 8617

-- `‿`
abbrev pub joiner : ℕ
joiner = 8255

-- `;`
abbrev pub semicolon : ℕ
semicolon = 59

-- `:`
abbrev pub colon : ℕ
colon = 58

-- `?`
abbrev pub question_mark : ℕ
question_mark = 63

-- `·`
abbrev pub middle_dot : ℕ
middle_dot = 183
