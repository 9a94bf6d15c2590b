-- What a token of each sort is.
use Rattle.std.proofs.Common.{◌≡◌, ℕ, ◌==◌, Bool, true, false, refl, sym, ap, ◌∙◌, arith, subst, if◌then◌else◌}
use Rattle.bqn_syntax.specs.declared.token.Kind.{Kind}
use Rattle.bqn_syntax.specs.declared.token.Kind.TheVariants as kind
use Rattle.bqn_syntax.specs.declared.token.Token.{Token}
use Rattle.bqn_syntax.specs.declared.tree.Arrow.TheVariants.{Define, Export, Change}
use Rattle.std.proofs.Common.{◌≡◌, ℕ, ◌==◌, Bool, true, false, refl, sym, ap, ◌∙◌, arith, subst, if◌then◌else◌}
use Rattle.bqn_syntax.specs.declared.token.Kind.{Kind}
use Rattle.bqn_syntax.specs.declared.token.Kind.TheVariants as kind
use Rattle.bqn_syntax.specs.declared.token.Token.{Token}
use Rattle.bqn_syntax.specs.declared.tree.Arrow.TheVariants.{Define, Export, Change}
use Rattle.bqn_syntax.specs.declared.sort.Bracket.TheVariants.{Round, Angle, Square, Curly}
use Rattle.bqn_syntax.specs.declared.sort.Sort.{Sort}
use Rattle.bqn_syntax.specs.declared.sort.Sort.TheVariants.{Opens, Closes, Separates, Draws, Joins, Selects, Ends, Heads, Asks, Skips, Stands}
use Rattle.bqn_syntax.specs.grammar.Punctuation as punctuation
use Rattle.bqn_syntax.specs.grammar.Sorts.{punct_sort, sort_of}
use Rattle.bqn_syntax.specs.grammar.Spells.{arrow_code, mark_at}

-- the mark of a sort that has one mark
abbrev pub sort_code : Sort → ℕ
sort_code (Opens Round) = punctuation.open_round
sort_code (Opens Angle) = punctuation.open_angle
sort_code (Opens Square) = punctuation.open_square
sort_code (Opens Curly) = punctuation.open_curly
sort_code (Closes Round) = punctuation.close_round
sort_code (Closes Angle) = punctuation.close_angle
sort_code (Closes Square) = punctuation.close_square
sort_code (Closes Curly) = punctuation.close_curly
sort_code (Draws a) = arrow_code a
sort_code Joins = punctuation.joiner
sort_code Selects = punctuation.dot
sort_code Ends = punctuation.semicolon
sort_code Heads = punctuation.colon
sort_code Asks = punctuation.question_mark
sort_code Skips = punctuation.middle_dot
sort_code Separates = 0
sort_code Stands = 0

-- sorts that many tokens have
abbrev pub IsMark : Sort → Type 0
IsMark Separates = ⊥
IsMark Stands = ⊥
IsMark _ = Unit {0}

same_number : (c n : ℕ) → (c == n) ≡ true → c ≡ n
same_number c n e = grind arith

code_if : (c n : ℕ) (b : Bool) (x other : Sort) → (c == n) ≡ b → n ≡ sort_code x → (IsMark other → c ≡ sort_code other) → IsMark (if b then x else other) → c ≡ sort_code (if b then x else other)
code_if c n true x other e d f m = same_number c n e ∙ d
code_if c n false x other e d f m = f m

pub punct_code : (c : ℕ) → IsMark (punct_sort c) → c ≡ sort_code (punct_sort c)
punct_code c m = code_if c punctuation.open_round (c == punctuation.open_round) (Opens Round) (if c == punctuation.open_angle then Opens Angle else (if c == punctuation.open_square then Opens Square else (if c == punctuation.open_curly then Opens Curly else (if c == punctuation.close_round then Closes Round else (if c == punctuation.close_angle then Closes Angle else (if c == punctuation.close_square then Closes Square else (if c == punctuation.close_curly then Closes Curly else (if c == punctuation.define_arrow then Draws Define else (if c == punctuation.export_arrow then Draws Export else (if c == punctuation.change_arrow then Draws Change else (if c == punctuation.joiner then Joins else (if c == punctuation.dot then Selects else (if c == punctuation.semicolon then Ends else (if c == punctuation.colon then Heads else (if c == punctuation.question_mark then Asks else (if c == punctuation.middle_dot then Skips else Separates)))))))))))))))) refl refl (code_if c punctuation.open_angle (c == punctuation.open_angle) (Opens Angle) (if c == punctuation.open_square then Opens Square else (if c == punctuation.open_curly then Opens Curly else (if c == punctuation.close_round then Closes Round else (if c == punctuation.close_angle then Closes Angle else (if c == punctuation.close_square then Closes Square else (if c == punctuation.close_curly then Closes Curly else (if c == punctuation.define_arrow then Draws Define else (if c == punctuation.export_arrow then Draws Export else (if c == punctuation.change_arrow then Draws Change else (if c == punctuation.joiner then Joins else (if c == punctuation.dot then Selects else (if c == punctuation.semicolon then Ends else (if c == punctuation.colon then Heads else (if c == punctuation.question_mark then Asks else (if c == punctuation.middle_dot then Skips else Separates))))))))))))))) refl refl (code_if c punctuation.open_square (c == punctuation.open_square) (Opens Square) (if c == punctuation.open_curly then Opens Curly else (if c == punctuation.close_round then Closes Round else (if c == punctuation.close_angle then Closes Angle else (if c == punctuation.close_square then Closes Square else (if c == punctuation.close_curly then Closes Curly else (if c == punctuation.define_arrow then Draws Define else (if c == punctuation.export_arrow then Draws Export else (if c == punctuation.change_arrow then Draws Change else (if c == punctuation.joiner then Joins else (if c == punctuation.dot then Selects else (if c == punctuation.semicolon then Ends else (if c == punctuation.colon then Heads else (if c == punctuation.question_mark then Asks else (if c == punctuation.middle_dot then Skips else Separates)))))))))))))) refl refl (code_if c punctuation.open_curly (c == punctuation.open_curly) (Opens Curly) (if c == punctuation.close_round then Closes Round else (if c == punctuation.close_angle then Closes Angle else (if c == punctuation.close_square then Closes Square else (if c == punctuation.close_curly then Closes Curly else (if c == punctuation.define_arrow then Draws Define else (if c == punctuation.export_arrow then Draws Export else (if c == punctuation.change_arrow then Draws Change else (if c == punctuation.joiner then Joins else (if c == punctuation.dot then Selects else (if c == punctuation.semicolon then Ends else (if c == punctuation.colon then Heads else (if c == punctuation.question_mark then Asks else (if c == punctuation.middle_dot then Skips else Separates))))))))))))) refl refl (code_if c punctuation.close_round (c == punctuation.close_round) (Closes Round) (if c == punctuation.close_angle then Closes Angle else (if c == punctuation.close_square then Closes Square else (if c == punctuation.close_curly then Closes Curly else (if c == punctuation.define_arrow then Draws Define else (if c == punctuation.export_arrow then Draws Export else (if c == punctuation.change_arrow then Draws Change else (if c == punctuation.joiner then Joins else (if c == punctuation.dot then Selects else (if c == punctuation.semicolon then Ends else (if c == punctuation.colon then Heads else (if c == punctuation.question_mark then Asks else (if c == punctuation.middle_dot then Skips else Separates)))))))))))) refl refl (code_if c punctuation.close_angle (c == punctuation.close_angle) (Closes Angle) (if c == punctuation.close_square then Closes Square else (if c == punctuation.close_curly then Closes Curly else (if c == punctuation.define_arrow then Draws Define else (if c == punctuation.export_arrow then Draws Export else (if c == punctuation.change_arrow then Draws Change else (if c == punctuation.joiner then Joins else (if c == punctuation.dot then Selects else (if c == punctuation.semicolon then Ends else (if c == punctuation.colon then Heads else (if c == punctuation.question_mark then Asks else (if c == punctuation.middle_dot then Skips else Separates))))))))))) refl refl (code_if c punctuation.close_square (c == punctuation.close_square) (Closes Square) (if c == punctuation.close_curly then Closes Curly else (if c == punctuation.define_arrow then Draws Define else (if c == punctuation.export_arrow then Draws Export else (if c == punctuation.change_arrow then Draws Change else (if c == punctuation.joiner then Joins else (if c == punctuation.dot then Selects else (if c == punctuation.semicolon then Ends else (if c == punctuation.colon then Heads else (if c == punctuation.question_mark then Asks else (if c == punctuation.middle_dot then Skips else Separates)))))))))) refl refl (code_if c punctuation.close_curly (c == punctuation.close_curly) (Closes Curly) (if c == punctuation.define_arrow then Draws Define else (if c == punctuation.export_arrow then Draws Export else (if c == punctuation.change_arrow then Draws Change else (if c == punctuation.joiner then Joins else (if c == punctuation.dot then Selects else (if c == punctuation.semicolon then Ends else (if c == punctuation.colon then Heads else (if c == punctuation.question_mark then Asks else (if c == punctuation.middle_dot then Skips else Separates))))))))) refl refl (code_if c punctuation.define_arrow (c == punctuation.define_arrow) (Draws Define) (if c == punctuation.export_arrow then Draws Export else (if c == punctuation.change_arrow then Draws Change else (if c == punctuation.joiner then Joins else (if c == punctuation.dot then Selects else (if c == punctuation.semicolon then Ends else (if c == punctuation.colon then Heads else (if c == punctuation.question_mark then Asks else (if c == punctuation.middle_dot then Skips else Separates)))))))) refl refl (code_if c punctuation.export_arrow (c == punctuation.export_arrow) (Draws Export) (if c == punctuation.change_arrow then Draws Change else (if c == punctuation.joiner then Joins else (if c == punctuation.dot then Selects else (if c == punctuation.semicolon then Ends else (if c == punctuation.colon then Heads else (if c == punctuation.question_mark then Asks else (if c == punctuation.middle_dot then Skips else Separates))))))) refl refl (code_if c punctuation.change_arrow (c == punctuation.change_arrow) (Draws Change) (if c == punctuation.joiner then Joins else (if c == punctuation.dot then Selects else (if c == punctuation.semicolon then Ends else (if c == punctuation.colon then Heads else (if c == punctuation.question_mark then Asks else (if c == punctuation.middle_dot then Skips else Separates)))))) refl refl (code_if c punctuation.joiner (c == punctuation.joiner) (Joins) (if c == punctuation.dot then Selects else (if c == punctuation.semicolon then Ends else (if c == punctuation.colon then Heads else (if c == punctuation.question_mark then Asks else (if c == punctuation.middle_dot then Skips else Separates))))) refl refl (code_if c punctuation.dot (c == punctuation.dot) (Selects) (if c == punctuation.semicolon then Ends else (if c == punctuation.colon then Heads else (if c == punctuation.question_mark then Asks else (if c == punctuation.middle_dot then Skips else Separates)))) refl refl (code_if c punctuation.semicolon (c == punctuation.semicolon) (Ends) (if c == punctuation.colon then Heads else (if c == punctuation.question_mark then Asks else (if c == punctuation.middle_dot then Skips else Separates))) refl refl (code_if c punctuation.colon (c == punctuation.colon) (Heads) (if c == punctuation.question_mark then Asks else (if c == punctuation.middle_dot then Skips else Separates)) refl refl (code_if c punctuation.question_mark (c == punctuation.question_mark) (Asks) (if c == punctuation.middle_dot then Skips else Separates) refl refl (code_if c punctuation.middle_dot (c == punctuation.middle_dot) (Skips) Separates refl refl (λ (m : IsMark Separates). elim m [ ]))))))))))))))))) m

code_of : (c : ℕ) (s : Sort) → punct_sort c ≡ s → IsMark s → c ≡ sort_code s
code_of c s e m = punct_code c (subst (λ (x : Sort). IsMark x) (sym e) m) ∙ ap sort_code e

-- a token of this sort is this mark
pub mark_of : (k : Kind) (s : Sort) → sort_of k ≡ s → IsMark s → k ≡ kind.Punct (sort_code s)
mark_of (kind.Punct c) s e m = ap (λ (n : ℕ). kind.Punct n) (code_of c s e m)
mark_of (kind.Number z) s e m = elim (subst (λ (x : Sort). IsMark x) (sym e) m) [ ]
mark_of (kind.Char c) s e m = elim (subst (λ (x : Sort). IsMark x) (sym e) m) [ ]
mark_of (kind.Text x) s e m = elim (subst (λ (x : Sort). IsMark x) (sym e) m) [ ]
mark_of (kind.Word name r) s e m = elim (subst (λ (x : Sort). IsMark x) (sym e) m) [ ]
mark_of (kind.System name r) s e m = elim (subst (λ (x : Sort). IsMark x) (sym e) m) [ ]
mark_of (kind.Special x r) s e m = elim (subst (λ (x : Sort). IsMark x) (sym e) m) [ ]
mark_of (kind.Given code) s e m = elim (subst (λ (x : Sort). IsMark x) (sym e) m) [ ]

pub token_at : (t : Token) (c : ℕ) → t.kind ≡ kind.Punct c → t ≡ mark_at c t.place
token_at t c e = ap (λ (k : Kind). record { kind = k; place = t.place }) e
