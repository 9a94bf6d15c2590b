-- The tokens that fit single signs, and their sorts.
use Rattle.std.proofs.Common.{◌≡◌, ℕ, true, List, ◌∷◌, refl, ap, ◌∙◌}
use Rattle.bqn_syntax.specs.declared.token.Token.{Token}
use Rattle.bqn_syntax.specs.declared.token.Kind.{Kind}
use Rattle.bqn_syntax.specs.declared.token.Kind.TheVariants as kind
use Rattle.bqn_syntax.specs.declared.sort.Sort.{Sort}
use Rattle.bqn_syntax.specs.declared.sort.Sort.TheVariants.{Separates, Stands}
use Rattle.bqn_syntax.specs.grammar.Sorts.{sort_of, punct_sort, is_word}
use Rattle.bqn_syntax.specs.grammar.Spells.{Sign, Exact, Mark, Apart, Fits, exact, mark, apart}
use Rattle.bqn_syntax.specs.grammar.Well.{IsLiteral}

pub exact_is : {t : Token} {k : List Sign} {ts : List Token} → Fits (Exact t ∷ k) ts → (rest : List Token) × (ts ≡ t ∷ rest) × Fits k rest
exact_is (exact {ts = rest} f) = (rest, refl, f)

pub mark_is : {c : ℕ} {k : List Sign} {ts : List Token} → Fits (Mark c ∷ k) ts → (t : Token) × (rest : List Token) × (ts ≡ t ∷ rest) × (t.kind ≡ kind.Punct c) × Fits k rest
mark_is (mark {t = t} {ts = rest} e f) = (t, rest, refl, e, f)

pub apart_is : {k : List Sign} {ts : List Token} → Fits (Apart ∷ k) ts → (t : Token) × (rest : List Token) × (ts ≡ t ∷ rest) × (sort_of t.kind ≡ Separates) × Fits k rest
apart_is (apart {t = t} {ts = rest} e f) = (t, rest, refl, e, f)

pub mark_sort : (t : Token) (c : ℕ) (q : Sort) → t.kind ≡ kind.Punct c → punct_sort c ≡ q → sort_of t.kind ≡ q
mark_sort t c q e p = ap sort_of e ∙ p

pub word_stands : (j : Kind) → is_word j ≡ true → sort_of j ≡ Stands
word_stands (kind.Word name r) e = refl
word_stands _ e = absurd (cc)

pub literal_stands : (j : Kind) → IsLiteral j → sort_of j ≡ Stands
literal_stands (kind.Number z) e = refl
literal_stands (kind.Char c) e = refl
literal_stands (kind.Text s) e = refl
literal_stands _ e = elim e [ ]
