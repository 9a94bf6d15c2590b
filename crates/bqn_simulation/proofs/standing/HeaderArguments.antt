-- An argument of a well header is a special name, a name or a pattern.
use Rattle.std.proofs.Common.{◌≡◌, Bool, true, false, Option, Some, None, refl}
use Rattle.std.proofs.lemmas.Bool.{false≢true}
use Rattle.bqn_syntax.specs.declared.token.Kind.{Kind}
use Rattle.bqn_syntax.specs.declared.token.Kind.TheVariants as kind
use Rattle.bqn_syntax.specs.declared.token.Token.{Token}
use Rattle.bqn_syntax.specs.grammar.Trees.{Pattern, Name, Skip, Literal, ListPattern, StrandPattern, Header}
use Rattle.bqn_syntax.specs.grammar.Sorts.{is_word}
use Rattle.bqn_syntax.specs.grammar.Headers.{is_left, is_right}
use Rattle.bqn_syntax.specs.grammar.Well as well
use Rattle.bqn_syntax.specs.grammar.Well.{WellPattern}

abbrev pub IsNamed : Kind → Type 0
IsNamed (kind.Special z r) = Unit {0}
IsNamed y = is_word y ≡ true

abbrev pub ArgumentWell : Option Pattern → Type 0
ArgumentWell None = Unit {0}
ArgumentWell (Some (Name t)) = IsNamed t.kind
ArgumentWell (Some q) = WellPattern true q

special_named : (t : Token) → is_left t.kind ≡ true → IsNamed t.kind
special_named t e = by t.kind e
  where
    by : (y : Kind) → is_left y ≡ true → IsNamed y
    by (kind.Special z r) e = tt
    by (kind.Word name r) e = absurd (false≢true e)
    by (kind.System z r) e = absurd (false≢true e)
    by (kind.Given z) e = absurd (false≢true e)
    by (kind.Number z) e = absurd (false≢true e)
    by (kind.Char z) e = absurd (false≢true e)
    by (kind.Text z) e = absurd (false≢true e)
    by (kind.Punct z) e = absurd (false≢true e)

right_named : (t : Token) → is_right t.kind ≡ true → IsNamed t.kind
right_named t e = by t.kind e
  where
    by : (y : Kind) → is_right y ≡ true → IsNamed y
    by (kind.Special z r) e = tt
    by (kind.Word name r) e = absurd (false≢true e)
    by (kind.System z r) e = absurd (false≢true e)
    by (kind.Given z) e = absurd (false≢true e)
    by (kind.Number z) e = absurd (false≢true e)
    by (kind.Char z) e = absurd (false≢true e)
    by (kind.Text z) e = absurd (false≢true e)
    by (kind.Punct z) e = absurd (false≢true e)

word_named : (t : Token) → is_word t.kind ≡ true → IsNamed t.kind
word_named t e = by t.kind e
  where
    by : (y : Kind) → is_word y ≡ true → IsNamed y
    by (kind.Word name r) e = refl
    by (kind.Special z r) e = tt
    by (kind.System z r) e = e
    by (kind.Given z) e = e
    by (kind.Number z) e = e
    by (kind.Char z) e = e
    by (kind.Text z) e = e
    by (kind.Punct z) e = e

pattern_well : (q : Pattern) → WellPattern true q → ArgumentWell (Some q)
pattern_well (Name t) w = word_named t w
pattern_well (Skip place) w = w
pattern_well (Literal t) w = w
pattern_well (ListPattern qs) w = w
pattern_well (StrandPattern qs) w = w

argument_well : (is_special : Kind → Bool) → ((t : Token) → is_special t.kind ≡ true → IsNamed t.kind) → (q : Option Pattern) → well.ArgumentFits is_special q → ArgumentWell q
argument_well is_special f None w = tt
argument_well is_special f (Some q) (well.special {t = t} e) = f t e
argument_well is_special f (Some q) (well.pattern o e) = pattern_well q e

pub header_well : (h : Header) → well.WellHeader h → ArgumentWell h.left × ArgumentWell h.right
header_well h w = (argument_well is_left special_named h.left w.left, argument_well is_right right_named h.right w.right)
