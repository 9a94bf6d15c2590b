-- What tells the class of a block.
use Rattle.std.proofs.Common.{◌≡◌, ◌+◌, ◌<◌, ◌≤◌, ℕ, suc, Bool, true, false, List, [], ◌∷◌, ◌++◌, Option, Some, None, length, drop, get_or, drop-cons, add-one, map, refl, sym, ap, ◌∙◌}
use Rattle.std.specs.Prelude.{◌||◌, ◌&&◌, not, nat_le, if◌then◌else◌}
use Rattle.std.specs.List.{list_any, list_all}
use Rattle.std.specs.Option.{option_map}
use Rattle.std.proofs.Math.ListN.{drop_of_length-le}
use Rattle.std.proofs.lemmas.List.{map-append, append_assoc, append-nil}
use Rattle.bqn_syntax.specs.declared.tree.BodyTree.{BodyTree as CodeBody}
use Rattle.bqn_syntax.specs.declared.tree.Class.{Class}
use Rattle.bqn_syntax.specs.declared.tree.Class.TheVariants as class_names
use Rattle.bqn_syntax.specs.declared.sort.Tag.{Tag}
use Rattle.bqn_syntax.specs.declared.sort.Tag.TheVariants as tag
use Rattle.bqn_base.specs.declared.place.Place.{Place}
use Rattle.bqn_syntax.specs.grammar.Trees.{Pattern, Skip, Header, bodies, body_of}
use Rattle.bqn_syntax.specs.grammar.Classes as classes
use Rattle.bqn_headers.specs.declared.class.BodyMarks.{BodyMarks}
use Rattle.bqn_headers.specs.Heading.{marks_shown}
use Rattle.bqn_parse.specs.Marking.{at_most_one, brief, brief_header}

-- The class of a block, from what is brief.

any-brief : (test : classes.Marks → Bool) → ((m : classes.Marks) → test (brief m) ≡ test m) → (ms : List classes.Marks) → list_any test (map brief ms) ≡ list_any test ms
any-brief test same [] = refl
any-brief test same (m ∷ ms) = ap (λ (b : Bool). b || list_any test (map brief ms)) (same m) ∙ ap (λ (b : Bool). test m || b) (any-brief test same ms)

all-brief : (test : classes.Marks → Bool) → ((m : classes.Marks) → test (brief m) ≡ test m) → (ms : List classes.Marks) → list_all test (map brief ms) ≡ list_all test ms
all-brief test same [] = refl
all-brief test same (m ∷ ms) = ap (λ (b : Bool). b && list_all test (map brief ms)) (same m) ∙ ap (λ (b : Bool). test m && b) (all-brief test same ms)

heads-brief : (t : Tag) (h : Option Header) → classes.heads t (option_map brief_header h) ≡ classes.heads t h
heads-brief t None = refl
heads-brief t (Some h) = refl

some-brief : (place : Place) (q : Option Pattern) → classes.is_some (option_map (λ x. Skip place) q) ≡ classes.is_some q
some-brief place None = refl
some-brief place (Some q) = refl

argument-brief : (h : Option Header) → classes.has_argument (option_map brief_header h) ≡ classes.has_argument h
argument-brief None = refl
argument-brief (Some h) = some-brief h.own.place h.right

headless-brief : (h : Option Header) → classes.no_header (option_map brief_header h) ≡ classes.no_header h
headless-brief None = refl
headless-brief (Some h) = refl

two-brief : (m : classes.Marks) → classes.has_two (brief m) ≡ classes.has_two m
two-brief m = ap (λ (b : Bool). m.seen.two || b) (heads-brief tag.Mod2 m.header)

self-brief : (m : classes.Marks) → classes.has_one_self (brief m) ≡ classes.has_one_self m
self-brief m = ap (λ (b : Bool). m.seen.one_self || b) (heads-brief tag.Mod1 m.header)

one-brief : (m : classes.Marks) → classes.has_one (brief m) ≡ classes.has_one m
one-brief m = ap (λ (b : Bool). m.seen.one || b) (self-brief m)

function-brief : (m : classes.Marks) → classes.has_function (brief m) ≡ classes.has_function m
function-brief m = heads-brief tag.Function m.header

deferred-brief : (m : classes.Marks) → classes.is_deferred (brief m) ≡ classes.is_deferred m
deferred-brief m = ap (λ (b : Bool). m.seen.args || b) (argument-brief m.header)

called-brief : (m : classes.Marks) → (m.seen.args || classes.has_function (brief m)) ≡ (m.seen.args || classes.has_function m)
called-brief m = ap (λ (b : Bool). m.seen.args || b) (function-brief m)

plain-brief : (m : classes.Marks) → classes.is_plain (brief m) ≡ classes.is_plain m
plain-brief m = ap (λ (b : Bool). b && not m.predicate) (headless-brief m.header)

statement-brief : (m : classes.Marks) → classes.has_statement (brief m) ≡ classes.has_statement m
statement-brief m = at m.statements
  where
    by : (b : Bool) → nat_le 1 (if b then 1 else 0) ≡ b
    by true = refl
    by false = refl

    at : (n : ℕ) → nat_le 1 (at_most_one n) ≡ nat_le 1 n
    at n = by (nat_le 1 n)

length-brief : (ms : List classes.Marks) → length (map brief ms) ≡ length ms
length-brief [] = refl
length-brief (m ∷ ms) = ap (λ (n : ℕ). suc n) (length-brief ms)

last-brief : (most : ℕ) (ms : List classes.Marks) → classes.plain_last most (map brief ms) ≡ classes.plain_last most ms
last-brief most [] = refl
last-brief most (m ∷ ms) = at (classes.is_plain (brief m)) (classes.is_plain m) (plain-brief m) (last-brief most ms)
  where
    at : (b d : Bool) → b ≡ d → classes.plain_last most (map brief ms) ≡ classes.plain_last most ms
        → (elim b as (λ _. Bool) [ true ↦ list_all classes.is_plain (map brief ms) && nat_le (length (brief m ∷ map brief ms)) most | false ↦ classes.plain_last most (map brief ms) ])
        ≡ (elim d as (λ _. Bool) [ true ↦ list_all classes.is_plain ms && nat_le (length (m ∷ ms)) most | false ↦ classes.plain_last most ms ])
    at true true e h = ap (λ (b : Bool). b && nat_le (suc (length (map brief ms))) most) (all-brief classes.is_plain plain-brief ms) ∙ ap (λ (n : ℕ). list_all classes.is_plain ms && nat_le (suc n) most) (length-brief ms)
    at true false e h = cc
    at false true e h = cc
    at false false e h = h

if-brief : (c : Class) (ms : List classes.Marks) → classes.class_if c (map brief ms) ≡ classes.class_if c ms
if-brief c ms =
    ap (λ (b : Bool). if b && classes.plain_last (classes.most_plain c) (map brief ms) then Some c else None) (all-brief classes.has_statement statement-brief ms)
    ∙ ap (λ (b : Bool). if list_all classes.has_statement ms && b then Some c else None) (last-brief (classes.most_plain c) ms)

-- the class, from what occurs in some body
abbrev class_from : (two self one function deferred called : Bool) → (Class → Option Class) → Option Class
class_from two self one function deferred called class =
    if two then (if self || function then None else class (if deferred then class_names.Mod2Deferred else class_names.Mod2))
    else if one then (if function then None else class (if deferred then class_names.Mod1Deferred else class_names.Mod1))
    else if called then class class_names.Function
    else class class_names.Immediate

from-same : (two self one function deferred called : Bool) (f g : Class → Option Class) → ((c : Class) → f c ≡ g c) → class_from two self one function deferred called f ≡ class_from two self one function deferred called g
from-same true true one function deferred called f g same = refl
from-same true false one true deferred called f g same = refl
from-same true false one false deferred called f g same = same (if deferred then class_names.Mod2Deferred else class_names.Mod2)
from-same false self true true deferred called f g same = refl
from-same false self true false deferred called f g same = same (if deferred then class_names.Mod1Deferred else class_names.Mod1)
from-same false self false function deferred true f g same = same class_names.Function
from-same false self false function deferred false f g same = same class_names.Immediate

abbrev from_marks : (Class → Option Class) → List classes.Marks → Option Class
from_marks f ms = class_from (list_any classes.has_two ms) (list_any classes.has_one_self ms) (list_any classes.has_one ms) (list_any classes.has_function ms) (list_any classes.is_deferred ms) (list_any (λ m. m.seen.args || classes.has_function m) ms) f

from-brief : (f : Class → Option Class) (ms : List classes.Marks) → from_marks f (map brief ms) ≡ from_marks f ms
from-brief f ms = rw (any-brief classes.has_two two-brief ms, any-brief classes.has_one_self self-brief ms, any-brief classes.has_one one-brief ms, any-brief classes.has_function function-brief ms, any-brief classes.is_deferred deferred-brief ms, any-brief (λ m. m.seen.args || classes.has_function m) called-brief ms) refl

pub class-brief : (ms : List classes.Marks) → classes.class_of (map brief ms) ≡ classes.class_of ms
class-brief ms =
    from-brief (λ c. classes.class_if c (map brief ms)) ms
    ∙ from-same (list_any classes.has_two ms) (list_any classes.has_one_self ms) (list_any classes.has_one ms) (list_any classes.has_function ms) (list_any classes.is_deferred ms) (list_any (λ m. m.seen.args || classes.has_function m) ms)
    (λ c. classes.class_if c (map brief ms)) (λ c. classes.class_if c ms) (λ c. if-brief c ms)

-- The marks of bodies, one after another.

-- these have their marks
pub record Marked (index : ℕ) (ms : List BodyMarks) (all : List CodeBody) : Type 0 where
  pub same : map marks_shown ms ++ map brief (classes.marks_in (bodies (map body_of (drop index all)))) ≡ map brief (classes.marks_in (bodies (map body_of all)))

pub marked-start : (all : List CodeBody) → Marked 0 [] all
marked-start all = record { same = refl }

abbrev rest : List CodeBody → List classes.Marks
rest xs = map brief (classes.marks_in (bodies (map body_of xs)))

pub marked-step : (index : ℕ) (ms : List BodyMarks) (m : BodyMarks) (all : List CodeBody) (b : CodeBody) → Marked index ms all → index < length all → b ≡ get_or all index b
    → marks_shown m ≡ brief (classes.marks_of (body_of b)) → Marked (index + 1) (ms ++ m ∷ []) all
marked-step index ms m all b marked inside is e = record {
  same =
      ap (λ (n : ℕ). map marks_shown (ms ++ m ∷ []) ++ rest (drop n all)) (add-one index)
      ∙ ap (λ (xs : List classes.Marks). xs ++ rest (drop (suc index) all)) (map-append marks_shown ms (m ∷ []))
      ∙ append_assoc (map marks_shown ms) (marks_shown m ∷ []) (rest (drop (suc index) all))
      ∙ ap (λ (x : classes.Marks). map marks_shown ms ++ x ∷ rest (drop (suc index) all)) e
      ∙ ap (λ (x : CodeBody). map marks_shown ms ++ rest (x ∷ drop (suc index) all)) is
      ∙ ap (λ (xs : List CodeBody). map marks_shown ms ++ rest xs) (sym (drop-cons all index b inside))
      ∙ marked.same;
}

pub marked-end : (index : ℕ) (ms : List BodyMarks) (all : List CodeBody) → Marked index ms all → length all ≤ index → map marks_shown ms ≡ map brief (classes.marks_in (bodies (map body_of all)))
marked-end index ms all marked outside =
    sym (append-nil (map marks_shown ms))
    ∙ ap (λ (xs : List CodeBody). map marks_shown ms ++ map brief (classes.marks_in (bodies (map body_of xs)))) (sym (drop_of_length-le all outside))
    ∙ marked.same

pub ruleset all_marks_laws = (marked-start, marked-step, marked-end)

-- the class that the marks tell
pub class-told : (ms : List BodyMarks) (all : List classes.Marks) (c : Option Class) → map marks_shown ms ≡ map brief all → c ≡ classes.class_of (map marks_shown ms) → classes.class_of all ≡ c
class-told ms all c e is = sym (class-brief all) ∙ ap classes.class_of (sym e) ∙ sym is
