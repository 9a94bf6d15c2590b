-- Bodies from one on.
use Rattle.std.proofs.Common.{◌≡◌, ◌<◌, ◌≤◌, ◌+◌, ◌-◌, ℕ, suc, List, [], ◌∷◌, Bool, true, false, length, map, drop, get_or, drop-cons, refl, sym, ap, ◌∙◌, add-one}
use Rattle.std.specs.Prelude.{◌&&◌, nat_le}
use Rattle.std.specs.List.{list_any, list_all}
use Rattle.std.proofs.Math.ListN.{drop_of_length-le}
use Rattle.std.proofs.lemmas.List.{length-drop}
use Rattle.bqn_syntax.specs.grammar.Classes.{is_plain, plain_last, Marks}
use Rattle.bqn_headers.specs.declared.class.BodyMarks.{BodyMarks}
use Rattle.bqn_headers.specs.Heading.{marks_shown}

pub list_any-map : {X Y : Type 0} (test : Y → Bool) (f : X → Y) (xs : List X) → list_any (λ x. test (f x)) xs ≡ list_any test (map f xs)
list_any-map test f [] = refl
list_any-map test f (x ∷ xs) = simp (list_any-map test f xs)

pub list_all-map : {X Y : Type 0} (test : Y → Bool) (f : X → Y) (xs : List X) → list_all (λ x. test (f x)) xs ≡ list_all test (map f xs)
list_all-map test f [] = refl
list_all-map test f (x ∷ xs) = simp (list_all-map test f xs)

length-marks : (bodies : List BodyMarks) → length (map marks_shown bodies) ≡ length bodies
length-marks [] = refl
length-marks (body ∷ bodies) = ap suc (length-marks bodies)

plain-first : (most : ℕ) (m : Marks) (ms : List Marks) → is_plain m ≡ true → plain_last most (m ∷ ms) ≡ (list_all is_plain (m ∷ ms) && nat_le (length (m ∷ ms)) most)
plain-first most m ms e =
    ap (λ (plain : Bool). elim plain as (λ _. Bool) [ true ↦ list_all is_plain ms && nat_le (length (m ∷ ms)) most | false ↦ plain_last most ms ]) e
    ∙ ap (λ (plain : Bool). (plain && list_all is_plain ms) && nat_le (length (m ∷ ms)) most) (sym e)

other-first : (most : ℕ) (m : Marks) (ms : List Marks) → is_plain m ≡ false → plain_last most (m ∷ ms) ≡ plain_last most ms
other-first most m ms e = ap (λ (plain : Bool). elim plain as (λ _. Bool) [ true ↦ list_all is_plain ms && nat_le (length (m ∷ ms)) most | false ↦ plain_last most ms ]) e

-- the bodies from one on
at-body : (bodies : List BodyMarks) (index : ℕ) (body : BodyMarks) → index < length bodies → body ≡ get_or bodies index body → map marks_shown (drop index bodies) ≡ marks_shown body ∷ map marks_shown (drop (index + 1) bodies)
at-body bodies index body inside is =
    ap (map marks_shown) (drop-cons bodies index body inside)
    ∙ ap (λ (first : BodyMarks). marks_shown first ∷ map marks_shown (drop (suc index) bodies)) (sym is)
    ∙ ap (λ (next : ℕ). marks_shown body ∷ map marks_shown (drop next bodies)) (sym (add-one index))

-- whether those from one on stand as they may is whether all do
pub record SoFar (most index : ℕ) (bodies : List BodyMarks) : Type 0 where
  pub same : plain_last most (map marks_shown (drop index bodies)) ≡ plain_last most (map marks_shown bodies)

pub so_far-start : (most : ℕ) (bodies : List BodyMarks) → SoFar most 0 bodies
so_far-start most bodies = record { same = refl }

pub so_far-step : (most index : ℕ) (bodies : List BodyMarks) (body : BodyMarks) → SoFar most index bodies → index < length bodies → body ≡ get_or bodies index body → is_plain (marks_shown body) ≡ false → SoFar most (index + 1) bodies
so_far-step most index bodies body so inside is e = record { same = sym (other-first most (marks_shown body) (map marks_shown (drop (index + 1) bodies)) e) ∙ ap (plain_last most) (sym (at-body bodies index body inside is)) ∙ so.same }

pub so_far-plain : (most index : ℕ) (bodies : List BodyMarks) (body : BodyMarks) → SoFar most index bodies → index < length bodies → body ≡ get_or bodies index body → is_plain (marks_shown body) ≡ true
    → plain_last most (map marks_shown bodies) ≡ (list_all is_plain (map marks_shown (drop index bodies)) && nat_le (length bodies - index) most)
so_far-plain most index bodies body so inside is e =
    sym so.same
    ∙ ap (plain_last most) (at-body bodies index body inside is)
    ∙ plain-first most (marks_shown body) (map marks_shown (drop (index + 1) bodies)) e
    ∙ ap (λ (ms : List Marks). list_all is_plain ms && nat_le (length ms) most) (sym (at-body bodies index body inside is))
    ∙ ap (λ (n : ℕ). list_all is_plain (map marks_shown (drop index bodies)) && nat_le n most) (length-marks (drop index bodies) ∙ length-drop index bodies)

pub so_far-end : (most index : ℕ) (bodies : List BodyMarks) → SoFar most index bodies → length bodies ≤ index → plain_last most (map marks_shown bodies) ≡ true
so_far-end most index bodies so outside = sym so.same ∙ ap (λ (rest : List BodyMarks). plain_last most (map marks_shown rest)) (drop_of_length-le bodies outside)
