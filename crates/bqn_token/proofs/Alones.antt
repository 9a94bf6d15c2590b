-- What characters stand for that are pieces by themselves, and that each is one.
use Rattle.std.proofs.Common.{◌≡◌, ℕ, List, [], ◌∷◌, Bool, true, false, Option, Some, None, Result, Ok, refl, sym, ap, ◌∙◌}
use Rattle.std.specs.Prelude.{cond, not, ◌==◌, ◌||◌, if◌then◌else◌, position}
use Rattle.std.specs.Option.{is_some, option_map}
use Rattle.std.specs.List.{list_all}
use Rattle.std.proofs.lemmas.Bool.{eqb-true}
use lib.Chars.{codes}
use Rattle.bqn_base.specs.declared.place.Place.{Place}
use Rattle.bqn_syntax.specs.declared.progress.Progress.{Progress}
use Rattle.bqn_syntax.specs.declared.progress.Progress.TheVariants.{Start, Done, Comment, Word, Digit, Bullet, Quote, Inside}
use Rattle.bqn_syntax.specs.declared.token.Special.{Special}
use Rattle.bqn_syntax.specs.declared.token.Special.TheVariants as special
use Rattle.bqn_syntax.specs.declared.token.Kind.{Kind}
use Rattle.bqn_syntax.specs.text.Table.{is_one_of, singles, blanks, punctuation, is_digit, is_letter, is_name_start, is_word, first_state, is_piece}
use Rattle.bqn_syntax.specs.text.Tokens.{Trouble, kind_of, number_kind}
use Rattle.bqn_base.specs.Literal.{literal}
use Rattle.bqn_syntax.specs.text.Words.{special_of, role_of}
use Rattle.bqn_token.specs.declared.single.Alone.{Alone}
use Rattle.bqn_token.specs.declared.single.Alone.TheVariants as alone
use Rattle.bqn_token.specs.Alones.{mark_of, single_of, shown_alone}
use Rattle.bqn_token.specs.Singles.{primitives}
use Rattle.bqn_token.specs.Tokenizing.{placed}
use Rattle.bqn_token.proofs.Meanings.{single_if}
use Rattle.bqn_syntax.proofs.WordNames.{both-left, both-right}
use Rattle.bqn_token.proofs.Quotes.{piece_after, is_piece_from-cons}
use Rattle.bqn_token.proofs.Singles.{is_some-position}

pub other : (c d : ℕ) → (c ≡ d → ⊥) → (c == d) ≡ false
other c d n = at (c == d) refl
  where
    at : (b : Bool) → (c == d) ≡ b → b ≡ false
    at true e = absurd (n (eqb-true c d e))
    at false e = refl

-- what each of some characters passes, one of them passes
passes : (test : ℕ → Bool) (c : ℕ) (ds : List ℕ) → list_all test ds ≡ true → is_one_of ds c ≡ true → test c ≡ true
passes test c [] all one = cc
passes test c (d ∷ ds) all one = at (d == c) refl one (passes test c ds (both-right (test d) (list_all test ds) all))
  where
    at : (same : Bool) → (d == c) ≡ same → (same || is_one_of ds c) ≡ true → (is_one_of ds c ≡ true → test c ≡ true) → test c ≡ true
    at true e one rest = ap test (sym (eqb-true d c e)) ∙ both-left (test d) (list_all test ds) all
    at false e one rest = rest one

abbrev special_if : (a b d e f : Bool) → Option Special
special_if a b d e f =
    if a then Some special.Left else if b then Some special.Right else if d then Some special.Own else if e then Some special.LeftOperand else if f then Some special.RightOperand else None

special-among : (c : ℕ) (name : Special) (a b d e f : Bool) → is_one_of (codes "𝕨𝕎") c ≡ a → is_one_of (codes "𝕩𝕏") c ≡ b → is_one_of (codes "𝕤𝕊") c ≡ d → is_one_of (codes "𝕗𝔽") c ≡ e → is_one_of (codes "𝕘𝔾") c ≡ f
    → special_if a b d e f ≡ Some name → is_one_of singles c ≡ true
special-among c name true b d e f is _ _ _ _ _ = passes (is_one_of singles) c (codes "𝕨𝕎") refl is
special-among c name false true d e f _ is _ _ _ _ = passes (is_one_of singles) c (codes "𝕩𝕏") refl is
special-among c name false false true e f _ _ is _ _ _ = passes (is_one_of singles) c (codes "𝕤𝕊") refl is
special-among c name false false false true f _ _ _ is _ _ = passes (is_one_of singles) c (codes "𝕗𝔽") refl is
special-among c name false false false false true _ _ _ _ is _ = passes (is_one_of singles) c (codes "𝕘𝔾") refl is
special-among c name false false false false false _ _ _ _ _ is = let never : None ≡ Some name = is in cc

abbrev mark_if : Bool → Bool → Option Special → Bool → ℕ → Option Alone
mark_if blank zero name punct c =
    cond blank (Some alone.Blank)
    (cond zero (Some alone.Zero)
    (elim name [ Some n ↦ Some (alone.Special n (role_of (c ∷ []))) | None ↦ cond punct (Some alone.Punct) None ]))

mark-among : (c : ℕ) (mark : Alone) (blank zero : Bool) (name : Option Special) (punct : Bool) → is_one_of blanks c ≡ blank → (c == 64) ≡ zero → special_of c ≡ name → is_one_of punctuation c ≡ punct
    → mark_if blank zero name punct c ≡ Some mark → is_one_of singles c ≡ true
mark-among c mark true zero name punct is _ _ _ _ = passes (is_one_of singles) c blanks refl is
mark-among c mark false true name punct _ is _ _ _ = ap (λ (d : ℕ). is_one_of singles d) (eqb-true c 64 is)
mark-among c mark false false (Some n) punct _ _ is _ _ =
    special-among c n (is_one_of (codes "𝕨𝕎") c) (is_one_of (codes "𝕩𝕏") c) (is_one_of (codes "𝕤𝕊") c) (is_one_of (codes "𝕗𝔽") c) (is_one_of (codes "𝕘𝔾") c) refl refl refl refl refl is
mark-among c mark false false None true _ _ _ is _ = passes (is_one_of singles) c punctuation refl is
mark-among c mark false false None false _ _ _ _ is = let never : None ≡ Some mark = is in cc

abbrev single_from : Option Alone → Option ℕ → Option Alone
single_from (Some mark) code = Some mark
single_from None code = option_map (λ n. alone.Given n) code

single-from : (c : ℕ) → single_of c ≡ single_from (mark_of c) (position (λ d. d == c) primitives)
single-from c = at (mark_of c)
  where
    at : (m : Option Alone) → (elim m as (λ _. Option Alone) [ Some mark ↦ Some mark | None ↦ option_map (λ n. alone.Given n) (position (λ d. d == c) primitives) ]) ≡ single_from m (position (λ d. d == c) primitives)
    at (Some mark) = refl
    at None = refl

among-cases : (c : ℕ) (a : Alone) (m : Option Alone) (code : Option ℕ) → mark_of c ≡ m → position (λ d. d == c) primitives ≡ code → single_from m code ≡ Some a → is_one_of singles c ≡ true
among-cases c a (Some mark) code e _ _ = mark-among c mark (is_one_of blanks c) (c == 64) (special_of c) (is_one_of punctuation c) refl refl refl refl e
among-cases c a None (Some n) _ e _ = passes (is_one_of singles) c primitives refl (sym (is_some-position primitives c) ∙ ap (λ (o : Option ℕ). is_some o) e)
among-cases c a None None _ _ is = let never : None ≡ Some a = is in cc

single-among : (c : ℕ) (a : Alone) → single_of c ≡ Some a → is_one_of singles c ≡ true
single-among c a is = among-cases c a (mark_of c) (position (λ d. d == c) primitives) refl refl (sym (single-from c) ∙ is)

among-single : (c : ℕ) → is_one_of singles c ≡ true → is_some (single_of c) ≡ true
among-single c one = passes (λ d. is_some (single_of d)) c singles refl one

pub is_some-single : (c : ℕ) → is_some (single_of c) ≡ is_one_of singles c
is_some-single c = at (single_of c) (is_one_of singles c) refl refl
  where
    at : (o : Option Alone) (one : Bool) → single_of c ≡ o → is_one_of singles c ≡ one → is_some o ≡ one
    at (Some a) one e f = sym (single-among c a e) ∙ f
    at None true e f = sym (ap (λ (o : Option Alone). is_some o) e) ∙ among-single c f
    at None false e f = refl

-- such a character begins no other piece
abbrev begins_other : ℕ → Bool
begins_other c = is_digit c || (is_name_start c || (is_word c || ((c == 35) || ((c == 8226) || ((c == 39) || (c == 34))))))

single-no_other : (c : ℕ) (a : Alone) → single_of c ≡ Some a → not (begins_other c) ≡ true
single-no_other c a is = passes (λ d. not (begins_other d)) c singles refl (single-among c a is)

abbrev first_if : (digit word hash bullet quote text one : Bool) → Option Progress
first_if digit word hash bullet quote text one =
    if digit then Some Digit else if word then Some Word else if hash then Some Comment else if bullet then Some Bullet else if quote then Some Quote else if text then Some Inside else if one then Some Done else None

first-done : (digit start word hash bullet quote text one : Bool) → not (digit || (start || (word || (hash || (bullet || (quote || text)))))) ≡ true → one ≡ true → first_if digit word hash bullet quote text one ≡ Some Done
first-done false false false false false false false true _ _ = refl
first-done false false false false false false false false _ e = cc
first-done false false false false false false true one e _ = cc
first-done false false false false false true text one e _ = cc
first-done false false false false true quote text one e _ = cc
first-done false false false true bullet quote text one e _ = cc
first-done false false true hash bullet quote text one e _ = cc
first-done false true word hash bullet quote text one e _ = cc
first-done true start word hash bullet quote text one e _ = cc

pub single-done : (c : ℕ) (a : Alone) → single_of c ≡ Some a → first_state c ≡ Some Done
single-done c a is =
    first-done (is_digit c) (is_name_start c) (is_word c) (c == 35) (c == 8226) (c == 39) (c == 34) (is_one_of singles c) (single-no_other c a is) (single-among c a is)

-- a letter or a digit is none
pub word-no_single : (c : ℕ) → is_word c ≡ true → single_of c ≡ None
word-no_single c word = at (single_of c) refl
  where
    at : (o : Option Alone) → single_of c ≡ o → o ≡ None
    at None e = refl
    at (Some a) e = absurd (no_word (is_digit c) (is_name_start c) (is_word c) (c == 35) (c == 8226) (c == 39) (c == 34) word (single-no_other c a e))
      where
        no_word : (digit start word hash bullet quote text : Bool) → word ≡ true → not (digit || (start || (word || (hash || (bullet || (quote || text)))))) ≡ true → ⊥
        no_word false false true hash bullet quote text _ e = cc
        no_word false true word hash bullet quote text _ e = cc
        no_word true start word hash bullet quote text _ e = cc
        no_word digit start false hash bullet quote text e _ = cc

kind-plain : (digit start word hash bullet quote text blank : Bool) (q t b s w k : Result (Option Kind) Trouble) → not (digit || (start || (word || (hash || (bullet || (quote || text)))))) ≡ true
    → (if blank || hash then Ok None else if quote then q else if text then t else if bullet then b else if start then s else if word then w else k) ≡ (if blank then Ok None else k)
kind-plain false false false false false false false true q t b s w k _ = refl
kind-plain false false false false false false false false q t b s w k _ = refl
kind-plain false false false false false false true blank q t b s w k e = cc
kind-plain false false false false false true text blank q t b s w k e = cc
kind-plain false false false false true quote text blank q t b s w k e = cc
kind-plain false false false true bullet quote text blank q t b s w k e = cc
kind-plain false false true hash bullet quote text blank q t b s w k e = cc
kind-plain false true word hash bullet quote text blank q t b s w k e = cc
kind-plain true start word hash bullet quote text blank q t b s w k e = cc

abbrev gives : Option Kind → Result (Option Kind) Trouble
gives kind = Ok kind

shown-same : (c : ℕ) (x a : Alone) → Some x ≡ Some a → gives (shown_alone x c) ≡ gives (shown_alone a c)
shown-same c x a e = let same : x ≡ a = cc in ap (λ (y : Alone). gives (shown_alone y c)) same

no_primitive : (c : ℕ) (code : ℕ) → is_one_of punctuation c ≡ true → position (λ d. d == c) primitives ≡ Some code → ⊥
no_primitive c code punct e =
    let none : not (is_some (position (λ d. d == c) primitives)) ≡ true = passes (λ x. not (is_some (position (λ d. d == x) primitives))) c punctuation refl punct in
    let some : not (is_some (position (λ d. d == c) primitives)) ≡ false = ap (λ (o : Option ℕ). not (is_some o)) e in
    cc

kind-cases : (c : ℕ) (a : Alone) (blank zero : Bool) (name : Option Special) (punct : Bool) (code : Option ℕ) → is_one_of punctuation c ≡ punct → position (λ d. d == c) primitives ≡ code
    → single_from (mark_if blank zero name punct c) code ≡ Some a → (if blank then gives None else gives (Some (single_if zero name code c))) ≡ gives (shown_alone a c)
kind-cases c a true zero name punct code _ _ e = shown-same c alone.Blank a e
kind-cases c a false true name punct code _ _ e = shown-same c alone.Zero a e
kind-cases c a false false (Some n) punct code _ _ e = shown-same c (alone.Special n (role_of (c ∷ []))) a e
kind-cases c a false false None true None _ _ e = shown-same c alone.Punct a e
kind-cases c a false false None true (Some n) p is _ = absurd (no_primitive c n p is)
kind-cases c a false false None false (Some n) _ _ e = shown-same c (alone.Given n) a e
kind-cases c a false false None false None _ _ e = let never : None ≡ Some a = e in cc

pub kind-single : (c : ℕ) (cs : List ℕ) (a : Alone) → single_of c ≡ Some a → kind_of (c ∷ cs) ≡ Ok (shown_alone a c)
kind-single c cs a is =
    kind-plain (is_digit c) (is_name_start c) (is_word c) (c == 35) (c == 8226) (c == 39) (c == 34) (is_one_of blanks c) _ _ _ _ _ _ (single-no_other c a is)
    ∙ kind-cases c a (is_one_of blanks c) (c == 64) (special_of c) (is_one_of punctuation c) (position (λ d. d == c) primitives) refl refl (sym (single-from c) ∙ is)

pub placed-single : (place : Place) (piece cs : List ℕ) (c : ℕ) (a : Alone) (kind : Option Kind) → piece ≡ c ∷ cs → single_of c ≡ Some a → kind ≡ shown_alone a c → placed place (kind_of piece) ≡ Ok kind
placed-single place piece cs c a kind same is shown =
    ap (λ (p : List ℕ). placed place (kind_of p)) same ∙ ap (λ (k : Result (Option Kind) Trouble). placed place k) (kind-single c cs a is) ∙ ap (λ (k : Option Kind). placed place (Ok k)) (sym shown)

-- what remains is a word
first-none : (digit word hash bullet quote text one : Bool) → digit ≡ false → word ≡ false → hash ≡ false → bullet ≡ false → quote ≡ false → text ≡ false → one ≡ false → first_if digit word hash bullet quote text one ≡ None
first-none digit word hash bullet quote text one e f g h i j k = rw (e, f, g, h, i, j, k) refl

pub no_digit : (s d x y z : Bool) → (s || d || x || y || z) ≡ false → d ≡ false
no_digit s false x y z e = refl
no_digit true true x y z e = cc
no_digit false true x y z e = cc

piece-word : (c : ℕ) (cs : List ℕ) → is_piece (c ∷ cs) ≡ true → is_one_of singles c ≡ false → (c == 35) ≡ false → (c == 8226) ≡ false → (c == 39) ≡ false → (c == 34) ≡ false → is_word c ≡ true
piece-word c cs piece one hash bullet quote text = at (is_word c) refl
  where
    at : (word : Bool) → is_word c ≡ word → word ≡ true
    at true e = refl
    at false e =
        let digit = no_digit (is_name_start c) (is_digit c) (c == 175) (c == 8734) (c == 960) e in
        let nothing : first_state c ≡ None = first-none (is_digit c) (is_word c) (c == 35) (c == 8226) (c == 39) (c == 34) (is_one_of singles c) digit e hash bullet quote text one in
        sym (is_piece_from-cons Start c cs ∙ ap (λ (r : Option Progress). piece_after r cs) nothing) ∙ piece

no_blank : (c : ℕ) → is_one_of singles c ≡ false → is_one_of blanks c ≡ false
no_blank c none = at (is_one_of blanks c) refl
  where
    at : (blank : Bool) → is_one_of blanks c ≡ blank → blank ≡ false
    at true e = let never : true ≡ false = sym (passes (is_one_of singles) c blanks refl e) ∙ none in cc
    at false e = refl

kind-word : (blank hash quote text bullet start word : Bool) (q t b s w k : Result (Option Kind) Trouble) → blank ≡ false → hash ≡ false → quote ≡ false → text ≡ false → bullet ≡ false → start ≡ false → word ≡ true
    → (if blank || hash then Ok None else if quote then q else if text then t else if bullet then b else if start then s else if word then w else k) ≡ w
kind-word blank hash quote text bullet start word q t b s w k e f g h i j l = rw (e, f, g, h, i, j, l) refl

pub kind-number : (piece cs : List ℕ) (c : ℕ) → piece ≡ c ∷ cs → is_piece piece ≡ true → single_of c ≡ None → (c ≡ 35 → ⊥) → (c ≡ 39 → ⊥) → (c ≡ 34 → ⊥) → (c ≡ 8226 → ⊥) → is_name_start c ≡ false → kind_of piece ≡ number_kind (literal piece)
kind-number piece cs c same is none hash quote text bullet start =
    let one : is_one_of singles c ≡ false = sym (is_some-single c) ∙ ap (λ (o : Option Alone). is_some o) none in
    let word : is_word c ≡ true = piece-word c cs (sym (ap (λ (p : List ℕ). is_piece p) same) ∙ is) one (other c 35 hash) (other c 8226 bullet) (other c 39 quote) (other c 34 text) in
    ap (λ (p : List ℕ). kind_of p) same
    ∙ kind-word (is_one_of blanks c) (c == 35) (c == 39) (c == 34) (c == 8226) (is_name_start c) (is_word c) _ _ _ _ _ _ (no_blank c one) (other c 35 hash) (other c 39 quote) (other c 34 text) (other c 8226 bullet) start word
    ∙ ap (λ (p : List ℕ). number_kind (literal p)) (sym same)

word_if : (l d x y z u v : Bool) → (l || d) ≡ true → ((l || x || y) || d || z || u || v) ≡ true
word_if true d x y z u v e = refl
word_if false true x y z u v e = at x y
  where
    at : (x y : Bool) → ((false || x || y) || true || z || u || v) ≡ true
    at true y = refl
    at false true = refl
    at false false = refl
word_if false false x y z u v e = cc

pub plain-no_single : (c : ℕ) → (is_letter c || is_digit c) ≡ true → single_of c ≡ None
plain-no_single c plain = word-no_single c (word_if (is_letter c) (is_digit c) (c == 95) (c == 120163) (c == 175) (c == 8734) (c == 960) plain)

pub ruleset sign_laws = (plain-no_single)

pub ruleset some_laws = (is_some-single)
