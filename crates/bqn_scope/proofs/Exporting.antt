-- The names of bodies, one after another.
use Rattle.std.proofs.Common.{◌≡◌, ℕ, suc, Bool, true, false, not, if◌then◌else◌, List, [], ◌∷◌, ◌++◌, length, get_or, drop, drop-cons, add-one, ◌<◌, ◌+◌, refl, sym, ap, ◌∙◌}
use Rattle.std.specs.Prelude.{◌&&◌}
use Rattle.std.proofs.lemmas.List.{map-append, length-map}
use Rattle.bqn_syntax.specs.scope.Mentions.{Mention, Named, Special, System, Inner, Mentions, and_mentions}
use Rattle.bqn_syntax.specs.scope.Scope.{name_of, has, place_of}
use Rattle.bqn_syntax.specs.scope.Bodies.{exports_it, at_slot, exports_of}
use Rattle.bqn_scope.specs.declared.body_names.BodyNames.{BodyNames}
use Rattle.bqn_scope.specs.declared.mention.Mention.{Mention as CodeMention}
use Rattle.bqn_scope.specs.Shown.{mention_of, mentions_shown}
use Rattle.bqn_scope.specs.Numbering.{exported_names, exporting, body_shown, bodies_shown}

export-one : (names : List (List ℕ)) (m : Mention) (ms : Mentions) (found : List (List ℕ × ℕ)) → exports_of names (and_mentions m ms) found ≡ exports_of names ms (exporting names found m)
export-one names (Named how t) ms found = chosen (exports_it how) (has (exported_names found) (name_of t))
  where
    chosen : (b c : Bool) → (if b then (if c then exports_of names ms found else exports_of names ms (at_slot (name_of t) (place_of names (name_of t)) found)) else exports_of names ms found) ≡ exports_of names ms (if b && not c then at_slot (name_of t) (place_of names (name_of t)) found else found)
    chosen true true = refl
    chosen true false = refl
    chosen false c = refl
export-one names (Special t) ms found = refl
export-one names (System t) ms found = refl
export-one names (Inner bs) ms found = refl

pub export-more : (names : List (List ℕ)) (found next whole : List (List ℕ × ℕ)) (i : ℕ) (m : CodeMention) (all : List CodeMention) → i < length all → m ≡ get_or all i m → next ≡ exporting names found (mention_of m) → exports_of names (mentions_shown (drop i all)) found ≡ whole → exports_of names (mentions_shown (drop (i + 1) all)) next ≡ whole
export-more names found next whole i m all inside is n h =
    ap (exports_of names (mentions_shown (drop (i + 1) all))) n
    ∙ sym (export-one names (mention_of m) (mentions_shown (drop (i + 1) all)) found)
    ∙ ap (λ (k : ℕ). exports_of names (and_mentions (mention_of m) (mentions_shown (drop k all))) found) (add-one i)
    ∙ ap (λ (x : CodeMention). exports_of names (mentions_shown (x ∷ drop (suc i) all)) found) is
    ∙ ap (λ (xs : List CodeMention). exports_of names (mentions_shown xs) found) (sym (drop-cons all i m inside))
    ∙ h

pub exported-more : (found : List (List ℕ × ℕ)) (e : List ℕ × ℕ) → exported_names (found ++ e ∷ []) ≡ exported_names found ++ e.0 ∷ []
exported-more found e = map-append (λ (x : List ℕ × ℕ). x.0) found (e ∷ [])

pub length-bodies : (all : List BodyNames) → length (bodies_shown all) ≡ length all
length-bodies all = length-map all body_shown

pub bodies-more : (all : List BodyNames) (b : BodyNames) → bodies_shown (all ++ b ∷ []) ≡ bodies_shown all ++ body_shown b ∷ []
bodies-more all b = map-append body_shown all (b ∷ [])

pub ruleset numbering_laws = (export-more, exported-more, length-bodies, bodies-more)
