-- The role of a list of names.
use Rattle.std.proofs.Common.{◌≡◌, ℕ, zero, suc, ◌-◌, List, [], ◌∷◌, Some, length, arith, sym, ap}
use Rattle.std.specs.List.{slice_get}
use Rattle.std.proofs.lemmas.Option.{slice_get_within}
use Rattle.bqn_syntax.specs.declared.token.Token.{Token}
use Rattle.bqn_syntax.specs.grammar.Sorts.{last_tag, kind_tag}

same-some : {A : Type 0} {x y : A} → Some x ≡ Some y → y ≡ x
same-some e = cc

last_tag-at : (names : List Token) (n : ℕ) (t : Token) → suc n ≡ length names → slice_get names n ≡ Some t → kind_tag t.kind ≡ last_tag names
last_tag-at [] n t counted found = absurd (cc)
last_tag-at (u ∷ []) zero t counted found = ap (λ (x : Token). kind_tag x.kind) (same-some found)
last_tag-at (u ∷ []) (suc n) t counted found = absurd (cc)
last_tag-at (u ∷ v ∷ names) zero t counted found = absurd (omega arith)
last_tag-at (u ∷ v ∷ names) (suc n) t counted found = last_tag-at (v ∷ names) n t (omega arith) found

pub last_tag_at_end : (names : List Token) (t : Token) → Some t ≡ slice_get names (length names - 1) → kind_tag t.kind ≡ last_tag names
last_tag_at_end names t found =
    let within = slice_get_within names (length names - 1) t (sym found) in
    last_tag-at names (length names - 1) t (omega arith) (sym found)
