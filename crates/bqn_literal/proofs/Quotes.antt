-- Doubled quotes, read one character at a time.
use Rattle.std.proofs.Common.{◌≡◌, ◌≤◌, ◌<◌, ◌+◌, ℕ, suc, Bool, true, false, List, [], ◌∷◌, ◌++◌, length, drop, get_or, drop-cons, refl, sym, ap, ◌∙◌, arith, add-one, append_assoc, append-nil}
use Rattle.std.specs.Prelude.{◌==◌}
use Rattle.std.proofs.Math.ListN.{drop_of_length-le}
use Rattle.std.proofs.lemmas.Bool.Decides.{nat_tests}
use Rattle.bqn_base.specs.Literal.{unquoted}

-- the text that is left, where the first quote of a pair may have been read
abbrev pub unquoted_behind : Bool → List ℕ → List ℕ
unquoted_behind false cs = unquoted cs
unquoted_behind true [] = []
unquoted_behind true (c ∷ cs) = unquoted cs

abbrev quote_case : Bool → ℕ → ℕ → List ℕ → List ℕ
quote_case quote c d cs = elim quote as (λ x. List ℕ) [ true ↦ 34 ∷ unquoted cs | false ↦ c ∷ unquoted (d ∷ cs) ]

unquoted-cons : (c : ℕ) (cs : List ℕ) (quote : Bool) → (c == 34) ≡ quote → unquoted (c ∷ cs) ≡ c ∷ unquoted_behind quote cs
unquoted-cons c [] true h = refl
unquoted-cons c [] false h = refl
unquoted-cons c (d ∷ cs) true h = let e : c ≡ 34 = grind (arith, nat_tests) in ap (λ (b : Bool). quote_case b c d cs) h ∙ ap (λ (x : ℕ). x ∷ unquoted cs) (sym e)
unquoted-cons c (d ∷ cs) false h = ap (λ (b : Bool). quote_case b c d cs) h

-- a character is taken
pub unquoted_behind-first : (cs : List ℕ) (i : ℕ) (taken : List ℕ) → i < length cs → taken ++ unquoted_behind false (drop i cs) ≡ (taken ++ (get_or cs i 0 ∷ [])) ++ unquoted_behind (get_or cs i 0 == 34) (drop (i + 1) cs)
unquoted_behind-first cs i taken lt =
    ap (λ (x : List ℕ). taken ++ unquoted x) (drop-cons cs i 0 lt)
    ∙ ap (λ (x : List ℕ). taken ++ x) (unquoted-cons (get_or cs i 0) (drop (suc i) cs) (get_or cs i 0 == 34) refl)
    ∙ ap (λ (k : ℕ). taken ++ (get_or cs i 0 ∷ unquoted_behind (get_or cs i 0 == 34) (drop k cs))) (sym (add-one i))
    ∙ sym (append_assoc taken (get_or cs i 0 ∷ []) (unquoted_behind (get_or cs i 0 == 34) (drop (i + 1) cs)))

-- the second quote of a pair is left out
pub unquoted_behind-second : (cs : List ℕ) (i : ℕ) → i < length cs → unquoted_behind true (drop i cs) ≡ unquoted_behind false (drop (i + 1) cs)
unquoted_behind-second cs i lt = ap (unquoted_behind true) (drop-cons cs i 0 lt) ∙ ap (λ (k : ℕ). unquoted (drop k cs)) (sym (add-one i))

unquoted_behind-nil : (paired : Bool) → unquoted_behind paired [] ≡ []
unquoted_behind-nil true = refl
unquoted_behind-nil false = refl

pub unquoted_behind-end : (cs : List ℕ) (i : ℕ) (paired : Bool) (taken : List ℕ) → length cs ≤ i → taken ++ unquoted_behind paired (drop i cs) ≡ taken
unquoted_behind-end cs i paired taken h = ap (λ (x : List ℕ). taken ++ unquoted_behind paired x) (drop_of_length-le cs h) ∙ ap (λ (x : List ℕ). taken ++ x) (unquoted_behind-nil paired) ∙ append-nil taken

pub ruleset quote_laws = (unquoted_behind-first, unquoted_behind-second, unquoted_behind-end)
