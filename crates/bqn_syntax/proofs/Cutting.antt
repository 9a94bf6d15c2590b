-- A text has at most one cut, which `pieces_of` gives.
use Rattle.std.proofs.Common.{◌≡◌, ◌≤◌, ◌-◌, ℕ, zero, suc, List, [], ◌∷◌, Option, Some, None, take, drop, refl, sym, ap, ◌∙◌, arith, subst}
use Rattle.bqn_syntax.specs.declared.progress.Progress.TheVariants.{Start}
use Rattle.bqn_syntax.specs.text.Cut.{Cuts, no_more, piece, longest, with_piece, pieces_behind, pieces_of}
use Rattle.bqn_syntax.specs.text.Laws.{CutIsUnique}
use Rattle.bqn_syntax.proofs.Longest.{longest-first, first-longest}

pub pieces_behind-drop : (count : ℕ) (text : List ℕ) → pieces_behind count text ≡ pieces_of (drop count text)
pieces_behind-drop zero [] = refl
pieces_behind-drop zero (c ∷ cs) = refl
pieces_behind-drop (suc count) [] = refl
pieces_behind-drop (suc count) (c ∷ cs) = pieces_behind-drop count cs

abbrev pieces_with : Option ℕ → ℕ → List ℕ → Option (List (List ℕ))
pieces_with None c cs = None
pieces_with (Some count) c cs = with_piece (take count (c ∷ cs)) (pieces_behind (count - 1) cs)

pieces_of-cons : (c : ℕ) (cs : List ℕ) → pieces_of (c ∷ cs) ≡ pieces_with (longest Start (c ∷ cs)) c cs
pieces_of-cons c cs = at (longest Start (c ∷ cs))
  where
    at : (count : Option ℕ) → (elim count as (λ _. Option (List (List ℕ))) [ None ↦ None | Some n ↦ with_piece (take n (c ∷ cs)) (pieces_behind (n - 1) cs) ]) ≡ pieces_with count c cs
    at None = refl
    at (Some n) = refl

pieces_with-some : (count c : ℕ) (cs : List ℕ) → 1 ≤ count → pieces_with (Some count) c cs ≡ with_piece (take count (c ∷ cs)) (pieces_of (drop count (c ∷ cs)))
pieces_with-some zero c cs some = absurd (omega arith)
pieces_with-some (suc count) c cs some =
    let less : suc count - 1 ≡ count = omega arith in
    ap (λ (n : ℕ). with_piece (take (suc count) (c ∷ cs)) (pieces_behind n cs)) less
    ∙ ap (with_piece (take (suc count) (c ∷ cs))) (pieces_behind-drop count cs)

-- the pieces of a text are its longest piece and those of the rest
pub pieces_of-piece : (text : List ℕ) (count : ℕ) → longest Start text ≡ Some count → pieces_of text ≡ with_piece (take count text) (pieces_of (drop count text))
pieces_of-piece [] count is = cc
pieces_of-piece (c ∷ cs) count is =
    let first = longest-first (c ∷ cs) count is in
    pieces_of-cons c cs ∙ ap (λ (n : Option ℕ). pieces_with n c cs) is ∙ pieces_with-some count c cs first.some

pub pieces_of-none : (c : ℕ) (cs : List ℕ) → longest Start (c ∷ cs) ≡ None → pieces_of (c ∷ cs) ≡ None
pieces_of-none c cs is = pieces_of-cons c cs ∙ ap (λ (n : Option ℕ). pieces_with n c cs) is

with_piece-empty : (front : List ℕ) (pieces : Option (List (List ℕ))) → with_piece front pieces ≡ Some [] → ⊥
with_piece-empty front None is = cc
with_piece-empty front (Some pieces) is = cc

with_piece-some : (front first : List ℕ) (pieces : Option (List (List ℕ))) (rest : List (List ℕ)) → with_piece front pieces ≡ Some (first ∷ rest) → (front ≡ first) × (pieces ≡ Some rest)
with_piece-some front first None rest is = cc
with_piece-some front first (Some pieces) rest is = (cc, cc)

no_piece-left : (c : ℕ) (cs : List ℕ) (count : Option ℕ) → longest Start (c ∷ cs) ≡ count → pieces_of (c ∷ cs) ≡ Some [] → ⊥
no_piece-left c cs None is pieces = let none = pieces_of-none c cs is in cc
no_piece-left c cs (Some count) is pieces =
    with_piece-empty (take count (c ∷ cs)) (pieces_of (drop count (c ∷ cs))) (sym (pieces_of-piece (c ∷ cs) count is) ∙ pieces)

-- the first piece of a cut, given the cut of the rest
first-cut : (text first : List ℕ) (rest : List (List ℕ)) (count : ℕ) → longest Start text ≡ Some count → pieces_of text ≡ Some (first ∷ rest) → ((behind : List ℕ) → pieces_of behind ≡ Some rest → Cuts behind rest) → Cuts text (first ∷ rest)
first-cut text first rest count is pieces cut =
    let both = with_piece-some (take count text) first (pieces_of (drop count text)) rest (sym (pieces_of-piece text count is) ∙ pieces) in
    subst (λ (front : List ℕ). Cuts text (front ∷ rest)) both.0 (piece count (longest-first text count is) (cut (drop count text) both.1))

cons-cut : (c : ℕ) (cs first : List ℕ) (rest : List (List ℕ)) (count : Option ℕ) → longest Start (c ∷ cs) ≡ count → pieces_of (c ∷ cs) ≡ Some (first ∷ rest) → ((behind : List ℕ) → pieces_of behind ≡ Some rest → Cuts behind rest) → Cuts (c ∷ cs) (first ∷ rest)
cons-cut c cs first rest None is pieces cut = let none = pieces_of-none c cs is in cc
cons-cut c cs first rest (Some count) is pieces cut = first-cut (c ∷ cs) first rest count is pieces cut

pieces-cut : (pieces : List (List ℕ)) (text : List ℕ) → pieces_of text ≡ Some pieces → Cuts text pieces
pieces-cut [] [] is = no_more
pieces-cut [] (c ∷ cs) is = absurd (no_piece-left c cs (longest Start (c ∷ cs)) refl is)
pieces-cut (first ∷ rest) [] is = absurd (let same : Some [] ≡ Some (first ∷ rest) = is in cc)
pieces-cut (first ∷ rest) (c ∷ cs) is = cons-cut c cs first rest (longest Start (c ∷ cs)) refl is (λ behind more. pieces-cut rest behind more)

cut-pieces : {text : List ℕ} {pieces : List (List ℕ)} → Cuts text pieces → pieces_of text ≡ Some pieces
cut-pieces no_more = refl
cut-pieces (piece {text = text} count first cut) =
    pieces_of-piece text count (first-longest text count first) ∙ ap (with_piece (take count text)) (cut-pieces cut)

pub cut-unique : CutIsUnique
cut-unique = record { found = λ text pieces is. pieces-cut pieces text is; only = λ text pieces cut. cut-pieces cut }

pub ruleset cut_laws = (cut-unique)
