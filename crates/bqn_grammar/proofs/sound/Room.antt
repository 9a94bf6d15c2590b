-- Where the walk comes to an end, no more brackets are open than may be.
use Rattle.std.proofs.Common.{◌≡◌, ◌<◌, ◌+◌, ℕ, zero, suc, Bool, true, false, List, [], ◌∷◌, length, Result, Ok, Err, nat_lt, if◌then◌else◌, refl, sym, ap, ◌∙◌, subst, arith}
use Rattle.bqn_base.specs.declared.place.Place.{Place}
use Rattle.bqn_base.specs.declared.refusal.Refusal.{Refusal}
use Rattle.bqn_base.specs.declared.refusal.Refusal.TheVariants as refusal
use Rattle.bqn_syntax.specs.declared.token.Token.{Token}
use Rattle.bqn_syntax.specs.declared.sort.Bracket.{Bracket}
use Rattle.bqn_syntax.specs.declared.sort.Sort.{Sort}
use Rattle.bqn_syntax.specs.declared.sort.Sort.TheVariants.{Opens, Closes, Separates, Draws, Joins, Selects, Ends, Heads, Asks, Skips, Stands}
use Rattle.bqn_syntax.specs.declared.sort.Inside.{Inside}
use Rattle.bqn_syntax.specs.declared.sort.Inside.TheVariants as inside
use Rattle.bqn_syntax.specs.grammar.Sorts.{sort_of}
use Rattle.bqn_syntax.specs.grammar.Looks.{Ahead, behind_group}
use Rattle.bqn_syntax.specs.grammar.Items.{OfPart, Item, Standing, Drawn, Joining, Selecting, Wrong}
use Rattle.bqn_syntax.specs.grammar.Parsing.{OpenBracket, OpenBrackets, open_brackets, fresh, begun, and_item, inside_of, closes, go_on, taken, opened, closed, ended, separated, body_ended, semicolon, asked, question, headed_by, colon, step, walk}
use Rattle.bqn_syntax.specs.grammar.Trees.{Leaf, Nothing, Stmts}
use Rattle.bqn_grammar.proofs.sound.OpenBrackets.{Within, WithinAt}
use Rattle.bqn_grammar.proofs.sound.Brackets.{opened_ok, closed_ok}
use Rattle.bqn_grammar.proofs.sound.Steps.{go_on_ok}

-- a step that opens and closes nothing
taken_same : (item : Item) (tokens : List Token) (so next : OpenBrackets) → taken item tokens so ≡ Ok next → so.outer ≡ next.outer
taken_same item tokens so next h = let e : open_brackets (and_item item (begun tokens so.inner)) so.outer ≡ next = cc in ap (λ (y : OpenBrackets). y.outer) e

go_on_same : (outer : List OpenBracket) (r : Result OpenBracket Refusal) (next : OpenBrackets) → go_on outer r ≡ Ok next → outer ≡ next.outer
go_on_same outer r next h = ap (λ (y : OpenBrackets). y.outer) (go_on_ok outer r next h).2

separated_same : (i : Inside) (tokens : List Token) (place : Place) (so next : OpenBrackets) → separated i tokens place so ≡ Ok next → so.outer ≡ next.outer
separated_same inside.Parens tokens place so next h = taken_same Wrong tokens so next h
separated_same _ tokens place so next h = go_on_same so.outer (ended place so.inner) next h

semicolon_same : (i : Inside) (tokens : List Token) (place : Place) (so next : OpenBrackets) → semicolon i tokens place so ≡ Ok next → so.outer ≡ next.outer
semicolon_same inside.Block tokens place so next h = go_on_same so.outer (body_ended (ended place so.inner)) next h
semicolon_same _ tokens place so next h = taken_same Wrong tokens so next h

question_same : (i : Inside) (tokens : List Token) (place : Place) (so next : OpenBrackets) → question i tokens place so ≡ Ok next → so.outer ≡ next.outer
question_same inside.Block tokens place so next h = go_on_same so.outer (asked so.inner.items place so.inner) next h
question_same _ tokens place so next h = taken_same Wrong tokens so next h

colon_same : (i : Inside) (tokens : List Token) (place : Place) (so next : OpenBrackets) → colon i tokens place so ≡ Ok next → so.outer ≡ next.outer
colon_same inside.Block tokens place so next h = go_on_same so.outer (headed_by so.inner.items tokens place so.inner) next h
colon_same _ tokens place so next h = taken_same Wrong tokens so next h

Count : ℕ → OpenBrackets → Type 0
Count n so = n + length so.outer ≡ 128

same_count : (n : ℕ) (P : ℕ → Type 0) (so next : OpenBrackets) → so.outer ≡ next.outer → n + length so.outer ≡ 128 → ((m : ℕ) → m + length next.outer ≡ 128 → P m) → P n
same_count n P so next e c f = f n (ap (λ (o : List OpenBracket). n + length o) (sym e) ∙ c)

lt_true : (m n : ℕ) → nat_lt m n ≡ true → m < n
lt_true m n e = grind arith

if_room : (b : Bool) (x next : OpenBrackets) (place : Place) → (if b then Ok x else Err (refusal.TooNested place)) ≡ Ok next → b ≡ true
if_room true x next place h = refl
if_room false x next place h = absurd (cc)

opened_room : (i : Inside) (tokens : List Token) (place : Place) (so next : OpenBrackets) → opened i tokens place so ≡ Ok next → length so.outer < 128
opened_room i tokens place so next h = lt_true (length so.outer) 128 (if_room (nat_lt (length so.outer) 128) (open_brackets (fresh i place) (begun tokens so.inner ∷ so.outer)) next place h)

opened_within : (n : ℕ) (P : ℕ → Type 0) (b : Bracket) (i : Inside) (tokens : List Token) (place : Place) (so next : OpenBrackets) → opened i tokens place so ≡ Ok next → n + length so.outer ≡ 128 → ((m : ℕ) → m + length next.outer ≡ 128 → P m) → WithinAt (Opens b) P n
opened_within zero P b i tokens place so next h c f = let r = opened_room i tokens place so next h in absurd (omega arith)
opened_within (suc n) P b i tokens place so next h c f = f n (subst (λ (y : OpenBrackets). n + length y.outer ≡ 128) (opened_ok i tokens place so next h) (omega arith))

closed_count : (n : ℕ) (around : OpenBracket) (outer rest : List OpenBracket) → n + length outer ≡ 128 → outer ≡ around ∷ rest → suc n + length rest ≡ 128
closed_count n around outer rest c e = omega (arith, ap (λ (o : List OpenBracket). length o) e)

closed_within : (n : ℕ) (P : ℕ → Type 0) (b : Bool) (place : Place) (so next : OpenBrackets) → closed b place so ≡ Ok next → n + length so.outer ≡ 128 → ((m : ℕ) → m + length next.outer ≡ 128 → P m) → P (suc n)
closed_within n P b place so next h c f = let x = closed_ok b place so next h in f (suc n) (subst (λ (y : OpenBrackets). suc n + length y.outer ≡ 128) x.1.next_is (closed_count n x.1.around so.outer x.1.rest c x.1.outer_is))

step_within : (s : Sort) (a : Ahead) (t : Token) (tokens : List Token) (so next : OpenBrackets) (n : ℕ) (P : ℕ → Type 0) → step s a t tokens so ≡ Ok next → n + length so.outer ≡ 128 → ((m : ℕ) → m + length next.outer ≡ 128 → P m) → WithinAt s P n
step_within (Opens b) a t tokens so next n P h c f = opened_within n P b (inside_of b a so.inner) tokens t.place so next h c f
step_within (Closes b) a t tokens so next n P h c f = closed_within n P (closes b so.inner.inside) t.place so next h c f
step_within Separates a t tokens so next n P h c f = same_count n P so next (separated_same so.inner.inside tokens t.place so next h) c f
step_within Ends a t tokens so next n P h c f = same_count n P so next (semicolon_same so.inner.inside tokens t.place so next h) c f
step_within Asks a t tokens so next n P h c f = same_count n P so next (question_same so.inner.inside tokens t.place so next h) c f
step_within Heads a t tokens so next n P h c f = same_count n P so next (colon_same so.inner.inside tokens t.place so next h) c f
step_within (Draws x) a t tokens so next n P h c f = same_count n P so next (taken_same (Drawn x) tokens so next h) c f
step_within Joins a t tokens so next n P h c f = same_count n P so next (taken_same Joining tokens so next h) c f
step_within Selects a t tokens so next n P h c f = same_count n P so next (taken_same Selecting tokens so next h) c f
step_within Skips a t tokens so next n P h c f = same_count n P so next (taken_same (Standing (OfPart (Nothing t.place))) tokens so next h) c f
step_within Stands a t tokens so next n P h c f = same_count n P so next (taken_same (Standing (OfPart (Leaf t))) tokens so next h) c f

pub walked : (tokens : List Token) (ss : Stmts) (r : Result OpenBrackets Refusal) → elim r as (λ _. Result Stmts Refusal) [ Ok next ↦ walk next tokens | Err x ↦ Err x ] ≡ Ok ss → (next : OpenBrackets) × (r ≡ Ok next) × (walk next tokens ≡ Ok ss)
walked tokens ss (Ok next) h = (next, refl, h)
walked tokens ss (Err r) h = absurd (cc)

pub walk_within : (tokens : List Token) (so : OpenBrackets) (n : ℕ) (ss : Stmts) → walk so tokens ≡ Ok ss → n + length so.outer ≡ 128 → Within tokens n
walk_within [] so n ss h c = tt
walk_within (t ∷ tokens) so n ss h c =
    let w = walked tokens ss (step (sort_of t.kind) (behind_group tokens) t (t ∷ tokens) so) h in
    step_within (sort_of t.kind) (behind_group tokens) t (t ∷ tokens) so w.0 n (Within tokens) w.1 c (λ (m : ℕ) (d : m + length w.0.outer ≡ 128). walk_within tokens w.0 m ss w.2 d)
