-- Places behind places, and the places of a value without a part at its end.
use Rattle.std.proofs.Common.{◌≡◌, List, [], ◌∷◌, ◌++◌, Option, Some, None, map, Result, Ok, Err, OnOk, refl, sym, ap, ◌∙◌, append_assoc, append-nil}
use Rattle.std.specs.Option.{option_map}
use Rattle.bqn_base.specs.declared.place.Place.{Place}
use Rattle.bqn_syntax.specs.declared.token.Token.{Token}
use Rattle.bqn_syntax.specs.declared.tree.Arrow.{Arrow}
use Rattle.bqn_syntax.specs.declared.pattern.Pattern.{Pattern as CodePattern}
use Rattle.bqn_syntax.specs.declared.tree.Part.{Part as CodePart}
use Rattle.bqn_syntax.specs.declared.tree.Derived.{Derived as CodeDerived}
use Rattle.bqn_syntax.specs.declared.tree.Step.{Step as CodeStep}
use Rattle.bqn_syntax.specs.declared.tree.Step.TheVariants as step
use Rattle.bqn_syntax.specs.blocks.Leads.{or_else, or_next, derived_lead, step_lead, steps_lead}
use Rattle.bqn_syntax.specs.grammar.Trees.{Value, none, Step, Apply, Assign, Modify, Steps, and_steps, maybe_part, steps, step_of, part_of, derived_of, pattern_of}
use Rattle.bqn_syntax.specs.grammar.TreeEquations.{step-Apply, step-Assign, step-Modify}
use Rattle.bqn_compile.specs.Placing.{expr_places, steps_places, step_places, derived_places}

-- of three leads the first that is there
pub next-next : (a b c : Option Place) → or_next (or_next a b) c ≡ or_next a (or_next b c)
next-next None b c = refl
next-next (Some p) b c = refl

pub next-none : (a : Option Place) → or_next a None ≡ a
next-none None = refl
next-none (Some p) = refl

pub ruleset placing_laws = (append_assoc, append-nil, next-next, next-none)

pub on_ok : {T E A : Type 0} (r : Result T E) (x y z : A) → OnOk r (x ≡ y) → y ≡ z → OnOk r (x ≡ z)
on_ok (Ok v) x y z h e = h ∙ e
on_ok (Err r) x y z h e = tt

abbrev pub steps_seen : List CodeStep → Steps
steps_seen ss = steps (map step_of ss)

-- the first step is of this form
seen-first : (all rest : List CodeStep) (first : CodeStep) (s : Step) → all ≡ first ∷ rest → step_of first ≡ s → steps_seen all ≡ and_steps s (steps_seen rest)
seen-first all rest first s e f = ap steps_seen e ∙ ap (λ (x : Step). and_steps x (steps_seen rest)) f

five : (old ds ss : List Place) (t p : Place) → ((((old ++ (t ∷ [])) ++ ds) ++ (p ∷ [])) ++ (t ∷ [])) ++ ss ≡ old ++ (t ∷ (ds ++ (p ∷ (t ∷ ss))))
five old ds ss t p =
    append_assoc (((old ++ (t ∷ [])) ++ ds) ++ (p ∷ [])) (t ∷ []) ss
    ∙ append_assoc ((old ++ (t ∷ [])) ++ ds) (p ∷ []) (t ∷ ss)
    ∙ append_assoc (old ++ (t ∷ [])) ds (p ∷ (t ∷ ss))
    ∙ append_assoc old (t ∷ []) (ds ++ (p ∷ (t ∷ ss)))

module _ (l : Place) (all rest : List CodeStep) (first : CodeStep) (old a : List Place) where
  pub unstarted-Apply : (f : CodeDerived) (left : Option CodePart) → all ≡ first ∷ rest → first ≡ step.Apply f left → a ≡ old ++ (l ∷ []) → a ++ steps_places l (steps_seen all) ≡ old ++ expr_places l (Value none (steps_seen all))
  unstarted-Apply f left e is q =
      let same : steps_seen all ≡ and_steps (Apply (derived_of f) (maybe_part (option_map part_of left))) (steps_seen rest) = seen-first all rest first (Apply (derived_of f) (maybe_part (option_map part_of left))) e (ap step_of is ∙ step-Apply f left) in
      ap (λ (z : List Place). z ++ steps_places l (steps_seen all)) q
      ∙ append_assoc old (l ∷ []) (steps_places l (steps_seen all))
      ∙ ap (λ (ss : Steps). old ++ (l ∷ steps_places l ss)) same
      ∙ sym (ap (λ (ss : Steps). old ++ expr_places l (Value none ss)) same)

  pub unstarted-Assign : (f : CodePattern) (w : Arrow) → all ≡ first ∷ rest → first ≡ step.Assign f w → a ≡ old ++ (l ∷ []) → a ++ steps_places l (steps_seen all) ≡ old ++ expr_places l (Value none (steps_seen all))
  unstarted-Assign f w e is q =
      let same : steps_seen all ≡ and_steps (Assign (pattern_of f) w) (steps_seen rest) = seen-first all rest first (Assign (pattern_of f) w) e (ap step_of is ∙ step-Assign f w) in
      ap (λ (z : List Place). z ++ steps_places l (steps_seen all)) q
      ∙ append_assoc old (l ∷ []) (steps_places l (steps_seen all))
      ∙ ap (λ (ss : Steps). old ++ (l ∷ steps_places l ss)) same
      ∙ sym (ap (λ (ss : Steps). old ++ expr_places l (Value none ss)) same)

  pub unstarted-Modify : (t : Token) (f : CodeDerived) (b c d : List Place) (p : Place) → all ≡ first ∷ rest → first ≡ step.Modify t f →
      a ≡ old ++ (t.place ∷ []) → b ≡ a ++ derived_places l (derived_of f) → p ≡ or_else l (derived_lead (derived_of f)) → c ≡ b ++ (p ∷ []) → d ≡ c ++ (t.place ∷ []) →
      d ++ steps_places l (steps_seen rest) ≡ old ++ expr_places l (Value none (steps_seen all))
  unstarted-Modify t f b c d p e is qa qb qp qc qd =
      ap (λ (z : List Place). z ++ steps_places l (steps_seen rest)) (qd ∙ ap (λ (z : List Place). z ++ (t.place ∷ [])) (qc ∙ (λ i. (qb ∙ ap (λ (z : List Place). z ++ derived_places l (derived_of f)) qa) i ++ (qp i ∷ []))))
      ∙ five old (derived_places l (derived_of f)) (steps_places l (steps_seen rest)) t.place (or_else l (derived_lead (derived_of f)))
      ∙ sym (ap (λ (ss : Steps). old ++ expr_places l (Value none ss)) (seen-first all rest first (Modify t (derived_of f)) e (ap step_of is ∙ step-Modify t f)))

-- one step more
module _ (l : Place) (all rest : List CodeStep) (s : CodeStep) where
  pub steps-more : (out more target : List Place) → all ≡ s ∷ rest → more ≡ out ++ step_places l (step_of s) → out ++ steps_places l (steps_seen all) ≡ target → more ++ steps_places l (steps_seen rest) ≡ target
  steps-more out more target a q t =
      ap (λ (z : List Place). z ++ steps_places l (steps_seen rest)) q
      ∙ append_assoc out (step_places l (step_of s)) (steps_places l (steps_seen rest))
      ∙ ap (λ (ss : List CodeStep). out ++ steps_places l (steps_seen ss)) (sym a)
      ∙ t

  pub lead-more : (own first next target : Option Place) → all ≡ s ∷ rest → first ≡ step_lead (step_of s) → next ≡ or_next first own → or_next (steps_lead (steps_seen all)) own ≡ target → or_next (steps_lead (steps_seen rest)) next ≡ target
  lead-more own first next target a f q t =
      ap (or_next (steps_lead (steps_seen rest))) (q ∙ ap (λ (o : Option Place). or_next o own) f)
      ∙ sym (next-next (steps_lead (steps_seen rest)) (step_lead (step_of s)) own)
      ∙ ap (λ (ss : List CodeStep). or_next (steps_lead (steps_seen ss)) own) (sym a)
      ∙ t
