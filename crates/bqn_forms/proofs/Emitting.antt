-- What is emitted of a tree is the code of its form.
use Rattle.std.proofs.Common.{◌≡◌, ℕ, List, [], ◌∷◌, ◌++◌, Option, Some, None, length, map, refl, sym, ap, ◌∙◌, append_assoc}
use Rattle.std.proofs.lemmas.List.{append-nil, map-append}
use Rattle.std.specs.Option.{option_map, option_and_then}
use Rattle.bqn_base.specs.declared.place.Place.{Place}
use Rattle.bqn_base.specs.declared.role.Role.TheVariants as role
use Rattle.bqn_forms.specs.declared.function.Callee.{Callee}
use Rattle.bqn_syntax.specs.declared.token.Kind.{Kind}
use Rattle.bqn_syntax.specs.declared.token.Kind.TheVariants as kind
use Rattle.bqn_syntax.specs.declared.tree.Arrow.TheVariants as arrow
use Rattle.bqn_syntax.specs.declared.tree.Step.{Step as CodeStep}
use Rattle.bqn_syntax.specs.grammar.Trees as plain
use Rattle.bqn_syntax.specs.grammar.Trees.{Leaf, Apply, Assign, Eval, none, some, Steps, no_steps, and_steps, steps, step_of, Stmts, no_stmts, and_stmts}
use Rattle.bqn_forms.specs.Tree.{Part, Number, Name, Paren, Expr, Value, Apply1, Apply2, Stmt}
use Rattle.bqn_forms.specs.Form.{Stated, function_of, number_of, leaf_in, part_in, expr_in, last_in, steps_in, step_in, call_in, applied2, unnamed, fresh, subject_name, name_in, target_in, last_step_in, stmt_steps_in, stmt_in, statements_in}
use Rattle.bqn_forms.specs.declared.code.Instr.{Instr}
use Rattle.bqn_forms.specs.declared.code.Instr.TheVariants.{Load, Define, Call1, Call2, Pop}
use Rattle.bqn_forms.specs.Translation.{part_code, expr_code, target_code, stmt_code, translation}
use Rattle.bqn_forms.specs.Emission.{Progress, progress, leaf_instr, leaf_emitted, part_emitted, expr_emitted, last_emitted, steps_emitted, step_emitted, call_emitted, fresh_emitted, name_emitted, target_emitted, last_step_emitted, stmt_steps_emitted, dropped, stmt_emitted, stmts_emitted}

-- one reading after another
in_turn : {A B C D : Type 0} (f : A → B) (g : B → Option D) (h : A → Option C) (w : C → D) (o : Option A) → ((x : A) → g (f x) ≡ option_map w (h x)) → option_and_then g (option_map f o) ≡ option_map w (option_and_then h o)
in_turn f g h w None e = refl
in_turn f g h w (Some x) e = e x

abbrev pub with_part : List Instr → Option Part → Option (List Instr)
with_part code part = option_map (λ p. code ++ part_code p) part

abbrev pub with_expr : List Instr → Option Expr → Option (List Instr)
with_expr code e = option_map (λ x. code ++ expr_code x) e

leaf-word : (code : List Instr) (place : Place) (number : Option ℕ) → leaf_emitted code (option_map (λ number. Load number place) number) ≡ with_part code (option_map (λ number. Name number place) number)
leaf-word code place None = refl
leaf-word code place (Some number) = refl

leaf-form : (names : List (List ℕ)) (code : List Instr) (place : Place) (k : Kind) → leaf_emitted code (leaf_instr names place k) ≡ with_part code (leaf_in names place k)
leaf-form names code place (kind.Number z) = refl
leaf-form names code place (kind.Word name role.Subject) = leaf-word code place (number_of names name)
leaf-form names code place _ = refl

paren-form : (code : List Instr) (e : Option Expr) → with_expr code e ≡ with_part code (option_map (λ e. Paren e) e)
paren-form code None = refl
paren-form code (Some e) = refl

call1-form : (names : List (List ℕ)) (code : List Instr) (f : Option Callee) (e : Expr) → call_emitted names (code ++ expr_code e) f none ≡ with_expr code (call_in names f e none)
call1-form names code None e = refl
call1-form names code (Some f) e = ap (λ (is : List Instr). Some is) (append_assoc code (expr_code e) (Call1 f ∷ []))

call2-form : (names : List (List ℕ)) (code : List Instr) (f : Option Callee) (e : Expr) (left : plain.Part)
    → part_emitted names (code ++ expr_code e) left ≡ with_part (code ++ expr_code e) (part_in names left)
    → call_emitted names (code ++ expr_code e) f (some left) ≡ with_expr code (call_in names f e (some left))
call2-form names code None e left h = refl
call2-form names code (Some f) e left h = ap (λ (o : Option (List Instr)). option_map (λ is. is ++ Call2 f ∷ []) o) h ∙ go (part_in names left)
  where
    go : (o : Option Part) → option_map (λ is. is ++ Call2 f ∷ []) (with_part (code ++ expr_code e) o) ≡ with_expr code (applied2 (Some f) o e)
    go None = refl
    go (Some p) =
        ap (λ (is : List Instr). Some is)
        (append_assoc (code ++ expr_code e) (part_code p) (Call2 f ∷ []) ∙ append_assoc code (expr_code e) (part_code p ++ Call2 f ∷ []))

mutual
  pub part-form : (names : List (List ℕ)) (code : List Instr) (part : plain.Part) → part_emitted names code part ≡ with_part code (part_in names part)
  part-form names code (Leaf t) = leaf-form names code t.place t.kind
  part-form names code (plain.Paren e) = expr-form names code e ∙ paren-form code (expr_in names e)
  part-form names code _ = refl

  expr-form : (names : List (List ℕ)) (code : List Instr) (e : plain.Expr) → expr_emitted names code e ≡ with_expr code (expr_in names e)
  expr-form names code (plain.Value last all) =
      ap (λ (o : Option (List Instr)). option_and_then (λ is. steps_emitted names is all) o) (last-form names code last)
      ∙ in_turn (λ (p : Part). code ++ part_code p) (λ is. steps_emitted names is all) (λ p. steps_in names (Value p) all) (λ (x : Expr). code ++ expr_code x) (last_in names last) (λ p. steps-form names code (Value p) all)
  expr-form names code _ = refl

  pub last-form : (names : List (List ℕ)) (code : List Instr) (last : plain.MaybePart) → last_emitted names code last ≡ with_part code (last_in names last)
  last-form names code none = refl
  last-form names code (some part) = part-form names code part

  steps-form : (names : List (List ℕ)) (code : List Instr) (e : Expr) (all : Steps) → steps_emitted names (code ++ expr_code e) all ≡ with_expr code (steps_in names e all)
  steps-form names code e no_steps = refl
  steps-form names code e (and_steps step all) =
      ap (λ (o : Option (List Instr)). option_and_then (λ is. steps_emitted names is all) o) (step-form names code e step)
      ∙ in_turn (λ (x : Expr). code ++ expr_code x) (λ is. steps_emitted names is all) (λ x. steps_in names x all) (λ (x : Expr). code ++ expr_code x) (step_in names e step) (λ x. steps-form names code x all)

  pub step-form : (names : List (List ℕ)) (code : List Instr) (e : Expr) (step : plain.Step) → step_emitted names (code ++ expr_code e) step ≡ with_expr code (step_in names e step)
  step-form names code e (Apply function left) = call-form names code (function_of function) e left
  step-form names code e _ = refl

  call-form : (names : List (List ℕ)) (code : List Instr) (f : Option Callee) (e : Expr) (left : plain.MaybePart) → call_emitted names (code ++ expr_code e) f left ≡ with_expr code (call_in names f e left)
  call-form names code f e none = call1-form names code f e
  call-form names code f e (some left) = call2-form names code f e left (part-form names (code ++ expr_code e) left)

-- the code of a statement, but for the end of its value
abbrev valued : List Instr → Stated → Progress
valued code s = progress s.names (code ++ (expr_code s.stmt.value ++ target_code s.stmt.target))

unnamed-form : (names : List (List ℕ)) (code : List Instr) (e : Option Expr) → option_map (progress names) (with_expr code e) ≡ option_map (valued code) (option_map (unnamed names) e)
unnamed-form names code None = refl
unnamed-form names code (Some e) = ap (λ (is : List Instr). Some (progress names (code ++ is))) (sym (append-nil (expr_code e)))

fresh-form : (names : List (List ℕ)) (code : List Instr) (e : Expr) (name : List ℕ) (number : Option ℕ) → fresh_emitted names (code ++ expr_code e) name number ≡ option_map (valued code) (fresh names name number e)
fresh-form names code e name (Some number) = refl
fresh-form names code e name None = ap (λ (is : List Instr). Some (progress (names ++ name ∷ []) is)) (append_assoc code (expr_code e) (Define ∷ []))

target-form : (names : List (List ℕ)) (code : List Instr) (e : Expr) (k : Kind) → target_emitted names (code ++ expr_code e) k ≡ option_map (valued code) (target_in names k e)
target-form names code e k = go (subject_name k)
  where
    go : (o : Option (List ℕ)) → option_and_then (λ name. name_emitted names (code ++ expr_code e) name) o ≡ option_map (valued code) (option_and_then (λ name. name_in names name e) o)
    go None = refl
    go (Some name) = fresh-form names code e name (number_of names name)

last_step-form : (names : List (List ℕ)) (code : List Instr) (e : Expr) (step : plain.Step) → last_step_emitted names (code ++ expr_code e) step ≡ option_map (valued code) (last_step_in names e step)
last_step-form names code e (Assign (plain.Name t) arrow.Define) = target-form names code e t.kind
last_step-form names code e (Apply function left) =
    ap (λ (o : Option (List Instr)). option_map (progress names) o) (call-form names code (function_of function) e left)
    ∙ unnamed-form names code (call_in names (function_of function) e left)
last_step-form names code e _ = refl

stmt_steps-form : (names : List (List ℕ)) (code : List Instr) (e : Expr) (all : Steps) → stmt_steps_emitted names (code ++ expr_code e) all ≡ option_map (valued code) (stmt_steps_in names e all)
stmt_steps-form names code e no_steps = unnamed-form names code (Some e)
stmt_steps-form names code e (and_steps step no_steps) = last_step-form names code e step
stmt_steps-form names code e (and_steps step (and_steps next all)) =
    ap (λ (o : Option (List Instr)). option_and_then (λ is. stmt_steps_emitted names is (and_steps next all)) o) (step-form names code e step)
    ∙ in_turn (λ (x : Expr). code ++ expr_code x) (λ is. stmt_steps_emitted names is (and_steps next all)) (λ x. stmt_steps_in names x (and_steps next all)) (valued code) (step_in names e step) (λ x. stmt_steps-form names code x (and_steps next all))

-- what is emitted of a statement
abbrev stated : List Instr → Option Stated → Option Progress
stated code s = option_map (λ s. progress s.names (code ++ stmt_code s.stmt)) s

dropped-form : (code : List Instr) (s : Option Stated) → option_map dropped (option_map (valued code) s) ≡ stated code s
dropped-form code None = refl
dropped-form code (Some s) =
    ap (λ (is : List Instr). Some (progress s.names is))
    (append_assoc code (expr_code s.stmt.value ++ target_code s.stmt.target) (Pop ∷ []) ∙ ap (λ (is : List Instr). code ++ is) (append_assoc (expr_code s.stmt.value) (target_code s.stmt.target) (Pop ∷ [])))

stmt-form : (names : List (List ℕ)) (code : List Instr) (stmt : plain.Stmt) → stmt_emitted names code stmt ≡ stated code (stmt_in names stmt)
stmt-form names code (Eval (plain.Value last all)) =
    ap (λ (o : Option (List Instr)). option_map dropped (option_and_then (λ is. stmt_steps_emitted names is all) o)) (last-form names code last)
    ∙ ap (λ (o : Option Progress). option_map dropped o) (in_turn (λ (p : Part). code ++ part_code p) (λ is. stmt_steps_emitted names is all) (λ p. stmt_steps_in names (Value p) all) (valued code) (last_in names last) (λ p. stmt_steps-form names code (Value p) all))
    ∙ dropped-form code (option_and_then (λ p. stmt_steps_in names (Value p) all) (last_in names last))
stmt-form names code _ = refl

-- the code of further statements, behind what is emitted
abbrev with_code_of : List Instr → Option (List Stmt) → Option (List Instr)
with_code_of code rest = option_map (λ sts. code ++ translation sts) rest

pub stmts-form : (names : List (List ℕ)) (code : List Instr) (all : Stmts) → stmts_emitted names code all ≡ with_code_of code (statements_in names all)
stmts-form names code no_stmts = ap (λ (is : List Instr). Some is) (sym (append-nil code))
stmts-form names code (and_stmts stmt all) =
    ap (λ (o : Option Progress). option_and_then (λ p. stmts_emitted p.names p.code all) o) (stmt-form names code stmt)
    ∙ in_turn (λ (s : Stated). progress s.names (code ++ stmt_code s.stmt)) (λ p. stmts_emitted p.names p.code all) (λ s. option_map (λ more. s.stmt ∷ more) (statements_in s.names all)) (λ (sts : List Stmt). code ++ translation sts) (stmt_in names stmt)
    (λ s. stmts-form s.names (code ++ stmt_code s.stmt) all ∙ behind code s.stmt (statements_in s.names all))
  where
    behind : (code : List Instr) (st : Stmt) (rest : Option (List Stmt)) → with_code_of (code ++ stmt_code st) rest ≡ with_code_of code (option_map (λ more. st ∷ more) rest)
    behind code st None = refl
    behind code st (Some sts) = ap (λ (is : List Instr). Some is) (append_assoc code (stmt_code st) (translation sts))

-- The steps of a statement, those before the last one first.

abbrev last_of : List (List ℕ) → Option (List Instr) → plain.Step → Option Progress
last_of names code last = option_and_then (λ is. last_step_emitted names is last) code

front-plain : (names : List (List ℕ)) (code : List Instr) (front : List plain.Step) (last : plain.Step) → stmt_steps_emitted names code (steps (front ++ last ∷ [])) ≡ last_of names (steps_emitted names code (steps front)) last
front-plain names code [] last = refl
front-plain names code (x ∷ []) last = go (step_emitted names code x)
  where
    go : (o : Option (List Instr)) → option_and_then (λ is. stmt_steps_emitted names is (and_steps last no_steps)) o ≡ last_of names (option_and_then (λ is. steps_emitted names is no_steps) o) last
    go None = refl
    go (Some is) = refl
front-plain names code (x ∷ y ∷ ys) last = go (step_emitted names code x) (λ is. front-plain names is (y ∷ ys) last)
  where
    go : (o : Option (List Instr)) → ((is : List Instr) → stmt_steps_emitted names is (steps (y ∷ (ys ++ last ∷ []))) ≡ last_of names (steps_emitted names is (steps (y ∷ ys))) last)
        → option_and_then (λ is. stmt_steps_emitted names is (steps (y ∷ (ys ++ last ∷ [])))) o ≡ last_of names (option_and_then (λ is. steps_emitted names is (steps (y ∷ ys))) o) last
    go None h = refl
    go (Some is) h = h is

-- the steps of the program's tree
abbrev pub steps_from : List CodeStep → Steps
steps_from all = steps (map step_of all)

front-steps : (names : List (List ℕ)) (code : List Instr) (all front : List CodeStep) (last : CodeStep) → all ≡ front ++ last ∷ [] → stmt_steps_emitted names code (steps_from all) ≡ last_of names (steps_emitted names code (steps_from front)) (step_of last)
front-steps names code all front last e =
    ap (λ (all : List CodeStep). stmt_steps_emitted names code (steps_from all)) e
    ∙ ap (λ (all : List plain.Step). stmt_steps_emitted names code (steps all)) (map-append step_of front (last ∷ []))
    ∙ front-plain names code (map step_of front) (step_of last)

pub steps-none : (names : List (List ℕ)) (code : List Instr) (all : List CodeStep) → length all ≡ 0 → stmt_steps_emitted names code (steps_from all) ≡ Some (progress names code)
steps-none names code [] e = refl
steps-none names code (step ∷ all) e = cc

pub steps-wrong : (names : List (List ℕ)) (code : List Instr) (all front : List CodeStep) (last : CodeStep) → all ≡ front ++ last ∷ [] → steps_emitted names code (steps_from front) ≡ None → stmt_steps_emitted names code (steps_from all) ≡ None
steps-wrong names code all front last e h = front-steps names code all front last e ∙ ap (λ (o : Option (List Instr)). last_of names o (step_of last)) h

pub steps-front : (names : List (List ℕ)) (code after : List Instr) (all front : List CodeStep) (last : CodeStep) → all ≡ front ++ last ∷ [] → steps_emitted names code (steps_from front) ≡ Some after → stmt_steps_emitted names code (steps_from all) ≡ last_step_emitted names after (step_of last)
steps-front names code after all front last e h = front-steps names code all front last e ∙ ap (λ (o : Option (List Instr)). last_of names o (step_of last)) h

pub ruleset step_laws = (steps-none, steps-wrong, steps-front)
