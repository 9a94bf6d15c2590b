-- The signs of items, which are those of the tree that they are read as.
use Rattle.std.proofs.Common.{◌≡◌, true, false, List, [], ◌∷◌, ◌++◌, refl, ap, ◌∙◌}
use Rattle.bqn_syntax.specs.declared.token.Token.{Token}
use Rattle.bqn_syntax.specs.declared.tree.Arrow.{Arrow}
use Rattle.bqn_syntax.specs.declared.tree.Arrow.TheVariants as arrow
use Rattle.bqn_syntax.specs.grammar.Punctuation as punctuation
use Rattle.bqn_syntax.specs.grammar.Items.{Element, OfPart, OfList, Item, Standing, Drawn, Joining, Selecting, Wrong}
use Rattle.bqn_syntax.specs.grammar.Classes.{is_predicate}
use Rattle.bqn_syntax.specs.grammar.Spells.{Sign, Exact, Mark, arrow_code, pattern_signs, joined_signs, joined_more, target_signs, name_signs, expr_signs, part_signs, maybe_signs, steps_signs, step_signs, derived_signs, uses_signs, use_signs, deriveds_signs, parts_signs, parts_more, stmt_signs}
use Rattle.bqn_syntax.specs.grammar.Trees.{Pattern, Name, Skip, Literal, ListPattern, StrandPattern, Patterns, no_patterns, and_patterns, Expr, Value, Train, Modifier, Use, One, Two, Part, Leaf, Elements, Merge, Paren, Block, Field, Strand, Nothing, Step, Apply, Assign, Modify, Stmt, Eval, Predicate, Export, Derived, derived, MaybePart, none, some, Uses, no_uses, and_uses, Parts, no_parts, and_parts, Steps, no_steps, and_steps, Deriveds, no_deriveds, and_deriveds}
use Rattle.bqn_grammar.proofs.TreeItems.{pattern_items, joined_items, joined_more_items, name_items, target_items, part_items, parts_items, parts_more_items, maybe_items, use_items, uses_items, derived_items, deriveds_items, step_items, steps_items, expr_items}

abbrev pub element_signs : Element → List Sign → List Sign
element_signs (OfPart x) k = part_signs x k
element_signs (OfList q) k = pattern_signs q k

abbrev pub item_signs : Item → List Sign → List Sign
item_signs (Standing x) k = element_signs x k
item_signs (Drawn a) k = Mark (arrow_code a) ∷ k
item_signs Joining k = Mark punctuation.joiner ∷ k
item_signs Selecting k = Mark punctuation.dot ∷ k
item_signs Wrong k = k

abbrev pub items_signs : List Item → List Sign → List Sign
items_signs [] k = k
items_signs (i ∷ is) k = item_signs i (items_signs is k)

pub items_after : (a b : List Item) (k : List Sign) → items_signs (a ++ b) k ≡ items_signs a (items_signs b k)
items_after [] b k = refl
items_after (i ∷ a) b k = ap (item_signs i) (items_after a b k)

pub two : (a b : List Item) (k y z : List Sign) → items_signs b k ≡ y → items_signs a y ≡ z → items_signs (a ++ b) k ≡ z
two a b k y z e d = items_after a b k ∙ ap (items_signs a) e ∙ d

mutual
  pub pattern_spelled : (q : Pattern) (k : List Sign) → items_signs (pattern_items q) k ≡ pattern_signs q k
  pattern_spelled (Name t) k = refl
  pattern_spelled (Skip place) k = refl
  pattern_spelled (Literal t) k = refl
  pattern_spelled (ListPattern qs) k = refl
  pattern_spelled (StrandPattern qs) k = joined_spelled qs k

  joined_spelled : (qs : Patterns) (k : List Sign) → items_signs (joined_items qs) k ≡ joined_signs qs k
  joined_spelled no_patterns k = refl
  joined_spelled (and_patterns q qs) k = two (pattern_items q) (joined_more_items qs) k (joined_more qs k) (pattern_signs q (joined_more qs k)) (joined_more_spelled qs k) (pattern_spelled q (joined_more qs k))

  joined_more_spelled : (qs : Patterns) (k : List Sign) → items_signs (joined_more_items qs) k ≡ joined_more qs k
  joined_more_spelled no_patterns k = refl
  joined_more_spelled (and_patterns q qs) k = ap (λ (l : List Sign). Mark punctuation.joiner ∷ l) (two (pattern_items q) (joined_more_items qs) k (joined_more qs k) (pattern_signs q (joined_more qs k)) (joined_more_spelled qs k) (pattern_spelled q (joined_more qs k)))

names_spelled : (ts : List Token) (k : List Sign) → items_signs (name_items ts) k ≡ name_signs ts k
names_spelled [] k = refl
names_spelled (t ∷ ts) k = ap (λ (l : List Sign). Mark punctuation.dot ∷ Exact t ∷ l) (names_spelled ts k)

targets_spelled : (ts : List (Token × Arrow)) (k : List Sign) → items_signs (target_items ts) k ≡ target_signs ts k
targets_spelled [] k = refl
targets_spelled (t ∷ ts) k = ap (λ (l : List Sign). Exact t.0 ∷ Mark (arrow_code t.1) ∷ l) (targets_spelled ts k)

mutual
  part_spelled : (x : Part) (k : List Sign) → items_signs (part_items x) k ≡ part_signs x k
  part_spelled (Leaf t) k = refl
  part_spelled (Elements es) k = refl
  part_spelled (Merge es) k = refl
  part_spelled (Paren e) k = refl
  part_spelled (Block b) k = refl
  part_spelled (Field x names) k = two (part_items x) (name_items names) k (name_signs names k) (part_signs x (name_signs names k)) (names_spelled names k) (part_spelled x (name_signs names k))
  part_spelled (Strand ps) k = parts_spelled ps k
  part_spelled (Nothing place) k = refl

  parts_spelled : (ps : Parts) (k : List Sign) → items_signs (parts_items ps) k ≡ parts_signs ps k
  parts_spelled no_parts k = refl
  parts_spelled (and_parts x xs) k = two (part_items x) (parts_more_items xs) k (parts_more xs k) (part_signs x (parts_more xs k)) (parts_more_spelled xs k) (part_spelled x (parts_more xs k))

  parts_more_spelled : (ps : Parts) (k : List Sign) → items_signs (parts_more_items ps) k ≡ parts_more ps k
  parts_more_spelled no_parts k = refl
  parts_more_spelled (and_parts x xs) k = ap (λ (l : List Sign). Mark punctuation.joiner ∷ l) (two (part_items x) (parts_more_items xs) k (parts_more xs k) (part_signs x (parts_more xs k)) (parts_more_spelled xs k) (part_spelled x (parts_more xs k)))

maybe_spelled : (m : MaybePart) (k : List Sign) → items_signs (maybe_items m) k ≡ maybe_signs m k
maybe_spelled none k = refl
maybe_spelled (some x) k = part_spelled x k

use_spelled : (u : Use) (k : List Sign) → items_signs (use_items u) k ≡ use_signs u k
use_spelled (One m) k = part_spelled m k
use_spelled (Two m x) k = two (part_items m) (part_items x) k (part_signs x k) (part_signs m (part_signs x k)) (part_spelled x k) (part_spelled m (part_signs x k))

uses_spelled : (us : Uses) (k : List Sign) → items_signs (uses_items us) k ≡ uses_signs us k
uses_spelled no_uses k = refl
uses_spelled (and_uses u us) k = two (use_items u) (uses_items us) k (uses_signs us k) (use_signs u (uses_signs us k)) (uses_spelled us k) (use_spelled u (uses_signs us k))

derived_spelled : (d : Derived) (k : List Sign) → items_signs (derived_items d) k ≡ derived_signs d k
derived_spelled (derived x us) k = two (part_items x) (uses_items us) k (uses_signs us k) (part_signs x (uses_signs us k)) (uses_spelled us k) (part_spelled x (uses_signs us k))

deriveds_spelled : (ds : Deriveds) (k : List Sign) → items_signs (deriveds_items ds) k ≡ deriveds_signs ds k
deriveds_spelled no_deriveds k = refl
deriveds_spelled (and_deriveds d ds) k = two (derived_items d) (deriveds_items ds) k (deriveds_signs ds k) (derived_signs d (deriveds_signs ds k)) (deriveds_spelled ds k) (derived_spelled d (deriveds_signs ds k))

step_spelled : (s : Step) (k : List Sign) → items_signs (step_items s) k ≡ step_signs s k
step_spelled (Apply f left) k = two (maybe_items left) (derived_items f) k (derived_signs f k) (maybe_signs left (derived_signs f k)) (derived_spelled f k) (maybe_spelled left (derived_signs f k))
step_spelled (Assign q a) k = two (pattern_items q) (Drawn a ∷ []) k (Mark (arrow_code a) ∷ k) (pattern_signs q (Mark (arrow_code a) ∷ k)) refl (pattern_spelled q (Mark (arrow_code a) ∷ k))
step_spelled (Modify t f) k = ap (λ (l : List Sign). Exact t ∷ l) (two (derived_items f) (Drawn arrow.Change ∷ []) k (Mark punctuation.change_arrow ∷ k) (derived_signs f (Mark punctuation.change_arrow ∷ k)) refl (derived_spelled f (Mark punctuation.change_arrow ∷ k)))

steps_spelled : (ss : Steps) (k : List Sign) → items_signs (steps_items ss) k ≡ steps_signs ss k
steps_spelled no_steps k = refl
steps_spelled (and_steps s ss) k = two (steps_items ss) (step_items s) k (step_signs s k) (steps_signs ss (step_signs s k)) (step_spelled s k) (steps_spelled ss (step_signs s k))

pub expr_spelled : (e : Expr) (k : List Sign) → items_signs (expr_items e) k ≡ expr_signs e k
expr_spelled (Value last ss) k = two (steps_items ss) (maybe_items last) k (maybe_signs last k) (steps_signs ss (maybe_signs last k)) (maybe_spelled last k) (steps_spelled ss (maybe_signs last k))
expr_spelled (Train ts ds) k = two (target_items ts) (deriveds_items ds) k (deriveds_signs ds k) (target_signs ts (deriveds_signs ds k)) (deriveds_spelled ds k) (targets_spelled ts (deriveds_signs ds k))
expr_spelled (Modifier ts x) k = two (target_items ts) (part_items x) k (part_signs x k) (target_signs ts (part_signs x k)) (part_spelled x k) (targets_spelled ts (part_signs x k))

abbrev pub stmt_items : Stmt → List Item
stmt_items (Eval e) = expr_items e
stmt_items (Predicate e) = expr_items e
stmt_items (Export q) = pattern_items q ++ Drawn arrow.Export ∷ []

pub stmt_spelled : (s : Stmt) (k : List Sign) → is_predicate s ≡ false → items_signs (stmt_items s) k ≡ stmt_signs s k
stmt_spelled (Eval e) k p = expr_spelled e k
stmt_spelled (Predicate e) k p = absurd (cc)
stmt_spelled (Export q) k p = two (pattern_items q) (Drawn arrow.Export ∷ []) k (Mark punctuation.export_arrow ∷ k) (pattern_signs q (Mark punctuation.export_arrow ∷ k)) refl (pattern_spelled q (Mark punctuation.export_arrow ∷ k))

-- a predicate ends in `?`
pub predicate_spelled : (s : Stmt) (k : List Sign) → is_predicate s ≡ true → items_signs (stmt_items s) (Mark punctuation.question_mark ∷ k) ≡ stmt_signs s k
predicate_spelled (Eval e) k p = absurd (cc)
predicate_spelled (Predicate e) k p = expr_spelled e (Mark punctuation.question_mark ∷ k)
predicate_spelled (Export q) k p = absurd (cc)
