-- Expressions advance where calls do.
use Rattle.std.proofs.Common.{ℕ, ◌+◌, List, [], ◌∷◌, Option, Some, None, Ok}
use Rattle.bqn_rows.specs.Plain as plain
use Rattle.bqn_rows.specs.Plain.{Given}
use Rattle.bqn_rows.specs.Calls.{Call, call}
use Rattle.bqn_base.specs.declared.place.Place.{Place}
use Rattle.bqn_rows.specs.Raised.{raised}
use Rattle.bqn_syntax.specs.blocks.Leads.{or_else, pattern_lead, part_lead, derived_lead, deriveds_lead, exprs_lead, parts_lead}
use Rattle.bqn_syntax.specs.declared.token.Kind.{Kind}
use Rattle.bqn_syntax.specs.declared.token.Kind.TheVariants as kind
use Rattle.bqn_syntax.specs.declared.token.Token.{Token}
use Rattle.bqn_syntax.specs.declared.tree.Arrow.TheVariants as arrow
use Rattle.bqn_syntax.specs.grammar.Trees.{Expr, Value, Train, Modifier, Use, One, Two, Part, Leaf, Elements, Merge, Paren, Block as Braces, Field, Strand, Nothing, Step, Apply, Assign, Modify, block, Derived, derived, MaybePart, none, some, Exprs, no_exprs, and_exprs, Uses, no_uses, and_uses, Parts, no_parts, and_parts, Steps, no_steps, and_steps, Deriveds, no_deriveds, and_deriveds}
use Rattle.bqn_syntax.specs.scope.Scope.{name_of}
use Rattle.bqn_syntax.specs.blocks.Counting.{in_expr, in_part, in_maybe, in_steps, in_derived, in_use}
use Rattle.bqn_meaning.specs.Actions.{at, ◌>>=◌, pure, known, used}
use Rattle.bqn_syntax.specs.blocks.Blocks.{class_of}
use Rattle.bqn_meaning.specs.Environments.{Does, Calling, look}
use Rattle.bqn_meaning.specs.Frames.{Setting, Frame, given, literal, special_value, system_value, leaf}
use Rattle.bqn_meaning.specs.Matching.{field, stays, assigned, bind}
use Rattle.bqn_meaning.specs.Deriving.{listed, elements, list_of, merged, standing, with_one, with_two, modified_one, modified_two, Unread, and_part, train, applied}
use Rattle.bqn_meaning.specs.Meaning.{fields, present, changed_to, eval_expr, eval_part, eval_maybe, eval_steps, eval_step, eval_derived, eval_uses, eval_use, eval_deriveds, eval_exprs, eval_parts}
use Rattle.bqn_meaning.proofs.advancing.Actions.{Advances, gives, binds, fails, uses, places}
use Rattle.bqn_meaning.proofs.advancing.Stores.{looks, fields-advance, stays-stored, assigns, bind-advances}

gives-value : (v : plain.Value) → Advances (given v)
gives-value v = gives (Ok (Some v))

and-given : (m : Does plain.Value) → Advances m → Advances (m >>= given)
and-given m a = binds m given a gives-value

leaf-advances : (g : Setting) (f : Frame) (k : Kind) → Advances (leaf g f k)
leaf-advances g f (kind.Word name r) = and-given (look f.scopes f.environment name) (looks f.scopes f.environment name)
leaf-advances g f (kind.Special s r) = gives (raised (special_value f s))
leaf-advances g f (kind.System name r) = gives (raised (system_value g.args name))
leaf-advances g f (kind.Given code) = gives (Ok (Some (Given code)))
leaf-advances g f k = and-given (known (literal k)) (gives (raised (literal k)))

fields-of : (g : Setting) (ts : List Token) (v : Option plain.Value) → Advances (fields g ts v)
fields-of g [] v = gives (Ok v)
fields-of g (t ∷ ts) v = binds (at t.place (used v >>= (λ x. field g.blocks x (name_of t)))) (λ y. fields g ts (Some y)) (places t.place (used v >>= (λ x. field g.blocks x (name_of t))) (uses v (λ x. field g.blocks x (name_of t)) (λ x. fields-advance g.blocks x (name_of t)))) (λ y. fields-of g ts (Some y))

changed-to : (f : Frame) (t : Token) (v : Option plain.Value) → Advances (changed_to f t v)
changed-to f t v = places t.place (stays f arrow.Change t v) (stays-stored f arrow.Change t v)

presents : (f : Frame) (t : Token) → Advances (present f t)
presents f t = places t.place (look f.scopes f.environment (name_of t)) (looks f.scopes f.environment (name_of t))

module _ (h : Calling) (on : (t : Call) → Advances (h t)) (g : Setting) (f : Frame) (l : Place) where
  calls-given : (t : Call) → Advances (h t >>= given)
  calls-given t = and-given (h t) (on t)

  apply : (k w x : Option plain.Value) → Advances (applied h k w x)
  apply None w x = fails _
  apply (Some k) w None = gives (Ok None)
  apply (Some k) w (Some x) = calls-given (call k w x)

  lists : (p : Place) (xs : List (Option plain.Value)) → Advances (at p (list_of xs))
  lists p xs = places p (list_of xs) (gives (raised (listed (elements xs))))

  merges : (p : Place) (xs : List (Option plain.Value)) → Advances (merged h p xs)
  merges p xs = binds (at p (list_of xs)) (λ x. at p (h (call (Given 13) None x))) (lists p xs) (λ x. places p (h (call (Given 13) None x)) (on (call (Given 13) None x)))

  with-one : (m x : Option plain.Value) → Advances (modified_one (class_of g.blocks) h m x)
  with-one m x = uses m (λ m. used x >>= (λ x. h (with_one (class_of g.blocks) m x) >>= given)) (λ m. uses x (λ x. h (with_one (class_of g.blocks) m x) >>= given) (λ x. calls-given (with_one (class_of g.blocks) m x)))

  with-two : (m x y : Option plain.Value) → Advances (modified_two (class_of g.blocks) h m x y)
  with-two m x y = uses m (λ m. used x >>= (λ x. used y >>= (λ y. h (with_two (class_of g.blocks) m x y) >>= given))) (λ m. uses x (λ x. used y >>= (λ y. h (with_two (class_of g.blocks) m x y) >>= given)) (λ x. uses y (λ y. h (with_two (class_of g.blocks) m x y) >>= given) (λ y. calls-given (with_two (class_of g.blocks) m x y))))

  change-of : (t : Token) (p : Place) (k w v : Option plain.Value) → Advances (at p (applied h k w v) >>= changed_to f t)
  change-of t p k w v = binds (at p (applied h k w v)) (changed_to f t) (places p (applied h k w v) (apply k w v)) (changed-to f t)

  mutual
    pub expr : (e : Expr) (c : ℕ) → Advances (eval_expr h g f l e c)
    expr (Value none (and_steps (Modify t d) ss)) c = binds (present f t) (λ x. eval_derived h g f l d (c + (in_steps ss).blocks) >>= (λ k. at (or_else l (derived_lead d)) (applied h k None (Some x)) >>= changed_to f t >>= eval_steps h g f l ss c)) (presents f t) (λ x. binds (eval_derived h g f l d (c + (in_steps ss).blocks)) (λ k. at (or_else l (derived_lead d)) (applied h k None (Some x)) >>= changed_to f t >>= eval_steps h g f l ss c) (derived-part d (c + (in_steps ss).blocks)) (λ k. binds (at (or_else l (derived_lead d)) (applied h k None (Some x)) >>= changed_to f t) (eval_steps h g f l ss c) (change-of t (or_else l (derived_lead d)) k None (Some x)) (λ v. steps ss c v)))
    expr (Value none ss) c = steps ss c None
    expr (Value (some x) ss) c = binds (eval_part h g f l x (c + (in_steps ss).blocks)) (eval_steps h g f l ss c) (part x (c + (in_steps ss).blocks)) (λ v. steps ss c v)
    expr (Train targets ds) c = binds (eval_deriveds h g f l ds c) (λ r. at (or_else l (deriveds_lead ds)) (known (train r)) >>= assigned f targets) (deriveds ds c) (λ r. binds (at (or_else l (deriveds_lead ds)) (known (train r))) (assigned f targets) (places (or_else l (deriveds_lead ds)) (known (train r)) (gives (raised (train r)))) (assigns f targets))
    expr (Modifier targets x) c = binds (eval_part h g f l x c) (assigned f targets) (part x c) (assigns f targets)

    part : (x : Part) (c : ℕ) → Advances (eval_part h g f l x c)
    part (Leaf t) c = places t.place (leaf g f t.kind) (leaf-advances g f t.kind)
    part (Elements es) c = and-given (eval_exprs h g f l es c >>= (λ vs. at (or_else l (exprs_lead es)) (list_of vs))) (binds (eval_exprs h g f l es c) (λ vs. at (or_else l (exprs_lead es)) (list_of vs)) (exprs es c) (lists (or_else l (exprs_lead es))))
    part (Merge es) c = and-given (eval_exprs h g f l es c >>= merged h (or_else l (exprs_lead es))) (binds (eval_exprs h g f l es c) (merged h (or_else l (exprs_lead es))) (exprs es c) (merges (or_else l (exprs_lead es))))
    part (Paren e) c = expr e c
    part (Braces (block place kind bs)) c = and-given (at place (h (standing kind c f.environment))) (places place (h (standing kind c f.environment)) (on (standing kind c f.environment)))
    part (Field base names) c = binds (eval_part h g f l base c) (fields g names) (part base c) (fields-of g names)
    part (Strand ps) c = and-given (eval_parts h g f l ps c >>= (λ vs. at (or_else l (parts_lead ps)) (list_of vs))) (binds (eval_parts h g f l ps c) (λ vs. at (or_else l (parts_lead ps)) (list_of vs)) (parts ps c) (lists (or_else l (parts_lead ps))))
    part (Nothing place) c = gives (Ok None)

    maybe : (x : MaybePart) (c : ℕ) → Advances (eval_maybe h g f l x c)
    maybe none c = gives (Ok None)
    maybe (some x) c = part x c

    steps : (ss : Steps) (c : ℕ) (v : Option plain.Value) → Advances (eval_steps h g f l ss c v)
    steps no_steps c v = gives (Ok v)
    steps (and_steps s ss) c v = binds (eval_step h g f l s (c + (in_steps ss).blocks) v) (eval_steps h g f l ss c) (step s (c + (in_steps ss).blocks) v) (λ v. steps ss c v)

    step : (s : Step) (c : ℕ) (v : Option plain.Value) → Advances (eval_step h g f l s c v)
    step (Apply d left) c v = binds (eval_derived h g f l d (c + (in_maybe left).blocks)) (λ k. eval_maybe h g f l left c >>= (λ w. at (or_else l (derived_lead d)) (applied h k w v))) (derived-part d (c + (in_maybe left).blocks)) (λ k. binds (eval_maybe h g f l left c) (λ w. at (or_else l (derived_lead d)) (applied h k w v)) (maybe left c) (λ w. places (or_else l (derived_lead d)) (applied h k w v) (apply k w v)))
    step (Assign q a) c v = places (or_else l (pattern_lead q)) (used v >>= (λ x. bind g f a q x >>= (λ u. pure (Some x)))) (uses v (λ x. bind g f a q x >>= (λ u. pure (Some x))) (λ x. binds (bind g f a q x) (λ u. pure (Some x)) (bind-advances g f a q x) (λ u. gives (Ok (Some x)))))
    step (Modify t d) c v = binds (eval_derived h g f l d c) (λ k. present f t >>= (λ w. at (or_else l (derived_lead d)) (applied h k (Some w) v) >>= changed_to f t)) (derived-part d c) (λ k. binds (present f t) (λ w. at (or_else l (derived_lead d)) (applied h k (Some w) v) >>= changed_to f t) (presents f t) (λ w. change-of t (or_else l (derived_lead d)) k (Some w) v))

    derived-part : (d : Derived) (c : ℕ) → Advances (eval_derived h g f l d c)
    derived-part (derived x us) c = mod-uses us (c + (in_part x).blocks) (eval_part h g f l x c) (part x c)

    mod-uses : (us : Uses) (c : ℕ) (inside : Does (Option plain.Value)) → Advances inside → Advances (eval_uses h g f l us c inside)
    mod-uses no_uses c inside a = a
    mod-uses (and_uses u us) c inside a = mod-uses us (c + (in_use u).blocks) (eval_use h g f l u c inside) (mod-use u c inside a)

    mod-use : (u : Use) (c : ℕ) (inside : Does (Option plain.Value)) → Advances inside → Advances (eval_use h g f l u c inside)
    mod-use (One m) c inside a = binds (eval_part h g f l m c) (λ n. inside >>= (λ x. at (or_else l (part_lead m)) (modified_one (class_of g.blocks) h n x))) (part m c) (λ n. binds inside (λ x. at (or_else l (part_lead m)) (modified_one (class_of g.blocks) h n x)) a (λ x. places (or_else l (part_lead m)) (modified_one (class_of g.blocks) h n x) (with-one n x)))
    mod-use (Two m x) c inside a = binds (eval_part h g f l x (c + (in_part m).blocks)) (λ r. eval_part h g f l m c >>= (λ n. inside >>= (λ k. at (or_else l (part_lead m)) (modified_two (class_of g.blocks) h n k r)))) (part x (c + (in_part m).blocks)) (λ r. binds (eval_part h g f l m c) (λ n. inside >>= (λ k. at (or_else l (part_lead m)) (modified_two (class_of g.blocks) h n k r))) (part m c) (λ n. binds inside (λ k. at (or_else l (part_lead m)) (modified_two (class_of g.blocks) h n k r)) a (λ k. places (or_else l (part_lead m)) (modified_two (class_of g.blocks) h n k r) (with-two n k r))))

    deriveds : (ds : Deriveds) (c : ℕ) → Advances (eval_deriveds h g f l ds c)
    deriveds no_deriveds c = gives (Ok Unread)
    deriveds (and_deriveds d ds) c = binds (eval_deriveds h g f l ds (c + (in_derived d).blocks)) (λ r. eval_derived h g f l d c >>= (λ v. at (or_else l (derived_lead d)) (known (and_part r v)))) (deriveds ds (c + (in_derived d).blocks)) (λ r. binds (eval_derived h g f l d c) (λ v. at (or_else l (derived_lead d)) (known (and_part r v))) (derived-part d c) (λ v. places (or_else l (derived_lead d)) (known (and_part r v)) (gives (raised (and_part r v)))))

    exprs : (es : Exprs) (c : ℕ) → Advances (eval_exprs h g f l es c)
    exprs no_exprs c = gives (Ok [])
    exprs (and_exprs e es) c = binds (eval_expr h g f l e c) (λ v. eval_exprs h g f l es (c + (in_expr e).blocks) >>= (λ vs. pure (v ∷ vs))) (expr e c) (λ v. binds (eval_exprs h g f l es (c + (in_expr e).blocks)) (λ vs. pure (v ∷ vs)) (exprs es (c + (in_expr e).blocks)) (λ vs. gives (Ok (v ∷ vs))))

    parts : (xs : Parts) (c : ℕ) → Advances (eval_parts h g f l xs c)
    parts no_parts c = gives (Ok [])
    parts (and_parts x xs) c = binds (eval_part h g f l x c) (λ v. eval_parts h g f l xs (c + (in_part x).blocks) >>= (λ vs. pure (v ∷ vs))) (part x c) (λ v. binds (eval_parts h g f l xs (c + (in_part x).blocks)) (λ vs. pure (v ∷ vs)) (parts xs (c + (in_part x).blocks)) (λ vs. gives (Ok (v ∷ vs))))
