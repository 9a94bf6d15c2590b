-- Groups that are built from the left are those of the definition.
use Rattle.std.proofs.Common.{◌≡◌, ◌≤◌, ℕ, suc, List, [], ◌∷◌, ◌++◌, Bool, true, false, Option, Some, None, length, map, refl, sym, ap, ◌∙◌, arith, append_assoc}
use Rattle.std.specs.Option.{option_map, option_and_then}
use Rattle.bqn_syntax.specs.grammar.Trees.{Pattern}
use Rattle.bqn_syntax.specs.grammar.Items as items
use Rattle.bqn_syntax.specs.grammar.Items.{Standing, Drawn, Joining, Selecting, Wrong, onto_first, groups}
use Rattle.bqn_headers.specs.declared.element.Element.{Element}
use Rattle.bqn_headers.specs.declared.element.Item.{Item}
use Rattle.bqn_headers.specs.Elements.{element_shown, group_shown, groups_shown, item_shown, items_shown}
use Rattle.bqn_headers.specs.Queues.{only}
use Rattle.bqn_headers.specs.Grouping.{Grouping, grouping, closed, taken, with_element, with_joiner, ended, resumed}

-- Pushes.

pub group-pushed : (xs : List Element) (x : Element) → group_shown (xs ++ x ∷ []) ≡ group_shown xs ++ element_shown x ∷ []
group-pushed [] x = refl
group-pushed (y ∷ xs) x = ap (λ (ys : List items.Element). element_shown y ∷ ys) (group-pushed xs x)

pub groups-pushed : (gs : List (List Element)) (g : List Element) → groups_shown (gs ++ g ∷ []) ≡ groups_shown gs ++ group_shown g ∷ []
groups-pushed [] g = refl
groups-pushed (h ∷ gs) g = ap (λ (ys : List (List items.Element)). group_shown h ∷ ys) (groups-pushed gs g)

pub closed-empty : (done : List (List items.Element)) (g : List Element) → length g ≡ 0 → closed done (group_shown g) ≡ done
closed-empty done [] e = refl
closed-empty done (x ∷ g) e = absurd (omega arith)

pub closed-some : (done : List (List items.Element)) (g : List Element) → 1 ≤ length g → closed done (group_shown g) ≡ done ++ group_shown g ∷ []
closed-some done [] le = absurd (omega arith)
closed-some done (x ∷ g) le = refl

pub joiner-second : (done : List (List items.Element)) (g : List items.Element) → with_joiner true done g ≡ None
joiner-second done [] = refl
joiner-second done (x ∷ g) = refl

pub joiner-first : (done : List (List items.Element)) (g : List Element) → length g ≡ 0 → with_joiner false done (group_shown g) ≡ None
joiner-first done [] e = refl
joiner-first done (x ∷ g) e = absurd (omega arith)

pub joiner-behind : (done : List (List items.Element)) (g : List Element) → 1 ≤ length g → with_joiner false done (group_shown g) ≡ Some (grouping done (group_shown g) true)
joiner-behind done [] le = absurd (omega arith)
joiner-behind done (x ∷ g) le = refl

pub ruleset push_laws = (group-pushed, groups-pushed, closed-empty, closed-some, joiner-second, joiner-first, joiner-behind)

-- From the left and from the right.

onto-all : List items.Element → Option (List (List items.Element)) → Option (List (List items.Element))
onto-all [] gs = gs
onto-all (x ∷ xs) gs = onto_first x (onto-all xs gs)

abbrev with_all : List (List items.Element) → Option (List (List items.Element)) → Option (List (List items.Element))
with_all done gs = option_map (λ more. done ++ more) gs

onto_all-none : (xs : List items.Element) → onto-all xs None ≡ None
unfolding onto-all
onto_all-none [] = refl
onto_all-none (x ∷ xs) = ap (onto_first x) (onto_all-none xs)

onto_all-snoc : (xs : List items.Element) (x : items.Element) (gs : Option (List (List items.Element))) → onto-all (xs ++ x ∷ []) gs ≡ onto-all xs (onto_first x gs)
unfolding onto-all
onto_all-snoc [] x gs = refl
onto_all-snoc (y ∷ xs) x gs = ap (onto_first y) (onto_all-snoc xs x gs)

-- elements before a group of one
onto_all-group : (xs : List items.Element) (x : items.Element) (gs : Option (List (List items.Element))) → onto-all xs (option_map (λ more. (x ∷ []) ∷ more) gs) ≡ option_map (λ more. (xs ++ x ∷ []) ∷ more) gs
unfolding onto-all
onto_all-group [] x gs = refl
onto_all-group (y ∷ xs) x gs = ap (onto_first y) (onto_all-group xs x gs) ∙ onto gs
  where
    onto : (gs : Option (List (List items.Element))) → onto_first y (option_map (λ more. (xs ++ x ∷ []) ∷ more) gs) ≡ option_map (λ more. ((y ∷ xs) ++ x ∷ []) ∷ more) gs
    onto None = refl
    onto (Some more) = refl

closed-snoc : (done : List (List items.Element)) (xs : List items.Element) (x : items.Element) → closed done (xs ++ x ∷ []) ≡ done ++ (xs ++ x ∷ []) ∷ []
closed-snoc done [] x = refl
closed-snoc done (y ∷ xs) x = refl

with_joiner-snoc : (done : List (List items.Element)) (xs : List items.Element) (x : items.Element) → with_joiner false done (xs ++ x ∷ []) ≡ Some (grouping done (xs ++ x ∷ []) true)
with_joiner-snoc done [] x = refl
with_joiner-snoc done (y ∷ xs) x = refl

with_all-closed : (done : List (List items.Element)) (g : List items.Element) (gs : Option (List (List items.Element))) → with_all (done ++ g ∷ []) gs ≡ with_all done (option_map (λ more. g ∷ more) gs)
with_all-closed done g None = refl
with_all-closed done g (Some more) = ap Some (append_assoc done (g ∷ []) more)

abbrev at : List (List items.Element) → List items.Element → items.Element → List items.Item → Option (List (List items.Element))
at done xs x rest = resumed (grouping done (xs ++ x ∷ []) false) rest

abbrev goal_at : List (List items.Element) → List items.Element → items.Element → List items.Item → Option (List (List items.Element))
goal_at done xs x rest = with_all done (onto-all xs (groups (Standing x ∷ rest)))

-- after an element
resumed-at : (done : List (List items.Element)) (xs : List items.Element) (x : items.Element) (rest : List items.Item) → at done xs x rest ≡ goal_at done xs x rest
unfolding onto-all
resumed-at done xs x [] = ap Some (closed-snoc done xs x) ∙ sym (ap (with_all done) (onto_all-group xs x (Some [])))
resumed-at done xs x (Standing y ∷ rest) =
    ap (λ (gs : List (List items.Element)). resumed (grouping gs (y ∷ []) false) rest) (closed-snoc done xs x)
    ∙ resumed-at (done ++ (xs ++ x ∷ []) ∷ []) [] y rest
    ∙ ap (with_all (done ++ (xs ++ x ∷ []) ∷ [])) (no_front (groups (Standing y ∷ rest)))
    ∙ with_all-closed done (xs ++ x ∷ []) (groups (Standing y ∷ rest))
    ∙ sym (ap (with_all done) (onto_all-group xs x (groups (Standing y ∷ rest))))
  where
    no_front : (gs : Option (List (List items.Element))) → onto-all [] gs ≡ gs
    no_front gs = refl
resumed-at done xs x (Joining ∷ Standing y ∷ rest) =
    ap (λ (next : Option Grouping). option_and_then (λ g. resumed g (Standing y ∷ rest)) next) (with_joiner-snoc done xs x)
    ∙ resumed-at done (xs ++ x ∷ []) y rest
    ∙ ap (with_all done) (onto_all-snoc xs x (groups (Standing y ∷ rest)))
resumed-at done xs x (Joining ∷ []) =
    ap (λ (next : Option Grouping). option_and_then (λ g. resumed g []) next) (with_joiner-snoc done xs x)
    ∙ sym (ap (with_all done) (onto_all-none xs))
resumed-at done xs x (Joining ∷ Joining ∷ rest) =
    ap (λ (next : Option Grouping). option_and_then (λ g. resumed g (Joining ∷ rest)) next) (with_joiner-snoc done xs x)
    ∙ ap (λ (next : Option Grouping). option_and_then (λ g. resumed g rest) next) (joiner-second done (xs ++ x ∷ []))
    ∙ sym (ap (with_all done) (onto_all-none xs))
resumed-at done xs x (Joining ∷ Drawn a ∷ rest) =
    ap (λ (next : Option Grouping). option_and_then (λ g. resumed g (Drawn a ∷ rest)) next) (with_joiner-snoc done xs x)
    ∙ sym (ap (with_all done) (onto_all-none xs))
resumed-at done xs x (Joining ∷ Selecting ∷ rest) =
    ap (λ (next : Option Grouping). option_and_then (λ g. resumed g (Selecting ∷ rest)) next) (with_joiner-snoc done xs x)
    ∙ sym (ap (with_all done) (onto_all-none xs))
resumed-at done xs x (Joining ∷ Wrong ∷ rest) =
    ap (λ (next : Option Grouping). option_and_then (λ g. resumed g (Wrong ∷ rest)) next) (with_joiner-snoc done xs x)
    ∙ sym (ap (with_all done) (onto_all-none xs))
resumed-at done xs x (Drawn a ∷ rest) = sym (ap (with_all done) (onto_all-none xs))
resumed-at done xs x (Selecting ∷ rest) = sym (ap (with_all done) (onto_all-none xs))
resumed-at done xs x (Wrong ∷ rest) = sym (ap (with_all done) (onto_all-none xs))

all-of : (gs : Option (List (List items.Element))) → with_all [] gs ≡ gs
all-of None = refl
all-of (Some more) = refl

-- before the first element
resumed-start : (items : List items.Item) → resumed (grouping [] [] false) items ≡ groups items
unfolding onto-all
resumed-start [] = refl
resumed-start (Standing x ∷ items) = resumed-at [] [] x items ∙ all-of (groups (Standing x ∷ items))
resumed-start (Joining ∷ items) = refl
resumed-start (Drawn a ∷ items) = refl
resumed-start (Selecting ∷ items) = refl
resumed-start (Wrong ∷ items) = refl

-- the groups so far, and the items that are left
pub record Left (so : Grouping) (rest : List Item) (whole : Option (List (List items.Element))) : Type 0 where
  pub same : resumed so (items_shown rest) ≡ whole

pub left-start : (rest : List Item) → Left (grouping [] [] false) rest (groups (items_shown rest))
left-start rest = record { same = resumed-start (items_shown rest) }

pub left-step : (so next : Grouping) (x : Item) (rest : List Item) (whole : Option (List (List items.Element))) → Left so (x ∷ rest) whole → taken so (item_shown x) ≡ Some next → Left next rest whole
left-step so next x rest whole left e = record { same = sym (ap (λ (o : Option Grouping). option_and_then (λ g. resumed g (items_shown rest)) o) e) ∙ left.same }

pub left-stuck : (so : Grouping) (x : Item) (rest : List Item) (whole : Option (List (List items.Element))) → Left so (x ∷ rest) whole → taken so (item_shown x) ≡ None → whole ≡ None
left-stuck so x rest whole left e = sym left.same ∙ ap (λ (o : Option Grouping). option_and_then (λ g. resumed g (items_shown rest)) o) e

pub left-end : (so : Grouping) (whole : Option (List (List items.Element))) → Left so [] whole → whole ≡ ended so.joins so.done so.current
left-end so whole left = sym left.same

pub ruleset group_laws = (left-start, left-step, left-stuck, left-end)

-- One group alone.

pub only-some : (gs : List (List Element)) (g : List Element) → Some g ≡ only gs → items.only_group true (groups_shown gs) ≡ items.group_pattern true (group_shown g)
only-some [] g e = absurd (let p : Some g ≡ None = e in cc)
only-some (h ∷ []) g e = let p : Some g ≡ Some h = e in ap (λ (k : List Element). items.group_pattern true (group_shown k)) (let q : h ≡ g = cc in q)
only-some (h ∷ i ∷ gs) g e = absurd (let p : Some g ≡ None = e in cc)

pub only-none : (gs : List (List Element)) → None ≡ only gs → items.only_group true (groups_shown gs) ≡ None
only-none [] e = refl
only-none (h ∷ []) e = absurd (let p : None ≡ Some h = e in cc)
only-none (h ∷ i ∷ gs) e = refl

pub ruleset only_laws = (only-some, only-none)
