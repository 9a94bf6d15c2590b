-- Patterns of elements, one by one.
use Rattle.std.proofs.Common.{◌≡◌, ◌≤◌, ◌<◌, ℕ, suc, List, [], ◌∷◌, ◌++◌, Bool, true, false, Option, Some, None, length, map, refl, sym, ap, ◌∙◌, arith}
use Rattle.std.specs.Option.{option_map}
use Rattle.std.proofs.lemmas.List.{append_assoc}
use Rattle.bqn_syntax.specs.declared.token.Kind.{Kind}
use Rattle.bqn_syntax.specs.declared.token.Kind.TheVariants as kind
use Rattle.bqn_syntax.specs.declared.token.Token.{Token}
use Rattle.bqn_syntax.specs.declared.pattern.Pattern.{Pattern as CodePattern}
use Rattle.bqn_syntax.specs.grammar.Sorts.{is_word}
use Rattle.bqn_syntax.specs.grammar.Trees.{Pattern, Name, Literal, StrandPattern, patterns, pattern_of}
use Rattle.bqn_syntax.specs.grammar.Items as items
use Rattle.bqn_headers.specs.declared.element.Element.{Element}
use Rattle.bqn_headers.specs.Elements.{is_literal, element_shown, group_shown}
use Rattle.bqn_headers.specs.Queues.{only}

pub leaf-word : (k : Kind) (t : Token) → is_word k ≡ true → items.leaf_pattern true k t ≡ Some (Name t)
leaf-word (kind.Word name r) t e = refl
leaf-word (kind.Number z) t e = absurd (let p : false ≡ true = e in cc)
leaf-word (kind.Char c) t e = absurd (let p : false ≡ true = e in cc)
leaf-word (kind.Text s) t e = absurd (let p : false ≡ true = e in cc)
leaf-word (kind.System name r) t e = absurd (let p : false ≡ true = e in cc)
leaf-word (kind.Special s r) t e = absurd (let p : false ≡ true = e in cc)
leaf-word (kind.Given code) t e = absurd (let p : false ≡ true = e in cc)
leaf-word (kind.Punct c) t e = absurd (let p : false ≡ true = e in cc)

pub leaf-literal : (k : Kind) (t : Token) → is_literal k ≡ true → items.leaf_pattern true k t ≡ Some (Literal t)
leaf-literal (kind.Number z) t e = refl
leaf-literal (kind.Char c) t e = refl
leaf-literal (kind.Text s) t e = refl
leaf-literal (kind.Word name r) t e = absurd (let p : false ≡ true = e in cc)
leaf-literal (kind.System name r) t e = absurd (let p : false ≡ true = e in cc)
leaf-literal (kind.Special s r) t e = absurd (let p : false ≡ true = e in cc)
leaf-literal (kind.Given code) t e = absurd (let p : false ≡ true = e in cc)
leaf-literal (kind.Punct c) t e = absurd (let p : false ≡ true = e in cc)

pub leaf-none : (k : Kind) (t : Token) → is_word k ≡ false → is_literal k ≡ false → items.leaf_pattern true k t ≡ None
leaf-none (kind.Word name r) t e f = absurd (let p : true ≡ false = e in cc)
leaf-none (kind.Number z) t e f = absurd (let p : true ≡ false = f in cc)
leaf-none (kind.Char c) t e f = absurd (let p : true ≡ false = f in cc)
leaf-none (kind.Text s) t e f = absurd (let p : true ≡ false = f in cc)
leaf-none (kind.System name r) t e f = refl
leaf-none (kind.Special s r) t e f = refl
leaf-none (kind.Given code) t e f = refl
leaf-none (kind.Punct c) t e f = refl

pub ruleset leaf_laws = (leaf-word, leaf-literal, leaf-none)

-- Several patterns.

abbrev pub behind : {A : Type 0} → List A → Option (List A) → Option (List A)
behind xs None = None
behind xs (Some ys) = Some (xs ++ ys)

each-of : List Element → Option (List Pattern)
each-of xs = items.each (items.element_pattern true) (group_shown xs)

-- so many patterns are those of the elements that are gone
pub record Gone (so : List Pattern) (xs : List Element) (whole : Option (List Pattern)) : Type 0 where
  pub same : behind so (items.each (items.element_pattern true) (group_shown xs)) ≡ whole

behind-nil : {A : Type 0} (o : Option (List A)) → behind [] o ≡ o
behind-nil None = refl
behind-nil (Some xs) = refl

behind-cons : {A : Type 0} (so : List A) (x : A) (o : Option (List A)) → behind so (items.both (Some x) o) ≡ behind (so ++ x ∷ []) o
behind-cons so x None = refl
behind-cons so x (Some xs) = ap Some (sym (append_assoc so (x ∷ []) xs))

both-none : {A : Type 0} (o : Option (List A)) → items.both {A = A} None o ≡ None
both-none o = refl

pub gone-start : (xs : List Element) → Gone [] xs (items.each (items.element_pattern true) (group_shown xs))
gone-start xs = record { same = behind-nil _ }

pub gone-step : (so : List Pattern) (x : Element) (xs : List Element) (q : Pattern) (whole : Option (List Pattern)) → Gone so (x ∷ xs) whole → Some q ≡ items.element_pattern true (element_shown x) → Gone (so ++ q ∷ []) xs whole
gone-step so x xs q whole gone e = record {
  same =
      sym (behind-cons so q (items.each (items.element_pattern true) (group_shown xs)))
      ∙ ap (λ (o : Option Pattern). behind so (items.both o (items.each (items.element_pattern true) (group_shown xs)))) e
      ∙ gone.same;
}

pub gone-stuck : (so : List Pattern) (x : Element) (xs : List Element) (whole : Option (List Pattern)) → Gone so (x ∷ xs) whole → None ≡ items.element_pattern true (element_shown x) → whole ≡ None
gone-stuck so x xs whole gone e = sym gone.same ∙ sym (ap (λ (o : Option Pattern). behind so (items.both o (items.each (items.element_pattern true) (group_shown xs)))) e)

pub gone-end : (so : List Pattern) (whole : Option (List Pattern)) → Gone so [] whole → whole ≡ Some so
gone-end so whole gone = sym gone.same ∙ ap Some (append_nil so)
  where
    append_nil : {A : Type 0} (xs : List A) → xs ++ [] ≡ xs
    append_nil [] = refl
    append_nil (x ∷ xs) = ap (λ (ys : List _). x ∷ ys) (append_nil xs)

pub map-pushed : (qs : List CodePattern) (q : CodePattern) → map pattern_of (qs ++ q ∷ []) ≡ map pattern_of qs ++ pattern_of q ∷ []
map-pushed [] q = refl
map-pushed (p ∷ qs) q = ap (λ (ys : List Pattern). pattern_of p ∷ ys) (map-pushed qs q)

pub ruleset each_laws = (gone-start, gone-step, gone-stuck, gone-end, map-pushed)

-- One group.

several : (xs : List items.Element) → 2 ≤ length xs → items.group_pattern true xs ≡ option_map (λ qs. StrandPattern (patterns qs)) (items.each (items.element_pattern true) xs)
several [] le = absurd (omega arith)
several (x ∷ []) le = absurd (omega arith)
several (x ∷ y ∷ xs) le = refl

length-group : (xs : List Element) → length (group_shown xs) ≡ length xs
length-group [] = refl
length-group (x ∷ xs) = ap suc (length-group xs)

pub group-several : (xs : List Element) → 2 ≤ length xs → items.group_pattern true (group_shown xs) ≡ option_map (λ qs. StrandPattern (patterns qs)) (items.each (items.element_pattern true) (group_shown xs))
group-several xs le = several (group_shown xs) (let l = length-group xs in omega (arith, l))

pub group-one : (xs : List Element) (x : Element) → Some x ≡ only xs → items.group_pattern true (group_shown xs) ≡ items.element_pattern true (element_shown x)
group-one [] x e = absurd (let p : Some x ≡ None = e in cc)
group-one (y ∷ []) x e = let p : Some x ≡ Some y = e in ap (λ (z : Element). items.element_pattern true (element_shown z)) (let q : y ≡ x = cc in q)
group-one (y ∷ z ∷ xs) x e = absurd (let p : Some x ≡ None = e in cc)

pub group-none : (xs : List Element) → length xs < 2 → None ≡ only xs → items.group_pattern true (group_shown xs) ≡ None
group-none [] lt e = refl
group-none (y ∷ []) lt e = absurd (let p : None ≡ Some y = e in cc)
group-none (y ∷ z ∷ xs) lt e = absurd (omega arith)

pub ruleset group_laws = (group-several, group-one, group-none)
