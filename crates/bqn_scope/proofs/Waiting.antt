-- The definitions of a body that are still to come, one event after another.
use Rattle.std.proofs.Common.{◌≡◌, ℕ, zero, suc, Bool, true, false, not, cond, if◌then◌else◌, List, [], ◌∷◌, ◌++◌, map, length, get_or, set, drop, drop-cons, add-one, position, Some, None, Bor, ◌<◌, ◌≤◌, ◌+◌, refl, sym, ap, ◌∙◌, arith}
use Rattle.std.specs.Prelude.{◌&&◌, ◌||◌, nat_eq, nat_lt, replicate}
use Rattle.std.specs.List.{AllByRecursion, IsDistinct, list_any, position_or_len}
use Rattle.std.specs.Cmp.{IsEquivalence}
use Rattle.std.specs.Cmp.Lexicographic.{pointwise}
use Rattle.std.proofs.lemmas.Cmp.{nat_list_eq_equiv, nat_eq_equiv}
use Rattle.std.proofs.lemmas.List.{append_assoc, append-nil, drop_all, set_past, get_or_past, length-map, length-replicate}
use Rattle.std.proofs.lemmas.Bool.Decides.{nat_tests}
use Rattle.bqn_syntax.specs.declared.token.Token.{Token}
use Rattle.bqn_syntax.specs.scope.Order.{How}
use Rattle.bqn_syntax.specs.scope.Scope.{name_of, has, same_place, defines, without, too_early}
use Rattle.bqn_scope.specs.declared.mention.Event.{Event}
use Rattle.bqn_scope.specs.Shown.{event_shown, events_shown}
use Rattle.bqn_scope.specs.Tokens.{tokens_shown, names_of_tokens, spot, spots_of, same_spot}
use Rattle.bqn_scope.specs.Names.{place_of}
use Rattle.bqn_scope.specs.Waiting.{kept, to_come, early_with}

pub one-plus : (n : ℕ) → 1 + n ≡ suc n
one-plus n = omega arith

and-congr : (a b c d e f : Bool) → (a ≡ true → c ≡ e) → (b ≡ true → d ≡ f) → (a && b) ≡ true → (c && d) ≡ (e && f)
and-congr true true c d e f h k both = λ i. h refl i && k refl i
and-congr true false c d e f h k both = cc
and-congr false b c d e f h k both = cc

spot-equiv : IsEquivalence same_spot
spot-equiv = record {
  refl = λ p. λ i. nat_eq_equiv.refl p.0 i && nat_eq_equiv.refl p.1 i;
  symm = λ p q. λ i. nat_eq_equiv.symm p.0 q.0 i && nat_eq_equiv.symm p.1 q.1 i;
  congr = λ p q r e. and-congr (nat_eq p.0 q.0) (nat_eq p.1 q.1) (nat_eq p.0 r.0) (nat_eq p.1 r.1) (nat_eq q.0 r.0) (nat_eq q.1 r.1) (nat_eq_equiv.congr p.0 q.0 r.0) (nat_eq_equiv.congr p.1 q.1 r.1) e;
}

module _ {K : Type 0} (E : K → K → Bool) (laws : IsEquivalence E) where
  unlike : (k x : K) (ks : List K) → E k x ≡ true → AllByRecursion (λ o. E k o ≡ false) ks → AllByRecursion (λ o. E x o ≡ false) ks
  unlike k x [] e h = tt
  unlike k x (o ∷ os) e h = (sym (laws.congr k x o e) ∙ h.0, unlike k x os e h.1)

  module _ (key : Token → K) where
    none-kept : (x : K) (fs : List Bool) (ds : List Token) → AllByRecursion (λ o. E x o ≡ false) (map key ds) → list_any (λ o. E o x) (map key (kept fs ds)) ≡ false
    none-kept x [] ds h = refl
    none-kept x (f ∷ fs) [] h = refl
    none-kept x (true ∷ fs) (d ∷ ds) h = (λ i. laws.symm (key d) x i || none-kept x fs ds h.1 i) ∙ ap (λ (b : Bool). b || false) h.0
    none-kept x (false ∷ fs) (d ∷ ds) h = none-kept x fs ds h.1

    any-kept : (x : K) (fs : List Bool) (ds : List Token) → length fs ≡ length ds → IsDistinct E (map key ds) → list_any (λ o. E o x) (map key (kept fs ds)) ≡ get_or fs (position_or_len (λ o. E o x) (map key ds)) false
    unfolding IsDistinct
    any-kept x [] ds l h = refl
    any-kept x (f ∷ fs) [] l h = absurd (omega arith)
    any-kept x (f ∷ fs) (d ∷ ds) l h = step f (E (key d) x) refl (any-kept x fs ds (omega arith) h.1)
      where
        step : (f b : Bool) → E (key d) x ≡ b → list_any (λ o. E o x) (map key (kept fs ds)) ≡ get_or fs (position_or_len (λ o. E o x) (map key ds)) false → list_any (λ o. E o x) (map key (kept (f ∷ fs) (d ∷ ds))) ≡ get_or (f ∷ fs) (cond (not b) (1 + position_or_len (λ o. E o x) (map key ds)) 0) false
        step true true e rest = ap (λ (b : Bool). b || list_any (λ o. E o x) (map key (kept fs ds))) e
        step false true e rest = none-kept x fs ds (unlike (key d) x (map key ds) e h.0)
        step true false e rest = ap (λ (b : Bool). b || list_any (λ o. E o x) (map key (kept fs ds))) e ∙ rest ∙ ap (λ (n : ℕ). get_or (true ∷ fs) n false) (sym (one-plus (position_or_len (λ o. E o x) (map key ds))))
        step false false e rest = rest ∙ ap (λ (n : ℕ). get_or (false ∷ fs) n false) (sym (one-plus (position_or_len (λ o. E o x) (map key ds))))

without-none : (t : Token) (fs : List Bool) (ds : List Token) → AllByRecursion (λ o. same_spot (spot t) o ≡ false) (spots_of ds) → without t (kept fs ds) ≡ kept fs ds
without-none t [] ds h = refl
without-none t (f ∷ fs) [] h = refl
without-none t (true ∷ fs) (d ∷ ds) h = ap (λ (b : Bool). if b then kept fs ds else d ∷ without t (kept fs ds)) h.0 ∙ ap (λ (xs : List Token). d ∷ xs) (without-none t fs ds h.1)
without-none t (false ∷ fs) (d ∷ ds) h = without-none t fs ds h.1

without-kept : (t : Token) (fs : List Bool) (ds : List Token) → IsDistinct same_spot (spots_of ds) → without t (kept fs ds) ≡ kept (set fs (position_or_len (same_spot (spot t)) (spots_of ds)) false) ds
unfolding IsDistinct
without-kept t [] ds h = refl
without-kept t (f ∷ fs) [] h = refl
without-kept t (f ∷ fs) (d ∷ ds) h = step f (same_place t d) refl (without-kept t fs ds h.1)
  where
    step : (f b : Bool) → same_place t d ≡ b → without t (kept fs ds) ≡ kept (set fs (position_or_len (same_spot (spot t)) (spots_of ds)) false) ds → without t (kept (f ∷ fs) (d ∷ ds)) ≡ kept (set (f ∷ fs) (cond (not b) (1 + position_or_len (same_spot (spot t)) (spots_of ds)) 0) false) (d ∷ ds)
    step true true e rest = ap (λ (b : Bool). if b then kept fs ds else d ∷ without t (kept fs ds)) e
    step false true e rest = without-none t fs ds (unlike same_spot spot-equiv (spot d) (spot t) (spots_of ds) (spot-equiv.symm (spot d) (spot t) ∙ e) h.0)
    step true false e rest = ap (λ (b : Bool). if b then kept fs ds else d ∷ without t (kept fs ds)) e ∙ ap (λ (xs : List Token). d ∷ xs) rest ∙ ap (λ (n : ℕ). kept (set (true ∷ fs) n false) (d ∷ ds)) (sym (one-plus (position_or_len (same_spot (spot t)) (spots_of ds))))
    step false false e rest = rest ∙ ap (λ (n : ℕ). kept (set (false ∷ fs) n false) (d ∷ ds)) (sym (one-plus (position_or_len (same_spot (spot t)) (spots_of ds))))

-- what a look-up by position says, where nothing is found too
pub is_some-at : (n m i : ℕ) → cond (nat_lt n m) (Some n) None ≡ Some i → n ≡ i
is_some-at n m i e = chosen (nat_lt n m) e
  where
    chosen : (b : Bool) → cond b (Some n) None ≡ Some i → n ≡ i
    chosen true e = cc
    chosen false e = cc

pub is_none-at : (n m : ℕ) → cond (nat_lt n m) (Some n) None ≡ None → m ≤ n
is_none-at n m e = grind (arith, nat_tests)

pub store-found : (t : Token) (fs : List Bool) (ds : List Token) (i : ℕ) → IsDistinct same_spot (spots_of ds) → Some i ≡ position (same_spot (spot t)) (spots_of ds) → kept (set fs i false) ds ≡ without t (kept fs ds)
store-found t fs ds i h e = ap (λ (n : ℕ). kept (set fs n false) ds) (sym (is_some-at _ (length (spots_of ds)) i (sym e))) ∙ sym (without-kept t fs ds h)

pub store-absent : (t : Token) (fs : List Bool) (ds : List Token) → length fs ≡ length ds → IsDistinct same_spot (spots_of ds) → None ≡ position (same_spot (spot t)) (spots_of ds) → kept fs ds ≡ without t (kept fs ds)
store-absent t fs ds l h e = ap (λ (gs : List Bool). kept gs ds) (sym (set_past fs (position_or_len (same_spot (spot t)) (spots_of ds)) false (le_along (length fs) (length ds) (length (spots_of ds)) _ l (length-map ds spot) (is_none-at _ (length (spots_of ds)) (sym e))))) ∙ sym (without-kept t fs ds h)
  where
    le_along : (a b c d : ℕ) → a ≡ b → c ≡ b → c ≤ d → a ≤ d
    le_along a b c d e f h = omega arith

pub waits-found : (name : List ℕ) (fs : List Bool) (ds : List Token) (i : ℕ) → length fs ≡ length ds → IsDistinct (pointwise nat_eq) (names_of_tokens ds) → Some i ≡ place_of (names_of_tokens ds) name → get_or fs i false ≡ has (names_of_tokens (kept fs ds)) name
waits-found name fs ds i l h e = ap (λ (n : ℕ). get_or fs n false) (sym (is_some-at _ (length (names_of_tokens ds)) i (sym e))) ∙ sym (any-kept (pointwise nat_eq) nat_list_eq_equiv name_of name fs ds l h)

pub waits-absent : (name : List ℕ) (fs : List Bool) (ds : List Token) → length fs ≡ length ds → IsDistinct (pointwise nat_eq) (names_of_tokens ds) → None ≡ place_of (names_of_tokens ds) name → false ≡ has (names_of_tokens (kept fs ds)) name
waits-absent name fs ds l h e = sym (get_or_past fs _ false (le_along (length fs) (length ds) (length (names_of_tokens ds)) _ l (length-map ds name_of) (is_none-at _ (length (names_of_tokens ds)) (sym e)))) ∙ sym (any-kept (pointwise nat_eq) nat_list_eq_equiv name_of name fs ds l h)
  where
    le_along : (a b c d : ℕ) → a ≡ b → c ≡ b → c ≤ d → a ≤ d
    le_along a b c d e f h = omega arith

pub all-kept : (n : ℕ) (ds : List Token) → n ≡ length ds → kept (replicate n true) ds ≡ ds
all-kept zero [] e = refl
all-kept zero (d ∷ ds) e = absurd (omega arith)
all-kept (suc n) [] e = refl
all-kept (suc n) (d ∷ ds) e = ap (λ (xs : List Token). d ∷ xs) (all-kept n ds (omega arith))

abbrev rest : List Token → List Token → List (How × Token) → List Token
rest early waiting es = early ++ too_early waiting es

early-one : (early waiting : List Token) (e : How × Token) (es : List (How × Token)) → rest early waiting (e ∷ es) ≡ rest (early_with waiting early e) (to_come waiting e) es
early-one early waiting e es = chosen (defines e.0) (has (names_of_tokens waiting) (name_of e.1))
  where
    chosen : (b c : Bool) → early ++ (if b then too_early (without e.1 waiting) es else (if c then e.1 ∷ too_early waiting es else too_early waiting es)) ≡ rest (if b then early else (if c then early ++ e.1 ∷ [] else early)) (if b then without e.1 waiting else waiting) es
    chosen true c = refl
    chosen false true = sym (append_assoc early (e.1 ∷ []) (too_early waiting es))
    chosen false false = refl

pub early-more : (early waiting next_early next_waiting whole : List Token) (i : ℕ) (e : Event) (all : List Event) → i < length all → e ≡ get_or all i e → next_early ≡ early_with waiting early (event_shown e) → next_waiting ≡ to_come waiting (event_shown e) → early ++ too_early waiting (events_shown (drop i all)) ≡ whole → next_early ++ too_early next_waiting (events_shown (drop (i + 1) all)) ≡ whole
early-more early waiting next_early next_waiting whole i e all inside is n w h =
    (λ j. n j ++ too_early (w j) (events_shown (drop (i + 1) all)))
    ∙ sym (early-one early waiting (event_shown e) (events_shown (drop (i + 1) all)))
    ∙ ap (λ (k : ℕ). rest early waiting (event_shown e ∷ events_shown (drop k all))) (add-one i)
    ∙ ap (λ (x : Event). rest early waiting (events_shown (x ∷ drop (suc i) all))) is
    ∙ ap (λ (xs : List Event). rest early waiting (events_shown xs)) (sym (drop-cons all i e inside))
    ∙ h

pub early-end : (early waiting whole : List Token) (i : ℕ) (all : List Event) → length all ≤ i → early ++ too_early waiting (events_shown (drop i all)) ≡ whole → early ≡ whole
early-end early waiting whole i all outside h =
    sym (append-nil early)
    ∙ ap (λ (xs : List Event). rest early waiting (events_shown xs)) (sym (drop_all i all outside))
    ∙ h

pub waiting-start : (marks : List Bool) (n : ℕ) (tokens : List (Bor Token)) (early : List (Bor Token)) (es : List (How × Token)) → marks ≡ replicate n true → n ≡ length tokens → early ≡ [] → (length marks ≡ length (tokens_shown tokens)) × (tokens_shown early ++ too_early (kept marks (tokens_shown tokens)) es ≡ too_early (tokens_shown tokens) es)
waiting-start marks n tokens early es m l e =
    let long : n ≡ length (tokens_shown tokens) = l ∙ sym (length-map tokens (λ (t : Bor Token). t.now)) in (
      ap length m ∙ length-replicate n true ∙ long,
      ap (λ (ts : List (Bor Token)). tokens_shown ts ++ too_early (kept marks (tokens_shown tokens)) es) e
          ∙ ap (λ (ms : List Bool). too_early (kept ms (tokens_shown tokens)) es) m
          ∙ ap (λ (ts : List Token). too_early ts es) (all-kept n (tokens_shown tokens) long),
    )

pub ruleset waiting_laws = (store-found, store-absent, waits-found, waits-absent, all-kept, early-more, early-end)
