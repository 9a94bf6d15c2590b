-- How far comments and words reach, and that the longest piece reaches as far.
use Rattle.std.proofs.Common.{◌≡◌, ◌≤◌, ◌<◌, ◌+◌, ℕ, zero, suc, List, [], ◌∷◌, Bool, true, false, Option, Some, None, length, drop, get_or, slice_get, drop-cons, refl, sym, ap, ◌∙◌, arith, add-one}
use Rattle.std.specs.Prelude.{cond, ◌==◌, ◌&&◌, ◌||◌, not, if◌then◌else◌}
use Rattle.std.specs.Option.{option_map}
use Rattle.std.proofs.Math.ListN.{drop_of_length-le}
use Rattle.bqn_syntax.specs.declared.progress.Progress.{Progress}
use Rattle.bqn_syntax.specs.declared.progress.Progress.TheVariants.{Start, Comment, Word, Digit, Dot}
use Rattle.bqn_syntax.specs.text.Table.{is_digit, is_name_start, is_word, within_word, next, is_final}
use Rattle.bqn_syntax.specs.text.Cut.{longest, one_more}
use Rattle.bqn_base.specs.Characters.{is_lower, is_upper}
use Rattle.bqn_base.specs.Names.{is_name_character as is_plain}
use Rattle.bqn_token.specs.Runs.{ends_word, line_extent, word_extent}
use Rattle.bqn_token.proofs.Scan.{after_state, longest-cons}
use Rattle.bqn_token.proofs.Alones.{no_digit, other}

line-at : (text : List ℕ) (i c : ℕ) → i < length text → c ≡ get_or text i c → line_extent (drop i text) ≡ cond (c == 10) 0 (suc (line_extent (drop (i + 1) text)))
line-at text i c lt at =
    ap (λ (t : List ℕ). line_extent t) (drop-cons text i c lt)
    ∙ ap (λ (x : ℕ). line_extent (x ∷ drop (suc i) text)) (sym at)
    ∙ ap (λ (k : ℕ). cond (c == 10) 0 (suc (line_extent (drop k text)))) (sym (add-one i))

pub line-more : (text : List ℕ) (i c : ℕ) → i < length text → c ≡ get_or text i c → (c ≡ 10 → ⊥) → line_extent (drop i text) ≡ suc (line_extent (drop (i + 1) text))
line-more text i c lt at n = line-at text i c lt at ∙ ap (λ (b : Bool). cond b 0 (suc (line_extent (drop (i + 1) text)))) (other c 10 n)

pub line-stop : (text : List ℕ) (i c : ℕ) → i < length text → c ≡ get_or text i c → c ≡ 10 → line_extent (drop i text) ≡ 0
line-stop text i c lt at is = line-at text i c lt at ∙ ap (λ (x : ℕ). cond (x == 10) 0 (suc (line_extent (drop (i + 1) text)))) is

pub line-end : (text : List ℕ) (i : ℕ) → length text ≤ i → line_extent (drop i text) ≡ 0
line-end text i le = ap (λ (t : List ℕ). line_extent t) (drop_of_length-le text le)

pub ruleset line_laws = (line-more, line-stop, line-end)

-- an extent behind so many characters
abbrev pub counted_on : ℕ → Option ℕ → Option ℕ
counted_on i None = None
counted_on i (Some n) = Some (i + n)

pub word-start : (text : List ℕ) → counted_on 0 (word_extent text) ≡ word_extent text
word-start text = go (word_extent text)
  where
    go : (o : Option ℕ) → counted_on 0 o ≡ o
    go None = refl
    go (Some n) = ap (λ (k : ℕ). Some k) (omega arith)

word-at : (text : List ℕ) (i c : ℕ) → i < length text → c ≡ get_or text i c → word_extent (drop i text) ≡ cond (is_word c) (option_map suc (word_extent (drop (i + 1) text))) (cond (c == 46) None (Some 0))
word-at text i c lt at =
    ap (λ (t : List ℕ). word_extent t) (drop-cons text i c lt)
    ∙ ap (λ (x : ℕ). word_extent (x ∷ drop (suc i) text)) (sym at)
    ∙ ap (λ (k : ℕ). cond (is_word c) (option_map suc (word_extent (drop k text))) (cond (c == 46) None (Some 0))) (sym (add-one i))

counted-more : (i : ℕ) (o : Option ℕ) → counted_on i (option_map suc o) ≡ counted_on (i + 1) o
counted-more i None = refl
counted-more i (Some n) = ap (λ (k : ℕ). Some k) (omega arith)

pub word-more : (text : List ℕ) (i c : ℕ) → i < length text → c ≡ get_or text i c → is_word c ≡ true → counted_on i (word_extent (drop i text)) ≡ counted_on (i + 1) (word_extent (drop (i + 1) text))
word-more text i c lt at word =
    ap (λ (o : Option ℕ). counted_on i o) (word-at text i c lt at ∙ ap (λ (b : Bool). cond b (option_map suc (word_extent (drop (i + 1) text))) (cond (c == 46) None (Some 0))) word)
    ∙ counted-more i (word_extent (drop (i + 1) text))

word-behind : (text : List ℕ) (i c : ℕ) → i < length text → c ≡ get_or text i c → is_word c ≡ false → counted_on i (word_extent (drop i text)) ≡ counted_on i (cond (c == 46) None (Some 0))
word-behind text i c lt at word = ap (λ (o : Option ℕ). counted_on i o) (word-at text i c lt at ∙ ap (λ (b : Bool). cond b (option_map suc (word_extent (drop (i + 1) text))) (cond (c == 46) None (Some 0))) word)

pub word-dot : (text : List ℕ) (i c : ℕ) → i < length text → c ≡ get_or text i c → is_word c ≡ false → c ≡ 46 → counted_on i (word_extent (drop i text)) ≡ None
word-dot text i c lt at word dot = word-behind text i c lt at word ∙ ap (λ (x : ℕ). counted_on i (cond (x == 46) None (Some 0))) dot

pub word-stop : (text : List ℕ) (i c : ℕ) → i < length text → c ≡ get_or text i c → is_word c ≡ false → (c ≡ 46 → ⊥) → counted_on i (word_extent (drop i text)) ≡ Some i
word-stop text i c lt at word n =
    let same : i + 0 ≡ i = omega arith in
    word-behind text i c lt at word ∙ ap (λ (b : Bool). counted_on i (cond b None (Some 0))) (other c 46 n) ∙ ap (λ (k : ℕ). Some k) same

pub word-end : (text : List ℕ) (i : ℕ) → length text ≤ i → counted_on i (word_extent (drop i text)) ≡ Some i
word-end text i le =
    let same : i + 0 ≡ i = omega arith in
    ap (λ (t : List ℕ). counted_on i (word_extent t)) (drop_of_length-le text le) ∙ ap (λ (k : ℕ). Some k) same

pub ruleset word_laws = (word-start, word-more, word-dot, word-stop, word-end)

-- a piece that may end after each of so many characters
abbrev some_more : ℕ → Option ℕ
some_more zero = None
some_more (suc n) = Some (suc n)

one_more-some : (n : ℕ) → one_more true (some_more n) ≡ Some (suc n)
one_more-some zero = refl
one_more-some (suc n) = refl

comment : (cs : List ℕ) → longest Comment cs ≡ some_more (line_extent cs)
comment [] = refl
comment (c ∷ cs) = at (c == 10) (comment cs)
  where
    at : (feed : Bool) → longest Comment cs ≡ some_more (line_extent cs)
        → (elim (if feed then None else Some Comment) as (λ _. Option ℕ) [ None ↦ None | Some after ↦ one_more (is_final after) (longest after cs) ]) ≡ some_more (cond feed 0 (suc (line_extent cs)))
    at true e = refl
    at false e = ap (λ (o : Option ℕ). one_more true o) e ∙ one_more-some (line_extent cs)

pub comment-longest : (text : List ℕ) → slice_get text 0 ≡ Some 35 → longest Start text ≡ Some (line_extent text)
comment-longest [] e = cc
comment-longest (c ∷ cs) e =
    let hash : c ≡ 35 = cc in
    ap (λ (x : ℕ). longest Start (x ∷ cs)) hash ∙ ap (λ (o : Option ℕ). one_more true o) (comment cs) ∙ one_more-some (line_extent cs) ∙ ap (λ (x : ℕ). Some (line_extent (x ∷ cs))) (sym hash)

-- the state behind a character of a word, which is a digit or is none
abbrev behind_digit : Bool → Progress
behind_digit true = Digit
behind_digit false = Word

within : (digit word : Bool) → (word ≡ false → digit ≡ false) → (if digit then Some Digit else if word then Some Word else None) ≡ cond word (Some (behind_digit digit)) None
within true true h = refl
within true false h = let never = h refl in cc
within false true h = refl
within false false h = refl

within_word-is : (c : ℕ) → within_word c ≡ cond (is_word c) (Some (behind_digit (is_digit c))) None
within_word-is c = within (is_digit c) (is_word c) (no_digit (is_name_start c) (is_digit c) (c == 175) (c == 8734) (c == 960))

next-word : (digit : Bool) (c : ℕ) → (c == 46) ≡ false → next (behind_digit digit) c ≡ within_word c
next-word true c e = ap (λ (b : Bool). if b then Some Dot else within_word c) e
next-word false c e = refl

word-no_dot : (c : ℕ) → is_word c ≡ true → (c == 46) ≡ false
word-no_dot c word = other c 46 (λ is. let never : true ≡ false = sym word ∙ ap (λ (x : ℕ). is_word x) is in cc)

word-after : (digit : Bool) (cs : List ℕ) (n : ℕ) → longest (behind_digit digit) cs ≡ some_more n → after_state (Some (behind_digit digit)) cs ≡ Some (suc n)
word-after true cs n e = ap (λ (o : Option ℕ). one_more true o) e ∙ one_more-some n
word-after false cs n e = ap (λ (o : Option ℕ). one_more true o) e ∙ one_more-some n

in-word : (digit : Bool) (cs : List ℕ) (n : ℕ) → word_extent cs ≡ Some n → longest (behind_digit digit) cs ≡ some_more n
in-word true [] n e = let same : 0 ≡ n = cc in ap (λ (k : ℕ). some_more k) same
in-word false [] n e = let same : 0 ≡ n = cc in ap (λ (k : ℕ). some_more k) same
in-word digit (c ∷ cs) n e = at (is_word c) refl (word_extent cs) (λ d m f. in-word d cs m f) e
  where
    stop : (dot : Bool) → (c == 46) ≡ dot → is_word c ≡ false → cond dot None (Some 0) ≡ Some n → longest (behind_digit digit) (c ∷ cs) ≡ some_more n
    stop true d w e = let never : None ≡ Some n = e in cc
    stop false d w e =
        let same : 0 ≡ n = cc in
        longest-cons (behind_digit digit) c cs
        ∙ ap (λ (r : Option Progress). after_state r cs) (next-word digit c d ∙ within_word-is c ∙ ap (λ (b : Bool). cond b (Some (behind_digit (is_digit c))) None) w)
        ∙ ap (λ (k : ℕ). some_more k) same

    at : (word : Bool) → is_word c ≡ word → (o : Option ℕ) → ((d : Bool) (m : ℕ) → o ≡ Some m → longest (behind_digit d) cs ≡ some_more m)
        → cond word (option_map suc o) (cond (c == 46) None (Some 0)) ≡ Some n → longest (behind_digit digit) (c ∷ cs) ≡ some_more n
    at true w None rest e = let never : None ≡ Some n = e in cc
    at true w (Some m) rest e =
        let same : suc m ≡ n = cc in
        longest-cons (behind_digit digit) c cs
        ∙ ap (λ (r : Option Progress). after_state r cs) (next-word digit c (word-no_dot c w) ∙ within_word-is c ∙ ap (λ (b : Bool). cond b (Some (behind_digit (is_digit c))) None) w)
        ∙ word-after (is_digit c) cs m (rest (is_digit c) m refl)
        ∙ ap (λ (k : ℕ). some_more k) same
    at false w o rest e = stop (c == 46) refl w e

first-word : (digit word : Bool) (r : Option Progress) → word ≡ true → (if digit then Some Digit else if word then Some Word else r) ≡ Some (behind_digit digit)
first-word true true r e = refl
first-word false true r e = refl
first-word digit false r e = cc

pub word-longest : (text : List ℕ) (count : ℕ) → word_extent text ≡ Some count → 0 < count → longest Start text ≡ Some count
word-longest [] count e lt = let same : 0 ≡ count = cc in absurd (omega arith)
word-longest (c ∷ cs) count e lt = at (is_word c) refl (word_extent cs) refl e
  where
    at : (word : Bool) → is_word c ≡ word → (o : Option ℕ) → word_extent cs ≡ o → cond word (option_map suc o) (cond (c == 46) None (Some 0)) ≡ Some count → longest Start (c ∷ cs) ≡ Some count
    at true w None f e = let never : None ≡ Some count = e in cc
    at true w (Some m) f e =
        let same : suc m ≡ count = cc in
        longest-cons Start c cs
        ∙ ap (λ (r : Option Progress). after_state r cs) (first-word (is_digit c) (is_word c) _ w)
        ∙ word-after (is_digit c) cs m (in-word (is_digit c) cs m f)
        ∙ ap (λ (k : ℕ). Some k) same
    at false w o f e = stop (c == 46) e
      where
        stop : (dot : Bool) → cond dot None (Some 0) ≡ Some count → longest Start (c ∷ cs) ≡ Some count
        stop true e = let never : None ≡ Some count = e in cc
        stop false e = let same : 0 ≡ count = cc in absurd (omega arith)

pub ruleset piece_laws = (comment-longest, word-longest)

pub ends-none : (text : List ℕ) → slice_get text 0 ≡ None → ends_word text ≡ true
ends-none [] e = refl
ends-none (c ∷ cs) e = cc

pub ends-at : (text : List ℕ) (c : ℕ) → slice_get text 0 ≡ Some c → ends_word text ≡ (not (is_word c) && not (c == 46))
ends-at [] c e = cc
ends-at (d ∷ ds) c e = let same : d ≡ c = cc in ap (λ (x : ℕ). not (is_word x) && not (x == 46)) same

pub ruleset end_laws = (ends-none, ends-at)

short-if : (l u d under r a b e : Bool) → (l || d) ≡ true → (l || u || under || r || d || a || b || e) ≡ true
short-if true u d under r a b e is = refl
short-if false true true under r a b e is = refl
short-if false false true true r a b e is = refl
short-if false false true false true a b e is = refl
short-if false false true false false a b e is = refl
short-if false u false under r a b e is = cc

ends-extent : (text : List ℕ) → ends_word text ≡ true → word_extent text ≡ Some 0
ends-extent [] e = refl
ends-extent (c ∷ cs) e = at (is_word c) (c == 46) e
  where
    at : (word dot : Bool) → (not word && not dot) ≡ true → cond word (option_map suc (word_extent cs)) (cond dot None (Some 0)) ≡ Some 0
    at false false e = refl
    at false true e = cc
    at true dot e = cc

-- a word of one character is the longest piece
pub short-longest : (c : ℕ) (text : List ℕ) → is_plain c ≡ true → ends_word text ≡ true → longest Start (c ∷ text) ≡ Some 1
short-longest c text plain ends =
    let word : is_word c ≡ true = short-if (is_lower c) (is_upper c) (is_digit c) (c == 95) (c == 120163) (c == 175) (c == 8734) (c == 960) plain in
    let extent : word_extent (c ∷ text) ≡ Some 1 =
    ap (λ (b : Bool). cond b (option_map suc (word_extent text)) (cond (c == 46) None (Some 0))) word ∙ ap (λ (o : Option ℕ). option_map suc o) (ends-extent text ends) in
    word-longest (c ∷ text) 1 extent (omega arith)
