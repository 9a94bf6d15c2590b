-- The pass from the right, token by token.
use Rattle.std.proofs.Common.{◌≡◌, ◌≤◌, ◌+◌, ℕ, false, suc, List, [], ◌∷◌, ◌++◌, length, drop, get_or, drop-cons, sym, ap, ◌∙◌, arith, reverse, map}
use Rattle.std.proofs.Math.ListN.{drop_of_length-le}
use Rattle.std.proofs.lemmas.List.{reverse-append}
use Rattle.bqn_syntax.specs.declared.token.Token.{Token}
use Rattle.bqn_syntax.specs.declared.sort.Bracket.{Bracket}
use Rattle.bqn_syntax.specs.declared.sort.Sort.{Sort}
use Rattle.bqn_syntax.specs.declared.sort.Sort.TheVariants.{Opens}
use Rattle.bqn_syntax.specs.grammar.Sorts.{sort_of}
use Rattle.bqn_syntax.specs.grammar.Looks as plain
use Rattle.bqn_parse.specs.declared.looks.Ahead.{Ahead}
use Rattle.bqn_parse.specs.declared.looks.Looks.{Looks}
use Rattle.bqn_parse.specs.Looking.{ahead_shown, looks_shown, openings, stacked, with_opening}

pub reverse-snoc : {A : Type 0} (xs : List A) (x : A) → reverse (xs ++ x ∷ []) ≡ x ∷ reverse xs
reverse-snoc xs x = reverse-append xs (x ∷ [])

-- a bracket opens: what stands after it comes here
pub opens-shown : (sort : Sort) (b : Bracket) (old new : Looks) (behind : Ahead) → sort ≡ Opens b → ahead_shown behind ≡ plain.first_of (looks_shown old).outer
    → stacked new.outer.items ≡ plain.rest_of (looks_shown old).outer → ahead_shown new.here ≡ plain.ahead false behind.arrow behind.colon → looks_shown new ≡ plain.look sort (looks_shown old)
opens-shown sort b old new behind s first rest here =
    ap (λ (o : List plain.Ahead). plain.looks (ahead_shown new.here) o) rest
    ∙ ap (λ (h : plain.Ahead). plain.looks h (plain.rest_of (looks_shown old).outer)) (here ∙ ap (λ (a : plain.Ahead). plain.ahead false a.arrow a.colon) first)
    ∙ ap (λ (s : Sort). plain.look s (looks_shown old)) (sym s)

-- and what stands after it is found
pub opens-found : (sort : Sort) (b : Bracket) (first : plain.Ahead) (behind : Ahead) (old new : List Ahead) → sort ≡ Opens b → ahead_shown behind ≡ first → new ≡ old ++ behind ∷ []
    → stacked new ≡ with_opening sort first (stacked old)
opens-found sort b first behind old new s is e =
    ap stacked e
    ∙ ap (map ahead_shown) (reverse-snoc old behind)
    ∙ ap (λ (a : plain.Ahead). a ∷ stacked old) is
    ∙ ap (λ (s : Sort). with_opening s first (stacked old)) (sym s)

pub ruleset look_laws = (reverse-snoc)

-- the tokens from here on have been passed
pub record Passed (next : ℕ) (looks : Looks) (found : List Ahead) (tokens : List Token) : Type 0 where
  pub inside : next ≤ length tokens
  pub looks_is : looks_shown looks ≡ plain.looks_of (drop next tokens)
  pub found_is : stacked found ≡ openings (drop next tokens)

pub passed-start : (next : ℕ) (looks : Looks) (tokens : List Token) → next ≡ length tokens → looks_shown looks ≡ plain.looks (plain.ahead false false false) [] → Passed next looks [] tokens
passed-start next looks tokens at_end e =
    let none : drop next tokens ≡ [] = drop_of_length-le tokens (omega arith) in
    record {
      inside = omega arith;
      looks_is = e ∙ sym (ap plain.looks_of none);
      found_is = sym (ap openings none);
    }

one-more : (tokens : List Token) (next before : ℕ) (token : Token) → next ≡ before + 1 → next ≤ length tokens → token ≡ get_or tokens before token → drop before tokens ≡ token ∷ drop next tokens
one-more tokens next before token e inside is =
    drop-cons tokens before token (omega arith)
    ∙ ap (λ (first : Token). first ∷ drop (suc before) tokens) (sym is)
    ∙ ap (λ (n : ℕ). token ∷ drop n tokens) (let s : suc before ≡ next = omega arith in s)

pub passed-step : (next before : ℕ) (old new : Looks) (found more : List Ahead) (tokens : List Token) (token : Token)
    → Passed next old found tokens → next ≡ before + 1 → token ≡ get_or tokens before token
    → looks_shown new ≡ plain.look (sort_of token.kind) (looks_shown old)
    → stacked more ≡ with_opening (sort_of token.kind) (plain.first_of (looks_shown old).outer) (stacked found)
    → Passed before new more tokens
passed-step next before old new found more tokens token passed e is n f =
    let one = one-more tokens next before token e passed.inside is in
    record {
      inside = let i = passed.inside in omega arith;
      looks_is = n ∙ ap (plain.look (sort_of token.kind)) passed.looks_is ∙ sym (ap plain.looks_of one);
      found_is = f
          ∙ ap (λ (l : plain.Looks). with_opening (sort_of token.kind) (plain.first_of l.outer) (stacked found)) passed.looks_is
          ∙ ap (with_opening (sort_of token.kind) (plain.behind_group (drop next tokens))) passed.found_is
          ∙ sym (ap openings one);
    }

pub passed-end : (next : ℕ) (looks : Looks) (found : List Ahead) (tokens : List Token) → Passed next looks found tokens → next ≤ 0 → stacked found ≡ openings tokens
passed-end next looks found tokens passed none = passed.found_is ∙ ap (λ (n : ℕ). openings (drop n tokens)) (let z : next ≡ 0 = omega arith in z)

pub ruleset aheads_laws = (passed-start, passed-step, passed-end)
