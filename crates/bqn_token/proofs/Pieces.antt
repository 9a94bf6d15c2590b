-- The tokens of a text, piece by piece.
use Rattle.std.proofs.Common.{◌≡◌, ◌≤◌, ◌+◌, ◌-◌, ℕ, zero, suc, List, [], ◌∷◌, ◌++◌, Bool, true, false, Option, Some, None, Result, Ok, Err, length, take, drop, slice_get, refl, sym, ap, ◌∙◌, arith, append_assoc}
use Rattle.std.specs.Prelude.{◌==◌, if◌then◌else◌}
use Rattle.std.proofs.lemmas.List.{append-nil}
use Rattle.bqn_base.specs.declared.place.Place.{Place}
use Rattle.bqn_base.specs.declared.refusal.Refusal.{Refusal}
use Rattle.bqn_syntax.specs.declared.progress.Progress.{Progress}
use Rattle.bqn_syntax.specs.declared.progress.Progress.TheVariants.{Start, Done}
use Rattle.bqn_syntax.specs.declared.token.Kind.{Kind}
use Rattle.bqn_syntax.specs.declared.token.Token.{Token}
use Rattle.bqn_syntax.specs.text.Table.{is_piece}
use Rattle.bqn_syntax.specs.text.Cut.{longest, one_more}
use Rattle.bqn_syntax.specs.text.Text.{text_of}
use Rattle.bqn_syntax.specs.text.Tokens.{Trouble, refused_at, no_piece, kind_of, behind, past, with_kind, tokens_behind, tokens_of_text, tokens_of_source}
use Rattle.bqn_syntax.proofs.Longest.{longest-first}
use Rattle.bqn_token.specs.declared.error.TokenError.{TokenError}
use Rattle.bqn_token.specs.declared.error.TokenError.TheVariants.{Refused, Memory}
use Rattle.bqn_token.specs.Tokenizing.{Gives, Tokenizes, placed, token_at}
use Rattle.bqn_token.specs.Alones.{single_of, shown_alone}
use Rattle.bqn_base.specs.Names.{is_name_character as is_plain}
use Rattle.bqn_token.specs.Runs.{ends_word, is_short_word}
use Rattle.bqn_syntax.proofs.WordNames.{both-left, both-right}
use Rattle.bqn_token.proofs.Runs.{short-longest}
use Rattle.bqn_token.specs.declared.single.Alone.{Alone}
use Rattle.bqn_token.proofs.Alones.{single-done, kind-single}
use Rattle.bqn_token.proofs.Scan.{after_state, longest-cons}
use Rattle.bqn_token.proofs.Few.{given-few, given-fit, given-begin}

-- tokens in front of those that follow, or the refusal of what follows
abbrev pub onto : List Token → Result (List Token) Refusal → Result (List Token) Refusal
onto front (Ok tokens) = Ok (front ++ tokens)
onto front (Err r) = Err r

pub onto-nil : (r : Result (List Token) Refusal) → onto [] r ≡ r
onto-nil (Ok tokens) = refl
onto-nil (Err r) = refl

-- how far the longest piece reaches, and that it is one
pub longest-some : (text : List ℕ) (count : ℕ) → longest Start text ≡ Some count → 1 ≤ count
longest-some text count e = (longest-first text count e).some

pub longest-inside : (text : List ℕ) (count : ℕ) → longest Start text ≡ Some count → count ≤ length text
longest-inside text count e = (longest-first text count e).inside

pub longest-piece : (text : List ℕ) (count : ℕ) → longest Start text ≡ Some count → is_piece (take count text) ≡ true
longest-piece text count e = (longest-first text count e).piece

tokens_behind-drop : (count : ℕ) (place : Place) (text : List ℕ) → tokens_behind count place text ≡ tokens_behind 0 place (drop count text)
tokens_behind-drop zero place [] = refl
tokens_behind-drop zero place (c ∷ cs) = refl
tokens_behind-drop (suc count) place [] = refl
tokens_behind-drop (suc count) place (c ∷ cs) = tokens_behind-drop count place cs

abbrev tokens_with : Option ℕ → Place → ℕ → List ℕ → Result (List Token) Refusal
tokens_with None place c cs = Err (refused_at (no_piece c) place)
tokens_with (Some count) place c cs = with_kind (kind_of (take count (c ∷ cs))) place (tokens_behind (count - 1) (behind (take count (c ∷ cs)) place) cs)

tokens-cons : (place : Place) (c : ℕ) (cs : List ℕ) → tokens_behind 0 place (c ∷ cs) ≡ tokens_with (longest Start (c ∷ cs)) place c cs
tokens-cons place c cs = at (longest Start (c ∷ cs))
  where
    at : (count : Option ℕ) → (elim count as (λ _. Result (List Token) Refusal) [
      | None ↦ Err (refused_at (no_piece c) place)
      | Some n ↦ with_kind (kind_of (take n (c ∷ cs))) place (tokens_behind (n - 1) (behind (take n (c ∷ cs)) place) cs)
    ]) ≡ tokens_with count place c cs
    at None = refl
    at (Some n) = refl

rest-behind : (count : ℕ) (place : Place) (c : ℕ) (cs : List ℕ) → 1 ≤ count → tokens_behind (count - 1) place cs ≡ tokens_behind 0 place (drop count (c ∷ cs))
rest-behind zero place c cs some = absurd (omega arith)
rest-behind (suc count) place c cs some =
    let less : suc count - 1 ≡ count = omega arith in
    ap (λ (n : ℕ). tokens_behind n place cs) less ∙ tokens_behind-drop count place cs

tokens-piece : (place : Place) (text : List ℕ) (count : ℕ) → longest Start text ≡ Some count
    → tokens_behind 0 place text ≡ with_kind (kind_of (take count text)) place (tokens_behind 0 (behind (take count text) place) (drop count text))
tokens-piece place [] count e = cc
tokens-piece place (c ∷ cs) count e =
    tokens-cons place c cs
    ∙ ap (λ (n : Option ℕ). tokens_with n place c cs) e
    ∙ ap (λ (r : Result (List Token) Refusal). with_kind (kind_of (take count (c ∷ cs))) place r) (rest-behind count (behind (take count (c ∷ cs)) place) c cs (longest-some (c ∷ cs) count e))

placed-nothing : (place : Place) (k : Result (Option Kind) Trouble) (r : Result (List Token) Refusal) → placed place k ≡ Ok None → with_kind k place r ≡ r
placed-nothing place (Ok None) r e = refl
placed-nothing place (Ok (Some k)) r e = cc
placed-nothing place (Err trouble) r e = cc

onto-cons : (front : List Token) (token : Token) (k : Kind) (place : Place) (r : Result (List Token) Refusal) → token ≡ record { kind = k; place = place } → onto front (with_kind (Ok (Some k)) place r) ≡ onto (front ++ token ∷ []) r
onto-cons front token k place (Ok tokens) is =
    ap (λ (t : Token). Ok (front ++ t ∷ tokens)) (sym is) ∙ ap (λ (ts : List Token). Ok ts) (sym (append_assoc front (token ∷ []) tokens))
onto-cons front token k place (Err r) is = refl

placed-token : (front : List Token) (place : Place) (kind : Result (Option Kind) Trouble) (k : Kind) (r : Result (List Token) Refusal) → placed place kind ≡ Ok (Some k) → onto front (with_kind kind place r) ≡ onto (front ++ record { kind = k; place = place } ∷ []) r
placed-token front place (Ok None) k r e = cc
placed-token front place (Ok (Some j)) k r e =
    let same : j ≡ k = cc in
    ap (λ (i : Kind). onto front (with_kind (Ok (Some i)) place r)) same ∙ onto-cons front (record { kind = k; place = place }) k place r refl
placed-token front place (Err trouble) k r e = cc

placed-err : (place : Place) (kind : Result (Option Kind) Trouble) (refusal : Refusal) (r : Result (List Token) Refusal) → placed place kind ≡ Err refusal → with_kind kind place r ≡ Err refusal
placed-err place (Ok kind) refusal r e = cc
placed-err place (Err trouble) refusal r e = let same : refused_at trouble place ≡ refusal = cc in ap (λ (s : Refusal). Err s) same

pub tokens-nothing : (front : List Token) (place : Place) (text : List ℕ) (count : ℕ) → longest Start text ≡ Some count → placed place (kind_of (take count text)) ≡ Ok None
    → onto front (tokens_behind 0 place text) ≡ onto front (tokens_behind 0 (behind (take count text) place) (drop count text))
tokens-nothing front place text count e k =
    ap (λ (r : Result (List Token) Refusal). onto front r)
    (tokens-piece place text count e ∙ placed-nothing place (kind_of (take count text)) (tokens_behind 0 (behind (take count text) place) (drop count text)) k)

pub tokens-token : (front : List Token) (place : Place) (text : List ℕ) (count : ℕ) (k : Kind) → longest Start text ≡ Some count → placed place (kind_of (take count text)) ≡ Ok (Some k)
    → onto front (tokens_behind 0 place text) ≡ onto (front ++ record { kind = k; place = place } ∷ []) (tokens_behind 0 (behind (take count text) place) (drop count text))
tokens-token front place text count k e is =
    ap (λ (r : Result (List Token) Refusal). onto front r) (tokens-piece place text count e)
    ∙ placed-token front place (kind_of (take count text)) k (tokens_behind 0 (behind (take count text) place) (drop count text)) is

pub tokens-refused : (front : List Token) (place : Place) (text : List ℕ) (count : ℕ) (refusal : Refusal) → longest Start text ≡ Some count → placed place (kind_of (take count text)) ≡ Err refusal
    → onto front (tokens_behind 0 place text) ≡ Err refusal
tokens-refused front place text count refusal e is =
    ap (λ (r : Result (List Token) Refusal). onto front r)
    (tokens-piece place text count e ∙ placed-err place (kind_of (take count text)) refusal (tokens_behind 0 (behind (take count text) place) (drop count text)) is)

pub tokens-stuck : (front : List Token) (place : Place) (text : List ℕ) (c : ℕ) → slice_get text 0 ≡ Some c → longest Start text ≡ None
    → onto front (tokens_behind 0 place text) ≡ Err (refused_at (no_piece c) place)
tokens-stuck front place [] c at e = cc
tokens-stuck front place (d ∷ ds) c at e =
    let same : d ≡ c = cc in
    ap (λ (r : Result (List Token) Refusal). onto front r) (tokens-cons place d ds ∙ ap (λ (n : Option ℕ). tokens_with n place d ds) e)
    ∙ ap (λ (x : ℕ). Err (refused_at (no_piece x) place)) same

pub tokens-end : (front : List Token) (place : Place) (text : List ℕ) → slice_get text 0 ≡ None → onto front (tokens_behind 0 place text) ≡ Ok front
tokens-end front place [] e = ap (λ (ts : List Token). Ok ts) (append-nil front)
tokens-end front place (c ∷ cs) e = cc

-- an error at a piece is the error of the whole
pub error-at : (whole : Result (List Token) Refusal) (front : List Token) (place : Place) (text : List ℕ) (count : ℕ) (error : TokenError) → onto front (tokens_behind 0 place text) ≡ whole → longest Start text ≡ Some count
    → Gives (placed place (kind_of (take count text))) (Err error) → Tokenizes whole (Err error)
error-at whole front place text count (Refused r) same e is = sym same ∙ tokens-refused front place text count r e is
error-at whole front place text count Memory same e is = tt

-- the token of a piece, where it has one, stands before those that follow
pub tokens-step : (front : List Token) (place : Place) (text : List ℕ) (count : ℕ) (k : Option Kind) → longest Start text ≡ Some count → placed place (kind_of (take count text)) ≡ Ok k
    → onto (front ++ token_at k place) (tokens_behind 0 (behind (take count text) place) (drop count text)) ≡ onto front (tokens_behind 0 place text)
tokens-step front place text count None e is =
    ap (λ (ts : List Token). onto ts (tokens_behind 0 (behind (take count text) place) (drop count text))) (append-nil front) ∙ sym (tokens-nothing front place text count e is)
tokens-step front place text count (Some k) e is = sym (tokens-token front place text count k e is)

longest-done : (cs : List ℕ) → longest Done cs ≡ None
longest-done [] = refl
longest-done (c ∷ cs) = refl

-- the same of a character that is a piece by itself
pub tokens-alone : (front : List Token) (place : Place) (text : List ℕ) (c : ℕ) (cs : List ℕ) (a : Alone) → text ≡ c ∷ cs → single_of c ≡ Some a
    → onto (front ++ token_at (shown_alone a c) place) (tokens_behind 0 (past c place) cs) ≡ onto front (tokens_behind 0 place text)
tokens-alone front place text c cs a same is =
    let one : longest Start (c ∷ cs) ≡ Some 1 =
    longest-cons Start c cs ∙ ap (λ (r : Option Progress). after_state r cs) (single-done c a is) ∙ ap (λ (o : Option ℕ). one_more true o) (longest-done cs) in
    tokens-step front place (c ∷ cs) 1 (shown_alone a c) one (ap (λ (k : Result (Option Kind) Trouble). placed place k) (kind-single c [] a is))
    ∙ ap (λ (t : List ℕ). onto front (tokens_behind 0 place t)) (sym same)

-- a place grows by at most one line and one column with each character
pub line-behind : (piece : List ℕ) (place : Place) → (behind piece place).line ≤ place.line + length piece
line-behind [] place = omega arith
line-behind (c ∷ cs) place = at (c == 10) (λ p. line-behind cs p)
  where
    at : (feed : Bool) → ((p : Place) → (behind cs p).line ≤ p.line + length cs)
        → (behind cs (if feed then record { line = place.line + 1; column = 1 } else record { line = place.line; column = place.column + 1 })).line ≤ place.line + length (c ∷ cs)
    at true rest = let le = rest (record { line = place.line + 1; column = 1 }) in omega arith
    at false rest = let le = rest (record { line = place.line; column = place.column + 1 }) in omega arith

pub column-behind : (piece : List ℕ) (place : Place) → (behind piece place).column ≤ place.column + length piece
column-behind [] place = omega arith
column-behind (c ∷ cs) place = at (c == 10) (λ p. column-behind cs p)
  where
    at : (feed : Bool) → ((p : Place) → (behind cs p).column ≤ p.column + length cs)
        → (behind cs (if feed then record { line = place.line + 1; column = 1 } else record { line = place.line; column = place.column + 1 })).column ≤ place.column + length (c ∷ cs)
    at true rest = let le = rest (record { line = place.line + 1; column = 1 }) in omega arith
    at false rest = let le = rest (record { line = place.line; column = place.column + 1 }) in omega arith

pub line-behind-is : (piece : List ℕ) (place next : Place) → next ≡ behind piece place → next.line ≤ place.line + length piece
line-behind-is piece place next is = rw is (line-behind piece place)

pub column-behind-is : (piece : List ℕ) (place next : Place) → next ≡ behind piece place → next.column ≤ place.column + length piece
column-behind-is piece place next is = rw is (column-behind piece place)

pub line-past : (c : ℕ) (place next : Place) → next ≡ past c place → next.line ≤ place.line + 1
line-past c place next is = line-behind-is (c ∷ []) place next is

pub column-past : (c : ℕ) (place next : Place) → next ≡ past c place → next.column ≤ place.column + 1
column-past c place next is = column-behind-is (c ∷ []) place next is

-- the tokens of a text are the same before a piece and behind it
pub piece-kept : (whole : Result (List Token) Refusal) (front new : List Token) (place next : Place) (text piece rest : List ℕ) (count : ℕ) (k : Option Kind) → onto front (tokens_behind 0 place text) ≡ whole → longest Start text ≡ Some count
    → placed place (kind_of piece) ≡ Ok k → piece ≡ take count text → rest ≡ drop count text → new ≡ front ++ token_at k place → next ≡ behind piece place → onto new (tokens_behind 0 next rest) ≡ whole
piece-kept whole front new place next text piece rest count k same e is piece_is rest_is new_is next_is =
    ap (λ (p : Place). onto new (tokens_behind 0 p rest)) (next_is ∙ ap (λ (p : List ℕ). behind p place) piece_is)
    ∙ ap (λ (ts : List Token). onto ts (tokens_behind 0 (behind (take count text) place) rest)) new_is
    ∙ ap (λ (cs : List ℕ). onto (front ++ token_at k place) (tokens_behind 0 (behind (take count text) place) cs)) rest_is
    ∙ tokens-step front place text count k e (ap (λ (p : List ℕ). placed place (kind_of p)) (sym piece_is) ∙ is)
    ∙ same

pub alone-kept : (whole : Result (List Token) Refusal) (front new : List Token) (place next : Place) (text cs : List ℕ) (c : ℕ) (a : Alone) (k : Option Kind) → onto front (tokens_behind 0 place text) ≡ whole → text ≡ c ∷ cs → single_of c ≡ Some a
    → k ≡ shown_alone a c → new ≡ front ++ token_at k place → next ≡ past c place → onto new (tokens_behind 0 next cs) ≡ whole
alone-kept whole front new place next text cs c a k same parts is shown new_is next_is =
    ap (λ (p : Place). onto new (tokens_behind 0 p cs)) next_is
    ∙ ap (λ (ts : List Token). onto ts (tokens_behind 0 (past c place) cs)) (new_is ∙ ap (λ (k : Option Kind). front ++ token_at k place) shown)
    ∙ tokens-alone front place text c cs a parts is
    ∙ same

pub short-kept : (whole : Result (List Token) Refusal) (front new : List Token) (place next : Place) (text cs : List ℕ) (c : ℕ) (k : Kind) → onto front (tokens_behind 0 place text) ≡ whole → text ≡ c ∷ cs → is_short_word c cs ≡ true
    → kind_of (c ∷ []) ≡ Ok (Some k) → new ≡ front ++ token_at (Some k) place → next ≡ past c place → onto new (tokens_behind 0 next cs) ≡ whole
short-kept whole front new place next text cs c k same parts short kind new_is next_is =
    let longest : longest Start text ≡ Some 1 = ap (λ (t : List ℕ). longest Start t) parts ∙ short-longest c cs (both-left (is_plain c) (ends_word cs) short) (both-right (is_plain c) (ends_word cs) short) in
    piece-kept whole front new place next text (c ∷ []) cs 1 (Some k) same longest (ap (λ (r : Result (Option Kind) Trouble). placed place r) kind)
    (ap (λ (t : List ℕ). take 1 t) (sym parts)) (ap (λ (t : List ℕ). drop 1 t) (sym parts)) new_is next_is

pub tokens-ok : (bytes text : List ℕ) → text_of bytes ≡ Ok text → tokens_of_text text ≡ tokens_of_source bytes
tokens-ok bytes text e = sym (ap (λ (r : Result (List ℕ) Refusal). elim r as (λ _. Result (List Token) Refusal) [ Ok t ↦ tokens_of_text t | Err s ↦ Err s ]) e)

pub tokens-err : (bytes : List ℕ) (r : Refusal) → text_of bytes ≡ Err r → tokens_of_source bytes ≡ Err r
tokens-err bytes r e = ap (λ (r : Result (List ℕ) Refusal). elim r as (λ _. Result (List Token) Refusal) [ Ok t ↦ tokens_of_text t | Err s ↦ Err s ]) e

pub ruleset cut_laws = (onto-nil, longest-piece, tokens-stuck, tokens-end)

pub ruleset source_laws = (tokens-ok, tokens-err, given-few, given-fit, given-begin)
