-- What is walked to statements is spelled by them, and they are well.
use Rattle.std.proofs.Common.{◌≡◌, ◌≤◌, ◌+◌, ℕ, suc, List, [], ◌∷◌, length, Result, Ok, Err, refl, subst, arith}
use Rattle.bqn_base.specs.declared.place.Place.{Place}
use Rattle.bqn_base.specs.declared.refusal.Refusal.{Refusal}
use Rattle.bqn_syntax.specs.declared.token.Token.{Token}
use Rattle.bqn_syntax.specs.declared.sort.Sort.{Sort}
use Rattle.bqn_syntax.specs.declared.sort.Sort.TheVariants.{Opens, Closes, Separates, Draws, Joins, Selects, Ends, Heads, Asks, Skips, Stands}
use Rattle.bqn_syntax.specs.declared.sort.Inside.{Inside}
use Rattle.bqn_syntax.specs.declared.sort.Inside.TheVariants as inside
use Rattle.bqn_syntax.specs.grammar.Sorts.{sort_of}
use Rattle.bqn_syntax.specs.grammar.Brackets.{partners_of}
use Rattle.bqn_syntax.specs.grammar.Looks.{Ahead, Looks, first_of, rest_of, look, looks_of, behind_group}
use Rattle.bqn_syntax.specs.grammar.Items.{OfPart, Standing, Drawn, Joining, Selecting}
use Rattle.bqn_syntax.specs.grammar.Parsing.{OpenBracket, OpenBrackets, open_brackets, fresh, ended, step, nowhere, program_of, walk}
use Rattle.bqn_syntax.specs.grammar.Spells.{done, no_more, Spells}
use Rattle.bqn_syntax.specs.grammar.Well.{stmts_depth}
use Rattle.bqn_syntax.specs.grammar.Grammar.{WellSpelled, OnlyWellTreesAreFound}
use Rattle.bqn_syntax.specs.grammar.Trees.{Leaf, Nothing, Stmts, stmts}
use Rattle.bqn_grammar.proofs.sound.OpenBrackets.{Pieces, Within, WithinAt, literals_in, Around, State, Ended}
use Rattle.bqn_grammar.proofs.sound.Ends.{ended_only}
use Rattle.bqn_grammar.proofs.sound.Steps.{Stepped, taken_step, leaf_spelling, skip_spelling, drawn_spelling, joins_spelling, selects_spelling, separated_step}
use Rattle.bqn_grammar.proofs.sound.Brackets.{fresh_at, opened_step, closed_step}
use Rattle.bqn_grammar.proofs.sound.Bodies.{semicolon_step, question_step, colon_step}
use Rattle.bqn_grammar.proofs.sound.Room.{walked, walk_within}

step_only : (ps : Pieces) (all : List Token) (n : ℕ) (s : Sort) (l : Looks) (t : Token) (rest : List Token) (so next : OpenBrackets) → sort_of t.kind ≡ s → WithinAt s (Within rest) n → State all n (look s l) so (t ∷ rest) → step s (first_of l.outer) t (t ∷ rest) so ≡ Ok next → Stepped all l next rest
step_only ps all n (Opens b) l t rest so next e room st h = opened_step all n b l so next st.start t rest e room st.at st.around h
step_only ps all n (Closes b) l t rest so next e room st h = closed_step ps all n b l so next st.start t rest t.place e st.at st.around h
step_only ps all n Separates l t rest so next e room st h = separated_step ps all n so.inner.inside l so next st.start t rest t.place refl e room st.at st.around h
step_only ps all n Ends l t rest so next e room st h = semicolon_step ps all n so.inner.inside l so next st.start t rest t.place refl e room st.at st.around h
step_only ps all n Asks l t rest so next e room st h = question_step ps all n so.inner.inside l so next st.start t rest t.place refl e room st.at st.around h
step_only ps all n Heads l t rest so next e room st h = colon_step ps all n so.inner.inside l so next st.start t rest t.place refl e room st.at st.around h
step_only ps all n (Draws a) l t rest so next e room st h = taken_step all n l.here.colon l so next st.start t rest (Drawn a) st.at refl st.around (drawn_spelling n (literals_in so.inner.inside l.here.colon) a t rest e) h
step_only ps all n Joins l t rest so next e room st h = taken_step all n l.here.colon l so next st.start t rest Joining st.at refl st.around (joins_spelling n (literals_in so.inner.inside l.here.colon) t rest e) h
step_only ps all n Selects l t rest so next e room st h = taken_step all n l.here.colon l so next st.start t rest Selecting st.at refl st.around (selects_spelling n (literals_in so.inner.inside l.here.colon) t rest e) h
step_only ps all n Skips l t rest so next e room st h = taken_step all n l.here.colon l so next st.start t rest (Standing (OfPart (Nothing t.place))) st.at refl st.around (skip_spelling n (literals_in so.inner.inside l.here.colon) t rest e) h
step_only ps all n Stands l t rest so next e room st h = taken_step all n l.here.colon l so next st.start t rest (Standing (OfPart (Leaf t))) st.at refl st.around (leaf_spelling n (literals_in so.inner.inside l.here.colon) t rest e) h

-- The end.

program_ok : (outer : List OpenBracket) (r : Result OpenBracket Refusal) (ss : Stmts) → program_of outer r ≡ Ok ss → (outer ≡ []) × ((l : OpenBracket) × (r ≡ Ok l) × (stmts l.statements ≡ ss))
program_ok [] (Ok l) ss h = (refl, (l, refl, (cc)))
program_ok (around ∷ outer) (Ok l) ss h = absurd (cc)
program_ok [] (Err r) ss h = absurd (cc)
program_ok (around ∷ outer) (Err r) ss h = absurd (cc)

program_only : (n : ℕ) (l : OpenBracket) (all start : List Token) → n ≡ 128 → start ≡ all → Ended n inside.Program l start [] → WellSpelled (stmts l.statements) all
program_only n l all start n_is start_is d =
    record {
      well = record { statements = d.kept.statements; depth = subst (λ (m : ℕ). stmts_depth (stmts l.statements) ≤ m) n_is d.kept.statements_depth };
      spells = subst (λ (ts : List Token). Spells (stmts l.statements) ts) start_is (d.last [] (no_more done));
    }

end_only : (ps : Pieces) (all : List Token) (n : ℕ) (so : OpenBrackets) (ss : Stmts) → State all n (looks_of []) so [] → program_of so.outer (ended nowhere so.inner) ≡ Ok ss → WellSpelled ss all
end_only ps all n so ss st h =
    let p = program_ok so.outer (ended nowhere so.inner) ss h in
    let a = subst (λ (outer : List OpenBracket). Around all n [] so.inner.inside so.inner.opened outer st.start) p.0 st.around in
    let f = ended_only ps n so.inner p.1.0 st.start [] nowhere st.at p.1.1 in
    subst (λ (y : Stmts). WellSpelled y all) p.1.2 (program_only n p.1.0 all st.start a.1 a.2 (subst (λ (i : Inside). Ended n i p.1.0 st.start []) a.0 f.ended))

-- so many brackets may still open as those around allow
around_count : (all : List Token) (n : ℕ) (ahead : List Ahead) (i : Inside) (place : Place) (outer : List OpenBracket) (start : List Token) → Around all n ahead i place outer start → n + length outer ≡ 128
around_count all n ahead i place [] start a = let e = a.1 in omega arith
around_count all n ahead i place (around ∷ outer) start a = let e = around_count all (suc n) (rest_of ahead) around.inside around.opened outer a.0 a.2 in omega arith

pub walk_only : (ps : Pieces) (all : List Token) (tokens : List Token) (n : ℕ) (so : OpenBrackets) (ss : Stmts) → State all n (looks_of tokens) so tokens → walk so tokens ≡ Ok ss → WellSpelled ss all
walk_only ps all [] n so ss st h = end_only ps all n so ss st h
walk_only ps all (t ∷ tokens) n so ss st h =
    let w = walked tokens ss (step (sort_of t.kind) (behind_group tokens) t (t ∷ tokens) so) h in
    let room = walk_within (t ∷ tokens) so n ss h (around_count all n (looks_of (t ∷ tokens)).outer so.inner.inside so.inner.opened so.outer st.start st.around) in
    let next = step_only ps all n (sort_of t.kind) (looks_of tokens) t tokens so w.0 refl room st w.1 in
    walk_only ps all tokens next.room w.0 ss next.state w.2

start_state : (tokens : List Token) → Within tokens 128 → State tokens 128 (looks_of tokens) (open_brackets (fresh inside.Program nowhere) []) tokens
start_state tokens room = record { start = tokens; at = fresh_at 128 (looks_of tokens).here.colon inside.Program nowhere tokens room; around = (refl, refl, refl) }

pub program_walk : (ps : Pieces) (tokens : List Token) (ss : Stmts) → walk (open_brackets (fresh inside.Program nowhere) []) tokens ≡ Ok ss → WellSpelled ss tokens
program_walk ps tokens ss h = walk_only ps tokens tokens 128 (open_brackets (fresh inside.Program nowhere) []) ss (start_state tokens (walk_within tokens (open_brackets (fresh inside.Program nowhere) []) 128 ss h refl)) h

parsed_ok : (r : Result (List ℕ) Refusal) (found : Result Stmts Refusal) (ss : Stmts) → elim r as (λ _. Result Stmts Refusal) [ Ok partners ↦ found | Err x ↦ Err x ] ≡ Ok ss → found ≡ Ok ss
parsed_ok (Ok partners) found ss h = h
parsed_ok (Err r) found ss h = absurd (cc)

pub parsed_only : Pieces → OnlyWellTreesAreFound
parsed_only ps ss tokens h = program_walk ps tokens ss (parsed_ok (partners_of tokens) (walk (open_brackets (fresh inside.Program nowhere) []) tokens) ss h)
