-- What is kept between codes is sound for the codes so far.
use Rattle.std.proofs.Common.{◌≡◌, ◌∙◌, ℕ, zero, suc, ◌+◌, ◌-◌, ◌≤◌, List, [], ◌∷◌, ◌++◌, map, length, replicate, Option, Some, None, false, ◌&&◌, nat_eq, Ok, Err, IsTrue, slice_get, refl, subst, sym, ap, arith, All}
use Rattle.std.proofs.lemmas.List.{length-append, length-replicate}
use Rattle.bqn_rows.specs.Plain.{Value}
use Rattle.bqn_rows.specs.Running.{Gives, Ends}
use Rattle.bqn_syntax.specs.declared.tree.Class.TheVariants as class
use Rattle.bqn_meaning.specs.Actions.{◌>>=◌}
use Rattle.bqn_meaning.specs.Meaning.{Ending, NextBody, EndsWith}
use Rattle.bqn_code.specs.declared.code.Block.{Block}
use Rattle.bqn_code.specs.declared.code.Body.{Body}
use Rattle.bqn_code.specs.Plain.{Code}
use Rattle.bqn_code.specs.Numbering.{Table, BodyAt, joined, behind, placed_blocks, placed_body, placed_bodies, with_code, with_codes, table_of}
use Rattle.bqn_code.specs.Verified.{Verified}
use Rattle.bqn_code.specs.Conditions as is
use Rattle.bqn_execution.specs.States.{Environment, State, Spends, Sticks, Ran}
use Rattle.bqn_execution.specs.Execution as e
use Rattle.bqn_execution.specs.Programs.{Kept, fresh, slots_in, widened, begun, top_frame, top_answer, run_top, run_all, codes_with, state_of, exec_within, final, kept_in}
use Rattle.bqn_execution.specs.Soundness.{Each, body_at, Good, GoodIfAny, GoodEnding, GivenCallsKeep, Made, SoundEnvironment, Sound, Keeps, Standing}
use Rattle.bqn_execution.specs.Formed.{program_slots, top_slots, widest, Names, FormedTable, SoundKept, ProgramKeeps, VerifiedCodeFindsWhatItNames}
use Rattle.bqn_execution.proofs.Sure.{no, and_right}
use Rattle.bqn_execution.proofs.SoundTables.{joined_front}
use Rattle.bqn_execution.proofs.GoodValues.{same, any_later, each_moves}
use Rattle.bqn_execution.proofs.SoundStates.{each_append, each_same}
use Rattle.bqn_execution.proofs.Keeping.{Envs, Safe, bind_safe, pure_safe}
use Rattle.bqn_execution.proofs.RunsKeep.{exec_safe}
use Rattle.bqn_execution.proofs.CallsKeep.{each_placed, stepped_safe, runs_safe}
use Rattle.bqn_execution.proofs.FormedCodes.{verified_formed}
use Rattle.bqn_execution.proofs.LookingUp.{looks_up}
use Rattle.bqn_execution.proofs.GivenCalls.{called_system_fine}

-- ---- a further code

with_codes_append : (t : Table) (cs : List Code) (c : Code) → with_codes t (cs ++ c ∷ []) ≡ with_code (with_codes t cs) c
with_codes_append t [] c = refl
with_codes_append t (d ∷ cs) c = with_codes_append (with_code t d) cs c

widest_append : (cs : List Code) (c : Code) (n : ℕ) → widest cs ≤ n → top_slots c.blocks ≤ n → widest (cs ++ c ∷ []) ≤ n
widest_append [] c n h k = omega arith
widest_append (d ∷ cs) c n h k = let l : widest (cs ++ c ∷ []) ≤ n = widest_append cs c n (omega arith) k in omega arith

stays : {A : Type 0} (old new : List A) (k : ℕ) (x : A) → slice_get old (suc k) ≡ Some x → slice_get (joined old new) (suc k) ≡ Some x
stays old new k x h = subst (λ n. slice_get (joined old new) n ≡ Some x) (omega arith) (joined_front old new 0 k x (subst (λ n. slice_get old n ≡ Some x) (omega arith) h))

-- the top body of a program is the first of the table
top_is : (t : Table) (code : Code) → Verified code → slots_in (slice_get (with_code t code).bodies 0) ≡ top_slots code.blocks
top_is t code v = by code.blocks v.program
  where
    first : (old new : List BodyAt) (y : BodyAt) → slice_get (joined old (y ∷ new)) 0 ≡ Some y
    first [] new y = refl
    first (x ∷ old) new y = refl

    of_bodies : (b : Block) (bodies : List Body) (rest : List BodyAt) → IsTrue (is.is_only_body bodies) → slots_in (slice_get (joined t.bodies (map (placed_body (behind t code) b) bodies ++ rest)) 0) ≡ program_slots bodies
    of_bodies b [] rest h = absurd (no h)
    of_bodies b (body ∷ []) rest h = ap slots_in (first t.bodies rest (placed_body (behind t code) b body))
    of_bodies b (body ∷ (other ∷ bodies)) rest h = absurd (no h)

    by : (bs : List Block) → IsTrue (elim bs [ [] ↦ false | block ∷ others ↦ is.is_immediate block.class && (nat_eq block.parent 0 && is.is_only_body block.bodies) ]) →
        slots_in (slice_get (joined t.bodies (placed_bodies (behind t code) bs)) 0) ≡ top_slots bs
    by [] h = absurd (no h)
    by (b ∷ bs) h = of_bodies b b.bodies (placed_bodies (behind t code) bs) (and_right (nat_eq b.parent 0) _ (and_right (is.is_immediate b.class) _ h))

widened_body : (v : Table) (es : List Environment) (n : ℕ) → body_at (map (widened v) es) n ≡ body_at es n
widened_body v [] n = refl
widened_body v (e ∷ es) zero = refl
widened_body v (e ∷ es) (suc n) = widened_body v es n

each_over : {A B : Type 0} (P : A → Type 0) (Q : B → Type 0) (g : A → B) (xs : List A) → ((x : A) → P x → Q (g x)) → Each P xs → Each Q (map g xs)
each_over P Q g [] h e = tt
each_over P Q g (x ∷ xs) h e = (h x e.0, each_over P Q g xs h e.1)

module _ (t : Table) (code : Code) (verified : Verified code) (top wide : ℕ) (enough : (n : ℕ) → top ≤ n → top_slots code.blocks ≤ n → wide ≤ n) (es : List Environment) where
  abbrev next : Table
  next = with_code t code

  abbrev widened_all : List Environment
  widened_all = map (widened next) es

  longer : (e : Environment) (n : ℕ) → length e.variables ≤ length (widened next e).variables
  longer e n = let q : length (e.variables ++ replicate {A = Option Value} (slots_in (slice_get next.bodies e.body) - length e.variables) None) ≡ length e.variables + length (replicate {A = Option Value} (slots_in (slice_get next.bodies e.body) - length e.variables) None) = length-append e.variables _ in omega arith

  all_slots : (e : Environment) → slots_in (slice_get next.bodies e.body) ≤ length (widened next e).variables
  all_slots e = by (slots_in (slice_get next.bodies e.body))
    where
      by : (n : ℕ) → n ≤ length (e.variables ++ replicate {A = Option Value} (n - length e.variables) None)
      by n = let q : length (e.variables ++ replicate {A = Option Value} (n - length e.variables) None) ≡ length e.variables + length (replicate {A = Option Value} (n - length e.variables) None) = length-append e.variables _ in
          let r : length (replicate {A = Option Value} (n - length e.variables) None) ≡ n - length e.variables = length-replicate (n - length e.variables) None in omega arith

  made_begun : (e : Environment) (b : ℕ) → e.body ≡ b → Made t top es e b → Made next wide widened_all (widened next e) b
  made_begun e zero q m = enough _ (le m (longer e 0)) (subst (λ n. n ≤ length (widened next e).variables) (ap (λ b. slots_in (slice_get next.bodies b)) q ∙ top_is t code verified) (all_slots e))
    where
      le : {a b c : ℕ} → a ≤ b → b ≤ c → a ≤ c
      le h k = omega arith
  made_begun e (suc b) q m = record {
    body = m.body;
    is_body = subst (λ n. slice_get next.bodies n ≡ Some m.body) (sym q) (stays t.bodies (placed_bodies (behind t code) code.blocks) b m.body (subst (λ n. slice_get t.bodies n ≡ Some m.body) q m.is_body));
    width = le m.body.body.slots (length e.variables) (length (widened next e).variables) m.width (longer e 0);
    parent = widened_body next es e.parent ∙ m.parent;
  }
    where
      le : (a b c : ℕ) → a ≤ b → b ≤ c → a ≤ c
      le a b c h k = omega arith

  environment_begun : (e : Environment) → SoundEnvironment t top es e → SoundEnvironment next wide widened_all (widened next e)
  environment_begun e s = record {
    made = made_begun e e.body refl s.made;
    values = each_append (GoodIfAny next widened_all) e.variables _
        (each_moves t next es widened_all (stays t.blocks (placed_blocks (behind t code) 0 code.blocks)) (λ n b q. widened_body next es n ∙ q) e.variables s.values)
        (each_same (GoodIfAny next widened_all) (slots_in (slice_get next.bodies e.body) - length e.variables) None tt);
  }

  begun_sound : Sound t top es → Sound next wide widened_all
  begun_sound s = record {
    program = widened_body next es 0 ∙ s.program;
    environments = each_over (SoundEnvironment t top es) (SoundEnvironment next wide widened_all) (widened next) es environment_begun s.environments;
  }

-- ---- programs

first_sound : (steps : ℕ) → SoundKept (fresh steps)
first_sound steps = record { program = refl; environments = (record { made = omega arith; values = tt }, tt) }

module _ (t : Table) (top : ℕ) (args : Value) (room : ℕ) (formed : FormedTable t top) (given : GivenCallsKeep t) (args_good : Good t [] args) where
  top_safe : (es : Envs) (r : Ending) → GoodEnding t es r → Safe t top es (GoodIfAny t) (top_answer r)
  top_safe es NextBody g = λ s l h. (same s.environments, h)
  top_safe es (EndsWith p x) g = pure_safe t top es (GoodIfAny t) x (λ u l. any_later t es u l x g)

  program_keeps : (s : State) → Sound t top (begun t s).environments → Keeps t top (begun t s).environments (GoodIfAny t) (run_all t args room s)
  program_keeps s sound = by (slice_get t.bodies 0) refl
    where
      es : Envs
      es = (begun t s).environments

      standing : (y : BodyAt) → Standing t es (top_frame y)
      standing y = record { made = sound.program; block = λ h. absurd (no h); is_run_on = refl; operands = tt; arguments = tt }

      by : (o : Option BodyAt) → slice_get t.bodies 0 ≡ o → Keeps t top es (GoodIfAny t) (run_top t args room o s)
      by None q = tt
      by (Some y) q = stepped_safe t top es (GoodIfAny t) (e.exec t args (e.runs t args room) (top_frame y) (e.placed_code y.body) [] >>= top_answer)
          (bind_safe t top {A = Ending} {B = Option Value} es (GoodEnding t) (GoodIfAny t) (e.exec t args (e.runs t args room) (top_frame y) (e.placed_code y.body) []) top_answer
          (exec_safe t top args (e.runs t args room) (runs_safe t top args formed given args_good room) given args_good (top_frame y) (e.placed_code y.body) [] es (standing y)
          (each_placed (Names t top 0 y.here class.Immediate) y.body.code y.body.places (formed.program y q).code) tt) (λ u l r g. top_safe u r g))
          (begun t s) (same es) sound

kept_sound : (kept : Kept) (code : Code) (es : Envs) → SoundKept kept → (r : Ran (Option Value)) → Keeps (table_of (codes_with kept code)) (widest (codes_with kept code)) es (GoodIfAny (table_of (codes_with kept code))) r →
    SoundKept (kept_in kept code (final r))
kept_sound kept code es h (Gives (Ok x) s) k = k.1
kept_sound kept code es h (Gives (Err f) s) k = k.1
kept_sound kept code es h (Ends (Spends s)) k = k.1
kept_sound kept code es h (Ends (Sticks u)) k = h

programs_keep : (room : ℕ) (args : Value) (kept : Kept) (code : Code) → All Verified kept.codes → Verified code →
    GivenCallsKeep (table_of (codes_with kept code)) → Good (table_of (codes_with kept code)) [] args → SoundKept kept → ProgramKeeps room args kept code
programs_keep room args kept code all v given g s = from (program_keeps t (widest (codes_with kept code)) args room (verified_formed kept.codes code all v) given g (state_of kept) started)
  where
    t : Table
    t = table_of (codes_with kept code)

    started : Sound t (widest (codes_with kept code)) (map (widened t) kept.environments)
    started = subst (λ (z : Table). Sound z (widest (codes_with kept code)) (map (widened z) kept.environments)) (sym (with_codes_append (record { blocks = []; bodies = [] }) kept.codes code))
        (begun_sound (table_of kept.codes) code v (widest kept.codes) (widest (codes_with kept code)) (λ n. widest_append kept.codes code n) kept.environments s)

    from : Keeps t (widest (codes_with kept code)) (begun t (state_of kept)).environments (GoodIfAny t) (exec_within room args kept code) → ProgramKeeps room args kept code
    from k = record { run = k; behind = kept_sound kept code (begun t (state_of kept)).environments s (exec_within room args kept code) k }

pub verified_finds : VerifiedCodeFindsWhatItNames
verified_finds = record {
  of_tables = verified_formed;
  of_instructions = λ t top f i s h k n. looks_up t top f s h k i n;
  of_code = λ t top args room f code st s formed given g h k n a. exec_safe t top args (e.runs t args room) (runs_safe t top args formed given g room) given g f code st s.environments k n a s (same s.environments) h;
  of_calls = λ t top args room c s formed given g h f. runs_safe t top args formed given g room s.environments c f s (same s.environments) h;
  of_systems = called_system_fine;
  of_first = first_sound;
  of_programs = programs_keep;
}

pub ruleset finds_laws = (verified_finds)
