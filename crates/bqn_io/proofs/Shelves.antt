-- What is told of a name, and how often it failed, by the place of its file.
use Rattle.std.proofs.Common.{◌≡◌, ◌<◌, ◌≤◌, ℕ, zero, suc, Bool, true, false, cond, nat_lt, Some, None, List, [], ◌∷◌, length, get_or, set, map, Vec, refl, ap, sym, subst, ◌∙◌, arith}
use Rattle.std.specs.List.{position, position_or_len}
use Rattle.std.specs.declared.alloc.Global.{Global}
use Rattle.std.proofs.Math.Path.{fun_ext}
use Rattle.std.proofs.lemmas.Bool.Decides.{nat_tests}
use Rattle.std.proofs.lemmas.List.Quantifiers.{position-Some}
use Rattle.std.proofs.lemmas.List.Sums.{fails_before_first}
use Rattle.bqn_io.specs.Devices.{Missing, Kept}
use Rattle.bqn_io.specs.States.{KeptFile, failed_once, faults_in, has_name, kept_file, one_more, told_in}

-- a file that no test reads, behind the end of a list
nothing : KeptFile
nothing = record { name = []; bytes = []; faults = 0 }

else_le : (b : Bool) (n old new : ℕ) → old ≤ new → cond b n old ≤ cond b n new
else_le true n old new h = omega arith
else_le false n old new h = h

then_le : (b : Bool) (n old new : ℕ) → old ≤ new → cond b old n ≤ cond b new n
then_le true n old new h = h
then_le false n old new h = omega arith

cond_same : (b : Bool) (n : ℕ) → n ≡ 0 → cond b 0 n ≡ 0
cond_same true n h = refl
cond_same false n h = h

none_below : (n m : ℕ) → cond (nat_lt n m) (Some n) None ≡ None → m ≤ n
none_below n m h = grind (arith, nat_tests)

-- no file has the name
abbrev NoneNamed : List ℕ → List KeptFile → Type 0
NoneNamed name files = (k : ℕ) → k < length files → has_name name (get_or files k nothing) ≡ false

none_named : (name : List ℕ) (files : List KeptFile) → position (has_name name) files ≡ None → NoneNamed name files
none_named name files h k below =
    let most : length files ≤ position_or_len (has_name name) files = none_below _ _ h in
    let less : k < position_or_len (has_name name) files = omega arith in
    fails_before_first (has_name name) files k nothing less

told_in-NoneNamed : (files : List KeptFile) (name : List ℕ) → NoneNamed name files → told_in files name ≡ Missing
told_in-NoneNamed [] name h = refl
told_in-NoneNamed (file ∷ files) name h = rw (h 0 (omega arith)) (told_in-NoneNamed files name (λ k p. h (suc k) (omega arith)))

faults_in-NoneNamed : (files : List KeptFile) (others : ℕ) (name : List ℕ) → NoneNamed name files → faults_in files others name ≡ others
faults_in-NoneNamed [] others name h = refl
faults_in-NoneNamed (file ∷ files) others name h = rw (h 0 (omega arith)) (faults_in-NoneNamed files others name (λ k p. h (suc k) (omega arith)))

pub told_in-none : (files : List KeptFile) (name : List ℕ) → position (has_name name) files ≡ None → told_in files name ≡ Missing
told_in-none files name h = told_in-NoneNamed files name (none_named name files h)

pub faults_in-none : (files : List KeptFile) (others : ℕ) (name : List ℕ) → position (has_name name) files ≡ None → faults_in files others name ≡ others
faults_in-none files others name h = faults_in-NoneNamed files others name (none_named name files h)

pub faults_in-more_others : (files : List KeptFile) (old new : ℕ) (name : List ℕ) → old ≤ new → faults_in files old name ≤ faults_in files new name
faults_in-more_others [] old new name h = h
faults_in-more_others (file ∷ files) old new name h = else_le (has_name name file) _ _ _ (faults_in-more_others files old new name h)

-- this is the first place of a file of the name
record IsPlace (name : List ℕ) (files : List KeptFile) (d : KeptFile) (i : ℕ) : Type 0 where
  inside : i < length files
  here : has_name name (get_or files i d) ≡ true
  none_before : (k : ℕ) → k < i → has_name name (get_or files k d) ≡ false

place_is : (name : List ℕ) (files : List KeptFile) (d : KeptFile) (i : ℕ) → position (has_name name) files ≡ Some i → IsPlace name files d i
place_is name files d i h =
    let p = position-Some (has_name name) files i d h in
    record { inside = p.0; here = p.1; none_before = p.2 }

place_behind : (name : List ℕ) (file : KeptFile) (files : List KeptFile) (d : KeptFile) (i : ℕ) → IsPlace name (file ∷ files) d (suc i) → IsPlace name files d i
place_behind name file files d i p = record { inside = omega arith; here = p.here; none_before = λ k h. p.none_before (suc k) (omega arith) }

told_in-IsPlace : (files : List KeptFile) (name : List ℕ) (d : KeptFile) (i : ℕ) → IsPlace name files d i → told_in files name ≡ Kept (get_or files i d).bytes
told_in-IsPlace [] name d i p = absurd (omega arith)
told_in-IsPlace (file ∷ files) name d zero p = rw p.here refl
told_in-IsPlace (file ∷ files) name d (suc i) p =
    rw (p.none_before 0 (omega arith)) (told_in-IsPlace files name d i (place_behind name file files d i p))

-- the files, after one more fetch of the one at that place failed
abbrev with_failure : List KeptFile → ℕ → KeptFile → List KeptFile
with_failure files i d = set files i (failed_once (get_or files i d))

told_in-with_failure : (files : List KeptFile) (i : ℕ) (d : KeptFile) (name : List ℕ) → told_in (with_failure files i d) name ≡ told_in files name
told_in-with_failure [] i d name = refl
told_in-with_failure (file ∷ files) zero d name = refl
told_in-with_failure (file ∷ files) (suc i) d name =
    ap (λ told. cond (has_name name file) (Kept file.bytes) told) (told_in-with_failure files i d name)

faults_in-with_failure : (files : List KeptFile) (others : ℕ) (name : List ℕ) (d : KeptFile) (i : ℕ) → IsPlace name files d i
    → faults_in (with_failure files i d) others name ≡ one_more (faults_in files others name)
faults_in-with_failure [] others name d i p = absurd (omega arith)
faults_in-with_failure (file ∷ files) others name d zero p = rw p.here refl
faults_in-with_failure (file ∷ files) others name d (suc i) p =
    rw (p.none_before 0 (omega arith)) (faults_in-with_failure files others name d i (place_behind name file files d i p))

faults_in-le-with_failure : (files : List KeptFile) (others : ℕ) (name : List ℕ) (d : KeptFile) (i : ℕ) → (get_or files i d).faults ≤ one_more (get_or files i d).faults
    → faults_in files others name ≤ faults_in (with_failure files i d) others name
faults_in-le-with_failure [] others name d i h = omega arith
faults_in-le-with_failure (file ∷ files) others name d zero h = then_le (has_name name file) _ _ _ h
faults_in-le-with_failure (file ∷ files) others name d (suc i) h = else_le (has_name name file) _ _ _ (faults_in-le-with_failure files others name d i h)

-- the same, as the code says it: x is the file at the place, and y what it is after the fault

pub told_in-named : (files : List KeptFile) (name : List ℕ) (i : ℕ) (x : KeptFile) → position (has_name name) files ≡ Some i → x ≡ get_or files i x → told_in files name ≡ Kept x.bytes
told_in-named files name i x h e = told_in-IsPlace files name x i (place_is name files x i h) ∙ ap (λ file. Kept (KeptFile.bytes file)) (sym e)

failure_is : (files : List KeptFile) (i : ℕ) (x y : KeptFile) → x ≡ get_or files i x → y ≡ failed_once x → set files i y ≡ with_failure files i x
failure_is files i x y e f = ap (set files i) (f ∙ ap failed_once e)

pub told_in-failed : (files : List KeptFile) (i : ℕ) (x y : KeptFile) → x ≡ get_or files i x → y ≡ failed_once x → told_in (set files i y) ≡ told_in files
told_in-failed files i x y e f = ap told_in (failure_is files i x y e f) ∙ fun_ext (told_in-with_failure files i x)

pub faults_in-failed : (files : List KeptFile) (others : ℕ) (name : List ℕ) (i : ℕ) (x y : KeptFile) → position (has_name name) files ≡ Some i
    → x ≡ get_or files i x → y ≡ failed_once x → faults_in (set files i y) others name ≡ one_more (faults_in files others name)
faults_in-failed files others name i x y h e f =
    ap (λ new. faults_in new others name) (failure_is files i x y e f) ∙ faults_in-with_failure files others name x i (place_is name files x i h)

pub faults_in-le-failed : (files : List KeptFile) (others : ℕ) (name : List ℕ) (i : ℕ) (x y : KeptFile) → x ≡ get_or files i x → y ≡ failed_once x → x.faults ≤ y.faults
    → faults_in files others name ≤ faults_in (set files i y) others name
faults_in-le-failed files others name i x y e f h =
    let grows : x.faults ≤ one_more x.faults = rw (← ap (λ file. KeptFile.faults file) f) h in
    let P : KeptFile → Type 0 = λ file. file.faults ≤ one_more file.faults in
    rw (failure_is files i x y e f) (faults_in-le-with_failure files others name x i (subst P e grows))

pub faults_in-fresh : (given : List (List ℕ × Vec ℕ Global)) (name : List ℕ) → faults_in (map kept_file given) 0 name ≡ 0
faults_in-fresh [] name = refl
faults_in-fresh (file ∷ files) name = cond_same (has_name name (kept_file file)) _ (faults_in-fresh files name)
