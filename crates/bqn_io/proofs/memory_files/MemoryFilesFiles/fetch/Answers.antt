use Rattle.std.proofs.Common.{◌≡◌, Some, None, arith, subst}
use Rattle.std.specs.List.{position}
use Rattle.bqn_io.specs.Devices.{IsKept}
use Rattle.bqn_io.specs.States.{has_name}
use Rattle.bqn_io.proofs.Shelves.{told_in-none, faults_in-none, faults_in-more_others, told_in-named, told_in-failed, faults_in-failed, faults_in-le-failed}
use Rattle.bqn_io.proofs.memory_files.MemoryFilesFiles.fetch.Goals as goal

pub returns-in-None-clause-rose : goal.returns-in-None-clause-rose
returns-in-None-clause-rose c = rw (← c.self.view_is) (λ h.
    let none : position (has_name c.args.name.now) c.self.inside.files.items ≡ None = cc (c.in-None.is, c.place_of.ensures, c.deref.ensures.value) in
    let old = faults_in-none c.self.inside.files.items c.self.inside.others c.args.name.now none in
    let new = faults_in-none c.self.inside.files.items c.saturating_add-self-inside.result c.args.name.now none in
    omega arith)

pub returns-in-None-clause-never_falls : goal.returns-in-None-clause-never_falls
returns-in-None-clause-never_falls c = rw (← c.self.view_is) (λ name.
    faults_in-more_others c.self.inside.files.items _ _ name (omega arith))

pub returns-in-None-clause-steady : goal.returns-in-None-clause-steady
returns-in-None-clause-steady c = rw (← c.self.view_is) (λ steady kept.
    let none : position (has_name c.args.name.now) c.self.inside.files.items ≡ None = cc (c.in-None.is, c.place_of.ensures, c.deref.ensures.value) in
    subst IsKept (told_in-none c.self.inside.files.items c.args.name.now none) kept)

pub returns-in-Some-clause-kept : goal.returns-in-Some-clause-kept
returns-in-Some-clause-kept c = rw (← c.self.view_is) (told_in-failed c.self.inside.files.items c.in-Some.place c.index_mut.result.now _ c.index_mut.ensures.value c.fail.ensures.after)

pub returns-in-Some-clause-rose : goal.returns-in-Some-clause-rose
returns-in-Some-clause-rose c = rw (← c.self.view_is) (λ h.
    let some : position (has_name c.args.name.now) c.self.inside.files.items ≡ Some c.in-Some.place = cc (c.in-Some.is, c.place_of.ensures, c.deref.ensures.value) in
    let more = faults_in-failed c.self.inside.files.items c.self.inside.others c.args.name.now c.in-Some.place c.index_mut.result.now _ some c.index_mut.ensures.value c.fail.ensures.after in
    omega arith)

pub returns-in-Some-clause-never_falls : goal.returns-in-Some-clause-never_falls
returns-in-Some-clause-never_falls c = rw (← c.self.view_is) (λ name.
    faults_in-le-failed c.self.inside.files.items c.self.inside.others name c.in-Some.place c.index_mut.result.now _ c.index_mut.ensures.value c.fail.ensures.after c.fail.ensures.grows)

pub returns-in-Some-2-clause-value : goal.returns-in-Some-2-clause-value
returns-in-Some-2-clause-value c = rw (← c.self.view_is)
    (let some : position (has_name c.args.name.now) c.self.inside.files.items ≡ Some c.in-Some.place = cc (c.in-Some.is, c.place_of.ensures, c.deref.ensures.value) in
    rw (told_in-named c.self.inside.files.items c.args.name.now c.in-Some.place c.index.result.now some c.index.ensures) c.give.ensures.value)
