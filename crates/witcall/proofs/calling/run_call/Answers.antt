-- The body in the box is the one that was given.
use Rattle.std.proofs.Common.{ℕ, ◌≤◌, List, length, take, Result, Ok, Err, OnOk, IfErr, subst}
use Rattle.std.specs.Io.KnownBytes.{Appends}
use Rattle.witcall.specs.Calling.{Prints, RunCallRefuses}
use Rattle.witcall.proofs.calling.run_call.Goals as goal

on-ok : {T E P Q : Type 0} → (r : Result T E) → (P → Q) → OnOk r P → OnOk r Q
on-ok (Ok x) f h = f h
on-ok (Err e) f h = h

if-err : {T E : Type 0} {P Q : E → Type 0} → (r : Result T E) → ((e : E) → P e → Q e) → IfErr r P → IfErr r Q
if-err (Ok x) f h = h
if-err (Err e) f h = f e h

pub returns-clause-ok : goal.returns-clause-ok
returns-clause-ok g c =
    let r = c.args.package.now.resolve in
    let left = c.run_call_with.new.body.export in
    let after : List ℕ = (g.dyn-1.0.entry left.vtable).1.state left.value in
    let P : _ → Type 0 = λ b. OnOk c.run_call_with.result ((output : List ℕ)
    × Prints r c.args.iface.now c.args.func.now c.args.args.now ((g.dyn-1.0.entry b.vtable).1.runs b.value) ((g.dyn-1.0.entry b.vtable).1.posts b.value) ((g.dyn-1.0.entry b.vtable).1.state b.value) after output
    × Appends (g.W.Sink.contents c.args.writer.now) (g.W.Sink.contents c.run_call_with.new.writer) output) in
    on-ok c.run_call_with.result (λ done. (after, done.0, done.1, done.2)) (subst P c.new-body.ensures c.run_call_with.ensures.ok)

pub returns-clause-begun : goal.returns-clause-begun
returns-clause-begun g c = λ failed.
    let r = c.args.package.now.resolve in
    let left = c.run_call_with.new.body.export in
    let after : List ℕ = (g.dyn-1.0.entry left.vtable).1.state left.value in
    let P : _ → Type 0 = λ b. (output : List ℕ) × (count : ℕ)
    × Prints r c.args.iface.now c.args.func.now c.args.args.now ((g.dyn-1.0.entry b.vtable).1.runs b.value) ((g.dyn-1.0.entry b.vtable).1.posts b.value) ((g.dyn-1.0.entry b.vtable).1.state b.value) after output
    × (count ≤ length output) × Appends (g.W.Sink.contents c.args.writer.now) (g.W.Sink.contents c.run_call_with.new.writer) (take count output) in
    let front = subst P c.new-body.ensures (c.run_call_with.ensures.begun failed) in
    (after, front.0, front.1, front.2, front.3, front.4)

pub returns-clause-err : goal.returns-clause-err
returns-clause-err g c =
    let r = c.args.package.now.resolve in
    let left = c.run_call_with.new.body.export in
    let after : List ℕ = (g.dyn-1.0.entry left.vtable).1.state left.value in
    let P : _ → Type 0 = λ b. IfErr c.run_call_with.result
    (RunCallRefuses r c.args.iface.now c.args.func.now c.args.args.now ((g.dyn-1.0.entry b.vtable).1.runs b.value) ((g.dyn-1.0.entry b.vtable).1.posts b.value) ((g.dyn-1.0.entry b.vtable).1.state b.value) after) in
    if-err c.run_call_with.result (λ e refuses. (after, refuses)) (subst P c.new-body.ensures c.run_call_with.ensures.err)
