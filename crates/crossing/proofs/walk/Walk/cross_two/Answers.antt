use Rattle.std.proofs.Common.{◌≡◌, ◌+◌, ◌≤◌, [], None, refl, sym, subst, arith}
use Rattle.std.proofs.lemmas.Result.{err_from_is_err_and}
use Rattle.canonical_abi.specs.Types.{record_fields}
use Rattle.canonical_abi.specs.Layout.{size}
use Rattle.tables.specs.Closed.{closed_type}
use Rattle.values.proofs.FieldsFromAPlace.{fields_from, fields_end, fields-inside, fields-end}
use Rattle.crossing.specs.Outcome.{FieldsWalk}
use Rattle.crossing.specs.Steps.{leaf_type}
use Rattle.crossing.proofs.ScriptsOfTypes.{fields-none}
use Rattle.crossing.proofs.OneNodeOfAWay.{field-next, field-stopped}
use Rattle.crossing.proofs.PartsOfWaysInOrder.{begun, begun-done}
use Rattle.crossing.proofs.RecordMembersByStep.{end-one, end-two, one, two, step-last}
use Rattle.crossing.proofs.walk.Walk.cross_two.Goals as goal

pub cross_step-requires-clause-leaf : goal.cross_step-requires-clause-leaf
cross_step-requires-clause-leaf g c =
    let fs = record_fields (closed_type c.args.self.now.types.now c.args.pair.ty) in
    let first = c.args.pair.first in
    let second = c.args.pair.second in
    let planned = c.requires.stepped.1 in
    let n = one fs first second planned in
    n.leaf

pub cross_step-requires-clause-fits : goal.cross_step-requires-clause-fits
cross_step-requires-clause-fits g c =
    let fs = record_fields (closed_type c.args.self.now.types.now c.args.pair.ty) in
    let first = c.args.pair.first in
    let second = c.args.pair.second in
    let planned = c.requires.stepped.1 in
    let n = one fs first second planned in
    let inside : first.place + size (leaf_type first.leaf) ≤ fields_end 0 fs = (let h = fields-inside fs 0 (leaf_type first.leaf) 0 _ n.found refl in rw (← n.place) at h) in
    omega (arith, inside, c.requires.fits)

pub cross_step-requires-clause-room : goal.cross_step-requires-clause-room
cross_step-requires-clause-room g c =
    let fs = record_fields (closed_type c.args.self.now.types.now c.args.pair.ty) in
    let first = c.args.pair.first in
    let second = c.args.pair.second in
    let planned = c.requires.stepped.1 in
    let n = one fs first second planned in
    let inside : first.place + size (leaf_type first.leaf) ≤ fields_end 0 fs = (let h = fields-inside fs 0 (leaf_type first.leaf) 0 _ n.found refl in rw (← n.place) at h) in
    omega (arith, inside, c.requires.room)

pub cross_step-requires-clause-small : goal.cross_step-requires-clause-small
cross_step-requires-clause-small g c =
    let fs = record_fields (closed_type c.args.self.now.types.now c.args.pair.ty) in
    let first = c.args.pair.first in
    let second = c.args.pair.second in
    let planned = c.requires.stepped.1 in
    let n = one fs first second planned in
    let inside : first.place + size (leaf_type first.leaf) ≤ fields_end 0 fs = (let h = fields-inside fs 0 (leaf_type first.leaf) 0 _ n.found refl in rw (← n.place) at h) in
    omega (arith, inside, c.requires.small)

pub cross_step-requires-2-clause-leaf : goal.cross_step-requires-2-clause-leaf
cross_step-requires-2-clause-leaf g c =
    let fs = record_fields (closed_type c.args.self.now.types.now c.args.pair.ty) in
    let first = c.args.pair.first in
    let second = c.args.pair.second in
    let planned = c.requires.stepped.1 in
    let n = one fs first second planned in
    let k = two fs first second planned in
    k.leaf

pub cross_step-requires-2-clause-fits : goal.cross_step-requires-2-clause-fits
cross_step-requires-2-clause-fits g c =
    let fs = record_fields (closed_type c.args.self.now.types.now c.args.pair.ty) in
    let first = c.args.pair.first in
    let second = c.args.pair.second in
    let planned = c.requires.stepped.1 in
    let n = one fs first second planned in
    let k = two fs first second planned in
    let w = sym (fields-end fs 0 0 (leaf_type first.leaf) n.found) in
    let within : second.place + size (leaf_type second.leaf) ≤ fields_end 0 fs = (let h = fields-inside fs 1 (leaf_type second.leaf) (end-one fs first second planned) _ k.found w in rw (← k.place) at h) in
    omega (arith, within, c.requires.fits)

pub cross_step-requires-2-clause-room : goal.cross_step-requires-2-clause-room
cross_step-requires-2-clause-room g c =
    let fs = record_fields (closed_type c.args.self.now.types.now c.args.pair.ty) in
    let first = c.args.pair.first in
    let second = c.args.pair.second in
    let planned = c.requires.stepped.1 in
    let n = one fs first second planned in
    let k = two fs first second planned in
    let w = sym (fields-end fs 0 0 (leaf_type first.leaf) n.found) in
    let within : second.place + size (leaf_type second.leaf) ≤ fields_end 0 fs = (let h = fields-inside fs 1 (leaf_type second.leaf) (end-one fs first second planned) _ k.found w in rw (← k.place) at h) in
    omega (arith, within, c.requires.room, c.in_ok-cross_step.ensures.no_shorter)

pub cross_step-requires-2-clause-small : goal.cross_step-requires-2-clause-small
cross_step-requires-2-clause-small g c =
    let fs = record_fields (closed_type c.args.self.now.types.now c.args.pair.ty) in
    let first = c.args.pair.first in
    let second = c.args.pair.second in
    let planned = c.requires.stepped.1 in
    let n = one fs first second planned in
    let k = two fs first second planned in
    let w = sym (fields-end fs 0 0 (leaf_type first.leaf) n.found) in
    let within : second.place + size (leaf_type second.leaf) ≤ fields_end 0 fs = (let h = fields-inside fs 1 (leaf_type second.leaf) (end-one fs first second planned) _ k.found w in rw (← k.place) at h) in
    omega (arith, within, c.requires.small)

pub returns-in_err-cross_step : goal.returns-in_err-cross_step
returns-in_err-cross_step g c =
    let fs = record_fields (closed_type c.args.self.now.types.now c.args.pair.ty) in
    let first = c.args.pair.first in
    let second = c.args.pair.second in
    let planned = c.requires.stepped.1 in
    let n = one fs first second planned in
    let A = g.G.Guest.allocates in
    let m = c.args.self.now.source.now in
    let from = c.args.at.from in
    let to = c.args.at.to in
    let old = g.G.Guest.memory c.args.guest.now in
    let here = rw n.place at c.in_err-cross_step.ensures in
    let p = err_from_is_err_and c.from_residual.result c.from_residual.ensures.1 in
    rw (p.1, p.2) (field-stopped A fs m from to 0 0 (leaf_type first.leaf) n.found c.are_bytes.ensures c.requires.short c.reads_exactly.ensures
    old old c.in_err-cross_step.field-0.0 (g.G.Guest.memory c.cross_step.new.guest) c.args.nodes.now c.args.nodes.now c.cross_step.new.nodes (begun A (FieldsWalk fs m from to 0) old c.args.nodes.now) here)

pub returns-in_err-cross_step-2 : goal.returns-in_err-cross_step-2
returns-in_err-cross_step-2 g c =
    let fs = record_fields (closed_type c.args.self.now.types.now c.args.pair.ty) in
    let first = c.args.pair.first in
    let second = c.args.pair.second in
    let planned = c.requires.stepped.1 in
    let n = one fs first second planned in
    let k = two fs first second planned in
    let A = g.G.Guest.allocates in
    let m = c.args.self.now.source.now in
    let from = c.args.at.from in
    let to = c.args.at.to in
    let old = g.G.Guest.memory c.args.guest.now in
    let mid = g.G.Guest.memory c.cross_step.new.guest in
    let ahead = rw n.place at c.in_ok-cross_step.ensures in
    let b = field-next A fs m from to 0 0 (leaf_type first.leaf) n.found old old mid c.args.nodes.now c.args.nodes.now c.cross_step.new.nodes (begun A (FieldsWalk fs m from to 0) old c.args.nodes.now) ahead in
    let here = rw k.place at c.in_err-cross_step-2.ensures in
    let p = err_from_is_err_and c.from_residual-in_err-cross_step-2.result c.from_residual-in_err-cross_step-2.ensures.1 in
    rw (p.1, p.2) (field-stopped A fs m from to 1 (end-one fs first second planned) (leaf_type second.leaf) k.found c.are_bytes.ensures c.requires.short c.reads_exactly.ensures
    old mid c.in_err-cross_step-2.field-0.0 (g.G.Guest.memory c.cross_step-2.new.guest) c.args.nodes.now c.cross_step.new.nodes c.cross_step-2.new.nodes b here)

pub returns : goal.returns
returns g c =
    let fs = record_fields (closed_type c.args.self.now.types.now c.args.pair.ty) in
    let first = c.args.pair.first in
    let second = c.args.pair.second in
    let planned = c.requires.stepped.1 in
    let n = one fs first second planned in
    let k = two fs first second planned in
    let A = g.G.Guest.allocates in
    let m = c.args.self.now.source.now in
    let from = c.args.at.from in
    let to = c.args.at.to in
    let old = g.G.Guest.memory c.args.guest.now in
    let mid = g.G.Guest.memory c.cross_step.new.guest in
    let ahead = rw n.place at c.in_ok-cross_step.ensures in
    let b = field-next A fs m from to 0 0 (leaf_type first.leaf) n.found old old mid c.args.nodes.now c.args.nodes.now c.cross_step.new.nodes (begun A (FieldsWalk fs m from to 0) old c.args.nodes.now) ahead in
    let new = g.G.Guest.memory c.cross_step-2.new.guest in
    let here = rw k.place at c.in_ok-cross_step-2.ensures in
    let end = end-two fs first second planned in
    let both = field-next A fs m from to 1 (end-one fs first second planned) (leaf_type second.leaf) k.found old mid new c.args.nodes.now c.cross_step.new.nodes c.cross_step-2.new.nodes b here in
    let behind = k.behind in
    let last = step-last (fields_from 2 fs) end (rw k.place at behind) in
    begun-done A (FieldsWalk fs m from to 0) (FieldsWalk (fields_from 2 fs) m from to end) old new c.args.nodes.now c.cross_step-2.new.nodes both
    (subst (λ gs. FieldsWalk gs m from to end None []) (sym last) (fields-none m from to end))
