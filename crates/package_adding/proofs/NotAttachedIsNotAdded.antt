-- Why a component stands for no closed table, and why this is not put behind a set, as why it is not added.
use Rattle.std.proofs.Common.{inl, inr}
use Rattle.ctype_bin.specs.declared.component.RawComponent.{RawComponent}
use Rattle.package_sets.specs.Attached.{HasRoom}
use Rattle.tables.specs.declared.error.ResolveError.{ResolveError}
use Rattle.tables.specs.declared.error.ResolveError.TheVariants as error
use Rattle.tables.specs.declared.tables.Resolve.{Resolve}
use Rattle.wit_component.specs.FromComponent.{ClosedComponentRefuses}
use Rattle.package_adding.specs.Added.{IsOfComponent, IsRefusedBehind, ComponentNotAdded}

pub not-read : (raw : RawComponent) (set : Resolve) → HasRoom set → (e : ResolveError) → ClosedComponentRefuses raw e → ComponentNotAdded raw set e
not-read raw set room error.NotThisShape h = inl (room, h)
not-read raw set room error.NoMemory h = (room, h)
not-read raw set room error.EmptyPackage h = (room, h)
not-read raw set room (error.Duplicate n) h = (room, h)
not-read raw set room (error.Unknown n) h = (room, h)
not-read raw set room error.Cycle h = (room, h)
not-read raw set room error.Limit h = (room, h)
not-read raw set room (error.NoPackage p) h = absurd h
not-read raw set room (error.SamePackage p) h = absurd h
not-read raw set room error.SetLimit h = absurd h

pub not-attached : (raw : RawComponent) (set closed : Resolve) → IsOfComponent raw closed → (e : ResolveError) → IsRefusedBehind set closed e → ComponentNotAdded raw set e
not-attached raw set closed of error.NotThisShape h = inr (closed, of, h)
not-attached raw set closed of error.NoMemory h = (h, tt)
not-attached raw set closed of (error.NoPackage p) h = (closed, of, h)
not-attached raw set closed of (error.SamePackage p) h = (closed, of, h)
not-attached raw set closed of error.SetLimit h = h
not-attached raw set closed of error.EmptyPackage h = absurd h
not-attached raw set closed of (error.Duplicate n) h = absurd h
not-attached raw set closed of (error.Unknown n) h = absurd h
not-attached raw set closed of error.Cycle h = absurd h
not-attached raw set closed of error.Limit h = absurd h
