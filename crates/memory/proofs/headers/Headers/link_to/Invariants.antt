-- The link so far is one of the list, and what it leads to in the steps that are left is what the first one leads to.
use Rattle.std.proofs.Common.{◌≡◌, ◌⊎◌, ◌/◌, ◌<◌, ◌≤◌, ℕ, length}
use Rattle.memory.specs.Headers.{headers, IsFree, Leads, LeadsTo}
use Rattle.memory.proofs.headers.Headers.link_to.Given as goal

abbrev pub invariant-loop-left : goal.invariant-loop-left
invariant-loop-left l = record {
  link : (l.link ≡ 8) ⊎ IsFree (headers l.self.pages.bytes.items l.self.units.live.items l.self.pages.max) l.link 8;
  from : (found : ℕ) → LeadsTo (headers l.self.pages.bytes.items l.self.units.live.items l.self.pages.max) l.size found
      → Leads (headers l.self.pages.bytes.items l.self.units.live.items l.self.pages.max) l.size l.left l.link found;
  to : (found : ℕ) → Leads (headers l.self.pages.bytes.items l.self.units.live.items l.self.pages.max) l.size l.left l.link found
      → LeadsTo (headers l.self.pages.bytes.items l.self.units.live.items l.self.pages.max) l.size found;
}

abbrev pub decreases-loop-left : goal.decreases-loop-left
decreases-loop-left l = l.left
