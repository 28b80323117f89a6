use Rattle.std.proofs.Common.{ap, sym, List, Bool}
use Rattle.set_rows.proofs.MarksOfReached.{adds-interface, adds-world, tells-interface, tells-world}
use Rattle.set_rows.proofs.reached.Reached.add_owner.Goals as goal

pub returns-in-Interface-clause-adds : goal.returns-in-Interface-clause-adds
returns-in-Interface-clause-adds c =
    rw (sym c.self.view_is)
    (adds-interface _ _ c.args.owner c.in-Interface.id.0 c.in-Interface.is (ap (λ (is : List Bool). record { interfaces = is; worlds = c.self.inside.worlds.items }) c.mark.ensures.marked))

pub returns-in-Interface-clause-tells : goal.returns-in-Interface-clause-tells
returns-in-Interface-clause-tells c =
    rw (sym c.self.view_is)
    (tells-interface _ _ c.in-Interface.id.0 c.mark.result (ap (λ (is : List Bool). record { interfaces = is; worlds = c.self.inside.worlds.items }) c.mark.ensures.marked) c.mark.ensures.told)

pub returns-in-World-clause-adds : goal.returns-in-World-clause-adds
returns-in-World-clause-adds c =
    rw (sym c.self.view_is)
    (adds-world _ _ c.args.owner c.in-World.id.0 c.in-World.is (ap (λ (ws : List Bool). record { interfaces = c.self.inside.interfaces.items; worlds = ws }) c.mark-in-World.ensures.marked))

pub returns-in-World-clause-tells : goal.returns-in-World-clause-tells
returns-in-World-clause-tells c =
    rw (sym c.self.view_is)
    (tells-world _ _ c.in-World.id.0 c.mark-in-World.result (ap (λ (ws : List Bool). record { interfaces = c.self.inside.interfaces.items; worlds = ws }) c.mark-in-World.ensures.marked) c.mark-in-World.ensures.told)
