-- A set is in the tower, where each package's table is one that packages have.
use Rattle.std.proofs.Math.Logic.{∥∥₁_map}
use Rattle.package_adding.proofs.written.table.Goals as goal

pub returns-clause-form : goal.returns-clause-form
returns-clause-form c = ∥∥₁_map c.requires.tower (λ t. c.in_ok-table.ensures.form t c.requires.known)

pub returns-clause-writable : goal.returns-clause-writable
returns-clause-writable c =
    ∥∥₁_map c.requires.tower (λ t. let f = c.in_ok-table.ensures.form t c.requires.known in record { form = f.0; distinct = f.1; labels = c.names_are_labels.ensures })
