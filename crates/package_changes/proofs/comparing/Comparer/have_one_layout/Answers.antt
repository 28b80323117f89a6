use Rattle.std.proofs.Common.{IsTrue, [], ◌∷◌, length, sym, subst}
use Rattle.std.proofs.lemmas.List.Elements.{All-cons, All-nil}
use Rattle.tables.specs.Tables.{is_below}
use Rattle.tables.specs.declared.tables.ValType.{ValType}
use Rattle.package_changes.proofs.PartsAreTypes.{in-layouts}
use Rattle.package_changes.proofs.comparing.Comparer.have_one_layout.Goals as goal

pub size-requires : goal.size-requires
size-requires c =
    let side = c.args.self.now.old in
    subst (λ (v : ValType). IsTrue (is_below (length side.layouts.now.rows) v)) (sym c.older-old.ensures) (in-layouts side.table.now side.layouts.now c.args.pair.old side.laid_out c.requires.old)

pub size-requires-2 : goal.size-requires-2
size-requires-2 c =
    let side = c.args.self.now.new in
    subst (λ (v : ValType). IsTrue (is_below (length side.layouts.now.rows) v)) (sym c.newer-new.ensures) (in-layouts side.table.now side.layouts.now c.args.pair.new side.laid_out c.requires.new)

pub align-requires : goal.align-requires
align-requires c =
    let side = c.args.self.now.old in
    subst (λ (v : ValType). IsTrue (is_below (length side.layouts.now.rows) v)) (sym c.older-old.ensures) (in-layouts side.table.now side.layouts.now c.args.pair.old side.laid_out c.requires.old)

pub align-requires-then-size : goal.align-requires-then-size
align-requires-then-size c =
    let side = c.args.self.now.new in
    subst (λ (v : ValType). IsTrue (is_below (length side.layouts.now.rows) v)) (sym c.newer-new.ensures) (in-layouts side.table.now side.layouts.now c.args.pair.new side.laid_out c.requires.new)

pub flat-requires : goal.flat-requires
flat-requires c =
    let side = c.args.self.now.old in
    let here = subst (λ (v : ValType). IsTrue (is_below (length side.layouts.now.rows) v)) (sym c.older-old.ensures) (in-layouts side.table.now side.layouts.now c.args.pair.old side.laid_out c.requires.old) in
    All-cons (λ (v : ValType). IsTrue (is_below (length side.layouts.now.rows) v)) c.older-old.result [] here (All-nil (λ (v : ValType). IsTrue (is_below (length side.layouts.now.rows) v)))

pub flat-requires-then-align : goal.flat-requires-then-align
flat-requires-then-align c =
    let side = c.args.self.now.new in
    let here = subst (λ (v : ValType). IsTrue (is_below (length side.layouts.now.rows) v)) (sym c.newer-new.ensures) (in-layouts side.table.now side.layouts.now c.args.pair.new side.laid_out c.requires.new) in
    All-cons (λ (v : ValType). IsTrue (is_below (length side.layouts.now.rows) v)) c.newer-new.result [] here (All-nil (λ (v : ValType). IsTrue (is_below (length side.layouts.now.rows) v)))
