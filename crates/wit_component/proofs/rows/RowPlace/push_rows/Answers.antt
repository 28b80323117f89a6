use Rattle.std.proofs.Common.{◌≡◌, ◌++◌, ◌+◌, map, take, append_assoc, sym, ap, ◌∙◌, arith}
use Rattle.ctype_format.specs.View.{decl_view}
use Rattle.wit_component.specs.Rows.{Place, row_declarations, place_after, declarations_of}
use Rattle.wit_component.proofs.DeclarationsRowByRow.{places-more, declarations-more, labels-more}
use Rattle.wit_component.proofs.rows.RowPlace.push_rows.Goals as goal

pub loop-row-preserved : goal.loop-row-preserved
loop-row-preserved c =
    let row = c.row-item.result in
    let k = c.loop-row.row-index in
    let inv = c.loop-row.invariant in
    let first = c.args.self.now in
    let passed = c.in_ok-pass.ensures.passed in
    let few = c.in_ok-pass.ensures.few in
    let used : c.pass.new.self.used ≡ c.loop-row.self.used + 1 = ap (λ (p : Place). p.used) passed in
    record {
      declarations =
          c.in_ok-push_row.ensures.declarations
          ∙ ap (λ xs. xs ++ row_declarations c.loop-row.self row) inv.declarations
          ∙ ap (λ (p : Place). (map decl_view c.args.decls.now.items ++ declarations_of first (take k c.args.rows.now)) ++ row_declarations p row) inv.place
          ∙ append_assoc (map decl_view c.args.decls.now.items) (declarations_of first (take k c.args.rows.now)) _
          ∙ ap (λ xs. map decl_view c.args.decls.now.items ++ xs) (sym (declarations-more first c.args.rows.now k row c.loop-row-test.true c.row-item.is));
      place = passed ∙ ap (λ (p : Place). place_after p row) inv.place ∙ sym (places-more first c.args.rows.now k row c.loop-row-test.true c.row-item.is);
      types = omega (arith, few, inv.types);
      used = omega (arith, used, inv.used);
      labelled = labels-more first c.args.rows.now k row c.loop-row-test.true c.row-item.is inv.labelled c.in_ok-push_row.ensures.labelled;
    }
