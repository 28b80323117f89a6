use Rattle.std.proofs.Common.{◌≡◌, ◌<◌, ◌≤◌, List, length, get_or, sym, ap, ◌∙◌, string_bytes, arith}
use Rattle.text_edits.specs.declared.edit.Edit.{Edit}
use Rattle.text_edits.proofs.Splicing.{fits_at, end_more, front_step, all_made}
use Rattle.text_edits.proofs.edits.Edits.apply.Goals as goal

pub range-requires-clause-start_boundary : goal.range-requires-clause-start_boundary
range-requires-clause-start_boundary c = c.loop-edit.invariant.boundary

pub loop-edit-preserved : goal.loop-edit-preserved
loop-edit-preserved c =
    let text = c.args.self.now.text.now in
    let es = c.args.self.now.list.items in
    let k = c.loop-edit.edit-index in
    let e = c.edit-item.result in
    let lt : k < length es = omega (arith, c.loop-edit-test.true) in
    let is : e ≡ get_or es k e = c.edit-item.is ∙ ap (λ (xs : List Edit). get_or xs k e) c.as_slice-edit-items.ensures.value in
    let fits = fits_at text es k e c.args.self.now.apart lt is in
    record {
      at = sym (end_more es k e lt is);
      made = front_step text es k c.loop-edit.at e (string_bytes c.loop-edit.made) c.range.result.now (string_bytes c.push_str.new.self) c.as_str.result.now (string_bytes c.push_str-in-loop-edit.new.self) lt is c.loop-edit.invariant.at c.loop-edit.invariant.made c.in_ok-push_str.ensures.bytes c.range.ensures.value c.in_ok-push_str-2.ensures.bytes c.as_str.ensures.value;
      boundary = λ _. fits.3;
    }

pub range_from-requires : goal.range_from-requires
range_from-requires c = c.loop-edit.invariant.boundary

pub returns : goal.returns
returns c =
    let es = c.args.self.now.list.items in
    let k = c.loop-edit.edit-index in
    let long : length es ≤ k = omega (arith, c.loop-edit-test.false) in
    all_made c.args.self.now.text.now es k c.loop-edit.at (string_bytes c.loop-edit.made) c.range_from.result.now (string_bytes c.push_str-2.new.self) long c.loop-edit.invariant.at c.loop-edit.invariant.made c.range_from.ensures.value c.in_ok-push_str-3.ensures.bytes
