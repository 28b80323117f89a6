use Rattle.std.proofs.Common.{◌≡◌, ◌∙◌, List, length, take, set, get_or, ap, sym, arith}
use Rattle.tree_meaning.specs.Finished.{with_definition}
use Rattle.tree_meaning.specs.Resolves.{interfaces_behind}
use Rattle.tables.specs.declared.tables.Interface.{Interface}
use Rattle.tree_meaning.proofs.NamesFoundInLists.{if-none}
use Rattle.tree_rows.proofs.InterfacesBehindImports.{rows-there-in, rows-elsewhere-in}
use Rattle.tree_meaning.proofs.TableRows.{behind-length}
use Rattle.tree_rows.proofs.closed.interfaces_in.Goals as goal
use Rattle.tree_rows.proofs.closed.interfaces_in.Goals.{in-Some+in_ok-push_id, in_default}

pub loop-place-preserved : goal.loop-place-preserved
loop-place-preserved c =
    let rows = c.args.rows.now in
    let n = c.args.«package».0 in
    let first = c.args.first in
    let names = c.args.plan.now.labels.now in
    let k = c.loop-place.place in
    let d = c.index-rows-place.result in
    let old = c.loop-place.interfaces.items in
    let so_far : old ≡ interfaces_behind n first (take k rows) names = c.loop-place.invariant in
    let count : length old ≡ length names = ap length so_far ∙ behind-length n first (take k rows) names in
    elim c.match-own_place.branch [
      | in-Some+in_ok-push_id w ↦
          let i = w.in-Some.index in
          let x = w.index_mut.result.now in
          let more = rows-there-in n rows k d (omega arith) c.index-rows-place.is first i names x (omega (arith, count, c.len.ensures, w.in-Some.ensures.some.0)) w.in-Some.ensures.some.1 in
          let put : set old i w.push_id.new.interface ≡ set old i (with_definition k d (get_or old i x)) =
          ap (λ (y : Interface). set old i y) (w.in_ok-push_id.ensures ∙ ap (with_definition k d) w.index_mut.ensures.value) in
          ap (λ v. v.items) w.interfaces-is ∙ put
          ∙ ap (λ (is : List Interface). set is i (with_definition k d (get_or is i x))) so_far ∙ sym more
      | in_default w ↦
          let none = if-none c.own_place.result _ (λ j e. w.in_default.not-Some j e) c.own_place.ensures.none in
          let same = rows-elsewhere-in n rows k d (omega arith) c.index-rows-place.is first names (λ j l g. none j (omega (arith, l, count, c.len.ensures)) g) in
          ap (λ v. v.items) w.interfaces-is ∙ so_far ∙ sym same
    ]
