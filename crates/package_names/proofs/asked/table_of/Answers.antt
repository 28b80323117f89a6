use Rattle.std.proofs.Common.{◌∙◌, ◌||◌, Bool, List, ℕ, take, Bor, ap, sym, arith}
use Rattle.std.specs.List.{list_any}
use Rattle.std.specs.Str.{bytes_eq}
use Rattle.package_names.specs.Asked.{lent_labels}
use Rattle.package_names.proofs.NamesAskedOfPackages.{any-more, any-inserted}
use Rattle.package_names.proofs.asked.table_of.Goals as goal

pub loop-name-preserved : goal.loop-name-preserved
loop-name-preserved c = λ n.
    let names = c.args.names.now in
    let k = c.loop-name.name-index in
    let x = c.name-item.result in
    let spelt = c.as_str.ensures.is in
    ap (λ (ks : List (Bor (List ℕ))). list_any (λ s. bytes_eq n s.now) ks) c.in_ok-insert.ensures.keys
    ∙ any-inserted n c.loop-name.table.keys c.as_str.result
    ∙ ap (λ (b : Bool). b || bytes_eq n c.as_str.result.now) (c.loop-name.invariant n)
    ∙ ap (λ (m : List ℕ). list_any (bytes_eq n) (lent_labels (take k names)) || bytes_eq n m) spelt
    ∙ sym (any-more n names k x (omega arith) c.name-item.is)
