use Rattle.std.proofs.Common.{[], ◌∷◌, ◌++◌, subst, append_assoc}
use Rattle.json.specs.Print.{quoted}
use Rattle.value_text.specs.Puts.{PutsWithin}
use Rattle.value_text.specs.Texts.{comma_at}
use Rattle.value_text.proofs.PutsInTurn.{puts-then, within-then}
use Rattle.value_text.proofs.puts.put_key.Goals as goal

pub returns : goal.returns
returns c =
    let comma = comma_at c.args.index in
    let text = quoted c.args.label.now in
    let two = puts-then c.args.room.now c.args.at comma c.put_comma.new.room c.in_ok-begun.begun text c.put_quoted.new.room c.in_ok-end.end c.in_ok-begun.ensures.0 c.in_ok-end.ensures.0 in
    let whole = within-then c.args.limit c.args.room.now c.args.at (comma ++ text) c.put_quoted.new.room c.in_ok-end.end (58 ∷ []) c.put.new.room c.put.result two c.put.ensures in
    subst (λ xs. PutsWithin c.args.limit xs c.args.room.now c.args.at c.put.result c.put.new.room) (append_assoc comma text (58 ∷ [])) whole
