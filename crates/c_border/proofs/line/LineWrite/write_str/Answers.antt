use Rattle.std.proofs.Common.{rules, ◌≡◌, refl}
use Rattle.c_border.proofs.LinesInArrays.{copied-behind}
use Rattle.c_border.proofs.line.LineWrite.write_str.Goals as goal

pub returns : goal.returns
returns c = record {
  ok = λ _. (
    copied-behind c.args.self.now.out.now c.args.self.now.count c.min-start.result c.min-fitting.result c.args.text.now c.copy_from_slice.new.self c.min-start.ensures (search rules) (search rules),
    search rules,
    refl,
  );
}
