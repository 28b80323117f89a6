use Rattle.std.proofs.Common.{◌≡◌, ◌+◌, ◌∷◌, [], ◌++◌, None, Some, take, get_or, ap, ◌∙◌, arith}
use Rattle.std.proofs.lemmas.List.{length-append}
use Rattle.layout.specs.declared.rows.Row.{Row}
use Rattle.layout.specs.Parts.{payloads}
use Rattle.layout.specs.Rows.{choices_at, row_in}
use Rattle.layout.proofs.ElementsPutBehind.{put-more}
use Rattle.layout.proofs.VariantLoop.{variant_more, choices_at-some, choices_at-none}
use Rattle.layout.proofs.rows.joined_payloads.Goals as goal
use Rattle.layout.proofs.rows.joined_payloads.Goals.{in-Some, in_default}

pub loop-case-preserved : goal.loop-case-preserved
loop-case-preserved g c =
    let rows = c.args.rows.now in
    let payload = g.C.Choice.payload_of in
    let cases = c.args.cases.now in
    let i = c.loop-case.case-index in
    let d = c.case-item.result in
    let so_far = c.loop-case.invariant.so_far in
    let put = put-more payload cases i d c.args.all_payloads.now.items c.loop-case.all_payloads.items c.push.new.self.items c.payload-payload.result (omega arith)
    (c.payload-payload.ensures ∙ ap payload c.case-item.is) c.loop-case.invariant.payloads_are c.in_ok-push.ensures.items in
    elim c.match-payload.branch [
      | in-Some w ↦
          let row = row_in rows w.in-Some.payload in
          let looked = w.look.ensures in
          let found : w.look.result ≡ row = looked.value in
          let is : payload (get_or cases i d) ≡ Some w.in-Some.payload = cc in
          let more : payloads (choices_at rows payload (take (i + 1) cases)) ≡ payloads (choices_at rows payload (take i cases)) ++ row ∷ [] =
          choices_at-some rows payload cases i d w.in-Some.payload (omega arith) is in
          record {
            so_far = variant_more {rows = payloads (choices_at rows payload (take i cases))} {rows' = payloads (choices_at rows payload (take (i + 1) cases))} row so_far (rw (← found) looked.sound) more
                (rw (w.joined-is, ← found) w.join.ensures);
            payloads_are = put;
            steps_are = rw (w.steps-is, more) (omega (arith, length-append {A = Row}, looked.steps, c.loop-case.invariant.steps_are));
          }
      | in_default w ↦
          let is : payload (get_or cases i d) ≡ None = cc in
          let more = choices_at-none rows payload cases i d (omega arith) is in
          record {
            so_far = rw (more, w.joined-is) so_far;
            payloads_are = put;
            steps_are = rw (more, w.steps-is) c.loop-case.invariant.steps_are;
          }
    ]
