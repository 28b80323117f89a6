use Rattle.std.proofs.Common.{◌≡◌, ◌+◌, ◌++◌, ◌∷◌, [], List, length, map, take, drop, get_or, ap, sym, ◌∙◌, arith}
use Rattle.std.proofs.lemmas.List.{map-append}
use Rattle.tables.specs.declared.tables.ValType.{ValType}
use Rattle.layout.specs.declared.queries.FieldInfo.{FieldInfo}
use Rattle.layout.specs.Heads.{field_types, field_offsets}
use Rattle.layout.specs.Rows.{row_in, rows_at}
use Rattle.layout.proofs.ElementsPutBehind.{behind-more, map-more}
use Rattle.layout.proofs.RecordLoop.{record_more, rows_at-more}
use Rattle.layout.proofs.rows.laid_fields.Goals as goal

pub loop-member-preserved : goal.loop-member-preserved
loop-member-preserved g c =
    let rows = c.args.rows.now in
    let members = c.args.members.now in
    let i = c.loop-member.member-index in
    let ty = g.M.Member.type_of in
    let more = rows_at-more rows ty members i c.member-item.result (omega arith) in
    let looked = c.look-row.ensures in
    let found : c.look-row.result ≡ row_in rows c.ty-ty.result = looked.value in
    let old = c.args.fields.now.items in
    let new = c.loop-member.fields.items in
    let field : FieldInfo = record { ty = c.ty-ty.result; offset = c.align_up-offset.result } in
    let behind = behind-more old new c.push.new.self.items field c.loop-member.invariant.kept c.in_ok-push.ensures.items in
    let here : c.ty-ty.result ≡ ty (get_or members i c.member-item.result) = c.ty-ty.ensures ∙ ap ty c.member-item.is in
    record {
      so_far = record_more {rows = rows_at rows ty (take i members)} {rows' = rows_at rows ty (take (i + 1) members)} (row_in rows c.ty-ty.result) c.align_up-offset.result c.loop-member.invariant.so_far (rw (← found) looked.sound)
          (grind arith) (rw (← found) c.align_up-offset.ensures.value) (rw (← found) c.follow.ensures)
          (ap field_offsets behind.0 ∙ map-append (λ (f : FieldInfo). f.offset) (drop (length old) new) (field ∷ []));
      kept = behind.1;
      types_are = ap field_types behind.0
          ∙ map-append (λ (f : FieldInfo). f.ty) (drop (length old) new) (field ∷ [])
          ∙ ap (λ (ts : List ValType). ts ++ c.ty-ty.result ∷ []) c.loop-member.invariant.types_are
          ∙ ap (λ (t : ValType). map ty (take i members) ++ t ∷ []) here
          ∙ sym (map-more ty members i c.member-item.result (omega arith));
      steps_are = omega (arith, looked.steps, c.loop-member.invariant.steps_are);
    }
