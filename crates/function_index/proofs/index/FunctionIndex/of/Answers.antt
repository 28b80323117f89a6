use Rattle.std.proofs.Common.{◌≡◌, ◌∙◌, ◌++◌, ◌<◌, ◌≤◌, List, ℕ, Option, Some, take, length, get_or, slice_get, ap, sym, subst, arith}
use Rattle.std.proofs.lemmas.Option.{slice_get-get_or}
use Rattle.std.proofs.lemmas.List.{take_all}
use Rattle.tables.specs.declared.tables.Interface.{Interface}
use Rattle.tables.specs.declared.tables.FunctionId.{FunctionId}
use Rattle.tables.specs.PackageNames.{PackageParts}
use Rattle.tables.specs.Names.{full_name, full_name_in}
use Rattle.tables.proofs.NamesEarlierTypes.{grouped-at}
use Rattle.function_index.specs.Index.{Candidate, IsIndexOver, candidates, under}
use Rattle.function_index.proofs.RowsUnderFullNames.{candidates-more}
use Rattle.function_index.proofs.index.FunctionIndex.of.Goals as goal

pub bounds-packages-interface : goal.bounds-packages-interface
bounds-packages-interface c =
    let r = c.args.table.now in
    let k = c.loop-interface.interface-index in
    let i = c.interface-item.result in
    let same = c.as_slice-interface-items.ensures in
    let l : k < length r.interfaces = omega (arith, ap length same) in
    let at = c.interface-item.is ∙ ap (λ (is : List Interface). get_or is k i) same in
    let within = grouped-at (length r.packages) 0 r.interfaces k i r.grouped l (sym at) in
    omega (arith, within, ap length c.as_slice-packages.ensures)

pub loop-interface-preserved : goal.loop-interface-preserved
loop-interface-preserved c =
    let r = c.args.table.now in
    let k = c.loop-interface.interface-index in
    let i = c.interface-item.result in
    let p = c.index-packages-interface.result in
    let same = c.as_slice-interface-items.ensures in
    let packages = c.as_slice-packages.ensures in
    let l : k < length r.interfaces = omega (arith, ap length same) in
    let at = c.interface-item.is ∙ ap (λ (is : List Interface). get_or is k i) same in
    let within = grouped-at (length r.packages) 0 r.interfaces k i r.grouped l (sym at) in
    let of : slice_get r.packages i.«package».0 ≡ Some p =
    slice_get-get_or r.packages i.«package».0 p within ∙ ap (λ (x : PackageParts). Some x) (sym (c.index-packages-interface.is ∙ ap (λ (ps : List PackageParts). get_or ps i.«package».0 p) packages)) in
    let named : c.as_str.result.now ≡ full_name r i = c.as_str.ensures ∙ c.in_ok-name.ensures ∙ ap (λ (o : Option PackageParts). full_name_in o i.name) (sym of) in
    let more = candidates-more r r.interfaces k i l at in
    let functions : c.as_slice-functions.result.now ≡ i.functions = c.as_slice-functions.ensures in
    subst (λ (ds : List Candidate). IsIndexOver r ds c.put_rows.new.self)
    (ap (λ (s : List ℕ). candidates r (take k r.interfaces) ++ under s c.as_slice-functions.result.now) named
    ∙ ap (λ (fs : List FunctionId). candidates r (take k r.interfaces) ++ under (full_name r i) fs) functions ∙ sym more)
    (c.in_ok-put_rows.ensures (candidates r (take k r.interfaces)) c.loop-interface.invariant)

pub returns : goal.returns
returns c =
    let r = c.args.table.now in
    let l : length r.interfaces ≤ c.loop-interface.interface-index = omega (arith, ap length c.as_slice-interface-items.ensures) in
    (subst (λ (is : List Interface). IsIndexOver r (candidates r is) c.loop-interface.index) (take_all c.loop-interface.interface-index r.interfaces l) c.loop-interface.invariant)
