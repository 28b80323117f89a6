-- What calls leave of the callee and of the body is told by their functions and arguments, and by which of them the caller had no room for.
use Rattle.std.proofs.Common.{◌≡◌, ◌⊎◌, inl, inr, ℕ, List, [], ◌∷◌, ◌++◌, Option, Some, None, Result, Ok, Err, sym, ap, ◌∙◌, subst}
use Rattle.canonical_abi.specs.Types.{FunctionType, result_fields}
use Rattle.canonical_abi.specs.Values.{Value}
use Rattle.canonical_abi.specs.Layout.{max_flat_params, max_flat_results}
use Rattle.canonical_abi.specs.Reading.{denoting}
use Rattle.canonical_abi.specs.Flat.{Denotes, DenotesFault}
use Rattle.canonical_abi.specs.Guest.{Memory, Allocation, Release}
use Rattle.canonical_abi.specs.Trace.{Grant, Event, grant, TraceLeads, RequestFails}
use Rattle.canonical_abi.specs.Lowering.{PassesParams}
use Rattle.canonical_abi.specs.Call.{Run, PostRun, Parties, CallState, exact, Ways, Enters, Runs, Answered, Returned, Finishes, ArgumentsFail, ResultFaulty, ResultFails}
use Rattle.canonical_abi.specs.Session.{SessionStep, call, place, read, release, SessionAnswer, Held, Placed, CameBack, TypedTraps, TypedCall, ReadsStep, RunsSession}
use Rattle.canonical_abi.specs.Headline.{IsStandardFunction, IsArgumentFault}
use Rattle.canonical_abi.specs.Tame.{AreTame}
use Rattle.canonical_abi.specs.Keeping.{AreStandardSteps}
use Rattle.canonical_abi.specs.Told.{AllocatesInOneWay, RunsInOneWay, Called, calls_of, Ending, unplaced, unreturned, told, ending_at, ending_of, endings_of, otherwise, CalleeIsTold}
use Rattle.canonical_abi.specs.declared.flat.Flat.{Flat}
use Rattle.canonical_abi.specs.declared.trap.Fault.{Fault}
use Rattle.canonical_abi.specs.declared.trap.Fault.TheVariants.{Trap, NoMemory}
use Rattle.canonical_abi.specs.declared.trap.Step.{Step}
use Rattle.canonical_abi.specs.declared.trap.Step.TheVariants as step
use Rattle.canonical_abi.specs.declared.trap.TrapKind.{TrapKind}
use Rattle.canonical_abi.proofs.Sessions.TracesOfSameValues.{alike-params, alike-end, alike-broken, alike-unbroken}
use Rattle.canonical_abi.proofs.FlatValues.LoweredIsDenoted.{passes-aligned}
use Rattle.canonical_abi.proofs.Calls.LinkKeepsPromise.{faulty-ran, fails-ran, result-faulty, traps-wait}
use Rattle.canonical_abi.proofs.Calls.CallKeepsPromise.{arguments-same, arguments-stand}
use Rattle.canonical_abi.proofs.ReadValues.ReadsExactly.{one_outcome, denoting-tells}
use Rattle.canonical_abi.proofs.ReadValues.StopsAtFirstFault.{params-denote-fault}

-- ---- one call: what it did to the callee and the body, without the caller

some-one : {A : Type 0} (x y : A) → ◌≡◌ {A = Option A} (Some x) (Some y) → x ≡ y
some-one x y e = cc

not-some : {A : Type 0} (x : A) → ◌≡◌ {A = Option A} None (Some x) → ⊥
not-some x e = absurd (cc)

module _ (allocates : Allocation) (runs : Run) (posts : PostRun) where
  module _ (f : FunctionType) (arguments : List Value) (callee : Memory) (body : List ℕ) where
    -- the callee granted what the arguments ask for, and the body made its run
    pub record Ran (answer : Option (List Flat)) (last : Memory) (left : List ℕ) : Type 0 where
      pub entered : Memory
      pub events : List Event
      pub handed : List Flat
      pub passes : PassesParams max_flat_params f.params arguments events handed
      pub leads : TraceLeads allocates callee events entered
      pub run : runs body entered handed left last answer

    -- the callee had no room for them
    pub record Refused (last : Memory) : Type 0 where
      pub done : List Event
      pub rest : List Event
      pub next : Grant
      pub asked : Memory
      pub kind : TrapKind
      pub handed : List Flat
      pub passes : PassesParams max_flat_params f.params arguments (done ++ grant next ∷ rest) handed
      pub leads : TraceLeads allocates callee done asked
      pub fails : RequestFails allocates asked next.align next.size kind last

    -- the body's answer denotes nothing
    pub record Unlifted (last : Memory) (left : List ℕ) : Type 0 where
      pub answer : List Flat
      pub kind : TrapKind
      pub ran : Ran (Some answer) last left
      pub fault : DenotesFault max_flat_results (result_fields f.result) last.bytes answer kind

    -- it denotes a result, and post-return made its run, to its end or not
    pub record Posted (last : Memory) (left : List ℕ) : Type 0 where
      pub answer : List Flat
      pub values : List Value
      pub mid : Memory
      pub between : List ℕ
      pub ended : Option (Unit {0})
      pub ran : Ran (Some answer) mid between
      pub denoted : Denotes max_flat_results (result_fields f.result) mid.bytes answer values
      pub post : posts between mid answer left last ended

    abbrev Went : Ending → Memory → List ℕ → Type 0
    Went unplaced last left = (last ≡ callee) × (left ≡ body)
    Went unreturned last left = (answer : List Flat) × Ran (Some answer) last left
    Went told last left = (Refused last × (left ≡ body)) ⊎ (Ran None last left ⊎ (Unlifted last left ⊎ Posted last left))

  -- one call after another
  abbrev Chain : List Called → List Ending → Memory → List ℕ → Memory → List ℕ → Type 0
  Chain [] es callee body last left = (last ≡ callee) × (left ≡ body)
  Chain (c ∷ cs) [] callee body last left = ⊥
  Chain (c ∷ cs) (e ∷ es) callee body last left =
      (mid : Memory) × (kept : List ℕ) × Went c.function c.arguments callee body e mid kept × Chain cs es mid kept last left

  module _ (one_way : AllocatesInOneWay allocates) (in_one_way : RunsInOneWay runs posts) where
    module _ (f : FunctionType) (arguments : List Value) (callee : Memory) (body : List ℕ) where
      abbrev AreSame : Memory → Memory → List ℕ → List ℕ → Type 0
      AreSame last final left rest = (last ≡ final) × (left ≡ rest)

      same-ran : (a b : Option (List Flat)) (last final : Memory) (left rest : List ℕ) → Ran f arguments callee body a last left → Ran f arguments callee body b final rest → AreSame last final left rest × (a ≡ b)
      same-ran a b last final left rest w x =
          let entry = alike-end allocates one_way (w.handed ≡ x.handed) w.events x.events callee w.entered x.entered (passes-aligned max_flat_params f.params arguments w.events w.handed w.passes)
          (alike-params max_flat_params f.params arguments w.events x.events w.handed x.handed w.passes x.passes) w.leads x.leads in
          let ran : runs body w.entered w.handed rest final b = subst (λ m. runs body m w.handed rest final b) (sym entry.0) (subst (λ h. runs body x.entered h rest final b) (sym entry.1) x.run) in
          let r = in_one_way.run body left rest w.entered last final w.handed a b w.run ran in
          ((r.1, r.0), r.2)

      same-refused : (last final : Memory) → Refused f arguments callee body last → Refused f arguments callee body final → last ≡ final
      same-refused last final w x =
          alike-broken allocates one_way (w.handed ≡ x.handed) w.done w.rest w.next x.done x.rest x.next callee w.asked x.asked last final w.kind x.kind
          (passes-aligned max_flat_params f.params arguments _ w.handed w.passes) (alike-params max_flat_params f.params arguments _ _ w.handed x.handed w.passes x.passes) w.leads w.fails x.leads x.fails

      not-refused : (last final : Memory) (left : List ℕ) (a : Option (List Flat)) → Refused f arguments callee body last → Ran f arguments callee body a final left → ⊥
      not-refused last final left a w x =
          alike-unbroken allocates one_way (w.handed ≡ x.handed) w.done w.rest w.next x.events callee w.asked last x.entered w.kind
          (passes-aligned max_flat_params f.params arguments _ w.handed w.passes) (alike-params max_flat_params f.params arguments _ _ w.handed x.handed w.passes x.passes) w.leads w.fails x.leads

      not-stopped : (last final : Memory) (left rest : List ℕ) (answer : List Flat) → Ran f arguments callee body None last left → Ran f arguments callee body (Some answer) final rest → ⊥
      not-stopped last final left rest answer w x = not-some answer (same-ran None (Some answer) last final left rest w x).1

      not-unlifted : (last final : Memory) (left rest : List ℕ) → Unlifted f arguments callee body last left → Posted f arguments callee body final rest → ⊥
      not-unlifted last final left rest w x =
          let same = same-ran (Some w.answer) (Some x.answer) last x.mid left x.between w.ran x.ran in
          let here = subst (λ m. DenotesFault max_flat_results (result_fields f.result) m.bytes w.answer w.kind) same.0.0 w.fault in
          let fault = subst (λ a. DenotesFault max_flat_results (result_fields f.result) x.mid.bytes a w.kind) (some-one w.answer x.answer same.1) here in
          (one_outcome (denoting max_flat_results (result_fields f.result) x.mid.bytes x.answer) _ _ (denoting-tells max_flat_results (result_fields f.result) x.mid.bytes x.answer)).not_both x.values w.kind x.denoted fault

      same-posted : (last final : Memory) (left rest : List ℕ) → Posted f arguments callee body last left → Posted f arguments callee body final rest → AreSame last final left rest
      same-posted last final left rest w x =
          let same = same-ran (Some w.answer) (Some x.answer) w.mid x.mid w.between x.between w.ran x.ran in
          let posted : posts w.between w.mid w.answer rest final x.ended =
          subst (λ b. posts b w.mid w.answer rest final x.ended) (sym same.0.1) (subst (λ m. posts x.between m w.answer rest final x.ended) (sym same.0.0)
          (subst (λ l. posts x.between x.mid l rest final x.ended) (sym (some-one w.answer x.answer same.1)) x.post)) in
          let p = in_one_way.post w.between left rest w.mid last final w.answer w.ended x.ended w.post posted in
          (p.1, p.0)

      same-told : (last final : Memory) (left rest : List ℕ) → Went f arguments callee body told last left → Went f arguments callee body told final rest → AreSame last final left rest
      same-told last final left rest (inl w) (inl x) = (same-refused last final w.0 x.0, w.1 ∙ sym x.1)
      same-told last final left rest (inl w) (inr (inl x)) = absurd (not-refused last final rest None w.0 x)
      same-told last final left rest (inl w) (inr (inr (inl x))) = absurd (not-refused last final rest (Some x.answer) w.0 x.ran)
      same-told last final left rest (inl w) (inr (inr (inr x))) = absurd (not-refused last x.mid x.between (Some x.answer) w.0 x.ran)
      same-told last final left rest (inr (inl w)) (inl x) = absurd (not-refused final last left None x.0 w)
      same-told last final left rest (inr (inl w)) (inr (inl x)) = (same-ran None None last final left rest w x).0
      same-told last final left rest (inr (inl w)) (inr (inr (inl x))) = absurd (not-stopped last final left rest x.answer w x.ran)
      same-told last final left rest (inr (inl w)) (inr (inr (inr x))) = absurd (not-stopped last x.mid left x.between x.answer w x.ran)
      same-told last final left rest (inr (inr (inl w))) (inl x) = absurd (not-refused final last left (Some w.answer) x.0 w.ran)
      same-told last final left rest (inr (inr (inl w))) (inr (inl x)) = absurd (not-stopped final last rest left w.answer x w.ran)
      same-told last final left rest (inr (inr (inl w))) (inr (inr (inl x))) = (same-ran (Some w.answer) (Some x.answer) last final left rest w.ran x.ran).0
      same-told last final left rest (inr (inr (inl w))) (inr (inr (inr x))) = absurd (not-unlifted last final left rest w x)
      same-told last final left rest (inr (inr (inr w))) (inl x) = absurd (not-refused final w.mid w.between (Some w.answer) x.0 w.ran)
      same-told last final left rest (inr (inr (inr w))) (inr (inl x)) = absurd (not-stopped final w.mid rest w.between w.answer x w.ran)
      same-told last final left rest (inr (inr (inr w))) (inr (inr (inl x))) = absurd (not-unlifted final last rest left x w)
      same-told last final left rest (inr (inr (inr w))) (inr (inr (inr x))) = same-posted last final left rest w x

      same-went : (e : Ending) (last final : Memory) (left rest : List ℕ) → Went f arguments callee body e last left → Went f arguments callee body e final rest → AreSame last final left rest
      same-went unplaced last final left rest w x = (w.0 ∙ sym x.0, w.1 ∙ sym x.1)
      same-went unreturned last final left rest w x = (same-ran (Some w.0) (Some x.0) last final left rest w.1 x.1).0
      same-went told last final left rest w x = same-told last final left rest w x

    same-chain : (cs : List Called) (es : List Ending) (callee : Memory) (body : List ℕ) (last final : Memory) (left rest : List ℕ) → Chain cs es callee body last left → Chain cs es callee body final rest → (last ≡ final) × (left ≡ rest)
    same-chain [] es callee body last final left rest c d = (c.0 ∙ sym d.0, c.1 ∙ sym d.1)
    same-chain (x ∷ xs) [] callee body last final left rest c d = absurd c
    same-chain (x ∷ xs) (e ∷ es) callee body last final left rest (mid, kept, went, more) (middle, keeps, walked, others) =
        let one = same-went x.function x.arguments callee body e mid middle kept keeps went walked in
        same-chain xs es mid kept last final left rest more (subst (λ m. Chain xs es m kept final rest) (sym one.0) (subst (λ b. Chain xs es middle b final rest) (sym one.1) others))

-- ---- the calls of a run

module _ (parties : Parties) (caller_releases callee_releases : Release) (tame : AreTame parties caller_releases callee_releases) where
  module _ (f : FunctionType) (arguments : List Value) (old : CallState) (standard : IsStandardFunction f) where
    abbrev HasWent : Ending → CallState → Type 0
    HasWent e new = Went parties.callee_allocates parties.runs parties.posts f arguments old.callee old.body e new.callee new.body

    abbrev HasRun : Option (List Flat) → Memory → List ℕ → Type 0
    HasRun answer last left = Ran parties.callee_allocates parties.runs parties.posts f arguments old.callee old.body answer last left

    module _ (flats : List Flat) (area : ℕ) (placed : CallState) (p : Placed parties f arguments old flats area placed) where
      ran-of : (values : List Value) (handed : List Flat) (there : List Event) (entered : CallState) (answer : Option (List Flat)) (new : CallState) → Enters parties f flats placed values handed there entered
          → Runs parties f flats entered handed answer new → HasRun answer new.callee new.body
      ran-of values handed there entered answer new e r =
          let same = arguments-same parties caller_releases callee_releases exact f arguments tame standard old flats area placed p values e.denoted in
          record {
            entered = entered.callee;
            events = there;
            handed = handed;
            passes = subst (λ vs. PassesParams max_flat_params f.params vs there handed) same e.passes;
            leads = subst (λ m. TraceLeads parties.callee_allocates m there entered.callee) p.same_callee e.leads;
            run = subst (λ s. parties.runs s entered.callee handed new.body new.callee answer) (e.same_body ∙ p.same_body) r.run;
          }

      answered-of : (answer : List Flat) (there : List Event) (answered : CallState) → Answered parties f flats placed answer there answered → HasRun (Some answer) answered.callee answered.body
      answered-of answer there answered a = ran-of a.values a.handed there a.entered (Some answer) answered a.enters a.runs

      posted-of : (answer given : List Flat) (ways : Ways) (returned : CallState) (ended : Option (Unit {0})) (new : CallState) → Returned parties f flats placed answer given ways returned → Finishes parties f flats returned answer ended new
          → HasWent told new
      posted-of answer given ways returned ended new r finishes =
          inr (inr (inr (record {
            answer = answer;
            values = r.values;
            mid = r.answered.callee;
            between = r.answered.body;
            ended = ended;
            ran = answered-of answer ways.there r.answered r.answers;
            denoted = r.returns.denoted;
            post = subst (λ s. parties.posts s r.answered.callee answer new.body new.callee ended) r.returns.same_body
                (subst (λ m. parties.posts returned.body m answer new.body new.callee ended) r.returns.same_callee finishes.run);
          })))

      -- the caller's flat values denote the arguments
      no-fault : (k : TrapKind) → IsArgumentFault f flats placed.caller k → ⊥
      no-fault k fault = arguments-stand parties caller_releases callee_releases exact f arguments tame standard old flats area placed p k fault

      refused-of : (k : TrapKind) (done : List Event) (new : CallState) → ArgumentsFail parties exact f flats placed k done new → Refused parties.callee_allocates parties.runs parties.posts f arguments old.callee old.body new.callee
      refused-of k done new (kinds, es, inl (values, handed, denoted, passes), (front, made, rest, next, asked, whole, is, leads, fails), same_done, caller, body) =
          let same = arguments-same parties caller_releases callee_releases exact f arguments tame standard old flats area placed p values denoted in
          record {
            done = front;
            rest = rest;
            next = next;
            asked = asked;
            kind = k;
            handed = handed;
            passes = subst (λ vs. PassesParams max_flat_params f.params vs (front ++ grant next ∷ rest) handed) same (subst (λ l. PassesParams max_flat_params f.params values l handed) whole passes);
            leads = subst (λ m. TraceLeads parties.callee_allocates m front asked) p.same_callee (subst (λ l. TraceLeads parties.callee_allocates placed.callee l asked) is leads);
            fails = fails;
          }
      refused-of k done new (kinds, es, inr (j, until), breaks, same_done, caller, body) =
          absurd (no-fault j (inr (kinds, params-denote-fault max_flat_params f.params _ _ j es until)))

      unlifted-of : (k : TrapKind) (answer : List Flat) (there back : List Event) (answered new : CallState) → Answered parties f flats placed answer there answered → ResultFaulty parties exact f flats answered answer k back new → HasWent told new
      unlifted-of k answer there back answered new a faulty =
          let ran = faulty-ran parties exact f flats answer answered k back new faulty in
          let fault = (result-faulty parties caller_releases callee_releases exact f flats tame answer answered new k back faulty).1 in
          inr (inr (inl (record {
            answer = answer;
            kind = k;
            ran = subst (λ m. HasRun (Some answer) m new.body) (sym ran.0) (subst (λ s. HasRun (Some answer) answered.callee s) (sym ran.1) (answered-of answer there answered a));
            fault = subst (λ m. DenotesFault max_flat_results (result_fields f.result) m.bytes answer k) (sym ran.0) fault;
          })))

      unreturned-of : (k : TrapKind) (answer : List Flat) (there back : List Event) (answered new : CallState) → Answered parties f flats placed answer there answered → ResultFails parties exact f flats answered answer k back new → HasWent unreturned new
      unreturned-of k answer there back answered new a fails =
          let ran = fails-ran parties exact f flats answer answered k back new fails in
          (answer, subst (λ m. HasRun (Some answer) m new.body) (sym ran.0) (subst (λ s. HasRun (Some answer) answered.callee s) (sym ran.1) (answered-of answer there answered a)))

    came-of : (back : List Flat) (area : ℕ) (new : CallState) → CameBack parties f arguments old back area new → HasWent told new
    came-of back area new b = posted-of b.flats area b.placed b.places b.completes.answer back b.ways b.completes.returned (Some tt) new b.completes.returns b.completes.finishes

    trapped-of : (s : Step) (k : TrapKind) (new : CallState) → TypedTraps parties exact f arguments old s k new → HasWent (ending_at s) new
    trapped-of step.Place k new t = (t.same_callee, t.same_body)
    trapped-of step.LiftArgs k new (flats, area, placed, p, ways, t) =
        absurd (no-fault flats area placed p k (traps-wait parties caller_releases callee_releases exact f flats tame placed step.LiftArgs k ways new t tt).1)
    trapped-of step.LowerArgs k new (flats, area, placed, p, ways, t) = inl (refused-of flats area placed p k ways.there new t.0, t.0.6 ∙ p.same_body)
    trapped-of step.Body k new (flats, area, placed, p, ways, (values, handed, entered, is, enters, runs, none)) = inr (inl (ran-of flats area placed p values handed ways.there entered None new enters runs))
    trapped-of step.LiftResult k new (flats, area, placed, p, ways, (answer, answered, a, faulty)) = unlifted-of flats area placed p k answer ways.there ways.back answered new a faulty
    trapped-of step.LowerResult k new (flats, area, placed, p, ways, (answer, answered, a, fails)) = unreturned-of flats area placed p k answer ways.there ways.back answered new a fails
    trapped-of step.Post k new (flats, area, placed, p, ways, (answer, given, returned, is, r, finishes)) = posted-of flats area placed p answer given ways returned None new r finishes
    trapped-of step.Take k new (back, area, b, fault) = came-of back area new b

    went-of : (result : Result (Option Value) Fault) (new : CallState) → TypedCall parties exact f arguments old result new → HasWent (ending_of result) new
    went-of (Ok v) new (back, area, b, has) = came-of back area new b
    went-of (Err (Trap t)) new traps = trapped-of t.step t.kind new traps
    went-of (Err NoMemory) new (inl (flats, area, placed, p, ways, up)) = absurd up
    went-of (Err NoMemory) new (inr (back, area, b)) = came-of back area new b

  abbrev Calls : List Called → List Ending → CallState → CallState → Type 0
  Calls cs es old new = Chain parties.callee_allocates parties.runs parties.posts cs es old.callee old.body new.callee new.body

  from-same : (cs : List Called) (es : List Ending) (old between new : CallState) → between.callee ≡ old.callee → between.body ≡ old.body → Calls cs es between new → Calls cs es old new
  from-same cs es old between new callee body c =
      subst (λ m. Chain parties.callee_allocates parties.runs parties.posts cs es m old.body new.callee new.body) callee
      (subst (λ s. Chain parties.callee_allocates parties.runs parties.posts cs es between.callee s new.callee new.body) body c)

  -- what no call answers tells of none
  not-called : (memory : Memory) (held : Option Held) (answer : SessionAnswer) (rest : List SessionAnswer) → ReadsStep memory held answer → endings_of (answer ∷ rest) ≡ endings_of rest
  not-called memory None answer rest is = ap (λ a. endings_of (a ∷ rest)) is
  not-called memory (Some held) answer rest (result, is, reads) = ap (λ a. endings_of (a ∷ rest)) is

  chain-of : (before : List SessionAnswer) (old : CallState) (steps : List SessionStep) (answers : List SessionAnswer) (new : CallState) → AreStandardSteps steps
      → RunsSession parties caller_releases exact before old steps answers new → Calls (calls_of steps) (endings_of answers) old new
  chain-of before old [] answers new standard run = (ap (λ w. w.callee) run.1, ap (λ w. w.body) run.1)
  chain-of before old (place t v ∷ steps) answers new standard run =
      let told_by : endings_of answers ≡ endings_of run.rest = ap endings_of run.answers_are ∙ ap (λ a. endings_of (a ∷ run.rest)) run.takes.1 in
      subst (λ es. Calls (calls_of steps) es old new) (sym told_by) (from-same (calls_of steps) (endings_of run.rest) old run.between new run.takes.3 run.takes.4 (chain-of (before ++ run.answer ∷ []) run.between steps run.rest new standard run.others))
  chain-of before old (read k ∷ steps) answers new standard run =
      let told_by : endings_of answers ≡ endings_of run.rest = ap endings_of run.answers_are ∙ not-called old.caller _ run.answer run.rest run.takes.1 in
      subst (λ es. Calls (calls_of steps) es old new) (sym told_by)
      (from-same (calls_of steps) (endings_of run.rest) old run.between new (ap (λ w. w.callee) run.takes.0) (ap (λ w. w.body) run.takes.0) (chain-of (before ++ run.answer ∷ []) run.between steps run.rest new standard run.others))
  chain-of before old (release at n ∷ steps) answers new standard run =
      let told_by : endings_of answers ≡ endings_of run.rest = ap endings_of run.answers_are ∙ ap (λ a. endings_of (a ∷ run.rest)) run.takes.1 in
      subst (λ es. Calls (calls_of steps) es old new) (sym told_by) (from-same (calls_of steps) (endings_of run.rest) old run.between new run.takes.3 run.takes.4 (chain-of (before ++ run.answer ∷ []) run.between steps run.rest new standard run.others))
  chain-of before old (call f arguments ∷ steps) answers new standard run =
      let told_by : endings_of answers ≡ ending_of run.takes.0 ∷ endings_of run.rest = ap endings_of run.answers_are ∙ ap (λ a. endings_of (a ∷ run.rest)) run.takes.1 in
      subst (λ es. Calls (calls_of (call f arguments ∷ steps)) es old new) (sym told_by)
      (run.between.callee, run.between.body, went-of f arguments old standard.0 run.takes.0 run.between run.takes.2, chain-of (before ++ run.answer ∷ []) run.between steps run.rest new standard.1 run.others)

module _ (parties : Parties) (other : Allocation) (caller_releases other_releases callee_releases : Release) where
  pub callee-is-told : CalleeIsTold parties other caller_releases other_releases callee_releases
  callee-is-told before earlier old past steps moves answers replies new last tame also one_way in_one_way standard usual run walk calls ends same =
      let A = parties.callee_allocates in
      let one = chain-of parties caller_releases callee_releases tame before old steps answers new standard run in
      let two = chain-of (otherwise parties other caller_releases other_releases callee_releases) other_releases callee_releases also earlier past moves replies last usual walk in
      let there : Chain A parties.runs parties.posts (calls_of steps) (endings_of answers) old.callee old.body last.callee last.body =
      subst (λ cs. Chain A parties.runs parties.posts cs (endings_of answers) old.callee old.body last.callee last.body) (sym calls)
      (subst (λ es. Chain A parties.runs parties.posts (calls_of moves) es old.callee old.body last.callee last.body) (sym ends)
      (subst (λ m. Chain A parties.runs parties.posts (calls_of moves) (endings_of replies) m old.body last.callee last.body) (sym same.callee)
      (subst (λ s. Chain A parties.runs parties.posts (calls_of moves) (endings_of replies) past.callee s last.callee last.body) (sym same.body) two))) in
      let both = same-chain A parties.runs parties.posts one_way in_one_way (calls_of steps) (endings_of answers) old.callee old.body new.callee last.callee new.body last.body one there in
      record { callee = both.0; body = both.1 }
