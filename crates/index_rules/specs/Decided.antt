-- What a decision says of a verdict.
use Rattle.std.specs.Prelude.{◌≡◌, Bool, false, is_some, List, Option, Some, None, Result, Ok}
use Rattle.std.specs.Prelude.{Err, find, length}
use Rattle.std.specs.Option.{option_map_or}
use Rattle.index_digest.specs.Digest.{read_digest, sha256}
use Rattle.index_rules.specs.declared.answer.Refusal.{Refusal}
use Rattle.index_rules.specs.declared.call.Call.{Call}
use Rattle.index_rules.specs.declared.call.Request.{Request}
use Rattle.index_rules.specs.declared.call.Request.TheVariants.{Upload}
use Rattle.index_rules.specs.declared.decision.Decision.{Decision}
use Rattle.index_rules.specs.declared.decision.Decision.TheVariants as decision
use Rattle.index_rules.specs.declared.decision.Stop.{Stop}
use Rattle.index_rules.specs.declared.decision.Stop.TheVariants as stop
use Rattle.index_rules.specs.declared.decision.context.Context.{Context}
use Rattle.index_rules.specs.declared.change.Change.{Change}
use Rattle.index_rules.specs.Projects.{Project}
use Rattle.index_rules.specs.Requests.{upload_of_bytes}
use Rattle.index_rules.specs.Maps.{Bytes, same}
use Rattle.index_rules.specs.Facts.{Facts, facts_seen}
use Rattle.index_rules.specs.Verdict.{Verdict, Accept, AlreadySo, Refuse, applies, verdict_of}
use Rattle.index_rules.specs.Verdict.{verdict_on, file_refusals, is_already, refusals_of}
use Rattle.index_rules.specs.Effect.{effect, the_project, upload_of, with_file}

-- the decision is the verdict, and its change the effect; memory can run out only if the verdict is
-- to accept
abbrev pub Decides : Result Decision Stop → Verdict → Change → Type 0
Decides (Ok decision.Already) verdict effect = verdict ≡ AlreadySo
Decides (Ok (decision.Change change)) verdict effect = (verdict ≡ Accept) × (change ≡ effect)
Decides (Err (stop.Refused refusal)) verdict effect = verdict ≡ Refuse refusal
Decides (Err stop.OutOfMemory) verdict effect = verdict ≡ Accept

-- the decision on a call by these facts
abbrev pub DecidesBy : Call → Facts → Result Decision Stop → Type 0
DecidesBy call facts result =
    Decides result (verdict_on call facts) (effect call.at call.request facts)

-- what an accepted request needs before its change is made: it is found exactly if the verdict is
-- to accept
abbrev pub Finds : {A : Type 0} → Result (Option A) Stop → Verdict → A → Type 0
Finds (Ok None) verdict need = verdict ≡ AlreadySo
Finds (Ok (Some found)) verdict need = (verdict ≡ Accept) × (found ≡ need)
Finds (Err (stop.Refused refusal)) verdict need = verdict ≡ Refuse refusal
Finds (Err stop.OutOfMemory) verdict need = verdict ≡ Accept

-- the verdict by these refusals, on the facts in view
abbrev pub verdict_seen : Context → List Refusal → Request → Verdict
verdict_seen context refusals request =
    let facts = facts_seen context.view.now request in
    verdict_of (find (applies context.at request facts) refusals) (is_already request facts)

-- what an accepted request writes, by the facts in view
abbrev pub effect_seen : Context → Request → Change
effect_seen context request = effect context.at request (facts_seen context.view.now request)

-- the decision on a request whose moment and token are valid
abbrev pub DecidesIn : Context → Request → Result Decision Stop → Type 0
DecidesIn context request result =
    Decides result (verdict_seen context (refusals_of request) request)
    (effect_seen context request)

-- the decision on an upload of these bytes whose parts are valid, whatever text declares their
-- digest
abbrev pub DecidesOnFile : Context → Bytes → Bytes → Bytes → Result Decision Stop → Type 0
DecidesOnFile context file body requires result =
    (declared : Bytes) → read_digest declared ≡ Some (sha256 body)
    → let request = Upload file declared body requires in
    Decides result (verdict_seen context file_refusals request) (effect_seen context request)

-- the project charged for the body of an upload whose parts are valid
abbrev pub FindsProject : Context → Bytes → Result (Option Project) Stop → Type 0
FindsProject context body result =
    (declared : Bytes) → read_digest declared ≡ Some (sha256 body)
    → let request = upload_of_bytes declared body in
    let held = the_project (facts_seen context.view.now request) in
    Finds result (verdict_seen context file_refusals request)
    (with_file context.at (length body) held)

-- the decision accepts the upload to a project that is charged for the file
abbrev pub Uploads : Context → Project → Bytes → Bytes → Bytes → Result Decision Stop → Type 0
Uploads context project file body requires result =
    Decides result Accept (upload_of project file body requires (is_some context.view.now.case))

-- whether the caller opened the case
abbrev pub is_candidate_seen : Context → Bool
is_candidate_seen context =
    option_map_or (λ case. same case.candidate context.caller.now.user) context.view.now.case false
