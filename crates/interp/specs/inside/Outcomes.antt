-- What a call answers that changes what it is called on.
use Rattle.std.specs.Prelude.{◌≡◌, Bool, true, false, Option, Some, None, Result, Ok, Err}
use Rattle.interp.specs.Answer.{Answer, Says, Stops}
use Rattle.interp.specs.computed.NamedFailures.{Named}
use Rattle.interp.specs.declared.script_error.ScriptError.{ScriptError}
use Rattle.interp.specs.declared.no_verdict.Unverified.{Unverified}

-- whether there is an outcome, and which
abbrev pub Gives : {A : Type 0} → Bool → Option A → A → Type 0
Gives true outcome new = outcome ≡ Some new
Gives false outcome new = outcome ≡ None

-- what it leaves, where it says yes
abbrev pub Leaves : {A : Type 0} → Bool → Answer (Option A) → A → Type 0
Leaves true answer new = answer ≡ Says (Some new)
Leaves false answer new = answer ≡ Says None

abbrev pub Goes : {A : Type 0} → Result Bool Unverified → Answer (Option A) → A → Type 0
Goes (Ok done) answer new = Leaves done answer new
Goes (Err stop) answer new = Stops answer stop

-- what it leaves, or the name of its failure
abbrev pub LeavesNamed : {A : Type 0} → Option ScriptError → Named A → A → Type 0
LeavesNamed None answer new = answer ≡ Says (Ok new)
LeavesNamed (Some name) answer new = answer ≡ Says (Err name)

abbrev pub GoesNamed : {A : Type 0} → Result (Option ScriptError) Unverified → Named A → A → Type 0
GoesNamed (Ok failure) answer new = LeavesNamed failure answer new
GoesNamed (Err stop) answer new = Stops answer stop
