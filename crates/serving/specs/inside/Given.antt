-- The parameters as the code has them.
use Rattle.std.specs.Prelude.{◌≡◌, ◌⊎◌, ℕ, Option, option_map, ⊤}
use Rattle.json.specs.Json.{Json}
use Rattle.json.specs.Value.{value_view}
use Rattle.serving.specs.declared.params.Params.{Params}
use Rattle.serving.specs.declared.method.Method.{Method}
use Rattle.serving.specs.declared.refusal.Refusal.{Refusal}
use Rattle.serving.specs.declared.refusal.Refusal.TheVariants as refusal
use Rattle.serving.specs.declared.request.Call.{Call}
use Rattle.serving.specs.Requests.{IsCall}

-- the parameters that are given
abbrev pub given : Params → Option Json
given p = option_map (λ v. value_view v.now) p.0

-- a refusal by a parameter
abbrev pub IsParam : Refusal → Type 0
IsParam refusal.Parse = ⊥
IsParam refusal.TooLong = ⊥
IsParam refusal.TooMany = ⊥
IsParam refusal.Request = ⊥
IsParam refusal.Method = ⊥
IsParam (refusal.Param name) = ⊤
IsParam refusal.Memory = ⊥
IsParam refusal.Owed = ⊥
IsParam refusal.Closed = ⊥
IsParam refusal.Unsaved = ⊥
IsParam (refusal.NotSaved why) = ⊥
IsParam refusal.Busy = ⊥
IsParam refusal.HistoryFull = ⊥

-- there was no memory, or a parameter says that no call is meant
abbrev pub IsNoCall : ℕ → Method → Option Json → Refusal → Type 0
IsNoCall seats m params why = (why ≡ refusal.Memory) ⊎ (IsParam why × ((c : Call) → ¬ IsCall seats m params c))
