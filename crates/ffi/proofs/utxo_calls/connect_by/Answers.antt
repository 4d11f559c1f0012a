-- The setting is the one that C's numbers say, with all medians.
use Rattle.std.proofs.Common.{◌≡◌, ℕ, List, inl, inr, refl, sym, ap, subst, ◌∙◌}
use Rattle.rules.specs.Params.{at}
use Rattle.rules.specs.declared.params.Params.{Params}
use Rattle.connect.specs.BlockContext.{Setting}
use Rattle.ffi.specs.Answers.{params_of}
use Rattle.ffi.specs.Utxo.{IsConnectTold, setting_of}
use Rattle.ffi.proofs.utxo_calls.connect_by.Goals as goal

pub returns-in-Ok : goal.returns-in-Ok
returns-in-Ok c =
    let s = c.args.setting.now in
    let by : Params → List ℕ → Setting = λ params medians. record { height = s.height; cutoff = s.cutoff; medians = medians; rules = at params s.height } in
    let same : by c.params-params.result c.args.medians.now ≡ setting_of s = ap (λ (params : Params). by params c.args.medians.now) c.params-params.ensures ∙ ap (λ (medians : List ℕ). by (params_of s.heights) medians) (sym c.requires) in
    subst (λ (x : Setting). IsConnectTold x c.args.block c.args.fault.now c.fault_row.result 0 c.args.utxo.now c.connect.new.self) same
    (inr (inl (
      sym c.lacks_medians.ensures ∙ c.if-lacks_medians.false,
      inl (
        refl,
        record {
          found = c.in-Ok.found;
          fault = c.in-Ok.ensures.fault;
          after_is = c.in-Ok.ensures.after;
          told_is = c.fault_row.ensures;
        },
      ),
    )))
