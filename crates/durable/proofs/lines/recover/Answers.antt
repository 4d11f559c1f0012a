use Rattle.std.proofs.Common.{◌∙◌, sym, ap, subst}
use Rattle.durable.specs.Crash.{file_after}
use Rattle.durable.specs.KeptSteps.{told, KeepsBetween}
use Rattle.durable.specs.Log.{file_of}
use Rattle.durable.proofs.FileCalls.{started}
use Rattle.durable.proofs.CutEnd.{cut_told, cut_between, sync_told, synced_between}
use Rattle.durable.proofs.lines.recover.Goals as goal
use Rattle.durable.proofs.lines.recover.Goals.{then-found-len+in_ok-cut+in_ok-sync, else-found-len}

pub returns-in_err-cut-clause-told : goal.returns-in_err-cut-clause-told
returns-in_err-cut-clause-told g c =
    let u = c.requires in
    let opened = ap file_after u.only_opened in
    let bytes = file_of g.H.Host.calls c.args.host.now in
    cut_told bytes c.args.found.end u.whole u.rest (g.H.Host.calls c.args.host.now) (g.H.Host.calls c.cut.new.self) _ opened c.cut.ensures

pub returns-in_err-cut-clause-any_moment : goal.returns-in_err-cut-clause-any_moment
returns-in_err-cut-clause-any_moment g c =
    let u = c.requires in
    let opened = ap file_after u.only_opened in
    let bytes = file_of g.H.Host.calls c.args.host.now in
    cut_between bytes c.args.found.end u.whole u.rest (g.H.Host.calls c.args.host.now) (g.H.Host.calls c.cut.new.self) _ opened c.cut.ensures

pub returns-in_err-sync-clause-told : goal.returns-in_err-sync-clause-told
returns-in_err-sync-clause-told g c =
    let u = c.requires in
    let opened = ap file_after u.only_opened in
    let bytes = file_of g.H.Host.calls c.args.host.now in
    sync_told bytes c.args.found.end u.whole u.rest (g.H.Host.calls c.args.host.now) (g.H.Host.calls c.cut.new.self) _ opened c.cut.ensures (g.H.Host.calls c.sync.new.self) _ c.sync.ensures

pub returns-in_err-sync-clause-any_moment : goal.returns-in_err-sync-clause-any_moment
returns-in_err-sync-clause-any_moment g c =
    let u = c.requires in
    let opened = ap file_after u.only_opened in
    let bytes = file_of g.H.Host.calls c.args.host.now in
    synced_between bytes c.args.found.end u.whole u.rest (g.H.Host.calls c.args.host.now) (g.H.Host.calls c.cut.new.self) _ opened c.cut.ensures (g.H.Host.calls c.sync.new.self) _ c.sync.ensures

pub returns-clause-told : goal.returns-clause-told
returns-clause-told g c =
    let u = c.requires in
    let opened = ap file_after u.only_opened in
    let bytes = file_of g.H.Host.calls c.args.host.now in
    elim c.if-found-len.branch [
      | then-found-len+in_ok-cut+in_ok-sync w ↦ ap (λ (h : _). told (g.H.Host.calls h)) w.host-is
          ∙ sync_told bytes c.args.found.end u.whole u.rest (g.H.Host.calls c.args.host.now) (g.H.Host.calls w.cut.new.self) _ opened w.cut.ensures (g.H.Host.calls w.sync.new.self) _ w.sync.ensures
      | else-found-len w ↦ ap (λ (h : _). told (g.H.Host.calls h)) w.host-is
    ]

pub returns-clause-any_moment : goal.returns-clause-any_moment
returns-clause-any_moment g c history now =
    let u = c.requires in
    let opened = ap file_after u.only_opened in
    let bytes = file_of g.H.Host.calls c.args.host.now in
    elim c.if-found-len.branch [
      | then-found-len+in_ok-cut+in_ok-sync w ↦ subst (λ (h : _). KeepsBetween history (g.H.Host.calls c.args.host.now) (g.H.Host.calls h)) (sym w.host-is)
          (synced_between bytes c.args.found.end u.whole u.rest (g.H.Host.calls c.args.host.now) (g.H.Host.calls w.cut.new.self) _ opened w.cut.ensures (g.H.Host.calls w.sync.new.self) _ w.sync.ensures history now)
      | else-found-len w ↦ subst (λ (h : _). KeepsBetween history (g.H.Host.calls c.args.host.now) (g.H.Host.calls h)) (sym w.host-is) (started history (g.H.Host.calls c.args.host.now) now)
    ]
