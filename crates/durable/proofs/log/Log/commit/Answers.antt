use Rattle.std.proofs.Common.{refl}
use Rattle.durable.proofs.Sound.{appended_told, append_between, synced_told, sync_between, committed, committed_same, committed_all}
use Rattle.durable.proofs.log.Log.commit.Goals as goal

pub returns-in_err-append-clause-told : goal.returns-in_err-append-clause-told
returns-in_err-append-clause-told g c = appended_told g.H.Host.calls c.args.self.now c.requires (g.H.Host.calls c.append.new.self) _ c.append.ensures

pub returns-in_err-append-clause-any_moment : goal.returns-in_err-append-clause-any_moment
returns-in_err-append-clause-any_moment g c = append_between g.H.Host.calls c.args.self.now c.requires (g.H.Host.calls c.append.new.self) _ c.append.ensures

pub returns-in_err-sync-clause-told : goal.returns-in_err-sync-clause-told
returns-in_err-sync-clause-told g c =
    synced_told g.H.Host.calls c.args.self.now c.requires (g.H.Host.calls c.append.new.self) (g.H.Host.calls c.sync.new.self) _ _ c.append.ensures c.sync.ensures

pub returns-in_err-sync-clause-any_moment : goal.returns-in_err-sync-clause-any_moment
returns-in_err-sync-clause-any_moment g c =
    sync_between g.H.Host.calls c.args.self.now c.requires (g.H.Host.calls c.append.new.self) (g.H.Host.calls c.sync.new.self) _ _ c.append.ensures c.sync.ensures

pub returns-clause-sound : goal.returns-clause-sound
returns-clause-sound g c =
    committed g.H.Host.calls c.args.self.now c.requires record { host = c.sync.new.self; durable = c.args.self.now.count; count = c.args.self.now.count; pending = c.clear.new.self } (g.H.Host.calls c.append.new.self) c.in_ok-append.ensures c.in_ok-sync.ensures refl refl c.clear.ensures.items

pub returns-clause-same : goal.returns-clause-same
returns-clause-same g c =
    committed_same g.H.Host.calls c.args.self.now c.requires record { host = c.sync.new.self; durable = c.args.self.now.count; count = c.args.self.now.count; pending = c.clear.new.self } (g.H.Host.calls c.append.new.self) c.in_ok-append.ensures c.in_ok-sync.ensures refl refl c.clear.ensures.items

pub returns-clause-all : goal.returns-clause-all
returns-clause-all g c =
    committed_all g.H.Host.calls c.args.self.now c.requires record { host = c.sync.new.self; durable = c.args.self.now.count; count = c.args.self.now.count; pending = c.clear.new.self } (g.H.Host.calls c.append.new.self) c.in_ok-append.ensures c.in_ok-sync.ensures refl refl c.clear.ensures.items

pub returns-clause-told : goal.returns-clause-told
returns-clause-told g c =
    synced_told g.H.Host.calls c.args.self.now c.requires (g.H.Host.calls c.append.new.self) (g.H.Host.calls c.sync.new.self) _ _ c.append.ensures c.sync.ensures

pub returns-clause-any_moment : goal.returns-clause-any_moment
returns-clause-any_moment g c =
    sync_between g.H.Host.calls c.args.self.now c.requires (g.H.Host.calls c.append.new.self) (g.H.Host.calls c.sync.new.self) _ _ c.append.ensures c.sync.ensures
