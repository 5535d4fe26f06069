use Rattle.std.proofs.Common.{rules, subst, sym}
use Rattle.atomic_table.specs.Table.{Allows}
use Rattle.trlab_segments.{specs.KeyedLocks.SatisfiesLockInvariant, proofs.Locks.releases}
use Rattle.trlab_segments.proofs.pool.keyed_lock.KeyedLock.put_back.Goals as goal

pub store-requires : goal.store-requires
store-requires g c =
    let fits = g.T.Keyed.fits c.args.self.now.table.shared.key in
    let seat = c.exchange.new.seat in
    (search rules, search rules, subst (λ n. Allows (SatisfiesLockInvariant fits) n seat.id seat.me 0 (λ _. 0) (λ _ _. Unit {0})) (sym c.args.self.now.one_slot) (releases fits _ _ _ _ _ c.exchange.ensures.3 c.requires.fits))
