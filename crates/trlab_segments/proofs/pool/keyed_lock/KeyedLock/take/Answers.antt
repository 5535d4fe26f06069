use Rattle.std.proofs.Common.{rules, Some, ap, sym, ◌∙◌, ◌∷◌}
use Rattle.atomic_table.specs.Table.{rest}
use Rattle.trlab_segments.proofs.Locks.{seizes}
use Rattle.trlab_segments.proofs.pool.keyed_lock.KeyedLock.take.Goals as goal

pub swap_new_seat-found-requires : goal.swap_new_seat-found-requires
swap_new_seat-found-requires g c = (search rules, seizes _ _ c.args.self.now.table.shared.key)

pub exchange-requires : goal.exchange-requires
exchange-requires g c = let t = c.swap_new_seat-found.ensures.1 c.if-found-eq0.true in
    (c.swap_new_seat-found.ensures.0, (Some t.0, t.1 ∙ ap (λ l. (0, Some t.0) ∷ rest l) (sym t.1)))

pub unwrap-value-requires : goal.unwrap-value-requires
unwrap-value-requires g c = search rules
