use Rattle.trlab_segments.proofs.pool.task.Task.settle.Goals as goal

pub gather_results-drawer-requires : goal.gather_results-drawer-requires
gather_results-drawer-requires g c = record { results = c.take-found.ensures.results; done = c.requires.done }

pub finish-requires : goal.finish-requires
finish-requires g c = record {
  cut = c.requires.cut;
  lanes = c.take-found.ensures.results.lanes;
  done = rw c.deref.ensures.value (rw c.in-Ok.is at c.gather_results-drawer.ensures);
}
