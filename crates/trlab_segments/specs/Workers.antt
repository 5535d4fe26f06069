-- The number of workers of a crew and of a pool.
use Rattle.std.specs.Prelude.{ℕ}
use Rattle.trlab_segments.specs.declared.{crew.Crew.Crew, pool.Pool.Pool}

-- the number of workers of a crew; the calling thread is one of them
abbrev pub crew_workers : {R G : Type 0} → Crew R G → ℕ
crew_workers crew = crew.workers

-- the number of workers of a pool; the calling thread is one of them
abbrev pub pool_workers : {R G : Type 0} → Pool R G → ℕ
pool_workers pool = pool.workers
