-- The points of a sweep text, after the part that they share.
use Rattle.std.proofs.Common.{◌≡◌, ℕ, List, ap, Ok, Err}
use Rattle.trlab_asm.specs.Operands.{map_ok}
use Rattle.trlab_texts.specs.declared.fault.TextFault.{TextFault, TheVariants.{At, Memory}}
use Rattle.trlab_texts.specs.Reading.{Rest, all_lines, Reports}
use Rattle.trlab_jobs.specs.Sweep.{cell_count, all_steps, Setup, Sweep, setup, SweepLinesParseTo}
use Rattle.trlab_jobs.specs.Lines.{counts}

-- the first fault of the points is that of the text
pub counts_fail : (common : Setup) (text : List ℕ) (at after : Rest) (fault : TextFault) → at ≡ all_lines text → setup at (Ok (common, after))
    → Reports {A = List ℕ} (λ says. says ≡ counts (cell_count common.shape) (all_steps common.span) after.number after.left) (Err fault)
    → Reports {A = Sweep} (SweepLinesParseTo text) (Err fault)
counts_fail common text at after (At line cause) begins says told =
    (Ok (common, after), (rw begins at says, ap (map_ok (λ cars. record { setup = common; cars = cars })) told))
counts_fail common text at after Memory begins says told = tt

-- the numbers of cars of the points complete the shared part to a sweep
pub counts_said : (common : Setup) (cars : List ℕ) (text : List ℕ) (at after : Rest) → at ≡ all_lines text → setup at (Ok (common, after))
    → Ok cars ≡ counts (cell_count common.shape) (all_steps common.span) after.number after.left
    → SweepLinesParseTo text (Ok (record { setup = common; cars = cars }))
counts_said common cars text at after begins says counted =
    (Ok (common, after), (rw begins at says, ap (map_ok (λ cars. record { setup = common; cars = cars })) counted))
