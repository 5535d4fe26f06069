use Rattle.std.{proofs.Common.{◌≡◌, ◌-◌, ◌++◌, flat_map, length}, specs.List.range_with_len}
use Rattle.trlab_code.specs.declared.program.Kind.{Kind}
use Rattle.trlab_verify.specs.Tables.{meaning_at}
use Rattle.trlab_campaign.specs.CheckOutput.{note_line}
use Rattle.trlab_campaign.proofs.note_lines.push_table.Given as goal

abbrev pub invariant-loop-pc : goal.invariant-loop-pc
invariant-loop-pc l = (kind : Kind) → l.out.items ++ flat_map (λ pc. note_line pc (meaning_at kind l.table pc)) (range_with_len l.pc (length l.table - l.pc))
    ≡ l.fn.out.items ++ flat_map (λ pc. note_line pc (meaning_at kind l.table pc)) (range_with_len 0 (length l.table))
