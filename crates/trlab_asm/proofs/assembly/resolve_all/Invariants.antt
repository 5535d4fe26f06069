use Rattle.std.proofs.Common.{◌≡◌, length, drop, All}
use Rattle.trlab_code.specs.Program.{IsInRange}
use Rattle.trlab_asm.{specs.{Stored.pcs, Assembly.second_pass}, proofs.Passes.following}
use Rattle.trlab_asm.proofs.assembly.resolve_all.Given as goal

abbrev pub invariant-loop-line_draft : goal.invariant-loop-line_draft
invariant-loop-line_draft l = record {
  says : following l.instrs.items (second_pass (pcs l.labels) (drop l.line_draft-index l.drafts)) ≡ second_pass (pcs l.labels) l.drafts;
  count : length l.instrs.items ≡ l.line_draft-index;
  in_range : All IsInRange l.instrs.items;
}
