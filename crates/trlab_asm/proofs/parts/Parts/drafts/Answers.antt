use Rattle.trlab_asm.proofs.parts.Parts.drafts.Goals as goal

pub returns : goal.returns
returns c = record { value = c.deref.ensures.value; at_most_max_instructions = rw c.deref.ensures.value c.args.self.now.at_most_max_instructions }
