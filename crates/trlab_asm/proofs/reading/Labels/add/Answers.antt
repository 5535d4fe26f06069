use Rattle.std.proofs.{Math.Path.fun_ext, lemmas.Map.Text.btree_map_updates_str}
use Rattle.trlab_asm.proofs.reading.Labels.add.Goals as goal

pub returns : goal.returns
returns c = fun_ext (λ other. btree_map_updates_str c.args.name.now c.args.self.now.pcs c.insert.new.self _ c.in_ok-insert.ensures.updates other)
