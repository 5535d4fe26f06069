-- How the code keeps the results of the first pass: labels in a map, instructions in a vector.
use Rattle.std.specs.{Ordering.nat_cmp, Cmp.Lexicographic.slice_cmp}
use Rattle.std.specs.BTreeMap as tree
use Rattle.trlab_asm.specs.{Reading.Labels, Assembly.Parts, declared.reading.Labels.Labels as Map}
use Rattle.trlab_asm.specs.declared.parts.Parts.{Parts as Lists}

-- the labels that a map keeps: the pc of each name that is one of its keys; `None` for other names
abbrev pub pcs : Map → Labels
pcs map name = tree.get_by (λ key. slice_cmp nat_cmp name key.now) map.pcs

-- the labels and the instructions of the first pass that the code keeps
abbrev pub stored_parts : Lists → Parts
stored_parts lists = record { labels = pcs lists.labels; drafts = lists.drafts.items }
