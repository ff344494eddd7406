-- What a lent part is.
use Rattle.rb_tree.specs.declared.syntax.Tree.{Tree}
use Rattle.srb_references.specs.Readings.{Visit, visit}
use Rattle.srb_references.specs.declared.visit.Visit as lent

abbrev pub seen_visit : lent.Visit → Visit Tree
seen_visit v = visit v.reading v.scope v.tree.now
