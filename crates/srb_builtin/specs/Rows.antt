-- What the rows of the code's table say.
use Rattle.std.specs.Prelude.{List}
use Rattle.srb_terms.specs.declared.fact.Fact.{Fact}
use Rattle.srb_builtin.specs.declared.row.Row.{Row}
use Rattle.srb_builtin.specs.declared.row.Row.TheVariants.{Top, Class, Include, Module, Methods}
use Rattle.srb_builtin.specs.Methods.{methods_in}
use Rattle.srb_builtin.specs.Table.{top, class, includes, a_module}

-- the facts of a row
abbrev pub facts_of_row : Row → List Fact
facts_of_row (Top name) = top name.now
facts_of_row (Class name superclass) = class name.now superclass.now
facts_of_row (Include name mixin) = includes name.now mixin.now
facts_of_row (Module name) = a_module name.now
facts_of_row (Methods owner line) = methods_in owner.now line.now
